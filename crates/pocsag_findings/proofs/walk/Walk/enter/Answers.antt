use Rattle.pocsag_findings.proofs.Prelude.{◌≡◌, ℕ, ◌+◌, ◌++◌, ◌∷◌, [], List, ◌∙◌, ap, sym, Classes, End, Stated, bound_tree_of, stated, found_from, levels_left}
use Rattle.pocsag_findings.proofs.Levels.{level_more, node_taken, none_deeper}
use Rattle.pocsag_findings.proofs.walk.Walk.enter.Goals as goal

pub returns-then-above-self : goal.returns-then-above-self
returns-then-above-self c =
    let k : Classes = c.args.self.now.context.classes.now in
    let end : End = c.args.self.now.context.end in
    let b : ℕ = c.args.self.now.context.batches in
    let depth : ℕ = c.args.self.now.context.depth in
    node_taken k end b depth c.args.place.now (bound_tree_of c.args.tree.now)
    (stated c.in_ok-finding.finding) [] _ c.requires.above c.in_ok-finding.ensures
    (none_deeper k end b depth c.args.place.now.limits (c.args.place.now.above + 1) c.if-above-self.true _ _)

pub returns : goal.returns
returns c =
    let k : Classes = c.args.self.now.context.classes.now in
    let end : End = c.args.self.now.context.end in
    let b : ℕ = c.args.self.now.context.batches in
    let depth : ℕ = c.args.self.now.context.depth in
    let old : List Stated = levels_left k end b depth c.args.self.now.levels.items in
    let below : List Stated = found_from k end b depth c.args.place.now.limits (c.args.place.now.above + 1) c.in_ok-children.children.items in
    let after : levels_left k end b depth c.push.new.self.items ≡ below ++ old =
    ap (levels_left k end b depth) c.in_ok-push.ensures.items ∙ level_more k end b depth c.args.self.now.levels.items _ in
    node_taken k end b depth c.args.place.now (bound_tree_of c.args.tree.now)
    (stated c.in_ok-finding.finding) below old c.requires.above c.in_ok-finding.ensures
    (c.in_ok-children.ensures.found depth (c.args.place.now.above + 1))
    ∙ ap (λ (v : List Stated). stated c.in_ok-finding.finding ∷ v) (sym after)
