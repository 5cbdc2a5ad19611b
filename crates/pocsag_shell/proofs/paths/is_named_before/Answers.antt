use Rattle.pocsag_shell.proofs.Prelude.{◌≡◌, ℕ, ◌<◌, List, [], length, map, get_or, Bor, sym, ◌∙◌, arith, below_more, refl, get_or-map}
use Rattle.std.proofs.lemmas.Slice.Eq.{bytes_eq-Decides}
use Rattle.pocsag_shell.proofs.paths.is_named_before.Goals as goal

abbrev none : Bor (List ℕ)
none = record { ref_ptr = (0, 0); now = [] }

-- the text of the path at a place
text_at : (paths : List (Bor (List ℕ))) (k : ℕ) → k < length paths → get_or (map (λ path. path.now) paths) k [] ≡ (get_or paths k none).now
text_at paths k h = get_or-map (λ (path : Bor (List ℕ)). path.now) paths k none [] h

pub returns-then-eq : goal.returns-then-eq
returns-then-eq c =
    let paths = c.args.paths.now in
    let first = text_at paths c.loop-earlier.earlier (omega arith) in
    let second = text_at paths c.args.place c.requires in
    let same = (bytes_eq-Decides (get_or paths c.loop-earlier.earlier none).now (get_or paths c.args.place none).now).0
    (sym c.eq.ensures ∙ c.if-eq.true) in
    (λ h. record { earlier = c.loop-earlier.earlier; order = c.loop-earlier-test.true; equal = first ∙ (same ∙ sym second) }, λ h. refl)

pub loop-earlier-preserved : goal.loop-earlier-preserved
loop-earlier-preserved c =
    let paths = c.args.paths.now in
    below_more _ _ c.loop-earlier.invariant
    (λ e.
    let first = text_at paths c.loop-earlier.earlier (omega arith) in
    let second = text_at paths c.args.place c.requires in
    let same = (bytes_eq-Decides (get_or paths c.loop-earlier.earlier none).now (get_or paths c.args.place none).now).1
    (sym first ∙ (e ∙ second)) in
    let yes = c.eq.ensures ∙ same in
    let no = c.if-eq.false in
    cc)
