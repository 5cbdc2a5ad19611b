use Rattle.pocsag_receiver.proofs.Prelude.{rules, ◌≡◌, ◌∷◌, ◌++◌, [], List, ℕ, ap, ap₂, ◌∙◌, append_assoc, members_of}
use Rattle.json.specs.Print.{print}
use Rattle.json.specs.Token.{Token}
use Rattle.pocsag_receiver.proofs.form.VecU8Waiting.put.Goals as goal

pub returns-clause-text : goal.returns-clause-text
returns-clause-text c =
    let begun = c.in_ok-begun.ensures in
    let marked = c.in_ok-writer.ensures in
    let closed = c.in_ok-end_object.ensures in
    let lines : c.replace-lines.result.items ≡ c.args.self.now.items = search rules in
    let whole = c.into_inner.ensures.items
    ∙ ap₂ (λ (l : List ℕ) (ts : List Token). l ++ print ts) (closed.room.0 ∙ (marked.before ∙ (begun.before ∙ lines)))
    (closed.ok ∙ (marked.marked ∙ begun.begun (members_of c.args.row.now.mark))) in
    c.in_ok-push.ensures.items ∙ ap (λ (l : List ℕ). l ++ 10 ∷ []) whole ∙ append_assoc c.args.self.now.items _ (10 ∷ [])
