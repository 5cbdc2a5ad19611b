use Rattle.pocsag_decode.proofs.Prelude.{rules, ◌≡◌, ◌∷◌, [], ◌++◌, List, ℕ, ap, ◌∙◌, append_assoc, arith, text_in}
use Rattle.pocsag_decode.proofs.Prefixes.{after_fault, took_on}
use Rattle.pocsag_decode.proofs.listing.write_all_but_last.Goals as goal

pub returns-in_err-write_all-clause-part : goal.returns-in_err-write_all-clause-part
returns-in_err-write_all-clause-part g c = λ is_known.
    let before = g.S.Sink.taken c.args.sink.now in
    let text : text_in c.args.writer.now ≡ c.in-Ok.records.items = search rules in
    let front : c.in-Ok.records.items ≡ c.pop.new.self.items ++ c.in-Some.last ∷ [] = search rules in
    let took = (c.in_err-write_all.ensures.delivers is_known).1 in
    after_fault c.from_residual.result
    (took_on before before (g.S.Sink.taken c.write_all.new.sink) c.pop.new.self.items (c.in-Some.last ∷ []) (text_in c.args.writer.now)
    (omega arith) (ap (λ (l : List ℕ). before ++ l) (text ∙ front)) (rw c.as_slice.ensures.value at took))

pub returns-clause-told : goal.returns-clause-told
returns-clause-told g c = λ is_known.
    let before = g.S.Sink.taken c.args.sink.now in
    let text : text_in c.args.writer.now ≡ c.in-Ok.records.items = search rules in
    let front : c.in-Ok.records.items ≡ c.pop.new.self.items ++ c.in-Some.last ∷ [] = search rules in
    let kept : text_in c.from_writer-2.result ≡ c.in-Some.last ∷ [] = search rules in
    let written : g.S.Sink.taken c.write_all.new.sink ≡ before ++ c.pop.new.self.items =
    (c.in_ok-write_all.ensures.delivers is_known).0 ∙ ap (λ (l : List ℕ). before ++ l) c.as_slice.ensures.value in
    rw (kept, written, text, front) (append_assoc before c.pop.new.self.items (c.in-Some.last ∷ []))
