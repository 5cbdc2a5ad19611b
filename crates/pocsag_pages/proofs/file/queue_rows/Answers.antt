use Rattle.pocsag_pages.proofs.Prelude.{◌≡◌, ◌∙◌, ◌∷◌, [], ◌++◌, length, inl, inr, true, refl, sym, ap, arith, rules, length-append, All-nil, All-push, Err, None, page_fault_of}
use Rattle.pocsag_pages.proofs.Judgements.{grown, grown_end, grown_fault, grown_on, is_room, judged, no_queue, one_page_of, some_queue}
use Rattle.pocsag_pages.proofs.file.queue_rows.Goals as goal

pub loop-row-init : goal.loop-row-init
loop-row-init c = rw c.new-pages.ensures.items (record {
  few = omega arith;
  each = All-nil _;
  rest = judged true _;
})

pub returns-then-is_empty-clause-err : goal.returns-then-is_empty-clause-err
returns-then-is_empty-clause-err c =
    let over = c.loop-row.invariant.rest ∙ rw (c.in_ok-found.ensures.none c.if-not-found.true) (grown_end true c.loop-row.pages.items (length c.loop-row.pages.items)) in
    let none : length c.loop-row.pages.items ≡ 0 = search rules in
    inr (over ∙ no_queue c.loop-row.pages.items none)

pub returns-then-not-found-clause-ok : goal.returns-then-not-found-clause-ok
returns-then-not-found-clause-ok c =
    let over = c.loop-row.invariant.rest ∙ rw (c.in_ok-found.ensures.none c.if-not-found.true) (grown_end true c.loop-row.pages.items _) in
    over ∙ some_queue c.loop-row.pages.items (search rules)

pub returns-in-Err-clause-err : goal.returns-in-Err-clause-err
returns-in-Err-clause-err c =
    let long : c.len.result ≡ length c.loop-row.pages.items = search rules in
    elim c.in-Err.ensures.err [
      | inl e ↦ inl e
      | inr f ↦
          inr
          (c.loop-row.invariant.rest
          ∙ rw (c.in_ok-found.ensures.found c.if-not-found.false)
          (grown_fault true c.loop-row.pages.items (length c.loop-row.pages.items) _ _ f.0 (rw long at f.1) ∙ ap Err (sym (rw long at f.2))))
    ]

pub loop-row-preserved : goal.loop-row-preserved
loop-row-preserved c =
    let ps = c.loop-row.pages.items in
    let p = c.in-Ok.page in
    let fine = c.in-Ok.ensures in
    let pushed : c.push.new.self.items ≡ ps ++ p ∷ [] = search rules in
    let long : c.len.result ≡ length ps = search rules in
    let few = rw long at fine.few in
    rw pushed (record {
      few = omega (arith, length-append ps (p ∷ []), few);
      each = All-push (λ q. page_fault_of q ≡ None) ps p c.loop-row.invariant.each fine.good;
      rest =
          c.loop-row.invariant.rest
          ∙ rw (c.in_ok-found.ensures.found c.if-not-found.false)
          (grown_on true ps (length ps) _ _ (rw fine.page (is_room (length ps) [] p refl few))
          ∙ rw (one_page_of _ p fine.page) (ap (λ n. grown true (ps ++ p ∷ []) n c.read.new.self) (sym (length-append ps (p ∷ [])))));
    })
