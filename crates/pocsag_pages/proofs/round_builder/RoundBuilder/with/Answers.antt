use Rattle.pocsag_pages.proofs.Prelude.{◌≡◌, ◌∙◌, false, sym, ap, has_address}
use Rattle.pocsag_pages.proofs.GrownRounds.{good_push}
use Rattle.pocsag_pages.proofs.MarkedRounds.{marks_push}
use Rattle.pocsag_pages.proofs.round_builder.RoundBuilder.with.Goals as goal
use Rattle.pocsag_pages.proofs.round_builder.RoundBuilder.with.Goals.{in-Some, in-None, in-None-2+in_ok-marking_all-in-None-2}

pub invariant_of-result : goal.invariant_of-result
invariant_of-result c =
    let pages = c.self.inside.pages.items in
    let page = c.args.page in
    let another : has_address pages page.address ≡ false =
    ap (λ ps. has_address ps page.address) c.self.view_is ∙ sym c.has.ensures ∙ c.if-has.false in
    rw c.in_ok-push.ensures.items (record {
      good = good_push pages page c.self.invariant.good c.requires.good another;
      marked = elim c.match-marks-2.branch [
        | in-Some w ↦
            rw w.marks-is (marks_push pages page w.in-Some.marks w.set_mark.new.self (rw w.in-Some.is at c.self.invariant.marked) w.set_mark.ensures)
        | in-None w ↦ rw w.marks-is tt
        | in-None-2+in_ok-marking_all-in-None-2 w ↦
            rw w.marks-is
            (λ a. w.in_ok-marking_all-in-None-2.ensures a ∙ ap (λ ps. has_address ps a) (w.as_slice.ensures.value ∙ c.in_ok-push.ensures.items))
      ];
    })
