use Rattle.pocsag_centre.proofs.Prelude.{◌≡◌, ◌∙◌, false, sym, ap, is_parted}
use Rattle.pocsag_centre.proofs.AsidePages.{all_planned, nothing_aside}
use Rattle.pocsag_centre.proofs.oversized.part_pages.Goals as goal

pub returns-then-not-is_parted-clause-planned : goal.returns-then-not-is_parted-clause-planned
returns-then-not-is_parted-clause-planned c =
    let none : is_parted c.args.asked c.args.queue.items ≡ false =
    ap (is_parted c.args.asked) (sym c.as_slice.ensures.value) ∙ sym c.is_parted.ensures ∙ c.if-not-is_parted.true in
    sym (all_planned c.args.asked c.args.queue.items none)

pub returns-then-not-is_parted-clause-aside : goal.returns-then-not-is_parted-clause-aside
returns-then-not-is_parted-clause-aside c =
    let none : is_parted c.args.asked c.args.queue.items ≡ false =
    ap (is_parted c.args.asked) (sym c.as_slice.ensures.value) ∙ sym c.is_parted.ensures ∙ c.if-not-is_parted.true in
    c.new-aside.ensures.items ∙ sym (nothing_aside c.args.asked c.args.queue.items none)
