use Rattle.pocsag_plan.proofs.Prelude.{◌≡◌, ◌∙◌, ap, drop, length, min, rules, sym, values_of, drop_min}
use Rattle.pocsag_plan.proofs.Edits.{dropped_book, dropped_values}
use Rattle.pocsag_plan.proofs.book.Book.drop_first.Goals as goal

pub invariant_of-self : goal.invariant_of-self
invariant_of-self c =
    let es = c.self.inside.pages.entries in
    let view : c.as_slice-pages.result.now ≡ values_of es = c.as_slice-pages.ensures ∙ c.values.ensures.rest in
    dropped_book es c.drop-gone.new.self.0.entries c.self.inside.for_open c.self.inside.for_closed
    c.discount_first.new.classes c.discount_first-2.new.classes c.min-count.result c.as_slice-pages.result.now c.self.invariant
    (sym view) (c.drop-gone.ensures.kept ∙ c.drain-gone.ensures.kept) c.discount_first.ensures c.discount_first-2.ensures

pub returns : goal.returns
returns c =
    let es = c.self.inside.pages.entries in
    let long : c.len.result ≡ length c.args.self.now = search rules in
    dropped_values es c.drop-gone.new.self.0.entries c.min-count.result c.args.self.now c.self.view_is
    (c.drop-gone.ensures.kept ∙ c.drain-gone.ensures.kept)
    ∙ (ap (λ n. drop n c.args.self.now) (c.min-count.ensures ∙ ap (min c.args.count) long) ∙ drop_min c.args.count c.args.self.now)
