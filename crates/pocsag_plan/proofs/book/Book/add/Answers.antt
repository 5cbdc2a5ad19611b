use Rattle.pocsag_plan.proofs.Prelude.{◌≡◌, ◌∷◌, ◌++◌, ℕ, List, [], sym, ap, ◌∙◌, subst, nat_eq, None, lookup, values_of, Open, Closed, Page, add_fault}
use Rattle.indexmap.proofs.CallerLemmas.{insert_entry-new}
use Rattle.pocsag_plan.proofs.Edits.{can_gain, grown_book, not_found, values_push}
use Rattle.pocsag_plan.proofs.Refusals.{MayFollow, may_follow}
use Rattle.pocsag_plan.proofs.book.Book.add.Goals as goal

-- the page may follow the values of the entries
may : (ps qs : List Page) (p : Page) → qs ≡ ps → None ≡ add_fault ps p → MayFollow qs p
may ps qs p view e = subst (λ (rs : List Page). MayFollow rs p) (sym view) (may_follow ps p (sym e))

pub count_page-requires : goal.count_page-requires
count_page-requires c =
    can_gain c.self.inside.for_open Open (values_of c.self.inside.pages.entries) c.args.page c.self.invariant.counted c.self.invariant.good
    (may c.args.self.now (values_of c.self.inside.pages.entries) c.args.page c.self.view_is c.in-None.ensures)

pub count_page-requires-2 : goal.count_page-requires-2
count_page-requires-2 c =
    can_gain c.self.inside.for_closed Closed (values_of c.self.inside.pages.entries) c.args.page c.self.invariant.counted_closed
    c.self.invariant.good
    (may c.args.self.now (values_of c.self.inside.pages.entries) c.args.page c.self.view_is c.in-None.ensures)

pub invariant_of-self-2 : goal.invariant_of-self-2
invariant_of-self-2 c =
    let follows = may c.args.self.now (values_of c.self.inside.pages.entries) c.args.page c.self.view_is c.in-None.ensures in
    let absent : lookup (nat_eq c.args.page.address) c.reserve.new.self.entries ≡ None =
    subst (λ (es : List (ℕ × Page)). lookup (nat_eq c.args.page.address) es ≡ None) (sym c.in-Ok.ensures.entries)
    (not_found c.args.page.address c.self.inside.pages.entries c.self.invariant.keyed follows.another) in
    let entries = rw c.unwrap-new.ensures at c.insert.ensures.entries in
    let grown : c.insert.new.self.entries ≡ c.self.inside.pages.entries ++ (c.args.page.address, c.args.page) ∷ [] =
    entries ∙ (insert_entry-new nat_eq c.reserve.new.self c.args.page.address c.args.page absent
    ∙ ap (λ (es : List (ℕ × Page)). es ++ (c.args.page.address, c.args.page) ∷ []) c.in-Ok.ensures.entries) in
    grown_book c.self.inside.pages.entries c.insert.new.self.entries c.self.inside.for_open c.self.inside.for_closed
    c.count_page.new.classes c.count_page-2.new.classes
    c.args.page c.self.invariant follows grown c.count_page.ensures c.count_page-2.ensures

pub returns-clause-added : goal.returns-clause-added
returns-clause-added c =
    let follows = may c.args.self.now (values_of c.self.inside.pages.entries) c.args.page c.self.view_is c.in-None.ensures in
    let absent : lookup (nat_eq c.args.page.address) c.reserve.new.self.entries ≡ None =
    subst (λ (es : List (ℕ × Page)). lookup (nat_eq c.args.page.address) es ≡ None) (sym c.in-Ok.ensures.entries)
    (not_found c.args.page.address c.self.inside.pages.entries c.self.invariant.keyed follows.another) in
    let entries = rw c.unwrap-new.ensures at c.insert.ensures.entries in
    let grown : c.insert.new.self.entries ≡ c.self.inside.pages.entries ++ (c.args.page.address, c.args.page) ∷ [] =
    entries ∙ (insert_entry-new nat_eq c.reserve.new.self c.args.page.address c.args.page absent
    ∙ ap (λ (es : List (ℕ × Page)). es ++ (c.args.page.address, c.args.page) ∷ []) c.in-Ok.ensures.entries) in
    ap values_of grown ∙ (values_push c.self.inside.pages.entries c.args.page.address c.args.page ∙ ap
    (λ (ps : List Page). ps ++ c.args.page ∷ []) c.self.view_is)
