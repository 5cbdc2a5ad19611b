use Rattle.pocsag_journal.proofs.Prelude.{◌≡◌, List, [], ℕ, ◌∷◌, ◌++◌, nat_eq, ap, sym, ◌∙◌, subst, values_of, LruCache, demoted, Page, values_push, MayFollow, may_follow, IsDraft}
use Rattle.pocsag_journal.proofs.Drafts.{grown_draft, grown_entries}
use Rattle.pocsag_journal.proofs.draft.DraftEditable.put.Goals as goal

pub invariant_of-self-2 : goal.invariant_of-self-2
invariant_of-self-2 c =
    let es = c.self.inside.pages.entries in
    let may = subst (λ (ps : List Page). MayFollow ps c.args.page) (sym c.self.view_is) (may_follow c.args.self.now c.args.page (sym c.in-None.ensures)) in
    let grown : c.demote-there.new.self.entries ≡ es ++ (c.args.page.address, c.args.page) ∷ [] =
    ap (λ (m : LruCache ℕ Page). m.entries) c.demote-there.ensures.entries
    ∙ (ap (λ (m : LruCache ℕ Page). demoted (nat_eq c.args.page.address) m.entries) c.in-Ok.ensures.entries
    ∙ grown_entries es c.self.inside.pages.cap c.args.page c.self.invariant may) in
    let room : c.demote-there.new.self.cap ≡ c.self.inside.pages.cap =
    ap (λ (m : LruCache ℕ Page). m.cap) c.demote-there.ensures.entries ∙ ap (λ (m : LruCache ℕ Page). m.cap) c.in-Ok.ensures.entries in
    subst (λ (n : ℕ). IsDraft c.demote-there.new.self.entries n) (sym room)
    (grown_draft es c.demote-there.new.self.entries c.self.inside.pages.cap c.args.page c.self.invariant may grown)

pub returns-clause-added : goal.returns-clause-added
returns-clause-added c =
    let es = c.self.inside.pages.entries in
    let may = subst (λ (ps : List Page). MayFollow ps c.args.page) (sym c.self.view_is) (may_follow c.args.self.now c.args.page (sym c.in-None.ensures)) in
    let grown : c.demote-there.new.self.entries ≡ es ++ (c.args.page.address, c.args.page) ∷ [] =
    ap (λ (m : LruCache ℕ Page). m.entries) c.demote-there.ensures.entries
    ∙ (ap (λ (m : LruCache ℕ Page). demoted (nat_eq c.args.page.address) m.entries) c.in-Ok.ensures.entries
    ∙ grown_entries es c.self.inside.pages.cap c.args.page c.self.invariant may) in
    ap values_of grown
    ∙ (values_push es c.args.page.address c.args.page ∙ ap (λ (ps : List Page). ps ++ c.args.page ∷ []) c.self.view_is)
