use Rattle.pocsag_journal.proofs.Prelude.{List, ℕ, false, ap, sym, ◌∙◌, subst, is_some, LruCache, Page, rest_is, there_is, was_there, nothing_out, takes_out}
use Rattle.std.proofs.Common.{Contains}
use Rattle.pocsag_journal.proofs.Drafts.{shrunk_draft}
use Rattle.pocsag_journal.proofs.draft.DraftEditable.take_out.Goals as goal
use Rattle.pocsag_journal.proofs.draft.DraftEditable.take_out.Goals.{in-Some, in-None}

pub invariant_of-self : goal.invariant_of-self
invariant_of-self c =
    rw c.pop.ensures.entries (shrunk_draft c.self.inside.pages.entries c.self.inside.pages.cap c.args.address c.self.invariant)

pub returns-clause-rest : goal.returns-clause-rest
returns-clause-rest c =
    let left = rest_is c.self.inside.pages.entries c.pop.new.self.entries c.args.self.now c.args.address c.self.invariant.keyed
    c.self.invariant.good c.self.view_is (ap (λ (m : LruCache ℕ Page). m.entries) c.pop.ensures.entries) in
    elim c.match-pop.branch [
      | in-Some w ↦ rw w.result-is left
      | in-None w ↦ rw w.result-is tt
    ]

pub returns-clause-taken : goal.returns-clause-taken
returns-clause-taken c = elim c.match-pop.branch [
  | in-Some w ↦
      let out = takes_out c.args.address c.self.inside.pages.entries w.in-Some.page c.self.invariant.keyed (sym w.in-Some.ensures.value) in
      let among : Contains c.args.self.now w.in-Some.page =
      subst (λ (ps : List Page). Contains ps w.in-Some.page) (sym out.was ∙ c.self.view_is) (was_there out.before out.after w.in-Some.page) in
      rw w.result-is (among, out.its)
  | in-None w ↦ rw w.result-is tt
]

pub returns-clause-not_there : goal.returns-clause-not_there
returns-clause-not_there c = elim c.match-pop.branch [
  | in-Some w ↦ rw w.result-is tt
  | in-None w ↦
      rw w.result-is (there_is c.args.address c.self.inside.pages.entries c.args.self.now false c.self.invariant.keyed c.self.view_is
      (ap is_some w.in-None.ensures.value))
]

pub returns-clause-unchanged : goal.returns-clause-unchanged
returns-clause-unchanged c =
    let left = rest_is c.self.inside.pages.entries c.pop.new.self.entries c.args.self.now c.args.address c.self.invariant.keyed
    c.self.invariant.good c.self.view_is (ap (λ (m : LruCache ℕ Page). m.entries) c.pop.ensures.entries) in
    elim c.match-pop.branch [
      | in-Some w ↦ rw w.result-is tt
      | in-None w ↦
          rw w.result-is (left ∙ nothing_out c.args.address c.args.self.now
          (there_is c.args.address c.self.inside.pages.entries c.args.self.now false c.self.invariant.keyed c.self.view_is
          (ap is_some w.in-None.ensures.value)))
    ]
