-- How what a crash may leave goes on from call to call of a folder.
use Rattle.pocsag_shell.proofs.Prelude.{◌≡◌, inl, inr, ⊎_elim, ℕ, List, Option, None, rules, refl, arith, sym, ◌∙◌, Ghosts, IsOnDisk, Left, MayGo, MayMove, StepsBy, Stored, on_disk}
use Rattle.std.proofs.Common.{Some}

no_bytes : (bytes : Option (List ℕ)) → on_disk bytes ≡ None → bytes ≡ None
no_bytes None is = refl
no_bytes (Some b) is = search rules

module _ {F : Type 0} (moment : F → ℕ) (left_since : F → ℕ → Left → Type 0) (may_leave : F → Left → Type 0) where
  -- the same by another name
  pub renamed : {old new : F} {Step Other : Left → Left → Type 0} → StepsBy moment left_since may_leave old new Step →
      ((was left : Left) → may_leave old was → Step was left → Other was left) → StepsBy moment left_since may_leave old new Other
  renamed all other = record {
    later = all.later;
    each = λ left since. let h = all.each left since in (h.0, h.1, other h.0 left h.1 h.2);
    before = λ t left le since. ⊎_elim (λ past. inl past) (λ h. inr (h.0, h.1, other h.0 left h.1 h.2)) (all.before t left le since);
  }

  -- a name that goes where no older file stood
  pub gone_back : (old new : F) (from to : List ℕ) (file : Option Stored) → file ≡ None →
      StepsBy moment left_since may_leave old new (MayGo to) → StepsBy moment left_since may_leave old new (MayMove from to file)
  gone_back old new from to file none all = renamed all (λ was left may go. record {
    others = λ other one two. go.others other two;
    there = ⊎_elim (λ same. inl same) (λ gone. inr (λ bytes is. gone ∙ sym (no_bytes bytes (sym is ∙ none)))) go.there;
  })

-- the steps of a folder between two moments
abbrev pub Steps : {F : Type 0} → Ghosts F → (old new : F) → (Left → Left → Type 0) → Type 0
Steps folder = StepsBy folder.moment folder.left_since folder.may_leave

module _ {F : Type 0} (folder : Ghosts F) (is_known : folder.is_known) where
  -- one call behind others
  pub call_more : {old mid new : F} {First Next Both : Left → Left → Type 0} → Steps folder old mid First → Steps folder mid new Next →
      ((was left : Left) → folder.may_leave old was → First was left → Both was left) →
      ((was between left : Left) → folder.may_leave old was → folder.may_leave mid between → First was between → Next between left → Both was left) →
      Steps folder old new Both
  call_more {old = old} {mid = mid} first next alone both =
      let from = λ (between : Left) (may : folder.may_leave mid between). first.each between (folder.counts_now mid (folder.moment old) between is_known first.later may) in
      record {
        later = omega (arith, first.later, next.later);
        each = λ left since. ⊎_elim
            (λ past. let h = first.each left past in (h.0, h.1, alone h.0 left h.1 h.2))
            (λ now. let h = from now.0 now.1 in (h.0, h.1, both h.0 now.0 left h.1 now.1 h.2 now.2))
            (next.before (folder.moment old) left first.later since);
        before = λ t left le since. ⊎_elim
            (λ past. ⊎_elim (λ p. inl p) (λ h. inr (h.0, h.1, alone h.0 left h.1 h.2)) (first.before t left le past))
            (λ now. let h = from now.0 now.1 in inr (h.0, h.1, both h.0 now.0 left h.1 now.1 h.2 now.2))
            (next.before t left (omega (arith, le, first.later)) since);
      }

  -- what is on the disk stays there
  pub still_left : {old new : F} {Step : Left → Left → Type 0} {path : List ℕ} {bytes : Option (List ℕ)} → Steps folder old new Step →
      ((left : Left) → folder.may_leave old left → left path ≡ bytes) → ((was left : Left) → Step was left → left path ≡ was path) →
      (left : Left) → folder.may_leave new left → left path ≡ bytes
  still_left {old = old} {new = new} all first same left now =
      let h = all.each left (folder.counts_now new (folder.moment old) left is_known all.later now) in same h.0 left h.2 ∙ first h.0 h.1

  pub still_on_disk : {old new : F} {Step : Left → Left → Type 0} {path : List ℕ} {bytes : Option (List ℕ)} → Steps folder old new Step →
      IsOnDisk (folder.held old) (folder.may_leave old) path bytes → folder.held new path ≡ folder.held old path →
      ((was left : Left) → Step was left → left path ≡ was path) → IsOnDisk (folder.held new) (folder.may_leave new) path bytes
  still_on_disk all first held same = record { stands = held ∙ first.stands; left = still_left all first.left same }
