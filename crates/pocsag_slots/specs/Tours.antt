-- *Tour*: a list of arcs, each starting where the one before ended, that uses each run once and fills
-- the batches with idles.
use Rattle.std.specs.Prelude.{◌≡◌, ℕ, ◌+◌, ◌%◌, ◌^◌, ◌<◌, ◌≤◌, ◌==◌, Bool, true, false, cond, List, [], ◌∷◌, slice_index}
use Rattle.pocsag_words.specs.declared.ending.End.{End}
use Rattle.pocsag_words.specs.declared.ending.End.TheVariants as ends
use Rattle.pocsag_pages.specs.declared.page.Page.{Page}
use Rattle.pocsag_slots.specs.declared.class.Classes.{Classes}
use Rattle.pocsag_slots.specs.declared.step.Step.{Step}
use Rattle.pocsag_slots.specs.declared.step.Step.TheVariants.{Idle as Stay, Run}
use Rattle.pocsag_slots.specs.Arcs.{runs}
use Rattle.pocsag_slots.specs.Loads.{load, AreClassesOf}
use Rattle.pocsag_slots.specs.Classes.{class_count, last_class, slot_count, start_of, finish_of}

-- The arcs lead from boundary p to boundary q, each starting where the one before ended.
abbrev pub Leads : ℕ → List Step → ℕ → Type 0
Leads p [] q = p ≡ q
Leads p (Stay ∷ ss) q = Leads ((p + 1) % slot_count) ss q
Leads p (Run c e ∷ ss) q = (p ≡ start_of c e) × Leads (finish_of c e) ss q

-- How many idles stand in the slot, where the arcs start at boundary p.
abbrev pub idles : ℕ → ℕ → List Step → ℕ
idles slot p [] = 0
idles slot p (Stay ∷ ss) = cond (p == slot) 1 0 + idles slot ((p + 1) % slot_count) ss
idles slot p (Run c e ∷ ss) = idles slot (finish_of c e) ss

-- The last arc is an idle or a late run of the last class, an address codeword alone in the last slot.
abbrev pub LastIsWhole : List Step → Type 0
LastIsWhole [] = ⊥
LastIsWhole (Stay ∷ []) = Unit {0}
LastIsWhole (Run c e ∷ []) = (c ≡ last_class) × (e ≡ false)
LastIsWhole (s ∷ t ∷ ss) = LastIsWhole (t ∷ ss)

-- The last arc is an idle.
abbrev pub LastIsIdle : List Step → Type 0
LastIsIdle [] = ⊥
LastIsIdle (Stay ∷ []) = Unit {0}
LastIsIdle (Run c e ∷ []) = ⊥
LastIsIdle (s ∷ t ∷ ss) = LastIsIdle (t ∷ ss)

abbrev pub LastAs : End → List Step → Type 0
LastAs ends.Open ss = Unit {0}
LastAs ends.Closed ss = LastIsWhole ss
LastAs ends.Idle ss = LastIsIdle ss

-- The end asks for something of the last codeword.
abbrev pub AsksForLast : End → Type 0
AsksForLast ends.Open = ⊥
AsksForLast ends.Closed = Unit {0}
AsksForLast ends.Idle = Unit {0}

-- *Tour* of a choice with so many batches, for an end, from boundary 0 to boundary 0.
pub record IsTour (k : Classes) (end : End) (choice : ℕ → ℕ) (batches : ℕ) (steps : List Step) : Type 0 where
  pub leads : Leads 0 steps 0
  pub early : (c : ℕ) → c < class_count → runs c true steps ≡ choice c
  pub late : (c : ℕ) → c < class_count → runs c false steps + choice c ≡ slice_index k.count c
  pub no_other : (c : ℕ) (e : Bool) → class_count ≤ c → runs c e steps ≡ 0
  pub idle : (slot : ℕ) → slot < slot_count → idles slot 0 steps + load k choice slot ≡ batches
  pub last : LastAs end steps

-- The steps are a tour of some choice for the round and the end; the number of batches is one of 32 bits
-- (this project's own limit).
pub record IsTourFor (end : End) (R : List Page) (steps : List Step) : Type 0 where
  pub table : Classes
  pub choice : ℕ → ℕ
  pub batches : ℕ
  pub some : 0 < batches
  pub few : batches < 2 ^ 32
  pub classes : AreClassesOf table end R
  pub tour : IsTour table end choice batches steps
