-- The last arc of a transmission that ends whole, or in an idle.
use Rattle.pocsag_slots.proofs.Prelude.{◌≡◌, ℕ, ◌+◌, ◌%◌, ◌<◌, ◌==◌, false, List, [], ◌∷◌, length, arith, nat_tests, Kind, End, EndsIdle, EndsWhole, EndsAs, frame_at, arcs, run_length, class_of, finish_of, Leads, idles, LastIsIdle, LastIsWhole, LastAs, Step, Idle, Address, Message}
use Rattle.pocsag_slots.proofs.CoverLemmas.{finish_below}
use Rattle.pocsag_words.specs.declared.ending.End.TheVariants as ends
use Rattle.pocsag_slots.specs.declared.step.Step.TheVariants.{Idle as Stay, Run}

-- an address codeword alone in the last slot is a late run of class 135
last_class : (i : ℕ) → (i + 1) % 16 ≡ 0 → class_of ends.Closed (frame_at i) 1 ≡ 135
unfolding class_of
last_class i h = omega arith

late_last : (i : ℕ) → (i + 1) % 16 ≡ 0 → (i % 2 == 0) ≡ false
late_last i h = grind (arith, nat_tests)

-- the last of several steps is the last of those behind the first
pub last_behind : (s : Step) (ss : List Step) → LastIsWhole ss → LastIsWhole (s ∷ ss)
last_behind s [] h = absurd h
last_behind s (t ∷ ss) h = h

-- where the arcs go on, they do after the first one
pub ends_whole : (ws : List Kind) (i : ℕ) → (i + length ws) % 16 ≡ 0 → 0 < length ws → EndsWhole ws → LastIsWhole (arcs ends.Closed i ws)
ends_whole [] i h some e = absurd (omega arith)
ends_whole (Idle ∷ []) i h some e = tt
ends_whole (Address high function ∷ []) i h some e =
    let at : (i + 1) % 16 ≡ 0 = omega arith in
    (last_class i at, late_last i at)
ends_whole (Message bits ∷ []) i h some e = absurd e
ends_whole (Idle ∷ (v ∷ ws)) i h some e =
    last_behind Stay (arcs ends.Closed (i + 1) (v ∷ ws)) (ends_whole (v ∷ ws) (i + 1) (omega arith) (omega arith) e)
ends_whole (Address high function ∷ (v ∷ ws)) i h some e =
    last_behind (Run (class_of ends.Closed (frame_at i) (1 + run_length (v ∷ ws))) (i % 2 == 0)) (arcs ends.Closed (i + 1) (v ∷ ws))
    (ends_whole (v ∷ ws) (i + 1) (omega arith) (omega arith) e)
ends_whole (Message bits ∷ (v ∷ ws)) i h some e = ends_whole (v ∷ ws) (i + 1) (omega arith) (omega arith) e

pub idle_behind : (s : Step) (ss : List Step) → LastIsIdle ss → LastIsIdle (s ∷ ss)
idle_behind s [] h = absurd h
idle_behind s (t ∷ ss) h = h

ends_idle : (ws : List Kind) (i : ℕ) → EndsIdle ws → LastIsIdle (arcs ends.Idle i ws)
ends_idle [] i e = absurd e
ends_idle (Idle ∷ []) i e = tt
ends_idle (Address high function ∷ []) i e = absurd cc
ends_idle (Message bits ∷ []) i e = absurd cc
ends_idle (Idle ∷ (v ∷ ws)) i e = idle_behind Stay (arcs ends.Idle (i + 1) (v ∷ ws)) (ends_idle (v ∷ ws) (i + 1) e)
ends_idle (Address high function ∷ (v ∷ ws)) i e =
    idle_behind (Run (class_of ends.Idle (frame_at i) (1 + run_length (v ∷ ws))) (i % 2 == 0)) (arcs ends.Idle (i + 1) (v ∷ ws))
    (ends_idle (v ∷ ws) (i + 1) e)
ends_idle (Message bits ∷ (v ∷ ws)) i e = ends_idle (v ∷ ws) (i + 1) e

-- steps to boundary 0 with an idle last have one in the last slot
pub idles_last : (p : ℕ) (ss : List Step) → p < 16 → Leads p ss 0 → LastIsIdle ss → 0 < idles 15 p ss
idles_last p [] h leads last = absurd last
idles_last p (Stay ∷ []) h leads last = let at : p ≡ 15 = omega arith in rw at (omega arith)
idles_last p (Run c e ∷ []) h leads last = absurd last
idles_last p (Stay ∷ t ∷ ss) h leads last = omega (arith, idles_last ((p + 1) % 16) (t ∷ ss) (omega arith) leads last)
idles_last p (Run c e ∷ t ∷ ss) h leads last = idles_last (finish_of c e) (t ∷ ss) (finish_below c e) leads.1 last

pub ends_as : (end : End) (ws : List Kind) → length ws % 16 ≡ 0 → 0 < length ws → EndsAs end ws → LastAs end (arcs end 0 ws)
ends_as ends.Open ws h some e = tt
ends_as ends.Closed ws h some e = ends_whole ws 0 (omega arith) some e
ends_as ends.Idle ws h some e = ends_idle ws 0 e
