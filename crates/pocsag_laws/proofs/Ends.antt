-- The ends beside one another.
use Rattle.pocsag_laws.proofs.Prelude.{◌≡◌, ◌-◌, ◌≤◌, ℕ, zero, suc, ◌+◌, List, [], ◌∷◌, ◌++◌, map, replicate, refl, sym, ap, subst, ◌∙◌, arith, append_assoc, length-append, append_snoc, append-nil, map-append, All-append, All-replicate, IsCodeword, idle_word, kind_of, Kind, Idle, Address, Message, End, IsCodeword-idle, Page, BeginsNoMessage, EndsIdle, EndsWhole, IsLegalFor, IsLegalList, Reads, at_end, past_idle, past_page}
use Rattle.pocsag_words.specs.declared.ending.End.TheVariants as ends

-- an idle codeword is no message codeword
whole_from_idle : (ws : List Kind) → EndsIdle ws → EndsWhole ws
whole_from_idle [] e = absurd e
whole_from_idle (w ∷ []) e = subst (λ (v : Kind). BeginsNoMessage (v ∷ [])) (sym e) tt
whole_from_idle (w ∷ v ∷ ws) e = whole_from_idle (v ∷ ws) e

pub closed_from_idle : (T : List ℕ) (b : ℕ) (R : List Page) → IsLegalList ends.Idle T b R → IsLegalList ends.Closed T b R
closed_from_idle T b R legal = (legal.0, (legal.1.0, whole_from_idle (map kind_of T) legal.1.1))

open_from : (end : End) (T : List ℕ) (b : ℕ) (R : List Page) → IsLegalList end T b R → IsLegalList ends.Open T b R
open_from end T b R legal = (legal.0, (legal.1.0, tt))

pub open_from_closed : (T : List ℕ) (b : ℕ) (R : List Page) → IsLegalList ends.Closed T b R → IsLegalList ends.Open T b R
open_from_closed T b R legal = open_from ends.Closed T b R legal

-- idle codewords behind codewords, one by one
begins_longer : (ws : List Kind) → BeginsNoMessage ws → BeginsNoMessage (ws ++ Idle ∷ [])
begins_longer [] b = tt
begins_longer (Idle ∷ ws) b = tt
begins_longer (Address high function ∷ ws) b = tt
begins_longer (Message bits ∷ ws) b = absurd b

idle_behind : {ws : List Kind} {i : ℕ} {ps : List Page} → Reads ws i ps → Reads (ws ++ Idle ∷ []) i ps
idle_behind at_end = past_idle at_end
idle_behind (past_idle r) = past_idle (idle_behind r)
idle_behind (past_page items rest e b r) =
    past_page items (rest ++ Idle ∷ [])
    (ap (λ v. v ++ Idle ∷ []) e ∙ append_assoc (map Message items) rest (Idle ∷ [])) (begins_longer rest b) (idle_behind r)

idles_behind : (n : ℕ) (ws : List Kind) (i : ℕ) (ps : List Page) → Reads ws i ps → Reads (ws ++ replicate n Idle) i ps
idles_behind zero ws i ps r = subst (λ (v : List Kind). Reads v i ps) (sym (append-nil ws)) r
idles_behind (suc n) ws i ps r =
    subst (λ (v : List Kind). Reads v i ps) (append_snoc ws Idle (replicate n Idle)) (idles_behind n (ws ++ Idle ∷ []) i ps (idle_behind r))

idle_last : (ws : List Kind) (n : ℕ) → EndsIdle (ws ++ replicate (suc n) Idle)
idle_last [] zero = refl
idle_last [] (suc n) = idle_last [] n
idle_last (w ∷ []) n = idle_last [] n
idle_last (w ∷ v ∷ ws) n = idle_last (v ∷ ws) n

-- a batch of idle codewords more
longer_kinds : (ws : List Kind) (b : ℕ) (R : List Page) → IsLegalFor ends.Open ws b R → IsLegalFor ends.Idle (ws ++ replicate 16 Idle) (b + 1) R
longer_kinds ws b R legal =
    let was = legal.0 in (
      record {
        whole = (omega arith, omega (arith, was.whole.1, length-append ws (replicate 16 Idle)));
        ps = was.ps;
        reads = idles_behind 16 ws 0 was.ps was.reads;
        as_many = was.as_many;
        each = was.each;
      },
      idle_last ws 15,
    )

pub idle_from_open : (T : List ℕ) (b : ℕ) (R : List Page) → IsLegalList ends.Open T b R →
    IsLegalList ends.Idle (T ++ replicate 16 idle_word) (b + 1) R
idle_from_open T b R legal = (
  All-append IsCodeword T (replicate 16 idle_word) legal.0 (All-replicate IsCodeword 16 idle_word IsCodeword-idle),
  subst (λ (v : List Kind). IsLegalFor ends.Idle v (b + 1) R) (sym (map-append kind_of T (replicate 16 idle_word)))
      (longer_kinds (map kind_of T) b R legal.1),
)

-- with a batch of idle codewords more, each end is met
longer_with : (end : End) (T : List ℕ) (b : ℕ) (R : List Page) → IsLegalList ends.Open T b R →
    IsLegalList end (T ++ replicate 16 idle_word) (b + 1) R
longer_with ends.Open T b R legal = open_from_closed _ _ R (closed_from_idle _ _ R (idle_from_open T b R legal))
longer_with ends.Closed T b R legal = closed_from_idle _ _ R (idle_from_open T b R legal)
longer_with ends.Idle T b R legal = idle_from_open T b R legal

pub longer : (one other : End) (T : List ℕ) (b : ℕ) (R : List Page) → IsLegalList one T b R →
    IsLegalList other (T ++ replicate 16 idle_word) (b + 1) R
longer one other T b R legal = longer_with other T b R (open_from one T b R legal)

more_by : (end : End) (n : ℕ) (T : List ℕ) (a : ℕ) (R : List Page) → IsLegalList end T a R → (U : List ℕ) × IsLegalList end U (n + a) R
more_by end zero T a R legal = let same : a ≡ 0 + a = omega arith in (T, subst (λ m. IsLegalList end T m R) same legal)
more_by end (suc n) T a R legal =
    let same : n + (a + 1) ≡ suc n + a = omega arith in
    let more = more_by end n (T ++ replicate 16 idle_word) (a + 1) R (longer end end T a R legal) in
    (more.0, subst (λ m. IsLegalList end more.0 m R) same more.1)

pub more_batches : (end : End) (T : List ℕ) (a b : ℕ) (R : List Page) → a ≤ b → IsLegalList end T a R → (U : List ℕ) × IsLegalList end U b R
more_batches end T a b R h legal =
    let same : (b - a) + a ≡ b = omega arith in
    let more = more_by end (b - a) T a R legal in
    (more.0, subst (λ m. IsLegalList end more.0 m R) same more.1)
