-- Segments of a walk: the arcs that it takes next, many times at once where they lead back. This project's own.
use Rattle.std.specs.Prelude.{◌≡◌, ◌≢◌, ℕ, ◌+◌, ◌*◌, ◌<◌, ◌≤◌, ◌==◌, List, [], ◌∷◌, count_by}
use Rattle.pocsag_tour.specs.Moves.{arc_at, arc_to, IsDeparture}

-- How often an arc stands among arcs.
unfoldable pub often : ℕ → List ℕ → ℕ
often a arcs = count_by (λ b. a == b) arcs

-- The arcs lead from one boundary to another, and each may be taken next by what is left.
abbrev pub IsPath : (left exits : ℕ → ℕ) (p : ℕ) (arcs : List ℕ) (q : ℕ) → Type 0
IsPath left exits p [] q = p ≡ q
IsPath left exits p (a ∷ arcs) q = IsDeparture left (exits p) p a × IsPath left exits (arc_to a) arcs q

-- All of these arcs can be taken so many times, more than once only where they lead back.
pub record IsSegment (left exits : ℕ → ℕ) (p : ℕ) (arcs : List ℕ) (times q : ℕ) : Type 0 where
  pub path : IsPath left exits p arcs q
  pub enough : (a : ℕ) → times * often a arcs ≤ left a
  pub some : 1 ≤ times
  pub back : times ≢ 1 → q ≡ p

-- What is left when these arcs were taken so many times.
abbrev pub AreTaken : (times : ℕ) (arcs : List ℕ) (left less : ℕ → ℕ) → Type 0
AreTaken times arcs left less = (a : ℕ) → less a + times * often a arcs ≡ left a

-- Of the kinds of arc at a boundary none before this one is left, its last exit aside; and so at each boundary.
abbrev pub IsPassed : (left : ℕ → ℕ) (exit p kind : ℕ) → Type 0
IsPassed left exit p kind = (j : ℕ) → j < kind → arc_at p j ≢ exit → left (arc_at p j) ≡ 0

abbrev pub ArePassed : (left exits kinds : ℕ → ℕ) → Type 0
ArePassed left exits kinds = (p : ℕ) → p < 16 → IsPassed left (exits p) p (kinds p)
