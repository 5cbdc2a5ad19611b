-- What was seen of a line, byte by byte.
use Rattle.pocsag_open.proofs.Prelude.{◌≡◌, ◌≢◌, ℕ, List, [], ◌∷◌, ◌++◌, ◌<◌, length, refl, sym, ap, inl, inr, ◌∙◌, arith, append_assoc, length_push, line_feed, HasNoLineFeed, IsByteKept, IsLineFound, IsSeen}
use Rattle.std.proofs.lemmas.List.{append-nil}
use Rattle.pocsag_open.specs.declared.lines.LineRead.{LineRead}
use Rattle.pocsag_open.specs.declared.lines.LineRead.TheVariants as found

some_more : (seen : List ℕ) (b : ℕ) → seen ++ b ∷ [] ≢ []
some_more [] b e = cc e
some_more (s ∷ seen) b e = cc e

pub seen_more : (f g : LineRead) (seen kept after : List ℕ) (b : ℕ) → IsSeen f seen kept → IsByteKept g b kept after → IsSeen g (seen ++ b ∷ []) after
seen_more found.End found.Kept seen kept after b h k =
    let same : kept ≡ seen = h.1 ∙ sym h.0 in
    let longer = length_push seen b in
    let n : length kept ≡ length seen = ap length same in
    (some_more seen b, k.1 ∙ ap (λ (l : List ℕ). l ++ b ∷ []) same, omega (arith, k.0))
seen_more found.End found.TooLong seen kept after b h k =
    let none : length kept ≡ 0 = ap length h.1 in
    absurd (omega (arith, k.0))
seen_more found.Kept found.Kept seen kept after b h k =
    let longer = length_push seen b in
    let n : length kept ≡ length seen = ap length h.1 in
    (some_more seen b, k.1 ∙ ap (λ (l : List ℕ). l ++ b ∷ []) h.1, omega (arith, k.0))
seen_more found.Kept found.TooLong seen kept after b h k =
    let longer = length_push seen b in
    let n : length kept ≡ length seen = ap length h.1 in
    let m : length after ≡ length kept = ap length k.1 in
    (omega (arith, k.0), omega (arith, k.0))
seen_more found.TooLong found.Kept seen kept after b h k = absurd (omega (arith, h.0, k.0))
seen_more found.TooLong found.TooLong seen kept after b h k =
    let longer = length_push seen b in
    let m : length after ≡ length kept = ap length k.1 in
    (omega (arith, h.0), omega (arith, h.1))
seen_more f found.End seen kept after b h k = absurd k

-- one byte of what is left belongs to the line
pub byte_passes : (all seen left rest : List ℕ) (b : ℕ) → all ≡ seen ++ left → left ≡ b ∷ rest → all ≡ (seen ++ b ∷ []) ++ rest
byte_passes all seen left rest b e h = e ∙ ap (λ (l : List ℕ). seen ++ l) h ∙ sym (append_assoc seen (b ∷ []) rest)

long_some : (seen : List ℕ) → 65536 < length seen → seen ≢ []
long_some [] h e = omega (arith, h)
long_some (s ∷ seen) h e = cc e

-- what was seen is the line, where nothing is left
pub seen_all : (f : LineRead) (all seen kept left rest : List ℕ) → HasNoLineFeed seen → IsSeen f seen kept → all ≡ seen ++ left →
    left ≡ [] → rest ≡ [] → IsLineFound f all kept rest
seen_all found.End all seen kept left rest one is whole none after =
    rw (is.0, none) at whole
seen_all found.Kept all seen kept left rest one is whole none after =
    let same : all ≡ seen = whole ∙ ap (λ (l : List ℕ). seen ++ l) none ∙ append-nil seen in (
      rw is.1 (record { one = one; parts = inr (is.0, same, after) }),
      rw is.1 is.2,
    )
seen_all found.TooLong all seen kept left rest one is whole none after =
    let same : all ≡ seen = whole ∙ ap (λ (l : List ℕ). seen ++ l) none ∙ append-nil seen in
    (seen, record { one = one; parts = inr (long_some seen is.1, same, after) }, is.1)

-- or it is what was seen before a line feed: a line that is kept
pub seen_kept : (f : LineRead) (all seen kept left rest : List ℕ) (b : ℕ) → f ≢ found.TooLong → HasNoLineFeed seen → IsSeen f seen kept →
    all ≡ seen ++ left → left ≡ b ∷ rest → b ≡ line_feed → IsLineFound found.Kept all kept rest
seen_kept found.End all seen kept left rest b n one is whole next feed =
    let same : kept ≡ seen = is.1 ∙ sym is.0 in
    let none : length kept ≡ 0 = ap length is.1 in (
      rw same (record { one = one; parts = inl (whole ∙ ap (λ (l : List ℕ). seen ++ l) (rw feed at next)) }),
      omega (arith, none),
    )
seen_kept found.Kept all seen kept left rest b n one is whole next feed = (
  rw is.1 (record { one = one; parts = inl (whole ∙ ap (λ (l : List ℕ). seen ++ l) (rw feed at next)) }),
  rw is.1 is.2,
)
seen_kept found.TooLong all seen kept left rest b n one is whole next feed = absurd (n refl)

-- and one that is too long
pub seen_long : (all seen kept left rest : List ℕ) (b : ℕ) → HasNoLineFeed seen → IsSeen found.TooLong seen kept → all ≡ seen ++ left →
    left ≡ b ∷ rest → b ≡ line_feed → IsLineFound found.TooLong all kept rest
seen_long all seen kept left rest b one is whole next feed =
    (seen, record { one = one; parts = inl (whole ∙ ap (λ (l : List ℕ). seen ++ l) (rw feed at next)) }, is.1)
