-- The codewords that an iterator gave, of those that it had to give.
use Rattle.pocsag_batch.proofs.Prelude.{◌≡◌, ℕ, ◌%◌, ◌≤◌, List, [], ◌∷◌, ◌++◌, length, map, take, refl, sym, ap, ◌∙◌, All, arith, append_assoc, All-head, All-tail, YieldsList, IsCodeword, kind_of, Kind, bytes_of, body_from, length-take, take-append-le, items_from_drains, AlwaysYields, Drains, Yields, Option}
use Rattle.std.proofs.lemmas.List.{length-append}
use Rattle.pocsag_words.specs.Devices.{CallsPerByte, TookPrefix}
use Rattle.pocsag_batch.specs.Meanings.{IsSayable, Say, SendsPart}
use Rattle.pocsag_batch.proofs.Sent.{bytes_append}

-- codewords of one kind are one
abbrev pub SameFromKind : Type 0
SameFromKind = (v w : ℕ) → IsCodeword v → IsCodeword w → kind_of v ≡ kind_of w → v ≡ w

module _ {S A B : Type 0} (steps : S → Option A → S → Type 0) (v : A → B) where
  came_first : (came : List A) (all : List B) (s t : S) → AlwaysYields steps v s all → Yields steps s came t
      → (left : List B) × (all ≡ map v came ++ left)
  came_first [] all s t gives came = (all, refl)
  came_first (x ∷ xs) [] s t gives came = absurd (gives x came.0 came.1)
  came_first (x ∷ xs) (y ∷ ys) s t gives came =
      let here : (v x ≡ y) × AlwaysYields steps v came.0 ys = gives.1 x came.0 came.1 in
      let others : (left : List B) × (ys ≡ map v xs ++ left) = came_first xs ys came.0 t here.1 came.2 in
      (others.0, ap (λ z. z ∷ ys) (sym here.0) ∙ ap (λ zs. v x ∷ zs) others.1)

-- what came is the first part of all, and all of it where nothing more comes
pub part_came : {S A B : Type 0} {steps : S → Option A → S → Type 0} {v : A → B} {s : S} {all : List B} (came : List A) (t : S)
    → YieldsList steps v s all → Yields steps s came t →
    (left : List B) × (all ≡ map v came ++ left)
part_came {S} {A} {B} {steps} {v} {s} {all} came t gives yields = came_first steps v came all s t gives.runs yields

pub all_came : {S A B : Type 0} {steps : S → Option A → S → Type 0} {v : A → B} {s : S} {all : List B} (came : List A)
    → YieldsList steps v s all → Drains steps s came → map v came ≡ all
all_came came gives drained = items_from_drains came (drained.1.0, drained.1.1, λ u. (drained.0, drained.1.2)) gives

-- a prefix of the transmission of the first codewords is one of the transmission of all
pub took_longer : (before after came left : List ℕ) → TookPrefix before after (bytes_of came)
    → TookPrefix before after (bytes_of (came ++ left))
took_longer before after came left (grown, part) =
    let more : List ℕ = body_from (length came % 16) left in
    let short : length after ≤ length (before ++ bytes_of came) =
    omega (arith, ap length part, length-take (length after) (before ++ bytes_of came)) in
    let whole : before ++ bytes_of (came ++ left) ≡ (before ++ bytes_of came) ++ more =
    ap (λ x. before ++ x) (bytes_append came left) ∙ sym (append_assoc before (bytes_of came) more) in
    (grown, ap (take (length after)) whole ∙ (take-append-le (length after) (before ++ bytes_of came) more short ∙ part))

-- the calls for the first codewords are no more than those for all
pub called_longer : (before after : ℕ) (came left : List ℕ) → CallsPerByte before after (bytes_of came)
    → CallsPerByte before after (bytes_of (came ++ left))
called_longer before after came left h =
    let n = ap length (bytes_append came left) in
    let m = length-append (bytes_of came) (body_from (length came % 16) left) in
    omega arith

-- the first of the codewords, and the others
say_split : SameFromKind → (w : ℕ) (left : List Kind) (ws : List ℕ) → IsCodeword w → Say (kind_of w ∷ left) ws
    → (rest : List ℕ) × (ws ≡ w ∷ rest) × Say left rest
say_split same w left [] is say = absurd (omega (arith, ap length say.kinds))
say_split same w left (v ∷ ws) is say =
    let both : kind_of v ∷ map kind_of ws ≡ kind_of w ∷ left = say.kinds in
    let kind : kind_of v ≡ kind_of w = cc in
    let others : map kind_of ws ≡ left = cc in
    let first : v ≡ w = same v w (All-head IsCodeword v ws say.codewords) is kind in
    (ws, ap (λ u. u ∷ ws) first, record { codewords = All-tail IsCodeword v ws say.codewords; kinds = others })

-- codewords that say at first what these say begin with these
say_prefix : SameFromKind → (came : List ℕ) (left : List Kind) (ws : List ℕ) → All IsCodeword came → Say (map kind_of came ++ left) ws
    → (rest : List ℕ) × (ws ≡ came ++ rest)
say_prefix same [] left ws are say = (ws, refl)
say_prefix same (w ∷ came) left ws are say =
    let split = say_split same w (map kind_of came ++ left) ws (All-head IsCodeword w came are) say in
    let others = say_prefix same came left split.0 (All-tail IsCodeword w came are) split.2 in
    (others.0, split.1 ∙ ap (λ v. w ∷ v) others.1)

pub sends_part : SameFromKind → (said : List Kind) (before after came : List ℕ) (left : List Kind) → IsSayable said → All IsCodeword came →
    said ≡ map kind_of came ++ left → TookPrefix before after (bytes_of came) → SendsPart said before after
sends_part same said before after came left (ws, say) are e part =
    let found = say_prefix same came left ws are (record { codewords = say.codewords; kinds = say.kinds ∙ e }) in
    record { words = ws; say = say; part = rw (found.1) (took_longer before after came found.0 part) }

pub called_part : SameFromKind → (said : List Kind) (before after : ℕ) (came : List ℕ) (left : List Kind) → IsSayable said → All IsCodeword came →
    said ≡ map kind_of came ++ left → CallsPerByte before after (bytes_of came) →
    (words : List ℕ) × Say said words × CallsPerByte before after (bytes_of words)
called_part same said before after came left (ws, say) are e calls =
    let found = say_prefix same came left ws are (record { codewords = say.codewords; kinds = say.kinds ∙ e }) in
    (ws, say, rw (found.1) (called_longer before after came found.0 calls))
