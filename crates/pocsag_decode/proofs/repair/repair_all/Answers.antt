use Rattle.pocsag_decode.proofs.Prelude.{◌≡◌, ◌==◌, ℕ, ◌+◌, ◌-◌, ◌^◌, ◌<◌, ◌≤◌, Bool, true, false, not, if◌then◌else◌, List, ◌++◌, length, take, drop, sym, ap, ap₂, ◌∙◌, append_assoc, arith, to_be_bytes, w32, take-append-drop}
use Rattle.std.proofs.lemmas.Slice.{drop-put_mid, take-put_mid}
use borrow.Rule.Slice.PartMut.{put_mid}
use mir.Val.{bool_byte}
use Rattle.pocsag_decode.proofs.Repairs.{bits_bound, counted_bits, counted_words, long_now, near_bits, nothing_differs, place_bound, repaired_all, repairing_first, repairing_more, words_bound}
use Rattle.pocsag_decode.proofs.repair.repair_all.Goals as goal

-- a number that says whether something is not so
is_flag : (n : ℕ) (b : Bool) → n ≡ bool_byte (not b) → n ≡ (if b then 0 else 1)
is_flag n true e = e
is_flag n false e = e

one_at_most : (b : Bool) → (if b then 0 else 1) ≤ 1
one_at_most true = omega arith
one_at_most false = omega arith

-- a word in its place
put_four : (at : ℕ) (l part : List ℕ) (w : ℕ) → part ≡ to_be_bytes w32 w → at + 4 ≤ length l
    → put_mid at (at + 4 - at) l part ≡ take at l ++ (to_be_bytes w32 w ++ drop (at + 4) l)
put_four at l part w is room =
    let four : length part ≡ 4 = ap length is in
    sym (take-append-drop (at + 4) (put_mid at (at + 4 - at) l part))
    ∙ (ap₂ (λ (x y : List ℕ). x ++ y) (take-put_mid at (at + 4 - at) l part (at + 4) (omega arith) (omega arith))
    (drop-put_mid at (at + 4 - at) l part (at + 4) (omega arith) (omega arith) (omega arith))
    ∙ (append_assoc (take at l) part (drop (at + 4) l) ∙ ap (λ (m : List ℕ). take at l ++ (m ++ drop (at + 4) l)) is))

pub loop-bytes-init : goal.loop-bytes-init
loop-bytes-init c = repairing_first _ _ c.preamble_len-at.ensures.value c.preamble_len-at.ensures.within

pub overflow_add-told : goal.overflow_add-told
overflow_add-told c =
    let t = c.loop-bytes.invariant in
    let w = words_bound _ _ _ _ _ _ t in
    let p = place_bound _ _ _ _ _ _ t in
    let is = is_flag _ (c.repaired_word-after.result == c.word_at-before.result) c.from.ensures in
    let one = one_at_most (c.repaired_word-after.result == c.word_at-before.result) in
    record { fits = omega arith }

pub overflow_add-told-in-loop-bytes : goal.overflow_add-told-in-loop-bytes
overflow_add-told-in-loop-bytes c =
    let t = c.loop-bytes.invariant in
    let b = bits_bound _ _ _ _ _ _ t in
    let p = place_bound _ _ _ _ _ _ t in
    let two = near_bits _ _ _ c.repaired_word-after.ensures in
    let is = c.from-in-loop-bytes.ensures in
    record { fits = omega arith }

pub loop-bytes-preserved : goal.loop-bytes-preserved
loop-bytes-preserved c =
    let t = c.loop-bytes.invariant in
    let long = long_now _ _ _ _ _ _ t in
    let room : c.loop-bytes.at + 4 ≤ length c.args.bytes.now = omega arith in
    let fits : c.word_at-before.result < 2 ^ 32 = c.word_at-before.type_inv in
    repairing_more _ _ _ _ _ _ t c.word_at-before.result c.repaired_word-after.result _ room fits c.word_at-before.ensures
    c.repaired_word-after.ensures
    (put_four c.loop-bytes.at c.loop-bytes.bytes _ _ (c.copy_from_slice.ensures.after ∙ c.to_be_bytes.ensures) (omega arith)) _ _
    (ap (λ (n : ℕ). c.loop-bytes.told.words + n) (is_flag _ (c.repaired_word-after.result == c.word_at-before.result) c.from.ensures))
    (ap (λ (n : ℕ). c.loop-bytes.told.bits + n) c.from-in-loop-bytes.ensures)

pub returns-clause-repaired : goal.returns-clause-repaired
returns-clause-repaired c = repaired_all _ _ _ _ _ _ c.loop-bytes.invariant (omega arith)

pub returns-clause-counted : goal.returns-clause-counted
returns-clause-counted c =
    let t = c.loop-bytes.invariant in
    record { in_words = counted_words _ _ _ _ _ _ t (omega arith); in_bits = counted_bits _ _ _ _ _ _ t (omega arith) }

pub returns-clause-restored : goal.returns-clause-restored
returns-clause-restored c = λ X T sent damaged.
    c.recall_repair_restores.ensures.damaged X T _ _ sent damaged (repaired_all _ _ _ _ _ _ c.loop-bytes.invariant (omega arith))

pub returns-clause-whole : goal.returns-clause-whole
returns-clause-whole c = λ T sent.
    let t = c.loop-bytes.invariant in
    let short : length c.loop-bytes.bytes < c.loop-bytes.at + 4 = omega arith in
    let same = c.recall_repair_restores.ensures.whole _ T _ sent (repaired_all _ _ _ _ _ _ t short) in
    let none = nothing_differs _ _ same in
    (same, counted_words _ _ _ _ _ _ t short ∙ none.0, counted_bits _ _ _ _ _ _ t short ∙ none.1)
