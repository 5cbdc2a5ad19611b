-- A transmission on its way through a piece.
use Rattle.pocsag_batch.proofs.Prelude.{◌≡◌, ℕ, suc, ◌+◌, ◌%◌, ◌<◌, ◌≤◌, ◌==◌, Bool, true, false, cond, List, [], ◌∷◌, ◌++◌, length, replicate, refl, sym, ap, ◌∙◌, arith, append_assoc, append-nil, bytes_of, body_from, if◌then◌else◌, flat_map, sync_word, synced, slot_bytes}
use Rattle.std.proofs.lemmas.List.{length-append}
use Rattle.std.specs.Int.{to_be_bytes, w32}

-- what was taken and the piece are the transmission of the codewords that came
pub record IsSent (is_known : Type 0) (before taken piece came : List ℕ) : Type 0 where
  pub grown : is_known → length before ≤ length taken
  pub sent : is_known → taken ++ piece ≡ before ++ bytes_of came

-- the bytes of one codeword, behind the synchronisation codeword where a batch begins
slot_is : (b : Bool) (w : ℕ) (ws left : List ℕ) → left ≡ flat_map (to_be_bytes w32) ws →
    (cond b (to_be_bytes w32 sync_word) [] ++ to_be_bytes w32 w) ++ left
    ≡ flat_map (to_be_bytes w32) ((if b then sync_word ∷ [] else []) ++ w ∷ ws)
slot_is true w ws left e = ap (λ v. (to_be_bytes w32 sync_word ++ to_be_bytes w32 w) ++ v) e
slot_is false w ws left e = ap (λ v. to_be_bytes w32 w ++ v) e

-- the bytes by slots are those by indices
body_is : (ws : List ℕ) (i : ℕ) → body_from (i % 16) ws ≡ flat_map (to_be_bytes w32) (synced i ws)
body_is [] i = refl
body_is (w ∷ ws) i =
    let next : (i % 16 + 1) % 16 ≡ (i + 1) % 16 = omega arith in
    let left : body_from ((i % 16 + 1) % 16) ws ≡ flat_map (to_be_bytes w32) (synced (i + 1) ws) =
    ap (λ n. body_from n ws) next ∙ body_is ws (i + 1) in
    slot_is (i % 16 == 0) w (synced (i + 1) ws) (body_from ((i % 16 + 1) % 16) ws) left

body_append : (ws vs : List ℕ) (slot : ℕ) → slot < 16
    → body_from slot (ws ++ vs) ≡ body_from slot ws ++ body_from ((slot + length ws) % 16) vs
body_append [] vs slot small =
    let same : slot ≡ (slot + 0) % 16 = omega arith in
    ap (λ n. body_from n vs) same
body_append (w ∷ ws) vs slot small =
    let below : (slot + 1) % 16 < 16 = omega arith in
    let same : ((slot + 1) % 16 + length ws) % 16 ≡ (slot + suc (length ws)) % 16 = omega arith in
    ap (λ v. slot_bytes slot w ++ v)
    (body_append ws vs ((slot + 1) % 16) below ∙ ap (λ n. body_from ((slot + 1) % 16) ws ++ body_from n vs) same)
    ∙ sym (append_assoc (slot_bytes slot w) (body_from ((slot + 1) % 16) ws) (body_from ((slot + suc (length ws)) % 16) vs))

bytes_are : (ws : List ℕ) → bytes_of ws ≡ replicate 72 0xaa ++ body_from 0 ws
unfolding bytes_of
bytes_are ws = ap (λ v. replicate 72 0xaa ++ v) (sym (body_is ws 0))

-- the transmission of more codewords begins with that of the first of them
pub bytes_append : (ws vs : List ℕ) → bytes_of (ws ++ vs) ≡ bytes_of ws ++ body_from (length ws % 16) vs
bytes_append ws vs =
    let same : (0 + length ws) % 16 ≡ length ws % 16 = omega arith in
    bytes_are (ws ++ vs)
    ∙ (ap (λ v. replicate 72 0xaa ++ v) (body_append ws vs 0 (omega arith) ∙ ap (λ n. body_from 0 ws ++ body_from n vs) same)
    ∙ (sym (append_assoc (replicate 72 0xaa) (body_from 0 ws) (body_from (length ws % 16) vs))
    ∙ ap (λ v. v ++ body_from (length ws % 16) vs) (sym (bytes_are ws))))

-- one codeword more
pub bytes_more : (came : List ℕ) (slot w : ℕ) → slot ≡ length came % 16 → bytes_of (came ++ w ∷ []) ≡ bytes_of came ++ slot_bytes slot w
bytes_more came slot w at =
    bytes_append came (w ∷ [])
    ∙ (ap (λ v. bytes_of came ++ v) (append-nil (slot_bytes (length came % 16) w))
    ∙ ap (λ n. bytes_of came ++ slot_bytes n w) (sym at))

-- the calls so far and the bytes that are held, by the bytes of the codewords that came
pub called_first : (calls : ℕ) (piece : List ℕ) → piece ≡ replicate 72 0xaa → calls + length piece ≤ calls + length (bytes_of [])
called_first calls piece e = let n = ap length e in let m = ap length (bytes_are []) in omega arith

pub called_more : (before calls now : ℕ) (piece next came : List ℕ) (slot w : ℕ) → slot ≡ length came % 16 →
    calls + length piece ≤ before + length (bytes_of came) →
    now + length next ≤ calls + (length piece + length (slot_bytes slot w)) →
    now + length next ≤ before + length (bytes_of (came ++ w ∷ []))
called_more before calls now piece next came slot w at so_far more =
    let n = ap length (bytes_more came slot w at) in
    let m = length-append (bytes_of came) (slot_bytes slot w) in
    omega arith

pub sent_first : (is_known : Type 0) (before piece : List ℕ) → piece ≡ replicate 72 0xaa → IsSent is_known before before piece []
sent_first is_known before piece e = record {
  grown = λ t. omega arith;
  sent = λ t. ap (λ v. before ++ v) (e ∙ (sym (append-nil (replicate 72 0xaa)) ∙ sym (bytes_are [])));
}

pub sent_more : (is_known : Type 0) (before taken piece came : List ℕ) (slot w : ℕ) (taken' piece' : List ℕ) → slot ≡ length came % 16 →
    IsSent is_known before taken piece came →
    (is_known → length taken ≤ length taken') →
    (is_known → taken' ++ piece' ≡ (taken ++ piece) ++ slot_bytes slot w) →
    IsSent is_known before taken' piece' (came ++ w ∷ [])
sent_more is_known before taken piece came slot w taken' piece' at so_far more next = record {
  grown = λ t. let a = so_far.grown t in let b = more t in omega arith;
  sent = λ t.
      next t
      ∙ (ap (λ v. v ++ slot_bytes slot w) (so_far.sent t)
      ∙ (append_assoc before (bytes_of came) (slot_bytes slot w)
      ∙ ap (λ v. before ++ v) (sym (bytes_more came slot w at))));
}
