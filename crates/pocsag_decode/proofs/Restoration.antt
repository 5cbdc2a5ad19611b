-- The repair of damaged bytes is what was sent, and holds what each pager shows of them.
use Rattle.pocsag_decode.proofs.Prelude.{◌≡◌, ◌≢◌, ℕ, ◌+◌, ◌*◌, ◌/◌, ◌%◌, ◌<◌, List, [], ◌∷◌, ◌++◌, length, map, filter, replicate, Option, Some, All, refl, sym, ap, ap₂, ◌∙◌, subst, inl, inr, arith, lit<, to_be_bytes, w32, AllZip, flat_map, cases_eq, eq-eqb, ne_eqb, append-nil, nil_from_length, All-append, All-from_recursion, All-head, All-nil, All-replicate, All-tail, IsCodeword, IsNear, kind_of, Page, Sent, after_preamble, body_bytes, leading, sync_word, synced, unsynced, words_of, body_length, synced_small, words_again, reads_plainly, unfinished, IsFaultless, ReadsAs, words, AreRepaired, IsRepairOf, IsRepaired, sync, no_sync, codeword, beyond}
use Rattle.std.proofs.lemmas.Slice.Zip.{AllZip-long}
use Rattle.pocsag_pager.specs.Damage.{IsDamaged}
use Rattle.pocsag_pager.specs.Shown.{AreShown, IsMended, said, shown_from}
use Rattle.pocsag_pager.proofs.Chosen.{calls}
use Rattle.pocsag_pager.proofs.Mended.{mended_same}
use Rattle.pocsag_pager.proofs.Damage.{shown_is_chosen}
use Rattle.pocsag_decode.proofs.Preambles.{Parts, after_is, count_is, leading_is}
use Rattle.pocsag_decode.proofs.Repairs.{none_wrong, repaired_words}
use Rattle.pocsag_decode.proofs.Judgements.{whole_no_fault}
use Rattle.pocsag_decode.proofs.SentBytes.{body_begins, codewords_are, reads_whole}
use Rattle.pocsag_decode.proofs.Words.{bytes_count}

-- the synchronisation codeword where one is due, and codewords elsewhere
abbrev IsDueAt : ℕ → ℕ → Type 0
IsDueAt j w = (j % 17 ≡ 0 → w ≡ sync_word) × (j % 17 ≢ 0 → IsCodeword w)

abbrev AreDueFrom : ℕ → List ℕ → Type 0
AreDueFrom j [] = Unit {0}
AreDueFrom j (w ∷ ws) = IsDueAt j w × AreDueFrom (j + 1) ws

due_sync : (j : ℕ) → j % 17 ≡ 0 → IsDueAt j sync_word
due_sync j e = (λ _. refl, λ n. absurd (n e))

due_codeword : (j w : ℕ) → j % 17 ≢ 0 → IsCodeword w → IsDueAt j w
due_codeword j w n c = (λ e. absurd (n e), λ _. c)

synced_due : (i j : ℕ) (T : List ℕ) → j ≡ i + (i + 15) / 16 → All IsCodeword T → AreDueFrom j (synced i T)
synced_due i j [] e are = tt
synced_due i j (w ∷ T) e are =
    let c = All-head IsCodeword w T are in
    let rest = All-tail IsCodeword w T are in
    elim (cases_eq (i % 16) 0) [
      | inl first ↦
          let here : j % 17 ≡ 0 = omega arith in
          let next : (j + 1) % 17 ≢ 0 = λ wrong. absurd (omega arith) in
          rw (eq-eqb _ _ first)
          (due_sync j here, (due_codeword (j + 1) w next c, synced_due (i + 1) (j + 1 + 1) T (omega arith) rest))
      | inr n ↦
          let here : j % 17 ≢ 0 = λ wrong. absurd (omega arith) in
          rw (ne_eqb _ _ n) (due_codeword j w here c, synced_due (i + 1) (j + 1) T (omega arith) rest)
    ]

-- ---- a word with at most two wrong bits is repaired to what it was

restored_word : (j t w v : ℕ) → IsDueAt j t → IsNear t w → IsRepaired j w v → v ≡ t
restored_word j t w v due near (sync e n) = sym (due.0 e)
restored_word j t w v due near (no_sync e far) = absurd (far (subst (λ (x : ℕ). IsNear x w) (due.0 e) near))
restored_word j t w v due near (codeword n only) = sym (only.only t (due.1 n) near)
restored_word j t w v due near (beyond n none) = absurd (none t (due.1 n) near)

restored_words : (j : ℕ) (ts ws vs : List ℕ) → AreDueFrom j ts → AllZip IsNear ts ws → AreRepaired j ws vs → vs ≡ ts
restored_words j [] [] [] due near r = refl
restored_words j [] [] (v ∷ vs) due near r = absurd r
restored_words j [] (w ∷ ws) vs due near r = absurd near
restored_words j (t ∷ ts) [] vs due near r = absurd near
restored_words j (t ∷ ts) (w ∷ ws) [] due near r = absurd r
restored_words j (t ∷ ts) (w ∷ ws) (v ∷ vs) due near r =
    ap₂ ◌∷◌ (restored_word j t w v due.0 near.0 r.0) (restored_words (j + 1) ts ws vs due.1 near.1 r.1)

near_self : (w : ℕ) → IsNear w w
near_self w = omega (arith, none_wrong w)

all_near : (ws : List ℕ) → AllZip IsNear ws ws
all_near [] = tt
all_near (w ∷ ws) = (near_self w, all_near ws)

-- ---- the bytes

module _ (X T : List ℕ) (s : Sent X T) where
  sent_parts : Parts X s.preamble (body_bytes T)
  sent_parts = record { whole = s.bytes; other = body_begins T }

  sent_words : words X ≡ synced 0 T
  sent_words = ap words_of (after_is X s.preamble (body_bytes T) sent_parts) ∙ words_again (synced 0 T) (synced_small 0 T s.codewords)

  none_over : (Y : List ℕ) → IsDamaged X Y → unfinished (after_preamble Y) ≡ []
  none_over Y d =
      let whole : length (after_preamble X) ≡ 4 * length (synced 0 T) =
      ap length (after_is X s.preamble (body_bytes T) sent_parts) ∙ body_length (synced 0 T) in
      let as_many : length (words Y) ≡ length (words X) = AllZip-long IsNear (words X) (words Y) d.words in
      let of_words : length (words X) ≡ length (synced 0 T) = ap length sent_words in
      let x = count_is X [] in
      let y = count_is Y [] in
      let all = bytes_count (after_preamble Y) in
      let long = d.long in
      let lead = d.preamble in
      nil_from_length (unfinished (after_preamble Y)) (omega arith)

  pub restores : (Y Z : List ℕ) → IsDamaged X Y → IsRepairOf Y Z → Z ≡ X
  restores Y Z d r =
      let same : r.repaired ≡ synced 0 T =
      restored_words 0 (synced 0 T) (words Y) r.repaired (synced_due 0 0 T (omega arith) s.codewords)
      (subst (λ (ws : List ℕ). AllZip IsNear ws (words Y)) sent_words d.words) r.each in
      let front : leading Y ≡ s.preamble = sym d.preamble ∙ leading_is X s.preamble (body_bytes T) sent_parts in
      let body : flat_map (to_be_bytes w32) r.repaired ++ unfinished (after_preamble Y) ≡ body_bytes T =
      ap₂ (λ (ws rest : List ℕ). flat_map (to_be_bytes w32) ws ++ rest) same (none_over Y d) ∙ append-nil (body_bytes T) in
      r.bytes ∙ (ap₂ (λ (n : ℕ) (l : List ℕ). replicate n 0xaa ++ l) front body ∙ sym s.bytes)

  pub undamaged : IsDamaged X X
  undamaged = record { long = refl; preamble = refl; words = all_near (words X) }

-- ---- what reads as pages has no fault

small_bytes : (ws : List ℕ) → All (λ b. b < 256) (flat_map (to_be_bytes w32) ws)
small_bytes [] = All-nil _
small_bytes (w ∷ ws) =
    All-append (λ b. b < 256) (to_be_bytes w32 w) (flat_map (to_be_bytes w32) ws)
    (All-from_recursion (λ b. b < 256) (to_be_bytes w32 w) (omega arith, (omega arith, (omega arith, (omega arith, tt))))) (small_bytes ws)

pub no_fault_of_reading : (X : List ℕ) (ps : List Page) → ReadsAs X ps → IsFaultless X
no_fault_of_reading X ps r =
    let s = r.sent in
    let small : All (λ b. b < 256) X =
    subst (All (λ b. b < 256)) (sym s.bytes)
    (All-append (λ b. b < 256) (replicate s.preamble 0xaa) (body_bytes r.codewords) (All-replicate (λ b. b < 256) s.preamble 0xaa (lit< tt))
    (small_bytes (synced 0 r.codewords))) in
    whole_no_fault X (reads_whole X ps small r)

-- ---- what a pager shows

only_near : (j w v : ℕ) → j % 17 ≢ 0 → IsCodeword v → IsRepaired j w v → IsMended w (Some v)
only_near j w v n c (sync e near) = absurd (n e)
only_near j w v n c (no_sync e far) = absurd (n e)
only_near j w v n c (codeword m only) = only
only_near j w v n c (beyond m none) = absurd (none v c (near_self v))

heard_next : (j w v : ℕ) (ws vs : List ℕ) (ms : List (Option ℕ)) → j % 17 ≢ 0 → IsRepaired j w v
    → All IsCodeword (v ∷ unsynced (j + 1) vs) → AllZip IsMended (w ∷ unsynced (j + 1) ws) ms
    → ((ns : List (Option ℕ)) → AllZip IsMended (unsynced (j + 1) ws) ns → map said ns ≡ map Some (map kind_of (unsynced (j + 1) vs)))
    → map said ms ≡ map Some (map kind_of (v ∷ unsynced (j + 1) vs))
heard_next j w v ws vs [] n r c z more = absurd z
heard_next j w v ws vs (m ∷ ms) n r c z more =
    let one = only_near j w v n (All-head IsCodeword v (unsynced (j + 1) vs) c) r in
    ap₂ ◌∷◌ (ap said (mended_same w m (Some v) z.0 one)) (more ms z.1)

heard_from : (j : ℕ) (ws vs : List ℕ) (ms : List (Option ℕ)) → AreRepaired j ws vs → All IsCodeword (unsynced j vs)
    → AllZip IsMended (unsynced j ws) ms → map said ms ≡ map Some (map kind_of (unsynced j vs))
heard_from j [] [] [] r c z = refl
heard_from j [] [] (m ∷ ms) r c z = absurd z
heard_from j [] (v ∷ vs) ms r c z = absurd r
heard_from j (w ∷ ws) [] ms r c z = absurd r
heard_from j (w ∷ ws) (v ∷ vs) ms r c z =
    elim (cases_eq (j % 17) 0) [
      | inl e ↦ rw (eq-eqb _ _ e) (heard_from (j + 1) ws vs ms r.1 (rw (eq-eqb _ _ e) at c) (rw (eq-eqb _ _ e) at z))
      | inr n ↦
          let are = rw (ne_eqb _ _ n) at c in
          rw (ne_eqb _ _ n) (heard_next j w v ws vs ms n r.0 are (rw (ne_eqb _ _ n) at z)
          (λ ns h. heard_from (j + 1) ws vs ns r.1 (All-tail IsCodeword v (unsynced (j + 1) vs) are) h))
    ]

pub heard_of_repaired : (X Y : List ℕ) (ps qs : List Page) (a : ℕ) → All (λ b. b < 256) X → IsRepairOf X Y → ReadsAs Y ps
    → AreShown (words_of (after_preamble X)) a qs → qs ≡ filter (calls a) ps
heard_of_repaired X Y ps qs a small f r h =
    let T = r.codewords in
    let are : unsynced 0 f.repaired ≡ T = ap (unsynced 0) (sym (repaired_words X Y small f)) ∙ codewords_are Y T r.sent in
    let kinds : map said h.mended ≡ map Some (map kind_of T) =
    heard_from 0 (words X) f.repaired h.mended f.each (subst (All IsCodeword) (sym are) r.sent.codewords) h.each
    ∙ ap (λ (ws : List ℕ). map Some (map kind_of ws)) are in
    h.holds
    ∙ (ap (shown_from a 0) kinds
    ∙ (shown_is_chosen a 0 (map kind_of T) ∙ ap (filter (calls a)) (sym (reads_plainly r.reads).pages)))
