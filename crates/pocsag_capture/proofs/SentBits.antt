-- A capture that holds a sent transmission shows its pages.
use Rattle.pocsag_capture.proofs.Prelude.{if◌then◌else◌, ◌≡◌, ◌≢◌, ◌⊎◌, ℕ, zero, suc, lit<, ◌+◌, ◌-◌, ◌*◌, ◌/◌, ◌%◌, ◌^◌, ◌<◌, ◌≤◌, ◌==◌, List, [], ◌∷◌, ◌++◌, length, map, take, drop, get_or, All, Option, Some, Bool, true, false, bit_xor, count_ones, refl, sym, ap, ap₂, subst, ◌∙◌, inl, inr, arith, append_assoc, eq-eqb, AllZip, flat_map, range_with_len, min-le_right, drop-append-add, get_or-append_seam, ones_le_self, cases_eq, cases_lt, ne_eqb, same_number_lists, drop_more, length-append, length-map, length-take-le, map-append, take-append-drop, get_or-map-range_with_len, length-map-range_with_len, All-cons, All-get_or, All-head, All-nil, All-tail, AllZip-get_or, AllZip-long, HasNoneNear, IsCodeword, IsNear, IsOnlyNear, check_of, columns, combine, kind_of, numbers_are_repaired_lem, Kind, Idle, Address, Message, high_first, high_number, length-high_first, length-flat_map-wide, Page, after_preamble, sync_word, synced, unsynced, words_of, HasNoOrphan, pages_from, EndsIdle, Reads, synced_count, unsynced_count, unsynced_more, reads_plainly, ReadsAs, stays_open, without_orphan, IsMended, said, mended_back, as_sent, capture_bits, word_on, AreCaptured, HasCaptured, without_orphans, lost_words, AreFound, HasFewLost, IsLikeSynchronised, IsQuiet, IsReception, IsSyncRun, IsSynchronised, all_batches, batches_in_front, counted, held_end, run_end, last_sync, nothing, passed, received, received_word, sent_at, Polarity, Upright, Inverted, Reception, Run}
use Rattle.std.specs.Int.Bits.{xor_self}
use Rattle.pocsag_words.proofs.BlockCode.{IsCodeword-from_low}
use Rattle.pocsag_decode.proofs.SentBytes.{codewords_are}
use Rattle.pocsag_capture.specs.Sent.{HoldsSent, NothingFollows, IsReceived, StandAmong}
use Rattle.pocsag_capture.proofs.Joined.{no_orphan_any, no_orphan_join, pages_join, pages_shift, keeps_no_orphan}
use Rattle.pocsag_capture.proofs.CorrectedWords.{synced_two}
use Rattle.pocsag_capture.proofs.Extracts.{word_read, word_there}
use Rattle.pocsag_capture.proofs.Once.{WordsFit, capture_fits, no_more, same_polarity}
use Rattle.pocsag_capture.proofs.Windows.{number_behind}

-- ---- words behind other bits

pub shift_word : (A B : List ℕ) (q : ℕ) → word_on (A ++ B) (length A + q) ≡ word_on B q
shift_word A B q = ap (λ (l : List ℕ). high_number 0 (take 32 l)) (drop-append-add A B q)

module _ (A B : List ℕ) (q : ℕ) (p : Polarity) where
  pub shift_back : IsSynchronised (A ++ B) (length A + q) p → IsSynchronised B q p
  shift_back f = record {
    within = omega (arith, f.within, length-append A B);
    near = subst (λ (w : ℕ). IsNear sync_word (as_sent p w)) (shift_word A B q) f.near;
  }

pub like_back : (A B : List ℕ) (q : ℕ) (p : Polarity) → IsLikeSynchronised (A ++ B) (length A + q) p → IsLikeSynchronised B q p
like_back A B q p f = record {
  within = omega (arith, f.within, length-append A B);
  like = subst (λ (w : ℕ). count_ones (bit_xor sync_word (as_sent p w)) ≤ 7) (shift_word A B q) f.like;
}

-- ---- the words of a transmission

pub sent_twice : (p : Polarity) (w : ℕ) → w < 2 ^ 32 → as_sent p (as_sent p w) ≡ w
sent_twice Upright w small = refl
sent_twice Inverted w small = omega arith

pub sent_fits : (p : Polarity) (w : ℕ) → w < 2 ^ 32 → as_sent p w < 2 ^ 32
sent_fits Upright w small = small
sent_fits Inverted w small = omega arith

abbrev word_bits : Polarity → List ℕ → List ℕ
word_bits p ws = flat_map (high_first 32) (map (as_sent p) ws)

word_bits_long : (p : Polarity) (ws : List ℕ) → length (word_bits p ws) ≡ 32 * length ws
word_bits_long p ws =
    length-flat_map-wide 32 (high_first 32) (map (as_sent p) ws) (λ x. length-high_first 32 x) ∙ ap (λ (n : ℕ). 32 * n) (length-map ws (as_sent p))

word_in : (p : Polarity) (ws rest : List ℕ) (j : ℕ) → All (λ w. w < 2 ^ 32) ws → j < length ws
    → as_sent p (word_on (word_bits p ws ++ rest) (32 * j)) ≡ get_or ws j 0
word_in p [] rest j fit below = absurd (omega arith)
word_in p (w ∷ ws) rest zero fit below =
    let small : w < 2 ^ 32 = All-head (λ v. v < 2 ^ 32) w ws fit in
    let none : 32 * 0 ≡ 0 = omega arith in
    ap (λ (l : List ℕ). as_sent p (word_on l 0)) (append_assoc (high_first 32 (as_sent p w)) (word_bits p ws) rest)
    ∙ ap (as_sent p) (number_behind [] 0 (as_sent p w) (word_bits p ws ++ rest) refl (sent_fits p w small)) ∙ sent_twice p w small
word_in p (w ∷ ws) rest (suc j) fit below =
    let next : 32 * suc j ≡ length (high_first 32 (as_sent p w)) + 32 * j = omega (arith, length-high_first 32 (as_sent p w)) in
    ap₂ (λ (l : List ℕ) (n : ℕ). as_sent p (word_on l n)) (append_assoc (high_first 32 (as_sent p w)) (word_bits p ws) rest) next
    ∙ ap (as_sent p) (shift_word (high_first 32 (as_sent p w)) (word_bits p ws ++ rest) (32 * j))
    ∙ word_in p ws rest j (All-tail (λ v. v < 2 ^ 32) w ws fit) (omega arith)

-- ---- synchronisation codewords stand at every seventeenth place

sync_there : (k : ℕ) (T : List ℕ) → 16 * k < length T → get_or (synced 0 T) (17 * k) 0 ≡ sync_word
sync_there k T below =
    let A = take (16 * k) T in
    let long = length-take-le (16 * k) T (omega arith) in
    let first : (0 + length A) % 16 ≡ 0 = omega arith in
    let count : 17 * k ≡ length (synced 0 A) = omega (arith, synced_count 0 A) in
    ap (λ (l : List ℕ). get_or (synced 0 l) (17 * k) 0) (sym (take-append-drop (16 * k) T) ∙ ap (λ (l : List ℕ). A ++ l) (drop_more T (16 * k) 0 below))
    ∙ rw (synced_two 0 A, eq-eqb _ _ first, count) (get_or-append_seam (synced 0 A) sync_word _ 0)

-- ---- what was sent is mended again

zip_cons : {B : Type 0} (R : ℕ → B → Type 0) (t : ℕ) (ts : List ℕ) (ys : List B) → AllZip R (t ∷ ts) ys
    → (y : B) × (zs : List B) × (ys ≡ y ∷ zs) × R t y × AllZip R ts zs
zip_cons R t ts [] near = absurd near
zip_cons R t ts (y ∷ zs) near = (y, zs, refl, near.0, near.1)

mended_again : (i j : ℕ) (T ys : List ℕ) (ms : List (Option ℕ)) → j ≡ i + (i + 15) / 16 → All IsCodeword T → AllZip IsNear (synced i T) ys
    → AllZip IsMended (unsynced j ys) ms → ms ≡ map Some T
mended_again i j [] [] [] e are near each = refl
mended_again i j [] [] (m ∷ ms) e are near each = absurd each
mended_again i j [] (y ∷ ys) ms e are near each = absurd near
mended_again i j (w ∷ T) ys ms e are near each =
    let is = All-head IsCodeword w T are in
    let rest = All-tail IsCodeword w T are in
    elim (cases_eq (i % 16) 0) [
      | inl first ↦
          let here : j % 17 ≡ 0 = omega arith in
          let next : (j + 1) % 17 ≢ 0 = omega arith in
          let sync = zip_cons IsNear sync_word (w ∷ synced (i + 1) T) ys (rw (eq-eqb _ _ first) at near) in
          let word = zip_cons IsNear w (synced (i + 1) T) sync.1 sync.4 in
          let m = zip_cons IsMended word.0 (unsynced (j + 1 + 1) word.1) ms (rw (sync.2, word.2, eq-eqb _ _ here, ne_eqb _ _ next) at each) in
          m.2 ∙ ap₂ (λ (v : Option ℕ) (l : List (Option ℕ)). v ∷ l) (mended_back w word.0 m.0 is word.3 m.3)
          (mended_again (i + 1) (j + 1 + 1) T word.1 m.1 (omega arith) rest word.4 m.4)
      | inr other ↦
          let here : j % 17 ≢ 0 = omega arith in
          let word = zip_cons IsNear w (synced (i + 1) T) ys (rw (ne_eqb _ _ other) at near) in
          let m = zip_cons IsMended word.0 (unsynced (j + 1) word.1) ms (rw (word.2, ne_eqb _ _ here) at each) in
          m.2 ∙ ap₂ (λ (v : Option ℕ) (l : List (Option ℕ)). v ∷ l) (mended_back w word.0 m.0 is word.3 m.3)
          (mended_again (i + 1) (j + 1) T word.1 m.1 (omega arith) rest word.4 m.4)
    ]

pub only_near : (t y : ℕ) → IsCodeword t → IsNear t y → y < 2 ^ 32 → IsOnlyNear y t
only_near t y is near small =
    elim (numbers_are_repaired_lem y small) [
      | inl none ↦ absurd (none t is near)
      | inr only ↦ subst (IsOnlyNear y) (sym (only.1.only t is near)) only.1
    ]

-- codewords are mended to themselves
mended_itself : (T : List ℕ) → All IsCodeword T → AllZip IsMended T (map Some T)
mended_itself [] are = tt
mended_itself (w ∷ T) are =
    let is = All-head IsCodeword w T are in
    let near : IsNear w w = rw (xor_self w) (omega (arith, ones_le_self 0)) in
    (only_near w w is near is.fits, mended_itself T (All-tail IsCodeword w T are))

said_some : (T : List ℕ) → map said (map Some T) ≡ map Some (map kind_of T)
said_some [] = refl
said_some (w ∷ T) = ap (λ (l : List (Option Kind)). Some (kind_of w) ∷ l) (said_some T)

without_orphans_same : (b : Bool) (ks : List Kind) → HasNoOrphan b ks → without_orphans b (map Some ks) ≡ ks
without_orphans_same b [] h = refl
without_orphans_same b (Idle ∷ ks) h = ap (λ (l : List Kind). Idle ∷ l) (without_orphans_same false ks h)
without_orphans_same b (Address high function ∷ ks) h = ap (λ (l : List Kind). Address high function ∷ l) (without_orphans_same true ks h)
without_orphans_same true (Message bits ∷ ks) h = ap (λ (l : List Kind). Message bits ∷ l) (without_orphans_same true ks h.1)
without_orphans_same false (Message bits ∷ ks) h = absurd (cc h.0)

-- ---- a transmission among other bits

sync_codeword : IsCodeword 0x7cd215d8
unfolding combine columns check_of
sync_codeword = IsCodeword-from_low 0x7cd215d8 (lit< tt) refl

synced_codewords : (i : ℕ) (T : List ℕ) → All IsCodeword T → All IsCodeword (synced i T)
synced_codewords i [] are = All-nil IsCodeword
synced_codewords i (w ∷ T) are =
    let rest = All-cons IsCodeword w (synced (i + 1) T) (All-head IsCodeword w T are) (synced_codewords (i + 1) T (All-tail IsCodeword w T are)) in
    elim (cases_eq (i % 16) 0) [
      | inl e ↦ rw (eq-eqb _ _ e) (All-cons IsCodeword sync_word (w ∷ synced (i + 1) T) sync_codeword rest)
      | inr n ↦ rw (ne_eqb _ _ n) rest
    ]

-- words of which none is past repair
none_lost : (g : ℕ → ℕ) (a n : ℕ) → ((j : ℕ) → a ≤ j → j < a + n → (g j < 2 ^ 32) × (¬ HasNoneNear (g j)))
    → (ms : List (Option ℕ)) × AllZip IsMended (map g (range_with_len a n)) ms × (lost_words ms ≡ 0)
none_lost g a zero kept = ([], tt, refl)
none_lost g a (suc n) kept =
    let rest = none_lost g (a + 1) n (λ j low high. kept j (omega arith) (omega arith)) in
    let here = kept a (omega arith) (omega arith) in
    elim (numbers_are_repaired_lem (g a) here.0) [
      | inl far ↦ absurd (here.1 far)
      | inr only ↦ (Some only.0 ∷ rest.0, (only.1, rest.1), rest.2)
    ]

-- ---- the run that holds a synchronisation codeword before which it is quiet

abbrev pages_of : List (List Page) → List Page
pages_of pss = flat_map (λ (here : List Page). here) pss

pub record IsOn (b : ℕ) (p : Polarity) (u : Run) : Type 0 where
  pub k : ℕ
  pub below : k < u.batches
  pub place : u.bit + 544 * k ≡ b
  pub polarity : u.polarity ≡ p

-- the reception of that run, among others
pub record IsHeld (bits : List ℕ) (b : ℕ) (p : Polarity) (rs : List Reception) : Type 0 where
  pub earlier : List Reception
  pub reception : Reception
  pub later : List Reception
  pub whole : rs ≡ earlier ++ (reception ∷ later)
  pub first : ℕ
  pub run : Run
  pub is_run : IsSyncRun bits first run
  pub is : IsReception bits run reception
  pub on : IsOn b p run

module _ (bits : List ℕ) (b : ℕ) (p : Polarity) (fits : WordsFit bits) (there : IsSynchronised bits b p) (quiet : IsQuiet bits (b - 544) b) where
  on_here : (k : ℕ) (u : Run) → k < u.batches → IsSynchronised bits (u.bit + 544 * k) u.polarity → u.bit + 544 * k ≤ b → b < u.bit + 544 * k + 544
      → IsOn b p u
  on_here k u below here low high =
      elim (cases_lt (u.bit + 544 * k) b) [
        | inl less ↦ absurd (quiet (u.bit + 544 * k) (omega arith) less u.polarity here)
        | inr more ↦
            let same : u.bit + 544 * k ≡ b = omega arith in
            record { k = k; below = below; place = same; polarity = same_polarity bits b u.polarity p (fits b) (rw same at here) there }
      ]

  on_step : (first k : ℕ) (u : Run) → IsSyncRun bits first u → k < u.batches → u.bit + 544 * k ≤ b → b < u.bit + 544 * k + 544 → IsOn b p u
  on_step first k u run below low high =
      elim (cases_eq k 0) [
        | inl start ↦
            let same : u.bit ≡ u.bit + 544 * k = omega arith in
            on_here k u below (subst (λ (n : ℕ). IsSynchronised bits n u.polarity) same run.begins) low high
        | inr later ↦
            elim (run.each k below) [
              | inl here ↦ on_here k u below here low high
              | inr bridged ↦ absurd (bridged.quiet b (omega arith) (omega arith) p there)
            ]
      ]

  on_run : (first : ℕ) (u : Run) → IsSyncRun bits first u → first ≤ b → b ≤ last_sync u → IsOn b p u
  on_run first u run low high =
      elim (cases_lt b u.bit) [
        | inl less ↦ absurd (run.quiet b low less p there)
        | inr more ↦ let some = run.some in on_step first ((b - u.bit) / 544) u run (omega arith) (omega arith) (omega arith)
      ]

  end_early : (first : ℕ) (u : Run) (r : Reception) → IsSyncRun bits first u → last_sync u < b → held_end u r ≤ b + 31
  end_early first u r run before =
      let some = run.some in
      elim (cases_lt (last_sync u) (b - 544)) [
        | inl early ↦ omega (arith, min-le_right r.words (17 * u.batches))
        | inr late ↦ absurd (quiet (last_sync u) late before u.polarity run.last)
      ]

  module _ (few : (u : Run) → u.bit ≡ b → u.polarity ≡ p → HasFewLost bits u) where
    held_by : (first held : ℕ) (rs : List Reception) → first ≤ b → held ≤ b + 31 → AreFound bits first held rs → IsHeld bits b p rs
    held_by first held rs low late (nothing none) = absurd (none b low (omega (arith, there.within)) p there)
    held_by first held rs low late (counted u r more run counts is front rest) =
        elim (cases_lt (last_sync u) b) [
          | inl before ↦
              let next = held_by (last_sync u + 1) (held_end u r) more (omega arith) (end_early first u r run before) rest in
              record {
                earlier = r ∷ next.earlier;
                reception = next.reception;
                later = next.later;
                whole = ap (λ (l : List Reception). r ∷ l) next.whole;
                first = next.first;
                run = next.run;
                is_run = next.is_run;
                is = next.is;
                on = next.on;
              }
          | inr past ↦ record {
            earlier = [];
            reception = r;
            later = more;
            whole = refl;
            first = first;
            run = u;
            is_run = run;
            is = is;
            on = on_run first u run low past;
          }
        ]
    held_by first held rs low late (passed u more run not rest) =
        elim (cases_lt (last_sync u) b) [
          | inl before ↦ held_by (last_sync u + 1) held more (omega arith) late rest
          | inr past ↦
              let on = on_run first u run low past in
              absurd (elim (cases_lt 1 u.batches) [
                | inl many ↦ not (inl many)
                | inr one ↦
                    let bit : u.bit ≡ b = omega (arith, on.place, on.below) in
                    not (inr (omega (arith, bit), few u bit on.polarity))
              ])
        ]

-- what stands among the pages of one of the receptions stands among those of all
among_all : (ps : List Page) (P : Reception → List Page → Type 0) (earlier : List Reception) (r : Reception) (later : List Reception)
    (pss : List (List Page)) → AllZip P (earlier ++ (r ∷ later)) pss → ((here : List Page) → P r here → StandAmong ps here) → StandAmong ps (pages_of pss)
among_all ps P [] r later [] each shows = absurd each
among_all ps P [] r later (here ∷ pss) each shows =
    let mine = shows here each.0 in
    record { front = mine.front; back = mine.back ++ pages_of pss; whole = ap (λ (l : List Page). l ++ pages_of pss) mine.whole ∙ simp append_assoc }
among_all ps P (q ∷ earlier) r later [] each shows = absurd each
among_all ps P (q ∷ earlier) r later (here ∷ pss) each shows =
    let next = among_all ps P earlier r later pss each.1 shows in
    record { front = here ++ next.front; back = next.back; whole = rw next.whole (simp append_assoc) }

-- ---- what is captured behind other words

unsynced_shift : (i j : ℕ) (ws : List ℕ) → i % 17 ≡ j % 17 → unsynced i ws ≡ unsynced j ws
unsynced_shift i j [] e = refl
unsynced_shift i j (w ∷ ws) e =
    ap₂ (λ (n : ℕ) (l : List ℕ). if n == 0 then l else (w ∷ l)) e (unsynced_shift (i + 1) (j + 1) ws (omega arith))

zip_split : (xs ys : List ℕ) (ms : List (Option ℕ)) → AllZip IsMended (xs ++ ys) ms
    → AllZip IsMended xs (take (length xs) ms) × AllZip IsMended ys (drop (length xs) ms)
zip_split [] ys ms each = (tt, each)
zip_split (x ∷ xs) ys [] each = absurd each
zip_split (x ∷ xs) ys (m ∷ ms) each = let rest = zip_split xs ys ms each.1 in ((each.0, rest.0), rest.1)

-- whether a page is open after words
abbrev open_after_all : Bool → List (Option Kind) → Bool
open_after_all b [] = b
open_after_all b (m ∷ ms) = open_after_all (stays_open b m) ms

without_orphans_long : (b : Bool) (ms : List (Option Kind)) → length (without_orphans b ms) ≡ length ms
without_orphans_long b [] = refl
without_orphans_long b (m ∷ ms) = let rest = without_orphans_long (stays_open b m) ms in omega arith

without_orphans_two : (b : Bool) (ms ns : List (Option Kind)) → without_orphans b (ms ++ ns) ≡ without_orphans b ms ++ without_orphans (open_after_all b ms) ns
without_orphans_two b [] ns = refl
without_orphans_two b (m ∷ ms) ns = ap (λ (l : List Kind). without_orphan b m ∷ l) (without_orphans_two (stays_open b m) ms ns)

ends_closed : (b : Bool) (ks : List Kind) → EndsIdle ks → open_after_all b (map Some ks) ≡ false
ends_closed b [] e = absurd e
ends_closed b (w ∷ []) e = ap (λ (k : Kind). stays_open b (Some k)) e
ends_closed b (w ∷ v ∷ ks) e = ends_closed (stays_open b (Some w)) (v ∷ ks) e

-- nothing is open after words, or none follow
after_closed : (b : Bool) (after : List ℕ) (ms : List (Option ℕ)) → AllZip IsMended (unsynced 0 after) ms → (after ≡ []) ⊎ (b ≡ false)
    → HasNoOrphan false (without_orphans b (map said ms))
after_closed b after ms each (inr closed) = rw closed (keeps_no_orphan false (map said ms))
after_closed b [] [] each (inl none) = tt
after_closed b [] (m ∷ ms) each (inl none) = absurd each
after_closed b (w ∷ after) ms each (inl none) = absurd (cc)

-- the words of a transmission among those that are captured
pub record StandsBetween (before T : List ℕ) (ps : List Page) (ms : List (Option Kind)) : Type 0 where
  pub left : List (Option Kind)
  pub right : List (Option Kind)
  pub all : ms ≡ left ++ (map Some (map kind_of T) ++ right)
  pub long : length left ≡ length (unsynced 0 before)
  pub back : List Page
  pub pages : pages_from 0 (without_orphans false ms) ≡ pages_from 0 (without_orphans false left) ++ (ps ++ back)

module _ (before Y after T : List ℕ) (ps : List Page) (are : All IsCodeword T) (near : AllZip IsNear (synced 0 T) Y)
    (reads : Reads (map kind_of T) 0 ps) where
  pub stands_between : (mended : List (Option ℕ)) → AllZip IsMended (unsynced 0 (before ++ (Y ++ after))) mended → length before % 17 ≡ 0 → length Y % 17 ≡ 0
      → (after ≡ []) ⊎ EndsIdle (map kind_of T) → StandsBetween before T ps (map said mended)
  stands_between mended each first_whole whole ended =
      let words : unsynced 0 (before ++ (Y ++ after)) ≡ unsynced 0 before ++ (unsynced 0 Y ++ unsynced 0 after) =
      unsynced_more 0 before (Y ++ after)
      ∙ ap (λ (l : List ℕ). unsynced 0 before ++ l) (unsynced_shift (0 + length before) 0 (Y ++ after) (omega arith)
      ∙ unsynced_more 0 Y after ∙ ap (λ (l : List ℕ). unsynced 0 Y ++ l) (unsynced_shift (0 + length Y) 0 after (omega arith))) in
      let parts = zip_split (unsynced 0 before) (unsynced 0 Y ++ unsynced 0 after) mended (subst (λ (l : List ℕ). AllZip IsMended l mended) words each) in
      let left = take (length (unsynced 0 before)) mended in
      let later = drop (length (unsynced 0 before)) mended in
      let rest = zip_split (unsynced 0 Y) (unsynced 0 after) later parts.1 in
      let right = drop (length (unsynced 0 Y)) later in
      let K : List Kind = map kind_of T in
      let same : map said (take (length (unsynced 0 Y)) later) ≡ map Some K =
      ap (map said) (mended_again 0 0 T Y (take (length (unsynced 0 Y)) later) (omega arith) are near rest.0) ∙ said_some T in
      let all : map said mended ≡ map said left ++ (map Some K ++ map said right) =
      ap (map said) (sym (take-append-drop (length (unsynced 0 before)) mended)
      ∙ ap (λ (l : List (Option ℕ)). left ++ l) (sym (take-append-drop (length (unsynced 0 Y)) later))) ∙ simp (map-append, same) in
      let plain = reads_plainly reads in
      let b : Bool = open_after_all (open_after_all false (map said left)) (map Some K) in
      let first : List Kind = without_orphans false (map said left) in
      let last : List Kind = without_orphans b (map said right) in
      let kinds : without_orphans false (map said mended) ≡ first ++ (K ++ last) =
      ap (without_orphans false) all ∙ simp without_orphans_two (ap (λ (l : List Kind). first ++ (l ++ last))
      (without_orphans_same (open_after_all false (map said left)) K (no_orphan_any (open_after_all false (map said left)) K plain.no_orphan))) in
      let closed : HasNoOrphan false last = after_closed b after right rest.1
      (elim ended [ inl none ↦ inl none | inr idle ↦ inr (ends_closed (open_after_all false (map said left)) K idle) ]) in
      let joined : HasNoOrphan false (K ++ last) = no_orphan_join false K last plain.no_orphan closed in
      let long_left : length (map said left) ≡ length (unsynced 0 before) =
      length-map left said ∙ AllZip-long IsMended (unsynced 0 before) left parts.0 in
      let long : length first ≡ length (unsynced 0 before) = without_orphans_long false (map said left) ∙ long_left in
      let count = unsynced_count 0 before in
      record {
        left = map said left;
        right = map said right;
        all = all;
        long = long_left;
        back = pages_from (length K) last;
        pages = ap (pages_from 0) kinds
            ∙ pages_join 0 (length first) first (K ++ last) (omega arith) joined
            ∙ ap (λ (l : List Page). pages_from 0 first ++ l) (pages_shift (length first) 0 (K ++ last) (omega (arith, long, count))
            ∙ pages_join 0 (length K) K last (omega arith) closed ∙ ap (λ (l : List Page). l ++ pages_from (length K) last) (sym plain.pages));
      }

-- words at following places in two parts
range_two : (g : ℕ → ℕ) (a m n t j : ℕ) → t ≡ m + n → j ≡ a + m
    → map g (range_with_len a t) ≡ map g (range_with_len a m) ++ map g (range_with_len j n)
range_two g a zero n t j all from =
    let long : t ≡ n = omega arith in
    let start : j ≡ a = omega arith in
    rw (long, start) refl
range_two g a (suc m) n zero j all from = absurd (omega arith)
range_two g a (suc m) n (suc t) j all from = ap (λ (l : List ℕ). g a ∷ l) (range_two g (a + 1) m n t j (omega arith) (omega arith))

like_of : (bits : List ℕ) (b : ℕ) (p : Polarity) → IsSynchronised bits b p → IsLikeSynchronised bits b p
like_of bits b p f = let near = f.near in record { within = f.within; like = omega arith }

-- ---- a transmission among other bits

module _ (A R : List ℕ) (p : Polarity) (ps : List Page) (X : List ℕ) (f : IsReceived p ps X) where
  abbrev pub whole_bits : List ℕ
  whole_bits = A ++ (X ++ R)

  pub words_long : length f.words ≡ 17 * f.batches
  words_long = omega (arith, AllZip-long IsNear (synced 0 f.codewords) f.words f.near, synced_count 0 f.codewords, f.whole.1)

  sent_long : length (synced 0 f.codewords) ≡ 17 * f.batches
  sent_long = omega (arith, synced_count 0 f.codewords, f.whole.1)

  pub batches_long : length X ≡ 544 * f.batches
  batches_long = omega (arith, ap length f.sent, word_bits_long p f.words, words_long)

  all_long : length whole_bits ≡ length A + 544 * f.batches + length R
  all_long = omega (arith, length-append A (X ++ R), length-append X R, batches_long)

  pub word_of : (j : ℕ) → j < 17 * f.batches → sent_at whole_bits p (length A + 32 * j) ≡ get_or f.words j 0
  word_of j below =
      word_there whole_bits p (length A + 32 * j) (omega (arith, all_long))
      ∙ ap (as_sent p) (shift_word A (X ++ R) (32 * j))
      ∙ ap (λ (l : List ℕ). as_sent p (word_on (l ++ R) (32 * j))) f.sent
      ∙ word_in p f.words R j f.fit (omega (arith, words_long))

  word_near : (j : ℕ) → j < 17 * f.batches → IsNear (get_or (synced 0 f.codewords) j 0) (sent_at whole_bits p (length A + 32 * j))
  word_near j below =
      subst (IsNear (get_or (synced 0 f.codewords) j 0)) (sym (word_of j below))
      (AllZip-get_or IsNear (synced 0 f.codewords) f.words j 0 0 f.near (omega (arith, sent_long)))

  word_kept : (j : ℕ) → j < 17 * f.batches → ¬ HasNoneNear (sent_at whole_bits p (length A + 32 * j))
  word_kept j below far =
      far (get_or (synced 0 f.codewords) j 0)
      (All-get_or IsCodeword (synced 0 f.codewords) j 0 (omega (arith, sent_long)) (synced_codewords 0 f.codewords f.are)) (word_near j below)

  pub batch_there : (k : ℕ) → k < f.batches → IsSynchronised whole_bits (length A + 544 * k) p
  batch_there k below =
      let e : 32 * (17 * k) ≡ 544 * k = omega arith in
      let sync = sync_there k f.codewords (omega (arith, f.whole.1)) in
      let within : length A + 32 * (17 * k) + 32 ≤ length whole_bits = omega (arith, all_long) in
      record {
        within = omega (arith, all_long);
        near = subst (λ (n : ℕ). IsNear sync_word (as_sent p (word_on whole_bits (length A + n)))) e
            (subst (λ (w : ℕ). IsNear sync_word w) (word_there whole_bits p (length A + 32 * (17 * k)) within)
            (subst (λ (s : ℕ). IsNear s (sent_at whole_bits p (length A + 32 * (17 * k)))) sync (word_near (17 * k) (omega arith))));
      }

  joined : (A ++ X) ++ R ≡ whole_bits
  joined = append_assoc A X R

  place_behind : (q : ℕ) → length A + 544 * f.batches + q ≡ length (A ++ X) + q
  place_behind q = omega (arith, length-append A X, batches_long)

  none_like : ¬ IsLikeSynchronised R 0 p → ¬ IsLikeSynchronised whole_bits (length A + 544 * f.batches) p
  none_like none there =
      let e : length A + 544 * f.batches ≡ length (A ++ X) + 0 = omega (arith, place_behind 0) in
      none (like_back (A ++ X) R 0 p (subst (λ (l : List ℕ). IsLikeSynchronised l (length (A ++ X) + 0) p) (sym joined)
      (subst (λ (n : ℕ). IsLikeSynchronised whole_bits n p) e there)))

  none_later : ¬ IsSynchronised R 544 p → ¬ IsSynchronised whole_bits (length A + 544 * f.batches + 544) p
  none_later none there =
      none (shift_back (A ++ X) R 544 p (subst (λ (l : List ℕ). IsSynchronised l (length (A ++ X) + 544) p) (sym joined)
      (subst (λ (n : ℕ). IsSynchronised whole_bits n p) (place_behind 544) there)))

  at_place : (u : Run) (q j : ℕ) → u.polarity ≡ p → q ≡ length A + 32 * j → sent_at whole_bits u.polarity q ≡ sent_at whole_bits p (length A + 32 * j)
  at_place u q j polarity place = ap₂ (λ (r : Polarity) (n : ℕ). sent_at whole_bits r n) polarity place

  pub few_lost : (u : Run) → u.bit ≡ length A → u.polarity ≡ p → HasFewLost whole_bits u
  few_lost u bit polarity =
      let some = f.whole.0 in
      let all = none_lost (λ j. sent_at whole_bits u.polarity (u.bit + 32 * j)) 1 16
      (λ j low high.
      let same = at_place u (u.bit + 32 * j) j polarity (omega (arith, bit)) in (
        subst (λ (w : ℕ). w < 2 ^ 32) (sym (same ∙ word_of j (omega arith))) (All-get_or (λ w. w < 2 ^ 32) f.words j 0 (omega (arith, words_long)) f.fit),
        λ far. word_kept j (omega arith) (subst HasNoneNear same far),
      )) in
      record { mended = all.0; each = all.1; few = omega (arith, all.2) }

  module _ (first : ℕ) (u : Run) (r : Reception) (run : IsSyncRun whole_bits first u) (is : IsReception whole_bits u r) (on : IsOn (length A) p u) where
    least : on.k + f.batches ≤ u.batches
    least =
        elim (cases_lt u.batches (on.k + f.batches)) [
          | inl less ↦
              let e : length A + 544 * (u.batches - on.k) ≡ u.bit + 544 * u.batches = omega (arith, on.place, on.below) in
              let there = batch_there (u.batches - on.k) (omega (arith, on.below)) in
              absurd (run.none (subst (λ (q : Polarity). IsSynchronised whole_bits (run_end u) q) (sym on.polarity)
              (subst (λ (n : ℕ). IsSynchronised whole_bits n p) e there)))
          | inr more ↦ more
        ]

    pub least_batches : on.k + f.batches ≤ r.batches
    least_batches = elim is.batches [ inl more ↦ omega (arith, more.1, least) | inr same ↦ omega (arith, same.1, least) ]

    -- no word of it is left out
    pub least_words : 17 * (on.k + f.batches) ≤ r.words
    least_words =
        let some = f.whole.0 in
        elim (cases_lt r.words (17 * (on.k + f.batches))) [
          | inl less ↦
              elim is.words.ends [
                | inl all ↦ absurd (omega (arith, all, less, least_batches))
                | inr broken ↦
                    let j : ℕ = r.words - 17 * on.k in
                    let same = at_place u (u.bit + 32 * r.words) j on.polarity (omega (arith, on.place, broken.last, least_batches)) in
                    absurd (word_kept j (omega (arith, less, broken.last, least_batches)) (subst HasNoneNear same broken.here))
              ]
          | inr more ↦ more
        ]

    -- where nothing goes on behind it, no batch follows
    module _ (over : NothingFollows p R) where
      most : u.batches ≤ on.k + f.batches
      most =
          let some = f.whole.0 in
          let end : u.bit + 544 * (on.k + f.batches) ≡ length A + 544 * f.batches = omega (arith, on.place) in
          let later : u.bit + 544 * (on.k + f.batches - 1) + 2 * 544 ≡ length A + 544 * f.batches + 544 = omega (arith, on.place) in
          no_more whole_bits u.bit (on.k + f.batches) u.batches u.polarity (omega arith) run.each
          (λ there. none_like over.ends (like_of whole_bits (length A + 544 * f.batches) p
          (subst (λ (q : Polarity). IsSynchronised whole_bits (length A + 544 * f.batches) q) on.polarity
          (subst (λ (n : ℕ). IsSynchronised whole_bits n u.polarity) end there))))
          (λ bridged. none_later over.stays (subst (λ (q : Polarity). IsSynchronised whole_bits (length A + 544 * f.batches + 544) q) on.polarity
          (subst (λ (n : ℕ). IsSynchronised whole_bits n u.polarity) later bridged.there)))

      pub own_run : u.batches ≡ on.k + f.batches
      own_run = omega (arith, least, most)

      pub own_batches : r.batches ≡ on.k + f.batches
      own_batches =
          let here : run_end u ≡ length A + 544 * f.batches = omega (arith, on.place, own_run) in
          elim is.batches [
            | inl like ↦
                absurd (none_like over.ends (subst (λ (q : Polarity). IsLikeSynchronised whole_bits (length A + 544 * f.batches) q) on.polarity
                (subst (λ (n : ℕ). IsLikeSynchronised whole_bits n u.polarity) here like.0)))
            | inr same ↦ omega (arith, same.1, own_run)
          ]

    -- the words at so many places from one on
    abbrev pub placed_words : (place count : ℕ) → List ℕ
    placed_words place count = map (received_word whole_bits r) (range_with_len place count)

    -- the place of its first word
    abbrev pub own_place : ℕ
    own_place = 17 * (batches_in_front r + on.k)

    own_words : map (received_word whole_bits r) (range_with_len own_place (17 * f.batches)) ≡ f.words
    own_words =
        same_number_lists (map (received_word whole_bits r) (range_with_len own_place (17 * f.batches))) f.words
        (length-map-range_with_len (received_word whole_bits r) own_place (17 * f.batches) ∙ sym words_long)
        (λ i below.
        let small : i < 17 * f.batches = omega (arith, length-map-range_with_len (received_word whole_bits r) own_place (17 * f.batches)) in
        let polarity : r.polarity ≡ p = is.polarity ∙ on.polarity in
        let place : r.bit + 32 * (17 * on.k + i) ≡ length A + 32 * i = omega (arith, is.bit, on.place) in
        get_or-map-range_with_len (received_word whole_bits r) own_place (17 * f.batches) i (own_place + i) 0 small refl
        ∙ word_read whole_bits r (own_place + i) (17 * on.k + i) (omega arith) (omega (arith, least_words))
        ∙ ap₂ (λ (q : Polarity) (n : ℕ). sent_at whole_bits q n) polarity place ∙ word_of i small)

    pub received_are : received whole_bits r ≡ (placed_words 0 own_place) ++ (f.words ++ (placed_words (own_place + 17 * f.batches) (17 * (r.batches - (on.k + f.batches)))))
    received_are =
        let later = 17 * (r.batches - (on.k + f.batches)) in
        range_two (received_word whole_bits r) 0 own_place (17 * f.batches + later) (17 * all_batches r) own_place (omega (arith, least_batches)) (omega arith)
        ∙ ap (λ (l : List ℕ). (placed_words 0 own_place) ++ l)
        (range_two (received_word whole_bits r) own_place (17 * f.batches) later (17 * f.batches + later) (own_place + 17 * f.batches) (omega arith) (omega arith)
        ∙ ap (λ (l : List ℕ). l ++ placed_words (own_place + 17 * f.batches) later) own_words)

    pub no_words_behind : NothingFollows p R → placed_words (own_place + 17 * f.batches) (17 * (r.batches - (on.k + f.batches))) ≡ []
    no_words_behind over =
        let none : 17 * (r.batches - (on.k + f.batches)) ≡ 0 = omega (arith, own_batches over) in
        ap (λ (n : ℕ). map (received_word whole_bits r) (range_with_len (own_place + 17 * f.batches) n)) none

    captured_of : (here : List Page) → EndsIdle (map kind_of f.codewords) ⊎ NothingFollows p R → AreCaptured (received whole_bits r) here → StandAmong ps here
    captured_of here ended captured =
        let long = length-map-range_with_len (received_word whole_bits r) 0 own_place in
        let front : List ℕ = placed_words 0 own_place in
        let back : List ℕ = placed_words (own_place + 17 * f.batches) (17 * (r.batches - (on.k + f.batches))) in
        let g = subst (λ (ws : List ℕ). AreCaptured ws here) received_are captured in
        let stands = stands_between front f.words back f.codewords ps f.are f.near f.reads g.mended g.each (omega (arith, long)) (omega (arith, words_long))
        (elim ended [ inl idle ↦ inr idle | inr over ↦ inl (no_words_behind over) ]) in
        record { front = pages_from 0 (without_orphans false stands.left); back = stands.back; whole = (reads_plainly g.holds).pages ∙ stands.pages }

-- ---- the pages of a transmission stand among those of the capture

-- the reception of the first batch of what a capture holds
pub held_of : (capture : List ℕ) (rs : List Reception) (ps : List Page) (h : HoldsSent (capture_bits capture) ps) → AreFound (capture_bits capture) 0 0 rs
    → IsHeld (h.before ++ (h.batches ++ h.after)) (length h.before) h.polarity rs
held_of capture rs ps h found =
    let A : List ℕ = h.before in
    let f = h.received in
    let bits : List ℕ = A ++ (h.batches ++ h.after) in
    let start : length A + 544 * 0 ≡ length A = omega arith in
    let there = subst (λ (n : ℕ). IsSynchronised bits n h.polarity) start (batch_there A h.after h.polarity ps h.batches f 0 f.whole.0) in
    held_by bits (length A) h.polarity (subst WordsFit h.whole (capture_fits capture)) there
    (subst (λ (l : List ℕ). IsQuiet l (length A - 544) (length A)) h.whole h.quiet) (few_lost A h.after h.polarity ps h.batches f) 0 0 rs (omega arith)
    (omega arith) (subst (λ (l : List ℕ). AreFound l 0 0 rs) h.whole found)

pub shows_what_was_sent : (capture : List ℕ) (rs : List Reception) (ps qs : List Page) → HoldsSent (capture_bits capture) ps → HasCaptured capture rs qs
    → StandAmong ps qs
shows_what_was_sent capture rs ps qs h g =
    let held = held_of capture rs ps h g.found in
    subst (StandAmong ps) (sym g.all)
    (among_all ps (λ (s : Reception) (here : List Page). AreCaptured (received (capture_bits capture) s) here) held.earlier held.reception held.later g.pages
    (subst (λ (l : List Reception). AllZip (λ (s : Reception) (here : List Page). AreCaptured (received (capture_bits capture) s) here) l g.pages) held.whole g.each)
    (λ here captured.
    captured_of h.before h.after h.polarity ps h.batches h.received held.first held.run held.reception held.is_run held.is held.on here h.ended
    (subst (λ (l : List ℕ). AreCaptured (received l held.reception) here) h.whole captured)))

-- ---- a transmission itself

-- words that are mended to the codewords of pages are captured as these
pub mended_captured : (words T : List ℕ) (ps : List Page) → AllZip IsMended (unsynced 0 words) (map Some T) → Reads (map kind_of T) 0 ps →
    AreCaptured words ps
mended_captured words T ps each reads =
    let kinds : without_orphans false (map said (map Some T)) ≡ map kind_of T =
    ap (without_orphans false) (said_some T) ∙ without_orphans_same false (map kind_of T) (reads_plainly reads).no_orphan in
    record { mended = map Some T; each = each; holds = subst (λ (ks : List Kind). Reads ks 0 ps) (sym kinds) reads }

pub reading_captured : (X : List ℕ) (ps : List Page) → ReadsAs X ps → AreCaptured (words_of (after_preamble X)) ps
reading_captured X ps f =
    mended_captured (words_of (after_preamble X)) f.codewords ps
    (subst (λ (ws : List ℕ). AllZip IsMended ws (map Some f.codewords)) (sym (codewords_are X f.codewords f.sent)) (mended_itself f.codewords f.sent.codewords))
    f.reads
