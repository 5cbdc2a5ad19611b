-- Words that are corrected one after the other.
use Rattle.pocsag_capture.proofs.Prelude.{◌≡◌, ◌≢◌, ℕ, ◌+◌, ◌*◌, ◌/◌, ◌%◌, ◌<◌, ◌≤◌, ◌==◌, Bool, true, false, cond, List, [], ◌∷◌, ◌++◌, length, map, All, Option, Some, None, bit_xor, count_ones, refl, sym, ap, ap₂, subst, ◌∙◌, inl, inr, arith, append_assoc, eq-eqb, if◌then◌else◌, nat_le, option_to_list, to_be_bytes, w32, AllZip, flat_map, range_with_len, cases_eq, cases_lt, le-leb, lt-leb, ne_eqb, nat_tests, flat_map-append, append-nil, length-append, map-append, All-nil, All-push, length-map-range_with_len, map-range_with_len_more, all_zipped_more, IsCodeword, kind_of, Kind, Idle, Address, Message, body_bytes, sync_word, synced, unsynced, unsynced_codeword, unsynced_more, unsynced_sync, IsMended, said, stays_open, without_orphans, count_cut, cuts_from, far_words, near_errors, page_cuts, sum_at_synchronisations, lost_words, mended_errors, wrong_bits, received_word, TakesWord, cut_by, end_by, is_lost, WordCorrector, Reception}

-- ---- counts

-- what one word at the place of a synchronisation codeword adds
pub near_few : (n : ℕ) → near_errors n ≤ 2
near_few n = grind (arith, nat_tests)

pub far_few : (n : ℕ) → far_words n ≤ 1
far_few n = grind (arith, nat_tests)

sync_more : (count : ℕ → ℕ) (j n : ℕ) (ws : List ℕ) (w : ℕ) → n ≡ j + length ws → sum_at_synchronisations count j (ws ++ w ∷ [])
    ≡ sum_at_synchronisations count j ws + cond (n % 17 == 0) (count (count_ones (bit_xor sync_word w))) 0
sync_more count j n [] w e =
    let same : n ≡ j = omega arith in
    rw same (omega arith)
sync_more count j n (v ∷ ws) w e = let rest = sync_more count (j + 1) n ws w (omega arith) in omega (arith, rest)

pub errors_more : (ws : List ℕ) (ms : List (Option ℕ)) (w : ℕ) (m : Option ℕ) → AllZip IsMended ws ms
    → mended_errors (ws ++ w ∷ []) (ms ++ m ∷ []) ≡ mended_errors ws ms + wrong_bits w m
errors_more [] [] w m each = omega arith
errors_more [] (n ∷ ms) w m each = absurd each
errors_more (v ∷ ws) [] w m each = absurd each
errors_more (v ∷ ws) (n ∷ ms) w m each = let rest = errors_more ws ms w m each.1 in omega arith

pub lost_more : (ms : List (Option ℕ)) (m : Option ℕ) → lost_words (ms ++ m ∷ []) ≡ lost_words ms + is_lost m
lost_more [] None = omega arith
lost_more [] (Some v) = omega arith
lost_more (None ∷ ms) m = let rest = lost_more ms m in omega arith
lost_more (Some u ∷ ms) m = lost_more ms m

-- ---- where pages end

-- the open page ends at the end of the words
abbrev pub last_end : Bool → Option Bool
last_end b = if b then Some true else None

pub cuts_step : (steady i : ℕ) (b : Bool) (m : Option Kind) (ms : List (Option Kind))
    → cuts_from steady i b (m ∷ ms) ≡ option_to_list (end_by (nat_le steady i) b m) ++ cuts_from steady (i + 1) (stays_open b m) ms
cuts_step steady i b None ms = refl
cuts_step steady i b (Some Idle) ms = refl
cuts_step steady i b (Some (Address high function)) ms = refl
cuts_step steady i true (Some (Message bits)) ms = refl
cuts_step steady i false (Some (Message bits)) ms = refl

-- how many pages that end are cut
pub count_more : (l : List Bool) (e : Option Bool) → count_cut (l ++ option_to_list e) ≡ count_cut l + cut_by e
count_more [] None = omega arith
count_more [] (Some true) = omega arith
count_more [] (Some false) = omega arith
count_more (true ∷ l) e = let rest = count_more l e in omega (arith, rest)
count_more (false ∷ l) e = let rest = count_more l e in omega (arith, rest)

pub few_cut : (e : Option Bool) → cut_by e ≤ 1
few_cut None = omega arith
few_cut (Some true) = omega arith
few_cut (Some false) = omega arith

-- a codeword is in step where its word is
pub same_step : (steady place n : ℕ) → place % 17 ≢ 0 → n + (place + 16) / 17 ≡ place → nat_le (17 * steady) place ≡ nat_le (16 * steady) n
same_step steady place n inside long =
    elim (cases_lt place (17 * steady)) [
      | inl less ↦
          let here : n < 16 * steady = omega arith in
          rw (lt-leb _ _ less, lt-leb _ _ here) refl
      | inr more ↦
          let here : 16 * steady ≤ n = omega arith in
          rw (le-leb _ _ more, le-leb _ _ here) refl
    ]

-- ---- bytes

-- the synchronisation codeword where a batch begins
abbrev pub sync_at : ℕ → List ℕ
sync_at i = if i % 16 == 0 then sync_word ∷ [] else []

pub synced_two : (i : ℕ) (ws vs : List ℕ) → synced i (ws ++ vs) ≡ synced i ws ++ synced (i + length ws) vs
synced_two i [] vs = ap (λ (n : ℕ). synced n vs) (omega arith)
synced_two i (w ∷ ws) vs =
    let e : i + 1 + length ws ≡ i + length (w ∷ ws) = omega arith in
    ap (λ (l : List ℕ). sync_at i ++ w ∷ l) (synced_two (i + 1) ws vs ∙ ap (λ (n : ℕ). synced (i + 1) ws ++ synced n vs) e)
    ∙ sym (append_assoc (sync_at i) (w ∷ synced (i + 1) ws) (synced (i + length (w ∷ ws)) vs))

-- a synchronisation codeword whose batch has no codeword yet
abbrev pub begun_batch : ℕ → List ℕ
begun_batch place = if place % 17 == 1 then to_be_bytes w32 sync_word else []

pub begun_none : (n : ℕ) → n % 17 ≢ 1 → begun_batch n ≡ []
begun_none n other = rw (ne_eqb _ _ other) refl

-- the bytes of a codeword that is put behind those of others
pub bytes_with : (T : List ℕ) (place v : ℕ) (before : List ℕ) → place % 17 ≢ 0 → length T + (place + 16) / 17 ≡ place →
    (before ++ (body_bytes T ++ begun_batch place)) ++ to_be_bytes w32 v ≡ before ++ body_bytes (T ++ v ∷ [])
bytes_with T place v before inside long =
    let same : begun_batch place ≡ flat_map (to_be_bytes w32) (sync_at (0 + length T)) =
    elim (cases_eq (place % 17) 1) [
      | inl one ↦
          let first : (0 + length T) % 16 ≡ 0 = omega arith in
          rw (eq-eqb _ _ one, eq-eqb _ _ first) refl
      | inr other ↦
          let next : (0 + length T) % 16 ≢ 0 = λ wrong. other (omega arith) in
          rw (ne_eqb _ _ other, ne_eqb _ _ next) refl
    ] in
    simp (synced_two 0 T (v ∷ []), flat_map-append, append_assoc, append-nil, same)

-- ---- the words of a reception, of which the first were taken

abbrev pub first_words : List ℕ → Reception → ℕ → List ℕ
first_words bits r n = map (received_word bits r) (range_with_len 0 n)

pub record IsCorrecting (bits : List ℕ) (r : Reception) (place steady : ℕ) (s : WordCorrector) : Type 0 where
  pub codewords : List ℕ
  pub mended : List (Option ℕ)
  pub ended : List Bool
  pub are : All IsCodeword codewords
  pub each : AllZip IsMended (unsynced 0 (first_words bits r place)) mended
  pub kinds : (more : List (Option Kind)) → without_orphans false (map said mended ++ more) ≡ map kind_of codewords ++ without_orphans s.is_open more
  pub ends : (more : List (Option Kind))
      → page_cuts (16 * steady) 0 (map said mended ++ more) ≡ ended ++ cuts_from (16 * steady) (length mended) s.is_open more
  pub wrong : s.corrected ≡ sum_at_synchronisations near_errors 0 (first_words bits r place) + mended_errors (unsynced 0 (first_words bits r place)) mended
  pub beyond : s.lost ≡ sum_at_synchronisations far_words 0 (first_words bits r place) + lost_words mended
  pub cuts : s.cut ≡ count_cut ended
  pub long : length codewords + (place + 16) / 17 ≡ place
  pub same_long : length mended ≡ length codewords
  pub few_cuts : s.cut ≤ place
  pub few_bits : s.corrected ≤ 32 * place
  pub few_lost : s.lost ≤ place

abbrev pub correcting_none : (bits : List ℕ) (r : Reception) (steady : ℕ)
    → IsCorrecting bits r 0 steady (record { is_open = false; corrected = 0; lost = 0; cut = 0 })
correcting_none bits r steady = record {
  codewords = [];
  mended = [];
  ended = [];
  are = All-nil IsCodeword;
  each = tt;
  kinds = λ more. refl;
  ends = λ more. refl;
  wrong = refl;
  beyond = refl;
  cuts = refl;
  long = refl;
  same_long = refl;
  few_cuts = omega arith;
  few_bits = omega arith;
  few_lost = omega arith;
}

-- what one word adds to the counts
pub few_mended : (w : ℕ) (m : Option ℕ) → IsMended w m → wrong_bits w m ≤ 2
few_mended w None is = omega arith
few_mended w (Some v) is = is.near

pub few_lost_of : (m : Option ℕ) → is_lost m ≤ 1
few_lost_of None = omega arith
few_lost_of (Some v) = omega arith

module _ (bits : List ℕ) (r : Reception) (place w steady : ℕ) (s t : WordCorrector) (is : w ≡ received_word bits r place)
    (f : IsCorrecting bits r place steady s) where
  pub words_more : first_words bits r (place + 1) ≡ first_words bits r place ++ w ∷ []
  words_more = map-range_with_len_more (received_word bits r) 0 place place (omega arith) ∙ ap (λ (v : ℕ). first_words bits r place ++ v ∷ []) (sym is)

  pub place_is : place ≡ 0 + length (first_words bits r place)
  place_is = omega (arith, length-map-range_with_len (received_word bits r) 0 place)

  pub unsynced_next : unsynced 0 (first_words bits r (place + 1)) ≡ unsynced 0 (first_words bits r place) ++ unsynced place (w ∷ [])
  unsynced_next =
      ap (unsynced 0) words_more ∙ unsynced_more 0 (first_words bits r place) (w ∷ [])
      ∙ ap (λ (n : ℕ). unsynced 0 (first_words bits r place) ++ unsynced n (w ∷ [])) (sym place_is)

  pub sum_next : (count : ℕ → ℕ) → sum_at_synchronisations count 0 (first_words bits r (place + 1))
      ≡ sum_at_synchronisations count 0 (first_words bits r place) + cond (place % 17 == 0) (count (count_ones (bit_xor sync_word w))) 0
  sum_next count = ap (sum_at_synchronisations count 0) words_more ∙ sync_more count 0 place (first_words bits r place) w place_is

  abbrev pub correcting_sync : place % 17 ≡ 0 → t.corrected ≡ s.corrected + near_errors (count_ones (bit_xor sync_word w))
      → t.is_open ≡ s.is_open → t.lost ≡ s.lost + far_words (count_ones (bit_xor sync_word w)) → t.cut ≡ s.cut
      → IsCorrecting bits r (place + 1) steady t
  correcting_sync sync corrected is_open lost cut =
      let few = near_few (count_ones (bit_xor sync_word w)) in
      let one_lost = far_few (count_ones (bit_xor sync_word w)) in
      let same : unsynced 0 (first_words bits r (place + 1)) ≡ unsynced 0 (first_words bits r place) =
      unsynced_next ∙ ap (λ (l : List ℕ). unsynced 0 (first_words bits r place) ++ l) (unsynced_sync place w sync) ∙ append-nil (unsynced 0 (first_words bits r place)) in
      let errors = rw (eq-eqb _ _ sync) at (sum_next near_errors) in
      let missing = rw (eq-eqb _ _ sync) at (sum_next far_words) in
      record {
        codewords = f.codewords;
        mended = f.mended;
        ended = f.ended;
        are = f.are;
        each = subst (λ (l : List ℕ). AllZip IsMended l f.mended) (sym same) f.each;
        kinds = λ more. rw is_open (f.kinds more);
        ends = λ more. rw is_open (f.ends more);
        wrong = omega (arith, corrected, errors, f.wrong, ap (λ (l : List ℕ). mended_errors l f.mended) same);
        beyond = omega (arith, lost, missing, f.beyond);
        cuts = cut ∙ f.cuts;
        long = omega (arith, f.long);
        same_long = f.same_long;
        few_cuts = omega (arith, f.few_cuts);
        few_bits = omega (arith, f.few_bits);
        few_lost = omega (arith, f.few_lost);
      }

  abbrev pub correcting_codeword : (v : ℕ) (is_out : Bool) (ended : Option Bool) → place % 17 ≢ 0 → is_out ≡ nat_le (17 * steady) place
      → TakesWord s t is_out w v ended → IsCorrecting bits r (place + 1) steady t
  correcting_codeword v is_out ended inside step takes =
      let few_wrong = few_mended w takes.mended takes.is_mended in
      let one_lost = few_lost_of takes.mended in
      let one_cut = few_cut ended in
      let same : unsynced 0 (first_words bits r (place + 1)) ≡ unsynced 0 (first_words bits r place) ++ w ∷ [] =
      unsynced_next ∙ ap (λ (l : List ℕ). unsynced 0 (first_words bits r place) ++ l) (unsynced_codeword place w inside) in
      let errors = rw (ne_eqb _ _ inside) at (sum_next near_errors) in
      let missing = rw (ne_eqb _ _ inside) at (sum_next far_words) in
      let long_mended = length-append f.mended (takes.mended ∷ []) in
      let long_codewords = length-append f.codewords (v ∷ []) in
      let next : length (f.mended ++ takes.mended ∷ []) ≡ length f.mended + 1 = omega arith in
      let at_index : is_out ≡ nat_le (16 * steady) (length f.mended) = step ∙ same_step steady place (length f.mended) inside (omega (arith, f.long, f.same_long)) in
      let said_more : (more : List (Option Kind)) → map said (f.mended ++ takes.mended ∷ []) ++ more ≡ map said f.mended ++ said takes.mended ∷ more =
      λ more. simp (map-append, append_assoc) in
      record {
        codewords = f.codewords ++ v ∷ [];
        mended = f.mended ++ takes.mended ∷ [];
        ended = f.ended ++ option_to_list ended;
        are = All-push IsCodeword f.codewords v f.are takes.is_codeword;
        each = subst (λ (l : List ℕ). AllZip IsMended l (f.mended ++ takes.mended ∷ [])) (sym same)
            (all_zipped_more IsMended (unsynced 0 (first_words bits r place)) f.mended w takes.mended f.each takes.is_mended);
        kinds = λ more. ap (without_orphans false) (said_more more) ∙ f.kinds (said takes.mended ∷ more)
            ∙ ap₂ (λ (k : Kind) (b : Bool). map kind_of f.codewords ++ k ∷ without_orphans b more) (sym takes.kind) (sym takes.open_after)
            ∙ simp (map-append, append_assoc);
        ends = λ more. ap (page_cuts (16 * steady) 0) (said_more more) ∙ f.ends (said takes.mended ∷ more)
            ∙ ap (λ (l : List Bool). f.ended ++ l) (cuts_step (16 * steady) (length f.mended) s.is_open (said takes.mended) more)
            ∙ rw (takes.ends, takes.open_after, at_index, next) (sym (append_assoc f.ended _ _));
        wrong = takes.bits
            ∙ (let e = errors_more (unsynced 0 (first_words bits r place)) f.mended w takes.mended f.each in
            omega (arith, errors, e, ap (λ (l : List ℕ). mended_errors l (f.mended ++ takes.mended ∷ [])) same, f.wrong));
        beyond = takes.beyond ∙ (let more = lost_more f.mended takes.mended in omega (arith, f.beyond, missing, more));
        cuts = takes.cuts ∙ ap (λ (n : ℕ). n + cut_by ended) f.cuts ∙ sym (count_more f.ended ended);
        long = omega (arith, f.long);
        same_long = omega (arith, f.same_long);
        few_cuts = omega (arith, f.few_cuts, takes.cuts);
        few_bits = omega (arith, f.few_bits, takes.bits);
        few_lost = omega (arith, f.few_lost, takes.beyond);
      }
