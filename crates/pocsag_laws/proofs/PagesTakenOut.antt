-- A page is taken out of a list of codewords: idle codewords stand in its place, and the rest reads as before.
use Rattle.pocsag_laws.proofs.Prelude.{◌≡◌, ◌≢◌, ℕ, zero, suc, ◌+◌, ◌<◌, inl, inr, List, [], ◌∷◌, ◌++◌, length, map, replicate, take, drop, get_or, remove, All, refl, sym, ap, subst, ◌∙◌, arith, append_assoc, length-append, take-append_seam, drop-append-add, drop-append_seam, get_or-append_seam, length-map, length-replicate, map-append, take-map, drop-map, get_or_append_left, get_or-append-add, All-append, All-cons, All-contains, All-drop, All-nil, All-replicate, All-take, All-contains_itself, Contains-append_cases, Contains-append_left, Contains-append_right, IsPermutation, IsCodeword, idle_word, kind_of, Kind, Idle, Address, Message, End, IsCodeword-idle, Page, AreApart, BeginsNoMessage, EndsAs, EndsIdle, EndsWhole, IsLegalFor, IsLegalList, Reads, at_end, past_idle, past_page, reads_at}
use Rattle.std.proofs.Common.{Contains}
use Rattle.std.proofs.lemmas.List.Edits.{length-remove}
use Rattle.std.proofs.lemmas.List.Sorted.{Contains-permutation, IsPermutation-remove}
use Rattle.pocsag_words.specs.declared.ending.End.TheVariants as ends

-- as many idle codewords in place of codewords
idles_instead : (ms ws : List Kind) (i : ℕ) (ps : List Page) → Reads ws (i + length ms) ps → Reads (replicate (length ms) Idle ++ ws) i ps
idles_instead [] ws i ps r = reads_at ws ps (i + 0) i (omega arith) r
idles_instead (m ∷ ms) ws i ps r =
    past_idle (idles_instead ms ws (i + 1) ps (reads_at ws ps (i + length (m ∷ ms)) (i + 1 + length ms) (omega arith) r))

-- what stands first, once the middle part is idle
begins_still : (us ms vs : List Kind) → 0 < length ms → BeginsNoMessage (us ++ (ms ++ vs)) →
    BeginsNoMessage (us ++ (replicate (length ms) Idle ++ vs))
begins_still [] [] vs some b = absurd (omega arith)
begins_still [] (m ∷ ms) vs some b = tt
begins_still (Idle ∷ us) ms vs some b = tt
begins_still (Address high function ∷ us) ms vs some b = tt
begins_still (Message bits ∷ us) ms vs some b = absurd b

-- the codewords of page k are between those before and those after it
record IsTakenOut (ws : List Kind) (i : ℕ) (ps : List Page) (k : ℕ) : Type 0 where
  before : List Kind
  gone : List Kind
  after : List Kind
  parts : ws ≡ before ++ (gone ++ after)
  some : 0 < length gone
  reads : Reads (before ++ (replicate (length gone) Idle ++ after)) i (remove ps k)

taken_out : {ws : List Kind} {i : ℕ} {ps : List Page} → Reads ws i ps → (k : ℕ) → k < length ps → IsTakenOut ws i ps k
taken_out at_end k h = absurd (omega arith)
taken_out (past_idle r) k h =
    let d = taken_out r k h in
    record {
      before = Idle ∷ d.before;
      gone = d.gone;
      after = d.after;
      parts = ap (λ v. Idle ∷ v) d.parts;
      some = d.some;
      reads = past_idle d.reads;
    }
taken_out {i = i} (past_page {high = high} {function = function} {ps = ps} items rest e b r) zero h =
    let long : length (map Message items) ≡ length items = length-map items Message in
    record {
      before = [];
      gone = Address high function ∷ map Message items;
      after = rest;
      parts = ap (λ v. Address high function ∷ v) e;
      some = omega arith;
      reads =
          idles_instead (Address high function ∷ map Message items) rest i ps
          (reads_at rest ps (i + 1 + length items) (i + length (Address high function ∷ map Message items)) (omega arith) r);
    }
taken_out (past_page {high = high} {function = function} {ws = ws} items rest e b r) (suc k) h =
    let d = taken_out r k (omega arith) in
    record {
      before = Address high function ∷ (map Message items ++ d.before);
      gone = d.gone;
      after = d.after;
      parts =
          ap (λ v. Address high function ∷ v)
          (e ∙ (ap (λ v. map Message items ++ v) d.parts ∙ sym (append_assoc (map Message items) d.before (d.gone ++ d.after))));
      some = d.some;
      reads =
          past_page items (d.before ++ (replicate (length d.gone) Idle ++ d.after))
          (append_assoc (map Message items) d.before (replicate (length d.gone) Idle ++ d.after))
          (begins_still d.before d.gone d.after d.some (subst BeginsNoMessage d.parts b)) d.reads;
    }

-- what is said of the last codeword alone, once the middle part is idle
module _ (P : List Kind → Type 0) (idle : P (Idle ∷ [])) (drops : (u w : Kind) (ws : List Kind) → P (u ∷ w ∷ ws) → P (w ∷ ws))
    (adds : (u w : Kind) (ws : List Kind) → P (w ∷ ws) → P (u ∷ w ∷ ws)) where
  last_still : (us ms vs : List Kind) → 0 < length ms → P (us ++ (ms ++ vs)) → P (us ++ (replicate (length ms) Idle ++ vs))
  last_still us [] vs some e = absurd (omega arith)
  last_still [] (m ∷ []) [] some e = idle
  last_still [] (m ∷ []) (v ∷ vs) some e = adds Idle v vs (drops m v vs e)
  last_still [] (m ∷ n ∷ ms) vs some e = adds Idle Idle _ (last_still [] (n ∷ ms) vs (omega arith) (drops m n _ e))
  last_still (u ∷ []) (m ∷ ms) vs some e = adds u Idle _ (last_still [] (m ∷ ms) vs some (drops u m _ e))
  last_still (u ∷ w ∷ us) (m ∷ ms) vs some e = adds u w _ (last_still (w ∷ us) (m ∷ ms) vs some (drops u w _ e))

ends_still : (end : End) (us ms vs : List Kind) → 0 < length ms → EndsAs end (us ++ (ms ++ vs)) →
    EndsAs end (us ++ (replicate (length ms) Idle ++ vs))
ends_still ends.Open us ms vs some e = tt
ends_still ends.Closed us ms vs some e = last_still EndsWhole tt (λ u w ws d. d) (λ u w ws d. d) us ms vs some e
ends_still ends.Idle us ms vs some e = last_still EndsIdle refl (λ u w ws d. d) (λ u w ws d. d) us ms vs some e

as_long : (ws us ms vs : List Kind) → ws ≡ us ++ (ms ++ vs) → length (us ++ (replicate (length ms) Idle ++ vs)) ≡ length ws
as_long ws us ms vs parts =
    let one = length-append us (replicate (length ms) Idle ++ vs) in
    let two = length-append us (ms ++ vs) in
    let whole : length ws ≡ length (us ++ (ms ++ vs)) = ap length parts in
    omega (arith, one, two, length-append (replicate (length ms) Idle) vs, length-append ms vs, length-replicate (length ms) Idle)

-- codewords for the kinds, once the middle part is idle
record HasWords (ks : List Kind) : Type 0 where
  pub words : List ℕ
  pub codewords : All IsCodeword words
  pub kinds : map kind_of words ≡ ks

idle_kinds : (n : ℕ) → map kind_of (replicate n idle_word) ≡ replicate n Idle
idle_kinds zero = refl
idle_kinds (suc n) = ap (λ v. Idle ∷ v) (idle_kinds n)

idle_words : (T : List ℕ) (us ms vs : List Kind) → All IsCodeword T → map kind_of T ≡ us ++ (ms ++ vs) →
    HasWords (us ++ (replicate (length ms) Idle ++ vs))
idle_words T us ms vs codewords e =
    let front = take (length us) T in
    let back = drop (length us + length ms) T in
    let fill = replicate (length ms) idle_word in
    let front_is : map kind_of front ≡ us =
    sym (take-map kind_of (length us) T) ∙ (ap (take (length us)) e ∙ take-append_seam us (ms ++ vs)) in
    let back_is : map kind_of back ≡ vs =
    sym (drop-map kind_of (length us + length ms) T)
    ∙ (ap (drop (length us + length ms)) e ∙ (drop-append-add us (ms ++ vs) (length ms) ∙ drop-append_seam ms vs)) in
    record {
      words = front ++ (fill ++ back);
      codewords =
          All-append IsCodeword front (fill ++ back) (All-take IsCodeword (length us) T codewords)
          (All-append IsCodeword fill back (All-replicate IsCodeword (length ms) idle_word IsCodeword-idle)
          (All-drop IsCodeword (length us + length ms) T codewords));
      kinds =
          map-append kind_of front (fill ++ back)
          ∙ (ap (λ v. v ++ map kind_of (fill ++ back)) front_is
          ∙ (ap (λ v. us ++ v) (map-append kind_of fill back)
          ∙ (ap (λ v. us ++ (v ++ map kind_of back)) (idle_kinds (length ms)) ∙ ap (λ v. us ++ (replicate (length ms) Idle ++ v)) back_is)));
    }

in_words : (end : End) (ks : List Kind) (b : ℕ) (R : List Page) → HasWords ks → IsLegalFor end ks b R → (U : List ℕ) × IsLegalList end U b R
in_words end ks b R w legal = (w.words, (w.codewords, subst (λ (v : List Kind). IsLegalFor end v b R) (sym w.kinds) legal))

-- the other pages of a list are others
module _ (before after : List Page) (p : Page) (apart : AreApart (before ++ p ∷ after)) where
  long : length (before ++ p ∷ after) ≡ length before + length (p ∷ after)
  long = length-append before (p ∷ after)

  here : (d : Page) → get_or (before ++ p ∷ after) (length before) d ≡ p
  here d = get_or-append_seam before p after d

  not_before : (q : Page) → Contains before q → q ≢ p
  not_before q found e =
      let k = found.0 in
      let at : get_or (before ++ p ∷ after) k q ≡ q = get_or_append_left before (p ∷ after) q k found.1 ∙ found.2 in
      apart k (length before) q found.1 (omega (arith, long)) (ap (λ (r : Page). r.address) (at ∙ (e ∙ sym (here q))))

  not_after : (q : Page) → Contains after q → q ≢ p
  not_after q found e =
      let k = found.0 in
      let at : get_or (before ++ p ∷ after) (length before + suc k) q ≡ q = get_or-append-add before (p ∷ after) (suc k) q ∙ found.2 in
      apart (length before) (length before + suc k) q (omega arith) (omega (arith, long, found.1))
      (ap (λ (r : Page). r.address) (here q ∙ (sym e ∙ sym at)))

  pub others_differ : (q : Page) → Contains (before ++ after) q → q ≢ p
  others_differ q found = elim (Contains-append_cases before after q found) [ inl h ↦ not_before q h | inr h ↦ not_after q h ]

  -- they are among pages that have all of them, once page p is gone
  pub others_left : (ps : List Page) → All (Contains ps) (before ++ p ∷ after) → (first : Contains ps p) →
      All (Contains (remove ps first.0)) (before ++ after)
  others_left ps each first =
      λ j d h.
      let q : Page = get_or (before ++ after) j d in
      let other : Contains (before ++ after) q = All-contains_itself (before ++ after) j d h in
      let whole : Contains (before ++ p ∷ after) q = elim (Contains-append_cases before after q other) [
        | inl l ↦ Contains-append_left before (p ∷ after) q l
        | inr r ↦ Contains-append_right before (p ∷ after) q (Contains-append_right (p ∷ []) after q r)
      ] in
      let moved : IsPermutation ps (p ∷ remove ps first.0) = IsPermutation-remove ps first.0 p first.1 (sym first.2) in
      let there : Contains (p ∷ remove ps first.0) q =
      Contains-permutation ps (p ∷ remove ps first.0) q moved (All-contains (Contains ps) (before ++ p ∷ after) q each whole) in
      elim (Contains-append_cases (p ∷ []) (remove ps first.0) q there) [
        | inl same ↦ absurd (others_differ q other (All-contains (λ r. r ≡ p) (p ∷ []) q (All-cons (λ r. r ≡ p) p [] refl (All-nil (λ r. r ≡ p))) same))
        | inr left ↦ left
      ]

-- without page p there are as many batches
pub page_taken_out : (end : End) (T : List ℕ) (b : ℕ) (before after : List Page) (p : Page) → AreApart (before ++ p ∷ after) →
    IsLegalList end T b (before ++ p ∷ after) → (U : List ℕ) × IsLegalList end U b (before ++ after)
page_taken_out end T b before after p apart legal =
    let was = legal.1.0 in
    let its : Contains (before ++ p ∷ after) p = (length before, omega (arith, length-append before (p ∷ after)), get_or-append_seam before p after p) in
    let first : Contains was.ps p = All-contains (Contains was.ps) (before ++ p ∷ after) p was.each its in
    let d = taken_out was.reads first.0 first.1 in
    let w = idle_words T d.before d.gone d.after legal.0 d.parts in
    let ks = d.before ++ (replicate (length d.gone) Idle ++ d.after) in
    let long = as_long (map kind_of T) d.before d.gone d.after d.parts in
    let left : IsLegalFor end ks b (before ++ after) = (
      record {
        whole = (was.whole.0, omega (arith, long, was.whole.1));
        ps = remove was.ps first.0;
        reads = d.reads;
        as_many =
            omega (arith, length-remove was.ps first.0 first.1, was.as_many, length-append before (p ∷ after), length-append before after);
        each = others_left before after p apart was.ps was.each first;
      },
      ends_still end d.before d.gone d.after d.some (subst (EndsAs end) d.parts legal.1.1),
    ) in
    in_words end ks b (before ++ after) w left
