-- A capture of transmissions and noise alone holds a reception of each and no others.
use Rattle.pocsag_laws.proofs.Prelude.{◌≡◌, ◌≢◌, ◌⊎◌, ℕ, zero, suc, ◌+◌, ◌-◌, ◌*◌, ◌/◌, ◌%◌, ◌^◌, ◌<◌, ◌≤◌, List, [], ◌∷◌, ◌++◌, length, map, All, refl, sym, ap, ap₂, subst, ◌∙◌, inl, inr, arith, append_assoc, eq-eqb, AllZip, flat_map, range_with_len, min-eq_right, cases_lt, All-head, All-tail, HasNoneNear, IsCodeword, IsNear, Page, sync_word, synced, unsynced, IsMended, as_sent, capture_bits, word_on, AreCaptured, HasCaptured, AreFound, AreReceptions, HasFewLost, HasInFront, IsBeside, IsBridged, IsOnAir, IsReception, IsSyncRun, IsSynchronised, SlipsInFront, batches_in_front, counted, held_end, in_front_of, last_sync, nothing, passed, received, received_word, sent_at, NothingFollows, IsReceived, Polarity, Reception, Run, word_cut, word_there, WordsFit, capture_fits, one_thing, same_polarity, IsOn, only_near, own_run, own_place, received_are, least_words, no_words_behind, batches_long, batch_there, few_lost, mended_captured, shift_word, shift_back, append-nil}
use Rattle.std.proofs.Common.{Some}
use Rattle.std.proofs.lemmas.List.{length-append}
use Rattle.pocsag_capture.specs.Lost.{mended_errors}
use Rattle.pocsag_pager.proofs.Damage.{zip_unsynced}
use Rattle.pocsag_capture.proofs.InFront.{same_in_front}
use Rattle.pocsag_laws.specs.OnlySent.{HasManyLost, HasNoneInFront, HoldsNoOther, IsAlone, IsCaptureOf, IsNoise, noise, sent}

-- ---- words behind other bits

word_behind : (A B : List ℕ) (n q : ℕ) → n ≡ length A + q → word_on (A ++ B) n ≡ word_on B q
word_behind A B n q e = ap (word_on (A ++ B)) e ∙ shift_word A B q

back_at : (A B : List ℕ) (n q : ℕ) (p : Polarity) → n ≡ length A + q → IsSynchronised (A ++ B) n p → IsSynchronised B q p
back_at A B n q p e f = shift_back A B q p (subst (λ (m : ℕ). IsSynchronised (A ++ B) m p) e f)

on_at : (A B : List ℕ) (n q : ℕ) (p : Polarity) → n ≡ length A + q → IsSynchronised B q p → IsSynchronised (A ++ B) n p
on_at A B n q p e f = record {
  within = omega (arith, f.within, length-append A B);
  near = subst (λ (w : ℕ). IsNear sync_word (as_sent p w)) (sym (word_behind A B n q e)) f.near;
}

bridged_back : (A B : List ℕ) (n q : ℕ) (p : Polarity) → n ≡ length A + q → IsBridged (A ++ B) n p → IsBridged B q p
bridged_back A B n q p e f = record {
  quiet = λ bit above below polarity there.
      f.quiet (length A + bit) (omega arith) (omega arith) polarity (on_at A B (length A + bit) bit polarity refl there);
  there = back_at A B (n + 2 * 544) (q + 2 * 544) p (omega arith) f.there;
}

sent_behind : (A B : List ℕ) (p : Polarity) (n q : ℕ) → n ≡ length A + q → sent_at (A ++ B) p n ≡ sent_at B p q
sent_behind A B p n q e =
    elim (cases_lt (length B) (q + 32)) [
      | inl cut ↦ word_cut (A ++ B) p n (omega (arith, length-append A B)) ∙ sym (word_cut B p q cut)
      | inr there ↦
          word_there (A ++ B) p n (omega (arith, length-append A B)) ∙ ap (as_sent p) (word_behind A B n q e) ∙ sym (word_there B p q there)
    ]

map_same_from : (g h : ℕ → ℕ) (a n : ℕ) → ((j : ℕ) → a ≤ j → j < a + n → g j ≡ h j) → map g (range_with_len a n) ≡ map h (range_with_len a n)
map_same_from g h a zero same = refl
map_same_from g h a (suc n) same =
    ap₂ (λ (x : ℕ) (l : List ℕ). x ∷ l) (same a (omega arith) (omega arith)) (map_same_from g h (a + 1) n (λ j low high. same j (omega arith) (omega arith)))

abbrev lone : ℕ → Polarity → Run
lone bit polarity = record { bit = bit; polarity = polarity; batches = 1 }

few_back : (A B : List ℕ) (n q : ℕ) (p : Polarity) → n ≡ length A + q → HasFewLost (A ++ B) (lone n p) → HasFewLost B (lone q p)
few_back A B n q p e f = record {
  mended = f.mended;
  each = subst (λ (l : List ℕ). AllZip IsMended l f.mended)
      (map_same_from (λ j. sent_at (A ++ B) p (n + 32 * j)) (λ j. sent_at B p (q + 32 * j)) 1 16
      (λ j low high. sent_behind A B p (n + 32 * j) (q + 32 * j) (omega arith))) f.each;
  few = f.few;
}

beside_behind : (A B : List ℕ) (p : Polarity) (step m k : ℕ) → m ≡ length A + k → IsBeside B p step k → IsBeside (A ++ B) p step m
beside_behind A B p step m k e f =
    let aside = sent_behind A B p (m + step) (k + step) (omega arith) in
    let due = sent_behind A B p (m + 32) (k + 32) (omega arith) in
    record {
      beside = subst IsCodeword (sym aside) f.beside;
      alone = elim f.alone [ inl none ↦ inl (λ is. none (subst IsCodeword due is)) | inr idle ↦ inr (aside ∙ idle) ];
    }

slips_behind : (A B : List ℕ) (p : Polarity) (n q count : ℕ) → n ≡ length A + q → SlipsInFront B p q count → SlipsInFront (A ++ B) p n count
slips_behind A B p n q count e f =
    let room = f.room in
    let place : n - 32 * (f.nth + 1) ≡ length A + (q - 32 * (f.nth + 1)) = omega arith in
    record {
      nth = f.nth;
      first = f.first;
      last = f.last;
      room = omega arith;
      beside = elim f.beside [
        | inl early ↦ inl (beside_behind A B p 31 (n - 32 * (f.nth + 1)) (q - 32 * (f.nth + 1)) place early)
        | inr late ↦ inr (beside_behind A B p 33 (n - 32 * (f.nth + 1)) (q - 32 * (f.nth + 1)) place late)
      ];
    }

none_in_front_behind : (A B : List ℕ) (p : Polarity) (n q : ℕ) → n ≡ length A + q → HasInFront B 0 p q 0 → HasInFront (A ++ B) (length A) p n 0
none_in_front_behind A B p n q e f =
    let are = f.are in
    let words : in_front_of B p q f.count ≡ in_front_of (A ++ B) p n f.count =
    map_same_from (λ j. sent_at B p (q - 32 * j)) (λ j. sent_at (A ++ B) p (n - 32 * j)) 1 f.count
    (λ j low high. sym (sent_behind A B p (n - 32 * j) (q - 32 * j) (omega (arith, are.room (omega arith))))) in
    record {
      count = f.count;
      errors = f.errors;
      are = record {
        most = are.most;
        room = λ some. omega (arith, are.room some);
        mended = are.mended;
        each = subst (λ (l : List ℕ). AllZip IsMended l are.mended) words are.each;
        kept = are.kept;
        wrong = are.wrong ∙ ap (λ (l : List ℕ). mended_errors l are.mended) words;
        ends = elim are.ends [
          | inl all ↦ inl all
          | inr stops ↦
              inr (elim (cases_lt q (32 * (f.count + 1))) [
                | inl over ↦ inl (omega arith)
                | inr inside ↦
                    elim stops [
                      | inl over ↦ absurd (omega (arith, over, inside))
                      | inr far ↦
                          inr (subst HasNoneNear (sym (sent_behind A B p (n - 32 * (f.count + 1)) (q - 32 * (f.count + 1)) (omega arith))) far)
                    ]
              ])
        ];
      };
      slipped = λ slips. refl;
      reads = λ steady. f.reads (λ slips. steady (slips_behind A B p n q f.count e slips));
    }

alone_behind : (A B : List ℕ) (n q : ℕ) (p : Polarity) → n ≡ length A + q → IsAlone B q p → IsAlone (A ++ B) n p
alone_behind A B n q p e f = record {
  next = λ other. f.next (back_at A B (n + 544) (q + 544) p (omega arith) other);
  over = λ bridged. f.over (bridged_back A B n q p e bridged);
}

noise_behind : (A B : List ℕ) (first last n : ℕ) → IsNoise B 0 n → length A ≤ first → last ≤ length A + n → IsNoise (A ++ B) first last
noise_behind A B first last n noisy low high = λ bit above below p there.
    let q : ℕ = bit - length A in
    let same : bit ≡ length A + q = omega arith in
    let chance = noisy q (omega arith) (omega arith) p (back_at A B bit q p same there) in
    (alone_behind A B bit q p same chance.0, λ few. chance.1 (few_back A B bit q p same few))

no_other_behind : (A B : List ℕ) (n end : ℕ) → 544 ≤ n → end ≡ length A + n → HoldsNoOther B n → HoldsNoOther (A ++ B) end
no_other_behind A B n end some e holds = λ bit above below p there.
    let q : ℕ = bit - length A in
    let same : bit ≡ length A + q = omega arith in
    let chance = holds q (omega arith) (omega arith) p (back_at A B bit q p same there) in (
      alone_behind A B bit q p same chance.0,
      elim chance.1 [
        | inl inside ↦ inl (omega (arith, inside))
        | inr lost ↦ inr (λ few. lost (few_back A B bit q p same few))
      ],
    )

-- ---- words that are near and fit

abbrev NearAndFits : ℕ → ℕ → Type 0
NearAndFits t y = IsNear t y × (y < 2 ^ 32)

near_and_fits : (ts ys : List ℕ) → AllZip IsNear ts ys → All (λ y. y < 2 ^ 32) ys → AllZip NearAndFits ts ys
near_and_fits [] [] near fit = tt
near_and_fits [] (y ∷ ys) near fit = absurd near
near_and_fits (t ∷ ts) [] near fit = absurd near
near_and_fits (t ∷ ts) (y ∷ ys) near fit =
    ((near.0, All-head (λ v. v < 2 ^ 32) y ys fit), near_and_fits ts ys near.1 (All-tail (λ v. v < 2 ^ 32) y ys fit))

each_mended : (T ys : List ℕ) → All IsCodeword T → AllZip NearAndFits T ys → AllZip IsMended ys (map Some T)
each_mended [] [] are near = tt
each_mended [] (y ∷ ys) are near = absurd near
each_mended (t ∷ T) [] are near = absurd near
each_mended (t ∷ T) (y ∷ ys) are near =
    (only_near t y (All-head IsCodeword t T are) near.0.0 near.0.1, each_mended T ys (All-tail IsCodeword t T are) near.1)

-- ---- the first run behind noise

one_alone : (bits : List ℕ) (first : ℕ) (u : Run) → IsSyncRun bits first u → IsAlone bits u.bit u.polarity → u.batches ≡ 1
one_alone bits first u run alone =
    let some = run.some in
    elim (cases_lt 1 u.batches) [
      | inl many ↦
          absurd (elim (run.each 1 many) [
            | inl here ↦
                let same : u.bit + 544 * 1 ≡ u.bit + 544 = omega arith in
                alone.next (subst (λ (n : ℕ). IsSynchronised bits n u.polarity) same here)
            | inr bridged ↦
                let same : u.bit + 544 * 1 - 544 ≡ u.bit = omega arith in
                alone.over (subst (λ (n : ℕ). IsBridged bits n u.polarity) same bridged)
          ])
      | inr few ↦ omega arith
    ]

lone_few : (bits : List ℕ) (u : Run) → HasFewLost bits u → HasFewLost bits (lone u.bit u.polarity)
lone_few bits u f = record { mended = f.mended; each = f.each; few = f.few }

-- a run that begins in noise is not on the air
noise_off : (bits : List ℕ) (first held : ℕ) (u : Run) → IsSyncRun bits first u → IsAlone bits u.bit u.polarity × HasManyLost bits u.bit u.polarity
    → ¬ IsOnAir bits held u
noise_off bits first held u run chance (inl many) = absurd (omega (arith, many, one_alone bits first u run chance.0))
noise_off bits first held u run chance (inr few) = chance.1 (lone_few bits u few.1)

noise_later : (bits : List ℕ) (first last next : ℕ) → first ≤ next → IsNoise bits first last → IsNoise bits next last
noise_later bits first last next more noisy = λ bit above below. noisy bit (omega arith) below

record IsFirst (bits : List ℕ) (held b : ℕ) (p : Polarity) (rs : List Reception) : Type 0 where
  pub reception : Reception
  pub back : List Reception
  pub whole : rs ≡ reception ∷ back
  pub first : ℕ
  pub run : Run
  pub is_run : IsSyncRun bits first run
  pub bit : run.bit ≡ b
  pub polarity : run.polarity ≡ p
  pub is : IsReception bits run reception
  pub front : HasInFront bits held run.polarity run.bit reception.words_in_front
  pub rest : AreFound bits (last_sync run + 1) (held_end run reception) back

-- a run that does not begin before a synchronisation codeword begins there
module _ (bits : List ℕ) (first b : ℕ) (p : Polarity) (u : Run) (run : IsSyncRun bits first u) (there : IsSynchronised bits b p) (low : first ≤ b) (past : b ≤ u.bit) where
  first_bit : u.bit ≡ b
  first_bit =
      elim (cases_lt b u.bit) [
        | inl less ↦ absurd (run.quiet b low less p there)
        | inr other ↦ omega arith
      ]

  first_polarity : WordsFit bits → u.polarity ≡ p
  first_polarity fits = same_polarity bits b u.polarity p (fits b) (subst (λ (n : ℕ). IsSynchronised bits n u.polarity) first_bit run.begins) there

found_first : (bits : List ℕ) (first held b : ℕ) (p : Polarity) (rs : List Reception) → WordsFit bits → IsSynchronised bits b p
    → IsNoise bits first b → HasFewLost bits (lone b p) → first ≤ b → held ≤ b + 31
    → AreFound bits first held rs → IsFirst bits held b p rs
found_first bits first held b p rs fits there noisy few low late (nothing none) = absurd (none b low (omega (arith, there.within)) p there)
found_first bits first held b p rs fits there noisy few low late (counted u r more run counts is front rest) =
    elim (cases_lt u.bit b) [
      | inl less ↦ absurd (noise_off bits first held u run (noisy u.bit run.later less u.polarity run.begins) counts)
      | inr past ↦ record {
        reception = r;
        back = more;
        whole = refl;
        first = first;
        run = u;
        is_run = run;
        bit = first_bit bits first b p u run there low past;
        polarity = first_polarity bits first b p u run there low past fits;
        is = is;
        front = front;
        rest = rest;
      }
    ]
found_first bits first held b p rs fits there noisy few low late (passed u more run not rest) =
    elim (cases_lt u.bit b) [
      | inl less ↦
          let later = run.later in
          let one = one_alone bits first u run (noisy u.bit run.later less u.polarity run.begins).0 in
          found_first bits (last_sync u + 1) held b p more fits there (noise_later bits first b (last_sync u + 1) (omega arith) noisy) few (omega arith) late rest
      | inr past ↦
          let bit = first_bit bits first b p u run there low past in
          let polarity = first_polarity bits first b p u run there low past fits in
          let here : HasFewLost bits (lone u.bit u.polarity) =
          subst (λ (n : ℕ). HasFewLost bits (lone n u.polarity)) (sym bit) (subst (λ (q : Polarity). HasFewLost bits (lone b q)) (sym polarity) few) in
          absurd (not (inr (omega (arith, bit), record { mended = here.mended; each = here.each; few = here.few })))
    ]

-- ---- nothing is found in the last batch

later_run : (bits : List ℕ) (first end : ℕ) (u : Run) → first ≤ end → end ≤ u.bit → IsSyncRun bits first u → IsSyncRun bits end u
later_run bits first end u low past run = record {
  later = past;
  quiet = λ bit above below. run.quiet bit (omega arith) below;
  some = run.some;
  begins = run.begins;
  each = run.each;
  last = run.last;
  none = run.none;
  over = run.over;
}

inside_off : (bits : List ℕ) (first end : ℕ) (u : Run) → IsSyncRun bits first u → IsAlone bits u.bit u.polarity
    → (u.bit + 32 ≤ end) ⊎ HasManyLost bits u.bit u.polarity → ¬ IsOnAir bits end u
inside_off bits first end u run alone place (inl many) = absurd (omega (arith, many, one_alone bits first u run alone))
inside_off bits first end u run alone (inl inside) (inr few) = absurd (omega (arith, inside, few.0))
inside_off bits first end u run alone (inr lost) (inr few) = lost (lone_few bits u few.1)

found_behind : (bits : List ℕ) (first end : ℕ) (rs : List Reception) → HoldsNoOther bits end → first ≤ end → end < first + 544
    → AreFound bits first end rs → AreFound bits end end rs
found_behind bits first end rs holds low high (nothing quiet) = nothing (λ bit above below. quiet bit (omega arith) below)
found_behind bits first end rs holds low high (counted u r more run counts is front rest) =
    elim (cases_lt u.bit end) [
      | inl less ↦
          let later = run.later in
          let chance = holds u.bit (omega arith) less u.polarity run.begins in
          absurd (inside_off bits first end u run chance.0 chance.1 counts)
      | inr past ↦ counted u r more (later_run bits first end u low past run) counts is front rest
    ]
found_behind bits first end rs holds low high (passed u more run not rest) =
    elim (cases_lt u.bit end) [
      | inl less ↦
          let later = run.later in
          let chance = holds u.bit (omega arith) less u.polarity run.begins in
          let one = one_alone bits first u run chance.0 in
          found_behind bits (last_sync u + 1) end more holds (omega arith) (omega arith) rest
      | inr past ↦ passed u more (later_run bits first end u low past run) not rest
    ]

-- ---- a transmission among other bits

abbrev CapturedTransmission : (bits : List ℕ) → List Reception → List (List Page) → Type 0
CapturedTransmission bits rs pss = AllZip (λ (r : Reception) (here : List Page). AreCaptured (received bits r) here) rs pss

-- the first reception is that of a transmission, and others are found behind it
record IsBehind (bits : List ℕ) (end : ℕ) (ps : List Page) (rs : List Reception) : Type 0 where
  pub reception : Reception
  pub back : List Reception
  pub whole : rs ≡ reception ∷ back
  pub captured : AreCaptured (received bits reception) ps
  pub found : AreFound bits end end back

module _ (A R : List ℕ) (p : Polarity) (ps : List Page) (X : List ℕ) (f : IsReceived p ps X) where
  module _ (over : NothingFollows p R) (first : ℕ) (u : Run) (run : IsSyncRun (A ++ (X ++ R)) first u) (bit : u.bit ≡ length A) (polarity : u.polarity ≡ p)
      (r : Reception) (is : IsReception (A ++ (X ++ R)) u r) where
    abbrev on : IsOn (length A) p u
    on = record { k = 0; below = run.some; place = omega (arith, bit); polarity = polarity }

    held_over : held_end u r ≡ length A + 544 * f.batches
    held_over =
        omega (
          arith,
          bit,
          own_run A R p ps X f first u r run is on over,
          min-eq_right (subst (λ (n : ℕ). 17 * n ≤ r.words) (sym (own_run A R p ps X f first u r run is on over)) (least_words A R p ps X f first u r run is on)),
        )

    own_words : r.words_in_front ≡ 0 → received (A ++ (X ++ R)) r ≡ f.words
    own_words none =
        let front : batches_in_front r ≡ 0 = rw (eq-eqb _ _ none) refl in
        let start : own_place A R p ps X f first u r run is on ≡ 0 = omega (arith, front) in
        received_are A R p ps X f first u r run is on
        ∙ ap₂ (λ (l m : List ℕ). l ++ (f.words ++ m)) (ap (λ (n : ℕ). map (received_word (A ++ (X ++ R)) r) (range_with_len 0 n)) start)
        (no_words_behind A R p ps X f first u r run is on over)
        ∙ append-nil f.words

    own_pages : r.words_in_front ≡ 0 → AreCaptured (received (A ++ (X ++ R)) r) ps
    own_pages none =
        mended_captured (received (A ++ (X ++ R)) r) f.codewords ps
        (subst (λ (ws : List ℕ). AllZip IsMended (unsynced 0 ws) (map Some f.codewords)) (sym (own_words none))
        (each_mended f.codewords (unsynced 0 f.words) f.are
        (zip_unsynced NearAndFits 0 0 f.codewords f.words (omega arith) (near_and_fits (synced 0 f.codewords) f.words f.near f.fit))))
        f.reads

  -- noise and the transmission
  pass_over : (first : ℕ) (rs : List Reception) → NothingFollows p R → HoldsNoOther (X ++ R) (length X) → WordsFit (A ++ (X ++ R))
      → first ≤ length A → IsNoise (A ++ (X ++ R)) first (length A) → HasInFront (A ++ (X ++ R)) first p (length A) 0
      → AreFound (A ++ (X ++ R)) first first rs → IsBehind (A ++ (X ++ R)) (length A + 544 * f.batches) ps rs
  pass_over first rs over holds fits low noisy none_front found =
      let some = f.whole.0 in
      let long = batches_long A R p ps X f in
      let start : length A + 544 * 0 ≡ length A = omega arith in
      let there = subst (λ (n : ℕ). IsSynchronised (A ++ (X ++ R)) n p) start (batch_there A R p ps X f 0 some) in
      let few = few_lost A R p ps X f (lone (length A) p) refl refl in
      let holder = found_first (A ++ (X ++ R)) first first (length A) p rs fits there noisy few low (omega arith) found in
      let end = held_over over holder.first holder.run holder.is_run holder.bit holder.polarity holder.reception holder.is in
      let bit = holder.bit in
      let here = subst (λ (q : Polarity). HasInFront (A ++ (X ++ R)) first q holder.run.bit holder.reception.words_in_front) holder.polarity holder.front in
      let in_front = same_in_front (A ++ (X ++ R)) first p (length A) holder.reception.words_in_front 0
      (subst (λ (n : ℕ). HasInFront (A ++ (X ++ R)) first p n holder.reception.words_in_front) holder.bit here) none_front in
      let on : IsOn (length A) p holder.run = record { k = 0; below = holder.is_run.some; place = omega (arith, bit); polarity = holder.polarity } in
      let batches = own_run A R p ps X f holder.first holder.run holder.reception holder.is_run holder.is on over in
      let none = no_other_behind A (X ++ R) (length X) (length A + 544 * f.batches) (omega (arith, long)) (omega (arith, long)) holds in
      let rest = subst (λ (n : ℕ). AreFound (A ++ (X ++ R)) (last_sync holder.run + 1) n holder.back) end holder.rest in
      record {
        reception = holder.reception;
        back = holder.back;
        whole = holder.whole;
        captured = own_pages over holder.first holder.run holder.is_run holder.bit holder.polarity holder.reception holder.is in_front;
        found = found_behind (A ++ (X ++ R)) (last_sync holder.run + 1) (length A + 544 * f.batches) holder.back none (omega arith) (omega arith) rest;
      }

-- ---- all transmissions

none_captured : (bits : List ℕ) (first held : ℕ) (rs : List Reception) → IsNoise bits first (length bits) → AreFound bits first held rs → CapturedTransmission bits rs []
none_captured bits first held rs noisy (nothing other) = tt
none_captured bits first held rs noisy (counted u r more run counts is front rest) =
    absurd (noise_off bits first held u run (noisy u.bit run.later (omega (arith, run.begins.within)) u.polarity run.begins) counts)
none_captured bits first held rs noisy (passed u more run not rest) =
    let later = run.later in
    none_captured bits (last_sync u + 1) held more (noise_later bits first (length bits) (last_sync u + 1) (omega arith) noisy) rest

capture_more : (bits : List ℕ) (end : ℕ) (ps : List Page) (rs : List Reception) (pss : List (List Page)) (step : IsBehind bits end ps rs)
    → CapturedTransmission bits step.back pss → CapturedTransmission bits rs (ps ∷ pss)
capture_more bits end ps rs pss step more = subst (λ (l : List Reception). CapturedTransmission bits l (ps ∷ pss)) (sym step.whole) (step.captured, more)

-- noise, a transmission, and what is behind them, as the bits behind both are captured
captured_next : (A N X R : List ℕ) (p : Polarity) (here : List Page) (there : List (List Page)) (rs : List Reception)
    → IsNoise (N ++ (X ++ R)) 0 (length N) → HasNoneInFront (N ++ (X ++ R)) (length N) p → IsReceived p here X → NothingFollows p R → HoldsNoOther (X ++ R) (length X)
    → WordsFit ((A ++ N) ++ (X ++ R)) → AreFound ((A ++ N) ++ (X ++ R)) (length A) (length A) rs
    → ((back : List Reception) → AreFound (((A ++ N) ++ X) ++ R) (length ((A ++ N) ++ X)) (length ((A ++ N) ++ X)) back
    → CapturedTransmission (((A ++ N) ++ X) ++ R) back there)
    → CapturedTransmission ((A ++ N) ++ (X ++ R)) rs (here ∷ there)
captured_next A N X R p here there rs noisy none_front f over holds fits found more =
    let long = length-append A N in
    let front = subst (λ (l : List ℕ). IsNoise l (length A) (length (A ++ N))) (sym (append_assoc A N (X ++ R)))
    (noise_behind A (N ++ (X ++ R)) (length A) (length (A ++ N)) (length N) noisy (omega arith) (omega (arith, long))) in
    let first = subst (λ (l : List ℕ). HasInFront l (length A) p (length (A ++ N)) 0) (sym (append_assoc A N (X ++ R)))
    (none_in_front_behind A (N ++ (X ++ R)) p (length (A ++ N)) (length N) long none_front) in
    let step = pass_over (A ++ N) R p here X f (length A) rs over holds fits (omega (arith, long)) front first found in
    let next : ((A ++ N) ++ X) ++ R ≡ (A ++ N) ++ (X ++ R) = append_assoc (A ++ N) X R in
    let end : length (A ++ N) + 544 * f.batches ≡ length ((A ++ N) ++ X) =
    omega (arith, length-append (A ++ N) X, batches_long (A ++ N) R p here X f) in
    let behind = subst (λ (l : List ℕ). AreFound l (length ((A ++ N) ++ X)) (length ((A ++ N) ++ X)) step.back) (sym next)
    (subst (λ (n : ℕ). AreFound ((A ++ N) ++ (X ++ R)) n n step.back) end step.found) in
    capture_more ((A ++ N) ++ (X ++ R)) (length (A ++ N) + 544 * f.batches) here rs there step
    (subst (λ (l : List ℕ). CapturedTransmission l step.back there) next (more step.back behind))

each_captured : (A B : List ℕ) (pss : List (List Page)) (rs : List Reception) → IsCaptureOf B pss → WordsFit (A ++ B)
    → AreFound (A ++ B) (length A) (length A) rs → CapturedTransmission (A ++ B) rs pss
each_captured A B pss rs (noise noisy) fits found =
    none_captured (A ++ B) (length A) (length A) rs
    (noise_behind A B (length A) (length (A ++ B)) (length B) noisy (omega arith) (omega (arith, length-append A B))) found
each_captured A B pss rs (sent N X R p here there noisy none_front f over holds rest) fits found =
    let whole : (A ++ N) ++ (X ++ R) ≡ A ++ (N ++ (X ++ R)) = append_assoc A N (X ++ R) in
    let next : ((A ++ N) ++ X) ++ R ≡ (A ++ N) ++ (X ++ R) = append_assoc (A ++ N) X R in
    subst (λ (l : List ℕ). CapturedTransmission l rs (here ∷ there)) whole
    (captured_next A N X R p here there rs noisy none_front f over holds (subst WordsFit (sym whole) fits)
    (subst (λ (l : List ℕ). AreFound l (length A) (length A) rs) (sym whole) found)
    (λ back. each_captured ((A ++ N) ++ X) R there back rest (subst WordsFit (sym whole ∙ sym next) fits)))

pub holds_just_these : (capture : List ℕ) (rs : List Reception) (pss : List (List Page)) → IsCaptureOf (capture_bits capture) pss
    → AreReceptions (capture_bits capture) rs → CapturedTransmission (capture_bits capture) rs pss
holds_just_these capture rs pss h found = each_captured [] (capture_bits capture) pss rs h (capture_fits capture) found

pub shows_no_others : (capture : List ℕ) (rs : List Reception) (pss : List (List Page)) (qs : List Page) → IsCaptureOf (capture_bits capture) pss
    → HasCaptured capture rs qs → qs ≡ flat_map (λ (ps : List Page). ps) pss
shows_no_others capture rs pss qs h g =
    let all : HasCaptured capture rs (flat_map (λ (ps : List Page). ps) pss) =
    record { found = g.found; pages = pss; each = holds_just_these capture rs pss h g.found; all = refl } in
    (one_thing capture rs rs qs (flat_map (λ (ps : List Page). ps) pss) g all).1

none_of : (bits : List ℕ) (rs : List Reception) → CapturedTransmission bits rs [] → rs ≡ []
none_of bits [] each = refl
none_of bits (r ∷ rs) each = absurd each

pub nothing_of_noise : (capture : List ℕ) (rs : List Reception) (ps : List Page) → IsNoise (capture_bits capture) 0 (length (capture_bits capture))
    → HasCaptured capture rs ps → (rs ≡ []) × (ps ≡ [])
nothing_of_noise capture rs ps noisy g = (
  none_of (capture_bits capture) rs (holds_just_these capture rs [] (noise noisy) g.found),
  shows_no_others capture rs [] ps (noise noisy) g,
)
