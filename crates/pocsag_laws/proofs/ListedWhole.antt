-- The pages of a sent transmission are listed as whole.
use Rattle.pocsag_laws.proofs.Prelude.{◌≡◌, ℕ, ◌+◌, ◌-◌, ◌*◌, ◌%◌, ◌<◌, ◌≤◌, List, [], ◌∷◌, ◌++◌, length, map, All, Bool, false, refl, sym, ap, ap₂, subst, ◌∙◌, inr, arith, AllZip, lt-leb, length-map, All-head, All-tail, length-map-range_with_len, IsCodeword, IsNear, kind_of, Kind, Idle, Address, Message, Page, synced, unsynced, pages_from, EndsIdle, Reads, unsynced_count, reads_plainly, capture_bits, AreCaptured, without_orphans, all_batches, received, received_word, HoldsSent, Polarity, Reception, as_many, plain_pages, least_batches, own_place, placed_words, received_are, words_long, held_of, stands_between}
use Rattle.std.proofs.Common.{Option, Some, None}
use Rattle.std.specs.Prelude.{replicate}
use Rattle.pocsag_capture.specs.Extracted.{ends_cut, page_cuts}
use Rattle.pocsag_capture.specs.PageEnds.{AreCutsOf, CapturedTransmission, HasTransmissions, IsCapturedTransmission}
use Rattle.pocsag_laws.specs.ListedWhole.{AreListedWhole}

-- ---- which pages are cut, of words behind others

record CutsBehind (steady i j : ℕ) (A B : List (Option Kind)) : Type 0 where
  pub cuts : List Bool
  pub as_long : length cuts ≡ length (page_cuts steady i A)
  pub whole : page_cuts steady i (A ++ B) ≡ cuts ++ page_cuts steady j B

cuts_behind : (steady i j : ℕ) (A B : List (Option Kind)) → j ≡ i + length A → CutsBehind steady i j A B
cuts_behind steady i j [] B e = record { cuts = []; as_long = refl; whole = ap (λ (n : ℕ). page_cuts steady n B) (omega arith) }
cuts_behind steady i j (None ∷ A) B e = let f = cuts_behind steady (i + 1) j A B (omega arith) in record { cuts = f.cuts; as_long = f.as_long; whole = f.whole }
cuts_behind steady i j (Some Idle ∷ A) B e = let f = cuts_behind steady (i + 1) j A B (omega arith) in record { cuts = f.cuts; as_long = f.as_long; whole = f.whole }
cuts_behind steady i j (Some (Address high function) ∷ A) B e =
    let f = cuts_behind steady (i + 1) j A B (omega arith) in
    let here : Bool = ends_cut steady (i + 1) (A ++ B) in
    record { cuts = here ∷ f.cuts; as_long = omega (arith, f.as_long); whole = ap (λ (l : List Bool). here ∷ l) f.whole }
cuts_behind steady i j (Some (Message bits) ∷ A) B e =
    let f = cuts_behind steady (i + 1) j A B (omega arith) in record { cuts = f.cuts; as_long = f.as_long; whole = f.whole }

-- a page of codewords that end idle is whole
ends_whole : (steady i : ℕ) (K : List Kind) (B : List (Option Kind)) → EndsIdle K → i + length K ≤ steady → ends_cut steady i (map Some K ++ B) ≡ false
ends_whole steady i [] B idle within = absurd idle
ends_whole steady i (Idle ∷ K) B idle within = let below : i < steady = omega (arith, within) in lt-leb _ _ below
ends_whole steady i (Address high function ∷ K) B idle within = let below : i < steady = omega (arith, within) in lt-leb _ _ below
ends_whole steady i (Message bits ∷ []) B idle within = absurd (cc idle)
ends_whole steady i (Message bits ∷ k ∷ K) B idle within = ends_whole steady (i + 1) (k ∷ K) B idle (omega (arith, within))

cuts_whole : (steady i j n : ℕ) (K : List Kind) (B : List (Option Kind)) → EndsIdle K → i + length K ≤ steady → n ≡ i + length K
    → page_cuts steady i (map Some K ++ B) ≡ replicate (length (pages_from j K)) false ++ page_cuts steady n B
cuts_whole steady i j n [] B idle within e = absurd idle
cuts_whole steady i j n (k ∷ []) B idle within e =
    let next : i + 1 ≡ n = omega (arith, e) in
    rw (idle, sym next) refl
cuts_whole steady i j n (Idle ∷ k ∷ K) B idle within e = cuts_whole steady (i + 1) (j + 1) n (k ∷ K) B idle (omega (arith, within)) (omega (arith, e))
cuts_whole steady i j n (Address high function ∷ k ∷ K) B idle within e =
    ap₂ (λ (b : Bool) (l : List Bool). b ∷ l) (ends_whole steady (i + 1) (k ∷ K) B idle (omega (arith, within)))
    (cuts_whole steady (i + 1) (j + 1) n (k ∷ K) B idle (omega (arith, within)) (omega (arith, e)))
cuts_whole steady i j n (Message bits ∷ k ∷ K) B idle within e = cuts_whole steady (i + 1) (j + 1) n (k ∷ K) B idle (omega (arith, within)) (omega (arith, e))

-- ---- the words of a transmission among those of a reception

record AreWhole (ps listed : List Page) (marks : List Bool) : Type 0 where
  pub pages_before : List Page
  pub pages_after : List Page
  pub pages : listed ≡ pages_before ++ (ps ++ pages_after)
  pub cuts_before : List Bool
  pub cuts_after : List Bool
  pub as_many : length cuts_before ≡ length pages_before
  pub cuts : marks ≡ cuts_before ++ (replicate (length ps) false ++ cuts_after)

module _ (before Y after T : List ℕ) (ps : List Page) (are : All IsCodeword T) (near : AllZip IsNear (synced 0 T) Y)
    (reads : Reads (map kind_of T) 0 ps) (idle : EndsIdle (map kind_of T)) where
  whole_between : (steady : ℕ) (listed : List Page) (cuts : List Bool) → length before % 17 ≡ 0 → length Y % 17 ≡ 0
      → length (unsynced 0 before) + length T ≤ steady → length T % 16 ≡ 0 → AreCaptured (before ++ (Y ++ after)) listed
      → AreCutsOf (before ++ (Y ++ after)) steady cuts → AreWhole ps listed cuts
  whole_between steady listed cuts first_whole whole within batches f g =
      let stands = stands_between before Y after T ps are near reads g.mended g.each first_whole whole (inr idle) in
      let K : List Kind = map kind_of T in
      let many : length K ≡ length T = length-map T kind_of in
      let n : ℕ = length (unsynced 0 before) in
      let front = cuts_behind steady 0 n stands.left (map Some K ++ stands.right) (omega (arith, stands.long)) in
      let middle = cuts_whole steady n 0 (n + length K) K stands.right idle (omega (arith, within, many)) refl in
      record {
        pages_before = pages_from 0 (without_orphans false stands.left);
        pages_after = stands.back;
        pages = plain_pages (before ++ (Y ++ after)) steady listed cuts f g ∙ stands.pages;
        cuts_before = front.cuts;
        cuts_after = page_cuts steady (n + length K) stands.right;
        as_many = front.as_long ∙ as_many steady 0 false stands.left;
        cuts = g.holds ∙ ap (page_cuts steady 0) stands.all ∙ front.whole ∙ ap (λ (l : List Bool). front.cuts ++ l) (middle
            ∙ ap (λ (l : List Page). replicate (length l) false ++ page_cuts steady (n + length K) stands.right) (sym (reads_plainly reads).pages));
      }

-- the transmission of a reception
record IsTransmissionOf (r : Reception) (cs : List CapturedTransmission) : Type 0 where
  pub earlier : List CapturedTransmission
  pub transmission : CapturedTransmission
  pub later : List CapturedTransmission
  pub among : cs ≡ earlier ++ (transmission ∷ later)
  pub same : transmission.heard.reception ≡ r

transmission_of : (cs : List CapturedTransmission) (front : List Reception) (r : Reception) (back : List Reception)
    → map (λ (c : CapturedTransmission). c.heard.reception) cs ≡ front ++ (r ∷ back) → IsTransmissionOf r cs
transmission_of [] [] r back e = absurd (cc e)
transmission_of [] (q ∷ front) r back e = absurd (cc e)
transmission_of (c ∷ cs) [] r back e = record { earlier = []; transmission = c; later = cs; among = refl; same = cc e }
transmission_of (c ∷ cs) (q ∷ front) r back e =
    let f = transmission_of cs front r back (cc e) in
    record { earlier = c ∷ f.earlier; transmission = f.transmission; later = f.later; among = ap (λ (l : List CapturedTransmission). c ∷ l) f.among; same = f.same }

holds_at : (P : CapturedTransmission → Type 0) (front : List CapturedTransmission) (c : CapturedTransmission) (back : List CapturedTransmission)
    → All P (front ++ (c ∷ back)) → P c
holds_at P [] c back all = All-head P c back all
holds_at P (q ∷ front) c back all = holds_at P front c back (All-tail P q (front ++ (c ∷ back)) all)

pub lists_as_whole : (capture : List ℕ) (cs : List CapturedTransmission) (ps : List Page) (h : HoldsSent (capture_bits capture) ps)
    → EndsIdle (map kind_of h.received.codewords) → HasTransmissions capture cs
    → All (λ (c : CapturedTransmission). c.heard.steady ≡ all_batches c.heard.reception) cs → AreListedWhole ps cs
lists_as_whole capture cs ps h idle g steady =
    let A : List ℕ = h.before in
    let R : List ℕ = h.after in
    let X : List ℕ = h.batches in
    let p : Polarity = h.polarity in
    let f = h.received in
    let bits : List ℕ = A ++ (X ++ R) in
    let held = held_of capture (map (λ (c : CapturedTransmission). c.heard.reception) cs) ps h g.found in
    let of = transmission_of cs held.earlier held.reception held.later held.whole in
    let c = of.transmission in
    let r = held.reception in
    let k = held.on.k in
    let is = holds_at (IsCapturedTransmission (capture_bits capture)) of.earlier c of.later (subst (All (IsCapturedTransmission (capture_bits capture))) of.among g.each) in
    let step : c.heard.steady ≡ all_batches c.heard.reception =
    holds_at (λ (d : CapturedTransmission). d.heard.steady ≡ all_batches d.heard.reception) of.earlier c of.later
    (subst (All (λ (d : CapturedTransmission). d.heard.steady ≡ all_batches d.heard.reception)) of.among steady) in
    let batches : c.heard.steady ≡ all_batches r = step ∙ ap all_batches of.same in
    let place : ℕ = own_place A R p ps X f held.first held.run r held.is_run held.is held.on in
    let front : List ℕ = placed_words A R p ps X f held.first held.run r held.is_run held.is held.on 0 place in
    let back : List ℕ = placed_words A R p ps X f held.first held.run r held.is_run held.is held.on (place + 17 * f.batches) (17 * (r.batches - (k + f.batches))) in
    let words : received (capture_bits capture) c.heard.reception ≡ front ++ (f.words ++ back) =
    ap₂ (λ (l : List ℕ) (q : Reception). received l q) h.whole of.same ∙ received_are A R p ps X f held.first held.run r held.is_run held.is held.on in
    let long = length-map-range_with_len (received_word bits r) 0 place in
    let count = unsynced_count 0 front in
    let least = least_batches A R p ps X f held.first held.run r held.is_run held.is held.on in
    let is_whole = whole_between front f.words back f.codewords ps f.are f.near f.reads idle (16 * c.heard.steady) c.pages c.cuts
    (omega (arith, long)) (omega (arith, words_long A R p ps X f)) (omega (arith, count, long, batches, least, f.whole.1)) (omega (arith, f.whole.1))
    (subst (λ (ws : List ℕ). AreCaptured ws c.pages) words is.pages)
    (subst (λ (ws : List ℕ). AreCutsOf ws (16 * c.heard.steady) c.cuts) words is.cuts) in
    record {
      earlier = of.earlier;
      transmission = c;
      later = of.later;
      among = of.among;
      pages_before = is_whole.pages_before;
      pages_after = is_whole.pages_after;
      pages = is_whole.pages;
      cuts_before = is_whole.cuts_before;
      cuts_after = is_whole.cuts_after;
      as_many = is_whole.as_many;
      cuts = is_whole.cuts;
    }
