-- Where pages end: those that are cut, word by word, and those that are not, which stand whole.
use Rattle.pocsag_capture.proofs.Prelude.{◌≡◌, ℕ, ◌+◌, ◌*◌, ◌<◌, Bool, true, false, List, [], ◌∷◌, ◌++◌, length, filter, map, All, Option, Some, None, refl, sym, ap, subst, ◌∙◌, inl, inr, arith, append_assoc, nat_le, AllZip, cases_lt, le-leb, length-append, All-head, All-tail, Kind, Idle, Address, Message, Page, unsynced, items_of, pages_from, frame_at, reads_plainly, IsMended, said, all_mended_same, capture_bits, AreCaptured, HasCaptured, without_orphans, count_cut, ends_cut, page_cuts, AreCutsOf, CapturedTransmission, HasTransmissions, IsCapturedTransmission, IsPageEnd, UncutStandWhole, pages_captured, received, Reception}
use Rattle.pocsag_pager.specs.Turns.{IsHeardAs}

-- ---- pages that are not cut stand whole

heard_each : (ws : List ℕ) (ms : List (Option ℕ)) → AllZip IsMended ws ms → AllZip IsHeardAs ws (map said ms)
heard_each [] [] each = tt
heard_each [] (m ∷ ms) each = absurd each
heard_each (w ∷ ws) [] each = absurd each
heard_each (w ∷ ws) (m ∷ ms) each = (record { mended = m; is_mended = each.0; is = refl }, heard_each ws ms each.1)

-- the words behind an address codeword: those of the message, and one that ends the page
pub record EndsRun (steady i : ℕ) (ws items : List ℕ) : Type 0 where
  pub run : List ℕ
  pub ending : ℕ
  pub after : List ℕ
  pub parts : ws ≡ run ++ (ending ∷ after)
  pub carries : AllZip (λ (word bits : ℕ). IsHeardAs word (Some (Message bits))) run items
  pub ends : IsPageEnd ending
  pub in_step : i + length run < steady

in_step_at : (steady i : ℕ) → nat_le steady i ≡ false → i + 0 < steady
in_step_at steady i whole =
    elim (cases_lt i steady) [
      | inl less ↦ omega (arith, less)
      | inr more ↦ absurd (cc (sym (le-leb steady i more) ∙ whole))
    ]

run_ends : (steady i : ℕ) (ws : List ℕ) (ks : List (Option Kind)) → AllZip IsHeardAs ws ks → ends_cut steady i ks ≡ false
    → EndsRun steady i ws (items_of (without_orphans true ks))
run_ends steady i [] [] each whole = absurd (cc whole)
run_ends steady i [] (k ∷ ks) each whole = absurd each
run_ends steady i (w ∷ ws) [] each whole = absurd each
run_ends steady i (w ∷ ws) (None ∷ ks) each whole = absurd (cc whole)
run_ends steady i (w ∷ ws) (Some Idle ∷ ks) each whole = record {
  run = [];
  ending = w;
  after = ws;
  parts = refl;
  carries = tt;
  ends = inl each.0;
  in_step = in_step_at steady i whole;
}
run_ends steady i (w ∷ ws) (Some (Address high function) ∷ ks) each whole = record {
  run = [];
  ending = w;
  after = ws;
  parts = refl;
  carries = tt;
  ends = inr (high, function, each.0);
  in_step = in_step_at steady i whole;
}
run_ends steady i (w ∷ ws) (Some (Message bits) ∷ ks) each whole =
    let rest = run_ends steady (i + 1) ws ks each.1 whole in
    record {
      run = w ∷ rest.run;
      ending = rest.ending;
      after = rest.after;
      parts = ap (λ (l : List ℕ). w ∷ l) rest.parts;
      carries = (each.0, rest.carries);
      ends = rest.ends;
      in_step = omega (arith, rest.in_step);
    }

one_on : (before ws all : List ℕ) (w : ℕ) → all ≡ before ++ (w ∷ ws) → all ≡ (before ++ w ∷ []) ++ ws
one_on before ws all w parts = parts ∙ sym (append_assoc before (w ∷ []) ws)

one_longer : (before : List ℕ) (w i : ℕ) → length before ≡ i → length (before ++ w ∷ []) ≡ i + 1
one_longer before w i long = omega (arith, length-append before (w ∷ []))

pages_stand : (steady i : ℕ) (b : Bool) (before ws all : List ℕ) (ks : List (Option Kind)) → all ≡ before ++ ws → length before ≡ i → AllZip IsHeardAs ws ks
    → UncutStandWhole all steady (pages_from i (without_orphans b ks)) (page_cuts steady i ks)
pages_stand steady i b before [] all [] parts long each = tt
pages_stand steady i b before [] all (k ∷ ks) parts long each = absurd each
pages_stand steady i b before (w ∷ ws) all [] parts long each = absurd each
pages_stand steady i b before (w ∷ ws) all (None ∷ ks) parts long each =
    pages_stand steady (i + 1) false (before ++ w ∷ []) ws all ks (one_on before ws all w parts) (one_longer before w i long) each.1
pages_stand steady i b before (w ∷ ws) all (Some Idle ∷ ks) parts long each =
    pages_stand steady (i + 1) false (before ++ w ∷ []) ws all ks (one_on before ws all w parts) (one_longer before w i long) each.1
pages_stand steady i b before (w ∷ ws) all (Some (Address high function) ∷ ks) parts long each = (
  λ whole.
      let rest = run_ends steady (i + 1) ws ks each.1 whole in
      record {
        before = before;
        call = w;
        run = rest.run;
        ending = rest.ending;
        after = rest.after;
        parts = parts ∙ ap (λ (l : List ℕ). before ++ (w ∷ l)) rest.parts;
        high = high;
        address = ap (λ (n : ℕ). 8 * high + frame_at n) (sym long);
        calls = each.0;
        carries = rest.carries;
        ends = rest.ends;
        in_step = omega (arith, rest.in_step, long);
      },
  pages_stand steady (i + 1) true (before ++ w ∷ []) ws all ks (one_on before ws all w parts) (one_longer before w i long) each.1,
)
pages_stand steady i true before (w ∷ ws) all (Some (Message bits) ∷ ks) parts long each =
    pages_stand steady (i + 1) true (before ++ w ∷ []) ws all ks (one_on before ws all w parts) (one_longer before w i long) each.1
pages_stand steady i false before (w ∷ ws) all (Some (Message bits) ∷ ks) parts long each =
    pages_stand steady (i + 1) false (before ++ w ∷ []) ws all ks (one_on before ws all w parts) (one_longer before w i long) each.1

pub as_many : (steady i : ℕ) (b : Bool) (ks : List (Option Kind)) → length (page_cuts steady i ks) ≡ length (pages_from i (without_orphans b ks))
as_many steady i b [] = refl
as_many steady i b (None ∷ ks) = as_many steady (i + 1) false ks
as_many steady i b (Some Idle ∷ ks) = as_many steady (i + 1) false ks
as_many steady i b (Some (Address high function) ∷ ks) = let rest = as_many steady (i + 1) true ks in omega (arith, rest)
as_many steady i true (Some (Message bits) ∷ ks) = as_many steady (i + 1) true ks
as_many steady i false (Some (Message bits) ∷ ks) = as_many steady (i + 1) false ks

-- both, of the pages of words
pub plain_pages : (words : List ℕ) (steady : ℕ) (ps : List Page) (cuts : List Bool) (f : AreCaptured words ps) (g : AreCutsOf words steady cuts)
    → ps ≡ pages_from 0 (without_orphans false (map said g.mended))
plain_pages words steady ps cuts f g =
    (reads_plainly f.holds).pages
    ∙ ap (λ (ms : List (Option ℕ)). pages_from 0 (without_orphans false (map said ms))) (all_mended_same (unsynced 0 words) f.mended g.mended f.each g.each)

pub uncut_pages_stand : (words : List ℕ) (steady : ℕ) (ps : List Page) (cuts : List Bool) → AreCaptured words ps → AreCutsOf words steady cuts
    → UncutStandWhole (unsynced 0 words) steady ps cuts
uncut_pages_stand words steady ps cuts f g =
    let pages = plain_pages words steady ps cuts f g in
    let stand : UncutStandWhole (unsynced 0 words) steady (pages_from 0 (without_orphans false (map said g.mended))) (page_cuts steady 0 (map said g.mended)) =
    pages_stand steady 0 false [] (unsynced 0 words) (unsynced 0 words) (map said g.mended) refl refl (heard_each (unsynced 0 words) g.mended g.each) in
    subst (λ (bs : List Bool). UncutStandWhole (unsynced 0 words) steady ps bs) (sym g.holds)
    (subst (λ (qs : List Page). UncutStandWhole (unsynced 0 words) steady qs (page_cuts steady 0 (map said g.mended))) (sym pages) stand)

-- ---- the pages of all of them

each_captured : (bits : List ℕ) (cs : List CapturedTransmission) → All (IsCapturedTransmission bits) cs
    → AllZip (λ (r : Reception) (here : List Page). AreCaptured (received bits r) here) (map (λ (c : CapturedTransmission). c.heard.reception) cs)
    (map (λ (c : CapturedTransmission). c.pages) cs)
each_captured bits [] all = tt
each_captured bits (c ∷ cs) all = ((All-head (IsCapturedTransmission bits) c cs all).pages, each_captured bits cs (All-tail (IsCapturedTransmission bits) c cs all))

pub transmissions_are_captured_lem : (capture : List ℕ) (cs : List CapturedTransmission) → HasTransmissions capture cs
    → HasCaptured capture (map (λ (c : CapturedTransmission). c.heard.reception) cs) (pages_captured cs)
transmissions_are_captured_lem capture cs f = record {
  found = f.found;
  pages = map (λ (c : CapturedTransmission). c.pages) cs;
  each = each_captured (capture_bits capture) cs f.each;
  all = refl;
}

-- ---- how many pages are cut

pub cuts_are_counted : (bits : List ℕ) (c : CapturedTransmission) → IsCapturedTransmission bits c → c.heard.cut ≡ length (filter (λ (is_cut : Bool). is_cut) c.cuts)
cuts_are_counted bits c f =
    let extracted = f.told.extracted in
    let words = unsynced 0 (received bits c.heard.reception) in
    extracted.cuts
    ∙ ap (λ (ms : List (Option ℕ)). count_cut (page_cuts (16 * c.heard.steady) 0 (map said ms)))
    (all_mended_same words extracted.mended f.cuts.mended extracted.each f.cuts.each)
    ∙ ap (λ (bs : List Bool). count_cut bs) (sym f.cuts.holds)
