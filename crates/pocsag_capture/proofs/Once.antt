-- A capture holds one list of receptions, and one list of pages.
use Rattle.pocsag_capture.proofs.Prelude.{◌≡◌, ℕ, ◌+◌, ◌-◌, ◌*◌, ◌^◌, ◌<◌, ◌≤◌, lit<, List, [], ◌∷◌, length, map, take, drop, filter, Option, Some, None, Bool, true, false, cond, refl, sym, ap, ap₂, subst, ◌∙◌, inl, inr, arith, AllZip, flat_map, cases_lt, length-take, All-append, All-drop, All-nil, All-take, Kind, Idle, Address, Message, high_first, AreBits, AreBits-high_first, high_number-lt, Page, unsynced, pages_from, reads_plainly, AreShown, is_ours, run_of, said, shown_from, all_mended_same, capture_bits, word_on, AreCaptured, HasCaptured, without_orphans, AreFound, IsOnAir, HasBatches, HasInFront, IsBridged, IsInStep, IsReadTo, IsReception, IsSyncRun, IsSynchronised, counted, held_end, last_sync, nothing, passed, received, Polarity, Upright, Inverted, Reception, Run}
use Rattle.std.proofs.Math.Pow.{pow_mono}
use Rattle.pocsag_pager.proofs.Chosen.{calls}
use Rattle.pocsag_pager.proofs.Damage.{shown_is_chosen}
use Rattle.pocsag_capture.proofs.InFront.{same_in_front}
use Rattle.pocsag_capture.proofs.Polarities.{one_polarity}

-- ---- one polarity

-- the bits are 0 or 1, so that each word fits
pub same_polarity : (bits : List ℕ) (bit : ℕ) (p q : Polarity) → word_on bits bit < 2 ^ 32 → IsSynchronised bits bit p → IsSynchronised bits bit q → p ≡ q
same_polarity bits bit Upright Upright fits f g = refl
same_polarity bits bit Inverted Inverted fits f g = refl
same_polarity bits bit Upright Inverted fits f g = absurd (one_polarity (word_on bits bit) fits f.near g.near)
same_polarity bits bit Inverted Upright fits f g = absurd (one_polarity (word_on bits bit) fits g.near f.near)

-- ---- one list of receptions

-- that each word of the bits fits
abbrev pub WordsFit : List ℕ → Type 0
WordsFit bits = (bit : ℕ) → word_on bits bit < 2 ^ 32

same_bit : (bits : List ℕ) (first : ℕ) (u v : Run) → IsSyncRun bits first u → IsSyncRun bits first v → u.bit ≡ v.bit
same_bit bits first u v f g =
    elim (cases_lt u.bit v.bit) [
      | inl less ↦ absurd (g.quiet u.bit f.later less u.polarity f.begins)
      | inr more ↦
          elim (cases_lt v.bit u.bit) [
            | inl less ↦ absurd (f.quiet v.bit g.later less v.polarity g.begins)
            | inr other ↦ omega arith
          ]
    ]

-- no synchronisation codeword in step follows where a run is over
pub no_more : (bits : List ℕ) (bit m n : ℕ) (p : Polarity) → 0 < m → ((k : ℕ) → k < n → IsInStep bits (bit + 544 * k) p)
    → ¬ IsSynchronised bits (bit + 544 * m) p → ¬ IsBridged bits (bit + 544 * (m - 1)) p → n ≤ m
no_more bits bit m n p some each here over =
    elim (cases_lt m n) [
      | inl less ↦
          elim (each m less) [
            | inl there ↦ absurd (here there)
            | inr bridged ↦
                let same : bit + 544 * m - 544 ≡ bit + 544 * (m - 1) = omega arith in
                absurd (over (subst (λ (q : ℕ). IsBridged bits q p) same bridged))
          ]
      | inr more ↦ more
    ]

pub same_run : (bits : List ℕ) (first : ℕ) (u v : Run) → WordsFit bits → IsSyncRun bits first u → IsSyncRun bits first v → u ≡ v
same_run bits first u v fits f g =
    let bit = same_bit bits first u v f g in
    let polarity = same_polarity bits u.bit u.polarity v.polarity (fits u.bit) f.begins
    (subst (λ (n : ℕ). IsSynchronised bits n v.polarity) (sym bit) g.begins) in
    let some = f.some in
    let least = g.some in
    let most : v.batches ≤ u.batches = no_more bits u.bit u.batches v.batches u.polarity some (λ k below. rw (bit, polarity) (g.each k below)) f.none f.over in
    let back = sym bit in
    let again = sym polarity in
    let more : u.batches ≤ v.batches = no_more bits v.bit v.batches u.batches v.polarity least (λ k below. rw (back, again) (f.each k below)) g.none g.over in
    let batches : u.batches ≡ v.batches = omega arith in
    ap₂ (λ (b : ℕ) (n : ℕ). (record { bit = b; polarity = u.polarity; batches = n })) bit batches
    ∙ ap (λ (p : Polarity). (record { bit = v.bit; polarity = p; batches = v.batches })) polarity

same_extended : (bits : List ℕ) (u : Run) (m n : ℕ) → HasBatches bits u m → HasBatches bits u n → m ≡ n
same_extended bits u m n (inl f) (inl g) = f.1 ∙ sym g.1
same_extended bits u m n (inl f) (inr g) = absurd (g.0 f.0)
same_extended bits u m n (inr f) (inl g) = absurd (f.0 g.0)
same_extended bits u m n (inr f) (inr g) = f.1 ∙ sym g.1

no_further : (bits : List ℕ) (p : Polarity) (bit n v w : ℕ) → IsReadTo bits p bit n v → IsReadTo bits p bit n w → w ≤ v
no_further bits p bit n v w f g =
    elim (cases_lt v w) [
      | inl less ↦
          elim f.ends [
            | inl all ↦ omega (arith, g.most)
            | inr broken ↦ absurd (g.unbroken v less broken)
          ]
      | inr more ↦ more
    ]

same_reception : (bits : List ℕ) (held : ℕ) (u : Run) (r s : Reception) → IsReception bits u r → IsReception bits u s
    → HasInFront bits held u.polarity u.bit r.words_in_front → HasInFront bits held u.polarity u.bit s.words_in_front → r ≡ s
same_reception bits held u r s f g front ahead =
    let bit = f.bit ∙ sym g.bit in
    let polarity = f.polarity ∙ sym g.polarity in
    let batches = same_extended bits u r.batches s.batches f.batches g.batches in
    let read : IsReadTo bits u.polarity u.bit r.batches s.words =
    subst (λ (n : ℕ). IsReadTo bits u.polarity u.bit n s.words) (sym batches) g.words in
    let least = no_further bits u.polarity u.bit r.batches r.words s.words f.words read in
    let most = no_further bits u.polarity u.bit r.batches s.words r.words read f.words in
    let words : r.words ≡ s.words = omega arith in
    let in_front = same_in_front bits held u.polarity u.bit r.words_in_front s.words_in_front front ahead in
    ap₂ (λ (b : ℕ) (n : ℕ). (record { bit = b; polarity = r.polarity; batches = n; words = r.words; words_in_front = r.words_in_front })) bit batches
    ∙ ap₂ (λ (p : Polarity) (w : ℕ). (record { bit = s.bit; polarity = p; batches = s.batches; words = w; words_in_front = r.words_in_front })) polarity words
    ∙ ap (λ (n : ℕ). (record { bit = s.bit; polarity = s.polarity; batches = s.batches; words = s.words; words_in_front = n })) in_front

pub same_found : (bits : List ℕ) (first held : ℕ) (rs ss : List Reception) → WordsFit bits → AreFound bits first held rs → AreFound bits first held ss
    → rs ≡ ss
same_found bits first held rs ss fits (nothing quiet) (nothing other) = refl
same_found bits first held rs ss fits (nothing quiet) (counted v s more run counts is front rest) =
    absurd (quiet v.bit run.later (omega (arith, run.begins.within)) v.polarity run.begins)
same_found bits first held rs ss fits (nothing quiet) (passed v more run not rest) =
    absurd (quiet v.bit run.later (omega (arith, run.begins.within)) v.polarity run.begins)
same_found bits first held rs ss fits (counted u r more run counts is front rest) (nothing quiet) =
    absurd (quiet u.bit run.later (omega (arith, run.begins.within)) u.polarity run.begins)
same_found bits first held rs ss fits (counted u r more run counts is front rest) (counted v s other runs count are ahead rests) =
    let one = same_run bits first u v fits run runs in
    let back = sym one in
    let same = same_reception bits held u r s is (subst (λ (q : Run). IsReception bits q s) back are) front
    (subst (λ (q : Run). HasInFront bits held q.polarity q.bit s.words_in_front) back ahead) in
    ap₂ (λ (a : Reception) (l : List Reception). a ∷ l) same
    (same_found bits (last_sync u + 1) (held_end u r) more other fits rest
    (subst (λ (a : Reception). AreFound bits (last_sync u + 1) (held_end u a) other) (sym same)
    (subst (λ (q : Run). AreFound bits (last_sync q + 1) (held_end q s) other) back rests)))
same_found bits first held rs ss fits (counted u r more run counts is front rest) (passed v other runs not rests) =
    absurd (not (subst (IsOnAir bits held) (same_run bits first u v fits run runs) counts))
same_found bits first held rs ss fits (passed u more run not rest) (nothing quiet) =
    absurd (quiet u.bit run.later (omega (arith, run.begins.within)) u.polarity run.begins)
same_found bits first held rs ss fits (passed u more run not rest) (counted v s other runs count are ahead rests) =
    absurd (not (subst (IsOnAir bits held) (sym (same_run bits first u v fits run runs)) count))
same_found bits first held rs ss fits (passed u more run not rest) (passed v other runs nots rests) =
    same_found bits (last_sync u + 1) held more other fits rest
    (subst (λ (q : Run). AreFound bits (last_sync q + 1) held other) (sym (same_run bits first u v fits run runs)) rests)

-- ---- one list of pages

same_pages : (words : List ℕ) (ps qs : List Page) → AreCaptured words ps → AreCaptured words qs → ps ≡ qs
same_pages words ps qs f g =
    (reads_plainly f.holds).pages
    ∙ ap (λ (ms : List (Option ℕ)). pages_from 0 (without_orphans false (map said ms))) (all_mended_same (unsynced 0 words) f.mended g.mended f.each g.each)
    ∙ sym (reads_plainly g.holds).pages

same_lists_of_pages : (bits : List ℕ) (rs : List Reception) (pss qss : List (List Page))
    → AllZip (λ (r : Reception) (here : List Page). AreCaptured (received bits r) here) rs pss
    → AllZip (λ (r : Reception) (here : List Page). AreCaptured (received bits r) here) rs qss → pss ≡ qss
same_lists_of_pages bits [] [] [] f g = refl
same_lists_of_pages bits [] [] (q ∷ qss) f g = absurd g
same_lists_of_pages bits [] (p ∷ pss) qss f g = absurd f
same_lists_of_pages bits (r ∷ rs) [] qss f g = absurd f
same_lists_of_pages bits (r ∷ rs) (p ∷ pss) [] f g = absurd g
same_lists_of_pages bits (r ∷ rs) (p ∷ pss) (q ∷ qss) f g =
    ap₂ (λ (a : List Page) (l : List (List Page)). a ∷ l) (same_pages (received bits r) p q f.0 g.0) (same_lists_of_pages bits rs pss qss f.1 g.1)

-- the words of a capture fit
bits_are : (capture : List ℕ) → AreBits (capture_bits capture)
bits_are [] = All-nil (λ b. b < 2)
bits_are (x ∷ xs) = All-append (λ b. b < 2) (high_first 8 x) (capture_bits xs) (AreBits-high_first 8 x) (bits_are xs)

pub capture_fits : (capture : List ℕ) → WordsFit (capture_bits capture)
capture_fits capture bit =
    let rest = drop bit (capture_bits capture) in
    let piece = take 32 rest in
    let are : AreBits piece = All-take (λ b. b < 2) 32 rest (All-drop (λ b. b < 2) bit (capture_bits capture) (bits_are capture)) in
    let long = length-take 32 rest in
    let most : length piece + 0 ≤ 32 = omega arith in
    let fits = high_number-lt piece 0 0 are (lit< tt) in
    let room = pow_mono most in
    omega arith

pub one_thing : (capture : List ℕ) (rs ss : List Reception) (ps qs : List Page) → HasCaptured capture rs ps → HasCaptured capture ss qs → (rs ≡ ss) × (ps ≡ qs)
one_thing capture rs ss ps qs f g =
    let bits = capture_bits capture in
    let same = same_found bits 0 0 rs ss (capture_fits capture) f.found g.found in
    let pages = same_lists_of_pages bits rs f.pages g.pages f.each
    (subst (λ (l : List Reception). AllZip (λ (r : Reception) (here : List Page). AreCaptured (received bits r) here) l g.pages) (sym same) g.each) in
    (same, f.all ∙ ap (flat_map (λ (here : List Page). here)) pages ∙ sym g.all)

-- ---- what a pager shows

without_orphans_run : (ms : List (Option Kind)) → run_of ms ≡ run_of (map Some (without_orphans true ms))
without_orphans_run [] = refl
without_orphans_run (None ∷ ms) = refl
without_orphans_run (Some Idle ∷ ms) = refl
without_orphans_run (Some (Address high function) ∷ ms) = refl
without_orphans_run (Some (Message bits) ∷ ms) = ap (λ (l : List ℕ). bits ∷ l) (without_orphans_run ms)

without_orphans_shown : (a i : ℕ) (b : Bool) (ms : List (Option Kind)) → shown_from a i ms ≡ shown_from a i (map Some (without_orphans b ms))
without_orphans_shown a i b [] = refl
without_orphans_shown a i b (None ∷ ms) = without_orphans_shown a (i + 1) false ms
without_orphans_shown a i b (Some Idle ∷ ms) = without_orphans_shown a (i + 1) false ms
without_orphans_shown a i b (Some (Address high function) ∷ ms) =
    ap₂ (λ (run : List ℕ) (ps : List Page). cond (is_ours a i high) ((record { address = a; function = function; payload = run }) ∷ ps) ps)
    (without_orphans_run ms) (without_orphans_shown a (i + 1) true ms)
without_orphans_shown a i true (Some (Message bits) ∷ ms) = without_orphans_shown a (i + 1) true ms
without_orphans_shown a i false (Some (Message bits) ∷ ms) = without_orphans_shown a (i + 1) false ms

pub captured_shown : (words : List ℕ) (a : ℕ) (ps qs : List Page) → AreCaptured words ps → AreShown words a qs → qs ≡ filter (calls a) ps
captured_shown words a ps qs f g =
    g.holds
    ∙ ap (λ (ms : List (Option ℕ)). shown_from a 0 (map said ms)) (all_mended_same (unsynced 0 words) g.mended f.mended g.each f.each)
    ∙ without_orphans_shown a 0 false (map said f.mended) ∙ shown_is_chosen a 0 (without_orphans false (map said f.mended))
    ∙ ap (filter (calls a)) (sym (reads_plainly f.holds).pages)
