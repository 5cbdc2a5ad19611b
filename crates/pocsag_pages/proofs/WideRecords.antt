-- Records of more than three fields: that only they are cut, and that the verdict stays.
use Rattle.pocsag_pages.proofs.Prelude.{if◌then◌else◌, ◌≡◌, ℕ, ◌+◌, ◌<◌, ◌≤◌, Bool, true, false, List, [], ◌∷◌, ◌++◌, length, take, refl, sym, ap, ◌∙◌, arith, Some, Err, nat_lt, le-ltb, lt-ltb, ltb-true, length-append, take-append-le, next_record, is_end, step, fields_after, field_after, default_config, records_from, records_next, Action, State, Page, Row, fault_after, in_the_way, is_header, page_of, pages_of, pages_of_all_rows, up_to_wide}
use Rattle.std.proofs.Common.{length-take-le}
use Rattle.csv.specs.declared.parser.Action.TheVariants as act
use Rattle.csv.specs.declared.parser.State.TheVariants as st
use Rattle.pocsag_pages.specs.declared.fault.RecordFault.TheVariants as wrong
use Rattle.pocsag_pages.specs.declared.fault.RoundFault.TheVariants as fault
use Rattle.pocsag_pages.proofs.CsvSteps.{IsInside, StaysInside, stays_inside}
use Rattle.pocsag_pages.proofs.Judgements.{grown, or_later, judged}

-- the records of a text, of which the first has these fields and this part of one so far
abbrev pub rows_on : ℕ → State → List (List ℕ) → List ℕ → List ℕ → List Row
rows_on n s fields field xs = records_next (records_from default_config n) (next_record default_config s fields field xs)

-- the same at a byte that does this and leaves this state
abbrev pub rows_at : ℕ → State → Action → List (List ℕ) → List ℕ → ℕ → List ℕ → List Row
rows_at n s a fields field c rest =
    records_next (records_from default_config n)
    (if is_end a then Some (fields_after a fields field, s, rest)
    else next_record default_config s (fields_after a fields field) (field_after a c field) rest)

pub on_byte : (n : ℕ) (s : State) (fields : List (List ℕ)) (field : List ℕ) (c : ℕ) (rest : List ℕ) →
    rows_on n s fields field (c ∷ rest)
    ≡ rows_at n (step default_config s c).0 (step default_config s c).1 fields field c rest
unfolding next_record
on_byte n s fields field c rest = refl

-- the first record is wide, and its first three fields are these
abbrev pub StartsWide : List (List ℕ) → List Row → Type 0
StartsWide three [] = ⊥
StartsWide three (r ∷ rows) = (4 ≤ length r) × (take 3 r ≡ three)

one_more : (fields : List (List ℕ)) (field : List ℕ) (k : ℕ) → k ≤ length fields → k + 1 ≤ length (fields ++ field ∷ [])
one_more fields field k h = omega (arith, length-append fields (field ∷ []))

-- a field more leaves the first three
still_three : (fields three : List (List ℕ)) (field : List ℕ) → 3 ≤ length fields → take 3 fields ≡ three →
    take 3 (fields ++ field ∷ []) ≡ three
still_three fields three field w e = take-append-le 3 fields (field ∷ []) w ∙ e

wide_end : (n : ℕ) (s : State) (fields three : List (List ℕ)) (field : List ℕ) → IsInside s → 3 ≤ length fields →
    take 3 fields ≡ three → StartsWide three (rows_on n s fields field [])
unfolding next_record
wide_end n st.StartRecord fields three field h w e = absurd h
wide_end n st.StartField fields three field h w e = (one_more fields field 3 w, still_three fields three field w e)
wide_end n st.InField fields three field h w e = (one_more fields field 3 w, still_three fields three field w e)
wide_end n st.InQuoted fields three field h w e = (one_more fields field 3 w, still_three fields three field w e)
wide_end n st.AfterQuote fields three field h w e = (one_more fields field 3 w, still_three fields three field w e)
wide_end n st.InEscape fields three field h w e = absurd h
wide_end n st.InComment fields three field h w e = absurd h
wide_end n st.AfterCr fields three field h w e = absurd h

wide_at : (n : ℕ) (s : State) (a : Action) (fields three : List (List ℕ)) (field : List ℕ) (c : ℕ) (rest : List ℕ) →
    StaysInside (s, a) → 3 ≤ length fields → take 3 fields ≡ three
    → ((fs : List (List ℕ)) (f : List ℕ) → IsInside s → 3 ≤ length fs → take 3 fs ≡ three →
    StartsWide three (rows_on n s fs f rest))
    → StartsWide three (rows_at n s a fields field c rest)
wide_at n s act.Skip fields three field c rest stays w e later = later fields field (stays refl) w e
wide_at n s act.Copy fields three field c rest stays w e later = later fields (field ++ c ∷ []) (stays refl) w e
wide_at n s act.EndField fields three field c rest stays w e later =
    let longer : 4 ≤ length (fields ++ field ∷ []) = one_more fields field 3 w in
    later (fields ++ field ∷ []) [] (stays refl) (omega arith) (still_three fields three field w e)
wide_at n s act.EndRecord fields three field c rest stays w e later =
    (one_more fields field 3 w, still_three fields three field w e)

pub wide : (n : ℕ) (s : State) (fields three : List (List ℕ)) (field xs : List ℕ) → IsInside s → 3 ≤ length fields →
    take 3 fields ≡ three → StartsWide three (rows_on n s fields field xs)
wide n s fields three field [] h w e = wide_end n s fields three field h w e
wide n s fields three field (c ∷ rest) h w e =
    rw (on_byte n s fields field c rest)
    (wide_at n (step default_config s c).0 (step default_config s c).1 fields three field c rest (stays_inside s c h) w e
    (λ fs f i v g. wide n (step default_config s c).0 fs three f rest i v g))

-- a wide record is cut and the last, and one that is not is kept
pub cut_wide : (rows : List Row) (three : Row) → StartsWide three rows → (three ++ [] ∷ []) ∷ [] ≡ up_to_wide rows
unfolding up_to_wide
cut_wide [] three w = absurd w
cut_wide (r ∷ rows) three w = rw (lt-ltb 3 (length r) w.0, w.1) refl

kept_narrow : (r : Row) (rows : List Row) → length r ≤ 3 → up_to_wide (r ∷ rows) ≡ r ∷ up_to_wide rows
unfolding up_to_wide
kept_narrow r rows h = rw (le-ltb 3 (length r) h) refl

-- a record of at most three fields, with those behind it, and none
pub narrow_row : (rows later : List Row) (r : Row) → rows ≡ r ∷ later → length r ≤ 3 → up_to_wide rows ≡ r ∷ up_to_wide later
narrow_row rows later r e h = rw e (kept_narrow r later h)

pub no_row : (rows : List Row) → rows ≡ [] → up_to_wide rows ≡ []
unfolding up_to_wide
no_row rows e = rw e refl

-- records up to a wide one have the verdict of all
wide_page : (r : Row) → 3 < length r → page_of r ≡ Err wrong.FieldCount
unfolding page_of
wide_page [] h = absurd (omega arith)
wide_page (a ∷ []) h = absurd (omega arith)
wide_page (a ∷ b ∷ []) h = absurd (omega arith)
wide_page (a ∷ b ∷ c ∷ []) h = absurd (omega arith)
wide_page (a ∷ b ∷ c ∷ d ∷ r) h = refl

wide_header : (r : Row) → 3 < length r → is_header r ≡ false
unfolding is_header
wide_header [] h = absurd (omega arith)
wide_header (a ∷ []) h = absurd (omega arith)
wide_header (a ∷ b ∷ []) h = absurd (omega arith)
wide_header (a ∷ b ∷ c ∷ []) h = absurd (omega arith)
wide_header (a ∷ b ∷ c ∷ d ∷ r) h = refl

cut_length : (r : Row) → 3 < length r → length (take 3 r ++ [] ∷ []) ≡ 4
cut_length r h = omega (arith, length-append (take 3 r) ([] ∷ []), length-take-le 3 r (omega arith))

module _ (may_wait : Bool) where
  grown_by : (b : Bool) (ps : List Page) (n : ℕ) (r : Row) (rows : List Row) → nat_lt 3 (length r) ≡ b →
      ((qs : List Page) (m : ℕ) → grown may_wait qs m (up_to_wide rows) ≡ grown may_wait qs m rows) →
      grown may_wait ps n (if b then (take 3 r ++ [] ∷ []) ∷ [] else r ∷ up_to_wide rows) ≡ grown may_wait ps n (r ∷ rows)
  unfolding grown
  grown_by true ps n r rows e later =
      let more : 3 < length r = ltb-true 3 (length r) e in
      let four = cut_length r more in
      rw (wide_page r more, wide_page (take 3 r ++ [] ∷ []) (omega (arith, four))) refl
  grown_by false ps n r rows e later =
      ap (or_later (fault_after n (in_the_way may_wait ps) (page_of r)) n) (later (ps ++ pages_of (r ∷ [])) (n + 1))

  same_grown : (ps : List Page) (n : ℕ) (rows : List Row) → grown may_wait ps n (up_to_wide rows) ≡ grown may_wait ps n rows
  unfolding up_to_wide
  same_grown ps n [] = refl
  same_grown ps n (r ∷ rows) = grown_by (nat_lt 3 (length r)) ps n r rows refl (λ qs m. same_grown qs m rows)

  verdict_by : (b : Bool) (r : Row) (rows : List Row) → nat_lt 3 (length r) ≡ b →
      pages_of_all_rows may_wait (if b then (take 3 r ++ [] ∷ []) ∷ [] else r ∷ up_to_wide rows) ≡ pages_of_all_rows may_wait (r ∷ rows)
  unfolding pages_of_all_rows
  verdict_by true r rows e =
      let more : 3 < length r = ltb-true 3 (length r) e in
      let four = cut_length r more in
      rw (wide_header r more, wide_header (take 3 r ++ [] ∷ []) (omega (arith, four))) refl
  verdict_by false r rows e =
      ap (λ v. if is_header r then v else Err fault.BadHeader)
      (judged may_wait (up_to_wide rows) ∙ same_grown [] 0 rows ∙ sym (judged may_wait rows))

  pub same_verdict : (rows : List Row) → pages_of_all_rows may_wait (up_to_wide rows) ≡ pages_of_all_rows may_wait rows
  unfolding up_to_wide
  same_verdict [] = refl
  same_verdict (r ∷ rows) = verdict_by (nat_lt 3 (length r)) r rows refl

-- a record of more than three fields, cut
pub wide_row : (rows later : List Row) (r longer : Row) → rows ≡ r ∷ later → 3 < length r → longer ≡ take 3 r ++ [] ∷ [] →
    up_to_wide rows ≡ longer ∷ up_to_wide []
unfolding up_to_wide
wide_row rows later r longer e h f = rw (e, lt-ltb 3 (length r) h, f) refl
