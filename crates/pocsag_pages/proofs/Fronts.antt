-- A front of a text that has a wide record: up to that one its records are those of the text.
use Rattle.pocsag_pages.proofs.Prelude.{◌≡◌, ℕ, zero, suc, ◌<◌, ◌≤◌, ◌==◌, ◌&&◌, Bool, true, false, List, [], ◌∷◌, ◌++◌, length, take, drop, refl, sym, ap, subst, ◌∙◌, arith, if◌then◌else◌, nat_lt, and_parts, eqb-true, false≢true, lt-ltb, ltb-true, length-append, length-take, take-append-drop, ends_at_end, next_record, step, default_config, is_bom, records, records_from, strip_bom, Action, State, Row, rows_of, has_wide, up_to_wide}
use native.Mathlib.Decide.{dec_lt}
use Rattle.csv.specs.declared.parser.Action.TheVariants as act
use Rattle.csv.specs.declared.parser.State.TheVariants as st
use Rattle.csv.proofs.ReadFacts.{strip-short}
use Rattle.pocsag_pages.proofs.CsvRecords.{no_more, one_record}
use Rattle.pocsag_pages.proofs.CsvSteps.{IsInside, StartsField, StaysInside, starts_field, stays_inside}
use Rattle.pocsag_pages.proofs.WideRecords.{cut_wide, on_byte, rows_at, rows_on, wide}

-- a wide record among others
pub wide_first : (r : Row) (rows : List Row) → 3 < length r → has_wide (r ∷ rows) ≡ true
unfolding has_wide
wide_first r rows h = rw (lt-ltb 3 (length r) h) refl

later_by : (b : Bool) (rows : List Row) → has_wide rows ≡ true → (if b then true else has_wide rows) ≡ true
later_by true rows h = refl
later_by false rows h = h

pub wide_later : (r : Row) (rows : List Row) → has_wide rows ≡ true → has_wide (r ∷ rows) ≡ true
unfolding has_wide
wide_later r rows h = later_by (nat_lt 3 (length r)) rows h

-- at the end of the front only a record that has three fields already is wide
wide_last : (b : Bool) (n : ℕ) (r : Row) → nat_lt 3 (length r) ≡ b →
    has_wide (r ∷ records_from default_config n st.StartRecord []) ≡ true → 3 < length r
unfolding has_wide
wide_last true n r e w = ltb-true 3 (length r) e
wide_last false n r e w = absurd (cc (rw (e, no_more default_config n) at w))

three_before : (b : Bool) (n : ℕ) (s : State) (fields : Row) (field : List ℕ) → ends_at_end s ≡ b →
    has_wide (rows_on n s fields field []) ≡ true → 3 ≤ length fields
unfolding next_record has_wide
three_before true n s fields field e w =
    let more : 3 < length (fields ++ field ∷ []) = wide_last _ n (fields ++ field ∷ []) refl (rw e at w) in
    omega (arith, more, length-append fields (field ∷ []))
three_before false n s fields field e w = absurd (cc (rw e at w))

-- the rows up to a wide one are the same with more text behind the front, from here on
abbrev Shows : State → (rest more : List ℕ) → Type 0
Shows s rest more =
    (n m : ℕ) (fields : Row) (field : List ℕ) → length rest ≤ n → length (rest ++ more) ≤ m → (3 ≤ length fields → IsInside s) →
    has_wide (rows_on n s fields field rest) ≡ true →
    up_to_wide (rows_on n s fields field rest) ≡ up_to_wide (rows_on m s fields field (rest ++ more))

shows_end : (s : State) (more : List ℕ) → Shows s [] more
shows_end s more n m fields field h k inside w =
    let three : 3 ≤ length fields = three_before (ends_at_end s) n s fields field refl w in
    let here : IsInside s = inside three in
    sym (cut_wide _ (take 3 fields) (wide n s fields (take 3 fields) field [] here three refl))
    ∙ cut_wide _ (take 3 fields) (wide m s fields (take 3 fields) field more here three refl)

shows_record : (b : Bool) (n m : ℕ) (s : State) (r : Row) (rest more : List ℕ) → nat_lt 3 (length r) ≡ b →
    length rest < n → length (rest ++ more) < m → Shows s rest more →
    has_wide (r ∷ records_from default_config n s rest) ≡ true →
    up_to_wide (r ∷ records_from default_config n s rest) ≡ up_to_wide (r ∷ records_from default_config m s (rest ++ more))
unfolding records_from has_wide up_to_wide
shows_record true n m s r rest more e h k later w = rw e refl
shows_record false zero m s r rest more e h k later w = absurd (omega arith)
shows_record false (suc n) zero s r rest more e h k later w = absurd (omega arith)
shows_record false (suc n) (suc m) s r rest more e h k later w =
    rw e (ap (λ rows. r ∷ rows) (later n m [] [] (omega arith) (omega arith) (λ three. absurd (omega (arith, three))) (rw e at w)))

shows_at : (n m : ℕ) (s : State) (a : Action) (fields : Row) (field : List ℕ) (c : ℕ) (rest more : List ℕ) →
    (3 ≤ length fields → StaysInside (s, a)) → StartsField (s, a) → length rest < n → length (rest ++ more) < m →
    Shows s rest more → has_wide (rows_at n s a fields field c rest) ≡ true →
    up_to_wide (rows_at n s a fields field c rest) ≡ up_to_wide (rows_at m s a fields field c (rest ++ more))
shows_at n m s act.Skip fields field c rest more stays starts h k later w =
    later n m fields field (omega arith) (omega arith) (λ three. stays three refl) w
shows_at n m s act.Copy fields field c rest more stays starts h k later w =
    later n m fields (field ++ c ∷ []) (omega arith) (omega arith) (λ three. stays three refl) w
shows_at n m s act.EndField fields field c rest more stays starts h k later w =
    later n m (fields ++ field ∷ []) [] (omega arith) (omega arith) (λ three. subst IsInside (sym (starts refl)) tt) w
shows_at n m s act.EndRecord fields field c rest more stays starts h k later w =
    shows_record _ n m s (fields ++ field ∷ []) rest more refl h k later w

shows : (s : State) (rest more : List ℕ) → Shows s rest more
shows s [] more = shows_end s more
shows s (c ∷ rest) more = λ n m fields field h k inside w.
    rw (on_byte n s fields field c rest, on_byte m s fields field c (rest ++ more))
    (shows_at n m (step default_config s c).0 (step default_config s c).1 fields field c rest more (λ three. stays_inside s c (inside three))
    (starts_field s c) (omega arith) (omega arith) (shows (step default_config s c).0 rest more)
    (rw (on_byte n s fields field c rest) at w))

front_records : (text more : List ℕ) → has_wide (records default_config text) ≡ true →
    up_to_wide (records default_config text) ≡ up_to_wide (records default_config (text ++ more))
front_records text more w =
    let front = one_record default_config st.StartRecord text _ refl in
    let whole = one_record default_config st.StartRecord (text ++ more) _ refl in
    rw (front, whole)
    (shows st.StartRecord text more (length text) (length (text ++ more)) [] [] (omega arith) (omega arith)
    (λ three. absurd (omega (arith, three))) (rw front at w))

-- a front with a whole byte order mark loses it as the text does
mark_by : (b : Bool) (n x y z : ℕ) (rest : List ℕ) →
    (if b then rest else x ∷ y ∷ z ∷ rest) ≡ (if b then take n rest else x ∷ y ∷ z ∷ take n rest) ++ drop n rest
mark_by true n x y z rest = sym (take-append-drop n rest)
mark_by false n x y z rest = ap (λ r. x ∷ y ∷ z ∷ r) (sym (take-append-drop n rest))

unmarked : (n : ℕ) (file : List ℕ) → 3 ≤ n → strip_bom file ≡ strip_bom (take n file) ++ drop n file
unfolding strip_bom
unmarked zero file h = absurd (omega arith)
unmarked (suc zero) file h = absurd (omega arith)
unmarked (suc (suc zero)) file h = absurd (omega arith)
unmarked (suc (suc (suc n))) [] h = refl
unmarked (suc (suc (suc n))) (x ∷ []) h = refl
unmarked (suc (suc (suc n))) (x ∷ y ∷ []) h = refl
unmarked (suc (suc (suc n))) (x ∷ y ∷ z ∷ rest) h = mark_by (is_bom x y z) n x y z rest

-- and one with a part of it has no wide record
no_wide : (n : ℕ) (rest : List ℕ) → n < 3 → has_wide (rows_of (take n (239 ∷ 187 ∷ 191 ∷ rest))) ≡ false
unfolding strip_bom records_from next_record has_wide
no_wide zero rest h = refl
no_wide (suc zero) rest h = refl
no_wide (suc (suc zero)) rest h = refl
no_wide (suc (suc (suc n))) rest h = absurd (omega arith)

same_text : (n : ℕ) (file : List ℕ) → n < 3 → strip_bom file ≡ file → has_wide (rows_of (take n file)) ≡ true →
    up_to_wide (rows_of (take n file)) ≡ up_to_wide (rows_of file)
same_text n file h same w =
    let short : length (take n file) < 3 = omega (arith, length-take n file) in
    let bare : strip_bom (take n file) ≡ take n file = strip-short (take n file) short in
    let shown = front_records (take n file) (drop n file) (rw bare at w) in
    rw (bare, same) (rw (take-append-drop n file) at shown)

short_by : (b : Bool) (n x y z : ℕ) (rest : List ℕ) → is_bom x y z ≡ b → n < 3 → has_wide (rows_of (take n (x ∷ y ∷ z ∷ rest))) ≡ true →
    up_to_wide (rows_of (take n (x ∷ y ∷ z ∷ rest))) ≡ up_to_wide (rows_of (x ∷ y ∷ z ∷ rest))
unfolding strip_bom
short_by true n x y z rest e h w =
    let all = and_parts ((x == 239) && (y == 187)) (z == 191) e in
    let two = and_parts (x == 239) (y == 187) all.0 in
    let first : x ≡ 239 = eqb-true x 239 two.0 in
    let second : y ≡ 187 = eqb-true y 187 two.1 in
    let third : z ≡ 191 = eqb-true z 191 all.1 in
    absurd (false≢true (sym (no_wide n rest h) ∙ (rw (first, second, third) at w)))
short_by false n x y z rest e h w = same_text n (x ∷ y ∷ z ∷ rest) h (rw e refl) w

short_front : (n : ℕ) (file : List ℕ) → n < 3 → has_wide (rows_of (take n file)) ≡ true →
    up_to_wide (rows_of (take n file)) ≡ up_to_wide (rows_of file)
unfolding strip_bom
short_front n [] h w = same_text n [] h refl w
short_front n (x ∷ []) h w = same_text n (x ∷ []) h refl w
short_front n (x ∷ y ∷ []) h w = same_text n (x ∷ y ∷ []) h refl w
short_front n (x ∷ y ∷ z ∷ rest) h w = short_by (is_bom x y z) n x y z rest refl h w

pub head_rows : (n : ℕ) (file : List ℕ) → has_wide (rows_of (take n file)) ≡ true →
    up_to_wide (rows_of (take n file)) ≡ up_to_wide (rows_of file)
head_rows n file w = elim (dec_lt n 3) [
  | yes short ↦ short_front n file short w
  | no long ↦
      let whole = unmarked n file (omega (arith, long)) in
      rw whole (front_records (strip_bom (take n file)) (drop n file) w)
]
