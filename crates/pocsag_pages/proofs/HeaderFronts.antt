-- A file whose first record is the header shows it in its front: each byte of a record, but for its line end, makes it longer, adds
-- a field, or is one of two quotes around a field.
use Rattle.pocsag_pages.proofs.Prelude.{if◌then◌else◌, ◌≡◌, ℕ, zero, suc, ◌+◌, ◌*◌, ◌<◌, ◌≤◌, ◌==◌, ◌||◌, ◌&&◌, Bool, true, false, List, [], ◌∷◌, ◌++◌, length, get_or, min, take, drop, refl, sym, ap, ◌∙◌, arith, Option, Some, None, codes, and_parts, false_from_ne_true, false≢true, drop_more, length-append, take_min, bytes_eq-Decides, Read, field_after, fields_after, is_end, next_record, step, default_config, is_bom, records, records_from, records_next, strip_bom, Action, State, header_front, line_ends_first, starts_with_header, Row, is_header, rows_of}
use Rattle.std.specs.Str.{bytes_eq}
use Rattle.csv.specs.declared.parser.Action.TheVariants as act
use Rattle.csv.specs.declared.parser.State.TheVariants as st
use Rattle.pocsag_pages.proofs.CsvRecords.{one_record}
use Rattle.pocsag_pages.proofs.CsvSteps.{IsInside, StaysInside, bare_step, either, stays_inside}

-- the most bytes of fields but for the quotes that may stand around the next, each byte of a field counted twice since it may be a
-- quote that is doubled
row_cost : Row → ℕ
row_cost [] = 0
row_cost (f ∷ fields) = 2 * length f + 3 + row_cost fields

row_cost_push : (fields : Row) (field : List ℕ) → row_cost (fields ++ field ∷ []) ≡ row_cost fields + (2 * length field + 3)
unfolding row_cost
row_cost_push [] field = omega arith
row_cost_push (f ∷ fields) field = omega (arith, row_cost_push fields field)

-- how many quotes around the field at hand may still stand there
abbrev quotes_ahead : State → ℕ
quotes_ahead st.StartRecord = 0
quotes_ahead st.StartField = 2
quotes_ahead st.InField = 0
quotes_ahead st.InQuoted = 1
quotes_ahead st.AfterQuote = 0
quotes_ahead st.InEscape = 0
quotes_ahead st.InComment = 0
quotes_ahead st.AfterCr = 0

-- by how much an action adds to the fields
abbrev action_cost : Action → ℕ
action_cost act.Skip = 0
action_cost act.Copy = 2
action_cost act.EndField = 3
action_cost act.EndRecord = 3

-- each byte adds something or is a quote around the field
abbrev AddsCost : State → State × Action → Type 0
AddsCost s p = quotes_ahead p.0 + 1 ≤ action_cost p.1 + quotes_ahead s

bare_adds : (s : State) (c : ℕ) → quotes_ahead s ≡ 0 → AddsCost s (step default_config st.InField c)
bare_adds s c e =
    bare_step (AddsCost s) c (omega arith) (λ b. ended b) (omega arith)
  where
    ended : (b : Bool) → AddsCost s (if b then st.AfterCr else st.StartRecord, act.EndRecord)
    ended true = omega arith
    ended false = omega arith

start_adds : (c : ℕ) → AddsCost st.StartField (step default_config st.StartField c)
start_adds c =
    either (AddsCost st.StartField) (c == 34) (st.InQuoted, act.Skip) _ (omega arith)
    (bare_step (AddsCost st.StartField) c (omega arith) (λ b. ended b) (omega arith))
  where
    ended : (b : Bool) → AddsCost st.StartField (if b then st.AfterCr else st.StartRecord, act.EndRecord)
    ended true = omega arith
    ended false = omega arith

adds_cost : (s : State) (c : ℕ) → IsInside s → AddsCost s (step default_config s c)
adds_cost st.StartRecord c h = absurd h
adds_cost st.StartField c h = start_adds c
adds_cost st.InField c h = bare_adds st.InField c refl
adds_cost st.InQuoted c h =
    either (AddsCost st.InQuoted) (c == 34) (st.AfterQuote, act.Skip) (st.InQuoted, act.Copy) (omega arith) (omega arith)
adds_cost st.AfterQuote c h =
    either (AddsCost st.AfterQuote) (c == 34) (st.InQuoted, act.Copy) _ (omega arith) (bare_adds st.AfterQuote c refl)
adds_cost st.InEscape c h = absurd h
adds_cost st.InComment c h = absurd h
adds_cost st.AfterCr c h = absurd h

cost_after : (a : Action) (fields : Row) (field : List ℕ) (c : ℕ) → is_end a ≡ false →
    row_cost (fields_after a fields field) + 2 * length (field_after a c field) ≡ row_cost fields + 2 * length field + action_cost a
cost_after act.Skip fields field c e = omega arith
cost_after act.Copy fields field c e = omega (arith, length-append field (c ∷ []))
cost_after act.EndField fields field c e = omega (arith, row_cost_push fields field)
cost_after act.EndRecord fields field c e = absurd (cc)

cost_ended : (a : Action) (fields : Row) (field : List ℕ) → is_end a ≡ true → fields_after a fields field ≡ fields ++ field ∷ []
cost_ended act.Skip fields field e = absurd (cc)
cost_ended act.Copy fields field e = absurd (cc)
cost_ended act.EndField fields field e = absurd (cc)
cost_ended act.EndRecord fields field e = refl

last_field : (s : State) (fields : Row) (field : List ℕ) → IsInside s →
    next_record default_config s fields field [] ≡ Some (fields ++ field ∷ [], st.StartRecord, [])
unfolding next_record
last_field st.StartRecord fields field h = absurd h
last_field st.StartField fields field h = refl
last_field st.InField fields field h = refl
last_field st.InQuoted fields field h = refl
last_field st.AfterQuote fields field h = refl
last_field st.InEscape fields field h = absurd h
last_field st.InComment fields field h = absurd h
last_field st.AfterCr fields field h = absurd h

-- the next record at a byte
record_on : (s : State) (fields : Row) (field : List ℕ) (c : ℕ) (rest : List ℕ) →
    next_record default_config s fields field (c ∷ rest)
    ≡ (if is_end (step default_config s c).1 then Some (fields_after (step default_config s c).1 fields field, (step default_config s c).0, rest)
    else next_record default_config (step default_config s c).0 (fields_after (step default_config s c).1 fields field)
    (field_after (step default_config s c).1 c field) rest)
unfolding next_record
record_on s fields field c rest = refl

-- a record costs no less than what of it was read
CostsMore : List ℕ → Type 0
CostsMore xs = (s : State) (fields : Row) (field : List ℕ) (p : Read) → IsInside s → next_record default_config s fields field xs ≡ Some p →
    row_cost fields + 2 * length field + 3 ≤ row_cost p.0 + quotes_ahead s

costs_at : (b : Bool) (s t : State) (a : Action) (fields : Row) (field rest : List ℕ) (c : ℕ) (p : Read) → is_end a ≡ b →
    AddsCost s (t, a) → StaysInside (t, a) → CostsMore rest →
    (if b then Some (fields_after a fields field, t, rest) else next_record default_config t (fields_after a fields field) (field_after a c field) rest)
    ≡ Some p → row_cost fields + 2 * length field + 3 ≤ row_cost p.0 + quotes_ahead s
unfolding CostsMore
costs_at true s t a fields field rest c p e adds stays later is =
    let all : p.0 ≡ fields ++ field ∷ [] = sym (cc is) ∙ cost_ended a fields field e in
    omega (arith, ap row_cost all, row_cost_push fields field)
costs_at false s t a fields field rest c p e adds stays later is =
    omega (arith, cost_after a fields field c e, later t (fields_after a fields field) (field_after a c field) p (stays e) is)

costs_more : (xs : List ℕ) → CostsMore xs
unfolding CostsMore
costs_more [] s fields field p h is =
    let all : p.0 ≡ fields ++ field ∷ [] = cc (last_field s fields field h) in
    omega (arith, ap row_cost all, row_cost_push fields field)
costs_more (c ∷ rest) s fields field p h is =
    costs_at (is_end (step default_config s c).1) s (step default_config s c).0 (step default_config s c).1 fields field rest c p refl
    (adds_cost s c h) (stays_inside s c h) (costs_more rest) (rw (record_on s fields field c rest) at is)

-- a front of so many bytes has the record
InFront : List ℕ → Type 0
InFront xs = (k : ℕ) (s : State) (fields : Row) (field : List ℕ) (p : Read) → IsInside s →
    next_record default_config s fields field xs ≡ Some p →
    row_cost p.0 + quotes_ahead s ≤ row_cost fields + 2 * length field + 3 + k →
    (q : Read) × (next_record default_config s fields field (take k xs) ≡ Some q) × (q.0 ≡ p.0)

in_front_at : (b : Bool) (k : ℕ) (s t : State) (a : Action) (fields : Row) (field rest : List ℕ) (c : ℕ) (p : Read) → is_end a ≡ b →
    AddsCost s (t, a) → StaysInside (t, a) → InFront rest →
    (if b then Some (fields_after a fields field, t, rest) else next_record default_config t (fields_after a fields field) (field_after a c field) rest)
    ≡ Some p → row_cost p.0 + quotes_ahead s ≤ row_cost fields + 2 * length field + 3 + suc k →
    (q : Read) × ((if b then Some (fields_after a fields field, t, take k rest)
    else next_record default_config t (fields_after a fields field) (field_after a c field) (take k rest)) ≡ Some q) × (q.0 ≡ p.0)
unfolding InFront
in_front_at true k s t a fields field rest c p e adds stays later is low =
    ((fields_after a fields field, t, take k rest), refl, cc is)
in_front_at false k s t a fields field rest c p e adds stays later is low =
    later k t (fields_after a fields field) (field_after a c field) p (stays e) is (omega (arith, cost_after a fields field c e))

no_room_at : (b : Bool) (s t : State) (a : Action) (fields : Row) (field rest : List ℕ) (c : ℕ) (p : Read) → is_end a ≡ b →
    AddsCost s (t, a) → StaysInside (t, a) →
    (if b then Some (fields_after a fields field, t, rest) else next_record default_config t (fields_after a fields field) (field_after a c field) rest)
    ≡ Some p → row_cost p.0 + quotes_ahead s ≤ row_cost fields + 2 * length field + 3 →
    fields ++ field ∷ [] ≡ p.0
unfolding CostsMore
no_room_at true s t a fields field rest c p e adds stays is low = sym (cost_ended a fields field e) ∙ cc is
no_room_at false s t a fields field rest c p e adds stays is low =
    absurd
    (omega (
      arith,
      cost_after a fields field c e,
      costs_more rest t (fields_after a fields field) (field_after a c field) p (stays e) is,
    ))

in_front : (xs : List ℕ) → InFront xs
unfolding InFront
in_front [] zero s fields field p h is low = (p, is, refl)
in_front [] (suc k) s fields field p h is low = (p, is, refl)
in_front (c ∷ rest) zero s fields field p h is low = (
  (fields ++ field ∷ [], st.StartRecord, []),
  last_field s fields field h,
  no_room_at (is_end (step default_config s c).1) s (step default_config s c).0 (step default_config s c).1 fields field rest c p refl
      (adds_cost s c h) (stays_inside s c h) (rw (record_on s fields field c rest) at is) (omega arith),
)
in_front (c ∷ rest) (suc k) s fields field p h is low =
    rw (record_on s fields field c (take k rest))
    (in_front_at (is_end (step default_config s c).1) k s (step default_config s c).0 (step default_config s c).1 fields field rest c p refl
    (adds_cost s c h) (stays_inside s c h) (in_front rest) (rw (record_on s fields field c rest) at is) low)

-- the same behind line ends
as_field : (c : ℕ) (rest : List ℕ) → ((c == 13) || (c == 10)) ≡ false →
    next_record default_config st.StartRecord [] [] (c ∷ rest) ≡ next_record default_config st.StartField [] [] (c ∷ rest)
unfolding next_record
as_field c rest e = rw e refl

as_line_end : (c : ℕ) (rest : List ℕ) → ((c == 13) || (c == 10)) ≡ true →
    next_record default_config st.StartRecord [] [] (c ∷ rest) ≡ next_record default_config st.StartRecord [] [] rest
unfolding next_record
as_line_end c rest e = rw e refl

first_by : (b : Bool) (k c : ℕ) (rest : List ℕ) (p : Read) → ((c == 13) || (c == 10)) ≡ b → row_cost p.0 ≡ 45 →
    (if b then suc (line_ends_first rest) else 0) + 45 ≤ suc k →
    ((j : ℕ) → next_record default_config st.StartRecord [] [] rest ≡ Some p → line_ends_first rest + 45 ≤ j →
    (q : Read) × (next_record default_config st.StartRecord [] [] (take j rest) ≡ Some q) × (q.0 ≡ p.0)) →
    next_record default_config st.StartRecord [] [] (c ∷ rest) ≡ Some p →
    (q : Read) × (next_record default_config st.StartRecord [] [] (c ∷ take k rest) ≡ Some q) × (q.0 ≡ p.0)
unfolding InFront row_cost
first_by true k c rest p e cost room later is =
    let shown = later k (sym (as_line_end c rest e) ∙ is) (omega arith) in
    (shown.0, as_line_end c (take k rest) e ∙ shown.1, shown.2)
first_by false k c rest p e cost room later is =
    let shown = in_front (c ∷ rest) (suc k) st.StartField [] [] p tt (sym (as_field c rest e) ∙ is) (omega arith) in
    (shown.0, as_field c (take k rest) e ∙ shown.1, shown.2)

first_in_front : (xs : List ℕ) (k : ℕ) (p : Read) → row_cost p.0 ≡ 45 → next_record default_config st.StartRecord [] [] xs ≡ Some p →
    line_ends_first xs + 45 ≤ k →
    (q : Read) × (next_record default_config st.StartRecord [] [] (take k xs) ≡ Some q) × (q.0 ≡ p.0)
unfolding line_ends_first
first_in_front [] zero p cost is room = (p, is, refl)
first_in_front [] (suc k) p cost is room = (p, is, refl)
first_in_front (c ∷ rest) zero p cost is room = absurd (omega arith)
first_in_front (c ∷ rest) (suc k) p cost is room =
    first_by ((c == 13) || (c == 10)) k c rest p refl cost room (λ j next low. first_in_front rest j p cost next low) is

-- what the header costs
header_cost : (r : Row) → is_header r ≡ true → row_cost r ≡ 45
unfolding is_header row_cost
header_cost [] h = absurd (cc)
header_cost (a ∷ []) h = absurd (cc)
header_cost (a ∷ k ∷ []) h = absurd (cc)
header_cost (a ∷ k ∷ m ∷ []) h =
    let all = and_parts (bytes_eq a (codes "address") && bytes_eq k (codes "kind")) (bytes_eq m (codes "message")) h in
    let two = and_parts (bytes_eq a (codes "address")) (bytes_eq k (codes "kind")) all.0 in
    let address : a ≡ codes "address" = (bytes_eq-Decides a (codes "address")).0 two.0 in
    let kind : k ≡ codes "kind" = (bytes_eq-Decides k (codes "kind")).0 two.1 in
    let message : m ≡ codes "message" = (bytes_eq-Decides m (codes "message")).0 all.1 in
    rw (address, kind, message) refl
header_cost (a ∷ k ∷ m ∷ x ∷ r) h = absurd (cc)

headed_by : (n m : ℕ) (o o' : Option Read)
    → ((p : Read) → o ≡ Some p → row_cost p.0 ≡ 45 → (q : Read) × (o' ≡ Some q) × (q.0 ≡ p.0))
    → starts_with_header (records_next (records_from default_config n) o) ≡ true
    → starts_with_header (records_next (records_from default_config m) o') ≡ true
headed_by n m None o' front h = absurd (cc)
headed_by n m (Some p) o' front h =
    let shown = front p refl (header_cost p.0 h) in
    rw (shown.1) (ap is_header shown.2 ∙ h)

headed_text : (text : List ℕ) (k : ℕ) → line_ends_first text + 45 ≤ k → starts_with_header (records default_config text) ≡ true →
    starts_with_header (records default_config (take k text)) ≡ true
headed_text text k room h =
    let whole = one_record default_config st.StartRecord text _ refl in
    let front = one_record default_config st.StartRecord (take k text) _ refl in
    rw front (headed_by (length text) (length (take k text)) _ _ (λ p is cost. first_in_front text k p cost is room) (rw whole at h))

ends_by : (b : Bool) (xs : List ℕ) → (if b then suc (line_ends_first xs) else 0) ≤ suc (line_ends_first xs)
ends_by true xs = omega arith
ends_by false xs = omega arith

ends_more : (c : ℕ) (xs : List ℕ) → line_ends_first (c ∷ xs) ≤ suc (line_ends_first xs)
unfolding line_ends_first
ends_more c xs = ends_by ((c == 13) || (c == 10)) xs

-- what of the front is behind a byte order mark, or the front where none stands there
marked_by : (b : Bool) (x y z : ℕ) (rest : List ℕ) → starts_with_header (records default_config (if b then rest else x ∷ y ∷ z ∷ rest)) ≡ true →
    starts_with_header (records default_config (if b then take (line_ends_first rest + 64) rest else x ∷ y ∷ z ∷ take (line_ends_first rest + 64) rest)) ≡ true
marked_by true x y z rest h = headed_text rest (line_ends_first rest + 64) (omega arith) h
marked_by false x y z rest h =
    let ends = ends_more x (y ∷ z ∷ rest) in
    let more = ends_more y (z ∷ rest) in
    let last = ends_more z rest in
    headed_text (x ∷ y ∷ z ∷ rest) (suc (suc (suc (line_ends_first rest + 64)))) (omega arith) h

front_length : (n : ℕ) → 3 + n + 64 ≡ suc (suc (suc (n + 64)))
front_length n = omega arith

pub headed_front : (file : List ℕ) → starts_with_header (rows_of file) ≡ true → starts_with_header (rows_of (header_front file)) ≡ true
unfolding strip_bom line_ends_first
headed_front [] h = h
headed_front (x ∷ []) h = h
headed_front (x ∷ y ∷ []) h = h
headed_front (x ∷ y ∷ z ∷ rest) h = rw (front_length (line_ends_first rest)) (marked_by (is_bom x y z) x y z rest h)

-- a front without the header is that of a file without it
pub unheaded_front : (file : List ℕ) → starts_with_header (rows_of (header_front file)) ≡ false → starts_with_header (rows_of file) ≡ false
unheaded_front file e = false_from_ne_true _ (λ h. false≢true (sym e ∙ headed_front file h))

-- ---- where the front ends

ends_at : (b : Bool) (c : ℕ) (rest : List ℕ) → ((c == 13) || (c == 10)) ≡ b →
    line_ends_first (c ∷ rest) ≡ (if b then suc (line_ends_first rest) else 0)
unfolding line_ends_first
ends_at b c rest e = rw e refl

line_ends_at : (file : List ℕ) (end : ℕ) (b : Bool) → end < length file → ((get_or file end 0 == 13) || (get_or file end 0 == 10)) ≡ b →
    line_ends_first (drop end file) ≡ (if b then suc (line_ends_first (drop (end + 1) file)) else 0)
line_ends_at file end b within e =
    ap line_ends_first (drop_more file end 0 within) ∙ ends_at b (get_or file end 0) (drop (end + 1) file) e

-- one line end more
pub line_end_more : (file : List ℕ) (end sum : ℕ) → end < length file → ((get_or file end 0 == 13) || (get_or file end 0 == 10)) ≡ true →
    end + line_ends_first (drop end file) ≡ sum → (end + 1) + line_ends_first (drop (end + 1) file) ≡ sum
line_end_more file end sum within e so_far = omega (arith, line_ends_at file end true within e)

-- a byte that ends no line
pub front_found : (file : List ℕ) (end : ℕ) → end < length file → ((get_or file end 0 == 13) || (get_or file end 0 == 10)) ≡ false →
    min 3 (length file) ≤ end → end + line_ends_first (drop end file) ≡ min 3 (length file) + line_ends_first (drop 3 file) →
    take (min (end + 64) (length file)) file ≡ header_front file
front_found file end within e behind so_far =
    let none = line_ends_at file end false within e in
    let place : end + 64 ≡ 3 + line_ends_first (drop 3 file) + 64 = omega arith in
    take_min (end + 64) file ∙ ap (λ n. take n file) place
