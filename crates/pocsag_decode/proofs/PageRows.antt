-- The page file of a round's pages is that round.
use Rattle.pocsag_decode.proofs.Prelude.{◌≡◌, ℕ, zero, suc, ◌+◌, ◌*◌, ◌<◌, ◌≤◌, ◌==◌, Bool, true, false, inl, inr, List, [], ◌∷◌, ◌++◌, length, map, All, nat_eq, refl, sym, ap, ◌∙◌, subst, arith, append_assoc, add-one, codes, None, Ok, AllByRecursion, flat_map, decimal, cases_Bool, nat_tests, append-nil, length-append, map-append, All-head, All-tail, default_writer, escaped, field_text, fields_text, is_blank, needs_quotes, row_text, alpha_payload, is_bad_byte, text_fault, alpha_bits, twenties, fault_none, unless_ok, Page, AreGood, IsRound, addresses_of, has_address, is_reserved, last_address, page_fault_of, fault_after, held_pages, in_the_way, is_header, page_of, page_of_fields, rows_of, verdict, unless_empty, characters_spelled, digits_spelled, tone_spelled, header, kind_field, listing, message_field, record_of, IsSpellable, IsOfText, page_file, page_record, whole_message, characters, digits, silent}
use Rattle.std.proofs.lemmas.Fmt.{length-decimal-le}
use Rattle.std.proofs.lemmas.List.Sorted.{IsPermutation-middle}
use Rattle.std.proofs.lemmas.Map.Keys.{IsDistinct-IsPermutation, IsDistinct-head}
use Rattle.csv.specs.Machine.{next_record}
use Rattle.csv.specs.Reading.{default_config, records_from, strip_bom}
use Rattle.csv.specs.declared.parser.State.TheVariants as st
use Rattle.csv.proofs.RoundTrip.{read-write}
use Rattle.pocsag_pages.proofs.GoodPages.{good_page}
use Rattle.pocsag_pages.proofs.Judgements.{after_header, grown, grown_end, grown_on, is_room, judged, one_page_of, small_file, some_queue}
use Rattle.pocsag_decode.proofs.ListedFields.{characters_listed}
use Rattle.pocsag_decode.proofs.Respelled.{spaced_back}

-- the record of a page spells it, in short fields
pub record IsBack (p : Page) : Type 0 where
  pub spells : page_of (page_record p) ≡ Ok p
  address : length (decimal p.address) ≤ 7
  kind : length (kind_field p.function p.payload) ≤ 7
  message : length (whole_message p.function p.payload) ≤ 4000

short_kind : (f : ℕ) (items : List ℕ) → length (kind_field f items) ≤ 7
unfolding kind_field
short_kind f [] = omega arith
short_kind f (item ∷ items) = elim (cases_Bool (f == 0)) [
  | inl e ↦ rw e (omega arith)
  | inr n ↦ elim (cases_Bool (f == 3)) [
    | inl e ↦ rw (n, e) (omega arith)
    | inr m ↦ rw (n, m) (omega arith)
  ]
]

alpha_few : (text items : List ℕ) → alpha_payload text ≡ Ok items → length text ≤ 4000
unfolding alpha_payload
alpha_few text items e = (fault_none is_bad_byte text (unless_ok (text_fault is_bad_byte text) (twenties (alpha_bits text)) items e).0).0

-- the message of a page is that of its text
message_back : (a f : ℕ) (items : List ℕ) → a ≤ last_address → is_reserved a ≡ false → IsOfText f items →
    (page_of_fields (decimal a) (kind_field f items) (whole_message f items) ≡ Ok (record { address = a; function = f; payload = items }))
    × (length (whole_message f items) ≤ 4000)
unfolding kind_field whole_message message_field
message_back a f [] low free (silent h) = (tone_spelled a low free f h, omega arith)
message_back a f (item ∷ items) low free (digits text e) =
    let back = spaced_back text item items e in (digits_spelled a low free _ (item ∷ items) back.0, back.1)
message_back a f (item ∷ items) low free (characters text e) =
    let same = characters_listed item items text e in
    rw same (characters_spelled a low free text (item ∷ items) e, alpha_few text (item ∷ items) e)

pub record_back : (p : Page) → page_fault_of p ≡ None → IsSpellable p → IsBack p
unfolding page_of
record_back p fine text =
    let good = good_page p fine in
    let low : p.address ≤ last_address = omega (arith, good.address) in
    let back = message_back p.address p.function p.payload low good.unreserved text in
    record {
      spells = rw back.0 refl;
      address = length-decimal-le 7 p.address (omega arith) (omega arith) (omega arith);
      kind = short_kind p.function p.payload;
      message = back.1;
    }

-- one record after others, whose addresses are others
others : (ps : List Page) (a : ℕ) (more : List ℕ) → AllByRecursion (λ y. nat_eq a y ≡ false) (addresses_of ps ++ more) → has_address ps a ≡ false
others [] a more h = refl
others (p ∷ ps) a more h = rw (h.0) (others ps a more h.1)

pub free_address : (before qs : List Page) (p : Page) → AreGood (before ++ p ∷ qs) → has_address before p.address ≡ false
free_address before qs p good =
    let apart = rw (map-append (λ (q : Page). q.address) before (p ∷ qs)) at good.apart in
    let flips : (x y : ℕ) → nat_eq x y ≡ nat_eq y x = λ x y. grind (arith, nat_tests) in
    let front = IsDistinct-IsPermutation nat_eq flips _ _ (IsPermutation-middle (addresses_of before) p.address (addresses_of qs)) apart in
    others before p.address (addresses_of qs) (IsDistinct-head nat_eq p.address _ front)

none_in_the_way : (may_wait : Bool) (before qs : List Page) (p : Page) → (may_wait ≡ false → AreGood (before ++ p ∷ qs)) →
    has_address (in_the_way may_wait before) p.address ≡ false
none_in_the_way true before qs p good = refl
none_in_the_way false before qs p good = free_address before qs p (good refl)

all_grown : (may_wait : Bool) (before qs : List Page) → (may_wait ≡ false → AreGood (before ++ qs)) → length (before ++ qs) ≤ 20000 → All IsBack qs →
    grown may_wait before (length before) (map page_record qs) ≡ unless_empty (before ++ qs)
all_grown may_wait before [] good few back = grown_end may_wait before (length before) ∙ ap unless_empty (sym (append-nil before))
all_grown may_wait before (p ∷ qs) good few back =
    let this = All-head IsBack p qs back in
    let long = length-append before (p ∷ qs) in
    let earlier : List Page = in_the_way may_wait before in
    let fine : fault_after (length before) earlier (page_of (page_record p)) ≡ None =
    ap (fault_after (length before) earlier) this.spells ∙ is_room (length before) earlier p (none_in_the_way may_wait before qs p good) (omega arith) in
    let snoc : (before ++ p ∷ []) ++ qs ≡ before ++ p ∷ qs = append_assoc before (p ∷ []) qs in
    let more : length (before ++ p ∷ []) ≡ length before + 1 = length-append before (p ∷ []) in
    let rest =
    all_grown may_wait (before ++ p ∷ []) qs (λ e. subst AreGood (sym snoc) (good e)) (rw (sym snoc) at few) (All-tail IsBack p qs back) in
    grown_on may_wait before (length before) (page_record p) (map page_record qs) fine
    ∙ (rw (one_page_of _ p this.spells) ((rw more at rest) ∙ ap unless_empty snoc))

-- how long the text of a record is at most
escaped_short : (x : List ℕ) → length (escaped default_writer x) ≤ 2 * length x
unfolding escaped
escaped_short [] = omega arith
escaped_short (b ∷ x) = elim (cases_Bool (b == 34)) [
  | inl e ↦ rw e (let h = escaped_short x in omega arith)
  | inr n ↦ rw n (let h = escaped_short x in omega arith)
]

pub field_short : (x : List ℕ) → length (field_text default_writer x) ≤ 2 * length x + 2
field_short x = elim (cases_Bool (needs_quotes default_writer x)) [
  | inl e ↦ rw e (omega (arith, escaped_short x, length-append (escaped default_writer x) (34 ∷ [])))
  | inr n ↦ rw n (omega arith)
]

row_short : (a k m : List ℕ) → length (row_text default_writer (a ∷ k ∷ m ∷ [])) ≤ 2 * (length a + length k + length m) + 9
unfolding is_blank fields_text
row_short a k m =
    let x = field_text default_writer a in
    let y = field_text default_writer k in
    let z = field_text default_writer m in
    let last : length (z ++ []) ≡ length z = ap length (append-nil z) in
    let middle = length-append y (44 ∷ (z ++ [])) in
    let first = length-append x (44 ∷ (y ++ 44 ∷ (z ++ []))) in
    let whole = length-append (x ++ 44 ∷ (y ++ 44 ∷ (z ++ []))) (10 ∷ []) in
    omega (arith, whole, first, middle, last, field_short a, field_short k, field_short m)

pub row_some : (a k m : List ℕ) → 1 ≤ length (row_text default_writer (a ∷ k ∷ m ∷ []))
unfolding is_blank fields_text
row_some a k m =
    let x = field_text default_writer a in
    let y = field_text default_writer k in
    let z = field_text default_writer m in
    omega (arith, length-append (x ++ 44 ∷ (y ++ 44 ∷ (z ++ []))) (10 ∷ []))

-- a listing has the record of the names
pub listing_some : (ps : List Page) → 0 < length (listing ps)
unfolding listing
listing_some ps =
    omega (
      arith,
      row_some (codes "address") (codes "kind") (codes "message"),
      length-append (row_text default_writer header) (flat_map (λ p. row_text default_writer (record_of p)) ps),
    )

abbrev rows_text : List Page → List ℕ
rows_text ps = flat_map (λ p. row_text default_writer (page_record p)) ps

rows_short : (ps : List Page) → All IsBack ps → length (rows_text ps) ≤ 8100 * length ps
rows_short [] back = omega arith
rows_short (p ∷ ps) back =
    let this = All-head IsBack p ps back in
    let joined = length-append (row_text default_writer (page_record p)) (rows_text ps) in
    let short = row_short (decimal p.address) (kind_field p.function p.payload) (whole_message p.function p.payload) in
    omega (arith, joined, short, this.address, this.kind, this.message, rows_short ps (All-tail IsBack p ps back))

rows_some : (ps : List Page) → length ps ≤ length (rows_text ps)
rows_some [] = omega arith
rows_some (p ∷ ps) =
    let joined = length-append (row_text default_writer (page_record p)) (rows_text ps) in
    let some = row_some (decimal p.address) (kind_field p.function p.payload) (whole_message p.function p.payload) in
    omega (arith, joined, some, rows_some ps)

-- the records of the file
rows_back : (n : ℕ) (ps : List Page) → length ps < n → records_from default_config n st.StartRecord (rows_text ps) ≡ map page_record ps
unfolding records_from next_record
rows_back zero ps h = absurd (omega arith)
rows_back (suc n) [] h = refl
rows_back (suc n) (p ∷ ps) h =
    rw (read-write (page_record p) (rows_text ps))
    (ap (λ (rows : List (List (List ℕ))). page_record p ∷ rows) (rows_back n ps (omega arith)))

no_mark : (ps : List Page) → strip_bom (page_file ps) ≡ page_file ps
unfolding page_file strip_bom is_blank fields_text escaped
no_mark ps = refl

file_rows : (ps : List Page) → rows_of (page_file ps) ≡ header ∷ map page_record ps
unfolding page_file records_from
file_rows ps =
    let whole : length (page_file ps) ≡ length (row_text default_writer header) + length (rows_text ps) =
    length-append (row_text default_writer header) (rows_text ps) in
    let some = row_some (codes "address") (codes "kind") (codes "message") in
    let enough : length ps < length (page_file ps) = omega (arith, whole, some, rows_some ps) in
    rw (no_mark ps, add-one, read-write header (rows_text ps))
    (ap (λ (rows : List (List (List ℕ))). header ∷ rows) (rows_back (length (page_file ps)) ps enough))

headed : is_header header ≡ true
unfolding is_header
headed = refl

file_short : (ps : List Page) → All IsBack ps → length ps ≤ 20000 → length (page_file ps) ≤ 268435456
unfolding page_file
file_short ps back few =
    let whole = length-append (row_text default_writer header) (rows_text ps) in
    let head = row_short (codes "address") (codes "kind") (codes "message") in
    omega (arith, whole, head, rows_short ps back)

all_back : (ps : List Page) → All (λ p. page_fault_of p ≡ None) ps → All IsSpellable ps → All IsBack ps
all_back ps fine texts = λ k d h. record_back _ (fine k d h) (texts k d h)

-- pages that may stand in one round, or one queue, are read back, none as no pages
pub pages_back : (may_wait : Bool) (ps : List Page) → All (λ p. page_fault_of p ≡ None) ps → (may_wait ≡ false → AreGood ps) →
    length ps ≤ 20000 → All IsSpellable ps → held_pages may_wait (page_file ps) ≡ unless_empty ps
pages_back may_wait ps fine good few texts =
    let back = all_back ps fine texts in
    small_file may_wait (page_file ps) (file_short ps back few)
    ∙ (rw (file_rows ps) (after_header may_wait header (map page_record ps) headed))
    ∙ judged may_wait (map page_record ps)
    ∙ all_grown may_wait [] ps good few back

pub read_back : (R : List Page) → IsRound R → All IsSpellable R → verdict (page_file R) ≡ Ok R
read_back R round texts = pages_back false R round.good.each (λ e. round.good) round.few texts ∙ some_queue R round.some
