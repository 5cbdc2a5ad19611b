-- Judging records one at a time, against the pages so far.
use Rattle.pocsag_pages.proofs.Prelude.{if◌then◌else◌, ◌≡◌, ℕ, ◌+◌, ◌<◌, ◌≤◌, Bool, true, false, ◌⊎◌, inl, inr, List, [], ◌∷◌, ◌++◌, length, refl, sym, ap, ◌∙◌, arith, Option, Some, None, Result, Ok, Err, IfOk, IfErr, cases_lt, append-nil, length-append, nat_tests, Page, RecordFault, WholeFault, RoundFault, has_address, page_limit, unless_empty, Row, fault_after, fault_of_row, first_fault, held_pages, in_the_way, is_header, numbered, page_of, pages_of, pages_of_all_rows, pages_of_rows, pages_unless, round_fault_of, rows_of, starts_with_header, with_page, input_limit, is_above, not_above}
use Rattle.std.specs.Prelude.{nat_le}
use Rattle.std.proofs.Math.Seq.{append_snoc}
use Rattle.pocsag_pages.specs.declared.fault.FieldFault.TheVariants as field
use Rattle.pocsag_pages.specs.declared.fault.RecordFault.TheVariants as wrong
use Rattle.pocsag_pages.specs.declared.fault.WholeFault.TheVariants as whole
use Rattle.pocsag_pages.specs.declared.fault.RoundFault.TheVariants as fault
use Rattle.pocsag_words.specs.Devices.{IsOfCut}

-- the fault of record n + 1, or else what is said of the records after it
abbrev pub or_later : Option RecordFault → ℕ → Result (List Page) RoundFault → Result (List Page) RoundFault
or_later (Some e) n later = Err (numbered (n + 1) e)
or_later None n later = later

-- the pages of so many records with these pages, and of these records after them
unfoldable pub grown : (may_wait : Bool) → List Page → ℕ → List Row → Result (List Page) RoundFault
grown may_wait ps n [] = unless_empty ps
grown may_wait ps n (r ∷ rows) =
    or_later (fault_after n (in_the_way may_wait ps) (page_of r)) n (grown may_wait (ps ++ pages_of (r ∷ [])) (n + 1) rows)

with_append : (p : Result Page RecordFault) (ps qs : List Page) → with_page p (ps ++ qs) ≡ with_page p ps ++ qs
with_append (Ok p) ps qs = refl
with_append (Err e) ps qs = refl

pub pages_append : (rows more : List Row) → pages_of (rows ++ more) ≡ pages_of rows ++ pages_of more
unfolding pages_of
pages_append [] more = refl
pages_append (r ∷ rows) more = ap (with_page (page_of r)) (pages_append rows more) ∙ with_append (page_of r) (pages_of rows) (pages_of more)

one_page : (n : ℕ) (ps : List Page) (p : Result Page RecordFault) → fault_after n ps p ≡ None → length (with_page p []) ≡ 1
one_page n ps (Ok p) e = refl
one_page n ps (Err e) f = absurd (cc)

module _ (may_wait : Bool) where
  -- a record more, by the fault that it has
  one_more : (before rows : List Row) (r : Row) (o : Option RecordFault) → fault_of_row may_wait before r ≡ o
      → length (pages_of before) ≡ length before
      → ((longer : List Row) → length (pages_of longer) ≡ length longer →
      pages_unless (first_fault may_wait longer rows) (longer ++ rows) ≡ grown may_wait (pages_of longer) (length longer) rows)
      → pages_unless (first_fault may_wait before (r ∷ rows)) (before ++ r ∷ rows)
      ≡ or_later o (length before) (grown may_wait (pages_of before ++ pages_of (r ∷ [])) (length before + 1) rows)
  unfolding first_fault fault_of_row pages_of
  one_more before rows r (Some e) f even later = rw f refl
  one_more before rows r None f even later =
      let longer : List Row = before ++ r ∷ [] in
      let pages : pages_of longer ≡ pages_of before ++ pages_of (r ∷ []) = pages_append before (r ∷ []) in
      let more : length longer ≡ length before + 1 = length-append before (r ∷ []) in
      let one : length (pages_of (r ∷ [])) ≡ 1 = one_page (length before) (in_the_way may_wait (pages_of before)) (page_of r) f in
      let even_on : length (pages_of longer) ≡ length longer =
      rw (pages, more, length-append (pages_of before) (pages_of (r ∷ []))) (omega arith) in
      rw f (rw (append_snoc before r rows, pages, more) at (later longer even_on))

  grown_is : (before rows : List Row) → length (pages_of before) ≡ length before →
      pages_unless (first_fault may_wait before rows) (before ++ rows) ≡ grown may_wait (pages_of before) (length before) rows
  unfolding first_fault grown fault_of_row
  grown_is before [] even = rw (append-nil before) refl
  grown_is before (r ∷ rows) even = one_more before rows r _ refl even (λ longer e. grown_is longer rows e)

  -- the pages of records, by judging one at a time
  pub judged : (rows : List Row) → pages_of_rows may_wait rows ≡ grown may_wait [] 0 rows
  unfolding pages_of_rows pages_of
  judged rows = grown_is [] rows refl

-- the next step of it
module _ (may_wait : Bool) (ps : List Page) (n : ℕ) where
  pub grown_end : grown may_wait ps n [] ≡ unless_empty ps
  unfolding grown
  grown_end = refl

  pub grown_fault :
      (r : Row) (rows : List Row) (e : RecordFault) → fault_after n (in_the_way may_wait ps) (page_of r) ≡ Some e →
      grown may_wait ps n (r ∷ rows) ≡ Err (numbered (n + 1) e)
  unfolding grown
  grown_fault r rows e f = rw f refl

  pub grown_on :
      (r : Row) (rows : List Row) → fault_after n (in_the_way may_wait ps) (page_of r) ≡ None →
      grown may_wait ps n (r ∷ rows) ≡ grown may_wait (ps ++ pages_of (r ∷ [])) (n + 1) rows
  unfolding grown
  grown_on r rows f = rw f refl

pub is_room : (n : ℕ) (earlier : List Page) (p : Page) → has_address earlier p.address ≡ false → n < page_limit →
    fault_after n earlier (Ok p) ≡ None
is_room n earlier p free few =
    let room : nat_le page_limit n ≡ false = grind (arith, nat_tests) in
    rw (free, room) refl

pub one_page_of : (r : Row) (p : Page) → page_of r ≡ Ok p → pages_of (r ∷ []) ≡ p ∷ []
unfolding pages_of
one_page_of r p is = rw is refl

pub some_queue : (ps : List Page) → 0 < length ps → unless_empty ps ≡ Ok ps
some_queue [] h = absurd (omega arith)
some_queue (p ∷ ps) h = refl

pub no_queue : (ps : List Page) → length ps ≡ 0 → unless_empty ps ≡ Err fault.NoPages
no_queue [] h = refl
no_queue (p ∷ ps) h = absurd (omega arith)

-- a value that is known to be x answers as the two clauses on x say
pub said_ok : (x y : Result (List Page) RoundFault) → x ≡ y → IfOk y (λ v. x ≡ Ok v)
said_ok x (Ok v) e = e
said_ok x (Err f) e = tt

pub said_err : (x y : Result (List Page) RoundFault) → x ≡ y → IfErr y (λ f. (f ≡ fault.OutOfMemory) ⊎ (x ≡ Err f))
said_err x (Ok v) e = tt
said_err x (Err f) e = inr e

-- no record is answered by a failed read
not_numbered : (n : ℕ) (e : RecordFault) → numbered n e ≡ fault.ReadFault → ⊥
not_numbered n wrong.FieldCount h = cc
not_numbered n (wrong.Field field.BadAddress) h = cc
not_numbered n (wrong.Field field.ReservedAddress) h = cc
not_numbered n (wrong.Field field.BadKind) h = cc
not_numbered n (wrong.Field field.MessageForTone) h = cc
not_numbered n (wrong.Field field.EmptyMessage) h = cc
not_numbered n (wrong.Field (field.BadCharacter place)) h = cc
not_numbered n (wrong.Field field.TooLong) h = cc
not_numbered n (wrong.Field field.OutOfMemory) h = cc
not_numbered n (wrong.Page e) h = cc
not_numbered n wrong.DuplicateAddress h = cc
not_numbered n wrong.TooManyPages h = cc

not_empty : (ps : List Page) → unless_empty ps ≡ Err fault.ReadFault → ⊥
not_empty [] h = cc
not_empty (p ∷ ps) h = cc

not_later : (o : Option RecordFault) (n : ℕ) (later : Result (List Page) RoundFault) → (later ≡ Err fault.ReadFault → ⊥) →
    or_later o n later ≡ Err fault.ReadFault → ⊥
not_later None n later not h = not h
not_later (Some e) n later not h = not_numbered (n + 1) e cc

module _ (may_wait : Bool) where
  not_grown : (ps : List Page) (n : ℕ) (rows : List Row) → grown may_wait ps n rows ≡ Err fault.ReadFault → ⊥
  unfolding grown
  not_grown ps n [] h = not_empty ps h
  not_grown ps n (r ∷ rows) h = not_later _ n _ (not_grown (ps ++ pages_of (r ∷ [])) (n + 1) rows) h

  not_headed : (b : Bool) (rows : List Row) → (if b then pages_of_rows may_wait rows else Err fault.BadHeader) ≡ Err fault.ReadFault → ⊥
  not_headed true rows h = not_grown [] 0 rows (sym (judged may_wait rows) ∙ h)
  not_headed false rows h = cc

  not_of_rows : (rows : List Row) → pages_of_all_rows may_wait rows ≡ Err fault.ReadFault → ⊥
  unfolding pages_of_all_rows
  not_of_rows [] h = cc
  not_of_rows (header ∷ rows) h = not_headed (is_header header) rows h

  -- the pages by the header
  pub no_header : (rows : List Row) → starts_with_header rows ≡ false → pages_of_all_rows may_wait rows ≡ Err fault.BadHeader
  unfolding pages_of_all_rows
  no_header [] e = refl
  no_header (header ∷ rows) e = rw e refl

  pub after_header : (header : Row) (rows : List Row) → is_header header ≡ true →
      pages_of_all_rows may_wait (header ∷ rows) ≡ pages_of_rows may_wait rows
  unfolding pages_of_all_rows
  after_header header rows e = rw e refl

  pub small_file : (bytes : List ℕ) → length bytes ≤ input_limit → held_pages may_wait bytes ≡ pages_of_all_rows may_wait (rows_of bytes)
  unfolding held_pages
  small_file bytes h = rw (not_above input_limit (length bytes) h) refl

  pub large_file : (bytes : List ℕ) → input_limit < length bytes → held_pages may_wait bytes ≡ Err fault.TooLarge
  unfolding held_pages
  large_file bytes h = rw (is_above input_limit (length bytes) h) refl

  -- no bytes are answered by a failed read
  pub never_read : (bytes : List ℕ) → held_pages may_wait bytes ≡ Err fault.ReadFault → ⊥
  never_read bytes h =
      elim (cases_lt input_limit (length bytes)) [
        | inl large ↦ let other = large_file bytes large in cc
        | inr small ↦ not_of_rows (rows_of bytes) (sym (small_file bytes (omega arith)) ∙ h)
      ]

  -- what is reported where the bytes were not read whole
  pub unread : (bytes : List ℕ) (w : WholeFault) (e : RoundFault) → (w ≡ whole.TooLarge → input_limit < length bytes) →
      e ≡ round_fault_of w → (e ≡ fault.OutOfMemory) ⊎ ((e ≡ fault.ReadFault) ⊎ (held_pages may_wait bytes ≡ Err e))
  unread bytes whole.ReadFault e large is = inr (inl is)
  unread bytes whole.TooLarge e large is = inr (inr (large_file bytes (large refl) ∙ ap Err (sym is)))
  unread bytes whole.OutOfMemory e large is = inl is

-- no fault of bytes that are whole is that they are cut
pub fault_of_whole : {X Y : Type 0} (read : Result Y RoundFault) (is_cut : Bool) → (read ≡ Err fault.ReadFault → ⊥) → is_cut ≡ false →
    (r : Result X RoundFault) → IfErr r (λ e. (e ≡ fault.OutOfMemory) ⊎ (read ≡ Err e)) → IfErr r (IsOfCut fault.ReadFault fault.TooLarge is_cut)
fault_of_whole read is_cut never whole (Ok v) said = tt
fault_of_whole read is_cut never whole (Err e) said = record {
  cut = λ h. absurd (elim (rw h at said) [ inl memory ↦ cc | inr v ↦ never v ]);
  whole = inr (inr whole);
}
