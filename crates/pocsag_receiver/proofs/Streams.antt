-- Rows that are written as they are handed out.
use Rattle.pocsag_receiver.proofs.Prelude.{◌≡◌, ◌⊎◌, ℕ, zero, suc, ◌+◌, ◌<◌, ◌≤◌, false, List, [], ◌∷◌, ◌++◌, length, inl, inr, Ok, Err, refl, sym, ap, ap₂, subst, ◌∙◌, append_assoc, arith, OnErr, OnOk, codes, flat_map, flat_map-append, append-nil, default_writer, fields_text, is_blank, row_text, HasFailed, TookPrefix, Page, NamesFailures, header, kind_field, message_field, record_of, ListFault, IsStreamOf, fault_of_list, ListsRows, as_streamed, names_in, row_in, unmarked, writing, ReceiverFault, Row, row_record, is_text, kind_read, listed_in, message_read, record_read, ListForm}
use Rattle.std.specs.Prelude.{Result}
use Rattle.std.specs.Fmt.{decimal}
use Rattle.pocsag_words.specs.declared.device.Sink.{Ghosts as Writer}
use Rattle.pocsag_decode.proofs.Listings.{listing_is}
use Rattle.pocsag_decode.proofs.Prefixes.{some_left, took_on, took_so_far}
use Rattle.pocsag_decode.specs.declared.fault.ListFault.TheVariants as faults
use Rattle.pocsag_receiver.proofs.Works.{unlisted}
use Rattle.pocsag_receiver.specs.declared.form.ListForm.TheVariants as form

-- rows were handed out, and what is due of them is what was taken so far and what waits
pub record AreWritten {O T : Type 0} (Out : Writer O) (a b : O) (begun waits : List ℕ) (text_of : Row → List ℕ) (before after : List Row → T → Type 0) : Type 0 where
  pub rows : List Row
  pub left : (rs : List Row) (told : T) → after rs told → before (rows ++ rs) told
  pub some : (b ≡ a) ⊎ (0 < length waits)
  pub due : Out.is_known → Out.taken a ++ (begun ++ flat_map text_of rows) ≡ Out.taken b ++ waits
  pub grown : Out.is_known → length (Out.taken a) ≤ length (Out.taken b)
  pub failures : Out.failures b ≡ Out.failures a

module _ {O T : Type 0} (Out : Writer O) (a : O) (begun : List ℕ) (text_of : Row → List ℕ) (before : List Row → T → Type 0) where
  abbrev pub written_none : AreWritten Out a a begun begun text_of before before
  written_none = record {
    rows = [];
    left = λ rs told l. l;
    some = inl refl;
    due = λ known. ap (λ (l : List ℕ). Out.taken a ++ l) (append-nil begun);
    grown = λ known. omega arith;
    failures = refl;
  }

module _ {O T : Type 0} {Out : Writer O} {a b : O} {begun waits : List ℕ} {text_of : Row → List ℕ} {before after : List Row → T → Type 0}
    (f : AreWritten Out a b begun waits text_of before after) where
  -- with what is left
  pub due_in_all : (rs : List Row) → Out.is_known
      → Out.taken a ++ (begun ++ flat_map text_of (f.rows ++ rs)) ≡ Out.taken b ++ (waits ++ flat_map text_of rs)
  due_in_all rs known =
      ap (λ (l : List ℕ). Out.taken a ++ (begun ++ l)) (flat_map-append text_of f.rows rs)
      ∙ ap (λ (l : List ℕ). Out.taken a ++ l) (sym (append_assoc begun (flat_map text_of f.rows) (flat_map text_of rs)))
      ∙ sym (append_assoc (Out.taken a) (begun ++ flat_map text_of f.rows) (flat_map text_of rs))
      ∙ ap (λ (l : List ℕ). l ++ flat_map text_of rs) (f.due known) ∙ append_assoc (Out.taken b) waits (flat_map text_of rs)

  -- one row more
  abbrev pub written_more : (c : O) (put kept : List ℕ) (r : Row) (later : List Row → T → Type 0)
      → ((rs : List Row) (told : T) → later rs told → after (r ∷ rs) told) → put ≡ waits ++ text_of r
      → (Out.is_known → Out.taken c ++ kept ≡ Out.taken b ++ put) → (Out.is_known → length (Out.taken b) ≤ length (Out.taken c))
      → 0 < length kept → Out.failures c ≡ Out.failures b → AreWritten Out a c begun kept text_of before later
  written_more c put kept r later handed is wrote grown some failures = record {
    rows = f.rows ++ r ∷ [];
    left = λ rs told l.
        subst (λ (all : List Row). before all told) (sym (append_assoc f.rows (r ∷ []) rs)) (f.left (r ∷ rs) told (handed rs told l));
    some = inr some;
    due = λ known.
        due_in_all (r ∷ []) known ∙ ap (λ (l : List ℕ). Out.taken b ++ (waits ++ l)) (append-nil (text_of r))
        ∙ ap (λ (l : List ℕ). Out.taken b ++ l) (sym is) ∙ sym (wrote known);
    grown = λ known. omega (arith, f.grown known, grown known);
    failures = failures ∙ f.failures;
  }

  -- all was written
  pub lists_all : (c : O) (later : List Row → T → Type 0) → ((rs : List Row) (told : T) → later rs told → after [] told)
      → (Out.is_known → Out.taken c ≡ Out.taken b ++ waits) → ListsRows Out a c begun text_of before later (Ok 0)
  lists_all c later handed wrote = λ rs told l.
      let all = f.rows ++ [] in
      let stream : IsStreamOf (writing (begun ++ flat_map text_of all)) Out a c (Ok 0) = (
        λ _. (
          begun ++ flat_map text_of all,
          (refl, refl),
          λ known. wrote known ∙ sym (due_in_all [] known ∙ ap (λ (l : List ℕ). Out.taken b ++ l) (append-nil waits)),
        ),
        tt,
      ) in (all, f.left [] told (handed rs told l), stream)

  module _ (later : List Row → T → Type 0) (more : List Row)
      (handed : (rs : List Row) (told : T) → later rs told → (behind : List Row) × after (more ++ behind) told) where
    -- a fault, behind which a prefix is taken
    lists_fault : (c : O) (e : ListFault) → (e ≡ faults.WriteFault → HasFailed (Out.failures b) (Out.failures c))
        → (Out.is_known → (rs : List Row) → TookPrefix (Out.taken a) (Out.taken c) (begun ++ flat_map text_of (f.rows ++ (more ++ rs))))
        → (e ≡ faults.OutOfMemory → c ≡ b) → ListsRows Out a c begun text_of before later (Err (fault_of_list e))
    lists_fault c e failed part same = λ rs told l.
        let h = handed rs told l in
        let left = more ++ h.0 in
        let all = f.rows ++ left in
        let due = begun ++ flat_map text_of all in
        let short : e ≡ faults.OutOfMemory → (c ≡ a) ⊎ (Out.is_known → length (Out.taken c) < length (Out.taken a) + length due) =
        λ is.
        elim f.some [
          | inl start ↦ inl (same is ∙ start)
          | inr some ↦
              inr (λ known. subst (λ (d : O). length (Out.taken d) < length (Out.taken a) + length due) (sym (same is))
              (some_left (Out.taken a) (Out.taken b) waits (flat_map text_of left) due (due_in_all left known) some))
        ] in (
          all,
          f.left left told h.1,
          unlisted Out a c due e (λ is. subst (λ (n : ℕ). HasFailed n (Out.failures c)) f.failures (failed is)) (λ known. part known h.0) short,
        )

    -- memory is refused
    pub lists_stopped : ListsRows Out a b begun text_of before later (Err (fault_of_list faults.OutOfMemory))
    lists_stopped =
        lists_fault b faults.OutOfMemory (λ is. absurd cc) (λ known rs.
        took_so_far (Out.taken a) (Out.taken b) _ _ (f.grown known) (due_in_all (more ++ rs) known)) (λ _. refl)

    -- a piece is not written whole
    pub lists_cut : (c : O) (e : ListFault) (piece : List ℕ) → piece ≡ waits ++ flat_map text_of more
        → (e ≡ faults.WriteFault → HasFailed (Out.failures b) (Out.failures c))
        → (Out.is_known → TookPrefix (Out.taken b) (Out.taken c) piece) → (e ≡ faults.OutOfMemory → c ≡ b)
        → ListsRows Out a c begun text_of before later (Err (fault_of_list e))
    lists_cut c e piece is failed part same =
        lists_fault c e failed (λ known rs.
        took_on (Out.taken a) (Out.taken b) (Out.taken c) piece (flat_map text_of rs) _ (f.grown known)
        (due_in_all (more ++ rs) known ∙ ap (λ (l : List ℕ). Out.taken b ++ l) (ap (λ (l : List ℕ). waits ++ l) (flat_map-append text_of more rs)
        ∙ sym (append_assoc waits (flat_map text_of more) (flat_map text_of rs)) ∙ ap (λ (l : List ℕ). l ++ flat_map text_of rs) (sym is)))
        (part known)) same

  -- the rest is written, or is not
  pub lists_rest : {E : Type 0} (result : Result E ListFault) (c : O) (later : List Row → T → Type 0)
      → ((rs : List Row) (told : T) → later rs told → after [] told) → (Out.is_known → OnOk result (Out.taken c ≡ Out.taken b ++ waits))
      → (Out.is_known → OnErr result (TookPrefix (Out.taken b) (Out.taken c) waits)) → (result ≡ Err faults.OutOfMemory → c ≡ b)
      → NamesFailures result faults.WriteFault (Out.failures b) (Out.failures c)
      → ListsRows Out a c begun text_of before later (as_streamed result)
  lists_rest (Ok u) c later handed wrote part same failures = lists_all c later handed wrote
  lists_rest (Err e) c later handed wrote part same failures =
      lists_cut later [] (λ rs told l. ([], handed rs told l)) c e waits (sym (append-nil waits)) (λ is. failures.1 (ap Err is)) part
      (λ is. same (ap Err is))

-- ---- the listing is the records with no function as text

no_text : (function : ℕ) → is_text (false ∷ false ∷ false ∷ []) function ≡ false
no_text zero = refl
no_text (suc zero) = refl
no_text (suc (suc zero)) = refl
no_text (suc (suc (suc function))) = refl

plain_kind : (function : ℕ) (items : List ℕ) → kind_read (false ∷ false ∷ false ∷ []) function items ≡ kind_field function items
unfolding kind_read
plain_kind function [] = refl
plain_kind function (item ∷ items) = rw (no_text function) refl

plain_message : (function : ℕ) (items : List ℕ) → message_read (false ∷ false ∷ false ∷ []) function items ≡ message_field function items
unfolding message_read message_field
plain_message function [] = refl
plain_message function (item ∷ items) = rw (no_text function) refl

plain_record : (p : Page) → record_read (false ∷ false ∷ false ∷ []) p ≡ record_of p
plain_record p =
    ap₂ (λ (kind message : List ℕ). decimal p.address ∷ kind ∷ message ∷ []) (plain_kind p.function p.payload)
    (plain_message p.function p.payload)

-- ---- the rows of pages without marks

names_are : codes "address,kind,message" ++ 10 ∷ [] ≡ row_text default_writer header
unfolding fields_text is_blank
names_are = refl

plain_rows : (ps : List Page)
    → flat_map (row_record (false ∷ false ∷ false ∷ [])) (unmarked ps) ≡ flat_map (λ p. row_text default_writer (record_of p)) ps
plain_rows [] = refl
plain_rows (p ∷ ps) = ap₂ (λ (fields : List (List ℕ)) (rest : List ℕ). row_text default_writer fields ++ rest) (plain_record p) (plain_rows ps)

rows_listed : (f : ListForm) (ps : List Page)
    → names_in f (codes "address,kind,message" ++ 10 ∷ []) ++ flat_map (row_in f) (unmarked ps) ≡ listed_in f ps
rows_listed form.Listing ps = ap₂ (λ (names rows : List ℕ). names ++ rows) names_are (plain_rows ps) ∙ sym (listing_is ps)
rows_listed (form.Texts texts) ps = ap (λ (names : List ℕ). names ++ flat_map (row_record texts) (unmarked ps)) names_are
rows_listed (form.Json texts) ps = refl

pub rows_streamed : {O : Type 0} (Out : Writer O) (f : ListForm) (ps left : List Page) (out out' : O) (result : Result ℕ ReceiverFault)
    → ListsRows Out out out' (names_in f (codes "address,kind,message" ++ 10 ∷ [])) (row_in f) (λ rows (u : Unit {0}). rows ≡ unmarked ps)
    (λ rows u. rows ≡ unmarked left) result → IsStreamOf (writing (listed_in f ps)) Out out out' result
rows_streamed Out f ps left out out' result lists =
    let all = lists (unmarked left) tt refl in
    subst (λ (due : List ℕ). IsStreamOf (writing due) Out out out' result)
    (ap (λ (rows : List Row). names_in f (codes "address,kind,message" ++ 10 ∷ []) ++ flat_map (row_in f) rows) all.1 ∙ rows_listed f ps) all.2
