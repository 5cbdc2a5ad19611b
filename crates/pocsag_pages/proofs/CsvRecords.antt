-- Reading one record of csv, by the records that are left.
use Rattle.pocsag_pages.proofs.Prelude.{◌≡◌, ℕ, zero, suc, ◌+◌, ◌<◌, Bool, true, false, ◌⊎◌, inl, inr, cond, List, [], ◌∷◌, ◌++◌, length, refl, sym, ap, ◌∙◌, arith, add-one, Option, Some, None, IsSome, Read, next_record, ends_at_end, is_end, step, fields_after, field_after, default_config, records_from, records_next, pending_of, source_of, ReadsNext, NextIs, State, rows_known}
use Rattle.csv.specs.declared.reader.Reader.{Reader}
use Rattle.csv.specs.declared.parser.Config.{Config}
use Rattle.csv.specs.declared.parser.State.TheVariants as st

-- what is left after a record is shorter, or is the end
abbrev LeavesLess : List ℕ → Read → Type 0
LeavesLess xs p = (length p.2 < length xs) ⊎ ((p.1 ≡ st.StartRecord) × (p.2 ≡ []))

at_the_end : (b : Bool) (q p : Read) → q.1 ≡ st.StartRecord → q.2 ≡ [] → cond b (Some q) None ≡ Some p → LeavesLess [] p
at_the_end true q p e f h = inr (cc, cc)
at_the_end false q p e f h = absurd (cc)

at_a_byte : (b : Bool) (q p : Read) (more : Option Read) (c : ℕ) (rest : List ℕ) → q.2 ≡ rest → (more ≡ Some p → LeavesLess rest p) →
    cond b (Some q) more ≡ Some p → LeavesLess (c ∷ rest) p
at_a_byte true q p more c rest e later h = let g : p.2 ≡ rest = cc in inl (rw g (omega arith))
at_a_byte false q p more c rest e later h = elim (later h) [ inl l ↦ inl (omega arith) | inr r ↦ inr r ]

next_shorter : (cfg : Config) (s : State) (fields : List (List ℕ)) (field xs : List ℕ) (p : Read) →
    next_record cfg s fields field xs ≡ Some p → LeavesLess xs p
unfolding next_record
next_shorter cfg s fields field [] p e = at_the_end (ends_at_end s) (fields ++ (field ∷ []), st.StartRecord, []) p refl refl e
next_shorter cfg s fields field (c ∷ rest) p e =
    at_a_byte (is_end (step cfg s c).1) (fields_after (step cfg s c).1 fields field, (step cfg s c).0, rest) p _ c rest refl
    (next_shorter cfg (step cfg s c).0 (fields_after (step cfg s c).1 fields field) (field_after (step cfg s c).1 c field) rest p) e

pub no_more : (cfg : Config) (n : ℕ) → records_from cfg n st.StartRecord [] ≡ []
unfolding records_from next_record
no_more cfg zero = refl
no_more cfg (suc n) = refl

-- the same records, of two bounds that are both large enough
same_later : (cfg : Config) (n m : ℕ) (xs : List ℕ) (o : Option Read)
    → ((p : Read) → o ≡ Some p → LeavesLess xs p)
    → ((s : State) (ys : List ℕ) → length ys < n → length ys < m → records_from cfg n s ys ≡ records_from cfg m s ys)
    → length xs < suc n → length xs < suc m → records_next (records_from cfg n) o ≡ records_next (records_from cfg m) o
same_later cfg n m xs None less same h k = refl
same_later cfg n m xs (Some p) less same h k = ap (λ rows. p.0 ∷ rows) (elim (less p refl) [
  | inl l ↦ same p.1 p.2 (omega arith) (omega arith)
  | inr r ↦ rw (r.0, r.1) (no_more cfg n ∙ sym (no_more cfg m))
])

enough : (cfg : Config) (n m : ℕ) (s : State) (xs : List ℕ) → length xs < n → length xs < m →
    records_from cfg n s xs ≡ records_from cfg m s xs
unfolding records_from
enough cfg zero m s xs h k = absurd (omega arith)
enough cfg (suc n) zero s xs h k = absurd (omega arith)
enough cfg (suc n) (suc m) s xs h k =
    same_later cfg n m xs (next_record cfg s [] [] xs) (λ p e. next_shorter cfg s [] [] xs p e) (λ t ys i j. enough cfg n m t ys i j) h k

-- what a read says of the records that are left
rows_after : (cfg : Config) (n : ℕ) (xs : List ℕ) (p : Read) → LeavesLess xs p → n ≡ length xs →
    records_from cfg n p.1 p.2 ≡ records_from cfg (length p.2 + 1) p.1 p.2
rows_after cfg n xs p less e = elim less [
  | inl l ↦ enough cfg n (length p.2 + 1) p.1 p.2 (omega arith) (omega arith)
  | inr r ↦ rw (r.0, r.1) (no_more cfg n ∙ sym (no_more cfg (length {A = ℕ} [] + 1)))
]

-- the first record and those behind it
pub one_record : (cfg : Config) (s : State) (xs : List ℕ) (o : Option Read) → next_record cfg s [] [] xs ≡ o →
    records_from cfg (length xs + 1) s xs ≡ records_next (records_from cfg (length xs)) o
unfolding records_from
one_record cfg s xs o e = rw (add-one, e) refl

found_next : (s t : State) (xs ys : List ℕ) (fields : List (List ℕ)) (o : Option Read) → next_record default_config s [] [] xs ≡ o →
    NextIs o true fields t ys → records_from default_config (length xs + 1) s xs
    ≡ fields ∷ records_from default_config (length ys + 1) t ys
found_next s t xs ys fields None e h = absurd (cc)
found_next s t xs ys fields (Some p) e h =
    rw (h.1, h.2, h.3)
    (one_record default_config s xs (Some p) e
    ∙ ap (λ rows. p.0 ∷ rows) (rows_after default_config (length xs) xs p (next_shorter default_config s [] [] xs p e) refl))

none_next : (s t : State) (xs ys : List ℕ) (fields : List (List ℕ)) (o : Option Read) → next_record default_config s [] [] xs ≡ o →
    NextIs o false fields t ys → records_from default_config (length xs + 1) s xs ≡ []
none_next s t xs ys fields None e h = one_record default_config s xs None e
none_next s t xs ys fields (Some p) e h = absurd (cc (h.0))

-- a record that was read is the first of those that were left
pub rows_read : (s t : State) (before after : Option (List ℕ)) (fields : List (List ℕ)) → IsSome before →
    ReadsNext default_config s before after true fields t → rows_known s before ≡ fields ∷ rows_known t after
unfolding rows_known
rows_read s t None after fields k h = absurd (cc)
rows_read s t (Some xs) None fields k h = absurd h
rows_read s t (Some xs) (Some ys) fields k h = found_next s t xs ys fields _ refl h

-- where no record was read, none was left
pub rows_over : (s t : State) (before after : Option (List ℕ)) (fields : List (List ℕ)) → IsSome before →
    ReadsNext default_config s before after false fields t → rows_known s before ≡ []
unfolding rows_known
rows_over s t None after fields k h = absurd (cc)
rows_over s t (Some xs) None fields k h = absurd h
rows_over s t (Some xs) (Some ys) fields k h = none_next s t xs ys fields _ refl h

-- the bytes that are left once the start of the text was looked at
pub unread_is : {R : Type 0} (rem : R → Option (List ℕ)) (reader : Reader R) → reader.bom_checked ≡ true →
    source_of rem reader ≡ pending_of (rem reader.rdr) reader
unread_is rem reader e = rw e refl
