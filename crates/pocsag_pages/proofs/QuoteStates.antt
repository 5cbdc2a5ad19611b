-- Where a line stands, and what its bytes are then the text of.
use Rattle.pocsag_pages.proofs.Prelude.{◌≡◌, ◌≢◌, ℕ, ◌+◌, ◌<◌, ◌==◌, ◌&&◌, Bool, true, false, cond, arith, List, [], ◌∷◌, ◌++◌, length, drop, get_or, nat_eq, refl, sym, ap, ◌∙◌, subst, inl, inr, append_assoc, starts_with, append-nil, drop_more, cases_Bool, eqb-true, or_from, or_parts, nat_tests, is_bom, strip_bom, default_writer, escaped, needs_byte, needs_quotes, quoted, QuoteState, MayEnd, MayGoOn, bare_after, unquoted_after, quote_state_after, quote_state_from, IsRecordFront, at_start, closed, opened, unquoted, IsFieldStart, IsFieldText, IsRowText, bare, between_quotes, last, before}
use Rattle.pocsag_pages.specs.declared.quote_state.QuoteState.TheVariants as at

pub one_byte : (q : QuoteState) (bytes : List ℕ) (i d : ℕ) → i < length bytes →
    quote_state_from q (drop i bytes) ≡ quote_state_from (quote_state_after q (get_or bytes i d)) (drop (i + 1) bytes)
unfolding quote_state_from
one_byte q bytes i d h = rw (drop_more bytes i d h) refl

pub at_the_end : (q : QuoteState) → quote_state_from q [] ≡ q
unfolding quote_state_from
at_the_end q = refl

no_and : (b : Bool) → (b && false) ≡ true → ⊥
no_and true e = cc e
no_and false e = cc e

and_last : (x y z : Bool) → (x && (y && (z && true))) ≡ (x && y && z)
and_last true true true = refl
and_last true true false = refl
and_last true false z = refl
and_last false y z = refl

and_right : (x y : Bool) → (x && y) ≡ true → y ≡ true
and_right true y e = e
and_right false y e = cc e

same_mark : (a b c : ℕ) → starts_with nat_eq (a ∷ b ∷ c ∷ []) (0xEF ∷ 0xBB ∷ 0xBF ∷ []) ≡ is_bom a b c
same_mark a b c =
    let first : nat_eq 0xEF a ≡ nat_eq a 0xEF = grind (arith, nat_tests) in
    let second : nat_eq 0xBB b ≡ nat_eq b 0xBB = grind (arith, nat_tests) in
    let third : nat_eq 0xBF c ≡ nat_eq c 0xBF = grind (arith, nat_tests) in
    rw (first, second, third) (and_last (a == 0xEF) (b == 0xBB) (c == 0xBF))

pub marked : (bytes : List ℕ) → starts_with nat_eq bytes (0xEF ∷ 0xBB ∷ 0xBF ∷ []) ≡ true → strip_bom bytes ≡ drop 3 bytes
unfolding strip_bom
marked [] e = cc e
marked (a ∷ []) e = absurd (no_and _ e)
marked (a ∷ b ∷ []) e = absurd (no_and _ (and_right _ _ e))
marked (a ∷ b ∷ c ∷ rest) e = rw (sym (same_mark a b c) ∙ e) refl

pub unmarked : (bytes : List ℕ) → starts_with nat_eq bytes (0xEF ∷ 0xBB ∷ 0xBF ∷ []) ≡ false → strip_bom bytes ≡ bytes
unfolding strip_bom
unmarked [] e = refl
unmarked (a ∷ []) e = refl
unmarked (a ∷ b ∷ []) e = refl
unmarked (a ∷ b ∷ c ∷ rest) e = rw (sym (same_mark a b c) ∙ e) refl

-- the bytes of a field between quotes, and one more
pub escaped_none : escaped default_writer [] ≡ []
unfolding escaped
escaped_none = refl

pub escaped_more : (held : List ℕ) (b : ℕ) → (b == 34) ≡ false → escaped default_writer (held ++ b ∷ []) ≡ escaped default_writer held ++ b ∷ []
unfolding escaped
escaped_more [] b e = rw e refl
escaped_more (x ∷ held) b e = elim (cases_Bool (x == 34)) [
  | inl same ↦ rw same (ap (λ (t : List ℕ). 34 ∷ x ∷ t) (escaped_more held b e))
  | inr other ↦ rw other (ap (λ (t : List ℕ). x ∷ t) (escaped_more held b e))
]

pub escaped_quote : (held : List ℕ) → escaped default_writer (held ++ 34 ∷ []) ≡ escaped default_writer held ++ 34 ∷ 34 ∷ []
unfolding escaped
escaped_quote [] = refl
escaped_quote (x ∷ held) = elim (cases_Bool (x == 34)) [
  | inl same ↦ rw same (ap (λ (t : List ℕ). 34 ∷ x ∷ t) (escaped_quote held))
  | inr other ↦ rw other (ap (λ (t : List ℕ). x ∷ t) (escaped_quote held))
]

plain_more : (held : List ℕ) (b : ℕ) → needs_quotes default_writer held ≡ false → needs_byte default_writer b ≡ false
    → needs_quotes default_writer (held ++ b ∷ []) ≡ false
plain_more [] b e f = rw f refl
plain_more (x ∷ held) b e f = or_from _ _ (or_parts _ _ e).0 (plain_more held b (or_parts _ _ e).1 f)

-- what holds of both sides of a choice
pub chosen : (P : QuoteState → Type 0) (test : Bool) (r s : QuoteState) → (test ≡ true → P r) → (test ≡ false → P s) → P (cond test r s)
chosen P true r s h k = h refl
chosen P false r s h k = k refl

-- a record goes on before each state that is not lost
pub goes_on : (P : QuoteState → Type 0) → (P at.Broken → ⊥) → (P at.Ended → ⊥) → (q : QuoteState) (xs : List ℕ) → P (quote_state_from q xs) → MayGoOn q
unfolding quote_state_from
goes_on P broken ended at.Start xs h = tt
goes_on P broken ended at.Bare xs h = tt
goes_on P broken ended at.Open xs h = tt
goes_on P broken ended at.Closed xs h = tt
goes_on P broken ended at.Broken [] h = broken h
goes_on P broken ended at.Broken (b ∷ xs) h = goes_on P broken ended at.Broken xs h
goes_on P broken ended at.Ended [] h = ended h
goes_on P broken ended at.Ended (b ∷ xs) h = goes_on P broken ended at.Ended xs h

pub may_go : (q : QuoteState) (xs : List ℕ) → MayEnd (quote_state_from q xs) → MayGoOn q
may_go = goes_on MayEnd (λ m. m) (λ m. m)

pub run_on : (q : QuoteState) (xs ys : List ℕ) → quote_state_from q (xs ++ ys) ≡ quote_state_from (quote_state_from q xs) ys
unfolding quote_state_from
run_on q [] ys = refl
run_on q (b ∷ xs) ys = run_on (quote_state_after q b) xs ys

pub behind : (q : QuoteState) (seen ys : List ℕ) → quote_state_from at.Start seen ≡ q → quote_state_from at.Start (seen ++ ys) ≡ quote_state_from q ys
behind q seen ys e = run_on at.Start seen ys ∙ ap (λ (s : QuoteState). quote_state_from s ys) e

pub one_more : (q : QuoteState) (seen : List ℕ) (b : ℕ) → quote_state_from at.Start seen ≡ q → quote_state_from at.Start (seen ++ b ∷ []) ≡ quote_state_after q b
unfolding quote_state_from
one_more q seen b e = behind q seen (b ∷ []) e

-- a record is not lost in quotes, and goes on behind a comma elsewhere
pub lost_behind : (q : QuoteState) (b : ℕ) → (MayGoOn (quote_state_after q b) → ⊥) → q ≢ at.Open
lost_behind q b dead is =
    dead (subst (λ (s : QuoteState). MayGoOn (quote_state_after s b)) (sym is) (chosen MayGoOn (b == 34) at.Closed at.Open (λ e. tt) (λ e. tt)))

pub behind_comma : (q : QuoteState) → MayEnd q → quote_state_after q 44 ≡ at.Start
behind_comma at.Start may = refl
behind_comma at.Bare may = refl
behind_comma at.Open may = absurd may
behind_comma at.Closed may = refl
behind_comma at.Broken may = absurd may
behind_comma at.Ended may = absurd may

-- it is the text of a record
abbrev pub IsText : List ℕ → Type 0
IsText text = (fields : List (List ℕ)) × IsRowText fields text

-- one field more
row_joined : (fields : List (List ℕ)) (text field more : List ℕ) → IsRowText fields text → IsFieldText field more →
    IsRowText (fields ++ field ∷ []) (text ++ 44 ∷ more)
row_joined [] text field more row h = elim row [ ]
row_joined (f ∷ []) text field more (last t) h = before t (last h)
row_joined (f ∷ fs) line field more (before {text = t} {rest = r} first row) h =
    subst (IsRowText (f ∷ fs ++ field ∷ [])) (sym (append_assoc t (44 ∷ r) (44 ∷ more))) (before first (row_joined fs r field more row h))

joined : (start field text : List ℕ) → IsFieldStart start → IsFieldText field text → IsText (start ++ text)
joined start field text (inl none) h = rw none (field ∷ [], last h)
joined start field text (inr (front, (fields, row, is))) h =
    rw (is, append_assoc) (fields ++ field ∷ [], row_joined fields front field text row h)

-- a front that ends outside quotes is the text of a record
pub front_text : (q : QuoteState) (start front : List ℕ) → IsRecordFront q start front → q ≢ at.Open → IsText front
front_text q start front (at_start begins) shut = rw append-nil at (joined start [] [] begins (bare refl))
front_text q start front (unquoted held begins plain) shut = joined start held held begins (bare plain)
front_text q start front (opened held begins) shut = absurd (shut refl)
front_text q start front (closed held begins) shut = joined start held (quoted default_writer held) begins between_quotes

pub front_on : (q : QuoteState) (start front : List ℕ) → IsRecordFront q start front → MayGoOn q
front_on q start front (at_start begins) = tt
front_on q start front (unquoted held begins plain) = tt
front_on q start front (opened held begins) = tt
front_on q start front (closed held begins) = tt

-- where the last field starts, and in which line
abbrev pub newer : {A : Type 0} → QuoteState → A → A → A
newer at.Start old new = new
newer _ old new = old

-- a front, one byte more
abbrev IsNext : (start front : List ℕ) (b : ℕ) → QuoteState → Type 0
IsNext start front b r = MayGoOn r → IsRecordFront r (newer r start (front ++ b ∷ [])) (front ++ b ∷ [])

moved : (r : QuoteState) (start field new : List ℕ) (b : ℕ) → field ++ b ∷ [] ≡ new → IsRecordFront r start (start ++ new) → IsRecordFront r start ((start ++ field) ++ b ∷ [])
moved r start field new b e front = rw (append_assoc, e) front

comma_next : (start front : List ℕ) (b : ℕ) → IsText front → (b == 44) ≡ true → IsNext start front b at.Start
comma_next start front b text comma on = rw (eqb-true b 44 comma) (at_start (inr (front, (text.0, text.1, refl))))

bare_next : (start held : List ℕ) (b : ℕ) → IsFieldStart start → needs_quotes default_writer held ≡ false → IsNext start (start ++ held) b (bare_after b)
bare_next start held b begins plain =
    chosen (IsNext start (start ++ held) b) (b == 44) at.Start _ (comma_next start (start ++ held) b (joined start held held begins (bare plain)))
    (λ inside. chosen (IsNext start (start ++ held) b) (needs_byte default_writer b) (unquoted_after b) at.Bare
    (λ bad on. absurd (chosen (λ (r : QuoteState). MayGoOn r → ⊥) (b == 34) at.Broken at.Ended (λ e m. m) (λ e m. m) on))
    (λ small on. moved at.Bare start held (held ++ b ∷ []) b refl (unquoted (held ++ b ∷ []) begins (plain_more held b plain small))))

pub next : (q : QuoteState) (start front : List ℕ) (b : ℕ) → IsRecordFront q start front → IsNext start front b (quote_state_after q b)
next q start front b (at_start begins) =
    chosen (IsNext start start b) (b == 34) at.Open (bare_after b)
    (λ quote on. rw (eqb-true b 34 quote) (rw escaped_none at (opened [] begins)))
    (λ other. rw append-nil at (bare_next start [] b begins refl))
next q start front b (unquoted held begins plain) = bare_next start held b begins plain
next q start front b (opened held begins) =
    chosen (IsNext start front b) (b == 34) at.Closed at.Open
    (λ quote on. moved at.Closed start (34 ∷ escaped default_writer held) (quoted default_writer held) b (rw (eqb-true b 34 quote) refl) (closed held begins))
    (λ other on. moved at.Open start (34 ∷ escaped default_writer held) _ b (ap (λ (t : List ℕ). 34 ∷ t) (sym (escaped_more held b other))) (opened (held ++ b ∷ []) begins))
next q start front b (closed held begins) =
    chosen (IsNext start front b) (b == 34) at.Open _
    (λ quote on. moved at.Open start (quoted default_writer held) _ b
    (rw (eqb-true b 34 quote, escaped_quote) (ap (λ (t : List ℕ). 34 ∷ t) (append_assoc (escaped default_writer held) (34 ∷ []) (34 ∷ []))))
    (opened (held ++ 34 ∷ []) begins))
    (λ other. chosen (IsNext start front b) (b == 44) at.Start at.Broken
    (comma_next start front b (joined start held (quoted default_writer held) begins between_quotes)) (λ inside on. absurd on))

text_at : (xs : List ℕ) (q : QuoteState) (start front : List ℕ) → IsRecordFront q start front → MayEnd (quote_state_from q xs) → IsText (front ++ xs)
unfolding quote_state_from
text_at [] q start front h may = rw append-nil (front_text q start front h (λ e. subst MayEnd e may))
text_at (b ∷ xs) q start front h may =
    subst IsText (append_assoc front (b ∷ []) xs) (text_at xs _ _ _ (next q start front b h (may_go (quote_state_after q b) xs may)) may)

-- where a record may end, the bytes are the text of one
pub text_of : (line : List ℕ) → MayEnd (quote_state_from at.Start line) → IsText line
text_of line m = text_at line at.Start [] [] (at_start (inl refl)) m
