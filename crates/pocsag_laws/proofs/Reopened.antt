-- What a session over the text of a journal leaves.
use Rattle.pocsag_laws.proofs.Prelude.{◌≡◌, ◌≢◌, ◌⊎◌, inl, inr, ℕ, suc, ◌-◌, ◌≤◌, true, List, [], ◌∷◌, ◌++◌, length, arith, refl, sym, ap, ◌∙◌, subst, append_assoc, length-append, Option, Some, None, codes, slice_get, AllByRecursion, eqb-true, false_from_ne_true, Row, Page, OnLimit, End, IsEdit, IsRun, asked_of, first_record, wants_memory, IsLostAt, IsRowText, IsUnread, IsWholeLine, is_return, record_text, without_return, Refusal, UndoneFault, row_spelled, IsLine, journal_text, rows_text, edit_once, line_length, AreLines, IsFirstLine, PlacementResult, AreReplies, IsLineReply, IsRefusalPrinted, IsReply, IsSession, edited, listed, noted, planned, read, refused, sent_first, too_long, unread}
use Rattle.csv.specs.Machine.{line_feed}
use Rattle.csv.specs.Reading.{strip_bom}
use Rattle.csv.specs.Writing.{default_writer, fields_text, is_blank, row_body, row_text}
use Rattle.pocsag_pages.specs.declared.fault.FieldFault.TheVariants as field
use Rattle.pocsag_plan.specs.declared.refusal.AddFault.TheVariants as adding
use Rattle.pocsag_journal.specs.Asks.{AsksPlan}
use Rattle.pocsag_pages.specs.QuoteStates.{MayEnd, quote_state_after, quote_state_from}
use Rattle.pocsag_pages.specs.declared.quote_state.QuoteState.{QuoteState}
use Rattle.pocsag_pages.specs.declared.quote_state.QuoteState.TheVariants as at
use Rattle.pocsag_journal.specs.declared.refusal.Refusal.TheVariants as refusal
use Rattle.pocsag_journal.specs.declared.refusal.UndoneFault.TheVariants as undone
use Rattle.pocsag_journal.proofs.Fields.{is_word}
use Rattle.pocsag_pages.proofs.RowTexts.{row_place, rows_are}
use Rattle.pocsag_journal.specs.Growth.{kept_line_limit}
use Rattle.pocsag_journal.proofs.Replays.{edit_some, is_true, pair_word}
use Rattle.pocsag_journal.proofs.TextLines.{at_line, first_line, no_whole_line, split_lines}
use Rattle.pocsag_open.specs.Words.{refusal_words}
use Rattle.pocsag_laws.specs.Reopened.{NamesNoMemory}
use Rattle.pocsag_open.proofs.Sessions.{plan_or_heading}

-- what holds of each record whose first field is the word of an edit holds of an edit
by_word : (P : Row → Type 0) → P (codes "clear" ∷ []) → ((a : List ℕ) → P (codes "cancel" ∷ a ∷ [])) → ((a : List ℕ) → P (codes "sent" ∷ a ∷ [])) →
    ((a k m : List ℕ) → P (codes "add" ∷ a ∷ k ∷ m ∷ [])) → (row : Row) (pages after : List Page) → IsEdit row pages after → P row
unfolding asked_of
by_word P clear cancel sent add [] pages after d = absurd d
by_word P clear cancel sent add (w ∷ []) pages after d =
    subst (λ (x : List ℕ). P (x ∷ [])) (sym (is_word w (codes "clear") (is_true _ _ pages after d))) clear
by_word P clear cancel sent add (w ∷ a ∷ []) pages after d =
    let of = λ (x : List ℕ). P (x ∷ a ∷ []) in
    elim (pair_word w a pages after d) [ inl e ↦ subst of (sym e) (cancel a) | inr e ↦ subst of (sym e) (sent a) ]
by_word P clear cancel sent add (w ∷ a ∷ k ∷ []) pages after d = absurd d
by_word P clear cancel sent add (w ∷ a ∷ k ∷ m ∷ []) pages after d =
    subst (λ (x : List ℕ). P (x ∷ a ∷ k ∷ m ∷ [])) (sym (is_word w (codes "add") (is_true _ _ pages after d))) (add a k m)
by_word P clear cancel sent add (w ∷ a ∷ k ∷ m ∷ n ∷ row) pages after d = absurd d

-- the text of an edit, without its line feed
edit_body : (row : Row) (pages after : List Page) → IsEdit row pages after → row_text default_writer row ≡ row_body default_writer row ++ line_feed ∷ []
unfolding fields_text is_blank
edit_body = by_word (λ row. row_text default_writer row ≡ row_body default_writer row ++ line_feed ∷ []) refl (λ a. refl) (λ a. refl) (λ a k m. refl)

edit_plain : (row : Row) (pages after : List Page) → IsEdit row pages after → strip_bom (row_body default_writer row) ≡ row_body default_writer row
unfolding fields_text strip_bom
edit_plain = by_word (λ row. strip_bom (row_body default_writer row) ≡ row_body default_writer row) refl (λ a. refl) (λ a. refl) (λ a k m. refl)

no_body : (row : Row) (pages after : List Page) → IsEdit row pages after → row_body default_writer row ≢ []
unfolding fields_text
no_body = by_word (λ row. row_body default_writer row ≢ []) (λ e. cc e) (λ a e. cc e) (λ a e. cc e) (λ a k m e. cc e)

-- no text of a record ends with a carriage return
returned : (q : QuoteState) → MayEnd (quote_state_after q 13) → ⊥
returned at.Start may = may
returned at.Bare may = may
returned at.Open may = may
returned at.Closed may = may
returned at.Broken may = may
returned at.Ended may = may

no_return : (q : QuoteState) (front : List ℕ) → MayEnd (quote_state_from q (front ++ 13 ∷ [])) → ⊥
unfolding quote_state_from
no_return q [] may = returned q may
no_return q (b ∷ front) may = no_return (quote_state_after q b) front may

return_last : (xs : List ℕ) → is_return (slice_get xs (length xs - 1)) ≡ true → (front : List ℕ) × (xs ≡ front ++ 13 ∷ [])
return_last [] e = absurd (cc e)
return_last (b ∷ []) e = ([], ap (λ (c : ℕ). c ∷ []) (eqb-true b 13 e))
return_last (b ∷ c ∷ xs) e =
    let place : length (b ∷ c ∷ xs) - 1 ≡ suc (length (c ∷ xs) - 1) = omega arith in
    let here : is_return (slice_get (b ∷ c ∷ xs) (suc (length (c ∷ xs) - 1))) ≡ true =
    subst (λ (n : ℕ). is_return (slice_get (b ∷ c ∷ xs) n) ≡ true) place e in
    let more = return_last (c ∷ xs) here in
    (b ∷ more.0, ap (λ (l : List ℕ). b ∷ l) more.1)

whole_text : (row : Row) (text : List ℕ) → IsRowText row text → without_return text ≡ text
whole_text row text spelled =
    let none = false_from_ne_true (is_return (slice_get text (length text - 1)))
    (λ t. let h = return_last text t in
    no_return at.Start h.0 (subst (λ (l : List ℕ). MayEnd (quote_state_from at.Start l)) h.1 (row_place row text spelled))) in
    rw none refl

-- the line of an edit reads as its record alone
edit_spelled : (row : Row) (pages after : List Page) → IsEdit row pages after → IsRowText row (row_body default_writer row)
edit_spelled [] pages after d = absurd (edit_some [] pages after d refl)
edit_spelled (f ∷ rest) pages after d = row_spelled f rest

record_is : (row : Row) (pages after : List Page) → IsEdit row pages after → record_text (row_body default_writer row) ≡ row_body default_writer row
record_is row pages after d =
    let body = row_body default_writer row in
    let whole : without_return body ≡ body = whole_text row body (edit_spelled row pages after d) in
    ap strip_bom whole ∙ edit_plain row pages after d

edit_line : (row : Row) (pages after : List Page) → IsEdit row pages after → IsRowText row (record_text (row_body default_writer row))
edit_line row pages after d = subst (IsRowText row) (sym (record_is row pages after d)) (edit_spelled row pages after d)

some_text : (row : Row) (pages after : List Page) → IsEdit row pages after → record_text (row_body default_writer row) ≢ []
some_text row pages after d none = no_body row pages after d (sym (record_is row pages after d) ∙ none)

first_of : List Row → Row
first_of [] = []
first_of (row ∷ rows) = row

one_record : (row other : Row) (text : List ℕ) → text ≢ [] → IsRowText row text → IsRowText other text → other ≡ row
unfolding first_of
one_record row other text some p q =
    ap first_of (sym (rows_are other text q (λ e. some e)) ∙ rows_are row text p (λ e. some e))

-- why it may be refused
no_memory_words : (why : Refusal) → wants_memory why ≡ true → refusal_words why ≡ codes "out of memory"
no_memory_words (refusal.Field field.OutOfMemory) e = refl
no_memory_words (refusal.Add adding.OutOfMemory) e = refl
no_memory_words _ e = absurd (cc e)

refused_told : (why : Refusal) (told : List ℕ) → refusal_words why ≡ codes "out of memory" → IsRefusalPrinted why told → NamesNoMemory told
refused_told why told e is =
    record { front = []; rest = []; parts = is ∙ ap (λ (w : List ℕ). codes "refused: " ++ (w ++ line_feed ∷ [])) e }

lost_none : (row : Row) (text front : List ℕ) (byte : ℕ) → IsRowText row text → IsLostAt text front byte → ⊥
lost_none row text front byte spelled lost = lost.lost lost.rest row (subst (λ (t : List ℕ). IsRowText row t) lost.parts spelled)

unread_told : (row : Row) (text : List ℕ) (why : Refusal) (told : List ℕ) → text ≢ [] → IsRowText row text → IsUnread text why →
    IsRefusalPrinted why told → NamesNoMemory told
unread_told row text refusal.InQuotes told some spelled h is = absurd (h.0 row spelled)
unread_told row text refusal.StrayQuote told some spelled h is = absurd (lost_none row text h.0 h.1.0 spelled h.1.1)
unread_told row text refusal.Unknown told some spelled (inl h) is = absurd (lost_none row text h.0 h.1.0 spelled h.1.1)
unread_told row text refusal.Unknown told some spelled (inr none) is = absurd (some none)
unread_told row text (refusal.Undone f) told some spelled h is =
    refused_told (refusal.Undone undone.OutOfMemory) told refl (subst (λ (g : UndoneFault). IsRefusalPrinted (refusal.Undone g) told) h.0 is)
unread_told row text (refusal.Field f) told some spelled h is = absurd h
unread_told row text (refusal.Add f) told some spelled h is = absurd h
unread_told row text (refusal.Cancel f) told some spelled h is = absurd h

plan_edits : (end : End) (most : Option ℕ) (tx cert : List ℕ) (row : Row) (pages after : List Page) → AsksPlan end most tx cert row →
    IsEdit row pages after → ⊥
unfolding asked_of
plan_edits end None tx cert row pages after (inl e) d = subst (λ (r : Row). IsEdit r pages after) e d
plan_edits end None tx cert row pages after (inr e) d = subst (λ (r : Row). IsEdit r pages after) e.1 d
plan_edits end (Some b) tx cert row pages after e d = subst (λ (r : Row). IsEdit r pages after) e.2 d

-- the reply to a record leaves what is due, or reports that memory was wanting
abbrev Leaves : (after due : List Page) (told : List ℕ) → Type 0
Leaves after due told = (after ≡ due) ⊎ NamesNoMemory told

record_reply : (IsKnown OutputFails : Type 0) (on_limit : OnLimit) (row : Row) (pages after due : List Page) (told : List ℕ) (placed : List PlacementResult) →
    IsEdit row pages due → IsReply IsKnown OutputFails on_limit row pages after told placed → Leaves after due told
unfolding asked_of
record_reply IsKnown OutputFails on_limit row pages after due told placed d (edited e t n) = inl (edit_once row pages after due e d)
record_reply IsKnown OutputFails on_limit row pages after due told placed d (listed is s t n) = absurd (subst (λ (r : Row). IsEdit r pages due) is d)
record_reply IsKnown OutputFails on_limit row pages after due told placed d (noted is s t n) = absurd (subst (λ (r : Row). IsEdit r pages due) is d)
record_reply IsKnown OutputFails on_limit row pages after due told placed d (planned end tx cert batches bound sent asks is s t n) =
    absurd (plan_edits end None tx cert row pages due asks d)
record_reply IsKnown OutputFails on_limit row pages after due told placed d (sent_first end most tx cert count batches bound sent asks is s t n) =
    absurd (plan_edits end (Some most) tx cert row pages due asks d)
record_reply IsKnown OutputFails on_limit row pages after due told placed d (refused why is s t) = elim is.edit [
  | inl wants ↦ inr (refused_told why told (no_memory_words why wants) t)
  | inr none ↦ absurd (none due d)
]

heading_reply : (IsKnown OutputFails : Type 0) (on_limit : OnLimit) (pages after : List Page) (told : List ℕ) (placed : List PlacementResult) →
    IsReply IsKnown OutputFails on_limit first_record pages after told placed → Leaves after pages told
unfolding asked_of
heading_reply IsKnown OutputFails on_limit pages after told placed (edited e t n) = absurd e
heading_reply IsKnown OutputFails on_limit pages after told placed (listed is s t n) = inl s
heading_reply IsKnown OutputFails on_limit pages after told placed (noted is s t n) = inl s
heading_reply IsKnown OutputFails on_limit pages after told placed (planned end tx cert batches bound sent asks is s t n) = inl s
heading_reply IsKnown OutputFails on_limit pages after told placed (sent_first end most tx cert count batches bound sent asks is s t n) =
    absurd (plan_or_heading end (Some most) tx cert first_record asks refl)
heading_reply IsKnown OutputFails on_limit pages after told placed (refused why is s t) = inl s

-- the reply to its line
line_reply : (IsKnown OutputFails : Type 0) (on_limit : OnLimit) (line : List ℕ) (row : Row) (pages after due : List Page) (told : List ℕ)
    (placed : List PlacementResult) → length line ≤ kept_line_limit → IsRowText row (record_text line) → record_text line ≢ [] →
    (IsReply IsKnown OutputFails on_limit row pages after told placed → Leaves after due told) →
    IsLineReply IsKnown OutputFails on_limit line pages after told placed → Leaves after due told
line_reply IsKnown OutputFails on_limit line row pages after due told placed short spelled some reply (too_long long s t n) = absurd (omega (arith, short, long))
line_reply IsKnown OutputFails on_limit line row pages after due told placed short spelled some reply (unread why few is s t n) =
    inr (unread_told row (record_text line) why told some spelled is t)
line_reply IsKnown OutputFails on_limit line row pages after due told placed short spelled some reply (read other few is here) =
    reply (subst (λ (r : Row). IsReply IsKnown OutputFails on_limit r pages after told placed) (one_record row other (record_text line) some spelled is) here)

-- the first line of a text that begins with a whole one
same_body : (xs ys : List ℕ) (b : ℕ) → xs ++ b ∷ [] ≡ ys ++ b ∷ [] → xs ≡ ys
same_body [] [] b e = refl
same_body [] (y ∷ []) b e = absurd (cc e)
same_body [] (y ∷ z ∷ ys) b e = absurd (cc e)
same_body (x ∷ []) [] b e = absurd (cc e)
same_body (x ∷ z ∷ xs) [] b e = absurd (cc e)
same_body (x ∷ xs) (y ∷ ys) b e =
    let head : x ≡ y = cc e in
    rw (head, same_body xs ys b (cc e)) refl

first_is : (text body rest line behind : List ℕ) → text ≡ body ++ line_feed ∷ [] → IsWholeLine text → IsFirstLine (text ++ rest) line behind →
    (line ≡ body) × (behind ≡ rest)
first_is text body rest line behind e whole first = elim first.parts [
  | inl parts ↦
      let own : whole.body ≡ body = same_body whole.body body line_feed (sym whole.parts ∙ e) in
      let h = split_lines whole.body line rest behind whole.one first.one (sym (at_line text rest whole.body whole.parts) ∙ parts) in
      (sym h.0 ∙ own, sym h.1)
  | inr none ↦ absurd (no_whole_line text rest line whole first.one none.1)
]

wanted_later : (told reply more : List ℕ) → told ≡ reply ++ more → NamesNoMemory more → NamesNoMemory told
wanted_later told reply more e h = record {
  front = reply ++ h.front;
  rest = h.rest;
  parts = e ∙ ap (λ (l : List ℕ). reply ++ l) h.parts ∙ sym (append_assoc reply h.front (codes "refused: out of memory" ++ (line_feed ∷ h.rest)));
}

wanted_now : (told reply more : List ℕ) → told ≡ reply ++ more → NamesNoMemory reply → NamesNoMemory told
wanted_now told reply more e h = record {
  front = h.front;
  rest = h.rest ++ more;
  parts = e ∙ ap (λ (l : List ℕ). l ++ more) h.parts
      ∙ append_assoc h.front (codes "refused: out of memory" ++ (line_feed ∷ h.rest)) more
      ∙ ap (λ (l : List ℕ). h.front ++ l) (append_assoc (codes "refused: out of memory") (line_feed ∷ h.rest) more);
}

-- what the first reply and the others leave
then_others : (told reply more : List ℕ) (between mid after pages : List Page) → told ≡ reply ++ more → Leaves between mid reply →
    (between ≡ mid → Leaves after pages more) → Leaves after pages told
then_others told reply more between mid after pages parts (inl same) others = elim (others same) [
  | inl is ↦ inl is
  | inr wanted ↦ inr (wanted_later told reply more parts wanted)
]
then_others told reply more between mid after pages parts (inr wanted) others = inr (wanted_now told reply more parts wanted)

no_first : (line behind : List ℕ) → IsFirstLine [] line behind → ⊥
no_first line behind first = elim first.parts [
  | inl parts ↦ none_of line behind parts
  | inr none ↦ none.0 (sym none.1)
]
  where
    none_of : (line behind : List ℕ) → [] ≡ line ++ line_feed ∷ behind → ⊥
    none_of [] behind e = cc e
    none_of (b ∷ line) behind e = cc e

some_line : (text rest : List ℕ) → IsWholeLine text → text ++ rest ≡ [] → ⊥
some_line text rest whole e =
    let long = length-append text rest in
    let all = length-append whole.body (line_feed ∷ []) in
    let none : length (text ++ rest) ≡ 0 = ap length e in
    let parts : length text ≡ length (whole.body ++ line_feed ∷ []) = ap length whole.parts in
    omega (arith, long, all, none, parts)

short_line : (row : Row) (pages after : List Page) → IsEdit row pages after → length (row_body default_writer row) ≤ kept_line_limit
short_line row pages after d =
    let text : length (row_text default_writer row) ≡ length (row_body default_writer row ++ line_feed ∷ []) = ap length (edit_body row pages after d) in
    omega (arith, text, length-append (row_body default_writer row) (line_feed ∷ []), line_length row pages after d)

rows_reopened : (IsKnown OutputFails : Type 0) (on_limit : OnLimit) (rows : List Row) (lines : List (List ℕ)) (before pages after : List Page) (told : List ℕ)
    (placed : List PlacementResult) → AllByRecursion IsLine rows → IsRun rows before pages → AreLines lines (rows_text rows) →
    AreReplies IsKnown OutputFails on_limit lines before after told placed → Leaves after pages told
unfolding IsRun rows_text AreLines AreReplies
rows_reopened IsKnown OutputFails on_limit [] [] start pages after told placed each run cut replies = inl (replies.0 ∙ sym run)
rows_reopened IsKnown OutputFails on_limit [] (line ∷ lines) start pages after told placed each run cut replies = absurd (no_first line cut.0 cut.1)
rows_reopened IsKnown OutputFails on_limit (row ∷ rows) [] start pages after told placed each run cut replies =
    absurd (some_line (row_text default_writer row) (rows_text rows) each.0.line cut)
rows_reopened IsKnown OutputFails on_limit (row ∷ rows) (line ∷ lines) start pages after told placed each (mid, edit, run) (rest, first, cut)
    (between, reply, more, its, others, here, next, parts, sent) =
    let at_line_is = first_is (row_text default_writer row) (row_body default_writer row) (rows_text rows) line rest
    (edit_body row start mid edit) each.0.line first in
    let answer = line_reply IsKnown OutputFails on_limit (row_body default_writer row) row start between mid reply its (short_line row start mid edit)
    (edit_line row start mid edit) (some_text row start mid edit) (record_reply IsKnown OutputFails on_limit row start between mid reply its edit)
    (subst (λ (l : List ℕ). IsLineReply IsKnown OutputFails on_limit l start between reply its) at_line_is.0 here) in
    then_others told reply more between mid after pages parts answer (λ same.
    rows_reopened IsKnown OutputFails on_limit rows lines mid pages after more others each.1 run (subst (AreLines lines) at_line_is.1 cut)
    (subst (λ (ps : List Page). AreReplies IsKnown OutputFails on_limit lines ps after more others) same next))

heading_body : row_text default_writer first_record ≡ row_body default_writer first_record ++ line_feed ∷ []
unfolding fields_text is_blank
heading_body = refl

heading_text : record_text (row_body default_writer first_record) ≡ row_body default_writer first_record
unfolding fields_text strip_bom
heading_text = refl

heading_some : record_text (row_body default_writer first_record) ≢ []
unfolding fields_text strip_bom
heading_some e = cc e

heading_short : length (row_body default_writer first_record) ≤ kept_line_limit
unfolding fields_text
heading_short = omega arith

session_reopened : (IsKnown OutputFails : Type 0) (on_limit : OnLimit) (rows : List Row) (lines : List (List ℕ)) (pages after : List Page) (told : List ℕ)
    (placed : List PlacementResult) → AllByRecursion IsLine rows → IsRun rows [] pages → AreLines lines (journal_text rows) →
    AreReplies IsKnown OutputFails on_limit lines [] after told placed → Leaves after pages told
unfolding AreLines AreReplies
session_reopened IsKnown OutputFails on_limit rows [] pages after told placed each run cut replies =
    absurd (some_line (row_text default_writer first_record) (rows_text rows) first_line cut)
session_reopened IsKnown OutputFails on_limit rows (line ∷ lines) pages after told placed each run (rest, first, cut)
    (between, reply, more, its, others, here, next, parts, sent) =
    let at_line_is = first_is (row_text default_writer first_record) (row_body default_writer first_record) (rows_text rows) line rest
    heading_body first_line first in
    let spelled : IsRowText first_record (record_text (row_body default_writer first_record)) =
    subst (λ (t : List ℕ). IsRowText first_record t) (sym heading_text) (row_spelled (codes "pocsag journal") (codes "1" ∷ [])) in
    let answer = line_reply IsKnown OutputFails on_limit (row_body default_writer first_record) first_record [] between [] reply its heading_short
    spelled heading_some (heading_reply IsKnown OutputFails on_limit [] between reply its)
    (subst (λ (l : List ℕ). IsLineReply IsKnown OutputFails on_limit l [] between reply its) at_line_is.0 here) in
    then_others told reply more between [] after pages parts answer (λ same.
    rows_reopened IsKnown OutputFails on_limit rows lines [] pages after more others each run (subst (AreLines lines) at_line_is.1 cut)
    (subst (λ (ps : List Page). AreReplies IsKnown OutputFails on_limit lines ps after more others) same next))

-- *Reopened*
pub reopened : (IsKnown OutputFails : Type 0) (on_limit : OnLimit) (rows : List Row) (pages after : List Page) (told : List ℕ) (placed : List PlacementResult) →
    AllByRecursion IsLine rows → IsRun rows [] pages → IsSession IsKnown OutputFails on_limit (journal_text rows) [] after told placed →
    (after ≡ pages) ⊎ NamesNoMemory told
reopened IsKnown OutputFails on_limit rows pages after told placed each run session =
    session_reopened IsKnown OutputFails on_limit rows session.lines pages after told placed each run session.cut session.replies
