-- Pages that lines add have lines.
use Rattle.pocsag_journal.proofs.Prelude.{◌≡◌, ◌≢◌, ℕ, zero, suc, ◌+◌, ◌^◌, ◌<◌, ◌==◌, Bool, true, false, cond, inl, inr, List, [], ◌∷◌, ◌++◌, length, replicate, All, refl, sym, subst, arith, None, Some, Result, Ok, Err, IfOk, AllByRecursion, decimal, bytes_eq, cases_Bool, decimal_by_steps, All-head, All-nil, All-tail, line_feed, default_writer, row_text, TextFault, alpha_payload, numeric_payload, trim_end, trimmed_onto, ◌>>=◌, Row, address_of, fault_if, kind_of_field, of_record, of_text, or_fault, page_of, page_of_fields, payload_of, is_reserved, page_fault_of, FieldFault, Page, kind_field, message_field, whole_message, free_address, record_back, one_name, page_at, page_spellable, paged, value_of, no_fault, HasNoLine, AddsLine, IsLine, IsRead, add_record, HasNoLineFeed, Asked, IsDone, IsEdit, IsRun, add, asked_of, cancel, clear, sent}
use Rattle.std.proofs.Common.{codes, length-append}
use Rattle.pocsag_text.proofs.RoundTrips.{numeric_text-back}
use Rattle.pocsag_pages.specs.declared.fault.FieldFault.TheVariants as field
use Rattle.pocsag_pages.proofs.GoodPages.{good_page}
use Rattle.pocsag_decode.proofs.ListedFields.{characters_listed}
use Rattle.pocsag_journal.specs.PageLines.{HasLine, HaveLines}
use Rattle.pocsag_journal.proofs.EditRuns.{edit_of}
use Rattle.pocsag_journal.proofs.Fields.{edit_record}
use Rattle.pocsag_journal.proofs.EditedPages.{Keeps, added_keeps, cancelled_keeps, cleared_keeps, none_stand, sent_keeps}
use Rattle.pocsag_journal.proofs.FieldLines.{feedless_both, line_fields, row_line}
use Rattle.pocsag_journal.proofs.KeptPages.{added_row}
use Rattle.pocsag_journal.proofs.LineFeeds.{none_found}
use Rattle.pocsag_journal.proofs.LineLengths.{then_ok}

-- the fields of a page's record
pub decimal_feedless : (n : ℕ) → n < 2 ^ 64 → HasNoLineFeed (decimal n)
decimal_feedless n small =
    decimal_by_steps (λ m ds. HasNoLineFeed ds) (λ m h. ((λ e. absurd (omega (arith, e))), tt))
    (λ m ds l h. feedless_both ds _ h ((λ e. absurd (omega (arith, e))), tt)) n small

kind_feedless : (f : ℕ) (items : List ℕ) → HasNoLineFeed (kind_field f items)
unfolding kind_field
kind_feedless f [] =
    feedless_both (codes "tone") ((48 + f) ∷ []) (none_found (codes "tone") refl) ((λ e. absurd (omega (arith, e))), tt)
kind_feedless f (item ∷ items) = elim (cases_Bool (f == 0)) [
  | inl e ↦ rw e (none_found (codes "numeric") refl)
  | inr n ↦ elim (cases_Bool (f == 3)) [
    | inl e ↦ rw (n, e) (none_found (codes "alpha") refl)
    | inr m ↦ rw (n, m)
        (feedless_both (codes "data") ((48 + f) ∷ []) (none_found (codes "data") refl) ((λ e. absurd (omega (arith, e))), tt))
  ]
]

trimmed_feedless : (c b : ℕ) (text : List ℕ) → b ≢ line_feed → HasNoLineFeed text → HasNoLineFeed (trimmed_onto c b text)
trimmed_feedless c b [] other none = elim (cases_Bool (b == c)) [ inl e ↦ rw e tt | inr e ↦ rw e (other, tt) ]
trimmed_feedless c b (x ∷ text) other none = (other, none)

trim_feedless : (c : ℕ) (text : List ℕ) → HasNoLineFeed text → HasNoLineFeed (trim_end c text)
unfolding trim_end
trim_feedless c [] none = tt
trim_feedless c (b ∷ text) none = trimmed_feedless c b (trim_end c text) none.0 (trim_feedless c text none.1)

spaces_feedless : (n : ℕ) → HasNoLineFeed (replicate n 32)
spaces_feedless zero = tt
spaces_feedless (suc n) = ((λ e. absurd (omega (arith, e))), spaces_feedless n)

-- the message of a page that is spelled without a line feed
abbrev IsFeedless : Page → Type 0
IsFeedless page = HasNoLineFeed (whole_message page.function page.payload)

tone_message : (a f : ℕ) (t : Bool) → IfOk (cond t (Ok []) (Err field.MessageForTone) >>= paged a f) IsFeedless
unfolding whole_message
tone_message a f true = tt
tone_message a f false = tt

digits_message : (a : ℕ) (text : List ℕ) (r : Result (List ℕ) TextFault) → HasNoLineFeed text → numeric_payload text ≡ r →
    IfOk (of_text r >>= paged a 0) IsFeedless
unfolding whole_message message_field
digits_message a text (Ok []) none e = tt
digits_message a text (Ok (item ∷ items)) none e =
    rw (numeric_text-back text (item ∷ items) e) (feedless_both (trim_end 32 text) _ (trim_feedless 32 text none) (spaces_feedless _))
digits_message a text (Err f) none e = tt

characters_message : (a : ℕ) (text : List ℕ) (r : Result (List ℕ) TextFault) → HasNoLineFeed text → alpha_payload text ≡ r →
    IfOk (of_text r >>= paged a 3) IsFeedless
unfolding whole_message
characters_message a text (Ok []) none e = tt
characters_message a text (Ok (item ∷ items)) none e = subst HasNoLineFeed (sym (characters_listed item items text e)) none
characters_message a text (Err f) none e = tt

named_message : (a : ℕ) (name message : List ℕ) → HasNoLineFeed message → IfOk (page_at a name message) IsFeedless
unfolding kind_of_field payload_of
named_message a name message none =
    let t = length message == 0 in
    one_name IsFeedless _ (bytes_eq name (codes "tone0")) _ _ (tone_message a 0 t)
    (one_name IsFeedless _ (bytes_eq name (codes "tone1")) _ _ (tone_message a 1 t)
    (one_name IsFeedless _ (bytes_eq name (codes "tone2")) _ _ (tone_message a 2 t)
    (one_name IsFeedless _ (bytes_eq name (codes "tone3")) _ _ (tone_message a 3 t)
    (one_name IsFeedless _ (bytes_eq name (codes "numeric")) _ _ (digits_message a message (numeric_payload message) none refl)
    (one_name IsFeedless _ (bytes_eq name (codes "alpha")) _ None (characters_message a message (alpha_payload message) none refl) tt)))))

fields_message : (address name message : List ℕ) (page : Page) → page_of_fields address name message ≡ Ok page → HasNoLineFeed message →
    IsFeedless page
unfolding page_of_fields
fields_message address name message page e none =
    let a = then_ok (or_fault (address_of address) field.BadAddress) _ page e in
    let b = then_ok (fault_if (is_reserved a.0) field.ReservedAddress) _ page a.2 in
    value_of IsFeedless (page_at a.0 name message) page (named_message a.0 name message none) b.2

page_lined : (address name message : List ℕ) → HasNoLineFeed message → (page : Page) → page_of_fields address name message ≡ Ok page →
    page_fault_of page ≡ None → HasLine page
page_lined address name message none page e fine =
    let good = good_page page fine in
    let some : add_record page ≢ [] = λ n. cc n in
    record {
      line = row_line (add_record page) some (
        none_found (codes "add") refl,
        (
          decimal_feedless page.address (omega (arith, good.address)),
          (kind_feedless page.function page.payload, (fields_message address name message page e none, tt)),
        ),
      );
      spelled = (record_back page fine (page_spellable address name message page e)).spells;
    }

-- an edit whose record is one line leaves pages with lines
pub none_lined : HaveLines []
none_lined = record { each = All-nil HasLine; good = none_stand.good; few = none_stand.few }

kept_lined : (before after : List Page) → Keeps HasLine before after → HaveLines before → HaveLines after
kept_lined before after keeps lined =
    let stand = keeps.stand (record { few = lined.few; good = lined.good }) in
    record { each = keeps.each lined.each; good = stand.good; few = stand.few }

asked_keeps : (asked : Asked) (before after : List Page) → AllByRecursion HasNoLineFeed (edit_record asked) → IsDone (Some asked) before after →
    Keeps HasLine before after
asked_keeps clear before after none d = cleared_keeps HasLine before after d
asked_keeps (cancel a) before after none d = cancelled_keeps HasLine a before after d
asked_keeps (sent a) before after none d = sent_keeps HasLine a before after d
asked_keeps (add a k m) before after none d = added_keeps HasLine a k m before after d (page_lined a k m none.1.1.1.0)

pub edit_lined : (row : Row) (before after : List Page) → IsLine row → IsEdit row before after → HaveLines before → HaveLines after
edit_lined row before after line edit =
    let its = edit_of row before after edit in
    kept_lined before after (asked_keeps its.asked before after (subst (AllByRecursion HasNoLineFeed) its.is (line_fields row line)) its.done)

pub run_lined : (rows : List Row) (before after : List Page) → AllByRecursion IsLine rows → IsRun rows before after →
    HaveLines before → HaveLines after
unfolding IsRun
run_lined [] before after each run lined = subst HaveLines (sym run) lined
run_lined (row ∷ rows) before after each run lined =
    run_lined rows run.0 after each.1 run.2 (edit_lined row before run.0 each.0 run.1 lined)

pub journal_lined : (bytes : List ℕ) (rows : List Row) (torn : List ℕ) (pages : List Page) → IsRead bytes rows torn → IsRun rows [] pages →
    HaveLines pages
journal_lined bytes rows torn pages read run = run_lined rows [] pages read.each run none_lined

-- the line of a page with one adds it behind the pages before it
at_middle : (P : Page → Type 0) (before : List Page) (page : Page) (rest : List Page) → All P (before ++ page ∷ rest) → P page
at_middle P [] page rest all = All-head P page rest all
at_middle P (b ∷ before) page rest all = at_middle P before page rest (All-tail P b (before ++ page ∷ rest) all)

spelled_fields : (r : Result Page FieldFault) (page : Page) → of_record r ≡ Ok page → r ≡ Ok page
spelled_fields (Ok p) page e = cc e
spelled_fields (Err f) page e = absurd (cc e)

adds_lined : (before rest : List Page) (page : Page) → HaveLines (before ++ page ∷ rest) →
    AddsLine (row_text default_writer (add_record page)) before page (before ++ page ∷ [])
unfolding asked_of page_of
adds_lined before rest page lined =
    let own = at_middle HasLine before page rest lined.each in
    let fine = at_middle (λ p. page_fault_of p ≡ None) before page rest lined.good.each in
    let room : length before < 20000 = omega (arith, length-append before (page ∷ rest), lined.few) in
    record {
      row = add_record page;
      adds = added_row (add_record page) page refl;
      one = own.line;
      text = refl;
      edit = record {
        page = page;
        spelled = spelled_fields _ page own.spelled;
        free = sym (no_fault before page fine (free_address before rest page lined.good) room);
        behind = refl;
      };
      behind = refl;
    }

pub not_unlined : (pages : List Page) (number : ℕ) → HaveLines pages → ¬ HasNoLine pages number
not_unlined pages number lined none = none.none (adds_lined none.before none.rest none.page (subst HaveLines none.parts lined))
