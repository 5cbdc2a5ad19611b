-- What is listed of a capture, and why a command does not answer for one.
use Rattle.pocsag_receiver.proofs.Prelude.{◌≡◌, ℕ, ◌*◌, ◌≤◌, List, [], ◌∷◌, ◌++◌, length, map, None, Result, refl, sym, ap, ap₂, subst, ◌∙◌, IfNone, IfSome, codes, fields_text, is_blank, default_writer, row_text, header, flat_map, All-weaker, input_limit, Page, unsynced, capture_bits, CapturedTransmission, IsCapturedTransmission, UncutStandWhole, pages_captured, ReceptionStats, Reception, IsFaultless, address_fault, printed_so, printed_by, over_bytes, over_reader, IsStreamOf, Ran, ErrorStream, View, lists_capture, AreRowsOf, ListsRows, names_in, row_in, ExplainsShowing, Row, ReceiverFault}
use Rattle.pocsag_words.specs.declared.device.Sink.{Ghosts as Writer}
use Rattle.pocsag_words.specs.declared.device.Source.{Ghosts as Reader}
use Rattle.pocsag_capture.proofs.SentBits.{shows_what_was_sent}
use Rattle.pocsag_capture.specs.ExtractedBytes.{ExtractsOne}
use Rattle.pocsag_capture.specs.Receptions.{AreReceptions, received}
use Rattle.pocsag_capture.specs.Sent.{HoldsSent}
use Rattle.pocsag_capture.specs.Slips.{AreInStep}
use Rattle.pocsag_capture.proofs.PageEnds.{transmissions_are_captured_lem, uncut_pages_stand}
use Rattle.pocsag_receiver.specs.Captures.{ExplainsCaptured, ExplainsOne, IsCaptureListed, ListsAmong, ListsWhole}
use Rattle.pocsag_receiver.specs.declared.captured.CaptureOptions.{CaptureOptions}
use Rattle.pocsag_receiver.specs.declared.fault.ReceiverFault.TheVariants as fault
use Rattle.pocsag_receiver.proofs.Works.{written}

pub show_explained : (view : View) (capture bytes : List ℕ) (nth : ℕ) (heard : List ReceptionStats) (e : ReceiverFault)
    → ExtractsOne capture nth heard bytes → IsFaultless bytes → ExplainsShowing view bytes e → ExplainsOne view nth capture e
show_explained view capture bytes nth heard (fault.Transmission f) extracts none said = absurd (none f said)
show_explained view capture bytes nth heard (fault.NoSuchRows rows batches) extracts none said =
    (heard, record { bytes = bytes; extracts = extracts; holds = said })
show_explained view capture bytes nth heard _ extracts none said = absurd said

-- ---- the text of its rows

names_of_captures : codes "address,kind,message,state" ++ 10 ∷ [] ≡ row_text default_writer (header ++ codes "state" ∷ [])
unfolding fields_text is_blank
names_of_captures = refl

captured_listed : (capture : List ℕ) (k : CaptureOptions) (found : List Reception) (rows : List Row) (heard : List ReceptionStats)
    → IfSome k.only (λ a. address_fault a ≡ None) → AreReceptions (capture_bits capture) found
    → AreRowsOf (capture_bits capture) k.only 1 found rows heard
    → IsCaptureListed k heard capture (names_in k.form (codes "address,kind,message,state" ++ 10 ∷ []) ++ flat_map (row_in k.form) rows)
captured_listed capture k found rows heard address are t = record {
  address = address;
  transmissions = t.transmissions;
  captured = record { found = subst (AreReceptions (capture_bits capture)) (sym t.of) are; each = t.each; numbers = t.numbers };
  printed = t.told;
  listed = ap₂ (λ (names : List ℕ) (all : List Row). names_in k.form names ++ flat_map (row_in k.form) all) names_of_captures t.are;
}

pub captured_streamed : {O : Type 0} (Out : Writer O) (capture : List ℕ) (k : CaptureOptions) (found items : List Reception) (heard : List ReceptionStats)
    (before after : List Row → List ReceptionStats → Type 0) (out out' : O) (result : Result ℕ ReceiverFault)
    → length capture ≤ input_limit → IfSome k.only (λ a. address_fault a ≡ None) → AreReceptions (capture_bits capture) items → found ≡ items
    → ((rows : List Row) (told : List ReceptionStats) → before rows told → AreRowsOf (capture_bits capture) k.only 1 found rows told)
    → ListsRows Out out out' (names_in k.form (codes "address,kind,message,state" ++ 10 ∷ [])) (row_in k.form) before after result
    → (rows : List Row) → after rows heard → IsStreamOf (over_bytes (lists_capture k heard) Out capture) Out out out' result
captured_streamed Out capture k found items heard before after out out' result few address are same all lists left ends =
    let f = lists left heard ends in
    let rows = f.0 in
    let of = subst (λ (rs : List Reception). AreRowsOf (capture_bits capture) k.only 1 rs rows heard) same (all rows heard f.1) in
    written Out out out' result (IsCaptureListed k heard) (ExplainsCaptured k.only) capture
    (names_in k.form (codes "address,kind,message,state" ++ 10 ∷ []) ++ flat_map (row_in k.form) rows)
    (captured_listed capture k items rows heard address are of) few f.2

-- ---- a capture that was listed

module _ {T O E : Type 0} (Tx : Reader T) {Out : Writer O} {Err' : Writer E} {tx tx' : T} {status : ℕ} {out out' : O}
    {err err' : ErrorStream ReceiverFault E} (k : CaptureOptions) (heard : List ReceptionStats)
    (ran : Ran (over_reader (lists_capture k heard) Tx Out tx tx') Out Err' status out out' err err') where
  pub captured_whole : Tx.is_known → Out.is_known → IfNone (printed_by err') (ListsWhole (Tx.held tx) k (Out.taken out) (Out.taken out'))
  captured_whole known on =
      printed_so _ _ ran on on (λ s text prints taken.
      let h = prints.1 in
      let t = h.holds in
      let bits = capture_bits h.bytes in
      let said : ListsWhole h.bytes k (Out.taken out) (Out.taken out') = record {
        transmissions = t.transmissions;
        found = t.captured.found;
        in_step = All-weaker (IsCapturedTransmission bits) (λ (c : CapturedTransmission). AreInStep bits c.heard.reception c.heard.steady)
            (λ c is. is.told.steady) t.transmissions t.captured.each;
        whole = All-weaker (IsCapturedTransmission bits)
            (λ (c : CapturedTransmission). UncutStandWhole (unsynced 0 (received bits c.heard.reception)) (16 * c.heard.steady) c.pages c.cuts)
            (λ c is. uncut_pages_stand (received bits c.heard.reception) (16 * c.heard.steady) c.pages c.cuts is.pages is.cuts) t.transmissions
            t.captured.each;
        listed = taken ∙ ap (λ (l : List ℕ). Out.taken out ++ l) t.listed;
      } in
      subst (λ (l : List ℕ). ListsWhole l k (Out.taken out) (Out.taken out')) (h.held known) said)

  pub captured_sent : Tx.is_known → Out.is_known → (pages : List Page) → HoldsSent (capture_bits (Tx.held tx)) pages
      → IfNone (printed_by err') (ListsAmong k pages (Out.taken out) (Out.taken out'))
  captured_sent known on pages sent =
      printed_so _ _ ran on on (λ s text prints taken.
      let h = prints.1 in
      let t = h.holds in
      let holds = subst (λ (l : List ℕ). HoldsSent (capture_bits l) pages) (sym (h.held known)) sent in record {
        transmissions = t.transmissions;
        among = shows_what_was_sent h.bytes (map (λ (c : CapturedTransmission). c.heard.reception) t.transmissions) pages (pages_captured t.transmissions) holds
            (transmissions_are_captured_lem h.bytes t.transmissions t.captured);
        listed = taken ∙ ap (λ (l : List ℕ). Out.taken out ++ l) t.listed;
      })
