-- The rows of a capture that are left as its receptions are read one after the other.
use Rattle.pocsag_receiver.proofs.Prelude.{◌≡◌, ℕ, ◌+◌, ◌-◌, ◌*◌, ◌^◌, ◌<◌, ◌≤◌, ◌==◌, Bool, true, false, Option, Some, None, List, [], ◌∷◌, ◌++◌, length, drop, get_or, take, refl, sym, ap, ap₂, subst, ◌∙◌, arith, append_assoc, if◌then◌else◌, append-nil, drop_all, drop_more, take_more_set, All-cons, All-nil, Page, capture_bits, CapturedTransmission, IsCapturedTransmission, Reception, ReceptionStats, is_picked, mark_of, marked, picked_rows, AreRowsBehind, AreRowsFrom, AreRowsLeft, AreRowsOf, CanHandOut, most_behind, most_rows, Begun, PageOrigin, Row}
use Rattle.std.proofs.Math.Seq.{take-length}
use Rattle.std.proofs.Math.ListN.{set}
use Rattle.pocsag_capture.specs.PagesLeft.{AreLeft, CanRead, ReadsReception, handed_cuts, handed_pages, most_left}
use Rattle.pocsag_capture.specs.declared.captured_pages.CapturedPage.{CapturedPage}
use Rattle.pocsag_capture.specs.declared.captured_pages.CapturedPages.{CapturedPages}
use Rattle.pocsag_receiver.specs.declared.captured.CaptureRows.{CaptureRows}

either_within : (b : Bool) (m n : ℕ) → (if b then m else n) ≤ m + n
either_within true m n = omega arith
either_within false m n = omega arith

few_left : (walk : CapturedPages) → CanRead walk → most_left walk < 2 ^ 80
few_left walk can = omega (arith, can.end, either_within walk.corrector.is_open 1 0, either_within (walk.reception.words_in_front == 0) 0 1)

few_behind : (source : CaptureRows) (current : Option Begun) → CanHandOut source current → most_behind current < 2 ^ 80
few_behind source None can = omega arith
few_behind source (Some begun) can = few_left begun.pages can.begun.0

-- fewer are left behind a reception
pub fewer_behind : (source next : CaptureRows) → next.place ≡ source.place + 1 → next.found.now ≡ source.found.now → source.place < length source.found.now
    → CanHandOut next next.current → most_rows next < 2 ^ 80 * (length source.found.now - source.place)
fewer_behind source next place found within can = omega (arith, few_behind next next.current can, place, ap length found, within)

pub behind_apart : (source : CaptureRows) {other : Option Begun} {begun : Begun} {rows : List Row} {heard : List ReceptionStats}
    → AreRowsBehind (record source { current = other }) begun rows heard → AreRowsBehind source begun rows heard
behind_apart source f = record {
  pages = f.pages;
  cuts = f.cuts;
  now = f.now;
  left = f.left;
  behind = f.behind;
  later = f.later;
  next = f.next;
  are = f.are;
  told = f.told;
}

pub left_of : {source : CaptureRows} {begun : Begun} {rows : List Row} {heard : List ReceptionStats} → source.current ≡ Some begun
    → AreRowsBehind source begun rows heard → AreRowsLeft source source.current rows heard
left_of {source = source} {rows = rows} {heard = heard} is behind =
    subst (λ (current : Option Begun). AreRowsLeft source current rows heard) (sym is) behind

-- at the first place all are left
pub all_from : (source : CaptureRows) → source.place ≡ 0 → (rows : List Row) (heard : List ReceptionStats) → AreRowsFrom source source.place rows heard
    → AreRowsOf (capture_bits source.capture.now) source.only 1 source.found.now rows heard
all_from source first rows heard from =
    let f = subst (λ (n : ℕ). AreRowsFrom source n rows heard) first from in
    subst (λ (l : List ReceptionStats). AreRowsOf (capture_bits source.capture.now) source.only 1 source.found.now rows l) (sym f.told) f.are

-- behind the last reception nothing is left
pub none_from : (source : CaptureRows) → source.place ≡ length source.found.now → length source.heard.items ≡ length source.found.now
    → (rows : List Row) (heard : List ReceptionStats) → (rows ≡ []) × (heard ≡ source.heard.items) → AreRowsFrom source source.place rows heard
none_from source all room rows heard left = record {
  later = [];
  are = record {
    transmissions = [];
    of = sym (drop_all source.place source.found.now (omega (arith, all)));
    each = All-nil (IsCapturedTransmission (capture_bits source.capture.now));
    numbers = tt;
    told = refl;
    are = left.0;
  };
  told = left.1 ∙ sym (ap (λ (n : ℕ). take n source.heard.items) (all ∙ sym room) ∙ take-length source.heard.items)
      ∙ sym (append-nil (take source.place source.heard.items));
}

-- the reception at the place is begun
pub begun_from : (source : CaptureRows) (begun : Begun) (d r : Reception) → source.place < length source.found.now → get_or source.found.now source.place d ≡ r
    → ReadsReception (capture_bits source.capture.now) r begun.pages
    → begun.mark ≡ mark_of (source.place + 1) r true
    → (rows : List Row) (heard : List ReceptionStats) → AreRowsBehind source begun rows heard → AreRowsFrom source source.place rows heard
begun_from source begun d r within here reads is rows heard f =
    let split = drop_more source.found.now source.place d within ∙ ap (λ (q : Reception). q ∷ drop (source.place + 1) source.found.now) here in
    let read = reads (source.place + 1) f.pages f.cuts f.now f.left in
    let bits = capture_bits source.capture.now in
    let c : CapturedTransmission = record { number = source.place + 1; heard = f.now; pages = f.pages; cuts = f.cuts } in
    record {
      later = f.now ∷ f.later;
      are = record {
        transmissions = c ∷ f.next.transmissions;
        of = ap₂ (λ (q : Reception) (qs : List Reception). q ∷ qs) read.1 f.next.of ∙ sym split;
        each = All-cons (IsCapturedTransmission bits) c f.next.transmissions read.0 f.next.each;
        numbers = (refl, f.next.numbers);
        told = ap (λ (l : List ReceptionStats). f.now ∷ l) f.next.told;
        are = f.are
            ∙ ap₂ (λ (l k : List Row). l ++ k)
            (ap (λ (m : PageOrigin). picked_rows source.only (marked m) f.pages f.cuts) is
            ∙ ap (λ (q : Reception). picked_rows source.only (mark_of (source.place + 1) q) f.pages f.cuts) (sym read.1)) f.next.are;
      };
      told = f.told;
    }

-- the reception that was begun is ended
pub ended : (source : CaptureRows) (begun : Begun) {next : CaptureRows} {h : ReceptionStats} {pages : List Page} {cuts : List Bool} {rows : List Row} {heard : List ReceptionStats}
    → AreRowsFrom next (source.place + 1) rows heard → AreLeft begun.pages pages cuts h → source.place < length source.heard.items
    → next.capture ≡ source.capture → next.only ≡ source.only → next.found.now ≡ source.found.now → next.heard.items ≡ set source.heard.items source.place h
    → AreRowsBehind source begun (picked_rows source.only (marked begun.mark) pages cuts ++ rows) heard
ended source begun {h = h} {pages = pages} {cuts = cuts} {rows = rows} f left within capture only found put =
    record {
      pages = pages;
      cuts = cuts;
      now = h;
      left = left;
      behind = rows;
      later = f.later;
      next = rw (capture, only, found) at f.are;
      are = refl;
      told = f.told ∙ ap (λ (l : List ReceptionStats). take (source.place + 1) l ++ f.later) put
          ∙ ap (λ (l : List ReceptionStats). l ++ f.later) (take_more_set source.heard.items source.place h within)
          ∙ append_assoc (take source.place source.heard.items) (h ∷ []) f.later;
    }

-- a page is handed out, or none
abbrev pub Hands : (before after : CapturedPages) → Option CapturedPage → Type 0
Hands before after page =
    (ps : List Page) (cuts : List Bool) (heard : ReceptionStats) → AreLeft after ps cuts heard
    → AreLeft before (handed_pages page ++ ps) (handed_cuts page ++ cuts) heard

module _ {source : CaptureRows} {after : CapturedPages} {rows : List Row} {heard : List ReceptionStats} (before : Begun)
    (f : AreRowsBehind source (record { mark = before.mark; pages = after }) rows heard) where
  pub none_handed : Hands before.pages after None → AreRowsBehind source before rows heard
  none_handed handed = record {
    pages = f.pages;
    cuts = f.cuts;
    now = f.now;
    left = handed f.pages f.cuts f.now f.left;
    behind = f.behind;
    later = f.later;
    next = f.next;
    are = f.are;
    told = f.told;
  }

  -- the page is asked for, or is not
  pub one_handed : (c : CapturedPage) (picked : Bool) → is_picked source.only c.page.address ≡ picked → Hands before.pages after (Some c)
      → AreRowsBehind source before ((if picked then record { page = c.page; mark = Some (marked before.mark c.is_cut) } ∷ [] else []) ++ rows) heard
  one_handed c picked is handed =
      let row : Bool → List Row = λ b. if b then record { page = c.page; mark = Some (marked before.mark c.is_cut) } ∷ [] else [] in
      record {
        pages = c.page ∷ f.pages;
        cuts = c.is_cut ∷ f.cuts;
        now = f.now;
        left = handed f.pages f.cuts f.now f.left;
        behind = f.behind;
        later = f.later;
        next = f.next;
        are = ap₂ (λ (b : Bool) (l : List Row). row b ++ l) (sym is) f.are
            ∙ sym (append_assoc (row (is_picked source.only c.page.address)) (picked_rows source.only (marked before.mark) f.pages f.cuts) f.behind);
        told = f.told;
      }
