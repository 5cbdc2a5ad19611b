use Rattle.pocsag_pages.proofs.Prelude.{◌≡◌, ℕ, List, ◌∷◌, ◌++◌, ◌+◌, ◌<◌, take, drop, length, get_or, false, not, refl, sym, ap, ◌∙◌, subst, arith, drop_more, take-append-drop, take_all, HasSeen, HasQuoteFault, IsWellQuoted}
use Rattle.std.proofs.Common.{is_some}
use Rattle.pocsag_pages.proofs.NoQuotes.{no_quote_found}
use Rattle.pocsag_pages.proofs.QuoteFaults.{open_is_not}
use Rattle.pocsag_pages.proofs.QuoteWalks.{left_open, nothing_seen, well_quoted}
use Rattle.pocsag_pages.proofs.quotes.quote_fault.Goals as goal

split_at : (bytes : List ℕ) (i : ℕ) → i < length bytes → take i bytes ++ get_or bytes i 0 ∷ drop (i + 1) bytes ≡ bytes
split_at bytes i low = ap (λ (l : List ℕ). take i bytes ++ l) (sym (drop_more bytes i 0 low)) ∙ take-append-drop i bytes

pub returns-then-is_none : goal.returns-then-is_none
returns-then-is_none c =
    let text = c.behind_mark-text.result.now in
    let not_found : is_some c.memchr.result ≡ false = c.is_none.ensures ∙ ap not c.if-is_none.true in
    let well = subst IsWellQuoted c.behind_mark-text.ensures (no_quote_found text c.memchr.result not_found c.memchr.ensures) in
    record { none = (λ e. well, λ w. refl); fault = tt }

pub loop-byte-init : goal.loop-byte-init
loop-byte-init c = record { seen = nothing_seen; few_records = omega arith; few_lines = omega arith }

pub returns-in-Err : goal.returns-in-Err
returns-in-Err c =
    let rest = drop (c.loop-byte.byte-index + 1) c.behind_mark-text.result.now in
    let whole = split_at c.behind_mark-text.result.now c.loop-byte.byte-index c.loop-byte-test.true ∙ c.behind_mark-text.ensures in
    let lost = subst (λ (l : List ℕ). IsWellQuoted l → ⊥) whole (c.in-Err.ensures.lost _ rest c.loop-byte.invariant.seen) in
    record {
      none = (λ e. cc e, λ w. absurd (lost w));
      fault = subst (λ (l : List ℕ). HasQuoteFault l c.in-Err.fault) whole (c.in-Err.ensures.fault _ rest c.loop-byte.invariant.seen);
    }

pub returns-in-Open : goal.returns-in-Open
returns-in-Open c =
    let all = take_all c.loop-byte.byte-index c.behind_mark-text.result.now (omega arith) in
    let seen = subst (HasSeen c.loop-byte.place) (all ∙ c.behind_mark-text.ensures) c.loop-byte.invariant.seen in
    record {
      none = (λ e. cc e, λ w. absurd (open_is_not c.loop-byte.place _ seen c.in-Open.is w));
      fault = left_open c.loop-byte.place _ seen c.in-Open.is;
    }

pub returns-in_default : goal.returns-in_default
returns-in_default c =
    let all = take_all c.loop-byte.byte-index c.behind_mark-text.result.now (omega arith) in
    let seen = subst (HasSeen c.loop-byte.place) (all ∙ c.behind_mark-text.ensures) c.loop-byte.invariant.seen in
    record { none = (λ e. well_quoted c.loop-byte.place _ seen c.in_default.not-Open, λ w. refl); fault = tt }
