use Rattle.pocsag_centre.proofs.Prelude.{ℕ, ◌-◌, ◌/◌, ◌∙◌, ap, inl, inr, length, refl, subst, sym, List, Page}
use Rattle.pocsag_centre.specs.Verification.{AreAmong}
use Rattle.pocsag_centre.proofs.Endings.{batches_are}
use Rattle.pocsag_centre.proofs.Verified.{transmission}
use Rattle.pocsag_centre.proofs.readback.read_back.Goals as goal

pub returns-in-Err-clause-explained : goal.returns-in-Err-clause-explained
returns-in-Err-clause-explained c = inr c.in-Err.ensures.err

pub returns-in-Err-are_sent-clause-explained : goal.returns-in-Err-are_sent-clause-explained
returns-in-Err-are_sent-clause-explained c =
    let read = c.in-Ok.ensures.ok in
    inl (refl, record { pages = read.0; reads = read.1; some = c.in-Err-are_sent.ensures.memory read.0 read.1 })

pub returns-then-not-is_sent-clause-explained : goal.returns-then-not-is_sent-clause-explained
returns-then-not-is_sent-clause-explained c =
    let read = c.in-Ok.ensures.ok in
    record {
      pages = read.0;
      reads = read.1;
      others = λ among.
          let yes = (c.in-Ok-are_sent.ensures.among read.0 read.1).1
          (subst (λ (pages : List Page). AreAmong read.0 pages) (sym c.pages.ensures.pages) among) in
          cc;
    }

pub returns-then-not-ends_as-clause-explained : goal.returns-then-not-ends_as-clause-explained
returns-then-not-ends_as-clause-explained c =
    let read = c.in-Ok.ensures.ok in
    record {
      pages = read.0;
      reads = read.1;
      ends = λ ends. let yes = (c.ends_as.ensures read.1.codewords read.1.sent).1 ends in cc;
    }

pub returns-clause-taken : goal.returns-clause-taken
returns-clause-taken c =
    let read = c.in-Ok.ensures.ok in
    let among =
    subst (λ (pages : List Page). AreAmong read.0 pages) c.pages.ensures.pages
    ((c.in-Ok-are_sent.ensures.among read.0 read.1).0 c.if-not-is_sent.false) in
    let bytes = c.args.bytes.now in
    transmission c.args.end c.args.round.now bytes read.0 read.1 among
    ((c.ends_as.ensures read.1.codewords read.1.sent).0 c.if-not-ends_as.false) _
    (ap (λ (n : ℕ). n / 68) (c.saturating_sub.ensures ∙ ap (λ (n : ℕ). length bytes - n) c.preamble_len.ensures.value)
    ∙ batches_are bytes read.1.codewords read.1.sent)
