use Rattle.pocsag_journal.proofs.Prelude.{◌≡◌, ap, length, sym, ◌∙◌, arith}
use Rattle.std.proofs.Common.{None}
use Rattle.pocsag_journal.proofs.Fields.{plan_fields}
use Rattle.pocsag_journal.proofs.edits.line_of.Goals.{in-1, in-2, in-3, in-4, in-5, in_default}
use Rattle.pocsag_journal.proofs.edits.line_of.Goals as goal

pub returns-in-None-clause-asks : goal.returns-in-None-clause-asks
returns-in-None-clause-asks c = elim c.match-len.branch [
  | in-1 w ↦ let e : w.bare_line-asked.result ≡ None = sym w.asked-is ∙ c.in-None.is in rw e at w.bare_line-asked.ensures.asks
  | in-2 w ↦ let e : w.pair_line-asked.result ≡ None = sym w.asked-is ∙ c.in-None.is in rw e at w.pair_line-asked.ensures.asks
  | in-3 w ↦ let e : w.plan_line-asked.result ≡ None = sym w.asked-is ∙ c.in-None.is in rw e at w.plan_line-asked.ensures.asks
  | in-4 w ↦ let e : w.long_line-asked.result ≡ None = sym w.asked-is ∙ c.in-None.is in rw e at w.long_line-asked.ensures.asks
  | in-5 w ↦ let e : w.front_line-asked.result ≡ None = sym w.asked-is ∙ c.in-None.is in rw e at w.front_line-asked.ensures.asks
  | in_default w ↦
      let n = c.len.ensures in
      record {
        list = λ e. let one = ap length e in absurd (omega (arith, one));
        heading = λ e. let two = ap length e in absurd (omega (arith, two));
        plan = λ end most tx cert asks t u. let its = plan_fields end most tx cert _ asks in absurd (omega (arith, its.some, its.few));
      }
]
