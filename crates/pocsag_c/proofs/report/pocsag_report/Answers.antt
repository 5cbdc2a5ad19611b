use Rattle.pocsag_c.proofs.Prelude.{refl}
use Rattle.pocsag_c.proofs.Fronts.{told}
use Rattle.pocsag_c.proofs.report.pocsag_report.Goals as goal

pub returns-in-Err-clause-fault : goal.returns-in-Err-clause-fault
returns-in-Err-clause-fault c = λ _ _ _.
    told _ _ c.in-Err.fault c.refused_stream.result _ _
    (record { search = c.in-Some.search; asked = c.in-Some.ensures.asked; holds = c.in-Err.ensures.explained })
    c.refused_stream.ensures.value c.put.ensures.status c.put.ensures.place

pub returns-in_default-report-clause-bad_rate : goal.returns-in_default-report-clause-bad_rate
returns-in_default-report-clause-bad_rate c = λ _. record {
  search = c.in-Some.search;
  asked = c.in-Some.ensures.asked;
  holds = (
    record {
      bounded = c.in-Ok.found.bounded;
      plan_of = record { round = c.in-Ok.found.round; read = c.in-Ok.ensures.read; holds = c.in-Ok.ensures.plan };
    },
    c.in_default-report.ensures.bad.0 refl,
  );
}

pub returns-clause-told : goal.returns-clause-told
returns-clause-told c = λ _. record {
  search = c.in-Some.search;
  asked = c.in-Some.ensures.asked;
  answered = record { report = c.in-Ok-report.report; bound = c.in-Ok.found.bounded.bound };
  is = record {
    bounded = c.in-Ok.found.bounded;
    plan_of = record { round = c.in-Ok.found.round; read = c.in-Ok.ensures.read; holds = c.in-Ok.ensures.plan };
    same_bound = refl;
    report_of = c.in-Ok-report.ensures.report;
  };
  bound = refl;
  pages = refl;
  codewords = refl;
  in_order = refl;
  batches = refl;
  idles = refl;
  bits = refl;
  airtime = refl;
}
