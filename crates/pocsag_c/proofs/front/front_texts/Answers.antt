use Rattle.pocsag_c.proofs.Prelude.{◌∙◌, ap, refl, sym, verdict}
use Rattle.pocsag_plan.proofs.Due.{first_headline, first_plan}
use Rattle.pocsag_c.proofs.Fronts.{left_counted, left_listable, left_read}
use Rattle.pocsag_c.proofs.front.front_texts.Goals as goal

pub texts_of-requires-clause-rest : goal.texts_of-requires-clause-rest
texts_of-requires-clause-rest c =
    let f = c.in-Ok-longest_front.front in
    let planned = c.in-Ok-longest_front.ensures in
    left_listable c.args.search c.in-Ok.round f.round f.rest.items f.bounded planned.parts planned.plan c.recall_rules.ensures

pub returns-in-Ok-texts_of-clause-headline : goal.returns-in-Ok-texts_of-clause-headline
returns-in-Ok-texts_of-clause-headline c =
    let f = c.in-Ok-longest_front.front in
    let planned = c.in-Ok-longest_front.ensures in
    let R = c.in-Ok.round in
    rw c.in-Ok-texts_of.ensures.bounded
    (record {
      round = R;
      read = ap verdict (sym c.new.ensures.rest) ∙ c.in-Ok.ensures.ok tt;
      holds = first_headline c.args.search R R f.round f.rest.items c.args.batches f.bounded refl planned.parts planned.plan _ _
          c.in-Ok-texts_of.ensures.headline;
    })

pub returns-in-Ok-texts_of-clause-plan : goal.returns-in-Ok-texts_of-clause-plan
returns-in-Ok-texts_of-clause-plan c =
    let f = c.in-Ok-longest_front.front in
    let planned = c.in-Ok-longest_front.ensures in
    let R = c.in-Ok.round in
    rw c.in-Ok-texts_of.ensures.bounded
    (record {
      round = R;
      read = ap verdict (sym c.new.ensures.rest) ∙ c.in-Ok.ensures.ok tt;
      holds = first_plan c.args.search R R f.round f.rest.items c.args.batches f.bounded refl planned.parts planned.plan;
    })

pub returns-in-Ok-texts_of-clause-rest : goal.returns-in-Ok-texts_of-clause-rest
returns-in-Ok-texts_of-clause-rest c =
    let f = c.in-Ok-longest_front.front in
    let planned = c.in-Ok-longest_front.ensures in
    let R = c.in-Ok.round in
    let read = ap verdict (sym c.new.ensures.rest) ∙ c.in-Ok.ensures.ok tt in
    rw c.in-Ok-texts_of.ensures.bounded
    (record {
      round = R;
      read = read;
      holds = left_read c.args.search R f.round f.rest.items f.bounded planned.parts planned.plan c.recall_rules.ensures
          (c.recall_pages_of_files_are_spellable.ensures.files c.args.pages.now R read) c.recall_page_files_are_read_back.ensures.pages
          _ c.in-Ok-texts_of.ensures.rest;
    })

pub returns-in-Ok-texts_of-clause-left : goal.returns-in-Ok-texts_of-clause-left
returns-in-Ok-texts_of-clause-left c =
    let f = c.in-Ok-longest_front.front in
    let planned = c.in-Ok-longest_front.ensures in
    let R = c.in-Ok.round in
    rw c.in-Ok-texts_of.ensures.bounded
    (record {
      round = R;
      read = ap verdict (sym c.new.ensures.rest) ∙ c.in-Ok.ensures.ok tt;
      holds = left_counted c.args.search R f.round f.rest.items f.bounded planned.parts planned.plan _ c.in-Ok-texts_of.ensures.left;
    })

pub returns-in-Ok-texts_of-clause-why : goal.returns-in-Ok-texts_of-clause-why
returns-in-Ok-texts_of-clause-why c =
    let f = c.in-Ok-longest_front.front in
    let planned = c.in-Ok-longest_front.ensures in
    rw (c.in-Ok-texts_of.ensures.bounded, planned.plan.plan_of.pages)
    (record {
      why = f.why;
      shows = record {
        round = c.in-Ok.round;
        read = ap verdict (sym c.new.ensures.rest) ∙ c.in-Ok.ensures.ok tt;
        holds = planned.why;
      };
      written = c.in-Ok-texts_of.ensures.why;
    })
