use Rattle.pocsag_c.proofs.Prelude.{◌≡◌, ◌≤◌, List, arith, drop, inl, length, refl, subst, Page}
use Rattle.std.proofs.Math.ListN.{length-drop}
use Rattle.pocsag_c.proofs.Fronts.{front_is, told}
use Rattle.pocsag_c.proofs.front.pocsag_plan_at_most.Goals as goal

pub returns-in-Ok-clause-no_worse : goal.returns-in-Ok-clause-no_worse
returns-in-Ok-clause-no_worse c = λ _.
    let planned = c.in-Ok.ensures.plan in
    record {
      search = c.in-Some.search;
      asked = c.in-Some.ensures.asked;
      holds = (
        c.in-Ok.front.first.bounded,
        refl,
        refl,
        record {
          round = planned.round;
          read = planned.read;
          holds = planned.holds.no_worse;
        },
      );
    }

pub returns-in-Ok-clause-why : goal.returns-in-Ok-clause-why
returns-in-Ok-clause-why c = λ done. record {
  text = c.in-Ok.front.why.items;
  is = record { search = c.in-Some.search; asked = c.in-Some.ensures.asked; holds = c.in-Ok.ensures.why };
  put = c.hand_out_front.ensures.why done;
}

pub returns-in-Ok-clause-fault : goal.returns-in-Ok-clause-fault
returns-in-Ok-clause-fault c = λ other. absurd (front_is c.hand_out_front.result c.hand_out_front.ensures.status (inl other))

pub returns-in-Ok-clause-nothing : goal.returns-in-Ok-clause-nothing
returns-in-Ok-clause-nothing c = λ other. absurd (front_is c.hand_out_front.result c.hand_out_front.ensures.status other)

pub returns-in-Ok-clause-front : goal.returns-in-Ok-clause-front
returns-in-Ok-clause-front c = λ _. record {
  search = c.in-Some.search;
  asked = c.in-Some.ensures.asked;
  holds = c.in-Ok.ensures.front;
}

pub returns-in-Ok-clause-counted : goal.returns-in-Ok-clause-counted
returns-in-Ok-clause-counted c = λ _.
    let planned = c.in-Ok.ensures.plan in
    let left = c.in-Ok.ensures.left in
    let front = c.in-Ok.ensures.front in
    let count = c.in-Ok.front.first.bounded.plan.pages in
    let same_left : left.round ≡ planned.round = cc (left.read, planned.read) in
    let same_front : front.round ≡ planned.round = cc (front.read, planned.read) in
    let behind : c.in-Ok.front.left ≡ length (drop count planned.round) =
    subst (λ (round : List Page). c.in-Ok.front.left ≡ length (drop count round)) same_left left.holds in
    let among : count ≤ length planned.round = subst (λ (round : List Page). count ≤ length round) same_front front.holds.among in
    record {
      round = planned.round;
      read = planned.read;
      holds = (
        omega (arith, length-drop count planned.round, behind, among),
        (planned.holds.plan_of.codewords, planned.holds.plan_of.in_order),
      );
    }

pub returns-in-Ok-clause-why_length : goal.returns-in-Ok-clause-why_length
returns-in-Ok-clause-why_length c = λ _. record {
  text = c.in-Ok.front.why.items;
  is = record { search = c.in-Some.search; asked = c.in-Some.ensures.asked; holds = c.in-Ok.ensures.why };
  length_told = c.hand_out_front.ensures.why_length;
}

pub returns-in-Err-clause-fault : goal.returns-in-Err-clause-fault
returns-in-Err-clause-fault c = λ _.
    told _ _ c.in-Err.fault c.refused_front.result _ _
    (record { search = c.in-Some.search; asked = c.in-Some.ensures.asked; holds = c.in-Err.ensures.explained })
    c.refused_front.ensures.value c.put.ensures.status c.put.ensures.place
