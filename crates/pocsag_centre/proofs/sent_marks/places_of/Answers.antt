use Rattle.pocsag_centre.proofs.Prelude.{◌≡◌, ℕ, length, refl, rules, arith, subst, IsNonDecreasingBy-from_sort_by_key}
use Rattle.pocsag_centre.specs.SentMarks.{HoldPlaces}
use Rattle.pocsag_centre.specs.declared.sent_marks.AddressPlace.{AddressPlace}
use Rattle.pocsag_centre.proofs.SentMarks.{moved_places, no_places, one_more_place}
use Rattle.pocsag_centre.proofs.sent_marks.places_of.Goals as goal

pub loop-place-init : goal.loop-place-init
loop-place-init c = rw c.in_ok-places.ensures.items (no_places c.args.round.now)

pub loop-place-preserved : goal.loop-place-preserved
loop-place-preserved c =
    rw c.in_ok-push.ensures.items
    (one_more_place c.args.round.now c.loop-place.place c.index-round-place.result c.loop-place.places.items _ c.loop-place-test.true
    c.index-round-place.is refl refl c.loop-place.invariant)

pub returns : goal.returns
returns c =
    let round = c.args.round.now in
    let places = c.loop-place.places.items in
    let all : c.loop-place.place ≡ length round = omega arith in
    record {
      hold = moved_places round (length round) places c.sort_unstable_by_key.new.self.items c.sort_unstable_by_key.ensures.permutation
          (subst (λ (n : ℕ). HoldPlaces round n places) all c.loop-place.invariant);
      order = IsNonDecreasingBy-from_sort_by_key (λ (it : AddressPlace). it.address) _ c.sort_unstable_by_key.ensures.sorted
          (λ f a r h. search rules);
    }
