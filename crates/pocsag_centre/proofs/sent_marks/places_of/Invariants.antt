use Rattle.pocsag_centre.specs.SentMarks.{HoldPlaces}
use Rattle.pocsag_centre.proofs.sent_marks.places_of.Given as goal

abbrev pub invariant-loop-place : goal.invariant-loop-place
invariant-loop-place l = HoldPlaces l.round l.place l.places.items
