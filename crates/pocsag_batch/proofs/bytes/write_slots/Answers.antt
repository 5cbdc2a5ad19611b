use Rattle.pocsag_batch.proofs.Prelude.{List, refl, YieldsList, kind_of, Kind, YieldsList-from_first, YieldsFirstBy, same_from_kind_lem}
use Rattle.pocsag_batch.proofs.UnderWay.{all_came, called_part, part_came, sends_part}
use Rattle.pocsag_batch.proofs.bytes.write_slots.Goals as goal

-- what the iterator has left is what it gives
gives : (said : List Kind) → YieldsList (YieldsFirstBy kind_of (λ (left : List Kind). left)) kind_of said said
gives said = YieldsList-from_first kind_of (λ (left : List Kind). left) said refl

pub returns-in-Ok-clause-whole : goal.returns-in-Ok-clause-whole
returns-in-Ok-clause-whole g c t =
    let done = c.in-Ok.ensures.whole t in
    record { words = done.0; say = record { codewords = done.2; kinds = all_came done.0 (gives c.args.slots) done.1 }; taken = done.3 }

pub returns-in-Err-clause-part : goal.returns-in-Err-clause-part
returns-in-Err-clause-part g c t =
    let done = c.in-Err.ensures.part t in
    let part = part_came done.0 done.1 (gives c.args.slots) done.2 in
    sends_part same_from_kind_lem c.args.slots (g.S.Sink.taken c.args.sink.now) (g.S.Sink.taken c.write_words.new.sink) done.0 part.0
    c.recall_sayable.ensures done.3 part.1 done.4

pub returns-in-Ok-clause-calls : goal.returns-in-Ok-clause-calls
returns-in-Ok-clause-calls g c =
    let done = c.in-Ok.ensures.calls in
    let part = part_came done.0 done.1 (gives c.args.slots) done.2 in
    called_part same_from_kind_lem c.args.slots (g.S.Sink.calls c.args.sink.now) (g.S.Sink.calls c.write_words.new.sink) done.0 part.0
    c.recall_sayable.ensures done.3 part.1 done.4

pub returns-in-Err-clause-calls : goal.returns-in-Err-clause-calls
returns-in-Err-clause-calls g c =
    let done = c.in-Err.ensures.calls in
    let part = part_came done.0 done.1 (gives c.args.slots) done.2 in
    called_part same_from_kind_lem c.args.slots (g.S.Sink.calls c.args.sink.now) (g.S.Sink.calls c.write_words.new.sink) done.0 part.0
    c.recall_sayable.ensures done.3 part.1 done.4
