use Rattle.pocsag_text.proofs.Prelude.{◌<◌, length, slice_index, arith, get_or_default, character_of, numeric_characters}
use Rattle.std.proofs.lemmas.List.Edits.{map_over_more}
use Rattle.pocsag_text.proofs.unpack.characters_of.Goals as goal

pub loop-code-preserved : goal.loop-code-preserved
unfolding numeric_characters
loop-code-preserved c =
    let codes = c.args.codes.items in
    let now = c.loop-code.code-items in
    let i = c.loop-code.code-index in
    let here : i < length now = omega arith in
    map_over_more character_of codes now i (slice_index now i) (omega arith) c.loop-code.invariant
    (get_or_default now i 0 (slice_index now i) here)
