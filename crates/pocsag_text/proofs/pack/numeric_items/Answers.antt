use Rattle.pocsag_text.proofs.Prelude.{◌∙◌, [], take, map, get_or, ap, lit<, lit≤, flat_map, flat_map_more, map_more, take_all, low_first, code_or_space, twenties}
use Rattle.pocsag_text.proofs.Codes.{code_or_space-lt}
use Rattle.pocsag_text.proofs.Payloads.{filled_numeric, whole_numeric}
use Rattle.pocsag_text.proofs.pack.numeric_items.Goals as goal

pub push-requires : goal.push-requires
push-requires c = record {
  wide = lit< tt;
  narrow = lit≤ tt;
  fits = rw (c.unwrap_or.ensures, c.code_of.ensures) (code_or_space-lt _);
}

pub loop-byte-preserved : goal.loop-byte-preserved
loop-byte-preserved c =
    let text = c.args.text.now in
    let i = c.loop-byte.byte-index in
    c.in_ok-push.ensures
    ∙ rw (c.loop-byte.invariant, c.unwrap_or.ensures, c.code_of.ensures, map_more code_or_space text i 0 c.loop-byte-test.true)
    (flat_map_more (low_first 4) [] (map code_or_space (take i text)) (code_or_space (get_or text i 0)))

pub into_items-requires : goal.into_items-requires
into_items-requires c =
    let text = c.args.text.now in
    let all =
    c.loop-byte.invariant
    ∙ ap (λ bytes. flat_map (low_first 4) (map code_or_space bytes)) (take_all c.loop-byte.byte-index text c.loop-byte-test.false) in
    rw (filled_numeric text _ _ all c.in_ok-push_times.ensures) (whole_numeric text)

pub returns-clause-items : goal.returns-clause-items
returns-clause-items c =
    let text = c.args.text.now in
    let all =
    c.loop-byte.invariant
    ∙ ap (λ bytes. flat_map (low_first 4) (map code_or_space bytes)) (take_all c.loop-byte.byte-index text c.loop-byte-test.false) in
    c.into_items.ensures.items ∙ ap twenties (filled_numeric text _ _ all c.in_ok-push_times.ensures)
