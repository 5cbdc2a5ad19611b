use Rattle.pocsag_text.proofs.Prelude.{◌++◌, get_or, take, sym, ap, ◌∙◌, arith, append-nil, flat_map_more, take_all, take_more, high_first, item_bits, codes_of}
use Rattle.pocsag_text.proofs.unpack.codes_of.Goals as goal

pub loop-item-init : goal.loop-item-init
loop-item-init g c = sym (append-nil c.from_codes-unpacker.result)

pub loop-item-preserved : goal.loop-item-preserved
loop-item-preserved g c =
    let items = c.args.items.now in
    let i = c.loop-item.item-index in
    c.in_ok-unpacker.ensures
    ∙ ap (λ bits. bits ++ high_first 20 (get_or items i 0)) c.loop-item.invariant
    ∙ flat_map_more (high_first 20) c.from_codes-unpacker.result (take i items) (get_or items i 0)
    ∙ ap (λ items. c.from_codes-unpacker.result ++ item_bits items) (sym (take_more items i 0 c.loop-item-test.true))

pub returns-clause-codes : goal.returns-clause-codes
returns-clause-codes g c =
    let items = c.args.items.now in
    c.into_codes.ensures.codes
    ∙ ap (codes_of g.row.W)
    (c.loop-item.invariant
    ∙ ap (λ items. c.from_codes-unpacker.result ++ item_bits items) (take_all c.loop-item.item-index items (omega arith))
    ∙ ap (λ bits. bits ++ item_bits items) c.from_codes-unpacker.ensures)
