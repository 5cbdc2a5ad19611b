use Rattle.pocsag_text.proofs.Prelude.{◌≡◌, ◌+◌, ◌-◌, ◌*◌, ◌^◌, ◌%◌, ◌/◌, ◌<◌, ◌++◌, [], ◌∷◌, ap, ◌∙◌, arith, high_first, low_first, packed_bits}
use Rattle.pocsag_text.proofs.Packs.{held_with, held_with-lt, lowest, packed_bits-more, packed_bits-push, IsPacked-more, IsPacked-push}
use Rattle.pocsag_text.proofs.packer.Packer.push.Goals as goal

pub invariant_of-self : goal.invariant_of-self
invariant_of-self c =
    let p = c.self.inside in
    let lt : c.from.result < 2 ^ c.args.width = omega arith in
    let held = held_with p.count p.held c.args.width c.from.result (omega arith) c.self.invariant.fits lt in
    rw held (IsPacked-more p.items.items p.count p.held c.args.width c.from.result c.self.invariant lt c.if-count-lt-ITEM_WIDTH.true)

pub returns-then-count-lt-ITEM_WIDTH : goal.returns-then-count-lt-ITEM_WIDTH
returns-then-count-lt-ITEM_WIDTH c =
    let p = c.self.inside in
    let lt : c.from.result < 2 ^ c.args.width = omega arith in
    let held = held_with p.count p.held c.args.width c.from.result (omega arith) c.self.invariant.fits lt in
    let bits : high_first c.args.width c.from.result ≡ low_first c.args.width c.args.code =
    ap (high_first c.args.width) c.from.ensures ∙ c.mirrored.ensures.packed in
    rw (held, ← c.self.view_is, ← bits) (packed_bits-more p.items.items p.count p.held c.args.width c.from.result lt)

pub invariant_of-self-2 : goal.invariant_of-self-2
invariant_of-self-2 c =
    let p = c.self.inside in
    let rest = p.count + c.args.width - 20 in
    let h = p.held * 2 ^ c.args.width + c.from.result in
    let lt : c.from.result < 2 ^ c.args.width = omega arith in
    let held = held_with p.count p.held c.args.width c.from.result (omega arith) c.self.invariant.fits lt in
    let few : rest < 20 = omega arith in
    let whole : p.count + c.args.width ≡ 20 + rest = omega arith in
    let below : h < 2 ^ (20 + rest) = rw whole at (held_with-lt p.count p.held c.args.width c.from.result c.self.invariant.fits lt) in
    rw (c.in_ok-push.ensures.items, held, lowest h rest few) (IsPacked-push p.items.items rest h c.self.invariant.small below few)

pub returns : goal.returns
returns c =
    let p = c.self.inside in
    let rest = p.count + c.args.width - 20 in
    let h = p.held * 2 ^ c.args.width + c.from.result in
    let lt : c.from.result < 2 ^ c.args.width = omega arith in
    let held = held_with p.count p.held c.args.width c.from.result (omega arith) c.self.invariant.fits lt in
    let bits : high_first c.args.width c.from.result ≡ low_first c.args.width c.args.code =
    ap (high_first c.args.width) c.from.ensures ∙ c.mirrored.ensures.packed in
    let few : rest < 20 = omega arith in
    let whole : 20 + rest ≡ p.count + c.args.width = omega arith in
    let pushed : packed_bits (p.items.items ++ h / 2 ^ rest ∷ []) rest (h % 2 ^ rest)
    ≡ packed_bits p.items.items (p.count + c.args.width) h =
    packed_bits-push p.items.items rest h ∙ ap (λ n. packed_bits p.items.items n h) whole in
    rw (c.in_ok-push.ensures.items, held, lowest h rest few, pushed, ← c.self.view_is, ← bits)
    (packed_bits-more p.items.items p.count p.held c.args.width c.from.result lt)
