use Rattle.pocsag_decode.proofs.Prelude.{◌+◌, ◌^◌, ◌<◌, length, All, ap, arith, All-from_get_or, on_ok_weaker, IfErr-weaker, after_preamble, too_much, HoldsOf}
use Rattle.pocsag_decode.proofs.Pieces.{fed_preamble, fed_body, refused_short, refused_body, full_size, body_size}
use Rattle.pocsag_decode.proofs.Words.{is_nil, not_nil}
use Rattle.pocsag_decode.proofs.state.Decoder.take.Goals as goal

pub returns-then-piece-self-clause-refused : goal.returns-then-piece-self-clause-refused
returns-then-piece-self-clause-refused c =
    λ X s. too_much (let f = full_size _ X s in let e = c.size.ensures in let t = c.if-piece-self.true in omega arith)

pub returns-then-is_empty-clause-stands : goal.returns-then-is_empty-clause-stands
returns-then-is_empty-clause-stands c = λ X s.
    let k = c.skip_preamble-rest.ensures.skipped X s.preamble (body_size _ X s) in
    let few : length X + length c.args.piece.now < 2 ^ 64 =
    let f = full_size _ X s in let e = c.size.ensures in let t = c.if-piece-self.false in omega arith in
    let bytes : All (λ b. b < 256) c.args.piece.now =
    All-from_get_or (λ b. b < 256) c.args.piece.now 0 (λ i h. omega (arith, (c.type_inv.piece i).fits)) in
    let rest = is_nil _ (c.if-is_empty.ensures) in
    let none = ap length rest in
    fed_preamble _ X s c.skip_preamble-rest.new.self c.args.piece.now _ few k.1 k.0 c.skip_preamble-rest.ensures.works bytes
    (let l = c.skip_preamble-rest.ensures.counted in omega arith) c.skip_preamble-rest.ensures.body rest

pub returns-then-self-lt-PREAMBLE-clause-refused :
    goal.returns-then-self-lt-PREAMBLE-clause-refused
returns-then-self-lt-PREAMBLE-clause-refused c = λ X s.
    let k = c.skip_preamble-rest.ensures.skipped X s.preamble (body_size _ X s) in
    let few : length X + length c.args.piece.now < 2 ^ 64 =
    let f = full_size _ X s in let e = c.size.ensures in let t = c.if-piece-self.false in omega arith in
    refused_short
    _ X s c.skip_preamble-rest.new.self c.args.piece.now c.skip_preamble-rest.result.now few k.1 k.0 c.if-self-lt-PREAMBLE.true
    (not_nil _ c.if-is_empty.ensures)

pub returns-clause-stands : goal.returns-clause-stands
returns-clause-stands c = λ X s.
    let k = c.skip_preamble-rest.ensures.skipped X s.preamble (body_size _ X s) in
    let few : length X + length c.args.piece.now < 2 ^ 64 =
    let f = full_size _ X s in let e = c.size.ensures in let t = c.if-piece-self.false in omega arith in
    let bytes : All (λ b. b < 256) c.args.piece.now =
    All-from_get_or (λ b. b < 256) c.args.piece.now 0 (λ i h. omega (arith, (c.type_inv.piece i).fits)) in
    let body : HoldsOf c.skip_preamble-rest.new.self.body (after_preamble X) = rw c.skip_preamble-rest.ensures.body s.words in
    on_ok_weaker _
    (λ t. fed_body _ X s _ c.args.piece.now c.skip_preamble-rest.result.now few k.1 k.0 c.skip_preamble-rest.ensures.works bytes
    c.if-self-lt-PREAMBLE.false t)
    (c.take.ensures.stands (after_preamble X) body)

pub returns-clause-refused : goal.returns-clause-refused
returns-clause-refused c = λ X s.
    let k = c.skip_preamble-rest.ensures.skipped X s.preamble (body_size _ X s) in
    let few : length X + length c.args.piece.now < 2 ^ 64 =
    let f = full_size _ X s in let e = c.size.ensures in let t = c.if-piece-self.false in omega arith in
    let body : HoldsOf c.skip_preamble-rest.new.self.body (after_preamble X) = rw c.skip_preamble-rest.ensures.body s.words in
    IfErr-weaker _ _ _
    (λ f b. refused_body _ X s c.skip_preamble-rest.new.self c.args.piece.now c.skip_preamble-rest.result.now few k.1 k.0 f
    c.if-self-lt-PREAMBLE.false b)
    (c.take.ensures.bad (after_preamble X) body)
