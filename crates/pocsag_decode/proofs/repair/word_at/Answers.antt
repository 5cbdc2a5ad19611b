use Rattle.pocsag_decode.proofs.Prelude.{◌≡◌, ◌<◌, take, drop, All, arith, from_be_bytes, w32, length-drop, length-take, All-drop, All-from_get_or, All-take, be_bytes_4}
use Rattle.std.proofs.lemmas.Grind.{common_steps}
use Rattle.pocsag_decode.proofs.Words.{each_small}
use Rattle.pocsag_decode.proofs.repair.word_at.Goals as goal

pub returns : goal.returns
returns c =
    let bytes = c.args.bytes.now in
    let four = take 4 (drop c.args.at bytes) in
    let all : All (λ b. b < 256) bytes = All-from_get_or (λ b. b < 256) bytes 0 (λ i h. omega (arith, (c.type_inv.bytes i).fits)) in
    let is : c.from_be_bytes.result ≡ from_be_bytes w32 four = grind (arith, common_steps) in
    be_bytes_4 four c.from_be_bytes.result
    (let t = length-take 4 (drop c.args.at bytes) in let d = length-drop c.args.at bytes in let room = c.requires in omega arith)
    (each_small four (All-take (λ b. b < 256) 4 (drop c.args.at bytes) (All-drop (λ b. b < 256) c.args.at bytes all))) is
