use Rattle.pocsag_show.proofs.Prelude.{◌≡◌, ◌+◌, ◌/◌, ◌<◌, [], ◌∷◌, length, get_or, refl, sym, ap, ◌∙◌, arith, from_be_bytes, w32, kind_of, Kind, kinds_left}
use Rattle.pocsag_show.proofs.KindsAhead.{kind_read}
use Rattle.pocsag_show.proofs.kind_reader.KindReader.next.Goals as goal

pub returns-clause-read : goal.returns-clause-read
returns-clause-read c =
    let r = c.args.self.now in
    let j = r.index + r.index / 16 + 1 in
    let within : j < length r.words.now = omega arith in
    let word : from_be_bytes w32 (get_or r.words.now j []) ≡ c.from_be_bytes.result = sym c.from_be_bytes.ensures in
    kind_read r.words.now r.index j refl within
    ∙ ap (λ (k : Kind). k ∷ kinds_left (r.index + 1 + (r.index + 1) / 16 + 1) r.words.now) (ap kind_of word ∙ sym c.kind_of_number.ensures.kind)
