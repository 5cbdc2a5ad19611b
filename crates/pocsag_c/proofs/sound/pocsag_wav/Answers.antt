use Rattle.pocsag_c.proofs.Prelude.{◌≡◌, ◌∙◌, ℕ, ◌==◌, List, ◌++◌, None, Option, ap, inr, not, subst}
use Rattle.pocsag_wav.specs.Keys.{IsAsAsked}
use Rattle.pocsag_c.proofs.Fronts.{told}
use Rattle.pocsag_c.proofs.sound.pocsag_wav.Goals as goal

pub returns-clause-sounded : goal.returns-clause-sounded
returns-clause-sounded c = λ done.
    let asked = subst (λ (preamble : Option ℕ). IsAsAsked c.in-Ok.keying c.args.rate c.args.samples preamble None (not (c.args.inverted == 0)))
    c.preamble_asked.ensures c.in-Ok.ensures.asked in
    let sounded = c.in_default.ensures.sounded tt in
    let same : c.as_slice.result.now ≡ sounded.file =
    c.as_slice.ensures.value ∙ c.into_bytes.ensures ∙ sounded.written ∙ ap (λ (l : List ℕ). l ++ sounded.file) c.new-file.ensures.kept in
    record {
      text = c.as_slice.result.now;
      is = record { keying = c.in-Ok.keying; asked = asked; reads = sounded.reads; wav = rw same sounded.wav };
      delivered = c.hand_out.ensures.delivered done;
    }

pub returns-clause-no_room : goal.returns-clause-no_room
returns-clause-no_room c = λ small.
    let asked = subst (λ (preamble : Option ℕ). IsAsAsked c.in-Ok.keying c.args.rate c.args.samples preamble None (not (c.args.inverted == 0)))
    c.preamble_asked.ensures c.in-Ok.ensures.asked in
    let sounded = c.in_default.ensures.sounded tt in
    let same : c.as_slice.result.now ≡ sounded.file =
    c.as_slice.ensures.value ∙ c.into_bytes.ensures ∙ sounded.written ∙ ap (λ (l : List ℕ). l ++ sounded.file) c.new-file.ensures.kept in
    record {
      text = c.as_slice.result.now;
      is = record { keying = c.in-Ok.keying; asked = asked; reads = sounded.reads; wav = rw same sounded.wav };
      too_small = c.hand_out.ensures.too_small small;
    }

pub returns-in-Err-write_wav-clause-fault : goal.returns-in-Err-write_wav-clause-fault
returns-in-Err-write_wav-clause-fault c = λ _ _.
    let asked = subst (λ (preamble : Option ℕ). IsAsAsked c.in-Ok.keying c.args.rate c.args.samples preamble None (not (c.args.inverted == 0)))
    c.preamble_asked.ensures c.in-Ok.ensures.asked in
    told _ _ c.in-Err-write_wav.fault c.refused_wav-in-Err-write_wav.result _ _
    (inr (c.in-Ok.keying, asked, c.in-Err-write_wav.ensures.explained))
    c.refused_wav-in-Err-write_wav.ensures.value c.put.ensures.status c.put.ensures.place
