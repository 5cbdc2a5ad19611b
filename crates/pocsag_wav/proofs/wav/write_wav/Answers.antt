use Rattle.pocsag_wav.proofs.Prelude.{◌≡◌, ◌++◌, ℕ, List, [], length, sym, ap, ◌∙◌, append_assoc, length-append, arith, append-nil, flat_map, took_on, sample_bytes, wav_header, samples_of}
use Rattle.pocsag_wav.proofs.Sounds.{is_wav}
use Rattle.pocsag_wav.proofs.wav.write_wav.Goals as goal

pub returns-in_err-write_all-clause-part : goal.returns-in_err-write_all-clause-part
returns-in_err-write_all-clause-part g c = λ is_known is.
    let before = g.O.Sink.taken c.args.out.now in
    let n = c.in_ok-count.count in
    let sound = flat_map sample_bytes (samples_of c.args.keying c.new-keyed.result n) in
    let front = wav_header c.args.keying.samples n in
    let headed : c.as_flattened.result.now ≡ front = c.as_flattened.ensures.value ∙ c.header.ensures in
    record {
      reads = c.in_ok-judge_bytes.ensures.ok;
      file = front ++ sound;
      wav = is_wav c.args.keying c.args.bytes.now c.new-keyed.result c.tail_bits.result _ n c.new-keyed.ensures c.tail_bits.ensures
          (omega (arith, c.bits.ensures, c.from.ensures)) c.in_ok-count.ensures.count c.in_ok-count.ensures.fits;
      part = took_on before before (g.O.Sink.taken c.write_all.new.sink) c.as_flattened.result.now sound (front ++ sound) (omega arith)
          (ap (λ (l : List ℕ). before ++ (l ++ sound)) (sym headed)) (c.in_err-write_all.ensures.delivers is_known).1;
    }

pub returns-in_err-put_samples-clause-part : goal.returns-in_err-put_samples-clause-part
returns-in_err-put_samples-clause-part g c = λ is_known is.
    let before = g.O.Sink.taken c.args.out.now in
    let middle = g.O.Sink.taken c.write_all.new.sink in
    let n = c.in_ok-count.count in
    let sound = flat_map sample_bytes (samples_of c.args.keying c.new-keyed.result n) in
    let front = wav_header c.args.keying.samples n in
    let headed : c.as_flattened.result.now ≡ front = c.as_flattened.ensures.value ∙ c.header.ensures in
    let first : middle ≡ before ++ front = (c.in_ok-write_all.ensures.delivers is_known).0 ∙ ap (λ (l : List ℕ). before ++ l) headed in
    record {
      reads = c.in_ok-judge_bytes.ensures.ok;
      file = front ++ sound;
      wav = is_wav c.args.keying c.args.bytes.now c.new-keyed.result c.tail_bits.result _ n c.new-keyed.ensures c.tail_bits.ensures
          (omega (arith, c.bits.ensures, c.from.ensures)) c.in_ok-count.ensures.count c.in_ok-count.ensures.fits;
      part = took_on before middle (g.O.Sink.taken c.put_samples.new.out) sound [] (front ++ sound)
          (omega (arith, ap length first, length-append before front))
          (sym (append_assoc before front sound)
          ∙ (ap (λ (l : List ℕ). l ++ sound) (sym first) ∙ ap (λ (l : List ℕ). middle ++ l) (sym (append-nil sound))))
          (c.in_err-put_samples.ensures.delivers is_known).1;
    }

pub returns-clause-sounded : goal.returns-clause-sounded
returns-clause-sounded g c = λ is_known.
    let before = g.O.Sink.taken c.args.out.now in
    let n = c.in_ok-count.count in
    let sound = flat_map sample_bytes (samples_of c.args.keying c.new-keyed.result n) in
    let front = wav_header c.args.keying.samples n in
    let headed : c.as_flattened.result.now ≡ front = c.as_flattened.ensures.value ∙ c.header.ensures in
    record {
      reads = c.in_ok-judge_bytes.ensures.ok;
      file = front ++ sound;
      wav = is_wav c.args.keying c.args.bytes.now c.new-keyed.result c.tail_bits.result _ n c.new-keyed.ensures c.tail_bits.ensures
          (omega (arith, c.bits.ensures, c.from.ensures)) c.in_ok-count.ensures.count c.in_ok-count.ensures.fits;
      written = (c.in_ok-put_samples.ensures.delivers is_known).0
          ∙ (ap (λ (l : List ℕ). l ++ sound) ((c.in_ok-write_all.ensures.delivers is_known).0 ∙ ap (λ (l : List ℕ). before ++ l) headed)
          ∙ append_assoc before front sound);
    }
