use Rattle.std.proofs.Common.{◌≡◌, ◌≢◌, List, ℕ, Err, ap, inl, inr, refl}
use Rattle.std.proofs.lemmas.Result.{err_from_is_err_and}
use Rattle.pocsag_words.specs.Devices.{HasFailed}
use Rattle.pocsag_words.specs.declared.device.Sink.{Ghosts as Writer}
use Rattle.pocsag_shell.specs.Readers.{over_bytes}
use Rattle.pocsag_shell.specs.Runs.{IsStreamOf}
use Rattle.pocsag_sound.specs.Faults.{fault_of_wav}
use Rattle.pocsag_sound.specs.Works.{sounds}
use Rattle.pocsag_wav.specs.Sounds.{ExplainsWav, SoundedPart}
use Rattle.pocsag_wav.specs.declared.fault.NoSound.{NoSound}
use Rattle.pocsag_wav.specs.declared.fault.NoSound.TheVariants as sound
use Rattle.pocsag_wav.specs.declared.keying.Keying.{Keying}
use Rattle.pocsag_sound.proofs.wav.put_sound.Goals as goal

unsounded : {O : Type 0} (Out : Writer O) (out out' : O) (keying : Keying) (bytes : List ℕ) (e : NoSound) → ExplainsWav keying bytes e
    → (e ≢ sound.WriteFault → out' ≡ out) → (e ≡ sound.WriteFault → HasFailed (Out.failures out) (Out.failures out'))
    → (Out.is_known → e ≡ sound.WriteFault → SoundedPart keying bytes (Out.taken out) (Out.taken out'))
    → IsStreamOf (over_bytes (sounds keying) Out bytes) Out out out' (Err (fault_of_wav e))
unsounded Out out out' keying bytes (sound.Transmission f) why same failed part = (λ _. tt, inl (why, same (λ e. cc (e))))
unsounded Out out out' keying bytes sound.TooLong why same failed part = (λ _. tt, inl (why, same (λ e. cc (e))))
unsounded Out out out' keying bytes sound.WriteFault why same failed part = (
  λ _. tt,
  inr (inl (
    refl,
    failed refl,
    λ known.
        let p = part known refl in (0, p.file, (refl, record { reads = p.reads; wav = p.wav }), λ _. p.part),
  )),
)
unsounded Out out out' keying bytes sound.BadRate why same failed part = absurd why
unsounded Out out out' keying bytes sound.BadSamples why same failed part = absurd why
unsounded Out out out' keying bytes sound.BadPreamble why same failed part = absurd why

pub returns-in_err-write_wav : goal.returns-in_err-write_wav
returns-in_err-write_wav g c =
    let p = err_from_is_err_and c.from_residual.result c.from_residual.ensures.1 in
    let done = c.in_err-write_wav.ensures in
    record {
      streams = rw (p.1, p.2) (unsounded g.O.Sink _ _ c.args.keying c.args.bytes.now c.in_err-write_wav.field-0.0 done.explained done.untouched
          (λ is. done.write_failed (ap Err is)) (λ known is. done.part known (ap Err is)));
    }

pub returns : goal.returns
returns g c = record {
  streams = (
    λ known.
        let p = c.in_ok-write_wav.ensures.sounded known in
        (p.file, (refl, record { reads = p.reads; wav = p.wav }), λ _. p.written),
    tt,
  );
}
