use Rattle.pocsag_shell.proofs.Readers.{ran_read, ran_unread}
use Rattle.pocsag_sound.specs.Works.{sounds}
use Rattle.pocsag_sound.proofs.wav.run_wav.Goals as goal

pub returns-in-Err : goal.returns-in-Err
returns-in-Err g c = record {
  ran = ran_unread (sounds c.args.keying) g.T.Source c.in-Err.fault c.in-Err.ensures.explained c.end.ensures.fault;
}

pub returns : goal.returns
returns g c = record {
  ran = ran_read (sounds c.args.keying) g.T.Source c.put_sound.result c.as_slice.ensures.value c.in-Ok.ensures.whole c.in-Ok.ensures.uncut c.in-Ok.ensures.fits
      c.put_sound.ensures.streams c.end-2.ensures.done c.end-2.ensures.fault;
}
