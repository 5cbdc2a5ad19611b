use Rattle.pocsag_receiver.proofs.Prelude.{◌≡◌, ◌≢◌, ℕ, List, Err, ap, inl, inr, refl, err_from_is_err_and, HasFailed, over_bytes, IsStreamOf, Explains, ShowsLess, ShowsPart, view_text, View, fault_of_show, HasRows, views}
use Rattle.pocsag_words.specs.declared.device.Sink.{Ghosts as Writer}
use Rattle.pocsag_show.specs.declared.fault.ShowFault.{ShowFault}
use Rattle.pocsag_show.specs.declared.fault.ShowFault.TheVariants as showing
use Rattle.pocsag_receiver.proofs.show.show_bytes.Goals as goal

unshown : {O : Type 0} (Out : Writer O) (out out' : O) (view : View) (bytes : List ℕ) (e : ShowFault) → HasRows view bytes → Explains bytes e
    → (e ≢ showing.WriteFault → e ≢ showing.OutOfMemory → out' ≡ out) → (e ≡ showing.WriteFault → HasFailed (Out.failures out) (Out.failures out'))
    → (Out.is_known → e ≡ showing.WriteFault → ShowsPart (view_text view) bytes (Out.taken out) (Out.taken out'))
    → (Out.is_known → e ≡ showing.OutOfMemory → ShowsLess (view_text view) bytes (Out.taken out) (Out.taken out'))
    → IsStreamOf (over_bytes (views view) Out bytes) Out out out' (Err (fault_of_show e))
unshown Out out out' view bytes (showing.Transmission f) rows why same failed part less =
    (λ _. tt, inl (why, same (λ e. cc (e)) (λ e. cc (e))))
unshown Out out out' view bytes showing.OutOfMemory rows why same failed part less = (
  λ _. tt,
  inr (inr (
    refl,
    λ known.
        let p = less known refl in (0, p.shown, (refl, record { shown = p.is_text; rows = rows }), λ _. (p.taken, p.less)),
  )),
)
unshown Out out out' view bytes showing.WriteFault rows why same failed part less = (
  λ _. tt,
  inr (inl (
    refl,
    failed refl,
    λ known.
        let p = part known refl in (0, p.shown, (refl, record { shown = p.is_text; rows = rows }), λ _. p.taken),
  )),
)

pub returns-in_err-show : goal.returns-in_err-show
returns-in_err-show g c =
    let p = err_from_is_err_and c.from_residual-in_err-show.result c.from_residual-in_err-show.ensures.1 in
    let done = c.in_err-show.ensures in
    record {
      streams = rw (p.1, p.2) (unshown g.O.Sink _ _ c.args.view c.args.bytes.now c.in_err-show.field-0.0 c.in_ok-refuse_rows.ensures.rows done.fault
          done.untouched (λ is. done.failures.1 (ap Err is)) (λ known is. done.part known (ap Err is))
          (λ known is. done.stopped known (ap Err is)));
    }

pub returns : goal.returns
returns g c = record {
  streams = (
    λ known.
        let p = c.in_ok-show.ensures.shown known in
        (p.shown, (refl, record { shown = p.is_text; rows = c.in_ok-refuse_rows.ensures.rows }), λ _. p.taken),
    tt,
  );
}
