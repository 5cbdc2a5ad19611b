use Rattle.pocsag_receiver.proofs.Prelude.{◌≡◌, All, Err, Ok, ap, inl, inr, refl, subst, sym, err_from_is_err_and, fault_of_list, IsListable, listing, listed_in, hears}
use Rattle.std.specs.Vec.Iter.{into_iter_items}
use Rattle.pocsag_receiver.specs.Listings.{ExplainsHearing, IsHeard}
use Rattle.pocsag_receiver.specs.declared.fault.ReceiverFault.TheVariants as fault
use Rattle.pocsag_receiver.specs.declared.form.ListForm.TheVariants as forms
use Rattle.pocsag_receiver.proofs.Received.{why_unheard}
use Rattle.pocsag_receiver.proofs.Works.{over_read, unlisted, written}
use Rattle.pocsag_receiver.proofs.hear.list_heard.Goals as goal

pub returns-in_err-pages : goal.returns-in_err-pages
returns-in_err-pages g c =
    let p = err_from_is_err_and c.from_residual-in_err-pages.result c.from_residual-in_err-pages.ensures.1 in
    let why = why_unheard _ _ c.in_err-pages.field-0.0 c.in_err-pages.ensures.err c.in_err-pages.ensures.memory in
    let read = c.in_ok-read.ensures in
    record {
      streams = rw (p.1, p.2) (over_read g.O.Sink _ _ (Err (fault.Pager c.in_err-pages.field-0.0)) (hears c.args.hearing) g.T.Source c.args.tx.now c.read_transmission.new.tx _ _
          c.as_slice-bytes.ensures.value read.whole read.uncut read.fits (λ _. tt, inl (why, refl)));
    }

pub returns-in_err-list_owned : goal.returns-in_err-list_owned
returns-in_err-list_owned g c =
    let p = err_from_is_err_and c.from_residual-in_err-list_owned.result c.from_residual-in_err-list_owned.ensures.1 in
    let read = c.in_ok-read.ensures in
    let heard = c.in_ok-pages.ensures in
    let pages = c.in_ok-pages.pages.items in
    let done = c.in_err-list_owned.ensures in
    let plain : c.args.hearing.form ≡ forms.Listing = cc in
    record {
      streams = rw (p.1, p.2) (over_read g.O.Sink _ _ (Err (fault_of_list c.in_err-list_owned.field-0.0)) (hears c.args.hearing) g.T.Source c.args.tx.now c.read_transmission.new.tx _ _
          c.as_slice-bytes.ensures.value read.whole read.uncut read.fits
          (written g.O.Sink _ _ (Err (fault_of_list c.in_err-list_owned.field-0.0)) (IsHeard c.args.hearing) (ExplainsHearing c.args.hearing.address) _ (listing pages)
          (record { taken = heard.ok; pages = pages; shown = heard.shown; listed = rw plain refl }) heard.ok
          (unlisted g.O.Sink _ _ (listing pages) c.in_err-list_owned.field-0.0 (λ is. done.failures.1 (ap Err is)) done.part
          (λ is. inr (λ known. done.stopped known (ap Err is))))));
    }

pub returns-in-Listing : goal.returns-in-Listing
returns-in-Listing g c =
    let read = c.in_ok-read.ensures in
    let heard = c.in_ok-pages.ensures in
    let pages = c.in_ok-pages.pages.items in
    let plain : c.args.hearing.form ≡ forms.Listing = cc in
    record {
      streams = over_read g.O.Sink _ _ (Ok 0) (hears c.args.hearing) g.T.Source c.args.tx.now c.read_transmission.new.tx _ _
          c.as_slice-bytes.ensures.value read.whole read.uncut read.fits (
            λ _. (
              listing pages,
              (refl, record { taken = heard.ok; pages = pages; shown = heard.shown; listed = rw plain refl }),
              λ known. c.in_ok-list_owned.ensures.whole known,
            ),
            tt,
          );
    }

pub list_from-requires : goal.list_from-requires
list_from-requires g c = subst (All IsListable) (sym c.into_iter.ensures.rest) c.in_ok-pages.ensures.listable

pub returns : goal.returns
returns g c =
    let read = c.in_ok-read.ensures in
    let heard = c.in_ok-pages.ensures in
    let form = c.args.hearing.form in
    record {
      streams = over_read g.O.Sink _ _ c.list_from.result (hears c.args.hearing) g.T.Source c.args.tx.now c.read_transmission.new.tx _ _
          c.as_slice-bytes.ensures.value read.whole read.uncut read.fits
          (written g.O.Sink _ _ c.list_from.result (IsHeard c.args.hearing) (ExplainsHearing c.args.hearing.address) _ (listed_in form (into_iter_items c.into_iter.result))
          (record { taken = heard.ok; pages = c.in_ok-pages.pages.items; shown = heard.shown; listed = ap (listed_in form) c.into_iter.ensures.rest })
          heard.ok c.list_from.ensures.streams);
    }
