use Rattle.pocsag_receiver.proofs.Prelude.{◌≡◌, All, Err, ap, inr, refl, subst, sym, err_from_is_err_and, fault_of_list, IsListable, listing, listed_in}
use Rattle.pocsag_decode.specs.PageReaders.{pages_left}
use Rattle.pocsag_receiver.specs.Listings.{ExplainsDecoding, IsDecoded}
use Rattle.pocsag_receiver.specs.declared.form.ListForm.TheVariants as forms
use Rattle.pocsag_receiver.proofs.Received.{passed_on}
use Rattle.pocsag_receiver.proofs.Works.{unlisted, written}
use Rattle.pocsag_receiver.proofs.decode.list_decoded_in.Goals as goal

pub returns-in_err-list_sent : goal.returns-in_err-list_sent
returns-in_err-list_sent g c =
    let read = passed_on _ _ _ _ _ c.map_err.ensures.cases c.map_err.ensures.variant c.in_ok-map_err.was c.judge_bytes.ensures.ok in
    let p = err_from_is_err_and c.from_residual-in_err-list_sent.result c.from_residual-in_err-list_sent.ensures.1 in
    let done = c.in_err-list_sent.ensures in
    let plain : c.args.form ≡ forms.Listing = cc in
    let put = unlisted g.O.Sink c.args.out.now c.list_sent.new.sink (listing read.0) c.in_err-list_sent.field-0.0 (λ is. done.failures.1 (ap Err is))
    (λ known. done.part known read.0 read.1) (λ is. inr (λ known. done.stopped known (ap Err is) read.0 read.1)) in
    record {
      streams = rw (p.1, p.2) (written g.O.Sink _ _ (Err (fault_of_list c.in_err-list_sent.field-0.0)) (IsDecoded c.args.form) ExplainsDecoding c.args.bytes.now (listing read.0)
          (record { pages = read.0; reads = read.1; listed = rw plain refl }) read put);
    }

pub returns-in-Listing : goal.returns-in-Listing
returns-in-Listing g c =
    let read = passed_on _ _ _ _ _ c.map_err.ensures.cases c.map_err.ensures.variant c.in_ok-map_err.was c.judge_bytes.ensures.ok in
    let plain : c.args.form ≡ forms.Listing = cc in
    record {
      streams = (
        λ _. (
          listing read.0,
          (refl, record { pages = read.0; reads = read.1; listed = rw plain refl }),
          λ known. c.in_ok-list_sent.ensures.whole known read.0 read.1,
        ),
        tt,
      );
    }

pub list_from-requires : goal.list_from-requires
list_from-requires g c =
    let read = passed_on _ _ _ _ _ c.map_err.ensures.cases c.map_err.ensures.variant c.in_ok-map_err.was c.judge_bytes.ensures.ok in
    subst (All IsListable) (sym (c.new.ensures.left read.0 read.1)) (c.new.ensures.listable read.0 read.1)

pub returns : goal.returns
returns g c =
    let read = passed_on _ _ _ _ _ c.map_err.ensures.cases c.map_err.ensures.variant c.in_ok-map_err.was c.judge_bytes.ensures.ok in
    record {
      streams = written g.O.Sink _ _ c.list_from.result (IsDecoded c.args.form) ExplainsDecoding c.args.bytes.now (listed_in c.args.form (pages_left c.new.result))
          (record { pages = read.0; reads = read.1; listed = ap (listed_in c.args.form) (c.new.ensures.left read.0 read.1) }) read c.list_from.ensures.streams;
    }
