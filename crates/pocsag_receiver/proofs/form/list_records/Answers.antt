use Rattle.pocsag_receiver.proofs.Prelude.{◌≡◌, rules, inl, refl, append-nil, err_from_is_err_and}
use Rattle.pocsag_decode.specs.Lines.{text_in}
use Rattle.pocsag_receiver.proofs.form.list_records.Goals as goal

pub returns-in_err-extend_from_slice-clause-lists : goal.returns-in_err-extend_from_slice-clause-lists
returns-in_err-extend_from_slice-clause-lists g c =
    let p = err_from_is_err_and c.from_residual.result c.from_residual.ensures.1 in
    rw (p.1, p.2) (λ rs told l. (rs, l, (λ _. tt, inl (refl, refl))))

pub returns-clause-lists : goal.returns-clause-lists
returns-clause-lists g c =
    let begun : text_in c.from_writer-records.result ≡ c.args.names.now = search (rules, append-nil) in
    rw begun at c.list_behind.ensures.lists
