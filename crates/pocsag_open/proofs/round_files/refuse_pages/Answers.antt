use Rattle.std.proofs.lemmas.Result.{err_from_is_err_and}
use Rattle.pocsag_open.proofs.round_files.refuse_pages.Goals as goal

pub returns-in_err-refuse_quotes-clause-explained : goal.returns-in_err-refuse_quotes-clause-explained
returns-in_err-refuse_quotes-clause-explained c =
    let p = err_from_is_err_and c.from_residual.result c.from_residual.ensures.1 in
    rw (p.1, p.2) (c.in_err-refuse_quotes.ensures.explained c.args.args.expect)
