use Rattle.std.proofs.lemmas.Result.{err_from_is_err_and}
use Rattle.lnbd_records.specs.Requests.{texts_in}
use Rattle.lnbd_options.proofs.TextLemmas.{meta_bad_name, meta_bad_text, meta_good}
use Rattle.lnbd_options.proofs.asked.meta_of.Goals as goal

pub returns-in_err-name : goal.returns-in_err-name
returns-in_err-name c =
    let p = err_from_is_err_and c.from_residual.result c.from_residual.ensures.1 in
    rw (p.1, p.2) (meta_bad_name c.args.name.now (texts_in c.args.count c.args.queries.now) c.in_err-name.field-0.0 c.requires c.in_err-name.ensures)

pub returns-in_err-queries : goal.returns-in_err-queries
returns-in_err-queries c =
    let p = err_from_is_err_and c.from_residual-in_err-queries.result c.from_residual-in_err-queries.ensures.1 in
    rw (p.1, p.2) (meta_bad_text c.args.name.now (texts_in c.args.count c.args.queries.now) c.in_err-queries.field-0.0 c.in_ok-name.ensures.1 c.in_err-queries.ensures)

pub returns : goal.returns
returns c = meta_good c.args.name.now c.in_ok-name.name c.in_ok-queries.queries (texts_in c.args.count c.args.queries.now) c.in_ok-name.ensures.0 c.in_ok-name.ensures.1 c.in_ok-queries.ensures.0 c.in_ok-queries.ensures.1
