use Rattle.std.proofs.lemmas.Result.{IfOk-weaker, on_ok_weaker}
use Rattle.std.proofs.Common.{inl, inr}
use Rattle.lnbd_copy.proofs.CauseLemmas.{goes_then}
use Rattle.lnbd_copy.proofs.TurnLemmas.{told_map}
use Rattle.lnbd_copyfile.proofs.LinkClauses.{told_then, within_then}
use Rattle.lnbd_copyfile.proofs.PassedRunLemmas.{passed_by}
use Rattle.lnbd_copyfile.proofs.to_file.copy.Goals as goal
use Rattle.lnbd_copyfile.specs.Sharing.{Is_settled, Not_settled}
use Rattle.lnbd_copyfile.proofs.ToFilePauseLemmas.{unready_full}

pub returns-clause-within : goal.returns-clause-within
returns-clause-within g c = within_then _ _ _ _ _ _ _ _ _ _ _ _ c.in_ok-terms.ensures.connects c.fill_file.ensures.uses

pub returns-clause-connects : goal.returns-clause-connects
returns-clause-connects g c =
    on_ok_weaker c.fill_file.result (λ parted. told_then _ _ _ _ _ _ _ _ _ _ _ _ _ c.in_ok-terms.ensures.connects c.fill_file.ensures.uses) c.fill_file.ensures.parted

pub returns-in_err-terms-clause-full : goal.returns-in_err-terms-clause-full
returns-in_err-terms-clause-full g c = unready_full c.args.options c.args.from.now _ _ c.connect.ensures.unready

pub returns-clause-full : goal.returns-clause-full
returns-clause-full g c = c.fill_file.ensures.full c.args.options c.args.from.now _ c.in_ok-terms.ensures.begins c.in_ok-terms.ensures.ready

pub returns-clause-counts : goal.returns-clause-counts
returns-clause-counts g c = goes_then _ _ _ _ _ _ _ _ _ c.connect.ensures.counts c.fill_file.ensures.counts

pub returns-in_err-terms-clause-shares : goal.returns-in_err-terms-clause-shares
returns-in_err-terms-clause-shares g c = Not_settled c.connect.ensures.few

pub returns-clause-shares : goal.returns-clause-shares
returns-clause-shares g c =
    Is_settled _ c.in_ok-terms.terms c.connect.ensures.few c.in_ok-terms.ensures.settles (c.fill_file.ensures.shares c.args.from.now _ c.in_ok-terms.ensures.begins c.in_ok-terms.ensures.opens)

pub returns-clause-passes : goal.returns-clause-passes
returns-clause-passes g c =
    let from = c.args.from.now in
    IfOk-weaker c.fill_file.result _ _ (λ summary passes. passed_by c.args.options from _ _ _ _ c.in_ok-terms.terms summary.skipped
    (c.fill_file.ensures.shares from _ c.in_ok-terms.ensures.begins c.in_ok-terms.ensures.opens) c.in_ok-terms.ensures.settles (passes from _ c.in_ok-terms.ensures.begins)) c.fill_file.ensures.passes

pub returns-clause-asks : goal.returns-clause-asks
returns-clause-asks g c = c.fill_file.ensures.asks c.args.from.now _ c.in_ok-terms.ensures.begins (told_map _ _ (λ calls is. is.once) c.connect.ensures.asks)

pub returns-in_err-terms-clause-asks : goal.returns-in_err-terms-clause-asks
returns-in_err-terms-clause-asks g c = told_map _ _ (λ calls is. is.once) c.connect.ensures.asks

pub returns-in_err-terms-clause-spared : goal.returns-in_err-terms-clause-spared
returns-in_err-terms-clause-spared g c = told_map _ _ (λ calls is. inl is.none) c.connect.ensures.asks

pub returns-clause-spared : goal.returns-clause-spared
returns-clause-spared g c =
    told_map _ _ (λ calls is. inr is) (c.fill_file.ensures.spares c.args.from.now _ c.in_ok-terms.ensures.begins c.in_ok-terms.ensures.blocks c.connect.ensures.asks)

pub returns-clause-spares : goal.returns-clause-spares
returns-clause-spares g c =
    on_ok_weaker c.fill_file.result (λ parted. c.fill_file.ensures.spares c.args.from.now _ c.in_ok-terms.ensures.begins c.in_ok-terms.ensures.blocks c.connect.ensures.asks) c.fill_file.ensures.parted

pub returns-clause-heard : goal.returns-clause-heard
returns-clause-heard g c = c.fill_file.ensures.heard c.args.options.extents c.args.from.now _ c.in_ok-terms.ensures.begins c.in_ok-terms.ensures.led c.connect.ensures.heard
