use Rattle.std.proofs.Common.{None}
use Rattle.std.proofs.lemmas.Result.{IfOk-weaker}
use Rattle.lnbd_connections.proofs.UseLemmas.{uses_none}
use Rattle.lnbd_copyfile.proofs.ToFileRunLemmas.{copying_ready}
use Rattle.lnbd_copyfile.proofs.to_file.fill_file.Goals as goal
use Rattle.lnbd_connections.proofs.FewLemmas.{few_same}
use Rattle.lnbd_copyfile.specs.Sharing.{share}
use Rattle.lnbd_copyfile.proofs.SparingLemmas.{none_spares, spares_whole}

pub store_slices-requires-clause-ready : goal.store_slices-requires-clause-ready
store_slices-requires-clause-ready g c =
    let connected = c.requires.connected in
    copying_ready 0 connected.at connected.start _ c.in_ok-job.job _ _ None None 0 0 (c.in_ok-job.ensures.begins connected.at connected.start _ connected.begins 0 None 0)

pub returns-clause-asks : goal.returns-clause-asks
returns-clause-asks g c at before begins reads = c.store_slices.ensures.asks at before (c.in_ok-job.ensures.begins at before _ begins) reads

pub returns-in_err-job-clause-shares : goal.returns-in_err-job-clause-shares
returns-in_err-job-clause-shares g c at from begins opens = few_same (share c.args.terms) from _

pub returns-clause-shares : goal.returns-clause-shares
returns-clause-shares g c at from begins opens = c.store_slices.ensures.shares from (c.in_ok-job.ensures.shares at from _ begins opens)

pub returns-in_err-job-clause-uses : goal.returns-in_err-job-clause-uses
returns-in_err-job-clause-uses g c = uses_none _ _ _ _ _

pub returns-in_err-job-clause-full : goal.returns-in_err-job-clause-full
returns-in_err-job-clause-full g c options at before begins ready = ready.pauses

pub returns-clause-full : goal.returns-clause-full
returns-clause-full g c options at before begins ready =
    c.store_slices.ensures.full options at before (c.in_ok-job.ensures.begins at before _ begins) c.in_ok-job.ensures.empty ready

pub returns-clause-passes : goal.returns-clause-passes
returns-clause-passes g c =
    IfOk-weaker c.store_slices.result _ _ (λ summary passes at before begins. passes at before (c.in_ok-job.ensures.begins at before _ begins)) c.store_slices.ensures.passes

pub returns-in_err-job-clause-heard : goal.returns-in_err-job-clause-heard
returns-in_err-job-clause-heard g c extents at before begins led heard = heard

pub returns-clause-heard : goal.returns-clause-heard
returns-clause-heard g c extents at before begins led heard =
    c.store_slices.ensures.heard extents at before (c.in_ok-job.ensures.begins at before _ begins) (c.in_ok-job.ensures.hears extents at before _ begins led)

pub store_slices-requires-clause-grain : goal.store_slices-requires-clause-grain
store_slices-requires-clause-grain g c = c.requires.cells.2

pub returns-in_err-job-clause-spares : goal.returns-in_err-job-clause-spares
returns-in_err-job-clause-spares g c at before begins was none = spares_whole at c.args.terms.grain before _ was (none_spares at c.args.terms.grain before _ none)

pub returns-clause-spares : goal.returns-clause-spares
returns-clause-spares g c at before begins was none = c.store_slices.ensures.spares at before (c.in_ok-job.ensures.begins at before _ begins) was none
