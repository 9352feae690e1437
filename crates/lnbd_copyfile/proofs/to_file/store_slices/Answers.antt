use Rattle.std.proofs.Common.{ap, ◌∙◌}
use Rattle.lnbd_conduct.specs.declared.terms.Terms.{Terms}
use Rattle.lnbd_copy.proofs.GroundLemmas.{handed_on}
use Rattle.lnbd_connections.proofs.UseLemmas.{uses_none}
use Rattle.lnbd_copyfile.proofs.ToFileRunLemmas.{broken_off, is_made, lacking, not_made, stored, unsynced, is_cut, stored_all}
use Rattle.lnbd_copyfile.proofs.to_file.store_slices.Goals as goal
use Rattle.lnbd_connections.proofs.FewLemmas.{few_same}
use Rattle.lnbd_copyfile.specs.Sharing.{share}
use Rattle.lnbd_copyfile.proofs.PassedRunLemmas.{passed}
use Rattle.lnbd_copyfile.proofs.ToFilePauseLemmas.{full_stored}
use Rattle.lnbd_copyfile.proofs.SparingLemmas.{none_spares, spares_whole}
use Rattle.lnbd_copyfile.proofs.TakenLemmas.{more_spares}
use Rattle.lnbd_copyfile.proofs.HearingLemmas.{heard_reads}

pub returns-in_err-file-clause-stopped : goal.returns-in_err-file-clause-stopped
returns-in_err-file-clause-stopped g c =
    handed_on _ c.from_residual.result _ c.from_residual.ensures.1 (not_made c.args.to.now c.args.terms.size c.args.terms.flush _ _ c.in_err-file.ensures.unmade)

pub returns-in_err-take_turns-clause-stopped : goal.returns-in_err-take_turns-clause-stopped
returns-in_err-take_turns-clause-stopped g c =
    handed_on _ c.from_residual-in_err-take_turns.result _ c.from_residual-in_err-take_turns.ensures.1
    (broken_off c.args.to.now c.in_ok-file.file c.args.terms.size c.args.terms.flush _ _ _ _ c.in_ok-file.ensures.made c.in_err-take_turns.ensures.breaks)

pub returns-in_err-check_well-clause-stopped : goal.returns-in_err-check_well-clause-stopped
returns-in_err-check_well-clause-stopped g c =
    handed_on _ c.from_residual-in_err-check_well.result _ c.from_residual-in_err-check_well.ensures.1
    (lacking c.args.to.now c.in_ok-file.file c.args.terms.size c.args.terms.flush _ _ _ c.in_ok-file.ensures.made c.in_ok-take_turns.ensures.writes)

pub returns-in_err-check_counts-clause-stopped : goal.returns-in_err-check_counts-clause-stopped
returns-in_err-check_counts-clause-stopped g c =
    handed_on _ c.from_residual-in_err-check_counts.result _ c.from_residual-in_err-check_counts.ensures.1
    (lacking c.args.to.now c.in_ok-file.file c.args.terms.size c.args.terms.flush _ _ _ c.in_ok-file.ensures.made c.in_ok-take_turns.ensures.writes)

pub returns-in_err-finish-clause-stopped : goal.returns-in_err-finish-clause-stopped
returns-in_err-finish-clause-stopped g c =
    handed_on _ c.from_residual-in_err-finish.result _ c.from_residual-in_err-finish.ensures.1
    (unsynced c.args.to.now c.in_ok-file.file c.args.terms.size c.args.terms.flush _ _ _ _ c.in_ok-file.ensures.made c.in_ok-take_turns.ensures.writes c.in_err-finish.ensures.unclosed)

pub returns-clause-stores : goal.returns-clause-stores
returns-clause-stores g c =
    stored c.args.to.now c.in_ok-file.file c.args.terms.size c.args.terms.flush _ _ _ _ c.in_ok-file.ensures.made c.in_ok-take_turns.ensures.writes c.in_ok-finish.ensures.closed

pub returns-clause-makes : goal.returns-clause-makes
returns-clause-makes g c at before set =
    is_made c.args.to.now c.in_ok-file.file c.args.terms.size at before _ c.take_turns.new.job _ _ _ _ _ _ _ _ _ _ _ c.in_ok-file.ensures.blank c.make.ensures.taken c.in_ok-finish.ensures.kept
    c.finish.ensures.taken (c.in_ok-take_turns.ensures.on.on at before _ _ (set c.in_ok-file.file _ _)) (ap (λ (t : Terms). t.size) (c.take_turns.ensures.terms ∙ c.requires.terms)) c.requires.size
    c.in_ok-take_turns.ensures.parting c.in_ok-take_turns.ensures.parted c.in_ok-check_well.ensures c.summary_of.ensures

pub returns-in_err-take_turns-clause-asks : goal.returns-in_err-take_turns-clause-asks
returns-in_err-take_turns-clause-asks g c at before set reads = c.take_turns.ensures.asks.on at before _ _ (set c.in_ok-file.file _ _) reads

pub returns-in_err-check_well-clause-asks : goal.returns-in_err-check_well-clause-asks
returns-in_err-check_well-clause-asks g c at before set reads = c.take_turns.ensures.asks.on at before _ _ (set c.in_ok-file.file _ _) reads

pub returns-in_err-check_counts-clause-asks : goal.returns-in_err-check_counts-clause-asks
returns-in_err-check_counts-clause-asks g c at before set reads = c.take_turns.ensures.asks.on at before _ _ (set c.in_ok-file.file _ _) reads

pub returns-in_err-finish-clause-asks : goal.returns-in_err-finish-clause-asks
returns-in_err-finish-clause-asks g c at before set reads = c.take_turns.ensures.asks.on at before _ _ (set c.in_ok-file.file _ _) reads

pub returns-clause-asks : goal.returns-clause-asks
returns-clause-asks g c at before set reads = c.take_turns.ensures.asks.on at before _ _ (set c.in_ok-file.file _ _) reads

pub returns-clause-cuts : goal.returns-clause-cuts
returns-clause-cuts g c at before set =
    is_cut c.args.to.now c.in_ok-file.file c.args.terms.size c.args.terms.flush at before _ c.take_turns.new.job _ _ _ _ _ _ _ _ _
    (c.in_ok-take_turns.ensures.on.on at before _ _ (set c.in_ok-file.file _ _)) (ap (λ (t : Terms). t.size) (c.take_turns.ensures.terms ∙ c.requires.terms)) c.requires.size
    c.in_ok-take_turns.ensures.parting c.in_ok-take_turns.ensures.parted c.in_ok-check_well.ensures c.summary_of.ensures
    (stored_all c.args.to.now c.in_ok-file.file c.args.terms.size c.args.terms.flush _ _ _ _ c.in_ok-file.ensures.made c.in_ok-take_turns.ensures.writes c.in_ok-finish.ensures.closed)

pub returns-in_err-file-clause-spares : goal.returns-in_err-file-clause-spares
returns-in_err-file-clause-spares g c at before set was none = spares_whole at c.args.terms.grain before _ was (none_spares at c.args.terms.grain before _ none)

pub returns-in_err-take_turns-clause-spares : goal.returns-in_err-take_turns-clause-spares
returns-in_err-take_turns-clause-spares g c at before set was none =
    more_spares _ _ _ _ _ _ _ _ c.take_turns.ensures.asks at c.args.terms.grain before _ _ (set c.in_ok-file.file _ _) (ap (λ (t : Terms). t.grain) c.requires.terms) c.requires.grain was none

pub returns-in_err-check_well-clause-spares : goal.returns-in_err-check_well-clause-spares
returns-in_err-check_well-clause-spares g c at before set was none =
    more_spares _ _ _ _ _ _ _ _ c.take_turns.ensures.asks at c.args.terms.grain before _ _ (set c.in_ok-file.file _ _) (ap (λ (t : Terms). t.grain) c.requires.terms) c.requires.grain was none

pub returns-in_err-check_counts-clause-spares : goal.returns-in_err-check_counts-clause-spares
returns-in_err-check_counts-clause-spares g c at before set was none =
    more_spares _ _ _ _ _ _ _ _ c.take_turns.ensures.asks at c.args.terms.grain before _ _ (set c.in_ok-file.file _ _) (ap (λ (t : Terms). t.grain) c.requires.terms) c.requires.grain was none

pub returns-in_err-finish-clause-spares : goal.returns-in_err-finish-clause-spares
returns-in_err-finish-clause-spares g c at before set was none =
    more_spares _ _ _ _ _ _ _ _ c.take_turns.ensures.asks at c.args.terms.grain before _ _ (set c.in_ok-file.file _ _) (ap (λ (t : Terms). t.grain) c.requires.terms) c.requires.grain was none

pub returns-clause-spares : goal.returns-clause-spares
returns-clause-spares g c at before set was none =
    more_spares _ _ _ _ _ _ _ _ c.take_turns.ensures.asks at c.args.terms.grain before _ _ (set c.in_ok-file.file _ _) (ap (λ (t : Terms). t.grain) c.requires.terms) c.requires.grain was none

pub returns-clause-passes : goal.returns-clause-passes
returns-clause-passes g c at before set =
    passed c.in_ok-file.file at before _ c.take_turns.new.job _ _ _ c.args.terms _ _ _ _ (c.in_ok-take_turns.ensures.on.on at before _ _ (set c.in_ok-file.file _ _))
    (c.take_turns.ensures.terms ∙ c.requires.terms) c.requires.size c.requires.zeroes c.in_ok-take_turns.ensures.parting c.in_ok-take_turns.ensures.parted c.in_ok-check_well.ensures c.summary_of.ensures

pub returns-in_err-file-clause-shares : goal.returns-in_err-file-clause-shares
returns-in_err-file-clause-shares g c from sharing = few_same (share c.args.terms) from _

pub returns-in_err-take_turns-clause-shares : goal.returns-in_err-take_turns-clause-shares
returns-in_err-take_turns-clause-shares g c from sharing = c.take_turns.ensures.shares c.args.terms from sharing

pub returns-in_err-check_well-clause-shares : goal.returns-in_err-check_well-clause-shares
returns-in_err-check_well-clause-shares g c from sharing = c.take_turns.ensures.shares c.args.terms from sharing

pub returns-in_err-check_counts-clause-shares : goal.returns-in_err-check_counts-clause-shares
returns-in_err-check_counts-clause-shares g c from sharing = c.take_turns.ensures.shares c.args.terms from sharing

pub returns-in_err-finish-clause-shares : goal.returns-in_err-finish-clause-shares
returns-in_err-finish-clause-shares g c from sharing = c.take_turns.ensures.shares c.args.terms from sharing

pub returns-clause-shares : goal.returns-clause-shares
returns-clause-shares g c from sharing = c.take_turns.ensures.shares c.args.terms from sharing

pub returns-in_err-file-clause-uses : goal.returns-in_err-file-clause-uses
returns-in_err-file-clause-uses g c = uses_none _ _ _ _ _

pub returns-in_err-take_turns-clause-full : goal.returns-in_err-take_turns-clause-full
returns-in_err-take_turns-clause-full g c options at before set empty ready = full_stored options at _ before _ _ c.args.job.now c.args.board.now c.args.handles.now c.args.terms _ _ set ready c.requires.terms empty c.take_turns.ensures.full

pub returns-in_err-check_well-clause-full : goal.returns-in_err-check_well-clause-full
returns-in_err-check_well-clause-full g c options at before set empty ready = full_stored options at _ before _ _ c.args.job.now c.args.board.now c.args.handles.now c.args.terms _ _ set ready c.requires.terms empty c.take_turns.ensures.full

pub returns-in_err-check_counts-clause-full : goal.returns-in_err-check_counts-clause-full
returns-in_err-check_counts-clause-full g c options at before set empty ready = full_stored options at _ before _ _ c.args.job.now c.args.board.now c.args.handles.now c.args.terms _ _ set ready c.requires.terms empty c.take_turns.ensures.full

pub returns-in_err-finish-clause-full : goal.returns-in_err-finish-clause-full
returns-in_err-finish-clause-full g c options at before set empty ready = full_stored options at _ before _ _ c.args.job.now c.args.board.now c.args.handles.now c.args.terms _ _ set ready c.requires.terms empty c.take_turns.ensures.full

pub returns-clause-full : goal.returns-clause-full
returns-clause-full g c options at before set empty ready = full_stored options at _ before _ _ c.args.job.now c.args.board.now c.args.handles.now c.args.terms _ _ set ready c.requires.terms empty c.take_turns.ensures.full

pub returns-in_err-file-clause-full : goal.returns-in_err-file-clause-full
returns-in_err-file-clause-full g c options at before set empty ready = ready.pauses

pub returns-in_err-file-clause-heard : goal.returns-in_err-file-clause-heard
returns-in_err-file-clause-heard g c extents at before set heard = heard_reads extents at _ before _ heard

pub returns-in_err-take_turns-clause-heard : goal.returns-in_err-take_turns-clause-heard
returns-in_err-take_turns-clause-heard g c extents at before set heard = c.take_turns.ensures.heard.on extents at before _ _ (set c.in_ok-file.file _ _) heard

pub returns-in_err-check_well-clause-heard : goal.returns-in_err-check_well-clause-heard
returns-in_err-check_well-clause-heard g c extents at before set heard = c.take_turns.ensures.heard.on extents at before _ _ (set c.in_ok-file.file _ _) heard

pub returns-in_err-check_counts-clause-heard : goal.returns-in_err-check_counts-clause-heard
returns-in_err-check_counts-clause-heard g c extents at before set heard = c.take_turns.ensures.heard.on extents at before _ _ (set c.in_ok-file.file _ _) heard

pub returns-in_err-finish-clause-heard : goal.returns-in_err-finish-clause-heard
returns-in_err-finish-clause-heard g c extents at before set heard = c.take_turns.ensures.heard.on extents at before _ _ (set c.in_ok-file.file _ _) heard

pub returns-clause-heard : goal.returns-clause-heard
returns-clause-heard g c extents at before set heard = c.take_turns.ensures.heard.on extents at before _ _ (set c.in_ok-file.file _ _) heard
