use Rattle.lnbd_connections.proofs.UseLemmas.{uses_then}
use Rattle.lnbd_copyfile.proofs.LinkClauses.{acted_uses}
use Rattle.lnbd_copyfile.proofs.ToFileRunLemmas.{further_acts, further_goes, further_leaves, further_then, ready_acts, ready_goes, ready_leaves}
use Rattle.lnbd_copyfile.proofs.ToFilePauseLemmas.{full_turned, rests_turned}
use Rattle.lnbd_copy.proofs.PauseLemmas.{unpaused_then}
use Rattle.std.proofs.Common.{ap, sym, subst}
use Rattle.lnbd_board.specs.Files as board
use Rattle.lnbd_copyfile.specs.ToFileJob.{HasNothingToDo}
use Rattle.lnbd_copyfile.proofs.to_file.turn.Goals as goal
use Rattle.lnbd_course.specs.Far.{ToFile}
use Rattle.lnbd_connections.proofs.FewLemmas.{few_idly, few_then}
use Rattle.lnbd_copyfile.specs.Sharing.{share}
use Rattle.lnbd_copyfile.proofs.ShareLemmas.{sharing_acts, sharing_few, sharing_leaves, sharing_turned}
use Rattle.lnbd_copyfile.proofs.TakenLemmas.{more_idly, more_turned}
use Rattle.lnbd_copyfile.proofs.HearingLemmas.{hears_acted, hears_further, hears_idly, hears_turned}

pub returns-then-left-clause-ready : goal.returns-then-left-clause-ready
returns-then-left-clause-ready g c =
    ready_leaves c.act.new.self _ _ _ _ _ _ _ c.leave-left.ensures.leaves
    (ready_acts _ _ _ _ _ _ _ _ _ _ _ c.in_ok-acted.ensures.acts (ready_goes c.args.job.now _ _ _ _ _ _ c.in_ok-moved.ensures.goes c.requires.ready))

pub returns-then-left-clause-on : goal.returns-then-left-clause-on
returns-then-left-clause-on g c =
    further_then _ _ _ _ _ _ _ _ _ _ _ _ _ _ _ _ _ _ _ (further_goes c.args.file c.args.job.now _ _ _ _ _ _ _ _ c.in_ok-moved.ensures.goes)
    (further_then _ _ _ _ _ _ _ _ _ _ _ _ _ _ _ _ _ _ _ (further_acts _ _ _ _ _ _ _ _ _ _ _ _ c.in_ok-acted.ensures.acts)
    (further_leaves c.args.file c.act.new.self _ _ _ _ _ _ _ _ c.leave-left.ensures.leaves))

pub returns-after-matches-clause-ready : goal.returns-after-matches-clause-ready
returns-after-matches-clause-ready g c =
    ready_leaves c.act.new.self _ _ _ _ _ _ _ c.leave-left.ensures.leaves
    (ready_acts _ _ _ _ _ _ _ _ _ _ _ c.in_ok-acted.ensures.acts (ready_goes c.args.job.now _ _ _ _ _ _ c.in_ok-moved.ensures.goes c.requires.ready))

pub returns-after-matches-clause-on : goal.returns-after-matches-clause-on
returns-after-matches-clause-on g c =
    further_then _ _ _ _ _ _ _ _ _ _ _ _ _ _ _ _ _ _ _ (further_goes c.args.file c.args.job.now _ _ _ _ _ _ _ _ c.in_ok-moved.ensures.goes)
    (further_then _ _ _ _ _ _ _ _ _ _ _ _ _ _ _ _ _ _ _ (further_acts _ _ _ _ _ _ _ _ _ _ _ _ c.in_ok-acted.ensures.acts)
    (further_leaves c.args.file c.act.new.self _ _ _ _ _ _ _ _ c.leave-left.ensures.leaves))

pub returns-in_err-moved-clause-asks : goal.returns-in_err-moved-clause-asks
returns-in_err-moved-clause-asks g c = more_turned c.args.file c.args.job.now _ _ _ _ _ _ c.take_turn.ensures.asks

pub returns-in_err-acted-clause-asks : goal.returns-in_err-acted-clause-asks
returns-in_err-acted-clause-asks g c = more_turned c.args.file c.args.job.now _ _ _ _ _ _ c.take_turn.ensures.asks

pub returns-then-left-clause-asks : goal.returns-then-left-clause-asks
returns-then-left-clause-asks g c = more_idly _ _ _ _ _ _ _ _ _ (more_turned c.args.file c.args.job.now _ _ _ _ _ _ c.take_turn.ensures.asks) c.leave-left.ensures.asks

pub returns-after-matches-clause-asks : goal.returns-after-matches-clause-asks
returns-after-matches-clause-asks g c = more_idly _ _ _ _ _ _ _ _ _ (more_turned c.args.file c.args.job.now _ _ _ _ _ _ c.take_turn.ensures.asks) c.leave-left.ensures.asks

pub returns-in_err-moved-clause-shares : goal.returns-in_err-moved-clause-shares
returns-in_err-moved-clause-shares g c terms from s = c.take_turn.ensures.few (share terms) (ToFile s.made) s.way from s.stand (sharing_few terms from _ c.args.job.now _ _ s)

pub returns-in_err-acted-clause-shares : goal.returns-in_err-acted-clause-shares
returns-in_err-acted-clause-shares g c terms from s = c.take_turn.ensures.few (share terms) (ToFile s.made) s.way from s.stand (sharing_few terms from _ c.args.job.now _ _ s)

pub returns-then-left-clause-shares : goal.returns-then-left-clause-shares
returns-then-left-clause-shares g c terms from s =
    few_then (share terms) from _ _ _ (c.take_turn.ensures.few (share terms) (ToFile s.made) s.way from s.stand (sharing_few terms from _ c.args.job.now _ _ s))
    (few_idly (share terms) from _ _ c.leave-left.ensures.idly)

pub returns-then-left-clause-sharing : goal.returns-then-left-clause-sharing
returns-then-left-clause-sharing g c terms from s =
    sharing_leaves terms from _ _ c.act.new.self _ _ _ _ c.leave-left.ensures.leaves
    (sharing_acts terms c.args.file from _ c.args.job.now c.act.new.self _ _ _ _ c.in_ok-acted.ensures.acts c.in_ok-acted.ensures.spread c.act.ensures.terms
    (sharing_turned terms from _ _ c.args.job.now _ _ _ _ c.in_ok-moved.ensures.goes c.in_ok-moved.ensures.binds s))

pub returns-after-matches-clause-shares : goal.returns-after-matches-clause-shares
returns-after-matches-clause-shares g c terms from s =
    few_then (share terms) from _ _ _ (c.take_turn.ensures.few (share terms) (ToFile s.made) s.way from s.stand (sharing_few terms from _ c.args.job.now _ _ s))
    (few_idly (share terms) from _ _ c.leave-left.ensures.idly)

pub returns-after-matches-clause-sharing : goal.returns-after-matches-clause-sharing
returns-after-matches-clause-sharing g c terms from s =
    sharing_leaves terms from _ _ c.act.new.self _ _ _ _ c.leave-left.ensures.leaves
    (sharing_acts terms c.args.file from _ c.args.job.now c.act.new.self _ _ _ _ c.in_ok-acted.ensures.acts c.in_ok-acted.ensures.spread c.act.ensures.terms
    (sharing_turned terms from _ _ c.args.job.now _ _ _ _ c.in_ok-moved.ensures.goes c.in_ok-moved.ensures.binds s))

pub returns-in_err-moved-clause-uses : goal.returns-in_err-moved-clause-uses
returns-in_err-moved-clause-uses g c = c.take_turn.ensures.uses c.requires.ready.stand

pub returns-in_err-acted-clause-uses : goal.returns-in_err-acted-clause-uses
returns-in_err-acted-clause-uses g c = acted_uses _ _ _ _ _ _ _ _ _ (c.take_turn.ensures.uses c.requires.ready.stand) c.act.ensures.links

pub returns-then-left-clause-uses : goal.returns-then-left-clause-uses
returns-then-left-clause-uses g c =
    uses_then _ _ _ _ _ _ _ _ _ _ _ (acted_uses _ _ _ _ _ _ _ _ _ (c.take_turn.ensures.uses c.requires.ready.stand) c.act.ensures.links) (c.leave-left.ensures.uses _)

pub returns-after-matches-clause-uses : goal.returns-after-matches-clause-uses
returns-after-matches-clause-uses g c =
    uses_then _ _ _ _ _ _ _ _ _ _ _ (acted_uses _ _ _ _ _ _ _ _ _ (c.take_turn.ensures.uses c.requires.ready.stand) c.act.ensures.links) (c.leave-left.ensures.uses _)

pub returns-then-left-clause-full : goal.returns-then-left-clause-full
returns-then-left-clause-full g c =
    full_turned c.args.file c.args.job.now c.act.new.self c.args.board.now c.take_turn.new.board c.act.new.board c.leave-left.new.board c.args.handles.now c.take_turn.new.handles c.act.new.handles
    c.leave-left.new.handles _ _ _ _ _ _ _ c.in_ok-moved.ensures.goes (λ stand. (c.take_turn.ensures.uses stand).links) c.take_turn.ensures.unpaused c.act.ensures.links c.act.ensures.parting c.act.ensures.terms
    c.in_ok-acted.ensures.most c.leave-left.ensures.leaves (c.leave-left.ensures.uses 0).links c.leave-left.ensures.unpaused (returns-then-left-clause-on g c)

pub returns-after-matches-clause-full : goal.returns-after-matches-clause-full
returns-after-matches-clause-full g c =
    full_turned c.args.file c.args.job.now c.act.new.self c.args.board.now c.take_turn.new.board c.act.new.board c.leave-left.new.board c.args.handles.now c.take_turn.new.handles c.act.new.handles
    c.leave-left.new.handles _ _ _ _ _ _ _ c.in_ok-moved.ensures.goes (λ stand. (c.take_turn.ensures.uses stand).links) c.take_turn.ensures.unpaused c.act.ensures.links c.act.ensures.parting c.act.ensures.terms
    c.in_ok-acted.ensures.most c.leave-left.ensures.leaves (c.leave-left.ensures.uses 0).links c.leave-left.ensures.unpaused (returns-after-matches-clause-on g c)

pub returns-in_err-moved-clause-unpaused : goal.returns-in_err-moved-clause-unpaused
returns-in_err-moved-clause-unpaused g c = c.take_turn.ensures.unpaused c.requires.ready.stand

pub returns-in_err-acted-clause-unpaused : goal.returns-in_err-acted-clause-unpaused
returns-in_err-acted-clause-unpaused g c = c.take_turn.ensures.unpaused c.requires.ready.stand

pub returns-then-left-clause-unpaused : goal.returns-then-left-clause-unpaused
returns-then-left-clause-unpaused g c = unpaused_then _ _ _ (c.take_turn.ensures.unpaused c.requires.ready.stand) c.leave-left.ensures.unpaused

pub returns-after-matches-clause-unpaused : goal.returns-after-matches-clause-unpaused
returns-after-matches-clause-unpaused g c = unpaused_then _ _ _ (c.take_turn.ensures.unpaused c.requires.ready.stand) c.leave-left.ensures.unpaused

pub returns-after-matches-clause-rests : goal.returns-after-matches-clause-rests
returns-after-matches-clause-rests g c still =
    let acted = c.if-left.false.0 in
    let left = c.if-left.false.1 in
    let same = c.leave-left.ensures.still left in
    rests_turned c.args.file c.args.job.now c.act.new.self c.args.board.now c.take_turn.new.board c.act.new.board c.leave-left.new.board c.args.handles.now c.take_turn.new.handles c.act.new.handles
    c.leave-left.new.handles _ _ _ _ _ _ _ c.in_ok-moved.ensures.goes (λ stand. (c.take_turn.ensures.uses stand).links) c.take_turn.ensures.unpaused c.act.ensures.links c.act.ensures.parting c.act.ensures.terms
    c.in_ok-acted.ensures.most c.leave-left.ensures.leaves (c.leave-left.ensures.uses 0).links c.leave-left.ensures.unpaused (returns-after-matches-clause-on g c) c.in_ok-moved.ensures.well
    (c.in_ok-acted.ensures.well acted) same (ap (λ w. g.W.Wires.told w) (c.leave-left.ensures.kept left).1)
    (λ none. subst (λ (s : board.Seen). HasNothingToDo c.act.new.self s) (sym same) (c.in_ok-acted.ensures.waits acted none))

pub returns-in_err-moved-clause-heard : goal.returns-in_err-moved-clause-heard
returns-in_err-moved-clause-heard g c = hears_turned c.args.file c.args.job.now _ _ _ _ _ _ c.take_turn.ensures.asks

pub returns-in_err-acted-clause-heard : goal.returns-in_err-acted-clause-heard
returns-in_err-acted-clause-heard g c = hears_turned c.args.file c.args.job.now _ _ _ _ _ _ c.take_turn.ensures.asks

pub returns-then-left-clause-heard : goal.returns-then-left-clause-heard
returns-then-left-clause-heard g c = hears_idly _ _ _ _ _ _ _ _ _ _ (hears_turned c.args.file c.args.job.now _ _ _ _ _ _ c.take_turn.ensures.asks) c.leave-left.ensures.idly

pub returns-then-left-clause-hears : goal.returns-then-left-clause-hears
returns-then-left-clause-hears g c =
    hears_idly _ _ _ _ _ _ _ _ _ _
    (hears_further _ _ _ _ _ _ _ _ _ _ _ _ _ _ _ (further_goes c.args.file c.args.job.now _ _ _ _ _ _ _ _ c.in_ok-moved.ensures.goes)
    (hears_turned c.args.file c.args.job.now _ _ _ _ _ _ c.take_turn.ensures.asks)
    (hears_acted c.args.file c.args.job.now c.act.new.self _ _ _ _ _ c.in_ok-acted.ensures.hears)) c.leave-left.ensures.idly

pub returns-after-matches-clause-heard : goal.returns-after-matches-clause-heard
returns-after-matches-clause-heard g c = hears_idly _ _ _ _ _ _ _ _ _ _ (hears_turned c.args.file c.args.job.now _ _ _ _ _ _ c.take_turn.ensures.asks) c.leave-left.ensures.idly

pub returns-after-matches-clause-hears : goal.returns-after-matches-clause-hears
returns-after-matches-clause-hears g c =
    hears_idly _ _ _ _ _ _ _ _ _ _
    (hears_further _ _ _ _ _ _ _ _ _ _ _ _ _ _ _ (further_goes c.args.file c.args.job.now _ _ _ _ _ _ _ _ c.in_ok-moved.ensures.goes)
    (hears_turned c.args.file c.args.job.now _ _ _ _ _ _ c.take_turn.ensures.asks)
    (hears_acted c.args.file c.args.job.now c.act.new.self _ _ _ _ _ c.in_ok-acted.ensures.hears)) c.leave-left.ensures.idly
