use Rattle.std.proofs.Common.{ℕ, ap, refl, subst}
use Rattle.lnbd_link.specs.Count.{Rises, patience}
use Rattle.lnbd_connections.specs.Uses.{Rests}
use Rattle.lnbd_connections.proofs.AskLemmas.{idly_lasts}
use Rattle.lnbd_connections.proofs.UseLemmas.{uses_any}
use Rattle.lnbd_copyfile.specs.FromFile.{Seen}
use Rattle.lnbd_copyfile.proofs.LinkClauses.{on_looked, on_none}
use Rattle.lnbd_copyfile.proofs.FromFileLemmas.{further_paused}
use Rattle.lnbd_copyfile.proofs.from_file.FromFile.step.Goals as goal
use Rattle.lnbd_copyfile.proofs.GivenLemmas.{asks_later}
use Rattle.lnbd_copyfile.proofs.ShareFromLemmas.{sharing_turned}
use Rattle.lnbd_copyfile.specs.SharingFrom.{share}
use Rattle.lnbd_connections.proofs.FewLemmas.{few_same, few_then}
use Rattle.lnbd_copyfile.proofs.FromFilePauseLemmas.{full_none_from, full_paused, pauses_so_from, pauses_unpaused_from}

pub returns-in_ok-pause-in-Ok-Still-clause-on : goal.returns-in_ok-pause-in-Ok-Still-clause-on
returns-in_ok-pause-in-Ok-Still-clause-on g c =
    further_paused c.args.file c.args.job.now c.turn.new.job _ _ _ c.args.self.now c.turn.new.self c.pause.new.self _ _ _ _ c.in-Ok-Still.ensures.on c.in_ok-pause-in-Ok-Still.ensures.goes
    (idly_lasts _ _ c.pause.ensures.idly)

pub returns-in-Err-clause-shares : goal.returns-in-Err-clause-shares
returns-in-Err-clause-shares g c = λ terms from s. few_same (share terms) from _

pub returns-in_ok-pause-in-Ok-Still-clause-shares : goal.returns-in_ok-pause-in-Ok-Still-clause-shares
returns-in_ok-pause-in-Ok-Still-clause-shares g c = λ terms from s.
    few_then (share terms) from _ _ _ (c.turn.ensures.shares terms from s) (c.pause.ensures.few (share terms) from)

pub returns-in_err-pause-in-Ok-Still-clause-shares : goal.returns-in_err-pause-in-Ok-Still-clause-shares
returns-in_err-pause-in-Ok-Still-clause-shares g c = λ terms from s.
    few_then (share terms) from _ _ _ (c.turn.ensures.shares terms from s) (c.pause.ensures.few (share terms) from)

pub returns-in_ok-pause-in-Ok-Still-clause-sharing : goal.returns-in_ok-pause-in-Ok-Still-clause-sharing
returns-in_ok-pause-in-Ok-Still-clause-sharing g c = λ terms from s.
    sharing_turned terms from _ _ c.turn.new.job c.turn.new.self c.pause.new.self c.in_ok-pause-in-Ok-Still.ensures.goes c.in_ok-pause-in-Ok-Still.ensures.binds
    (c.in-Ok-Still.ensures.sharing terms from s)

pub returns-in_ok-pause-in-Ok-Still-clause-asks : goal.returns-in_ok-pause-in-Ok-Still-clause-asks
returns-in_ok-pause-in-Ok-Still-clause-asks g c = asks_later c.args.file c.args.job.now _ _ _ c.args.self.now _ _ c.turn.ensures.asks c.pause.ensures.idly

pub returns-in_err-pause-in-Ok-Still-clause-asks : goal.returns-in_err-pause-in-Ok-Still-clause-asks
returns-in_err-pause-in-Ok-Still-clause-asks g c = asks_later c.args.file c.args.job.now _ _ _ c.args.self.now _ _ c.turn.ensures.asks c.pause.ensures.idly

pub returns-in-Err-clause-uses : goal.returns-in-Err-clause-uses
returns-in-Err-clause-uses g c =
    on_none _ _ _ _

pub returns-in-Ok-Moved-clause-uses : goal.returns-in-Ok-Moved-clause-uses
returns-in-Ok-Moved-clause-uses g c =
    on_looked _ _ _ _ _ _ _ (subst (λ (s : Seen). ¬ Rises patience s.start.idles (g.W.Wires.idles c.args.wires.now)) c.self.view_is c.in-Ok.ensures.well) (uses_any _ _ _ _ _ _ _ _ _
    c.turn.ensures.uses)

pub returns-in-Ok-Finished-clause-uses : goal.returns-in-Ok-Finished-clause-uses
returns-in-Ok-Finished-clause-uses g c =
    on_looked _ _ _ _ _ _ _ (subst (λ (s : Seen). ¬ Rises patience s.start.idles (g.W.Wires.idles c.args.wires.now)) c.self.view_is c.in-Ok.ensures.well) (uses_any _ _ _ _ _ _ _ _ _
    c.turn.ensures.uses)

pub returns-in-Err-turn-clause-uses : goal.returns-in-Err-turn-clause-uses
returns-in-Err-turn-clause-uses g c =
    on_looked _ _ _ _ _ _ _ (subst (λ (s : Seen). ¬ Rises patience s.start.idles (g.W.Wires.idles c.args.wires.now)) c.self.view_is c.in-Ok.ensures.well) (uses_any _ _ _ _ _ _ _ _ _
    c.turn.ensures.uses)

pub returns-in_ok-pause-in-Ok-Still-clause-uses : goal.returns-in_ok-pause-in-Ok-Still-clause-uses
returns-in_ok-pause-in-Ok-Still-clause-uses g c =
    on_looked _ _ _ _ _ _ _ (subst (λ (s : Seen). ¬ Rises patience s.start.idles (g.W.Wires.idles c.args.wires.now)) c.self.view_is c.in-Ok.ensures.well)
    ((subst (λ (n : ℕ). Rests (Unit {0}) n c.turn.new.self.held (g.W.Wires.told c.turn.new.wires) (g.W.Wires.idles c.turn.new.wires) c.pause.new.self.held (g.W.Wires.told c.pause.new.wires)
    (g.W.Wires.idles c.pause.new.wires)) (ap (λ (s : Seen). s.start.idles) c.turn.ensures.kept) c.pause.ensures.rests).on _ _ _
    c.turn.ensures.uses (λ still. c.in-Ok-Still.ensures.vain c.in-Ok-Still.field-0-is))

pub returns-in_err-pause-in-Ok-Still-clause-uses : goal.returns-in_err-pause-in-Ok-Still-clause-uses
returns-in_err-pause-in-Ok-Still-clause-uses g c =
    on_looked _ _ _ _ _ _ _ (subst (λ (s : Seen). ¬ Rises patience s.start.idles (g.W.Wires.idles c.args.wires.now)) c.self.view_is c.in-Ok.ensures.well)
    ((subst (λ (n : ℕ). Rests (Unit {0}) n c.turn.new.self.held (g.W.Wires.told c.turn.new.wires) (g.W.Wires.idles c.turn.new.wires) c.pause.new.self.held (g.W.Wires.told c.pause.new.wires)
    (g.W.Wires.idles c.pause.new.wires)) (ap (λ (s : Seen). s.start.idles) c.turn.ensures.kept) c.pause.ensures.rests).on _ _ _
    c.turn.ensures.uses (λ still. c.in-Ok-Still.ensures.vain c.in-Ok-Still.field-0-is))

pub returns-in_ok-pause-in-Ok-Still-clause-full : goal.returns-in_ok-pause-in-Ok-Still-clause-full
returns-in_ok-pause-in-Ok-Still-clause-full g c =
    full_paused c.args.file c.args.job.now c.turn.new.job c.args.self.now c.turn.new.self c.pause.new.self _ _ _ _ _ _ _ c.in-Ok-Still.ensures.full (c.in-Ok-Still.ensures.rests c.in-Ok-Still.field-0-is)
    c.in_ok-pause-in-Ok-Still.ensures.goes (ap (λ (s : Seen). s.board) c.pause.ensures.kept) c.pause.ensures.links c.in_ok-pause-in-Ok-Still.ensures.pauses
    (returns-in_ok-pause-in-Ok-Still-clause-on g c)

pub returns-in-Err-clause-pauses : goal.returns-in-Err-clause-pauses
returns-in-Err-clause-pauses g c =
    pauses_so_from c.args.file c.args.job.now c.args.job.now _ _ _ c.args.self.now c.args.self.now _ _ _ _
    (full_none_from c.args.file c.args.job.now _ c.args.self.now _ _) refl

pub returns-in_ok-pause-in-Ok-Still-clause-pauses : goal.returns-in_ok-pause-in-Ok-Still-clause-pauses
returns-in_ok-pause-in-Ok-Still-clause-pauses g c =
    pauses_so_from c.args.file c.args.job.now c.turn.new.job _ _ _ c.args.self.now c.pause.new.self _ _ _ _ (returns-in_ok-pause-in-Ok-Still-clause-full g c) refl

pub returns-in_err-pause-in-Ok-Still-clause-pauses : goal.returns-in_err-pause-in-Ok-Still-clause-pauses
returns-in_err-pause-in-Ok-Still-clause-pauses g c =
    pauses_so_from c.args.file c.args.job.now c.turn.new.job _ _ _ c.args.self.now c.turn.new.self _ _ _ _ c.in-Ok-Still.ensures.full c.in_err-pause-in-Ok-Still.ensures.still

pub returns-in-Ok-Moved-clause-pauses : goal.returns-in-Ok-Moved-clause-pauses
returns-in-Ok-Moved-clause-pauses g c = pauses_unpaused_from c.args.file c.args.job.now _ _ c.args.self.now _ _ c.turn.ensures.unpaused

pub returns-in-Ok-Finished-clause-pauses : goal.returns-in-Ok-Finished-clause-pauses
returns-in-Ok-Finished-clause-pauses g c = pauses_unpaused_from c.args.file c.args.job.now _ _ c.args.self.now _ _ c.turn.ensures.unpaused

pub returns-in-Err-turn-clause-pauses : goal.returns-in-Err-turn-clause-pauses
returns-in-Err-turn-clause-pauses g c = pauses_unpaused_from c.args.file c.args.job.now _ _ c.args.self.now _ _ c.turn.ensures.unpaused
