use Rattle.std.proofs.Common.{sym, ◌∙◌}
use Rattle.lnbd_serve.specs.Rounds.{hall_of}
use Rattle.lnbd_serve.proofs.HallLemmas.{accept_failed, door_shut, lacks_place, nobody_came, one_came}
use Rattle.lnbd_serve.proofs.guests.Guests.welcome.Goals as goal

pub returns-then-not-is_accepting-clause-ok : goal.returns-then-not-is_accepting-clause-ok
returns-then-not-is_accepting-clause-ok g c export = door_shut _ c.args.door.listener c.args.door.limit (hall_of c.args.self.now export) c.requires (sym c.is_accepting.ensures ∙ c.if-not-is_accepting.true)

pub returns-in-Ok-clause-ok : goal.returns-in-Ok-clause-ok
returns-in-Ok-clause-ok g c export =
    one_came _ _ c.args.door.listener c.args.door.limit c.in-Link.link (hall_of c.args.self.now export) _ c.requires (sym c.is_accepting.ensures ∙ c.if-not-is_accepting.false) c.in-Link.ensures.told (c.in-Ok.ensures.ok export)

pub returns-in-Err-clause-err : goal.returns-in-Err-clause-err
returns-in-Err-clause-err g c export =
    lacks_place _ _ _ c.args.door.listener c.args.door.limit c.in-Link.link (hall_of c.args.self.now export) _ (sym c.is_accepting.ensures ∙ c.if-not-is_accepting.false) c.in-Link.ensures.told c.shut.ensures.told (c.in-Err.ensures.err export)

pub returns-in-NotReady-clause-ok : goal.returns-in-NotReady-clause-ok
returns-in-NotReady-clause-ok g c export =
    nobody_came _ _ c.args.door.listener c.args.door.limit (hall_of c.args.self.now export) c.requires (sym c.is_accepting.ensures ∙ c.if-not-is_accepting.false) c.in-NotReady.ensures.told

pub returns-in-Failed-clause-err : goal.returns-in-Failed-clause-err
returns-in-Failed-clause-err g c export =
    accept_failed _ _ c.args.door.listener c.args.door.limit (hall_of c.args.self.now export) (sym c.is_accepting.ensures ∙ c.if-not-is_accepting.false) c.in-Failed.ensures.told
