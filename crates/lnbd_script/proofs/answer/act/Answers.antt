use Rattle.std.proofs.Common.{Option, Ok, refl, sym, ap, subst}
use Rattle.lnbd_script.specs.declared.event.Event.{Event}
use Rattle.lnbd_script.specs.declared.told.Told.{Told}
use Rattle.lnbd_script.specs.Seen.{Counts}
use Rattle.lnbd_script.proofs.LineLemmas.{act_as, any_end, read_speaks, read_whole, went_alone}
use Rattle.lnbd_script.proofs.TurnLemmas.{counts_none}
use Rattle.lnbd_script.proofs.answer.act.Goals as goal

pub returns-in-Connect-clause-told : goal.returns-in-Connect-clause-told
returns-in-Connect-clause-told g c seen at = act_as c.args.line.now _ _ _ seen _ _ _ c.in-Connect.is (ap (λ (t : Told). Ok t) c.of_connect.ensures) (c.connect.ensures.told seen at)

pub returns-in-ConnectUri-clause-told : goal.returns-in-ConnectUri-clause-told
returns-in-ConnectUri-clause-told g c seen at = act_as c.args.line.now _ _ _ seen _ _ _ c.in-ConnectUri.is refl (c.connect_to.ensures.told seen at)

pub returns-in-Read-clause-told : goal.returns-in-Read-clause-told
returns-in-Read-clause-told g c seen at = act_as c.args.line.now _ _ _ seen _ _ _ c.in-Read.is c.of_read.ensures (c.read_once.ensures.told seen at)

pub returns-in-Write-clause-told : goal.returns-in-Write-clause-told
returns-in-Write-clause-told g c seen at = act_as c.args.line.now _ _ _ seen _ _ _ c.in-Write.is refl (c.write_once.ensures.told seen at)

pub returns-in_default : goal.returns-in_default
returns-in_default g c = record {
  told = went_alone c.args.line.now _ _ c.act_alone.result _ c.act_alone.ensures.told;
  spoken = c.act_alone.ensures.spoken;
  unread = any_end c.act_alone.result _ (λ seen at. c.requires.unread);
  counts = subst (λ (f : Option Event). Counts c.args.session.now.first f (g.W.Wires.faults c.args.wires.now) (g.W.Wires.faults c.args.wires.now) (g.W.Wires.idles c.args.wires.now) (g.W.Wires.idles c.args.wires.now)) (sym c.act_alone.ensures.first) (counts_none _ _ _);
}

pub returns-in-Read-clause-spoken : goal.returns-in-Read-clause-spoken
returns-in-Read-clause-spoken g c = read_speaks c.read_once.result _ c.of_read.ensures

pub returns-in-Read-clause-unread : goal.returns-in-Read-clause-unread
returns-in-Read-clause-unread g c = read_whole c.read_once.result _ _ c.of_read.ensures c.read_once.ensures.unread

pub returns-in-ConnectUri-clause-unread : goal.returns-in-ConnectUri-clause-unread
returns-in-ConnectUri-clause-unread g c = any_end c.connect_to.result _ (λ seen at. c.requires.unread)
