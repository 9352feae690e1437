use Rattle.std.proofs.Common.{◌≡◌, true, sym, Some}
use Rattle.std.specs.Prelude.{is_some}
use Rattle.lnbd_keyed.specs.Keyed.{value_at}
use Rattle.lnbd_commands.specs.Commands.{Commands}
use Rattle.lnbd_commands.proofs.ResultLemmas.{kept_landed, kept_seen, sound_retired}
use Rattle.lnbd_commands.proofs.commands.Commands.take_completed.Goals as goal

pub into_completed-requires : goal.into_completed-requires
into_completed-requires g c =
    let here : value_at c.args.cookie c.self.inside.table.rows ≡ Some c.in-Some-remove.row = sym c.in-Some-remove.ensures.value in
    let kept : is_some c.in-Some-remove.row.kept ≡ true = kept_seen c.is_kept.result c.in-Some.row.now c.in-Some-remove.row (value_at c.args.cookie c.self.inside.table.rows) c.in-Some.ensures c.in-Some-remove.ensures.value c.is_kept.ensures c.if-not-is_kept.false in
    kept_landed c.args.cookie c.in-Some-remove.row c.self.inside.table.done c.self.inside.table.rows c.self.invariant.rows here kept

pub invariant_of-self : goal.invariant_of-self
invariant_of-self g c =
    let here : value_at c.args.cookie c.self.inside.table.rows ≡ Some c.in-Some-remove.row = sym c.in-Some-remove.ensures.value in
    let kept : is_some c.in-Some-remove.row.kept ≡ true = kept_seen c.is_kept.result c.in-Some.row.now c.in-Some-remove.row (value_at c.args.cookie c.self.inside.table.rows) c.in-Some.ensures c.in-Some-remove.ensures.value c.is_kept.ensures c.if-not-is_kept.false in
    let m : Commands g.row.K.Denot = record { issued = c.self.inside.issued; rows = c.self.inside.table.rows; done = c.self.inside.table.done; log = c.self.inside.desk.log; freed = c.self.inside.freed; room = c.self.inside.desk.room } in
    let empty = kept_landed c.args.cookie c.in-Some-remove.row c.self.inside.table.done c.self.inside.table.rows c.self.invariant.rows here kept in
    rw (c.in-Some-remove.ensures.rows, c.in-Some-remove.ensures.done) (sound_retired m c.args.cookie c.in-Some-remove.row c.self.invariant here empty)
