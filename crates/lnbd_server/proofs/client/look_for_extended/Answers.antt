use Rattle.std.proofs.Common.{refl, ◌∙◌}
use Rattle.lnbd_wire.specs.declared.read.Read.TheVariants.{Value, NeedMore, BadMagic}
use Rattle.lnbd_server.proofs.Heads.{extended_said, other_extended, short_extended}
use Rattle.lnbd_server.proofs.client.look_for_extended.Goals as goal

pub look_for_data-requires-clause-there : goal.look_for_data-requires-clause-there
look_for_data-requires-clause-there c = (extended_said c.in-Value.head c.args.bytes.now ((c.in-Value.ensures (Value c.in-Value.head)).0 refl)).1

pub returns-in-NeedMore-clause-said : goal.returns-in-NeedMore-clause-said
returns-in-NeedMore-clause-said c = short_extended c.args.bytes.now ((c.in-NeedMore.ensures NeedMore).0 refl)

pub returns-in-BadMagic-clause-said : goal.returns-in-BadMagic-clause-said
returns-in-BadMagic-clause-said c = other_extended c.in-BadMagic.field-0 c.args.bytes.now ((c.in-BadMagic.ensures (BadMagic c.in-BadMagic.field-0)).0 refl)

pub returns-in-Value-clause-said : goal.returns-in-Value-clause-said
returns-in-Value-clause-said c = (extended_said c.in-Value.head c.args.bytes.now ((c.in-Value.ensures (Value c.in-Value.head)).0 refl)).0 ∙ c.look_for_data.ensures.said
