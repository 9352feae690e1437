use Rattle.std.proofs.Common.{[], ◌∷◌, codes, map, string_bytes, refl}
use Rattle.lnbd_args.specs.Tools.{dump}
use Rattle.lnbd_args.proofs.ToolLemmas.{first_misplaced, handed_on}
use Rattle.lnbd_args.proofs.dump.dump.Goals as goal

pub returns-in_err-place-clause-address : goal.returns-in_err-place-clause-address
returns-in_err-place-clause-address c fault is =
    first_misplaced (codes "nbddump" ∷ map string_bytes c.args.words.now) (dump c.in_ok-offset.offset c.in_ok-offset.length c.in_ok-offset.address.now)
    c.in_ok-offset.address.now [] c.in_err-place.field-0.0 fault
    c.in_ok-offset.ensures.reads refl c.in_err-place.ensures.fault (handed_on c.from_residual-in_err-place.result _ _ c.from_residual-in_err-place.ensures.1 is)
