use Rattle.std.proofs.Common.{◌-◌, length, take, drop}
use Rattle.std.proofs.lemmas.Slice.Eq.{slice_eq-Decides}
use Rattle.std.proofs.lemmas.Bool.Decides.{Decides-eqb}
use Rattle.lnbd_plan.proofs.BlockLaws.{each_from_first, shifted_zeros}
use Rattle.lnbd_plan.proofs.detect.is_zero.Goals as goal

pub returns-then-bytes-eq0 : goal.returns-then-bytes-eq0
returns-then-bytes-eq0 c =
    let same = slice_eq-Decides Decides-eqb (take (length c.args.bytes.now - 1) c.args.bytes.now) (take (length c.args.bytes.now - 1) (drop 1 c.args.bytes.now)) c.eq.result c.eq.ensures in (
      λ t. each_from_first c.args.bytes.now c.if-bytes-eq0.true (same.0 t),
      λ each. same.1 (shifted_zeros c.args.bytes.now each),
    )
