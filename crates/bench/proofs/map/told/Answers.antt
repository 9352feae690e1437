use Rattle.std.proofs.Common.{◌≡◌, ◌∙◌, ◌+◌, ap, arith}
use Rattle.lnbd_extents.specs.Lists.{span}
use Rattle.lnbd_extents.proofs.ListLaws.{span-append}
use Rattle.bench.proofs.map.told.Goals as goal

pub told-preserved : goal.told-preserved
told-preserved c =
    let sum : span c.push.new.self.items ≡ span c.told.told.items + 512 = ap span c.in_ok-push.ensures.items ∙ span-append c.told.told.items _ in
    omega arith
