use Rattle.std.proofs.Common.{List, All, sym, subst}
use Rattle.lnbd_model.specs.declared.export.Extent.{Extent}
use Rattle.lnbd_extents.specs.Lists.{span}
use Rattle.lnbd_info.specs.Map.{IsPartOf}
use Rattle.lnbd_info.proofs.MapLemmas.{parts_of_totals}
use Rattle.lnbd_info.proofs.map.write_totals.Goals as goal

pub push_totals-requires : goal.push_totals-requires
push_totals-requires c =
    let parts = parts_of_totals c.args.map.now c.in_ok-totals.totals.items c.requires.filled c.in_ok-totals.ensures.rising c.in_ok-totals.ensures.sums in
    rw c.whole_of.ensures (subst (λ (xs : List Extent). All (IsPartOf (span c.args.map.now)) xs) (sym c.deref.ensures.value) parts)
