-- That what is said of a map leaves no choice.
use Rattle.std.specs.Prelude.{◌≡◌, List}
use Rattle.lnbd_model.specs.declared.export.Extent.{Extent}
use Rattle.lnbd_info.specs.Map.{AreTotals, IsMapOf}

-- What was told makes one map.
abbrev pub OneMap : Type 0
OneMap = (told first second : List Extent) → IsMapOf told first → IsMapOf told second → first ≡ second

-- A map has one list of totals.
abbrev pub OneTotals : Type 0
OneTotals = (map first second : List Extent) → AreTotals map first → AreTotals map second → first ≡ second
