-- What the done marks of a table stand for.
use Rattle.std.specs.Prelude.{ℕ, List, map}
use Rattle.lnbd_inflight.specs.declared.marks.Mark.{Mark}

-- the cookies of these marks
abbrev pub order_of : List Mark → List ℕ
order_of marks = map (λ mark. mark.cookie) marks
