-- Between two turns no more is under way on a connection than its share.
use Rattle.std.proofs.Common.{◌≡◌, ◌≢◌, ◌≤◌, ◌==◌, ◌+◌, ℕ, List, [], ◌∷◌, cond, Option, None, refl, ap, sym, subst}
use Rattle.lnbd_link.specs.Call as wire
use Rattle.lnbd_board.specs.declared.row.Row.{Row}
use Rattle.lnbd_course.specs.Spread.{how_many}
use Rattle.lnbd_copy.specs.Bound.{bound_by, bound_to}
use Rattle.lnbd_copy.specs.Copier.{IsOnItsWay, Seen}
use Rattle.lnbd_conduct.specs.Shares.{rounded_up, IsShared, IsSharedBy}
use Rattle.lnbd_conduct.specs.Told.{Told}
use Rattle.lnbd_copy.proofs.BoundedLemmas.{way_has_few}
use Rattle.lnbd_copy.proofs.CopierLemmas.{told_as}
use Rattle.lnbd_copy.proofs.SettledLemmas.{settled_with}
use Rattle.lnbd_copy.proofs.SpreadLemmas.{way_spread}

-- how many rows are bound to a connection
pub many_bound : (on : Row → ℕ) (c : ℕ) (rows : List (ℕ × Row)) → how_many (λ row. on row == c) rows ≡ bound_to c (bound_by on rows)
many_bound on c [] = refl
many_bound on c (x ∷ xs) = ap (λ (n : ℕ). cond (on x.1 == c) 1 0 + n) (many_bound on c xs)

pub way_shares : (copy : Seen) (start told : Option (List wire.Call)) → copy.board.error ≡ None → IsOnItsWay start told copy → copy.from ≢ copy.to → Told start told (IsShared copy.options copy.from copy.to)
way_shares copy start told well on two =
    let terms = on.job.terms in
    let spread = (way_spread copy start told on).spread on.job on.there in
    settled_with (λ source destination calls. IsSharedBy copy.options copy.from copy.to source destination calls) copy.options copy.from copy.to start told terms on.settled
    (told_as start told (λ calls few. record { terms = terms; settled = on.settled.first.settled; limited = on.limited; few = few })
    (way_has_few copy start told (rounded_up terms.limit terms.sides.source) (rounded_up terms.limit terms.sides.destination) well two
    (λ c. subst (λ (n : ℕ). n ≤ rounded_up terms.limit terms.sides.source) (sym (many_bound (λ row. row.source) c copy.board.rows)) (spread.source.few c))
    (λ c. subst (λ (n : ℕ). n ≤ rounded_up terms.limit terms.sides.destination) (sym (many_bound (λ row. row.destination) c copy.board.rows)) (spread.destination.few c))
    on))
