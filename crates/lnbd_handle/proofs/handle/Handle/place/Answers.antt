use Rattle.std.proofs.Common.{◌≡◌, ◌≤◌, ◌++◌, ◌+◌, ◌-◌, ◌∙◌, ℕ, List, drop, length, take, refl, ap, subst, arith}
use Rattle.std.proofs.lemmas.List.{length-drop, length-take-le}
use Rattle.std.specs.Vec.{with_items_from}
use Rattle.lnbd_handle.specs.Held.{held_in}
use Rattle.lnbd_handle.specs.Placing.{Handled, place_size, with_place}
use Rattle.lnbd_handle.specs.Seen.{machine_of}
use Rattle.lnbd_handle.proofs.PlaceLemmas.{front_kept, lent_view, place_fits, room_written}
use Rattle.lnbd_handle.proofs.handle.Handle.place.Goals as goal

pub returns : goal.returns
returns g c =
    let seen = c.self.inside.connection in
    let p = c.self.inside.pending in
    let xs = p.content.items in
    let count : p.content.len ≡ length xs = p.content.ok.0 in
    let size : ℕ = place_size (machine_of seen (held_in p)) in
    let fits : p.came + size ≤ p.content.len = place_fits seen p c.self.invariant.1 c.self.invariant.2 in
    let gap : p.came + c.place_size-size.result - p.came ≡ size = omega (arith, c.place_size-size.ensures.size) in (
      (
        refl,
        λ w.
            lent_view seen p (record { head = p.head; announced = p.announced; content = with_items_from p.content p.came w; came = p.came }) w
            (ap (λ (d : List ℕ). p.head.items ++ d) (front_kept p.content.len p.came size xs w count fits))
            (room_written p.content.len p.came size xs w count fits)
            ∙ ap (λ (h : Handled g.row.K.Denot). with_place h w) c.self.view_is,
      ),
      record {
        writes_back = tt;
        value = c.slice_mut.ensures.value ∙ ap (λ (n : ℕ). take n (drop p.came xs)) gap ∙ ap (λ (h : Handled g.row.K.Denot). h.place) c.self.view_is;
        size = subst (λ (h : Handled g.row.K.Denot). length h.place ≡ place_size h.machine) c.self.view_is (length-take-le size (drop p.came xs) (omega (arith, length-drop p.came xs, count, fits)));
      },
    )
