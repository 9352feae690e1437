-- What is carried is held, where both servers are honest.
use Rattle.std.proofs.Common.{◌≡◌, ◌⊎◌, inl, inr, ℕ, ◌+◌, ◌-◌, ◌<◌, List, Bool, true, sym, ◌∙◌, arith, length, get_or, take, drop, length-take, length-drop}
use Rattle.std.proofs.lemmas.Grind.{same_number_lists}
use Rattle.std.proofs.lemmas.List.{get_or-take, get_or-drop}
use Rattle.std.proofs.lemmas.Option.{get_or_from_slice_get}
use Rattle.lnbd_asked.specs.Transcript.{Dealt}
use Rattle.lnbd_asked.specs.Honest.{Honest, Leaves, Untouched}
use Rattle.lnbd_board.specs.Carried.{Carries, CarriedIsHeld, IsPassedOver, IsPutAs, IsToldAs, Puts}

-- The byte that was told is the source's,
told_true : (p byte : ℕ) (source : Dealt) (from : List ℕ) → Honest from source from → Untouched source p → IsToldAs source p byte → get_or from p 0 ≡ byte
told_true p byte source from honest kept (inl r) =
    sym (honest.reads r.link r.cookie r.command r.bytes p r.asked r.kind r.done r.has kept) ∙ get_or_from_slice_get r.bytes (p - r.command.offset) byte 0 r.told
told_true p byte source from honest kept (inr t) =
    let z = t.0.told in honest.zeroes z.link z.cookie z.command z.bytes p z.asked z.kind z.done z.has z.zero kept ∙ sym t.1

-- and the one that was put there, or passed over, is the destination's.
put_held : (blank : Bool) (p byte : ℕ) (destination : Dealt) (to end : List ℕ) → Honest to destination end → (blank ≡ true → get_or to p 0 ≡ 0) →
    IsPutAs destination p byte ⊎ IsPassedOver blank destination p byte → get_or end p 0 ≡ byte
put_held blank p byte destination to end honest bare (inl w) = left w.puts (honest.writes w.link w.cookie w.command w.bytes p w.one w.done)
  where
    left : Puts w.command p byte → Leaves w.command p (get_or end p 0) → get_or end p 0 ≡ byte
    left (inl written) leaves = leaves.0 written.0 ∙ get_or_from_slice_get w.command.payload (p - w.command.offset) byte 0 written.1
    left (inr zeroed) leaves = leaves.1 zeroed.0 ∙ sym zeroed.1
put_held blank p byte destination to end honest bare (inr w) = honest.rest p w.untouched ∙ (bare w.said ∙ sym w.zero)

each_held : (blank : Bool) (size : ℕ) (source destination : Dealt) (from to end : List ℕ) (p : ℕ) → Carries blank size source destination → Honest from source from → Honest to destination end →
    (blank ≡ true → (p : ℕ) → p < size → get_or to p 0 ≡ 0) → p < size → get_or end p 0 ≡ get_or from p 0
each_held blank size source destination from to end p c honest honest2 bare l =
    let one = c.each p l in
    put_held blank p one.byte destination to end honest2 (λ b. bare b p l) one.put ∙ sym (told_true p one.byte source from honest (c.kept p) one.told)

pub carried_is_held : CarriedIsHeld
carried_is_held blank size room source destination c from to end honest honest2 told_size told_room fits bare =
    let size_from : size ≡ length from = honest.sizes.told told_size.link size told_size.told in
    let size_to : room ≡ length to = honest2.sizes.told told_room.link room told_room.told in
    let kept : length end ≡ length to = honest2.sizes.kept in
    record {
      front = same_number_lists (take (length from) end) from (simp length-take (omega (arith, size_from, size_to, kept, fits))) (λ k h.
          get_or-take (length from) end k 0 (let t = length-take (length from) end in omega (arith, t, h))
          ∙ each_held blank size source destination from to end k c honest honest2 bare (let t = length-take (length from) end in omega (arith, t, h, size_from)));
      rest = same_number_lists (drop (length from) end) (drop (length from) to) (simp length-drop (omega (arith, kept))) (λ k h.
          get_or-drop (length from) end k 0 ∙ (honest2.rest (length from + k) (c.rest (length from + k) (omega (arith, size_from))) ∙ sym (get_or-drop (length from) to k 0)));
    }
