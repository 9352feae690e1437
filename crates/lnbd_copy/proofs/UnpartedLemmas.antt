-- No handle that waits to read alone has asked for the end of its connection.
use Rattle.std.proofs.Common.{◌≡◌, ◌≤◌, ◌<◌, ◌+◌, ℕ, List, Option, Some, slice_get, length, inl, inr, ap, sym, subst, ◌∙◌, arith}
use Rattle.std.proofs.lemmas.Bool.{cases_lt}
use Rattle.std.specs.Option.{option_map}
use Rattle.lnbd_machine.specs.Machine.{Machine}
use Rattle.lnbd_poll.specs.Held.{Held}
use Rattle.lnbd_board.specs.declared.ticket.Ticket.{Ticket}
use Rattle.lnbd_copy.specs.Waits.{AreUnparted, IsUnparted}
use Rattle.lnbd_copy.proofs.AgreeLemmas.{held_below}
use Rattle.lnbd_copy.proofs.TurnLemmas.{some_same}

-- So many of them are so.
pub record UnpartedBelow (n : ℕ) (held : List (Held Ticket)) : Type 0 where
  pub on : (index : ℕ) (one : Held Ticket) → index < n → slice_get held index ≡ Some one → IsUnparted one.handle

pub none_unparted : (held : List (Held Ticket)) → UnpartedBelow 0 held
none_unparted held = record { on = λ index one l there. absurd (omega (arith, l)) }

pub unparted_more : (n : ℕ) (held : List (Held Ticket)) (handle : Machine Ticket) → UnpartedBelow n held → option_map (λ (one : Held Ticket). one.handle) (slice_get held n) ≡ Some handle → IsUnparted handle → UnpartedBelow (n + 1) held
unparted_more n held handle below is unparted = record {
  on = λ index one l there. elim (cases_lt index n) [
    | inl k ↦ below.on index one k there
    | inr k ↦
        let same : index ≡ n = omega (arith, l, k) in
        let here : slice_get held n ≡ Some one = subst (λ (m : ℕ). slice_get held m ≡ Some one) same there in
        subst IsUnparted (sym (some_same one.handle handle (sym (ap (λ (o : Option (Held Ticket)). option_map (λ (h : Held Ticket). h.handle) o) here) ∙ is))) unparted
  ];
}

pub all_unparted : (n : ℕ) (held : List (Held Ticket)) → UnpartedBelow n held → length held ≤ n → AreUnparted held
all_unparted n held below all index one there = let l = held_below held index one there in below.on index one (omega (arith, l, all)) there
