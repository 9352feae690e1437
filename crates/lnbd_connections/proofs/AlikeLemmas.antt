-- What the connections were told of their export, one after another.
use Rattle.std.proofs.Common.{inl, inr, ℕ, ◌+◌, ◌≤◌, List, length, arith, subst}
use Rattle.std.proofs.lemmas.Bool.{cases_lt}
use Rattle.lnbd_poll.specs.Held.{Held}
use Rattle.lnbd_board.specs.declared.ticket.Ticket.{Ticket}
use Rattle.lnbd_conduct.specs.Grounds.{AreSame}
use Rattle.lnbd_connections.specs.Alike.{AreAlike, AreAlikeBelow, IsBeside}

pub alike_none : (held : List (Held Ticket)) → AreAlikeBelow 1 held
alike_none held = record { at = λ index some less. absurd (omega (arith, some, less)) }

pub alike_more : (n : ℕ) (held : List (Held Ticket)) → AreAlikeBelow n held → IsBeside AreSame n held → AreAlikeBelow (n + 1) held
alike_more n held below one = record {
  at = λ index some less. elim (cases_lt index n) [
    | inl k ↦ below.at index some k
    | inr k ↦ subst (λ (i : ℕ). IsBeside AreSame i held) (omega (arith, less, k)) one
  ];
}

pub alike_all : (n : ℕ) (held : List (Held Ticket)) → AreAlikeBelow n held → length held ≤ n → AreAlike held
alike_all n held below all = record { at = λ index some less. below.at index some (omega (arith, less, all)) }
