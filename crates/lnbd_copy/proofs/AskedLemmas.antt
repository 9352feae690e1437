-- A handle that took a command was asked it.
use Rattle.std.proofs.Common.{◌≡◌, ℕ, zero, suc, ◌+◌, ◌<◌, ◌^◌, arith, List, [], ◌∷◌, Some, None, refl, sym, subst, slice_get}
use Rattle.std.proofs.lemmas.Bool.{false≢true}
use Rattle.std.specs.Option.{option_map}
use Rattle.lnbd_history.specs.Commands.{Command}
use Rattle.lnbd_history.specs.Events.{Issue}
use Rattle.lnbd_history.specs.History.{asked}
use Rattle.lnbd_machine.specs.Machine.{Machine}
use Rattle.lnbd_standing.specs.Standing.{StandsFor}
use Rattle.lnbd_standing.proofs.Standing.{stands_right}
use Rattle.lnbd_handle.specs.Issues.{read_of, write_of, zero_of, flush_of, block_status_of}
use Rattle.lnbd_handle.specs.Histories.{Adds, ForEach, max_unretired}
use Rattle.lnbd_poll.specs.Held.{Held, AreAt}
use Rattle.lnbd_poll.specs.Lends.{with_handle}
use Rattle.lnbd_poll.specs.Seen.{Seen}
use Rattle.lnbd_board.specs.declared.ticket.Ticket.{Ticket}
use Rattle.lnbd_course.specs.Taken.{HaveRoom}
use Rattle.lnbd_course.proofs.Taken.{buffers_are_no_matter, taken_are_spelled}
use Rattle.lnbd_copy.specs.Asked.{WasAsked, IsAsked}

none_some : (handle : Machine Ticket) → None ≡ Some handle → ⊥
none_some handle e = cc

some_same : (one other : Machine Ticket) → Some one ≡ Some other → one ≡ other
some_same one other e = cc

-- With room for the numbers under each cookie that has room.
module _ (command : Command Ticket) (room : (cookie : ℕ) → cookie < 2 ^ 64 → HaveRoom cookie command) (handle handle' : Machine Ticket) (small : handle'.known.issued < 2 ^ 64) (adds : ForEach handle (Adds (Issue command) handle')) where
  one_asked : (index : ℕ) (all : List (Held Ticket)) (seens : List (Seen Ticket)) → option_map (λ held. held.handle) (slice_get all index) ≡ Some handle → AreAt all seens → WasAsked index command seens (with_handle all index handle')
  one_asked index [] seens is at = absurd (none_some handle is)
  one_asked index (held ∷ others) [] is at = absurd at
  one_asked zero (held ∷ others) (seen ∷ more) is at =
      let stands = adds seen.history (subst (λ (m : Machine Ticket). StandsFor max_unretired seen.history m) (some_same held.handle handle is) at.0.stands) in
      let issued = (stands_right max_unretired (Issue command ∷ seen.history) handle' stands).issued in
      record {
        seen = seen;
        there = refl;
        spells = taken_are_spelled max_unretired seen.history command handle' stands (room ((asked seen.history).issued + 1) (subst (λ (n : ℕ). n < 2 ^ 64) issued small));
        at = (record { link = at.0.link; stands = buffers_are_no_matter max_unretired seen.history command handle' stands; unread = at.0.unread }, at.1);
      }
  one_asked (suc index) (held ∷ others) (seen ∷ more) is at =
      let rest = one_asked index others more is at.1 in
      record { seen = rest.seen; there = rest.there; spells = rest.spells; at = (at.0, rest.at) }

  pub is_asked : (index : ℕ) (all : List (Held Ticket)) → option_map (λ held. held.handle) (slice_get all index) ≡ Some handle → IsAsked index command all (with_handle all index handle')
  is_asked index all is = record { on = λ seens at. one_asked index all seens is at }

-- The numbers of a copy's commands have room.

pub read_room : (bytes : List ℕ) (offset : ℕ) (done : Ticket) → offset < 2 ^ 64 → (cookie : ℕ) → cookie < 2 ^ 64 → HaveRoom cookie (read_of bytes offset done 0)
read_room bytes offset done l cookie m = record { cookie_ = m; offset = l; ranged = λ e. absurd (false≢true (sym e)) }

pub extents_room : (length_ offset : ℕ) (first done : Ticket) → offset < 2 ^ 64 → (cookie : ℕ) → cookie < 2 ^ 64 → HaveRoom cookie (block_status_of length_ offset first done 0)
extents_room length_ offset first done l cookie m = record { cookie_ = m; offset = l; ranged = λ e. absurd (false≢true (sym e)) }

pub write_room : (bytes : List ℕ) (offset : ℕ) (done : Ticket) → offset < 2 ^ 64 → (cookie : ℕ) → cookie < 2 ^ 64 → HaveRoom cookie (write_of bytes offset done 0)
write_room bytes offset done l cookie m = record { cookie_ = m; offset = l; ranged = λ e. absurd (false≢true (sym e)) }

pub zero_room : (length_ offset : ℕ) (done : Ticket) (flags : ℕ) → offset < 2 ^ 64 → (cookie : ℕ) → cookie < 2 ^ 64 → HaveRoom cookie (zero_of length_ offset done flags)
zero_room length_ offset done flags l cookie m = record { cookie_ = m; offset = l; ranged = λ e. absurd (false≢true (sym e)) }

pub flush_room : (done : Ticket) (cookie : ℕ) → cookie < 2 ^ 64 → HaveRoom cookie (flush_of done 0)
flush_room done cookie m = record { cookie_ = m; offset = omega arith; ranged = λ e. (refl, refl) }
