-- Definitions by worked values.
use Rattle.std.proofs.Common.{◌≡◌, ℕ, true, List, [], ◌∷◌, Some, refl}
use Rattle.lnbd_callbacks.specs.Calls.{Call}
use Rattle.lnbd_history.specs.Events.{Start}
use Rattle.lnbd_link.specs.Call.{Read, Write, Moved, Unready, Sent}
use Rattle.lnbd_poll.specs.declared.noticed.Noticed.TheVariants as noticed
use Rattle.lnbd_poll.specs.declared.noticed.Turn.TheVariants as turn
use Rattle.lnbd_poll.specs.Alone.{calls_on}
use Rattle.lnbd_poll.specs.Coming.{data_to_come_after}
use Rattle.lnbd_poll.specs.Seen.{Seen}
use Rattle.lnbd_poll.specs.Notices.{ReadsOnce, WritesOnce, is_reading}
use Rattle.lnbd_poll.specs.Turns.{moved_by, together, turn_of}

-- no callbacks, and a world that never changes
abbrev none : ℕ → List (Call ℕ) → ℕ → Type 0
none before calls after = after ≡ before

abbrev fresh : Seen ℕ
fresh = record { link = 7; history = []; unread = [] }

abbrev started : Seen ℕ
started = record { link = 7; history = Start ∷ []; unread = [] }

-- A handle that was not started is left alone; one that was reads, and has nothing to write.
fresh_rests : ReadsOnce none noticed.Idle fresh 0 [] fresh 0
fresh_rests = (refl, refl, (refl, refl))

started_reads : is_reading started.history ≡ true
started_reads = refl

started_writes_nothing : WritesOnce 7 noticed.Idle started.history [] started.history
started_writes_nothing = (refl, refl, refl)

nothing_has_come : ReadsOnce none noticed.NotReady started 0 (Read 7 65536 Unready ∷ []) started 0
unfolding data_to_come_after
nothing_has_come = (Unready, refl, (refl, (refl, refl)))

-- Three bytes on one link and a failure of another make three; a failure alone is no stillness.
three : turn_of (together (moved_by (noticed.Moved 3)) (together (moved_by noticed.NotReady) (moved_by noticed.LinkFailed))) ≡ turn.Moved 3
three = refl

lost : turn_of (together (moved_by noticed.LinkFailed) (moved_by noticed.Idle)) ≡ turn.Moved 0
lost = refl

still : turn_of (together (moved_by noticed.NotReady) (moved_by noticed.Idle)) ≡ turn.Still
still = refl

greatest : turn_of (together (Some 18446744073709551615) (Some 1)) ≡ turn.Moved 18446744073709551615
greatest = refl

-- Of the calls of a turn each link has its own.
own : calls_on 1 (Write 0 4 (Sent (1 ∷ [])) ∷ Read 0 65536 Unready ∷ Read 1 65536 (Moved (9 ∷ [])) ∷ []) ≡ Read 1 65536 (Moved (9 ∷ [])) ∷ []
own = refl
