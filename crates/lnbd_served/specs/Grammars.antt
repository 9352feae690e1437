-- What a session hears of a client, beside what a transcript reads of it.
use Rattle.std.specs.Prelude.{◌≡◌, ◌≢◌, ℕ, Bool, true, false, List, Some}
use Rattle.std.specs.Option.{option_map}
use Rattle.lnbd_records.specs.Numbers.{IsBytes}
use Rattle.lnbd_server.specs.declared.stage.Stage.{Stage}
use Rattle.lnbd_server.specs.declared.stage.Stage.TheVariants.{Greeting, Haggling, Serving, Ended, Strayed}
use Rattle.lnbd_server.specs.Client.{Heard, stray, asks_of, says}
use Rattle.lnbd_server.specs.Client as server
use Rattle.lnbd_server.specs.Session.{is_closed}
use Rattle.lnbd_asked.specs.Client.{Said, Flags, Wishes, Orders, Stray, size_of}
use Rattle.lnbd_asked.specs.Client as client

-- the client's flags have come
abbrev pub is_greeted : Stage → Bool
is_greeted Greeting = false
is_greeted Haggling = true
is_greeted Serving = true
is_greeted Ended = true
is_greeted Strayed = true

-- a thing that a transcript reads, as a session hears it
abbrev pub as_heard : Said → server.Said
as_heard (Flags flags) = server.Flags flags
as_heard (Wishes wish) = server.OptionRequest wish.option wish.body
as_heard (Orders order) = asks_of order.type order.flags order.cookie order.offset order.length order.payload
as_heard Stray = server.Stray

-- with its bytes
abbrev pub heard_of : (extended : Bool) → Said → Heard
heard_of extended said = record { size = size_of extended said; said = as_heard said }

-- A session that is open hears what a transcript reads, thing by thing and by the same bytes, unless it hears that they are no client's.
abbrev pub HeardAsRead : Type 0
HeardAsRead = (stage : Stage) (extended : Bool) (bytes : List ℕ) → IsBytes bytes → is_closed stage ≡ false → says stage extended bytes ≢ Some stray →
    says stage extended bytes ≡ option_map (heard_of extended) (client.says false (is_greeted stage) extended bytes)
