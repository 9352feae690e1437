-- What links and listeners answered since a byte last moved and since the pause before.
use Rattle.std.specs.Prelude.{ℕ, Bool, true, false, not, ◌&&◌, ◌||◌, ◌==◌, List, [], ◌∷◌}
use Rattle.lnbd_link.specs.declared.wires.Accepted.{Accepted}
use Rattle.lnbd_link.specs.declared.wires.Accepted.TheVariants as accepted
use Rattle.lnbd_link.specs.Call.{Call, Connect, Listen, Accept, Read, Write, Pause, Shut, ReadTold, Moved, Unready, Ended, ReadFault, WriteTold, Sent, Full, WriteFault}

abbrev pub is_moved : ReadTold → Bool
is_moved (Moved bytes) = true
is_moved Unready = false
is_moved Ended = false
is_moved ReadFault = false

abbrev pub is_unready : ReadTold → Bool
is_unready (Moved bytes) = false
is_unready Unready = true
is_unready Ended = false
is_unready ReadFault = false

abbrev pub is_sent : WriteTold → Bool
is_sent (Sent bytes) = true
is_sent Full = false
is_sent WriteFault = false

abbrev pub is_full : WriteTold → Bool
is_full (Sent bytes) = false
is_full Full = true
is_full WriteFault = false

abbrev pub is_nobody : Accepted → Bool
is_nobody (accepted.Link link) = false
is_nobody accepted.NotReady = true
is_nobody accepted.Failed = false

-- bytes moved, or there was a pause
abbrev pub is_moving : Call → Bool
is_moving (Connect to link) = false
is_moving (Listen at listener) = false
is_moving (Accept listener answer) = false
is_moving (Read n room answer) = is_moved answer
is_moving (Write n offered answer) = is_sent answer
is_moving (Pause wants) = true
is_moving (Shut n) = false

-- a read of this link was answered NotReady
abbrev pub is_unread : ℕ → Call → Bool
is_unread link (Connect to given) = false
is_unread link (Listen at listener) = false
is_unread link (Accept listener answer) = false
is_unread link (Read n room answer) = (n == link) && is_unready answer
is_unread link (Write n offered answer) = false
is_unread link (Pause wants) = false
is_unread link (Shut n) = false

-- a write on this link was answered NotReady
abbrev pub is_unwritten : ℕ → Call → Bool
is_unwritten link (Connect to given) = false
is_unwritten link (Listen at listener) = false
is_unwritten link (Accept listener answer) = false
is_unwritten link (Read n room answer) = false
is_unwritten link (Write n offered answer) = (n == link) && is_full answer
is_unwritten link (Pause wants) = false
is_unwritten link (Shut n) = false

-- an accept on this listener was answered NotReady
abbrev pub is_unasked : ℕ → Call → Bool
is_unasked listener (Connect to given) = false
is_unasked listener (Listen at given) = false
is_unasked listener (Accept n answer) = (n == listener) && is_nobody answer
is_unasked listener (Read n room answer) = false
is_unasked listener (Write n offered answer) = false
is_unasked listener (Pause wants) = false
is_unasked listener (Shut n) = false

-- There was such a call after the last one that moved bytes and the last pause.
abbrev pub since : (Call → Bool) → Bool → List Call → Bool
since p was [] = was
since p was (call ∷ calls) = since p (p call || (not (is_moving call) && was)) calls

abbrev pub was_since : (Call → Bool) → List Call → Bool
was_since p calls = since p false calls
