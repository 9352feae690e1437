-- What a transcript says of one link: where it was connected to, and which bytes came and went over it.
use Rattle.std.specs.Prelude.{ℕ, ◌==◌, List, [], ◌∷◌, Option, Some, None, if◌then◌else◌}
use Rattle.std.specs.List.{flat_map}
use Rattle.lnbd_model.specs.declared.target.Target.{Target}
use Rattle.lnbd_link.specs.Call.{Call, Connect, Listen, Accept, Read, Write, Pause, Shut}
use Rattle.lnbd_link.specs.Room.{moved_by, sent_by}

-- the bytes that came over the link by a call
abbrev pub came_by : ℕ → Call → List ℕ
came_by link (Connect to given) = []
came_by link (Listen at given) = []
came_by link (Accept n answer) = []
came_by link (Read n room answer) = if n == link then moved_by answer else []
came_by link (Write n offered answer) = []
came_by link (Pause wants) = []
came_by link (Shut n) = []

-- the bytes that went over the link by a call
abbrev pub went_by : ℕ → Call → List ℕ
went_by link (Connect to given) = []
went_by link (Listen at given) = []
went_by link (Accept n answer) = []
went_by link (Read n room answer) = []
went_by link (Write n offered answer) = if n == link then sent_by answer else []
went_by link (Pause wants) = []
went_by link (Shut n) = []

-- all bytes that came over the link
abbrev pub bytes_read : ℕ → List Call → List ℕ
bytes_read link calls = flat_map (came_by link) calls

-- all bytes that went over the link
abbrev pub bytes_written : ℕ → List Call → List ℕ
bytes_written link calls = flat_map (went_by link) calls

-- the address, if this is the number that a connect gave
abbrev pub if_number : ℕ → Option ℕ → Target → Option Target → Option Target
if_number link None to other = other
if_number link (Some n) to other = if n == link then Some to else other

-- where the link was connected to, if a connect gave its number
abbrev pub target_of : ℕ → List Call → Option Target
target_of link [] = None
target_of link (Connect to given ∷ calls) = if_number link given to (target_of link calls)
target_of link (Listen at given ∷ calls) = target_of link calls
target_of link (Accept n answer ∷ calls) = target_of link calls
target_of link (Read n room answer ∷ calls) = target_of link calls
target_of link (Write n offered answer ∷ calls) = target_of link calls
target_of link (Pause wants ∷ calls) = target_of link calls
target_of link (Shut n ∷ calls) = target_of link calls
