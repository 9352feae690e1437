-- How a client speaks that one handle drives: its flags once it was greeted, with NO_ZEROES where that is offered, one option after another,
-- requests once they may be made and in order of their cookies, and nothing after the end.
use Rattle.std.specs.Prelude.{◌≡◌, ℕ, true, List, [], ◌∷◌, Option, Some, None}
use Rattle.lnbd_model.specs.declared.kind.Kind.{Kind}
use Rattle.lnbd_records.specs.Flags.{flag_no_zeroes}
use Rattle.lnbd_records.specs.Numbers.{has_bit}
use Rattle.lnbd_records.specs.Transmission.{type_disc}
use Rattle.lnbd_stream.specs.Stream.{things, trace}
use Rattle.lnbd_history.specs.declared.kinds.Phase.TheVariants.{Ready}
use Rattle.lnbd_history.specs.declared.kinds.Stage.TheVariants.{Open}
use Rattle.lnbd_history.specs.Agreement.{phase}
use Rattle.lnbd_link.specs.Call.{Call, Connect, Listen, Accept, Read, Write, Pause, Shut, Sent, Full, WriteFault}
use Rattle.lnbd_asked.specs.Client.{Said, Flags, Wishes, Orders, Stray, Order}
use Rattle.lnbd_asked.specs.Link.{Link, Both, client, said, kind_of, next}
use Rattle.lnbd_asked.specs.Laws.{is_waiting}
use Rattle.lnbd_asked.specs.Transcript.{after_call, untold}

-- the next request; one without an answer is DISC
abbrev pub IsNext : Option Kind → Order → Link → Type 0
IsNext None order link = order.type ≡ type_disc
IsNext (Some kind) order link = order.cookie ≡ next link

-- This may be said now.
abbrev pub MaySay : Link → Said → Type 0
MaySay link (Flags flags) = (link.heard.stage ≡ Open) × (is_waiting link ≡ true) × (has_bit flag_no_zeroes link.heard.flags ≡ true → has_bit flag_no_zeroes flags ≡ true)
MaySay link (Wishes wish) = (link.heard.stage ≡ Open) × (is_waiting link ≡ true)
MaySay link (Orders order) = (link.heard.stage ≡ Open) × (phase link.heard.turns ≡ Ready) × IsNext (kind_of order.type) order link
MaySay link Stray = ⊥

abbrev pub AllMaySay : Link → List Said → Type 0
AllMaySay link [] = Unit {0}
AllMaySay link (one ∷ more) = MaySay link one × AllMaySay (said one link) more

-- what becomes whole by the bytes of a call may be said one after another
abbrev pub SaysWell : ℕ → Both → Call → Type 0
SaysWell link both (Write n offered (Sent bytes)) = n ≡ link → AllMaySay both.link (things (trace client (record { known = both.link; pending = both.written }) bytes))
SaysWell link both (Write n offered Full) = Unit {0}
SaysWell link both (Write n offered WriteFault) = Unit {0}
SaysWell link both (Read n room answer) = Unit {0}
SaysWell link both (Connect to given) = Unit {0}
SaysWell link both (Listen at given) = Unit {0}
SaysWell link both (Accept n answer) = Unit {0}
SaysWell link both (Pause wants) = Unit {0}
SaysWell link both (Shut n) = Unit {0}

abbrev pub SpeaksFrom : ℕ → Both → List Call → Type 0
SpeaksFrom link both [] = Unit {0}
SpeaksFrom link both (call ∷ calls) = SaysWell link both call × SpeaksFrom link (after_call link both call) calls

-- The client of this link speaks so.
abbrev pub SpeaksWell : ℕ → List Call → Type 0
SpeaksWell link calls = SpeaksFrom link untold calls
