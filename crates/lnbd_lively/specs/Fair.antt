-- What a client may say to a session so that it hears a client: at which stage, and within which limits.
use Rattle.std.specs.Prelude.{◌≡◌, ◌≢◌, ◌⊎◌, ℕ, ◌≤◌, ◌<◌, Bool, true, false, List, [], ◌∷◌, ◌++◌, length, Some, is_some, ◌==◌}
use Rattle.lnbd_records.specs.Limits.{max_data}
use Rattle.lnbd_records.specs.Options.{opt_abort, opt_export_name}
use Rattle.lnbd_export.specs.Export.{Export}
use Rattle.lnbd_export.specs.declared.request.Agreed.{Agreed}
use Rattle.lnbd_link.specs.Call.{Call, Connect, Listen, Accept, Read, Write, Pause, Shut, Sent, Full, WriteFault}
use Rattle.lnbd_link.specs.Traffic.{bytes_written}
use Rattle.lnbd_asked.specs.Link.{Both, is_extended, kind_of}
use Rattle.lnbd_asked.specs.Transcript.{after_call, untold}
use Rattle.lnbd_asked.specs.Client.{Said, Flags, Wishes, Orders, Stray, spell, Fits}
use Rattle.lnbd_server.specs.Client.{stray, says, are_client_flags, max_option_request, max_client}
use Rattle.lnbd_server.specs.declared.stage.Offers.{Offers}
use Rattle.lnbd_server.specs.declared.stage.Stage.{Stage}
use Rattle.lnbd_server.specs.declared.stage.Stage.TheVariants.{Greeting, Haggling, Serving}
use Rattle.lnbd_server.specs.Options.{option_answer}
use Rattle.lnbd_server.specs.Session.{is_closed}
use Rattle.lnbd_memnet.specs.Network.{Network, link_in}
use Rattle.lnbd_memnet.specs.Wires.{Came}
use Rattle.lnbd_spoken.specs.Speaking.{MaySay, SpeaksWell}
use Rattle.lnbd_history.specs.Events.{History}
use Rattle.lnbd_lively.specs.Lively.{AreServable, HasMore, IsDrivenNow, WaitsToRead}

-- The flags are those that a client may have, and data are no longer than is read.
abbrev pub IsWithin : Said → Type 0
IsWithin (Flags flags) = are_client_flags flags ≡ true
IsWithin (Wishes wish) = length wish.body ≤ max_option_request
IsWithin (Orders order) = length order.payload ≤ max_data
IsWithin Stray = ⊥

-- the stage of the session at which this is waited for
abbrev pub ComesAt : Said → Stage → Type 0
ComesAt (Flags flags) stage = stage ≡ Greeting
ComesAt (Wishes wish) stage = stage ≡ Haggling
ComesAt (Orders order) stage = stage ≡ Serving
ComesAt Stray stage = ⊥

-- A session that waits for this never hears its bytes, nor a front of them, as bytes that are no client's.
abbrev pub FrontsAreHeard : Type 0
FrontsAreHeard = (stage : Stage) (extended : Bool) (one : Said) (front rest : List ℕ) → ComesAt one stage → Fits extended one → IsWithin one → front ++ rest ≡ spell extended one → says stage extended front ≢ Some stray

-- An option, but ABORT and EXPORT_NAME, leaves a session open.
abbrev pub OptionsLeaveOpen : Type 0
OptionsLeaveOpen = (offers : Offers) (export : Export) (no_zeroes : Bool) (agreed : Agreed) (option : ℕ) (body : List ℕ) → (option == opt_export_name) ≡ false → (option == opt_abort) ≡ false →
    is_closed (option_answer offers export no_zeroes agreed option body).stage ≡ false

-- The session goes on once it has heard this.
abbrev pub GoesOn : Said → Type 0
GoesOn (Flags flags) = Unit {0}
GoesOn (Wishes wish) = ((wish.option == opt_export_name) ≡ false) × ((wish.option == opt_abort) ≡ false)
GoesOn (Orders order) = is_some (kind_of order.type) ≡ true
GoesOn Stray = ⊥

-- The flags are said first, and once.
abbrev pub IsInTurn : (greeted : Bool) → Said → Type 0
IsInTurn greeted (Flags flags) = greeted ≡ false
IsInTurn greeted (Wishes wish) = greeted ≡ true
IsInTurn greeted (Orders order) = greeted ≡ true
IsInTurn greeted Stray = ⊥

-- These bytes go on with one thing, or begin it, which may be said now, is within the limits, and by which the session goes on.
pub record GoesOnWith (both : Both) (bytes : List ℕ) : Type 0 where
  pub one : Said
  pub rest : List ℕ
  pub spelled : (both.written ++ bytes) ++ rest ≡ spell (is_extended both.link) one
  pub part : length both.written < length (spell (is_extended both.link) one)
  pub fits : Fits (is_extended both.link) one
  pub within : IsWithin one
  pub goes : GoesOn one
  pub turn : IsInTurn both.link.greeted one
  pub may : MaySay both.link one

abbrev pub SaysFairly : ℕ → Both → Call → Type 0
SaysFairly link both (Write n offered (Sent bytes)) = n ≡ link → (bytes ≡ []) ⊎ GoesOnWith both bytes
SaysFairly link both (Write n offered Full) = Unit {0}
SaysFairly link both (Write n offered WriteFault) = Unit {0}
SaysFairly link both (Read n room answer) = Unit {0}
SaysFairly link both (Connect to given) = Unit {0}
SaysFairly link both (Listen at given) = Unit {0}
SaysFairly link both (Accept n answer) = Unit {0}
SaysFairly link both (Pause wants) = Unit {0}
SaysFairly link both (Shut n) = Unit {0}

abbrev pub SpeaksFairlyFrom : ℕ → Both → List Call → Type 0
SpeaksFairlyFrom link both [] = Unit {0}
SpeaksFairlyFrom link both (call ∷ calls) = SaysFairly link both call × SpeaksFairlyFrom link (after_call link both call) calls

-- The client of this link says one thing after another so, and no more bytes than a session takes.
pub record SpeaksFairly (link : ℕ) (calls : List Call) : Type 0 where
  pub says : SpeaksFairlyFrom link untold calls
  pub few : length (bytes_written link calls) ≤ max_client

-- Then its session isn't at its end.
abbrev pub FairSessionsGoOn : Type 0
FairSessionsGoOn = (calls : List Call) (network : Network) (link : ℕ) → Came calls network → AreServable network → ((l : ℕ) → SpeaksWell l calls) → SpeaksFairly link calls →
    is_closed (link_in network.links link).session.dialogue.stage ≡ false

-- So where a handle waits only to read, and its client said nothing by which a session ends, the session has something to send.
abbrev pub ServedAnswer : Type 0 → Type 0
ServedAnswer K = (calls : List Call) (network : Network) (link : ℕ) (history : History K) → Came calls network → AreServable network → ((l : ℕ) → SpeaksWell l calls) → (link_in network.links link).opened ≡ true →
    SpeaksFairly link calls → IsDrivenNow link history calls → WaitsToRead history → HasMore (link_in network.links link).session
