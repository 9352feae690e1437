-- Handles that do nothing by which their session ends: they ask for no end, and the server knows GO.
use Rattle.std.specs.Prelude.{◌≡◌, ℕ, ◌≤◌, Bool, true, false, ◌||◌, List, [], ◌∷◌, length, All}
use Rattle.lnbd_history.specs.declared.kinds.Phase.{Phase}
use Rattle.lnbd_history.specs.declared.kinds.Phase.TheVariants.{Greeting, Asked, AskedByName, OptMode, Ready, Refused}
use Rattle.lnbd_history.specs.Agreement.{Turn, phase}
use Rattle.lnbd_history.specs.Events.{History, Disconnect}
use Rattle.lnbd_history.specs.History.{reading}
use Rattle.lnbd_link.specs.Call.{Call, ReadTold}
use Rattle.lnbd_link.specs.Traffic.{bytes_written}
use Rattle.lnbd_server.specs.Client.{max_client}
use Rattle.lnbd_memnet.specs.Laws.{WasWanted, reads_on}
use Rattle.lnbd_memnet.specs.Network.{Network, link_in}
use Rattle.lnbd_memnet.specs.Plays.{Reads}
use Rattle.lnbd_memnet.specs.Schedule.{Moves}
use Rattle.lnbd_memnet.specs.Wires.{Came}
use Rattle.lnbd_spoken.specs.Speaking.{SpeaksWell}
use Rattle.lnbd_lively.specs.Fair.{SpeaksFairly}
use Rattle.lnbd_lively.specs.Lively.{AreServable, HasMore, IsDrivenNow, WaitsToRead}
use Rattle.lnbd_lively.specs.Moving.{BringsBytes}

-- EXPORT_NAME is unanswered: a handle asks it where GO was refused as unknown.
abbrev pub is_named : Phase → Bool
is_named Greeting = false
is_named (Asked option) = false
is_named AskedByName = true
is_named OptMode = false
is_named Ready = false
is_named (Refused code) = false

-- it was asked, after any of these turns
abbrev pub was_named : List Turn → Bool
was_named [] = false
was_named (turn ∷ before) = is_named (phase (turn ∷ before)) || was_named before

module _ {K : Type 0} where
  -- no disconnect was asked for
  abbrev pub AsksNoEnd : History K → Type 0
  AsksNoEnd [] = Unit {0}
  AsksNoEnd (Disconnect ∷ before) = ⊥
  AsksNoEnd (event ∷ before) = AsksNoEnd before

  -- Nothing was said by which a session ends: no end was asked for, nor EXPORT_NAME.
  pub record EndsNothing (history : History K) : Type 0 where
    pub goes : AsksNoEnd history
    pub known : was_named (reading history).known.turns ≡ false

-- A handle that drives a link so says one thing after another, each as it may and within a session's limits.
abbrev pub DrivenSpeakFairly : Type 0 → Type 0
DrivenSpeakFairly K = (link : ℕ) (calls : List Call) (history : History K) → IsDrivenNow link history calls → EndsNothing history → length (bytes_written link calls) ≤ max_client → SpeaksFairly link calls

-- Over served wires it never asks EXPORT_NAME, as GO is known there, so it is enough that it asks for no end.
abbrev pub ServedSpeakFairly : Type 0 → Type 0
ServedSpeakFairly K = (calls : List Call) (network : Network) (link : ℕ) (history : History K) → Came calls network → AreServable network → ((l : ℕ) → SpeaksWell l calls) → (link_in network.links link).opened ≡ true →
    IsDrivenNow link history calls → AsksNoEnd history → length (bytes_written link calls) ≤ max_client → SpeaksFairly link calls

-- So where it waits only to read, its session has something to send.
abbrev pub DrivenAnswer : Type 0 → Type 0
DrivenAnswer K = (calls : List Call) (network : Network) (link : ℕ) (history : History K) → Came calls network → AreServable network → ((l : ℕ) → SpeaksWell l calls) → (link_in network.links link).opened ≡ true →
    IsDrivenNow link history calls → AsksNoEnd history → length (bytes_written link calls) ≤ max_client → WaitsToRead history → HasMore (link_in network.links link).session

-- And a read brings bytes that it waits for, the first of its link since a pause that wanted it.
abbrev pub DrivenReadsBring : Type 0 → Type 0
DrivenReadsBring K = (n room : ℕ) (calls since : List Call) (network after : Network) (history : History K) (answer : ReadTold) → Came calls network → AreServable network → ((l : ℕ) → SpeaksWell l calls) → (link_in network.links n).opened ≡ true →
    IsDrivenNow n history calls → AsksNoEnd history → length (bytes_written n calls) ≤ max_client → WaitsToRead history → WasWanted n since network → All (λ call. reads_on n call ≡ false) since →
    Moves network.schedule → 1 ≤ room → Reads network n room answer after → BringsBytes answer
