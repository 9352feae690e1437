-- A served session knows GO: it refuses it where the name isn't its export's, but never as an option that it doesn't know.
use Rattle.std.specs.Prelude.{◌≡◌, ℕ, Bool, true, false, ◌&&◌, ◌||◌, List, [], ◌∷◌, Option, Some, None, ◌==◌}
use Rattle.lnbd_records.specs.Options.{err_unsup, opt_go}
use Rattle.lnbd_history.specs.declared.kinds.Stage.TheVariants.{Open}
use Rattle.lnbd_history.specs.Agreement.{Turn, Hello, Replied, ByName, Set, Opted, End, Acknowledged, Failed, end_of, phase}
use Rattle.lnbd_history.specs.Arrivals.{is_asked}
use Rattle.lnbd_link.specs.Call.{Call}
use Rattle.lnbd_asked.specs.Transcript.{on_link}
use Rattle.lnbd_server.specs.Session.{is_closed}
use Rattle.lnbd_memnet.specs.Network.{Network, link_in}
use Rattle.lnbd_memnet.specs.Wires.{Came}
use Rattle.lnbd_spoken.specs.Speaking.{SpeaksWell}
use Rattle.lnbd_lively.specs.Lively.{AreServable}

-- the answer ends so: the option isn't known
abbrev pub is_unknown : Option End → Bool
is_unknown None = false
is_unknown (Some Acknowledged) = false
is_unknown (Some (Failed code)) = code == err_unsup

-- GO was refused so
abbrev pub was_unknown : List Turn → Bool
was_unknown [] = false
was_unknown (Replied told ∷ before) = (is_asked opt_go (phase before) && is_unknown (end_of told)) || was_unknown before
was_unknown (Hello ∷ before) = was_unknown before
was_unknown (ByName size flags ∷ before) = was_unknown before
was_unknown (Set one ∷ before) = was_unknown before
was_unknown (Opted option ∷ before) = was_unknown before

-- On a link whose session isn't at its end it never was, whatever is read of it early or late.
abbrev pub GoIsKnown : Type 0
GoIsKnown = (calls : List Call) (network : Network) (link : ℕ) → Came calls network → AreServable network → ((l : ℕ) → SpeaksWell l calls) → (link_in network.links link).opened ≡ true →
    is_closed (link_in network.links link).session.dialogue.stage ≡ false → (on_link link calls).heard.stage ≡ Open → was_unknown (on_link link calls).heard.turns ≡ false
