-- Where no connect fails, each gave a link; and a step that connects to nothing keeps it so.
use Rattle.std.proofs.Common.{◌≡◌, ℕ, List, [], ◌∷◌, Option, Some, refl, sym, subst}
use Rattle.lnbd_link.specs.Call.{Call, Connect, Listen, Accept, Read, Write, Pause, Shut}
use Rattle.lnbd_link.specs.Part.{Adds}
use Rattle.lnbd_model.specs.declared.target.Target.{Target}
use Rattle.lnbd_poll.specs.Held.{Held}
use Rattle.lnbd_board.specs.declared.ticket.Ticket.{Ticket}
use Rattle.lnbd_board.specs.Files as board
use Rattle.lnbd_conduct.specs.Links.{AllConnected}
use Rattle.lnbd_usage.specs.Links.{targets}
use Rattle.lnbd_copy.specs.Connects.{StaysConnected}
use Rattle.lnbd_copy.specs.Giving.{GivesNone}
use Rattle.lnbd_copy.specs.Links.{LinksGo}
use Rattle.lnbd_copy.specs.Way.{Goes, Stand}
use Rattle.lnbd_conduct.specs.Told.{Told}
use Rattle.lnbd_copy.proofs.RefusalLemmas.{connected_more}
use Rattle.lnbd_copy.proofs.TurnLemmas.{since_on, told_begins, told_on}

-- Calls that connect to nothing.
nowhere_connected : (calls : List Call) → targets calls ≡ [] → AllConnected calls
nowhere_connected [] none = refl
nowhere_connected (Connect to link ∷ calls) none = absurd (some_none none)
  where
    some_none : (to ∷ targets calls) ≡ [] → ⊥
    some_none e = cc
nowhere_connected (Listen at listener ∷ calls) none = nowhere_connected calls none
nowhere_connected (Accept listener answer ∷ calls) none = nowhere_connected calls none
nowhere_connected (Read link room answer ∷ calls) none = nowhere_connected calls none
nowhere_connected (Write link offered answer ∷ calls) none = nowhere_connected calls none
nowhere_connected (Pause wants ∷ calls) none = nowhere_connected calls none
nowhere_connected (Shut link ∷ calls) none = nowhere_connected calls none

-- Steps.

pub connected_none : (told : Option (List Call)) → StaysConnected told told
connected_none told = record { on = λ start is. is }

pub connected_then : (a b c : Option (List Call)) → StaysConnected a b → StaysConnected b c → StaysConnected a c
connected_then a b c one two = record { on = λ start is. two.on start (one.on start is) }

pub connected_same : (a b : Option (List Call)) → b ≡ a → StaysConnected a b
connected_same a b same = subst (StaysConnected a) (sym same) (connected_none a)

pub connected_adds : (a b : Option (List Call)) (to : Target) (link : ℕ) → Adds a b (Connect to (Some link)) → StaysConnected a b
connected_adds a b to link adds = record { on = λ start is. told_on start a b (Connect to (Some link)) adds (λ calls one. connected_more calls (Connect to (Some link) ∷ []) one refl) is }

pub connected_links : (held held2 : List (Held Ticket)) (a b : Option (List Call)) → LinksGo [] held a held2 b → StaysConnected a b
connected_links held held2 a b go = record {
  on = λ start is. record {
    since = λ all told.
        let more = (go.connects a [] (told_begins a refl)).since all told in
        let was = is.since more.before more.was in
        since_on start more.before all more.calls more.now was (connected_more was.calls more.calls was.is (nowhere_connected more.calls more.is));
  };
}

-- Calls of which none is a connect that failed.
pub gives_connected : (a b : Option (List Call)) → GivesNone a b → StaysConnected a b
gives_connected a b gives = record {
  on = λ start is. record {
    since = λ all told.
        let gave = gives.on all told in
        let was = is.since gave.before gave.was in
        since_on start gave.before all gave.more gave.are was (connected_more was.calls gave.more was.is gave.connected);
  };
}

pub goes_connected : (now now' : board.Seen) (held held' : List (Held Ticket)) (a b : Option (List Call)) → Goes now held a now' held' b → Stand held → StaysConnected a b
goes_connected now now' held held' a b goes stand = gives_connected a b (goes.gives stand)

pub connected_begins : (a b : Option (List Call)) → StaysConnected a b → Told a b AllConnected
connected_begins a b stays = stays.on a (told_begins a refl)
