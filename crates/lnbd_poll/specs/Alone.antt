-- What a turn is to each handle alone.
use Rattle.std.specs.Prelude.{◌≡◌, ◌≢◌, ◌⊎◌, ℕ, List, [], ◌∷◌, filter, Option, Some, None}
use Rattle.lnbd_callbacks.specs.Calls.{Call}
use Rattle.lnbd_link.specs.Call as wire
use Rattle.lnbd_link.specs.Call.{Connect, Listen, Accept, Read, Write, Pause, Shut}
use Rattle.lnbd_link.specs.Numbers.{is_number}
use Rattle.lnbd_poll.specs.declared.noticed.Noticed.{Noticed}
use Rattle.lnbd_poll.specs.Seen.{Seen}
use Rattle.lnbd_poll.specs.Turns.{TurnsOne}

-- the link that a call reads or writes
abbrev pub link_of : wire.Call → Option ℕ
link_of (Connect to link) = None
link_of (Listen at listener) = None
link_of (Accept listener answer) = None
link_of (Read link room answer) = Some link
link_of (Write link offered answer) = Some link
link_of (Pause wants) = None
link_of (Shut link) = None

-- the reads and writes of a link
abbrev pub calls_on : ℕ → List wire.Call → List wire.Call
calls_on link calls = filter (λ call. is_number link (link_of call)) calls

-- None of the handles has this link.
abbrev pub AreApart : {K : Type 0} → ℕ → List (Seen K) → Type 0
AreApart link [] = Unit {0}
AreApart link (seen ∷ others) = (seen.link ≢ link) × AreApart link others

-- No two handles have the same link.
abbrev pub HaveOwnLinks : {K : Type 0} → List (Seen K) → Type 0
HaveOwnLinks [] = Unit {0}
HaveOwnLinks (seen ∷ others) = AreApart seen.link others × HaveOwnLinks others

-- These calls are a handle's part of a turn, between some worlds of its callbacks.
pub record Took {K World : Type 0} (steps : World → List (Call K) → World → Type 0) (before : Seen K) (calls : List wire.Call) (after : Seen K) : Type 0 where
  pub notice : Noticed
  pub world : World
  pub world' : World
  pub moved : Option ℕ
  pub turns : TurnsOne steps notice before world calls after world' moved

-- Each handle took its part by the calls on its own link, or was not tried.
abbrev pub EachTook : {K World : Type 0} → (World → List (Call K) → World → Type 0) → List wire.Call → (before after : List (Seen K)) → Type 0
EachTook steps calls [] [] = Unit {0}
EachTook steps calls [] (here ∷ there) = ⊥
EachTook steps calls (seen ∷ others) [] = ⊥
EachTook steps calls (seen ∷ others) (here ∷ there) = (Took steps seen (calls_on seen.link calls) here ⊎ ((calls_on seen.link calls ≡ []) × (here ≡ seen))) × EachTook steps calls others there
