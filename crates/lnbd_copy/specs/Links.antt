-- What the calls of a copy do with links: which they use, which of them are open, and where they are connected to.
use Rattle.std.specs.Prelude.{◌≡◌, ℕ, ◌+◌, ◌==◌, false, List, [], ◌∷◌, ◌++◌, map, Option}
use Rattle.std.specs.List.{list_any}
use Rattle.lnbd_link.specs.Call.{Call}
use Rattle.lnbd_link.specs.Numbers.{is_open}
use Rattle.lnbd_model.specs.declared.target.Target.{Target}
use Rattle.lnbd_poll.specs.Held.{Held}
use Rattle.lnbd_board.specs.declared.ticket.Ticket.{Ticket}
use Rattle.lnbd_copy.specs.Lasting.{Lasts}
use Rattle.lnbd_conduct.specs.Told.{Told}
use Rattle.lnbd_conduct.specs.Links.{once_if, ConnectTo}
use Rattle.lnbd_usage.specs.Links.{serves, UseOpenLinks}

-- Between two steps.

-- the links of handles that are held
abbrev pub links_of : List (Held Ticket) → List ℕ
links_of held = map (λ one. one.link) held

-- how often a link is among these
abbrev pub times : (link : ℕ) → List ℕ → ℕ
times link [] = 0
times link (one ∷ others) = once_if (one == link) + times link others

-- So far links were used while they were open alone, and those that are open are the links of the handles that are held, of one handle each.
pub record LinksStand (held : List (Held Ticket)) (calls : List Call) : Type 0 where
  pub used : UseOpenLinks calls
  pub opened : (link : ℕ) → times link (links_of held) ≡ once_if (is_open link calls)
  pub none : list_any serves calls ≡ false

-- A step that keeps it so, from wherever the calls are counted, and that connects to these addresses, one after another.
pub record LinksGo (to : List Target) (held : List (Held Ticket)) (told : Option (List Call)) (held' : List (Held Ticket)) (told' : Option (List Call)) : Type 0 where
  pub on : (start : Option (List Call)) → Told start told (LinksStand held) → Told start told' (LinksStand held')
  pub connects : (start : Option (List Call)) (before : List Target) → Told start told (ConnectTo before) → Told start told' (ConnectTo (before ++ to))
  pub lasts : Lasts told told'

-- A step that keeps it so, and that connects to the first of these addresses, or to all.
pub record LinksGoTo (all : List Target) (held : List (Held Ticket)) (told : Option (List Call)) (held' : List (Held Ticket)) (told' : Option (List Call)) : Type 0 where
  pub to : List Target
  pub others : List Target
  pub are : all ≡ to ++ others
  pub go : LinksGo to held told held' told'

-- A step without a call: the handles that are held have the links that they had.
pub record HaveSameLinks (held held' : List (Held Ticket)) : Type 0 where
  pub same : links_of held' ≡ links_of held
