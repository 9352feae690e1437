-- Where a copy connects to, and how often.
use Rattle.std.specs.Prelude.{◌≡◌, ◌⊎◌, List, Option}
use Rattle.lnbd_link.specs.Call as wire
use Rattle.lnbd_model.specs.declared.target.Place.{Place}
use Rattle.lnbd_plan.specs.declared.options.CopyOptions.{CopyOptions}
use Rattle.lnbd_poll.specs.Held.{Held}
use Rattle.lnbd_board.specs.declared.ticket.Ticket.{Ticket}
use Rattle.lnbd_conduct.specs.declared.sides.Sides.{Sides}
use Rattle.lnbd_conduct.specs.declared.terms.Terms.{Terms}
use Rattle.lnbd_conduct.specs.Links.{AllConnected}
use Rattle.lnbd_copy.specs.Links.{LinksGo, LinksGoTo}
use Rattle.lnbd_copy.specs.Settled.{HasTerms}
use Rattle.lnbd_conduct.specs.Told.{Told}
use Rattle.lnbd_conduct.specs.Connects.{connected_to, one_each}

-- A step keeps it so that each connect gave a link, from wherever the calls are counted.
pub record StaysConnected (told told' : Option (List wire.Call)) : Type 0 where
  pub on : (start : Option (List wire.Call)) → Told start told AllConnected → Told start told' AllConnected

-- Both sides settled so many connections.
pub record HasSettledOn (options : CopyOptions) (from to : Place) (told told' : Option (List wire.Call)) (sides : Sides) : Type 0 where
  pub terms : Terms
  pub settled : HasTerms options from to told told' terms
  pub are : sides ≡ terms.sides

-- Steps from the start on did so, and kept their links.
pub record LinksGoWithin (options : CopyOptions) (from to : Place) (held : List (Held Ticket)) (told : Option (List wire.Call)) (held' : List (Held Ticket)) (told' : Option (List wire.Call)) : Type 0 where
  pub sides : Sides
  pub many : (sides ≡ one_each) ⊎ HasSettledOn options from to told told' sides
  pub go : LinksGoTo (connected_to from to sides) held told held' told'

pub record LinksGoAsTold (options : CopyOptions) (from to : Place) (held : List (Held Ticket)) (told : Option (List wire.Call)) (held' : List (Held Ticket)) (told' : Option (List wire.Call)) : Type 0 where
  pub terms : Terms
  pub settled : HasTerms options from to told told' terms
  pub go : LinksGo (connected_to from to terms.sides) held told held' told'
  pub connected : Told told told' AllConnected
