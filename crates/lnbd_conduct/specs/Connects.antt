-- How many connections a copy makes to each side, and how each was driven, as its options and what both sides told say.
use Rattle.std.specs.Prelude.{◌-◌, List, ◌∷◌, ◌++◌, replicate, ◌≡◌, ◌⊎◌, ◌≤◌, ◌&&◌, Bool, true, length}
use Rattle.lnbd_model.specs.declared.target.Place.{Place}
use Rattle.lnbd_model.specs.declared.target.Target.{Target}
use Rattle.lnbd_link.specs.Call as wire
use Rattle.lnbd_plan.specs.declared.options.CopyOptions.{CopyOptions}
use Rattle.lnbd_conduct.specs.declared.sides.Sides.{Sides}
use Rattle.lnbd_conduct.specs.Links.{ConnectTo}
use Rattle.lnbd_usage.specs.Links.{targets}
use Rattle.lnbd_conduct.specs.Settled.{IsToldFirst, Settled}
use Rattle.lnbd_conduct.specs.Terms.{sides_by, takes_flush}
use Rattle.lnbd_conduct.specs.Driven.{AreDrivenTo, given_links, AreLeft}
use Rattle.lnbd_conduct.specs.Sides.{is_source}

-- with so many connections to each side: the source's first, the destination's first, and behind them the others of the source, and then those of the destination
abbrev pub connected_to : (from to : Place) → Sides → List Target
connected_to from to sides = from.to ∷ to.to ∷ replicate (sides.source - 1) from.to ++ replicate (sides.destination - 1) to.to

-- one connection to each side
abbrev pub one_each : Sides
one_each = record { source = 1; destination = 1 }

-- These calls connect to both places alone, to each once or as often as the options and what both sides told say; not all of these connections need be made.
pub record ConnectsWithin (options : CopyOptions) (from to : Place) (calls : List wire.Call) : Type 0 where
  pub sides : Sides
  pub many : (sides ≡ one_each) ⊎ IsToldFirst options.extents from to (λ source destination. sides ≡ sides_by options source destination) calls
  pub others : List Target
  pub are : connected_to from to sides ≡ targets calls ++ others

-- They connect to each place as often as the options and what both sides told say.
abbrev pub ConnectsAsTold : CopyOptions → (from to : Place) → List wire.Call → Type 0
ConnectsAsTold options from to calls = IsToldFirst options.extents from to (λ source destination. ConnectTo (connected_to from to (sides_by options source destination)) calls) calls

-- These calls gave links to the source's first connection, the destination's first, and behind them to the others of the source, and then to those of the destination, as many
-- as the options and what both sides told say, or the first two alone; each was driven as a copy does, and none was to end before all was copied, as far as the options tell that the destination is zero, and it was flushed, unless the options or what it told want no flush.
pub record AreDrivenBy (options : CopyOptions) (from to : Place) (calls : List wire.Call) : Type 0 where
  pub sides : Sides
  pub many : (length (given_links calls) ≤ 2) ⊎ IsToldFirst options.extents from to (λ source destination. sides ≡ sides_by options source destination) calls
  pub flush : Bool
  pub wanted : (flush ≡ true) ⊎ IsToldFirst options.extents from to (λ source destination. flush ≡ (options.flush && takes_flush destination)) calls
  pub are : AreDrivenTo (is_source sides) options.extents options.destination_is_zero flush from to calls

-- By these calls no connection ended before all was copied, as far as the options tell that the destination is zero, and it was flushed, where the options and what it told want that; and each was left well then.
abbrev pub AreLeftBy : CopyOptions → (from to : Place) → List wire.Call → Type 0
AreLeftBy options from to calls = Settled options.extents from to (λ source destination. AreLeft options.extents options.destination_is_zero (options.flush && takes_flush destination) from to calls) calls
