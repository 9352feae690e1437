-- What is told of a map at the end, and the calls from the connect to the shut.
use Rattle.std.proofs.Common.{◌≡◌, ◌≤◌, ◌^◌, ℕ, true, List, [], ◌∷◌, ◌++◌, Option, Some, None, Result, Ok, Err, refl, sym, ap, subst, arith}
use Rattle.std.specs.List.{list_any}
use Rattle.lnbd_model.specs.declared.export.Extent.{Extent}
use Rattle.lnbd_model.specs.declared.state.Cause.TheVariants as cause
use Rattle.lnbd_model.specs.declared.target.Place.{Place}
use Rattle.lnbd_extents.specs.Lists.{span}
use Rattle.lnbd_info.specs.Map.{AreFilled}
use Rattle.lnbd_info.proofs.MapLemmas.{filled}
use Rattle.lnbd_link.specs.Call as wire
use Rattle.lnbd_link.specs.Call.{Connect, Shut}
use Rattle.lnbd_link.specs.Count.{Rises}
use Rattle.lnbd_link.specs.Listed.{has_failed}
use Rattle.lnbd_link.specs.Part.{Adds}
use Rattle.lnbd_link.proofs.Parts.{grows_none, grows_on}
use Rattle.lnbd_poll.specs.Turns.{Blames}
use Rattle.lnbd_ask.specs.declared.fault.InfoFault.{InfoFault}
use Rattle.lnbd_ask.specs.declared.fault.InfoFault.TheVariants as fault
use Rattle.lnbd_ask.specs.declared.stops.Stop.{Stop}
use Rattle.lnbd_ask.specs.declared.stops.Stop.TheVariants as stop
use Rattle.lnbd_ask.specs.Asks.{IfLink}
use Rattle.lnbd_ask.specs.Conduct.{Map}
use Rattle.lnbd_ask.proofs.AskedLemmas.{has_done_nothing, has_not_connected}
use Rattle.lnbd_ask.proofs.MapConduct.{maps_conduct}
use Rattle.lnbd_ask.specs.Maps.{Has_discussed, IsOfStop, Learned, Lesson, Mapped, Not_begun, Not_connected, Not_held, Stopped, TellsMap}
use Rattle.lnbd_ask.specs.MapSteps.{IsLesson, MappedOn, Talked_over}

-- ---- What is told.

pub tells_map : (lesson : Lesson) (map : List Extent) → IsLesson lesson (Ok tt) map → TellsMap lesson (Ok map)
tells_map (Learned info all) map is = (map, refl, is)
tells_map (Stopped why) map is = absurd is

pub tells_fault : (lesson : Lesson) (map : List Extent) (why : Stop) (told : InfoFault) → IsLesson lesson (Err why) map → IsOfStop why told → TellsMap lesson (Err told)
tells_fault (Learned info all) map why told is of = absurd is
tells_fault (Stopped stopped) map why told is of = (told, refl, subst (λ (s : Stop). IsOfStop s told) (sym is) of)

pub lesson_room : (lesson : Lesson) (map : List Extent) → IsLesson lesson (Ok tt) map → span map ≤ 2 ^ 63
lesson_room (Learned info all) map is = omega (arith, is.spans, is.small)
lesson_room (Stopped why) map is = absurd is

pub lesson_filled : (lesson : Lesson) (map : List Extent) → IsLesson lesson (Ok tt) map → AreFilled map
lesson_filled (Learned info all) map is = filled map is.counts.joined
lesson_filled (Stopped why) map is = absurd is

-- the same extents under another name
pub lesson_in : (lesson : Lesson) (end : Result (Unit {0}) Stop) (map map' : List Extent) → map' ≡ map → IsLesson lesson end map → IsLesson lesson end map'
lesson_in lesson end map map' same is = subst (λ (l : List Extent). IsLesson lesson end l) (sym same) is

pub lesson_stopped : (lesson : Lesson) (map : List Extent) (why : Stop) → IsLesson lesson (Err why) map → lesson ≡ Stopped why
lesson_stopped (Learned info all) map why is = absurd is
lesson_stopped (Stopped stopped) map why is = ap (λ (s : Stop). Stopped s) is

-- A link that failed raised the count of faults.
pub stop_rose : (told : InfoFault) (why : Stop) (start now f g : ℕ) (calls : List wire.Call) → (why ≡ stop.Died cause.LinkFailed → list_any has_failed calls ≡ true) → Blames calls f g → start ≤ f → now ≡ g
    → IfLink told (λ before after. (why ≡ stop.Died cause.LinkFailed) × (before ≡ start) × (after ≡ now)) → IfLink told (λ before after. (before ≡ start) × Rises 1 before after × (after ≤ g))
stop_rose (fault.Link before after) why start now f g calls lost blames later same tells =
    let rose : Rises 1 f g = blames (lost tells.0) in
    (tells.1, omega (arith, tells.1, tells.2, same, later, rose), omega (arith, tells.2, same))
stop_rose fault.NoMemory why start now f g calls lost blames later same tells = tt
stop_rose (fault.Broke broken) why start now f g calls lost blames later same tells = tt
stop_rose (fault.Peer option code) why start now f g calls lost blames later same tells = tt
stop_rose (fault.Silent idles) why start now f g calls lost blames later same tells = tt
stop_rose fault.NoContext why start now f g calls lost blames later same tells = tt

-- ---- The calls.

module _ (place : Place) (context : List ℕ) where
  pub mapped_on : (a b c : Option (List wire.Call)) (link : ℕ) (answer : Result (List Extent) InfoFault) → Talked_over link place context a b answer → Adds b c (Shut link) → MappedOn link place context a c answer
  mapped_on a b c link answer talked shut = record {
    calls = talked.calls ++ Shut link ∷ [];
    grown = grows_on a b c talked.calls (Shut link ∷ []) talked.grown shut;
    maps = Has_discussed (Connect place.to (Some link) ∷ (talked.calls ++ Shut link ∷ [])) answer link talked.calls talked.after talked.lesson talked.discusses talked.going talked.tells refl;
  }

  pub mapped_none : (a c : Option (List wire.Call)) (link : ℕ) (answer : Result (List Extent) InfoFault) → answer ≡ Err fault.NoMemory → Adds a c (Shut link) → MappedOn link place context a c answer
  mapped_none a c link answer short shut = record { calls = Shut link ∷ []; grown = shut; maps = Not_held (Connect place.to (Some link) ∷ Shut link ∷ []) answer link refl short }

  pub mapped : (a b c : Option (List wire.Call)) (link : ℕ) (answer : Result (List Extent) InfoFault) → Adds a b (Connect place.to (Some link)) → MappedOn link place context b c answer → Mapped place context a c answer
  mapped a b c link answer told on = record {
    calls = Connect place.to (Some link) ∷ on.calls;
    grown = grows_on a b c (Connect place.to (Some link) ∷ []) on.calls told on.grown;
    conducts = maps_conduct place context (Connect place.to (Some link) ∷ on.calls) answer on.maps;
    maps = on.maps;
  }

  pub unmapped : (a b : Option (List wire.Call)) (answer : Result (List Extent) InfoFault) (before after : ℕ) → answer ≡ Err (fault.Link before after) → Adds a b (Connect place.to None) → Mapped place context a b answer
  unmapped a b answer before after is told = record { calls = Connect place.to None ∷ []; grown = told; conducts = has_not_connected (Map context) place; maps = Not_connected (Connect place.to None ∷ []) answer refl (fault.Link before after, is, (before, after, refl)) }

  pub not_mapped : (a : Option (List wire.Call)) (answer : Result (List Extent) InfoFault) → answer ≡ Err fault.NoMemory → Mapped place context a a answer
  not_mapped a answer is = record { calls = []; grown = grows_none a; conducts = has_done_nothing (Map context) place; maps = Not_begun [] answer refl is }

-- the same context under another name
pub mapped_in : (place : Place) (context context' : List ℕ) (a b : Option (List wire.Call)) (answer : Result (List Extent) InfoFault) → context' ≡ context → Mapped place context' a b answer → Mapped place context a b answer
mapped_in place context context' a b answer same mapped = subst (λ (x : List ℕ). Mapped place x a b answer) same mapped
