-- What is told at the end, and the calls from the connect to the shut.
use Rattle.std.proofs.Common.{◌≡◌, ◌≢◌, ◌⊎◌, inl, inr, ◌≤◌, ℕ, true, List, [], ◌∷◌, ◌++◌, Option, Some, None, Result, Ok, Err, refl, sym, ◌∙◌, ap, subst, arith}
use Rattle.std.specs.Prelude.{IfErr}
use Rattle.std.specs.List.{list_any}
use Rattle.lnbd_model.specs.declared.export.ExportInfo.{ExportInfo}
use Rattle.lnbd_model.specs.declared.state.Cause.{Cause}
use Rattle.lnbd_model.specs.declared.state.Cause.TheVariants as cause
use Rattle.lnbd_model.specs.declared.state.State.{State}
use Rattle.lnbd_model.specs.declared.state.State.TheVariants as state
use Rattle.lnbd_model.specs.declared.target.Place.{Place}
use Rattle.lnbd_callbacks.specs.Calls.{Call}
use Rattle.lnbd_machine.specs.Machine.{Machine}
use Rattle.lnbd_standing.specs.Standing.{StandsFor}
use Rattle.lnbd_info.specs.declared.told.Found.{Found}
use Rattle.lnbd_link.specs.Call as wire
use Rattle.lnbd_link.specs.Call.{Connect, Shut}
use Rattle.lnbd_link.specs.Count.{Rises}
use Rattle.lnbd_link.specs.Listed.{has_failed}
use Rattle.lnbd_link.specs.Part.{Adds}
use Rattle.lnbd_link.proofs.Parts.{grows_none, grows_on}
use Rattle.lnbd_poll.specs.Held.{Held}
use Rattle.lnbd_poll.specs.Seen.{Seen}
use Rattle.lnbd_poll.specs.Turns.{Blames}
use Rattle.lnbd_waits.specs.declared.waiting.Halt.{Halt}
use Rattle.lnbd_waits.specs.declared.waiting.Halt.TheVariants as halt
use Rattle.lnbd_ask.specs.declared.fault.InfoFault.{InfoFault}
use Rattle.lnbd_ask.specs.declared.fault.InfoFault.TheVariants as fault
use Rattle.lnbd_ask.specs.declared.quiet.Quiet.{Quiet}
use Rattle.lnbd_ask.specs.Asks.{Collected, CollectedOn, Collects, Conversed, Has_talked, IfLink, IsGoing, IsOfDeath, IsOfHalt, Not_begun, Not_connected, Not_held, Tells, TellsExport, begins, begun}
use Rattle.lnbd_ask.specs.Conduct.{Export}
use Rattle.lnbd_ask.proofs.AskedLemmas.{has_done_nothing, has_not_connected}
use Rattle.lnbd_ask.proofs.ConductLemmas.{collects_conduct}
use Rattle.lnbd_waits.specs.Waits.{Holds}

-- A link that failed raised the count of faults.
pub link_rose : (answer : Result Found InfoFault) (start now f g : ℕ) (at : State) (calls : List wire.Call) → (at ≡ state.Dead cause.LinkFailed → list_any has_failed calls ≡ true) → Blames calls f g → start ≤ f → now ≡ g
    → IfErr answer (λ told. IfLink told (λ before after. (at ≡ state.Dead cause.LinkFailed) × (before ≡ start) × (after ≡ now)))
    → IfErr answer (λ told. IfLink told (λ before after. (before ≡ start) × Rises 1 before after × (after ≤ g)))
link_rose (Ok found) start now f g at calls lost blames later same tells = tells
link_rose (Err (fault.Link before after)) start now f g at calls lost blames later same tells =
    let rose : Rises 1 f g = blames (lost tells.0) in
    (tells.1, omega (arith, tells.1, tells.2, same, later, rose), omega (arith, tells.2, same))
link_rose (Err fault.NoMemory) start now f g at calls lost blames later same tells = tt
link_rose (Err (fault.Broke broken)) start now f g at calls lost blames later same tells = tt
link_rose (Err (fault.Peer option code)) start now f g at calls lost blames later same tells = tt
link_rose (Err (fault.Silent idles)) start now f g at calls lost blames later same tells = tt
link_rose (Err fault.NoContext) start now f g at calls lost blames later same tells = tt

-- The one handle that is held has a history that it may have.
pub held_going : {K : Type 0} (all : List (Held K)) (seen : Seen K) → Holds all seen → IsGoing seen.history
held_going [] seen at = absurd at
held_going (held ∷ others) seen at = (at.0.stands.lawful, at.0.stands.going)

-- The one handle that is held is about to ask.
pub held_begins : {K : Type 0} (all all' : List (Held K)) (link : ℕ) (handle : Machine K) (name context : List ℕ) → all ≡ [] → all' ≡ all ++ record { link = link; handle = handle; inbox = [] } ∷ [] → StandsFor 1024 (begun name context) handle → Holds all' (begins link name context)
held_begins {K} all all' link handle name context none added stands =
    let one : all' ≡ record { link = link; handle = handle; inbox = [] } ∷ [] = added ∙ ap (λ (l : List (Held K)). l ++ record { link = link; handle = handle; inbox = [] } ∷ []) none in
    subst (λ (l : List (Held K)). Holds l (begins link name context)) (sym one) (record { link = refl; stands = stands; unread = refl }, tt)

module _ {World : Type 0} (steps : World → List (Call Quiet) → World → Type 0) (place : Place) where
  pub collected_on : (a b c : Option (List wire.Call)) (link : ℕ) (answer : Result Found InfoFault) → Conversed steps link place a b answer → Adds b c (Shut link) → CollectedOn steps link place a c answer
  collected_on a b c link answer conversed shut = record {
    calls = conversed.calls ++ Shut link ∷ [];
    grown = grows_on a b c conversed.calls (Shut link ∷ []) conversed.grown shut;
    collects = Has_talked (Connect place.to (Some link) ∷ (conversed.calls ++ Shut link ∷ [])) answer link conversed.world conversed.calls conversed.after conversed.world' conversed.end conversed.talks conversed.going conversed.tells refl;
  }

  pub collected_none : (a c : Option (List wire.Call)) (link : ℕ) (answer : Result Found InfoFault) → answer ≡ Err fault.NoMemory → Adds a c (Shut link) → CollectedOn steps link place a c answer
  collected_none a c link answer short shut = record { calls = Shut link ∷ []; grown = shut; collects = Not_held (Connect place.to (Some link) ∷ Shut link ∷ []) answer link refl short }

  pub connected : (a b c : Option (List wire.Call)) (link : ℕ) (answer : Result Found InfoFault) → Adds a b (Connect place.to (Some link)) → CollectedOn steps link place b c answer → Collected steps place a c answer
  connected a b c link answer told on = record {
    calls = Connect place.to (Some link) ∷ on.calls;
    grown = grows_on a b c (Connect place.to (Some link) ∷ []) on.calls told on.grown;
    conducts = collects_conduct steps place (Connect place.to (Some link) ∷ on.calls) answer on.collects;
    collects = on.collects;
  }

  pub not_connected : (a b : Option (List wire.Call)) (answer : Result Found InfoFault) (before after : ℕ) → answer ≡ Err (fault.Link before after) → Adds a b (Connect place.to None) → Collected steps place a b answer
  not_connected a b answer before after is told = record { calls = Connect place.to None ∷ []; grown = told; conducts = has_not_connected Export place; collects = Not_connected (Connect place.to None ∷ []) answer refl (fault.Link before after, is, (before, after, refl)) }

  pub not_begun : (a : Option (List wire.Call)) (answer : Result Found InfoFault) → answer ≡ Err fault.NoMemory → Collected steps place a a answer
  not_begun a answer is = record { calls = []; grown = grows_none a; conducts = has_done_nothing Export place; collects = Not_begun [] answer refl is }

-- A context that is not agreed is no fault here.

no_context : (answer : Result Found InfoFault) (told : InfoFault) → answer ≡ Err told → told ≢ fault.NoContext → IfErr answer (λ told. told ≢ fault.NoContext)
no_context (Ok found) told is other = tt
no_context (Err why) told is other = λ e. other (cc (is, e))

pub halt_context : (why : Halt) (told : InfoFault) → IsOfHalt why told → told ≢ fault.NoContext
halt_context halt.Silent told is e = absurd (cc (is.1, e))
halt_context halt.NoMemory told is e = absurd (cc (is, e))

pub death_context : (why : Cause) (told : InfoFault) → IsOfDeath why told → told ≢ fault.NoContext
death_context (cause.Broke breach) told is e = absurd (cc (is, e))
death_context (cause.Refused option code) told is e = absurd (cc (is, e))
death_context cause.Ended told is e = absurd (cc (is, e))
death_context cause.LinkFailed told is e = absurd (cc (is.2, e))

ok_or_short : (told : InfoFault) (found : Found) (answer : Result Found InfoFault) → answer ≡ Err told → (answer ≡ Ok found) ⊎ (answer ≡ Err fault.NoMemory) → told ≡ fault.NoContext → ⊥
ok_or_short told found answer is (inl ok) e = cc (is, ok)
ok_or_short told found answer is (inr short) e = cc (is, short, e)

export_context : (info : Option ExportInfo) (place : Place) (answer : Result Found InfoFault) → TellsExport info place answer → IfErr answer (λ told. told ≢ fault.NoContext)
export_context info place (Ok found) tells = tt
export_context None place (Err told) tells = λ e. absurd (cc (tells, e))
export_context (Some info) place (Err told) tells = λ e. ok_or_short told (record { info = info; place = place }) (Err told) refl tells e

tells_context : (end : Result (Unit {0}) Halt) (at : State) (info : Option ExportInfo) (place : Place) (answer : Result Found InfoFault) → Tells end at info place answer → IfErr answer (λ told. told ≢ fault.NoContext)
tells_context (Err why) at info place answer tells = no_context answer tells.0 tells.1 (halt_context why tells.0 tells.2)
tells_context (Ok done) (state.Dead why) info place answer tells = no_context answer tells.0 tells.1 (death_context why tells.0 tells.2)
tells_context (Ok done) state.Created info place answer tells = export_context info place answer tells
tells_context (Ok done) state.Negotiating info place answer tells = export_context info place answer tells
tells_context (Ok done) state.OptMode info place answer tells = export_context info place answer tells
tells_context (Ok done) state.Ready info place answer tells = export_context info place answer tells
tells_context (Ok done) state.Closing info place answer tells = export_context info place answer tells
tells_context (Ok done) state.Closed info place answer tells = export_context info place answer tells

pub collects_context : {World : Type 0} (steps : World → List (Call Quiet) → World → Type 0) (place : Place) (calls : List wire.Call) (answer : Result Found InfoFault) → Collects steps place calls answer → IfErr answer (λ told. told ≢ fault.NoContext)
collects_context steps place calls answer (Not_begun _ _ none short) = no_context answer fault.NoMemory short (λ e. absurd (cc e))
collects_context steps place calls answer (Not_connected _ _ made lost) = no_context answer lost.0 lost.1 (death_context cause.LinkFailed lost.0 lost.2)
collects_context steps place calls answer (Not_held _ _ link made short) = no_context answer fault.NoMemory short (λ e. absurd (cc e))
collects_context steps place calls answer (Has_talked _ _ link world talk after world' end talks going tells made) = tells_context end _ _ place answer tells
