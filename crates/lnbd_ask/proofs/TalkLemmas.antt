-- A conversation on one link.
use Rattle.std.proofs.Common.{◌≡◌, ◌≤◌, ℕ, List, ◌++◌, Option, Result, Ok, Err, refl, sym, subst}
use Rattle.std.specs.Prelude.{IfErr}
use Rattle.lnbd_model.specs.declared.export.ExportInfo.{ExportInfo}
use Rattle.lnbd_model.specs.declared.state.Cause.TheVariants as cause
use Rattle.lnbd_model.specs.declared.target.Place.{Place}
use Rattle.lnbd_info.specs.declared.told.Found.{Found}
use Rattle.lnbd_ask.specs.declared.fault.InfoFault.{InfoFault}
use Rattle.lnbd_model.specs.declared.state.State.{State}
use Rattle.lnbd_model.specs.declared.state.State.TheVariants as state
use Rattle.lnbd_callbacks.specs.Calls.{Call}
use Rattle.lnbd_link.specs.Call as wire
use Rattle.lnbd_link.proofs.Parts.{grows_on}
use Rattle.lnbd_poll.specs.Held.{Held}
use Rattle.lnbd_poll.specs.Seen.{Goes, Seen}
use Rattle.lnbd_poll.proofs.TurnLemmas.{blames_on}
use Rattle.lnbd_waits.specs.declared.waiting.Awaited.TheVariants as awaited
use Rattle.lnbd_waits.specs.declared.waiting.Halt.{Halt}
use Rattle.lnbd_ask.specs.Asks.{Breaks_off, IfLink, Parts, Talked, Tells, TellsState, parting}
use Rattle.lnbd_waits.specs.Waits.{Holds, Waited, Waits}

module _ {K World : Type 0} (steps : World → List (Call K) → World → Type 0) where
  pub talk_breaks : (a b : Option (List wire.Call)) (f g : ℕ) (all all' : List (Held K)) (world world' : World) (why : Halt) → Goes a b (Holds all) (Holds all') (λ before calls after. Waited steps awaited.Answers f g (Err why) before world calls after world')
      → Goes a b (Holds all) (Holds all') (λ before calls after. Talked steps f g (Err why) before world calls after world')
  talk_breaks a b f g all all' world world' why goes seen at =
      let went = goes seen at in
      record {
        calls = went.calls;
        after = went.after;
        grown = went.grown;
        leads = record { talks = Breaks_off seen world went.calls went.after world' (Err why) why went.leads.waits refl; blames = went.leads.blames };
        at = went.at;
      }

  pub talk_parts : (a b c : Option (List wire.Call)) (f g h : ℕ) (all all' parted' all'' : List (Held K)) (world half world' : World) (end first : Result (Unit {0}) Halt) → first ≡ Ok tt → f ≤ g → g ≤ h → Goes a b (Holds all) (Holds all') (λ before calls after. Waited steps awaited.Answers f g first before world calls after half)
      → ((seen : Seen K) → Holds all' seen → Holds parted' (parting seen)) → Goes b c (Holds parted') (Holds all'') (λ before calls after. Waited steps awaited.Written g h end before half calls after world')
      → Goes a c (Holds all) (Holds all'') (λ before calls after. Talked steps f h end before world calls after world')
  talk_parts a b c f g h all all' parted' all'' world half world' end first is fg gh goes parts ends seen at =
      let one = goes seen at in
      let two = ends (parting one.after) (parts one.after one.at) in
      record {
        calls = one.calls ++ two.calls;
        after = two.after;
        grown = grows_on a b c one.calls two.calls one.grown two.grown;
        leads = record {
          talks = Parts seen world (one.calls ++ two.calls) two.after world' end one.calls one.after half two.calls (subst (λ (r : Result (Unit {0}) Halt). Waits steps awaited.Answers seen world one.calls one.after half r) is one.leads.waits) two.leads.waits refl;
          blames = blames_on one.calls two.calls f g h one.leads.blames two.leads.blames fg gh;
        };
        at = two.at;
      }

-- What is told where the conversation came to its end.
pub told_state : (talked : Result (Unit {0}) Halt) (at at' : State) (info info' : Option ExportInfo) (place : Place) (answer : Result Found InfoFault) → talked ≡ Ok tt → at ≡ at' → info ≡ info' → TellsState at info place answer → Tells talked at' info' place answer
told_state talked at at' info info' place answer is same same' tells =
    subst (λ (r : Result (Unit {0}) Halt). Tells r at' info' place answer) (sym is) (subst (λ (s : State). TellsState s info' place answer) same (subst (λ (i : Option ExportInfo). TellsState at i place answer) same' tells))

pub told_link : (at at' : State) (answer : Result Found InfoFault) (start now : ℕ) → at ≡ at' → IfErr answer (λ told. IfLink told (λ before after. (at ≡ state.Dead cause.LinkFailed) × (before ≡ start) × (after ≡ now)))
    → IfErr answer (λ told. IfLink told (λ before after. (at' ≡ state.Dead cause.LinkFailed) × (before ≡ start) × (after ≡ now)))
told_link at at' answer start now same tells = subst (λ (s : State). IfErr answer (λ told. IfLink told (λ before after. (s ≡ state.Dead cause.LinkFailed) × (before ≡ start) × (after ≡ now)))) same tells
