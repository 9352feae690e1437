-- What is told at the end of a listing, and the calls from the connect to the shut.
use Rattle.std.proofs.Common.{◌≡◌, ◌≢◌, ◌≤◌, ◌==◌, ℕ, Bool, true, false, List, [], ◌∷◌, ◌++◌, Option, Some, None, Result, Ok, Err, refl, sym, ◌∙◌, ap, subst, arith}
use Rattle.std.specs.Prelude.{IfErr, if◌then◌else◌}
use Rattle.std.specs.List.{list_any}
use Rattle.lnbd_model.specs.declared.export.Listed.{Listed}
use Rattle.lnbd_model.specs.declared.state.Cause.TheVariants as cause
use Rattle.lnbd_model.specs.declared.state.State.{State}
use Rattle.lnbd_model.specs.declared.state.State.TheVariants as state
use Rattle.lnbd_model.specs.declared.target.Place.{Place}
use Rattle.lnbd_records.specs.Options.{opt_info, opt_list}
use Rattle.lnbd_callbacks.specs.Calls.{Call}
use Rattle.lnbd_history.specs.declared.kinds.OptAnswer.{OptAnswer}
use Rattle.lnbd_history.specs.declared.kinds.OptAnswer.TheVariants as opt
use Rattle.lnbd_history.specs.Answers.{listed_after, state_after}
use Rattle.lnbd_history.specs.Events.{Abort, History, Name, Opt, Set}
use Rattle.lnbd_history.specs.Laws.{may_name}
use Rattle.lnbd_info.specs.declared.told.Entry.{Entry}
use Rattle.lnbd_link.specs.Call as wire
use Rattle.lnbd_link.specs.Call.{Connect, Shut}
use Rattle.lnbd_link.specs.Count.{Rises}
use Rattle.lnbd_link.specs.Listed.{has_failed}
use Rattle.lnbd_link.specs.Part.{Adds}
use Rattle.lnbd_link.proofs.Parts.{grows_none, grows_on}
use Rattle.lnbd_machine.specs.Machine.{Machine}
use Rattle.lnbd_standing.specs.Standing.{StandsFor}
use Rattle.lnbd_poll.specs.Held.{Held}
use Rattle.lnbd_poll.specs.Seen.{Seen}
use Rattle.lnbd_poll.specs.Turns.{Blames}
use Rattle.lnbd_waits.specs.declared.waiting.Awaited.TheVariants as awaited
use Rattle.lnbd_waits.specs.declared.waiting.Halt.{Halt}
use Rattle.lnbd_ask.specs.declared.fault.InfoFault.{InfoFault}
use Rattle.lnbd_ask.specs.declared.fault.InfoFault.TheVariants as fault
use Rattle.lnbd_ask.specs.declared.quiet.Quiet.{Quiet}
use Rattle.lnbd_ask.specs.Asks.{IfLink}
use Rattle.lnbd_ask.specs.Conduct.{Exports}
use Rattle.lnbd_ask.proofs.AskedLemmas.{has_done_nothing, has_not_connected}
use Rattle.lnbd_ask.proofs.ConductLemmas.{lists_conduct}
use Rattle.lnbd_poll.specs.States.{is_opt_mode}
use Rattle.lnbd_ask.specs.Lists.{AsksEach, AsksFor, NegotiatesList, Breaks_off, GivesUp, HasInquired, HasListed, HasListedOn, Has_inquired, Inquires, Lists, None_left, Not_begun, Not_connected, Not_held, Runs_short, Tells, TellsAt, TellsEntries, aborting, answered, asking, begins_listing, begun_listing, entry_after, naming}
use Rattle.lnbd_ask.specs.Parts.{Acted, Acts, Follows, Gives, Part, Stops, Then, no_value}
use Rattle.lnbd_waits.specs.Waits.{Holds}
use Rattle.lnbd_ask.proofs.EndLemmas.{death_context, halt_context}
use Rattle.lnbd_ask.proofs.LostLemmas.{AllWell, IsKept, lost_stage, waits_kept, well_first, well_later}

-- A handle dies by a failed link only where a call failed.

module _ {K World : Type 0} where
  -- Where no call fails, a handle that was not dead by a failed link is not so afterwards.
  abbrev Keeping : {A : Type 0} → Part K World A → Type 0
  Keeping {A} part = (before : Seen K) (world : World) (calls : List wire.Call) (after : Seen K) (world' : World) (end : Result A Halt) → part before world calls after world' end → AllWell calls → IsKept before.history → IsKept after.history

  then_kept : {A B : Type 0} (First : Part K World A) (Second : A → Part K World B) → Keeping First → ((value : A) → Keeping (Second value)) → Keeping (Then First Second)
  then_kept First Second one two before world calls after world' end (Stops _ _ _ _ _ _ why first is) well kept = one before world calls after world' (Err why) first well kept
  then_kept First Second one two before world calls after world' end (Follows _ _ _ _ _ _ value own middle half other first second made) well kept =
      let well' = subst AllWell made well in
      two value middle half other after world' end second (well_later own other well') (one before world own middle half (Ok value) first (well_first own other well') kept)

  acts_kept : {A : Type 0} (act : Seen K → Seen K) (value : Seen K → A) → ((seen : Seen K) → IsKept seen.history → IsKept (act seen).history) → Keeping (Acts {World = World} act value)
  acts_kept {A} act value keeps before world calls after world' end acts well kept = go end acts.acted
    where
      go : (end : Result A Halt) → Acted act value end before after → IsKept after.history
      go (Ok given) a = subst (λ (s : Seen K). IsKept s.history) (sym a.0) (keeps before kept)
      go (Err why) a = subst (λ (s : Seen K). IsKept s.history) (sym a.0) kept

  gives_kept : {A : Type 0} (value : A) → Keeping (Gives {World = World} value)
  gives_kept value before world calls after world' end gives well kept = subst (λ (s : Seen K). IsKept s.history) (sym gives.stays) kept

module _ {K : Type 0} where
  opted_kept : (b : Bool) (option : ℕ) (history : History K) → IsKept history → IsKept (if b then Opt option ∷ history else history)
  opted_kept true option history kept = kept
  opted_kept false option history kept = kept

  named_kept : (b : Bool) (name : List ℕ) (history : History K) → IsKept history → IsKept (if b then Set (Name name) ∷ history else history)
  named_kept true name history kept = kept
  named_kept false name history kept = kept

  aborted_kept : (b : Bool) (history : History K) → IsKept history → IsKept (if b then Abort ∷ history else history)
  aborted_kept true history kept = refl
  aborted_kept false history kept = kept

module _ {K World : Type 0} (steps : World → List (Call K) → World → Type 0) where
  asking_kept : (option : ℕ) → Keeping {K = K} {World = World} (Acts (asking option) no_value)
  asking_kept option = acts_kept (asking option) no_value (λ seen kept. opted_kept (is_opt_mode (state_after seen.history)) option seen.history kept)

  stays_kept : {A : Type 0} (value : Seen K → A) → Keeping {K = K} {World = World} (Acts (λ (seen : Seen K). seen) value)
  stays_kept value = acts_kept (λ seen. seen) value (λ seen kept. kept)

  for_kept : (one : Listed) → Keeping (AsksFor steps one)
  for_kept one =
      then_kept _ _ (acts_kept (naming one.name) no_value (λ seen kept. named_kept (may_name (state_after seen.history)) one.name seen.history kept))
      (λ named. then_kept _ _ (asking_kept opt_info) (λ asked. then_kept _ _ (waits_kept steps awaited.Answers) (λ told. stays_kept (entry_after one))))

  each_kept : (names : List Listed) → Keeping (AsksEach steps names)
  each_kept names before world calls after world' end (None_left _ _ _ _ _ _ _ none same made world_is is) well kept = subst (λ (s : Seen K). IsKept s.history) (sym same) kept
  each_kept names before world calls after world' end (Runs_short _ _ _ _ _ _ _ same made world_is is) well kept = subst (λ (s : Seen K). IsKept s.history) (sym same) kept
  each_kept names before world calls after world' end (Breaks_off _ _ _ _ _ _ _ one others why split asks is) well kept = for_kept one before world calls after world' (Err why) asks well kept
  each_kept names before world calls after world' end (Tells _ _ _ _ _ _ _ one others entry own middle half other rest split asks more made is) well kept =
      let well' = subst AllWell made well in
      each_kept others middle half other after world' rest more (well_later own other well') (for_kept one before world own middle half (Ok entry) asks (well_first own other well') kept)

  list_kept : Keeping (NegotiatesList steps)
  list_kept = then_kept _ _ (waits_kept steps awaited.Answers) (λ stands. then_kept _ _ (asking_kept opt_list) (λ asked. then_kept _ _ (waits_kept steps awaited.Answers) (λ told. stays_kept (λ seen. listed_after seen.history))))

  up_kept : Keeping (GivesUp steps)
  up_kept = then_kept _ _ (acts_kept aborting no_value (λ seen kept. aborted_kept (is_opt_mode (state_after seen.history)) seen.history kept)) (λ asked. waits_kept steps awaited.End)

  inquires_kept : Keeping (Inquires steps)
  inquires_kept = then_kept _ _ list_kept (λ names. then_kept _ _ (each_kept names) (λ entries. then_kept _ _ up_kept (λ ended. gives_kept entries)))

  -- From the start: where it died by a failed link, a call failed.
  pub inquiry_lost : (link : ℕ) (world : World) (calls : List wire.Call) (after : Seen K) (world' : World) (end : Result (List Entry) Halt) → Inquires steps (begins_listing link) world calls after world' end
      → state_after after.history ≡ state.Dead cause.LinkFailed → list_any has_failed calls ≡ true
  inquiry_lost link world calls after world' end inquires lost = go (list_any has_failed calls) refl
    where
      go : (b : Bool) → list_any has_failed calls ≡ b → b ≡ true
      go true is = refl
      go false is = sym (inquires_kept (begins_listing link) world calls after world' end inquires is refl) ∙ lost_stage _ _ lost

-- What is told.

-- A link that failed raised the count of faults.
pub failure_rose : {A : Type 0} (answer : Result A InfoFault) (start now f g : ℕ) (at : State) (calls : List wire.Call) → (at ≡ state.Dead cause.LinkFailed → list_any has_failed calls ≡ true) → Blames calls f g → start ≤ f → now ≡ g
    → IfErr answer (λ told. IfLink told (λ before after. (at ≡ state.Dead cause.LinkFailed) × (before ≡ start) × (after ≡ now)))
    → IfErr answer (λ told. IfLink told (λ before after. (before ≡ start) × Rises 1 before after × (after ≤ g)))
failure_rose (Ok found) start now f g at calls lost blames later same tells = tells
failure_rose (Err (fault.Link before after)) start now f g at calls lost blames later same tells =
    let rose : Rises 1 f g = blames (lost tells.0) in
    (tells.1, omega (arith, tells.1, tells.2, same, later, rose), omega (arith, tells.2, same))
failure_rose (Err fault.NoMemory) start now f g at calls lost blames later same tells = tt
failure_rose (Err (fault.Broke broken)) start now f g at calls lost blames later same tells = tt
failure_rose (Err (fault.Peer option code)) start now f g at calls lost blames later same tells = tt
failure_rose (Err (fault.Silent idles)) start now f g at calls lost blames later same tells = tt
failure_rose (Err fault.NoContext) start now f g at calls lost blames later same tells = tt

-- What is told where the conversation came to its end.
pub told_at : (inquired : Result (List Entry) Halt) (entries : List Entry) (at at' : State) (last last' : Option OptAnswer) (answer : Result (List Entry) InfoFault) → inquired ≡ Ok entries → at ≡ at' → last ≡ last' → TellsAt at last entries answer → TellsEntries inquired at' last' answer
told_at inquired entries at at' last last' answer is same same' tells =
    subst (λ (r : Result (List Entry) Halt). TellsEntries r at' last' answer) (sym is)
    (subst (λ (s : State). TellsAt s last' entries answer) same (subst (λ (o : Option OptAnswer). TellsAt at o entries answer) same' tells))

pub told_failure : (at at' : State) (answer : Result (List Entry) InfoFault) (start now : ℕ) → at ≡ at' → IfErr answer (λ told. IfLink told (λ before after. (at ≡ state.Dead cause.LinkFailed) × (before ≡ start) × (after ≡ now)))
    → IfErr answer (λ told. IfLink told (λ before after. (at' ≡ state.Dead cause.LinkFailed) × (before ≡ start) × (after ≡ now)))
told_failure at at' answer start now same tells = subst (λ (s : State). IfErr answer (λ told. IfLink told (λ before after. (s ≡ state.Dead cause.LinkFailed) × (before ≡ start) × (after ≡ now)))) same tells

-- The one handle that is held is about to ask.
pub held_begins_listing : {K : Type 0} (all all' : List (Held K)) (link : ℕ) (handle : Machine K) → all ≡ [] → all' ≡ all ++ record { link = link; handle = handle; inbox = [] } ∷ [] → StandsFor 1024 begun_listing handle → Holds all' (begins_listing link)
held_begins_listing {K} all all' link handle none added stands =
    let one : all' ≡ record { link = link; handle = handle; inbox = [] } ∷ [] = added ∙ ap (λ (l : List (Held K)). l ++ record { link = link; handle = handle; inbox = [] } ∷ []) none in
    subst (λ (l : List (Held K)). Holds l (begins_listing link)) (sym one) (record { link = refl; stands = stands; unread = refl }, tt)

module _ {World : Type 0} (steps : World → List (Call Quiet) → World → Type 0) (place : Place) where
  pub listed_on : (a b c : Option (List wire.Call)) (link : ℕ) (answer : Result (List Entry) InfoFault) → HasInquired steps link a b answer → Adds b c (Shut link) → HasListedOn steps link place a c answer
  listed_on a b c link answer had shut = record {
    calls = had.calls ++ Shut link ∷ [];
    grown = grows_on a b c had.calls (Shut link ∷ []) had.grown shut;
    lists = Has_inquired (Connect place.to (Some link) ∷ (had.calls ++ Shut link ∷ [])) answer link had.world had.calls had.after had.world' had.end had.inquires had.going had.tells refl;
  }

  pub listed_none : (a c : Option (List wire.Call)) (link : ℕ) (answer : Result (List Entry) InfoFault) → answer ≡ Err fault.NoMemory → Adds a c (Shut link) → HasListedOn steps link place a c answer
  listed_none a c link answer short shut = record { calls = Shut link ∷ []; grown = shut; lists = Not_held (Connect place.to (Some link) ∷ Shut link ∷ []) answer link refl short }

  pub listing_connected : (a b c : Option (List wire.Call)) (link : ℕ) (answer : Result (List Entry) InfoFault) → Adds a b (Connect place.to (Some link)) → HasListedOn steps link place b c answer → HasListed steps place a c answer
  listing_connected a b c link answer told on = record {
    calls = Connect place.to (Some link) ∷ on.calls;
    grown = grows_on a b c (Connect place.to (Some link) ∷ []) on.calls told on.grown;
    conducts = lists_conduct steps place (Connect place.to (Some link) ∷ on.calls) answer on.lists;
    lists = on.lists;
  }

  pub listing_not_connected : (a b : Option (List wire.Call)) (answer : Result (List Entry) InfoFault) (before after : ℕ) → answer ≡ Err (fault.Link before after) → Adds a b (Connect place.to None) → HasListed steps place a b answer
  listing_not_connected a b answer before after is told = record { calls = Connect place.to None ∷ []; grown = told; conducts = has_not_connected Exports place; lists = Not_connected (Connect place.to None ∷ []) answer refl (fault.Link before after, is, (before, after, refl)) }

  pub listing_not_begun : (a : Option (List wire.Call)) (answer : Result (List Entry) InfoFault) → answer ≡ Err fault.NoMemory → HasListed steps place a a answer
  listing_not_begun a answer is = record { calls = []; grown = grows_none a; conducts = has_done_nothing Exports place; lists = Not_begun [] answer refl is }

-- No context is asked for.

no_context : (answer : Result (List Entry) InfoFault) (told : InfoFault) → answer ≡ Err told → told ≢ fault.NoContext → IfErr answer (λ told. told ≢ fault.NoContext)
no_context (Ok found) told is other = tt
no_context (Err why) told is other = λ e. other (cc (is, e))

answered_context : (last : Option OptAnswer) (entries : List Entry) (answer : Result (List Entry) InfoFault) → answer ≡ answered last entries → IfErr answer (λ told. told ≢ fault.NoContext)
answered_context last entries (Ok told) is = tt
answered_context None entries (Err why) is = absurd (cc is)
answered_context (Some opt.Ok) entries (Err why) is = absurd (cc is)
answered_context (Some (opt.Refused option code)) entries (Err why) is = go (option == opt_list) is
  where
    go : (b : Bool) → Err why ≡ (if b then Err (fault.Peer (Some option) code) else Ok entries) → why ≢ fault.NoContext
    go true e same = absurd (cc (e, same))
    go false e same = absurd (cc e)

entries_context : (end : Result (List Entry) Halt) (at : State) (last : Option OptAnswer) (answer : Result (List Entry) InfoFault) → TellsEntries end at last answer → IfErr answer (λ told. told ≢ fault.NoContext)
entries_context (Err why) at last answer tells = no_context answer tells.0 tells.1 (halt_context why tells.0 tells.2)
entries_context (Ok entries) (state.Dead why) last answer tells = no_context answer tells.0 tells.1 (death_context why tells.0 tells.2)
entries_context (Ok entries) state.Created last answer tells = answered_context last entries answer tells
entries_context (Ok entries) state.Negotiating last answer tells = answered_context last entries answer tells
entries_context (Ok entries) state.OptMode last answer tells = answered_context last entries answer tells
entries_context (Ok entries) state.Ready last answer tells = answered_context last entries answer tells
entries_context (Ok entries) state.Closing last answer tells = answered_context last entries answer tells
entries_context (Ok entries) state.Closed last answer tells = answered_context last entries answer tells

pub lists_context : {World : Type 0} (steps : World → List (Call Quiet) → World → Type 0) (place : Place) (calls : List wire.Call) (answer : Result (List Entry) InfoFault) → Lists steps place calls answer → IfErr answer (λ told. told ≢ fault.NoContext)
lists_context steps place calls answer (Not_begun _ _ none short) = no_context answer fault.NoMemory short (λ e. absurd (cc e))
lists_context steps place calls answer (Not_connected _ _ made lost) = no_context answer lost.0 lost.1 (death_context cause.LinkFailed lost.0 lost.2)
lists_context steps place calls answer (Not_held _ _ link made short) = no_context answer fault.NoMemory short (λ e. absurd (cc e))
lists_context steps place calls answer (Has_inquired _ _ link world talk after world' end inquires going tells made) = entries_context end _ _ answer tells
