-- Acts on the one handle that is held.
use Rattle.std.proofs.Common.{◌≡◌, ◌≢◌, ◌==◌, ℕ, Bool, true, false, List, [], ◌∷◌, Option, Some, Result, Ok, Err, refl, sym, ◌∙◌, ap, subst}
use Rattle.std.specs.Prelude.{IfErr, OnOk, slice_get, if◌then◌else◌, ◌&&◌, not}
use Rattle.std.specs.Option.{option_map}
use Rattle.lnbd_model.specs.declared.export.ExportInfo.{ExportInfo}
use Rattle.lnbd_model.specs.declared.export.Listed.{Listed}
use Rattle.lnbd_model.specs.declared.state.State.{State}
use Rattle.lnbd_model.specs.declared.state.State.TheVariants as state
use Rattle.lnbd_records.specs.Options.{opt_set_meta_context}
use Rattle.lnbd_handle.specs.declared.kinds.OptFault.{OptFault}
use Rattle.lnbd_handle.specs.declared.kinds.OptFault.TheVariants as opt_fault
use Rattle.lnbd_handle.specs.declared.kinds.SetFault.{SetFault}
use Rattle.lnbd_handle.specs.declared.kinds.SetFault.TheVariants as set_fault
use Rattle.lnbd_handle.specs.Histories.{AddsOnOk, ForEach}
use Rattle.lnbd_handle.specs.Settings.{MayAsk, RefusesOption}
use Rattle.lnbd_history.specs.declared.kinds.OptAnswer.{OptAnswer}
use Rattle.lnbd_history.specs.Answers.{state_after}
use Rattle.lnbd_info.specs.declared.told.Entry.{Entry}
use Rattle.lnbd_history.specs.Events.{Abort, Event, History, Name, Opt, Set}
use Rattle.lnbd_history.specs.Laws.{may_name}
use Rattle.lnbd_machine.specs.Machine.{Machine}
use Rattle.lnbd_machine.specs.Now.{state_now}
use Rattle.lnbd_standing.specs.Standing.{StandsFor}
use Rattle.lnbd_standing.proofs.Standing.{stands_right}
use Rattle.lnbd_poll.specs.Held.{Held}
use Rattle.lnbd_poll.specs.Lends.{with_handle}
use Rattle.lnbd_poll.specs.Seen.{Seen}
use Rattle.lnbd_waits.specs.declared.waiting.Halt.{Halt}
use Rattle.lnbd_waits.specs.declared.waiting.Halt.TheVariants as halt
use Rattle.lnbd_poll.specs.States.{is_opt_mode}
use Rattle.lnbd_ask.specs.Lists.{aborting, asking, naming, short_of, told_by}
use Rattle.lnbd_ask.specs.Parts.{ActsOn, no_value}
use Rattle.lnbd_waits.specs.Waits.{Holds}
use Rattle.lnbd_waits.proofs.WaitLemmas.{at_handle}

abbrev pub entry_by : Listed → Option OptAnswer → Option ExportInfo → Entry
entry_by listed last info = record { listed = listed; told = told_by last info }

-- an entry, by what was told of it
pub entry_is : (listed : Listed) (last last' : Option OptAnswer) (info info' : Option ExportInfo) → last ≡ last' → info ≡ info' → entry_by listed last info ≡ entry_by listed last' info'
entry_is listed last last' info info' same same' = ap (λ (o : Option OptAnswer). entry_by listed o info) same ∙ ap (λ (i : Option ExportInfo). entry_by listed last' i) same'

opt_mode : (s : State) → s ≡ state.OptMode → is_opt_mode s ≡ true
opt_mode s is = ap is_opt_mode is

no_opt_mode : (s : State) → s ≢ state.OptMode → is_opt_mode s ≡ false
no_opt_mode state.OptMode other = absurd (other refl)
no_opt_mode state.Created other = refl
no_opt_mode state.Negotiating other = refl
no_opt_mode state.Ready other = refl
no_opt_mode state.Closing other = refl
no_opt_mode state.Closed other = refl
no_opt_mode (state.Dead cause) other = refl

module _ {K : Type 0} where
  -- this event, where it is taken
  abbrev taking : Bool → Event K → Seen K → Seen K
  taking b event seen = record { link = seen.link; history = if b then event ∷ seen.history else seen.history; unread = seen.unread }

  -- Whether an event was taken decides where the handle stands.
  taken : (held : Held K) (others : List (Held K)) (handle' : Machine K) (seen : Seen K) (event : Event K) (b c : Bool) → b ≡ c → Holds (held ∷ others) seen → StandsFor 1024 (if c then event ∷ seen.history else seen.history) handle'
      → Holds (record held { handle = handle' } ∷ others) (taking b event seen)
  taken held others handle' seen event b c same at stands =
      (record { link = at.0.link; stands = subst (λ (x : Bool). StandsFor 1024 (if x then event ∷ seen.history else seen.history) handle') (sym same) stands; unread = at.0.unread }, at.1)

  -- the handle is as it was
  untaken : (held : Held K) (others : List (Held K)) (handle' : Machine K) (seen : Seen K) → Holds (held ∷ others) seen → StandsFor 1024 seen.history handle' → Holds (record held { handle = handle' } ∷ others) seen
  untaken held others handle' seen at stands = (record { link = at.0.link; stands = stands; unread = at.0.unread }, at.1)

  -- what is told of a handle's state is so of where it stands
  state_is : (handle : Machine K) (history : History K) → StandsFor 1024 history handle → state_now handle.known ≡ state_after history
  state_is handle history stands = (stands_right 1024 history handle stands).state

  -- An option was asked, where the state allowed it.
  pub asked : (all : List (Held K)) (handle handle' : Machine K) (option : ℕ) (result : Result (Unit {0}) OptFault) → option_map (λ held. held.handle) (slice_get all 0) ≡ Some handle → (option == opt_set_meta_context) ≡ false
      → OnOk result (MayAsk option handle.known) → IfErr result (λ fault. RefusesOption option handle.known fault) → ForEach handle (AddsOnOk result (Opt option) handle')
      → ActsOn (asking option) no_value (short_of result) all (with_handle all 0 handle')
  asked [] handle handle' option result is plain allowed refused adds seen at = absurd at
  asked (held ∷ others) handle handle' option (Ok done) is plain allowed refused adds seen at =
      let stands = at_handle (held ∷ others) handle seen is at in
      let same = opt_mode (state_after seen.history) (sym (state_is handle seen.history stands) ∙ allowed.0) in
      (asking option seen, (refl, refl), taken held others handle' seen (Opt option) (is_opt_mode (state_after seen.history)) true same at (adds seen.history stands))
  asked (held ∷ others) handle handle' option (Err opt_fault.NoMemory) is plain allowed refused adds seen at =
      let stands = at_handle (held ∷ others) handle seen is at in
      (seen, (refl, refl), untaken held others handle' seen at (adds seen.history stands))
  asked (held ∷ others) handle handle' option (Err (opt_fault.State now)) is plain allowed refused adds seen at =
      let stands = at_handle (held ∷ others) handle seen is at in
      let same = no_opt_mode (state_after seen.history) (λ e. refused.0 (state_is handle seen.history stands ∙ e)) in
      (asking option seen, (refl, refl), taken held others handle' seen (Opt option) (is_opt_mode (state_after seen.history)) false same at (adds seen.history stands))
  asked (held ∷ others) handle handle' option (Err opt_fault.NotStructured) is plain allowed refused adds seen at = absurd (go (option == opt_set_meta_context) plain refused.1)
    where
      go : (b : Bool) → b ≡ false → (b && not handle.known.talk.structured) ≡ true → ⊥
      go false e other = cc (other)
      go true e other = cc (e)

  -- The name was set, where the state allowed it.
  pub named : (all : List (Held K)) (handle handle' : Machine K) (name : List ℕ) (result : Result (Unit {0}) SetFault) (seen : Seen K) → option_map (λ held. held.handle) (slice_get all 0) ≡ Some handle → Holds all seen
      → OnOk result (may_name (state_now handle.known) ≡ true) → IfErr result (λ fault. (may_name (state_now handle.known) ≡ false) × (fault ≡ set_fault.State (state_now handle.known))) → ForEach handle (AddsOnOk result (Set (Name name)) handle')
      → Holds (with_handle all 0 handle') (naming name seen)
  named [] handle handle' name result seen is at allowed refused adds = absurd at
  named (held ∷ others) handle handle' name (Ok done) seen is at allowed refused adds =
      let stands = at_handle (held ∷ others) handle seen is at in
      let same = ap may_name (sym (state_is handle seen.history stands)) ∙ allowed in
      taken held others handle' seen (Set (Name name)) (may_name (state_after seen.history)) true same at (adds seen.history stands)
  named (held ∷ others) handle handle' name (Err fault) seen is at allowed refused adds =
      let stands = at_handle (held ∷ others) handle seen is at in
      let same = ap may_name (sym (state_is handle seen.history stands)) ∙ refused.0 in
      taken held others handle' seen (Set (Name name)) (may_name (state_after seen.history)) false same at (adds seen.history stands)

  -- Negotiation was given up, where the state allowed it.
  pub aborted : (all : List (Held K)) (handle handle' : Machine K) (result : Result (Unit {0}) OptFault) (seen : Seen K) → option_map (λ held. held.handle) (slice_get all 0) ≡ Some handle → Holds all seen
      → OnOk result (state_now handle.known ≡ state.OptMode) → IfErr result (λ fault. (state_now handle.known ≢ state.OptMode) × (fault ≡ opt_fault.State (state_now handle.known))) → ForEach handle (AddsOnOk result Abort handle')
      → Holds (with_handle all 0 handle') (aborting seen)
  aborted [] handle handle' result seen is at allowed refused adds = absurd at
  aborted (held ∷ others) handle handle' (Ok done) seen is at allowed refused adds =
      let stands = at_handle (held ∷ others) handle seen is at in
      let same = opt_mode (state_after seen.history) (sym (state_is handle seen.history stands) ∙ allowed) in
      taken held others handle' seen Abort (is_opt_mode (state_after seen.history)) true same at (adds seen.history stands)
  aborted (held ∷ others) handle handle' (Err fault) seen is at allowed refused adds =
      let stands = at_handle (held ∷ others) handle seen is at in
      let same = no_opt_mode (state_after seen.history) (λ e. refused.0 (state_is handle seen.history stands ∙ e)) in
      taken held others handle' seen Abort (is_opt_mode (state_after seen.history)) false same at (adds seen.history stands)

  -- The name that was set is that of the export.
  pub named_so : (all all' : List (Held K)) (name name' : List ℕ) → name ≡ name' → ((seen : Seen K) → Holds all seen → Holds all' (naming name seen)) → ActsOn (naming name') no_value (Ok tt) all all'
  named_so all all' name name' same on seen at = (naming name' seen, (refl, refl), subst (λ (n : List ℕ). Holds all' (naming n seen)) same (on seen at))

  -- Nothing was done for want of memory.
  pub short : {A : Type 0} (act : Seen K → Seen K) (value : Seen K → A) (all : List (Held K)) → ActsOn act value (Err halt.NoMemory) all all
  short act value all seen at = (seen, (refl, refl), at)

  -- What was told of a handle is so of where it stands.
  pub told_of : {A : Type 0} (value : Seen K → A) (given : A) (all : List (Held K)) (handle : Machine K) → option_map (λ held. held.handle) (slice_get all 0) ≡ Some handle
      → ((seen : Seen K) → StandsFor 1024 seen.history handle → given ≡ value seen) → ActsOn (λ (seen : Seen K). seen) value (Ok given) all all
  told_of value given all handle is told seen at = (seen, (refl, told seen (at_handle all handle seen is at)), at)

  -- What breaks an act off is want of memory.
  pub not_silent : {A : Type 0} (act : Seen K → Seen K) (value : Seen K → A) (end : Result A Halt) (all all' : List (Held K)) (seen : Seen K) → ActsOn act value end all all' → Holds all seen → end ≡ Err halt.Silent → ⊥
  not_silent act value (Ok given) all all' seen on at is = cc is
  not_silent act value (Err why) all all' seen on at is = let short = (on seen at).1.1 in cc (short, is)

  pub short_silent : {A : Type 0} (act : Seen K → Seen K) (value : Seen K → A) (why : Halt) (all all' : List (Held K)) (seen : Seen K) → ActsOn act value (Err why) all all' → Holds all seen → why ≡ halt.Silent → ⊥
  short_silent act value why all all' seen on at is = let short = (on seen at).1.1 in cc (short, is)
