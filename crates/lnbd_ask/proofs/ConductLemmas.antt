-- Inquirys about one export and about all of a server's are asked as they should be.
use Rattle.std.proofs.Common.{◌≡◌, ℕ, Bool, true, false, List, [], ◌∷◌, ◌++◌, Result, Ok, Err, refl, ap, sym, subst, ◌∙◌, if◌then◌else◌}
use Rattle.std.proofs.lemmas.Bool.{false≢true}
use Rattle.std.proofs.lemmas.List.{append-nil}
use Rattle.lnbd_callbacks.specs.Calls.{Call}
use Rattle.lnbd_model.specs.declared.export.Listed.{Listed}
use Rattle.lnbd_model.specs.declared.target.Place.{Place}
use Rattle.lnbd_records.specs.Options.{opt_info, opt_list}
use Rattle.lnbd_history.specs.Answers.{listed_after, state_after}
use Rattle.lnbd_history.specs.Events.{Abort, Event, Name, Opt, Set}
use Rattle.lnbd_history.specs.Laws.{may_name}
use Rattle.lnbd_info.specs.declared.told.Entry.{Entry}
use Rattle.lnbd_info.specs.declared.told.Found.{Found}
use Rattle.lnbd_link.specs.Call as wire
use Rattle.lnbd_poll.specs.Seen.{Seen}
use Rattle.lnbd_poll.specs.States.{is_opt_mode}
use Rattle.lnbd_waits.specs.declared.waiting.Awaited.{Awaited}
use Rattle.lnbd_waits.specs.declared.waiting.Awaited.TheVariants as awaited
use Rattle.lnbd_waits.specs.declared.waiting.Halt.{Halt}
use Rattle.lnbd_waits.specs.Waits.{Waits}
use Rattle.lnbd_ask.specs.Asks.{Collects, Has_talked, Not_begun, Not_connected, Not_held, Talks, base_allocation, begins, parting}
use Rattle.lnbd_ask.specs.Asks as asks
use Rattle.lnbd_ask.specs.Conduct.{Conducts, Export, Exports, may_ask}
use Rattle.lnbd_ask.specs.Lists.{AnswersInfo, AnswersList, AsksEach, AsksFor, AsksInfo, AsksList, Breaks_off, EndsWith, GivesUp, Has_inquired, Inquires, Lists, NegotiatesList, None_left, Runs_short, Surveys, Tells, aborting, asking, begins_listing, entry_after, naming}
use Rattle.lnbd_ask.specs.Lists as lists
use Rattle.lnbd_ask.specs.Parts.{Acted, Acts, Follows, Part, Stops, Then, no_value}
use Rattle.lnbd_ask.specs.declared.fault.InfoFault.{InfoFault}
use Rattle.lnbd_ask.specs.declared.quiet.Quiet.{Quiet}
use Rattle.lnbd_ask.proofs.AskedLemmas.{Leads, has_conducted, has_done_nothing, has_not_connected, has_shut, leads_event, leads_less, leads_none, leads_on, leads_out, leads_over, leads_parting, leads_went, with_event}
use Rattle.lnbd_ask.proofs.LivesLemmas.{awaited_some}
use Rattle.lnbd_ask.proofs.WentLemmas.{Went, is_failed, waits_went}

-- ---- What one export is.

module _ {K World : Type 0} (steps : World → List (Call K) → World → Type 0) where
  talks_lead : (before : Seen K) (world : World) (calls : List wire.Call) (after : Seen K) (world' : World) (end : Result (Unit {0}) Halt) → Talks steps before world calls after world' end
      → before.unread ≡ [] → Leads Export before.link before.history calls (is_failed end) true after
  talks_lead before world calls after world' end (asks.Breaks_off _ _ _ _ _ _ why waits end_is) empty =
      subst (λ (b : Bool). Leads Export before.link before.history calls b true after) (sym (ap is_failed end_is))
      (leads_over Export before.link before.history calls true true after
      (leads_went Export before.link before.history calls true after (waits_went awaited_some steps awaited.Answers before world calls after world' (Err why) waits empty)))
  talks_lead before world calls after world' end (asks.Parts _ _ _ _ _ _ own middle half other first second calls_are) empty =
      let one = leads_went Export before.link before.history own false middle (waits_went awaited_some steps awaited.Answers before world own middle half (Ok tt) first empty) in
      let parted = subst (λ (n : ℕ). Leads Export n middle.history [] false true (parting middle)) one.same (leads_parting Export middle refl (one.none refl)) in
      let two = subst (λ (n : ℕ). Went n (parting middle).history other (is_failed end) after) one.same
      (waits_went awaited_some steps awaited.Written (parting middle) half other after world' end second (one.none refl)) in
      subst (λ (l : List wire.Call). Leads Export before.link before.history l (is_failed end) true after) (sym calls_are)
      (leads_on Export before.link before.history own other (is_failed end) true middle after one
      (leads_out Export before.link middle.history [] other (is_failed end) (parting middle) after parted two))

module _ {World : Type 0} (steps : World → List (Call Quiet) → World → Type 0) where
  -- So it is whatever it comes to.
  pub collects_conduct : (place : Place) (calls : List wire.Call) (answer : Result Found InfoFault) → Collects steps place calls answer → Conducts Quiet Export place calls
  collects_conduct place calls answer (Not_begun _ _ none short) = subst (Conducts _ Export place) (sym none) (has_done_nothing Export place)
  collects_conduct place calls answer (Not_connected _ _ made lost) = subst (Conducts _ Export place) (sym made) (has_not_connected Export place)
  collects_conduct place calls answer (Not_held _ _ link made short) = subst (Conducts _ Export place) (sym made) (has_shut Export place link)
  collects_conduct place calls answer (Has_talked _ _ link world talk after world' end talks going tells made) =
      subst (Conducts _ Export place) (sym made)
      (has_conducted Export place link talk (is_failed end) true after (talks_lead steps (begins link place.name base_allocation) world talk after world' end talks refl) going)

-- ---- Which exports there are.

module _ {K World : Type 0} (steps : World → List (Call K) → World → Type 0) where
  -- Such a part leads on wherever it begins; the last may ask for the end.
  abbrev Leading : {A : Type 0} → (ends : Bool) → Part K World A → Type 0
  Leading {A} ends part = (before : Seen K) (world : World) (calls : List wire.Call) (after : Seen K) (world' : World) (end : Result A Halt) → part before world calls after world' end
      → before.unread ≡ [] → Leads Exports before.link before.history calls (is_failed end) ends after

  waits_lead : (which : Awaited) → Leading false (Waits steps which)
  waits_lead which before world calls after world' end waits empty = leads_went Exports before.link before.history calls (is_failed end) after
      (waits_went awaited_some steps which before world calls after world' end waits empty)

  -- what a part that leads on comes to, behind another
  moves_on : {A : Type 0} (ends : Bool) (before middle after : Seen K) (own other calls : List wire.Call) (end : Result A Halt) → calls ≡ own ++ other
      → Leads Exports before.link before.history own false false middle
      → (middle.unread ≡ [] → Leads Exports middle.link middle.history other (is_failed end) ends after) → Leads Exports before.link before.history calls (is_failed end) ends after
  moves_on ends before middle after own other calls end is one two =
      subst (λ (l : List wire.Call). Leads Exports before.link before.history l (is_failed end) ends after) (sym is)
      (leads_on Exports before.link before.history own other (is_failed end) ends middle after one
      (subst (λ (n : ℕ). Leads Exports n middle.history other (is_failed end) ends after) one.same (two (one.none refl))))

  breaks : {B : Type 0} (ends : Bool) (before after : Seen K) (calls : List wire.Call) (why : Halt) (end : Result B Halt) → end ≡ Err why
      → Leads Exports before.link before.history calls true false after → Leads Exports before.link before.history calls (is_failed end) ends after
  breaks ends before after calls why end is one = subst (λ (b : Bool). Leads Exports before.link before.history calls b ends after) (sym (ap is_failed is))
      (leads_over Exports before.link before.history calls true ends after one)

  then_lead : {A B : Type 0} (ends : Bool) (First : Part K World A) (Second : A → Part K World B) → Leading false First → ((value : A) → Leading ends (Second value)) → Leading ends (Then First Second)
  then_lead ends First Second first second before world calls after world' end (Stops _ _ _ _ _ _ why one is) empty = breaks ends before after calls why end is
      (first before world calls after world' (Err why) one empty)
  then_lead ends First Second first second before world calls after world' end (Follows _ _ _ _ _ _ value own middle half other one two calls_are) empty =
      moves_on ends before middle after own other calls end calls_are (first before world own middle half (Ok value) one empty) (second value middle half other after world' end two)

  -- what is asked, or nothing
  acts_lead : {A : Type 0} (ends : Bool) (act : Seen K → Seen K) (value : Seen K → A) → ((seen : Seen K) → seen.unread ≡ [] → Leads Exports seen.link seen.history [] false ends (act seen))
      → Leading ends (Acts act value)
  acts_lead {A} ends act value acted before world calls after world' end acts empty = subst (λ (l : List wire.Call). Leads Exports before.link before.history l (is_failed end) ends after)
      (sym acts.none) (by end acts.acted)
    where
      by : (r : Result A Halt) → Acted act value r before after → Leads Exports before.link before.history [] (is_failed r) ends after
      by (Ok given) a = subst (λ (s : Seen K). Leads Exports before.link before.history [] false ends s) (sym a.0) (acted before empty)
      by (Err why) a = subst (λ (s : Seen K). Leads Exports before.link before.history [] true ends s) (sym a.0)
          (leads_less Exports before.link before.history [] true ends before (leads_none Exports before false empty))

  stays_lead : {A : Type 0} (value : Seen K → A) → Leading false (Acts (λ seen. seen) value)
  stays_lead value = acts_lead false (λ seen. seen) value (λ seen empty. leads_none Exports seen false empty)

  -- an event where it may come
  event_if : (b ends : Bool) (event : Event K) (seen : Seen K) → (b ≡ true → Leads Exports seen.link seen.history [] false ends (with_event event seen)) → seen.unread ≡ []
      → Leads Exports seen.link seen.history [] false ends (record { link = seen.link; history = (if b then event ∷ seen.history else seen.history); unread = seen.unread })
  event_if true ends event seen one empty = one refl
  event_if false ends event seen one empty = leads_none Exports seen ends empty

  asking_lead : (option : ℕ) → may_ask {K = K} Exports (Opt option) ≡ true → Leading false (Acts (asking option) no_value)
  asking_lead option may = acts_lead false (asking option) no_value
      (λ seen empty. event_if (is_opt_mode (state_after seen.history)) false (Opt option) seen (λ e. leads_event Exports seen (Opt option) false refl may (λ f. refl) empty) empty)

  naming_lead : (name : List ℕ) → Leading false (Acts (naming name) no_value)
  naming_lead name = acts_lead false (naming name) no_value
      (λ seen empty. event_if (may_name (state_after seen.history)) false (Set (Name name)) seen (λ e. leads_event Exports seen (Set (Name name)) false refl refl (λ f. refl) empty) empty)

  aborting_lead : Leading true (Acts aborting no_value)
  aborting_lead = acts_lead true aborting no_value
      (λ seen empty. event_if (is_opt_mode (state_after seen.history)) true Abort seen (λ e. leads_event Exports seen Abort true refl refl (λ f. absurd (false≢true (sym f))) empty) empty)

  list_leads : Leading false (NegotiatesList steps)
  list_leads = then_lead false _ _ (waits_lead awaited.Answers)
      (λ stands. then_lead false _ _ (asking_lead opt_list refl) (λ asked. then_lead false _ _ (waits_lead awaited.Answers) (λ told. stays_lead (λ seen. listed_after seen.history))))

  for_leads : (one : Listed) → Leading false (AsksFor steps one)
  for_leads one = then_lead false _ _ (naming_lead one.name)
      (λ named. then_lead false _ _ (asking_lead opt_info refl) (λ asked. then_lead false _ _ (waits_lead awaited.Answers) (λ told. stays_lead (entry_after one))))

  each_leads : (names : List Listed) → Leading false (AsksEach steps names)
  each_leads names before world calls after world' end (None_left _ _ _ _ _ _ _ none same calls_are world_is end_is) empty =
      subst (λ (s : Seen K). Leads Exports before.link before.history calls (is_failed end) false s) (sym same)
      (subst (λ (l : List wire.Call). Leads Exports before.link before.history l (is_failed end) false before) (sym calls_are)
      (leads_less Exports before.link before.history [] (is_failed end) false before (leads_none Exports before false empty)))
  each_leads names before world calls after world' end (Runs_short _ _ _ _ _ _ _ same calls_are world_is end_is) empty =
      subst (λ (s : Seen K). Leads Exports before.link before.history calls (is_failed end) false s) (sym same)
      (subst (λ (l : List wire.Call). Leads Exports before.link before.history l (is_failed end) false before) (sym calls_are)
      (leads_less Exports before.link before.history [] (is_failed end) false before (leads_none Exports before false empty)))
  each_leads names before world calls after world' end (Breaks_off _ _ _ _ _ _ _ one others why names_are asks end_is) empty =
      breaks false before after calls why end end_is (for_leads one before world calls after world' (Err why) asks empty)
  each_leads names before world calls after world' end (Tells _ _ _ _ _ _ _ one others entry own middle half other rest names_are asks more calls_are end_is) empty =
      moves_on false before middle after own other calls end calls_are (for_leads one before world own middle half (Ok entry) asks empty)
      (λ left. subst (λ (b : Bool). Leads Exports middle.link middle.history other b false after) (sym (ap is_failed end_is ∙ same_end rest))
      (each_leads others middle half other after world' rest more left))
    where
      same_end : (r : Result (List Entry) Halt) → is_failed (lists.with_entries (entry ∷ []) r) ≡ is_failed r
      same_end (Ok more) = refl
      same_end (Err why) = refl

  -- ABORT, and the end: nothing is asked behind it.
  up_leads : Leading true (GivesUp steps)
  up_leads before world calls after world' end (Stops _ _ _ _ _ _ why one is) empty =
      subst (λ (b : Bool). Leads Exports before.link before.history calls b true after) (sym (ap is_failed is)) (aborting_lead before world calls after world' (Err why) one empty)
  up_leads before world calls after world' end (Follows _ _ _ _ _ _ value own middle half other one two calls_are) empty =
      let first = aborting_lead before world own middle half (Ok value) one empty in
      let second = subst (λ (n : ℕ). Went n middle.history other (is_failed end) after) first.same
      (waits_went awaited_some steps awaited.End middle half other after world' end two (first.none refl)) in
      subst (λ (l : List wire.Call). Leads Exports before.link before.history l (is_failed end) true after) (sym calls_are)
      (leads_out Exports before.link before.history own other (is_failed end) middle after first second)

  ends_lead : (entries : List Entry) → Leading true (EndsWith steps entries)
  ends_lead entries before world calls after world' end (Stops _ _ _ _ _ _ why one is) empty =
      subst (λ (b : Bool). Leads Exports before.link before.history calls b true after) (sym (ap is_failed is)) (up_leads before world calls after world' (Err why) one empty)
  ends_lead entries before world calls after world' end (Follows _ _ _ _ _ _ value own middle half other one two calls_are) empty =
      let first = up_leads before world own middle half (Ok value) one empty in
      subst (λ (r : Result (List Entry) Halt). Leads Exports before.link before.history calls (is_failed r) true after) (sym two.is)
      (subst (λ (s : Seen K). Leads Exports before.link before.history calls false true s) (sym two.stays)
      (subst (λ (l : List wire.Call). Leads Exports before.link before.history l false true middle) (sym (calls_are ∙ ap (λ (l : List wire.Call). own ++ l) two.none ∙ append-nil own)) first))

  inquires_lead : Leading true (Inquires steps)
  inquires_lead = then_lead true _ _ list_leads (λ names. then_lead true _ _ (each_leads names) ends_lead)

module _ {World : Type 0} (steps : World → List (Call Quiet) → World → Type 0) where
  pub lists_conduct : (place : Place) (calls : List wire.Call) (answer : Result (List Entry) InfoFault) → Lists steps place calls answer → Conducts Quiet Exports place calls
  lists_conduct place calls answer (lists.Not_begun _ _ none short) = subst (Conducts _ Exports place) (sym none) (has_done_nothing Exports place)
  lists_conduct place calls answer (lists.Not_connected _ _ made lost) = subst (Conducts _ Exports place) (sym made) (has_not_connected Exports place)
  lists_conduct place calls answer (lists.Not_held _ _ link made short) = subst (Conducts _ Exports place) (sym made) (has_shut Exports place link)
  lists_conduct place calls answer (Has_inquired _ _ link world talk after world' end inquires going tells made) =
      subst (Conducts _ Exports place) (sym made)
      (has_conducted Exports place link talk (is_failed end) true after (inquires_lead steps (begins_listing link) world talk after world' end inquires refl) going)
