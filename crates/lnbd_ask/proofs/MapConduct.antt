-- A map is asked for as it should be.
use Rattle.std.proofs.Common.{◌≡◌, ℕ, Bool, true, false, not, List, [], ◌++◌, Result, Ok, Err, refl, ap, sym, subst}
use Rattle.lnbd_model.specs.declared.export.Extent.{Extent}
use Rattle.lnbd_model.specs.declared.target.Place.{Place}
use Rattle.lnbd_history.specs.Events.{ClearLog, Issue, Refuse}
use Rattle.lnbd_link.specs.Call as wire
use Rattle.lnbd_poll.specs.Seen.{Seen}
use Rattle.lnbd_waits.specs.declared.waiting.Awaited.TheVariants as awaited
use Rattle.lnbd_waits.specs.declared.waiting.Halt.{Halt}
use Rattle.lnbd_ask.specs.Asks.{begins, parting}
use Rattle.lnbd_ask.specs.Conduct.{Conducts, Map}
use Rattle.lnbd_ask.specs.declared.fault.InfoFault.{InfoFault}
use Rattle.lnbd_ask.specs.declared.stops.Stop.{Stop}
use Rattle.lnbd_ask.specs.declared.stops.Stop.TheVariants as stop
use Rattle.lnbd_ask.specs.declared.survey.Surveyor.{Surveyor}
use Rattle.lnbd_ask.specs.Maps.{Answers, Asked, Discusses, HasWaited, Inquires, Learned, Learns, Lesson, Maps, Stopped, Stops, is_no_context, is_parting, issued, refused, status_of}
use Rattle.lnbd_ask.specs.Maps as maps
use Rattle.lnbd_ask.specs.Surveys.{Surveys}
use Rattle.lnbd_ask.proofs.AskedLemmas.{Leads, has_conducted, has_done_nothing, has_not_connected, has_shut, leads_event, leads_less, leads_none, leads_on, leads_out, leads_over, leads_parting, leads_short, leads_went, with_event}
use Rattle.lnbd_ask.proofs.LivesLemmas.{awaited_some}
use Rattle.lnbd_ask.proofs.WentLemmas.{Went, is_failed, waits_went}

module _ (context : List ℕ) where
  abbrev Leading : (calls : List wire.Call) → (before : Seen Surveyor) → (short ends : Bool) → (after : Seen Surveyor) → Type 0
  Leading calls before short ends after = Leads (Map context) before.link before.history calls short ends after

  waited_leads : (before : Seen Surveyor) (calls : List wire.Call) (after : Seen Surveyor) (end : Result (Unit {0}) Halt) → HasWaited awaited.Answers before calls after end → before.unread ≡ []
      → Leading calls before (is_failed end) false after
  waited_leads before calls after end waited empty =
      leads_went (Map context) before.link before.history calls (is_failed end) after (waits_went awaited_some Surveys awaited.Answers before waited.0 calls after waited.1 end waited.2 empty)

  -- one part behind another
  moves_on : (before middle after : Seen Surveyor) (own other calls : List wire.Call) (short ends : Bool) → calls ≡ own ++ other → Leading own before false false middle
      → (middle.unread ≡ [] → Leading other middle short ends after) → Leading calls before short ends after
  moves_on before middle after own other calls short ends is one two =
      subst (λ (l : List wire.Call). Leading l before short ends after) (sym is)
      (leads_on (Map context) before.link before.history own other short ends middle after one
      (subst (λ (n : ℕ). Leads (Map context) n middle.history other short ends after) one.same (two (one.none refl))))

  -- A range is asked for, and its answer awaited.
  issued_leads : (offset length : ℕ) (before : Seen Surveyor) (calls : List wire.Call) (after : Seen Surveyor) (end : Result (Unit {0}) Halt)
      → HasWaited awaited.Answers (issued offset length before) calls after end → before.unread ≡ [] → Leading calls before (is_failed end) false after
  issued_leads offset length before calls after end waited empty =
      let sent = leads_event (Map context) before (Issue (status_of offset length)) false refl refl (λ e. refl) empty in
      let cleared = leads_event (Map context) (with_event (Issue (status_of offset length)) before) ClearLog false refl refl (λ e. refl) empty in
      let asked = leads_on (Map context) before.link before.history [] [] false false (with_event (Issue (status_of offset length)) before) (issued offset length before) sent cleared in
      leads_on (Map context) before.link before.history [] calls (is_failed end) false (issued offset length before) after asked
      (waited_leads (issued offset length before) calls after end waited empty)

  answers_lead : (asked : Asked) (error : ℕ) (before : Seen Surveyor) (calls : List wire.Call) (after : Seen Surveyor) → Answers context asked error before calls after → before.unread ≡ []
      → Leading calls before false false after
  answers_lead asked error before calls after answers empty = issued_leads asked.offset asked.length before calls after (Ok tt) answers.waited empty

  stays_lead : (before after : Seen Surveyor) (calls : List wire.Call) (short : Bool) → calls ≡ [] → after ≡ before → before.unread ≡ [] → Leading calls before short false after
  stays_lead before after calls short none same empty =
      subst (λ (s : Seen Surveyor). Leading calls before short false s) (sym same)
      (subst (λ (l : List wire.Call). Leading l before short false before) (sym none)
      (leads_less (Map context) before.link before.history [] short false before (leads_none (Map context) before false empty)))

  inquires_lead : (all : List Asked) (before : Seen Surveyor) (calls : List wire.Call) (after : Seen Surveyor) → Inquires context all before calls after → before.unread ≡ []
      → Leading calls before false false after
  inquires_lead all before calls after (maps.All_answered _ _ _ _ none calls_are same) empty = stays_lead before after calls false calls_are same empty
  inquires_lead all before calls after (maps.Is_answered _ _ _ _ asked others error own middle other all_are answers goes more calls_are) empty =
      moves_on before middle after own other calls false false calls_are (answers_lead asked error before own middle answers empty) (inquires_lead others middle other after more)

  -- where it stops for another reason than that the context is not agreed, some bytes may not have arrived
  abbrev is_short : Stop → Bool
  is_short why = not (is_no_context why)

  halted : (why : Stop) (reason : Halt) (before after : Seen Surveyor) (calls : List wire.Call) → why ≡ stop.Halted reason → Leading calls before true false after
      → Leading calls before (is_short why) false after
  halted why reason before after calls is one = subst (λ (w : Stop). Leading calls before (is_short w) false after) (sym is) one

  stops_lead : (whole to : ℕ) (why : Stop) (before : Seen Surveyor) (calls : List wire.Call) (after : Seen Surveyor) → Stops context whole to why before calls after → before.unread ≡ []
      → Leading calls before (is_short why) false after
  stops_lead whole to why before calls after (maps.Runs_short _ _ _ none same why_is) empty = stays_lead before after calls (is_short why) none same empty
  stops_lead whole to why before calls after (maps.Is_refused _ _ _ reason low none after_is why_is) empty =
      subst (λ (s : Seen Surveyor). Leading calls before (is_short why) false s) (sym after_is)
      (subst (λ (l : List wire.Call). Leading l before (is_short why) false (refused to (maps.length_at whole to) reason before)) (sym none)
      (leads_less (Map context) before.link before.history [] (is_short why) false (refused to (maps.length_at whole to) reason before)
      (leads_event (Map context) before (Refuse (status_of to (maps.length_at whole to)) reason) false refl refl (λ e. refl) empty)))
  stops_lead whole to why before calls after (maps.Is_cut_off _ _ _ reason low waited why_is) empty = halted why reason before after calls why_is
      (issued_leads to (maps.length_at whole to) before calls after (Err reason) waited empty)
  stops_lead whole to why before calls after (maps.Is_lost _ _ _ low waited why_is) empty =
      leads_less (Map context) before.link before.history calls (is_short why) false after (issued_leads to (maps.length_at whole to) before calls after (Ok tt) waited empty)
  stops_lead whole to why before calls after (maps.Is_failed _ _ _ asked error next answers stops) empty =
      leads_less (Map context) before.link before.history calls (is_short why) false after (answers_lead asked error before calls after answers empty)

  -- where the end is then asked for all has arrived
  abbrev is_over : Lesson → Bool
  is_over lesson = not (is_parting lesson)

  learns_lead : (before : Seen Surveyor) (calls : List wire.Call) (after : Seen Surveyor) (lesson : Lesson) → Learns context before calls after lesson → before.unread ≡ []
      → Leading calls before (is_over lesson) false after
  learns_lead before calls after lesson (maps.Breaks_off _ _ _ _ why waited lesson_is) empty =
      subst (λ (l : Lesson). Leading calls before (is_over l) false after) (sym lesson_is) (waited_leads before calls after (Err why) waited empty)
  learns_lead before calls after lesson (maps.Cannot_ask _ _ _ _ why waited known lesson_is) empty =
      leads_less (Map context) before.link before.history calls (is_over lesson) false after (waited_leads before calls after (Ok tt) waited empty)
  learns_lead before calls after lesson (maps.Knows_all _ _ _ _ info all own middle other waited known inquires asked calls_are lesson_is) empty =
      leads_less (Map context) before.link before.history calls (is_over lesson) false after
      (moves_on before middle after own other calls false false calls_are (waited_leads before own middle (Ok tt) waited empty) (inquires_lead all middle other after inquires))
  learns_lead before calls after lesson (maps.Is_stopped _ _ _ _ info all to why own middle other last more waited known inquires asked stops calls_are lesson_is) empty =
      subst (λ (l : Lesson). Leading calls before (is_over l) false after) (sym lesson_is)
      (moves_on before middle after own (other ++ more) calls (is_short why) false calls_are (waited_leads before own middle (Ok tt) waited empty)
      (λ left. moves_on middle last after other more (other ++ more) (is_short why) false refl (inquires_lead all middle other last inquires left) (stops_lead _ to why last more after stops)))

  discusses_lead : (before : Seen Surveyor) (calls : List wire.Call) (after : Seen Surveyor) (lesson : Lesson) → Discusses context before calls after lesson → before.unread ≡ []
      → Leading calls before true true after
  discusses_lead before calls after lesson (maps.Is_cut_short _ _ _ _ learns cut) empty =
      leads_over (Map context) before.link before.history calls true true after
      (subst (λ (b : Bool). Leading calls before b false after) (ap not cut) (learns_lead before calls after lesson learns empty))
  discusses_lead before calls after lesson (maps.Parts _ _ _ _ learned own middle other written learns parts waited calls_are lesson_is) empty =
      let one = subst (λ (b : Bool). Leading own before b false middle) (ap not parts) (learns_lead before own middle learned learns empty) in
      let parted = subst (λ (n : ℕ). Leads (Map context) n middle.history [] false true (parting middle)) one.same (leads_parting (Map context) middle refl (one.none refl)) in
      let two = subst (λ (n : ℕ). Went n (parting middle).history other (is_failed written) after) one.same
      (waits_went awaited_some Surveys awaited.Written (parting middle) waited.0 other after waited.1 written waited.2 (one.none refl)) in
      let out = leads_out (Map context) before.link middle.history [] other (is_failed written) (parting middle) after parted two in
      subst (λ (l : List wire.Call). Leading l before true true after) (sym calls_are)
      (leads_on (Map context) before.link before.history own other true true middle after one (leads_short (Map context) before.link middle.history other (is_failed written) true after out))

-- So it is whatever it comes to.
pub maps_conduct : (place : Place) (context : List ℕ) (calls : List wire.Call) (answer : Result (List Extent) InfoFault) → Maps place context calls answer → Conducts Surveyor (Map context) place calls
maps_conduct place context calls answer (maps.Not_begun _ _ none short) = subst (Conducts _ (Map context) place) (sym none) (has_done_nothing (Map context) place)
maps_conduct place context calls answer (maps.Not_connected _ _ made lost) = subst (Conducts _ (Map context) place) (sym made) (has_not_connected (Map context) place)
maps_conduct place context calls answer (maps.Not_held _ _ link made short) = subst (Conducts _ (Map context) place) (sym made) (has_shut (Map context) place link)
maps_conduct place context calls answer (maps.Has_discussed _ _ link talk after lesson discusses going tells made) =
    subst (Conducts _ (Map context) place) (sym made)
    (has_conducted (Map context) place link talk true true after (discusses_lead context (begins link place.name context) talk after lesson discusses refl) going)
