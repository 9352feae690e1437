-- Histories of which the same was read go on alike, whatever follows.
use Rattle.std.proofs.Common.{◌≡◌, ℕ, zero, suc, ◌+◌, Bool, not, ◌&&◌, ◌||◌, List, [], ◌∷◌, filter, length, Option, Some, None, is_some, if◌then◌else◌, ◌==◌, nat_le, ◌<◌, ◌≤◌, refl, ap, sym}
use Rattle.std.proofs.Common.{subst, ◌∙◌}
use Rattle.lnbd_model.specs.declared.state.Cause.{Cause}
use Rattle.lnbd_model.specs.declared.state.Cause.TheVariants as cause
use Rattle.lnbd_model.specs.declared.state.State.{State}
use Rattle.lnbd_records.specs.Limits.{max_contexts}
use Rattle.lnbd_stream.specs.Stream.{Held, feed}
use Rattle.lnbd_outcome.specs.Outcome.{failure_of}
use Rattle.lnbd_history.specs.declared.kinds.Phase.{Phase}
use Rattle.lnbd_history.specs.declared.kinds.Phase.TheVariants as phase
use Rattle.lnbd_history.specs.declared.kinds.Stage.{Stage}
use Rattle.lnbd_history.specs.declared.kinds.Stage.TheVariants.{Open, Disconnecting, Aborting, Closed, Dead}
use Rattle.lnbd_history.specs.Agreement.{Replied, contexts_now, phase, steps, export, contexts, structured, extended, listing, opt_answer}
use Rattle.lnbd_history.specs.Agreement as turn
use Rattle.lnbd_history.specs.Answers.{state_at, state_after, held_of, held_after, done_after, outcome_of, outcome_after, completed_as, completed_after, peeked_of, is_living, direction_of, info_of}
use Rattle.lnbd_history.specs.Arrivals.{Shown, OptionReply, Reply, Broken, shows_at}
use Rattle.lnbd_history.specs.Commands.{Request, flight_of, request_of, callbacks}
use Rattle.lnbd_history.specs.Entries.{Entry, Cleared, Item, Lost, Dropped, own, is_ended, is_retired, kept_in, kept_cookies, log, notes, calls}
use Rattle.lnbd_history.specs.Events.{Setting, Name, Context, Structured, Extended, OptMode, Answer, Event, History, Set, StrictMode, Start, Opt, Abort, Issue, Refuse, Disconnect, Wrote, Arrived}
use Rattle.lnbd_history.specs.Events.{End, LinkFailed, Retire, ClearLog, Close}
use Rattle.lnbd_history.specs.History.{Asked, Known, asked, request, is_taken, strict_mode, cookies, file, file_under, file_all, in_flight, die, if_refused, turned, entered, sight, waiting_of}
use Rattle.lnbd_history.specs.History.{waited, rules, change, finish, with_answers, asking, flying, ended_closing, ended_at, failed_at, closed, freed, is_extended, reading, is_gone, waiting_at}
use Rattle.lnbd_history.specs.History.{waits}
use Rattle.lnbd_history.specs.Outgoing.{whole, command_parts, disconnect_part, abort_part, out}
use Rattle.lnbd_history.specs.Laws.{may_name, CanSet, CanFollow, is_closed}
use Rattle.lnbd_history.specs.Refusals.{terms_of, terms_after, refusal, by_state}
use Rattle.lnbd_history.proofs.Cuts.{cuts_do_not_matter}
use Rattle.lnbd_accepts.specs.Cuts.{AnswerAlike, in_two, in_one, CutsChangeNothingLater, CutsStayLawful}

-- The same was asked of two histories, and the same was read.
pub record Same {K : Type 0} (one other : History K) : Type 0 where
  pub asked_is : asked one ≡ asked other
  pub request_is : (cookie : ℕ) → request one cookie ≡ request other cookie
  pub taken_is : (cookie : ℕ) → is_taken one cookie ≡ is_taken other cookie
  pub strict_is : strict_mode one ≡ strict_mode other
  pub reading_is : reading one ≡ reading other

module _ {K : Type 0} (one other : History K) (s : Same one other) where
  file_same : (cookie : ℕ) (item : Item) (known : Known K) → file one cookie item known ≡ file other cookie item known
  file_same cookie item known = ap (λ (r : Option (Request K)). file_under r cookie item known) (s.request_is cookie)

  flies_same : (entries : List (Entry K)) (cookie : ℕ) → in_flight one entries cookie ≡ in_flight other entries cookie
  flies_same entries cookie = ap (λ (r : Option (Request K)). is_some r && not (is_ended (own cookie entries))) (s.request_is cookie)

  file_all_same : (item : Item) (list : List ℕ) (known : Known K) → file_all one item list known ≡ file_all other item list known
  file_all_same item [] known = refl
  file_all_same item (c ∷ list) known =
      ap (λ (k : Known K). file_all one item list k) (λ i. if flies_same known.entries c i then file_same c item known i else known)
      ∙ file_all_same item list (if in_flight other known.entries c then file other c item known else known)

  die_same : (reason : Cause) (known : Known K) → die one reason known ≡ die other reason known
  die_same reason known =
      ap (λ (a : Asked). file_all one Lost (cookies a.issued) (record known { stage = Dead reason })) s.asked_is
      ∙ file_all_same Lost (cookies (asked other).issued) (record known { stage = Dead reason })

  refused_same : (p : Phase) (known : Known K) → if_refused p one known ≡ if_refused p other known
  refused_same (phase.Refused code) known = die_same (cause.Refused 7 code) known
  refused_same p known = refl

  entered_same : (found : Shown) (known : Known K) → entered one found known ≡ entered other found known
  entered_same (OptionReply told) known = refused_same (phase (Replied told ∷ known.turns)) (turned (Replied told) known)
  entered_same (Reply frame) known = file_same frame.cookie _ known
  entered_same (Broken breach) known = die_same (cause.Broke breach) known
  entered_same found known = refl

  waited_same : (known : Known K) → waited one known ≡ waited other known
  waited_same known = λ i cookie. waiting_of (nat_le cookie (whole known.parts (s.asked_is i).wrote)) (is_ended (own cookie known.entries)) (own cookie known.entries) (s.request_is cookie i)

  rules_same : rules one ≡ rules other
  rules_same = λ i. record { shows = λ known. shows_at known.stage (sight known) (waited_same known i); enter = λ found known. entered_same found known i }

  flying_same : (entries : List (Entry K)) (n : ℕ) → flying one entries n ≡ flying other entries n
  flying_same entries zero = refl
  flying_same entries (suc n) = λ i. flying_same entries n i + (if flies_same entries (suc n) i then 1 else 0)

  flying_all : (entries : List (Entry K)) → flying one entries (asked one).issued ≡ flying other entries (asked other).issued
  flying_all entries = ap (λ (a : Asked). flying one entries a.issued) s.asked_is ∙ flying_same entries (asked other).issued

  closing_same : (n : ℕ) (known : Known K) → ended_closing n one known ≡ ended_closing n other known
  closing_same zero known = refl
  closing_same (suc n) known = die_same cause.Ended known

  finishing : (held : Held (Known K)) →
      finish (ended_closing (flying one held.known.entries (asked one).issued) one) held ≡ finish (ended_closing (flying other held.known.entries (asked other).issued) other) held
  finishing held =
      ap (λ (n : ℕ). finish (ended_closing n one) held) (flying_all held.known.entries)
      ∙ (λ i. finish (λ known. closing_same (flying other held.known.entries (asked other).issued) known i) held)

  ended_same : (stage : Stage) (held : Held (Known K)) → ended_at stage one held ≡ ended_at stage other held
  ended_same Open held = λ i. finish (λ known. die_same cause.Ended known i) held
  ended_same Disconnecting held = finishing held
  ended_same Aborting held = finishing held
  ended_same stage held = refl

  failed_same : (stage : Stage) (held : Held (Known K)) → failed_at stage one held ≡ failed_at stage other held
  failed_same Open held = λ i. finish (λ known. die_same cause.LinkFailed known i) held
  failed_same Disconnecting held = λ i. finish (λ known. die_same cause.LinkFailed known i) held
  failed_same Aborting held = λ i. finish (λ known. die_same cause.LinkFailed known i) held
  failed_same stage held = refl

  closed_same : (known : Known K) → closed one known ≡ closed other known
  closed_same known =
      ap (λ (a : Asked). file_all one Dropped (cookies a.issued) (record known { stage = Closed })) s.asked_is
      ∙ file_all_same Dropped (cookies (asked other).issued) (record known { stage = Closed })

  -- One event more.

  asked_more : (e : Event K) → asked (e ∷ one) ≡ asked (e ∷ other)
  asked_more (Issue command) = ap (λ (a : Asked). record { issued = a.issued + 1; admitted = a.admitted + callbacks command.first; wrote = a.wrote }) s.asked_is
  asked_more (Refuse command why) = ap (λ (a : Asked). record { issued = a.issued; admitted = a.admitted + callbacks command.first; wrote = a.wrote }) s.asked_is
  asked_more (Wrote n) = ap (λ (a : Asked). record { issued = a.issued; admitted = a.admitted; wrote = a.wrote + n }) s.asked_is
  asked_more e = s.asked_is

  request_more : (e : Event K) (cookie : ℕ) → request (e ∷ one) cookie ≡ request (e ∷ other) cookie
  request_more (Issue command) cookie = λ i. if (s.asked_is i).issued + 1 == cookie then Some (request_of (s.asked_is i).admitted command) else s.request_is cookie i
  request_more e cookie = s.request_is cookie

  taken_more : (e : Event K) (cookie : ℕ) → is_taken (e ∷ one) cookie ≡ is_taken (e ∷ other) cookie
  taken_more (Retire taken) cookie = ap (λ (b : Bool). (taken == cookie) || b) (s.taken_is cookie)
  taken_more e cookie = s.taken_is cookie

  strict_more : (e : Event K) → strict_mode (e ∷ one) ≡ strict_mode (e ∷ other)
  strict_more (StrictMode bits) = refl
  strict_more e = s.strict_is

  reading_more : (e : Event K) → reading (e ∷ one) ≡ reading (e ∷ other)
  reading_more (Set setting) = λ i. change (turned (turn.Set setting)) (s.reading_is i)
  reading_more (StrictMode bits) = s.reading_is
  reading_more Start = λ i. change (λ known. record known { stage = Open }) (s.reading_is i)
  reading_more (Opt option) = λ i. change (turned (turn.Opted option)) (s.reading_is i)
  reading_more Abort = λ i. finish (λ known. asking (abort_part ∷ []) (record known { stage = Aborting })) (s.reading_is i)
  reading_more (Issue command) = λ i. change (λ known. asking (command_parts (is_extended known) ((s.asked_is i).issued + 1) command) known) (s.reading_is i)
  reading_more (Refuse command why) = λ i. change (freed (flight_of (s.asked_is i).admitted command.first command.done)) (s.reading_is i)
  reading_more Disconnect = λ i. change (λ known. asking (disconnect_part (is_extended known) ∷ []) (record known { stage = Disconnecting })) (s.reading_is i)
  reading_more (Wrote n) = s.reading_is
  reading_more (Arrived bytes answers) = λ i. feed (rules_same i) (change (with_answers answers) (s.reading_is i)) bytes
  reading_more (End answers) =
      ended_same (reading one).known.stage (change (with_answers answers) (reading one))
      ∙ ap (λ (r : Held (Known K)). ended_at r.known.stage other (change (with_answers answers) r)) s.reading_is
  reading_more (LinkFailed answers) =
      failed_same (reading one).known.stage (change (with_answers answers) (reading one))
      ∙ ap (λ (r : Held (Known K)). failed_at r.known.stage other (change (with_answers answers) r)) s.reading_is
  reading_more (Retire cookie) = s.reading_is
  reading_more ClearLog = λ i. change (λ known. record known { entries = Cleared ∷ known.entries }) (s.reading_is i)
  reading_more Close = λ i. finish (λ known. closed_same known i) (change (with_answers []) (s.reading_is i))

  same_more : (e : Event K) → Same (e ∷ one) (e ∷ other)
  same_more e = record { asked_is = asked_more e; request_is = request_more e; taken_is = taken_more e; strict_is = strict_more e; reading_is = reading_more e }

  -- What is answered.

  gone_same : (entries : List (Entry K)) (cookie : ℕ) → is_gone one entries cookie ≡ is_gone other entries cookie
  gone_same entries cookie = ap (λ (b : Bool). b || is_retired (own cookie entries)) (s.taken_is cookie)

  held_same : (entries : List (Entry K)) (n : ℕ) → held_of one entries n ≡ held_of other entries n
  held_same entries zero = refl
  held_same entries (suc n) = λ i. held_same entries n i + (if gone_same entries (suc n) i then 0 else 1)

  held_all : held_after one ≡ held_after other
  held_all = (λ i. held_of one (s.reading_is i).known.entries (s.asked_is i).issued) ∙ held_same (reading other).known.entries (asked other).issued

  done_same : done_after one ≡ done_after other
  done_same = λ i. filter (λ cookie. not (s.taken_is cookie i)) (kept_cookies (s.reading_is i).known.entries)

  outcome_same : (cookie : ℕ) → outcome_after one cookie ≡ outcome_after other cookie
  outcome_same cookie = λ i. outcome_of (s.request_is cookie i) (own cookie (s.reading_is i).known.entries)

  completed_same : (cookie : ℕ) → completed_after one cookie ≡ completed_after other cookie
  completed_same cookie = λ i.
      completed_as (is_some (s.request_is cookie i) && not (s.taken_is cookie i || is_retired (own cookie (s.reading_is i).known.entries)))
      (outcome_same cookie i) (kept_in (own cookie (s.reading_is i).known.entries))

  state_same : state_after one ≡ state_after other
  state_same = λ i. state_at (s.reading_is i).known.stage (phase (s.reading_is i).known.turns)

  waits_same : waits one ≡ waits other
  waits_same = λ i. waiting_at (s.reading_is i).known.stage (s.reading_is i).known.parts (s.asked_is i).wrote

  terms_same : terms_after one ≡ terms_after other
  terms_same = λ i.
      let all = steps (s.reading_is i).known.turns in
      terms_of (state_same i) (held_all i) (export all) (contexts all) (structured all) (extended all) (s.strict_is i)

  pub alike : AnswerAlike one other
  alike = record {
    state = state_same;
    in_flight = ap (λ (r : Held (Known K)). flying one r.known.entries (asked one).issued) s.reading_is ∙ flying_all (reading other).known.entries;
    held = held_all;
    peeked = λ i. peeked_of (done_same i) (held_all i);
    done = done_same;
    request = s.request_is;
    outcome = outcome_same;
    failure = λ cookie. ap failure_of (outcome_same cookie);
    completed = completed_same;
    waits = waits_same;
    out = ap out waits_same;
    direction = λ i. direction_of (is_living (s.reading_is i).known.stage) (out (waits_same i));
    info = λ i. (let all = steps (s.reading_is i).known.turns in info_of (export all) (contexts all) (structured all) (extended all));
    listed = λ i. listing (steps (s.reading_is i).known.turns);
    opt_answer = λ i. opt_answer (steps (s.reading_is i).known.turns);
    strict = s.strict_is;
    refusal = λ limit command i. refusal limit (terms_same i) command.kind command.flags command.offset command.length;
    asked = s.asked_is;
    log = λ i. log (s.reading_is i).known.entries;
    notes = λ i. notes (s.reading_is i).known.entries;
    calls = λ i. calls (s.reading_is i).known.entries;
    pending = λ i. (s.reading_is i).pending;
  }

  -- What may follow.

  may_set_same : (setting : Setting) → CanSet one setting → CanSet other setting
  may_set_same (Name name) h = ap may_name (sym state_same) ∙ h
  may_set_same (Context name) h = (ap may_name (sym state_same) ∙ h.0, subst (λ (r : Held (Known K)). length (contexts_now r.known.turns) < max_contexts) s.reading_is h.1)
  may_set_same (Structured on) h = sym state_same ∙ h
  may_set_same (Extended on) h = sym state_same ∙ h
  may_set_same (OptMode on) h = sym state_same ∙ h

  follows_same : (limit : ℕ) (e : Event K) → CanFollow limit one e → CanFollow limit other e
  follows_same limit (Set setting) h = may_set_same setting h
  follows_same limit (StrictMode bits) h = h
  follows_same limit Start h = sym state_same ∙ h
  follows_same limit (Opt option) h = (sym state_same ∙ h.0, h.1, λ is. ap (λ (r : Held (Known K)). structured (steps r.known.turns)) (sym s.reading_is) ∙ h.2 is)
  follows_same limit Abort h = sym state_same ∙ h
  follows_same limit (Issue command) h = (sym (alike.refusal limit command) ∙ h.0, h.1)
  follows_same limit (Refuse command why) h = sym (alike.refusal limit command) ∙ h
  follows_same limit Disconnect h = ap (λ (state : State). by_state state None) (sym state_same) ∙ h
  follows_same limit (Wrote n) h = subst (λ (bytes : List ℕ). n ≤ length bytes) alike.out h
  follows_same limit (Arrived bytes answers) h = ap (λ (r : Held (Known K)). is_living r.known.stage) (sym s.reading_is) ∙ h
  follows_same limit (End answers) h = h
  follows_same limit (LinkFailed answers) h = h
  follows_same limit (Retire cookie) h = (
    ap is_some (sym (s.request_is cookie)) ∙ h.0,
    ap (λ (r : Held (Known K)). is_ended (own cookie r.known.entries)) (sym s.reading_is) ∙ h.1,
    (λ i. sym (s.taken_is cookie) i || is_retired (own cookie (sym s.reading_is i).known.entries)) ∙ h.2,
  )
  follows_same limit ClearLog h = h
  follows_same limit Close h = h

module _ {K : Type 0} where
  cut_same : (before : History K) (first second : List ℕ) (answers : List Answer) → Same (in_two [] before first second answers) (in_one [] before first second answers)
  cut_same before first second answers = record {
    asked_is = refl;
    request_is = λ cookie. refl;
    taken_is = λ cookie. refl;
    strict_is = refl;
    reading_is = cuts_do_not_matter before first second answers;
  }

  pub goes_on_same : (later before : History K) (first second : List ℕ) (answers : List Answer) → Same (in_two later before first second answers) (in_one later before first second answers)
  goes_on_same [] before first second answers = cut_same before first second answers
  goes_on_same (e ∷ later) before first second answers =
      same_more (in_two later before first second answers) (in_one later before first second answers) (goes_on_same later before first second answers) e

  pub cuts_change_nothing_later : CutsChangeNothingLater K
  cuts_change_nothing_later later before first second answers =
      alike (in_two later before first second answers) (in_one later before first second answers) (goes_on_same later before first second answers)

  -- only the latest event tells it
  closed_head : (e : Event K) (one other : History K) → is_closed (e ∷ one) ≡ is_closed (e ∷ other)
  closed_head Close one other = refl
  closed_head e one other = refl

  closed_alike : (later before : History K) (first second : List ℕ) (answers : List Answer) →
      is_closed (in_two later before first second answers) ≡ is_closed (in_one later before first second answers)
  closed_alike [] before first second answers = refl
  closed_alike (e ∷ later) before first second answers = closed_head e (in_two later before first second answers) (in_one later before first second answers)

  pub cuts_stay_lawful : CutsStayLawful K
  cuts_stay_lawful limit [] before first second answers h = h.0
  cuts_stay_lawful limit (e ∷ later) before first second answers h = (
    cuts_stay_lawful limit later before first second answers h.0,
    sym (closed_alike later before first second answers) ∙ h.1,
    follows_same (in_two later before first second answers) (in_one later before first second answers) (goes_on_same later before first second answers) limit e h.2,
  )
