-- An event takes from its list just the answers that its calls give.
use Rattle.std.proofs.Common.{◌≡◌, ℕ, ◌+◌, zero, suc, Bool, true, false, ◌&&◌, List, [], ◌∷◌, ◌++◌, map, Option, Some, None, is_some, ◌==◌, refl, ap, sym, subst, ◌∙◌, append_assoc, append-nil}
use Rattle.lnbd_model.specs.declared.state.Cause.{Cause}
use Rattle.lnbd_model.specs.declared.state.Cause.TheVariants as cause
use Rattle.lnbd_keyed.specs.Keyed.{value_at, keys}
use Rattle.lnbd_stream.specs.Stream.{Held, settle, feed}
use Rattle.lnbd_outcome.specs.Hearing.{Hearing}
use Rattle.lnbd_outcome.specs.Hearing as hearing
use Rattle.lnbd_outcome.specs.Pieces.{Item, Framed, Lost, Dropped, completes}
use Rattle.lnbd_callbacks.specs.Calls.{Call, Chunk, Extents, Complete, Free, counted}
use Rattle.lnbd_callbacks.specs.Slot.{Slot}
use Rattle.lnbd_callbacks.specs.declared.caller.Heard.{Heard}
use Rattle.lnbd_callbacks.specs.declared.caller.Heard.TheVariants.{Going, Fail}
use Rattle.lnbd_callbacks.specs.declared.caller.Verdict.{Verdict}
use Rattle.lnbd_history.specs.declared.kinds.Phase.{Phase}
use Rattle.lnbd_history.specs.declared.kinds.Phase.TheVariants as phase
use Rattle.lnbd_history.specs.declared.kinds.Stage.{Stage}
use Rattle.lnbd_history.specs.declared.kinds.Stage.TheVariants.{Created, Open, Disconnecting, Aborting, Closed, Dead}
use Rattle.lnbd_history.specs.Agreement.{Replied, ByName}
use Rattle.lnbd_history.specs.Arrivals.{Shown, Hello, OptionReply, ExportReply, Reply, Broken, Passed, Ignored, shows_at}
use Rattle.lnbd_history.specs.Commands.{Flight}
use Rattle.lnbd_history.specs.Entries.{Act, call_of, hears, act_of, first_acts, first_free_acts, free_acts, completion_acts, end_acts, filing_acts}
use Rattle.lnbd_history.specs.Events.{Answer, Hears, Decides, Event, Arrived, End, LinkFailed}
use Rattle.lnbd_history.specs.Entries as entries
use Rattle.lnbd_history.specs.History.{next_heard, next_verdict, left, reading}
use Rattle.lnbd_machine.specs.Machine.{Row, State, Machine, Doing, heard_in, acts_in, file_with, file_flight, file_row, file_in, file_all, on_state, kill, turned, if_refused, greeted, enter}
use Rattle.lnbd_machine.specs.Machine.{sight, waited, table_rules, flying, ended_closing, finish, ended_at, failed_at, course, calls}
use Rattle.lnbd_standing.specs.Standing.{StandsFor, May}
use Rattle.lnbd_standing.proofs.Standing.{goes_on, stands_calls}
use Rattle.lnbd_accepts.specs.Given.{given, fitting, FittingAnswersDoTheSame, FittingAnswersSuffice}

counted_again : (heard : Heard) → counted (counted heard) ≡ counted heard
counted_again Going = refl
counted_again (Fail number) = go (number == 0) refl
  where
    go : (b : Bool) → (number == 0) ≡ b → counted (counted (Fail number)) ≡ counted (Fail number)
    go true e = rw e refl
    go false e = rw (e, e) refl

module _ {K : Type 0} where
  given-append : (xs ys : List (Call K)) → given (xs ++ ys) ≡ given xs ++ given ys
  given-append [] ys = refl
  given-append (Chunk callback bytes offset status error heard ∷ xs) ys = ap (λ (answers : List Answer). Hears heard ∷ answers) (given-append xs ys)
  given-append (Extents callback context offset extents error heard ∷ xs) ys = ap (λ (answers : List Answer). Hears heard ∷ answers) (given-append xs ys)
  given-append (Complete callback error buf verdict ∷ xs) ys = ap (λ (answers : List Answer). Decides verdict ∷ answers) (given-append xs ys)
  given-append (Free callback ∷ xs) ys = given-append xs ys

  -- One item.

  -- what is taken for a chunk callback
  record Taken (first : Option (Slot K)) (told : Option Hearing) (answers more : List Answer) : Type 0 where
    heard :
        next_heard (is_some told && is_some first) (given (map call_of (first_acts first told (next_heard (is_some told && is_some first) answers))) ++ more)
        ≡ next_heard (is_some told && is_some first) answers
    rest : left (is_some told && is_some first) (given (map call_of (first_acts first told (next_heard (is_some told && is_some first) answers))) ++ more) ≡ more

  taken : (first : Option (Slot K)) (told : Option Hearing) (answers more : List Answer) → Taken first told answers more
  taken None None answers more = record { heard = refl; rest = refl }
  taken (Some slot) None answers more = record { heard = refl; rest = refl }
  taken None (Some told) answers more = record { heard = refl; rest = refl }
  taken (Some slot) (Some (hearing.Chunk bytes offset status error)) [] more = record { heard = refl; rest = refl }
  taken (Some slot) (Some (hearing.Chunk bytes offset status error)) (Hears heard ∷ answers) more = record { heard = ap Some (counted_again heard); rest = refl }
  taken (Some slot) (Some (hearing.Chunk bytes offset status error)) (Decides verdict ∷ answers) more = record { heard = refl; rest = refl }
  taken (Some slot) (Some (hearing.Extents context offset extents error)) [] more = record { heard = refl; rest = refl }
  taken (Some slot) (Some (hearing.Extents context offset extents error)) (Hears heard ∷ answers) more = record { heard = ap Some (counted_again heard); rest = refl }
  taken (Some slot) (Some (hearing.Extents context offset extents error)) (Decides verdict ∷ answers) more = record { heard = refl; rest = refl }

  -- what is taken for a completion callback
  record Decided (flight : Flight K) (item : Item) (error : ℕ) (bytes : List ℕ) (answers more : List Answer) : Type 0 where
    verdict : next_verdict (completes item) (given (map call_of (end_acts flight item (next_verdict (completes item) answers) error bytes)) ++ more) ≡ next_verdict (completes item) answers
    rest : left (completes item) (given (map call_of (end_acts flight item (next_verdict (completes item) answers) error bytes)) ++ more) ≡ more

  decided_by : (flight : Flight K) (first : Option (Slot K)) → flight.first ≡ first →
      (item : Item) (error : ℕ) (bytes : List ℕ) (answers more : List Answer) → Decided flight item error bytes answers more
  decided_by flight None e (Framed content true) error bytes [] more = record { verdict = rw e refl; rest = rw e refl }
  decided_by flight None e (Framed content true) error bytes (Decides verdict ∷ answers) more = record { verdict = rw e refl; rest = rw e refl }
  decided_by flight None e (Framed content true) error bytes (Hears heard ∷ answers) more = record { verdict = rw e refl; rest = rw e refl }
  decided_by flight (Some slot) e (Framed content true) error bytes [] more = record { verdict = rw e refl; rest = rw e refl }
  decided_by flight (Some slot) e (Framed content true) error bytes (Decides verdict ∷ answers) more = record { verdict = rw e refl; rest = rw e refl }
  decided_by flight (Some slot) e (Framed content true) error bytes (Hears heard ∷ answers) more = record { verdict = rw e refl; rest = rw e refl }
  decided_by flight first e (Framed content false) error bytes answers more = record { verdict = refl; rest = refl }
  decided_by flight None e Lost error bytes [] more = record { verdict = rw e refl; rest = rw e refl }
  decided_by flight None e Lost error bytes (Decides verdict ∷ answers) more = record { verdict = rw e refl; rest = rw e refl }
  decided_by flight None e Lost error bytes (Hears heard ∷ answers) more = record { verdict = rw e refl; rest = rw e refl }
  decided_by flight (Some slot) e Lost error bytes [] more = record { verdict = rw e refl; rest = rw e refl }
  decided_by flight (Some slot) e Lost error bytes (Decides verdict ∷ answers) more = record { verdict = rw e refl; rest = rw e refl }
  decided_by flight (Some slot) e Lost error bytes (Hears heard ∷ answers) more = record { verdict = rw e refl; rest = rw e refl }
  decided_by flight None e Dropped error bytes answers more = record { verdict = refl; rest = rw e refl }
  decided_by flight (Some slot) e Dropped error bytes answers more = record { verdict = refl; rest = rw e refl }

  -- A part of an event makes some calls more, and with their answers, whatever others come later, it does the same.
  record Fair (part : Doing K → Doing K) (doing : Doing K) : Type 0 where
    made : List (Call K)
    calls_are : (part doing).calls ≡ doing.calls ++ made
    does : (more : List Answer) (before : List (Call K)) →
        part (record { state = doing.state; answers = given made ++ more; calls = before }) ≡ record { state = (part doing).state; answers = more; calls = before ++ made }

  abbrev doing_of : State K → List Answer → List (Call K) → Doing K
  doing_of state answers calls = record { state = state; answers = answers; calls = calls }

  -- a part that makes no call
  silent : (f : State K → State K) (doing : Doing K) → Fair (on_state f) doing
  silent f doing = record { made = []; calls_are = sym (append-nil doing.calls); does = λ more before. ap (λ (cs : List (Call K)). doing_of (f doing.state) more cs) (sym (append-nil before)) }

  idle : (doing : Doing K) → Fair (λ (d : Doing K). d) doing
  idle doing = record { made = []; calls_are = sym (append-nil doing.calls); does = λ more before. ap (λ (cs : List (Call K)). doing_of doing.state more cs) (sym (append-nil before)) }

  -- one part and then another
  both : (f g : Doing K → Doing K) (doing : Doing K) → Fair f doing → Fair g (f doing) → Fair (λ (d : Doing K). g (f d)) doing
  both f g doing a b = record {
    made = a.made ++ b.made;
    calls_are = b.calls_are ∙ ap (λ (cs : List (Call K)). cs ++ b.made) a.calls_are ∙ append_assoc doing.calls a.made b.made;
    does = λ more before.
        ap (λ (answers : List Answer). g (f (doing_of doing.state answers before)))
        (ap (λ (answers : List Answer). answers ++ more) (given-append a.made b.made) ∙ append_assoc (given a.made) (given b.made) more)
        ∙ ap g (a.does (given b.made ++ more) before)
        ∙ b.does more (before ++ a.made)
        ∙ ap (λ (cs : List (Call K)). doing_of (g (f doing)).state more cs) (append_assoc before a.made b.made);
  }

  map-append : (xs ys : List (Act K)) → map call_of (xs ++ ys) ≡ map call_of xs ++ map call_of ys
  map-append [] ys = refl
  map-append (x ∷ xs) ys = ap (λ (cs : List (Call K)). call_of x ∷ cs) (map-append xs ys)

  -- what is taken of a list that begins with the answers of an item's calls
  record Picks (flight : Flight K) (told : Option Hearing) (item : Item) (answers more list : List Answer) : Type 0 where
    heard : next_heard (hears flight told) list ≡ next_heard (hears flight told) answers
    verdict : next_verdict (completes item) (left (hears flight told) list) ≡ next_verdict (completes item) (left (hears flight told) answers)
    rest : left (completes item) (left (hears flight told) list) ≡ more

  picks : (flight : Flight K) (told : Option Hearing) (item : Item) (error : ℕ) (bytes : List ℕ) (answers more : List Answer) →
      Picks flight told item answers more
      (given (map call_of (filing_acts flight told item (next_heard (hears flight told) answers) (next_verdict (completes item) (left (hears flight told) answers)) error bytes)) ++ more)
  picks flight told item error bytes answers more =
      let firsts : List (Act K) = first_acts flight.first told (next_heard (hears flight told) answers) in
      let lasts : List (Act K) = end_acts flight item (next_verdict (completes item) (left (hears flight told) answers)) error bytes in
      let t = taken flight.first told answers (given (map call_of (end_acts flight item (next_verdict (completes item) (left (hears flight told) answers)) error bytes)) ++ more) in
      let d = decided_by flight flight.first refl item error bytes (left (hears flight told) answers) more in
      let apart : given (map call_of (firsts ++ lasts)) ++ more ≡ given (map call_of firsts) ++ (given (map call_of lasts) ++ more) =
      ap (λ (list : List Answer). list ++ more) (ap given (map-append firsts lasts) ∙ given-append (map call_of firsts) (map call_of lasts))
      ∙ append_assoc (given (map call_of firsts)) (given (map call_of lasts)) more in
      subst (Picks flight told item answers more) (sym apart) (record {
        heard = t.heard;
        verdict = ap (next_verdict (completes item)) t.rest ∙ d.verdict;
        rest = ap (left (completes item)) t.rest ∙ d.rest;
      })

  file_path : (flight : Flight K) (row : Row K) (cookie : ℕ) (item : Item) (state : State K) (list more : List Answer) (before : List (Call K)) (heard : Option Heard) (verdict : Option Verdict) →
      next_heard (hears flight (heard_in row state.talk.contexts item)) list ≡ heard → next_verdict (completes item) (left (hears flight (heard_in row state.talk.contexts item)) list) ≡ verdict →
      left (completes item) (left (hears flight (heard_in row state.talk.contexts item)) list) ≡ more →
      file_flight (Some flight) row cookie item (doing_of state list before) ≡ file_with cookie row flight item heard verdict more (doing_of state list before)
  file_path flight row cookie item state list more before heard verdict h v r = λ i. file_with cookie row flight item (h i) (v i) (r i) (doing_of state list before)

  -- The calls of an item under a command in flight.
  abbrev acts_now : Flight K → Row K → Item → Doing K → List (Act K)
  acts_now flight row item doing =
      acts_in row flight doing.state.talk.contexts item (next_heard (hears flight (heard_in row doing.state.talk.contexts item)) doing.answers)
      (next_verdict (completes item) (left (hears flight (heard_in row doing.state.talk.contexts item)) doing.answers))

  flight_fair : (flight : Flight K) (row : Row K) (cookie : ℕ) (item : Item) (doing : Doing K) → Fair (file_flight (Some flight) row cookie item) doing
  flight_fair flight row cookie item doing = record {
    made = map call_of (acts_now flight row item doing);
    calls_are = refl;
    does = λ more before.
        let p = picks flight (heard_in row doing.state.talk.contexts item) item _ _ doing.answers more in
        file_path flight row cookie item doing.state (given (map call_of (acts_now flight row item doing)) ++ more) more before _ _ p.heard p.verdict p.rest;
  }

  flown_fair : (flown : Option (Flight K)) (row : Row K) (cookie : ℕ) (item : Item) (doing : Doing K) → Fair (file_flight flown row cookie item) doing
  flown_fair None row cookie item doing = idle doing
  flown_fair (Some flight) row cookie item doing = flight_fair flight row cookie item doing

  row_fair : (row : Option (Row K)) (cookie : ℕ) (item : Item) (doing : Doing K) → Fair (file_row row cookie item) doing
  row_fair None cookie item doing = idle doing
  row_fair (Some row) cookie item doing = flown_fair row.flight row cookie item doing

  file_fair : (cookie : ℕ) (item : Item) (doing : Doing K) → Fair (file_in cookie item) doing
  file_fair cookie item doing =
      let f = row_fair (value_at cookie doing.state.rows) cookie item doing in
      record { made = f.made; calls_are = f.calls_are; does = f.does }

  all_fair : (item : Item) (cookies : List ℕ) (doing : Doing K) → Fair (file_all item cookies) doing
  all_fair item [] doing = idle doing
  all_fair item (cookie ∷ cookies) doing = both (file_in cookie item) (file_all item cookies) doing (file_fair cookie item doing) (all_fair item cookies (file_in cookie item doing))

  abbrev dead : Cause → State K → State K
  dead why state = record state { stage = Dead why; waits = [] }

  kill_fair : (why : Cause) (doing : Doing K) → Fair (kill why) doing
  kill_fair why doing =
      let f = both (on_state (dead why)) (file_all Lost (keys doing.state.rows)) doing (silent (dead why) doing) (all_fair Lost (keys doing.state.rows) (on_state (dead why) doing)) in
      record { made = f.made; calls_are = f.calls_are; does = f.does }

  refused_fair : (p : Phase) (doing : Doing K) → Fair (if_refused p) doing
  refused_fair (phase.Refused code) doing = kill_fair (cause.Refused 7 code) doing
  refused_fair phase.Greeting doing = idle doing
  refused_fair (phase.Asked option) doing = idle doing
  refused_fair phase.AskedByName doing = idle doing
  refused_fair phase.OptMode doing = idle doing
  refused_fair phase.Ready doing = idle doing

  enter_fair : (found : Shown) (doing : Doing K) → Fair (enter found) doing
  enter_fair (Hello flags) doing = silent (greeted flags) doing
  enter_fair (OptionReply told) doing =
      let f = both (on_state (turned (Replied told))) (if_refused (on_state (turned (Replied told)) doing).state.talk.phase) doing (silent (turned (Replied told)) doing)
      (refused_fair (on_state (turned (Replied told)) doing).state.talk.phase (on_state (turned (Replied told)) doing)) in
      record { made = f.made; calls_are = f.calls_are; does = f.does }
  enter_fair (ExportReply size flags) doing = silent (turned (ByName size flags)) doing
  enter_fair (Reply frame) doing = file_fair frame.cookie (Framed frame.content frame.last) doing
  enter_fair (Broken breach) doing = kill_fair (cause.Broke breach) doing
  enter_fair Passed doing = silent (λ state. record state { passed = state.passed + 1 }) doing
  enter_fair Ignored doing = idle doing

  -- Bytes that are fed, and what the bytes since the last record show.

  abbrev feeding : List ℕ → List ℕ → Doing K → Held (Doing K)
  feeding pending bytes doing = feed table_rules (record { known = doing; pending = pending }) bytes

  record FairFeed (whole : Doing K → Held (Doing K)) (doing : Doing K) : Type 0 where
    made : List (Call K)
    calls_are : (whole doing).known.calls ≡ doing.calls ++ made
    does : (more : List Answer) (before : List (Call K)) →
        whole (doing_of doing.state (given made ++ more) before) ≡ record { known = doing_of (whole doing).known.state more (before ++ made); pending = (whole doing).pending }

  feed_fair : (bytes pending : List ℕ) (doing : Doing K) → FairFeed (feeding pending bytes) doing
  feed_fair [] pending doing =
      let f = idle doing in
      record { made = f.made; calls_are = f.calls_are; does = λ more before. ap (λ (d : Doing K). record { known = d; pending = pending }) (f.does more before) }
  feed_fair (byte ∷ bytes) pending doing =
      let f = shown (shows_at doing.state.stage (sight doing.state) (waited doing.state) (pending ++ byte ∷ [])) (feed_fair bytes) in
      record { made = f.made; calls_are = f.calls_are; does = f.does }
    where
      shown : (s : Option Shown) → ((held : List ℕ) (d : Doing K) → FairFeed (feeding held bytes) d) →
          FairFeed (λ (d : Doing K). feed table_rules (settle table_rules d (pending ++ byte ∷ []) s) bytes) doing
      shown None later = later (pending ++ byte ∷ []) doing
      shown (Some found) later =
          let e = enter_fair found doing in
          let f = later [] (enter found doing) in
          record {
            made = e.made ++ f.made;
            calls_are = f.calls_are ∙ ap (λ (cs : List (Call K)). cs ++ f.made) e.calls_are ∙ append_assoc doing.calls e.made f.made;
            does = λ more before.
                ap (λ (answers : List Answer). feeding [] bytes (enter found (doing_of doing.state answers before)))
                (ap (λ (answers : List Answer). answers ++ more) (given-append e.made f.made) ∙ append_assoc (given e.made) (given f.made) more)
                ∙ ap (feeding [] bytes) (e.does (given f.made ++ more) before)
                ∙ f.does more (before ++ e.made)
                ∙ ap (λ (cs : List (Call K)). record { known = doing_of (feeding [] bytes (enter found doing)).known.state more cs; pending = (feeding [] bytes (enter found doing)).pending })
                (append_assoc before e.made f.made);
          }

  -- The end of the connection.

  finish_fair : (f : Doing K → Doing K) (doing : Doing K) → Fair f doing → FairFeed (λ (d : Doing K). record { known = f d; pending = [] }) doing
  finish_fair f doing a = record { made = a.made; calls_are = a.calls_are; does = λ more before. ap (λ (d : Doing K). record { known = d; pending = [] }) (a.does more before) }

  held_fair : (pending : List ℕ) (doing : Doing K) → FairFeed (λ (d : Doing K). record { known = d; pending = pending }) doing
  held_fair pending doing =
      let f = idle doing in
      record { made = f.made; calls_are = f.calls_are; does = λ more before. ap (λ (d : Doing K). record { known = d; pending = pending }) (f.does more before) }

  closing_fair : (n : ℕ) (doing : Doing K) → Fair (ended_closing n) doing
  closing_fair zero doing = silent (λ state. record state { stage = Closed; waits = [] }) doing
  closing_fair (suc n) doing = kill_fair cause.Ended doing

  closed_fair : (pending : List ℕ) (doing : Doing K) → FairFeed (λ (d : Doing K). finish (ended_closing (flying d.state.rows)) (record { known = d; pending = pending })) doing
  closed_fair pending doing =
      let f = finish_fair (ended_closing (flying doing.state.rows)) doing (closing_fair (flying doing.state.rows) doing) in
      record { made = f.made; calls_are = f.calls_are; does = f.does }

  ended_fair : (stage : Stage) (pending : List ℕ) (doing : Doing K) → FairFeed (λ (d : Doing K). ended_at stage (record { known = d; pending = pending })) doing
  ended_fair Open pending doing = finish_fair (kill cause.Ended) doing (kill_fair cause.Ended doing)
  ended_fair Disconnecting pending doing = closed_fair pending doing
  ended_fair Aborting pending doing = closed_fair pending doing
  ended_fair Created pending doing = held_fair pending doing
  ended_fair Closed pending doing = held_fair pending doing
  ended_fair (Dead why) pending doing = held_fair pending doing

  failed_fair : (stage : Stage) (pending : List ℕ) (doing : Doing K) → FairFeed (λ (d : Doing K). failed_at stage (record { known = d; pending = pending })) doing
  failed_fair Open pending doing = finish_fair (kill cause.LinkFailed) doing (kill_fair cause.LinkFailed doing)
  failed_fair Disconnecting pending doing = finish_fair (kill cause.LinkFailed) doing (kill_fair cause.LinkFailed doing)
  failed_fair Aborting pending doing = finish_fair (kill cause.LinkFailed) doing (kill_fair cause.LinkFailed doing)
  failed_fair Created pending doing = held_fair pending doing
  failed_fair Closed pending doing = held_fair pending doing
  failed_fair (Dead why) pending doing = held_fair pending doing

  -- Whole events.

  -- from no calls on, with the answers of all calls that are made
  fitted : (whole : Doing K → Held (Doing K)) (state : State K) (answers : List Answer) → FairFeed whole (doing_of state answers []) →
      whole (doing_of state (given (whole (doing_of state answers [])).known.calls) [])
      ≡ record { known = doing_of (whole (doing_of state answers [])).known.state [] (whole (doing_of state answers [])).known.calls; pending = (whole (doing_of state answers [])).pending }
  fitted whole state answers f =
      let end = whole (doing_of state answers []) in
      ap (λ (cs : List (Call K)). whole (doing_of state (given cs) [])) f.calls_are
      ∙ ap (λ (list : List Answer). whole (doing_of state list [])) (sym (append-nil (given f.made)))
      ∙ f.does [] []
      ∙ ap (λ (cs : List (Call K)). record { known = doing_of (whole (doing_of state answers [])).known.state [] cs; pending = (whole (doing_of state answers [])).pending }) (sym f.calls_are)

  abbrev machine_in : Held (Doing K) → Machine K
  machine_in held = record { known = held.known.state; pending = held.pending }

  arrived_same : (now : Machine K) (bytes : List ℕ) (answers : List Answer) →
      course now (fitting now (Arrived bytes answers))
      ≡ record { known = doing_of (course now (Arrived bytes answers)).known.state [] (calls now (Arrived bytes answers)); pending = (course now (Arrived bytes answers)).pending }
  arrived_same now bytes answers = fitted (feeding now.pending bytes) now.known answers (feed_fair bytes now.pending (doing_of now.known answers []))

  end_same : (now : Machine K) (answers : List Answer) →
      course now (fitting now (End answers)) ≡ record { known = doing_of (course now (End answers)).known.state [] (calls now (End answers)); pending = (course now (End answers)).pending }
  end_same now answers =
      fitted (λ (d : Doing K). ended_at now.known.stage (record { known = d; pending = now.pending })) now.known answers (ended_fair now.known.stage now.pending (doing_of now.known answers []))

  failed_same : (now : Machine K) (answers : List Answer) →
      course now (fitting now (LinkFailed answers))
      ≡ record { known = doing_of (course now (LinkFailed answers)).known.state [] (calls now (LinkFailed answers)); pending = (course now (LinkFailed answers)).pending }
  failed_same now answers =
      fitted (λ (d : Doing K). failed_at now.known.stage (record { known = d; pending = now.pending })) now.known answers (failed_fair now.known.stage now.pending (doing_of now.known answers []))

  pub fitting_answers_do_the_same : FittingAnswersDoTheSame K
  fitting_answers_do_the_same now (Arrived bytes answers) = record {
    machine = ap machine_in (arrived_same now bytes answers);
    calls = ap (λ (h : Held (Doing K)). h.known.calls) (arrived_same now bytes answers);
    fits = ap (λ (h : Held (Doing K)). Arrived bytes (given h.known.calls)) (arrived_same now bytes answers);
  }
  fitting_answers_do_the_same now (End answers) = record {
    machine = ap machine_in (end_same now answers);
    calls = ap (λ (h : Held (Doing K)). h.known.calls) (end_same now answers);
    fits = ap (λ (h : Held (Doing K)). End (given h.known.calls)) (end_same now answers);
  }
  fitting_answers_do_the_same now (LinkFailed answers) = record {
    machine = ap machine_in (failed_same now answers);
    calls = ap (λ (h : Held (Doing K)). h.known.calls) (failed_same now answers);
    fits = ap (λ (h : Held (Doing K)). LinkFailed (given h.known.calls)) (failed_same now answers);
  }
  fitting_answers_do_the_same now event = record { machine = refl; calls = refl; fits = refl }

  may_fitting : (limit : ℕ) (now : Machine K) (event : Event K) → May limit now event → May limit now (fitting now event)
  may_fitting limit now (Arrived bytes answers) may = may
  may_fitting limit now (End answers) may = may
  may_fitting limit now (LinkFailed answers) may = may
  may_fitting limit now event may = may

  pub fitting_answers_suffice : FittingAnswersSuffice K
  fitting_answers_suffice limit history now event stands may =
      let f = fitting_answers_do_the_same now event in
      let may' = may_fitting limit now event may in
      let on = goes_on limit history now (fitting now event) stands may' in
      record {
        lawful = on.lawful;
        stands = λ going. subst (StandsFor limit (fitting now event ∷ history)) f.machine (on.stands going);
        calls = stands_calls limit history now (fitting now event) stands may' ∙ ap (λ (cs : List (Call K)). entries.calls (reading history).known.entries ++ cs) f.calls;
      }
