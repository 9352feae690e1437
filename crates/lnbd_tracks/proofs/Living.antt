-- A command waits only while its handle lives: at death each comes to something.
use Rattle.std.proofs.Common.{◌≡◌, ◌⊎◌, inl, inr, ℕ, zero, suc, ◌+◌, ◌≤◌, Bool, true, false, not, ◌&&◌, ◌||◌, List, [], ◌∷◌, ◌++◌, Option, Some, None, is_some, if◌then◌else◌, refl, ap, sym, subst, ◌∙◌, arith}
use Rattle.std.proofs.lemmas.Bool.{cases_eq, cases_lt, false≢true}
use Rattle.lnbd_model.specs.declared.export.Context.{Context as MetaContext}
use Rattle.lnbd_model.specs.declared.failure.Failure.{Failure}
use Rattle.lnbd_model.specs.declared.state.Cause.{Cause}
use Rattle.lnbd_model.specs.declared.state.Cause.TheVariants as cause
use Rattle.lnbd_model.specs.declared.state.State.TheVariants as state
use Rattle.lnbd_stream.specs.Stream.{Held}
use Rattle.lnbd_stream.specs.Laws.{Lasts}
use Rattle.lnbd_stream.proofs.Stream.{feed_lasts}
use Rattle.lnbd_outcome.specs.Outcome.{Unfinished, bytes, failure, verdict}
use Rattle.lnbd_outcome.specs.Pieces.{is_completed}
use Rattle.lnbd_history.specs.declared.kinds.Phase.{Phase}
use Rattle.lnbd_history.specs.declared.kinds.Phase.TheVariants as phase
use Rattle.lnbd_history.specs.declared.kinds.Stage.{Stage}
use Rattle.lnbd_history.specs.declared.kinds.Stage.TheVariants.{Created, Open, Disconnecting, Aborting, Closed, Dead}
use Rattle.lnbd_history.specs.Agreement.{Replied, phase}
use Rattle.lnbd_history.specs.Answers.{is_living, state_after, state_at}
use Rattle.lnbd_history.specs.Arrivals.{Frame, Hello, OptionReply, ExportReply, Reply, Broken, Passed, Ignored}
use Rattle.lnbd_history.specs.Commands.{Request, query_of}
use Rattle.lnbd_history.specs.Entries.{Item, Framed, Lost, Filing, Entry, Filed, completes, ends, own, is_ended}
use Rattle.lnbd_history.specs.Events.{Answer, Event, History, Set, StrictMode, Start, Opt, Abort, Issue, Refuse, Disconnect, Wrote, Arrived, End, LinkFailed, Retire, ClearLog, Close}
use Rattle.lnbd_history.specs.History.{Known, agreed_contexts, asked, change, cookies, die, ended_at, ended_closing, failed_at, file, file_all, file_under, filing_of, flying, if_refused, in_flight, reading, request, rules, turned, with_answers}
use Rattle.lnbd_history.specs.Laws.{Lawful, is_closed}
use Rattle.lnbd_history.proofs.Cookies.{request_past, request_zero}
use Rattle.lnbd_asked.specs.InStep.{silent_pieces}
use Rattle.lnbd_asked.specs.Transcript.{outcome_of}
use Rattle.lnbd_asked.proofs.Doing.{unrefused}
use Rattle.lnbd_board.specs.declared.ticket.Ticket.{Ticket}
use Rattle.lnbd_tracks.specs.Unanswered.{OverCame, WaitingLives}
use Rattle.lnbd_tracks.proofs.Coming.{all_keep}
use Rattle.lnbd_tracks.proofs.Staying.{ended_more, or_left, or_right}
use Rattle.lnbd_tracks.proofs.Unfiled.{own_other, own_same}

none_some : {A : Type 0} (one : A) → None ≡ Some one → ⊥
none_some one e = cc

either : (a b : Bool) → (a || b) ≡ true → (a ≡ true) ⊎ (b ≡ true)
either true b e = inl refl
either false b e = inr e

-- Requests may be made only while the handle lives.
ready_lives : (stage : Stage) (p : Phase) → state_at stage p ≡ state.Ready → is_living stage ≡ true
ready_lives Created p e = absurd (cc)
ready_lives Open p e = refl
ready_lives Disconnecting p e = refl
ready_lives Aborting p e = refl
ready_lives Closed p e = absurd (cc)
ready_lives (Dead why) p e = absurd (cc)

module _ {K : Type 0} where
  -- what came for a command ends with what completes it
  abbrev Came : List (Filing K) → Type 0
  Came filings = is_ended filings ≡ true → is_completed (silent_pieces filings) ≡ true

  -- So it is with each command.
  abbrev AllCame : List (Entry K) → Type 0
  AllCame entries = (c : ℕ) → Came (own c entries)

  came_more : (f : Filing K) (entries : List (Entry K)) → (ends f.item ≡ true → completes f.item ≡ true) → AllCame entries → AllCame (Filed f ∷ entries)
  came_more f entries both all c = go (cases_eq f.cookie c)
    where
      here : is_ended (f ∷ own c entries) ≡ true → is_completed (silent_pieces (f ∷ own c entries)) ≡ true
      here e = elim (either (ends f.item) (is_ended (own c entries)) e) [
        | inl now ↦ or_left (completes f.item) (is_completed (silent_pieces (own c entries))) (both now)
        | inr was ↦ or_right (completes f.item) (is_completed (silent_pieces (own c entries))) (all c was)
      ]

      go : (f.cookie ≡ c) ⊎ (f.cookie ≡ c → ⊥) → Came (own c (Filed f ∷ entries))
      go (inl same) = subst Came (sym (subst (λ (n : ℕ). own n (Filed f ∷ entries) ≡ f ∷ own n entries) same (own_same f entries))) here
      go (inr differ) = subst Came (sym (own_other c f entries differ)) (all c)

  module _ (before : History K) where
    -- Unless the handle lives each command has ended.
    abbrev Over : Known K → Type 0
    Over known = (c : ℕ) (q : Request K) → request before c ≡ Some q → is_ended (own c known.entries) ≡ true

    record Sound (known : Known K) : Type 0 where
      came : AllCame known.entries
      over : is_living known.stage ≡ false → Over known

    abbrev Fits : Item → Type 0
    Fits item = ends item ≡ true → completes item ≡ true

    came_filed : (asks : Request K) (c : ℕ) (item : Item) (contexts : List MetaContext) (answers : List Answer) (entries : List (Entry K)) → Fits item → request before c ≡ Some asks → is_ended (own c entries) ≡ false → AllCame entries →
        AllCame (Filed (filing_of asks c (own c entries) contexts item answers) ∷ entries)
    came_filed asks c item contexts answers entries fits there going all = came_more (filing_of asks c (own c entries) contexts item answers) entries fits all

    -- Those that have ended stay so.
    abbrev Ended : ℕ → List (Entry K) → Type 0
    Ended c entries = is_ended (own c entries) ≡ true

    ended_filed : (d : ℕ) (asks : Request K) (c : ℕ) (item : Item) (contexts : List MetaContext) (answers : List Answer) (entries : List (Entry K)) → Unit {0} → request before c ≡ Some asks → is_ended (own c entries) ≡ false → Ended d entries →
        Ended d (Filed (filing_of asks c (own c entries) contexts item answers) ∷ entries)
    ended_filed d asks c item contexts answers entries any there going e = ended_more d (filing_of asks c (own c entries) contexts item answers) entries e

    -- At death each command is lost that is in flight.

    one_lost : (c : ℕ) (q : Request K) (known : Known K) → request before c ≡ Some q → Ended c (if in_flight before known.entries c then file before c Lost known else known).entries
    one_lost c q known is = go (is_ended (own c known.entries)) refl
      where
        flies : in_flight before known.entries c ≡ not (is_ended (own c known.entries))
        flies = ap (λ (a : Option (Request K)). is_some a && not (is_ended (own c known.entries))) is

        lost : Ended c (file_under (Some q) c Lost known).entries
        lost = ap is_ended (own_same (filing_of q c (own c known.entries) (agreed_contexts known) Lost known.answers) known.entries)

        go : (b : Bool) → is_ended (own c known.entries) ≡ b → Ended c (if in_flight before known.entries c then file before c Lost known else known).entries
        go true e = subst (λ (b : Bool). Ended c (if b then file before c Lost known else known).entries) (sym (flies ∙ ap not e)) e
        go false e = subst (λ (b : Bool). Ended c (if b then file before c Lost known else known).entries) (sym (flies ∙ ap not e)) (subst (λ (a : Option (Request K)). Ended c (file_under a c Lost known).entries) (sym is) lost)

    abbrev IsAmong : ℕ → List ℕ → Type 0
    IsAmong c [] = ⊥
    IsAmong c (k ∷ list) = (k ≡ c) ⊎ IsAmong c list

    all_lost : (c : ℕ) (q : Request K) (list : List ℕ) (known : Known K) → request before c ≡ Some q → IsAmong c list → Ended c (file_all before Lost list known).entries
    all_lost c q [] known is there = absurd there
    all_lost c q (k ∷ list) known is (inl same) =
        all_keep before (Ended c) (λ item. Unit {0}) (ended_filed c) Lost list (if in_flight before known.entries k then file before k Lost known else known) tt
        (subst (λ (n : ℕ). Ended c (if in_flight before known.entries n then file before n Lost known else known).entries) (sym same) (one_lost c q known is))
    all_lost c q (k ∷ list) known is (inr there) = all_lost c q list (if in_flight before known.entries k then file before k Lost known else known) is there

    among_more : (c : ℕ) (xs : List ℕ) (n : ℕ) → IsAmong c xs → IsAmong c (xs ++ n ∷ [])
    among_more c [] n there = absurd there
    among_more c (x ∷ xs) n (inl same) = inl same
    among_more c (x ∷ xs) n (inr there) = inr (among_more c xs n there)

    among_last : (c : ℕ) (xs : List ℕ) → IsAmong c (xs ++ c ∷ [])
    among_last c [] = inl refl
    among_last c (x ∷ xs) = inr (among_last c xs)

    among : (n c : ℕ) → 1 ≤ c → c ≤ n → IsAmong c (cookies n)
    among zero c low high = absurd (omega (arith, low, high))
    among (suc n) c low high = go (λ l. among n c low l) (cases_eq (suc n) c)
      where
        go : (c ≤ n → IsAmong c (cookies n)) → (suc n ≡ c) ⊎ (suc n ≡ c → ⊥) → IsAmong c (cookies n ++ suc n ∷ [])
        go rest (inl same) = subst (λ (m : ℕ). IsAmong m (cookies n ++ suc n ∷ [])) same (among_last (suc n) (cookies n))
        go rest (inr differ) = among_more c (cookies n) (suc n) (rest (omega (arith, high, differ)))

    -- a command has a cookie of those that were issued
    record IsIssued (c : ℕ) : Type 0 where
      low : 1 ≤ c
      high : c ≤ (asked before).issued

    is_issued : (c : ℕ) (q : Request K) → request before c ≡ Some q → IsIssued c
    is_issued zero q is = absurd (none_some q (sym (request_zero before) ∙ is))
    is_issued (suc n) q is = elim (cases_lt (asked before).issued (suc n)) [
      | inl past ↦ absurd (none_some q (sym (request_past before (suc n) past) ∙ is))
      | inr most ↦ record { low = omega arith; high = most }
    ]

    died : (why : Cause) (known : Known K) → Sound known → Sound (die before why known)
    died why known s =
        let dead : Known K = record known { stage = Dead why } in
        record {
          came = all_keep before AllCame Fits came_filed Lost (cookies (asked before).issued) dead (λ e. refl) s.came;
          over = λ living c q is. (let i = is_issued c q is in all_lost c q (cookies (asked before).issued) dead is (among (asked before).issued c i.low i.high));
        }

    refused : (p : Phase) (known : Known K) → Sound known → Sound (if_refused p before known)
    refused (phase.Refused code) known s = died (cause.Refused 7 code) known s
    refused (phase.Asked option) known s = s
    refused phase.Greeting known s = s
    refused phase.AskedByName known s = s
    refused phase.OptMode known s = s
    refused phase.Ready known s = s

    framed : (frame : Frame) (known : Known K) → Sound known → Sound (file before frame.cookie (Framed frame.content frame.last) known)
    framed frame known s = go (request before frame.cookie) refl
      where
        go : (a : Option (Request K)) → request before frame.cookie ≡ a → Sound (file_under (request before frame.cookie) frame.cookie (Framed frame.content frame.last) known)
        go None is = subst (λ (a : Option (Request K)). Sound (file_under a frame.cookie (Framed frame.content frame.last) known)) (sym is) s
        go (Some q) is = subst (λ (a : Option (Request K)). Sound (file_under a frame.cookie (Framed frame.content frame.last) known)) (sym is) (record {
          came = came_more (filing_of q frame.cookie (own frame.cookie known.entries) (agreed_contexts known) (Framed frame.content frame.last) known.answers) known.entries (λ e. e) s.came;
          over = λ living c asks there. ended_more c (filing_of q frame.cookie (own frame.cookie known.entries) (agreed_contexts known) (Framed frame.content frame.last) known.answers) known.entries (s.over living c asks there);
        })

    lasts : Lasts (rules before) Sound
    lasts known bytes (Hello flags) s e = record { came = s.came; over = s.over }
    lasts known bytes (OptionReply told) s e = refused (phase (Replied told ∷ known.turns)) (turned (Replied told) known) (record { came = s.came; over = s.over })
    lasts known bytes (ExportReply size flags) s e = record { came = s.came; over = s.over }
    lasts known bytes (Reply frame) s e = framed frame known s
    lasts known bytes (Broken breach) s e = died (cause.Broke breach) known s
    lasts known bytes Passed s e = record { came = s.came; over = s.over }
    lasts known bytes Ignored s e = s

    -- With none in flight each has ended.
    landed : (entries : List (Entry K)) (n c : ℕ) (q : Request K) → flying before entries n ≡ 0 → 1 ≤ c → c ≤ n → request before c ≡ Some q → is_ended (own c entries) ≡ true
    landed entries zero c q none low high is = absurd (omega (arith, low, high))
    landed entries (suc n) c q none low high is = go (λ e l. landed entries n c q e low l is) (cases_eq (suc n) c)
      where
        fewer : (a : ℕ) (b : Bool) → a + (if b then 1 else 0) ≡ 0 → (a ≡ 0) × (b ≡ false)
        fewer a true e = absurd (omega (arith, e))
        fewer a false e = (omega (arith, e), refl)

        parts : (flying before entries n ≡ 0) × (in_flight before entries (suc n) ≡ false)
        parts = fewer (flying before entries n) (in_flight before entries (suc n)) none

        has_ended : (b : Bool) → not b ≡ false → b ≡ true
        has_ended true e = refl
        has_ended false e = absurd (false≢true (sym e))

        go : (flying before entries n ≡ 0 → c ≤ n → is_ended (own c entries) ≡ true) → (suc n ≡ c) ⊎ (suc n ≡ c → ⊥) → is_ended (own c entries) ≡ true
        go rest (inl same) =
            has_ended (is_ended (own c entries))
            (sym (ap (λ (a : Option (Request K)). is_some a && not (is_ended (own c entries))) is) ∙ subst (λ (m : ℕ). in_flight before entries m ≡ false) same parts.1)
        go rest (inr differ) = rest parts.0 (omega (arith, high, differ))

    closing : (n : ℕ) (known : Known K) → flying before known.entries (asked before).issued ≡ n → Sound known → Sound (ended_closing n before known)
    closing zero known none s = record { came = s.came; over = λ living c q is. (let i = is_issued c q is in landed known.entries (asked before).issued c q none i.low i.high is) }
    closing (suc n) known some s = died cause.Ended known s

    ended : (stage : Stage) (held : Held (Known K)) → Sound held.known → Sound (ended_at stage before held).known
    ended Open held s = died cause.Ended held.known s
    ended Disconnecting held s = closing (flying before held.known.entries (asked before).issued) held.known refl s
    ended Aborting held s = closing (flying before held.known.entries (asked before).issued) held.known refl s
    ended Created held s = s
    ended Closed held s = s
    ended (Dead why) held s = s

    failed : (stage : Stage) (held : Held (Known K)) → Sound held.known → Sound (failed_at stage before held).known
    failed Open held s = died cause.LinkFailed held.known s
    failed Disconnecting held s = died cause.LinkFailed held.known s
    failed Aborting held s = died cause.LinkFailed held.known s
    failed Created held s = s
    failed Closed held s = s
    failed (Dead why) held s = s

    arrived : (bytes : List ℕ) (answers : List Answer) → Sound (reading before).known → Sound (reading (Arrived bytes answers ∷ before)).known
    arrived bytes answers s = feed_lasts (rules before) Sound lasts (change (with_answers answers) (reading before)) bytes (record { came = s.came; over = s.over })

  -- the same by what is asked after an event that isn't
  same_asked : (before : History K) (event : Event K) → ((c : ℕ) → request (event ∷ before) c ≡ request before c) → (known : Known K) → Sound before known → Sound (event ∷ before) known
  same_asked before event same known s = record { came = s.came; over = λ living c q is. s.over living c q (sym (same c) ∙ is) }

  one_more : (limit : ℕ) (before : History K) (event : Event K) → Lawful limit (event ∷ before) → is_closed (event ∷ before) ≡ false → Sound before (reading before).known → Sound (event ∷ before) (reading (event ∷ before)).known
  one_more limit before (Set setting) lawful open_ s = record { came = s.came; over = s.over }
  one_more limit before (StrictMode bits) lawful open_ s = record { came = s.came; over = s.over }
  one_more limit before Start lawful open_ s = record { came = s.came; over = λ living. absurd (false≢true (sym living)) }
  one_more limit before (Opt option) lawful open_ s = record { came = s.came; over = s.over }
  one_more limit before Abort lawful open_ s = record { came = s.came; over = λ living. absurd (false≢true (sym living)) }
  one_more limit before (Issue command) lawful open_ s = record {
    came = s.came;
    over = λ living. absurd (false≢true (sym living ∙ ready_lives (reading before).known.stage (phase (reading before).known.turns) (unrefused (state_after before) _ lawful.2.0)));
  }
  one_more limit before (Refuse command why) lawful open_ s = record { came = s.came; over = s.over }
  one_more limit before Disconnect lawful open_ s = record { came = s.came; over = λ living. absurd (false≢true (sym living)) }
  one_more limit before (Wrote n) lawful open_ s = record { came = s.came; over = s.over }
  one_more limit before (Arrived bytes answers) lawful open_ s = same_asked before (Arrived bytes answers) (λ c. refl) (reading (Arrived bytes answers ∷ before)).known (arrived before bytes answers s)
  one_more limit before (End answers) lawful open_ s = same_asked before (End answers) (λ c. refl) (reading (End answers ∷ before)).known
      (ended before (reading before).known.stage (change (with_answers answers) (reading before)) (record { came = s.came; over = s.over }))
  one_more limit before (LinkFailed answers) lawful open_ s = same_asked before (LinkFailed answers) (λ c. refl) (reading (LinkFailed answers ∷ before)).known
      (failed before (reading before).known.stage (change (with_answers answers) (reading before)) (record { came = s.came; over = s.over }))
  one_more limit before (Retire cookie) lawful open_ s = record { came = s.came; over = s.over }
  one_more limit before ClearLog lawful open_ s = record { came = s.came; over = s.over }
  one_more limit before Close lawful open_ s = absurd (false≢true (sym open_))

  all_sound : (limit : ℕ) (history : History K) → Lawful limit history → is_closed history ≡ false → Sound history (reading history).known
  all_sound limit [] lawful open_ = record { came = λ c e. absurd (false≢true e); over = λ living c q is. absurd (none_some q is) }
  all_sound limit (event ∷ before) lawful open_ = one_more limit before event lawful open_ (all_sound limit before lawful.0 lawful.1)

  finished : (q : Request K) (filings : List (Filing K)) → is_completed (silent_pieces filings) ≡ true → outcome_of (Some q) filings ≡ Unfinished → ⊥
  finished q filings done unfinished =
      go (failure (query_of q) (silent_pieces filings))
      (sym (ap (λ (b : Bool). if b then verdict (failure (query_of q) (silent_pieces filings)) (bytes (query_of q) (silent_pieces filings)) else Unfinished) done) ∙ unfinished)
    where
      go : (o : Option Failure) → verdict o (bytes (query_of q) (silent_pieces filings)) ≡ Unfinished → ⊥
      go None e = cc
      go (Some why) e = cc

  -- A command waits only while its handle lives.
  pub waiting_lives : WaitingLives K
  waiting_lives limit history c q lawful open_ is waits = go (is_living (reading history).known.stage) refl
    where
      s : Sound history (reading history).known
      s = all_sound limit history lawful open_

      go : (b : Bool) → is_living (reading history).known.stage ≡ b → is_living (reading history).known.stage ≡ true
      go true e = e
      go false e = absurd (finished q (own c (reading history).known.entries) (s.came c (s.over e c q is)) (sym (ap (λ (a : Option (Request K)). outcome_of a (own c (reading history).known.entries)) is) ∙ waits))

pub over_came : OverCame
over_came limit history c q lawful open_ is over waits =
    finished q (own c (reading history).known.entries) ((all_sound limit history lawful open_).came c over) (sym (ap (λ (a : Option (Request Ticket)). outcome_of a (own c (reading history).known.entries)) is) ∙ waits)
