-- What a history files is filed under the request of its cookie, while that is in flight.
use Rattle.std.proofs.Common.{◌≡◌, ℕ, zero, suc, ◌+◌, ◌≤◌, Bool, true, false, not, ◌&&◌, List, [], ◌∷◌, Option, Some, None, is_some, refl, ap, sym, subst, ◌∙◌, arith, ◌==◌, if◌then◌else◌, nat_le}
use Rattle.std.proofs.lemmas.Bool.{ne_eqb, false≢true}
use Rattle.lnbd_model.specs.declared.state.Cause.{Cause}
use Rattle.lnbd_model.specs.declared.state.Cause.TheVariants as cause
use Rattle.lnbd_stream.specs.Stream.{Held}
use Rattle.lnbd_stream.specs.Laws.{Lasts}
use Rattle.lnbd_stream.proofs.Stream.{feed_lasts}
use Rattle.lnbd_outcome.specs.Outcome as outcome
use Rattle.lnbd_history.specs.declared.kinds.Completed.{Completed}
use Rattle.lnbd_history.specs.declared.kinds.Completed.TheVariants as completed
use Rattle.lnbd_history.specs.declared.kinds.Phase.{Phase}
use Rattle.lnbd_history.specs.declared.kinds.Phase.TheVariants as phase
use Rattle.lnbd_history.specs.declared.kinds.Stage.{Stage}
use Rattle.lnbd_history.specs.declared.kinds.Stage.TheVariants.{Created, Open, Disconnecting, Aborting, Closed, Dead}
use Rattle.lnbd_history.specs.Agreement.{Replied, phase}
use Rattle.lnbd_history.specs.Answers.{completed_as, completed_of, outcome_after, outcome_of}
use Rattle.lnbd_history.specs.Arrivals.{Frame, Shown, Hello, OptionReply, ExportReply, Reply, Broken, Passed, Ignored}
use Rattle.lnbd_history.specs.Commands.{Command, Request, request_of}
use Rattle.lnbd_history.specs.Entries.{Item, Framed, Lost, Dropped, Entry, Filed, Freed, Cleared, completes, hearing_in, hears, is_ended, kept_in, own}
use Rattle.lnbd_history.specs.Events.{Answer, History, Set, StrictMode, Start, Opt, Abort, Issue, Refuse, Disconnect, Wrote, Arrived, End, LinkFailed, Retire, ClearLog, Close}
use Rattle.lnbd_history.specs.History.{Known, asked, request, cookies, left, agreed_contexts, file, file_under, file_all, in_flight, die, if_refused, turned, entered, sight, waited, rules, change, with_answers, ended_closing, ended_at, failed_at, flying, closed, reading, is_gone, next_verdict}
use Rattle.lnbd_history.specs.Outgoing.{whole}
use Rattle.lnbd_history.proofs.Cookies.{request_within}
use Rattle.lnbd_history.proofs.Flies.{frame_flies, waiting_flies}
use Rattle.lnbd_kept.specs.Kept.{AreFiled, DoneIsOutcome, EntriesAreFiled}
use Rattle.lnbd_kept.proofs.KeptLemmas.{all_kept_are_outcomes}

no_verdict : (b : Bool) (answers : List Answer) → b ≡ false → next_verdict b answers ≡ None
no_verdict false answers e = refl
no_verdict true answers e = absurd (false≢true (sym e))

none_done : (buf : List ℕ) → completed.NoSuchCookie ≡ completed.Done buf → ⊥
none_done buf e = false≢true (ap is_done e)
  where
    is_done : Completed → Bool
    is_done (completed.Done b) = true
    is_done (completed.Failed error b) = false
    is_done completed.NotYet = false
    is_done completed.NoSuchCookie = false

module _ {K : Type 0} where
  -- what was asked stays so
  more_asked : (asks asks' : ℕ → Option (Request K)) (entries : List (Entry K)) → ((c : ℕ) (q : Request K) → asks c ≡ Some q → asks' c ≡ Some q) → AreFiled asks entries → AreFiled asks' entries
  more_asked asks asks' [] more filed = tt
  more_asked asks asks' (Filed f ∷ earlier) more filed = (more f.cookie f.request filed.0, filed.1, filed.2, more_asked asks asks' earlier more filed.3)
  more_asked asks asks' (Freed flight ∷ earlier) more filed = more_asked asks asks' earlier more filed
  more_asked asks asks' (Cleared ∷ earlier) more filed = more_asked asks asks' earlier more filed

  issued_filed : (issued admitted : ℕ) (asks : ℕ → Option (Request K)) (within : (c : ℕ) (q : Request K) → asks c ≡ Some q → (1 ≤ c) × (c ≤ issued)) (entries : List (Entry K)) (command : Command K)
      → AreFiled asks entries → AreFiled (λ c. if issued + 1 == c then Some (request_of admitted command) else asks c) entries
  issued_filed issued admitted asks within entries command filed = more_asked asks (λ c. if issued + 1 == c then Some (request_of admitted command) else asks c) entries
      (λ c q is. ap (λ (b : Bool). if b then Some (request_of admitted command) else asks c) (ne_eqb (issued + 1) c (λ e. let bound = within c q is in absurd (omega (arith, e, bound.1)))) ∙ is) filed

  IsFiled : History K → Known K → Type 0
  IsFiled before known = AreFiled (request before) known.entries

  module _ (before : History K) where
    file_filed : (c : ℕ) (item : Item) (known : Known K) → in_flight before known.entries c ≡ true → IsFiled before known → IsFiled before (file before c item known)
    unfolding IsFiled
    file_filed c item known e filed = go (request before c) refl (is_ended (own c known.entries)) refl e
      where
        go : (a : Option (Request K)) → request before c ≡ a → (b : Bool) → is_ended (own c known.entries) ≡ b → (is_some a && not b) ≡ true → AreFiled (request before) (file_under (request before c) c item known).entries
        go None w b v e = absurd (false≢true e)
        go (Some q) w true v e = absurd (false≢true e)
        go (Some q) w false v e = subst (λ a. AreFiled (request before) (file_under a c item known).entries) (sym w)
            (w, v, no_verdict (completes item) (left (hears q.flight (hearing_in q (own c known.entries) (agreed_contexts known) item)) known.answers), filed)

    one_filed : (c : ℕ) (item : Item) (known : Known K) → IsFiled before known → IsFiled before (if in_flight before known.entries c then file before c item known else known)
    one_filed c item known filed = go (in_flight before known.entries c) refl
      where
        go : (b : Bool) → in_flight before known.entries c ≡ b → IsFiled before (if b then file before c item known else known)
        go true e = file_filed c item known e filed
        go false e = filed

    all_filed : (item : Item) (list : List ℕ) (known : Known K) → IsFiled before known → IsFiled before (file_all before item list known)
    all_filed item [] known filed = filed
    all_filed item (c ∷ list) known filed = all_filed item list (if in_flight before known.entries c then file before c item known else known) (one_filed c item known filed)

    die_filed : (reason : Cause) (known : Known K) → IsFiled before known → IsFiled before (die before reason known)
    unfolding IsFiled
    die_filed reason known filed = all_filed Lost (cookies (asked before).issued) (record known { stage = Dead reason }) filed

    refused_filed : (p : Phase) (known : Known K) → IsFiled before known → IsFiled before (if_refused p before known)
    refused_filed (phase.Refused code) known filed = die_filed (cause.Refused 7 code) known filed
    refused_filed (phase.Asked option) known filed = filed
    refused_filed phase.Greeting known filed = filed
    refused_filed phase.AskedByName known filed = filed
    refused_filed phase.OptMode known filed = filed
    refused_filed phase.Ready known filed = filed

    entered_filed : (known : Known K) (shown : Shown) → ((frame : Frame) → shown ≡ Reply frame → in_flight before known.entries frame.cookie ≡ true) → IsFiled before known → IsFiled before (entered before shown known)
    unfolding IsFiled
    entered_filed known (Hello flags) flying filed = filed
    entered_filed known (OptionReply told) flying filed = refused_filed (phase (Replied told ∷ known.turns)) (turned (Replied told) known) filed
    entered_filed known (ExportReply size flags) flying filed = filed
    entered_filed known (Reply frame) flying filed = file_filed frame.cookie (Framed frame.content frame.last) known (flying frame refl) filed
    entered_filed known (Broken breach) flying filed = die_filed (cause.Broke breach) known filed
    entered_filed known Passed flying filed = filed
    entered_filed known Ignored flying filed = filed

    filed_lasts : Lasts (rules before) (IsFiled before)
    filed_lasts known bytes shown filed e = entered_filed known shown
        (λ frame is. frame_flies (in_flight before known.entries) (waited before known)
        (λ c command w. waiting_flies (nat_le c (whole known.parts (asked before).wrote)) (is_ended (own c known.entries)) (own c known.entries) (request before c) command w)
        known.stage (sight known) bytes frame (e ∙ ap (λ x. Some x) is)) filed

    closing_filed : (n : ℕ) (known : Known K) → IsFiled before known → IsFiled before (ended_closing n before known)
    unfolding IsFiled
    closing_filed zero known filed = filed
    closing_filed (suc n) known filed = die_filed cause.Ended known filed

    end_filed : (s : Stage) (held : Held (Known K)) → IsFiled before held.known → IsFiled before (ended_at s before held).known
    end_filed Open held filed = die_filed cause.Ended held.known filed
    end_filed Disconnecting held filed = closing_filed (flying before held.known.entries (asked before).issued) held.known filed
    end_filed Aborting held filed = closing_filed (flying before held.known.entries (asked before).issued) held.known filed
    end_filed Created held filed = filed
    end_filed Closed held filed = filed
    end_filed (Dead reason) held filed = filed

    fail_filed : (s : Stage) (held : Held (Known K)) → IsFiled before held.known → IsFiled before (failed_at s before held).known
    fail_filed Open held filed = die_filed cause.LinkFailed held.known filed
    fail_filed Disconnecting held filed = die_filed cause.LinkFailed held.known filed
    fail_filed Aborting held filed = die_filed cause.LinkFailed held.known filed
    fail_filed Created held filed = filed
    fail_filed Closed held filed = filed
    fail_filed (Dead reason) held filed = filed

    closed_filed : (known : Known K) → IsFiled before known → IsFiled before (closed before known)
    unfolding IsFiled
    closed_filed known filed = all_filed Dropped (cookies (asked before).issued) (record known { stage = Closed }) filed

    given_filed : (answers : List Answer) (held : Held (Known K)) → IsFiled before held.known → IsFiled before (change (with_answers answers) held).known
    unfolding IsFiled
    given_filed answers held filed = filed

    arrived_filed : (bytes : List ℕ) (answers : List Answer) → IsFiled before (reading before).known → IsFiled before (reading (Arrived bytes answers ∷ before)).known
    arrived_filed bytes answers filed = feed_lasts (rules before) (IsFiled before) filed_lasts (change (with_answers answers) (reading before)) bytes (given_filed answers (reading before) filed)

  entries_are : (history : History K) → IsFiled history (reading history).known
  unfolding IsFiled
  entries_are [] = tt
  entries_are (Set setting ∷ before) = entries_are before
  entries_are (StrictMode bits ∷ before) = entries_are before
  entries_are (Start ∷ before) = entries_are before
  entries_are (Opt option ∷ before) = entries_are before
  entries_are (Abort ∷ before) = entries_are before
  entries_are (Issue command ∷ before) = issued_filed (asked before).issued (asked before).admitted (request before) (request_within before) (reading before).known.entries command (entries_are before)
  entries_are (Refuse command why ∷ before) = entries_are before
  entries_are (Disconnect ∷ before) = entries_are before
  entries_are (Wrote n ∷ before) = entries_are before
  entries_are (Arrived bytes answers ∷ before) = arrived_filed before bytes answers (entries_are before)
  entries_are (End answers ∷ before) = end_filed before (reading before).known.stage (change (with_answers answers) (reading before)) (entries_are before)
  entries_are (LinkFailed answers ∷ before) = fail_filed before (reading before).known.stage (change (with_answers answers) (reading before)) (entries_are before)
  entries_are (Retire cookie ∷ before) = entries_are before
  entries_are (ClearLog ∷ before) = entries_are before
  entries_are (Close ∷ before) = closed_filed before (with_answers [] (reading before).known) (entries_are before)

  pub entries_are_filed : EntriesAreFiled K
  unfolding IsFiled
  entries_are_filed history = entries_are history

  pub done_is_outcome : DoneIsOutcome K
  done_is_outcome history cookie buf keep e = go (request history cookie) refl (not (is_gone history (reading history).known.entries cookie)) refl
    where
      go : (a : Option (Request K)) → request history cookie ≡ a → (b : Bool) → not (is_gone history (reading history).known.entries cookie) ≡ b → outcome_after history cookie ≡ outcome.Done buf
      go None w b v = absurd (none_done buf (sym (ap (λ a. completed_as (is_some a && not (is_gone history (reading history).known.entries cookie)) (outcome_after history cookie) (kept_in (own cookie (reading history).known.entries))) w) ∙ e))
      go (Some q) w false v = absurd (none_done buf (sym (ap (λ a. completed_as (is_some a && not (is_gone history (reading history).known.entries cookie)) (outcome_after history cookie) (kept_in (own cookie (reading history).known.entries))) w ∙ ap (λ (b : Bool). completed_as b (outcome_after history cookie) (kept_in (own cookie (reading history).known.entries))) v) ∙ e))
      go (Some q) w true v =
          let own_now = own cookie (reading history).known.entries in
          let came : completed_of (outcome_after history cookie) (kept_in own_now) ≡ completed.Done buf =
          sym (ap (λ a. completed_as (is_some a && not (is_gone history (reading history).known.entries cookie)) (outcome_after history cookie) (kept_in own_now)) w ∙ ap (λ (b : Bool). completed_as b (outcome_after history cookie) (kept_in own_now)) v) ∙ e in
          ap (λ a. outcome_of a own_now) w
          ∙ all_kept_are_outcomes (request history) (reading history).known.entries cookie buf q (entries_are_filed history) keep w
          (subst (λ a. completed_of (outcome_of a own_now) (kept_in own_now) ≡ completed.Done buf) w came)
