-- What happens on a handle, by the requests of its link.
use Rattle.std.proofs.Common.{◌≡◌, ◌≢◌, ℕ, ◌+◌, Bool, false, List, [], ◌∷◌, Option, Some, None, refl, ap, sym, subst, ◌∙◌, arith, ◌⊎◌, inl, inr, if◌then◌else◌}
use Rattle.std.proofs.lemmas.Bool.{cases_eq, eq-eqb, ne_eqb}
use Rattle.std.proofs.lemmas.List.{append_cancel_left}
use Rattle.lnbd_callbacks.specs.Calls.{Call}
use Rattle.lnbd_history.specs.Commands.{Command}
use Rattle.lnbd_history.specs.Commands as commands
use Rattle.lnbd_history.specs.Entries.{Dropped, Entry, own, calls}
use Rattle.lnbd_history.specs.Events.{Event, History, Set, StrictMode, Start, Opt, Abort, Issue, Refuse, Disconnect, Wrote, Arrived, End, LinkFailed, Retire, ClearLog, Close}
use Rattle.lnbd_history.specs.History.{asked, reading, with_answers}
use Rattle.lnbd_history.specs.History as history_of
use Rattle.lnbd_history.proofs.Cookies.{request_past}
use Rattle.lnbd_asked.specs.Transcript.{bare, outcome_of}
use Rattle.lnbd_board.specs.declared.ticket.Ticket.{Ticket}
use Rattle.lnbd_board.specs.Requests.{Request, Each, request, waiting, asking}
use Rattle.lnbd_tracks.specs.Tracks.{under, request_of, told_by, NoneFails, OnlyWritesHaveBytes, Tracks, is_issue, Adds}
use Rattle.lnbd_tracks.specs.Laws.{asked_by, is_coming}
use Rattle.lnbd_tracks.proofs.Calling.{TellsAll, IsWell}
use Rattle.lnbd_tracks.proofs.Coming.{event_keeps, closed_keeps}
use Rattle.lnbd_tracks.proofs.Steps.{Follows, Goes, Grown, grown_none, grown_filed, grown_freed, grown_cleared, dropped}
use Rattle.lnbd_tracks.proofs.Under.{asked_here, asked_beside}
use Rattle.lnbd_tracks.proofs.Unfiled.{request_stays, unfiled}

-- The calls of an event lead from one list to another, which then tracks the handle. What was asked on other links is as it was.
pub record Leads (link : ℕ) (history : History Ticket) (told : List (Call Ticket)) (old : List Request) : Type 0 where
  pub new : List Request
  pub tells : TellsAll told old new
  pub tracks : Tracks link history new
  pub beside : (other c : ℕ) → other ≢ link → under other c new ≡ under other c old

module _ (link : ℕ) (before : History Ticket) (event : Event Ticket) (old : List Request) (tracks : Tracks link before old) where
  grown : Grown link (history_of.request before) tracks.bytes (calls (reading before).known.entries) old (reading (event ∷ before)).known.entries
  grown =
      let start : List (Call Ticket) = calls (reading before).known.entries in
      event_keeps before (Grown link (history_of.request before) tracks.bytes start old) (λ item. Unit {0})
      (grown_filed link (history_of.request before) tracks.bytes start old) (λ item. tt) (grown_freed link (history_of.request before) tracks.bytes start old) (grown_cleared link (history_of.request before) tracks.bytes start old)
      event (grown_none link (history_of.request before) tracks.bytes start old (reading before).known.entries refl (record { each = tracks.each; well = tracks.well }))

  module _ (other : is_issue event ≡ false) where
    -- the same is asked after the event
    bytes_after : (c : ℕ) (q : commands.Request Ticket) → history_of.request (event ∷ before) c ≡ Some q → OnlyWritesHaveBytes (bare q)
    bytes_after c q e = tracks.bytes c q (sym (request_stays before event c other) ∙ e)

    tracks_after : (told : List (Call Ticket)) → Goes link (history_of.request before) tracks.bytes told old (reading (event ∷ before)).known.entries → Leads link (event ∷ before) told old
    tracks_after told g = record {
      new = g.new;
      tells = g.tells;
      tracks = record {
        each = λ c. g.follows.each c ∙ sym (ap (λ (a : Option (commands.Request Ticket)). request_of link c a (outcome_of a (own c (reading (event ∷ before)).known.entries))) (request_stays before event c other));
        bytes = bytes_after;
        well = g.follows.well;
      };
      beside = g.beside;
    }

    pub event_tracks : (added : List (Call Ticket)) → Adds event before added → Each IsWell added → Leads link (event ∷ before) added old
    event_tracks added adds w =
        let same : grown.added ≡ added = append_cancel_left (calls (reading before).known.entries) grown.added added (sym grown.is ∙ adds) in
        tracks_after added (subst (λ l. Goes link (history_of.request before) tracks.bytes l old (reading (event ∷ before)).known.entries) same (grown.goes (subst (λ l. Each IsWell l) (sym same) w)))

-- What else happens changes nothing.

module _ (link : ℕ) (before : History Ticket) (old : List Request) (tracks : Tracks link before old) where
  -- with the entries that the list follows after the event
  after : (event : Event Ticket) → is_issue event ≡ false → Follows link (history_of.request before) tracks.bytes (reading (event ∷ before)).known.entries old → Tracks link (event ∷ before) old
  after event other follows = record {
    each = λ c. follows.each c ∙ sym (ap (λ (a : Option (commands.Request Ticket)). request_of link c a (outcome_of a (own c (reading (event ∷ before)).known.entries))) (request_stays before event c other));
    bytes = λ c q e. tracks.bytes c q (sym (request_stays before event c other) ∙ e);
    well = follows.well;
  }

  now : Follows link (history_of.request before) tracks.bytes (reading before).known.entries old
  now = record { each = tracks.each; well = tracks.well }

  -- the same in a list of entries that says no more
  same : (entries : List (Entry Ticket)) → ((c : ℕ) → own c entries ≡ own c (reading before).known.entries) → NoneFails entries → Follows link (history_of.request before) tracks.bytes entries old
  same entries e w = record {
    each = λ c. tracks.each c ∙ ap (λ l. request_of link c (history_of.request before c) (outcome_of (history_of.request before c) l)) (sym (e c));
    well = w;
  }

  pub other_tracks : (event : Event Ticket) → is_issue event ≡ false → is_coming event ≡ false → Tracks link (event ∷ before) old
  other_tracks (Set setting) other none = after (Set setting) other now
  other_tracks (StrictMode bits) other none = after (StrictMode bits) other now
  other_tracks Start other none = after Start other now
  other_tracks (Opt option) other none = after (Opt option) other now
  other_tracks Abort other none = after Abort other now
  other_tracks (Issue command) other none = absurd (cc)
  other_tracks (Refuse command why) other none = after (Refuse command why) other (same (reading (Refuse command why ∷ before)).known.entries (λ c. refl) tracks.well)
  other_tracks Disconnect other none = after Disconnect other now
  other_tracks (Wrote n) other none = after (Wrote n) other now
  other_tracks (Arrived bytes answers) other none = absurd (cc)
  other_tracks (End answers) other none = absurd (cc)
  other_tracks (LinkFailed answers) other none = absurd (cc)
  other_tracks (Retire cookie) other none = after (Retire cookie) other now
  other_tracks ClearLog other none = after ClearLog other (same (reading (ClearLog ∷ before)).known.entries (λ c. refl) tracks.well)
  other_tracks Close other none = after Close other
      (closed_keeps before (λ entries. Follows link (history_of.request before) tracks.bytes entries old) (λ item. item ≡ Dropped)
      (dropped link (history_of.request before) tracks.bytes old) (with_answers [] (reading before).known) refl now)

-- A command that is asked.

module _ (link : ℕ) (before : History Ticket) (command : Command Ticket) (old : List Request) (tracks : Tracks link before old) (plain : OnlyWritesHaveBytes command) where
  abbrev next : ℕ
  next = (asked before).issued + 1

  abbrev new : List Request
  new = asking link next command.done (asked_by command) old

  none_yet : history_of.request before next ≡ None
  none_yet = request_past before next (omega arith)

  unasked : under link next old ≡ []
  unasked = tracks.each next ∙ ap (λ (a : Option (commands.Request Ticket)). request_of link next a (outcome_of a (own next (reading before).known.entries))) none_yet

  abbrev asks : commands.Request Ticket
  asks = commands.request_of (asked before).admitted command

  done_is : (first : Option Ticket) → (commands.flight_of (asked before).admitted first command.done).done.callback ≡ command.done
  done_is None = refl
  done_is (Some k) = refl

  -- the new request, and the others
  request_here : (c : ℕ) → next ≡ c → history_of.request (Issue command ∷ before) c ≡ Some asks
  request_here c e = ap (λ (b : Bool). if b then Some asks else history_of.request before c) (eq-eqb next c e)

  request_beside : (c : ℕ) → next ≢ c → history_of.request (Issue command ∷ before) c ≡ history_of.request before c
  request_beside c d = ap (λ (b : Bool). if b then Some asks else history_of.request before c) (ne_eqb next c d)

  waits_here : told_by link next (Issue command ∷ before) ≡ request link next command.done (waiting (asked_by command)) ∷ []
  waits_here =
      ap (λ (a : Option (commands.Request Ticket)). request_of link next a (outcome_of a (own next (reading before).known.entries))) (request_here next refl)
      ∙ ap (λ l. request_of link next (Some asks) (outcome_of (Some asks) l)) (unfiled before next none_yet)
      ∙ ap (λ (t : Ticket). request link next t (waiting (asked_by command)) ∷ []) (done_is command.first)

  each_after : (c : ℕ) → (next ≡ c) ⊎ (next ≡ c → ⊥) → under link c new ≡ told_by link c (Issue command ∷ before)
  each_after c (inl e) = subst (λ (x : ℕ). under link x new ≡ told_by link x (Issue command ∷ before)) e (asked_here link next command.done (asked_by command) old unasked ∙ sym waits_here)
  each_after c (inr d) =
      asked_beside link next link c command.done (asked_by command) old (inr d) ∙ tracks.each c
      ∙ sym (ap (λ (a : Option (commands.Request Ticket)). request_of link c a (outcome_of a (own c (reading before).known.entries))) (request_beside c d))

  bytes_so : (c : ℕ) (q : commands.Request Ticket) → history_of.request (Issue command ∷ before) c ≡ Some q → (next ≡ c) ⊎ (next ≡ c → ⊥) → OnlyWritesHaveBytes (bare q)
  bytes_so c q e (inl same) = let is : asks ≡ q = some_is (sym (request_here c same) ∙ e) in subst (λ (r : commands.Request Ticket). OnlyWritesHaveBytes (bare r)) is plain
    where
      some_is : Some asks ≡ Some q → asks ≡ q
      some_is h = cc
  bytes_so c q e (inr d) = tracks.bytes c q (sym (request_beside c d) ∙ e)

  pub issue_tracks : Tracks link (Issue command ∷ before) new
  issue_tracks = record { each = λ c. each_after c (cases_eq next c); bytes = λ c q e. bytes_so c q e (cases_eq next c); well = tracks.well }

  pub issue_beside : (other c : ℕ) → other ≢ link → under other c new ≡ under other c old
  issue_beside other c n = asked_beside link next other c command.done (asked_by command) old (inl (λ e. n (sym e)))
