-- What a board knows of extents is kept.
use Rattle.std.proofs.Common.{◌≡◌, ◌≢◌, ℕ, ◌+◌, Bool, true, false, ◌||◌, List, [], ◌∷◌, map, Option, Some, None, refl, ap, sym, subst, ◌∙◌, ◌⊎◌, inl, inr}
use Rattle.std.proofs.lemmas.Bool.{cases_eq, false≢true}
use Rattle.lnbd_model.specs.declared.export.Context.{Context as MetaContext}
use Rattle.lnbd_model.specs.declared.export.Extent.{Extent}
use Rattle.lnbd_callbacks.specs.Calls.{Call}
use Rattle.lnbd_callbacks.specs.Steps.{OneByOne}
use Rattle.lnbd_extents.specs.Positions.{within}
use Rattle.lnbd_outcome.specs.Outcome.{Unfinished, Done}
use Rattle.lnbd_outcome.specs.Pieces.{content_of}
use Rattle.lnbd_history.specs.Commands.{Command, Flight, Request, query_of}
use Rattle.lnbd_history.specs.Commands as commands
use Rattle.lnbd_history.specs.Entries.{Item, Filing, Entry, Filed, Freed, Cleared, completes, hears, own, is_ended, pieces, error_in, bytes_in, hearing_in, call_of, acts_of, free_acts}
use Rattle.lnbd_history.specs.Events.{Answer, Event, History, Set, StrictMode, Start, Opt, Abort, Issue, Refuse, Disconnect, Wrote, Arrived, End, LinkFailed, Retire, ClearLog, Close}
use Rattle.lnbd_history.specs.History.{asked, request, left, filing_of, reading}
use Rattle.lnbd_asked.specs.Driven.{outcome_after, zero_after}
use Rattle.lnbd_asked.specs.Transcript.{outcome_of, extents_in, is_zero}
use Rattle.lnbd_board.specs.declared.ticket.Ticket.{Ticket}
use Rattle.lnbd_board.specs.Files.{Seen, Files}
use Rattle.lnbd_tracks.specs.Laws.{IsDone}
use Rattle.lnbd_tracks.specs.Mapping.{is_extents, tells_extents, is_extents_if, asks_extents, NoneAsked, IsWanted, IsToldZero, HoldsZero, AsksRange, NothingMaps, ComingMaps, OthersMap, AskingMaps, HearingMaps, ZeroesStay}
use Rattle.lnbd_tracks.specs.Saying.{said_after, said_by, said_in, said_of}
use Rattle.lnbd_tracks.specs.Tracks.{NoneFails, Histories, Happens, Adds, is_issue}
use Rattle.lnbd_tracks.proofs.Along.{along}
use Rattle.lnbd_tracks.proofs.Calling.{files_well, heard_well}
use Rattle.lnbd_tracks.proofs.Heard.{none_said, map_context, Knows, all_known, frees_suit, FirstSuits, filing_suits, deaf_suits, knows_more, item_told}
use Rattle.lnbd_tracks.proofs.Outcomes.{own_well, waits, comes_done}
use Rattle.lnbd_tracks.proofs.Staying.{or_right, or_left, issue_is, next_here, next_beside, asked_stays, ended_more, said_stays, zero_is, zero_stays, done_stays, done_over}
use Rattle.lnbd_tracks.proofs.Unfiled.{own_same, own_other, request_stays}

-- On the link of the block status.

module _ (history : History Ticket) (k start : ℕ) (starts : (q : Request Ticket) → request history k ≡ Some q → start ≡ q.offset) where
  abbrev Said : List (Entry Ticket) → (test : Option ℕ → Bool) → ℕ → Type 0
  Said entries test p = said_of test (request history k) (own k entries) p ≡ true

  abbrev Answered : List (Entry Ticket) → Type 0
  Answered entries = IsDone (outcome_of (request history k) (own k entries))

  record Heard (entries : List (Entry Ticket)) (now : Seen) : Type 0 where
    others : (c : ℕ) (q : Request Ticket) → request history c ≡ Some q → tells_extents q.flight ≡ true → (c ≡ k) ⊎ (is_ended (own c entries) ≡ true)
    well : NoneFails entries
    knows : Knows start (Said entries) (Answered entries) now

  -- one thing more
  module _ (q : Request Ticket) (c : ℕ) (item : Item) (contexts : List MetaContext) (answers : List Answer) (entries : List (Entry Ticket)) (before after : Seen) (is : request history c ≡ Some q) (going : is_ended (own c entries) ≡ false) (r : Heard entries before) where
    abbrev f : Filing Ticket
    f = filing_of q c (own c entries) contexts item answers

    abbrev told : List (Call Ticket)
    told = map call_of (acts_of f (own c entries))

    abbrev rest : List Answer
    rest = left (hears q.flight (hearing_in q (own c entries) contexts item)) answers

    others_now : (d : ℕ) (other : Request Ticket) → request history d ≡ Some other → tells_extents other.flight ≡ true → (d ≡ k) ⊎ (is_ended (own d (Filed f ∷ entries)) ≡ true)
    others_now d other there tells = go (r.others d other there tells)
      where
        go : (d ≡ k) ⊎ (is_ended (own d entries) ≡ true) → (d ≡ k) ⊎ (is_ended (own d (Filed f ∷ entries)) ≡ true)
        go (inl e) = inl e
        go (inr e) = inr (ended_more d f entries e)

    module _ (files : OneByOne Files before told after) where
      well_now : NoneFails (Filed f ∷ entries)
      well_now = (heard_well q.flight (hearing_in q (own c entries) contexts item) item answers f.verdict (error_in q (f ∷ own c entries)) (bytes_in q (f ∷ own c entries)) (files_well told before after files), r.well)

      -- under the cookie of the block status
      module _ (same : c ≡ k) where
        is_k : request history k ≡ Some q
        is_k = ap (request history) (sym same) ∙ is

        own_k : own k (Filed f ∷ entries) ≡ f ∷ own k entries
        own_k = subst (λ (x : ℕ). own x (Filed f ∷ entries) ≡ f ∷ own x entries) same (own_same f entries)

        said_now : (test : Option ℕ → Bool) (p : ℕ) → said_of test (request history k) (own k (Filed f ∷ entries)) p ≡ (said_in test q.offset (extents_in contexts (content_of item)) p || said_by test q.offset (pieces (own k entries)) p)
        said_now test p = ap (λ a. said_of test a (own k (Filed f ∷ entries)) p) is_k ∙ ap (λ l. said_of test (Some q) l p) own_k

        said_more : (test : Option ℕ → Bool) (p : ℕ) → Said entries test p → Said (Filed f ∷ entries) test p
        said_more test p z = said_now test p ∙ or_right (said_in test q.offset (extents_in contexts (content_of item)) p) (said_by test q.offset (pieces (own k entries)) p) (sym (ap (λ a. said_of test a (own k entries) p) is_k) ∙ z)

        unfinished : Answered entries → ⊥
        unfinished d = differ (sym (waits q (own k entries) (ap (λ x. is_ended (own x entries)) (sym same) ∙ going)) ∙ sym (ap (λ a. outcome_of a (own k entries)) is_k) ∙ d.is)
          where
            differ : Unfinished ≡ Done d.bytes → ⊥
            differ e = cc

        first_is : FirstSuits start (Said (Filed f ∷ entries)) (Answered (Filed f ∷ entries)) q.flight (hearing_in q (own c entries) contexts item)
        first_is slot context offset extents error first heard m test blank p z =
            let are : extents_in contexts (content_of item) ≡ extents = item_told (query_of q) (pieces (own c entries)) contexts item context offset extents error heard (map_context slot.callback context.name m) in
            said_now test p ∙ or_left (said_in test q.offset (extents_in contexts (content_of item)) p) (said_by test q.offset (pieces (own k entries)) p)
            (ap (λ (l : List Extent). said_in test q.offset l p) are ∙ sym (ap (λ (n : ℕ). said_in test n extents p) (starts q is_k)) ∙ z)

        finished : is_extents q.flight.done.callback ≡ true → error_in q (f ∷ own c entries) ≡ 0 → completes item ≡ true → Answered (Filed f ∷ entries)
        finished tells none completed = record {
          bytes = bytes_in q (f ∷ own c entries);
          is = ap (λ a. outcome_of a (own k (Filed f ∷ entries))) is_k ∙ ap (λ l. outcome_of (Some q) l) own_k ∙ ap (λ x. outcome_of (Some q) (f ∷ own x entries)) (sym same)
              ∙ comes_done q f (own c entries) completed (well_now.0, own_well c entries r.well) none;
        }

        knows_here : Knows start (Said (Filed f ∷ entries)) (Answered (Filed f ∷ entries)) after
        knows_here =
            all_known start (Said (Filed f ∷ entries)) (Answered (Filed f ∷ entries)) told before after files
            (filing_suits start (Said (Filed f ∷ entries)) (Answered (Filed f ∷ entries)) q.flight (hearing_in q (own c entries) contexts item) item f.heard rest (error_in q (f ∷ own c entries)) (bytes_in q (f ∷ own c entries)) first_is finished)
            (knows_more start (Said entries) (Said (Filed f ∷ entries)) (Answered entries) (Answered (Filed f ∷ entries)) before said_more (λ d. absurd (unfinished d)) r.knows)

      -- under another cookie
      module _ (differ : c ≢ k) where
        deaf : tells_extents q.flight ≡ false
        deaf = go (tells_extents q.flight) refl
          where
            none : (c ≡ k) ⊎ (is_ended (own c entries) ≡ true) → ⊥
            none (inl same) = differ same
            none (inr ended) = false≢true (sym going ∙ ended)

            go : (b : Bool) → tells_extents q.flight ≡ b → tells_extents q.flight ≡ false
            go true e = absurd (none (r.others c q is e))
            go false e = e

        own_k' : own k (Filed f ∷ entries) ≡ own k entries
        own_k' = own_other k f entries differ

        knows_beside : Knows start (Said (Filed f ∷ entries)) (Answered (Filed f ∷ entries)) after
        knows_beside =
            knows_more start (Said entries) (Said (Filed f ∷ entries)) (Answered entries) (Answered (Filed f ∷ entries)) after
            (λ test p z. subst (λ (l : List (Filing Ticket)). said_of test (request history k) l p ≡ true) (sym own_k') z)
            (λ d. subst (λ (l : List (Filing Ticket)). IsDone (outcome_of (request history k) l)) (sym own_k') d)
            (all_known start (Said entries) (Answered entries) told before after files
            (deaf_suits start (Said entries) (Answered entries) q.flight (hearing_in q (own c entries) contexts item) item f.heard rest (error_in q (f ∷ own c entries)) (bytes_in q (f ∷ own c entries)) deaf) r.knows)

      heard_filed : Heard (Filed f ∷ entries) after
      heard_filed = record { others = others_now; well = well_now; knows = go (cases_eq c k) }
        where
          go : (c ≡ k) ⊎ (c ≡ k → ⊥) → Knows start (Said (Filed f ∷ entries)) (Answered (Filed f ∷ entries)) after
          go (inl same) = knows_here same
          go (inr differ) = knows_beside differ

  heard_freed : (flight : Flight Ticket) (entries : List (Entry Ticket)) (before after : Seen) → Heard entries before → OneByOne Files before (map call_of (free_acts flight)) after → Heard (Freed flight ∷ entries) after
  heard_freed flight entries before after r files = record {
    others = r.others;
    well = r.well;
    knows = all_known start (Said entries) (Answered entries) (map call_of (free_acts flight)) before after files (frees_suit start (Said entries) (Answered entries) flight) r.knows;
  }

  heard_cleared : (entries : List (Entry Ticket)) (now : Seen) → Heard entries now → Heard (Cleared ∷ entries) now
  heard_cleared entries now r = record { others = r.others; well = r.well; knows = r.knows }

  heard_after : (event : Event Ticket) (added : List (Call Ticket)) (before after : Seen) → Heard (reading history).known.entries before → Adds event history added → OneByOne Files before added after → Heard (reading (event ∷ history)).known.entries after
  heard_after = along history Heard heard_filed heard_freed heard_cleared

-- On another link.

module _ (history : History Ticket) (start : ℕ) (Z : (test : Option ℕ → Bool) → ℕ → Type 0) (M : Type 0) where
  record Unheard (entries : List (Entry Ticket)) (now : Seen) : Type 0 where
    others : (c : ℕ) (q : Request Ticket) → request history c ≡ Some q → tells_extents q.flight ≡ true → is_ended (own c entries) ≡ true
    knows : Knows start Z M now

  unheard_filed : (q : Request Ticket) (c : ℕ) (item : Item) (contexts : List MetaContext) (answers : List Answer) (entries : List (Entry Ticket)) (before after : Seen) → request history c ≡ Some q → is_ended (own c entries) ≡ false → Unheard entries before →
      OneByOne Files before (map call_of (acts_of (filing_of q c (own c entries) contexts item answers) (own c entries))) after → Unheard (Filed (filing_of q c (own c entries) contexts item answers) ∷ entries) after
  unheard_filed q c item contexts answers entries before after is going r files =
      let f = filing_of q c (own c entries) contexts item answers in
      record {
        others = λ d other there tells. ended_more d f entries (r.others d other there tells);
        knows = all_known start Z M (map call_of (acts_of f (own c entries))) before after files
            (deaf_suits start Z M q.flight (hearing_in q (own c entries) contexts item) item f.heard (left (hears q.flight (hearing_in q (own c entries) contexts item)) answers) (error_in q (f ∷ own c entries)) (bytes_in q (f ∷ own c entries)) (deaf (tells_extents q.flight) refl)) r.knows;
      }
    where
      deaf : (b : Bool) → tells_extents q.flight ≡ b → tells_extents q.flight ≡ false
      deaf true e = absurd (false≢true (sym going ∙ r.others c q is e))
      deaf false e = e

  unheard_freed : (flight : Flight Ticket) (entries : List (Entry Ticket)) (before after : Seen) → Unheard entries before → OneByOne Files before (map call_of (free_acts flight)) after → Unheard (Freed flight ∷ entries) after
  unheard_freed flight entries before after r files = record { others = r.others; knows = all_known start Z M (map call_of (free_acts flight)) before after files (frees_suit start Z M flight) r.knows }

  unheard_after : (event : Event Ticket) (added : List (Call Ticket)) (before after : Seen) → Unheard (reading history).known.entries before → Adds event history added → OneByOne Files before added after → Unheard (reading (event ∷ history)).known.entries after
  unheard_after = along history Unheard unheard_filed unheard_freed (λ entries now r. record { others = r.others; knows = r.knows })

-- Several handles.

-- what was asked before an event that asks for no extents
told_before : (before : History Ticket) (event : Event Ticket) (c : ℕ) (q : Request Ticket) → asks_extents event ≡ false → tells_extents q.flight ≡ true → request (event ∷ before) c ≡ Some q → request before c ≡ Some q
told_before before event c q none tells is = go (is_issue event) refl
  where
    some_same : (one other : Request Ticket) → Some one ≡ Some other → one ≡ other
    some_same one other e = cc

    flight_tells : (n : ℕ) (first : Option Ticket) (done : Ticket) → tells_extents (commands.flight_of n first done) ≡ (is_extents_if first || is_extents done)
    flight_tells n None done = refl
    flight_tells n (Some by) done = refl

    issued : (command : Command Ticket) → (is_extents_if command.first || is_extents command.done) ≡ false → request (Issue command ∷ before) c ≡ Some q → ((asked before).issued + 1 ≡ c) ⊎ ((asked before).issued + 1 ≡ c → ⊥) → request before c ≡ Some q
    issued command quiet there (inl same) =
        let asks : commands.request_of (asked before).admitted command ≡ q = some_same _ _ (sym (next_here before command c same) ∙ there) in
        absurd (false≢true (sym quiet ∙ sym (flight_tells (asked before).admitted command.first command.done) ∙ ap (λ (x : Request Ticket). tells_extents x.flight) asks ∙ tells))
    issued command quiet there (inr differ) = sym (next_beside before command c differ) ∙ there

    go : (b : Bool) → is_issue event ≡ b → request before c ≡ Some q
    go true e =
        let i = issue_is event e in
        issued i.command (ap asks_extents (sym i.is) ∙ none) (subst (λ (x : Event Ticket). request (x ∷ before) c ≡ Some q) i.is is) (cases_eq ((asked before).issued + 1) c)
    go false e = sym (request_stays before event c e) ∙ is

module _ (link : ℕ) (event : Event Ticket) (histories histories2 : Histories) (happens : Happens link event histories histories2) where
  -- A handle's history is as it was, or with the event.
  pub at : (other : ℕ) (Before After : History Ticket → Type 0) → ((h : History Ticket) → Before h → After (event ∷ h)) → ((h : History Ticket) → Before h → After h) → Before (histories other) → After (histories2 other)
  at other Before After moved still b = go (cases_eq link other)
    where
      go : (link ≡ other) ⊎ (link ≡ other → ⊥) → After (histories2 other)
      go (inl same) = subst (λ (h : History Ticket). After h) (sym (ap histories2 (sym same) ∙ happens.here ∙ ap (λ x. event ∷ histories x) same)) (moved (histories other) b)
      go (inr differ) = subst (λ (h : History Ticket). After h) (sym (happens.others other (λ e. differ (sym e)))) (still (histories other) b)

  pub asked_at : (other c : ℕ) (q : Request Ticket) → request (histories other) c ≡ Some q → request (histories2 other) c ≡ Some q
  asked_at other c q = at other (λ h. request h c ≡ Some q) (λ h. request h c ≡ Some q) (λ h is. asked_stays h event c q is) (λ h is. is)

  zero_at : (other c p : ℕ) (q : Request Ticket) → request (histories other) c ≡ Some q → zero_after (histories other) c p ≡ true → zero_after (histories2 other) c p ≡ true
  zero_at other c p q is z = at other (λ h. (request h c ≡ Some q) × (zero_after h c p ≡ true)) (λ h. zero_after h c p ≡ true) (λ h b. zero_stays h event c p q b.0 b.1) (λ h b. b.1) (is, z)

  said_at : (test : Option ℕ → Bool) (other c p : ℕ) (q : Request Ticket) → request (histories other) c ≡ Some q → said_after test (histories other) c p ≡ true → said_after test (histories2 other) c p ≡ true
  said_at test other c p q is z = at other (λ h. (request h c ≡ Some q) × (said_after test h c p ≡ true)) (λ h. said_after test h c p ≡ true) (λ h b. said_stays test h event c p q b.0 b.1) (λ h b. b.1) (is, z)

  done_at : (other c : ℕ) (q : Request Ticket) → request (histories other) c ≡ Some q → IsDone (outcome_after (histories other) c) → IsDone (outcome_after (histories2 other) c)
  done_at other c q is d = at other (λ h. (request h c ≡ Some q) × IsDone (outcome_after h c)) (λ h. IsDone (outcome_after h c)) (λ h b. done_stays h event c q b.0 b.1) (λ h b. b.1) (is, d)

  pub told_at : asks_extents event ≡ false → (other c : ℕ) (q : Request Ticket) → tells_extents q.flight ≡ true → request (histories2 other) c ≡ Some q → request (histories other) c ≡ Some q
  told_at none other c q tells is = go (cases_eq link other)
    where
      go : (link ≡ other) ⊎ (link ≡ other → ⊥) → request (histories other) c ≡ Some q
      go (inl same) = told_before (histories other) event c q none tells (ap (λ (h : History Ticket). request h c) (sym (ap histories2 (sym same) ∙ happens.here ∙ ap (λ x. event ∷ histories x) same)) ∙ is)
      go (inr differ) = ap (λ (h : History Ticket). request h c) (sym (happens.others other (λ e. differ (sym e)))) ∙ is

  -- Where no extents are asked for, those that were stay done, or they are the ones that are waited for.
  none_asked : asks_extents event ≡ false → NoneAsked histories → NoneAsked histories2
  none_asked none all other c q is tells = let was = told_at none other c q tells is in done_at other c q was (all other c q was tells)

  module _ (sources : ℕ → Bool) (range : ℕ × ℕ) (before : Seen) (m : IsWanted sources histories range before) where
    others_at : asks_extents event ≡ false → (link' cookie' : ℕ) (other : Request Ticket) → request (histories2 link') cookie' ≡ Some other → tells_extents other.flight ≡ true → ((link' ≡ m.link) × (cookie' ≡ m.cookie)) ⊎ IsDone (outcome_after (histories2 link') cookie')
    others_at none link' cookie' other is tells = go (m.others link' cookie' other was tells)
      where
        was : request (histories link') cookie' ≡ Some other
        was = told_at none link' cookie' other tells is

        go : ((link' ≡ m.link) × (cookie' ≡ m.cookie)) ⊎ IsDone (outcome_after (histories link') cookie') → ((link' ≡ m.link) × (cookie' ≡ m.cookie)) ⊎ IsDone (outcome_after (histories2 link') cookie')
        go (inl same) = inl same
        go (inr done) = inr (done_at link' cookie' other was done)

    -- with what the board knows after it
    still_asked : asks_extents event ≡ false → (after : Seen) → Knows range.0 (λ test p. said_after test (histories2 m.link) m.cookie p ≡ true) (IsDone (outcome_after (histories2 m.link) m.cookie)) after → IsWanted sources histories2 range after
    still_asked none after k = record {
      link = m.link;
      cookie = m.cookie;
      asks = m.asks;
      source = m.source;
      asked = asked_at m.link m.cookie m.asks m.asked;
      kind = m.kind;
      offset = m.offset;
      length_ = m.length_;
      others = others_at none;
      said = k.said;
      answered = k.answered;
    }

    knew : Knows range.0 (λ test p. said_after test (histories m.link) m.cookie p ≡ true) (IsDone (outcome_after (histories m.link) m.cookie)) before
    knew = record { said = m.said; answered = m.answered }

    knows_still : Knows range.0 (λ test p. said_after test (histories2 m.link) m.cookie p ≡ true) (IsDone (outcome_after (histories2 m.link) m.cookie)) before
    knows_still = record { said = λ test blank p z. said_at test m.link m.cookie p m.asks m.asked (m.said test blank p z); answered = λ e. done_at m.link m.cookie m.asks m.asked (m.answered e) }

    -- Where it brings bytes or an end, its calls tell of no other extents.
    module _ (other : is_issue event ≡ false) (none : asks_extents event ≡ false) (added : List (Call Ticket)) (after : Seen) (well : NoneFails (reading (histories link)).known.entries) (adds : Adds event (histories link) added) (files : OneByOne Files before added after) where
      abbrev then : History Ticket
      then = event ∷ histories link

      comes_here : link ≡ m.link → IsWanted sources histories2 range after
      comes_here same = still_asked none after knows_now
        where
          is : request (histories link) m.cookie ≡ Some m.asks
          is = ap (λ x. request (histories x) m.cookie) same ∙ m.asked

          starts : (q : Request Ticket) → request (histories link) m.cookie ≡ Some q → range.0 ≡ q.offset
          starts q there = sym m.offset ∙ ap (λ (x : Request Ticket). x.offset) (some_same m.asks q (sym is ∙ there))
            where
              some_same : (one other : Request Ticket) → Some one ≡ Some other → one ≡ other
              some_same one other e = cc

          others : (c : ℕ) (q : Request Ticket) → request (histories link) c ≡ Some q → tells_extents q.flight ≡ true → (c ≡ m.cookie) ⊎ (is_ended (own c (reading (histories link)).known.entries) ≡ true)
          others c q there tells = go (m.others link c q there tells)
            where
              go : ((link ≡ m.link) × (c ≡ m.cookie)) ⊎ IsDone (outcome_after (histories link) c) → (c ≡ m.cookie) ⊎ (is_ended (own c (reading (histories link)).known.entries) ≡ true)
              go (inl e) = inl e.1
              go (inr done) = inr (done_over (histories link) c q there done)

          heard : Heard (histories link) m.cookie range.0 starts (reading then).known.entries after
          heard = heard_after (histories link) m.cookie range.0 starts event added before after
              (record { others = others; well = well; knows = subst (λ (x : ℕ). Knows range.0 (λ test p. said_after test (histories x) m.cookie p ≡ true) (IsDone (outcome_after (histories x) m.cookie)) before) (sym same) knew }) adds files

          there : histories2 m.link ≡ then
          there = ap histories2 (sym same) ∙ happens.here

          stays : request then m.cookie ≡ request (histories link) m.cookie
          stays = request_stays (histories link) event m.cookie other

          knows_now : Knows range.0 (λ test p. said_after test (histories2 m.link) m.cookie p ≡ true) (IsDone (outcome_after (histories2 m.link) m.cookie)) after
          knows_now =
              subst (λ (h : History Ticket). Knows range.0 (λ test p. said_after test h m.cookie p ≡ true) (IsDone (outcome_after h m.cookie)) after) (sym there)
              (subst (λ (a : Option (Request Ticket)). Knows range.0 (λ test p. said_of test a (own m.cookie (reading then).known.entries) p ≡ true) (IsDone (outcome_of a (own m.cookie (reading then).known.entries))) after) (sym stays) heard.knows)

      comes_beside : link ≢ m.link → IsWanted sources histories2 range after
      comes_beside differ = still_asked none after u.knows
        where
          others : (c : ℕ) (q : Request Ticket) → request (histories link) c ≡ Some q → tells_extents q.flight ≡ true → is_ended (own c (reading (histories link)).known.entries) ≡ true
          others c q there tells = go (m.others link c q there tells)
            where
              go : ((link ≡ m.link) × (c ≡ m.cookie)) ⊎ IsDone (outcome_after (histories link) c) → is_ended (own c (reading (histories link)).known.entries) ≡ true
              go (inl e) = absurd (differ e.0)
              go (inr done) = done_over (histories link) c q there done

          u : Unheard (histories link) range.0 (λ test p. said_after test (histories2 m.link) m.cookie p ≡ true) (IsDone (outcome_after (histories2 m.link) m.cookie)) (reading then).known.entries after
          u = unheard_after (histories link) range.0 (λ test p. said_after test (histories2 m.link) m.cookie p ≡ true) (IsDone (outcome_after (histories2 m.link) m.cookie)) event added before after (record { others = others; knows = knows_still }) adds files

      comes : IsWanted sources histories2 range after
      comes = go (cases_eq link m.link)
        where
          go : (link ≡ m.link) ⊎ (link ≡ m.link → ⊥) → IsWanted sources histories2 range after
          go (inl same) = comes_here same
          go (inr differ) = comes_beside differ

-- What isn't asked asks for no extents.
pub not_issued : (event : Event Ticket) → is_issue event ≡ false → asks_extents event ≡ false
not_issued (Set setting) e = refl
not_issued (StrictMode bits) e = refl
not_issued Start e = refl
not_issued (Opt option) e = refl
not_issued Abort e = refl
not_issued (Issue command) e = absurd (false≢true (sym e))
not_issued (Refuse command why) e = refl
not_issued Disconnect e = refl
not_issued (Wrote n) e = refl
not_issued (Arrived bytes answers) e = refl
not_issued (End answers) e = refl
not_issued (LinkFailed answers) e = refl
not_issued (Retire cookie) e = refl
not_issued ClearLog e = refl
not_issued Close e = refl

-- The laws.

pub nothing_maps : NothingMaps
nothing_maps sources now link cookie asks is tells = absurd (none_some is)
  where
    none_some : None ≡ Some asks → ⊥
    none_some e = cc

pub coming_maps : ComingMaps
coming_maps sources link event histories histories2 None added before after m well other happens adds files = none_asked link event histories histories2 happens (not_issued event other) m
coming_maps sources link event histories histories2 (Some range) added before after m well other happens adds files =
    comes link event histories histories2 happens sources range before m other (not_issued event other) added after well adds files

pub others_map : OthersMap
others_map sources link event histories histories2 None before after m none happens alike = none_asked link event histories histories2 happens none m
others_map sources link event histories histories2 (Some range) before after m none happens alike =
    let k = knows_still link event histories histories2 happens sources range before m in
    still_asked link event histories histories2 happens sources range before m none after
    (record { said = λ test blank p z. k.said test blank p (ap (λ (l : List Extent). said_in test range.0 l p) (sym alike.told) ∙ z); answered = λ e. k.answered (sym alike.mapped ∙ e) })

-- Extents are asked for.
module _ (sources : ℕ → Bool) (link : ℕ) (command : Command Ticket) (range : ℕ × ℕ) (histories histories2 : Histories) (before after : Seen) (none : NoneAsked histories) (source : sources link ≡ true) (asks : AsksRange range command)
    (happens : Happens link (Issue command) histories histories2) (told : after.told ≡ []) (unmapped : after.mapped ≡ false) where
  abbrev next : ℕ
  next = (asked (histories link)).issued + 1

  there : histories2 link ≡ Issue command ∷ histories link
  there = happens.here

  -- what else was asked is done
  others_done : (link' cookie' : ℕ) (other : Request Ticket) → request (histories2 link') cookie' ≡ Some other → tells_extents other.flight ≡ true → ((link' ≡ link) × (cookie' ≡ next)) ⊎ IsDone (outcome_after (histories2 link') cookie')
  others_done link' cookie' other is tells = on (cases_eq link link')
    where
      here : (link ≡ link') → (next ≡ cookie') ⊎ (next ≡ cookie' → ⊥) → ((link' ≡ link) × (cookie' ≡ next)) ⊎ IsDone (outcome_after (histories2 link') cookie')
      here same (inl e) = inl (sym same, sym e)
      here same (inr d) =
          let was : request (histories link) cookie' ≡ Some other = sym (next_beside (histories link) command cookie' d) ∙ ap (λ (h : History Ticket). request h cookie') (sym there) ∙ ap (λ x. request (histories2 x) cookie') same ∙ is in
          inr (subst (λ (x : ℕ). IsDone (outcome_after (histories2 x) cookie')) same (subst (λ (h : History Ticket). IsDone (outcome_after h cookie')) (sym there) (done_stays (histories link) (Issue command) cookie' other was (none link cookie' other was tells))))

      on : (link ≡ link') ⊎ (link ≡ link' → ⊥) → ((link' ≡ link) × (cookie' ≡ next)) ⊎ IsDone (outcome_after (histories2 link') cookie')
      on (inl same) = here same (cases_eq next cookie')
      on (inr differ) =
          let still : histories2 link' ≡ histories link' = happens.others link' (λ e. differ (sym e)) in
          inr (subst (λ (h : History Ticket). IsDone (outcome_after h cookie')) (sym still) (none link' cookie' other (ap (λ (h : History Ticket). request h cookie') (sym still) ∙ is) tells))

  asking : IsWanted sources histories2 range after
  asking = record {
    link = link;
    cookie = next;
    asks = commands.request_of (asked (histories link)).admitted command;
    source = source;
    asked = ap (λ (h : History Ticket). request h next) there ∙ next_here (histories link) command next refl;
    kind = asks.kind;
    offset = asks.offset;
    length_ = asks.length_;
    others = others_done;
    said = λ test blank p z. absurd (none_said test blank range.0 p (ap (λ (l : List Extent). said_in test range.0 l p) (sym told) ∙ z));
    answered = λ e. absurd (false≢true (sym unmapped ∙ e));
  }

pub asking_maps : AskingMaps
asking_maps sources link command range histories histories2 before after none source asks happens told unmapped = asking sources link command range histories histories2 before after none source asks happens told unmapped

pub hearing_maps : HearingMaps
hearing_maps sources histories range now m answered = (all_done, heard)
  where
    all_done : NoneAsked histories
    all_done link cookie other is tells = go (m.others link cookie other is tells)
      where
        go : ((link ≡ m.link) × (cookie ≡ m.cookie)) ⊎ IsDone (outcome_after (histories link) cookie) → IsDone (outcome_after (histories link) cookie)
        go (inl same) = subst (λ (x : ℕ). IsDone (outcome_after (histories x) cookie)) (sym same.0) (subst (λ (c : ℕ). IsDone (outcome_after (histories m.link) c)) (sym same.1) (m.answered answered))
        go (inr done) = done

    heard : (p : ℕ) → HoldsZero range now p → IsToldZero sources histories p
    heard p h = record {
      link = m.link;
      cookie = m.cookie;
      asks = m.asks;
      source = m.source;
      asked = m.asked;
      kind = m.kind;
      has = ap (λ (n : ℕ). within (n, m.asks.length) p) m.offset ∙ ap (λ (n : ℕ). within (range.0, n) p) m.length_ ∙ h.has;
      done = m.answered answered;
      zero = zero_is (request (histories m.link) m.cookie) (own m.cookie (reading (histories m.link)).known.entries) p ∙ m.said is_zero refl p h.zero;
    }

pub zeroes_stay : ZeroesStay
zeroes_stay sources link event histories histories2 p happens z = record {
  link = z.link;
  cookie = z.cookie;
  asks = z.asks;
  source = z.source;
  asked = asked_at link event histories histories2 happens z.link z.cookie z.asks z.asked;
  kind = z.kind;
  has = z.has;
  done = done_at link event histories histories2 happens z.link z.cookie z.asks z.asked z.done;
  zero = zero_at link event histories histories2 happens z.link z.cookie p z.asks z.asked z.zero;
}
