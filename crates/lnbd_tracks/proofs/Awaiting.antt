-- A block status stays under way until the board is told that it was answered, or of an error.
use Rattle.std.proofs.Common.{◌≡◌, ◌⊎◌, inl, inr, ℕ, ◌+◌, Bool, true, false, List, [], ◌∷◌, ◌++◌, map, Option, Some, None, refl, ap, sym, subst, ◌∙◌, arith, ◌==◌, if◌then◌else◌}
use Rattle.std.proofs.lemmas.Bool.{cases_eq, false≢true}
use Rattle.lnbd_keyed.specs.Keyed.{value_at}
use Rattle.lnbd_model.specs.declared.export.Context.{Context as MetaContext}
use Rattle.lnbd_model.specs.declared.export.Extent.{Extent}
use Rattle.lnbd_callbacks.specs.Calls.{Call, Chunk, Extents, Complete, Free}
use Rattle.lnbd_callbacks.specs.Steps.{OneByOne}
use Rattle.lnbd_callbacks.specs.declared.caller.Verdict.{Verdict}
use Rattle.lnbd_outcome.specs.Outcome.{Unfinished}
use Rattle.lnbd_history.specs.Commands.{Command, Flight, Request}
use Rattle.lnbd_history.specs.Commands as commands
use Rattle.lnbd_history.specs.Entries.{Item, Dropped, Filing, Entry, Filed, Freed, Cleared, completes, hears, own, is_ended, error_in, bytes_in, hearing_in, call_of, acts_of, free_acts}
use Rattle.lnbd_history.specs.Events.{Answer, Event, History, Set, StrictMode, Start, Opt, Abort, Issue, Refuse, Disconnect, Wrote, Arrived, End, LinkFailed, Retire, ClearLog, Close}
use Rattle.lnbd_history.specs.History.{asked, request, left, filing_of, reading, with_answers}
use Rattle.lnbd_history.proofs.Cookies.{request_past}
use Rattle.lnbd_asked.specs.Driven.{outcome_after}
use Rattle.lnbd_asked.specs.Transcript.{outcome_of}
use Rattle.lnbd_board.specs.declared.ticket.Ticket.{Ticket}
use Rattle.lnbd_board.specs.declared.ticket.Ticket.TheVariants as ticket
use Rattle.lnbd_board.specs.Files.{Seen, Files, came_with, filed, filed_done, is_map, is_unfit, or_error, content_first, rows_with}
use Rattle.lnbd_board.specs.Files as board
use Rattle.lnbd_tracks.specs.Awaiting.{AskingAwaits, Awaits, ComingAwaits, IsAsking, OthersAwait}
use Rattle.lnbd_tracks.specs.Laws.{is_coming}
use Rattle.lnbd_tracks.specs.Mapping.{is_extents}
use Rattle.lnbd_tracks.specs.Tracks.{Histories, Happens, Adds, is_issue}
use Rattle.lnbd_tracks.proofs.Along.{along}
use Rattle.lnbd_tracks.proofs.Calling.{filing_completes, none_earlier}
use Rattle.lnbd_tracks.proofs.Coming.{closed_keeps}
use Rattle.lnbd_tracks.proofs.Mapped.{asked_at, at}
use Rattle.lnbd_tracks.proofs.Outcomes.{still_waits}
use Rattle.lnbd_tracks.proofs.Staying.{asked_stays, next_here}
use Rattle.lnbd_tracks.proofs.Unfiled.{own_other, own_same, request_stays, unfiled}

-- What a board was not told after some calls it was not told before them.

hears_mapped : (b : Bool) (entries : List Extent) (before after : Seen) → board.Hears b entries before after → after.mapped ≡ before.mapped
hears_mapped true entries before after (inl e) = ap (λ (s : Seen). s.mapped) e.1
hears_mapped true entries before after (inr e) = ap (λ (s : Seen). s.mapped) e
hears_mapped false entries before after e = ap (λ (s : Seen). s.mapped) e

either_not : (b : Bool) (one other : Seen) (was : Bool) → (one.mapped ≡ false → was ≡ false) → (other.mapped ≡ false → was ≡ false) → (if b then one else other).mapped ≡ false → was ≡ false
either_not true one other was f g e = f e
either_not false one other was f g e = g e

done_not : (by : Ticket) (buf : List ℕ) (before : Seen) → (filed_done by buf before).mapped ≡ false → before.mapped ≡ false
done_not (ticket.Slice n) buf before e =
    either_not (is_unfit (value_at n before.rows) buf) (record before { error = or_error before.error 71 }) (record before { rows = rows_with (value_at n before.rows) n buf before.rows; came = came_with (value_at n before.rows) n before.came })
    before.mapped (λ k. k) (λ k. k) e
done_not ticket.Extents buf before e = absurd (false≢true (sym e))
done_not ticket.Flush buf before e = e

one_not : (call : Call Ticket) (before after : Seen) → Files before call after → after.mapped ≡ false → before.mapped ≡ false
one_not (Chunk by bytes offset status error heard) before after f e = sym (ap (λ (s : Seen). s.mapped) f.1) ∙ e
one_not (Extents by context offset entries error heard) before after f e = sym (hears_mapped (is_map by context) entries before after f.1) ∙ e
one_not (Complete by error buf verdict) before after f e =
    either_not (error == 0) (filed_done by buf before) (record before { error = content_first before.error error }) before.mapped (done_not by buf before) (λ k. k) (sym (ap (λ (s : Seen). s.mapped) f.1) ∙ e)
one_not (Free by) before after f e = sym (ap (λ (s : Seen). s.mapped) f) ∙ e

not_earlier : (calls : List (Call Ticket)) (before after : Seen) → OneByOne Files before calls after → after.mapped ≡ false → before.mapped ≡ false
not_earlier [] before after f e = sym (ap (λ (s : Seen). s.mapped) f) ∙ e
not_earlier (call ∷ calls) before after f e = one_not call before f.0 f.1.0 (not_earlier calls f.0 after f.1.1 e)

-- Where the callback for extents is told of an end, the board is told of an answer or of an error.

some_error : (told : Option ℕ) (error : ℕ) → content_first told error ≡ None → ⊥
some_error None error e = cc
some_error (Some first) error e = go (error == 71) e
  where
    go : (b : Bool) → (if b then Some error else Some first) ≡ None → ⊥
    go true e = cc
    go false e = cc

told_end : (by : Ticket) (error : ℕ) (buf : List ℕ) (old : Seen) → is_extents by ≡ true → (filed by error buf old).error ≡ None → (filed by error buf old).mapped ≡ false → ⊥
told_end (ticket.Slice n) error buf old ends none unmapped = false≢true ends
told_end ticket.Extents error buf old ends none unmapped = go (error == 0) none unmapped
  where
    go : (b : Bool) → (if b then record old { mapped = true } else record old { error = content_first old.error error }).error ≡ None → (if b then record old { mapped = true } else record old { error = content_first old.error error }).mapped ≡ false → ⊥
    go true none unmapped = false≢true (sym unmapped)
    go false none unmapped = some_error old.error error none
told_end ticket.Flush error buf old ends none unmapped = false≢true ends

told_ends : (front : List (Call Ticket)) (by : Ticket) (error : ℕ) (buf : List ℕ) (verdict : Verdict) (rest : List (Call Ticket)) (before after : Seen) → is_extents by ≡ true →
    OneByOne Files before (front ++ Complete by error buf verdict ∷ rest) after → after.error ≡ None → after.mapped ≡ false → ⊥
told_ends [] by error buf verdict rest before after ends f none unmapped =
    let is : f.0 ≡ filed by error buf before = f.1.0.1 in
    told_end by error buf before ends (sym (ap (λ (s : Seen). s.error) is) ∙ none_earlier rest f.0 after f.1.1 none) (sym (ap (λ (s : Seen). s.mapped) is) ∙ not_earlier rest f.0 after f.1.1 unmapped)
told_ends (call ∷ front) by error buf verdict rest before after ends f none unmapped = told_ends front by error buf verdict rest f.0 after ends f.1.1 none unmapped

-- On the link of the block status.

some_same : (one other : Request Ticket) → Some one ≡ Some other → one ≡ other
some_same one other e = cc

module _ (history : History Ticket) (k : ℕ) (q : Request Ticket) (is : request history k ≡ Some q) (ends : is_extents q.flight.done.callback ≡ true) where
  record Still (entries : List (Entry Ticket)) (now : Seen) : Type 0 where
    on : now.error ≡ None → now.mapped ≡ false → outcome_of (Some q) (own k entries) ≡ Unfinished

  still_on : (entries entries2 : List (Entry Ticket)) (added : List (Call Ticket)) (before after : Seen) → own k entries2 ≡ own k entries → Still entries before → OneByOne Files before added after → Still entries2 after
  still_on entries entries2 added before after same s files = record {
    on = λ none unmapped. ap (λ (l : List (Filing Ticket)). outcome_of (Some q) l) same ∙ s.on (none_earlier added before after files none) (not_earlier added before after files unmapped);
  }

  module _ (asks : Request Ticket) (c : ℕ) (item : Item) (contexts : List MetaContext) (answers : List Answer) (entries : List (Entry Ticket)) (before after : Seen) (there : request history c ≡ Some asks) (going : is_ended (own c entries) ≡ false) (s : Still entries before) where
    abbrev f : Filing Ticket
    f = filing_of asks c (own c entries) contexts item answers

    abbrev told : List (Call Ticket)
    told = map call_of (acts_of f (own c entries))

    module _ (files : OneByOne Files before told after) where
      one_here : c ≡ k → after.error ≡ None → after.mapped ≡ false → outcome_of (Some q) (own k (Filed f ∷ entries)) ≡ Unfinished
      one_here same none unmapped = go (completes item) refl
        where
          mine : asks ≡ q
          mine = some_same asks q (sym there ∙ ap (λ (n : ℕ). request history n) same ∙ is)

          go : (b : Bool) → completes item ≡ b → outcome_of (Some q) (own k (Filed f ∷ entries)) ≡ Unfinished
          go true done =
              let made = filing_completes asks.flight (hearing_in asks (own c entries) contexts item) item f.heard (left (hears asks.flight (hearing_in asks (own c entries) contexts item)) answers) (error_in asks (f ∷ own c entries)) (bytes_in asks (f ∷ own c entries)) done in
              absurd (told_ends made.front asks.flight.done.callback (error_in asks (f ∷ own c entries)) (bytes_in asks (f ∷ own c entries)) made.verdict (Free asks.flight.done.callback ∷ []) before after
              (ap (λ (x : Request Ticket). is_extents x.flight.done.callback) mine ∙ ends) (subst (λ (l : List (Call Ticket)). OneByOne Files before l after) made.is files) none unmapped)
          go false more =
              ap (λ (l : List (Filing Ticket)). outcome_of (Some q) l) (subst (λ (n : ℕ). own n (Filed f ∷ entries) ≡ f ∷ own n entries) same (own_same f entries))
              ∙ still_waits q f (own k entries) more (ap (λ (n : ℕ). is_ended (own n entries)) (sym same) ∙ going)

      still_filed : Still (Filed f ∷ entries) after
      still_filed = go (cases_eq c k)
        where
          go : (c ≡ k) ⊎ (c ≡ k → ⊥) → Still (Filed f ∷ entries) after
          go (inl same) = record { on = one_here same }
          go (inr differ) = still_on entries (Filed f ∷ entries) told before after (own_other k f entries differ) s files

  still_freed : (flight : Flight Ticket) (entries : List (Entry Ticket)) (before after : Seen) → Still entries before → OneByOne Files before (map call_of (free_acts flight)) after → Still (Freed flight ∷ entries) after
  still_freed flight entries before after s files = still_on entries (Freed flight ∷ entries) (map call_of (free_acts flight)) before after refl s files

  still_cleared : (entries : List (Entry Ticket)) (now : Seen) → Still entries now → Still (Cleared ∷ entries) now
  still_cleared entries now s = record { on = s.on }

  still_after : (event : Event Ticket) (added : List (Call Ticket)) (before after : Seen) → Still (reading history).known.entries before → Adds event history added → OneByOne Files before added after → Still (reading (event ∷ history)).known.entries after
  still_after = along history Still still_filed still_freed still_cleared

  -- What comes with an event that isn't asked.
  waits_coming : (event : Event Ticket) (added : List (Call Ticket)) (before after : Seen) → is_issue event ≡ false → outcome_after history k ≡ Unfinished → Adds event history added → OneByOne Files before added after → after.error ≡ None → after.mapped ≡ false →
      outcome_after (event ∷ history) k ≡ Unfinished
  waits_coming event added before after other waits adds files none unmapped =
      let first : Still (reading history).known.entries before = record { on = λ n u. sym (ap (λ (a : Option (Request Ticket)). outcome_of a (own k (reading history).known.entries)) is) ∙ waits } in
      ap (λ (a : Option (Request Ticket)). outcome_of a (own k (reading (event ∷ history)).known.entries)) (request_stays history event k other ∙ is)
      ∙ (still_after event added before after first adds files).on none unmapped

  -- What else happens ends no command.
  abbrev Waits : List (Entry Ticket) → Type 0
  Waits entries = outcome_of (Some q) (own k entries) ≡ Unfinished

  dropped : (asks : Request Ticket) (c : ℕ) (item : Item) (contexts : List MetaContext) (answers : List Answer) (entries : List (Entry Ticket)) → item ≡ Dropped → request history c ≡ Some asks → is_ended (own c entries) ≡ false → Waits entries →
      Waits (Filed (filing_of asks c (own c entries) contexts item answers) ∷ entries)
  dropped asks c item contexts answers entries drops there going waits = go (cases_eq c k)
    where
      go : (c ≡ k) ⊎ (c ≡ k → ⊥) → Waits (Filed (filing_of asks c (own c entries) contexts item answers) ∷ entries)
      go (inl same) =
          ap (λ (l : List (Filing Ticket)). outcome_of (Some q) l) (subst (λ (n : ℕ). own n (Filed (filing_of asks c (own c entries) contexts item answers) ∷ entries) ≡ filing_of asks c (own c entries) contexts item answers ∷ own n entries) same (own_same (filing_of asks c (own c entries) contexts item answers) entries))
          ∙ still_waits q (filing_of asks c (own c entries) contexts item answers) (own k entries) (ap completes drops) (ap (λ (n : ℕ). is_ended (own n entries)) (sym same) ∙ going)
      go (inr differ) = ap (λ (l : List (Filing Ticket)). outcome_of (Some q) l) (own_other k (filing_of asks c (own c entries) contexts item answers) entries differ) ∙ waits

  waits_on : (event : Event Ticket) → is_coming event ≡ false → outcome_after history k ≡ Unfinished → outcome_after (event ∷ history) k ≡ Unfinished
  waits_on event none waits =
      ap (λ (a : Option (Request Ticket)). outcome_of a (own k (reading (event ∷ history)).known.entries)) (asked_stays history event k q is)
      ∙ go event none
    where
      was : Waits (reading history).known.entries
      was = sym (ap (λ (a : Option (Request Ticket)). outcome_of a (own k (reading history).known.entries)) is) ∙ waits

      go : (event : Event Ticket) → is_coming event ≡ false → Waits (reading (event ∷ history)).known.entries
      go (Set setting) e = was
      go (StrictMode bits) e = was
      go Start e = was
      go (Opt option) e = was
      go Abort e = was
      go (Issue command) e = was
      go (Refuse command why) e = was
      go Disconnect e = was
      go (Wrote n) e = was
      go (Arrived bytes answers) e = absurd (false≢true (sym e))
      go (End answers) e = absurd (false≢true (sym e))
      go (LinkFailed answers) e = absurd (false≢true (sym e))
      go (Retire cookie) e = was
      go ClearLog e = was
      go Close e = closed_keeps history Waits (λ item. item ≡ Dropped) dropped (with_answers [] (reading history).known) refl was

-- Several handles.

module _ (sources : ℕ → Bool) (link : ℕ) (event : Event Ticket) (histories histories2 : Histories) (happens : Happens link event histories histories2) where
  still_asking : (m : IsAsking sources histories) → outcome_after (histories2 m.link) m.cookie ≡ Unfinished → IsAsking sources histories2
  still_asking m waits = record {
    link = m.link;
    cookie = m.cookie;
    asks = m.asks;
    source = m.source;
    asked = asked_at link event histories histories2 happens m.link m.cookie m.asks m.asked;
    kind = m.kind;
    ends = m.ends;
    waits = waits;
  }

  quiet_asking : is_coming event ≡ false → IsAsking sources histories → IsAsking sources histories2
  quiet_asking quiet m = still_asking m
      (at link event histories histories2 happens m.link (λ (h : History Ticket). (request h m.cookie ≡ Some m.asks) × (outcome_after h m.cookie ≡ Unfinished)) (λ (h : History Ticket). outcome_after h m.cookie ≡ Unfinished)
      (λ h b. waits_on h m.cookie m.asks b.0 m.ends event quiet b.1) (λ h b. b.1) (m.asked, m.waits))

  coming_asking : (added : List (Call Ticket)) (before after : Seen) → is_issue event ≡ false → Adds event (histories link) added → OneByOne Files before added after → after.error ≡ None → after.mapped ≡ false → IsAsking sources histories → IsAsking sources histories2
  coming_asking added before after other adds files none unmapped m = still_asking m (go (cases_eq link m.link))
    where
      go : (link ≡ m.link) ⊎ (link ≡ m.link → ⊥) → outcome_after (histories2 m.link) m.cookie ≡ Unfinished
      go (inl same) =
          let here : histories2 m.link ≡ event ∷ histories link = ap histories2 (sym same) ∙ happens.here in
          let is : request (histories link) m.cookie ≡ Some m.asks = ap (λ (n : ℕ). request (histories n) m.cookie) same ∙ m.asked in
          let waits : outcome_after (histories link) m.cookie ≡ Unfinished = ap (λ (n : ℕ). outcome_after (histories n) m.cookie) same ∙ m.waits in
          ap (λ (h : History Ticket). outcome_after h m.cookie) here ∙ waits_coming (histories link) m.cookie m.asks is m.ends event added before after other waits adds files none unmapped
      go (inr differ) = ap (λ (h : History Ticket). outcome_after h m.cookie) (happens.others m.link (λ e. differ (sym e))) ∙ m.waits

pub coming_awaits : ComingAwaits
coming_awaits sources link event histories histories2 wanted added before after a other happens adds files = record {
  on = λ some none unmapped.
      coming_asking sources link event histories histories2 happens added before after other adds files none unmapped
      (a.on some (none_earlier added before after files none) (not_earlier added before after files unmapped));
}

pub others_await : OthersAwait
others_await sources link event histories histories2 wanted before after a quiet happens earlier =
    record { on = λ some none unmapped. quiet_asking sources link event histories histories2 happens quiet (a.on some (earlier.error none) (earlier.mapped unmapped)) }

-- A block status is asked.

done_is : (n : ℕ) (first : Option Ticket) (done : Ticket) → (commands.flight_of n first done).done.callback ≡ done
done_is n None done = refl
done_is n (Some by) done = refl

pub asking_awaits : AskingAwaits
asking_awaits sources link command wanted histories histories2 after source kind ends happens = record {
  on = λ some none unmapped. record {
    link = link;
    cookie = next;
    asks = asks;
    source = source;
    asked = ap (λ (h : History Ticket). request h next) happens.here ∙ here;
    kind = kind;
    ends = ap (λ (by : Ticket). is_extents by) (done_is (asked (histories link)).admitted command.first command.done) ∙ ends;
    waits = ap (λ (h : History Ticket). outcome_after h next) happens.here
        ∙ ap (λ (a : Option (Request Ticket)). outcome_of a (own next (reading (histories link)).known.entries)) here
        ∙ ap (λ (l : List (Filing Ticket)). outcome_of (Some asks) l) (unfiled (histories link) next (request_past (histories link) next (omega arith)));
  };
}
  where
    next : ℕ
    next = (asked (histories link)).issued + 1

    asks : Request Ticket
    asks = commands.request_of (asked (histories link)).admitted command

    here : request (Issue command ∷ histories link) ((asked (histories link)).issued + 1) ≡ Some (commands.request_of (asked (histories link)).admitted command)
    here = next_here (histories link) command ((asked (histories link)).issued + 1) refl

-- Beginnings, and sides.

pub nothing_awaits : (sources : ℕ → Bool) (histories : Histories) (now : Seen) → Awaits sources histories None now
nothing_awaits sources histories now = record { on = λ some none unmapped. absurd (false≢true some) }
