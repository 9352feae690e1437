-- All that is told of extents is held by the board, and then known.
use Rattle.std.proofs.Common.{◌≡◌, ◌≢◌, ℕ, ◌+◌, ◌*◌, ◌/◌, Bool, true, false, ◌&&◌, ◌||◌, List, [], ◌∷◌, ◌++◌, map, Option, Some, None, is_some, refl, ap, sym, subst, ◌∙◌, arith, ◌⊎◌, inl, inr, if◌then◌else◌, bytes_eq, codes, ◌==◌, nat_lt}
use Rattle.std.proofs.lemmas.Bool.{cases_eq, false≢true}
use Rattle.lnbd_keyed.specs.Keyed.{value_at}
use Rattle.lnbd_model.specs.declared.export.Context.{Context as MetaContext}
use Rattle.lnbd_model.specs.declared.export.Extent.{Extent}
use Rattle.lnbd_model.specs.declared.failure.Failure.{Failure}
use Rattle.lnbd_records.specs.Content.{Content, Data, Hole, Status, Error, ErrorAt, Nothing, Bare}
use Rattle.lnbd_callbacks.specs.Calls.{Call, Chunk, Extents, Complete, Free}
use Rattle.lnbd_callbacks.specs.Slot.{Slot}
use Rattle.lnbd_callbacks.specs.Steps.{OneByOne}
use Rattle.lnbd_callbacks.specs.declared.caller.Heard.{Heard}
use Rattle.lnbd_callbacks.specs.declared.caller.Verdict.{Verdict}
use Rattle.lnbd_extents.specs.Positions.{within}
use Rattle.lnbd_outcome.specs.Faults.{context_of, has_fault}
use Rattle.lnbd_outcome.specs.Hearing.{Hearing, content_heard, extents_heard, hearing}
use Rattle.lnbd_outcome.specs.Hearing as hearing_of
use Rattle.lnbd_outcome.specs.Outcome.{Done, Unfinished, error_number, failing, failure, item_failure, lack_failure, or_else, verdict}
use Rattle.lnbd_outcome.specs.Pieces.{Query, Piece, content_of, is_completed, number_of}
use Rattle.lnbd_model.specs.Errors.{error_of}
use Rattle.lnbd_model.specs.Kind.{is_read}
use Rattle.lnbd_model.specs.declared.errors.TheConstants.{EPROTO}
use Rattle.lnbd_model.specs.declared.failure.Origin.TheVariants as from
use Rattle.lnbd_history.specs.Commands.{Command, Flight, Request, query_of}
use Rattle.lnbd_history.specs.Commands as commands
use Rattle.lnbd_history.specs.Entries.{Act, Item, Framed, Lost, Dropped, Filing, Entry, Filed, Freed, Cleared, own, is_ended, piece_of, pieces, failure_in, error_in, bytes_in, hearing_in, hears, call_of, acts_of, first_acts, first_free_acts, free_acts, completion_acts, end_acts}
use Rattle.lnbd_history.specs.Entries as act
use Rattle.lnbd_history.specs.Events.{Answer, Hears, Decides, Event, History, Set, StrictMode, Start, Opt, Abort, Issue, Refuse, Disconnect, Wrote, Arrived, End, LinkFailed, Retire, ClearLog, Close}
use Rattle.lnbd_history.specs.History.{asked, request, next_heard, filing_of, reading, with_answers}
use Rattle.lnbd_history.proofs.Cookies.{request_past}
use Rattle.lnbd_asked.specs.Driven.{outcome_after, zero_after}
use Rattle.lnbd_asked.specs.InStep.{silent_pieces}
use Rattle.lnbd_asked.specs.Transcript.{outcome_of, extents_in, is_allocation, is_zero, zero_in, zero_told}
use Rattle.lnbd_board.specs.declared.ticket.Ticket.{Ticket}
use Rattle.lnbd_board.specs.declared.ticket.Ticket.TheVariants as ticket
use Rattle.lnbd_board.specs.Files.{Seen, Files, filed_done, is_map, is_unfit, or_error, content_first, rows_with, came_with}
use Rattle.lnbd_board.specs.Files as board
use Rattle.lnbd_board.specs.Requests.{Each}
use Rattle.lnbd_tracks.specs.Saying.{is_told, said_after, said_by, said_in, said_of}
use Rattle.lnbd_tracks.specs.Heeding.{AllHeard, IsAwaited, IsHeard, Heeds, ListensTo, holds_told, holds_whole, zero_asked, is_whole, NothingHeeds, ComingHeeds, OthersHeed, AskingHeeds, HearingHeeds}
use Rattle.lnbd_tracks.specs.Laws.{IsDone, is_coming}
use Rattle.lnbd_tracks.specs.Mapping.{Maps, ToldAlike, asks_extents, first_tells, is_extents, tells_extents}
use Rattle.lnbd_tracks.specs.Tracks.{Histories, Happens, Adds, NoneFails, is_issue}
use Rattle.lnbd_tracks.proofs.Along.{along}
use Rattle.lnbd_tracks.proofs.Mapped.{at, asked_at, hearing_maps, told_at, not_issued}
use Rattle.lnbd_tracks.proofs.Heard.{none_said}
use Rattle.lnbd_tracks.proofs.Staying.{asked_stays, done_over, ended_more, next_beside, next_here, zero_is}
use Rattle.lnbd_tracks.proofs.Coming.{closed_keeps, event_keeps}
use Rattle.lnbd_tracks.proofs.Unfiled.{own_same, own_other, unfiled}
use Rattle.lnbd_tracks.proofs.Outcomes.{NoneFailed, heard_alike, own_well}
use Rattle.lnbd_extents.proofs.PositionLaws.{all_elim, all_intro}

-- Worked values: of positions below 8 those in blocks of four are in whole ones; of those below 6 position 5 isn't.

in_block : is_whole 4 (λ q. nat_lt q 8) 5 ≡ true
in_block = refl

past_blocks : is_whole 4 (λ q. nat_lt q 8) 9 ≡ false
past_blocks = refl

in_part : is_whole 4 (λ q. nat_lt q 6) 5 ≡ false
in_part = refl

-- Calls that tell no extents.

pub record IsCalm (before after : Seen) : Type 0 where
  pub told : after.told ≡ before.told
  pub short : after.short ≡ before.short

abbrev IsQuiet : Call Ticket → Type 0
IsQuiet (Chunk by bytes offset status error heard) = Unit {0}
IsQuiet (Extents by context offset entries error heard) = is_map by context ≡ false
IsQuiet (Complete by error buf verdict) = Unit {0}
IsQuiet (Free by) = Unit {0}

calm_same : (one other : Seen) → other ≡ one → IsCalm one other
calm_same one other e = record { told = ap (λ (s : Seen). s.told) e; short = ap (λ (s : Seen). s.short) e }

calm_then : (a b c : Seen) → IsCalm a b → IsCalm b c → IsCalm a c
calm_then a b c first second = record { told = second.told ∙ first.told; short = second.short ∙ first.short }

either_calm : (before one other : Seen) (b : Bool) → IsCalm before one → IsCalm before other → IsCalm before (if b then one else other)
either_calm before one other true c d = c
either_calm before one other false c d = d

done_calm : (by : Ticket) (buf : List ℕ) (before : Seen) → IsCalm before (filed_done by buf before)
done_calm (ticket.Slice n) buf before =
    either_calm before (record before { error = or_error before.error 71 }) (record before { rows = rows_with (value_at n before.rows) n buf before.rows; came = came_with (value_at n before.rows) n before.came })
    (is_unfit (value_at n before.rows) buf) (record { told = refl; short = refl }) (record { told = refl; short = refl })
done_calm ticket.Extents buf before = record { told = refl; short = refl }
done_calm ticket.Flush buf before = record { told = refl; short = refl }

hears_calm : (b : Bool) (entries : List Extent) (before after : Seen) → b ≡ false → board.Hears b entries before after → IsCalm before after
hears_calm true entries before after e h = absurd (false≢true (sym e))
hears_calm false entries before after e h = calm_same before after h

calm_one : (call : Call Ticket) (before after : Seen) → Files before call after → IsQuiet call → IsCalm before after
calm_one (Chunk by bytes offset status error heard) before after f q = calm_same before after f.1
calm_one (Extents by context offset entries error heard) before after f q = hears_calm (is_map by context) entries before after q f.1
calm_one (Complete by error buf verdict) before after f q =
    subst (IsCalm before) (sym f.1) (either_calm before (filed_done by buf before) (record before { error = content_first before.error error }) (error == 0) (done_calm by buf before) (record { told = refl; short = refl }))
calm_one (Free by) before after f q = calm_same before after f

calm_all : (calls : List (Call Ticket)) (before after : Seen) → OneByOne Files before calls after → Each IsQuiet calls → IsCalm before after
calm_all [] before after f q = calm_same before after f
calm_all (call ∷ calls) before after f q = calm_then before f.0 after (calm_one call before f.0 f.1.0 q.0) (calm_all calls f.0 after f.1.1 q.1)

frees_and : (first : Option (Slot Ticket)) (more : List (Act Ticket)) → Each IsQuiet (map call_of more) → Each IsQuiet (map call_of (first_free_acts first ++ more))
frees_and None more q = q
frees_and (Some slot) more q = (tt, q)

end_quiet : (flight : Flight Ticket) (item : Item) (verdict : Option Verdict) (error : ℕ) (bytes : List ℕ) → Each IsQuiet (map call_of (end_acts flight item verdict error bytes))
end_quiet flight (Framed content last) (Some v) error bytes = frees_and flight.first (act.Complete flight.done error bytes v ∷ act.Free flight.done ∷ []) (tt, (tt, tt))
end_quiet flight (Framed content last) None error bytes = tt
end_quiet flight Lost (Some v) error bytes = frees_and flight.first (act.Complete flight.done error bytes v ∷ act.Free flight.done ∷ []) (tt, (tt, tt))
end_quiet flight Lost None error bytes = tt
end_quiet flight Dropped verdict error bytes = frees_and flight.first (act.Free flight.done ∷ []) (tt, tt)

frees_quiet : (flight : Flight Ticket) → Each IsQuiet (map call_of (free_acts flight))
frees_quiet flight = frees_and flight.first (act.Free flight.done ∷ []) (tt, tt)

no_map : (by : Ticket) (context : List ℕ) → is_extents by ≡ false → is_map by context ≡ false
no_map (ticket.Slice n) context e = refl
no_map ticket.Extents context e = absurd (false≢true (sym e))
no_map ticket.Flush context e = refl

-- a command tells no extents to its first callback
deaf_quiet : (flight : Flight Ticket) (first : Option (Slot Ticket)) (told : Option Hearing) (heard : Option Heard) (item : Item) (verdict : Option Verdict) (error : ℕ) (bytes : List ℕ) → first_tells first ≡ false →
    Each IsQuiet (map call_of (first_acts first told heard ++ end_acts flight item verdict error bytes))
deaf_quiet flight None told heard item verdict error bytes d = end_quiet flight item verdict error bytes
deaf_quiet flight (Some slot) None heard item verdict error bytes d = end_quiet flight item verdict error bytes
deaf_quiet flight (Some slot) (Some told) None item verdict error bytes d = end_quiet flight item verdict error bytes
deaf_quiet flight (Some slot) (Some (hearing_of.Chunk b offset status e)) (Some heard) item verdict error bytes d = (tt, end_quiet flight item verdict error bytes)
deaf_quiet flight (Some slot) (Some (hearing_of.Extents context offset entries e)) (Some heard) item verdict error bytes d = (no_map slot.callback context.name d, end_quiet flight item verdict error bytes)

-- Calls that tell extents.

-- what is told of extents of base:allocation
abbrev IsSaid : Option Hearing → List Extent → Type 0
IsSaid None said = said ≡ []
IsSaid (Some (hearing_of.Chunk bytes offset status error)) said = said ≡ []
IsSaid (Some (hearing_of.Extents context offset entries error)) said = said ≡ (if bytes_eq context.name (codes "base:allocation") then entries else [])

-- these were told where none were, or none were told
abbrev Becomes : Seen → Seen → List Extent → Type 0
Becomes before after said = (IsCalm before after × (said ≡ [])) ⊎ ((before.told ≡ []) × (after.told ≡ said) × (before.short ≡ after.short))

map_is : (by : Ticket) (context : List ℕ) → is_extents by ≡ true → is_map by context ≡ bytes_eq context (codes "base:allocation")
map_is (ticket.Slice n) context e = absurd (false≢true e)
map_is ticket.Extents context e = refl
map_is ticket.Flush context e = absurd (false≢true e)

hears_becomes : (b c : Bool) (entries said : List Extent) (before mid after : Seen) → b ≡ c → said ≡ (if c then entries else []) → board.Hears b entries before mid → IsCalm mid after → after.short ≡ false → Becomes before after said
hears_becomes true true entries said before mid after same is (inl h) calm short =
    inr (h.0, calm.told ∙ ap (λ (s : Seen). s.told) h.1 ∙ sym is, sym (calm.short ∙ ap (λ (s : Seen). s.short) h.1))
hears_becomes true true entries said before mid after same is (inr h) calm short = absurd (false≢true (sym short ∙ calm.short ∙ ap (λ (s : Seen). s.short) h))
hears_becomes true false entries said before mid after same is h calm short = absurd (false≢true (sym same))
hears_becomes false true entries said before mid after same is h calm short = absurd (false≢true same)
hears_becomes false false entries said before mid after same is h calm short = inl (calm_then before mid after (calm_same before mid h) calm, is)

becomes : (flight : Flight Ticket) (first : Option (Slot Ticket)) (told : Option Hearing) (heard : Option Heard) (item : Item) (verdict : Option Verdict) (error : ℕ) (bytes : List ℕ) (said : List Extent) (before after : Seen) →
    first_tells first ≡ true → (is_some told ≡ true → is_some heard ≡ true) → IsSaid told said → OneByOne Files before (map call_of (first_acts first told heard ++ end_acts flight item verdict error bytes)) after → after.short ≡ false → Becomes before after said
becomes flight None told heard item verdict error bytes said before after tells some is files short = absurd (false≢true tells)
becomes flight (Some slot) None heard item verdict error bytes said before after tells some is files short = inl (calm_all _ before after files (end_quiet flight item verdict error bytes), is)
becomes flight (Some slot) (Some told) None item verdict error bytes said before after tells some is files short = absurd (false≢true (some refl))
becomes flight (Some slot) (Some (hearing_of.Chunk b offset status e)) (Some heard) item verdict error bytes said before after tells some is files short =
    inl (calm_then before files.0 after (calm_same before files.0 files.1.0.1) (calm_all _ files.0 after files.1.1 (end_quiet flight item verdict error bytes)), is)
becomes flight (Some slot) (Some (hearing_of.Extents context offset entries e)) (Some heard) item verdict error bytes said before after tells some is files short =
    hears_becomes (is_map slot.callback context.name) (bytes_eq context.name (codes "base:allocation")) entries said before files.0 after (map_is slot.callback context.name tells) is files.1.0.1
    (calm_all _ files.0 after files.1.1 (end_quiet flight item verdict error bytes)) short

next_some : (b : Bool) (answers : List Answer) → b ≡ true → is_some (next_heard b answers) ≡ true
next_some false answers e = e
next_some true [] e = refl
next_some true (Hears heard ∷ answers) e = refl
next_some true (Decides verdict ∷ answers) e = refl

first_some : (first : Option (Slot Ticket)) (told : Option Hearing) → first_tells first ≡ true → is_some told ≡ true → (is_some told && is_some first) ≡ true
first_some None told tells some = absurd (false≢true tells)
first_some (Some slot) told tells some = ap (λ b. b && true) some

-- what an item tells is what is heard of it, where it has no fault
status_said : (contexts : List MetaContext) (found : Option MetaContext) (offset error : ℕ) (entries : List Extent) → IsSaid (extents_heard found offset entries error) (if is_allocation found then entries else [])
status_said contexts None offset error entries = refl
status_said contexts (Some context) offset error entries = refl

error_said : (b : Bool) (offset number : ℕ) → IsSaid (if b then Some (hearing_of.Chunk [] offset 3 number) else None) []
error_said true offset number = refl
error_said false offset number = refl

content_said : (query : Query) (contexts : List MetaContext) (error : ℕ) (content : Content) → IsSaid (content_heard query contexts error content) (extents_in contexts content)
content_said query contexts error (Data offset bytes) = refl
content_said query contexts error (Hole offset size) = refl
content_said query contexts error (Status id descriptors) = status_said contexts (context_of id contexts) query.offset error descriptors
content_said query contexts error (Error number) = refl
content_said query contexts error (ErrorAt number offset) = error_said (is_read query.kind) offset _
content_said query contexts error Nothing = refl
content_said query contexts error Bare = refl

or_none : (a b : Option Failure) → or_else a b ≡ None → (a ≡ None) × (b ≡ None)
or_none None b e = (refl, e)
or_none (Some f) b e = absurd (cc e)

-- where a command has not failed, it had not before, and what came last is no failure
fails_before : (query : Query) (piece : Piece) (earlier : List Piece) → failure query (piece ∷ earlier) ≡ None → (failure query earlier ≡ None) × (item_failure query earlier piece.contexts piece.item ≡ None)
fails_before query piece earlier e =
    let item : Option Failure = item_failure query earlier piece.contexts piece.item in
    let rest = or_none (or_else (or_else (failure query earlier) item) (failing from.Callback piece.heard)) (lack_failure query earlier piece) e in
    or_none (failure query earlier) item (or_none (or_else (failure query earlier) item) (failing from.Callback piece.heard) rest.0).0

item_said : (query : Query) (earlier : List Piece) (contexts : List MetaContext) (item : Item) → item_failure query earlier contexts item ≡ None → IsSaid (hearing query earlier contexts item) (extents_in contexts (content_of item))
item_said query earlier contexts (Framed content last) e = go (has_fault query earlier contexts content) e
  where
    go : (b : Bool) → (if b then failing from.Content EPROTO else failing from.Told (error_of (number_of content))) ≡ None → IsSaid (if b then None else content_heard query contexts (error_number (failure query earlier)) content) (extents_in contexts content)
    go true k = absurd (cc k)
    go false k = content_said query contexts (error_number (failure query earlier)) content
item_said query earlier contexts Lost e = refl
item_said query earlier contexts Dropped e = refl

-- What is said of positions.

-- no extents say anything
-- What is over stays as it is.

module _ {K : Type 0} where
  own_over : (before : History K) (event : Event K) (c : ℕ) → is_ended (own c (reading before).known.entries) ≡ true → own c (reading (event ∷ before)).known.entries ≡ own c (reading before).known.entries
  own_over before event c over =
      event_keeps before (λ entries. own c entries ≡ own c (reading before).known.entries) (λ item. Unit {0}) same (λ item. tt) (λ flight entries h. h) (λ entries h. h) event refl
    where
      same : (asks : Request K) (k : ℕ) (item : Item) (contexts : List MetaContext) (answers : List Answer) (entries : List (Entry K)) → Unit {0} → request before k ≡ Some asks → is_ended (own k entries) ≡ false → own c entries ≡ own c (reading before).known.entries →
          own c (Filed (filing_of asks k (own k entries) contexts item answers) ∷ entries) ≡ own c (reading before).known.entries
      same asks k item contexts answers entries any there going h = go (cases_eq k c)
        where
          go : (k ≡ c) ⊎ (k ≡ c → ⊥) → own c (Filed (filing_of asks k (own k entries) contexts item answers) ∷ entries) ≡ own c (reading before).known.entries
          go (inl e) = absurd (false≢true (sym going ∙ ap (λ x. is_ended (own x entries)) e ∙ ap is_ended h ∙ over))
          go (inr differ) = own_other c (filing_of asks k (own k entries) contexts item answers) entries differ ∙ h

-- one request's own entries, with what was asked
module _ (known : (block p : ℕ) → Bool) (reach : ℕ → Bool) (c : ℕ) (q : Request Ticket) where
  -- a history that tells the same of a command
  heard_same : (one other : History Ticket) → request one c ≡ Some q → request other c ≡ Some q → own c (reading other).known.entries ≡ own c (reading one).known.entries → IsHeard one known reach c q → IsHeard other known reach c q
  heard_same one other was is same h = record {
    over = ap is_ended same ∙ h.over;
    whole = λ d block p e. h.whole
        (record { bytes = d.bytes; is = outcome ∙ d.is }) block p
        (ap (λ (f : ℕ → Bool). is_whole block (λ r. within (q.offset, q.length) r && f r) p) (λ i r. zeros r i) ∙ e);
    reached = λ d p e. h.reached (record { bytes = d.bytes; is = outcome ∙ d.is }) p (ap (λ (b : Bool). within (q.offset, q.length) p && b) (saids p) ∙ e);
  }
    where
      outcome : outcome_after one c ≡ outcome_after other c
      outcome = ap (λ a. outcome_of a (own c (reading one).known.entries)) (was ∙ sym is) ∙ ap (outcome_of (request other c)) (sym same)

      zeros : (r : ℕ) → zero_after one c r ≡ zero_after other c r
      zeros r = ap (λ a. zero_told a (own c (reading one).known.entries) r) (was ∙ sym is) ∙ ap (λ l. zero_told (request other c) l r) (sym same)

      saids : (r : ℕ) → said_after is_told one c r ≡ said_after is_told other c r
      saids r = ap (λ a. said_of is_told a (own c (reading one).known.entries) r) (was ∙ sym is) ∙ ap (λ l. said_of is_told (request other c) l r) (sym same)

  heard_stays : (before : History Ticket) (event : Event Ticket) → request before c ≡ Some q → IsHeard before known reach c q → IsHeard (event ∷ before) known reach c q
  heard_stays before event is h = heard_same before (event ∷ before) is (asked_stays before event c q is) (own_over before event c h.over) h

module _ (link : ℕ) (event : Event Ticket) (histories histories2 : Histories) (known : (block p : ℕ) → Bool) (reach : ℕ → Bool) (happens : Happens link event histories histories2) where
  heard_at : (other c : ℕ) (q : Request Ticket) → request (histories other) c ≡ Some q → IsHeard (histories other) known reach c q → IsHeard (histories2 other) known reach c q
  heard_at other c q is h = at link event histories histories2 happens other (λ x. (request x c ≡ Some q) × IsHeard x known reach c q) (λ x. IsHeard x known reach c q) (λ x b. heard_stays known reach c q x event b.0 b.1) (λ x b. b.1) (is, h)

  all_heard : asks_extents event ≡ false → AllHeard histories known reach → AllHeard histories2 known reach
  all_heard none all other c q is tells = let was = told_at link event histories histories2 happens none other c q tells is in heard_at other c q was (all other c q was tells)

-- On the link of the command that is waited for.

module _ (history : History Ticket) (k : ℕ) (asks : Request Ticket) (start : ℕ) (is_k : request history k ≡ Some asks) (starts : asks.offset ≡ start) (first : first_tells asks.flight.first ≡ true) where
  abbrev Held : List (Filing Ticket) → Seen → Type 0
  Held filings now = now.short ≡ false → failure_in asks filings ≡ None → (test : Option ℕ → Bool) → test None ≡ false → (p : ℕ) → said_of test (Some asks) filings p ≡ true → said_in test start now.told p ≡ true

  record Awaits (entries : List (Entry Ticket)) (now : Seen) : Type 0 where
    others : (c : ℕ) (q : Request Ticket) → request history c ≡ Some q → tells_extents q.flight ≡ true → (c ≡ k) ⊎ (is_ended (own c entries) ≡ true)
    held : Held (own k entries) now

  or_cases : (a b : Bool) → (a || b) ≡ true → (a ≡ true) ⊎ (b ≡ true)
  or_cases true b e = inl refl
  or_cases false b e = inr e

  held_calm : (filings : List (Filing Ticket)) (before after : Seen) → IsCalm before after → Held filings before → Held filings after
  held_calm filings before after calm held short none test blank p z = ap (λ (l : List Extent). said_in test start l p) calm.told ∙ held (sym calm.short ∙ short) none test blank p z

  -- a frame of its answer comes
  module _ (item : Item) (contexts : List MetaContext) (answers : List Answer) (filings : List (Filing Ticket)) (before after : Seen) where
    abbrev f : Filing Ticket
    f = filing_of asks k filings contexts item answers

    held_here : OneByOne Files before (map call_of (acts_of f filings)) after → Held filings before → Held (f ∷ filings) after
    held_here files held short none test blank p z = go became
      where
        items : (failure_in asks filings ≡ None) × (item_failure (query_of asks) (pieces filings) contexts item ≡ None)
        items = fails_before (query_of asks) (piece_of f) (pieces filings) none

        said : IsSaid (hearing_in asks filings contexts item) (extents_in contexts (content_of item))
        said = item_said (query_of asks) (pieces filings) contexts item items.1

        became : Becomes before after (extents_in contexts (content_of item))
        became = becomes asks.flight asks.flight.first (hearing_in asks filings contexts item) f.heard item f.verdict (error_in asks (f ∷ filings)) (bytes_in asks (f ∷ filings)) (extents_in contexts (content_of item)) before after first
            (λ some. next_some (hears asks.flight (hearing_in asks filings contexts item)) answers (first_some asks.flight.first (hearing_in asks filings contexts item) first some)) said files short

        go : Becomes before after (extents_in contexts (content_of item)) → said_in test start after.told p ≡ true
        go (inl calm) = elim (or_cases (said_in test asks.offset (extents_in contexts (content_of item)) p) (said_by test asks.offset (pieces filings) p) z) [
          | inl e ↦ absurd (none_said test blank asks.offset p (ap (λ (l : List Extent). said_in test asks.offset l p) (sym calm.1) ∙ e))
          | inr e ↦ held_calm filings before after calm.0 held short items.0 test blank p e
        ]
        go (inr now) = elim (or_cases (said_in test asks.offset (extents_in contexts (content_of item)) p) (said_by test asks.offset (pieces filings) p) z) [
          | inl e ↦ ap (λ (l : List Extent). said_in test start l p) now.1 ∙ ap (λ (n : ℕ). said_in test n (extents_in contexts (content_of item)) p) (sym starts) ∙ e
          | inr e ↦ absurd (none_said test blank start p (ap (λ (l : List Extent). said_in test start l p) (sym now.0) ∙ held (now.2 ∙ short) items.0 test blank p e))
        ]

  some_same : (one other : Request Ticket) → Some one ≡ Some other → one ≡ other
  some_same one other e = cc

  awaits_filed : (q : Request Ticket) (c : ℕ) (item : Item) (contexts : List MetaContext) (answers : List Answer) (entries : List (Entry Ticket)) (before after : Seen) → request history c ≡ Some q → is_ended (own c entries) ≡ false → Awaits entries before →
      OneByOne Files before (map call_of (acts_of (filing_of q c (own c entries) contexts item answers) (own c entries))) after → Awaits (Filed (filing_of q c (own c entries) contexts item answers) ∷ entries) after
  awaits_filed q c item contexts answers entries before after is going r files = record { others = others_now; held = go (cases_eq c k) }
    where
      others_now : (d : ℕ) (other : Request Ticket) → request history d ≡ Some other → tells_extents other.flight ≡ true → (d ≡ k) ⊎ (is_ended (own d (Filed (filing_of q c (own c entries) contexts item answers) ∷ entries)) ≡ true)
      others_now d other there tells = elim (r.others d other there tells) [ inl e ↦ inl e | inr e ↦ inr (ended_more d (filing_of q c (own c entries) contexts item answers) entries e) ]

      -- for the command itself
      own_k : OneByOne Files before (map call_of (acts_of (filing_of asks k (own k entries) contexts item answers) (own k entries))) after → Held (own k (Filed (filing_of asks k (own k entries) contexts item answers) ∷ entries)) after
      own_k files' = subst (λ l. Held l after) (sym (own_same (filing_of asks k (own k entries) contexts item answers) entries)) (held_here item contexts answers (own k entries) before after files' r.held)

      deaf : c ≢ k → tells_extents q.flight ≡ false
      deaf differ = none (tells_extents q.flight) refl
        where
          none : (b : Bool) → tells_extents q.flight ≡ b → tells_extents q.flight ≡ false
          none false e = e
          none true e = elim (r.others c q is e) [ inl same ↦ absurd (differ same) | inr over ↦ absurd (false≢true (sym going ∙ over)) ]

      first_deaf : (a b : Bool) → (a || b) ≡ false → a ≡ false
      first_deaf true b e = e
      first_deaf false b e = refl

      calm : c ≢ k → IsCalm before after
      calm differ = calm_all _ before after files (deaf_quiet q.flight q.flight.first (hearing_in q (own c entries) contexts item) _ item _ _ _ (first_deaf (first_tells q.flight.first) _ (deaf differ)))

      go : (c ≡ k) ⊎ (c ≡ k → ⊥) → Held (own k (Filed (filing_of q c (own c entries) contexts item answers) ∷ entries)) after
      go (inl same) =
          let q_is : asks ≡ q = some_same asks q (sym is_k ∙ ap (request history) (sym same) ∙ is) in
          subst (λ (d : ℕ). OneByOne Files before (map call_of (acts_of (filing_of q d (own d entries) contexts item answers) (own d entries))) after → Held (own k (Filed (filing_of q d (own d entries) contexts item answers) ∷ entries)) after) (sym same)
          (subst (λ (asked : Request Ticket). OneByOne Files before (map call_of (acts_of (filing_of asked k (own k entries) contexts item answers) (own k entries))) after → Held (own k (Filed (filing_of asked k (own k entries) contexts item answers) ∷ entries)) after) q_is own_k) files
      go (inr differ) = subst (λ l. Held l after) (sym (own_other k (filing_of q c (own c entries) contexts item answers) entries differ)) (held_calm (own k entries) before after (calm differ) r.held)

  awaits_freed : (flight : Flight Ticket) (entries : List (Entry Ticket)) (before after : Seen) → Awaits entries before → OneByOne Files before (map call_of (free_acts flight)) after → Awaits (Freed flight ∷ entries) after
  awaits_freed flight entries before after r files = record { others = r.others; held = held_calm (own k entries) before after (calm_all _ before after files (frees_quiet flight)) r.held }

  awaits_after : (event : Event Ticket) (added : List (Call Ticket)) (before after : Seen) → Awaits (reading history).known.entries before → Adds event history added → OneByOne Files before added after → Awaits (reading (event ∷ history)).known.entries after
  awaits_after = along history Awaits awaits_filed awaits_freed (λ entries now r. record { others = r.others; held = r.held })

-- On another link.

module _ (history : History Ticket) (start : Seen) where
  record Calms (entries : List (Entry Ticket)) (now : Seen) : Type 0 where
    others : (c : ℕ) (q : Request Ticket) → request history c ≡ Some q → tells_extents q.flight ≡ true → is_ended (own c entries) ≡ true
    calm : IsCalm start now

  calms_filed : (q : Request Ticket) (c : ℕ) (item : Item) (contexts : List MetaContext) (answers : List Answer) (entries : List (Entry Ticket)) (before after : Seen) → request history c ≡ Some q → is_ended (own c entries) ≡ false → Calms entries before →
      OneByOne Files before (map call_of (acts_of (filing_of q c (own c entries) contexts item answers) (own c entries))) after → Calms (Filed (filing_of q c (own c entries) contexts item answers) ∷ entries) after
  calms_filed q c item contexts answers entries before after is going r files = record {
    others = λ d other there tells. ended_more d (filing_of q c (own c entries) contexts item answers) entries (r.others d other there tells);
    calm = calm_then start before after r.calm (calm_all _ before after files (deaf_quiet q.flight q.flight.first (hearing_in q (own c entries) contexts item) _ item _ _ _ (first_deaf (first_tells q.flight.first) _ (deaf (tells_extents q.flight) refl))));
  }
    where
      deaf : (b : Bool) → tells_extents q.flight ≡ b → tells_extents q.flight ≡ false
      deaf false e = e
      deaf true e = absurd (false≢true (sym going ∙ r.others c q is e))

      first_deaf : (a b : Bool) → (a || b) ≡ false → a ≡ false
      first_deaf true b e = e
      first_deaf false b e = refl

  calms_freed : (flight : Flight Ticket) (entries : List (Entry Ticket)) (before after : Seen) → Calms entries before → OneByOne Files before (map call_of (free_acts flight)) after → Calms (Freed flight ∷ entries) after
  calms_freed flight entries before after r files = record { others = r.others; calm = calm_then start before after r.calm (calm_all _ before after files (frees_quiet flight)) }

  calms_after : (event : Event Ticket) (added : List (Call Ticket)) (before after : Seen) → Calms (reading history).known.entries before → Adds event history added → OneByOne Files before added after → Calms (reading (event ∷ history)).known.entries after
  calms_after = along history Calms calms_filed calms_freed (λ entries now r. record { others = r.others; calm = r.calm })

-- Several handles.

module _ (link : ℕ) (event : Event Ticket) (histories histories2 : Histories) (known : (block p : ℕ) → Bool) (reach : ℕ → Bool) (happens : Happens link event histories histories2) (range : ℕ × ℕ) (before : Seen) (m : IsAwaited histories range known reach before) where
  -- What was asked else is heard still; and so the command is waited for, where the board holds what it told.
  still_awaited : asks_extents event ≡ false → (after : Seen) →
      (after.short ≡ false → failure_in m.asks (own m.cookie (reading (histories2 m.link)).known.entries) ≡ None → (test : Option ℕ → Bool) → test None ≡ false → (p : ℕ) → said_after test (histories2 m.link) m.cookie p ≡ true → said_in test range.0 after.told p ≡ true) → IsAwaited histories2 range known reach after
  still_awaited none after held = record {
    link = m.link;
    cookie = m.cookie;
    asks = m.asks;
    asked = asked_at link event histories histories2 happens m.link m.cookie m.asks m.asked;
    first = m.first;
    offset = m.offset;
    length_ = m.length_;
    others = λ link' cookie' other is tells.
        let was = told_at link event histories histories2 happens none link' cookie' other tells is in
        elim (m.others link' cookie' other was tells) [ inl same ↦ inl same | inr h ↦ inr (heard_at link event histories histories2 known reach happens link' cookie' other was h) ];
    held = held;
  }

  -- the same of what the board holds, by the entries alone
  was_held : (filings : List (Filing Ticket)) (a : Option (Request Ticket)) → a ≡ Some m.asks → (now : Seen) →
      (now.short ≡ false → failure_in m.asks filings ≡ None → (test : Option ℕ → Bool) → test None ≡ false → (p : ℕ) → said_of test (Some m.asks) filings p ≡ true → said_in test range.0 now.told p ≡ true) →
      now.short ≡ false → failure_in m.asks filings ≡ None → (test : Option ℕ → Bool) → test None ≡ false → (p : ℕ) → said_of test a filings p ≡ true → said_in test range.0 now.told p ≡ true
  was_held filings a is now held short none test blank p z = held short none test blank p (ap (λ o. said_of test o filings p) (sym is) ∙ z)

  is_held : (filings : List (Filing Ticket)) (a : Option (Request Ticket)) → a ≡ Some m.asks → (now : Seen) →
      (now.short ≡ false → failure_in m.asks filings ≡ None → (test : Option ℕ → Bool) → test None ≡ false → (p : ℕ) → said_of test a filings p ≡ true → said_in test range.0 now.told p ≡ true) →
      now.short ≡ false → failure_in m.asks filings ≡ None → (test : Option ℕ → Bool) → test None ≡ false → (p : ℕ) → said_of test (Some m.asks) filings p ≡ true → said_in test range.0 now.told p ≡ true
  is_held filings a is now held short none test blank p z = held short none test blank p (ap (λ o. said_of test o filings p) is ∙ z)

  module _ (other : is_issue event ≡ false) (added : List (Call Ticket)) (after : Seen) (adds : Adds event (histories link) added) (files : OneByOne Files before added after) where
    now_asked : request (histories2 m.link) m.cookie ≡ Some m.asks
    now_asked = asked_at link event histories histories2 happens m.link m.cookie m.asks m.asked

    comes_here : link ≡ m.link → IsAwaited histories2 range known reach after
    comes_here same = still_awaited (not_issued event other) after (was_held (own m.cookie (reading (histories2 m.link)).known.entries) (request (histories2 m.link) m.cookie) now_asked after
        (subst (λ (h : History Ticket). after.short ≡ false → failure_in m.asks (own m.cookie (reading h).known.entries) ≡ None → (test : Option ℕ → Bool) → test None ≡ false → (p : ℕ) → said_of test (Some m.asks) (own m.cookie (reading h).known.entries) p ≡ true → said_in test range.0 after.told p ≡ true) (sym there) a.held))
      where
        there : histories2 m.link ≡ event ∷ histories link
        there = ap histories2 (sym same) ∙ happens.here

        here_asked : request (histories link) m.cookie ≡ Some m.asks
        here_asked = ap (λ x. request (histories x) m.cookie) same ∙ m.asked

        here_others : (c : ℕ) (q : Request Ticket) → request (histories link) c ≡ Some q → tells_extents q.flight ≡ true → (c ≡ m.cookie) ⊎ (is_ended (own c (reading (histories link)).known.entries) ≡ true)
        here_others c q is tells = elim (m.others link c q is tells) [ inl e ↦ inl e.1 | inr h ↦ inr h.over ]

        here_held : before.short ≡ false → failure_in m.asks (own m.cookie (reading (histories link)).known.entries) ≡ None → (test : Option ℕ → Bool) → test None ≡ false → (p : ℕ) → said_of test (Some m.asks) (own m.cookie (reading (histories link)).known.entries) p ≡ true → said_in test range.0 before.told p ≡ true
        here_held = subst (λ (x : ℕ). before.short ≡ false → failure_in m.asks (own m.cookie (reading (histories x)).known.entries) ≡ None → (test : Option ℕ → Bool) → test None ≡ false → (p : ℕ) → said_of test (Some m.asks) (own m.cookie (reading (histories x)).known.entries) p ≡ true → said_in test range.0 before.told p ≡ true)
            (sym same) (is_held (own m.cookie (reading (histories m.link)).known.entries) (request (histories m.link) m.cookie) m.asked before m.held)

        a : Awaits (histories link) m.cookie m.asks range.0 here_asked m.offset m.first (reading (event ∷ histories link)).known.entries after
        a = awaits_after (histories link) m.cookie m.asks range.0 here_asked m.offset m.first event added before after (record { others = here_others; held = here_held }) adds files

    comes_beside : (link ≡ m.link → ⊥) → IsAwaited histories2 range known reach after
    comes_beside differ = still_awaited (not_issued event other) after
        (λ short none test blank p z. ap (λ (l : List Extent). said_in test range.0 l p) u.calm.told
        ∙ m.held (sym u.calm.short ∙ short) (ap (λ (h : History Ticket). failure_in m.asks (own m.cookie (reading h).known.entries)) (sym still) ∙ none) test blank p (ap (λ (h : History Ticket). said_after test h m.cookie p) (sym still) ∙ z))
      where
        still : histories2 m.link ≡ histories m.link
        still = happens.others m.link (λ e. differ (sym e))

        beside_others : (c : ℕ) (q : Request Ticket) → request (histories link) c ≡ Some q → tells_extents q.flight ≡ true → is_ended (own c (reading (histories link)).known.entries) ≡ true
        beside_others c q is tells = elim (m.others link c q is tells) [ inl e ↦ absurd (differ e.0) | inr h ↦ h.over ]

        u : Calms (histories link) before (reading (event ∷ histories link)).known.entries after
        u = calms_after (histories link) before event added before after (record { others = beside_others; calm = record { told = refl; short = refl } }) adds files

    comes : IsAwaited histories2 range known reach after
    comes = elim (cases_eq link m.link) [ inl same ↦ comes_here same | inr differ ↦ comes_beside differ ]

-- What neither asks nor brings bytes files nothing but that the handle was closed.

module _ (before : History Ticket) (k : ℕ) (asks : Request Ticket) (Z : (test : Option ℕ → Bool) → ℕ → Type 0) where
  abbrev Says : List (Filing Ticket) → Type 0
  Says filings = failure_in asks filings ≡ None → (test : Option ℕ → Bool) → test None ≡ false → (p : ℕ) → said_of test (Some asks) filings p ≡ true → Z test p

  drop_says : (f : Filing Ticket) (filings : List (Filing Ticket)) → f.item ≡ Dropped → Says filings → Says (f ∷ filings)
  drop_says f filings is says none test blank p z =
      let items = fails_before (query_of asks) (piece_of f) (pieces filings) none in
      elim (or_either (said_in test asks.offset (extents_in f.contexts (content_of f.item)) p) (said_by test asks.offset (pieces filings) p) z) [
        | inl e ↦ absurd (none_said test blank asks.offset p (ap (λ (i : Item). said_in test asks.offset (extents_in f.contexts (content_of i)) p) (sym is) ∙ e))
        | inr e ↦ says items.0 test blank p e
      ]
    where
      or_either : (a b : Bool) → (a || b) ≡ true → (a ≡ true) ⊎ (b ≡ true)
      or_either true b e = inl refl
      or_either false b e = inr e

  drops : (q : Request Ticket) (c : ℕ) (item : Item) (contexts : List MetaContext) (answers : List Answer) (entries : List (Entry Ticket)) → item ≡ Dropped → request before c ≡ Some q → is_ended (own c entries) ≡ false → Says (own k entries) →
      Says (own k (Filed (filing_of q c (own c entries) contexts item answers) ∷ entries))
  drops q c item contexts answers entries is there going says =
      elim (c == k) as (λ b. Says (if b then filing_of q c (own c entries) contexts item answers ∷ own k entries else own k entries)) [
        | true ↦ drop_says (filing_of q c (own c entries) contexts item answers) (own k entries) is says
        | false ↦ says
      ]

  quiet_says : (event : Event Ticket) → is_coming event ≡ false → Says (own k (reading before).known.entries) → Says (own k (reading (event ∷ before)).known.entries)
  quiet_says (Set setting) e p = p
  quiet_says (StrictMode bits) e p = p
  quiet_says Start e p = p
  quiet_says (Opt option) e p = p
  quiet_says Abort e p = p
  quiet_says (Issue command) e p = p
  quiet_says (Refuse command why) e p = p
  quiet_says Disconnect e p = p
  quiet_says (Wrote n) e p = p
  quiet_says (Arrived bytes answers) e p = absurd (false≢true (sym e))
  quiet_says (End answers) e p = absurd (false≢true (sym e))
  quiet_says (LinkFailed answers) e p = absurd (false≢true (sym e))
  quiet_says (Retire cookie) e p = p
  quiet_says ClearLog e p = p
  quiet_says Close e p = closed_keeps before (λ entries. Says (own k entries)) (λ item. item ≡ Dropped) drops (with_answers [] (reading before).known) refl p

module _ (link : ℕ) (event : Event Ticket) (histories histories2 : Histories) (known : (block p : ℕ) → Bool) (reach : ℕ → Bool) (happens : Happens link event histories histories2) (range : ℕ × ℕ) (before after : Seen) (m : IsAwaited histories range known reach before)
    (quiet : is_coming event ≡ false) (alike : ToldAlike before after) where
  abbrev HeldBy : Seen → History Ticket → Type 0
  HeldBy now h = now.short ≡ false → failure_in m.asks (own m.cookie (reading h).known.entries) ≡ None → (test : Option ℕ → Bool) → test None ≡ false → (p : ℕ) → said_after test h m.cookie p ≡ true → said_in test range.0 now.told p ≡ true

  held_moved : (h : History Ticket) → (request h m.cookie ≡ Some m.asks) × HeldBy before h → HeldBy after (event ∷ h)
  held_moved h was some none test blank p z =
      ap (λ (l : List Extent). said_in test range.0 l p) alike.told
      ∙ quiet_says h m.cookie m.asks (λ other r. said_in other range.0 before.told r ≡ true) event quiet
      (λ none' other blank' r z'. was.1 (sym alike.short ∙ some) none' other blank' r (ap (λ a. said_of other a (own m.cookie (reading h).known.entries) r) was.0 ∙ z'))
      none test blank p (ap (λ a. said_of test a (own m.cookie (reading (event ∷ h)).known.entries) p) (sym (asked_stays h event m.cookie m.asks was.0)) ∙ z)

  held_still : (h : History Ticket) → (request h m.cookie ≡ Some m.asks) × HeldBy before h → HeldBy after h
  held_still h was some none test blank p z = ap (λ (l : List Extent). said_in test range.0 l p) alike.told ∙ was.1 (sym alike.short ∙ some) none test blank p z

  others_awaited : asks_extents event ≡ false → IsAwaited histories2 range known reach after
  others_awaited none = still_awaited link event histories histories2 known reach happens range before m none after
      (at link event histories histories2 happens m.link (λ h. (request h m.cookie ≡ Some m.asks) × HeldBy before h) (HeldBy after) held_moved held_still (m.asked, m.held))

-- Extents are asked for.

module _ (link : ℕ) (command : Command Ticket) (range : ℕ × ℕ) (histories histories2 : Histories) (known : (block p : ℕ) → Bool) (reach : ℕ → Bool) (after : Seen) (all : AllHeard histories known reach) (listens : ListensTo range command) (happens : Happens link (Issue command) histories histories2) where
  abbrev next : ℕ
  next = (asked (histories link)).issued + 1

  there : histories2 link ≡ Issue command ∷ histories link
  there = happens.here

  abbrev asked_now : Request Ticket
  asked_now = commands.request_of (asked (histories link)).admitted command

  none_filed : own next (reading (histories2 link)).known.entries ≡ []
  none_filed = ap (λ (h : History Ticket). own next (reading h).known.entries) there ∙ unfiled (histories link) next (request_past (histories link) next (omega arith))

  next_asked : request (histories2 link) next ≡ Some asked_now
  next_asked = ap (λ (h : History Ticket). request h next) there ∙ next_here (histories link) command next refl

  others_heard : (link' cookie' : ℕ) (other : Request Ticket) → request (histories2 link') cookie' ≡ Some other → tells_extents other.flight ≡ true → ((link' ≡ link) × (cookie' ≡ next)) ⊎ IsHeard (histories2 link') known reach cookie' other
  others_heard link' cookie' other is tells = on (cases_eq link link')
    where
      was_heard : request (histories link') cookie' ≡ Some other → IsHeard (histories2 link') known reach cookie' other
      was_heard was = heard_at link (Issue command) histories histories2 known reach happens link' cookie' other was (all link' cookie' other was tells)

      here : (link ≡ link') → (next ≡ cookie') ⊎ (next ≡ cookie' → ⊥) → ((link' ≡ link) × (cookie' ≡ next)) ⊎ IsHeard (histories2 link') known reach cookie' other
      here same (inl e) = inl (sym same, sym e)
      here same (inr d) = inr (was_heard (ap (λ x. request (histories x) cookie') (sym same) ∙ sym (next_beside (histories link) command cookie' d) ∙ ap (λ (h : History Ticket). request h cookie') (sym there) ∙ ap (λ x. request (histories2 x) cookie') same ∙ is))

      on : (link ≡ link') ⊎ (link ≡ link' → ⊥) → ((link' ≡ link) × (cookie' ≡ next)) ⊎ IsHeard (histories2 link') known reach cookie' other
      on (inl same) = here same (cases_eq next cookie')
      on (inr differ) = inr (was_heard (ap (λ (h : History Ticket). request h cookie') (sym (happens.others link' (λ e. differ (sym e)))) ∙ is))

  asking : IsAwaited histories2 range known reach after
  asking = record {
    link = link;
    cookie = next;
    asks = asked_now;
    asked = next_asked;
    first = ap (λ (o : Option Ticket). first_tells (commands.flight_of (asked (histories link)).admitted o command.done).first) listens.first;
    offset = listens.asks.offset;
    length_ = listens.asks.length_;
    others = others_heard;
    held = λ short none test blank p z. absurd (false≢true (ap (λ l. said_of test (Some asked_now) l p) (sym none_filed) ∙ ap (λ a. said_of test a (own next (reading (histories2 link)).known.entries) p) (sym next_asked) ∙ z));
  }

-- They are heard.

done_fails : (asks : Request Ticket) (filings : List (Filing Ticket)) (bytes : List ℕ) → NoneFailed filings → outcome_of (Some asks) filings ≡ Done bytes → failure_in asks filings ≡ None
done_fails asks filings bytes well e = ap (failure (query_of asks)) (sym (heard_alike filings well)) ∙ go (is_completed (silent_pieces filings)) (failure (query_of asks) (silent_pieces filings)) _ e
  where
    go : (b : Bool) (o : Option Failure) (all : List ℕ) → (if b then verdict o all else Unfinished) ≡ Done bytes → o ≡ None
    go true None all k = refl
    go true (Some one) all k = absurd (cc k)
    go false o all k = absurd (cc k)

module _ (sources : ℕ → Bool) (histories : Histories) (range : ℕ × ℕ) (known known' : (block p : ℕ) → Bool) (reach reach' : ℕ → Bool) (now : Seen) (m : IsAwaited histories range known reach now) (maps : Maps sources histories (Some range) now) (well : (link : ℕ) → NoneFails (reading (histories link)).known.entries)
    (mapped : now.mapped ≡ true) (short : now.short ≡ false) (more : (block p : ℕ) → known block p ≡ true → known' block p ≡ true) (holds : (block p : ℕ) → holds_whole range now block p ≡ true → known' block p ≡ true)
    (further : (p : ℕ) → reach p ≡ true → reach' p ≡ true) (reaches : (p : ℕ) → holds_told range now p ≡ true → reach' p ≡ true) where
  or_true : (a b : Bool) → a ≡ true → (a || b) ≡ true
  or_true true b e = refl
  or_true false b e = absurd (false≢true e)

  heard_one : IsHeard (histories m.link) known' reach' m.cookie m.asks
  heard_one = record {
    over = done_over (histories m.link) m.cookie m.asks m.asked ((hearing_maps sources histories range now maps mapped).0 m.link m.cookie m.asks m.asked (or_true (first_tells m.asks.flight.first) _ m.first));
    whole = λ d block p e. holds block p (all_intro (λ q. within range q && zero_in range.0 now.told q) (p / block * block) block (λ q low high. zeroed d q (all_elim (zero_asked (histories m.link) m.cookie m.asks) (p / block * block) block e q low high)));
    reached = λ d p e. reaches p (told is_told refl d p e);
  }
    where
      told : (test : Option ℕ → Bool) → test None ≡ false → IsDone (outcome_after (histories m.link) m.cookie) → (q : ℕ) → (within (m.asks.offset, m.asks.length) q && said_after test (histories m.link) m.cookie q) ≡ true →
          (within range q && said_in test range.0 now.told q) ≡ true
      told test blank d q e =
          let parts = both (within (m.asks.offset, m.asks.length) q) (said_after test (histories m.link) m.cookie q) e in
          let fails = done_fails m.asks (own m.cookie (reading (histories m.link)).known.entries) d.bytes (own_well m.cookie (reading (histories m.link)).known.entries (well m.link))
          (ap (λ a. outcome_of a (own m.cookie (reading (histories m.link)).known.entries)) (sym m.asked) ∙ d.is) in
          let inside : within range q ≡ true = ap (λ (n : ℕ). within (n, range.1) q) (sym m.offset) ∙ ap (λ (n : ℕ). within (m.asks.offset, n) q) (sym m.length_) ∙ parts.0 in
          ap (λ (b : Bool). b && said_in test range.0 now.told q) inside ∙ m.held short fails test blank q parts.1
        where
          both : (a b : Bool) → (a && b) ≡ true → (a ≡ true) × (b ≡ true)
          both true b e = (refl, e)
          both false b e = absurd (false≢true e)

      zeroed : IsDone (outcome_after (histories m.link) m.cookie) → (q : ℕ) → zero_asked (histories m.link) m.cookie m.asks q ≡ true → (within range q && zero_in range.0 now.told q) ≡ true
      zeroed d q e =
          told is_zero refl d q
          (ap (λ (b : Bool). within (m.asks.offset, m.asks.length) q && b) (sym (zero_is (request (histories m.link) m.cookie) (own m.cookie (reading (histories m.link)).known.entries) q)) ∙ e)

  hears_all : AllHeard histories known' reach'
  hears_all link cookie asks is tells = elim (m.others link cookie asks is tells) [
    | inl same ↦
        let q : m.asks ≡ asks = some_same (sym m.asked ∙ ap (λ x. request (histories x) m.cookie) (sym same.0) ∙ ap (request (histories link)) (sym same.1) ∙ is) in
        subst (λ (x : ℕ). IsHeard (histories x) known' reach' cookie asks) (sym same.0) (subst (λ (x : ℕ). IsHeard (histories m.link) known' reach' x asks) (sym same.1) (subst (IsHeard (histories m.link) known' reach' m.cookie) q heard_one))
    | inr h ↦ record { over = h.over; whole = λ d block p e. more block p (h.whole d block p e); reached = λ d p e. further p (h.reached d p e) }
  ]
    where
      some_same : {one other : Request Ticket} → Some one ≡ Some other → one ≡ other
      some_same e = cc

-- The laws.

pub nothing_heeds : NothingHeeds
nothing_heeds known reach now link cookie asks is tells = absurd (none_some is)
  where
    none_some : None ≡ Some asks → ⊥
    none_some e = cc

pub coming_heeds : ComingHeeds
coming_heeds link event histories histories2 None known reach added before after m other happens adds files = all_heard link event histories histories2 known reach happens (not_issued event other) m
coming_heeds link event histories histories2 (Some range) known reach added before after m other happens adds files = comes link event histories histories2 known reach happens range before m other added after adds files

pub others_heed : OthersHeed
others_heed link event histories histories2 None known reach before after m none quiet happens alike = all_heard link event histories histories2 known reach happens none m
others_heed link event histories histories2 (Some range) known reach before after m none quiet happens alike = others_awaited link event histories histories2 known reach happens range before after m quiet alike none

pub asking_heeds : AskingHeeds
asking_heeds link command range histories histories2 known reach before after all listens happens = asking link command range histories histories2 known reach after all listens happens

pub hearing_heeds : HearingHeeds
hearing_heeds sources histories range known known' reach reach' now m maps well mapped short more holds further reaches =
    hears_all sources histories range known known' reach reach' now m maps well mapped short more holds further reaches

-- More is known.
pub heeds_more : (histories : Histories) (wanted : Option (ℕ × ℕ)) (known known' : (block p : ℕ) → Bool) (reach reach' : ℕ → Bool) (now : Seen) → ((block p : ℕ) → known block p ≡ true → known' block p ≡ true) → ((p : ℕ) → reach p ≡ true → reach' p ≡ true) → Heeds histories wanted known reach now → Heeds histories wanted known' reach' now
heeds_more histories None known known' reach reach' now more further m = λ link cookie asks is tells. (let h = m link cookie asks is tells in record { over = h.over; whole = λ d block p e. more block p (h.whole d block p e); reached = λ d p e. further p (h.reached d p e) })
heeds_more histories (Some range) known known' reach reach' now more further m = record {
  link = m.link;
  cookie = m.cookie;
  asks = m.asks;
  asked = m.asked;
  first = m.first;
  offset = m.offset;
  length_ = m.length_;
  others = λ link cookie other is tells. elim (m.others link cookie other is tells) [ inl same ↦ inl same | inr h ↦ inr (record { over = h.over; whole = λ d block p e. more block p (h.whole d block p e); reached = λ d p e. further p (h.reached d p e) }) ];
  held = m.held;
}
