-- Calls on callbacks: what they tell of one side's requests, and which calls one thing that is filed makes.
use Rattle.std.proofs.Common.{◌≡◌, ℕ, Bool, true, false, ◌&&◌, List, [], ◌∷◌, ◌++◌, map, Option, Some, None, is_some, refl, ap, sym, subst, ◌∙◌, inl, inr, ◌==◌, if◌then◌else◌}
use Rattle.std.proofs.lemmas.Bool.{false≢true}
use Rattle.std.proofs.lemmas.List.{map-append, append_assoc}
use Rattle.lnbd_keyed.specs.Keyed.{value_at}
use Rattle.lnbd_model.specs.declared.export.Extent.{Extent}
use Rattle.lnbd_callbacks.specs.Calls.{Call, Chunk, Extents, Complete, Free, heard_number}
use Rattle.lnbd_callbacks.specs.Slot.{Slot}
use Rattle.lnbd_callbacks.specs.Steps.{OneByOne}
use Rattle.lnbd_callbacks.specs.declared.caller.Heard.{Heard}
use Rattle.lnbd_callbacks.specs.declared.caller.Heard.TheVariants.{Going}
use Rattle.lnbd_callbacks.specs.declared.caller.Verdict.{Verdict}
use Rattle.lnbd_callbacks.specs.declared.caller.Verdict.TheVariants.{Retire}
use Rattle.lnbd_outcome.specs.Hearing.{Hearing}
use Rattle.lnbd_outcome.specs.Hearing as hearing
use Rattle.lnbd_history.specs.Commands.{Flight}
use Rattle.lnbd_history.specs.Entries.{Act, Item, Framed, Lost, Dropped, completes, heard_error, hears, call_of, act_of, first_acts, first_free_acts, free_acts, completion_acts, end_acts, filing_acts}
use Rattle.lnbd_history.specs.Entries as act
use Rattle.lnbd_history.specs.Events.{Answer, Hears, Decides}
use Rattle.lnbd_history.specs.History.{next_heard, next_verdict}
use Rattle.lnbd_board.specs.declared.ticket.Ticket.{Ticket}
use Rattle.lnbd_board.specs.declared.ticket.Ticket.TheVariants as ticket
use Rattle.lnbd_board.specs.Files.{Seen, rows_with, came_with, or_error, content_first, is_unfit, filed_done, is_map, Files}
use Rattle.lnbd_board.specs.Files as board
use Rattle.lnbd_board.specs.Requests.{Request, Each, Answers}
use Rattle.lnbd_board.specs.Turns.{Tells, TellAll}
use Rattle.lnbd_board.proofs.Lists.{Each-append}

-- what a call tells of the requests of one side
abbrev pub TellsOne : Call Ticket → (old new : List Request) → Type 0
TellsOne (Chunk by bytes offset status error heard) old new = new ≡ old
TellsOne (Extents by context offset entries error heard) old new = new ≡ old
TellsOne (Complete by error buf verdict) old new = error ≡ 0 → Answers by buf old new
TellsOne (Free by) old new = new ≡ old

abbrev pub TellsAll : List (Call Ticket) → (old new : List Request) → Type 0
TellsAll [] old new = new ≡ old
TellsAll (call ∷ calls) old new = (between : List Request) × (TellsOne call old between × TellsAll calls between new)

pub tells-append : (first second : List (Call Ticket)) (a b c : List Request) → TellsAll first a b → TellsAll second b c → TellsAll (first ++ second) a c
tells-append [] second a b c one two = subst (λ x. TellsAll second x c) one two
tells-append (call ∷ first) second a b c one two = (one.0, (one.1.0, tells-append first second one.0 b c one.1.1 two))

-- It is told of both sides, where nothing is told of the other one.

source_one : (call : Call Ticket) (old new other : List Request) → TellsOne call old new → Tells call old other new other
source_one (Chunk by bytes offset status error heard) old new other t = (t, refl)
source_one (Extents by context offset entries error heard) old new other t = (t, refl)
source_one (Complete by error buf verdict) old new other t = λ e. inl (t e, refl)
source_one (Free by) old new other t = (t, refl)

pub source_all : (calls : List (Call Ticket)) (old new other : List Request) → TellsAll calls old new → TellAll calls old other new other
source_all [] old new other t = (t, refl)
source_all (call ∷ calls) old new other t = (t.0, (other, (source_one call old t.0 other t.1.0, source_all calls t.0 new other t.1.1)))

destination_one : (call : Call Ticket) (old new other : List Request) → TellsOne call old new → Tells call other old other new
destination_one (Chunk by bytes offset status error heard) old new other t = (refl, t)
destination_one (Extents by context offset entries error heard) old new other t = (refl, t)
destination_one (Complete by error buf verdict) old new other t = λ e. inr (refl, t e)
destination_one (Free by) old new other t = (refl, t)

pub destination_all : (calls : List (Call Ticket)) (old new other : List Request) → TellsAll calls old new → TellAll calls other old other new
destination_all [] old new other t = (refl, t)
destination_all (call ∷ calls) old new other t = (other, (t.0, (destination_one call old t.0 other t.1.0, destination_all calls t.0 new other t.1.1)))

-- Calls that complete nothing.

abbrev pub IsQuiet : Call Ticket → Type 0
IsQuiet (Chunk by bytes offset status error heard) = Unit {0}
IsQuiet (Extents by context offset entries error heard) = Unit {0}
IsQuiet (Complete by error buf verdict) = ⊥
IsQuiet (Free by) = Unit {0}

quiet_one : (call : Call Ticket) (asked : List Request) → IsQuiet call → TellsOne call asked asked
quiet_one (Chunk by bytes offset status error heard) asked q = refl
quiet_one (Extents by context offset entries error heard) asked q = refl
quiet_one (Complete by error buf verdict) asked q = absurd q
quiet_one (Free by) asked q = refl

pub quiet_all : (calls : List (Call Ticket)) (asked : List Request) → Each IsQuiet calls → TellsAll calls asked asked
quiet_all [] asked q = refl
quiet_all (call ∷ calls) asked q = (asked, (quiet_one call asked q.0, quiet_all calls asked q.1))

-- Calls that are answered so that all is well.

abbrev pub IsWell : Call Ticket → Type 0
IsWell (Chunk by bytes offset status error heard) = heard ≡ Going
IsWell (Extents by context offset entries error heard) = heard ≡ Going
IsWell (Complete by error buf verdict) = Unit {0}
IsWell (Free by) = Unit {0}

well_one : (call : Call Ticket) (before after : Seen) → Files before call after → IsWell call
well_one (Chunk by bytes offset status error heard) before after f = f.0
well_one (Extents by context offset entries error heard) before after f = f.0
well_one (Complete by error buf verdict) before after f = tt
well_one (Free by) before after f = tt

-- as a board's are
pub files_well : (calls : List (Call Ticket)) (before after : Seen) → OneByOne Files before calls after → Each IsWell calls
files_well [] before after f = tt
files_well (call ∷ calls) before after f = (well_one call before f.0 f.1.0, files_well calls f.0 after f.1.1)

-- Where a board was told no error, it was told none before.

pub hears_error : (b : Bool) (entries : List Extent) (before after : Seen) → board.Hears b entries before after → after.error ≡ before.error
hears_error true entries before after (inl e) = ap (λ (s : Seen). s.error) e.1
hears_error true entries before after (inr e) = ap (λ (s : Seen). s.error) e
hears_error false entries before after e = ap (λ (s : Seen). s.error) e

none_kept : (told : Option ℕ) (error : ℕ) → or_error told error ≡ None → told ≡ None
none_kept None error e = refl
none_kept (Some first) error e = e

content_kept : (told : Option ℕ) (error : ℕ) → content_first told error ≡ None → told ≡ None
content_kept None error e = refl
content_kept (Some first) error e = go (error == 71) e
  where
    some_none : {A : Type 0} (n : ℕ) → Some n ≡ None → A
    some_none n e = absurd (cc)

    go : (b : Bool) → (if b then Some error else Some first) ≡ None → Some first ≡ None
    go true e = some_none error e
    go false e = e

-- of two boards, each of which is told none only where none was told before
either_none : (b : Bool) (one other : Seen) (before : Option ℕ) → (one.error ≡ None → before ≡ None) → (other.error ≡ None → before ≡ None) → (if b then one else other).error ≡ None → before ≡ None
either_none true one other before f g e = f e
either_none false one other before f g e = g e

done_none : (by : Ticket) (buf : List ℕ) (before : Seen) → (filed_done by buf before).error ≡ None → before.error ≡ None
done_none (ticket.Slice n) buf before e =
    either_none (is_unfit (value_at n before.rows) buf) (record before { error = or_error before.error 71 }) (record before { rows = rows_with (value_at n before.rows) n buf before.rows; came = came_with (value_at n before.rows) n before.came })
    before.error (none_kept before.error 71) (λ k. k) e
done_none ticket.Extents buf before e = e
done_none ticket.Flush buf before e = e

one_error : (call : Call Ticket) (before after : Seen) → Files before call after → after.error ≡ None → before.error ≡ None
one_error (Chunk by bytes offset status error heard) before after f e = sym (ap (λ (s : Seen). s.error) f.1) ∙ e
one_error (Extents by context offset entries error heard) before after f e = sym (hears_error (is_map by context) entries before after f.1) ∙ e
one_error (Complete by error buf verdict) before after f e =
    either_none (error == 0) (filed_done by buf before) (record before { error = content_first before.error error }) before.error (done_none by buf before) (content_kept before.error error) (sym (ap (λ (s : Seen). s.error) f.1) ∙ e)
one_error (Free by) before after f e = sym (ap (λ (s : Seen). s.error) f) ∙ e

pub none_earlier : (calls : List (Call Ticket)) (before after : Seen) → OneByOne Files before calls after → after.error ≡ None → before.error ≡ None
none_earlier [] before after f e = sym (ap (λ (s : Seen). s.error) f) ∙ e
none_earlier (call ∷ calls) before after f e = one_error call before f.0 f.1.0 (none_earlier calls f.0 after f.1.1 e)

-- What is filed.

quiet_join : (xs ys : List (Act Ticket)) → Each IsQuiet (map call_of xs) → Each IsQuiet (map call_of ys) → Each IsQuiet (map call_of (xs ++ ys))
quiet_join [] ys a b = b
quiet_join (x ∷ xs) ys a b = (a.0, quiet_join xs ys a.1 b)

well_front : (xs ys : List (Act Ticket)) → Each IsWell (map call_of (xs ++ ys)) → Each IsWell (map call_of xs)
well_front [] ys a = tt
well_front (x ∷ xs) ys a = (a.0, well_front xs ys a.1)

module _ (flight : Flight Ticket) where
  free_quiet : (first : Option (Slot Ticket)) → Each IsQuiet (map call_of (first_free_acts first))
  free_quiet None = tt
  free_quiet (Some slot) = (tt, tt)

  pub frees_quiet : Each IsQuiet (map call_of (free_acts flight))
  frees_quiet = quiet_join (first_free_acts flight.first) (act.Free flight.done ∷ []) (free_quiet flight.first) (tt, tt)

  act_quiet : (slot : Slot Ticket) (told : Hearing) (heard : Heard) → IsQuiet (call_of (act_of slot told heard))
  act_quiet slot (hearing.Chunk bytes offset status error) heard = tt
  act_quiet slot (hearing.Extents context offset entries error) heard = tt

  first_quiet : (first : Option (Slot Ticket)) (told : Option Hearing) (heard : Option Heard) → Each IsQuiet (map call_of (first_acts first told heard))
  first_quiet (Some slot) (Some told) (Some heard) = (act_quiet slot told heard, tt)
  first_quiet (Some slot) (Some told) None = tt
  first_quiet (Some slot) None heard = tt
  first_quiet None told heard = tt

  -- the calls of what completes nothing
  end_quiet : (item : Item) (answers : List Answer) (error : ℕ) (bytes : List ℕ) → completes item ≡ false → Each IsQuiet (map call_of (end_acts flight item (next_verdict (completes item) answers) error bytes))
  end_quiet (Framed content true) answers error bytes c = absurd (false≢true (sym c))
  end_quiet (Framed content false) answers error bytes c = tt
  end_quiet Lost answers error bytes c = absurd (false≢true (sym c))
  end_quiet Dropped answers error bytes c = frees_quiet

  pub filing_quiet : (told : Option Hearing) (item : Item) (heard : Option Heard) (answers : List Answer) (error : ℕ) (bytes : List ℕ) → completes item ≡ false →
      Each IsQuiet (map call_of (filing_acts flight told item heard (next_verdict (completes item) answers) error bytes))
  filing_quiet told item heard answers error bytes c =
      quiet_join (first_acts flight.first told heard) (end_acts flight item (next_verdict (completes item) answers) error bytes) (first_quiet flight.first told heard) (end_quiet item answers error bytes c)

  -- the calls of what completes a command: the last but one completes it
  pub record Completes (calls : List (Call Ticket)) (error : ℕ) (bytes : List ℕ) : Type 0 where
    pub front : List (Call Ticket)
    pub quiet : Each IsQuiet front
    pub verdict : Verdict
    pub is : calls ≡ front ++ Complete flight.done.callback error bytes verdict ∷ Free flight.done.callback ∷ []

  some_verdict : (answers : List Answer) → (v : Verdict) × (next_verdict true answers ≡ Some v)
  some_verdict [] = (Retire, refl)
  some_verdict (Decides v ∷ answers) = (v, refl)
  some_verdict (Hears heard ∷ answers) = (Retire, refl)

  end_is : (item : Item) (o : Option Verdict) (v : Verdict) (error : ℕ) (bytes : List ℕ) → completes item ≡ true → o ≡ Some v → end_acts flight item o error bytes ≡ completion_acts flight error bytes v
  end_is (Framed content last) o v error bytes c e = ap (λ w. end_acts flight (Framed content last) w error bytes) e
  end_is Lost o v error bytes c e = ap (λ w. end_acts flight Lost w error bytes) e
  end_is Dropped o v error bytes c e = absurd (false≢true c)

  pub filing_completes : (told : Option Hearing) (item : Item) (heard : Option Heard) (answers : List Answer) (error : ℕ) (bytes : List ℕ) → completes item ≡ true →
      Completes (map call_of (filing_acts flight told item heard (next_verdict (completes item) answers) error bytes)) error bytes
  filing_completes told item heard answers error bytes c =
      let v = some_verdict answers in
      let gives : next_verdict (completes item) answers ≡ Some v.0 = ap (λ (b : Bool). next_verdict b answers) c ∙ v.1 in
      let a = map call_of (first_acts flight.first told heard) in
      let b = map call_of (first_free_acts flight.first) in
      let ends : List (Act Ticket) = act.Complete flight.done error bytes v.0 ∷ act.Free flight.done ∷ [] in
      record {
        front = a ++ b;
        quiet = Each-append IsQuiet a b (first_quiet flight.first told heard) (free_quiet flight.first);
        verdict = v.0;
        is =
            map-append call_of (first_acts flight.first told heard) (end_acts flight item (next_verdict (completes item) answers) error bytes)
            ∙ ap (λ (acts : List (Act Ticket)). a ++ map call_of acts) (end_is item (next_verdict (completes item) answers) v.0 error bytes c gives)
            ∙ ap (λ (l : List (Call Ticket)). a ++ l) (map-append call_of (first_free_acts flight.first) ends)
            ∙ sym (append_assoc a b (map call_of ends));
      }

  -- an answer to it that all is well is no error
  none_heard : (b : Bool) (answers : List Answer) → b ≡ false → next_heard b answers ≡ None
  none_heard true answers e = absurd (false≢true (sym e))
  none_heard false answers e = refl

  no_error : (heard : Option Heard) → heard ≡ None → heard_error heard ≡ 0
  no_error None e = refl
  no_error (Some heard) e = absurd (cc)

  going_is_none : (heard : Heard) → heard ≡ Going → heard_number heard ≡ 0
  going_is_none heard e = ap heard_number e

  act_well : (slot : Slot Ticket) (told : Hearing) (heard : Heard) → IsWell (call_of (act_of slot told heard)) → heard_number heard ≡ 0
  act_well slot (hearing.Chunk bytes offset status error) heard w = going_is_none heard w
  act_well slot (hearing.Extents context offset entries error) heard w = going_is_none heard w

  first_well : (first : Option (Slot Ticket)) (told : Option Hearing) (heard : Option Heard) → ((is_some told && is_some first) ≡ false → heard ≡ None) → Each IsWell (map call_of (first_acts first told heard)) → heard_error heard ≡ 0
  first_well (Some slot) (Some told) (Some heard) n w = act_well slot told heard w.0
  first_well (Some slot) (Some told) None n w = refl
  first_well (Some slot) None heard n w = no_error heard (n refl)
  first_well None None heard n w = no_error heard (n refl)
  first_well None (Some told) heard n w = no_error heard (n refl)

  pub heard_well : (told : Option Hearing) (item : Item) (answers : List Answer) (verdict : Option Verdict) (error : ℕ) (bytes : List ℕ) →
      Each IsWell (map call_of (filing_acts flight told item (next_heard (hears flight told) answers) verdict error bytes)) → heard_error (next_heard (hears flight told) answers) ≡ 0
  heard_well told item answers verdict error bytes w =
      first_well flight.first told (next_heard (hears flight told) answers) (λ e. none_heard (hears flight told) answers e)
      (well_front (first_acts flight.first told (next_heard (hears flight told) answers)) (end_acts flight item verdict error bytes) w)
