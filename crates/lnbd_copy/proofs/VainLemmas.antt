-- Where nothing happened in a turn all that a pause wants was tried in vain.
use Rattle.std.proofs.Common.{◌≡◌, ◌≢◌, ◌≤◌, ◌==◌, ◌||◌, ℕ, Bool, true, false, not, List, [], ◌∷◌, ◌++◌, length, Option, Some, None, if◌then◌else◌, refl, ap, sym, subst, ◌∙◌, append_assoc, arith}
use Rattle.std.proofs.lemmas.Bool.{eqb-true, false≢true, ne_eqb}
use Rattle.std.specs.List.{list_any}
use Rattle.lnbd_callbacks.specs.Calls.{Call}
use Rattle.lnbd_history.specs.Events.{History}
use Rattle.lnbd_history.specs.Answers.{direction_after, direction_of, out_after}
use Rattle.lnbd_model.specs.declared.state.State.{State}
use Rattle.lnbd_machine.specs.Now.{direction_now, in_flight_now, state_now}
use Rattle.lnbd_standing.proofs.Standing.{stands_right}
use Rattle.lnbd_link.specs.Call as wire
use Rattle.lnbd_link.specs.Call.{Connect, Listen, Accept, Read, Write, Pause, Shut, ReadTold, Moved, Unready, Ended, ReadFault, WriteTold, Sent, Full, WriteFault}
use Rattle.lnbd_link.specs.Part.{Adds}
use Rattle.lnbd_link.specs.declared.wires.Want.{Want}
use Rattle.lnbd_poll.specs.declared.noticed.Noticed.{Noticed}
use Rattle.lnbd_poll.specs.declared.noticed.Noticed.TheVariants as noticed
use Rattle.lnbd_poll.specs.declared.noticed.Turn.{Turn}
use Rattle.lnbd_poll.specs.declared.noticed.Turn.TheVariants as turn
use Rattle.lnbd_poll.specs.Held.{Held, AreAt, is_wanting, want_of, wants_now, with_want}
use Rattle.lnbd_poll.specs.Notices.{Arrives, Hears, ReadsIf, ReadsOn, Sends, WritesIf, is_reading, is_waiting, room_after}
use Rattle.lnbd_poll.specs.Seen.{Seen, IsAt}
use Rattle.lnbd_poll.specs.Seen as poll
use Rattle.lnbd_poll.specs.Still.{WaitWhereFull, is_full}
use Rattle.lnbd_poll.specs.Turned.{TurnsWhole}
use Rattle.lnbd_poll.specs.Turns.{All_took, Ending, Goes_on, Runs_short, Breaks_off, Stops, Takes, Turns, TurnsOne, Whole, WritesAll, is_short, moved_by}
use Rattle.lnbd_board.specs.declared.ticket.Ticket.{Ticket}
use Rattle.lnbd_board.specs.Files as board
use Rattle.lnbd_copy.specs.Moving.{AreTriedInVain, IsTriedInVain, TurnsInVain}
use Rattle.lnbd_copy.specs.Pauses.{Pauses, WantsInVain}
use Rattle.lnbd_usage.specs.Pauses.{HasNoPause, AtEachPause}
use Rattle.lnbd_conduct.specs.Pauses.{WantsOnlyFull, WantsOnlyEmpty, is_for_reading}
use Rattle.lnbd_usage.specs.Vain.{WasReadInVain, WasWrittenInVain, has_happened}
use Rattle.lnbd_copy.specs.Way.{Stand}
use Rattle.lnbd_conduct.specs.Told.{Told}
use Rattle.lnbd_copy.proofs.CopierLemmas.{told_as}
use Rattle.lnbd_copy.proofs.FullLemmas.{both_none, moved_some, none_then, some_is_none, steps, still_none, true_is, with_none}
use Rattle.lnbd_copy.proofs.PauseLemmas.{pauses_adds, pauses_begin, pauses_stay}
use Rattle.lnbd_copy.proofs.TurnLemmas.{since_on}

-- Reads in vain.

vain_behind : (link : ℕ) (calls more : List wire.Call) → WasReadInVain link more → WasReadInVain link (calls ++ more)
vain_behind link calls more vain = record {
  earlier = calls ++ vain.earlier;
  room = vain.room;
  later = vain.later;
  are = ap (λ (l : List wire.Call). calls ++ l) vain.are ∙ sym (append_assoc calls vain.earlier (Read link vain.room Unready ∷ vain.later));
  nothing = vain.nothing;
}

vain_then : (link : ℕ) (calls more : List wire.Call) → list_any has_happened more ≡ false → WasReadInVain link calls → WasReadInVain link (calls ++ more)
vain_then link calls more nothing vain = record {
  earlier = vain.earlier;
  room = vain.room;
  later = vain.later ++ more;
  are = ap (λ (l : List wire.Call). l ++ more) vain.are ∙ append_assoc vain.earlier (Read link vain.room Unready ∷ vain.later) more;
  nothing = none_then has_happened (vain.later ++ more) vain.later more refl vain.nothing nothing;
}

empty_behind : (calls more : List wire.Call) (wants : List Want) → WantsOnlyEmpty more wants → WantsOnlyEmpty (calls ++ more) wants
empty_behind calls more [] empty = tt
empty_behind calls more (want ∷ others) empty = ((λ reads. vain_behind want.link calls more (empty.0 reads)), empty_behind calls more others empty.1)

-- Writes in vain.

written_behind : (link : ℕ) (calls more : List wire.Call) → WasWrittenInVain link more → WasWrittenInVain link (calls ++ more)
written_behind link calls more vain = record {
  earlier = calls ++ vain.earlier;
  offered = vain.offered;
  later = vain.later;
  are = ap (λ (l : List wire.Call). calls ++ l) vain.are ∙ sym (append_assoc calls vain.earlier (Write link vain.offered Full ∷ vain.later));
  nothing = vain.nothing;
}

full_behind : (calls more : List wire.Call) (wants : List Want) → WantsOnlyFull more wants → WantsOnlyFull (calls ++ more) wants
full_behind calls more [] full = tt
full_behind calls more (want ∷ others) full = ((λ writes. written_behind want.link calls more (full.0 writes)), full_behind calls more others full.1)

-- Where nothing happened a write that took nothing is one in vain.
written_in_vain : (link : ℕ) (calls : List wire.Call) → list_any (is_full link) calls ≡ true → list_any has_happened calls ≡ false → WasWrittenInVain link calls
written_in_vain link [] some nothing = absurd (false≢true some)
written_in_vain link (Connect to given ∷ calls) some nothing = true_is nothing
written_in_vain link (Listen at listener ∷ calls) some nothing = true_is nothing
written_in_vain link (Accept listener answer ∷ calls) some nothing = true_is nothing
written_in_vain link (Read n room (Moved bytes) ∷ calls) some nothing = true_is nothing
written_in_vain link (Read n room Unready ∷ calls) some nothing = written_behind link (Read n room Unready ∷ []) calls (written_in_vain link calls some nothing)
written_in_vain link (Read n room Ended ∷ calls) some nothing = true_is nothing
written_in_vain link (Read n room ReadFault ∷ calls) some nothing = true_is nothing
written_in_vain link (Write n offered (Sent bytes) ∷ calls) some nothing = true_is nothing
written_in_vain link (Write n offered Full ∷ calls) some nothing = go (n == link) refl (λ behind. written_in_vain link calls behind nothing)
  where
    go : (same : Bool) → (n == link) ≡ same → (list_any (is_full link) calls ≡ true → WasWrittenInVain link calls) → WasWrittenInVain link (Write n offered Full ∷ calls)
    go true e behind = record { earlier = []; offered = offered; later = calls; are = ap (λ (m : ℕ). Write m offered Full ∷ calls) (eqb-true n link e); nothing = nothing }
    go false e behind = written_behind link (Write n offered Full ∷ []) calls (behind (sym (ap (λ (b : Bool). b || list_any (is_full link) calls) e) ∙ some))
written_in_vain link (Write n offered WriteFault ∷ calls) some nothing = true_is nothing
written_in_vain link (Pause wants ∷ calls) some nothing = true_is nothing
written_in_vain link (Shut n ∷ calls) some nothing = true_is nothing

-- Each handle that reads read its link in vain.
abbrev AreReadInVain : {K : Type 0} → List wire.Call → List (Seen K) → Type 0
AreReadInVain calls [] = Unit {0}
AreReadInVain calls (seen ∷ all) = (is_reading seen.history ≡ true → WasReadInVain seen.link calls) × AreReadInVain calls all

all_behind : {K : Type 0} (own other : List wire.Call) (all : List (Seen K)) → AreReadInVain other all → AreReadInVain (own ++ other) all
all_behind own other [] each = tt
all_behind own other (s ∷ ss) each = (λ reads. vain_behind s.link own other (each.0 reads), all_behind own other ss each.1)

-- The calls of a turn in which nothing happened.

-- one read of a handle that is as before
record ReadsInVain {K : Type 0} (reads : Bool) (before : Seen K) (calls : List wire.Call) (after : Seen K) : Type 0 where
  same : after ≡ before
  nothing : list_any has_happened calls ≡ false
  vain : reads ≡ true → WasReadInVain before.link calls

-- a handle's part of the turn
record TookInVain {K : Type 0} (calls : List wire.Call) (after : Seen K) : Type 0 where
  nothing : list_any has_happened calls ≡ false
  vain : is_reading after.history ≡ true → WasReadInVain after.link calls

module _ {K World : Type 0} (steps : World → List (Call K) → World → Type 0) where
  write_in_vain : (b : Bool) (link : ℕ) (notice : Noticed) (before after : History K) (calls : List wire.Call) → WritesIf b link notice before calls after → moved_by notice ≡ None → list_any has_happened calls ≡ false
  write_in_vain false link notice before after calls w none = ap (list_any has_happened) w.1
  write_in_vain true link notice before after calls w none = go w.0 w.1 w.2
    where
      go : (told : WriteTold) → calls ≡ Write link (length (out_after before)) told ∷ [] → Sends told notice before after → list_any has_happened calls ≡ false
      go (Sent bytes) own s = some_is_none _ (sym (ap moved_by s.0) ∙ none)
      go Full own s = ap (list_any has_happened) own
      go WriteFault own s = some_is_none 0 (sym (ap moved_by s.0) ∙ none)

  writes_in_vain : (link : ℕ) (before : History K) (world : World) (calls : List wire.Call) (after : History K) (world' : World) (moved : Option ℕ) → WritesAll steps link before world calls after world' moved → moved ≡ None → list_any has_happened calls ≡ false
  writes_in_vain link before world calls after world' moved (Stops _ _ _ _ _ _ notice w stop is) none = write_in_vain (is_waiting before) link notice before w.middle calls w.writes (sym is ∙ none)
  writes_in_vain link before world calls after world' moved (Goes_on _ _ _ _ _ _ notice own middle half other rest w some more are is) none = moved_some notice rest some (sym is ∙ none)

  pub arrives_none : {A : Type 0} (bytes : List ℕ) (notice : Noticed) (before after : Seen K) (world world' : World) → Arrives steps bytes notice before after world world' → moved_by notice ≡ None → is_short notice ≡ false → A
  arrives_none bytes (noticed.Moved n) before after world world' a none enough = some_is_none n none
  arrives_none bytes noticed.NoMemory before after world world' a none enough = true_is enough
  arrives_none bytes noticed.NotReady before after world world' a none enough = absurd a
  arrives_none bytes noticed.Idle before after world world' a none enough = absurd a
  arrives_none bytes noticed.Ended before after world world' a none enough = absurd a
  arrives_none bytes noticed.LinkFailed before after world world' a none enough = absurd a

  reads_in_vain : (b : Bool) (notice : Noticed) (before after : Seen K) (world world' : World) (calls : List wire.Call) → ReadsIf steps b notice before world calls after world' → moved_by notice ≡ None → is_short notice ≡ false → ReadsInVain b before calls after
  reads_in_vain false notice before after world world' calls r none enough = record { same = r.2.0; nothing = ap (list_any has_happened) r.1; vain = λ e. absurd (false≢true e) }
  reads_in_vain true notice before after world world' calls r none enough = on before.unread r
    where
      hears : (told : ReadTold) → calls ≡ Read before.link (room_after before.history) told ∷ [] → Hears steps told notice before after world world' → ReadsInVain true before calls after
      hears (Moved bytes) own h = arrives_none bytes notice before after world world' h.1 none enough
      hears Unready own h = record {
        same = h.1.0;
        nothing = ap (list_any has_happened) own;
        vain = λ e. record { earlier = []; room = room_after before.history; later = []; are = own; nothing = refl };
      }
      hears Ended own h = some_is_none 0 (sym (ap moved_by h.0) ∙ none)
      hears ReadFault own h = some_is_none 0 (sym (ap moved_by h.0) ∙ none)

      on : (unread : List ℕ) → ReadsOn steps unread notice before world calls after world' → ReadsInVain true before calls after
      on [] r = hears r.0 r.1 r.2
      on (byte ∷ bytes) r = arrives_none (byte ∷ bytes) notice before after world world' r.1 none enough

  took_in_vain : (notice : Noticed) (before : Seen K) (world : World) (calls : List wire.Call) (after : Seen K) (world' : World) (moved : Option ℕ) → TurnsOne steps notice before world calls after world' moved → is_short notice ≡ false → moved ≡ None → TookInVain calls after
  took_in_vain notice before world calls after world' moved t enough none =
      let quiet = both_none t.sent (moved_by notice) (sym t.moved_is ∙ none) in
      let middle : Seen K = record { link = before.link; history = t.middle; unread = before.unread } in
      let read = reads_in_vain (is_reading t.middle) notice middle after t.half world' t.read t.reads quiet.1 enough in
      record {
        nothing = none_then has_happened calls t.written t.read t.calls_are (writes_in_vain before.link before.history world t.written t.middle t.half t.sent t.writes quiet.0) read.nothing;
        vain = λ reads.
            let was : WasReadInVain before.link t.read = read.vain (sym (ap (λ (s : Seen K). is_reading s.history) read.same) ∙ reads) in
            subst (λ (n : ℕ). WasReadInVain n calls) (sym (ap (λ (s : Seen K). s.link) read.same))
            (subst (WasReadInVain before.link) (sym t.calls_are) (vain_behind before.link t.written t.read was));
      }

  nothing_happens : (before : List (Seen K)) (world : World) (calls : List wire.Call) (after : List (Seen K)) (world' : World) (ending : Ending) → Turns steps before world calls after world' ending → ending ≡ Whole None → list_any has_happened calls ≡ false
  nothing_happens before world calls after world' ending (All_took _ _ _ _ _ _ is none after_is world_is end) still = ap (list_any has_happened) none
  nothing_happens before world calls after world' ending (Takes _ _ _ _ _ _ seen others notice own here half moved other there rest is one enough more calls_are after_is end) still =
      let quiet = with_none moved rest (sym end ∙ still) in
      none_then has_happened calls own other calls_are (took_in_vain notice seen world own here half moved one enough quiet.0).nothing (nothing_happens others half other there world' rest more quiet.1)
  nothing_happens before world calls after world' ending (Runs_short _ _ _ _ _ _ seen others here moved is one after_is end) still = absurd (cc (end, still))
  nothing_happens before world calls after world' ending (Breaks_off _ _ _ _ _ _ none after_is world_is end) still = absurd (cc (end, still))

  all_read_in_vain : (before : List (Seen K)) (world : World) (calls : List wire.Call) (after : List (Seen K)) (world' : World) (ending : Ending) → Turns steps before world calls after world' ending → ending ≡ Whole None → AreReadInVain calls after
  all_read_in_vain before world calls after world' ending (All_took _ _ _ _ _ _ is none after_is world_is end) still = subst (AreReadInVain calls) (sym after_is) tt
  all_read_in_vain before world calls after world' ending (Takes _ _ _ _ _ _ seen others notice own here half moved other there rest is one enough more calls_are after_is end) still =
      let quiet = with_none moved rest (sym end ∙ still) in
      let took = took_in_vain notice seen world own here half moved one enough quiet.0 in
      let first : is_reading here.history ≡ true → WasReadInVain here.link (own ++ other) = λ reads. vain_then here.link own other (nothing_happens others half other there world' rest more quiet.1) (took.vain reads) in
      let each : AreReadInVain (own ++ other) (here ∷ there) = (first, all_behind own other there (all_read_in_vain others half other there world' rest more quiet.1)) in
      subst (AreReadInVain calls) (sym after_is) (subst (λ (l : List wire.Call). AreReadInVain l (here ∷ there)) (sym calls_are) each)
  all_read_in_vain before world calls after world' ending (Runs_short _ _ _ _ _ _ seen others here moved is one after_is end) still = absurd (cc (end, still))
  all_read_in_vain before world calls after world' ending (Breaks_off _ _ _ _ _ _ none after_is world_is end) still = absurd (cc (end, still))

-- What is read in vain and written in vain, by each handle's direction.

not_none : (direction : ℕ) → direction ≢ 0 → not (direction == 0) ≡ true
not_none direction some = ap not (ne_eqb direction 0 some)

waits_if : (living : Bool) (out : List ℕ) → 2 ≤ direction_of living out → (direction_of living out == 3) ≡ true
waits_if false out writes = absurd (omega (arith, writes))
waits_if true [] writes = absurd (omega (arith, writes))
waits_if true (byte ∷ bytes) writes = refl

module _ (calls : List wire.Call) (nothing : list_any has_happened calls ≡ false) where
  one_tried : (held : Held Ticket) (seen : Seen Ticket) → IsAt held.link held.handle held.inbox seen → (is_waiting seen.history ≡ true → list_any (is_full seen.link) calls ≡ true) → (is_reading seen.history ≡ true → WasReadInVain seen.link calls)
      → IsTriedInVain held.link (direction_now held.handle.known) calls
  one_tried held seen at waits reads =
      let direction : direction_now held.handle.known ≡ direction_after seen.history = (stands_right 1024 seen.history held.handle at.stands).direction in
      record {
        reads = λ some. subst (λ (n : ℕ). WasReadInVain n calls) at.link (reads (not_none (direction_after seen.history) (λ none. some (direction ∙ none))));
        writes = λ two. subst (λ (n : ℕ). WasWrittenInVain n calls) at.link (written_in_vain seen.link calls (waits (waits_if _ (out_after seen.history) (subst (λ (n : ℕ). 2 ≤ n) direction two))) nothing);
      }

  all_tried : (held : List (Held Ticket)) (seens : List (Seen Ticket)) → AreAt held seens → WaitWhereFull calls seens → AreReadInVain calls seens → AreTriedInVain calls held
  all_tried [] [] at waits reads = tt
  all_tried [] (s ∷ ss) at waits reads = absurd at
  all_tried (x ∷ xs) [] at waits reads = absurd at
  all_tried (x ∷ xs) (s ∷ ss) at waits reads = (one_tried x s at.0 waits.0 reads.0, all_tried xs ss at.1 waits.1 reads.1)

-- A turn, where it is told.

pub turned_vain : (a b : Option (List wire.Call)) (f g : ℕ) (told : Turn) (now now' : board.Seen) (held held' : List (Held Ticket))
    → poll.Goes a b (λ seens. AreAt held seens) (λ seens. AreAt held' seens) (λ before calls after. TurnsWhole steps f g told before now calls after now') → told ≡ turn.Still → Stand held → TurnsInVain held' a b
turned_vain a b f g told now now' held held' goes still s = record {
  on = λ all is.
      let went = goes s.seens s.at in
      let grown = went.grown all is in
      let none = ap Whole (still_none went.leads.moved told went.leads.tells still) in
      let nothing = nothing_happens steps s.seens now went.calls went.after now' (Whole went.leads.moved) went.leads.turns none in
      let read = all_read_in_vain steps s.seens now went.calls went.after now' (Whole went.leads.moved) went.leads.turns none in
      record { before = grown.0; more = went.calls; was = grown.1; now = grown.2; are = (nothing, all_tried went.calls nothing held' went.after went.at (went.leads.still still) read) };
}

pub vain_same : (held held' : List (Held Ticket)) (a b c : Option (List wire.Call)) → held' ≡ held → c ≡ b → TurnsInVain held a b → TurnsInVain held' a c
vain_same held held' a b c same still vain = subst (λ (h : List (Held Ticket)). TurnsInVain h a c) (sym same) (subst (λ (t : Option (List wire.Call)). TurnsInVain held a t) (sym still) vain)

-- What a pause then wants was tried in vain.

reads_some : (direction : ℕ) → is_for_reading direction ≡ true → direction ≢ 0
reads_some direction reads none = false≢true (sym (ap is_for_reading none) ∙ reads)

module _ (calls : List wire.Call) where
  with_vain : (state : State) (link in_flight direction : ℕ) (others : List Want) → IsTriedInVain link direction calls → WantsInVain calls others → WantsInVain calls (with_want (want_of link state in_flight direction) others)
  with_vain state link in_flight direction others tried rest =
      elim (is_wanting state in_flight direction) as (λ b. WantsInVain calls (with_want (if b then Some (record { link = link; direction = direction }) else None) others)) [
        | true ↦ ((tried.writes, rest.0), (λ reads. tried.reads (reads_some direction reads), rest.1))
        | false ↦ rest
      ]

  wants_vain : (held : List (Held Ticket)) → AreTriedInVain calls held → WantsInVain calls (wants_now held)
  wants_vain [] tried = (tt, tt)
  wants_vain (x ∷ xs) tried = with_vain (state_now x.handle.known) x.link (in_flight_now x.handle.known) (direction_now x.handle.known) (wants_now xs) tried.0 (wants_vain xs tried.1)

-- The pause behind it.

vain_unpaused : (calls : List wire.Call) → list_any has_happened calls ≡ false → HasNoPause calls
vain_unpaused [] nothing = refl
vain_unpaused (Connect to given ∷ calls) nothing = true_is nothing
vain_unpaused (Listen at listener ∷ calls) nothing = true_is nothing
vain_unpaused (Accept listener answer ∷ calls) nothing = true_is nothing
vain_unpaused (Read n room (Moved bytes) ∷ calls) nothing = true_is nothing
vain_unpaused (Read n room Unready ∷ calls) nothing = vain_unpaused calls nothing
vain_unpaused (Read n room Ended ∷ calls) nothing = true_is nothing
vain_unpaused (Read n room ReadFault ∷ calls) nothing = true_is nothing
vain_unpaused (Write n offered (Sent bytes) ∷ calls) nothing = true_is nothing
vain_unpaused (Write n offered Full ∷ calls) nothing = vain_unpaused calls nothing
vain_unpaused (Write n offered WriteFault ∷ calls) nothing = true_is nothing
vain_unpaused (Pause wants ∷ calls) nothing = true_is nothing
vain_unpaused (Shut n ∷ calls) nothing = true_is nothing

-- A pause behind calls by which all that it wants was tried in vain, where that is enough.
pauses_left : (Is : (before : List wire.Call) → List Want → Type 0) (held : List (Held Ticket)) (a b c : Option (List wire.Call))
    → ((calls more : List wire.Call) → WantsInVain more (wants_now held) → Is (calls ++ more) (wants_now held)) → TurnsInVain held a b → Adds b c (Pause (wants_now held)) → Pauses Is a c
pauses_left Is held a b c behind vain adds = record {
  on = λ start told. pauses_adds Is start b c (wants_now held)
      (record {
        since = λ all is.
            let made = vain.on all is in
            let since = told.since made.before made.was in
            since_on start made.before all made.more made.now since (pauses_stay Is since.calls made.more (vain_unpaused made.more made.are.0) since.is, behind since.calls made.more (wants_vain made.more held made.are.1));
      }) adds;
}

pub pauses_full : (held : List (Held Ticket)) (a b c : Option (List wire.Call)) → TurnsInVain held a b → Adds b c (Pause (wants_now held)) → Pauses WantsOnlyFull a c
pauses_full held a b c vain adds = pauses_left WantsOnlyFull held a b c (λ calls more wants. full_behind calls more (wants_now held) wants.0) vain adds

pub pauses_empty : (held : List (Held Ticket)) (a b c : Option (List wire.Call)) → TurnsInVain held a b → Adds b c (Pause (wants_now held)) → Pauses WantsOnlyEmpty a c
pauses_empty held a b c vain adds = pauses_left WantsOnlyEmpty held a b c (λ calls more wants. empty_behind calls more (wants_now held) wants.1) vain adds

pub pauses_vain : (held : List (Held Ticket)) (a b c : Option (List wire.Call)) → TurnsInVain held a b → Adds b c (Pause (wants_now held)) → Pauses WantsInVain a c
pauses_vain held a b c vain adds = pauses_left WantsInVain held a b c (λ calls more wants. (full_behind calls more (wants_now held) wants.0, empty_behind calls more (wants_now held) wants.1)) vain adds

-- Where each pause wants what was tried in vain, it does so of writes and of reads.

pub vain_full : (a b : Option (List wire.Call)) → Pauses WantsInVain a b → Told a b (AtEachPause WantsOnlyFull)
vain_full a b pauses = told_as a b (λ calls each before after wants e. (each before after wants e).0) (pauses_begin a b pauses)

pub vain_empty : (a b : Option (List wire.Call)) → Pauses WantsInVain a b → Told a b (AtEachPause WantsOnlyEmpty)
vain_empty a b pauses = told_as a b (λ calls each before after wants e. (each before after wants e).1) (pauses_begin a b pauses)
