-- In a turn in which nothing happened all was tried in vain.
use Rattle.std.proofs.Common.{◌≡◌, ◌==◌, ◌||◌, ℕ, ◌≤◌, ◌≢◌, Bool, true, false, not, List, [], ◌∷◌, ◌++◌, length, Option, None, refl, ap, sym, ◌∙◌, append_assoc, arith}
use Rattle.std.proofs.lemmas.Bool.{false≢true, ne_eqb}
use Rattle.std.proofs.lemmas.List.Folds.{list_any-append}
use Rattle.std.specs.List.{list_any}
use Rattle.lnbd_callbacks.specs.Calls.{Call}
use Rattle.lnbd_history.specs.Answers.{direction_after, direction_of, is_living, out_after}
use Rattle.lnbd_history.specs.Events.{History}
use Rattle.lnbd_history.specs.History.{reading}
use Rattle.lnbd_link.specs.Call as wire
use Rattle.lnbd_link.specs.Call.{Read, Write, ReadTold, WriteTold, Moved, Unready, Ended, ReadFault, Sent, Full, WriteFault}
use Rattle.lnbd_poll.specs.declared.noticed.Noticed.{Noticed}
use Rattle.lnbd_poll.specs.declared.noticed.Noticed.TheVariants as noticed
use Rattle.lnbd_poll.specs.Seen.{Seen}
use Rattle.lnbd_poll.specs.Notices.{Hears, ReadsIf, ReadsOn, Sends, WritesIf, is_reading, is_waiting, room_after}
use Rattle.lnbd_poll.specs.Turns.{Goes_on, Stops, TurnsOne, WritesAll, is_short, moved_by}
use Rattle.lnbd_usage.specs.OneLink.{WaitsInVain}
use Rattle.lnbd_usage.specs.Vain.{WasReadInVain, WasWrittenInVain, has_happened}
use Rattle.lnbd_waits.specs.Waits.{want}
use Rattle.lnbd_waits.proofs.StillLemmas.{arrives_some, both_none, moved_some, noticed_some, read_still, still_same}

-- Where it reads, the link was read in vain; where it has something to write, that was tried in vain.
record WroteNone (link : ℕ) (waits : Bool) (calls : List wire.Call) : Type 0 where
  full : waits ≡ true → WasWrittenInVain link calls
  nothing : list_any has_happened calls ≡ false

record ReadNone (link : ℕ) (reads : Bool) (calls : List wire.Call) : Type 0 where
  empty : reads ≡ true → WasReadInVain link calls
  nothing : list_any has_happened calls ≡ false

no_write : (link : ℕ) (calls : List wire.Call) → calls ≡ [] → WroteNone link false calls
no_write link calls none = record { full = λ e. absurd (false≢true e); nothing = ap (list_any has_happened) none }

no_read : (link : ℕ) (calls : List wire.Call) → calls ≡ [] → ReadNone link false calls
no_read link calls none = record { empty = λ e. absurd (false≢true e); nothing = ap (list_any has_happened) none }

-- calls before a read in vain, and calls in which nothing happened behind a write in vain

read_behind : (link : ℕ) (calls written read : List wire.Call) → calls ≡ written ++ read → WasReadInVain link read → WasReadInVain link calls
read_behind link calls written read is was = record {
  earlier = written ++ was.earlier;
  room = was.room;
  later = was.later;
  are = is ∙ ap (λ (l : List wire.Call). written ++ l) was.are ∙ sym (append_assoc written was.earlier _);
  nothing = was.nothing;
}

written_before : (link : ℕ) (calls written read : List wire.Call) → calls ≡ written ++ read → list_any has_happened read ≡ false → WasWrittenInVain link written → WasWrittenInVain link calls
written_before link calls written read is quiet was = record {
  earlier = was.earlier;
  offered = was.offered;
  later = was.later ++ read;
  are = is ∙ ap (λ (l : List wire.Call). l ++ read) was.are ∙ append_assoc was.earlier (Write link was.offered Full ∷ was.later) read;
  nothing = list_any-append has_happened was.later read ∙ ap (λ (b : Bool). b || list_any has_happened read) was.nothing ∙ quiet;
}

waits_if : (living : Bool) (out : List ℕ) → 2 ≤ direction_of living out → (direction_of living out == 3) ≡ true
waits_if false out writes = absurd (omega (arith, writes))
waits_if true [] writes = absurd (omega (arith, writes))
waits_if true (byte ∷ bytes) writes = refl

module _ {K World : Type 0} (steps : World → List (Call K) → World → Type 0) where
  write_none : (b : Bool) (link : ℕ) (notice : Noticed) (before middle : History K) (calls : List wire.Call) → WritesIf b link notice before calls middle → moved_by notice ≡ None
      → WroteNone link b calls
  write_none false link notice before middle calls w none = no_write link calls w.1
  write_none true link notice before middle calls w none = go w.0 w.1 w.2
    where
      go : (told : WriteTold) → calls ≡ Write link (length (out_after before)) told ∷ [] → Sends told notice before middle → WroteNone link true calls
      go (Sent bytes) is s = noticed_some notice (noticed.Moved (length bytes)) (length bytes) s.0 refl none
      go Full is s = record { full = λ e. record { earlier = []; offered = length (out_after before); later = []; are = is; nothing = refl }; nothing = ap (list_any has_happened) is }
      go WriteFault is s = noticed_some notice noticed.LinkFailed 0 s.0 refl none

  writes_none : (link : ℕ) (before : History K) (world : World) (calls : List wire.Call) (after : History K) (world' : World) (moved : Option ℕ)
      → WritesAll steps link before world calls after world' moved → moved ≡ None → WroteNone link (is_waiting before) calls
  writes_none link before world calls after world' moved (Stops _ _ _ _ _ _ notice w stop is) none = write_none (is_waiting before) link notice before w.middle calls w.writes (sym is ∙ none)
  writes_none link before world calls after world' moved (Goes_on _ _ _ _ _ _ notice own middle half other rest w some more calls_are is) none = moved_some notice rest some (sym is ∙ none)

  read_none : (b : Bool) (notice : Noticed) (before after : Seen K) (calls : List wire.Call) (world world' : World) → ReadsIf steps b notice before world calls after world'
      → moved_by notice ≡ None → is_short notice ≡ false → ReadNone before.link b calls
  read_none false notice before after calls world world' r none enough = no_read before.link calls r.1
  read_none true notice before after calls world world' r none enough = on before.unread r
    where
      hears : (told : ReadTold) → calls ≡ Read before.link (room_after before.history) told ∷ [] → Hears steps told notice before after world world' → ReadNone before.link true calls
      hears (Moved bytes) is h = arrives_some steps bytes notice before after world world' h.1 none enough
      hears Unready is h = record { empty = λ e. record { earlier = []; room = room_after before.history; later = []; are = is; nothing = refl }; nothing = ap (list_any has_happened) is }
      hears Ended is h = noticed_some notice noticed.Ended 0 h.0 refl none
      hears ReadFault is h = noticed_some notice noticed.LinkFailed 0 h.0 refl none

      on : (unread : List ℕ) → ReadsOn steps unread notice before world calls after world' → ReadNone before.link true calls
      on [] r = hears r.0 r.1 r.2
      on (byte ∷ bytes) r = arrives_some steps (byte ∷ bytes) notice before after world world' r.1 none enough

  -- A pause for a handle that lives wants its link in vain.
  pub turn_vain : (notice : Noticed) (before after : Seen K) (calls : List wire.Call) (world world' : World) → TurnsOne steps notice before world calls after world' None → is_short notice ≡ false
      → after.link ≡ before.link → direction_after after.history ≢ 0 → WaitsInVain before.link calls (want after ∷ [])
  turn_vain notice before after calls world world' t enough same some =
      let quiet = both_none t.sent (moved_by notice) t.moved_is in
      let middle : Seen K = record { link = before.link; history = t.middle; unread = before.unread } in
      let written = writes_none before.link before.history world t.written t.middle t.half t.sent t.writes quiet.0 in
      let read = read_none (is_reading t.middle) notice middle after t.read t.half world' t.reads quiet.1 enough in
      let stays : after.history ≡ before.history = still_same steps notice before after calls world world' t enough in
      let stays_too : after.history ≡ t.middle = ap (λ (s : Seen K). s.history) {y = middle} (read_still steps (is_reading t.middle) notice middle after t.read t.half world' t.reads quiet.1 enough) in
      record {
        direction = direction_after after.history;
        are = ap (λ (n : ℕ). record { link = n; direction = direction_after after.history } ∷ []) same;
        some = some;
        read = read_behind before.link calls t.written t.read t.calls_are
            (read.empty (ap (λ (h : History K). is_reading h) (sym stays_too) ∙ ap not (ne_eqb (direction_after after.history) 0 some)));
        written = λ two. written_before before.link calls t.written t.read t.calls_are read.nothing
            (written.full (ap (λ (h : History K). is_waiting h) (sym stays) ∙ waits_if (is_living (reading after.history).known.stage) (out_after after.history) two));
      }
