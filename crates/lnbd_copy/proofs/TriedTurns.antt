-- A turn that took place tries the link of each handle in its direction, where all that was read has arrived.
use Rattle.std.proofs.Common.{◌≡◌, ◌||◌, ◌==◌, ◌≤◌, ◌-◌, not, ℕ, zero, suc, Bool, true, false, List, [], ◌∷◌, ◌++◌, length, Option, Some, None, if◌then◌else◌, refl, ap, sym, subst, ◌∙◌, arith}
use Rattle.std.proofs.lemmas.Bool.{eq-eqb, false≢true, ne_eqb}
use Rattle.std.proofs.lemmas.List.Folds.{list_any-append}
use Rattle.std.specs.List.{list_any}
use Rattle.lnbd_callbacks.specs.Calls.{Call}
use Rattle.lnbd_history.specs.Answers.{direction_after, direction_of, is_living, out_after}
use Rattle.lnbd_history.specs.Events.{History}
use Rattle.lnbd_history.specs.History.{reading}
use Rattle.lnbd_machine.specs.Now.{direction_now, in_flight_now, state_now}
use Rattle.lnbd_model.specs.declared.state.State.{State}
use Rattle.lnbd_standing.proofs.Standing.{stands_right}
use Rattle.lnbd_link.specs.Call as wire
use Rattle.lnbd_link.specs.Call.{Read, Write, ReadTold, Moved, Unready, Ended, ReadFault, WriteTold}
use Rattle.lnbd_link.specs.declared.wires.Want.{Want}
use Rattle.lnbd_poll.specs.declared.noticed.Noticed.{Noticed}
use Rattle.lnbd_poll.specs.declared.noticed.Noticed.TheVariants as noticed
use Rattle.lnbd_poll.specs.Coming.{data_to_come_after}
use Rattle.lnbd_poll.specs.Held.{Held, AreAt, is_wanting, want_of, wants_now, with_want}
use Rattle.lnbd_poll.specs.Notices.{Hears, ReadsIf, ReadsOn, WritesIf, is_reading, is_waiting, room_of}
use Rattle.lnbd_poll.specs.Seen.{Seen, IsAt}
use Rattle.lnbd_poll.specs.Turns.{AllTook, All_took, Breaks_off, Ending, Goes_on, Runs_short, Short, Stops, Takes, Told, Turns, TurnsOne, Whole, WritesAll, is_lost, is_moved, is_short, moved_by, with_moved}
use Rattle.lnbd_board.specs.declared.ticket.Ticket.{Ticket}
use Rattle.lnbd_copy.specs.Tried.{AreHeardOut}
use Rattle.lnbd_conduct.specs.Pauses.{WasTried, WereTried, reads_on, writes_on}
use Rattle.lnbd_copy.proofs.FullLemmas.{both_none, none_then, some_is_none, with_none}
use Rattle.lnbd_copy.proofs.TriedCalls.{is_idle, was_read, was_written}
use Rattle.lnbd_copy.proofs.VainLemmas.{arrives_none}

-- What is offered, and what room a read has.

offered : (living : Bool) (out : List ℕ) → (direction_of living out == 3) ≡ true → (length out == 0) ≡ false
offered false out waits = absurd (false≢true waits)
offered true [] waits = absurd (false≢true waits)
offered true (byte ∷ bytes) waits = ne_eqb (length (byte ∷ bytes)) 0 (λ e. omega (arith, e))

offers : {K : Type 0} (history : History K) → is_waiting history ≡ true → (length (out_after history) == 0) ≡ false
offers history waits = offered (is_living (reading history).known.stage) (out_after history) waits

room_some : (place : ℕ) → (room_of place == 0) ≡ false
room_some zero = refl
room_some (suc n) = ne_eqb (suc n) 0 (λ e. omega (arith, e))

writes_at : (living : Bool) (out : List ℕ) → 2 ≤ direction_of living out → (direction_of living out == 3) ≡ true
writes_at false out writes = absurd (omega (arith, writes))
writes_at true [] writes = absurd (omega (arith, writes))
writes_at true (byte ∷ bytes) writes = refl

or_here : (a b : Bool) → a ≡ true → (a || b) ≡ true
or_here true b is = refl
or_here false b is = absurd (false≢true is)

or_there : (a b : Bool) → b ≡ true → (a || b) ≡ true
or_there true b is = refl
or_there false b is = is

some_first : (p : wire.Call → Bool) (calls own other : List wire.Call) → calls ≡ own ++ other → list_any p own ≡ true → list_any p calls ≡ true
some_first p calls own other are some = ap (list_any p) are ∙ list_any-append p own other ∙ or_here (list_any p own) (list_any p other) some

some_last : (p : wire.Call → Bool) (calls own other : List wire.Call) → calls ≡ own ++ other → list_any p other ≡ true → list_any p calls ≡ true
some_last p calls own other are some = ap (list_any p) are ∙ list_any-append p own other ∙ or_there (list_any p own) (list_any p other) some

-- A handle that is to read alone, and that has all that was read, reads; one that has bytes to write writes.
pub record TriesOne {K : Type 0} (calls : List wire.Call) (seen : Seen K) : Type 0 where
  pub reads : direction_after seen.history ≡ 1 → seen.unread ≡ [] → list_any (reads_on seen.link) calls ≡ true
  pub writes : is_waiting seen.history ≡ true → list_any (writes_on seen.link) calls ≡ true

abbrev pub TriesEach : {K : Type 0} → List wire.Call → List (Seen K) → Type 0
TriesEach calls [] = Unit {0}
TriesEach calls (seen ∷ others) = TriesOne calls seen × TriesEach calls others

each_behind : {K : Type 0} (own other : List wire.Call) (all : List (Seen K)) → TriesEach other all → TriesEach (own ++ other) all
each_behind own other [] each = tt
each_behind own other (s ∷ ss) each =
    (record { reads = λ alone read. some_last (reads_on s.link) (own ++ other) own other refl (each.0.reads alone read); writes = λ waits. some_last (writes_on s.link) (own ++ other) own other refl (each.0.writes waits) }, each_behind own other ss each.1)

one_ahead : {K : Type 0} (own other : List wire.Call) (seen : Seen K) → TriesOne own seen → TriesOne (own ++ other) seen
one_ahead own other s one =
    record { reads = λ alone read. some_first (reads_on s.link) (own ++ other) own other refl (one.reads alone read); writes = λ waits. some_first (writes_on s.link) (own ++ other) own other refl (one.writes waits) }

-- The handle has heard all that was read of its link.
abbrev pub HearsOut : {K : Type 0} → List (Seen K) → Type 0
HearsOut [] = Unit {0}
HearsOut (seen ∷ others) = (is_reading seen.history ≡ true → seen.unread ≡ []) × HearsOut others

idle_moved : {A : Type 0} (notice : Noticed) → notice ≡ noticed.Idle → is_moved notice ≡ true → A
idle_moved notice idle moved = absurd (false≢true (sym (ap is_moved idle) ∙ moved))

whole_short : {A : Type 0} (m : Option ℕ) → Short ≡ Whole m → A
whole_short {A} m same = absurd (no same)
  where
    no : Short ≡ Whole m → ⊥
    no e = cc

module _ {K World : Type 0} (steps : World → List (Call K) → World → Type 0) where
  -- None of its calls is without room, or offers nothing.

  write_busy : (b : Bool) (link : ℕ) (notice : Noticed) (before after : History K) (calls : List wire.Call) → (b ≡ true → (length (out_after before) == 0) ≡ false) → WritesIf b link notice before calls after → list_any is_idle calls ≡ false
  write_busy false link notice before after calls some w = ap (list_any is_idle) w.1
  write_busy true link notice before after calls some w = ap (list_any is_idle) w.1 ∙ ap (λ (b : Bool). b || false) (some refl)

  writes_busy : (link : ℕ) (before : History K) (world : World) (calls : List wire.Call) (after : History K) (world' : World) (moved : Option ℕ) → WritesAll steps link before world calls after world' moved → list_any is_idle calls ≡ false
  writes_busy link before world calls after world' moved (Stops _ _ _ _ _ _ notice w stop is) = write_busy (is_waiting before) link notice before w.middle calls (offers before) w.writes
  writes_busy link before world calls after world' moved (Goes_on _ _ _ _ _ _ notice own middle half other rest w some more are is) =
      none_then is_idle calls own other are (write_busy (is_waiting before) link notice before w.middle own (offers before) w.writes) (writes_busy link middle half other after world' rest more)

  reads_busy : (b : Bool) (notice : Noticed) (before after : Seen K) (world world' : World) (calls : List wire.Call) → ReadsIf steps b notice before world calls after world' → list_any is_idle calls ≡ false
  reads_busy false notice before after world world' calls r = ap (list_any is_idle) r.1
  reads_busy true notice before after world world' calls r = on before.unread r
    where
      on : (unread : List ℕ) → ReadsOn steps unread notice before world calls after world' → list_any is_idle calls ≡ false
      on [] r = ap (list_any is_idle) r.1 ∙ ap (λ (b : Bool). b || false) (room_some (data_to_come_after before.history - 1))
      on (byte ∷ bytes) r = ap (list_any is_idle) r.0

  one_busy : (notice : Noticed) (before : Seen K) (world : World) (calls : List wire.Call) (after : Seen K) (world' : World) (moved : Option ℕ) → TurnsOne steps notice before world calls after world' moved → list_any is_idle calls ≡ false
  one_busy notice before world calls after world' moved t =
      none_then is_idle calls t.written t.read t.calls_are (writes_busy before.link before.history world t.written t.middle t.half t.sent t.writes)
      (reads_busy (is_reading t.middle) notice (record { link = before.link; history = t.middle; unread = before.unread }) after t.half world' t.read t.reads)

  pub turns_busy : (before : List (Seen K)) (world : World) (calls : List wire.Call) (after : List (Seen K)) (world' : World) (ending : Ending) → Turns steps before world calls after world' ending → list_any is_idle calls ≡ false
  turns_busy before world calls after world' ending (All_took _ _ _ _ _ _ is none after_is world_is end) = ap (list_any is_idle) none
  turns_busy before world calls after world' ending (Takes _ _ _ _ _ _ seen others notice own here half moved other there rest is one enough more calls_are after_is end) =
      none_then is_idle calls own other calls_are (one_busy notice seen world own here half moved one) (turns_busy others half other there world' rest more)
  turns_busy before world calls after world' ending (Runs_short _ _ _ _ _ _ seen others here moved is one after_is end) = one_busy noticed.NoMemory seen world calls here world' moved one
  turns_busy before world calls after world' ending (Breaks_off _ _ _ _ _ _ none after_is world_is end) = ap (list_any is_idle) none

  -- One handle's part.

  write_none : (b : Bool) (link : ℕ) (notice : Noticed) (before after : History K) (calls : List wire.Call) → b ≡ false → WritesIf b link notice before calls after → (notice ≡ noticed.Idle) × (after ≡ before)
  write_none true link notice before after calls is w = absurd (false≢true (sym is))
  write_none false link notice before after calls is w = (w.0, w.2)

  -- Where nothing waits to be written it is as it was.
  writes_none : (link : ℕ) (before : History K) (world : World) (calls : List wire.Call) (after : History K) (world' : World) (moved : Option ℕ) → WritesAll steps link before world calls after world' moved → is_waiting before ≡ false → after ≡ before
  writes_none link before world calls after world' moved (Stops _ _ _ _ _ _ notice w stop is) none =
      let idle = write_none (is_waiting before) link notice before w.middle calls none w.writes in
      (subst (λ (lost : Bool). Told steps lost w.middle world after world') (ap is_lost idle.0) w.told).0 ∙ idle.1
  writes_none link before world calls after world' moved (Goes_on _ _ _ _ _ _ notice own middle half other rest w some more are is) none =
      idle_moved notice (write_none (is_waiting before) link notice before w.middle own none w.writes).0 some

  one_reads : (notice : Noticed) (before : Seen K) (world : World) (calls : List wire.Call) (after : Seen K) (world' : World) (moved : Option ℕ) → TurnsOne steps notice before world calls after world' moved → direction_after before.history ≡ 1 → before.unread ≡ [] → list_any (reads_on before.link) calls ≡ true
  one_reads notice before world calls after world' moved t alone read =
      let same : t.middle ≡ before.history = writes_none before.link before.history world t.written t.middle t.half t.sent t.writes (ap (λ (n : ℕ). n == 3) alone) in
      let reading : is_reading t.middle ≡ true = ap (λ (h : History K). is_reading h) same ∙ ap (λ (n : ℕ). not (n == 0)) alone in
      some_last (reads_on before.link) calls t.written t.read t.calls_are (on (is_reading t.middle) reading (subst (λ (u : List ℕ). ReadsIf steps (is_reading t.middle) notice (record { link = before.link; history = t.middle; unread = u }) t.half t.read after world') read t.reads))
    where
      on : (b : Bool) → b ≡ true → ReadsIf steps b notice (record { link = before.link; history = t.middle; unread = [] }) t.half t.read after world' → list_any (reads_on before.link) t.read ≡ true
      on true is r = ap (list_any (reads_on before.link)) r.1 ∙ or_here (before.link == before.link) false (eq-eqb before.link before.link refl)
      on false is r = absurd (false≢true is)

  write_there : (b : Bool) (link : ℕ) (notice : Noticed) (before after : History K) (calls : List wire.Call) → b ≡ true → WritesIf b link notice before calls after → list_any (writes_on link) calls ≡ true
  write_there false link notice before after calls is w = absurd (false≢true is)
  write_there true link notice before after calls is w = ap (list_any (writes_on link)) w.1 ∙ or_here (link == link) false (eq-eqb link link refl)

  writes_there : (link : ℕ) (before : History K) (world : World) (calls : List wire.Call) (after : History K) (world' : World) (moved : Option ℕ) → WritesAll steps link before world calls after world' moved → is_waiting before ≡ true → list_any (writes_on link) calls ≡ true
  writes_there link before world calls after world' moved (Stops _ _ _ _ _ _ notice w stop is) waits = write_there (is_waiting before) link notice before w.middle calls waits w.writes
  writes_there link before world calls after world' moved (Goes_on _ _ _ _ _ _ notice own middle half other rest w some more are is) waits =
      some_first (writes_on link) calls own other are (write_there (is_waiting before) link notice before w.middle own waits w.writes)

  one_tries : (notice : Noticed) (before : Seen K) (world : World) (calls : List wire.Call) (after : Seen K) (world' : World) (moved : Option ℕ) → TurnsOne steps notice before world calls after world' moved → TriesOne calls before
  one_tries notice before world calls after world' moved t = record {
    reads = one_reads notice before world calls after world' moved t;
    writes = λ waits. some_first (writes_on before.link) calls t.written t.read t.calls_are (writes_there before.link before.history world t.written t.middle t.half t.sent t.writes waits);
  }

  -- A turn in which each takes its part.
  pub turns_try : (before : List (Seen K)) (world : World) (calls : List wire.Call) (after : List (Seen K)) (world' : World) (ending : Ending) → (turns : Turns steps before world calls after world' ending) → AllTook turns → (m : Option ℕ) → ending ≡ Whole m → TriesEach calls before
  turns_try before world calls after world' ending (All_took _ _ _ _ _ _ is none after_is world_is end) took m whole = subst (TriesEach calls) (sym is) tt
  turns_try before world calls after world' ending (Takes _ _ _ _ _ _ seen others notice own here half moved other there rest is one enough more calls_are after_is end) took m whole =
      let tail : TriesEach other others = go rest (λ r e. turns_try others half other there world' rest more took r e) (sym end ∙ whole) in
      subst (TriesEach calls) (sym is) (subst (λ (l : List wire.Call). TriesEach l (seen ∷ others)) (sym calls_are) (one_ahead own other seen (one_tries notice seen world own here half moved one), each_behind own other others tail))
    where
      go : (r : Ending) → ((m' : Option ℕ) → r ≡ Whole m' → TriesEach other others) → with_moved moved r ≡ Whole m → TriesEach other others
      go (Whole n) tries e = tries n refl
      go Short tries e = whole_short m e
  turns_try before world calls after world' ending (Runs_short _ _ _ _ _ _ seen others here moved is one after_is end) took m whole = whole_short m (sym end ∙ whole)
  turns_try before world calls after world' ending (Breaks_off _ _ _ _ _ _ none after_is world_is end) took m whole = absurd took

  -- Where nothing happened all that was read has arrived.

  reads_heard : (b : Bool) (notice : Noticed) (before after : Seen K) (world world' : World) (calls : List wire.Call) → ReadsIf steps b notice before world calls after world' → moved_by notice ≡ None → is_short notice ≡ false → (after ≡ before) × (b ≡ true → before.unread ≡ [])
  reads_heard false notice before after world world' calls r none enough = (r.2.0, λ is. absurd (false≢true is))
  reads_heard true notice before after world world' calls r none enough = on before.unread refl r
    where
      hears : before.unread ≡ [] → (told : ReadTold) → Hears steps told notice before after world world' → (after ≡ before) × (true ≡ true → before.unread ≡ [])
      hears read (Moved bytes) h = arrives_none steps bytes notice before after world world' h.1 none enough
      hears read Unready h = (h.1.0, λ is. read)
      hears read Ended h = some_is_none 0 (sym (ap moved_by h.0) ∙ none)
      hears read ReadFault h = some_is_none 0 (sym (ap moved_by h.0) ∙ none)

      on : (unread : List ℕ) → before.unread ≡ unread → ReadsOn steps unread notice before world calls after world' → (after ≡ before) × (true ≡ true → before.unread ≡ [])
      on [] read r = hears read r.0 r.2
      on (byte ∷ bytes) read r = arrives_none steps (byte ∷ bytes) notice before after world world' r.1 none enough

  one_heard : (notice : Noticed) (before : Seen K) (world : World) (calls : List wire.Call) (after : Seen K) (world' : World) (moved : Option ℕ) → TurnsOne steps notice before world calls after world' moved → is_short notice ≡ false → moved ≡ None → is_reading after.history ≡ true → after.unread ≡ []
  one_heard notice before world calls after world' moved t enough none reading =
      let quiet = both_none t.sent (moved_by notice) (sym t.moved_is ∙ none) in
      let middle : Seen K = record { link = before.link; history = t.middle; unread = before.unread } in
      let heard = reads_heard (is_reading t.middle) notice middle after t.half world' t.read t.reads quiet.1 enough in
      ap (λ (s : Seen K). s.unread) heard.0 ∙ heard.1 (sym (ap (λ (s : Seen K). is_reading s.history) heard.0) ∙ reading)

  pub turns_heard : (before : List (Seen K)) (world : World) (calls : List wire.Call) (after : List (Seen K)) (world' : World) (ending : Ending) → Turns steps before world calls after world' ending → ending ≡ Whole None → HearsOut after
  turns_heard before world calls after world' ending (All_took _ _ _ _ _ _ is none after_is world_is end) still = subst HearsOut (sym after_is) tt
  turns_heard before world calls after world' ending (Takes _ _ _ _ _ _ seen others notice own here half moved other there rest is one enough more calls_are after_is end) still =
      let quiet = with_none moved rest (sym end ∙ still) in
      let each : HearsOut (here ∷ there) = (one_heard notice seen world own here half moved one enough quiet.0, turns_heard others half other there world' rest more quiet.1) in
      subst HearsOut (sym after_is) each
  turns_heard before world calls after world' ending (Runs_short _ _ _ _ _ _ seen others here moved is one after_is end) still = whole_short None (sym end ∙ still)
  turns_heard before world calls after world' ending (Breaks_off _ _ _ _ _ _ none after_is world_is end) still = absurd (cc (end, still))

-- By the handles that are held.

module _ (calls : List wire.Call) (busy : list_any is_idle calls ≡ false) where
  one_was_tried : (held : Held Ticket) (seen : Seen Ticket) → IsAt held.link held.handle held.inbox seen → TriesOne calls seen → (direction_now held.handle.known ≡ 1 → held.inbox ≡ []) → WasTried (record { link = held.link; direction = direction_now held.handle.known }) calls
  one_was_tried held seen at tries heard =
      let direction : direction_now held.handle.known ≡ direction_after seen.history = (stands_right 1024 seen.history held.handle at.stands).direction in
      record {
        reads = λ alone. was_read held.link calls (subst (λ (n : ℕ). list_any (reads_on n) calls ≡ true) at.link (tries.reads (sym direction ∙ alone) (at.unread ∙ heard alone))) busy;
        writes = λ two. was_written held.link calls (subst (λ (n : ℕ). list_any (writes_on n) calls ≡ true) at.link (tries.writes (writes_at _ (out_after seen.history) (subst (λ (n : ℕ). 2 ≤ n) direction two)))) busy;
      }

  with_tried : (state : State) (link in_flight direction : ℕ) (others : List Want) → WasTried (record { link = link; direction = direction }) calls → WereTried others calls → WereTried (with_want (want_of link state in_flight direction) others) calls
  with_tried state link in_flight direction others tried rest =
      elim (is_wanting state in_flight direction) as (λ b. WereTried (with_want (if b then Some (record { link = link; direction = direction }) else None) others) calls) [
        | true ↦ (tried, rest)
        | false ↦ rest
      ]

  pub all_were_tried : (held : List (Held Ticket)) (seens : List (Seen Ticket)) → AreAt held seens → TriesEach calls seens → AreHeardOut held → WereTried (wants_now held) calls
  all_were_tried [] [] at tries heard = tt
  all_were_tried [] (s ∷ ss) at tries heard = absurd at
  all_were_tried (x ∷ xs) [] at tries heard = absurd at
  all_were_tried (x ∷ xs) (s ∷ ss) at tries heard =
      with_tried (state_now x.handle.known) x.link (in_flight_now x.handle.known) (direction_now x.handle.known) (wants_now xs) (one_was_tried x s at.0 tries.0 heard.0) (all_were_tried xs ss at.1 tries.1 heard.1)

pub held_heard : (held : List (Held Ticket)) (seens : List (Seen Ticket)) → AreAt held seens → HearsOut seens → AreHeardOut held
held_heard [] [] at heard = tt
held_heard [] (s ∷ ss) at heard = absurd at
held_heard (x ∷ xs) [] at heard = absurd at
held_heard (x ∷ xs) (s ∷ ss) at heard =
    let direction : direction_now x.handle.known ≡ direction_after s.history = (stands_right 1024 s.history x.handle at.0.stands).direction in
    ((λ alone. sym at.0.unread ∙ heard.0 (ap (λ (n : ℕ). not (n == 0)) (sym direction ∙ alone))), held_heard xs ss at.1 heard.1)
