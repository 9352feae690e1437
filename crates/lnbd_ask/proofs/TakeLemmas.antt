-- What a turn over one handle does on its link: it drives it, and where nothing happened all was tried in vain.
use Rattle.std.proofs.Common.{◌≡◌, ◌==◌, ◌||◌, ℕ, Bool, true, false, not, List, [], ◌∷◌, ◌++◌, length, take, drop, Option, refl, ap, sym, subst, ◌∙◌, append_assoc}
use Rattle.std.proofs.lemmas.Bool.{false≢true}
use Rattle.std.proofs.lemmas.List.{append-nil, take-append-drop}
use Rattle.std.proofs.lemmas.List.Folds.{list_any-append}
use Rattle.std.specs.List.{list_any}
use Rattle.lnbd_callbacks.specs.Calls.{Call}
use Rattle.lnbd_history.specs.Answers.{direction_of, is_living, out_after}
use Rattle.lnbd_history.specs.Events.{Event, History, Wrote, Arrived, End, LinkFailed}
use Rattle.lnbd_history.specs.History.{reading}
use Rattle.lnbd_asked.specs.Driven.{Drives, Writes, Writes_none, Reads, Reads_none, Arrives as Comes, Ends, Fails_to_read, Fails_to_write, IsLiving, is_inward}
use Rattle.lnbd_link.specs.Call as wire
use Rattle.lnbd_link.specs.Call.{Read, Write, ReadTold, WriteTold, Moved, Unready, Ended, ReadFault, Sent, Full, WriteFault}
use Rattle.lnbd_poll.specs.declared.noticed.Noticed.{Noticed}
use Rattle.lnbd_poll.specs.declared.noticed.Noticed.TheVariants as noticed
use Rattle.lnbd_poll.specs.Seen.{Follows, Seen}
use Rattle.lnbd_poll.specs.Notices.{Arrives, Hears, ReadsIf, ReadsOn, Sends, WritesIf, is_reading, is_waiting, room_after}
use Rattle.lnbd_poll.specs.Turns.{Goes_on, Stops, Told, TurnsOne, WritesAll, is_lost, is_short}
use Rattle.lnbd_usage.specs.OneLink.{AreTalk}
use Rattle.lnbd_usage.specs.Pauses.{HasNoPause, is_pause}
use Rattle.lnbd_usage.proofs.Talking.{talk_on}
use Rattle.lnbd_waits.proofs.StillLemmas.{untold}

-- Only a living handle reads or writes.

living_waits : (b : Bool) (bytes : List ℕ) → (direction_of b bytes == 3) ≡ true → b ≡ true
living_waits true bytes e = refl
living_waits false bytes e = absurd (false≢true e)

living_reads : (b : Bool) (bytes : List ℕ) → not (direction_of b bytes == 0) ≡ true → b ≡ true
living_reads true bytes e = refl
living_reads false bytes e = absurd (false≢true e)

module _ {K : Type 0} where
  -- Nothing was asked from one history to the other.
  abbrev pub AllOutward : History K → Type 0
  AllOutward [] = Unit {0}
  AllOutward (event ∷ before) = (is_inward event ≡ false) × AllOutward before

  pub record Unasked (before after : History K) : Type 0 where
    pub since : History K
    pub is : after ≡ since ++ before
    pub outward : AllOutward since

  outward_on : (later earlier : History K) → AllOutward later → AllOutward earlier → AllOutward (later ++ earlier)
  outward_on [] earlier one two = two
  outward_on (event ∷ later) earlier one two = (one.0, outward_on later earlier one.1 two)

  pub unasked_none : (history : History K) → Unasked history history
  unasked_none history = record { since = []; is = refl; outward = tt }

  pub unasked_on : (a b c : History K) → Unasked a b → Unasked b c → Unasked a c
  unasked_on a b c one two = record {
    since = two.since ++ one.since;
    is = two.is ∙ ap (λ (h : History K). two.since ++ h) one.is ∙ sym (append_assoc two.since one.since a);
    outward = outward_on two.since one.since two.outward one.outward;
  }

  -- These calls on the link lead from one history to the other, and from these unread bytes to those.
  pub record Takes (link : ℕ) (before : History K) (left : List ℕ) (calls : List wire.Call) (after : History K) (left' : List ℕ) : Type 0 where
    pub unasked : Unasked before after
    pub drives : (all : List wire.Call) → Drives link all before left → Drives link (all ++ calls) after left'
    pub talk : AreTalk link calls
    pub unpaused : HasNoPause calls

  takes_none : (link : ℕ) (history : History K) (left : List ℕ) (calls : List wire.Call) → calls ≡ [] → Takes link history left calls history left
  takes_none link history left calls none = subst (λ (l : List wire.Call). Takes link history left l history left) (sym none)
      (record { unasked = unasked_none history; drives = λ all d. subst (λ (l : List wire.Call). Drives link l history left) (sym (append-nil all)) d; talk = tt; unpaused = refl })

  takes_on : (link : ℕ) (a b c : History K) (l m n : List ℕ) (xs ys : List wire.Call) → Takes link a l xs b m → Takes link b m ys c n → Takes link a l (xs ++ ys) c n
  takes_on link a b c l m n xs ys one two = record {
    unasked = unasked_on a b c one.unasked two.unasked;
    drives = λ all d. subst (λ (cs : List wire.Call). Drives link cs c n) (append_assoc all xs ys) (two.drives (all ++ xs) (one.drives all d));
    talk = talk_on link xs ys one.talk two.talk;
    unpaused = list_any-append is_pause xs ys ∙ ap (λ (b : Bool). b || list_any is_pause ys) one.unpaused ∙ two.unpaused;
  }

  -- one call that leads to one event
  by_event : (link : ℕ) (before : History K) (left : List ℕ) (call : wire.Call) (event : Event K) (left' : List ℕ) → is_inward event ≡ false
      → ((all : List wire.Call) → Drives link all before left → Drives link (all ++ call ∷ []) (event ∷ before) left') → AreTalk link (call ∷ []) → HasNoPause (call ∷ [])
      → Takes link before left (call ∷ []) (event ∷ before) left'
  by_event link before left call event left' outward drives talk none = record {
    unasked = record { since = event ∷ []; is = refl; outward = (outward, tt) };
    drives = drives;
    talk = talk;
    unpaused = none;
  }

  -- or to none
  by_none : (link : ℕ) (history : History K) (left : List ℕ) (call : wire.Call) (left' : List ℕ)
      → ((all : List wire.Call) → Drives link all history left → Drives link (all ++ call ∷ []) history left') → AreTalk link (call ∷ []) → HasNoPause (call ∷ [])
      → Takes link history left (call ∷ []) history left'
  by_none link history left call left' drives talk none = record { unasked = unasked_none history; drives = drives; talk = talk; unpaused = none }

  -- bytes that were read arrive
  arrive : (link : ℕ) (before : History K) (left : List ℕ) (calls : List wire.Call) (middle : History K) (bytes rest : List ℕ) (event : Event K) → is_inward event ≡ false
      → Takes link before left calls middle (bytes ++ rest)
      → ((all : List wire.Call) → Drives link all middle (bytes ++ rest) → Drives link all (event ∷ middle) rest) → Takes link before left calls (event ∷ middle) rest
  arrive link before left calls middle bytes rest event outward one come = record {
    unasked = unasked_on before middle (event ∷ middle) one.unasked (record { since = event ∷ []; is = refl; outward = (outward, tt) });
    drives = λ all d. come (all ++ calls) (one.drives all d);
    talk = one.talk;
    unpaused = one.unpaused;
  }

  -- So it is where a handle stands after its read, and nothing is left unread, but where memory ran out.
  pub record Took (link : ℕ) (start : History K) (calls : List wire.Call) (short : Bool) (after : Seen K) : Type 0 where
    pub same : after.link ≡ link
    pub takes : Takes link start [] calls after.history after.unread
    pub none : short ≡ false → after.unread ≡ []

  -- where nothing was read
  stays : (link : ℕ) (start : History K) (calls : List wire.Call) (short : Bool) (before after : Seen K) → after ≡ before → before.link ≡ link → before.unread ≡ []
      → Takes link start [] calls before.history [] → Took link start calls short after
  stays link start calls short before after is same none t =
      subst (Took link start calls short) (sym is) (record { same = same; takes = subst (λ (l : List ℕ). Takes link start [] calls before.history l) (sym none) t; none = λ e. none })

module _ {K World : Type 0} (steps : World → List (Call K) → World → Type 0) where
  -- ---- Reads.

  module _ (world world' : World) where
    follows : (link : ℕ) (start : History K) (calls : List wire.Call) (short : Bool) (event : Event K) (rest : List ℕ) (before after : Seen K) → before.link ≡ link
        → Follows steps event rest before after world world'
        → Takes link start [] calls (event ∷ before.history) rest → (short ≡ false → rest ≡ []) → Took link start calls short after
    follows link start calls short event rest before after same f t none = subst (Took link start calls short) (sym f.is) (record { same = same; takes = t; none = none })

    arrives : (calls : List wire.Call) (bytes : List ℕ) (notice : Noticed) (before after : Seen K) → Arrives steps bytes notice before after world world'
        → Takes before.link before.history [] calls before.history bytes → Took before.link before.history calls (is_short notice) after
    arrives calls bytes (noticed.Moved n) before after a t =
        let whole = subst (λ (l : List ℕ). Takes before.link before.history [] calls before.history l) (sym (append-nil bytes)) t in
        follows before.link before.history calls false (Arrived bytes a.1.0) [] before after refl a.1.1
        (arrive before.link before.history [] calls before.history bytes [] (Arrived bytes a.1.0) refl whole (λ all d. Comes all before.history (bytes ++ []) bytes [] a.1.0 d refl)) (λ e. refl)
    arrives calls bytes noticed.NoMemory before after a t =
        let cut = subst (λ (l : List ℕ). Takes before.link before.history [] calls before.history l) (sym (take-append-drop a.0 bytes)) t in
        follows before.link before.history calls true (Arrived (take a.0 bytes) a.2.0) (drop a.0 bytes) before after refl a.2.1
        (arrive before.link before.history [] calls before.history (take a.0 bytes) (drop a.0 bytes) (Arrived (take a.0 bytes) a.2.0) refl cut
        (λ all d. Comes all before.history (take a.0 bytes ++ drop a.0 bytes) (take a.0 bytes) (drop a.0 bytes) a.2.0 d refl))
        (λ e. absurd (false≢true (sym e)))
    arrives calls bytes noticed.NotReady before after a t = absurd a
    arrives calls bytes noticed.Idle before after a t = absurd a
    arrives calls bytes noticed.Ended before after a t = absurd a
    arrives calls bytes noticed.LinkFailed before after a t = absurd a

    hears : (told : ReadTold) (notice : Noticed) (before after : Seen K) → IsLiving before.history → before.unread ≡ [] → Hears steps told notice before after world world'
        → Took before.link before.history (Read before.link (room_after before.history) told ∷ []) (is_short notice) after
    hears (Moved bytes) notice before after living none h =
        let call = Read before.link (room_after before.history) (Moved bytes) in
        arrives (call ∷ []) bytes notice before after h.1
        (by_none before.link before.history [] call bytes (λ all d. Reads all before.history [] (room_after before.history) bytes _ bytes d refl refl) (refl, tt) refl)
    hears Unready notice before after living none h =
        let call = Read before.link (room_after before.history) Unready in
        stays before.link before.history (call ∷ []) (is_short notice) before after h.1.0 refl none
        (by_none before.link before.history [] call [] (λ all d. Reads_none all before.history [] (room_after before.history) _ d refl) (refl, tt) refl)
    hears Ended notice before after living none h =
        let call = Read before.link (room_after before.history) Ended in
        follows before.link before.history (call ∷ []) (is_short notice) (End h.1.0) [] before after refl h.1.1
        (by_event before.link before.history [] call (End h.1.0) [] refl (λ all d. Ends all before.history (room_after before.history) h.1.0 _ d living refl) (refl, tt) refl) (λ e. refl)
    hears ReadFault notice before after living none h =
        let call = Read before.link (room_after before.history) ReadFault in
        follows before.link before.history (call ∷ []) (is_short notice) (LinkFailed h.1.0) [] before after refl h.1.1
        (by_event before.link before.history [] call (LinkFailed h.1.0) [] refl (λ all d. Fails_to_read all before.history (room_after before.history) h.1.0 _ d living refl) (refl, tt) refl)
        (λ e. refl)

    reads : (b : Bool) (calls : List wire.Call) (notice : Noticed) (before after : Seen K) → is_reading before.history ≡ b → before.unread ≡ []
        → ReadsIf steps b notice before world calls after world' → Took before.link before.history calls (is_short notice) after
    reads false calls notice before after is none r = stays before.link before.history calls (is_short notice) before after r.2.0 refl none (takes_none before.link before.history [] calls r.1)
    reads true calls notice before after is none r =
        let on = subst (λ (u : List ℕ). ReadsOn steps u notice before world calls after world') none r in
        subst (λ (cs : List wire.Call). Took before.link before.history cs (is_short notice) after) (sym on.1)
        (hears on.0 notice before after (living_reads (is_living (reading before.history).known.stage) (out_after before.history) is) none on.2)

  -- ---- Writes.

  sends : (link : ℕ) (notice : Noticed) (told : WriteTold) (before middle after : History K) (world world' : World) → IsLiving before → Sends told notice before middle
      → Told steps (is_lost notice) middle world after world'
      → Takes link before [] (Write link (length (out_after before)) told ∷ []) after []
  sends link notice (Sent bytes) before middle after world world' living s t =
      let call = Write link (length (out_after before)) (Sent bytes) in
      subst (λ (h : History K). Takes link before [] (call ∷ []) h []) (sym (untold steps notice (noticed.Moved (length bytes)) middle after world world' s.0 refl t ∙ s.3))
      (by_event link before [] call (Wrote (length bytes)) [] refl (λ all d. Writes all before (length (out_after before)) bytes _ d s.2 refl) (refl, tt) refl)
  sends link notice Full before middle after world world' living s t =
      let call = Write link (length (out_after before)) Full in
      subst (λ (h : History K). Takes link before [] (call ∷ []) h []) (sym (untold steps notice noticed.NotReady middle after world world' s.0 refl t ∙ s.1))
      (by_none link before [] call [] (λ all d. Writes_none all before [] (length (out_after before)) _ d refl) (refl, tt) refl)
  sends link notice WriteFault before middle after world world' living s t =
      let call = Write link (length (out_after before)) WriteFault in
      let lost = subst (λ (b : Bool). Told steps b middle world after world') (ap is_lost s.0) t in
      subst (λ (h : History K). Takes link before [] (call ∷ []) h []) (sym (lost.1 ∙ ap (λ (h : History K). LinkFailed lost.0 ∷ h) s.1))
      (by_event link before [] call (LinkFailed lost.0) [] refl (λ all d. Fails_to_write all before (length (out_after before)) lost.0 _ d living refl) (refl, tt) refl)

  write : (b : Bool) (link : ℕ) (notice : Noticed) (before middle after : History K) (calls : List wire.Call) (world world' : World) → is_waiting before ≡ b
      → WritesIf b link notice before calls middle → Told steps (is_lost notice) middle world after world' → Takes link before [] calls after []
  write false link notice before middle after calls world world' is w t =
      subst (λ (h : History K). Takes link before [] calls h []) (sym (untold steps notice noticed.Idle middle after world world' w.0 refl t ∙ w.2)) (takes_none link before [] calls w.1)
  write true link notice before middle after calls world world' is w t =
      subst (λ (cs : List wire.Call). Takes link before [] cs after []) (sym w.1)
      (sends link notice w.0 before middle after world world' (living_waits (is_living (reading before).known.stage) (out_after before) is) w.2 t)

  writes : (link : ℕ) (before : History K) (world : World) (calls : List wire.Call) (after : History K) (world' : World) (moved : Option ℕ)
      → WritesAll steps link before world calls after world' moved → Takes link before [] calls after []
  writes link before world calls after world' moved (Stops _ _ _ _ _ _ notice w stop is) = write (is_waiting before) link notice before w.middle after calls world world' refl w.writes w.told
  writes link before world calls after world' moved (Goes_on _ _ _ _ _ _ notice own middle half other rest w some more calls_are is) =
      subst (λ (cs : List wire.Call). Takes link before [] cs after []) (sym calls_are)
      (takes_on link before middle after [] [] [] own other (write (is_waiting before) link notice before w.middle middle own world half refl w.writes w.told)
      (writes link middle half other after world' rest more))

  -- ---- A turn.

  pub turn_took : (notice : Noticed) (before after : Seen K) (calls : List wire.Call) (world world' : World) (moved : Option ℕ) → TurnsOne steps notice before world calls after world' moved
      → before.unread ≡ [] → Took before.link before.history calls (is_short notice) after
  turn_took notice before after calls world world' moved t none =
      let middle : Seen K = record { link = before.link; history = t.middle; unread = before.unread } in
      let read = reads t.half world' (is_reading t.middle) t.read notice middle after refl none t.reads in
      record {
        same = read.same;
        takes = subst (λ (cs : List wire.Call). Takes before.link before.history [] cs after.history after.unread) (sym t.calls_are)
            (takes_on before.link before.history t.middle after.history [] [] after.unread t.written t.read
            (writes before.link before.history world t.written t.middle t.half t.sent t.writes) read.takes);
        none = read.none;
      }
