-- One handle's part of a turn.
use Rattle.std.proofs.Common.{◌≡◌, ◌≢◌, ◌==◌, ℕ, Bool, true, false, not, List, [], ◌∷◌, ◌++◌, length, take, drop, Option, refl, ap, sym, subst, ◌∙◌, append_assoc, append-nil}
use Rattle.std.proofs.lemmas.Bool.{false≢true}
use Rattle.std.proofs.lemmas.List.{take-append-drop}
use Rattle.lnbd_callbacks.specs.Calls.{Call}
use Rattle.lnbd_link.specs.Call as wire
use Rattle.lnbd_link.specs.Call.{Read, Write, ReadTold, WriteTold, Moved, Unready, Ended, ReadFault, Sent, Full, WriteFault}
use Rattle.lnbd_history.specs.Answers.{direction_of, is_living, out_after}
use Rattle.lnbd_history.specs.Events.{Event, History, Wrote, Arrived, End, LinkFailed}
use Rattle.lnbd_history.specs.History.{reading}
use Rattle.lnbd_asked.specs.Driven.{Drives, Writes, Writes_none, Reads, Reads_none, Arrives as Comes, Ends, Fails_to_read, Fails_to_write, IsLiving, AllSpell}
use Rattle.lnbd_poll.specs.declared.noticed.Noticed.{Noticed}
use Rattle.lnbd_poll.specs.declared.noticed.Noticed.TheVariants as noticed
use Rattle.lnbd_poll.specs.Alone.{calls_on}
use Rattle.lnbd_poll.specs.Seen.{Seen, Follows}
use Rattle.lnbd_poll.specs.Notices.{Arrives, Hears, ReadsIf, ReadsOn, Sends, WritesIf, is_reading, is_waiting, room_after}
use Rattle.lnbd_poll.specs.Turns.{Told, WritesAll, Stops, Goes_on, TurnsOne, is_lost, is_short}
use Rattle.lnbd_drives.proofs.Modes.{mode, arrived_mode, end_mode, fault_mode}
use Rattle.lnbd_drives.proofs.Passing.{both_off, one_off, passes}

-- Only a living handle reads or writes.

living_waits : (b : Bool) (bytes : List ℕ) → (direction_of b bytes == 3) ≡ true → b ≡ true
living_waits true bytes e = refl
living_waits false bytes e = absurd (false≢true e)

living_reads : (b : Bool) (bytes : List ℕ) → not (direction_of b bytes == 0) ≡ true → b ≡ true
living_reads true bytes e = refl
living_reads false bytes e = absurd (false≢true e)

none_off : (link : ℕ) (calls : List wire.Call) → calls ≡ [] → calls_on link calls ≡ []
none_off link calls is = ap (calls_on link) is

module _ {K : Type 0} where
  -- The handle drives its link, its commands fit their requests, and opt mode is off.
  pub record Runs (link : ℕ) (calls : List wire.Call) (history : History K) (left : List ℕ) : Type 0 where
    pub drives : Drives link calls history left
    pub spelled : AllSpell history
    pub off : mode history ≡ false

  -- After its part the handle runs, and nothing is unread where memory did not run out.
  pub record Ran (link : ℕ) (calls : List wire.Call) (short : Bool) (after : Seen K) : Type 0 where
    pub same : after.link ≡ link
    pub runs : Runs link calls after.history after.unread
    pub arrived : short ≡ false → after.unread ≡ []

  pub runs_past : (link : ℕ) (calls : List wire.Call) (history : History K) (left : List ℕ) (more : List wire.Call) → Runs link calls history left → calls_on link more ≡ [] → Runs link (calls ++ more) history left
  runs_past link calls history left more r none = record { drives = passes link calls history left more r.drives none; spelled = r.spelled; off = r.off }

  no_more : (link : ℕ) (calls own : List wire.Call) (history : History K) (left : List ℕ) → own ≡ [] → Runs link calls history left → Runs link (calls ++ own) history left
  no_more link calls own history left none r = subst (λ (cs : List wire.Call). Runs link cs history left) (sym (append-nil calls) ∙ ap (λ cs. calls ++ cs) (sym none)) r

  -- Reads.

  module _ {World : Type 0} (steps : World → List (Call K) → World → Type 0) (world world' : World) where
    follows_ran : (link : ℕ) (calls : List wire.Call) (short : Bool) (event : Event K) (left : List ℕ) (before after : Seen K) → before.link ≡ link → Follows steps event left before after world world' →
        Runs link calls (event ∷ before.history) left → (short ≡ false → left ≡ []) → Ran link calls short after
    follows_ran link calls short event left before after own f r none = subst (Ran link calls short) (sym f.is) (record { same = own; runs = r; arrived = none })

    arrives_ran : (calls : List wire.Call) (bytes : List ℕ) (notice : Noticed) (before after : Seen K) → Arrives steps bytes notice before after world world' → Runs before.link calls before.history bytes → Ran before.link calls (is_short notice) after
    arrives_ran calls bytes (noticed.Moved n) before after a r = follows_ran before.link calls false (Arrived bytes a.1.0) [] before after refl a.1.1
        (record { drives = Comes calls before.history bytes bytes [] a.1.0 r.drives (sym (append-nil bytes)); spelled = (tt, r.spelled); off = arrived_mode before.history bytes a.1.0 ∙ r.off }) (λ e. refl)
    arrives_ran calls bytes noticed.NoMemory before after a r = follows_ran before.link calls true (Arrived (take a.0 bytes) a.2.0) (drop a.0 bytes) before after refl a.2.1
        (record { drives = Comes calls before.history bytes (take a.0 bytes) (drop a.0 bytes) a.2.0 r.drives (sym (take-append-drop a.0 bytes)); spelled = (tt, r.spelled); off = arrived_mode before.history (take a.0 bytes) a.2.0 ∙ r.off })
        (λ e. absurd (false≢true (sym e)))
    arrives_ran calls bytes noticed.NotReady before after a r = absurd a
    arrives_ran calls bytes noticed.Idle before after a r = absurd a
    arrives_ran calls bytes noticed.Ended before after a r = absurd a
    arrives_ran calls bytes noticed.LinkFailed before after a r = absurd a

    stays_ran : (calls : List wire.Call) (short : Bool) (before after : Seen K) → after ≡ before → before.unread ≡ [] → Runs before.link calls before.history before.unread → Ran before.link calls short after
    stays_ran calls short before after is none r = subst (Ran before.link calls short) (sym is) (record { same = refl; runs = r; arrived = λ e. none })

    hears_ran : (calls : List wire.Call) (told : ReadTold) (notice : Noticed) (before after : Seen K) → IsLiving before.history → before.unread ≡ [] → Hears steps told notice before after world world' →
        Runs before.link calls before.history [] → Ran before.link (calls ++ Read before.link (room_after before.history) told ∷ []) (is_short notice) after
    hears_ran calls (Moved bytes) notice before after living none h r = arrives_ran (calls ++ Read before.link (room_after before.history) (Moved bytes) ∷ []) bytes notice before after h.1
        (record { drives = Reads calls before.history [] (room_after before.history) bytes _ bytes r.drives refl refl; spelled = r.spelled; off = r.off })
    hears_ran calls Unready notice before after living none h r = stays_ran (calls ++ Read before.link (room_after before.history) Unready ∷ []) (is_short notice) before after h.1.0 none
        (subst (Runs before.link (calls ++ Read before.link (room_after before.history) Unready ∷ []) before.history) (sym none) (record { drives = Reads_none calls before.history [] (room_after before.history) _ r.drives refl; spelled = r.spelled; off = r.off }))
    hears_ran calls Ended notice before after living none h r = follows_ran before.link (calls ++ Read before.link (room_after before.history) Ended ∷ []) (is_short notice) (End h.1.0) [] before after refl h.1.1
        (record { drives = Ends calls before.history (room_after before.history) h.1.0 _ r.drives living refl; spelled = (tt, r.spelled); off = end_mode before.history h.1.0 ∙ r.off }) (λ e. refl)
    hears_ran calls ReadFault notice before after living none h r = follows_ran before.link (calls ++ Read before.link (room_after before.history) ReadFault ∷ []) (is_short notice) (LinkFailed h.1.0) [] before after refl h.1.1
        (record { drives = Fails_to_read calls before.history (room_after before.history) h.1.0 _ r.drives living refl; spelled = (tt, r.spelled); off = fault_mode before.history h.1.0 ∙ r.off }) (λ e. refl)

    reads_ran : (b : Bool) (calls own : List wire.Call) (notice : Noticed) (before after : Seen K) → is_reading before.history ≡ b → before.unread ≡ [] → ReadsIf steps b notice before world own after world' →
        Runs before.link calls before.history [] → Ran before.link (calls ++ own) (is_short notice) after
    reads_ran false calls own notice before after is none reads r =
        stays_ran (calls ++ own) (is_short notice) before after reads.2.0 none (no_more before.link calls own before.history before.unread reads.1 (subst (Runs before.link calls before.history) (sym none) r))
    reads_ran true calls own notice before after is none reads r =
        let on = subst (λ (u : List ℕ). ReadsOn steps u notice before world own after world') none reads in
        subst (λ (cs : List wire.Call). Ran before.link (calls ++ cs) (is_short notice) after) (sym on.1)
        (hears_ran calls on.0 notice before after (living_reads (is_living (reading before.history).known.stage) (out_after before.history) is) none on.2 r)

  -- Writes.

  told_none : {World : Type 0} (steps : World → List (Call K) → World → Type 0) (lost : Bool) (middle after : History K) (world world' : World) → lost ≡ false → Told steps lost middle world after world' → after ≡ middle
  told_none steps false middle after world world' is t = t.0
  told_none steps true middle after world world' is t = absurd (false≢true (sym is))

  module _ {World : Type 0} (steps : World → List (Call K) → World → Type 0) (link : ℕ) where
    sends_run : (calls : List wire.Call) (before middle after : History K) (world world' : World) (offered : ℕ) (notice : Noticed) (told : WriteTold) → IsLiving before → Sends told notice before middle →
        Told steps (is_lost notice) middle world after world' → Runs link calls before [] → Runs link (calls ++ Write link offered told ∷ []) after []
    sends_run calls before middle after world world' offered notice (Sent bytes) living s t r =
        let is : after ≡ Wrote (length bytes) ∷ before = told_none steps (is_lost notice) middle after world world' (ap is_lost s.0) t ∙ s.3 in
        subst (λ (h : History K). Runs link (calls ++ Write link offered (Sent bytes) ∷ []) h []) (sym is)
        (record { drives = Writes calls before offered bytes _ r.drives s.2 refl; spelled = (tt, r.spelled); off = r.off })
    sends_run calls before middle after world world' offered notice Full living s t r =
        let is : after ≡ before = told_none steps (is_lost notice) middle after world world' (ap is_lost s.0) t ∙ s.1 in
        subst (λ (h : History K). Runs link (calls ++ Write link offered Full ∷ []) h []) (sym is)
        (record { drives = Writes_none calls before [] offered _ r.drives refl; spelled = r.spelled; off = r.off })
    sends_run calls before middle after world world' offered notice WriteFault living s t r =
        let told = subst (λ (b : Bool). Told steps b middle world after world') (ap is_lost s.0) t in
        let is : after ≡ LinkFailed told.0 ∷ before = told.1 ∙ ap (λ (h : History K). LinkFailed told.0 ∷ h) s.1 in
        subst (λ (h : History K). Runs link (calls ++ Write link offered WriteFault ∷ []) h []) (sym is)
        (record { drives = Fails_to_write calls before offered told.0 _ r.drives living refl; spelled = (tt, r.spelled); off = fault_mode before told.0 ∙ r.off })

    writes_run : (b : Bool) (calls own : List wire.Call) (before middle after : History K) (world world' : World) (notice : Noticed) → is_waiting before ≡ b → WritesIf b link notice before own middle →
        Told steps (is_lost notice) middle world after world' → Runs link calls before [] → Runs link (calls ++ own) after []
    writes_run false calls own before middle after world world' notice is w t r =
        let same : after ≡ before = told_none steps (is_lost notice) middle after world world' (ap is_lost w.0) t ∙ w.2 in
        subst (λ (h : History K). Runs link (calls ++ own) h []) (sym same) (no_more link calls own before [] w.1 r)
    writes_run true calls own before middle after world world' notice is w t r =
        subst (λ (cs : List wire.Call). Runs link (calls ++ cs) after []) (sym w.1)
        (sends_run calls before middle after world world' (length (out_after before)) notice w.0 (living_waits (is_living (reading before).known.stage) (out_after before) is) w.2 t r)

    all_run : (calls : List wire.Call) (before : History K) (world : World) (own : List wire.Call) (after : History K) (world' : World) (moved : Option ℕ) → WritesAll steps link before world own after world' moved →
        Runs link calls before [] → Runs link (calls ++ own) after []
    all_run calls before world own after world' moved (Stops _ _ _ _ _ _ notice w none is) r = writes_run (is_waiting before) calls own before w.middle after world world' notice refl w.writes w.told r
    all_run calls before world own after world' moved (Goes_on _ _ _ _ _ _ notice mine middle half other rest w some others is moved_is) r =
        subst (λ (cs : List wire.Call). Runs link cs after []) (append_assoc calls mine other ∙ ap (λ cs. calls ++ cs) (sym is))
        (all_run (calls ++ mine) middle half other after world' rest others (writes_run (is_waiting before) calls mine before w.middle middle world half notice refl w.writes w.told r))

  -- The whole part.

  pub part_ran : {World : Type 0} (steps : World → List (Call K) → World → Type 0) (calls : List wire.Call) (notice : Noticed) (before : Seen K) (world : World) (own : List wire.Call) (after : Seen K) (world' : World) (moved : Option ℕ) →
      TurnsOne steps notice before world own after world' moved → before.unread ≡ [] → Runs before.link calls before.history [] → Ran before.link (calls ++ own) (is_short notice) after
  part_ran steps calls notice before world own after world' moved t none r =
      subst (λ (cs : List wire.Call). Ran before.link cs (is_short notice) after) (append_assoc calls t.written t.read ∙ ap (λ cs. calls ++ cs) (sym t.calls_are))
      (reads_ran steps t.half world' (is_reading t.middle) (calls ++ t.written) t.read notice (record { link = before.link; history = t.middle; unread = before.unread }) after refl none t.reads
      (all_run steps before.link calls before.history world t.written t.middle t.half t.sent t.writes r))

  -- Its calls are on its link.

  write_off : (b : Bool) (link n : ℕ) (notice : Noticed) (before after : History K) (calls : List wire.Call) → n ≢ link → WritesIf b n notice before calls after → calls_on link calls ≡ []
  write_off false link n notice before after calls differ w = none_off link calls w.1
  write_off true link n notice before after calls differ w = ap (calls_on link) w.1 ∙ one_off link n (Write n (length (out_after before)) w.0) refl differ

  module _ {World : Type 0} (steps : World → List (Call K) → World → Type 0) (link : ℕ) where
    read_off : (b : Bool) (unread : List ℕ) (notice : Noticed) (before after : Seen K) (world world' : World) (calls : List wire.Call) → before.link ≢ link → before.unread ≡ unread → ReadsIf steps b notice before world calls after world' → calls_on link calls ≡ []
    read_off false unread notice before after world world' calls differ is r = none_off link calls r.1
    read_off true unread notice before after world world' calls differ is r = go unread (subst (λ (u : List ℕ). ReadsOn steps u notice before world calls after world') is r)
      where
        go : (u : List ℕ) → ReadsOn steps u notice before world calls after world' → calls_on link calls ≡ []
        go [] r = ap (calls_on link) r.1 ∙ one_off link before.link (Read before.link (room_after before.history) r.0) refl differ
        go (byte ∷ bytes) r = none_off link calls r.0

    writes_off : (n : ℕ) (before : History K) (world : World) (calls : List wire.Call) (after : History K) (world' : World) (moved : Option ℕ) → n ≢ link → WritesAll steps n before world calls after world' moved → calls_on link calls ≡ []
    writes_off n before world calls after world' moved differ (Stops _ _ _ _ _ _ notice w none is) = write_off (is_waiting before) link n notice before w.middle calls differ w.writes
    writes_off n before world calls after world' moved differ (Goes_on _ _ _ _ _ _ notice own middle half other rest w some others is moved_is) =
        ap (calls_on link) is ∙ both_off link own other (write_off (is_waiting before) link n notice before w.middle own differ w.writes) (writes_off n middle half other after world' rest differ others)

    pub part_off : (notice : Noticed) (before : Seen K) (world : World) (calls : List wire.Call) (after : Seen K) (world' : World) (moved : Option ℕ) → before.link ≢ link → TurnsOne steps notice before world calls after world' moved → calls_on link calls ≡ []
    part_off notice before world calls after world' moved differ t =
        ap (calls_on link) t.calls_are ∙ both_off link t.written t.read
        (writes_off before.link before.history world t.written t.middle t.half t.sent differ t.writes)
        (read_off (is_reading t.middle) before.unread notice (record { link = before.link; history = t.middle; unread = before.unread }) after t.half world' t.read differ refl t.reads)
