-- The calls on callbacks that turns make, and the world to which they lead.
use Rattle.std.proofs.Common.{◌≡◌, ℕ, Bool, true, false, List, [], ◌∷◌, ◌++◌, Option, Some, None, Result, append_assoc, refl, sym, ◌∙◌, ap, subst}
use Rattle.std.proofs.lemmas.List.{append-nil}
use Rattle.lnbd_callbacks.specs.Calls.{Call}
use Rattle.lnbd_history.specs.Entries as entries
use Rattle.lnbd_history.specs.Events.{Event, History, Arrived, End, LinkFailed}
use Rattle.lnbd_history.specs.History.{reading}
use Rattle.lnbd_handle.specs.Histories.{Plays}
use Rattle.lnbd_link.specs.Call as wire
use Rattle.lnbd_link.specs.Call.{ReadTold, WriteTold, Moved, Unready, Ended, ReadFault, Sent, Full, WriteFault}
use Rattle.lnbd_poll.specs.declared.noticed.Noticed.{Noticed}
use Rattle.lnbd_poll.specs.declared.noticed.Noticed.TheVariants as noticed
use Rattle.lnbd_poll.specs.Seen.{Follows, Seen}
use Rattle.lnbd_poll.specs.Notices.{Arrives, Hears, ReadsIf, ReadsOn, Sends, WritesIf, is_reading, is_waiting}
use Rattle.lnbd_poll.specs.Turns.{Goes_on, Stops, Told, TurnsOne, WritesAll, is_lost}
use Rattle.lnbd_waits.specs.declared.waiting.Awaited.{Awaited}
use Rattle.lnbd_waits.specs.declared.waiting.Halt.{Halt}
use Rattle.lnbd_waits.specs.Waits.{Is_silent, Is_still, Is_there, Moves, Runs_short, Waits}

module _ {K World : Type 0} (steps : World → List (Call K) → World → Type 0) (empty : (w : World) → steps w [] w) (append : (a b c : World) (xs ys : List (Call K)) → steps a xs b → steps b ys c → steps a (xs ++ ys) c) where
  -- The later history has these calls more, and they lead from one world to the other.
  pub record Made (before after : History K) (world world' : World) : Type 0 where
    pub made : List (Call K)
    pub more : entries.calls (reading after).known.entries ≡ entries.calls (reading before).known.entries ++ made
    pub leads : steps world made world'

  made_none : (before after : History K) (world world' : World) → after ≡ before → world' ≡ world → Made before after world world'
  made_none before after world world' same still = record {
    made = [];
    more = ap (λ (h : History K). entries.calls (reading h).known.entries) same ∙ sym (append-nil (entries.calls (reading before).known.entries));
    leads = subst (λ (w : World). steps world [] w) (sym still) (empty world);
  }

  made_on : (a b c : History K) (u v w : World) → Made a b u v → Made b c v w → Made a c u w
  made_on a b c u v w one two = record {
    made = one.made ++ two.made;
    more = two.more ∙ ap (λ (l : List (Call K)). l ++ two.made) one.more ∙ append_assoc (entries.calls (reading a).known.entries) one.made two.made;
    leads = append u v w one.made two.made one.leads two.leads;
  }

  made_by : (event : Event K) (before after : History K) (world world' : World) → after ≡ event ∷ before → Plays steps event before world world' → Made before after world world'
  made_by event before after world world' is plays = record {
    made = plays.calls;
    more = ap (λ (h : History K). entries.calls (reading h).known.entries) is ∙ plays.told;
    leads = plays.world;
  }

  made_told : (b : Bool) (middle after : History K) (world world' : World) → Told steps b middle world after world' → Made middle after world world'
  made_told true middle after world world' told = made_by (LinkFailed told.0) middle after world world' told.1 told.2
  made_told false middle after world world' told = made_none middle after world world' told.0 told.1

  made_sent : (told : WriteTold) (notice : Noticed) (before middle : History K) (world : World) → Sends told notice before middle → Made before middle world world
  made_sent (Sent bytes) notice before middle world s =
      let same : entries.calls (reading middle).known.entries ≡ entries.calls (reading before).known.entries = ap (λ (h : History K). entries.calls (reading h).known.entries) s.3 in
      record { made = []; more = same ∙ sym (append-nil (entries.calls (reading before).known.entries)); leads = empty world }
  made_sent Full notice before middle world s = made_none before middle world world s.1 refl
  made_sent WriteFault notice before middle world s = made_none before middle world world s.1 refl

  made_write : (b : Bool) (link : ℕ) (notice : Noticed) (before middle : History K) (calls : List wire.Call) (world : World) → WritesIf b link notice before calls middle → Made before middle world world
  made_write true link notice before middle calls world w = made_sent w.0 notice before middle world w.2
  made_write false link notice before middle calls world w = made_none before middle world world w.2 refl

  made_writes : (link : ℕ) (before : History K) (world : World) (calls : List wire.Call) (after : History K) (world' : World) (moved : Option ℕ) → WritesAll steps link before world calls after world' moved → Made before after world world'
  made_writes link before world calls after world' moved (Stops _ _ _ _ _ _ notice w stop is) =
      made_on before w.middle after world world world' (made_write (is_waiting before) link notice before w.middle calls world w.writes) (made_told (is_lost notice) w.middle after world world' w.told)
  made_writes link before world calls after world' moved (Goes_on _ _ _ _ _ _ notice own middle half other rest w some more calls_are is) =
      made_on before middle after world half world'
      (made_on before w.middle middle world world half (made_write (is_waiting before) link notice before w.middle own world w.writes) (made_told (is_lost notice) w.middle middle world half w.told))
      (made_writes link middle half other after world' rest more)

  made_follows : (event : Event K) (unread : List ℕ) (before after : Seen K) (world world' : World) → Follows steps event unread before after world world' → Made before.history after.history world world'
  made_follows event unread before after world world' f = made_by event before.history after.history world world' (ap (λ (s : Seen K). s.history) f.is) f.plays

  made_arrives : (bytes : List ℕ) (notice : Noticed) (before after : Seen K) (world world' : World) → Arrives steps bytes notice before after world world' → Made before.history after.history world world'
  made_arrives bytes (noticed.Moved n) before after world world' a = made_follows (Arrived bytes a.1.0) [] before after world world' a.1.1
  made_arrives bytes noticed.NoMemory before after world world' a = made_follows _ _ before after world world' a.2.1
  made_arrives bytes noticed.NotReady before after world world' a = absurd a
  made_arrives bytes noticed.Idle before after world world' a = absurd a
  made_arrives bytes noticed.Ended before after world world' a = absurd a
  made_arrives bytes noticed.LinkFailed before after world world' a = absurd a

  made_hears : (told : ReadTold) (notice : Noticed) (before after : Seen K) (world world' : World) → Hears steps told notice before after world world' → Made before.history after.history world world'
  made_hears (Moved bytes) notice before after world world' h = made_arrives bytes notice before after world world' h.1
  made_hears Unready notice before after world world' h = made_none before.history after.history world world' (ap (λ (s : Seen K). s.history) h.1.0) h.1.1
  made_hears Ended notice before after world world' h = made_follows (End h.1.0) [] before after world world' h.1.1
  made_hears ReadFault notice before after world world' h = made_follows (LinkFailed h.1.0) [] before after world world' h.1.1

  made_reads_on : (unread : List ℕ) (notice : Noticed) (before after : Seen K) (calls : List wire.Call) (world world' : World) → ReadsOn steps unread notice before world calls after world' → Made before.history after.history world world'
  made_reads_on [] notice before after calls world world' r = made_hears r.0 notice before after world world' r.2
  made_reads_on (byte ∷ bytes) notice before after calls world world' r = made_arrives (byte ∷ bytes) notice before after world world' r.1

  made_read : (b : Bool) (notice : Noticed) (before after : Seen K) (calls : List wire.Call) (world world' : World) → ReadsIf steps b notice before world calls after world' → Made before.history after.history world world'
  made_read false notice before after calls world world' r = made_none before.history after.history world world' (ap (λ (s : Seen K). s.history) r.2.0) r.2.1
  made_read true notice before after calls world world' r = made_reads_on before.unread notice before after calls world world' r

  made_turn : (notice : Noticed) (before after : Seen K) (calls : List wire.Call) (world world' : World) (moved : Option ℕ) → TurnsOne steps notice before world calls after world' moved → Made before.history after.history world world'
  made_turn notice before after calls world world' moved t =
      let middle : Seen K = record { link = before.link; history = t.middle; unread = before.unread } in
      made_on before.history t.middle after.history world t.half world' (made_writes before.link before.history world t.written t.middle t.half t.sent t.writes) (made_read (is_reading t.middle) notice middle after t.read t.half world' t.reads)

  -- so it is of all turns of a wait
  pub made_waiting : (awaited : Awaited) (before : Seen K) (world : World) (calls : List wire.Call) (after : Seen K) (world' : World) (end : Result (Unit {0}) Halt) → Waits steps awaited before world calls after world' end → Made before.history after.history world world'
  made_waiting awaited before world calls after world' end (Is_there _ _ _ _ _ _ there none same world_is end_is) = made_none before.history after.history world world' (ap (λ (s : Seen K). s.history) same) world_is
  made_waiting awaited before world calls after world' end (Moves _ _ _ _ _ _ notice n own middle half other busy turns enough rest calls_are) =
      made_on before.history middle.history after.history world half world' (made_turn notice before middle own world half (Some n) turns) (made_waiting awaited middle half other after world' end rest)
  made_waiting awaited before world calls after world' end (Is_still _ _ _ _ _ _ notice own middle half other busy turns enough rest calls_are) =
      made_on before.history middle.history after.history world half world' (made_turn notice before middle own world half None turns) (made_waiting awaited middle half other after world' end rest)
  made_waiting awaited before world calls after world' end (Is_silent _ _ _ _ _ _ notice own busy turns enough calls_are end_is) = made_turn notice before after own world world' None turns
  made_waiting awaited before world calls after world' end (Runs_short _ _ _ _ _ _ moved busy turns end_is) = made_turn noticed.NoMemory before after calls world world' moved turns
