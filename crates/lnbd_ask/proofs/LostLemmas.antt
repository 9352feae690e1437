-- A handle dies by a failed link only where a call failed.
use Rattle.std.proofs.Common.{◌≡◌, ◌||◌, ℕ, zero, suc, Bool, true, false, List, [], ◌∷◌, ◌++◌, Option, Some, None, Result, length, take, refl, sym, ◌∙◌, ap, subst, if◌then◌else◌}
use Rattle.std.proofs.lemmas.Bool.{false≢true}
use Rattle.std.proofs.lemmas.List.Folds.{list_any-append}
use Rattle.std.specs.List.{list_any}
use Rattle.lnbd_model.specs.declared.state.Cause.{Cause}
use Rattle.lnbd_model.specs.declared.state.Cause.TheVariants as cause
use Rattle.lnbd_model.specs.declared.state.State.TheVariants as state
use Rattle.lnbd_stream.specs.Stream.{Held}
use Rattle.lnbd_stream.proofs.Stream.{feed_lasts}
use Rattle.lnbd_callbacks.specs.Calls.{Call}
use Rattle.lnbd_history.specs.declared.kinds.Phase.{Phase}
use Rattle.lnbd_history.specs.declared.kinds.Phase.TheVariants as phase
use Rattle.lnbd_history.specs.declared.kinds.Stage.{Stage}
use Rattle.lnbd_history.specs.declared.kinds.Stage.TheVariants.{Created, Open, Disconnecting, Aborting, Closed, Dead}
use Rattle.lnbd_history.specs.Agreement.{Replied}
use Rattle.lnbd_history.specs.Answers.{out_after, state_after, state_at}
use Rattle.lnbd_history.specs.Arrivals.{Shown, Hello, OptionReply, ExportReply, Reply, Broken, Passed, Ignored}
use Rattle.lnbd_history.specs.Commands.{Request}
use Rattle.lnbd_history.specs.Entries.{Item, Framed, Lost}
use Rattle.lnbd_history.specs.Events.{Answer, Event, History, Arrived, End}
use Rattle.lnbd_history.specs.History.{Known, asked, change, cookies, die, ended_at, ended_closing, entered, file, file_all, file_under, flying, if_refused, in_flight, reading, request, rules, turned, with_answers}
use Rattle.lnbd_link.specs.Call as wire
use Rattle.lnbd_link.specs.Call.{ReadTold, Write, WriteTold, Moved, Unready, Ended, ReadFault, Sent, Full, WriteFault}
use Rattle.lnbd_link.specs.Listed.{has_failed}
use Rattle.lnbd_poll.specs.declared.noticed.Noticed.{Noticed}
use Rattle.lnbd_poll.specs.declared.noticed.Noticed.TheVariants as noticed
use Rattle.lnbd_poll.specs.Seen.{Follows, Seen}
use Rattle.lnbd_poll.specs.Notices.{Arrives, Hears, ReadsIf, ReadsOn, Sends, WritesIf, is_reading, is_waiting, room_after}
use Rattle.lnbd_poll.specs.Turns.{Goes_on, Stops, Told, TurnsOne, WritesAll, is_lost}
use Rattle.lnbd_waits.specs.declared.waiting.Awaited.{Awaited}
use Rattle.lnbd_waits.specs.declared.waiting.Halt.{Halt}
use Rattle.lnbd_ask.specs.Asks.{Breaks_off, Parts, Talks, begins, disconnecting, is_ready, parting}
use Rattle.lnbd_waits.proofs.StillLemmas.{untold}
use Rattle.lnbd_waits.specs.Waits.{Is_silent, Is_still, Is_there, Moves, Runs_short, Waits}

abbrev pub is_link_failed : Cause → Bool
is_link_failed (cause.Broke breach) = false
is_link_failed (cause.Refused option code) = false
is_link_failed cause.Ended = false
is_link_failed cause.LinkFailed = true

abbrev pub has_lost : Stage → Bool
has_lost Created = false
has_lost Open = false
has_lost Disconnecting = false
has_lost Aborting = false
has_lost Closed = false
has_lost (Dead cause) = is_link_failed cause

pub lost_stage : (s : Stage) (p : Phase) → state_at s p ≡ state.Dead cause.LinkFailed → has_lost s ≡ true
lost_stage Created p e = cc
lost_stage Disconnecting p e = cc
lost_stage Aborting p e = cc
lost_stage Closed p e = cc
lost_stage (Dead why) p e = let same : why ≡ cause.LinkFailed = cc in ap is_link_failed same
lost_stage Open phase.Greeting e = cc
lost_stage Open (phase.Asked option) e = cc
lost_stage Open phase.AskedByName e = cc
lost_stage Open phase.OptMode e = cc
lost_stage Open phase.Ready e = cc
lost_stage Open (phase.Refused code) e = cc

module _ {K : Type 0} where
  abbrev pub Kept : Known K → Type 0
  Kept known = has_lost known.stage ≡ false

  under_stage : (asks : Option (Request K)) (cookie : ℕ) (item : Item) (known : Known K) → (file_under asks cookie item known).stage ≡ known.stage
  under_stage None cookie item known = refl
  under_stage (Some asks) cookie item known = refl

  all_stage : (before : History K) (item : Item) (cookies : List ℕ) (known : Known K) → (file_all before item cookies known).stage ≡ known.stage
  all_stage before item [] known = refl
  all_stage before item (cookie ∷ cookies) known =
      all_stage before item cookies (if in_flight before known.entries cookie then file before cookie item known else known) ∙ either (in_flight before known.entries cookie)
    where
      either : (b : Bool) → (if b then file before cookie item known else known).stage ≡ known.stage
      either true = under_stage (request before cookie) cookie item known
      either false = refl

  die_stage : (before : History K) (cause : Cause) (known : Known K) → (die before cause known).stage ≡ Dead cause
  die_stage before cause known = all_stage before Lost (cookies (asked before).issued) (record known { stage = Dead cause })

  die_kept : (before : History K) (cause : Cause) (known : Known K) → is_link_failed cause ≡ false → Kept (die before cause known)
  die_kept before cause known is = ap has_lost (die_stage before cause known) ∙ is

  refused_kept : (p : Phase) (before : History K) (known : Known K) → Kept known → Kept (if_refused p before known)
  refused_kept (phase.Refused code) before known kept = die_kept before (cause.Refused 7 code) known refl
  refused_kept phase.Greeting before known kept = kept
  refused_kept (phase.Asked option) before known kept = kept
  refused_kept phase.AskedByName before known kept = kept
  refused_kept phase.OptMode before known kept = kept
  refused_kept phase.Ready before known kept = kept

  entered_kept : (before : History K) (found : Shown) (known : Known K) → Kept known → Kept (entered before found known)
  entered_kept before (Hello flags) known kept = kept
  entered_kept before (OptionReply told) known kept = refused_kept _ before (turned (Replied told) known) kept
  entered_kept before (ExportReply size flags) known kept = kept
  entered_kept before (Reply frame) known kept = ap has_lost (under_stage (request before frame.cookie) frame.cookie (Framed frame.content frame.last) known) ∙ kept
  entered_kept before (Broken breach) known kept = die_kept before (cause.Broke breach) known refl
  entered_kept before Passed known kept = kept
  entered_kept before Ignored known kept = kept

  abbrev pub IsKept : History K → Type 0
  IsKept history = Kept (reading history).known

  arrived_kept : (before : History K) (bytes : List ℕ) (answers : List Answer) → IsKept before → IsKept (Arrived bytes answers ∷ before)
  arrived_kept before bytes answers kept = feed_lasts (rules before) Kept (λ known shown found is e. entered_kept before found known is) (change (with_answers answers) (reading before)) bytes kept

  closing_kept : (n : ℕ) (before : History K) (known : Known K) → Kept (ended_closing n before known)
  closing_kept zero before known = refl
  closing_kept (suc n) before known = die_kept before cause.Ended known refl

  ended_at_kept : (s : Stage) (before : History K) (held : Held (Known K)) → Kept held.known → Kept (ended_at s before held).known
  ended_at_kept Open before held kept = die_kept before cause.Ended held.known refl
  ended_at_kept Disconnecting before held kept = closing_kept (flying before held.known.entries (asked before).issued) before held.known
  ended_at_kept Aborting before held kept = closing_kept (flying before held.known.entries (asked before).issued) before held.known
  ended_at_kept Created before held kept = kept
  ended_at_kept Closed before held kept = kept
  ended_at_kept (Dead cause) before held kept = kept

  ended_kept : (before : History K) (answers : List Answer) → IsKept before → IsKept (End answers ∷ before)
  ended_kept before answers kept = ended_at_kept (reading before).known.stage before (change (with_answers answers) (reading before)) kept

  pub parting_kept : (b : Bool) (history : History K) → IsKept history → IsKept (disconnecting b history)
  parting_kept true history kept = refl
  parting_kept false history kept = kept

-- No call failed.
abbrev pub AllWell : List wire.Call → Type 0
AllWell calls = list_any has_failed calls ≡ false

pub well_first : (xs ys : List wire.Call) → AllWell (xs ++ ys) → AllWell xs
well_first xs ys well = go (list_any has_failed xs) (list_any has_failed ys) (sym (list_any-append has_failed xs ys) ∙ well)
  where
    go : (a b : Bool) → (a || b) ≡ false → a ≡ false
    go false b e = refl
    go true b e = e

pub well_later : (xs ys : List wire.Call) → AllWell (xs ++ ys) → AllWell ys
well_later xs ys well = go (list_any has_failed xs) (list_any has_failed ys) (sym (list_any-append has_failed xs ys) ∙ well)
  where
    go : (a b : Bool) → (a || b) ≡ false → b ≡ false
    go false b e = e
    go true b e = absurd (false≢true (sym e))

module _ {K World : Type 0} (steps : World → List (Call K) → World → Type 0) where
  write_kept : (b : Bool) (link : ℕ) (notice : Noticed) (before middle after : History K) (calls : List wire.Call) (world world' : World) → WritesIf b link notice before calls middle → Told steps (is_lost notice) middle world after world' → AllWell calls → IsKept before → IsKept after
  write_kept false link notice before middle after calls world world' w t well kept = subst IsKept (sym (untold steps notice noticed.Idle middle after world world' w.0 refl t ∙ w.2)) kept
  write_kept true link notice before middle after calls world world' w t well kept = go w.0 w.1 w.2
    where
      go : (told : WriteTold) → calls ≡ Write link (length (out_after before)) told ∷ [] → Sends told notice before middle → IsKept after
      go (Sent bytes) is s = subst IsKept (sym (untold steps notice (noticed.Moved (length bytes)) middle after world world' s.0 refl t ∙ s.3)) kept
      go Full is s = subst IsKept (sym (untold steps notice noticed.NotReady middle after world world' s.0 refl t ∙ s.1)) kept
      go WriteFault is s = absurd (false≢true (sym well ∙ ap (list_any has_failed) is))

  writes_kept : (link : ℕ) (before : History K) (world : World) (calls : List wire.Call) (after : History K) (world' : World) (moved : Option ℕ) → WritesAll steps link before world calls after world' moved → AllWell calls → IsKept before → IsKept after
  writes_kept link before world calls after world' moved (Stops _ _ _ _ _ _ notice w stop is) well kept = write_kept (is_waiting before) link notice before w.middle after calls world world' w.writes w.told well kept
  writes_kept link before world calls after world' moved (Goes_on _ _ _ _ _ _ notice own middle half other rest w some more calls_are is) well kept =
      let well' = subst AllWell calls_are well in
      writes_kept link middle half other after world' rest more (well_later own other well') (write_kept (is_waiting before) link notice before w.middle middle own world half w.writes w.told (well_first own other well') kept)

  follows_kept : (event : Event K) (unread : List ℕ) (before after : Seen K) (world world' : World) → Follows steps event unread before after world world' → IsKept (event ∷ before.history) → IsKept after.history
  follows_kept event unread before after world world' f kept = subst IsKept (sym (ap (λ (s : Seen K). s.history) f.is)) kept

  arrives_kept : (bytes : List ℕ) (notice : Noticed) (before after : Seen K) (world world' : World) → Arrives steps bytes notice before after world world' → IsKept before.history → IsKept after.history
  arrives_kept bytes (noticed.Moved n) before after world world' a kept = follows_kept (Arrived bytes a.1.0) [] before after world world' a.1.1 (arrived_kept before.history bytes a.1.0 kept)
  arrives_kept bytes noticed.NoMemory before after world world' a kept = follows_kept _ _ before after world world' a.2.1 (arrived_kept before.history (take a.0 bytes) a.2.0 kept)
  arrives_kept bytes noticed.NotReady before after world world' a kept = absurd a
  arrives_kept bytes noticed.Idle before after world world' a kept = absurd a
  arrives_kept bytes noticed.Ended before after world world' a kept = absurd a
  arrives_kept bytes noticed.LinkFailed before after world world' a kept = absurd a

  read_kept : (b : Bool) (notice : Noticed) (before after : Seen K) (calls : List wire.Call) (world world' : World) → ReadsIf steps b notice before world calls after world' → AllWell calls → IsKept before.history → IsKept after.history
  read_kept false notice before after calls world world' r well kept = subst (λ (s : Seen K). IsKept s.history) (sym r.2.0) kept
  read_kept true notice before after calls world world' r well kept = on before.unread r
    where
      hears : (told : ReadTold) → calls ≡ wire.Read before.link (room_after before.history) told ∷ [] → Hears steps told notice before after world world' → IsKept after.history
      hears (Moved bytes) is h = arrives_kept bytes notice before after world world' h.1 kept
      hears Unready is h = subst (λ (s : Seen K). IsKept s.history) (sym h.1.0) kept
      hears Ended is h = follows_kept (End h.1.0) [] before after world world' h.1.1 (ended_kept before.history h.1.0 kept)
      hears ReadFault is h = absurd (false≢true (sym well ∙ ap (list_any has_failed) is))

      on : (unread : List ℕ) → ReadsOn steps unread notice before world calls after world' → IsKept after.history
      on [] r = hears r.0 r.1 r.2
      on (byte ∷ bytes) r = arrives_kept (byte ∷ bytes) notice before after world world' r.1 kept

  turn_kept : (notice : Noticed) (before after : Seen K) (calls : List wire.Call) (world world' : World) (moved : Option ℕ) → TurnsOne steps notice before world calls after world' moved → AllWell calls → IsKept before.history → IsKept after.history
  turn_kept notice before after calls world world' moved t well kept =
      let well' = subst AllWell t.calls_are well in
      let middle : Seen K = record { link = before.link; history = t.middle; unread = before.unread } in
      read_kept (is_reading t.middle) notice middle after t.read t.half world' t.reads (well_later t.written t.read well') (writes_kept before.link before.history world t.written t.middle t.half t.sent t.writes (well_first t.written t.read well') kept)

  pub waits_kept : (awaited : Awaited) (before : Seen K) (world : World) (calls : List wire.Call) (after : Seen K) (world' : World) (end : Result (Unit {0}) Halt) → Waits steps awaited before world calls after world' end → AllWell calls → IsKept before.history → IsKept after.history
  waits_kept awaited before world calls after world' end (Is_there _ _ _ _ _ _ there none same world_is end_is) well kept = subst (λ (s : Seen K). IsKept s.history) (sym same) kept
  waits_kept awaited before world calls after world' end (Moves _ _ _ _ _ _ notice n own middle half other busy turns enough rest calls_are) well kept =
      let well' = subst AllWell calls_are well in
      waits_kept awaited middle half other after world' end rest (well_later own other well') (turn_kept notice before middle own world half (Some n) turns (well_first own other well') kept)
  waits_kept awaited before world calls after world' end (Is_still _ _ _ _ _ _ notice own middle half other busy turns enough rest calls_are) well kept =
      let well' = subst AllWell calls_are well in
      waits_kept awaited middle half other after world' end rest (well_later own (_ ∷ other) well') (turn_kept notice before middle own world half None turns (well_first own (_ ∷ other) well') kept)
  waits_kept awaited before world calls after world' end (Is_silent _ _ _ _ _ _ notice own busy turns enough calls_are end_is) well kept =
      turn_kept notice before after own world world' None turns (well_first own (_ ∷ []) (subst AllWell calls_are well)) kept
  waits_kept awaited before world calls after world' end (Runs_short _ _ _ _ _ _ moved busy turns end_is) well kept = turn_kept noticed.NoMemory before after calls world world' moved turns well kept

  talks_kept : (before : Seen K) (world : World) (calls : List wire.Call) (after : Seen K) (world' : World) (end : Result (Unit {0}) Halt) → Talks steps before world calls after world' end → AllWell calls → IsKept before.history → IsKept after.history
  talks_kept before world calls after world' end (Breaks_off _ _ _ _ _ _ why waits end_is) well kept = waits_kept _ before world calls after world' _ waits well kept
  talks_kept before world calls after world' end (Parts _ _ _ _ _ _ own middle half other first second calls_are) well kept =
      let well' = subst AllWell calls_are well in
      waits_kept _ (parting middle) half other after world' end second (well_later own other well') (parting_kept (is_ready (state_after middle.history)) middle.history (waits_kept _ before world own middle half _ first (well_first own other well') kept))

  -- A handle that was not dead by a failed link, and now is: a call failed.
  pub lost_by_call : (before : Seen K) (world : World) (calls : List wire.Call) (after : Seen K) (world' : World) (end : Result (Unit {0}) Halt) → Talks steps before world calls after world' end → has_lost (reading before.history).known.stage ≡ false
      → state_after after.history ≡ state.Dead cause.LinkFailed → list_any has_failed calls ≡ true
  lost_by_call before world calls after world' end talks kept lost = go (list_any has_failed calls) refl
    where
      go : (b : Bool) → list_any has_failed calls ≡ b → b ≡ true
      go true is = refl
      go false is = sym (talks_kept before world calls after world' end talks is kept) ∙ lost_stage _ _ lost

  -- So it is from the start.
  pub lost_from_start : (link : ℕ) (name context : List ℕ) (world : World) (calls : List wire.Call) (after : Seen K) (world' : World) (end : Result (Unit {0}) Halt) → Talks steps (begins link name context) world calls after world' end
      → state_after after.history ≡ state.Dead cause.LinkFailed → list_any has_failed calls ≡ true
  lost_from_start link name context world calls after world' end talks = lost_by_call (begins link name context) world calls after world' end talks refl
