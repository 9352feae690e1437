-- Which exports the links of handles are of, and what was told of them.
use Rattle.std.proofs.Common.{◌≡◌, ◌==◌, ℕ, ◌+◌, ◌-◌, ◌<◌, ◌≤◌, Bool, true, false, ◌||◌, List, [], ◌∷◌, ◌++◌, Option, Some, None, length, drop, nat_lt, arith, refl, ap, sym, subst, ◌∙◌, if◌then◌else◌}
use Rattle.std.proofs.lemmas.Bool.{ltb-true, ltb-false}
use Rattle.std.proofs.lemmas.List.{length-drop}
use Rattle.lnbd_callbacks.specs.Calls.{Call}
use Rattle.lnbd_model.specs.declared.export.Context.{Context}
use Rattle.lnbd_model.specs.declared.export.ExportInfo.{ExportInfo}
use Rattle.lnbd_link.specs.Call as wire
use Rattle.lnbd_link.specs.Numbers.{is_given}
use Rattle.lnbd_link.proofs.Openings.{is_given-append}
use Rattle.lnbd_history.specs.declared.kinds.Phase.{Phase}
use Rattle.lnbd_history.specs.declared.kinds.Phase.TheVariants.{Ready}
use Rattle.lnbd_history.specs.Agreement.{Export, phase, steps, export, contexts, structured, extended}
use Rattle.lnbd_history.specs.Answers.{info_of}
use Rattle.lnbd_history.specs.Events.{History}
use Rattle.lnbd_history.specs.History.{asked, reading}
use Rattle.lnbd_history.specs.Outgoing.{Part, waiting, total, out}
use Rattle.lnbd_asked.specs.Driven.{Drives}
use Rattle.lnbd_asked.specs.Transcript.{export_at}
use Rattle.lnbd_asked.proofs.Doing.{state_of}
use Rattle.lnbd_asked.proofs.Exported.{size_was_told}
use Rattle.lnbd_asked.proofs.Naming.{driven_are_of, driven_tell}
use Rattle.lnbd_poll.specs.declared.noticed.Noticed.{Noticed}
use Rattle.lnbd_poll.specs.Notices.{ReadsIf, ReadsOn, WritesIf, is_reading, is_waiting}
use Rattle.lnbd_poll.specs.Seen.{Seen}
use Rattle.lnbd_poll.specs.Turns.{WritesAll, Stops, Goes_on, TurnsOne, Turns, All_took, Takes, Runs_short, Breaks_off, Ending}
use Rattle.lnbd_drives.specs.Exports.{HandlesAreOf, HandlesTell, ExportWasTold, InfoWasTold, TurnsGiveNone, export_in}
use Rattle.lnbd_drives.proofs.Saying.{one_of}
use Rattle.lnbd_drives.proofs.Waiting.{AreSome, counted, one_none}

pub handles_are_of : {K : Type 0} → HandlesAreOf K
handles_are_of limit calls seens index seen now d there stands =
    let one = one_of calls seens index seen there d.drive d.plain in
    driven_are_of limit seen.link calls seen.history stands.lawful one.plain.spelled stands.going one.plain.mode (subst (Drives seen.link calls seen.history) one.plain.arrived one.drives)

pub handles_tell : {K : Type 0} → HandlesTell K
handles_tell limit calls seens index seen now d there stands =
    let one = one_of calls seens index seen there d.drive d.plain in
    driven_tell limit seen.link calls seen.history stands.lawful one.plain.spelled stands.going one.plain.mode (subst (Drives seen.link calls seen.history) one.plain.arrived one.drives)

-- Where nothing is offered, so many bytes went out at least.
all_wrote : (parts : List Part) (n : ℕ) → AreSome parts → out (waiting parts n) ≡ [] → total parts ≤ n
all_wrote [] n some none = omega arith
all_wrote (part ∷ parts) n some none = go (n == 0) (nat_lt n (length part.bytes)) refl none (all_wrote parts (n - length part.bytes) some.1)
  where
    go : (a b : Bool) → nat_lt n (length part.bytes) ≡ b → out (if a then part ∷ parts else if b then record { bytes = drop n part.bytes; ends = part.ends } ∷ parts else waiting parts (n - length part.bytes)) ≡ [] →
        (out (waiting parts (n - length part.bytes)) ≡ [] → total parts ≤ n - length part.bytes) → length part.bytes + total parts ≤ n
    go true b less none rest = let z : length part.bytes ≡ 0 = ap length none in let s = some.0 in absurd (omega (arith, z, s))
    go false true less none rest = let z : length (drop n part.bytes) ≡ 0 = ap length none in let l = ltb-true n (length part.bytes) less in absurd (omega (arith, z, l, length-drop n part.bytes))
    go false false less none rest = let l = ltb-false n (length part.bytes) less in let r = rest none in omega (arith, l, r)

none_told : (info : ExportInfo) → None ≡ Some info → ⊥
none_told info e = cc

told_whole : (told : Option Export) (contexts : List Context) (structured extended : Bool) (info : ExportInfo) → info_of told contexts structured extended ≡ Some info → export_at Ready told ≡ Some (export_in info)
told_whole None contexts structured extended info e = absurd (none_told info e)
told_whole (Some export) contexts structured extended info e = ap (λ (i : Option ExportInfo). whole i) e
  where
    whole : Option ExportInfo → Option Export
    whole None = None
    whole (Some i) = Some (export_in i)

pub export_was_told : {K : Type 0} → ExportWasTold K
export_was_told history info ready quiet told =
    let at = state_of (reading history).known.stage (phase (reading history).known.turns) ready in
    let all = steps (reading history).known.turns in
    record {
      earlier = history;
      since = [];
      is = refl;
      knew = ap (λ p. export_at p (export (steps (reading history).known.turns))) at.1 ∙ told_whole (export all) (contexts all) (structured all) (extended all) info told;
      out = all_wrote (reading history).known.parts (asked history).wrote (counted history).some (one_none (reading history).known.stage (reading history).known.parts (asked history).wrote quiet);
    }

pub info_was_told : {K : Type 0} → InfoWasTold K
info_was_told history info ready quiet told = size_was_told history (export_in info) (export_was_told history info ready quiet told)

-- Turns make no link.

both_none : (link : ℕ) (one other : List wire.Call) → is_given link one ≡ false → is_given link other ≡ false → is_given link (one ++ other) ≡ false
both_none link one other e f = is_given-append link one other ∙ ap (λ b. b || is_given link other) e ∙ f

module _ {K World : Type 0} (steps : World → List (Call K) → World → Type 0) (link : ℕ) where
  write_none : (waits : Bool) (n : ℕ) (notice : Noticed) (before after : History K) (calls : List wire.Call) → WritesIf waits n notice before calls after → is_given link calls ≡ false
  write_none true n notice before after calls w = ap (is_given link) w.1
  write_none false n notice before after calls w = ap (is_given link) w.1

  writes_none : (n : ℕ) (before after : History K) (world world' : World) (calls : List wire.Call) (moved : Option ℕ) → WritesAll steps n before world calls after world' moved → is_given link calls ≡ false
  writes_none n before after world world' calls moved (Stops _ _ _ _ _ _ notice w none m) = write_none (is_waiting before) n notice before w.middle calls w.writes
  writes_none n before after world world' calls moved (Goes_on _ _ _ _ _ _ notice own middle half other rest w some more c m) =
      ap (is_given link) c ∙ both_none link own other (write_none (is_waiting before) n notice before w.middle own w.writes) (writes_none n middle after half world' other rest more)

  read_on_none : (unread : List ℕ) (notice : Noticed) (before after : Seen K) (world world' : World) (calls : List wire.Call) → ReadsOn steps unread notice before world calls after world' → is_given link calls ≡ false
  read_on_none [] notice before after world world' calls r = ap (is_given link) r.1
  read_on_none (byte ∷ bytes) notice before after world world' calls r = ap (is_given link) r.0

  read_none : (reads : Bool) (notice : Noticed) (before after : Seen K) (world world' : World) (calls : List wire.Call) → ReadsIf steps reads notice before world calls after world' → is_given link calls ≡ false
  read_none true notice before after world world' calls r = read_on_none before.unread notice before after world world' calls r
  read_none false notice before after world world' calls r = ap (is_given link) r.1

  part_none : (notice : Noticed) (before after : Seen K) (world world' : World) (calls : List wire.Call) (moved : Option ℕ) → TurnsOne steps notice before world calls after world' moved → is_given link calls ≡ false
  part_none notice before after world world' calls moved t =
      let half : Seen K = record { link = before.link; history = t.middle; unread = before.unread } in
      ap (is_given link) t.calls_are
      ∙ both_none link t.written t.read (writes_none before.link before.history t.middle world t.half t.written t.sent t.writes) (read_none (is_reading t.middle) notice half after t.half world' t.read t.reads)

  turn_none : (before : List (Seen K)) (world : World) (part : List wire.Call) (after : List (Seen K)) (world' : World) (ending : Ending) → Turns steps before world part after world' ending → is_given link part ≡ false
  turn_none before world part after world' ending (All_took _ _ _ _ _ _ is none after_is world_is end) = ap (is_given link) none
  turn_none before world part after world' ending (Takes _ _ _ _ _ _ seen others notice own here half moved other there rest is turns enough more calls_are after_is end) =
      ap (is_given link) calls_are ∙ both_none link own other (part_none notice seen here world half own moved turns) (turn_none others half other there world' rest more)
  turn_none before world part after world' ending (Runs_short _ _ _ _ _ _ seen others here moved is turns after_is end) = part_none _ seen here world world' part moved turns
  turn_none before world part after world' ending (Breaks_off _ _ _ _ _ _ none after_is world_is end) = ap (is_given link) none

pub turns_give_none : {K World : Type 0} (steps : World → List (Call K) → World → Type 0) → TurnsGiveNone steps
turns_give_none steps link part before after world world' ending turns = turn_none steps link before world part after world' ending turns
