-- The handle goes on by its calls, and drives its link.
use Rattle.std.proofs.Common.{◌≡◌, ℕ, ◌≤◌, Bool, true, false, ◌||◌, List, [], ◌∷◌, ◌++◌, take, Option, Some, None, Result, append_assoc, refl, sym, ◌∙◌, ap, subst}
use Rattle.std.proofs.lemmas.Bool.{false≢true}
use Rattle.std.proofs.lemmas.List.{append-nil}
use Rattle.lnbd_history.specs.Events.{Answer, Arrived, Event, History}
use Rattle.lnbd_history.specs.History.{request}
use Rattle.lnbd_link.specs.Call as wire
use Rattle.lnbd_link.specs.Call.{Ended, Moved, Pause, ReadFault, ReadTold, Unready}
use Rattle.lnbd_link.specs.Numbers.{is_given}
use Rattle.lnbd_link.specs.Part.{Grows}
use Rattle.lnbd_link.proofs.Openings.{is_given-append}
use Rattle.lnbd_link.proofs.Parts.{grows_none, grows_on}
use Rattle.lnbd_asked.specs.Driven.{AllSpell, Arrives, Begins, Does, Drives, Ends, Fails_to_read, Fails_to_write, Passes, Reads, Reads_none, Spells, Writes, Writes_none, is_inward}
use Rattle.lnbd_ask.proofs.LivesLemmas.{awaited_some}
use Rattle.lnbd_ask.proofs.WentLemmas.{going_back, waits_went}
use Rattle.lnbd_usage.specs.OneLink.{Converse}
use Rattle.lnbd_usage.proofs.Talking.{converse_none, converse_on}
use Rattle.lnbd_ask.proofs.LostLemmas.{IsKept, waits_kept, well_first, well_later}
use Rattle.lnbd_poll.specs.declared.noticed.Noticed.{Noticed}
use Rattle.lnbd_poll.specs.declared.noticed.Noticed.TheVariants as noticed
use Rattle.lnbd_poll.specs.Held.{Held}
use Rattle.lnbd_poll.specs.Seen.{Goes, Seen}
use Rattle.lnbd_poll.specs.Notices as notices
use Rattle.lnbd_poll.specs.Notices.{is_reading}
use Rattle.lnbd_poll.specs.Turns as ways
use Rattle.lnbd_poll.specs.Turns.{All_took, Blames, Short, Takes, TurnsOne, Whole, is_short, together}
use Rattle.lnbd_poll.proofs.TurnLemmas.{blames_on}
use Rattle.lnbd_tracks.proofs.Unfiled.{request_stays}
use Rattle.lnbd_drives.specs.Driving.{happened, sets_opt_mode}
use Rattle.lnbd_drives.proofs.Exports.{turns_give_none}
use Rattle.lnbd_drives.proofs.Modes.{arrived_mode, inward_mode, mode}
use Rattle.lnbd_drives.proofs.Taking.{Ran, Runs, part_ran, runs_past}
use Rattle.lnbd_waits.specs.declared.waiting.Awaited.{Awaited}
use Rattle.lnbd_waits.specs.declared.waiting.Halt.{Halt}
use Rattle.lnbd_waits.specs.Waits.{Holds, Is_silent, Is_still, Is_there, Moves, Runs_short, Waited, Waits, want}
use Rattle.lnbd_dump.specs.declared.reader.Latest.{Latest}
use Rattle.lnbd_dump.specs.declared.reader.Reader.{Reader}
use Rattle.lnbd_dump.specs.declared.stop.Stop.{Stop}
use Rattle.lnbd_dump.specs.Heard.{Hears}
use Rattle.lnbd_dump.specs.Leads.{Acts, GoesQuietly, GoesTo, Grown, IsGoing, Later, Leads}
use Rattle.lnbd_dump.specs.Stops.{HasStop, is_failed}
use Rattle.lnbd_dump.proofs.LaterLemmas.{Turned, grown_event, grown_none, grown_on, later_none, later_on, turn_turned, turned_none, turned_on, writes_turned}

-- ---- The link.

no_calls : (link : ℕ) (all : List wire.Call) (history : History Reader) (left : List ℕ) → Runs link all history left → Runs link (all ++ []) history left
no_calls link all history left r = subst (λ (l : List wire.Call). Runs link l history left) (sym (append-nil all)) r

pub leads_none : (short : Bool) (seen : Seen Reader) → Leads short seen [] seen seen
leads_none short seen = record {
  drives = λ all none r. record { same = refl; runs = no_calls seen.link all seen.history seen.unread (subst (Runs seen.link all seen.history) (sym none) r); arrived = λ e. none };
  ends = λ all none r. record { same = refl; runs = no_calls seen.link all seen.history seen.unread (subst (Runs seen.link all seen.history) (sym none) r); arrived = λ e. none };
  same = λ e. refl;
  later = later_none seen.history;
  grown = grown_none seen.history;
  asks = λ k. refl;
  lawful = λ l. l;
  kept = λ w k. k;
  gives = λ n. refl;
  speaks = λ empty. record { same = refl; none = λ e. empty; converse = λ going. converse_none seen.link };
}

-- where the bytes that were read arrived, the handle goes on from there
ran_on : (short : Bool) (a b c : Seen Reader) (all p q : List wire.Call) → ((made : List wire.Call) → a.unread ≡ [] → Runs a.link made a.history [] → Ran a.link (made ++ p) false b)
    → ((made : List wire.Call) → b.unread ≡ [] → Runs b.link made b.history [] → Ran b.link (made ++ q) short c) → a.unread ≡ [] → Runs a.link all a.history [] → Ran a.link (all ++ (p ++ q)) short c
ran_on short a b c all p q one two none r =
    let first = one all none r in
    let left : b.unread ≡ [] = first.arrived refl in
    let here : Runs b.link (all ++ p) b.history [] = subst (λ (n : ℕ). Runs n (all ++ p) b.history []) (sym first.same) (subst (Runs a.link (all ++ p) b.history) left first.runs) in
    subst (λ (l : List wire.Call). Ran a.link l short c) (append_assoc all p q) (subst (λ (n : ℕ). Ran n ((all ++ p) ++ q) short c) first.same (two (all ++ p) left here))

pub leads_on : (short : Bool) (a b e c d : Seen Reader) (p q : List wire.Call) → Leads false a p b e → Leads short b q c d → Leads short a (p ++ q) c d
leads_on short a b e c d p q one two = record {
  drives = λ all none r. ran_on short a b c all p q one.drives two.drives none r;
  ends = λ all none r. ran_on false a b d all p q one.drives two.ends none r;
  same = two.same;
  later = later_on a.history b.history c.history one.later two.later;
  grown = grown_on a.history b.history d.history one.later.grown two.grown;
  asks = two.asks;
  lawful = two.lawful;
  kept = λ well k. two.kept (well_later p q well) (one.kept (well_first p q well) k);
  gives = λ n. is_given-append n p q ∙ ap (λ (x : Bool). x || is_given n q) (one.gives n) ∙ two.gives n;
  speaks = λ empty. (
      let first = one.speaks empty in
      let second = two.speaks (first.none refl) in
      record {
        same = second.same ∙ first.same;
        none = second.none;
        converse = λ going. converse_on a.link p q (first.converse (going_back two.later.grown.since b.history (subst IsGoing two.later.grown.is going))) (subst (λ (n : ℕ). Converse n q) first.same (second.converse going));
      });
}

ran_less : (link : ℕ) (all : List wire.Call) (short : Bool) (after : Seen Reader) → Ran link all false after → Ran link all short after
ran_less link all short after r = record { same = r.same; runs = r.runs; arrived = λ e. r.arrived refl }

pub leads_less : (short : Bool) (a c d : Seen Reader) (p : List wire.Call) → Leads false a p c d → Leads short a p c d
leads_less short a c d p one = record {
  drives = λ all none r. ran_less a.link (all ++ p) short c (one.drives all none r);
  ends = one.ends;
  same = λ e. one.same refl;
  later = one.later;
  grown = one.grown;
  asks = one.asks;
  lawful = one.lawful;
  kept = one.kept;
  gives = one.gives;
  speaks = λ empty. (let first = one.speaks empty in record { same = first.same; none = λ e. first.none refl; converse = first.converse });
}

-- what is done with the handle between turns
pub leads_event : (seen : Seen Reader) (event : Event Reader) → is_inward event ≡ true → Spells seen.history event → sets_opt_mode event ≡ false → (IsKept seen.history → IsKept (event ∷ seen.history)) → Later seen.history (event ∷ seen.history)
    → Leads false seen [] (happened event seen) (happened event seen)
leads_event seen event inward spells off kept later = record { drives = ran; ends = ran; same = λ e. refl; later = later; grown = later.grown; asks = λ k. refl; lawful = λ l. l; kept = λ well k. kept k; gives = λ n. refl; speaks = λ empty. record { same = refl; none = λ e. empty; converse = λ going. converse_none seen.link } }
  where
    ran : (all : List wire.Call) → seen.unread ≡ [] → Runs seen.link all seen.history [] → Ran seen.link (all ++ []) false (happened event seen)
    ran all none r = record {
      same = refl;
      runs = subst (λ (u : List ℕ). Runs seen.link (all ++ []) (event ∷ seen.history) u) (sym none) (no_calls seen.link all (event ∷ seen.history) []
          (record { drives = Does all seen.history [] event r.drives inward; spelled = (spells, r.spelled); off = inward_mode seen.history event inward off r.off }));
      arrived = λ e. none;
    }

-- ---- A turn in which memory ran out at a read.

-- what arrived in part may arrive as a whole
uncut : (link : ℕ) (calls : List wire.Call) (history : History Reader) (left : List ℕ) → Drives link calls history left → (middle : History Reader) (bytes : List ℕ) (answers : List Answer) → history ≡ Arrived bytes answers ∷ middle → Drives link calls middle (bytes ++ left)
uncut link calls history left Begins middle bytes answers is = absurd (cc is)
uncut link calls history left (Does _ before _ event d inward) middle bytes answers is =
    let same : event ≡ Arrived bytes answers = cc is in
    absurd (false≢true (sym (ap is_inward same) ∙ inward))
uncut link calls history left (Passes made _ _ call _ d off after_is) middle bytes answers is = Passes made middle (bytes ++ left) call calls (uncut link made history left d middle bytes answers is) off after_is
uncut link calls history left (Writes made before offered sent _ d is_taken after_is) middle bytes answers is = absurd (cc is)
uncut link calls history left (Writes_none made _ _ offered _ d after_is) middle bytes answers is = Writes_none made middle (bytes ++ left) offered calls (uncut link made history left d middle bytes answers is) after_is
uncut link calls history left (Reads made _ before_left room more _ _ d after_is more_is) middle bytes answers is =
    Reads made middle (bytes ++ before_left) room more calls (bytes ++ left) (uncut link made history before_left d middle bytes answers is) after_is (ap (λ (l : List ℕ). bytes ++ l) more_is ∙ sym (append_assoc bytes before_left more))
uncut link calls history left (Reads_none made _ _ room _ d after_is) middle bytes answers is = Reads_none made middle (bytes ++ left) room calls (uncut link made history left d middle bytes answers is) after_is
uncut link calls history left (Arrives _ before all came _ heard d all_is) middle bytes answers is =
    let same : before ≡ middle = cc is in
    let same_bytes : came ≡ bytes = cc is in
    subst (λ (h : History Reader). Drives link calls h (bytes ++ left)) same (subst (Drives link calls before) (all_is ∙ ap (λ (l : List ℕ). l ++ left) same_bytes) d)
uncut link calls history left (Ends made before room heard _ d lives after_is) middle bytes answers is = absurd (cc is)
uncut link calls history left (Fails_to_read made before room heard _ d lives after_is) middle bytes answers is = absurd (cc is)
uncut link calls history left (Fails_to_write made before offered heard _ d lives after_is) middle bytes answers is = absurd (cc is)

-- the last that happened is that bytes arrived
record IsCut (middle : History Reader) (after : Seen Reader) : Type 0 where
  bytes : List ℕ
  answers : List Answer
  is : after.history ≡ Arrived bytes answers ∷ middle

arrives_cut : (bytes : List ℕ) (before after : Seen Reader) (world world' : Latest) → notices.Arrives Hears bytes noticed.NoMemory before after world world' → IsCut before.history after
arrives_cut bytes before after world world' a = record { bytes = take a.0 bytes; answers = a.2.0; is = ap (λ (s : Seen Reader). s.history) a.2.1.is }

hears_cut : (told : ReadTold) (before after : Seen Reader) (world world' : Latest) → notices.Hears Hears told noticed.NoMemory before after world world' → IsCut before.history after
hears_cut (Moved bytes) before after world world' h = arrives_cut bytes before after world world' h.1
hears_cut Unready before after world world' h = absurd (cc h.0)
hears_cut Ended before after world world' h = absurd (cc h.0)
hears_cut ReadFault before after world world' h = absurd (cc h.0)

reads_cut : (unread : List ℕ) (before after : Seen Reader) (calls : List wire.Call) (world world' : Latest) → notices.ReadsOn Hears unread noticed.NoMemory before world calls after world' → IsCut before.history after
reads_cut [] before after calls world world' r = hears_cut r.0 before after world world' r.2
reads_cut (byte ∷ bytes) before after calls world world' r = arrives_cut (byte ∷ bytes) before after world world' r.1

read_cut : (b : Bool) (before after : Seen Reader) (calls : List wire.Call) (world world' : Latest) → notices.ReadsIf Hears b noticed.NoMemory before world calls after world' → IsCut before.history after
read_cut true before after calls world world' r = reads_cut before.unread before after calls world world' r
read_cut false before after calls world world' r = absurd (cc r.0)

-- it ends as if all of it had arrived
record TurnEnds (before : Seen Reader) (own : List wire.Call) (after : Seen Reader) : Type 0 where
  ended : Seen Reader
  ends : (all : List wire.Call) → before.unread ≡ [] → Runs before.link all before.history [] → Ran before.link (all ++ own) false ended
  grown : Grown before.history ended.history
  asks : (cookie : ℕ) → request ended.history cookie ≡ request after.history cookie
  lawful : IsGoing after.history → IsGoing ended.history

turn_ends : (before after : Seen Reader) (own : List wire.Call) (world world' : Latest) (moved : Option ℕ) → TurnsOne Hears noticed.NoMemory before world own after world' moved → TurnEnds before own after
turn_ends before after own world world' moved t = record {
  ended = ended;
  ends = λ all none r. (
      let ran = part_ran Hears all noticed.NoMemory before world own after world' moved t none r in
      let driven = uncut before.link (all ++ own) after.history after.unread ran.runs.drives t.middle cut.bytes cut.answers cut.is in
      record {
        same = ran.same;
        runs = record {
          drives = Arrives (all ++ own) t.middle (cut.bytes ++ after.unread) (cut.bytes ++ after.unread) [] [] driven (sym (append-nil (cut.bytes ++ after.unread)));
          spelled = (tt, (subst AllSpell cut.is ran.runs.spelled).1);
          off = arrived_mode t.middle (cut.bytes ++ after.unread) [] ∙ sym (arrived_mode t.middle cut.bytes cut.answers) ∙ subst (λ (h : History Reader). mode h ≡ false) cut.is ran.runs.off;
        };
        arrived = λ e. refl;
      });
  grown = grown_on before.history t.middle ended.history (writes_turned before.link before.history world t.written t.middle t.half t.sent t.writes).quiet.later.grown (grown_event (Arrived (cut.bytes ++ after.unread) []) t.middle refl);
  asks = λ k. request_stays t.middle (Arrived (cut.bytes ++ after.unread) []) k refl ∙ sym (ap (λ (h : History Reader). request h k) cut.is ∙ request_stays t.middle (Arrived cut.bytes cut.answers) k refl);
  lawful = λ going. (let g = subst IsGoing cut.is going in (g.0, refl));
}
  where
    half : Seen Reader
    half = record { link = before.link; history = t.middle; unread = before.unread }

    cut : IsCut t.middle after
    cut = read_cut (is_reading t.middle) half after t.read t.half world' t.reads

    ended : Seen Reader
    ended = record { link = after.link; history = Arrived (cut.bytes ++ after.unread) [] ∷ t.middle; unread = [] }

-- What was awaited, whether it came or not.
waits_ran : (awaited : Awaited) (before : Seen Reader) (world : Latest) (calls : List wire.Call) (after : Seen Reader) (world' : Latest) (end : Result (Unit {0}) Halt) → Waits Hears awaited before world calls after world' end
    → (all : List wire.Call) → before.unread ≡ [] → Runs before.link all before.history [] → Ran before.link (all ++ calls) (is_failed end) after
waits_ran awaited before world calls after world' end (Is_there _ _ _ _ _ _ there none same world_is end_is) all empty r =
    subst (λ (l : List wire.Call). Ran before.link (all ++ l) (is_failed end) after) (sym none) (subst (λ (s : Seen Reader). Ran before.link (all ++ []) (is_failed end) s) (sym same)
    (record { same = refl; runs = no_calls before.link all before.history before.unread (subst (Runs before.link all before.history) (sym empty) r); arrived = λ e. empty }))
waits_ran awaited before world calls after world' end (Moves _ _ _ _ _ _ notice n own middle half other busy turns enough rest calls_are) all empty r =
    let first = part_ran Hears all notice before world own middle half (Some n) turns empty r in
    let left : middle.unread ≡ [] = first.arrived enough in
    let here : Runs middle.link (all ++ own) middle.history [] = subst (λ (k : ℕ). Runs k (all ++ own) middle.history []) (sym first.same) (subst (Runs before.link (all ++ own) middle.history) left first.runs) in
    subst (λ (l : List wire.Call). Ran before.link l (is_failed end) after) (append_assoc all own other ∙ ap (λ (l : List wire.Call). all ++ l) (sym calls_are))
    (subst (λ (k : ℕ). Ran k ((all ++ own) ++ other) (is_failed end) after) first.same (waits_ran awaited middle half other after world' end rest (all ++ own) left here))
waits_ran awaited before world calls after world' end (Is_still _ _ _ _ _ _ notice own middle half other busy turns enough rest calls_are) all empty r =
    let first = part_ran Hears all notice before world own middle half None turns empty r in
    let left : middle.unread ≡ [] = first.arrived enough in
    let pause : wire.Call = Pause (want middle ∷ []) in
    let here : Runs middle.link (all ++ own) middle.history [] = subst (λ (k : ℕ). Runs k (all ++ own) middle.history []) (sym first.same) (subst (Runs before.link (all ++ own) middle.history) left first.runs) in
    let paused : Runs middle.link ((all ++ own) ++ pause ∷ []) middle.history [] = runs_past middle.link (all ++ own) middle.history [] (pause ∷ []) here refl in
    subst (λ (l : List wire.Call). Ran before.link l (is_failed end) after)
    (append_assoc (all ++ own) (pause ∷ []) other ∙ append_assoc all own (pause ∷ other) ∙ ap (λ (l : List wire.Call). all ++ l) (sym calls_are))
    (subst (λ (k : ℕ). Ran k (((all ++ own) ++ pause ∷ []) ++ other) (is_failed end) after) first.same (waits_ran awaited middle half other after world' end rest ((all ++ own) ++ pause ∷ []) left paused))
waits_ran awaited before world calls after world' end (Is_silent _ _ _ _ _ _ notice own busy turns enough calls_are end_is) all empty r =
    let first = part_ran Hears all notice before world own after world' None turns empty r in
    let pause : wire.Call = Pause (want after ∷ []) in
    subst (λ (l : List wire.Call). Ran before.link l (is_failed end) after) (append_assoc all own (pause ∷ []) ∙ ap (λ (l : List wire.Call). all ++ l) (sym calls_are))
    (record { same = first.same; runs = runs_past before.link (all ++ own) after.history after.unread (pause ∷ []) first.runs refl; arrived = λ e. first.arrived enough })
waits_ran awaited before world calls after world' end (Runs_short _ _ _ _ _ _ moved busy turns end_is) all empty r =
    let first = part_ran Hears all noticed.NoMemory before world calls after world' moved turns empty r in
    record { same = first.same; runs = first.runs; arrived = λ e. absurd (false≢true (sym e ∙ ap is_failed end_is)) }

-- nothing was asked on the way
waits_turned : (awaited : Awaited) (before : Seen Reader) (world : Latest) (calls : List wire.Call) (after : Seen Reader) (world' : Latest) (end : Result (Unit {0}) Halt) → Waits Hears awaited before world calls after world' end → Turned before.history after.history world world'
waits_turned awaited before world calls after world' end (Is_there _ _ _ _ _ _ there none same world_is end_is) = turned_none before.history after.history world world' (ap (λ (s : Seen Reader). s.history) same) world_is
waits_turned awaited before world calls after world' end (Moves _ _ _ _ _ _ notice n own middle half other busy turns enough rest calls_are) =
    turned_on before.history middle.history after.history world half world' (turn_turned notice before middle own world half (Some n) turns) (waits_turned awaited middle half other after world' end rest)
waits_turned awaited before world calls after world' end (Is_still _ _ _ _ _ _ notice own middle half other busy turns enough rest calls_are) =
    turned_on before.history middle.history after.history world half world' (turn_turned notice before middle own world half None turns) (waits_turned awaited middle half other after world' end rest)
waits_turned awaited before world calls after world' end (Is_silent _ _ _ _ _ _ notice own busy turns enough calls_are end_is) = turn_turned notice before after own world world' None turns
waits_turned awaited before world calls after world' end (Runs_short _ _ _ _ _ _ moved busy turns end_is) = turn_turned noticed.NoMemory before after calls world world' moved turns

-- where it ends, as if all that was read had arrived
record WaitEnds (before : Seen Reader) (calls : List wire.Call) (after : Seen Reader) (short : Bool) : Type 0 where
  ended : Seen Reader
  ends : (all : List wire.Call) → before.unread ≡ [] → Runs before.link all before.history [] → Ran before.link (all ++ calls) false ended
  same : short ≡ false → ended ≡ after
  grown : Grown before.history ended.history
  asks : (cookie : ℕ) → request ended.history cookie ≡ request after.history cookie
  lawful : IsGoing after.history → IsGoing ended.history

wait_on : (before middle after : Seen Reader) (own other calls : List wire.Call) (short : Bool) → ((all : List wire.Call) → before.unread ≡ [] → Runs before.link all before.history [] → Ran before.link (all ++ own) false middle) → Grown before.history middle.history → WaitEnds middle other after short → calls ≡ own ++ other
    → WaitEnds before calls after short
wait_on before middle after own other calls short first grown w is = record {
  ended = w.ended;
  ends = λ all none r. subst (λ (l : List wire.Call). Ran before.link (all ++ l) false w.ended) (sym is) (ran_on false before middle w.ended all own other first w.ends none r);
  same = w.same;
  grown = grown_on before.history middle.history w.ended.history grown w.grown;
  asks = w.asks;
  lawful = w.lawful;
}

turn_ran : (notice : Noticed) (before after : Seen Reader) (own : List wire.Call) (world world' : Latest) (moved : Option ℕ) → is_short notice ≡ false → TurnsOne Hears notice before world own after world' moved
    → (all : List wire.Call) → before.unread ≡ [] → Runs before.link all before.history [] → Ran before.link (all ++ own) false after
turn_ran notice before after own world world' moved enough t all none r =
    let ran = part_ran Hears all notice before world own after world' moved t none r in
    record { same = ran.same; runs = ran.runs; arrived = λ e. ran.arrived enough }

paused_ran : (before after : Seen Reader) (own : List wire.Call) → ((all : List wire.Call) → before.unread ≡ [] → Runs before.link all before.history [] → Ran before.link (all ++ own) false after)
    → (all : List wire.Call) → before.unread ≡ [] → Runs before.link all before.history [] → Ran before.link (all ++ (own ++ Pause (want after ∷ []) ∷ [])) false after
paused_ran before after own first all none r =
    let ran = first all none r in
    subst (λ (l : List wire.Call). Ran before.link l false after) (append_assoc all own (Pause (want after ∷ []) ∷ []))
    (record { same = ran.same; runs = runs_past before.link (all ++ own) after.history after.unread (Pause (want after ∷ []) ∷ []) ran.runs refl; arrived = ran.arrived })

wait_ends : (awaited : Awaited) (before : Seen Reader) (world : Latest) (calls : List wire.Call) (after : Seen Reader) (world' : Latest) (end : Result (Unit {0}) Halt) → Waits Hears awaited before world calls after world' end → WaitEnds before calls after (is_failed end)
wait_ends awaited before world calls after world' end (Is_there _ _ _ _ _ _ there none same world_is end_is) = record {
  ended = after;
  ends = λ all empty r. subst (λ (l : List wire.Call). Ran before.link (all ++ l) false after) (sym none) (subst (λ (s : Seen Reader). Ran before.link (all ++ []) false s) (sym same)
      (record { same = refl; runs = no_calls before.link all before.history before.unread (subst (Runs before.link all before.history) (sym empty) r); arrived = λ e. empty }));
  same = λ e. refl;
  grown = subst (λ (s : Seen Reader). Grown before.history s.history) (sym same) (grown_none before.history);
  asks = λ k. refl;
  lawful = λ l. l;
}
wait_ends awaited before world calls after world' end (Moves _ _ _ _ _ _ notice n own middle half other busy turns enough rest calls_are) =
    wait_on before middle after own other calls (is_failed end) (turn_ran notice before middle own world half (Some n) enough turns) (turn_turned notice before middle own world half (Some n) turns).quiet.later.grown
    (wait_ends awaited middle half other after world' end rest) calls_are
wait_ends awaited before world calls after world' end (Is_still _ _ _ _ _ _ notice own middle half other busy turns enough rest calls_are) =
    wait_on before middle after (own ++ Pause (want middle ∷ []) ∷ []) other calls (is_failed end) (paused_ran before middle own (turn_ran notice before middle own world half None enough turns)) (turn_turned notice before middle own world half None turns).quiet.later.grown
    (wait_ends awaited middle half other after world' end rest) (calls_are ∙ sym (append_assoc own (Pause (want middle ∷ []) ∷ []) other))
wait_ends awaited before world calls after world' end (Is_silent _ _ _ _ _ _ notice own busy turns enough calls_are end_is) = record {
  ended = after;
  ends = λ all none r. subst (λ (l : List wire.Call). Ran before.link (all ++ l) false after) (sym calls_are) (paused_ran before after own (turn_ran notice before after own world world' None enough turns) all none r);
  same = λ e. refl;
  grown = (turn_turned notice before after own world world' None turns).quiet.later.grown;
  asks = λ k. refl;
  lawful = λ l. l;
}
wait_ends awaited before world calls after world' end (Runs_short _ _ _ _ _ _ moved busy turns end_is) =
    let t = turn_ends before after calls world world' moved turns in
    record { ended = t.ended; ends = t.ends; same = λ e. absurd (false≢true (sym e ∙ ap is_failed end_is)); grown = t.grown; asks = t.asks; lawful = t.lawful }

-- A turn makes no link.

is_no_memory : (notice : Noticed) → is_short notice ≡ true → notice ≡ noticed.NoMemory
is_no_memory (noticed.Moved n) e = absurd (false≢true e)
is_no_memory noticed.NotReady e = absurd (false≢true e)
is_no_memory noticed.Idle e = absurd (false≢true e)
is_no_memory noticed.Ended e = absurd (false≢true e)
is_no_memory noticed.LinkFailed e = absurd (false≢true e)
is_no_memory noticed.NoMemory e = refl

turn_gives : (notice : Noticed) (before after : Seen Reader) (own : List wire.Call) (world world' : Latest) (moved : Option ℕ) → TurnsOne Hears notice before world own after world' moved → (n : ℕ) → is_given n own ≡ false
turn_gives notice before after own world world' moved t n = go (is_short notice) refl
  where
    go : (b : Bool) → is_short notice ≡ b → is_given n own ≡ false
    go false enough = turns_give_none Hears n own (before ∷ []) (after ∷ []) world world' (Whole (together moved None))
        (Takes (before ∷ []) world own (after ∷ []) world' (Whole (together moved None)) before [] notice own after world' moved [] [] (Whole None) refl t enough
        (All_took [] world' [] [] world' (Whole None) refl refl refl refl refl) (sym (append-nil own)) refl refl)
    go true short = turns_give_none Hears n own (before ∷ []) (after ∷ []) world world' Short
        (ways.Runs_short (before ∷ []) world own (after ∷ []) world' Short before [] after moved refl (subst (λ (k : Noticed). TurnsOne Hears k before world own after world' moved) (is_no_memory notice short) t) refl refl)

both_none : (n : ℕ) (one other : List wire.Call) → is_given n one ≡ false → is_given n other ≡ false → is_given n (one ++ other) ≡ false
both_none n one other e f = is_given-append n one other ∙ ap (λ (b : Bool). b || is_given n other) e ∙ f

waits_give : (awaited : Awaited) (before : Seen Reader) (world : Latest) (calls : List wire.Call) (after : Seen Reader) (world' : Latest) (end : Result (Unit {0}) Halt) → Waits Hears awaited before world calls after world' end → (n : ℕ) → is_given n calls ≡ false
waits_give awaited before world calls after world' end (Is_there _ _ _ _ _ _ there none same world_is end_is) n = ap (is_given n) none
waits_give awaited before world calls after world' end (Moves _ _ _ _ _ _ notice m own middle half other busy turns enough rest calls_are) n =
    ap (is_given n) calls_are ∙ both_none n own other (turn_gives notice before middle own world half (Some m) turns n) (waits_give awaited middle half other after world' end rest n)
waits_give awaited before world calls after world' end (Is_still _ _ _ _ _ _ notice own middle half other busy turns enough rest calls_are) n =
    ap (is_given n) calls_are ∙ both_none n own (Pause (want middle ∷ []) ∷ other) (turn_gives notice before middle own world half None turns n) (waits_give awaited middle half other after world' end rest n)
waits_give awaited before world calls after world' end (Is_silent _ _ _ _ _ _ notice own busy turns enough calls_are end_is) n =
    ap (is_given n) calls_are ∙ both_none n own (Pause (want after ∷ []) ∷ []) (turn_gives notice before after own world world' None turns n) refl
waits_give awaited before world calls after world' end (Runs_short _ _ _ _ _ _ moved busy turns end_is) n = turn_gives noticed.NoMemory before after calls world world' moved turns n

-- What was awaited, whether it came or not.
pub waits_lead : (awaited : Awaited) (before : Seen Reader) (world : Latest) (calls : List wire.Call) (after : Seen Reader) (world' : Latest) (end : Result (Unit {0}) Halt) → Waits Hears awaited before world calls after world' end → (ended : Seen Reader) × Leads (is_failed end) before calls after ended
waits_lead awaited before world calls after world' end waits =
    let w = wait_ends awaited before world calls after world' end waits in (
      w.ended,
      record {
        drives = waits_ran awaited before world calls after world' end waits;
        ends = w.ends;
        same = w.same;
        later = (waits_turned awaited before world calls after world' end waits).quiet.later;
        grown = w.grown;
        asks = w.asks;
        lawful = w.lawful;
        kept = waits_kept Hears awaited before world calls after world' end waits;
        gives = waits_give awaited before world calls after world' end waits;
        speaks = λ empty. (
            let went = waits_went awaited_some Hears awaited before world calls after world' end waits empty in
            record { same = went.same; none = went.none; converse = went.converse });
      },
    )

pub waits_quiet : (awaited : Awaited) (before : Seen Reader) (world : Latest) (calls : List wire.Call) (after : Seen Reader) (world' : Latest) (end : Result (Unit {0}) Halt) → Waits Hears awaited before world calls after world' end → GoesQuietly world world' before after
waits_quiet awaited before world calls after world' end waits = let t = waits_turned awaited before world calls after world' end waits in record { quiet = t.quiet; tied = t.tied }

-- ---- The one handle, wherever it stands.

module _ (Is Next Both : Seen Reader → Seen Reader → Type 0) (both : (a b c : Seen Reader) → Is a b → Next b c → Both a c) where
  pub acts_on : (old mid new : List (Held Reader)) → Acts old mid Is → Acts mid new Next → Acts old new Both
  acts_on old mid new one two seen at =
      let o = one seen at in
      let t = two o.0 o.1 in
      (t.0, t.1, leads_on false seen o.0 o.0 t.0 t.0 [] [] o.2 t.2, both seen o.0 t.0 o.3 t.3)

  pub acts_go : (short : Bool) (a b : Option (List wire.Call)) (f g : ℕ) (old mid new : List (Held Reader)) → Acts old mid Is → GoesTo short a b f g mid new Next → GoesTo short a b f g old new Both
  acts_go short a b f g old mid new one two seen at =
      let o = one seen at in
      let went = two o.0 o.1 in
      record {
        calls = went.calls;
        after = went.after;
        grown = went.grown;
        leads = (went.leads.0, leads_on short seen o.0 o.0 went.after went.leads.0 [] went.calls o.2 went.leads.1, went.leads.2, both seen o.0 went.after o.3 went.leads.3);
        at = went.at;
      }

  pub goes_acts : (a b : Option (List wire.Call)) (f g : ℕ) (old mid new : List (Held Reader)) → GoesTo false a b f g old mid Is → Acts mid new Next → GoesTo false a b f g old new Both
  goes_acts a b f g old mid new one two seen at =
      let went = one seen at in
      let t = two went.after went.at in
      record {
        calls = went.calls ++ [];
        after = t.0;
        grown = subst (Grows a b) (sym (append-nil went.calls)) went.grown;
        leads = (t.0, leads_on false seen went.after went.leads.0 t.0 t.0 went.calls [] went.leads.1 t.2, subst (λ (l : List wire.Call). Blames l f g) (sym (append-nil went.calls)) went.leads.2, both seen went.after t.0 went.leads.3 t.3);
        at = t.1;
      }

  pub goes_on : (short : Bool) (a b c : Option (List wire.Call)) (f g h : ℕ) (old mid new : List (Held Reader)) → f ≤ g → g ≤ h → GoesTo false a b f g old mid Is → GoesTo short b c g h mid new Next → GoesTo short a c f h old new Both
  goes_on short a b c f g h old mid new up up2 one two seen at =
      let went = one seen at in
      let more = two went.after went.at in
      record {
        calls = went.calls ++ more.calls;
        after = more.after;
        grown = grows_on a b c went.calls more.calls went.grown more.grown;
        leads = (
          more.leads.0,
          leads_on short seen went.after went.leads.0 more.after more.leads.0 went.calls more.calls went.leads.1 more.leads.1,
          blames_on went.calls more.calls f g h went.leads.2 more.leads.2 up up2,
          both seen went.after more.after went.leads.3 more.leads.3,
        );
        at = more.at;
      }

-- So it is where less is said of it.
pub acts_map : (Is Less : Seen Reader → Seen Reader → Type 0) → ((s t : Seen Reader) → Is s t → Less s t) → (old new : List (Held Reader)) → Acts old new Is → Acts old new Less
acts_map Is Less less old new acts seen at = let a = acts seen at in (a.0, a.1, a.2, less seen a.0 a.3)

-- where a handle stands it is lawful and goes on
pub going_of : (all : List (Held Reader)) (seen : Seen Reader) → Holds all seen → IsGoing seen.history
going_of [] seen at = absurd at
going_of (held ∷ others) seen at = (at.0.stands.lawful, at.0.stands.going)

pub acts_going : (Is : Seen Reader → Seen Reader → Type 0) (old new : List (Held Reader)) → Acts old new Is → Acts old new (λ s t. IsGoing t.history × Is s t)
acts_going Is old new acts seen at = let a = acts seen at in (a.0, a.1, a.2, (going_of new a.0 a.1, a.3))

pub goes_map : (Is Less : Seen Reader → Seen Reader → Type 0) → ((s t : Seen Reader) → Is s t → Less s t) → (short : Bool) (a b : Option (List wire.Call)) (f g : ℕ) (old new : List (Held Reader)) → GoesTo short a b f g old new Is → GoesTo short a b f g old new Less
goes_map Is Less less short a b f g old new goes seen at =
    let went = goes seen at in
    record { calls = went.calls; after = went.after; grown = went.grown; leads = (went.leads.0, went.leads.1, went.leads.2, less seen went.after went.leads.3); at = went.at }

pub goes_less : (Is : Seen Reader → Seen Reader → Type 0) (a b : Option (List wire.Call)) (f g : ℕ) (old new : List (Held Reader)) → GoesTo false a b f g old new Is → GoesTo true a b f g old new Is
goes_less Is a b f g old new goes seen at =
    let went = goes seen at in
    record { calls = went.calls; after = went.after; grown = went.grown; leads = (went.leads.0, leads_less true seen went.after went.leads.0 went.calls went.leads.1, went.leads.2, went.leads.3); at = went.at }

-- without a call
pub goes_by_acts : (Is : Seen Reader → Seen Reader → Type 0) (short : Bool) (a : Option (List wire.Call)) (f : ℕ) (old new : List (Held Reader)) → Acts old new Is → GoesTo short a a f f old new Is
goes_by_acts Is short a f old new acts seen at =
    let t = acts seen at in
    record { calls = []; after = t.0; grown = grows_none a; leads = (t.0, leads_less short seen t.0 t.0 [] t.2, (λ never. absurd (false≢true never)), t.3); at = t.1 }

-- one after the other, by way of where it stood between
abbrev pub Then : (Seen Reader → Seen Reader → Type 0) → (Seen Reader → Seen Reader → Type 0) → Seen Reader → Seen Reader → Type 0
Then Is Next s t = (middle : Seen Reader) × Is s middle × Next middle t

-- What was awaited.
pub waits_go : (awaited : Awaited) (a b : Option (List wire.Call)) (f g : ℕ) (old new : List (Held Reader)) (world world' : Latest) (end : Result (Unit {0}) Halt) (result : Result (Unit {0}) Stop) → is_failed result ≡ is_failed end → ((history : History Reader) → HasStop result history)
    → Goes a b (Holds old) (Holds new) (λ before calls after. Waited Hears awaited f g end before world calls after world') → GoesTo (is_failed result) a b f g old new (λ s t. HasStop result t.history × GoesQuietly world world' s t)
waits_go awaited a b f g old new world world' end result same stops goes seen at =
    let went = goes seen at in
    let l = waits_lead awaited seen world went.calls went.after world' end went.leads.waits in
    record {
      calls = went.calls;
      after = went.after;
      grown = went.grown;
      leads = (l.0, subst (λ (b : Bool). Leads b seen went.calls went.after l.0) (sym same) l.1, went.leads.blames, (stops went.after.history, waits_quiet awaited seen world went.calls went.after world' end went.leads.waits));
      at = went.at;
    }

-- some place where it stands
pub acts_reached : {Is : Seen Reader → Seen Reader → Type 0} (old new : List (Held Reader)) → ((seen : Seen Reader) × Holds old seen) → Acts old new Is → (seen : Seen Reader) × Holds new seen
acts_reached old new r acts = let a = acts r.0 r.1 in (a.0, a.1)

pub goes_reached : {Is : Seen Reader → Seen Reader → Type 0} (short : Bool) (a b : Option (List wire.Call)) (f g : ℕ) (old new : List (Held Reader)) → ((seen : Seen Reader) × Holds old seen) → GoesTo short a b f g old new Is → (seen : Seen Reader) × Holds new seen
goes_reached short a b f g old new r goes = let went = goes r.0 r.1 in (went.after, went.at)
