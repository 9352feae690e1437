-- What is done on a link while something is waited for: it is driven, nothing is asked, and each pause wants it in vain.
use Rattle.std.proofs.Common.{◌≡◌, ◌≢◌, ℕ, Bool, true, false, List, [], ◌∷◌, ◌++◌, Some, None, Result, Ok, Err, refl, ap, sym, subst, ◌∙◌, append_assoc}
use Rattle.std.proofs.lemmas.List.{append-nil}
use Rattle.lnbd_callbacks.specs.Calls.{Call}
use Rattle.lnbd_history.specs.Answers.{direction_after}
use Rattle.lnbd_history.specs.Events.{History}
use Rattle.lnbd_asked.specs.Driven.{Drives, Passes}
use Rattle.lnbd_link.specs.Call as wire
use Rattle.lnbd_link.specs.Call.{Pause}
use Rattle.lnbd_poll.specs.declared.noticed.Noticed.{Noticed}
use Rattle.lnbd_poll.specs.declared.noticed.Noticed.TheVariants as noticed
use Rattle.lnbd_poll.specs.Seen.{Seen}
use Rattle.lnbd_poll.specs.Turns.{TurnsOne, is_short}
use Rattle.lnbd_usage.specs.OneLink.{Converse}
use Rattle.lnbd_usage.proofs.Talking.{converse_moves, converse_none, converse_on, converse_paused}
use Rattle.lnbd_waits.specs.declared.waiting.Awaited.{Awaited}
use Rattle.lnbd_waits.specs.declared.waiting.Halt.{Halt}
use Rattle.lnbd_waits.specs.Waits.{Is_silent, Is_still, Is_there, Moves, Runs_short, Waits, is_awaited, want}
use Rattle.lnbd_waits.proofs.StillLemmas.{still_same}
use Rattle.lnbd_ask.specs.Asks.{IsGoing}
use Rattle.lnbd_ask.proofs.TakeLemmas.{Took, Unasked, turn_took, unasked_none, unasked_on}
use Rattle.lnbd_ask.proofs.VainLemmas.{turn_vain}

abbrev pub is_failed : {A : Type 0} → Result A Halt → Bool
is_failed (Ok value) = false
is_failed (Err why) = true

module _ {K : Type 0} where
  -- what was before is so too
  pub going_back : (since before : History K) → IsGoing (since ++ before) → IsGoing before
  going_back [] before going = going
  going_back (event ∷ since) before going = going_back since before (going.0.0, going.0.1)

  pub unasked_back : (before after : History K) → Unasked before after → IsGoing after → IsGoing before
  unasked_back before after unasked going = going_back unasked.since before (subst IsGoing unasked.is going)

  -- On the link, by these calls, from where this had happened to where it then stands.
  pub record Went (link : ℕ) (start : History K) (calls : List wire.Call) (short : Bool) (after : Seen K) : Type 0 where
    pub same : after.link ≡ link
    pub unasked : Unasked start after.history
    pub drives : (all : List wire.Call) → Drives link all start [] → Drives link (all ++ calls) after.history after.unread
    pub none : short ≡ false → after.unread ≡ []
    pub converse : IsGoing after.history → Converse link calls

  went_took : (link : ℕ) (start : History K) (calls : List wire.Call) (short : Bool) (after : Seen K) → Took link start calls short after → Went link start calls short after
  went_took link start calls short after t = record {
    same = t.same;
    unasked = t.takes.unasked;
    drives = t.takes.drives;
    none = t.none;
    converse = λ going. converse_moves link calls t.takes.talk t.takes.unpaused;
  }

  went_less : (link : ℕ) (start : History K) (calls : List wire.Call) (short : Bool) (after : Seen K) → Went link start calls false after → Went link start calls short after
  went_less link start calls short after w = record { same = w.same; unasked = w.unasked; drives = w.drives; none = λ e. w.none refl; converse = w.converse }

  went_on : (link : ℕ) (start : History K) (own other : List wire.Call) (short : Bool) (middle after : Seen K) → Went link start own false middle → Went link middle.history other short after
      → Went link start (own ++ other) short after
  went_on link start own other short middle after one two = record {
    same = two.same;
    unasked = unasked_on start middle.history after.history one.unasked two.unasked;
    drives = λ all d. subst (λ (l : List wire.Call). Drives link l after.history after.unread) (append_assoc all own other)
        (two.drives (all ++ own) (subst (Drives link (all ++ own) middle.history) (one.none refl) (one.drives all d)));
    none = two.none;
    converse = λ going. converse_on link own other (one.converse (unasked_back middle.history after.history two.unasked going)) (two.converse going);
  }

  went_none : (before after : Seen K) (calls : List wire.Call) (short : Bool) → after ≡ before → calls ≡ [] → before.unread ≡ [] → Went before.link before.history calls short after
  went_none before after calls short same none empty = subst (λ (s : Seen K). Went before.link before.history calls short s) (sym same)
      (subst (λ (l : List wire.Call). Went before.link before.history l short before) (sym none) (record {
        same = refl;
        unasked = unasked_none before.history;
        drives = λ all d. subst (λ (l : List wire.Call). Drives before.link l before.history before.unread) (sym (append-nil all)) (subst (Drives before.link all before.history) (sym empty) d);
        none = λ e. empty;
        converse = λ going. converse_none before.link;
      }))

-- In any direction something is waited for: a handle that waits for more lives.
module _ {K : Type 0} (lives : (awaited : Awaited) (history : History K) → IsGoing history → is_awaited awaited history ≡ true → direction_after history ≢ 0) {World : Type 0}
    (steps : World → List (Call K) → World → Type 0) (awaited : Awaited) where
  -- a turn in which nothing happened, and the pause behind it
  went_paused : (notice : Noticed) (before after : Seen K) (own : List wire.Call) (world world' : World) → TurnsOne steps notice before world own after world' None → is_short notice ≡ false
      → is_awaited awaited before.history ≡ true → before.unread ≡ []
      → Went before.link before.history (own ++ Pause (want after ∷ []) ∷ []) false after
  went_paused notice before after own world world' turns enough busy empty =
      let took = turn_took steps notice before after own world world' None turns empty in
      let pause : wire.Call = Pause (want after ∷ []) in
      let still : is_awaited awaited after.history ≡ true = ap (is_awaited awaited) (still_same steps notice before after own world world' turns enough) ∙ busy in
      record {
        same = took.same;
        unasked = took.takes.unasked;
        drives = λ all d. subst (λ (l : List wire.Call). Drives before.link l after.history after.unread) (append_assoc all own (pause ∷ []))
            (Passes (all ++ own) after.history after.unread pause ((all ++ own) ++ pause ∷ []) (took.takes.drives all d) refl refl);
        none = λ e. took.none enough;
        converse = λ going. converse_paused before.link own (want after ∷ []) (converse_moves before.link own took.takes.talk took.takes.unpaused)
            (turn_vain steps notice before after own world world' turns enough took.same (lives awaited after.history going still));
      }

  pub waits_went : (before : Seen K) (world : World) (calls : List wire.Call) (after : Seen K) (world' : World) (end : Result (Unit {0}) Halt)
      → Waits steps awaited before world calls after world' end → before.unread ≡ [] → Went before.link before.history calls (is_failed end) after
  waits_went before world calls after world' end (Is_there _ _ _ _ _ _ there none same world_is end_is) empty = went_none before after calls (is_failed end) same none empty
  waits_went before world calls after world' end (Moves _ _ _ _ _ _ notice n own middle half other busy turns enough rest calls_are) empty =
      let first = went_took before.link before.history own (is_short notice) middle (turn_took steps notice before middle own world half (Some n) turns empty) in
      let left : middle.unread ≡ [] = first.none enough in
      let later = subst (λ (n : ℕ). Went n middle.history other (is_failed end) after) first.same (waits_went middle half other after world' end rest left) in
      subst (λ (l : List wire.Call). Went before.link before.history l (is_failed end) after) (sym calls_are)
      (went_on before.link before.history own other (is_failed end) middle after (subst (λ (b : Bool). Went before.link before.history own b middle) enough first) later)
  waits_went before world calls after world' end (Is_still _ _ _ _ _ _ notice own middle half other busy turns enough rest calls_are) empty =
      let first = went_paused notice before middle own world half turns enough busy empty in
      let left : middle.unread ≡ [] = first.none refl in
      let later = subst (λ (n : ℕ). Went n middle.history other (is_failed end) after) first.same (waits_went middle half other after world' end rest left) in
      subst (λ (l : List wire.Call). Went before.link before.history l (is_failed end) after) (append_assoc own (Pause (want middle ∷ []) ∷ []) other ∙ sym calls_are)
      (went_on before.link before.history (own ++ Pause (want middle ∷ []) ∷ []) other (is_failed end) middle after first later)
  waits_went before world calls after world' end (Is_silent _ _ _ _ _ _ notice own busy turns enough calls_are end_is) empty =
      subst (λ (l : List wire.Call). Went before.link before.history l (is_failed end) after) (sym calls_are)
      (went_less before.link before.history (own ++ Pause (want after ∷ []) ∷ []) (is_failed end) after (went_paused notice before after own world world' turns enough busy empty))
  waits_went before world calls after world' end (Runs_short _ _ _ _ _ _ moved busy turns end_is) empty =
      let took = turn_took steps noticed.NoMemory before after calls world world' moved turns empty in
      subst (λ (b : Bool). Went before.link before.history calls b after) (sym (ap is_failed end_is)) (went_took before.link before.history calls true after took)
