-- The calls of a turn are no pauses.
use Rattle.std.proofs.Common.{◌≡◌, ◌||◌, ℕ, Bool, true, false, List, [], ◌∷◌, ◌++◌, Option, Some, None, is_some, refl, ap, sym, ◌∙◌}
use Rattle.std.proofs.lemmas.Bool.{false≢true}
use Rattle.std.proofs.lemmas.List.Folds.{list_any-append}
use Rattle.std.specs.List.{list_any}
use Rattle.lnbd_callbacks.specs.Calls.{Call}
use Rattle.lnbd_callbacks.specs.Steps.{OneByOne}
use Rattle.lnbd_history.specs.Events.{History}
use Rattle.lnbd_link.specs.Call as wire
use Rattle.lnbd_link.specs.Call.{Read, ReadTold}
use Rattle.lnbd_poll.specs.declared.noticed.Noticed.{Noticed}
use Rattle.lnbd_poll.specs.declared.noticed.Noticed.TheVariants as noticed
use Rattle.lnbd_poll.specs.declared.noticed.Turn.{Turn}
use Rattle.lnbd_poll.specs.declared.noticed.Turn.TheVariants as turn
use Rattle.lnbd_poll.specs.Held.{Held, AreAt}
use Rattle.lnbd_poll.specs.Notices.{ReadsIf, ReadsOn, WritesIf, is_reading, is_waiting}
use Rattle.lnbd_poll.specs.Seen.{Seen}
use Rattle.lnbd_poll.specs.Seen as poll
use Rattle.lnbd_poll.specs.Turned.{TurnsCut, TurnsWhole}
use Rattle.lnbd_poll.specs.Turns.{All_took, Ending, Goes_on, Runs_short, Breaks_off, Short, Stops, Takes, Turns, TurnsOne, Whole, WritesAll, is_moved, moved_by, together, turn_of, with_moved}
use Rattle.lnbd_board.specs.declared.ticket.Ticket.{Ticket}
use Rattle.lnbd_board.specs.Files.{Files}
use Rattle.lnbd_board.specs.Files as board
use Rattle.lnbd_copy.specs.Pauses.{Unpaused}
use Rattle.lnbd_usage.specs.Pauses.{HasNoPause, is_pause}
use Rattle.lnbd_copy.specs.Way.{Stand}

pub true_is : {A : Type 0} → true ≡ false → A
true_is e = absurd (false≢true (sym e))

-- The calls of a turn.

pub none_then : (p : wire.Call → Bool) (calls own other : List wire.Call) → calls ≡ own ++ other → list_any p own ≡ false → list_any p other ≡ false → list_any p calls ≡ false
none_then p calls own other are one two = ap (list_any p) are ∙ list_any-append p own other ∙ ap (λ (b : Bool). b || list_any p other) one ∙ two

pub some_is_none : {A : Type 0} (n : ℕ) → Some n ≡ None → A
some_is_none n is = absurd (false≢true (sym (ap is_some is)))

pub both_none : (a b : Option ℕ) → together a b ≡ None → (a ≡ None) × (b ≡ None)
both_none None b is = (refl, is)
both_none (Some n) None is = some_is_none n is
both_none (Some n) (Some m) is = some_is_none _ is

pub moved_some : {A : Type 0} (notice : Noticed) (rest : Option ℕ) → is_moved notice ≡ true → together (moved_by notice) rest ≡ None → A
moved_some (noticed.Moved n) rest some is = some_is_none n (both_none (Some n) rest is).0
moved_some noticed.NotReady rest some is = absurd (false≢true some)
moved_some noticed.Idle rest some is = absurd (false≢true some)
moved_some noticed.Ended rest some is = absurd (false≢true some)
moved_some noticed.LinkFailed rest some is = absurd (false≢true some)
moved_some noticed.NoMemory rest some is = absurd (false≢true some)

pub with_none : (moved : Option ℕ) (rest : Ending) → with_moved moved rest ≡ Whole None → (moved ≡ None) × (rest ≡ Whole None)
with_none moved (Whole rest) is = let quiet = both_none moved rest (cc is) in (quiet.0, ap Whole quiet.1)
with_none moved Short is = absurd (cc is)

module _ {K World : Type 0} (steps : World → List (Call K) → World → Type 0) where
  -- They are reads and writes of links.

  write_unpaused : (b : Bool) (link : ℕ) (notice : Noticed) (before after : History K) (calls : List wire.Call) → WritesIf b link notice before calls after → HasNoPause calls
  write_unpaused false link notice before after calls w = ap (list_any is_pause) w.1
  write_unpaused true link notice before after calls w = ap (list_any is_pause) w.1

  writes_unpaused : (link : ℕ) (before : History K) (world : World) (calls : List wire.Call) (after : History K) (world' : World) (moved : Option ℕ) → WritesAll steps link before world calls after world' moved → HasNoPause calls
  writes_unpaused link before world calls after world' moved (Stops _ _ _ _ _ _ notice w stop is) = write_unpaused (is_waiting before) link notice before w.middle calls w.writes
  writes_unpaused link before world calls after world' moved (Goes_on _ _ _ _ _ _ notice own middle half other rest w some more are is) =
      none_then is_pause calls own other are (write_unpaused (is_waiting before) link notice before w.middle own w.writes) (writes_unpaused link middle half other after world' rest more)

  reads_on_none : (p : wire.Call → Bool) → ((n room : ℕ) (answer : ReadTold) → p (Read n room answer) ≡ false) → (unread : List ℕ) (notice : Noticed) (before after : Seen K) (world world' : World) (calls : List wire.Call) → ReadsOn steps unread notice before world calls after world' → list_any p calls ≡ false
  reads_on_none p no_read [] notice before after world world' calls r = ap (list_any p) r.1 ∙ ap (λ (b : Bool). b || false) (no_read _ _ r.0)
  reads_on_none p no_read (byte ∷ bytes) notice before after world world' calls r = ap (list_any p) r.0

  reads_none : (p : wire.Call → Bool) → ((n room : ℕ) (answer : ReadTold) → p (Read n room answer) ≡ false) → (b : Bool) (notice : Noticed) (before after : Seen K) (world world' : World) (calls : List wire.Call) → ReadsIf steps b notice before world calls after world' → list_any p calls ≡ false
  reads_none p no_read false notice before after world world' calls r = ap (list_any p) r.1
  reads_none p no_read true notice before after world world' calls r = reads_on_none p no_read before.unread notice before after world world' calls r

  one_unpaused : (notice : Noticed) (before : Seen K) (world : World) (calls : List wire.Call) (after : Seen K) (world' : World) (moved : Option ℕ) → TurnsOne steps notice before world calls after world' moved → HasNoPause calls
  one_unpaused notice before world calls after world' moved t =
      none_then is_pause calls t.written t.read t.calls_are (writes_unpaused before.link before.history world t.written t.middle t.half t.sent t.writes)
      (reads_none is_pause (λ n room answer. refl) (is_reading t.middle) notice (record { link = before.link; history = t.middle; unread = before.unread }) after t.half world' t.read t.reads)

  pub turns_unpaused : (before : List (Seen K)) (world : World) (calls : List wire.Call) (after : List (Seen K)) (world' : World) (ending : Ending) → Turns steps before world calls after world' ending → HasNoPause calls
  turns_unpaused before world calls after world' ending (All_took _ _ _ _ _ _ is none after_is world_is end) = ap (list_any is_pause) none
  turns_unpaused before world calls after world' ending (Takes _ _ _ _ _ _ seen others notice own here half moved other there rest is one enough more calls_are after_is end) =
      none_then is_pause calls own other calls_are (one_unpaused notice seen world own here half moved one) (turns_unpaused others half other there world' rest more)
  turns_unpaused before world calls after world' ending (Runs_short _ _ _ _ _ _ seen others here moved is one after_is end) = one_unpaused noticed.NoMemory seen world calls here world' moved one
  turns_unpaused before world calls after world' ending (Breaks_off _ _ _ _ _ _ none after_is world_is end) = ap (list_any is_pause) none

-- A turn, where it is told.

abbrev pub steps : board.Seen → List (Call Ticket) → board.Seen → Type 0
steps = OneByOne Files

pub still_none : (moved : Option ℕ) (told : Turn) → told ≡ turn_of moved → told ≡ turn.Still → moved ≡ None
still_none None told is still = refl
still_none (Some n) told is still = absurd (moved_not_still _ (sym is ∙ still))
  where
    moved_not_still : (m : ℕ) → turn.Moved m ≡ turn.Still → ⊥
    moved_not_still m e = cc

pub turned_unpaused : (a b : Option (List wire.Call)) (f g : ℕ) (told : Turn) (now now' : board.Seen) (held held' : List (Held Ticket))
    → poll.Goes a b (λ seens. AreAt held seens) (λ seens. AreAt held' seens) (λ before calls after. TurnsWhole steps f g told before now calls after now') → Stand held → Unpaused a b
turned_unpaused a b f g told now now' held held' goes s = record {
  on = λ all is.
      let went = goes s.seens s.at in
      let grown = went.grown all is in
      record { before = grown.0; more = went.calls; was = grown.1; now = grown.2; are = turns_unpaused steps s.seens now went.calls went.after now' (Whole went.leads.moved) went.leads.turns };
}

-- Where it was cut, too.
pub cut_unpaused : (a b : Option (List wire.Call)) (f g : ℕ) (now now' : board.Seen) (held held' : List (Held Ticket))
    → poll.Goes a b (λ seens. AreAt held seens) (λ seens. AreAt held' seens) (λ before calls after. TurnsCut steps f g before now calls after now') → Stand held → Unpaused a b
cut_unpaused a b f g now now' held held' goes s = record {
  on = λ all is.
      let went = goes s.seens s.at in
      let grown = went.grown all is in
      record { before = grown.0; more = went.calls; was = grown.1; now = grown.2; are = turns_unpaused steps s.seens now went.calls went.after now' went.leads.ending went.leads.turns };
}
