-- Where a turn of a copy says that it moved, something happened on a link, or bytes that had been read arrived, or else it went on in another way.
use Rattle.std.proofs.Common.{◌≡◌, ◌≢◌, ◌<◌, ◌||◌, ◌+◌, arith, ℕ, Bool, true, false, List, [], ◌∷◌, ◌++◌, length, Option, Some, None, refl, ap, sym, subst, ◌∙◌, append_assoc}
use Rattle.std.proofs.lemmas.Bool.{false≢true}
use Rattle.std.proofs.lemmas.List.Folds.{list_any-append}
use Rattle.std.specs.List.{list_any}
use Rattle.lnbd_callbacks.specs.Calls.{Call}
use Rattle.lnbd_history.specs.Events.{History}
use Rattle.lnbd_history.specs.Answers.{out_after}
use Rattle.lnbd_link.specs.Call as wire
use Rattle.lnbd_link.specs.Call.{Read, Write, Shut, ReadTold, Moved, Unready, Ended, ReadFault, WriteTold, Sent, Full, WriteFault}
use Rattle.lnbd_link.specs.Part.{Adds}
use Rattle.lnbd_poll.specs.declared.noticed.Noticed.{Noticed}
use Rattle.lnbd_poll.specs.declared.noticed.Noticed.TheVariants as noticed
use Rattle.lnbd_poll.specs.declared.noticed.Turn.{Turn}
use Rattle.lnbd_poll.specs.declared.noticed.Turn.TheVariants as turn
use Rattle.lnbd_poll.specs.Held.{Held, AreAt}
use Rattle.lnbd_poll.specs.Notices.{Hears, ReadsIf, ReadsOn, Sends, WritesIf, is_reading, is_waiting, room_after}
use Rattle.lnbd_poll.specs.Seen.{Seen}
use Rattle.lnbd_poll.specs.Seen as poll
use Rattle.lnbd_poll.specs.Turned.{TurnsWhole}
use Rattle.lnbd_poll.specs.Turns.{AllTook, All_took, Ending, Goes_on, Runs_short, Breaks_off, Short, Stops, Takes, Told, Turns, TurnsOne, Whole, WritesAll, is_lost, is_short, moved_by, together, turn_of, with_moved}
use Rattle.lnbd_board.specs.declared.ask.Ask.{Ask}
use Rattle.lnbd_board.specs.declared.ask.Change.{Change}
use Rattle.lnbd_board.specs.declared.how.How.{How}
use Rattle.lnbd_board.specs.declared.next.Next.{Next}
use Rattle.lnbd_board.specs.declared.next.Next.TheVariants as next
use Rattle.lnbd_board.specs.declared.row.Row.{Row}
use Rattle.lnbd_board.specs.declared.ticket.Ticket.{Ticket}
use Rattle.lnbd_board.specs.Board.{AsksOn, EndsRow, IsNext, begun_with}
use Rattle.lnbd_board.specs.Files as board
use Rattle.lnbd_copy.specs.Copier as copier
use Rattle.lnbd_copy.specs.Job as work
use Rattle.lnbd_copy.specs.Moving.{AreTaken, SomethingHappens, HasMoved, Stirs, TurnsInVain}
use Rattle.lnbd_copy.specs.Pauses.{Unpaused}
use Rattle.lnbd_copy.specs.UnderWay.{HasBegunOne}
use Rattle.lnbd_usage.specs.Vain.{has_happened}
use Rattle.lnbd_copy.specs.Way.{Stand}
use Rattle.lnbd_copy.specs.Windows as windows
use Rattle.lnbd_copy.proofs.FullLemmas.{both_none, moved_some, some_is_none, steps, still_none, true_is, with_none}
use Rattle.lnbd_copy.proofs.VainLemmas.{arrives_none}

-- Calls in which something happened.

or_true : (b : Bool) → (b || true) ≡ true
or_true true = refl
or_true false = refl

or_none : (a b : Bool) → (a || b) ≡ false → (a ≡ false) × (b ≡ false)
or_none true b none = true_is none
or_none false b none = (refl, none)

pub none_of_both : (p : wire.Call → Bool) (calls own other : List wire.Call) → calls ≡ own ++ other → list_any p calls ≡ false → (list_any p own ≡ false) × (list_any p other ≡ false)
none_of_both p calls own other are none = or_none _ _ (sym (list_any-append p own other) ∙ sym (ap (list_any p) are) ∙ none)

pub happens_shut : (a b : Option (List wire.Call)) (link : ℕ) → Adds a b (Shut link) → SomethingHappens a b
happens_shut a b link adds = record { on = λ all is. let added = adds all is in record { before = added.0; more = Shut link ∷ []; was = added.1; now = added.2; are = refl } }

pub happens_behind : (a b c : Option (List wire.Call)) → Unpaused a b → SomethingHappens b c → SomethingHappens a c
happens_behind a b c one two = record {
  on = λ all is.
      let late = two.on all is in
      let early = one.on late.before late.was in
      record {
        before = early.before;
        more = early.more ++ late.more;
        was = early.was;
        now = late.now ∙ ap (λ (l : List wire.Call). l ++ late.more) early.now ∙ append_assoc early.before early.more late.more;
        are = list_any-append has_happened early.more late.more ∙ ap (λ (b : Bool). list_any has_happened early.more || b) late.are ∙ or_true (list_any has_happened early.more);
      };
}

-- A turn of the handles.

lost_none : (notice : Noticed) → moved_by notice ≡ None → is_lost notice ≡ false
lost_none (noticed.Moved n) none = refl
lost_none noticed.NotReady none = refl
lost_none noticed.Idle none = refl
lost_none noticed.Ended none = refl
lost_none noticed.LinkFailed none = some_is_none 0 none
lost_none noticed.NoMemory none = refl

whole_same : (a b : Option ℕ) → Whole a ≡ Whole b → a ≡ b
whole_same a b same = cc

whole_short : {A : Type 0} (a : Option ℕ) → Whole a ≡ Short → A
whole_short a same = absurd (no same)
  where
    no : Whole a ≡ Short → ⊥
    no e = cc

-- Nothing was read that has not arrived.
abbrev AreRead : {K : Type 0} → List (Seen K) → Type 0
AreRead [] = Unit {0}
AreRead (seen ∷ all) = (seen.unread ≡ []) × AreRead all

module _ {K World : Type 0} (steps : World → List (Call K) → World → Type 0) where
  -- Where nothing happened the callbacks were told nothing.

  writes_none : (link : ℕ) (before : History K) (world : World) (calls : List wire.Call) (after : History K) (world' : World) (moved : Option ℕ) → WritesAll steps link before world calls after world' moved → moved ≡ None → world' ≡ world
  writes_none link before world calls after world' moved (Stops _ _ _ _ _ _ notice w stop is) none =
      (subst (λ (lost : Bool). Told steps lost w.middle world after world') (lost_none notice (sym is ∙ none)) w.told).1
  writes_none link before world calls after world' moved (Goes_on _ _ _ _ _ _ notice own middle half other rest w some more are is) none = moved_some notice rest some (sym is ∙ none)

  reads_none : (b : Bool) (notice : Noticed) (before after : Seen K) (world world' : World) (calls : List wire.Call) → ReadsIf steps b notice before world calls after world' → moved_by notice ≡ None → is_short notice ≡ false → world' ≡ world
  reads_none false notice before after world world' calls r none enough = r.2.1
  reads_none true notice before after world world' calls r none enough = on before.unread r
    where
      hears : (told : ReadTold) → Hears steps told notice before after world world' → world' ≡ world
      hears (Moved bytes) h = arrives_none steps bytes notice before after world world' h.1 none enough
      hears Unready h = h.1.1
      hears Ended h = some_is_none 0 (sym (ap moved_by h.0) ∙ none)
      hears ReadFault h = some_is_none 0 (sym (ap moved_by h.0) ∙ none)

      on : (unread : List ℕ) → ReadsOn steps unread notice before world calls after world' → world' ≡ world
      on [] r = hears r.0 r.2
      on (byte ∷ bytes) r = arrives_none steps (byte ∷ bytes) notice before after world world' r.1 none enough

  one_none : (notice : Noticed) (before : Seen K) (world : World) (calls : List wire.Call) (after : Seen K) (world' : World) (moved : Option ℕ) → TurnsOne steps notice before world calls after world' moved → is_short notice ≡ false → moved ≡ None → world' ≡ world
  one_none notice before world calls after world' moved t enough none =
      let quiet = both_none t.sent (moved_by notice) (sym t.moved_is ∙ none) in
      let middle : Seen K = record { link = before.link; history = t.middle; unread = before.unread } in
      reads_none (is_reading t.middle) notice middle after t.half world' t.read t.reads quiet.1 enough ∙ writes_none before.link before.history world t.written t.middle t.half t.sent t.writes quiet.0

  turns_none : (before : List (Seen K)) (world : World) (calls : List wire.Call) (after : List (Seen K)) (world' : World) (ending : Ending) → Turns steps before world calls after world' ending → ending ≡ Whole None → world' ≡ world
  turns_none before world calls after world' ending (All_took _ _ _ _ _ _ is none after_is world_is end) still = world_is
  turns_none before world calls after world' ending (Takes _ _ _ _ _ _ seen others notice own here half moved other there rest is one enough more calls_are after_is end) still =
      let quiet = with_none moved rest (sym end ∙ still) in
      turns_none others half other there world' rest more quiet.1 ∙ one_none notice seen world own here half moved one enough quiet.0
  turns_none before world calls after world' ending (Runs_short _ _ _ _ _ _ seen others here moved is one after_is end) still = whole_short None (sym still ∙ end)
  turns_none before world calls after world' ending (Breaks_off _ _ _ _ _ _ none after_is world_is end) still = world_is

  -- Where nothing happened in its calls, and all that was read had arrived, none of it moved.

  write_still : (b : Bool) (link : ℕ) (notice : Noticed) (before after : History K) (calls : List wire.Call) → WritesIf b link notice before calls after → list_any has_happened calls ≡ false → moved_by notice ≡ None
  write_still false link notice before after calls w nothing = ap moved_by w.0
  write_still true link notice before after calls w nothing = go w.0 w.1 w.2
    where
      go : (told : WriteTold) → calls ≡ Write link (length (out_after before)) told ∷ [] → Sends told notice before after → moved_by notice ≡ None
      go (Sent bytes) own s = true_is (sym (ap (list_any has_happened) own) ∙ nothing)
      go Full own s = ap moved_by s.0
      go WriteFault own s = true_is (sym (ap (list_any has_happened) own) ∙ nothing)

  writes_still : (link : ℕ) (before : History K) (world : World) (calls : List wire.Call) (after : History K) (world' : World) (moved : Option ℕ) → WritesAll steps link before world calls after world' moved → list_any has_happened calls ≡ false → moved ≡ None
  writes_still link before world calls after world' moved (Stops _ _ _ _ _ _ notice w stop is) nothing = is ∙ write_still (is_waiting before) link notice before w.middle calls w.writes nothing
  writes_still link before world calls after world' moved (Goes_on _ _ _ _ _ _ notice own middle half other rest w some more are is) nothing =
      let none = write_still (is_waiting before) link notice before w.middle own w.writes (none_of_both has_happened calls own other are nothing).0 in
      moved_some notice None some (ap (λ (m : Option ℕ). together m None) none)

  reads_still : (b : Bool) (notice : Noticed) (before after : Seen K) (world world' : World) (calls : List wire.Call) → ReadsIf steps b notice before world calls after world' → list_any has_happened calls ≡ false → before.unread ≡ [] → moved_by notice ≡ None
  reads_still false notice before after world world' calls r nothing read = ap moved_by r.0
  reads_still true notice before after world world' calls r nothing read = hears r'.0 r'.1 r'.2
    where
      r' : ReadsOn steps [] notice before world calls after world'
      r' = subst (λ (unread : List ℕ). ReadsOn steps unread notice before world calls after world') read r

      hears : (told : ReadTold) → calls ≡ Read before.link (room_after before.history) told ∷ [] → Hears steps told notice before after world world' → moved_by notice ≡ None
      hears (Moved bytes) own h = true_is (sym (ap (list_any has_happened) own) ∙ nothing)
      hears Unready own h = ap moved_by h.0
      hears Ended own h = true_is (sym (ap (list_any has_happened) own) ∙ nothing)
      hears ReadFault own h = true_is (sym (ap (list_any has_happened) own) ∙ nothing)

  one_still : (notice : Noticed) (before : Seen K) (world : World) (calls : List wire.Call) (after : Seen K) (world' : World) (moved : Option ℕ) → TurnsOne steps notice before world calls after world' moved → list_any has_happened calls ≡ false → before.unread ≡ [] → moved ≡ None
  one_still notice before world calls after world' moved t nothing read =
      let none = none_of_both has_happened calls t.written t.read t.calls_are nothing in
      let middle : Seen K = record { link = before.link; history = t.middle; unread = before.unread } in
      let sent = writes_still before.link before.history world t.written t.middle t.half t.sent t.writes none.0 in
      t.moved_is ∙ ap (λ (m : Option ℕ). together m (moved_by notice)) sent ∙ reads_still (is_reading t.middle) notice middle after t.half world' t.read t.reads none.1 read

  turns_still : (before : List (Seen K)) (world : World) (calls : List wire.Call) (after : List (Seen K)) (world' : World) (ending : Ending) (turns : Turns steps before world calls after world' ending) → AllTook turns → list_any has_happened calls ≡ false → AreRead before → (m : Option ℕ) → ending ≡ Whole m → m ≡ None
  turns_still before world calls after world' ending (All_took _ _ _ _ _ _ is none after_is world_is end) took nothing read m whole = whole_same m None (sym whole ∙ end)
  turns_still before world calls after world' ending (Takes _ _ _ _ _ _ seen others notice own here half moved other there rest is one enough more calls_are after_is end) took nothing read m whole =
      let none = none_of_both has_happened calls own other calls_are nothing in
      let all : AreRead (seen ∷ others) = subst AreRead is read in
      go rest (turns_still others half other there world' rest more took none.1 all.1) (sym whole ∙ end)
    where
      go : (rest : Ending) → ((m : Option ℕ) → rest ≡ Whole m → m ≡ None) → Whole m ≡ with_moved moved rest → m ≡ None
      go (Whole r) still same =
          let none = none_of_both has_happened calls own other calls_are nothing in
          let all : AreRead (seen ∷ others) = subst AreRead is read in
          whole_same m (together moved r) same ∙ ap (λ (o : Option ℕ). together o r) (one_still notice seen world own here half moved one none.0 all.0) ∙ still r refl
      go Short still same = whole_short m same
  turns_still before world calls after world' ending (Runs_short _ _ _ _ _ _ seen others here moved is one after_is end) took nothing read m whole = whole_short m (sym whole ∙ end)
  turns_still before world calls after world' ending (Breaks_off _ _ _ _ _ _ none after_is world_is end) took nothing read m whole = absurd took

-- A turn, where it is told.

pub turned_same : (a b : Option (List wire.Call)) (f g : ℕ) (told : Turn) (now now' : board.Seen) (held held' : List (Held Ticket))
    → poll.Goes a b (λ seens. AreAt held seens) (λ seens. AreAt held' seens) (λ before calls after. TurnsWhole steps f g told before now calls after now') → told ≡ turn.Still → Stand held → now' ≡ now
turned_same a b f g told now now' held held' goes still s =
    let went = goes s.seens s.at in
    turns_none steps s.seens now went.calls went.after now' (Whole went.leads.moved) went.leads.turns (ap Whole (still_none went.leads.moved told went.leads.tells still))

are_read : (held : List (Held Ticket)) (seens : List (Seen Ticket)) → AreAt held seens → AreTaken held → AreRead seens
are_read [] [] at taken = tt
are_read [] (s ∷ ss) at taken = absurd at
are_read (x ∷ xs) [] at taken = absurd at
are_read (x ∷ xs) (s ∷ ss) at taken = (at.0.unread ∙ taken.0, are_read xs ss at.1 taken.1)

pub turned_stirs : (a b : Option (List wire.Call)) (f g : ℕ) (told : Turn) (now now' : board.Seen) (held held' : List (Held Ticket)) (count : ℕ)
    → poll.Goes a b (λ seens. AreAt held seens) (λ seens. AreAt held' seens) (λ before calls after. TurnsWhole steps f g told before now calls after now') → told ≡ turn.Moved count → Stand held → Stirs held a b
turned_stirs a b f g told now now' held held' count goes moves s = record {
  on = λ all is.
      let went = goes s.seens s.at in
      let grown = went.grown all is in
      record {
        before = grown.0;
        more = went.calls;
        was = grown.1;
        now = grown.2;
        are = λ nothing taken.
            let none = turns_still steps s.seens now went.calls went.after now' (Whole went.leads.moved) went.leads.turns went.leads.all nothing (are_read held s.seens s.at taken) went.leads.moved refl in
            moved_not_still (sym moves ∙ went.leads.tells ∙ ap turn_of none);
      };
}
  where
    moved_not_still : turn.Moved count ≡ turn.Still → ⊥
    moved_not_still e = cc

-- A turn of the copy.

pub moved_stirs : (copy copy' : copier.Seen) (a b c : Option (List wire.Call)) → Stirs copy.held a b → Unpaused b c → HasMoved copy copy' a c
moved_stirs copy copy' a b c stirs unpaused = record {
  on = λ all is.
      let late = unpaused.on all is in
      let early = stirs.on late.before late.was in
      record {
        before = early.before;
        more = early.more ++ late.more;
        was = early.was;
        now = late.now ∙ ap (λ (l : List wire.Call). l ++ late.more) early.now ∙ append_assoc early.before early.more late.more;
        are = λ nothing taken board job. early.are (none_of_both has_happened (early.more ++ late.more) early.more late.more refl nothing).0 taken;
      };
}

pub moved_happens : (copy copy' : copier.Seen) (a b : Option (List wire.Call)) → SomethingHappens a b → HasMoved copy copy' a b
moved_happens copy copy' a b happens = record {
  on = λ all is.
      let made = happens.on all is in
      record { before = made.before; more = made.more; was = made.was; now = made.now; are = λ nothing taken board job. false≢true (sym nothing ∙ made.are) };
}

pub moved_acts : (copy turned acted parted : copier.Seen) (a b c : Option (List wire.Call)) → TurnsInVain turned.held a b → turned.board ≡ copy.board → turned.job ≡ copy.job → (acted.board ≡ turned.board → acted.job ≢ turned.job) → parted.board ≡ acted.board → parted.job ≡ acted.job → c ≡ b
    → HasMoved copy parted a c
moved_acts copy turned acted parted a b c vain board job changed board' job' same = record {
  on = λ all is.
      let made = vain.on all (sym same ∙ is) in
      record {
        before = made.before;
        more = made.more;
        was = made.was;
        now = made.now;
        are = λ nothing taken now rest. changed (sym board' ∙ now ∙ sym board) (sym job' ∙ rest ∙ sym job);
      };
}

-- Slices go on.

cons_none : {A : Type 0} (x : A) (xs : List A) → x ∷ xs ≡ [] → ⊥
cons_none x xs e = cc

pub over_came : (how : How) (n source destination : ℕ) (told : Next) (old new : board.Seen) → told ≡ next.Over n source destination → IsNext how told old new → old.came ≡ [] → true ≡ false
over_came how n source destination told old new is ends none =
    let over : EndsRow how n source destination old new = subst (λ (x : Next). IsNext how x old new) is ends in
    absurd (cons_none n new.came (sym over.first ∙ none))

pub on_came : (how : How) (n destination : ℕ) (one : Change) (told : Next) (old new : board.Seen) → told ≡ next.Asks n destination one → IsNext how told old new → old.came ≡ [] → true ≡ false
on_came how n destination one told old new is goes none =
    let on : AsksOn how n destination one old new = subst (λ (x : Next). IsNext how x old new) is goes in
    absurd (cons_none n new.came (sym on.first ∙ none))

pub over_fewer : (how : How) (n source destination : ℕ) (told : Next) (old new : board.Seen) → told ≡ next.Over n source destination → IsNext how told old new → length new.came < length old.came
over_fewer how n source destination told old new is ends =
    let over : EndsRow how n source destination old new = subst (λ (x : Next). IsNext how x old new) is ends in
    subst (λ (l : List ℕ). length new.came < length l) (sym over.first) (omega arith)

pub on_fewer : (how : How) (n destination : ℕ) (one : Change) (told : Next) (old mid new : board.Seen) → told ≡ next.Asks n destination one → IsNext how told old mid → new ≡ mid → length new.came < length old.came
on_fewer how n destination one told old mid new is goes same =
    let on : AsksOn how n destination one old mid = subst (λ (x : Next). IsNext how x old mid) is goes in
    subst (λ (s : board.Seen). length s.came < length old.came) (sym same) (subst (λ (l : List ℕ). length mid.came < length l) (sym on.first) (omega arith))

-- Slices begin.

pub one_begun : (row : Row) (one : Ask) (old mid new : board.Seen) → mid ≡ begun_with old row one → new ≡ mid → new.begun ≡ old.begun + 1
one_begun row one old mid new is same = ap (λ (s : board.Seen). s.begun) same ∙ ap (λ (s : board.Seen). s.begun) is

pub none_more : (went : Bool) (old new : windows.Seen) (now now' : board.Seen) → went ≡ false → HasBegunOne went old new now now' → now'.begun ≡ now.begun
none_more true old new now now' is begun = true_is is
none_more false old new now now' is begun = ap (λ (s : board.Seen). s.begun) begun.2

-- What a job did shows.

pub job_changed : (was now : work.Seen) (old new : Option work.Seen) → old ≡ Some was → new ≡ Some now → now ≢ was → new ≢ old
job_changed was now old new is is' other same = other (some_same now was (sym is' ∙ same ∙ is))
  where
    some_same : (x y : work.Seen) → Some x ≡ Some y → x ≡ y
    some_same x y e = cc
