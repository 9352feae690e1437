-- One call on the wires after another, in turns.
use Rattle.std.proofs.Common.{◌≡◌, ◌⊎◌, inl, inr, ◌≤◌, ℕ, Bool, true, false, not, ◌||◌, ◌==◌, List, [], ◌∷◌, ◌++◌, length, Option, Some, Result, Ok, Err, refl, sym, ◌∙◌, ap, subst, append_assoc, arith}
use Rattle.std.proofs.lemmas.Bool.{false≢true}
use Rattle.std.proofs.lemmas.List.Folds.{list_any-append}
use Rattle.std.specs.List.{list_any}
use Rattle.lnbd_model.specs.declared.fault.NoMemory.{NoMemory}
use Rattle.lnbd_history.specs.Answers.{state_after, in_flight_after}
use Rattle.lnbd_machine.specs.Now.{direction_now, in_flight_now}
use Rattle.lnbd_standing.specs.Standing.{AnswersAs}
use Rattle.lnbd_standing.proofs.Standing.{stands_right}
use Rattle.lnbd_link.specs.Call.{Call, ReadTold, WriteTold, Moved, Unready, Ended, ReadFault, Sent, Full, WriteFault}
use Rattle.lnbd_link.specs.Part.{Grows}
use Rattle.lnbd_link.specs.Count.{Rises}
use Rattle.lnbd_link.proofs.Parts.{grows_none, grows_on, rises_earlier, rises_later}
use Rattle.lnbd_machine.specs.Machine.{Machine}
use Rattle.lnbd_standing.specs.Standing.{StandsFor}
use Rattle.lnbd_handle.specs.Placing.{Handled}
use Rattle.lnbd_script.specs.declared.keeper.Keeper.{Keeper}
use Rattle.lnbd_script.specs.declared.event.Event.{Event}
use Rattle.lnbd_script.specs.declared.session.Session.{Session}
use Rattle.lnbd_script.specs.declared.told.Halt.TheVariants as halt
use Rattle.lnbd_script.specs.declared.told.Moved.{Moved as Transfer}
use Rattle.lnbd_script.specs.declared.told.Moved.TheVariants as moved
use Rattle.lnbd_script.specs.declared.told.Told.TheVariants as told
use Rattle.lnbd_script.specs.Seen.{Blames, Counts, Seen, IsAt, Went, Goes, is_link}
use Rattle.lnbd_poll.specs.States.{is_negotiating}
use Rattle.lnbd_script.specs.Turns.{Reads, ReadsShort, Writes, WritesAll, Nothing_waits, Takes_nothing, Fails, Takes_some, ReadsIf, TurnsShort, is_busy, is_reading, is_waiting, read_call, write_call, stirs}
use Rattle.lnbd_script.specs.Lines.{LineEnd, ReadsOn, WritesOn, told_read, told_write}
use Rattle.lnbd_script.specs.Steps.{TurnsOnce, is_busy_now, is_bytes, is_stirring, moved_end}

-- What a session's handle answers is what the history says.
pub answers_at : (seen : Seen) (session : Session) → IsAt seen session → AnswersAs seen.history session.handle.machine
answers_at seen session at = stands_right 1024 seen.history session.handle.machine at.stands

-- Counts.

pub counts_none : (first : Option Event) (f i : ℕ) → Counts first first f f i i
counts_none first f i = record { faults_later = omega arith; idles_later = omega arith; cause = λ off on. absurd (false≢true (sym off ∙ on)) }

pub counts_on : (a b c : Option Event) (f g h i j k : ℕ) → Counts a b f g i j → Counts b c g h j k → Counts a c f h i k
counts_on a b c f g h i j k one two = record {
  faults_later = omega (arith, one.faults_later, two.faults_later);
  idles_later = omega (arith, one.idles_later, two.idles_later);
  cause = λ off on. go (is_link b) refl off on;
}
  where
    go : (x : Bool) → is_link b ≡ x → is_link a ≡ false → is_link c ≡ true → Rises 1 f h
    go true is off on = rises_later 1 f g h (one.cause off is) two.faults_later
    go false is off on = rises_earlier 1 f g h one.faults_later (two.cause is on)

pub counts_wait : (a : Option Event) (f g i j : ℕ) → f ≤ g → i ≤ j → Counts a a f g i j
counts_wait a f g i j p q = record { faults_later = p; idles_later = q; cause = λ off on. absurd (false≢true (sym off ∙ on)) }

pub blames_of : (a b : Option Event) (f g i j : ℕ) → Counts a b f g i j → Blames a b f g
blames_of a b f g i j c = record { faults_later = c.faults_later; cause = c.cause }

pub blames_none : (a : Option Event) (f g : ℕ) → f ≤ g → Blames a a f g
blames_none a f g p = record { faults_later = p; cause = λ off on. absurd (false≢true (sym off ∙ on)) }

pub blames_same : (a : Option Event) (f : ℕ) → Blames a a f f
blames_same a f = blames_none a f f (omega arith)

pub blames_on : (a b c : Option Event) (f g h : ℕ) → Blames a b f g → Blames b c g h → Blames a c f h
blames_on a b c f g h one two =
    let both = counts_on a b c f g h 0 0 0 (record { faults_later = one.faults_later; idles_later = omega arith; cause = one.cause }) (record { faults_later = two.faults_later; idles_later = omega arith; cause = two.cause }) in
    blames_of a c f h 0 0 both

-- a session whose handle is as before, whatever stands in its place
pub found_at : (seen : Seen) (old : Session) (handle : Handled Keeper) → IsAt seen old → handle.machine ≡ old.handle.machine → IsAt seen (record { handle = handle; link = old.link; heeded = old.heeded; first = old.first })
found_at seen old handle at is = record {
  stands = subst (λ (m : Machine Keeper). StandsFor 1024 seen.history m) (sym is) at.stands;
  link = at.link;
  first = at.first;
  answered = at.answered;
  tally = at.tally;
  shown = at.shown;
  heard = at.heard;
  freed = at.freed;
}

-- The writes of a turn so far: whatever the others do goes on from here.
pub record Writing (old new : Option (List Call)) (session : Session) (link : ℕ) (stirred : Bool) (seen : Seen) : Type 0 where
  pub calls : List Call
  pub now : Seen
  pub grown : Grows old new calls
  pub at : IsAt now session
  pub stirred_is : stirred ≡ list_any stirs calls
  pub goes_on : (c : List Call) (after : Seen) → WritesAll link now c after → WritesAll link seen (calls ++ c) after

pub writing_none : (old : Option (List Call)) (session : Session) (link : ℕ) (seen : Seen) → IsAt seen session → Writing old old session link false seen
writing_none old session link seen at = record { calls = []; now = seen; grown = grows_none old; at = at; stirred_is = refl; goes_on = λ c after w. w }

any_on : (xs ys : List Call) (a b : Bool) → a ≡ list_any stirs xs → b ≡ list_any stirs ys → (a || b) ≡ list_any stirs (xs ++ ys)
any_on xs ys a b p q = ap (λ (x : Bool). x || b) p ∙ ap (λ (y : Bool). list_any stirs xs || y) q ∙ sym (list_any-append stirs xs ys)

-- What one write moved, or none.
module _ (link : ℕ) (m : Transfer) (seen : Seen) (own : List Call) (after : Seen) where
  write_stirs : (answer : WriteTold) → own ≡ write_call link seen.history answer ∷ [] → told.Moved m ≡ told_write answer → is_stirring m ≡ list_any stirs own
  write_stirs (Sent bytes) is tells =
      let same : m ≡ moved.Bytes (length bytes) = cc tells in
      ap is_stirring same ∙ sym (ap (list_any stirs) is)
  write_stirs Full is tells =
      let same : m ≡ moved.NotReady = cc tells in
      ap is_stirring same ∙ sym (ap (list_any stirs) is)
  write_stirs WriteFault is tells =
      let same : m ≡ moved.Failed = cc tells in
      ap is_stirring same ∙ sym (ap (list_any stirs) is)

  wrote_stirs : (waits : Bool) → WritesOn waits (Some link) seen own after (Ok (told.Moved m)) → is_stirring m ≡ list_any stirs own
  wrote_stirs true w = let tells : told.Moved m ≡ told_write w.0 = cc w.2 in write_stirs w.0 w.1 tells
  wrote_stirs false w =
      let same : m ≡ moved.Idle = cc w.2 in
      ap is_stirring same ∙ sym (ap (list_any stirs) w.0)

  -- it took some, and others follow
  write_some : (c : List Call) (end : Seen) (answer : WriteTold) → is_bytes m ≡ true → is_waiting seen.history ≡ true → own ≡ write_call link seen.history answer ∷ [] → told.Moved m ≡ told_write answer → Writes seen answer after → WritesAll link after c end
      → WritesAll link seen (own ++ c) end
  write_some c end (Sent bytes) some waits is tells writes rest = Takes_some seen (own ++ c) end bytes after c waits writes rest (ap (λ (l : List Call). l ++ c) is)
  write_some c end Full some waits is tells writes rest = let same : m ≡ moved.NotReady = cc tells in absurd (false≢true (ap is_bytes (sym same) ∙ some))
  write_some c end WriteFault some waits is tells writes rest = let same : m ≡ moved.Failed = cc tells in absurd (false≢true (ap is_bytes (sym same) ∙ some))

  wrote_some : (c : List Call) (end : Seen) (waits : Bool) → is_waiting seen.history ≡ waits → WritesOn waits (Some link) seen own after (Ok (told.Moved m)) → is_bytes m ≡ true → WritesAll link after c end → WritesAll link seen (own ++ c) end
  wrote_some c end true on w some rest = let tells : told.Moved m ≡ told_write w.0 = cc w.2 in write_some c end w.0 some on w.1 tells w.3 rest
  wrote_some c end false on w some rest = let same : m ≡ moved.Idle = cc w.2 in absurd (false≢true (ap is_bytes (sym same) ∙ some))

  -- it took none, or nothing waited
  write_none : (answer : WriteTold) → is_bytes m ≡ false → is_waiting seen.history ≡ true → own ≡ write_call link seen.history answer ∷ [] → told.Moved m ≡ told_write answer → Writes seen answer after → WritesAll link seen own after
  write_none (Sent bytes) none waits is tells writes = let same : m ≡ moved.Bytes (length bytes) = cc tells in absurd (false≢true (sym none ∙ ap is_bytes same))
  write_none Full none waits is tells writes = Takes_nothing seen own after waits is writes
  write_none WriteFault none waits is tells writes = Fails seen own after waits is writes

  wrote_none : (waits : Bool) → is_waiting seen.history ≡ waits → WritesOn waits (Some link) seen own after (Ok (told.Moved m)) → is_bytes m ≡ false → WritesAll link seen own after
  wrote_none true on w none = let tells : told.Moved m ≡ told_write w.0 = cc w.2 in write_none w.0 none on w.1 tells w.3
  wrote_none false on w none = Nothing_waits seen own after on w.0 w.1

module _ (a b c : Option (List Call)) (session session' : Session) (link : ℕ) (m : Transfer) (stirred both : Bool) (seen : Seen) (w : Writing a b session link stirred seen) (is : both ≡ (stirred || is_stirring m))
    (goes : Goes b c session session' (λ before calls after. WritesOn (is_waiting before.history) (Some link) before calls after (Ok (told.Moved m)))) where
  pub writing_on : is_bytes m ≡ true → Writing a c session' link both seen
  writing_on some =
      let went = goes w.now w.at in
      record {
        calls = w.calls ++ went.calls;
        now = went.after;
        grown = grows_on a b c w.calls went.calls w.grown went.grown;
        at = went.at;
        stirred_is = is ∙ any_on w.calls went.calls stirred (is_stirring m) w.stirred_is (wrote_stirs link m w.now went.calls went.after (is_waiting w.now.history) went.leads);
        goes_on = λ x after r. subst (λ (l : List Call). WritesAll link seen l after) (sym (append_assoc w.calls went.calls x))
            (w.goes_on (went.calls ++ x) after (wrote_some link m w.now went.calls went.after x after (is_waiting w.now.history) refl went.leads some r));
      }

  pub writing_ends : is_bytes m ≡ false → Went a c session' (λ calls after. WritesAll link seen calls after × (both ≡ list_any stirs calls))
  writing_ends none =
      let went = goes w.now w.at in
      record {
        calls = w.calls ++ went.calls;
        after = went.after;
        grown = grows_on a b c w.calls went.calls w.grown went.grown;
        leads = (
          w.goes_on went.calls went.after (wrote_none link m w.now went.calls went.after (is_waiting w.now.history) refl went.leads none),
          is ∙ any_on w.calls went.calls stirred (is_stirring m) w.stirred_is (wrote_stirs link m w.now went.calls went.after (is_waiting w.now.history) went.leads),
        );
        at = went.at;
      }

-- One turn.

-- What one read brought, where the handle reads.
module _ (link : ℕ) (seen : Seen) (own : List Call) (after : Seen) where
  read_stirs : (m : Transfer) (answer : ReadTold) → own ≡ read_call link seen.history answer ∷ [] → told.Moved m ≡ told_read answer → is_stirring m ≡ list_any stirs own
  read_stirs m (Moved bytes) is tells =
      let same : m ≡ moved.Bytes (length bytes) = cc tells in
      ap is_stirring same ∙ sym (ap (list_any stirs) is)
  read_stirs m Unready is tells =
      let same : m ≡ moved.NotReady = cc tells in
      ap is_stirring same ∙ sym (ap (list_any stirs) is)
  read_stirs m Ended is tells =
      let same : m ≡ moved.Ended = cc tells in
      ap is_stirring same ∙ sym (ap (list_any stirs) is)
  read_stirs m ReadFault is tells =
      let same : m ≡ moved.Failed = cc tells in
      ap is_stirring same ∙ sym (ap (list_any stirs) is)

  abbrev Answered : LineEnd → ReadTold → Type 0
  Answered end answer = ((end ≡ Ok (told_read answer)) × Reads seen answer after) ⊎ ((end ≡ Err halt.NoMemory) × ReadsShort seen answer after)

  read_whole : (m : Transfer) (answer : ReadTold) → own ≡ read_call link seen.history answer ∷ [] → Answered (Ok (told.Moved m)) answer → ReadsIf true link seen own after × (is_stirring m ≡ list_any stirs own)
  read_whole m answer is (inl r) = let tells : told.Moved m ≡ told_read answer = cc r.0 in ((answer, is, r.1), read_stirs m answer is tells)
  read_whole m answer is (inr r) = absurd (cc r.0)

  reads_if : (m : Transfer) (b : Bool) → ReadsOn b (Some link) seen own after (Ok (told.Moved m)) → ReadsIf b link seen own after × (is_stirring m ≡ list_any stirs own)
  reads_if m true r = read_whole m r.0 r.1 r.2
  reads_if m false r =
      let same : m ≡ moved.Idle = cc r.2 in
      ((r.0, r.1), ap is_stirring same ∙ sym (ap (list_any stirs) r.0))

  read_lacks : (answer : ReadTold) → Answered (Err halt.NoMemory) answer → ReadsShort seen answer after
  read_lacks answer (inl r) = absurd (cc r.0)
  read_lacks answer (inr r) = r.1

  reads_short : (b : Bool) → is_reading seen.history ≡ b → ReadsOn b (Some link) seen own after (Err halt.NoMemory) → (answer : ReadTold) × (is_reading seen.history ≡ true) × ReadsShort seen answer after × (own ≡ read_call link seen.history answer ∷ [])
  reads_short true on r = (r.0, on, read_lacks r.0 r.2, r.1)
  reads_short false on r = absurd (cc r.2)

module _ (a b c : Option (List Call)) (session middle session' : Session) (link : ℕ) (wrote : Bool) (r : Result Transfer NoMemory)
    (goes : Goes a b session middle (λ before calls after. WritesAll link before calls after × (wrote ≡ list_any stirs calls)))
    (then : Goes b c middle session' (λ before calls after. ReadsOn (is_reading before.history) (Some link) before calls after (moved_end r))) where
  pub turned : (m : Transfer) (both : Bool) → r ≡ Ok m → both ≡ (wrote || is_stirring m) → Goes a c session session' (λ before calls after. TurnsOnce link both before calls after)
  turned m both whole is seen at =
      let first = goes seen at in
      let second = then first.after first.at in
      let read = reads_if link first.after second.calls second.after m (is_reading first.after.history)
      (subst (λ (x : Result Transfer NoMemory). ReadsOn (is_reading first.after.history) (Some link) first.after second.calls second.after (moved_end x)) whole second.leads) in
      record {
        calls = first.calls ++ second.calls;
        after = second.after;
        grown = grows_on a b c first.calls second.calls first.grown second.grown;
        leads = record {
          turns = record { middle = first.after; written = first.calls; writes = first.leads.0; read = second.calls; reads = read.0; calls_are = refl };
          stirring = is ∙ any_on first.calls second.calls wrote (is_stirring m) first.leads.1 read.1;
        };
        at = second.at;
      }

  pub turned_short : (lacks : NoMemory) → r ≡ Err lacks → Goes a c session session' (λ before calls after. TurnsShort link before calls after)
  turned_short lacks short seen at =
      let first = goes seen at in
      let second = then first.after first.at in
      let read = reads_short link first.after second.calls second.after (is_reading first.after.history) refl
      (subst (λ (x : Result Transfer NoMemory). ReadsOn (is_reading first.after.history) (Some link) first.after second.calls second.after (moved_end x)) short second.leads) in
      record {
        calls = first.calls ++ second.calls;
        after = second.after;
        grown = grows_on a b c first.calls second.calls first.grown second.grown;
        leads = record {
          middle = first.after;
          written = first.calls;
          writes = first.leads.0;
          told = read.0;
          reading = read.1;
          reads = read.2;
          calls_are = ap (λ (l : List Call). first.calls ++ l) read.3;
        };
        at = second.at;
      }

-- Bytes are left unread only where memory ran out.
pub turned_whole : (a b : Option (List Call)) (session middle : Session) (left : List ℕ) (Leads : Seen → List Call → Seen → Type 0) → Goes a b session middle Leads → ((seen : Seen) → IsAt seen middle → left ≡ []) → (seen : Seen) → IsAt seen session → left ≡ []
turned_whole a b session middle left Leads goes whole seen at = let first = goes seen at in whole first.after first.at

-- Turn after turn.

pub busy_is : (seen : Seen) (session : Session) → IsAt seen session → is_busy_now session.handle.machine ≡ is_busy seen.history
busy_is seen session at =
    let right = answers_at seen session at in
    ap (λ s. is_negotiating s || (not (in_flight_now session.handle.machine.known == 0) || (direction_now session.handle.machine.known == 3))) right.state
    ∙ ap (λ (n : ℕ). is_negotiating (state_after seen.history) || (not (n == 0) || (direction_now session.handle.machine.known == 3))) right.in_flight
    ∙ ap (λ (d : ℕ). is_negotiating (state_after seen.history) || (not (in_flight_after seen.history == 0) || (d == 3))) right.direction
