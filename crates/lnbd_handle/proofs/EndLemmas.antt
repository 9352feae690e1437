-- The ends of a connection.
use Rattle.std.proofs.Common.{◌≡◌, ℕ, zero, suc, List, [], ◌∷◌, ◌++◌, Option, Some, None, refl, ap, sym, ◌∙◌, subst, arith, append-nil}
use Rattle.lnbd_keyed.specs.Keyed.{value_at, keys}
use Rattle.lnbd_model.specs.declared.state.Cause.TheVariants as cause
use Rattle.lnbd_stream.specs.Stream.{Held}
use Rattle.lnbd_callbacks.specs.Calls.{Call}
use Rattle.lnbd_history.specs.declared.kinds.Stage.TheVariants.{Closed}
use Rattle.lnbd_history.specs.Commands.{Flight}
use Rattle.lnbd_history.specs.Events.{Answer, Close}
use Rattle.lnbd_history.specs.Entries.{Dropped}
use Rattle.lnbd_history.specs.Arrivals.{shows_at}
use Rattle.lnbd_history.proofs.Steady.{none_at}
use Rattle.lnbd_machine.specs.Machine.{Row, State, Machine, Doing, sight, waited, calls, step, finish, kill, ended_closing, file_in, file_row, file_flight, file_all}
use Rattle.lnbd_machine.specs.Laws.{IsPartial}
use Rattle.lnbd_outgoing.specs.Queue.{Queue, waits, AllFit}
use Rattle.lnbd_commands.specs.Commands.{Commands, with_commands}
use Rattle.lnbd_commands.specs.Takes.{Takes}
use Rattle.lnbd_handle.specs.declared.connection.Connection.{Connection}
use Rattle.lnbd_handle.specs.Runs.{doing, under, Acts, Runs}
use Rattle.lnbd_handle.specs.Seen.{AreAhead, IsSound, state_of, machine_of, writes_in, flies_in, ends_in}

module _ {K : Type 0} where
  pub shut_sound : (old : Connection K) (queue : Queue) → queue ≡ record old.queue { pieces = []; cursor = 0 } → IsSound old → IsSound (record old { stage = Closed; queue = queue })
  shut_sound old queue e s = record {
    fits = subst (λ q. AllFit (writes_in old.commands) q.pieces) (sym e) tt;
    ahead = subst (λ q. AreAhead (flies_in old.commands) old.written q.pieces) (sym e) tt;
    stands = tt;
    counted = let n : ends_in (waits (writes_in old.commands) queue) ≡ 0 = ap (λ q. ends_in (waits (writes_in old.commands) q)) e in omega (arith, n, s.counted);
  }

  pub partial_none : (c : Connection K) (pending : List ℕ) → pending ≡ [] → IsPartial (machine_of c pending)
  partial_none c pending e = ap (shows_at c.stage (sight (state_of c)) (waited (state_of c))) e ∙ none_at c.stage (sight (state_of c)) (waited (state_of c))

  closing_kills : (n : ℕ) (d : Doing K) → (n ≡ 0 → ⊥) → ended_closing n d ≡ kill cause.Ended d
  closing_kills zero d some = absurd (some refl)
  closing_kills (suc n) d some = refl

  -- No callback is asked at a close.
  asked_flight : (f : Option (Flight K)) (row : Row K) (cookie : ℕ) (d : Doing K) → (file_flight f row cookie Dropped d).answers ≡ d.answers
  asked_flight None row cookie d = refl
  asked_flight (Some flight) row cookie d = refl

  asked_row : (r : Option (Row K)) (cookie : ℕ) (d : Doing K) → (file_row r cookie Dropped d).answers ≡ d.answers
  asked_row None cookie d = refl
  asked_row (Some row) cookie d = asked_flight row.flight row cookie d

  asked_all : (cookies : List ℕ) (d : Doing K) → (file_all Dropped cookies d).answers ≡ d.answers
  asked_all [] d = refl
  asked_all (cookie ∷ cookies) d = asked_all cookies (file_in cookie Dropped d) ∙ asked_row (value_at cookie d.state.rows) cookie d

module _ {K World : Type 0} (steps : World → List (Call K) → World → Type 0) where
  pub closing_none : ((w : World) → steps w [] w) → (old new : State K) (before : World) (n : ℕ) → n ≡ 0 → new ≡ record old { stage = Closed; waits = [] } → Acts steps (ended_closing n) old new before before
  closing_none none old new before n ended is = record {
    answers = [];
    calls = [];
    world = none before;
    does = λ more made. ap (λ k. ended_closing k (doing old more made)) ended ∙ ap (λ s. doing s more made) (sym is) ∙ ap (doing new more) (sym (append-nil made));
  }

  pub closing_some : (old new : State K) (before after : World) (n : ℕ) → (n ≡ 0 → ⊥) → Acts steps (kill cause.Ended) old new before after → Acts steps (ended_closing n) old new before after
  closing_some old new before after n some a = record {
    answers = a.answers;
    calls = a.calls;
    world = a.world;
    does = λ more made. closing_kills n (doing old (a.answers ++ more) made) some ∙ a.does more made;
  }

  -- an act after which no byte is held
  pub runs_finish : (act : Doing K → Doing K) (other : Held (Doing K) → Held (Doing K)) (old new : Machine K) (before after : World) →
      ((answers : List Answer) (made : List (Call K)) → other (under old answers made) ≡ finish act (under old answers made)) → new.pending ≡ [] → Acts steps act old.known new.known before after → Runs steps other old new before after
  runs_finish act other old new before after is none a = record {
    answers = a.answers;
    calls = a.calls;
    world = a.world;
    does = λ more made. is (a.answers ++ more) made ∙ ap (λ d. record { known = d; pending = [] }) (a.does more made) ∙ ap (λ p. record { known = doing new.known more (made ++ a.calls); pending = p }) (sym none);
  }

  pub record Closes (c : Connection K) (pending : List ℕ) (new : Commands K) (before after : World) : Type 0 where
    pub world : steps before (calls (machine_of c pending) Close) after
    pub known : (step (machine_of c pending) Close).known ≡ with_commands new (record (state_of c) { stage = Closed; waits = [] })

  pub closes : (c : Connection K) (pending : List ℕ) (new : Commands K) (before after : World) → Takes steps (file_all Dropped (keys c.commands.rows)) c.commands new before after → Closes c pending new before after
  closes c pending new before after t = record {
    world = subst (λ made. steps before made after) (sym (ap (λ d. d.calls) whole)) t.world;
    known = ap (λ d. d.state) whole;
  }
    where
      start : State K
      start = record (state_of c) { stage = Closed; waits = [] }

      none : t.answers ≡ []
      none = sym (append-nil t.answers) ∙ sym (asked_all (keys c.commands.rows) (doing start (t.answers ++ []) [])) ∙ ap (λ d. d.answers) (t.does start [] [])

      whole : file_all Dropped (keys c.commands.rows) (doing start [] []) ≡ doing (with_commands new start) [] t.calls
      whole = ap (λ list. file_all Dropped (keys c.commands.rows) (doing start list [])) (sym (ap (λ a. a ++ []) none)) ∙ t.does start [] []
