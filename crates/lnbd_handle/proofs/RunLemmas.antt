-- One part of an event after another.
use Rattle.std.proofs.Common.{◌≡◌, ℕ, List, [], ◌∷◌, ◌++◌, Option, Some, None, refl, ap, sym, ◌∙◌, subst, append_assoc, append-nil}
use Rattle.lnbd_keyed.specs.Keyed.{value_at, keys}
use Rattle.lnbd_model.specs.declared.state.Cause.{Cause}
use Rattle.lnbd_stream.specs.Stream.{Held}
use Rattle.lnbd_callbacks.specs.Calls.{Call}
use Rattle.lnbd_history.specs.declared.kinds.Stage.TheVariants.{Dead}
use Rattle.lnbd_history.specs.Commands.{Flight}
use Rattle.lnbd_history.specs.Events.{Answer, Event}
use Rattle.lnbd_history.specs.Entries.{Item, Lost}
use Rattle.lnbd_machine.specs.Machine.{Row, State, Machine, Doing, course, file_in, file_row, file_flight, file_all, kill}
use Rattle.lnbd_outgoing.specs.Queue.{Queue}
use Rattle.lnbd_commands.specs.Commands.{Commands}
use Rattle.lnbd_commands.specs.Takes.{Takes}
use Rattle.lnbd_handle.specs.declared.connection.Connection.{Connection}
use Rattle.lnbd_handle.specs.Runs.{doing, under, Acts, Runs, Answered}
use Rattle.lnbd_handle.specs.Seen.{state_of}

module _ {K World : Type 0} (steps : World → List (Call K) → World → Type 0) where
  pub runs_none : ((w : World) → steps w [] w) → (act : Held (Doing K) → Held (Doing K)) (old new : Machine K) (before after : World) → after ≡ before →
      ((more : List Answer) (made : List (Call K)) → act (under old more made) ≡ under new more made) → Runs steps act old new before after
  runs_none none act old new before after same e = record {
    answers = [];
    calls = [];
    world = subst (λ w. steps before [] w) (sym same) (none before);
    does = λ more made. e more made ∙ ap (under new more) (sym (append-nil made));
  }

  pub runs_join : ((a b c : World) (first second : List (Call K)) → steps a first b → steps b second c → steps a (first ++ second) c) →
      (first second : Held (Doing K) → Held (Doing K)) (old middle new : Machine K) (before half after : World) →
      Runs steps first old middle before half → Runs steps second middle new half after → Runs steps (λ held. second (first held)) old new before after
  runs_join join first second old middle new before half after one two = record {
    answers = one.answers ++ two.answers;
    calls = one.calls ++ two.calls;
    world = join before half after one.calls two.calls one.world two.world;
    does = λ more made.
        ap (λ list. second (first (under old list made))) (append_assoc one.answers two.answers more)
        ∙ ap second (one.does (two.answers ++ more) made)
        ∙ two.does more (made ++ one.calls)
        ∙ ap (under new more) (append_assoc made one.calls two.calls);
  }

  -- the same part of an event, said otherwise
  pub runs_as : (act other : Held (Doing K) → Held (Doing K)) (old new : Machine K) (before after : World) →
      ((more : List Answer) (made : List (Call K)) → other (under old more made) ≡ act (under old more made)) → Runs steps act old new before after → Runs steps other old new before after
  runs_as act other old new before after same r = record {
    answers = r.answers;
    calls = r.calls;
    world = r.world;
    does = λ more made. same (r.answers ++ more) made ∙ r.does more made;
  }

  pub answered : (event : List Answer → Event K) (act : Held (Doing K) → Held (Doing K)) (old new : Machine K) (before after : World) →
      ((answers : List Answer) → course old (event answers) ≡ act (under old answers [])) → Runs steps act old new before after → Answered steps event old new before after
  answered event act old new before after is r = (
    r.answers,
    record {
      machine = sym (ap (λ h. record { known = h.known.state; pending = h.pending }) whole);
      world = subst (λ made. steps before made after) (sym (ap (λ h. h.known.calls) whole)) r.world;
    },
  )
    where
      whole : course old (event r.answers) ≡ under new [] r.calls
      whole = is r.answers ∙ ap (λ list. act (under old list [])) (sym (append-nil r.answers)) ∙ r.does [] []

  -- Death: nothing waits any more, and each command in flight is lost.
  pub killed : (cause : Cause) (old : Connection K) (queue : Queue) (commands : Commands K) (before after : World) → queue ≡ record old.queue { pieces = []; cursor = 0 } →
      Takes steps (file_all Lost (keys old.commands.rows)) old.commands commands before after →
      Acts steps (kill cause) (state_of old) (state_of (record old { stage = Dead cause; queue = queue; commands = commands })) before after
  killed cause old queue commands before after e t = record {
    answers = t.answers;
    calls = t.calls;
    world = t.world;
    does = λ more made. t.does (record (state_of old) { stage = Dead cause; waits = [] }) more made
        ∙ ap (λ q. doing (state_of (record old { stage = Dead cause; queue = q; commands = commands })) more (made ++ t.calls)) (sym e);
  }

module _ {K : Type 0} where
  -- Filing issues no command.
  issued_flight : (f : Option (Flight K)) (row : Row K) (cookie : ℕ) (item : Item) (d : Doing K) → (file_flight f row cookie item d).state.issued ≡ d.state.issued
  issued_flight None row cookie item d = refl
  issued_flight (Some flight) row cookie item d = refl

  issued_row : (r : Option (Row K)) (cookie : ℕ) (item : Item) (d : Doing K) → (file_row r cookie item d).state.issued ≡ d.state.issued
  issued_row None cookie item d = refl
  issued_row (Some row) cookie item d = issued_flight row.flight row cookie item d

  pub issued_in : (cookie : ℕ) (item : Item) (d : Doing K) → (file_in cookie item d).state.issued ≡ d.state.issued
  issued_in cookie item d = issued_row (value_at cookie d.state.rows) cookie item d

  pub issued_all : (item : Item) (cookies : List ℕ) (d : Doing K) → (file_all item cookies d).state.issued ≡ d.state.issued
  issued_all item [] d = refl
  issued_all item (cookie ∷ cookies) d = issued_all item cookies (file_in cookie item d) ∙ issued_in cookie item d

  pub takes_issued : {World : Type 0} (steps : World → List (Call K) → World → Type 0) (act : Doing K → Doing K) (any : State K) (old new : Commands K) (before after : World) → ((d : Doing K) → (act d).state.issued ≡ d.state.issued) →
      Takes steps act old new before after → new.issued ≡ old.issued
  takes_issued steps act any old new before after same t = sym (ap (λ d. d.state.issued) (t.does any [] [])) ∙ same _
