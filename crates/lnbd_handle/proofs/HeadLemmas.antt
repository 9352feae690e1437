-- Data behind the head of a reply.
use Rattle.std.proofs.Common.{◌≡◌, ℕ, ◌<◌, true, false, Some, List, [], ◌++◌, length, take, nat_le, Result, Ok, Err, OnOk, refl, ap, sym, ◌∙◌, subst, arith, append_assoc}
use Rattle.std.specs.Result.{IsOk, is_err}
use Rattle.std.proofs.lemmas.List.{take_all}
use Rattle.lnbd_callbacks.specs.Calls.{Call}
use Rattle.lnbd_machine.specs.Machine.{waited}
use Rattle.lnbd_machine.specs.Laws.{IsPartial}
use Rattle.lnbd_commands.specs.Commands.{Commands, waiting_at}
use Rattle.lnbd_keyed.specs.Keyed.{value_at}
use Rattle.lnbd_records.specs.Content.{Data}
use Rattle.lnbd_history.specs.Arrivals.{Frame}
use Rattle.lnbd_handle.specs.Filing.{MayFile, TakesData}
use Rattle.lnbd_arrivals.specs.Frames.{is_chunk, is_last, is_structured, shows_by}
use Rattle.lnbd_arrivals.specs.declared.announced.Announced.{Announced}
use Rattle.lnbd_handle.specs.declared.connection.Connection.{Connection}
use Rattle.lnbd_handle.specs.Runs.{Runs}
use Rattle.lnbd_handle.specs.Seen.{IsSound, state_of, machine_of}
use Rattle.lnbd_handle.specs.Turns.{arriving, ShowsNothing, Brings}
use Rattle.lnbd_handle.proofs.DrainLemmas.{all_runs, held_runs}
use Rattle.lnbd_handle.proofs.QueuedLemmas.{KeepsUnwritten}
use Rattle.lnbd_handle.proofs.TurnLemmas.{shown_frame, turn_filed, waited_row}

-- what holds of an answer that is no error
pub ok_of : {A E P : Type 0} (r : Result A E) → is_err r ≡ false → OnOk r P → P
ok_of (Ok a) e h = h
ok_of (Err x) e h = cc

pub not_err : {A E : Type 0} (r : Result A E) → IsOk r → is_err r ≡ true → ⊥
not_err (Ok a) e h = cc
not_err (Err x) e h = cc

module _ {K World : Type 0} (steps : World → List (Call K) → World → Type 0) (none : (w : World) → steps w [] w) (join : (a b c : World) (first second : List (Call K)) → steps a first b → steps b second c → steps a (first ++ second) c) where
  module _ (old : Connection K) (sound : IsSound old) (head content front got : List ℕ) (announced : Announced) (brings : Brings old head announced) (partial : IsPartial (machine_of old (head ++ content))) (joined : got ≡ content ++ front) where
    all : head ++ got ≡ (head ++ content) ++ front
    all = ap (λ d. head ++ d) joined ∙ sym (append_assoc head content front)

    -- fewer than were announced show nothing
    pub data_shown : length got < announced.size → ShowsNothing (state_of old) (head ++ got)
    data_shown short = shown_frame old brings.replies (head ++ got) brings.speaking brings.ready brings.agreed [] [] ∙ brings.announces.partial got short

    pub data_held : (before : World) → length got < announced.size → Runs steps (arriving front) (machine_of old (head ++ content)) (machine_of old (head ++ got)) before before
    data_held before short = held_runs steps none join old (head ++ content) partial old before before (head ++ got) front refl refl all (data_shown short)

    -- as many as were announced are the reply's
    pub data_filed : (commands : Commands K) (before after : World) → length got ≡ announced.size → TakesData old.talk.contexts steps announced got old.commands commands before after →
        Runs steps (arriving (take (length front) front)) (machine_of old (head ++ content)) (machine_of (record old { commands = commands }) []) before after × (commands.issued ≡ old.commands.issued) × KeepsUnwritten old.written old.commands commands
    data_filed commands before after long takes =
        let r = brings.announces.whole got long in
        let whole : take (length (head ++ got)) (head ++ got) ≡ head ++ got = take_all (length (head ++ got)) (head ++ got) (omega arith) in
        let frame : Frame = record { cookie = announced.cookie; content = Data announced.offset got; last = is_last announced.carrier } in
        let turned = turn_filed steps old brings.replies commands before after (head ++ got) (length (head ++ got)) frame brings.speaking brings.ready brings.agreed sound r.command r.waits (omega arith)
        (ap (shows_by brings.replies (waited (state_of old))) whole ∙ r.shown) r.before takes in (
          all_runs steps none join old (head ++ content) partial (machine_of (record old { commands = commands }) []) before after (head ++ got) front all
              (subst (λ b. Runs steps (arriving b) (machine_of old []) (machine_of (record old { commands = commands }) []) before after) whole turned.0),
          turned.1,
          turned.2,
        )

module _ {K : Type 0} where
  -- the data that are all there may be filed
  pub may_file_data : (c : Connection K) (head got : List ℕ) (announced : Announced) → Brings c head announced → length got ≡ announced.size → MayFile (waiting_at announced.cookie c.commands) announced got
  may_file_data c head got announced brings long =
      let r = brings.announces.whole got long in
      let row : waiting_at announced.cookie c.commands ≡ Some r.command = waited_row (nat_le announced.cookie c.written) (value_at announced.cookie c.commands.rows) r.command r.waits in
      subst (λ w. MayFile w announced got) (sym row) (record { may_come = r.may_come; all = λ simple. ((r.all simple).0, long ∙ (r.all simple).1) })

  -- where simple replies alone come, one was announced
  pub not_chunk : (c : Connection K) (head : List ℕ) (announced : Announced) → Brings c head announced → c.talk.structured ≡ false → c.talk.extended ≡ false → is_chunk announced.carrier ≡ false
  not_chunk c head announced brings compact short = brings.announces.carried ∙ ap is_structured (brings.simple compact short)
