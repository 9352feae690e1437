use Rattle.std.proofs.Common.{◌≡◌, ◌⊎◌, inr, ℕ, true, List, refl, sym, ap, subst, arith}
use Rattle.lnbd_args.specs.declared.asked.Asked.TheVariants as asked
use Rattle.lnbd_store.specs.declared.side.Side.TheVariants as side
use Rattle.lnbd_cli.specs.Asks.{serving_of}
use Rattle.lnbd_cli.specs.Beside.{FileServed, ProgramRan, is_all_done}
use Rattle.lnbd_cli.specs.Ends.{Prints}
use Rattle.lnbd_cli.specs.Runs.{Refused}
use Rattle.lnbd_cli.proofs.DumpLemmas.{shown_front, shown_whole}
use Rattle.lnbd_cli.proofs.DuplicateLemmas.{changed_untold}
use Rattle.lnbd_cli.proofs.EndLemmas.{beside_done, calls_done, copy_done, dump_done, duplicate_done, info_done, mixed_done, serve_done, test_done}
use Rattle.lnbd_cli.proofs.EndLemmas.{by_status, came_known, ends_well, known, of_done, of_end, refused_known, rose_by_fault}
use Rattle.lnbd_cli.proofs.ServingLemmas.{beside_known, beside_run}
use Rattle.lnbd_cli.proofs.top.run.Goals as goal

pub returns-clause-calls : goal.returns-clause-calls
returns-clause-calls g c asks = record { end = c.tool-end.result; ends = (c.tool-end.ensures.did asked.Calls asks).does; tells = c.print_end.ensures.tells }

pub returns-clause-info : goal.returns-clause-info
returns-clause-info g c q asks = record { end = c.tool-end.result; ends = (c.tool-end.ensures.did (asked.Info q.what q.json q.place) asks).does; tells = c.print_end.ensures.tells }

pub returns-clause-serve : goal.returns-clause-serve
returns-clause-serve g c s asks = record {
  end = c.tool-end.result;
  ends = (c.tool-end.ensures.did (asked.Serve (serving_of s)) asks).does;
  tells = c.print_end.ensures.tells;
}

pub returns-clause-beside : goal.returns-clause-beside
returns-clause-beside g c s asks = (
  c.tool-end.result,
  beside_run g.W.Wires.told c.args.wires.now c.tool-end.new.wires g.O.Sink.taken c.args.out.now c.tool-end.new.out
      g.S.Store.told g.S.Store.shelf c.args.store.now c.tool-end.new.store g.P.Spawner.told c.args.spawn.now c.tool-end.new.spawn c.tool-end.result s s.content s.run asks.1
      (c.tool-end.ensures.did (asked.Serve s) asks.0).does,
  c.print_end.ensures.tells,
)

pub returns-clause-copy : goal.returns-clause-copy
returns-clause-copy g c t asks = record { end = c.tool-end.result; ends = (c.tool-end.ensures.did (asked.Copy t.options t.from t.to) asks).does; tells = c.print_end.ensures.tells }

pub returns-clause-duplicate : goal.returns-clause-duplicate
returns-clause-duplicate g c d asks =
    let does = (c.tool-end.ensures.did (asked.FileCopy d.options (side.File d.from) (side.File d.to)) asks).does in
    record { end = c.tool-end.result; ends = (does.0.0, does.0.1, does.1); tells = c.print_end.ensures.tells }

pub returns-clause-download : goal.returns-clause-download
returns-clause-download g c d asks = record {
  end = c.tool-end.result;
  ends = (c.tool-end.ensures.did (asked.FileCopy d.options (side.Nbd d.from) (side.File d.to)) asks).does;
  tells = c.print_end.ensures.tells;
}

pub returns-clause-upload : goal.returns-clause-upload
returns-clause-upload g c u asks = record {
  end = c.tool-end.result;
  ends = (c.tool-end.ensures.did (asked.FileCopy u.options (side.File u.from) (side.Nbd u.to)) asks).does;
  tells = c.print_end.ensures.tells;
}

pub returns-clause-dump : goal.returns-clause-dump
returns-clause-dump g c e asks = record { end = c.tool-end.result; ends = (c.tool-end.ensures.did (asked.Dump e.place e.offset e.length) asks).does; tells = c.print_end.ensures.tells }

pub returns-clause-shows : goal.returns-clause-shows
returns-clause-shows g c e asks done = shown_whole e _ _ _ _ _ _ c.tool-end.result (c.tool-end.ensures.did (asked.Dump e.place e.offset e.length) asks).does (c.print_end.ensures.done done)

pub returns-clause-fronts : goal.returns-clause-fronts
returns-clause-fronts g c e asks = shown_front e _ _ _ _ _ _ c.tool-end.result (c.tool-end.ensures.did (asked.Dump e.place e.offset e.length) asks).does (λ same. ap g.O.Sink.taken same)

pub returns-clause-selftest : goal.returns-clause-selftest
returns-clause-selftest g c t asks = record { end = c.tool-end.result; ends = (c.tool-end.ensures.did (asked.Selftest t.seed t.size) asks).does; tells = c.print_end.ensures.tells }

pub returns-clause-refused : goal.returns-clause-refused
returns-clause-refused g c none = record { end = c.tool-end.result; ends = c.tool-end.ensures.refused none; tells = c.print_end.ensures.tells }

pub returns-clause-known : goal.returns-clause-known
returns-clause-known g c a asks = known a (λ (t : List ℕ). Prints g.E.Sink.taken g.E.Sink.faults c.args.err.now c.print_end.new.err t) c.tool-end.result c.print_end.result
    (c.tool-end.ensures.did a asks).known c.print_end.ensures.tells

pub returns-clause-refused_known : goal.returns-clause-refused_known
returns-clause-refused_known g c none = refused_known c.args.words.now
    (λ (t : List ℕ). Prints g.E.Sink.taken g.E.Sink.faults c.args.err.now c.print_end.new.err t) c.tool-end.result c.print_end.result (c.tool-end.ensures.refused none) c.print_end.ensures.tells

pub returns-clause-link_shown : goal.returns-clause-link_shown
returns-clause-link_shown g c is before after old new = rose_by_fault before after _ _ (c.tally.ensures.counted before old) (c.tally.ensures.few before old) (c.tally-2.ensures.counted after new)
    (c.tool-end.ensures.link (c.print_end.ensures.link is))

pub returns-clause-well : goal.returns-clause-well
returns-clause-well g c other is = ends_well c.tool-end.result c.print_end.result _ (c.tool-end.ensures.well other) c.print_end.ensures.done c.print_end.ensures.untrue is

pub returns-clause-patient : goal.returns-clause-patient
returns-clause-patient g c other is = ends_well c.tool-end.result c.print_end.result _ (c.tool-end.ensures.patient other) c.print_end.ensures.done c.print_end.ensures.untrue is

pub returns-clause-output_well : goal.returns-clause-output_well
returns-clause-output_well g c is = ends_well c.tool-end.result c.print_end.result _ c.tool-end.ensures.output_well c.print_end.ensures.done c.print_end.ensures.untrue is

pub returns-clause-input_well : goal.returns-clause-input_well
returns-clause-input_well g c is = ends_well c.tool-end.result c.print_end.result _ c.tool-end.ensures.input_well c.print_end.ensures.done c.print_end.ensures.untrue is

pub returns-clause-complete : goal.returns-clause-complete
returns-clause-complete g c lawful quiet sound =
    let asks = lawful.asks in
    calls_done c.print_end.result (known asked.Calls (λ (t : List ℕ). Prints g.E.Sink.taken g.E.Sink.faults c.args.err.now c.print_end.new.err t) c.tool-end.result c.print_end.result
    (c.tool-end.ensures.did asked.Calls asks).known c.print_end.ensures.tells)
    (λ e. (c.tool-end.ensures.did asked.Calls asks).accepts lawful.holds
    (of_end (λ (t : List ℕ). Prints g.E.Sink.taken g.E.Sink.faults c.args.err.now c.print_end.new.err t) c.tool-end.result 1 c.print_end.result
    (λ n. omega (arith, n)) c.print_end.ensures.tells e))
    (λ e. quiet.sound (c.tool-end.ensures.link (c.print_end.ensures.link e))) (λ e. quiet.patient (c.tool-end.ensures.silent (c.print_end.ensures.silent e)))
    (λ e. sound.1 (c.tool-end.ensures.output (c.print_end.ensures.output e))) (λ e. sound.0 (c.tool-end.ensures.input (c.print_end.ensures.input e)))

pub returns-clause-info_complete : goal.returns-clause-info_complete
returns-clause-info_complete g c q asks quiet output = info_done c.print_end.result
    (known (asked.Info q.what q.json q.place) (λ (t : List ℕ). Prints g.E.Sink.taken g.E.Sink.faults c.args.err.now c.print_end.new.err t) c.tool-end.result c.print_end.result
    (c.tool-end.ensures.did (asked.Info q.what q.json q.place) asks).known c.print_end.ensures.tells) (λ e. quiet.sound (c.tool-end.ensures.link (c.print_end.ensures.link e)))
    (λ e. quiet.patient (c.tool-end.ensures.silent (c.print_end.ensures.silent e))) (λ e. output (c.tool-end.ensures.output (c.print_end.ensures.output e)))

pub returns-clause-serve_complete : goal.returns-clause-serve_complete
returns-clause-serve_complete g c s asks quiet output = serve_done c.print_end.result
    (known (asked.Serve (serving_of s))
    (λ (t : List ℕ). Prints g.E.Sink.taken g.E.Sink.faults c.args.err.now c.print_end.new.err t) c.tool-end.result c.print_end.result
    (c.tool-end.ensures.did (asked.Serve (serving_of s)) asks).known c.print_end.ensures.tells)
    (λ e. quiet.sound (c.tool-end.ensures.link (c.print_end.ensures.link e))) (λ e. quiet.patient (c.tool-end.ensures.silent (c.print_end.ensures.silent e)))
    (λ e. output (c.tool-end.ensures.output (c.print_end.ensures.output e)))

pub returns-clause-copy_complete : goal.returns-clause-copy_complete
returns-clause-copy_complete g c t asks quiet = copy_done c.print_end.result
    (known (asked.Copy t.options t.from t.to) (λ (t : List ℕ). Prints g.E.Sink.taken g.E.Sink.faults c.args.err.now c.print_end.new.err t) c.tool-end.result c.print_end.result
    (c.tool-end.ensures.did (asked.Copy t.options t.from t.to) asks).known c.print_end.ensures.tells) (λ e. quiet.sound (c.tool-end.ensures.link (c.print_end.ensures.link e)))
    (λ e. quiet.patient (c.tool-end.ensures.silent (c.print_end.ensures.silent e)))

pub returns-clause-duplicate_complete : goal.returns-clause-duplicate_complete
returns-clause-duplicate_complete g c d asks sound =
    let asked_ = asked.FileCopy d.options (side.File d.from) (side.File d.to) in
    let did = c.tool-end.ensures.did asked_ asks in
    duplicate_done c.print_end.result _
    (known asked_ (λ (t : List ℕ). Prints g.E.Sink.taken g.E.Sink.faults c.args.err.now c.print_end.new.err t) c.tool-end.result c.print_end.result did.known c.print_end.ensures.tells)
    (λ e. changed_untold d _ _ _ _ _ _ _ _ _ c.tool-end.result did.does.0.0
    (of_end (λ (t : List ℕ). Prints g.E.Sink.taken g.E.Sink.faults c.args.err.now c.print_end.new.err t) c.tool-end.result 6 c.print_end.result (λ n. omega (arith, n)) c.print_end.ensures.tells e))
    (λ e. sound (c.tool-end.ensures.storing (c.print_end.ensures.store e)))

pub returns-clause-download_complete : goal.returns-clause-download_complete
returns-clause-download_complete g c d asks quiet sound =
    let asked_ = asked.FileCopy d.options (side.Nbd d.from) (side.File d.to) in
    mixed_done c.print_end.result
    (known asked_ (λ (t : List ℕ). Prints g.E.Sink.taken g.E.Sink.faults c.args.err.now c.print_end.new.err t) c.tool-end.result c.print_end.result (c.tool-end.ensures.did asked_ asks).known c.print_end.ensures.tells)
    (λ e. quiet.sound (c.tool-end.ensures.link (c.print_end.ensures.link e))) (λ e. quiet.patient (c.tool-end.ensures.silent (c.print_end.ensures.silent e)))
    (λ e. sound (c.tool-end.ensures.storing (c.print_end.ensures.store e)))

pub returns-clause-upload_complete : goal.returns-clause-upload_complete
returns-clause-upload_complete g c u asks quiet sound =
    let asked_ = asked.FileCopy u.options (side.File u.from) (side.Nbd u.to) in
    mixed_done c.print_end.result
    (known asked_ (λ (t : List ℕ). Prints g.E.Sink.taken g.E.Sink.faults c.args.err.now c.print_end.new.err t) c.tool-end.result c.print_end.result (c.tool-end.ensures.did asked_ asks).known c.print_end.ensures.tells)
    (λ e. quiet.sound (c.tool-end.ensures.link (c.print_end.ensures.link e))) (λ e. quiet.patient (c.tool-end.ensures.silent (c.print_end.ensures.silent e)))
    (λ e. sound (c.tool-end.ensures.storing (c.print_end.ensures.store e)))

pub returns-clause-dump_complete : goal.returns-clause-dump_complete
returns-clause-dump_complete g c e asks quiet output = dump_done c.print_end.result
    (known (asked.Dump e.place e.offset e.length) (λ (t : List ℕ). Prints g.E.Sink.taken g.E.Sink.faults c.args.err.now c.print_end.new.err t) c.tool-end.result c.print_end.result
    (c.tool-end.ensures.did (asked.Dump e.place e.offset e.length) asks).known c.print_end.ensures.tells) (λ e. quiet.sound (c.tool-end.ensures.link (c.print_end.ensures.link e)))
    (λ e. quiet.patient (c.tool-end.ensures.silent (c.print_end.ensures.silent e))) (λ e. output (c.tool-end.ensures.output (c.print_end.ensures.output e)))

pub returns-clause-selftest_complete : goal.returns-clause-selftest_complete
returns-clause-selftest_complete g c t asks small output =
    test_done c.print_end.result (known (asked.Selftest t.seed t.size)
    (λ (t : List ℕ). Prints g.E.Sink.taken g.E.Sink.faults c.args.err.now c.print_end.new.err t) c.tool-end.result c.print_end.result
    (c.tool-end.ensures.did (asked.Selftest t.seed t.size) asks).known c.print_end.ensures.tells)
    (λ e. (c.tool-end.ensures.did (asked.Selftest t.seed t.size) asks).accepts.0 small
    (of_end (λ (t : List ℕ). Prints g.E.Sink.taken g.E.Sink.faults c.args.err.now c.print_end.new.err t) c.tool-end.result 6 c.print_end.result
    (λ n. omega (arith, n)) c.print_end.ensures.tells e)) (λ e. output (c.tool-end.ensures.output (c.print_end.ensures.output e)))

pub returns-clause-selftest_refuses : goal.returns-clause-selftest_refuses
returns-clause-selftest_refuses g c t asks large = by_status (λ (s : ℕ). (s ≡ 6) ⊎ (s ≡ 9))
    (λ (t : List ℕ). Prints g.E.Sink.taken g.E.Sink.faults c.args.err.now c.print_end.new.err t) c.tool-end.result c.print_end.result (inr refl)
    ((c.tool-end.ensures.did (asked.Selftest t.seed t.size) asks).accepts.1 large) c.print_end.ensures.tells

pub returns-clause-decided : goal.returns-clause-decided
returns-clause-decided g c = came_known (Refused c.args.words.now c.args.wires.now c.tool-end.new.wires c.args.out.now c.tool-end.new.out)
    (λ (t : List ℕ). Prints g.E.Sink.taken g.E.Sink.faults c.args.err.now c.print_end.new.err t) c.tool-end.result c.print_end.result c.tool-end.ensures.decided c.print_end.ensures.tells

pub returns-clause-file : goal.returns-clause-file
returns-clause-file g c s asks done =
    let is = of_done (λ (t : List ℕ). Prints g.E.Sink.taken g.E.Sink.faults c.args.err.now c.print_end.new.err t) c.tool-end.result c.print_end.result done c.print_end.ensures.tells in
    subst (FileServed s (g.W.Wires.told c.args.wires.now) (g.W.Wires.told c.tool-end.new.wires) (g.S.Store.shelf c.args.store.now) (g.S.Store.shelf c.tool-end.new.store)) is
    ((c.tool-end.ensures.did (asked.Serve s) asks.0).file asks.1 (subst (λ (n : ℕ). is_all_done n ≡ true) (sym is) done))

pub returns-clause-child : goal.returns-clause-child
returns-clause-child g c s asks done =
    let is = of_done (λ (t : List ℕ). Prints g.E.Sink.taken g.E.Sink.faults c.args.err.now c.print_end.new.err t) c.tool-end.result c.print_end.result done c.print_end.ensures.tells in
    subst (ProgramRan s (g.P.Spawner.told c.args.spawn.now) (g.P.Spawner.told c.tool-end.new.spawn)) is
    ((c.tool-end.ensures.did (asked.Serve s) asks.0).child asks.1 (subst (λ (n : ℕ). is_all_done n ≡ true) (sym is) done))

pub returns-clause-beside_done : goal.returns-clause-beside_done
returns-clause-beside_done g c here still =
    let s = here.0 in
    let asks = here.1.0 in
    beside_done c.print_end.result (beside_known s.content s.run c.print_end.result here.1.1
    (known (asked.Serve s) (λ (t : List ℕ). Prints g.E.Sink.taken g.E.Sink.faults c.args.err.now c.print_end.new.err t) c.tool-end.result c.print_end.result
    (c.tool-end.ensures.did (asked.Serve s) asks).known c.print_end.ensures.tells))
    (λ e. still.quiet.sound (c.tool-end.ensures.link (c.print_end.ensures.link e))) (λ e. still.quiet.patient (c.tool-end.ensures.silent (c.print_end.ensures.silent e)))
    (λ e. still.printed (c.tool-end.ensures.output (c.print_end.ensures.output e))) (λ e. still.stores (c.tool-end.ensures.storing (c.print_end.ensures.store e)))
    (λ e. still.spawns (c.tool-end.ensures.spawning (c.print_end.ensures.spawn e)))
