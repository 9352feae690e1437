-- What arrived, as an event.
use Rattle.std.proofs.Common.{◌≡◌, ℕ, List, [], ◌++◌, take, Ok, Err, Result, None, OnOk, IfErr, refl, subst}
use Rattle.lnbd_callbacks.specs.Calls.{Call}
use Rattle.lnbd_stream.proofs.Stream.{feed_partial}
use Rattle.lnbd_history.specs.Arrivals.{shows_at}
use Rattle.lnbd_history.specs.Events.{Arrived}
use Rattle.lnbd_history.proofs.Steady.{none_at}
use Rattle.lnbd_machine.specs.Machine.{Machine, sight, waited, table_rules}
use Rattle.lnbd_machine.specs.Laws.{IsPartial}
use Rattle.lnbd_handle.specs.declared.connection.Connection.{Connection}
use Rattle.lnbd_handle.specs.declared.kinds.Short.{Short}
use Rattle.lnbd_handle.specs.Runs.{under, Runs, Answered}
use Rattle.lnbd_handle.specs.Seen.{machine_of}
use Rattle.lnbd_handle.specs.Turns.{arriving, Arrives}
use Rattle.lnbd_handle.proofs.RunLemmas.{answered}

module _ {K World : Type 0} (steps : World → List (Call K) → World → Type 0) where
  runs_partial : (bytes : List ℕ) (old new : Machine K) (before after : World) → Runs steps (arriving bytes) old new before after → IsPartial old → IsPartial new
  runs_partial bytes old new before after r partial =
      subst (λ h. shows_at h.known.state.stage (sight h.known.state) (waited h.known.state) h.pending ≡ None) (r.does [] [])
      (feed_partial (table_rules {K = K}) (λ d. none_at d.state.stage (sight d.state) (waited d.state)) (under old (r.answers ++ []) []) bytes partial)

  module _ (old new : Connection K) (held now bytes : List ℕ) (before after : World) where
    pub arrives_partial : (result : Result (Unit {0}) Short) → Arrives steps old held before bytes result new now after → IsPartial (machine_of old held) → IsPartial (machine_of new now)
    arrives_partial (Ok done) a partial = runs_partial bytes (machine_of old held) (machine_of new now) before after a partial
    arrives_partial (Err short) a partial = runs_partial (take short.taken bytes) (machine_of old held) (machine_of new now) before after a.1 partial

    pub arrives_ok : (result : Result (Unit {0}) Short) → Arrives steps old held before bytes result new now after → OnOk result (Answered steps (Arrived bytes) (machine_of old held) (machine_of new now) before after)
    arrives_ok (Ok done) a = answered steps (Arrived bytes) (arriving bytes) (machine_of old held) (machine_of new now) before after (λ answers. refl) a
    arrives_ok (Err short) a = tt

    pub arrives_short : (result : Result (Unit {0}) Short) → Arrives steps old held before bytes result new now after → IfErr result (λ short. Answered steps (Arrived (take short.taken bytes)) (machine_of old held) (machine_of new now) before after)
    arrives_short (Ok done) a = tt
    arrives_short (Err short) a = answered steps (Arrived (take short.taken bytes)) (arriving (take short.taken bytes)) (machine_of old held) (machine_of new now) before after (λ answers. refl) a.1
