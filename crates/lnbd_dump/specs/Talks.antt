-- How the conversation on a link goes.
use Rattle.std.specs.Prelude.{◌≡◌, ◌⊎◌, ℕ, Bool, true, false, List, Option, Result, Ok, Err, IfOk, OnErr}
use Rattle.lnbd_model.specs.declared.export.ExportInfo.{ExportInfo}
use Rattle.lnbd_model.specs.declared.state.State.{State}
use Rattle.lnbd_model.specs.declared.state.State.TheVariants as state
use Rattle.lnbd_history.specs.Events.{History}
use Rattle.lnbd_waits.specs.declared.waiting.Halt.{Halt}
use Rattle.lnbd_dump.specs.declared.reader.Latest.{Latest}
use Rattle.lnbd_dump.specs.declared.reader.Reader.{Reader}
use Rattle.lnbd_dump.specs.declared.stop.Stop.{Stop}
use Rattle.lnbd_dump.specs.declared.stop.Stop.TheVariants as stop
use Rattle.lnbd_dump.specs.declared.terms.Terms.{Terms}
use Rattle.lnbd_kept.specs.Kept.{AllKeep}
use Rattle.lnbd_history.specs.Entries.{calls}
use Rattle.lnbd_history.specs.History.{reading}
use Rattle.lnbd_dump.specs.Conduct.{AreWell, AsksNothing, Conduct, IsWhole, WasKnown}
use Rattle.lnbd_dump.specs.Leads.{IsTied, Tells}
use Rattle.lnbd_reel.specs.Said.{Shown}
use Rattle.lnbd_reel.specs.Said.{ShownPart}
use Rattle.lnbd_dump.specs.Stops.{IsEnd}
use Rattle.lnbd_dump.specs.Terms.{AreTerms}

-- there is no more to ask, on a connection that goes on
abbrev pub is_parting : Result ℕ Stop → Bool
is_parting (Ok count) = true
is_parting (Err (stop.Range size)) = true
is_parting (Err (stop.Uneven size block)) = true
is_parting (Err (stop.Halted why)) = false
is_parting (Err (stop.Died cause)) = false
is_parting (Err (stop.Broke broke)) = false
is_parting (Err (stop.Failed error)) = false
is_parting (Err stop.Output) = false

-- Nothing was asked yet of an export that is known.
pub record IsFresh (info : ExportInfo) (world : Latest) (history : History Reader) : Type 0 where
  pub knows : WasKnown history info
  pub none : AsksNothing history
  pub keeps : AllKeep (calls (reading history).known.entries)
  pub tied : IsTied world history

abbrev pub ShowsSpan : Result ℕ Stop → Terms → Latest → (offset count : ℕ) → (taken taken' : Option (List ℕ)) → History Reader → History Reader → History Reader → Type 0
ShowsSpan result terms world offset count taken taken' before after ended =
    (info : ExportInfo) → AreTerms info terms → IsFresh info world before →
    AreWell info after × IfOk result (λ n. Shown (Tells ended) offset count taken taken') × OnErr result (ShownPart (Tells ended) offset count taken taken')

-- what was shown
abbrev pub IsShown : Result ℕ Stop → (offset : ℕ) → (given : Option ℕ) → (taken taken' : Option (List ℕ)) → History Reader → History Reader → Type 0
IsShown (Ok count) offset given taken taken' after ended = IsWhole offset given after count × IsWhole offset given ended count × Shown (Tells ended) offset count taken taken'
IsShown (Err why) offset given taken taken' after ended =
    IsEnd offset given after why × ((taken' ≡ taken) ⊎ ((count : ℕ) × IsWhole offset given ended count × ShownPart (Tells ended) offset count taken taken'))

-- Where nothing was asked before, it was shown so, and all was asked well.
abbrev pub Reads : Result ℕ Stop → (offset : ℕ) → (given : Option ℕ) → Latest → (taken taken' : Option (List ℕ)) → History Reader → History Reader → History Reader → Type 0
Reads result offset given world taken taken' before after ended =
    AsksNothing before → AllKeep (calls (reading before).known.entries) → IsTied world before → Conduct after × IsShown result offset given taken taken' after ended

-- what comes of it where the end was waited for so
abbrev pub EndsAs : Result ℕ Stop → Result (Unit {0}) Halt → State → Result ℕ Stop → Type 0
EndsAs (Err why) written at end = end ≡ Err why
EndsAs (Ok count) (Err why) at end = end ≡ Err (stop.Halted why)
EndsAs (Ok count) (Ok done) (state.Dead cause) end = end ≡ Err (stop.Died cause)
EndsAs (Ok count) (Ok done) state.Created end = end ≡ Ok count
EndsAs (Ok count) (Ok done) state.Negotiating end = end ≡ Ok count
EndsAs (Ok count) (Ok done) state.OptMode end = end ≡ Ok count
EndsAs (Ok count) (Ok done) state.Ready end = end ≡ Ok count
EndsAs (Ok count) (Ok done) state.Closing end = end ≡ Ok count
EndsAs (Ok count) (Ok done) state.Closed end = end ≡ Ok count
