-- Words on how parts are shown.
use Rattle.std.specs.Prelude.{◌≡◌, ◌⊎◌, ℕ, ◌+◌, List, [], ◌++◌, Option, Result, IfOk, OnOk, OnErr, option_to_list}
use Rattle.lnbd_model.specs.declared.export.ExportInfo.{ExportInfo}
use Rattle.lnbd_history.specs.Entries.{calls}
use Rattle.lnbd_history.specs.Events.{History}
use Rattle.lnbd_history.specs.History.{reading}
use Rattle.lnbd_hexdump.specs.Said.{Ends, Kept}
use Rattle.lnbd_kept.specs.Kept.{AllKeep}
use Rattle.lnbd_link.specs.Part.{Takes, TakesFront}
use Rattle.lnbd_dump.specs.declared.asking.Plan.{Plan}
use Rattle.lnbd_dump.specs.declared.reader.Latest.{Latest}
use Rattle.lnbd_dump.specs.declared.reader.Reader.{Reader}
use Rattle.lnbd_reel.specs.declared.reel.Part.{Part}
use Rattle.lnbd_reel.specs.declared.reel.Run.{Run}
use Rattle.lnbd_dump.specs.declared.stop.Stop.{Stop}
use Rattle.lnbd_dump.specs.Conduct.{AreWell}
use Rattle.lnbd_dump.specs.Course.{IsUnderWay}
use Rattle.lnbd_dump.specs.Leads.{IsRead, IsTied, Quiet, Tells, TellsZero}
use Rattle.lnbd_reel.specs.Reel.{IsBegun}
use Rattle.lnbd_dump.specs.Stops.{HasStop}
use Rattle.lnbd_reel.specs.Said.{IsSaid, SaysMore, Shown, ShownPart}

-- The part was begun, and callbacks keep what they are handed.
pub record IsTaken (part : Part) (before : History Reader) : Type 0 where
  pub begun : IsBegun (TellsZero before) (IsRead before) part.start part.length part.cookie
  pub keeps : AllKeep (calls (reading before).known.entries)

-- nothing was asked on the way, and no more was told of extents
pub record Goes (before after : History Reader) : Type 0 where
  pub quiet : Quiet before after
  pub tied : (world : Latest) → IsTied world before → IsTied world after

-- no command was asked that is not well
abbrev pub StaysWell : History Reader → History Reader → Type 0
StaysWell before after = (info : ExportInfo) → AreWell info before → AreWell info after

abbrev pub Says : {A : Type 0} → Result A Stop → (offset end : ℕ) → Part → Kept → Kept → List ℕ → History Reader → History Reader → Type 0
Says result offset end part kept kept' text before after =
    StaysWell before after × OnOk result (Goes before after × (IsTaken part before → SaysMore (Tells before) (Tells after) offset end part.start (part.start + part.length) kept kept' text))

-- what the output took of the range so far grew by what can be said where the positions of a part are told, too
abbrev pub SaysPart : (offset count : ℕ) → Part → Kept → Kept → (taken taken' : Option (List ℕ)) → History Reader → History Reader → Type 0
SaysPart offset count part kept kept' taken taken' before after =
    (begun : Option (List ℕ)) (front : List ℕ) → IsSaid (Tells before) offset (offset + count) part.start kept front → Takes begun taken front →
    (more : List ℕ) × IsSaid (Tells after) offset (offset + count) (part.start + part.length) kept' (front ++ more) × Takes begun taken' (front ++ more)

-- it is a front of the dump of the range, by what was told, where so much was said before
abbrev pub SaysFront : (offset count : ℕ) → Part → Kept → (taken taken' : Option (List ℕ)) → History Reader → History Reader → Type 0
SaysFront offset count part kept taken taken' before after =
    (begun : Option (List ℕ)) (front : List ℕ) → IsSaid (Tells before) offset (offset + count) part.start kept front → Takes begun taken front → ShownPart (Tells after) offset count begun taken'

abbrev pub ShowsPart : {A : Type 0} → Result A Stop → (offset count : ℕ) → Part → Kept → Kept → (taken taken' : Option (List ℕ)) → History Reader → History Reader → Type 0
ShowsPart result offset count part kept kept' taken taken' before after =
    StaysWell before after × OnOk result (Goes before after × (IsTaken part before → SaysPart offset count part kept kept' taken taken' before after))
    × OnErr result (IsTaken part before → SaysFront offset count part kept taken taken' before after)

-- the last group was written, or a front of it
abbrev pub FinishesWith : {A : Type 0} → Result A Stop → Kept → (taken taken' : Option (List ℕ)) → Type 0
FinishesWith result kept taken taken' =
    OnOk result ((rest : List ℕ) × Takes taken taken' rest × Ends kept [] rest)
    × OnErr result ((taken' ≡ taken) ⊎ ((rest : List ℕ) × TakesFront taken taken' rest × Ends kept [] rest))

-- it is stopped for nothing that has happened on the handle
abbrev pub HasNoCause : {A : Type 0} → Result A Stop → Type 0
HasNoCause {A} result = (history : History Reader) → HasStop result history

-- The next part, if there is one, and those behind it.
abbrev pub HasNext : Result (Option Part) Stop → Plan → List Run → List Part → Latest → History Reader → Plan → List Run → List Part → Latest → History Reader → Type 0
HasNext result plan runs reel world before plan' runs' reel' world' after =
    (info : ExportInfo) (from : ℕ) → IsUnderWay info from plan runs reel world before →
    AreWell info after × IfOk result (λ found. IsUnderWay info from plan' runs' (option_to_list found ++ reel') world' after)

-- All was shown, or a front of it, and all that was asked was asked well.
abbrev pub Shows : {A : Type 0} → Result A Stop → Plan → List Run → Latest → (offset count : ℕ) → (taken taken' : Option (List ℕ)) → History Reader → History Reader → History Reader → Type 0
Shows result plan runs world offset count taken taken' before after ended =
    (info : ExportInfo) → IsUnderWay info plan.at plan runs [] world before →
    AreWell info after × OnOk result (Shown (Tells ended) offset count taken taken') × OnErr result (ShownPart (Tells ended) offset count taken taken')
