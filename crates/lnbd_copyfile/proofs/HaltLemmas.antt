-- What ends a copy from a file early, and which calls on the store it made.
use Rattle.std.proofs.Common.{◌≡◌, ◌<◌, ℕ, List, [], ◌++◌, Option, Some, ap, sym, ◌∙◌, arith}
use Rattle.lnbd_store.specs.Call.{Call}
use Rattle.lnbd_store.specs.Shelf.{Goes, Shelf}
use Rattle.lnbd_touched.specs.Parts.{IsShort}
use Rattle.lnbd_touched.specs.Touches.{Touches}
use Rattle.lnbd_touched.proofs.TouchLemmas.{touches_none}
use Rattle.lnbd_copyfile.specs.declared.fault.Stop.{Stop}
use Rattle.lnbd_copyfile.specs.declared.fault.Stop.TheVariants as stop
use Rattle.lnbd_copyfile.specs.Calls.{opening}
use Rattle.lnbd_copyfile.specs.FromFile.{HasNotRead, HasRead, No_file, Not_read}
use Rattle.lnbd_copyfile.specs.Loading.{ToldMore}
use Rattle.lnbd_copyfile.specs.OneFile.{BreaksReading, Read_breaks, Read_falls_short, Read_lacks_memory, Reads}
use Rattle.lnbd_copyfile.specs.Steps.{IsSource}
use Rattle.lnbd_copyfile.proofs.SendingLemmas.{told_none}
use Rattle.lnbd_copyfile.proofs.SumsLemmas.{told_files_last}

-- Calls on the store.

pub read_then : (path : List ℕ) (file size : ℕ) (calls more : List Call) → calls ≡ opening path file size → Reads file more → HasRead path (calls ++ more)
read_then path file size calls more is reads = record { file = file; size = size; own = more; reads = reads; calls_are = ap (λ (xs : List Call). xs ++ more) is }

pub unread_then : (path : List ℕ) (file size : ℕ) (why : Stop) (calls more : List Call) → calls ≡ opening path file size → BreaksReading file size why more → HasNotRead path why (calls ++ more)
unread_then path file size why calls more is breaks = Not_read file size more breaks (ap (λ (xs : List Call). xs ++ more) is)

-- a file that changed ended early
early_read : (file size n end : ℕ) (why : Stop) (calls : List Call) → why ≡ stop.Changed n end → BreaksReading file size why calls → end < n
early_read file size n end why calls is (Read_lacks_memory f e) = absurd (cc (is, e))
early_read file size n end why calls is (Read_breaks own offset room f are e) = absurd (cc (is, e))
early_read file size n end why calls is (Read_falls_short own at room f few are e) =
    let k : stop.Changed n end ≡ stop.Changed size at = sym is ∙ e in
    let one : n ≡ size = cc k in
    let two : end ≡ at = cc k in
    omega (arith, one, two, few)

pub early : (path : List ℕ) (n end : ℕ) (why : Stop) (calls : List Call) → why ≡ stop.Changed n end → HasNotRead path why calls → end < n
early path n end why calls is (No_file f e) = absurd (cc (is, e))
early path n end why calls is (Not_read file size own f are) = early_read file size n end why own is f

-- and so it has not, where the store tells its files
pub unchanged : (path : List ℕ) (file size : ℕ) (a b c : Option Shelf) → Goes a b (IsSource path file size) → Touches file (IsShort size) b c → (now : Shelf) → c ≡ Some now → ⊥
unchanged path file size a b c source short now e =
    told_files_last path file size [] a b b c source (touches_none file (ToldMore [] []) b (told_none [])) short now e
