-- What a copy leaves of which one side is a file.
use Rattle.std.specs.Prelude.{◌≡◌, ℕ, ◌<◌, ◌≤◌, Bool, true, false, List, length, replicate, get_or}
use Rattle.lnbd_asked.specs.Transcript.{Dealt}
use Rattle.lnbd_asked.specs.Honest.{Honest}
use Rattle.lnbd_plan.specs.declared.grid.Slice.{Slice}
use Rattle.lnbd_plan.specs.declared.cells.Cells.{Cells}
use Rattle.lnbd_board.specs.declared.how.How.{How}
use Rattle.lnbd_board.specs.Holds.{Holds, IsCopied, WasToldSize, WasToldZero}
use Rattle.lnbd_board.specs.Requests.{Request, Each, IsDealt}
use Rattle.lnbd_onesided.specs.Dealt.{AreApart}
use Rattle.lnbd_onesided.specs.Honest.{IsRead, Made}

-- To a file: all is copied, and the file, which was so many zeros, made the changes one after another. Then it is what the source holds,
-- whatever that is, if the source's server is honest over what was dealt with it.
abbrev pub ToFileHolds : Type 0
ToFileHolds = (how : How) (cells : Cells) (told : ℕ → Bool) (size : ℕ) (slices : List Slice) (asked made : List Request) (source : Dealt) (now : List ℕ) →
    IsCopied how cells told size slices asked made → IsDealt asked source → AreApart made → Made (replicate size 0) made now →
    (from : List ℕ) → Honest from source from → WasToldSize source size → ((p : ℕ) → p < size → told p ≡ true → WasToldZero source p) → now ≡ from

-- From a file: all is copied, and each read told the file's bytes. Then the destination holds the file, whatever it held and holds in the
-- end, if its server is honest over what was dealt with it.
abbrev pub FromFileHolds : Type 0
FromFileHolds = (how : How) (cells : Cells) (told : ℕ → Bool) (size room : ℕ) (slices : List Slice) (read changed : List Request) (destination : Dealt) (file : List ℕ) →
    IsCopied how cells told size slices read changed → IsDealt changed destination → AreApart read → Each (IsRead file) read → length file ≡ size → ((p : ℕ) → told p ≡ false) →
    (to end : List ℕ) → Honest to destination end → WasToldSize destination room → size ≤ room → (how.skip ≡ true → (p : ℕ) → p < size → get_or to p 0 ≡ 0) → Holds file to end
