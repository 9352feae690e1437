-- What a run of nbdcopy between two files ends with.
use Rattle.std.proofs.Common.{◌≡◌, ◌∙◌, ℕ, List, Option, ap, sym}
use Rattle.lnbd_store.specs.Call.{Call as Move}
use Rattle.lnbd_store.specs.Shelf.{Shelf}
use Rattle.lnbd_copyfile.specs.FileCopy.{AreUntold, Duplication}
use Rattle.lnbd_cli.specs.Duplicates.{DuplicateEnds, Duplicated, Lacked_memory, Source_changed, Store_failed, Unbegun}
use Rattle.lnbd_cli.specs.Ends.{End, status_of}

-- on 6 the source changed, and no files are told
pub changed_untold : (d : Duplication) (moved moved' : Option (List Move)) (shelf shelf' : Option Shelf) (given given' taken taken' : ℕ) (Untouched : Type 0) (end : End)
    → DuplicateEnds d moved moved' shelf shelf' given given' taken taken' Untouched end → status_of end ≡ 6 → AreUntold shelf'
changed_untold d moved moved' shelf shelf' given given' taken taken' Untouched end (Duplicated summary is did) six = cc (sym (ap status_of is) ∙ six)
changed_untold d moved moved' shelf shelf' given given' taken taken' Untouched end (Store_failed is stopped) six = cc (sym (ap status_of is) ∙ six)
changed_untold d moved moved' shelf shelf' given given' taken taken' Untouched end (Source_changed length last is early untold stopped) six = untold
changed_untold d moved moved' shelf shelf' given given' taken taken' Untouched end (Lacked_memory is stopped) six = cc (sym (ap status_of is) ∙ six)
changed_untold d moved moved' shelf shelf' given given' taken taken' Untouched end (Unbegun is none) six = cc (sym (ap status_of is) ∙ six)
