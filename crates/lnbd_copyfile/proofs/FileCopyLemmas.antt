-- A copy of which a side is a file: which one it is by its sides, and what its run says of what it came to.
use Rattle.std.proofs.Common.{◌≡◌, ℕ, false, List, Option, Result, Ok, Err, ap, subst}
use Rattle.std.specs.Prelude.{IfOk, OnOk}
use Rattle.lnbd_link.specs.Call.{Call}
use Rattle.lnbd_model.specs.declared.target.Place.{Place}
use Rattle.lnbd_asked.specs.Transcript.{dealt_with}
use Rattle.lnbd_plan.specs.declared.options.CopyOptions.{CopyOptions}
use Rattle.lnbd_plan.specs.declared.summary.Summary.{Summary}
use Rattle.lnbd_course.specs.AllDone.{AreAllDone}
use Rattle.lnbd_course.specs.Asks.{GrewBy}
use Rattle.lnbd_course.specs.Flushes.{IsUnflushed, OneFlushes}
use Rattle.lnbd_conduct.specs.Answered.{ReadsAreAnswered}
use Rattle.lnbd_conduct.specs.Links.{AllConnected}
use Rattle.lnbd_store.specs.Call.{Call as Move}
use Rattle.lnbd_store.specs.Shelf.{Goes, Shelf}
use Rattle.lnbd_store.specs.declared.side.Side.{Side}
use Rattle.lnbd_store.specs.declared.side.Side.TheVariants as side
use Rattle.lnbd_touched.specs.Grown.{Grew}
use Rattle.lnbd_copyfile.specs.declared.fault.FileFault.{FileFault}
use Rattle.lnbd_copyfile.specs.Conduct.{ConductsFar}
use Rattle.lnbd_copyfile.specs.Connects.{ConnectsAsTold}
use Rattle.lnbd_copyfile.specs.FileCopy.{Download, DownloadConducts, Downloads, HasDownloaded, HasUploaded, Seen, Upload, Uploads}
use Rattle.lnbd_copyfile.specs.FlushedLast.{FlushesLastFrom}
use Rattle.lnbd_copyfile.specs.FromFile.{HasAskedFrom, HasRead, HasSummedFrom, IsGivenBy, size_of}
use Rattle.lnbd_copyfile.specs.OneSide.{IsCopiedFrom, IsCopiedTo}
use Rattle.lnbd_copyfile.specs.Passed.{HasPassedOver}
use Rattle.lnbd_copyfile.specs.Shares.{IsAlwaysSharedTo}
use Rattle.lnbd_copyfile.specs.Shown.{FlushesWantedFrom}
use Rattle.lnbd_copyfile.specs.Taken.{IsCutTo, ReadsAtMostOnce, SparesToldSoFar, SparesWhole}
use Rattle.lnbd_copyfile.specs.ToFile.{HasReadOnce, HasStored, IsSummedTo}
use Rattle.lnbd_copyfile.specs.ToFileFull.{PausesAreFullTo}

-- Which copy it is.

-- where it is so of the copy with these sides, it is so of each that the copy is
pub this_download : (P : Download → Type 0) (options : CopyOptions) (a b : Side) (from : Place) (to : List ℕ) → a ≡ side.Nbd from → b ≡ side.File to
    → P (record { options = options; from = from; to = to }) → (d : Download) → Downloads (record { options = options; from = a; to = b }) d → P d
this_download P options a b from to is-a is-b so d is =
    let begins : from ≡ d.from = cc (is-a, ap (λ (s : Seen). s.from) is) in
    let ends : to ≡ d.to = cc (is-b, ap (λ (s : Seen). s.to) is) in
    subst (λ (o : CopyOptions). P (record { options = o; from = d.from; to = d.to })) (ap (λ (s : Seen). s.options) is)
    (subst (λ (f : Place). P (record { options = options; from = f; to = d.to })) begins (subst (λ (t : List ℕ). P (record { options = options; from = from; to = t })) ends so))

pub this_upload : (P : Upload → Type 0) (options : CopyOptions) (a b : Side) (from : List ℕ) (to : Place) → a ≡ side.File from → b ≡ side.Nbd to
    → P (record { options = options; from = from; to = to }) → (u : Upload) → Uploads (record { options = options; from = a; to = b }) u → P u
this_upload P options a b from to is-a is-b so u is =
    let begins : from ≡ u.from = cc (is-a, ap (λ (s : Seen). s.from) is) in
    let ends : to ≡ u.to = cc (is-b, ap (λ (s : Seen). s.to) is) in
    subst (λ (o : CopyOptions). P (record { options = o; from = u.from; to = u.to })) (ap (λ (s : Seen). s.options) is)
    (subst (λ (f : List ℕ). P (record { options = options; from = f; to = u.to })) begins (subst (λ (t : Place). P (record { options = options; from = from; to = t })) ends so))

-- What it came to, of which each fact is known by itself.

pub downloaded : (d : Download) (told told' : Option (List Call)) (moved moved' : Option (List Move)) (shelf shelf' : Option Shelf) (taken taken' : ℕ) (result : Result Summary FileFault)
    → OnOk result (GrewBy (λ calls. Goes shelf shelf' (IsCopiedTo d.to d.from calls)) told told') → OnOk result (GrewBy (HasReadOnce d.from) told told')
    → OnOk result (GrewBy (λ calls. AreAllDone (dealt_with d.from calls)) told told') → IfOk result (λ summary. GrewBy (IsSummedTo d.from summary taken taken') told told')
    → IfOk result (λ summary. GrewBy (IsCutTo d.from d.to d.options.flush summary moved moved') told told') → OnOk result (GrewBy (SparesWhole d.from) told told')
    → IfOk result (λ summary. GrewBy (HasPassedOver d.options d.from summary.skipped) told told') → OnOk result (GrewBy (ConnectsAsTold d.options d.from) told told')
    → OnOk result (GrewBy AllConnected told told') → OnOk result (Grew moved moved' (HasStored d.to d.options.flush))
    → IfOk result (λ summary. HasDownloaded d summary told told' moved moved' shelf shelf' taken taken')
downloaded d told told' moved moved' shelf shelf' taken taken' (Ok summary) file asks done sums cuts spares passed connects connected calls =
    record { file = file; asks = asks; done = done; sums = sums; cuts = cuts; spares = spares; passed = passed; connects = connects; connected = connected; calls = calls }
downloaded d told told' moved moved' shelf shelf' taken taken' (Err why) file asks done sums cuts spares passed connects connected calls = tt

pub uploaded : (u : Upload) (told told' : Option (List Call)) (moved moved' : Option (List Move)) (shelf shelf' : Option Shelf) (given given' : ℕ) (result : Result Summary FileFault)
    → IfOk result (λ summary. GrewBy (λ calls. Goes shelf shelf' (IsCopiedFrom u.from (size_of summary) u.to u.options.destination_is_zero calls)) told told')
    → IfOk result (λ summary. GrewBy (HasAskedFrom u.options (size_of summary) u.to) told told') → OnOk result (GrewBy (λ calls. AreAllDone (dealt_with u.to calls)) told told')
    → OnOk result (GrewBy (λ calls. OneFlushes (dealt_with u.to calls)) told told') → (u.options.flush ≡ false → OnOk result (GrewBy (IsUnflushed u.to) told told'))
    → IfOk result (λ summary. GrewBy (FlushesWantedFrom u.options (size_of summary) u.to) told told') → IfOk result (λ summary. GrewBy (FlushesLastFrom (size_of summary) u.to summary) told told')
    → IfOk result (λ summary. GrewBy (λ calls. IsGivenBy summary given given') told told') → IfOk result (λ summary. GrewBy (HasSummedFrom summary u.to) told told')
    → OnOk result (GrewBy (ConnectsAsTold u.options u.to) told told') → OnOk result (GrewBy AllConnected told told') → OnOk result (Grew moved moved' (HasRead u.from))
    → IfOk result (λ summary. HasUploaded u summary told told' moved moved' shelf shelf' given given')
uploaded u told told' moved moved' shelf shelf' given given' (Ok summary) file asks done flushes unflushed flushed flushed_last sums summed connects connected calls = record {
  file = file;
  asks = asks;
  done = done;
  flushes = flushes;
  unflushed = unflushed;
  flushed = flushed;
  flushed_last = flushed_last;
  sums = sums;
  summed = summed;
  connects = connects;
  connected = connected;
  calls = calls;
}
uploaded u told told' moved moved' shelf shelf' given given' (Err why) file asks done flushes unflushed flushed flushed_last sums summed connects connected calls = tt

pub download_conducts : (d : Download) (a b : Option (List Call)) → GrewBy (ConductsFar d.options d.from) a b → GrewBy (ReadsAtMostOnce d.from) a b → GrewBy (SparesToldSoFar d.from) a b → GrewBy (IsAlwaysSharedTo d.options d.from) a b →
    GrewBy (PausesAreFullTo d.options d.from) a b → GrewBy (ReadsAreAnswered d.options.extents d.from) a b → GrewBy (DownloadConducts d) a b
download_conducts d a b links reads spares shares full heard all part is grown = record {
  links = links all part is grown;
  reads = reads all part is grown;
  spares = spares all part is grown;
  shares = shares all part is grown;
  full = full all part is grown;
  heard = heard all part is grown;
}
