-- How a run of nbdcopy ends of which a side is a file, by what the copy came to.
use Rattle.std.proofs.Common.{◌≡◌, ◌∙◌, inl, ℕ, true, List, Option, Result, Ok, Err, ap, subst, sym}
use Rattle.std.specs.Prelude.{IfErr, OnOk}
use Rattle.lnbd_link.specs.Call.{Call}
use Rattle.lnbd_link.specs.Contents.{Stored}
use Rattle.lnbd_link.specs.Count.{Rises, patience}
use Rattle.lnbd_plan.specs.declared.fault.CopyFault.{CopyFault}
use Rattle.lnbd_plan.specs.declared.fault.CopyFault.TheVariants as copying
use Rattle.lnbd_plan.specs.declared.options.CopyOptions.{CopyOptions}
use Rattle.lnbd_plan.specs.declared.summary.Summary.{Summary}
use Rattle.lnbd_copy.specs.declared.counts.Counts.{Counts}
use Rattle.lnbd_store.specs.Call.{Call as Move}
use Rattle.lnbd_store.specs.Shelf.{Shelf}
use Rattle.lnbd_store.specs.declared.side.Side.{Side}
use Rattle.lnbd_store.specs.declared.side.Side.TheVariants as side
use Rattle.lnbd_copyfile.specs.Causes.{Lacks}
use Rattle.lnbd_copyfile.specs.FileCopy.{AreFileSides, Download, DownloadRuns, Downloads, Duplicates, Duplication, DuplicationRuns, Seen, Upload, UploadRuns, Uploads}
use Rattle.lnbd_copyfile.specs.FromFile.{HasStoreCause, HasWiresCause}
use Rattle.lnbd_copyfile.specs.declared.fault.FileFault.{FileFault}
use Rattle.lnbd_copyfile.specs.declared.fault.FileFault.TheVariants as filing
use Rattle.lnbd_cli.specs.declared.ending.Fault.{Fault}
use Rattle.lnbd_cli.specs.declared.ending.Fault.TheVariants as fault
use Rattle.lnbd_cli.specs.Copies.{TellsCopyFault}
use Rattle.lnbd_cli.specs.Duplicates as duplicates
use Rattle.lnbd_cli.specs.Duplicates.{DuplicateEnds, is_duplicate_status}
use Rattle.lnbd_cli.specs.Ends.{End, status_of}
use Rattle.lnbd_cli.specs.FileCopies.{DownloadEnds, FilesEnd, HasExport, IsEndOf, UploadEnds, is_files_status, is_mixed_status}
use Rattle.lnbd_cli.specs.FileCopies as files
use Rattle.lnbd_cli.proofs.CopyLemmas.{told_link, told_silent}

abbrev failed : Fault → End
failed why = Err why

-- memory that ran out is told so
lacks : (why : CopyFault) (tells : Fault) → Lacks why → TellsCopyFault why tells → tells ≡ fault.NoMemory
lacks copying.NoMemory tells lacked told = told
lacks (copying.Link before after) tells lacked told = absurd lacked
lacks (copying.Broke broken) tells lacked told = absurd lacked
lacks (copying.Peer option code) tells lacked told = absurd lacked
lacks (copying.Rule rule) tells lacked told = absurd lacked
lacks (copying.Silent told') tells lacked told = absurd lacked

-- What is told has its cause.

end_link : (made : Result Summary FileFault) (end : End) (start : Counts) (faults idles : ℕ) → IfErr made (HasWiresCause start faults idles) → IsEndOf made end → end ≡ Err fault.Link
    → Rises 1 start.faults faults
end_link (Ok summary) end start faults idles cause is e = cc (sym is ∙ e)
end_link (Err (filing.Copy why)) end start faults idles cause is e = told_link why is.0 start faults idles is.2 cause (sym is.1 ∙ e)
end_link (Err (filing.Store before after)) end start faults idles cause is e = cc (ap failed (sym is.2) ∙ sym is.1 ∙ e)
end_link (Err (filing.Changed length last)) end start faults idles cause is e = cc (ap failed (sym is.2) ∙ sym is.1 ∙ e)

end_silent : (made : Result Summary FileFault) (end : End) (start : Counts) (faults idles : ℕ) → IfErr made (HasWiresCause start faults idles) → IsEndOf made end → end ≡ Err fault.Silent
    → Rises patience start.idles idles
end_silent (Ok summary) end start faults idles cause is e = cc (sym is ∙ e)
end_silent (Err (filing.Copy why)) end start faults idles cause is e = told_silent why is.0 start faults idles is.2 cause (sym is.1 ∙ e)
end_silent (Err (filing.Store before after)) end start faults idles cause is e = cc (ap failed (sym is.2) ∙ sym is.1 ∙ e)
end_silent (Err (filing.Changed length last)) end start faults idles cause is e = cc (ap failed (sym is.2) ∙ sym is.1 ∙ e)

not_store : (why : CopyFault) (tells : Fault) → TellsCopyFault why tells → failed tells ≡ Err fault.Store → ⊥
not_store copying.NoMemory tells told e = cc (ap failed (sym told) ∙ e)
not_store (copying.Link before after) tells told e = cc (ap failed (sym told) ∙ e)
not_store (copying.Broke broken) tells told e = cc (ap failed (sym told) ∙ e)
not_store (copying.Peer option code) tells told e = cc (ap failed (sym told) ∙ e)
not_store (copying.Rule rule) tells told e = cc (ap failed (sym told) ∙ e)
not_store (copying.Silent idles) tells told e = cc (ap failed (sym told) ∙ e)

end_store : (made : Result Summary FileFault) (end : End) (old new : ℕ) → IfErr made (HasStoreCause old new) → IsEndOf made end → end ≡ Err fault.Store → Rises 1 old new
end_store (Ok summary) end old new cause is e = cc (sym is ∙ e)
end_store (Err (filing.Copy why)) end old new cause is e = absurd (not_store why is.0 is.2 (sym is.1 ∙ e))
end_store (Err (filing.Store before after)) end old new cause is e = cause.2
end_store (Err (filing.Changed length last)) end old new cause is e = cc (ap failed (sym is.2) ∙ sym is.1 ∙ e)

-- where the copy was made the run ends well
end_well : (P : Type 0) (made : Result Summary FileFault) (end : End) → IsEndOf made end → OnOk made P → OnOk end P
end_well P (Ok summary) end is so = subst (λ (e : End). OnOk e P) (sym is) so
end_well P (Err why) end is so = subst (λ (e : End). OnOk e P) (sym is.1) tt

module _ {W S : Type 0} (told : W → Option (List Call)) (faults idles : W → ℕ) (contents : W → Option (List Stored)) (wires wires' : W)
    (moved : S → Option (List Move)) (shelf : S → Option Shelf) (given taken failures : S → ℕ) (store store' : S) where
  -- a run of the copy with these sides
  abbrev RunsSo : CopyOptions → (from to : Side) → Result Summary FileFault → Type 0
  RunsSo options (side.File from) (side.File to) made = DuplicationRuns (record { options = options; from = from; to = to }) wires wires' moved shelf given taken failures store store' made
  RunsSo options (side.Nbd from) (side.File to) made =
      DownloadRuns (record { options = options; from = from; to = to }) told faults idles contents wires wires' moved shelf taken failures store store' made
  RunsSo options (side.File from) (side.Nbd to) made =
      UploadRuns (record { options = options; from = from; to = to }) told faults idles contents wires wires' moved shelf given taken failures store store' made
  RunsSo options (side.Nbd from) (side.Nbd to) made = ⊥

  pub record FilesRun (options : CopyOptions) (from to : Side) (made : Result Summary FileFault) : Type 0 where
    pub runs : RunsSo options from to made

  pub files_run : (copy : Seen) (options : CopyOptions) (from to : Side) (made : Result Summary FileFault) → AreFileSides from to → copy ≡ record { options = options; from = from; to = to }
      → ((d : Duplication) → Duplicates copy d → DuplicationRuns d wires wires' moved shelf given taken failures store store' made)
      → ((d : Download) → Downloads copy d → DownloadRuns d told faults idles contents wires wires' moved shelf taken failures store store' made)
      → ((u : Upload) → Uploads copy u → UploadRuns u told faults idles contents wires wires' moved shelf given taken failures store store' made)
      → FilesRun options from to made
  files_run copy options (side.File from) (side.File to) made are is between download upload = record { runs = between (record { options = options; from = from; to = to }) is }
  files_run copy options (side.Nbd from) (side.File to) made are is between download upload = record { runs = download (record { options = options; from = from; to = to }) is }
  files_run copy options (side.File from) (side.Nbd to) made are is between download upload = record { runs = upload (record { options = options; from = from; to = to }) is }
  files_run copy options (side.Nbd from) (side.Nbd to) made are is between download upload = absurd are

  duplicate_ends : (d : Duplication) (made : Result Summary FileFault) (end : End) → DuplicationRuns d wires wires' moved shelf given taken failures store store' made → IsEndOf made end
      → DuplicateEnds d (moved store) (moved store') (shelf store) (shelf store') (given store) (given store') (taken store) (taken store') (store' ≡ store) end
  duplicate_ends d (Ok summary) end run is = duplicates.Duplicated summary is run.made
  duplicate_ends d (Err (filing.Copy why)) end run is = duplicates.Lacked_memory (is.1 ∙ ap failed (lacks why is.0 run.causes is.2)) run.stopped
  duplicate_ends d (Err (filing.Store before after)) end run is = duplicates.Store_failed (is.1 ∙ ap failed is.2) run.stopped
  duplicate_ends d (Err (filing.Changed length last)) end run is = duplicates.Source_changed length last (is.1 ∙ ap failed is.2) run.causes (run.changed tt) run.stopped

  download_ends : (d : Download) (made : Result Summary FileFault) (end : End) → DownloadRuns d told faults idles contents wires wires' moved shelf taken failures store store' made → IsEndOf made end
      → DownloadEnds d (told wires) (told wires') (moved store) (moved store') (shelf store) (shelf store') (taken store) (taken store') ((wires' ≡ wires) × (store' ≡ store)) end
  download_ends d (Ok summary) end run is = files.Downloaded summary is run.made
  download_ends d (Err (filing.Copy why)) end run is = files.Source_failed why is.0 is.1 is.2 run.stopped
  download_ends d (Err (filing.Store before after)) end run is = files.Store_failed (is.1 ∙ ap failed is.2) run.stopped
  download_ends d (Err (filing.Changed length last)) end run is = absurd run.causes

  upload_ends : (u : Upload) (made : Result Summary FileFault) (end : End) → UploadRuns u told faults idles contents wires wires' moved shelf given taken failures store store' made → IsEndOf made end
      → UploadEnds u (told wires) (told wires') (moved store) (moved store') (shelf store) (shelf store') (given store) (given store') ((wires' ≡ wires) × (store' ≡ store)) end
  upload_ends u (Ok summary) end run is = files.Uploaded summary is run.made
  upload_ends u (Err (filing.Copy why)) end run is = files.Destination_failed why is.0 is.1 is.2 run.stopped
  upload_ends u (Err (filing.Store before after)) end run is = files.Store_failed (is.1 ∙ ap failed is.2) run.stopped
  upload_ends u (Err (filing.Changed length last)) end run is = files.Source_changed length last (is.1 ∙ ap failed is.2) run.store_cause (run.changed tt) run.stopped

  pub files_end : (options : CopyOptions) (from to : Side) (made : Result Summary FileFault) (end : End) → FilesRun options from to made → IsEndOf made end
      → FilesEnd options from to (told wires) (told wires') (wires' ≡ wires) (moved store) (moved store') (shelf store) (shelf store') (given store) (given store') (taken store) (taken store')
      (store' ≡ store) end
  files_end options (side.File from) (side.File to) made end run is = (duplicate_ends _ made end run.runs is, run.runs.uncalled)
  files_end options (side.Nbd from) (side.File to) made end run is = (download_ends _ made end run.runs is, inl run.runs.conducts)
  files_end options (side.File from) (side.Nbd to) made end run is = (upload_ends _ made end run.runs is, inl run.runs.conducts)
  files_end options (side.Nbd from) (side.Nbd to) made end run is = absurd run.runs

  pub files_known : (options : CopyOptions) (from to : Side) (made : Result Summary FileFault) (end : End) → FilesRun options from to made → IsEndOf made end → is_mixed_status (status_of end) ≡ true
      → is_files_status from to (status_of end) ≡ true
  files_known options (side.Nbd from) to made end run is mixed = mixed
  files_known options (side.File from) (side.Nbd to) made end run is mixed = mixed
  files_known options (side.File from) (side.File to) (Ok summary) end run is mixed = ap (λ (e : End). is_duplicate_status (status_of e)) is
  files_known options (side.File from) (side.File to) (Err (filing.Copy why)) end run is mixed =
      ap (λ (e : End). is_duplicate_status (status_of e)) (is.1 ∙ ap failed (lacks why is.0 run.runs.causes is.2))
  files_known options (side.File from) (side.File to) (Err (filing.Store before after)) end run is mixed = ap (λ (e : End). is_duplicate_status (status_of e)) (is.1 ∙ ap failed is.2)
  files_known options (side.File from) (side.File to) (Err (filing.Changed length last)) end run is mixed = ap (λ (e : End). is_duplicate_status (status_of e)) (is.1 ∙ ap failed is.2)

  -- what stopped the copy has its cause at the wires and at the store, whichever its sides are
  wires_cause : (options : CopyOptions) (from to : Side) (made : Result Summary FileFault) → RunsSo options from to made
      → IfErr made (HasWiresCause (record { faults = faults wires; idles = idles wires }) (faults wires') (idles wires'))
  wires_cause options from to (Ok summary) run = tt
  wires_cause options from to (Err (filing.Store before after)) run = tt
  wires_cause options from to (Err (filing.Changed length last)) run = tt
  wires_cause options (side.Nbd from) (side.File to) (Err (filing.Copy why)) run = run.causes
  wires_cause options (side.File from) (side.Nbd to) (Err (filing.Copy why)) run = run.wires_cause
  wires_cause options (side.Nbd from) (side.Nbd to) (Err (filing.Copy why)) run = absurd run
  wires_cause options (side.File from) (side.File to) (Err (filing.Copy copying.NoMemory)) run = record { shown = tt }
  wires_cause options (side.File from) (side.File to) (Err (filing.Copy (copying.Link before after))) run = absurd run.causes
  wires_cause options (side.File from) (side.File to) (Err (filing.Copy (copying.Broke broken))) run = absurd run.causes
  wires_cause options (side.File from) (side.File to) (Err (filing.Copy (copying.Peer option code))) run = absurd run.causes
  wires_cause options (side.File from) (side.File to) (Err (filing.Copy (copying.Rule rule))) run = absurd run.causes
  wires_cause options (side.File from) (side.File to) (Err (filing.Copy (copying.Silent idles'))) run = absurd run.causes

  store_cause : (options : CopyOptions) (from to : Side) (made : Result Summary FileFault) → RunsSo options from to made → IfErr made (HasStoreCause (failures store) (failures store'))
  store_cause options from to (Ok summary) run = tt
  store_cause options from to (Err (filing.Copy why)) run = tt
  store_cause options (side.Nbd from) (side.File to) (Err (filing.Store before after)) run = run.causes
  store_cause options (side.Nbd from) (side.File to) (Err (filing.Changed length last)) run = absurd run.causes
  store_cause options (side.File from) (side.Nbd to) (Err (filing.Store before after)) run = run.store_cause
  store_cause options (side.File from) (side.Nbd to) (Err (filing.Changed length last)) run = run.store_cause
  store_cause options (side.File from) (side.File to) (Err (filing.Store before after)) run = run.causes
  store_cause options (side.File from) (side.File to) (Err (filing.Changed length last)) run = run.causes
  store_cause options (side.Nbd from) (side.Nbd to) (Err why) run = absurd run

  pub files_link : (options : CopyOptions) (from to : Side) (made : Result Summary FileFault) (end : End) → FilesRun options from to made → IsEndOf made end → end ≡ Err fault.Link
      → Rises 1 (faults wires) (faults wires')
  files_link options from to made end run is = end_link made end _ _ _ (wires_cause options from to made run.runs) is

  pub files_silent : (options : CopyOptions) (from to : Side) (made : Result Summary FileFault) (end : End) → FilesRun options from to made → IsEndOf made end → end ≡ Err fault.Silent
      → Rises patience (idles wires) (idles wires')
  files_silent options from to made end run is = end_silent made end _ _ _ (wires_cause options from to made run.runs) is

  pub files_storing : (options : CopyOptions) (from to : Side) (made : Result Summary FileFault) (end : End) → FilesRun options from to made → IsEndOf made end → end ≡ Err fault.Store
      → Rises 1 (failures store) (failures store')
  files_storing options from to made end run is = end_store made end _ _ (store_cause options from to made run.runs) is

  pub files_well : (options : CopyOptions) (from to : Side) (made : Result Summary FileFault) (end : End) → FilesRun options from to made → IsEndOf made end → HasExport from to
      → OnOk end (¬ Rises 1 (faults wires) (faults wires'))
  files_well options (side.Nbd from) (side.Nbd to) made end run is on = absurd run.runs
  files_well options (side.Nbd from) (side.File to) made end run is on = end_well _ made end is run.runs.well
  files_well options (side.File from) (side.Nbd to) made end run is on = end_well _ made end is run.runs.well
  files_well options (side.File from) (side.File to) made end run is on = absurd on

  pub files_patient : (options : CopyOptions) (from to : Side) (made : Result Summary FileFault) (end : End) → FilesRun options from to made → IsEndOf made end → HasExport from to
      → OnOk end (¬ Rises patience (idles wires) (idles wires'))
  files_patient options (side.Nbd from) (side.Nbd to) made end run is on = absurd run.runs
  files_patient options (side.Nbd from) (side.File to) made end run is on = end_well _ made end is run.runs.patient
  files_patient options (side.File from) (side.Nbd to) made end run is on = end_well _ made end is run.runs.patient
  files_patient options (side.File from) (side.File to) made end run is on = absurd on
