use Rattle.std.proofs.Common.{List, Option, refl, ap, sym, subst, ◌∙◌}
use Rattle.lnbd_link.specs.Call.{Call}
use Rattle.lnbd_asked.specs.Transcript.{dealt_with}
use Rattle.lnbd_plan.specs.declared.options.CopyOptions.{CopyOptions}
use Rattle.lnbd_course.specs.AllDone.{AreAllDone}
use Rattle.lnbd_course.specs.Asks.{GrewBy}
use Rattle.lnbd_course.specs.Flushes.{IsUnflushed, OneFlushes}
use Rattle.lnbd_store.specs.Shelf.{Goes}
use Rattle.lnbd_copyfile.specs.FlushedLast.{FlushesLastFrom}
use Rattle.lnbd_copyfile.specs.FromFile.{HasAskedFrom, HasCopied, HasSummedFrom, IsGivenBy, size_of}
use Rattle.lnbd_copyfile.specs.OneSide.{IsCopiedFrom}
use Rattle.lnbd_copy.specs.declared.counts.Counts.{Counts}
use Rattle.lnbd_copyfile.specs.Conduct.{ConductsFar}
use Rattle.lnbd_copyfile.specs.Connects.{ConnectsAsTold}
use Rattle.lnbd_copyfile.proofs.LinkClauses.{all_connected, conducts, connects_as_told}
use Rattle.lnbd_copyfile.proofs.CopiedLemmas.{copied_asks, copied_done, copied_flushes, copied_holds, copied_summary, copied_sums, copied_unflushed, copied_flushed, copied_flushed_last}
use Rattle.lnbd_copyfile.proofs.from_file.copy_from_file.Goals as goal
use Rattle.lnbd_copyfile.proofs.GivenLemmas.{conducted}
use Rattle.lnbd_copyfile.proofs.ShareFromLemmas.{shares_always, shares_later}
use Rattle.lnbd_copyfile.specs.SharingFrom.{SharesOut}
use Rattle.lnbd_copy.proofs.EndLemmas.{told_part}
use Rattle.lnbd_copyfile.specs.Shown.{FlushesWantedFrom}
use Rattle.lnbd_copyfile.proofs.FromFilePauseLemmas.{full_grew_from}
use Rattle.lnbd_conduct.specs.Told.{Told}
use Rattle.lnbd_copyfile.specs.FromFileFull.{PausesAreFullFrom}

pub returns-in-Ok-clause-from_file : goal.returns-in-Ok-clause-from_file
returns-in-Ok-clause-from_file g c =
    let options = c.args.options in
    let path = c.args.from.now in
    let to = c.args.to.now in
    let summary = c.in-Ok.summary in
    let told = g.W.Wires.told c.args.wires.now in
    let parted = ap g.W.Wires.told (c.end.ensures.parted c.in-Ok.ensures.parted) in
    let copied : HasCopied options path to summary told (g.W.Wires.told c.copy-told.new.wires) (g.S.Store.shelf c.args.store.now) (g.S.Store.shelf c.copy-told.new.store)
    (g.S.Store.given c.args.store.now) (g.S.Store.given c.copy-told.new.store) =
    subst (λ (o : CopyOptions). HasCopied o path to summary told (g.W.Wires.told c.copy-told.new.wires) (g.S.Store.shelf c.args.store.now) (g.S.Store.shelf c.copy-told.new.store)
    (g.S.Store.given c.args.store.now) (g.S.Store.given c.copy-told.new.store)) c.new-copy.ensures.what.0 c.in-Ok.ensures.copies in
    subst (λ (t : Option (List Call)). GrewBy (λ calls. Goes (g.S.Store.shelf c.args.store.now) (g.S.Store.shelf c.copy-told.new.store)
    (IsCopiedFrom path (size_of summary) to options.destination_is_zero calls)) told t) (sym parted) (copied_holds options path to summary told _ _ _ _ _ copied)

pub returns-in-Ok-clause-sums : goal.returns-in-Ok-clause-sums
returns-in-Ok-clause-sums g c =
    let options = c.args.options in
    let path = c.args.from.now in
    let to = c.args.to.now in
    let summary = c.in-Ok.summary in
    let told = g.W.Wires.told c.args.wires.now in
    let parted = ap g.W.Wires.told (c.end.ensures.parted c.in-Ok.ensures.parted) in
    let copied : HasCopied options path to summary told (g.W.Wires.told c.copy-told.new.wires) (g.S.Store.shelf c.args.store.now) (g.S.Store.shelf c.copy-told.new.store)
    (g.S.Store.given c.args.store.now) (g.S.Store.given c.copy-told.new.store) =
    subst (λ (o : CopyOptions). HasCopied o path to summary told (g.W.Wires.told c.copy-told.new.wires) (g.S.Store.shelf c.args.store.now) (g.S.Store.shelf c.copy-told.new.store)
    (g.S.Store.given c.args.store.now) (g.S.Store.given c.copy-told.new.store)) c.new-copy.ensures.what.0 c.in-Ok.ensures.copies in
    subst (λ (t : Option (List Call)). GrewBy (λ calls. IsGivenBy summary (g.S.Store.given c.args.store.now) (g.S.Store.given c.copy-told.new.store)) told t) (sym parted)
    (copied_sums options path to summary told _ _ _ _ _ copied)

pub returns-in-Ok-clause-asks : goal.returns-in-Ok-clause-asks
returns-in-Ok-clause-asks g c =
    let options = c.args.options in
    let path = c.args.from.now in
    let to = c.args.to.now in
    let summary = c.in-Ok.summary in
    let told = g.W.Wires.told c.args.wires.now in
    let parted = ap g.W.Wires.told (c.end.ensures.parted c.in-Ok.ensures.parted) in
    let copied : HasCopied options path to summary told (g.W.Wires.told c.copy-told.new.wires) (g.S.Store.shelf c.args.store.now) (g.S.Store.shelf c.copy-told.new.store)
    (g.S.Store.given c.args.store.now) (g.S.Store.given c.copy-told.new.store) =
    subst (λ (o : CopyOptions). HasCopied o path to summary told (g.W.Wires.told c.copy-told.new.wires) (g.S.Store.shelf c.args.store.now) (g.S.Store.shelf c.copy-told.new.store)
    (g.S.Store.given c.args.store.now) (g.S.Store.given c.copy-told.new.store)) c.new-copy.ensures.what.0 c.in-Ok.ensures.copies in
    subst (λ (t : Option (List Call)). GrewBy (HasAskedFrom options (size_of summary) to) told t) (sym parted) (copied_asks options path to summary told _ _ _ _ _ copied)

pub returns-in-Ok-clause-summary : goal.returns-in-Ok-clause-summary
returns-in-Ok-clause-summary g c =
    let options = c.args.options in
    let path = c.args.from.now in
    let to = c.args.to.now in
    let summary = c.in-Ok.summary in
    let told = g.W.Wires.told c.args.wires.now in
    let parted = ap g.W.Wires.told (c.end.ensures.parted c.in-Ok.ensures.parted) in
    let copied : HasCopied options path to summary told (g.W.Wires.told c.copy-told.new.wires) (g.S.Store.shelf c.args.store.now) (g.S.Store.shelf c.copy-told.new.store)
    (g.S.Store.given c.args.store.now) (g.S.Store.given c.copy-told.new.store) =
    subst (λ (o : CopyOptions). HasCopied o path to summary told (g.W.Wires.told c.copy-told.new.wires) (g.S.Store.shelf c.args.store.now) (g.S.Store.shelf c.copy-told.new.store)
    (g.S.Store.given c.args.store.now) (g.S.Store.given c.copy-told.new.store)) c.new-copy.ensures.what.0 c.in-Ok.ensures.copies in
    subst (λ (t : Option (List Call)). GrewBy (HasSummedFrom summary to) told t) (sym parted) (copied_summary options path to summary told _ _ _ _ _ copied)

pub returns-in-Ok-clause-done : goal.returns-in-Ok-clause-done
returns-in-Ok-clause-done g c =
    let options = c.args.options in
    let path = c.args.from.now in
    let to = c.args.to.now in
    let summary = c.in-Ok.summary in
    let told = g.W.Wires.told c.args.wires.now in
    let parted = ap g.W.Wires.told (c.end.ensures.parted c.in-Ok.ensures.parted) in
    let copied : HasCopied options path to summary told (g.W.Wires.told c.copy-told.new.wires) (g.S.Store.shelf c.args.store.now) (g.S.Store.shelf c.copy-told.new.store)
    (g.S.Store.given c.args.store.now) (g.S.Store.given c.copy-told.new.store) =
    subst (λ (o : CopyOptions). HasCopied o path to summary told (g.W.Wires.told c.copy-told.new.wires) (g.S.Store.shelf c.args.store.now) (g.S.Store.shelf c.copy-told.new.store)
    (g.S.Store.given c.args.store.now) (g.S.Store.given c.copy-told.new.store)) c.new-copy.ensures.what.0 c.in-Ok.ensures.copies in
    subst (λ (t : Option (List Call)). GrewBy (λ calls. AreAllDone (dealt_with to calls)) told t) (sym parted) (copied_done options path to summary told _ _ _ _ _ copied)

pub returns-in-Ok-clause-flushed : goal.returns-in-Ok-clause-flushed
returns-in-Ok-clause-flushed g c =
    let options = c.args.options in
    let path = c.args.from.now in
    let to = c.args.to.now in
    let summary = c.in-Ok.summary in
    let told = g.W.Wires.told c.args.wires.now in
    let parted = ap g.W.Wires.told (c.end.ensures.parted c.in-Ok.ensures.parted) in
    let copied : HasCopied options path to summary told (g.W.Wires.told c.copy-told.new.wires) (g.S.Store.shelf c.args.store.now) (g.S.Store.shelf c.copy-told.new.store)
    (g.S.Store.given c.args.store.now) (g.S.Store.given c.copy-told.new.store) =
    subst (λ (o : CopyOptions). HasCopied o path to summary told (g.W.Wires.told c.copy-told.new.wires) (g.S.Store.shelf c.args.store.now) (g.S.Store.shelf c.copy-told.new.store)
    (g.S.Store.given c.args.store.now) (g.S.Store.given c.copy-told.new.store)) c.new-copy.ensures.what.0 c.in-Ok.ensures.copies in
    subst (λ (t : Option (List Call)). GrewBy (FlushesWantedFrom options (size_of summary) to) told t) (sym parted) (copied_flushed options path to summary told _ _ _ _ _ copied)

pub returns-in-Ok-clause-flushes : goal.returns-in-Ok-clause-flushes
returns-in-Ok-clause-flushes g c =
    let options = c.args.options in
    let path = c.args.from.now in
    let to = c.args.to.now in
    let summary = c.in-Ok.summary in
    let told = g.W.Wires.told c.args.wires.now in
    let parted = ap g.W.Wires.told (c.end.ensures.parted c.in-Ok.ensures.parted) in
    let copied : HasCopied options path to summary told (g.W.Wires.told c.copy-told.new.wires) (g.S.Store.shelf c.args.store.now) (g.S.Store.shelf c.copy-told.new.store)
    (g.S.Store.given c.args.store.now) (g.S.Store.given c.copy-told.new.store) =
    subst (λ (o : CopyOptions). HasCopied o path to summary told (g.W.Wires.told c.copy-told.new.wires) (g.S.Store.shelf c.args.store.now) (g.S.Store.shelf c.copy-told.new.store)
    (g.S.Store.given c.args.store.now) (g.S.Store.given c.copy-told.new.store)) c.new-copy.ensures.what.0 c.in-Ok.ensures.copies in
    subst (λ (t : Option (List Call)). GrewBy (λ calls. OneFlushes (dealt_with to calls)) told t) (sym parted) (copied_flushes options path to summary told _ _ _ _ _ copied)

pub returns-in-Ok-clause-unflushed : goal.returns-in-Ok-clause-unflushed
returns-in-Ok-clause-unflushed g c = λ off.
    let options = c.args.options in
    let path = c.args.from.now in
    let to = c.args.to.now in
    let summary = c.in-Ok.summary in
    let told = g.W.Wires.told c.args.wires.now in
    let parted = ap g.W.Wires.told (c.end.ensures.parted c.in-Ok.ensures.parted) in
    let copied : HasCopied options path to summary told (g.W.Wires.told c.copy-told.new.wires) (g.S.Store.shelf c.args.store.now) (g.S.Store.shelf c.copy-told.new.store)
    (g.S.Store.given c.args.store.now) (g.S.Store.given c.copy-told.new.store) =
    subst (λ (o : CopyOptions). HasCopied o path to summary told (g.W.Wires.told c.copy-told.new.wires) (g.S.Store.shelf c.args.store.now) (g.S.Store.shelf c.copy-told.new.store)
    (g.S.Store.given c.args.store.now) (g.S.Store.given c.copy-told.new.store)) c.new-copy.ensures.what.0 c.in-Ok.ensures.copies in
    subst (λ (t : Option (List Call)). GrewBy (IsUnflushed to) told t) (sym parted) (copied_unflushed options path to summary told _ _ _ _ _ copied off)

pub returns-in-Ok-clause-shares : goal.returns-in-Ok-clause-shares
returns-in-Ok-clause-shares g c =
    told_part _ _ (shares_always c.args.options c.args.to.now _ _ (shares_later c.args.options c.args.to.now _ _ _ c.end.ensures.idly
    (subst (λ (o : CopyOptions). SharesOut o c.args.to.now (g.W.Wires.told c.args.wires.now) (g.W.Wires.told c.copy-told.new.wires)) c.new-copy.ensures.what.0 c.copy-told.ensures.shares)))

pub returns-in-Err-clause-shares : goal.returns-in-Err-clause-shares
returns-in-Err-clause-shares g c =
    told_part _ _ (shares_always c.args.options c.args.to.now _ _ (shares_later c.args.options c.args.to.now _ _ _ c.end.ensures.idly
    (subst (λ (o : CopyOptions). SharesOut o c.args.to.now (g.W.Wires.told c.args.wires.now) (g.W.Wires.told c.copy-told.new.wires)) c.new-copy.ensures.what.0 c.copy-told.ensures.shares)))

pub returns-in-Ok-clause-conducts : goal.returns-in-Ok-clause-conducts
returns-in-Ok-clause-conducts g c =
    subst (λ (o : CopyOptions). GrewBy (ConductsFar o c.args.to.now) (g.W.Wires.told c.args.wires.now) (g.W.Wires.told c.end.new.wires)) c.new-copy.ensures.what.0
    (conducts _ _ _ _ _ _ _ _ _ _ _ _ c.new-copy.ensures.begun.held refl (ap (λ (s : Counts). s.idles) (c.new-copy.ensures.what.1 ∙ c.of.ensures)) c.copy-told.ensures.within
    (c.end.ensures.uses 0).links c.end.ensures.unpaused c.end.ensures.counts.idles)

pub returns-in-Ok-clause-behaves : goal.returns-in-Ok-clause-behaves
returns-in-Ok-clause-behaves g c =
    conducted c.args.options _ c.args.from.now c.args.to.now _ _ _ _ _ _ c.new-copy.ensures.what.0 c.end.ensures.idly (λ none. ap g.W.Wires.told (c.end.ensures.parted none))
    c.copy-told.ensures.conducts

pub returns-in-Err-clause-conducts : goal.returns-in-Err-clause-conducts
returns-in-Err-clause-conducts g c =
    subst (λ (o : CopyOptions). GrewBy (ConductsFar o c.args.to.now) (g.W.Wires.told c.args.wires.now) (g.W.Wires.told c.end.new.wires)) c.new-copy.ensures.what.0
    (conducts _ _ _ _ _ _ _ _ _ _ _ _ c.new-copy.ensures.begun.held refl (ap (λ (s : Counts). s.idles) (c.new-copy.ensures.what.1 ∙ c.of.ensures)) c.copy-told.ensures.within
    (c.end.ensures.uses 0).links c.end.ensures.unpaused c.end.ensures.counts.idles)

pub returns-in-Err-clause-behaves : goal.returns-in-Err-clause-behaves
returns-in-Err-clause-behaves g c =
    conducted c.args.options _ c.args.from.now c.args.to.now _ _ _ _ _ _ c.new-copy.ensures.what.0 c.end.ensures.idly (λ none. ap g.W.Wires.told (c.end.ensures.parted none))
    c.copy-told.ensures.conducts

pub returns-in-Ok-clause-connects : goal.returns-in-Ok-clause-connects
returns-in-Ok-clause-connects g c =
    subst (λ (o : CopyOptions). GrewBy (ConnectsAsTold o c.args.to.now) (g.W.Wires.told c.args.wires.now) (g.W.Wires.told c.end.new.wires)) c.new-copy.ensures.what.0
    (connects_as_told _ _ _ _ _ _ _ _ _ _ _ c.in-Ok.ensures.connects (c.end.ensures.uses 0).links)

pub returns-in-Ok-clause-connected : goal.returns-in-Ok-clause-connected
returns-in-Ok-clause-connected g c = all_connected _ _ _ _ _ _ _ _ _ _ _ c.in-Ok.ensures.connects (c.end.ensures.uses 0).links

pub returns-in-Ok-clause-full : goal.returns-in-Ok-clause-full
returns-in-Ok-clause-full g c =
    full_grew_from c.args.options c.args.to.now _ _ _
    (subst (λ (o : CopyOptions). Told (g.W.Wires.told c.args.wires.now) (g.W.Wires.told c.copy-told.new.wires) (PausesAreFullFrom o c.args.to.now)) c.new-copy.ensures.what.0 c.copy-told.ensures.full)
    c.end.ensures.unpaused

pub returns-in-Err-clause-full : goal.returns-in-Err-clause-full
returns-in-Err-clause-full g c =
    full_grew_from c.args.options c.args.to.now _ _ _
    (subst (λ (o : CopyOptions). Told (g.W.Wires.told c.args.wires.now) (g.W.Wires.told c.copy-told.new.wires) (PausesAreFullFrom o c.args.to.now)) c.new-copy.ensures.what.0 c.copy-told.ensures.full)
    c.end.ensures.unpaused

pub returns-in-Ok-clause-flushed_last : goal.returns-in-Ok-clause-flushed_last
returns-in-Ok-clause-flushed_last g c =
    let options = c.args.options in
    let path = c.args.from.now in
    let to = c.args.to.now in
    let summary = c.in-Ok.summary in
    let told = g.W.Wires.told c.args.wires.now in
    let parted = ap g.W.Wires.told (c.end.ensures.parted c.in-Ok.ensures.parted) in
    let copied : HasCopied options path to summary told (g.W.Wires.told c.copy-told.new.wires) (g.S.Store.shelf c.args.store.now) (g.S.Store.shelf c.copy-told.new.store)
    (g.S.Store.given c.args.store.now) (g.S.Store.given c.copy-told.new.store) =
    subst (λ (o : CopyOptions). HasCopied o path to summary told (g.W.Wires.told c.copy-told.new.wires) (g.S.Store.shelf c.args.store.now) (g.S.Store.shelf c.copy-told.new.store)
    (g.S.Store.given c.args.store.now) (g.S.Store.given c.copy-told.new.store)) c.new-copy.ensures.what.0 c.in-Ok.ensures.copies in
    subst (λ (t : Option (List Call)). GrewBy (FlushesLastFrom (size_of summary) to summary) told t) (sym parted) (copied_flushed_last options path to summary told _ _ _ _ _ copied)
