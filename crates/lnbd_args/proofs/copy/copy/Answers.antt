use Rattle.std.proofs.Common.{◌∷◌, codes, map, string_bytes, sym, subst}
use Rattle.lnbd_args.specs.declared.asked.Asked.{Asked}
use Rattle.lnbd_args.specs.Tools.{Asks}
use Rattle.lnbd_args.proofs.SideLemmas.{copy_asked, destination_misplaced, source_misplaced}
use Rattle.lnbd_args.proofs.ToolLemmas.{handed_on}
use Rattle.lnbd_args.proofs.copy.copy.Goals as goal

pub returns-in_err-from-clause-address : goal.returns-in_err-from-clause-address
returns-in_err-from-clause-address c fault is =
    let w = c.in_ok-options in
    source_misplaced (codes "nbdcopy" ∷ map string_bytes c.args.words.now) w.options w.first.now w.second.now w.ensures.reads c.in_err-from.field-0.0 fault
    c.in_err-from.ensures.fault c.in_err-from.ensures.no_address (handed_on c.from_residual-in_err-from.result _ _ c.from_residual-in_err-from.ensures.1 is)

pub returns-in_err-to-clause-address : goal.returns-in_err-to-clause-address
returns-in_err-to-clause-address c fault is =
    let w = c.in_ok-options in
    destination_misplaced (codes "nbdcopy" ∷ map string_bytes c.args.words.now) w.options w.first.now w.second.now w.ensures.reads c.in_ok-from.from c.in_err-to.field-0.0 fault
    c.in_ok-from.ensures.side c.in_err-to.ensures.fault c.in_err-to.ensures.no_address (handed_on c.from_residual-in_err-to.result _ _ c.from_residual-in_err-to.ensures.1 is)

pub returns-clause-asked : goal.returns-clause-asked
returns-clause-asked c =
    let words = codes "nbdcopy" ∷ map string_bytes c.args.words.now in
    let w = c.in_ok-options in
    subst (λ (a : Asked). Asks words a) (sym c.asked_of.ensures)
    (copy_asked words w.options w.first.now w.second.now w.ensures.reads c.in_ok-from.from c.in_ok-to.to c.in_ok-from.ensures.side c.in_ok-to.ensures.side)
