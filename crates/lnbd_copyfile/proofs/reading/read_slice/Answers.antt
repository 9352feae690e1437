use Rattle.std.proofs.Common.{◌≡◌, ℕ, length, take, sym, subst}
use Rattle.lnbd_touched.proofs.GrownLemmas.{done_as, err_as}
use Rattle.lnbd_touched.proofs.PartLemmas.{size_of}
use Rattle.lnbd_copyfile.specs.Steps.{IsSlice}
use Rattle.lnbd_copyfile.proofs.reading.read_slice.Goals as goal

pub returns-clause-moves : goal.returns-clause-moves
returns-clause-moves g c =
    let size : length (take c.args.count c.args.buffer.now) ≡ c.args.count = size_of c.args.count c.args.buffer.now c.requires.room in
    done_as c.read_all.result _ _ (λ moves cell to slice. moves cell to (subst (λ (n : ℕ). IsSlice cell c.args.size c.args.offset n) (sym size) slice)) c.read_all.ensures.moves

pub returns-clause-breaks : goal.returns-clause-breaks
returns-clause-breaks g c =
    let size : length (take c.args.count c.args.buffer.now) ≡ c.args.count = size_of c.args.count c.args.buffer.now c.requires.room in
    err_as c.read_all.result _ _ (λ why breaks cell to slice. breaks cell to (subst (λ (n : ℕ). IsSlice cell c.args.size c.args.offset n) (sym size) slice)) c.read_all.ensures.breaks
