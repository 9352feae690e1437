use Rattle.std.proofs.Common.{arith}
use Rattle.std.proofs.lemmas.Option.{slice_get_within}
use Rattle.lnbd_store.proofs.PlaceLemmas.{none_in}
use Rattle.lnbd_store.proofs.files.place.Goals as goal

pub returns-clause-none : goal.returns-clause-none
returns-clause-none c = none_in c.args.path.now c.args.files.now (λ j other e. let l = slice_get_within c.args.files.now j other e in let k = c.files-test.false in c.files.invariant j other (omega (arith, l, k)) e)
