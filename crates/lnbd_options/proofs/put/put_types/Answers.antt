use Rattle.std.proofs.Common.{[], ◌∷◌}
use Rattle.lnbd_records.specs.Numbers.{number}
use Rattle.lnbd_options.proofs.PutLemmas.{more}
use Rattle.lnbd_options.proofs.put.put_types.Goals as goal

pub returns : goal.returns
returns c = more _ _ _ (number 2 3 ∷ number 2 1 ∷ number 2 2 ∷ []) (number 2 3) (more _ _ _ (number 2 3 ∷ number 2 1 ∷ []) (number 2 2) (more _ _ _ (number 2 3 ∷ []) (number 2 1) c.in_ok-push_u16.ensures.ok c.in_ok-push_u16-2.ensures.ok) c.in_ok-push_u16-3.ensures.ok) c.in_ok-push_u16-4.ensures.ok
