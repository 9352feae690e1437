use Rattle.std.proofs.Common.{[], ◌∷◌}
use Rattle.lnbd_records.specs.Numbers.{number}
use Rattle.lnbd_options.proofs.PutLemmas.{more}
use Rattle.lnbd_options.proofs.put.put_head.Goals as goal

pub returns : goal.returns
returns c = more _ _ _ (number 8 0x49484156454f5054 ∷ number 4 c.args.option ∷ []) (number 4 c.args.length) (more _ _ _ (number 8 0x49484156454f5054 ∷ []) (number 4 c.args.option) c.in_ok-push_u64.ensures.ok c.in_ok-push_u32.ensures.ok) c.in_ok-push_u32-2.ensures.ok
