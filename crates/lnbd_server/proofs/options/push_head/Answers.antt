use Rattle.std.proofs.Common.{[], ◌∷◌}
use Rattle.lnbd_records.specs.Numbers.{number}
use Rattle.lnbd_options.proofs.PutLemmas.{more}
use Rattle.lnbd_server.proofs.options.push_head.Goals as goal

pub returns : goal.returns
returns c =
    more _ _ _ (number 8 0x0003e889045565a9 ∷ number 4 c.args.option ∷ number 4 c.args.kind ∷ []) (number 4 c.args.size)
    (more _ _ _ (number 8 0x0003e889045565a9 ∷ number 4 c.args.option ∷ []) (number 4 c.args.kind)
    (more _ _ _ (number 8 0x0003e889045565a9 ∷ []) (number 4 c.args.option) c.in_ok-push_u64.ensures.ok c.in_ok-push_u32.ensures.ok) c.in_ok-push_u32-2.ensures.ok) c.in_ok-push_u32-3.ensures.ok
