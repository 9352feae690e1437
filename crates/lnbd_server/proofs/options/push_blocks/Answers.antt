use Rattle.std.proofs.Common.{◌≡◌, ℕ, List, [], ◌∷◌, ◌++◌, refl, subst}
use Rattle.std.specs.Prelude.{OnOk}
use Rattle.lnbd_records.specs.Numbers.{row}
use Rattle.lnbd_server.specs.Options.{put_reply, blocks}
use Rattle.lnbd_server.proofs.options.push_blocks.Goals as goal

blocks_are : 0 ∷ 3 ∷ 0 ∷ 0 ∷ 0 ∷ 1 ∷ 0 ∷ 0 ∷ 0x10 ∷ 0 ∷ 2 ∷ 0 ∷ 0 ∷ 0 ∷ [] ≡ row blocks
unfolding row
blocks_are = refl

pub returns : goal.returns
returns c = subst (λ (body : List ℕ). OnOk c.push_reply.result (c.push_reply.new.out.items ≡ c.args.bytes.now.items ++ put_reply c.args.option (record { type = 3; body = body }))) blocks_are c.push_reply.ensures
