use Rattle.std.proofs.Common.{◌≡◌, ℕ, List, [], ◌∷◌, ◌++◌, refl, ap, ◌∙◌}
use Rattle.lnbd_records.specs.Numbers.{number, row}
use Rattle.lnbd_server.specs.Options.{put_reply, allocation_told, acknowledged, allocation_name}
use Rattle.lnbd_server.proofs.Answering.{two_replies}
use Rattle.lnbd_server.proofs.options.allocated.Goals as goal

id_bytes : 0 ∷ 0 ∷ 0 ∷ 1 ∷ [] ≡ row (number 4 1 ∷ [])
unfolding row
id_bytes = refl

pub returns : goal.returns
returns c = two_replies c.args.option allocation_told acknowledged _ _ _ c.new-bytes.ensures.items
    (c.in_ok-push_reply.ensures ∙ ap (λ (xs : List ℕ). c.new-bytes.result.items ++ put_reply c.args.option (record { type = 4; body = (0 ∷ 0 ∷ 0 ∷ 1 ∷ []) ++ xs })) c.as_bytes.ensures.value
    ∙ ap (λ (xs : List ℕ). c.new-bytes.result.items ++ put_reply c.args.option (record { type = 4; body = xs ++ allocation_name })) id_bytes)
    c.in_ok-push_reply-2.ensures
