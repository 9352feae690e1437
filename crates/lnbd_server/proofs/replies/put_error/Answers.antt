use Rattle.std.proofs.Common.{◌≡◌, ℕ, List, ◌++◌, subst}
use Rattle.std.specs.Prelude.{OnOk}
use Rattle.lnbd_server.specs.Replies.{put_framed}
use Rattle.lnbd_server.proofs.Frames.{error_payload}
use Rattle.lnbd_server.proofs.replies.put_error.Goals as goal

pub returns-clause-ok : goal.returns-clause-ok
returns-clause-ok c = subst (λ (xs : List ℕ). OnOk c.put_chunk.result (c.put_chunk.new.out ≡ c.args.out.now ++ put_framed c.args.replies c.args.request (record { type = 32769; payload = xs })))
    (error_payload c.args.error c.to_be_bytes-error.result c.to_be_bytes-error.ensures) c.put_chunk.ensures.ok
