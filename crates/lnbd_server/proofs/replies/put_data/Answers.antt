use Rattle.std.proofs.Common.{◌≡◌, ◌++◌, sym, subst}
use Rattle.std.specs.Prelude.{OnOk}
use Rattle.lnbd_server.specs.Replies.{Chunk, put_framed}
use Rattle.lnbd_server.proofs.Frames.{is_data}
use Rattle.lnbd_server.proofs.replies.put_data.Goals as goal

pub returns-clause-ok : goal.returns-clause-ok
returns-clause-ok c = subst (λ (chunk : Chunk). OnOk c.put_chunk-2.result (c.put_chunk-2.new.out ≡ c.args.out.now ++ put_framed c.args.replies c.args.request chunk))
    (is_data c.args.request.offset c.to_be_bytes-offset.result c.args.content.now (sym c.if-is_empty.ensures) c.to_be_bytes-offset.ensures) c.put_chunk-2.ensures.ok
