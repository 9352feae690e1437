use Rattle.std.proofs.Common.{length, slice_set, ap, refl}
use Rattle.std.proofs.lemmas.Result.{on_ok_weaker}
use Rattle.std.proofs.lemmas.Option.{slice_get_read}
use Rattle.lnbd_store.specs.Bytes.{put_at}
use Rattle.lnbd_store.proofs.PlaceLemmas.{is_put}
use Rattle.lnbd_store.proofs.files.put.Goals as goal

pub returns-clause-ok : goal.returns-clause-ok
returns-clause-ok c = on_ok_weaker c.put.result (λ e path k. is_put path (put_at c.args.offset c.args.from.now) c.args.files.now.items (slice_set c.args.files.now.items c.args.i c.put.new.self) c.args.i c.index_mut.result.now k
    (slice_get_read c.args.files.now.items (length c.args.files.now.items) c.args.i c.index_mut.result.now refl c.requires c.index_mut.ensures.value) (ap (λ x. slice_set c.args.files.now.items c.args.i x) e)) c.put.ensures.ok
