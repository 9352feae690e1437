use Rattle.std.proofs.Common.{◌≡◌, ◌+◌, ◌-◌, List, Bool, Result, Ok, Err, length, take, drop, ap, sym, ◌∙◌, arith}
use Rattle.std.specs.Prelude.{IfOk}
use Rattle.lnbd_model.specs.declared.export.Extent.{Extent}
use Rattle.lnbd_export.specs.Zeros.{told}
use Rattle.lnbd_export.specs.Export.{Export, flags}
use Rattle.lnbd_export.specs.Statuses.{statuses}
use Rattle.lnbd_export.proofs.PutLaws.{flags_part}
use Rattle.lnbd_export.proofs.export.Export.statuses.Goals as goal

same_if_ok : {T E : Type 0} (r : Result T E) (f : T → List Extent) (xs ys : List Extent) → xs ≡ ys → IfOk r (λ a. f a ≡ xs) → IfOk r (λ a. f a ≡ ys)
same_if_ok (Ok a) f xs ys e is = is ∙ e
same_if_ok (Err e') f xs ys e is = is

pub returns : goal.returns
returns c =
    let same : length c.self.inside.content.items ≡ length c.args.self.now.bytes = ap (λ (x : Export). length x.bytes) c.self.view_is in
    let size : c.args.offset + c.args.length - c.args.offset ≡ c.args.length = omega arith in
    let part : flags (told c.self.inside.zeros) c.args.offset (c.args.offset + c.args.length - c.args.offset) ≡ take c.args.length (drop c.args.offset c.args.self.now.zeros) =
    ap (flags (told c.self.inside.zeros) c.args.offset) size
    ∙ sym (flags_part (told c.self.inside.zeros) c.args.offset c.args.length (length c.self.inside.content.items) (omega arith))
    ∙ ap (λ (x : Export). take c.args.length (drop c.args.offset x.zeros)) c.self.view_is in
    same_if_ok c.statuses.result _ _ _ (ap (λ (bs : List Bool). take c.args.most (statuses bs)) part) c.statuses.ensures
