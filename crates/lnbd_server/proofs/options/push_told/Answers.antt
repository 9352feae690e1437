use Rattle.std.proofs.Common.{◌≡◌, ℕ, List, [], ◌∷◌, ◌++◌, sym, subst, ap, ◌∙◌}
use Rattle.std.specs.Prelude.{OnOk}
use Rattle.lnbd_records.specs.Numbers.{number, row}
use Rattle.lnbd_records.proofs.NumberLaws.{row-one}
use Rattle.lnbd_server.specs.Options.{put_reply}
use Rattle.lnbd_server.proofs.options.push_told.Goals as goal

pub returns : goal.returns
returns c = subst (λ (body : List ℕ). OnOk c.push_reply.result (c.push_reply.new.out.items ≡ c.args.bytes.now.items ++ put_reply c.args.option (record { type = 3; body = body })))
    (ap (λ (xs : List ℕ). xs ++ c.as_bytes.result.now) (c.to_be_bytes-number.ensures ∙ sym (row-one 2 c.args.kind)) ∙ ap (λ (xs : List ℕ). row (number 2 c.args.kind ∷ []) ++ xs) c.as_bytes.ensures.value)
    c.push_reply.ensures
