use Rattle.std.proofs.Common.{◌≡◌, ℕ, List, ◌++◌, sym, subst, ap, ◌∙◌, length-append}
use Rattle.std.specs.Prelude.{OnOk}
use Rattle.lnbd_records.specs.Numbers.{row}
use Rattle.lnbd_records.specs.Transmission.{chunk_head}
use Rattle.lnbd_server.proofs.replies.put_compact.Goals as goal

pub returns-clause-ok : goal.returns-clause-ok
returns-clause-ok c = subst (λ (xs : List ℕ). OnOk c.append.result (c.append.new.self ≡ c.args.out.now ++ xs))
    (ap (λ (h : List ℕ). h ++ (c.args.first.now ++ c.args.second.now)) (c.put_chunk_head.ensures ∙ ap (λ (n : ℕ). row (chunk_head 1 c.args.kind c.args.request.cookie n)) (sym (length-append c.args.first.now c.args.second.now)))) c.append.ensures.ok
