use Rattle.std.proofs.Common.{◌≡◌, ℕ, List, ◌++◌, subst, ap, ◌∙◌, append-nil}
use Rattle.std.specs.Prelude.{OnOk}
use Rattle.lnbd_server.proofs.replies.put_plain.Goals as goal

pub returns-clause-ok : goal.returns-clause-ok
returns-clause-ok c = subst (λ (xs : List ℕ). OnOk c.append.result (c.append.new.self ≡ c.args.out.now ++ xs))
    (ap (λ (h : List ℕ). c.put_simple.new.out ++ h) (append-nil c.args.content.now) ∙ ap (λ (h : List ℕ). h ++ c.args.content.now) c.put_simple.ensures) c.append.ensures.ok
