use Rattle.std.proofs.Common.{◌≡◌, ℕ, List, ◌++◌, subst, ◌∙◌, append-nil}
use Rattle.std.specs.Prelude.{OnOk}
use Rattle.lnbd_server.proofs.replies.put_bare.Goals as goal

pub returns-clause-ok : goal.returns-clause-ok
returns-clause-ok c = subst (λ (xs : List ℕ). OnOk c.append.result (c.append.new.self ≡ c.args.out.now ++ xs)) (append-nil c.put_simple.new.out ∙ c.put_simple.ensures) c.append.ensures.ok
