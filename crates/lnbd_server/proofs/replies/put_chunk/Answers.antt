use Rattle.std.proofs.Common.{◌≡◌, ℕ, List, ◌++◌, subst, sym, ◌∙◌}
use Rattle.std.specs.Prelude.{OnOk}
use Rattle.lnbd_server.proofs.Frames.{is_compact, is_long}
use Rattle.lnbd_server.proofs.replies.put_chunk.Goals as goal

pub returns-then-is_extended-clause-ok : goal.returns-then-is_extended-clause-ok
returns-then-is_extended-clause-ok c = subst (λ (xs : List ℕ). OnOk c.put_extended.result (c.put_extended.new.out ≡ c.args.out.now ++ xs))
    (is_long c.args.replies c.args.request (record { type = c.args.kind; payload = c.args.first.now ++ c.args.second.now }) (sym c.is_extended.ensures ∙ c.if-is_extended.true)) c.put_extended.ensures.ok

pub returns-else-is_extended-clause-ok : goal.returns-else-is_extended-clause-ok
returns-else-is_extended-clause-ok c = subst (λ (xs : List ℕ). OnOk c.put_compact.result (c.put_compact.new.out ≡ c.args.out.now ++ xs))
    (is_compact c.args.replies c.args.request (record { type = c.args.kind; payload = c.args.first.now ++ c.args.second.now }) c.requires.framed (sym c.is_extended.ensures ∙ c.if-is_extended.false)) c.put_compact.ensures.ok
