use Rattle.std.proofs.Common.{◌≡◌, ℕ, List, take, drop, true, false, sym, subst, ◌∙◌, arith}
use Rattle.lnbd_stream.specs.Stream.{feed}
use Rattle.lnbd_server.specs.declared.stage.Offers.{Offers}
use Rattle.lnbd_server.specs.Session.{rules, with_export, is_closed}
use Rattle.lnbd_server.proofs.Takes.{step_more, all_taken, takes}
use Rattle.lnbd_server.proofs.session.Session.take_all.Goals as goal

pub loop-taken-preserved : goal.loop-taken-preserved
loop-taken-preserved c = record {
  within = omega (arith, c.in-Ok.ensures.count, c.split_at.ensures.back_len);
  fed = step_more c.args.self.now.offers (with_export c.args.self.now.dialogue c.args.export.now) (with_export c.loop-taken.self-inside.dialogue c.loop-taken.export) (with_export c.step.new.self c.step.new.export)
      c.args.bytes.now c.loop-taken.taken c.in-Ok.n c.loop-taken.invariant.fed
      (subst (λ (o : Offers). feed (rules o) (with_export c.loop-taken.self-inside.dialogue c.loop-taken.export) (take c.in-Ok.n (drop c.loop-taken.taken c.args.bytes.now)) ≡ with_export c.step.new.self c.step.new.export)
      c.loop-taken.invariant.same
      (subst (λ (xs : List ℕ). feed (rules c.loop-taken.self-inside.offers) (with_export c.loop-taken.self-inside.dialogue c.loop-taken.export) (take c.in-Ok.n xs) ≡ with_export c.step.new.self c.step.new.export)
      c.split_at.ensures.back c.in-Ok.ensures.ok));
  same = c.loop-taken.invariant.same;
  count = c.loop-taken.invariant.count;
}

pub returns-then-is_closed : goal.returns-then-is_closed
returns-then-is_closed c =
    let closed : is_closed c.loop-taken.self-inside.dialogue.stage ≡ true = sym c.if-is_closed.ensures.closed in (
      takes c.args.self.now _ c.args.export.now c.loop-taken.export c.args.bytes.now c.requires
          (all_taken c.args.self.now.offers (with_export c.args.self.now.dialogue c.args.export.now) c.args.bytes.now c.loop-taken.taken c.loop-taken.self-inside.dialogue c.loop-taken.export c.loop-taken.invariant.fed
          (c.is_closed-2.ensures.none closed) closed)
          (λ e. let no : true ≡ false = sym closed ∙ e in cc) c.loop-taken.invariant.same,
      closed,
    )
