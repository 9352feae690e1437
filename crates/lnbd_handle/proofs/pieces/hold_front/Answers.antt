use Rattle.std.proofs.Common.{◌≡◌, ℕ, ◌-◌, ◌≤◌, ◌++◌, [], length, take, cond, refl, sym, ap, subst, ◌∙◌, arith}
use Rattle.lnbd_handle.specs.declared.kinds.Turn.TheVariants as turn
use Rattle.lnbd_handle.specs.Runs.{Runs}
use Rattle.lnbd_handle.specs.Seen.{machine_of}
use Rattle.lnbd_handle.specs.Turns.{arriving, TurnMeans}
use Rattle.lnbd_handle.proofs.DrainLemmas.{past, past_within, past_runs, all_runs, held_runs}
use Rattle.lnbd_handle.proofs.pieces.hold_front.Goals as goal

pub overflow_sub-result : goal.overflow_sub-result
overflow_sub-result g c =
    let old = c.args.connection.now in
    let held = c.args.head.now.items in
    let front = c.args.front.now in
    let all = c.extend_from_slice.new.self.items in
    let joined : all ≡ held ++ front = c.extend_from_slice.ensures.items ∙ ap (λ b. cond b (held ++ front) held) c.if-is_err.ensures.negation in
    let means = subst (λ b. TurnMeans g.K.Caller.steps old c.args.world.now b (turn.Took c.in-Took.n) c.turn.new.connection c.turn.new.world) c.deref.ensures.value c.in-Took.ensures.means in
    subst (λ n. n ≤ c.in-Took.n) (sym (c.len-before.ensures ∙ c.args.head.now.ok.0))
    (past g.K.Caller.steps g.met.K.Caller.empty g.met.K.Caller.append old held c.requires.partial (machine_of c.turn.new.connection []) c.args.world.now c.turn.new.world c.in-Took.n all front joined means.0 means.1 refl means.2)

pub returns-in-Nothing-clause-means : goal.returns-in-Nothing-clause-means
returns-in-Nothing-clause-means g c =
    let old = c.args.connection.now in
    let held = c.args.head.now.items in
    let front = c.args.front.now in
    let all = c.extend_from_slice.new.self.items in
    let joined : all ≡ held ++ front = c.extend_from_slice.ensures.items ∙ ap (λ b. cond b (held ++ front) held) c.if-is_err.ensures.negation in
    let means = subst (λ b. TurnMeans g.K.Caller.steps old c.args.world.now b (turn.Nothing c.in-Nothing.told) c.turn.new.connection c.turn.new.world) c.deref.ensures.value c.in-Nothing.ensures.means in
    (held_runs g.K.Caller.steps g.met.K.Caller.empty g.met.K.Caller.append old held c.requires.partial c.turn.new.connection c.args.world.now c.turn.new.world all front means.0 means.1 joined means.2, means.2)

pub returns-in-Nothing-clause-told : goal.returns-in-Nothing-clause-told
returns-in-Nothing-clause-told g c more =
    let old = c.args.connection.now in
    let means = subst (λ b. TurnMeans g.K.Caller.steps old c.args.world.now b (turn.Nothing c.in-Nothing.told) c.turn.new.connection c.turn.new.world) c.deref.ensures.value c.in-Nothing.ensures.means in
    means.3

pub returns-in-Nothing-clause-joined : goal.returns-in-Nothing-clause-joined
returns-in-Nothing-clause-joined g c more = c.extend_from_slice.ensures.items ∙ ap (λ b. cond b (c.args.head.now.items ++ c.args.front.now) c.args.head.now.items) c.if-is_err.ensures.negation

pub returns-in-All-clause-means : goal.returns-in-All-clause-means
returns-in-All-clause-means g c =
    let old = c.args.connection.now in
    let held = c.args.head.now.items in
    let front = c.args.front.now in
    let all = c.extend_from_slice.new.self.items in
    let joined : all ≡ held ++ front = c.extend_from_slice.ensures.items ∙ ap (λ b. cond b (held ++ front) held) c.if-is_err.ensures.negation in
    let means = subst (λ b. TurnMeans g.K.Caller.steps old c.args.world.now b turn.All c.turn.new.connection c.turn.new.world) c.deref.ensures.value c.in-All.ensures.means in
    (omega arith, all_runs g.K.Caller.steps g.met.K.Caller.empty g.met.K.Caller.append old held c.requires.partial (machine_of c.turn.new.connection []) c.args.world.now c.turn.new.world all front joined means, c.clear.ensures.items)

pub returns-in-Took-clause-means : goal.returns-in-Took-clause-means
returns-in-Took-clause-means g c =
    let old = c.args.connection.now in
    let held = c.args.head.now.items in
    let front = c.args.front.now in
    let all = c.extend_from_slice.new.self.items in
    let joined : all ≡ held ++ front = c.extend_from_slice.ensures.items ∙ ap (λ b. cond b (held ++ front) held) c.if-is_err.ensures.negation in
    let means = subst (λ b. TurnMeans g.K.Caller.steps old c.args.world.now b (turn.Took c.in-Took.n) c.turn.new.connection c.turn.new.world) c.deref.ensures.value c.in-Took.ensures.means in
    let new = machine_of c.turn.new.connection [] in
    subst (λ (k : ℕ). (c.in-Took.n - k ≤ length front) × Runs g.K.Caller.steps (arriving (take (c.in-Took.n - k) front)) (machine_of old held) new c.args.world.now c.turn.new.world × (c.clear-in-Took.new.self.items ≡ []))
    (sym (c.len-before.ensures ∙ c.args.head.now.ok.0)) (
      past_within g.K.Caller.steps g.met.K.Caller.empty g.met.K.Caller.append old held c.requires.partial new c.args.world.now c.turn.new.world c.in-Took.n all front joined means.0 means.1 refl means.2,
      past_runs g.K.Caller.steps g.met.K.Caller.empty g.met.K.Caller.append old held c.requires.partial new c.args.world.now c.turn.new.world c.in-Took.n all front joined means.0 means.1 refl means.2,
      c.clear-in-Took.ensures.items,
    )
