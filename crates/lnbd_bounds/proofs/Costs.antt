-- A phase that follows another costs no more than what may follow the other.
use Rattle.std.proofs.Common.{◌≡◌, ℕ, ◌+◌, ◌*◌, ◌≤◌, ◌<◌, Bool, true, false, not, ◌&&◌, List, arith, ◌==◌, if◌then◌else◌}
use Rattle.std.proofs.Math.Nat.{mul-le-mul_left}
use Rattle.lnbd_history.specs.declared.kinds.Phase.{Phase}
use Rattle.lnbd_history.specs.declared.kinds.Phase.TheVariants.{Greeting, Asked, AskedByName, OptMode, Ready, Refused}
use Rattle.lnbd_history.specs.Agreement.{End, Acknowledged, Failed, is_acknowledged, is_empty, after_structured, after_extended, after_hello, after_go, after_answer}
use Rattle.lnbd_history.specs.Arrivals.{limit}
use Rattle.lnbd_bounds.specs.Budget.{most, request, replies, past_go, past_contexts, past_structured, past_extended, past_hello, past_option, later}

module _ (name : List ℕ) (contexts : List (List ℕ)) (frame frames : ℕ) where
  -- a phase, from its request on
  abbrev pub cost : (count : ℕ) → Phase → ℕ
  cost count p = request name contexts frame frames p + (1 + most frame p + later name contexts frame frames count p)

  pub cost_less : (count : ℕ) (p : Phase) → cost count p ≤ cost 0 p
  cost_less count Greeting = omega arith
  cost_less count (Asked option) = omega arith
  cost_less count AskedByName = omega arith
  cost_less count OptMode = omega arith
  cost_less count Ready = omega arith
  cost_less count (Refused code) = omega arith

  -- one reply more
  pub counted_less : (option count : ℕ) → count < limit option → 1 + most frame (Asked option) + later name contexts frame frames (count + 1) (Asked option) ≤ later name contexts frame frames count (Asked option)
  counted_less option count few = omega arith

  cost_seven : cost 0 (Asked 7) ≤ past_contexts name contexts frame frames
  unfolding past_contexts
  cost_seven = omega arith

  cost_structured : (opt on : Bool) → cost 0 (after_structured opt contexts on) ≤ past_structured name contexts frame frames
  unfolding past_structured past_contexts past_go
  cost_structured true on = omega arith
  cost_structured false on = go (on && not (is_empty contexts))
    where
      go : (b : Bool) → cost 0 (if b then Asked 10 else Asked 7) ≤ past_structured name contexts frame frames
      go true = omega arith
      go false = omega (arith, cost_seven)

  cost_go : (opt : Bool) (end : End) → cost 0 (after_go opt end) ≤ past_go name contexts frame frames
  unfolding past_go
  cost_go opt Acknowledged = omega arith
  cost_go true (Failed code) = omega arith
  cost_go false (Failed code) = go (code == 1)
    where
      go : (b : Bool) → cost 0 (if b then AskedByName else Refused code) ≤ past_go name contexts frame frames
      go true = omega arith
      go false = omega arith

  cost_other : (opt : Bool) → cost 0 (if opt then OptMode else Asked 7) ≤ past_contexts name contexts frame frames
  unfolding past_contexts past_go
  cost_other true = omega arith
  cost_other false = cost_seven

  cost_extended : (structured opt on : Bool) → cost 0 (after_extended structured opt contexts on) ≤ past_extended name contexts frame frames
  unfolding past_extended
  cost_extended structured opt on = go (not on && structured)
    where
      go : (b : Bool) → cost 0 (if b then Asked 8 else after_structured opt contexts on) ≤ past_extended name contexts frame frames
      go true = omega arith
      go false = omega (arith, cost_structured opt on)

  -- the answer to an option ended
  pub answer_less : (structured opt : Bool) (option : ℕ) (end : End) → cost 0 (after_answer structured opt contexts option end) ≤ past_option name contexts frame frames option
  answer_less structured opt option end = go (option == 11) (option == 8) (option == 7)
    where
      go : (a b c : Bool) →
          cost 0 (if a then after_extended structured opt contexts (is_acknowledged end) else if b then after_structured opt contexts (is_acknowledged end) else if c then after_go opt end else if opt then OptMode else Asked 7)
          ≤ (if a then past_extended name contexts frame frames else if b then past_structured name contexts frame frames else if c then past_go name contexts frame frames else past_contexts name contexts frame frames)
      go true b c = cost_extended structured opt (is_acknowledged end)
      go false true c = cost_structured opt (is_acknowledged end)
      go false false true = cost_go opt end
      go false false false = cost_other opt

  pub hello_less : (extended structured opt : Bool) → cost 0 (after_hello extended structured opt contexts) ≤ past_hello name contexts frame frames
  unfolding past_hello
  hello_less true structured opt = omega arith
  hello_less false structured opt = omega (arith, cost_extended structured opt false)

  -- fewer replies may come, and none is longer
  pub command_less : (frame2 frames2 : ℕ) → frame2 ≤ frame → frames2 < frames → 1 + frame2 + replies name contexts frame2 frames2 ≤ replies name contexts frame frames
  command_less frame2 frames2 less fewer =
      let a : frames2 * (1 + frame2) ≤ frames2 * (1 + frame) = mul-le-mul_left frames2 (omega arith) in
      let b : (1 + frame) * (frames2 + 1) ≤ (1 + frame) * frames = mul-le-mul_left (1 + frame) (omega arith) in
      let c : (1 + frame) * (frames2 + 1) ≡ frames2 * (1 + frame) + (1 + frame) = grind arith in
      let d : (1 + frame) * frames ≡ frames * (1 + frame) = grind arith in
      omega (arith, a, b, c, d)
