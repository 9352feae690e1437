use Rattle.lnbd_plan.proofs.OnceLaws.{planned_once, all_planned_once}
use Rattle.lnbd_plan.proofs.laws.positions_are_planned_once.Goals as goal

pub returns-clause-window : goal.returns-clause-window
returns-clause-window c = planned_once

pub returns-clause-windows : goal.returns-clause-windows
returns-clause-windows c = all_planned_once
