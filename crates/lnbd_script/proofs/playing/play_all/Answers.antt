use Rattle.std.proofs.Common.{ℕ, subst}
use Rattle.lnbd_script.specs.Scenes.{beginning}
use Rattle.lnbd_script.specs.Steps.{Stands}
use Rattle.lnbd_script.proofs.PlayLemmas.{finished, not_begun, places_few, stopped_early}
use Rattle.lnbd_script.proofs.playing.play_all.Goals as goal

pub returns-in-Err-clause-played : goal.returns-in-Err-clause-played
returns-in-Err-clause-played g c = not_begun _ _ _

pub returns-in-Ok-told-clause-played : goal.returns-in-Ok-told-clause-played
returns-in-Ok-told-clause-played g c = finished c.args.lines.now _ _ _ _ _ _ c.play_lines-told.new.sessions _ c.end_all-sum.result c.play_lines-told.result c.finish.result c.in-Ok-told.is (c.play_lines-told.ensures.played beginning (subst (λ (n : ℕ). Stands beginning c.in-Ok.sessions n) c.idles.ensures c.in-Ok.ensures.stands)) c.end_all-sum.ensures.ends c.finish.ensures.finishes

pub returns-in-Err-told-clause-played : goal.returns-in-Err-told-clause-played
returns-in-Err-told-clause-played g c = stopped_early c.args.lines.now _ _ _ _ _ c.play_lines-told.new.sessions _ c.end_all-sum.result c.end_all-sum.ensures.ends c.play_lines-told.result c.in-Err-told.stop c.in-Err-told.is (c.play_lines-told.ensures.played beginning (subst (λ (n : ℕ). Stands beginning c.in-Ok.sessions n) c.idles.ensures c.in-Ok.ensures.stands))

pub play_lines-told-requires : goal.play_lines-told-requires
play_lines-told-requires g c = record { reached = (beginning, subst (λ (n : ℕ). Stands beginning c.in-Ok.sessions n) c.idles.ensures c.in-Ok.ensures.stands); unread = c.in-Ok.ensures.unread }

pub end_all-sum-requires : goal.end_all-sum-requires
end_all-sum-requires g c = places_few _ _ _ _ _ _ _ _ c.play_lines-told.result (c.play_lines-told.ensures.played beginning (subst (λ (n : ℕ). Stands beginning c.in-Ok.sessions n) c.idles.ensures c.in-Ok.ensures.stands))
