use Rattle.std.proofs.Common.{◌+◌, ap, ◌∙◌, arith, ℕ}
use Rattle.lnbd_conduct.specs.Sides.{is_source}
use Rattle.lnbd_copy.specs.Copier.{Seen}
use Rattle.lnbd_copy.proofs.CauseLemmas.{goes_then}
use Rattle.lnbd_copy.proofs.CopierLemmas.{kept_then, source_more}
use Rattle.lnbd_copy.proofs.PauseLemmas.{unpaused_then}
use Rattle.lnbd_copy.proofs.SideLemmas.{further_source}
use Rattle.lnbd_copy.proofs.ConnectLemmas.{all_made, goes_all, one_fails, one_more}
use Rattle.lnbd_copy.proofs.UnaskedLemmas.{stays_kept, unasked_then}
use Rattle.lnbd_copy.proofs.ConnectedLemmas.{connected_then}
use Rattle.lnbd_copy.proofs.DrivingLemmas.{further_drives, source_further}
use Rattle.lnbd_copy.proofs.GroundLemmas.{handed_on}
use Rattle.lnbd_copy.proofs.MeetLemmas.{further_decides}
use Rattle.lnbd_copy.proofs.PaceLemmas.{untired_then}
use Rattle.lnbd_copy.proofs.copier.Copier.dial_sources.Goals as goal

pub dial_source-requires-clause-few : goal.dial_source-requires-clause-few
dial_source-requires-clause-few g c =
    let many = c.further.invariant.many c.requires.two in
    let less = c.further-test.true in
    let few = c.requires.few in
    omega (arith, many, less, few)

pub further-preserved : goal.further-preserved
further-preserved g c = record {
  kept = kept_then c.args.self.now c.further.self c.dial_source.new.self c.further.invariant.kept c.in_ok-dial_source.ensures.kept;
  many = λ two. c.in_ok-dial_source.ensures.dials.many ∙ ap (λ (n : ℕ). n + 1) (c.further.invariant.many two);
  some = omega arith;
  further = source_more c.args.self.now c.further.self c.dial_source.new.self c.args.sides 2 _ _ _ c.further.invariant.kept c.in_ok-dial_source.ensures.board c.further.invariant.further c.in_ok-dial_source.ensures.dials
      (λ two none. let many = c.further.invariant.many two in absurd (omega (arith, many, none)))
      (λ two. ap (is_source c.args.sides) (c.further.invariant.many two) ∙ further_source c.args.sides c.further.connection c.further.invariant.some c.further-test.true);
  connects = one_more c.args.self.now.from.to c.further.self.from.to c.further.connection _ _ _ _ _ _ (ap (λ (s : Seen). s.from.to) c.further.invariant.kept) c.further.invariant.some c.further.invariant.connects c.in_ok-dial_source.ensures.connects;
  most = let less = c.further-test.true in omega (arith, less);
  unasked = unasked_then _ _ _ _ _ c.further.invariant.unasked (stays_kept c.args.self.now c.further.self _ _ c.further.invariant.kept c.dial_source.ensures.unasked);
  unissued = λ none. c.in_ok-dial_source.ensures.unissued (c.further.invariant.unissued none);
  unpaused = unpaused_then _ _ _ c.further.invariant.unpaused c.dial_source.ensures.unpaused;
  untried = untired_then _ _ _ c.further.invariant.untried c.dial_source.ensures.untried;
  connected = connected_then _ _ _ c.further.invariant.connected c.in_ok-dial_source.ensures.connected;
  counts = goes_then _ _ _ _ _ _ _ _ _ c.further.invariant.counts c.dial_source.ensures.counts;
  calm = c.in_ok-dial_source.ensures.calm;
}

pub returns-clause-connects : goal.returns-clause-connects
returns-clause-connects g c =
    all_made c.args.self.now.from.to c.further.connection c.args.sides.source _ _ _ _ (let end = c.further-test.false in omega (arith, end)) c.further.invariant.most c.further.invariant.connects

pub returns-clause-links : goal.returns-clause-links
returns-clause-links g c =
    goes_all _ _ _ _ _ (all_made c.args.self.now.from.to c.further.connection c.args.sides.source _ _ _ _ (let end = c.further-test.false in omega (arith, end)) c.further.invariant.most c.further.invariant.connects)

pub returns-in_err-dial_source-clause-links : goal.returns-in_err-dial_source-clause-links
returns-in_err-dial_source-clause-links g c =
    one_fails c.args.self.now.from.to c.further.self.from.to c.further.connection c.args.sides.source _ _ _ _ _ _ (ap (λ (s : Seen). s.from.to) c.further.invariant.kept) c.further.invariant.some c.further-test.true c.further.invariant.connects c.in_err-dial_source.ensures.links

pub returns-in_err-dial_source-clause-unasked : goal.returns-in_err-dial_source-clause-unasked
returns-in_err-dial_source-clause-unasked g c = unasked_then _ _ _ _ _ c.further.invariant.unasked (stays_kept c.args.self.now c.further.self _ _ c.further.invariant.kept c.dial_source.ensures.unasked)

pub returns-in_err-dial_source-clause-unpaused : goal.returns-in_err-dial_source-clause-unpaused
returns-in_err-dial_source-clause-unpaused g c = unpaused_then _ _ _ c.further.invariant.unpaused c.dial_source.ensures.unpaused

pub returns-clause-drives : goal.returns-clause-drives
returns-clause-drives g c = further_drives c.args.self.now c.args.sides 2 _ _ _ _ c.further.invariant.further

pub returns-in_err-dial_source-clause-drives : goal.returns-in_err-dial_source-clause-drives
returns-in_err-dial_source-clause-drives g c =
    source_further c.args.self.now c.args.sides 2 c.further.self _ _ c.further.invariant.kept c.further.invariant.further _ c.dial_source.ensures.drives
    (λ two none. let many = c.further.invariant.many two in absurd (omega (arith, many, none)))
    (λ two. ap (is_source c.args.sides) (c.further.invariant.many two) ∙ further_source c.args.sides c.further.connection c.further.invariant.some c.further-test.true)

pub returns-in_err-dial_source-clause-decides : goal.returns-in_err-dial_source-clause-decides
returns-in_err-dial_source-clause-decides g c =
    handed_on _ c.from_residual.result _ c.from_residual.ensures.1
    (further_decides c.args.self.now c.args.sides 2 _ _ _ _ _ _ c.further.invariant.further c.in_err-dial_source.ensures.decides)

pub returns-in_err-dial_source-clause-untried : goal.returns-in_err-dial_source-clause-untried
returns-in_err-dial_source-clause-untried g c = untired_then _ _ _ c.further.invariant.untried c.dial_source.ensures.untried
