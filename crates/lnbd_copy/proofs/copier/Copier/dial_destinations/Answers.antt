use Rattle.std.proofs.Common.{◌+◌, ap, length, arith}
use Rattle.lnbd_copy.specs.Copier.{Seen}
use Rattle.lnbd_copy.proofs.CauseLemmas.{goes_then}
use Rattle.lnbd_copy.proofs.CopierLemmas.{destination_more, kept_then}
use Rattle.lnbd_copy.proofs.PauseLemmas.{unpaused_then}
use Rattle.lnbd_copy.proofs.SideLemmas.{behind_source}
use Rattle.lnbd_copy.proofs.ConnectLemmas.{all_made, goes_all, one_fails, one_more}
use Rattle.lnbd_copy.proofs.UnaskedLemmas.{stays_kept, unasked_then}
use Rattle.lnbd_copy.proofs.ConnectedLemmas.{connected_then}
use Rattle.lnbd_copy.proofs.DrivingLemmas.{destination_further, further_drives}
use Rattle.lnbd_copy.proofs.GroundLemmas.{handed_on}
use Rattle.lnbd_copy.proofs.MeetLemmas.{further_decides}
use Rattle.lnbd_copy.proofs.PaceLemmas.{untired_then}
use Rattle.lnbd_copy.proofs.copier.Copier.dial_destinations.Goals as goal

pub dial_destination-requires-clause-few : goal.dial_destination-requires-clause-few
dial_destination-requires-clause-few g c =
    let many = c.further.invariant.many in
    let less = c.further-test.true in
    let few = c.requires.few in
    omega (arith, many, less, few)

pub further-preserved : goal.further-preserved
further-preserved g c = record {
  kept = kept_then c.args.self.now c.further.self c.dial_destination.new.self c.further.invariant.kept c.in_ok-dial_destination.ensures.kept;
  more = let many = c.in_ok-dial_destination.ensures.dials.many in let more = c.further.invariant.more in omega (arith, many, more);
  many = let added = c.in_ok-dial_destination.ensures.dials.many in let many = c.further.invariant.many in omega (arith, added, many);
  further = destination_more c.args.self.now c.further.self c.dial_destination.new.self c.args.sides (c.args.sides.source + 1) _ _ _ c.further.invariant.kept c.in_ok-dial_destination.ensures.board c.further.invariant.further c.in_ok-dial_destination.ensures.dials
      (λ count none. let more = c.further.invariant.more in absurd (omega (arith, count, more, none)))
      (λ count. behind_source c.args.sides (length c.further.self.held) (let more = c.further.invariant.more in omega (arith, count, more)));
  some = omega arith;
  connects = one_more c.args.self.now.to.to c.further.self.to.to c.further.connection _ _ _ _ _ _ (ap (λ (s : Seen). s.to.to) c.further.invariant.kept) c.further.invariant.some c.further.invariant.connects c.in_ok-dial_destination.ensures.connects;
  most = let less = c.further-test.true in omega (arith, less);
  unasked = unasked_then _ _ _ _ _ c.further.invariant.unasked (stays_kept c.args.self.now c.further.self _ _ c.further.invariant.kept c.dial_destination.ensures.unasked);
  unissued = λ none. c.in_ok-dial_destination.ensures.unissued (c.further.invariant.unissued none);
  unpaused = unpaused_then _ _ _ c.further.invariant.unpaused c.dial_destination.ensures.unpaused;
  untried = untired_then _ _ _ c.further.invariant.untried c.dial_destination.ensures.untried;
  connected = connected_then _ _ _ c.further.invariant.connected c.in_ok-dial_destination.ensures.connected;
  counts = goes_then _ _ _ _ _ _ _ _ _ c.further.invariant.counts c.dial_destination.ensures.counts;
  calm = c.in_ok-dial_destination.ensures.calm;
}

pub returns-clause-connects : goal.returns-clause-connects
returns-clause-connects g c =
    all_made c.args.self.now.to.to c.further.connection c.args.sides.destination _ _ _ _ (let end = c.further-test.false in omega (arith, end)) c.further.invariant.most c.further.invariant.connects

pub returns-clause-links : goal.returns-clause-links
returns-clause-links g c =
    goes_all _ _ _ _ _ (all_made c.args.self.now.to.to c.further.connection c.args.sides.destination _ _ _ _ (let end = c.further-test.false in omega (arith, end)) c.further.invariant.most c.further.invariant.connects)

pub returns-in_err-dial_destination-clause-links : goal.returns-in_err-dial_destination-clause-links
returns-in_err-dial_destination-clause-links g c =
    one_fails c.args.self.now.to.to c.further.self.to.to c.further.connection c.args.sides.destination _ _ _ _ _ _ (ap (λ (s : Seen). s.to.to) c.further.invariant.kept) c.further.invariant.some c.further-test.true c.further.invariant.connects c.in_err-dial_destination.ensures.links

pub returns-in_err-dial_destination-clause-unasked : goal.returns-in_err-dial_destination-clause-unasked
returns-in_err-dial_destination-clause-unasked g c = unasked_then _ _ _ _ _ c.further.invariant.unasked (stays_kept c.args.self.now c.further.self _ _ c.further.invariant.kept c.dial_destination.ensures.unasked)

pub returns-in_err-dial_destination-clause-unpaused : goal.returns-in_err-dial_destination-clause-unpaused
returns-in_err-dial_destination-clause-unpaused g c = unpaused_then _ _ _ c.further.invariant.unpaused c.dial_destination.ensures.unpaused

pub returns-clause-drives : goal.returns-clause-drives
returns-clause-drives g c = further_drives c.args.self.now c.args.sides (c.args.sides.source + 1) _ _ _ _ c.further.invariant.further

pub returns-in_err-dial_destination-clause-drives : goal.returns-in_err-dial_destination-clause-drives
returns-in_err-dial_destination-clause-drives g c =
    destination_further c.args.self.now c.args.sides (c.args.sides.source + 1) c.further.self _ _ c.further.invariant.kept c.further.invariant.further _ c.dial_destination.ensures.drives
    (λ count none. let more = c.further.invariant.more in absurd (omega (arith, count, more, none)))
    (λ count. behind_source c.args.sides (length c.further.self.held) (let more = c.further.invariant.more in omega (arith, count, more)))

pub returns-in_err-dial_destination-clause-decides : goal.returns-in_err-dial_destination-clause-decides
returns-in_err-dial_destination-clause-decides g c =
    handed_on _ c.from_residual.result _ c.from_residual.ensures.1
    (further_decides c.args.self.now c.args.sides (c.args.sides.source + 1) _ _ _ _ _ _ c.further.invariant.further c.in_err-dial_destination.ensures.decides)

pub returns-in_err-dial_destination-clause-untried : goal.returns-in_err-dial_destination-clause-untried
returns-in_err-dial_destination-clause-untried g c = untired_then _ _ _ c.further.invariant.untried c.dial_destination.ensures.untried

pub returns-clause-many : goal.returns-clause-many
returns-clause-many g c some =
    let many = c.further.invariant.many in
    let begun = c.further.invariant.some in
    let most = c.further.invariant.most in
    let end = c.further-test.false in
    omega (arith, many, begun, most, end, some)
