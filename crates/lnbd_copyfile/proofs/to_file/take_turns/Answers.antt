use Rattle.std.proofs.Common.{arith, refl, ◌∙◌}
use Rattle.lnbd_copy.proofs.CauseLemmas.{goes_same, goes_then}
use Rattle.lnbd_touched.proofs.GrownLemmas.{grew_both, grew_none}
use Rattle.lnbd_copy.proofs.GroundLemmas.{handed_on}
use Rattle.lnbd_connections.proofs.UseLemmas.{uses_any, uses_looked, uses_none, uses_then}
use Rattle.lnbd_copyfile.specs.declared.fault.Stop.TheVariants as stop
use Rattle.lnbd_copyfile.specs.OneFile.{BreaksWriting, Write_lacks_memory, Writes}
use Rattle.lnbd_copyfile.proofs.OneFileLemmas.{breaks_writing_behind, writes_on}
use Rattle.lnbd_copyfile.proofs.ToFileRunLemmas.{further_goes, further_none, further_then, ready_goes}
use Rattle.lnbd_copyfile.proofs.ToFilePauseLemmas.{full_none, full_rested, full_then, pauses_so, pauses_unpaused, pauses_went}
use Rattle.lnbd_copyfile.proofs.to_file.take_turns.Goals as goal
use Rattle.lnbd_connections.proofs.FewLemmas.{few_same, few_then}
use Rattle.lnbd_copyfile.specs.Sharing.{share}
use Rattle.lnbd_copyfile.proofs.ShareLemmas.{sharing_turned}
use Rattle.lnbd_copyfile.proofs.TakenLemmas.{more_idly, more_none, more_then}
use Rattle.lnbd_copyfile.proofs.HearingLemmas.{hears_further, hears_idly, hears_none, hears_reads}

pub turns-init : goal.turns-init
turns-init g c = record {
  uses = uses_none _ _ _ _ _;
  full = full_none _ _ _ _ _ _ _;
  ready = c.requires.ready;
  on = further_none _ _ _ _ _ _ _;
  sharing = λ terms from s. s;
  few = λ terms from s. few_same (share terms) from _;
  terms = refl;
  writes = grew_none _ (Writes c.args.file) tt;
  asks = more_none _ _ _ _ _ _ _;
  hears = hears_none _ _ _ _ _ _ _;
  counts = goes_same _ _ _;
  later = omega arith;
}

pub turns-preserved : goal.turns-preserved
turns-preserved g c =
    let was = c.turns.invariant in
    let rested = c.in_ok-rest_unless.ensures.goes c.turn.new.board in
    record {
      uses = uses_then _ _ _ _ _ _ _ _ _ _ _ (uses_looked _ _ _ _ _ _ _ _ _ c.in_ok-check_idles.ensures.well c.turns.invariant.uses)
          (c.rest_unless.ensures.rests.on _ _ _ c.turn.ensures.uses c.in_ok-happened.ensures.vain);
      full = full_then _ _ _ _ _ _ _ _ _ _ _ _ _ _ _ _ _ _ _ was.full
          (full_rested _ _ _ _ _ _ _ _ _ _ _ _ _ _ _ _ c.in_ok-happened.ensures.full c.in_ok-happened.ensures.rests rested c.rest_unless.ensures.links c.in_ok-rest_unless.ensures.pauses
          c.rest_unless.ensures.same);
      ready = ready_goes c.turn.new.job _ _ _ _ _ _ rested c.in_ok-happened.ensures.ready;
      on = further_then _ _ _ _ _ _ _ _ _ _ _ _ _ _ _ _ _ _ _ was.on (further_then _ _ _ _ _ _ _ _ _ _ _ _ _ _ _ _ _ _ _ c.in_ok-happened.ensures.on
          (further_goes c.args.file c.turn.new.job _ _ _ _ _ _ _ _ rested));
      sharing = λ terms from s.
          sharing_turned terms from _ _ c.turn.new.job _ _ _ _ rested (c.in_ok-rest_unless.ensures.binds c.turn.new.board) (c.in_ok-happened.ensures.sharing terms from (was.sharing terms from s));
      few = λ terms from s.
          few_then (share terms) from _ _ _ (few_then (share terms) from _ _ _ (was.few terms from s) (c.turn.ensures.shares terms from (was.sharing terms from s)))
          (c.rest_unless.ensures.few (share terms) from);
      terms = c.turn.ensures.terms ∙ was.terms;
      writes = grew_both _ _ _ (Writes c.args.file) (Writes c.args.file) (Writes c.args.file) (λ calls more f h. writes_on c.args.file calls more f h) was.writes c.in_ok-happened.ensures.writes;
      asks = more_then _ _ _ _ _ _ _ _ _ _ _ _ _ _ was.on was.terms was.asks (more_idly _ _ _ _ _ _ _ _ _ c.turn.ensures.asks c.rest_unless.ensures.asks);
      hears = hears_further _ _ _ _ _ _ _ _ _ _ _ _ _ _ _ was.on was.hears (hears_idly _ _ _ _ _ _ _ _ _ _ c.in_ok-happened.ensures.hears c.rest_unless.ensures.asks);
      counts = goes_then _ _ _ _ _ _ _ _ _ was.counts (goes_then _ _ _ _ _ _ _ _ _ c.turn.ensures.counts c.rest_unless.ensures.counts);
      later = (let a = was.later in let b = c.turn.ensures.later in omega (arith, a, b));
    }

pub returns-in_err-happened-clause-counts : goal.returns-in_err-happened-clause-counts
returns-in_err-happened-clause-counts g c = goes_then _ _ _ _ _ _ _ _ _ c.turns.invariant.counts c.turn.ensures.counts

pub returns-then-is_finished-clause-counts : goal.returns-then-is_finished-clause-counts
returns-then-is_finished-clause-counts g c = goes_then _ _ _ _ _ _ _ _ _ c.turns.invariant.counts c.turn.ensures.counts

pub returns-then-is_finished-clause-writes : goal.returns-then-is_finished-clause-writes
returns-then-is_finished-clause-writes g c =
    grew_both _ _ _ (Writes c.args.file) (Writes c.args.file) (Writes c.args.file) (λ calls more f h. writes_on c.args.file calls more f h) c.turns.invariant.writes c.in_ok-happened.ensures.writes

pub returns-in_err-rest_unless-clause-counts : goal.returns-in_err-rest_unless-clause-counts
returns-in_err-rest_unless-clause-counts g c = goes_then _ _ _ _ _ _ _ _ _ c.turns.invariant.counts (goes_then _ _ _ _ _ _ _ _ _ c.turn.ensures.counts c.rest_unless.ensures.counts)

pub returns-in_err-happened-clause-breaks : goal.returns-in_err-happened-clause-breaks
returns-in_err-happened-clause-breaks g c =
    handed_on _ c.from_residual-in_err-happened.result _ c.from_residual-in_err-happened.ensures.1
    (grew_both _ _ _ (Writes c.args.file) (BreaksWriting c.args.file _) (BreaksWriting c.args.file _) (λ calls more f h. breaks_writing_behind c.args.file _ calls more f h) c.turns.invariant.writes
    c.in_err-happened.ensures.breaks)

pub returns-in_err-rest_unless-clause-breaks : goal.returns-in_err-rest_unless-clause-breaks
returns-in_err-rest_unless-clause-breaks g c =
    handed_on _ c.from_residual-in_err-rest_unless.result _ c.from_residual-in_err-rest_unless.ensures.1
    (grew_both _ _ _ (Writes c.args.file) (Writes c.args.file) (BreaksWriting c.args.file stop.NoMemory) (λ calls more f h. Write_lacks_memory (writes_on c.args.file calls more f h) refl)
    c.turns.invariant.writes c.in_ok-happened.ensures.writes)

pub returns-in_err-happened-clause-asks : goal.returns-in_err-happened-clause-asks
returns-in_err-happened-clause-asks g c = more_then _ _ _ _ _ _ _ _ _ _ _ _ _ _ c.turns.invariant.on c.turns.invariant.terms c.turns.invariant.asks c.turn.ensures.asks

pub returns-then-is_finished-clause-asks : goal.returns-then-is_finished-clause-asks
returns-then-is_finished-clause-asks g c = more_then _ _ _ _ _ _ _ _ _ _ _ _ _ _ c.turns.invariant.on c.turns.invariant.terms c.turns.invariant.asks c.turn.ensures.asks

pub returns-in_err-rest_unless-clause-asks : goal.returns-in_err-rest_unless-clause-asks
returns-in_err-rest_unless-clause-asks g c = more_then _ _ _ _ _ _ _ _ _ _ _ _ _ _ c.turns.invariant.on c.turns.invariant.terms c.turns.invariant.asks (more_idly _ _ _ _ _ _ _ _ _ c.turn.ensures.asks c.rest_unless.ensures.asks)

pub returns-then-is_finished-clause-on : goal.returns-then-is_finished-clause-on
returns-then-is_finished-clause-on g c = further_then _ _ _ _ _ _ _ _ _ _ _ _ _ _ _ _ _ _ _ c.turns.invariant.on c.in_ok-happened.ensures.on

pub returns-in_err-happened-clause-shares : goal.returns-in_err-happened-clause-shares
returns-in_err-happened-clause-shares g c terms from s =
    few_then (share terms) from _ _ _ (c.turns.invariant.few terms from s) (c.turn.ensures.shares terms from (c.turns.invariant.sharing terms from s))

pub returns-then-is_finished-clause-shares : goal.returns-then-is_finished-clause-shares
returns-then-is_finished-clause-shares g c terms from s =
    few_then (share terms) from _ _ _ (c.turns.invariant.few terms from s) (c.turn.ensures.shares terms from (c.turns.invariant.sharing terms from s))

pub returns-in_err-rest_unless-clause-shares : goal.returns-in_err-rest_unless-clause-shares
returns-in_err-rest_unless-clause-shares g c terms from s =
    few_then (share terms) from _ _ _ (few_then (share terms) from _ _ _ (c.turns.invariant.few terms from s) (c.turn.ensures.shares terms from (c.turns.invariant.sharing terms from s)))
    (c.rest_unless.ensures.few (share terms) from)

pub returns-in_err-happened-clause-uses : goal.returns-in_err-happened-clause-uses
returns-in_err-happened-clause-uses g c =
    uses_then _ _ _ _ _ _ _ _ _ _ _ (uses_looked _ _ _ _ _ _ _ _ _ c.in_ok-check_idles.ensures.well c.turns.invariant.uses) (uses_any _ _ _ _ _ _ _ _ _ c.turn.ensures.uses)

pub returns-then-is_finished-clause-uses : goal.returns-then-is_finished-clause-uses
returns-then-is_finished-clause-uses g c =
    uses_then _ _ _ _ _ _ _ _ _ _ _ (uses_looked _ _ _ _ _ _ _ _ _ c.in_ok-check_idles.ensures.well c.turns.invariant.uses) (uses_any _ _ _ _ _ _ _ _ _ c.turn.ensures.uses)

pub returns-in_err-rest_unless-clause-uses : goal.returns-in_err-rest_unless-clause-uses
returns-in_err-rest_unless-clause-uses g c =
    uses_then _ _ _ _ _ _ _ _ _ _ _ (uses_looked _ _ _ _ _ _ _ _ _ c.in_ok-check_idles.ensures.well c.turns.invariant.uses)
    (c.rest_unless.ensures.rests.on _ _ _ c.turn.ensures.uses c.in_ok-happened.ensures.vain)

pub returns-in_err-check_idles-clause-full : goal.returns-in_err-check_idles-clause-full
returns-in_err-check_idles-clause-full g c = pauses_so _ _ _ _ _ _ _ _ _ _ _ _ _ _ c.turns.invariant.full refl

pub returns-in_err-happened-clause-full : goal.returns-in_err-happened-clause-full
returns-in_err-happened-clause-full g c = pauses_went _ _ _ _ _ _ _ _ _ _ _ _ _ _ c.turns.invariant.full (pauses_unpaused _ _ _ _ _ _ _ _ c.turn.ensures.unpaused)

pub returns-then-is_finished-clause-full : goal.returns-then-is_finished-clause-full
returns-then-is_finished-clause-full g c = pauses_went _ _ _ _ _ _ _ _ _ _ _ _ _ _ c.turns.invariant.full (pauses_unpaused _ _ _ _ _ _ _ _ c.turn.ensures.unpaused)

pub returns-in_err-rest_unless-clause-full : goal.returns-in_err-rest_unless-clause-full
returns-in_err-rest_unless-clause-full g c =
    pauses_went _ _ _ _ _ _ _ _ _ _ _ _ _ _ c.turns.invariant.full (pauses_so _ _ _ _ _ _ _ _ _ _ _ _ _ _ c.in_ok-happened.ensures.full c.in_err-rest_unless.ensures.still)

pub returns-clause-full : goal.returns-clause-full
returns-clause-full g c = pauses_so _ _ _ _ _ _ _ _ _ _ _ _ _ _ c.turns.invariant.full refl

pub returns-in_err-check_idles-clause-heard : goal.returns-in_err-check_idles-clause-heard
returns-in_err-check_idles-clause-heard g c = hears_reads _ _ _ _ _ _ _ _ _ c.turns.invariant.hears

pub returns-in_err-happened-clause-heard : goal.returns-in_err-happened-clause-heard
returns-in_err-happened-clause-heard g c = hears_reads _ _ _ _ _ _ _ _ _ (hears_further _ _ _ _ _ _ _ _ _ _ _ _ _ _ _ c.turns.invariant.on c.turns.invariant.hears c.turn.ensures.heard)

pub returns-then-is_finished-clause-heard : goal.returns-then-is_finished-clause-heard
returns-then-is_finished-clause-heard g c = hears_reads _ _ _ _ _ _ _ _ _ (hears_further _ _ _ _ _ _ _ _ _ _ _ _ _ _ _ c.turns.invariant.on c.turns.invariant.hears c.turn.ensures.heard)

pub returns-in_err-rest_unless-clause-heard : goal.returns-in_err-rest_unless-clause-heard
returns-in_err-rest_unless-clause-heard g c =
    hears_reads _ _ _ _ _ _ _ _ _
    (hears_idly _ _ _ _ _ _ _ _ _ _ (hears_further _ _ _ _ _ _ _ _ _ _ _ _ _ _ _ c.turns.invariant.on c.turns.invariant.hears c.turn.ensures.heard) c.rest_unless.ensures.asks)

pub returns-clause-heard : goal.returns-clause-heard
returns-clause-heard g c = hears_reads _ _ _ _ _ _ _ _ _ c.turns.invariant.hears
