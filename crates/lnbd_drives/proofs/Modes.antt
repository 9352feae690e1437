-- Opt mode stays off.
use Rattle.std.proofs.Common.{◌≡◌, ℕ, Bool, true, false, List, [], ◌∷◌, refl, ap, ◌∙◌}
use Rattle.std.proofs.lemmas.Bool.{false≢true}
use Rattle.lnbd_model.specs.declared.state.Cause.TheVariants as cause
use Rattle.lnbd_stream.specs.Laws.{Lasts}
use Rattle.lnbd_stream.proofs.Stream.{feed_lasts}
use Rattle.lnbd_history.specs.Agreement.{Replied, phase, opt_mode}
use Rattle.lnbd_history.specs.Arrivals.{Hello, OptionReply, ExportReply, Reply, Broken, Passed, Ignored}
use Rattle.lnbd_history.specs.Entries.{Framed}
use Rattle.lnbd_history.specs.Events.{Name, Context, Structured, Extended, OptMode, Answer, Event, History, Set, StrictMode, Start, Opt, Abort, Issue, Refuse, Disconnect, Wrote, Arrived, End, LinkFailed, Retire, ClearLog, Close}
use Rattle.lnbd_history.specs.History.{request, rules, turned, change, with_answers, reading}
use Rattle.lnbd_asked.specs.Driven.{is_inward}
use Rattle.lnbd_asked.proofs.Match.{file_still}
use Rattle.lnbd_drives.specs.Driving.{sets_opt_mode}
use Rattle.lnbd_drives.proofs.Keeping.{dies_keep, closed_keep, refused_keep, ended_keep, failed_keep}

module _ {K : Type 0} where
  -- whether opt mode is on
  abbrev pub mode : History K → Bool
  mode history = opt_mode (reading history).known.turns

  mode_lasts : (before : History K) (on : Bool) → Lasts (rules before) (λ known. opt_mode known.turns ≡ on)
  mode_lasts before on known bytes (Hello flags) m e = m
  mode_lasts before on known bytes (OptionReply told) m e = ap opt_mode (refused_keep before (phase (Replied told ∷ known.turns)) (turned (Replied told) known)).turns ∙ m
  mode_lasts before on known bytes (ExportReply size flags) m e = m
  mode_lasts before on known bytes (Reply frame) m e = ap opt_mode (file_still (request before frame.cookie) frame.cookie (Framed frame.content frame.last) known).turns ∙ m
  mode_lasts before on known bytes (Broken breach) m e = ap opt_mode (dies_keep before (cause.Broke breach) known).turns ∙ m
  mode_lasts before on known bytes Passed m e = m
  mode_lasts before on known bytes Ignored m e = m

  pub arrived_mode : (before : History K) (bytes : List ℕ) (answers : List Answer) → mode (Arrived bytes answers ∷ before) ≡ mode before
  arrived_mode before bytes answers = feed_lasts (rules before) (λ known. opt_mode known.turns ≡ mode before) (mode_lasts before (mode before)) (change (with_answers answers) (reading before)) bytes refl

  pub end_mode : (before : History K) (answers : List Answer) → mode (End answers ∷ before) ≡ mode before
  end_mode before answers = ap opt_mode (ended_keep before (reading before).known.stage (change (with_answers answers) (reading before))).turns

  pub fault_mode : (before : History K) (answers : List Answer) → mode (LinkFailed answers ∷ before) ≡ mode before
  fault_mode before answers = ap opt_mode (failed_keep before (reading before).known.stage (change (with_answers answers) (reading before))).turns

  -- What a caller does leaves it off, unless it is turned on.
  pub inward_mode : (before : History K) (event : Event K) → is_inward event ≡ true → sets_opt_mode event ≡ false → mode before ≡ false → mode (event ∷ before) ≡ false
  inward_mode before (Set (Name name)) inward off m = m
  inward_mode before (Set (Context name)) inward off m = m
  inward_mode before (Set (Structured on)) inward off m = m
  inward_mode before (Set (Extended on)) inward off m = m
  inward_mode before (Set (OptMode on)) inward off m = off
  inward_mode before (StrictMode bits) inward off m = m
  inward_mode before Start inward off m = m
  inward_mode before (Opt option) inward off m = m
  inward_mode before Abort inward off m = m
  inward_mode before (Issue command) inward off m = m
  inward_mode before (Refuse command why) inward off m = m
  inward_mode before Disconnect inward off m = m
  inward_mode before (Wrote n) inward off m = absurd (false≢true inward)
  inward_mode before (Arrived bytes answers) inward off m = absurd (false≢true inward)
  inward_mode before (End answers) inward off m = absurd (false≢true inward)
  inward_mode before (LinkFailed answers) inward off m = absurd (false≢true inward)
  inward_mode before (Retire cookie) inward off m = m
  inward_mode before ClearLog inward off m = m
  inward_mode before Close inward off m = ap opt_mode (closed_keep before (with_answers [] (reading before).known)).turns ∙ m
