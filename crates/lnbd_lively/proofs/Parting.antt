-- A handle whose connection goes on was asked for no end of it.
use Rattle.std.proofs.Common.{◌≡◌, ◌≢◌, ℕ, zero, suc, Bool, true, false, List, [], ◌∷◌, refl, ap, sym, ◌∙◌}
use Rattle.std.proofs.lemmas.Bool.{false≢true}
use Rattle.lnbd_model.specs.declared.state.State.TheVariants as state
use Rattle.lnbd_model.specs.declared.state.Cause.{Cause}
use Rattle.lnbd_model.specs.declared.state.Cause.TheVariants as cause
use Rattle.lnbd_records.specs.Options.{opt_go}
use Rattle.lnbd_stream.specs.Laws.{Lasts}
use Rattle.lnbd_stream.specs.Stream.{Held}
use Rattle.lnbd_stream.proofs.Stream.{feed_lasts}
use Rattle.lnbd_history.specs.declared.kinds.Phase.{Phase}
use Rattle.lnbd_history.specs.declared.kinds.Phase.TheVariants.{Greeting, Asked, AskedByName, OptMode, Ready, Refused}
use Rattle.lnbd_history.specs.declared.kinds.Stage.{Stage}
use Rattle.lnbd_history.specs.declared.kinds.Stage.TheVariants.{Created, Open, Disconnecting, Aborting, Closed, Dead}
use Rattle.lnbd_history.specs.Agreement.{Replied, phase}
use Rattle.lnbd_history.specs.Answers.{direction_after, direction_of, is_living, out_after, state_after, state_at}
use Rattle.lnbd_history.specs.Arrivals.{Hello, OptionReply, ExportReply, Reply, Broken, Passed, Ignored}
use Rattle.lnbd_history.specs.Entries.{Framed, Lost, Dropped}
use Rattle.lnbd_history.specs.Events.{Event, History, Set, StrictMode, Start, Opt, Abort, Issue, Refuse, Disconnect, Wrote, Arrived, End, LinkFailed, Retire, ClearLog, Close}
use Rattle.lnbd_history.specs.History.{Known, asked, reading, request, rules, change, with_answers, turned, if_refused, die, flying, cookies, ended_closing, ended_at, failed_at}
use Rattle.lnbd_history.specs.Laws.{CanFollow, Lawful}
use Rattle.lnbd_asked.proofs.Match.{all_still, file_still}
use Rattle.lnbd_lively.specs.Ending.{AsksNoEnd}

-- an end of the connection was asked for, or it is over
abbrev is_leaving : Stage → Bool
is_leaving Created = false
is_leaving Open = false
is_leaving Disconnecting = true
is_leaving Aborting = true
is_leaving Closed = true
is_leaving (Dead why) = true

not_created : (stage : Stage) (at : Phase) → is_leaving stage ≡ true → state_at stage at ≢ state.Created
not_created Created at leaves e = absurd (false≢true leaves)
not_created Open at leaves e = absurd (false≢true leaves)
not_created Disconnecting at leaves e = cc
not_created Aborting at leaves e = cc
not_created Closed at leaves e = cc
not_created (Dead why) at leaves e = cc

waits_not : (out : List ℕ) → direction_of false out ≢ 1
waits_not out e = cc

-- Where a handle waits to read alone, and not in Closing, its connection goes on.
goes_on : (stage : Stage) (at : Phase) (out : List ℕ) → direction_of (is_living stage) out ≡ 1 → state_at stage at ≢ state.Closing → is_leaving stage ≡ false
goes_on Created at out alone going = refl
goes_on Open at out alone going = refl
goes_on Disconnecting at out alone going = absurd (going refl)
goes_on Aborting at out alone going = absurd (going refl)
goes_on Closed at out alone going = absurd (waits_not out alone)
goes_on (Dead why) at out alone going = absurd (waits_not out alone)

module _ {K : Type 0} (before : History K) where
  abbrev Leaves : Known K → Type 0
  Leaves known = is_leaving known.stage ≡ true

  dies : (why : Cause) (known : Known K) → Leaves (die before why known)
  dies why known = ap is_leaving (all_still before Lost (cookies (asked before).issued) (record known { stage = Dead why })).stage

  refused : (at : Phase) (known : Known K) → Leaves known → Leaves (if_refused at before known)
  refused Greeting known leaves = leaves
  refused (Asked option) known leaves = leaves
  refused AskedByName known leaves = leaves
  refused OptMode known leaves = leaves
  refused Ready known leaves = leaves
  refused (Refused code) known leaves = dies (cause.Refused opt_go code) known

  leaving_lasts : Lasts (rules before) Leaves
  leaving_lasts known bytes (Hello flags) leaves e = leaves
  leaving_lasts known bytes (OptionReply told) leaves e = refused (phase (turned (Replied told) known).turns) (turned (Replied told) known) leaves
  leaving_lasts known bytes (ExportReply size flags) leaves e = leaves
  leaving_lasts known bytes (Reply frame) leaves e = ap is_leaving (file_still (request before frame.cookie) frame.cookie (Framed frame.content frame.last) known).stage ∙ leaves
  leaving_lasts known bytes (Broken breach) leaves e = dies (cause.Broke breach) known
  leaving_lasts known bytes Passed leaves e = leaves
  leaving_lasts known bytes Ignored leaves e = leaves

  closing_leaves : (n : ℕ) (known : Known K) → Leaves (ended_closing n before known)
  closing_leaves zero known = refl
  closing_leaves (suc n) known = dies cause.Ended known

  ended_leaves : (stage : Stage) (held : Held (Known K)) → is_leaving stage ≡ true → Leaves held.known → Leaves (ended_at stage before held).known
  ended_leaves Created held is leaves = leaves
  ended_leaves Open held is leaves = absurd (false≢true is)
  ended_leaves Disconnecting held is leaves = closing_leaves (flying before held.known.entries (asked before).issued) held.known
  ended_leaves Aborting held is leaves = closing_leaves (flying before held.known.entries (asked before).issued) held.known
  ended_leaves Closed held is leaves = leaves
  ended_leaves (Dead why) held is leaves = leaves

  failed_leaves : (stage : Stage) (held : Held (Known K)) → is_leaving stage ≡ true → Leaves held.known → Leaves (failed_at stage before held).known
  failed_leaves Created held is leaves = leaves
  failed_leaves Open held is leaves = absurd (false≢true is)
  failed_leaves Disconnecting held is leaves = dies cause.LinkFailed held.known
  failed_leaves Aborting held is leaves = dies cause.LinkFailed held.known
  failed_leaves Closed held is leaves = leaves
  failed_leaves (Dead why) held is leaves = leaves

  -- Whatever follows, it doesn't go on.
  leaves_after : (limit : ℕ) (one : Event K) → CanFollow limit before one → Leaves (reading before).known → Leaves (reading (one ∷ before)).known
  leaves_after limit (Set setting) may leaves = leaves
  leaves_after limit (StrictMode bits) may leaves = leaves
  leaves_after limit Start may leaves = absurd (not_created (reading before).known.stage (phase (reading before).known.turns) leaves may)
  leaves_after limit (Opt option) may leaves = leaves
  leaves_after limit Abort may leaves = refl
  leaves_after limit (Issue command) may leaves = leaves
  leaves_after limit (Refuse command why) may leaves = leaves
  leaves_after limit Disconnect may leaves = refl
  leaves_after limit (Wrote n) may leaves = leaves
  leaves_after limit (Arrived bytes answers) may leaves = feed_lasts (rules before) Leaves leaving_lasts (change (with_answers answers) (reading before)) bytes leaves
  leaves_after limit (End answers) may leaves = ended_leaves (reading before).known.stage (change (with_answers answers) (reading before)) leaves leaves
  leaves_after limit (LinkFailed answers) may leaves = failed_leaves (reading before).known.stage (change (with_answers answers) (reading before)) leaves leaves
  leaves_after limit (Retire cookie) may leaves = leaves
  leaves_after limit ClearLog may leaves = leaves
  leaves_after limit Close may leaves = ap is_leaving (all_still before Dropped (cookies (asked before).issued) (record (with_answers [] (reading before).known) { stage = Closed })).stage

  went_on : (limit : ℕ) (one : Event K) → CanFollow limit before one → is_leaving (reading (one ∷ before)).known.stage ≡ false → is_leaving (reading before).known.stage ≡ false
  went_on limit one may goes = go (is_leaving (reading before).known.stage) refl
    where
      go : (b : Bool) → is_leaving (reading before).known.stage ≡ b → is_leaving (reading before).known.stage ≡ false
      go true leaves = absurd (false≢true (sym goes ∙ leaves_after limit one may leaves))
      go false on = on

module _ {K : Type 0} where
  none_asked : (limit : ℕ) (history : History K) → Lawful limit history → is_leaving (reading history).known.stage ≡ false → AsksNoEnd history
  none_asked limit [] lawful goes = tt
  none_asked limit (Disconnect ∷ before) lawful goes = absurd (false≢true (sym goes))
  none_asked limit (Set setting ∷ before) lawful goes = none_asked limit before lawful.0 (went_on before limit (Set setting) lawful.2 goes)
  none_asked limit (StrictMode bits ∷ before) lawful goes = none_asked limit before lawful.0 (went_on before limit (StrictMode bits) lawful.2 goes)
  none_asked limit (Start ∷ before) lawful goes = none_asked limit before lawful.0 (went_on before limit Start lawful.2 goes)
  none_asked limit (Opt option ∷ before) lawful goes = none_asked limit before lawful.0 (went_on before limit (Opt option) lawful.2 goes)
  none_asked limit (Abort ∷ before) lawful goes = none_asked limit before lawful.0 (went_on before limit Abort lawful.2 goes)
  none_asked limit (Issue command ∷ before) lawful goes = none_asked limit before lawful.0 (went_on before limit (Issue command) lawful.2 goes)
  none_asked limit (Refuse command why ∷ before) lawful goes = none_asked limit before lawful.0 (went_on before limit (Refuse command why) lawful.2 goes)
  none_asked limit (Wrote n ∷ before) lawful goes = none_asked limit before lawful.0 (went_on before limit (Wrote n) lawful.2 goes)
  none_asked limit (Arrived bytes answers ∷ before) lawful goes = none_asked limit before lawful.0 (went_on before limit (Arrived bytes answers) lawful.2 goes)
  none_asked limit (End answers ∷ before) lawful goes = none_asked limit before lawful.0 (went_on before limit (End answers) lawful.2 goes)
  none_asked limit (LinkFailed answers ∷ before) lawful goes = none_asked limit before lawful.0 (went_on before limit (LinkFailed answers) lawful.2 goes)
  none_asked limit (Retire cookie ∷ before) lawful goes = none_asked limit before lawful.0 (went_on before limit (Retire cookie) lawful.2 goes)
  none_asked limit (ClearLog ∷ before) lawful goes = none_asked limit before lawful.0 (went_on before limit ClearLog lawful.2 goes)
  none_asked limit (Close ∷ before) lawful goes = none_asked limit before lawful.0 (went_on before limit Close lawful.2 goes)

  pub asks_no_end : (limit : ℕ) (history : History K) → Lawful limit history → direction_after history ≡ 1 → state_after history ≢ state.Closing → AsksNoEnd history
  asks_no_end limit history lawful alone going =
      none_asked limit history lawful (goes_on (reading history).known.stage (phase (reading history).known.turns) (out_after history) alone going)
