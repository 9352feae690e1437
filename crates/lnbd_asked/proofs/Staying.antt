-- What of a history stays, whatever happens: the name that was set, and all that was negotiated, once requests may be made.
use Rattle.std.proofs.Common.{◌≡◌, ◌≢◌, ℕ, zero, suc, Bool, true, false, List, [], ◌∷◌, ◌++◌, Option, Some, None, refl, ap, sym, subst, ◌∙◌, nat_lt, if◌then◌else◌, ◌⊎◌, inl, inr}
use Rattle.std.proofs.lemmas.Bool.{false≢true}
use Rattle.lnbd_model.specs.declared.state.Cause.{Cause}
use Rattle.lnbd_model.specs.declared.state.Cause.TheVariants as cause
use Rattle.lnbd_model.specs.declared.breach.Breach.TheVariants.{TooManyReplies}
use Rattle.lnbd_records.specs.Limits.{max_passed}
use Rattle.lnbd_records.specs.Options.{opt_go}
use Rattle.lnbd_stream.specs.Stream.{Held}
use Rattle.lnbd_stream.specs.Laws.{Lasts}
use Rattle.lnbd_stream.proofs.Stream.{feed_lasts}
use Rattle.lnbd_history.specs.declared.kinds.Phase.{Phase}
use Rattle.lnbd_history.specs.declared.kinds.Phase.TheVariants.{Greeting, Asked, AskedByName, OptMode, Ready, Refused}
use Rattle.lnbd_history.specs.declared.kinds.Stage.{Stage}
use Rattle.lnbd_history.specs.declared.kinds.Stage.TheVariants.{Created, Open, Disconnecting, Aborting, Closed, Dead}
use Rattle.lnbd_history.specs.Agreement.{Turn, Replied, ByName, phase, steps, export, name_now}
use Rattle.lnbd_history.specs.Agreement as turn
use Rattle.lnbd_history.specs.Arrivals.{Shown, Hello, OptionReply, ExportReply, Reply, Broken, Passed, Ignored, Waiting, Sight, shows_at, shows_in, shows_passed, shows_frame, shows_ignored}
use Rattle.lnbd_history.specs.Entries.{Framed, Lost, Dropped}
use Rattle.lnbd_history.specs.Events.{Name, Context, Structured, Extended, Event, History, StrictMode, Start, Opt, Abort, Issue, Refuse, Disconnect, Wrote, Arrived, End, LinkFailed, Retire, ClearLog, Close}
use Rattle.lnbd_history.specs.Events as event
use Rattle.lnbd_history.specs.Answers.{state_after, is_living}
use Rattle.lnbd_history.specs.History.{Known, asked, request, rules, sight, waited, entered, turned, if_refused, die, cookies, flying, change, with_answers, ended_at, failed_at, ended_closing, reading}
use Rattle.lnbd_history.specs.Laws.{Lawful, CanFollow, may_name}
use Rattle.lnbd_asked.specs.Exports.{name_set, export_known, NamesStay, ToldStays, ExportsStay}
use Rattle.lnbd_asked.specs.Transcript.{export_at}
use Rattle.lnbd_asked.proofs.Acting.{named_at, set_named, not_open_created}
use Rattle.lnbd_asked.proofs.Asks.{HaveName, name_hello, name_replied, name_same}
use Rattle.lnbd_asked.proofs.Exported.{exported_ready, of_size, sized_as}
use Rattle.lnbd_asked.proofs.Feeding.{started_lasts}
use Rattle.lnbd_asked.proofs.Match.{file_still, all_still}
use Rattle.lnbd_asked.proofs.Plain.{ended_so, failed_so, aborting_started, disconnecting_started, closed_started}
use Rattle.lnbd_asked.proofs.Steps.{IsFrame, AreFrames, frame_shown}

-- What bytes keep of the turns, where it is kept by each turn that may come.
record Keeps (P : List Turn → Type 0) : Type 0 where
  hello : (turns : List Turn) → P turns → P (turn.Hello ∷ turns)
  replied : (told : _) (turns : List Turn) → P turns → P (Replied told ∷ turns)
  by_name : (size flags : ℕ) (turns : List Turn) → P turns → P (ByName size flags ∷ turns)

keeps_name : (name : List ℕ) → Keeps (λ turns. name_now turns ≡ name)
keeps_name name = record { hello = λ turns e. e; replied = λ told turns e. e; by_name = λ size flags turns e. e }

keeps_names : Keeps HaveName
keeps_names = record { hello = λ turns h. name_hello turns h; replied = λ told turns h. name_replied told turns h; by_name = λ size flags turns h. name_same (ByName size flags ∷ turns) turns refl refl h }

-- Turns after an end.

module _ {K : Type 0} where
  pub die_turns : (before : History K) (why : Cause) (known : Known K) → (die before why known).turns ≡ known.turns
  die_turns before why known = (all_still before Lost (cookies (asked before).issued) (record known { stage = Dead why })).turns

  closing_turns : (n : ℕ) (before : History K) (known : Known K) → (ended_closing n before known).turns ≡ known.turns
  closing_turns zero before known = refl
  closing_turns (suc n) before known = die_turns before cause.Ended known

  pub ended_turns : (stage : Stage) (before : History K) (held : Held (Known K)) → (ended_at stage before held).known.turns ≡ held.known.turns
  ended_turns Created before held = refl
  ended_turns Open before held = die_turns before cause.Ended held.known
  ended_turns Disconnecting before held = closing_turns (flying before held.known.entries (asked before).issued) before held.known
  ended_turns Aborting before held = closing_turns (flying before held.known.entries (asked before).issued) before held.known
  ended_turns Closed before held = refl
  ended_turns (Dead why) before held = refl

  pub failed_turns : (stage : Stage) (before : History K) (held : Held (Known K)) → (failed_at stage before held).known.turns ≡ held.known.turns
  failed_turns Created before held = refl
  failed_turns Open before held = die_turns before cause.LinkFailed held.known
  failed_turns Disconnecting before held = die_turns before cause.LinkFailed held.known
  failed_turns Aborting before held = die_turns before cause.LinkFailed held.known
  failed_turns Closed before held = refl
  failed_turns (Dead why) before held = refl

  pub refused_turns : (p : Phase) (before : History K) (known : Known K) → (if_refused p before known).turns ≡ known.turns
  refused_turns Greeting before known = refl
  refused_turns (Asked option) before known = refl
  refused_turns AskedByName before known = refl
  refused_turns OptMode before known = refl
  refused_turns Ready before known = refl
  refused_turns (Refused code) before known = die_turns before (cause.Refused opt_go code) known

  turns_last : (P : List Turn → Type 0) → Keeps P → (before : History K) → Lasts (rules before) (λ known. P known.turns)
  turns_last P keeps before known bytes (Hello flags) p e = keeps.hello known.turns p
  turns_last P keeps before known bytes (OptionReply told) p e = subst P (sym (refused_turns (phase (Replied told ∷ known.turns)) before (turned (Replied told) known))) (keeps.replied told known.turns p)
  turns_last P keeps before known bytes (ExportReply size flags) p e = keeps.by_name size flags known.turns p
  turns_last P keeps before known bytes (Reply frame) p e = subst P (sym (file_still (request before frame.cookie) frame.cookie (Framed frame.content frame.last) known).turns) p
  turns_last P keeps before known bytes (Broken breach) p e = subst P (sym (die_turns before (cause.Broke breach) known)) p
  turns_last P keeps before known bytes Passed p e = p
  turns_last P keeps before known bytes Ignored p e = p

  -- So it is with whatever happens, but that something is set.
  abbrev pub is_set : Event K → Bool
  is_set (event.Set setting) = true
  is_set event = false

  keeps_on : (P : List Turn → Type 0) → Keeps P → ((option : ℕ) (turns : List Turn) → P turns → P (turn.Opted option ∷ turns)) → (before : History K) (one : Event K) → is_set one ≡ false → P (reading before).known.turns → P (reading (one ∷ before)).known.turns
  keeps_on P keeps opted before (event.Set setting) none p = absurd (false≢true (sym none))
  keeps_on P keeps opted before (StrictMode bits) none p = p
  keeps_on P keeps opted before Start none p = p
  keeps_on P keeps opted before (Opt option) none p = opted option (reading before).known.turns p
  keeps_on P keeps opted before Abort none p = p
  keeps_on P keeps opted before (Issue command) none p = p
  keeps_on P keeps opted before (Refuse command why) none p = p
  keeps_on P keeps opted before Disconnect none p = p
  keeps_on P keeps opted before (Wrote n) none p = p
  keeps_on P keeps opted before (Arrived bytes answers) none p = feed_lasts (rules before) (λ known. P known.turns) (turns_last P keeps before) (change (with_answers answers) (reading before)) bytes p
  keeps_on P keeps opted before (End answers) none p = subst P (sym (ended_turns (reading before).known.stage before (change (with_answers answers) (reading before)))) p
  keeps_on P keeps opted before (LinkFailed answers) none p = subst P (sym (failed_turns (reading before).known.stage before (change (with_answers answers) (reading before)))) p
  keeps_on P keeps opted before (Retire cookie) none p = p
  keeps_on P keeps opted before ClearLog none p = p
  keeps_on P keeps opted before Close none p = subst P (sym (all_still before Dropped (cookies (asked before).issued) (record (with_answers [] (reading before).known) { stage = Closed })).turns) p

  -- The name.

  pub names_stay : NamesStay K
  names_stay history (event.Set (Name name)) none = absurd (false≢true (sym none))
  names_stay history (event.Set (Context name)) none = refl
  names_stay history (event.Set (Structured on)) none = refl
  names_stay history (event.Set (Extended on)) none = refl
  names_stay history (event.Set (event.OptMode on)) none = refl
  names_stay history (StrictMode bits) none = refl
  names_stay history Start none = refl
  names_stay history (Opt option) none = refl
  names_stay history Abort none = refl
  names_stay history (Issue command) none = refl
  names_stay history (Refuse command why) none = refl
  names_stay history Disconnect none = refl
  names_stay history (Wrote n) none = refl
  names_stay history (Arrived bytes answers) none = keeps_on (λ turns. name_now turns ≡ name_set history) (keeps_name (name_set history)) (λ option turns e. e) history (Arrived bytes answers) refl refl
  names_stay history (End answers) none = keeps_on (λ turns. name_now turns ≡ name_set history) (keeps_name (name_set history)) (λ option turns e. e) history (End answers) refl refl
  names_stay history (LinkFailed answers) none = keeps_on (λ turns. name_now turns ≡ name_set history) (keeps_name (name_set history)) (λ option turns e. e) history (LinkFailed answers) refl refl
  names_stay history (Retire cookie) none = refl
  names_stay history ClearLog none = refl
  names_stay history Close none = keeps_on (λ turns. name_now turns ≡ name_set history) (keeps_name (name_set history)) (λ option turns e. e) history Close refl refl

  -- the options have the name, whatever happens but that something is set
  pub names_kept : (before : History K) (one : Event K) → is_set one ≡ false → HaveName (reading before).known.turns → HaveName (reading (one ∷ before)).known.turns
  names_kept before one none h = keeps_on HaveName keeps_names (λ option turns k. name_same (turn.Opted option ∷ turns) turns refl refl k) before one none h

-- Once requests may be made.

-- what is shown then, if a thing is
abbrev pub IsLater : Shown → Type 0
IsLater (Hello flags) = ⊥
IsLater (OptionReply told) = ⊥
IsLater (ExportReply size flags) = ⊥
IsLater (Reply frame) = Unit {0}
IsLater (Broken breach) = Unit {0}
IsLater Passed = Unit {0}
IsLater Ignored = Unit {0}

abbrev AreLater : Option Shown → Type 0
AreLater None = Unit {0}
AreLater (Some found) = IsLater found

passed_later : (passed : ℕ) (bytes : List ℕ) → AreLater (shows_passed passed bytes)
passed_later passed [] = tt
passed_later passed (byte ∷ bytes) = go (nat_lt passed max_passed)
  where
    go : (b : Bool) → AreLater (if b then Some Passed else Some (Broken TooManyReplies))
    go true = tt
    go false = tt

ignored_later : (bytes : List ℕ) → AreLater (shows_ignored bytes)
ignored_later [] = tt
ignored_later (byte ∷ bytes) = tt

found_later : (found : Shown) → IsFrame found → IsLater found
found_later (Hello flags) is = absurd is
found_later (OptionReply told) is = absurd is
found_later (ExportReply size flags) is = absurd is
found_later (Reply frame) is = tt
found_later (Broken breach) is = tt
found_later Passed is = absurd is
found_later Ignored is = tt

frames_later : (shown : Option Shown) → AreFrames shown → AreLater shown
frames_later None are = tt
frames_later (Some found) are = found_later found are

ready_later : (s : Sight) (waited : ℕ → Option Waiting) (bytes : List ℕ) → s.phase ≡ Ready → AreLater (shows_in s.phase s waited bytes)
ready_later s waited bytes ready = subst (λ p. AreLater (shows_in p s waited bytes)) (sym ready) (frames_later (shows_frame s.structured s.extended waited bytes) (frame_shown s.structured s.extended waited bytes))

later_shown : (stage : Stage) (s : Sight) (waited : ℕ → Option Waiting) (bytes : List ℕ) → s.phase ≡ Ready → AreLater (shows_at stage s waited bytes)
later_shown Created s waited bytes ready = ignored_later bytes
later_shown Open s waited bytes ready = ready_later s waited bytes ready
later_shown Disconnecting s waited bytes ready = ready_later s waited bytes ready
later_shown Aborting s waited bytes ready = passed_later s.passed bytes
later_shown Closed s waited bytes ready = ignored_later bytes
later_shown (Dead why) s waited bytes ready = ignored_later bytes

not_both : (stage : Stage) (p : Phase) → stage ≢ Created → p ≡ Ready → (stage ≡ Created) ⊎ ((stage ≡ Open) × (p ≡ OptMode)) → ⊥
not_both stage p begun ready (inl created) = begun created
not_both stage p begun ready (inr mode) = not_mode (sym ready ∙ mode.1)
  where
    not_mode : Ready ≡ OptMode → ⊥
    not_mode e = cc

living_begun : (stage : Stage) → is_living stage ≡ true → stage ≢ Created
living_begun stage l c = false≢true (sym (ap is_living c) ∙ l)

module _ {K : Type 0} where
  -- what bytes find then changes no turn
  pub later_turns : (requests : History K) (known : Known K) (found : Shown) → IsLater found → (entered requests found known).turns ≡ known.turns
  later_turns requests known (Hello flags) is = absurd is
  later_turns requests known (OptionReply told) is = absurd is
  later_turns requests known (ExportReply size flags) is = absurd is
  later_turns requests known (Reply frame) is = (file_still (request requests frame.cookie) frame.cookie (Framed frame.content frame.last) known).turns
  later_turns requests known (Broken breach) is = die_turns requests (cause.Broke breach) known
  later_turns requests known Passed is = refl
  later_turns requests known Ignored is = refl

  pub later_found : (known : Known K) (waited : ℕ → Option Waiting) (bytes : List ℕ) (found : Shown) → phase known.turns ≡ Ready → shows_at known.stage (sight known) waited bytes ≡ Some found → IsLater found
  later_found known waited bytes found ready e = subst AreLater e (later_shown known.stage (sight known) waited bytes ready)

  ready_lasts : (before : History K) (turns : List Turn) → phase turns ≡ Ready → Lasts (rules before) (λ known. known.turns ≡ turns)
  ready_lasts before turns ready known bytes found same e = later_turns before known found (later_found known (waited before known) bytes found (ap phase same ∙ ready) e) ∙ same

  not_named : {A : Type 0} (before : History K) → (reading before).known.stage ≢ Created → phase (reading before).known.turns ≡ Ready → may_name (state_after before) ≡ true → A
  not_named before begun ready may = absurd (not_both (reading before).known.stage (phase (reading before).known.turns) begun ready (named_at (reading before).known.stage (phase (reading before).known.turns) may))

  one_stays : (limit : ℕ) (before : History K) (one : Event K) → CanFollow limit before one → (reading before).known.stage ≢ Created → phase (reading before).known.turns ≡ Ready → (reading (one ∷ before)).known.turns ≡ (reading before).known.turns
  one_stays limit before (event.Set setting) can begun ready = not_named before begun ready (set_named before setting can)
  one_stays limit before (StrictMode bits) can begun ready = refl
  one_stays limit before Start can begun ready = refl
  one_stays limit before (Opt option) can begun ready = not_named before begun ready (ap may_name can.0)
  one_stays limit before Abort can begun ready = refl
  one_stays limit before (Issue command) can begun ready = refl
  one_stays limit before (Refuse command why) can begun ready = refl
  one_stays limit before Disconnect can begun ready = refl
  one_stays limit before (Wrote n) can begun ready = refl
  one_stays limit before (Arrived bytes answers) can begun ready =
      feed_lasts (rules before) (λ known. known.turns ≡ (reading before).known.turns) (ready_lasts before (reading before).known.turns ready) (change (with_answers answers) (reading before)) bytes refl
  one_stays limit before (End answers) can begun ready = ended_turns (reading before).known.stage before (change (with_answers answers) (reading before))
  one_stays limit before (LinkFailed answers) can begun ready = failed_turns (reading before).known.stage before (change (with_answers answers) (reading before))
  one_stays limit before (Retire cookie) can begun ready = refl
  one_stays limit before ClearLog can begun ready = refl
  one_stays limit before Close can begun ready = (all_still before Dropped (cookies (asked before).issued) (record (with_answers [] (reading before).known) { stage = Closed })).turns

  -- a handle that may make requests was started
  pub ready_begun : (limit : ℕ) (history : History K) → Lawful limit history → phase (reading history).known.turns ≡ Ready → (reading history).known.stage ≢ Created
  ready_begun limit [] lawful ready = absurd (not_greeting ready)
    where
      not_greeting : Greeting ≡ Ready → ⊥
      not_greeting e = cc
  ready_begun limit (event.Set setting ∷ before) lawful ready = ready_begun limit before lawful.0 ready
  ready_begun limit (StrictMode bits ∷ before) lawful ready = ready_begun limit before lawful.0 ready
  ready_begun limit (Start ∷ before) lawful ready = not_open_created
  ready_begun limit (Opt option ∷ before) lawful ready = absurd (not_asked option ready)
    where
      not_asked : (option : ℕ) → Asked option ≡ Ready → ⊥
      not_asked option e = cc
  ready_begun limit (Abort ∷ before) lawful ready = aborting_started
  ready_begun limit (Issue command ∷ before) lawful ready = ready_begun limit before lawful.0 ready
  ready_begun limit (Refuse command why ∷ before) lawful ready = ready_begun limit before lawful.0 ready
  ready_begun limit (Disconnect ∷ before) lawful ready = disconnecting_started
  ready_begun limit (Wrote n ∷ before) lawful ready = ready_begun limit before lawful.0 ready
  ready_begun limit (Arrived bytes answers ∷ before) lawful ready =
      feed_lasts (rules before) (λ known. known.stage ≢ Created) (started_lasts before) (change (with_answers answers) (reading before)) bytes (living_begun (reading before).known.stage lawful.2)
  ready_begun limit (End answers ∷ before) lawful ready =
      (ended_so before (reading before).known.stage (change (with_answers answers) (reading before))).started
      (ready_begun limit before lawful.0 (ap phase (sym (ended_turns (reading before).known.stage before (change (with_answers answers) (reading before)))) ∙ ready))
  ready_begun limit (LinkFailed answers ∷ before) lawful ready =
      (failed_so before (reading before).known.stage (change (with_answers answers) (reading before))).started
      (ready_begun limit before lawful.0 (ap phase (sym (failed_turns (reading before).known.stage before (change (with_answers answers) (reading before)))) ∙ ready))
  ready_begun limit (Retire cookie ∷ before) lawful ready = ready_begun limit before lawful.0 ready
  ready_begun limit (ClearLog ∷ before) lawful ready = ready_begun limit before lawful.0 ready
  ready_begun limit (Close ∷ before) lawful ready = λ c. closed_started (sym (all_still before Dropped (cookies (asked before).issued) (record (with_answers [] (reading before).known) { stage = Closed })).stage ∙ c)

  pub turns_stay : (limit : ℕ) (since earlier : History K) → Lawful limit (since ++ earlier) → phase (reading earlier).known.turns ≡ Ready → (reading (since ++ earlier)).known.turns ≡ (reading earlier).known.turns
  turns_stay limit [] earlier lawful ready = refl
  turns_stay limit (one ∷ since) earlier lawful ready =
      let same = turns_stay limit since earlier lawful.0 ready in
      let now = ap phase same ∙ ready in
      one_stays limit (since ++ earlier) one lawful.2 (ready_begun limit (since ++ earlier) lawful.0 now) now ∙ same

pub exports_stay : {K : Type 0} → ExportsStay K
exports_stay limit told since earlier lawful knew =
    ap (λ turns. export_at (phase turns) (export (steps turns))) (turns_stay limit since earlier lawful (exported_ready (phase (reading earlier).known.turns) (export (steps (reading earlier).known.turns)) told knew)) ∙ knew

pub told_stays : {K : Type 0} → ToldStays K
told_stays limit size since earlier lawful told =
    let o = of_size (export_known earlier) size told in
    sized_as (export_known (since ++ earlier)) o.0 size (exports_stay limit o.0 since earlier lawful o.1) o.2
