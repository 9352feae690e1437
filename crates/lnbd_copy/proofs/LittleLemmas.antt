-- Little was written on the links that a pause of a copy wants: a handshake, or what a copy of the source's bytes has.
use Rattle.std.proofs.Common.{◌≡◌, inl, inr, ℕ, zero, suc, ◌+◌, ◌*◌, ◌<◌, ◌≤◌, Bool, true, false, not, ◌&&◌, ◌==◌, nat_le, List, [], ◌∷◌, ◌++◌, length, Option, Some, None, slice_get, if◌then◌else◌, arith, refl, ap, sym, subst, ◌∙◌}
use Rattle.std.proofs.lemmas.Bool.{false≢true}
use Rattle.lnbd_callbacks.specs.Calls.{Call}
use Rattle.lnbd_callbacks.specs.Steps.{OneByOne}
use Rattle.lnbd_model.specs.Kind.{has_range}
use Rattle.lnbd_model.specs.declared.kind.Kind.{Kind}
use Rattle.lnbd_model.specs.declared.kind.Kind.TheVariants.{Read, Write, Flush, Trim, Cache, Zero, BlockStatus}
use Rattle.lnbd_model.specs.declared.refusal.Lack.{Lack}
use Rattle.lnbd_model.specs.declared.refusal.Why.{Why}
use Rattle.lnbd_model.specs.declared.state.State.{State}
use Rattle.lnbd_model.specs.declared.state.State.TheVariants as state
use Rattle.lnbd_model.specs.declared.target.Place.{Place}
use Rattle.lnbd_records.specs.Numbers.{has_bit}
use Rattle.lnbd_history.specs.Answers.{direction_after, in_flight_after, state_after}
use Rattle.lnbd_history.specs.Events.{History, Set, StrictMode, Start, Opt, Abort, Issue, Refuse, Disconnect, Wrote, Arrived, End, LinkFailed, Retire, ClearLog, Close}
use Rattle.lnbd_history.specs.History.{asked, strict_mode}
use Rattle.lnbd_history.specs.Laws.{Lawful}
use Rattle.lnbd_history.specs.Refusals.{Terms, bad_flags, by_range, by_state, lack_now, refusal, refuse, terms_after, unsupported}
use Rattle.lnbd_history.specs.Strict.{all_strict, strict_zero_size}
use Rattle.lnbd_standing.proofs.Standing.{stands_right}
use Rattle.lnbd_handle.specs.Histories.{max_unretired}
use Rattle.lnbd_link.specs.Call as wire
use Rattle.lnbd_link.specs.Part.{Adds}
use Rattle.lnbd_link.specs.Traffic.{bytes_written}
use Rattle.lnbd_link.specs.declared.wires.Want.{Want}
use Rattle.lnbd_poll.proofs.HeldLemmas.{wants_same}
use Rattle.lnbd_poll.specs.Held.{Held, AreAt, is_wanting, wants_after, wants_now, with_want}
use Rattle.lnbd_poll.specs.Seen.{Seen}
use Rattle.lnbd_poll.specs.Seen as poll
use Rattle.lnbd_poll.specs.declared.noticed.Turn.{Turn}
use Rattle.lnbd_poll.specs.Turned.{TurnsWhole}
use Rattle.lnbd_plan.specs.Laws.{told_by}
use Rattle.lnbd_board.specs.declared.ticket.Ticket.{Ticket}
use Rattle.lnbd_board.specs.Files as board
use Rattle.lnbd_spoken.proofs.Little.{driven_write_little}
use Rattle.lnbd_spoken.specs.Little.{asked_bytes, longest_handshake}
use Rattle.lnbd_course.proofs.Little.{handles_are_asked_little}
use Rattle.lnbd_course.specs.Between.{Between}
use Rattle.lnbd_course.specs.Counted.{is_flush}
use Rattle.lnbd_course.specs.Little.{AllAskSome, extents_asked}
use Rattle.lnbd_conduct.specs.declared.terms.Terms.{Terms as Settled}
use Rattle.lnbd_conduct.specs.Begun.{opened}
use Rattle.lnbd_copy.specs.Copier.{GoesFurther, HasMet, HasNotBegun, IsOnItsWay, beginning}
use Rattle.lnbd_copy.specs.Copier as copier
use Rattle.lnbd_copy.specs.Driven.{beginning_on}
use Rattle.lnbd_conduct.specs.Driven.{AllMayCome, WentOn}
use Rattle.lnbd_copy.specs.Faults.{AreUnissued, IsFresh, StaysFresh}
use Rattle.lnbd_copy.specs.Job as job
use Rattle.lnbd_conduct.specs.Links.{once_if}
use Rattle.lnbd_copy.specs.Little.{StaysLittle}
use Rattle.lnbd_conduct.specs.Waiting.{WroteAtMost, WroteHandshakes, WroteLittle, most_written}
use Rattle.lnbd_copy.specs.Opening.{Dials}
use Rattle.lnbd_copy.specs.Pauses.{Unpaused}
use Rattle.lnbd_usage.specs.Pauses.{AtEachPause}
use Rattle.lnbd_copy.specs.Way.{Goes, IsOn, IsUnderWay, Stand, Way, WereQueried}
use Rattle.lnbd_conduct.specs.Told.{Told}
use Rattle.lnbd_conduct.specs.declared.sides.Sides.{Sides}
use Rattle.lnbd_copy.proofs.CopierLemmas.{told_as, with_held}
use Rattle.lnbd_copy.proofs.DrivenLemmas.{went_there}
use Rattle.lnbd_copy.proofs.EndLemmas.{planned_once}
use Rattle.lnbd_copy.proofs.FullLemmas.{turned_unpaused}
use Rattle.lnbd_copy.proofs.GroundLemmas.{driven_at}
use Rattle.lnbd_copy.proofs.PauseLemmas.{no_pauses}
use Rattle.lnbd_copy.proofs.PausedLemmas.{told_rests, told_stays}
use Rattle.lnbd_copy.proofs.SettledLemmas.{first_with}
use Rattle.lnbd_copy.proofs.TurnLemmas.{told_begins}
use Rattle.lnbd_copy.proofs.UnaskedLemmas.{both_fresh, both_on, first_fresh, first_stand, fresh_both, told_fact}

abbrev steps : board.Seen → List (Call Ticket) → board.Seen → Type 0
steps = OneByOne board.Files

-- A handle that took no command was asked to write nothing.
nothing_asked : (history : History Ticket) → (asked history).issued ≡ 0 → asked_bytes history ≡ 0
nothing_asked [] none = refl
nothing_asked (Set setting ∷ before) none = nothing_asked before none
nothing_asked (StrictMode bits ∷ before) none = nothing_asked before none
nothing_asked (Start ∷ before) none = nothing_asked before none
nothing_asked (Opt option ∷ before) none = nothing_asked before none
nothing_asked (Abort ∷ before) none = nothing_asked before none
nothing_asked (Issue command ∷ before) none = absurd (omega (arith, none))
nothing_asked (Refuse command why ∷ before) none = nothing_asked before none
nothing_asked (Disconnect ∷ before) none = nothing_asked before none
nothing_asked (Wrote n ∷ before) none = nothing_asked before none
nothing_asked (Arrived bytes answers ∷ before) none = nothing_asked before none
nothing_asked (End answers ∷ before) none = nothing_asked before none
nothing_asked (LinkFailed answers ∷ before) none = nothing_asked before none
nothing_asked (Retire cookie ∷ before) none = nothing_asked before none
nothing_asked (ClearLog ∷ before) none = nothing_asked before none
nothing_asked (Close ∷ before) none = nothing_asked before none

-- A handle that is strict takes no command with a range that has no byte.

some_none : (why : Why) → Some why ≡ None → ⊥
some_none why e = cc

ready_rest : (s : State) (later : Option Why) → by_state s later ≡ None → later ≡ None
ready_rest state.Created later e = absurd (some_none _ e)
ready_rest state.Negotiating later e = absurd (some_none _ e)
ready_rest state.OptMode later e = absurd (some_none _ e)
ready_rest (state.Dead cause) later e = absurd (some_none _ e)
ready_rest state.Closing later e = absurd (some_none _ e)
ready_rest state.Closed later e = absurd (some_none _ e)
ready_rest state.Ready later e = e

passed : (test : Bool) (why : Why) (later : Option Why) → refuse test why later ≡ None → (test ≡ false) × (later ≡ None)
passed true why later e = absurd (some_none why e)
passed false why later e = (refl, e)

supported : (lack : Option Lack) (later : Option Why) → unsupported lack later ≡ None → later ≡ None
supported None later e = e
supported (Some lack) later e = absurd (some_none _ e)

ranged : (kind : Kind) (later : Option Why) → is_flush kind ≡ false → (if has_range kind then later else None) ≡ None → later ≡ None
ranged Read later other e = e
ranged Write later other e = e
ranged Flush later other e = absurd (false≢true (sym other))
ranged Trim later other e = e
ranged Cache later other e = e
ranged Zero later other e = e
ranged BlockStatus later other e = e

some_byte : (strict n : ℕ) → strict ≡ all_strict → (has_bit strict_zero_size strict && (n == 0)) ≡ false → 0 < n
some_byte strict zero is e = absurd (false≢true (sym (sym (ap (λ (m : ℕ). has_bit strict_zero_size m && (0 == 0)) is) ∙ e)))
some_byte strict (suc n) is e = omega arith

taken_asks_some : (limit : ℕ) (terms : Terms) (kind : Kind) (flags offset n : ℕ) → terms.strict ≡ all_strict → is_flush kind ≡ false → refusal limit terms kind flags offset n ≡ None → 0 < n
taken_asks_some limit terms kind flags offset n strict other e =
    let few = passed (nat_le limit terms.held) _ _ (ready_rest terms.state _ e) in
    let able = supported (lack_now terms kind) _ few.1 in
    let flagged = passed (not (bad_flags terms kind flags == 0)) _ _ able in
    some_byte terms.strict n strict (passed (has_bit strict_zero_size terms.strict && (n == 0)) _ _ (ranged kind (by_range terms kind offset n) other flagged.1)).0

-- And so it stays, while nothing is set.

still_strict : (first since : History Ticket) → AllMayCome since → strict_mode (since ++ first) ≡ strict_mode first
still_strict first [] come = refl
still_strict first (Set setting ∷ since) come = absurd (false≢true come.0)
still_strict first (StrictMode bits ∷ since) come = absurd (false≢true come.0)
still_strict first (Start ∷ since) come = absurd (false≢true come.0)
still_strict first (Opt option ∷ since) come = absurd (false≢true come.0)
still_strict first (Abort ∷ since) come = absurd (false≢true come.0)
still_strict first (Issue command ∷ since) come = still_strict first since come.1
still_strict first (Refuse command why ∷ since) come = absurd (false≢true come.0)
still_strict first (Disconnect ∷ since) come = still_strict first since come.1
still_strict first (Wrote n ∷ since) come = still_strict first since come.1
still_strict first (Arrived bytes answers ∷ since) come = still_strict first since come.1
still_strict first (End answers ∷ since) come = still_strict first since come.1
still_strict first (LinkFailed answers ∷ since) come = still_strict first since come.1
still_strict first (Retire cookie ∷ since) come = absurd (false≢true come.0)
still_strict first (ClearLog ∷ since) come = still_strict first since come.1
still_strict first (Close ∷ since) come = absurd (false≢true come.0)

still_ask_some : (limit : ℕ) (first since : History Ticket) → strict_mode first ≡ all_strict → AllAskSome first → AllMayCome since → Lawful limit (since ++ first) → AllAskSome (since ++ first)
still_ask_some limit first [] strict all come lawful = all
still_ask_some limit first (Set setting ∷ since) strict all come lawful = absurd (false≢true come.0)
still_ask_some limit first (StrictMode bits ∷ since) strict all come lawful = absurd (false≢true come.0)
still_ask_some limit first (Start ∷ since) strict all come lawful = absurd (false≢true come.0)
still_ask_some limit first (Opt option ∷ since) strict all come lawful = absurd (false≢true come.0)
still_ask_some limit first (Abort ∷ since) strict all come lawful = absurd (false≢true come.0)
still_ask_some limit first (Issue command ∷ since) strict all come lawful =
    (λ other. taken_asks_some limit (terms_after (since ++ first)) command.kind command.flags command.offset command.length (still_strict first since come.1 ∙ strict) other lawful.2.0, still_ask_some limit first since strict all come.1 lawful.0)
still_ask_some limit first (Refuse command why ∷ since) strict all come lawful = absurd (false≢true come.0)
still_ask_some limit first (Disconnect ∷ since) strict all come lawful = still_ask_some limit first since strict all come.1 lawful.0
still_ask_some limit first (Wrote n ∷ since) strict all come lawful = still_ask_some limit first since strict all come.1 lawful.0
still_ask_some limit first (Arrived bytes answers ∷ since) strict all come lawful = still_ask_some limit first since strict all come.1 lawful.0
still_ask_some limit first (End answers ∷ since) strict all come lawful = still_ask_some limit first since strict all come.1 lawful.0
still_ask_some limit first (LinkFailed answers ∷ since) strict all come lawful = still_ask_some limit first since strict all come.1 lawful.0
still_ask_some limit first (Retire cookie ∷ since) strict all come lawful = absurd (false≢true come.0)
still_ask_some limit first (ClearLog ∷ since) strict all come lawful = still_ask_some limit first since strict all come.1 lawful.0
still_ask_some limit first (Close ∷ since) strict all come lawful = absurd (false≢true come.0)

opened_strict : (name : List ℕ) (extents : Bool) → strict_mode (opened name extents) ≡ all_strict
opened_strict name true = refl
opened_strict name false = refl

opened_asks : (name : List ℕ) (extents : Bool) → AllAskSome (opened name extents)
opened_asks name true = tt
opened_asks name false = tt

-- Each command that a handle of a copy was asked, but a flush, has a byte at least.
went_asks_some : (limit : ℕ) (name : List ℕ) (extents : Bool) (history : History Ticket) → Lawful limit history → WentOn (opened name extents) history → AllAskSome history
went_asks_some limit name extents history lawful went =
    subst AllAskSome (sym went.are) (still_ask_some limit (opened name extents) went.since (opened_strict name extents) (opened_asks name extents) went.come (subst (Lawful limit) went.are lawful))

-- The links that are wanted are links of handles.

with_one : (most : ℕ) (calls : List wire.Call) (link direction : ℕ) (others : List Want) (b : Bool) → length (bytes_written link calls) ≤ most → WroteAtMost most calls others → WroteAtMost most calls (with_want (if b then Some (record { link = link; direction = direction }) else None) others)
with_one most calls link direction others true one rest = (one, rest)
with_one most calls link direction others false one rest = rest

all_wrote : (most : ℕ) (calls : List wire.Call) (seens : List (Seen Ticket)) → ((index : ℕ) (seen : Seen Ticket) → slice_get seens index ≡ Some seen → length (bytes_written seen.link calls) ≤ most) → WroteAtMost most calls (wants_after seens)
all_wrote most calls [] each = tt
all_wrote most calls (seen ∷ others) each =
    with_one most calls seen.link (direction_after seen.history) (wants_after others) (is_wanting (state_after seen.history) (in_flight_after seen.history) (direction_after seen.history)) (each 0 seen refl)
    (all_wrote most calls others (λ index one there. each (suc index) one there))

handles_wrote : (most : ℕ) (calls : List wire.Call) (held : List (Held Ticket)) (seens : List (Seen Ticket)) → AreAt held seens → ((index : ℕ) (seen : Seen Ticket) → slice_get seens index ≡ Some seen → length (bytes_written seen.link calls) ≤ most) →
    WroteAtMost most calls (wants_now held)
handles_wrote most calls held seens at each = subst (WroteAtMost most calls) (sym (wants_same held seens at)) (all_wrote most calls seens each)

no_seen : (seen : Seen Ticket) → None ≡ Some seen → ⊥
no_seen seen e = cc

seen_same : (one other : Seen Ticket) → Some one ≡ Some other → one ≡ other
seen_same one other e = cc

-- Between two turns.

few_questions : (queries at size terms_size often : ℕ) (b : Bool) → queries ≤ at + once_if b → at ≤ size → size ≡ terms_size → often ≤ queries → often ≤ terms_size + 1
few_questions queries at size terms_size often true few inside ends is = omega (arith, few, inside, ends, is)
few_questions queries at size terms_size often false few inside ends is = omega (arith, few, inside, ends, is)

queried_there : (most : ℕ) (seens : List (Seen Ticket)) (index : ℕ) (seen : Seen Ticket) → slice_get seens index ≡ Some seen → WereQueried most seens → extents_asked seen.history ≤ most
queried_there most [] index seen there all = absurd (no_seen seen there)
queried_there most (one ∷ others) zero seen there all = subst (λ (s : Seen Ticket). extents_asked s.history ≤ most) (seen_same one seen there) all.0
queried_there most (one ∷ others) (suc index) seen there all = queried_there most others index seen there all.1

all_together : (wrote asked often size : ℕ) → wrote ≤ longest_handshake + asked → asked ≤ 33 * size + 32 * (often + 1) → often ≤ size + 1 → wrote ≤ most_written size
all_together wrote asked often size one two three = omega (arith, one, two, three)

module _ (j : job.Seen) (way : Way) (now : board.Seen) (parting : Bool) (calls : List wire.Call) (held : List (Held Ticket)) (is : job.IsJob j way now) (well : now.error ≡ None) (on : IsUnderWay parting way now calls held) where
  one_wrote : (index : ℕ) (seen : Seen Ticket) → slice_get on.seens index ≡ Some seen → length (bytes_written seen.link calls) ≤ most_written j.terms.size
  one_wrote index seen there =
      let course = on.stands.between.course in
      let driven = driven_at calls index seen held on.seens there on.at course.drive.drive course.drive.plain in
      let went = went_there (beginning_on way.extents way.from way.to on.has calls) on.seens index seen there on.drives.went in
      let between = subst (λ (o : Option ℕ). Between way.from way.to o way.how on.has way.slices now calls on.seens) is.size on.stands.between in
      let within = is.planned.within in
      let ends = is.ends in
      all_together (length (bytes_written seen.link calls)) (asked_bytes seen.history) (extents_asked seen.history) j.terms.size
      (driven_write_little driven.limit seen.link calls seen.history [] driven.lawful driven.spelled driven.mode driven.drives)
      (handles_are_asked_little way.from way.to j.terms.size way.how on.has way.slices j.windows.plan.slices now calls on.seens j.windows.plan.cells (told_by 0 is.planned.parts) j.windows.plan.end index seen
      between well (planned_once j way now is) (omega (arith, within, ends)) there (went_asks_some driven.limit _ _ seen.history driven.lawful went))
      (few_questions way.queries j.windows.at j.windows.size j.terms.size (extents_asked seen.history) j.asked is.onward.few is.onward.inside is.ends (queried_there way.queries on.seens index seen there on.queried))

  under_way_wrote : WroteAtMost (most_written j.terms.size) calls (wants_now held)
  under_way_wrote = handles_wrote (most_written j.terms.size) calls held on.seens on.at one_wrote

-- So it is of a copy on its way, whose board was told of no error.
pub way_little : (copy : copier.Seen) (start told : Option (List wire.Call)) → copy.board.error ≡ None → IsOnItsWay start told copy → Told start told (λ calls. WroteLittle copy.options.extents copy.from copy.to calls (wants_now copy.held))
way_little copy start told well on =
    let first = on.settled.first in
    told_as start told (λ calls settled. inr settled)
    (first_with (λ source destination calls. WroteAtMost (most_written source.size) calls (wants_now copy.held)) copy.options copy.from copy.to start told on.job.terms first
    (told_as start told
    (λ calls is. subst (λ (n : ℕ). WroteAtMost (most_written n) calls (wants_now copy.held)) first.settled.size (under_way_wrote on.job on.way copy.board (job.is_parting on.job.phase) calls copy.held on.is well is))
    on.on))

-- It pauses.
pub little_rests : (copy now : copier.Seen) (start a b : Option (List wire.Call)) → now.options.extents ≡ copy.options.extents → now.from ≡ copy.from → now.to ≡ copy.to → Adds a b (wire.Pause (wants_now now.held)) → Told start a (λ calls. WroteLittle now.options.extents now.from now.to calls (wants_now now.held)) →
    Told start a (AtEachPause (WroteLittle copy.options.extents copy.from copy.to)) → Told start b (AtEachPause (WroteLittle copy.options.extents copy.from copy.to))
little_rests copy now start a b extents from to adds little told =
    told_rests start a b (wants_now now.held) adds
    (told_as start a
    (λ calls is. subst (λ t. WroteLittle copy.options.extents copy.from t calls (wants_now now.held)) to
    (subst (λ f. WroteLittle copy.options.extents f now.to calls (wants_now now.held)) from (subst (λ e. WroteLittle e now.from now.to calls (wants_now now.held)) extents is)))
    little) told

-- Until it is on its way only handshakes were written.
pub little_begins : (extents : Bool) (from to : Place) (start told : Option (List wire.Call)) → Told start told (AtEachPause WroteHandshakes) → Told start told (AtEachPause (WroteLittle extents from to))
little_begins extents from to start told short = told_as start told (λ calls each before after wants are. inl (each before after wants are)) short

-- Before any command.

unissued_there : (held : List (Held Ticket)) (seens : List (Seen Ticket)) → AreAt held seens → AreUnissued held → (index : ℕ) (seen : Seen Ticket) → slice_get seens index ≡ Some seen → (asked seen.history).issued ≡ 0
unissued_there held [] at none index seen there = absurd (no_seen seen there)
unissued_there [] (first ∷ all) at none index seen there = absurd at
unissued_there (one ∷ others) (first ∷ all) at none zero seen there =
    subst (λ (s : Seen Ticket). (asked s.history).issued ≡ 0) (seen_same first seen there) (sym (stands_right max_unretired first.history one.handle at.0.stands).issued ∙ none.0)
unissued_there (one ∷ others) (first ∷ all) at none (suc index) seen there = unissued_there others all at.1 none.1 index seen there

only_handshake : (wrote asked : ℕ) → wrote ≤ longest_handshake + asked → asked ≡ 0 → wrote ≤ longest_handshake
only_handshake wrote asked few none = omega (arith, few, none)

fresh_wrote : (way : Way) (now : board.Seen) (held : List (Held Ticket)) (calls : List wire.Call) → IsFresh way now held calls → WroteHandshakes calls (wants_now held)
fresh_wrote way now held calls fresh =
    let on = fresh.on in
    let course = on.stands.between.course in
    handles_wrote longest_handshake calls held on.seens on.at
    (λ index seen there.
    let driven = driven_at calls index seen held on.seens there on.at course.drive.drive course.drive.plain in
    only_handshake (length (bytes_written seen.link calls)) (asked_bytes seen.history) (driven_write_little driven.limit seen.link calls seen.history [] driven.lawful driven.spelled driven.mode driven.drives)
    (nothing_asked seen.history (unissued_there held on.seens on.at fresh.unissued index seen there)))

-- Steps.

pub little_none : (now : board.Seen) (held : List (Held Ticket)) (told : Option (List wire.Call)) → StaysLittle now held told told
little_none now held told = record { on = λ way start s fresh little. little }

-- one without a pause, whatever came of it
pub little_unpaused : (now : board.Seen) (held : List (Held Ticket)) (a b : Option (List wire.Call)) → (Stand held → Unpaused a b) → StaysLittle now held a b
little_unpaused now held a b unpaused = record { on = λ way start s fresh little. told_stays start a b (unpaused s) little }

-- a pause
pub little_paused : (now : board.Seen) (held : List (Held Ticket)) (a b : Option (List wire.Call)) → Adds a b (wire.Pause (wants_now held)) → StaysLittle now held a b
little_paused now held a b adds = record { on = λ way start s fresh little. told_rests start a b (wants_now held) adds (told_as start a (λ calls is. fresh_wrote way now held calls is) fresh) little }

pub little_turn : (a b : Option (List wire.Call)) (f g : ℕ) (turn : Turn) (now now' : board.Seen) (held held' : List (Held Ticket))
    → poll.Goes a b (λ seens. AreAt held seens) (λ seens. AreAt held' seens) (λ before calls after. TurnsWhole steps f g turn before now calls after now') → StaysLittle now held a b
little_turn a b f g turn now now' held held' goes = little_unpaused now held a b (λ s. turned_unpaused a b f g turn now now' held held' goes s)

pub little_then : (now now2 : board.Seen) (held held2 : List (Held Ticket)) (a b c : Option (List wire.Call)) → (Stand held → Stand held2) → StaysFresh now held a now2 held2 b → StaysLittle now held a b → StaysLittle now2 held2 b c → StaysLittle now held a c
little_then now now2 held held2 a b c stand fresh one two = record { on = λ way start s is little. two.on way start (stand s) (fresh.on way start s is) (one.on way start s is little) }

-- While the first connections are made, and further ones.

-- the first one is dialled
pub source_dials : (t u : Option (List wire.Call)) → Unpaused t u → Told t u (AtEachPause WroteHandshakes)
source_dials t u dials = told_stays t t u dials (told_begins t (no_pauses WroteHandshakes))

module _ (s0 s1 : copier.Seen) (t u : Option (List wire.Call)) (same : s1.board ≡ s0.board) (first : Dials s0.from s0.options.extents s0.board s0.held t s1.held u) (none : HasNotBegun s0) (unissued1 : AreUnissued s0.held → AreUnissued s1.held) (dials : Unpaused t u) where
  -- and negotiates
  pub source_little : (v : Option (List wire.Call)) → StaysLittle s1.board s1.held u v → Told t v (AtEachPause WroteHandshakes)
  source_little v settles = settles.on _ t (first_stand s0 s1 t u same first none unissued1) (first_fresh s0 s1 t u same first none unissued1) (source_dials t u dials)

  -- the other one, too
  pub both_little : (s2 s3 : copier.Seen) (v w x : Option (List wire.Call)) → s1 ≡ with_held s0 s1 → s2 ≡ with_held s1 s2 → s3.board ≡ s2.board → Goes s1.board s1.held u s2.board s2.held v → StaysFresh s1.board s1.held u s2.board s2.held v →
      Dials s2.to false s2.board s2.held v s3.held w → (AreUnissued s2.held → AreUnissued s3.held) → StaysLittle s1.board s1.held u v → Unpaused v w → StaysLittle s3.board s3.held w x → Told t x (AtEachPause WroteHandshakes)
  both_little s2 s3 v w x k1 k2 b3 one fresh1 second unissued3 settles dials2 settles2 =
      settles2.on _ t (both_on s0 s1 t u same first none unissued1 s2 s3 v w k1 k2 b3 one fresh1 second unissued3).0 (both_fresh s0 s1 t u same first none unissued1 s2 s3 v w k1 k2 b3 one fresh1 second unissued3)
      (told_stays t v w dials2 (source_little v settles))

pub further_little : (copy mid : copier.Seen) (sides : Sides) (start a b c : Option (List wire.Call)) → GoesFurther copy sides 2 copy.board copy.held a mid.board mid.held b → StaysLittle mid.board mid.held b c → (AreUnissued copy.held → AreUnissued mid.held) → Unpaused a b → (terms : Settled) → HasMet copy start a terms →
    sides ≡ terms.sides → Told start a (λ calls. AreUnissued copy.held) → length copy.held ≡ 2 → Told start a (AtEachPause WroteHandshakes) → Told start c (AtEachPause WroteHandshakes)
further_little copy mid sides start a b c further settles unissued unpaused terms met same none two little =
    settles.on (beginning copy (Some terms.size) terms.how sides) start (further.stand met.stand)
    (fresh_both (beginning copy (Some terms.size) terms.how sides) mid.board mid.held start b
    (further.on (Some terms.size) terms.how start met.stand two (subst (λ (x : Sides). Told start a (λ calls. IsOn (beginning copy (Some terms.size) terms.how x) copy.board calls copy.held)) (sym same) met.on))
    (told_fact start a b (further.lasts met.stand) unissued none))
    (told_stays start a b unpaused little)
