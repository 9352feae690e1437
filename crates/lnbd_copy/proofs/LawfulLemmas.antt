-- What a copy asks of handles that may be asked breaks no rule but those on how many commands there are, and on whole blocks.
use Rattle.std.proofs.Common.{◌≡◌, ◌<◌, ◌≤◌, ltb-true, ◌+◌, ◌-◌, ◌==◌, max, nat_le, nat_lt, ℕ, zero, suc, Bool, true, false, not, ◌&&◌, List, [], ◌∷◌, length, Option, Some, None, is_some, slice_get, if◌then◌else◌, bit_and, refl, ap, sym, subst, ◌∙◌, arith}
use Rattle.std.proofs.lemmas.Bool.{false≢true, ne_eqb}
use Rattle.std.proofs.lemmas.Grind.{common_steps}
use Rattle.lnbd_model.specs.declared.export.Blocks.{Blocks}
use Rattle.lnbd_model.specs.declared.export.Context.{Context}
use Rattle.lnbd_model.specs.declared.export.ExportInfo.{ExportInfo}
use Rattle.lnbd_model.specs.declared.kind.Kind.{Kind}
use Rattle.lnbd_model.specs.declared.kind.Kind.TheVariants.{Read, Write, Flush, Trim, Cache, Zero, BlockStatus}
use Rattle.lnbd_model.specs.declared.refusal.Lack.{Lack}
use Rattle.lnbd_model.specs.declared.refusal.Lack.TheVariants as lack
use Rattle.lnbd_model.specs.declared.refusal.Why.{Why}
use Rattle.lnbd_model.specs.declared.refusal.Why.TheVariants as why
use Rattle.lnbd_model.specs.declared.state.State.{State}
use Rattle.lnbd_model.specs.declared.state.State.TheVariants as state
use Rattle.lnbd_model.specs.Kind.{has_range}
use Rattle.lnbd_records.specs.Flags.{flag_read_only, flag_send_fast_zero, flag_send_flush, flag_send_fua, flag_send_write_zeroes}
use Rattle.lnbd_records.specs.Limits.{max_range}
use Rattle.lnbd_records.specs.Numbers.{has_bit}
use Rattle.lnbd_callbacks.specs.Calls.{Call}
use Rattle.lnbd_history.specs.Agreement.{Export, contexts, export, extended, is_empty, steps, structured}
use Rattle.lnbd_history.specs.Answers.{info_of}
use Rattle.lnbd_link.specs.Call as wire
use Rattle.lnbd_history.specs.Commands.{Command}
use Rattle.lnbd_history.specs.Events.{History}
use Rattle.lnbd_history.specs.History.{reading}
use Rattle.lnbd_history.specs.Refusals.{Terms, bad_flags, blocks_in, by_range, by_state, flag_if, flags_in, is_aligned, lack_now, lack_of, length_limit, minimum, payload_limit, range_limit, refusal, refuse, size_in, terms_after, unsupported}
use Rattle.lnbd_history.specs.Strict.{strict_align, strict_bounds, strict_commands, strict_flags, strict_zero_size}
use Rattle.lnbd_machine.specs.Machine.{Machine}
use Rattle.lnbd_machine.specs.Now.{refusal_now}
use Rattle.lnbd_standing.specs.Standing.{StandsFor}
use Rattle.lnbd_standing.proofs.Standing.{stands_right}
use Rattle.lnbd_handle.specs.declared.issue.IssueFault.{IssueFault}
use Rattle.lnbd_handle.specs.declared.issue.IssueFault.TheVariants.{NoMemory, Refused}
use Rattle.lnbd_handle.specs.Issues.{Faults, block_status_of, flush_of, read_of, write_of, zero_of}
use Rattle.lnbd_handle.specs.Histories.{max_unretired}
use Rattle.lnbd_poll.specs.Held.{Held, AreAt}
use Rattle.lnbd_poll.specs.Seen.{Seen}
use Rattle.lnbd_board.specs.declared.ask.Change.{Change}
use Rattle.lnbd_board.specs.declared.ask.Change.TheVariants as change
use Rattle.lnbd_board.specs.declared.how.How.{How}
use Rattle.lnbd_board.specs.declared.ticket.Ticket.{Ticket}
use Rattle.lnbd_board.specs.declared.ticket.Ticket.TheVariants as ticket
use Rattle.lnbd_board.specs.declared.ask.Ask.{Ask}
use Rattle.lnbd_board.specs.declared.ask.Ask.TheVariants as ask
use Rattle.lnbd_board.specs.Asks.{IsChangeOf, IsFirstOf, IsPartOf}
use Rattle.lnbd_board.specs.declared.row.Row.{Row}
use Rattle.lnbd_board.specs.Pieces.{zero_flags}
use Rattle.lnbd_plan.specs.declared.cells.Cells.{Cells}
use Rattle.lnbd_plan.specs.declared.grid.Slice.{Slice}
use Rattle.lnbd_plan.specs.declared.fault.Rule.{Rule}
use Rattle.lnbd_plan.specs.declared.fault.Rule.TheVariants as rule
use Rattle.lnbd_board.specs.declared.next.Next.{Next}
use Rattle.lnbd_board.specs.declared.next.Next.TheVariants as next
use Rattle.lnbd_board.specs.Board.{AsksOn, IsNext}
use Rattle.lnbd_board.specs.Files as board
use Rattle.lnbd_course.specs.Orders.{command_of}
use Rattle.lnbd_conduct.specs.declared.sides.Sides.{Sides}
use Rattle.lnbd_conduct.specs.Answered.{contexts_in}
use Rattle.lnbd_conduct.specs.Grounds.{IsShown}
use Rattle.lnbd_conduct.specs.Sides.{is_source}
use Rattle.lnbd_conduct.specs.Slices.{cells_of}
use Rattle.lnbd_conduct.specs.Terms.{connections, flag_can_multi_conn, takes_zeroes}
use Rattle.lnbd_plan.specs.declared.options.CopyOptions.{CopyOptions}
use Rattle.lnbd_conduct.specs.declared.terms.Terms.{Terms as Settled}
use Rattle.lnbd_copy.specs.Agreed.{AreQuiet}
use Rattle.lnbd_copy.specs.Copier.{HasMet}
use Rattle.lnbd_copy.specs.Copier as copier
use Rattle.lnbd_copy.specs.Grounds.{AllSame, Happens}
use Rattle.lnbd_copy.specs.Job as work
use Rattle.lnbd_copy.specs.Ready.{HasContext, IsExpected, IsMeasured, IsReadyFor, MayAct, MayAsk, MayBegin, MayServe, MayTake, MayTakeFirst, is_measured, told_on}
use Rattle.lnbd_copy.specs.Windows.{AllFit, IsFit}
use Rattle.lnbd_copy.specs.Windows as windows
use Rattle.lnbd_copy.proofs.AlikeLemmas.{each_alike}
use Rattle.lnbd_copy.proofs.FitLemmas.{fit_at}
use Rattle.lnbd_copy.proofs.LimitLemmas.{cell_read, cell_written, payload_small, zero_cell_zeroed}

-- A range has bytes, but no more than so many, and ends where so many are or before.
pub record IsWithin (size most offset length : ℕ) : Type 0 where
  pub some : 0 < length
  pub within : offset + length ≤ size
  pub few : length ≤ most

-- the most bytes that a command may have at least, of an export that told such blocks
abbrev most_of : Option Blocks → Kind → ℕ
most_of blocks Read = payload_limit blocks
most_of blocks Write = payload_limit blocks
most_of blocks Flush = max_range
most_of blocks Trim = max_range
most_of blocks Cache = max_range
most_of blocks Zero = max_range
most_of blocks BlockStatus = max_range

-- By the rules alone.

refuse_measured : (test : Bool) (rule : Why) (later : Option Why) → is_measured rule ≡ true → IsMeasured later → IsMeasured (refuse test rule later)
refuse_measured true rule later measured rest = measured
refuse_measured false rule later measured rest = rest

refuse_none : (test : Bool) (rule : Why) (later : Option Why) → test ≡ false → IsMeasured later → IsMeasured (refuse test rule later)
refuse_none test rule later none rest = subst (λ (b : Bool). IsMeasured (refuse b rule later)) (sym none) rest

-- where its range has bytes, but no more than it may, and ends where the export does or before
range_measured : (terms : Terms) (kind : Kind) (offset length : ℕ) → IsWithin terms.size (length_limit terms kind) offset length → IsMeasured (by_range terms kind offset length)
range_measured terms kind offset length inside =
    let aligned : Option Why = refuse (has_bit strict_align terms.strict && not (is_aligned (minimum terms.blocks) offset length)) (why.Align (minimum terms.blocks)) None in
    let bounded : Option Why = refuse (has_bit strict_bounds terms.strict && nat_lt terms.size (offset + length)) (why.Bounds terms.size) aligned in
    let limited : Option Why = refuse (nat_lt (length_limit terms kind) length) (why.TooBig (length_limit terms kind)) bounded in
    refuse_none (has_bit strict_zero_size terms.strict && (length == 0)) why.ZeroSize limited (none_and (has_bit strict_zero_size terms.strict) (length == 0) (not_none length inside.some))
    (refuse_none (nat_lt (length_limit terms kind) length) (why.TooBig (length_limit terms kind)) bounded (not_past (length_limit terms kind) length inside.few)
    (refuse_none (has_bit strict_bounds terms.strict && nat_lt terms.size (offset + length)) (why.Bounds terms.size) aligned (none_and (has_bit strict_bounds terms.strict) (nat_lt terms.size (offset + length)) (not_past terms.size (offset + length) inside.within))
    (refuse_measured (has_bit strict_align terms.strict && not (is_aligned (minimum terms.blocks) offset length)) (why.Align (minimum terms.blocks)) None refl tt)))
  where
    none_and : (a b : Bool) → b ≡ false → a && b ≡ false
    none_and true b none = none
    none_and false b none = refl

    not_none : (n : ℕ) → 0 < n → (n == 0) ≡ false
    not_none n some = ne_eqb n 0 (λ none. omega (arith, some, none))

    not_past : (size end : ℕ) → end ≤ size → nat_lt size end ≡ false
    not_past size end l = grind (arith, common_steps)

-- a command with a range has bytes, but no more than so many, and ends where the export does or before
abbrev pub Lies : Bool → (size most offset length : ℕ) → Type 0
Lies false size most offset length = Unit {0}
Lies true size most offset length = IsWithin size most offset length

-- By what was told at least so many are allowed.

no_fewer : (n : ℕ) → n ≤ n
no_fewer n = omega arith

no_more : (a b c : ℕ) → a ≤ b → b ≤ c → a ≤ c
no_more a b c one two = omega (arith, one, two)

range_allowed : (extended : Bool) → max_range ≤ range_limit extended
range_allowed true = omega arith
range_allowed false = omega arith

allowed : (terms : Terms) (blocks : Option Blocks) → terms.blocks ≡ blocks → (kind : Kind) → most_of blocks kind ≤ length_limit terms kind
allowed terms blocks same Read = subst (λ (b : Option Blocks). payload_limit blocks ≤ payload_limit b) (sym same) (no_fewer (payload_limit blocks))
allowed terms blocks same Write = subst (λ (b : Option Blocks). payload_limit blocks ≤ payload_limit b) (sym same) (no_fewer (payload_limit blocks))
allowed terms blocks same Flush = range_allowed terms.extended
allowed terms blocks same Trim = range_allowed terms.extended
allowed terms blocks same Cache = range_allowed terms.extended
allowed terms blocks same Zero = range_allowed terms.extended
allowed terms blocks same BlockStatus = range_allowed terms.extended

lies_so : (ranged : Bool) (size size' most most' offset length : ℕ) → size' ≡ size → most ≤ most' → Lies ranged size most offset length → Lies ranged size' most' offset length
lies_so false size size' most most' offset length same more lies = tt
lies_so true size size' most most' offset length same more lies = record { some = lies.some; within = (let within = lies.within in omega (arith, within, same)); few = (let few = lies.few in omega (arith, few, more)) }

ranged_measured : (ranged : Bool) (terms : Terms) (kind : Kind) (offset length : ℕ) → Lies ranged terms.size (length_limit terms kind) offset length → IsMeasured (if ranged then by_range terms kind offset length else None)
ranged_measured true terms kind offset length lies = range_measured terms kind offset length lies
ranged_measured false terms kind offset length lies = tt

-- a handle that is ready, what is asked of an export that has it, with flags that are allowed
module _ (terms : Terms) (kind : Kind) (flags offset length : ℕ) (ready : terms.state ≡ state.Ready) (none : lack_of terms kind ≡ None) (good : bad_flags terms kind flags ≡ 0) (lies : Lies (has_range kind) terms.size (length_limit terms kind) offset length) where
  by_flags_measured : IsMeasured (refuse (not (bad_flags terms kind flags == 0)) (why.BadFlags (bad_flags terms kind flags)) (if has_range kind then by_range terms kind offset length else None))
  by_flags_measured =
      subst (λ (bad : ℕ). IsMeasured (refuse (not (bad == 0)) (why.BadFlags bad) (if has_range kind then by_range terms kind offset length else None))) (sym good)
      (ranged_measured (has_range kind) terms kind offset length lies)

  lack_is_none : lack_now terms kind ≡ None
  lack_is_none = go (has_bit strict_commands terms.strict)
    where
      go : (b : Bool) → (if b then lack_of terms kind else None) ≡ None
      go true = none
      go false = refl

  pub measured : (limit : ℕ) → IsMeasured (refusal limit terms kind flags offset length)
  measured limit =
      let later : Option Why = refuse (not (bad_flags terms kind flags == 0)) (why.BadFlags (bad_flags terms kind flags)) (if has_range kind then by_range terms kind offset length else None) in
      subst (λ (s : State). IsMeasured (by_state s (refuse (nat_le limit terms.held) (why.TooMany limit) (unsupported (lack_now terms kind) later)))) (sym ready)
      (refuse_measured (nat_le limit terms.held) (why.TooMany limit) (unsupported (lack_now terms kind) later) refl (subst (λ (l : Option Lack). IsMeasured (unsupported l later)) (sym lack_is_none) by_flags_measured))

-- Flags.

no_flags : (terms : Terms) (kind : Kind) → bad_flags terms kind 0 ≡ 0
no_flags terms kind = omega arith

zeroing_flags : (terms : Terms) (allocated : Bool) → bad_flags terms Zero (zero_flags allocated) ≡ 0
zeroing_flags terms false = omega arith
zeroing_flags terms true = go (has_bit strict_flags terms.strict) (has_bit flag_send_fua terms.flags) (has_bit flag_send_fast_zero terms.flags)
  where
    go : (strict fua fast : Bool) → 2 - bit_and 2 (if strict then flag_if fua 1 + 2 + flag_if fast 16 else 65503) ≡ 0
    go true true true = refl
    go true true false = refl
    go true false true = refl
    go true false false = refl
    go false fua fast = refl

-- What a handle was told is what it judges by.

flags_told : (told : Option Export) (all : List Context) (structured extended : Bool) (info : ExportInfo) → info_of told all structured extended ≡ Some info → flags_in told ≡ info.flags
flags_told None all structured extended info e = absurd (none_some e)
  where
    none_some : None ≡ Some info → ⊥
    none_some e = cc
flags_told (Some one) all structured extended info e = ap (λ (i : Option ExportInfo). flags_of i) e
  where
    flags_of : Option ExportInfo → ℕ
    flags_of None = 0
    flags_of (Some i) = i.flags

contexts_told : (told : Option Export) (all : List Context) (structured extended : Bool) → is_empty (contexts_in (info_of told all structured extended)) ≡ false → is_empty all ≡ false
contexts_told None all structured extended e = absurd (false≢true (sym e))
contexts_told (Some one) all structured extended e = e

ready_flags : (info : ExportInfo) (history : History Ticket) → IsReadyFor info history → (terms_after history).flags ≡ info.flags
ready_flags info history ready =
    let all = steps (reading history).known.turns in
    flags_told (export all) (contexts all) (structured all) (extended all) ready.other ready.shown.shown ∙ sym ready.same.flags

size_told : (told : Option Export) (all : List Context) (structured extended : Bool) (info : ExportInfo) → info_of told all structured extended ≡ Some info → size_in told ≡ info.size
size_told None all structured extended info e = absurd (none_some e)
  where
    none_some : None ≡ Some info → ⊥
    none_some e = cc
size_told (Some one) all structured extended info e = ap (λ (i : Option ExportInfo). size_of i) e
  where
    size_of : Option ExportInfo → ℕ
    size_of None = 0
    size_of (Some i) = i.size

ready_size : (info : ExportInfo) (history : History Ticket) → IsReadyFor info history → (terms_after history).size ≡ info.size
ready_size info history ready =
    let all = steps (reading history).known.turns in
    size_told (export all) (contexts all) (structured all) (extended all) ready.other ready.shown.shown ∙ sym ready.same.size

blocks_told : (told : Option Export) (all : List Context) (structured extended : Bool) (info : ExportInfo) → info_of told all structured extended ≡ Some info → blocks_in told ≡ info.blocks
blocks_told None all structured extended info e = absurd (none_some e)
  where
    none_some : None ≡ Some info → ⊥
    none_some e = cc
blocks_told (Some one) all structured extended info e = ap (λ (i : Option ExportInfo). blocks_of i) e
  where
    blocks_of : Option ExportInfo → Option Blocks
    blocks_of None = None
    blocks_of (Some i) = i.blocks

ready_blocks : (info : ExportInfo) (history : History Ticket) → IsReadyFor info history → (terms_after history).blocks ≡ info.blocks
ready_blocks info history ready =
    let all = steps (reading history).known.turns in
    blocks_told (export all) (contexts all) (structured all) (extended all) ready.other ready.shown.shown ∙ sym ready.same.blocks

-- What lies so by what a handle was told lies so by what it judges by.
lies_here : (command : Command Ticket) (info : ExportInfo) (history : History Ticket) → IsReadyFor info history → Lies (has_range command.kind) info.size (most_of info.blocks command.kind) command.offset command.length →
    Lies (has_range command.kind) (terms_after history).size (length_limit (terms_after history) command.kind) command.offset command.length
lies_here command info history ready lies =
    lies_so (has_range command.kind) info.size (terms_after history).size (most_of info.blocks command.kind) (length_limit (terms_after history) command.kind) command.offset command.length (ready_size info history ready)
    (allowed (terms_after history) info.blocks (ready_blocks info history ready) command.kind) lies

-- Where no rule but these holds by its history, none does by the handle.
module _ (command : Command Ticket) where
  stands_measured : (history : History Ticket) (handle : Machine Ticket) → StandsFor max_unretired history handle → IsMeasured (refusal max_unretired (terms_after history) command.kind command.flags command.offset command.length) → IsMeasured (refusal_now max_unretired handle.known command)
  stands_measured history handle stands is = subst IsMeasured (sym ((stands_right max_unretired history handle stands).refusal max_unretired command)) is

  none_handle : (handle : Machine Ticket) → None ≡ Some handle → ⊥
  none_handle handle e = cc

  some_handle : (one other : Machine Ticket) → Some one ≡ Some other → one ≡ other
  some_handle one other e = cc

  held_measured : (infos : ℕ → ExportInfo) (index : ℕ) (held : List (Held Ticket)) (seens : List (Seen Ticket)) → AreAt held seens → ((at : ℕ) (seen : Seen Ticket) → slice_get seens at ≡ Some seen → IsReadyFor (infos at) seen.history) →
      ((seen : Seen Ticket) → slice_get seens index ≡ Some seen → IsReadyFor (infos index) seen.history → lack_of (terms_after seen.history) command.kind ≡ None) → ((terms : Terms) → bad_flags terms command.kind command.flags ≡ 0) → Lies (has_range command.kind) (infos index).size (most_of (infos index).blocks command.kind) command.offset command.length → MayTake index command held
  held_measured infos index [] seens at each has good lies = λ handle is. absurd (none_handle handle is)
  held_measured infos index (one ∷ held) [] at each has good lies = absurd at
  held_measured infos zero (one ∷ held) (seen ∷ seens) at each has good lies = λ handle is.
      subst (λ (m : Machine Ticket). IsMeasured (refusal_now max_unretired m.known command)) (some_handle one.handle handle is)
      (stands_measured seen.history one.handle at.0.stands
      (measured (terms_after seen.history) command.kind command.flags command.offset command.length (each 0 seen refl).shown.ready (has seen refl (each 0 seen refl)) (good (terms_after seen.history)) (lies_here command (infos 0) seen.history (each 0 seen refl) lies) max_unretired))
  held_measured infos (suc index) (one ∷ held) (seen ∷ seens) at each has good lies = held_measured (λ i. infos (suc i)) index held seens at.1 (λ i s e. each (suc i) s e) (λ s e. has s e) good lies

-- What is asked of handles that may be asked.
module _ (sides : Sides) (zeroes flush asks : Bool) (held : List (Held Ticket)) (may : MayAsk sides zeroes flush asks held) where
  abbrev infos : ℕ → ExportInfo
  infos index = told_on may.source may.destination (is_source sides index)

  -- flags that both sides tell
  on_destination : (index : ℕ) (history : History Ticket) → is_source sides index ≡ false → IsReadyFor (infos index) history → (terms_after history).flags ≡ may.destination.flags
  on_destination index history side ready = ready_flags (infos index) history ready ∙ ap (λ (b : Bool). (told_on may.source may.destination b).flags) side

  -- and what lies in the source lies in both
  within_source : (kind : Kind) (index offset length : ℕ) → is_source sides index ≡ true → IsWithin may.size (most_of may.source.blocks kind) offset length → IsWithin (infos index).size (most_of (infos index).blocks kind) offset length
  within_source kind index offset length side inside =
      subst (λ (b : Bool). IsWithin (told_on may.source may.destination b).size (most_of (told_on may.source may.destination b).blocks kind) offset length) (sym side)
      (record { some = inside.some; within = (let l = inside.within in omega (arith, l, may.room)); few = inside.few })

  within_destination : (kind : Kind) (index offset length : ℕ) → is_source sides index ≡ false → IsWithin may.size (most_of may.destination.blocks kind) offset length → IsWithin (infos index).size (most_of (infos index).blocks kind) offset length
  within_destination kind index offset length side inside =
      subst (λ (b : Bool). IsWithin (told_on may.source may.destination b).size (most_of (told_on may.source may.destination b).blocks kind) offset length) (sym side)
      (record { some = inside.some; within = (let l = inside.within in let room = may.room' in omega (arith, l, room)); few = inside.few })

  pub read_taken : (index : ℕ) (bytes : List ℕ) (offset : ℕ) (done : Ticket) → is_source sides index ≡ true → IsWithin may.size (payload_limit may.source.blocks) offset (length bytes) → MayTake index (read_of bytes offset done 0) held
  read_taken index bytes offset done side inside =
      held_measured (read_of bytes offset done 0) infos index held may.ready.seens may.ready.at may.ready.each (λ seen there ready. refl) (λ terms. no_flags terms Read) (within_source Read index offset (length bytes) side inside)

  pub write_taken : (index : ℕ) (bytes : List ℕ) (offset : ℕ) (done : Ticket) → is_source sides index ≡ false → IsWithin may.size (payload_limit may.destination.blocks) offset (length bytes) → MayTake index (write_of bytes offset done 0) held
  write_taken index bytes offset done side inside =
      held_measured (write_of bytes offset done 0) infos index held may.ready.seens may.ready.at may.ready.each
      (λ seen there ready. ap (λ (f : ℕ). if has_bit flag_read_only f then Some lack.ReadOnly else None) (on_destination index seen.history side ready) ∙ ap (λ (b : Bool). if b then Some lack.ReadOnly else None) may.writes)
      (λ terms. no_flags terms Write) (within_destination Write index offset (length bytes) side inside)

  pub zero_taken : (index length offset : ℕ) (done : Ticket) (flags : ℕ) (allocated : Bool) → is_source sides index ≡ false → zeroes ≡ true → flags ≡ zero_flags allocated → IsWithin may.size max_range offset length → MayTake index (zero_of length offset done flags) held
  zero_taken index length offset done flags allocated side taken are inside =
      held_measured (zero_of length offset done flags) infos index held may.ready.seens may.ready.at may.ready.each
      (λ seen there ready.
      ap (λ (f : ℕ). if has_bit flag_read_only f then Some lack.ReadOnly else if has_bit flag_send_write_zeroes f then None else Some lack.Zero) (on_destination index seen.history side ready)
      ∙ ap (λ (b : Bool). if b then Some lack.ReadOnly else if has_bit flag_send_write_zeroes may.destination.flags then None else Some lack.Zero) may.writes
      ∙ ap (λ (b : Bool). if b then None else Some lack.Zero) (may.zeroing taken))
      (λ terms. ap (bad_flags terms Zero) are ∙ zeroing_flags terms allocated) (within_destination Zero index offset length side inside)

  pub flush_taken : (index : ℕ) (done : Ticket) → is_source sides index ≡ false → flush ≡ true → MayTake index (flush_of done 0) held
  flush_taken index done side wanted =
      held_measured (flush_of done 0) infos index held may.ready.seens may.ready.at may.ready.each
      (λ seen there ready. ap (λ (f : ℕ). if has_bit flag_send_flush f then None else Some lack.Flush) (on_destination index seen.history side ready) ∙ ap (λ (b : Bool). if b then None else Some lack.Flush) (may.flushing wanted))
      (λ terms. no_flags terms Flush) tt

  pub extents_taken : (length offset : ℕ) (first done : Ticket) → asks ≡ true → IsWithin may.size max_range offset length → MayTake 0 (block_status_of length offset first done 0) held
  extents_taken length offset first done asked inside =
      held_measured (block_status_of length offset first done 0) infos 0 held may.ready.seens may.ready.at may.ready.each
      (λ seen there ready.
      let all = steps (reading seen.history).known.turns in
      ap (λ (b : Bool). if not b then None else Some lack.Context) (contexts_told (export all) (contexts all) (structured all) (extended all) (may.ready.context asked seen there)))
      (λ terms. no_flags terms BlockStatus) (within_source BlockStatus 0 offset length refl inside)

  -- a part of a slice that fits, which has no more bytes than this
  part_inside : (slice : Slice) (most offset length : ℕ) → IsFit may.size may.cells slice → slice.length ≤ most → IsPartOf slice offset length → IsWithin may.size most offset length
  part_inside slice most offset length fit small part = record {
    some = part.some fit.some;
    within = (let l = part.before in let within = fit.within in omega (arith, l, within));
    few = (let from = part.after in let to = part.before in omega (arith, from, to, small));
  }

  -- no slice that is read, written or zeroed has more bytes than may be
  read_few : (slice : Slice) → slice.zero ≡ false → IsFit may.size may.cells slice → slice.length ≤ payload_limit may.source.blocks
  read_few slice data_ fit = no_more slice.length may.cells.cell (payload_limit may.source.blocks) (subst (λ (b : Bool). slice.length ≤ (if b then may.cells.zero_cell else may.cells.cell)) data_ fit.few) may.reads

  zeros_few : (n : ℕ) (b : Bool) → zeroes ≡ b → n ≤ may.cells.zero_cell → n ≤ (if b then max_range else payload_limit may.destination.blocks)
  zeros_few n b is few = no_more n may.cells.zero_cell (if b then max_range else payload_limit may.destination.blocks) few (subst (λ (c : Bool). may.cells.zero_cell ≤ (if c then max_range else payload_limit may.destination.blocks)) is may.zeroed)

  written_few : (slice : Slice) → (slice.zero ≡ true → zeroes ≡ false) → IsFit may.size may.cells slice → slice.length ≤ payload_limit may.destination.blocks
  written_few slice plain fit = go slice.zero refl fit.few
    where
      go : (b : Bool) → slice.zero ≡ b → slice.length ≤ (if b then may.cells.zero_cell else may.cells.cell) → slice.length ≤ payload_limit may.destination.blocks
      go true is few = zeros_few slice.length false (plain is) few
      go false is few = no_more slice.length may.cells.cell (payload_limit may.destination.blocks) few may.written

  zeroed_few : (slice : Slice) → zeroes ≡ true → IsFit may.size may.cells slice → slice.length ≤ max_range
  zeroed_few slice taken fit = go slice.zero fit.few
    where
      go : (b : Bool) → slice.length ≤ (if b then may.cells.zero_cell else may.cells.cell) → slice.length ≤ max_range
      go true few = zeros_few slice.length true taken few
      go false few = no_more slice.length may.cells.cell max_range few (no_more may.cells.cell (payload_limit may.destination.blocks) max_range may.written (payload_small may.destination.blocks))

  -- a change of a slice
  pub change_taken : (how : How) (slice : Slice) (n : ℕ) (one : Change) → IsFit may.size may.cells slice → IsChangeOf how slice one → how.zeroes ≡ zeroes → (index : ℕ) → is_source sides index ≡ false → MayTake index (command_of n one) held
  change_taken how slice n (change.Write offset bytes) fit of same index side =
      write_taken index bytes offset (ticket.Slice n) side (part_inside slice (payload_limit may.destination.blocks) offset (length bytes) fit (written_few slice (λ blank. sym same ∙ of.1 blank) fit) of.0)
  change_taken how slice n (change.Zero offset length flags) fit of same index side =
      zero_taken index length offset (ticket.Slice n) flags how.allocated side (sym same ∙ of.2) of.1 (part_inside slice max_range offset length fit (zeroed_few slice (sym same ∙ of.2) fit) of.0)

  -- its first request
  pub first_taken : (how : How) (slice : Slice) (n : ℕ) (one : Ask) → IsFit may.size may.cells slice → IsFirstOf how slice one → how.zeroes ≡ zeroes → MayTakeFirst sides n one held
  first_taken how slice n (ask.Read offset buf) fit of same = λ index bytes side many.
      read_taken index bytes offset (ticket.Slice n) side
      (record {
        some = (let some = fit.some in let count = of.2 in omega (arith, some, count, many));
        within = (let within = fit.within in let at = of.1 in let count = of.2 in omega (arith, within, at, count, many));
        few = no_more (length bytes) slice.length (payload_limit may.source.blocks) (let count = of.2 in omega (arith, count, many)) (read_few slice of.0 fit);
      })
  first_taken how slice n (ask.Change one) fit of same = λ index side. change_taken how slice n one fit of same index side

-- A command asks nothing else of handles than a change does, or a read.
pub may_copy : (sides : Sides) (zeroes flush asks : Bool) (held : List (Held Ticket)) → MayAsk sides zeroes flush asks held → MayAsk sides zeroes false false held
may_copy sides zeroes flush asks held may = record {
  source = may.source;
  destination = may.destination;
  some = may.some;
  other = may.other;
  writes = may.writes;
  zeroing = may.zeroing;
  flushing = λ wanted. absurd (false≢true wanted);
  size = may.size;
  cells = may.cells;
  room = may.room;
  room' = may.room';
  reads = may.reads;
  written = may.written;
  zeroed = may.zeroed;
  ready = record { seens = may.ready.seens; at = may.ready.at; many = may.ready.many; each = may.ready.each; context = λ asked. absurd (false≢true asked) };
}

-- A command that no other rule refuses comes to nothing else.
pub faults_expected : {World : Type 0} (steps : World → List (Call Ticket) → World → Type 0) (command : Command Ticket) (fault : IssueFault Ticket) (old new : Machine Ticket) (before after : World) →
    Faults steps command fault old new before after → IsMeasured (refusal_now max_unretired old.known command) → IsExpected fault
faults_expected steps command (NoMemory buf first done) old new before after faults is = tt
faults_expected steps command (Refused rule buf) old new before after faults is = subst IsMeasured faults.0 is

-- What the board wants next may be asked.
pub next_taken : (sides : Sides) (how : How) (held : List (Held Ticket)) (n destination : ℕ) (one : Change) (told : Next) (old mid : board.Seen) → MayServe sides how.zeroes old.rows held → told ≡ next.Asks n destination one → IsNext how told old mid →
    (index : ℕ) → is_source sides index ≡ false → MayTake index (command_of n one) held
next_taken sides how held n destination one told old mid serve is goes =
    let asks : AsksOn how n destination one old mid = subst (λ (x : Next). IsNext how x old mid) is goes in
    let may = serve.may in
    change_taken sides how.zeroes false false held may how asks.row.slice n one (fit_at may.size may.cells n asks.row old.rows asks.held serve.fit) asks.inside refl

-- So may what the bindings of a job ask,
module _ (job : work.Seen) (sides : Sides) (how : How) (held : List (Held Ticket)) (same : sides ≡ job.terms.sides) (writes : how ≡ job.terms.how) (act : MayAct job held) where
  pub bindings_serve : (rows : List (ℕ × Row)) → AllFit job.terms.size (cells_of job.terms) rows → MayServe sides how.zeroes rows held
  unfolding may_copy
  bindings_serve rows fit =
      subst (λ (s : Sides). MayServe s how.zeroes rows held) (sym same)
      (subst (λ (h : How). MayServe job.terms.sides h.zeroes rows held) (sym writes)
      (record {
        may = may_copy job.terms.sides job.terms.how.zeroes job.terms.flush act.asks held act.may;
        fit = subst (λ (n : ℕ). AllFit n act.may.cells rows) (sym act.size) (subst (λ (c : Cells). AllFit job.terms.size c rows) (sym act.cells) fit);
      }))

  pub bindings_begin : (planned : windows.Seen) → planned.size ≡ job.terms.size → planned.plan.cells ≡ cells_of job.terms → MayBegin sides how.zeroes planned held
  unfolding may_copy
  bindings_begin planned size cells =
      subst (λ (s : Sides). MayBegin s how.zeroes planned held) (sym same)
      (subst (λ (h : How). MayBegin job.terms.sides h.zeroes planned held) (sym writes)
      (record { may = may_copy job.terms.sides job.terms.how.zeroes job.terms.flush act.asks held act.may; size = act.size ∙ sym size; cells = act.cells ∙ sym cells }))

-- and its flush, where that is wanted,
pub job_flushes : (job : work.Seen) (held : List (Held Ticket)) → job.terms.flush ≡ true → MayAct job held → MayTake 1 (flush_of ticket.Flush 0) held
job_flushes job held wanted act = flush_taken job.terms.sides job.terms.how.zeroes job.terms.flush act.asks held act.may 1 ticket.Flush refl wanted

-- and its extents, where a range is wanted.
wanted_inside : (planned : windows.Seen) (range : ℕ × ℕ) → planned.plan.end ≤ planned.at → windows.wanted planned ≡ Some range → IsWithin planned.size max_range range.0 range.1
wanted_inside planned range ahead is = go (nat_lt planned.at (windows.window_end planned)) refl is
  where
    none_range : None ≡ Some range → ⊥
    none_range e = cc

    ranges : (one other : ℕ × ℕ) → Some one ≡ Some other → one ≡ other
    ranges one other e = cc

    go : (b : Bool) → nat_lt planned.at (windows.window_end planned) ≡ b → (if b then Some (planned.at, windows.window_end planned - planned.at) else None) ≡ Some range → IsWithin planned.size max_range range.0 range.1
    go true less e =
        let before : planned.at < windows.window_end planned = ltb-true planned.at (windows.window_end planned) less in
        subst (λ (r : ℕ × ℕ). IsWithin planned.size max_range r.0 r.1) (ranges (planned.at, windows.window_end planned - planned.at) range e) (record { some = omega (arith, before); within = omega (arith, before); few = omega (arith, before, ahead) })
    go false none e = absurd (none_range e)

pub job_asks : (job : work.Seen) (held : List (Held Ticket)) (range : ℕ × ℕ) → windows.wanted job.windows ≡ Some range → job.windows.size ≡ job.terms.size → job.windows.plan.end ≤ job.windows.at → MayAct job held → MayTake 0 (block_status_of range.1 range.0 ticket.Extents ticket.Extents 0) held
job_asks job held range wanted size ahead act =
    extents_taken job.terms.sides job.terms.how.zeroes job.terms.flush act.asks held act.may range.1 range.0 ticket.Extents ticket.Extents (act.wanted (ap (λ (o : Option (ℕ × ℕ)). is_some o) wanted))
    (subst (λ (n : ℕ). IsWithin n max_range range.0 range.1) (size ∙ sym act.size) (wanted_inside job.windows range ahead wanted))

-- Once both sides are known.

unbroken : (test : Bool) (later : Option Rule) → (if test then Some rule.ReadOnly else later) ≡ None → test ≡ false
unbroken true later none = absurd (some_none none)
  where
    some_none : Some rule.ReadOnly ≡ None → ⊥
    some_none e = cc
unbroken false later none = refl

no_smaller : (read_only smaller : Bool) (later : Option Rule) (source destination : ℕ) → (if read_only then Some rule.ReadOnly else if smaller then Some (rule.Smaller source destination) else later) ≡ None → smaller ≡ false
no_smaller true smaller later source destination none = absurd (some_none none)
  where
    some_none : Some rule.ReadOnly ≡ None → ⊥
    some_none e = cc
no_smaller false true later source destination none = absurd (some_none none)
  where
    some_none : Some (rule.Smaller source destination) ≡ None → ⊥
    some_none e = cc
no_smaller false false later source destination none = refl

has_room : (source destination : ℕ) → nat_lt destination source ≡ false → source ≤ destination
has_room source destination none = grind (arith, common_steps)

second : (a b : Bool) → a && b ≡ true → b ≡ true
second true b is = is
second false b is = absurd (false≢true is)

-- Each side has a connection.

one_at_least : (options : CopyOptions) (info : ExportInfo) → 0 < connections options info
one_at_least options info = go (has_bit flag_can_multi_conn info.flags)
  where
    go : (many : Bool) → 0 < (if many then max options.connections 1 else 1)
    go true = omega arith
    go false = omega arith

pub sides_some : (copy : copier.Seen) (start told : Option (List wire.Call)) (terms : Settled) → HasMet copy start told terms → (0 < terms.sides.source) × (0 < terms.sides.destination)
sides_some copy start told terms met =
    subst (λ (s : Sides). (0 < s.source) × (0 < s.destination)) (sym met.settled.settled.sides) (one_at_least copy.options met.settled.source, one_at_least copy.options met.settled.destination)

pub met_may : (copy : copier.Seen) (start told : Option (List wire.Call)) (terms : Settled) (job : work.Seen) (extents : Bool) → HasMet copy start told terms → AreQuiet copy.held → AllSame terms.sides (length copy.held) copy.held → job.terms ≡ terms →
    (extents ≡ true → Happens HasContext 0 copy.held) → (is_some (windows.wanted job.windows) ≡ true → extents ≡ true) → length copy.held ≡ terms.sides.source + terms.sides.destination → MayAct job copy.held
met_may copy start told terms job extents met quiet same are context wanted many = subst (λ (t : Settled). MayAct (record job { terms = t }) copy.held) (sym are) (record {
  asks = extents;
  may = record {
    source = met.settled.source;
    destination = met.settled.destination;
    some = (sides_some copy start told terms met).0;
    other = (sides_some copy start told terms met).1;
    writes = unbroken (has_bit flag_read_only met.settled.destination.flags) _ met.settled.none;
    zeroing = λ zeroes. sym (ap (λ (h : How). h.zeroes) met.settled.settled.how) ∙ zeroes;
    flushing = λ flush. second _ _ (sym met.settled.settled.flush ∙ flush);
    size = terms.size;
    cells = cells_of terms;
    room = (let size = met.settled.settled.size in omega (arith, size));
    room' = (
        let size = met.settled.settled.size in
        let none = no_smaller (has_bit flag_read_only met.settled.destination.flags) (nat_lt met.settled.destination.size met.settled.source.size) _ met.settled.source.size met.settled.destination.size met.settled.none in
        let fits = has_room met.settled.source.size met.settled.destination.size none in
        omega (arith, size, fits));
    reads = subst (λ (n : ℕ). n ≤ payload_limit met.settled.source.blocks) (sym met.settled.settled.cell) (cell_read copy.options met.settled.source met.settled.destination met.settled.none);
    written = subst (λ (n : ℕ). n ≤ payload_limit met.settled.destination.blocks) (sym met.settled.settled.cell) (cell_written copy.options met.settled.source met.settled.destination met.settled.none);
    zeroed =
        subst (λ (h : How). terms.zero_cell ≤ (if h.zeroes then max_range else payload_limit met.settled.destination.blocks)) (sym met.settled.settled.how)
        (subst (λ (n : ℕ). n ≤ (if takes_zeroes met.settled.destination then max_range else payload_limit met.settled.destination.blocks)) (sym met.settled.settled.zero_cell)
        (zero_cell_zeroed copy.options met.settled.source met.settled.destination met.settled.none));
    ready = record {
      seens = met.stand.seens;
      at = met.stand.at;
      many = many;
      each = λ index seen there. each_alike met.settled.source met.settled.destination terms.sides copy.held met.stand.seens quiet met.stand.at met.know index seen same there;
      context = λ asks seen there. let h = (context asks).on met.stand.seens met.stand.at in subst (λ (s : Seen Ticket). HasContext s.history) (some_seen h.seen seen (sym h.there ∙ there)) h.is;
    };
  };
  size = refl;
  cells = refl;
  wanted = wanted;
})
  where
    some_seen : (one other : Seen Ticket) → Some one ≡ Some other → one ≡ other
    some_seen one other e = cc

-- The first handle's context, where it agreed any.

some_contexts : (all : List Context) → not (length all == 0) ≡ true → is_empty all ≡ false
some_contexts [] some = absurd (false≢true some)
some_contexts (one ∷ others) some = refl

pub agreed_some : (info : ExportInfo) (index : ℕ) (held : List (Held Ticket)) → not (length info.contexts == 0) ≡ true → Happens (IsShown info) index held → Happens HasContext index held
agreed_some info index held some happens = record {
  on = λ seens at.
      let h = happens.on seens at in
      record { seen = h.seen; there = h.there; is = ap (λ (i : Option ExportInfo). is_empty (contexts_in i)) h.is.shown ∙ some_contexts info.contexts some };
}
