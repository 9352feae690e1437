-- No READ of a copy covers a block that one answer told as zero whole, also in a turn that fails it.
use Rattle.std.proofs.Common.{◌≡◌, ◌≢◌, ℕ, ◌<◌, ◌≤◌, Bool, true, false, ◌&&◌, List, ◌++◌, Option, Some, None, refl, ap, sym, subst, ◌∙◌, arith, nat_le, nat_lt, ltb-true, if◌then◌else◌}
use Rattle.std.proofs.lemmas.List.{append_assoc}
use Rattle.lnbd_callbacks.specs.Calls.{Call}
use Rattle.lnbd_callbacks.specs.Steps.{OneByOne}
use Rattle.lnbd_link.specs.Call as wire
use Rattle.lnbd_model.specs.declared.export.Blocks.{Blocks}
use Rattle.lnbd_model.specs.declared.export.ExportInfo.{ExportInfo}
use Rattle.lnbd_model.specs.declared.target.Place.{Place}
use Rattle.lnbd_asked.specs.Transcript.{dealt_with}
use Rattle.lnbd_poll.specs.Held.{Held, AreAt}
use Rattle.lnbd_poll.specs.Seen.{Seen}
use Rattle.lnbd_poll.specs.Turns.{Ending, Turns}
use Rattle.lnbd_plan.specs.declared.grid.Slice.{Slice}
use Rattle.lnbd_plan.specs.Laws.{IsPlannedOnce, told_by, windows_slices}
use Rattle.lnbd_plan.proofs.OnceLaws.{all_planned_once}
use Rattle.lnbd_board.specs.declared.ticket.Ticket.{Ticket}
use Rattle.lnbd_board.specs.Files as board
use Rattle.lnbd_course.specs.Spared.{IsBehind}
use Rattle.lnbd_course.specs.Spares.{ReadsNoZeros}
use Rattle.lnbd_course.proofs.Quiet.{dealt_stays}
use Rattle.lnbd_course.proofs.Spared.{parts_spare}
use Rattle.lnbd_copy.specs.Job as job
use Rattle.lnbd_conduct.specs.Told.{AtSome}
use Rattle.lnbd_conduct.specs.Settled.{SparesTold}
use Rattle.lnbd_conduct.specs.Terms as both
use Rattle.lnbd_copy.specs.Way.{IsUnderWay, Way, known_of}
use Rattle.lnbd_copy.specs.Windows as windows
use Rattle.lnbd_copy.proofs.AlikeLemmas.{alike_later}
use Rattle.lnbd_copy.proofs.FailLemmas.{all_stand}
use Rattle.lnbd_copy.proofs.IdleLemmas.{StaysIdly}

abbrev steps : board.Seen → List (Call Ticket) → board.Seen → Type 0
steps = OneByOne board.Files

-- The size of blocks.

some_least : (minimum : ℕ) (b c : Bool) → nat_lt 0 minimum ≡ b → 0 < (if b && c then minimum else 1)
some_least minimum true true is = ltb-true 0 minimum is
some_least minimum true false is = omega arith
some_least minimum false c is = omega arith

least_some : (told : Option Blocks) → 0 < both.least_block told
least_some None = omega arith
least_some (Some told) = some_least told.minimum (nat_lt 0 told.minimum) (nat_le told.minimum _) refl

pub grain_some : (source destination : ExportInfo) → 0 < both.grain source destination
grain_some source destination = let one = least_some source.blocks in omega (arith, one)

-- What calls that ask nothing keep.

some_longer : {Is : List wire.Call → Type 0} (calls more : List wire.Call) → AtSome Is calls → AtSome Is (calls ++ more)
some_longer calls more s = record { before = s.before; after = s.after ++ more; are = ap (λ (l : List wire.Call). l ++ more) s.are ∙ append_assoc s.before s.after more; is = s.is }

pub untouched_stays : (extents : Bool) (from to : Place) → StaysIdly (SparesTold extents from to)
untouched_stays extents from to calls more quiet none spared = record {
  source = spared.source;
  destination = spared.destination;
  shown = some_longer calls more spared.shown;
  shown' = some_longer calls more spared.shown';
  none = spared.none;
  is = subst (ReadsNoZeros (both.grain spared.source spared.destination)) (sym (dealt_stays calls more quiet none from)) spared.is;
  all = alike_later extents from to spared.source spared.destination calls more none spared.all;
}

-- A turn, whole or short.

-- the extents that are waited for are those behind all that is planned
asked_behind : (end at count : ℕ) (b c : Bool) → end ≤ at → IsBehind end (if b then (if c then Some (at, count) else None) else None)
asked_behind end at count true true ahead = ahead
asked_behind end at count true false ahead = tt
asked_behind end at count false c ahead = tt

module _ (j : job.Seen) (way : Way) (now now' : board.Seen) (parting : Bool) (calls part : List wire.Call) (held held' : List (Held Ticket)) (after : List (Seen Ticket)) (is : job.IsJob j way now) (well : now.error ≡ None) (on : IsUnderWay parting way now calls held) (at : AreAt held' after)
    (ending : Ending) (turns : Turns steps on.seens now part after now' ending) (two : way.from ≢ way.to) (some : 0 < j.terms.grain) where
  spared_once : (p : ℕ) → IsPlannedOnce j.windows.plan.cells (told_by 0 is.spared.parts) 0 j.windows.plan.end p (way.slices ++ j.windows.plan.slices)
  spared_once p =
      subst (λ (l : List Slice). IsPlannedOnce j.windows.plan.cells (told_by 0 is.spared.parts) 0 j.windows.plan.end p l) (sym is.spared.are)
      (subst (λ (n : ℕ). IsPlannedOnce j.windows.plan.cells (told_by 0 is.spared.parts) 0 n p (windows_slices j.windows.plan.cells 0 is.spared.parts)) is.spared.end (all_planned_once j.windows.plan.cells 0 is.spared.parts p))

  waited_behind : IsBehind j.windows.plan.end way.asked
  waited_behind = subst (IsBehind j.windows.plan.end) (sym is.asked) (asked_behind j.windows.plan.end j.windows.at _ j.asked (nat_lt j.windows.at (windows.window_end j.windows)) is.heard.planned)

  pub part_spares : ReadsNoZeros j.terms.grain (dealt_with way.from (calls ++ part))
  part_spares =
      subst (λ (block : ℕ). ReadsNoZeros block (dealt_with way.from (calls ++ part))) is.grain
      (parts_spare way.from way.to way.size way.how on.has way.slices j.windows.plan.slices now now' calls part on.seens after ending j.windows.plan.cells (told_by 0 is.spared.parts) j.windows.plan.end j.windows.grain way.asked (known_of way)
      on.stands.between on.stands.told well turns (all_stand held' after at) spared_once two (subst (λ (n : ℕ). 0 < n) (sym is.grain) some) (λ p known low. is.spared.planned p known low) waited_behind)
