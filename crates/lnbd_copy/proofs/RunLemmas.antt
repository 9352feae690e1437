-- Each change of a copy is a longest run of what was read, or of what was told as zero, also in a turn that fails it.
use Rattle.std.proofs.Common.{◌≡◌, ◌≢◌, Bool, List, ◌++◌, None, ap, sym, subst, ◌∙◌}
use Rattle.std.proofs.lemmas.List.{append_assoc}
use Rattle.lnbd_callbacks.specs.Calls.{Call}
use Rattle.lnbd_callbacks.specs.Steps.{OneByOne}
use Rattle.lnbd_link.specs.Call as wire
use Rattle.lnbd_model.specs.declared.target.Place.{Place}
use Rattle.lnbd_asked.specs.Transcript.{Dealt, dealt_with}
use Rattle.lnbd_poll.specs.Held.{Held, AreAt}
use Rattle.lnbd_poll.specs.Seen.{Seen}
use Rattle.lnbd_poll.specs.Turns.{Ending, Turns}
use Rattle.lnbd_plan.specs.declared.options.CopyOptions.{CopyOptions}
use Rattle.lnbd_plan.specs.Laws.{told_by}
use Rattle.lnbd_board.specs.declared.ticket.Ticket.{Ticket}
use Rattle.lnbd_board.specs.Files as board
use Rattle.lnbd_course.specs.Runs.{WritesRuns}
use Rattle.lnbd_course.proofs.Quiet.{dealt_stays}
use Rattle.lnbd_course.proofs.Runs.{parts_write_runs}
use Rattle.lnbd_copy.specs.Job as job
use Rattle.lnbd_conduct.specs.Told.{AtSome}
use Rattle.lnbd_conduct.specs.Changes.{KeepsToRuns}
use Rattle.lnbd_conduct.specs.Terms as both
use Rattle.lnbd_copy.specs.Way.{IsUnderWay, Way, known_of}
use Rattle.lnbd_copy.proofs.AlikeLemmas.{alike_later}
use Rattle.lnbd_copy.proofs.EndLemmas.{planned_once}
use Rattle.lnbd_copy.proofs.FailLemmas.{all_stand}
use Rattle.lnbd_copy.proofs.IdleLemmas.{StaysIdly}

abbrev steps : board.Seen → List (Call Ticket) → board.Seen → Type 0
steps = OneByOne board.Files

-- What calls that ask nothing keep.

some_longer : {Is : List wire.Call → Type 0} (calls more : List wire.Call) → AtSome Is calls → AtSome Is (calls ++ more)
some_longer calls more s = record { before = s.before; after = s.after ++ more; are = ap (λ (l : List wire.Call). l ++ more) s.are ∙ append_assoc s.before s.after more; is = s.is }

pub runs_stay : (options : CopyOptions) (from to : Place) → StaysIdly (KeepsToRuns options from to)
runs_stay options from to calls more quiet none kept = record {
  source = kept.source;
  destination = kept.destination;
  shown = some_longer calls more kept.shown;
  shown' = some_longer calls more kept.shown';
  none = kept.none;
  is =
      subst (λ (d : Dealt). WritesRuns (both.how_by options kept.source kept.destination) d (dealt_with to (calls ++ more))) (sym (dealt_stays calls more quiet none from))
      (subst (λ (d : Dealt). WritesRuns (both.how_by options kept.source kept.destination) (dealt_with from calls) d) (sym (dealt_stays calls more quiet none to)) kept.is);
  all = alike_later options.extents from to kept.source kept.destination calls more none kept.all;
}

-- A turn, whole or short.

pub part_runs : (j : job.Seen) (way : Way) (now now' : board.Seen) (parting : Bool) (calls part : List wire.Call) (held held' : List (Held Ticket)) (after : List (Seen Ticket)) → job.IsJob j way now → now.error ≡ None → (on : IsUnderWay parting way now calls held) → AreAt held' after →
    (ending : Ending) → Turns steps on.seens now part after now' ending → way.from ≢ way.to → WritesRuns way.how (dealt_with way.from (calls ++ part)) (dealt_with way.to (calls ++ part))
part_runs j way now now' parting calls part held held' after is well on at ending turns two =
    parts_write_runs way.from way.to way.size way.how on.has way.slices j.windows.plan.slices now now' calls part on.seens after ending j.windows.plan.cells (told_by 0 is.planned.parts) j.windows.plan.end way.asked (known_of way)
    on.stands.between on.stands.told well turns (all_stand held' after at) (planned_once j way now is) two is.planned.told
