-- What one line of a script does to the whole: it makes a handle current, acts on all handles, or on the current one alone.
use Rattle.std.specs.Prelude.{◌≡◌, Bool, true, false, List, [], Ok, Err}
use Rattle.lnbd_history.specs.Laws.{is_closed}
use Rattle.lnbd_link.specs.Call.{Call}
use Rattle.lnbd_lines.specs.declared.line.Line.{Line}
use Rattle.lnbd_lines.specs.declared.line.Line.TheVariants as line
use Rattle.lnbd_script.specs.declared.reach.Reach.{Reach}
use Rattle.lnbd_script.specs.declared.reach.Reach.TheVariants as reach
use Rattle.lnbd_script.specs.declared.told.Told.TheVariants as told
use Rattle.lnbd_script.specs.Lines.{Answers, LineEnd}
use Rattle.lnbd_script.specs.Rounds.{Settles}
use Rattle.lnbd_script.specs.Scenes.{Scene, choosing, current_of, with_current}
use Rattle.lnbd_script.specs.Seen.{Seen}

abbrev pub reach_of : Line → Reach
reach_of (line.Handle number) = reach.Choice number
reach_of line.Settle = reach.All
reach_of other = reach.Current

-- Where the current handle is closed, it is gone.
abbrev pub SettlesIf : (closed : Bool) → Scene → List Call → Scene → LineEnd → Type 0
SettlesIf true before calls after end = (calls ≡ []) × (after ≡ before) × (end ≡ Ok told.Gone)
SettlesIf false before calls after (Ok tells) = (tells ≡ told.Settled) × Settles before calls after (Ok tt)
SettlesIf false before calls after (Err halt) = Settles before calls after (Err halt)

-- the line acts on the current handle, and on no other
pub record ActsAlone (line : Line) (before : Scene) (calls : List Call) (after : Scene) (end : LineEnd) : Type 0 where
  pub seen : Seen
  pub answers : Answers line (current_of before) calls seen end
  pub after_is : after ≡ with_current seen before

abbrev pub ActsAs : Reach → Line → Scene → List Call → Scene → LineEnd → Type 0
ActsAs (reach.Choice number) line before calls after end = (calls ≡ []) × (after ≡ choosing number before) × (end ≡ Ok told.Done)
ActsAs reach.All line before calls after end = SettlesIf (is_closed (current_of before).history) before calls after end
ActsAs reach.Current line before calls after end = ActsAlone line before calls after end

abbrev pub Acts : Line → Scene → List Call → Scene → LineEnd → Type 0
Acts line before calls after end = ActsAs (reach_of line) line before calls after end
