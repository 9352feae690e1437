-- How a script, the calls on the wires, the text and the end of the run belong together.
use Rattle.std.specs.Prelude.{◌≡◌, ◌⊎◌, ℕ, true, false, Bool, List, [], ◌∷◌, ◌++◌, Option, Some, None, Result, Ok, Err}
use Rattle.lnbd_link.specs.Call.{Call}
use Rattle.lnbd_link.specs.Part.{Grows, Takes}
use Rattle.lnbd_lines.specs.declared.line.Line.{Line}
use Rattle.lnbd_script.specs.declared.event.Event.{Event}
use Rattle.lnbd_script.specs.declared.event.Event.TheVariants as event
use Rattle.lnbd_script.specs.declared.event.PlayFault.{PlayFault}
use Rattle.lnbd_script.specs.declared.event.PlayFault.TheVariants as fault
use Rattle.lnbd_script.specs.declared.told.Halt.TheVariants as halt
use Rattle.lnbd_script.specs.declared.told.Told.{Told}
use Rattle.lnbd_script.specs.Acts.{Acts}
use Rattle.lnbd_script.specs.Lines.{LineEnd}
use Rattle.lnbd_script.specs.Scenes.{AllClosed, Scene, admitted_on, beginning, current_of, ending, shut_all}
use Rattle.lnbd_script.specs.Streams.{TakesAllAndFront}
use Rattle.lnbd_script.specs.Texts.{text_of, last_text, ended}

-- How a script ends: after its last line; in a line that waits for too long; where the output failed, with the text of the line
-- that was played last, which was not taken whole; or for want of memory.
pub data How : Type 0 where
  Finished : How
  Silent : How
  Untold : List ℕ → How
  Short : How

-- All handles are closed here, and their links shut.
abbrev pub Closes : Scene → List Call → Scene → Type 0
Closes scene calls after = (calls ≡ shut_all scene.handles) × (after ≡ ending scene)

-- the last line of all
abbrev pub last_line : Scene → List ℕ
last_line scene = ended (last_text (admitted_on scene.handles))

-- what a line tells where the script then stands
abbrev pub line_text : Scene → Told → List ℕ
line_text scene tells = ended (text_of (current_of scene).history tells)

-- a line in which the script ends, and the closing of the handles
pub record StopsIn (line : Line) (before : Scene) (calls : List Call) (after : Scene) (end : LineEnd) : Type 0 where
  pub own : List Call
  pub middle : Scene
  pub other : List Call
  pub answers : Acts line before own middle end
  pub closes : Closes middle other after
  pub calls_are : calls ≡ own ++ other

-- a line that was played, and whose text was not taken whole
pub record StopsAfter (line : Line) (before : Scene) (calls : List Call) (after : Scene) (text : List ℕ) : Type 0 where
  pub own : List Call
  pub middle : Scene
  pub other : List Call
  pub tells : Told
  pub answers : Acts line before own middle (Ok tells)
  pub closes : Closes middle other after
  pub calls_are : calls ≡ own ++ other
  pub text_is : text ≡ line_text middle tells

-- The script ends here, with these calls and this text more. For want of memory it ends in a line, or between two.
abbrev pub Stops : List Line → Scene → List Call → List ℕ → How → Scene → Type 0
Stops [] scene calls text Finished after = Closes scene calls after × (text ≡ last_line after)
Stops (line ∷ lines) scene calls text Finished after = ⊥
Stops [] scene calls text Silent after = ⊥
Stops (line ∷ lines) scene calls text Silent after = StopsIn line scene calls after (Err halt.Silent) × (text ≡ [])
Stops [] scene calls text (Untold last) after = Closes scene calls after × (text ≡ []) × (last ≡ last_line after)
Stops (line ∷ lines) scene calls text (Untold last) after = StopsAfter line scene calls after last × (text ≡ [])
Stops [] scene calls text Short after = Closes scene calls after × (text ≡ [])
Stops (line ∷ lines) scene calls text Short after = (Closes scene calls after × (text ≡ [])) ⊎ ((end : LineEnd) × StopsIn line scene calls after end × (text ≡ []))

-- what one line does and tells, and what is left for the others
pub record GoesOn (line : Line) (scene : Scene) (calls : List Call) (text : List ℕ) (Rest : Scene → List Call → List ℕ → Type 0) : Type 0 where
  pub own : List Call
  pub middle : Scene
  pub tells : Told
  pub answers : Acts line scene own middle (Ok tells)
  pub other : List Call
  pub other_text : List ℕ
  pub calls_are : calls ≡ own ++ other
  pub text_is : text ≡ line_text middle tells ++ other_text
  pub rest : Rest middle other other_text

-- Line by line: each takes a front of the calls that are left, and gives its text.
abbrev pub Plays : List Line → Scene → List Call → List ℕ → How → Scene → Type 0
Plays [] scene calls text how after = Stops [] scene calls text how after
Plays (line ∷ lines) scene calls text how after =
    Stops (line ∷ lines) scene calls text how after ⊎ GoesOn line scene calls text (λ middle other other_text. Plays lines middle other other_text how after)

-- All of the text was taken, and where the output failed a front of the last played line's behind it.
abbrev pub IsTaken : How → Option (List ℕ) → Option (List ℕ) → List ℕ → Type 0
IsTaken Finished before after text = Takes before after text
IsTaken Silent before after text = Takes before after text
IsTaken (Untold last) before after text = TakesAllAndFront before after text last
IsTaken Short before after text = Takes before after text

-- The calls that the wires tell and the text that was taken are those of the lines; at the end each handle is closed, and each
-- callback that was admitted was freed exactly once, by a call that was made.
pub record HasPlayed (lines : List Line) (old new : Option (List Call)) (before after : Option (List ℕ)) (how : How) (IsFirst : Option Event → Type 0) : Type 0 where
  pub calls : List Call
  pub text : List ℕ
  pub end : Scene
  pub grown : Grows old new calls
  pub taken : IsTaken how before after text
  pub plays : Plays lines beginning calls text how end
  pub first : IsFirst end.first
  pub closed : AllClosed end

-- the same of a script that the output cut off: no line was played after the one whose text was not taken whole
abbrev pub HasBeenCut : List Line → (old new : Option (List Call)) → (before after : Option (List ℕ)) → Type 0
HasBeenCut lines old new before after = (last : List ℕ) × HasPlayed lines old new before after (Untold last) (λ first. Unit {0})

-- the same of a script that ended in one of these ways
abbrev pub HasEnded : List Line → (old new : Option (List Call)) → (before after : Option (List ℕ)) → Type 0
HasEnded lines old new before after = (how : How) × HasPlayed lines old new before after how (λ first. Unit {0})

-- What a play answers: its first event, if there was one.
abbrev pub first_fault : Option Event → Result (Unit {0}) PlayFault
first_fault None = Ok tt
first_fault (Some event.Link) = Err fault.Link
first_fault (Some (event.Broke broken)) = Err (fault.Broke broken)
first_fault (Some (event.Peer option code)) = Err (fault.Peer option code)

-- the script was played to its end
abbrev pub is_played : Result (Unit {0}) PlayFault → Bool
is_played (Ok done) = true
is_played (Err fault.Link) = true
is_played (Err (fault.Broke broken)) = true
is_played (Err (fault.Peer option code)) = true
is_played (Err fault.Silent) = false
is_played (Err fault.Output) = false
is_played (Err fault.NoMemory) = false
