-- What a run of nbdcalls is: the script that the input held, and how it was played.
use Rattle.std.specs.Prelude.{◌≡◌, ◌⊎◌, ◌∷◌, ℕ, Bool, true, false, List, [], Option, Some, Ok, Err}
use Rattle.lnbd_link.specs.Call.{Call}
use Rattle.lnbd_lines.specs.declared.line.Line.{Line}
use Rattle.lnbd_lines.specs.Scripts.{IsFault, IsScript}
use Rattle.lnbd_script.specs.declared.event.Event.{Event}
use Rattle.lnbd_script.specs.declared.event.PlayFault.TheVariants as play
use Rattle.lnbd_script.specs.Plays.{Finished, HasBeenCut, HasPlayed, Short, Silent, first_fault}
use Rattle.lnbd_cli.specs.declared.ending.Fault.TheVariants as fault
use Rattle.lnbd_cli.specs.Ends.{End, is_one_of}
use Rattle.lnbd_cli.specs.Inputs.{ReadUpTo}
use Rattle.lnbd_cli.specs.Limits.{most_read}

-- the input holds a script
pub record HoldsScript (left : Option (List ℕ)) : Type 0 where
  pub bytes : List ℕ
  pub held : left ≡ Some bytes
  pub lines : List Line
  pub script : IsScript bytes lines

-- The script that the input held, which was read to its end, was played.
pub record WasPlayed (left left' : Option (List ℕ)) (Played : List Line → Type 0) : Type 0 where
  pub lines : List Line
  pub script : (bytes : List ℕ) → left ≡ Some bytes → IsScript bytes lines
  pub read : (bytes : List ℕ) → left ≡ Some bytes → left' ≡ Some []
  pub played : Played lines

-- Its first event is a link that failed; or there was none, but a link failed of which no line told.
abbrev pub IsOfLink : Option Event → Type 0
IsOfLink first = (Err play.Link ≡ first_fault first) ⊎ (Ok tt ≡ first_fault first)

-- A line waited for too long. Or the script was played without an event while the wires waited for as long, though they gave what was awaited after it.
abbrev pub HasWaited : List Line → (told told' : Option (List Call)) → (taken taken' : Option (List ℕ)) → Type 0
HasWaited lines told told' taken taken' = HasPlayed lines told told' taken taken' Silent (λ first. Unit {0}) ⊎ HasPlayed lines told told' taken taken' Finished (λ first. Ok tt ≡ first_fault first)

-- How a play of these lines ends. After 0, 3, 4 and 5 it was played to its end, and out took all its lines; the first event decides.
abbrev pub PlayEnds : End → List Line → (told told' : Option (List Call)) → (taken taken' : Option (List ℕ)) → Type 0
PlayEnds (Ok true) lines told told' taken taken' = HasPlayed lines told told' taken taken' Finished (λ first. Ok tt ≡ first_fault first)
PlayEnds (Err (fault.Told option code)) lines told told' taken taken' = HasPlayed lines told told' taken taken' Finished (λ first. Err (play.Peer option code) ≡ first_fault first)
PlayEnds (Err (fault.Broke broken)) lines told told' taken taken' = HasPlayed lines told told' taken taken' Finished (λ first. Err (play.Broke broken) ≡ first_fault first)
PlayEnds (Err fault.Link) lines told told' taken taken' = HasPlayed lines told told' taken taken' Finished IsOfLink
PlayEnds (Err fault.Silent) lines told told' taken taken' = HasWaited lines told told' taken taken'
-- out took all but the last played line, of that a front, and no later line was played
PlayEnds (Err fault.Output) lines told told' taken taken' = HasBeenCut lines told told' taken taken'
PlayEnds (Err fault.NoMemory) lines told told' taken taken' = HasPlayed lines told told' taken taken' Short (λ first. Unit {0})
PlayEnds (Ok false) lines told told' taken taken' = ⊥
PlayEnds (Err fault.Usage) lines told told' taken taken' = ⊥
PlayEnds (Err (fault.Uri why)) lines told told' taken taken' = ⊥
PlayEnds (Err (fault.Line number)) lines told told' taken taken' = ⊥
PlayEnds (Err fault.Client) lines told told' taken taken' = ⊥
PlayEnds (Err (fault.Rule ruling)) lines told told' taken taken' = ⊥
PlayEnds (Err fault.Input) lines told told' taken taken' = ⊥
PlayEnds (Err fault.Store) lines told told' taken taken' = ⊥
PlayEnds (Err (fault.Child status)) lines told told' taken taken' = ⊥
PlayEnds (Err fault.Signal) lines told told' taken taken' = ⊥
PlayEnds (Err fault.Spawn) lines told told' taken taken' = ⊥

-- How a run of nbdcalls ends; Unbegun says that nothing was called and nothing written.
pub data CallsEnds (left left' : Option (List ℕ)) (told told' : Option (List Call)) (taken taken' : Option (List ℕ)) (Unbegun : Type 0) (end : End) : Type 0 where
  Played : WasPlayed left left' (λ lines. PlayEnds end lines told told' taken taken') → CallsEnds left left' told told' taken taken' Unbegun end
  -- a line of the script is outside the grammar, or 0 tells that the script is too long
  Faulty : (number : ℕ) → end ≡ Err (fault.Line number) → ((bytes : List ℕ) → left ≡ Some bytes → IsFault bytes number) → ReadUpTo most_read left left' → Unbegun
      → CallsEnds left left' told told' taken taken' Unbegun end
  NotRead : (end ≡ Err fault.Input) ⊎ (end ≡ Err fault.NoMemory) → Unbegun → CallsEnds left left' told told' taken taken' Unbegun end

-- the statuses of nbdcalls, and those of a run in which no count rose
abbrev pub is_calls_status : (status : ℕ) → Bool
is_calls_status status = is_one_of (0 ∷ 1 ∷ 3 ∷ 4 ∷ 5 ∷ 7 ∷ 8 ∷ 9 ∷ 10 ∷ []) status

abbrev pub IsPlayDone : ℕ → Type 0
IsPlayDone status = (status ≡ 0) ⊎ ((status ≡ 3) ⊎ ((status ≡ 4) ⊎ (status ≡ 9)))
