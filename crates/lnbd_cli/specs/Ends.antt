-- How a run of any tool ends, its status and its line, and whether those that count faults rose in it.
use Rattle.std.specs.Prelude.{◌≡◌, ◌<◌, ◌⊎◌, ◌++◌, ◌∷◌, ◌==◌, ◌||◌, ℕ, Bool, true, false, List, [], Option, Some, None, Result, Ok, Err, codes, decimal}
use Rattle.lnbd_child.specs.Reading.{max_file}
use Rattle.lnbd_link.specs.Call.{Call}
use Rattle.lnbd_link.specs.Count.{Rises, patience}
use Rattle.lnbd_link.specs.Failed.{failed}
use Rattle.lnbd_link.specs.Part.{Takes, TakesFront}
use Rattle.lnbd_model.specs.Breach.{name_of}
use Rattle.lnbd_model.specs.declared.breach.Broken.{Broken}
use Rattle.lnbd_model.specs.declared.breach.Broken.TheVariants as broken
use Rattle.lnbd_plan.specs.declared.fault.Rule.{Rule}
use Rattle.lnbd_plan.specs.declared.fault.Rule.TheVariants as rule
use Rattle.lnbd_uri.specs.Fault.{name_of as uri_name}
use Rattle.lnbd_cli.specs.Limits.{most_tested}
use Rattle.lnbd_cli.specs.declared.ending.Fault.{Fault}
use Rattle.lnbd_cli.specs.declared.ending.Fault.TheVariants as fault
use Rattle.lnbd_cli.specs.declared.ending.Ruling.{Ruling}
use Rattle.lnbd_cli.specs.declared.ending.Ruling.TheVariants as ruling

-- all is done, and what was asked is true or it is false; or this kept it from ending well
abbrev pub End : Type 0
End = Result Bool Fault

-- The statuses.

abbrev pub status_of_fault : Fault → ℕ
status_of_fault fault.Usage = 1
status_of_fault (fault.Uri why) = 1
status_of_fault (fault.Line number) = 1
status_of_fault (fault.Told option code) = 3
status_of_fault (fault.Broke broken) = 4
status_of_fault fault.Client = 4
status_of_fault fault.Link = 5
status_of_fault (fault.Rule ruling) = 6
status_of_fault fault.Silent = 7
status_of_fault fault.Output = 8
status_of_fault fault.NoMemory = 9
status_of_fault fault.Input = 10
status_of_fault fault.Store = 11
status_of_fault (fault.Child status) = 12
status_of_fault fault.Signal = 12
status_of_fault fault.Spawn = 13

abbrev pub status_of : End → ℕ
status_of (Ok true) = 0
status_of (Ok false) = 2
status_of (Err fault) = status_of_fault fault

-- it is one of these
abbrev pub is_one_of : List ℕ → ℕ → Bool
is_one_of [] status = false
is_one_of (one ∷ others) status = (status == one) || is_one_of others status

-- The lines.

abbrev pub broken_text : Broken → List ℕ
broken_text (broken.Breach breach) = name_of breach
broken_text broken.Content = codes "Content"
broken_text broken.Ended = codes "Ended"
broken_text broken.Differs = codes "Differs"

abbrev pub peer_text : (option : Option ℕ) → (code : ℕ) → List ℕ
peer_text (Some option) code = codes "peer error option " ++ decimal option ++ codes " code " ++ decimal code
peer_text None code = codes "peer error command " ++ decimal code

abbrev pub rule_text : Rule → List ℕ
rule_text rule.ReadOnly = codes "read-only"
rule_text (rule.Smaller source destination) = codes "smaller " ++ decimal source ++ codes " " ++ decimal destination
rule_text (rule.Uneven length block) = codes "uneven " ++ decimal length ++ codes " " ++ decimal block
rule_text (rule.Unfit minimum maximum) = codes "unfit " ++ decimal minimum ++ codes " " ++ decimal maximum

abbrev pub ruling_text : Ruling → List ℕ
ruling_text (ruling.Copy rule) = rule_text rule
ruling_text (ruling.NoContext context) = codes "no-context " ++ context
ruling_text (ruling.TooLarge size) = codes "selftest-size " ++ decimal size ++ codes " " ++ decimal most_tested
ruling_text (ruling.FileSize length) = codes "file-size " ++ decimal length ++ codes " " ++ decimal max_file
ruling_text (ruling.Changed length end) = codes "changed " ++ decimal length ++ codes " " ++ decimal end
ruling_text (ruling.Range offset length size) = codes "range " ++ decimal offset ++ codes " " ++ decimal length ++ codes " " ++ decimal size
ruling_text (ruling.Uneven size block) = codes "uneven " ++ decimal size ++ codes " " ++ decimal block

abbrev pub fault_text : Fault → List ℕ
fault_text fault.Usage = codes "usage"
fault_text (fault.Uri why) = codes "uri " ++ uri_name why
fault_text (fault.Line number) = codes "script line " ++ decimal number
fault_text (fault.Told option code) = peer_text option code
fault_text (fault.Broke broken) = codes "peer broke " ++ broken_text broken
fault_text fault.Client = codes "peer broke Client"
fault_text fault.Link = codes "link fault"
fault_text (fault.Rule ruling) = codes "rule " ++ ruling_text ruling
fault_text fault.Silent = codes "peer silent"
fault_text fault.Output = codes "output fault"
fault_text fault.NoMemory = codes "no memory"
fault_text fault.Input = codes "input fault"
fault_text fault.Store = codes "store fault"
fault_text (fault.Child status) = codes "child " ++ decimal status
fault_text fault.Signal = codes "child signal"
fault_text fault.Spawn = codes "spawn fault"

abbrev pub fault_line : Fault → List ℕ
fault_line fault = codes "lnbd: " ++ fault_text fault ++ codes "\n"

-- what is printed of it
abbrev pub end_line : End → List ℕ
end_line (Ok holds) = []
end_line (Err fault) = fault_line fault

-- The text was taken, or a front of it where the count of faults rose.
abbrev pub Prints : {E : Type 0} → (taken : E → Option (List ℕ)) → (faults : E → ℕ) → (old new : E) → List ℕ → Type 0
Prints taken faults old new text = Takes (taken old) (taken new) text ⊎ (Rises 1 (faults old) (faults new) × TakesFront (taken old) (taken new) text)

-- The status is that of the end, and its line was printed; or that found no memory.
abbrev pub IsReported : End → (Printed : List ℕ → Type 0) → (status : ℕ) → Type 0
IsReported end Printed status = ((status ≡ status_of end) × Printed (end_line end)) ⊎ ((status ≡ 9) × Printed (fault_line fault.NoMemory))

-- A run came to an end of which this holds, and its status and its line tell that.
pub record Came (Ends : End → Type 0) (Printed : List ℕ → Type 0) (status : ℕ) : Type 0 where
  pub end : End
  pub ends : Ends end
  pub tells : IsReported end Printed status

-- Counts.

-- no call on it failed
abbrev pub IsSound : {A : Type 0} → (faults : A → ℕ) → (old new : A) → Type 0
IsSound faults old new = ¬ Rises 1 (faults old) (faults new)

-- the wires waited for less than is borne
abbrev pub IsPatient : {W : Type 0} → (idles : W → ℕ) → (old new : W) → Type 0
IsPatient idles old new = ¬ Rises patience (idles old) (idles new)

-- Where the calls are told, before and after, more of them failed after.
abbrev pub ShowsFault : (old new : Option (List Call)) → Type 0
ShowsFault old new = (before after : List Call) → old ≡ Some before → new ≡ Some after → failed before < failed after
