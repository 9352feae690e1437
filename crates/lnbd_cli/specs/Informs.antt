-- What a run of nbdinfo is: what the server told, and what was printed.
use Rattle.std.specs.Prelude.{◌≡◌, ◌⊎◌, ◌∷◌, ℕ, Bool, List, [], Option, Some, Result, Ok, Err}
use Rattle.lnbd_link.specs.Call.{Call}
use Rattle.lnbd_link.specs.Part.{Takes, TakesFront}
use Rattle.lnbd_records.specs.Options.{opt_info}
use Rattle.lnbd_cli.specs.declared.ending.Fault.{Fault}
use Rattle.lnbd_cli.specs.declared.ending.Fault.TheVariants as fault
use Rattle.lnbd_cli.specs.declared.hearing.Question.{Question}
use Rattle.lnbd_cli.specs.Ends.{End, is_one_of}
use Rattle.lnbd_cli.specs.Heard.{Says, Unheard, WasAsked}

-- The server was asked, and what it told was printed.
pub record AnswerPrinted (q : Question) (told told' : Option (List Call)) (taken taken' : Option (List ℕ)) (end : Result Bool ℕ) : Type 0 where
  pub text : List ℕ
  pub says : Says q.what q.json q.place told told' text end
  pub takes : Takes taken taken' text

-- The server was asked, and a front of what it told was printed.
pub record FrontPrinted (q : Question) (told told' : Option (List Call)) (taken taken' : Option (List ℕ)) : Type 0 where
  pub text : List ℕ
  pub end : Result Bool ℕ
  pub says : Says q.what q.json q.place told told' text end
  pub takes : TakesFront taken taken' text

-- A run whose text was printed ends so: what was asked is true or it is false, or an export was refused, which is told as an error of the option INFO.
abbrev pub EndsAs : Result Bool ℕ → End → Type 0
EndsAs (Ok holds) end = end ≡ Ok holds
EndsAs (Err code) end = end ≡ Err (fault.Told (Some opt_info) code)

-- The text was printed, or a front of it where the output failed.
abbrev pub IsPrinted : End → List ℕ → Result Bool ℕ → (taken taken' : Option (List ℕ)) → Type 0
IsPrinted end text answer taken taken' = (EndsAs answer end × Takes taken taken' text) ⊎ ((end ≡ Err fault.Output) × TakesFront taken taken' text)

-- How a run of nbdinfo ends; Uncalled and Unprinted say that nothing was called and that nothing was printed.
pub data InfoEnds (q : Question) (told told' : Option (List Call)) (taken taken' : Option (List ℕ)) (Uncalled Unprinted : Type 0) (end : End) : Type 0 where
  Answered : (answer : Result Bool ℕ) → EndsAs answer end → AnswerPrinted q told told' taken taken' answer → InfoEnds q told told' taken taken' Uncalled Unprinted end
  Cut : end ≡ Err fault.Output → FrontPrinted q told told' taken taken' → InfoEnds q told told' taken taken' Uncalled Unprinted end
  Failed : (why : Fault) → end ≡ Err why → Unheard q.what q.place told told' why → Unprinted → InfoEnds q told told' taken taken' Uncalled Unprinted end
  -- all was told, but a count rose of which nothing told
  Counted : (end ≡ Err fault.Link) ⊎ (end ≡ Err fault.Silent) → WasAsked q.what q.place told told' → Unprinted → InfoEnds q told told' taken taken' Uncalled Unprinted end
  Unbegun : end ≡ Err fault.NoMemory → Uncalled → Unprinted → InfoEnds q told told' taken taken' Uncalled Unprinted end

-- the statuses of nbdinfo, and those of a run in which no count rose
abbrev pub is_info_status : (status : ℕ) → Bool
is_info_status status = is_one_of (0 ∷ 2 ∷ 3 ∷ 4 ∷ 5 ∷ 6 ∷ 7 ∷ 8 ∷ 9 ∷ []) status

abbrev pub IsInfoDone : ℕ → Type 0
IsInfoDone status = (status ≡ 0) ⊎ ((status ≡ 2) ⊎ ((status ≡ 3) ⊎ ((status ≡ 4) ⊎ ((status ≡ 6) ⊎ (status ≡ 9)))))
