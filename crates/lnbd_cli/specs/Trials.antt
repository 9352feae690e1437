-- What a run of selftest is: the copy that was made in memory, what its line tells, and how the run ended.
use Rattle.std.specs.Prelude.{◌≡◌, ◌<◌, ◌∷◌, ◌++◌, ℕ, Bool, true, List, [], Option, Ok, Err, codes, decimal}
use Rattle.lnbd_link.specs.Part.{Takes, TakesFront}
use Rattle.lnbd_memnet.specs.Wires.{Served}
use Rattle.lnbd_plan.specs.declared.summary.Summary.{Summary}
use Rattle.lnbd_rehearsal.specs.Rehearsed.{HasRehearsed}
use Rattle.lnbd_cli.specs.declared.ending.Fault.TheVariants as fault
use Rattle.lnbd_cli.specs.declared.ending.Ruling.TheVariants as ruling
use Rattle.lnbd_cli.specs.declared.selftesting.Trial.{Trial}
use Rattle.lnbd_cli.specs.Ends.{End, is_one_of}
use Rattle.lnbd_cli.specs.Limits.{most_tested}

-- what is printed of a copy that was made
abbrev pub trial_text : Trial → List ℕ
trial_text trial = codes "seed " ++ decimal trial.seed ++ codes " size " ++ decimal trial.size

abbrev pub moved_text : Summary → List ℕ
moved_text sums = codes " read " ++ decimal sums.read ++ codes " written " ++ decimal sums.written

abbrev pub zeroed_text : Summary → List ℕ
zeroed_text sums = codes " zeroed " ++ decimal sums.zeroed ++ codes " equal\n"

abbrev pub sums_line : Trial → Summary → List ℕ
sums_line trial sums = trial_text trial ++ moved_text sums ++ zeroed_text sums

-- The copy was made, the destination holds what the source held, and this line tells it with its sums.
pub record TellsTrial (trial : Trial) (line : List ℕ) : Type 0 where
  pub sums : Summary
  pub wires : Served
  pub rehearsed : HasRehearsed trial.seed trial.size sums wires
  pub is : line ≡ sums_line trial sums

-- It was made, and of its line that was printed.
pub record Tested (trial : Trial) (Printed : List ℕ → Type 0) : Type 0 where
  pub line : List ℕ
  pub made : TellsTrial trial line
  pub printed : Printed line

-- How a run of selftest ends; Unprinted says that nothing was printed.
pub data TestEnds (trial : Trial) (taken taken' : Option (List ℕ)) (Unprinted : Type 0) (end : End) : Type 0 where
  Made : end ≡ Ok true → Tested trial (λ line. Takes taken taken' line) → TestEnds trial taken taken' Unprinted end
  Cut : end ≡ Err fault.Output → Tested trial (λ line. TakesFront taken taken' line) → TestEnds trial taken taken' Unprinted end
  TooLarge : end ≡ Err (fault.Rule (ruling.TooLarge trial.size)) → most_tested < trial.size → Unprinted → TestEnds trial taken taken' Unprinted end
  Unmade : end ≡ Err fault.NoMemory → Unprinted → TestEnds trial taken taken' Unprinted end

-- the statuses of selftest
abbrev pub is_test_status : (status : ℕ) → Bool
is_test_status status = is_one_of (0 ∷ 6 ∷ 8 ∷ 9 ∷ []) status
