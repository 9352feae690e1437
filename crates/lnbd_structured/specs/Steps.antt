-- The facts of a command, changed in one way each.
use Rattle.std.specs.Prelude.{ℕ, ◌+◌, Bool, true, false, ◌||◌, List, ◌∷◌, if◌then◌else◌}
use Rattle.lnbd_extents.specs.Ranges.{with_positions}
use Rattle.lnbd_model.specs.Errors.{error_of}
use Rattle.lnbd_model.specs.declared.errors.TheConstants.{EPROTO}
use Rattle.lnbd_model.specs.declared.export.Context.{Context as MetaContext}
use Rattle.lnbd_model.specs.declared.export.Extent.{Extent}
use Rattle.lnbd_model.specs.declared.failure.Origin.{Origin}
use Rattle.lnbd_model.specs.declared.failure.Origin.TheVariants as from
use Rattle.lnbd_outcome.specs.Facts.{Facts, has}
use Rattle.lnbd_outcome.specs.Faults.{status_fault}
use Rattle.lnbd_outcome.specs.Outcome.{or_else, failing}
use Rattle.lnbd_outcome.specs.Pieces.{is_single}
use Rattle.lnbd_structured.specs.Assembly.{Assembled}

-- with an error from here, 0 being none
abbrev pub with_failure : Origin → ℕ → Facts → Facts
with_failure origin error facts = record facts { failure = or_else facts.failure (failing origin error) }

-- with a reply at fault
abbrev pub faulted : (is_content : Bool) → Facts → Facts
faulted is_content facts = record facts { came = is_content || facts.came; faults = facts.faults + 1; failure = or_else facts.failure (failing from.Content EPROTO) }

-- with content of a read
abbrev pub placed : (start size : ℕ) → Facts → Facts
placed start size facts = record facts { told = with_positions start size facts.told; came = true }

abbrev pub content_told : (bad : Bool) → (start size : ℕ) → Facts → Facts
content_told bad start size facts = if bad then faulted true facts else placed start size facts

-- with the extents of a meta context
abbrev pub status_bad : Assembled → List MetaContext → (id : ℕ) → List Extent → Bool
status_bad command contexts id entries = status_fault (is_single command.query) contexts (has command.facts.contexts) id entries

abbrev pub status_told : (bad : Bool) → ℕ → Facts → Facts
status_told bad id facts = if bad then faulted false facts else record facts { contexts = id ∷ facts.contexts }

-- with an error that was told
abbrev pub error_told : ℕ → Facts → Facts
error_told number facts = record facts { faults = facts.faults + 1; failure = or_else facts.failure (failing from.Told (error_of number)) }

-- with what the callback answered
abbrev pub failed : ℕ → Facts → Facts
failed error facts = record facts { failure = or_else facts.failure (failing from.Callback error) }

abbrev pub with_facts : Facts → Assembled → Assembled
with_facts facts command = record command { facts = facts }
