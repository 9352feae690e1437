-- How many replies may still come to one command, the last one among them: one for each place of a read and each meta context of a block status
-- that wasn't told, one for each error or content fault that it may still have, and the last.
use Rattle.std.specs.Prelude.{ℕ, zero, suc, ◌+◌, ◌-◌, Bool, List, [], ◌∷◌, if◌then◌else◌}
use Rattle.lnbd_extents.specs.Positions.{holds}
use Rattle.lnbd_model.specs.Kind.{is_read, is_status}
use Rattle.lnbd_model.specs.declared.export.Context.{Context as MetaContext}
use Rattle.lnbd_records.specs.Limits.{max_faults}
use Rattle.lnbd_outcome.specs.Pieces.{Query}
use Rattle.lnbd_outcome.specs.Facts.{Facts, has}

abbrev pub none_if : Bool → ℕ
none_if test = if test then 0 else 1

-- of how many of so many places from one on the test doesn't hold
abbrev pub missing : (ℕ → Bool) → (p : ℕ) → (n : ℕ) → ℕ
missing test p zero = 0
missing test p (suc n) = none_if (test p) + missing test (p + 1) n

-- of the ids of how many contexts it doesn't hold
abbrev pub unnamed : (ℕ → Bool) → List MetaContext → ℕ
unnamed test [] = 0
unnamed test (context ∷ contexts) = none_if (test context.id) + unnamed test contexts

-- how much of what was asked wasn't told, where these contexts are agreed
abbrev pub untold : Query → List MetaContext → Facts → ℕ
untold query contexts facts =
    if is_read query.kind then missing (holds facts.told) query.offset query.length
    else if is_status query.kind then unnamed (has facts.contexts) contexts
    else 0

unfoldable pub owed : Query → List MetaContext → Facts → ℕ
owed query contexts facts = untold query contexts facts + (max_faults - facts.faults) + 1
