-- What a reply makes of the facts of its command, by one change of them.
use Rattle.std.proofs.Common.{◌≡◌, ℕ, ◌+◌, ◌≤◌, Bool, true, false, ◌&&◌, ◌||◌, List, ◌∷◌, length, Option, Some, None, refl, ap, sym, ◌∙◌, arith, if◌then◌else◌, ◌==◌}
use Rattle.lnbd_chunks.specs.declared.form.Form.{Form}
use Rattle.lnbd_chunks.specs.declared.form.Form.TheVariants as form
use Rattle.lnbd_extents.specs.Positions.{holds, any_at}
use Rattle.lnbd_extents.specs.Ranges.{with_positions}
use Rattle.lnbd_model.specs.Errors.{error_of}
use Rattle.lnbd_model.specs.declared.errors.TheConstants.{EPROTO}
use Rattle.lnbd_model.specs.declared.export.Context.{Context as MetaContext}
use Rattle.lnbd_model.specs.declared.export.Extent.{Extent}
use Rattle.lnbd_model.specs.declared.failure.Failure.{Failure}
use Rattle.lnbd_model.specs.declared.failure.Origin.TheVariants as from
use Rattle.lnbd_outcome.specs.Facts.{Facts, is_bad, telling_as}
use Rattle.lnbd_outcome.specs.Outcome.{or_else, failing}
use Rattle.lnbd_outcome.specs.Pieces.{Framed, is_whole}
use Rattle.lnbd_records.specs.Content.{Data, Hole, Status, Error, ErrorAt, Nothing}
use Rattle.lnbd_structured.specs.Assembly.{Assembled, fixed_size, told_by, effect_by, effect_of, clashes}
use Rattle.lnbd_structured.specs.Steps.{content_told, status_bad, status_told, error_told, with_facts}
use Rattle.lnbd_structured.specs.declared.effect.Effect.TheVariants as effect

pub or_none : (failure : Option Failure) → or_else failure None ≡ failure
or_none None = refl
or_none (Some failure) = refl

-- a reply that adds no fault, and whose callback answers no error
unfailed : (facts : Facts) (n : ℕ) (f : Option Failure) → ◌≡◌ {A = Facts} (record facts { faults = n + 0; failure = or_else (or_else f None) None }) (record facts { faults = n; failure = f })
unfailed facts n f =
    let z : n + 0 ≡ n = omega arith in
    ap (λ (m : ℕ). record facts { faults = m; failure = or_else (or_else f None) None }) z ∙ ap (λ (g : Option Failure). record facts { faults = n; failure = g }) (or_none (or_else f None) ∙ or_none f)

data_as : (bad : Bool) (offset : ℕ) (bytes : List ℕ) (last : Bool) (facts : Facts) →
    telling_as bad (Framed (Data offset bytes) last) 0 facts ≡ content_told bad offset (length bytes) facts
data_as true offset bytes last facts = ap (λ (g : Option Failure). record facts { came = true; faults = facts.faults + 1; failure = g }) (or_none (or_else facts.failure (failing from.Content EPROTO)))
data_as false offset bytes last facts =
    unfailed (record facts { told = with_positions offset (length bytes) facts.told; came = true }) facts.faults facts.failure

hole_as : (bad : Bool) (offset size : ℕ) (last : Bool) (facts : Facts) →
    telling_as bad (Framed (Hole offset size) last) 0 facts ≡ content_told bad offset size facts
hole_as true offset size last facts = ap (λ (g : Option Failure). record facts { came = true; faults = facts.faults + 1; failure = g }) (or_none (or_else facts.failure (failing from.Content EPROTO)))
hole_as false offset size last facts =
    unfailed (record facts { told = with_positions offset size facts.told; came = true }) facts.faults facts.failure

status_as : (bad : Bool) (id : ℕ) (entries : List Extent) (last : Bool) (facts : Facts) →
    telling_as bad (Framed (Status id entries) last) 0 facts ≡ status_told bad id facts
status_as true id entries last facts = ap (λ (g : Option Failure). record facts { faults = facts.faults + 1; failure = g }) (or_none (or_else facts.failure (failing from.Content EPROTO)))
status_as false id entries last facts =
    unfailed (record facts { contexts = id ∷ facts.contexts }) facts.faults facts.failure

-- The command after a reply of each kind.

pub data_told : (command : Assembled) (offset n : ℕ) (bytes : List ℕ) (contexts : List MetaContext) (last : Bool) → length bytes ≡ n →
    with_facts (content_told (false || clashes command offset n) offset n command.facts) command ≡ told_by command contexts (Data offset bytes) last
data_told command offset n bytes contexts last e =
    ap (λ (m : ℕ). with_facts (content_told (false || clashes command offset m) offset m command.facts) command) (sym e)
    ∙ ap (λ (f : Facts). with_facts f command) (sym (data_as (clashes command offset (length bytes)) offset bytes last command.facts))

or_or : (a b c : Bool) → (a || (b || c)) ≡ ((a || b) || c)
or_or true b c = refl
or_or false b c = refl

-- whether zeros have a fault
pub hole_bad : (command : Assembled) (offset size : ℕ) (contexts : List MetaContext) →
    ((size == 0) || clashes command offset size) ≡ is_bad command.query contexts command.facts (Hole offset size)
hole_bad command offset size contexts = or_or (size == 0) (is_whole command.query && command.facts.came) (any_at (holds command.facts.told) offset size)

pub hole_told : (command : Assembled) (offset size : ℕ) (contexts : List MetaContext) (last : Bool) →
    with_facts (content_told ((size == 0) || clashes command offset size) offset size command.facts) command ≡ told_by command contexts (Hole offset size) last
hole_told command offset size contexts last =
    ap (λ (b : Bool). with_facts (content_told b offset size command.facts) command) (hole_bad command offset size contexts)
    ∙ ap (λ (f : Facts). with_facts f command) (sym (hole_as (is_bad command.query contexts command.facts (Hole offset size)) offset size last command.facts))

pub status_of : (command : Assembled) (id : ℕ) (entries : List Extent) (contexts : List MetaContext) (last : Bool) →
    with_facts (status_told (status_bad command contexts id entries) id command.facts) command ≡ told_by command contexts (Status id entries) last
status_of command id entries contexts last = ap (λ (f : Facts). with_facts f command) (sym (status_as (status_bad command contexts id entries) id entries last command.facts))

pub error_of_chunk : (command : Assembled) (number : ℕ) (contexts : List MetaContext) (last : Bool) → with_facts (error_told number command.facts) command ≡ told_by command contexts (Error number) last
error_of_chunk command number contexts last =
    ap (λ (g : Option Failure). with_facts (record command.facts { faults = command.facts.faults + 1; failure = g }) command) (sym (or_none (or_else command.facts.failure (failing from.Told (error_of number)))))

pub error_at_of_chunk : (command : Assembled) (number offset : ℕ) (contexts : List MetaContext) (last : Bool) → with_facts (error_told number command.facts) command ≡ told_by command contexts (ErrorAt number offset) last
error_at_of_chunk command number offset contexts last =
    ap (λ (g : Option Failure). with_facts (record command.facts { faults = command.facts.faults + 1; failure = g }) command) (sym (or_none (or_else command.facts.failure (failing from.Told (error_of number)))))

pub nothing_told : (command : Assembled) (contexts : List MetaContext) (last : Bool) → command ≡ told_by command contexts Nothing last
nothing_told command contexts last =
    ap (λ (f : Facts). with_facts f command) (sym (unfailed command.facts command.facts.faults command.facts.failure))

-- What it asks for.

pub data_effect : (command : Assembled) (offset n : ℕ) (bytes : List ℕ) (contexts : List MetaContext) (bad : Bool) → length bytes ≡ n → bad ≡ (false || clashes command offset n) →
    (if bad then effect.Nothing else effect.Place offset n) ≡ effect_of command contexts (Data offset bytes)
data_effect command offset n bytes contexts bad e is =
    ap (λ (b : Bool). if b then effect.Nothing else effect.Place offset n) is
    ∙ ap (λ (m : ℕ). if clashes command offset m then effect.Nothing else effect.Place offset m) (sym e)
    ∙ go (clashes command offset (length bytes))
  where
    go : (b : Bool) → (if b then effect.Nothing else effect.Place offset (length bytes)) ≡ effect_by b (Data offset bytes)
    go true = refl
    go false = refl

pub hole_effect : (command : Assembled) (offset size : ℕ) (contexts : List MetaContext) (bad : Bool) → bad ≡ ((size == 0) || clashes command offset size) →
    (if bad then effect.Nothing else effect.Hole offset size) ≡ effect_of command contexts (Hole offset size)
hole_effect command offset size contexts bad is =
    ap (λ (b : Bool). if b then effect.Nothing else effect.Hole offset size) (is ∙ hole_bad command offset size contexts)
    ∙ go (is_bad command.query contexts command.facts (Hole offset size))
  where
    go : (b : Bool) → (if b then effect.Nothing else effect.Hole offset size) ≡ effect_by b (Hole offset size)
    go true = refl
    go false = refl

pub status_effect : (command : Assembled) (id : ℕ) (entries : List Extent) (contexts : List MetaContext) (bad : Bool) → bad ≡ status_bad command contexts id entries →
    (if bad then effect.Nothing else effect.Told id) ≡ effect_of command contexts (Status id entries)
status_effect command id entries contexts bad is =
    ap (λ (b : Bool). if b then effect.Nothing else effect.Told id) is ∙ go (status_bad command contexts id entries)
  where
    go : (b : Bool) → (if b then effect.Nothing else effect.Told id) ≡ effect_by b (Status id entries)
    go true = refl
    go false = refl

-- No chunk is told by more than fourteen bytes.
pub fixed_at_most : (form : Form) → fixed_size form ≤ 14
fixed_at_most form.Empty = omega arith
fixed_at_most form.Data = omega arith
fixed_at_most form.Hole = omega arith
fixed_at_most form.Status = omega arith
fixed_at_most form.ExtendedStatus = omega arith
fixed_at_most form.Error = omega arith
fixed_at_most form.ErrorAt = omega arith
fixed_at_most form.OtherError = omega arith
fixed_at_most form.Unknown = omega arith
