-- How the requests of a copy are shared out among its connections, by its calls.
use Rattle.std.specs.Prelude.{ℕ, List, ◌+◌, ◌-◌, ◌/◌, ◌≡◌, ◌⊎◌, ◌++◌}
use Rattle.lnbd_model.specs.declared.target.Place.{Place}
use Rattle.lnbd_model.specs.declared.export.ExportInfo.{ExportInfo}
use Rattle.lnbd_link.specs.Call as wire
use Rattle.lnbd_asked.specs.Transcript.{dealt_with}
use Rattle.lnbd_plan.specs.declared.options.CopyOptions.{CopyOptions}
use Rattle.lnbd_course.specs.Spread.{FewOn}
use Rattle.lnbd_course.specs.Parts.{NothingWasAsked}
use Rattle.lnbd_conduct.specs.declared.terms.Terms.{Terms}
use Rattle.lnbd_conduct.specs.Terms.{IsLimited}
use Rattle.lnbd_conduct.specs.Settled.{AreSettledBy, Settled}

-- By these calls no more READ, WRITE and WRITE_ZEROES are unanswered on any link than so many of the source, and so many of the destination.
pub record AreFewOnEach (reads changes : ℕ) (from to : Place) (calls : List wire.Call) : Type 0 where
  pub source : (link : ℕ) → FewOn reads link (dealt_with from calls)
  pub destination : (link : ℕ) → FewOn changes link (dealt_with to calls)

-- so many, divided by this number and rounded up
abbrev pub rounded_up : (many by : ℕ) → ℕ
rounded_up many by = (many + by - 1) / by

-- On the terms that these options and what both sides told settle, on no connection are more READ, WRITE and WRITE_ZEROES unanswered by these calls than the limit divided by
-- the number of its side's connections, rounded up.
pub record IsSharedBy (options : CopyOptions) (from to : Place) (source destination : ExportInfo) (calls : List wire.Call) : Type 0 where
  pub terms : Terms
  pub settled : AreSettledBy options source destination terms
  pub limited : IsLimited options terms
  pub few : AreFewOnEach (rounded_up terms.limit terms.sides.source) (rounded_up terms.limit terms.sides.destination) from to calls

abbrev pub IsShared : CopyOptions → (from to : Place) → List wire.Call → Type 0
IsShared options from to calls = Settled options.extents from to (λ source destination. IsSharedBy options from to source destination calls) calls

-- So it is at every moment, in the middle of a turn too: by each front of these calls nothing was asked yet, or it is shared so.
pub record IsAlwaysShared (options : CopyOptions) (from to : Place) (calls : List wire.Call) : Type 0 where
  pub each : (front rest : List wire.Call) → calls ≡ front ++ rest → NothingWasAsked front ⊎ IsShared options from to front
