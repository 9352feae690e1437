-- What is known of the export once negotiation came to a stand.
use Rattle.std.specs.Prelude.{◌≡◌, ◌⊎◌, ℕ, ◌≤◌, ◌<◌, ◌+◌, false, List, [], ◌∷◌, Option, Some, None, Result, Ok, Err}
use Rattle.lnbd_model.specs.declared.breach.Breach.TheVariants as breach
use Rattle.lnbd_model.specs.declared.export.ExportInfo.{ExportInfo}
use Rattle.lnbd_model.specs.declared.state.State.{State}
use Rattle.lnbd_model.specs.declared.state.State.TheVariants as state
use Rattle.lnbd_history.specs.Answers.{direction_after, info_after, state_after}
use Rattle.lnbd_history.specs.Events.{History}
use Rattle.lnbd_dump.specs.declared.asking.Plan.{Plan}
use Rattle.lnbd_reel.specs.declared.ranges.Span.{Span}
use Rattle.lnbd_dump.specs.declared.reader.Reader.{Reader}
use Rattle.lnbd_reel.specs.declared.reel.Run.{Run}
use Rattle.lnbd_dump.specs.declared.stop.Stop.{Stop}
use Rattle.lnbd_dump.specs.declared.stop.Stop.TheVariants as stop
use Rattle.lnbd_dump.specs.declared.terms.Terms.{Terms}
use Rattle.lnbd_ask.specs.Maps.{block_of, size_end}
use Rattle.lnbd_dump.specs.Conduct.{is_agreed, piece_of}
use Rattle.lnbd_reel.specs.Ranges.{Covers, IsUneven, length_given, length_shown}

pub record AreTerms (info : ExportInfo) (terms : Terms) : Type 0 where
  pub size : terms.size ≡ info.size
  pub block : terms.block ≡ block_of info
  pub piece : terms.piece ≡ piece_of info
  pub agreed : terms.agreed ≡ is_agreed info.contexts

-- Where the handle is ready, nothing waits to go out and an export is known of a size below `size_end`, these are its terms; else it is stopped.
abbrev pub IsKnownAt : State → (direction : ℕ) → Option ExportInfo → Result Terms Stop → Type 0
IsKnownAt at direction told (Ok terms) = (at ≡ state.Ready) × (direction ≡ 1) × (info : ExportInfo) × (told ≡ Some info) × (info.size < size_end) × AreTerms info terms
IsKnownAt at direction told (Err (stop.Died cause)) = at ≡ state.Dead cause
IsKnownAt at direction told (Err (stop.Broke broke)) = ((told ≡ None) × (at ≡ state.Ready) × (broke ≡ breach.NoExportInfo)) ⊎ ((at ≡ state.Ready) × (direction ≡ 1) × (info : ExportInfo) × (told ≡ Some info) × (size_end ≤ info.size) × (broke ≡ breach.SizeTooBig))
IsKnownAt at direction told (Err (stop.Halted why)) = Unit {0}
IsKnownAt at direction told (Err (stop.Failed error)) = ⊥
IsKnownAt at direction told (Err stop.Output) = ⊥
IsKnownAt at direction told (Err (stop.Range size)) = ⊥
IsKnownAt at direction told (Err (stop.Uneven size block)) = ⊥

abbrev pub IsKnown : Result Terms Stop → History Reader → Type 0
IsKnown result history = IsKnownAt (state_after history) (direction_after history) (info_after history) result

-- The range is judged: the blocks that have it, or why there are none.
pub record FitsIn (terms : Terms) (offset : ℕ) (given : Option ℕ) (span : Span) : Type 0 where
  pub fits : offset + length_given given ≤ terms.size
  pub even : IsUneven offset span.count terms.size terms.block → ⊥
  pub count : span.count ≡ length_shown offset given terms.size
  pub covers : 0 < span.count → Covers offset span.count terms.size terms.block span.first span.last

abbrev pub IsSpan : Terms → (offset : ℕ) → (given : Option ℕ) → Result Span Stop → Type 0
IsSpan terms offset given (Ok span) = FitsIn terms offset given span
IsSpan terms offset given (Err (stop.Range size)) = (size ≡ terms.size) × (terms.size < offset + length_given given)
IsSpan terms offset given (Err (stop.Uneven size block)) =
    (size ≡ terms.size) × (block ≡ terms.block) × (offset + length_given given ≤ terms.size) × IsUneven offset (length_shown offset given terms.size) terms.size terms.block
IsSpan terms offset given (Err (stop.Died cause)) = ⊥
IsSpan terms offset given (Err (stop.Broke broke)) = ⊥
IsSpan terms offset given (Err (stop.Halted why)) = ⊥
IsSpan terms offset given (Err (stop.Failed error)) = ⊥
IsSpan terms offset given (Err stop.Output) = ⊥

-- Where all is known, all is one run that is to be read; else nothing is to be begun.
abbrev pub BeginsWith : Plan → List Run → Type 0
BeginsWith plan runs = ((plan.at ≡ plan.known) × (runs ≡ [])) ⊎ ((plan.at < plan.known) × (runs ≡ record { end = plan.known; zero = false } ∷ []))
