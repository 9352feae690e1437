-- What a request comes to is seen from what came for it alone.
use Rattle.std.proofs.Common.{◌≡◌, ℕ, Bool, true, false, ◌||◌, List, [], ◌∷◌, Option, Some, None, refl, ap, sym, ◌∙◌, nat_le, if◌then◌else◌}
use Rattle.std.specs.Option.{option_map}
use Rattle.lnbd_history.specs.declared.kinds.Phase.TheVariants as phase
use Rattle.lnbd_history.specs.Agreement.{phase, steps, export}
use Rattle.lnbd_history.specs.Commands.{Command, Request}
use Rattle.lnbd_outcome.specs.Outcome.{Outcome, Unfinished, outcome}
use Rattle.lnbd_outcome.specs.Pieces.{content_of}
use Rattle.lnbd_history.specs.Entries.{Piece, Filing, own, pieces}
use Rattle.lnbd_history.specs.Events.{History}
use Rattle.lnbd_history.specs.History.{Known, request}
use Rattle.lnbd_asked.specs.Link.{Nobody, Link}
use Rattle.lnbd_asked.specs.Transcript.{bare, outcome_of, export_at, export_told, size_of, extents_in, zero_in, zero_by, zero_told}
use Rattle.lnbd_asked.specs.InStep.{InStep, silent_pieces, InStepSaysSo}
use Rattle.lnbd_asked.proofs.Steps.{past, query_bare}

abbrev comes_of : Option (Command Nobody) → List Piece → Outcome
comes_of None all = Unfinished
comes_of (Some asks) all = outcome (query_bare asks) all

outcome_so : {K : Type 0} (asks : Option (Request K)) (filings : List (Filing K)) → outcome_of asks filings ≡ comes_of (option_map bare asks) (silent_pieces filings)
outcome_so None filings = refl
outcome_so (Some asks) filings = refl

-- That a callback said nothing is no matter to what was told.
zero_silent : {K : Type 0} (start : ℕ) (filings : List (Filing K)) (p : ℕ) → zero_by start (pieces filings) p ≡ zero_by start (silent_pieces filings) p
zero_silent start [] p = refl
zero_silent start (filing ∷ earlier) p = ap (λ (b : Bool). zero_in start (extents_in filing.contexts (content_of filing.item)) p || b) (zero_silent start earlier p)

abbrev zero_of : Option (Command Nobody) → List Piece → ℕ → Bool
zero_of None all p = false
zero_of (Some asks) all p = zero_by asks.offset all p

zero_so : {K : Type 0} (asks : Option (Request K)) (filings : List (Filing K)) (p : ℕ) → zero_told asks filings p ≡ zero_of (option_map bare asks) (silent_pieces filings) p
zero_so None filings p = refl
zero_so (Some asks) filings p = zero_silent asks.offset filings p

pub in_step_tells : {K : Type 0} (history : History K) (n : ℕ) (known : Known K) (link : Link) → InStep history n known link → export_told link ≡ export_at (phase known.turns) (export (steps known.turns))
in_step_tells history n known link s = ap (λ p. export_at p (export (steps link.heard.turns))) s.ready' ∙ ap (export_at phase.Ready) (sym s.told) ∙ sym (ap (λ p. export_at p (export (steps known.turns))) s.ready)

pub in_step_says_so : {K : Type 0} → InStepSaysSo K
in_step_says_so history n known link s = record {
  requests = λ c. go c (nat_le c n) refl;
  outcomes = λ c low.
      outcome_so (request link.requests c) (own c link.heard.entries)
      ∙ ap (λ a. comes_of a (silent_pieces (own c link.heard.entries))) (sym (s.requests.same c low))
      ∙ ap (comes_of (option_map bare (request history c))) (sym (s.filed c low))
      ∙ sym (outcome_so (request history c) (own c known.entries));
  zero = λ c p low.
      zero_so (request link.requests c) (own c link.heard.entries) p
      ∙ ap (λ a. zero_of a (silent_pieces (own c link.heard.entries)) p) (sym (s.requests.same c low))
      ∙ ap (λ all. zero_of (option_map bare (request history c)) all p) (sym (s.filed c low))
      ∙ sym (zero_so (request history c) (own c known.entries) p);
  size = ap size_of (in_step_tells history n known link s);
}
  where
    go : (c : ℕ) (b : Bool) → nat_le c n ≡ b → option_map bare (request link.requests c) ≡ (if nat_le c n then option_map bare (request history c) else None)
    go c true low = sym (s.requests.same c low) ∙ sym (ap (λ (b : Bool). if b then option_map bare (request history c) else None) low)
    go c false high = ap (option_map bare) (past history n known link c s high) ∙ sym (ap (λ (b : Bool). if b then option_map bare (request history c) else None) high)
