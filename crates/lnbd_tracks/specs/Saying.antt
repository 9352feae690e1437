-- Which positions the answer to a block status told of, be they zero or not.
use Rattle.std.specs.Prelude.{◌≡◌, ℕ, ◌-◌, Bool, true, false, ◌&&◌, ◌||◌, List, [], ◌∷◌, Option, Some, None, is_some, nat_le}
use Rattle.lnbd_model.specs.declared.export.Extent.{Extent}
use Rattle.lnbd_extents.specs.Lists.{flags_at}
use Rattle.lnbd_outcome.specs.Pieces.{content_of}
use Rattle.lnbd_link.specs.Call.{Call}
use Rattle.lnbd_history.specs.Agreement.{opt_mode}
use Rattle.lnbd_history.specs.Commands.{Request}
use Rattle.lnbd_history.specs.Entries.{Filing, Piece, own, pieces}
use Rattle.lnbd_history.specs.Events.{History}
use Rattle.lnbd_history.specs.History.{request, reading}
use Rattle.lnbd_history.specs.Laws.{Lawful, is_closed}
use Rattle.lnbd_asked.specs.Driven.{AllSpell, Drives, written}
use Rattle.lnbd_asked.specs.Link.{Link}
use Rattle.lnbd_asked.specs.Transcript.{extents_in, on_link}

-- flags of the position were told at all
abbrev pub is_told : Option ℕ → Bool
is_told flags = is_some flags

-- What extents laid end to end from a place on say of the position is so.
abbrev pub said_in : (test : Option ℕ → Bool) → ℕ → List Extent → ℕ → Bool
said_in test start extents p = nat_le start p && test (flags_at extents (p - start))

abbrev pub said_by : (test : Option ℕ → Bool) → ℕ → List Piece → ℕ → Bool
said_by test start [] p = false
said_by test start (piece ∷ earlier) p = said_in test start (extents_in piece.contexts (content_of piece.item)) p || said_by test start earlier p

module _ {K : Type 0} where
  -- by what came for a request alone
  abbrev pub said_of : (test : Option ℕ → Bool) → Option (Request K) → List (Filing K) → ℕ → Bool
  said_of test None own p = false
  said_of test (Some asks) own p = said_by test asks.offset (pieces own) p

  -- so it is in what came for a command
  abbrev pub said_after : (test : Option ℕ → Bool) → History K → (cookie p : ℕ) → Bool
  said_after test history cookie p = said_of test (request history cookie) (own cookie (reading history).known.entries) p

-- an extent of base:allocation in this request's answer told of the position
abbrev pub told_at : Link → ℕ → ℕ → Bool
told_at link cookie p = said_of is_told (request link.requests cookie) (own cookie link.heard.entries) p

-- The link of a handle that isn't in opt mode nor closed, all of whose bytes that were read have arrived, tells of the positions of which its history tells, by the answer
-- to each request that was wholly written.
abbrev pub DrivenTells : Type 0 → Type 0
DrivenTells K = (limit link : ℕ) (calls : List Call) (history : History K) → Lawful limit history → AllSpell history → is_closed history ≡ false → opt_mode (reading history).known.turns ≡ false →
    Drives link calls history [] → (cookie p : ℕ) → nat_le cookie (written history) ≡ true → told_at (on_link link calls) cookie p ≡ said_after is_told history cookie p
