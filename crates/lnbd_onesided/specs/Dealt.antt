-- What was asked of a side that is no export, as what was dealt with an export.
use Rattle.std.specs.Prelude.{◌≡◌, ℕ, false, ◌&&◌, ◌==◌, cond, List, [], ◌∷◌, Option, Some, None}
use Rattle.std.specs.Option.{option_map}
use Rattle.lnbd_outcome.specs.Outcome.{Outcome, Unfinished}
use Rattle.lnbd_asked.specs.Transcript.{Dealt}
use Rattle.lnbd_board.specs.Requests.{Request, IsDealt}

-- the first request under a link and a cookie
abbrev pub found : List Request → (link cookie : ℕ) → Option Request
found [] link cookie = None
found (r ∷ rs) link cookie = cond ((r.link == link) && (r.cookie == cookie)) (Some r) (found rs link cookie)

abbrev pub outcome_of : Option Request → Outcome
outcome_of None = Unfinished
outcome_of (Some r) = r.said.outcome

-- a side of this size, of which these requests were asked; it tells no extents
abbrev pub dealt_by : (size : ℕ) → List Request → Dealt
dealt_by size asked = record {
  asked = λ link cookie. option_map (λ (r : Request). r.said.command) (found asked link cookie);
  outcome = λ link cookie. outcome_of (found asked link cookie);
  zero = λ link cookie p. false;
  size = λ link. Some size;
}

-- no two requests stand under one link and cookie
abbrev pub AreApart : List Request → Type 0
AreApart [] = Unit {0}
AreApart (r ∷ rs) = (found rs r.link r.cookie ≡ None) × AreApart rs

-- Then they are what was dealt.
abbrev pub ApartAreDealt : Type 0
ApartAreDealt = (size : ℕ) (asked : List Request) → AreApart asked → IsDealt asked (dealt_by size asked)
