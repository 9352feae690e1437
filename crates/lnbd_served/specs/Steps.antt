-- What a server does over one export, on all of its links, the latest step first: it takes requests and makes replies.
use Rattle.std.specs.Prelude.{◌≡◌, ℕ, List, [], ◌∷◌, ◌⊎◌, Some, length}
use Rattle.lnbd_model.specs.declared.kind.Kind.TheVariants.{Write}
use Rattle.lnbd_export.specs.Export.{Export}
use Rattle.lnbd_export.specs.Requests.{effect, Reply, reply}
use Rattle.lnbd_export.specs.declared.request.Agreed.{Agreed}
use Rattle.lnbd_export.specs.declared.request.Request.{Request}

-- a request with its data, and what was agreed on when it was taken
pub record Taken : Type 0 where
  pub agreed : Agreed
  pub request : Request
  pub payload : List ℕ

pub data Step : Type 0 where
  Took : (link : ℕ) (taken : Taken) → Step
  Gave : (link cookie : ℕ) (given : Reply) → Step

-- it is one of these steps
abbrev pub Has : Step → List Step → Type 0
Has step [] = ⊥
Has step (first ∷ steps) = (first ≡ step) ⊎ Has step steps

-- the export after the steps
abbrev pub after : Export → List Step → Export
after start [] = start
after start (Took link taken ∷ steps) = effect taken.agreed taken.request taken.payload (after start steps)
after start (Gave link cookie given ∷ steps) = after start steps

-- the reply to a request that was taken on this link, as the export stands
pub record IsRight (start : Export) (link cookie : ℕ) (given : Reply) (steps : List Step) : Type 0 where
  pub taken : Taken
  pub was : Has (Took link taken) steps
  pub cookie_ : taken.request.cookie ≡ cookie
  pub is : given ≡ reply taken.agreed (after start steps) taken.request

-- a write's data has its length
abbrev pub IsWhole : Taken → Type 0
IsWhole taken = taken.request.kind ≡ Some Write → length taken.payload ≡ taken.request.length

-- each reply is right when it is made
abbrev pub AllRight : Export → List Step → Type 0
AllRight start [] = Unit {0}
AllRight start (Took link taken ∷ steps) = IsWhole taken × AllRight start steps
AllRight start (Gave link cookie given ∷ steps) = IsRight start link cookie given steps × AllRight start steps
