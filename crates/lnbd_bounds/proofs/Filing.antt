-- Filing leaves the link as it is, and death leaves nothing.
use Rattle.std.proofs.Common.{◌≡◌, ℕ, ◌+◌, List, [], ◌∷◌, Option, Some, None, refl, ap, ◌∙◌}
use Rattle.lnbd_model.specs.declared.state.Cause.{Cause}
use Rattle.lnbd_keyed.specs.Keyed.{value_at, keys}
use Rattle.lnbd_history.specs.declared.kinds.Stage.TheVariants.{Dead}
use Rattle.lnbd_history.specs.Commands.{Flight}
use Rattle.lnbd_history.specs.Entries.{Item, Lost}
use Rattle.lnbd_history.specs.Outgoing.{Part, total}
use Rattle.lnbd_machine.specs.Machine.{Row, State, Doing, file_flight, file_row, file_in, file_all, on_state, kill}
use Rattle.lnbd_bounds.specs.Budget.{coming, left}

module _ {K : Type 0} where
  pub record SameLink (old new : State K) : Type 0 where
    pub stage : new.stage ≡ old.stage
    pub talk : new.talk ≡ old.talk
    pub waits : new.waits ≡ old.waits

  same : (state : State K) → SameLink state state
  same state = record { stage = refl; talk = refl; waits = refl }

  pub file_same : (cookie : ℕ) (item : Item) (doing : Doing K) → SameLink doing.state (file_in cookie item doing).state
  file_same cookie item doing = go (value_at cookie doing.state.rows)
    where
      in_row : (flight : Option (Flight K)) (row : Row K) → SameLink doing.state (file_flight flight row cookie item doing).state
      in_row None row = same doing.state
      in_row (Some flight) row = record { stage = refl; talk = refl; waits = refl }

      go : (row : Option (Row K)) → SameLink doing.state (file_row row cookie item doing).state
      go None = same doing.state
      go (Some row) = in_row row.flight row

  pub file_all_same : (item : Item) (cookies : List ℕ) (doing : Doing K) → SameLink doing.state (file_all item cookies doing).state
  file_all_same item [] doing = same doing.state
  file_all_same item (cookie ∷ cookies) doing =
      let one = file_same cookie item doing in
      let more = file_all_same item cookies (file_in cookie item doing) in
      record { stage = more.stage ∙ one.stage; talk = more.talk ∙ one.talk; waits = more.waits ∙ one.waits }

  pub kill_stage : (cause : Cause) (doing : Doing K) → (kill cause doing).state.stage ≡ Dead cause
  kill_stage cause doing = (file_all_same Lost (keys doing.state.rows) (on_state (λ state. record state { stage = Dead cause; waits = [] }) doing)).stage

  kill_waits : (cause : Cause) (doing : Doing K) → (kill cause doing).state.waits ≡ []
  kill_waits cause doing = (file_all_same Lost (keys doing.state.rows) (on_state (λ state. record state { stage = Dead cause; waits = [] }) doing)).waits

  pub kill_left : (cause : Cause) (doing : Doing K) (held : ℕ) → left (kill cause doing).state held ≡ 0
  kill_left cause doing held =
      ap (λ s. coming s (kill cause doing).state held + total (kill cause doing).state.waits) (kill_stage cause doing)
      ∙ ap (λ (w : List Part). 0 + total w) (kill_waits cause doing)
