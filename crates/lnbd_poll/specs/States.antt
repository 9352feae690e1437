-- In which states something is awaited of a handle, or may be asked of it.
use Rattle.std.specs.Prelude.{Bool, true, false}
use Rattle.lnbd_model.specs.declared.state.State.{State}
use Rattle.lnbd_model.specs.declared.state.State.TheVariants as state

abbrev pub is_negotiating : State → Bool
is_negotiating state.Created = false
is_negotiating state.Negotiating = true
is_negotiating state.OptMode = false
is_negotiating state.Ready = false
is_negotiating state.Closing = false
is_negotiating state.Closed = false
is_negotiating (state.Dead cause) = false

abbrev pub is_opt_mode : State → Bool
is_opt_mode state.Created = false
is_opt_mode state.Negotiating = false
is_opt_mode state.OptMode = true
is_opt_mode state.Ready = false
is_opt_mode state.Closing = false
is_opt_mode state.Closed = false
is_opt_mode (state.Dead cause) = false
