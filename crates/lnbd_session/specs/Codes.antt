-- The codes of answers, and which one stands for which fault of the handle.
use Rattle.std.specs.Prelude.{◌≡◌, ◌≢◌, ℤ, pos, negsuc, Option, Some, None, [], ◌∷◌, slice_get, if◌then◌else◌, ◌==◌}
use Rattle.lnbd_model.specs.declared.refusal.Why.{Why}
use Rattle.lnbd_model.specs.declared.refusal.Why.TheVariants as why
use Rattle.lnbd_handle.specs.declared.kinds.OptFault.{OptFault}
use Rattle.lnbd_handle.specs.declared.kinds.OptFault.TheVariants as opt
use Rattle.lnbd_handle.specs.declared.kinds.SetFault.{SetFault}
use Rattle.lnbd_handle.specs.declared.kinds.SetFault.TheVariants as set
use Rattle.lnbd_session.specs.declared.code.Code.{Code}
use Rattle.lnbd_session.specs.declared.code.Code.TheVariants.{Ok, NoMemory, Held, Empty, BadState, TooMany, NotYet, NoCookie, Unsupported, BadRequest, Full, Dead}

-- the number of a code: 0, and -1 to -11
abbrev pub number_of : Code → ℤ
number_of Ok = pos 0
number_of NoMemory = negsuc 0
number_of Held = negsuc 1
number_of Empty = negsuc 2
number_of BadState = negsuc 3
number_of TooMany = negsuc 4
number_of NotYet = negsuc 5
number_of NoCookie = negsuc 6
number_of Unsupported = negsuc 7
number_of BadRequest = negsuc 8
number_of Full = negsuc 9
number_of Dead = negsuc 10

-- the code of a number, where one has it
abbrev pub code_at : ℤ → Option Code
code_at (pos n) = if n == 0 then Some Ok else None
code_at (negsuc n) = slice_get (NoMemory ∷ Held ∷ Empty ∷ BadState ∷ TooMany ∷ NotYet ∷ NoCookie ∷ Unsupported ∷ BadRequest ∷ Full ∷ Dead ∷ []) n

-- why a command is refused
abbrev pub code_of_why : Why → Code
code_of_why (why.NotReady state) = BadState
code_of_why (why.Dead cause) = Dead
code_of_why why.Closing = BadState
code_of_why (why.TooMany most) = Full
code_of_why (why.Unsupported lack) = Unsupported
code_of_why (why.BadFlags flags) = BadRequest
code_of_why why.ZeroSize = BadRequest
code_of_why (why.TooBig limit) = BadRequest
code_of_why (why.Bounds size) = BadRequest
code_of_why (why.Align minimum) = BadRequest

-- the code of a command that is judged so
abbrev pub code_of_refusal : Option Why → Code
code_of_refusal None = Ok
code_of_refusal (Some reason) = code_of_why reason

-- why a setting is refused
abbrev pub code_of_set_fault : SetFault → Code
code_of_set_fault set.NoMemory = NoMemory
code_of_set_fault (set.State state) = BadState
code_of_set_fault (set.TooMany most) = Full

-- why an option is refused
abbrev pub code_of_opt_fault : OptFault → Code
code_of_opt_fault opt.NoMemory = NoMemory
code_of_opt_fault (opt.State state) = BadState
code_of_opt_fault opt.NotStructured = Unsupported

-- The call answers this code, unless memory runs out.
abbrev pub InMemory : Code → Code → Type 0
InMemory answered code = answered ≢ NoMemory → answered ≡ code
