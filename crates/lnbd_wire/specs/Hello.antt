-- What is read where the server's hello is wanted.
use Rattle.std.specs.Prelude.{◌≢◌, ℕ, ◌<◌, List, [], ◌∷◌, length, ◌⊎◌}
use Rattle.lnbd_records.specs.Numbers.{number, IsRow, Begins}
use Rattle.lnbd_records.specs.Handshake.{init_magic, option_magic, hello}
use Rattle.lnbd_wire.specs.declared.hello.HelloRead.{HelloRead}
use Rattle.lnbd_wire.specs.declared.hello.HelloRead.TheVariants.{Value, NeedMore, BadFirst, BadSecond}

-- The bytes are a hello so far, and end before its first number does, before its second does, or before its flags do.
abbrev pub IsCut : List ℕ → Type 0
IsCut bytes =
    (length bytes < 8)
    ⊎ ((Begins (IsRow (number 8 init_magic ∷ [])) bytes × (length bytes < 16))
    ⊎ (Begins (IsRow (number 8 init_magic ∷ number 8 option_magic ∷ [])) bytes × (length bytes < 18)))

abbrev pub IsHelloRead : List ℕ → HelloRead → Type 0
IsHelloRead bytes (Value flags) = Begins (IsRow (hello flags)) bytes
IsHelloRead bytes NeedMore = IsCut bytes
IsHelloRead bytes (BadFirst other) = (other ≢ init_magic) × Begins (IsRow (number 8 other ∷ [])) bytes
IsHelloRead bytes (BadSecond other) = (other ≢ option_magic) × Begins (IsRow (number 8 init_magic ∷ number 8 other ∷ [])) bytes
