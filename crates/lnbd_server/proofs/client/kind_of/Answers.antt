use Rattle.std.proofs.Common.{◌≡◌, ◌≢◌, ℕ, Option, Some, None, refl, subst, IfSome, IfNone, arith}
use Rattle.lnbd_model.specs.Kind.{type_of}
use Rattle.lnbd_model.specs.declared.kind.Kind.{Kind}
use Rattle.lnbd_model.specs.declared.kind.Kind.TheVariants.{Read, Write, Flush, Trim, Cache, Zero, BlockStatus}
use Rattle.lnbd_server.specs.Client.{kind_of}
use Rattle.lnbd_server.proofs.client.kind_of.Goals as goal

of_its_type : (kind : Kind) → Some kind ≡ kind_of (type_of kind)
of_its_type Read = refl
of_its_type Write = refl
of_its_type Flush = refl
of_its_type Trim = refl
of_its_type Cache = refl
of_its_type Zero = refl
of_its_type BlockStatus = refl

is_kind : (told : Option Kind) (type : ℕ) → IfSome told (λ kind. type_of kind ≡ type) → IfNone told ((kind : Kind) → type_of kind ≢ type) → told ≡ kind_of type
is_kind (Some kind) type is none = subst (λ (n : ℕ). Some kind ≡ kind_of n) is (of_its_type kind)
is_kind None type is none =
    let a = none Read in
    let b = none Write in
    let d = none Flush in
    let e = none Trim in
    let f = none Cache in
    let g = none Zero in
    let h = none BlockStatus in
    grind (arith, a, b, d, e, f, g, h)

pub returns : goal.returns
returns c = is_kind c.from_code.result c.args.kind c.from_code.ensures.some c.from_code.ensures.none
