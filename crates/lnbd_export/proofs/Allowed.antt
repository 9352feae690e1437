-- What holds of a request that isn't refused.
use Rattle.std.proofs.Common.{◌≡◌, ℕ, ◌+◌, ◌≤◌, Bool, true, false, ◌&&◌, ◌||◌, List, Option, Some, None, refl, ap, sym, ◌∙◌, if◌then◌else◌}
use Rattle.std.proofs.lemmas.Bool.{ltb-false}
use Rattle.lnbd_model.specs.Kind.{has_range}
use Rattle.lnbd_model.specs.declared.kind.Kind.{Kind}
use Rattle.lnbd_model.specs.declared.kind.Kind.TheVariants.{Read}
use Rattle.lnbd_model.specs.declared.errors.TheConstants.{EINVAL, EPERM}
use Rattle.lnbd_records.specs.Limits.{max_data}
use Rattle.lnbd_export.specs.declared.request.Agreed.{Agreed}
use Rattle.lnbd_export.specs.declared.request.Request.{Request}
use Rattle.lnbd_export.specs.Export.{Export, size}
use Rattle.lnbd_export.specs.Requests.{has_other_flags, is_unfit, is_change, is_outside, range_error, refusal, refusal_at, refusal_of, done, effect, unless, told, reply, refused_or}

passes : {A : Type 0} (b : Bool) (error : A) (rest : Option A) → (if b then Some error else rest) ≡ None → (b ≡ false) × (rest ≡ None)
passes true error rest e = cc
passes false error rest e = (refl, e)

not_both : (a b : Bool) → a && b ≡ false → a ≡ true → b ≡ false
not_both true b e t = e
not_both false b e t = cc

neither : (a b : Bool) → a || b ≡ false → (a ≡ false) × (b ≡ false)
neither true b e = cc
neither false b e = (refl, e)

of_kind : (agreed : Agreed) (export : Export) (request : Request) (kind : Kind) → refusal agreed export request ≡ None → request.kind ≡ Some kind → refusal_of agreed export request kind ≡ None
of_kind agreed export request kind none is = ap (refusal_at agreed export request) (sym is) ∙ none

-- its range is in the export
pub in_range : (agreed : Agreed) (export : Export) (request : Request) → refusal agreed export request ≡ None →
    (kind : Kind) → request.kind ≡ Some kind → has_range kind ≡ true → request.offset + request.length ≤ size export
in_range agreed export request none kind is range =
    let first = passes (has_other_flags agreed.replies kind request.flags || is_unfit agreed kind request.length) EINVAL
    (if is_change kind && export.read_only then Some EPERM else if has_range kind && is_outside export request.offset request.length then Some (range_error kind) else None)
    (of_kind agreed export request kind none is) in
    let second = passes (is_change kind && export.read_only) EPERM (if has_range kind && is_outside export request.offset request.length then Some (range_error kind) else None) first.1 in
    let third = passes (has_range kind && is_outside export request.offset request.length) (range_error kind) None second.1 in
    ltb-false (size export) (request.offset + request.length) (not_both (has_range kind) (is_outside export request.offset request.length) third.0 range)

-- a read isn't too long
pub small_read : (agreed : Agreed) (export : Export) (request : Request) → refusal agreed export request ≡ None → request.kind ≡ Some Read → request.length ≤ max_data
small_read agreed export request none is =
    let first = passes (has_other_flags agreed.replies Read request.flags || is_unfit agreed Read request.length) EINVAL
    (if is_change Read && export.read_only then Some EPERM else if has_range Read && is_outside export request.offset request.length then Some (range_error Read) else None)
    (of_kind agreed export request Read none is) in
    ltb-false max_data request.length (neither (has_other_flags agreed.replies Read request.flags) (is_unfit agreed Read request.length) first.0).1

pub refused_stays : (agreed : Agreed) (export : Export) (request : Request) (payload : List ℕ) (error : ℕ) → refusal agreed export request ≡ Some error → export ≡ effect agreed request payload export
refused_stays agreed export request payload error e = sym (ap (λ v. unless v (done request.kind request payload export) export) e)

pub not_refused : (agreed : Agreed) (export : Export) (request : Request) (payload : List ℕ) → refusal agreed export request ≡ None → done request.kind request payload export ≡ effect agreed request payload export
not_refused agreed export request payload e = sym (ap (λ v. unless v (done request.kind request payload export) export) e)

pub told_now : (agreed : Agreed) (export : Export) (request : Request) → refusal agreed export request ≡ None → told request.kind request export ≡ reply agreed export request
told_now agreed export request e = sym (ap (λ v. refused_or v (told request.kind request export)) e)

pub refused_now : (agreed : Agreed) (export : Export) (request : Request) (error : ℕ) → refusal agreed export request ≡ Some error → refused_or (Some error) (told request.kind request export) ≡ reply agreed export request
refused_now agreed export request error e = sym (ap (λ v. refused_or v (told request.kind request export)) e)
