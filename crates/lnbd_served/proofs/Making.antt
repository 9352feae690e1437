-- The reply that a server makes fits the wire, and it is one that its request can have.
use Rattle.std.proofs.Common.{◌≡◌, ℕ, zero, suc, ◌+◌, ◌^◌, ◌<◌, ◌≤◌, Bool, true, false, ◌&&◌, ◌||◌, List, [], ◌∷◌, length, take, drop, Option, Some, None, ◌==◌, refl, sym, subst, ◌∙◌, arith, if◌then◌else◌, length-append}
use Rattle.std.specs.List.{flat_map}
use Rattle.std.proofs.lemmas.List.{length-take, length-drop}
use Rattle.lnbd_model.specs.Errors.{error_of}
use Rattle.lnbd_model.specs.Kind.{has_range}
use Rattle.lnbd_model.specs.declared.errors.TheConstants.{EPERM, EINVAL, ENOSPC}
use Rattle.lnbd_model.specs.declared.export.Extent.{Extent}
use Rattle.lnbd_model.specs.declared.kind.Kind.{Kind}
use Rattle.lnbd_model.specs.declared.kind.Kind.TheVariants as kind
use Rattle.lnbd_records.specs.Flags.{cmd_flag_req_one}
use Rattle.lnbd_records.specs.Numbers.{row, AllFit, has_bit}
use Rattle.lnbd_records.specs.Transmission.{offset_data, error_head, descriptor, extended_descriptor, block_status, extended_block_status}
use Rattle.lnbd_records.proofs.NumberLaws.{length-row}
use Rattle.lnbd_export.specs.Export.{Export}
use Rattle.lnbd_export.specs.Requests.{Refused, Done, Content as Holding, Status as Telling, reply, refusal, refusal_at, refused_or, told, most, has_other_flags, is_unfit, is_change, is_outside, range_error, is_extended}
use Rattle.lnbd_export.specs.Statuses.{statuses, longer, status_of}
use Rattle.lnbd_export.specs.declared.request.Agreed.{Agreed}
use Rattle.lnbd_export.specs.declared.request.Replies.{Replies}
use Rattle.lnbd_export.specs.declared.request.Replies.TheVariants.{Simple, Structured, Extended}
use Rattle.lnbd_export.specs.declared.request.Request.{Request}
use Rattle.lnbd_export.proofs.Allowed.{in_range, small_read}
use Rattle.lnbd_asked.specs.Client.{length_size}
use Rattle.lnbd_served.proofs.Shown.{Says_nothing, Says_data, Says_error, Says_status, Says_extended, count_fields, count_extended}
use Rattle.lnbd_served.proofs.Items.{FitsRequest, FitsWire}

-- its numbers were read from so many bytes
pub record IsRead (replies : Replies) (request : Request) : Type 0 where
  pub cookie_ : request.cookie < 256 ^ 8
  pub offset_ : request.offset < 256 ^ 8
  pub length_ : request.length < 256 ^ length_size (is_extended replies)

-- Errors.

data IsNumber : ℕ → Type 0 where
  Denied : IsNumber EPERM
  Invalid : IsNumber EINVAL
  Full : IsNumber ENOSPC

abbrev IsError : ℕ → Type 0
IsError error = (error < 4294967296) × ((error == 0) ≡ false) × ((error_of error == 0) ≡ false)

number_fits : (error : ℕ) → IsNumber error → IsError error
number_fits _ Denied = (omega arith, refl, refl)
number_fits _ Invalid = (omega arith, refl, refl)
number_fits _ Full = (omega arith, refl, refl)

range_number : (k : Kind) → IsNumber (range_error k)
range_number kind.Read = Invalid
range_number kind.Write = Full
range_number kind.Flush = Invalid
range_number kind.Trim = Invalid
range_number kind.Cache = Invalid
range_number kind.Zero = Full
range_number kind.BlockStatus = Invalid

some_number : (one error : ℕ) → IsNumber one → Some one ≡ Some error → IsNumber error
some_number one error is e = let same : one ≡ error = cc in subst IsNumber same is

refusal_number : (agreed : Agreed) (export : Export) (request : Request) (error : ℕ) → refusal agreed export request ≡ Some error → IsNumber error
refusal_number agreed export request error e = kinds request.kind e
  where
    go : (k : Kind) (a b c : Bool) → (if a then Some EINVAL else if b then Some EPERM else if c then Some (range_error k) else None) ≡ Some error → IsNumber error
    go k true b c e = some_number EINVAL error Invalid e
    go k false true c e = some_number EPERM error Denied e
    go k false false true e = some_number (range_error k) error (range_number k) e
    go k false false false e = cc

    kinds : (k : Option Kind) → refusal_at agreed export request k ≡ Some error → IsNumber error
    kinds None e = some_number EINVAL error Invalid e
    kinds (Some k) e = go k (has_other_flags agreed.replies k request.flags || is_unfit agreed k request.length) (is_change k && export.read_only) (has_range k && is_outside export request.offset request.length) e

-- Descriptors.

abbrev AreSmall : ℕ → List Extent → Type 0
AreSmall n [] = Unit {0}
AreSmall n (d ∷ ds) = (d.length ≤ n) × (d.flags ≤ 3) × AreSmall n ds

small_more : (n m : ℕ) (ds : List Extent) → n ≤ m → AreSmall n ds → AreSmall m ds
small_more n m [] le s = tt
small_more n m (d ∷ ds) le s = (omega (arith, le, s.0), s.1, small_more n m ds le s.2)

status_small : (b : Bool) → status_of b ≤ 3
status_small true = omega arith
status_small false = omega arith

longer_small : (b : Bool) (n : ℕ) (ds : List Extent) → AreSmall n ds → AreSmall (n + 1) (longer (status_of b) ds)
longer_small b n [] s = (omega arith, status_small b, tt)
longer_small b n (d ∷ ds) s = go (d.flags == status_of b)
  where
    rest : AreSmall (n + 1) ds
    rest = small_more n (n + 1) ds (omega arith) s.2

    go : (t : Bool) → AreSmall (n + 1) (if t then record { length = d.length + 1; flags = status_of b } ∷ ds else record { length = 1; flags = status_of b } ∷ d ∷ ds)
    go true = (omega (arith, s.0), status_small b, rest)
    go false = (omega arith, status_small b, (omega (arith, s.0), s.1, rest))

statuses_small : (flags : List Bool) → AreSmall (length flags) (statuses flags)
statuses_small [] = tt
statuses_small (b ∷ flags) = let n : length flags + 1 ≡ suc (length flags) = omega arith in subst (λ (k : ℕ). AreSmall k (longer (status_of b) (statuses flags))) n (longer_small b (length flags) (statuses flags) (statuses_small flags))

take_small : (m n : ℕ) (ds : List Extent) → AreSmall n ds → AreSmall n (take m ds)
take_small zero n ds s = tt
take_small (suc m) n [] s = tt
take_small (suc m) n (d ∷ ds) s = (s.0, s.1, take_small m n ds s.2)

fits_descriptors : (n : ℕ) (ds : List Extent) → n < 4294967296 → AreSmall n ds → AllFit (flat_map (λ (d : Extent). descriptor d.length d.flags) ds)
fits_descriptors n [] small s = tt
fits_descriptors n (d ∷ ds) small s = (omega (arith, small, s.0), (omega (arith, s.1), fits_descriptors n ds small s.2))

fits_extended : (n : ℕ) (ds : List Extent) → n < 18446744073709551616 → AreSmall n ds → AllFit (flat_map (λ (d : Extent). extended_descriptor d.length d.flags) ds)
fits_extended n [] small s = tt
fits_extended n (d ∷ ds) small s = (omega (arith, small, s.0), (omega (arith, s.1), fits_extended n ds small s.2))

-- The wire.

wire_error : (replies : Replies) (request : Request) (error : ℕ) → IsRead replies request → error < 4294967296 → FitsWire replies request (Refused error)
wire_error Simple request error is small = (omega arith, (small, (is.cookie_, tt)))
wire_error Structured request error is small =
    let n = length-row (error_head error 0) in (Says_error false error (small, (omega arith, tt)), (omega arith, (omega arith, (omega arith, (is.cookie_, (omega (arith, n), tt))))))
wire_error Extended request error is small =
    let n = length-row (error_head error 0) in (Says_error true error (small, (omega arith, tt)), (omega arith, (omega arith, (omega arith, (is.cookie_, (is.offset_, (omega (arith, n), tt)))))))

wire_done : (replies : Replies) (request : Request) → IsRead replies request → FitsWire replies request Done
wire_done Simple request is = (omega arith, (omega arith, (is.cookie_, tt)))
wire_done Structured request is = (Says_nothing false, (omega arith, (omega arith, (omega arith, (is.cookie_, (omega arith, tt))))))
wire_done Extended request is = (Says_nothing true, (omega arith, (omega arith, (omega arith, (is.cookie_, (is.offset_, (omega arith, tt)))))))

wire_content : (replies : Replies) (request : Request) (bytes : List ℕ) → IsRead replies request → length bytes ≤ 33554432 → FitsWire replies request (Holding bytes)
wire_content Simple request bytes is small = (omega arith, (omega arith, (is.cookie_, tt)))
wire_content Structured request [] is small = (Says_nothing false, (omega arith, (omega arith, (omega arith, (is.cookie_, (omega arith, tt))))))
wire_content Extended request [] is small = (Says_nothing true, (omega arith, (omega arith, (omega arith, (is.cookie_, (is.offset_, (omega arith, tt)))))))
wire_content Structured request (byte ∷ bytes) is small =
    let n = length-row (offset_data request.offset) in
    let m = length-append (row (offset_data request.offset)) (byte ∷ bytes) in
    (Says_data false request.offset (byte ∷ bytes) (is.offset_, tt), (omega arith, (omega arith, (omega arith, (is.cookie_, (omega (arith, n, m, small), tt))))))
wire_content Extended request (byte ∷ bytes) is small =
    let n = length-row (offset_data request.offset) in
    let m = length-append (row (offset_data request.offset)) (byte ∷ bytes) in
    (Says_data true request.offset (byte ∷ bytes) (is.offset_, tt), (omega arith, (omega arith, (omega arith, (is.cookie_, (is.offset_, (omega (arith, n, m, small), tt)))))))

wire_status : (replies : Replies) (request : Request) (ds : List Extent) → IsRead replies request → length ds ≤ 1048576 → AreSmall request.length ds → FitsWire replies request (Telling ds)
wire_status Simple request ds is few small = (omega arith, (omega arith, (is.cookie_, tt)))
wire_status Structured request ds is few small =
    let n = length-row (block_status 1 ds) in
    let m = count_fields ds in
    (Says_status ds (omega arith, fits_descriptors request.length ds is.length_ small), (omega arith, (omega arith, (omega arith, (is.cookie_, (omega (arith, n, m, few), tt))))))
wire_status Extended request ds is few small =
    let n = length-row (extended_block_status 1 ds) in
    let m = count_extended ds in
    (Says_extended ds (omega arith, (omega (arith, few), fits_extended request.length ds is.length_ small)), (omega arith, (omega arith, (omega arith, (is.cookie_, (is.offset_, (omega (arith, n, m, few), tt)))))))

few : (b : Bool) → (if b then 1 else 1048576) ≤ 1048576
few true = omega arith
few false = omega arith

some_kind : (one other : Kind) → Some one ≡ Some other → one ≡ other
some_kind one other e = cc

-- what is told fits
pub made_fits : (agreed : Agreed) (export : Export) (request : Request) (k : Kind) → IsRead agreed.replies request → request.kind ≡ Some k →
    FitsRequest request (reply agreed export request) × FitsWire agreed.replies request (reply agreed export request)
made_fits agreed export request k is e = go (refusal agreed export request) refl
  where
    done : (other : Kind) → request.kind ≡ Some other → (other ≡ kind.Read → ⊥) → FitsRequest request Done × FitsWire agreed.replies request Done
    done other w nay = ((λ read. let same : Some other ≡ Some kind.Read = sym w ∙ read in nay (some_kind other kind.Read same)), wire_done agreed.replies request is)

    kinds : (other : Kind) → request.kind ≡ Some other → refusal agreed export request ≡ None → FitsRequest request (told (Some other) request export) × FitsWire agreed.replies request (told (Some other) request export)
    kinds kind.Read w ok =
        let range = in_range agreed export request ok kind.Read w refl in
        let small = small_read agreed export request ok w in
        let n : length (take request.length (drop request.offset export.bytes)) ≡ request.length = omega (arith, range, length-take request.length (drop request.offset export.bytes), length-drop request.offset export.bytes) in
        ((w, n, omega (arith, n, small)), wire_content agreed.replies request (take request.length (drop request.offset export.bytes)) is (omega (arith, n, small)))
    kinds kind.Write w ok = done kind.Write w (λ nay. cc)
    kinds kind.Flush w ok = done kind.Flush w (λ nay. cc)
    kinds kind.Trim w ok = done kind.Trim w (λ nay. cc)
    kinds kind.Cache w ok = done kind.Cache w (λ nay. cc)
    kinds kind.Zero w ok = done kind.Zero w (λ nay. cc)
    kinds kind.BlockStatus w ok =
        let slice : List Bool = take request.length (drop request.offset export.zeros) in
        let short : length (take request.length (drop request.offset export.zeros)) ≤ request.length = omega (arith, length-take request.length (drop request.offset export.zeros)) in
        let m = few (has_bit cmd_flag_req_one request.flags) in (
          (λ read. let same : Some kind.BlockStatus ≡ Some kind.Read = sym w ∙ read in cc),
          wire_status agreed.replies request (take (most request.flags) (statuses (take request.length (drop request.offset export.zeros)))) is
              (omega (arith, m, length-take (most request.flags) (statuses (take request.length (drop request.offset export.zeros)))))
              (take_small (most request.flags) request.length (statuses (take request.length (drop request.offset export.zeros)))
              (small_more (length (take request.length (drop request.offset export.zeros))) request.length (statuses (take request.length (drop request.offset export.zeros))) short (statuses_small (take request.length (drop request.offset export.zeros))))),
        )

    go : (v : Option ℕ) → refusal agreed export request ≡ v → FitsRequest request (refused_or v (told request.kind request export)) × FitsWire agreed.replies request (refused_or v (told request.kind request export))
    go (Some error) w = let f = number_fits error (refusal_number agreed export request error w) in (f, wire_error agreed.replies request error is f.0)
    go None w = subst (λ (o : Option Kind). FitsRequest request (told o request export) × FitsWire agreed.replies request (told o request export)) (sym e) (kinds k e w)
