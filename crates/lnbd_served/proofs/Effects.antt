-- What a request does to one byte of an export.
use Rattle.std.proofs.Common.{◌≡◌, ℕ, zero, suc, cond, get_or, ◌+◌, ◌-◌, ◌≤◌, Bool, true, false, ◌&&◌, ◌||◌, List, length, replicate, Option, Some, None, refl, ap, sym, subst, ◌∙◌, arith, nat_lt, if◌then◌else◌}
use Rattle.std.proofs.lemmas.Bool.Decides.{nat_tests}
use Rattle.std.proofs.lemmas.List.{get_or-replicate, length-replicate}
use Rattle.lnbd_extents.specs.Positions.{within}
use Rattle.lnbd_model.specs.Kind.{has_range}
use Rattle.lnbd_model.specs.declared.kind.Kind.{Kind}
use Rattle.lnbd_model.specs.declared.kind.Kind.TheVariants as kind
use Rattle.lnbd_model.specs.declared.errors.TheConstants.{EINVAL, EPERM}
use Rattle.lnbd_export.specs.Export.{Export, TellsTruly, put, written, zeroed}
use Rattle.lnbd_export.specs.Requests.{effect, refusal, refusal_at, has_other_flags, is_unfit, is_change, range_error, done, unless}
use Rattle.lnbd_export.specs.declared.request.Agreed.{Agreed}
use Rattle.lnbd_export.specs.declared.request.Request.{Request}
use Rattle.lnbd_export.proofs.Allowed.{in_range}
use Rattle.lnbd_export.proofs.PutLaws.{length-put, put_at}

-- What holds of an export where a request is refused, and where it is done, holds after it.
effect_stays : (P : Export → Type 0) (agreed : Agreed) (request : Request) (payload : List ℕ) (export : Export) → P export → (refusal agreed export request ≡ None → P (done request.kind request payload export)) →
    P (effect agreed request payload export)
effect_stays P agreed request payload export stays does = go (refusal agreed export request) does
  where
    go : (refused : Option ℕ) → (refused ≡ None → P (done request.kind request payload export)) → P (unless refused (done request.kind request payload export) export)
    go None h = h refl
    go (Some error) h = stays

-- What stays where bytes are written within the export, and where they are zeroed, stays whatever is done.
done_stays : (P : Export → Type 0) (k : Option Kind) (request : Request) (payload : List ℕ) (export : Export) →
    (k ≡ Some kind.Write → P (written request.offset payload export)) →
    ((k ≡ Some kind.Trim → P (zeroed request.offset request.length export)) × (k ≡ Some kind.Zero → P (zeroed request.offset request.length export))) →
    P export → P (done k request payload export)
done_stays P None request payload export write wipe p = p
done_stays P (Some kind.Read) request payload export write wipe p = p
done_stays P (Some kind.Write) request payload export write wipe p = write refl
done_stays P (Some kind.Flush) request payload export write wipe p = p
done_stays P (Some kind.Trim) request payload export write wipe p = wipe.0 refl
done_stays P (Some kind.Cache) request payload export write wipe p = p
done_stays P (Some kind.Zero) request payload export write wipe p = wipe.1 refl
done_stays P (Some kind.BlockStatus) request payload export write wipe p = p

-- one place of a list into which as many were put
put_many : {A : Type 0} (at n : ℕ) (new old : List A) (p : ℕ) (d : A) → length new ≡ n → at + n ≤ length old → get_or (put at new old) p d ≡ cond (within (at, n) p) (get_or new (p - at) d) (get_or old p d)
put_many at n new old p d many fits = put_at at new old p d (omega (arith, many)) ∙ ap (λ (k : ℕ). cond (within (at, k) p) (get_or new (p - at) d) (get_or old p d)) many

put_keeps : {A : Type 0} (at n : ℕ) (new old : List A) → length new ≡ n → at + n ≤ length old → length (put at new old) ≡ length old
put_keeps at n new old many fits = length-put at new old (omega (arith, many))

no_flag : (n i : ℕ) → get_or (replicate n false) i false ≡ false
no_flag zero i = refl
no_flag (suc n) zero = refl
no_flag (suc n) (suc i) = no_flag n i

zeros : ℕ → List ℕ
zeros n = replicate n 0

written_truly : (offset : ℕ) (payload : List ℕ) (export : Export) → offset + length payload ≤ length export.bytes → TellsTruly export → TellsTruly (written offset payload export)
written_truly offset payload export fits tells = record {
  each = put_keeps offset (length payload) (replicate (length payload) false) export.zeros (length-replicate (length payload) false) (omega (arith, tells.each)) ∙ tells.each ∙ sym (length-put offset payload export.bytes fits);
  truly = λ p told. put_at offset payload export.bytes p 1 fits ∙ go p (within (offset, length payload) p)
      (sym (put_many offset (length payload) (replicate (length payload) false) export.zeros p false (length-replicate (length payload) false) (omega (arith, tells.each))) ∙ told);
}
  where
    go : (p : ℕ) (b : Bool) → cond b (get_or (replicate (length payload) false) (p - offset) false) (get_or export.zeros p false) ≡ true → cond b (get_or payload (p - offset) 1) (get_or export.bytes p 1) ≡ 0
    go p true told = let no : false ≡ true = sym (no_flag (length payload) (p - offset)) ∙ told in cc
    go p false told = tells.truly p told

zeroed_truly : (offset n : ℕ) (export : Export) → offset + n ≤ length export.bytes → TellsTruly export → TellsTruly (zeroed offset n export)
zeroed_truly offset n export fits tells = record {
  each = put_keeps offset n (replicate n true) export.zeros (length-replicate n true) (omega (arith, tells.each)) ∙ tells.each ∙ sym (put_keeps offset n (replicate {A = ℕ} n 0) export.bytes (length-replicate n 0) fits);
  truly = λ p told. put_many offset n (replicate {A = ℕ} n 0) export.bytes p 1 (length-replicate n 0) fits ∙ go p (within (offset, n) p) refl
      (sym (put_many offset n (replicate n true) export.zeros p false (length-replicate n true) (omega (arith, tells.each))) ∙ told);
}
  where
    go : (p : ℕ) (b : Bool) → within (offset, n) p ≡ b → cond b (get_or (replicate n true) (p - offset) false) (get_or export.zeros p false) ≡ true → cond b (get_or (replicate {A = ℕ} n 0) (p - offset) 1) (get_or export.bytes p 1) ≡ 0
    go p true here told = get_or-replicate n (p - offset) 0 1 (grind (arith, nat_tests))
    go p false here told = tells.truly p told

-- A request that isn't refused has its range within the export.
module _ (agreed : Agreed) (request : Request) (payload : List ℕ) (export : Export) (sized : request.kind ≡ Some kind.Write → length payload ≡ request.length) where
  abbrev Sound : Type 0
  Sound = refusal agreed export request ≡ None

  wrote : Sound → request.kind ≡ Some kind.Write → request.offset + length payload ≤ length export.bytes
  wrote ok is = let fits : request.offset + request.length ≤ length export.bytes = in_range agreed export request ok kind.Write is refl in omega (arith, sized is, fits)

  wiped : (k : Kind) → has_range k ≡ true → Sound → request.kind ≡ Some k → request.offset + request.length ≤ length export.bytes
  wiped k range ok is = in_range agreed export request ok k is range

  -- Where both ways of changing keep it, a request does.
  keeps : (P : Export → Type 0) → (request.offset + length payload ≤ length export.bytes → request.kind ≡ Some kind.Write → P (written request.offset payload export)) →
      (request.offset + request.length ≤ length export.bytes → (request.kind ≡ Some kind.Trim → P (zeroed request.offset request.length export)) × (request.kind ≡ Some kind.Zero → P (zeroed request.offset request.length export))) →
      P export → P (effect agreed request payload export)
  keeps P write wipe p = effect_stays P agreed request payload export p (λ ok. done_stays P request.kind request payload export (λ is. write (wrote ok is) is)
      ((λ is. (wipe (wiped kind.Trim refl ok is)).0 is), (λ is. (wipe (wiped kind.Zero refl ok is)).1 is)) p)

  pub effect_truly : TellsTruly export → TellsTruly (effect agreed request payload export)
  effect_truly tells = keeps TellsTruly (λ fits is. written_truly request.offset payload export fits tells) (λ fits. ((λ is. zeroed_truly request.offset request.length export fits tells), (λ is. zeroed_truly request.offset request.length export fits tells))) tells

  abbrev Alike : Export → Type 0
  Alike after = (length after.bytes ≡ length export.bytes) × (after.read_only ≡ export.read_only) × (after.name ≡ export.name) × (after.description ≡ export.description)

  pub effect_alike : Alike (effect agreed request payload export)
  effect_alike = keeps Alike (λ fits is. (length-put request.offset payload export.bytes fits, refl, refl, refl))
      (λ fits. let n = put_keeps request.offset request.length (replicate {A = ℕ} request.length 0) export.bytes (length-replicate request.length 0) fits in ((λ is. (n, refl, refl, refl)), (λ is. (n, refl, refl, refl)))) (refl, refl, refl, refl)

  -- a byte and its flag are as they were
  abbrev Beside : ℕ → Export → Type 0
  Beside p after = (get_or after.bytes p 0 ≡ get_or export.bytes p 0) × (get_or after.zeros p false ≡ get_or export.zeros p false)

  out : {A : Type 0} (at n : ℕ) (new old : List A) (p : ℕ) (d : A) → length new ≡ n → at + n ≤ length old → within (at, n) p ≡ false → get_or (put at new old) p d ≡ get_or old p d
  out at n new old p d many fits beside = put_many at n new old p d many fits ∙ ap (λ (b : Bool). cond b (get_or new (p - at) d) (get_or old p d)) beside

  -- A request that doesn't cover a byte leaves it.
  pub effect_beside : (p : ℕ) → TellsTruly export → ((k : Kind) → request.kind ≡ Some k → is_change k ≡ true → within (request.offset, request.length) p ≡ false) → Beside p (effect agreed request payload export)
  effect_beside p tells beside = keeps (Beside p)
      (λ fits is. let there = beside kind.Write is refl in let n = sized is in
      let room : request.offset + request.length ≤ length export.zeros = omega (arith, fits, n, tells.each) in (
        out request.offset request.length payload export.bytes p 0 n (omega (arith, fits, n)) there,
        out request.offset request.length (replicate (length payload) false) export.zeros p false (length-replicate (length payload) false ∙ n) room there,
      ))
      (λ fits. ((λ is. wipe fits (beside kind.Trim is refl)), (λ is. wipe fits (beside kind.Zero is refl)))) (refl, refl)
    where
      wipe : request.offset + request.length ≤ length export.bytes → within (request.offset, request.length) p ≡ false → Beside p (zeroed request.offset request.length export)
      wipe fits there =
          let room : request.offset + request.length ≤ length export.zeros = omega (arith, fits, tells.each) in (
            out request.offset request.length (replicate {A = ℕ} request.length 0) export.bytes p 0 (length-replicate request.length 0) fits there,
            out request.offset request.length (replicate request.length true) export.zeros p false (length-replicate request.length true) room there,
          )

  -- what a request leaves at a byte that it covers
  abbrev pub Leaves : ℕ → ℕ → Type 0
  Leaves p byte = (request.kind ≡ Some kind.Write → byte ≡ get_or payload (p - request.offset) 0) × (request.kind ≡ Some kind.Zero → byte ≡ 0)

  into : {A : Type 0} (at n : ℕ) (new old : List A) (p : ℕ) (d : A) → length new ≡ n → at + n ≤ length old → within (at, n) p ≡ true → get_or (put at new old) p d ≡ get_or new (p - at) d
  into at n new old p d many fits over = put_many at n new old p d many fits ∙ ap (λ (b : Bool). cond b (get_or new (p - at) d) (get_or old p d)) over

  -- A request that isn't refused leaves that.
  pub effect_over : (p : ℕ) → refusal agreed export request ≡ None → within (request.offset, request.length) p ≡ true → Leaves p (get_or (effect agreed request payload export).bytes p 0)
  effect_over p ok over = subst (λ (r : Option ℕ). Leaves p (get_or (unless r (done request.kind request payload export) export).bytes p 0)) (sym ok) (
    (λ is. let n = sized is in let fits = wrote ok is in ap (λ (k : Option Kind). get_or (done k request payload export).bytes p 0) is ∙ into request.offset request.length payload export.bytes p 0 n (omega (arith, fits, n)) over),
    (λ is. ap (λ (k : Option Kind). get_or (done k request payload export).bytes p 0) is
        ∙ into request.offset request.length (replicate {A = ℕ} request.length 0) export.bytes p 0 (length-replicate request.length 0) (wiped kind.Zero refl ok is) over
        ∙ get_or-replicate request.length (p - request.offset) 0 0 (grind (arith, nat_tests))),
  )

-- Whether a request is refused hangs on the size and on whether the export may be changed, and on nothing else.
pub refusal_same : (agreed : Agreed) (request : Request) (one other : Export) → length one.bytes ≡ length other.bytes → one.read_only ≡ other.read_only → refusal agreed one request ≡ refusal agreed other request
refusal_same agreed request one other n r = go request.kind
  where
    go : (k : Option Kind) → refusal_at agreed one request k ≡ refusal_at agreed other request k
    go None = refl
    go (Some k) =
        ap (λ (b : Bool). if has_other_flags agreed.replies k request.flags || is_unfit agreed k request.length then Some EINVAL else if is_change k && b then Some EPERM
        else if has_range k && nat_lt (length one.bytes) (request.offset + request.length) then Some (range_error k) else None) r
        ∙ ap (λ (m : ℕ). if has_other_flags agreed.replies k request.flags || is_unfit agreed k request.length then Some EINVAL else if is_change k && other.read_only then Some EPERM
        else if has_range k && nat_lt m (request.offset + request.length) then Some (range_error k) else None) n
