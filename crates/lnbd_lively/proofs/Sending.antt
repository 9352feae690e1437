-- The parts of a handle that says nothing by which its session ends, and what is told from them.
use Rattle.std.proofs.Common.{◌≡◌, ℕ, ◌+◌, ◌≤◌, Bool, true, false, List, [], ◌∷◌, ◌++◌, length, Option, Some, None, is_some, ◌==◌, refl, ap, sym, subst, ◌∙◌, arith, append-nil, length-append}
use Rattle.std.specs.List.{flat_map}
use Rattle.std.proofs.lemmas.Bool.{false≢true}
use Rattle.lnbd_model.specs.declared.kind.Kind.{Kind}
use Rattle.lnbd_records.specs.Handshake.{client_flags, option_head}
use Rattle.lnbd_records.specs.Limits.{max_data}
use Rattle.lnbd_records.specs.Numbers.{AllFit, row, number_at}
use Rattle.lnbd_records.specs.Options.{opt_abort, opt_export_name}
use Rattle.lnbd_records.proofs.NumberLaws.{then_reads, length-row}
use Rattle.lnbd_history.specs.Outgoing.{Part, plain}
use Rattle.lnbd_asked.specs.Client.{Said, Flags, Wishes, Orders, Wish, Order, order_head, spell, Fits, magic_of}
use Rattle.lnbd_asked.specs.Link.{kind_of}
use Rattle.lnbd_asked.specs.Parts.{parts_of, request_parts}
use Rattle.lnbd_server.specs.Client.{are_client_flags, max_option_request}
use Rattle.lnbd_served.proofs.Shown.{value}
use Rattle.lnbd_lively.specs.Fair.{IsWithin, GoesOn}

-- the first four bytes of an option request
abbrev pub option_front : ℕ
option_front = 0x49484156

-- Flags that a client may have; an option of a length that is read, and no ABORT, nor EXPORT_NAME unless that was asked; the head of a write; and what a command ends with.
pub data IsFair (named : Bool) (part : Part) : Type 0 where
  Greets : part.ends ≡ false → length part.bytes ≡ 4 → are_client_flags (number_at 0 4 part.bytes) ≡ true → IsFair named part
  Asks : part.ends ≡ false → 16 ≤ length part.bytes → length part.bytes ≤ 16 + max_option_request → number_at 0 4 part.bytes ≡ option_front →
      (number_at 8 4 part.bytes == opt_abort) ≡ false → ((number_at 8 4 part.bytes == opt_export_name) ≡ true → named ≡ true) → IsFair named part
  Heads : part.ends ≡ false → 28 ≤ length part.bytes → (extended : Bool) → number_at 0 4 part.bytes ≡ magic_of extended → number_at 6 2 part.bytes ≡ 1 → IsFair named part
  Ends : part.ends ≡ true → length part.bytes ≤ max_data → IsFair named part

abbrev pub AreFair : Bool → List Part → Type 0
AreFair named [] = Unit {0}
AreFair named (part ∷ more) = IsFair named part × AreFair named more

pub still_fair : (one other : Bool) (part : Part) → (one ≡ true → other ≡ true) → IsFair one part → IsFair other part
still_fair one other part more (Greets e n are) = Greets e n are
still_fair one other part more (Asks e few most magic goes named) = Asks e few most magic goes (λ is. more (named is))
still_fair one other part more (Heads e n extended magic type) = Heads e n extended magic type
still_fair one other part more (Ends e n) = Ends e n

pub are_still : (one other : Bool) (parts : List Part) → (one ≡ true → other ≡ true) → AreFair one parts → AreFair other parts
are_still one other [] more f = tt
are_still one other (part ∷ parts) more f = (still_fair one other part more f.0, are_still one other parts more f.1)

pub fair_join : (named : Bool) (one other : List Part) → AreFair named one → AreFair named other → AreFair named (one ++ other)
fair_join named [] other f g = g
fair_join named (part ∷ one) other f g = (f.0, fair_join named one other f.1 g)

fair_split : (named : Bool) (one other : List Part) → AreFair named (one ++ other) → AreFair named one × AreFair named other
fair_split named [] other f = (tt, f)
fair_split named (part ∷ one) other f = let r = fair_split named one other f.1 in ((f.0, r.0), r.1)

-- each thing's own parts
pub fair_said : (named extended : Bool) (front more : List Said) (one : Said) → AreFair named (flat_map (parts_of extended) (front ++ one ∷ more)) → AreFair named (parts_of extended one)
fair_said named extended [] more one f = (fair_split named (parts_of extended one) (flat_map (parts_of extended) more) f).0
fair_said named extended (first ∷ front) more one f = fair_said named extended front more one (fair_split named (parts_of extended first) (flat_map (parts_of extended) (front ++ one ∷ more)) f).1

-- The magics of options and requests differ.
not_front : (extended : Bool) → magic_of extended ≡ option_front → ⊥
not_front true e = omega (arith, e)
not_front false e = omega (arith, e)

option_starts : (wish : Wish) → number_at 0 4 (spell false (Wishes wish)) ≡ option_front
unfolding row number_at lib.Count.ones
option_starts wish = refl

flags_from : (named : Bool) (flags : ℕ) → AllFit (client_flags flags) → IsFair named (plain (row (client_flags flags))) → are_client_flags flags ≡ true
unfolding number_at
flags_from named flags fit f = go f
  where
    size : length (row (client_flags flags)) ≡ 4
    size = length-row (client_flags flags)

    is : number_at 0 4 (row (client_flags flags)) ≡ flags
    is = ap (λ fs. value fs 0) (then_reads (client_flags flags) [] (row (client_flags flags)) (record { fit = fit; spelled = sym (append-nil (row (client_flags flags))) })).fields

    go : IsFair named (plain (row (client_flags flags))) → are_client_flags flags ≡ true
    go (Greets e n are) = ap are_client_flags (sym is) ∙ are
    go (Asks e few most magic goes by) = absurd (omega (arith, few, size))
    go (Heads e n extended magic type) = absurd (omega (arith, n, size))
    go (Ends e n) = absurd (false≢true e)

-- what such an option is
pub record IsPlainWish (named : Bool) (wish : Wish) : Type 0 where
  pub few : length wish.body ≤ max_option_request
  pub goes : (wish.option == opt_abort) ≡ false
  pub by_name : (wish.option == opt_export_name) ≡ true → named ≡ true

wish_from : (named : Bool) (wish : Wish) → AllFit (option_head wish.option (length wish.body)) → IsFair named (plain (spell false (Wishes wish))) → IsPlainWish named wish
unfolding number_at
wish_from named wish fit f = go f
  where
    size : length (spell false (Wishes wish)) ≡ 16 + length wish.body
    size = length-append (row (option_head wish.option (length wish.body))) wish.body ∙ ap (λ n. n + length wish.body) (length-row (option_head wish.option (length wish.body)))

    is : number_at 8 4 (spell false (Wishes wish)) ≡ wish.option
    is = ap (λ fs. value fs 1) (then_reads (option_head wish.option (length wish.body)) wish.body (spell false (Wishes wish)) (record { fit = fit; spelled = refl })).fields

    go : IsFair named (plain (spell false (Wishes wish))) → IsPlainWish named wish
    go (Greets e n are) = absurd (omega (arith, n, size))
    go (Asks e few most magic goes by) = record {
      few = omega (arith, most, size);
      goes = ap (λ n. n == opt_abort) (sym is) ∙ goes;
      by_name = λ named_. by (ap (λ n. n == opt_export_name) is ∙ named_);
    }
    go (Heads e n extended magic type) = absurd (not_front extended (sym magic ∙ option_starts wish))
    go (Ends e n) = absurd (false≢true e)

-- what stands where in a request's head
pub record IsHead (extended : Bool) (type : ℕ) (bytes : List ℕ) : Type 0 where
  pub long : 28 ≤ length bytes
  pub magic : number_at 0 4 bytes ≡ magic_of extended
  pub type_ : number_at 6 2 bytes ≡ type

pub order_head_is : (extended : Bool) (order : Order) → AllFit (order_head extended order) → IsHead extended order.type (row (order_head extended order))
unfolding number_at
order_head_is true order fit =
    let r = then_reads (order_head true order) [] (row (order_head true order)) (record { fit = fit; spelled = sym (append-nil (row (order_head true order))) }) in
    record { long = let n = length-row (order_head true order) in omega (arith, n); magic = ap (λ fs. value fs 0) r.fields; type_ = ap (λ fs. value fs 2) r.fields }
order_head_is false order fit =
    let r = then_reads (order_head false order) [] (row (order_head false order)) (record { fit = fit; spelled = sym (append-nil (row (order_head false order))) }) in
    record { long = let n = length-row (order_head false order) in omega (arith, n); magic = ap (λ fs. value fs 0) r.fields; type_ = ap (λ fs. value fs 2) r.fields }

-- No head of a request is fair with which no command ends, but a write's.
head_from : (named extended : Bool) (order : Order) → AllFit (order_head extended order) → IsFair named (plain (row (order_head extended order))) → order.type ≡ 1
head_from named extended order fit f = go (order_head_is extended order fit) f
  where
    go : IsHead extended order.type (row (order_head extended order)) → IsFair named (plain (row (order_head extended order))) → order.type ≡ 1
    go h (Greets e n are) = let m = h.long in absurd (omega (arith, n, m))
    go h (Asks e few most magic goes by) = absurd (not_front extended (sym h.magic ∙ magic))
    go h (Heads e n other magic type) = sym h.type_ ∙ type
    go h (Ends e n) = absurd (false≢true e)

-- a request's head with which no command ends
head_of_parts : (named : Bool) (head payload : List ℕ) → AreFair named (request_parts false head payload) → IsFair named (plain head)
head_of_parts named head [] f = f.0
head_of_parts named head (byte ∷ bytes) f = f.0

data_of_parts : (named : Bool) (head payload : List ℕ) → AreFair named (request_parts true head payload) → length payload ≤ max_data
data_of_parts named head [] f = omega arith
data_of_parts named head (byte ∷ bytes) f = go f.1.0
  where
    go : IsFair named (record { bytes = byte ∷ bytes; ends = true }) → length (byte ∷ bytes) ≤ max_data
    go (Greets e n are) = absurd (false≢true (sym e))
    go (Asks e few most magic goes by) = absurd (false≢true (sym e))
    go (Heads e n extended magic type) = absurd (false≢true (sym e))
    go (Ends e n) = n

-- A thing whose parts are fair is within the limits, and the session goes on by it.
pub flags_go : (extended : Bool) (flags : ℕ) → Fits extended (Flags flags) → AreFair false (parts_of extended (Flags flags)) → IsWithin (Flags flags)
flags_go extended flags fit f = flags_from false flags fit f.0

pub wish_goes : (extended : Bool) (wish : Wish) → Fits extended (Wishes wish) → AreFair false (parts_of extended (Wishes wish)) → IsWithin (Wishes wish) × GoesOn (Wishes wish)
wish_goes extended wish fit f = let w = wish_from false wish fit f.0 in (w.few, (not_true (wish.option == opt_export_name) (λ is. false≢true (w.by_name is)), w.goes))
  where
    not_true : (b : Bool) → (b ≡ true → ⊥) → b ≡ false
    not_true true nay = absurd (nay refl)
    not_true false nay = refl

-- a request that is DISC, or has a kind
pub order_goes : (extended : Bool) (order : Order) → AllFit (order_head extended order) → (kind_of order.type ≡ None → order.type ≡ 2) → AreFair false (parts_of extended (Orders order)) → IsWithin (Orders order) × GoesOn (Orders order)
order_goes extended order fit disc f = go (kind_of order.type) refl
  where
    go : (kind : Option Kind) → kind_of order.type ≡ kind → IsWithin (Orders order) × GoesOn (Orders order)
    go None e =
        let one = head_from false extended order fit (head_of_parts false (row (order_head extended order)) order.payload (subst (λ (k : Option Kind). AreFair false (request_parts (is_some k) (row (order_head extended order)) order.payload)) e f)) in
        let two = disc e in
        absurd (omega (arith, one, two))
    go (Some kind) e = (data_of_parts false (row (order_head extended order)) order.payload (subst (λ (k : Option Kind). AreFair false (request_parts (is_some k) (row (order_head extended order)) order.payload)) e f), ap is_some e)
