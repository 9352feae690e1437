-- A command that a handle took fits its request, without the buffer that a read is to fill.
use Rattle.std.proofs.Common.{sym, ◌≡◌, ℕ, ◌<◌, ◌≤◌, ◌^◌, Bool, true, false, not, List, [], length, Option, Some, None, refl, ap, ◌∙◌, ◌==◌, arith, nat_le, nat_lt, if◌then◌else◌, ◌-◌, bit_and, ◌+◌}
use Rattle.std.proofs.lemmas.Bool.{false≢true, leb-false, eqb-true}
use Rattle.std.proofs.lemmas.Nat.{and_assoc, and_le_l, and_le_r}
use Rattle.std.proofs.lemmas.Bool.Decides.{nat_tests}
use Rattle.lnbd_model.specs.Kind.{has_range}
use Rattle.lnbd_model.specs.declared.export.Blocks.{Blocks}
use Rattle.lnbd_model.specs.declared.kind.Kind.{Kind}
use Rattle.lnbd_model.specs.declared.kind.Kind.TheVariants.{Read, Write, Flush, Trim, Cache, Zero, BlockStatus}
use Rattle.lnbd_model.specs.declared.refusal.Lack.{Lack}
use Rattle.lnbd_model.specs.declared.refusal.Why.{Why}
use Rattle.lnbd_model.specs.declared.state.State.{State}
use Rattle.lnbd_model.specs.declared.state.State.TheVariants as state
use Rattle.lnbd_records.specs.Flags.{cmd_flag_payload_len}
use Rattle.lnbd_records.specs.Limits.{max_data}
use Rattle.lnbd_records.specs.Numbers.{has_bit}
use Rattle.lnbd_history.specs.Commands.{Command, is_write}
use Rattle.lnbd_history.specs.Events.{History, Issue}
use Rattle.lnbd_history.specs.Refusals.{Terms, refuse, by_state, unsupported, refusal, refusal_after, terms_after, length_limit, payload_limit, range_limit, smaller, lack_now, bad_flags, allowed, allowed_now, flag_if, by_range}
use Rattle.lnbd_machine.specs.Machine.{Machine, machine, step}
use Rattle.lnbd_asked.specs.Client.{length_size}
use Rattle.lnbd_course.specs.Taken.{BuffersAreNoMatter, TakenAreSpelled}

-- Buffers.

-- the bytes that go out with a command
abbrev sent : Kind → List ℕ → List ℕ
sent kind payload = if is_write kind then payload else []

module _ {K : Type 0} where
  abbrev command_with : Kind → (flags offset length : ℕ) → List ℕ → Option K → K → Command K
  command_with kind flags offset length payload first done = record { kind = kind; flags = flags; offset = offset; length = length; payload = payload; first = first; done = done }

  same_step : (kind : Kind) (flags offset length : ℕ) (payload : List ℕ) (first : Option K) (done : K) (now : Machine K) →
      step now (Issue (command_with kind flags offset length payload first done)) ≡ step now (Issue (command_with kind flags offset length (sent kind payload) first done))
  same_step Read flags offset length payload first done now = refl
  same_step Write flags offset length payload first done now = refl
  same_step Flush flags offset length payload first done now = refl
  same_step Trim flags offset length payload first done now = refl
  same_step Cache flags offset length payload first done now = refl
  same_step Zero flags offset length payload first done now = refl
  same_step BlockStatus flags offset length payload first done now = refl

  pub buffers_are_no_matter : BuffersAreNoMatter K
  buffers_are_no_matter limit history command handle s = record {
    lawful = (s.lawful.0, s.lawful.1, (s.lawful.2.0, λ w. ap (λ (b : Bool). length (if b then command.payload else [])) w ∙ s.lawful.2.1 w));
    going = s.going;
    same = s.same ∙ same_step command.kind command.flags command.offset command.length command.payload command.first command.done (machine history);
  }

-- No rule refuses it.

some_none : (why : Why) → Some why ≡ None → ⊥
some_none why e = cc

ready_rest : (s : State) (later : Option Why) → by_state s later ≡ None → later ≡ None
ready_rest state.Created later e = absurd (some_none _ e)
ready_rest state.Negotiating later e = absurd (some_none _ e)
ready_rest state.OptMode later e = absurd (some_none _ e)
ready_rest (state.Dead cause) later e = absurd (some_none _ e)
ready_rest state.Closing later e = absurd (some_none _ e)
ready_rest state.Closed later e = absurd (some_none _ e)
ready_rest state.Ready later e = e

passed : (test : Bool) (why : Why) (later : Option Why) → refuse test why later ≡ None → (test ≡ false) × (later ≡ None)
passed true why later e = absurd (some_none why e)
passed false why later e = (refl, e)

supported : (lack : Option Lack) (later : Option Why) → unsupported lack later ≡ None → later ≡ None
supported None later e = e
supported (Some lack) later e = absurd (some_none _ e)

ranges : (b : Bool) (later : Option Why) → b ≡ true → (if b then later else None) ≡ None → later ≡ None
ranges true later is e = e
ranges false later is e = absurd (false≢true is)

no_more : (a b : ℕ) → nat_lt a b ≡ false → b ≤ a
no_more a b e = grind (arith, nat_tests)

-- from the rules on its flags on
from_flags : (limit : ℕ) (terms : Terms) (kind : Kind) (flags offset length_ : ℕ) → refusal limit terms kind flags offset length_ ≡ None →
    (not (bad_flags terms kind flags == 0) ≡ false) × ((if has_range kind then by_range terms kind offset length_ else None) ≡ None)
from_flags limit terms kind flags offset length_ e =
    let ready = ready_rest terms.state _ e in
    let few = passed (nat_le limit terms.held) _ _ ready in
    let able = supported (lack_now terms kind) _ few.1 in
    passed (not (bad_flags terms kind flags == 0)) _ _ able

within_limit : (limit : ℕ) (terms : Terms) (kind : Kind) (flags offset length_ : ℕ) → has_range kind ≡ true → refusal limit terms kind flags offset length_ ≡ None → length_ ≤ length_limit terms kind
within_limit limit terms kind flags offset length_ ranged e =
    let flagged = from_flags limit terms kind flags offset length_ e in
    let range = ranges (has_range kind) _ ranged flagged.1 in
    let some = passed _ _ _ range in
    let fits = passed (nat_lt (length_limit terms kind) length_) _ _ some.1 in
    no_more (length_limit terms kind) length_ fits.0

-- Its flags have room: none is taken but those that are allowed.

one_flag : (b : Bool) (flag : ℕ) → flag < 65536 → bit_and flag 32 ≡ 0 → (flag_if b flag < 65536) × (bit_and (flag_if b flag) 32 ≡ 0)
one_flag true flag l e = (l, e)
one_flag false flag l e = (omega arith, refl)

zero_flags : (b c : Bool) → (flag_if b 1 + 2 + flag_if c 16 < 65536) × (bit_and (flag_if b 1 + 2 + flag_if c 16) 32 ≡ 0)
zero_flags true true = (omega arith, refl)
zero_flags true false = (omega arith, refl)
zero_flags false true = (omega arith, refl)
zero_flags false false = (omega arith, refl)

allowed_small : (terms : Terms) (kind : Kind) → (allowed terms kind < 65536) × (bit_and (allowed terms kind) 32 ≡ 0)
allowed_small terms Read = one_flag _ 4 (omega arith) refl
allowed_small terms Write = one_flag _ 1 (omega arith) refl
allowed_small terms Flush = (omega arith, refl)
allowed_small terms Trim = one_flag _ 1 (omega arith) refl
allowed_small terms Cache = (omega arith, refl)
allowed_small terms Zero = zero_flags _ _
allowed_small terms BlockStatus = (omega arith, refl)

either_small : (strict : Bool) (a b : ℕ) → (a < 65536) × (bit_and a 32 ≡ 0) → (b < 65536) × (bit_and b 32 ≡ 0) → ((if strict then a else b) < 65536) × (bit_and (if strict then a else b) 32 ≡ 0)
either_small true a b s t = s
either_small false a b s t = t

now_small : (terms : Terms) (kind : Kind) → (allowed_now terms kind < 65536) × (bit_and (allowed_now terms kind) 32 ≡ 0)
now_small terms kind = either_small _ (allowed terms kind) 65503 (allowed_small terms kind) (omega arith, refl)

nothing_bad : (n : ℕ) → not (n == 0) ≡ false → n ≡ 0
nothing_bad n e = go (n == 0) refl e
  where
    go : (b : Bool) → (n == 0) ≡ b → not b ≡ false → n ≡ 0
    go true is k = eqb-true n 0 is
    go false is k = absurd (false≢true (sym k))

flags_within : (flags a : ℕ) → (a < 65536) × (bit_and a 32 ≡ 0) → flags - bit_and flags a ≡ 0 → (flags < 65536) × (has_bit cmd_flag_payload_len flags ≡ false)
flags_within flags a small none =
    let l = and_le_l flags a in
    let r = and_le_r flags a in
    let z = and_le_r flags 0 in
    let below = small.0 in
    let same : bit_and flags a ≡ flags = omega (arith, none, l) in
    let nothing : bit_and flags 0 ≡ 0 = omega (arith, z) in
    (omega (arith, same, r, below), ap (λ x. not (x == 0)) (ap (λ x. bit_and x 32) (sym same) ∙ and_assoc 32 flags a ∙ ap (bit_and flags) small.1 ∙ nothing))

flags_room : (limit : ℕ) (terms : Terms) (kind : Kind) (flags offset length_ : ℕ) → refusal limit terms kind flags offset length_ ≡ None → (flags < 65536) × (has_bit cmd_flag_payload_len flags ≡ false)
flags_room limit terms kind flags offset length_ e = flags_within flags (allowed_now terms kind) (now_small terms kind) (nothing_bad (bad_flags terms kind flags) (from_flags limit terms kind flags offset length_ e).0)

-- Its length has room.

least : (a b : ℕ) → smaller a b ≤ a
least a b = go (nat_le a b) refl
  where
    go : (t : Bool) → nat_le a b ≡ t → (if t then a else b) ≤ a
    go true e = omega arith
    go false e = let l = leb-false a b e in omega (arith, l)

data_least : (blocks : Option Blocks) → payload_limit blocks ≤ 33554432
data_least None = omega arith
data_least (Some blocks) = least max_data blocks.maximum

small : (extended : Bool) (n limit : ℕ) → n ≤ limit → limit ≤ 33554432 → n < 256 ^ length_size extended
small true n limit l m = omega (arith, l, m)
small false n limit l m = omega (arith, l, m)

range_small : (extended : Bool) (n : ℕ) → n ≤ range_limit extended → n < 256 ^ length_size extended
range_small true n l = omega (arith, l)
range_small false n l = omega (arith, l)

nothing_small : (extended : Bool) (n : ℕ) → n ≡ 0 → n < 256 ^ length_size extended
nothing_small true n e = omega (arith, e)
nothing_small false n e = omega (arith, e)

length_small : (terms : Terms) (kind : Kind) (n : ℕ) → n ≤ length_limit terms kind → n < 256 ^ length_size terms.extended
length_small terms Read n l = small terms.extended n (payload_limit terms.blocks) l (data_least terms.blocks)
length_small terms Write n l = small terms.extended n (payload_limit terms.blocks) l (data_least terms.blocks)
length_small terms Flush n l = range_small terms.extended n l
length_small terms Trim n l = range_small terms.extended n l
length_small terms Cache n l = range_small terms.extended n l
length_small terms Zero n l = range_small terms.extended n l
length_small terms BlockStatus n l = range_small terms.extended n l

module _ {K : Type 0} where
  has_room : (limit : ℕ) (history : History K) (command : Command K) (b : Bool) → has_range command.kind ≡ b → (has_range command.kind ≡ false → (command.offset ≡ 0) × (command.length ≡ 0)) → refusal_after limit history command ≡ None →
      command.length < 256 ^ length_size (terms_after history).extended
  has_room limit history command true is ranged e = length_small (terms_after history) command.kind command.length (within_limit limit (terms_after history) command.kind command.flags command.offset command.length is e)
  has_room limit history command false is ranged e = nothing_small (terms_after history).extended command.length (ranged is).1

  data_is : (b : Bool) (command : Command K) → is_write command.kind ≡ b → (is_write command.kind ≡ true → length command.payload ≡ command.length) → length (if b then command.payload else []) ≡ (if b then command.length else 0)
  data_is true command w has = has w
  data_is false command w has = refl

  pub taken_are_spelled : TakenAreSpelled K
  taken_are_spelled limit history command handle s room = record {
    cookie_ = room.cookie_;
    flags = (flags_room limit (terms_after history) command.kind command.flags command.offset command.length s.lawful.2.0).0;
    own = (flags_room limit (terms_after history) command.kind command.flags command.offset command.length s.lawful.2.0).1;
    offset = room.offset;
    length_ = has_room limit history command (has_range command.kind) refl room.ranged s.lawful.2.0;
    data_ = data_is (is_write command.kind) command refl s.lawful.2.1;
    ranged = room.ranged;
  }
