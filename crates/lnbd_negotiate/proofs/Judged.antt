-- What a reply's head alone breaks, and the verdict on a reply whose head breaks nothing.
use Rattle.std.proofs.Common.{◌≡◌, ℕ, ◌+◌, ◌≤◌, ◌<◌, Bool, true, false, List, length, take, drop, Option, Some, None, ◌==◌, nat_le, nat_lt, refl, sym, ap, ◌∙◌, arith}
use Rattle.std.proofs.lemmas.Grind.{common_steps}
use Rattle.lnbd_model.specs.declared.breach.Breach.{Breach}
use Rattle.lnbd_model.specs.declared.breach.Breach.TheVariants.{WrongOption, BadOptionLength, UnexpectedReply}
use Rattle.lnbd_records.specs.Limits.{max_option_reply}
use Rattle.lnbd_records.specs.Numbers.{number_at}
use Rattle.lnbd_records.specs.Handshake.{option_reply_magic}
use Rattle.lnbd_records.specs.Replies.{body_of}
use Rattle.lnbd_options.specs.declared.head.OptionHead.{OptionHead}
use Rattle.lnbd_history.specs.declared.kinds.Phase.{Phase}
use Rattle.lnbd_history.specs.Arrivals.{Shown, Broken, Sight, is_asked, is_named, reply_verdict, shows_option, shows_whole}
use Rattle.lnbd_stream.specs.Grammar.{once, wants}
use Rattle.lnbd_negotiate.specs.Reading.{IsHeaded, broken_by}

-- Three tests, whatever they are of.
breaks : (asked bounded named : Bool) (breach : Breach) (shown : Option Shown) → wants asked WrongOption (wants bounded BadOptionLength (wants named UnexpectedReply None)) ≡ Some breach
    → wants asked (Broken WrongOption) (wants bounded (Broken BadOptionLength) (wants named (Broken UnexpectedReply) shown)) ≡ Some (Broken breach)
unfolding wants
breaks false bounded named breach shown is = cc
breaks true false named breach shown is = cc
breaks true true false breach shown is = cc
breaks true true true breach shown is = absurd cc

passes : (asked bounded named : Bool) (shown : Option Shown) → wants asked WrongOption (wants bounded BadOptionLength (wants named UnexpectedReply None)) ≡ None
    → wants asked (Broken WrongOption) (wants bounded (Broken BadOptionLength) (wants named (Broken UnexpectedReply) shown)) ≡ shown
unfolding wants
passes false bounded named shown is = absurd cc
passes true false named shown is = absurd cc
passes true true false shown is = absurd cc
passes true true true shown is = refl

is_first : (asked bounded named : Bool) → wants asked WrongOption (wants bounded BadOptionLength (wants named UnexpectedReply None)) ≡ None → asked ≡ true
unfolding wants
is_first false bounded named is = absurd cc
is_first true bounded named is = refl

-- The option of a head that breaks nothing is the one that is unanswered.
pub unbroken_asked : (phase : Phase) (head : OptionHead) → broken_by phase head ≡ None → is_asked head.option phase ≡ true
unfolding broken_by
unbroken_asked phase head is = is_first _ _ _ is

pub unbroken_at : (sight : Sight) (phase : Phase) (head : OptionHead) → sight.phase ≡ phase → broken_by phase head ≡ None → broken_by sight.phase head ≡ None
unbroken_at sight phase head at is = ap (λ p. broken_by p head) at ∙ is

pub broken_at : (sight : Sight) (phase : Phase) (head : OptionHead) (breach : Breach) → sight.phase ≡ phase → broken_by phase head ≡ Some breach → broken_by sight.phase head ≡ Some breach
broken_at sight phase head breach at is = ap (λ p. broken_by p head) at ∙ is

-- The verdict on a reply.
pub broken_verdict : (sight : Sight) (head : OptionHead) (body : List ℕ) (breach : Breach) → broken_by sight.phase head ≡ Some breach → reply_verdict sight head.option head.kind head.length body ≡ Some (Broken breach)
unfolding reply_verdict broken_by
broken_verdict sight head body breach is = breaks _ _ _ breach _ is

pub unbroken_verdict : (sight : Sight) (head : OptionHead) (body : List ℕ) → broken_by sight.phase head ≡ None → reply_verdict sight head.option head.kind head.length body ≡ shows_whole sight head.option head.kind (body_of head.kind body)
unfolding reply_verdict broken_by
unbroken_verdict sight head body is = passes _ _ _ _ is

-- What bytes show that begin with a whole head.
headed : (sight : Sight) (bytes : List ℕ) (option type size : ℕ) → 20 ≤ length bytes → number_at 0 8 bytes ≡ option_reply_magic → option ≡ number_at 8 4 bytes → type ≡ number_at 12 4 bytes → size ≡ number_at 16 4 bytes
    → shows_option sight bytes ≡ wants (is_asked option sight.phase) (Broken WrongOption) (wants (nat_le size max_option_reply) (Broken BadOptionLength) (wants (is_named option type) (Broken UnexpectedReply)
    (once (20 + size) bytes (shows_whole sight option type (body_of type (take size (drop 20 bytes)))))))
unfolding shows_option once wants
headed sight bytes option type size there magic options types sizes =
    let long : nat_lt (length bytes) 8 ≡ false = grind (arith, common_steps) in
    let whole : nat_lt (length bytes) 20 ≡ false = grind (arith, common_steps) in
    let is : (number_at 0 8 bytes == option_reply_magic) ≡ true = rw magic refl in
    rw (long, is, whole, options, types, sizes) refl

at_head : (sight : Sight) (bytes : List ℕ) (head : OptionHead) → IsHeaded bytes head
    → shows_option sight bytes ≡ wants (is_asked head.option sight.phase) (Broken WrongOption) (wants (nat_le head.length max_option_reply) (Broken BadOptionLength) (wants (is_named head.option head.kind) (Broken UnexpectedReply)
    (once (20 + head.length) bytes (shows_whole sight head.option head.kind (body_of head.kind (take head.length (drop 20 bytes)))))))
at_head sight bytes head is = headed sight bytes head.option head.kind head.length is.there is.magic is.option is.kind is.size

pub shows_broken : (sight : Sight) (bytes : List ℕ) (head : OptionHead) (breach : Breach) → IsHeaded bytes head → broken_by sight.phase head ≡ Some breach → shows_option sight bytes ≡ Some (Broken breach)
unfolding broken_by
shows_broken sight bytes head breach is broken = at_head sight bytes head is ∙ breaks _ _ _ breach _ broken

-- before its data is there,
short_of : (n : ℕ) (bytes : List ℕ) (shown : Option Shown) → length bytes < n → once n bytes shown ≡ None
unfolding once
short_of n bytes shown less = let is : nat_lt (length bytes) n ≡ true = grind (arith, common_steps) in rw is refl

pub shows_short : (sight : Sight) (bytes : List ℕ) (head : OptionHead) → IsHeaded bytes head → broken_by sight.phase head ≡ None → length bytes < 20 + head.length → shows_option sight bytes ≡ None
unfolding broken_by
shows_short sight bytes head is none less = at_head sight bytes head is ∙ passes _ _ _ _ none ∙ short_of (20 + head.length) bytes _ less

-- and once it is.
all_of : (n : ℕ) (bytes : List ℕ) (shown : Option Shown) → n ≤ length bytes → once n bytes shown ≡ shown
unfolding once
all_of n bytes shown there = let is : nat_lt (length bytes) n ≡ false = grind (arith, common_steps) in rw is refl

pub shows_reply : (sight : Sight) (bytes : List ℕ) (head : OptionHead) → IsHeaded bytes head → broken_by sight.phase head ≡ None → 20 + head.length ≤ length bytes
    → shows_option sight bytes ≡ reply_verdict sight head.option head.kind head.length (take head.length (drop 20 bytes))
unfolding broken_by
shows_reply sight bytes head is none there =
    at_head sight bytes head is ∙ passes _ _ _ _ none ∙ all_of (20 + head.length) bytes _ there ∙ sym (unbroken_verdict sight head (take head.length (drop 20 bytes)) none)
