-- What is shown in negotiation.
use Rattle.std.proofs.Common.{ℕ, Bool, true, false, List, length, take, drop, Option, Some, None, nat_lt, if◌then◌else◌}
use Rattle.lnbd_model.specs.declared.breach.Breach.{Breach}
use Rattle.lnbd_records.specs.Numbers.{number_at}
use Rattle.lnbd_records.specs.Replies.{body_of}
use Rattle.lnbd_records.specs.Told.{Told, Body}
use Rattle.lnbd_stream.specs.Grammar.{once, wants}
use Rattle.lnbd_history.specs.Arrivals.{Shown, Hello, OptionReply, ExportReply, Broken, Sight, shows_hello, shows_whole, shows_option, shows_by_name}

-- what is shown, if a thing is
abbrev pub Each : (Shown → Type 0) → Option Shown → Type 0
Each Q None = Unit {0}
Each Q (Some found) = Q found

module _ (Q : Shown → Type 0) (broken : (breach : Breach) → Q (Broken breach)) where
  each_if : (test : Bool) (a b : Option Shown) → Each Q a → Each Q b → Each Q (if test then a else b)
  each_if true a b x y = x
  each_if false a b x y = y

  each_once : (n : ℕ) (bytes : List ℕ) (a : Option Shown) → Each Q a → Each Q (once n bytes a)
  unfolding once
  each_once n bytes a x = each_if (nat_lt (length bytes) n) None a tt x

  each_wants : (test : Bool) (breach : Breach) (a : Option Shown) → Each Q a → Each Q (wants test (Broken breach) a)
  unfolding wants
  each_wants test breach a x = each_if test a (Some (Broken breach)) x (broken breach)

  pub hello_kinds : (bytes : List ℕ) → ((flags : ℕ) → Q (Hello flags)) → Each Q (shows_hello bytes)
  unfolding shows_hello
  hello_kinds bytes is = each_once _ bytes _ (each_wants _ _ _ (each_once _ bytes _ (each_wants _ _ _ (each_wants _ _ _ (each_once _ bytes _ (each_wants _ _ _ (is _)))))))

  whole_kinds : (sight : Sight) (option type : ℕ) (body : Option Body) → ((told : Told) → Q (OptionReply told)) → Each Q (shows_whole sight option type body)
  whole_kinds sight option type None is = broken _
  whole_kinds sight option type (Some body) is = each_wants _ _ _ (each_wants _ _ _ (each_wants _ _ _ (each_wants _ _ _ (is _))))

  pub option_kinds : (sight : Sight) (bytes : List ℕ) → ((told : Told) → Q (OptionReply told)) → Each Q (shows_option sight bytes)
  unfolding shows_option
  option_kinds sight bytes is = each_once _ bytes _ (each_wants _ _ _ (each_once _ bytes _ (each_wants _ _ _ (each_wants _ _ _ (each_wants _ _ _ (each_once _ bytes _
      (whole_kinds sight (number_at 8 4 bytes) (number_at 12 4 bytes) (body_of (number_at 12 4 bytes) (take (number_at 16 4 bytes) (drop 20 bytes))) is)))))))

  pub by_name_kinds : (no_zeroes : Bool) (bytes : List ℕ) → ((size flags : ℕ) → Q (ExportReply size flags)) → Each Q (shows_by_name no_zeroes bytes)
  unfolding shows_by_name
  by_name_kinds no_zeroes bytes is = each_once _ bytes _ (each_wants _ _ _ (is _ _))
