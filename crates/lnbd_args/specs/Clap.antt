-- A tool's command as clap reads it.
use Rattle.std.specs.Prelude.{ℕ, ◌≡◌, ◌≤◌, ◌==◌, ◌&&◌, ◌||◌, not, nat_lt, length, is_some, slice_get, if◌then◌else◌, Bool, true, false, List, [], ◌∷◌, ◌++◌, Option, Some, None, codes, map}
use Rattle.std.specs.Str.{bytes_eq}
use Rattle.std.specs.List.{list_all}
use Rattle.std.specs.Option.{option_map_or}
use Rattle.clap.specs.Faults.{is_simple_and_free}
use Rattle.clap.specs.Lexer.{has_byte}
use Rattle.clap.specs.Simple.{App, new_rule, new_shape}
use Rattle.clap.specs.Walk.{Row, Rule as Arg, first_of}
use Rattle.clap.specs.declared.builder.action.ArgAction.TheVariants.{Set, SetTrue}
use Rattle.clap.specs.declared.builder.value_parser.ValueParser.TheVariants.{NonEmptyString}
use Rattle.lnbd_args.specs.Words.{Part, Rule, Word, is_given, places, rule_named, value_of}

-- `--name`, with a value that isn't empty or with none
abbrev pub arg_of : Rule → Arg
arg_of r = if r.has_value
    then record (new_rule r.name) { long = Some r.name; short = r.letter; action = Some Set; parser = Some NonEmptyString }
    else record (new_rule r.name) { long = Some r.name; short = r.letter; action = Some SetTrue }

-- a place
abbrev pub place_arg : Word → Arg
place_arg id = record (new_rule id) { action = Some Set }

abbrev pub first_id : Word
first_id = codes "FIRST"

abbrev pub second_id : Word
second_id = codes "SECOND"

-- the places of a tool that takes one, or two
abbrev pub place_args : Bool → List Arg
place_args false = place_arg first_id ∷ []
place_args true = place_arg first_id ∷ place_arg second_id ∷ []

abbrev pub app : List Arg → App
app args = record {
  top = record (new_shape (codes "lnbd")) { rules = args; no_binary_name = true; disable_help_flag = true; disable_version_flag = true };
  subs = [];
}

abbrev pub tool_app : List Rule → Bool → App
tool_app rules has_second = app (map arg_of rules ++ place_args has_second)

-- what clap tells of an option with no value
abbrev pub is_true : Option Word → Bool
is_true None = false
is_true (Some text) = bytes_eq text (codes "true")

-- ---- words before clap

-- an ASCII character stands first
abbrev pub starts_ascii : Word → Bool
starts_ascii [] = false
starts_ascii (b ∷ rest) = nat_lt b 128

-- an ASCII character follows a first `-`
abbrev pub is_fair : Word → Bool
is_fair [] = true
is_fair (c ∷ rest) = if c == 45 then starts_ascii rest else true

-- so it is in each word until `--`
abbrev pub are_fair : List Word → Bool
are_fair [] = true
are_fair (w ∷ ws) = if bytes_eq w (45 ∷ 45 ∷ []) then true else (if is_fair w then are_fair ws else false)

-- ---- tables of rules that the law holds for

abbrev pub is_same : Option Rule → Rule → Bool
is_same None r = false
is_same (Some q) r = bytes_eq q.name r.name && q.has_value && option_map_or (λ l. option_map_or (λ k. k == l) q.letter false) r.letter false

-- a letter is an ASCII character but `-`, and its rule has a value and is the first of its name
abbrev pub is_fit_letter : List Rule → Rule → ℕ → Bool
is_fit_letter rules r l = not (l == 45) && (nat_lt l 128 && (r.has_value && is_same (rule_named rules r.name) r))

-- no option without a value has this name
abbrev pub has_flag : Word → List Rule → Bool
has_flag name [] = false
has_flag name (r ∷ rs) = (not r.has_value && bytes_eq r.name name) || has_flag name rs

abbrev pub is_fit_rule : List Rule → Rule → Bool
is_fit_rule rules r = nat_lt 0 (length r.name) && (not (has_byte 61 r.name)
    && (option_map_or (is_fit_letter rules r) r.letter true && (not r.has_value || not (has_flag r.name rules))))

abbrev pub is_table : List Rule → Bool → Bool
is_table rules has_second = list_all (is_fit_rule rules) rules
    && (not (is_some (rule_named rules first_id)) && (not (is_some (rule_named rules second_id)) && is_simple_and_free (tool_app rules has_second)))

-- ---- what clap's rows tell of the parts

-- how many places there are
abbrev pub room : Bool → ℕ
room has_second = if has_second then 2 else 1

pub record Tells (rules : List Rule) (has_second : Bool) (rows : List Row) (parts : List Part) : Type 0 where
  pub flag : (name : Word) (r : Rule) → rule_named rules name ≡ Some r → r.has_value ≡ false → is_true (first_of name rows) ≡ is_given name parts
  pub value : (name : Word) (r : Rule) → rule_named rules name ≡ Some r → r.has_value ≡ true → first_of name rows ≡ value_of name parts
  pub given : (name : Word) (r : Rule) → rule_named rules name ≡ Some r → r.has_value ≡ true → is_given name parts ≡ is_some (first_of name rows)
  pub first : first_of first_id rows ≡ slice_get (places parts) 0
  pub second : has_second ≡ true → first_of second_id rows ≡ slice_get (places parts) 1
  pub fits : length (places parts) ≤ room has_second
