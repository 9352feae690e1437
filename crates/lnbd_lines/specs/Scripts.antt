-- The grammar of a whole script: its lines, what they ask for, and the first that is none.
use Rattle.std.specs.Prelude.{ℕ, zero, suc, ◌<◌, ◌≤◌, ◌≡◌, ◌==◌, List, [], ◌∷◌, ◌++◌, Option, length, slice_index_or}
use Rattle.std.specs.List.{slice_split}
use Rattle.std.specs.Option.{option_to_list}
use Rattle.lnbd_lines.specs.Grammar.{IsLawful, IsLine}
use Rattle.lnbd_lines.specs.declared.line.Line.{Line}

abbrev line_feed : ℕ
line_feed = 10

-- the lines of a text, cut at each LF: behind a last LF stands one more, which is empty
abbrev pub lines_of : List ℕ → List (List ℕ)
lines_of text = slice_split (λ b. b == line_feed) text

-- the lines ask for this, in their order
abbrev pub AskFor : List (List ℕ) → List Line → Type 0
AskFor [] asked = asked ≡ []
AskFor (line ∷ lines) asked = (first : Option Line) × (rest : List Line) × (asked ≡ option_to_list first ++ rest) × IsLine line first × AskFor lines rest

-- the most bytes of a script
abbrev pub max_script : ℕ
max_script = 16777216

-- the text is a script that isn't too long and asks for this
pub record IsScript (text : List ℕ) (script : List Line) : Type 0 where
  pub limit : length text ≤ max_script
  pub asks : AskFor (lines_of text) script

-- the line at this place, counted from 0, is the first that is outside the grammar
pub record IsFirstOutside (lines : List (List ℕ)) (n : ℕ) : Type 0 where
  pub within : n < length lines
  pub outside : ¬ IsLawful (slice_index_or lines n [])
  pub before : (i : ℕ) → i < n → IsLawful (slice_index_or lines i [])

-- the number of the first line, counted from 1, that is outside the grammar, or 0 where the text is too long
abbrev pub IsFault : List ℕ → ℕ → Type 0
IsFault text zero = max_script < length text
IsFault text (suc n) = (length text ≤ max_script) × IsFirstOutside (lines_of text) n
