-- The lines of a script, read one after another.
use Rattle.std.proofs.Common.{◌≡◌, ◌∙◌, ◌⊎◌, ℕ, zero, suc, ◌+◌, ◌<◌, ◌≤◌, List, [], ◌∷◌, ◌++◌, Bor, Option, Some, None, Result, Ok, Err, IfOk, IfSome, add-one, ap, append-nil, append_assoc, arith, drop, false, ltb, ⊎_elim, inl, inr, length, option_copied, refl, subst, sym, take}
use Rattle.std.specs.Prelude.{◌==◌, IsErrOf, slice_index_or}
use Rattle.std.specs.List.{position, position_or_len}
use Rattle.std.proofs.lemmas.Bool.{cases_Bool}
use Rattle.std.proofs.lemmas.Bool.Decides.{nat_tests}
use Rattle.std.proofs.lemmas.List.Elements.{All-from_get_or}
use Rattle.std.proofs.lemmas.List.Quantifiers.{position-Some}
use Rattle.std.proofs.lemmas.List.Splits.{slice_split_first, slice_split_none}
use Rattle.std.proofs.lemmas.List.Sums.{fails_before_first, position_or_len_is}
use Rattle.std.specs.Option.{option_to_list}
use Rattle.lnbd_lines.proofs.LineLemmas.{line_once}
use Rattle.lnbd_lines.specs.Grammar.{IsLawful, IsLine}
use Rattle.lnbd_lines.specs.Scripts.{AskFor, IsFault, IsFirstOutside, IsScript, lines_of}
use Rattle.lnbd_lines.specs.Written.{lines_behind}
use Rattle.lnbd_lines.specs.declared.fault.ScriptFault.{ScriptFault}
use Rattle.lnbd_lines.specs.declared.fault.ScriptFault.TheVariants as fault
use Rattle.lnbd_lines.specs.declared.line.Line.{Line}

-- lines ask for one script
asks_once : (lines : List (List ℕ)) (a b : List Line) → AskFor lines a → AskFor lines b → a ≡ b
asks_once [] a b h k = h ∙ sym k
asks_once (line ∷ lines) a b (first, rest, is, says, more) (other, others, is', says', more') =
    is ∙ ap (λ x. option_to_list x ++ rest) (line_once line first other says says')
    ∙ ap (λ x. option_to_list other ++ x) (asks_once lines rest others more more') ∙ sym is'

-- each line of a script is lawful
asks_lawful : (lines : List (List ℕ)) (a : List Line) → AskFor lines a → (i : ℕ) → i < length lines → IsLawful (slice_index_or lines i [])
asks_lawful [] a h i within = absurd (omega arith)
asks_lawful (line ∷ lines) a (first, rest, is, says, more) zero within = (first, says)
asks_lawful (line ∷ lines) a (first, rest, is, says, more) (suc i) within = asks_lawful lines rest more i (omega arith)

outside_once : (lines : List (List ℕ)) (m n : ℕ) → IsFirstOutside lines m → IsFirstOutside lines n → m ≡ n
outside_once lines m n h k =
    let not_below : m < n → ⊥ = λ below. h.outside (k.before m below) in
    let not_above : n < m → ⊥ = λ above. k.outside (h.before n above) in
    omega (arith, not_below, not_above)

fault_once : (text : List ℕ) (m n : ℕ) → IsFault text m → IsFault text n → m ≡ n
fault_once text zero zero h k = refl
fault_once text zero (suc n) h k = let short = k.0 in absurd (omega arith)
fault_once text (suc m) zero h k = let short = h.0 in absurd (omega arith)
fault_once text (suc m) (suc n) h k = ap suc (outside_once (lines_of text) m n h.1 k.1)

-- a script has no fault
script_has_no_fault : (text : List ℕ) (script : List Line) (n : ℕ) → IsScript text script → IsFault text n → ⊥
script_has_no_fault text script zero h long = let short = h.limit in omega arith
script_has_no_fault text script (suc n) h (short, first) = first.outside (asks_lawful (lines_of text) script h.asks n first.within)

-- where the text is a script, the answer is that script
pub answers_script : (text : List ℕ) (r : Result (List Line) ScriptFault) → IfOk r (IsScript text) → ((n : ℕ) → IsErrOf r (fault.Line n) → IsFault text n)
    → (script : List Line) → IsScript text script → (r ≡ Ok script) ⊎ IsErrOf r fault.NoMemory
answers_script text (Ok other) ok err script h = inl (ap Ok (asks_once (lines_of text) other script ok.asks h.asks))
answers_script text (Err fault.NoMemory) ok err script h = inr refl
answers_script text (Err (fault.Line n)) ok err script h = absurd (script_has_no_fault text script n h (err n refl))

-- where the text has a fault, the answer is that fault
pub answers_fault : (text : List ℕ) (r : Result (List Line) ScriptFault) → IfOk r (IsScript text) → ((n : ℕ) → IsErrOf r (fault.Line n) → IsFault text n)
    → (n : ℕ) → IsFault text n → IsErrOf r (fault.Line n) ⊎ IsErrOf r fault.NoMemory
answers_fault text (Ok script) ok err n h = absurd (script_has_no_fault text script n ok h)
answers_fault text (Err fault.NoMemory) ok err n h = inr refl
answers_fault text (Err (fault.Line m)) ok err n h = inl (ap (λ k. Err (fault.Line k)) (fault_once text m n (err m refl) h))

-- how many bytes are left, and one more while a line is
abbrev pub left : Option (List ℕ) → ℕ
left None = 0
left (Some text) = length text + 1

-- what was read of a text, where `rest` is left
pub record Progress (text : List ℕ) (rest : Option (List ℕ)) (script : List Line) (number : ℕ) : Type 0 where
  pub asks : (more : List Line) → AskFor (lines_behind rest) more → AskFor (lines_of text) (script ++ more)
  pub faults : (n : ℕ) → IsFirstOutside (lines_behind rest) n → IsFirstOutside (lines_of text) (number + n)
  pub bound : number + left rest ≤ length text + 1

pub nothing_read : (text : List ℕ) → Progress text (Some text) [] 0
nothing_read text = record {
  asks = λ more h. h;
  faults = λ n h. let e : 0 + n ≡ n = omega arith in rw e h;
  bound = omega arith;
}

-- one more lawful line before the others
outside_behind : (line : List ℕ) (lines : List (List ℕ)) (n : ℕ) → IsLawful line → IsFirstOutside lines n → IsFirstOutside (line ∷ lines) (suc n)
outside_behind line lines n lawful h = record {
  within = let within = h.within in omega arith;
  outside = h.outside;
  before = before_behind line lines n lawful h.before;
}
  where
    before_behind : (line : List ℕ) (lines : List (List ℕ)) (n : ℕ) → IsLawful line → ((i : ℕ) → i < n → IsLawful (slice_index_or lines i [])) → (i : ℕ) → i < suc n → IsLawful (slice_index_or (line ∷ lines) i [])
    before_behind line lines n lawful before zero below = lawful
    before_behind line lines n lawful before (suc i) below = before i (omega arith)

-- a line was read
pub line_read : (text line : List ℕ) (rest behind : Option (List ℕ)) (old new : List Line) (number : ℕ) (asked : Option Line)
    → lines_behind rest ≡ line ∷ lines_behind behind → left behind + 1 ≤ left rest
    → IsLine line asked → new ≡ old ++ option_to_list asked
    → Progress text rest old number → Progress text behind new (number + 1)
line_read text line rest behind old new number asked cut shorter is added h = record {
  asks = λ more next.
      let here : AskFor (line ∷ lines_behind behind) (option_to_list asked ++ more) = (asked, more, refl, is, next) in
      let whole : AskFor (lines_of text) (old ++ (option_to_list asked ++ more)) =
      h.asks (option_to_list asked ++ more) (subst (λ ls. AskFor ls (option_to_list asked ++ more)) (sym cut) here) in
      let same : old ++ (option_to_list asked ++ more) ≡ new ++ more = sym (append_assoc old (option_to_list asked) more) ∙ ap (λ s. s ++ more) (sym added) in
      subst (AskFor (lines_of text)) same whole;
  faults = λ n next.
      let here : IsFirstOutside (lines_behind rest) (suc n) = subst (λ ls. IsFirstOutside ls (suc n)) (sym cut) (outside_behind line (lines_behind behind) n (asked, is) next) in
      let same : number + suc n ≡ number + 1 + n = omega arith in
      subst (IsFirstOutside (lines_of text)) same (h.faults (suc n) here);
  bound = let bound = h.bound in omega arith;
}

-- a line is outside the grammar
pub line_refused : (text line : List ℕ) (rest behind : Option (List ℕ)) (script : List Line) (number : ℕ)
    → lines_behind rest ≡ line ∷ lines_behind behind → length text ≤ 16777216 → (IsLawful line → ⊥)
    → Progress text rest script number → IsFault text (number + 1)
line_refused text line rest behind script number cut short outside h =
    let first : IsFirstOutside (line ∷ lines_behind behind) 0 = record { within = omega arith; outside = outside; before = λ i below. absurd (omega arith) } in
    let here : IsFirstOutside (lines_of text) (number + 0) = h.faults 0 (subst (λ ls. IsFirstOutside ls 0) (sym cut) first) in
    let same : number + 0 ≡ number = omega arith in
    rw add-one (short, subst (IsFirstOutside (lines_of text)) same here)

-- all lines were read
pub all_read : (text : List ℕ) (script : List Line) (number : ℕ) → length text ≤ 16777216 → Progress text None script number → IsScript text script
all_read text script number short h = record { limit = short; asks = subst (AskFor (lines_of text)) (append-nil script) (h.asks [] refl) }

-- the first line of what is left
pub cut_at : (rest behind : Option (Bor (List ℕ))) (text : Bor (List ℕ)) (line : List ℕ) → rest ≡ Some text
    → lines_of text.now ≡ line ∷ lines_behind (option_copied behind) → lines_behind (option_copied rest) ≡ line ∷ lines_behind (option_copied behind)
cut_at rest behind text line is cut = ap (λ r. lines_behind (option_copied r)) is ∙ cut

pub left_at : (rest behind : Option (Bor (List ℕ))) (text : Bor (List ℕ)) → rest ≡ Some text
    → IfSome behind (λ r. length r.now < length text.now) → left (option_copied behind) + 1 ≤ left (option_copied rest)
left_at rest None text is shorter = rw is (omega arith)
left_at rest (Some r) text is shorter = rw is (omega arith)

-- a text is cut at its first LF
pub lines_first : (text : List ℕ) (end : ℕ) → position (λ b. b == 10) text ≡ Some end → lines_of text ≡ take end text ∷ lines_of (drop (end + 1) text)
lines_first text end e =
    let found = position-Some (λ b. b == 10) text end 0 e in
    let at : position_or_len (λ b. b == 10) text ≡ end = position_or_len_is (λ b. b == 10) text end 0 (let within = found.0 in omega arith) found.2 (λ _. found.1) in
    let within : position_or_len (λ b. b == 10) text < length text = rw at found.0 in
    slice_split_first (λ b. b == 10) text 0 within ∙ ap (λ i. take i text ∷ lines_of (drop (i + 1) text)) at

end_is_past : (text : List ℕ) → position (λ b. b == 10) text ≡ None → length text ≤ position_or_len (λ b. b == 10) text
end_is_past text none =
    ⊎_elim
    (λ yes. absurd (some_is_not_none _ (rw yes at none)))
    (λ no. grind (arith, nat_tests))
    (cases_Bool (ltb (position_or_len (λ b. b == 10) text) (length text)))
  where
    some_is_not_none : (i : ℕ) → Some i ≡ None → ⊥
    some_is_not_none i e = cc

-- a text with no LF is one line
pub lines_one : (text : List ℕ) → position (λ b. b == 10) text ≡ None → lines_of text ≡ text ∷ []
lines_one text none =
    let past = end_is_past text none in
    slice_split_none (λ b. b == 10) text (All-from_get_or (λ b. (b == 10) ≡ false) text 0 (λ i within. fails_before_first (λ b. b == 10) text i 0 (omega arith)))
