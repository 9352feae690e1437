-- The options that a handle asks by itself, by what came, and the names in them.
use Rattle.std.proofs.Common.{◌≡◌, ℕ, ◌≤◌, Bool, true, false, ◌||◌, List, [], ◌∷◌, ◌++◌, length, Option, Some, None, is_some, refl, ap, sym, subst, ◌∙◌, ◌==◌, arith, if◌then◌else◌}
use Rattle.std.proofs.lemmas.Bool.{false≢true, eqb-true}
use Rattle.lnbd_records.specs.Limits.{max_text}
use Rattle.lnbd_records.specs.Options.{err_unsup, opt_export_name, opt_extended_headers, opt_go, opt_structured_reply}
use Rattle.lnbd_records.specs.Requests.{Name, Info, asked_of}
use Rattle.lnbd_records.proofs.RequestLemmas.{asked_so}
use Rattle.lnbd_history.specs.declared.kinds.Phase.{Phase}
use Rattle.lnbd_history.specs.declared.kinds.Phase.TheVariants.{Greeting, Asked, AskedByName, OptMode, Ready, Refused}
use Rattle.lnbd_history.specs.Agreement.{Turn, Hello, Replied, ByName, Set, Opted, End, Acknowledged, Failed, is_acknowledged, end_of, phase, name_now, contexts_now, opt_mode, asks_structured, asks_extended, after_hello, after_reply, after_answer, after_structured, after_extended, after_go}
use Rattle.lnbd_history.specs.Outgoing.{option_body}
use Rattle.lnbd_asked.specs.Client.{Wish}
use Rattle.lnbd_asked.specs.Transcript.{name_in, name_asked}
use Rattle.lnbd_asked.proofs.Phases.{wish_for}

-- What is asked where negotiation comes to this phase.
abbrev pub wishes_at : Phase → List Turn → List Wish
wishes_at (Asked option) turns = wish_for option turns ∷ []
wishes_at AskedByName turns = wish_for opt_export_name turns ∷ []
wishes_at Greeting turns = []
wishes_at OptMode turns = []
wishes_at Ready turns = []
wishes_at (Refused code) turns = []

abbrev pub if_over : Bool → List Wish → List Wish
if_over over wishes = if over then wishes else []

abbrev pub wishes_by : Turn → List Turn → List Wish
wishes_by Hello before = wishes_at (phase (Hello ∷ before)) (Hello ∷ before)
wishes_by (Replied told) before = if_over (is_some (end_of told)) (wishes_at (phase (Replied told ∷ before)) (Replied told ∷ before))
wishes_by (ByName size flags) before = []
wishes_by (Set setting) before = []
wishes_by (Opted option) before = []

-- all that was asked, the latest first
abbrev pub wishes_of : List Turn → List Wish
wishes_of [] = []
wishes_of (turn ∷ before) = wishes_by turn before ++ wishes_of before

-- The last of some options are these.
pub record IsTail (some all : List Wish) : Type 0 where
  pub later : List Wish
  pub is : all ≡ later ++ some

-- Names.

-- GO and EXPORT_NAME
abbrev pub is_of_name : Wish → Bool
is_of_name wish = (wish.option == opt_go) || (wish.option == opt_export_name)

abbrev pub has_name : List Wish → Bool
has_name [] = false
has_name (wish ∷ earlier) = is_of_name wish || has_name earlier

abbrev pub IsNamed : List ℕ → Wish → Type 0
IsNamed name wish = is_of_name wish ≡ true → name_in (asked_of wish.option wish.body) ≡ Some name

-- each that has a name has this one
abbrev pub AllNamed : List ℕ → List Wish → Type 0
AllNamed name [] = Unit {0}
AllNamed name (wish ∷ earlier) = IsNamed name wish × AllNamed name earlier

none_some : (name : List ℕ) → None ≡ Some name → ⊥
none_some name e = cc

some_same : (one other : List ℕ) → Some one ≡ Some other → one ≡ other
some_same one other e = cc

pub named_is : (name : List ℕ) (all : List Wish) → AllNamed name all → has_name all ≡ true → name_asked all ≡ Some name
named_is name [] named has = absurd (false≢true has)
named_is name (wish ∷ earlier) named has = go (λ h. named_is name earlier named.1 h) (is_of_name wish) refl
  where
    go : (has_name earlier ≡ true → name_asked earlier ≡ Some name) → (b : Bool) → is_of_name wish ≡ b → (if is_of_name wish then name_in (asked_of wish.option wish.body) else name_asked earlier) ≡ Some name
    go rest true e = ap (λ (b : Bool). if b then name_in (asked_of wish.option wish.body) else name_asked earlier) e ∙ named.0 e
    go rest false e = ap (λ (b : Bool). if b then name_in (asked_of wish.option wish.body) else name_asked earlier) e ∙ rest (ap (λ b. b || has_name earlier) (sym e) ∙ has)

pub named_only : (name other : List ℕ) (all : List Wish) → AllNamed name all → name_asked all ≡ Some other → other ≡ name
named_only name other [] named e = absurd (none_some other e)
named_only name other (wish ∷ earlier) named e = go (λ f. named_only name other earlier named.1 f) (is_of_name wish) refl
  where
    go : (name_asked earlier ≡ Some other → other ≡ name) → (b : Bool) → is_of_name wish ≡ b → other ≡ name
    go rest true f = some_same other name (sym e ∙ ap (λ (b : Bool). if b then name_in (asked_of wish.option wish.body) else name_asked earlier) f ∙ named.0 f)
    go rest false f = rest (ap (λ (b : Bool). if b then name_in (asked_of wish.option wish.body) else name_asked earlier) (sym f) ∙ e)

pub named_tail : (name : List ℕ) (some later : List Wish) → AllNamed name (later ++ some) → AllNamed name some
named_tail name some [] named = named
named_tail name some (wish ∷ later) named = named_tail name some later named.1

-- An option that a handle asks has the name that was set last.

wish_named : (option : ℕ) (turns : List Turn) → length (name_now turns) ≤ max_text → IsNamed (name_now turns) (wish_for option turns)
wish_named option turns short = go (option == opt_go) refl (option == opt_export_name) refl
  where
    name_so : (n : ℕ) (body : List ℕ) → n ≡ opt_export_name → body ≡ name_now turns → name_in (asked_of n body) ≡ Some (name_now turns)
    name_so n body e f = ap name_in (asked_so n body (Name (name_now turns)) (e, f))

    info_so : (n : ℕ) (body : List ℕ) → n ≡ opt_go → body ≡ option_body opt_go (name_now turns) (contexts_now turns) → name_in (asked_of n body) ≡ Some (name_now turns)
    info_so n body e f = ap name_in (asked_so n body (Info (name_now turns) (1 ∷ 2 ∷ 3 ∷ [])) (
      ap (λ m. (m == 6) || (m == 7)) e,
      omega (arith, short),
      (omega arith, (omega arith, (omega arith, (omega arith, tt)))),
      f,
    ))

    go : (a : Bool) → (option == opt_go) ≡ a → (b : Bool) → (option == opt_export_name) ≡ b → IsNamed (name_now turns) (wish_for option turns)
    go true e b f is = let same = eqb-true option opt_go e in info_so option (option_body option (name_now turns) (contexts_now turns)) same (ap (λ n. option_body n (name_now turns) (contexts_now turns)) same)
    go false e true f is = let same = eqb-true option opt_export_name f in name_so option (option_body option (name_now turns) (contexts_now turns)) same (ap (λ n. option_body n (name_now turns) (contexts_now turns)) same)
    go false e false f is = absurd (false≢true (sym (ap (λ b. (option == opt_go) || b) f ∙ ap (λ b. b || false) e) ∙ is))

wishes_named : (p : Phase) (turns : List Turn) → length (name_now turns) ≤ max_text → AllNamed (name_now turns) (wishes_at p turns)
wishes_named (Asked option) turns short = (wish_named option turns short, tt)
wishes_named AskedByName turns short = (wish_named opt_export_name turns short, tt)
wishes_named Greeting turns short = tt
wishes_named OptMode turns short = tt
wishes_named Ready turns short = tt
wishes_named (Refused code) turns short = tt

named_join : (name : List ℕ) (some more : List Wish) → AllNamed name some → AllNamed name more → AllNamed name (some ++ more)
named_join name [] more a b = b
named_join name (wish ∷ some) more a b = (a.0, named_join name some more a.1 b)

named_if : (over : Bool) (name : List ℕ) (some more : List Wish) → AllNamed name some → AllNamed name more → AllNamed name (if_over over some ++ more)
named_if true name some more a b = named_join name some more a b
named_if false name some more a b = b

-- The name that was set last is short, and all options that have a name have it.
pub record HaveName (turns : List Turn) : Type 0 where
  pub short : length (name_now turns) ≤ max_text
  pub named : AllNamed (name_now turns) (wishes_of turns)

pub name_hello : (turns : List Turn) → HaveName turns → HaveName (Hello ∷ turns)
name_hello turns h = record { short = h.short; named = named_join (name_now turns) (wishes_by Hello turns) (wishes_of turns) (wishes_named (phase (Hello ∷ turns)) (Hello ∷ turns) h.short) h.named }

pub name_replied : (told : _) (turns : List Turn) → HaveName turns → HaveName (Replied told ∷ turns)
name_replied told turns h = record {
  short = h.short;
  named = named_if (is_some (end_of told)) (name_now turns) (wishes_at (phase (Replied told ∷ turns)) (Replied told ∷ turns)) (wishes_of turns) (wishes_named (phase (Replied told ∷ turns)) (Replied told ∷ turns) h.short) h.named;
}

pub name_same : (one other : List Turn) → name_now one ≡ name_now other → wishes_of one ≡ wishes_of other → HaveName other → HaveName one
name_same one other e f h = record {
  short = subst (λ n. length n ≤ max_text) (sym e) h.short;
  named = subst (λ n. AllNamed n (wishes_of one)) (sym e) (subst (AllNamed (name_now other)) (sym f) h.named);
}

-- Before the hello nothing is asked.

abbrev is_greeting : Phase → Bool
is_greeting Greeting = true
is_greeting (Asked option) = false
is_greeting AskedByName = false
is_greeting OptMode = false
is_greeting Ready = false
is_greeting (Refused code) = false

structured_past : (mode on : Bool) (wanted : List (List ℕ)) → is_greeting (after_structured mode wanted on) ≡ false
structured_past true on wanted = refl
structured_past false true [] = refl
structured_past false true (one ∷ more) = refl
structured_past false false wanted = refl

extended_past : (structured mode on : Bool) (wanted : List (List ℕ)) → is_greeting (after_extended structured mode wanted on) ≡ false
extended_past structured mode true wanted = structured_past mode true wanted
extended_past true mode false wanted = refl
extended_past false mode false wanted = structured_past mode false wanted

hello_past : (extended structured mode : Bool) (wanted : List (List ℕ)) → is_greeting (after_hello extended structured mode wanted) ≡ false
hello_past true structured mode wanted = refl
hello_past false structured mode wanted = extended_past structured mode false wanted

go_past : (mode : Bool) (end : End) → is_greeting (after_go mode end) ≡ false
go_past mode Acknowledged = refl
go_past true (Failed code) = refl
go_past false (Failed code) = go (code == err_unsup)
  where
    go : (b : Bool) → is_greeting (if b then AskedByName else Refused code) ≡ false
    go true = refl
    go false = refl

answer_past : (structured mode : Bool) (wanted : List (List ℕ)) (option : ℕ) (end : End) → is_greeting (after_answer structured mode wanted option end) ≡ false
answer_past structured mode wanted option end = go (option == opt_extended_headers) (option == opt_structured_reply) (option == opt_go) mode refl
  where
    go : (a b c d : Bool) → mode ≡ d →
        is_greeting (if a then after_extended structured mode wanted (is_acknowledged end) else if b then after_structured mode wanted (is_acknowledged end) else if c then after_go mode end else if d then OptMode else Asked opt_go) ≡ false
    go true b c d e = extended_past structured mode (is_acknowledged end) wanted
    go false true c d e = structured_past mode (is_acknowledged end) wanted
    go false false true d e = go_past mode end
    go false false false true e = refl
    go false false false false e = refl

past : {A : Type 0} (p : Phase) → is_greeting p ≡ false → p ≡ Greeting → A
past p e f = absurd (false≢true (sym e ∙ ap is_greeting f))

pub none_asked : (turns : List Turn) → phase turns ≡ Greeting → wishes_of turns ≡ []
none_asked [] e = refl
none_asked (Hello ∷ before) e = past (phase (Hello ∷ before)) (hello_past (asks_extended before) (asks_structured before) (opt_mode before) (contexts_now before)) e
none_asked (ByName size flags ∷ before) e = past Ready refl e
none_asked (Set setting ∷ before) e = none_asked before e
none_asked (Opted option ∷ before) e = past (Asked option) refl e
none_asked (Replied told ∷ before) e = go (end_of told) (phase before) refl (λ f. none_asked before f) e
  where
    go : (x : Option End) (p : Phase) → phase before ≡ p → (phase before ≡ Greeting → wishes_of before ≡ []) → after_reply (asks_structured before) (opt_mode before) (contexts_now before) x p ≡ Greeting →
        if_over (is_some x) (wishes_at (after_reply (asks_structured before) (opt_mode before) (contexts_now before) x p) (Replied told ∷ before)) ++ wishes_of before ≡ []
    go None p f rest e = rest (f ∙ e)
    go (Some end) Greeting f rest e = rest f
    go (Some end) (Asked option) f rest e = past _ (answer_past (asks_structured before) (opt_mode before) (contexts_now before) option end) e
    go (Some end) AskedByName f rest e = past AskedByName refl e
    go (Some end) OptMode f rest e = past OptMode refl e
    go (Some end) Ready f rest e = past Ready refl e
    go (Some end) (Refused code) f rest e = past (Refused code) refl e
