-- From what the rows tell to what a tool's words ask for.
use Rattle.std.proofs.Common.{◌≡◌, ◌≢◌, ◌∙◌, ◌<◌, ◌≤◌, inl, inr, ℕ, Bool, true, false, List, [], ◌∷◌, Result, Ok, Err, drop, get_or, length, Option, Some, None, codes, refl, sym, ap, arith, subst}
use Rattle.std.specs.Prelude.{slice_get, IsErrAnd, IsErrOf}
use Rattle.std.specs.Str.{bytes_eq}
use Rattle.std.specs.Cmp.Lexicographic.{other_text}
use Rattle.clap.specs.Walk.{Row, first_of}
use Rattle.lnbd_model.specs.declared.target.Place.{Place}
use Rattle.lnbd_uri.specs.Address.{IsAddress}
use Rattle.lnbd_uri.specs.declared.fault.UriFault.{UriFault}
use Rattle.lnbd_store.specs.declared.serving.Content.{Content}
use Rattle.lnbd_plan.specs.declared.options.CopyOptions.{CopyOptions}
use Rattle.lnbd_args.specs.declared.asked.What.{What}
use Rattle.lnbd_args.specs.declared.fault.ArgsFault.{ArgsFault}
use Rattle.lnbd_args.specs.declared.fault.ArgsFault.TheVariants.{Uri}
use Rattle.lnbd_args.specs.Clap.{Tells, first_id, is_table, room, second_id}
use Rattle.lnbd_args.specs.Tools.{AreSides, FirstFault, IsInfo, info_rules, with_map, IsCopyOptions, IsFaultOf, IsMisplaced, IsNumber, IsRange, Reads, Serves, Wanted, addresses, calls, copy, copy_rules, dump, dump_rules, info, selftest, serve}
use Rattle.lnbd_args.specs.Words.{AreParts, Part, Rule, Word, places}
use Rattle.lnbd_args.proofs.ReadLemmas.{parts_once}

pub none_some : {X : Type 0} (x : X) → ◌≡◌ {A = Option X} None (Some x) → ⊥
none_some x e = absurd (cc)

pub some_is : {X : Type 0} (x y : X) → Some x ≡ Some y → x ≡ y
some_is x y e = cc

-- ---- places

listed_one : (xs : List Word) (a : Word) → length xs ≤ 1 → slice_get xs 0 ≡ Some a → xs ≡ a ∷ []
listed_one [] a k e = absurd (none_some a e)
listed_one (x ∷ []) a k e = ap (λ y. y ∷ []) (some_is x a e)
listed_one (x ∷ y ∷ xs) a k e = absurd (omega arith)

listed_two : (xs : List Word) (a b : Word) → length xs ≤ 2 → slice_get xs 0 ≡ Some a → slice_get xs 1 ≡ Some b → xs ≡ a ∷ b ∷ []
listed_two [] a b k e f = absurd (none_some a e)
listed_two (x ∷ []) a b k e f = absurd (none_some b f)
listed_two (x ∷ y ∷ []) a b k e f = ap (λ z. z ∷ y ∷ []) (some_is x a e) ∙ ap (λ z. a ∷ z ∷ []) (some_is y b f)
listed_two (x ∷ y ∷ z ∷ xs) a b k e f = absurd (omega arith)

pub one_place : (rs : List Rule) (rows : List Row) (parts : List Part) (a : Word) → Tells rs false rows parts → Some a ≡ first_of first_id rows → places parts ≡ a ∷ []
one_place rs rows parts a t e = listed_one (places parts) a t.fits (sym t.first ∙ sym e)

pub two_places : (rs : List Rule) (rows : List Row) (parts : List Part) (a b : Word) → Tells rs true rows parts → Some a ≡ first_of first_id rows → Some b ≡ first_of second_id rows
    → places parts ≡ a ∷ b ∷ []
two_places rs rows parts a b t e f = listed_two (places parts) a b t.fits (sym t.first ∙ sym e) (sym (t.second refl) ∙ sym f)

pub same_pair : (a b c d : Word) → a ∷ b ∷ [] ≡ c ∷ d ∷ [] → (a ≡ c) × (b ≡ d)
same_pair a b c d e = (ap (λ l. get_or l 0 []) e, ap (λ l. get_or l 1 []) e)

-- ---- a tool's name tells it from the others

pub other_tool : (x y : Word) (xs ys : List Word) → bytes_eq x y ≡ false → x ∷ xs ≡ y ∷ ys → ⊥
other_tool x y xs ys e is = other_text x y (sym e) (ap (λ l. get_or l 0 []) is)

pub rest_is : (x y : Word) (xs ys : List Word) → x ∷ xs ≡ y ∷ ys → xs ≡ ys
rest_is x y xs ys is = ap (λ l. drop 1 l) is

-- the words of a tool are read by that tool's rules alone
pub only_copy : (ws : List Word) (wanted : Wanted) → Reads (codes "nbdcopy" ∷ ws) wanted
    → ((options : CopyOptions) (from to : Word) (parts : List Part) → AreParts copy_rules ws parts → places parts ≡ from ∷ to ∷ [] → IsCopyOptions parts options → AreSides from to → ⊥) → ⊥
only_copy ws calls h nay = other_tool _ _ _ _ refl h
only_copy ws (copy options from to) h nay =
    nay options from to h.2 (subst (λ x. AreParts copy_rules x h.2) (sym (rest_is _ _ ws h.0 h.1)) h.3) h.4.0 h.4.1 h.4.2
only_copy ws (dump offset length address) h nay = other_tool _ _ _ _ refl h.1
only_copy ws (info asked json address) h nay = other_tool _ _ _ _ refl h.1
only_copy ws (serve content read_only sessions address run) h nay = other_tool _ _ _ _ refl h.1
only_copy ws (selftest seed size) h nay = other_tool _ _ _ _ refl h.1

pub only_dump : (ws : List Word) (wanted : Wanted) → Reads (codes "nbddump" ∷ ws) wanted
    → ((offset : ℕ) (length : Option ℕ) (address : Word) (parts : List Part) → AreParts dump_rules ws parts → places parts ≡ address ∷ [] → IsRange parts offset length → ⊥) → ⊥
only_dump ws calls h nay = other_tool _ _ _ _ refl h
only_dump ws (copy options from to) h nay = other_tool _ _ _ _ refl h.1
only_dump ws (dump offset length address) h nay =
    nay offset length address h.2 (subst (λ x. AreParts dump_rules x h.2) (sym (rest_is _ _ ws h.0 h.1)) h.3) h.4.0 h.4.1
only_dump ws (info asked json address) h nay = other_tool _ _ _ _ refl h.1
only_dump ws (serve content read_only sessions address run) h nay = other_tool _ _ _ _ refl h.1
only_dump ws (selftest seed size) h nay = other_tool _ _ _ _ refl h.1

pub only_serve : (ws : List Word) (wanted : Wanted) → Reads (codes "serve" ∷ ws) wanted
    → ((content : Content) (read_only : Bool) (sessions : ℕ) (address : Word) (run : List Word) → Serves ws content read_only sessions address run → ⊥) → ⊥
only_serve ws calls h nay = other_tool _ _ _ _ refl h
only_serve ws (copy options from to) h nay = other_tool _ _ _ _ refl h.1
only_serve ws (dump offset length address) h nay = other_tool _ _ _ _ refl h.1
only_serve ws (info asked json address) h nay = other_tool _ _ _ _ refl h.1
only_serve ws (serve content read_only sessions address run) h nay =
    nay content read_only sessions address run (subst (λ x. Serves x content read_only sessions address run) (sym (rest_is _ _ ws h.0 h.1)) h.2)
only_serve ws (selftest seed size) h nay = other_tool _ _ _ _ refl h.1

pub only_selftest : (ws : List Word) (wanted : Wanted) → Reads (codes "selftest" ∷ ws) wanted
    → ((first second : Word) (seed size : ℕ) (parts : List Part) → AreParts [] ws parts → places parts ≡ first ∷ second ∷ [] → IsNumber first seed → IsNumber second size → ⊥) → ⊥
only_selftest ws calls h nay = other_tool _ _ _ _ refl h
only_selftest ws (copy options from to) h nay = other_tool _ _ _ _ refl h.1
only_selftest ws (dump offset length address) h nay = other_tool _ _ _ _ refl h.1
only_selftest ws (info asked json address) h nay = other_tool _ _ _ _ refl h.1
only_selftest ws (serve content read_only sessions address run) h nay = other_tool _ _ _ _ refl h.1
only_selftest ws (selftest seed size) h nay =
    nay h.4.0 h.4.1 seed size h.2 (subst (λ x. AreParts [] x h.2) (sym (rest_is _ _ ws h.0 h.1)) h.3) h.4.2 h.4.3 h.4.4

pub only_info : (ws : List Word) (wanted : Wanted) → Reads (codes "nbdinfo" ∷ ws) wanted
    → ((asked : What) (json : Bool) (address : Word) (parts : List Part) → AreParts info_rules (with_map ws) parts → places parts ≡ address ∷ [] → IsInfo parts asked json → ⊥) → ⊥
only_info ws calls h nay = other_tool _ _ _ _ refl h
only_info ws (copy options from to) h nay = other_tool _ _ _ _ refl h.1
only_info ws (dump offset length address) h nay = other_tool _ _ _ _ refl h.1
only_info ws (info asked json address) h nay =
    nay asked json address h.2 (subst (λ x. AreParts info_rules (with_map x) h.2) (sym (rest_is _ _ ws h.0 h.1)) h.3) h.4 h.5
only_info ws (serve content read_only sessions address run) h nay = other_tool _ _ _ _ refl h.1
only_info ws (selftest seed size) h nay = other_tool _ _ _ _ refl h.1

-- ---- words that ask for nothing

-- what clap told of the words
abbrev pub Told : List Rule → Bool → List Word → List Row → Type 0
Told rs b ws rows = (parts : List Part) × AreParts rs ws parts × Tells rs b rows parts

-- a place that is missing
pub no_place : (rs : List Rule) (b : Bool) (rows : List Row) (parts : List Part) (a : Word) (rest : List Word) → Tells rs b rows parts → None ≡ first_of first_id rows → places parts ≡ a ∷ rest → ⊥
no_place rs b rows parts a rest t e is = none_some a (e ∙ t.first ∙ ap (λ l. slice_get l 0) is)

pub no_second : (rs : List Rule) (rows : List Row) (parts : List Part) (a b : Word) → Tells rs true rows parts → None ≡ first_of second_id rows → places parts ≡ a ∷ b ∷ [] → ⊥
no_second rs rows parts a b t e is = none_some b (e ∙ t.second refl ∙ ap (λ l. slice_get l 1) is)

-- the parts that clap told are the parts
pub told_parts : (rs : List Rule) (b : Bool) (ws : List Word) (rows : List Row) (parts : List Part) → is_table rs b ≡ true → Told rs b ws rows → AreParts rs ws parts → Tells rs b rows parts
told_parts rs b ws rows parts table h are = subst (Tells rs b rows) (parts_once rs b table ws h.0 parts h.1 are) h.2

pub few_places : (b : Bool) (parts : List Part) (a : Word) → places parts ≡ a ∷ [] → length (places parts) ≤ room b
few_places true parts a e = let n = ap length e in omega (arith, n)
few_places false parts a e = let n = ap length e in omega (arith, n)

pub two_fit : (parts : List Part) (a b : Word) → places parts ≡ a ∷ b ∷ [] → length (places parts) ≤ 2
two_fit parts a b e = let n = ap length e in omega (arith, n)

-- ---- addresses that are none

pub err_is : {T E : Type 0} (e x : E) → IsErrOf {T = T} (Err e) x → e ≡ x
err_is e x is = cc

-- a fault that `?` hands on
pub handed_on : {T E : Type 0} (r : Result T E) (e x : E) → IsErrAnd r (λ f. f ≡ e) → IsErrOf r x → e ≡ x
handed_on (Ok t) e x h is = absurd h
handed_on (Err f) e x h is = sym h ∙ err_is f x is

pub first_misplaced : (words : List Word) (wanted : Wanted) (a : Word) (rest : List Word) (e : ArgsFault) (fault : UriFault) → Reads words wanted → addresses wanted ≡ a ∷ rest
    → IsFaultOf a e → e ≡ Uri fault → IsMisplaced words fault
first_misplaced words wanted a rest e fault reads are h is =
    record { wanted = wanted; reads = reads; faulty = subst (λ xs. FirstFault xs fault) (sym are) (inl (subst (IsFaultOf a) is h)) }

pub second_misplaced : (words : List Word) (wanted : Wanted) (a b : Word) (place : Place) (e : ArgsFault) (fault : UriFault) → Reads words wanted → addresses wanted ≡ a ∷ b ∷ []
    → IsAddress a place → IsFaultOf b e → e ≡ Uri fault → IsMisplaced words fault
second_misplaced words wanted a b place e fault reads are address h is =
    record { wanted = wanted; reads = reads; faulty = subst (λ xs. FirstFault xs fault) (sym are) (inr (place, address, inl (subst (IsFaultOf b) is h))) }

-- ---- the tools together

pub only_calls : (w : Word) (ws : List Word) (wanted : Wanted) → Reads (codes "nbdcalls" ∷ w ∷ ws) wanted → ⊥
only_calls w ws calls h = let n = ap length (rest_is _ _ _ _ h) in absurd (omega (arith, n))
only_calls w ws (copy options from to) h = other_tool _ _ _ _ refl h.1
only_calls w ws (dump offset length address) h = other_tool _ _ _ _ refl h.1
only_calls w ws (info asked json address) h = other_tool _ _ _ _ refl h.1
only_calls w ws (serve content read_only sessions address run) h = other_tool _ _ _ _ refl h.1
only_calls w ws (selftest seed size) h = other_tool _ _ _ _ refl h.1

pub calls_alone : (ws : List Word) → 0 < length ws → (wanted : Wanted) → Reads (codes "nbdcalls" ∷ ws) wanted → ⊥
calls_alone [] k wanted h = absurd (omega arith)
calls_alone (w ∷ ws) k wanted h = only_calls w ws wanted h

pub name_is : (x y : Word) (xs ys : List Word) → x ∷ xs ≡ y ∷ ys → x ≡ y
name_is x y xs ys is = ap (λ l. get_or l 0 []) is

-- a name that is none of the tools' reads nothing
pub no_tool : (tool : Word) (ws : List Word) → tool ≢ codes "nbdcalls" → tool ≢ codes "nbdcopy" → tool ≢ codes "nbdinfo" → tool ≢ codes "serve" → tool ≢ codes "selftest" → tool ≢ codes "nbddump"
    → (wanted : Wanted) → Reads (tool ∷ ws) wanted → ⊥
no_tool tool ws a b c d e f calls h = a (name_is _ _ _ _ h)
no_tool tool ws a b c d e f (copy options from to) h = b (name_is _ _ _ _ h.1)
no_tool tool ws a b c d e f (dump offset length address) h = f (name_is _ _ _ _ h.1)
no_tool tool ws a b c d e f (info asked json address) h = c (name_is _ _ _ _ h.1)
no_tool tool ws a b c d e f (serve content read_only sessions address run) h = d (name_is _ _ _ _ h.1)
no_tool tool ws a b c d e f (selftest seed size) h = e (name_is _ _ _ _ h.1)

pub no_words : (wanted : Wanted) → Reads [] wanted → ⊥
no_words calls h = let n = ap length h in absurd (omega (arith, n))
no_words (copy options from to) h = let n = ap length h.1 in absurd (omega (arith, n))
no_words (dump offset count address) h = let n = ap length h.1 in absurd (omega (arith, n))
no_words (info asked json address) h = let n = ap length h.1 in absurd (omega (arith, n))
no_words (serve content read_only sessions address run) h = let n = ap length h.1 in absurd (omega (arith, n))
no_words (selftest seed size) h = let n = ap length h.1 in absurd (omega (arith, n))
