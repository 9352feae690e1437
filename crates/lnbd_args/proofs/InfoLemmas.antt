-- What nbdinfo's options ask for.
use Rattle.std.proofs.Common.{◌≡◌, ◌∙◌, ◌⊎◌, inl, inr, ⊎_elim, arith, length, Option, Some, None, subst, false, List, [], ◌∷◌, codes, is_some, refl, sym, ap}
use Rattle.clap.specs.Walk.{Row, first_of}
use Rattle.lnbd_args.specs.Clap.{Tells, is_true}
use Rattle.lnbd_args.specs.Tools.{IsContext, IsNameOf, IsWhat, chosen, info_rules}
use Rattle.lnbd_args.specs.Words.{Part, Word, is_given, value_of}
use Rattle.std.specs.Str.{bytes_eq}
use Rattle.lnbd_args.specs.declared.asked.Predicate.{Predicate}
use Rattle.lnbd_args.specs.declared.asked.Predicate.TheVariants.{IsReadOnly, IsRotational, IsTls, CanCache, CanDf, CanFastZero, CanFlush, CanFua, CanMultiConn, CanTrim, CanZero, CanWrite, CanRead, CanConnect, CanStructuredReply}
use Rattle.lnbd_args.specs.declared.asked.What.{What}
use Rattle.lnbd_args.specs.declared.asked.What.TheVariants as what
use Rattle.lnbd_args.specs.declared.info.Topic.{Topic}
use Rattle.lnbd_args.specs.declared.info.Topic.TheVariants as topic
use Rattle.lnbd_args.proofs.ToolLemmas.{name_is, other_tool}
use Rattle.lnbd_args.specs.Written.{IsTopic, chosen_by}

-- what is chosen, by what clap's rows tell
pub chosen_is : (rows : List Row) (parts : List Part) → Tells info_rules false rows parts
    → chosen parts ≡ chosen_by (is_true (first_of (codes "list") rows)) (is_true (first_of (codes "size") rows)) (is_true (first_of (codes "map") rows))
    (is_some (first_of (codes "is") rows)) (is_some (first_of (codes "can") rows))
chosen_is rows parts t =
    let l : is_given (codes "list") parts ≡ is_true (first_of (codes "list") rows) = sym (t.flag (codes "list") _ refl refl) in
    let s : is_given (codes "size") parts ≡ is_true (first_of (codes "size") rows) = sym (t.flag (codes "size") _ refl refl) in
    let m : is_given (codes "map") parts ≡ is_true (first_of (codes "map") rows) = sym (t.flag (codes "map") _ refl refl) in
    let i : is_given (codes "is") parts ≡ is_some (first_of (codes "is") rows) = t.given (codes "is") _ refl refl in
    let c : is_given (codes "can") parts ≡ is_some (first_of (codes "can") rows) = t.given (codes "can") _ refl refl in
    λ k. chosen_by (l k) (s k) (m k) (i k) (c k)

pub differs : (x : Word) → ◌≡◌ {A = Option Word} None (Some x) → ⊥
differs x e = absurd (cc)

pub same_value : (x y : Word) → Some x ≡ Some y → x ≡ y
same_value x y e = cc

none_one : (o : Word) → o ∷ [] ≡ [] → ⊥
none_one o e = let n = ap length e in absurd (omega (arith, n))

other_one : (x y : Word) → bytes_eq x y ≡ false → x ∷ [] ≡ y ∷ [] → ⊥
other_one x y e is = other_tool x y [] [] e is

-- a predicate is asked by `--is` or by `--can`
pub option_of : (p : Predicate) (option name : Word) → IsNameOf p option name → (option ≡ codes "is") ⊎ (option ≡ codes "can")
option_of IsReadOnly option name h = inl h.0
option_of IsRotational option name h = inl h.0
option_of IsTls option name h = inl h.0
option_of CanCache option name h = inr h.0
option_of CanDf option name h = inr h.0
option_of CanFastZero option name h = inr h.0
option_of CanFlush option name h = inr h.0
option_of CanFua option name h = inr h.0
option_of CanMultiConn option name h = inr h.0
option_of CanTrim option name h = inr h.0
option_of CanZero option name h = inr h.0
option_of CanWrite option name h = inr h.0
option_of CanRead option name h = inr h.0
option_of CanConnect option name h = inr h.0
option_of CanStructuredReply option name h = inr h.0

-- where a map is asked, its context alone can be wrong
pub map_only : (parts : List Part) → chosen parts ≡ codes "map" ∷ [] → (asked : What) → IsWhat parts asked → ((context : Word) → IsContext (value_of (codes "context") parts) context → ⊥) → ⊥
map_only parts e what.Listing h k = none_one (codes "map") (sym e ∙ h)
map_only parts e what.List h k = other_one (codes "map") (codes "list") refl (sym e ∙ h)
map_only parts e what.Size h k = other_one (codes "map") (codes "size") refl (sym e ∙ h)
map_only parts e (what.Map context) h k = k context h.2
map_only parts e (what.Totals context) h k = k context h.2
map_only parts e (what.Test p) h k =
    let option : codes "map" ≡ h.0 = name_is _ _ _ _ (sym e ∙ h.2) in
    ⊎_elim (λ is. other_one (codes "map") (codes "is") refl (ap (λ x. x ∷ []) (option ∙ is)))
    (λ can. other_one (codes "map") (codes "can") refl (ap (λ x. x ∷ []) (option ∙ can))) (option_of p h.0 h.1 h.4)

-- where a predicate is asked, its name alone can be wrong
pub test_only : (parts : List Part) (o : Word) → chosen parts ≡ o ∷ [] → bytes_eq o (codes "list") ≡ false → bytes_eq o (codes "size") ≡ false → bytes_eq o (codes "map") ≡ false
    → (asked : What) → IsWhat parts asked → ((p : Predicate) (name : Word) → value_of o parts ≡ Some name → IsNameOf p o name → ⊥) → ⊥
test_only parts o e l s m what.Listing h k = none_one o (sym e ∙ h)
test_only parts o e l s m what.List h k = other_one o (codes "list") l (sym e ∙ h)
test_only parts o e l s m what.Size h k = other_one o (codes "size") s (sym e ∙ h)
test_only parts o e l s m (what.Map context) h k = other_one o (codes "map") m (sym e ∙ h.0)
test_only parts o e l s m (what.Totals context) h k = other_one o (codes "map") m (sym e ∙ h.0)
test_only parts o e l s m (what.Test p) h k =
    let option : h.0 ≡ o = name_is _ _ _ _ (sym h.2 ∙ e) in
    k p h.1 (subst (λ (x : Word). value_of x parts ≡ Some h.1) option h.3) (subst (λ (x : Word). IsNameOf p x h.1) option h.4)

-- what is asked has a topic
pub topic_only : (parts : List Part) (asked : What) → IsWhat parts asked → ((t : Topic) → IsTopic (chosen parts) t → ⊥) → ⊥
topic_only parts what.Listing h k = k topic.Listing h
topic_only parts what.List h k = k topic.List h
topic_only parts what.Size h k = k topic.Size h
topic_only parts (what.Map context) h k = k topic.Map h.0
topic_only parts (what.Totals context) h k = k topic.Map h.0
topic_only parts (what.Test p) h k =
    ⊎_elim (λ is. k topic.Is (h.2 ∙ ap (λ x. x ∷ []) is)) (λ can. k topic.Can (h.2 ∙ ap (λ x. x ∷ []) can)) (option_of p h.0 h.1 h.4)
