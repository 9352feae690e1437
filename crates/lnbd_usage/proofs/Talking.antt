-- A conversation on one link, and the connect and the shut around it.
use Rattle.std.proofs.Common.{◌≡◌, ◌⊎◌, inl, inr, ◌==◌, ◌&&◌, ◌||◌, ℕ, Bool, true, false, not, List, [], ◌∷◌, ◌++◌, Some, None, refl, ap, sym, subst, ◌∙◌, append_assoc}
use Rattle.std.proofs.lemmas.Bool.{eq-eqb, eqb-true, false≢true}
use Rattle.std.proofs.lemmas.List.{append-nil}
use Rattle.std.proofs.lemmas.List.Folds.{list_any-append}
use Rattle.std.specs.List.{list_any}
use Rattle.lnbd_link.specs.Call.{Call, Connect, Listen, Accept, Read, Write, Pause, Shut}
use Rattle.lnbd_link.specs.Numbers.{is_given, is_open, open_after, open_by}
use Rattle.lnbd_link.proofs.Openings.{open_after-append}
use Rattle.lnbd_link.specs.declared.wires.Want.{Want}
use Rattle.lnbd_model.specs.declared.target.Target.{Target}
use Rattle.lnbd_usage.specs.Links.{UseOpenLinks, serves, targets, used_by}
use Rattle.lnbd_usage.specs.OneLink.{AreTalk, Converse, ConversationsUseOneLink, IsTalk, UseOneLink, WaitsForOne, WaitsInVain}
use Rattle.lnbd_usage.specs.Pauses.{AtEachPause, HasNoPause, is_pause}

-- ---- Lists.

none_cons : {A : Type 0} (before after : List A) (one : A) → [] ≡ before ++ one ∷ after → ⊥
none_cons [] after one e = cc
none_cons (first ∷ before) after one e = cc

head_same : {A : Type 0} (x y : A) (xs ys : List A) → x ∷ xs ≡ y ∷ ys → x ≡ y
head_same x y xs ys e = cc

tail_same : {A : Type 0} (x y : A) (xs ys : List A) → x ∷ xs ≡ y ∷ ys → xs ≡ ys
tail_same x y xs ys e = cc

last_one : {A : Type 0} (x : A) (rest after : List A) (one : A) → x ∷ [] ≡ rest ++ one ∷ after → (rest ≡ []) × (one ≡ x)
last_one x [] after one e = (refl, sym (head_same x one [] after e))
last_one x (first ∷ rest) after one e = absurd (none_cons rest after one (tail_same x first [] (rest ++ one ∷ after) e))

-- One item among two lists stands in the first or in the second.
record IsFirst {A : Type 0} (xs ys before after : List A) (one : A) : Type 0 where
  rest : List A
  are : xs ≡ before ++ one ∷ rest

record IsSecond {A : Type 0} (xs ys before after : List A) (one : A) : Type 0 where
  rest : List A
  are : before ≡ xs ++ rest
  others : ys ≡ rest ++ one ∷ after

either_part : {A : Type 0} (xs ys before after : List A) (one : A) → xs ++ ys ≡ before ++ one ∷ after → IsFirst xs ys before after one ⊎ IsSecond xs ys before after one
either_part [] ys before after one e = inr (record { rest = before; are = refl; others = e })
either_part (x ∷ xs) ys [] after one e = inl (record { rest = xs; are = ap (λ c. c ∷ xs) (head_same x one (xs ++ ys) after e) })
either_part {A} (x ∷ xs) ys (first ∷ before) after one e =
    let same : x ≡ first = head_same x first (xs ++ ys) (before ++ one ∷ after) e in
    go same (either_part xs ys before after one (tail_same x first (xs ++ ys) (before ++ one ∷ after) e))
  where
    go : x ≡ first → IsFirst xs ys before after one ⊎ IsSecond xs ys before after one → IsFirst (x ∷ xs) ys (first ∷ before) after one ⊎ IsSecond (x ∷ xs) ys (first ∷ before) after one
    go same (inl is) = inl (record { rest = is.rest; are = ap (λ (l : List A). x ∷ l) is.are ∙ ap (λ (c : A). c ∷ before ++ one ∷ is.rest) same })
    go same (inr is) = inr (record { rest = is.rest; are = ap (λ (c : A). c ∷ before) (sym same) ∙ ap (λ (l : List A). x ∷ l) is.are; others = is.others })

-- ---- What was in vain is so behind other calls.

vain_behind : (link : ℕ) (calls more : List Call) (wants : List Want) → WaitsInVain link more wants → WaitsInVain link (calls ++ more) wants
vain_behind link calls more wants vain = record {
  direction = vain.direction;
  are = vain.are;
  some = vain.some;
  read = record {
    earlier = calls ++ vain.read.earlier;
    room = vain.read.room;
    later = vain.read.later;
    are = ap (λ (l : List Call). calls ++ l) vain.read.are ∙ sym (append_assoc calls vain.read.earlier _);
    nothing = vain.read.nothing;
  };
  written = λ two. (
      let was = vain.written two in
      record {
        earlier = calls ++ was.earlier;
        offered = was.offered;
        later = was.later;
        are = ap (λ (l : List Call). calls ++ l) was.are ∙ sym (append_assoc calls was.earlier _);
        nothing = was.nothing;
      });
}

-- ---- Parts of a conversation.

pub talk_on : (link : ℕ) (xs ys : List Call) → AreTalk link xs → AreTalk link ys → AreTalk link (xs ++ ys)
talk_on link [] ys one two = two
talk_on link (x ∷ xs) ys one two = (one.0, talk_on link xs ys one.1 two)

pub converse_none : (link : ℕ) → Converse link []
converse_none link = record { talk = tt; waits = λ before after wants e. absurd (none_cons before after (Pause wants) e) }

pub converse_on : (link : ℕ) (xs ys : List Call) → Converse link xs → Converse link ys → Converse link (xs ++ ys)
converse_on link xs ys one two = record { talk = talk_on link xs ys one.talk two.talk; waits = λ before after wants e. by before after wants (either_part xs ys before after (Pause wants) e) }
  where
    by : (before after : List Call) (wants : List Want) → IsFirst xs ys before after (Pause wants) ⊎ IsSecond xs ys before after (Pause wants) → WaitsInVain link before wants
    by before after wants (inl is) = one.waits before is.rest wants is.are
    by before after wants (inr is) = subst (λ (l : List Call). WaitsInVain link l wants) (sym is.are) (vain_behind link xs is.rest wants (two.waits is.rest after wants is.others))

has_pause : (before after : List Call) (wants : List Want) → list_any is_pause (before ++ Pause wants ∷ after) ≡ true
has_pause [] after wants = refl
has_pause (call ∷ before) after wants = or_true (is_pause call) (list_any is_pause (before ++ Pause wants ∷ after)) (has_pause before after wants)
  where
    or_true : (a b : Bool) → b ≡ true → (a || b) ≡ true
    or_true true b is = refl
    or_true false b is = is

-- calls without a pause
pub converse_moves : (link : ℕ) (calls : List Call) → AreTalk link calls → HasNoPause calls → Converse link calls
converse_moves link calls talk none = record { talk = talk; waits = λ before after wants e. absurd (false≢true (sym none ∙ ap (list_any is_pause) e ∙ has_pause before after wants)) }

-- and a pause behind them
pub converse_paused : (link : ℕ) (calls : List Call) (wants : List Want) → Converse link calls → WaitsInVain link calls wants → Converse link (calls ++ Pause wants ∷ [])
converse_paused link calls wants one vain = record {
  talk = talk_on link calls (Pause wants ∷ []) one.talk (tt, tt);
  waits = λ before after other e. by before after other (either_part calls (Pause wants ∷ []) before after (Pause other) e);
}
  where
    same_wants : (one two : List Want) → Pause one ≡ Pause two → one ≡ two
    same_wants one two e = cc

    by : (before after : List Call) (other : List Want) → IsFirst calls (Pause wants ∷ []) before after (Pause other) ⊎ IsSecond calls (Pause wants ∷ []) before after (Pause other)
        → WaitsInVain link before other
    by before after other (inl is) = one.waits before is.rest other is.are
    by before after other (inr is) =
        let l = last_one (Pause wants) is.rest after (Pause other) is.others in
        let none : calls ++ is.rest ≡ calls = ap (λ (r : List Call). calls ++ r) l.0 ∙ append-nil calls in
        subst (λ (w : List Want). WaitsInVain link before w) (sym (same_wants other wants l.1)) (subst (λ (b : List Call). WaitsInVain link b wants) (sym (is.are ∙ none)) vain)

-- ---- The whole.

-- a call of a conversation opens and shuts nothing
keeps_open : (link n : ℕ) (was : Bool) (call : Call) → IsTalk link call → open_by n was call ≡ was
keeps_open link n was (Read m room answer) talk = refl
keeps_open link n was (Write m offered answer) talk = refl
keeps_open link n was (Pause wants) talk = refl
keeps_open link n was (Connect to given) talk = absurd talk
keeps_open link n was (Listen at given) talk = absurd talk
keeps_open link n was (Accept listener answer) talk = absurd talk
keeps_open link n was (Shut m) talk = absurd talk

uses_link : (link n : ℕ) (call : Call) → IsTalk link call → used_by call ≡ Some n → n ≡ link
uses_link link n (Read m room answer) talk uses = (let same : m ≡ n = cc in sym same ∙ talk)
uses_link link n (Write m offered answer) talk uses = (let same : m ≡ n = cc in sym same ∙ talk)
uses_link link n (Pause wants) talk uses = absurd (cc)
uses_link link n (Connect to given) talk uses = absurd talk
uses_link link n (Listen at given) talk uses = absurd talk
uses_link link n (Accept listener answer) talk uses = absurd talk
uses_link link n (Shut m) talk uses = absurd talk

-- a front of a conversation leaves open what was
front_open : (link n : ℕ) (was : Bool) (before after calls : List Call) → AreTalk link calls → calls ≡ before ++ after → open_after n was before ≡ was
front_open link n was [] after calls talk e = refl
front_open link n was (first ∷ before) after [] talk e = absurd (cc)
front_open link n was (first ∷ before) after (call ∷ calls) talk e =
    let same : call ≡ first = head_same call first calls (before ++ after) e in
    front_open link n (open_by n was first) before after calls talk.1 (tail_same call first calls (before ++ after) e) ∙ keeps_open link n was first (subst (IsTalk link) same talk.0)

talk_at : (link : ℕ) (before after : List Call) (call : Call) → AreTalk link (before ++ call ∷ after) → IsTalk link call
talk_at link [] after call talk = talk.0
talk_at link (first ∷ before) after call talk = talk_at link before after call talk.1

serves_none : (link : ℕ) (calls : List Call) → AreTalk link calls → list_any serves calls ≡ false
serves_none link [] talk = refl
serves_none link (Read m room answer ∷ calls) talk = serves_none link calls talk.1
serves_none link (Write m offered answer ∷ calls) talk = serves_none link calls talk.1
serves_none link (Pause wants ∷ calls) talk = serves_none link calls talk.1
serves_none link (Connect to given ∷ calls) talk = absurd talk.0
serves_none link (Listen at given ∷ calls) talk = absurd talk.0
serves_none link (Accept listener answer ∷ calls) talk = absurd talk.0
serves_none link (Shut m ∷ calls) talk = absurd talk.0

goes_nowhere : (link : ℕ) (calls : List Call) → AreTalk link calls → targets (calls ++ Shut link ∷ []) ≡ []
goes_nowhere link [] talk = refl
goes_nowhere link (Read m room answer ∷ calls) talk = goes_nowhere link calls talk.1
goes_nowhere link (Write m offered answer ∷ calls) talk = goes_nowhere link calls talk.1
goes_nowhere link (Pause wants ∷ calls) talk = goes_nowhere link calls talk.1
goes_nowhere link (Connect to given ∷ calls) talk = absurd talk.0
goes_nowhere link (Listen at given ∷ calls) talk = absurd talk.0
goes_nowhere link (Accept listener answer ∷ calls) talk = absurd talk.0
goes_nowhere link (Shut m ∷ calls) talk = absurd talk.0

module _ (to : Target) (link : ℕ) (calls : List Call) (conversed : Converse link calls) where
  abbrev whole : List Call
  whole = Connect to (Some link) ∷ (calls ++ Shut link ∷ [])

  -- the link is open up to the shut
  open_at : (rest after : List Call) → calls ≡ rest ++ after → is_open link (Connect to (Some link) ∷ rest) ≡ true
  open_at rest after e = front_open link link ((link == link) || false) rest after calls conversed.talk e ∙ ap (λ (b : Bool). b || false) (eq-eqb link link refl)

  used : UseOpenLinks whole
  used n [] after call e uses = absurd (let same : Connect to (Some link) ≡ call = head_same (Connect to (Some link)) call (calls ++ Shut link ∷ []) after e in no_use (ap used_by same ∙ uses))
    where
      no_use : used_by (Connect to (Some link)) ≡ Some n → ⊥
      no_use e = cc
  used n (first ∷ rest) after call e uses = subst (λ (c : Call). is_open n (c ∷ rest) ≡ true) (head_same (Connect to (Some link)) first (calls ++ Shut link ∷ []) (rest ++ call ∷ after) e)
      (by (either_part calls (Shut link ∷ []) rest after call (tail_same (Connect to (Some link)) first (calls ++ Shut link ∷ []) (rest ++ call ∷ after) e)))
    where
      opened : n ≡ link → is_open link (Connect to (Some link) ∷ rest) ≡ true → is_open n (Connect to (Some link) ∷ rest) ≡ true
      opened same is = subst (λ (m : ℕ). is_open m (Connect to (Some link) ∷ rest) ≡ true) (sym same) is

      same_shut : call ≡ Shut link → n ≡ link
      same_shut is = (let e : Some link ≡ Some n = sym (ap used_by is) ∙ uses in cc)

      by : IsFirst calls (Shut link ∷ []) rest after call ⊎ IsSecond calls (Shut link ∷ []) rest after call → is_open n (Connect to (Some link) ∷ rest) ≡ true
      by (inl is) = opened (uses_link link n call (talk_at link rest is.rest call (subst (AreTalk link) is.are conversed.talk)) uses) (open_at rest (call ∷ is.rest) is.are)
      by (inr is) =
          let l = last_one (Shut link) is.rest after call is.others in
          opened (same_shut l.1) (open_at rest [] (sym (append-nil calls) ∙ ap (λ (r : List Call). calls ++ r) (sym l.0) ∙ sym is.are ∙ sym (append-nil rest)))

  shut : (n : ℕ) → is_open n whole ≡ false
  shut n =
      open_after-append n ((link == n) || false) calls (Shut link ∷ [])
      ∙ ap (λ (b : Bool). not (link == n) && b) (front_open link n ((link == n) || false) calls [] calls conversed.talk (sym (append-nil calls)))
      ∙ closes (link == n)
    where
      closes : (b : Bool) → (not b && (b || false)) ≡ false
      closes true = refl
      closes false = refl

  none : list_any serves whole ≡ false
  none = list_any-append serves calls (Shut link ∷ []) ∙ ap (λ (b : Bool). b || false) (serves_none link calls conversed.talk)

  waits : AtEachPause WaitsForOne whole
  waits [] after wants e = absurd (let same = head_same (Connect to (Some link)) (Pause wants) (calls ++ Shut link ∷ []) after e in cc)
  waits (first ∷ rest) after wants e = subst (λ (c : Call). WaitsForOne (c ∷ rest) wants) (head_same (Connect to (Some link)) first (calls ++ Shut link ∷ []) (rest ++ Pause wants ∷ after) e)
      (by (either_part calls (Shut link ∷ []) rest after (Pause wants) (tail_same (Connect to (Some link)) first (calls ++ Shut link ∷ []) (rest ++ Pause wants ∷ after) e)))
    where
      by : IsFirst calls (Shut link ∷ []) rest after (Pause wants) ⊎ IsSecond calls (Shut link ∷ []) rest after (Pause wants) → WaitsForOne (Connect to (Some link) ∷ rest) wants
      by (inl is) = (link, open_at rest (Pause wants ∷ is.rest) is.are, vain_behind link (Connect to (Some link) ∷ []) rest wants (conversed.waits rest is.rest wants is.are))
      by (inr is) = absurd (let l = last_one (Shut link) is.rest after (Pause wants) is.others in cc)

pub conversations_use_one_link : ConversationsUseOneLink
conversations_use_one_link to link calls conversed = record {
  connects = inr (ap (λ (l : List Target). to ∷ l) (goes_nowhere link calls conversed.talk));
  links = record { used = used to link calls conversed; shut = shut to link calls conversed; none = none to link calls conversed };
  waits = waits to link calls conversed;
}

-- ---- Without a conversation.

-- The one number that these calls give is the link's.
pub given_one : (to : Target) (link n : ℕ) (calls : List Call) → AreTalk link calls → is_given n (Connect to (Some link) ∷ (calls ++ Shut link ∷ [])) ≡ true → n ≡ link
given_one to link n calls talk given = sym (eqb-true link n (first (link == n) (gives_none calls talk) given))
  where
    gives_none : (calls : List Call) → AreTalk link calls → is_given n (calls ++ Shut link ∷ []) ≡ false
    gives_none [] talk = refl
    gives_none (Read m room answer ∷ calls) talk = gives_none calls talk.1
    gives_none (Write m offered answer ∷ calls) talk = gives_none calls talk.1
    gives_none (Pause wants ∷ calls) talk = gives_none calls talk.1
    gives_none (Connect to given ∷ calls) talk = absurd talk.0
    gives_none (Listen at given ∷ calls) talk = absurd talk.0
    gives_none (Accept listener answer ∷ calls) talk = absurd talk.0
    gives_none (Shut m ∷ calls) talk = absurd talk.0

    first : (a : Bool) → is_given n (calls ++ Shut link ∷ []) ≡ false → (a || is_given n (calls ++ Shut link ∷ [])) ≡ true → a ≡ true
    first true free any = refl
    first false free any = absurd (false≢true (sym free ∙ any))

pub no_calls_use : (to : Target) → UseOneLink to []
no_calls_use to = record {
  connects = inl refl;
  links = record { used = λ n before after call e uses. absurd (none_cons before after call e); shut = λ n. refl; none = refl };
  waits = λ before after wants e. absurd (none_cons before after (Pause wants) e);
}

-- a connect that gave no link
pub failed_use : (to : Target) → UseOneLink to (Connect to None ∷ [])
failed_use to = record {
  connects = inr refl;
  links = record { used = λ n before after call e uses. absurd (no_use n call (last_one (Connect to None) before after call e).1 uses); shut = λ n. refl; none = refl };
  waits = λ before after wants e. absurd (let same = (last_one (Connect to None) before after (Pause wants) e).1 in cc);
}
  where
    no_use : (n : ℕ) (call : Call) → call ≡ Connect to None → used_by call ≡ Some n → ⊥
    no_use n call same uses = (let e : used_by (Connect to None) ≡ Some n = sym (ap used_by same) ∙ uses in cc)
