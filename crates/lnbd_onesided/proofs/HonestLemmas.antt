-- Files that answer at once are honest.
use Rattle.std.proofs.Common.{◌≡◌, ℕ, ◌-◌, List, [], ◌∷◌, Bool, true, false, ◌&&◌, ◌==◌, cond, refl, ap, sym, subst, ◌∙◌, ◌++◌, arith, length, get_or, Option, Some, None, inl, inr}
use Rattle.std.specs.Option.{option_map}
use Rattle.std.proofs.lemmas.Grind.{common_steps}
use Rattle.std.proofs.lemmas.Bool.Decides.{nat_tests}
use Rattle.lnbd_model.specs.declared.kind.Kind.{Kind}
use Rattle.lnbd_model.specs.declared.kind.Kind.TheVariants.{Read}
use Rattle.lnbd_outcome.specs.Outcome.{Done}
use Rattle.lnbd_history.specs.Commands.{Command}
use Rattle.lnbd_asked.specs.Link.{Nobody}
use Rattle.lnbd_asked.specs.Honest.{has, covers, changes, Leaves}
use Rattle.lnbd_board.specs.Requests.{Request, Each, IsIn}
use Rattle.lnbd_onesided.specs.Dealt.{found, outcome_of, AreApart}
use Rattle.lnbd_onesided.specs.Honest.{IsRead, ReadsAreHonest, Makes, IsNoRead, Made, Begins, Then, ChangesAreHonest}
use Rattle.lnbd_onesided.proofs.DealtLemmas.{found_in, some_is}

-- what was found is in the list
record Is (asked : List Request) (link cookie : ℕ) (command : Command Nobody) : Type 0 where
  pub request : Request
  pub found_ : found asked link cookie ≡ Some request
  pub command_ : request.said.command ≡ command

is_found : (asked : List Request) (link cookie : ℕ) (command : Command Nobody) → option_map (λ (r : Request). r.said.command) (found asked link cookie) ≡ Some command
    → Is asked link cookie command
is_found asked link cookie command h = go (found asked link cookie) refl h
  where
    go : (o : Option Request) → found asked link cookie ≡ o → option_map (λ (r : Request). r.said.command) o ≡ Some command → Is asked link cookie command
    go None e h = absurd (cc)
    go (Some r) e h = record { request = r; found_ = e; command_ = some_is h }

found_each : (P : Request → Type 0) (asked : List Request) (link cookie : ℕ) (r : Request) → Each P asked → found asked link cookie ≡ Some r → P r
found_each P [] link cookie r each e = absurd (cc)
found_each P (x ∷ xs) link cookie r each e =
    elim ((x.link == link) && (x.cookie == cookie)) as (λ b. cond b (Some x) (found xs link cookie) ≡ Some r → P r) [
      | true ↦ λ h. subst P (some_is h) each.0
      | false ↦ λ h. found_each P xs link cookie r each.1 h
    ] e

read_covers : (command : Command Nobody) (p : ℕ) → command.kind ≡ Read → covers command p ≡ false
read_covers command p k = ap (λ (kind : Kind). changes kind && has command p) k

pub reads_are_honest : ReadsAreHonest
reads_are_honest file asked each = record {
  sizes = record { told = λ link size e. sym (some_is e); kept = refl };
  reads = λ link cookie asks bytes p e k d h u.
      let i = is_found asked link cookie asks e in
      let r = found_each (IsRead file) asked link cookie i.request each i.found_ in
      let o : i.request.said.outcome ≡ Done bytes = sym (ap outcome_of i.found_) ∙ d in
      subst (λ (c : Command Nobody). get_or bytes (p - c.offset) 0 ≡ get_or file p 0) i.command_ (r.tells bytes p o (ap (λ (c : Command Nobody). has c p) i.command_ ∙ h));
  writes = λ link cookie asks bytes p one d.
      let i = is_found asked link cookie asks one.asked in
      let r = found_each (IsRead file) asked link cookie i.request each i.found_ in
      absurd (no (sym one.here ∙ ap (λ (c : Command Nobody). covers c p) (sym i.command_) ∙ read_covers i.request.said.command p r.kind));
  rest = λ p u. refl;
  zeroes = λ link cookie asks bytes p e k d h z u. absurd (no (sym z));
}
  where
    no : true ≡ false → ⊥
    no e = cc

-- Changes, one after another.

record Stood (start : List ℕ) (asked : List Request) (now : List ℕ) : Type 0 where
  pub kept : length now ≡ length start
  pub none : (p : ℕ) → ((r : Request) → IsIn r asked → covers r.said.command p ≡ false) → get_or now p 0 ≡ get_or start p 0
  pub one : (p : ℕ) (r : Request) → IsIn r asked → covers r.said.command p ≡ true → ((x : Request) → IsIn x asked → covers x.said.command p ≡ true
      → (x.link ≡ r.link) × (x.cookie ≡ r.cookie)) → Leaves r.said.command p (get_or now p 0)

in_not_found : (x r : Request) (asked : List Request) → AreApart asked → IsIn x asked → found asked r.link r.cookie ≡ None → x.link ≡ r.link → x.cookie ≡ r.cookie → ⊥
in_not_found x r asked apart h none l c = no (sym (subst (λ (k : ℕ). found asked r.link k ≡ Some x) c (subst (λ (k : ℕ). found asked k x.cookie ≡ Some x) l (found_in x asked apart h))) ∙ none)
  where
    no : Some x ≡ None → ⊥
    no e = cc

stood_then : (start now now2 : List ℕ) (r : Request) (asked : List Request) → AreApart (r ∷ asked) → Stood start asked now → Makes r.said.command now now2 → Stood start (r ∷ asked) now2
stood_then start now now2 r asked apart s m = record {
  kept = m.kept ∙ s.kept;
  none = λ p h. m.outside p (h r (inl refl)) ∙ s.none p (λ x i. h x (inr i));
  one = λ p x i c only. go p x i c only (covers r.said.command p) refl;
}
  where
    go : (p : ℕ) (x : Request) → IsIn x (r ∷ asked) → covers x.said.command p ≡ true → ((y : Request) → IsIn y (r ∷ asked) → covers y.said.command p ≡ true
        → (y.link ≡ x.link) × (y.cookie ≡ x.cookie)) →
        (b : Bool) → covers r.said.command p ≡ b → Leaves x.said.command p (get_or now2 p 0)
    go p x (inl same) c only b e = subst (λ (y : Request). Leaves y.said.command p (get_or now2 p 0)) same (m.inside p (ap (λ (y : Request). covers y.said.command p) same ∙ c))
    go p x (inr i) c only true e = absurd (let o = only r (inl refl) e in in_not_found x r asked apart.1 i apart.0 (sym o.0) (sym o.1))
    go p x (inr i) c only false e = subst (λ (byte : ℕ). Leaves x.said.command p byte) (sym (m.outside p e)) (s.one p x i c (λ y j d. only y (inr j) d))

-- The latest stands last.

found_front : (xs : List Request) (r : Request) (link cookie : ℕ) → found (xs ++ r ∷ []) link cookie ≡ None → found xs link cookie ≡ None
found_front [] r link cookie h = refl
found_front (x ∷ xs) r link cookie h =
    elim ((x.link == link) && (x.cookie == cookie)) as (λ b. cond b (Some x) (found (xs ++ r ∷ []) link cookie) ≡ None → cond b (Some x) (found xs link cookie) ≡ None) [
      | true ↦ λ e. absurd (cc)
      | false ↦ λ e. found_front xs r link cookie e
    ] h

found_last : (xs : List Request) (r : Request) (link cookie : ℕ) → found (xs ++ r ∷ []) link cookie ≡ None → ((r.link == link) && (r.cookie == cookie)) ≡ false
found_last [] r link cookie h =
    elim ((r.link == link) && (r.cookie == cookie)) as (λ b. cond b (Some r) (found [] link cookie) ≡ None → b ≡ false) [ true ↦ λ e. absurd (cc) | false ↦ λ e. refl ] h
found_last (x ∷ xs) r link cookie h =
    elim ((x.link == link) && (x.cookie == cookie)) as (λ b. cond b (Some x) (found (xs ++ r ∷ []) link cookie) ≡ None → ((r.link == link) && (r.cookie == cookie)) ≡ false) [
      | true ↦ λ e. absurd (cc)
      | false ↦ λ e. found_last xs r link cookie e
    ] h

both_are : (a b c d : ℕ) → ((a == b) && (c == d)) ≡ false → ((b == a) && (d == c)) ≡ false
both_are a b c d h = grind (arith, nat_tests, common_steps)

apart_last : (xs : List Request) (r : Request) → AreApart (xs ++ r ∷ []) → AreApart (r ∷ xs)
apart_last [] r h = (refl, tt)
apart_last (x ∷ xs) r h =
    let k = apart_last xs r h.1 in
    let e = both_are r.link x.link r.cookie x.cookie (found_last xs r x.link x.cookie h.0) in
    (rw e k.0, (found_front xs r x.link x.cookie h.0, k.1))

in_last : (xs : List Request) (r y : Request) → IsIn y (xs ++ r ∷ []) → IsIn y (r ∷ xs)
in_last [] r y h = h
in_last (x ∷ xs) r y (inl same) = inr (inl same)
in_last (x ∷ xs) r y (inr h) = go (in_last xs r y h)
  where
    go : IsIn y (r ∷ xs) → IsIn y (r ∷ x ∷ xs)
    go (inl same) = inl same
    go (inr i) = inr (inr i)

in_turn : (xs : List Request) (r y : Request) → IsIn y (r ∷ xs) → IsIn y (xs ++ r ∷ [])
in_turn [] r y h = h
in_turn (x ∷ xs) r y (inl same) = inr (in_turn xs r y (inl same))
in_turn (x ∷ xs) r y (inr (inl same)) = inl same
in_turn (x ∷ xs) r y (inr (inr i)) = inr (in_turn xs r y (inr i))

stood_turned : (start now : List ℕ) (r : Request) (asked : List Request) → Stood start (r ∷ asked) now → Stood start (asked ++ r ∷ []) now
stood_turned start now r asked s = record {
  kept = s.kept;
  none = λ p h. s.none p (λ x i. h x (in_turn asked r x i));
  one = λ p x i c only. s.one p x (in_last asked r x i) c (λ y j d. only y (in_turn asked r y j) d);
}

stood : (start now : List ℕ) (asked : List Request) → AreApart asked → Made start asked now → Stood start asked now
stood start now asked apart (Begins _ _ none same) = rw (none, same) (record { kept = refl; none = λ p h. refl; one = λ p r i. absurd i })
stood start now2 asked2 apart (Then asked _ now _ r made makes is) =
    let k = apart_last asked r (rw is at apart) in
    rw is (stood_turned start now2 r asked (stood_then start now now2 r asked k (stood start now asked k.1 made) makes))

in_each : (P : Request → Type 0) (asked : List Request) (r : Request) → Each P asked → IsIn r asked → P r
in_each P [] r each i = absurd i
in_each P (x ∷ xs) r each (inl same) = subst P same each.0
in_each P (x ∷ xs) r each (inr i) = in_each P xs r each.1 i

-- what was found is in the list
found_is_in : (asked : List Request) (link cookie : ℕ) (r : Request) → found asked link cookie ≡ Some r → IsIn r asked
found_is_in [] link cookie r e = absurd (cc)
found_is_in (x ∷ xs) link cookie r e =
    elim ((x.link == link) && (x.cookie == cookie)) as (λ b. cond b (Some x) (found xs link cookie) ≡ Some r → IsIn r (x ∷ xs)) [
      | true ↦ λ h. inl (some_is h)
      | false ↦ λ h. inr (found_is_in xs link cookie r h)
    ] e

pub changes_are_honest : ChangesAreHonest
changes_are_honest start now asked apart unread made =
    let s = stood start now asked apart made in
    record {
      sizes = record { told = λ link size e. sym (some_is e); kept = s.kept };
      reads = λ link cookie asks bytes p e k d h u.
          let i = is_found asked link cookie asks e in
          absurd (found_each IsNoRead asked link cookie i.request unread i.found_ (ap (λ (c : Command Nobody). c.kind) i.command_ ∙ k));
      writes = λ link cookie asks bytes p one d.
          let i = is_found asked link cookie asks one.asked in
          let here = found_is_in asked link cookie i.request i.found_ in
          let again = found_in i.request asked apart here in
          subst (λ (c : Command Nobody). Leaves c p (get_or now p 0)) i.command_ (s.one p i.request here (ap (λ (c : Command Nobody). covers c p) i.command_ ∙ one.here)
          (λ x j c.
          let o = one.only x.link x.cookie x.said.command (ap (option_map (λ (r : Request). r.said.command)) (found_in x asked apart j)) c in
          let q = one.only i.request.link i.request.cookie i.request.said.command (ap (option_map (λ (r : Request). r.said.command)) again) (ap (λ
          (c : Command Nobody). covers c p) i.command_ ∙ one.here) in
          (o.0 ∙ sym q.0, o.1 ∙ sym q.1)));
      rest = λ p u. s.none p (λ r i. u r.link r.cookie r.said.command (ap (option_map (λ (x : Request). x.said.command)) (found_in r asked apart i)));
      zeroes = λ link cookie asks bytes p e k d h z u. absurd (no (sym z));
    }
  where
    no : true ≡ false → ⊥
    no e = cc
