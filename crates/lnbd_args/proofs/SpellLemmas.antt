-- The walk over the words finds the parts that they spell, and only those.
use Rattle.std.proofs.Common.{◌≡◌, ◌∙◌, ◌⊎◌, inl, inr, ⊎_elim, ℕ, Bool, true, false, List, [], ◌∷◌, ◌++◌, map, length, Option, Some, None, codes, refl, sym, ap, true≢false, subst}
use Rattle.std.specs.Prelude.{nat_lt, ⊤}
use Rattle.std.specs.Str.{bytes_eq}
use Rattle.std.specs.Cmp.Lexicographic.{same_text}
use borrow.Author.Tests.{ltb-true, lt-ltb}
use Rattle.clap.specs.Lexer.{long_of, short_of}
use Rattle.clap.specs.Walk.{attached_value}
use Rattle.lnbd_args.specs.Words.{Rule, Word, Part, flag, value, place, rule_named, rule_lettered, long, short, IsDashed, IsEnded, IsShort, Spells, Spelled}
use Rattle.lnbd_args.proofs.Scan.{Class, stop, flagged, valued, opens, plain, bad, by_found, class_of, cons, scan, stepped, is_ascii_flags}
use Rattle.lnbd_args.specs.Clap.{are_fair, is_fair}
use Rattle.lnbd_args.proofs.LawLemmas.{Fits, named_name, named_self}
use Rattle.lnbd_args.proofs.FaceLemmas.{alone_long, attached_at_once, attached_is, attached_none, fair_flags, long_alone, long_value, plain_face, plain_is, short_face, short_is, value_long_of}

none_some : {X : Type 0} (x : X) → ◌≡◌ {A = Option X} None (Some x) → ⊥
none_some x e = absurd (cc)

some_is : {X : Type 0} (x y : X) → Some x ≡ Some y → x ≡ y
some_is x y e = cc

-- no value is empty
abbrev pub AreFilled : List Part → Type 0
AreFilled [] = ⊤
AreFilled (flag n ∷ parts) = AreFilled parts
AreFilled (value n v ∷ parts) = (nat_lt 0 (length v) ≡ true) × AreFilled parts
AreFilled (place w ∷ parts) = AreFilled parts

uncons : (p : Part) (o : Option (List Part)) (parts : List Part) → cons p o ≡ Some parts → (rest : List Part) × (o ≡ Some rest) × (parts ≡ p ∷ rest)
uncons p None parts e = absurd (none_some parts e)
uncons p (Some rest) parts e = (rest, refl, sym (some_is _ _ e))

-- ---- what a class says of its word

abbrev Says : List Rule → Word → Class → Type 0
Says rs w stop = w ≡ codes "--"
Says rs w (flagged n) = Spells rs (w ∷ []) (flag n)
Says rs w (valued n v) = nat_lt 0 (length v) ≡ true → Spells rs (w ∷ []) (value n v)
Says rs w (opens n) = (v : Word) → (IsDashed v → ⊥) → nat_lt 0 (length v) ≡ true → Spells rs (w ∷ v ∷ []) (value n v)
Says rs w plain = IsDashed w → ⊥
Says rs w bad = ⊤

module _ (rs : List Rule) (fits : Fits rs) where
  says_long : (w name : Word) (v : Option Word) → long_of w ≡ Some (name, v) → Says rs w (by_found (rule_named rs name) v)
  says_long w name v l = go (rule_named rs name) refl
    where
      by_kind : (r : Rule) → rule_named rs name ≡ Some r → (t : Bool) → r.has_value ≡ t → (u : Option Word) → v ≡ u → Says rs w (by_found (Some r) u)
      by_kind r n true t None u =
          let same = named_name rs name r n in
          rw t (λ x plain filled. (
            r,
            refl,
            t,
            ltb-true 0 (length x) filled,
            inl (
              named_self rs name r n,
              inl (
                ap (λ y. y ∷ x ∷ []) (long_alone w name (l ∙ ap (λ o. Some (name, o)) u) ∙ ap long (sym same)),
                plain,
              ),
            ),
          ))
      by_kind r n true t (Some x) u =
          let same = named_name rs name r n in
          rw t (λ filled. (
            r,
            refl,
            t,
            ltb-true 0 (length x) filled,
            inl (
              named_self rs name r n,
              inr (
                  ap (λ y. y ∷ []) (long_value w name x (l ∙ ap (λ o. Some (name, o)) u) ∙ ap (λ y. long y ++ (codes "=" ++ x)) (sym same))),
            ),
          ))
      by_kind r n false t None u =
          let same = named_name rs name r n in
          rw t (r, named_self rs name r n, t, ap (λ y. y ∷ []) (long_alone w name (l ∙ ap (λ o. Some (name, o)) u) ∙ ap long (sym same)))
      by_kind r n false t (Some x) u = rw t tt

      go : (o : Option Rule) → rule_named rs name ≡ o → Says rs w (by_found o v)
      go None n = tt
      go (Some r) n = by_kind r n r.has_value refl v refl

  says_short : (w : Word) (x : ℕ) (rest : Word) → short_of w ≡ Some (x ∷ rest) → Says rs w (by_found (rule_lettered rs x) (attached_value rest))
  says_short w x rest s = go (rule_lettered rs x) refl
    where
      by_value : (r : Rule) → rule_lettered rs x ≡ Some r → (u : Option Word) → attached_value rest ≡ u → Says rs w (by_found (Some r) u)
      by_value r n None u =
          let known = fits.letters x r n in
          rw known.1 (λ v plain filled. (
            r,
            refl,
            known.1,
            ltb-true 0 (length v) filled,
            inr (
              x,
              n,
              inl (
                ap (λ y. y ∷ v ∷ []) (short_is w x rest s ∙ ap (λ y. 45 ∷ x ∷ y) (attached_none rest u)),
                plain,
              ),
            ),
          ))
      by_value r n (Some v) u =
          let known = fits.letters x r n in
          rw known.1 (λ filled. ⊎_elim
          (λ joined. (r, refl, known.1, ltb-true 0 (length v) filled, inr (x, n, inr (inl (ap (λ y. y ∷ []) (short_is w x rest s ∙ ap (λ y. 45 ∷ x ∷ y) joined))))))
          (λ once. (r, refl, known.1, ltb-true 0 (length v) filled, inr (x, n, inr (inr (ap (λ y. y ∷ []) (short_is w x rest s ∙ ap (λ y. 45 ∷ x ∷ y) once.0), λ h. once.2 h.0 h.1)))))
          (attached_is rest v u))

      go : (o : Option Rule) → rule_lettered rs x ≡ o → Says rs w (by_found o (attached_value rest))
      go None n = tt
      go (Some r) n = by_value r n (attached_value rest) refl

  says : (w : Word) → (bytes_eq w (45 ∷ 45 ∷ []) ≡ false → is_fair w ≡ true) → Says rs w (class_of rs w)
  says w fair = go (bytes_eq w (45 ∷ 45 ∷ [])) refl
    where
      by_short : bytes_eq w (45 ∷ 45 ∷ []) ≡ false → long_of w ≡ None → (o : Option Word) → short_of w ≡ o → is_ascii_flags o ≡ true → Says rs w (class_of rs w)
      by_short e l None s a = rw (e, l, s) (plain_is w e l s (fair e))
      by_short e l (Some []) s a = rw (e, l, s) tt
      by_short e l (Some (x ∷ rest)) s a = rw (e, l, s) (says_short w x rest s)

      by_long : bytes_eq w (45 ∷ 45 ∷ []) ≡ false → (o : Option (Word × Option Word)) → long_of w ≡ o → Says rs w (class_of rs w)
      by_long e None l = by_short e l (short_of w) refl (fair_flags w (fair e))
      by_long e (Some p) l = rw (e, l) (says_long w p.0 p.1 l)

      go : (t : Bool) → bytes_eq w (45 ∷ 45 ∷ []) ≡ t → Says rs w (class_of rs w)
      go true e = rw e (same_text w (45 ∷ 45 ∷ []) (sym e))
      go false e = by_long e (long_of w) refl

  -- ---- what the walk finds is spelled

  next_part : (front rest : List Word) (p : Part) (ps : List Part) → Spells rs front p → Spelled rs rest ps → Spelled rs (front ++ rest) (p ∷ ps)
  next_part front rest p ps s h = inl (front, rest, refl, s, h)

  abbrev IdleSpelled : List Word → Type 0
  IdleSpelled ws = (parts : List Part) → scan rs ws None ≡ Some parts → AreFilled parts → Spelled rs ws parts

  -- the value that an option waits for stands first
  abbrev WaitSpelled : List Word → Type 0
  WaitSpelled ws = (id : Word) (parts : List Part) → scan rs ws (Some id) ≡ Some parts → AreFilled parts
      → (v : Word) × (rest : List Word) × (ps : List Part) × (ws ≡ v ∷ rest) × (parts ≡ value id v ∷ ps) × (IsDashed v → ⊥) × (nat_lt 0 (length v) ≡ true) × Spelled rs rest ps

  idle_step : (w : Word) (ws : List Word) → IdleSpelled ws → WaitSpelled ws → (c : Class) → Says rs w c → (parts : List Part)
      → stepped c w ws (scan rs ws) None ≡ Some parts → AreFilled parts → Spelled rs (w ∷ ws) parts
  idle_step w ws ih wait stop says parts e filled = ended parts (ws, ap (λ x. x ∷ ws) says, sym (some_is _ _ e))
    where
      ended : (parts : List Part) → IsEnded (w ∷ ws) parts → Spelled rs (w ∷ ws) parts
      ended [] h = inr h
      ended (p ∷ ps) h = inr h
  idle_step w ws ih wait (flagged n) says parts e filled =
      let h = uncons (flag n) (scan rs ws None) parts e in
      subst (Spelled rs (w ∷ ws)) (sym h.2) (next_part (w ∷ []) ws (flag n) h.0 says (ih h.0 h.1 (subst AreFilled h.2 filled)))
  idle_step w ws ih wait (valued n v) says parts e filled =
      let h = uncons (value n v) (scan rs ws None) parts e in
      let all : AreFilled (value n v ∷ h.0) = subst AreFilled h.2 filled in
      subst (Spelled rs (w ∷ ws)) (sym h.2) (next_part (w ∷ []) ws (value n v) h.0 (says all.0) (ih h.0 h.1 all.1))
  idle_step w ws ih wait (opens n) says parts e filled =
      let h = wait n parts e filled in
      subst (λ x. Spelled rs (w ∷ x) parts) (sym h.3) (subst (Spelled rs (w ∷ h.0 ∷ h.1)) (sym h.4)
      (next_part (w ∷ h.0 ∷ []) h.1 (value n h.0) h.2 (says h.0 h.5 h.6) h.7))
  idle_step w ws ih wait plain says parts e filled =
      let h = uncons (place w) (scan rs ws None) parts e in
      subst (Spelled rs (w ∷ ws)) (sym h.2) (next_part (w ∷ []) ws (place w) h.0 (refl, says) (ih h.0 h.1 (subst AreFilled h.2 filled)))
  idle_step w ws ih wait bad says parts e filled = absurd (none_some parts e)

  wait_step : (w : Word) (ws : List Word) → IdleSpelled ws → (c : Class) → Says rs w c → (id : Word) (parts : List Part)
      → stepped c w ws (scan rs ws) (Some id) ≡ Some parts → AreFilled parts
      → (v : Word) × (rest : List Word) × (ps : List Part) × (w ∷ ws ≡ v ∷ rest) × (parts ≡ value id v ∷ ps) × (IsDashed v → ⊥) × (nat_lt 0 (length v) ≡ true) × Spelled rs rest ps
  wait_step w ws ih stop says id parts e filled = absurd (none_some parts e)
  wait_step w ws ih (flagged n) says id parts e filled = absurd (none_some parts e)
  wait_step w ws ih (valued n v) says id parts e filled = absurd (none_some parts e)
  wait_step w ws ih (opens n) says id parts e filled = absurd (none_some parts e)
  wait_step w ws ih bad says id parts e filled = absurd (none_some parts e)
  wait_step w ws ih plain says id parts e filled =
      let h = uncons (value id w) (scan rs ws None) parts e in
      let all : AreFilled (value id w ∷ h.0) = subst AreFilled h.2 filled in
      (w, ws, h.0, refl, h.2, says, all.0, ih h.0 h.1 all.1)

  fair_here : (w : Word) (ws : List Word) → are_fair (w ∷ ws) ≡ true → bytes_eq w (45 ∷ 45 ∷ []) ≡ false → (is_fair w ≡ true) × (are_fair ws ≡ true)
  fair_here w ws fair e = go (is_fair w) refl
    where
      go : (t : Bool) → is_fair w ≡ t → (is_fair w ≡ true) × (are_fair ws ≡ true)
      go true t = (t, rw (e, t) at fair)
      go false t = absurd (true≢false (sym (rw (e, t) at fair)))

  sound : (ws : List Word) → are_fair ws ≡ true → IdleSpelled ws × WaitSpelled ws
  sound [] fair = (λ parts e filled. subst (Spelled rs []) (some_is _ _ e) (inl refl), λ id parts e filled. absurd (none_some parts e))
  sound (w ∷ ws) fair = go (bytes_eq w (45 ∷ 45 ∷ [])) refl (λ f. sound ws f)
    where
      go : (t : Bool) → bytes_eq w (45 ∷ 45 ∷ []) ≡ t → (are_fair ws ≡ true → IdleSpelled ws × WaitSpelled ws) → IdleSpelled (w ∷ ws) × WaitSpelled (w ∷ ws)
      go true t ih =
          let is = same_text w (45 ∷ 45 ∷ []) (sym t) in
          (λ parts e filled. ended parts (ws, ap (λ x. x ∷ ws) is, sym (some_is _ _ (rw t at e))), λ id parts e filled. absurd (none_some parts (rw t at e)))
        where
          ended : (parts : List Part) → IsEnded (w ∷ ws) parts → Spelled rs (w ∷ ws) parts
          ended [] h = inr h
          ended (p ∷ ps) h = inr h
      go false t ih =
          let f = fair_here w ws fair t in
          let h = ih f.1 in
          (idle_step w ws h.0 h.1 (class_of rs w) (says w (λ _. f.0)), wait_step w ws h.0 (class_of rs w) (says w (λ _. f.0)))

  -- ---- what is spelled is found

  class_flag : (name : Word) (r : Rule) → rule_named rs name ≡ Some r → r.has_value ≡ false → class_of rs (long name) ≡ flagged name
  class_flag name r n f =
      let plain = fits.plain name r n in
      let face = alone_long name plain.0 plain.1 in
      rw (face.0, face.1, n, f) (ap flagged (named_name rs name r n))

  class_opens : (name : Word) (r : Rule) → rule_named rs name ≡ Some r → r.has_value ≡ true → class_of rs (long name) ≡ opens name
  class_opens name r n f =
      let plain = fits.plain name r n in
      let face = alone_long name plain.0 plain.1 in
      rw (face.0, face.1, n, f) (ap opens (named_name rs name r n))

  class_valued : (name v : Word) (r : Rule) → rule_named rs name ≡ Some r → r.has_value ≡ true → class_of rs (long name ++ (codes "=" ++ v)) ≡ valued name v
  class_valued name v r n f =
      let plain = fits.plain name r n in
      let face = value_long_of name v plain.0 plain.1 in
      rw (face.0, face.1, n, f) (ap (λ x. valued x v) (named_name rs name r n))

  class_letter_opens : (l : ℕ) (r : Rule) → rule_lettered rs l ≡ Some r → class_of rs (short l) ≡ opens r.name
  class_letter_opens l r n =
      let face = short_face l [] (fits.marks l r n).0 in
      let known = (fits.letters l r n).1 in
      rw (face.0, face.1, face.2, n, known) refl

  class_letter_joined : (l : ℕ) (v : Word) (r : Rule) → rule_lettered rs l ≡ Some r → class_of rs (45 ∷ l ∷ 61 ∷ v) ≡ valued r.name v
  class_letter_joined l v r n =
      let face = short_face l (61 ∷ v) (fits.marks l r n).0 in
      let known = (fits.letters l r n).1 in
      rw (face.0, face.1, face.2, n, known) refl

  class_letter_attached : (l : ℕ) (v : Word) (r : Rule) → rule_lettered rs l ≡ Some r → nat_lt 0 (length v) ≡ true → ((more : Word) → v ≡ 61 ∷ more → ⊥)
      → class_of rs (45 ∷ l ∷ v) ≡ valued r.name v
  class_letter_attached l v r n filled once =
      let face = short_face l v (fits.marks l r n).0 in
      let known = (fits.letters l r n).1 in
      rw (face.0, face.1, face.2, n, attached_at_once v filled once, known) refl

  class_plain : (w : Word) → (IsDashed w → ⊥) → class_of rs w ≡ plain
  class_plain w h = let face = plain_face w h in rw (face.0, face.1, face.2) refl

  fair_cons : (w : Word) (ws : List Word) → is_fair w ≡ true → are_fair ws ≡ true → are_fair (w ∷ ws) ≡ true
  fair_cons w ws f h = go (bytes_eq w (45 ∷ 45 ∷ [])) refl
    where
      go : (t : Bool) → bytes_eq w (45 ∷ 45 ∷ []) ≡ t → are_fair (w ∷ ws) ≡ true
      go true t = rw t refl
      go false t = rw (t, f) h

  abbrev pub IsFound : List Word → List Part → Type 0
  IsFound ws parts = (scan rs ws None ≡ Some parts) × (are_fair ws ≡ true)

  found_next : (w v : Word) (ws : List Word) (name : Word) (parts : List Part) → class_of rs w ≡ opens name → is_fair w ≡ true → (IsDashed v → ⊥) → IsFound ws parts
      → IsFound (w ∷ v ∷ ws) (value name v ∷ parts)
  found_next w v ws name parts c f bare h =
      (rw (c, class_plain v bare, h.0) refl, fair_cons w (v ∷ ws) f (fair_cons v ws (plain_face v bare).3 h.1))

  found_value : (w v : Word) (ws : List Word) (name : Word) (parts : List Part) → class_of rs w ≡ valued name v → is_fair w ≡ true → IsFound ws parts
      → IsFound (w ∷ ws) (value name v ∷ parts)
  found_value w v ws name parts c f h = (rw (c, h.0) refl, fair_cons w ws f h.1)

  found_ended : (ws : List Word) (parts : List Part) → IsEnded ws parts → IsFound ws parts
  found_ended ws parts (rest, is, all) = subst (λ x. IsFound x parts) (sym is) (subst (IsFound (codes "--" ∷ rest)) (sym all) (refl, refl))

  found_long : (r : Rule) (v : Word) (front rest : List Word) (parts : List Part) → rule_named rs r.name ≡ Some r → r.has_value ≡ true
      → ((front ≡ long r.name ∷ v ∷ []) × (IsDashed v → ⊥)) ⊎ (front ≡ (long r.name ++ (codes "=" ++ v)) ∷ []) → IsFound rest parts → IsFound (front ++ rest) (value r.name v ∷ parts)
  found_long r v front rest parts n f (inl h) found =
      subst (λ x. IsFound (x ++ rest) (value r.name v ∷ parts)) (sym h.0) (found_next (long r.name) v rest r.name parts (class_opens r.name r n f) refl h.1 found)
  found_long r v front rest parts n f (inr h) found =
      subst (λ x. IsFound (x ++ rest) (value r.name v ∷ parts)) (sym h) (found_value (long r.name ++ (codes "=" ++ v)) v rest r.name parts (class_valued r.name v r n f) refl found)

  found_short : (r : Rule) (l : ℕ) (v : Word) (front rest : List Word) (parts : List Part) → rule_lettered rs l ≡ Some r → nat_lt 0 (length v) ≡ true
      → IsShort l v front → IsFound rest parts → IsFound (front ++ rest) (value r.name v ∷ parts)
  found_short r l v front rest parts n filled (inl h) found =
      subst (λ x. IsFound (x ++ rest) (value r.name v ∷ parts)) (sym h.0) (found_next (short l) v rest r.name parts (class_letter_opens l r n) (fits.marks l r n).1 h.1 found)
  found_short r l v front rest parts n filled (inr (inl h)) found =
      subst (λ x. IsFound (x ++ rest) (value r.name v ∷ parts)) (sym h) (found_value (45 ∷ l ∷ 61 ∷ v) v rest r.name parts (class_letter_joined l v r n) (fits.marks l r n).1 found)
  found_short r l v front rest parts n filled (inr (inr h)) found =
      subst (λ x. IsFound (x ++ rest) (value r.name v ∷ parts)) (sym h.0)
      (found_value (45 ∷ l ∷ v) v rest r.name parts (class_letter_attached l v r n filled (λ more is. h.1 (more, is))) (fits.marks l r n).1 found)

  found_part : (front rest : List Word) (p : Part) (parts : List Part) → Spells rs front p → IsFound rest parts → IsFound (front ++ rest) (p ∷ parts)
  found_part front rest (flag name) parts (r, n, f, is) found =
      subst (λ x. IsFound (x ++ rest) (flag name ∷ parts)) (sym is) (rw (class_flag name r n f, found.0) refl, fair_cons (long name) rest refl found.1)
  found_part front rest (value name v) parts (r, same, f, filled, inl (n, h)) found =
      subst (λ x. IsFound (front ++ rest) (value x v ∷ parts)) same (found_long r v front rest parts n f h found)
  found_part front rest (value name v) parts (r, same, f, filled, inr (l, n, h)) found =
      subst (λ x. IsFound (front ++ rest) (value x v ∷ parts)) same (found_short r l v front rest parts n (lt-ltb 0 (length v) filled) h found)
  found_part front rest (place w) parts (is, bare) found =
      subst (λ x. IsFound (x ++ rest) (place w ∷ parts)) (sym is) (rw (class_plain w bare, found.0) refl, fair_cons w rest (plain_face w bare).3 found.1)

  pub complete : (parts : List Part) (ws : List Word) → Spelled rs ws parts → IsFound ws parts
  complete [] ws (inl h) = subst (λ x. IsFound x []) (sym h) (refl, refl)
  complete [] ws (inr h) = found_ended ws [] h
  complete (p ∷ parts) ws (inl (front, rest, is, s, h)) = subst (λ x. IsFound x (p ∷ parts)) (sym is) (found_part front rest p parts s (complete parts rest h))
  complete (p ∷ parts) ws (inr h) = found_ended ws (p ∷ parts) h

  pub spelled_from : (ws : List Word) (parts : List Part) → are_fair ws ≡ true → scan rs ws None ≡ Some parts → AreFilled parts → Spelled rs ws parts
  spelled_from ws parts fair e filled = (sound ws fair).0 parts e filled

  -- each option that is spelled has its rule
  abbrev pub HasRule : Part → Type 0
  HasRule (flag n) = (r : Rule) × (rule_named rs n ≡ Some r) × (r.has_value ≡ false)
  HasRule (value n v) = (r : Rule) × (rule_named rs n ≡ Some r) × (r.has_value ≡ true) × (nat_lt 0 (length v) ≡ true)
  HasRule (place w) = ⊤

  abbrev pub HaveRules : List Part → Type 0
  HaveRules [] = ⊤
  HaveRules (p ∷ parts) = HasRule p × HaveRules parts

  rule_of_part : (front : List Word) (p : Part) → Spells rs front p → HasRule p
  rule_of_part front (flag n) (r, e, f, is) = (r, e, f)
  rule_of_part front (value name v) (r, same, f, filled, inl (n, h)) = (r, ap (rule_named rs) (sym same) ∙ n, f, lt-ltb 0 (length v) filled)
  rule_of_part front (value name v) (r, same, f, filled, inr (l, n, h)) = (r, ap (rule_named rs) (sym same) ∙ (fits.letters l r n).0, f, lt-ltb 0 (length v) filled)
  rule_of_part front (place w) h = tt

  rules_of_places : (ws : List Word) → HaveRules (map place ws)
  rules_of_places [] = tt
  rules_of_places (w ∷ ws) = (tt, rules_of_places ws)

  pub have_rules : (parts : List Part) (ws : List Word) → Spelled rs ws parts → HaveRules parts
  have_rules [] ws h = tt
  have_rules (p ∷ parts) ws (inl (front, rest, is, s, h)) = (rule_of_part front p s, have_rules parts rest h)
  have_rules (p ∷ parts) ws (inr (rest, is, all)) = subst HaveRules (sym all) (rules_of_places rest)
