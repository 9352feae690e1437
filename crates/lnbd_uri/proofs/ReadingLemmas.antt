-- A text is read in one way, and what is read means one place.
use Rattle.std.proofs.Common.{◌≡◌, ◌≢◌, ◌∙◌, ℕ, List, [], ◌∷◌, ◌++◌, Option, Some, None, All, ap, arith, codes, get_or, inl, inr, refl, subst, sym}
use Rattle.std.proofs.lemmas.List.Elements.{All-head, All-tail}
use Rattle.lnbd_model.specs.declared.target.Place.{Place}
use Rattle.lnbd_model.specs.declared.target.Target.{Target}
use Rattle.lnbd_model.specs.declared.target.Target.TheVariants.{Tcp, Unix}
use Rattle.lnbd_uri.specs.Address.{Reading, unknown, secured, tcp, unix, ReadsAs, Means, IsAddress}
use Rattle.lnbd_uri.specs.Parts.{Parts, IsSpelled, IsPortOf, authority, led_by, spelling, until_fragment, until_query}

-- what stands behind a mark is one part
led_by-once : (mark : ℕ) (x y : Option (List ℕ)) → led_by mark x ≡ led_by mark y → x ≡ y
led_by-once mark None None e = refl
led_by-once mark None (Some y) e = cc
led_by-once mark (Some x) None e = cc
led_by-once mark (Some x) (Some y) e = let same : x ≡ y = cc in ap Some same

-- a text is cut at the first of a mark in one way
cut_once : (mark : ℕ) (front other : List ℕ) (x y : Option (List ℕ)) → All (λ c. c ≢ mark) front → All (λ c. c ≢ mark) other
    → front ++ led_by mark x ≡ other ++ led_by mark y → (front ≡ other) × (x ≡ y)
cut_once mark [] [] x y none none' e = (refl, led_by-once mark x y e)
cut_once mark [] (b ∷ other) None y none none' e = cc
cut_once mark [] (b ∷ other) (Some x) y none none' e =
    let same : b ≡ mark = cc in absurd (All-head (λ c. c ≢ mark) b other none' same)
cut_once mark (a ∷ front) [] x None none none' e = cc
cut_once mark (a ∷ front) [] x (Some y) none none' e =
    let same : a ≡ mark = cc in absurd (All-head (λ c. c ≢ mark) a front none same)
cut_once mark (a ∷ front) (b ∷ other) x y none none' e =
    let heads : a ≡ b = cc in
    let tails : front ++ led_by mark x ≡ other ++ led_by mark y = cc in
    let rest = cut_once mark front other x y (All-tail (λ c. c ≢ mark) a front none) (All-tail (λ c. c ≢ mark) b other none') tails in
    (ap (λ c. c ∷ front) heads ∙ ap (λ xs. b ∷ xs) rest.0, rest.1)

abbrev parts : List ℕ → Option (List ℕ) → Option (List ℕ) → Option (List ℕ) → Option (List ℕ) → Parts
parts h p n q f = record { host = h; port = p; name = n; query = q; fragment = f }

-- parts that agree one by one
same_parts : (p q : Parts) → p.host ≡ q.host → p.port ≡ q.port → p.name ≡ q.name → p.query ≡ q.query → p.fragment ≡ q.fragment → p ≡ q
same_parts p q host port name query fragment =
    ap (λ x. parts x p.port p.name p.query p.fragment) host
    ∙ ap (λ x. parts q.host x p.name p.query p.fragment) port
    ∙ ap (λ x. parts q.host q.port x p.query p.fragment) name
    ∙ ap (λ x. parts q.host q.port q.name x p.fragment) query
    ∙ ap (λ x. parts q.host q.port q.name q.query x) fragment

-- a text behind a scheme has one list of parts
spelling_once : (scheme text : List ℕ) (p q : Parts) → IsSpelled scheme text p → IsSpelled scheme text q → spelling p ≡ spelling q → p ≡ q
spelling_once scheme text p q one two same =
    let at_fragment = cut_once 35 (until_fragment p) (until_fragment q) p.fragment q.fragment one.fragment two.fragment same in
    let at_query = cut_once 63 (until_query p) (until_query q) p.query q.query one.query two.query at_fragment.0 in
    let at_name = cut_once 47 (authority p) (authority q) p.name q.name one.name two.name at_query.0 in
    let at_port = cut_once 58 p.host q.host p.port q.port one.port two.port at_name.0 in
    same_parts p q at_port.0 at_port.1 at_name.1 at_query.1 at_fragment.1

-- the text has one byte at the place
at : (i : ℕ) (text front other rest rest' : List ℕ) → text ≡ front ++ rest → text ≡ other ++ rest' → get_or (front ++ rest) i 0 ≡ get_or (other ++ rest') i 0
at i text front other rest rest' e f = ap (λ t. get_or t i 0) (sym e ∙ f)

secured_not_tcp : (text : List ℕ) (p : Parts) → ReadsAs text secured → IsSpelled (codes "nbd://") text p → ⊥
secured_not_tcp text p (inl (rest, e)) s = let h : ◌≡◌ {A = ℕ} 115 58 = at 3 text (codes "nbds://") (codes "nbd://") rest (spelling p) e s.spelled in absurd (omega arith)
secured_not_tcp text p (inr (rest, e)) s = let h : ◌≡◌ {A = ℕ} 115 58 = at 3 text (codes "nbds+unix://") (codes "nbd://") rest (spelling p) e s.spelled in absurd (omega arith)

secured_not_unix : (text : List ℕ) (p : Parts) → ReadsAs text secured → IsSpelled (codes "nbd+unix://") text p → ⊥
secured_not_unix text p (inl (rest, e)) s = let h : ◌≡◌ {A = ℕ} 115 43 = at 3 text (codes "nbds://") (codes "nbd+unix://") rest (spelling p) e s.spelled in absurd (omega arith)
secured_not_unix text p (inr (rest, e)) s = let h : ◌≡◌ {A = ℕ} 115 43 = at 3 text (codes "nbds+unix://") (codes "nbd+unix://") rest (spelling p) e s.spelled in absurd (omega arith)

tcp_not_unix : (text : List ℕ) (p q : Parts) → IsSpelled (codes "nbd://") text p → IsSpelled (codes "nbd+unix://") text q → ⊥
tcp_not_unix text p q s t = let h : ◌≡◌ {A = ℕ} 58 43 = at 3 text (codes "nbd://") (codes "nbd+unix://") (spelling p) (spelling q) s.spelled t.spelled in absurd (omega arith)

unknown_not_secured : (text : List ℕ) → ReadsAs text unknown → ReadsAs text secured → ⊥
unknown_not_secured text none (inl s) = none.2 s
unknown_not_secured text none (inr s) = none.3 s

-- a text is read in one way
pub reading_once : (text : List ℕ) (r s : Reading) → ReadsAs text r → ReadsAs text s → r ≡ s
reading_once text unknown unknown h k = refl
reading_once text unknown secured h k = absurd (unknown_not_secured text h k)
reading_once text unknown (tcp q) h k = absurd (h.0 (spelling q, k.spelled))
reading_once text unknown (unix q) h k = absurd (h.1 (spelling q, k.spelled))
reading_once text secured unknown h k = absurd (unknown_not_secured text k h)
reading_once text secured secured h k = refl
reading_once text secured (tcp q) h k = absurd (secured_not_tcp text q h k)
reading_once text secured (unix q) h k = absurd (secured_not_unix text q h k)
reading_once text (tcp p) unknown h k = absurd (k.0 (spelling p, h.spelled))
reading_once text (tcp p) secured h k = absurd (secured_not_tcp text p k h)
reading_once text (tcp p) (tcp q) h k =
    let e = sym h.spelled ∙ k.spelled in let same : spelling p ≡ spelling q = cc in
    ap tcp (spelling_once (codes "nbd://") text p q h k same)
reading_once text (tcp p) (unix q) h k = absurd (tcp_not_unix text p q h k)
reading_once text (unix p) unknown h k = absurd (k.1 (spelling p, h.spelled))
reading_once text (unix p) secured h k = absurd (secured_not_unix text p k h)
reading_once text (unix p) (tcp q) h k = absurd (tcp_not_unix text q p k h)
reading_once text (unix p) (unix q) h k =
    let e = sym h.spelled ∙ k.spelled in let same : spelling p ≡ spelling q = cc in
    ap unix (spelling_once (codes "nbd+unix://") text p q h k same)

-- an address has one port
port_once : (digits : Option (List ℕ)) (m n : ℕ) → IsPortOf digits m → IsPortOf digits n → m ≡ n
port_once None m n h k = h ∙ sym k
port_once (Some d) m n h k = sym h.value ∙ k.value

-- what is read means one place
means_once : (r : Reading) (t u : Target) (m n : List ℕ) → Means r t m → Means r u n → (t ≡ u) × (m ≡ n)
means_once unknown t u m n h k = absurd h
means_once secured t u m n h k = absurd h
means_once (tcp p) (Tcp a i) (Tcp b j) m n h k =
    (ap (λ x. Tcp x i) (h.host_is ∙ sym k.host_is) ∙ ap (λ x. Tcp b x) (port_once p.port i j h.port_is k.port_is), h.name_is.decoded ∙ sym k.name_is.decoded)
means_once (tcp p) (Tcp a i) (Unix b) m n h k = absurd k
means_once (tcp p) (Unix a) u m n h k = absurd h
means_once (unix p) (Tcp a i) u m n h k = absurd h
means_once (unix p) (Unix a) (Tcp b j) m n h k = absurd k
means_once (unix p) (Unix a) (Unix b) m n h k =
    (ap Unix (h.path_is.decoded ∙ sym k.path_is.decoded), h.name_is.decoded ∙ sym k.name_is.decoded)

abbrev place : Target → List ℕ → Place
place t n = record { to = t; name = n }

-- a text is an address of one place
pub place_once : (text : List ℕ) (a b : Place) → IsAddress text a → IsAddress text b → a ≡ b
place_once text a b h k =
    let same = reading_once text h.reading k.reading h.reads k.reads in
    let moved : Means k.reading a.to a.name = subst (λ r. Means r a.to a.name) same h.means in
    let parts_same = means_once k.reading a.to b.to a.name b.name moved k.means in
    ap (λ t. place t a.name) parts_same.0 ∙ ap (λ n. place b.to n) parts_same.1
