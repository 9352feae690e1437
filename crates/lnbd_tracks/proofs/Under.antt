-- Requests under a link and a cookie.
use Rattle.std.proofs.Common.{◌≡◌, ◌≢◌, ℕ, Bool, true, false, ◌&&◌, List, [], ◌∷◌, ◌++◌, cond, refl, ap, sym, ◌∙◌, ◌==◌, ◌⊎◌, inl, inr}
use Rattle.std.proofs.lemmas.Bool.{eq-eqb, ne_eqb}
use Rattle.std.proofs.lemmas.List.{append-nil}
use Rattle.lnbd_history.specs.Commands.{Command}
use Rattle.lnbd_asked.specs.Link.{Nobody}
use Rattle.lnbd_board.specs.declared.ticket.Ticket.{Ticket}
use Rattle.lnbd_board.specs.Requests.{Said, Request, request, waiting, asking}
use Rattle.lnbd_tracks.specs.Tracks.{under}

pub under-append : (link cookie : ℕ) (xs ys : List Request) → under link cookie (xs ++ ys) ≡ under link cookie xs ++ under link cookie ys
under-append link cookie [] ys = refl
under-append link cookie (x ∷ xs) ys =
    let e = under-append link cookie xs ys in
    elim ((x.link == link) && (x.cookie == cookie)) as (λ b. cond b (x ∷ under link cookie (xs ++ ys)) (under link cookie (xs ++ ys)) ≡ cond b (x ∷ under link cookie xs) (under link cookie xs) ++ under link cookie ys)
    [ true ↦ ap (λ l. x ∷ l) e | false ↦ e ]

pub same_key : (link cookie : ℕ) → ((link == link) && (cookie == cookie)) ≡ true
same_key link cookie = ap (λ (b : Bool). b && (cookie == cookie)) (eq-eqb link link refl) ∙ eq-eqb cookie cookie refl

and_false : (a : Bool) → (a && false) ≡ false
and_false true = refl
and_false false = refl

-- another link, or another cookie
abbrev pub Differs : (link cookie other another : ℕ) → Type 0
Differs link cookie other another = (link ≢ other) ⊎ (cookie ≢ another)

other_key : (link cookie other another : ℕ) → Differs link cookie other another → ((link == other) && (cookie == another)) ≡ false
other_key link cookie other another (inl h) = ap (λ (b : Bool). b && (cookie == another)) (ne_eqb link other h)
other_key link cookie other another (inr h) = ap (λ (b : Bool). (link == other) && b) (ne_eqb cookie another h) ∙ and_false (link == other)

one_here : (link cookie : ℕ) (by : Ticket) (said : Said) (rs : List Request) → under link cookie (request link cookie by said ∷ rs) ≡ request link cookie by said ∷ under link cookie rs
one_here link cookie by said rs = ap (λ (b : Bool). cond b (request link cookie by said ∷ under link cookie rs) (under link cookie rs)) (same_key link cookie)

one_other : (link cookie other another : ℕ) (by : Ticket) (said : Said) (rs : List Request) → Differs link cookie other another → under other another (request link cookie by said ∷ rs) ≡ under other another rs
one_other link cookie other another by said rs d = ap (λ (b : Bool). cond b (request link cookie by said ∷ under other another rs) (under other another rs)) (other_key link cookie other another d)

-- the one request under a link and a cookie, among the others
pub record IsFound (r : Request) (xs : List Request) : Type 0 where
  pub front : List Request
  pub back : List Request
  pub is : xs ≡ front ++ r ∷ back

pub found : (link cookie : ℕ) (r : Request) (xs : List Request) → under link cookie xs ≡ r ∷ [] → IsFound r xs
found link cookie r [] e = absurd (cc)
found link cookie r (x ∷ xs) e =
    elim ((x.link == link) && (x.cookie == cookie)) as (λ b. cond b (x ∷ under link cookie xs) (under link cookie xs) ≡ r ∷ [] → IsFound r (x ∷ xs)) [
      | true ↦ λ k. let same : x ≡ r = cc in record { front = []; back = xs; is = ap (λ y. y ∷ xs) same }
      | false ↦ λ k. let rest = found link cookie r xs k in record { front = x ∷ rest.front; back = rest.back; is = ap (λ l. x ∷ l) rest.is }
    ] e

no_end : {A : Type 0} (xs : List A) (x : A) (ys : List A) → xs ++ x ∷ ys ≡ [] → ⊥
no_end [] x ys h = absurd (cc)
no_end (y ∷ xs) x ys h = absurd (cc)

-- it is alone
alone : {A : Type 0} (xs : List A) (x y : A) (ys : List A) → xs ++ x ∷ ys ≡ y ∷ [] → (xs ≡ []) × (ys ≡ [])
alone [] x y ys h = (refl, cc)
alone (z ∷ xs) x y ys h = absurd (no_end xs x ys (cc))

-- What it came to has changed.
pub changed_here : (link cookie : ℕ) (by : Ticket) (a b : Said) (front back : List Request) →
    under link cookie (front ++ request link cookie by a ∷ back) ≡ request link cookie by a ∷ [] → under link cookie (front ++ request link cookie by b ∷ back) ≡ request link cookie by b ∷ []
changed_here link cookie by a b front back e =
    let split : under link cookie front ++ request link cookie by a ∷ under link cookie back ≡ request link cookie by a ∷ [] =
    ap (λ l. under link cookie front ++ l) (sym (one_here link cookie by a back)) ∙ (sym (under-append link cookie front (request link cookie by a ∷ back)) ∙ e) in
    let none = alone (under link cookie front) (request link cookie by a) (request link cookie by a) (under link cookie back) split in
    under-append link cookie front (request link cookie by b ∷ back)
    ∙ ap (λ l. l ++ under link cookie (request link cookie by b ∷ back)) none.0
    ∙ one_here link cookie by b back
    ∙ ap (λ l. request link cookie by b ∷ l) none.1

pub changed_beside : (link cookie other another : ℕ) (by : Ticket) (a b : Said) (front back : List Request) → Differs link cookie other another →
    under other another (front ++ request link cookie by b ∷ back) ≡ under other another (front ++ request link cookie by a ∷ back)
changed_beside link cookie other another by a b front back d =
    under-append other another front (request link cookie by b ∷ back)
    ∙ ap (λ l. under other another front ++ l) (one_other link cookie other another by b back d ∙ sym (one_other link cookie other another by a back d))
    ∙ sym (under-append other another front (request link cookie by a ∷ back))

-- A request more.
pub asked_here : (link cookie : ℕ) (by : Ticket) (command : Command Nobody) (xs : List Request) → under link cookie xs ≡ [] → under link cookie (asking link cookie by command xs) ≡ request link cookie by (waiting command) ∷ []
asked_here link cookie by command xs none =
    under-append link cookie xs (request link cookie by (waiting command) ∷ [])
    ∙ ap (λ l. l ++ under link cookie (request link cookie by (waiting command) ∷ [])) none
    ∙ one_here link cookie by (waiting command) []

pub asked_beside : (link cookie other another : ℕ) (by : Ticket) (command : Command Nobody) (xs : List Request) → Differs link cookie other another → under other another (asking link cookie by command xs) ≡ under other another xs
asked_beside link cookie other another by command xs d =
    under-append other another xs (request link cookie by (waiting command) ∷ [])
    ∙ ap (λ l. under other another xs ++ l) (one_other link cookie other another by (waiting command) [] d)
    ∙ append-nil (under other another xs)
