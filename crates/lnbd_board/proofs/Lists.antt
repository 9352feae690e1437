-- Lemmas on lists of requests.
use Rattle.std.proofs.Common.{◌≡◌, ◌≢◌, ℕ, ◌+◌, ◌<◌, List, [], ◌∷◌, ◌++◌, true, false, cond, refl, ap, inl, inr, sym, subst, ◌∙◌, arith, ◌==◌}
use Rattle.std.proofs.lemmas.Grind.{common_steps}
use Rattle.std.proofs.lemmas.Bool.Decides.{nat_tests}
use Rattle.lnbd_history.specs.Commands.{Command}
use Rattle.lnbd_asked.specs.Link.{Nobody}
use Rattle.lnbd_asked.specs.Honest.{covers}
use Rattle.lnbd_board.specs.declared.ticket.Ticket.{Ticket}
use Rattle.lnbd_board.specs.declared.ticket.Ticket.TheVariants as ticket
use Rattle.lnbd_board.specs.Requests.{Said, Request, own, is_of, is_slice, reads, over, reads_over, over_said, reads_over_said, is_waiting, unanswered, said_unanswered, Each, waiting, done_with, request, asking, Suits, Answers, IsIn}

pub eq_true : (i j : ℕ) → (j == i) ≡ true → j ≡ i
eq_true i j h = grind (arith, nat_tests, common_steps)

pub eq_false : (i j : ℕ) → (j == i) ≡ false → j ≢ i
eq_false i j h = grind (arith, nat_tests, common_steps)

pub is_same : (n : ℕ) → (n == n) ≡ true
is_same n = grind (arith, nat_tests, common_steps)

pub not_same : (n m : ℕ) → m ≢ n → (n == m) ≡ false
not_same n m h = grind (arith, nat_tests, common_steps)

module _ {A : Type 0} (P : A → Type 0) where
  pub Each-append : (xs ys : List A) → Each P xs → Each P ys → Each P (xs ++ ys)
  Each-append [] ys h k = k
  Each-append (x ∷ xs) ys h k = (h.0, Each-append xs ys h.1 k)

  pub Each-front : (xs ys : List A) → Each P (xs ++ ys) → Each P xs
  Each-front [] ys h = tt
  Each-front (x ∷ xs) ys h = (h.0, Each-front xs ys h.1)

  pub Each-back : (xs ys : List A) → Each P (xs ++ ys) → Each P ys
  Each-back [] ys h = h
  Each-back (x ∷ xs) ys h = Each-back xs ys h.1

module _ {A : Type 0} {P : A → Type 0} {Q : A → Type 0} where
  pub Each-map : ((x : A) → P x → Q x) → (xs : List A) → Each P xs → Each Q xs
  Each-map f [] h = tt
  Each-map f (x ∷ xs) h = (f x h.0, Each-map f xs h.1)

pub in_each : (P : Request → Type 0) (r : Request) (xs : List Request) → IsIn r xs → Each P xs → P r
in_each P r [] h k = absurd h
in_each P r (x ∷ xs) (inl e) k = subst P e k.0
in_each P r (x ∷ xs) (inr h) k = in_each P r xs h k.1

-- Own lists.

pub own-append : (n : ℕ) (xs ys : List Request) → own n (xs ++ ys) ≡ own n xs ++ own n ys
own-append n [] ys = refl
own-append n (x ∷ xs) ys =
    let e = own-append n xs ys in
    elim (is_of n x.ticket) as (λ b. cond b (x.said ∷ own n (xs ++ ys)) (own n (xs ++ ys)) ≡ cond b (x.said ∷ own n xs) (own n xs) ++ own n ys)
    [ true ↦ ap (λ l. x.said ∷ l) e | false ↦ e ]

own_one : (n : ℕ) (x : Request) (xs : List Request) → is_of n x.ticket ≡ true → own n (x ∷ xs) ≡ x.said ∷ own n xs
own_one n x xs e = rw e refl

own_none : (n : ℕ) (x : Request) (xs : List Request) → is_of n x.ticket ≡ false → own n (x ∷ xs) ≡ own n xs
own_none n x xs e = rw e refl

-- a request of a slice, among others
pub own_among : (n link cookie : ℕ) (said : Said) (front back : List Request) → own n (front ++ request link cookie (ticket.Slice n) said ∷ back) ≡ own n front ++ said ∷ own n back
own_among n link cookie said front back = own-append n front _ ∙ ap (λ l. own n front ++ l) (own_one n (request link cookie (ticket.Slice n) said) back (is_same n))

pub own_beside : (n m link cookie : ℕ) (said : Said) (front back : List Request) → m ≢ n → own m (front ++ request link cookie (ticket.Slice n) said ∷ back) ≡ own m front ++ own m back
own_beside n m link cookie said front back h = own-append m front _ ∙ ap (λ l. own m front ++ l) (own_none m (request link cookie (ticket.Slice n) said) back (not_same n m h))

pub own_asking : (n link cookie : ℕ) (command : Command Nobody) (xs : List Request) → own n (asking link cookie (ticket.Slice n) command xs) ≡ own n xs ++ waiting command ∷ []
own_asking n link cookie command xs = own_among n link cookie (waiting command) xs []

nothing_more : {A : Type 0} (xs : List A) → xs ++ [] ≡ xs
nothing_more xs = grind (arith, common_steps)

pub own_asking_other : (n m link cookie : ℕ) (command : Command Nobody) (xs : List Request) → m ≢ n → own m (asking link cookie (ticket.Slice n) command xs) ≡ own m xs
own_asking_other n m link cookie command xs h = own_beside n m link cookie (waiting command) xs [] h ∙ nothing_more (own m xs)

pub own_answers_other : (n m : ℕ) (buf : List ℕ) (old new : List Request) → m ≢ n → Answers (ticket.Slice n) buf old new → own m new ≡ own m old
own_answers_other n m buf old new h a =
    rw (a.waited, a.now) (own_beside n m a.link a.cookie (done_with a.command buf) a.front a.back h ∙ sym (own_beside n m a.link a.cookie (waiting a.command) a.front a.back h))

-- of a list of answered ones and one that waits, only the last waits
pub record IsLast (front back : List Said) (command : Command Nobody) (xs : List Said) (last : Command Nobody) : Type 0 where
  pub before : front ≡ xs
  pub same : command ≡ last
  pub none : back ≡ []

no_end : (xs : List Said) (x : Said) (ys : List Said) → xs ++ x ∷ ys ≡ [] → ⊥
no_end [] x ys h = absurd (cc)
no_end (y ∷ xs) x ys h = absurd (cc)

pub last_waits : (front back : List Said) (command : Command Nobody) (xs : List Said) (last : Command Nobody) → said_unanswered xs ≡ 0 →
    front ++ waiting command ∷ back ≡ xs ++ waiting last ∷ [] → IsLast front back command xs last
last_waits [] back command [] last z h =
    let first : waiting command ≡ waiting last = cc in
    record { before = refl; same = ap (λ (s : Said). s.command) first; none = cc }
last_waits (f ∷ front) back command [] last z h = absurd (no_end front (waiting command) back (cc))
last_waits [] back command (x ∷ xs) last z h =
    let first : x ≡ waiting command = cc in
    absurd (let w : is_waiting x ≡ true = rw first refl in let k = rw w at z in omega (arith, k))
last_waits (f ∷ front) back command (x ∷ xs) last z h =
    let first : f ≡ x = cc in
    let k = last_waits front back command xs last (omega (arith, z)) (cc) in
    record { before = rw (first, k.before) refl; same = k.same; none = k.none }

-- the answer to the request that waits
pub own_answers : (n : ℕ) (buf : List ℕ) (old new : List Request) (xs : List Said) (last : Command Nobody) → Answers (ticket.Slice n) buf old new → own n old ≡ xs ++ waiting last ∷ [] → said_unanswered xs ≡ 0 →
    (own n new ≡ xs ++ done_with last buf ∷ []) × Suits last buf
own_answers n buf old new xs last a e z =
    let was : own n a.front ++ waiting a.command ∷ own n a.back ≡ xs ++ waiting last ∷ [] =
    sym (own_among n a.link a.cookie (waiting a.command) a.front a.back) ∙ (ap (own n) (sym a.waited) ∙ e) in
    let k = last_waits (own n a.front) (own n a.back) a.command xs last z was in
    (ap (own n) a.now ∙ (own_among n a.link a.cookie (done_with a.command buf) a.front a.back ∙ rw (k.before, k.same, k.none) refl), subst (λ c. Suits c buf) k.same a.suits)

-- a request of no slice is no slice's own
of_none : (n : ℕ) (by : Ticket) → is_slice by ≡ false → is_of n by ≡ false
of_none n (ticket.Slice m) h = absurd (cc)
of_none n ticket.Extents h = refl
of_none n ticket.Flush h = refl

own_out : (m link cookie : ℕ) (by : Ticket) (said : Said) (front back : List Request) → is_slice by ≡ false → own m (front ++ request link cookie by said ∷ back) ≡ own m front ++ own m back
own_out m link cookie by said front back h = own-append m front _ ∙ ap (λ l. own m front ++ l) (own_none m (request link cookie by said) back (of_none m by h))

pub own_asking_none : (m link cookie : ℕ) (by : Ticket) (command : Command Nobody) (xs : List Request) → is_slice by ≡ false → own m (asking link cookie by command xs) ≡ own m xs
own_asking_none m link cookie by command xs h = own_out m link cookie by (waiting command) xs [] h ∙ nothing_more (own m xs)

pub own_answers_none : (m : ℕ) (by : Ticket) (buf : List ℕ) (old new : List Request) → is_slice by ≡ false → Answers by buf old new → own m new ≡ own m old
own_answers_none m by buf old new h a =
    rw (a.waited, a.now) (own_out m a.link a.cookie by (done_with a.command buf) a.front a.back h ∙ sym (own_out m a.link a.cookie by (waiting a.command) a.front a.back h))

-- what holds of a request whatever it came to
pub each_answers : (P : Ticket → Command Nobody → Type 0) (by : Ticket) (buf : List ℕ) (old new : List Request) → Answers by buf old new → Each (λ r. P r.ticket r.said.command) old → Each (λ r. P r.ticket r.said.command) new
each_answers P by buf old new a h =
    let h2 : Each (λ (r : Request). P r.ticket r.said.command) (a.front ++ request a.link a.cookie by (waiting a.command) ∷ a.back) = subst (λ l. Each (λ (r : Request). P r.ticket r.said.command) l) a.waited h in
    let b = Each-back (λ (r : Request). P r.ticket r.said.command) a.front _ h2 in
    subst (λ l. Each (λ (r : Request). P r.ticket r.said.command) l) (sym a.now) (Each-append (λ (r : Request). P r.ticket r.said.command) a.front _ (Each-front (λ (r : Request). P r.ticket r.said.command) a.front _ h2) (b.0, b.1))

-- Counts.

unanswered-append : (xs ys : List Request) → unanswered (xs ++ ys) ≡ unanswered xs + unanswered ys
unanswered-append [] ys = omega arith
unanswered-append (x ∷ xs) ys = let e = unanswered-append xs ys in omega (arith, e)

pub unanswered_asking : (n link cookie : ℕ) (command : Command Nobody) (xs : List Request) → unanswered (asking link cookie (ticket.Slice n) command xs) ≡ unanswered xs + 1
unanswered_asking n link cookie command xs = unanswered-append xs _

pub unanswered_answers : (n : ℕ) (buf : List ℕ) (old new : List Request) → Answers (ticket.Slice n) buf old new → unanswered new + 1 ≡ unanswered old
unanswered_answers n buf old new a =
    let o : unanswered old ≡ unanswered a.front + (1 + unanswered a.back) = ap unanswered a.waited ∙ unanswered-append a.front _ in
    let m : unanswered new ≡ unanswered a.front + (0 + unanswered a.back) = ap unanswered a.now ∙ unanswered-append a.front _ in
    omega (arith, o, m)

-- a request of no slice doesn't count
one_of_none : (link cookie : ℕ) (by : Ticket) (said : Said) (back : List Request) → is_slice by ≡ false → unanswered (request link cookie by said ∷ back) ≡ unanswered back
one_of_none link cookie by said back h = rw h (omega arith)

pub unanswered_asking_none : (link cookie : ℕ) (by : Ticket) (command : Command Nobody) (xs : List Request) → is_slice by ≡ false → unanswered (asking link cookie by command xs) ≡ unanswered xs
unanswered_asking_none link cookie by command xs h =
    let e = unanswered-append xs (request link cookie by (waiting command) ∷ []) in
    let o = one_of_none link cookie by (waiting command) [] h in
    omega (arith, e, o)

pub unanswered_answers_none : (by : Ticket) (buf : List ℕ) (old new : List Request) → is_slice by ≡ false → Answers by buf old new → unanswered new ≡ unanswered old
unanswered_answers_none by buf old new h a =
    let o : unanswered old ≡ unanswered a.front + unanswered a.back = ap unanswered a.waited ∙ (unanswered-append a.front _ ∙ ap (λ m. unanswered a.front + m) (one_of_none a.link a.cookie by (waiting a.command) a.back h)) in
    let m : unanswered new ≡ unanswered a.front + unanswered a.back = ap unanswered a.now ∙ (unanswered-append a.front _ ∙ ap (λ m. unanswered a.front + m) (one_of_none a.link a.cookie by (done_with a.command buf) a.back h)) in
    m ∙ sym o

said_unanswered-append : (xs ys : List Said) → said_unanswered (xs ++ ys) ≡ said_unanswered xs + said_unanswered ys
said_unanswered-append [] ys = omega arith
said_unanswered-append (x ∷ xs) ys = let e = said_unanswered-append xs ys in omega (arith, e)

-- a request that waits is among its own
pub answers_wait : (n : ℕ) (buf : List ℕ) (old new : List Request) → Answers (ticket.Slice n) buf old new → 0 < said_unanswered (own n old)
answers_wait n buf old new a =
    let o : said_unanswered (own n old) ≡ said_unanswered (own n a.front) + (1 + said_unanswered (own n a.back)) =
    ap (λ l. said_unanswered (own n l)) a.waited ∙ (ap said_unanswered (own_among n a.link a.cookie (waiting a.command) a.front a.back) ∙ said_unanswered-append (own n a.front) _) in
    omega (arith, o)

-- Over a position.

pub over_own : (p i : ℕ) (xs : List Request) → Each (λ r. covers r.said.command p ≡ true → is_of i r.ticket ≡ true) xs → over p xs ≡ over_said p (own i xs)
over_own p i [] h = refl
over_own p i (x ∷ xs) h =
    let e = over_own p i xs h.1 in
    elim (is_of i x.ticket) as (λ b. (covers x.said.command p ≡ true → b ≡ true) → cond (covers x.said.command p) (x.said ∷ over p xs) (over p xs) ≡ over_said p (cond b (x.said ∷ own i xs) (own i xs))) [
      | true ↦ λ k. rw e refl
      | false ↦ λ k. elim (covers x.said.command p) as (λ c. (c ≡ true → false ≡ true) → cond c (x.said ∷ over p xs) (over p xs) ≡ over_said p (own i xs)) [ true ↦ λ f. absurd (cc (f refl)) | false ↦ λ f. e ] k
    ] h.0

pub reads_over_own : (p i : ℕ) (xs : List Request) → Each (λ r. reads r.said.command p ≡ true → is_of i r.ticket ≡ true) xs → reads_over p xs ≡ reads_over_said p (own i xs)
reads_over_own p i [] h = refl
reads_over_own p i (x ∷ xs) h =
    let e = reads_over_own p i xs h.1 in
    elim (is_of i x.ticket) as (λ b. (reads x.said.command p ≡ true → b ≡ true) → cond (reads x.said.command p) (x.said ∷ reads_over p xs) (reads_over p xs) ≡ reads_over_said p (cond b (x.said ∷ own i xs) (own i xs))) [
      | true ↦ λ k. rw e refl
      | false ↦ λ k. elim (reads x.said.command p) as (λ c. (c ≡ true → false ≡ true) → cond c (x.said ∷ reads_over p xs) (reads_over p xs) ≡ reads_over_said p (own i xs)) [ true ↦ λ f. absurd (cc (f refl)) | false ↦ λ f. e ] k
    ] h.0

pub over_none : (p : ℕ) (xs : List Request) → Each (λ r. covers r.said.command p ≡ false) xs → over p xs ≡ []
over_none p [] h = refl
over_none p (x ∷ xs) h = rw (h.0, over_none p xs h.1) refl

pub reads_over_none : (p : ℕ) (xs : List Request) → Each (λ r. reads r.said.command p ≡ false) xs → reads_over p xs ≡ []
reads_over_none p [] h = refl
reads_over_none p (x ∷ xs) h = rw (h.0, reads_over_none p xs h.1) refl

-- none is over it
pub none_covers : (p : ℕ) (r : Request) (xs : List Request) → over p xs ≡ [] → IsIn r xs → covers r.said.command p ≡ false
none_covers p r [] h k = absurd k
none_covers p r (x ∷ xs) h (inl e) =
    subst (λ (q : Request). covers q.said.command p ≡ false) e
    (elim (covers x.said.command p) as (λ b. cond b (x.said ∷ over p xs) (over p xs) ≡ [] → b ≡ false) [ true ↦ λ f. absurd (cc (f)) | false ↦ λ f. refl ] h)
none_covers p r (x ∷ xs) h (inr k) =
    elim (covers x.said.command p) as (λ b. cond b (x.said ∷ over p xs) (over p xs) ≡ [] → covers r.said.command p ≡ false)
    [ true ↦ λ f. absurd (cc (f)) | false ↦ λ f. none_covers p r xs f k ] h

-- none reads it
pub none_reads : (p : ℕ) (r : Request) (xs : List Request) → reads_over p xs ≡ [] → IsIn r xs → reads r.said.command p ≡ false
none_reads p r [] none there = absurd there
none_reads p r (x ∷ xs) none there =
    elim (reads x.said.command p) as (λ b. reads x.said.command p ≡ b → cond b (x.said ∷ reads_over p xs) (reads_over p xs) ≡ [] → reads r.said.command p ≡ false) [
      | true ↦ λ is k. absurd (cc (k))
      | false ↦ λ is k. elim there [ inl same ↦ ap (λ (y : Request). reads y.said.command p) (sym same) ∙ is | inr more ↦ none_reads p r xs k more ]
    ] refl none

-- exactly one is over it
pub record OneOver (p : ℕ) (x : Said) (xs : List Request) : Type 0 where
  pub request : Request
  pub within : IsIn request xs
  pub is : request.said ≡ x
  pub here : covers request.said.command p ≡ true
  pub only : (r : Request) → IsIn r xs → covers r.said.command p ≡ true → r ≡ request

one_first : (p : ℕ) (x y : Said) (r : Request) (xs : List Request) → covers r.said.command p ≡ true → r.said ∷ over p xs ≡ x ∷ [] → OneOver p x (r ∷ xs)
one_first p x y r xs here h =
    let none : over p xs ≡ [] = cc in
    let is : r.said ≡ x = cc in
    record {
      request = r;
      within = inl refl;
      is = is;
      here = here;
      only = only none;
    }
  where
    only : over p xs ≡ [] → (q : Request) → IsIn q (r ∷ xs) → covers q.said.command p ≡ true → q ≡ r
    only none q (inl e) c = sym e
    only none q (inr k) c = absurd (let f = none_covers p q xs none k in cc)

one_later : (p : ℕ) (x : Said) (r : Request) (xs : List Request) → covers r.said.command p ≡ false → OneOver p x xs → OneOver p x (r ∷ xs)
one_later p x r xs not_here o = record { request = o.request; within = inr o.within; is = o.is; here = o.here; only = only }
  where
    only : (q : Request) → IsIn q (r ∷ xs) → covers q.said.command p ≡ true → q ≡ o.request
    only q (inl e) c = absurd (let f : covers q.said.command p ≡ false = subst (λ (z : Request). covers z.said.command p ≡ false) e not_here in cc)
    only q (inr k) c = o.only q k c

pub one_over : (p : ℕ) (x : Said) (xs : List Request) → over p xs ≡ x ∷ [] → OneOver p x xs
one_over p x [] h = absurd (cc)
one_over p x (r ∷ xs) h =
    elim (covers r.said.command p) as (λ b. covers r.said.command p ≡ b → cond b (r.said ∷ over p xs) (over p xs) ≡ x ∷ [] → OneOver p x (r ∷ xs)) [
      | true ↦ λ e f. one_first p x x r xs e f
      | false ↦ λ e f. one_later p x r xs e (one_over p x xs f)
    ] refl h

-- the one request of a slice
pub own_first : (n : ℕ) (x : Said) (xs : List Request) → own n xs ≡ x ∷ [] → (r : Request) × (IsIn r xs × (r.said ≡ x))
own_first n x [] h = absurd (cc)
own_first n x (r ∷ rs) h =
    elim (is_of n r.ticket) as (λ b. cond b (r.said ∷ own n rs) (own n rs) ≡ x ∷ [] → (q : Request) × (IsIn q (r ∷ rs) × (q.said ≡ x))) [
      | true ↦ λ k. (r, (inl refl, cc))
      | false ↦ λ k. let o = own_first n x rs k in (o.0, (inr o.1.0, o.1.1))
    ] h
