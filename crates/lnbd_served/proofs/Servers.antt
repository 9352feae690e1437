-- A server that does what its steps say is honest.
use Rattle.std.proofs.Common.{◌≡◌, ℕ, ◌+◌, ◌-◌, ◌<◌, ◌≤◌, Bool, true, false, List, [], ◌∷◌, length, take, drop, get_or, Option, Some, None, refl, ap, sym, subst, ◌∙◌, arith, ◌⊎◌, inl, inr, zero, suc, if◌then◌else◌, nat_lt, ◌&&◌}
use Rattle.std.proofs.lemmas.List.{get_or-take, get_or-drop, length-take, length-drop}
use Rattle.std.proofs.lemmas.Bool.Decides.{nat_tests}
use Rattle.lnbd_model.specs.declared.export.Extent.{Extent}
use Rattle.lnbd_model.specs.declared.kind.Kind.{Kind}
use Rattle.lnbd_model.specs.declared.kind.Kind.TheVariants as kind
use Rattle.lnbd_records.specs.Numbers.{has_bit}
use Rattle.lnbd_extents.specs.Lists.{flags_at}
use Rattle.lnbd_extents.specs.Positions.{within}
use Rattle.lnbd_history.specs.Commands.{Command}
use Rattle.lnbd_asked.specs.Link.{Nobody}
use Rattle.lnbd_asked.specs.Transcript.{Dealt, state_zero}
use Rattle.lnbd_asked.specs.Honest.{Done, Untouched, OnlyOne, Leaves, has, covers, changes}
use Rattle.lnbd_export.specs.Export.{Export, TellsTruly}
use Rattle.lnbd_export.specs.Requests.{Reply, Refused, Content, Status, reply, refusal, refused_or, told, effect, is_change, most}
use Rattle.lnbd_export.specs.Requests as replied
use Rattle.lnbd_export.specs.Statuses.{statuses, status_of}
use Rattle.lnbd_export.proofs.Exact.{statuses_exact}
use Rattle.lnbd_export.proofs.Allowed.{in_range}
use Rattle.lnbd_served.specs.Steps.{Taken, Step, Took, Gave, Has, after, AllRight}
use Rattle.lnbd_served.specs.Follows.{IsSame, Follows, ServersAreHonest}
use Rattle.lnbd_served.proofs.Effects.{effect_truly, effect_alike, effect_beside, effect_over, refusal_same}

flags_if : (b : Bool) (flags some : ℕ) (one other : Option ℕ) → (one ≡ Some flags → other ≡ Some flags) → (if b then Some some else one) ≡ Some flags → (if b then Some some else other) ≡ Some flags
flags_if true flags some one other h e = e
flags_if false flags some one other h e = h e

-- flags told within some of the descriptors are told by all of them
front_flags : (m j : ℕ) (es : List Extent) (flags : ℕ) → flags_at (take m es) j ≡ Some flags → flags_at es j ≡ Some flags
front_flags zero j es flags e = cc
front_flags (suc m) j [] flags e = cc
front_flags (suc m) j (first ∷ more) flags e =
    flags_if (nat_lt j first.length) flags first.flags (flags_at (take m more) (j - first.length)) (flags_at more (j - first.length)) (front_flags m (j - first.length) more flags) e

-- a reply that was given was right over the export after some first steps
record Made (start : Export) (link cookie : ℕ) (given : Reply) (steps : List Step) : Type 0 where
  taken : Taken
  before : List Step
  part : (step : Step) → Has step before → Has step steps
  right : AllRight start before
  was : Has (Took link taken) steps
  cookie_ : taken.request.cookie ≡ cookie
  is : given ≡ reply taken.agreed (after start before) taken.request

abbrev link_of : Step → ℕ
link_of (Took l t) = l
link_of (Gave l c r) = l

abbrev cookie_of : Step → ℕ
cookie_of (Took l t) = 0
cookie_of (Gave l c r) = c

abbrev given_of : Step → Reply
given_of (Took l t) = replied.Done
given_of (Gave l c r) = r

abbrev taken_of : Taken → Step → Taken
taken_of d (Took l t) = t
taken_of d (Gave l c r) = d

abbrev is_took : Step → Bool
is_took (Took l t) = true
is_took (Gave l c r) = false

differ : (one other : Step) → one ≡ other → is_took one ≡ true → is_took other ≡ false → ⊥
differ one other e t f = let c : true ≡ false = sym t ∙ ap is_took e ∙ f in cc

module _ (start : Export) where
  later : (link cookie : ℕ) (given : Reply) (step : Step) (steps : List Step) → Made start link cookie given steps → Made start link cookie given (step ∷ steps)
  later link cookie given step steps m = record { taken = m.taken; before = m.before; part = λ s h. inr (m.part s h); right = m.right; was = inr m.was; cookie_ = m.cookie_; is = m.is }

  made : (steps : List Step) (link cookie : ℕ) (given : Reply) → AllRight start steps → Has (Gave link cookie given) steps → Made start link cookie given steps
  made [] link cookie given right h = elim h [ ]
  made (Took l t ∷ steps) link cookie given right (inl e) = absurd (differ _ _ e refl refl)
  made (Took l t ∷ steps) link cookie given right (inr h) = later link cookie given (Took l t) steps (made steps link cookie given right.1 h)
  made (Gave l c r ∷ steps) link cookie given right (inr h) = later link cookie given (Gave l c r) steps (made steps link cookie given right.1 h)
  made (Gave l c r ∷ steps) link cookie given right (inl e) = record {
    taken = right.0.taken;
    before = steps;
    part = λ s h. inr h;
    right = right.1;
    was = inr (subst (λ n. Has (Took n right.0.taken) steps) (ap link_of e) right.0.was);
    cookie_ = right.0.cookie_ ∙ ap cookie_of e;
    is = sym (ap given_of e) ∙ right.0.is;
  }

  module _ (is : TellsTruly start) where
    truly : (steps : List Step) → AllRight start steps → TellsTruly (after start steps)
    truly [] right = is
    truly (Took l t ∷ steps) right = effect_truly t.agreed t.request t.payload (after start steps) right.0 (truly steps right.1)
    truly (Gave l c r ∷ steps) right = truly steps right.1

    alike : (steps : List Step) → AllRight start steps → (length (after start steps).bytes ≡ length start.bytes) × ((after start steps).read_only ≡ start.read_only)
    alike [] right = (refl, refl)
    alike (Took l t ∷ steps) right = let e = effect_alike t.agreed t.request t.payload (after start steps) right.0 in let a = alike steps right.1 in (e.0 ∙ a.0, e.1 ∙ a.1)
    alike (Gave l c r ∷ steps) right = alike steps right.1

    abbrev Free : ℕ → List Step → Type 0
    Free p steps = (link : ℕ) (t : Taken) (k : Kind) → Has (Took link t) steps → t.request.kind ≡ Some k → is_change k ≡ true → within (t.request.offset, t.request.length) p ≡ false

    -- a byte that no request taken covers
    beside : (p : ℕ) (steps : List Step) → AllRight start steps → Free p steps → (get_or (after start steps).bytes p 0 ≡ get_or start.bytes p 0) × (get_or (after start steps).zeros p false ≡ get_or start.zeros p false)
    beside p [] right free = (refl, refl)
    beside p (Gave l c r ∷ steps) right free = beside p steps right.1 (λ link t k h. free link t k (inr h))
    beside p (Took l t ∷ steps) right free =
        let rest = beside p steps right.1 (λ link u k h. free link u k (inr h)) in
        let here = effect_beside t.agreed t.request t.payload (after start steps) right.0 p (truly steps right.1) (λ k e c. free l t k (inl refl) e c) in
        (here.0 ∙ rest.0, here.1 ∙ rest.1)

    -- the request doesn't change the byte, or is this command
    abbrev Elsewhere : Command Nobody → ℕ → Taken → Type 0
    Elsewhere asks p u = ((k : Kind) → u.request.kind ≡ Some k → is_change k ≡ true → within (u.request.offset, u.request.length) p ≡ false) ⊎ IsSame u asks

    -- what this command leaves at the byte
    abbrev Left : Command Nobody → ℕ → Export → Type 0
    Left asks p export = Leaves asks p (get_or export.bytes p 0)

    -- a request that is the command leaves it, unless it is refused
    leaves : (asks : Command Nobody) (p : ℕ) (t : Taken) (steps : List Step) → AllRight start (Took 0 t ∷ steps) → IsSame t asks → has asks p ≡ true → refusal t.agreed (after start steps) t.request ≡ None → Left asks p (effect t.agreed t.request t.payload (after start steps))
    leaves asks p t steps right same in_it ok =
        let there : within (t.request.offset, t.request.length) p ≡ true = ap (λ (o : ℕ). within (o, t.request.length) p) same.offset ∙ ap (λ (n : ℕ). within (asks.offset, n) p) same.length_ ∙ in_it in
        let e = effect_over t.agreed t.request t.payload (after start steps) right.0 p ok there in (
          (λ k. e.0 (same.kind ∙ ap (λ (x : Kind). Some x) k) ∙ ap (λ (bs : List ℕ). get_or bs (p - t.request.offset) 0) same.payload ∙ ap (λ (o : ℕ). get_or asks.payload (p - o) 0) same.offset),
          (λ k. e.1 (same.kind ∙ ap (λ (x : Kind). Some x) k)),
        )

    -- Where all that change the byte are one command, and one of them isn't refused, it leaves its byte.
    over : (asks : Command Nobody) (p : ℕ) (steps : List Step) → AllRight start steps → has asks p ≡ true →
        ((link : ℕ) (t : Taken) (k : Kind) → Has (Took link t) steps → t.request.kind ≡ Some k → is_change k ≡ true → within (t.request.offset, t.request.length) p ≡ true → IsSame t asks) →
        (link : ℕ) (t : Taken) → IsSame t asks → Has (Took link t) steps → refusal t.agreed start t.request ≡ None → Left asks p (after start steps)
    over asks p [] right in_it only link t same h ok = elim h [ ]
    over asks p (Gave l c r ∷ steps) right in_it only link t same (inl e) ok = absurd (differ _ _ (sym e) refl refl)
    over asks p (Gave l c r ∷ steps) right in_it only link t same (inr h) ok = over asks p steps right.1 in_it (λ l' u k h. only l' u k (inr h)) link t same h ok
    over asks p (Took l u ∷ steps) right in_it only link t same (inl e) ok =
        let is : u ≡ t = ap (taken_of t) e in
        let a = alike steps right.1 in
        leaves asks p u steps right (subst (λ (x : Taken). IsSame x asks) (sym is) same) in_it
        (refusal_same u.agreed u.request (after start steps) start a.0 a.1 ∙ ap (λ (x : Taken). refusal x.agreed start x.request) is ∙ ok)
    over asks p (Took l u ∷ steps) right in_it only link t same (inr h) ok =
        go (over asks p steps right.1 in_it (λ l' x k g. only l' x k (inr g)) link t same h ok) (refusal u.agreed (after start steps) u.request) refl (covered u.request.kind refl)
      where
        by_place : (k : Kind) → u.request.kind ≡ Some k → (b : Bool) → is_change k ≡ b → (w : Bool) → within (u.request.offset, u.request.length) p ≡ w → Elsewhere asks p u
        by_place k e b c false w = inl (λ k' e' c'. w)
        by_place k e true c true w = inr (only l u k (inl refl) e c w)
        by_place k e false c true w = inl (λ k' e' c'. let same_kind : Some k ≡ Some k' = sym e ∙ e' in let eq : k ≡ k' = cc in let no : true ≡ false = sym c' ∙ sym (ap is_change eq) ∙ c in cc)

        covered : (k : Option Kind) → u.request.kind ≡ k → Elsewhere asks p u
        covered None e = inl (λ k' e' c'. let no : None ≡ Some k' = sym e ∙ e' in cc)
        covered (Some k) e = by_place k e (is_change k) refl (within (u.request.offset, u.request.length) p) refl

        go : Left asks p (after start steps) → (v : Option ℕ) → refusal u.agreed (after start steps) u.request ≡ v → Elsewhere asks p u → Left asks p (effect u.agreed u.request u.payload (after start steps))
        go before None e (inr one) = leaves asks p u steps right one in_it e
        go before (Some error) e (inr one) = subst (λ (x : Export). Left asks p x) (sym (ap (λ (r : Option ℕ). replied.unless r (replied.done u.request.kind u.request u.payload (after start steps)) (after start steps)) e)) before
        go before v e (inl out) =
            let b = effect_beside u.agreed u.request u.payload (after start steps) right.0 p (truly steps right.1) out in
            ((λ k. b.0 ∙ before.0 k), (λ k. b.0 ∙ before.1 k))

    module _ (dealt : Dealt) (steps : List Step) (right : AllRight start steps) (follows : Follows start dealt steps) where
      changes_same : (k : Kind) → is_change k ≡ changes k
      changes_same kind.Read = refl
      changes_same kind.Write = refl
      changes_same kind.Flush = refl
      changes_same kind.Trim = refl
      changes_same kind.Cache = refl
      changes_same kind.Zero = refl
      changes_same kind.BlockStatus = refl

      covers_same : (t : Taken) (asks : Command Nobody) (k : Kind) (p : ℕ) → IsSame t asks → t.request.kind ≡ Some k → is_change k ≡ true → covers asks p ≡ within (t.request.offset, t.request.length) p
      covers_same t asks k p same e c =
          let kinds : Some k ≡ Some asks.kind = sym e ∙ same.kind in
          let is : k ≡ asks.kind = cc in
          let does : changes asks.kind ≡ true = sym (changes_same asks.kind) ∙ sym (ap is_change is) ∙ c in
          ap (λ (b : Bool). b && has asks p) does ∙ ap (λ (o : ℕ). within (o, asks.length) p) (sym same.offset) ∙ ap (λ (n : ℕ). within (t.request.offset, n) p) (sym same.length_)

      free : (p : ℕ) (before : List Step) → ((step : Step) → Has step before → Has step steps) → Untouched dealt p → Free p before
      free p before part untouched link t k h e c =
          let a = follows.taken link t k (part (Took link t) h) e in
          sym (covers_same t a.0 k p a.2 e c) ∙ untouched link t.request.cookie a.0 a.1

      -- the request behind an outcome
      record Comes (link cookie : ℕ) (asks : Command Nobody) (given : Reply) : Type 0 where
        taken : Taken
        before : List Step
        part : (step : Step) → Has step before → Has step steps
        right_ : AllRight start before
        was : Has (Took link taken) steps
        same : IsSame taken asks
        is_ : given ≡ reply taken.agreed (after start before) taken.request

      not_refused : (v : Option ℕ) (t r : Reply) → r ≡ refused_or v t → ((n : ℕ) → r ≡ Refused n → ⊥) → (v ≡ None) × (r ≡ t)
      not_refused None t r e n = (refl, e)
      not_refused (Some error) t r e n = absurd (n error e)

      known_kind : (k : Option Kind) (link : ℕ) (t : Taken) (given : Reply) (export : Export) → t.request.kind ≡ k → given ≡ reply t.agreed export t.request → ((n : ℕ) → given ≡ Refused n → ⊥) → (kind : Kind) × (t.request.kind ≡ Some kind)
      known_kind (Some k) link t given export e is allowed = (k, e)
      known_kind None link t given export e is allowed = absurd (allowed 22 (is ∙ ap (λ (r : Option ℕ). refused_or r (told t.request.kind t.request export)) (ap (replied.refusal_at t.agreed export t.request) e)))

      comes : (link cookie : ℕ) (asks : Command Nobody) (given : Reply) → dealt.asked link cookie ≡ Some asks → Has (Gave link cookie given) steps → ((n : ℕ) → given ≡ Refused n → ⊥) → Comes link cookie asks given
      comes link cookie asks given asked h allowed =
          let m = made steps link cookie given right h in
          let k = known_kind m.taken.request.kind link m.taken given (after start m.before) refl m.is allowed in
          let a = follows.taken link m.taken k.0 m.was k.1 in
          let twice : Some a.0 ≡ Some asks = sym a.1 ∙ ap (λ (c : ℕ). dealt.asked link c) m.cookie_ ∙ asked in
          let is_asked : a.0 ≡ asks = cc in
          record { taken = m.taken; before = m.before; part = m.part; right_ = m.right; was = m.was; same = subst (λ (x : Command Nobody). IsSame m.taken x) is_asked a.2; is_ = m.is }

      allowed_by : (link cookie : ℕ) (asks : Command Nobody) (given : Reply) (c : Comes link cookie asks given) → ((n : ℕ) → given ≡ Refused n → ⊥) →
          (refusal c.taken.agreed (after start c.before) c.taken.request ≡ None) × (given ≡ told (Some asks.kind) c.taken.request (after start c.before))
      allowed_by link cookie asks given c allowed =
          let ok = not_refused (refusal c.taken.agreed (after start c.before) c.taken.request) (told c.taken.request.kind c.taken.request (after start c.before)) given c.is_ allowed in
          (ok.0, ok.1 ∙ ap (λ (k : Option Kind). told k c.taken.request (after start c.before)) c.same.kind)

      place : {A : Type 0} (d : A) (offset n p : ℕ) (all : List A) → within (offset, n) p ≡ true → get_or (take n (drop offset all)) (p - offset) d ≡ get_or all p d
      place d offset n p all in_it =
          let low : offset ≤ p = grind (arith, nat_tests) in
          let high : p < offset + n = grind (arith, nat_tests) in
          let at : offset + (p - offset) ≡ p = omega arith in
          get_or-take n (drop offset all) (p - offset) d (omega arith) ∙ get_or-drop offset all (p - offset) d ∙ ap (λ k. get_or all k d) at

      within_taken : (asks : Command Nobody) (t : Taken) (p : ℕ) → IsSame t asks → has asks p ≡ true → within (t.request.offset, t.request.length) p ≡ true
      within_taken asks t p same in_it = ap (λ (o : ℕ). within (o, t.request.length) p) same.offset ∙ ap (λ (n : ℕ). within (asks.offset, n) p) same.length_ ∙ in_it

      reads : (link cookie : ℕ) (asks : Command Nobody) (bytes : List ℕ) (p : ℕ) → dealt.asked link cookie ≡ Some asks → asks.kind ≡ kind.Read → Done dealt link cookie bytes → has asks p ≡ true → Untouched dealt p →
          get_or bytes (p - asks.offset) 0 ≡ get_or start.bytes p 0
      reads link cookie asks bytes p asked k done in_it untouched =
          let d = follows.done_ link cookie asks bytes asked done in
          let c = comes link cookie asks d.given asked d.was (λ n e. d.is.allowed n e) in
          let ok = allowed_by link cookie asks d.given c (λ n e. d.is.allowed n e) in
          let content : List ℕ = take c.taken.request.length (drop c.taken.request.offset (after start c.before).bytes) in
          let given : d.given ≡ Content content = ok.1 ∙ ap (λ (x : Kind). told (Some x) c.taken.request (after start c.before)) k in
          d.is.content content p k given in_it ∙ ap (λ (o : ℕ). get_or content (p - o) 0) (sym c.same.offset)
          ∙ place 0 c.taken.request.offset c.taken.request.length p (after start c.before).bytes (within_taken asks c.taken p c.same in_it)
          ∙ (beside p c.before c.right_ (free p c.before c.part untouched)).0

      writes : (link cookie : ℕ) (asks : Command Nobody) (bytes : List ℕ) (p : ℕ) → OnlyOne dealt link cookie asks p → Done dealt link cookie bytes → Leaves asks p (get_or (after start steps).bytes p 0)
      writes link cookie asks bytes p one done =
          let d = follows.done_ link cookie asks bytes one.asked done in
          let c = comes link cookie asks d.given one.asked d.was (λ n e. d.is.allowed n e) in
          let ok = allowed_by link cookie asks d.given c (λ n e. d.is.allowed n e) in
          let a = alike c.before c.right_ in
          over asks p steps right (in_range_of (changes asks.kind) one.here) same link c.taken c.same c.was
          (refusal_same c.taken.agreed c.taken.request start (after start c.before) (sym a.0) (sym a.1) ∙ ok.0)
        where
          in_range_of : (b : Bool) → b && has asks p ≡ true → has asks p ≡ true
          in_range_of true e = e
          in_range_of false e = cc

          same : (l : ℕ) (t : Taken) (k : Kind) → Has (Took l t) steps → t.request.kind ≡ Some k → is_change k ≡ true → within (t.request.offset, t.request.length) p ≡ true → IsSame t asks
          same l t k h e c w =
              let a = follows.taken l t k h e in
              let key = one.only l t.request.cookie a.0 a.1 (covers_same t a.0 k p a.2 e c ∙ w) in
              let twice : Some a.0 ≡ Some asks = sym a.1 ∙ ap (λ (n : ℕ). dealt.asked n t.request.cookie) key.0 ∙ ap (λ (n : ℕ). dealt.asked link n) key.1 ∙ one.asked in
              let is : a.0 ≡ asks = cc in
              subst (λ (x : Command Nobody). IsSame t x) is a.2

      zero_status : (b : Bool) → has_bit state_zero (status_of b) ≡ true → b ≡ true
      zero_status true e = refl
      zero_status false e = e

      zeroes : (link cookie : ℕ) (asks : Command Nobody) (bytes : List ℕ) (p : ℕ) → dealt.asked link cookie ≡ Some asks → asks.kind ≡ kind.BlockStatus → Done dealt link cookie bytes → has asks p ≡ true → dealt.zero link cookie p ≡ true →
          Untouched dealt p → get_or start.bytes p 0 ≡ 0
      zeroes link cookie asks bytes p asked k done in_it tells untouched =
          let d = follows.zero link cookie asks bytes p asked done tells in
          let c = comes link cookie asks d.given asked d.was (λ n e. let no : Status d.is.descriptors ≡ Refused n = sym d.is.is ∙ e in cc) in
          let ok = allowed_by link cookie asks d.given c (λ n e. let no : Status d.is.descriptors ≡ Refused n = sym d.is.is ∙ e in cc) in
          let slice : List Bool = take c.taken.request.length (drop c.taken.request.offset (after start c.before).zeros) in
          let both : Status d.is.descriptors ≡ Status (take (most c.taken.request.flags) (statuses slice)) = sym d.is.is ∙ ok.1 ∙ ap (λ (x : Kind). told (Some x) c.taken.request (after start c.before)) k in
          let same_ds : d.is.descriptors ≡ take (most c.taken.request.flags) (statuses slice) = cc in
          let all : flags_at (statuses slice) (p - asks.offset) ≡ Some d.is.flags = front_flags (most c.taken.request.flags) (p - asks.offset) (statuses slice) d.is.flags (ap (λ (es : List Extent). flags_at es (p - asks.offset)) (sym same_ds) ∙ d.is.there) in
          let exact = statuses_exact slice in
          let t = truly c.before c.right_ in
          let range : c.taken.request.offset + c.taken.request.length ≤ length (after start c.before).bytes = in_range c.taken.agreed (after start c.before) c.taken.request ok.0 kind.BlockStatus (c.same.kind ∙ ap (λ (x : Kind). Some x) k) refl in
          let there : within (c.taken.request.offset, c.taken.request.length) p ≡ true = within_taken asks c.taken p c.same in_it in
          let low : c.taken.request.offset ≤ p = grind (arith, nat_tests) in
          let high : p < c.taken.request.offset + c.taken.request.length = grind (arith, nat_tests) in
          let at : p - asks.offset ≡ p - c.taken.request.offset = ap (λ (o : ℕ). p - o) (sym c.same.offset) in
          let inside : p - asks.offset < length slice = omega (arith, at, low, high, range, t.each, length-take c.taken.request.length (drop c.taken.request.offset (after start c.before).zeros), length-drop c.taken.request.offset (after start c.before).zeros) in
          let twice : Some d.is.flags ≡ Some (status_of (get_or slice (p - asks.offset) false)) = sym all ∙ exact.status (p - asks.offset) inside in
          let flags : d.is.flags ≡ status_of (get_or slice (p - asks.offset) false) = cc in
          let here : get_or slice (p - asks.offset) false ≡ true = zero_status _ (ap (has_bit state_zero) (sym flags) ∙ d.is.zero) in
          let flag : get_or (after start c.before).zeros p false ≡ true = sym (ap (λ (i : ℕ). get_or slice i false) at ∙ place false c.taken.request.offset c.taken.request.length p (after start c.before).zeros there) ∙ here in
          let first : get_or start.zeros p false ≡ true = sym (beside p c.before c.right_ (free p c.before c.part untouched)).1 ∙ flag in
          by_default p start.bytes (is.truly p first)
        where
          by_default : (i : ℕ) (xs : List ℕ) → get_or xs i 1 ≡ 0 → get_or xs i 0 ≡ 0
          by_default i [] e = refl
          by_default zero (x ∷ xs) e = e
          by_default (suc i) (x ∷ xs) e = by_default i xs e

pub servers_are_honest : ServersAreHonest
servers_are_honest start dealt steps is right follows = record {
  sizes = record { told = follows.sizes; kept = (alike start is steps right).0 };
  reads = reads start is dealt steps right follows;
  writes = writes start is dealt steps right follows;
  rest = λ p untouched. (beside start is p steps right (free start is dealt steps right follows p steps (λ s h. h) untouched)).0;
  zeroes = zeroes start is dealt steps right follows;
}
