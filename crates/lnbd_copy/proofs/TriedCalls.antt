-- What was tried among calls stays so while calls are added, and after a pause what it wanted is tried in the next turn.
use Rattle.std.proofs.Common.{◌≡◌, ◌⊎◌, inl, inr, ◌||◌, ◌==◌, ◌<◌, ℕ, Bool, true, false, List, [], ◌∷◌, ◌++◌, refl, ap, sym, subst, ◌∙◌, append_assoc, arith}
use Rattle.std.proofs.lemmas.Bool.{cases_eq, eq-eqb, eqb-true, false≢true}
use Rattle.std.specs.List.{list_any}
use Rattle.lnbd_link.specs.Call as wire
use Rattle.lnbd_link.specs.Call.{Connect, Listen, Accept, Read, Write, Pause, Shut, ReadTold, WriteTold}
use Rattle.lnbd_link.specs.declared.wires.Want.{Want}
use Rattle.lnbd_usage.specs.Pauses.{HasNoPause, is_pause}
use Rattle.lnbd_conduct.specs.Pauses.{TriedBefore, WasRead, WasTried, WasWritten, WereTried, reads_on, writes_on}
use Rattle.lnbd_copy.specs.Tried.{NoneLeft, TriedBut}
use Rattle.lnbd_copy.proofs.PauseLemmas.{head_same, has_pause, no_pauses, none_cons, one_more, pauses_stay, tail_same}

-- Where a list of calls is cut in two.

-- A call that is among the first calls, or among the last.
record IsEarly (calls more earlier since : List wire.Call) (one : wire.Call) : Type 0 where
  after : List wire.Call
  are : calls ≡ earlier ++ one ∷ after
  rest : since ≡ after ++ more

record IsLate (calls more earlier since : List wire.Call) (one : wire.Call) : Type 0 where
  front : List wire.Call
  are : more ≡ front ++ one ∷ since
  rest : earlier ≡ calls ++ front

cut_at : (calls more earlier since : List wire.Call) (one : wire.Call) → calls ++ more ≡ earlier ++ one ∷ since → IsEarly calls more earlier since one ⊎ IsLate calls more earlier since one
cut_at [] more earlier since one e = inr (record { front = earlier; are = e; rest = refl })
cut_at (call ∷ calls) more [] since one e =
    inl (record { after = calls; are = ap (λ (c : wire.Call). c ∷ calls) (head_same call one (calls ++ more) since e); rest = sym (tail_same call one (calls ++ more) since e) })
cut_at (call ∷ calls) more (first ∷ earlier) since one e =
    go (head_same call first (calls ++ more) (earlier ++ one ∷ since) e) (cut_at calls more earlier since one (tail_same call first (calls ++ more) (earlier ++ one ∷ since) e))
  where
    go : call ≡ first → IsEarly calls more earlier since one ⊎ IsLate calls more earlier since one → IsEarly (call ∷ calls) more (first ∷ earlier) since one ⊎ IsLate (call ∷ calls) more (first ∷ earlier) since one
    go same (inl is) = inl (record { after = is.after; are = ap (λ (l : List wire.Call). call ∷ l) is.are ∙ ap (λ (c : wire.Call). c ∷ earlier ++ one ∷ is.after) same; rest = is.rest })
    go same (inr is) = inr (record { front = is.front; are = is.are; rest = ap (λ (l : List wire.Call). first ∷ l) is.rest ∙ ap (λ (c : wire.Call). c ∷ calls ++ is.front) (sym same) })

-- The first call of its kind.

record IsFirst (p : wire.Call → Bool) (calls : List wire.Call) : Type 0 where
  earlier : List wire.Call
  call : wire.Call
  later : List wire.Call
  are : calls ≡ earlier ++ call ∷ later
  none : list_any p earlier ≡ false
  is : p call ≡ true

or_first : (a b : Bool) → a ≡ false → (a || b) ≡ true → b ≡ true
or_first true b none some = absurd (false≢true (sym none))
or_first false b none some = some

first_of : (p : wire.Call → Bool) (calls : List wire.Call) → list_any p calls ≡ true → IsFirst p calls
first_of p [] some = absurd (false≢true some)
first_of p (call ∷ calls) some = go (p call) refl (λ is. first_of p calls (or_first (p call) (list_any p calls) is some))
  where
    go : (b : Bool) → p call ≡ b → (p call ≡ false → IsFirst p calls) → IsFirst p (call ∷ calls)
    go true is rest = record { earlier = []; call = call; later = calls; are = refl; none = refl; is = is }
    go false is rest =
        let behind = rest is in
        record {
          earlier = call ∷ behind.earlier;
          call = behind.call;
          later = behind.later;
          are = ap (λ (l : List wire.Call). call ∷ l) behind.are;
          none = ap (λ (b : Bool). b || list_any p behind.earlier) is ∙ behind.none;
          is = behind.is;
        }

-- a read without room, a write of nothing
abbrev pub is_idle : wire.Call → Bool
is_idle (Connect to given) = false
is_idle (Listen at listener) = false
is_idle (Accept listener answer) = false
is_idle (Read n room answer) = room == 0
is_idle (Write n offered answer) = offered == 0
is_idle (Pause wants) = false
is_idle (Shut n) = false

or_second : (a b : Bool) → (a || b) ≡ false → b ≡ false
or_second true b none = absurd (false≢true (sym none))
or_second false b none = none

or_one : (a b : Bool) → (a || b) ≡ false → a ≡ false
or_one true b none = none
or_one false b none = refl

none_at : (p : wire.Call → Bool) (earlier later : List wire.Call) (call : wire.Call) → list_any p (earlier ++ call ∷ later) ≡ false → p call ≡ false
none_at p [] later call none = or_one (p call) (list_any p later) none
none_at p (first ∷ earlier) later call none = none_at p earlier later call (or_second (p first) (list_any p (earlier ++ call ∷ later)) none)

over_none : (n : ℕ) → (n == 0) ≡ false → 0 < n
over_none n some = elim (cases_eq n 0) [
  | inl is ↦ absurd (false≢true (sym some ∙ eq-eqb n 0 is))
  | inr is ↦ omega (arith, is)
]

pub was_read : (link : ℕ) (calls : List wire.Call) → list_any (reads_on link) calls ≡ true → list_any is_idle calls ≡ false → WasRead link calls
was_read link calls some busy =
    let one = first_of (reads_on link) calls some in
    go one one.call refl
  where
    go : (one : IsFirst (reads_on link) calls) → (call : wire.Call) → one.call ≡ call → WasRead link calls
    go one (Connect to given) e = absurd (false≢true (sym (ap (reads_on link) e) ∙ one.is))
    go one (Listen at listener) e = absurd (false≢true (sym (ap (reads_on link) e) ∙ one.is))
    go one (Accept listener answer) e = absurd (false≢true (sym (ap (reads_on link) e) ∙ one.is))
    go one (Read n room answer) e =
        let same : n ≡ link = eqb-true n link (sym (ap (reads_on link) e) ∙ one.is) in
        let are : calls ≡ one.earlier ++ Read link room answer ∷ one.later =
        one.are ∙ ap (λ (c : wire.Call). one.earlier ++ c ∷ one.later) (e ∙ ap (λ (m : ℕ). Read m room answer) same) in
        record {
          earlier = one.earlier;
          room = room;
          answer = answer;
          later = one.later;
          are = are;
          first = one.none;
          some = over_none room (none_at is_idle one.earlier one.later (Read link room answer) (sym (ap (list_any is_idle) are) ∙ busy));
        }
    go one (Write n offered answer) e = absurd (false≢true (sym (ap (reads_on link) e) ∙ one.is))
    go one (Pause wants) e = absurd (false≢true (sym (ap (reads_on link) e) ∙ one.is))
    go one (Shut n) e = absurd (false≢true (sym (ap (reads_on link) e) ∙ one.is))

pub was_written : (link : ℕ) (calls : List wire.Call) → list_any (writes_on link) calls ≡ true → list_any is_idle calls ≡ false → WasWritten link calls
was_written link calls some busy =
    let one = first_of (writes_on link) calls some in
    go one one.call refl
  where
    go : (one : IsFirst (writes_on link) calls) → (call : wire.Call) → one.call ≡ call → WasWritten link calls
    go one (Connect to given) e = absurd (false≢true (sym (ap (writes_on link) e) ∙ one.is))
    go one (Listen at listener) e = absurd (false≢true (sym (ap (writes_on link) e) ∙ one.is))
    go one (Accept listener answer) e = absurd (false≢true (sym (ap (writes_on link) e) ∙ one.is))
    go one (Read n room answer) e = absurd (false≢true (sym (ap (writes_on link) e) ∙ one.is))
    go one (Write n offered answer) e =
        let same : n ≡ link = eqb-true n link (sym (ap (writes_on link) e) ∙ one.is) in
        let are : calls ≡ one.earlier ++ Write link offered answer ∷ one.later =
        one.are ∙ ap (λ (c : wire.Call). one.earlier ++ c ∷ one.later) (e ∙ ap (λ (m : ℕ). Write m offered answer) same) in
        record {
          earlier = one.earlier;
          offered = offered;
          answer = answer;
          later = one.later;
          are = are;
          first = one.none;
          some = over_none offered (none_at is_idle one.earlier one.later (Write link offered answer) (sym (ap (list_any is_idle) are) ∙ busy));
        }
    go one (Pause wants) e = absurd (false≢true (sym (ap (writes_on link) e) ∙ one.is))
    go one (Shut n) e = absurd (false≢true (sym (ap (writes_on link) e) ∙ one.is))

-- What was tried was tried by more calls, too.

one_stays : (want : Want) (calls more : List wire.Call) → WasTried want calls → WasTried want (calls ++ more)
one_stays want calls more tried = record {
  reads = λ alone.
      let was = tried.reads alone in
      record {
        earlier = was.earlier;
        room = was.room;
        answer = was.answer;
        later = was.later ++ more;
        are = ap (λ (l : List wire.Call). l ++ more) was.are ∙ append_assoc was.earlier (Read want.link was.room was.answer ∷ was.later) more;
        first = was.first;
        some = was.some;
      };
  writes = λ writing.
      let was = tried.writes writing in
      record {
        earlier = was.earlier;
        offered = was.offered;
        answer = was.answer;
        later = was.later ++ more;
        are = ap (λ (l : List wire.Call). l ++ more) was.are ∙ append_assoc was.earlier (Write want.link was.offered was.answer ∷ was.later) more;
        first = was.first;
        some = was.some;
      };
}

pub tried_stays : (wants : List Want) (calls more : List wire.Call) → WereTried wants calls → WereTried wants (calls ++ more)
tried_stays [] calls more tried = tt
tried_stays (want ∷ others) calls more tried = (one_stays want calls more tried.0, tried_stays others calls more tried.1)

-- What is left to be tried.

no_pause_at : {A : Type 0} (more front since : List wire.Call) (wanted : List Want) → HasNoPause more → more ≡ front ++ Pause wanted ∷ since → A
no_pause_at more front since wanted none are = absurd (false≢true (sym none ∙ ap (list_any is_pause) are ∙ has_pause front since wanted))

module _ {AreLeft AreLeft' : List Want → List wire.Call → Type 0} where
  -- calls without a pause, by which what is left is tried, or is left still
  pub tried_on : (calls more : List wire.Call) → HasNoPause more → ((wanted : List Want) (since : List wire.Call) → AreLeft wanted since → WereTried wanted (since ++ more) ⊎ AreLeft' wanted (since ++ more)) → TriedBut AreLeft calls → TriedBut AreLeft' (calls ++ more)
  tried_on calls more none left tried = record {
    each = pauses_stay TriedBefore calls more none tried.each;
    now = λ earlier since wanted e. elim (cut_at calls more earlier since (Pause wanted) e) [
      | inl is ↦ subst (λ (l : List wire.Call). WereTried wanted l ⊎ AreLeft' wanted l) (sym is.rest) (go is.after wanted (tried.now earlier is.after wanted is.are))
      | inr is ↦ no_pause_at more is.front since wanted none is.are
    ];
  }
    where
      go : (after : List wire.Call) (wanted : List Want) → WereTried wanted after ⊎ AreLeft wanted after → WereTried wanted (after ++ more) ⊎ AreLeft' wanted (after ++ more)
      go after wanted (inl was) = inl (tried_stays wanted after more was)
      go after wanted (inr is) = left wanted after is

pub none_left : (wanted : List Want) (since : List wire.Call) → WereTried wanted since ⊎ NoneLeft wanted since → WereTried wanted since
none_left wanted since (inl was) = was
none_left wanted since (inr left) = absurd left

-- Then a pause may come, and what it wants is left.
pub tried_rests : {AreLeft : List Want → List wire.Call → Type 0} (calls : List wire.Call) (wants : List Want) → AreLeft wants [] → TriedBut NoneLeft calls → TriedBut AreLeft (calls ++ Pause wants ∷ [])
tried_rests {AreLeft} calls wants left tried = record {
  each = one_more TriedBefore calls wants (λ earlier since wanted e. none_left wanted since (tried.now earlier since wanted e)) tried.each;
  now = λ earlier since wanted e. elim (cut_at calls (Pause wants ∷ []) earlier since (Pause wanted) e) [
    | inl is ↦ inl (subst (WereTried wanted) (sym is.rest) (tried_stays wanted is.after (Pause wants ∷ []) (none_left wanted is.after (tried.now earlier is.after wanted is.are))))
    | inr is ↦ inr (last is.front since wanted is.are)
  ];
}
  where
    same_wants : (one other : List Want) → Pause one ≡ Pause other → one ≡ other
    same_wants one other e = cc

    last : (front since : List wire.Call) (wanted : List Want) → Pause wants ∷ [] ≡ front ++ Pause wanted ∷ since → AreLeft wanted since
    last [] since wanted are =
        subst (λ (l : List wire.Call). AreLeft wanted l) (tail_same (Pause wants) (Pause wanted) [] since are) (subst (λ (w : List Want). AreLeft w []) (same_wants wants wanted (head_same (Pause wants) (Pause wanted) [] since are)) left)
    last (first ∷ front) since wanted are = absurd (none_cons front since (Pause wanted) (tail_same (Pause wants) first [] (front ++ Pause wanted ∷ since) are))

pub tried_none : TriedBut NoneLeft []
tried_none = record { each = no_pauses TriedBefore; now = λ earlier since wanted e. absurd (none_cons earlier since (Pause wanted) e) }
