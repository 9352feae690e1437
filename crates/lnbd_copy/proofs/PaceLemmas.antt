-- How often links are tried in vain behind calls that are so, and behind others.
use Rattle.std.proofs.Common.{◌≡◌, ◌⊎◌, inl, inr, ◌≤◌, ◌+◌, ℕ, Bool, true, false, cond, List, [], ◌∷◌, ◌++◌, Option, Some, refl, ap, sym, subst, ◌∙◌, append_assoc, arith}
use Rattle.std.proofs.lemmas.Bool.{false≢true}
use Rattle.std.proofs.lemmas.List.{append-nil, append_cancel_left}
use Rattle.std.specs.List.{list_any}
use Rattle.lnbd_link.specs.Call as wire
use Rattle.lnbd_link.specs.Call.{Connect, Listen, Accept, Read, Write, Pause, Shut, Moved, Unready, Ended, ReadFault, Sent, Full, WriteFault}
use Rattle.lnbd_link.specs.Numbers.{is_number}
use Rattle.lnbd_link.specs.Part.{Adds}
use Rattle.lnbd_link.specs.declared.wires.Want.{Want}
use Rattle.lnbd_model.specs.declared.target.Target.{Target}
use Rattle.lnbd_poll.specs.Alone.{calls_on, link_of}
use Rattle.lnbd_poll.specs.Held.{Held}
use Rattle.lnbd_poll.specs.Still.{is_full}
use Rattle.lnbd_board.specs.declared.ticket.Ticket.{Ticket}
use Rattle.lnbd_copy.specs.Faults.{GoesIdly}
use Rattle.lnbd_conduct.specs.Links.{once_if}
use Rattle.lnbd_copy.specs.Moving.{AreTaken, Stirs}
use Rattle.lnbd_copy.specs.Pace.{IsPaced, TriesAtMost}
use Rattle.lnbd_conduct.specs.Pauses.{AreTriedAtMost, IsTriedAtMost, KeepsPace, how_many, is_unready}
use Rattle.lnbd_usage.specs.Vain.{has_happened}
use Rattle.lnbd_conduct.specs.Told.{Told}
use Rattle.lnbd_copy.proofs.CopierLemmas.{told_as}
use Rattle.lnbd_copy.proofs.MovingLemmas.{none_of_both}
use Rattle.lnbd_copy.proofs.PauseLemmas.{head_same, tail_same}
use Rattle.lnbd_copy.proofs.SettledLemmas.{same_calls}
use Rattle.lnbd_copy.proofs.TurnLemmas.{since_on, told_begins, told_on}

-- How often calls try a link in vain.

pub many_both : (is : wire.Call → Bool) (calls more : List wire.Call) → how_many is (calls ++ more) ≡ how_many is calls + how_many is more
many_both is [] more = omega arith
many_both is (call ∷ calls) more = let rest = many_both is calls more in omega (arith, rest)

pub tried_both : (n m link : ℕ) (calls more : List wire.Call) → IsTriedAtMost n link calls → IsTriedAtMost m link more → IsTriedAtMost (n + m) link (calls ++ more)
tried_both n m link calls more one two =
    let reads = many_both (is_unready link) calls more in
    let writes = many_both (is_full link) calls more in
    let reads1 = one.reads in
    let reads2 = two.reads in
    let writes1 = one.writes in
    let writes2 = two.writes in
    record { reads = omega (arith, reads, reads1, reads2); writes = omega (arith, writes, writes1, writes2) }

pub tried_fewer : (n m link : ℕ) (calls : List wire.Call) → n ≤ m → IsTriedAtMost n link calls → IsTriedAtMost m link calls
tried_fewer n m link calls few tried =
    let reads = tried.reads in
    let writes = tried.writes in
    record { reads = omega (arith, few, reads); writes = omega (arith, few, writes) }

tried_last : (n link : ℕ) (before since calls : List wire.Call) → calls ≡ before ++ since → IsTriedAtMost n link calls → IsTriedAtMost n link since
tried_last n link before since calls are tried =
    let reads : how_many (is_unready link) calls ≡ how_many (is_unready link) before + how_many (is_unready link) since = ap (how_many (is_unready link)) are ∙ many_both (is_unready link) before since in
    let writes : how_many (is_full link) calls ≡ how_many (is_full link) before + how_many (is_full link) since = ap (how_many (is_full link)) are ∙ many_both (is_full link) before since in
    let all_reads = tried.reads in
    let all_writes = tried.writes in
    record { reads = omega (arith, reads, all_reads); writes = omega (arith, writes, all_writes) }

tried_first : (n link : ℕ) (since after calls : List wire.Call) → calls ≡ since ++ after → IsTriedAtMost n link calls → IsTriedAtMost n link since
tried_first n link since after calls are tried =
    let reads : how_many (is_unready link) calls ≡ how_many (is_unready link) since + how_many (is_unready link) after = ap (how_many (is_unready link)) are ∙ many_both (is_unready link) since after in
    let writes : how_many (is_full link) calls ≡ how_many (is_full link) since + how_many (is_full link) after = ap (how_many (is_full link)) are ∙ many_both (is_full link) since after in
    let all_reads = tried.reads in
    let all_writes = tried.writes in
    record { reads = omega (arith, reads, all_reads); writes = omega (arith, writes, all_writes) }

pub tried_none : (link : ℕ) → IsTriedAtMost 0 link []
tried_none link = record { reads = omega arith; writes = omega arith }

-- Where two fronts and two rests are the same calls, one front is in the other.

record InLast (calls more before since : List wire.Call) : Type 0 where
  rest : List wire.Call
  front : before ≡ calls ++ rest
  back : more ≡ rest ++ since

record InFirst (calls more before since : List wire.Call) : Type 0 where
  rest : List wire.Call
  front : calls ≡ before ++ rest
  back : since ≡ rest ++ more

split : (calls more before since : List wire.Call) → calls ++ more ≡ before ++ since → InLast calls more before since ⊎ InFirst calls more before since
split [] more before since e = inl (record { rest = before; front = refl; back = e })
split (call ∷ calls) more [] since e = inr (record { rest = call ∷ calls; front = refl; back = sym e })
split (call ∷ calls) more (first ∷ before) since e = go (head_same call first (calls ++ more) (before ++ since) e) (split calls more before since (tail_same call first (calls ++ more) (before ++ since) e))
  where
    go : call ≡ first → InLast calls more before since ⊎ InFirst calls more before since → InLast (call ∷ calls) more (first ∷ before) since ⊎ InFirst (call ∷ calls) more (first ∷ before) since
    go same (inl in_last) = inl (record { rest = in_last.rest; front = ap (λ (l : List wire.Call). first ∷ l) in_last.front ∙ ap (λ (c : wire.Call). c ∷ calls ++ in_last.rest) (sym same); back = in_last.back })
    go same (inr in_first) = inr (record { rest = in_first.rest; front = ap (λ (l : List wire.Call). call ∷ l) in_first.front ∙ ap (λ (c : wire.Call). c ∷ before ++ in_first.rest) same; back = in_first.back })

-- What stands behind more calls.

none_first : (front back since : List wire.Call) → since ≡ front ++ back → list_any has_happened since ≡ false → list_any has_happened front ≡ false
none_first front back since are nothing = (none_of_both has_happened since front back are nothing).0

module _ (n m : ℕ) (calls more : List wire.Call) (few : n + m ≤ 2) (paced : IsPaced n calls) (tried : AreTriedAtMost m more) where
  more_pace : KeepsPace (calls ++ more)
  more_pace before since after e nothing link = elim (split calls more before (since ++ after) e) [
    | inl l ↦ tried_fewer m 2 link since (omega (arith, few)) (tried_first m link since after (since ++ after) refl (tried_last m link l.rest (since ++ after) more l.back (tried link)))
    | inr f ↦ within f.rest f.front (split since after f.rest more f.back)
  ]
    where
      within : (rest : List wire.Call) → calls ≡ before ++ rest → InLast since after rest more ⊎ InFirst since after rest more → IsTriedAtMost 2 link since
      within rest are (inl l) = paced.paces before since l.rest (are ∙ ap (λ (x : List wire.Call). before ++ x) l.front) nothing link
      within rest are (inr f) =
          let both = tried_both n m link rest f.rest (paced.last before rest are (none_first rest f.rest since f.front nothing) link) (tried_first m link f.rest after more f.back (tried link)) in
          tried_fewer (n + m) 2 link since few (subst (λ (x : List wire.Call). IsTriedAtMost (n + m) link x) (sym f.front) both)

  paced_on : IsPaced (n + m) (calls ++ more)
  paced_on = record {
    paces = more_pace;
    last = λ before since e nothing link. elim (split calls more before since e) [
      | inl l ↦ tried_fewer m (n + m) link since (omega arith) (tried_last m link l.rest since more l.back (tried link))
      | inr f ↦ subst (λ (x : List wire.Call). IsTriedAtMost (n + m) link x) (sym f.back) (tried_both n m link f.rest more (paced.last before f.rest f.front (none_first f.rest more since f.back nothing) link) (tried link))
    ];
  }

  -- Where something happened among them only they count.
  paced_anew : list_any has_happened more ≡ true → IsPaced m (calls ++ more)
  paced_anew happened = record {
    paces = more_pace;
    last = λ before since e nothing link. elim (split calls more before since e) [
      | inl l ↦ tried_last m link l.rest since more l.back (tried link)
      | inr f ↦ absurd (false≢true (sym (none_of_both has_happened since f.rest more f.back nothing).1 ∙ happened))
    ];
  }

paced_fewer : (n m : ℕ) (calls : List wire.Call) → n ≤ m → IsPaced n calls → IsPaced m calls
paced_fewer n m calls few paced = record { paces = paced.paces; last = λ before since e nothing link. tried_fewer n m link since few (paced.last before since e nothing link) }

paced_begins : IsPaced 1 []
paced_begins = record {
  paces = λ before since after e nothing link. tried_fewer 0 2 link since (omega arith) (tried_first 0 link since after (since ++ after) refl (tried_last 0 link before (since ++ after) [] e (tried_none link)));
  last = λ before since e nothing link. tried_fewer 0 1 link since (omega arith) (tried_last 0 link before since [] e (tried_none link));
}

-- Steps, where the transcript is told.

pub pace_begins : (start : Option (List wire.Call)) → Told start start (IsPaced 1)
pace_begins start = told_begins start paced_begins

pub pace_fewer : (n m : ℕ) (start a : Option (List wire.Call)) → n ≤ m → Told start a (IsPaced n) → Told start a (IsPaced m)
pace_fewer n m start a few told = told_as start a (λ calls paced. paced_fewer n m calls few paced) told

pace_on : (n m : ℕ) (start a b : Option (List wire.Call)) → n + m ≤ 2 → TriesAtMost m a b → Told start a (IsPaced n) → Told start b (IsPaced (n + m))
pace_on n m start a b few tires told = record {
  since = λ all is.
      let made = tires.on all is in
      let since = told.since made.before made.was in
      since_on start made.before all made.more made.now since (paced_on n m since.calls made.more few since.is made.are);
}

pub pace_tires : (start a b : Option (List wire.Call)) → TriesAtMost 1 a b → Told start a (IsPaced 1) → Told start b (IsPaced 2)
pace_tires start a b tires told = pace_fewer (1 + 1) 2 start b (omega arith) (pace_on 1 1 start a b (omega arith) tires told)

pub pace_untired : (n : ℕ) (start a b : Option (List wire.Call)) → n ≤ 2 → TriesAtMost 0 a b → Told start a (IsPaced n) → Told start b (IsPaced n)
pace_untired n start a b few tires told = pace_fewer (n + 0) n start b (omega arith) (pace_on n 0 start a b (omega (arith, few)) tires told)

-- A pause: from there on nothing counts that was before.
pub pace_rests : (start a b : Option (List wire.Call)) (wants : List Want) → Adds a b (Pause wants) → Told start a (IsPaced 2) → Told start b (IsPaced 1)
pace_rests start a b wants adds told =
    told_on start a b (Pause wants) adds (λ calls paced. paced_fewer 0 1 (calls ++ Pause wants ∷ []) (omega arith) (paced_anew 2 0 calls (Pause wants ∷ []) (omega arith) paced (λ link. record { reads = omega arith; writes = omega arith }) refl)) told

-- Calls among which something happened, if all that was read had arrived.
pub pace_moves : (start a b : Option (List wire.Call)) (held : List (Held Ticket)) → TriesAtMost 1 a b → Stirs held a b → ((before : List wire.Call) → a ≡ Some before → AreTaken held) → Told start a (IsPaced 1) → Told start b (IsPaced 1)
pace_moves start a b held tires stirs taken told = record {
  since = λ all is.
      let made = tires.on all is in
      let stirred = stirs.on all is in
      let since = told.since made.before made.was in
      let front : made.before ≡ stirred.before = same_calls made.before stirred.before (sym made.was ∙ stirred.was) in
      let same : made.more ≡ stirred.more = append_cancel_left made.before made.more stirred.more (sym made.now ∙ stirred.now ∙ ap (λ (l : List wire.Call). l ++ stirred.more) (sym front)) in
      since_on start made.before all made.more made.now since
      (paced_anew 1 1 since.calls made.more (omega arith) since.is made.are (ap (list_any has_happened) same ∙ happened (list_any has_happened stirred.more) refl (λ nothing. stirred.are nothing (taken made.before made.was))));
}
  where
    happened : (b : Bool) {c : Bool} → c ≡ b → (c ≡ false → ⊥) → c ≡ true
    happened true is some = is
    happened false is some = absurd (some is)

pub pace_keeps : (n : ℕ) (start a : Option (List wire.Call)) → Told start a (IsPaced n) → Told start a KeepsPace
pace_keeps n start a told = told_as start a (λ calls paced. paced.paces) told

-- Calls that read and write no link change nothing of it.
pub pace_ends : (start a b : Option (List wire.Call)) → TriesAtMost 0 a b → Told start a KeepsPace → Told start b KeepsPace
pace_ends start a b untried told = pace_keeps 2 start b (pace_untired 2 start a b (omega arith) untried (told_as start a (λ calls paces. last_paced calls paces) told))
  where
    last_paced : (calls : List wire.Call) → KeepsPace calls → IsPaced 2 calls
    last_paced calls paces = record { paces = paces; last = λ before since e nothing. paces before since [] (e ∙ ap (λ (l : List wire.Call). before ++ l) (sym (append-nil since))) nothing }

-- Steps in which no link is tried in vain.

pub tires_none : (n : ℕ) (a : Option (List wire.Call)) → TriesAtMost n a a
tires_none n a = record { on = λ all is. record { before = all; more = []; was = is; now = sym (append-nil all); are = λ link. tried_fewer 0 n link [] (omega arith) (tried_none link) } }

tires_then : (n m : ℕ) (a b c : Option (List wire.Call)) → TriesAtMost n a b → TriesAtMost m b c → TriesAtMost (n + m) a c
tires_then n m a b c one two = record {
  on = λ all is.
      let late = two.on all is in
      let early = one.on late.before late.was in
      record {
        before = early.before;
        more = early.more ++ late.more;
        was = early.was;
        now = late.now ∙ ap (λ (l : List wire.Call). l ++ late.more) early.now ∙ append_assoc early.before early.more late.more;
        are = λ link. tried_both n m link early.more late.more (early.are link) (late.are link);
      };
}

tires_fewer : (n m : ℕ) (a b : Option (List wire.Call)) → n ≤ m → TriesAtMost n a b → TriesAtMost m a b
tires_fewer n m a b few tires = record {
  on = λ all is.
      let made = tires.on all is in
      record { before = made.before; more = made.more; was = made.was; now = made.now; are = λ link. tried_fewer n m link made.more few (made.are link) };
}

pub tires_behind : (n : ℕ) (a b c : Option (List wire.Call)) → TriesAtMost n a b → TriesAtMost 0 b c → TriesAtMost n a c
tires_behind n a b c one two = tires_fewer (n + 0) n a c (omega arith) (tires_then n 0 a b c one two)

pub untired_then : (a b c : Option (List wire.Call)) → TriesAtMost 0 a b → TriesAtMost 0 b c → TriesAtMost 0 a c
untired_then a b c one two = tires_behind 0 a b c one two

untired_adds : (a b : Option (List wire.Call)) (call : wire.Call) → ((link : ℕ) → IsTriedAtMost 0 link (call ∷ [])) → Adds a b call → TriesAtMost 0 a b
untired_adds a b call none adds = record { on = λ all is. let added = adds all is in record { before = added.0; more = call ∷ []; was = added.1; now = added.2; are = none } }

pub untired_connects : (a b : Option (List wire.Call)) (to : Target) (given : Option ℕ) → Adds a b (Connect to given) → TriesAtMost 0 a b
untired_connects a b to given adds = untired_adds a b (Connect to given) (λ link. record { reads = omega arith; writes = omega arith }) adds

-- calls that read and write no link

no_call : (call : wire.Call) (calls : List wire.Call) → call ∷ calls ≡ [] → ⊥
no_call call calls e = cc

none_more : (p : wire.Call → Bool) (call : wire.Call) (calls : List wire.Call) → p call ≡ false → how_many p calls ≤ 0 → how_many p (call ∷ calls) ≤ 0
none_more p call calls none few =
    let first : once_if (p call) ≡ 0 = ap once_if none in
    omega (arith, first, few)

not_unready : (link : ℕ) (call : wire.Call) → is_number link (link_of call) ≡ false → is_unready link call ≡ false
not_unready link (Connect to given) off = refl
not_unready link (Listen at listener) off = refl
not_unready link (Accept listener answer) off = refl
not_unready link (Read n room (Moved bytes)) off = refl
not_unready link (Read n room Unready) off = off
not_unready link (Read n room Ended) off = refl
not_unready link (Read n room ReadFault) off = refl
not_unready link (Write n offered answer) off = refl
not_unready link (Pause wants) off = refl
not_unready link (Shut n) off = refl

not_full : (link : ℕ) (call : wire.Call) → is_number link (link_of call) ≡ false → is_full link call ≡ false
not_full link (Connect to given) off = refl
not_full link (Listen at listener) off = refl
not_full link (Accept listener answer) off = refl
not_full link (Read n room answer) off = refl
not_full link (Write n offered (Sent bytes)) off = refl
not_full link (Write n offered Full) off = off
not_full link (Write n offered WriteFault) off = refl
not_full link (Pause wants) off = refl
not_full link (Shut n) off = refl

tried_off : (link : ℕ) (calls : List wire.Call) → calls_on link calls ≡ [] → IsTriedAtMost 0 link calls
tried_off link [] none = tried_none link
tried_off link (call ∷ calls) none = go (is_number link (link_of call)) refl none (λ rest. tried_off link calls rest)
  where
    go : (b : Bool) → is_number link (link_of call) ≡ b → cond b (call ∷ calls_on link calls) (calls_on link calls) ≡ [] → (calls_on link calls ≡ [] → IsTriedAtMost 0 link calls) → IsTriedAtMost 0 link (call ∷ calls)
    go true is some behind = absurd (no_call call (calls_on link calls) some)
    go false is rest behind =
        let off = behind rest in
        record { reads = none_more (is_unready link) call calls (not_unready link call is) off.reads; writes = none_more (is_full link) call calls (not_full link call is) off.writes }

pub untired_idly : (a b : Option (List wire.Call)) → GoesIdly a b → TriesAtMost 0 a b
untired_idly a b idly = record {
  on = λ all is.
      let idle = idly.on all is in
      record { before = idle.before; more = idle.more; was = idle.was; now = idle.are; are = λ link. tried_off link idle.more (idle.quiet link) };
}
