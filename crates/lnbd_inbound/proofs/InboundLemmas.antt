-- What each call on wires that peers ask for answers and leaves, from the call beneath.
use Rattle.std.proofs.Common.{◌≡◌, zero, suc, ℕ, ◌+◌, ◌≤◌, ◌<◌, nat_le, nat_lt, ◌==◌, Bool, true, false, not, ◌&&◌, ◌||◌, if◌then◌else◌, List, [], ◌∷◌, Option, Some, None, length, map, refl, sym, ◌∙◌, ap, subst, arith}
use Rattle.std.specs.Prelude.{All, slice_set}
use Rattle.std.proofs.lemmas.Bool.{lt-ltb}
use Rattle.std.proofs.lemmas.Bool.Decides.{nat_tests}
use Rattle.std.proofs.lemmas.List.{set-get_or}
use Rattle.std.proofs.lemmas.Grind.{common_steps}
use Rattle.lnbd_model.specs.declared.target.Target.{Target}
use Rattle.lnbd_link.specs.declared.left.ListLink.{ListLink}
use Rattle.lnbd_link.specs.declared.wires.Accepted.{Accepted}
use Rattle.lnbd_link.specs.declared.wires.Accepted.TheVariants as accepted
use Rattle.lnbd_link.specs.declared.wires.Got.{Got}
use Rattle.lnbd_link.specs.declared.wires.Got.TheVariants as got
use Rattle.lnbd_link.specs.Answers.{ReadFailed}
use Rattle.lnbd_link.specs.Call.{Call, Connect, Listen, Accept, Read, Write, Pause, Shut, ReadTold, Ended, ReadFault, WriteTold, WriteFault, read_told}
use Rattle.lnbd_link.specs.Connects.{is_connect}
use Rattle.lnbd_link.specs.Count.{raised_by}
use Rattle.lnbd_link.specs.declared.wires.Want.{Want}
use Rattle.lnbd_link.specs.Left.{LinkLeft, reads_left}
use Rattle.lnbd_link.specs.Listed.{Listed, told_by, has_failed, has_room, lost, after, link_at, no_link, with_read, with_write, answer_read, answer_write, next_link}
use Rattle.lnbd_link.specs.Numbers.{gives, is_given, open_by, is_open}
use Rattle.lnbd_link.specs.Part.{Adds}
use Rattle.lnbd_link.specs.Room.{cost, target_len, moved_by, sent_by}
use Rattle.lnbd_inbound.specs.declared.marks.Mark.{Mark}
use Rattle.lnbd_inbound.specs.declared.marks.Mark.TheVariants as mark
use Rattle.lnbd_inbound.specs.Inbound.{lets_in, inbound_of, listener_left, next_accept, next_listener, inbound_read, after_read, inbound_write, after_write, waited_as}
use Rattle.lnbd_inbound.specs.Retold.{told_as, seen, added, accepted_of}
use Rattle.lnbd_inbound.specs.Standing.{Standing, Ready, Willing, Kept}
use Rattle.lnbd_inbound.proofs.StandingLemmas.{Marked, has_room-parts, after_lost, after_links, seen_after, covers, pairs_of, stands, stands_plain, stands_relinked, relinked, tells_call, same_after, connects_next, accepts_next, accepts_none, refuses, listens_first, listens_later, waits, read_relinks, read_seen, read_answered, read_ready, write_relinks, write_seen, write_answered, write_ready, fresh_told, open_told, added_idle, added_covers}

-- One call.

module _ (w : Listed) (v : Marked) (next many : ℕ) (hears : Bool) (k : Kept w v next hears many) (m : Mark) (c d : Call) (tells : told_as m c ≡ d) (costs : 1 ≤ cost c) (w' : Listed) (v' : Marked) (beneath : w' ≡ after w c) (marked : v' ≡ added m v) where
  pub state_of : (self : Listed) → seen v.0 w ≡ self → cost c ≡ cost d → has_failed c ≡ has_failed d → seen v'.0 w' ≡ after self d
  state_of self view same fails =
      ap (λ (x : Marked). seen x.0 w') marked ∙ ap (λ x. seen (added m v).0 x) beneath ∙ seen_after w v m c d k.covered (pairs_of w v next hears k.standing) tells same fails costs ∙ ap (λ x. after x d) view

  keep : (next' : ℕ) (hears' : Bool) → ((after w c).telling ≡ true → Standing (after w c) (added m v).0 (added m v).1 next' hears') → Kept w' v' next' hears' many
  keep next' hears' standing = subst (λ x. Kept x v' next' hears' many) (sym beneath) (subst (λ (x : Marked). Kept (after w c) x next' hears' many) (sym marked) (record {
    covered = covers w v m c k.covered (pairs_of w v next hears k.standing) costs;
    ready = subst (λ l. Ready l many) (sym (after_links w c)) k.ready;
    standing = standing;
  }))

  -- it makes, gives, opens and lets in nothing
  pub kept_plain : is_connect c ≡ false → gives 0 c ≡ false → lets_in d ≡ false → open_by 0 hears c ≡ hears → Kept w' v' next hears many
  kept_plain nc ng nl o = keep next hears (stands_plain w v m c d next hears tells costs nc ng nl o k.standing)

-- The object's own value.

-- where it has room, the wires beneath tell
telling_of : (w : Listed) (ms : List Mark) (self : Listed) (n : ℕ) → seen ms w ≡ self → has_room self n ≡ true → w.telling ≡ true
telling_of w ms self n view room = ap (λ x. x.telling) view ∙ (has_room-parts self n room).0

if_told : {A : Type 0} (b : Bool) (x y z : A) → (b ≡ true → x ≡ y) → (b ≡ false → x ≡ z) → x ≡ (if b then y else z)
if_told true x y z f g = f refl
if_told false x y z f g = g refl

-- a connect that gave a number had room, and gave the next one
pub gave : (b : Bool) (x : Option ℕ) (n : ℕ) → Some n ≡ (if b then x else None) → (b ≡ true) × (x ≡ Some n)
gave true x n e = (refl, sym e)
gave false x n e = absurd (cc e)

-- a connect that gave none had no room, where a next number is left
gave_none : (b : Bool) (x : Option ℕ) (n : ℕ) → None ≡ (if b then x else None) → x ≡ Some n → b ≡ false
gave_none true x n e is = absurd (cc (e, is))
gave_none false x n e is = refl

some_calls : (xs ys : List Call) → Some xs ≡ Some ys → xs ≡ ys
some_calls xs ys e = cc e

same_some : (m n : ℕ) → Some m ≡ Some n → m ≡ n
same_some m n e = cc e

-- Listen.

module _ (w : Listed) (v : Marked) (next many : ℕ) (hears : Bool) (k : Kept w v next hears many) (self : Listed) (view : seen v.0 w ≡ self) where
  listener_first : (n : ℕ) → next ≡ 0 → has_room self n ≡ true → next_listener self ≡ Some 0
  listener_first n none room = ap next_listener (sym view) ∙ listens_first w v.0 v.1 next many hears (k.standing (telling_of w v.0 self n view room)) k.ready none

  listener_later : (n : ℕ) → 0 < next → has_room self n ≡ true → next_listener self ≡ None
  listener_later n some room = ap next_listener (sym view) ∙ listens_later w v.0 v.1 next many hears (k.standing (telling_of w v.0 self n view room)) k.ready some

  pub later_state : (at : Target) (new : Listed) → 0 < next → new ≡ after self (Listen at None) → new ≡ after self (Listen at (next_listener self))
  later_state at new some is = is ∙ same_after self (Listen at None) (Listen at (next_listener self)) refl (λ room. ap (λ l. Listen at l) (sym (listener_later _ some room)))

  pub later_answer : (n : ℕ) (told : Option ℕ) → 0 < next → told ≡ None → told ≡ (if has_room self n then next_listener self else None)
  later_answer n told some is = if_told (has_room self n) told (next_listener self) None (λ room. is ∙ sym (listener_later n some room)) (λ lost. is)

  -- the connect beneath gives 0, as the first listen does
  first_link : (n : ℕ) → 0 < many → next ≡ 0 → has_room w n ≡ true → next_link w ≡ Some 0
  first_link n some none room = connects_next w v.0 v.1 next many hears (k.standing (has_room-parts w n room).0) k.ready (omega (arith, some, none)) ∙ ap (λ x. Some x) none

  pub first_state : (at : Target) (new : Listed) → 0 < many → next ≡ 0 → new ≡ after self (Listen at (next_link w)) → new ≡ after self (Listen at (next_listener self))
  first_state at new some none is =
      is ∙ same_after self (Listen at (next_link w)) (Listen at (next_listener self)) refl (λ room. ap (λ l. Listen at l) (first_link (1 + target_len at) some none (beneath_room (1 + target_len at) room) ∙ sym (listener_first _ none room)))
    where
      beneath_room : (n : ℕ) → has_room self n ≡ true → has_room w n ≡ true
      beneath_room n room = ap (λ (x : Listed). has_room x n) view ∙ room

  pub first_answer : (n : ℕ) (told : Option ℕ) → 0 < many → next ≡ 0 → told ≡ (if has_room w n then next_link w else None) → told ≡ (if has_room self n then next_listener self else None)
  first_answer n told some none is =
      is ∙ if_told (has_room self n) (if has_room w n then next_link w else None) (next_listener self) None yes no
    where
      same : has_room w n ≡ has_room self n
      same = ap (λ (x : Listed). has_room x n) view

      yes : has_room self n ≡ true → (if has_room w n then next_link w else None) ≡ next_listener self
      yes room = ap (λ b. if b then next_link w else None) (same ∙ room) ∙ first_link n some none (same ∙ room) ∙ sym (listener_first n none room)

      no : has_room self n ≡ false → (if has_room w n then next_link w else None) ≡ None
      no room = ap (λ b. if b then next_link w else None) (same ∙ room)

  pub listen_told : (at : Target) (new : Listed) (told : Option ℕ) → new ≡ after self (Listen at (next_listener self)) → told ≡ (if has_room self (1 + target_len at) then next_listener self else None) → Adds (told_by self) (told_by new) (Listen at told)
  listen_told at new told state answer = tells_call self new (Listen at (next_listener self)) (Listen at told) state (λ room. ap (λ l. Listen at l) (answer ∙ ap (λ b. if b then next_listener self else None) room))

  -- no number was given before the first
  pub first_fresh : (calls : List Call) → next ≡ 0 → told_by self ≡ Some calls → is_given 0 calls ≡ false
  first_fresh calls none told =
      let there : told_by (seen v.0 w) ≡ Some calls = ap told_by view ∙ told in
      fresh_told v.0 w calls there 0 (λ cs is. given cs is)
    where
      given : (cs : List Call) → told_by w ≡ Some cs → is_given 0 cs ≡ false
      given cs is = by w.telling refl is
        where
          by : (b : Bool) → w.telling ≡ b → (if b then Some w.calls else None) ≡ Some cs → is_given 0 cs ≡ false
          by true e t = let s = k.standing e in ap (λ x. is_given 0 x) (sym (some_calls w.calls cs t)) ∙ s.heard ∙ ap (λ n. nat_lt 0 n) none
          by false e t = absurd (cc t)

-- the first listen, which had room
pub listen_kept : (w : Listed) (v : Marked) (next many : ℕ) (hears : Bool) → Kept w v next hears many → (at : Target) (w' : Listed) (v' : Marked) (link : ℕ) → 0 < many → next ≡ 0 → w' ≡ after w (Connect at (next_link w)) → v' ≡ added mark.Swapped v → Some link ≡ (if has_room w (1 + target_len at) then next_link w else None) → Kept w' v' 1 true many × (link ≡ 0)
listen_kept w v next many hears k at w' v' link some none beneath marked answer =
    let given = gave (has_room w (1 + target_len at)) (next_link w) link answer in
    let first : next_link w ≡ Some 0 = first_link w v next many hears k (seen v.0 w) refl (1 + target_len at) some none given.0 in
    let call : w' ≡ after w (Connect at (Some 0)) = beneath ∙ ap (λ l. after w (Connect at l)) first in
    (keep w v next many hears k mark.Swapped (Connect at (Some 0)) (Listen at (Some 0)) refl (omega arith) w' v' call marked 1 true (stands w v mark.Swapped (Connect at (Some 0)) (Listen at (Some 0)) next 1 hears true refl (omega arith) (omega (arith, none)) (rw none refl) (omega (arith, none)) refl (λ was is. omega arith) k.standing), same_some link 0 (sym given.1 ∙ first))

-- Accept.

pub fails_alike : (to : Target) (l : Option ℕ) → has_failed (Connect to l) ≡ has_failed (Accept 0 (accepted_of l))
fails_alike to None = refl
fails_alike to (Some n) = refl

module _ (w : Listed) (v : Marked) (next many : ℕ) (hears : Bool) (k : Kept w v next hears many) (self : Listed) (view : seen v.0 w ≡ self) where
  standing_at : (n : ℕ) → has_room self n ≡ true → Standing w v.0 v.1 next hears
  standing_at n room = k.standing (telling_of w v.0 self n view room)

  refused_as : (listener n : ℕ) → (listener ≡ 0 → hears ≡ false) → has_room self n ≡ true → next_accept self listener ≡ accepted.Failed
  refused_as listener n shut room = ap (λ (x : Listed). next_accept x listener) (sym view) ∙ refuses w v.0 v.1 next many hears (standing_at n room) k.ready listener shut

  pub refused_state : (listener : ℕ) (new : Listed) → (listener ≡ 0 → hears ≡ false) → new ≡ after self (Accept listener accepted.Failed) → new ≡ after self (Accept listener (next_accept self listener))
  refused_state listener new shut is = is ∙ same_after self (Accept listener accepted.Failed) (Accept listener (next_accept self listener)) refl (λ room. ap (λ a. Accept listener a) (sym (refused_as listener _ shut room)))

  pub refused_answer : (listener : ℕ) (told : Accepted) → (listener ≡ 0 → hears ≡ false) → told ≡ accepted.Failed → told ≡ (if has_room self 1 then next_accept self listener else accepted.Failed)
  refused_answer listener told shut is = is ∙ if_told (has_room self 1) accepted.Failed (next_accept self listener) accepted.Failed (λ room. sym (refused_as listener 1 shut room)) (λ lost. refl)

  pub accept_told : (listener : ℕ) (new : Listed) (told : Accepted) → new ≡ after self (Accept listener (next_accept self listener)) → told ≡ (if has_room self 1 then next_accept self listener else accepted.Failed) → Adds (told_by self) (told_by new) (Accept listener told)
  accept_told listener new told state answer = tells_call self new (Accept listener (next_accept self listener)) (Accept listener told) state (λ room. ap (λ a. Accept listener a) (answer ∙ ap (λ b. if b then next_accept self listener else accepted.Failed) room))

  linked_as : (listener n : ℕ) → listener ≡ 0 → hears ≡ true → next < many → has_room self n ≡ true → next_accept self listener ≡ accepted.Link next
  linked_as listener n nil is within room = ap (λ (l : ℕ). next_accept self l) nil ∙ ap (λ (x : Listed). next_accept x 0) (sym view) ∙ accepts_next w v.0 v.1 next many hears (standing_at n room) k.ready is within

  waits_as : (listener n : ℕ) → listener ≡ 0 → hears ≡ true → many ≤ next → has_room self n ≡ true → next_accept self listener ≡ accepted.NotReady
  waits_as listener n nil is past room = ap (λ (l : ℕ). next_accept self l) nil ∙ ap (λ (x : Listed). next_accept x 0) (sym view) ∙ accepts_none w v.0 v.1 next many hears (standing_at n room) k.ready is past

  next_as : (n : ℕ) → next < many → has_room self n ≡ true → next_link w ≡ Some next
  next_as n within room = connects_next w v.0 v.1 next many hears (standing_at n room) k.ready within

  pub linked_state : (listener : ℕ) (new : Listed) → listener ≡ 0 → hears ≡ true → next < many → new ≡ after self (Accept 0 (accepted_of (next_link w))) → new ≡ after self (Accept listener (next_accept self listener))
  linked_state listener new nil is within state =
      state ∙ same_after self (Accept 0 (accepted_of (next_link w))) (Accept listener (next_accept self listener)) refl (λ room. ap (λ l. Accept 0 (accepted_of l)) (next_as 1 within room) ∙ ap (λ (l : ℕ). Accept l (accepted.Link next)) (sym nil) ∙ ap (λ a. Accept listener a) (sym (linked_as listener 1 nil is within room)))

  pub linked_answer : (listener link n : ℕ) → n ≡ 1 → listener ≡ 0 → hears ≡ true → next < many → Some link ≡ (if has_room w n then next_link w else None) → accepted.Link link ≡ (if has_room self 1 then next_accept self listener else accepted.Failed)
  linked_answer listener link n one nil is within answer =
      let given = gave (has_room w n) (next_link w) link answer in
      let room : has_room self 1 ≡ true = ap (λ (x : Listed). has_room x 1) (sym view) ∙ ap (λ i. has_room w i) (sym one) ∙ given.0 in
      let same : link ≡ next = same_some link next (sym given.1 ∙ next_as 1 within room) in
      ap (λ i. accepted.Link i) same ∙ sym (linked_as listener 1 nil is within room) ∙ ap (λ b. if b then next_accept self listener else accepted.Failed) (sym room)

  -- the listener is open, where its calls are told
  pub never_shut : (listener : ℕ) (calls : List Call) → listener ≡ 0 → hears ≡ true → told_by self ≡ Some calls → is_open listener calls ≡ false → ⊥
  never_shut listener calls nil is told shut =
      let there : told_by (seen v.0 w) ≡ Some calls = ap told_by view ∙ told in
      open_told v.0 w calls there 0 ⊥ contradicts (ap (λ (l : ℕ). is_open l calls) (sym nil) ∙ shut)
    where
      contradicts : (cs : List Call) → told_by w ≡ Some cs → is_open 0 cs ≡ false → ⊥
      contradicts cs t open_ = by w.telling refl t
        where
          by : (b : Bool) → w.telling ≡ b → (if b then Some w.calls else None) ≡ Some cs → ⊥
          by true e u =
              let s = k.standing e in
              let yes : is_open 0 cs ≡ true = ap (λ x. is_open 0 x) (sym (some_calls w.calls cs u)) ∙ s.open_is ∙ is in
              cc (yes, open_)
          by false e u = cc u

  pub accept_fresh : (link : ℕ) (calls : List Call) → ((cs : List Call) → told_by w ≡ Some cs → is_given link cs ≡ false) → told_by self ≡ Some calls → is_given link calls ≡ false
  accept_fresh link calls fresh told = fresh_told v.0 w calls (ap told_by view ∙ told) link fresh

  -- where no link is left a read of the listener beneath waits

  quiet_read : (l : LinkLeft) (room : ℕ) → l.reads ≡ [] → record l { reads = reads_left l.reads room } ≡ l
  quiet_read l room none = ap (λ r. record l { reads = reads_left r room }) none ∙ ap (λ r. record l { reads = r }) (sym none)

  read_nothing : (room : ℕ) → with_read w 0 room ≡ w
  read_nothing room = by (is_open 0 w.calls) refl
    where
      by : (b : Bool) → is_open 0 w.calls ≡ b → with_read w 0 room ≡ w
      by true e = rw e (ap (λ l. record w { links = slice_set w.links 0 l }) (quiet_read (link_at w 0) room k.ready.silent) ∙ ap (λ ls. record w { links = ls }) (set-get_or w.links 0 no_link))
      by false e = rw e refl

  pub waiting_beneath : (room : ℕ) (w' : Listed) (answer : ReadTold) → w' ≡ after (with_read w 0 room) (Read 0 room answer) → w' ≡ after w (Read 0 room answer)
  waiting_beneath room w' answer is = is ∙ ap (λ x. after x (Read 0 room answer)) (read_nothing room)

  pub waiting_state : (listener room : ℕ) (w' : Listed) (v' : Marked) → listener ≡ 0 → hears ≡ true → many ≤ next → w' ≡ after (with_read w 0 room) (Read 0 room (answer_read w 0 room)) → v' ≡ added mark.Accepts v → seen v'.0 w' ≡ after self (Accept listener (next_accept self listener))
  waiting_state listener room w' v' nil is past beneath marked = by w.telling refl
    where
      beneath_is : w' ≡ after w (Read 0 room (answer_read w 0 room))
      beneath_is = waiting_beneath room w' (answer_read w 0 room) beneath

      by : (b : Bool) → w.telling ≡ b → seen v'.0 w' ≡ after self (Accept listener (next_accept self listener))
      by true e =
          let ended : w' ≡ after w (Read 0 room Ended) = beneath_is ∙ ap (λ a. after w (Read 0 room a)) (waits w v.0 v.1 next many hears (k.standing e) k.ready room is) in
          state_of w v next many hears k mark.Accepts (Read 0 room Ended) (Accept 0 accepted.NotReady) refl (omega arith) w' v' ended marked self view refl refl
          ∙ same_after self (Accept 0 accepted.NotReady) (Accept listener (next_accept self listener)) refl (λ fits. ap (λ (l : ℕ). Accept l accepted.NotReady) (sym nil) ∙ ap (λ a. Accept listener a) (sym (waits_as listener 1 nil is past fits)))
      by false e =
          let none : has_room w (cost (Read 0 room (answer_read w 0 room))) ≡ false = ap (λ b. b && nat_le (cost (Read 0 room (answer_read w 0 room))) w.room) e in
          let lost_is : w' ≡ lost w = beneath_is ∙ after_lost w (Read 0 room (answer_read w 0 room)) none in
          let none_self : has_room self 1 ≡ false = ap (λ (x : Listed). has_room x 1) (sym view) ∙ ap (λ b. b && nat_le 1 w.room) e in
          ap (λ (x : Marked). seen x.0 w') marked ∙ ap (λ x. seen (added mark.Accepts v).0 x) lost_is ∙ ap (λ cs. lost (record w { calls = cs })) (added_idle mark.Accepts v w.calls k.covered) ∙ ap lost view ∙ sym (after_lost self (Accept listener (next_accept self listener)) none_self)

  waited_told : (g : Got) (into : List ℕ) (b : Bool) → read_told g into ≡ (if b then Ended else ReadFault) → waited_as g ≡ (if b then accepted.NotReady else accepted.Failed)
  waited_told (got.Bytes n) into true e = absurd (cc e)
  waited_told (got.Bytes n) into false e = refl
  waited_told got.NotReady into true e = absurd (cc e)
  waited_told got.NotReady into false e = refl
  waited_told got.End into true e = refl
  waited_told got.End into false e = absurd (cc e)
  waited_told got.Failed into true e = absurd (cc e)
  waited_told got.Failed into false e = refl

  pub waiting_answer : (listener room : ℕ) (g : Got) (into : List ℕ) → listener ≡ 0 → hears ≡ true → many ≤ next → read_told g into ≡ (if has_room w (1 + length (moved_by (answer_read w 0 room))) then answer_read w 0 room else ReadFault) → waited_as g ≡ (if has_room self 1 then next_accept self listener else accepted.Failed)
  waiting_answer listener room g into nil is past answer = by w.telling refl
    where
      same : has_room w 1 ≡ has_room self 1
      same = ap (λ (x : Listed). has_room x 1) view

      by : (b : Bool) → w.telling ≡ b → waited_as g ≡ (if has_room self 1 then next_accept self listener else accepted.Failed)
      by true e =
          let ended = waits w v.0 v.1 next many hears (k.standing e) k.ready room is in
          let told : read_told g into ≡ (if has_room w 1 then Ended else ReadFault) = answer ∙ ap (λ a. if has_room w (1 + length (moved_by a)) then a else ReadFault) ended in
          waited_told g into (has_room w 1) told ∙ ap (λ b. if b then accepted.NotReady else accepted.Failed) same ∙ fits (has_room self 1) refl
        where
          fits : (b : Bool) → has_room self 1 ≡ b → (if has_room self 1 then accepted.NotReady else accepted.Failed) ≡ (if has_room self 1 then next_accept self listener else accepted.Failed)
          fits true f = rw f (sym (waits_as listener 1 nil is past f))
          fits false f = rw f refl
      by false e =
          let none : has_room w 1 ≡ false = ap (λ b. b && nat_le 1 w.room) e in
          let told : read_told g into ≡ ReadFault = answer ∙ ap (λ b. if b && nat_le (1 + length (moved_by (answer_read w 0 room))) w.room then answer_read w 0 room else ReadFault) e in
          waited_told g into false told ∙ ap (λ b. if b then next_accept self listener else accepted.Failed) (sym none ∙ same)

-- an accept that gave a link
pub accept_kept : (w : Listed) (v : Marked) (next many : ℕ) (hears : Bool) → Kept w v next hears many → (nowhere : Target) (w' : Listed) (v' : Marked) (link : ℕ) → target_len nowhere ≡ 0 → hears ≡ true → next < many → w' ≡ after w (Connect nowhere (next_link w)) → v' ≡ added mark.Accepts v → Some link ≡ (if has_room w (1 + target_len nowhere) then next_link w else None) → Kept w' v' (next + 1) hears many
accept_kept w v next many hears k nowhere w' v' link empty is within beneath marked answer =
    let given = gave (has_room w (1 + target_len nowhere)) (next_link w) link answer in
    let s = k.standing (has_room-parts w (1 + target_len nowhere) given.0).0 in
    let some : 0 < next = s.opened is in
    let first : next_link w ≡ Some next = connects_next w v.0 v.1 next many hears s k.ready within in
    let call : w' ≡ after w (Connect nowhere (Some next)) = beneath ∙ ap (λ l. after w (Connect nowhere l)) first in
    let before : nat_lt 0 next ≡ true = lt-ltb 0 next some in
    let later : nat_lt 0 (next + 1) ≡ true = lt-ltb 0 (next + 1) (omega arith) in
    keep w v next many hears k mark.Accepts (Connect nowhere (Some next)) (Accept 0 (accepted.Link next)) refl (omega arith) w' v' call marked (next + 1) hears
    (stands w v mark.Accepts (Connect nowhere (Some next)) (Accept 0 (accepted.Link next)) next (next + 1) hears hears refl (omega arith) refl (rw (before, later) refl) (omega (arith, some)) (rw is (or_true (next == 0))) (λ was o. omega arith) k.standing)
  where
    or_true : (b : Bool) → (b || true) ≡ true
    or_true true = refl
    or_true false = refl

-- Reads.

read_failed : (g : Got) (into : List ℕ) → read_told g into ≡ ReadFault → ReadFailed g
read_failed (got.Bytes n) into e = cc e
read_failed got.NotReady into e = cc e
read_failed got.End into e = cc e
read_failed got.Failed into e = tt

-- a read of the listener
pub none_read : (self new : Listed) (link room : ℕ) → link ≡ 0 → new ≡ after self (Read 0 room ReadFault) → new ≡ after (after_read self link room) (Read link room (inbound_read self link room))
none_read self new link room nil is = is ∙ subst (λ (l : ℕ). after self (Read 0 room ReadFault) ≡ after (after_read self l room) (Read l room (inbound_read self l room))) (sym nil) refl

-- what a link has left is no matter to what is told
linked_told : (w : Listed) (links : List LinkLeft) (new : Listed) (c d : Call) → new ≡ after (relinked w links) c → (has_room w (cost c) ≡ true → d ≡ c) → Adds (told_by w) (told_by new) d
linked_told w links new c d state same = tells_call (relinked w links) new c d state same

module _ (self new : Listed) (link room : ℕ) (other : (link == 0) ≡ false) where
  after_read_is : after_read self link room ≡ relinked self (with_read self link room).links
  after_read_is = rw other (read_relinks self link room)

  pub read_tells : (d : ReadTold) → new ≡ after (after_read self link room) (Read link room (inbound_read self link room)) → d ≡ (if has_room self (1 + length (moved_by (inbound_read self link room))) then inbound_read self link room else ReadFault) → Adds (told_by self) (told_by new) (Read link room d)
  read_tells d state answer =
      linked_told self (with_read self link room).links new (Read link room (inbound_read self link room)) (Read link room d) (state ∙ ap (λ x. after x (Read link room (inbound_read self link room))) after_read_is) (λ fits. ap (λ a. Read link room a) (answer ∙ ap (λ b. if b then inbound_read self link room else ReadFault) fits))

module _ (w : Listed) (v : Marked) (next many : ℕ) (hears : Bool) (k : Kept w v next hears many) (link room : ℕ) (w' : Listed) (v' : Marked) (beneath : w' ≡ after (with_read w link room) (Read link room (answer_read w link room))) (marked : v' ≡ added mark.Same v) where
  abbrev read_links : List LinkLeft
  read_links = (with_read w link room).links

  read_still : Kept (relinked w read_links) v next hears many
  read_still = record { covered = k.covered; ready = read_ready w link room many k.ready; standing = λ told. stands_relinked w v.0 v.1 next hears read_links (k.standing told) }

  read_call : w' ≡ after (relinked w read_links) (Read link room (answer_read w link room))
  read_call = beneath ∙ ap (λ x. after x (Read link room (answer_read w link room))) (read_relinks w link room)

  pub read_kept : Kept w' v' next hears many
  read_kept = kept_plain (relinked w read_links) v next many hears read_still mark.Same (Read link room (answer_read w link room)) (Read link room (answer_read w link room)) refl (omega arith) w' v' read_call marked refl refl refl refl

  module _ (self : Listed) (view : seen v.0 w ≡ self) (other : (link == 0) ≡ false) where
    answers_same : answer_read w link room ≡ inbound_read self link room
    answers_same = sym (read_answered w link room v.0) ∙ ap (λ (x : Listed). answer_read x link room) view ∙ rw other refl

    pub read_state : seen v'.0 w' ≡ after (after_read self link room) (Read link room (inbound_read self link room))
    read_state =
        let left : seen v.0 (relinked w read_links) ≡ after_read self link room = ap (λ x. seen v.0 x) (sym (read_relinks w link room)) ∙ sym (read_seen w link room v.0) ∙ ap (λ (x : Listed). with_read x link room) view ∙ rw other refl in
        state_of (relinked w read_links) v next many hears read_still mark.Same (Read link room (answer_read w link room)) (Read link room (answer_read w link room)) refl (omega arith) w' v' read_call marked (after_read self link room) left refl refl
        ∙ ap (λ a. after (after_read self link room) (Read link room a)) answers_same

    pub read_answer : (d : ReadTold) → d ≡ (if has_room w (1 + length (moved_by (answer_read w link room))) then answer_read w link room else ReadFault) → d ≡ (if has_room self (1 + length (moved_by (inbound_read self link room))) then inbound_read self link room else ReadFault)
    read_answer d is =
        is ∙ ap (λ a. if has_room w (1 + length (moved_by a)) then a else ReadFault) answers_same
        ∙ ap (λ (x : Listed). if has_room x (1 + length (moved_by (inbound_read self link room))) then inbound_read self link room else ReadFault) view

-- Writes.

pub none_written : (self new : Listed) (link : ℕ) (from : List ℕ) → link ≡ 0 → new ≡ after self (Write 0 (length from) WriteFault) → new ≡ after (after_write self link) (Write link (length from) (inbound_write self link from))
none_written self new link from nil is = is ∙ subst (λ (l : ℕ). after self (Write 0 (length from) WriteFault) ≡ after (after_write self l) (Write l (length from) (inbound_write self l from))) (sym nil) refl

module _ (self new : Listed) (link : ℕ) (from : List ℕ) (other : (link == 0) ≡ false) where
  after_write_is : after_write self link ≡ relinked self (with_write self link).links
  after_write_is = rw other (write_relinks self link)

  pub write_tells : (d : WriteTold) → new ≡ after (after_write self link) (Write link (length from) (inbound_write self link from)) → d ≡ (if has_room self (1 + length (sent_by (inbound_write self link from))) then inbound_write self link from else WriteFault) → Adds (told_by self) (told_by new) (Write link (length from) d)
  write_tells d state answer =
      linked_told self (with_write self link).links new (Write link (length from) (inbound_write self link from)) (Write link (length from) d) (state ∙ ap (λ x. after x (Write link (length from) (inbound_write self link from))) after_write_is)
      (λ fits. ap (λ a. Write link (length from) a) (answer ∙ ap (λ b. if b then inbound_write self link from else WriteFault) fits))

module _ (w : Listed) (v : Marked) (next many : ℕ) (hears : Bool) (k : Kept w v next hears many) (link : ℕ) (from : List ℕ) (w' : Listed) (v' : Marked) (beneath : w' ≡ after (with_write w link) (Write link (length from) (answer_write w link from))) (marked : v' ≡ added mark.Same v) where
  abbrev write_links : List LinkLeft
  write_links = (with_write w link).links

  write_still : Kept (relinked w write_links) v next hears many
  write_still = record { covered = k.covered; ready = write_ready w link many k.ready; standing = λ told. stands_relinked w v.0 v.1 next hears write_links (k.standing told) }

  write_call : w' ≡ after (relinked w write_links) (Write link (length from) (answer_write w link from))
  write_call = beneath ∙ ap (λ x. after x (Write link (length from) (answer_write w link from))) (write_relinks w link)

  pub write_kept : Kept w' v' next hears many
  write_kept = kept_plain (relinked w write_links) v next many hears write_still mark.Same (Write link (length from) (answer_write w link from)) (Write link (length from) (answer_write w link from)) refl (omega arith) w' v' write_call marked refl refl refl refl

  module _ (self : Listed) (view : seen v.0 w ≡ self) (other : (link == 0) ≡ false) where
    written_same : answer_write w link from ≡ inbound_write self link from
    written_same = sym (write_answered w link v.0 from) ∙ ap (λ (x : Listed). answer_write x link from) view ∙ rw other refl

    pub write_state : seen v'.0 w' ≡ after (after_write self link) (Write link (length from) (inbound_write self link from))
    write_state =
        let left : seen v.0 (relinked w write_links) ≡ after_write self link = ap (λ x. seen v.0 x) (sym (write_relinks w link)) ∙ sym (write_seen w link v.0) ∙ ap (λ (x : Listed). with_write x link) view ∙ rw other refl in
        state_of (relinked w write_links) v next many hears write_still mark.Same (Write link (length from) (answer_write w link from)) (Write link (length from) (answer_write w link from)) refl (omega arith) w' v' write_call marked (after_write self link) left refl refl
        ∙ ap (λ a. after (after_write self link) (Write link (length from) a)) written_same

    pub write_answer : (d : WriteTold) → d ≡ (if has_room w (1 + length (sent_by (answer_write w link from))) then answer_write w link from else WriteFault) → d ≡ (if has_room self (1 + length (sent_by (inbound_write self link from))) then inbound_write self link from else WriteFault)
    write_answer d is =
        is ∙ ap (λ a. if has_room w (1 + length (sent_by a)) then a else WriteFault) written_same
        ∙ ap (λ (x : Listed). if has_room x (1 + length (sent_by (inbound_write self link from))) then inbound_write self link from else WriteFault) view

-- not the listener's number
pub no_listener : (link : ℕ) → (link ≡ 0 → ⊥) → (link == 0) ≡ false
no_listener link other = grind (arith, nat_tests, other)

-- what is not open beneath fails
pub read_opened : (ms : List Mark) (w self : Listed) (link : ℕ) (P : Type 0) → seen ms w ≡ self → ((cs : List Call) → told_by w ≡ Some cs → is_open link cs ≡ false → P) → (calls : List Call) → told_by self ≡ Some calls → is_open link calls ≡ false → P
read_opened ms w self link P view fails calls told = open_told ms w calls (ap told_by view ∙ told) link P fails

-- Shut.

pub shut_kept : (w : Listed) (v : Marked) (next many : ℕ) (hears hears' : Bool) → Kept w v next hears many → (link : ℕ) (w' : Listed) (v' : Marked) → w' ≡ after w (Shut link) → v' ≡ added mark.Same v → (not (link == 0) && hears) ≡ hears' → Kept w' v' next hears' many
shut_kept w v next many hears hears' k link w' v' beneath marked shut =
    keep w v next many hears k mark.Same (Shut link) (Shut link) refl (omega arith) w' v' beneath marked next hears' (stands w v mark.Same (Shut link) (Shut link) next next hears hears' refl (omega arith) (omega arith) (or_none (nat_lt 0 next)) (omega arith) shut (λ was is. was (heard_before (link == 0) (shut ∙ is))) k.standing)
  where
    or_none : (b : Bool) → (b || (false || false)) ≡ b
    or_none true = refl
    or_none false = refl

    heard_before : (b : Bool) → (not b && hears) ≡ true → hears ≡ true
    heard_before true e = absurd (cc e)
    heard_before false e = e

pub shut_listener : (link : ℕ) (hears : Bool) → link ≡ 0 → (not (link == 0) && hears) ≡ false
shut_listener link hears nil = rw nil refl

pub shut_other : (link : ℕ) (hears : Bool) → (link ≡ 0 → ⊥) → (not (link == 0) && hears) ≡ hears
shut_other link hears other = rw (no_listener link other) refl

-- New.

all_willing : (xs : List ListLink) → All Willing (map inbound_of xs)
all_willing [] n d within = absurd (omega (arith, within))
all_willing (x ∷ xs) zero d within = refl
all_willing (x ∷ xs) (suc n) d within = all_willing xs n d (omega (arith, within))

listener_willing : (xs : List ListLink) → All Willing (listener_left ∷ map inbound_of xs)
listener_willing xs zero d within = refl
listener_willing xs (suc n) d within = all_willing xs n d (omega (arith, within))

pub new_kept : (w : Listed) (v : Marked) (links : List LinkLeft) (xs : List ListLink) (room step many : ℕ) → links ≡ listener_left ∷ map inbound_of xs → w ≡ record { links = links; calls = []; room = room; telling = true; faults = 0; idles = 0; step = step } → v ≡ ([], room) → many ≡ 1 + length xs → Kept w v 0 false many
new_kept w v links xs room step many made is marks count =
    subst (λ x. Kept x v 0 false many) (sym (is ∙ ap (λ l. record { links = l; calls = []; room = room; telling = true; faults = 0; idles = 0; step = step }) made)) (subst (λ (x : Marked). Kept (record { links = listener_left ∷ map inbound_of xs; calls = []; room = room; telling = true; faults = 0; idles = 0; step = step }) x 0 false many) (sym marks) (record {
      covered = omega arith;
      ready = record { willing = listener_willing xs; silent = refl; count = count ∙ counted xs };
      standing = λ told. record { paired = refl; fits = omega arith; made = refl; heard = refl; count = refl; open_is = refl; opened = λ o. absurd (cc o) };
    }))
  where
    counted : (ys : List ListLink) → 1 + length ys ≡ length (listener_left ∷ map inbound_of ys)
    counted ys = grind (arith, common_steps)

-- Pause.

abbrev waited_long : Listed → ℕ → Listed
waited_long w idles = record w { idles = idles }

kept_waited : (w : Listed) (v : Marked) (next many : ℕ) (hears : Bool) (idles : ℕ) → Kept w v next hears many → Kept (waited_long w idles) v next hears many
kept_waited w v next many hears idles k = record {
  covered = k.covered;
  ready = k.ready;
  standing = λ told. let s = k.standing told in record { paired = s.paired; fits = s.fits; made = s.made; heard = s.heard; count = s.count; open_is = s.open_is; opened = s.opened };
}

module _ (w : Listed) (v : Marked) (next many : ℕ) (hears : Bool) (k : Kept w v next hears many) (wants : List Want) (w' : Listed) (v' : Marked) (beneath : w' ≡ record (after w (Pause wants)) { idles = raised_by w.step w.idles }) (marked : v' ≡ added mark.Same v) where
  pub pause_kept : Kept w' v' next hears many
  pause_kept = subst (λ x. Kept x v' next hears many) (sym beneath) (kept_waited (after w (Pause wants)) v' next many hears (raised_by w.step w.idles) (kept_plain w v next many hears k mark.Same (Pause wants) (Pause wants) refl (omega arith) (after w (Pause wants)) v' refl marked refl refl refl refl))

  pub pause_state : (self : Listed) → seen v.0 w ≡ self → seen v'.0 w' ≡ record (after self (Pause wants)) { idles = raised_by self.step self.idles }
  pause_state self view =
      ap (λ x. seen v'.0 x) beneath ∙ ap (λ x. waited_long x (raised_by w.step w.idles)) (state_of w v next many hears k mark.Same (Pause wants) (Pause wants) refl (omega arith) (after w (Pause wants)) v' refl marked self view refl refl) ∙ ap (λ (x : Listed). waited_long (after self (Pause wants)) (raised_by x.step x.idles)) view

pub pause_told : (self new : Listed) (wants : List Want) → new ≡ record (after self (Pause wants)) { idles = raised_by self.step self.idles } → Adds (told_by self) (told_by new) (Pause wants)
pause_told self new wants is = subst (λ x. Adds (told_by self) (told_by x) (Pause wants)) (sym is) (tells_call self (after self (Pause wants)) (Pause wants) (Pause wants) refl (λ fits. refl))

pub waiting_kept : (w : Listed) (v : Marked) (next many : ℕ) (hears : Bool) → Kept w v next hears many → (room : ℕ) (w' : Listed) (v' : Marked) → hears ≡ true → w' ≡ after (with_read w 0 room) (Read 0 room (answer_read w 0 room)) → v' ≡ added mark.Accepts v → Kept w' v' next hears many
waiting_kept w v next many hears k room w' v' is beneath marked = by w.telling refl
  where
    beneath_is : w' ≡ after w (Read 0 room (answer_read w 0 room))
    beneath_is = waiting_beneath w v next many hears k (seen v.0 w) refl room w' (answer_read w 0 room) beneath

    by : (b : Bool) → w.telling ≡ b → Kept w' v' next hears many
    by true e =
        let ended : w' ≡ after w (Read 0 room Ended) = beneath_is ∙ ap (λ a. after w (Read 0 room a)) (waits w v.0 v.1 next many hears (k.standing e) k.ready room is) in
        kept_plain w v next many hears k mark.Accepts (Read 0 room Ended) (Accept 0 accepted.NotReady) refl (omega arith) w' v' ended marked refl refl refl refl
    by false e =
        let none : has_room w (cost (Read 0 room (answer_read w 0 room))) ≡ false = ap (λ b. b && nat_le (cost (Read 0 room (answer_read w 0 room))) w.room) e in
        let lost_is : w' ≡ lost w = beneath_is ∙ after_lost w (Read 0 room (answer_read w 0 room)) none in
        subst (λ x. Kept x v' next hears many) (sym lost_is) (subst (λ (x : Marked). Kept (lost w) x next hears many) (sym marked) (record { covered = added_covers mark.Accepts v (length w.calls) k.covered; ready = k.ready; standing = λ told. absurd (cc told) }))
