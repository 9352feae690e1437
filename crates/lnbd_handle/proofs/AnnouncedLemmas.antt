-- What the bytes that arrived announce, and that it stays so while they wait.
use Rattle.std.proofs.Common.{◌≡◌, ◌⊎◌, inl, inr, ℕ, ◌+◌, ◌<◌, ◌≤◌, Bool, true, false, ◌&&◌, if◌then◌else◌, nat_le, List, [], ◌∷◌, ◌++◌, length, take, drop, Option, Some, None, refl, ap, sym, ◌∙◌, subst, arith, append_assoc}
use Rattle.std.specs.Prelude.{IfSome}
use Rattle.std.proofs.lemmas.Bool.{cases_eq, cases_lt, false≢true, le-leb, leb-true}
use Rattle.std.proofs.lemmas.List.{length-append, length-take, length-take-le, take-append-drop, take-append-le, take_all, append-nil}
use Rattle.lnbd_keyed.specs.Keyed.{value_at, without, IsRising}
use Rattle.lnbd_keyed.proofs.LookupLaws.{value_at_left, value_at_without_other}
use Rattle.lnbd_model.specs.declared.breach.Breach.TheVariants.{UnknownCookie}
use Rattle.lnbd_records.specs.Numbers.{number_at}
use Rattle.lnbd_chunks.specs.Reply.{content_size}
use Rattle.lnbd_history.specs.declared.kinds.Phase.{Phase}
use Rattle.lnbd_history.specs.declared.kinds.Phase.TheVariants as phase
use Rattle.lnbd_history.specs.declared.kinds.Stage.{Stage}
use Rattle.lnbd_history.specs.declared.kinds.Stage.TheVariants.{Created, Open, Disconnecting, Aborting, Closed, Dead}
use Rattle.lnbd_history.specs.Arrivals.{Broken, Shown, Sight, Waiting, shows_at, shows_frame, shows_in}
use Rattle.lnbd_history.specs.Commands.{Command, request_of}
use Rattle.lnbd_history.specs.Outgoing.{ended}
use Rattle.lnbd_history.proofs.Steady.{stays_at}
use Rattle.lnbd_machine.specs.Machine.{Row, State, issued, new_row, retired, sight, waited, waited_of, waiting_row, writing}
use Rattle.lnbd_arrivals.specs.Frames.{Announces, announced_in, announced_to, front_size, replies_by, shows_by}
use Rattle.lnbd_arrivals.specs.declared.announced.Announced.{Announced}
use Rattle.lnbd_arrivals.specs.declared.announced.Carrier.TheVariants as carrier
use Rattle.lnbd_arrivals.specs.declared.replies.Replies.{Replies}
use Rattle.lnbd_arrivals.specs.declared.replies.Replies.TheVariants.{Simple}
use Rattle.lnbd_arrivals.proofs.Frames.{unknown_front}
use Rattle.lnbd_arrivals.proofs.Fronts.{announces_of, least_front, not_says, short_says, simple_says}
use Rattle.lnbd_handle.specs.declared.connection.Connection.{Connection}
use Rattle.lnbd_handle.specs.declared.pending.Pending.{Pending}
use Rattle.lnbd_handle.specs.Announcing.{announced_at, announced_by_front, announced_where, is_speaking, replies_in, takes_replies}
use Rattle.lnbd_handle.specs.Held.{data_in, held_in}
use Rattle.lnbd_handle.specs.Room.{AreOrdered, IsKept, KeepsFront, KeepsFrontAt, RepliesSimply}
use Rattle.lnbd_handle.specs.Seen.{state_of}
use Rattle.lnbd_handle.specs.Turns.{Brings, ShowsNothing}
use Rattle.lnbd_handle.proofs.CalmLemmas.{frame_lacks, simple_shows}

-- what shows where replies may come
frame_at : (stage : Stage) (seen : Sight) (waits : ℕ → Option Waiting) (bytes : List ℕ) → is_speaking stage ≡ true → seen.phase ≡ phase.Ready → shows_at stage seen waits bytes ≡ shows_frame seen.structured seen.extended waits bytes
frame_at Created seen waits bytes speaking ready = absurd (false≢true speaking)
frame_at Open seen waits bytes speaking ready = ap (λ q. shows_in q seen waits bytes) ready
frame_at Disconnecting seen waits bytes speaking ready = ap (λ q. shows_in q seen waits bytes) ready
frame_at Aborting seen waits bytes speaking ready = absurd (false≢true speaking)
frame_at Closed seen waits bytes speaking ready = absurd (false≢true speaking)
frame_at (Dead cause) seen waits bytes speaking ready = absurd (false≢true speaking)

is_ready : (p : Phase) → takes_replies p ≡ true → p ≡ phase.Ready
is_ready phase.Greeting e = absurd (false≢true e)
is_ready (phase.Asked option) e = absurd (false≢true e)
is_ready phase.AskedByName e = absurd (false≢true e)
is_ready phase.OptMode e = absurd (false≢true e)
is_ready phase.Ready e = refl
is_ready (phase.Refused code) e = absurd (false≢true e)

-- What shows where the server replies so.
pub agree : (structured extended : Bool) (waits : ℕ → Option Waiting) (bytes : List ℕ) → AreOrdered structured extended → shows_frame structured extended waits bytes ≡ shows_by (replies_by structured extended) waits bytes
agree true true waits bytes ordered = refl
agree true false waits bytes ordered = refl
agree false true waits bytes ordered = absurd (false≢true (ordered refl))
agree false false waits bytes ordered = refl

pub replies_simply : (structured extended : Bool) → structured ≡ false → extended ≡ false → replies_by structured extended ≡ Simple
replies_simply true extended s x = absurd (false≢true (sym s))
replies_simply false true s x = absurd (false≢true (sym x))
replies_simply false false s x = refl

no_one : (found : Announced) → None ≡ Some found → ⊥
no_one found e = cc

not_both : (shown : Option Shown) (found : Shown) → shown ≡ None → shown ≡ Some found → ⊥
not_both shown found none some = cc

module _ {K : Type 0} where
  -- where no replies to commands come nothing is announced
  pub not_speaking : (state : State K) (front : List ℕ) → is_speaking state.stage ≡ false → announced_at state front ≡ None
  not_speaking state front e = ap (λ (b : Bool). if b && takes_replies state.talk.phase then announced_in (replies_in state) (waited state) front else None) e

  pub not_ready : (state : State K) (front : List ℕ) → takes_replies state.talk.phase ≡ false → announced_at state front ≡ None
  not_ready state front e = go (is_speaking state.stage)
    where
      go : (b : Bool) → (if b && takes_replies state.talk.phase then announced_in (replies_in state) (waited state) front else None) ≡ None
      go true = ap (λ (b : Bool). if b then announced_in (replies_in state) (waited state) front else None) e
      go false = refl

  pub announced_come : (state : State K) (front : List ℕ) → is_speaking state.stage ≡ true → state.talk.phase ≡ phase.Ready → announced_at state front ≡ announced_in (replies_in state) (waited state) front
  announced_come state front speaking ready =
      let both : (is_speaking state.stage && takes_replies state.talk.phase) ≡ true = rw (speaking, ready) refl in
      ap (λ (b : Bool). if b then announced_in (replies_in state) (waited state) front else None) both

  -- nor by fewer bytes than stand before the data
  pub short_none : (state : State K) (front : List ℕ) → length front < front_size (replies_in state) → announced_at state front ≡ None
  short_none state front short = go (is_speaking state.stage && takes_replies state.talk.phase)
    where
      go : (b : Bool) → (if b then announced_in (replies_in state) (waited state) front else None) ≡ None
      go true = short_says (replies_in state) _ front short
      go false = refl

  -- What is announced.
  pub record IsAnnounced (state : State K) (front : List ℕ) (announced : Announced) : Type 0 where
    pub speaking : is_speaking state.stage ≡ true
    pub ready : state.talk.phase ≡ phase.Ready
    pub announces : Announces (replies_in state) (waited state) front announced

  pub is_announced : (state : State K) (front : List ℕ) (announced : Announced) → announced_at state front ≡ Some announced → IsAnnounced state front announced
  is_announced state front announced e = go (is_speaking state.stage) (takes_replies state.talk.phase) refl refl
    where
      go : (a b : Bool) → is_speaking state.stage ≡ a → takes_replies state.talk.phase ≡ b → IsAnnounced state front announced
      go true true s r =
          let ready = is_ready state.talk.phase r in
          record { speaking = s; ready = ready; announces = announces_of (replies_in state) (waited state) front announced (sym (announced_come state front s ready) ∙ e) }
      go true false s r = absurd (no_one announced (sym (not_ready state front r) ∙ e))
      go false b s r = absurd (no_one announced (sym (not_speaking state front s) ∙ e))

  pub brings_of : (c : Connection K) (front : List ℕ) (announced : Announced) → AreOrdered c.talk.structured c.talk.extended → announced_at (state_of c) front ≡ Some announced → Brings c front announced
  brings_of c front announced ordered e =
      let is = is_announced (state_of c) front announced e in
      record {
        speaking = is.speaking;
        ready = is.ready;
        replies = replies_in (state_of c);
        agreed = λ waits bytes. sym (agree c.talk.structured c.talk.extended waits bytes ordered);
        is = refl;
        simple = λ s x. replies_simply c.talk.structured c.talk.extended s x;
        announces = is.announces;
      }

  -- what was found at the front of some bytes
  pub told_front : (state : State K) (replies : Replies) (bytes : List ℕ) (found : Option Announced) → is_speaking state.stage ≡ true → state.talk.phase ≡ phase.Ready → replies ≡ replies_in state → announced_in replies (waited state) (take (front_size replies) bytes) ≡ found →
      found ≡ announced_by_front state bytes
  told_front state replies bytes found speaking ready is e =
      sym (announced_come state (take (front_size (replies_in state)) bytes) speaking ready ∙ sym (ap (λ (r : Replies). announced_in r (waited state) (take (front_size r) bytes)) is) ∙ e)

  -- what replies show where they may come
  pub shows_reply : (state : State K) (bytes : List ℕ) → AreOrdered state.talk.structured state.talk.extended → is_speaking state.stage ≡ true → state.talk.phase ≡ phase.Ready →
      shows_at state.stage (sight state) (waited state) bytes ≡ shows_by (replies_in state) (waited state) bytes
  shows_reply state bytes ordered speaking ready = frame_at state.stage (sight state) (waited state) bytes speaking ready ∙ agree state.talk.structured state.talk.extended (waited state) bytes ordered

  -- what begins with bytes that show something shows it
  not_nothing : (state : State K) (front more bytes : List ℕ) (found : Shown) → front ++ more ≡ bytes → shows_at state.stage (sight state) (waited state) front ≡ Some found → ShowsNothing state bytes → ⊥
  not_nothing state front more bytes found is shown nothing =
      not_both (shows_at state.stage (sight state) (waited state) bytes) found nothing (subst (λ (b : List ℕ). shows_at state.stage (sight state) (waited state) b ≡ Some found) is (stays_at state.stage (sight state) (waited state) front more found shown))

  -- Where nothing is shown yet not all of the data are there that were announced.
  pub announced_short : (state : State K) (front rest : List ℕ) (announced : Announced) → AreOrdered state.talk.structured state.talk.extended → announced_at state front ≡ Some announced → ShowsNothing state (front ++ rest) → length rest < announced.size
  announced_short state front rest announced ordered e nothing = go (cases_lt (length rest) announced.size)
    where
      go : (length rest < announced.size) ⊎ (announced.size ≤ length rest) → length rest < announced.size
      go (inl less) = less
      go (inr most) =
          let is = is_announced state front announced e in
          let content = take announced.size rest in
          let whole = is.announces.whole content (length-take-le announced.size rest most) in
          let joined : (front ++ content) ++ drop announced.size rest ≡ front ++ rest = append_assoc front content (drop announced.size rest) ∙ ap (λ (d : List ℕ). front ++ d) (take-append-drop announced.size rest) in
          absurd (not_nothing state (front ++ content) (drop announced.size rest) (front ++ rest) _ joined (shows_reply state (front ++ content) ordered is.speaking is.ready ∙ whole.shown) nothing)

  -- Where simple replies alone come a whole head that shows nothing yet announces data.
  pub simply_says : (state : State K) (bytes : List ℕ) → RepliesSimply state.stage state.talk.phase state.talk.structured state.talk.extended → ShowsNothing state bytes → 16 ≤ length bytes → announced_by_front state bytes ≡ None → ⊥
  simply_says state bytes simply nothing long none =
      let l = frame_lacks (waited state) bytes long (sym (simple_shows state.stage (sight state) (waited state) bytes simply) ∙ nothing) in
      let counts : content_size l.command (number_at 4 4 bytes) ≡ l.command.length = rw (l.error, l.read) refl in
      let alone = replies_simply state.talk.structured state.talk.extended simply.compact simply.short in
      let says = simple_says (waited state) bytes long l.magic l.command l.there Simple (number_at 8 8 bytes) (number_at 4 4 bytes) (content_size l.command (number_at 4 4 bytes)) refl refl refl refl refl (omega (arith, l.short, counts)) in
      let here = announced_come state (take (front_size (replies_in state)) bytes) simply.speaking simply.ready ∙ subst (λ (r : Replies). announced_in r (waited state) (take (front_size r) bytes) ≡ Some (record { cookie = number_at 8 8 bytes; offset = l.command.offset; size = content_size l.command (number_at 4 4 bytes); carrier = carrier.Reply })) (sym alone) says in
      no_one _ (sym none ∙ here)

-- What is waited for stays so.

pub Grows : (ℕ → Option Waiting) → (ℕ → Option Waiting) → Type 0
Grows early late = (cookie : ℕ) (command : Waiting) → early cookie ≡ Some command → late cookie ≡ Some command

module _ {K : Type 0} where
  waiting_left : (b : Bool) (rows : List (ℕ × Row K)) (cookie : ℕ) (new : ℕ × Row K) (command : Waiting) → waited_of b (value_at cookie rows) ≡ Some command → waited_of b (value_at cookie (rows ++ new ∷ [])) ≡ Some command
  waiting_left b rows cookie new command e = go b (value_at cookie rows) refl e
    where
      go : (b : Bool) (r : Option (Row K)) → value_at cookie rows ≡ r → waited_of b r ≡ Some command → waited_of b (value_at cookie (rows ++ new ∷ [])) ≡ Some command
      go false r w e = cc
      go true None w e = cc
      go true (Some row) w e = ap (waited_of true) (value_at_left cookie row rows (new ∷ []) w) ∙ e

  waiting_later : (b d : Bool) (r : Option (Row K)) (command : Waiting) → (b ≡ true → d ≡ true) → waited_of b r ≡ Some command → waited_of d r ≡ Some command
  waiting_later false d r command more e = cc
  waiting_later true d r command more e = ap (λ (x : Bool). waited_of x r) (more refl) ∙ e

  pub issued_grows : (command : Command K) (state : State K) → Grows (waited state) (waited (issued command state))
  unfolding Grows
  issued_grows command state c w e = waiting_left (nat_le c state.written) state.rows c (state.issued + 1, new_row (request_of state.admitted command)) w e

  pub wrote_grows : (n : ℕ) (state : State K) → Grows (waited state) (waited (writing n state))
  unfolding Grows
  wrote_grows n state c w e = waiting_later (nat_le c state.written) (nat_le c (state.written + ended state.waits n)) (value_at c state.rows) w
      (λ f. le-leb c (state.written + ended state.waits n) (let low = leb-true c state.written f in omega (arith, low))) e

  pub retired_grows : (cookie : ℕ) (state : State K) → IsRising state.rows → ((row : Row K) → value_at cookie state.rows ≡ Some row → row.flight ≡ None) → Grows (waited state) (waited (retired cookie state))
  unfolding Grows
  retired_grows cookie state rising idle c w e = go (cases_eq c cookie)
    where
      none : (b : Bool) (r : Option (Row K)) → value_at cookie state.rows ≡ r → waited_of b r ≡ Some w → ⊥
      none false r v f = cc
      none true None v f = cc
      none true (Some row) v f = let bad : None ≡ Some w = sym (ap (λ fl. waiting_row fl row) (idle row v)) ∙ f in cc

      go : (c ≡ cookie) ⊎ (c ≡ cookie → ⊥) → waited_of (nat_le c state.written) (value_at c (without cookie state.rows)) ≡ Some w
      go (inl is) = absurd (none (nat_le c state.written) (value_at cookie state.rows) refl (sym (ap (λ (x : ℕ). waited_of (nat_le c state.written) (value_at x state.rows)) is) ∙ e))
      go (inr other) = ap (waited_of (nat_le c state.written)) (value_at_without_other c cookie state.rows other) ∙ e

  -- So what is announced stays so: a whole front of which the command is not known would be a breach.
  pub announced_stays : (state : State K) (late : ℕ → Option Waiting) (bytes : List ℕ) → AreOrdered state.talk.structured state.talk.extended → Grows (waited state) late → ShowsNothing state bytes →
      announced_where state.stage state.talk.phase (replies_in state) late (take (front_size (replies_in state)) bytes) ≡ announced_by_front state bytes
  unfolding Grows
  announced_stays state late bytes ordered grows nothing = go (is_speaking state.stage) (takes_replies state.talk.phase) refl refl
    where
      replies : Replies
      replies = replies_in state

      front : List ℕ
      front = take (front_size (replies_in state)) bytes

      known : (speaking : is_speaking state.stage ≡ true) (ready : state.talk.phase ≡ phase.Ready) (early later : Option Waiting) → waited state (number_at 8 8 front) ≡ early → late (number_at 8 8 front) ≡ later → announced_to replies later front ≡ announced_to replies early front
      known speaking ready (Some command) later e l = ap (λ (w : Option Waiting). announced_to replies w front) (sym l ∙ grows (number_at 8 8 front) command e)
      known speaking ready None None e l = refl
      known speaking ready None (Some command) e l = not_says replies command front
          (λ is. not_nothing state front (drop (front_size (replies_in state)) bytes) bytes (Broken UnknownCookie) (take-append-drop (front_size (replies_in state)) bytes)
          (shows_reply state front ordered speaking ready ∙ unknown_front replies (waited state) command front is e) nothing)

      go : (a b : Bool) → is_speaking state.stage ≡ a → takes_replies state.talk.phase ≡ b →
          announced_where state.stage state.talk.phase (replies_in state) late front ≡ announced_where state.stage state.talk.phase (replies_in state) (waited state) front
      go true true s r = rw (s, r) (known s (is_ready state.talk.phase r) (waited state (number_at 8 8 front)) (late (number_at 8 8 front)) refl refl)
      go true false s r = rw (s, r) refl
      go false b s r = rw s refl

-- What is kept of the front with the bytes that are held.

pub said_same : (size : ℕ) (announces : List ℕ → Option Announced) (old new : Pending) → new.announced ≡ old.announced → new.head.items ≡ old.head.items → new.came ≡ old.came → KeepsFront size announces old → KeepsFront size announces new
said_same size announces old new announced head came k = record {
  says = announced ∙ k.says ∙ ap (λ (h : List ℕ). announces (take size h)) (sym head);
  alone = subst (λ (h : List ℕ). IfSome new.announced (λ a. length h ≡ size)) (sym head) (subst (λ (o : Option Announced). IfSome o (λ a. length old.head.items ≡ size)) (sym announced) k.alone);
  none = λ e. came ∙ k.none (sym announced ∙ e);
}

-- with more data
pub said_data : (size : ℕ) (announces : List ℕ → Option Announced) (old new : Pending) (announced : Announced) → old.announced ≡ Some announced → new.announced ≡ old.announced → new.head.items ≡ old.head.items → KeepsFront size announces old → KeepsFront size announces new
said_data size announces old new announced is same head k = record {
  says = same ∙ k.says ∙ ap (λ (h : List ℕ). announces (take size h)) (sym head);
  alone = subst (λ (h : List ℕ). IfSome new.announced (λ a. length h ≡ size)) (sym head) (subst (λ (o : Option Announced). IfSome o (λ a. length old.head.items ≡ size)) (sym same) k.alone);
  none = λ e. absurd (no_one announced (sym e ∙ same ∙ is));
}

pub said_as : (size : ℕ) (early late : List ℕ → Option Announced) (p : Pending) → late (take size p.head.items) ≡ early (take size p.head.items) → KeepsFront size early p → KeepsFront size late p
said_as size early late p same k = record { says = k.says ∙ sym same; alone = k.alone; none = k.none }

alone_is : (size : ℕ) (p : Pending) (announced : Announced) → p.announced ≡ Some announced → IfSome p.announced (λ a. length p.head.items ≡ size) → length p.head.items ≡ size
alone_is size p announced is alone = subst (λ (o : Option Announced). IfSome o (λ a. length p.head.items ≡ size)) is alone

pub front_alone : (size : ℕ) (announces : List ℕ → Option Announced) (p : Pending) (announced : Announced) → p.announced ≡ Some announced → KeepsFront size announces p → length p.head.items ≡ size
front_alone size announces p announced is k = alone_is size p announced is k.alone

-- Data are held apart behind a whole front.
pub behind_front : (size : ℕ) (announces : List ℕ → Option Announced) (p : Pending) → KeepsFront size announces p → 0 < p.came → length p.head.items ≡ size
behind_front size announces p k some = go p.announced refl
  where
    go : (o : Option Announced) → p.announced ≡ o → length p.head.items ≡ size
    go None e = let none = k.none e in absurd (omega (arith, none, some))
    go (Some announced) e = front_alone size announces p announced e k

pub data_long : (p : Pending) → IsKept p → length (data_in p) ≡ p.came
data_long p kept = omega (arith, length-take p.came p.content.items, kept.within, p.content.ok.0)

-- what holds nothing
pub none_came : (p : Pending) → IsKept p → held_in p ≡ [] → (p.came ≡ 0) × (length p.head.items ≡ 0)
none_came p kept none =
    let long = data_long p kept in
    let all = ap length none in (omega (arith, all, long, length-append p.head.items (data_in p)), omega (arith, all, length-append p.head.items (data_in p)))

pub no_data : (p : Pending) → p.came ≡ 0 → held_in p ≡ p.head.items
no_data p none = ap (λ (n : ℕ). p.head.items ++ take n p.content.items) none ∙ append-nil p.head.items

module _ {K : Type 0} where
  pub said_empty : (state : State K) (p : Pending) → IsKept p → held_in p ≡ [] → p.announced ≡ None → KeepsFrontAt state p
  said_empty state p kept none unannounced =
      let n = none_came p kept none in
      let low = least_front (replies_in state) in
      record {
        says = unannounced ∙ sym (short_none state (take (front_size (replies_in state)) p.head.items) (omega (arith, n.1, low, length-take (front_size (replies_in state)) p.head.items)));
        alone = subst (λ (o : Option Announced). IfSome o (λ a. length p.head.items ≡ front_size (replies_in state))) (sym unannounced) tt;
        none = λ e. n.0;
      }

  pub said_none : (state : State K) (p : Pending) → IsKept p → KeepsFrontAt state p → held_in p ≡ [] → p.announced ≡ None
  said_none state p kept k none =
      let n = none_came p kept none in
      let low = least_front (replies_in state) in
      k.says ∙ short_none state (take (front_size (replies_in state)) p.head.items) (omega (arith, n.1, low, length-take (front_size (replies_in state)) p.head.items))

  -- the front that is held as one is that of all that is held
  pub same_front : (state : State K) (p : Pending) → KeepsFrontAt state p → take (front_size (replies_in state)) p.head.items ≡ take (front_size (replies_in state)) (held_in p)
  same_front state p k = go (cases_lt 0 p.came)
    where
      go : (0 < p.came) ⊎ (p.came ≤ 0) → take (front_size (replies_in state)) p.head.items ≡ take (front_size (replies_in state)) (held_in p)
      go (inl some) = let long = behind_front (front_size (replies_in state)) (announced_at state) p k some in sym (take-append-le (front_size (replies_in state)) p.head.items (data_in p) (omega (arith, long)))
      go (inr none) = ap (take (front_size (replies_in state))) (sym (no_data p (omega (arith, none))))

  pub said_stays : (state : State K) (late : ℕ → Option Waiting) (p : Pending) → AreOrdered state.talk.structured state.talk.extended → Grows (waited state) late → ShowsNothing state (held_in p) → KeepsFrontAt state p →
      KeepsFront (front_size (replies_in state)) (announced_where state.stage state.talk.phase (replies_in state) late) p
  said_stays state late p ordered grows nothing k =
      said_as (front_size (replies_in state)) (announced_at state) (announced_where state.stage state.talk.phase (replies_in state) late) p
      (ap (announced_where state.stage state.talk.phase (replies_in state) late) (same_front state p k) ∙ announced_stays state late (held_in p) ordered grows nothing ∙ ap (announced_at state) (sym (same_front state p k))) k

  -- the data behind a front are fewer than it announced
  pub came_short : (state : State K) (p : Pending) (announced : Announced) → IsKept p → AreOrdered state.talk.structured state.talk.extended → KeepsFrontAt state p → p.announced ≡ Some announced → ShowsNothing state (held_in p) → p.came < announced.size
  came_short state p announced kept ordered k is nothing =
      let whole : take (front_size (replies_in state)) p.head.items ≡ p.head.items = front_all (front_size (replies_in state)) p.head.items (front_alone (front_size (replies_in state)) (announced_at state) p announced is k) in
      let short = announced_short state p.head.items (data_in p) announced ordered (ap (announced_at state) (sym whole) ∙ sym k.says ∙ is) nothing in
      let long = data_long p kept in
      omega (arith, short, long)
    where
      front_all : (size : ℕ) (xs : List ℕ) → length xs ≡ size → take size xs ≡ xs
      front_all size xs e = take_all size xs (omega (arith, e))

  pub came_some : (state : State K) (p : Pending) → IsKept p → AreOrdered state.talk.structured state.talk.extended → KeepsFrontAt state p → ShowsNothing state (held_in p) → IfSome p.announced (λ announced. p.came < announced.size)
  came_some state p kept ordered k nothing = go p.announced refl
    where
      go : (o : Option Announced) → p.announced ≡ o → IfSome o (λ announced. p.came < announced.size)
      go None e = tt
      go (Some announced) e = came_short state p announced kept ordered k e nothing

  -- Where simple replies alone come no more than a head is held as one.
  pub simply_short : (state : State K) (p : Pending) → RepliesSimply state.stage state.talk.phase state.talk.structured state.talk.extended → KeepsFrontAt state p → p.announced ≡ None → ShowsNothing state (held_in p) → length p.head.items < front_size (replies_in state)
  simply_short state p simply k unannounced nothing = go (cases_lt (length p.head.items) (front_size (replies_in state)))
    where
      go : (length p.head.items < front_size (replies_in state)) ⊎ (front_size (replies_in state) ≤ length p.head.items) → length p.head.items < front_size (replies_in state)
      go (inl less) = less
      go (inr most) =
          let low = least_front (replies_in state) in
          absurd (simply_says state (held_in p) simply nothing (omega (arith, most, low, length-append p.head.items (data_in p))) (ap (announced_at state) (sym (same_front state p k)) ∙ sym k.says ∙ unannounced))

  -- More bytes behind a front that is not all there, or behind bytes that announce nothing.
  pub said_joined : (state : State K) (old new : Pending) (bytes : List ℕ) → KeepsFrontAt state old → old.announced ≡ None → new.head.items ≡ old.head.items ++ bytes → new.announced ≡ announced_by_front state new.head.items → new.came ≡ old.came →
      (state.talk.phase ≡ phase.Ready → length old.head.items < front_size (replies_in state) → length old.head.items + length bytes ≤ front_size (replies_in state)) → KeepsFrontAt state new
  said_joined state old new bytes k unannounced joined told came within = record { says = told; alone = go new.announced refl; none = λ e. came ∙ k.none unannounced }
    where
      size : ℕ
      size = front_size (replies_in state)

      go : (o : Option Announced) → new.announced ≡ o → IfSome o (λ a. length new.head.items ≡ size)
      go None e = tt
      go (Some announced) e =
          let is = is_announced state (take size new.head.items) announced (sym told ∙ e) in
          let grown : length new.head.items ≡ length old.head.items + length bytes = ap length joined ∙ length-append old.head.items bytes in
          over (cases_lt (length old.head.items) size) is.announces.sized is.ready grown
        where
          over : (length old.head.items < size) ⊎ (size ≤ length old.head.items) → length (take size new.head.items) ≡ size → state.talk.phase ≡ phase.Ready → length new.head.items ≡ length old.head.items + length bytes → length new.head.items ≡ size
          over (inl less) sized ready grown = let most = within ready less in omega (arith, most, sized, grown, length-take size new.head.items)
          over (inr most) sized ready grown =
              let same : take size new.head.items ≡ take size old.head.items = ap (take size) joined ∙ take-append-le size old.head.items bytes most in
              absurd (no_one announced (sym unannounced ∙ k.says ∙ ap (announced_at state) (sym same) ∙ sym told ∙ e))
