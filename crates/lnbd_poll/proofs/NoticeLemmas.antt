-- One read and one write of a handle.
use Rattle.std.proofs.Common.{arith, ◌≡◌, ◌==◌, ◌<◌, ◌≤◌, ℕ, zero, suc, Bool, true, false, not, List, [], ◌∷◌, ◌++◌, length, take, drop, Option, refl, sym, ◌∙◌, ap, subst}
use Rattle.std.proofs.lemmas.Bool.{false≢true}
use Rattle.std.proofs.lemmas.List.{append-nil, length-take-le, take-append-le, drop_all, take_all}
use Rattle.lnbd_callbacks.specs.Calls.{Call}
use Rattle.lnbd_history.specs.Events.{Answer, Event, History, Arrived, End, LinkFailed, Wrote}
use Rattle.lnbd_history.specs.Answers.{out_after}
use Rattle.lnbd_machine.specs.Machine.{Machine}
use Rattle.lnbd_machine.specs.Now.{direction_now, out_now}
use Rattle.lnbd_standing.specs.Standing.{StandsFor}
use Rattle.lnbd_standing.proofs.Standing.{stands_right}
use Rattle.lnbd_handle.specs.Histories.{ForEach, Adds as AddsEvent, AddsAnswered}
use Rattle.lnbd_handle.specs.Placing.{AddsSilently, place_size}
use Rattle.lnbd_link.specs.Call as wire
use Rattle.lnbd_link.specs.Call.{Read, Write, ReadTold, WriteTold, Moved, Unready, Ended, ReadFault, Sent, Full, WriteFault, read_told, write_told}
use Rattle.lnbd_link.specs.Part.{Adds}
use Rattle.lnbd_link.specs.declared.wires.Got.{Got}
use Rattle.lnbd_link.specs.declared.wires.Took.{Took}
use Rattle.lnbd_link.proofs.Parts.{grows_none}
use Rattle.lnbd_poll.specs.declared.noticed.Noticed.{Noticed}
use Rattle.lnbd_poll.specs.declared.noticed.Noticed.TheVariants as noticed
use Rattle.lnbd_poll.specs.Seen.{Seen, IsAt, Goes, Follows, inbox_room, is_empty}
use Rattle.lnbd_poll.specs.Notices.{Arrives, Hears, ReadsIf, ReadsOn, ReadsOnce, Sends, WritesIf, WritesOnce, is_reading, is_waiting, room_after, room_of}
use Rattle.lnbd_poll.specs.Steps.{Becomes}
use Rattle.lnbd_poll.proofs.ComingLemmas.{place_stands}

module _ {K World : Type 0} (steps : World → List (Call K) → World → Type 0) (unread : List ℕ) (old new : Machine K) (first end : World) where
  -- An event happened.
  pub follow : (event : List Answer → Event K) (left : List ℕ) → ForEach old (AddsAnswered steps event new first end) → Becomes unread old new left (λ before after. (answers : List Answer) × Follows steps (event answers) left before after first end)
  follow event left adds seen stands was =
      let a = adds seen.history stands in (
        record { link = seen.link; history = event a.0 ∷ seen.history; unread = left },
        (a.0, record { is = refl; plays = a.1.1 }),
        record { link = refl; stands = a.1.0; unread = refl },
      )

  pub arrived_all : (n : ℕ) (bytes given left : List ℕ) → given ≡ bytes → n ≡ length bytes → left ≡ drop n bytes → ForEach old (AddsAnswered steps (Arrived given) new first end) → Becomes unread old new left (λ before after. Arrives steps bytes (noticed.Moved n) before after first end)
  arrived_all n bytes given left same is left_is adds =
      let none : left ≡ [] = left_is ∙ drop_all n bytes (omega (arith, is)) in
      let adds' = subst (λ (b : List ℕ). ForEach old (AddsAnswered steps (Arrived b) new first end)) same adds in
      subst (λ (l : List ℕ). Becomes unread old new l (λ before after. Arrives steps bytes (noticed.Moved n) before after first end)) (sym none) (λ seen stands was. let f = follow (Arrived bytes) [] adds' seen stands was in (f.0, (is, f.1), f.2))

  pub arrived_some : (n : ℕ) (bytes given left : List ℕ) → given ≡ bytes → n ≤ length given → left ≡ drop n bytes → ForEach old (AddsAnswered steps (Arrived (take n given)) new first end) → Becomes unread old new left (λ before after. Arrives steps bytes noticed.NoMemory before after first end)
  arrived_some n bytes given left same within left_is adds =
      let adds' = subst (λ (b : List ℕ). ForEach old (AddsAnswered steps (Arrived (take n b)) new first end)) same adds in
      let within' = subst (λ (b : List ℕ). n ≤ length b) same within in
      subst (λ (l : List ℕ). Becomes unread old new l (λ before after. Arrives steps bytes noticed.NoMemory before after first end)) (sym left_is) (λ seen stands was. let f = follow (Arrived (take n bytes)) (drop n bytes) adds' seen stands was in (f.0, (n, within', f.1), f.2))

-- What came straight into the place.
pub placed_all : {K World : Type 0} (steps : World → List (Call K) → World → Type 0) (old new : Machine K) (world : World) (n : ℕ) (place : List ℕ) → steps world [] world → 0 < n → n ≤ length place → ForEach old (AddsSilently (Arrived (take n place) []) new)
    → Becomes [] old new [] (λ before after. Hears steps (Moved (take n place)) (noticed.Moved n) before after world world)
placed_all steps old new world n place none some within adds seen stands was =
    let a = adds seen.history stands in
    let size : length (take n place) ≡ n = length-take-le n place within in (
      record { link = seen.link; history = Arrived (take n place) [] ∷ seen.history; unread = [] },
      (omega (arith, size, some), (sym size, ([], record { is = refl; plays = record { calls = []; told = a.1 ∙ sym (append-nil _); world = none } }))),
      record { link = refl; stands = a.0; unread = refl },
    )

-- What a read answered.
module _ {K World : Type 0} (steps : World → List (Call K) → World → Type 0) (old new : Machine K) (left : List ℕ) (world world' : World) where
  pub hears_bytes : (n : ℕ) (bytes : List ℕ) (notice : Noticed) → 0 < n → n ≡ length bytes → Becomes [] old new left (λ before after. Arrives steps bytes notice before after world world')
      → Becomes [] old new left (λ before after. Hears steps (Moved (take n bytes)) notice before after world world')
  hears_bytes n bytes notice some is becomes =
      let all : take n bytes ≡ bytes = take_all n bytes (omega (arith, is)) in
      subst (λ (l : List ℕ). Becomes [] old new left (λ before after. Hears steps (Moved l) notice before after world world')) (sym all) (λ seen stands was. let b = becomes seen stands was in (b.0, (omega (arith, is, some), b.1), b.2))

  pub hears_end : left ≡ [] → ForEach old (AddsAnswered steps End new world world') → Becomes [] old new left (λ before after. Hears steps Ended noticed.Ended before after world world')
  hears_end none adds = subst (λ (l : List ℕ). Becomes [] old new l (λ before after. Hears steps Ended noticed.Ended before after world world')) (sym none) (λ seen stands was. let f = follow steps [] old new world world' End [] adds seen stands was in (f.0, (refl, f.1), f.2))

  pub hears_fault : left ≡ [] → ForEach old (AddsAnswered steps LinkFailed new world world') → Becomes [] old new left (λ before after. Hears steps ReadFault noticed.LinkFailed before after world world')
  hears_fault none adds = subst (λ (l : List ℕ). Becomes [] old new l (λ before after. Hears steps ReadFault noticed.LinkFailed before after world world')) (sym none) (λ seen stands was. let f = follow steps [] old new world world' LinkFailed [] adds seen stands was in (f.0, (refl, f.1), f.2))

-- by the equation of the arm
pub hears_as : {K World : Type 0} (steps : World → List (Call K) → World → Type 0) (old new : Machine K) (left : List ℕ) (world world' : World) (g h : Got) (bytes : List ℕ) (notice : Noticed) → g ≡ h
    → Becomes [] old new left (λ before after. Hears steps (read_told h bytes) notice before after world world') → Becomes [] old new left (λ before after. Hears steps (read_told g bytes) notice before after world world')
hears_as steps old new left world world' g h bytes notice is becomes = subst (λ (x : Got). Becomes [] old new left (λ before after. Hears steps (read_told x bytes) notice before after world world')) (sym is) becomes

pub hears_nothing : {K World : Type 0} (steps : World → List (Call K) → World → Type 0) (old : Machine K) (left : List ℕ) (world : World) → left ≡ [] → Becomes [] old old left (λ before after. Hears steps Unready noticed.NotReady before after world world)
hears_nothing steps old left world none seen stands was = (seen, (refl, (refl, refl)), record { link = refl; stands = stands; unread = was ∙ sym none })

-- Reads.
module _ {K World : Type 0} (steps : World → List (Call K) → World → Type 0) (link : ℕ) (old : Machine K) where
  reading_is : (seen : Seen K) (unread : List ℕ) (b : Bool) → IsAt link old unread seen → (direction_now old.known == 0) ≡ b → is_reading seen.history ≡ not b
  reading_is seen unread b at is = ap (λ (n : ℕ). not (n == 0)) (sym (stands_right 1024 seen.history old at.stands).direction) ∙ ap not is

  pub read_idle : (told : Option (List wire.Call)) (unread : List ℕ) (world : World) → (direction_now old.known == 0) ≡ true
      → Goes told told (λ seen. IsAt link old unread seen) (λ seen. IsAt link old unread seen) (λ before calls after. ReadsOnce steps noticed.Idle before world calls after world)
  read_idle told unread world none seen at = record {
    calls = [];
    after = seen;
    grown = grows_none told;
    leads = subst (λ (b : Bool). ReadsIf steps b noticed.Idle seen world [] seen world) (sym (reading_is seen unread true at none)) (refl, refl, (refl, refl));
    at = at;
  }

  module _ (new : Machine K) (left : List ℕ) (world world' : World) (notice : Noticed) (reads : (direction_now old.known == 0) ≡ false) where
    pub read_unread : (told : Option (List wire.Call)) (unread : List ℕ) → is_empty unread ≡ false → ((was : List ℕ) → Becomes was old new left (λ before after. Arrives steps unread notice before after world world'))
        → Goes told told (λ seen. IsAt link old unread seen) (λ seen. IsAt link new left seen) (λ before calls after. ReadsOnce steps notice before world calls after world')
    read_unread told [] some becomes seen at = absurd (false≢true (sym some))
    read_unread told (byte ∷ bytes) some becomes seen at =
        let b = becomes seen.unread seen at.stands refl in
        record {
          calls = [];
          after = b.0;
          grown = grows_none told;
          leads = subst (λ (r : Bool). ReadsIf steps r notice seen world [] b.0 world') (sym (reading_is seen (byte ∷ bytes) false at reads))
              (subst (λ (u : List ℕ). ReadsOn steps u notice seen world [] b.0 world') (sym at.unread) (refl, b.1));
          at = subst (λ (n : ℕ). IsAt n new left b.0) at.link b.2;
        }

    pub read_made : (told told' : Option (List wire.Call)) (unread : List ℕ) (answer : ReadTold) → is_empty unread ≡ true → Adds told told' (Read link (room_of (place_size old)) answer)
        → Becomes [] old new left (λ before after. Hears steps answer notice before after world world')
        → Goes told told' (λ seen. IsAt link old unread seen) (λ seen. IsAt link new left seen) (λ before calls after. ReadsOnce steps notice before world calls after world')
    read_made told told' (byte ∷ bytes) answer none adds becomes seen at = absurd (false≢true none)
    read_made told told' [] answer none adds becomes seen at =
        let b = becomes seen at.stands at.unread in
        let room : room_of (place_size old) ≡ room_after seen.history = ap room_of (place_stands 1024 seen.history old at.stands) in
        record {
          calls = Read seen.link (room_after seen.history) answer ∷ [];
          after = b.0;
          grown = subst (λ (n : ℕ). Adds told told' (Read n (room_after seen.history) answer)) (sym at.link) (subst (λ (r : ℕ). Adds told told' (Read link r answer)) room adds);
          leads = subst (λ (r : Bool). ReadsIf steps r notice seen world (Read seen.link (room_after seen.history) answer ∷ []) b.0 world') (sym (reading_is seen [] false at reads))
              (subst (λ (u : List ℕ). ReadsOn steps u notice seen world (Read seen.link (room_after seen.history) answer ∷ []) b.0 world') (sym at.unread) (answer, refl, b.1));
          at = subst (λ (n : ℕ). IsAt n new left b.0) at.link b.2;
        }

    -- the same where the handle was found without a place
    pub read_after : (found : Machine K) (told between told' : Option (List wire.Call)) (unread : List ℕ) (answer : ReadTold) → found ≡ old → place_size old ≡ 0 → between ≡ told → is_empty unread ≡ true → Adds between told' (Read link inbox_room answer)
        → Becomes [] found new left (λ before after. Hears steps answer notice before after world world')
        → Goes told told' (λ seen. IsAt link old unread seen) (λ seen. IsAt link new left seen) (λ before calls after. ReadsOnce steps notice before world calls after world')
    read_after found told between told' unread answer same none is empty adds becomes =
        read_made told told' unread answer empty
        (subst (λ (t : Option (List wire.Call)). Adds t told' (Read link (room_of (place_size old)) answer)) is (subst (λ (n : ℕ). Adds between told' (Read link (room_of n) answer)) (sym none) adds))
        (subst (λ (m : Machine K). Becomes [] m new left (λ before after. Hears steps answer notice before after world world')) same becomes)

-- A read into the place, which leaves the inbox as it was.
pub read_there : {K World : Type 0} (steps : World → List (Call K) → World → Type 0) (link : ℕ) (old new found : Machine K) (world world' : World) (notice : Noticed) (reads : (direction_now old.known == 0) ≡ false) (told told' : Option (List wire.Call)) (unread : List ℕ) (answer : ReadTold)
    → found ≡ old → is_empty unread ≡ true → Adds told told' (Read link (room_of (place_size old)) answer) → Becomes [] found new [] (λ before after. Hears steps answer notice before after world world')
    → Goes told told' (λ seen. IsAt link old unread seen) (λ seen. IsAt link new unread seen) (λ before calls after. ReadsOnce steps notice before world calls after world')
read_there {K} steps link old new found world world' notice reads told told' (byte ∷ bytes) answer same empty adds becomes = absurd (false≢true empty)
read_there {K} steps link old new found world world' notice reads told told' [] answer same empty adds becomes =
    read_made steps link old new [] world world' notice reads told told' [] answer refl adds (subst (λ (m : Machine K). Becomes [] m new [] (λ before after. Hears steps answer notice before after world world')) same becomes)

-- The place.

pub room_is : (n : ℕ) → 0 < n → room_of n ≡ n
room_is zero some = absurd (omega (arith, some))
room_is (suc n) some = refl

pub place_written : (xs w : List ℕ) → length w ≡ length xs → take (length xs) (w ++ drop (length w) xs) ≡ w
place_written xs w same = ap (λ (n : ℕ). take n (w ++ drop (length w) xs)) (sym same) ∙ take-append-le (length w) w (drop (length w) xs) (omega arith) ∙ take_all (length w) w (omega arith)

-- Writes.

module _ {K : Type 0} (old new : Machine K) where
  -- what follows a write, from each history that the handle stood for
  abbrev pub Sending : WriteTold → Noticed → Type 0
  Sending answer notice = (history : History K) → StandsFor 1024 history old → (after : History K) × Sends answer notice history after × StandsFor 1024 after new

  pub sent : (n : ℕ) → 0 < n → n ≤ length (out_now old.known) → ForEach old (AddsEvent (Wrote n) new) → Sending (Sent (take n (out_now old.known))) (noticed.Moved n)
  sent n some within adds history stands =
      let out = out_now old.known in
      let size : length (take n out) ≡ n = length-take-le n out within in
      let same : take n out ≡ take (length (take n out)) (out_after history) = ap (λ (k : ℕ). take k out) (sym size) ∙ ap (λ (o : List ℕ). take (length (take n out)) o) (stands_right 1024 history old stands).out in (
        Wrote n ∷ history,
        (ap noticed.Moved (sym size), omega (arith, size, some), same, ap (λ (k : ℕ). Wrote k ∷ history) (sym size)),
        adds history stands,
      )

  pub sent_as : (t u : Took) (out : List ℕ) (notice : Noticed) → t ≡ u → Sending (write_told u out) notice → Sending (write_told t out) notice
  sent_as t u out notice is sends = subst (λ (x : Took). Sending (write_told x out) notice) (sym is) sends

  module _ (link : ℕ) where
    waiting_is : (history : History K) (b : Bool) → StandsFor 1024 history old → (direction_now old.known == 3) ≡ b → is_waiting history ≡ b
    waiting_is history b stands is = ap (λ (n : ℕ). n == 3) (sym (stands_right 1024 history old stands).direction) ∙ is

    pub write_idle : (told : Option (List wire.Call)) → (direction_now old.known == 3) ≡ false → new ≡ old
        → Goes told told (λ history. StandsFor 1024 history old) (λ history. StandsFor 1024 history new) (λ before calls after. WritesOnce link noticed.Idle before calls after)
    write_idle told none same history stands = record {
      calls = [];
      after = history;
      grown = grows_none told;
      leads = subst (λ (b : Bool). WritesIf b link noticed.Idle history [] history) (sym (waiting_is history false stands none)) (refl, refl, refl);
      at = subst (λ (m : Machine K). StandsFor 1024 history m) (sym same) stands;
    }

    pub write_made : (told told' : Option (List wire.Call)) (out : List ℕ) (t : Took) (notice : Noticed) → (direction_now old.known == 3) ≡ true → out ≡ out_now old.known → Adds told told' (Write link (length out) (write_told t out))
        → Sending (write_told t (out_now old.known)) notice
        → Goes told told' (λ history. StandsFor 1024 history old) (λ history. StandsFor 1024 history new) (λ before calls after. WritesOnce link notice before calls after)
    write_made told told' out t notice some is adds sends history stands =
        let s = sends history stands in
        let same : out ≡ out_after history = is ∙ (stands_right 1024 history old stands).out in
        let call = Write link (length (out_after history)) (write_told t out) in
        record {
          calls = call ∷ [];
          after = s.0;
          grown = subst (λ (o : List ℕ). Adds told told' (Write link (length o) (write_told t out))) same adds;
          leads = subst (λ (b : Bool). WritesIf b link notice history (call ∷ []) s.0) (sym (waiting_is history true stands some))
              (write_told t out, refl, subst (λ (o : List ℕ). Sends (write_told t o) notice history s.0) (sym is) s.1);
          at = s.2;
        }
