-- In a turn no link is tried in vain twice, and between two happenings at most two turns try it.
use Rattle.std.proofs.Common.{◌≡◌, ◌⊎◌, inl, inr, ◌≤◌, ◌+◌, ◌==◌, ℕ, Bool, true, false, List, [], ◌∷◌, ◌++◌, length, Option, Some, refl, ap, sym, subst, ◌∙◌, arith}
use Rattle.std.proofs.lemmas.Bool.{eqb-true, false≢true, ne_eqb}
use Rattle.lnbd_callbacks.specs.Calls.{Call}
use Rattle.lnbd_history.specs.Answers.{out_after}
use Rattle.lnbd_history.specs.Events.{History}
use Rattle.lnbd_link.specs.Call as wire
use Rattle.lnbd_link.specs.Call.{Pause, Read, Write, ReadTold, Moved, Unready, Ended, ReadFault, WriteTold, Sent, Full, WriteFault}
use Rattle.lnbd_link.specs.Part.{Adds}
use Rattle.lnbd_drives.specs.Driving.{AllPlain}
use Rattle.lnbd_poll.specs.Alone.{AreApart, HaveOwnLinks}
use Rattle.lnbd_poll.specs.declared.noticed.Noticed.{Noticed}
use Rattle.lnbd_poll.specs.declared.noticed.Turn.{Turn}
use Rattle.lnbd_poll.specs.declared.noticed.Turn.TheVariants as turn
use Rattle.lnbd_poll.specs.Held.{Held, AreAt, wants_now}
use Rattle.lnbd_poll.specs.Notices.{ReadsIf, ReadsOn, Sends, WritesIf, is_reading, is_waiting, room_after}
use Rattle.lnbd_poll.specs.Seen.{Seen}
use Rattle.lnbd_poll.specs.Seen as poll
use Rattle.lnbd_poll.specs.Still.{is_full}
use Rattle.lnbd_poll.specs.Turned.{TurnsCut, TurnsWhole}
use Rattle.lnbd_poll.specs.Turns.{All_took, Breaks_off, Ending, Goes_on, Runs_short, Stops, Takes, Turns, TurnsOne, Whole, WritesAll, is_moved}
use Rattle.lnbd_board.specs.declared.ticket.Ticket.{Ticket}
use Rattle.lnbd_board.specs.Files as board
use Rattle.lnbd_conduct.specs.Links.{once_if}
use Rattle.lnbd_copy.specs.Moving.{AreTaken}
use Rattle.lnbd_copy.specs.Pace.{IsPaced, StaysPaced, TriesAtMost}
use Rattle.lnbd_conduct.specs.Pauses.{IsTriedAtMost, how_many, is_unready}
use Rattle.lnbd_copy.specs.Tried.{RestsEarly}
use Rattle.lnbd_copy.specs.Way.{Goes, IsOn, IsUnderWay, Stand, Way}
use Rattle.lnbd_conduct.specs.Told.{Told}
use Rattle.lnbd_copy.proofs.FullLemmas.{steps}
use Rattle.lnbd_copy.proofs.MovingLemmas.{turned_stirs}
use Rattle.lnbd_copy.proofs.PaceLemmas.{many_both, pace_fewer, pace_moves, pace_rests, pace_tires, tried_both, tried_fewer, tried_none}

-- One call.

none_of : (b : Bool) → b ≡ false → once_if b + 0 ≡ 0
none_of b off = ap (λ (c : Bool). once_if c + 0) off

one_of : (b : Bool) → once_if b + 0 ≤ 1
one_of true = omega arith
one_of false = omega arith

-- The writes of a part: the last of them alone may take nothing.
record WritesAre (link n : ℕ) (moved : Bool) (calls : List wire.Call) : Type 0 where
  unread : how_many (is_unready link) calls ≡ 0
  once : how_many (is_full link) calls ≤ 1
  moving : moved ≡ true → how_many (is_full link) calls ≡ 0
  off : (n == link) ≡ false → how_many (is_full link) calls ≡ 0

-- The read of a part.
record ReadsAre (link n : ℕ) (calls : List wire.Call) : Type 0 where
  unwritten : how_many (is_full link) calls ≡ 0
  once : how_many (is_unready link) calls ≤ 1
  off : (n == link) ≡ false → how_many (is_unready link) calls ≡ 0

no_writes : (link n : ℕ) (moved : Bool) (calls : List wire.Call) → calls ≡ [] → WritesAre link n moved calls
no_writes link n moved calls none =
    let full : how_many (is_full link) calls ≡ 0 = ap (how_many (is_full link)) none in
    record { unread = ap (how_many (is_unready link)) none; once = omega (arith, full); moving = λ is. full; off = λ apart. full }

no_reads : (link n : ℕ) (calls : List wire.Call) → calls ≡ [] → ReadsAre link n calls
no_reads link n calls none =
    let unready : how_many (is_unready link) calls ≡ 0 = ap (how_many (is_unready link)) none in
    record { unwritten = ap (how_many (is_full link)) none; once = omega (arith, unready); off = λ apart. unready }

module _ (link : ℕ) where
  wrote : (n offered : ℕ) (told : WriteTold) (moved : Bool) (calls : List wire.Call) → calls ≡ Write n offered told ∷ [] → (told ≡ Full → moved ≡ false) → WritesAre link n moved calls
  wrote n offered (Sent bytes) moved calls are unmoved =
      let full : how_many (is_full link) calls ≡ 0 = ap (how_many (is_full link)) are in
      record { unread = ap (how_many (is_unready link)) are; once = omega (arith, full); moving = λ is. full; off = λ apart. full }
  wrote n offered Full moved calls are unmoved =
      let full : how_many (is_full link) calls ≡ once_if (n == link) + 0 = ap (how_many (is_full link)) are in
      let few = one_of (n == link) in
      record {
        unread = ap (how_many (is_unready link)) are;
        once = omega (arith, full, few);
        moving = λ is. absurd (false≢true (sym (unmoved refl) ∙ is));
        off = λ apart. full ∙ none_of (n == link) apart;
      }
  wrote n offered WriteFault moved calls are unmoved =
      let full : how_many (is_full link) calls ≡ 0 = ap (how_many (is_full link)) are in
      record { unread = ap (how_many (is_unready link)) are; once = omega (arith, full); moving = λ is. full; off = λ apart. full }

  read : (n room : ℕ) (told : ReadTold) (calls : List wire.Call) → calls ≡ Read n room told ∷ [] → ReadsAre link n calls
  read n room (Moved bytes) calls are =
      let unready : how_many (is_unready link) calls ≡ 0 = ap (how_many (is_unready link)) are in
      record { unwritten = ap (how_many (is_full link)) are; once = omega (arith, unready); off = λ apart. unready }
  read n room Unready calls are =
      let unready : how_many (is_unready link) calls ≡ once_if (n == link) + 0 = ap (how_many (is_unready link)) are in
      let few = one_of (n == link) in
      record { unwritten = ap (how_many (is_full link)) are; once = omega (arith, unready, few); off = λ apart. unready ∙ none_of (n == link) apart }
  read n room Ended calls are =
      let unready : how_many (is_unready link) calls ≡ 0 = ap (how_many (is_unready link)) are in
      record { unwritten = ap (how_many (is_full link)) are; once = omega (arith, unready); off = λ apart. unready }
  read n room ReadFault calls are =
      let unready : how_many (is_unready link) calls ≡ 0 = ap (how_many (is_unready link)) are in
      record { unwritten = ap (how_many (is_full link)) are; once = omega (arith, unready); off = λ apart. unready }

many_in : (is : wire.Call → Bool) (calls own other : List wire.Call) → calls ≡ own ++ other → how_many is calls ≡ how_many is own + how_many is other
many_in is calls own other are = ap (how_many is) are ∙ many_both is own other

-- A handle is on another link.
abbrev AreOff : {K : Type 0} → ℕ → List (Seen K) → Type 0
AreOff link [] = Unit {0}
AreOff link (seen ∷ others) = ((seen.link == link) ≡ false) × AreOff link others

apart_off : {K : Type 0} (link n : ℕ) (others : List (Seen K)) → (n == link) ≡ true → AreApart n others → AreOff link others
apart_off link n [] same apart = tt
apart_off link n (seen ∷ others) same apart = (ne_eqb seen.link link (λ e. apart.0 (e ∙ sym (eqb-true n link same))), apart_off link n others same apart.1)

module _ {K World : Type 0} (steps : World → List (Call K) → World → Type 0) (link : ℕ) where
  write_is : (b : Bool) (n : ℕ) (notice : Noticed) (before after : History K) (calls : List wire.Call) → WritesIf b n notice before calls after → WritesAre link n (is_moved notice) calls
  write_is false n notice before after calls w = no_writes link n (is_moved notice) calls w.1
  write_is true n notice before after calls w = wrote link n (length (out_after before)) w.0 (is_moved notice) calls w.1 (λ full. ap is_moved (subst (λ (told : WriteTold). Sends told notice before after) full w.2).0)

  writes_are : (n : ℕ) (before : History K) (world : World) (calls : List wire.Call) (after : History K) (world' : World) (moved : Option ℕ) → WritesAll steps n before world calls after world' moved → WritesAre link n false calls
  writes_are n before world calls after world' moved (Stops _ _ _ _ _ _ notice w stop is) =
      let one = write_is (is_waiting before) n notice before w.middle calls w.writes in
      record { unread = one.unread; once = one.once; moving = λ is. absurd (false≢true is); off = one.off }
  writes_are n before world calls after world' moved (Goes_on _ _ _ _ _ _ notice own middle half other rest w some more are is) =
      let one = write_is (is_waiting before) n notice before w.middle own w.writes in
      let others = writes_are n middle half other after world' rest more in
      let unready = many_in (is_unready link) calls own other are in
      let full = many_in (is_full link) calls own other are in
      let unready1 = one.unread in
      let unready2 = others.unread in
      let full1 = one.moving some in
      let full2 = others.once in
      record {
        unread = omega (arith, unready, unready1, unready2);
        once = omega (arith, full, full1, full2);
        moving = λ is. absurd (false≢true is);
        off = λ apart. let none = others.off apart in omega (arith, full, full1, none);
      }

  reads_are : (b : Bool) (notice : Noticed) (before after : Seen K) (world world' : World) (calls : List wire.Call) → ReadsIf steps b notice before world calls after world' → ReadsAre link before.link calls
  reads_are false notice before after world world' calls r = no_reads link before.link calls r.1
  reads_are true notice before after world world' calls r = on before.unread r
    where
      on : (unread : List ℕ) → ReadsOn steps unread notice before world calls after world' → ReadsAre link before.link calls
      on [] r = read link before.link (room_after before.history) r.0 calls r.1
      on (byte ∷ bytes) r = no_reads link before.link calls r.0

  one_is : (most : ℕ) (notice : Noticed) (before : Seen K) (world : World) (calls : List wire.Call) (after : Seen K) (world' : World) (moved : Option ℕ) → TurnsOne steps notice before world calls after world' moved → (most ≡ 1) ⊎ ((most ≡ 0) × ((before.link == link) ≡ false)) → IsTriedAtMost most link calls
  one_is most notice before world calls after world' moved t which =
      let writes = writes_are before.link before.history world t.written t.middle t.half t.sent t.writes in
      let reads = reads_are (is_reading t.middle) notice (record { link = before.link; history = t.middle; unread = before.unread }) after t.half world' t.read t.reads in
      let unready = many_in (is_unready link) calls t.written t.read t.calls_are in
      let full = many_in (is_full link) calls t.written t.read t.calls_are in
      let unready1 = writes.unread in
      let full2 = reads.unwritten in
      elim which [
        | inl one ↦ (let unready2 = reads.once in let full1 = writes.once in record { reads = omega (arith, unready, unready1, unready2, one); writes = omega (arith, full, full1, full2, one) })
        | inr none ↦ (let unready2 = reads.off none.1 in let full1 = writes.off none.1 in record { reads = omega (arith, unready, unready1, unready2); writes = omega (arith, full, full1, full2) })
      ]

  turns_off : (before : List (Seen K)) (world : World) (calls : List wire.Call) (after : List (Seen K)) (world' : World) (ending : Ending) → Turns steps before world calls after world' ending → AreOff link before → IsTriedAtMost 0 link calls
  turns_off before world calls after world' ending (All_took _ _ _ _ _ _ is none after_is world_is end) off = subst (λ (l : List wire.Call). IsTriedAtMost 0 link l) (sym none) (tried_none link)
  turns_off before world calls after world' ending (Takes _ _ _ _ _ _ seen others notice own here half moved other there rest is one enough more calls_are after_is end) off =
      let all : AreOff link (seen ∷ others) = subst (AreOff link) is off in
      subst (λ (l : List wire.Call). IsTriedAtMost 0 link l) (sym calls_are)
      (tried_both 0 0 link own other (one_is 0 notice seen world own here half moved one (inr (refl, all.0))) (turns_off others half other there world' rest more all.1))
  turns_off before world calls after world' ending (Runs_short _ _ _ _ _ _ seen others here moved is one after_is end) off =
      let all : AreOff link (seen ∷ others) = subst (AreOff link) is off in
      one_is 0 _ seen world calls here world' moved one (inr (refl, all.0))
  turns_off before world calls after world' ending (Breaks_off _ _ _ _ _ _ none after_is world_is end) off = subst (λ (l : List wire.Call). IsTriedAtMost 0 link l) (sym none) (tried_none link)

  turns_once : (before : List (Seen K)) (world : World) (calls : List wire.Call) (after : List (Seen K)) (world' : World) (ending : Ending) → Turns steps before world calls after world' ending → HaveOwnLinks before → IsTriedAtMost 1 link calls
  turns_once before world calls after world' ending (All_took _ _ _ _ _ _ is none after_is world_is end) own_links = subst (λ (l : List wire.Call). IsTriedAtMost 1 link l) (sym none) (tried_fewer 0 1 link [] (omega arith) (tried_none link))
  turns_once before world calls after world' ending (Takes _ _ _ _ _ _ seen others notice own here half moved other there rest is one enough more calls_are after_is end) own_links =
      let links : HaveOwnLinks (seen ∷ others) = subst HaveOwnLinks is own_links in
      subst (λ (l : List wire.Call). IsTriedAtMost 1 link l) (sym calls_are) (go (seen.link == link) refl links (turns_once others half other there world' rest more links.1))
    where
      go : (b : Bool) → (seen.link == link) ≡ b → HaveOwnLinks (seen ∷ others) → IsTriedAtMost 1 link other → IsTriedAtMost 1 link (own ++ other)
      go true same links behind = tried_both 1 0 link own other (one_is 1 notice seen world own here half moved one (inl refl)) (turns_off others half other there world' rest more (apart_off link seen.link others same links.0))
      go false apart links behind = tried_both 0 1 link own other (one_is 0 notice seen world own here half moved one (inr (refl, apart))) behind
  turns_once before world calls after world' ending (Runs_short _ _ _ _ _ _ seen others here moved is one after_is end) own_links = one_is 1 _ seen world calls here world' moved one (inl refl)
  turns_once before world calls after world' ending (Breaks_off _ _ _ _ _ _ none after_is world_is end) own_links = subst (λ (l : List wire.Call). IsTriedAtMost 1 link l) (sym none) (tried_fewer 0 1 link [] (omega arith) (tried_none link))

-- A turn of a copy on its way, where it is told.

all_taken : (held : List (Held Ticket)) (seens : List (Seen Ticket)) → AreAt held seens → AllPlain seens → AreTaken held
all_taken [] [] at plain = tt
all_taken [] (s ∷ ss) at plain = absurd at
all_taken (x ∷ xs) [] at plain = absurd at
all_taken (x ∷ xs) (s ∷ ss) at plain = (sym at.0.unread ∙ plain.0.arrived, all_taken xs ss at.1 plain.1)

module _ (parting : Bool) (way : Way) (now : board.Seen) (held : List (Held Ticket)) (start a : Option (List wire.Call)) (on : Told start a (λ calls. IsUnderWay parting way now calls held)) where
  pub way_taken : (before : List wire.Call) → a ≡ Some before → AreTaken held
  way_taken before is = let here = (on.since before is).is in all_taken held here.seens here.at here.stands.between.course.drive.plain

  module _ (b : Option (List wire.Call)) (f g : ℕ) (now' : board.Seen) (held' : List (Held Ticket)) (s : Stand held) where
    pub turned_tires : (told : Turn) → poll.Goes a b (λ seens. AreAt held seens) (λ seens. AreAt held' seens) (λ before calls after. TurnsWhole steps f g told before now calls after now') → TriesAtMost 1 a b
    turned_tires told goes = record {
      on = λ all is.
          let first = (goes s.seens s.at).grown all is in
          let here = (on.since first.0 first.1).is in
          let went = goes here.seens here.at in
          let grown = went.grown all is in
          record { before = grown.0; more = went.calls; was = grown.1; now = grown.2; are = λ link. turns_once steps link here.seens now went.calls went.after now' (Whole went.leads.moved) went.leads.turns here.stands.between.course.drive.own };
    }

    pub cut_tires : poll.Goes a b (λ seens. AreAt held seens) (λ seens. AreAt held' seens) (λ before calls after. TurnsCut steps f g before now calls after now') → TriesAtMost 1 a b
    cut_tires goes = record {
      on = λ all is.
          let first = (goes s.seens s.at).grown all is in
          let here = (on.since first.0 first.1).is in
          let went = goes here.seens here.at in
          let grown = went.grown all is in
          record { before = grown.0; more = went.calls; was = grown.1; now = grown.2; are = λ link. turns_once steps link here.seens now went.calls went.after now' went.leads.ending went.leads.turns here.stands.between.course.drive.own };
    }

-- While connections negotiate.

pub stays_none : (n : ℕ) (now : board.Seen) (held : List (Held Ticket)) (a : Option (List wire.Call)) → 1 ≤ n → StaysPaced n now held a a
stays_none n now held a some = record { on = λ way start s on paced. pace_fewer 1 n start a some paced }

pub stays_fewer : (now : board.Seen) (held : List (Held Ticket)) (a b : Option (List wire.Call)) → StaysPaced 1 now held a b → StaysPaced 2 now held a b
stays_fewer now held a b stays = record { on = λ way start s on paced. pace_fewer 1 2 start b (omega arith) (stays.on way start s on paced) }

pub stays_then : (n : ℕ) (now now2 : board.Seen) (held held2 : List (Held Ticket)) (a b c : Option (List wire.Call)) → Goes now held a now2 held2 b → StaysPaced 1 now held a b → StaysPaced n now2 held2 b c → StaysPaced n now held a c
stays_then n now now2 held held2 a b c goes one two = record { on = λ way start s on paced. two.on way start (goes.stand s) (goes.on false way start s on) (one.on way start s on paced) }

pub stays_cut : (a b : Option (List wire.Call)) (f g : ℕ) (now now' : board.Seen) (held held' : List (Held Ticket))
    → poll.Goes a b (λ seens. AreAt held seens) (λ seens. AreAt held' seens) (λ before calls after. TurnsCut steps f g before now calls after now') → StaysPaced 2 now held a b
stays_cut a b f g now now' held held' goes = record { on = λ way start s on paced. pace_tires start a b (cut_tires false way now held start a on b f g now' held' s goes) paced }

-- a turn, behind which nothing more is called
pub stays_turned : (a b c : Option (List wire.Call)) (f g : ℕ) (told : Turn) (now now' : board.Seen) (held held' : List (Held Ticket))
    → poll.Goes a b (λ seens. AreAt held seens) (λ seens. AreAt held' seens) (λ before calls after. TurnsWhole steps f g told before now calls after now') → c ≡ b → StaysPaced 2 now held a c
stays_turned a b c f g told now now' held held' goes same = record {
  on = λ way start s on paced. subst (λ (t : Option (List wire.Call)). Told start t (IsPaced 2)) (sym same) (pace_tires start a b (turned_tires false way now held start a on b f g now' held' s told goes) paced);
}

-- a turn, and a pause where nothing happened in it
pub stays_rested : (a b c : Option (List wire.Call)) (f g : ℕ) (told : Turn) (now now' : board.Seen) (held held' : List (Held Ticket))
    → poll.Goes a b (λ seens. AreAt held seens) (λ seens. AreAt held' seens) (λ before calls after. TurnsWhole steps f g told before now calls after now') → RestsEarly held' (told ≡ turn.Still) b c → (told ≡ turn.Still → Adds b c (Pause (wants_now held'))) → StaysPaced 1 now held a c
stays_rested a b c f g told now now' held held' goes rests paused = record { on = λ way start s on paced. go way start s on paced told refl }
  where
    go : (way : Way) (start : Option (List wire.Call)) → Stand held → Told start a (λ calls. IsOn way now calls held) → Told start a (IsPaced 1) → (is : Turn) → told ≡ is → Told start c (IsPaced 1)
    go way start s on paced turn.Still still = pace_rests start b c (wants_now held') (paused still) (pace_tires start a b (turned_tires false way now held start a on b f g now' held' s told goes) paced)
    go way start s on paced (turn.Moved n) moved =
        let tires = turned_tires false way now held start a on b f g now' held' s told goes in
        elim rests [
          | inl same ↦ subst (λ (t : Option (List wire.Call)). Told start t (IsPaced 1)) (sym same) (pace_moves start a b held tires (turned_stirs a b f g told now now' held held' n goes moved s) (way_taken false way now held start a on) paced)
          | inr rested ↦ pace_rests start b c (wants_now held') rested.2 (pace_tires start a b tires paced)
        ]
