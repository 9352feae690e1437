-- What is under way by the board of a copy is unanswered by its calls, where no handle has anything to write.
use Rattle.std.proofs.Common.{◌≡◌, ◌≢◌, ◌⊎◌, inl, inr, ℕ, zero, suc, ◌+◌, Bool, true, false, not, ◌&&◌, List, [], ◌∷◌, cond, Option, Some, None, slice_get, refl, ap, sym, subst, ◌∙◌, arith, nat_le, if◌then◌else◌}
use Rattle.std.proofs.lemmas.Bool.{false≢true, leb-false}
use Rattle.std.specs.Option.{option_map}
use Rattle.lnbd_model.specs.declared.target.Place.{Place}
use Rattle.lnbd_outcome.specs.Outcome.{Done, Unfinished}
use Rattle.lnbd_link.specs.Call as wire
use Rattle.lnbd_link.specs.Numbers.{is_given}
use Rattle.lnbd_history.specs.Answers.{direction_after, direction_of, is_living, out_after}
use Rattle.lnbd_history.specs.Commands.{Command, Request}
use Rattle.lnbd_history.specs.Events.{History}
use Rattle.lnbd_history.specs.History.{asked, reading, request}
use Rattle.lnbd_history.proofs.Cookies.{request_past}
use Rattle.lnbd_asked.specs.Driven.{DrivenSays, outcome_after, written}
use Rattle.lnbd_asked.specs.Link.{Nobody}
use Rattle.lnbd_asked.specs.Transcript.{answered, asked_on, bare, dealt_with, is_name, is_of, is_target, name_asked, on_link, only_if}
use Rattle.lnbd_link.specs.Traffic.{target_of}
use Rattle.lnbd_poll.specs.Alone.{AreApart}
use Rattle.lnbd_poll.specs.Seen.{Seen}
use Rattle.lnbd_drives.proofs.Waiting.{nothing_waits}
use Rattle.lnbd_plan.specs.declared.grid.Slice.{Slice}
use Rattle.lnbd_board.specs.declared.how.How.{How}
use Rattle.lnbd_board.specs.declared.ticket.Ticket.{Ticket}
use Rattle.lnbd_board.specs.declared.ticket.Ticket.TheVariants as ticket
use Rattle.lnbd_board.specs.Files as board
use Rattle.lnbd_board.specs.Requests.{Each, is_slice, is_waiting, unanswered}
use Rattle.lnbd_board.specs.Requests as sides
use Rattle.lnbd_board.proofs.Lists.{Each-back}
use Rattle.lnbd_board.specs.Rows.{AsksOfDestination, AsksOfSource, IsChange, Stands, busy}
use Rattle.lnbd_tracks.specs.Awaiting.{IsAsking}
use Rattle.lnbd_tracks.specs.Laws.{moves_bytes}
use Rattle.lnbd_tracks.specs.Mapping.{first_tells, is_extents, tells_extents}
use Rattle.lnbd_tracks.specs.Tracks.{Histories, request_of, told_by}
use Rattle.lnbd_tracks.specs.Unanswered.{AreWaitingOn, IsUnanswered, unanswered_of}
use Rattle.lnbd_tracks.proofs.Living.{waiting_lives}
use Rattle.lnbd_tracks.proofs.Staying.{or_right}
use Rattle.lnbd_tracks.proofs.Under.{found}
use Rattle.lnbd_tracks.proofs.Unanswered.{tracked_are_unanswered}
use Rattle.lnbd_course.specs.Between.{AreSettled, Between, BetweenOf, place_of}
use Rattle.lnbd_course.specs.Course.{Stood, beside, on_side}
use Rattle.lnbd_course.specs.Failed.{AllStand}
use Rattle.lnbd_course.specs.Slices.{AsksExtentsOf, QuietAsks}
use Rattle.lnbd_course.specs.Told.{Known, ToldCourse}
use Rattle.lnbd_course.specs.UnderWay.{AllHeld, AreUnderWay, AsksExtents, NoneWrites, QuietAwaits, QuietCounts, is_block_status}
use Rattle.lnbd_course.proofs.Address.{both, name_is, target_is}
use Rattle.lnbd_course.proofs.Failing.{IsThere, of, says, there_or_apart, written_here}
use Rattle.lnbd_course.proofs.Holding.{one_has}
use Rattle.lnbd_course.proofs.Placed.{asked_given, given_by_target, place_same, was_given}
use Rattle.lnbd_course.proofs.Standing.{on_here}

none_some : {A : Type 0} (one : A) → None ≡ Some one → ⊥
none_some one e = cc

some_same : {A : Type 0} (one other : A) → Some one ≡ Some other → one ≡ other
some_same one other e = cc

-- Which requests move bytes: those of slices.

pub source_moves : (slices : List Slice) (by : Ticket) (command : Command Nobody) → AsksOfSource slices by command → moves_bytes command.kind ≡ is_slice by
source_moves slices (ticket.Slice n) command asks = ap moves_bytes asks.0
source_moves slices ticket.Extents command asks = ap moves_bytes asks.0
source_moves slices ticket.Flush command asks = absurd asks

change_moves : (how : How) (command : Command Nobody) → IsChange how command → moves_bytes command.kind ≡ true
change_moves how command (inl is) = ap moves_bytes is.0
change_moves how command (inr is) = ap moves_bytes is.0

pub destination_moves : (how : How) (slices : List Slice) (by : Ticket) (command : Command Nobody) → AsksOfDestination how slices by command → moves_bytes command.kind ≡ is_slice by
destination_moves how slices (ticket.Slice n) command asks = change_moves how command asks.0
destination_moves how slices ticket.Extents command asks = absurd asks
destination_moves how slices ticket.Flush command asks = ap moves_bytes asks.0

pub same_count : (requests : List sides.Request) → Each (λ (r : sides.Request). moves_bytes r.said.command.kind ≡ is_slice r.ticket) requests → unanswered_of moves_bytes requests ≡ unanswered requests
same_count [] each = refl
same_count (r ∷ rs) each =
    ap (λ (b : Bool). cond (b && is_waiting r.said) 1 0 + unanswered_of moves_bytes rs) each.0
    ∙ ap (λ (n : ℕ). cond (is_slice r.ticket && is_waiting r.said) 1 0 + n) (same_count rs each.1)

pub each_so : (P Q : sides.Request → Type 0) → ((r : sides.Request) → P r → Q r) → (requests : List sides.Request) → Each P requests → Each Q requests
each_so P Q so [] each = tt
each_so P Q so (r ∷ rs) each = (so r each.0, each_so P Q so rs each.1)

summed : (a b c d n : ℕ) → a ≡ c → b ≡ d → c + d ≡ n → a + b ≡ n
summed a b c d n e f g = omega (arith, e, f, g)

-- What was wholly written.

-- each command was, where all that were issued were
all_out : (history : History Ticket) (cookie : ℕ) (asks : Request Ticket) → request history cookie ≡ Some asks → written history ≡ (asked history).issued → nat_le cookie (written history) ≡ true
all_out history cookie asks is all = go (nat_le cookie (written history)) refl
  where
    go : (b : Bool) → nat_le cookie (written history) ≡ b → nat_le cookie (written history) ≡ true
    go true e = e
    go false e = let high = leb-false cookie (written history) e in absurd (none_some asks (sym (request_past history cookie (omega (arith, high, all))) ∙ is))

writes_none : (seens : List (Seen Ticket)) (index : ℕ) (seen : Seen Ticket) → NoneWrites seens → slice_get seens index ≡ Some seen → direction_after seen.history ≢ 3
writes_none [] index seen none is = absurd (none_some seen is)
writes_none (first ∷ others) zero seen none is = subst (λ (s : Seen Ticket). direction_after s.history ≢ 3) (some_same first seen is) none.0
writes_none (first ∷ others) (suc index) seen none is = writes_none others index seen none.1 is

-- a handle that lives reads where it doesn't write
reads_alone : (living : Bool) (out : List ℕ) → living ≡ true → direction_of living out ≢ 3 → direction_of living out ≡ 1
reads_alone true [] lives none = refl
reads_alone true (byte ∷ bytes) lives none = absurd (none refl)
reads_alone false out lives none = absurd (false≢true lives)

-- a request of a side is one of its links
has_side : (histories : Histories) (side : ℕ → Bool) (link cookie : ℕ) (asks : Request Ticket) → request (on_side side histories link) cookie ≡ Some asks → side link ≡ true
has_side histories side link cookie asks is = go (side link) refl
  where
    go : (b : Bool) → side link ≡ b → side link ≡ true
    go true e = e
    go false e = absurd (none_some asks (ap (λ (b : Bool). let none : History Ticket = [] in request (if b then histories link else none) cookie) (sym e) ∙ is))

module _ (Facts : board.Seen → Histories → Type 0) (Sizes : List wire.Call → Histories → Type 0) (from to : Place) (has : ℕ → Bool) (now : board.Seen) (calls : List wire.Call)
    (seens : List (Seen Ticket)) (b : BetweenOf Facts Sizes from to has now calls seens)
    (stands : AllStand seens) (none : NoneWrites seens) (all : AllHeld calls seens) where
  -- A link with a command is that of a handle.
  is_held : (link : ℕ) → is_given link calls ≡ true → IsThere link seens
  is_held link given = go (there_or_apart link seens stands)
    where
      go : IsThere link seens ⊎ AreApart link seens → IsThere link seens
      go (inl there) = there
      go (inr apart) = absurd (false≢true (sym (all link apart) ∙ given))

  -- Each command that waits was wholly written.
  pub waiting_out : (link cookie : ℕ) (asks : Request Ticket) → request (b.course.histories link) cookie ≡ Some asks → outcome_after (b.course.histories link) cookie ≡ Unfinished →
      nat_le cookie (written (b.course.histories link)) ≡ true
  waiting_out link cookie asks is waits =
      let t = is_held link (was_given Facts Sizes from to has now calls seens b link cookie asks is) in
      let same : b.course.histories link ≡ t.seen.history = ap b.course.histories (sym t.same) ∙ one_has t.index t.seen b.course.histories seens t.there b.course.held in
      let is_it : request t.seen.history cookie ≡ Some asks = ap (λ (h : History Ticket). request h cookie) (sym same) ∙ is in
      let lives = waiting_lives t.stands.limit t.seen.history cookie asks t.stands.stands.lawful t.stands.stands.going is_it (ap (λ (h : History Ticket). outcome_after h cookie) (sym same) ∙ waits) in
      subst (λ (h : History Ticket). nat_le cookie (written h) ≡ true) (sym same)
      (all_out t.seen.history cookie asks is_it (nothing_waits t.seen.history (reads_alone (is_living (reading t.seen.history).known.stage) (out_after t.seen.history) lives (writes_none seens t.index t.seen none t.there))))

-- Two exports.

module _ (from to : Place) (size : Option ℕ) (how : How) (has : ℕ → Bool) (slices : List Slice) (now : board.Seen) (calls : List wire.Call) (seens : List (Seen Ticket))
    (b : Between from to size how has slices now calls seens)
    (stands : AllStand seens) (none : NoneWrites seens) (all : AllHeld calls seens) where
  abbrev histories : Histories
  histories = b.course.histories

  abbrev Sizes : List wire.Call → Histories → Type 0
  Sizes calls histories = AreSettled size calls has histories

  held : (link : ℕ) → is_given link calls ≡ true → IsThere link seens
  held = is_held (Stood how has slices) Sizes from to has now calls seens b stands none all

  out : (link cookie : ℕ) (asks : Request Ticket) → request (histories link) cookie ≡ Some asks → outcome_after (histories link) cookie ≡ Unfinished → nat_le cookie (written (histories link)) ≡ true
  out = waiting_out (Stood how has slices) Sizes from to has now calls seens b stands none all

  here : (link cookie : ℕ) (asks : Request Ticket) → request (histories link) cookie ≡ Some asks → nat_le cookie (written (histories link)) ≡ true → is_of (place_of from to (has link)) calls link ≡ true
  here = written_here (Stood how has slices) Sizes from to has now calls seens b stands

  -- A link is of its side's export and of no other.
  only_side : (other : Place) (link : ℕ) → is_of other calls link ≡ true → place_of from to (has link) ≡ other
  only_side other link e =
      let c = both (is_target other.to (target_of link calls)) (is_name other.name (name_asked (on_link link calls).wishes)) e in
      let there = target_is other.to (target_of link calls) c.0 in
      let given = given_by_target link calls other.to there in
      let called = (of from to size how has slices now calls seens b stands link).name other.name (name_is other.name (name_asked (on_link link calls).wishes) c.1) in
      place_same (place_of from to (has link)) other (some_same (place_of from to (has link)).to other.to (sym (b.placed.address link given) ∙ there)) (sym (b.placed.name link given) ∙ sym called)

  module _ (place : Place) (side : ℕ → Bool) (its : (link : ℕ) → is_of place calls link ≡ true → side link ≡ true) (mine : (link : ℕ) → side link ≡ true → place_of from to (has link) ≡ place) where
    requested : (link cookie : ℕ) (asks : Request Ticket) → request (on_side side histories link) cookie ≡ Some asks → request (histories link) cookie ≡ Some asks
    requested link cookie asks is = ap (λ (h : History Ticket). request h cookie) (sym (on_here side histories link (has_side histories side link cookie asks is))) ∙ is

    -- the history of a link of the side on which a command was asked
    same_there : (link cookie : ℕ) (asks : Request Ticket) → request (on_side side histories link) cookie ≡ Some asks → on_side side histories link ≡ histories link
    same_there link cookie asks is = on_here side histories link (has_side histories side link cookie asks is)

    are_of : AreWaitingOn place calls (on_side side histories)
    are_of = record {
      says = λ link of_it. subst (λ (h : History Ticket). DrivenSays h (on_link link calls)) (sym (on_here side histories link (its link of_it))) (says from to size how has slices now calls seens b stands link);
      asked = λ link cookie asks is gone.
          subst (λ (p : Place). is_of p calls link ≡ true) (mine link (has_side histories side link cookie asks is))
          (here link cookie asks (requested link cookie asks is) (subst (λ (h : History Ticket). nat_le cookie (written h) ≡ true) (same_there link cookie asks is) gone));
      out = λ link cookie asks is waits.
          subst (λ (h : History Ticket). nat_le cookie (written h) ≡ true) (sym (same_there link cookie asks is))
          (out link cookie asks (requested link cookie asks is) (ap (λ (h : History Ticket). outcome_after h cookie) (sym (same_there link cookie asks is)) ∙ waits));
    }

  -- The two sides.
  module _ (two : from ≢ to) where
    pub of_source : AreWaitingOn from calls (on_side has histories)
    of_source = are_of from has (λ link e. go link (has link) refl (only_side from link e)) (λ link e. ap (place_of from to) e)
      where
        go : (link : ℕ) (s : Bool) → has link ≡ s → place_of from to (has link) ≡ from → has link ≡ true
        go link true is e = is
        go link false is e = absurd (two (sym e ∙ ap (place_of from to) is))

    pub of_destination : AreWaitingOn to calls (on_side (beside has) histories)
    of_destination = are_of to (beside has) (λ link e. go link (has link) refl (only_side to link e)) (λ link e. ap (place_of from to) (is_not (has link) e))
      where
        is_not : (s : Bool) → not s ≡ true → s ≡ false
        is_not true e = absurd (false≢true e)
        is_not false e = refl

        go : (link : ℕ) (s : Bool) → has link ≡ s → place_of from to (has link) ≡ to → not (has link) ≡ true
        go link true is e = absurd (two (sym (ap (place_of from to) is) ∙ e))
        go link false is e = ap not is

    counts : now.error ≡ None → AreUnderWay from to (busy now.rows) calls
    counts well =
        let s = b.course.stood in
        let k : Stands how slices now.rows s.source s.destination = s.stands well in
        record {
          source = unanswered_of moves_bytes s.source;
          destination = unanswered_of moves_bytes s.destination;
          reads = tracked_are_unanswered moves_bytes from calls (on_side has histories) s.source s.reads of_source;
          changes = tracked_are_unanswered moves_bytes to calls (on_side (beside has) histories) s.destination s.changes of_destination;
          all = summed (unanswered_of moves_bytes s.source) (unanswered_of moves_bytes s.destination) (unanswered s.source) (unanswered s.destination) (busy now.rows)
              (same_count s.source (each_so (λ (r : sides.Request). AsksOfSource slices r.ticket r.said.command) (λ (r : sides.Request). moves_bytes r.said.command.kind ≡ is_slice r.ticket) (λ r asks. source_moves slices r.ticket r.said.command asks) s.source k.reads))
              (same_count s.destination (each_so (λ (r : sides.Request). AsksOfDestination how slices r.ticket r.said.command) (λ (r : sides.Request). moves_bytes r.said.command.kind ≡ is_slice r.ticket) (λ r asks. destination_moves how slices r.ticket r.said.command asks) s.destination k.changes))
              k.counted;
        }

  -- A block status of the source that waits is unanswered.
  module _ (link cookie : ℕ) (asks : Request Ticket) (source : has link ≡ true) (is : request (histories link) cookie ≡ Some asks) (waits : outcome_after (histories link) cookie ≡ Unfinished) where
    of_it : is_of from calls link ≡ true
    of_it = subst (λ (p : Place). is_of p calls link ≡ true) (ap (place_of from to) source) (here link cookie asks is (out link cookie asks is waits))

    shown : (dealt_with from calls).asked link cookie ≡ Some (bare asks)
    shown =
        ap (λ (t : Bool). only_if t (asked_on (on_link link calls) cookie)) of_it
        ∙ (says from to size how has slices now calls seens b stands link).requests cookie
        ∙ ap (λ (t : Bool). if t then option_map bare (request (histories link) cookie) else None) (out link cookie asks is waits)
        ∙ ap (λ (a : Option (Request Ticket)). option_map bare a) is

    came : (dealt_with from calls).outcome link cookie ≡ Unfinished
    came =
        ap (λ (t : Bool). if t then answered (on_link link calls) cookie else Unfinished) of_it
        ∙ (says from to size how has slices now calls seens b stands link).outcomes cookie (out link cookie asks is waits)
        ∙ waits

  -- a command of another board's handles is one of these
  module _ (range : ℕ × ℕ) (known : Known) (told : ToldCourse how has slices now calls seens (Some range) known) where
    abbrev others : Histories
    others = told.course.histories

    told_given : (link cookie : ℕ) (asks : Request Ticket) → request (others link) cookie ≡ Some asks → is_given link calls ≡ true
    told_given link cookie asks is = go (is_given link calls) refl
      where
        go : (g : Bool) → is_given link calls ≡ g → is_given link calls ≡ true
        go true g = g
        go false g = absurd (none_some asks (sym (ap (λ (h : History Ticket). request h cookie) (told.course.unused link g).blank) ∙ is))

    same_history : (link : ℕ) → is_given link calls ≡ true → others link ≡ histories link
    same_history link given =
        let t = held link given in
        subst (λ (n : ℕ). others n ≡ histories n) t.same (one_has t.index t.seen others seens t.there told.course.held ∙ sym (one_has t.index t.seen histories seens t.there b.course.held))

    -- of those that tell extents one waits
    one_waits : (link cookie : ℕ) (asks : Request Ticket) → request (others link) cookie ≡ Some asks → tells_extents asks.flight ≡ true → outcome_after (others link) cookie ≡ Unfinished → (link ≡ told.maps.link) × (cookie ≡ told.maps.cookie)
    one_waits link cookie asks is tells waits = elim (told.maps.others link cookie asks is tells) [
      | inl same ↦ same
      | inr done ↦ absurd (differ done.bytes (sym waits ∙ done.is))
    ]
      where
        differ : (bytes : List ℕ) → Unfinished ≡ Done bytes → ⊥
        differ bytes e = cc

    module _ (two : from ≢ to) (well : now.error ≡ None) (unmapped : now.mapped ≡ false) where
      abbrev a : IsAsking has others
      a = told.awaits.on refl well unmapped

      -- the block status that waits
      it : IsUnanswered is_block_status (dealt_with from calls) a.link a.cookie
      it =
          let same = same_history a.link (told_given a.link a.cookie a.asks a.asked) in
          let is : request (histories a.link) a.cookie ≡ Some a.asks = ap (λ (h : History Ticket). request h a.cookie) (sym same) ∙ a.asked in
          let waits : outcome_after (histories a.link) a.cookie ≡ Unfinished = ap (λ (h : History Ticket). outcome_after h a.cookie) (sym same) ∙ a.waits in
          record { command = bare a.asks; asked = shown a.link a.cookie a.asks a.source is waits; kind = ap is_block_status a.kind; waits = came a.link a.cookie a.asks a.source is waits }

      its_place : (a.link ≡ told.maps.link) × (a.cookie ≡ told.maps.cookie)
      its_place = one_waits a.link a.cookie a.asks a.asked (or_right (first_tells a.asks.flight.first) (is_extents a.asks.flight.done.callback) a.ends) a.waits

      -- Any other is the same.

      ends_extents : (by : Ticket) (command : Command Nobody) → AsksOfSource slices by command → is_block_status command.kind ≡ true → is_extents by ≡ true
      ends_extents (ticket.Slice n) command asks kind = absurd (false≢true (sym (ap is_block_status asks.0) ∙ kind))
      ends_extents ticket.Extents command asks kind = refl
      ends_extents ticket.Flush command asks kind = absurd asks

      the_same : (link cookie : ℕ) (q : Request Ticket) → has link ≡ true → request (histories link) cookie ≡ Some q → is_block_status q.kind ≡ true → outcome_after (histories link) cookie ≡ Unfinished → (a.link ≡ link) × (a.cookie ≡ cookie)
      the_same link cookie q source is kind waits =
          let s = b.course.stood in
          let k : Stands how slices now.rows s.source s.destination = s.stands well in
          let r : sides.Request = sides.request link cookie q.flight.done.callback (record { command = bare q; outcome = outcome_after (histories link) cookie }) in
          let mine : on_side has histories link ≡ histories link = on_here has histories link source in
          let there = found link cookie r s.source ((s.reads link).each cookie ∙ ap (λ (h : History Ticket). told_by link cookie h) mine ∙ ap (λ (o : Option (Request Ticket)). request_of link cookie o (outcome_after (histories link) cookie)) is) in
          let asks : AsksOfSource slices q.flight.done.callback (bare q) = (Each-back (λ (x : sides.Request). AsksOfSource slices x.ticket x.said.command) there.front (r ∷ there.back) (subst (λ (l : List sides.Request). Each (λ (x : sides.Request). AsksOfSource slices x.ticket x.said.command) l) there.is k.reads)).0 in
          let same = same_history link (asked_given from to size how has slices now calls seens b link cookie q is) in
          let at = one_waits link cookie q (ap (λ (h : History Ticket). request h cookie) same ∙ is) (or_right (first_tells q.flight.first) (is_extents q.flight.done.callback) (ends_extents q.flight.done.callback (bare q) asks kind))
          (ap (λ (h : History Ticket). outcome_after h cookie) same ∙ waits) in
          (its_place.0 ∙ sym at.0, its_place.1 ∙ sym at.1)

      no_other : (link cookie : ℕ) → IsUnanswered is_block_status (dealt_with from calls) link cookie → (a.link ≡ link) × (a.cookie ≡ cookie)
      no_other link cookie u = on (is_of from calls link) refl u.asked u.waits
        where
          some_is : (q : Request Ticket) → Some (bare q) ≡ Some u.command → bare q ≡ u.command
          some_is q e = cc

          side : is_of from calls link ≡ true → has link ≡ true
          side ours = go (has link) refl (only_side from link ours)
            where
              go : (s : Bool) → has link ≡ s → place_of from to (has link) ≡ from → has link ≡ true
              go true is e = is
              go false is e = absurd (two (sym e ∙ ap (place_of from to) is))

          asked_by : is_of from calls link ≡ true → nat_le cookie (written (histories link)) ≡ true → answered (on_link link calls) cookie ≡ Unfinished → (o : Option (Request Ticket)) → request (histories link) cookie ≡ o → option_map bare o ≡ Some u.command → (a.link ≡ link) × (a.cookie ≡ cookie)
          asked_by ours gone waits None is e = absurd (none_some u.command e)
          asked_by ours gone waits (Some q) is e =
              the_same link cookie q (side ours) is (ap (λ (c : Command Nobody). is_block_status c.kind) (some_is q e) ∙ u.kind)
              (sym ((says from to size how has slices now calls seens b stands link).outcomes cookie gone) ∙ waits)

          whole : is_of from calls link ≡ true → answered (on_link link calls) cookie ≡ Unfinished → (gone : Bool) → nat_le cookie (written (histories link)) ≡ gone → (if gone then option_map bare (request (histories link) cookie) else None) ≡ Some u.command → (a.link ≡ link) × (a.cookie ≡ cookie)
          whole ours waits true gone e = asked_by ours gone waits (request (histories link) cookie) refl e
          whole ours waits false gone e = absurd (none_some u.command e)

          on : (t : Bool) → is_of from calls link ≡ t → only_if t (asked_on (on_link link calls) cookie) ≡ Some u.command → (if t then answered (on_link link calls) cookie else Unfinished) ≡ Unfinished → (a.link ≡ link) × (a.cookie ≡ cookie)
          on true ours e waits = whole ours waits (nat_le cookie (written (histories link))) refl (sym ((says from to size how has slices now calls seens b stands link).requests cookie) ∙ e)
          on false ours e waits = absurd (none_some u.command e)

      awaits : AsksExtents from calls
      awaits = record {
        one = record {
          list = (a.link, a.cookie) ∷ [];
          many = refl;
          once = ((λ none. none), tt);
          all = λ link cookie. (here_it link cookie, λ u. inl (no_other link cookie u));
        };
      }
        where
          here_it : (link cookie : ℕ) → ((a.link ≡ link) × (a.cookie ≡ cookie)) ⊎ ⊥ → IsUnanswered is_block_status (dealt_with from calls) link cookie
          here_it link cookie (inl same) = subst (λ (n : ℕ). IsUnanswered is_block_status (dealt_with from calls) n cookie) same.0 (subst (λ (n : ℕ). IsUnanswered is_block_status (dealt_with from calls) a.link n) same.1 it)
          here_it link cookie (inr none) = absurd none

      -- It asks for the range that is waited for.

      same_asks : a.asks ≡ told.maps.asks
      same_asks = some_same a.asks told.maps.asks (sym a.asked ∙ ap (λ (n : ℕ). request (others n) a.cookie) its_place.0 ∙ ap (λ (n : ℕ). request (others told.maps.link) n) its_place.1 ∙ told.maps.asked)

      asks_range : AsksExtentsOf range from calls
      asks_range =
          let same = same_history a.link (told_given a.link a.cookie a.asks a.asked) in
          let is : request (histories a.link) a.cookie ≡ Some a.asks = ap (λ (h : History Ticket). request h a.cookie) (sym same) ∙ a.asked in
          let waits : outcome_after (histories a.link) a.cookie ≡ Unfinished = ap (λ (h : History Ticket). outcome_after h a.cookie) (sym same) ∙ a.waits in
          record {
            one = awaits.one;
            link = a.link;
            cookie = a.cookie;
            command = bare a.asks;
            asked = shown a.link a.cookie a.asks a.source is waits;
            kind = ap is_block_status a.kind;
            waits = came a.link a.cookie a.asks a.source is waits;
            begins = ap (λ (q : Request Ticket). q.offset) same_asks ∙ told.maps.offset;
            long = ap (λ (q : Request Ticket). q.length) same_asks ∙ told.maps.length_;
          }

pub quiet_counts : QuietCounts
quiet_counts from to size how has slices now calls seens b well stands none all two = counts from to size how has slices now calls seens b stands none all two well

pub quiet_awaits : QuietAwaits
quiet_awaits from to size how has slices now calls seens range known b told well unmapped stands none all two = awaits from to size how has slices now calls seens b stands none all range known told two well unmapped

pub quiet_asks : QuietAsks
quiet_asks from to size how has slices now calls seens range known b told well unmapped stands none all two = asks_range from to size how has slices now calls seens b stands none all range known told two well unmapped
