-- What is under way by the board of a copy from an export to a file is unanswered by its calls, where no handle has anything to write.
use Rattle.std.proofs.Common.{◌≡◌, ◌⊎◌, inl, inr, ℕ, ◌+◌, ◌<◌, Bool, true, false, ◌&&◌, List, [], ◌∷◌, length, Option, Some, None, is_some, refl, ap, sym, subst, ◌∙◌, arith, nat_le, if◌then◌else◌}
use Rattle.std.specs.Option.{option_map}
use Rattle.std.proofs.lemmas.Bool.{false≢true}
use Rattle.lnbd_keyed.specs.Keyed.{IsBelow, value_at}
use Rattle.lnbd_model.specs.declared.target.Place.{Place}
use Rattle.lnbd_outcome.specs.Outcome.{Done, Unfinished}
use Rattle.lnbd_link.specs.Call as wire
use Rattle.lnbd_history.specs.Commands.{Command, Request}
use Rattle.lnbd_history.specs.Events.{History}
use Rattle.lnbd_history.specs.History.{request}
use Rattle.lnbd_asked.specs.Driven.{DrivenSays, Drives, outcome_after, written}
use Rattle.lnbd_asked.specs.Honest.{has}
use Rattle.lnbd_asked.specs.Link.{Nobody}
use Rattle.lnbd_asked.specs.Transcript.{Dealt, answered, asked_on, bare, dealt_with, is_of, on_link, only_if}
use Rattle.lnbd_poll.specs.Seen.{Seen}
use Rattle.lnbd_drives.proofs.Saying.{one_of}
use Rattle.lnbd_plan.specs.declared.grid.Slice.{Slice}
use Rattle.lnbd_board.specs.declared.how.How.{How}
use Rattle.lnbd_board.specs.declared.row.Row.{Row}
use Rattle.lnbd_board.specs.declared.ticket.Ticket.{Ticket}
use Rattle.lnbd_board.specs.declared.ticket.Ticket.TheVariants as ticket
use Rattle.lnbd_board.specs.Files as board
use Rattle.lnbd_board.specs.Requests.{Each, IsDealt, IsIn, own}
use Rattle.lnbd_board.specs.Requests as sides
use Rattle.lnbd_board.specs.Rows.{AsksOfSource, Stands, StandsAs, StandsAt, busy, slice_at}
use Rattle.lnbd_board.proofs.Lists.{Each-back}
use Rattle.lnbd_onesided.specs.Dealt.{dealt_by}
use Rattle.lnbd_onesided.proofs.DealtLemmas.{apart_are_dealt}
use Rattle.lnbd_tracks.specs.Awaiting.{IsAsking}
use Rattle.lnbd_tracks.specs.Heeding.{Heeds, IsHeard}
use Rattle.lnbd_tracks.specs.Laws.{IsDone, moves_bytes}
use Rattle.lnbd_tracks.specs.Mapping.{IsWanted, Maps, NoneAsked, first_tells, is_extents, tells_extents}
use Rattle.lnbd_tracks.specs.Saying.{is_told, said_after, told_at}
use Rattle.lnbd_tracks.specs.Tracks.{Histories, request_of}
use Rattle.lnbd_tracks.specs.Unanswered.{AreUnanswered, IsUnanswered}
use Rattle.lnbd_tracks.proofs.Finished.{finished_are_done}
use Rattle.lnbd_tracks.proofs.Filed.{driven_tells}
use Rattle.lnbd_tracks.proofs.Living.{over_came}
use Rattle.lnbd_tracks.proofs.Staying.{or_right}
use Rattle.lnbd_tracks.proofs.Under.{found}
use Rattle.lnbd_course.specs.Failed.{AllStand}
use Rattle.lnbd_course.specs.Far.{AreNumbered, FarStood, ToFile}
use Rattle.lnbd_course.specs.FarCourse.{FarCourse, IsSettled, every}
use Rattle.lnbd_course.specs.Reached.{WasTold}
use Rattle.lnbd_course.specs.Slices.{AreBegun, AsksExtentsOf, IsAwaited}
use Rattle.lnbd_course.specs.Told.{Known, Knows}
use Rattle.lnbd_course.specs.UnderWay.{AllHeld, NoneWrites, is_block_status}
use Rattle.lnbd_course.proofs.Ending.{are_dealt, done_out, gone_out, in_out, of_it}
use Rattle.lnbd_course.proofs.Failing.{IsThere, course_says, there_or_apart, written_here}
use Rattle.lnbd_course.proofs.FarStanding.{numbered_apart}
use Rattle.lnbd_course.proofs.Holding.{one_has}
use Rattle.lnbd_course.proofs.Listing.{IsAsked, asked_by}
use Rattle.lnbd_course.proofs.SliceCounts.{AreFrom, IsBegun, are_begun, each_busy}
use Rattle.lnbd_course.proofs.SliceStates.{SaysDone, SaysWaiting, is_awaited, is_finished}
use Rattle.lnbd_course.proofs.UnderWay.{waiting_out}
use Rattle.lnbd_copyfile.specs.ToFileFull.{AreTaken}

pub none_some : {A : Type 0} (one : A) → None ≡ Some one → ⊥
none_some one e = cc

pub some_same : {A : Type 0} (one other : A) → Some one ≡ Some other → one ≡ other
some_same one other e = cc

pub unfinished_done : (bytes : List ℕ) → Unfinished ≡ Done bytes → ⊥
unfinished_done bytes e = cc

pub only_if_some : {A : Type 0} (test : Bool) (one : Option A) (x : A) → only_if test one ≡ Some x → (test ≡ true) × (one ≡ Some x)
only_if_some true one x e = (refl, e)
only_if_some false one x e = absurd (none_some x e)

-- The file's requests.

numbered_done : (first : ℕ) (made : List sides.Request) → AreNumbered first made → (r : sides.Request) → IsIn r made → IsDone r.said.outcome
numbered_done first [] numbered r there = absurd there
numbered_done first (x ∷ xs) numbered r (inl same) = subst (λ (y : sides.Request). IsDone y.said.outcome) same numbered.0.2
numbered_done first (x ∷ xs) numbered r (inr there) = numbered_done (first + 1) xs numbered.1 r there

module _ (size : ℕ) (made : List sides.Request) (numbered : AreNumbered 0 made) where
  pub dealt_file : IsDealt made (dealt_by size made)
  dealt_file = apart_are_dealt size made (numbered_apart 0 made numbered)

  pub says_file : SaysDone made (dealt_by size made)
  says_file r there done = dealt_file.shown r there

  pub waits_file : SaysWaiting made (dealt_by size made)
  waits_file r there waits = dealt_file.shown r there

  -- none is unanswered
  pub none_waits : (link cookie : ℕ) (command : Command Nobody) → (dealt_by size made).asked link cookie ≡ Some command → (dealt_by size made).outcome link cookie ≡ Unfinished → ⊥
  none_waits link cookie command asked waits =
      let u = dealt_file.only link cookie command asked in
      let done = numbered_done 0 made numbered u.request u.within in
      let shown : (dealt_by size made).outcome link cookie ≡ u.request.said.outcome =
      subst (λ (l : ℕ). (dealt_by size made).outcome l cookie ≡ u.request.said.outcome) u.on
      (subst (λ (k : ℕ). (dealt_by size made).outcome u.request.link k ≡ u.request.said.outcome) u.by (dealt_file.shown u.request u.within).1) in
      unfinished_done done.bytes (sym waits ∙ shown ∙ done.is)

  -- so each slice that is begun was read, or its READ is unanswered
  taken : (how : How) (source : Dealt) (slices : List Slice) (n : ℕ) → AreBegun how source (dealt_by size made) slices n → AreTaken source slices n
  taken how source [] n begun = begun
  taken how source (slice ∷ slices) n (inl one) = inl (one.0.read, taken how source slices n one.1)
  taken how source (slice ∷ slices) n (inr one) = elim one.0 [
    | inl reads ↦ inr (reads, (one.1.0, (one.1.1.0, taken how source slices one.1.0 one.1.1.1)))
    | inr changes ↦ absurd (none_waits changes.link changes.cookie changes.command changes.asked changes.waits)
  ]

-- The source is asked for bytes by slices alone.
ends_extents : (slices : List Slice) (by : Ticket) (command : Command Nobody) → AsksOfSource slices by command → is_block_status command.kind ≡ true → is_extents by ≡ true
ends_extents slices (ticket.Slice n) command asks kind = absurd (false≢true (sym (ap is_block_status asks.0) ∙ kind))
ends_extents slices ticket.Extents command asks kind = refl
ends_extents slices ticket.Flush command asks kind = absurd asks

pub any_from : (rows : List (ℕ × Row)) → AreFrom 0 rows
any_from [] = tt
any_from (x ∷ xs) = omega arith

module _ (made : List sides.Request) (at : Place) (size : Option ℕ) (how : How) (slices : List Slice) (now : board.Seen) (calls : List wire.Call) (seens : List (Seen Ticket))
    (wanted : Option (ℕ × ℕ)) (known : Known) (b : FarCourse (ToFile made) at size how slices now calls seens wanted known) (well : now.error ≡ None) (stands : AllStand seens) where
  abbrev F : board.Seen → Histories → Type 0
  F = Knows (FarStood (ToFile made) how slices) every wanted known

  abbrev histories : Histories
  histories = b.course.histories

  abbrev k : Knows (FarStood (ToFile made) how slices) every wanted known now b.course.histories
  k = b.course.stood

  abbrev s : FarStood (ToFile made) how slices now b.course.histories
  s = b.course.stood.stood

  says : (link : ℕ) → DrivenSays (b.course.histories link) (on_link link calls)
  says = course_says F now calls seens b.course stands

  here : (link cookie : ℕ) (asks : Request Ticket) → request (histories link) cookie ≡ Some asks → nat_le cookie (written (histories link)) ≡ true → is_of at calls link ≡ true
  here = written_here F (IsSettled size) at at every now calls seens b stands

  -- A request of a link is in the list.
  abbrev mine_of : (link cookie : ℕ) → Request Ticket → sides.Request
  mine_of link cookie asks = sides.request link cookie asks.flight.done.callback (record { command = bare asks; outcome = outcome_after (histories link) cookie })

  asks_so : (link cookie : ℕ) (asks : Request Ticket) → request (histories link) cookie ≡ Some asks → AsksOfSource slices asks.flight.done.callback (bare asks)
  asks_so link cookie asks is =
      let there = found link cookie (mine_of link cookie asks) s.asked
      ((s.tracked link).each cookie ∙ ap (λ (o : Option (Request Ticket)). request_of link cookie o (outcome_after (histories link) cookie)) is) in
      (Each-back (λ (r : sides.Request). AsksOfSource slices r.ticket r.said.command) there.front (mine_of link cookie asks ∷ there.back)
      (subst (λ (l : List sides.Request). Each (λ r. AsksOfSource slices r.ticket r.said.command) l) there.is (s.stands well).reads)).0

  -- What was dealt was asked by a handle.
  asked_here : (link cookie : ℕ) (command : Command Nobody) → (dealt_with at calls).asked link cookie ≡ Some command → (is_of at calls link ≡ true) × IsAsked (histories link) cookie command
  asked_here link cookie command asked =
      let both = only_if_some (is_of at calls link) (asked_on (on_link link calls) cookie) command asked in
      (both.0, asked_by (histories link) (on_link link calls) cookie command (says link) both.1)

  came_so : (link cookie : ℕ) → is_of at calls link ≡ true → nat_le cookie (written (histories link)) ≡ true → (dealt_with at calls).outcome link cookie ≡ outcome_after (histories link) cookie
  came_so link cookie ours out = ap (λ (t : Bool). if t then answered (on_link link calls) cookie else Unfinished) ours ∙ (says link).outcomes cookie out

  -- a block status tells extents
  tells : (link cookie : ℕ) (asks : Request Ticket) → request (histories link) cookie ≡ Some asks → is_block_status asks.kind ≡ true → tells_extents asks.flight ≡ true
  tells link cookie asks is kind =
      or_right (first_tells asks.flight.first) (is_extents asks.flight.done.callback) (ends_extents slices asks.flight.done.callback (bare asks) (asks_so link cookie asks is) kind)

  -- Where no extents are waited for no BLOCK_STATUS is unanswered.
  module _ (none : wanted ≡ None) where
    asked_none : NoneAsked histories
    asked_none = subst (λ (o : Option (ℕ × ℕ)). Maps every histories o now) none k.maps

    waits_not : (link cookie : ℕ) → IsUnanswered is_block_status (dealt_with at calls) link cookie → ⊥
    waits_not link cookie u =
        let a = asked_here link cookie u.command u.asked in
        let kind : is_block_status a.1.asks.kind ≡ true = ap (λ (c : Command Nobody). is_block_status c.kind) a.1.same ∙ u.kind in
        let done = asked_none link cookie a.1.asks a.1.is (tells link cookie a.1.asks a.1.is kind) in
        unfinished_done done.bytes (sym u.waits ∙ came_so link cookie a.0 a.1.out ∙ done.is)

    pub none_asked_far : AreUnanswered is_block_status (dealt_with at calls) 0
    none_asked_far = record { list = []; many = refl; once = tt; all = λ link cookie. ((λ none. absurd none), waits_not link cookie) }

  -- The slices that were begun.

  dealt_near : IsDealt (gone_out histories s.asked) (dealt_with at calls)
  dealt_near = are_dealt at calls histories s.asked s.tracked (λ link ours. says link) here

  says_done : SaysDone s.asked (dealt_with at calls)
  says_done r there done = dealt_near.shown r (in_out histories r s.asked there (done_out histories s.asked r s.tracked there done))

  -- each slice that has a row is awaited
  abbrev RowsAreAwaited : Type 0
  RowsAreAwaited = (i : ℕ) (row : Row) → value_at i now.rows ≡ Some row → StandsAt how (slice_at slices i) row.stage (own i s.asked) (own i made)
      → IsAwaited how (slice_at slices i) (dealt_with at calls) (dealt_by 0 made)

  abbrev rows_stand : Stands how slices now.rows s.asked made
  rows_stand = s.stands well

  one_begun : RowsAreAwaited → (i : ℕ) → i < length slices → IsBegun how (dealt_with at calls) (dealt_by 0 made) (slice_at slices i) (value_at i now.rows)
  one_begun awaited i l = go (value_at i now.rows) refl (rows_stand.each i l)
    where
      go : (row : Option Row) → value_at i now.rows ≡ row → StandsAs how (slice_at slices i) row (own i s.asked) (own i made) →
          IsBegun how (dealt_with at calls) (dealt_by 0 made) (slice_at slices i) row
      go None is over = is_finished how i (slice_at slices i) s.asked made (dealt_with at calls) (dealt_by 0 made) says_done (says_file 0 made s.numbered) over
      go (Some row) is on = awaited i row is on.1

  begun_so : RowsAreAwaited → AreTaken (dealt_with at calls) slices (length now.rows)
  begun_so awaited =
      taken 0 made s.numbered how (dealt_with at calls) slices (length now.rows)
      (are_begun how (dealt_with at calls) (dealt_by 0 made) 0 slices now.rows (any_from now.rows) rows_stand.rising (subst (λ (n : ℕ). IsBelow now.rows n) (omega arith) rows_stand.below)
      (λ i l. subst (λ (n : ℕ). IsBegun how (dealt_with at calls) (dealt_by 0 made) (slice_at slices i) (value_at n now.rows)) (omega arith) (one_begun awaited i l)))

  no_row : (row : Row) → None ≡ Some row → ⊥
  no_row row e = cc

  -- Where none has a row.
  module _ (over : now.rows ≡ []) where
    pub ended_taken : AreTaken (dealt_with at calls) slices 0
    ended_taken = subst (λ (rows : List (ℕ × Row)). AreTaken (dealt_with at calls) slices (length rows)) over
        (begun_so (λ i row is on. absurd (no_row row (sym (ap (λ (rows : List (ℕ × Row)). value_at i rows) over) ∙ is))))

    moves_not : (link cookie : ℕ) → IsUnanswered moves_bytes (dealt_with at calls) link cookie → ⊥
    moves_not link cookie u =
        let a = asked_here link cookie u.command u.asked in
        let there = found link cookie (mine_of link cookie a.1.asks) s.asked
        ((s.tracked link).each cookie ∙ ap (λ (o : Option (Request Ticket)). request_of link cookie o (outcome_after (histories link) cookie)) a.1.is) in
        let each = (finished_are_done how slices s.asked made (subst (λ (rows : List (ℕ × Row)). Stands how slices rows s.asked made) over rows_stand)).0 in
        let done = (Each-back (λ (r : sides.Request). moves_bytes r.said.command.kind ≡ true → IsDone r.said.outcome) there.front (mine_of link cookie a.1.asks ∷ there.back)
        (subst (λ (l : List sides.Request). Each (λ r. moves_bytes r.said.command.kind ≡ true → IsDone r.said.outcome) l) there.is each)).0
        (ap (λ (c : Command Nobody). moves_bytes c.kind) a.1.same ∙ u.kind) in
        unfinished_done done.bytes (sym u.waits ∙ came_so link cookie a.0 a.1.out ∙ done.is)

    pub none_moves_far : AreUnanswered moves_bytes (dealt_with at calls) 0
    none_moves_far = record { list = []; many = refl; once = tt; all = λ link cookie. ((λ none. absurd none), moves_not link cookie) }

  -- Where each link that was given is a handle's, and none has anything to write.
  module _ (quiet : NoneWrites seens) (all : AllHeld calls seens) where
    out : (link cookie : ℕ) (asks : Request Ticket) → request (histories link) cookie ≡ Some asks → outcome_after (histories link) cookie ≡ Unfinished →
        nat_le cookie (written (histories link)) ≡ true
    out = waiting_out F (IsSettled size) at at every now calls seens b stands quiet all

    says_waiting : SaysWaiting s.asked (dealt_with at calls)
    says_waiting r there waits =
        let o = of_it histories s.asked r s.tracked there in
        dealt_near.shown r (in_out histories r s.asked there (out r.link r.cookie o.asks o.is (sym o.outcome ∙ waits)))

    pub quiet_taken : busy now.rows ≡ length now.rows → AreTaken (dealt_with at calls) slices (length now.rows)
    quiet_taken busy_all = begun_so (λ i row is on. is_awaited how i (slice_at slices i) s.asked made (dealt_with at calls) (dealt_by 0 made) says_done says_waiting (waits_file 0 made s.numbered)
        row.stage (each_busy i row now.rows busy_all is) on)

    -- The BLOCK_STATUS that waits.
    module _ (range : ℕ × ℕ) (is_wanted : wanted ≡ Some range) (unmapped : now.mapped ≡ false) where
      maps : IsWanted every histories range now
      maps = subst (λ (o : Option (ℕ × ℕ)). Maps every histories o now) is_wanted k.maps

      abbrev a : IsAsking every histories
      a = k.awaits.on (ap (λ (o : Option (ℕ × ℕ)). is_some o) is_wanted) well unmapped

      shown : (link cookie : ℕ) (asks : Request Ticket) → request (histories link) cookie ≡ Some asks → outcome_after (histories link) cookie ≡ Unfinished →
          (dealt_with at calls).asked link cookie ≡ Some (bare asks)
      shown link cookie asks is waits =
          ap (λ (t : Bool). only_if t (asked_on (on_link link calls) cookie)) (here link cookie asks is (out link cookie asks is waits))
          ∙ (says link).requests cookie
          ∙ ap (λ (t : Bool). if t then option_map bare (request (histories link) cookie) else None) (out link cookie asks is waits)
          ∙ ap (λ (o : Option (Request Ticket)). option_map bare o) is

      waits_so : (link cookie : ℕ) (asks : Request Ticket) → request (histories link) cookie ≡ Some asks → outcome_after (histories link) cookie ≡ Unfinished →
          (dealt_with at calls).outcome link cookie ≡ Unfinished
      waits_so link cookie asks is waits = came_so link cookie (here link cookie asks is (out link cookie asks is waits)) (out link cookie asks is waits) ∙ waits

      it : IsUnanswered is_block_status (dealt_with at calls) a.link a.cookie
      it = record { command = bare a.asks; asked = shown a.link a.cookie a.asks a.asked a.waits; kind = ap is_block_status a.kind; waits = waits_so a.link a.cookie a.asks a.asked a.waits }

      -- of those that tell extents one waits
      one_waits : (link cookie : ℕ) (asks : Request Ticket) → request (histories link) cookie ≡ Some asks → is_block_status asks.kind ≡ true → outcome_after (histories link) cookie ≡ Unfinished →
          (link ≡ maps.link) × (cookie ≡ maps.cookie)
      one_waits link cookie asks is kind waits = elim (maps.others link cookie asks is (tells link cookie asks is kind)) [
        | inl same ↦ same
        | inr done ↦ absurd (unfinished_done done.bytes (sym waits ∙ done.is))
      ]

      its_place : (a.link ≡ maps.link) × (a.cookie ≡ maps.cookie)
      its_place = one_waits a.link a.cookie a.asks a.asked (ap is_block_status a.kind) a.waits

      no_other : (link cookie : ℕ) → IsUnanswered is_block_status (dealt_with at calls) link cookie → (a.link ≡ link) × (a.cookie ≡ cookie)
      no_other link cookie u =
          let own = asked_here link cookie u.command u.asked in
          let waits : outcome_after (histories link) cookie ≡ Unfinished = sym (came_so link cookie own.0 own.1.out) ∙ u.waits in
          let place = one_waits link cookie own.1.asks own.1.is (ap (λ (c : Command Nobody). is_block_status c.kind) own.1.same ∙ u.kind) waits in
          (its_place.0 ∙ sym place.0, its_place.1 ∙ sym place.1)

      here_it : (link cookie : ℕ) → ((a.link ≡ link) × (a.cookie ≡ cookie)) ⊎ ⊥ → IsUnanswered is_block_status (dealt_with at calls) link cookie
      here_it link cookie (inl same) = subst (λ (n : ℕ). IsUnanswered is_block_status (dealt_with at calls) n cookie) same.0
          (subst (λ (n : ℕ). IsUnanswered is_block_status (dealt_with at calls) a.link n) same.1 it)
      here_it link cookie (inr none) = absurd none

      same_asks : a.asks ≡ maps.asks
      same_asks = some_same a.asks maps.asks (sym a.asked ∙ ap (λ (n : ℕ). request (histories n) a.cookie) its_place.0 ∙ ap (λ (n : ℕ). request (histories maps.link) n) its_place.1 ∙ maps.asked)

      pub asks_range_far : AsksExtentsOf range at calls
      asks_range_far = record {
        one = record { list = (a.link, a.cookie) ∷ []; many = refl; once = ((λ none. none), tt); all = λ link cookie. (here_it link cookie, λ u. inl (no_other link cookie u)) };
        link = a.link;
        cookie = a.cookie;
        command = bare a.asks;
        asked = shown a.link a.cookie a.asks a.asked a.waits;
        kind = ap is_block_status a.kind;
        waits = waits_so a.link a.cookie a.asks a.asked a.waits;
        begins = ap (λ (q : Request Ticket). q.offset) same_asks ∙ maps.offset;
        long = ap (λ (q : Request Ticket). q.length) same_asks ∙ maps.length_;
      }

  -- Where each link that was given is a handle's, each position that was told of is known so.
  module _ (all : AllHeld calls seens) (untold : is_some wanted ≡ true → now.mapped ≡ false) where
    held : (link cookie : ℕ) (asks : Request Ticket) → request (histories link) cookie ≡ Some asks → IsThere link seens
    held link cookie asks is = elim (there_or_apart link seens stands) [
      | inl h ↦ h
      | inr apart ↦ absurd (none_some asks (sym (ap (λ (h : History Ticket). request h cookie) (b.course.unused link (all link apart)).blank) ∙ is))
    ]

    -- what was told of positions on a link, by the history of its handle
    abbrev TellsSo : (link : ℕ) → History Ticket → Type 0
    TellsSo link history = (cookie p : ℕ) → nat_le cookie (written history) ≡ true → told_at (on_link link calls) cookie p ≡ said_after is_told history cookie p

    tells_so : (link : ℕ) → IsThere link seens → TellsSo link (histories link)
    tells_so link h =
        let one = one_of calls seens h.index h.seen h.there b.course.drive.drive b.course.drive.plain in
        subst (λ (n : ℕ). TellsSo n (histories n)) h.same
        (subst (TellsSo h.seen.link) (sym (one_has h.index h.seen histories seens h.there b.course.held))
        (driven_tells h.stands.limit h.seen.link calls h.seen.history h.stands.stands.lawful one.plain.spelled h.stands.stands.going one.plain.mode
        (subst (Drives h.seen.link calls h.seen.history) one.plain.arrived one.drives)))

    -- One that is over is not unanswered.
    came : (link cookie : ℕ) (asks : Request Ticket) → request (histories link) cookie ≡ Some asks → IsHeard (histories link) known.whole known.reach cookie asks →
        outcome_after (histories link) cookie ≡ Unfinished → ⊥
    came link cookie asks is heard waits =
        let h = held link cookie asks is in
        let same : histories link ≡ h.seen.history = ap histories (sym h.same) ∙ one_has h.index h.seen histories seens h.there b.course.held in
        over_came h.stands.limit h.seen.history cookie asks h.stands.stands.lawful h.stands.stands.going (ap (λ (x : History Ticket). request x cookie) (sym same) ∙ is)
        (subst (λ (x : History Ticket). IsHeard x known.whole known.reach cookie asks) same heard).over (ap (λ (x : History Ticket). outcome_after x cookie) (sym same) ∙ waits)

    module _ (p : ℕ) (w : WasTold at p calls) where
      q : (is_of at calls w.link ≡ true) × IsAsked (histories w.link) w.cookie w.command
      q = asked_here w.link w.cookie w.command w.asked

      done : outcome_after (histories w.link) w.cookie ≡ Done w.bytes
      done = sym (came_so w.link w.cookie q.0 q.1.out) ∙ w.done

      says_so : said_after is_told (histories w.link) w.cookie p ≡ true
      says_so = sym (tells_so w.link (held w.link w.cookie q.1.asks q.1.is) w.cookie p q.1.out) ∙ w.told

      extents : tells_extents q.1.asks.flight ≡ true
      extents = tells w.link w.cookie q.1.asks q.1.is (ap is_block_status (ap (λ (c : Command Nobody). c.kind) q.1.same ∙ w.kind))

      -- one that was heard is known
      heard_known : IsHeard (histories w.link) known.whole known.reach w.cookie q.1.asks → known.reach p ≡ true
      heard_known heard =
          heard.reached (record { bytes = w.bytes; is = done }) p
          (ap (λ (c : Command Nobody). has c p && said_after is_told (histories w.link) w.cookie p) q.1.same
          ∙ ap (λ (t : Bool). t && said_after is_told (histories w.link) w.cookie p) w.has ∙ says_so)

      -- the one that is waited for is not done
      by : (range : Option (ℕ × ℕ)) → wanted ≡ range → Heeds histories range known.whole known.reach now → known.reach p ≡ true
      by None is heeds = heard_known (heeds w.link w.cookie q.1.asks q.1.is extents)
      by (Some range) is heeds = elim (heeds.others w.link w.cookie q.1.asks q.1.is extents) [
        | inl same ↦
            let some : is_some wanted ≡ true = ap is_some is in
            let waits : IsAsking every histories = k.awaits.on some well (untold some) in
            elim (heeds.others waits.link waits.cookie waits.asks waits.asked (or_right (first_tells waits.asks.flight.first) (is_extents waits.asks.flight.done.callback) waits.ends)) [
              | inl other ↦
                  let unanswered : outcome_after (histories heeds.link) heeds.cookie ≡ Unfinished =
                  sym (ap (λ (n : ℕ). outcome_after (histories n) waits.cookie) other.0 ∙ ap (λ (n : ℕ). outcome_after (histories heeds.link) n) other.1) ∙ waits.waits in
                  let answered_ : outcome_after (histories heeds.link) heeds.cookie ≡ Done w.bytes =
                  sym (ap (λ (n : ℕ). outcome_after (histories n) w.cookie) same.0 ∙ ap (λ (n : ℕ). outcome_after (histories heeds.link) n) same.1) ∙ done in
                  absurd (unfinished_done w.bytes (sym unanswered ∙ answered_))
              | inr heard ↦ absurd (came waits.link waits.cookie waits.asks waits.asked heard waits.waits)
            ]
        | inr heard ↦ heard_known heard
      ]

      pub told_known_far : known.reach p ≡ true
      told_known_far = by wanted refl k.heeds
