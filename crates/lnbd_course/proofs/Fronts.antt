-- At no moment of a turn is more unanswered on a link than rows of the board counted when it began: nothing is asked in it, and what is done stays done.
use Rattle.std.proofs.Common.{◌≡◌, ◌≢◌, ◌<◌, ◌⊎◌, inl, inr, ℕ, zero, suc, ◌+◌, Bool, true, false, not, ◌||◌, List, [], ◌∷◌, ◌++◌, length, cond, Contains, Option, Some, None, slice_get, refl, ap, sym, subst, ◌∙◌, arith, nat_le, if◌then◌else◌}
use Rattle.std.proofs.lemmas.Bool.{false≢true}
use Rattle.std.specs.Option.{option_map}
use Rattle.lnbd_model.specs.declared.target.Place.{Place}
use Rattle.lnbd_outcome.specs.Outcome.{Outcome, Unfinished, Done}
use Rattle.lnbd_link.specs.Call as wire
use Rattle.lnbd_link.specs.Numbers.{is_given}
use Rattle.lnbd_link.specs.Traffic.{target_of}
use Rattle.lnbd_link.proofs.Openings.{is_given-append}
use Rattle.lnbd_history.specs.Commands.{Command, Request}
use Rattle.lnbd_history.specs.Events.{History}
use Rattle.lnbd_history.specs.History.{request}
use Rattle.lnbd_asked.specs.Driven.{DrivenSays, Drives, outcome_after, written}
use Rattle.lnbd_asked.specs.Exports.{DrivenIsOf, name_set}
use Rattle.lnbd_asked.specs.Link.{Link, Nobody}
use Rattle.lnbd_asked.specs.Transcript.{answered, asked_on, bare, dealt_with, is_name, is_of, is_target, name_asked, on_link, only_if}
use Rattle.lnbd_asked.proofs.Driving.{driven_say_so}
use Rattle.lnbd_asked.proofs.Naming.{driven_are_of}
use Rattle.lnbd_poll.specs.Alone.{AreApart, calls_on}
use Rattle.lnbd_poll.specs.Seen.{Seen}
use Rattle.lnbd_poll.specs.Turns.{Ending, Turns}
use Rattle.lnbd_drives.specs.Driving.{AllDrive, AllPlain}
use Rattle.lnbd_drives.proofs.Exports.{turns_give_none}
use Rattle.lnbd_drives.proofs.Passing.{said_stays}
use Rattle.lnbd_drives.proofs.Turning.{turns_pass_others}
use Rattle.lnbd_plan.specs.declared.grid.Slice.{Slice}
use Rattle.lnbd_board.specs.declared.how.How.{How}
use Rattle.lnbd_board.specs.declared.row.Row.{Row}
use Rattle.lnbd_board.specs.declared.row.Stage.{Stage}
use Rattle.lnbd_board.specs.declared.row.Stage.TheVariants.{Reading, Last, Came, Writing, Holding, Finished}
use Rattle.lnbd_board.specs.declared.ticket.Ticket.{Ticket}
use Rattle.lnbd_board.specs.declared.ticket.Ticket.TheVariants as ticket
use Rattle.lnbd_board.specs.Files as board
use Rattle.lnbd_board.specs.Pieces.{Piece, ask_of, is_passed, spell, spell1, wrote}
use Rattle.lnbd_board.specs.Requests.{Each, IsIn, Said, is_of as is_of_slice, done, own, said_unanswered, waiting}
use Rattle.lnbd_board.specs.Requests as sides
use Rattle.lnbd_board.specs.Rows.{AsksOfDestination, AsksOfSource, IsRead, KnownBy, Stands, StandsAs, StandsAt, slice_at}
use Rattle.lnbd_board.proofs.Lists.{Each-append, in_each, is_same}
use Rattle.lnbd_keyed.specs.Keyed.{value_at}
use Rattle.lnbd_tracks.specs.Laws.{IsDone, moves_bytes}
use Rattle.lnbd_tracks.specs.Tracks.{AllTrack, Histories, request_of, told_by}
use Rattle.lnbd_tracks.specs.Unanswered.{IsUnanswered}
use Rattle.lnbd_tracks.proofs.Under.{found}
use Rattle.lnbd_course.specs.Between.{Between, place_of}
use Rattle.lnbd_course.specs.Course.{beside, on_side}
use Rattle.lnbd_course.specs.Failed.{AllStand}
use Rattle.lnbd_course.specs.Fronts.{FrontsHaveFew, FrontsHaveNone}
use Rattle.lnbd_course.specs.Spread.{AllCount, FewOn, how_many}
use Rattle.lnbd_course.specs.UnderWay.{AllHeld}
use Rattle.lnbd_course.proofs.Address.{both, name_is, target_is, target_stays}
use Rattle.lnbd_course.proofs.Cuts.{AllCut, AllFit, IsCut, front_off, turns_cut}
use Rattle.lnbd_course.proofs.Failing.{IsThere, there_or_apart}
use Rattle.lnbd_course.proofs.Holding.{one_has}
use Rattle.lnbd_course.proofs.Placed.{given_by_target, place_same}
use Rattle.lnbd_course.proofs.Spread.{IsOfSlice, WaitsAlone, changed_alone, cookies, destination_slice, has_cookie, in_found, is_first, it_waits, many_cookies, read_alone, some_waits, source_slice, waits_for}
use Rattle.lnbd_course.proofs.Standing.{on_here}
use Rattle.lnbd_course.proofs.Turning.{steps}

none_some : {A : Type 0} (one : A) → None ≡ Some one → ⊥
none_some one e = cc

some_same : {A : Type 0} (one other : A) → Some one ≡ Some other → one ≡ other
some_same one other e = cc

-- While no error was told, what was said for a slice waits or is done.

abbrev IsWell : Said → Type 0
IsWell x = (x.outcome ≡ Unfinished) ⊎ IsDone x.outcome

read_well : (s : Slice) (outcome : Outcome) (read : List Said) → (outcome ≡ Unfinished) ⊎ IsDone outcome → IsRead s outcome read → Each IsWell read
read_well s outcome read well k = subst (Each IsWell) (sym k.one) (well, tt)

known_well : (zero : Bool) (s : Slice) (bytes : List ℕ) (read : List Said) → KnownBy zero s bytes read → Each IsWell read
known_well true s bytes read k = subst (Each IsWell) (sym k.1) tt
known_well false s bytes read k = read_well s (Done bytes) read (inr (record { bytes = bytes; is = refl })) k

none_well : (said : List Said) → said ≡ [] → Each IsWell said
none_well said is = subst (Each IsWell) (sym is) tt

wrote_well : (how : How) (at : ℕ) (did : List Piece) → Each IsWell (wrote how at did)
wrote_well how at [] = tt
wrote_well how at (piece ∷ pieces) =
    let rest = wrote_well how (at + length (spell1 piece)) pieces in
    elim (is_passed how piece) as (λ b. Each IsWell (cond b (wrote how (at + length (spell1 piece)) pieces) (done (ask_of how at piece) ∷ wrote how (at + length (spell1 piece)) pieces)))
    [ true ↦ rest | false ↦ (inr (record { bytes = (ask_of how at piece).payload; is = refl }), rest) ]

last_well : (how : How) (at : ℕ) (did : List Piece) (command : Command Nobody) (changed : List Said) → changed ≡ wrote how at did ++ waiting command ∷ [] → Each IsWell changed
last_well how at did command changed is = subst (Each IsWell) (sym is) (Each-append IsWell (wrote how at did) (waiting command ∷ []) (wrote_well how at did) (inl refl, tt))

module _ (how : How) (s : Slice) (read changed : List Said) where
  reads_well : (stage : Stage) → StandsAt how s stage read changed → Each IsWell read
  reads_well Reading k = read_well s Unfinished read (inl refl) k.asked
  reads_well Last k = known_well s.zero s k.bytes read k.known.by
  reads_well (Came bytes) k = known_well s.zero s bytes read k.known.by
  reads_well (Writing bytes left) k = known_well s.zero s bytes read k.known.by
  reads_well (Holding bytes left) k = known_well s.zero s bytes read k.known.by
  reads_well (Finished bytes) k = known_well s.zero s k.bytes read k.known.by

  changes_well : (stage : Stage) → StandsAt how s stage read changed → Each IsWell changed
  changes_well Reading k = none_well changed k.unchanged
  changes_well Last k = last_well how s.start k.did (ask_of how (s.start + length (spell k.did)) k.now) changed k.asked
  changes_well (Came bytes) k = none_well changed k.unchanged
  changes_well (Writing bytes left) k = last_well how s.start k.did (ask_of how (s.start + length (spell k.did)) k.now) changed k.asked
  changes_well (Holding bytes left) k = subst (Each IsWell) (sym k.asked) (wrote_well how s.start k.did)
  changes_well (Finished bytes) k = subst (Each IsWell) (sym k.asked) (wrote_well how s.start k.did)

  row_reads_well : (o : Option Row) → StandsAs how s o read changed → Each IsWell read
  row_reads_well None k = known_well s.zero s k.bytes read k.known.by
  row_reads_well (Some row) k = reads_well row.stage k.1

  row_changes_well : (o : Option Row) → StandsAs how s o read changed → Each IsWell changed
  row_changes_well None k = subst (Each IsWell) (sym k.asked) (wrote_well how s.start k.did)
  row_changes_well (Some row) k = changes_well row.stage k.1

-- a request of a slice is among what was said for it
own_well : (n : ℕ) (r : sides.Request) (xs : List sides.Request) → IsIn r xs → r.ticket ≡ ticket.Slice n → Each IsWell (own n xs) → IsWell r.said
own_well n r [] there is all = absurd there
own_well n r (x ∷ xs) (inl same) is all =
    let here : is_of_slice n x.ticket ≡ true = ap (λ (y : sides.Request). is_of_slice n y.ticket) same ∙ ap (is_of_slice n) is ∙ is_same n in
    let all' : Each IsWell (x.said ∷ own n xs) = subst (λ (b : Bool). Each IsWell (cond b (x.said ∷ own n xs) (own n xs))) here all in
    subst (λ (y : sides.Request). IsWell y.said) same all'.0
own_well n r (x ∷ xs) (inr there) is all =
    own_well n r xs there is (elim (is_of_slice n x.ticket) as (λ b. Each IsWell (cond b (x.said ∷ own n xs) (own n xs)) → Each IsWell (own n xs)) [ true ↦ λ h. h.1 | false ↦ λ h. h ] all)

-- What a link says at such a moment, by a history of which nothing was asked since an older one, and no name was set; and what was done by that one is done.
record SaysAt (old : History Ticket) (link : Link) : Type 0 where
  history : History Ticket
  says : DrivenSays history link
  of : DrivenIsOf history link
  requests : (cookie : ℕ) → request history cookie ≡ request old cookie
  name : name_set history ≡ name_set old
  done : (cookie : ℕ) (asks : Request Ticket) → request old cookie ≡ Some asks → IsDone (outcome_after old cookie) → IsDone (outcome_after history cookie)

cut_of : (calls : List wire.Call) (seens : List (Seen Ticket)) (index : ℕ) (seen : Seen Ticket) → slice_get seens index ≡ Some seen → AllCut calls seens → IsCut calls seen
cut_of calls [] index seen there all = absurd (none_some seen there)
cut_of calls (first ∷ others) zero seen there all = subst (IsCut calls) (some_same first seen there) all.0
cut_of calls (first ∷ others) (suc index) seen there all = cut_of calls others index seen there all.1

says_cut : (calls : List wire.Call) (seen : Seen Ticket) → IsCut calls seen → SaysAt seen.history (on_link seen.link calls)
says_cut calls seen c =
    let f = c.at.fits in
    record {
      history = c.at.history;
      says = driven_say_so c.limit seen.link calls c.at.history f.lawful f.spelled f.going f.off f.drives;
      of = driven_are_of c.limit seen.link calls c.at.history f.lawful f.spelled f.going f.off f.drives;
      requests = f.requests;
      name = f.name;
      done = f.done;
    }

-- These calls of a turn were made, and no link is given by them, nor one without a handle read or written; and the handles that there were drive their links.
pub record IsFront (calls front : List wire.Call) (seens : List (Seen Ticket)) : Type 0 where
  pub none : (link : ℕ) → is_given link front ≡ false
  pub quiet : (link : ℕ) → AreApart link seens → calls_on link front ≡ []
  pub cuts : AllCut (calls ++ front) seens

fits_all : (calls : List wire.Call) (seens : List (Seen Ticket)) → AllDrive calls seens → AllPlain seens → AllStand seens → AllFit calls seens
fits_all calls [] drive plain stands = tt
fits_all calls (seen ∷ others) drive plain stands = (
  record {
    limit = stands.0.limit;
    fits = record {
      drives = subst (Drives seen.link calls seen.history) plain.0.arrived drive.0;
      spelled = plain.0.spelled;
      off = plain.0.mode;
      lawful = stands.0.stands.lawful;
      going = stands.0.stands.going;
      requests = λ cookie. refl;
      name = refl;
      done = λ cookie asks is so. so;
    };
    unread = plain.0.arrived;
  },
  fits_all calls others drive.1 plain.1 stands.1,
)

pub first_false : (a b : Bool) → (a || b) ≡ false → a ≡ false
first_false true b e = absurd (false≢true (sym e))
first_false false b e = refl

-- So is each front of the calls of a turn.
pub turn_front : (from to : Place) (size : Option ℕ) (how : How) (has : ℕ → Bool) (slices : List Slice) (now now' : board.Seen) (calls part front back : List wire.Call) (before after : List (Seen Ticket)) (ending : Ending) →
    Between from to size how has slices now calls before → Turns steps before now part after now' ending → AllStand before → part ≡ front ++ back → IsFront calls front before
turn_front from to size how has slices now now' calls part front back before after ending b turns stands e = record {
  none = λ link. first_false (is_given link front) (is_given link back) (sym (is_given-append link front back) ∙ sym (ap (is_given link) e) ∙ turns_give_none steps link part before after now now' ending turns);
  quiet = λ link apart. front_off link front back (sym (ap (calls_on link) e) ∙ turns_pass_others steps link part before after now now' ending apart turns);
  cuts = turns_cut calls before now part front back after now' ending turns e b.course.drive.own (fits_all calls before b.course.drive.drive b.course.drive.plain stands);
}

module _ (from to : Place) (size : Option ℕ) (how : How) (has : ℕ → Bool) (slices : List Slice) (now : board.Seen) (calls front : List wire.Call) (seens : List (Seen Ticket)) (b : Between from to size how has slices now calls seens)
    (stands : AllStand seens) (is_front : IsFront calls front seens) where
  abbrev histories : Histories
  histories = b.course.histories

  abbrev all : List wire.Call
  all = calls ++ front

  says_at : (link : ℕ) → SaysAt (histories link) (on_link link all)
  says_at link = elim (there_or_apart link seens stands) [
    | inl t ↦
        subst (λ (n : ℕ). SaysAt (histories n) (on_link n all)) t.same
        (subst (λ (h : History Ticket). SaysAt h (on_link t.seen.link all)) (sym (one_has t.index t.seen histories seens t.there b.course.held))
        (says_cut all t.seen (cut_of all seens t.index t.seen t.there is_front.cuts)))
    | inr apart ↦
        subst (SaysAt (histories link)) (sym (said_stays link calls front (is_front.quiet link apart)))
        (record { history = histories link; says = b.course.parted link apart; of = b.parted link apart; requests = λ cookie. refl; name = refl; done = λ cookie asks is so. so })
  ]

  module _ (place : Place) where
    -- a command that is not done, by the history of its link before the turn
    record Asks (link cookie : ℕ) (command : Command Nobody) : Type 0 where
      asks : Request Ticket
      is : request (histories link) cookie ≡ Some asks
      same : bare asks ≡ command
      undone : IsDone (outcome_after (histories link) cookie) → ⊥

    unfinished_done : (outcome : Outcome) → outcome ≡ Unfinished → IsDone outcome → ⊥
    unfinished_done outcome is so = differ so.bytes (sym is ∙ so.is)
      where
        differ : (bytes : List ℕ) → Unfinished ≡ Done bytes → ⊥
        differ bytes e = cc

    asks_it : (link cookie : ℕ) (u : IsUnanswered moves_bytes (dealt_with place all) link cookie) → Asks link cookie u.command
    asks_it link cookie u = on (is_of place all link) u.asked u.waits
      where
        s : SaysAt (histories link) (on_link link all)
        s = says_at link

        asked_by : nat_le cookie (written s.history) ≡ true → answered (on_link link all) cookie ≡ Unfinished → (o : Option (Request Ticket)) → request s.history cookie ≡ o → option_map bare o ≡ Some u.command → Asks link cookie u.command
        asked_by gone waits None is e = absurd (none_some u.command e)
        asked_by gone waits (Some q) is e =
            let was : request (histories link) cookie ≡ Some q = sym (s.requests cookie) ∙ is in
            record { asks = q; is = was; same = some_same (bare q) u.command e; undone = λ so. unfinished_done (outcome_after s.history cookie) (sym (s.says.outcomes cookie gone) ∙ waits) (s.done cookie q was so) }

        whole : answered (on_link link all) cookie ≡ Unfinished → (gone : Bool) → nat_le cookie (written s.history) ≡ gone → (if gone then option_map bare (request s.history cookie) else None) ≡ Some u.command → Asks link cookie u.command
        whole waits true gone e = asked_by gone waits (request s.history cookie) refl e
        whole waits false gone e = absurd (none_some u.command e)

        on : (t : Bool) → only_if t (asked_on (on_link link all) cookie) ≡ Some u.command → (if t then answered (on_link link all) cookie else Unfinished) ≡ Unfinished → Asks link cookie u.command
        on true e waits = whole waits (nat_le cookie (written s.history)) refl (sym (s.says.requests cookie) ∙ e)
        on false e waits = absurd (none_some u.command e)

    -- On a link of a side, whose requests are tracked.
    module _ (counts : Row → Bool) (link : ℕ) (counted : AllCount counts now.rows (histories link)) (side : ℕ → Bool) (mine : side link ≡ true) (requests : List sides.Request) (tracks : AllTrack (on_side side histories) requests)
        (sliced : (r : sides.Request) → IsIn r requests → moves_bytes r.said.command.kind ≡ true → IsOfSlice slices r.ticket)
        (well : (n : ℕ) → n < length slices → Each IsWell (own n requests))
        (rowed : (n : ℕ) → n < length slices → 0 < said_unanswered (own n requests) → WaitsAlone now.rows n (own n requests)) where
      one_in : (r : sides.Request) (n : ℕ) → IsIn r requests → waits_for n r ≡ true → (w : WaitsAlone now.rows n (own n requests)) → counts w.row ≡ true → Contains (cookies counts requests now.rows) r.cookie
      one_in r n within so w c = subst (λ (k : ℕ). Contains (cookies counts requests now.rows) k) (is_first n r requests within so w.alone) (has_cookie counts requests n w.row now.rows w.held c)

      still_waits : (outcome : Outcome) → (outcome ≡ Unfinished) ⊎ IsDone outcome → (IsDone outcome → ⊥) → outcome ≡ Unfinished
      still_waits outcome (inl waits) undone = waits
      still_waits outcome (inr so) undone = absurd (undone so)

      contains : (cookie : ℕ) (command : Command Nobody) → moves_bytes command.kind ≡ true → Asks link cookie command → Contains (cookies counts requests now.rows) cookie
      contains cookie command moves a =
          let r : sides.Request = sides.request link cookie a.asks.flight.done.callback (record { command = bare a.asks; outcome = outcome_after (histories link) cookie }) in
          let told : told_by link cookie (histories link) ≡ r ∷ [] = ap (λ (o : Option (Request Ticket)). request_of link cookie o (outcome_after (histories link) cookie)) a.is in
          let there = found link cookie r requests ((tracks link).each cookie ∙ ap (λ (h : History Ticket). told_by link cookie h) (on_here side histories link mine) ∙ told) in
          let within = in_found r requests there in
          let s = sliced r within (ap (λ (c : Command Nobody). moves_bytes c.kind) a.same ∙ moves) in
          let waits : outcome_after (histories link) cookie ≡ Unfinished = still_waits (outcome_after (histories link) cookie) (own_well s.n r requests within s.is (well s.n s.begun)) a.undone in
          let so : waits_for s.n r ≡ true = it_waits s.n r s.is waits in
          let w = rowed s.n s.begun (some_waits s.n r requests within so) in
          one_in r s.n within so w (counted cookie s.n a.asks w.row a.is s.is w.held)

      few_on : FewOn (how_many counts now.rows) link (dealt_with place all)
      few_on = record {
        list = cookies counts requests now.rows;
        few = (let e = many_cookies counts requests now.rows in omega (arith, e));
        all = λ cookie u. contains cookie u.command u.kind (asks_it link cookie u);
      }

    few : (well : now.error ≡ None) (counts : Row → Bool) (link : ℕ) → AllCount counts now.rows (histories link) → FewOn (how_many counts now.rows) link (dealt_with place all)
    few well counts link counted = go (has link) refl
      where
        k : Stands how slices now.rows b.course.stood.source b.course.stood.destination
        k = b.course.stood.stands well

        go : (t : Bool) → has link ≡ t → FewOn (how_many counts now.rows) link (dealt_with place all)
        go true is =
            few_on counts link counted has is b.course.stood.source b.course.stood.reads
            (λ r there moves. source_slice slices r.ticket r.said.command (in_each (λ (x : sides.Request). AsksOfSource slices x.ticket x.said.command) r b.course.stood.source there k.reads) moves)
            (λ n less. row_reads_well how (slice_at slices n) (own n b.course.stood.source) (own n b.course.stood.destination) (value_at n now.rows) (k.each n less))
            (λ n less some. read_alone how (slice_at slices n) now.rows n (own n b.course.stood.source) (own n b.course.stood.destination) (value_at n now.rows) refl (k.each n less) some)
        go false is =
            few_on counts link counted (beside has) (ap not is) b.course.stood.destination b.course.stood.changes
            (λ r there moves. destination_slice how slices r.ticket r.said.command (in_each (λ (x : sides.Request). AsksOfDestination how slices x.ticket x.said.command) r b.course.stood.destination there k.changes) moves)
            (λ n less. row_changes_well how (slice_at slices n) (own n b.course.stood.source) (own n b.course.stood.destination) (value_at n now.rows) (k.each n less))
            (λ n less some. changed_alone how (slice_at slices n) now.rows n (own n b.course.stood.source) (own n b.course.stood.destination) (value_at n now.rows) refl (k.each n less) some)

    -- On the link of a handle no more are unanswered than rows count.
    pub handle_few : (index : ℕ) (seen : Seen Ticket) (counts : Row → Bool) → now.error ≡ None → slice_get seens index ≡ Some seen → AllCount counts now.rows seen.history → FewOn (how_many counts now.rows) seen.link (dealt_with place all)
    handle_few index seen counts well there counted =
        few well counts seen.link (subst (λ (h : History Ticket). AllCount counts now.rows h) (sym (one_has index seen b.course.histories seens there b.course.held)) counted)

    -- Where no slice is begun and not over, none is unanswered on any link.
    pub over_none : (link : ℕ) → now.error ≡ None → now.rows ≡ [] → FewOn 0 link (dealt_with place all)
    over_none link well over =
        subst (λ (rows : List (ℕ × Row)). FewOn (how_many (λ row. true) rows) link (dealt_with place all)) over
        (few well (λ row. true) link (λ cookie n asks row is by held. refl))

    -- On a link without a handle nothing was asked.
    none_on : (held : AllHeld calls seens) (most link : ℕ) → AreApart link seens → FewOn most link (dealt_with place all)
    none_on held most link apart = record {
      list = [];
      few = omega arith;
      all = λ cookie u.
          let a = asks_it link cookie u in
          absurd (none_some a.asks (sym (ap (λ (h : History Ticket). request h cookie) (b.course.unused link (held link apart)).blank) ∙ a.is));
    }

    -- So no more are unanswered on any link than on the link of each handle.
    pub links_few : (most : ℕ) → AllHeld calls seens → ((index : ℕ) (seen : Seen Ticket) → slice_get seens index ≡ Some seen → FewOn most seen.link (dealt_with place all)) → (link : ℕ) → FewOn most link (dealt_with place all)
    links_few most held each link = go (there_or_apart link seens stands)
      where
        go : IsThere link seens ⊎ AreApart link seens → FewOn most link (dealt_with place all)
        go (inl t) = subst (λ (n : ℕ). FewOn most n (dealt_with place all)) t.same (each t.index t.seen t.there)
        go (inr apart) = none_on held most link apart

    -- A link is of the export of its side alone.
    one_side : (link : ℕ) → is_of place all link ≡ true → place_of from to (has link) ≡ place
    one_side link e =
        let c = both (is_target place.to (target_of link all)) (is_name place.name (name_asked (on_link link all).wishes)) e in
        let there : target_of link calls ≡ Some place.to = sym (target_stays link calls front (is_front.none link)) ∙ target_is place.to (target_of link all) c.0 in
        let given = given_by_target link calls place.to there in
        let called = (says_at link).of.name place.name (name_is place.name (name_asked (on_link link all).wishes) c.1) in
        place_same (place_of from to (has link)) place (some_same (place_of from to (has link)).to place.to (sym (b.placed.address link given) ∙ there)) (sym (b.placed.name link given) ∙ sym (says_at link).name ∙ sym called)

    none_of : (link : ℕ) → (is_of place all link ≡ true → ⊥) → FewOn 0 link (dealt_with place all)
    none_of link other = record { list = []; few = omega arith; all = λ cookie u. absurd (go (is_of place all link) refl cookie u.command u.asked) }
      where
        go : (t : Bool) → is_of place all link ≡ t → (cookie : ℕ) (command : Command Nobody) → only_if t (asked_on (on_link link all) cookie) ≡ Some command → ⊥
        go true ours cookie command e = other ours
        go false ours cookie command e = none_some command e

  -- On a link of the other side none is unanswered.
  pub others_none : (source : Bool) (link : ℕ) → from ≢ to → has link ≡ not source → FewOn 0 link (dealt_with (place_of from to source) all)
  others_none source link two differs =
      none_of (place_of from to source) link (λ ours. apart source (ap (place_of from to) (sym differs) ∙ one_side (place_of from to source) link ours))
    where
      apart : (s : Bool) → place_of from to (not s) ≡ place_of from to s → ⊥
      apart true e = two (sym e)
      apart false e = two e

-- So it is with each front of the calls of a turn.

pub fronts_have_few : FrontsHaveFew
fronts_have_few from to size how has slices now now' calls part front back before after ending place index seen counts b turns stands is well there counted =
    handle_few from to size how has slices now calls front before b stands (turn_front from to size how has slices now now' calls part front back before after ending b turns stands is) place index seen counts well there counted

pub fronts_have_none : FrontsHaveNone
fronts_have_none from to size how has slices now now' calls part front back before after ending source link b turns stands is two differs =
    others_none from to size how has slices now calls front before b stands (turn_front from to size how has slices now now' calls part front back before after ending b turns stands is) source link two differs
