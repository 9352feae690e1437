-- At no moment of a turn is more unanswered on a link of a copy, of which one side is a file, than rows of the board counted when it began: nothing is asked in it, and what is done stays done.
use Rattle.std.proofs.Common.{
  ◌≡◌,
  ◌<◌,
  ◌⊎◌,
  inl,
  inr,
  ℕ,
  zero,
  suc,
  ◌+◌,
  Bool,
  true,
  false,
  ◌||◌,
  List,
  [],
  ◌∷◌,
  ◌++◌,
  length,
  cond,
  Contains,
  Option,
  Some,
  None,
  slice_get,
  refl,
  ap,
  sym,
  subst,
  ◌∙◌,
  arith,
  nat_le,
  if◌then◌else◌,
}
use Rattle.std.proofs.lemmas.Bool.{false≢true}
use Rattle.std.specs.Option.{option_map}
use Rattle.lnbd_model.specs.declared.target.Place.{Place}
use Rattle.lnbd_outcome.specs.Outcome.{Outcome, Unfinished, Done}
use Rattle.lnbd_link.specs.Call as wire
use Rattle.lnbd_link.specs.Numbers.{is_given}
use Rattle.lnbd_link.proofs.Openings.{is_given-append}
use Rattle.lnbd_history.specs.Commands.{Command, Request}
use Rattle.lnbd_history.specs.Events.{History}
use Rattle.lnbd_history.specs.History.{request}
use Rattle.lnbd_asked.specs.Driven.{DrivenSays, Drives, outcome_after, written}
use Rattle.lnbd_asked.specs.Link.{Link, Nobody}
use Rattle.lnbd_asked.specs.Transcript.{answered, asked_on, bare, on_link}
use Rattle.lnbd_asked.proofs.Driving.{driven_say_so}
use Rattle.lnbd_poll.specs.Alone.{calls_on}
use Rattle.lnbd_poll.specs.Seen.{Seen}
use Rattle.lnbd_poll.specs.Turns.{Ending, Turns}
use Rattle.lnbd_drives.specs.Driving.{AllDrive, AllPlain}
use Rattle.lnbd_drives.proofs.Exports.{turns_give_none}
use Rattle.lnbd_drives.proofs.Passing.{said_stays}
use Rattle.lnbd_drives.proofs.Turning.{turns_pass_others}
use Rattle.lnbd_plan.specs.declared.grid.Slice.{Slice}
use Rattle.lnbd_board.specs.declared.how.How.{How}
use Rattle.lnbd_board.specs.declared.row.Row.{Row}
use Rattle.lnbd_board.specs.declared.row.Stage.{Stage}
use Rattle.lnbd_board.specs.declared.row.Stage.TheVariants.{Reading, Last, Came, Writing, Holding, Finished}
use Rattle.lnbd_board.specs.declared.ticket.Ticket.{Ticket}
use Rattle.lnbd_board.specs.declared.ticket.Ticket.TheVariants as ticket
use Rattle.lnbd_board.specs.Files as board
use Rattle.lnbd_board.specs.Pieces.{Piece, ask_of, is_passed, spell, spell1, wrote}
use Rattle.lnbd_board.specs.Requests.{Each, IsIn, Said, is_of as is_of_slice, done, own, said_unanswered, waiting}
use Rattle.lnbd_board.specs.Requests as sides
use Rattle.lnbd_board.specs.Rows.{AsksOfDestination, AsksOfSource, IsRead, KnownBy, StandsAs, StandsAt, slice_at}
use Rattle.lnbd_board.proofs.Lists.{Each-append, in_each, is_same}
use Rattle.lnbd_keyed.specs.Keyed.{value_at}
use Rattle.lnbd_tracks.specs.Laws.{IsDone, moves_bytes}
use Rattle.lnbd_tracks.specs.Tracks.{AllTrack, Histories, request_of, told_by}
use Rattle.lnbd_tracks.proofs.Under.{found}
use Rattle.lnbd_course.specs.Failed.{AllStand}
use Rattle.lnbd_course.specs.Far.{Far, FarStood, FromFile, ToFile}
use Rattle.lnbd_course.specs.FarCourse.{FarCourse}
use Rattle.lnbd_course.specs.Told.{Known}
use Rattle.lnbd_course.proofs.Cuts.{AllCut, AllFit, IsCut, front_off, turns_cut}
use Rattle.lnbd_course.proofs.Failing.{there_or_apart}
use Rattle.lnbd_course.proofs.Fronts.{IsFront}
use Rattle.lnbd_course.proofs.Holding.{one_has}
use Rattle.lnbd_course.proofs.Spread.{
  IsOfSlice,
  WaitsAlone,
  changed_alone,
  cookies,
  destination_slice,
  has_cookie,
  in_found,
  is_first,
  it_waits,
  many_cookies,
  read_alone,
  some_waits,
  source_slice,
  waits_for,
}
use Rattle.lnbd_course.proofs.Turning.{steps}
use Rattle.lnbd_connections.specs.Few.{CountsOn, FewAsked}

none_some : {A : Type 0} (one : A) → None ≡ Some one → ⊥
none_some one e = cc

some_same : {A : Type 0} (one other : A) → Some one ≡ Some other → one ≡ other
some_same one other e = cc

-- While no error was told, what was said for a slice waits or is done.

abbrev IsWell : Said → Type 0
IsWell x = (x.outcome ≡ Unfinished) ⊎ IsDone x.outcome

read_well : (s : Slice) (outcome : Outcome) (read : List Said) → (outcome ≡ Unfinished) ⊎ IsDone outcome → IsRead s outcome read → Each IsWell read
read_well s outcome read well k = subst (Each IsWell) (sym k.one) (well, tt)

known_well : (zero : Bool) (s : Slice) (bytes : List ℕ) (read : List Said) → KnownBy zero s bytes read → Each IsWell read
known_well true s bytes read k = subst (Each IsWell) (sym k.1) tt
known_well false s bytes read k = read_well s (Done bytes) read (inr (record { bytes = bytes; is = refl })) k

none_well : (said : List Said) → said ≡ [] → Each IsWell said
none_well said is = subst (Each IsWell) (sym is) tt

wrote_well : (how : How) (at : ℕ) (did : List Piece) → Each IsWell (wrote how at did)
wrote_well how at [] = tt
wrote_well how at (piece ∷ pieces) =
    let rest = wrote_well how (at + length (spell1 piece)) pieces in
    elim (is_passed how piece) as (λ b. Each IsWell (cond b (wrote how (at + length (spell1 piece)) pieces) (done (ask_of how at piece) ∷ wrote how (at + length (spell1 piece)) pieces)))
    [ true ↦ rest | false ↦ (inr (record { bytes = (ask_of how at piece).payload; is = refl }), rest) ]

last_well : (how : How) (at : ℕ) (did : List Piece) (command : Command Nobody) (changed : List Said) → changed ≡ wrote how at did ++ waiting command ∷ [] → Each IsWell changed
last_well how at did command changed is = subst (Each IsWell) (sym is) (Each-append IsWell (wrote how at did) (waiting command ∷ []) (wrote_well how at did) (inl refl, tt))

module _ (how : How) (s : Slice) (read changed : List Said) where
  reads_well : (stage : Stage) → StandsAt how s stage read changed → Each IsWell read
  reads_well Reading k = read_well s Unfinished read (inl refl) k.asked
  reads_well Last k = known_well s.zero s k.bytes read k.known.by
  reads_well (Came bytes) k = known_well s.zero s bytes read k.known.by
  reads_well (Writing bytes left) k = known_well s.zero s bytes read k.known.by
  reads_well (Holding bytes left) k = known_well s.zero s bytes read k.known.by
  reads_well (Finished bytes) k = known_well s.zero s k.bytes read k.known.by

  changes_well : (stage : Stage) → StandsAt how s stage read changed → Each IsWell changed
  changes_well Reading k = none_well changed k.unchanged
  changes_well Last k = last_well how s.start k.did (ask_of how (s.start + length (spell k.did)) k.now) changed k.asked
  changes_well (Came bytes) k = none_well changed k.unchanged
  changes_well (Writing bytes left) k = last_well how s.start k.did (ask_of how (s.start + length (spell k.did)) k.now) changed k.asked
  changes_well (Holding bytes left) k = subst (Each IsWell) (sym k.asked) (wrote_well how s.start k.did)
  changes_well (Finished bytes) k = subst (Each IsWell) (sym k.asked) (wrote_well how s.start k.did)

  row_reads_well : (o : Option Row) → StandsAs how s o read changed → Each IsWell read
  row_reads_well None k = known_well s.zero s k.bytes read k.known.by
  row_reads_well (Some row) k = reads_well row.stage k.1

  row_changes_well : (o : Option Row) → StandsAs how s o read changed → Each IsWell changed
  row_changes_well None k = subst (Each IsWell) (sym k.asked) (wrote_well how s.start k.did)
  row_changes_well (Some row) k = changes_well row.stage k.1

-- a request of a slice is among what was said for it
own_well : (n : ℕ) (r : sides.Request) (xs : List sides.Request) → IsIn r xs → r.ticket ≡ ticket.Slice n → Each IsWell (own n xs) → IsWell r.said
own_well n r [] there is all = absurd there
own_well n r (x ∷ xs) (inl same) is all =
    let here : is_of_slice n x.ticket ≡ true = ap (λ (y : sides.Request). is_of_slice n y.ticket) same ∙ ap (is_of_slice n) is ∙ is_same n in
    let all' : Each IsWell (x.said ∷ own n xs) = subst (λ (b : Bool). Each IsWell (cond b (x.said ∷ own n xs) (own n xs))) here all in
    subst (λ (y : sides.Request). IsWell y.said) same all'.0
own_well n r (x ∷ xs) (inr there) is all =
    own_well n r xs there is (elim (is_of_slice n x.ticket) as (λ b. Each IsWell (cond b (x.said ∷ own n xs) (own n xs)) → Each IsWell (own n xs)) [ true ↦ λ h. h.1 | false ↦ λ h. h ] all)

-- What a link says at such a moment, by a history of which nothing was asked since an older one; and what was done by that one is done.
record SaysAt (old : History Ticket) (link : Link) : Type 0 where
  history : History Ticket
  says : DrivenSays history link
  requests : (cookie : ℕ) → request history cookie ≡ request old cookie
  done : (cookie : ℕ) (asks : Request Ticket) → request old cookie ≡ Some asks → IsDone (outcome_after old cookie) → IsDone (outcome_after history cookie)

cut_of : (calls : List wire.Call) (seens : List (Seen Ticket)) (index : ℕ) (seen : Seen Ticket) → slice_get seens index ≡ Some seen → AllCut calls seens → IsCut calls seen
cut_of calls [] index seen there all = absurd (none_some seen there)
cut_of calls (first ∷ others) zero seen there all = subst (IsCut calls) (some_same first seen there) all.0
cut_of calls (first ∷ others) (suc index) seen there all = cut_of calls others index seen there all.1

says_cut : (calls : List wire.Call) (seen : Seen Ticket) → IsCut calls seen → SaysAt seen.history (on_link seen.link calls)
says_cut calls seen c =
    let f = c.at.fits in
    record {
      history = c.at.history;
      says = driven_say_so c.limit seen.link calls c.at.history f.lawful f.spelled f.going f.off f.drives;
      requests = f.requests;
      done = f.done;
    }

fits_all : (calls : List wire.Call) (seens : List (Seen Ticket)) → AllDrive calls seens → AllPlain seens → AllStand seens → AllFit calls seens
fits_all calls [] drive plain stands = tt
fits_all calls (seen ∷ others) drive plain stands = (
  record {
    limit = stands.0.limit;
    fits = record {
      drives = subst (Drives seen.link calls seen.history) plain.0.arrived drive.0;
      spelled = plain.0.spelled;
      off = plain.0.mode;
      lawful = stands.0.stands.lawful;
      going = stands.0.stands.going;
      requests = λ cookie. refl;
      name = refl;
      done = λ cookie asks is so. so;
    };
    unread = plain.0.arrived;
  },
  fits_all calls others drive.1 plain.1 stands.1,
)

pub first_false : (a b : Bool) → (a || b) ≡ false → a ≡ false
first_false true b e = absurd (false≢true (sym e))
first_false false b e = refl

-- So is each front of the calls of a turn.
pub front_of : (far : Far) (at : Place) (size : Option ℕ) (how : How) (slices : List Slice) (now now' : board.Seen) (calls part front back : List wire.Call) (before after : List (Seen Ticket))
    (wanted : Option (ℕ × ℕ)) (known : Known) (ending : Ending) →
    FarCourse far at size how slices now calls before wanted known → Turns steps before now part after now' ending → AllStand before → part ≡ front ++ back → IsFront calls front before
front_of far at size how slices now now' calls part front back before after wanted known ending b turns stands e = record {
  none = λ link. first_false (is_given link front) (is_given link back) (sym (is_given-append link front back) ∙ sym (ap (is_given link) e) ∙ turns_give_none steps link part before after now now'
      ending turns);
  quiet = λ link apart. front_off link front back (sym (ap (calls_on link) e) ∙ turns_pass_others steps link part before after now now' ending apart turns);
  cuts = turns_cut calls before now part front back after now' ending turns e b.course.drive.own (fits_all calls before b.course.drive.drive b.course.drive.plain stands);
}

module _ (far : Far) (at : Place) (size : Option ℕ) (how : How) (slices : List Slice) (now : board.Seen) (calls front : List wire.Call) (seens : List (Seen Ticket)) (wanted : Option (ℕ × ℕ))
    (known : Known)
    (b : FarCourse far at size how slices now calls seens wanted known) (stands : AllStand seens) (is_front : IsFront calls front seens) where
  abbrev histories : Histories
  histories = b.course.histories

  abbrev all : List wire.Call
  all = calls ++ front

  says_at : (link : ℕ) → SaysAt (histories link) (on_link link all)
  says_at link = elim (there_or_apart link seens stands) [
    | inl t ↦
        subst (λ (n : ℕ). SaysAt (histories n) (on_link n all)) t.same
        (subst (λ (h : History Ticket). SaysAt h (on_link t.seen.link all)) (sym (one_has t.index t.seen histories seens t.there b.course.held))
        (says_cut all t.seen (cut_of all seens t.index t.seen t.there is_front.cuts)))
    | inr apart ↦
        subst (SaysAt (histories link)) (sym (said_stays link calls front (is_front.quiet link apart)))
        (record { history = histories link; says = b.course.parted link apart; requests = λ cookie. refl; done = λ cookie asks is so. so })
  ]

  -- a command that is not done, by the history of its link before the turn
  record Asks (link cookie : ℕ) (command : Command Nobody) : Type 0 where
    asks : Request Ticket
    is : request (histories link) cookie ≡ Some asks
    same : bare asks ≡ command
    undone : IsDone (outcome_after (histories link) cookie) → ⊥

  unfinished_done : (outcome : Outcome) → outcome ≡ Unfinished → IsDone outcome → ⊥
  unfinished_done outcome is so = differ so.bytes (sym is ∙ so.is)
    where
      differ : (bytes : List ℕ) → Unfinished ≡ Done bytes → ⊥
      differ bytes e = cc

  asks_it : (link cookie : ℕ) (command : Command Nobody) → asked_on (on_link link all) cookie ≡ Some command → answered (on_link link all) cookie ≡ Unfinished → Asks link cookie command
  asks_it link cookie command was_asked waits = whole (nat_le cookie (written s.history)) refl (sym (s.says.requests cookie) ∙ was_asked)
    where
      s : SaysAt (histories link) (on_link link all)
      s = says_at link

      asked_by : nat_le cookie (written s.history) ≡ true → (o : Option (Request Ticket)) → request s.history cookie ≡ o → option_map bare o ≡ Some command → Asks link cookie command
      asked_by gone None is e = absurd (none_some command e)
      asked_by gone (Some q) is e =
          let was : request (histories link) cookie ≡ Some q = sym (s.requests cookie) ∙ is in
          record {
            asks = q;
            is = was;
            same = some_same (bare q) command e;
            undone = λ so. unfinished_done (outcome_after s.history cookie) (sym (s.says.outcomes cookie gone) ∙ waits) (s.done
                cookie q was so);
          }

      whole : (gone : Bool) → nat_le cookie (written s.history) ≡ gone → (if gone then option_map bare (request s.history cookie) else None) ≡ Some command → Asks link cookie command
      whole true gone e = asked_by gone (request s.history cookie) refl e
      whole false gone e = absurd (none_some command e)

  module _ (most link : ℕ) (counted : CountsOn most now.rows (histories link)) where
    -- Its requests are tracked by these, which are those of the export.
    module _ (requests : List sides.Request) (tracks : AllTrack histories requests)
        (sliced : (r : sides.Request) → IsIn r requests → moves_bytes r.said.command.kind ≡ true → IsOfSlice slices r.ticket)
        (well : (n : ℕ) → n < length slices → Each IsWell (own n requests))
        (rowed : (n : ℕ) → n < length slices → 0 < said_unanswered (own n requests) → WaitsAlone now.rows n (own n requests)) where
      one_in : (r : sides.Request) (n : ℕ) → IsIn r requests → waits_for n r ≡ true → (w : WaitsAlone now.rows n (own n requests)) → counted.counts w.row ≡ true →
          Contains (cookies counted.counts requests now.rows) r.cookie
      one_in r n within so w c = subst (λ (k : ℕ). Contains (cookies counted.counts requests now.rows) k) (is_first n r requests within so w.alone) (has_cookie counted.counts requests n w.row
          now.rows w.held c)

      still_waits : (outcome : Outcome) → (outcome ≡ Unfinished) ⊎ IsDone outcome → (IsDone outcome → ⊥) → outcome ≡ Unfinished
      still_waits outcome (inl waits) undone = waits
      still_waits outcome (inr so) undone = absurd (undone so)

      contains : (cookie : ℕ) (command : Command Nobody) → moves_bytes command.kind ≡ true → Asks link cookie command → Contains (cookies counted.counts requests now.rows) cookie
      contains cookie command moves a =
          let r : sides.Request = sides.request link cookie a.asks.flight.done.callback (record { command = bare a.asks; outcome = outcome_after (histories link) cookie }) in
          let told : told_by link cookie (histories link) ≡ r ∷ [] = ap (λ (o : Option (Request Ticket)). request_of link cookie o (outcome_after (histories link) cookie)) a.is in
          let there = found link cookie r requests ((tracks link).each cookie ∙ told) in
          let within = in_found r requests there in
          let s = sliced r within (ap (λ (c : Command Nobody). moves_bytes c.kind) a.same ∙ moves) in
          let waits : outcome_after (histories link) cookie ≡ Unfinished = still_waits (outcome_after (histories link) cookie) (own_well s.n r requests within s.is (well s.n s.begun)) a.undone in
          let so : waits_for s.n r ≡ true = it_waits s.n r s.is waits in
          let w = rowed s.n s.begun (some_waits s.n r requests within so) in
          one_in r s.n within so w (counted.all cookie s.n a.asks w.row a.is s.is w.held)

      few_on : FewAsked most (on_link link all)
      few_on = record {
        list = cookies counted.counts requests now.rows;
        few = (let e = many_cookies counted.counts requests now.rows in let less = counted.few in omega (arith, e, less));
        all = λ cookie command was_asked moves waits. contains cookie command moves (asks_it link cookie command was_asked waits);
      }

  few_by : (most link : ℕ) (f : Far) → (s : FarStood f how slices now histories) → now.error ≡ None → CountsOn most now.rows (histories link) → FewAsked most (on_link link all)
  few_by most link (ToFile done) s none counted =
      let k = s.stands none in
      few_on most link counted s.asked s.tracked
      (λ r there moves. source_slice slices r.ticket r.said.command (in_each (λ (x : sides.Request). AsksOfSource slices x.ticket x.said.command) r s.asked there k.reads) moves)
      (λ n less. row_reads_well how (slice_at slices n) (own n s.asked) (own n done) (value_at n now.rows) (k.each n less))
      (λ n less some. read_alone how (slice_at slices n) now.rows n (own n s.asked) (own n done) (value_at n now.rows) refl (k.each n less) some)
  few_by most link (FromFile done) s none counted =
      let k = s.stands none in
      few_on most link counted s.asked s.tracked
      (λ r there moves. destination_slice how slices r.ticket r.said.command (in_each (λ (x : sides.Request). AsksOfDestination how slices x.ticket x.said.command) r s.asked there k.changes) moves)
      (λ n less. row_changes_well how (slice_at slices n) (own n done) (own n s.asked) (value_at n now.rows) (k.each n less))
      (λ n less some. changed_alone how (slice_at slices n) now.rows n (own n done) (own n s.asked) (value_at n now.rows) refl (k.each n less) some)

  -- On a link no more are unanswered than rows count.
  pub front_few : (most link : ℕ) → now.error ≡ None → CountsOn most now.rows (histories link) → FewAsked most (on_link link all)
  front_few most link none counted = few_by most link far b.course.stood.stood none counted
