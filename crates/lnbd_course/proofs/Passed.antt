-- What is heard of extents was told by the calls, and none is asked for while none is waited for.
use Rattle.std.proofs.Common.{◌≡◌, ◌<◌, ℕ, ◌+◌, Bool, true, false, ◌&&◌, List, [], ◌∷◌, Some, None, refl, ap, sym, subst, ◌∙◌, if◌then◌else◌}
use Rattle.std.proofs.lemmas.Bool.{false≢true}
use Rattle.lnbd_model.specs.declared.target.Place.{Place}
use Rattle.lnbd_outcome.specs.Outcome.{Done, Unfinished}
use Rattle.lnbd_link.specs.Call as wire
use Rattle.lnbd_extents.specs.Positions.{within}
use Rattle.lnbd_history.specs.Commands.{Command}
use Rattle.lnbd_asked.specs.Driven.{DrivenSays}
use Rattle.lnbd_asked.specs.Link.{Nobody}
use Rattle.lnbd_asked.specs.Transcript.{answered, asked_on, bare, dealt_with, is_of, on_link, only_if}
use Rattle.lnbd_plan.specs.declared.grid.Slice.{Slice}
use Rattle.lnbd_board.specs.declared.how.How.{How}
use Rattle.lnbd_board.specs.declared.ticket.Ticket.{Ticket}
use Rattle.lnbd_board.specs.declared.ticket.Ticket.TheVariants as ticket
use Rattle.lnbd_board.specs.Files as board
use Rattle.lnbd_board.specs.Requests.{Each, Request}
use Rattle.lnbd_board.specs.Rows.{AsksOfSource}
use Rattle.lnbd_board.proofs.Lists.{Each-back}
use Rattle.lnbd_tracks.specs.Mapping.{IsWanted, first_tells, is_extents}
use Rattle.lnbd_tracks.specs.Saying.{is_told, said_in}
use Rattle.lnbd_tracks.specs.Tracks.{Histories}
use Rattle.lnbd_tracks.specs.Unanswered.{IsUnanswered}
use Rattle.lnbd_course.specs.Passed.{HeardWereFirst, HeardWereTold, NoneAreAwaited}
use Rattle.lnbd_course.specs.Told.{AreOfSource, Known, ToldCourse}
use Rattle.lnbd_course.specs.UnderWay.{is_block_status}
use Rattle.lnbd_course.proofs.Answering.{asked_so, here, out}
use Rattle.lnbd_course.proofs.Listing.{asked_here, listed, one_of}
use Rattle.lnbd_course.proofs.Reached.{held, says, tells_so}
use Rattle.lnbd_course.proofs.Sparing.{either_true}

and_second : (a b : Bool) → (a && b) ≡ true → b ≡ true
and_second true b e = e
and_second false b e = absurd (false≢true e)

and_first : (a b : Bool) → (a && b) ≡ true → a ≡ true
and_first true b e = refl
and_first false b e = absurd (false≢true e)

-- The block status for the range that was answered.
module _ (from : Place) (sources : ℕ → Bool) (calls : List wire.Call) (histories : Histories) (says_so : (link : ℕ) → DrivenSays (histories link) (on_link link calls)) (of : AreOfSource from calls sources) (range : ℕ × ℕ) (now : board.Seen)
    (w : IsWanted sources histories range now) (mapped : now.mapped ≡ true) where
  its : is_of from calls w.link ≡ true
  its = here from sources calls histories says_so of range now w mapped

  its_asked : (dealt_with from calls).asked w.link w.cookie ≡ Some (bare w.asks)
  its_asked = ap (λ (b : Bool). only_if b (asked_on (on_link w.link calls) w.cookie)) its ∙ asked_so from sources calls histories says_so of range now w mapped

  its_done : (dealt_with from calls).outcome w.link w.cookie ≡ Done (w.answered mapped).bytes
  its_done = ap (λ (b : Bool). if b then answered (on_link w.link calls) w.cookie else Unfinished) its ∙ (says_so w.link).outcomes w.cookie (out from sources calls histories says_so of range now w mapped) ∙ (w.answered mapped).is

  its_has : (p : ℕ) → within range p ≡ true → within (w.asks.offset, w.asks.length) p ≡ true
  its_has p inside = ap (λ (n : ℕ). within (n, w.asks.length) p) w.offset ∙ ap (λ (n : ℕ). within (range.0, n) p) w.length_ ∙ inside

pub heard_were_told : HeardWereTold
heard_were_told from how sources slices now calls seens range known t well mapped stands all of back p holds =
    let w = t.maps in
    let mine : (link : ℕ) → DrivenSays (t.course.histories link) (on_link link calls) = says from how sources slices now calls seens (Some range) known t well stands all of in
    record {
      link = w.link;
      cookie = w.cookie;
      command = bare w.asks;
      bytes = (w.answered mapped).bytes;
      asked = its_asked from sources calls t.course.histories mine back range now w mapped;
      kind = w.kind;
      done = its_done from sources calls t.course.histories mine back range now w mapped;
      has = its_has from sources calls t.course.histories mine back range now w mapped p (and_first (within range p) (said_in is_told range.0 now.told p) holds);
      told = tells_so from how sources slices now calls seens (Some range) known t well stands all of w.link
          (held from how sources slices now calls seens (Some range) known t well stands all of w.link w.cookie w.asks w.asked) w.cookie p
          (out from sources calls t.course.histories mine back range now w mapped)
          ∙ w.said is_told refl p (and_second (within range p) (said_in is_told range.0 now.told p) holds);
    }

pub heard_were_first : HeardWereFirst
heard_were_first from how sources slices now calls range known t mapped back grain p inside low =
    let w = t.maps in
    let mine : (link : ℕ) → DrivenSays (t.course.histories link) (on_link link calls) = λ link. t.course.parted link tt in
    record {
      link = w.link;
      cookie = w.cookie;
      command = bare w.asks;
      bytes = (w.answered mapped).bytes;
      asked = its_asked from sources calls t.course.histories mine back range now w mapped;
      kind = w.kind;
      done = its_done from sources calls t.course.histories mine back range now w mapped;
      has = its_has from sources calls t.course.histories mine back range now w mapped p inside;
      near = subst (λ (n : ℕ). p < n + grain) (sym w.offset) low;
    }

-- None is waited for.

ends_extents : (slices : List Slice) (by : Ticket) (command : Command Nobody) → AsksOfSource slices by command → is_block_status command.kind ≡ true → is_extents by ≡ true
ends_extents slices (ticket.Slice n) command asks kind = absurd (false≢true (sym (ap is_block_status asks.0) ∙ kind))
ends_extents slices ticket.Extents command asks kind = refl
ends_extents slices ticket.Flush command asks kind = absurd asks

module _ (from : Place) (how : How) (sources : ℕ → Bool) (slices : List Slice) (now : board.Seen) (calls : List wire.Call) (known : Known) (t : ToldCourse how sources slices now calls [] None known) (well : now.error ≡ None)
    (of : (link : ℕ) → is_of from calls link ≡ true → sources link ≡ true) where
  done_differs : (bytes : List ℕ) → Unfinished ≡ Done bytes → ⊥
  done_differs bytes e = cc

  none_waits : (link cookie : ℕ) → IsUnanswered is_block_status (dealt_with from calls) link cookie → ⊥
  none_waits link cookie u =
      let a = asked_here from how sources slices now calls t.course of link cookie u.command u.asked in
      let in_list = listed from how sources slices now calls t.course of link cookie a.1.asks a.0 a.1.is in
      let mine = (Each-back (λ (r : Request). AsksOfSource slices r.ticket r.said.command) in_list.front (one_of from how sources slices now calls t.course of link cookie a.1.asks ∷ in_list.back)
      (subst (λ (l : List Request). Each (λ r. AsksOfSource slices r.ticket r.said.command) l) in_list.is (t.course.stood.stands well).reads)).0 in
      let kind : is_block_status a.1.asks.kind ≡ true = ap (λ (c : Command Nobody). is_block_status c.kind) a.1.same ∙ u.kind in
      let extents = ends_extents slices a.1.asks.flight.done.callback (bare a.1.asks) mine kind in
      let done = t.maps link cookie a.1.asks a.1.is (either_true (first_tells a.1.asks.flight.first) (is_extents a.1.asks.flight.done.callback) extents) in
      let came : (dealt_with from calls).outcome link cookie ≡ Done done.bytes = ap (λ (b : Bool). if b then answered (on_link link calls) cookie else Unfinished) a.0 ∙ (t.course.parted link tt).outcomes cookie a.1.out ∙ done.is in
      done_differs done.bytes (sym u.waits ∙ came)

pub none_are_awaited : NoneAreAwaited
none_are_awaited from how sources slices now calls known t well of = record {
  list = [];
  many = refl;
  once = tt;
  all = λ link cookie. ((λ none. absurd none), none_waits from how sources slices now calls known t well of link cookie);
}
