-- Each request of a copy is done in the end: those for slices are over, block statuses were heard, and a flush was answered.
use Rattle.std.proofs.Common.{◌≡◌, ◌⊎◌, inl, inr, ℕ, Bool, true, false, List, [], ◌∷◌, Some, None, refl, ap, sym, subst, ◌∙◌, nat_le, if◌then◌else◌}
use Rattle.std.proofs.lemmas.Bool.{false≢true}
use Rattle.lnbd_model.specs.declared.target.Place.{Place}
use Rattle.lnbd_outcome.specs.Outcome.{Unfinished}
use Rattle.lnbd_link.specs.Call as wire
use Rattle.lnbd_history.specs.Commands as commands
use Rattle.lnbd_history.specs.Commands.{Command}
use Rattle.lnbd_history.specs.History.{request}
use Rattle.lnbd_asked.specs.Driven.{written}
use Rattle.lnbd_asked.specs.Link.{Nobody}
use Rattle.lnbd_asked.specs.Transcript.{Dealt, answered, bare, dealt_with, is_of, on_link}
use Rattle.lnbd_plan.specs.declared.grid.Slice.{Slice}
use Rattle.lnbd_board.specs.declared.how.How.{How}
use Rattle.lnbd_board.specs.declared.ticket.Ticket.{Ticket}
use Rattle.lnbd_board.specs.declared.ticket.Ticket.TheVariants as ticket
use Rattle.lnbd_board.specs.Files as board
use Rattle.lnbd_board.specs.Requests.{Each, IsDealt, Request, Under}
use Rattle.lnbd_board.specs.Rows.{AsksOfDestination, AsksOfSource, IsChange}
use Rattle.lnbd_board.proofs.Lists.{Each-back, in_each}
use Rattle.lnbd_tracks.specs.Laws.{IsDone, moves_bytes}
use Rattle.lnbd_tracks.specs.Mapping.{NoneAsked, first_tells, is_extents}
use Rattle.lnbd_tracks.specs.Tracks.{AllTrack, Histories}
use Rattle.lnbd_course.specs.AllDone.{AreAllDone, EndedAreAllDone}
use Rattle.lnbd_course.specs.Asks.{AreDone}
use Rattle.lnbd_course.specs.Counted.{is_flush}
use Rattle.lnbd_course.specs.Course.{beside, on_side}
use Rattle.lnbd_course.specs.Flushes.{NoneFlushes, OneFlushes, WasFlushed}
use Rattle.lnbd_course.specs.Told.{Known, ToldCourse}
use Rattle.lnbd_course.proofs.Ending.{Of, destination_dealt, gone_out, of_it, out_in}
use Rattle.lnbd_course.proofs.Flushing.{ended_flushed, ended_flushes_once, ended_unflushed}
use Rattle.lnbd_course.proofs.Listing.{asked_here, listed, one_of}
use Rattle.lnbd_course.proofs.Once.{ended_are_done}
use Rattle.lnbd_course.proofs.Placed.{links_are_of_sides}
use Rattle.lnbd_course.proofs.Sparing.{either_true}

-- The source is asked for bytes, or for extents,
source_asks : (slices : List Slice) (by : Ticket) (command : Command Nobody) → AsksOfSource slices by command → (moves_bytes command.kind ≡ true) ⊎ (is_extents by ≡ true)
source_asks slices (ticket.Slice n) command asks = inl (ap moves_bytes asks.0)
source_asks slices ticket.Extents command asks = inr refl
source_asks slices ticket.Flush command asks = absurd asks

-- and the destination to change bytes, or to flush.
destination_asks : (how : How) (slices : List Slice) (by : Ticket) (command : Command Nobody) → AsksOfDestination how slices by command → (moves_bytes command.kind ≡ true) ⊎ (is_flush command.kind ≡ true)
destination_asks how slices (ticket.Slice n) command asks = inl (change asks.0)
  where
    change : IsChange how command → moves_bytes command.kind ≡ true
    change (inl write) = ap moves_bytes write.0
    change (inr zero) = ap moves_bytes zero.0
destination_asks how slices ticket.Extents command asks = absurd asks
destination_asks how slices ticket.Flush command asks = inr (ap is_flush asks.0)

-- With no extents waited for, what the source was asked is done where that is so of each of its reads.
module _ (from : Place) (how : How) (has : ℕ → Bool) (slices : List Slice) (now : board.Seen) (calls : List wire.Call) (known : Known) (t : ToldCourse how has slices now calls [] None known) (well : now.error ≡ None)
    (of : (link : ℕ) → is_of from calls link ≡ true → has link ≡ true) (reads : AreDone (dealt_with from calls)) where
  source_done : AreAllDone (dealt_with from calls)
  source_done link cookie command asked =
      let a = asked_here from how has slices now calls t.course of link cookie command asked in
      let in_list = listed from how has slices now calls t.course of link cookie a.1.asks a.0 a.1.is in
      let mine = (Each-back (λ (r : Request). AsksOfSource slices r.ticket r.said.command) in_list.front (one_of from how has slices now calls t.course of link cookie a.1.asks ∷ in_list.back)
      (subst (λ (l : List Request). Each (λ r. AsksOfSource slices r.ticket r.said.command) l) in_list.is (t.course.stood.stands well).reads)).0 in
      go a.0 a.1.asks a.1.is a.1.same a.1.out (source_asks slices a.1.asks.flight.done.callback (bare a.1.asks) mine)
    where
      go : is_of from calls link ≡ true → (asks : commands.Request Ticket) → request (t.course.histories link) cookie ≡ Some asks → bare asks ≡ command → nat_le cookie (written (t.course.histories link)) ≡ true →
          (moves_bytes asks.kind ≡ true) ⊎ (is_extents asks.flight.done.callback ≡ true) → IsDone ((dealt_with from calls).outcome link cookie)
      go here asks is same out (inl moves) = reads link cookie command asked (ap (λ (c : Command Nobody). moves_bytes c.kind) (sym same) ∙ moves)
      go here asks is same out (inr extents) =
          let done = t.maps link cookie asks is (either_true (first_tells asks.flight.first) (is_extents asks.flight.done.callback) extents) in
          record {
            bytes = done.bytes;
            is = ap (λ (b : Bool). if b then answered (on_link link calls) cookie else Unfinished) here ∙ (t.course.parted link tt).outcomes cookie out ∙ done.is;
          }

-- What a destination was asked is done where that is so of each of its changes, and a flush that was asked was answered.
module _ (how : How) (slices : List Slice) (histories : Histories) (requests : List Request) (dealt : Dealt) (went : IsDealt (gone_out histories requests) dealt)
    (each : Each (λ (r : Request). AsksOfDestination how slices r.ticket r.said.command) requests)
    (changes : AreDone dealt) (flushing : Bool) (once : OneFlushes dealt) (none : flushing ≡ false → NoneFlushes dealt) (flushed : flushing ≡ true → WasFlushed dealt) where
  flush_done : (link cookie : ℕ) (command : Command Nobody) → dealt.asked link cookie ≡ Some command → is_flush command.kind ≡ true → IsDone (dealt.outcome link cookie)
  flush_done link cookie command asked flush = go flushing refl
    where
      go : (f : Bool) → flushing ≡ f → IsDone (dealt.outcome link cookie)
      go true e =
          let was = flushed e in
          let same = once was.link was.cookie link cookie was.command command was.asked asked was.kind flush in
          subst (λ (l : ℕ). IsDone (dealt.outcome l cookie)) (sym same.0) (subst (λ (c : ℕ). IsDone (dealt.outcome was.link c)) (sym same.1) was.done)
      go false e = absurd (false≢true (sym (none e link cookie command asked) ∙ flush))

  pub stores_done : AreAllDone dealt
  stores_done link cookie command asked =
      let u = went.only link cookie command asked in
      let mine = in_each (λ (r : Request). AsksOfDestination how slices r.ticket r.said.command) u.request requests (out_in histories u.request requests u.within).0 each in
      go u.request u.asks (destination_asks how slices u.request.ticket u.request.said.command mine)
    where
      go : (r : Request) → r.said.command ≡ command → (moves_bytes r.said.command.kind ≡ true) ⊎ (is_flush r.said.command.kind ≡ true) → IsDone (dealt.outcome link cookie)
      go r same (inl moves) = changes link cookie command asked (ap (λ (c : Command Nobody). moves_bytes c.kind) (sym same) ∙ moves)
      go r same (inr flush) = flush_done link cookie command asked (ap (λ (c : Command Nobody). is_flush c.kind) (sym same) ∙ flush)

-- What a source was asked is, where that is so of each of its reads, and no extents are waited for.
pub looks_done : (slices : List Slice) (histories : Histories) (requests : List Request) (dealt : Dealt) → AllTrack histories requests → IsDealt (gone_out histories requests) dealt →
    Each (λ (r : Request). AsksOfSource slices r.ticket r.said.command) requests →
    AreDone dealt → NoneAsked histories → AreAllDone dealt
looks_done slices histories requests dealt track went each reads none link cookie command asked =
    let within = (out_in histories u.request requests u.within).0 in
    go (of_it histories requests u.request track within) (source_asks slices u.request.ticket u.request.said.command
    (in_each (λ (r : Request). AsksOfSource slices r.ticket r.said.command) u.request requests within each))
  where
    u : Under link cookie command (gone_out histories requests)
    u = went.only link cookie command asked

    go : Of histories u.request → (moves_bytes u.request.said.command.kind ≡ true) ⊎ (is_extents u.request.ticket ≡ true) → IsDone (dealt.outcome link cookie)
    go o (inl moves) = reads link cookie command asked (ap (λ (c : Command Nobody). moves_bytes c.kind) (sym u.asks) ∙ moves)
    go o (inr extents) =
        let done = none u.request.link u.request.cookie o.asks o.is (either_true (first_tells o.asks.flight.first) (is_extents o.asks.flight.done.callback) (ap is_extents (sym o.by) ∙ extents)) in
        subst (λ (l : ℕ). IsDone (dealt.outcome l cookie)) u.on
        (subst (λ (c : ℕ). IsDone (dealt.outcome u.request.link c)) u.by (record { bytes = done.bytes; is = (went.shown u.request u.within).1 ∙ o.outcome ∙ done.is }))

pub ended_are_all_done : EndedAreAllDone
ended_are_all_done from to size how has slices now calls known b t over well flushed two =
    let done = ended_are_done from to size how has slices now calls b over well two in
    record {
      source = source_done from how has slices now calls known t well (links_are_of_sides from to size how has slices now calls b two).0.source done.source;
      destination = stores_done how slices (on_side (beside has) b.course.histories) b.course.stood.destination (dealt_with to calls)
          (destination_dealt from to how has slices now calls b.course (links_are_of_sides from to size how has slices now calls b two).0)
          (b.course.stood.stands well).changes done.destination now.flushing (ended_flushes_once from to size how has slices now calls b two)
          (λ e. ended_unflushed from to size how has slices now calls b e two)
          (λ e. ended_flushed from to size how has slices now calls b well (flushed e) two);
    }
