-- Each position that a block status of the source told of is known so.
use Rattle.std.proofs.Common.{◌≡◌, inl, inr, ℕ, Bool, true, false, ◌&&◌, List, ◌∷◌, Option, Some, None, is_some, refl, ap, sym, subst, ◌∙◌, nat_le, if◌then◌else◌}
use Rattle.lnbd_model.specs.declared.kind.Kind.TheVariants.{BlockStatus}
use Rattle.lnbd_model.specs.declared.target.Place.{Place}
use Rattle.lnbd_outcome.specs.Outcome.{Done, Unfinished}
use Rattle.lnbd_link.specs.Call as wire
use Rattle.lnbd_history.specs.Commands.{Command, Request}
use Rattle.lnbd_history.specs.Events.{History}
use Rattle.lnbd_history.specs.History.{request}
use Rattle.lnbd_asked.specs.Driven.{DrivenSays, Drives, outcome_after, written}
use Rattle.lnbd_asked.specs.Honest.{has}
use Rattle.lnbd_asked.specs.Link.{Nobody}
use Rattle.lnbd_asked.specs.Transcript.{answered, asked_on, bare, is_of, on_link, only_if}
use Rattle.lnbd_poll.specs.Seen.{Seen}
use Rattle.lnbd_drives.proofs.Saying.{driven_said, one_of}
use Rattle.lnbd_plan.specs.declared.grid.Slice.{Slice}
use Rattle.lnbd_board.specs.declared.how.How.{How}
use Rattle.lnbd_board.specs.declared.ticket.Ticket.{Ticket}
use Rattle.lnbd_board.specs.Files as board
use Rattle.lnbd_board.specs.Requests.{Each}
use Rattle.lnbd_board.specs.Requests as sides
use Rattle.lnbd_board.specs.Rows.{AsksOfSource}
use Rattle.lnbd_board.proofs.Lists.{Each-back}
use Rattle.lnbd_tracks.specs.Awaiting.{IsAsking}
use Rattle.lnbd_tracks.specs.Heeding.{Heeds, IsHeard}
use Rattle.lnbd_tracks.specs.Mapping.{first_tells, is_extents, tells_extents}
use Rattle.lnbd_tracks.specs.Saying.{is_told, said_after, told_at}
use Rattle.lnbd_tracks.specs.Tracks.{Histories, request_of, told_by}
use Rattle.lnbd_tracks.proofs.Filed.{driven_tells}
use Rattle.lnbd_tracks.proofs.Living.{over_came}
use Rattle.lnbd_tracks.proofs.Staying.{or_right}
use Rattle.lnbd_tracks.proofs.Under.{found}
use Rattle.lnbd_course.specs.Failed.{AllStand}
use Rattle.lnbd_course.specs.Reached.{ToldAreKnown, WasTold}
use Rattle.lnbd_course.specs.Told.{Known, ToldCourse}
use Rattle.lnbd_course.specs.UnderWay.{AllHeld}
use Rattle.lnbd_course.proofs.Failing.{IsThere, there_or_apart}
use Rattle.lnbd_course.proofs.Holding.{one_has}
use Rattle.lnbd_course.proofs.Listing.{IsAsked, asked_by}
use Rattle.lnbd_course.proofs.Sparing.{extents_by}
use Rattle.lnbd_course.proofs.Standing.{on_here}

none_some : {A : Type 0} (one : A) → None ≡ Some one → ⊥
none_some one e = cc

some_same : {A : Type 0} (one other : A) → Some one ≡ Some other → one ≡ other
some_same one other e = cc

only_if_some : {A : Type 0} (test : Bool) (one : Option A) (x : A) → only_if test one ≡ Some x → (test ≡ true) × (one ≡ Some x)
only_if_some true one x e = (refl, e)
only_if_some false one x e = absurd (none_some x e)

unfinished_done : (bytes : List ℕ) → Unfinished ≡ Done bytes → ⊥
unfinished_done bytes e = cc

module _ (from : Place) (how : How) (sources : ℕ → Bool) (slices : List Slice) (now : board.Seen) (calls : List wire.Call) (seens : List (Seen Ticket)) (wanted : Option (ℕ × ℕ)) (known : Known) (t : ToldCourse how sources slices now calls seens wanted known)
    (well : now.error ≡ None) (stands : AllStand seens) (all : AllHeld calls seens) (of : (link : ℕ) → is_of from calls link ≡ true → sources link ≡ true) where
  abbrev pub histories : Histories
  histories = t.course.histories

  -- A link on which something was asked is that of a handle.
  pub held : (link cookie : ℕ) (asks : Request Ticket) → request (histories link) cookie ≡ Some asks → IsThere link seens
  held link cookie asks is = elim (there_or_apart link seens stands) [
    | inl h ↦ h
    | inr apart ↦ absurd (none_some asks (sym (ap (λ (h : History Ticket). request h cookie) (t.course.unused link (all link apart)).blank) ∙ is))
  ]

  pub says : (link : ℕ) → DrivenSays (histories link) (on_link link calls)
  says link = elim (there_or_apart link seens stands) [
    | inl h ↦
        subst (λ (n : ℕ). DrivenSays (histories n) (on_link n calls)) h.same
        (subst (λ (x : History Ticket). DrivenSays x (on_link h.seen.link calls)) (sym (one_has h.index h.seen histories seens h.there t.course.held))
        (driven_said h.stands.limit calls seens h.index h.seen h.stands.handle t.course.drive h.there h.stands.stands))
    | inr apart ↦ t.course.parted link apart
  ]

  -- what was told of positions on a link, by the history of its handle
  abbrev pub TellsSo : (link : ℕ) → History Ticket → Type 0
  TellsSo link history = (cookie p : ℕ) → nat_le cookie (written history) ≡ true → told_at (on_link link calls) cookie p ≡ said_after is_told history cookie p

  pub tells_so : (link : ℕ) → IsThere link seens → TellsSo link (histories link)
  tells_so link h =
      let one = one_of calls seens h.index h.seen h.there t.course.drive.drive t.course.drive.plain in
      subst (λ (n : ℕ). TellsSo n (histories n)) h.same
      (subst (TellsSo h.seen.link) (sym (one_has h.index h.seen histories seens h.there t.course.held))
      (driven_tells h.stands.limit h.seen.link calls h.seen.history h.stands.stands.lawful one.plain.spelled h.stands.stands.going one.plain.mode (subst (Drives h.seen.link calls h.seen.history) one.plain.arrived one.drives)))

  -- One that is over is not unanswered.
  came : (link cookie : ℕ) (asks : Request Ticket) → request (histories link) cookie ≡ Some asks → IsHeard (histories link) known.whole known.reach cookie asks → outcome_after (histories link) cookie ≡ Unfinished → ⊥
  came link cookie asks is heard waits =
      let h = held link cookie asks is in
      let same : histories link ≡ h.seen.history = ap histories (sym h.same) ∙ one_has h.index h.seen histories seens h.there t.course.held in
      over_came h.stands.limit h.seen.history cookie asks h.stands.stands.lawful h.stands.stands.going (ap (λ (x : History Ticket). request x cookie) (sym same) ∙ is)
      (subst (λ (x : History Ticket). IsHeard x known.whole known.reach cookie asks) same heard).over (ap (λ (x : History Ticket). outcome_after x cookie) (sym same) ∙ waits)

  abbrev mine_of : (link cookie : ℕ) → Request Ticket → sides.Request
  mine_of link cookie asks = sides.request link cookie asks.flight.done.callback (record { command = bare asks; outcome = outcome_after (histories link) cookie })

  -- A block status tells extents.
  tells : (link cookie : ℕ) (asks : Request Ticket) → sources link ≡ true → request (histories link) cookie ≡ Some asks → asks.kind ≡ BlockStatus → tells_extents asks.flight ≡ true
  tells link cookie asks here is kind =
      let there = found link cookie (mine_of link cookie asks) t.course.stood.source
      ((t.course.stood.reads link).each cookie ∙ ap (λ (h : History Ticket). told_by link cookie h) (on_here sources histories link here)
      ∙ ap (λ (o : Option (Request Ticket)). request_of link cookie o (outcome_after (histories link) cookie)) is) in
      let mine = (Each-back (λ (r : sides.Request). AsksOfSource slices r.ticket r.said.command) there.front (mine_of link cookie asks ∷ there.back)
      (subst (λ (l : List sides.Request). Each (λ r. AsksOfSource slices r.ticket r.said.command) l) there.is (t.course.stood.stands well).reads)).0 in
      or_right (first_tells asks.flight.first) (is_extents asks.flight.done.callback) (extents_by slices asks.flight.done.callback (bare asks) mine kind)

  module _ (p : ℕ) (w : WasTold from p calls) (untold : is_some wanted ≡ true → now.mapped ≡ false) where
    at : (is_of from calls w.link ≡ true) × (asked_on (on_link w.link calls) w.cookie ≡ Some w.command)
    at = only_if_some (is_of from calls w.link) (asked_on (on_link w.link calls) w.cookie) w.command w.asked

    a : IsAsked (histories w.link) w.cookie w.command
    a = asked_by (histories w.link) (on_link w.link calls) w.cookie w.command (says w.link) at.1

    done : outcome_after (histories w.link) w.cookie ≡ Done w.bytes
    done = sym ((says w.link).outcomes w.cookie a.out) ∙ sym (ap (λ (b : Bool). if b then answered (on_link w.link calls) w.cookie else Unfinished) at.0) ∙ w.done

    says_so : said_after is_told (histories w.link) w.cookie p ≡ true
    says_so = sym (tells_so w.link (held w.link w.cookie a.asks a.is) w.cookie p a.out) ∙ w.told

    extents : tells_extents a.asks.flight ≡ true
    extents = tells w.link w.cookie a.asks (of w.link at.0) a.is (ap (λ (c : Command Nobody). c.kind) a.same ∙ w.kind)

    -- one that was heard is known
    heard_known : IsHeard (histories w.link) known.whole known.reach w.cookie a.asks → known.reach p ≡ true
    heard_known heard =
        heard.reached (record { bytes = w.bytes; is = done }) p
        (ap (λ (c : Command Nobody). has c p && said_after is_told (histories w.link) w.cookie p) a.same ∙ ap (λ (b : Bool). b && said_after is_told (histories w.link) w.cookie p) w.has ∙ says_so)

    -- the one that is waited for is not done
    by : (range : Option (ℕ × ℕ)) → wanted ≡ range → Heeds histories range known.whole known.reach now → known.reach p ≡ true
    by None is heeds = heard_known (heeds w.link w.cookie a.asks a.is extents)
    by (Some range) is heeds = elim (heeds.others w.link w.cookie a.asks a.is extents) [
      | inl same ↦
          let some : is_some wanted ≡ true = ap is_some is in
          let waits : IsAsking sources histories = t.awaits.on some well (untold some) in
          elim (heeds.others waits.link waits.cookie waits.asks waits.asked (or_right (first_tells waits.asks.flight.first) (is_extents waits.asks.flight.done.callback) waits.ends)) [
            | inl other ↦
                let unanswered : outcome_after (histories heeds.link) heeds.cookie ≡ Unfinished =
                sym (ap (λ (n : ℕ). outcome_after (histories n) waits.cookie) other.0 ∙ ap (λ (n : ℕ). outcome_after (histories heeds.link) n) other.1) ∙ waits.waits in
                let answered_ : outcome_after (histories heeds.link) heeds.cookie ≡ Done w.bytes =
                sym (ap (λ (n : ℕ). outcome_after (histories n) w.cookie) same.0 ∙ ap (λ (n : ℕ). outcome_after (histories heeds.link) n) same.1) ∙ done in
                absurd (unfinished_done w.bytes (sym unanswered ∙ answered_))
            | inr heard ↦ absurd (came waits.link waits.cookie waits.asks waits.asked heard waits.waits)
          ]
      | inr heard ↦ heard_known heard
    ]

    pub is_known : known.reach p ≡ true
    is_known = by wanted refl t.heeds

pub told_are_known : ToldAreKnown
told_are_known from how sources slices now calls seens wanted known t well untold stands all of p w = is_known from how sources slices now calls seens wanted known t well stands all of p w untold
