-- A pause for the handles of a copy wants a link only where its handle waits for it.
use Rattle.std.proofs.Common.{◌≡◌, ◌≢◌, ℕ, suc, Bool, true, false, List, [], ◌∷◌, Option, Some, None, if◌then◌else◌, refl, ap, sym, subst}
use Rattle.lnbd_model.specs.declared.state.State.TheVariants as state
use Rattle.lnbd_history.specs.Answers.{direction_after, in_flight_after, state_after}
use Rattle.lnbd_drives.specs.Driving.{AllDrive, AllPlain}
use Rattle.lnbd_link.specs.Call as wire
use Rattle.lnbd_link.specs.declared.wires.Want.{Want}
use Rattle.lnbd_poll.specs.Held.{Held, AreAt, is_wanting, want_of, wants_after, wants_now, with_want}
use Rattle.lnbd_poll.specs.Seen.{Seen}
use Rattle.lnbd_poll.proofs.HeldLemmas.{wants_same}
use Rattle.lnbd_board.specs.declared.ticket.Ticket.{Ticket}
use Rattle.lnbd_board.specs.Files as board
use Rattle.lnbd_course.specs.Between.{place_of}
use Rattle.lnbd_copy.specs.Copier.{IsOnItsWay}
use Rattle.lnbd_copy.specs.Copier as copier
use Rattle.lnbd_conduct.specs.Begun.{opened, DrivenBy}
use Rattle.lnbd_copy.specs.Driven.{AllWentOn}
use Rattle.lnbd_conduct.specs.Driven.{WentOn, asks_extents_on}
use Rattle.lnbd_copy.specs.Job as work
use Rattle.lnbd_copy.specs.Waits.{AreUnparted}
use Rattle.lnbd_conduct.specs.Waiting.{WaitsWell}
use Rattle.lnbd_copy.specs.Way.{IsUnderWay, Way}
use Rattle.lnbd_conduct.specs.Told.{Told}
use Rattle.lnbd_copy.proofs.CopierLemmas.{told_as}
use Rattle.lnbd_copy.proofs.GroundLemmas.{driven_at}

one_waits : (calls : List wire.Call) (seen : Seen Ticket) (others : List Want) (name : List ℕ) (asks : Bool) → WentOn (opened name asks) seen.history → DrivenBy seen.link seen.history calls → direction_after seen.history ≢ 0 → (direction_after seen.history ≡ 1 → state_after seen.history ≢ state.Closing) → WaitsWell calls others →
    WaitsWell calls (with_want (want_of seen.link (state_after seen.history) (in_flight_after seen.history) (direction_after seen.history)) others)
one_waits calls seen others name asks began drives reads parts rest = go (is_wanting (state_after seen.history) (in_flight_after seen.history) (direction_after seen.history)) refl
  where
    go : (b : Bool) → is_wanting (state_after seen.history) (in_flight_after seen.history) (direction_after seen.history) ≡ b → WaitsWell calls (with_want (if b then Some (record { link = seen.link; direction = direction_after seen.history }) else None) others)
    go true is = (record { history = seen.history; drives = drives; wants = ap (λ (b : Bool). if b then Some (record { link = seen.link; direction = direction_after seen.history }) else None) is; reads = reads; parts = parts; name = name; asks = asks; began = began }, rest)
    go false is = rest

all_wait : (name : ℕ → List ℕ) (asks : ℕ → Bool) (calls : List wire.Call) (held : List (Held Ticket)) (seens : List (Seen Ticket)) → AllWentOn (λ link. opened (name link) (asks link)) seens → AreAt held seens → AreUnparted held → AllDrive calls seens → AllPlain seens → WaitsWell calls (wants_after seens)
all_wait name asks calls held [] went at unparted drive plain = tt
all_wait name asks calls [] (seen ∷ all) went at unparted drive plain = absurd at
all_wait name asks calls (one ∷ others) (seen ∷ all) went at unparted drive plain =
    one_waits calls seen (wants_after all) (name seen.link) (asks seen.link) went.0 (driven_at calls 0 seen (one ∷ others) (seen ∷ all) refl at drive plain) ((unparted 0 one refl).reads seen.history at.0.stands) ((unparted 0 one refl).parts seen.history at.0.stands)
    (all_wait name asks calls others all went.1 at.1 (λ index held there. unparted (suc index) held there) drive.1 plain.1)

pub waits_well : (parting : Bool) (way : Way) (now : board.Seen) (calls : List wire.Call) (held : List (Held Ticket)) → AreUnparted held → IsUnderWay parting way now calls held → WaitsWell calls (wants_now held)
waits_well parting way now calls held unparted on =
    subst (WaitsWell calls) (sym (wants_same held on.seens on.at)) (all_wait (λ link. (place_of way.from way.to (on.has link)).name) (λ link. asks_extents_on link way.extents calls) calls held on.seens on.drives.went on.at unparted on.stands.between.course.drive.drive on.stands.between.course.drive.plain)

-- So it is of a copy on its way.
pub way_waits : (copy : copier.Seen) (start told : Option (List wire.Call)) → AreUnparted copy.held → IsOnItsWay start told copy → Told start told (λ calls. WaitsWell calls (wants_now copy.held))
way_waits copy start told unparted way = told_as start told (λ calls on. waits_well (work.is_parting way.job.phase) way.way copy.board calls copy.held unparted on) way.on
