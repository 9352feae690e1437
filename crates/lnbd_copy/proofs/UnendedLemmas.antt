-- No connection is asked to end before all is done: what came on handles stays so, and so does what calls show of it.
use Rattle.std.proofs.Common.{◌≡◌, inl, inr, ℕ, zero, suc, Bool, true, false, List, [], ◌∷◌, ◌++◌, refl, sym, subst, ◌∙◌}
use Rattle.std.proofs.lemmas.Bool.{false≢true}
use Rattle.lnbd_model.specs.declared.target.Place.{Place}
use Rattle.lnbd_history.specs.Events.{Event, History, Set, StrictMode, Start, Opt, Abort, Issue, Refuse, Disconnect, Wrote, Arrived, End, LinkFailed, Retire, ClearLog, Close}
use Rattle.lnbd_link.specs.Call as wire
use Rattle.lnbd_link.specs.Numbers.{is_given}
use Rattle.lnbd_asked.specs.Driven.{is_inward}
use Rattle.lnbd_poll.specs.Alone.{AreApart, calls_on}
use Rattle.lnbd_poll.specs.Seen.{Seen}
use Rattle.lnbd_drives.specs.Driving.{with_event}
use Rattle.lnbd_board.specs.declared.ticket.Ticket.{Ticket}
use Rattle.lnbd_course.proofs.Address.{given_stays}
use Rattle.lnbd_conduct.specs.Begun.{opened}
use Rattle.lnbd_copy.specs.Driven.{AllUnended, HasEnded, LeavesSince}
use Rattle.lnbd_conduct.specs.Driven.{EndLast, IsUnended, WasUnended, is_disconnect, may_come}
use Rattle.lnbd_copy.proofs.DrivenLemmas.{driven_later}
use Rattle.lnbd_copy.proofs.DrivenTurns.{AllBrought, AreOfLink, Brought, brought_apart, brought_on}
use Rattle.lnbd_copy.proofs.SinceLemmas.{end_later, leaves_later, leaves_none, since_event, since_later}

-- One history.

-- what a link takes and brings is no such event
of_link_stays : (event : Event Ticket) → is_inward event ≡ false → is_disconnect event ≡ false
of_link_stays (Set setting) of = refl
of_link_stays (StrictMode bits) of = refl
of_link_stays Start of = refl
of_link_stays (Opt option) of = refl
of_link_stays Abort of = refl
of_link_stays (Issue command) of = refl
of_link_stays (Refuse command why) of = refl
of_link_stays Disconnect of = absurd (false≢true (sym of))
of_link_stays (Wrote n) of = refl
of_link_stays (Arrived bytes answers) of = refl
of_link_stays (End answers) of = refl
of_link_stays (LinkFailed answers) of = refl
of_link_stays (Retire cookie) of = refl
of_link_stays ClearLog of = refl
of_link_stays Close of = refl

link_unended : (since before : History Ticket) → AreOfLink since → IsUnended before → IsUnended (since ++ before)
link_unended [] before of unended = unended
link_unended (event ∷ since) before of unended = (of_link_stays event of.0, link_unended since before of.1 unended)

brought_unended : (before after : History Ticket) → Brought before after → IsUnended before → IsUnended after
brought_unended before after b unended = subst IsUnended (sym b.are) (link_unended b.since before b.link unended)

opened_unended : (name : List ℕ) (extents : Bool) → IsUnended (opened name extents)
opened_unended name true = (refl, (refl, (refl, (refl, (refl, tt)))))
opened_unended name false = (refl, (refl, (refl, (refl, tt))))

-- Handles.

turn_unended : (before after : List (Seen Ticket)) → AllBrought before after → AllUnended before → AllUnended after
turn_unended [] [] all unended = tt
turn_unended [] (here ∷ there) all unended = absurd all
turn_unended (seen ∷ others) [] all unended = absurd all
turn_unended (seen ∷ others) (here ∷ there) all unended = (brought_unended seen.history here.history all.0.brought unended.0, turn_unended others there all.1 unended.1)

event_unended : (index : ℕ) (event : Event Ticket) (seens : List (Seen Ticket)) → is_disconnect event ≡ false → AllUnended seens → AllUnended (with_event index event seens)
event_unended index event [] other unended = tt
event_unended zero event (seen ∷ others) other unended = ((other, unended.0), unended.1)
event_unended (suc index) event (seen ∷ others) other unended = (unended.0, event_unended index event others other unended.1)

more_unended : (seens : List (Seen Ticket)) (last : Seen Ticket) → AllUnended seens → IsUnended last.history → AllUnended (seens ++ last ∷ [])
more_unended [] last unended one = (one, tt)
more_unended (seen ∷ others) last unended one = (unended.0, more_unended others last unended.1 one)

-- Calls.

unended_later : (extents : Bool) (from to : Place) (source : Bool) (link : ℕ) (calls more : List wire.Call) → calls_on link more ≡ [] → ((n : ℕ) → is_given n more ≡ false) → WasUnended extents from to source link calls → WasUnended extents from to source link (calls ++ more)
unfolding driven_later
unended_later extents from to source link calls more quiet none u = record { driven = driven_later extents from to source link calls more quiet none u.driven; unended = u.unended }

-- these read and write no link, and give none
pub ends_stay : (extents blank flush : Bool) (from to : Place) (calls more : List wire.Call) → ((link : ℕ) → calls_on link more ≡ []) → ((link : ℕ) → is_given link more ≡ false) → EndLast extents blank flush from to calls → EndLast extents blank flush from to (calls ++ more)
ends_stay extents blank flush from to calls more quiet none (inl unended) = inl (record { has = unended.has; each = λ link given. unended_later extents from to (unended.has link) link calls more (quiet link) none (unended.each link (sym (given_stays link calls more (none link)) ∙ given)) })
ends_stay extents blank flush from to calls more quiet none (inr end) = inr (end_later extents blank flush from to calls more none end)

-- Between two turns.

module _ (extents blank flush : Bool) (from to : Place) (calls : List wire.Call) where
  pub ended_begins : (ended : Bool) → ended ≡ false → HasEnded ended false extents blank flush from to calls []
  ended_begins true not = absurd (false≢true (sym not))
  ended_begins false not = tt

  pub ended_event : (ended : Bool) (index : ℕ) (event : Event Ticket) (seens : List (Seen Ticket)) → is_disconnect event ≡ false → may_come event ≡ true → HasEnded ended false extents blank flush from to calls seens → HasEnded ended false extents blank flush from to calls (with_event index event seens)
  ended_event true index event seens other may ends = since_event extents blank flush from to calls index event seens may ends
  ended_event false index event seens other may ends = event_unended index event seens other ends

  -- a handle is asked for the end of its connection where these were to end
  pub ended_disconnect : (ended : Bool) (index : ℕ) (seens : List (Seen Ticket)) → ended ≡ true → HasEnded ended false extents blank flush from to calls seens → HasEnded ended false extents blank flush from to calls (with_event index Disconnect seens)
  ended_disconnect true index seens is ends = since_event extents blank flush from to calls index Disconnect seens refl ends
  ended_disconnect false index seens is ends = absurd (false≢true is)

  -- no handle is taken out yet
  pub ended_leaving : (ended : Bool) (seens : List (Seen Ticket)) → ended ≡ true → ((link : ℕ) → AreApart link seens → is_given link calls ≡ false) → HasEnded ended false extents blank flush from to calls seens → HasEnded ended true extents blank flush from to calls seens
  ended_leaving true seens is all ends = leaves_none extents blank flush from to calls seens all ends
  ended_leaving false seens is all ends = absurd (false≢true is)

  -- handles are taken out
  pub ended_left : (ended : Bool) (seens left : List (Seen Ticket)) → (LeavesSince extents blank flush from to calls seens → LeavesSince extents blank flush from to calls left) → HasEnded ended true extents blank flush from to calls seens → HasEnded ended true extents blank flush from to calls left
  ended_left true seens left leaves ends = leaves ends
  ended_left false seens left leaves ends = ends

  module _ (more : List wire.Call) (none : (link : ℕ) → is_given link more ≡ false) where
    pub ended_turned : (ended parting : Bool) (before after : List (Seen Ticket)) → ((link : ℕ) → AreApart link before → calls_on link more ≡ []) → AllBrought before after → HasEnded ended parting extents blank flush from to calls before → HasEnded ended parting extents blank flush from to (calls ++ more) after
    ended_turned true false before after quiet all ends = since_later extents blank flush from to calls more before after none (λ first. brought_on first before after all) ends
    ended_turned true true before after quiet all ends = leaves_later extents blank flush from to calls more before after none (λ link. brought_apart link before after all) quiet (λ first. brought_on first before after all) ends
    ended_turned false false before after quiet all ends = turn_unended before after all ends
    ended_turned false true before after quiet all ends = ends

    pub ended_called : (ended parting : Bool) (seens : List (Seen Ticket)) → ((link : ℕ) → calls_on link more ≡ []) → HasEnded ended parting extents blank flush from to calls seens → HasEnded ended parting extents blank flush from to (calls ++ more) seens
    ended_called true false seens quiet ends = since_later extents blank flush from to calls more seens seens none (λ first went. went) ends
    ended_called true true seens quiet ends = leaves_later extents blank flush from to calls more seens seens none (λ link apart. apart) (λ link apart. quiet link) (λ first went. went) ends
    ended_called false false seens quiet ends = ends
    ended_called false true seens quiet ends = ends

  -- one handle more begins
  pub ended_dialed : (more : List wire.Call) (ended : Bool) (seens : List (Seen Ticket)) (link : ℕ) (name : List ℕ) (asks : Bool) → ended ≡ false → HasEnded ended false extents blank flush from to calls seens →
      HasEnded ended false extents blank flush from to (calls ++ more) (seens ++ record { link = link; history = opened name asks; unread = [] } ∷ [])
  ended_dialed more true seens link name asks not ends = absurd (false≢true (sym not))
  ended_dialed more false seens link name asks not ends = more_unended seens (record { link = link; history = opened name asks; unread = [] }) ends (opened_unended name asks)

-- while no connection is to end, it does not matter whether a flush is wanted, nor whether the destination is zero
pub ended_wanting : (extents blank blank' flush flush' : Bool) (from to : Place) (calls : List wire.Call) (ended : Bool) (seens : List (Seen Ticket)) → ended ≡ false → HasEnded ended false extents blank flush from to calls seens → HasEnded ended false extents blank' flush' from to calls seens
ended_wanting extents blank blank' flush flush' from to calls true seens not ends = absurd (false≢true (sym not))
ended_wanting extents blank blank' flush flush' from to calls false seens not ends = ends
