-- On no link of a copy is more unanswered than slices are bound to a connection of its side.
use Rattle.std.proofs.Common.{◌≡◌, ◌≢◌, ◌≤◌, ◌⊎◌, inl, inr, ℕ, Bool, true, false, not, ◌==◌, List, [], Option, Some, None, slice_get, refl, sym, subst, ◌∙◌, arith}
use Rattle.lnbd_model.specs.declared.target.Place.{Place}
use Rattle.lnbd_link.specs.Call as wire
use Rattle.lnbd_asked.specs.Transcript.{dealt_with}
use Rattle.lnbd_poll.specs.Held.{Held}
use Rattle.lnbd_poll.specs.Seen.{Seen}
use Rattle.lnbd_board.specs.declared.ticket.Ticket.{Ticket}
use Rattle.lnbd_board.specs.Files as board
use Rattle.lnbd_course.specs.Between.{place_of}
use Rattle.lnbd_course.specs.Spread.{FewOn, how_many}
use Rattle.lnbd_course.proofs.Spread.{handles_have_few, links_have_few, others_have_none, over_has_none}
use Rattle.lnbd_conduct.specs.Shares.{AreFewOnEach}
use Rattle.lnbd_copy.specs.Copier.{IsOnItsWay}
use Rattle.lnbd_copy.specs.Copier as copier
use Rattle.lnbd_copy.specs.Job as work
use Rattle.lnbd_copy.specs.Way.{IsOn, IsUnderWay, Way, connection_on, is_bound}
use Rattle.lnbd_conduct.specs.Told.{Told}
use Rattle.lnbd_conduct.specs.Sides.{connection_of, is_source}
use Rattle.lnbd_copy.proofs.CopierLemmas.{told_as}
use Rattle.lnbd_copy.proofs.EndLemmas.{past_copying}
use Rattle.lnbd_copy.proofs.FailLemmas.{all_stand}

-- a greater bound
more_on : (few most link : ℕ) (place : Place) (calls : List wire.Call) → few ≤ most → FewOn few link (dealt_with place calls) → FewOn most link (dealt_with place calls)
more_on few most link place calls less f = record { list = f.list; few = (let l = f.few in omega (arith, l, less)); all = f.all }

none_less : (most : ℕ) → 0 ≤ most
none_less most = omega arith

-- While each connection that was made is held: on the links of a side no more than rows are bound to a connection of it, and on the others none.
module _ (way : Way) (now : board.Seen) (calls : List wire.Call) (held : List (Held Ticket)) (on : IsOn way now calls held) (well : now.error ≡ None) where
  -- On the link of each handle no more are unanswered of any export than slices are bound to the connection that it is of its side.
  pub handle_has_few : (place : Place) (index : ℕ) (seen : Seen Ticket) → slice_get on.seens index ≡ Some seen → FewOn (how_many (is_bound way.sides index) now.rows) seen.link (dealt_with place calls)
  handle_has_few place index seen there =
      handles_have_few way.from way.to way.size way.how on.has way.slices now calls on.seens place index seen (is_bound way.sides index) on.stands.between well (all_stand held on.seens on.at) there (on.bound.each well index seen there)

  module _ (two : way.from ≢ way.to) (source : Bool) (most : ℕ) (bound : (connection : ℕ) → how_many (λ row. connection_on source row == connection) now.rows ≤ most) where
    one_few : (index : ℕ) (seen : Seen Ticket) → slice_get on.seens index ≡ Some seen → FewOn most seen.link (dealt_with (place_of way.from way.to source) calls)
    one_few index seen there = go (same_or (is_source way.sides index) source)
      where
        mine : is_source way.sides index ≡ source → FewOn most seen.link (dealt_with (place_of way.from way.to source) calls)
        mine side =
            more_on (how_many (is_bound way.sides index) now.rows) most seen.link (place_of way.from way.to source) calls
            (subst (λ (s : Bool). how_many (λ row. connection_on s row == connection_of way.sides index) now.rows ≤ most) (sym side) (bound (connection_of way.sides index)))
            (handle_has_few (place_of way.from way.to source) index seen there)

        other : is_source way.sides index ≡ not source → FewOn most seen.link (dealt_with (place_of way.from way.to source) calls)
        other side =
            more_on 0 most seen.link (place_of way.from way.to source) calls (none_less most)
            (others_have_none way.from way.to way.size way.how on.has way.slices now calls on.seens source seen.link on.stands.between (all_stand held on.seens on.at) two (on.sided index seen there ∙ side))

        same_or : (b s : Bool) → (b ≡ s) ⊎ (b ≡ not s)
        same_or true true = inl refl
        same_or true false = inr refl
        same_or false true = inr refl
        same_or false false = inl refl

        go : (is_source way.sides index ≡ source) ⊎ (is_source way.sides index ≡ not source) → FewOn most seen.link (dealt_with (place_of way.from way.to source) calls)
        go (inl e) = mine e
        go (inr e) = other e

    side_few : (link : ℕ) → FewOn most link (dealt_with (place_of way.from way.to source) calls)
    side_few = links_have_few way.from way.to way.size way.how on.has way.slices now calls on.seens (place_of way.from way.to source) most on.stands.between (all_stand held on.seens on.at) on.all one_few

  pub on_has_few : (reads changes : ℕ) → way.from ≢ way.to → ((connection : ℕ) → how_many (λ row. row.source == connection) now.rows ≤ reads) → ((connection : ℕ) → how_many (λ row. row.destination == connection) now.rows ≤ changes) →
      AreFewOnEach reads changes way.from way.to calls
  on_has_few reads changes two sources destinations = record { source = side_few two true reads sources; destination = side_few two false changes destinations }

-- Where no slice is begun and not over there is none.
pub over_has_few : (reads changes : ℕ) (parting : Bool) (way : Way) (now : board.Seen) (calls : List wire.Call) (held : List (Held Ticket)) → IsUnderWay parting way now calls held → now.error ≡ None → now.rows ≡ [] → AreFewOnEach reads changes way.from way.to calls
over_has_few reads changes parting way now calls held on well over = record { source = on_each reads way.from; destination = on_each changes way.to }
  where
    on_each : (most : ℕ) (place : Place) (link : ℕ) → FewOn most link (dealt_with place calls)
    on_each most place link =
        more_on 0 most link place calls (none_less most)
        (over_has_none way.from way.to way.size way.how on.has way.slices now calls on.seens place link on.stands.between well (all_stand held on.seens on.at) over)

-- So it is with the calls of a copy since the start, where no error was told: of each side no more are unanswered on a link than slices are bound to a connection.
pub way_has_few : (copy : copier.Seen) (start told : Option (List wire.Call)) (reads changes : ℕ) → copy.board.error ≡ None → copy.from ≢ copy.to → ((connection : ℕ) → how_many (λ row. row.source == connection) copy.board.rows ≤ reads) →
    ((connection : ℕ) → how_many (λ row. row.destination == connection) copy.board.rows ≤ changes) → IsOnItsWay start told copy → Told start told (AreFewOnEach reads changes copy.from copy.to)
way_has_few copy start told reads changes well two sources destinations on =
    told_as start told
    (λ calls is.
    subst (λ (t : Place). AreFewOnEach reads changes copy.from t calls) on.to
    (subst (λ (f : Place). AreFewOnEach reads changes f on.way.to calls) on.from
    (go calls (work.is_parting on.job.phase) refl is)))
    on.on
  where
    apart : on.way.from ≢ on.way.to
    apart e = two (sym on.from ∙ e ∙ on.to)

    go : (calls : List wire.Call) (p : Bool) → work.is_parting on.job.phase ≡ p → IsUnderWay p on.way copy.board calls copy.held → AreFewOnEach reads changes on.way.from on.way.to calls
    go calls true parts is = over_has_few reads changes true on.way copy.board calls copy.held is well (on.is.over (past_copying on.job.phase parts)).rows
    go calls false held is = on_has_few on.way copy.board calls copy.held is well reads changes apart sources destinations
