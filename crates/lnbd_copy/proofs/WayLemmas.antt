-- What keeps a copy on its way: steps one after another, a board that goes on, and a command that a side is asked. What stands on the way is made anew
-- here alone.
use Rattle.std.proofs.Common.{◌≡◌, ℕ, zero, suc, ◌+◌, Bool, true, false, List, [], ◌∷◌, ◌++◌, length, Some, None, slice_get, refl, ap, sym, subst, ◌∙◌, length-append}
use Rattle.std.proofs.lemmas.List.{append-nil, append_assoc}
use Rattle.lnbd_model.specs.Kind.{is_status}
use Rattle.lnbd_link.specs.Call as wire
use Rattle.lnbd_history.specs.Commands.{Command}
use Rattle.lnbd_history.specs.Events.{Event, Issue}
use Rattle.lnbd_poll.specs.Held.{Held}
use Rattle.lnbd_poll.specs.Seen.{Seen}
use Rattle.lnbd_drives.specs.Driving.{happened, with_event}
use Rattle.lnbd_plan.specs.declared.grid.Slice.{Slice}
use Rattle.lnbd_keyed.specs.Keyed.{IsRising}
use Rattle.lnbd_board.specs.declared.how.How.{How}
use Rattle.lnbd_board.specs.declared.ticket.Ticket.{Ticket}
use Rattle.lnbd_board.specs.Asks as asks
use Rattle.lnbd_board.specs.Files as board
use Rattle.lnbd_board.specs.Requests.{Request}
use Rattle.lnbd_tracks.specs.Mapping.{ToldAlike, asks_extents}
use Rattle.lnbd_course.specs.Counted.{CountsSame, is_flush}
use Rattle.lnbd_course.specs.Laws.{AsksSource, AsksDestination}
use Rattle.lnbd_course.specs.Taken.{without_buffer}
use Rattle.lnbd_conduct.specs.declared.sides.Sides.{Sides}
use Rattle.lnbd_copy.specs.Asked.{WasAsked}
use Rattle.lnbd_copy.specs.Dealing.{IsAskedOf}
use Rattle.lnbd_copy.specs.Way.{AreBound, AreSided, IsOn, Keeps, Stands, Way, with_slices}
use Rattle.lnbd_conduct.specs.Sides.{connection_of, is_source}
use Rattle.lnbd_copy.proofs.HeldLemmas.{held_event}
use Rattle.lnbd_copy.proofs.BindingLemmas.{Binds, SameBindings, asks_bound, rows_bound}
use Rattle.lnbd_copy.proofs.BegunLemmas.{event_first, first_stays}
use Rattle.lnbd_copy.proofs.DrivenLemmas.{drive_event}
use Rattle.lnbd_copy.proofs.OrderLemmas.{ordered_event}
use Rattle.lnbd_copy.proofs.FlushedLemmas.{second_asked}
use Rattle.lnbd_copy.proofs.QueriedLemmas.{other_asks_none, queried_event}
use Rattle.lnbd_copy.proofs.UnendedLemmas.{ended_event}
use Rattle.lnbd_copy.proofs.HeardLemmas.{hears_on}
use Rattle.lnbd_copy.proofs.StepLemmas.{board_moves_stand, destination_asks_stand, source_asks_stand}

none_some : (seen : Seen Ticket) → None ≡ Some seen → ⊥
none_some seen e = cc

some_same : (one other : Seen Ticket) → Some one ≡ Some other → one ≡ other
some_same one other e = cc

-- What happens on a handle leaves it on its side.
sided_event : (side has : ℕ → Bool) (index at : ℕ) (event : Event Ticket) (seens : List (Seen Ticket)) (now : Seen Ticket) →
    ((i : ℕ) (seen : Seen Ticket) → slice_get seens i ≡ Some seen → has seen.link ≡ side i) → slice_get (with_event index event seens) at ≡ Some now → has now.link ≡ side at
sided_event side has index at event [] now sided there = absurd (none_some now there)
sided_event side has zero zero event (seen ∷ others) now sided there = subst (λ (s : Seen Ticket). has s.link ≡ side zero) (some_same (happened event seen) now there) (sided zero seen refl)
sided_event side has zero (suc at) event (seen ∷ others) now sided there = sided (suc at) now there
sided_event side has (suc index) zero event (seen ∷ others) now sided there = sided zero now there
sided_event side has (suc index) (suc at) event (seen ∷ others) now sided there = sided_event (λ i. side (suc i)) has index at event others now (λ i s t. sided (suc i) s t) there

pub sided_after : (sides : Sides) (has : ℕ → Bool) (index : ℕ) (event : Event Ticket) (seens : List (Seen Ticket)) → AreSided sides has seens → AreSided sides has (with_event index event seens)
sided_after sides has index event seens sided = λ at now there. sided_event (is_source sides) has index at event seens now sided there

-- A handle took a command, and the course goes on with it.
asked_on : (way : Way) (calls : List wire.Call) (more : List Slice) (now now' : board.Seen) (held held' : List (Held Ticket)) (index : ℕ) (command : Command Ticket) →
    (on : IsOn way now calls held) → is_status (without_buffer command).kind ≡ false → now'.begun ≡ now.begun + length more → WasAsked index command on.seens held' → (is_flush (without_buffer command).kind ≡ true → index ≡ 1) →
    Stands (with_slices more way) on.has now' calls (with_event index (Issue (without_buffer command)) on.seens) → (now'.error ≡ None → now.error ≡ None) → AreBound way.sides now' (with_event index (Issue (without_buffer command)) on.seens) → IsOn (with_slices more way) now' calls held'
asked_on way calls more now now' held held' index command on unqueried begun was second stands earlier bound = record {
  has = on.has;
  seens = with_event index (Issue (without_buffer command)) on.seens;
  at = was.at;
  sided = sided_after way.sides on.has index (Issue (without_buffer command)) on.seens on.sided;
  begun = length-append way.slices more ∙ ap (λ n. n + length more) on.begun ∙ sym begun;
  stands = stands;
  rest = on.rest;
  all = held_event calls index (Issue (without_buffer command)) on.seens on.all;
  hears = hears_on false way.extents way.from way.to way.heard now.error now'.error earlier calls on.seens (with_event index (Issue (without_buffer command)) on.seens) (event_first index (Issue (without_buffer command)) on.seens) on.hears;
  bound = bound;
  drives = drive_event way.extents way.from way.to on.has calls index (Issue (without_buffer command)) on.seens refl on.drives;
  ends = ended_event way.extents way.how.skip way.flush way.from way.to calls way.ended index (Issue (without_buffer command)) on.seens refl refl on.ends;
  order = ordered_event (is_source way.sides) on.has calls false index (Issue (without_buffer command)) on.seens on.order;
  queried = queried_event way.queries index (Issue (without_buffer command)) on.seens (other_asks_none (without_buffer command) unqueried) on.queried;
  flushes = second_asked calls index (without_buffer command) on.seens on.order second on.flushes;
}

-- The board went on, and nothing was asked.
moved_on : (way : Way) (calls : List wire.Call) (now now' : board.Seen) (held : List (Held Ticket)) →
    (on : IsOn way now calls held) → now'.begun ≡ now.begun → Stands way on.has now' calls on.seens → (now'.error ≡ None → now.error ≡ None) → AreBound way.sides now' on.seens → IsOn way now' calls held
moved_on way calls now now' held on begun stands earlier bound = record {
  has = on.has;
  seens = on.seens;
  at = on.at;
  sided = on.sided;
  begun = on.begun ∙ sym begun;
  stands = stands;
  rest = on.rest;
  all = on.all;
  hears = hears_on false way.extents way.from way.to way.heard now.error now'.error earlier calls on.seens on.seens (first_stays on.seens) on.hears;
  bound = bound;
  drives = on.drives;
  ends = on.ends;
  order = on.order;
  queried = on.queried;
  flushes = on.flushes;
}

-- as far as with no slices more
no_more : (way : Way) (calls : List wire.Call) (now : board.Seen) (held : List (Held Ticket)) → IsOn way now calls held → IsOn (with_slices [] way) now calls held
no_more way calls now held on = subst (λ (slices : List Slice). IsOn (record way { slices = slices }) now calls held) (sym (append-nil way.slices)) on

module _ (how : How) (sides : Sides) where
  pub keeps_none : (now : board.Seen) (held : List (Held Ticket)) → Keeps how sides [] now now held held
  keeps_none now held = record { stand = λ s. s; on = λ way calls h s on. no_more way calls now held on }

  pub keeps_then : (more further : List Slice) (a b c : board.Seen) (i j k : List (Held Ticket)) → Keeps how sides more a b i j → Keeps how sides further b c j k → Keeps how sides (more ++ further) a c i k
  keeps_then more further a b c i j k first second = record {
    stand = λ s. second.stand (first.stand s);
    on = λ way calls h s on.
        subst (λ (slices : List Slice). IsOn (record way { slices = slices }) c calls k) (append_assoc way.slices more further) (second.on (with_slices more way) calls h s (first.on way calls h s on));
  }

  pub board_keeps : (now now' : board.Seen) (held : List (Held Ticket)) → now'.begun ≡ now.begun → now'.error ≡ now.error → CountsSame now now' → ToldAlike now now' →
      ((source destination : List Request) → asks.Keeps how now.rows source destination now'.rows source destination) → (IsRising now.rows → SameBindings now.rows now'.rows) → Keeps how sides [] now now' held held
  board_keeps now now' held begun error same alike goes bindings = record {
    stand = λ s. s;
    on = λ way calls h s on.
        no_more way calls now' held (moved_on way calls now now' held on begun
        (board_moves_stand way on.has now now' calls on.seens on.stands (λ none. sym error ∙ none) same
        (subst (λ (w : How). (source destination : List Request) → asks.Keeps w now.rows source destination now'.rows source destination) (sym h) goes) alike) (λ none. sym error ∙ none) (rows_bound way on.has now calls on.seens on.stands now' (λ none. sym error ∙ none) bindings on.bound));
  }

  pub source_keeps : (more : List Slice) (command : Command Ticket) (now now' : board.Seen) (held held' : List (Held Ticket)) → now'.begun ≡ now.begun + length more → asks_extents (Issue (without_buffer command)) ≡ false → is_status (without_buffer command).kind ≡ false → ToldAlike now now' →
      ((slices : List Slice) → length slices ≡ now.begun → AsksSource how (without_buffer command) slices (slices ++ more) now now') → (connection : ℕ) → Binds true connection (without_buffer command).done now now' → (asked : IsAskedOf sides true connection command held held') → (is_flush (without_buffer command).kind ≡ true → asked.index ≡ 1) → Keeps how sides more now now' held held'
  source_keeps more command now now' held held' begun other unqueried alike says connection binds asked second = record {
    stand = λ s. record { seens = with_event asked.index (Issue (without_buffer command)) s.seens; at = (asked.asked.on s.seens s.at).at };
    on = λ way calls h s on.
        let was : WasAsked asked.index command on.seens held' = asked.asked.on on.seens on.at in
        let side : on.has was.seen.link ≡ true = on.sided asked.index was.seen was.there ∙ ap (λ (x : Sides). is_source x asked.index) s ∙ asked.side in
        asked_on way calls more now now' held held' asked.index command on unqueried begun was second
        (source_asks_stand way on.has (way.slices ++ more) now now' calls on.seens asked.index was.seen (without_buffer command) on.stands was.there side was.spells
        (subst (λ (w : How). AsksSource w (without_buffer command) way.slices (way.slices ++ more) now now') (sym h) (says way.slices on.begun)) other alike) (says way.slices on.begun).earlier
        (asks_bound way on.has now calls on.seens on.stands now' on.begun (says way.slices on.begun).earlier on.bound true connection asked.index (without_buffer command) (ap (λ (x : Sides). is_source x asked.index) s ∙ asked.side) (ap (λ (x : Sides). connection_of x asked.index) s ∙ asked.here) binds);
  }

  pub destination_keeps : (more : List Slice) (command : Command Ticket) (now now' : board.Seen) (held held' : List (Held Ticket)) → now'.begun ≡ now.begun + length more → asks_extents (Issue (without_buffer command)) ≡ false → is_status (without_buffer command).kind ≡ false → ToldAlike now now' →
      ((slices : List Slice) → length slices ≡ now.begun → AsksDestination how (without_buffer command) slices (slices ++ more) now now') → (connection : ℕ) → Binds false connection (without_buffer command).done now now' → (asked : IsAskedOf sides false connection command held held') → (is_flush (without_buffer command).kind ≡ true → asked.index ≡ 1) → Keeps how sides more now now' held held'
  destination_keeps more command now now' held held' begun other unqueried alike says connection binds asked second = record {
    stand = λ s. record { seens = with_event asked.index (Issue (without_buffer command)) s.seens; at = (asked.asked.on s.seens s.at).at };
    on = λ way calls h s on.
        let was : WasAsked asked.index command on.seens held' = asked.asked.on on.seens on.at in
        let side : on.has was.seen.link ≡ false = on.sided asked.index was.seen was.there ∙ ap (λ (x : Sides). is_source x asked.index) s ∙ asked.side in
        asked_on way calls more now now' held held' asked.index command on unqueried begun was second
        (destination_asks_stand way on.has (way.slices ++ more) now now' calls on.seens asked.index was.seen (without_buffer command) on.stands was.there side was.spells
        (subst (λ (w : How). AsksDestination w (without_buffer command) way.slices (way.slices ++ more) now now') (sym h) (says way.slices on.begun)) other alike) (says way.slices on.begun).earlier
        (asks_bound way on.has now calls on.seens on.stands now' on.begun (says way.slices on.begun).earlier on.bound false connection asked.index (without_buffer command) (ap (λ (x : Sides). is_source x asked.index) s ∙ asked.side) (ap (λ (x : Sides). connection_of x asked.index) s ∙ asked.here) binds);
  }
