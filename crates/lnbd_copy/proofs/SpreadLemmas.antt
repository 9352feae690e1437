-- The steps of a copy leave its slices that are begun and not over spread over its connections.
use Rattle.std.proofs.Common.{◌≡◌, ℕ, ◌-◌, ◌^◌, ◌<◌, List, [], ◌∷◌, ◌++◌, length, replicate, slice_index, slice_set, Option, Some, Result, Ok, Err, OnOk, refl, ap, sym, subst, ◌∙◌}
use Rattle.lnbd_keyed.specs.Keyed.{with_value, without}
use Rattle.lnbd_link.specs.Call as wire
use Rattle.lnbd_poll.specs.Held.{Held}
use Rattle.lnbd_board.specs.declared.ask.Ask.{Ask}
use Rattle.lnbd_board.specs.declared.ask.Change.{Change}
use Rattle.lnbd_board.specs.declared.how.How.{How}
use Rattle.lnbd_board.specs.declared.next.Next.{Next}
use Rattle.lnbd_board.specs.declared.next.Next.TheVariants as next
use Rattle.lnbd_board.specs.declared.row.Row.{Row}
use Rattle.lnbd_board.specs.declared.ticket.Ticket.{Ticket}
use Rattle.lnbd_board.specs.Board.{AsksOn, EndsRow, IsNext, begun_with, risen}
use Rattle.lnbd_board.specs.Bound.{IsFewest}
use Rattle.lnbd_board.specs.Files as board
use Rattle.lnbd_conduct.specs.declared.sides.Sides.{Sides}
use Rattle.lnbd_conduct.specs.declared.terms.Terms.{Terms}
use Rattle.lnbd_conduct.specs.Slices.{cells_of}
use Rattle.lnbd_copy.specs.Bound.{Bound, on_destination, on_source}
use Rattle.lnbd_copy.specs.Copier.{IsOnItsWay, Seen}
use Rattle.lnbd_copy.specs.Dealt.{AreDealt, Deals, HasDealt, HasFit, HaveDealt, IsDealt, Spreads}
use Rattle.lnbd_copy.specs.Job as work
use Rattle.lnbd_copy.specs.Spread.{AreSpread, AreSpreadBy}
use Rattle.lnbd_copy.specs.UnderWay.{HasAsked, IsPast}
use Rattle.lnbd_copy.specs.Way.{Filed, Way}
use Rattle.lnbd_copy.specs.Windows.{AllFit}
use Rattle.lnbd_copy.proofs.BoundLemmas.{bound_with, bound_within, dealt_none, side_begins, side_ends}

module _ (limit : ℕ) (sides : Sides) where
  -- No slice is bound to any connection.
  pub deals_begin : (bound : Bound) → bound.source ≡ replicate sides.source 0 → bound.destination ≡ replicate sides.destination 0 → AreDealt limit sides bound []
  deals_begin bound source destination = record {
    source = subst (λ (c : List ℕ). IsDealt limit sides.source c []) (sym source) (dealt_none limit sides.source);
    destination = subst (λ (c : List ℕ). IsDealt limit sides.destination c []) (sym destination) (dealt_none limit sides.destination);
  }

  -- Rows are bound as they were.
  pub dealt_alike : (bound : Bound) (rows rows' : List (ℕ × Row)) → on_source rows' ≡ on_source rows → on_destination rows' ≡ on_destination rows → AreDealt limit sides bound rows → AreDealt limit sides bound rows'
  dealt_alike bound rows rows' source destination dealt = record {
    source = subst (λ (b : List ℕ). IsDealt limit sides.source bound.source b) (sym source) dealt.source;
    destination = subst (λ (b : List ℕ). IsDealt limit sides.destination bound.destination b) (sym destination) dealt.destination;
  }

  pub deals_none : (bound : Bound) (rows : List (ℕ × Row)) → Deals limit sides bound bound rows rows
  deals_none bound rows = record { on = λ dealt. dealt }

  pub deals_then : (sides' : Sides) (a b c : Bound) (x y z : List (ℕ × Row)) → sides' ≡ sides → Deals limit sides a b x y → Deals limit sides' b c y z → Deals limit sides a c x z
  deals_then sides' a b c x y z same first second =
      let second' : Deals limit sides b c y z = subst (λ (s : Sides). Deals limit s b c y z) same second in
      record { on = λ dealt. second'.on (first.on dealt) }

  -- Nothing came for a slice.
  pub deals_nothing : (how : How) (told : Next) (old new : board.Seen) (bound : Bound) → told ≡ next.Nothing → IsNext how told old new → Deals limit sides bound bound old.rows new.rows
  deals_nothing how told old new bound is nothing =
      let same = subst (λ (x : Next). IsNext how x old new) is nothing in
      subst (λ (s : board.Seen). Deals limit sides bound bound old.rows s.rows) (sym same.1) (deals_none bound old.rows)

  -- A slice goes on.
  pub deals_on : (how : How) (n destination : ℕ) (one : Change) (told : Next) (old mid new : board.Seen) (bound : Bound) → told ≡ next.Asks n destination one → IsNext how told old mid → new ≡ mid → Deals limit sides bound bound old.rows new.rows
  deals_on how n destination one told old mid new bound is goes same =
      let on : AsksOn how n destination one old mid = subst (λ (x : Next). IsNext how x old mid) is goes in
      let row : Row = record on.row { stage = on.stage } in
      let rows : new.rows ≡ with_value n row old.rows = ap (λ (s : board.Seen). s.rows) same ∙ ap (λ (s : board.Seen). s.rows) on.now in
      record {
        on = λ dealt. subst (λ (l : List (ℕ × Row)). AreDealt limit sides bound l) (sym rows)
            (dealt_alike bound old.rows (with_value n row old.rows) (bound_with (λ r. r.source) n on.row row old.rows refl on.held) (bound_with (λ r. r.destination) n on.row row old.rows refl on.held) dealt);
      }

  -- A slice is over.
  pub deals_over : (how : How) (n source destination : ℕ) (told : Next) (old new : board.Seen) (a b : Bound) → told ≡ next.Over n source destination → IsNext how told old new →
      b.source ≡ slice_set a.source source (slice_index a.source source - 1) → b.destination ≡ slice_set a.destination destination (slice_index a.destination destination - 1) → Deals limit sides a b old.rows new.rows
  deals_over how n source destination told old new a b is ends source_is destination_is =
      let over : EndsRow how n source destination old new = subst (λ (x : Next). IsNext how x old new) is ends in
      let rows : new.rows ≡ without n old.rows = ap (λ (s : board.Seen). s.rows) over.now in
      record {
        on = λ dealt.
            record {
              source = side_ends (λ r. r.source) limit sides.source n source over.row old.rows new.rows a.source b.source over.reads over.held rows source_is dealt.source;
              destination = side_ends (λ r. r.destination) limit sides.destination n destination over.row old.rows new.rows a.destination b.destination over.writes over.held rows destination_is dealt.destination;
            };
      }

  -- A slice begins.
  pub deals_begun : (row : Row) (one : Ask) (old mid new : board.Seen) (a b : Bound) → mid ≡ begun_with old row one → new ≡ mid → IsFewest a.source row.source → IsFewest a.destination row.destination →
      b.source ≡ slice_set a.source row.source (risen (slice_index a.source row.source) 1) → b.destination ≡ slice_set a.destination row.destination (risen (slice_index a.destination row.destination) 1) →
      limit < 2 ^ 64 → length old.rows < limit → Deals limit sides a b old.rows new.rows
  deals_begun row one old mid new a b is same source destination source_is destination_is fits less =
      let rows : new.rows ≡ old.rows ++ (old.begun, row) ∷ [] = ap (λ (s : board.Seen). s.rows) same ∙ ap (λ (s : board.Seen). s.rows) is in
      record {
        on = λ dealt. record {
          source = side_begins (λ r. r.source) limit sides.source old.begun row.source row old.rows new.rows a.source b.source refl rows source_is fits less source dealt.source;
          destination = side_begins (λ r. r.destination) limit sides.destination old.begun row.destination row old.rows new.rows a.destination b.destination refl rows destination_is fits less destination dealt.destination;
        };
      }

-- Jobs.

pub spreads_none : (j : work.Seen) (now : board.Seen) → Spreads j j now now
spreads_none j now = record { on = λ dealt. dealt; fit = λ fit. fit }

pub spreads_same : (j j' : work.Seen) (now now' : board.Seen) → j'.terms ≡ j.terms → j'.bound ≡ j.bound → now'.rows ≡ now.rows → Spreads j j' now now'
spreads_same j j' now now' terms bound rows = record {
  on = λ dealt. subst (λ (t : Terms). AreDealt t.limit t.sides j'.bound now'.rows) (sym terms)
      (subst (λ (b : Bound). AreDealt j.terms.limit j.terms.sides b now'.rows) (sym bound)
      (subst (λ (l : List (ℕ × Row)). AreDealt j.terms.limit j.terms.sides j.bound l) (sym rows) dealt));
  fit = λ fit. subst (λ (t : Terms). AllFit t.size (cells_of t) now'.rows) (sym terms) (subst (λ (l : List (ℕ × Row)). AllFit j.terms.size (cells_of j.terms) l) (sym rows) fit);
}

pub spreads_then : (a b c : work.Seen) (x y z : board.Seen) → Spreads a b x y → Spreads b c y z → Spreads a c x z
spreads_then a b c x y z first second = record { on = λ dealt. second.on (first.on dealt); fit = λ fit. second.fit (first.fit fit) }

-- Its bindings deal its slices.
pub spreads_deals : (j j' : work.Seen) (sides : Sides) (now now' : board.Seen) → j'.terms ≡ j.terms → sides ≡ j.terms.sides → Deals j.terms.limit sides j.bound j'.bound now.rows now'.rows → (HasFit j now → HasFit j now') → Spreads j j' now now'
spreads_deals j j' sides now now' terms same deals fits =
    let deals' : Deals j.terms.limit j.terms.sides j.bound j'.bound now.rows now'.rows = subst (λ (s : Sides). Deals j.terms.limit s j.bound j'.bound now.rows now'.rows) same deals in
    record {
      on = λ dealt. subst (λ (t : Terms). AreDealt t.limit t.sides j'.bound now'.rows) (sym terms) (deals'.on dealt);
      fit = λ fit. subst (λ (t : Terms). AllFit t.size (cells_of t) now'.rows) (sym terms) (fits fit);
    }

pub job_deals : (j : work.Seen) (sides : Sides) (now : board.Seen) → sides ≡ j.terms.sides → HasDealt j now → HaveDealt sides j.bound now.rows
job_deals j sides now same dealt = record { limit = j.terms.limit; dealt = subst (λ (s : Sides). AreDealt j.terms.limit s j.bound now.rows) (sym same) dealt }

-- Bindings go on.
pub deals_here : (sides sides' : Sides) (a b : Bound) (rows rows' : List (ℕ × Row)) → sides' ≡ sides → ((limit : ℕ) → Deals limit sides a b rows rows') → HaveDealt sides a rows → HaveDealt sides' b rows'
deals_here sides sides' a b rows rows' same deals have = record { limit = have.limit; dealt = subst (λ (s : Sides). AreDealt have.limit s b rows') (sym same) ((deals have.limit).on have.dealt) }

-- Each slice that goes on, or is over, is bound to connections that there are.
pub asked_within : (how : How) (sides : Sides) (bound : Bound) (n destination : ℕ) (one : Change) (told : Next) (old mid : board.Seen) → told ≡ next.Asks n destination one → IsNext how told old mid → HaveDealt sides bound old.rows → destination < sides.destination
asked_within how sides bound n destination one told old mid is goes have =
    let asks : AsksOn how n destination one old mid = subst (λ (x : Next). IsNext how x old mid) is goes in
    bound_within (λ r. r.destination) have.limit sides.destination n destination asks.row old.rows bound.destination asks.writes asks.held have.dealt.destination

pub over_within : (how : How) (sides : Sides) (bound : Bound) (n source destination : ℕ) (told : Next) (old mid : board.Seen) → told ≡ next.Over n source destination → IsNext how told old mid → HaveDealt sides bound old.rows → (source < sides.source) × (destination < sides.destination)
over_within how sides bound n source destination told old mid is goes have =
    let over : EndsRow how n source destination old mid = subst (λ (x : Next). IsNext how x old mid) is goes in (
      bound_within (λ r. r.source) have.limit sides.source n source over.row old.rows bound.source over.reads over.held have.dealt.source,
      bound_within (λ r. r.destination) have.limit sides.destination n destination over.row old.rows bound.destination over.writes over.held have.dealt.destination,
    )

-- Slices go on, extents are heard and asked for, and slices are begun.
pub spreads_all : (j0 j1 j2 j3 j4 : work.Seen) (b0 b1 b3 b4 : board.Seen) → Spreads j0 j1 b0 b1 → j2.terms ≡ j1.terms → j2.bound ≡ j1.bound → HasAsked j2 j3 b1 b3 → Spreads j3 j4 b3 b4 → Spreads j0 j4 b0 b4
spreads_all j0 j1 j2 j3 j4 b0 b1 b3 b4 gone terms bound asked begun =
    spreads_then j0 j1 j4 b0 b1 b4 gone
    (spreads_then j1 j2 j4 b1 b1 b4 (spreads_same j1 j2 b1 b1 terms bound refl)
    (spreads_then j2 j3 j4 b1 b3 b4 (spreads_same j2 j3 b1 b3 (ap (λ (j : work.Seen). j.terms) asked.job) (ap (λ (j : work.Seen). j.bound) asked.job) (ap (λ (s : board.Seen). s.rows) asked.board)) begun))

-- Then all are asked to part, or the destination is flushed.
pub spreads_past : (j0 j4 j5 : work.Seen) (b0 b4 b5 : board.Seen) → Spreads j0 j4 b0 b4 → j5.terms ≡ j4.terms → j5.bound ≡ j4.bound → IsPast j5 b4 b5 → Spreads j0 j5 b0 b5
spreads_past j0 j4 j5 b0 b4 b5 spreads terms bound past = spreads_then j0 j4 j5 b0 b4 b5 spreads (spreads_same j4 j5 b4 b5 terms bound past.rows)

-- What is counted changes nothing of how far a copy is.
bound_job : (j : work.Seen) (bound : Bound) (way : Way) (now : board.Seen) → work.IsJob j way now → work.IsJob (record j { bound = bound }) way now
bound_job j bound way now is = record {
  size = is.size;
  how = is.how;
  writes = is.writes;
  sides = is.sides;
  ends = is.ends;
  cells = is.cells;
  planned = is.planned;
  grain = is.grain;
  spared = is.spared;
  asked = is.asked;
  over = λ past. let over = is.over past in record { planned = over.planned; handed = over.handed; heard = over.heard; rows = over.rows };
  unwanted = is.unwanted;
  unflushed = is.unflushed;
  rests = is.rests;
  flushed = is.flushed;
  heard = is.heard;
  reached = is.reached;
  parts = is.parts;
  wants = is.wants;
  onward = record { few = is.onward.few; some = is.onward.some; inside = is.onward.inside };
}

pub acts_bound : (j j' : work.Seen) (bound : Bound) (now now' : board.Seen) (held held' : List (Held Ticket)) → work.Acts j j' now now' held held' → work.Acts j (record j' { bound = bound }) now now' held held'
acts_bound j j' bound now now' held held' acts = record {
  stand = acts.stand;
  on = λ way had. let on = acts.on way had in record { way' = on.way'; one = on.one; job' = bound_job j' bound on.way' now' on.job'; on = on.on };
}

-- three facts on success
pub on_ok_three : {X Y A B C D : Type 0} (r : Result X Y) → (A → B → C → D) → OnOk r A → OnOk r B → OnOk r C → OnOk r D
on_ok_three (Ok value) f a b c = f a b c
on_ok_three (Err fault) f a b c = tt

pub on_ok_six : {X Y A B C D E F G : Type 0} (r : Result X Y) → (A → B → C → D → E → F → G) → OnOk r A → OnOk r B → OnOk r C → OnOk r D → OnOk r E → OnOk r F → OnOk r G
on_ok_six (Ok value) f a b c d e g = f a b c d e g
on_ok_six (Err fault) f a b c d e g = tt

-- The copy goes on.

-- What callbacks are told leaves slices bound as they were.
pub dealt_filed : (j : work.Seen) (now now' : board.Seen) → Filed now now' → HasDealt j now → HasDealt j now'
dealt_filed j now now' filed dealt = dealt_alike j.terms.limit j.terms.sides j.bound now.rows now'.rows filed.reads filed.writes dealt

pub fit_filed : (j : work.Seen) (now now' : board.Seen) → Filed now now' → HasFit j now → HasFit j now'
fit_filed j now now' filed fit = filed.fit j.terms.size (cells_of j.terms) fit

-- A copy begins without slices.
pub begins_fit : (j : work.Seen) (now : board.Seen) → now.rows ≡ [] → HasFit j now
begins_fit j now empty = subst (λ (l : List (ℕ × Row)). AllFit j.terms.size (cells_of j.terms) l) (sym empty) tt

pub begins_dealt : (j : work.Seen) (terms : Terms) (now : board.Seen) → j.terms ≡ terms → now.rows ≡ [] → AreDealt terms.limit terms.sides j.bound [] → HasDealt j now
begins_dealt j terms now same empty dealt = subst (λ (t : Terms). AreDealt t.limit t.sides j.bound now.rows) (sym same) (subst (λ (l : List (ℕ × Row)). AreDealt terms.limit terms.sides j.bound l) (sym empty) dealt)

job_same : (one other : work.Seen) → Some one ≡ Some other → one ≡ other
job_same one other e = cc

dealt_spread : (j : work.Seen) (now : board.Seen) → HasDealt j now → AreSpreadBy j.terms now.rows
dealt_spread j now dealt = record { source = dealt.source.spread; destination = dealt.destination.spread }

pub way_spread : (copy : Seen) (start told : Option (List wire.Call)) → IsOnItsWay start told copy → AreSpread copy.job copy.board
way_spread copy start told on = record {
  spread = λ one is. subst (λ (j : work.Seen). AreSpreadBy j.terms copy.board.rows) (job_same on.job one (sym on.there ∙ is)) (dealt_spread on.job copy.board on.spread);
}
