-- At no moment of a copy is more unanswered on a connection than its share: at first nothing is asked, and in a turn nothing is asked of the handles.
use Rattle.std.proofs.Common.{◌≡◌, ◌≢◌, ◌≤◌, ◌⊎◌, inl, inr, ℕ, Bool, true, false, not, ◌==◌, List, [], ◌++◌, Option, Some, None, slice_get, refl, ap, sym, subst, ◌∙◌, append_assoc, append-nil, arith}
use Rattle.lnbd_model.specs.declared.export.ExportInfo.{ExportInfo}
use Rattle.lnbd_model.specs.declared.target.Place.{Place}
use Rattle.lnbd_callbacks.specs.Calls.{Call}
use Rattle.lnbd_callbacks.specs.Steps.{OneByOne}
use Rattle.lnbd_link.specs.Call as wire
use Rattle.lnbd_link.specs.Numbers.{is_given}
use Rattle.lnbd_link.proofs.Openings.{is_given-append}
use Rattle.lnbd_asked.specs.Transcript.{Dealt, dealt_with}
use Rattle.lnbd_poll.specs.Alone.{calls_on}
use Rattle.lnbd_poll.specs.Held.{Held}
use Rattle.lnbd_poll.specs.Seen.{Seen}
use Rattle.lnbd_poll.specs.Turns.{Ending, Turns}
use Rattle.lnbd_plan.specs.declared.options.CopyOptions.{CopyOptions}
use Rattle.lnbd_board.specs.declared.ticket.Ticket.{Ticket}
use Rattle.lnbd_board.specs.Files as board
use Rattle.lnbd_course.specs.Between.{place_of}
use Rattle.lnbd_course.specs.Parts.{NothingWasAsked}
use Rattle.lnbd_course.specs.Spread.{FewOn, how_many}
use Rattle.lnbd_course.proofs.Cuts.{InFirst, InSecond, cut, front_off}
use Rattle.lnbd_course.proofs.Fronts.{IsFront, first_false, handle_few, links_few, others_none, over_none, turn_front}
use Rattle.lnbd_course.proofs.Quiet.{dealt_stays, nothing_stays}
use Rattle.lnbd_course.proofs.Unasked.{nothing_before}
use Rattle.lnbd_conduct.specs.declared.terms.Terms.{Terms}
use Rattle.lnbd_conduct.specs.Shares.{AreFewOnEach, IsAlwaysShared, IsShared, rounded_up}
use Rattle.lnbd_copy.specs.Copier.{IsOnItsWay}
use Rattle.lnbd_copy.specs.Copier as copier
use Rattle.lnbd_copy.specs.Job as work
use Rattle.lnbd_conduct.specs.Told.{AtSome, Told}
use Rattle.lnbd_conduct.specs.Terms.{IsLimited}
use Rattle.lnbd_conduct.specs.Settled.{AreSettledBy, Settled}
use Rattle.lnbd_copy.specs.Way.{IsOn, IsUnderWay, Way, connection_on, is_bound}
use Rattle.lnbd_conduct.specs.Sides.{connection_of, is_source}
use Rattle.lnbd_copy.proofs.AlikeLemmas.{alike_later}
use Rattle.lnbd_copy.proofs.CopierLemmas.{told_as}
use Rattle.lnbd_copy.proofs.EndLemmas.{past_copying}
use Rattle.lnbd_copy.proofs.FailLemmas.{all_stand}
use Rattle.lnbd_copy.proofs.IdleLemmas.{StaysIdly}
use Rattle.lnbd_copy.proofs.SettledLemmas.{settled_with}
use Rattle.lnbd_copy.proofs.ShareLemmas.{many_bound}
use Rattle.lnbd_copy.proofs.SpreadLemmas.{way_spread}

abbrev steps : board.Seen → List (Call Ticket) → board.Seen → Type 0
steps = OneByOne board.Files

pub some_longer : {Is : List wire.Call → Type 0} (calls more : List wire.Call) → AtSome Is calls → AtSome Is (calls ++ more)
some_longer calls more s = record { before = s.before; after = s.after ++ more; are = ap (λ (l : List wire.Call). l ++ more) s.are ∙ append_assoc s.before s.after more; is = s.is }

-- Where nothing was asked.

pub always_nothing : (options : CopyOptions) (from to : Place) (calls : List wire.Call) → NothingWasAsked calls → IsAlwaysShared options from to calls
always_nothing options from to calls nothing = record { each = λ front rest are. inl (nothing_before front rest (subst NothingWasAsked are nothing)) }

-- Calls that read and write no link, and make none.

shared_stays : (options : CopyOptions) (from to : Place) → StaysIdly (IsShared options from to)
shared_stays options from to calls more quiet none s = record {
  source = s.source;
  destination = s.destination;
  shown = some_longer calls more s.shown;
  shown' = some_longer calls more s.shown';
  none = s.none;
  is = record {
    terms = s.is.terms;
    settled = s.is.settled;
    limited = s.is.limited;
    few = record {
      source = λ link. subst (FewOn (rounded_up s.is.terms.limit s.is.terms.sides.source) link) (sym (dealt_stays calls more quiet none from)) (s.is.few.source link);
      destination = λ link. subst (FewOn (rounded_up s.is.terms.limit s.is.terms.sides.destination) link) (sym (dealt_stays calls more quiet none to)) (s.is.few.destination link);
    };
  };
  all = alike_later options.extents from to s.source s.destination calls more none s.all;
}

pub always_stays : (options : CopyOptions) (from to : Place) → StaysIdly (IsAlwaysShared options from to)
always_stays options from to calls more quiet none always = record { each = λ front rest are. go front rest (cut calls more front rest are) }
  where
    go : (front rest : List wire.Call) → InFirst calls front ⊎ InSecond calls more front rest → NothingWasAsked front ⊎ IsShared options from to front
    go front rest (inl i) = always.each front i.rest i.is
    go front rest (inr i) =
        let quiet' : (link : ℕ) → calls_on link i.more ≡ [] = λ link. front_off link i.more rest (sym (ap (calls_on link) i.is) ∙ quiet link) in
        let none' : (link : ℕ) → is_given link i.more ≡ false = λ link. first_false (is_given link i.more) (is_given link rest) (sym (is_given-append link i.more rest) ∙ sym (ap (is_given link) i.is) ∙ none link) in
        subst (λ (l : List wire.Call). NothingWasAsked l ⊎ IsShared options from to l) (sym i.front_is)
        (elim (always.each calls [] (sym (append-nil calls))) [
          | inl nothing ↦ inl (nothing_stays calls i.more quiet' nothing)
          | inr shared ↦ inr (shared_stays options from to calls i.more quiet' none' shared)
        ])

-- In a turn: on the links of a side no more than rows are bound to a connection of it, and on the others none.

more_on : (few most link : ℕ) (dealt : Dealt) → few ≤ most → FewOn few link dealt → FewOn most link dealt
more_on few most link dealt less f = record { list = f.list; few = (let l = f.few in omega (arith, l, less)); all = f.all }

none_less : (most : ℕ) → 0 ≤ most
none_less most = omega arith

module _ (way : Way) (now : board.Seen) (calls front : List wire.Call) (held : List (Held Ticket)) (on : IsOn way now calls held) (well : now.error ≡ None) (is_front : IsFront calls front on.seens) (two : way.from ≢ way.to) where
  module _ (source : Bool) (most : ℕ) (bound : (connection : ℕ) → how_many (λ row. connection_on source row == connection) now.rows ≤ most) where
    abbrev place : Place
    place = place_of way.from way.to source

    abbrev all : Dealt
    all = dealt_with (place_of way.from way.to source) (calls ++ front)

    one_few : (index : ℕ) (seen : Seen Ticket) → slice_get on.seens index ≡ Some seen → FewOn most seen.link all
    one_few index seen there = go (same_or (is_source way.sides index) source)
      where
        same_or : (b s : Bool) → (b ≡ s) ⊎ (b ≡ not s)
        same_or true true = inl refl
        same_or true false = inr refl
        same_or false true = inr refl
        same_or false false = inl refl

        go : (is_source way.sides index ≡ source) ⊎ (is_source way.sides index ≡ not source) → FewOn most seen.link all
        go (inl side) =
            more_on (how_many (is_bound way.sides index) now.rows) most seen.link all
            (subst (λ (s : Bool). how_many (λ row. connection_on s row == connection_of way.sides index) now.rows ≤ most) (sym side) (bound (connection_of way.sides index)))
            (handle_few way.from way.to way.size way.how on.has way.slices now calls front on.seens on.stands.between (all_stand held on.seens on.at) is_front place index seen (is_bound way.sides index) well there (on.bound.each well index seen there))
        go (inr side) =
            more_on 0 most seen.link all (none_less most)
            (others_none way.from way.to way.size way.how on.has way.slices now calls front on.seens on.stands.between (all_stand held on.seens on.at) is_front source seen.link two (on.sided index seen there ∙ side))

    side_few : (link : ℕ) → FewOn most link all
    side_few = links_few way.from way.to way.size way.how on.has way.slices now calls front on.seens on.stands.between (all_stand held on.seens on.at) is_front place most on.all one_few

  front_few : (reads changes : ℕ) → ((connection : ℕ) → how_many (λ row. row.source == connection) now.rows ≤ reads) → ((connection : ℕ) → how_many (λ row. row.destination == connection) now.rows ≤ changes) → AreFewOnEach reads changes way.from way.to (calls ++ front)
  front_few reads changes sources destinations = record { source = side_few true reads sources; destination = side_few false changes destinations }

over_few : (reads changes : ℕ) (parting : Bool) (way : Way) (now : board.Seen) (calls front : List wire.Call) (held : List (Held Ticket)) → (on : IsUnderWay parting way now calls held) → now.error ≡ None → IsFront calls front on.seens → now.rows ≡ [] → AreFewOnEach reads changes way.from way.to (calls ++ front)
over_few reads changes parting way now calls front held on well is_front over = record { source = on_each reads way.from; destination = on_each changes way.to }
  where
    on_each : (most : ℕ) (place : Place) (link : ℕ) → FewOn most link (dealt_with place (calls ++ front))
    on_each most place link =
        more_on 0 most link (dealt_with place (calls ++ front)) (none_less most)
        (over_none way.from way.to way.size way.how on.has way.slices now calls front on.seens on.stands.between (all_stand held on.seens on.at) is_front place link well over)

module _ (copy : copier.Seen) (start told : Option (List wire.Call)) (well : copy.board.error ≡ None) (on : IsOnItsWay start told copy) (two : copy.from ≢ copy.to) where
  abbrev terms : Terms
  terms = on.job.terms

  -- these are the terms, and such is the limit
  abbrev pub AreTerms : (source destination : ExportInfo) → Type 0
  AreTerms source destination = AreSettledBy copy.options source destination on.job.terms × IsLimited copy.options on.job.terms

  pub way_settled : Told start told (Settled copy.options.extents copy.from copy.to AreTerms)
  way_settled =
      settled_with (λ source destination calls. AreTerms source destination) copy.options copy.from copy.to start told on.job.terms on.settled
      (told_as start told (λ calls is. (on.settled.first.settled, on.limited)) on.on)

  module _ (calls front : List wire.Call) (is : IsUnderWay (work.is_parting on.job.phase) on.way copy.board calls copy.held) (is_front : IsFront calls front is.seens) where
    apart : on.way.from ≢ on.way.to
    apart e = two (sym on.from ∙ e ∙ on.to)

    sources : (c : ℕ) → how_many (λ row. row.source == c) copy.board.rows ≤ rounded_up on.job.terms.limit on.job.terms.sides.source
    sources c =
        subst (λ (n : ℕ). n ≤ rounded_up on.job.terms.limit on.job.terms.sides.source) (sym (many_bound (λ row. row.source) c copy.board.rows)) (((way_spread copy start told on).spread on.job on.there).source.few c)

    destinations : (c : ℕ) → how_many (λ row. row.destination == c) copy.board.rows ≤ rounded_up on.job.terms.limit on.job.terms.sides.destination
    destinations c =
        subst (λ (n : ℕ). n ≤ rounded_up on.job.terms.limit on.job.terms.sides.destination) (sym (many_bound (λ row. row.destination) c copy.board.rows)) (((way_spread copy start told on).spread on.job on.there).destination.few c)

    few_in_turn : AreFewOnEach (rounded_up on.job.terms.limit on.job.terms.sides.source) (rounded_up on.job.terms.limit on.job.terms.sides.destination) copy.from copy.to (calls ++ front)
    few_in_turn =
        subst (λ (t : Place). AreFewOnEach (rounded_up on.job.terms.limit on.job.terms.sides.source) (rounded_up on.job.terms.limit on.job.terms.sides.destination) copy.from t (calls ++ front)) on.to
        (subst (λ (f : Place). AreFewOnEach (rounded_up on.job.terms.limit on.job.terms.sides.source) (rounded_up on.job.terms.limit on.job.terms.sides.destination) f on.way.to (calls ++ front)) on.from
        (go (work.is_parting on.job.phase) refl is is_front))
      where
        go : (p : Bool) → work.is_parting on.job.phase ≡ p → (one : IsUnderWay p on.way copy.board calls copy.held) → IsFront calls front one.seens →
            AreFewOnEach (rounded_up on.job.terms.limit on.job.terms.sides.source) (rounded_up on.job.terms.limit on.job.terms.sides.destination) on.way.from on.way.to (calls ++ front)
        go true parts one f = over_few (rounded_up on.job.terms.limit on.job.terms.sides.source) (rounded_up on.job.terms.limit on.job.terms.sides.destination) true on.way copy.board calls front copy.held one well f (on.is.over (past_copying on.job.phase parts)).rows
        go false held one f = front_few on.way copy.board calls front copy.held one well f apart (rounded_up on.job.terms.limit on.job.terms.sides.source) (rounded_up on.job.terms.limit on.job.terms.sides.destination) sources destinations

    shared_in_turn : Settled copy.options.extents copy.from copy.to AreTerms calls → IsShared copy.options copy.from copy.to (calls ++ front)
    shared_in_turn s = record {
      source = s.source;
      destination = s.destination;
      shown = some_longer calls front s.shown;
      shown' = some_longer calls front s.shown';
      none = s.none;
      is = record { terms = on.job.terms; settled = s.is.0; limited = s.is.1; few = few_in_turn };
      all = alike_later copy.options.extents copy.from copy.to s.source s.destination calls front is_front.none s.all;
    }

  -- So it is after a turn, whole or short, where it was so before.
  pub always_turned : (calls part : List wire.Call) (now : board.Seen) (after : List (Seen Ticket)) (ending : Ending) → (is : IsUnderWay (work.is_parting on.job.phase) on.way copy.board calls copy.held) → Turns steps is.seens copy.board part after now ending →
      Settled copy.options.extents copy.from copy.to AreTerms calls → IsAlwaysShared copy.options copy.from copy.to calls → IsAlwaysShared copy.options copy.from copy.to (calls ++ part)
  always_turned calls part now after ending is turns settled always = record { each = λ front rest are. go front rest (cut calls part front rest are) }
    where
      go : (front rest : List wire.Call) → InFirst calls front ⊎ InSecond calls part front rest → NothingWasAsked front ⊎ IsShared copy.options copy.from copy.to front
      go front rest (inl i) = always.each front i.rest i.is
      go front rest (inr i) =
          subst (λ (l : List wire.Call). NothingWasAsked l ⊎ IsShared copy.options copy.from copy.to l) (sym i.front_is)
          (inr (shared_in_turn calls i.more is
          (turn_front on.way.from on.way.to on.way.size on.way.how is.has on.way.slices copy.board now calls part i.more rest is.seens after ending is.stands.between turns (all_stand copy.held is.seens is.at) i.is)
          settled))
