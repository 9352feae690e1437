-- A copy begins, and one handle more is held.
use Rattle.std.proofs.Common.{◌≡◌, ◌≢◌, ◌≤◌, ◌⊎◌, inl, inr, ℕ, zero, suc, ◌+◌, Bool, true, false, ◌||◌, if◌then◌else◌, arith, List, [], ◌∷◌, ◌++◌, length, Option, Some, None, slice_get, refl, ap, sym, subst, ◌∙◌}
use Rattle.std.proofs.lemmas.Bool.{eq-eqb, false≢true, ne_eqb}
use Rattle.lnbd_model.specs.declared.target.Place.{Place}
use Rattle.lnbd_records.specs.Limits.{max_text}
use Rattle.lnbd_history.specs.Events.{Context, Event, Extended, History, Name, Set, Start, Structured}
use Rattle.lnbd_link.specs.Call as wire
use Rattle.lnbd_link.specs.Numbers.{is_given}
use Rattle.lnbd_link.specs.Part.{Adds}
use Rattle.lnbd_link.proofs.Openings.{is_given-append}
use Rattle.lnbd_history.specs.History.{request}
use Rattle.lnbd_machine.specs.Machine.{Machine}
use Rattle.lnbd_standing.specs.Standing.{StandsFor}
use Rattle.lnbd_asked.specs.Driven.{Spells, is_inward}
use Rattle.lnbd_asked.specs.Exports.{name_set}
use Rattle.lnbd_poll.specs.Alone.{AreApart}
use Rattle.lnbd_poll.specs.Held.{Held, AreAt}
use Rattle.lnbd_poll.specs.Seen.{Seen}
use Rattle.lnbd_handle.specs.Histories.{max_unretired}
use Rattle.lnbd_drives.specs.Driving.{happened, sets_opt_mode, with_event}
use Rattle.lnbd_plan.specs.declared.grid.Slice.{Slice}
use Rattle.lnbd_board.specs.declared.how.How.{How}
use Rattle.lnbd_board.specs.declared.ticket.Ticket.{Ticket}
use Rattle.lnbd_board.specs.Files as board
use Rattle.lnbd_tracks.specs.Laws.{is_coming}
use Rattle.lnbd_tracks.specs.Tracks.{is_issue}
use Rattle.lnbd_course.specs.Course.{with_link}
use Rattle.lnbd_course.specs.Between.{AreSettings, Between, IsSetting}
use Rattle.lnbd_course.specs.Between as between
use Rattle.lnbd_course.specs.Counted.{HasNotCounted}
use Rattle.lnbd_course.specs.Told as course
use Rattle.lnbd_course.proofs.Opening.{opens_between}
use Rattle.lnbd_course.proofs.Telling.{opening_tells, others_tell}
use Rattle.lnbd_conduct.specs.declared.sides.Sides.{Sides}
use Rattle.lnbd_conduct.specs.Begun.{BeganAs, base_allocation, context_of, opened, with_context}
use Rattle.lnbd_copy.specs.Opening.{Dials, place_of}
use Rattle.lnbd_copy.specs.Way.{AreSided, HasRested, IsOn, Way, known_of}
use Rattle.lnbd_conduct.specs.Sides.{is_source}
use Rattle.lnbd_copy.proofs.LastLemmas.{lasts_adds}
use Rattle.lnbd_copy.proofs.HeldLemmas.{held_more}
use Rattle.lnbd_copy.proofs.BindingLemmas.{bound_more, bound_none}
use Rattle.lnbd_copy.proofs.BegunLemmas.{first_stays, went_none}
use Rattle.lnbd_copy.proofs.ConnectedLemmas.{connected_adds}
use Rattle.lnbd_copy.proofs.FirstLemmas.{more_knowing}
use Rattle.lnbd_copy.proofs.DrivenLemmas.{drive_dialed}
use Rattle.lnbd_copy.proofs.OrderLemmas.{ordered_dialed}
use Rattle.lnbd_copy.proofs.FlushedLemmas.{second_dialed}
use Rattle.lnbd_copy.proofs.QueriedLemmas.{queried_dialed}
use Rattle.lnbd_copy.proofs.UnendedLemmas.{ended_begins, ended_dialed, ended_wanting}
use Rattle.lnbd_copy.proofs.HeardLemmas.{hears_dialed, hears_on}
use Rattle.lnbd_copy.proofs.StepLemmas.{nothing_stands, settling_stands}
use Rattle.lnbd_copy.proofs.TurnLemmas.{at_count, rested_on, none_some, since_on, some_same}

-- Before any call a copy without handles, whose board is empty, is on its way.
pub nothing_is_on : (way : Way) (now : board.Seen) → way.size ≡ None → way.slices ≡ [] → way.asked ≡ None → ((p : ℕ) → way.zero p ≡ false) → now.rows ≡ [] → now.begun ≡ 0 → HasNotCounted now → way.rested ≡ None → ((grain p : ℕ) → way.heard grain p ≡ false) → way.ended ≡ false → IsOn way now [] []
nothing_is_on way now unsettled none unasked unknown empty new uncounted unrested unheard unended = record {
  has = λ link. false;
  seens = [];
  at = tt;
  sided = λ index seen is. absurd (none_some seen is);
  begun = ap length none ∙ sym new;
  stands = nothing_stands way (λ link. false) now unsettled none unasked unknown empty uncounted;
  rest = subst (λ (o : Option board.Seen). HasRested way.from way.to way.size o []) (sym unrested) tt;
  all = λ link apart. refl;
  hears = record { answered = λ well two grain p h. absurd (false≢true (sym (unheard grain p) ∙ h)); first = refl; begun = tt; passed = λ well two grain p h. absurd (false≢true (sym (unheard grain p) ∙ h)) };
  bound = bound_none way.sides now [] empty;
  drives = record { went = tt; left = λ link apart given. absurd (false≢true given); first = λ link is. absurd (none_some link is) };
  ends = ended_begins way.extents way.how.skip way.flush way.from way.to [] way.ended unended;
  order = refl;
  queried = tt;
  flushes = tt;
}

-- Another board, of a copy that writes otherwise, takes the place of one that is empty, before any slice is begun.
pub settled : (way : Way) (how : How) (now now' : board.Seen) (calls : List wire.Call) (held : List (Held Ticket)) → way.ended ≡ false → way.slices ≡ [] → way.asked ≡ None → now.rows ≡ [] → now.error ≡ None → now.flushing ≡ false → now'.rows ≡ [] → now'.begun ≡ 0 → HasNotCounted now'
    → IsOn way now calls held → IsOn (record way { how = how }) now' calls held
settled way how now now' calls held unended none unasked empty well unflushed empty' new uncounted on = record {
  has = on.has;
  seens = on.seens;
  at = on.at;
  sided = on.sided;
  begun = ap length none ∙ sym new;
  stands = settling_stands way on.has how now now' calls on.seens none unasked on.stands empty well unflushed empty' uncounted;
  rest = on.rest;
  all = on.all;
  hears = hears_on false way.extents way.from way.to way.heard now.error now'.error (λ none. well) calls on.seens on.seens (first_stays on.seens) on.hears;
  bound = bound_none way.sides now' on.seens empty';
  drives = on.drives;
  ends = ended_wanting way.extents way.how.skip how.skip way.flush way.flush way.from way.to calls way.ended on.seens unended on.ends;
  order = on.order;
  queried = on.queried;
  flushes = on.flushes;
}

-- The last of some handles.

last_there : (seens : List (Seen Ticket)) (seen : Seen Ticket) → slice_get (seens ++ seen ∷ []) (length seens) ≡ Some seen
last_there [] seen = refl
last_there (first ∷ others) seen = last_there others seen

last_event : (seens : List (Seen Ticket)) (seen : Seen Ticket) (event : Event Ticket) → with_event (length seens) event (seens ++ seen ∷ []) ≡ seens ++ happened event seen ∷ []
last_event [] seen event = refl
last_event (first ∷ others) seen event = ap (λ (l : List (Seen Ticket)). first ∷ l) (last_event others seen event)

-- This is one of some handles, or the last.
last_or : (seens : List (Seen Ticket)) (last : Seen Ticket) (index : ℕ) (seen : Seen Ticket) → slice_get (seens ++ last ∷ []) index ≡ Some seen → (slice_get seens index ≡ Some seen) ⊎ ((index ≡ length seens) × (seen ≡ last))
last_or [] last zero seen is = inr (refl, sym (some_same last seen is))
last_or [] last (suc index) seen is = absurd (none_some seen is)
last_or (first ∷ others) last zero seen is = inl is
last_or (first ∷ others) last (suc index) seen is = go (last_or others last index seen is)
  where
    go : (slice_get others index ≡ Some seen) ⊎ ((index ≡ length others) × (seen ≡ last)) → (slice_get others index ≡ Some seen) ⊎ ((suc index ≡ suc (length others)) × (seen ≡ last))
    go (inl there) = inl there
    go (inr here) = inr (ap suc here.0, here.1)

pub last_at : (held : List (Held Ticket)) (seens : List (Seen Ticket)) (link : ℕ) (handle : Machine Ticket) (history : History Ticket) → AreAt held seens → StandsFor max_unretired history handle
    → AreAt (held ++ record { link = link; handle = handle; inbox = [] } ∷ []) (seens ++ record { link = link; history = history; unread = [] } ∷ [])
last_at [] [] link handle history at stands = (record { link = refl; stands = stands; unread = refl }, tt)
last_at [] (seen ∷ all) link handle history at stands = absurd at
last_at (one ∷ others) [] link handle history at stands = absurd at
last_at (one ∷ others) (seen ∷ all) link handle history at stands = (at.0, last_at others all link handle history at.1 stands)

-- none of those apart from a link has it
not_apart : (link : ℕ) (seens : List (Seen Ticket)) (index : ℕ) (seen : Seen Ticket) → AreApart link seens → slice_get seens index ≡ Some seen → seen.link ≢ link
not_apart link [] index seen apart is = absurd (none_some seen is)
not_apart link (first ∷ others) zero seen apart is = subst (λ (s : Seen Ticket). s.link ≢ link) (some_same first seen is) apart.0
not_apart link (first ∷ others) (suc index) seen apart is = not_apart link others index seen apart.1 is

-- The sides with one link more.

link_same : (link other : ℕ) (source : Bool) (has : ℕ → Bool) → link ≡ other → with_link link source has other ≡ source
link_same link other source has same = ap (λ (b : Bool). if b then source else has other) (eq-eqb link other same)

link_other : (link other : ℕ) (source : Bool) (has : ℕ → Bool) → link ≢ other → with_link link source has other ≡ has other
link_other link other source has differ = ap (λ (b : Bool). if b then source else has other) (ne_eqb link other differ)

sided_more : (sides : Sides) (has : ℕ → Bool) (seens : List (Seen Ticket)) (last : Seen Ticket) → AreApart last.link seens → AreSided sides has seens → AreSided sides (with_link last.link (is_source sides (length seens)) has) (seens ++ last ∷ [])
sided_more sides has seens last apart sided = λ index seen is. go index seen (last_or seens last index seen is)
  where
    go : (index : ℕ) (seen : Seen Ticket) → (slice_get seens index ≡ Some seen) ⊎ ((index ≡ length seens) × (seen ≡ last)) → with_link last.link (is_source sides (length seens)) has seen.link ≡ is_source sides index
    go index seen (inl there) = link_other last.link seen.link (is_source sides (length seens)) has (λ e. not_apart last.link seens index seen apart there (sym e)) ∙ sided index seen there
    go index seen (inr here) = link_same last.link seen.link (is_source sides (length seens)) has (ap (λ (s : Seen Ticket). s.link) (sym here.1)) ∙ ap (is_source sides) (sym here.0)

-- How the last handle begins.

module _ (how : How) (has : ℕ → Bool) (slices : List Slice) (now : board.Seen) (calls : List wire.Call) (seens : List (Seen Ticket)) (asked : Option (ℕ × ℕ)) (zero : course.Known) where
  -- what was told as zero stays with a last handle of this history
  abbrev Ends : ℕ → History Ticket → Type 0
  Ends link history = course.ToldCourse how has slices now calls (seens ++ record { link = link; history = history; unread = [] } ∷ []) asked zero

  ends_more : (link : ℕ) (history : History Ticket) (event : Event Ticket) → IsSetting history event → Ends link history → Ends link (event ∷ history)
  ends_more link history event sets ends =
      let last : Seen Ticket = record { link = link; history = history; unread = [] } in
      subst (λ (l : List (Seen Ticket)). course.ToldCourse how has slices now calls l asked zero) (last_event seens last event)
      (others_tell how has slices now calls (seens ++ last ∷ []) asked zero (length seens) last event ends (last_there seens last) sets.inward sets.unasked sets.still sets.spelled sets.mode)

  ends_all : (link : ℕ) (history : History Ticket) → AreSettings history → Ends link [] → Ends link history
  ends_all link [] all ends = ends
  ends_all link (event ∷ before) all ends = ends_more link before event all.1 (ends_all link before all.0 ends)

-- The settings of a handle, and its start.

setting : (before : History Ticket) (event : Event Ticket) → is_inward event ≡ true → is_issue event ≡ false → is_coming event ≡ false → Spells before event → sets_opt_mode event ≡ false → IsSetting before event
setting before event inward other none spells off = record { inward = inward; unasked = other; still = none; spelled = spells; mode = off }

context_set : (extents : Bool) → AreSettings (with_context (context_of extents) (Set (Structured true) ∷ Set (Extended true) ∷ []))
context_set true = (
  ((tt, setting [] (Set (Extended true)) refl refl refl tt refl), setting (Set (Extended true) ∷ []) (Set (Structured true)) refl refl refl tt refl),
  setting (Set (Structured true) ∷ Set (Extended true) ∷ []) (Set (Context base_allocation)) refl refl refl (omega arith) refl,
)
context_set false = ((tt, setting [] (Set (Extended true)) refl refl refl tt refl), setting (Set (Extended true) ∷ []) (Set (Structured true)) refl refl refl tt refl)

pub opened_set : (name : List ℕ) (extents : Bool) → length name ≤ max_text → AreSettings (opened name extents)
opened_set name extents short =
    let before = with_context (context_of extents) (Set (Structured true) ∷ Set (Extended true) ∷ []) in
    ((context_set extents, setting before (Set (Name name)) refl refl refl short refl), setting (Set (Name name) ∷ before) Start refl refl refl tt refl)

pub opened_name : (name : List ℕ) (extents : Bool) → name_set (opened name extents) ≡ name
opened_name name true = refl
opened_name name false = refl

-- nothing was asked by then
opened_asks : (name : List ℕ) (extents : Bool) (cookie : ℕ) → request (opened name extents) cookie ≡ None
opened_asks name true cookie = refl
opened_asks name false cookie = refl

-- the place of a side, of a handle by its place among the handles
side_place : (way : Way) (n : ℕ) (place : Place) → place_of way n ≡ place → between.place_of way.from way.to (is_source way.sides n) ≡ place
side_place way n place is = is

-- With a handle more, on a link that was just made, a copy is on its way.
dialed : (way : Way) (now : board.Seen) (calls : List wire.Call) (held : List (Held Ticket)) (place : Place) (link : ℕ) (extents : Bool) (handle : Machine Ticket)
    → place_of way (length held) ≡ place → (length held ≡ 0 → way.extents ≡ extents) → (extents ≡ true → length held ≡ 0) → way.ended ≡ false → IsOn way now calls held → is_given link calls ≡ false → length place.name ≤ max_text → StandsFor max_unretired (opened place.name extents) handle
    → IsOn way now (calls ++ wire.Connect place.to (Some link) ∷ []) (held ++ record { link = link; handle = handle; inbox = [] } ∷ [])
dialed way now calls held place link extents handle there wants only unended on new short stands =
    let side = is_source way.sides (length on.seens) in
    let history = opened place.name extents in
    let last : Seen Ticket = record { link = link; history = history; unread = [] } in
    let at_place : between.place_of way.from way.to side ≡ place = side_place way (length on.seens) place (ap (λ (n : ℕ). place_of way n) (sym (at_count held on.seens on.at)) ∙ there) in
    let sets = opened_set place.name extents short in
    record {
      has = with_link link side on.has;
      seens = on.seens ++ last ∷ [];
      at = last_at held on.seens link handle history on.at stands;
      sided = sided_more way.sides on.has on.seens last (on.stands.told.course.unused link new).apart on.sided;
      begun = on.begun;
      stands = record {
        between = subst (λ (p : Place). Between way.from way.to way.size way.how (with_link link side on.has) way.slices now (calls ++ wire.Connect p.to (Some link) ∷ []) (on.seens ++ last ∷ [])) at_place
            (opens_between way.from way.to way.size way.how on.has way.slices now calls on.seens link side history on.stands.between new sets (opened_name place.name extents ∙ ap (λ (p : Place). p.name) (sym at_place)));
        told = ends_all way.how (with_link link side on.has) way.slices now (calls ++ wire.Connect place.to (Some link) ∷ []) on.seens way.asked (known_of way) link history sets
            (opening_tells way.how on.has way.slices now calls on.seens way.asked (known_of way) place.to link side on.stands.told new);
      };
      rest = rested_on way.from way.to way.size way.rested calls (wire.Connect place.to (Some link) ∷ []) on.rest;
      all = held_more calls place.to link on.seens last refl on.all;
      hears = hears_dialed way.extents way.from way.to way.heard now.error calls on.seens place.to last (λ none. began_first none (at_count held on.seens on.at)) on.hears;
      bound = bound_more way.sides now on.seens last (opened_asks place.name extents) (last_or on.seens last) on.bound;
      drives = drive_dialed way.extents way.from way.to on.has calls place.to link side on.seens place extents at_place (λ none. ap (is_source way.sides) none) (on.stands.told.course.unused link new).apart on.hears.first
          (λ none. wants (at_count held on.seens on.at ∙ none)) (λ asks. sym (at_count held on.seens on.at) ∙ only asks) (held_more calls place.to link on.seens last refl on.all) on.drives;
      ends = ended_dialed way.extents way.how.skip way.flush way.from way.to calls (wire.Connect place.to (Some link) ∷ []) way.ended on.seens link place.name extents unended on.ends;
      order = ordered_dialed (is_source way.sides) on.has (with_link link side on.has) calls place.to on.seens last on.order;
      queried = queried_dialed way.queries on.seens link place.name extents on.queried;
      flushes = second_dialed calls place.to on.seens link place.name extents on.flushes;
    }
  where
    began_first : length on.seens ≡ 0 → length held ≡ length on.seens → BeganAs (opened way.from.name way.extents) (opened place.name extents)
    began_first none count =
        let at : way.from ≡ place = ap (λ (n : ℕ). place_of way n) (sym (count ∙ none)) ∙ there in
        subst (λ (e : Bool). BeganAs (opened way.from.name e) (opened place.name extents)) (sym (wants (count ∙ none)))
        (subst (λ (p : Place). BeganAs (opened p.name extents) (opened place.name extents)) (sym at) (went_none (opened place.name extents)))

-- what is given by none of some calls is given by none of the last
pub last_free : (link : ℕ) (before calls : List wire.Call) → is_given link (before ++ calls) ≡ false → is_given link calls ≡ false
last_free link before calls free = second (is_given link before) (is_given link calls) (sym (is_given-append link before calls) ∙ free)
  where
    second : (a b : Bool) → (a || b) ≡ false → b ≡ false
    second true b e = absurd (false≢true (sym e))
    second false b e = e

pub count_more : (held : List (Held Ticket)) (one : Held Ticket) → length (held ++ one ∷ []) ≡ length held + 1
count_more [] one = refl
count_more (first ∷ others) one = let rest = count_more others one in omega (arith, rest)

pub dials : (a b c : Option (List wire.Call)) (place : Place) (now : board.Seen) (held held' : List (Held Ticket)) (link : ℕ) (extents : Bool) (handle : Machine Ticket)
    → Adds a b (wire.Connect place.to (Some link)) → ((calls : List wire.Call) → a ≡ Some calls → is_given link calls ≡ false) → c ≡ b → length place.name ≤ max_text → StandsFor max_unretired (opened place.name extents) handle
    → held' ≡ held ++ record { link = link; handle = handle; inbox = [] } ∷ [] → Dials place extents now held a held' c
dials a b c place now held held' link extents handle adds fresh told_is short stands held_is =
    subst (λ (t : Option (List wire.Call)). Dials place extents now held a held' t) (sym told_is) (subst (λ (l : List (Held Ticket)). Dials place extents now held a l b) (sym held_is) (record {
      stand = λ s. record { seens = s.seens ++ record { link = link; history = opened place.name extents; unread = [] } ∷ []; at = last_at held s.seens link handle (opened place.name extents) s.at stands };
      many = count_more held (record { link = link; handle = handle; inbox = [] });
      on = λ way start is wants only unended told. record {
        since = λ all told_all.
            let grown = adds all told_all in
            let since = told.since grown.0 grown.1 in
            let free = last_free link since.before since.calls (subst (λ (l : List wire.Call). is_given link l ≡ false) since.now (fresh grown.0 grown.1)) in
            since_on start grown.0 all (wire.Connect place.to (Some link) ∷ []) grown.2 since (dialed way now since.calls held place link extents handle is wants only unended since.is free short stands);
      };
      lasts = lasts_adds a b (wire.Connect place.to (Some link)) adds;
      know = λ source destination both.
          let last : Seen Ticket = record { link = link; history = opened place.name extents; unread = [] } in
          record { seens = both.seens ++ last ∷ []; at = last_at held both.seens link handle (opened place.name extents) both.at stands; first = more_knowing 0 source both.seens (last ∷ []) both.first; second = more_knowing 1 destination both.seens (last ∷ []) both.second };
      connected = connected_adds a b place.to link adds;
    }))
