-- What a copy asked of both sides was asked once.
use Rattle.std.proofs.Common.{◌≡◌, ◌≢◌, ◌⊎◌, inl, inr, ℕ, ◌≤◌, Bool, true, false, List, [], ◌∷◌, ◌++◌, cond, length, refl, ap, sym, subst, ◌∙◌, arith, Option, Some}
use Rattle.std.proofs.lemmas.Bool.{cases_lt, false≢true}
use Rattle.lnbd_model.specs.declared.kind.Kind.{Kind}
use Rattle.lnbd_model.specs.declared.kind.Kind.TheVariants.{BlockStatus, Flush, Write, Zero}
use Rattle.lnbd_model.specs.declared.target.Place.{Place}
use Rattle.lnbd_model.specs.declared.target.Target.{Target}
use Rattle.lnbd_link.specs.Call.{Call}
use Rattle.lnbd_link.specs.Traffic.{target_of}
use Rattle.lnbd_history.specs.Commands.{Command}
use Rattle.lnbd_asked.specs.Honest.{covers}
use Rattle.lnbd_asked.specs.Link.{Nobody}
use Rattle.lnbd_asked.specs.Transcript.{Dealt, dealt_with}
use Rattle.lnbd_plan.specs.declared.cells.Cells.{Cells}
use Rattle.lnbd_plan.specs.declared.grid.Slice.{Slice}
use Rattle.lnbd_plan.specs.Laws.{IsPlannedOnce}
use Rattle.lnbd_board.specs.declared.how.How.{How}
use Rattle.lnbd_board.specs.declared.row.Row.{Row}
use Rattle.lnbd_board.specs.declared.ticket.Ticket.{Ticket}
use Rattle.lnbd_board.specs.declared.ticket.Ticket.TheVariants as ticket
use Rattle.lnbd_board.specs.Files as board
use Rattle.lnbd_board.specs.Pieces.{zero_flags}
use Rattle.lnbd_board.specs.Requests.{Request, Said, Each, IsDealt, IsIn, Under, reads, reads_over, over}
use Rattle.lnbd_board.specs.Rows.{Stands, AsksOfSource, AsksOfDestination, IsChange, max_extents}
use Rattle.lnbd_board.proofs.Lists.{in_each}
use Rattle.lnbd_board.proofs.Once.{once}
use Rattle.lnbd_tracks.specs.Laws.{IsDone, moves_bytes}
use Rattle.lnbd_tracks.specs.Tracks.{Histories}
use Rattle.lnbd_tracks.proofs.Finished.{finished_are_done}
use Rattle.lnbd_course.specs.Asks.{AreAskedOnce, AreDone, AreOwnLinks, EachAsked, EndedAreDone, EndedAsksOnce, EndsBy, IsPlain, NoneMeet, is_look, is_store}
use Rattle.lnbd_course.specs.Between.{AreSettled, Between, BetweenOf, place_of}
use Rattle.lnbd_course.specs.Course.{Stood, beside, on_side}
use Rattle.lnbd_course.proofs.Ending.{destination_dealt, gone_out, out_in, source_dealt}
use Rattle.lnbd_course.proofs.Placed.{links_are_of_sides}
use Rattle.lnbd_course.proofs.Plain.{few_extents, no_zeroes, plain_look, plain_store}

-- each request that was asked is in the list
abbrev pub AreListed : List Request → Dealt → Type 0
AreListed asked dealt = (link cookie : ℕ) (command : Command Nobody) → dealt.asked link cookie ≡ Some command → Under link cookie command asked

-- Of a list, those requests that touch a position.

module _ (touches : Command Nobody → ℕ → Bool) (p : ℕ) where
  abbrev pub touching : List Request → List Said
  touching [] = []
  touching (r ∷ rs) = cond (touches r.said.command p) (r.said ∷ touching rs) (touching rs)

  -- one of them is among them
  some : (r : Request) (xs : List Request) → IsIn r xs → touches r.said.command p ≡ true → 1 ≤ length (touching xs)
  some r [] there here = absurd there
  some r (x ∷ xs) (inl same) here = subst (λ (b : Bool). 1 ≤ length (cond b (x.said ∷ touching xs) (touching xs))) (sym (ap (λ (y : Request). touches y.said.command p) same ∙ here)) (omega arith)
  some r (x ∷ xs) (inr there) here =
      let more = some r xs there here in
      elim (touches x.said.command p) as (λ b. 1 ≤ length (cond b (x.said ∷ touching xs) (touching xs))) [ true ↦ omega (arith, more) | false ↦ more ]

  -- two of them are one, where they are no two
  one : (r q : Request) (xs : List Request) → length (touching xs) ≤ 1 → IsIn r xs → IsIn q xs → touches r.said.command p ≡ true → touches q.said.command p ≡ true → q ≡ r
  one r q [] few there other here too = absurd there
  one r q (x ∷ xs) few there other here too = go (λ k a b. one r q xs k a b here too) (touches x.said.command p) refl few there other
    where
      go : (length (touching xs) ≤ 1 → IsIn r xs → IsIn q xs → q ≡ r) → (b : Bool) → touches x.said.command p ≡ b → length (cond b (x.said ∷ touching xs) (touching xs)) ≤ 1 → IsIn r (x ∷ xs) → IsIn q (x ∷ xs) → q ≡ r
      go rest true is k (inl same) (inl alike) = sym alike ∙ same
      go rest true is k (inl same) (inr alike) = let more = some q xs alike too in absurd (omega (arith, k, more))
      go rest true is k (inr same) alike = let more = some r xs same here in absurd (omega (arith, k, more))
      go rest false is k (inl same) alike = absurd (false≢true (sym is ∙ ap (λ (y : Request). touches y.said.command p) same ∙ here))
      go rest false is k (inr same) (inl alike) = absurd (false≢true (sym is ∙ ap (λ (y : Request). touches y.said.command p) alike ∙ too))
      go rest false is k (inr same) (inr alike) = rest k same alike

-- The requests of a list that were dealt.

pub none_meet : (touches : Command Nobody → ℕ → Bool) (asked : List Request) (dealt : Dealt) → AreListed asked dealt → ((p : ℕ) → length (touching touches p asked) ≤ 1) → NoneMeet touches dealt
none_meet touches asked dealt listed few link cookie link' cookie' p first other asks asks' here too =
    let a = listed link cookie first asks in
    let b = listed link' cookie' other asks' in
    let same = one touches p a.request b.request asked (few p) a.within b.within (ap (λ (c : Command Nobody). touches c p) a.asks ∙ here) (ap (λ (c : Command Nobody). touches c p) b.asks ∙ too) in
    (sym b.on ∙ ap (λ (r : Request). r.link) same ∙ a.on, sym b.by ∙ ap (λ (r : Request). r.cookie) same ∙ a.by)

pub each_asked : (P : Command Nobody → Type 0) (asked : List Request) (dealt : Dealt) → AreListed asked dealt → ((r : Request) → IsIn r asked → P r.said.command) → EachAsked P dealt
each_asked P asked dealt listed each link cookie command asks = let u = listed link cookie command asks in subst P u.asks (each u.request u.within)

ends_by : (touches : Command Nobody → ℕ → Bool) (end size : ℕ) (asked : List Request) → end ≤ size → ((p : ℕ) → end ≤ p → length (touching touches p asked) ≤ 0) → (r : Request) → IsIn r asked → EndsBy touches size r.said.command
ends_by touches end size asked fits none r there p here =
    elim (cases_lt p end) [
      | inl l ↦ omega (arith, l, fits)
      | inr l ↦ let k = none p l in let one = some touches p r asked there here in absurd (omega (arith, k, one))
    ]

-- Which kinds are asked.

look_of : (slices : List Slice) (by : Ticket) (command : Command Nobody) → AsksOfSource slices by command → is_look command.kind ≡ true
look_of slices (ticket.Slice n) command asks = ap is_look asks.0
look_of slices ticket.Extents command asks = ap is_look asks.0
look_of slices ticket.Flush command asks = absurd asks

change_store : (how : How) (command : Command Nobody) → IsChange how command → is_store command.kind ≡ true
change_store how command (inl is) = ap is_store is.0
change_store how command (inr is) = ap is_store is.0

store_of : (how : How) (slices : List Slice) (by : Ticket) (command : Command Nobody) → AsksOfDestination how slices by command → is_store command.kind ≡ true
store_of how slices (ticket.Slice n) command asks = change_store how command asks.0
store_of how slices ticket.Extents command asks = absurd asks
store_of how slices ticket.Flush command asks = ap is_store asks.0

-- Which flags a change to zeros has.

no_zero : (kind : Kind) → kind ≡ Write → kind ≡ Zero → ⊥
no_zero kind one other = let e = sym one ∙ other in absurd (cc e)

change_flags : (how : How) (command : Command Nobody) → IsChange how command → command.kind ≡ Zero → command.flags ≡ zero_flags how.allocated
change_flags how command (inl is) zeroes = absurd (no_zero command.kind is.0 zeroes)
change_flags how command (inr is) zeroes = is.1

no_flush : (kind : Kind) → kind ≡ Flush → kind ≡ Zero → ⊥
no_flush kind one other = let e = sym one ∙ other in absurd (cc e)

flags_of : (how : How) (slices : List Slice) (by : Ticket) (command : Command Nobody) → AsksOfDestination how slices by command → command.kind ≡ Zero → command.flags ≡ zero_flags how.allocated
flags_of how slices (ticket.Slice n) command asks zeroes = change_flags how command asks.0 zeroes
flags_of how slices ticket.Extents command asks zeroes = absurd asks
flags_of how slices ticket.Flush command asks zeroes = absurd (no_flush command.kind asks.0 zeroes)

-- The same lists as the board's.

reads_same : (p : ℕ) (xs : List Request) → touching reads p xs ≡ reads_over p xs
reads_same p [] = refl
reads_same p (x ∷ xs) = ap (λ (l : List Said). cond (reads x.said.command p) (x.said ∷ l) l) (reads_same p xs)

over_same : (p : ℕ) (xs : List Request) → touching covers p xs ≡ over p xs
over_same p [] = refl
over_same p (x ∷ xs) = ap (λ (l : List Said). cond (covers x.said.command p) (x.said ∷ l) l) (over_same p xs)

at_most : (n : ℕ) (said other : List Said) → other ≡ said → length said ≤ n → length other ≤ n
at_most n said other same few = subst (λ (l : List Said). length l ≤ n) (sym same) few

is_none : (said : List Said) → said ≡ [] → length said ≤ 0
is_none said none = subst (λ (l : List Said). length l ≤ 0) (sym none) (omega arith)

pub asked_once : (how : How) (cells : Cells) (told : ℕ → Bool) (end size : ℕ) (slices rest : List Slice) (rows : List (ℕ × Row)) (source destination : List Request) (dealt dealt' : Dealt) →
    Stands how slices rows source destination → ((p : ℕ) → IsPlannedOnce cells told 0 end p (slices ++ rest)) → end ≤ size → AreListed source dealt → AreListed destination dealt' → AreAskedOnce how.allocated how.skip size dealt dealt'
asked_once how cells told end size slices rest rows source destination dealt dealt' stands planned fits listed listed' =
    let law = once how cells told end slices rest rows source destination stands planned in
    record {
      looks = each_asked (λ (c : Command Nobody). is_look c.kind ≡ true) source dealt listed
          (λ r there. look_of slices r.ticket r.said.command (in_each (λ (x : Request). AsksOfSource slices x.ticket x.said.command) r source there stands.reads));
      stores = each_asked (λ (c : Command Nobody). is_store c.kind ≡ true) destination dealt' listed'
          (λ r there. store_of how slices r.ticket r.said.command (in_each (λ (x : Request). AsksOfDestination how slices x.ticket x.said.command) r destination there stands.changes));
      reads_once = none_meet reads source dealt listed (λ p. at_most 1 (reads_over p source) (touching reads p source) (reads_same p source) (law.0.reads p));
      changes_once = none_meet covers destination dealt' listed' (λ p. at_most 1 (over p destination) (touching covers p destination) (over_same p destination) (law.0.changes p));
      reads_within = each_asked (EndsBy reads size) source dealt listed
          (ends_by reads end size source fits (λ p l. at_most 0 (reads_over p source) (touching reads p source) (reads_same p source) (is_none (reads_over p source) (law.1.reads p l))));
      changes_within = each_asked (EndsBy covers size) destination dealt' listed'
          (ends_by covers end size destination fits (λ p l. at_most 0 (over p destination) (touching covers p destination) (over_same p destination) (is_none (over p destination) (law.1.changes p l))));
      holes = each_asked (λ (c : Command Nobody). c.kind ≡ Zero → c.flags ≡ zero_flags how.allocated) destination dealt' listed'
          (λ r there. flags_of how slices r.ticket r.said.command (in_each (λ (x : Request). AsksOfDestination how slices x.ticket x.said.command) r destination there stands.changes));
      looks_plain = each_asked IsPlain source dealt listed
          (λ r there other. plain_look slices r.ticket r.said.command (in_each (λ (x : Request). AsksOfSource slices x.ticket x.said.command) r source there stands.reads));
      stores_plain = each_asked IsPlain destination dealt' listed'
          (λ r there. plain_store how slices r.ticket r.said.command (in_each (λ (x : Request). AsksOfDestination how slices x.ticket x.said.command) r destination there stands.changes));
      skips = λ skip. each_asked (λ (c : Command Nobody). c.kind ≢ Zero) destination dealt' listed'
          (λ r there. no_zeroes how slices r.ticket r.said.command skip (in_each (λ (x : Request). AsksOfDestination how slices x.ticket x.said.command) r destination there stands.changes));
      extents = each_asked (λ (c : Command Nobody). c.kind ≡ BlockStatus → c.length ≤ max_extents) source dealt listed
          (λ r there. few_extents slices r.ticket r.said.command (in_each (λ (x : Request). AsksOfSource slices x.ticket x.said.command) r source there stands.reads));
    }

-- What went out of a list is in it.
pub listed : (histories : Histories) (asked : List Request) (dealt : Dealt) → IsDealt (gone_out histories asked) dealt → AreListed asked dealt
listed histories asked dealt d link cookie command asks =
    let u = d.only link cookie command asks in
    record { request = u.request; within = (out_in histories u.request asked u.within).0; on = u.on; by = u.by; asks = u.asks }

-- Links.

pub placed_links : (Facts : board.Seen → Histories → Type 0) (Sizes : List Call → Histories → Type 0) (from to : Place) (has : ℕ → Bool) (now : board.Seen) (calls : List Call) →
    BetweenOf Facts Sizes from to has now calls [] → AreOwnLinks from to calls
placed_links Facts Sizes from to has now calls b = record {
  connected = λ link given. side (has link) (target_of link calls) (b.placed.address link given);
  used = λ link new. (b.course.unused link new).quiet;
}
  where
    side : (source : Bool) (target : Option Target) → target ≡ Some (place_of from to source).to → (target ≡ Some from.to) ⊎ (target ≡ Some to.to)
    side true target is = inl is
    side false target is = inr is

pub own_links : (from to : Place) (size : Option ℕ) (how : How) (has : ℕ → Bool) (slices : List Slice) (now : board.Seen) (calls : List Call) → Between from to size how has slices now calls [] →
    AreOwnLinks from to calls
own_links from to size how has slices now calls b = placed_links (Stood how has slices) (λ calls histories. AreSettled size calls has histories) from to has now calls b

pub ended_asks_once : EndedAsksOnce
ended_asks_once from to size how has slices rest now calls cells told end b well planned fits two =
    let law = links_are_of_sides from to size how has slices now calls b two in
    record {
      links = own_links from to (Some size) how has slices now calls b;
      size = size;
      told = law.1.source;
      asked = asked_once how cells told end size slices rest now.rows b.course.stood.source b.course.stood.destination (dealt_with from calls) (dealt_with to calls) (b.course.stood.stands well) planned fits
          (listed (on_side has b.course.histories) b.course.stood.source (dealt_with from calls) (source_dealt from to how has slices now calls b.course law.0))
          (listed (on_side (beside has) b.course.histories) b.course.stood.destination (dealt_with to calls) (destination_dealt from to how has slices now calls b.course law.0));
    }

-- Where each request of a list that moves bytes is done, so is what was dealt of it.
pub dealt_done : (histories : Histories) (asked : List Request) (dealt : Dealt) → IsDealt (gone_out histories asked) dealt →
    Each (λ r. moves_bytes r.said.command.kind ≡ true → IsDone r.said.outcome) asked → AreDone dealt
dealt_done histories asked dealt d done link cookie command asks moves =
    let u = d.only link cookie command asks in
    let came = in_each (λ (r : Request). moves_bytes r.said.command.kind ≡ true → IsDone r.said.outcome) u.request asked (out_in histories u.request asked u.within).0 done (ap (λ (c : Command Nobody). moves_bytes c.kind) u.asks ∙ moves) in
    subst (λ (n : ℕ). IsDone (dealt.outcome n cookie)) u.on (subst (λ (n : ℕ). IsDone (dealt.outcome u.request.link n)) u.by (subst IsDone (sym (d.shown u.request u.within).1) came))

pub ended_are_done : EndedAreDone
ended_are_done from to size how has slices now calls b over well two =
    let law = links_are_of_sides from to size how has slices now calls b two in
    let stands = subst (λ (rows : List (ℕ × Row)). Stands how slices rows b.course.stood.source b.course.stood.destination) over (b.course.stood.stands well) in
    let done = finished_are_done how slices b.course.stood.source b.course.stood.destination stands in
    record {
      source = dealt_done (on_side has b.course.histories) b.course.stood.source (dealt_with from calls) (source_dealt from to how has slices now calls b.course law.0) done.0;
      destination = dealt_done (on_side (beside has) b.course.histories) b.course.stood.destination (dealt_with to calls) (destination_dealt from to how has slices now calls b.course law.0) done.1;
    }
