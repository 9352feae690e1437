-- Where no handle is held any more, each link is of its side's export, and both sides told their sizes.
use Rattle.std.proofs.Common.{◌≡◌, ◌≢◌, ℕ, zero, suc, ◌≤◌, Bool, true, false, ◌&&◌, List, [], Option, Some, None, refl, ap, sym, subst, ◌∙◌, arith, nat_le}
use Rattle.std.proofs.lemmas.Bool.{leb-true}
use Rattle.lnbd_model.specs.declared.target.Place.{Place}
use Rattle.lnbd_model.specs.declared.target.Target.{Target}
use Rattle.lnbd_link.specs.Call as wire
use Rattle.lnbd_link.specs.Numbers.{is_given}
use Rattle.lnbd_link.specs.Traffic.{target_of}
use Rattle.lnbd_history.specs.Commands as commands
use Rattle.lnbd_history.specs.Events.{History}
use Rattle.lnbd_history.specs.History.{request}
use Rattle.lnbd_history.proofs.Cookies.{request_zero}
use Rattle.lnbd_asked.specs.Driven.{written}
use Rattle.lnbd_asked.specs.Exports.{name_set}
use Rattle.lnbd_asked.specs.Transcript.{is_of, is_target, is_name, name_asked, on_link, only_if, size_told, dealt_with}
use Rattle.lnbd_poll.specs.Seen.{Seen}
use Rattle.lnbd_plan.specs.declared.grid.Slice.{Slice}
use Rattle.lnbd_board.specs.declared.how.How.{How}
use Rattle.lnbd_board.specs.declared.ticket.Ticket.{Ticket}
use Rattle.lnbd_board.specs.Files as board
use Rattle.lnbd_board.specs.Holds.{WasToldSize}
use Rattle.lnbd_tracks.specs.Tracks.{Histories}
use Rattle.lnbd_course.specs.Between.{AreSettled, Between, BetweenOf, SideWasTold, place_of}
use Rattle.lnbd_course.specs.Betweens.{LinksAreOfSides, EndedCarries}
use Rattle.lnbd_course.specs.Course.{AreOfSides, HaveSizes, Stood}
use Rattle.lnbd_course.proofs.Address.{target_is, is_there, name_is, is_called, target_none, both}
use Rattle.lnbd_course.proofs.Ending.{finished_carries}

none_some : {A : Type 0} (x : A) → None ≡ Some x → ⊥
none_some x e = cc

some_same : {A : Type 0} (x y : A) → Some x ≡ Some y → x ≡ y
some_same x y e = cc

abbrev place : Target → List ℕ → Place
place to name = record { to = to; name = name }

pub place_same : (one other : Place) → one.to ≡ other.to → one.name ≡ other.name → one ≡ other
place_same one other e f = ap (λ t. place t one.name) e ∙ ap (λ n. place other.to n) f

-- a link that was connected was given
pub given_by_target : (link : ℕ) (calls : List wire.Call) (to : Target) → target_of link calls ≡ Some to → is_given link calls ≡ true
given_by_target link calls to e = go (is_given link calls) refl
  where
    go : (b : Bool) → is_given link calls ≡ b → is_given link calls ≡ true
    go true g = g
    go false g = absurd (none_some to (sym (target_none link calls g) ∙ e))

-- of the handles that there are
module _ (Facts : board.Seen → Histories → Type 0) (Sizes : List wire.Call → Histories → Type 0) (from to : Place) (has : ℕ → Bool) (now : board.Seen) (calls : List wire.Call)
    (seens : List (Seen Ticket)) (b : BetweenOf Facts Sizes from to has now calls seens) where
  -- a link that asks for its name is of its side's export
  pub is_of_its_side : (link : ℕ) → is_given link calls ≡ true → name_asked (on_link link calls).wishes ≡ Some (name_set (b.course.histories link)) →
      is_of (place_of from to (has link)) calls link ≡ true
  is_of_its_side link given asks =
      let mine = place_of from to (has link) in
      ap (λ t. is_target mine.to t && is_name mine.name (name_asked (on_link link calls).wishes)) (b.placed.address link given)
      ∙ ap (λ c. c && is_name mine.name (name_asked (on_link link calls).wishes)) (is_there mine.to)
      ∙ ap (is_name mine.name) (asks ∙ ap (λ n. Some n) (b.placed.name link given))
      ∙ is_called mine.name

  -- a link on which a command was issued was given
  pub was_given : (link cookie : ℕ) (asks : commands.Request Ticket) → request (b.course.histories link) cookie ≡ Some asks → is_given link calls ≡ true
  was_given link cookie asks e = go (is_given link calls) refl
    where
      go : (g : Bool) → is_given link calls ≡ g → is_given link calls ≡ true
      go true g = g
      go false g = absurd (none_some asks (sym (ap (λ (h : History Ticket). request h cookie) (b.course.unused link g).blank) ∙ e))

-- So it is of two exports.
module _ (from to : Place) (size : Option ℕ) (how : How) (has : ℕ → Bool) (slices : List Slice) (now : board.Seen) (calls : List wire.Call) (seens : List (Seen Ticket))
    (b : Between from to size how has slices now calls seens) where
  pub of_side : (link : ℕ) → is_given link calls ≡ true → name_asked (on_link link calls).wishes ≡ Some (name_set (b.course.histories link)) → is_of (place_of from to (has link)) calls link ≡ true
  of_side = is_of_its_side (Stood how has slices) (λ calls histories. AreSettled size calls has histories) from to has now calls seens b

  pub asked_given : (link cookie : ℕ) (asks : commands.Request Ticket) → request (b.course.histories link) cookie ≡ Some asks → is_given link calls ≡ true
  asked_given = was_given (Stood how has slices) (λ calls histories. AreSettled size calls has histories) from to has now calls seens b

-- If a command was wholly written, one was.
pub one_written : (history : History Ticket) (cookie : ℕ) (asks : commands.Request Ticket) → request history cookie ≡ Some asks → nat_le cookie (written history) ≡ true → 1 ≤ written history
one_written history zero asks e out = absurd (none_some asks (sym (request_zero history) ∙ e))
one_written history (suc n) asks e out = let l = leb-true (suc n) (written history) out in omega (arith, l)

module _ (Facts : board.Seen → Histories → Type 0) (Sizes : List wire.Call → Histories → Type 0) (from to : Place) (has : ℕ → Bool) (now : board.Seen) (calls : List wire.Call)
    (b : BetweenOf Facts Sizes from to has now calls []) where
  abbrev histories : Histories
  histories = b.course.histories

  abbrev mine : ℕ → Place
  mine link = place_of from to (has link)

  here : (link : ℕ) → is_given link calls ≡ true → name_asked (on_link link calls).wishes ≡ Some (name_set (histories link)) → is_of (mine link) calls link ≡ true
  here = is_of_its_side Facts Sizes from to has now calls [] b

  -- on which a command was wholly written
  pub side_asked : (link cookie : ℕ) (asks : commands.Request Ticket) → request (histories link) cookie ≡ Some asks → nat_le cookie (written (histories link)) ≡ true →
      is_of (mine link) calls link ≡ true
  side_asked link cookie asks e out = here link (was_given Facts Sizes from to has now calls [] b link cookie asks e) ((b.parted link tt).asked (one_written (histories link) cookie asks e out)).0

  -- and of no other
  only_side : (other : Place) (link : ℕ) → is_of other calls link ≡ true → mine link ≡ other
  only_side other link e =
      let c = both (is_target other.to (target_of link calls)) (is_name other.name (name_asked (on_link link calls).wishes)) e in
      let there = target_is other.to (target_of link calls) c.0 in
      let given = given_by_target link calls other.to there in
      let called = (b.parted link tt).name other.name (name_is other.name (name_asked (on_link link calls).wishes) c.1) in
      place_same (mine link) other (some_same (mine link).to other.to (sym (b.placed.address link given) ∙ there)) (sym (b.placed.name link given) ∙ sym called)

  are_of_sides : from ≢ to → AreOfSides from to calls has b.course.histories
  are_of_sides two = record {
    asked = side_asked;
    source = λ link e. source link (has link) refl (only_side from link e);
    destination = λ link e. destination link (has link) refl (only_side to link e);
  }
    where
      source : (link : ℕ) (s : Bool) → has link ≡ s → mine link ≡ from → has link ≡ true
      source link true is e = is
      source link false is e = absurd (two (sym e ∙ ap (place_of from to) is))

      destination : (link : ℕ) (s : Bool) → has link ≡ s → mine link ≡ to → has link ≡ false
      destination link false is e = is
      destination link true is e = absurd (two (sym (ap (place_of from to) is) ∙ e))

  pub size_of : (source : Bool) (told : ℕ) → SideWasTold source told calls has b.course.histories → WasToldSize (dealt_with (place_of from to source) calls) told
  size_of source told s =
      let d = b.parted s.link tt in
      let said = d.told told s.told in
      let is = here s.link s.given (d.size told said).0 in
      record {
        link = s.link;
        told = ap (λ (c : Bool). only_if c (size_told (on_link s.link calls))) (subst (λ (side : Bool). is_of (place_of from to side) calls s.link ≡ true) s.side is) ∙ said;
      }

-- Both sides told their sizes.
have_sizes : (from to : Place) (size : ℕ) (how : How) (has : ℕ → Bool) (slices : List Slice) (now : board.Seen) (calls : List wire.Call) → Between from to (Some size) how has slices now calls [] →
    HaveSizes from to calls size
have_sizes from to size how has slices now calls b = record {
  room = b.told.room;
  source = of_one true size b.told.source;
  destination = of_one false b.told.room b.told.destination;
  fits =
      b.told.fits;
}
  where
    of_one : (source : Bool) (told : ℕ) → SideWasTold source told calls has b.course.histories → WasToldSize (dealt_with (place_of from to source) calls) told
    of_one = size_of (Stood how has slices) (λ calls histories. AreSettled (Some size) calls has histories) from to has now calls b

sides_of : (from to : Place) (size : ℕ) (how : How) (has : ℕ → Bool) (slices : List Slice) (now : board.Seen) (calls : List wire.Call) (b : Between from to (Some size) how has slices now calls []) →
    from ≢ to → AreOfSides from to calls has b.course.histories
sides_of from to size how has slices now calls b two = are_of_sides (Stood how has slices) (λ calls histories. AreSettled (Some size) calls has histories) from to has now calls b two

pub links_are_of_sides : LinksAreOfSides
links_are_of_sides from to size how has slices now calls b two = (sides_of from to size how has slices now calls b two, have_sizes from to size how has slices now calls b)

pub ended_carries : EndedCarries
ended_carries from to size how has slices now calls cells windows b over well planned two = finished_carries from to how calls (record {
  has = has;
  slices = slices;
  now = now;
  cells = cells;
  windows = windows;
  size = size;
  course = b.course;
  over = over;
  well = well;
  sides = sides_of from to size how has slices now calls b two;
  planned = planned;
  sizes = have_sizes from to size how has slices now calls b;
})
