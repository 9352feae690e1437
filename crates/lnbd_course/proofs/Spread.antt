-- On the link of a handle no more is unanswered than rows of the board count: each request that waits is of a slice with a row, and no two are of the same.
use Rattle.std.proofs.Common.{◌≡◌, ◌<◌, ◌≤◌, ◌⊎◌, inl, inr, ℕ, zero, suc, ◌+◌, Bool, true, false, not, ◌&&◌, ◌==◌, List, [], ◌∷◌, ◌++◌, length, cond, Contains, Option, Some, None, refl, ap, sym, subst, ◌∙◌, arith, nat_le, if◌then◌else◌}
use Rattle.std.proofs.lemmas.Bool.{false≢true}
use Rattle.std.specs.Option.{option_map}
use Rattle.lnbd_keyed.specs.Keyed.{value_at}
use Rattle.lnbd_model.specs.declared.target.Place.{Place}
use Rattle.lnbd_outcome.specs.Outcome.{Outcome, Unfinished, is_finished}
use Rattle.lnbd_link.specs.Call as wire
use Rattle.lnbd_history.specs.Commands.{Command, Request}
use Rattle.lnbd_history.specs.Events.{History}
use Rattle.lnbd_history.specs.History.{request}
use Rattle.lnbd_asked.specs.Driven.{outcome_after, written}
use Rattle.lnbd_asked.specs.Link.{Nobody}
use Rattle.lnbd_link.specs.Traffic.{target_of}
use Rattle.lnbd_asked.specs.Transcript.{answered, asked_on, bare, dealt_with, is_name, is_of, is_target, name_asked, on_link, only_if}
use Rattle.lnbd_poll.specs.Alone.{AreApart}
use Rattle.lnbd_poll.specs.Seen.{Seen}
use Rattle.lnbd_plan.specs.declared.grid.Slice.{Slice}
use Rattle.lnbd_board.specs.declared.how.How.{How}
use Rattle.lnbd_board.specs.declared.row.Row.{Row}
use Rattle.lnbd_board.specs.declared.row.Stage.{Stage}
use Rattle.lnbd_board.specs.declared.row.Stage.TheVariants.{Reading, Last, Came, Writing, Holding, Finished}
use Rattle.lnbd_board.specs.declared.ticket.Ticket.{Ticket}
use Rattle.lnbd_board.specs.declared.ticket.Ticket.TheVariants as ticket
use Rattle.lnbd_board.specs.Files as board
use Rattle.lnbd_board.specs.Pieces.{ask_of, spell, wrote}
use Rattle.lnbd_board.specs.Requests.{IsIn, Said, is_of as is_of_slice, is_waiting, own, said_unanswered, waiting}
use Rattle.lnbd_board.specs.Requests as sides
use Rattle.lnbd_board.specs.Rows.{AsksOfDestination, AsksOfSource, IsOver, IsRead, Stands, StandsAs, StandsAt, slice_at}
use Rattle.lnbd_board.proofs.Lists.{eq_true, in_each, is_same}
use Rattle.lnbd_board.proofs.Spelling.{wrote_idle}
use Rattle.lnbd_board.proofs.Steps.{known_idle}
use Rattle.lnbd_tracks.specs.Laws.{moves_bytes}
use Rattle.lnbd_tracks.specs.Tracks.{AllTrack, Histories, request_of, told_by}
use Rattle.lnbd_tracks.specs.Unanswered.{IsUnanswered}
use Rattle.lnbd_tracks.proofs.Dealt.{in_middle}
use Rattle.lnbd_tracks.proofs.Under.{IsFound, found}
use Rattle.lnbd_course.specs.Between.{Between, place_of}
use Rattle.lnbd_course.specs.Course.{beside, on_side}
use Rattle.lnbd_course.specs.Failed.{AllStand}
use Rattle.lnbd_course.specs.Spread.{AllCount, FewOn, HandlesHaveFew, LinksHaveFew, OthersHaveNone, OverHasNone, how_many}
use Rattle.lnbd_course.specs.UnderWay.{AllHeld}
use Rattle.lnbd_course.proofs.Address.{both, name_is, target_is}
use Rattle.lnbd_course.proofs.Failing.{IsThere, of, says, there_or_apart}
use Rattle.lnbd_course.proofs.Holding.{one_has}
use Rattle.lnbd_course.proofs.Placed.{given_by_target, place_same}
use Rattle.lnbd_course.proofs.Standing.{on_here}

none_some : {A : Type 0} (one : A) → None ≡ Some one → ⊥
none_some one e = cc

some_same : {A : Type 0} (one other : A) → Some one ≡ Some other → one ≡ other
some_same one other e = cc

-- Of what was said for one slice at most one waits on each side, and none where the slice has no row.

waiting-append : (xs ys : List Said) → said_unanswered (xs ++ ys) ≡ said_unanswered xs + said_unanswered ys
waiting-append [] ys = omega arith
waiting-append (x ∷ xs) ys = let e = waiting-append xs ys in omega (arith, e)

last_alone : (before changed : List Said) (command : Command Nobody) → said_unanswered before ≡ 0 → changed ≡ before ++ waiting command ∷ [] → said_unanswered changed ≤ 1
last_alone before changed command none is =
    let e : said_unanswered changed ≡ said_unanswered before + said_unanswered (waiting command ∷ []) = ap said_unanswered is ∙ waiting-append before (waiting command ∷ []) in
    omega (arith, e, none)

few_of : (n : ℕ) → n ≡ 0 → n ≤ 1
few_of n e = omega (arith, e)

one_read : (s : Slice) (outcome : Outcome) (read : List Said) → IsRead s outcome read → said_unanswered read ≤ 1
one_read s outcome read k = subst (λ (l : List Said). said_unanswered l ≤ 1) (sym k.one) (go (is_waiting (record { command = k.command; outcome = outcome })))
  where
    go : (b : Bool) → cond b 1 0 + 0 ≤ 1
    go true = omega arith
    go false = omega arith

module _ (how : How) (s : Slice) (read changed : List Said) where
  reads_alone : (stage : Stage) → StandsAt how s stage read changed → said_unanswered read ≤ 1
  reads_alone Reading k = one_read s Unfinished read k.asked
  reads_alone Last k = few_of (said_unanswered read) (known_idle s.zero s k.bytes read k.known.by)
  reads_alone (Came bytes) k = few_of (said_unanswered read) (known_idle s.zero s bytes read k.known.by)
  reads_alone (Writing bytes left) k = few_of (said_unanswered read) (known_idle s.zero s bytes read k.known.by)
  reads_alone (Holding bytes left) k = few_of (said_unanswered read) (known_idle s.zero s bytes read k.known.by)
  reads_alone (Finished bytes) k = few_of (said_unanswered read) (known_idle s.zero s k.bytes read k.known.by)

  changes_alone : (stage : Stage) → StandsAt how s stage read changed → said_unanswered changed ≤ 1
  changes_alone Reading k = few_of (said_unanswered changed) (ap said_unanswered k.unchanged)
  changes_alone Last k = last_alone (wrote how s.start k.did) changed (ask_of how (s.start + length (spell k.did)) k.now) (wrote_idle how s.start k.did) k.asked
  changes_alone (Came bytes) k = few_of (said_unanswered changed) (ap said_unanswered k.unchanged)
  changes_alone (Writing bytes left) k = last_alone (wrote how s.start k.did) changed (ask_of how (s.start + length (spell k.did)) k.now) (wrote_idle how s.start k.did) k.asked
  changes_alone (Holding bytes left) k = few_of (said_unanswered changed) (ap said_unanswered k.asked ∙ wrote_idle how s.start k.did)
  changes_alone (Finished bytes) k = few_of (said_unanswered changed) (ap said_unanswered k.asked ∙ wrote_idle how s.start k.did)

  none_read : IsOver how s read changed → said_unanswered read ≡ 0
  none_read k = known_idle s.zero s k.bytes read k.known.by

  none_changed : IsOver how s read changed → said_unanswered changed ≡ 0
  none_changed k = ap said_unanswered k.asked ∙ wrote_idle how s.start k.did

-- The one of a slice that waits.

-- it is of the slice of a number, and waits
abbrev pub waits_for : ℕ → sides.Request → Bool
waits_for n r = is_of_slice n r.ticket && is_waiting r.said

pub it_waits : (n : ℕ) (r : sides.Request) → r.ticket ≡ ticket.Slice n → r.said.outcome ≡ Unfinished → waits_for n r ≡ true
it_waits n r is waits = ap (λ (t : Ticket). is_of_slice n t && is_waiting r.said) is ∙ ap (λ (t : Bool). t && is_waiting r.said) (is_same n) ∙ ap (λ (o : Outcome). not (is_finished o)) waits

-- the cookie of the first such one
abbrev pub first_waits : ℕ → List sides.Request → ℕ
first_waits n [] = 0
first_waits n (r ∷ rs) = cond (waits_for n r) r.cookie (first_waits n rs)

own_count : (n : ℕ) (x : sides.Request) (xs : List sides.Request) → said_unanswered (own n (x ∷ xs)) ≡ cond (waits_for n x) 1 0 + said_unanswered (own n xs)
own_count n x xs = elim (is_of_slice n x.ticket) as (λ b. said_unanswered (cond b (x.said ∷ own n xs) (own n xs)) ≡ cond (b && is_waiting x.said) 1 0 + said_unanswered (own n xs)) [ true ↦ refl | false ↦ omega arith ]

abbrev one_if : Bool → ℕ
one_if b = cond b 1 0

counted_one : (b : Bool) → b ≡ true → one_if b ≡ 1
counted_one true e = refl
counted_one false e = absurd (false≢true e)

counted_none : (b : Bool) → b ≡ false → one_if b ≡ 0
counted_none true e = absurd (false≢true (sym e))
counted_none false e = refl

pub some_waits : (n : ℕ) (r : sides.Request) (xs : List sides.Request) → IsIn r xs → waits_for n r ≡ true → 0 < said_unanswered (own n xs)
some_waits n r [] there so = absurd there
some_waits n r (x ∷ xs) (inl same) so =
    let c = own_count n x xs in
    let one : one_if (waits_for n x) ≡ 1 = counted_one (waits_for n x) (ap (waits_for n) same ∙ so) in
    omega (arith, c, one)
some_waits n r (x ∷ xs) (inr there) so = let c = own_count n x xs in let rest = some_waits n r xs there so in omega (arith, c, rest)

pub is_first : (n : ℕ) (r : sides.Request) (xs : List sides.Request) → IsIn r xs → waits_for n r ≡ true → said_unanswered (own n xs) ≤ 1 → first_waits n xs ≡ r.cookie
is_first n r [] there so few = absurd there
is_first n r (x ∷ xs) (inl same) so few = ap (λ (b : Bool). cond b x.cookie (first_waits n xs)) (ap (waits_for n) same ∙ so) ∙ ap (λ (y : sides.Request). y.cookie) same
is_first n r (x ∷ xs) (inr there) so few = go (λ less. is_first n r xs there so less) (waits_for n x) refl
  where
    some : 0 < said_unanswered (own n xs)
    some = some_waits n r xs there so

    go : (said_unanswered (own n xs) ≤ 1 → first_waits n xs ≡ r.cookie) → (b : Bool) → waits_for n x ≡ b → first_waits n (x ∷ xs) ≡ r.cookie
    go rest true e = absurd (let one = counted_one (waits_for n x) e in let c = own_count n x xs in omega (arith, c, one, some, few))
    go rest false e =
        let none = counted_none (waits_for n x) e in
        ap (λ (b : Bool). cond b x.cookie (first_waits n xs)) e ∙ rest (let c = own_count n x xs in omega (arith, c, none, few))

pub in_found : (r : sides.Request) (xs : List sides.Request) → IsFound r xs → IsIn r xs
in_found r xs f = subst (λ (l : List sides.Request). IsIn r l) (sym f.is) (in_middle r f.front f.back)

-- The cookies of those of the slices whose rows count.
module _ (counts : Row → Bool) (requests : List sides.Request) where
  abbrev pub cookies : List (ℕ × Row) → List ℕ
  cookies [] = []
  cookies (x ∷ xs) = cond (counts x.1) (first_waits x.0 requests ∷ cookies xs) (cookies xs)

  pub many_cookies : (rows : List (ℕ × Row)) → length (cookies rows) ≡ how_many counts rows
  many_cookies [] = refl
  many_cookies (x ∷ xs) =
      let rest = many_cookies xs in
      elim (counts x.1) as (λ b. length (cond b (first_waits x.0 requests ∷ cookies xs) (cookies xs)) ≡ cond b 1 0 + how_many counts xs) [ true ↦ omega (arith, rest) | false ↦ omega (arith, rest) ]

  behind : (b : Bool) (first cookie : ℕ) (others : List ℕ) → Contains others cookie → Contains (cond b (first ∷ others) others) cookie
  behind true first cookie others there = (suc there.0, let less = there.1 in omega (arith, less), there.2)
  behind false first cookie others there = there

  pub has_cookie : (n : ℕ) (row : Row) (rows : List (ℕ × Row)) → value_at n rows ≡ Some row → counts row ≡ true → Contains (cookies rows) (first_waits n requests)
  has_cookie n row [] is so = absurd (none_some row is)
  has_cookie n row (x ∷ xs) is so = go (λ held. has_cookie n row xs held so) (n == x.0) refl is
    where
      here : counts x.1 ≡ true → x.0 ≡ n → Contains (cookies (x ∷ xs)) (first_waits n requests)
      here c same =
          subst (λ (m : ℕ). Contains (cookies (x ∷ xs)) (first_waits m requests)) same
          (subst (λ (b : Bool). Contains (cond b (first_waits x.0 requests ∷ cookies xs) (cookies xs)) (first_waits x.0 requests)) (sym c) (zero, omega arith, refl))

      go : (value_at n xs ≡ Some row → Contains (cookies xs) (first_waits n requests)) → (b : Bool) → (n == x.0) ≡ b → cond b (Some x.1) (value_at n xs) ≡ Some row → Contains (cookies (x ∷ xs)) (first_waits n requests)
      go rest true e held = here (ap counts (some_same x.1 row held) ∙ so) (sym (eq_true x.0 n e))
      go rest false e held = behind (counts x.1) (first_waits x.0 requests) (first_waits n requests) (cookies xs) (rest held)

-- Which requests are of slices: those that move bytes.

-- a ticket is that of a slice that was begun
pub record IsOfSlice (slices : List Slice) (by : Ticket) : Type 0 where
  pub n : ℕ
  pub is : by ≡ ticket.Slice n
  pub begun : n < length slices

pub source_slice : (slices : List Slice) (by : Ticket) (command : Command Nobody) → AsksOfSource slices by command → moves_bytes command.kind ≡ true → IsOfSlice slices by
source_slice slices (ticket.Slice n) command asks moves = record { n = n; is = refl; begun = asks.1.begun }
source_slice slices ticket.Extents command asks moves = absurd (false≢true (sym (ap moves_bytes asks.0) ∙ moves))
source_slice slices ticket.Flush command asks moves = absurd asks

pub destination_slice : (how : How) (slices : List Slice) (by : Ticket) (command : Command Nobody) → AsksOfDestination how slices by command → moves_bytes command.kind ≡ true → IsOfSlice slices by
destination_slice how slices (ticket.Slice n) command asks moves = record { n = n; is = refl; begun = asks.1.begun }
destination_slice how slices ticket.Extents command asks moves = absurd asks
destination_slice how slices ticket.Flush command asks moves = absurd (false≢true (sym (ap moves_bytes asks.0) ∙ moves))

-- a slice has this row, and one request of it waits
pub record WaitsAlone (rows : List (ℕ × Row)) (n : ℕ) (said : List Said) : Type 0 where
  pub row : Row
  pub held : value_at n rows ≡ Some row
  pub alone : said_unanswered said ≤ 1

no_less : (n : ℕ) → n ≡ 0 → 0 < n → ⊥
no_less n e less = absurd (omega (arith, e, less))

module _ (how : How) (s : Slice) (rows : List (ℕ × Row)) (n : ℕ) (read changed : List Said) where
  pub read_alone : (o : Option Row) → value_at n rows ≡ o → StandsAs how s o read changed → 0 < said_unanswered read → WaitsAlone rows n read
  read_alone None is k some = absurd (no_less (said_unanswered read) (none_read how s read changed k) some)
  read_alone (Some row) is k some = record { row = row; held = is; alone = reads_alone how s read changed row.stage k.1 }

  pub changed_alone : (o : Option Row) → value_at n rows ≡ o → StandsAs how s o read changed → 0 < said_unanswered changed → WaitsAlone rows n changed
  changed_alone None is k some = absurd (no_less (said_unanswered changed) (none_changed how s read changed k) some)
  changed_alone (Some row) is k some = record { row = row; held = is; alone = changes_alone how s read changed row.stage k.1 }

-- A link.

module _ (from to : Place) (size : Option ℕ) (how : How) (has : ℕ → Bool) (slices : List Slice) (now : board.Seen) (calls : List wire.Call) (seens : List (Seen Ticket)) (b : Between from to size how has slices now calls seens)
    (stands : AllStand seens) (place : Place) where
  abbrev histories : Histories
  histories = b.course.histories

  -- a command that waits, by the history of its link
  record Asks (link cookie : ℕ) (command : Command Nobody) : Type 0 where
    asks : Request Ticket
    is : request (histories link) cookie ≡ Some asks
    same : bare asks ≡ command
    waits : outcome_after (histories link) cookie ≡ Unfinished

  asks_it : (link cookie : ℕ) (u : IsUnanswered moves_bytes (dealt_with place calls) link cookie) → Asks link cookie u.command
  asks_it link cookie u = on (is_of place calls link) u.asked u.waits
    where
      some_is : (q : Request Ticket) → Some (bare q) ≡ Some u.command → bare q ≡ u.command
      some_is q e = cc

      asked_by : nat_le cookie (written (histories link)) ≡ true → answered (on_link link calls) cookie ≡ Unfinished → (o : Option (Request Ticket)) → request (histories link) cookie ≡ o → option_map bare o ≡ Some u.command → Asks link cookie u.command
      asked_by gone waits None is e = absurd (none_some u.command e)
      asked_by gone waits (Some q) is e = record { asks = q; is = is; same = some_is q e; waits = sym ((says from to size how has slices now calls seens b stands link).outcomes cookie gone) ∙ waits }

      whole : answered (on_link link calls) cookie ≡ Unfinished → (gone : Bool) → nat_le cookie (written (histories link)) ≡ gone → (if gone then option_map bare (request (histories link) cookie) else None) ≡ Some u.command → Asks link cookie u.command
      whole waits true gone e = asked_by gone waits (request (histories link) cookie) refl e
      whole waits false gone e = absurd (none_some u.command e)

      on : (t : Bool) → only_if t (asked_on (on_link link calls) cookie) ≡ Some u.command → (if t then answered (on_link link calls) cookie else Unfinished) ≡ Unfinished → Asks link cookie u.command
      on true e waits = whole waits (nat_le cookie (written (histories link))) refl (sym ((says from to size how has slices now calls seens b stands link).requests cookie) ∙ e)
      on false e waits = absurd (none_some u.command e)

  -- On a link of a side, whose requests are tracked.
  module _ (counts : Row → Bool) (link : ℕ) (all : AllCount counts now.rows (histories link)) (side : ℕ → Bool) (mine : side link ≡ true) (requests : List sides.Request) (tracks : AllTrack (on_side side histories) requests)
      (sliced : (r : sides.Request) → IsIn r requests → moves_bytes r.said.command.kind ≡ true → IsOfSlice slices r.ticket)
      (rowed : (n : ℕ) → n < length slices → 0 < said_unanswered (own n requests) → WaitsAlone now.rows n (own n requests)) where
    one_in : (r : sides.Request) (n : ℕ) → IsIn r requests → waits_for n r ≡ true → (w : WaitsAlone now.rows n (own n requests)) → counts w.row ≡ true → Contains (cookies counts requests now.rows) r.cookie
    one_in r n within so w c = subst (λ (k : ℕ). Contains (cookies counts requests now.rows) k) (is_first n r requests within so w.alone) (has_cookie counts requests n w.row now.rows w.held c)

    contains : (cookie : ℕ) (command : Command Nobody) → moves_bytes command.kind ≡ true → Asks link cookie command → Contains (cookies counts requests now.rows) cookie
    contains cookie command moves a =
        let r : sides.Request = sides.request link cookie a.asks.flight.done.callback (record { command = bare a.asks; outcome = outcome_after (histories link) cookie }) in
        let told : told_by link cookie (histories link) ≡ r ∷ [] = ap (λ (o : Option (Request Ticket)). request_of link cookie o (outcome_after (histories link) cookie)) a.is in
        let there = found link cookie r requests ((tracks link).each cookie ∙ ap (λ (h : History Ticket). told_by link cookie h) (on_here side histories link mine) ∙ told) in
        let within = in_found r requests there in
        let s = sliced r within (ap (λ (c : Command Nobody). moves_bytes c.kind) a.same ∙ moves) in
        let so : waits_for s.n r ≡ true = it_waits s.n r s.is a.waits in
        let w = rowed s.n s.begun (some_waits s.n r requests within so) in
        one_in r s.n within so w (all cookie s.n a.asks w.row a.is s.is w.held)

    few_on : FewOn (how_many counts now.rows) link (dealt_with place calls)
    few_on = record {
      list = cookies counts requests now.rows;
      few = (let e = many_cookies counts requests now.rows in omega (arith, e));
      all = λ cookie u. contains cookie u.command u.kind (asks_it link cookie u);
    }

  few : (well : now.error ≡ None) (counts : Row → Bool) (link : ℕ) → AllCount counts now.rows (histories link) → FewOn (how_many counts now.rows) link (dealt_with place calls)
  few well counts link all = go (has link) refl
    where
      k : Stands how slices now.rows b.course.stood.source b.course.stood.destination
      k = b.course.stood.stands well

      go : (t : Bool) → has link ≡ t → FewOn (how_many counts now.rows) link (dealt_with place calls)
      go true is =
          few_on counts link all has is b.course.stood.source b.course.stood.reads
          (λ r there moves. source_slice slices r.ticket r.said.command (in_each (λ (x : sides.Request). AsksOfSource slices x.ticket x.said.command) r b.course.stood.source there k.reads) moves)
          (λ n less some. read_alone how (slice_at slices n) now.rows n (own n b.course.stood.source) (own n b.course.stood.destination) (value_at n now.rows) refl (k.each n less) some)
      go false is =
          few_on counts link all (beside has) (ap not is) b.course.stood.destination b.course.stood.changes
          (λ r there moves. destination_slice how slices r.ticket r.said.command (in_each (λ (x : sides.Request). AsksOfDestination how slices x.ticket x.said.command) r b.course.stood.destination there k.changes) moves)
          (λ n less some. changed_alone how (slice_at slices n) now.rows n (own n b.course.stood.source) (own n b.course.stood.destination) (value_at n now.rows) refl (k.each n less) some)

  -- On a link without a handle nothing was asked.
  none_on : (all : AllHeld calls seens) (most link : ℕ) → AreApart link seens → FewOn most link (dealt_with place calls)
  none_on all most link apart = record {
    list = [];
    few = omega arith;
    all = λ cookie u.
        let a = asks_it link cookie u in
        absurd (none_some a.asks (sym (ap (λ (h : History Ticket). request h cookie) (b.course.unused link (all link apart)).blank) ∙ a.is));
  }

  -- A link is of the export of its side alone.
  one_side : (link : ℕ) → is_of place calls link ≡ true → place_of from to (has link) ≡ place
  one_side link e =
      let c = both (is_target place.to (target_of link calls)) (is_name place.name (name_asked (on_link link calls).wishes)) e in
      let there = target_is place.to (target_of link calls) c.0 in
      let given = given_by_target link calls place.to there in
      let called = (of from to size how has slices now calls seens b stands link).name place.name (name_is place.name (name_asked (on_link link calls).wishes) c.1) in
      place_same (place_of from to (has link)) place (some_same (place_of from to (has link)).to place.to (sym (b.placed.address link given) ∙ there)) (sym (b.placed.name link given) ∙ sym called)

  -- On a link that is not of the export nothing of it is unanswered.
  none_of : (link : ℕ) → (is_of place calls link ≡ true → ⊥) → FewOn 0 link (dealt_with place calls)
  none_of link other = record { list = []; few = omega arith; all = λ cookie u. absurd (go (is_of place calls link) refl cookie u.command u.asked) }
    where
      go : (t : Bool) → is_of place calls link ≡ t → (cookie : ℕ) (command : Command Nobody) → only_if t (asked_on (on_link link calls) cookie) ≡ Some command → ⊥
      go true ours cookie command e = other ours
      go false ours cookie command e = none_some command e

pub handles_have_few : HandlesHaveFew
handles_have_few from to size how has slices now calls seens place index seen counts b well stands there all =
    few from to size how has slices now calls seens b stands place well counts seen.link
    (subst (λ (h : History Ticket). AllCount counts now.rows h) (sym (one_has index seen b.course.histories seens there b.course.held)) all)

pub others_have_none : OthersHaveNone
others_have_none from to size how has slices now calls seens source link b stands two differs =
    none_of from to size how has slices now calls seens b stands (place_of from to source) link (λ ours. apart source (ap (place_of from to) (sym differs) ∙ one_side from to size how has slices now calls seens b stands (place_of from to source) link ours))
  where
    apart : (s : Bool) → place_of from to (not s) ≡ place_of from to s → ⊥
    apart true e = two (sym e)
    apart false e = two e

pub over_has_none : OverHasNone
over_has_none from to size how has slices now calls seens place link b well stands over =
    subst (λ (rows : List (ℕ × Row)). FewOn (how_many (λ row. true) rows) link (dealt_with place calls)) over
    (few from to size how has slices now calls seens b stands place well (λ row. true) link (λ cookie n asks row is by held. refl))

pub links_have_few : LinksHaveFew
links_have_few from to size how has slices now calls seens place most b stands all each link = go (there_or_apart link seens stands)
  where
    go : IsThere link seens ⊎ AreApart link seens → FewOn most link (dealt_with place calls)
    go (inl t) = subst (λ (n : ℕ). FewOn most n (dealt_with place calls)) t.same (each t.index t.seen t.there)
    go (inr apart) = none_on from to size how has slices now calls seens b stands place all most link apart
