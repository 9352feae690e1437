-- A copy that is finished has carried each byte, and so it has copied.
use Rattle.std.proofs.Common.{◌≡◌, inl, inr, ℕ, ◌+◌, ◌≤◌, ◌<◌, Bool, true, false, not, ◌&&◌, List, [], ◌∷◌, ◌++◌, cond, Option, Some, None, refl, ap, sym, subst, ◌∙◌, ◌==◌, arith, nat_le, if◌then◌else◌}
use Rattle.std.proofs.lemmas.Bool.{false≢true}
use Rattle.std.specs.Option.{option_map}
use Rattle.lnbd_model.specs.declared.target.Place.{Place}
use Rattle.lnbd_outcome.specs.Outcome.{Unfinished}
use Rattle.lnbd_link.specs.Call.{Call}
use Rattle.lnbd_history.specs.Commands.{Command}
use Rattle.lnbd_history.specs.Commands as commands
use Rattle.lnbd_history.specs.Events.{History}
use Rattle.lnbd_history.specs.History as history_of
use Rattle.lnbd_asked.specs.Driven.{DrivenSays, outcome_after, written}
use Rattle.lnbd_asked.specs.Link.{Nobody}
use Rattle.lnbd_asked.specs.Transcript.{is_of, on_link, asked_on, answered, bare, only_if, dealt_with}
use Rattle.lnbd_keyed.specs.Keyed.{value_at}
use Rattle.lnbd_plan.specs.declared.cells.Cells.{Cells}
use Rattle.lnbd_plan.specs.declared.grid.Slice.{Slice}
use Rattle.lnbd_plan.specs.Laws.{IsPlannedOnce, Window, windows_end, windows_slices, told_by}
use Rattle.lnbd_plan.proofs.OnceLaws.{all_planned_once}
use Rattle.lnbd_board.specs.declared.how.How.{How}
use Rattle.lnbd_board.specs.declared.row.Row.{Row}
use Rattle.lnbd_board.specs.declared.ticket.Ticket.{Ticket}
use Rattle.lnbd_board.specs.declared.ticket.Ticket.TheVariants as ticket
use Rattle.lnbd_board.specs.Files as board
use Rattle.lnbd_board.specs.Holds.{IsCopied}
use Rattle.lnbd_board.specs.Requests.{Said, Request, request, Each, IsIn, Under, IsDealt, own, is_of as is_of_slice, is_slice, unanswered}
use Rattle.lnbd_board.specs.Rows.{Stands, StandsAs, AsksOfSource, AsksOfDestination, IsChange, slice_at}
use Rattle.lnbd_board.proofs.Copied.{copied_is_carried}
use Rattle.lnbd_board.proofs.Held.{carried_is_held}
use Rattle.lnbd_tracks.specs.Tracks.{Histories, AllTrack, under, request_of}
use Rattle.lnbd_tracks.specs.Laws.{moves_bytes, IsDone}
use Rattle.lnbd_tracks.proofs.Finished.{finished_are_done}
use Rattle.lnbd_tracks.proofs.Under.{same_key, found}
use Rattle.lnbd_tracks.proofs.Written.{done_is_written}
use Rattle.lnbd_course.specs.Carried.{CarryingCopies, HasCarried}
use Rattle.lnbd_course.specs.Course.{AreOfSides, Course, IsFinished, on_side, beside}
use Rattle.lnbd_course.specs.Laws.{FinishedCarries}
use Rattle.lnbd_course.proofs.Standing.{on_here}

-- What a request of the list is to its handle.

in_under : (r : Request) (xs : List Request) → IsIn r xs → IsIn r (under r.link r.cookie xs)
in_under r [] h = h
in_under r (x ∷ xs) (inl e) = subst (λ (k : Bool). IsIn r (cond k (x ∷ under r.link r.cookie xs) (under r.link r.cookie xs))) (sym there) (inl e)
  where
    there : ((x.link == r.link) && (x.cookie == r.cookie)) ≡ true
    there = ap (λ (y : Request). (y.link == r.link) && (y.cookie == r.cookie)) e ∙ same_key r.link r.cookie
in_under r (x ∷ xs) (inr h) =
    let more = in_under r xs h in
    elim ((x.link == r.link) && (x.cookie == r.cookie)) as (λ b. IsIn r (cond b (x ∷ under r.link r.cookie xs) (under r.link r.cookie xs))) [ true ↦ inr more | false ↦ more ]

in_middle : (r : Request) (front back : List Request) → IsIn r (front ++ r ∷ back)
in_middle r [] back = inl refl
in_middle r (x ∷ front) back = inr (in_middle r front back)

each_of : (P : Request → Type 0) (xs : List Request) → ((r : Request) → IsIn r xs → P r) → Each P xs
each_of P [] f = tt
each_of P (x ∷ xs) f = (f x (inl refl), each_of P xs (λ r h. f r (inr h)))

in_each : (P : Request → Type 0) (xs : List Request) → Each P xs → (r : Request) → IsIn r xs → P r
in_each P [] h r there = absurd there
in_each P (x ∷ xs) h r (inl e) = subst P e h.0
in_each P (x ∷ xs) h r (inr there) = in_each P xs h.1 r there

pub record Of (histories : Histories) (r : Request) : Type 0 where
  pub asks : commands.Request Ticket
  pub is : history_of.request (histories r.link) r.cookie ≡ Some asks
  pub command : r.said.command ≡ bare asks
  pub outcome : r.said.outcome ≡ outcome_after (histories r.link) r.cookie
  pub by : r.ticket ≡ asks.flight.done.callback

module _ (histories : Histories) where
  pub of_it : (xs : List Request) (r : Request) → AllTrack histories xs → IsIn r xs → Of histories r
  of_it xs r all there = go (history_of.request (histories r.link) r.cookie) refl (subst (λ l. IsIn r l) ((all r.link).each r.cookie) (in_under r xs there))
    where
      go : (a : Option (commands.Request Ticket)) → history_of.request (histories r.link) r.cookie ≡ a → IsIn r (request_of r.link r.cookie a (outcome_after (histories r.link) r.cookie)) → Of histories r
      go None is h = absurd h
      go (Some q) is (inr h) = absurd h
      go (Some q) is (inl e) = record {
        asks = q;
        is = is;
        command = sym (ap (λ (x : Request). x.said.command) e);
        outcome = sym (ap (λ (x : Request). x.said.outcome) e);
        by =
            sym (ap (λ (x : Request). x.ticket) e);
      }

  -- whether the command was wholly written
  abbrev pub is_out : Request → Bool
  is_out r = nat_le r.cookie (written (histories r.link))

  -- the requests that were
  abbrev pub gone_out : List Request → List Request
  gone_out [] = []
  gone_out (r ∷ rs) = cond (is_out r) (r ∷ gone_out rs) (gone_out rs)

  pub done_out : (xs : List Request) (r : Request) → AllTrack histories xs → IsIn r xs → IsDone r.said.outcome → is_out r ≡ true
  done_out xs r all there d = let o = of_it xs r all there in done_is_written (histories r.link) r.cookie d.bytes (sym o.outcome ∙ d.is)

  -- Those that weren't are none of the slices'.

  abbrev SlicesAreOut : List Request → Type 0
  SlicesAreOut xs = Each (λ (r : Request). is_slice r.ticket ≡ true → is_out r ≡ true) xs

  not_of : (i : ℕ) (by : Ticket) → is_slice by ≡ false → is_of_slice i by ≡ false
  not_of i (ticket.Slice n) e = absurd (false≢true (sym e))
  not_of i ticket.Extents e = refl
  not_of i ticket.Flush e = refl

  no_slice : (by : Ticket) (out : Bool) → out ≡ false → (is_slice by ≡ true → out ≡ true) → is_slice by ≡ false
  no_slice (ticket.Slice n) out e h = absurd (false≢true (sym e ∙ h refl))
  no_slice ticket.Extents out e h = refl
  no_slice ticket.Flush out e h = refl

  own_out : (i : ℕ) (xs : List Request) → SlicesAreOut xs → own i (gone_out xs) ≡ own i xs
  own_out i [] h = refl
  own_out i (x ∷ xs) h = go (own_out i xs h.1) (is_out x) refl
    where
      go : own i (gone_out xs) ≡ own i xs → (b : Bool) → is_out x ≡ b → own i (cond b (x ∷ gone_out xs) (gone_out xs)) ≡ own i (x ∷ xs)
      go more true e = ap (λ l. cond (is_of_slice i x.ticket) (x.said ∷ l) l) more
      go more false e = more ∙ sym (ap (λ (b : Bool). cond b (x.said ∷ own i xs) (own i xs)) (not_of i x.ticket (no_slice x.ticket (is_out x) e h.0)))

  each_out : (P : Request → Type 0) (xs : List Request) → Each P xs → Each P (gone_out xs)
  each_out P [] h = tt
  each_out P (x ∷ xs) h =
      let more = each_out P xs h.1 in
      elim (is_out x) as (λ b. Each P (cond b (x ∷ gone_out xs) (gone_out xs))) [ true ↦ (h.0, more) | false ↦ more ]

  fewer_out : (xs : List Request) → unanswered (gone_out xs) ≤ unanswered xs
  fewer_out [] = omega arith
  fewer_out (x ∷ xs) =
      let more = fewer_out xs in
      elim (is_out x) as (λ b. unanswered (cond b (x ∷ gone_out xs) (gone_out xs)) ≤ unanswered (x ∷ xs)) [ true ↦ omega (arith, more) | false ↦ omega (arith, more) ]

  pub out_in : (r : Request) (xs : List Request) → IsIn r (gone_out xs) → IsIn r xs × (is_out r ≡ true)
  out_in r [] h = absurd h
  out_in r (x ∷ xs) h = go (out_in r xs) (is_out x) refl h
    where
      go : (IsIn r (gone_out xs) → IsIn r xs × (is_out r ≡ true)) → (b : Bool) → is_out x ≡ b → IsIn r (cond b (x ∷ gone_out xs) (gone_out xs)) → IsIn r (x ∷ xs) × (is_out r ≡ true)
      go more true e (inl same) = (inl same, subst (λ (y : Request). is_out y ≡ true) same e)
      go more true e (inr k) = let m = more k in (inr m.0, m.1)
      go more false e k = let m = more k in (inr m.0, m.1)

  pub in_out : (r : Request) (xs : List Request) → IsIn r xs → is_out r ≡ true → IsIn r (gone_out xs)
  in_out r [] h out = h
  in_out r (x ∷ xs) h out = go (λ k. in_out r xs k out) (is_out x) refl h
    where
      go : (IsIn r xs → IsIn r (gone_out xs)) → (b : Bool) → is_out x ≡ b → IsIn r (x ∷ xs) → IsIn r (cond b (x ∷ gone_out xs) (gone_out xs))
      go more true e (inl same) = inl same
      go more true e (inr k) = inr (more k)
      go more false e (inl same) = absurd (false≢true (sym e ∙ subst (λ (y : Request). is_out y ≡ true) (sym same) out))
      go more false e (inr k) = more k

-- What went out stands as all did, where each slice is over.

read_out : (slices : List Slice) (by : Ticket) (said : Said) → AsksOfSource slices by said.command → is_slice by ≡ true → moves_bytes said.command.kind ≡ true
read_out slices (ticket.Slice n) said asks slice = ap moves_bytes asks.0
read_out slices ticket.Extents said asks slice = absurd (false≢true slice)
read_out slices ticket.Flush said asks slice = absurd (false≢true slice)

change_moves : (how : How) (command : Command Nobody) → IsChange how command → moves_bytes command.kind ≡ true
change_moves how command (inl e) = ap moves_bytes e.0
change_moves how command (inr e) = ap moves_bytes e.0

write_out : (how : How) (slices : List Slice) (by : Ticket) (said : Said) → AsksOfDestination how slices by said.command → is_slice by ≡ true → moves_bytes said.command.kind ≡ true
write_out how slices (ticket.Slice n) said asks slice = change_moves how said.command asks.0
write_out how slices ticket.Extents said asks slice = absurd (false≢true slice)
write_out how slices ticket.Flush said asks slice = absurd (false≢true slice)

none_left : (a b c d : ℕ) → a + b ≡ 0 → c ≤ a → d ≤ b → c + d ≡ 0
none_left a b c d e f g = omega (arith, e, f, g)

same_left : (n : ℕ) → n ≤ n
same_left n = omega arith

-- of the source alone
module _ (how : How) (slices : List Slice) (sources : Histories) (source destination : List Request) (stands : Stands how slices [] source destination) (reads : AllTrack sources source) where
  source_out : SlicesAreOut sources source
  source_out = each_of (λ (r : Request). is_slice r.ticket ≡ true → is_out sources r ≡ true) source
      (λ r there slice. done_out sources source r reads there
      (in_each (λ (x : Request). moves_bytes x.said.command.kind ≡ true → IsDone x.said.outcome) source (finished_are_done how slices source destination stands).0 r there
      (read_out slices r.ticket r.said (in_each (λ (x : Request). AsksOfSource slices x.ticket x.said.command) source stands.reads r there) slice)))

  pub source_out_stands : Stands how slices [] (gone_out sources source) destination
  source_out_stands = record {
    each = λ i l. subst (λ (x : List Said). StandsAs how (slice_at slices i) (value_at {V = Row} i []) x (own i destination)) (sym (own_out sources i source source_out)) (stands.each i l);
    reads = each_out sources (λ (r : Request). AsksOfSource slices r.ticket r.said.command) source stands.reads;
    changes = stands.changes;
    rising = stands.rising;
    below = stands.below;
    counted = none_left (unanswered source) (unanswered destination) (unanswered (gone_out sources source)) (unanswered destination) stands.counted (fewer_out sources source)
        (same_left (unanswered destination));
  }

-- and of the destination
module _ (how : How) (slices : List Slice) (destinations : Histories) (source destination : List Request) (stands : Stands how slices [] source destination)
    (changes : AllTrack destinations destination) where
  destination_out : SlicesAreOut destinations destination
  destination_out = each_of (λ (r : Request). is_slice r.ticket ≡ true → is_out destinations r ≡ true) destination
      (λ r there slice. done_out destinations destination r changes there
      (in_each (λ (x : Request). moves_bytes x.said.command.kind ≡ true → IsDone x.said.outcome) destination (finished_are_done how slices source destination stands).1 r there
      (write_out how slices r.ticket r.said (in_each (λ (x : Request). AsksOfDestination how slices x.ticket x.said.command) destination stands.changes r there) slice)))

  pub destination_out_stands : Stands how slices [] source (gone_out destinations destination)
  destination_out_stands = record {
    each = λ i l. subst (λ (x : List Said). StandsAs how (slice_at slices i) (value_at {V = Row} i []) (own i source) x) (sym (own_out destinations i destination destination_out)) (stands.each i l);
    reads = stands.reads;
    changes = each_out destinations (λ (r : Request). AsksOfDestination how slices r.ticket r.said.command) destination stands.changes;
    rising = stands.rising;
    below = stands.below;
    counted = none_left (unanswered source) (unanswered destination) (unanswered source) (unanswered (gone_out destinations destination)) stands.counted (same_left (unanswered source))
        (fewer_out destinations destination);
  }

pub out_stands : (how : How) (slices : List Slice) (sources destinations : Histories) (source destination : List Request) → Stands how slices [] source destination → AllTrack sources source →
    AllTrack destinations destination →
    Stands how slices [] (gone_out sources source) (gone_out destinations destination)
out_stands how slices sources destinations source destination stands reads changes =
    destination_out_stands how slices destinations (gone_out sources source) destination (source_out_stands how slices sources source destination stands reads) changes

-- What went out is what was dealt.

module _ (place : Place) (calls : List Call) (histories : Histories) (requests : List Request) (all : AllTrack histories requests)
    (says : (link : ℕ) → is_of place calls link ≡ true → DrivenSays (histories link) (on_link link calls))
    (of : (link cookie : ℕ) (q : commands.Request Ticket) → history_of.request (histories link) cookie ≡ Some q → nat_le cookie (written (histories link)) ≡ true → is_of place calls link ≡ true) where
  asked_so : (link cookie : ℕ) (q : commands.Request Ticket) → history_of.request (histories link) cookie ≡ Some q → nat_le cookie (written (histories link)) ≡ true → (dealt_with place calls).asked link cookie ≡ Some (bare q)
  asked_so link cookie q is out =
      let here = of link cookie q is out in
      ap (λ (b : Bool). only_if b (asked_on (on_link link calls) cookie)) here
      ∙ (says link here).requests cookie
      ∙ ap (λ (b : Bool). if b then option_map bare (history_of.request (histories link) cookie) else None) out
      ∙ ap (λ (a : Option (commands.Request Ticket)). option_map bare a) is

  came_so : (link cookie : ℕ) (q : commands.Request Ticket) → history_of.request (histories link) cookie ≡ Some q → nat_le cookie (written (histories link)) ≡ true → (dealt_with place calls).outcome link cookie ≡ outcome_after (histories link) cookie
  came_so link cookie q is out =
      let here = of link cookie q is out in
      ap (λ (b : Bool). if b then answered (on_link link calls) cookie else Unfinished) here ∙ (says link here).outcomes cookie out

  shown : (r : Request) → IsIn r (gone_out histories requests) → ((dealt_with place calls).asked r.link r.cookie ≡ Some r.said.command) × ((dealt_with place calls).outcome r.link r.cookie ≡ r.said.outcome)
  shown r h =
      let m = out_in histories r requests h in
      let o = of_it histories requests r all m.0 in
      (asked_so r.link r.cookie o.asks o.is m.1 ∙ sym (ap (λ (c : Command Nobody). Some c) o.command), came_so r.link r.cookie o.asks o.is m.1 ∙ sym o.outcome)

  only : (link cookie : ℕ) (command : Command Nobody) → (dealt_with place calls).asked link cookie ≡ Some command → Under link cookie command (gone_out histories requests)
  only link cookie command e = on (is_of place calls link) refl e
    where
      none_some : None ≡ Some command → ⊥
      none_some k = cc

      some_is : (q : commands.Request Ticket) → Some (bare q) ≡ Some command → bare q ≡ command
      some_is q k = cc

      asked_by : nat_le cookie (written (histories link)) ≡ true → (a : Option (commands.Request Ticket)) → history_of.request (histories link) cookie ≡ a → option_map bare a ≡ Some command → Under link cookie command (gone_out histories requests)
      asked_by out None is k = absurd (none_some k)
      asked_by out (Some q) is k =
          let r : Request = request link cookie q.flight.done.callback (record { command = bare q; outcome = outcome_after (histories link) cookie }) in
          let there = found link cookie r requests ((all link).each cookie ∙ ap (λ (a : Option (commands.Request Ticket)). request_of link cookie a (outcome_after (histories link) cookie)) is) in
          record { request = r; within = in_out histories r requests (subst (λ l. IsIn r l) (sym there.is) (in_middle r there.front there.back)) out; on = refl; by = refl; asks = some_is q k }

      whole_one : (b : Bool) → nat_le cookie (written (histories link)) ≡ b → (if b then option_map bare (history_of.request (histories link) cookie) else None) ≡ Some command → Under link cookie command (gone_out histories requests)
      whole_one true out k = asked_by out (history_of.request (histories link) cookie) refl k
      whole_one false out k = absurd (none_some k)

      on : (b : Bool) → is_of place calls link ≡ b → only_if b (asked_on (on_link link calls) cookie) ≡ Some command → Under link cookie command (gone_out histories requests)
      on true here k = whole_one (nat_le cookie (written (histories link))) refl (sym ((says link here).requests cookie) ∙ k)
      on false here k = absurd (none_some k)

  pub are_dealt : IsDealt (gone_out histories requests) (dealt_with place calls)
  are_dealt = record { shown = shown; only = only }

-- A side.

no_request : (histories : Histories) (has : ℕ → Bool) (link cookie : ℕ) (q : commands.Request Ticket) → history_of.request (on_side has histories link) cookie ≡ Some q → has link ≡ true
no_request histories has link cookie q e = go (has link) refl
  where
    none_some : None ≡ Some q → ⊥
    none_some k = cc

    go : (b : Bool) → has link ≡ b → has link ≡ true
    go true is = is
    go false is = absurd (none_some (ap (λ (b : Bool). let none : History Ticket = [] in history_of.request (if b then histories link else none) cookie) (sym is) ∙ e))

not_beside : (b : Bool) → not b ≡ true → b ≡ false
not_beside true e = absurd (false≢true e)
not_beside false e = refl

module _ (from to : Place) (how : How) (has : ℕ → Bool) (slices : List Slice) (now : board.Seen) (calls : List Call) (course : Course how has slices now calls []) (sides : AreOfSides from to calls has course.histories) where
  side_says : (side : ℕ → Bool) (place : Place) → ((link : ℕ) → is_of place calls link ≡ true → side link ≡ true) → (link : ℕ) → is_of place calls link ≡ true → DrivenSays (on_side side course.histories link) (on_link link calls)
  side_says side place its link here = subst (λ h. DrivenSays h (on_link link calls)) (sym (on_here side course.histories link (its link here))) (course.parted link tt)

  source_of : (link cookie : ℕ) (q : commands.Request Ticket) → history_of.request (on_side has course.histories link) cookie ≡ Some q → nat_le cookie (written (on_side has course.histories link)) ≡ true → is_of from calls link ≡ true
  source_of link cookie q e out =
      let is = no_request course.histories has link cookie q e in
      let same = on_here has course.histories link is in
      subst (λ (b : Bool). is_of (if b then from else to) calls link ≡ true) is (sides.asked link cookie q (ap (λ h. history_of.request h cookie) (sym same) ∙ e) (ap (λ h. nat_le cookie (written h)) (sym same) ∙ out))

  destination_of : (link cookie : ℕ) (q : commands.Request Ticket) → history_of.request (on_side (beside has) course.histories link) cookie ≡ Some q → nat_le cookie (written (on_side (beside has) course.histories link)) ≡ true → is_of to calls link ≡ true
  destination_of link cookie q e out =
      let is = no_request course.histories (beside has) link cookie q e in
      let same = on_here (beside has) course.histories link is in
      subst (λ (b : Bool). is_of (if b then from else to) calls link ≡ true) (not_beside (has link) is) (sides.asked link cookie q (ap (λ h. history_of.request h cookie) (sym same) ∙ e) (ap (λ h. nat_le cookie (written h)) (sym same) ∙ out))

  -- What went out on each side is what was dealt with it.
  pub source_dealt : IsDealt (gone_out (on_side has course.histories) course.stood.source) (dealt_with from calls)
  source_dealt = are_dealt from calls (on_side has course.histories) course.stood.source course.stood.reads (side_says has from sides.source) source_of

  pub destination_dealt : IsDealt (gone_out (on_side (beside has) course.histories) course.stood.destination) (dealt_with to calls)
  destination_dealt = are_dealt to calls (on_side (beside has) course.histories) course.stood.destination course.stood.changes (side_says (beside has) to (λ link here. ap not (sides.destination link here))) destination_of

pub planned_once : (cells : Cells) (windows : List Window) (size : ℕ) (slices : List Slice) → slices ≡ windows_slices cells 0 windows → windows_end 0 windows ≡ size → (p : ℕ) →
    IsPlannedOnce cells (told_by 0 windows) 0 size p slices
planned_once cells windows size slices are whole p =
    subst (λ (l : List Slice). IsPlannedOnce cells (told_by 0 windows) 0 size p l) (sym are)
    (subst (λ (n : ℕ). IsPlannedOnce cells (told_by 0 windows) 0 n p (windows_slices cells 0 windows)) whole (all_planned_once cells 0 windows p))

module _ (from to : Place) (how : How) (calls : List Call) (f : IsFinished from to how calls) where
  abbrev histories : Histories
  histories = f.course.histories

  stands_over : Stands how f.slices [] f.course.stood.source f.course.stood.destination
  stands_over = subst (λ (rows : List (ℕ × Row)). Stands how f.slices rows f.course.stood.source f.course.stood.destination) f.over (f.course.stood.stands f.well)

  abbrev sources : List Request
  sources = gone_out (on_side f.has histories) f.course.stood.source

  abbrev destinations : List Request
  destinations = gone_out (on_side (beside f.has) histories) f.course.stood.destination

  is_copied : IsCopied how f.cells (told_by 0 f.windows) f.size f.slices sources destinations
  is_copied = record {
    planned = planned_once f.cells f.windows f.size f.slices f.planned.are f.planned.whole;
    left_out = f.planned.left_out;
    over = out_stands how f.slices (on_side f.has histories) (on_side (beside f.has) histories) f.course.stood.source f.course.stood.destination stands_over f.course.stood.reads f.course.stood.changes;
  }

  carried : HasCarried from to how.skip calls
  carried = record {
    size = f.size;
    sizes = f.sizes;
    carries = copied_is_carried how f.cells (told_by 0 f.windows) f.size f.slices sources destinations (dealt_with from calls) (dealt_with to calls) is_copied
        (source_dealt from to how f.has f.slices f.now calls f.course f.sides)
        (destination_dealt from to how f.has f.slices f.now calls f.course f.sides)
        f.planned.told;
  }

pub finished_carries : FinishedCarries
finished_carries from to how calls f = carried from to how calls f

pub carrying_copies : CarryingCopies
carrying_copies from to blank calls c source before end honest honest' bare =
    carried_is_held blank c.size c.sizes.room (dealt_with from calls) (dealt_with to calls) c.carries source before end honest honest' c.sizes.source c.sizes.destination c.sizes.fits
    (λ said p l. bare said p (subst (λ (n : ℕ). p < n) (honest.sizes.told c.sizes.source.link c.size c.sizes.source.told) l))
