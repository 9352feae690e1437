-- What is asked over a position is asked for its slice.
use Rattle.std.proofs.Common.{◌≡◌, ℕ, ◌<◌, ◌≤◌, List, [], Bool, true, false, ◌&&◌, refl, ap, sym, subst, arith, length}
use Rattle.lnbd_model.specs.Kind.{is_read}
use Rattle.lnbd_history.specs.Commands.{Command}
use Rattle.lnbd_asked.specs.Link.{Nobody}
use Rattle.lnbd_asked.specs.Honest.{has, covers, changes}
use Rattle.lnbd_plan.specs.declared.grid.Slice.{Slice}
use Rattle.lnbd_plan.specs.Laws.{slices_at}
use Rattle.lnbd_board.specs.declared.how.How.{How}
use Rattle.lnbd_board.specs.declared.ticket.Ticket.{Ticket}
use Rattle.lnbd_board.specs.declared.ticket.Ticket.TheVariants as ticket
use Rattle.lnbd_board.specs.Requests.{Request, own, over, reads, reads_over, over_said, reads_over_said, Each, is_of}
use Rattle.lnbd_board.specs.Rows.{slice_at, lies_in, IsInside, AsksOfSource, AsksOfDestination}
use Rattle.lnbd_board.proofs.Lists.{Each-map, over_own, reads_over_own, over_none, reads_over_none, is_same}
use Rattle.lnbd_board.proofs.Spelling.{apart, some_at}

both : (a b : Bool) → a && b ≡ true → (a ≡ true) × (b ≡ true)
both true b h = (refl, h)
both false b h = absurd (cc)

not_true : (b : Bool) → (b ≡ true → ⊥) → b ≡ false
not_true true h = absurd (h refl)
not_true false h = refl

-- the slice of a number is the one that has the position
its_own : (p i n : ℕ) (slices : List Slice) (command : Command Nobody) → length (slices_at p slices) ≤ 1 → i < length slices → lies_in (slice_at slices i) p ≡ true →
    IsInside slices n command → has command p ≡ true → is_of i (ticket.Slice n) ≡ true
its_own p i n slices command few l h inside k =
    let e : n ≡ i = apart p n i slices few inside.begun l (inside.inside p k) h in
    subst (λ (m : ℕ). is_of i (ticket.Slice m) ≡ true) (sym e) (is_same i)

-- On the source nothing is changed, and what is read at a position is read for its slice.

unchanged_by : (slices : List Slice) (by : Ticket) (command : Command Nobody) → AsksOfSource slices by command → changes command.kind ≡ false
unchanged_by slices (ticket.Slice n) command h = ap changes h.0
unchanged_by slices ticket.Extents command h = ap changes h.0
unchanged_by slices ticket.Flush command h = absurd h

pub not_changed : (p : ℕ) (slices : List Slice) (by : Ticket) (command : Command Nobody) → AsksOfSource slices by command → covers command p ≡ false
not_changed p slices by command h = ap (λ b. b && has command p) (unchanged_by slices by command h)

read_by : (p i : ℕ) (slices : List Slice) (by : Ticket) (command : Command Nobody) → length (slices_at p slices) ≤ 1 → i < length slices → lies_in (slice_at slices i) p ≡ true →
    AsksOfSource slices by command → reads command p ≡ true → is_of i by ≡ true
read_by p i slices (ticket.Slice n) command few l h a r = its_own p i n slices command few l h a.1 (both _ _ r).1
read_by p i slices ticket.Extents command few l h a r = absurd (let k : is_read command.kind ≡ false = ap is_read a.0 in let t = (both (is_read command.kind) (has command p) r).0 in cc)
read_by p i slices ticket.Flush command few l h a r = absurd a

pub reads_slice : (p i : ℕ) (slices : List Slice) (asked : List Request) → length (slices_at p slices) ≤ 1 → i < length slices → lies_in (slice_at slices i) p ≡ true →
    Each (λ r. AsksOfSource slices r.ticket r.said.command) asked → reads_over p asked ≡ reads_over_said p (own i asked)
reads_slice p i slices asked few l h a = reads_over_own p i asked (Each-map (λ r k t. read_by p i slices r.ticket r.said.command few l h k t) asked a)

unread_by : (p : ℕ) (slices : List Slice) (by : Ticket) (command : Command Nobody) → slices_at p slices ≡ [] → AsksOfSource slices by command → reads command p ≡ true → ⊥
unread_by p slices (ticket.Slice n) command none a r = let o = some_at p n slices a.1.begun (a.1.inside p (both _ _ r).1) in let z : length (slices_at p slices) ≡ 0 = rw none refl in omega (arith, o, z)
unread_by p slices ticket.Extents command none a r = let k : is_read command.kind ≡ false = ap is_read a.0 in let t = (both (is_read command.kind) (has command p) r).0 in absurd (cc)
unread_by p slices ticket.Flush command none a r = a

pub reads_nowhere : (p : ℕ) (slices : List Slice) (asked : List Request) → slices_at p slices ≡ [] → Each (λ r. AsksOfSource slices r.ticket r.said.command) asked → reads_over p asked ≡ []
reads_nowhere p slices asked none a = reads_over_none p asked (Each-map (λ r k. not_true _ (unread_by p slices r.ticket r.said.command none k)) asked a)

-- On the destination what is changed at a position is changed for its slice.

changed_by : (how : How) (p i : ℕ) (slices : List Slice) (by : Ticket) (command : Command Nobody) → length (slices_at p slices) ≤ 1 → i < length slices → lies_in (slice_at slices i) p ≡ true →
    AsksOfDestination how slices by command → covers command p ≡ true → is_of i by ≡ true
changed_by how p i slices (ticket.Slice n) command few l h a c = its_own p i n slices command few l h a.1 (both _ _ c).1
changed_by how p i slices ticket.Extents command few l h a c = absurd a
changed_by how p i slices ticket.Flush command few l h a c = absurd (let k : changes command.kind ≡ false = ap changes a.0 in let t = (both (changes command.kind) (has command p) c).0 in cc)

pub over_slice : (how : How) (p i : ℕ) (slices : List Slice) (asked : List Request) → length (slices_at p slices) ≤ 1 → i < length slices → lies_in (slice_at slices i) p ≡ true →
    Each (λ r. AsksOfDestination how slices r.ticket r.said.command) asked → over p asked ≡ over_said p (own i asked)
over_slice how p i slices asked few l h a = over_own p i asked (Each-map (λ r k t. changed_by how p i slices r.ticket r.said.command few l h k t) asked a)

unchanged_at : (how : How) (p : ℕ) (slices : List Slice) (by : Ticket) (command : Command Nobody) → slices_at p slices ≡ [] → AsksOfDestination how slices by command → covers command p ≡ true → ⊥
unchanged_at how p slices (ticket.Slice n) command none a c = let o = some_at p n slices a.1.begun (a.1.inside p (both _ _ c).1) in let z : length (slices_at p slices) ≡ 0 = rw none refl in omega (arith, o, z)
unchanged_at how p slices ticket.Extents command none a c = a
unchanged_at how p slices ticket.Flush command none a c = let k : changes command.kind ≡ false = ap changes a.0 in let t = (both (changes command.kind) (has command p) c).0 in absurd (cc)

pub over_nowhere : (how : How) (p : ℕ) (slices : List Slice) (asked : List Request) → slices_at p slices ≡ [] → Each (λ r. AsksOfDestination how slices r.ticket r.said.command) asked → over p asked ≡ []
over_nowhere how p slices asked none a = over_none p asked (Each-map (λ r k. not_true _ (unchanged_at how p slices r.ticket r.said.command none k)) asked a)
