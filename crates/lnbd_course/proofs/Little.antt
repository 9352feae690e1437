-- A handle was asked to write no more than the positions of its side allow: each of its commands is a request of its side, one of its own, and no position is asked for twice.
use Rattle.std.proofs.Common.{◌≡◌, inl, inr, ℕ, zero, suc, ◌+◌, ◌*◌, ◌<◌, ◌≤◌, Bool, true, false, not, ◌&&◌, ◌==◌, List, [], ◌∷◌, length, cond, Some, slice_get, refl, ap, sym, subst, ◌∙◌, arith, if◌then◌else◌}
use Rattle.std.proofs.lemmas.Bool.{eq-eqb}
use Rattle.lnbd_model.specs.Kind.{is_read, is_status, is_write}
use Rattle.lnbd_model.specs.declared.kind.Kind.{Kind}
use Rattle.lnbd_model.specs.declared.kind.Kind.TheVariants.{BlockStatus, Flush, Read, Write, Zero}
use Rattle.lnbd_history.specs.Commands.{Command}
use Rattle.lnbd_history.specs.Commands as commands_of
use Rattle.lnbd_history.specs.Events.{History, Set, StrictMode, Start, Opt, Abort, Issue, Refuse, Disconnect, Wrote, Arrived, End, LinkFailed, Retire, ClearLog, Close}
use Rattle.lnbd_history.specs.History.{asked, request}
use Rattle.lnbd_history.proofs.Cookies.{request_past}
use Rattle.lnbd_asked.specs.Driven.{AllSpell}
use Rattle.lnbd_asked.specs.Honest.{changes}
use Rattle.lnbd_asked.specs.Link.{Nobody}
use Rattle.lnbd_asked.specs.Transcript.{bare}
use Rattle.lnbd_spoken.specs.Little.{asked_bytes}
use Rattle.lnbd_poll.specs.Seen.{Seen}
use Rattle.lnbd_drives.specs.Driving.{AllPlain}
use Rattle.lnbd_plan.specs.declared.grid.Slice.{Slice}
use Rattle.lnbd_board.specs.declared.how.How.{How}
use Rattle.lnbd_board.specs.declared.ticket.Ticket.{Ticket}
use Rattle.lnbd_board.specs.declared.ticket.Ticket.TheVariants as ticket
use Rattle.lnbd_board.specs.Requests.{Each, Request, over, reads_over}
use Rattle.lnbd_board.specs.Rows.{AsksOfDestination, AsksOfSource, IsChange}
use Rattle.lnbd_board.proofs.Lists.{Each-map}
use Rattle.lnbd_board.proofs.Once.{once}
use Rattle.lnbd_tracks.specs.Tracks.{Tracks, under}
use Rattle.lnbd_course.specs.Counted.{bytes_of, flushes_of, is_flush, total}
use Rattle.lnbd_course.specs.Course.{beside, on_side}
use Rattle.lnbd_course.specs.Little.{AllAskSome, HandlesAreAskedLittle, extents_asked, most_asked}
use Rattle.lnbd_course.proofs.Counting.{Apart, Same, commands, commands_in, key, less, less_here, less_other, no_first, same_first, told_commands, total_less, under_beside, under_here, under_less, under_other}
use Rattle.lnbd_course.proofs.Holding.{none_some, one_has, some_same}
use Rattle.lnbd_course.proofs.Standing.{on_here}
use Rattle.lnbd_course.proofs.Summing.{at_most, is_none, over_same, reads_same}
use Rattle.lnbd_course.proofs.Tallying.{bytes_fit, touching}

-- What commands count for.

-- a head and a byte for each byte of the commands of some kinds, and a head for each of some others
abbrev weight : (counts others : Kind → Bool) → Kind → ℕ → ℕ
weight counts others kind size = 33 * cond (counts kind) size 0 + 32 * cond (others kind) 1 0

-- A command of this kind that fits its request, and has a byte if it is no flush, counts for its head and what it writes, but for a question for extents.
abbrev IsLight : (Kind → ℕ → ℕ) → Kind → Type 0
IsLight weight kind =
    (size payload : ℕ) → payload ≡ (if is_write kind then size else 0) → (is_flush kind ≡ false → 0 < size) → 32 + payload ≤ weight kind size + 32 * cond (is_status kind) 1 0

abbrev AllLight : (Kind → ℕ → ℕ) → List Request → Type 0
AllLight weight xs = Each (λ r. IsLight weight r.said.command.kind) xs

-- The source is asked for no flush.
abbrev none : Kind → Bool
none kind = false

read_light : IsLight (weight is_read none) Read
read_light size payload e some = let l = some refl in omega (arith, e, l)

status_light : IsLight (weight is_read none) BlockStatus
status_light size payload e some = omega (arith, e)

write_light : IsLight (weight changes is_flush) Write
write_light size payload e some = let l = some refl in omega (arith, e, l)

zero_light : IsLight (weight changes is_flush) Zero
zero_light size payload e some = let l = some refl in omega (arith, e, l)

flush_light : IsLight (weight changes is_flush) Flush
flush_light size payload e some = omega (arith, e)

look_light : (slices : List Slice) (by : Ticket) (command : Command Nobody) → AsksOfSource slices by command → IsLight (weight is_read none) command.kind
look_light slices (ticket.Slice n) command asks = subst (IsLight (weight is_read none)) (sym asks.0) read_light
look_light slices ticket.Extents command asks = subst (IsLight (weight is_read none)) (sym asks.0) status_light
look_light slices ticket.Flush command asks = absurd asks

change_light : (how : How) (command : Command Nobody) → IsChange how command → IsLight (weight changes is_flush) command.kind
change_light how command (inl is) = subst (IsLight (weight changes is_flush)) (sym is.0) write_light
change_light how command (inr is) = subst (IsLight (weight changes is_flush)) (sym is.0) zero_light

store_light : (how : How) (slices : List Slice) (by : Ticket) (command : Command Nobody) → AsksOfDestination how slices by command → IsLight (weight changes is_flush) command.kind
store_light how slices (ticket.Slice n) command asks = change_light how command asks.0
store_light how slices ticket.Extents command asks = absurd asks
store_light how slices ticket.Flush command asks = subst (IsLight (weight changes is_flush)) (sym asks.0) flush_light

abbrev sum : (Kind → ℕ → ℕ) → List Request → ℕ
sum weight xs = total (λ command. weight command.kind command.length) xs

-- A list without a request that it has.

taken : (P : Kind → Type 0) (link cookie : ℕ) (c : Command Nobody) (cs : List (Command Nobody)) (xs : List Request) → commands (under link cookie xs) ≡ c ∷ cs → Each (λ r. P r.said.command.kind) xs →
    P c.kind × Each (λ r. P r.said.command.kind) (less link cookie xs)
taken P link cookie c cs [] e each = absurd (no_first c cs e)
taken P link cookie c cs (x ∷ xs) e each = elim (key x.link x.cookie link cookie) [
  | Same l k is ↦
      let first : x.said.command ≡ c = same_first x.said.command c (commands (under link cookie xs)) cs (sym (ap commands (under_here link cookie x xs is)) ∙ e) in
      (subst (λ (d : Command Nobody). P d.kind) first each.0, subst (Each (λ (r : Request). P r.said.command.kind)) (sym (less_here link cookie x xs is)) each.1)
  | Apart other ↦
      let rest = taken P link cookie c cs xs (sym (ap commands (under_other link cookie x xs other)) ∙ e) each.1 in
      (rest.0, subst (Each (λ (r : Request). P r.said.command.kind)) (sym (less_other link cookie x xs other)) (each.0, rest.1))
]

-- The commands of a history are requests of the list, each of one of its own.

abbrev HasAll : ℕ → History Ticket → List Request → Type 0
HasAll link history xs = (cookie : ℕ) → commands (under link cookie xs) ≡ commands_in (request history cookie)

all_there : (link : ℕ) (history same : History Ticket) (xs : List Request) → Tracks link history xs → history ≡ same → HasAll link same xs
all_there link history same xs track is cookie = ap commands (track.each cookie) ∙ told_commands link cookie (request history cookie) _ ∙ ap (λ (h : History Ticket). commands_in (request h cookie)) is

-- the latest command, with its cookie, and the list without it
module _ (link : ℕ) (before : History Ticket) (command : Command Ticket) (xs : List Request) (all : HasAll link (Issue command ∷ before) xs) where
  abbrev cookie_of : ℕ
  cookie_of = (asked before).issued + 1

  abbrev latest : Command Nobody
  latest = bare (commands_of.request_of (asked before).admitted command)

  on_top : commands (under link cookie_of xs) ≡ latest ∷ []
  on_top = all cookie_of ∙ ap (λ (b : Bool). commands_in (if b then Some (commands_of.request_of (asked before).admitted command) else request before cookie_of)) (eq-eqb cookie_of cookie_of refl)

  below : HasAll link before (less link cookie_of xs)
  below cookie = elim (key link cookie_of link cookie) [
    | Same l k is ↦ subst (λ (n : ℕ). commands (under link n (less link cookie_of xs)) ≡ commands_in (request before n)) k
        (under_less link cookie_of latest [] xs on_top ∙ sym (ap commands_in (request_past before cookie_of (omega arith))))
    | Apart other ↦
        let differ : (cookie_of == cookie) ≡ false = sym (ap (λ (b : Bool). b && (cookie_of == cookie)) (eq-eqb link link refl)) ∙ other in
        under_beside link cookie_of link cookie xs other ∙ all cookie
        ∙ ap (λ (b : Bool). commands_in (if b then Some (commands_of.request_of (asked before).admitted command) else request before cookie)) differ
  ]

-- So they count for no more than the list does.
module _ (weight : Kind → ℕ → ℕ) (link : ℕ) where
  light : (history : History Ticket) (xs : List Request) → HasAll link history xs → AllLight weight xs → AllSpell history → AllAskSome history → asked_bytes history ≤ sum weight xs + 32 * extents_asked history
  light [] xs all each spelled some = omega arith
  light (Issue command ∷ before) xs all each spelled some =
      let top = on_top link before command xs all in
      let split = taken (IsLight weight) link ((asked before).issued + 1) (latest link before command xs all) [] xs top each in
      let rest = light before (less link ((asked before).issued + 1) xs) (below link before command xs all) split.1 spelled.1 some.1 in
      let one = split.0 command.length (length command.payload) spelled.0.data_ some.0 in
      let whole = total_less (λ command. weight command.kind command.length) link ((asked before).issued + 1) (latest link before command xs all) [] xs top in
      omega (arith, rest, one, whole)
  light (Set setting ∷ before) xs all each spelled some = light before xs all each spelled.1 some
  light (StrictMode bits ∷ before) xs all each spelled some = light before xs all each spelled.1 some
  light (Start ∷ before) xs all each spelled some = light before xs all each spelled.1 some
  light (Opt option ∷ before) xs all each spelled some = light before xs all each spelled.1 some
  light (Abort ∷ before) xs all each spelled some = light before xs all each spelled.1 some
  light (Refuse command why ∷ before) xs all each spelled some = light before xs all each spelled.1 some
  light (Disconnect ∷ before) xs all each spelled some = light before xs all each spelled.1 some
  light (Wrote n ∷ before) xs all each spelled some = light before xs all each spelled.1 some
  light (Arrived bytes answers ∷ before) xs all each spelled some = light before xs all each spelled.1 some
  light (End answers ∷ before) xs all each spelled some = light before xs all each spelled.1 some
  light (LinkFailed answers ∷ before) xs all each spelled some = light before xs all each spelled.1 some
  light (Retire cookie ∷ before) xs all each spelled some = light before xs all each spelled.1 some
  light (ClearLog ∷ before) xs all each spelled some = light before xs all each spelled.1 some
  light (Close ∷ before) xs all each spelled some = light before xs all each spelled.1 some

-- The lists.

total_both : (a b : Command Nobody → ℕ) (xs : List Request) → total (λ command. 33 * a command + 32 * b command) xs ≡ 33 * total a xs + 32 * total b xs
total_both a b [] = refl
total_both a b (x ∷ xs) = let e = total_both a b xs in omega (arith, e)

total_none : (xs : List Request) → total (λ command. 0) xs ≡ 0
total_none [] = refl
total_none (x ∷ xs) = let e = total_none xs in omega (arith, e)

little : (asked whole bytes flushes questions end size : ℕ) → asked ≤ whole + 32 * questions → whole ≡ 33 * bytes + 32 * flushes → bytes ≤ end → end ≤ size → flushes ≤ 1 → asked ≤ 33 * size + 32 * (questions + 1)
little asked whole bytes flushes questions end size l e m n k = omega (arith, l, e, m, n, k)

none_few : (n : ℕ) → n ≡ 0 → n ≤ 1
none_few n e = omega (arith, e)

one_few : (n : ℕ) (is : Bool) → n ≡ cond is 1 0 → n ≤ 1
one_few n true e = omega (arith, e)
one_few n false e = omega (arith, e)

-- A handle of the copy.

one_spelled : (index : ℕ) (seen : Seen Ticket) (seens : List (Seen Ticket)) → slice_get seens index ≡ Some seen → AllPlain seens → AllSpell seen.history
one_spelled index seen [] there plain = absurd (none_some seen there)
one_spelled zero seen (first ∷ others) there plain = subst (λ (s : Seen Ticket). AllSpell s.history) (some_same first seen there) plain.0.spelled
one_spelled (suc index) seen (first ∷ others) there plain = one_spelled index seen others there plain.1

pub handles_are_asked_little : HandlesAreAskedLittle
handles_are_asked_little from to size how has slices rest now calls seens cells told end index seen b well planned fits there some =
    let histories = b.course.histories in
    let source = b.course.stood.source in
    let destination = b.course.stood.destination in
    let stands = b.course.stood.stands well in
    let asked_once = once how cells told end slices rest now.rows source destination stands planned in
    let held = one_has index seen histories seens there b.course.held in
    let spelled = one_spelled index seen seens there b.course.drive.plain in
    elim (has seen.link) as (λ s. has seen.link ≡ s → asked_bytes seen.history ≤ most_asked size (extents_asked seen.history)) [
      | true ↦ λ side.
          let all = all_there seen.link (on_side has histories seen.link) seen.history source (b.course.stood.reads seen.link) (on_here has histories seen.link side ∙ held) in
          let each = Each-map (λ (r : Request) asks. look_light slices r.ticket r.said.command asks) source stands.reads in
          little (asked_bytes seen.history) (sum (weight is_read none) source) (bytes_of is_read source) (total (λ command. 0) source) (extents_asked seen.history) end size
          (light (weight is_read none) seen.link seen.history source all each spelled some)
          (total_both (λ command. cond (is_read command.kind) command.length 0) (λ command. 0) source)
          (bytes_fit is_read end source
          (λ p. at_most 1 (reads_over p source) (touching is_read p source) (reads_same p source) (asked_once.0.reads p))
          (λ p l. at_most 0 (reads_over p source) (touching is_read p source) (reads_same p source) (is_none (reads_over p source) (asked_once.1.reads p l))))
          fits (none_few (total (λ command. 0) source) (total_none source))
      | false ↦ λ side.
          let all = all_there seen.link (on_side (beside has) histories seen.link) seen.history destination (b.course.stood.changes seen.link) (on_here (beside has) histories seen.link (ap not side) ∙ held) in
          let each = Each-map (λ (r : Request) asks. store_light how slices r.ticket r.said.command asks) destination stands.changes in
          little (asked_bytes seen.history) (sum (weight changes is_flush) destination) (bytes_of changes destination) (flushes_of destination) (extents_asked seen.history) end size
          (light (weight changes is_flush) seen.link seen.history destination all each spelled some)
          (total_both (λ command. cond (changes command.kind) command.length 0) (λ command. cond (is_flush command.kind) 1 0) destination)
          (bytes_fit changes end destination
          (λ p. at_most 1 (over p destination) (touching changes p destination) (over_same p destination) (asked_once.0.changes p))
          (λ p l. at_most 0 (over p destination) (touching changes p destination) (over_same p destination) (is_none (over p destination) (asked_once.1.changes p l))))
          fits (one_few (flushes_of destination) now.flushing b.course.stood.counted.flushes)
    ] refl
