-- Commands that are issued or refused.
use Rattle.std.proofs.Common.{◌≡◌, ℕ, ◌+◌, ◌-◌, ◌<◌, ◌≤◌, Bool, true, false, not, ◌&&◌, List, [], ◌∷◌, ◌++◌, length, Option, Some, None, Result, Ok, Err, refl, ap, sym, ◌∙◌, subst, arith, add-zero, append_assoc, ◌==◌, nat_lt, nat_le, bit_and, if◌then◌else◌}
use Rattle.std.specs.Prelude.{is_err, is_some, OnOk}
use Rattle.std.proofs.lemmas.Bool.{false≢true, leb-false, ltb-false}
use Rattle.std.proofs.lemmas.Nat.{and_le_r}
use Rattle.lnbd_keyed.specs.Keyed.{value_at, IsBelow}
use Rattle.lnbd_keyed.proofs.KeyedLemmas.{value_at_left, value_at_last}
use Rattle.lnbd_model.specs.declared.export.Blocks.{Blocks}
use Rattle.lnbd_model.specs.declared.kind.Kind.{Kind}
use Rattle.lnbd_model.specs.declared.kind.Kind.TheVariants.{Read, Write, Flush, Trim, Cache, Zero, BlockStatus}
use Rattle.lnbd_model.specs.declared.state.State.{State as Standing}
use Rattle.lnbd_model.specs.declared.state.State.TheVariants as state
use Rattle.lnbd_model.specs.declared.refusal.Why.{Why}
use Rattle.lnbd_model.specs.declared.refusal.Why.TheVariants as why
use Rattle.lnbd_model.specs.declared.refusal.Lack.{Lack}
use Rattle.lnbd_records.specs.Limits.{max_data, max_range}
use Rattle.lnbd_records.specs.Numbers.{has_bit}
use Rattle.lnbd_model.specs.Kind.{has_range}
use Rattle.lnbd_callbacks.specs.Calls.{Call}
use Rattle.lnbd_callbacks.specs.Desk.{Log}
use Rattle.lnbd_history.specs.declared.kinds.Phase.{Phase}
use Rattle.lnbd_history.specs.declared.kinds.Stage.{Stage}
use Rattle.lnbd_history.specs.declared.kinds.Stage.TheVariants.{Created, Open, Disconnecting, Aborting, Closed, Dead}
use Rattle.lnbd_history.specs.Answers.{state_at}
use Rattle.lnbd_history.specs.Commands.{Command, callbacks, flight_of, is_write, request_of}
use Rattle.lnbd_history.specs.Events.{Issue, Refuse}
use Rattle.lnbd_history.specs.Agreement.{is_empty}
use Rattle.lnbd_history.specs.Outgoing.{Part, plain, last_of, head, head_of, command_parts}
use Rattle.lnbd_history.specs.Strict.{strict_flags, strict_bounds, strict_zero_size, strict_align}
use Rattle.lnbd_history.specs.Refusals.{Terms, allowed, allowed_now, bad_flags, by_range, by_state, flag_if, is_aligned, lack_now, minimum, length_limit, payload_limit, range_limit, refuse, refusal, sendable_flags, unsupported}
use Rattle.lnbd_machine.specs.Machine.{Row, State, Machine, Doing, first_bytes, issued, new_row, refused}
use Rattle.lnbd_machine.specs.Laws.{IsPartial}
use Rattle.lnbd_machine.specs.Now.{refusal_now, terms_now}
use Rattle.lnbd_machine.proofs.Partial.{step_partial}
use Rattle.lnbd_outgoing.specs.declared.piece.Piece.{Piece}
use Rattle.lnbd_outgoing.specs.declared.piece.Piece.TheVariants.{Whole, Head, Own}
use Rattle.lnbd_outgoing.specs.declared.piece.RequestBytes.{RequestBytes}
use Rattle.lnbd_outgoing.specs.Pieces.{Writes, head_bytes}
use Rattle.lnbd_outgoing.specs.Queue.{Queue, waits, AllFit}
use Rattle.lnbd_commands.specs.Commands.{Commands, issuing, payload_as}
use Rattle.lnbd_commands.specs.Flights.{admitting}
use Rattle.lnbd_commands.specs.Rows.{flight_of_row}
use Rattle.lnbd_commands.specs.Takes.{Takes}
use Rattle.lnbd_handle.specs.declared.connection.Connection.{Connection}
use Rattle.lnbd_handle.specs.declared.issue.IssueFault.{IssueFault}
use Rattle.lnbd_handle.specs.declared.issue.IssueFault.TheVariants.{NoMemory, Refused}
use Rattle.lnbd_handle.specs.Issues.{Faults, FaultsUnread, range_of}
use Rattle.lnbd_handle.specs.Queued.{pieces_of, parts_of}
use Rattle.lnbd_handle.specs.Seen.{Stands, AreAhead, IsSound, writes_in, flies_in, waits_in, state_of, machine_of}
use Rattle.lnbd_handle.proofs.QueuedLemmas.{KeepsUnwritten, ends_among, ends_waits, ends_both, ahead_push, same_pieces, kept_waits, kept_state, kept_sound, rows_keep}
use Rattle.lnbd_handle.proofs.RunLemmas.{takes_issued}
use Rattle.lnbd_outgoing.proofs.QueueLemmas.{others_fit}

pub when_ok : {T E : Type 0} (P : Type 0) (r : Result T E) → is_err r ≡ false → OnOk r P → P
when_ok P (Ok x) e h = h
when_ok P (Err x) e h = cc

-- The rules, one after another.

pub by_state_later : (s : Standing) (later : Option Why) → None ≡ by_state s None → later ≡ by_state s later
by_state_later state.Created later e = cc
by_state_later state.Negotiating later e = cc
by_state_later state.OptMode later e = cc
by_state_later state.Ready later e = refl
by_state_later state.Closing later e = cc
by_state_later state.Closed later e = cc
by_state_later (state.Dead cause) later e = cc

pub by_state_first : (s : Standing) (why : Why) (later : Option Why) → Some why ≡ by_state s None → Some why ≡ by_state s later
by_state_first state.Created why later e = e
by_state_first state.Negotiating why later e = e
by_state_first state.OptMode why later e = e
by_state_first state.Ready why later e = cc
by_state_first state.Closing why later e = e
by_state_first state.Closed why later e = e
by_state_first (state.Dead cause) why later e = e

-- What an accepted command keeps to.

by_state_passed : (s : Standing) (later : Option Why) → by_state s later ≡ None → later ≡ None
by_state_passed state.Created later e = cc
by_state_passed state.Negotiating later e = cc
by_state_passed state.OptMode later e = cc
by_state_passed state.Ready later e = e
by_state_passed state.Closing later e = cc
by_state_passed state.Closed later e = cc
by_state_passed (state.Dead cause) later e = cc

refuse_passed : (b : Bool) (why : Why) (later : Option Why) → refuse b why later ≡ None → (b ≡ false) × (later ≡ None)
refuse_passed true why later e = cc
refuse_passed false why later e = (refl, e)

unsupported_passed : (lack : Option Lack) (later : Option Why) → unsupported lack later ≡ None → later ≡ None
unsupported_passed None later e = e
unsupported_passed (Some lack) later e = cc

-- no kind allows others than those that may be sent
flag_small : (b : Bool) (n : ℕ) → flag_if b n ≤ n
flag_small true n = omega arith
flag_small false n = omega arith

allowed_small : (terms : Terms) (kind : Kind) → allowed terms kind ≤ sendable_flags
allowed_small terms Read = let a = flag_small (has_bit 128 terms.flags && terms.structured) 4 in omega (arith, a)
allowed_small terms Write = let a = flag_small (has_bit 8 terms.flags) 1 in omega (arith, a)
allowed_small terms Flush = omega arith
allowed_small terms Trim = let a = flag_small (has_bit 8 terms.flags) 1 in omega (arith, a)
allowed_small terms Cache = omega arith
allowed_small terms Zero = let a = flag_small (has_bit 8 terms.flags) 1 in let b = flag_small (has_bit 2048 terms.flags) 16 in omega (arith, a, b)
allowed_small terms BlockStatus = omega arith

now_small : (terms : Terms) (kind : Kind) → allowed_now terms kind ≤ sendable_flags
now_small terms kind = go (has_bit strict_flags terms.strict)
  where
    go : (b : Bool) → (if b then allowed terms kind else sendable_flags) ≤ sendable_flags
    go true = allowed_small terms kind
    go false = omega arith

is_zero : (n : ℕ) → not (n == 0) ≡ false → n ≡ 0
is_zero n e = grind (arith, e)

-- an accepted command has no bad flags, and its range is not refused
flags_passed : (limit : ℕ) (terms : Terms) (kind : Kind) (flags offset length : ℕ) → refusal limit terms kind flags offset length ≡ None →
    (bad_flags terms kind flags ≡ 0) × ((if has_range kind then by_range terms kind offset length else None) ≡ None)
flags_passed limit terms kind flags offset length e =
    let ranged : Option Why = if has_range kind then by_range terms kind offset length else None in
    let bad : ℕ = bad_flags terms kind flags in
    let flagged : Option Why = refuse (not (bad == 0)) (why.BadFlags bad) ranged in
    let one : refuse (nat_le limit terms.held) (why.TooMany limit) (unsupported (lack_now terms kind) flagged) ≡ None = by_state_passed terms.state (refuse (nat_le limit terms.held) (why.TooMany limit) (unsupported (lack_now terms kind) flagged)) e in
    let two = refuse_passed (nat_le limit terms.held) (why.TooMany limit) (unsupported (lack_now terms kind) flagged) one in
    let three : flagged ≡ None = unsupported_passed (lack_now terms kind) flagged two.1 in
    let four = refuse_passed (not (bad == 0)) (why.BadFlags bad) ranged three in
    (is_zero bad four.0, four.1)

-- no flags are accepted but those that may be sent
pub accepted_flags : (limit : ℕ) (terms : Terms) (kind : Kind) (flags offset length : ℕ) → refusal limit terms kind flags offset length ≡ None → flags ≤ sendable_flags
accepted_flags limit terms kind flags offset length e =
    let none : flags - bit_and flags (allowed_now terms kind) ≡ 0 = (flags_passed limit terms kind flags offset length e).0 in
    omega (arith, none, and_le_r flags (allowed_now terms kind), now_small terms kind)

payload_small : (blocks : Option Blocks) → payload_limit blocks ≤ max_range
payload_small None = omega arith
payload_small (Some blocks) = go (nat_le max_data blocks.maximum) refl
  where
    go : (b : Bool) → nat_le max_data blocks.maximum ≡ b → (if b then max_data else blocks.maximum) ≤ max_range
    go true e = omega arith
    go false e = let low = leb-false max_data blocks.maximum e in omega (arith, low)

range_small : (extended : Bool) → extended ≡ false → range_limit extended ≤ max_range
range_small true e = absurd (false≢true (sym e))
range_small false e = omega arith

limit_small : (terms : Terms) (kind : Kind) → terms.extended ≡ false → length_limit terms kind ≤ max_range
limit_small terms Read e = payload_small terms.blocks
limit_small terms Write e = payload_small terms.blocks
limit_small terms Flush e = range_small terms.extended e
limit_small terms Trim e = range_small terms.extended e
limit_small terms Cache e = range_small terms.extended e
limit_small terms Zero e = range_small terms.extended e
limit_small terms BlockStatus e = range_small terms.extended e

length_passed : (terms : Terms) (kind : Kind) (offset length : ℕ) → by_range terms kind offset length ≡ None → nat_lt (length_limit terms kind) length ≡ false
length_passed terms kind offset length e =
    let aligned : Option Why = refuse (has_bit strict_align terms.strict && not (is_aligned (minimum terms.blocks) offset length)) (why.Align (minimum terms.blocks)) None in
    let bounded : Option Why = refuse (has_bit strict_bounds terms.strict && nat_lt terms.size (offset + length)) (why.Bounds terms.size) aligned in
    let limited : Option Why = refuse (nat_lt (length_limit terms kind) length) (why.TooBig (length_limit terms kind)) bounded in
    let one = refuse_passed (has_bit strict_zero_size terms.strict && (length == 0)) why.ZeroSize limited e in
    (refuse_passed (nat_lt (length_limit terms kind) length) (why.TooBig (length_limit terms kind)) bounded one.1).0

-- where heads are compact a length fits
pub accepted_length : (limit : ℕ) (terms : Terms) (kind : Kind) (flags offset length : ℕ) → has_range kind ≡ true → terms.extended ≡ false → refusal limit terms kind flags offset length ≡ None → length ≤ max_range
accepted_length limit terms kind flags offset length ranged compact e =
    let passed : by_range terms kind offset length ≡ None = subst (λ (b : Bool). (if b then by_range terms kind offset length else None) ≡ None) ranged (flags_passed limit terms kind flags offset length e).1 in
    omega (arith, limit_small terms kind compact, ltb-false (length_limit terms kind) length (length_passed terms kind offset length passed))

-- what a head says of the length
pub head_length : (limit : ℕ) (terms : Terms) (kind : Kind) (flags offset length told : ℕ) → refusal limit terms kind flags offset length ≡ None → told ≡ (if has_range kind then length else 0) → terms.extended ≡ false → told ≤ max_range
head_length limit terms kind flags offset length told accepted e compact = go (has_range kind) refl e
  where
    go : (b : Bool) → has_range kind ≡ b → told ≡ (if b then length else 0) → told ≤ max_range
    go true ranged is = let fits = accepted_length limit terms kind flags offset length ranged compact accepted in omega (arith, fits, is)
    go false ranged is = omega (arith, is)

-- A command is accepted only before the last piece is queued.
pub accepted_open : (stage : Stage) (phase : Phase) (ended : Bool) (later : Option Why) → by_state (state_at stage phase) later ≡ None → Stands stage phase ended → ended ≡ false
accepted_open Created phase ended later e stands = stands
accepted_open Open phase ended later e stands = stands
accepted_open Disconnecting phase ended later e stands = cc
accepted_open Aborting phase ended later e stands = cc
accepted_open Closed phase ended later e stands = cc
accepted_open (Dead cause) phase ended later e stands = cc

-- What is queued.

pub nonzero : (n : ℕ) → (n ≡ 0 → ⊥) → (n == 0) ≡ false
nonzero n h = grind arith

ends_pieces : (head : RequestBytes) (cookie size : ℕ) → ends_among (pieces_of head cookie size) ≡ 1
ends_pieces head cookie size = go (size == 0)
  where
    go : (b : Bool) → ends_among (if b then Whole head ∷ [] else Head head ∷ Own cookie size ∷ []) ≡ 1
    go true = refl
    go false = refl

ahead_pieces : (flies : ℕ → Bool) (written : ℕ) (pieces : List Piece) (head : RequestBytes) (cookie size : ℕ) → AreAhead flies written pieces → written + ends_among pieces < cookie → flies cookie ≡ true →
    AreAhead flies written (pieces ++ pieces_of head cookie size)
ahead_pieces flies written pieces head cookie size all later is = go (size == 0)
  where
    go : (b : Bool) → AreAhead flies written (pieces ++ (if b then Whole head ∷ [] else Head head ∷ Own cookie size ∷ []))
    go true = ahead_push flies written pieces (Whole head) all tt
    go false =
        let ends : ends_among (pieces ++ Head head ∷ []) ≡ ends_among pieces = ends_both pieces (Head head ∷ []) ∙ add-zero (ends_among pieces) in
        subst (λ ps. AreAhead flies written ps) (append_assoc pieces (Head head ∷ []) (Own cookie size ∷ []))
        (ahead_push flies written (pieces ++ Head head ∷ []) (Own cookie size) (ahead_push flies written pieces (Head head) all tt) (omega (arith, later, ends), is))

-- what a command of this kind sends behind its head
abbrev pub sent_bytes : Kind → List ℕ → List ℕ
sent_bytes kind payload = if is_write kind then payload else []

first_sent : (kind : Kind) (size : ℕ) (payload : List ℕ) → (if is_write kind then first_bytes kind size payload else []) ≡ sent_bytes kind payload
first_sent Read size payload = refl
first_sent Write size payload = refl
first_sent Flush size payload = refl
first_sent Trim size payload = refl
first_sent Cache size payload = refl
first_sent Zero size payload = refl
first_sent BlockStatus size payload = refl

sized_sent : (b : Bool) (payload : List ℕ) (size : ℕ) → size ≡ (if b then length payload else 0) → (size == 0) ≡ false → length (if b then payload else []) ≡ size
sized_sent true payload size is some = sym is
sized_sent false payload size is some = sym is

parts_are : (b : Bool) (head payload : List ℕ) (size : ℕ) → size ≡ (if b then length payload else 0) →
    parts_of head size (if b then payload else []) ≡ (if b && not (is_empty payload) then plain head ∷ last_of payload ∷ [] else last_of head ∷ [])
parts_are true head [] size is = ap (λ (n : ℕ). parts_of head n []) is
parts_are true head (x ∷ payload) size is = ap (λ (z : Bool). if z then last_of head ∷ [] else plain head ∷ last_of (x ∷ payload) ∷ []) (nonzero size (λ none. absurd (omega (arith, is, none))))
parts_are false head payload size is = ap (λ (n : ℕ). parts_of head n []) is

module _ {K : Type 0} where
  -- A command that is issued.

  pub head_as : (command : Command K) (on told : Bool) (kind : Kind) (flags cookie next offset length : ℕ) → told ≡ on → kind ≡ command.kind → flags ≡ command.flags → cookie ≡ next →
      offset ≡ (if has_range command.kind then command.offset else 0) → length ≡ (if has_range command.kind then command.length else 0) → head told kind flags cookie offset length ≡ head_of on next command
  head_as command on told kind flags cookie next offset length t k f c o l =
      ap (λ (b : Bool). head b kind flags cookie offset length) t
      ∙ ap (λ (x : Kind). head on x flags cookie offset length) k
      ∙ ap (λ (n : ℕ). head on command.kind n cookie offset length) f
      ∙ ap (λ (n : ℕ). head on command.kind command.flags n offset length) c
      ∙ ap (λ (n : ℕ). head on command.kind command.flags next n length) o
      ∙ ap (λ (n : ℕ). head on command.kind command.flags next (if has_range command.kind then command.offset else 0) n) l
      ∙ go (has_range command.kind)
    where
      go : (b : Bool) → head on command.kind command.flags next (if b then command.offset else 0) (if b then command.length else 0)
          ≡ (if b then head on command.kind command.flags next command.offset command.length else head on command.kind command.flags next 0 0)
      go true = refl
      go false = refl

  admits : (first : Option K) (log : Log) → ((admitting first log).notes ≡ log.notes) × ((admitting first log).admitted ≡ log.admitted + callbacks first)
  admits None log = (refl, refl)
  admits (Some first) log = (refl, omega arith)

  left_row : (r : Option (Row K)) (cookie : ℕ) (rows more : List (ℕ × Row K)) → value_at cookie rows ≡ r → is_some (flight_of_row r) ≡ true → value_at cookie (rows ++ more) ≡ r
  left_row None cookie rows more e flies = absurd (false≢true flies)
  left_row (Some row) cookie rows more e flies = value_at_left cookie row rows more e

  issuing_keeps : (written : ℕ) (command : Command K) (old : Commands K) → KeepsUnwritten written old (issuing command old)
  issuing_keeps written command old cookie later flies = left_row (value_at cookie old.rows) cookie old.rows _ refl flies

  -- What was queued of a command that was issued: its head, and behind it the bytes of a write, which stay with it.
  pub record Queues (old : Connection K) (command : Command K) (queue : Queue) : Type 0 where
    pub head : RequestBytes
    pub cookie : ℕ
    pub size : ℕ
    pub cookie_is : cookie ≡ old.commands.issued + 1
    pub head_is : head_bytes head ≡ head_of old.talk.extended (old.commands.issued + 1) command
    pub size_is : size ≡ (if is_write command.kind then length command.payload else 0)
    pub waits : (writes : Writes) → waits writes queue ≡ waits writes old.queue ++ parts_of (head_bytes head) size (writes cookie)
    pub pieces : queue.pieces ≡ old.queue.pieces ++ pieces_of head cookie size
    pub fits : (writes : Writes) → ((size == 0) ≡ false → length (writes cookie) ≡ size) → AllFit writes old.queue.pieces → AllFit writes queue.pieces
    pub ended : queue.ended ≡ old.queue.ended

  module _ (old : Connection K) (command : Command K) (queue : Queue) (below : IsBelow old.commands.rows (old.commands.issued + 1)) (q : Queues old command queue) (s : IsSound old) where
    abbrev pub next : ℕ
    next = old.commands.issued + 1

    abbrev pub grown : Commands K
    grown = issuing command old.commands

    keeps : KeepsUnwritten old.written old.commands grown
    keeps = issuing_keeps old.written command old.commands

    found : value_at next grown.rows ≡ Some (new_row (request_of old.commands.log.admitted command))
    found = value_at_last next (new_row (request_of old.commands.log.admitted command)) old.commands.rows below

    own : writes_in grown q.cookie ≡ sent_bytes command.kind command.payload
    own = ap (λ (n : ℕ). writes_in grown n) q.cookie_is ∙ ap (λ (r : Option (Row K)). payload_as r) found ∙ first_sent command.kind command.length command.payload

    flies : flies_in grown q.cookie ≡ true
    flies = ap (λ (n : ℕ). flies_in grown n) q.cookie_is ∙ ap (λ (r : Option (Row K)). is_some (flight_of_row r)) found

    parts : waits (writes_in grown) queue ≡ waits_in old ++ command_parts old.talk.extended next command
    parts =
        q.waits (writes_in grown)
        ∙ ap (λ (ps : List Part). ps ++ parts_of (head_bytes q.head) q.size (writes_in grown q.cookie)) (kept_waits old grown keeps s)
        ∙ ap (λ (bytes : List ℕ). waits_in old ++ parts_of (head_bytes q.head) q.size bytes) own
        ∙ ap (λ (ps : List Part). waits_in old ++ ps) (parts_are (is_write command.kind) (head_bytes q.head) command.payload q.size q.size_is)
        ∙ ap (λ (h : List ℕ). waits_in old ++ (if is_write command.kind && not (is_empty command.payload) then plain h ∷ last_of command.payload ∷ [] else last_of h ∷ [])) q.head_is

    does : state_of (record old { queue = queue; commands = grown }) ≡ issued command (state_of old)
    does =
        let log = admits command.first old.commands.log in
        ap (λ (ps : List Part). record (issued command (state_of old)) { waits = ps; notes = (admitting command.first old.commands.log).notes; admitted = (admitting command.first old.commands.log).admitted }) parts
        ∙ ap (λ n. record (issued command (state_of old)) { notes = n; admitted = (admitting command.first old.commands.log).admitted }) log.0
        ∙ ap (λ (n : ℕ). record (issued command (state_of old)) { admitted = n }) log.1

    ends : ends_among queue.pieces ≡ ends_among old.queue.pieces + 1
    ends = ap ends_among q.pieces ∙ ends_both old.queue.pieces (pieces_of q.head q.cookie q.size) ∙ ap (λ (n : ℕ). ends_among old.queue.pieces + n) (ends_pieces q.head q.cookie q.size)

    sound : IsSound (record old { queue = queue; commands = grown })
    sound =
        let same = same_pieces old.commands grown old.written old.queue.pieces keeps s.ahead in
        let before = ends_waits (writes_in old.commands) old.queue in
        record {
          fits = q.fits (writes_in grown) (λ some. ap length own ∙ sized_sent (is_write command.kind) command.payload q.size q.size_is some) (others_fit (writes_in old.commands) (writes_in grown) old.queue.pieces same.0 s.fits);
          ahead = subst (λ ps. AreAhead (flies_in grown) old.written ps) (sym q.pieces)
              (ahead_pieces (flies_in grown) old.written old.queue.pieces q.head q.cookie q.size same.1 (let c = q.cookie_is in omega (arith, before, c, s.counted)) flies);
          stands = subst (λ (b : Bool). Stands old.stage old.talk.phase b) (sym q.ended) s.stands;
          counted = let n = ends_waits (writes_in grown) queue in omega (arith, n, ends, before, s.counted);
        }

    pub issue_does : (commands : Commands K) → commands ≡ grown → state_of (record old { queue = queue; commands = commands }) ≡ issued command (state_of old)
    issue_does commands e = ap (λ (c : Commands K). state_of (record old { queue = queue; commands = c })) e ∙ does

    pub issue_sound : (commands : Commands K) → commands ≡ grown → IsSound (record old { queue = queue; commands = commands })
    issue_sound commands e = subst (λ (c : Commands K). IsSound (record old { queue = queue; commands = c })) (sym e) sound

  pub issued_partial : (command : Command K) (old new : Connection K) (held : List ℕ) → state_of new ≡ issued command (state_of old) → IsPartial (machine_of old held) → IsPartial (machine_of new held)
  issued_partial command old new held e p = subst (λ (s : State K). IsPartial (record { known = s; pending = held })) (sym e) (step_partial (Issue command) (machine_of old held) tt p)

  pub same_partial : (old new : Connection K) (held : List ℕ) → state_of new ≡ state_of old → IsPartial (machine_of old held) → IsPartial (machine_of new held)
  same_partial old new held e p = subst (λ (s : State K). IsPartial (record { known = s; pending = held })) (sym e) p

  -- A command that is refused.

  module _ {World : Type 0} (steps : World → List (Call K) → World → Type 0) where
    refused_keeps : (old : Connection K) (command : Command K) (commands : Commands K) (before after : World) →
        Takes steps (refused (flight_of old.commands.log.admitted command.first command.done) (callbacks command.first)) old.commands commands before after → KeepsUnwritten old.written old.commands commands
    refused_keeps old command commands before after t = rows_keep old.written old.commands commands (sym (ap (λ (d : Doing K). d.state.rows) (t.does (state_of old) [] [])))

    pub refuse_faults : (old : Connection K) (command : Command K) (reason : Why) (buf : List ℕ) (commands : Commands K) (before after : World) → refusal_now 1024 (state_of old) command ≡ Some reason → buf ≡ command.payload → IsSound old →
        Takes steps (refused (flight_of old.commands.log.admitted command.first command.done) (callbacks command.first)) old.commands commands before after →
        (held : List ℕ) → Faults steps command (Refused reason buf) (machine_of old held) (machine_of (record old { commands = commands }) held) before after
    refuse_faults old command reason buf commands before after r b s t held = (
      r,
      b,
      record {
        machine =
            ap (λ (now : State K). record { known = now; pending = held }) (kept_state old commands (refused_keeps old command commands before after t) s)
            ∙ sym (ap (λ (d : Doing K). record { known = d.state; pending = held }) (t.does (state_of old) [] []));
        world = subst (λ made. steps before made after) (sym (ap (λ (d : Doing K). d.calls) (t.does (state_of old) [] []))) t.world;
      },
    )

    pub refuse_sound : (old : Connection K) (command : Command K) (commands : Commands K) (before after : World) →
        Takes steps (refused (flight_of old.commands.log.admitted command.first command.done) (callbacks command.first)) old.commands commands before after → IsSound old → IsSound (record old { commands = commands })
    refuse_sound old command commands before after t s =
        let i = takes_issued steps (refused (flight_of old.commands.log.admitted command.first command.done) (callbacks command.first)) (state_of old) old.commands commands before after (λ d. refl) t in
        kept_sound old commands (refused_keeps old command commands before after t) i s

    pub faults_partial : (command : Command K) (fault : IssueFault K) (old new : Machine K) (before after : World) → Faults steps command fault old new before after → IsPartial old → IsPartial new
    faults_partial command (NoMemory buf first done) old new before after f p = subst (λ (m : Machine K). IsPartial m) (sym f.3) p
    faults_partial command (Refused reason buf) old new before after f p = subst (λ (m : Machine K). IsPartial m) (sym f.2.machine) (step_partial (Refuse command reason) old tt p)

    -- of a read without a buffer
    pub faults_unread : (count offset : ℕ) (first : Option K) (done : K) (flags : ℕ) (fault : IssueFault K) (old new : Machine K) (before after : World) →
        Faults steps (range_of Read count offset first done flags) fault old new before after → FaultsUnread steps count offset first done flags fault old new before after
    faults_unread count offset first done flags (NoMemory buf first_back done_back) old new before after f = f
    faults_unread count offset first done flags (Refused reason buf) old new before after f = (
      f.1,
      λ bytes size. (
        subst (λ (n : ℕ). refusal 1024 (terms_now old.known) Read flags offset n ≡ Some reason) (sym size) f.0,
        record { machine = f.2.machine; world = f.2.world },
      ),
    )
