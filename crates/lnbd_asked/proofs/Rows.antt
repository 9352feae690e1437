-- Small transcripts, worked out.
use Rattle.std.proofs.Common.{◌≡◌, ℕ, true, false, List, [], ◌∷◌, ◌++◌, Some, None, refl, take, drop}
use Rattle.lnbd_model.specs.declared.failure.Origin.TheVariants as from
use Rattle.lnbd_model.specs.declared.kind.Kind.{Kind}
use Rattle.lnbd_model.specs.declared.kind.Kind.TheVariants as kind
use Rattle.lnbd_model.specs.declared.target.Place.{Place}
use Rattle.lnbd_model.specs.declared.target.Target.TheVariants.{Unix}
use Rattle.lnbd_outcome.specs.Outcome.{Done, Failed, Unfinished}
use Rattle.lnbd_link.specs.Call.{Call, Connect, Read, Write, Moved, Sent, Ended}
use Rattle.lnbd_history.specs.Commands.{Command}
use Rattle.lnbd_asked.specs.Link.{Nobody}
use Rattle.lnbd_asked.specs.Transcript.{dealt_with}
use Rattle.lnbd_asked.proofs.Bytes.{computing, hello, flags, by_name, go, structured, meta, extended, ack, unsup, gone_to, by_name_reply, context_told, read, write, status, zeroes, disc, extended_status, extended_write, lacking_write, done, done_with, failed, chunks_8_9, status_told, extended_done, extended_status_told}

-- the export a behind the socket s
abbrev pub place : Place
place = record { to = Unix (0x73 ∷ []); name = 0x61 ∷ [] }

abbrev pub connect : Call
connect = Connect (Unix (0x73 ∷ [])) (Some 0)

abbrev pub went : List ℕ → Call
went bytes = Write 0 65536 (Sent bytes)

abbrev pub came : List ℕ → Call
came bytes = Read 0 65536 (Moved bytes)

abbrev pub asks : Kind → (flags offset length : ℕ) → List ℕ → Command Nobody
asks kind flags offset length payload = record { kind = kind; flags = flags; offset = offset; length = length; payload = payload; first = None; done = tt }

-- A READ that is answered.

abbrev pub ready : List Call
ready = connect ∷ came hello ∷ went (flags ++ go) ∷ came (gone_to 4) ∷ []

abbrev pub asked_read : List Call
asked_read = ready ++ went read ∷ []

abbrev pub answered : List Call
answered = asked_read ++ came (done_with (8 ∷ 9 ∷ [])) ∷ []

size_is_told : (dealt_with place ready).size 0 ≡ Some 4
unfolding computing
size_is_told = refl

read_is_asked : (dealt_with place asked_read).asked 0 1 ≡ Some (asks kind.Read 0 1 2 [])
unfolding computing
read_is_asked = refl

not_asked_before : (dealt_with place ready).asked 0 1 ≡ None
unfolding computing
not_asked_before = refl

read_is_unanswered : (dealt_with place asked_read).outcome 0 1 ≡ Unfinished
unfolding computing
read_is_unanswered = refl

read_is_answered : (dealt_with place answered).outcome 0 1 ≡ Done (8 ∷ 9 ∷ [])
unfolding computing
read_is_answered = refl

-- However the bytes are cut.

abbrev pub in_pieces : List Call
in_pieces = connect ∷ came (take 5 hello) ∷ came (drop 5 hello) ∷ went (flags ++ take 3 go) ∷ went (drop 3 go) ∷ came (take 39 (gone_to 4)) ∷ came (drop 39 (gone_to 4))
    ∷ went (take 20 read) ∷ went (drop 20 read) ∷ came (take 17 (done_with (8 ∷ 9 ∷ []))) ∷ came (drop 17 (done_with (8 ∷ 9 ∷ []))) ∷ []

pieces_are_answered : (dealt_with place in_pieces).outcome 0 1 ≡ Done (8 ∷ 9 ∷ [])
unfolding computing
pieces_are_answered = refl

-- a request that isn't wholly written isn't asked
part_is_not_asked : (dealt_with place (ready ++ went (take 27 read) ∷ [])).asked 0 1 ≡ None
unfolding computing
part_is_not_asked = refl

-- Structured replies.

abbrev pub ready_for_chunks : List Call
ready_for_chunks = connect ∷ came hello ∷ went (flags ++ structured) ∷ came (ack 8) ∷ went meta ∷ came context_told ∷ went go ∷ came (gone_to 4) ∷ []

chunks_are_joined : (dealt_with place (ready_for_chunks ++ went read ∷ came chunks_8_9 ∷ [])).outcome 0 1 ≡ Done (8 ∷ 9 ∷ [])
unfolding computing
chunks_are_joined = refl

-- a simple reply to a READ is a breach then
simple_is_broken : (dealt_with place (ready_for_chunks ++ went read ∷ came (done_with (8 ∷ 9 ∷ [])) ∷ [])).outcome 0 1 ≡ Failed (record { origin = from.Lost; error = 107 }) (0 ∷ 0 ∷ [])
unfolding computing
simple_is_broken = refl

structured_is_refused : (dealt_with place (connect ∷ came hello ∷ went (flags ++ structured) ∷ came (unsup 8) ∷ went go ∷ came (gone_to 4) ∷ went read ∷ came (done_with (8 ∷ 9 ∷ [])) ∷ [])).outcome 0 1 ≡ Done (8 ∷ 9 ∷ [])
unfolding computing
structured_is_refused = refl

-- Block status: one byte, and three with the bit ZERO.

abbrev pub status_answered : List Call
status_answered = ready_for_chunks ++ went status ∷ came status_told ∷ []

status_is_done : (dealt_with place status_answered).outcome 0 1 ≡ Done []
unfolding computing
status_is_done = refl

first_is_not_zero : (dealt_with place status_answered).zero 0 1 0 ≡ false
unfolding computing
first_is_not_zero = refl

second_is_zero : (dealt_with place status_answered).zero 0 1 1 ≡ true
unfolding computing
second_is_zero = refl

none_is_told_before : (dealt_with place (ready_for_chunks ++ went status ∷ [])).zero 0 1 1 ≡ false
unfolding computing
none_is_told_before = refl

-- Extended headers.

abbrev pub ready_for_extended : List Call
ready_for_extended = connect ∷ came hello ∷ went (flags ++ extended) ∷ came (ack 11) ∷ went meta ∷ came context_told ∷ went go ∷ came (gone_to 4) ∷ []

-- PAYLOAD_LEN is none of the flags that were asked
extended_write_is_asked : (dealt_with place (ready_for_extended ++ went extended_write ∷ [])).asked 0 1 ≡ Some (asks kind.Write 0 0 2 (5 ∷ 6 ∷ []))
unfolding computing
extended_write_is_asked = refl

extended_write_is_done : (dealt_with place (ready_for_extended ++ went extended_write ∷ came extended_done ∷ [])).outcome 0 1 ≡ Done (5 ∷ 6 ∷ [])
unfolding computing
extended_write_is_done = refl

-- a WRITE without PAYLOAD_LEN, a request that isn't extended, and an extended one without the acknowledgement are no client's

lacking_write_strays : (dealt_with place (ready_for_extended ++ went lacking_write ∷ [])).asked 0 1 ≡ None
unfolding computing
lacking_write_strays = refl

short_write_strays : (dealt_with place (ready_for_extended ++ went write ∷ [])).asked 0 1 ≡ None
unfolding computing
short_write_strays = refl

long_write_strays : (dealt_with place (ready ++ went extended_write ∷ [])).asked 0 1 ≡ None
unfolding computing
long_write_strays = refl

extended_status_is_zero : (dealt_with place (ready_for_extended ++ went extended_status ∷ came extended_status_told ∷ [])).zero 0 1 3 ≡ true
unfolding computing
extended_status_is_zero = refl

-- What else a link can say.

-- a server that answers before it is asked
abbrev ahead : List Call
ahead = connect ∷ came (hello ++ unsup 8 ++ unsup 7 ++ by_name_reply) ∷ went (flags ++ structured) ∷ went go ∷ went by_name ∷ []

ahead_is_ready : (dealt_with place ahead).size 0 ≡ Some 4
unfolding computing
ahead_is_ready = refl

ahead_is_answered : (dealt_with place (ahead ++ went write ∷ came done ∷ [])).outcome 0 1 ≡ Done (5 ∷ 6 ∷ [])
unfolding computing
ahead_is_answered = refl

-- a reply to a request that isn't wholly written ends the connection
early_is_broken : (dealt_with place (ready ++ went (take 27 read) ∷ came (done_with (8 ∷ 9 ∷ [])) ∷ went (drop 27 read) ∷ [])).outcome 0 1 ≡ Unfinished
unfolding computing
early_is_broken = refl

-- what is in flight at the server's end fails
end_fails : (dealt_with place (asked_read ++ Read 0 65536 Ended ∷ [])).outcome 0 1 ≡ Failed (record { origin = from.Lost; error = 107 }) (0 ∷ 0 ∷ [])
unfolding computing
end_fails = refl

error_is_told : (dealt_with place (asked_read ++ came failed ∷ [])).outcome 0 1 ≡ Failed (record { origin = from.Told; error = 5 }) (0 ∷ 0 ∷ [])
unfolding computing
error_is_told = refl

-- a link of another address, and of another name, is none of this export's

other_address : (dealt_with (record { to = Unix (0x74 ∷ []); name = 0x61 ∷ [] }) answered).asked 0 1 ≡ None
unfolding computing
other_address = refl

other_name : (dealt_with (record { to = Unix (0x73 ∷ []); name = 0x62 ∷ [] }) answered).asked 0 1 ≡ None
unfolding computing
other_name = refl

other_link : (dealt_with place answered).asked 1 1 ≡ None
unfolding computing
other_link = refl

-- requests before the ending one: the WRITE is answered, the WRITE_ZEROES and DISC are not
two_are_asked : (dealt_with place (ready ++ went (write ++ zeroes ++ disc) ∷ came done ∷ [])).asked 0 2 ≡ Some (asks kind.Zero 0 0 2 [])
unfolding computing
two_are_asked = refl
