-- A session that has something to send keeps it until its link is read, and then gives a byte.
use Rattle.std.proofs.Common.{◌≡◌, ◌≢◌, ◌<◌, ◌≤◌, ◌+◌, ◌-◌, ◌||◌, ◌&&◌, ◌==◌, ℕ, zero, suc, Bool, true, false, List, [], ◌∷◌, ◌++◌, length, take, min, nat_le, nat_lt, Some, None, slice_set, if◌then◌else◌, length-append, refl, ap, sym, subst, ◌∙◌, arith}
use Rattle.std.proofs.lemmas.Bool.{eq-eqb, false≢true, lt-ltb}
use Rattle.std.proofs.lemmas.List.{length-take}
use Rattle.std.proofs.lemmas.List.Folds.{list_any-append}
use Rattle.std.specs.List.{list_any}
use Rattle.lnbd_link.specs.Call.{Call, Connect, Listen, Accept, Read, Write, Pause, Shut, ReadTold, Moved, Unready, Ended, WriteTold, Sent, Full, WriteFault}
use Rattle.lnbd_link.specs.declared.wires.Want.{Want}
use Rattle.lnbd_records.proofs.NumberLaws.{length-row}
use Rattle.lnbd_export.specs.Export.{Export}
use Rattle.lnbd_export.specs.Requests.{Reply, Refused, Done, Content, Status}
use Rattle.lnbd_export.specs.declared.request.Replies.{Replies}
use Rattle.lnbd_export.specs.declared.request.Replies.TheVariants.{Simple, Structured, Extended}
use Rattle.lnbd_export.specs.declared.request.Request.{Request}
use Rattle.lnbd_server.specs.Replies.{put_chunk, put_extended, put_reply, put_simple}
use Rattle.lnbd_server.specs.Replies as replies
use Rattle.lnbd_export.specs.Requests.{reply}
use Rattle.lnbd_records.specs.Flags.{reply_flag_done}
use Rattle.lnbd_records.specs.Numbers.{row}
use Rattle.lnbd_records.specs.Transmission.{chunk_head, extended_chunk_head, simple_reply}
use Rattle.lnbd_server.specs.Client.{max_client}
use Rattle.lnbd_server.specs.Session.{Dialogue, Session, State, Takes, after_bytes, is_closed, past_limit, rules, with_export}
use Rattle.lnbd_server.specs.declared.stage.Stage.TheVariants.{Strayed}
use Rattle.lnbd_stream.specs.Stream.{Held, feed}
use Rattle.lnbd_memnet.specs.declared.hosted.Hosted.{Hosted}
use Rattle.lnbd_memnet.specs.declared.link.Link.{Link}
use Rattle.lnbd_memnet.specs.declared.schedule.Step.{Step}
use Rattle.lnbd_memnet.specs.Laws.{reads_on}
use Rattle.lnbd_memnet.specs.Network.{Network, link_in, new_link}
use Rattle.lnbd_memnet.specs.Plays.{DeliversIf, Gives, Plays, Readies, ReadsIf, WritesIf, all_due, due_at, has_ended, has_to_answer, share, told}
use Rattle.lnbd_memnet.specs.Wires.{None_yet, Played, Then}
use Rattle.lnbd_rehearsal.specs.Carrying.{carries_bytes}

-- how many bytes wait to go out and how many replies are pending
abbrev pub stock : Session → ℕ
stock session = length session.dialogue.out + length session.dialogue.waiting

-- What stands behind the links.

stock_set : (links : List Link) (k : ℕ) (link : Link) → stock link.session ≡ stock (link_in links k).session → (n : ℕ) → stock (link_in (slice_set links k link) n).session ≡ stock (link_in links n).session
stock_set [] k link same n = refl
stock_set (first ∷ links) zero link same zero = same
stock_set (first ∷ links) zero link same (suc n) = refl
stock_set (first ∷ links) (suc k) link same zero = refl
stock_set (first ∷ links) (suc k) link same (suc n) = stock_set links k link same n

stock_other : (links : List Link) (k : ℕ) (link : Link) (n : ℕ) → k ≢ n → stock (link_in (slice_set links k link) n).session ≡ stock (link_in links n).session
stock_other [] k link n differ = refl
stock_other (first ∷ links) zero link zero differ = absurd (differ refl)
stock_other (first ∷ links) zero link (suc n) differ = refl
stock_other (first ∷ links) (suc k) link zero differ = refl
stock_other (first ∷ links) (suc k) link (suc n) differ = stock_other links k link n (λ e. differ (ap suc e))

-- A link that is new has what no link has.
stock_new : (links : List Link) (place n : ℕ) → stock (link_in (links ++ new_link place ∷ []) n).session ≡ stock (link_in links n).session
stock_new [] place zero = refl
stock_new [] place (suc n) = refl
stock_new (first ∷ links) place zero = refl
stock_new (first ∷ links) place (suc n) = stock_new links place n

stock_due : (wants : List Want) (links : List Link) (n : ℕ) → stock (link_in (all_due wants links) n).session ≡ stock (link_in links n).session
stock_due [] links n = refl
stock_due (want ∷ wants) links n = stock_due wants (due_at want.link links) n ∙ stock_set links want.link (record (link_in links want.link) { read_due = true; write_due = true }) refl n

-- Bytes that are none.

take_none : (n : ℕ) (bytes : List ℕ) → bytes ≡ [] → take n bytes ≡ []
take_none zero bytes none = refl
take_none (suc n) bytes none = ap (take (suc n)) none

abbrev held_stock : Held State → ℕ
held_stock held = length held.known.out + length held.known.waiting

past_keeps : (held : Held State) → held_stock (past_limit held) ≡ held_stock held
past_keeps held = elim (is_closed held.known.stage) as (λ b. held_stock (if b then held else record { known = record held.known { stage = Strayed }; pending = [] }) ≡ held_stock held) [
  | true ↦ refl
  | false ↦ refl
]

takes_none : (before : Session) (start : Export) (bytes : List ℕ) (after : Session) (end : Export) → bytes ≡ [] → Takes before start bytes after end → stock after ≡ stock before
takes_none before start bytes after end none takes =
    sym (ap held_stock takes.fed) ∙ ap (λ (l : List ℕ). held_stock (after_bytes before.offers before.came l (with_export before.dialogue start))) none ∙ go (nat_le (before.came + 0) max_client)
  where
    go : (b : Bool) → held_stock (if b then feed (rules before.offers) (with_export before.dialogue start) [] else past_limit (feed (rules before.offers) (with_export before.dialogue start) (take (max_client - before.came) []))) ≡ stock before
    go true = refl
    go false =
        ap (λ (l : List ℕ). held_stock (past_limit (feed (rules before.offers) (with_export before.dialogue start) l))) (take_none (max_client - before.came) [] refl) ∙ past_keeps (with_export before.dialogue start)

no_bytes : (bytes : List ℕ) → nat_lt 0 (length bytes) ≡ false → bytes ≡ []
no_bytes [] none = refl
no_bytes (byte ∷ bytes) none = absurd (false≢true (sym none ∙ lt-ltb 0 (length (byte ∷ bytes)) (omega arith)))

-- A call that moves nothing and does not read the link leaves its session with what it has to send.

delivers_stock : (b : Bool) (step : Step) (offered : ℕ) (hosted : Hosted) (before : Link) (n : ℕ) (answer : WriteTold) (after : Link) (end : Hosted) → carries_bytes (Write n offered answer) ≡ false → DeliversIf b step offered hosted before answer after end → stock after.session ≡ stock before.session
delivers_stock true step offered hosted before n (Sent bytes) after end none d = ap (λ (l : Link). stock l.session) d.is ∙ takes_none before.session hosted.export bytes d.session d.export (no_bytes bytes none) d.takes
delivers_stock true step offered hosted before n Full after end none d = absurd d
delivers_stock true step offered hosted before n WriteFault after end none d = absurd d
delivers_stock false step offered hosted before n answer after end none d = ap (λ (l : Link). stock l.session) d.1

writes_stock : (opened : Bool) (step : Step) (exports : List Hosted) (links : List Link) (k offered : ℕ) (answer : WriteTold) (exports' : List Hosted) (after : List Link) (n : ℕ) → carries_bytes (Write k offered answer) ≡ false → WritesIf opened step exports links k offered answer exports' after → stock (link_in after n).session ≡ stock (link_in links n).session
writes_stock true step exports links k offered answer exports' after n none w =
    ap (λ (ls : List Link). stock (link_in ls n).session) w.is ∙ stock_set links k w.link (delivers_stock _ step offered _ (link_in links k) k answer w.link w.hosted none w.delivers) n
writes_stock false step exports links k offered answer exports' after n none w = ap (λ (ls : List Link). stock (link_in ls n).session) w.2

reads_stock : (opened : Bool) (step : Step) (exports : List Hosted) (links : List Link) (k room : ℕ) (answer : ReadTold) (after : List Link) (n : ℕ) → (k == n) ≡ false → ReadsIf opened step exports links k room answer after → stock (link_in after n).session ≡ stock (link_in links n).session
reads_stock true step exports links k room answer after n off r = ap (λ (ls : List Link). stock (link_in ls n).session) r.is ∙ stock_other links k r.link n (λ e. false≢true (sym off ∙ eq-eqb k n e))
reads_stock false step exports links k room answer after n off r = ap (λ (ls : List Link). stock (link_in ls n).session) r.1

same_stock : (n : ℕ) (before after : Network) → after ≡ before → stock (link_in after.links n).session ≡ stock (link_in before.links n).session
same_stock n before after e = ap (λ (k : Network). stock (link_in k.links n).session) e

links_stock : (n : ℕ) (after : Network) (links : List Link) → after.links ≡ links → stock (link_in after.links n).session ≡ stock (link_in links n).session
links_stock n after links e = ap (λ (ls : List Link). stock (link_in ls n).session) e

plays_stock : (n : ℕ) (before after : Network) (call : Call) → Plays before call after → reads_on n call ≡ false → carries_bytes call ≡ false → stock (link_in after.links n).session ≡ stock (link_in before.links n).session
plays_stock n before after (Connect to (Some link)) p off none = ap (λ (k : Network). stock (link_in k.links n).session) p.is ∙ stock_new before.links p.place n
plays_stock n before after (Connect to None) p off none = same_stock n before after p.1
plays_stock n before after (Listen at listener) p off none = same_stock n before after p.1
plays_stock n before after (Accept listener answer) p off none = same_stock n before after p.1
plays_stock n before after (Read k room answer) p off none = ap (λ (k : Network). stock (link_in k.links n).session) p.is ∙ reads_stock _ _ before.exports before.links k room answer p.links n off p.reads
plays_stock n before after (Write k offered answer) p off none = ap (λ (k : Network). stock (link_in k.links n).session) p.is ∙ writes_stock _ _ before.exports before.links k offered answer p.exports p.links n none p.writes
plays_stock n before after (Pause wants) p off none = ap (λ (k : Network). stock (link_in k.links n).session) p ∙ stock_due wants before.links n
plays_stock n before after (Shut k) p off none = ap (λ (k : Network). stock (link_in k.links n).session) p ∙ stock_set before.links k (record (link_in before.links k) { opened = false }) refl n

-- A pause changes none of it.
pub paused_stock : (n : ℕ) (before after : Network) (wants : List Want) → Plays before (Pause wants) after → stock (link_in after.links n).session ≡ stock (link_in before.links n).session
paused_stock n before after wants p = plays_stock n before after (Pause wants) p refl refl

first_none : (a b : Bool) → (a || b) ≡ false → a ≡ false
first_none true b e = e
first_none false b e = refl

second_none : (a b : Bool) → (a || b) ≡ false → b ≡ false
second_none true b e = absurd (false≢true (sym e))
second_none false b e = e

last_none : (p : Call → Bool) (front all : List Call) (call : Call) → all ≡ front ++ call ∷ [] → list_any p all ≡ false → (list_any p front ≡ false) × (p call ≡ false)
last_none p front all call are none =
    let both : (list_any p front || (p call || false)) ≡ false = sym (list_any-append p front (call ∷ [])) ∙ sym (ap (list_any p) are) ∙ none in
    (first_none (list_any p front) (p call || false) both, first_none (p call) false (second_none (list_any p front) (p call || false) both))

pub played_stock : (n : ℕ) (start : Network) (calls : List Call) (network : Network) → Played start calls network → list_any (reads_on n) calls ≡ false → list_any carries_bytes calls ≡ false → stock (link_in network.links n).session ≡ stock (link_in start.links n).session
played_stock n start _ _ (None_yet calls network none is) off still = same_stock n start network is
played_stock n start _ _ (Then front all before after call earlier plays are) off still =
    let reads = last_none (reads_on n) front all call are off in
    let moves = last_none carries_bytes front all call are still in
    plays_stock n before after call plays reads.1 moves.1 ∙ played_stock n start front before earlier reads.0 moves.0

-- A reply has bytes.

simple_some : (cookie : ℕ) (reply : Reply) → 0 < length (put_simple cookie reply)
simple_some cookie (Refused error) = let size = length-row (simple_reply error cookie) in omega (arith, size)
simple_some cookie Done = let size = length-row (simple_reply 0 cookie) in omega (arith, size)
simple_some cookie (Content bytes) = let size = length-row (simple_reply 0 cookie) in omega (arith, size, length-append (row (simple_reply 0 cookie)) bytes)
simple_some cookie (Status descriptors) = let size = length-row (simple_reply 0 cookie) in omega (arith, size)

chunk_some : (cookie : ℕ) (chunk : replies.Chunk) → 0 < length (put_chunk cookie chunk)
chunk_some cookie chunk =
    let size : length (row (chunk_head reply_flag_done chunk.type cookie (length chunk.payload))) ≡ 20 = length-row (chunk_head reply_flag_done chunk.type cookie (length chunk.payload)) in
    omega (arith, size, length-append (row (chunk_head reply_flag_done chunk.type cookie (length chunk.payload))) chunk.payload)

extended_some : (cookie offset : ℕ) (chunk : replies.Chunk) → 0 < length (put_extended cookie offset chunk)
extended_some cookie offset chunk =
    let size : length (row (extended_chunk_head reply_flag_done chunk.type cookie offset (length chunk.payload))) ≡ 32 = length-row (extended_chunk_head reply_flag_done chunk.type cookie offset (length chunk.payload)) in
    omega (arith, size, length-append (row (extended_chunk_head reply_flag_done chunk.type cookie offset (length chunk.payload))) chunk.payload)

reply_some : (agreed : Replies) (request : Request) (reply : Reply) → 0 < length (put_reply agreed request reply)
reply_some Simple request reply = simple_some request.cookie reply
reply_some Structured request reply = chunk_some request.cookie (replies.chunk_of request.offset reply)
reply_some Extended request reply = extended_some request.cookie request.offset (replies.extended_chunk_of request.offset reply)

-- Then a read that is let in gives a byte.

ready_some : (b : Bool) (before : Session) (pick : ℕ) (export : Export) (ready : Session) → has_to_answer before ≡ b → 0 < stock before → Readies b before pick export ready → 0 < length ready.dialogue.out
ready_some true before pick export ready is some answers =
    let made = answers.replies in
    let bytes = reply_some before.dialogue.agreed.replies made.request (reply before.dialogue.agreed export made.request) in
    let long : length ready.dialogue.out ≡ length (before.dialogue.out ++ put_reply before.dialogue.agreed.replies made.request (reply before.dialogue.agreed export made.request)) = ap (λ (d : Dialogue). length d.out) made.is in
    omega (arith, bytes, long, length-append before.dialogue.out (put_reply before.dialogue.agreed.replies made.request (reply before.dialogue.agreed export made.request)))
ready_some false before pick export ready is some same = subst (λ (s : Session). 0 < length s.dialogue.out) (sym same) (go before.dialogue.out before.dialogue.waiting is some)
  where
    go : (out : List ℕ) (waiting : List Request) → ((length out == 0) && nat_lt 0 (length waiting)) ≡ false → 0 < length out + length waiting → 0 < length out
    go (byte ∷ out) waiting none some = omega arith
    go [] [] none some = absurd (omega (arith, some))
    go [] (request ∷ waiting) none some = absurd (false≢true (sym none ∙ lt-ltb 0 (length (request ∷ waiting)) (omega arith)))

gives_some : (n : ℕ) (session : Session) → 0 < n → n ≤ length session.dialogue.out → (bytes : List ℕ) × (told n session ≡ Moved bytes) × (0 < length bytes)
gives_some n session some less = (
  take n session.dialogue.out,
  ap (λ (b : Bool). if b then Moved (take n session.dialogue.out) else (if has_ended session.dialogue.stage then Ended else Unready)) (lt-ltb 0 n some),
  let size : length (take n session.dialogue.out) ≡ min n (length session.dialogue.out) = length-take n session.dialogue.out in omega (arith, size, some, less),
)

pub gives_byte : (step : Step) (room : ℕ) (export : Export) (before : Link) (answer : ReadTold) (after : Link) → Gives step room export before answer after → 0 < stock before.session → 1 ≤ step.most → 0 < room → (bytes : List ℕ) × (answer ≡ Moved bytes) × (0 < length bytes)
gives_byte step room export before answer after gives some most has =
    let out = ready_some (has_to_answer before.session) before.session step.pick export gives.ready refl some gives.readies in
    let share_is : share step room gives.ready ≡ min (min step.most room) (length gives.ready.dialogue.out) = refl in
    let one = gives_some (share step room gives.ready) gives.ready (omega (arith, out, most, has)) (omega arith) in
    (one.0, gives.answers ∙ one.1, one.2)
