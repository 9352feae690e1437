-- Between two pauses of a copy over served wires the link that the first wanted is tried, and that moves a byte.
use Rattle.std.proofs.Common.{◌≡◌, ◌≢◌, ◌⊎◌, inl, inr, ◌<◌, ◌≤◌, ◌||◌, ◌==◌, ℕ, zero, suc, Bool, true, false, List, [], ◌∷◌, ◌++◌, length, Any, Some, None, not, if◌then◌else◌, refl, ap, sym, subst, ◌∙◌, append_assoc, arith}
use Rattle.std.proofs.lemmas.Bool.{cases_lt, eq-eqb, false≢true, lt-ltb}
use Rattle.std.proofs.lemmas.List.Folds.{list_any-append}
use Rattle.std.specs.List.{list_any}
use Rattle.lnbd_model.specs.declared.export.ExportInfo.{ExportInfo}
use Rattle.lnbd_model.specs.declared.state.State.{State}
use Rattle.lnbd_model.specs.declared.state.State.TheVariants as state
use Rattle.lnbd_model.specs.declared.target.Place.{Place}
use Rattle.lnbd_model.specs.declared.target.Target.{Target}
use Rattle.lnbd_history.specs.Answers.{direction_after, direction_of, in_flight_after, is_living, out_after, state_after}
use Rattle.lnbd_history.specs.Events.{History, Set, StrictMode, Start, Opt, Abort, Issue, Refuse, Disconnect, Wrote, Arrived, End, LinkFailed, Retire, ClearLog, Close}
use Rattle.lnbd_history.specs.History.{reading}
use Rattle.lnbd_handle.specs.Histories.{max_unretired}
use Rattle.lnbd_link.specs.Call.{Call, Connect, Listen, Accept, Read, Write, Pause, Shut, ReadTold, Moved, Unready, Ended, ReadFault, WriteTold, Sent, Full, WriteFault}
use Rattle.lnbd_link.specs.Numbers.{is_given, is_number, is_open, open_after}
use Rattle.lnbd_link.specs.Traffic.{bytes_written}
use Rattle.lnbd_link.specs.declared.wires.Want.{Want}
use Rattle.lnbd_link.proofs.Openings.{open_after-append}
use Rattle.lnbd_asked.specs.Link.{Both}
use Rattle.lnbd_asked.specs.Transcript.{after_call, untold}
use Rattle.lnbd_plan.specs.declared.options.CopyOptions.{CopyOptions}
use Rattle.lnbd_poll.specs.Alone.{calls_on, link_of}
use Rattle.lnbd_poll.specs.Held.{is_on_its_way, is_wanting}
use Rattle.lnbd_drives.proofs.Modes.{arrived_mode, end_mode, fault_mode, inward_mode, mode}
use Rattle.lnbd_spoken.specs.Little.{longest_handshake}
use Rattle.lnbd_spoken.specs.Speaking.{SaysWell, SpeaksFrom, SpeaksWell}
use Rattle.lnbd_spoken.proofs.Driving.{driven_speak_well}
use Rattle.lnbd_board.specs.declared.ticket.Ticket.{Ticket}
use Rattle.lnbd_course.specs.Between.{place_of}
use Rattle.lnbd_conduct.specs.Begun.{opened, DrivenBy}
use Rattle.lnbd_conduct.specs.Conduct.{Conducts}
use Rattle.lnbd_conduct.specs.Driven.{AllMayCome, AreDrivenTo, asks_extents_on}
use Rattle.lnbd_conduct.specs.Grounds.{Drove, IsShown}
use Rattle.lnbd_conduct.specs.Told.{AtSome}
use Rattle.lnbd_conduct.specs.Waiting.{WroteAtMost, WroteLittle, most_written, IsWaitedFor, WaitsWell}
use Rattle.lnbd_conduct.specs.Pauses.{WereTried, WantsOnlyEmpty, is_for_reading}
use Rattle.lnbd_usage.specs.Vain.{WasReadInVain, has_happened}
use Rattle.lnbd_conduct.specs.Pauses as tries
use Rattle.lnbd_conduct.specs.Sides.{is_source}
use Rattle.lnbd_memnet.specs.declared.link.Link.{Link}
use Rattle.lnbd_memnet.specs.Laws.{WasWanted, reads_on, writes_on}
use Rattle.lnbd_memnet.specs.Network.{Network, export_in, link_in}
use Rattle.lnbd_memnet.specs.Schedule.{Moves, step_at}
use Rattle.lnbd_memnet.specs.Wires.{Came, Played}
use Rattle.lnbd_memnet.proofs.Numbered.{came_numbered}
use Rattle.lnbd_memnet.proofs.Wanted.{reads_are_let_in}
use Rattle.lnbd_server.specs.Client.{max_client}
use Rattle.lnbd_served.proofs.Faces.{face_back, played_face}
use Rattle.lnbd_served.proofs.Taking.{same_servable}
use Rattle.lnbd_served.proofs.Targets.{Targets}
use Rattle.lnbd_lively.specs.Lively.{AreServable, WaitsToRead}
use Rattle.lnbd_lively.proofs.Answering.{targets_all}
use Rattle.lnbd_lively.proofs.Parting.{asks_no_end}
use Rattle.lnbd_lively.proofs.Unnamed.{driven_answer}
use Rattle.lnbd_rehearsal.specs.Carrying.{AreSmall, BytesAreMoved, CopiesMoveBytes, carries_bytes, largest}
use Rattle.lnbd_rehearsal.proofs.Cutting.{Cut, Paused, all_none, let_in, moves_one, paused_at, played_count, played_cut, played_schedule}
use Rattle.lnbd_rehearsal.proofs.Sending.{gives_byte, paused_stock, played_stock, stock}
use Rattle.lnbd_rehearsal.proofs.ToldSizes.{told_size}

-- The clients of a copy's links speak well, at each moment.

cons_none : {A : Type 0} (x : A) (xs : List A) → x ∷ xs ≡ [] → ⊥
cons_none x xs e = cc

off_tail : (link : ℕ) (call : Call) (calls : List Call) → calls_on link (call ∷ calls) ≡ [] → (is_number link (link_of call) ≡ false) × (calls_on link calls ≡ [])
off_tail link call calls none = go (is_number link (link_of call)) refl none
  where
    go : (b : Bool) → is_number link (link_of call) ≡ b → (if b then call ∷ calls_on link calls else calls_on link calls) ≡ [] → (is_number link (link_of call) ≡ false) × (calls_on link calls ≡ [])
    go true is some = absurd (cons_none call (calls_on link calls) some)
    go false is rest = (is, rest)

off_says : (link : ℕ) (both : Both) (call : Call) → is_number link (link_of call) ≡ false → SaysWell link both call
off_says link both (Write n offered (Sent bytes)) off = λ same. absurd (false≢true (sym off ∙ eq-eqb n link same))
off_says link both (Write n offered Full) off = tt
off_says link both (Write n offered WriteFault) off = tt
off_says link both (Read n room answer) off = tt
off_says link both (Connect to given) off = tt
off_says link both (Listen at given) off = tt
off_says link both (Accept n answer) off = tt
off_says link both (Pause wants) off = tt
off_says link both (Shut n) off = tt

unused_speaks : (link : ℕ) (both : Both) (calls : List Call) → calls_on link calls ≡ [] → SpeaksFrom link both calls
unused_speaks link both [] none = tt
unused_speaks link both (call ∷ calls) none =
    let off = off_tail link call calls none in
    (off_says link both call off.0, unused_speaks link (after_call link both call) calls off.1)

speaks_front : (link : ℕ) (both : Both) (calls more : List Call) → SpeaksFrom link both (calls ++ more) → SpeaksFrom link both calls
speaks_front link both [] more speaks = tt
speaks_front link both (call ∷ calls) more speaks = (speaks.0, speaks_front link (after_call link both call) calls more speaks.1)

-- Opt mode stays off.
since_mode : (first since : History Ticket) → AllMayCome since → mode first ≡ false → mode (since ++ first) ≡ false
since_mode first [] come off = off
since_mode first (Set one ∷ before) come off = absurd (false≢true come.0)
since_mode first (StrictMode bits ∷ before) come off = absurd (false≢true come.0)
since_mode first (Start ∷ before) come off = absurd (false≢true come.0)
since_mode first (Opt option ∷ before) come off = absurd (false≢true come.0)
since_mode first (Abort ∷ before) come off = absurd (false≢true come.0)
since_mode first (Issue command ∷ before) come off = inward_mode (before ++ first) (Issue command) refl refl (since_mode first before come.1 off)
since_mode first (Refuse command why ∷ before) come off = absurd (false≢true come.0)
since_mode first (Disconnect ∷ before) come off = inward_mode (before ++ first) Disconnect refl refl (since_mode first before come.1 off)
since_mode first (Wrote n ∷ before) come off = since_mode first before come.1 off
since_mode first (Arrived bytes answers ∷ before) come off = arrived_mode (before ++ first) bytes answers ∙ since_mode first before come.1 off
since_mode first (End answers ∷ before) come off = end_mode (before ++ first) answers ∙ since_mode first before come.1 off
since_mode first (LinkFailed answers ∷ before) come off = fault_mode (before ++ first) answers ∙ since_mode first before come.1 off
since_mode first (Retire cookie ∷ before) come off = absurd (false≢true come.0)
since_mode first (ClearLog ∷ before) come off = inward_mode (before ++ first) ClearLog refl refl (since_mode first before come.1 off)
since_mode first (Close ∷ before) come off = absurd (false≢true come.0)

opened_mode : (name : List ℕ) (extents : Bool) → mode (opened name extents) ≡ false
opened_mode name true = refl
opened_mode name false = refl

pub speak_well : (side : ℕ → Bool) (extents blank flush : Bool) (from to : Place) (calls more all : List Call) → AreDrivenTo side extents blank flush from to all → all ≡ calls ++ more → (link : ℕ) → SpeaksWell link calls
speak_well side extents blank flush from to calls more all driven are link = speaks_front link untold calls more (subst (SpeaksWell link) are (go (is_given link all) refl))
  where
    go : (b : Bool) → is_given link all ≡ b → SpeaksWell link all
    go true given =
        let was = driven.each link given in
        let off : mode was.history ≡ false = ap mode was.began.are ∙ since_mode _ was.began.since was.began.come (opened_mode (place_of from to (driven.has link)).name (asks_extents_on link extents all)) in
        driven_speak_well link all (record { limit = max_unretired; history = was.history; unread = was.unread; lawful = was.lawful; spelled = was.spelled; mode = off; drives = was.drives })
    go false free = unused_speaks link untold all (driven.none link free)

-- A link that is tried.

-- Nothing happened since it was read: it is open still.
open_still : (link : ℕ) (was : Bool) (calls : List Call) → list_any has_happened calls ≡ false → open_after link was calls ≡ was
open_still link was [] nothing = refl
open_still link was (Connect to given ∷ calls) nothing = absurd (false≢true (sym nothing))
open_still link was (Listen at given ∷ calls) nothing = absurd (false≢true (sym nothing))
open_still link was (Accept n answer ∷ calls) nothing = absurd (false≢true (sym nothing))
open_still link was (Read n room (Moved bytes) ∷ calls) nothing = absurd (false≢true (sym nothing))
open_still link was (Read n room Unready ∷ calls) nothing = open_still link was calls nothing
open_still link was (Read n room Ended ∷ calls) nothing = absurd (false≢true (sym nothing))
open_still link was (Read n room ReadFault ∷ calls) nothing = absurd (false≢true (sym nothing))
open_still link was (Write n offered (Sent bytes) ∷ calls) nothing = absurd (false≢true (sym nothing))
open_still link was (Write n offered Full ∷ calls) nothing = open_still link was calls nothing
open_still link was (Write n offered WriteFault ∷ calls) nothing = absurd (false≢true (sym nothing))
open_still link was (Pause wants ∷ calls) nothing = absurd (false≢true (sym nothing))
open_still link was (Shut n ∷ calls) nothing = absurd (false≢true (sym nothing))

there_if : (links : List Link) (n : ℕ) → (link_in links n).opened ≡ true → n < length links
there_if [] n opened = absurd (false≢true opened)
there_if (first ∷ links) zero opened = omega arith
there_if (first ∷ links) (suc n) opened = let more = there_if links n opened in omega (arith, more)

-- Where a call stands among others.

behind_at : (earlier later between after : List Call) (call one other : Call) → earlier ++ call ∷ later ++ one ∷ between ++ other ∷ after ≡ earlier ++ call ∷ (later ++ one ∷ between ++ other ∷ after)
behind_at earlier later between after call one other =
    ap (λ (l : List Call). l ++ other ∷ after) (append_assoc earlier (call ∷ later) (one ∷ between)) ∙ append_assoc earlier (call ∷ later ++ one ∷ between) (other ∷ after)

within_at : (before between earlier later after : List Call) (one call other : Call) → between ≡ earlier ++ call ∷ later → before ++ one ∷ between ++ other ∷ after ≡ before ++ one ∷ earlier ++ call ∷ (later ++ other ∷ after)
within_at before between earlier later after one call other are =
    ap (λ (l : List Call). before ++ one ∷ l ++ other ∷ after) are ∙ ap (λ (l : List Call). l ++ other ∷ after) (sym (append_assoc before (one ∷ earlier) (call ∷ later))) ∙ append_assoc (before ++ one ∷ earlier) (call ∷ later) (other ∷ after)

-- The first want of some.
any_first : (want : Want) (others : List Want) → Any (λ (one : Want). one.link ≡ want.link) (want ∷ others)
any_first want others = (0, want, omega arith, refl, refl)

first_is : (want : Want) (others : List Want) → Any (λ (one : Want). one ≡ want) (want ∷ others)
first_is want others = (0, want, omega arith, refl, refl)

want_is : (b : Bool) (one want : Want) → (if b then Some one else None) ≡ Some want → (b ≡ true) × (one ≡ want)
want_is true one want e = (refl, cc e)
want_is false one want e = absurd (no e)
  where
    no : None ≡ Some want → ⊥
    no f = cc

which : (living : Bool) (out : List ℕ) → direction_of living out ≢ 0 → (direction_of living out ≡ 1) ⊎ (direction_of living out ≡ 3)
which false out some = absurd (some refl)
which true [] some = inl refl
which true (byte ∷ bytes) some = inr refl

moved_there : (earlier later : List Call) (call : Call) → carries_bytes call ≡ true → list_any carries_bytes (earlier ++ call ∷ later) ≡ true
moved_there earlier later call moves = list_any-append carries_bytes earlier (call ∷ later) ∙ ap (λ (b : Bool). list_any carries_bytes earlier || (b || list_any carries_bytes later)) moves ∙ or_true (list_any carries_bytes earlier)
  where
    or_true : (b : Bool) → (b || true) ≡ true
    or_true true = refl
    or_true false = refl

none_in : (p : Call → Bool) (earlier later : List Call) → list_any p (earlier ++ later) ≡ false → list_any p earlier ≡ false
none_in p earlier later none = left (list_any p earlier) (list_any p later) (sym (list_any-append p earlier later) ∙ none)
  where
    left : (a b : Bool) → (a || b) ≡ false → a ≡ false
    left true b e = e
    left false b e = refl

reads_same : (n : ℕ) (call : Call) → reads_on n call ≡ tries.reads_on n call
reads_same n (Connect to given) = refl
reads_same n (Listen at given) = refl
reads_same n (Accept k answer) = refl
reads_same n (Read k room answer) = refl
reads_same n (Write k offered answer) = refl
reads_same n (Pause wants) = refl
reads_same n (Shut k) = refl

writes_same : (n : ℕ) (call : Call) → writes_on n call ≡ tries.writes_on n call
writes_same n (Connect to given) = refl
writes_same n (Listen at given) = refl
writes_same n (Accept k answer) = refl
writes_same n (Read k room answer) = refl
writes_same n (Write k offered answer) = refl
writes_same n (Pause wants) = refl
writes_same n (Shut k) = refl

any_same : (p q : Call → Bool) → ((call : Call) → p call ≡ q call) → (calls : List Call) → list_any q calls ≡ false → list_any p calls ≡ false
any_same p q same [] none = refl
any_same p q same (call ∷ calls) none = ap (λ (b : Bool). b || list_any p calls) (same call) ∙ go (q call) (list_any q calls) none (any_same p q same calls)
  where
    go : (a b : Bool) → (a || b) ≡ false → (b ≡ false → list_any p calls ≡ false) → (a || list_any p calls) ≡ false
    go true b e rest = e
    go false b e rest = rest e

-- Where a handle waits to read alone, and did not ask for the end of its connection, the session behind its link has something to send.

negotiates : (at : State) → is_on_its_way at ≡ true → at ≢ state.Closing → at ≡ state.Negotiating
negotiates state.Created way going = absurd (false≢true way)
negotiates state.Negotiating way going = refl
negotiates state.OptMode way going = absurd (false≢true way)
negotiates state.Ready way going = absurd (false≢true way)
negotiates state.Closing way going = absurd (going refl)
negotiates state.Closed way going = absurd (false≢true way)
negotiates (state.Dead cause) way going = absurd (false≢true way)

either : (a b : Bool) → (a || b) ≡ true → (a ≡ true) ⊎ (b ≡ true)
either true b e = inl refl
either false b e = inr e

some_fly : (n direction : ℕ) → direction ≡ 1 → (not (n == 0) || (direction == 3)) ≡ true → n ≢ 0
some_fly n direction alone wanting none = false≢true (sym (ap (λ (k : ℕ). not (k == 0) || (direction == 3)) none ∙ ap (λ (d : ℕ). d == 3) alone) ∙ wanting)

waits_to_read : (history : History Ticket) → direction_after history ≡ 1 → is_wanting (state_after history) (in_flight_after history) (direction_after history) ≡ true → state_after history ≢ state.Closing → WaitsToRead history
waits_to_read history alone wanting going =
    record { alone = alone; waits = go (either (is_on_its_way (state_after history)) (not (in_flight_after history == 0) || (direction_after history == 3)) wanting) }
  where
    go : (is_on_its_way (state_after history) ≡ true) ⊎ ((not (in_flight_after history == 0) || (direction_after history == 3)) ≡ true) → (state_after history ≡ state.Negotiating) ⊎ (in_flight_after history ≢ 0)
    go (inl way) = inl (negotiates (state_after history) way going)
    go (inr flies) = inr (some_fly (in_flight_after history) (direction_after history) alone flies)

session_answers : (calls : List Call) (network : Network) (link : ℕ) (history : History Ticket) → Came calls network → AreServable network → ((l : ℕ) → SpeaksWell l calls) → (link_in network.links link).opened ≡ true → length (bytes_written link calls) ≤ max_client
    → DrivenBy link history calls → direction_after history ≡ 1 → is_wanting (state_after history) (in_flight_after history) (direction_after history) ≡ true → state_after history ≢ state.Closing → 0 < stock (link_in network.links link).session
session_answers calls network link history came servable speaks opened few driven alone wanting going =
    driven_answer {K = Ticket} calls network link history came servable speaks opened
    (record { limit = driven.limit; lawful = driven.lawful; going = driven.going; spelled = driven.spelled; mode = driven.mode; drives = driven.drives })
    (asks_no_end driven.limit history driven.lawful alone going) few (waits_to_read history alone wanting going)

-- Names, texts and sizes of the exports stay: an earlier network is servable, too.
servable_before : (more : List Call) (network after : Network) → Played network more after → AreServable after → AreServable network
servable_before more network after played servable place there =
    let now = servable place (at place there) in
    same_servable (export_in network.exports place).export (export_in after.exports place).export (face_back (export_in after.exports place).export (export_in network.exports place).export (played_face network more after played place)) now
  where
    at : (place : ℕ) → place < length network.exports → place < length after.exports
    at place there = let same = played_count network more after played in omega (arith, there, same)

-- So it has exports no larger.
small_before : (more : List Call) (network after : Network) → Played network more after → AreSmall after → AreSmall network
small_before more network after played small place there =
    let count = played_count network more after played in
    let now = small place (omega (arith, there, count)) in
    let same = (played_face network more after played place).0 in
    omega (arith, now, same)

-- What is written by a pause on the first link that it wants is no more than a session takes.

none_target : (to : Target) → None ≡ Some to → ⊥
none_target to e = cc

-- the size that a handle was told by then is that of an export
shown_small : (extents : Bool) (place : Place) (info : ExportInfo) (calls : List Call) (network : Network) → Came calls network → AreServable network → AreSmall network → ((l : ℕ) → SpeaksWell l calls) → AtSome (Drove extents place (IsShown info)) calls → info.size ≤ largest
shown_small extents place info calls network came servable small speaks shown =
    let size = told_size {K = Ticket} shown.before cut.middle drove.link drove.history info front (servable_before shown.after cut.middle network cut.rest servable) (λ l. speaks_front l untold shown.before shown.after (subst (SpeaksWell l) shown.are (speaks l))) given
    (record { limit = drove.drives.limit; lawful = drove.drives.lawful; going = drove.drives.going; spelled = drove.drives.spelled; mode = drove.drives.mode; drives = drove.drives.drives }) drove.is.ready drove.is.shown in
    let most = small_before shown.after cut.middle network cut.rest small (link_in cut.middle.links drove.link).place (targets.hosted drove.link given) in
    omega (arith, size, most)
  where
    cut : Cut came.first shown.before shown.after network
    cut = played_cut came.first calls network came.played shown.before shown.after shown.are

    drove : Drove extents place (IsShown info) shown.before
    drove = shown.is

    front : Came shown.before cut.middle
    front = record { first = came.first; begins = came.begins; played = cut.front }

    targets : Targets shown.before cut.middle
    targets = targets_all came.first shown.before cut.middle came.begins cut.front

    given : drove.link < length cut.middle.links
    given = elim (cases_lt drove.link (length cut.middle.links)) [
      | inl less ↦ less
      | inr past ↦ absurd (none_target place.to (sym (targets.none drove.link past) ∙ drove.address))
    ]

first_wrote : (most : ℕ) (before : List Call) (want : Want) (others wants : List Want) → wants ≡ want ∷ others → WroteAtMost most before wants → length (bytes_written want.link before) ≤ most
first_wrote most before want others wants are wrote = (subst (WroteAtMost most before) are wrote).0

few_wrote : (extents : Bool) (from to : Place) (before : List Call) (network : Network) → Came before network → AreServable network → AreSmall network → ((l : ℕ) → SpeaksWell l before) → (want : Want) (others wants : List Want) → wants ≡ want ∷ others → WroteLittle extents from to before wants
    → length (bytes_written want.link before) ≤ max_client
few_wrote extents from to before network came servable small speaks want others wants are (inl early) = let wrote = first_wrote longest_handshake before want others wants are early in omega (arith, wrote)
few_wrote extents from to before network came servable small speaks want others wants are (inr told) =
    let wrote = first_wrote (most_written told.source.size) before want others wants are told.is in
    let size = shown_small extents from told.source before network came servable small speaks told.shown in
    omega (arith, wrote, size)

module _ (options : CopyOptions) (from to : Place) (calls : List Call) (network : Network) (came : Came calls network) (small : AreSmall network) (moves : Moves network.schedule) (servable : AreServable network) (conducts : Conducts options from to calls) where
  module _ (before earlier later : List Call) (wants : List Want) (want : Want) (others : List Want) (are : wants ≡ want ∷ others) where
    wanted_at : (call : Call) → (p : Paused calls before wants earlier call network) → (link_in p.first.links want.link).opened ≡ true → WasWanted want.link earlier p.then
    wanted_at call p opened = record {
      before = p.first;
      paused = p.paused;
      wants = wants;
      there = there_if p.first.links want.link opened;
      wanted = subst (Any (λ (one : Want). one.link ≡ want.link)) (sym are) (any_first want others);
      pauses = p.pauses;
      played = p.played;
    }

    -- it is written
    write_moves : (offered : ℕ) (told : WriteTold) → calls ≡ before ++ Pause wants ∷ earlier ++ Write want.link offered told ∷ later → list_any (tries.writes_on want.link) earlier ≡ false → 0 < offered → is_open want.link before ≡ true → carries_bytes (Write want.link offered told) ≡ true
    write_moves offered told e first some opened =
        let p = paused_at calls before earlier later wants (Write want.link offered told) network came e in
        let open_first : (link_in p.first.links want.link).opened ≡ true = (came_numbered before p.first p.came).open_is want.link ∙ opened in
        let open_then : (link_in p.then.links want.link).opened ≡ true =
        (came_numbered (before ++ Pause wants ∷ earlier) p.then p.reaches).open_is want.link ∙ conducts.links.used want.link (before ++ Pause wants ∷ earlier) later (Write want.link offered told) e refl in
        let plan : Moves p.then.schedule = subst Moves (played_schedule p.after p.rest network p.ends ∙ schedule_after p) moves in
        let sent = let_in want.link offered earlier p.then p.after told (wanted_at (Write want.link offered told) p open_first) (any_same (writes_on want.link) (tries.writes_on want.link) (writes_same want.link) earlier first) open_then plan some p.plays in
        ap (λ (a : WriteTold). carries_bytes (Write want.link offered a)) sent.1 ∙ lt-ltb 0 (length sent.0) sent.2
      where
        schedule_after : (p : Paused calls before wants earlier (Write want.link offered told) network) → p.after.schedule ≡ p.then.schedule
        schedule_after p = ap (λ (n : Network). n.schedule) p.plays.is

    -- it is read
    read_moves : (room : ℕ) (told : ReadTold) → calls ≡ before ++ Pause wants ∷ earlier ++ Read want.link room told ∷ later → list_any (tries.reads_on want.link) earlier ≡ false → list_any carries_bytes earlier ≡ false → 0 < room → is_open want.link before ≡ true
        → (waited : IsWaitedFor before want) → want.direction ≡ 1 → carries_bytes (Read want.link room told) ≡ true
    read_moves room told e first still some opened waited alone =
        let p = paused_at calls before earlier later wants (Read want.link room told) network came e in
        let open_first : (link_in p.first.links want.link).opened ≡ true = (came_numbered before p.first p.came).open_is want.link ∙ opened in
        let open_then : (link_in p.then.links want.link).opened ≡ true =
        (came_numbered (before ++ Pause wants ∷ earlier) p.then p.reaches).open_is want.link ∙ conducts.links.used want.link (before ++ Pause wants ∷ earlier) later (Read want.link room told) e refl in
        let plan : Moves p.then.schedule = subst Moves (played_schedule p.after p.rest network p.ends ∙ ap (λ (n : Network). n.schedule) p.plays.is) moves in
        let off = any_same (reads_on want.link) (tries.reads_on want.link) (reads_same want.link) earlier first in
        let speaks = speak_well (is_source conducts.drives.sides) options.extents options.destination_is_zero conducts.drives.flush from to before (Pause wants ∷ earlier ++ Read want.link room told ∷ later) calls conducts.drives.are (e ∙ append_assoc before (Pause wants ∷ earlier) (Read want.link room told ∷ later)) in
        let is = want_is (is_wanting (state_after waited.history) (in_flight_after waited.history) (direction_after waited.history)) (record { link = want.link; direction = direction_after waited.history }) want waited.wants in
        let direction : direction_after waited.history ≡ want.direction = ap (λ (w : Want). w.direction) is.1 in
        let fits = servable_before p.others p.first network p.back servable in
        let little = conducts.little before (earlier ++ Read want.link room told ∷ later) wants (e ∙ append_assoc before (Pause wants ∷ earlier) (Read want.link room told ∷ later)) in
        let few = few_wrote options.extents from to before p.first p.came fits (small_before p.others p.first network p.back small) speaks want others wants are little in
        let has = session_answers before p.first want.link waited.history p.came fits speaks open_first few waited.drives (direction ∙ alone) is.0 (waited.parts alone) in
        let paused_has : stock (link_in p.paused.links want.link).session ≡ stock (link_in p.first.links want.link).session = paused_stock want.link p.first p.paused wants p.pauses in
        let then_has = played_stock want.link p.paused earlier p.then p.played off still in
        let moved : 0 < stock (link_in p.then.links want.link).session = subst (λ (n : ℕ). 0 < n) (sym (then_has ∙ paused_has)) has in
        let let_read = reads_are_let_in want.link room earlier p.then p.after told (wanted_at (Read want.link room told) p open_first) (all_none (tries.reads_on want.link) (reads_on want.link) (reads_same want.link) earlier first) open_then p.plays in
        let given = gives_byte (step_at p.then.schedule p.then.turn) room _ (link_in p.then.links want.link) told let_read.0 let_read.1 moved (moves_one p.then.schedule p.then.turn plan) some in
        ap (λ (a : ReadTold). carries_bytes (Read want.link room a)) given.1 ∙ lt-ltb 0 (length given.0) given.2

  moved_by : (before between after : List Call) (wants wants' : List Want) → calls ≡ before ++ Pause wants ∷ between ++ Pause wants' ∷ after → (want : Want) (others : List Want) → wants ≡ want ∷ others → WaitsWell before (want ∷ others) → WantsOnlyEmpty before (want ∷ others) → WereTried (want ∷ others) between
      → list_any carries_bytes between ≡ false → ⊥
  moved_by before between after wants wants' e want others are waits empty tried still = go (which (is_living (reading waited.history).known.stage) (out_after waited.history) (subst (λ (n : ℕ). n ≢ 0) (sym direction) waited.reads))
    where
      waited : IsWaitedFor before want
      waited = waits.0

      direction : direction_after waited.history ≡ want.direction
      direction = ap (λ (w : Want). w.direction) (want_is (is_wanting (state_after waited.history) (in_flight_after waited.history) (direction_after waited.history)) (record { link = want.link; direction = direction_after waited.history }) want waited.wants).1

      opened_at : is_for_reading want.direction ≡ true → is_open want.link before ≡ true
      opened_at reads =
          let vain = empty.0 reads in
          let was_open = conducts.links.used want.link vain.earlier (vain.later ++ Pause wants ∷ between ++ Pause wants' ∷ after) (Read want.link vain.room Unready) (vain_at vain) refl in
          ap (is_open want.link) vain.are ∙ open_after-append want.link false vain.earlier (Read want.link vain.room Unready ∷ vain.later) ∙ ap (λ (b : Bool). open_after want.link b vain.later) was_open ∙ open_still want.link true vain.later vain.nothing
        where
          vain_at : (vain : WasReadInVain want.link before) → calls ≡ vain.earlier ++ Read want.link vain.room Unready ∷ (vain.later ++ Pause wants ∷ between ++ Pause wants' ∷ after)
          vain_at vain = e ∙ ap (λ (l : List Call). l ++ Pause wants ∷ between ++ Pause wants' ∷ after) vain.are ∙ behind_at vain.earlier vain.later between after (Read want.link vain.room Unready) (Pause wants) (Pause wants')

      go : (direction_after waited.history ≡ 1) ⊎ (direction_after waited.history ≡ 3) → ⊥
      go (inl alone) =
          let one : want.direction ≡ 1 = sym direction ∙ alone in
          let was = tried.0.reads one in
          let at : calls ≡ before ++ Pause wants ∷ was.earlier ++ Read want.link was.room was.answer ∷ (was.later ++ Pause wants' ∷ after) = e ∙ within_at before between was.earlier was.later after (Pause wants) _ (Pause wants') was.are in
          let quiet = none_in carries_bytes was.earlier (Read want.link was.room was.answer ∷ was.later) (sym (ap (list_any carries_bytes) was.are) ∙ still) in
          let moves = read_moves before was.earlier (was.later ++ Pause wants' ∷ after) wants want others are was.room was.answer at was.first quiet was.some (opened_at (ap is_for_reading one)) waited one in
          false≢true (sym still ∙ ap (list_any carries_bytes) was.are ∙ moved_there was.earlier was.later (Read want.link was.room was.answer) moves)
      go (inr both) =
          let three : want.direction ≡ 3 = sym direction ∙ both in
          let was = tried.0.writes (omega (arith, three)) in
          let at : calls ≡ before ++ Pause wants ∷ was.earlier ++ Write want.link was.offered was.answer ∷ (was.later ++ Pause wants' ∷ after) = e ∙ within_at before between was.earlier was.later after (Pause wants) _ (Pause wants') was.are in
          let moves = write_moves before was.earlier (was.later ++ Pause wants' ∷ after) wants want others are was.offered was.answer at was.first was.some (opened_at (ap is_for_reading three)) in
          false≢true (sym still ∙ ap (list_any carries_bytes) was.are ∙ moved_there was.earlier was.later (Write want.link was.offered was.answer) moves)

  pub bytes_are_moved : BytesAreMoved calls
  bytes_are_moved before between after wants wants' e = go (list_any carries_bytes between) refl
    where
      tail : calls ≡ before ++ Pause wants ∷ (between ++ Pause wants' ∷ after)
      tail = e ∙ append_assoc before (Pause wants ∷ between) (Pause wants' ∷ after)

      some : (ws : List Want) → wants ≡ ws → list_any carries_bytes between ≡ false → ⊥
      some [] are still = conducts.wanted before (between ++ Pause wants' ∷ after) wants tail are
      some (want ∷ others) are still =
          moved_by before between after wants wants' e want others are (subst (WaitsWell before) are (conducts.waits before (between ++ Pause wants' ∷ after) wants tail)) (subst (WantsOnlyEmpty before) are (conducts.reads before (between ++ Pause wants' ∷ after) wants tail))
          (subst (λ (ws : List Want). WereTried ws between) are (conducts.tries (before ++ Pause wants ∷ between) after wants' e before between wants refl)) still

      go : (b : Bool) → list_any carries_bytes between ≡ b → list_any carries_bytes between ≡ true
      go true is = is
      go false is = absurd (some wants refl is)

pub copies_move_bytes : CopiesMoveBytes
copies_move_bytes options from to calls network came small moves servable conducts = bytes_are_moved options from to calls network came small moves servable conducts
