-- A handle and its link stay in step.
use Rattle.std.proofs.Common.{◌≡◌, ℕ, Bool, true, false, List, [], ◌∷◌, drop, length, Option, Some, None, refl, ap, sym, subst, ◌∙◌, arith, nat_le, nat_lt, if◌then◌else◌}
use Rattle.std.specs.Option.{option_map}
use Rattle.std.proofs.lemmas.Bool.{false≢true, leb-false}
use Rattle.lnbd_records.specs.Numbers.{number_at}
use Rattle.lnbd_stream.specs.Laws.{Alike}
use Rattle.lnbd_stream.specs.Grammar.{once, wants}
use Rattle.lnbd_stream.proofs.Stream.{feed_alike}
use Rattle.lnbd_model.specs.declared.breach.Breach.{Breach}
use Rattle.lnbd_model.specs.declared.state.Cause.{Cause}
use Rattle.lnbd_model.specs.declared.state.Cause.TheVariants.{Broke}
use Rattle.lnbd_history.specs.declared.kinds.Phase.TheVariants as phase
use Rattle.lnbd_history.specs.declared.kinds.Stage.{Stage}
use Rattle.lnbd_history.specs.declared.kinds.Stage.TheVariants.{Created, Open, Disconnecting, Aborting, Closed, Dead}
use Rattle.lnbd_history.specs.Agreement.{phase, steps, structured, extended, export}
use Rattle.lnbd_records.specs.Content.{Content}
use Rattle.lnbd_outcome.specs.Pieces.{Query}
use Rattle.lnbd_outcome.specs.Faults.{faults}
use Rattle.lnbd_chunks.specs.declared.form.Form.{Form}
use Rattle.lnbd_chunks.specs.declared.form.Form.TheVariants as form
use Rattle.lnbd_chunks.specs.Chunk.{Head, is_done, form_of, shows_data, shows_hole, shows_status, shows_extended_status, shows_error, shows_payload, shows_chunk}
use Rattle.lnbd_chunks.specs.Reply.{shows_simple, shows_chunk_for, shows_compact, shows_extended, shows_reply, chunk_head_in, extended_head_in}
use Rattle.lnbd_history.specs.Arrivals.{Shown, Hello, OptionReply, ExportReply, Reply, Broken, Passed, Ignored, Waiting, Sight, reply, shows_at, shows_in, shows_frame, shows_ignored}
use Rattle.lnbd_history.specs.Commands.{Command, Request, query_of}
use Rattle.lnbd_history.specs.Entries.{Item, Framed, Lost, Piece, Filing, own, is_ended}
use Rattle.lnbd_history.specs.Events.{History}
use Rattle.lnbd_history.specs.History.{Known, asked, request, rules, sight, waiting_of, waited as waits_for, entered, file, file_under, die, cookies}
use Rattle.lnbd_history.specs.Outgoing.{whole}
use Rattle.lnbd_history.proofs.Cookies.{request_past}
use Rattle.lnbd_asked.specs.Link.{Nobody, Link, server, waited, shows, shows_by_name, is_by_name, is_free}
use Rattle.lnbd_asked.specs.Transcript.{bare}
use Rattle.lnbd_asked.specs.InStep.{InStep, SameRequests, StaysInStep, is_reading, is_passing, silent_pieces}
use Rattle.lnbd_asked.proofs.Match.{Matches, Still, if_same, faults_pieces, file_match, both_ended, skip_file, file_still, all_still, die_match}

-- What is shown.

stage_shows : (stage : Stage) (sight : Sight) (waited : ℕ → Option Waiting) (bytes : List ℕ) → is_passing stage ≡ false → sight.phase ≡ phase.Ready →
    shows_at stage sight waited bytes ≡ (if is_reading stage then shows_frame sight.structured sight.extended waited bytes else shows_ignored bytes)
stage_shows Created sight waited bytes goes ready = refl
stage_shows Open sight waited bytes goes ready = ap (λ p. shows_in p sight waited bytes) ready
stage_shows Disconnecting sight waited bytes goes ready = ap (λ p. shows_in p sight waited bytes) ready
stage_shows Aborting sight waited bytes goes ready = absurd (false≢true (sym goes))
stage_shows Closed sight waited bytes goes ready = refl
stage_shows (Dead cause) sight waited bytes goes ready = refl

abbrev pub query_bare : Command Nobody → Query
query_bare asks = record { kind = asks.kind; flags = asks.flags; offset = asks.offset; length = asks.length; payload = asks.payload }

abbrev from_bare : Bool → List Piece → Option (Command Nobody) → Option Waiting
from_bare true came asks = None
from_bare false came None = None
from_bare false came (Some asks) = Some (record { kind = asks.kind; offset = asks.offset; length = asks.length; faults = faults (query_bare asks) came })

waiting_bare : {L : Type 0} (ended : Bool) (own : List (Filing L)) (asks : Option (Request L)) → waiting_of true ended own asks ≡ from_bare ended (silent_pieces own) (option_map bare asks)
waiting_bare true own None = refl
waiting_bare true own (Some asks) = refl
waiting_bare false own None = refl
waiting_bare false own (Some asks) = ap (λ n. Some (record { kind = asks.kind; offset = asks.offset; length = asks.length; faults = n })) (faults_pieces (query_of asks) own)

waiting_none : (ended : Bool) (own : List (Filing Nobody)) → waiting_of {K = Nobody} true ended own None ≡ None
waiting_none true own = refl
waiting_none false own = refl

-- Frames, faults, and bytes when nothing counts.
abbrev pub IsFrame : Shown → Type 0
IsFrame (Hello flags) = ⊥
IsFrame (OptionReply told) = ⊥
IsFrame (ExportReply size flags) = ⊥
IsFrame (Reply frame) = Unit {0}
IsFrame (Broken breach) = Unit {0}
IsFrame Passed = ⊥
IsFrame Ignored = Unit {0}

-- what is shown, if a thing is, is one of these
abbrev pub AreFrames : Option Shown → Type 0
AreFrames None = Unit {0}
AreFrames (Some found) = IsFrame found

frames_if : (test : Bool) (a b : Option Shown) → AreFrames a → AreFrames b → AreFrames (if test then a else b)
frames_if true a b x y = x
frames_if false a b x y = y

frames_once : (n : ℕ) (bytes : List ℕ) (a : Option Shown) → AreFrames a → AreFrames (once n bytes a)
unfolding once
frames_once n bytes a x = frames_if (nat_lt (length bytes) n) None a tt x

frames_wants : (test : Bool) (breach : Breach) (a : Option Shown) → AreFrames a → AreFrames (wants test (Broken breach) a)
unfolding wants
frames_wants test breach a x = frames_if test a (Some (Broken breach)) x tt

simple_frames : (structured : Bool) (w : Option Waiting) (bytes : List ℕ) → AreFrames (shows_simple Broken reply structured w bytes)
unfolding shows_simple
simple_frames structured None bytes = tt
simple_frames structured (Some command) bytes = frames_wants _ _ _ (frames_once _ bytes _ tt)

error_frames : (told : Content → Shown) (form : Form) (n : ℕ) (payload : List ℕ) → ((content : Content) → IsFrame (told content)) → AreFrames (shows_error Broken told form n payload)
unfolding shows_error
error_frames told form n payload is = frames_once _ payload _ (frames_wants _ _ _ (frames_wants _ _ _ (frames_once _ payload _ (is _))))

payload_frames : (told : Content → Shown) (form : Form) (waiting : Waiting) (n : ℕ) (payload : List ℕ) → ((content : Content) → IsFrame (told content)) → AreFrames (shows_payload Broken told form waiting n payload)
unfolding shows_data shows_hole shows_status shows_extended_status
payload_frames told form.Empty waiting n payload is = is _
payload_frames told form.Data waiting n payload is = frames_once _ payload _ (frames_wants _ _ _ (frames_once _ payload _ (is _)))
payload_frames told form.Hole waiting n payload is = frames_once _ payload _ (frames_wants _ _ _ (frames_once _ payload _ (frames_wants _ _ _ (is _))))
payload_frames told form.Status waiting n payload is = frames_once _ payload _ (is _)
payload_frames told form.ExtendedStatus waiting n payload is = frames_once _ payload _ (frames_wants _ _ _ (frames_once _ payload _ (is _)))
payload_frames told form.Error waiting n payload is = error_frames told form.Error n payload is
payload_frames told form.ErrorAt waiting n payload is = error_frames told form.ErrorAt n payload is
payload_frames told form.OtherError waiting n payload is = error_frames told form.OtherError n payload is
payload_frames told form.Unknown waiting n payload is = tt

chunk_frames : (extended : Bool) (w : Option Waiting) (cookie : ℕ) (head : Head) (payload : List ℕ) → AreFrames (shows_chunk_for Broken reply extended w cookie head payload)
unfolding shows_chunk_for shows_chunk
chunk_frames extended None cookie head payload = tt
chunk_frames extended (Some command) cookie head payload =
    frames_wants _ _ _ (frames_wants _ _ _ (frames_wants _ _ _ (payload_frames (λ content. reply cookie content (is_done head)) (form_of extended head.type) command head.length payload (λ content. tt))))

pub frame_shown : (structured extended : Bool) (w : ℕ → Option Waiting) (bytes : List ℕ) → AreFrames (shows_frame structured extended w bytes)
unfolding shows_frame shows_reply shows_compact shows_extended
frame_shown structured extended w bytes = frames_once _ bytes _ (frames_if extended _ _
    (frames_wants _ _ _ (frames_wants _ _ _ (frames_once _ bytes _ (chunk_frames true (w (number_at 8 8 bytes)) (number_at 8 8 bytes) (extended_head_in bytes) (drop 32 bytes)))))
    (frames_wants _ _ _ (frames_if _ _ _
    (frames_once _ bytes _ (simple_frames structured (w (number_at 8 8 bytes)) bytes))
    (frames_once _ bytes _ (chunk_frames false (w (number_at 8 8 bytes)) (number_at 8 8 bytes) (chunk_head_in bytes) (drop 20 bytes))))))

ignored_shown : (bytes : List ℕ) → AreFrames (shows_ignored bytes)
ignored_shown [] = tt
ignored_shown (byte ∷ bytes) = tt

-- In step.
module _ {K : Type 0} (history : History K) (n : ℕ) where
  pub shows_ready : (link : Link) (bytes : List ℕ) → phase link.heard.turns ≡ phase.Ready → is_passing link.heard.stage ≡ false →
      shows link bytes ≡ (if is_reading link.heard.stage then shows_frame (structured (steps link.heard.turns)) (extended (steps link.heard.turns)) (waited link) bytes else shows_ignored bytes)
  shows_ready link bytes ready goes =
      ap (λ p. if is_free p then if is_by_name link.wishes then shows_by_name link bytes else None else shows_at link.heard.stage (sight link.heard) (waited link) bytes) ready
      ∙ stage_shows link.heard.stage (sight link.heard) (waited link) bytes goes ready

  pub matches : (known : Known K) (link : Link) → (s : InStep history n known link) → Matches history link.requests n s.requests known link.heard
  matches known link s = record { filed = s.filed; agreed = s.agreed }

  -- beyond those that were written the link knows no request
  pub past : (known : Known K) (link : Link) (c : ℕ) → InStep history n known link → nat_le c n ≡ false → request link.requests c ≡ None
  past known link c s high = let above = leb-false c n high in let all = s.requests.all in request_past link.requests c (omega (arith, above, all))

  waits : (known : Known K) (link : Link) (c : ℕ) → InStep history n known link → waits_for history known c ≡ waited link c
  waits known link c s = ap (λ w. waiting_of (nat_le c w) (is_ended (own c known.entries)) (own c known.entries) (request history c)) s.written ∙ go (nat_le c n) refl
    where
      none : (ended : Bool) (asks : Option (Request K)) → waiting_of false ended (own c known.entries) asks ≡ None
      none ended asks = refl

      go : (b : Bool) → nat_le c n ≡ b →
          waiting_of (nat_le c n) (is_ended (own c known.entries)) (own c known.entries) (request history c) ≡ waiting_of true (is_ended (own c link.heard.entries)) (own c link.heard.entries) (request link.requests c)
      go true low =
          ap (λ b. waiting_of b (is_ended (own c known.entries)) (own c known.entries) (request history c)) low
          ∙ waiting_bare (is_ended (own c known.entries)) (own c known.entries) (request history c)
          ∙ ap (λ e. from_bare e (silent_pieces (own c known.entries)) (option_map bare (request history c))) (both_ended history link.requests n s.requests c known link.heard low (matches known link s))
          ∙ ap (λ ps. from_bare (is_ended (own c link.heard.entries)) ps (option_map bare (request history c))) (s.filed c low)
          ∙ ap (from_bare (is_ended (own c link.heard.entries)) (silent_pieces (own c link.heard.entries))) (s.requests.same c low)
          ∙ sym (waiting_bare (is_ended (own c link.heard.entries)) (own c link.heard.entries) (request link.requests c))
      go false high =
          ap (λ b. waiting_of b (is_ended (own c known.entries)) (own c known.entries) (request history c)) high
          ∙ none (is_ended (own c known.entries)) (request history c)
          ∙ sym (ap (λ a. waiting_of true (is_ended (own c link.heard.entries)) (own c link.heard.entries) a) (past known link c s high) ∙ waiting_none (is_ended (own c link.heard.entries)) (own c link.heard.entries))

  waits_alike : (known : Known K) (link : Link) → InStep history n known link → waits_for history known ≡ waited link
  waits_alike known link s i c = waits known link c s i

  pub shows_same : (known : Known K) (link : Link) (bytes : List ℕ) → InStep history n known link → (rules history).shows known bytes ≡ server.shows link bytes
  shows_same known link bytes s =
      stage_shows known.stage (sight known) (waits_for history known) bytes s.goes s.ready
      ∙ if_same _ _ _ _ _ _ s.reading (
      ap (λ t. shows_frame t (extended (steps known.turns)) (waits_for history known) bytes) s.structured
      ∙ ap (λ t. shows_frame (structured (steps link.heard.turns)) t (waits_for history known) bytes) s.extended
      ∙ ap (λ w. shows_frame (structured (steps link.heard.turns)) (extended (steps link.heard.turns)) w bytes) (waits_alike known link s)
      ) refl
      ∙ sym (shows_ready link bytes s.ready' s.goes')

  pub found_frame : (link : Link) (bytes : List ℕ) (found : Shown) → phase link.heard.turns ≡ phase.Ready → is_passing link.heard.stage ≡ false → server.shows link bytes ≡ Some found → IsFrame found
  found_frame link bytes found ready goes e = subst AreFrames (sym (shows_ready link bytes ready goes) ∙ e)
      (frames_if (is_reading link.heard.stage) _ _ (frame_shown (structured (steps link.heard.turns)) (extended (steps link.heard.turns)) (waited link) bytes) (ignored_shown bytes))

  -- the same was filed, and nothing else changed but the stages
  still_in_step : (known after : Known K) (link next : Link) (s : InStep history n known link) → (k : Still known after) → (l : Still link.heard next.heard) → next.requests ≡ link.requests
      → Matches history link.requests n s.requests after next.heard → InStep history n after next
  still_in_step known after link next s k l same m = record {
    ready = ap phase k.turns ∙ s.ready;
    ready' = ap phase l.turns ∙ s.ready';
    structured = ap (λ t. structured (steps t)) k.turns ∙ s.structured ∙ sym (ap (λ t. structured (steps t)) l.turns);
    extended = ap (λ t. extended (steps t)) k.turns ∙ s.extended ∙ sym (ap (λ t. extended (steps t)) l.turns);
    told = ap (λ t. export (steps t)) k.turns ∙ s.told ∙ sym (ap (λ t. export (steps t)) l.turns);
    agreed = m.agreed;
    reading = ap is_reading k.stage ∙ s.reading ∙ sym (ap is_reading l.stage);
    goes = ap is_passing k.stage ∙ s.goes;
    goes' = ap is_passing l.stage ∙ s.goes';
    written = ap (λ p. whole p (asked history).wrote) k.parts ∙ s.written;
    requests = subst (λ r. SameRequests history r n) (sym same) s.requests;
    filed = m.filed;
  }

  reply_match : (c : ℕ) (item : Item) (known : Known K) (link : Link) (s : InStep history n known link) → Matches history link.requests n s.requests (file history c item known) (file link.requests c item link.heard)
  reply_match c item known link s = go (nat_le c n) refl
    where
      go : (b : Bool) → nat_le c n ≡ b → Matches history link.requests n s.requests (file history c item known) (file link.requests c item link.heard)
      go true low = file_match history link.requests n s.requests c item known link.heard low (matches known link s)
      go false high = subst (λ a. Matches history link.requests n s.requests (file history c item known) (file_under a c item link.heard)) (sym (past known link c s high)) (skip_file history link.requests n s.requests c item known link.heard high (matches known link s))

  reply_in_step : (c : ℕ) (item : Item) (known : Known K) (link : Link) → InStep history n known link → InStep history n (file history c item known) (record link { heard = file link.requests c item link.heard })
  reply_in_step c item known link s =
      still_in_step known (file history c item known) link (record link { heard = file link.requests c item link.heard }) s
      (file_still (request history c) c item known) (file_still (request link.requests c) c item link.heard) refl (reply_match c item known link s)

  pub dead_in_step : (cause : Cause) (known : Known K) (link : Link) → InStep history n known link → InStep history n (die history cause known) (record link { heard = die link.requests cause link.heard })
  dead_in_step cause known link s =
      still_in_step (record known { stage = Dead cause }) (die history cause known) (record link { heard = record link.heard { stage = Dead cause } }) (record link { heard = die link.requests cause link.heard })
      (record { ready = s.ready; ready' = s.ready'; structured = s.structured; extended = s.extended; told = s.told; agreed = s.agreed; reading = refl; goes = refl; goes' = refl; written = s.written; requests = s.requests; filed = s.filed })
      (all_still history Lost (cookies (asked history).issued) (record known { stage = Dead cause })) (all_still link.requests Lost (cookies (asked link.requests).issued) (record link.heard { stage = Dead cause })) refl
      (die_match history link.requests n s.requests cause known link.heard (matches known link s))

  pub enter_in_step : (known : Known K) (link : Link) (found : Shown) → InStep history n known link → IsFrame found → InStep history n (entered history found known) (server.enter found link)
  enter_in_step known link (Hello flags) s is = absurd is
  enter_in_step known link (OptionReply told) s is = absurd is
  enter_in_step known link (ExportReply size flags) s is = absurd is
  enter_in_step known link (Reply frame) s is = reply_in_step frame.cookie (Framed frame.content frame.last) known link s
  enter_in_step known link (Broken breach) s is = dead_in_step (Broke breach) known link s
  enter_in_step known link Passed s is = absurd is
  enter_in_step known link Ignored s is = s

  alike : Alike (rules history) server (InStep history n)
  alike = record {
    shows = λ known link bytes s. shows_same known link bytes s;
    enter = λ known link bytes found s e. enter_in_step known link found s (found_frame link bytes found s.ready' s.goes' e);
  }

pub stays_in_step : {K : Type 0} → StaysInStep K
stays_in_step history n handle link bytes s pending = feed_alike (rules history) server (InStep history n) (alike history n) handle link bytes s pending
