-- A session of a server: what a client's bytes do to it and to the export, and how its pending replies are made.
use Rattle.std.specs.Prelude.{◌≡◌, ℕ, ◌+◌, ◌-◌, Bool, true, false, List, [], ◌∷◌, ◌++◌, length, take, if◌then◌else◌, nat_le, ◌≤◌, ◌<◌, Result, Ok, Err}
use Rattle.std.specs.List.{remove, slice_index_or}
use Rattle.lnbd_records.specs.Flags.{flag_no_zeroes, flag_fixed_newstyle}
use Rattle.lnbd_records.specs.Handshake.{hello}
use Rattle.lnbd_records.specs.Numbers.{row, has_bit}
use Rattle.lnbd_stream.specs.Stream.{Rules, Held, feed}
use Rattle.lnbd_export.specs.Export.{Export}
use Rattle.lnbd_export.specs.Requests.{effect, reply, is_extended}
use Rattle.lnbd_export.specs.declared.request.Agreed.{Agreed}
use Rattle.lnbd_export.specs.declared.request.Request.{Request}
use Rattle.lnbd_export.specs.declared.request.Replies.TheVariants.{Simple}
use Rattle.lnbd_server.specs.declared.stage.Offers.{Offers}
use Rattle.lnbd_server.specs.declared.stage.Stage.{Stage}
use Rattle.lnbd_server.specs.declared.stage.Stage.TheVariants.{Greeting, Haggling, Serving, Ended, Strayed}
use Rattle.lnbd_server.specs.Client.{Said, Flags, OptionRequest, Asks, Disconnect, Stray, Ignored, Heard, says, max_client}
use Rattle.lnbd_server.specs.declared.session.TakeFault.{TakeFault}
use Rattle.lnbd_server.specs.declared.session.TakeFault.TheVariants.{NoMemory, Closed}
use Rattle.lnbd_server.specs.Options.{Answer, option_answer}
use Rattle.lnbd_server.specs.Replies.{put_reply}

-- what a session is at between two things that a client says, and the export as it then is
pub record State : Type 0 where
  pub stage : Stage
  -- the reply to EXPORT_NAME has no zeros behind it
  pub no_zeroes : Bool
  pub agreed : Agreed
  -- the requests whose replies are pending, the earliest first
  pub waiting : List Request
  -- what goes out and was not yet given
  pub out : List ℕ
  pub export : Export

abbrev pub answering : Answer → State → State
answering answer state = record state { stage = answer.stage; agreed = answer.agreed; out = state.out ++ answer.bytes }

-- A request has its effect when it is whole, and its reply is then pending.
abbrev pub asking : Request → List ℕ → State → State
asking request payload state = record state { waiting = state.waiting ++ request ∷ []; export = effect state.agreed request payload state.export }

abbrev pub entering : Offers → Said → State → State
entering offers (Flags flags) state = record state { stage = Haggling; no_zeroes = has_bit flag_no_zeroes flags }
entering offers (OptionRequest option body) state = answering (option_answer offers state.export state.no_zeroes state.agreed option body) state
entering offers (Asks request payload) state = asking request payload state
entering offers Disconnect state = record state { stage = Ended }
entering offers Stray state = record state { stage = Strayed }
entering offers Ignored state = state

abbrev pub rules : Offers → Rules State Heard
rules offers = record {
  shows = λ state. says state.stage (is_extended state.agreed.replies);
  enter = λ heard. entering offers heard.said;
}

-- What is kept of a client: the state without the export, and the bytes since the last whole thing.
pub record Dialogue : Type 0 where
  pub stage : Stage
  pub no_zeroes : Bool
  pub agreed : Agreed
  pub waiting : List Request
  pub heard : List ℕ
  pub out : List ℕ

-- The hello waits first.
abbrev pub begun : Dialogue
begun = record {
  stage = Greeting;
  no_zeroes = false;
  agreed = record { replies = Simple; allocation = false };
  waiting = [];
  heard = [];
  out = row (hello (flag_fixed_newstyle + flag_no_zeroes));
}

abbrev pub state_of : Dialogue → Export → State
state_of dialogue export = record {
  stage = dialogue.stage;
  no_zeroes = dialogue.no_zeroes;
  agreed = dialogue.agreed;
  waiting = dialogue.waiting;
  out = dialogue.out;
  export = export;
}

-- with the export, as what a client's bytes are taken into
abbrev pub with_export : Dialogue → Export → Held State
with_export dialogue export = record { known = state_of dialogue export; pending = dialogue.heard }

-- What a session stands for.
pub record Session : Type 0 where
  pub offers : Offers
  -- how many bytes came, while the session is open
  pub came : ℕ
  pub dialogue : Dialogue

abbrev pub fresh : Offers → Session
fresh offers = record { offers = offers; came = 0; dialogue = begun }

-- The session is at its end: DISC or ABORT was read, or the bytes were no client's.
abbrev pub is_closed : Stage → Bool
is_closed Greeting = false
is_closed Haggling = false
is_closed Serving = false
is_closed Ended = true
is_closed Strayed = true

-- the bytes were no client's
abbrev pub is_strayed : Stage → Bool
is_strayed Greeting = false
is_strayed Haggling = false
is_strayed Serving = false
is_strayed Ended = false
is_strayed Strayed = true

-- A byte past the limit is no client's, where the session is still open.
abbrev pub past_limit : Held State → Held State
past_limit held = if is_closed held.known.stage then held else record { known = record held.known { stage = Strayed }; pending = [] }

-- what is at hand after these bytes, where so many came before
abbrev pub after_bytes : Offers → (came : ℕ) → List ℕ → Held State → Held State
after_bytes offers came bytes held =
    if nat_le (came + length bytes) max_client then feed (rules offers) held bytes
    else past_limit (feed (rules offers) held (take (max_client - came) bytes))

-- These bytes are taken.
pub record Takes (before : Session) (start : Export) (bytes : List ℕ) (after : Session) (end : Export) : Type 0 where
  pub fed : after_bytes before.offers before.came bytes (with_export before.dialogue start) ≡ with_export after.dialogue end
  pub counted : is_closed after.dialogue.stage ≡ false → after.came ≡ before.came + length bytes
  pub offers : after.offers ≡ before.offers

-- A reply is pending at this place; it is made over the export, and goes out.
pub record MakesReply (before : Dialogue) (pick : ℕ) (export : Export) (after : Dialogue) : Type 0 where
  pub inside : pick < length before.waiting
  pub request : Request
  pub picked : slice_index_or before.waiting pick request ≡ request
  pub is : after ≡ record before {
    waiting = remove before.waiting pick;
    out = before.out ++ put_reply before.agreed.replies request (reply before.agreed export request);
  }

pub record Answers (before : Session) (pick : ℕ) (export : Export) (after : Session) : Type 0 where
  pub replies : MakesReply before.dialogue pick export after.dialogue
  pub offers : after.offers ≡ before.offers
  pub came : after.came ≡ before.came

-- What `take` answers: Closed exactly where the session is then at its end; on want of memory the first bytes were taken.
abbrev pub TookAs : Session → Export → List ℕ → Result (Unit {0}) TakeFault → Session → Export → Type 0
TookAs before start bytes (Ok done) after end = Takes before start bytes after end × (is_closed after.dialogue.stage ≡ false)
TookAs before start bytes (Err Closed) after end = Takes before start bytes after end × (is_closed after.dialogue.stage ≡ true)
TookAs before start bytes (Err (NoMemory taken)) after end = (taken ≤ length bytes) × Takes before start (take taken bytes) after end
