-- What a server says to a client, thing by thing, and how that stands with what is known of the link.
use Rattle.std.proofs.Common.{◌≡◌, ◌≢◌, ℕ, ◌^◌, ◌<◌, ◌≤◌, ◌⊎◌, Bool, true, false, ◌||◌, List, [], ◌∷◌, ◌++◌, length, Some, ◌==◌, nat_le, refl, sym, append-nil}
use Rattle.lnbd_model.specs.Errors.{error_of}
use Rattle.lnbd_model.specs.declared.export.Extent.{Extent}
use Rattle.lnbd_model.specs.declared.kind.Kind.TheVariants.{Read}
use Rattle.lnbd_records.specs.Content.{Content, Data, Status, Error, Nothing}
use Rattle.lnbd_records.specs.Handshake.{hello, option_reply_head, export_name_reply}
use Rattle.lnbd_records.specs.Limits.{max_data}
use Rattle.lnbd_records.specs.Numbers.{row, AllFit}
use Rattle.lnbd_records.specs.Options.{opt_go, rep_ack, first_rep_error}
use Rattle.lnbd_records.specs.Replies.{body_of}
use Rattle.lnbd_records.specs.Told.{Told, Body}
use Rattle.lnbd_records.specs.Transmission.{simple_reply, chunk_head, extended_chunk_head}
use Rattle.lnbd_model.specs.declared.kind.Kind.{Kind}
use Rattle.lnbd_records.specs.Told as told
use Rattle.lnbd_history.specs.declared.kinds.Phase.{Phase}
use Rattle.lnbd_history.specs.declared.kinds.Phase.TheVariants as phase
use Rattle.lnbd_history.specs.declared.kinds.Stage.TheVariants.{Open, Dead}
use Rattle.lnbd_history.specs.Agreement.{Turn, Hello, Replied, ByName, Set, Opted, phase}
use Rattle.lnbd_history.specs.Entries.{Item, Framed, Lost, Dropped, Filing, own, ends}
use Rattle.lnbd_history.specs.Events as event
use Rattle.lnbd_history.specs.History.{request}
use Rattle.lnbd_asked.specs.Link.{Nobody, Link, is_by_name}
use Rattle.lnbd_asked.specs.Transcript.{name_asked, asked_on}
use Rattle.lnbd_history.specs.Commands.{Command}
use Rattle.lnbd_model.specs.declared.state.Cause.{Cause}
use Rattle.lnbd_served.specs.Follows.{IsSame}
use Rattle.lnbd_export.specs.Requests.{Reply, Refused, Done, Content as Holding, Status as Telling}
use Rattle.lnbd_export.specs.declared.request.Replies.{Replies}
use Rattle.lnbd_export.specs.declared.request.Request.{Request}
use Rattle.lnbd_server.specs.Options as haggled
use Rattle.lnbd_export.specs.declared.request.Replies.TheVariants.{Simple, Structured, Extended}
use Rattle.lnbd_server.specs.Replies.{put_reply}
use Rattle.lnbd_served.specs.Steps.{Taken, Step, Took, Gave, Has}
use Rattle.lnbd_served.proofs.Shown.{Says, IsSaid, nothing_said, data_said, error_said, status_said, extended_said}

-- the hello, a reply to an option, the reply to EXPORT_NAME, and the reply to a request, in the form that was agreed
pub data Said : Type 0 where
  Greets : Said
  Answers : (option : ℕ) → haggled.Reply → Said
  Names : (size flags : ℕ) → Said
  Replies_to : Replies → Request → Reply → Said

abbrev pub encode : Said → List ℕ
encode Greets = row (hello 3)
encode (Answers option reply) = haggled.put_reply option reply
encode (Names size flags) = row (export_name_reply size flags)
encode (Replies_to replies request given) = put_reply replies request given

-- What is told of sizes is this one's.

abbrev pub FairTold : ℕ → Told → Type 0
FairTold size told.Ack = Unit {0}
FairTold size (told.Error code) = Unit {0}
FairTold size (told.Server listed) = Unit {0}
FairTold size (told.Export one) = one.size ≡ size
FairTold size (told.Name name) = Unit {0}
FairTold size (told.Description text) = Unit {0}
FairTold size (told.Blocks blocks) = Unit {0}
FairTold size told.Passed = Unit {0}
FairTold size (told.Context context) = Unit {0}

-- the options are each the caller's, and every size told is this one
abbrev pub AreFair : ℕ → List Turn → Type 0
AreFair size [] = ⊥
AreFair size (Hello ∷ before) = AreFair size before
AreFair size (Replied told ∷ before) = FairTold size told × AreFair size before
AreFair size (ByName n flags ∷ before) = (n ≡ size) × AreFair size before
AreFair size (Set one ∷ before) = (one ≡ event.OptMode true) × (before ≡ [])
AreFair size (Opted option ∷ before) = AreFair size before

-- What was filed.

-- what a frame's content says of the reply that was made, where the request begins there
pub record Carries (offset : ℕ) (given : Reply) (content : Content) : Type 0 where
  pub refused : (error : ℕ) → given ≡ Refused error → (content ≡ Error error) × ((error_of error == 0) ≡ false)
  pub data_ : (bytes : List ℕ) → given ≡ Holding bytes → (content ≡ Data offset bytes) ⊎ ((content ≡ Nothing) × (bytes ≡ []))
  pub status : (id : ℕ) (descriptors : List Extent) → content ≡ Status id descriptors → given ≡ Telling descriptors

-- a frame is the one that carries a reply which was made
abbrev pub IsTrue : List Step → (link cookie offset : ℕ) → Item → Type 0
IsTrue steps link cookie offset (Framed content last) = (last ≡ true) × (given : Reply) × Has (Gave link cookie given) steps × Carries offset given content
IsTrue steps link cookie offset Lost = Unit {0}
IsTrue steps link cookie offset Dropped = Unit {0}

pub record OneFiled (steps : List Step) (link : ℕ) (known : Link) (cookie : ℕ) : Type 0 where
  pub filing : Filing Nobody
  pub only : own cookie known.heard.entries ≡ filing ∷ []
  pub request_ : request known.requests cookie ≡ Some filing.request
  pub ended : ends filing.item ≡ true
  pub true_ : IsTrue steps link cookie filing.request.offset filing.item

-- under each cookie nothing was filed, or one thing
abbrev pub AreFiled : List Step → ℕ → Link → Type 0
AreFiled steps link known = (cookie : ℕ) → (own cookie known.heard.entries ≡ []) ⊎ OneFiled steps link known cookie

-- What is to come.

abbrev pub is_last : haggled.Reply → Bool
is_last reply = nat_le first_rep_error reply.type || (reply.type == rep_ack)

-- the reply fits the wire, and tells no other size
pub record IsFair (size option : ℕ) (reply : haggled.Reply) : Type 0 where
  pub fit : AllFit (option_reply_head option reply.type (length reply.body))
  pub fair : (body : Body) → body_of reply.type reply.body ≡ Some body → FairTold size body.told

-- replies to this option, of which the last and no other ends the answer
abbrev pub AreReplies : (size option : ℕ) → List Said → Type 0
AreReplies size option [] = Unit {0}
AreReplies size option (Answers other reply ∷ more) = (other ≡ option) × IsFair size option reply × (is_last reply ≡ true → more ≡ []) × AreReplies size option more
AreReplies size option (Greets ∷ more) = ⊥
AreReplies size option (Names n flags ∷ more) = ⊥
AreReplies size option (Replies_to replies request given ∷ more) = ⊥

-- the answer to come acknowledges
abbrev pub acknowledges : List Said → Bool
acknowledges [] = false
acknowledges (Answers option reply ∷ more) = (reply.type == rep_ack) || acknowledges more
acknowledges (other ∷ more) = acknowledges more

-- a reply that ends the answer is to come
abbrev pub ends_answer : List Said → Bool
ends_answer [] = false
ends_answer (Answers option reply ∷ more) = is_last reply || ends_answer more
ends_answer (other ∷ more) = ends_answer more

-- The numbers of a reply fit theirs, and it is one that the request can have.
abbrev pub FitsRequest : Request → Reply → Type 0
FitsRequest request (Refused error) = (error < 2 ^ 32) × ((error == 0) ≡ false) × ((error_of error == 0) ≡ false)
FitsRequest request Done = request.kind ≢ Some Read
FitsRequest request (Holding bytes) = (request.kind ≡ Some Read) × (length bytes ≡ request.length) × (length bytes ≤ max_data)
FitsRequest request (Telling descriptors) = request.kind ≢ Some Read

-- a reply as a chunk, with extended headers or without
abbrev pub says_of : (extended : Bool) → (offset : ℕ) → Reply → Says
says_of extended offset (Refused error) = error_said error
says_of extended offset Done = nothing_said
says_of extended offset (Holding []) = nothing_said
says_of extended offset (Holding (byte ∷ bytes)) = data_said offset (byte ∷ bytes)
says_of false offset (Telling descriptors) = status_said descriptors
says_of true offset (Telling descriptors) = extended_said descriptors

-- the error and the bytes of a simple reply
abbrev pub error_in : Reply → ℕ
error_in (Refused error) = error
error_in Done = 0
error_in (Holding bytes) = 0
error_in (Telling descriptors) = 0

abbrev pub bytes_in : Reply → List ℕ
bytes_in (Refused error) = []
bytes_in Done = []
bytes_in (Holding bytes) = bytes
bytes_in (Telling descriptors) = []

-- its numbers fit the wire
abbrev pub FitsWire : Replies → Request → Reply → Type 0
FitsWire Simple request given = AllFit (simple_reply (error_in given) request.cookie)
FitsWire Structured request given = IsSaid false (says_of false request.offset given) × AllFit (chunk_head 1 (says_of false request.offset given).type request.cookie (length (says_of false request.offset given).payload))
FitsWire Extended request given = IsSaid true (says_of true request.offset given) × AllFit (extended_chunk_head 1 (says_of true request.offset given).type request.cookie request.offset (length (says_of true request.offset given).payload))

-- a reply that was made to a request that was taken
pub record IsMade (steps : List Step) (link : ℕ) (replies : Replies) (request : Request) (given : Reply) : Type 0 where
  pub gave : Has (Gave link request.cookie given) steps
  pub taken : Taken
  pub took : Has (Took link taken) steps
  pub is : taken.request ≡ request
  pub kind : Kind
  pub kind_ : request.kind ≡ Some kind
  pub fits : FitsRequest request given
  pub wire : FitsWire replies request given

abbrev pub AreMade : List Step → (link : ℕ) → List Said → Type 0
AreMade steps link [] = Unit {0}
AreMade steps link (Replies_to replies request given ∷ more) = IsMade steps link replies request given × AreMade steps link more
AreMade steps link (Greets ∷ more) = ⊥
AreMade steps link (Answers option reply ∷ more) = ⊥
AreMade steps link (Names n flags ∷ more) = ⊥

-- What is spelled.

pub simple_spelled : (request : Request) (given : Reply) → put_reply Simple request given ≡ row (simple_reply (error_in given) request.cookie) ++ bytes_in given
simple_spelled request (Refused error) = sym (append-nil (row (simple_reply error request.cookie)))
simple_spelled request Done = sym (append-nil (row (simple_reply 0 request.cookie)))
simple_spelled request (Holding bytes) = refl
simple_spelled request (Telling descriptors) = sym (append-nil (row (simple_reply 0 request.cookie)))

pub chunk_spelled : (request : Request) (given : Reply) → put_reply Structured request given ≡ row (chunk_head 1 (says_of false request.offset given).type request.cookie (length (says_of false request.offset given).payload)) ++ (says_of false request.offset given).payload
chunk_spelled request (Refused error) = refl
chunk_spelled request Done = refl
chunk_spelled request (Holding []) = refl
chunk_spelled request (Holding (byte ∷ bytes)) = refl
chunk_spelled request (Telling descriptors) = refl

pub extended_spelled : (request : Request) (given : Reply) → put_reply Extended request given ≡ row (extended_chunk_head 1 (says_of true request.offset given).type request.cookie request.offset (length (says_of true request.offset given).payload)) ++ (says_of true request.offset given).payload
extended_spelled request (Refused error) = refl
extended_spelled request Done = refl
extended_spelled request (Holding []) = refl
extended_spelled request (Holding (byte ∷ bytes)) = refl
extended_spelled request (Telling descriptors) = refl

-- What is to come, by where negotiation stands.

-- every request that was taken is known under its cookie
abbrev pub Knows : List Step → ℕ → Link → Type 0
Knows steps link known = (taken : Taken) (kind : Kind) → Has (Took link taken) steps → taken.request.kind ≡ Some kind →
    (asks : Command Nobody) × (asked_on known taken.request.cookie ≡ Some asks) × IsSame taken asks

-- what stands for the link whatever comes: its sizes, what was filed, and the name that was asked for
pub record IsSound (name : List ℕ) (size : ℕ) (steps : List Step) (link : ℕ) (known : Link) : Type 0 where
  pub fair : AreFair size known.heard.turns
  pub filed : AreFiled steps link known
  pub named : phase known.heard.turns ≡ phase.Ready → name_asked known.wishes ≡ Some name

abbrev pub Expects : (name : List ℕ) (size : ℕ) (steps : List Step) (link : ℕ) → Link → Phase → List Said → Type 0
Expects name size steps link known phase.Greeting rest = rest ≡ Greets ∷ []
Expects name size steps link known (phase.Asked option) rest = AreReplies size option rest × (option ≡ opt_go → acknowledges rest ≡ true → name_asked known.wishes ≡ Some name)
Expects name size steps link known phase.AskedByName rest = ⊥
Expects name size steps link known phase.OptMode rest =
    (rest ≡ []) ⊎ ((flags : ℕ) × (rest ≡ Names size flags ∷ []) × AllFit (export_name_reply size flags) × (is_by_name known.wishes ≡ true) × (name_asked known.wishes ≡ Some name))
Expects name size steps link known phase.Ready rest = AreMade steps link rest
Expects name size steps link known (phase.Refused code) rest = ⊥

pub record Awaits (name : List ℕ) (size : ℕ) (steps : List Step) (link : ℕ) (known : Link) (rest : List Said) : Type 0 where
  pub open_ : known.heard.stage ≡ Open
  pub sound : IsSound name size steps link known
  pub flags : (phase known.heard.turns ≡ phase.Greeting) ⊎ (known.heard.flags ≡ 3)
  pub knows : Knows steps link known
  pub expects : Expects name size steps link known (phase known.heard.turns) rest

-- the link is dead, and what it holds is sound
abbrev pub IsOver : (name : List ℕ) (size : ℕ) (steps : List Step) (link : ℕ) → Link → Type 0
IsOver name size steps link known = ((cause : Cause) × (known.heard.stage ≡ Dead cause)) × IsSound name size steps link known
