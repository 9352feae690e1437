-- What option replies agree on: the protocol's "Option haggling". What came in negotiation stands with the latest first.
use Rattle.std.specs.Prelude.{ℕ, Bool, true, false, not, ◌&&◌, ◌||◌, List, [], ◌∷◌, ◌++◌, Option, Some, None, if◌then◌else◌, ◌==◌, bytes_eq}
use Rattle.lnbd_model.specs.declared.export.Blocks.{Blocks as BlockSizes}
use Rattle.lnbd_model.specs.declared.export.Context.{Context as MetaContext}
use Rattle.lnbd_model.specs.declared.export.Listed.{Listed}
use Rattle.lnbd_records.specs.Told.{Told, Size}
use Rattle.lnbd_records.specs.Told as told
pub use Rattle.lnbd_records.specs.Requests.{is_info}
use Rattle.lnbd_records.specs.Options.{err_unsup, opt_extended_headers, opt_go, opt_list, opt_set_meta_context, opt_structured_reply}
use Rattle.lnbd_history.specs.declared.kinds.OptAnswer.{OptAnswer}
use Rattle.lnbd_history.specs.declared.kinds.OptAnswer.TheVariants as opt
use Rattle.lnbd_history.specs.declared.kinds.Phase.{Phase}
use Rattle.lnbd_history.specs.declared.kinds.Phase.TheVariants.{Greeting, Asked, AskedByName, OptMode, Ready, Refused}
use Rattle.lnbd_history.specs.Events.{Setting}
use Rattle.lnbd_history.specs.Events as setting

-- What came: the server's hello, one option reply, the reply to EXPORT_NAME, a setting, an option that the caller asked.
pub data Turn : Type 0 where
  Hello : Turn
  Replied : Told → Turn
  ByName : (size flags : ℕ) → Turn
  Set : Setting → Turn
  Opted : ℕ → Turn

-- The settings.

-- the export name that the next request carries
abbrev pub name_now : List Turn → List ℕ
name_now [] = []
name_now (Set (setting.Name name) ∷ before) = name
name_now (turn ∷ before) = name_now before

-- the meta contexts that the next request carries
abbrev pub contexts_now : List Turn → List (List ℕ)
contexts_now [] = []
contexts_now (Set (setting.Context name) ∷ before) = contexts_now before ++ name ∷ []
contexts_now (turn ∷ before) = contexts_now before

abbrev pub asks_structured : List Turn → Bool
asks_structured [] = false
asks_structured (Set (setting.Structured on) ∷ before) = on
asks_structured (turn ∷ before) = asks_structured before

abbrev pub asks_extended : List Turn → Bool
asks_extended [] = false
asks_extended (Set (setting.Extended on) ∷ before) = on
asks_extended (turn ∷ before) = asks_extended before

abbrev pub opt_mode : List Turn → Bool
opt_mode [] = false
opt_mode (Set (setting.OptMode on) ∷ before) = on
opt_mode (turn ∷ before) = opt_mode before

-- The order of the options.

-- how an answer ends: by ACK, or by an error with its code
pub data End : Type 0 where
  Acknowledged : End
  Failed : ℕ → End

-- Each ACK and each error ends an answer.
abbrev pub end_of : Told → Option End
end_of told.Ack = Some Acknowledged
end_of (told.Error code) = Some (Failed code)
end_of (told.Server listed) = None
end_of (told.Export size) = None
end_of (told.Name name) = None
end_of (told.Description text) = None
end_of (told.Blocks blocks) = None
end_of told.Passed = None
end_of (told.Context context) = None

abbrev pub is_acknowledged : End → Bool
is_acknowledged Acknowledged = true
is_acknowledged (Failed code) = false

abbrev pub is_empty : {A : Type 0} → List A → Bool
is_empty [] = true
is_empty (x ∷ xs) = false

-- STRUCTURED_REPLY (8) and EXTENDED_HEADERS (11) settle how the server replies. They are asked without the caller.
abbrev pub settles_replies : ℕ → Bool
settles_replies option = (option == opt_structured_reply) || (option == opt_extended_headers)

-- How the server replies is settled: the caller decides, or SET_META_CONTEXT (10) is asked where contexts are wanted and structured replies
-- are on, or GO (7).
abbrev pub after_structured : Bool → List (List ℕ) → Bool → Phase
after_structured opt_mode wanted on =
    if opt_mode then OptMode
    else if on && not (is_empty wanted) then Asked opt_set_meta_context
    else Asked opt_go

-- EXTENDED_HEADERS was answered, or isn't asked for: where extended headers are off, STRUCTURED_REPLY is asked if that is wanted.
abbrev pub after_extended : (structured opt_mode : Bool) → List (List ℕ) → Bool → Phase
after_extended structured opt_mode wanted on =
    if not on && structured then Asked opt_structured_reply
    else after_structured opt_mode wanted on

abbrev pub after_hello : (extended structured opt_mode : Bool) → List (List ℕ) → Phase
after_hello extended structured opt_mode wanted = if extended then Asked opt_extended_headers else after_extended structured opt_mode wanted false

-- GO was answered. Where it isn't known (UNSUP, 1), EXPORT_NAME is asked.
abbrev pub after_go : Bool → End → Phase
after_go opt_mode Acknowledged = Ready
after_go opt_mode (Failed code) = if opt_mode then OptMode else if code == err_unsup then AskedByName else Refused code

-- this option was answered so
abbrev pub after_answer : (structured opt_mode : Bool) → List (List ℕ) → ℕ → End → Phase
after_answer structured opt_mode wanted option end =
    if option == opt_extended_headers then after_extended structured opt_mode wanted (is_acknowledged end)
    else if option == opt_structured_reply then after_structured opt_mode wanted (is_acknowledged end)
    else if option == opt_go then after_go opt_mode end
    else if opt_mode then OptMode
    else Asked opt_go

abbrev pub after_reply : (structured opt_mode : Bool) → List (List ℕ) → Option End → Phase → Phase
after_reply structured opt_mode wanted (Some end) (Asked option) = after_answer structured opt_mode wanted option end
after_reply structured opt_mode wanted (Some end) phase = phase
after_reply structured opt_mode wanted None phase = phase

-- where negotiation stands
abbrev pub phase : List Turn → Phase
phase [] = Greeting
phase (Hello ∷ before) = after_hello (asks_extended before) (asks_structured before) (opt_mode before) (contexts_now before)
phase (Replied reply ∷ before) = after_reply (asks_structured before) (opt_mode before) (contexts_now before) (end_of reply) (phase before)
phase (ByName size flags ∷ before) = Ready
phase (Set one ∷ before) = phase before
phase (Opted option ∷ before) = Asked option

-- The answers: each is all replies up to the first ACK or error.

abbrev pub with_reply : Option End → Told → List Told → List Told
with_reply (Some end) reply earlier = []
with_reply None reply earlier = reply ∷ earlier

-- the replies of the answer that isn't ended, the latest first
abbrev pub under_way : List Turn → List Told
under_way [] = []
under_way (Replied reply ∷ before) = with_reply (end_of reply) reply (under_way before)
under_way (turn ∷ before) = under_way before

-- an answer to an option, and whether the caller asked it in opt mode; the reply to EXPORT_NAME; or a new export name
pub data Step : Type 0 where
  Answered : (by_caller : Bool) (option : ℕ) (replies : List Told) (end : End) → Step
  ToldByName : (size flags : ℕ) → Step
  Renamed : Step

abbrev pub answered : Bool → Option End → List Told → Phase → List Step
answered opt_mode (Some end) replies (Asked option) = Answered (opt_mode && not (settles_replies option)) option replies end ∷ []
answered opt_mode (Some end) replies phase = []
answered opt_mode None replies phase = []

-- the latest first
abbrev pub steps : List Turn → List Step
steps [] = []
steps (Replied reply ∷ before) = answered (opt_mode before) (end_of reply) (under_way before) (phase before) ++ steps before
steps (ByName size flags ∷ before) = ToldByName size flags ∷ steps before
steps (Set (setting.Name name) ∷ before) = Renamed ∷ steps before
steps (turn ∷ before) = steps before

-- What the replies of one answer tell, the latest first: the last of each type counts.

abbrev pub size_told : List Told → Option Size
size_told [] = None
size_told (told.Export size ∷ earlier) = Some size
size_told (reply ∷ earlier) = size_told earlier

abbrev pub name_told : List Told → Option (List ℕ)
name_told [] = None
name_told (told.Name name ∷ earlier) = Some name
name_told (reply ∷ earlier) = name_told earlier

abbrev pub description_told : List Told → Option (List ℕ)
description_told [] = None
description_told (told.Description text ∷ earlier) = Some text
description_told (reply ∷ earlier) = description_told earlier

abbrev pub blocks_told : List Told → Option BlockSizes
blocks_told [] = None
blocks_told (told.Blocks blocks ∷ earlier) = Some blocks
blocks_told (reply ∷ earlier) = blocks_told earlier

abbrev pub servers_told : List Told → List Listed
servers_told [] = []
servers_told (told.Server listed ∷ earlier) = servers_told earlier ++ listed ∷ []
servers_told (reply ∷ earlier) = servers_told earlier

-- A context counts unless an earlier one that counts has its id or its name.
abbrev pub clashes : MetaContext → List MetaContext → Bool
clashes context [] = false
clashes context (other ∷ others) = (context.id == other.id) || bytes_eq context.name other.name || clashes context others

abbrev pub adding : MetaContext → List MetaContext → List MetaContext
adding context earlier = if clashes context earlier then earlier else earlier ++ context ∷ []

abbrev pub contexts_told : List Told → List MetaContext
contexts_told [] = []
contexts_told (told.Context context ∷ earlier) = adding context (contexts_told earlier)
contexts_told (reply ∷ earlier) = contexts_told earlier

-- What was agreed.

-- Extended headers are on exactly where EXTENDED_HEADERS was answered by ACK.
abbrev pub extended : List Step → Bool
extended [] = false
extended (Answered by_caller option replies end ∷ earlier) = ((option == opt_extended_headers) && is_acknowledged end) || extended earlier
extended (step ∷ earlier) = extended earlier

-- Structured replies are on exactly where extended headers are, or STRUCTURED_REPLY was answered by ACK.
abbrev pub structured : List Step → Bool
structured [] = false
structured (Answered by_caller option replies end ∷ earlier) = (settles_replies option && is_acknowledged end) || structured earlier
structured (step ∷ earlier) = structured earlier

-- The contexts of the last answer to SET_META_CONTEXT, where it ended in ACK and no name was set after it.
abbrev pub contexts : List Step → List MetaContext
contexts [] = []
contexts (Answered by_caller option replies end ∷ earlier) =
    if option == opt_set_meta_context then if is_acknowledged end then contexts_told replies else []
    else contexts earlier
contexts (ToldByName size flags ∷ earlier) = contexts earlier
contexts (Renamed ∷ earlier) = []

-- what was told of the export
pub record Export : Type 0 where
  pub size : ℕ
  pub flags : ℕ
  pub blocks : Option BlockSizes
  pub name : Option (List ℕ)
  pub description : Option (List ℕ)

abbrev pub export_of : Option Size → Option BlockSizes → Option (List ℕ) → Option (List ℕ) → Option Export
export_of None blocks name description = None
export_of (Some size) blocks name description = Some (record { size = size.size; flags = size.flags; blocks = blocks; name = name; description = description })

-- By the last answer to INFO (6) or GO (7) that ended in ACK, or the reply to EXPORT_NAME.
abbrev pub export : List Step → Option Export
export [] = None
export (Answered by_caller option replies end ∷ earlier) =
    if is_info option && is_acknowledged end then export_of (size_told replies) (blocks_told replies) (name_told replies) (description_told replies)
    else export earlier
export (ToldByName size flags ∷ earlier) = export_of (Some (record { size = size; flags = flags })) None None None
export (Renamed ∷ earlier) = export earlier

-- The SERVER replies of the last answer to LIST (3) that ended in ACK.
abbrev pub listing : List Step → List Listed
listing [] = []
listing (Answered by_caller option replies end ∷ earlier) =
    if (option == opt_list) && is_acknowledged end then servers_told replies
    else listing earlier
listing (step ∷ earlier) = listing earlier

abbrev pub opt_answer_of : ℕ → End → OptAnswer
opt_answer_of option Acknowledged = opt.Ok
opt_answer_of option (Failed code) = opt.Refused option code

-- The last answer to an option that the caller asked in opt mode.
abbrev pub opt_answer : List Step → Option OptAnswer
opt_answer [] = None
opt_answer (Answered by_caller option replies end ∷ earlier) = if by_caller then Some (opt_answer_of option end) else opt_answer earlier
opt_answer (step ∷ earlier) = opt_answer earlier
