-- Negotiation, one turn at a time, with no list of what came.
use Rattle.std.specs.Prelude.{◌≡◌, ℕ, ◌+◌, Bool, false, not, ◌&&◌, ◌||◌, List, [], ◌∷◌, ◌++◌, length, Option, Some, None, is_some, if◌then◌else◌, ◌==◌}
use Rattle.lnbd_model.specs.declared.export.Blocks.{Blocks as BlockSizes}
use Rattle.lnbd_model.specs.declared.export.Context.{Context as MetaContext}
use Rattle.lnbd_model.specs.declared.export.Listed.{Listed}
use Rattle.lnbd_records.specs.Told.{Told, Size}
use Rattle.lnbd_records.specs.Told as told
use Rattle.lnbd_records.specs.Options.{opt_extended_headers, opt_list, opt_set_meta_context}
use Rattle.lnbd_history.specs.declared.kinds.OptAnswer.{OptAnswer}
use Rattle.lnbd_history.specs.declared.kinds.Phase.{Phase}
use Rattle.lnbd_history.specs.declared.kinds.Phase.TheVariants.{Greeting, Asked, Ready}
use Rattle.lnbd_history.specs.Events.{Setting}
use Rattle.lnbd_history.specs.Events as setting
use Rattle.lnbd_history.specs.Agreement.{Turn, Hello, Replied, ByName, Set, Opted, End, Export, end_of, after_hello, after_answer, phase, under_way, steps, structured, extended, contexts, export, export_of, listing, opt_answer, opt_answer_of, is_acknowledged, settles_replies, is_info, name_now, contexts_now, asks_structured, asks_extended, opt_mode, adding, size_told, blocks_told, name_told, description_told, servers_told, contexts_told}
use Rattle.lnbd_history.specs.Outgoing.{request_at}

-- what the replies of the answer that isn't ended tell
pub record Pending : Type 0 where
  pub count : ℕ
  pub size : Option Size
  pub blocks : Option BlockSizes
  pub name : Option (List ℕ)
  pub description : Option (List ℕ)
  pub servers : List Listed
  pub contexts : List MetaContext

pub record Talk : Type 0 where
  -- the settings: the export's name, the contexts that are asked for, and the three switches
  pub name : List ℕ
  pub wanted : List (List ℕ)
  pub asks_structured : Bool
  pub asks_extended : Bool
  pub opt_mode : Bool
  pub phase : Phase
  pub pending : Pending
  -- what was agreed
  pub structured : Bool
  pub extended : Bool
  pub contexts : List MetaContext
  pub export : Option Export
  pub listing : List Listed
  pub answer : Option OptAnswer

abbrev pub nothing : Pending
nothing = record { count = 0; size = None; blocks = None; name = None; description = None; servers = []; contexts = [] }

-- one reply more
abbrev pub counted : Pending → Pending
counted p = record p { count = p.count + 1 }

abbrev pub pending_with : Told → Pending → Pending
pending_with told.Ack p = counted p
pending_with (told.Error code) p = counted p
pending_with (told.Server listed) p = record (counted p) { servers = p.servers ++ listed ∷ [] }
pending_with (told.Export size) p = record (counted p) { size = Some size }
pending_with (told.Name name) p = record (counted p) { name = Some name }
pending_with (told.Description text) p = record (counted p) { description = Some text }
pending_with (told.Blocks blocks) p = record (counted p) { blocks = Some blocks }
pending_with told.Passed p = counted p
pending_with (told.Context context) p = record (counted p) { contexts = adding context p.contexts }

-- the answer to this option ends so
abbrev pub answered : ℕ → End → Talk → Talk
answered option end t = record {
  name = t.name;
  wanted = t.wanted;
  asks_structured = t.asks_structured;
  asks_extended = t.asks_extended;
  opt_mode = t.opt_mode;
  phase = after_answer t.asks_structured t.opt_mode t.wanted option end;
  pending = nothing;
  structured = (settles_replies option && is_acknowledged end) || t.structured;
  extended = ((option == opt_extended_headers) && is_acknowledged end) || t.extended;
  contexts = if option == opt_set_meta_context then if is_acknowledged end then t.pending.contexts else [] else t.contexts;
  export = if is_info option && is_acknowledged end then export_of t.pending.size t.pending.blocks t.pending.name t.pending.description else t.export;
  listing = if (option == opt_list) && is_acknowledged end then t.pending.servers else t.listing;
  answer = if t.opt_mode && not (settles_replies option) then Some (opt_answer_of option end) else t.answer;
}

abbrev pub ended : End → Phase → Talk → Talk
ended end (Asked option) t = answered option end t
ended end other t = record t { pending = nothing }

abbrev pub replied : Option End → Told → Talk → Talk
replied (Some end) reply t = ended end t.phase t
replied None reply t = record t { pending = pending_with reply t.pending }

-- A new name leaves no context agreed.
abbrev pub setting_to : Setting → Talk → Talk
setting_to (setting.Name name) t = record t { name = name; contexts = [] }
setting_to (setting.Context name) t = record t { wanted = t.wanted ++ name ∷ [] }
setting_to (setting.Structured on) t = record t { asks_structured = on }
setting_to (setting.Extended on) t = record t { asks_extended = on }
setting_to (setting.OptMode on) t = record t { opt_mode = on }

abbrev pub taking : Turn → Talk → Talk
taking Hello t = record t { phase = after_hello t.asks_extended t.asks_structured t.opt_mode t.wanted }
taking (Replied reply) t = replied (end_of reply) reply t
taking (ByName size flags) t = record t { phase = Ready; export = export_of (Some (record { size = size; flags = flags })) None None None }
taking (Set setting) t = setting_to setting t
taking (Opted option) t = record t { phase = Asked option }

abbrev pub begun : Talk
begun = record { name = []; wanted = []; asks_structured = false; asks_extended = false; opt_mode = false; phase = Greeting; pending = nothing; structured = false; extended = false; contexts = []; export = None; listing = []; answer = None }

abbrev pub run : List Turn → Talk
run [] = begun
run (turn ∷ before) = taking turn (run before)

-- What it stands for.
abbrev pub pending_in : List Told → Pending
pending_in replies = record {
  count = length replies;
  size = size_told replies;
  blocks = blocks_told replies;
  name = name_told replies;
  description = description_told replies;
  servers = servers_told replies;
  contexts = contexts_told replies;
}

abbrev pub agreed : List Turn → Talk
agreed turns = record {
  name = name_now turns;
  wanted = contexts_now turns;
  asks_structured = asks_structured turns;
  asks_extended = asks_extended turns;
  opt_mode = opt_mode turns;
  phase = phase turns;
  pending = pending_in (under_way turns);
  structured = structured (steps turns);
  extended = extended (steps turns);
  contexts = contexts (steps turns);
  export = export (steps turns);
  listing = listing (steps turns);
  answer = opt_answer (steps turns);
}

-- the request that a turn makes the client send, where the talk came to this by it
abbrev pub sent_with : Turn → Talk → List (List ℕ)
sent_with Hello t = request_at t.phase t.name t.wanted
sent_with (Replied reply) t = if is_some (end_of reply) then request_at t.phase t.name t.wanted else []
sent_with (ByName size flags) t = []
sent_with (Set setting) t = []
sent_with (Opted option) t = request_at t.phase t.name t.wanted

abbrev pub sent : Turn → Talk → List (List ℕ)
sent turn before = sent_with turn (taking turn before)

-- One turn after another comes to what all turns agree on.
abbrev pub ComesToAgreed : Type 0
ComesToAgreed = (turns : List Turn) → run turns ≡ agreed turns
