-- What a reader of a server's bytes comes to know: what is to come is as it stands, or the link is dead, and what it holds is sound.
use Rattle.std.proofs.Common.{◌≡◌, ℕ, ◌+◌, ◌-◌, ◌<◌, ◌⊎◌, inl, inr, Bool, true, false, not, ◌&&◌, ◌||◌, List, [], ◌∷◌, ◌++◌, length, take, drop, Option, Some, None, is_some, ◌==◌, nat_le, refl, ap, sym, subst, ◌∙◌, arith, if◌then◌else◌, length-append}
use Rattle.std.proofs.lemmas.Bool.{cases_eq, eq-eqb, ne_eqb}
use Rattle.lnbd_model.specs.Errors.{error_of}
use Rattle.lnbd_model.specs.Kind.{is_read}
use Rattle.lnbd_model.specs.declared.kind.Kind.{Kind}
use Rattle.lnbd_model.specs.declared.kind.Kind.TheVariants as kind
use Rattle.lnbd_model.specs.declared.state.Cause.{Cause}
use Rattle.lnbd_model.specs.declared.state.Cause.TheVariants.{Broke}
use Rattle.lnbd_records.specs.Content.{Content, Data, Error, Bare}
use Rattle.lnbd_records.specs.Flags.{flag_no_zeroes}
use Rattle.lnbd_records.specs.Numbers.{has_bit, number_at, row}
use Rattle.lnbd_records.specs.Handshake.{hello, option_reply_head, export_name_reply}
use Rattle.lnbd_records.specs.Transmission.{simple_reply, chunk_head, extended_chunk_head}
use Rattle.lnbd_records.proofs.NumberLaws.{length-row}
use Rattle.lnbd_records.specs.Options.{opt_go, opt_extended_headers, opt_structured_reply, rep_ack, rep_server, rep_info, rep_meta_context, info_export, info_name, info_description, info_block_size, first_rep_error}
use Rattle.lnbd_records.specs.Replies.{body_of, fits, server_body, info_body, info_of_type, context_body, blocks_told, are_blocks}
use Rattle.lnbd_records.specs.Told.{Told, Body}
use Rattle.lnbd_records.specs.Told as told
use Rattle.lnbd_stream.specs.Laws.{Lasts}
use Rattle.lnbd_chunks.specs.Chunk.{Waiting}
use Rattle.lnbd_chunks.specs.Reply.{content_size, simple_content}
use Rattle.lnbd_history.specs.declared.kinds.Phase.{Phase}
use Rattle.lnbd_history.specs.declared.kinds.Phase.TheVariants as phase
use Rattle.lnbd_history.specs.declared.kinds.Stage.{Stage}
use Rattle.lnbd_history.specs.declared.kinds.Stage.TheVariants.{Open, Dead}
use Rattle.lnbd_history.specs.Agreement.{Turn, Hello, Replied, ByName, Set, Opted, phase, steps, opt_mode, asks_structured, asks_extended, contexts_now, End, Acknowledged, Failed, end_of, after_answer, after_extended, after_structured, after_go, after_reply, is_acknowledged, contexts}
use Rattle.lnbd_history.specs.Arrivals.{Shown, OptionReply, ExportReply, Reply, Broken, Passed, Ignored, Sight, reply, shows_at, shows_in, shows_ignored, shows_option, shows_frame}
use Rattle.lnbd_history.specs.Arrivals as shown
use Rattle.lnbd_history.specs.Commands.{Command, Request}
use Rattle.lnbd_history.specs.Entries.{Item, Framed, Lost, Filing, own, ends, is_ended}
use Rattle.lnbd_history.specs.Events.{History}
use Rattle.lnbd_history.specs.Events as event
use Rattle.lnbd_history.specs.History.{Known, asked, request, turned, if_refused, file, file_under, file_all, filing_of, in_flight, die, cookies, sight, waiting_of}
use Rattle.lnbd_asked.specs.Link.{Nobody, Link, server, shows, is_free, is_by_name, waited}
use Rattle.std.specs.Option.{option_map}
use Rattle.lnbd_asked.specs.Transcript.{bare, asked_on, name_asked}
use Rattle.lnbd_asked.proofs.Match.{file_still, all_still}
use Rattle.lnbd_export.specs.Requests.{Refused, Done, Content as Holding, Status as Telling}
use Rattle.lnbd_export.specs.Requests as given
use Rattle.lnbd_export.specs.declared.request.Replies.{Replies}
use Rattle.lnbd_export.specs.declared.request.Replies.TheVariants.{Simple, Structured, Extended}
use Rattle.lnbd_export.specs.declared.request.Request as asks
use Rattle.lnbd_server.specs.Options as haggled
use Rattle.lnbd_served.specs.Steps.{Step}
use Rattle.lnbd_served.proofs.Settling.{Settles, Good}
use Rattle.lnbd_served.proofs.Shown.{IsBroken, good_hello, good_option, good_named, IsReply}
use Rattle.lnbd_served.proofs.Frames.{Waits, SimpleFor, ChunkFor, good_simple, good_chunk, good_extended_chunk}
use Rattle.lnbd_served.proofs.Items.{Said, Greets, Answers, Names, Replies_to, encode, AreFair, Carries, IsTrue, OneFiled, AreFiled, is_last, IsFair, AreReplies, acknowledges, FitsRequest, says_of, error_in, bytes_in, IsMade, AreMade, simple_spelled, chunk_spelled, extended_spelled, Knows, IsSound, Expects, Awaits, IsOver}

-- Each option is the caller's.

abbrev Opts : List Turn → Type 0
Opts turns = (opt_mode turns ≡ true) × (asks_structured turns ≡ false) × (asks_extended turns ≡ false)

opted : (size : ℕ) (turns : List Turn) → AreFair size turns → Opts turns
opted size [] f = absurd f
opted size (Hello ∷ before) f = opted size before f
opted size (Replied told ∷ before) f = opted size before f.1
opted size (ByName n flags ∷ before) f = opted size before f.1
opted size (Set one ∷ before) f = subst (λ (ts : List Turn). Opts (Set one ∷ ts)) (sym f.1) (subst (λ (o : event.Setting). Opts (Set o ∷ [])) (sym f.0) (refl, refl, refl))
opted size (Opted option ∷ before) f = opted size before f

pub greeted_phase : (size : ℕ) (turns : List Turn) → AreFair size turns → phase (Hello ∷ turns) ≡ phase.OptMode
greeted_phase size turns f =
    let o = opted size turns f in
    ap (λ b. if b then phase.Asked opt_extended_headers else after_extended (asks_structured turns) (opt_mode turns) (contexts_now turns) false) o.2
    ∙ ap (λ b. after_extended b (opt_mode turns) (contexts_now turns) false) o.1 ∙ ap (λ b. after_structured b (contexts_now turns) false) o.0

-- where an answer leads
abbrev settled : Bool → Bool → Bool → End → Phase
settled a b c end = if a then phase.OptMode else if b then phase.OptMode else if c then after_go true end else phase.OptMode

pub data Leads (option : ℕ) (end : End) : Phase → Type 0 where
  Goes : end ≡ Acknowledged → option ≡ opt_go → Leads option end phase.Ready
  Stays : Leads option end phase.OptMode

settled_leads : (option : ℕ) (end : End) (a b c : Bool) → (c ≡ true → option ≡ opt_go) → Leads option end (settled a b c end)
settled_leads option end true b c h = Stays
settled_leads option end false true c h = Stays
settled_leads option Acknowledged false false true h = Goes refl (h refl)
settled_leads option (Failed code) false false true h = Stays
settled_leads option end false false false h = Stays

extended_on : (wanted : List (List ℕ)) (on : Bool) → after_extended false true wanted on ≡ phase.OptMode
extended_on wanted true = refl
extended_on wanted false = refl

answer_leads : (wanted : List (List ℕ)) (option : ℕ) (end : End) → Leads option end (after_answer false true wanted option end)
answer_leads wanted option end =
    subst (λ (p : Phase). Leads option end (if option == opt_extended_headers then p else if option == opt_structured_reply then phase.OptMode else if option == opt_go then after_go true end else phase.OptMode))
    (sym (extended_on wanted (is_acknowledged end)))
    (settled_leads option end (option == opt_extended_headers) (option == opt_structured_reply) (option == opt_go) is_go)
  where
    is_go : (option == opt_go) ≡ true → option ≡ opt_go
    is_go e = elim (cases_eq option opt_go) [
      | inl same ↦ same
      | inr other ↦ absurd (let nay : true ≡ false = sym e ∙ ne_eqb option opt_go other in cc)
    ]

pub replied_leads : (size : ℕ) (turns : List Turn) (option : ℕ) (told : Told) (end : End) → AreFair size turns → phase turns ≡ phase.Asked option → end_of told ≡ Some end → Leads option end (phase (Replied told ∷ turns))
replied_leads size turns option told end f at e =
    let o = opted size turns f in
    subst (λ (p : Phase). Leads option end p)
    (sym (ap (λ (v : Option End). after_reply (asks_structured turns) (opt_mode turns) (contexts_now turns) v (phase turns)) e
    ∙ ap (λ (p : Phase). after_reply (asks_structured turns) (opt_mode turns) (contexts_now turns) (Some end) p) at
    ∙ ap (λ b. after_answer b (opt_mode turns) (contexts_now turns) option end) o.1 ∙ ap (λ b. after_answer false b (contexts_now turns) option end) o.0))
    (answer_leads (contexts_now turns) option end)

pub replied_stays : (turns : List Turn) (told : Told) → end_of told ≡ None → phase (Replied told ∷ turns) ≡ phase turns
replied_stays turns told e = ap (λ (v : Option End). after_reply (asks_structured turns) (opt_mode turns) (contexts_now turns) v (phase turns)) e ∙ go (phase turns)
  where
    go : (p : Phase) → after_reply (asks_structured turns) (opt_mode turns) (contexts_now turns) None p ≡ p
    go phase.Greeting = refl
    go (phase.Asked option) = refl
    go phase.AskedByName = refl
    go phase.OptMode = refl
    go phase.Ready = refl
    go (phase.Refused code) = refl

-- A reply ends its answer where its type says so.

-- how a type of replies ends an answer
abbrev pub EndsIf : (last acks : Bool) → Told → Type 0
EndsIf last acks told = ((last ≡ true) × (end : End) × (end_of told ≡ Some end) × (end ≡ Acknowledged → acks ≡ true)) ⊎ ((last ≡ false) × (end_of told ≡ None))

abbrev pub EndsBy : ℕ → Told → Type 0
EndsBy type told = EndsIf (nat_le first_rep_error type || (type == rep_ack)) (type == rep_ack) told

pub of_fits : (test : Bool) (one : Told) (body : Body) → fits test one ≡ Some body → body.told ≡ one
of_fits true one body e = cc
of_fits false one body e = cc

of_none : (test : Bool) (one : Told) (body : Body) → end_of one ≡ None → fits test one ≡ Some body → end_of body.told ≡ None
of_none test one body none e = subst (λ (t : Told). end_of t ≡ None) (sym (of_fits test one body e)) none

info_none : (type : ℕ) (bytes : List ℕ) (body : Body) → info_of_type type bytes ≡ Some body → end_of body.told ≡ None
info_none type bytes body e = go (type == info_export) (type == info_name) (type == info_description) (type == info_block_size) e
  where
    blocks : (b : Bool) → end_of (if b then told.Blocks (record { minimum = number_at 2 4 bytes; preferred = number_at 6 4 bytes; maximum = number_at 10 4 bytes }) else told.Passed) ≡ None
    blocks true = refl
    blocks false = refl

    go : (a b c d : Bool) → (if a then fits (length bytes == 12) (told.Export (record { size = number_at 2 8 bytes; flags = number_at 10 2 bytes }))
        else if b then fits true (told.Name (drop 2 bytes)) else if c then fits true (told.Description (drop 2 bytes))
        else if d then fits (length bytes == 14) (blocks_told (number_at 2 4 bytes) (number_at 6 4 bytes) (number_at 10 4 bytes)) else fits true told.Passed) ≡ Some body → end_of body.told ≡ None
    go true b c d e = of_none (length bytes == 12) (told.Export (record { size = number_at 2 8 bytes; flags = number_at 10 2 bytes })) body refl e
    go false true c d e = of_none true (told.Name (drop 2 bytes)) body refl e
    go false false true d e = of_none true (told.Description (drop 2 bytes)) body refl e
    go false false false true e = of_none (length bytes == 14) (blocks_told (number_at 2 4 bytes) (number_at 6 4 bytes) (number_at 10 4 bytes)) body (blocks (are_blocks (number_at 2 4 bytes) (number_at 6 4 bytes) (number_at 10 4 bytes))) e
    go false false false false e = of_none true told.Passed body refl e

server_none : (bytes : List ℕ) (body : Body) → server_body bytes ≡ Some body → end_of body.told ≡ None
server_none bytes body e =
    of_none (nat_le 4 (length bytes) && nat_le (4 + number_at 0 4 bytes) (length bytes)) (told.Server (record { name = take (number_at 0 4 bytes) (drop 4 bytes); description = drop (4 + number_at 0 4 bytes) bytes })) body refl e

context_none : (bytes : List ℕ) (body : Body) → context_body bytes ≡ Some body → end_of body.told ≡ None
context_none bytes body e = of_none (nat_le 4 (length bytes)) (told.Context (record { id = number_at 0 4 bytes; name = drop 4 bytes })) body refl e

end_is : (test : Bool) (one : Told) (end : End) (body : Body) → end_of one ≡ Some end → fits test one ≡ Some body → end_of body.told ≡ Some end
end_is test one end body ends e = subst (λ (t : Told). end_of t ≡ Some end) (sym (of_fits test one body e)) ends

pub body_ends : (type : ℕ) (bytes : List ℕ) (body : Body) → body_of type bytes ≡ Some body → EndsBy type body.told
unfolding body_of
body_ends type bytes body e = go (nat_le first_rep_error type) (type == rep_ack) (type == rep_server) (type == rep_info) (type == rep_meta_context) e
  where
    info : (b : Bool) → (if b then info_of_type (number_at 0 2 bytes) bytes else None) ≡ Some body → end_of body.told ≡ None
    info true e = info_none (number_at 0 2 bytes) bytes body e
    info false e = cc

    go : (a b c d f : Bool) → (if a then fits true (told.Error (type - first_rep_error)) else if b then fits (length bytes == 0) told.Ack else if c then server_body bytes else if d then info_body bytes else if f then context_body bytes else None) ≡ Some body →
        EndsIf (a || b) b body.told
    go true b c d f e = inl (refl, Failed (type - first_rep_error), end_is true (told.Error (type - first_rep_error)) (Failed (type - first_rep_error)) body refl e, λ same. cc)
    go false true c d f e = inl (refl, Acknowledged, end_is (length bytes == 0) told.Ack Acknowledged body refl e, λ same. refl)
    go false false true d f e = inr (refl, server_none bytes body e)
    go false false false true f e = inr (refl, info (nat_le 2 (length bytes)) e)
    go false false false false true e = inr (refl, context_none bytes body e)
    go false false false false false e = cc

-- What is filed.

filed_ends : (steps : List Step) (link : ℕ) (known : Link) (cookie : ℕ) → AreFiled steps link known → is_ended (own cookie known.heard.entries) ≡ false → own cookie known.heard.entries ≡ []
filed_ends steps link known cookie filed open_ = elim (filed cookie) [
  | inl none ↦ none
  | inr one ↦ let nay : true ≡ false = sym (ap (λ b. b || false) one.ended) ∙ sym (ap is_ended one.only) ∙ open_ in cc
]

-- the request under a cookie
abbrev request_of : Link → ℕ → Option (Request Nobody)
request_of known cookie = request known.requests cookie

-- the link with this heard
abbrev pub hearing : Link → Known Nobody → Link
hearing known heard = record known { heard = heard }

-- what was filed under another cookie, or nothing
still_filed : (all : List Step) (link : ℕ) (known : Link) (heard : Known Nobody) (cookie : ℕ) → own cookie heard.entries ≡ own cookie known.heard.entries → ((own cookie known.heard.entries ≡ []) ⊎ OneFiled all link known cookie) →
    (own cookie heard.entries ≡ []) ⊎ OneFiled all link (hearing known heard) cookie
still_filed all link known heard cookie old (inl n) = inl (old ∙ n)
still_filed all link known heard cookie old (inr o) = inr (record { filing = o.filing; only = old ∙ o.only; request_ = o.request_; ended = o.ended; true_ = o.true_ })

abbrev new_filing : Request Nobody → ℕ → Item → Known Nobody → Filing Nobody
new_filing q c item heard = filing_of q c (own c heard.entries) (contexts (steps heard.turns)) item heard.answers

file_filed : (all : List Step) (link : ℕ) (known : Link) (c : ℕ) (item : Item) → ends item ≡ true → own c known.heard.entries ≡ [] →
    ((q : Request Nobody) → request known.requests c ≡ Some q → IsTrue all link c q.offset item) → AreFiled all link known → AreFiled all link (hearing known (file known.requests c item known.heard))
file_filed all link known c item last none right filed cookie = go (request known.requests c) refl
  where
    go : (v : Option (Request Nobody)) → request known.requests c ≡ v → (own cookie (file_under v c item known.heard).entries ≡ []) ⊎ OneFiled all link (hearing known (file_under v c item known.heard)) cookie
    go None e = still_filed all link known known.heard cookie refl (filed cookie)
    go (Some q) e = elim (cases_eq c cookie) [
      | inl same ↦
          inr (record {
            filing = new_filing q c item known.heard;
            only = ap (λ b. if b then new_filing q c item known.heard ∷ own cookie known.heard.entries else own cookie known.heard.entries) (eq-eqb c cookie same)
                ∙ ap (λ xs. new_filing q c item known.heard ∷ xs) (ap (λ k. own k known.heard.entries) (sym same) ∙ none);
            request_ = ap (request known.requests) (sym same) ∙ e;
            ended = last;
            true_ = subst (λ k. IsTrue all link k q.offset item) same (right q e);
          })
      | inr other ↦ still_filed all link known (file_under (Some q) c item known.heard) cookie
          (ap (λ b. if b then new_filing q c item known.heard ∷ own cookie known.heard.entries else own cookie known.heard.entries) (ne_eqb c cookie other)) (filed cookie)
    ]

both_true : (a b : Bool) → a && not b ≡ true → b ≡ false
both_true true true e = sym e
both_true true false e = refl
both_true false b e = cc

lost_filed : (all : List Step) (link : ℕ) (known : Link) (list : List ℕ) → AreFiled all link known → AreFiled all link (hearing known (file_all known.requests Lost list known.heard))
lost_filed all link known [] filed = filed
lost_filed all link known (c ∷ list) filed = lost_filed all link (hearing known (if in_flight known.requests known.heard.entries c then file known.requests c Lost known.heard else known.heard)) list (go (in_flight known.requests known.heard.entries c) refl)
  where
    go : (b : Bool) → in_flight known.requests known.heard.entries c ≡ b → AreFiled all link (hearing known (if b then file known.requests c Lost known.heard else known.heard))
    go true e = file_filed all link known c Lost refl (filed_ends all link known c filed (both_true (is_some (request known.requests c)) (is_ended (own c known.heard.entries)) e)) (λ q is. tt) filed
    go false e = filed

module _ (name : List ℕ) (size : ℕ) (all : List Step) (link : ℕ) where
  -- A link that dies holds what it held.
  pub dies : (cause : Cause) (known : Link) → IsSound name size all link known → IsOver name size all link (hearing known (die known.requests cause known.heard))
  dies cause known sound =
      let still = all_still known.requests Lost (cookies (asked known.requests).issued) (record known.heard { stage = Dead cause }) in (
        (cause, still.stage),
        record {
          fair = subst (AreFair size) (sym still.turns) sound.fair;
          filed = lost_filed all link (hearing known (record known.heard { stage = Dead cause })) (cookies (asked known.requests).issued)
              (λ c. still_filed all link known _ c refl (sound.filed c));
          named = λ ready. sound.named (ap phase (sym still.turns) ∙ ready);
        },
      )

  broken : (known : Link) (found : Shown) → IsSound name size all link known → IsBroken found → IsOver name size all link (server.enter found known)
  broken known (shown.Hello flags) sound b = absurd b
  broken known (OptionReply told) sound b = absurd b
  broken known (ExportReply n flags) sound b = absurd b
  broken known (Reply frame) sound b = absurd b
  broken known (Broken breach) sound b = dies (Broke breach) known sound
  broken known Passed sound b = absurd b
  broken known Ignored sound b = absurd b

  -- A dead link stays as it is.
  pub over_lasts : Lasts server (IsOver name size all link)
  over_lasts known bytes found over e = go (is_free (phase known.heard.turns)) (is_by_name known.wishes) e
    where
      ignored : (bs : List ℕ) → shows_ignored bs ≡ Some found → IsOver name size all link (server.enter found known)
      ignored [] e = cc
      ignored (b ∷ bs) e = let is : Ignored ≡ found = cc in subst (λ (f : Shown). IsOver name size all link (server.enter f known)) is over

      dead : (sight : Sight) → shows_at known.heard.stage sight (waited known) bytes ≡ Some found → IsOver name size all link (server.enter found known)
      dead sight e = ignored bytes (sym (ap (λ (s : Stage). shows_at s sight (waited known) bytes) over.0.1) ∙ e)

      go : (a b : Bool) → (if a then if b then shows_at known.heard.stage (record (sight known.heard) { phase = phase.AskedByName }) (waited known) bytes else None else shows_at known.heard.stage (sight known.heard) (waited known) bytes) ≡ Some found →
          IsOver name size all link (server.enter found known)
      go true true e = dead (record (sight known.heard) { phase = phase.AskedByName }) e
      go true false e = cc
      go false b e = dead (sight known.heard) e

-- Each thing that is said has a byte.
pub full_said : (one : Said) → 0 < length (encode one)
full_said Greets = omega (arith, length-row (hello 3))
full_said (Answers option reply) = omega (arith, length-append (row (option_reply_head option reply.type (length reply.body))) reply.body, length-row (option_reply_head option reply.type (length reply.body)))
full_said (Names size flags) = omega (arith, length-row (export_name_reply size flags))
full_said (Replies_to Simple request made) =
    let n = ap length (simple_spelled request made) in omega (arith, n, length-append (row (simple_reply (error_in made) request.cookie)) (bytes_in made), length-row (simple_reply (error_in made) request.cookie))
full_said (Replies_to Structured request made) =
    let s = says_of false request.offset made in
    let n = ap length (chunk_spelled request made) in
    omega (arith, n, length-append (row (chunk_head 1 (says_of false request.offset made).type request.cookie (length (says_of false request.offset made).payload))) (says_of false request.offset made).payload, length-row (chunk_head 1 (says_of false request.offset made).type request.cookie (length (says_of false request.offset made).payload)))
full_said (Replies_to Extended request made) =
    let n = ap length (extended_spelled request made) in
    omega (arith, n, length-append (row (extended_chunk_head 1 (says_of true request.offset made).type request.cookie request.offset (length (says_of true request.offset made).payload))) (says_of true request.offset made).payload, length-row (extended_chunk_head 1 (says_of true request.offset made).type request.cookie request.offset (length (says_of true request.offset made).payload)))

-- What a frame says of the reply that was made.

not_read : (k : Kind) → (Some k ≡ Some kind.Read → ⊥) → is_read k ≡ false
not_read kind.Read nay = absurd (nay refl)
not_read kind.Write nay = refl
not_read kind.Flush nay = refl
not_read kind.Trim nay = refl
not_read kind.Cache nay = refl
not_read kind.Zero nay = refl
not_read kind.BlockStatus nay = refl

carries_bare : (offset : ℕ) (made : given.Reply) → ((error : ℕ) → made ≡ Refused error → ⊥) → ((bytes : List ℕ) → made ≡ Holding bytes → ⊥) → Carries offset made Bare
carries_bare offset made refused holding = record { refused = λ error e. absurd (refused error e); data_ = λ bytes e. absurd (holding bytes e); status = λ id ds e. cc }

carries_error : (offset error : ℕ) → ((error_of error == 0) ≡ false) → Carries offset (Refused error) (Error error)
carries_error offset error some = record {
  refused = λ other e. let same : error ≡ other = cc in (ap Error same, ap (λ k. error_of k == 0) (sym same) ∙ some);
  data_ = λ bytes e. cc;
  status = λ id ds e. cc;
}

-- the command that waits is this request's
pub record Matches (command : Waiting) (request : asks.Request) : Type 0 where
  pub kind : Some command.kind ≡ request.kind
  pub offset : command.offset ≡ request.offset
  pub length_ : command.length ≡ request.length

carries_simple : (command : Waiting) (request : asks.Request) (made : given.Reply) → Matches command request → FitsRequest request made → Carries command.offset made (simple_content command (error_in made) (bytes_in made))
carries_simple command request (Refused error) m fits = subst (λ (c : Content). Carries command.offset (Refused error) c)
    (sym (ap (λ (b : Bool). if b then if is_read command.kind then Data command.offset [] else Bare else Error error) fits.1)) (carries_error command.offset error fits.2)
carries_simple command request Done m fits = subst (λ (c : Content). Carries command.offset Done c)
    (sym (ap (λ (b : Bool). if b then Data command.offset [] else Bare) (not_read command.kind (λ e. fits (sym m.kind ∙ e))))) (carries_bare command.offset Done (λ error e. cc) (λ bytes e. cc))
carries_simple command request (Holding bytes) m fits =
    let reads : command.kind ≡ kind.Read = (let same : Some command.kind ≡ Some kind.Read = m.kind ∙ fits.0 in cc) in
    subst (λ (c : Content). Carries command.offset (Holding bytes) c) (sym (ap (λ (k : Kind). if is_read k then Data command.offset bytes else Bare) reads))
    (record { refused = λ error e. cc; data_ = λ other e. let same : bytes ≡ other = cc in inl (ap (Data command.offset) same); status = λ id ds e. cc })
carries_simple command request (Telling ds) m fits = subst (λ (c : Content). Carries command.offset (Telling ds) c)
    (sym (ap (λ (b : Bool). if b then Data command.offset [] else Bare) (not_read command.kind (λ e. fits (sym m.kind ∙ e))))) (carries_bare command.offset (Telling ds) (λ error e. cc) (λ bytes e. cc))

pub size_simple : (command : Waiting) (request : asks.Request) (made : given.Reply) → Matches command request → FitsRequest request made → content_size command (error_in made) ≡ length (bytes_in made)
size_simple command request (Refused error) m fits = ap (λ (b : Bool). if b then if is_read command.kind then command.length else 0 else 0) fits.1
size_simple command request Done m fits = ap (λ (b : Bool). if b then command.length else 0) (not_read command.kind (λ e. fits (sym m.kind ∙ e)))
size_simple command request (Holding bytes) m fits =
    let reads : command.kind ≡ kind.Read = (let same : Some command.kind ≡ Some kind.Read = m.kind ∙ fits.0 in cc) in
    ap (λ (k : Kind). if is_read k then command.length else 0) reads ∙ m.length_ ∙ sym fits.1
size_simple command request (Telling ds) m fits = ap (λ (b : Bool). if b then command.length else 0) (not_read command.kind (λ e. fits (sym m.kind ∙ e)))

carries_chunk : (extended : Bool) (request : asks.Request) (offset : ℕ) (made : given.Reply) → FitsRequest request made → Carries offset made (says_of extended offset made).content
carries_chunk extended request offset (Refused error) fits = carries_error offset error fits.2
carries_chunk extended request offset Done fits = record { refused = λ error e. cc; data_ = λ bytes e. cc; status = λ id ds e. cc }
carries_chunk extended request offset (Holding []) fits = record { refused = λ error e. cc; data_ = λ bytes e. let same : [] ≡ bytes = cc in inr (refl, sym same); status = λ id ds e. cc }
carries_chunk extended request offset (Holding (byte ∷ bytes)) fits = record { refused = λ error e. cc; data_ = λ other e. let same : byte ∷ bytes ≡ other = cc in inl (ap (Data offset) same); status = λ id ds e. cc }
carries_chunk false request offset (Telling ds) fits = record { refused = λ error e. cc; data_ = λ bytes e. cc; status = λ id other e. let same : ds ≡ other = cc in ap Telling same }
carries_chunk true request offset (Telling ds) fits = record { refused = λ error e. cc; data_ = λ bytes e. cc; status = λ id other e. let same : ds ≡ other = cc in ap Telling same }

pub flags_still : (requests : History Nobody) (c : ℕ) (item : Item) (heard : Known Nobody) → (file requests c item heard).flags ≡ heard.flags
flags_still requests c item heard = go (request requests c)
  where
    go : (v : Option (Request Nobody)) → (file_under v c item heard).flags ≡ heard.flags
    go None = refl
    go (Some q) = refl

-- what a command that waits says of the link
pub record WaitsFor (known : Link) (cookie : ℕ) (command : Waiting) : Type 0 where
  pub request_ : Request Nobody
  pub is : request known.requests cookie ≡ Some request_
  pub open_ : is_ended (own cookie known.heard.entries) ≡ false
  pub kind : command.kind ≡ request_.kind
  pub offset : command.offset ≡ request_.offset
  pub length_ : command.length ≡ request_.length

pub waits_for : (known : Link) (cookie : ℕ) (command : Waiting) → waited known cookie ≡ Some command → WaitsFor known cookie command
waits_for known cookie command e = go (is_ended (own cookie known.heard.entries)) (request known.requests cookie) refl refl e
  where
    go : (b : Bool) (v : Option (Request Nobody)) → is_ended (own cookie known.heard.entries) ≡ b → request known.requests cookie ≡ v → waiting_of true b (own cookie known.heard.entries) v ≡ Some command → WaitsFor known cookie command
    go true v b w e = cc
    go false None b w e = cc
    go false (Some q) b w e = record { request_ = q; is = w; open_ = b; kind = cc; offset = cc; length_ = cc }

pub good_map : (R Q : Shown → Type 0) (left : List ℕ) (v : Option Shown) → ((found : Shown) → R found → Q found) → Good IsBroken R left v → Good IsBroken Q left v
good_map R Q left None h g = g
good_map R Q left (Some found) h (inl b) = inl b
good_map R Q left (Some found) h (inr (l, r)) = inr (l, h found r)

-- What is shown, by where negotiation stands.
abbrev pub ShownBy : Link → Phase → List ℕ → Option Shown
ShownBy known p now =
    if is_free p then if is_by_name known.wishes then shown.shows_by_name (has_bit flag_no_zeroes known.heard.flags) now else None
    else shows_in p (sight known.heard) (waited known) now

pub shown_by : (known : Link) (p : Phase) (now : List ℕ) → known.heard.stage ≡ Open → phase known.heard.turns ≡ p → shows known now ≡ ShownBy known p now
shown_by known p now open_ at =
    ap (λ (s : Stage). if is_free (phase known.heard.turns) then if is_by_name known.wishes then shows_at s (record (sight known.heard) { phase = phase.AskedByName }) (waited known) now else None else shows_at s (sight known.heard) (waited known) now) open_
    ∙ ap (λ (q : Phase). if is_free q then if is_by_name known.wishes then shown.shows_by_name (has_bit flag_no_zeroes known.heard.flags) now else None else shows_in q (sight known.heard) (waited known) now) at

module _ (name : List ℕ) (size : ℕ) (all : List Step) (link : ℕ) where
  matches : (known : Link) (replies : Replies) (request : asks.Request) (made : given.Reply) (command : Waiting) → Knows all link known → IsMade all link replies request made → waited known request.cookie ≡ Some command → Matches command request
  matches known replies request made command knows is e =
      let w = waits_for known request.cookie command e in
      let k = knows is.taken is.kind is.took (ap (λ (r : asks.Request). r.kind) is.is ∙ is.kind_) in
      let asked : asked_on known request.cookie ≡ Some k.0 = ap (asked_on known) (ap (λ (r : asks.Request). r.cookie) (sym is.is)) ∙ k.1 in
      let both : Some (bare w.request_) ≡ Some k.0 = sym (ap (option_map bare) w.is) ∙ asked in
      let same : bare w.request_ ≡ k.0 = cc in
      record {
        kind = ap (λ (x : Kind). Some x) (w.kind ∙ ap (λ (c : Command Nobody). c.kind) same) ∙ sym k.2.kind ∙ ap (λ (r : asks.Request). r.kind) is.is;
        offset = w.offset ∙ ap (λ (c : Command Nobody). c.offset) same ∙ sym k.2.offset ∙ ap (λ (r : asks.Request). r.offset) is.is;
        length_ = w.length_ ∙ ap (λ (c : Command Nobody). c.length) same ∙ sym k.2.length_ ∙ ap (λ (r : asks.Request). r.length) is.is;
      }

  -- a frame that carries the reply
  abbrev Framing : Link → asks.Request → given.Reply → Shown → Type 0
  Framing known request made found = (command : Waiting) × (waited known request.cookie ≡ Some command) × (content : Content) × (found ≡ reply request.cookie content true) × Carries command.offset made content

  good_reply : (known : Link) (replies : Replies) (request : asks.Request) (made : given.Reply) (structured extended : Bool) (now left : List ℕ) → Knows all link known → IsMade all link replies request made → now ++ left ≡ encode (Replies_to replies request made) →
      Good IsBroken (Framing known request made) left (shows_frame structured extended (waited known) now)
  good_reply known Simple request made structured extended now left knows is e =
      good_map (Waits (waited known) request.cookie (SimpleFor request.cookie (error_in made) (bytes_in made))) (Framing known request made) left _
      (λ found w. (w.0, w.1, simple_content w.0 (error_in made) (bytes_in made), w.2, carries_simple w.0 request made (matches known Simple request made w.0 knows is w.1) is.fits))
      (good_simple (error_in made) request.cookie (bytes_in made) now left is.wire (e ∙ simple_spelled request made) structured extended (waited known)
      (λ command there. size_simple command request made (matches known Simple request made command knows is there) is.fits))
  good_reply known Structured request made structured extended now left knows is e =
      good_map (Waits (waited known) request.cookie (ChunkFor request.cookie (says_of false request.offset made).content)) (Framing known request made) left _
      (λ found w. (w.0, w.1, (says_of false request.offset made).content, w.2, subst (λ (o : ℕ). Carries o made (says_of false request.offset made).content) (sym (matches known Structured request made w.0 knows is w.1).offset) (carries_chunk false request request.offset made is.fits)))
      (good_chunk (says_of false request.offset made) request.cookie now left is.wire.1 is.wire.0 (e ∙ chunk_spelled request made) structured extended (waited known))
  good_reply known Extended request made structured extended now left knows is e =
      good_map (Waits (waited known) request.cookie (ChunkFor request.cookie (says_of true request.offset made).content)) (Framing known request made) left _
      (λ found w. (w.0, w.1, (says_of true request.offset made).content, w.2, subst (λ (o : ℕ). Carries o made (says_of true request.offset made).content) (sym (matches known Extended request made w.0 knows is w.1).offset) (carries_chunk true request request.offset made is.fits)))
      (good_extended_chunk (says_of true request.offset made) request.cookie request.offset now left is.wire.1 is.wire.0 (e ∙ extended_spelled request made) structured extended (waited known))

  -- What is entered.

  abbrev Next : Link → List Said → Shown → Type 0
  Next known more found = Awaits name size all link (server.enter found known) more

  turned_filed : (known : Link) (turn : Turn) (flags : ℕ) → AreFiled all link known → AreFiled all link (hearing known (turned turn (record known.heard { flags = flags })))
  turned_filed known turn flags filed c = still_filed all link known _ c refl (filed c)

  -- The hello.
  enter_hello : (known : Link) → Awaits name size all link known (Greets ∷ []) → Next known [] (shown.Hello 3)
  enter_hello known a =
      let at = greeted_phase size known.heard.turns a.sound.fair in
      record {
        open_ = a.open_;
        sound = record {
          fair = a.sound.fair;
          filed = λ c. still_filed all link known _ c refl (a.sound.filed c);
          named = λ ready. let nay : phase.OptMode ≡ phase.Ready = sym at ∙ ready in cc;
        };
        flags = inr refl;
        knows = a.knows;
        expects = subst (λ (p : Phase). Expects name size all link (server.enter (shown.Hello 3) known) p []) (sym at) (inl refl);
      }

  -- The reply to EXPORT_NAME.
  enter_named : (known : Link) (flags : ℕ) → Awaits name size all link known (Names size flags ∷ []) → known.heard.flags ≡ 3 → name_asked known.wishes ≡ Some name → Next known [] (ExportReply size flags)
  enter_named known flags a three named = record {
    open_ = a.open_;
    sound = record {
      fair = (refl, a.sound.fair);
      filed = λ c. still_filed all link known _ c refl (a.sound.filed c);
      named = λ ready. named;
    };
    flags = inr three;
    knows = a.knows;
    expects = tt;
  }

  -- A reply to a request.
  enter_reply : (known : Link) (replies : Replies) (request : asks.Request) (made : given.Reply) (more : List Said) (found : Shown) → phase known.heard.turns ≡ phase.Ready →
      Awaits name size all link known (Replies_to replies request made ∷ more) → IsMade all link replies request made → AreMade all link more → Framing known request made found → Next known more found
  enter_reply known replies request made more found ready a is rest f =
      let w = waits_for known request.cookie f.0 f.1 in
      let still = file_still (request_of known request.cookie) request.cookie (Framed f.2 true) known.heard in
      subst (λ (x : Shown). Next known more x) (sym f.3) (record {
        open_ = still.stage ∙ a.open_;
        sound = record {
          fair = subst (AreFair size) (sym still.turns) a.sound.fair;
          filed = file_filed all link known request.cookie (Framed f.2 true) refl (filed_ends all link known request.cookie a.sound.filed w.open_)
              (λ q e. let same : Some w.request_ ≡ Some q = sym w.is ∙ e in let is_q : w.request_ ≡ q = cc in
              (refl, made, is.gave, subst (λ (o : ℕ). Carries o made f.2) (w.offset ∙ ap (λ (r : Request Nobody). r.offset) is_q) f.4)) a.sound.filed;
          named = λ r. a.sound.named ready;
        };
        flags = elim a.flags [
          | inl nay ↦ (let bad : phase.Greeting ≡ phase.Ready = sym nay ∙ ready in cc)
          | inr three ↦ inr (flags_still known.requests request.cookie (Framed f.2 true) known.heard ∙ three)
        ];
        knows = a.knows;
        expects = subst (λ (p : Phase). Expects name size all link (hearing known (file known.requests request.cookie (Framed f.2 true) known.heard)) p more) (sym (ap phase still.turns ∙ ready)) rest;
      })

  hear_turn : (known : Link) (turn : Turn) → AreFiled all link known → AreFiled all link (hearing known (turned turn known.heard))
  hear_turn known turn filed c = still_filed all link known _ c refl (filed c)

  -- the link after a reply to an option
  abbrev After : Link → Told → Link
  After known told = hearing known (turned (Replied told) known.heard)

  awaits_after : (known : Link) (told : Told) (more : List Said) (p : Phase) → phase (Replied told ∷ known.heard.turns) ≡ p → known.heard.stage ≡ Open → AreFair size (Replied told ∷ known.heard.turns) → AreFiled all link known →
      known.heard.flags ≡ 3 → Knows all link known → (p ≡ phase.Ready → name_asked known.wishes ≡ Some name) → Expects name size all link (After known told) p more → Awaits name size all link (After known told) more
  awaits_after known told more p at open_ fair filed three knows named expects = record {
    open_ = open_;
    sound = record { fair = fair; filed = hear_turn known (Replied told) filed; named = λ ready. named (sym at ∙ ready) };
    flags = inr three;
    knows = knows;
    expects = subst (λ (q : Phase). Expects name size all link (After known told) q more) (sym at) expects;
  }

  is_three : (known : Link) (option : ℕ) → phase known.heard.turns ≡ phase.Asked option → (phase known.heard.turns ≡ phase.Greeting) ⊎ (known.heard.flags ≡ 3) → known.heard.flags ≡ 3
  is_three known option at (inl nay) = let bad : phase.Greeting ≡ phase.Asked option = sym nay ∙ at in cc
  is_three known option at (inr three) = three

  or_left : (a b : Bool) → a ≡ true → a || b ≡ true
  or_left true b e = refl
  or_left false b e = cc

  or_right : (a b : Bool) → b ≡ true → a || b ≡ true
  or_right true b e = refl
  or_right false b e = e

  enter_option : (known : Link) (option : ℕ) (reply : haggled.Reply) (more : List Said) (found : Shown) → phase known.heard.turns ≡ phase.Asked option → Awaits name size all link known (Answers option reply ∷ more) →
      IsFair size option reply → (is_last reply ≡ true → more ≡ []) → AreReplies size option more → (option ≡ opt_go → acknowledges (Answers option reply ∷ more) ≡ true → name_asked known.wishes ≡ Some name) →
      IsReply reply found → Next known more found
  enter_option known option reply more found at a fair last rest promise r =
      subst (λ (x : Shown). Next known more x) (sym r.2) (go (body_ends reply.type reply.body r.0 r.1))
    where
      told : Told
      told = r.0.told

      fair_now : AreFair size (Replied r.0.told ∷ known.heard.turns)
      fair_now = (fair.fair r.0 r.1, a.sound.fair)

      -- nothing is refused
      as_is : (p : Phase) → phase (Replied r.0.told ∷ known.heard.turns) ≡ p → if_refused p known.requests (turned (Replied r.0.told) known.heard) ≡ turned (Replied r.0.told) known.heard → Awaits name size all link (After known r.0.told) more → Next known more (OptionReply r.0.told)
      as_is p is same w = subst (λ (h : Known Nobody). Awaits name size all link (hearing known h) more) (sym (ap (λ (q : Phase). if_refused q known.requests (turned (Replied r.0.told) known.heard)) is ∙ same)) w

      three : known.heard.flags ≡ 3
      three = is_three known option at a.flags

      leads : (end : End) (p : Phase) → Leads option end p → phase (Replied r.0.told ∷ known.heard.turns) ≡ p → (end ≡ Acknowledged → (reply.type == rep_ack) ≡ true) → more ≡ [] → Next known more (OptionReply r.0.told)
      leads end _ (Goes acks goes) is ack none = as_is phase.Ready is refl (awaits_after known r.0.told more phase.Ready is a.open_ fair_now a.sound.filed three a.knows
          (λ ready. promise goes (or_left (reply.type == rep_ack) (acknowledges more) (ack acks))) (subst (λ (xs : List Said). AreMade all link xs) (sym none) tt))
      leads end _ Stays is ack none = as_is phase.OptMode is refl (awaits_after known r.0.told more phase.OptMode is a.open_ fair_now a.sound.filed three a.knows (λ nay. cc) (inl none))

      go : EndsBy reply.type r.0.told → Next known more (OptionReply r.0.told)
      go (inl (l, end, e, ack)) = leads end (phase (Replied r.0.told ∷ known.heard.turns)) (replied_leads size known.heard.turns option r.0.told end a.sound.fair at e) refl ack (last l)
      go (inr (l, e)) =
          let is : phase (Replied r.0.told ∷ known.heard.turns) ≡ phase.Asked option = replied_stays known.heard.turns r.0.told e ∙ at in
          as_is (phase.Asked option) is refl (awaits_after known r.0.told more (phase.Asked option) is a.open_ fair_now a.sound.filed three a.knows (λ nay. cc)
          (rest, λ goes acks. promise goes (or_right (reply.type == rep_ack) (acknowledges more) acks)))

  abbrev Settled : Link → List ℕ → List Said → Option Shown → Type 0
  Settled known left more v = Settles server encode full_said (Awaits name size all link) (IsOver name size all link) known left more v

  settle_good : (known : Link) (left : List ℕ) (more : List Said) (R : Shown → Type 0) (v : Option Shown) → IsSound name size all link known → Good IsBroken R left v → ((found : Shown) → R found → Next known more found) → Settled known left more v
  settle_good known left more R None sound g h = g
  settle_good known left more R (Some found) sound (inl b) h = inl (broken name size all link known found sound b)
  settle_good known left more R (Some found) sound (inr (l, r)) h = inr (l, h found r)

  by_shown : (known : Link) (left : List ℕ) (more : List Said) (one other : Option Shown) → one ≡ other → Settled known left more other → Settled known left more one
  by_shown known left more one other e s = subst (λ (v : Option Shown). Settled known left more v) (sym e) s

  head_is : (one other : Said) (more : List Said) → one ∷ more ≡ other ∷ [] → (one ≡ other) × (more ≡ [])
  head_is one other more e = (cc, cc)

  pub each : (known : Link) (one : Said) (more : List Said) (now left : List ℕ) → Awaits name size all link known (one ∷ more) → now ++ left ≡ encode one → Settled known left more (shows known now)
  each known one more now left a e = go (phase known.heard.turns) refl a.expects
    where
      -- one is the reply to this option
      option_case : (option : ℕ) (x : Said) → phase known.heard.turns ≡ phase.Asked option → one ≡ x → AreReplies size option (x ∷ more) → (option ≡ opt_go → acknowledges (x ∷ more) ≡ true → name_asked known.wishes ≡ Some name) → Settled known left more (shows known now)
      option_case option Greets at is rep promise = absurd rep
      option_case option (Names n flags) at is rep promise = absurd rep
      option_case option (Replies_to replies request made) at is rep promise = absurd rep
      option_case option (Answers other reply) at is rep promise =
          let now_is : now ++ left ≡ encode (Answers other reply) = e ∙ ap encode is in
          let a' : Awaits name size all link known (Answers option reply ∷ more) = subst (λ (o : ℕ). Awaits name size all link known (Answers o reply ∷ more)) rep.0 (subst (λ (y : Said). Awaits name size all link known (y ∷ more)) is a) in
          by_shown known left more _ _ (shown_by known (phase.Asked option) now a.open_ at)
          (settle_good known left more (IsReply reply) _ a.sound (good_option (sight known.heard) option reply now left rep.1.fit (now_is ∙ ap (λ (o : ℕ). encode (Answers o reply)) rep.0))
          (λ found r. enter_option known option reply more found at a' rep.1 rep.2 rep.3 (λ goes acks. promise goes acks) r))

      made_case : (x : Said) → phase known.heard.turns ≡ phase.Ready → one ≡ x → AreMade all link (x ∷ more) → Settled known left more (shows known now)
      made_case Greets at is m = absurd m
      made_case (Names n flags) at is m = absurd m
      made_case (Answers option reply) at is m = absurd m
      made_case (Replies_to replies request made) at is m =
          by_shown known left more _ _ (shown_by known phase.Ready now a.open_ at)
          (settle_good known left more (Framing known request made) _ a.sound (good_reply known replies request made (sight known.heard).structured (sight known.heard).extended now left a.knows m.0 (e ∙ ap encode is))
          (λ found f. enter_reply known replies request made more found at (subst (λ (y : Said). Awaits name size all link known (y ∷ more)) is a) m.0 m.1 f))

      go : (p : Phase) → phase known.heard.turns ≡ p → Expects name size all link known p (one ∷ more) → Settled known left more (shows known now)
      go phase.Greeting at exp =
          let h = head_is one Greets more exp in
          by_shown known left more _ _ (shown_by known phase.Greeting now a.open_ at)
          (settle_good known left more (λ found. found ≡ shown.Hello 3) _ a.sound (good_hello now left (e ∙ ap encode h.0))
          (λ found r. subst (λ (x : Shown). Next known more x) (sym r) (subst (λ (xs : List Said). Next known xs (shown.Hello 3)) (sym h.1) (enter_hello known (subst (λ (xs : List Said). Awaits name size all link known xs) exp a)))))
      go (phase.Asked option) at exp = option_case option one at refl exp.0 exp.1
      go phase.AskedByName at exp = absurd exp
      go phase.OptMode at (inl nay) = cc
      go phase.OptMode at (inr (flags, is, fit, by_name, named)) =
          let h = head_is one (Names size flags) more is in
          let three : known.heard.flags ≡ 3 = elim a.flags [
            | inl greeting ↦ (let bad : phase.Greeting ≡ phase.OptMode = sym greeting ∙ at in cc)
            | inr t ↦ t
          ] in
          by_shown known left more _ _ (shown_by known phase.OptMode now a.open_ at ∙ ap (λ (b : Bool). if b then shown.shows_by_name (has_bit flag_no_zeroes known.heard.flags) now else None) by_name ∙ ap (λ (n : ℕ). shown.shows_by_name (has_bit flag_no_zeroes n) now) three)
          (settle_good known left more (λ found. found ≡ ExportReply size flags) _ a.sound (good_named size flags now left fit (e ∙ ap encode h.0))
          (λ found r. subst (λ (x : Shown). Next known more x) (sym r) (subst (λ (xs : List Said). Next known xs (ExportReply size flags)) (sym h.1) (enter_named known flags (subst (λ (xs : List Said). Awaits name size all link known xs) is a) three named))))
      go phase.Ready at exp = made_case one at refl exp
      go (phase.Refused code) at exp = absurd exp
