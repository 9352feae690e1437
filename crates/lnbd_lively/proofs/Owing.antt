-- What is asked on a link and unanswered, beside what its session has said and has still to answer: none of it is lost.
use Rattle.std.proofs.Common.{◌≡◌, ℕ, zero, suc, ◌≤◌, ◌⊎◌, inl, inr, Bool, true, false, not, ◌&&◌, ◌||◌, List, [], ◌∷◌, ◌++◌, length, Option, Some, None, is_some, ◌==◌, nat_le, refl, ap, sym, subst, ◌∙◌, arith, if◌then◌else◌}
use Rattle.std.specs.List.{flat_map}
use Rattle.std.specs.Option.{option_map}
use Rattle.std.proofs.lemmas.Bool.{cases_eq, cases_lt, eq-eqb, eqb-true, ne_eqb}
use Rattle.lnbd_model.specs.declared.kind.Kind.{Kind}
use Rattle.lnbd_model.specs.declared.state.Cause.{Cause}
use Rattle.lnbd_model.specs.declared.state.Cause.TheVariants.{Broke}
use Rattle.lnbd_records.specs.Content.{Content}
use Rattle.lnbd_records.specs.Flags.{flag_no_zeroes}
use Rattle.lnbd_records.specs.Handshake.{export_name_reply}
use Rattle.lnbd_records.specs.Numbers.{AllFit, has_bit}
use Rattle.lnbd_records.specs.Options.{opt_go, opt_extended_headers, rep_ack, first_rep_error}
use Rattle.lnbd_records.specs.Replies.{body_of}
use Rattle.lnbd_records.specs.Told.{Told, Body}
use Rattle.lnbd_records.specs.Told as told
use Rattle.lnbd_stream.specs.Stream.{feed}
use Rattle.lnbd_stream.specs.Laws.{Lasts, IsPart}
use Rattle.lnbd_stream.proofs.Stream.{feed_lasts}
use Rattle.lnbd_chunks.specs.Chunk.{Waiting}
use Rattle.lnbd_chunks.specs.Reply.{simple_content}
use Rattle.lnbd_history.specs.declared.kinds.Phase.{Phase}
use Rattle.lnbd_history.specs.declared.kinds.Phase.TheVariants as phase
use Rattle.lnbd_history.specs.declared.kinds.Stage.{Stage}
use Rattle.lnbd_history.specs.declared.kinds.Stage.TheVariants.{Open, Dead}
use Rattle.lnbd_history.specs.Agreement.{Turn, Replied, phase, steps, extended, answered, under_way, opt_mode, asks_structured, contexts_now, after_reply, is_acknowledged, End, Failed, Acknowledged, end_of}
use Rattle.lnbd_history.specs.Arrivals.{Shown, is_asked, OptionReply, ExportReply, Reply, Broken, Passed, Ignored, Sight, reply, shows_at, shows_frame}
use Rattle.lnbd_history.specs.Arrivals as shown
use Rattle.lnbd_history.specs.Commands.{Command, Request}
use Rattle.lnbd_history.specs.Entries.{Item, Framed, Lost, Entry, own, ends, is_ended}
use Rattle.lnbd_history.specs.Events.{History}
use Rattle.lnbd_history.specs.History.{request as asked_under}
use Rattle.lnbd_history.specs.History.{Known, asked, request, agreed_contexts, turned, if_refused, file, file_under, file_all, filing_of, in_flight, die, cookies, sight}
use Rattle.lnbd_history.proofs.Cookies.{request_past, request_zero}
use Rattle.lnbd_asked.specs.Link.{Nobody, Link, server, shows, is_free, is_by_name, waited}
use Rattle.lnbd_asked.specs.Transcript.{bare}
use Rattle.lnbd_asked.proofs.Match.{file_still, all_still, file_append}
use Rattle.lnbd_export.specs.Requests.{Reply as Made}
use Rattle.lnbd_export.specs.declared.request.Replies.{Replies}
use Rattle.lnbd_export.specs.declared.request.Replies.TheVariants.{Simple, Structured, Extended}
use Rattle.lnbd_export.specs.declared.request.Request as asks
use Rattle.lnbd_server.specs.declared.stage.Stage as served
use Rattle.lnbd_server.specs.declared.stage.Stage.TheVariants as server_at
use Rattle.lnbd_server.specs.Options as haggled
use Rattle.lnbd_served.proofs.Settling.{Settles, Reading, Good, feed_settles}
use Rattle.lnbd_served.proofs.Shown.{IsBroken, good_hello, good_option, good_named, IsReply}
use Rattle.lnbd_served.proofs.Frames.{Waits, SimpleFor, ChunkFor, good_simple, good_chunk, good_extended_chunk}
use Rattle.lnbd_served.proofs.Items.{Said, Greets, Answers, Names, Replies_to, encode, AreFair, AreReplies, acknowledges, ends_answer, is_last, FitsRequest, FitsWire, error_in, bytes_in, says_of, simple_spelled, chunk_spelled, extended_spelled}
use Rattle.lnbd_served.proofs.Linking.{greeted_phase, Leads, Goes, Stays, replied_leads, replied_stays, of_fits, EndsBy, body_ends, Matches, size_simple, flags_still, waits_for, hearing, good_map, shown_by, full_said}
use Rattle.lnbd_lively.specs.Known.{is_unknown, was_unknown}
use Rattle.lnbd_lively.proofs.Going.{AreKnown, told_known}

-- What is unanswered.

-- the reply to the request of this cookie is pending
abbrev pub IsPending : ℕ → List asks.Request → Type 0
IsPending cookie [] = ⊥
IsPending cookie (request ∷ requests) = (request.cookie ≡ cookie) ⊎ IsPending cookie requests

-- it is on its way
abbrev pub IsComing : ℕ → List Said → Type 0
IsComing cookie [] = ⊥
IsComing cookie (Replies_to replies request made ∷ more) = (request.cookie ≡ cookie) ⊎ IsComing cookie more
IsComing cookie (Greets ∷ more) = IsComing cookie more
IsComing cookie (Answers option reply ∷ more) = IsComing cookie more
IsComing cookie (Names size flags ∷ more) = IsComing cookie more

-- Each request that was asked and isn't ended has its reply pending or on its way.
abbrev pub Owes : List asks.Request → (requests : History Nobody) → List (Entry Nobody) → List Said → Type 0
Owes waiting requests entries rest = (c : ℕ) (q : Request Nobody) → request requests c ≡ Some q → is_ended (own c entries) ≡ false → IsPending c waiting ⊎ IsComing c rest

-- a reply that fits the request which was asked under its cookie
pub record IsFor (requests : History Nobody) (replies : Replies) (request : asks.Request) (made : Made) : Type 0 where
  pub asks_ : Command Nobody
  pub asked_ : option_map bare (asked_under requests request.cookie) ≡ Some asks_
  pub kind : request.kind ≡ Some asks_.kind
  pub offset : request.offset ≡ asks_.offset
  pub length_ : request.length ≡ asks_.length
  pub fits : FitsRequest request made
  pub wire : FitsWire replies request made

abbrev pub AreFor : History Nobody → List Said → Type 0
AreFor requests [] = Unit {0}
AreFor requests (Replies_to replies request made ∷ more) = IsFor requests replies request made × AreFor requests more
AreFor requests (Greets ∷ more) = ⊥
AreFor requests (Answers option reply ∷ more) = ⊥
AreFor requests (Names size flags ∷ more) = ⊥

-- the reply to EXPORT_NAME is to come exactly where that was asked
abbrev pub IsNamed : (size : ℕ) → (by_name : Bool) → List Said → Type 0
IsNamed size true rest = (flags : ℕ) × (rest ≡ Names size flags ∷ []) × AllFit (export_name_reply size flags)
IsNamed size false rest = rest ≡ []

-- what is to come, by where negotiation stands
abbrev pub Expects : (size : ℕ) → List asks.Request → (by_name : Bool) → (requests : History Nobody) → List (Entry Nobody) → Phase → List Said → Type 0
Expects size waiting by_name requests entries phase.Greeting rest = (rest ≡ Greets ∷ []) × (by_name ≡ false) × (requests ≡ [])
Expects size waiting by_name requests entries (phase.Asked option) rest = AreReplies size option rest × (ends_answer rest ≡ true) × (by_name ≡ false) × (requests ≡ [])
Expects size waiting by_name requests entries phase.AskedByName rest = ⊥
Expects size waiting by_name requests entries phase.OptMode rest = IsNamed size by_name rest × (requests ≡ [])
Expects size waiting by_name requests entries phase.Ready rest = AreFor requests rest × Owes waiting requests entries rest
Expects size waiting by_name requests entries (phase.Refused code) rest = ⊥

-- the session's stage where options may be asked, or EXPORT_NAME is answered
abbrev pub IsBetween : served.Stage → (by_name : Bool) → Type 0
IsBetween stage true = stage ≡ server_at.Serving
IsBetween stage false = (stage ≡ server_at.Greeting) ⊎ (stage ≡ server_at.Haggling)

-- The stage of the session, and whether it has extended headers, are what the link will know once it has read what is to come.
abbrev pub Agrees : served.Stage → (ext by_name so_far : Bool) → Phase → List Said → Type 0
Agrees stage ext by_name so_far phase.Greeting rest = (stage ≡ server_at.Greeting) × (ext ≡ so_far)
Agrees stage ext by_name so_far (phase.Asked option) rest =
    (stage ≡ (if (option == opt_go) && acknowledges rest then server_at.Serving else server_at.Haggling)) × (ext ≡ (((option == opt_extended_headers) && acknowledges rest) || so_far))
Agrees stage ext by_name so_far phase.AskedByName rest = Unit {0}
Agrees stage ext by_name so_far phase.OptMode rest = IsBetween stage by_name × (ext ≡ so_far)
Agrees stage ext by_name so_far phase.Ready rest = (stage ≡ server_at.Serving) × (ext ≡ so_far)
Agrees stage ext by_name so_far (phase.Refused code) rest = Unit {0}

-- no reply to GO is to come that refuses it as unknown
abbrev pub IsGoing : Phase → List Said → Type 0
IsGoing phase.Greeting rest = Unit {0}
IsGoing (phase.Asked option) rest = option ≡ opt_go → AreKnown rest
IsGoing phase.AskedByName rest = Unit {0}
IsGoing phase.OptMode rest = Unit {0}
IsGoing phase.Ready rest = Unit {0}
IsGoing (phase.Refused code) rest = Unit {0}

pub record Awaits (size : ℕ) (waiting : List asks.Request) (stage : served.Stage) (ext : Bool) (known : Link) (rest : List Said) : Type 0 where
  pub open_ : known.heard.stage ≡ Open
  pub fair : AreFair size known.heard.turns
  pub flags : (phase known.heard.turns ≡ phase.Greeting) ⊎ (known.heard.flags ≡ 3)
  pub expects : Expects size waiting (is_by_name known.wishes) known.requests known.heard.entries (phase known.heard.turns) rest
  pub agrees : Agrees stage ext (is_by_name known.wishes) (extended (steps known.heard.turns)) (phase known.heard.turns) rest
  pub knew : was_unknown known.heard.turns ≡ false
  pub goes : IsGoing (phase known.heard.turns) rest

-- The link is dead, and so each of its requests is ended.

abbrev pub AllEnded : Link → Type 0
AllEnded known = (c : ℕ) (q : Request Nobody) → request known.requests c ≡ Some q → is_ended (own c known.heard.entries) ≡ true

abbrev pub IsOver : Link → Type 0
IsOver known = ((cause : Cause) × (known.heard.stage ≡ Dead cause)) × AllEnded known

-- what is filed leaves ended what was
filed_ended : (v : Option (Request Nobody)) (k c : ℕ) (item : Item) (heard : Known Nobody) → is_ended (own c heard.entries) ≡ true → is_ended (own c (file_under v k item heard).entries) ≡ true
filed_ended None k c item heard e = e
filed_ended (Some q) k c item heard e = go (k == c)
  where
    or_it : (a b : Bool) → b ≡ true → a || b ≡ true
    or_it true b e = refl
    or_it false b e = e

    go : (b : Bool) → is_ended (if b then filing_of q k (own k heard.entries) (agreed_contexts heard) item heard.answers ∷ own c heard.entries else own c heard.entries) ≡ true
    go true = or_it (ends item) (is_ended (own c heard.entries)) e
    go false = e

-- it ends its own request
filed_ends : (v : Option (Request Nobody)) (q : Request Nobody) (c : ℕ) (item : Item) (heard : Known Nobody) → v ≡ Some q → ends item ≡ true → is_ended (own c (file_under v c item heard).entries) ≡ true
filed_ends None q c item heard e last = cc
filed_ends (Some p) q c item heard e last =
    ap (λ b. is_ended (if b then filing_of p c (own c heard.entries) (agreed_contexts heard) item heard.answers ∷ own c heard.entries else own c heard.entries)) (eq-eqb c c refl)
    ∙ ap (λ b. b || is_ended (own c heard.entries)) last

-- what one loss leaves
abbrev losing : History Nobody → ℕ → Known Nobody → Known Nobody
losing requests c heard = if in_flight requests heard.entries c then file requests c Lost heard else heard

lost_ended : (requests : History Nobody) (k c : ℕ) (heard : Known Nobody) → is_ended (own c heard.entries) ≡ true → is_ended (own c (losing requests k heard).entries) ≡ true
lost_ended requests k c heard e = go (in_flight requests heard.entries k)
  where
    go : (b : Bool) → is_ended (own c (if b then file requests k Lost heard else heard).entries) ≡ true
    go true = filed_ended (request requests k) k c Lost heard e
    go false = e

lost_ends : (requests : History Nobody) (c : ℕ) (q : Request Nobody) (heard : Known Nobody) → request requests c ≡ Some q → is_ended (own c (losing requests c heard).entries) ≡ true
lost_ends requests c q heard e = go (is_ended (own c heard.entries)) refl
  where
    go : (b : Bool) → is_ended (own c heard.entries) ≡ b → is_ended (own c (losing requests c heard).entries) ≡ true
    go true w = lost_ended requests c c heard w
    go false w = ap (λ (v : Bool). is_ended (own c (if v then file requests c Lost heard else heard).entries)) (ap (λ v. is_some v && not (is_ended (own c heard.entries))) e ∙ ap not w)
        ∙ filed_ends (request requests c) q c Lost heard e refl

all_lost : (requests : History Nobody) (n c : ℕ) (q : Request Nobody) (heard : Known Nobody) → 1 ≤ c → c ≤ n → request requests c ≡ Some q → is_ended (own c (file_all requests Lost (cookies n) heard).entries) ≡ true
all_lost requests zero c q heard low high e = absurd (omega (arith, low, high))
all_lost requests (suc n) c q heard low high e =
    subst (λ (k : Known Nobody). is_ended (own c k.entries) ≡ true) (sym (file_append requests Lost (cookies n) (suc n ∷ []) heard)) (elim (cases_eq c (suc n)) [
      | inl same ↦ subst (λ k. is_ended (own c (losing requests k (file_all requests Lost (cookies n) heard)).entries) ≡ true) same (lost_ends requests c q (file_all requests Lost (cookies n) heard) e)
      | inr other ↦ lost_ended requests (suc n) c (file_all requests Lost (cookies n) heard) (all_lost requests n c q heard low (omega (arith, high, other)) e)
    ])

-- At death each request is ended.
pub die_ends : (requests : History Nobody) (cause : Cause) (heard : Known Nobody) (c : ℕ) (q : Request Nobody) → request requests c ≡ Some q → is_ended (own c (die requests cause heard).entries) ≡ true
die_ends requests cause heard c q e = elim (cases_lt (asked requests).issued c) [
  | inl past ↦ (let nay : None ≡ Some q = sym (request_past requests c past) ∙ e in cc)
  | inr low ↦ elim (cases_eq c 0) [
    | inl none ↦ (let nay : None ≡ Some q = sym (request_zero requests) ∙ ap (request requests) (sym none) ∙ e in cc)
    | inr some ↦ all_lost requests (asked requests).issued c q (record heard { stage = Dead cause }) (omega (arith, some)) (omega (arith, low)) e
  ]
]

pub dies : (cause : Cause) (known : Link) → IsOver (hearing known (die known.requests cause known.heard))
dies cause known = ((cause, (all_still known.requests Lost (cookies (asked known.requests).issued) (record known.heard { stage = Dead cause })).stage), λ c q e. die_ends known.requests cause known.heard c q e)

broken : (known : Link) (found : Shown) → IsBroken found → IsOver (server.enter found known)
broken known (shown.Hello flags) b = absurd b
broken known (OptionReply told) b = absurd b
broken known (ExportReply n flags) b = absurd b
broken known (Reply frame) b = absurd b
broken known (Broken breach) b = dies (Broke breach) known
broken known Passed b = absurd b
broken known Ignored b = absurd b

-- A dead link stays as it is.
pub over_lasts : Lasts server IsOver
over_lasts known bytes found over e = go (is_free (phase known.heard.turns)) (is_by_name known.wishes) e
  where
    ignored : (bs : List ℕ) → shown.shows_ignored bs ≡ Some found → IsOver (server.enter found known)
    ignored [] e = cc
    ignored (b ∷ bs) e = let is : Ignored ≡ found = cc in subst (λ (f : Shown). IsOver (server.enter f known)) is over

    dead : (sight : Sight) → shows_at known.heard.stage sight (waited known) bytes ≡ Some found → IsOver (server.enter found known)
    dead sight e = ignored bytes (sym (ap (λ (s : Stage). shows_at s sight (waited known) bytes) over.0.1) ∙ e)

    go : (a b : Bool) → (if a then if b then shows_at known.heard.stage (record (sight known.heard) { phase = phase.AskedByName }) (waited known) bytes else None else shows_at known.heard.stage (sight known.heard) (waited known) bytes) ≡ Some found →
        IsOver (server.enter found known)
    go true true e = dead (record (sight known.heard) { phase = phase.AskedByName }) e
    go true false e = cc
    go false b e = dead (sight known.heard) e

-- What a frame shows.

matches : (known : Link) (replies : Replies) (request : asks.Request) (made : Made) (command : Waiting) → IsFor known.requests replies request made → waited known request.cookie ≡ Some command → Matches command request
matches known replies request made command f e =
    let w = waits_for known request.cookie command e in
    let both : Some (bare w.request_) ≡ Some f.asks_ = sym (ap (option_map bare) w.is) ∙ f.asked_ in
    let same : bare w.request_ ≡ f.asks_ = cc in
    record {
      kind = ap (λ (x : Kind). Some x) (w.kind ∙ ap (λ (c : Command Nobody). c.kind) same) ∙ sym f.kind;
      offset = w.offset ∙ ap (λ (c : Command Nobody). c.offset) same ∙ sym f.offset;
      length_ = w.length_ ∙ ap (λ (c : Command Nobody). c.length) same ∙ sym f.length_;
    }

-- a frame for this request, which is its last
abbrev Framing : Link → asks.Request → Shown → Type 0
Framing known request found = (command : Waiting) × (waited known request.cookie ≡ Some command) × (content : Content) × (found ≡ reply request.cookie content true)

good_reply : (known : Link) (replies : Replies) (request : asks.Request) (made : Made) (structured extended : Bool) (now left : List ℕ) → IsFor known.requests replies request made → now ++ left ≡ encode (Replies_to replies request made) →
    Good IsBroken (Framing known request) left (shows_frame structured extended (waited known) now)
good_reply known Simple request made structured extended now left is e =
    good_map (Waits (waited known) request.cookie (SimpleFor request.cookie (error_in made) (bytes_in made))) (Framing known request) left _
    (λ found w. (w.0, w.1, simple_content w.0 (error_in made) (bytes_in made), w.2))
    (good_simple (error_in made) request.cookie (bytes_in made) now left is.wire (e ∙ simple_spelled request made) structured extended (waited known)
    (λ command there. size_simple command request made (matches known Simple request made command is there) is.fits))
good_reply known Structured request made structured extended now left is e =
    good_map (Waits (waited known) request.cookie (ChunkFor request.cookie (says_of false request.offset made).content)) (Framing known request) left _
    (λ found w. (w.0, w.1, (says_of false request.offset made).content, w.2))
    (good_chunk (says_of false request.offset made) request.cookie now left is.wire.1 is.wire.0 (e ∙ chunk_spelled request made) structured extended (waited known))
good_reply known Extended request made structured extended now left is e =
    good_map (Waits (waited known) request.cookie (ChunkFor request.cookie (says_of true request.offset made).content)) (Framing known request) left _
    (λ found w. (w.0, w.1, (says_of true request.offset made).content, w.2))
    (good_extended_chunk (says_of true request.offset made) request.cookie request.offset now left is.wire.1 is.wire.0 (e ∙ extended_spelled request made) structured extended (waited known))

-- no request
none_owed : (waiting : List asks.Request) (requests : History Nobody) (entries : List (Entry Nobody)) (rest : List Said) → requests ≡ [] → Owes waiting requests entries rest
none_owed waiting requests entries rest none c q e open_ = absurd (let nay : None ≡ Some q = sym (ap (λ (rs : History Nobody). request rs c) none) ∙ e in cc)

-- How an answer ends.

-- an answer ends by ACK exactly where the type of its last reply is ACK
ends_acks : (type : ℕ) (bytes : List ℕ) (body : Body) (end : End) → body_of type bytes ≡ Some body → end_of body.told ≡ Some end → (end ≡ Acknowledged → (type == rep_ack) ≡ true) → is_acknowledged end ≡ (type == rep_ack)
unfolding body_of
ends_acks type bytes body Acknowledged e ends acks = sym (acks refl)
ends_acks type bytes body (Failed code) e ends acks = go (type == rep_ack) refl
  where
    go : (b : Bool) → (type == rep_ack) ≡ b → false ≡ b
    go false w = refl
    go true w =
        let is : body.told ≡ told.Ack = of_fits (length bytes == 0) told.Ack body (sym (ap (λ (k : ℕ). body_of k bytes) (eqb-true type rep_ack w)) ∙ e) in
        let bad : Some Acknowledged ≡ Some (Failed code) = sym (ap end_of is) ∙ ends in cc

-- a reply that ends no answer leaves extended headers as they are
none_answered : (turns : List Turn) (told : Told) → end_of told ≡ None → extended (steps (Replied told ∷ turns)) ≡ extended (steps turns)
none_answered turns told e = ap (λ (v : Option End). extended (answered (opt_mode turns) v (under_way turns) (phase turns) ++ steps turns)) e ∙ go (phase turns)
  where
    go : (p : Phase) → extended (answered (opt_mode turns) None (under_way turns) p ++ steps turns) ≡ extended (steps turns)
    go phase.Greeting = refl
    go (phase.Asked option) = refl
    go phase.AskedByName = refl
    go phase.OptMode = refl
    go phase.Ready = refl
    go (phase.Refused code) = refl

last_answered : (turns : List Turn) (told : Told) (option : ℕ) (end : End) → end_of told ≡ Some end → phase turns ≡ phase.Asked option → extended (steps (Replied told ∷ turns)) ≡ (((option == opt_extended_headers) && is_acknowledged end) || extended (steps turns))
last_answered turns told option end e at_ = ap (λ (v : Option End). extended (answered (opt_mode turns) v (under_way turns) (phase turns) ++ steps turns)) e
    ∙ ap (λ (p : Phase). extended (answered (opt_mode turns) (Some end) (under_way turns) p ++ steps turns)) at_

go_ready : (turns : List Turn) (told : Told) → end_of told ≡ Some Acknowledged → phase turns ≡ phase.Asked opt_go → phase (Replied told ∷ turns) ≡ phase.Ready
go_ready turns told e at_ = ap (λ (v : Option End). after_reply (asks_structured turns) (opt_mode turns) (contexts_now turns) v (phase turns)) e ∙ ap (λ (p : Phase). after_reply (asks_structured turns) (opt_mode turns) (contexts_now turns) (Some Acknowledged) p) at_

or_none : (a : Bool) → a || false ≡ a
or_none true = refl
or_none false = refl

and_none : (a : Bool) → a && false ≡ false
and_none true = refl
and_none false = refl

right_none : (a b : Bool) → a || b ≡ false → b ≡ false
right_none true b e = cc
right_none false b e = e

module _ (size : ℕ) (waiting : List asks.Request) (stage : served.Stage) (ext : Bool) where
  abbrev Next : Link → List Said → Shown → Type 0
  Next known more found = Awaits size waiting stage ext (server.enter found known) more

  enter_hello : (known : Link) → Awaits size waiting stage ext known (Greets ∷ []) → is_by_name known.wishes ≡ false → known.requests ≡ [] →
      Agrees stage ext (is_by_name known.wishes) (extended (steps known.heard.turns)) phase.Greeting (Greets ∷ []) → Next known [] (shown.Hello 3)
  enter_hello known a unnamed none agrees =
      let then_ = greeted_phase size known.heard.turns a.fair in
      record {
        open_ = a.open_;
        fair = a.fair;
        flags = inr refl;
        expects = subst (λ (p : Phase). Expects size waiting (is_by_name known.wishes) known.requests known.heard.entries p []) (sym then_) (subst (λ (b : Bool). IsNamed size b []) (sym unnamed) refl, none);
        agrees = subst (λ (p : Phase). Agrees stage ext (is_by_name known.wishes) (extended (steps known.heard.turns)) p []) (sym then_) (subst (λ (b : Bool). IsBetween stage b) (sym unnamed) (inl agrees.0), agrees.1);
        knew = a.knew;
        goes = subst (λ (p : Phase). IsGoing p []) (sym then_) tt;
      }

  enter_named : (known : Link) (flags : ℕ) → Awaits size waiting stage ext known (Names size flags ∷ []) → known.heard.flags ≡ 3 → known.requests ≡ [] → IsBetween stage true × (ext ≡ extended (steps known.heard.turns)) → Next known [] (ExportReply size flags)
  enter_named known flags a three none agrees = record {
    open_ = a.open_;
    fair = (refl, a.fair);
    flags = inr three;
    expects = (tt, none_owed waiting known.requests known.heard.entries [] none);
    agrees = agrees;
    knew = a.knew;
    goes = tt;
  }

  -- what is owed once a reply was read
  owes_less : (known : Link) (replies : Replies) (request_ : asks.Request) (made : Made) (more : List Said) (content : Content) → Owes waiting known.requests known.heard.entries (Replies_to replies request_ made ∷ more) →
      Owes waiting known.requests (file known.requests request_.cookie (Framed content true) known.heard).entries more
  owes_less known replies request_ made more content owes c q e open_ = elim (cases_eq request_.cookie c) [
    | inl same ↦ (
        let over : is_ended (own c (file known.requests c (Framed content true) known.heard).entries) ≡ true = filed_ends (request known.requests c) q c (Framed content true) known.heard e refl in
        let nay : true ≡ false = sym over ∙ ap (λ (k : ℕ). is_ended (own c (file known.requests k (Framed content true) known.heard).entries)) (sym same) ∙ open_ in cc)
    | inr other ↦ go (owes c q e (was (is_ended (own c known.heard.entries)) refl)) other
  ]
    where
      was : (b : Bool) → is_ended (own c known.heard.entries) ≡ b → is_ended (own c known.heard.entries) ≡ false
      was false w = w
      was true w = absurd (let nay : true ≡ false = sym (filed_ended (request known.requests request_.cookie) request_.cookie c (Framed content true) known.heard w) ∙ open_ in cc)

      go : IsPending c waiting ⊎ ((request_.cookie ≡ c) ⊎ IsComing c more) → (request_.cookie ≡ c → ⊥) → IsPending c waiting ⊎ IsComing c more
      go (inl pending) other = inl pending
      go (inr (inl same)) other = absurd (other same)
      go (inr (inr later)) other = inr later

  enter_reply : (known : Link) (replies : Replies) (request_ : asks.Request) (made : Made) (more : List Said) (found : Shown) → phase known.heard.turns ≡ phase.Ready → Awaits size waiting stage ext known (Replies_to replies request_ made ∷ more) →
      AreFor known.requests more → Owes waiting known.requests known.heard.entries (Replies_to replies request_ made ∷ more) → Framing known request_ found → (stage ≡ server_at.Serving) × (ext ≡ extended (steps known.heard.turns)) → Next known more found
  enter_reply known replies request_ made more found ready a are owes f agrees =
      let still = file_still (request known.requests request_.cookie) request_.cookie (Framed f.2 true) known.heard in
      subst (λ (x : Shown). Next known more x) (sym f.3) (record {
        open_ = still.stage ∙ a.open_;
        fair = subst (AreFair size) (sym still.turns) a.fair;
        flags = elim a.flags [
          | inl nay ↦ (let bad : phase.Greeting ≡ phase.Ready = sym nay ∙ ready in cc)
          | inr three ↦ inr (flags_still known.requests request_.cookie (Framed f.2 true) known.heard ∙ three)
        ];
        expects = subst (λ (p : Phase). Expects size waiting (is_by_name known.wishes) known.requests (file known.requests request_.cookie (Framed f.2 true) known.heard).entries p more) (sym (ap phase still.turns ∙ ready))
            (are, owes_less known replies request_ made more f.2 owes);
        agrees = subst (λ (ts : List Turn). Agrees stage ext (is_by_name known.wishes) (extended (steps ts)) (phase ts) more) (sym still.turns) (subst (λ (p : Phase). Agrees stage ext (is_by_name known.wishes) (extended (steps known.heard.turns)) p more) (sym ready) agrees);
        knew = ap was_unknown still.turns ∙ a.knew;
        goes = subst (λ (p : Phase). IsGoing p more) (sym (ap phase still.turns ∙ ready)) tt;
      })

  is_three : (known : Link) (option : ℕ) → phase known.heard.turns ≡ phase.Asked option → (phase known.heard.turns ≡ phase.Greeting) ⊎ (known.heard.flags ≡ 3) → known.heard.flags ≡ 3
  is_three known option at (inl nay) = let bad : phase.Greeting ≡ phase.Asked option = sym nay ∙ at in cc
  is_three known option at (inr three) = three

  or_right : (a b : Bool) → a || b ≡ true → a ≡ false → b ≡ true
  or_right true b e n = cc
  or_right false b e n = e

  enter_option : (known : Link) (option : ℕ) (answer : haggled.Reply) (more : List Said) (found : Shown) → phase known.heard.turns ≡ phase.Asked option → Awaits size waiting stage ext known (Answers option answer ∷ more) →
      AreReplies size option (Answers option answer ∷ more) → ends_answer (Answers option answer ∷ more) ≡ true → is_by_name known.wishes ≡ false → known.requests ≡ [] →
      Agrees stage ext (is_by_name known.wishes) (extended (steps known.heard.turns)) (phase.Asked option) (Answers option answer ∷ more) → IsReply answer found → Next known more found
  enter_option known option answer more found now a are whole unnamed none agrees r = subst (λ (x : Shown). Next known more x) (sym r.2) (go (body_ends answer.type answer.body r.0 r.1))
    where
      fair_now : AreFair size (Replied r.0.told ∷ known.heard.turns)
      fair_now = (are.1.fair r.0 r.1, a.fair)

      three : known.heard.flags ≡ 3
      three = is_three known option now a.flags

      going_now : option ≡ opt_go → AreKnown (Answers option answer ∷ more)
      going_now = subst (λ (p : Phase). IsGoing p (Answers option answer ∷ more)) now a.goes

      -- GO isn't refused as unknown
      knew_now : was_unknown (Replied r.0.told ∷ known.heard.turns) ≡ false
      knew_now = ap (λ (p : Phase). (is_asked opt_go p && is_unknown (end_of r.0.told)) || was_unknown known.heard.turns) now ∙ ap (λ (b : Bool). ((opt_go == option) && is_unknown (end_of r.0.told)) || b) a.knew ∙ or_none ((opt_go == option) && is_unknown (end_of r.0.told))
          ∙ elim (cases_eq option opt_go) [
            | inl same ↦ ap (λ (b : Bool). (opt_go == option) && b) (told_known answer.type answer.body r.0 r.1 (going_now same).0) ∙ and_none (opt_go == option)
            | inr other ↦ ap (λ (b : Bool). b && is_unknown (end_of r.0.told)) (ne_eqb opt_go option (λ e. other (sym e)))
          ]

      awaits : (p : Phase) → phase (Replied r.0.told ∷ known.heard.turns) ≡ p → if_refused p known.requests (turned (Replied r.0.told) known.heard) ≡ turned (Replied r.0.told) known.heard →
          Expects size waiting (is_by_name known.wishes) known.requests known.heard.entries p more → Agrees stage ext (is_by_name known.wishes) (extended (steps (Replied r.0.told ∷ known.heard.turns))) p more → IsGoing p more → Next known more (OptionReply r.0.told)
      awaits p is same expects agrees_ goes_ = subst (λ (h : Known Nobody). Awaits size waiting stage ext (hearing known h) more) (sym (ap (λ (q : Phase). if_refused q known.requests (turned (Replied r.0.told) known.heard)) is ∙ same)) (record {
        open_ = a.open_;
        fair = fair_now;
        flags = inr three;
        expects = subst (λ (q : Phase). Expects size waiting (is_by_name known.wishes) known.requests known.heard.entries q more) (sym is) expects;
        agrees = subst (λ (q : Phase). Agrees stage ext (is_by_name known.wishes) (extended (steps (Replied r.0.told ∷ known.heard.turns))) q more) (sym is) agrees_;
        knew = knew_now;
        goes = subst (λ (q : Phase). IsGoing q more) (sym is) goes_;
      })

      -- the last reply of the answer
      acks_is : (end : End) → is_acknowledged end ≡ (answer.type == rep_ack) → more ≡ [] → acknowledges (Answers option answer ∷ more) ≡ is_acknowledged end
      acks_is end same over = ap (λ (xs : List Said). (answer.type == rep_ack) || acknowledges xs) over ∙ or_none (answer.type == rep_ack) ∙ sym same

      ext_is : (end : End) → end_of r.0.told ≡ Some end → acknowledges (Answers option answer ∷ more) ≡ is_acknowledged end → ext ≡ extended (steps (Replied r.0.told ∷ known.heard.turns))
      ext_is end e acks = agrees.1 ∙ ap (λ (b : Bool). ((option == opt_extended_headers) && b) || extended (steps known.heard.turns)) acks ∙ sym (last_answered known.heard.turns r.0.told option end e now)

      leads : (end : End) (p : Phase) → Leads option end p → phase (Replied r.0.told ∷ known.heard.turns) ≡ p → more ≡ [] → end_of r.0.told ≡ Some end → acknowledges (Answers option answer ∷ more) ≡ is_acknowledged end → Next known more (OptionReply r.0.told)
      leads end _ (Goes acks goes) is over e same =
          let yes : acknowledges (Answers option answer ∷ more) ≡ true = same ∙ ap is_acknowledged acks in
          awaits phase.Ready is refl (subst (λ (xs : List Said). AreFor known.requests xs) (sym over) tt, none_owed waiting known.requests known.heard.entries more none)
          (agrees.0 ∙ ap (λ (b : Bool). if b && acknowledges (Answers option answer ∷ more) then server_at.Serving else server_at.Haggling) (eq-eqb option opt_go goes) ∙ ap (λ (b : Bool). if b then server_at.Serving else server_at.Haggling) yes, ext_is end e same) tt
      leads end _ Stays is over e same = awaits phase.OptMode is refl (subst (λ (b : Bool). IsNamed size b more) (sym unnamed) over, none)
          (subst (λ (b : Bool). IsBetween stage b) (sym unnamed) (inr (agrees.0 ∙ ap (λ (b : Bool). if (option == opt_go) && b then server_at.Serving else server_at.Haggling) same ∙ ap (λ (b : Bool). if b then server_at.Serving else server_at.Haggling) (no_go end (option == opt_go) refl e))), ext_is end e same) tt
        where
          no_go : (end : End) (b : Bool) → (option == opt_go) ≡ b → end_of r.0.told ≡ Some end → b && is_acknowledged end ≡ false
          no_go (Failed code) b w e = and_none b
          no_go Acknowledged false w e = refl
          no_go Acknowledged true w e =
              let ready = go_ready known.heard.turns r.0.told e (now ∙ ap phase.Asked (eqb-true option opt_go w)) in
              let bad : phase.OptMode ≡ phase.Ready = sym is ∙ ready in cc

      go : EndsBy answer.type r.0.told → Next known more (OptionReply r.0.told)
      go (inl (l, end, e, ack)) =
          leads end (phase (Replied r.0.told ∷ known.heard.turns)) (replied_leads size known.heard.turns option r.0.told end a.fair now e) refl (are.2 l) e (acks_is end (ends_acks answer.type answer.body r.0 end r.1 e ack) (are.2 l))
      go (inr (l, e)) =
          let is : phase (Replied r.0.told ∷ known.heard.turns) ≡ phase.Asked option = replied_stays known.heard.turns r.0.told e ∙ now in
          let not_ack : (answer.type == rep_ack) ≡ false = right_none (nat_le first_rep_error answer.type) (answer.type == rep_ack) l in
          let same : acknowledges (Answers option answer ∷ more) ≡ acknowledges more = ap (λ (b : Bool). b || acknowledges more) not_ack in
          awaits (phase.Asked option) is refl (are.3, or_right (is_last answer) (ends_answer more) whole l, unnamed, none) (
            agrees.0 ∙ ap (λ (b : Bool). if (option == opt_go) && b then server_at.Serving else server_at.Haggling) same,
            agrees.1 ∙ ap (λ (b : Bool). ((option == opt_extended_headers) && b) || extended (steps known.heard.turns)) same ∙ ap (λ (b : Bool). ((option == opt_extended_headers) && acknowledges more) || b) (sym (none_answered known.heard.turns r.0.told e)),
          ) (λ goes. (going_now goes).1)

  -- The bytes that are read.

  abbrev Settled : Link → List ℕ → List Said → Option Shown → Type 0
  Settled known left more v = Settles server encode full_said (Awaits size waiting stage ext) IsOver known left more v

  settle_good : (known : Link) (left : List ℕ) (more : List Said) (R : Shown → Type 0) (v : Option Shown) → Good IsBroken R left v → ((found : Shown) → R found → Next known more found) → Settled known left more v
  settle_good known left more R None g h = g
  settle_good known left more R (Some found) (inl b) h = inl (broken known found b)
  settle_good known left more R (Some found) (inr (l, r)) h = inr (l, h found r)

  by_shown : (known : Link) (left : List ℕ) (more : List Said) (one other : Option Shown) → one ≡ other → Settled known left more other → Settled known left more one
  by_shown known left more one other e s = subst (λ (v : Option Shown). Settled known left more v) (sym e) s

  head_is : (one other : Said) (more : List Said) → one ∷ more ≡ other ∷ [] → (one ≡ other) × (more ≡ [])
  head_is one other more e = (cc, cc)

  each : (known : Link) (one : Said) (more : List Said) (now left : List ℕ) → Awaits size waiting stage ext known (one ∷ more) → now ++ left ≡ encode one → Settled known left more (shows known now)
  each known one more now left a e = go (phase known.heard.turns) refl a.expects a.agrees
    where
      as_is : (x : Said) → one ≡ x → Awaits size waiting stage ext known (x ∷ more)
      as_is x is = subst (λ (y : Said). Awaits size waiting stage ext known (y ∷ more)) is a

      option_case : (option : ℕ) (x : Said) → phase known.heard.turns ≡ phase.Asked option → one ≡ x → AreReplies size option (x ∷ more) → ends_answer (x ∷ more) ≡ true → is_by_name known.wishes ≡ false → known.requests ≡ [] →
          Agrees stage ext (is_by_name known.wishes) (extended (steps known.heard.turns)) (phase.Asked option) (x ∷ more) → Settled known left more (shows known now)
      option_case option Greets here is rep whole unnamed none agrees = absurd rep
      option_case option (Names n flags) here is rep whole unnamed none agrees = absurd rep
      option_case option (Replies_to replies request_ made) here is rep whole unnamed none agrees = absurd rep
      option_case option (Answers other answer) here is rep whole unnamed none agrees =
          by_shown known left more _ _ (shown_by known (phase.Asked option) now a.open_ here)
          (settle_good known left more (IsReply answer) _ (good_option (sight known.heard) option answer now left rep.1.fit (e ∙ ap encode is ∙ ap (λ (o : ℕ). encode (Answers o answer)) rep.0))
          (λ found r. enter_option known option answer more found here (subst (λ (o : ℕ). Awaits size waiting stage ext known (Answers o answer ∷ more)) rep.0 (as_is (Answers other answer) is)) (refl, rep.1, rep.2, rep.3) whole unnamed none agrees r))

      made_case : (x : Said) → phase known.heard.turns ≡ phase.Ready → one ≡ x → AreFor known.requests (x ∷ more) → Owes waiting known.requests known.heard.entries (x ∷ more) → (stage ≡ server_at.Serving) × (ext ≡ extended (steps known.heard.turns)) → Settled known left more (shows known now)
      made_case Greets here is m owes agrees = absurd m
      made_case (Names n flags) here is m owes agrees = absurd m
      made_case (Answers option answer) here is m owes agrees = absurd m
      made_case (Replies_to replies request_ made) here is m owes agrees =
          by_shown known left more _ _ (shown_by known phase.Ready now a.open_ here)
          (settle_good known left more (Framing known request_) _ (good_reply known replies request_ made (sight known.heard).structured (sight known.heard).extended now left m.0 (e ∙ ap encode is))
          (λ found f. enter_reply known replies request_ made more found here (as_is (Replies_to replies request_ made) is) m.1 owes f agrees))

      named : (b : Bool) → is_by_name known.wishes ≡ b → phase known.heard.turns ≡ phase.OptMode → IsNamed size b (one ∷ more) → known.requests ≡ [] → IsBetween stage b × (ext ≡ extended (steps known.heard.turns)) → Settled known left more (shows known now)
      named false by here is none agrees = cc
      named true by here (flags, is, fit) none agrees =
          let h = head_is one (Names size flags) more is in
          let three : known.heard.flags ≡ 3 = elim a.flags [
            | inl greeting ↦ (let bad : phase.Greeting ≡ phase.OptMode = sym greeting ∙ here in cc)
            | inr t ↦ t
          ] in
          by_shown known left more _ _ (shown_by known phase.OptMode now a.open_ here ∙ ap (λ (b : Bool). if b then shown.shows_by_name (has_bit flag_no_zeroes known.heard.flags) now else None) by ∙ ap (λ (n : ℕ). shown.shows_by_name (has_bit flag_no_zeroes n) now) three)
          (settle_good known left more (λ found. found ≡ ExportReply size flags) _ (good_named size flags now left fit (e ∙ ap encode h.0))
          (λ found r. subst (λ (x : Shown). Next known more x) (sym r) (subst (λ (xs : List Said). Next known xs (ExportReply size flags)) (sym h.1)
          (enter_named known flags (subst (λ (xs : List Said). Awaits size waiting stage ext known xs) is a) three none agrees))))

      go : (p : Phase) → phase known.heard.turns ≡ p → Expects size waiting (is_by_name known.wishes) known.requests known.heard.entries p (one ∷ more) → Agrees stage ext (is_by_name known.wishes) (extended (steps known.heard.turns)) p (one ∷ more) → Settled known left more (shows known now)
      go phase.Greeting here exp agrees =
          let h = head_is one Greets more exp.0 in
          by_shown known left more _ _ (shown_by known phase.Greeting now a.open_ here)
          (settle_good known left more (λ found. found ≡ shown.Hello 3) _ (good_hello now left (e ∙ ap encode h.0))
          (λ found r. subst (λ (x : Shown). Next known more x) (sym r) (subst (λ (xs : List Said). Next known xs (shown.Hello 3)) (sym h.1)
          (enter_hello known (subst (λ (xs : List Said). Awaits size waiting stage ext known xs) exp.0 a) exp.1 exp.2 agrees))))
      go (phase.Asked option) here exp agrees = option_case option one here refl exp.0 exp.1 exp.2 exp.3 agrees
      go phase.AskedByName here exp agrees = absurd exp
      go phase.OptMode here exp agrees = named (is_by_name known.wishes) refl here exp.0 exp.1 agrees
      go phase.Ready here exp agrees = made_case one here refl exp.0 exp.1 agrees
      go (phase.Refused code) here exp agrees = absurd exp

  -- How a link stands, of whose server's bytes these were read and show nothing yet, and those wait.

  pub record Stands (read out : List ℕ) (known : Link) : Type 0 where
    pub rest : List Said
    pub awaits : Awaits size waiting stage ext known rest
    pub left : read ++ out ≡ flat_map encode rest
    pub part : IsPart encode read rest

  abbrev pub IsAt : (read out : List ℕ) → Link → Type 0
  IsAt read out known = IsOver known ⊎ Stands read out known

  pub none_left : (items : List Said) → IsPart encode [] items
  none_left [] = refl
  none_left (one ∷ items) = full_said one

  -- These bytes are read.
  pub heard_at : (known : Link) (pending bytes coming : List ℕ) → IsAt pending (bytes ++ coming) known →
      IsAt (feed server (record { known = known; pending = pending }) bytes).pending coming (feed server (record { known = known; pending = pending }) bytes).known
  heard_at known pending bytes coming (inl over) = inl (feed_lasts server IsOver over_lasts (record { known = known; pending = pending }) bytes over)
  heard_at known pending bytes coming (inr s) = go (feed_settles server encode full_said (Awaits size waiting stage ext) IsOver over_lasts each known pending bytes coming s.rest s.awaits s.left s.part)
    where
      go : (IsOver (feed server (record { known = known; pending = pending }) bytes).known ⊎ Reading server encode full_said (Awaits size waiting stage ext) IsOver (feed server (record { known = known; pending = pending }) bytes) coming) →
          IsAt (feed server (record { known = known; pending = pending }) bytes).pending coming (feed server (record { known = known; pending = pending }) bytes).known
      go (inl over) = inl over
      go (inr r) = inr (record { rest = r.rest; awaits = r.fits; left = r.left; part = r.part })

  -- from the first byte that waits on
  pub again_at : (read out : List ℕ) (known : Link) → IsAt read out known → IsAt [] (read ++ out) known
  again_at read out known (inl over) = inl over
  again_at read out known (inr s) = inr (record { rest = s.rest; awaits = s.awaits; left = s.left; part = none_left s.rest })
