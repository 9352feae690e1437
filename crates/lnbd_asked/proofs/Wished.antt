-- What a link alone keeps: no request may be made before GO or EXPORT_NAME was asked, and once one may be, nothing is negotiated unless an option is asked.
use Rattle.std.proofs.Common.{◌≡◌, ℕ, ◌≤◌, Bool, true, false, ◌||◌, List, [], ◌∷◌, length, Option, Some, None, refl, ap, sym, subst, ◌∙◌, ◌==◌, nat_lt, arith, if◌then◌else◌}
use Rattle.std.proofs.lemmas.Bool.{false≢true}
use Rattle.lnbd_model.specs.declared.kind.Kind.{Kind}
use Rattle.lnbd_model.specs.declared.breach.Breach.TheVariants.{TooManyReplies}
use Rattle.lnbd_model.specs.declared.state.Cause.TheVariants as cause
use Rattle.lnbd_records.specs.Limits.{max_passed}
use Rattle.lnbd_records.specs.Options.{opt_export_name, opt_extended_headers, opt_go, opt_structured_reply}
use Rattle.lnbd_stream.specs.Laws.{Lasts}
use Rattle.lnbd_stream.proofs.Stream.{feed_lasts}
use Rattle.lnbd_link.specs.Call.{Call, Connect, Listen, Accept, Read, Write, Pause, Shut, ReadTold, WriteTold, Moved, Unready, Ended, ReadFault, Sent, Full, WriteFault}
use Rattle.lnbd_history.specs.declared.kinds.Phase.{Phase}
use Rattle.lnbd_history.specs.declared.kinds.Phase.TheVariants.{Greeting, Asked, AskedByName, OptMode, Ready, Refused}
use Rattle.lnbd_history.specs.declared.kinds.Stage.{Stage}
use Rattle.lnbd_history.specs.declared.kinds.Stage.TheVariants.{Created, Open, Disconnecting, Aborting, Closed, Dead}
use Rattle.lnbd_history.specs.Agreement.{Turn, Replied, ByName, Opted, End, Acknowledged, Failed, end_of, is_acknowledged, phase, opt_mode, asks_structured, asks_extended, contexts_now, after_hello, after_extended, after_structured, after_go, after_answer, after_reply}
use Rattle.lnbd_history.specs.Agreement as turn
use Rattle.lnbd_history.specs.Arrivals.{Shown, Hello, OptionReply, ExportReply, Reply, Broken, Passed, Ignored, Sight, Waiting, shows_at, shows_in}
use Rattle.lnbd_history.specs.Arrivals as shown
use Rattle.lnbd_history.specs.Entries.{Framed}
use Rattle.lnbd_history.specs.History.{request, sight, turned}
use Rattle.lnbd_asked.specs.Client.{Flags, Wishes, Orders, Stray, Order, Wish}
use Rattle.lnbd_asked.specs.Link.{Link, Both, client, server, is_free, is_by_name, kind_of, next, issued, ordered, shows_by_name, after_write, after_read, after_end, after_fault}
use Rattle.lnbd_asked.specs.Link.{waited as link_waited}
use Rattle.lnbd_asked.specs.Transcript.{after_call, after_calls, after_read_told, after_write_told}
use Rattle.lnbd_asked.proofs.Asks.{has_name}
use Rattle.lnbd_asked.proofs.Match.{file_still}
use Rattle.lnbd_asked.proofs.ShownBy.{Each, hello_kinds, option_kinds}
use Rattle.lnbd_asked.proofs.Staying.{later_found, later_turns, refused_turns, die_turns, ended_turns, failed_turns}

-- A fact of a link that bytes of either side keep, and that only speaks of what was asked and what was heard in negotiation.
pub record LinkKeeps (P : Link → Type 0) : Type 0 where
  pub client : Lasts client P
  pub server : Lasts server P
  pub same : (one other : Link) → one.wishes ≡ other.wishes → one.heard.turns ≡ other.heard.turns → P other → P one

module _ (P : Link → Type 0) (keeps : LinkKeeps P) where
  pub read_keeps : (bytes : List ℕ) (both : Both) → P both.link → P (after_read bytes both).link
  read_keeps bytes both p = feed_lasts server P keeps.server (record { known = both.link; pending = both.read }) bytes p

  pub write_keeps : (bytes : List ℕ) (both : Both) → P both.link → P (after_write bytes both).link
  write_keeps bytes both p =
      let fed = feed_lasts client P keeps.client (record { known = both.link; pending = both.written }) bytes p in
      feed_lasts server P keeps.server _ both.read fed

  pub end_keeps : (both : Both) → P both.link → P (after_end both).link
  end_keeps both p = keeps.same (after_end both).link both.link refl (ended_turns both.link.heard.stage both.link.requests (record { known = both.link.heard; pending = both.read })) p

  pub fault_keeps : (both : Both) → P both.link → P (after_fault both).link
  fault_keeps both p = keeps.same (after_fault both).link both.link refl (failed_turns both.link.heard.stage both.link.requests (record { known = both.link.heard; pending = both.read })) p

  read_told_keeps : (told : ReadTold) (both : Both) → P both.link → P (after_read_told told both).link
  read_told_keeps (Moved bytes) both p = read_keeps bytes both p
  read_told_keeps Unready both p = p
  read_told_keeps Ended both p = end_keeps both p
  read_told_keeps ReadFault both p = fault_keeps both p

  write_told_keeps : (told : WriteTold) (both : Both) → P both.link → P (after_write_told told both).link
  write_told_keeps (Sent bytes) both p = write_keeps bytes both p
  write_told_keeps Full both p = p
  write_told_keeps WriteFault both p = fault_keeps both p

  either : (b : Bool) (one other : Both) → P one.link → P other.link → P (if b then one else other).link
  either true one other p q = p
  either false one other p q = q

  pub call_keeps : (link : ℕ) (both : Both) (call : Call) → P both.link → P (after_call link both call).link
  call_keeps link both (Read n room answer) p = either (n == link) (after_read_told answer both) both (read_told_keeps answer both p) p
  call_keeps link both (Write n offered answer) p = either (n == link) (after_write_told answer both) both (write_told_keeps answer both p) p
  call_keeps link both (Connect to given) p = p
  call_keeps link both (Listen at given) p = p
  call_keeps link both (Accept n answer) p = p
  call_keeps link both (Pause wants) p = p
  call_keeps link both (Shut n) p = p

  pub calls_keep : (link : ℕ) (both : Both) (calls : List Call) → P both.link → P (after_calls link both calls).link
  calls_keep link both [] p = p
  calls_keep link both (call ∷ calls) p = calls_keep link (after_call link both call) calls (call_keeps link both call p)

-- what a request leaves
order_same : (kind : Option Kind) (order : Order) (link : Link) → ((ordered kind order link).wishes ≡ link.wishes) × ((ordered kind order link).heard.turns ≡ link.heard.turns)
order_same None order link = (refl, refl)
order_same (Some kind) order link = go (order.cookie == next link)
  where
    go : (b : Bool) → ((if b then issued kind order link else record link { strayed = true }).wishes ≡ link.wishes) × ((if b then issued kind order link else record link { strayed = true }).heard.turns ≡ link.heard.turns)
    go true = (refl, refl)
    go false = (refl, refl)

-- Requests may be made where GO or EXPORT_NAME was asked.

-- at this phase one of them was asked
abbrev pub needs_name : Phase → Bool
needs_name Greeting = false
needs_name (Asked option) = option == opt_go
needs_name AskedByName = true
needs_name OptMode = false
needs_name Ready = true
needs_name (Refused code) = false

pub record Asks (link : Link) : Type 0 where
  pub mode : opt_mode link.heard.turns ≡ true
  pub plain : asks_structured link.heard.turns ≡ false
  pub narrow : asks_extended link.heard.turns ≡ false
  pub named : needs_name (phase link.heard.turns) ≡ true → has_name link.wishes ≡ true

asks_same : (one other : Link) → one.wishes ≡ other.wishes → one.heard.turns ≡ other.heard.turns → Asks other → Asks one
asks_same one other e f a = record {
  mode = ap opt_mode f ∙ a.mode;
  plain = ap asks_structured f ∙ a.plain;
  narrow = ap asks_extended f ∙ a.narrow;
  named = λ n. ap has_name e ∙ a.named (sym (ap (λ ts. needs_name (phase ts)) f) ∙ n);
}

or_true : (b : Bool) → b || true ≡ true
or_true true = refl
or_true false = refl

asks_client : Lasts client Asks
asks_client link bytes (Flags flags) a e = record { mode = a.mode; plain = a.plain; narrow = a.narrow; named = a.named }
asks_client link bytes Stray a e = record { mode = a.mode; plain = a.plain; narrow = a.narrow; named = a.named }
asks_client link bytes (Orders order) a e = let s = order_same (kind_of order.type) order link in asks_same (ordered (kind_of order.type) order link) link s.0 s.1 a
asks_client link bytes (Wishes wish) a e = go (wish.option == opt_export_name) refl
  where
    go : (b : Bool) → (wish.option == opt_export_name) ≡ b → Asks (record link { wishes = wish ∷ link.wishes; heard = record link.heard { turns = if b then link.heard.turns else Opted wish.option ∷ link.heard.turns } })
    go true f = record { mode = a.mode; plain = a.plain; narrow = a.narrow; named = λ n. ap (λ b. ((wish.option == opt_go) || b) || has_name link.wishes) f ∙ ap (λ b. b || has_name link.wishes) (or_true (wish.option == opt_go)) }
    go false f = record { mode = a.mode; plain = a.plain; narrow = a.narrow; named = λ n. ap (λ b. (b || (wish.option == opt_export_name)) || has_name link.wishes) n }

-- what a hello and a reply lead to
hello_needs : (link : Link) → Asks link → needs_name (phase (turn.Hello ∷ link.heard.turns)) ≡ false
hello_needs link a =
    ap (λ b. needs_name (after_hello b (asks_structured link.heard.turns) (opt_mode link.heard.turns) (contexts_now link.heard.turns))) a.narrow
    ∙ ap (λ b. needs_name (after_hello false b (opt_mode link.heard.turns) (contexts_now link.heard.turns))) a.plain
    ∙ ap (λ b. needs_name (after_hello false false b (contexts_now link.heard.turns))) a.mode

answer_needs : (wanted : List (List ℕ)) (option : ℕ) (end : End) → needs_name (after_answer false true wanted option end) ≡ true → (option == opt_go) ≡ true
answer_needs wanted option end = go (option == opt_extended_headers) (option == opt_structured_reply) (option == opt_go)
  where
    none : {A : Type 0} (on : Bool) → needs_name (after_extended false true wanted on) ≡ true → A
    none true n = absurd (false≢true n)
    none false n = absurd (false≢true n)

    go : (a b c : Bool) → needs_name (if a then after_extended false true wanted (is_acknowledged end) else if b then after_structured true wanted (is_acknowledged end) else if c then after_go true end else OptMode) ≡ true → c ≡ true
    go true b c n = none (is_acknowledged end) n
    go false true c n = absurd (false≢true n)
    go false false true n = refl
    go false false false n = absurd (false≢true n)

reply_needs : (wanted : List (List ℕ)) (x : Option End) (p : Phase) → needs_name (after_reply false true wanted x p) ≡ true → needs_name p ≡ true
reply_needs wanted None p n = n
reply_needs wanted (Some end) (Asked option) n = answer_needs wanted option end n
reply_needs wanted (Some end) Greeting n = n
reply_needs wanted (Some end) AskedByName n = n
reply_needs wanted (Some end) OptMode n = n
reply_needs wanted (Some end) Ready n = n
reply_needs wanted (Some end) (Refused code) n = n

-- A reply to EXPORT_NAME is only read where that was asked.

abbrev IsNoExport : Shown → Type 0
IsNoExport (Hello flags) = Unit {0}
IsNoExport (OptionReply told) = Unit {0}
IsNoExport (ExportReply size flags) = ⊥
IsNoExport (Reply frame) = Unit {0}
IsNoExport (Broken breach) = Unit {0}
IsNoExport Passed = Unit {0}
IsNoExport Ignored = Unit {0}

none_found : (found : Shown) → None ≡ Some found → ⊥
none_found found e = cc

ignored_none : (bytes : List ℕ) → Each IsNoExport (shown.shows_ignored bytes)
ignored_none [] = tt
ignored_none (byte ∷ bytes) = tt

needs_in : (p : Phase) (s : Sight) (waited : ℕ → Option Waiting) (bytes : List ℕ) (size flags : ℕ) → s.phase ≡ p → shows_in p s waited bytes ≡ Some (ExportReply size flags) → needs_name p ≡ true
needs_in Greeting s waited bytes size flags is e = absurd (subst (Each IsNoExport) e (hello_kinds IsNoExport (λ breach. tt) bytes (λ flags. tt)))
needs_in (Asked option) s waited bytes size flags is e = absurd (subst (Each IsNoExport) e (option_kinds IsNoExport (λ breach. tt) s bytes (λ told. tt)))
needs_in OptMode s waited bytes size flags is e = absurd (subst (Each IsNoExport) e (option_kinds IsNoExport (λ breach. tt) s bytes (λ told. tt)))
needs_in AskedByName s waited bytes size flags is e = refl
needs_in Ready s waited bytes size flags is e = refl
needs_in (Refused code) s waited bytes size flags is e = absurd (subst (Each IsNoExport) e (ignored_none bytes))

passed_none : (passed : ℕ) (bytes : List ℕ) → Each IsNoExport (shown.shows_passed passed bytes)
passed_none passed [] = tt
passed_none passed (byte ∷ bytes) = go (nat_lt passed max_passed)
  where
    go : (b : Bool) → Each IsNoExport (if b then Some Passed else Some (Broken TooManyReplies))
    go true = tt
    go false = tt

needs_at : (stage : Stage) (s : Sight) (waited : ℕ → Option Waiting) (bytes : List ℕ) (size flags : ℕ) → shows_at stage s waited bytes ≡ Some (ExportReply size flags) → needs_name s.phase ≡ true
needs_at Created s waited bytes size flags e = absurd (subst (Each IsNoExport) e (ignored_none bytes))
needs_at Open s waited bytes size flags e = needs_in s.phase s waited bytes size flags refl e
needs_at Disconnecting s waited bytes size flags e = needs_in s.phase s waited bytes size flags refl e
needs_at Aborting s waited bytes size flags e = absurd (subst (Each IsNoExport) e (passed_none s.passed bytes))
needs_at Closed s waited bytes size flags e = absurd (subst (Each IsNoExport) e (ignored_none bytes))
needs_at (Dead why) s waited bytes size flags e = absurd (subst (Each IsNoExport) e (ignored_none bytes))

named_last : (wishes : List Wish) → is_by_name wishes ≡ true → has_name wishes ≡ true
named_last [] e = absurd (false≢true e)
named_last (wish ∷ earlier) e = ap (λ b. ((wish.option == opt_go) || b) || has_name earlier) e ∙ ap (λ b. b || has_name earlier) (or_true (wish.option == opt_go))

export_asked : (link : Link) (bytes : List ℕ) (size flags : ℕ) → Asks link → server.shows link bytes ≡ Some (ExportReply size flags) → has_name link.wishes ≡ true
export_asked link bytes size flags a e = go (is_free (phase link.heard.turns)) (is_by_name link.wishes) refl e
  where
    go : (free named : Bool) → is_by_name link.wishes ≡ named → (if free then if named then shows_by_name link bytes else None else shows_at link.heard.stage (sight link.heard) (link_waited link) bytes) ≡ Some (ExportReply size flags) → has_name link.wishes ≡ true
    go true true is e = named_last link.wishes is
    go true false is e = absurd (none_found _ e)
    go false named is e = a.named (needs_at link.heard.stage (sight link.heard) (link_waited link) bytes size flags e)

asks_server : Lasts server Asks
asks_server link bytes (Hello flags) a e = record { mode = a.mode; plain = a.plain; narrow = a.narrow; named = λ n. absurd (false≢true (sym (hello_needs link a) ∙ n)) }
asks_server link bytes (OptionReply told) a e =
    asks_same _ (record link { heard = turned (Replied told) link.heard }) refl (refused_turns (phase (Replied told ∷ link.heard.turns)) link.requests (turned (Replied told) link.heard))
    (record { mode = a.mode; plain = a.plain; narrow = a.narrow; named = λ n. a.named (reply_needs (contexts_now link.heard.turns) (end_of told) (phase link.heard.turns) (by n)) })
  where
    by : needs_name (phase (Replied told ∷ link.heard.turns)) ≡ true → needs_name (after_reply false true (contexts_now link.heard.turns) (end_of told) (phase link.heard.turns)) ≡ true
    by n =
        sym (ap (λ b. needs_name (after_reply b (opt_mode link.heard.turns) (contexts_now link.heard.turns) (end_of told) (phase link.heard.turns))) a.plain
        ∙ ap (λ b. needs_name (after_reply false b (contexts_now link.heard.turns) (end_of told) (phase link.heard.turns))) a.mode)
        ∙ n
asks_server link bytes (ExportReply size flags) a e = record { mode = a.mode; plain = a.plain; narrow = a.narrow; named = λ n. export_asked link bytes size flags a e }
asks_server link bytes (Reply frame) a e = asks_same _ link refl (file_still (request link.requests frame.cookie) frame.cookie (Framed frame.content frame.last) link.heard).turns a
asks_server link bytes (Broken breach) a e = asks_same _ link refl (die_turns link.requests (cause.Broke breach) link.heard) a
asks_server link bytes Passed a e = asks_same _ link refl refl a
asks_server link bytes Ignored a e = a

pub asks_keep : LinkKeeps Asks
asks_keep = record { client = asks_client; server = asks_server; same = asks_same }

-- Once requests may be made, what was negotiated stays unless an option is asked.

pub record Since (base link : Link) : Type 0 where
  pub grown : length base.wishes ≤ length link.wishes
  pub still : phase base.heard.turns ≡ Ready → length link.wishes ≡ length base.wishes → link.heard.turns ≡ base.heard.turns

module _ (base : Link) where
  since_same : (one other : Link) → one.wishes ≡ other.wishes → one.heard.turns ≡ other.heard.turns → Since base other → Since base one
  since_same one other e f s = record {
    grown = subst (λ ws. length base.wishes ≤ length ws) (sym e) s.grown;
    still = λ ready l. f ∙ s.still ready (sym (ap (λ ws. length ws) e) ∙ l);
  }

  since_client : Lasts client (Since base)
  since_client link bytes (Flags flags) s e = since_same _ link refl refl s
  since_client link bytes Stray s e = since_same _ link refl refl s
  since_client link bytes (Orders order) s e = let k = order_same (kind_of order.type) order link in since_same (ordered (kind_of order.type) order link) link k.0 k.1 s
  since_client link bytes (Wishes wish) s e = let grown = s.grown in record {
    grown = omega (arith, grown);
    still = λ ready l. absurd (omega (arith, l, grown));
  }

  since_server : Lasts server (Since base)
  since_server link bytes found s e = record {
    grown = s.grown;
    still = λ ready l.
        let same = s.still ready l in
        let now : phase link.heard.turns ≡ Ready = ap phase same ∙ ready in
        later_turns link.requests link.heard found (later_found link.heard (link_waited link) bytes found now (sym (shows_then link bytes now) ∙ e)) ∙ same;
  }
    where
      shows_then : (link : Link) (bytes : List ℕ) → phase link.heard.turns ≡ Ready → server.shows link bytes ≡ shows_at link.heard.stage (sight link.heard) (link_waited link) bytes
      shows_then link bytes ready = ap (λ p. if is_free p then if is_by_name link.wishes then shows_by_name link bytes else None else shows_at link.heard.stage (sight link.heard) (link_waited link) bytes) ready

  pub since_keep : LinkKeeps (Since base)
  since_keep = record { client = since_client; server = since_server; same = since_same }
