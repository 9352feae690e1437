-- What a client's bytes and a reply that is made leave of what is unanswered on a link.
use Rattle.std.proofs.Common.{◌≡◌, ℕ, zero, suc, ◌+◌, ◌-◌, ◌^◌, ◌<◌, ◌⊎◌, inl, inr, Bool, true, false, not, ◌&&◌, ◌||◌, List, [], ◌∷◌, ◌++◌, length, take, Option, Some, None, ◌==◌, nat_le, refl, ap, sym, subst, ◌∙◌, arith, if◌then◌else◌, append_assoc}
use Rattle.std.specs.List.{flat_map, remove, slice_index_or}
use Rattle.std.specs.Option.{option_map}
use Rattle.std.proofs.lemmas.Bool.{cases_eq, eq-eqb, eqb-true, ne_eqb}
use Rattle.lnbd_model.specs.declared.kind.Kind.{Kind}
use Rattle.lnbd_records.specs.Handshake.{export_name_reply}
use Rattle.lnbd_records.specs.Numbers.{IsBytes, AllFit}
use Rattle.lnbd_records.specs.Options.{opt_export_name, opt_extended_headers, opt_go}
use Rattle.lnbd_stream.specs.Stream.{Held, settle, take_byte, feed, things, trace, shown_by}
use Rattle.lnbd_stream.specs.Laws.{IsPart}
use Rattle.lnbd_history.specs.declared.kinds.Phase.{Phase}
use Rattle.lnbd_history.specs.declared.kinds.Phase.TheVariants as phase
use Rattle.lnbd_history.specs.declared.kinds.Stage.TheVariants.{Open, Dead}
use Rattle.lnbd_history.specs.Agreement.{Turn, phase, steps, extended, Opted}
use Rattle.lnbd_history.specs.Commands.{Command, request_of}
use Rattle.lnbd_history.specs.Events.{History, Issue}
use Rattle.lnbd_history.specs.History.{asked, request as asked_under}
use Rattle.lnbd_asked.specs.Client.{Said, Flags, Wishes, Orders, Stray, Wish, Order}
use Rattle.lnbd_asked.specs.Client as client
use Rattle.lnbd_asked.specs.Link.{Nobody, Link, Both, said, wished, ordered, issued, kind_of, command_of, is_extended, next, is_free, is_by_name, after_write}
use Rattle.lnbd_asked.specs.Link as links
use Rattle.lnbd_asked.specs.Laws.{is_waiting}
use Rattle.lnbd_asked.specs.Transcript.{name_asked}
use Rattle.lnbd_export.specs.Export.{Export, TellsTruly}
use Rattle.lnbd_export.specs.Requests as held
use Rattle.lnbd_export.specs.declared.request.Replies.{Replies}
use Rattle.lnbd_export.specs.declared.request.Request.{Request}
use Rattle.lnbd_server.specs.declared.stage.Offers.{Offers}
use Rattle.lnbd_server.specs.declared.stage.Stage.{Stage}
use Rattle.lnbd_server.specs.declared.stage.Stage.TheVariants.{Haggling, Serving, Strayed}
use Rattle.lnbd_server.specs.Client.{Heard, stray, says, asks_of, max_client}
use Rattle.lnbd_server.specs.Client as server
use Rattle.lnbd_server.specs.Options.{option_answer, put_replies, refused}
use Rattle.lnbd_server.specs.Session.{State, rules, entering, is_closed, Dialogue, MakesReply, with_export, after_bytes, past_limit}
use Rattle.lnbd_spoken.specs.Speaking.{IsNext, MaySay, AllMaySay}
use Rattle.lnbd_served.specs.Grammars.{is_greeted, as_heard}
use Rattle.lnbd_served.specs.Served.{IsServable}
use Rattle.lnbd_served.specs.Steps.{Step, after, AllRight}
use Rattle.lnbd_served.proofs.Small.{FitsHeard, heard_small, After, read_after}
use Rattle.lnbd_served.proofs.Telling.{said_of, said_as_read}
use Rattle.lnbd_served.proofs.Items.{Said as Telling, Names, Replies_to, encode, acknowledges}
use Rattle.lnbd_served.proofs.Saying.{waiting_opt, asked_kept, AnswersWish}
use Rattle.lnbd_served.proofs.Haggling.{Answered, answered}
use Rattle.lnbd_served.proofs.Making.{made_fits}
use Rattle.lnbd_served.proofs.Taking.{OneWaits, Opened, Steps, SameFace, same_face, same_servable, During, may_both, first_byte, push_bytes, some_heard, may_straight, is_stray, stray_is, each_last, not_two, nothing_both, byte_step}
use Rattle.lnbd_served.proofs.Hosting.{side, TieBoth, retie, picked_waits, flat_more, part_more}
use Rattle.lnbd_lively.proofs.Going.{AreKnown, acked_known, refused_known, IsGoAnswer, go_answer}
use Rattle.lnbd_lively.proofs.Owing.{IsPending, IsComing, Owes, IsFor, AreFor, IsNamed, Expects, IsBetween, Agrees, IsGoing, Awaits, IsOver, IsAt, none_left, heard_at, again_at}

-- What is pending.

pending_more : (c : ℕ) (waiting : List Request) (new : Request) → IsPending c waiting → IsPending c (waiting ++ new ∷ [])
pending_more c [] new p = absurd p
pending_more c (first ∷ waiting) new (inl same) = inl same
pending_more c (first ∷ waiting) new (inr p) = inr (pending_more c waiting new p)

pending_last : (c : ℕ) (waiting : List Request) (new : Request) → new.cookie ≡ c → IsPending c (waiting ++ new ∷ [])
pending_last c [] new e = inl e
pending_last c (first ∷ waiting) new e = inr (pending_last c waiting new e)

-- all but the one whose reply is made
pending_less : (c : ℕ) (waiting : List Request) (pick : ℕ) (one : Request) → slice_index_or waiting pick one ≡ one → IsPending c waiting → IsPending c (remove waiting pick) ⊎ (one.cookie ≡ c)
pending_less c [] pick one e p = absurd p
pending_less c (first ∷ waiting) zero one e (inl same) = inr (ap (λ (r : Request). r.cookie) (sym e) ∙ same)
pending_less c (first ∷ waiting) zero one e (inr p) = inl p
pending_less c (first ∷ waiting) (suc pick) one e (inl same) = inl (inl same)
pending_less c (first ∷ waiting) (suc pick) one e (inr p) = elim (pending_less c waiting pick one e p) [
  | inl still ↦ inl (inr still)
  | inr same ↦ inr same
]

coming_more : (c : ℕ) (rest : List Telling) (new : Telling) → IsComing c rest → IsComing c (rest ++ new ∷ [])
coming_more c [] new p = absurd p
coming_more c (Replies_to replies request made ∷ rest) new (inl same) = inl same
coming_more c (Replies_to replies request made ∷ rest) new (inr p) = inr (coming_more c rest new p)
coming_more c (Telling.Greets ∷ rest) new p = coming_more c rest new p
coming_more c (Telling.Answers option reply ∷ rest) new p = coming_more c rest new p
coming_more c (Names size flags ∷ rest) new p = coming_more c rest new p

coming_last : (c : ℕ) (rest : List Telling) (replies : Replies) (request : Request) (made : held.Reply) → request.cookie ≡ c → IsComing c (rest ++ Replies_to replies request made ∷ [])
coming_last c [] replies request made e = inl e
coming_last c (Replies_to other r m ∷ rest) replies request made e = inr (coming_last c rest replies request made e)
coming_last c (Telling.Greets ∷ rest) replies request made e = coming_last c rest replies request made e
coming_last c (Telling.Answers option reply ∷ rest) replies request made e = coming_last c rest replies request made e
coming_last c (Names size flags ∷ rest) replies request made e = coming_last c rest replies request made e

for_more : (requests : History Nobody) (rest : List Telling) (replies : Replies) (request : Request) (made : held.Reply) → AreFor requests rest → IsFor requests replies request made → AreFor requests (rest ++ Replies_to replies request made ∷ [])
for_more requests [] replies request made are one = (one, tt)
for_more requests (Replies_to other r m ∷ rest) replies request made are one = (are.0, for_more requests rest replies request made are.1 one)
for_more requests (Telling.Greets ∷ rest) replies request made are one = are
for_more requests (Telling.Answers option reply ∷ rest) replies request made are one = are
for_more requests (Names size flags ∷ rest) replies request made are one = are

-- what was asked stays so
for_issued : (known : Link) (command : Command Nobody) (rest : List Telling) → AreFor known.requests rest → AreFor (Issue command ∷ known.requests) rest
for_issued known command [] are = tt
for_issued known command (Replies_to replies request made ∷ rest) are = (
  record {
    asks_ = are.0.asks_;
    asked_ = asked_kept known command request.cookie are.0.asks_ are.0.asked_;
    kind = are.0.kind;
    offset = are.0.offset;
    length_ = are.0.length_;
    fits = are.0.fits;
    wire = are.0.wire;
  },
  for_issued known command rest are.1,
)
for_issued known command (Telling.Greets ∷ rest) are = are
for_issued known command (Telling.Answers option reply ∷ rest) are = are
for_issued known command (Names size flags ∷ rest) are = are

-- what is owed once a request more is pending
owes_issued : (known : Link) (command : Command Nobody) (waiting : List Request) (new : Request) (rest : List Telling) → new.cookie ≡ next known → Owes waiting known.requests known.heard.entries rest → Owes (waiting ++ new ∷ []) (Issue command ∷ known.requests) known.heard.entries rest
owes_issued known command waiting new rest is owes c q e open_ = elim (cases_eq (next known) c) [
  | inl same ↦ inl (pending_last c waiting new (is ∙ same))
  | inr other ↦ go (owes c q (sym (ap (λ (b : Bool). if b then Some (request_of (asked known.requests).admitted command) else asked_under known.requests c) (ne_eqb (next known) c other)) ∙ e) open_)
]
  where
    go : IsPending c waiting ⊎ IsComing c rest → IsPending c (waiting ++ new ∷ []) ⊎ IsComing c rest
    go (inl p) = inl (pending_more c waiting new p)
    go (inr p) = inr p

-- Where an option may be asked, none is unanswered.
pub unanswered_none : (known : Link) → is_waiting known ≡ true → is_by_name known.wishes ≡ false
unanswered_none known e = go (is_free (phase known.heard.turns)) (is_by_name known.wishes) e
  where
    go : (a b : Bool) → a && not b ≡ true → b ≡ false
    go true true e = sym e
    go true false e = refl
    go false b e = cc

pub dead_open : (known : Link) → IsOver known → known.heard.stage ≡ Open → ⊥
dead_open known over open_ = let bad : Open ≡ Dead over.0.0 = sym open_ ∙ over.0.1 in cc

module _ (start : Export) (servable : IsServable start) (truly : TellsTruly start) (link : ℕ) where
  abbrev pub At : Stage → (ext : Bool) → List Request → (read out : List ℕ) → Link → Type 0
  At stage ext waiting read out known = IsAt (length start.bytes) waiting stage ext read out known

  -- The answer to an option is on its way.
  wish_lives : (all was : List Step) (offers : Offers) (read : List ℕ) (state : State) (known : Link) (wish : Wish) → Steps start link was all state.export → state.no_zeroes ≡ true → MaySay known (Wishes wish) → wish.option < 256 ^ 4 →
      At state.stage (held.is_extended state.agreed.replies) state.waiting read state.out known → is_closed (option_answer offers state.export state.no_zeroes state.agreed wish.option wish.body).stage ≡ false →
      At (option_answer offers state.export state.no_zeroes state.agreed wish.option wish.body).stage (held.is_extended (option_answer offers state.export state.no_zeroes state.agreed wish.option wish.body).agreed.replies) state.waiting read (state.out ++ (option_answer offers state.export state.no_zeroes state.agreed wish.option wish.body).bytes) (wished wish known)
  wish_lives all was offers read state known wish did zeroes may small (inl over) goes = absurd (dead_open known over may.0)
  wish_lives all was offers read state known wish did zeroes may small (inr s) goes =
      subst (λ (b : Bool). At (option_answer offers state.export b state.agreed wish.option wish.body).stage (held.is_extended (option_answer offers state.export b state.agreed wish.option wish.body).agreed.replies) state.waiting read (state.out ++ (option_answer offers state.export b state.agreed wish.option wish.body).bytes) (wished wish known)) (sym zeroes) (inr (record {
        rest = a.items;
        awaits = awaits (wish.option == opt_export_name) refl;
        left = ap (λ (xs : List ℕ). xs ++ (state.out ++ (option_answer offers state.export true state.agreed wish.option wish.body).bytes)) both.0 ∙ ap (λ (xs : List ℕ). xs ++ (option_answer offers state.export true state.agreed wish.option wish.body).bytes) both.1 ∙ a.spelled;
        part = subst (λ (xs : List ℕ). IsPart encode xs a.items) (sym both.0) (none_left (length start.bytes) state.waiting (option_answer offers state.export true state.agreed wish.option wish.body).stage (held.is_extended (option_answer offers state.export true state.agreed wish.option wish.body).agreed.replies) a.items);
      }))
    where
      face : SameFace state.export start
      face = subst (λ (e : Export). SameFace e start) (sym did.is) (same_face start all did.right)

      a : Answered state.export (same_servable state.export start face servable) wish.option small wish.body known.wishes (held.is_extended state.agreed.replies) (option_answer offers state.export true state.agreed wish.option wish.body)
      a = answered state.export (same_servable state.export start face servable) wish.option small wish.body known.wishes offers state.agreed

      goes' : is_closed (option_answer offers state.export true state.agreed wish.option wish.body).stage ≡ false
      goes' = ap (λ (b : Bool). is_closed (option_answer offers state.export b state.agreed wish.option wish.body).stage) (sym zeroes) ∙ goes

      fits : AnswersWish start.name (length start.bytes) wish known.wishes a.items
      fits = subst (λ (n : ℕ). AnswersWish start.name n wish known.wishes a.items) face.0 (subst (λ (xs : List ℕ). AnswersWish xs (length state.export.bytes) wish known.wishes a.items) face.2 a.fits)

      opt : phase known.heard.turns ≡ phase.OptMode
      opt = waiting_opt start.name (length start.bytes) all link known may.1

      was_ : IsNamed (length start.bytes) false s.rest × (known.requests ≡ [])
      was_ = subst (λ (b : Bool). IsNamed (length start.bytes) b s.rest × (known.requests ≡ [])) (unanswered_none known may.1)
          (subst (λ (p : Phase). Expects (length start.bytes) state.waiting (is_by_name known.wishes) known.requests known.heard.entries p s.rest) opt s.awaits.expects)

      agreed_ : IsBetween state.stage (is_by_name known.wishes) × (held.is_extended state.agreed.replies ≡ extended (steps known.heard.turns))
      agreed_ = subst (λ (p : Phase). Agrees state.stage (held.is_extended state.agreed.replies) (is_by_name known.wishes) (extended (steps known.heard.turns)) p s.rest) opt s.awaits.agrees

      both : (read ≡ []) × (state.out ≡ [])
      both = nothing_both read state.out (s.left ∙ ap (flat_map encode) was_.0)

      three : (phase known.heard.turns ≡ phase.Greeting) ⊎ (known.heard.flags ≡ 3) → known.heard.flags ≡ 3
      three (inl nay) = let bad : phase.Greeting ≡ phase.OptMode = sym nay ∙ opt in cc
      three (inr t) = t

      named : ((a.items ≡ []) ⊎ ((flags : ℕ) × (a.items ≡ Names (length start.bytes) flags ∷ []) × AllFit (export_name_reply (length start.bytes) flags) × (name_asked (wish ∷ known.wishes) ≡ Some start.name))) → (a.items ≡ [] → ⊥) → IsNamed (length start.bytes) true a.items
      named (inl none) some = absurd (some none)
      named (inr (flags, is, fit, name)) some = (flags, is, fit)

      -- an answer to GO
      known_items : wish.option ≡ opt_go → (wish.option == opt_export_name) ≡ false → AreKnown a.items
      known_items go e = by (subst (λ (o : ℕ). IsGoAnswer (option_answer offers state.export true state.agreed o wish.body)) (sym go) (go_answer offers state.export true state.agreed wish.body))
        where
          by : IsGoAnswer (option_answer offers state.export true state.agreed wish.option wish.body) → AreKnown a.items
          by (inr (code, few, other, spelled)) =
              refused_known (length start.bytes) wish.option code a.items small few other (fits.1 e).0 (a.ends goes' e) (ap (λ (o : ℕ). put_replies o (refused code ∷ [])) go ∙ sym spelled ∙ a.spelled)
          by (inl serves) = acked_known (length start.bytes) wish.option a.items (fits.1 e).0 (acks (acknowledges a.items) refl)
            where
              not_serving : Haggling ≡ Serving → ⊥
              not_serving n = cc

              acks : (b : Bool) → acknowledges a.items ≡ b → acknowledges a.items ≡ true
              acks true w = w
              acks false w = absurd (not_serving (sym (ap (λ (b : Bool). if b && acknowledges a.items then Serving else Haggling) (eq-eqb wish.option opt_go go) ∙ ap (λ (b : Bool). if b then Serving else Haggling) w) ∙ sym (a.stays goes' e) ∙ serves))

      awaits : (b : Bool) → (wish.option == opt_export_name) ≡ b → Awaits (length start.bytes) state.waiting (option_answer offers state.export true state.agreed wish.option wish.body).stage (held.is_extended (option_answer offers state.export true state.agreed wish.option wish.body).agreed.replies) (wished wish known) a.items
      awaits true e = subst (λ (ts : List Turn). Awaits (length start.bytes) state.waiting (option_answer offers state.export true state.agreed wish.option wish.body).stage (held.is_extended (option_answer offers state.export true state.agreed wish.option wish.body).agreed.replies) (record known { wishes = wish ∷ known.wishes; heard = record known.heard { turns = ts } }) a.items)
          (sym (ap (λ (b : Bool). if b then known.heard.turns else Opted wish.option ∷ known.heard.turns) e)) (record {
            open_ = may.0;
            fair = s.awaits.fair;
            flags = inr (three s.awaits.flags);
            expects = subst (λ (p : Phase). Expects (length start.bytes) state.waiting (wish.option == opt_export_name) known.requests known.heard.entries p a.items) (sym opt)
                (subst (λ (b : Bool). IsNamed (length start.bytes) b a.items) (sym e) (named (fits.0 e) (a.names goes' e)), was_.1);
            agrees = subst (λ (p : Phase). Agrees (option_answer offers state.export true state.agreed wish.option wish.body).stage (held.is_extended (option_answer offers state.export true state.agreed wish.option wish.body).agreed.replies) (wish.option == opt_export_name) (extended (steps known.heard.turns)) p a.items) (sym opt) (
              subst (λ (b : Bool). IsBetween (option_answer offers state.export true state.agreed wish.option wish.body).stage b) (sym e) (a.serves goes' e),
              a.switches ∙ ap (λ (b : Bool). (b && acknowledges a.items) || held.is_extended state.agreed.replies) (ap (λ (k : ℕ). k == opt_extended_headers) (eqb-true wish.option opt_export_name e)) ∙ agreed_.1,
            );
            knew = s.awaits.knew;
            goes = subst (λ (p : Phase). IsGoing p a.items) (sym opt) tt;
          })
      awaits false e = subst (λ (ts : List Turn). Awaits (length start.bytes) state.waiting (option_answer offers state.export true state.agreed wish.option wish.body).stage (held.is_extended (option_answer offers state.export true state.agreed wish.option wish.body).agreed.replies) (record known { wishes = wish ∷ known.wishes; heard = record known.heard { turns = ts } }) a.items)
          (sym (ap (λ (b : Bool). if b then known.heard.turns else Opted wish.option ∷ known.heard.turns) e)) (record {
            open_ = may.0;
            fair = s.awaits.fair;
            flags = inr (three s.awaits.flags);
            expects = ((fits.1 e).0, a.ends goes' e, e, was_.1);
            agrees = (a.stays goes' e, a.switches ∙ ap (λ (b : Bool). ((wish.option == opt_extended_headers) && acknowledges a.items) || b) agreed_.1);
            knew = s.awaits.knew;
            goes = λ go. known_items go e;
          })

  -- A request is pending.
  order_lives : (stage : Stage) (ext : Bool) (waiting : List Request) (read out : List ℕ) (known : Link) (order : Order) (k : Kind) (new : Request) → known.heard.stage ≡ Open → phase known.heard.turns ≡ phase.Ready → new.cookie ≡ next known → At stage ext waiting read out known →
      At stage ext (waiting ++ new ∷ []) read out (issued k order known)
  order_lives stage ext waiting read out known order k new open_ at is (inl over) = absurd (dead_open known over open_)
  order_lives stage ext waiting read out known order k new open_ at is (inr s) = inr (record {
    rest = s.rest;
    awaits = record {
      open_ = s.awaits.open_;
      fair = s.awaits.fair;
      flags = s.awaits.flags;
      expects = subst (λ (p : Phase). Expects (length start.bytes) (waiting ++ new ∷ []) (is_by_name known.wishes) (Issue (command_of (is_extended known) k order) ∷ known.requests) known.heard.entries p s.rest) (sym at)
          (for_issued known (command_of (is_extended known) k order) s.rest was.0, owes_issued known (command_of (is_extended known) k order) waiting new s.rest is was.1);
      agrees = s.awaits.agrees;
      knew = s.awaits.knew;
      goes = s.awaits.goes;
    };
    left = s.left;
    part = s.part;
  })
    where
      was : AreFor known.requests s.rest × Owes waiting known.requests known.heard.entries s.rest
      was = subst (λ (p : Phase). Expects (length start.bytes) waiting (is_by_name known.wishes) known.requests known.heard.entries p s.rest) at s.awaits.expects

  -- the client's flags have come
  flags_live : (stage : Stage) (ext : Bool) (all : List Step) (waiting : List Request) (read out : List ℕ) (known : Link) → known.heard.stage ≡ Open → is_waiting known ≡ true → At stage ext waiting read out known → At Haggling ext waiting read out (record known { greeted = true })
  flags_live stage ext all waiting read out known open_ w (inl over) = absurd (dead_open known over open_)
  flags_live stage ext all waiting read out known open_ w (inr s) = inr (record {
    rest = s.rest;
    awaits = record {
      open_ = s.awaits.open_;
      fair = s.awaits.fair;
      flags = s.awaits.flags;
      expects = s.awaits.expects;
      agrees = subst (λ (p : Phase). Agrees Haggling ext (is_by_name known.wishes) (extended (steps known.heard.turns)) p s.rest) (sym opt) (subst (λ (b : Bool). IsBetween Haggling b) (sym (unanswered_none known w)) (inr refl), was.1);
      knew = s.awaits.knew;
      goes = s.awaits.goes;
    };
    left = s.left;
    part = s.part;
  })
    where
      opt : phase known.heard.turns ≡ phase.OptMode
      opt = waiting_opt start.name (length start.bytes) all link known w

      was : IsBetween stage (is_by_name known.wishes) × (ext ≡ extended (steps known.heard.turns))
      was = subst (λ (p : Phase). Agrees stage ext (is_by_name known.wishes) (extended (steps known.heard.turns)) p s.rest) opt s.awaits.agrees

  -- A thing that both hear, by which the session isn't at its end.
  enters_lives : (all was : List Step) (offers : Offers) (read : List ℕ) (state : State) (known : Link) (one : Said) → Steps start link was all state.export → (is_greeted state.stage ≡ true → state.no_zeroes ≡ true) → MaySay known one → After one (is_greeted state.stage) →
      FitsHeard (held.is_extended state.agreed.replies) (as_heard one) → At state.stage (held.is_extended state.agreed.replies) state.waiting read state.out known → is_closed (entering offers (as_heard one) state).stage ≡ false →
      At (entering offers (as_heard one) state).stage (held.is_extended (entering offers (as_heard one) state).agreed.replies) (entering offers (as_heard one) state).waiting read (entering offers (as_heard one) state).out (said one known)
  enters_lives all was offers read state known (Flags flags) steps zeroes may first small at goes = flags_live state.stage (held.is_extended state.agreed.replies) all state.waiting read state.out known may.0 may.1 at
  enters_lives all was offers read state known (Wishes wish) steps zeroes may first small at goes = wish_lives all was offers read state known wish steps (zeroes first) may small at goes
  enters_lives all was offers read state known (Orders order) steps zeroes may first small at goes = go (kind_of order.type) refl may.2
    where
      go : (k : Option Kind) → kind_of order.type ≡ k → IsNext k order known →
          At (entering offers (asks_of order.type order.flags order.cookie order.offset order.length order.payload) state).stage (held.is_extended (entering offers (asks_of order.type order.flags order.cookie order.offset order.length order.payload) state).agreed.replies) (entering offers (asks_of order.type order.flags order.cookie order.offset order.length order.payload) state).waiting read (entering offers (asks_of order.type order.flags order.cookie order.offset order.length order.payload) state).out (said (Orders order) known)
      go None e next_ =
          absurd (let over : true ≡ is_closed (entering offers (asks_of order.type order.flags order.cookie order.offset order.length order.payload) state).stage = ap (λ (b : Bool). is_closed (entering offers (if b then server.Disconnect else server.Asks (record { kind = kind_of order.type; flags = order.flags; cookie = order.cookie; offset = order.offset; length = order.length }) order.payload) state).stage) (sym (eq-eqb order.type 2 next_)) in
          let bad : true ≡ false = over ∙ goes in cc)
      go (Some k) e next_ =
          let two = not_two start servable truly offers link read order.type k e in
          subst (λ (b : Bool). At (entering offers (if b then server.Disconnect else server.Asks (record { kind = kind_of order.type; flags = order.flags; cookie = order.cookie; offset = order.offset; length = order.length }) order.payload) state).stage (held.is_extended (entering offers (if b then server.Disconnect else server.Asks (record { kind = kind_of order.type; flags = order.flags; cookie = order.cookie; offset = order.offset; length = order.length }) order.payload) state).agreed.replies) (entering offers (if b then server.Disconnect else server.Asks (record { kind = kind_of order.type; flags = order.flags; cookie = order.cookie; offset = order.offset; length = order.length }) order.payload) state).waiting read
          (entering offers (if b then server.Disconnect else server.Asks (record { kind = kind_of order.type; flags = order.flags; cookie = order.cookie; offset = order.offset; length = order.length }) order.payload) state).out (said (Orders order) known)) (sym two)
          (subst (λ (x : Link). At state.stage (held.is_extended state.agreed.replies) (state.waiting ++ record { kind = kind_of order.type; flags = order.flags; cookie = order.cookie; offset = order.offset; length = order.length } ∷ []) read state.out x)
          (sym (ap (λ (o : Option Kind). ordered o order known) e ∙ ap (λ (b : Bool). if b then issued k order known else record known { strayed = true }) (eq-eqb order.cookie (next known) next_)))
          (order_lives state.stage (held.is_extended state.agreed.replies) state.waiting read state.out known order k (record { kind = kind_of order.type; flags = order.flags; cookie = order.cookie; offset = order.offset; length = order.length }) may.0 may.1 next_ at))
  enters_lives all was offers read state known Stray steps zeroes may first small at goes = absurd may

  -- While the session isn't at its end, nothing that was asked is lost.
  abbrev pub Lives : (read : List ℕ) → Held State → Held Link → Type 0
  Lives read s c = is_closed s.known.stage ≡ false → At s.known.stage (held.is_extended s.known.agreed.replies) s.known.waiting read s.known.out c.known

  closed_not : (b : Bool) → b ≡ true → b ≡ false → ⊥
  closed_not b e n = let bad : true ≡ false = sym e ∙ n in cc

  -- One byte on both sides.
  open_lives : (all was : List Step) (offers : Offers) (read : List ℕ) (s : Held State) (c : Held Link) (now : List ℕ) (v : Option Said) (w : Option Heard) → Steps start link was all s.known.export → IsBytes now → is_closed s.known.stage ≡ false → (is_greeted s.known.stage ≡ true → s.known.no_zeroes ≡ true) →
      client.says false (is_greeted s.known.stage) (is_extended c.known) now ≡ v → says s.known.stage (held.is_extended s.known.agreed.replies) now ≡ w → AllMaySay c.known (things (shown_by now v)) → At s.known.stage (held.is_extended s.known.agreed.replies) s.known.waiting read s.known.out c.known →
      Lives read (settle (rules offers) s.known now w) (settle links.client c.known now v)
  open_lives all was offers read s c now v None steps are open_ zeroes read_ hears may at goes = go v
      (sym (ap (option_map said_of) hears) ∙ said_as_read s.known.stage (held.is_extended s.known.agreed.replies) (is_extended c.known) now are open_ (λ e. let bad : None ≡ Some stray = sym hears ∙ e in cc) (λ e. may_straight start servable truly offers link read c.known v now may (sym read_ ∙ e)) ∙ ap (option_map as_heard) read_)
    where
      go : (x : Option Said) → None ≡ option_map as_heard x → At s.known.stage (held.is_extended s.known.agreed.replies) s.known.waiting read s.known.out (settle links.client c.known now x).known
      go None e = at
      go (Some one) e = cc
  open_lives all was offers read s c now v (Some found) steps are open_ zeroes read_ hears may at goes = go (is_stray start servable truly offers link read found.said) refl
    where
      heard_it : (x : Option Said) → client.says false (is_greeted s.known.stage) (is_extended c.known) now ≡ x → AllMaySay c.known (things (shown_by now x)) → Some found.said ≡ option_map as_heard x →
          At (entering offers found.said s.known).stage (held.is_extended (entering offers found.said s.known).agreed.replies) (entering offers found.said s.known).waiting read (entering offers found.said s.known).out (settle links.client c.known now x).known
      heard_it None e may same = cc
      heard_it (Some one) e may same =
          let is : as_heard one ≡ found.said = (let h : Some found.said ≡ Some (as_heard one) = same in cc) in
          subst (λ (x : server.Said). At (entering offers x s.known).stage (held.is_extended (entering offers x s.known).agreed.replies) (entering offers x s.known).waiting read (entering offers x s.known).out (said one c.known)) is
          (enters_lives all was offers read s.known c.known one steps zeroes may.0 (read_after (is_greeted s.known.stage) (is_extended c.known) now one e)
          (subst (λ (x : server.Said). FitsHeard (held.is_extended s.known.agreed.replies) x) (sym is) (heard_small s.known.stage (held.is_extended s.known.agreed.replies) now are found hears)) at
          (ap (λ (x : server.Said). is_closed (entering offers x s.known).stage) is ∙ goes))

      go : (b : Bool) → is_stray start servable truly offers link read found.said ≡ b → At (entering offers found.said s.known).stage (held.is_extended (entering offers found.said s.known).agreed.replies) (entering offers found.said s.known).waiting read (entering offers found.said s.known).out (settle links.client c.known now v).known
      go true e = absurd (closed_not (is_closed (entering offers found.said s.known).stage) (ap (λ (x : server.Said). is_closed (entering offers x s.known).stage) (stray_is start servable truly offers link read found.said e)) goes)
      go false e = heard_it v read_ may
          (sym (ap (option_map said_of) hears) ∙ said_as_read s.known.stage (held.is_extended s.known.agreed.replies) (is_extended c.known) now are open_
          (λ x. let bad : Some found ≡ Some stray = sym hears ∙ x in let same : found.said ≡ server.Stray = ap (λ (h : Heard). h.said) (some_heard found stray bad) in let nay : true ≡ false = sym (ap (is_stray start servable truly offers link read) same) ∙ e in cc)
          (λ x. may_straight start servable truly offers link read c.known v now may (sym read_ ∙ x)) ∙ ap (option_map as_heard) read_)

  pub byte_lives : (was : List Step) (offers : Offers) (read : List ℕ) (s : Held State) (c : Held Link) (byte : ℕ) → byte < 256 → During start servable truly offers link read was s c →
      AllMaySay c.known (things (shown_by (c.pending ++ byte ∷ []) (links.client.shows c.known (c.pending ++ byte ∷ [])))) → Lives read s c → Lives read (take_byte (rules offers) s byte) (take_byte links.client c byte)
  byte_lives was offers read s c byte small d may lives = go d.tie.opened
    where
      reads_as : c.known.greeted ≡ is_greeted s.known.stage → client.says false (is_greeted s.known.stage) (is_extended c.known) (c.pending ++ byte ∷ []) ≡ links.client.shows c.known (c.pending ++ byte ∷ [])
      reads_as g = ap (λ (b : Bool). client.says false b (is_extended c.known) (c.pending ++ byte ∷ [])) (sym g) ∙ ap (λ (b : Bool). client.says b c.known.greeted (is_extended c.known) (c.pending ++ byte ∷ [])) (sym d.tie.straight)

      go : Opened s.known.stage s.known.no_zeroes s.pending c.pending c.known.greeted → Lives read (take_byte (rules offers) s byte) (take_byte links.client c byte)
      go (inl closed) =
          subst (λ (w : Option Heard). Lives read (settle (rules offers) s.known (s.pending ++ byte ∷ []) w) (take_byte links.client c byte)) (sym (each_last start servable truly offers link read s.pending byte s.known.stage (held.is_extended s.known.agreed.replies) closed))
          (λ goes. absurd (closed_not (is_closed s.known.stage) closed goes))
      go (inr (open_, same, greeted, zeroes)) =
          subst (λ (bs : List ℕ). Lives read (settle (rules offers) s.known (bs ++ byte ∷ []) (says s.known.stage (held.is_extended s.known.agreed.replies) (bs ++ byte ∷ []))) (take_byte links.client c byte)) (sym same)
          (open_lives d.all was offers read s c (c.pending ++ byte ∷ []) (links.client.shows c.known (c.pending ++ byte ∷ [])) (says s.known.stage (held.is_extended s.known.agreed.replies) (c.pending ++ byte ∷ [])) d.steps
          (push_bytes c.pending byte d.tie.bytes small) open_ zeroes (reads_as greeted) refl may (lives open_))

  all_live : (was : List Step) (offers : Offers) (read bytes : List ℕ) (s : Held State) (c : Held Link) → IsBytes bytes → During start servable truly offers link read was s c → AllMaySay c.known (things (trace links.client c bytes)) → Lives read s c →
      Lives read (feed (rules offers) s bytes) (feed links.client c bytes)
  all_live was offers read [] s c are d may lives = lives
  all_live was offers read (byte ∷ bytes) s c are d may lives =
      let f = first_byte byte bytes are in
      let m = may_both c.known (c.pending ++ byte ∷ []) (links.client.shows c.known (c.pending ++ byte ∷ [])) (trace links.client (take_byte links.client c byte) bytes) may in
      all_live was offers read bytes (take_byte (rules offers) s byte) (take_byte links.client c byte) f.1
      (byte_step start servable truly offers link read was s c byte f.0 d m.0) m.1 (byte_lives was offers read s c byte f.0 d m.0 lives)

  -- past the limit of a client's bytes a session is at its end
  limit_closed : (s : Held State) → is_closed (past_limit s).known.stage ≡ true
  limit_closed s = go (is_closed s.known.stage) refl
    where
      go : (b : Bool) → is_closed s.known.stage ≡ b → is_closed (if b then s else record { known = record s.known { stage = Strayed }; pending = [] }).known.stage ≡ true
      go true e = e
      go false e = refl

  -- how a session and what is known of its link stand, while the session isn't at its end
  abbrev pub Goes : Dialogue → Both → Type 0
  Goes dialogue both = is_closed dialogue.stage ≡ false → IsAt (length start.bytes) dialogue.waiting dialogue.stage (held.is_extended dialogue.agreed.replies) both.read dialogue.out both.link

  -- The client's bytes are taken.
  pub write_goes : (was : List Step) (offers : Offers) (came : ℕ) (before : Dialogue) (held_ : Export) (bytes : List ℕ) (after_ : Dialogue) (export : Export) (both : Both) → held_ ≡ after start was → AllRight start was → TieBoth start link was before both → IsBytes bytes →
      AllMaySay both.link (things (trace links.client (side start link both) bytes)) → after_bytes offers came bytes (with_export before held_) ≡ with_export after_ export → Goes before both → Goes after_ (after_write bytes both)
  write_goes was offers came before held_ bytes after_ export both is right t are may fed goes = go (nat_le (came + length bytes) max_client) fed
    where
      begun : During start servable truly offers link both.read was (with_export before held_) (side start link both)
      begun = record { all = was; steps = record { is = is; right = right; fwd = λ step h. h; back = λ other taken apart h. h }; tie = retie start.name (length start.bytes) was link both.read before start held_ (side start link both) t }

      finished : (s : Held State) → Lives both.read s (feed links.client (side start link both) bytes) → s ≡ with_export after_ export → Goes after_ (after_write bytes both)
      finished s lives e open_ =
          let now : IsAt (length start.bytes) after_.waiting after_.stage (held.is_extended after_.agreed.replies) both.read after_.out (feed links.client (side start link both) bytes).known =
          subst (λ (x : Held State). Lives both.read x (feed links.client (side start link both) bytes)) e lives open_ in
          heard_at (length start.bytes) after_.waiting after_.stage (held.is_extended after_.agreed.replies) (feed links.client (side start link both) bytes).known [] both.read after_.out
          (again_at (length start.bytes) after_.waiting after_.stage (held.is_extended after_.agreed.replies) both.read after_.out (feed links.client (side start link both) bytes).known now)

      go : (b : Bool) → (if b then feed (rules offers) (with_export before held_) bytes else past_limit (feed (rules offers) (with_export before held_) (take (max_client - came) bytes))) ≡ with_export after_ export → Goes after_ (after_write bytes both)
      go true e = finished (feed (rules offers) (with_export before held_) bytes) (all_live was offers both.read bytes (with_export before held_) (side start link both) are begun may goes) e
      go false e = finished (past_limit (feed (rules offers) (with_export before held_) (take (max_client - came) bytes)))
          (λ open_. absurd (closed_not (is_closed (past_limit (feed (rules offers) (with_export before held_) (take (max_client - came) bytes))).known.stage) (limit_closed (feed (rules offers) (with_export before held_) (take (max_client - came) bytes))) open_)) e

  -- A reply is made.
  pub reply_goes : (all : List Step) (before : Dialogue) (pick : ℕ) (export : Export) (after_ : Dialogue) (both : Both) → pick < length before.waiting → MakesReply before pick export after_ → TieBoth start link all before both → Goes before both → Goes after_ both
  reply_goes all before pick export after_ both less m t goes = subst (λ (d : Dialogue). Goes d both) (sym m.is) (λ open_. go (goes open_))
    where
      w : OneWaits all link before.agreed m.request
      w = picked_waits start.name (length start.bytes) link all before.agreed before.waiting pick m.request less m.picked t.waits

      at : phase both.link.heard.turns ≡ phase.Ready
      at = elim t.ready [
        | inl none ↦ (let n : length before.waiting ≡ 0 = ap length none in absurd (omega (arith, less, n)))
        | inr ready ↦ ready
      ]

      made : IsFor both.link.requests before.agreed.replies m.request (held.reply before.agreed export m.request)
      made =
          let f = made_fits before.agreed export m.request w.kind w.read_ w.kind_ in
          let k = t.knows (record { agreed = before.agreed; request = m.request; payload = w.payload }) w.kind w.took w.kind_ in
          record { asks_ = k.0; asked_ = k.1; kind = k.2.kind; offset = k.2.offset; length_ = k.2.length_; fits = f.0; wire = f.1 }

      go : IsAt (length start.bytes) before.waiting before.stage (held.is_extended before.agreed.replies) both.read before.out both.link →
          IsAt (length start.bytes) (remove before.waiting pick) before.stage (held.is_extended before.agreed.replies) both.read (before.out ++ encode (Replies_to before.agreed.replies m.request (held.reply before.agreed export m.request))) both.link
      go (inl over) = inl over
      go (inr s) = inr (record {
        rest = s.rest ++ Replies_to before.agreed.replies m.request (held.reply before.agreed export m.request) ∷ [];
        awaits = record {
          open_ = s.awaits.open_;
          fair = s.awaits.fair;
          flags = s.awaits.flags;
          expects = subst (λ (p : Phase). Expects (length start.bytes) (remove before.waiting pick) (is_by_name both.link.wishes) both.link.requests both.link.heard.entries p (s.rest ++ Replies_to before.agreed.replies m.request (held.reply before.agreed export m.request) ∷ [])) (sym at)
              (for_more both.link.requests s.rest before.agreed.replies m.request (held.reply before.agreed export m.request) was.0 made, owes);
          agrees = subst (λ (p : Phase). Agrees before.stage (held.is_extended before.agreed.replies) (is_by_name both.link.wishes) (extended (steps both.link.heard.turns)) p (s.rest ++ Replies_to before.agreed.replies m.request (held.reply before.agreed export m.request) ∷ [])) (sym at)
              (subst (λ (p : Phase). Agrees before.stage (held.is_extended before.agreed.replies) (is_by_name both.link.wishes) (extended (steps both.link.heard.turns)) p s.rest) at s.awaits.agrees);
          knew = s.awaits.knew;
          goes = subst (λ (p : Phase). IsGoing p (s.rest ++ Replies_to before.agreed.replies m.request (held.reply before.agreed export m.request) ∷ [])) (sym at) tt;
        };
        left = sym (append_assoc both.read before.out (encode (Replies_to before.agreed.replies m.request (held.reply before.agreed export m.request)))) ∙ ap (λ (xs : List ℕ). xs ++ encode (Replies_to before.agreed.replies m.request (held.reply before.agreed export m.request))) s.left
            ∙ sym (flat_more start.name (length start.bytes) link s.rest (Replies_to before.agreed.replies m.request (held.reply before.agreed export m.request)));
        part = part_more start.name (length start.bytes) link both.read s.rest (Replies_to before.agreed.replies m.request (held.reply before.agreed export m.request)) s.part;
      })
        where
          was : AreFor both.link.requests s.rest × Owes before.waiting both.link.requests both.link.heard.entries s.rest
          was = subst (λ (p : Phase). Expects (length start.bytes) before.waiting (is_by_name both.link.wishes) both.link.requests both.link.heard.entries p s.rest) at s.awaits.expects

          owes : Owes (remove before.waiting pick) both.link.requests both.link.heard.entries (s.rest ++ Replies_to before.agreed.replies m.request (held.reply before.agreed export m.request) ∷ [])
          owes c q e open_ = by_less (was.1 c q e open_)
            where
              by_less : IsPending c before.waiting ⊎ IsComing c s.rest → IsPending c (remove before.waiting pick) ⊎ IsComing c (s.rest ++ Replies_to before.agreed.replies m.request (held.reply before.agreed export m.request) ∷ [])
              by_less (inr coming) = inr (coming_more c s.rest (Replies_to before.agreed.replies m.request (held.reply before.agreed export m.request)) coming)
              by_less (inl pending) = elim (pending_less c before.waiting pick m.request m.picked pending) [
                | inl still ↦ inl still
                | inr same ↦ inr (coming_last c s.rest before.agreed.replies m.request (held.reply before.agreed export m.request) same)
              ]
