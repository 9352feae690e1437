-- A client's bytes on both sides: what a session does by them, and what a transcript reads of them.
use Rattle.std.proofs.Common.{◌≡◌, ◌≢◌, ℕ, zero, suc, ◌^◌, ◌<◌, ◌≤◌, ◌⊎◌, inl, inr, Bool, true, false, List, [], ◌∷◌, ◌++◌, length, Option, Some, None, ◌==◌, refl, ap, sym, subst, ◌∙◌, arith, if◌then◌else◌}
use Rattle.std.specs.List.{flat_map}
use Rattle.std.specs.Option.{option_map}
use Rattle.std.proofs.lemmas.Bool.{cases_eq, eq-eqb, ne_eqb}
use Rattle.lnbd_model.specs.declared.kind.Kind.{Kind}
use Rattle.lnbd_model.specs.declared.kind.Kind.TheVariants as kind
use Rattle.lnbd_records.specs.Flags.{flag_no_zeroes}
use Rattle.lnbd_records.specs.Numbers.{IsBytes, has_bit}
use Rattle.lnbd_stream.specs.Stream.{Held, settle, take_byte, feed, things, trace, shown_by}
use Rattle.lnbd_stream.specs.Grammar.{each_byte}
use Rattle.lnbd_stream.specs.Laws.{IsPart}
use Rattle.lnbd_history.specs.declared.kinds.Phase.TheVariants as phase
use Rattle.lnbd_history.specs.declared.kinds.Stage.TheVariants.{Open, Dead}
use Rattle.lnbd_history.specs.Agreement.{phase}
use Rattle.lnbd_history.specs.Commands.{Command}
use Rattle.lnbd_asked.specs.Client.{Flags, Wishes, Orders, Stray, Wish, Order}
use Rattle.lnbd_asked.specs.Client as client
use Rattle.lnbd_asked.specs.Link.{Nobody, Link, said, wished, ordered, issued, kind_of, command_of, flags_asked, is_extended, next}
use Rattle.lnbd_asked.specs.Link as links
use Rattle.lnbd_asked.specs.Laws.{is_waiting}
use Rattle.lnbd_asked.specs.Transcript.{asked_on}
use Rattle.lnbd_export.specs.Export.{Export, TellsTruly}
use Rattle.lnbd_export.specs.Requests.{effect}
use Rattle.lnbd_export.specs.Requests as held
use Rattle.lnbd_export.specs.declared.request.Agreed.{Agreed}
use Rattle.lnbd_export.specs.declared.request.Request.{Request}
use Rattle.lnbd_server.specs.declared.stage.Offers.{Offers}
use Rattle.lnbd_server.specs.declared.stage.Stage.{Stage}
use Rattle.lnbd_server.specs.declared.stage.Stage.TheVariants.{Greeting, Haggling, Serving, Ended, Strayed}
use Rattle.lnbd_server.specs.Client.{Heard, stray, says, asks_of}
use Rattle.lnbd_server.specs.Client as server
use Rattle.lnbd_server.specs.Options.{option_answer}
use Rattle.lnbd_server.specs.Session.{State, rules, entering, answering, asking, is_closed}
use Rattle.lnbd_served.specs.Grammars.{is_greeted, as_heard}
use Rattle.lnbd_spoken.specs.Speaking.{IsNext, MaySay, AllMaySay}
use Rattle.lnbd_served.specs.Steps.{Taken, Step, Took, Gave, Has, after, AllRight}
use Rattle.lnbd_served.specs.Follows.{IsSame}
use Rattle.lnbd_served.proofs.Effects.{effect_alike}
use Rattle.lnbd_served.proofs.Sized.{IsSized, says_sized}
use Rattle.lnbd_served.proofs.Small.{FitsHeard, heard_small, After, read_after}
use Rattle.lnbd_served.proofs.Telling.{said_of, said_as_read}
use Rattle.lnbd_history.specs.Entries.{Item, Framed, Lost, Dropped}
use Rattle.lnbd_history.specs.declared.kinds.Phase.{Phase}
use Rattle.lnbd_served.proofs.Items.{Said, Greets, Answers, Names, Replies_to, encode, IsTrue, AreFiled, AreMade, Knows, IsSound, Expects, Awaits, IsOver}
use Rattle.lnbd_served.proofs.Saying.{issued_awaits, issued_sound, issued_knows, greeted_awaits, greeted_sound, waiting_opt, waiting_none, wished_awaits, AnswersWish, unanswered, asked_new}
use Rattle.lnbd_served.proofs.Making.{IsRead}
use Rattle.lnbd_served.proofs.Linking.{full_said}
use Rattle.lnbd_served.proofs.Haggling.{Answered, answered}
use Rattle.lnbd_served.specs.Served.{IsServable}

abbrev step_link : Step → ℕ
step_link (Took l t) = l
step_link (Gave l c r) = l

abbrev step_taken : Taken → Step → Taken
step_taken other (Took l t) = t
step_taken other (Gave l c r) = other

-- More steps.

module _ (name : List ℕ) (size : ℕ) (all more : List Step) (link : ℕ) (fwd : (step : Step) → Has step all → Has step more) where
  more_true : (cookie offset : ℕ) (item : Item) → IsTrue all link cookie offset item → IsTrue more link cookie offset item
  more_true cookie offset (Framed content last) t = (t.0, t.1, fwd (Gave link cookie t.1) t.2, t.3)
  more_true cookie offset Lost t = tt
  more_true cookie offset Dropped t = tt

  more_filed : (known : Link) → AreFiled all link known → AreFiled more link known
  more_filed known filed c = elim (filed c) [
    | inl n ↦ inl n
    | inr o ↦ inr (record { filing = o.filing; only = o.only; request_ = o.request_; ended = o.ended; true_ = more_true c o.filing.request.offset o.filing.item o.true_ })
  ]

  pub more_sound : (known : Link) → IsSound name size all link known → IsSound name size more link known
  more_sound known sound = record { fair = sound.fair; filed = more_filed known sound.filed; named = sound.named }

  pub more_made : (rest : List Said) → AreMade all link rest → AreMade more link rest
  more_made [] m = tt
  more_made (Replies_to replies request given ∷ rest) m = (
    record {
      gave = fwd (Gave link request.cookie given) m.0.gave;
      taken = m.0.taken;
      took = fwd (Took link m.0.taken) m.0.took;
      is = m.0.is;
      kind = m.0.kind;
      kind_ = m.0.kind_;
      fits = m.0.fits;
      wire = m.0.wire;
    },
    more_made rest m.1,
  )
  more_made (Greets ∷ rest) m = m
  more_made (Answers option reply ∷ rest) m = m
  more_made (Names n flags ∷ rest) m = m

  more_expects : (known : Link) (p : Phase) (rest : List Said) → Expects name size all link known p rest → Expects name size more link known p rest
  more_expects known phase.Greeting rest e = e
  more_expects known (phase.Asked option) rest e = e
  more_expects known phase.AskedByName rest e = e
  more_expects known phase.OptMode rest e = e
  more_expects known phase.Ready rest e = more_made rest e
  more_expects known (phase.Refused code) rest e = e

  pub more_awaits : (known : Link) (rest : List Said) → Knows more link known → Awaits name size all link known rest → Awaits name size more link known rest
  more_awaits known rest knows a = record { open_ = a.open_; sound = more_sound known a.sound; flags = a.flags; knows = knows; expects = more_expects known (phase known.heard.turns) rest a.expects }

-- a request that waits was taken with what is agreed now
pub record OneWaits (all : List Step) (link : ℕ) (agreed : Agreed) (request : Request) : Type 0 where
  pub payload : List ℕ
  pub took : Has (Took link (record { agreed = agreed; request = request; payload = payload })) all
  pub kind : Kind
  pub kind_ : request.kind ≡ Some kind
  pub read_ : IsRead agreed.replies request

abbrev pub AllWait : List Step → (link : ℕ) → Agreed → List Request → Type 0
AllWait all link agreed [] = Unit {0}
AllWait all link agreed (request ∷ requests) = OneWaits all link agreed request × AllWait all link agreed requests

pub more_wait : (all more : List Step) (link : ℕ) (agreed : Agreed) (requests : List Request) → ((step : Step) → Has step all → Has step more) → AllWait all link agreed requests → AllWait more link agreed requests
more_wait all more link agreed [] fwd w = tt
more_wait all more link agreed (request ∷ requests) fwd w =
    (record { payload = w.0.payload; took = fwd (Took link (record { agreed = agreed; request = request; payload = w.0.payload })) w.0.took; kind = w.0.kind; kind_ = w.0.kind_; read_ = w.0.read_ }, more_wait all more link agreed requests fwd w.1)

pub wait_push : (all : List Step) (link : ℕ) (agreed : Agreed) (requests : List Request) (request : Request) → AllWait all link agreed requests → OneWaits all link agreed request → AllWait all link agreed (requests ++ request ∷ [])
wait_push all link agreed [] request w one = (one, tt)
wait_push all link agreed (first ∷ requests) request w one = (w.0, wait_push all link agreed requests request w.1 one)

-- what may be said first, and what after it
pub may_both : (known : Link) (now : List ℕ) (v : Option client.Said) (more : List (List ℕ × client.Said)) → AllMaySay known (things (shown_by now v ++ more)) →
    AllMaySay known (things (shown_by now v)) × AllMaySay (settle links.client known now v).known (things more)
may_both known now None more may = (tt, may)
may_both known now (Some one) more may = ((may.0, tt), may.1)

pub may_join : (known : Link) (now : List ℕ) (v : Option client.Said) (more : List (List ℕ × client.Said)) → AllMaySay known (things (shown_by now v)) → AllMaySay (settle links.client known now v).known (things more) → AllMaySay known (things (shown_by now v ++ more))
may_join known now None more first rest = rest
may_join known now (Some one) more first rest = (first.0, rest)

pub first_byte : (byte : ℕ) (bytes : List ℕ) → IsBytes (byte ∷ bytes) → (byte < 256) × IsBytes bytes
first_byte byte bytes are = (are 0, λ i. are (suc i))

pub some_heard : (one other : Heard) → Some one ≡ Some other → one ≡ other
some_heard one other e = cc

-- the bytes that wait to be read are those of the things to come
pub record Stands (name : List ℕ) (size : ℕ) (all : List Step) (link : ℕ) (read out : List ℕ) (known : Link) : Type 0 where
  pub rest : List Said
  pub awaits : Awaits name size all link known rest
  pub left : read ++ out ≡ flat_map encode rest
  pub part : IsPart encode read rest

abbrev pub Opened : Stage → Bool → List ℕ → List ℕ → Bool → Type 0
Opened stage no_zeroes heard written greeted =
    (is_closed stage ≡ true) ⊎ ((is_closed stage ≡ false) × (heard ≡ written) × (greeted ≡ is_greeted stage) × (is_greeted stage ≡ true → no_zeroes ≡ true))

-- how a session and what a transcript knows of its link stand
pub record Tie (name : List ℕ) (size : ℕ) (all : List Step) (link : ℕ) (read : List ℕ) (s : Held State) (c : Held Link) : Type 0 where
  pub opened : Opened s.known.stage s.known.no_zeroes s.pending c.pending c.known.greeted
  pub bytes : IsBytes c.pending
  pub straight : c.known.strayed ≡ false
  pub knows : Knows all link c.known
  pub waits : AllWait all link s.known.agreed s.known.waiting
  pub ready : (s.known.waiting ≡ []) ⊎ (phase c.known.heard.turns ≡ phase.Ready)
  pub begun : (taken : Taken) → Has (Took link taken) all → phase c.known.heard.turns ≡ phase.Ready
  pub stands : IsOver name size all link c.known ⊎ Stands name size all link read s.known.out c.known

-- the steps so far, of which those of other links were there before
pub record Steps (start : Export) (link : ℕ) (was all : List Step) (export : Export) : Type 0 where
  pub is : export ≡ after start all
  pub right : AllRight start all
  pub fwd : (step : Step) → Has step was → Has step all
  pub back : (other : ℕ) (taken : Taken) → (other ≡ link → ⊥) → Has (Took other taken) all → Has (Took other taken) was

-- The export keeps its texts and its size.
abbrev pub SameFace : Export → Export → Type 0
SameFace one other = (length one.bytes ≡ length other.bytes) × (one.read_only ≡ other.read_only) × (one.name ≡ other.name) × (one.description ≡ other.description)

pub same_face : (start : Export) (all : List Step) → AllRight start all → SameFace (after start all) start
same_face start [] right = (refl, refl, refl, refl)
same_face start (Took l t ∷ all) right =
    let e = effect_alike t.agreed t.request t.payload (after start all) right.0 in
    let a = same_face start all right.1 in
    (e.0 ∙ a.0, e.1 ∙ a.1, e.2 ∙ a.2, e.3 ∙ a.3)
same_face start (Gave l c r ∷ all) right = same_face start all right.1

pub same_servable : (one other : Export) → SameFace one other → IsServable other → IsServable one
same_servable one other f s = record {
  size = subst (λ (n : ℕ). n < 2 ^ 63) (sym f.0) s.size;
  name = subst (λ (xs : List ℕ). length xs ≤ 4096) (sym f.2) s.name;
  description = subst (λ (xs : List ℕ). length xs ≤ 4096) (sym f.3) s.description;
}

pub nothing_both : (one other : List ℕ) → one ++ other ≡ [] → (one ≡ []) × (other ≡ [])
nothing_both [] other e = (refl, e)
nothing_both (x ∷ one) other e = cc

none_part : (rest : List Said) (read : List ℕ) → rest ≡ [] → IsPart encode read rest → read ≡ []
none_part rest read none part = subst (λ (xs : List Said). IsPart encode read xs) none part

pub push_bytes : (bytes : List ℕ) (byte : ℕ) → IsBytes bytes → byte < 256 → IsBytes (bytes ++ byte ∷ [])
push_bytes [] byte are small zero = small
push_bytes [] byte are small (suc i) = are i
push_bytes (x ∷ bytes) byte are small zero = are 0
push_bytes (x ∷ bytes) byte are small (suc i) = push_bytes bytes byte (λ k. are (suc k)) small i

pub no_bytes : IsBytes []
no_bytes zero = omega arith
no_bytes (suc i) = omega arith

module _ (start : Export) (servable : IsServable start) (truly : TellsTruly start) (offers : Offers) (link : ℕ) (read : List ℕ) where
  abbrev TieOf : List Step → Held State → Held Link → Type 0
  TieOf all s c = Tie start.name (length start.bytes) all link read s c

  abbrev IsAt : List Step → List ℕ → Link → Type 0
  IsAt all out known = IsOver start.name (length start.bytes) all link known ⊎ Stands start.name (length start.bytes) all link read out known

  dead_open : (all : List Step) (known : Link) → IsOver start.name (length start.bytes) all link known → known.heard.stage ≡ Open → ⊥
  dead_open all known over open_ = let bad : Open ≡ Dead over.0.0 = sym open_ ∙ over.0.1 in cc

  -- what a thing that may be said leaves of what is known, where the session does nothing for it
  record Quiet (all : List Step) (waiting : List Request) (out : List ℕ) (known : Link) : Type 0 where
    straight : known.strayed ≡ false
    knows : Knows all link known
    ready : (waiting ≡ []) ⊎ (phase known.heard.turns ≡ phase.Ready)
    begun : (taken : Taken) → Has (Took link taken) all → phase known.heard.turns ≡ phase.Ready
    stands : IsAt all out known

  opt_ready : (known : Link) (waiting : List Request) → is_waiting known ≡ true → ((waiting ≡ []) ⊎ (phase known.heard.turns ≡ phase.Ready)) → waiting ≡ []
  opt_ready known waiting w (inl none) = none
  opt_ready known waiting w (inr at) = let bad : phase.OptMode ≡ phase.Ready = sym (waiting_opt start.name (length start.bytes) [] link known w) ∙ at in cc

  order_is : (all : List Step) (known : Link) (order : Order) (k : Option Kind) → IsNext k order known → (waiting : List Request) (out : List ℕ) → phase known.heard.turns ≡ phase.Ready → Quiet all waiting out known → Quiet all waiting out (ordered k order known)
  order_is all known order None n waiting out at q = q
  order_is all known order (Some k) n waiting out at q = subst (λ (x : Link). Quiet all waiting out x)
      (sym (ap (λ (b : Bool). if b then issued k order known else record known { strayed = true }) (eq-eqb order.cookie (next known) n)))
      (record {
        straight = q.straight;
        knows = issued_knows start.name (length start.bytes) all link known (command_of (is_extended known) k order) q.knows;
        ready = inr at;
        begun = λ taken h. at;
        stands = issued_at q.stands;
      })
    where
      issued_at : IsAt all out known → IsAt all out (issued k order known)
      issued_at (inl over) = inl (over.0, issued_sound start.name (length start.bytes) all link known (command_of (is_extended known) k order) over.1)
      issued_at (inr s) = inr (record { rest = s.rest; awaits = issued_awaits start.name (length start.bytes) all link known (command_of (is_extended known) k order) s.rest s.awaits; left = s.left; part = s.part })

  quiet : (all : List Step) (waiting : List Request) (out : List ℕ) (known : Link) (one : client.Said) → MaySay known one → Quiet all waiting out known → Quiet all waiting out (said one known)
  quiet all waiting out known (Flags flags) may q = record { straight = q.straight; knows = q.knows; ready = q.ready; begun = q.begun; stands = at q.stands }
    where
      at : IsAt all out known → IsAt all out (record known { greeted = true })
      at (inl over) = inl (over.0, greeted_sound start.name (length start.bytes) all link known over.1)
      at (inr s) = inr (record { rest = s.rest; awaits = greeted_awaits start.name (length start.bytes) all link known s.rest s.awaits; left = s.left; part = s.part })
  quiet all waiting out known (Wishes wish) may q = record { straight = q.straight; knows = q.knows; ready = inl (opt_ready known waiting may.1 q.ready); begun = λ taken h. absurd (never (q.begun taken h)); stands = at q.stands }
    where
      never : phase known.heard.turns ≡ phase.Ready → ⊥
      never ready = let bad : phase.OptMode ≡ phase.Ready = sym (waiting_opt start.name (length start.bytes) all link known may.1) ∙ ready in cc

      at : IsAt all out known → IsAt all out (wished wish known)
      at (inl over) = absurd (dead_open all known over may.0)
      at (inr s) =
          let none = waiting_none start.name (length start.bytes) all link known s.rest may.1 s.awaits in
          inr (record {
            rest = [];
            awaits = wished_awaits start.name (length start.bytes) all link known wish s.rest [] may.1 s.awaits (unanswered start.name (length start.bytes) all link wish known.wishes);
            left = s.left ∙ ap (flat_map encode) none;
            part = none_part s.rest read none s.part;
          })
  quiet all waiting out known (Orders order) may q = order_is all known order (kind_of order.type) may.2 waiting out may.1 q
  quiet all waiting out known Stray may q = absurd may

  -- what a session and a link are after a thing that both hear
  record Entered (was : List Step) (state : State) (known : Link) : Type 0 where
    all : List Step
    steps : Steps start link was all state.export
    opened : Opened state.stage state.no_zeroes [] [] known.greeted
    quiet_ : Quiet all state.waiting state.out known
    waits : AllWait all link state.agreed state.waiting

  none_left : (items : List Said) → IsPart encode [] items
  none_left [] = refl
  none_left (one ∷ items) = full_said one

  -- The answer to an option goes out.
  enters_wish : (was all : List Step) (state : State) (known : Link) (wish : Wish) → Steps start link was all state.export → state.no_zeroes ≡ true → AllWait all link state.agreed state.waiting → Quiet all state.waiting state.out known →
      MaySay known (Wishes wish) → known.greeted ≡ true → wish.option < 256 ^ 4 → Entered was (answering (option_answer offers state.export state.no_zeroes state.agreed wish.option wish.body) state) (wished wish known)
  enters_wish was all state known wish steps zeroes waits q may greeted small =
      subst (λ (b : Bool). Entered was (answering (option_answer offers state.export b state.agreed wish.option wish.body) state) (wished wish known)) (sym zeroes) (go q.stands)
    where
      face : SameFace state.export start
      face = subst (λ (e : Export). SameFace e start) (sym steps.is) (same_face start all steps.right)

      none : state.waiting ≡ []
      none = opt_ready known state.waiting may.1 q.ready

      a : Answered state.export (same_servable state.export start face servable) wish.option small wish.body known.wishes (held.is_extended state.agreed.replies) (option_answer offers state.export true state.agreed wish.option wish.body)
      a = answered state.export (same_servable state.export start face servable) wish.option small wish.body known.wishes offers state.agreed

      never : phase known.heard.turns ≡ phase.Ready → ⊥
      never ready = let bad : phase.OptMode ≡ phase.Ready = sym (waiting_opt start.name (length start.bytes) all link known may.1) ∙ ready in cc

      stage_is : (stage : Stage) → is_greeted stage ≡ true → Opened stage state.no_zeroes [] [] true
      stage_is Greeting g = cc
      stage_is Haggling g = inr (refl, refl, refl, λ h. zeroes)
      stage_is Serving g = inr (refl, refl, refl, λ h. zeroes)
      stage_is Ended g = inl refl
      stage_is Strayed g = inl refl

      go : IsAt all state.out known → Entered was (answering (option_answer offers state.export true state.agreed wish.option wish.body) state) (wished wish known)
      go (inl over) = absurd (dead_open all known over may.0)
      go (inr s) =
          let nothing = waiting_none start.name (length start.bytes) all link known s.rest may.1 s.awaits in
          let both = nothing_both read state.out (s.left ∙ ap (flat_map encode) nothing) in
          let fits = subst (λ (n : ℕ). AnswersWish start.name n wish known.wishes a.items) face.0 (subst (λ (xs : List ℕ). AnswersWish xs (length state.export.bytes) wish known.wishes a.items) face.2 a.fits) in
          record {
            all = all;
            steps = steps;
            opened = subst (λ (g : Bool). Opened (option_answer offers state.export true state.agreed wish.option wish.body).stage state.no_zeroes [] [] g) (sym greeted) (stage_is (option_answer offers state.export true state.agreed wish.option wish.body).stage a.greets);
            quiet_ = record {
              straight = q.straight;
              knows = q.knows;
              ready = inl none;
              begun = λ t h. absurd (never (q.begun t h));
              stands = inr (record {
                rest = a.items;
                awaits = wished_awaits start.name (length start.bytes) all link known wish s.rest a.items may.1 s.awaits fits;
                left = ap (λ (xs : List ℕ). xs ++ (state.out ++ (option_answer offers state.export true state.agreed wish.option wish.body).bytes)) both.0 ∙ ap (λ (xs : List ℕ). xs ++ (option_answer offers state.export true state.agreed wish.option wish.body).bytes) both.1 ∙ a.spelled;
                part = subst (λ (xs : List ℕ). IsPart encode xs a.items) (sym both.0) (none_left a.items);
              });
            };
            waits = subst (λ (ws : List Request). AllWait all link (option_answer offers state.export true state.agreed wish.option wish.body).agreed ws) (sym none) tt;
          }

  pub not_two : (type : ℕ) (k : Kind) → kind_of type ≡ Some k → (type == 2) ≡ false
  not_two type k e = elim (cases_eq type 2) [
    | inl same ↦ (let bad : None ≡ Some k = sym (ap kind_of same) ∙ e in cc)
    | inr other ↦ ne_eqb type 2 other
  ]

  -- A request is taken.
  enters_order : (was all : List Step) (state : State) (known : Link) (order : Order) (k : Kind) → Steps start link was all state.export → is_closed state.stage ≡ false → known.greeted ≡ is_greeted state.stage → (is_greeted state.stage ≡ true → state.no_zeroes ≡ true) →
      AllWait all link state.agreed state.waiting → Quiet all state.waiting state.out known → known.heard.stage ≡ Open → phase known.heard.turns ≡ phase.Ready → kind_of order.type ≡ Some k → order.cookie ≡ next known →
      IsRead state.agreed.replies (record { kind = kind_of order.type; flags = order.flags; cookie = order.cookie; offset = order.offset; length = order.length }) →
      (kind_of order.type ≡ Some kind.Write → length order.payload ≡ order.length) →
      Entered was (asking (record { kind = kind_of order.type; flags = order.flags; cookie = order.cookie; offset = order.offset; length = order.length }) order.payload state) (issued k order known)
  enters_order was all state known order k steps open_ greeted zeroes waits q living at e is small sized = record {
    all = Took link taken ∷ all;
    steps = record {
      is = ap (λ (x : Export). effect state.agreed request order.payload x) steps.is;
      right = (sized, steps.right);
      fwd = λ step h. inr (steps.fwd step h);
      back = λ other t apart h. elim h [
        | inl same ↦ absurd (apart (sym (ap step_link same)))
        | inr earlier ↦ steps.back other t apart earlier
      ];
    };
    opened = inr (open_, refl, greeted, zeroes);
    quiet_ = record {
      straight = q.straight;
      knows = knows;
      ready = inr at;
      begun = λ t h. at;
      stands = at_then q.stands;
    };
    waits = wait_push (Took link taken ∷ all) link state.agreed state.waiting request (more_wait all (Took link taken ∷ all) link state.agreed state.waiting (λ step h. inr h) waits)
        (record { payload = order.payload; took = inl refl; kind = k; kind_ = e; read_ = small });
  }
    where
      request : Request
      request = record { kind = kind_of order.type; flags = order.flags; cookie = order.cookie; offset = order.offset; length = order.length }

      taken : Taken
      taken = record { agreed = state.agreed; request = record { kind = kind_of order.type; flags = order.flags; cookie = order.cookie; offset = order.offset; length = order.length }; payload = order.payload }

      command : Command Nobody
      command = command_of (is_extended known) k order

      knows : Knows (Took link (record { agreed = state.agreed; request = record { kind = kind_of order.type; flags = order.flags; cookie = order.cookie; offset = order.offset; length = order.length }; payload = order.payload }) ∷ all) link (issued k order known)
      knows t kind (inr h) w = issued_knows start.name (length start.bytes) all link known (command_of (is_extended known) k order) q.knows t kind h w
      knows t kind (inl same) w =
          let is_t : record { agreed = state.agreed; request = record { kind = kind_of order.type; flags = order.flags; cookie = order.cookie; offset = order.offset; length = order.length }; payload = order.payload } ≡ t = ap (step_taken t) same in
          subst (λ (x : Taken). (asks : Command Nobody) × (asked_on (issued k order known) x.request.cookie ≡ Some asks) × IsSame x asks) is_t
          (command_of (is_extended known) k order, ap (asked_on (issued k order known)) is ∙ asked_new known (command_of (is_extended known) k order), record { kind = e; offset = refl; length_ = refl; payload = refl })

      at_then : IsAt all state.out known → IsAt (Took link (record { agreed = state.agreed; request = record { kind = kind_of order.type; flags = order.flags; cookie = order.cookie; offset = order.offset; length = order.length }; payload = order.payload }) ∷ all) state.out (issued k order known)
      at_then (inl over) = absurd (dead_open all known over living)
      at_then (inr s) = inr (record {
        rest = s.rest;
        awaits = more_awaits start.name (length start.bytes) all (Took link (record { agreed = state.agreed; request = record { kind = kind_of order.type; flags = order.flags; cookie = order.cookie; offset = order.offset; length = order.length }; payload = order.payload }) ∷ all) link (λ step h. inr h) (issued k order known) s.rest knows
            (issued_awaits start.name (length start.bytes) all link known (command_of (is_extended known) k order) s.rest s.awaits);
        left = s.left;
        part = s.part;
      })

  -- A thing that both hear.
  enters : (was all : List Step) (state : State) (known : Link) (one : client.Said) → Steps start link was all state.export → is_closed state.stage ≡ false → known.greeted ≡ is_greeted state.stage → (is_greeted state.stage ≡ true → state.no_zeroes ≡ true) →
      AllWait all link state.agreed state.waiting → Quiet all state.waiting state.out known → MaySay known one → After one (is_greeted state.stage) → FitsHeard (held.is_extended state.agreed.replies) (as_heard one) → IsSized (as_heard one) →
      Entered was (entering offers (as_heard one) state) (said one known)
  enters was all state known (Flags flags) steps open_ greeted zeroes waits q may first small sized = record {
    all = all;
    steps = steps;
    opened = inr (refl, refl, refl, λ g. offered q.stands);
    quiet_ = quiet all state.waiting state.out known (Flags flags) may q;
    waits = waits;
  }
    where
      -- the hello that was heard is the session's, which offers NO_ZEROES
      three : (phase known.heard.turns ≡ phase.Greeting) ⊎ (known.heard.flags ≡ 3) → has_bit flag_no_zeroes flags ≡ true
      three (inl greeting) = let bad : phase.Greeting ≡ phase.OptMode = sym greeting ∙ waiting_opt start.name (length start.bytes) all link known may.1 in cc
      three (inr is) = may.2 (ap (has_bit flag_no_zeroes) is)

      offered : IsAt all state.out known → has_bit flag_no_zeroes flags ≡ true
      offered (inl over) = absurd (dead_open all known over may.0)
      offered (inr s) = three s.awaits.flags
  enters was all state known (Wishes wish) steps open_ greeted zeroes waits q may first small sized = enters_wish was all state known wish steps (zeroes first) waits q may (greeted ∙ first) small
  enters was all state known (Orders order) steps open_ greeted zeroes waits q may first small sized = go (kind_of order.type) refl may.2 small sized
    where
      ended : Entered was (record state { stage = Ended }) (said (Orders order) known)
      ended = record { all = all; steps = steps; opened = inl refl; quiet_ = quiet all state.waiting state.out known (Orders order) may q; waits = waits }

      go : (k : Option Kind) → kind_of order.type ≡ k → IsNext k order known → FitsHeard (held.is_extended state.agreed.replies) (asks_of order.type order.flags order.cookie order.offset order.length order.payload) →
          IsSized (asks_of order.type order.flags order.cookie order.offset order.length order.payload) →
          Entered was (entering offers (asks_of order.type order.flags order.cookie order.offset order.length order.payload) state) (said (Orders order) known)
      go None e next_ small sized =
          subst (λ (b : Bool). Entered was (entering offers (if b then server.Disconnect else server.Asks (record { kind = kind_of order.type; flags = order.flags; cookie = order.cookie; offset = order.offset; length = order.length }) order.payload) state) (said (Orders order) known))
          (sym (eq-eqb order.type 2 next_)) ended
      go (Some k) e next_ small sized =
          let two = not_two order.type k e in
          let request : Request = record { kind = kind_of order.type; flags = order.flags; cookie = order.cookie; offset = order.offset; length = order.length } in
          let s' = subst (λ (b : Bool). FitsHeard (held.is_extended state.agreed.replies) (if b then server.Disconnect else server.Asks (record { kind = kind_of order.type; flags = order.flags; cookie = order.cookie; offset = order.offset; length = order.length }) order.payload)) two small in
          let z' = subst (λ (b : Bool). IsSized (if b then server.Disconnect else server.Asks (record { kind = kind_of order.type; flags = order.flags; cookie = order.cookie; offset = order.offset; length = order.length }) order.payload)) two sized in
          subst (λ (b : Bool). Entered was (entering offers (if b then server.Disconnect else server.Asks (record { kind = kind_of order.type; flags = order.flags; cookie = order.cookie; offset = order.offset; length = order.length }) order.payload) state) (said (Orders order) known)) (sym two)
          (subst (λ (x : Link). Entered was (asking (record { kind = kind_of order.type; flags = order.flags; cookie = order.cookie; offset = order.offset; length = order.length }) order.payload state) x)
          (sym (ap (λ (o : Option Kind). ordered o order known) e ∙ ap (λ (b : Bool). if b then issued k order known else record known { strayed = true }) (eq-eqb order.cookie (next known) next_)))
          (enters_order was all state known order k steps open_ greeted zeroes waits q may.0 may.1 e next_ (record { cookie_ = s'.0; offset_ = s'.1; length_ = s'.2 }) z'))
  enters was all state known Stray steps open_ greeted zeroes waits q may first small sized = absurd may

  -- Both sides so far.
  pub record During (was : List Step) (s : Held State) (c : Held Link) : Type 0 where
    pub all : List Step
    pub steps : Steps start link was all s.known.export
    pub tie : TieOf all s c

  quiet_of : (all : List Step) (s : Held State) (c : Held Link) → TieOf all s c → Quiet all s.known.waiting s.known.out c.known
  quiet_of all s c t = record { straight = t.straight; knows = t.knows; ready = t.ready; begun = t.begun; stands = t.stands }

  tied : (all : List Step) (s : Held State) (c : Held Link) → Opened s.known.stage s.known.no_zeroes s.pending c.pending c.known.greeted → IsBytes c.pending → AllWait all link s.known.agreed s.known.waiting → Quiet all s.known.waiting s.known.out c.known → TieOf all s c
  tied all s c opened are waits q = record { opened = opened; bytes = are; straight = q.straight; knows = q.knows; waits = waits; ready = q.ready; begun = q.begun; stands = q.stands }

  -- A session that is at its end does nothing more.
  closed_step : (all : List Step) (state : State) (heard : List ℕ) (c : Held Link) (now : List ℕ) (v : Option client.Said) → is_closed state.stage ≡ true → IsBytes now → AllWait all link state.agreed state.waiting → Quiet all state.waiting state.out c.known →
      AllMaySay c.known (things (shown_by now v)) → TieOf all (record { known = state; pending = heard }) (settle links.client c.known now v)
  closed_step all state heard c now None closed are waits q may = tied all (record { known = state; pending = heard }) (record { known = c.known; pending = now }) (inl closed) are waits q
  closed_step all state heard c now (Some one) closed are waits q may =
      tied all (record { known = state; pending = heard }) (record { known = said one c.known; pending = [] }) (inl closed) no_bytes waits (quiet all state.waiting state.out c.known one may.0 q)

  strays : (all : List Step) (s : Held State) (c : Held Link) (now : List ℕ) (v : Option client.Said) → TieOf all s c → IsBytes now → AllMaySay c.known (things (shown_by now v)) →
      TieOf all (record { known = record s.known { stage = Strayed }; pending = [] }) (settle links.client c.known now v)
  strays all s c now v t are may = closed_step all (record s.known { stage = Strayed }) [] c now v refl are t.waits (record { straight = t.straight; knows = t.knows; ready = t.ready; begun = t.begun; stands = t.stands }) may

  abbrev pub is_stray : server.Said → Bool
  is_stray (server.Flags flags) = false
  is_stray (server.OptionRequest option body) = false
  is_stray (server.Asks request payload) = false
  is_stray server.Disconnect = false
  is_stray server.Stray = true
  is_stray server.Ignored = false

  pub stray_is : (one : server.Said) → is_stray one ≡ true → one ≡ server.Stray
  stray_is (server.Flags flags) e = cc
  stray_is (server.OptionRequest option body) e = cc
  stray_is (server.Asks request payload) e = cc
  stray_is server.Disconnect e = cc
  stray_is server.Stray e = refl
  stray_is server.Ignored e = cc

  pub may_straight : (known : Link) (v : Option client.Said) (now : List ℕ) → AllMaySay known (things (shown_by now v)) → v ≢ Some Stray
  may_straight known None now may e = cc
  may_straight known (Some Stray) now may e = absurd may.0
  may_straight known (Some (Flags flags)) now may e = cc
  may_straight known (Some (Wishes wish)) now may e = cc
  may_straight known (Some (Orders order)) now may e = cc

  pub each_last : (bytes : List ℕ) (byte : ℕ) (stage : Stage) (e : Bool) → is_closed stage ≡ true → says stage e (bytes ++ byte ∷ []) ≡ Some (record { size = 1; said = server.Ignored })
  unfolding each_byte
  each_last bytes byte Greeting e closed = cc
  each_last bytes byte Haggling e closed = cc
  each_last bytes byte Serving e closed = cc
  each_last [] byte Ended e closed = refl
  each_last (x ∷ bytes) byte Ended e closed = refl
  each_last [] byte Strayed e closed = refl
  each_last (x ∷ bytes) byte Strayed e closed = refl

  -- One byte on both sides.
  open_step : (was all : List Step) (s : Held State) (c : Held Link) (now : List ℕ) (v : Option client.Said) (w : Option Heard) → Steps start link was all s.known.export → TieOf all s c → IsBytes now →
      is_closed s.known.stage ≡ false → c.known.greeted ≡ is_greeted s.known.stage → (is_greeted s.known.stage ≡ true → s.known.no_zeroes ≡ true) →
      client.says false (is_greeted s.known.stage) (is_extended c.known) now ≡ v → says s.known.stage (held.is_extended s.known.agreed.replies) now ≡ w → AllMaySay c.known (things (shown_by now v)) →
      During was (settle (rules offers) s.known now w) (settle links.client c.known now v)
  open_step was all s c now v None steps t are open_ greeted zeroes read_ hears may = go v (sym (ap (option_map said_of) hears) ∙ said_as_read s.known.stage (held.is_extended s.known.agreed.replies) (is_extended c.known) now are open_ (λ e. let bad : None ≡ Some stray = sym hears ∙ e in cc) (λ e. may_straight c.known v now may (sym read_ ∙ e)) ∙ ap (option_map as_heard) read_)
    where
      go : (x : Option client.Said) → None ≡ option_map as_heard x → During was (record { known = s.known; pending = now }) (settle links.client c.known now x)
      go None e = record { all = all; steps = steps; tie = tied all (record { known = s.known; pending = now }) (record { known = c.known; pending = now }) (inr (open_, refl, greeted, zeroes)) are t.waits (quiet_of all s c t) }
      go (Some one) e = cc
  open_step was all s c now v (Some found) steps t are open_ greeted zeroes read_ hears may = go (is_stray found.said) refl
    where
      heard_it : (x : Option client.Said) → client.says false (is_greeted s.known.stage) (is_extended c.known) now ≡ x → AllMaySay c.known (things (shown_by now x)) → Some found.said ≡ option_map as_heard x →
          During was (record { known = entering offers found.said s.known; pending = [] }) (settle links.client c.known now x)
      heard_it None e may same = cc
      heard_it (Some one) e may same =
          let is : as_heard one ≡ found.said = (let h : Some found.said ≡ Some (as_heard one) = same in cc) in
          let n : Entered was (entering offers (as_heard one) s.known) (said one c.known) = enters was all s.known c.known one steps open_ greeted zeroes t.waits (quiet_of all s c t) may.0 (read_after (is_greeted s.known.stage) (is_extended c.known) now one e)
          (subst (λ (x : server.Said). FitsHeard (held.is_extended s.known.agreed.replies) x) (sym is) (heard_small s.known.stage (held.is_extended s.known.agreed.replies) now are found hears))
          (subst IsSized (sym is) (says_sized s.known.stage (held.is_extended s.known.agreed.replies) now found hears)) in
          subst (λ (x : server.Said). During was (record { known = entering offers x s.known; pending = [] }) (record { known = said one c.known; pending = [] })) is
          (record { all = n.all; steps = n.steps; tie = tied n.all (record { known = entering offers (as_heard one) s.known; pending = [] }) (record { known = said one c.known; pending = [] }) n.opened no_bytes n.waits n.quiet_ })

      go : (b : Bool) → is_stray found.said ≡ b → During was (record { known = entering offers found.said s.known; pending = [] }) (settle links.client c.known now v)
      go true e = subst (λ (x : server.Said). During was (record { known = entering offers x s.known; pending = [] }) (settle links.client c.known now v)) (sym (stray_is found.said e))
          (record { all = all; steps = steps; tie = strays all s c now v t are may })
      go false e = heard_it v read_ may
          (sym (ap (option_map said_of) hears) ∙ said_as_read s.known.stage (held.is_extended s.known.agreed.replies) (is_extended c.known) now are open_
          (λ x. let bad : Some found ≡ Some stray = sym hears ∙ x in let same : found.said ≡ server.Stray = ap (λ (h : Heard). h.said) (some_heard found stray bad) in let nay : true ≡ false = sym (ap is_stray same) ∙ e in cc)
          (λ x. may_straight c.known v now may (sym read_ ∙ x)) ∙ ap (option_map as_heard) read_)

  pub byte_step : (was : List Step) (s : Held State) (c : Held Link) (byte : ℕ) → byte < 256 → During was s c → AllMaySay c.known (things (shown_by (c.pending ++ byte ∷ []) (links.client.shows c.known (c.pending ++ byte ∷ [])))) →
      During was (take_byte (rules offers) s byte) (take_byte links.client c byte)
  byte_step was s c byte small d may = go d.tie.opened
    where
      now : List ℕ
      now = c.pending ++ byte ∷ []

      are : IsBytes (c.pending ++ byte ∷ [])
      are = push_bytes c.pending byte d.tie.bytes small

      reads_as : c.known.greeted ≡ is_greeted s.known.stage → client.says false (is_greeted s.known.stage) (is_extended c.known) (c.pending ++ byte ∷ []) ≡ links.client.shows c.known (c.pending ++ byte ∷ [])
      reads_as g = ap (λ (b : Bool). client.says false b (is_extended c.known) (c.pending ++ byte ∷ [])) (sym g) ∙ ap (λ (b : Bool). client.says b c.known.greeted (is_extended c.known) (c.pending ++ byte ∷ [])) (sym d.tie.straight)

      go : Opened s.known.stage s.known.no_zeroes s.pending c.pending c.known.greeted → During was (take_byte (rules offers) s byte) (take_byte links.client c byte)
      go (inl closed) =
          subst (λ (w : Option Heard). During was (settle (rules offers) s.known (s.pending ++ byte ∷ []) w) (take_byte links.client c byte)) (sym (each_last s.pending byte s.known.stage (held.is_extended s.known.agreed.replies) closed))
          (record { all = d.all; steps = d.steps; tie = closed_step d.all s.known [] c (c.pending ++ byte ∷ []) (links.client.shows c.known (c.pending ++ byte ∷ [])) closed are d.tie.waits (quiet_of d.all s c d.tie) may })
      go (inr (open_, same, greeted, zeroes)) =
          subst (λ (bs : List ℕ). During was (settle (rules offers) s.known (bs ++ byte ∷ []) (says s.known.stage (held.is_extended s.known.agreed.replies) (bs ++ byte ∷ []))) (take_byte links.client c byte)) (sym same)
          (open_step was d.all s c (c.pending ++ byte ∷ []) (links.client.shows c.known (c.pending ++ byte ∷ [])) (says s.known.stage (held.is_extended s.known.agreed.replies) (c.pending ++ byte ∷ [])) d.steps d.tie are open_ greeted zeroes (reads_as greeted) refl may)

  pub all_taken : (was : List Step) (bytes : List ℕ) (s : Held State) (c : Held Link) → IsBytes bytes → During was s c → AllMaySay c.known (things (trace links.client c bytes)) → During was (feed (rules offers) s bytes) (feed links.client c bytes)
  all_taken was [] s c are d may = d
  all_taken was (byte ∷ bytes) s c are d may =
      let f = first_byte byte bytes are in
      let m = may_both c.known (c.pending ++ byte ∷ []) (links.client.shows c.known (c.pending ++ byte ∷ [])) (trace links.client (take_byte links.client c byte) bytes) may in
      all_taken was bytes (take_byte (rules offers) s byte) (take_byte links.client c byte) f.1 (byte_step was s c byte f.0 d m.0) m.1

  -- the same where the session is at its end already
  pub none_taken : (all : List Step) (bytes : List ℕ) (s : Held State) (c : Held Link) → is_closed s.known.stage ≡ true → IsBytes bytes → TieOf all s c → AllMaySay c.known (things (trace links.client c bytes)) → TieOf all s (feed links.client c bytes)
  none_taken all [] s c closed are t may = t
  none_taken all (byte ∷ bytes) s c closed are t may =
      let f = first_byte byte bytes are in
      let m = may_both c.known (c.pending ++ byte ∷ []) (links.client.shows c.known (c.pending ++ byte ∷ [])) (trace links.client (take_byte links.client c byte) bytes) may in
      none_taken all bytes s (take_byte links.client c byte) closed f.1
      (closed_step all s.known s.pending c (c.pending ++ byte ∷ []) (links.client.shows c.known (c.pending ++ byte ∷ [])) closed (push_bytes c.pending byte t.bytes f.0) t.waits (quiet_of all s c t) m.0) m.1
