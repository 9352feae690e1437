-- What a link knows stays, whatever is said on it that may be.
use Rattle.std.proofs.Common.{◌≡◌, ℕ, ◌+◌, ◌⊎◌, inl, inr, Bool, true, false, not, ◌&&◌, List, [], ◌∷◌, Option, Some, None, ◌==◌, refl, ap, sym, subst, ◌∙◌, arith, if◌then◌else◌}
use Rattle.std.specs.Option.{option_map}
use Rattle.std.proofs.lemmas.Bool.{cases_eq, eq-eqb, ne_eqb}
use Rattle.lnbd_records.specs.Handshake.{export_name_reply}
use Rattle.lnbd_records.specs.Numbers.{AllFit}
use Rattle.lnbd_records.specs.Options.{opt_go, opt_export_name}
use Rattle.lnbd_history.specs.declared.kinds.Phase.{Phase}
use Rattle.lnbd_history.specs.declared.kinds.Phase.TheVariants as phase
use Rattle.lnbd_history.specs.Agreement.{Turn, phase, Opted}
use Rattle.lnbd_history.specs.Commands.{Command, Request, request_of}
use Rattle.lnbd_history.specs.Events.{Issue}
use Rattle.lnbd_history.specs.History.{asked, request}
use Rattle.lnbd_history.proofs.Cookies.{request_past}
use Rattle.lnbd_asked.specs.Client.{Wish}
use Rattle.lnbd_asked.specs.Link.{Nobody, Link, wished, next, is_free, is_by_name, turns_with}
use Rattle.lnbd_asked.specs.Laws.{is_waiting}
use Rattle.lnbd_asked.specs.Transcript.{bare, asked_on, name_asked}
use Rattle.lnbd_served.specs.Steps.{Step}
use Rattle.lnbd_served.proofs.Items.{Said, Names, AreFair, AreFiled, AreReplies, acknowledges, Knows, IsSound, Expects, Awaits}

-- An old request is found as before.
request_kept : (known : Link) (command : Command Nobody) (c : ℕ) (q : Request Nobody) → request known.requests c ≡ Some q → request (Issue command ∷ known.requests) c ≡ Some q
request_kept known command c q e = elim (cases_eq ((asked known.requests).issued + 1) c) [
  | inl same ↦ (let none : request known.requests c ≡ None = request_past known.requests c (omega (arith, same)) in let nay : None ≡ Some q = sym none ∙ e in cc)
  | inr other ↦ ap (λ (b : Bool). if b then Some (request_of (asked known.requests).admitted command) else request known.requests c) (ne_eqb ((asked known.requests).issued + 1) c other) ∙ e
]

pub asked_kept : (known : Link) (command : Command Nobody) (c : ℕ) (asks : Command Nobody) → asked_on known c ≡ Some asks → option_map bare (request (Issue command ∷ known.requests) c) ≡ Some asks
asked_kept known command c asks e = go (request known.requests c) refl e
  where
    go : (v : Option (Request Nobody)) → request known.requests c ≡ v → option_map bare v ≡ Some asks → option_map bare (request (Issue command ∷ known.requests) c) ≡ Some asks
    go None w e = cc
    go (Some q) w e = ap (option_map bare) (request_kept known command c q w) ∙ e

-- the new one is found under its cookie
pub asked_new : (known : Link) (command : Command Nobody) → option_map bare (request (Issue command ∷ known.requests) (next known)) ≡ Some (record command { first = None; done = tt })
asked_new known command = ap (λ (b : Bool). option_map bare (if b then Some (request_of (asked known.requests).admitted command) else request known.requests (next known))) (eq-eqb (next known) (next known) refl)

-- what a server answers to an option
abbrev pub AnswersWish : (name : List ℕ) (size : ℕ) → Wish → List Wish → List Said → Type 0
AnswersWish name size wish earlier items =
    ((wish.option == opt_export_name) ≡ true → (items ≡ []) ⊎ ((flags : ℕ) × (items ≡ Names size flags ∷ []) × AllFit (export_name_reply size flags) × (name_asked (wish ∷ earlier) ≡ Some name)))
    × ((wish.option == opt_export_name) ≡ false → AreReplies size wish.option items × (wish.option ≡ opt_go → acknowledges items ≡ true → name_asked (wish ∷ earlier) ≡ Some name))

module _ (name : List ℕ) (size : ℕ) (all : List Step) (link : ℕ) where
  -- A request more.

  issued_filed : (known : Link) (command : Command Nobody) → AreFiled all link known → AreFiled all link (record known { requests = Issue command ∷ known.requests })
  issued_filed known command filed c = elim (filed c) [
    | inl n ↦ inl n
    | inr o ↦ inr (record { filing = o.filing; only = o.only; request_ = request_kept known command c o.filing.request o.request_; ended = o.ended; true_ = o.true_ })
  ]

  pub issued_sound : (known : Link) (command : Command Nobody) → IsSound name size all link known → IsSound name size all link (record known { requests = Issue command ∷ known.requests })
  issued_sound known command sound = record { fair = sound.fair; filed = issued_filed known command sound.filed; named = sound.named }

  pub issued_knows : (known : Link) (command : Command Nobody) → Knows all link known → Knows all link (record known { requests = Issue command ∷ known.requests })
  issued_knows known command knows taken kind h e = let k = knows taken kind h e in (k.0, asked_kept known command taken.request.cookie k.0 k.1, k.2)

  expects_same : (one other : Link) (p : Phase) (rest : List Said) → one.wishes ≡ other.wishes → Expects name size all link one p rest → Expects name size all link other p rest
  expects_same one other phase.Greeting rest w e = e
  expects_same one other (phase.Asked option) rest w e = (e.0, λ goes acks. ap name_asked (sym w) ∙ e.1 goes acks)
  expects_same one other phase.AskedByName rest w e = e
  expects_same one other phase.OptMode rest w (inl none) = inl none
  expects_same one other phase.OptMode rest w (inr (flags, is, fit, by, named)) = inr (flags, is, fit, ap is_by_name (sym w) ∙ by, ap name_asked (sym w) ∙ named)
  expects_same one other phase.Ready rest w e = e
  expects_same one other (phase.Refused code) rest w e = e

  pub issued_awaits : (known : Link) (command : Command Nobody) (rest : List Said) → Awaits name size all link known rest → Awaits name size all link (record known { requests = Issue command ∷ known.requests }) rest
  issued_awaits known command rest a = record {
    open_ = a.open_;
    sound = issued_sound known command a.sound;
    flags = a.flags;
    knows = issued_knows known command a.knows;
    expects = expects_same known (record known { requests = Issue command ∷ known.requests }) (phase known.heard.turns) rest refl a.expects;
  }

  -- The flags.

  same_filed : (known : Link) → AreFiled all link known → AreFiled all link (record known { greeted = true })
  same_filed known filed c = elim (filed c) [
    | inl n ↦ inl n
    | inr o ↦ inr (record { filing = o.filing; only = o.only; request_ = o.request_; ended = o.ended; true_ = o.true_ })
  ]

  pub greeted_sound : (known : Link) → IsSound name size all link known → IsSound name size all link (record known { greeted = true })
  greeted_sound known sound = record { fair = sound.fair; filed = same_filed known sound.filed; named = sound.named }

  pub greeted_awaits : (known : Link) (rest : List Said) → Awaits name size all link known rest → Awaits name size all link (record known { greeted = true }) rest
  greeted_awaits known rest a = record {
    open_ = a.open_;
    sound = greeted_sound known a.sound;
    flags = a.flags;
    knows = a.knows;
    expects = expects_same known (record known { greeted = true }) (phase known.heard.turns) rest refl a.expects;
  }

  -- A wish more.

  is_opt : (p : Phase) → is_free p ≡ true → p ≡ phase.OptMode
  is_opt phase.Greeting e = cc
  is_opt (phase.Asked option) e = cc
  is_opt phase.AskedByName e = cc
  is_opt phase.OptMode e = refl
  is_opt phase.Ready e = cc
  is_opt (phase.Refused code) e = cc

  both_of : (a b : Bool) → a && not b ≡ true → (a ≡ true) × (b ≡ false)
  both_of true true e = cc
  both_of true false e = (refl, refl)
  both_of false b e = cc

  pub waiting_opt : (known : Link) → is_waiting known ≡ true → phase known.heard.turns ≡ phase.OptMode
  waiting_opt known e = is_opt (phase known.heard.turns) (both_of (is_free (phase known.heard.turns)) (is_by_name known.wishes) e).0

  -- Where an option may be asked, nothing is to come.
  pub waiting_none : (known : Link) (rest : List Said) → is_waiting known ≡ true → Awaits name size all link known rest → rest ≡ []
  waiting_none known rest w a = go (subst (λ (p : Phase). Expects name size all link known p rest) (waiting_opt known w) a.expects)
    where
      go : Expects name size all link known phase.OptMode rest → rest ≡ []
      go (inl none) = none
      go (inr (flags, is, fit, by, named)) = let nay : true ≡ false = sym by ∙ (both_of (is_free (phase known.heard.turns)) (is_by_name known.wishes) w).1 in cc

  wished_filed : (known : Link) (wish : Wish) → AreFiled all link known → AreFiled all link (wished wish known)
  wished_filed known wish filed c = elim (filed c) [
    | inl n ↦ inl n
    | inr o ↦ inr (record { filing = o.filing; only = o.only; request_ = o.request_; ended = o.ended; true_ = o.true_ })
  ]

  pub wished_awaits : (known : Link) (wish : Wish) (rest items : List Said) → is_waiting known ≡ true → Awaits name size all link known rest → AnswersWish name size wish known.wishes items → Awaits name size all link (wished wish known) items
  wished_awaits known wish rest items w a answers = go (wish.option == opt_export_name) refl
    where
      at : phase known.heard.turns ≡ phase.OptMode
      at = waiting_opt known w

      three : (phase known.heard.turns ≡ phase.Greeting) ⊎ (known.heard.flags ≡ 3) → known.heard.flags ≡ 3
      three (inl nay) = let bad : phase.Greeting ≡ phase.OptMode = sym nay ∙ at in cc
      three (inr t) = t

      -- with these turns
      is : (turns : List Turn) (p : Phase) → turns_with wish.option known.heard.turns ≡ turns → phase turns ≡ p → AreFair size turns → (p ≡ phase.Ready → ⊥) →
          Expects name size all link (wished wish known) p items → Awaits name size all link (wished wish known) items
      is turns p e ph fair nay expects = record {
        open_ = a.open_;
        sound = record {
          fair = subst (AreFair size) (sym e) fair;
          filed = wished_filed known wish a.sound.filed;
          named = λ ready. absurd (nay (sym ph ∙ ap phase (sym e) ∙ ready));
        };
        flags = inr (three a.flags);
        knows = a.knows;
        expects = subst (λ (q : Phase). Expects name size all link (wished wish known) q items) (sym (ap phase e ∙ ph)) expects;
      }

      named_to : ((items ≡ []) ⊎ ((flags : ℕ) × (items ≡ Names size flags ∷ []) × AllFit (export_name_reply size flags) × (name_asked (wish ∷ known.wishes) ≡ Some name))) → (wish.option == opt_export_name) ≡ true →
          Expects name size all link (wished wish known) phase.OptMode items
      named_to (inl none) by = inl none
      named_to (inr (flags, e, fit, named)) by = inr (flags, e, fit, by, named)

      go : (b : Bool) → (wish.option == opt_export_name) ≡ b → Awaits name size all link (wished wish known) items
      go true e = is known.heard.turns phase.OptMode (ap (λ (b : Bool). if b then known.heard.turns else Opted wish.option ∷ known.heard.turns) e) at a.sound.fair (λ nay. cc) (named_to (answers.0 e) e)
      go false e = is (Opted wish.option ∷ known.heard.turns) (phase.Asked wish.option) (ap (λ (b : Bool). if b then known.heard.turns else Opted wish.option ∷ known.heard.turns) e) refl a.sound.fair (λ nay. cc) (answers.1 e)

  -- A session that is at its end answers nothing.
  pub unanswered : (wish : Wish) (earlier : List Wish) → AnswersWish name size wish earlier []
  unanswered wish earlier = ((λ e. inl refl), (λ e. (tt, λ goes acks. cc)))
