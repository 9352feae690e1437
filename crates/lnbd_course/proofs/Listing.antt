-- What was dealt with the source is in the list of what it was asked.
use Rattle.std.proofs.Common.{◌≡◌, inl, inr, ℕ, Bool, true, false, List, [], ◌∷◌, ◌++◌, Option, Some, None, refl, ap, sym, subst, ◌∙◌, nat_le, if◌then◌else◌}
use Rattle.std.specs.Option.{option_map}
use Rattle.lnbd_model.specs.declared.target.Place.{Place}
use Rattle.lnbd_link.specs.Call as wire
use Rattle.lnbd_history.specs.Commands as commands
use Rattle.lnbd_history.specs.Commands.{Command}
use Rattle.lnbd_history.specs.Events.{History}
use Rattle.lnbd_history.specs.History.{request}
use Rattle.lnbd_asked.specs.Driven.{DrivenSays, outcome_after, written}
use Rattle.lnbd_asked.specs.Link.{Link, Nobody}
use Rattle.lnbd_asked.specs.Transcript.{asked_on, only_if, bare, dealt_with, is_of, on_link}
use Rattle.lnbd_plan.specs.declared.grid.Slice.{Slice}
use Rattle.lnbd_board.specs.declared.how.How.{How}
use Rattle.lnbd_board.specs.declared.ticket.Ticket.{Ticket}
use Rattle.lnbd_board.specs.Files as board
use Rattle.lnbd_board.specs.Requests.{IsIn, Request, reads, reads_over, Said}
use Rattle.lnbd_board.specs.Requests as asked
use Rattle.lnbd_board.proofs.Lists.{none_reads}
use Rattle.lnbd_tracks.specs.Tracks.{Histories}
use Rattle.lnbd_tracks.specs.Tracks as tracks
use Rattle.lnbd_tracks.proofs.Under as under
use Rattle.lnbd_course.specs.Course.{Course}
use Rattle.lnbd_course.proofs.Standing.{on_here}

only_if_some : {A : Type 0} (test : Bool) (found : Option A) (x : A) → only_if test found ≡ Some x → (test ≡ true) × (found ≡ Some x)
only_if_some true found x e = (refl, e)
only_if_some false found x e = absurd (cc e)

pub none_end : {A : Type 0} (x : A) (xs : List A) → x ∷ xs ≡ [] → ⊥
none_end x xs e = cc

pub in_middle : (front back : List Request) (r : Request) → IsIn r (front ++ r ∷ back)
in_middle [] back r = inl refl
in_middle (x ∷ front) back r = inr (in_middle front back r)

-- What was asked on a link, by the history of the handle that it had.
pub record IsAsked (history : History Ticket) (cookie : ℕ) (command : Command Nobody) : Type 0 where
  pub out : nat_le cookie (written history) ≡ true
  pub asks : commands.Request Ticket
  pub is : request history cookie ≡ Some asks
  pub same : bare asks ≡ command

pub asked_by : (history : History Ticket) (link : Link) (cookie : ℕ) (command : Command Nobody) → DrivenSays history link → asked_on link cookie ≡ Some command → IsAsked history cookie command
asked_by history link cookie command says is = go (nat_le cookie (written history)) refl (request history cookie) refl (sym (says.requests cookie) ∙ is)
  where
    go : (b : Bool) → nat_le cookie (written history) ≡ b → (o : Option (commands.Request Ticket)) → request history cookie ≡ o → (if b then option_map bare o else None) ≡ Some command → IsAsked history cookie command
    go true out (Some asks) there e = record { out = out; asks = asks; is = there; same = cc e }
    go true out None there e = absurd (cc e)
    go false out o there e = absurd (cc e)

-- What was dealt with an export was asked on one of its links, by handles of these histories.
pub asked_on_it : (from : Place) (calls : List wire.Call) (histories : Histories) → ((link : ℕ) → DrivenSays (histories link) (on_link link calls)) → (link cookie : ℕ) (command : Command Nobody) →
    (dealt_with from calls).asked link cookie ≡ Some command →
    (is_of from calls link ≡ true) × IsAsked (histories link) cookie command
asked_on_it from calls histories says link cookie command is =
    let both = only_if_some (is_of from calls link) (asked_on (on_link link calls) cookie) command is in
    (both.0, asked_by (histories link) (on_link link calls) cookie command (says link) both.1)

module _ (from : Place) (how : How) (sides : ℕ → Bool) (slices : List Slice) (now : board.Seen) (calls : List wire.Call) (course : Course how sides slices now calls []) (of : (link : ℕ) → is_of from calls link ≡ true → sides link ≡ true) where
  abbrev pub one_of : (link cookie : ℕ) → commands.Request Ticket → Request
  one_of link cookie asks = asked.request link cookie asks.flight.done.callback (record { command = bare asks; outcome = outcome_after (course.histories link) cookie })

  -- a request is in the list of the source
  pub listed : (link cookie : ℕ) (asks : commands.Request Ticket) → is_of from calls link ≡ true → request (course.histories link) cookie ≡ Some asks → under.IsFound (one_of link cookie asks) course.stood.source
  listed link cookie asks here is = under.found link cookie (one_of link cookie asks) course.stood.source
      ((course.stood.reads link).each cookie ∙ ap (λ (h : History Ticket). tracks.told_by link cookie h) (on_here sides course.histories link (of link here))
      ∙ ap (λ o. tracks.request_of link cookie o (outcome_after (course.histories link) cookie)) is)

  pub asked_here : (link cookie : ℕ) (command : Command Nobody) → (dealt_with from calls).asked link cookie ≡ Some command → (is_of from calls link ≡ true) × IsAsked (course.histories link) cookie command
  asked_here = asked_on_it from calls course.histories (λ link. course.parted link tt)

  -- Where the list reads a position nowhere, no request reads it.
  pub none_read : (p : ℕ) → reads_over p course.stood.source ≡ [] → (link cookie : ℕ) (command : Command Nobody) → (dealt_with from calls).asked link cookie ≡ Some command → reads command p ≡ false
  none_read p none link cookie command is =
      let a = asked_here link cookie command is in
      let in_list = listed link cookie a.1.asks a.0 a.1.is in
      ap (λ (c : Command Nobody). reads c p) (sym a.1.same)
      ∙ none_reads p (one_of link cookie a.1.asks) course.stood.source none (subst (IsIn (one_of link cookie a.1.asks)) (sym in_list.is) (in_middle in_list.front in_list.back (one_of link cookie a.1.asks)))
