-- The meta contexts that were agreed: at most one is base:allocation, and what is filed once requests may be made was filed while these were agreed.
-- Generic in the callbacks, so it could lie with what stays of a history.
use Rattle.std.proofs.Common.{◌≡◌, ◌⊎◌, inl, inr, ℕ, zero, suc, ◌==◌, ◌||◌, Bool, true, false, List, [], ◌∷◌, ◌++◌, Option, Some, None, refl, sym, ◌∙◌, ap, subst, bytes_eq, codes, if◌then◌else◌}
use Rattle.std.proofs.lemmas.Bool.{eqb-true, false≢true}
use Rattle.std.proofs.lemmas.Slice.Eq.{bytes_eq-Decides}
use Rattle.lnbd_model.specs.declared.export.Context.{Context as MetaContext}
use Rattle.lnbd_model.specs.declared.state.Cause.{Cause}
use Rattle.lnbd_model.specs.declared.state.Cause.TheVariants as cause
use Rattle.lnbd_records.specs.Options.{opt_set_meta_context}
use Rattle.lnbd_records.specs.Told.{Told}
use Rattle.lnbd_records.specs.Told as told
use Rattle.lnbd_stream.specs.Laws.{Lasts}
use Rattle.lnbd_stream.specs.Stream.{Held}
use Rattle.lnbd_stream.proofs.Stream.{feed_lasts}
use Rattle.lnbd_outcome.specs.Faults.{context_of}
use Rattle.lnbd_history.specs.declared.kinds.Phase.TheVariants.{Ready}
use Rattle.lnbd_history.specs.declared.kinds.Stage.{Stage}
use Rattle.lnbd_history.specs.declared.kinds.Stage.TheVariants.{Aborting, Closed, Created, Dead, Disconnecting, Open}
use Rattle.lnbd_history.specs.Agreement.{Answered, Renamed, Step, ToldByName, Turn, adding, clashes, contexts, contexts_told, is_acknowledged, phase, steps}
use Rattle.lnbd_history.specs.Arrivals.{Broken, ExportReply, Hello, Ignored, OptionReply, Passed, Reply, Shown}
use Rattle.lnbd_history.specs.Commands.{Request}
use Rattle.lnbd_history.specs.Entries.{Dropped, Filed, Filing, Framed, Item, Lost, own}
use Rattle.lnbd_history.specs.Events.{Abort, Arrived, ClearLog, Close, Disconnect, End, Event, History, Issue, LinkFailed, Opt, Refuse, Retire, Set, Start, StrictMode, Wrote}
use Rattle.lnbd_history.specs.History.{Known, agreed_contexts, asked, change, cookies, die, ended_at, ended_closing, entered, failed_at, file, file_all, file_under, filing_of, flying, in_flight, reading, request, rules, waited, with_answers}
use Rattle.lnbd_history.specs.Laws.{Lawful}
use Rattle.lnbd_asked.specs.Transcript.{is_allocation}
use Rattle.lnbd_asked.proofs.Staying.{IsLater, later_found, turns_stay}

-- ---- At most one is base:allocation.

-- this is the id of base:allocation among these
abbrev pub has_base : List MetaContext → (id : ℕ) → Bool
has_base agreed id = is_allocation (context_of id agreed)

abbrev pub IsAlone : List MetaContext → Type 0
IsAlone agreed = (a b : ℕ) → has_base agreed a ≡ true → has_base agreed b ≡ true → a ≡ b

or_mid : (a b c : Bool) → b ≡ true → (a || b || c) ≡ true
or_mid true b c e = refl
or_mid false true c e = refl
or_mid false false c e = absurd (false≢true e)

or_last : (a b c : Bool) → c ≡ true → (a || b || c) ≡ true
or_last true b c e = refl
or_last false true c e = refl
or_last false false c e = e

-- a second one of this name clashes
clash_found : (context : MetaContext) (id : ℕ) (agreed : List MetaContext) → bytes_eq context.name (codes "base:allocation") ≡ true → has_base agreed id ≡ true → clashes context agreed ≡ true
clash_found context id [] named has = absurd (false≢true has)
clash_found context id (other ∷ others) named has = go (other.id == id) (clash_found context id others named) has
  where
    alike : bytes_eq other.name (codes "base:allocation") ≡ true → bytes_eq context.name other.name ≡ true
    alike e = (bytes_eq-Decides context.name other.name).1 ((bytes_eq-Decides context.name (codes "base:allocation")).0 named ∙ sym ((bytes_eq-Decides other.name (codes "base:allocation")).0 e))

    go : (b : Bool) → (has_base others id ≡ true → clashes context others ≡ true) → is_allocation (if b then Some other else context_of id others) ≡ true → clashes context (other ∷ others) ≡ true
    go true rest e = or_mid (context.id == other.id) (bytes_eq context.name other.name) (clashes context others) (alike e)
    go false rest e = or_last (context.id == other.id) (bytes_eq context.name other.name) (clashes context others) (rest e)

-- what is found with one more is found without it, or is that one
abbrev IsNew : MetaContext → ℕ → Type 0
IsNew context id = (context.id ≡ id) × (bytes_eq context.name (codes "base:allocation") ≡ true)

found_in : (agreed : List MetaContext) (context : MetaContext) (id : ℕ) → has_base (agreed ++ context ∷ []) id ≡ true → (has_base agreed id ≡ true) ⊎ IsNew context id
found_in [] context id has = go (context.id == id) refl has
  where
    go : (b : Bool) → (context.id == id) ≡ b → is_allocation (if b then Some context else None) ≡ true → (has_base [] id ≡ true) ⊎ IsNew context id
    go true is e = inr (eqb-true context.id id is, e)
    go false is e = absurd (false≢true e)
found_in (other ∷ others) context id has = go (other.id == id) (found_in others context id) has
  where
    go : (b : Bool) → (has_base (others ++ context ∷ []) id ≡ true → (has_base others id ≡ true) ⊎ IsNew context id) → is_allocation (if b then Some other else context_of id (others ++ context ∷ [])) ≡ true
        → (is_allocation (if b then Some other else context_of id others) ≡ true) ⊎ IsNew context id
    go true rest e = inl e
    go false rest e = rest e

alone_adding : (context : MetaContext) (agreed : List MetaContext) → IsAlone agreed → IsAlone (adding context agreed)
alone_adding context agreed alone = go (clashes context agreed) refl
  where
    both : clashes context agreed ≡ false → (a b : ℕ) → (has_base agreed a ≡ true) ⊎ IsNew context a → (has_base agreed b ≡ true) ⊎ IsNew context b → a ≡ b
    both is a b (inl x) (inl y) = alone a b x y
    both is a b (inl x) (inr y) = absurd (false≢true (sym is ∙ clash_found context a agreed y.1 x))
    both is a b (inr x) (inl y) = absurd (false≢true (sym is ∙ clash_found context b agreed x.1 y))
    both is a b (inr x) (inr y) = sym x.0 ∙ y.0

    go : (b : Bool) → clashes context agreed ≡ b → IsAlone (if b then agreed else agreed ++ context ∷ [])
    go true is = alone
    go false is = λ a b x y. both is a b (found_in agreed context a x) (found_in agreed context b y)

none_alone : IsAlone []
none_alone = λ a b x y. absurd (false≢true x)

told_alone : (replies : List Told) → IsAlone (contexts_told replies)
told_alone [] = none_alone
told_alone (told.Context context ∷ earlier) = alone_adding context (contexts_told earlier) (told_alone earlier)
told_alone (told.Ack ∷ earlier) = told_alone earlier
told_alone (told.Error code ∷ earlier) = told_alone earlier
told_alone (told.Server listed ∷ earlier) = told_alone earlier
told_alone (told.Export size ∷ earlier) = told_alone earlier
told_alone (told.Name name ∷ earlier) = told_alone earlier
told_alone (told.Description text ∷ earlier) = told_alone earlier
told_alone (told.Blocks blocks ∷ earlier) = told_alone earlier
told_alone (told.Passed ∷ earlier) = told_alone earlier

pub agreed_alone : (all : List Step) → IsAlone (contexts all)
agreed_alone [] = none_alone
agreed_alone (Answered by_caller option replies end ∷ earlier) = go (option == opt_set_meta_context) (is_acknowledged end) (agreed_alone earlier)
  where
    go : (a b : Bool) → IsAlone (contexts earlier) → IsAlone (if a then if b then contexts_told replies else [] else contexts earlier)
    go true true rest = told_alone replies
    go true false rest = none_alone
    go false b rest = rest
agreed_alone (ToldByName size flags ∷ earlier) = agreed_alone earlier
agreed_alone (Renamed ∷ earlier) = none_alone

-- ---- What is filed was filed while these were agreed.

-- each of these was
abbrev pub HaveThem : {K : Type 0} → List MetaContext → List (Filing K) → Type 0
HaveThem agreed [] = Unit {0}
HaveThem agreed (filing ∷ earlier) = (filing.contexts ≡ agreed) × HaveThem agreed earlier

module _ {K : Type 0} (before : History K) (turns : List Turn) (c : ℕ) where
  abbrev Agrees : Known K → Type 0
  Agrees known = (known.turns ≡ turns) × HaveThem (contexts (steps turns)) (own c known.entries)

  file_agrees : (k : ℕ) (item : Item) (known : Known K) → Agrees known → Agrees (file before k item known)
  file_agrees k item known a = go (request before k)
    where
      filed : (f : Filing K) → f.contexts ≡ contexts (steps turns) → HaveThem (contexts (steps turns)) (own c (Filed f ∷ known.entries))
      filed f is = elim (f.cookie == c) as (λ b. HaveThem (contexts (steps turns)) (if b then f ∷ own c known.entries else own c known.entries)) [ true ↦ (is, a.1) | false ↦ a.1 ]

      go : (asks : Option (Request K)) → Agrees (file_under asks k item known)
      go None = a
      go (Some q) = (a.0, filed (filing_of q k (own k known.entries) (agreed_contexts known) item known.answers) (ap (λ (t : List Turn). contexts (steps t)) a.0))

  all_agree : (item : Item) (list : List ℕ) (known : Known K) → Agrees known → Agrees (file_all before item list known)
  all_agree item [] known a = a
  all_agree item (k ∷ list) known a = all_agree item list (if in_flight before known.entries k then file before k item known else known) (go (in_flight before known.entries k))
    where
      go : (b : Bool) → Agrees (if b then file before k item known else known)
      go true = file_agrees k item known a
      go false = a

  die_agrees : (why : Cause) (known : Known K) → Agrees known → Agrees (die before why known)
  die_agrees why known a = all_agree Lost (cookies (asked before).issued) (record known { stage = Dead why }) a

  entered_agrees : (known : Known K) (found : Shown) → IsLater found → Agrees known → Agrees (entered before found known)
  entered_agrees known (Hello flags) is a = absurd is
  entered_agrees known (OptionReply told) is a = absurd is
  entered_agrees known (ExportReply size flags) is a = absurd is
  entered_agrees known (Reply frame) is a = file_agrees frame.cookie (Framed frame.content frame.last) known a
  entered_agrees known (Broken breach) is a = die_agrees (cause.Broke breach) known a
  entered_agrees known Passed is a = a
  entered_agrees known Ignored is a = a

  lasts : phase turns ≡ Ready → Lasts (rules before) Agrees
  lasts ready known bytes found a e = entered_agrees known found (later_found known (waited before known) bytes found (ap phase a.0 ∙ ready) e) a

  closing_agrees : (n : ℕ) (known : Known K) → Agrees known → Agrees (ended_closing n before known)
  closing_agrees zero known a = a
  closing_agrees (suc n) known a = die_agrees cause.Ended known a

  end_agrees : (s : Stage) (held : Held (Known K)) → Agrees held.known → Agrees (ended_at s before held).known
  end_agrees Open held a = die_agrees cause.Ended held.known a
  end_agrees Disconnecting held a = closing_agrees (flying before held.known.entries (asked before).issued) held.known a
  end_agrees Aborting held a = closing_agrees (flying before held.known.entries (asked before).issued) held.known a
  end_agrees Created held a = a
  end_agrees Closed held a = a
  end_agrees (Dead why) held a = a

  fail_agrees : (s : Stage) (held : Held (Known K)) → Agrees held.known → Agrees (failed_at s before held).known
  fail_agrees Open held a = die_agrees cause.LinkFailed held.known a
  fail_agrees Disconnecting held a = die_agrees cause.LinkFailed held.known a
  fail_agrees Aborting held a = die_agrees cause.LinkFailed held.known a
  fail_agrees Created held a = a
  fail_agrees Closed held a = a
  fail_agrees (Dead why) held a = a

  event_agrees : (event : Event K) → phase turns ≡ Ready → Agrees (reading before).known → HaveThem (contexts (steps turns)) (own c (reading (event ∷ before)).known.entries)
  event_agrees (Set setting) ready a = a.1
  event_agrees (StrictMode bits) ready a = a.1
  event_agrees Start ready a = a.1
  event_agrees (Opt option) ready a = a.1
  event_agrees Abort ready a = a.1
  event_agrees (Issue command) ready a = a.1
  event_agrees (Refuse command why) ready a = a.1
  event_agrees Disconnect ready a = a.1
  event_agrees (Wrote n) ready a = a.1
  event_agrees (Arrived bytes answers) ready a = (feed_lasts (rules before) Agrees (lasts ready) (change (with_answers answers) (reading before)) bytes a).1
  event_agrees (End answers) ready a = (end_agrees (reading before).known.stage (change (with_answers answers) (reading before)) a).1
  event_agrees (LinkFailed answers) ready a = (fail_agrees (reading before).known.stage (change (with_answers answers) (reading before)) a).1
  event_agrees (Retire cookie) ready a = a.1
  event_agrees ClearLog ready a = a.1
  event_agrees Close ready a = (all_agree Dropped (cookies (asked before).issued) (record (with_answers [] (reading before).known) { stage = Closed }) a).1

-- So it is with all that is filed since under a command for which nothing was.
module _ {K : Type 0} (limit : ℕ) (earlier : History K) (c : ℕ) where
  abbrev Alike : List (Filing K) → Type 0
  Alike filings = HaveThem (contexts (steps (reading earlier).known.turns)) filings

  pub since_agree : (since : History K) → Lawful limit (since ++ earlier) → phase (reading earlier).known.turns ≡ Ready → own c (reading earlier).known.entries ≡ [] → Alike (own c (reading (since ++ earlier)).known.entries)
  since_agree [] lawful ready none = subst Alike (sym none) tt
  since_agree (event ∷ since) lawful ready none =
      event_agrees (since ++ earlier) (reading earlier).known.turns c event ready (turns_stay limit since earlier lawful.0 ready, since_agree since lawful.0 ready none)
