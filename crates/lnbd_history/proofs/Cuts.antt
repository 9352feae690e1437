-- Cuts do not matter: what was asked is the same after bytes came.
use Rattle.std.proofs.Common.{◌≡◌, ℕ, cond, List, [], ◌∷◌, refl, ap, sym, ◌∙◌}
use Rattle.lnbd_model.specs.declared.state.Cause.{Cause}
use Rattle.lnbd_model.specs.declared.state.Cause.TheVariants as cause
use Rattle.lnbd_stream.specs.Stream.{feed}
use Rattle.lnbd_stream.proofs.Stream.{feed-append}
use Rattle.lnbd_history.specs.declared.kinds.Phase.{Phase}
use Rattle.lnbd_history.specs.declared.kinds.Phase.TheVariants as phase
use Rattle.lnbd_history.specs.declared.kinds.Stage.TheVariants.{Dead}
use Rattle.lnbd_history.specs.Agreement.{Replied, phase}
use Rattle.lnbd_history.specs.Arrivals.{Shown, Hello, OptionReply, ExportReply, Reply, Broken, Passed, Ignored, shows_at}
use Rattle.lnbd_history.specs.Entries.{Item, Lost}
use Rattle.lnbd_history.specs.Events.{Answer, History, Arrived}
use Rattle.lnbd_history.specs.History.{Known, asked, cookies, in_flight, file, file_all, die, if_refused, turned, entered, sight, waited, rules, change, with_answers, reading}
use Rattle.lnbd_history.specs.Laws.{CutsDoNotMatter}

module _ {K : Type 0} (before : History K) (first : List ℕ) (answers : List Answer) where
  file_all_later : (item : Item) (list : List ℕ) (known : Known K) → file_all (Arrived first answers ∷ before) item list known ≡ file_all before item list known
  file_all_later item [] known = refl
  file_all_later item (c ∷ list) known = file_all_later item list (cond (in_flight before known.entries c) (file before c item known) known)

  die_later : (reason : Cause) (known : Known K) → die (Arrived first answers ∷ before) reason known ≡ die before reason known
  die_later reason known = file_all_later Lost (cookies (asked before).issued) (record known { stage = Dead reason })

  refused_later : (p : Phase) (known : Known K) → if_refused p (Arrived first answers ∷ before) known ≡ if_refused p before known
  refused_later (phase.Refused code) known = die_later (cause.Refused 7 code) known
  refused_later (phase.Asked option) known = refl
  refused_later phase.Greeting known = refl
  refused_later phase.AskedByName known = refl
  refused_later phase.OptMode known = refl
  refused_later phase.Ready known = refl

  entered_later : (found : Shown) (known : Known K) → entered (Arrived first answers ∷ before) found known ≡ entered before found known
  entered_later (Hello flags) known = refl
  entered_later (OptionReply told) known = refused_later (phase (Replied told ∷ known.turns)) (turned (Replied told) known)
  entered_later (ExportReply size flags) known = refl
  entered_later (Reply frame) known = refl
  entered_later (Broken breach) known = die_later (cause.Broke breach) known
  entered_later Passed known = refl
  entered_later Ignored known = refl

  pub rules_later : rules (Arrived first answers ∷ before) ≡ rules before
  rules_later = λ i. record { shows = λ known. shows_at known.stage (sight known) (waited before known); enter = λ found known. entered_later found known i }

module _ {K : Type 0} where
  pub cuts_do_not_matter : CutsDoNotMatter K
  cuts_do_not_matter before first second answers =
      ap (λ r. feed r (feed (rules before) (change (with_answers answers) (reading before)) first) second) (rules_later before first answers)
      ∙ sym (feed-append (rules before) (change (with_answers answers) (reading before)) first second)
