-- What the export told in a copy from a file settles how it is made, whatever it comes to.
use Rattle.std.proofs.Common.{◌≡◌, ℕ, List, [], Option, Some, None, sym, subst, ◌∙◌}
use Rattle.lnbd_link.specs.Call as wire
use Rattle.lnbd_model.specs.declared.export.ExportInfo.{ExportInfo}
use Rattle.lnbd_model.specs.declared.target.Place.{Place}
use Rattle.lnbd_plan.specs.declared.options.CopyOptions.{CopyOptions}
use Rattle.lnbd_plan.specs.declared.fault.Rule.{Rule}
use Rattle.lnbd_poll.specs.Held.{Held}
use Rattle.lnbd_board.specs.declared.ticket.Ticket.{Ticket}
use Rattle.lnbd_course.specs.Far.{FromFile}
use Rattle.lnbd_conduct.specs.declared.terms.Terms.{Terms}
use Rattle.lnbd_conduct.specs.Grounds.{IsShown}
use Rattle.lnbd_conduct.specs.Settled.{AreSettledBy}
use Rattle.lnbd_conduct.specs.Terms.{broken_rule}
use Rattle.lnbd_copy.specs.Grounds.{Happens}
use Rattle.lnbd_copy.specs.Lasting.{Lasts}
use Rattle.lnbd_copy.proofs.LastLemmas.{at_once, told_later}
use Rattle.lnbd_copy.proofs.TurnLemmas.{told_map}
use Rattle.lnbd_copyfile.specs.Shares.{as_read}
use Rattle.lnbd_copyfile.specs.FromFile.{HasMet, Seen, new_way}
use Rattle.lnbd_copyfile.proofs.LinkClauses.{shown_told}
use Rattle.lnbd_copyfile.specs.Shown.{FindsShown, HasShown}

-- Once the first connection is made.
pub met_shown : (options : CopyOptions) (size : ℕ) (to : Place) (start told : Option (List wire.Call)) (copy : Seen) (terms : Terms) → HasMet to terms start told copy →
    FindsShown options size copy.held terms → HasShown options size to start told terms
met_shown options size to start told copy terms met finds = record {
  info = finds.info;
  shown = told_map start told (λ calls on. at_once calls
      (shown_told (FromFile []) (new_way to (Some met.room) met.made.how) copy.board calls copy.held finds.info on finds.shown)) met.made.on;
  none = finds.none;
  settled = finds.settled;
}

pub shown_later : (options : CopyOptions) (size : ℕ) (to : Place) (start a b : Option (List wire.Call)) (terms terms' : Terms) → terms' ≡ terms → Lasts a b → HasShown options size to start a terms →
    HasShown options size to start b terms'
shown_later options size to start a b terms terms' same lasts s = subst (λ (t : Terms). HasShown options size to start b t) (sym same) (record {
  info = s.info;
  shown = told_later start a b lasts s.shown;
  none = s.none;
  settled = s.settled;
})

-- By what a file of this size is taken to tell.
pub finds_as : (options : CopyOptions) (size : ℕ) (held : List (Held Ticket)) (source info : ExportInfo) (terms : Terms) (rule : Option Rule) → source ≡ as_read size →
    Happens (IsShown info) 0 held → rule ≡ broken_rule source info → rule ≡ None → AreSettledBy options source info terms → FindsShown options size held terms
finds_as options size held source info terms rule is shown first none settled = record {
  info = info;
  shown = shown;
  none = subst (λ (s : ExportInfo). broken_rule s info ≡ None) is (sym first ∙ none);
  settled = subst (λ (s : ExportInfo). AreSettledBy options s info terms) is settled;
}
