-- The first connection of a source that agreed no meta context is shown by the calls.
use Rattle.std.proofs.Common.{◌≡◌, ℕ, Bool, true, List, [], ◌∷◌, length, Some, refl, ap, sym, subst, ◌∙◌}
use Rattle.std.proofs.lemmas.List.{append-nil}
use Rattle.lnbd_model.specs.declared.export.Context.{Context}
use Rattle.lnbd_model.specs.declared.export.ExportInfo.{ExportInfo}
use Rattle.lnbd_link.specs.Call as wire
use Rattle.lnbd_link.specs.Numbers.{is_given}
use Rattle.lnbd_link.specs.Traffic.{target_of}
use Rattle.lnbd_history.specs.Events.{History}
use Rattle.lnbd_asked.specs.Exports.{name_set}
use Rattle.lnbd_poll.specs.Held.{Held}
use Rattle.lnbd_board.specs.declared.ticket.Ticket.{Ticket}
use Rattle.lnbd_board.specs.Files as board
use Rattle.lnbd_course.specs.Between.{place_of}
use Rattle.lnbd_course.proofs.Asking.{not_one}
use Rattle.lnbd_course.proofs.Holding.{one_has}
use Rattle.lnbd_conduct.specs.Begun.{opened}
use Rattle.lnbd_copy.specs.Grounds.{Happens}
use Rattle.lnbd_conduct.specs.Grounds.{IsShown}
use Rattle.lnbd_conduct.specs.Answered.{FirstAgreedNone, HasNoContext, contexts_in}
use Rattle.lnbd_copy.specs.Way.{IsOn, Way}
use Rattle.lnbd_copy.proofs.BegunLemmas.{first_began}
use Rattle.lnbd_copy.proofs.GroundLemmas.{driven_at, given_at}
use Rattle.lnbd_copy.proofs.HeardLemmas.{first_there}

-- What was told names no context.
pub has_no_context : (info : ExportInfo) (index : ℕ) (held : List (Held Ticket)) → length info.contexts ≡ 0 → Happens (IsShown info) index held → Happens HasNoContext index held
has_no_context info index held none happens = record {
  on = λ seens at.
      let h = happens.on seens at in
      record { seen = h.seen; there = h.there; is = record { ready = h.is.ready; none = ap contexts_in h.is.shown ∙ empty info.contexts none } };
}
  where
    empty : (contexts : List Context) → length contexts ≡ 0 → contexts ≡ []
    empty [] e = refl
    empty (first ∷ others) e = absurd (cc e)

-- The calls show it, while all connections are held.
pub first_agreed_none : (way : Way) (now : board.Seen) (calls : List wire.Call) (held : List (Held Ticket)) → Happens HasNoContext 0 held → IsOn way now calls held → FirstAgreedNone way.extents way.from calls
first_agreed_none way now calls held happens on =
    let h = happens.on on.seens on.at in
    let between = on.stands.between in
    let course = between.course in
    let given : is_given h.seen.link calls ≡ true = given_at calls h.seen.link (is_given h.seen.link calls) refl (λ none. not_one h.seen.link 0 h.seen on.seens h.there (course.unused h.seen.link none).apart refl) in
    let side : on.has h.seen.link ≡ true = on.sided 0 h.seen h.there in
    record {
      before = calls;
      after = [];
      are = sym (append-nil calls);
      link = h.seen.link;
      history = h.seen.history;
      first = on.hears.first ∙ first_there on.seens h.seen h.there;
      drives = driven_at calls 0 h.seen held on.seens h.there on.at course.drive.drive course.drive.plain;
      address = subst (λ (b : Bool). target_of h.seen.link calls ≡ Some (place_of way.from way.to b).to) side (between.placed.address h.seen.link given);
      name = ap (λ (history : History Ticket). name_set history) (sym (one_has 0 h.seen course.histories on.seens h.there course.held)) ∙ subst (λ (b : Bool). name_set (course.histories h.seen.link) ≡ (place_of way.from way.to b).name) side (between.placed.name h.seen.link given);
      begun = first_began (opened way.from.name way.extents) on.seens h.seen h.there on.hears.begun;
      none = h.is;
    }
