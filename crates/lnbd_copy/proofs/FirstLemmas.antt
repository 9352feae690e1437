-- What the first connection of each side was told stays told, and calls that give no link, with no connect that fails, follow one another.
use Rattle.std.proofs.Common.{◌≡◌, ℕ, zero, suc, List, [], ◌∷◌, ◌++◌, Option, Some, None, false, refl, ap, sym, subst, ◌∙◌, append_assoc}
use Rattle.std.proofs.lemmas.List.{append-nil}
use Rattle.lnbd_history.specs.Events.{History}
use Rattle.lnbd_history.specs.Laws.{Lawful}
use Rattle.lnbd_link.specs.Call as wire
use Rattle.lnbd_link.specs.Numbers.{is_given}
use Rattle.lnbd_link.specs.Part.{Adds}
use Rattle.lnbd_model.specs.declared.export.ExportInfo.{ExportInfo}
use Rattle.lnbd_handle.specs.Histories.{max_unretired}
use Rattle.lnbd_asked.specs.Exports.{export_known}
use Rattle.lnbd_asked.proofs.Staying.{exports_stay}
use Rattle.lnbd_drives.specs.Exports.{export_in}
use Rattle.lnbd_poll.specs.Held.{Held, AreAt}
use Rattle.lnbd_poll.specs.Seen.{Seen}
use Rattle.lnbd_board.specs.declared.ticket.Ticket.{Ticket}
use Rattle.lnbd_course.proofs.Address.{given_stays}
use Rattle.lnbd_conduct.specs.Begun.{BeganAs}
use Rattle.lnbd_conduct.specs.Links.{AllConnected}
use Rattle.lnbd_copy.specs.Firsts.{Knows}
use Rattle.lnbd_copy.specs.Giving.{GivesNone}
use Rattle.lnbd_copy.proofs.BegunLemmas.{went_none}
use Rattle.lnbd_copy.proofs.RefusalLemmas.{connected_more}

none_some : (seen : Seen Ticket) → None ≡ Some seen → ⊥
none_some seen e = cc

some_same : (one other : Seen Ticket) → Some one ≡ Some other → one ≡ other
some_same one other e = cc

-- Each handle goes on.

abbrev pub AllGo : (before after : List (Seen Ticket)) → Type 0
AllGo [] [] = Unit {0}
AllGo [] (here ∷ there) = ⊥
AllGo (seen ∷ others) [] = ⊥
AllGo (seen ∷ others) (here ∷ there) = BeganAs seen.history here.history × AllGo others there

pub all_stay : (seens : List (Seen Ticket)) → AllGo seens seens
all_stay [] = tt
all_stay (seen ∷ others) = (went_none seen.history, all_stay others)

-- What a handle knows of its export it knows still.

knows_on : (info : ExportInfo) (before after : History Ticket) → BeganAs before after → Lawful max_unretired after → export_known before ≡ Some (export_in info) → export_known after ≡ Some (export_in info)
knows_on info before after went lawful known =
    subst (λ (h : History Ticket). export_known h ≡ Some (export_in info)) (sym went.are)
    (exports_stay max_unretired (export_in info) went.since before (subst (λ (h : History Ticket). Lawful max_unretired h) went.are lawful) known)

pub goes_knowing : (index : ℕ) (info : ExportInfo) (before after : List (Seen Ticket)) (held : List (Held Ticket)) → AllGo before after → AreAt held after → Knows index info before → Knows index info after
goes_knowing index info [] after held go at knows = absurd (none_some knows.seen knows.there)
goes_knowing index info (seen ∷ others) [] held go at knows = absurd go
goes_knowing index info (seen ∷ others) (here ∷ there) [] go at knows = absurd at
goes_knowing zero info (seen ∷ others) (here ∷ there) (one ∷ more) go at knows = record {
  seen = here;
  there = refl;
  known = knows_on info seen.history here.history go.0 at.0.stands.lawful (subst (λ (s : Seen Ticket). export_known s.history ≡ Some (export_in info)) (sym (some_same seen knows.seen knows.there)) knows.known);
}
goes_knowing (suc index) info (seen ∷ others) (here ∷ there) (one ∷ more) go at knows =
    let rest = goes_knowing index info others there more go.1 at.1 (record { seen = knows.seen; there = knows.there; known = knows.known }) in
    record { seen = rest.seen; there = rest.there; known = rest.known }

-- with handles more behind
pub more_knowing : (index : ℕ) (info : ExportInfo) (seens more : List (Seen Ticket)) → Knows index info seens → Knows index info (seens ++ more)
more_knowing index info [] more knows = absurd (none_some knows.seen knows.there)
more_knowing zero info (seen ∷ others) more knows = record { seen = knows.seen; there = knows.there; known = knows.known }
more_knowing (suc index) info (seen ∷ others) more knows =
    let rest = more_knowing index info others more (record { seen = knows.seen; there = knows.there; known = knows.known }) in
    record { seen = rest.seen; there = rest.there; known = rest.known }

-- Calls that give no link, and none of which is a connect that failed.

pub gives_none : (told : Option (List wire.Call)) → GivesNone told told
gives_none told = record { on = λ all is. record { before = all; more = []; was = is; are = sym (append-nil all); none = λ link. refl; connected = refl } }

pub adds_none : (a b : Option (List wire.Call)) (call : wire.Call) → ((link : ℕ) → is_given link (call ∷ []) ≡ false) → AllConnected (call ∷ []) → Adds a b call → GivesNone a b
adds_none a b call none connected adds = record { on = λ all is. let added = adds all is in record { before = added.0; more = call ∷ []; was = added.1; are = added.2; none = none; connected = connected } }

pub gives_then : (a b c : Option (List wire.Call)) → GivesNone a b → GivesNone b c → GivesNone a c
gives_then a b c one two = record {
  on = λ all is.
      let late = two.on all is in
      let early = one.on late.before late.was in
      record {
        before = early.before;
        more = early.more ++ late.more;
        was = early.was;
        are = late.are ∙ ap (λ (l : List wire.Call). l ++ late.more) early.are ∙ append_assoc early.before early.more late.more;
        none = λ link. given_stays link early.more late.more (late.none link) ∙ early.none link;
        connected = connected_more early.more late.more early.connected late.connected;
      };
}
