-- How the conversation on a link goes.
use Rattle.std.proofs.Common.{◌≡◌, ◌⊎◌, inl, inr, ℕ, ◌<◌, ◌≤◌, Bool, true, false, List, [], ◌∷◌, Option, Some, None, refl, sym, ◌∙◌, ap, subst, arith}
use Rattle.std.specs.Prelude.{if◌then◌else◌}
use Rattle.std.proofs.lemmas.Bool.{false≢true}
use Rattle.lnbd_model.specs.declared.export.ExportInfo.{ExportInfo}
use Rattle.lnbd_history.specs.Answers.{state_after}
use Rattle.lnbd_history.specs.Commands.{Request}
use Rattle.lnbd_history.specs.Events.{Disconnect, History, Set, StrictMode, Start, Opt, Abort, Issue, Refuse, Wrote, Arrived, End, LinkFailed, Retire, ClearLog, Close}
use Rattle.lnbd_history.specs.History.{request}
use Rattle.lnbd_tracks.proofs.Unfiled.{request_stays}
use Rattle.lnbd_ask.proofs.LostLemmas.{parting_kept}
use Rattle.lnbd_poll.specs.Seen.{Seen}
use Rattle.lnbd_waits.specs.Begun.{disconnecting, is_ready, parting}
use Rattle.lnbd_dump.specs.declared.asking.Plan.{Plan}
use Rattle.lnbd_reel.specs.declared.ranges.Span.{Span}
use Rattle.lnbd_dump.specs.declared.reader.Latest.{Latest}
use Rattle.lnbd_dump.specs.declared.reader.Reader.{Reader}
use Rattle.lnbd_reel.specs.declared.reel.Run.{Run}
use Rattle.lnbd_dump.specs.declared.stop.Stop.{Stop}
use Rattle.lnbd_dump.specs.declared.stop.Stop.TheVariants as stop
use Rattle.lnbd_dump.specs.declared.terms.Terms.{Terms}
use Rattle.lnbd_ask.specs.Maps.{block_of}
use Rattle.lnbd_dump.specs.Conduct.{AreWell, AsksNothing, WasToldWhole}
use Rattle.lnbd_dump.specs.Course.{IsUnderWay}
use Rattle.lnbd_dump.specs.Leads.{Leads, TellsZero}
use Rattle.lnbd_reel.specs.Reel.{AreRuns, AreSpared}
use Rattle.lnbd_dump.specs.Stops.{IsEnd, IsStop}
use Rattle.lnbd_dump.specs.Talks.{IsFresh}
use Rattle.lnbd_dump.specs.Terms.{AreTerms, BeginsWith}
use Rattle.lnbd_dump.proofs.LaterLemmas.{later_event}
use Rattle.lnbd_dump.proofs.LeadLemmas.{leads_event, leads_none}

-- ---- Nothing was asked yet.

pub none_there : (q : Request Reader) → None ≡ Some q → ⊥
none_there q e = cc

-- then there is no request
pub unasked_none : (history : History Reader) → AsksNothing history → (c : ℕ) → request history c ≡ None
unasked_none [] u c = refl
unasked_none (Issue command ∷ before) u c = absurd u
unasked_none (Set setting ∷ before) u c = request_stays before (Set setting) c refl ∙ unasked_none before u c
unasked_none (StrictMode bits ∷ before) u c = request_stays before (StrictMode bits) c refl ∙ unasked_none before u c
unasked_none (Start ∷ before) u c = request_stays before Start c refl ∙ unasked_none before u c
unasked_none (Opt option ∷ before) u c = request_stays before (Opt option) c refl ∙ unasked_none before u c
unasked_none (Abort ∷ before) u c = request_stays before Abort c refl ∙ unasked_none before u c
unasked_none (Refuse command why ∷ before) u c = request_stays before (Refuse command why) c refl ∙ unasked_none before u c
unasked_none (Disconnect ∷ before) u c = request_stays before Disconnect c refl ∙ unasked_none before u c
unasked_none (Wrote n ∷ before) u c = request_stays before (Wrote n) c refl ∙ unasked_none before u c
unasked_none (Arrived bytes answers ∷ before) u c = request_stays before (Arrived bytes answers) c refl ∙ unasked_none before u c
unasked_none (End answers ∷ before) u c = request_stays before (End answers) c refl ∙ unasked_none before u c
unasked_none (LinkFailed answers ∷ before) u c = request_stays before (LinkFailed answers) c refl ∙ unasked_none before u c
unasked_none (Retire cookie ∷ before) u c = request_stays before (Retire cookie) c refl ∙ unasked_none before u c
unasked_none (ClearLog ∷ before) u c = request_stays before ClearLog c refl ∙ unasked_none before u c
unasked_none (Close ∷ before) u c = request_stays before Close c refl ∙ unasked_none before u c

-- and all that was asked was asked well
pub unasked_well : (info : ExportInfo) (history : History Reader) → AsksNothing history → AreWell info history
unasked_well info [] u = tt
unasked_well info (Issue command ∷ before) u = absurd u
unasked_well info (Set setting ∷ before) u = unasked_well info before u
unasked_well info (StrictMode bits ∷ before) u = unasked_well info before u
unasked_well info (Start ∷ before) u = unasked_well info before u
unasked_well info (Opt option ∷ before) u = unasked_well info before u
unasked_well info (Abort ∷ before) u = unasked_well info before u
unasked_well info (Refuse command why ∷ before) u = unasked_well info before u
unasked_well info (Disconnect ∷ before) u = unasked_well info before u
unasked_well info (Wrote n ∷ before) u = unasked_well info before u
unasked_well info (Arrived bytes answers ∷ before) u = unasked_well info before u
unasked_well info (End answers ∷ before) u = unasked_well info before u
unasked_well info (LinkFailed answers ∷ before) u = unasked_well info before u
unasked_well info (Retire cookie ∷ before) u = unasked_well info before u
unasked_well info (ClearLog ∷ before) u = unasked_well info before u
unasked_well info (Close ∷ before) u = unasked_well info before u

-- So the dump of whole blocks is begun.
pub begun_under : (info : ExportInfo) (plan : Plan) (runs : List Run) (world : Latest) (history : History Reader) (terms : Terms) (span : Span) → AreTerms info terms → IsFresh info world history
    → plan ≡ record { at = span.first; known = (if terms.agreed then span.first else span.last); end = span.last; block = terms.block; piece = terms.piece; agreed = terms.agreed } → BeginsWith plan runs → IsUnderWay info plan.at plan runs [] world history
begun_under info plan runs world history terms span are fresh is begins = record {
  fits = record { block = ap (λ (p : Plan). p.block) is ∙ are.block; piece = ap (λ (p : Plan). p.piece) is ∙ are.piece; agreed = ap (λ (p : Plan). p.agreed) is ∙ are.agreed };
  course = record {
    knows = fresh.knows;
    well = unasked_well info history fresh.none;
    keeps = fresh.keeps;
    tied = fresh.tied;
    unread = λ k asks there read. absurd (none_there asks (sym (unasked_none history fresh.none k) ∙ there));
    statuses = λ k asks there some. absurd (none_there asks (sym (unasked_none history fresh.none k) ∙ there));
    answered = λ agreed p low high. absurd (known_none (ap (λ (p : Plan). p.agreed) is ∙ are.agreed ∙ agreed) p low high);
    runs_are = go begins;
    listens = λ k asks there kind. absurd (none_there asks (sym (unasked_none history fresh.none k) ∙ there));
    spared = go_spared begins;
    beyond = λ p low w. none_told p w;
  };
  laid = refl;
}
  where
    known_is : plan.agreed ≡ true → plan.known ≡ plan.at
    known_is e = ap (λ (p : Plan). p.known) is ∙ ap (λ (b : Bool). if b then span.first else span.last) (sym (ap (λ (p : Plan). p.agreed) is) ∙ e) ∙ sym (ap (λ (p : Plan). p.at) is)

    known_none : plan.agreed ≡ true → (p : ℕ) → plan.at ≤ p → p < plan.known → ⊥
    known_none e p low high = let k = known_is e in omega (arith, k, low, high)

    none_told : (p : ℕ) → WasToldWhole (block_of info) history p → ⊥
    none_told p w = none_there w.asks (sym (unasked_none history fresh.none w.cookie) ∙ w.asked)

    go_spared : ((plan.at ≡ plan.known) × (runs ≡ [])) ⊎ ((plan.at < plan.known) × (runs ≡ record { end = plan.known; zero = false } ∷ [])) → AreSpared (WasToldWhole (block_of info) history) plan.at runs plan.known
    go_spared (inl none) = subst (λ (l : List Run). AreSpared (WasToldWhole (block_of info) history) plan.at l plan.known) (sym none.1) none.0
    go_spared (inr one) = subst (λ (l : List Run). AreSpared (WasToldWhole (block_of info) history) plan.at l plan.known) (sym one.1) ((λ e p low high w. none_told p w), refl)

    go : ((plan.at ≡ plan.known) × (runs ≡ [])) ⊎ ((plan.at < plan.known) × (runs ≡ record { end = plan.known; zero = false } ∷ [])) → AreRuns (TellsZero history) plan.at runs plan.known
    go (inl none) = subst (λ (l : List Run). AreRuns (TellsZero history) plan.at l plan.known) (sym none.1) none.0
    go (inr one) = subst (λ (l : List Run). AreRuns (TellsZero history) plan.at l plan.known) (sym one.1) (one.0, (λ z p low high. absurd (false≢true z)), refl)

-- ---- How it ends.

pub stop_end : (offset : ℕ) (given : Option ℕ) (history : History Reader) (why : Stop) → IsStop history why → IsEnd offset given history why
stop_end offset given history (stop.Halted why) s = s
stop_end offset given history (stop.Died cause) s = s
stop_end offset given history (stop.Broke breach) s = s
stop_end offset given history (stop.Failed error) s = s
stop_end offset given history stop.Output s = s
stop_end offset given history (stop.Range size) s = absurd s
stop_end offset given history (stop.Uneven size block) s = absurd s

-- the end is asked for
pub parts_lead : (seen : Seen Reader) → Leads false seen [] (parting seen) (parting seen)
parts_lead seen = go (is_ready (state_after seen.history)) refl
  where
    go : (b : Bool) → is_ready (state_after seen.history) ≡ b → Leads false seen [] (parting seen) (parting seen)
    go true e = subst (λ (c : Bool). Leads false seen [] (record { link = seen.link; history = disconnecting c seen.history; unread = seen.unread }) (record { link = seen.link; history = disconnecting c seen.history; unread = seen.unread })) (sym e)
        (leads_event seen Disconnect refl tt refl (λ k. parting_kept true seen.history k) (later_event Disconnect seen.history refl (λ k. k)))
    go false e = subst (λ (c : Bool). Leads false seen [] (record { link = seen.link; history = disconnecting c seen.history; unread = seen.unread }) (record { link = seen.link; history = disconnecting c seen.history; unread = seen.unread })) (sym e) (leads_none false seen)
