-- What is shown of a part, and of all parts so far.
use Rattle.std.proofs.Common.{◌≡◌, ◌⊎◌, inl, inr, ℕ, Bool, true, false, ◌+◌, ◌-◌, ◌<◌, ◌≤◌, List, [], ◌∷◌, ◌++◌, take, drop, get_or, Option, Some, None, Result, Ok, Err, refl, sym, ap, subst, arith}
use Rattle.std.specs.Prelude.{OnOk, option_to_list, replicate}
use Rattle.std.proofs.lemmas.Bool.{false≢true}
use Rattle.std.proofs.lemmas.List.{append-nil}
use Rattle.lnbd_hexdump.specs.Dump.{dump}
use Rattle.lnbd_hexdump.specs.Said.{Ends, Fed, Kept, Stands}
use Rattle.lnbd_model.specs.declared.export.ExportInfo.{ExportInfo}
use Rattle.lnbd_history.specs.Answers.{completed_after}
use Rattle.lnbd_history.specs.declared.kinds.Completed.TheVariants as completed
use Rattle.lnbd_history.specs.Events.{History, Retire}
use Rattle.lnbd_link.specs.Call as wire
use Rattle.lnbd_link.specs.Part.{Grows, Takes, TakesFront}
use Rattle.lnbd_link.proofs.Parts.{grows_none, grows_on, takes_none, takes_on}
use Rattle.lnbd_poll.specs.Held.{Held}
use Rattle.lnbd_poll.specs.Seen.{Seen, Went}
use Rattle.lnbd_poll.specs.Turns.{Blames}
use Rattle.lnbd_poll.proofs.TurnLemmas.{blames_on}
use Rattle.lnbd_waits.specs.Waits.{Holds}
use Rattle.lnbd_dump.specs.declared.asking.Plan.{Plan}
use Rattle.lnbd_dump.specs.declared.reader.Latest.{Latest}
use Rattle.lnbd_dump.specs.declared.reader.Reader.{Reader}
use Rattle.lnbd_reel.specs.declared.reel.Part.{Part}
use Rattle.lnbd_reel.specs.declared.reel.Run.{Run}
use Rattle.lnbd_dump.specs.declared.stop.Stop.{Stop}
use Rattle.lnbd_dump.specs.Course.{IsUnderWay}
use Rattle.lnbd_dump.specs.Leads.{Acts, By_status, GoesTo, IsRead, Leads, Tells, TellsZero}
use Rattle.lnbd_reel.specs.Reel.{IsBegun}
use Rattle.lnbd_reel.specs.Said.{IsSaid, shown_to}
use Rattle.lnbd_dump.specs.Showing.{FinishesWith, Goes, HasNext, IsTaken, Says, SaysFront, SaysPart, Shows, ShowsPart, StaysWell}
use Rattle.lnbd_reel.specs.Said.{ShownPart}
use Rattle.lnbd_dump.specs.Stops.{HasStop, IsStop, is_failed}
use Rattle.lnbd_dump.specs.Takes.{TakesResult}
use Rattle.lnbd_dump.proofs.AskLemmas.{read_told}
use Rattle.lnbd_dump.proofs.CourseLemmas.{under_quiet}
use Rattle.lnbd_dump.proofs.LaterLemmas.{grown_event, quiet_event, quiet_none, tells_later}
use Rattle.lnbd_dump.proofs.LeadLemmas.{leads_less, leads_none, leads_on}
use Rattle.lnbd_reel.proofs.ShownLemmas.{nothing_said, part_all, part_all_cut, part_cut, part_front, said_keeps, says_bytes, says_zeros}

goes_none : (history : History Reader) → Goes history history
goes_none history = record { quiet = quiet_none history; tied = λ world t. t }

goes_retired : (cookie : ℕ) (history : History Reader) → Goes history (Retire cookie ∷ history)
goes_retired cookie history = record { quiet = quiet_event (Retire cookie) history refl refl (λ info w. w) (λ u. u) (λ k. k); tied = λ world t. t }

-- What was told as zero is said.
pub says_none : (r : Result (Unit {0}) Stop) (history : History Reader) (offset end from until : ℕ) (part : Part) (kept kept' : Kept) (old text : List ℕ) → old ≡ [] → shown_to offset end (part.start + part.length) ≡ shown_to offset end part.start + (until - from) → from ≤ until
    → (from < until → part.start + from ≡ offset + shown_to offset end part.start) → until ≤ part.length → part.cookie ≡ None → OnOk r (Fed kept kept' (replicate (until - from) 0) old text) → Says r offset end part kept kept' text history history
says_none (Err why) history offset end from until part kept kept' old text empty long order place within none fed = (λ info w. w, tt)
says_none (Ok done) history offset end from until part kept kept' old text empty long order place within none fed = (
  λ info w. w,
  (
    goes_none history,
    λ taken. (
        let zero : (p : ℕ) → part.start ≤ p → p < part.start + part.length → TellsZero history p = subst (λ (k : Option ℕ). IsBegun (TellsZero history) (IsRead history) part.start part.length k) none taken.begun in
        let well : Result (Unit {0}) Stop = Ok done in
        says_zeros well (Tells history) offset end part.start (part.start + part.length) from until part.length kept kept' old text empty long order place within (λ p low high. By_status refl (zero p low high)) fed),
  ),
)

-- What a read told is said.
pub says_some : (r : Result (Unit {0}) Stop) (history : History Reader) (offset end from until cookie : ℕ) (part : Part) (kept kept' : Kept) (bytes piece old text : List ℕ) → old ≡ [] → shown_to offset end (part.start + part.length) ≡ shown_to offset end part.start + (until - from) → from ≤ until
    → (from < until → part.start + from ≡ offset + shown_to offset end part.start) → until ≤ part.length → part.cookie ≡ Some cookie → completed_after history cookie ≡ completed.Done bytes → piece ≡ take (until - from) (drop from bytes) → OnOk r (Fed kept kept' piece old text)
    → Says r offset end part kept kept' text history (Retire cookie ∷ history)
says_some (Err why) history offset end from until cookie part kept kept' bytes piece old text empty long order place within some done cut fed = (λ info w. w, tt)
says_some (Ok ok) history offset end from until cookie part kept kept' bytes piece old text empty long order place within some done cut fed = (
  λ info w. w,
  (
    goes_retired cookie history,
    λ taken. (
        let read : IsRead history cookie part.start part.length = subst (λ (k : Option ℕ). IsBegun (TellsZero history) (IsRead history) part.start part.length k) some taken.begun in
        let told = read_told history cookie part.start part.length bytes read taken.keeps done in
        let later = grown_event (Retire cookie) history refl in
        let well : Result (Unit {0}) Stop = Ok ok in
        says_bytes well (Tells history) (Tells (Retire cookie ∷ history)) (tells_later history (Retire cookie ∷ history) later) offset end part.start (part.start + part.length) from until part.length kept kept' bytes piece old text empty long order place within told.0
        (λ i lt. tells_later history (Retire cookie ∷ history) later (part.start + i) (get_or bytes i 0) (told.1 i lt)) cut fed),
  ),
)

pub says_taken : (r : Result (Unit {0}) Stop) (before after : History Reader) (offset end from until cookie : ℕ) (part : Part) (kept kept' : Kept) (bytes piece old text : List ℕ) → old ≡ [] → shown_to offset end (part.start + part.length) ≡ shown_to offset end part.start + (until - from) → from ≤ until
    → (from < until → part.start + from ≡ offset + shown_to offset end part.start) → until ≤ part.length → part.cookie ≡ Some cookie → TakesResult cookie bytes before after → piece ≡ take (until - from) (drop from bytes) → OnOk r (Fed kept kept' piece old text)
    → Says r offset end part kept kept' text before after
says_taken r before after offset end from until cookie part kept kept' bytes piece old text empty long order place within some takes cut fed =
    subst (λ (h : History Reader). Says r offset end part kept kept' text before h) (sym takes.is) (says_some r before offset end from until cookie part kept kept' bytes piece old text empty long order place within some takes.done cut fed)

-- ---- What the output took of a part.

pub part_shown : (offset count : ℕ) (part : Part) (kept kept' : Kept) (text : List ℕ) (taken taken' : Option (List ℕ)) (before after : History Reader) (done : Unit {0}) (ok : Result (Unit {0}) Stop) → ok ≡ Ok done → Says ok offset (offset + count) part kept kept' text before after → Takes taken taken' text
    → StaysWell before after × Goes before after × (IsTaken part before → SaysPart offset count part kept kept' taken taken' before after)
part_shown offset count part kept kept' text taken taken' before after done (Ok d) is says took =
    (says.0, says.1.0, λ t begun front said takes. (text, says.1.1 t front said, takes_on begun taken taken' front text takes took))
part_shown offset count part kept kept' text taken taken' before after done (Err why) is says took = absurd (cc is)

pub part_unsaid : (offset count : ℕ) (part : Part) (kept : Kept) (taken : Option (List ℕ)) (before after : History Reader) → ((p byte : ℕ) → Tells before p byte → Tells after p byte) → SaysFront offset count part kept taken taken before after
part_unsaid offset count part kept taken before after later begun front said takes =
    part_front (Tells after) offset count part.start kept front begun taken (said_keeps (Tells before) (Tells after) later offset (offset + count) part.start kept front said) takes

pub part_broken : (offset count : ℕ) (part : Part) (kept kept' : Kept) (text : List ℕ) (taken taken' : Option (List ℕ)) (before after : History Reader) (done : Unit {0}) (ok : Result (Unit {0}) Stop) → ok ≡ Ok done → Says ok offset (offset + count) part kept kept' text before after → TakesFront taken taken' text
    → StaysWell before after × (IsTaken part before → SaysFront offset count part kept taken taken' before after)
part_broken offset count part kept kept' text taken taken' before after done (Ok d) is says cut =
    (says.0, λ t begun front said takes. part_cut (Tells after) offset count (part.start + part.length) kept' front text begun taken taken' (says.1.1 t front said) takes cut)
part_broken offset count part kept kept' text taken taken' before after done (Err why) is says cut = absurd (cc is)

-- ---- All so far.

-- All up to a position is shown, and the parts that are under way lie behind it.
pub record SoFar (info : ExportInfo) (offset count at : ℕ) (plan : Plan) (runs : List Run) (reel : List Part) (world : Latest) (kept : Kept) (begun taken : Option (List ℕ)) (history : History Reader) : Type 0 where
  pub under : IsUnderWay info at plan runs reel world history
  pub front : List ℕ
  pub said : IsSaid (Tells history) offset (offset + count) at kept front
  pub takes : Takes begun taken front

taken_first : (info : ExportInfo) (at : ℕ) (plan : Plan) (runs : List Run) (part : Part) (rest : List Part) (world : Latest) (history : History Reader) → IsUnderWay info at plan runs (part ∷ rest) world history → IsTaken part history
taken_first info at plan runs part rest world history u = record { begun = u.laid.2; keeps = u.course.keeps }

-- where nothing broke off it ends where it stands
leads_here : (before after ended : Seen Reader) (part : List wire.Call) → Leads false before part after ended → Leads false before part after after
leads_here before after ended part leads = subst (λ (e : Seen Reader). Leads false before part after e) (leads.same refl) leads

-- nothing is shown where it doesn't begin
pub show_stops : (why : Stop) (plan : Plan) (runs : List Run) (world : Latest) (offset count : ℕ) (taken : Option (List ℕ)) (history : History Reader) → Shows {A = Unit {0}} (Err why) plan runs world offset count taken taken history history history
show_stops why plan runs world offset count taken history info u = (
  u.course.well,
  tt,
  record {
    bytes = [];
    told_are = λ i lt. absurd (omega (arith, lt));
    few = omega arith;
    text = [];
    takes = takes_none taken;
    front = λ more fits. record { rest = dump offset more; is = refl };
  },
)

-- One plan is begun, where the handle stands.
module _ (plan0 : Plan) (runs0 : List Run) (world0 : Latest) (offset count : ℕ) (begun : Option (List ℕ)) (before : Seen Reader) (a : Option (List wire.Call)) (f : ℕ) where
  pub record IsShown (b : Option (List wire.Call)) (g : ℕ) (all : List (Held Reader)) (at : ℕ) (plan : Plan) (runs : List Run) (reel : List Part) (world : Latest) (kept : Kept) (taken : Option (List ℕ)) : Type 0 where
    pub part : List wire.Call
    pub after : Seen Reader
    pub grown : Grows a b part
    pub there : Holds all after
    pub leads : Leads false before part after after
    pub blames : Blames part f g
    pub shows : (info : ExportInfo) → IsUnderWay info plan0.at plan0 runs0 [] world0 before.history → SoFar info offset count at plan runs reel world kept begun taken after.history

  -- nothing is shown yet
  pub shown_none : (all : List (Held Reader)) (reel : List Part) (kept : Kept) → reel ≡ [] → Holds all before → plan0.at ≤ offset → Stands offset [] kept → IsShown a f all plan0.at plan0 runs0 reel world0 kept begun
  shown_none all reel kept none at low stands = record {
    part = [];
    after = before;
    grown = grows_none a;
    there = at;
    leads = leads_none false before;
    blames = λ never. absurd (false≢true never);
    shows = λ info u. record { under = subst (λ (l : List Part). IsUnderWay info plan0.at plan0 runs0 l world0 before.history) (sym none) u; front = []; said = nothing_said (Tells before.history) offset (offset + count) plan0.at kept low stands; takes = takes_none begun };
  }

  -- the next part is had
  pub shown_next : (b c : Option (List wire.Call)) (g h : ℕ) (all all' : List (Held Reader)) (at : ℕ) (plan plan' : Plan) (runs runs' : List Run) (reel reel' : List Part) (world world' : Latest) (kept : Kept) (taken : Option (List ℕ)) (result : Result (Option Part) Stop) (found : Option Part)
      → result ≡ Ok found → f ≤ g → g ≤ h → IsShown b g all at plan runs reel world kept taken → GoesTo (is_failed result) b c g h all all' (λ s t. HasStop result t.history × HasNext result plan runs reel world s.history plan' runs' reel' world' t.history)
      → IsShown c h all' at plan' runs' (option_to_list found ++ reel') world' kept taken
  shown_next b c g h all all' at plan plan' runs runs' reel reel' world world' kept taken (Err why) found is up up2 s goes = absurd (cc is)
  shown_next b c g h all all' at plan plan' runs runs' reel reel' world world' kept taken (Ok one) found is up up2 s goes =
      let went = goes s.after s.there in
      let same : one ≡ found = cc is in
      record {
        part = s.part ++ went.calls;
        after = went.after;
        grown = grows_on a b c s.part went.calls s.grown went.grown;
        there = went.at;
        leads = leads_on false before s.after s.after went.after went.after s.part went.calls s.leads (leads_here s.after went.after went.leads.0 went.calls went.leads.1);
        blames = blames_on s.part went.calls f g h s.blames went.leads.2 up up2;
        shows = λ info u. (
            let now = s.shows info u in
            record {
              under = subst (λ (o : Option Part). IsUnderWay info at plan' runs' (option_to_list o ++ reel') world' went.after.history) same (went.leads.3.1 info at now.under).1;
              front = now.front;
              said = said_keeps (Tells s.after.history) (Tells went.after.history) (tells_later s.after.history went.after.history went.leads.1.later.grown) offset (offset + count) at kept now.front now.said;
              takes = now.takes;
            });
      }

  -- the first part is shown
  pub shown_part : (b : Option (List wire.Call)) (g : ℕ) (all all' : List (Held Reader)) (at : ℕ) (plan : Plan) (runs : List Run) (part : Part) (rest : List Part) (world : Latest) (kept kept' : Kept) (taken taken' : Option (List ℕ)) (result : Result (Unit {0}) Stop) (done : Unit {0}) → result ≡ Ok done
      → IsShown b g all at plan runs (part ∷ rest) world kept taken → Acts all all' (λ s t. HasStop result t.history × ShowsPart result offset count part kept kept' taken taken' s.history t.history)
      → IsShown b g all' (part.start + part.length) plan runs rest world kept' taken'
  shown_part b g all all' at plan runs part rest world kept kept' taken taken' (Err why) done is s acts = absurd (cc is)
  shown_part b g all all' at plan runs part rest world kept kept' taken taken' (Ok ok) done is s acts =
      let now = acts s.after s.there in
      let shows = now.3.1.1 in
      record {
        part = s.part ++ [];
        after = now.0;
        grown = subst (λ (l : List wire.Call). Grows a b l) (sym (append-nil s.part)) s.grown;
        there = now.1;
        leads = leads_on false before s.after s.after now.0 now.0 s.part [] s.leads now.2;
        blames = subst (λ (l : List wire.Call). Blames l f g) (sym (append-nil s.part)) s.blames;
        shows = λ info u. (
            let far = s.shows info u in
            let more = shows.1 (taken_first info at plan runs part rest world s.after.history far.under) begun far.front
            (subst (λ (n : ℕ). IsSaid (Tells s.after.history) offset (offset + count) n kept far.front) (sym far.under.laid.0) far.said) far.takes in
            let quiet = under_quiet info at plan runs (part ∷ rest) world world s.after.history now.0.history shows.0.quiet (shows.0.tied world) far.under in
            let behind : at + part.length ≡ part.start + part.length = ap (λ (n : ℕ). n + part.length) (sym far.under.laid.0) in
            record {
              under = subst (λ (n : ℕ). IsUnderWay info n plan runs rest world now.0.history) behind (record { fits = quiet.fits; course = quiet.course; laid = quiet.laid.3 });
              front = far.front ++ more.0;
              said = more.1;
              takes = more.2;
            });
      }

  -- ---- The end of it.

  -- where the handle is then, and what was shown
  pub record Left (short : Bool) (c : Option (List wire.Call)) (h : ℕ) (all : List (Held Reader)) (result : Result (Unit {0}) Stop) (taken : Option (List ℕ)) : Type 0 where
    pub part : List wire.Call
    pub after : Seen Reader
    pub grown : Grows a c part
    pub there : Holds all after
    pub ended : Seen Reader
    pub leads : Leads short before part after ended
    pub blames : Blames part f h
    pub stop : HasStop result after.history
    pub shows : Shows result plan0 runs0 world0 offset count begun taken before.history after.history ended.history

  front_of : (info : ExportInfo) (at : ℕ) (plan : Plan) (runs : List Run) (reel : List Part) (world : Latest) (kept : Kept) (taken : Option (List ℕ)) (here after : History Reader) → ((p byte : ℕ) → Tells here p byte → Tells after p byte) → SoFar info offset count at plan runs reel world kept begun taken here → ShownPart (Tells after) offset count begun taken
  front_of info at plan runs reel world kept taken here after later far = part_front (Tells after) offset count at kept far.front begun taken (said_keeps (Tells here) (Tells after) later offset (offset + count) at kept far.front far.said) far.takes

  -- the next part is not had
  pub left_next : (b c : Option (List wire.Call)) (g h : ℕ) (all all' : List (Held Reader)) (at : ℕ) (plan plan' : Plan) (runs runs' : List Run) (reel reel' : List Part) (world world' : Latest) (kept : Kept) (taken : Option (List ℕ)) (result : Result (Option Part) Stop) (why : Stop)
      → result ≡ Err why → f ≤ g → g ≤ h → IsShown b g all at plan runs reel world kept taken → GoesTo (is_failed result) b c g h all all' (λ s t. HasStop result t.history × HasNext result plan runs reel world s.history plan' runs' reel' world' t.history)
      → Left true c h all' (Err why) taken
  left_next b c g h all all' at plan plan' runs runs' reel reel' world world' kept taken (Ok one) why is up up2 s goes = absurd (cc is)
  left_next b c g h all all' at plan plan' runs runs' reel reel' world world' kept taken (Err reason) why is up up2 s goes =
      let went = goes s.after s.there in
      let same : reason ≡ why = cc is in
      record {
        part = s.part ++ went.calls;
        after = went.after;
        grown = grows_on a b c s.part went.calls s.grown went.grown;
        there = went.at;
        ended = went.leads.0;
        leads = leads_on true before s.after s.after went.after went.leads.0 s.part went.calls s.leads went.leads.1;
        blames = blames_on s.part went.calls f g h s.blames went.leads.2 up up2;
        stop = subst (λ (w : Stop). IsStop went.after.history w) same went.leads.3.0;
        shows = λ info u. (
            let far = s.shows info u in
            ((went.leads.3.1 info at far.under).0, tt, front_of info at plan runs reel world kept taken s.after.history went.leads.0.history (tells_later s.after.history went.leads.0.history went.leads.1.grown) far));
      }

  -- the first part is not shown
  pub left_part : (b : Option (List wire.Call)) (g : ℕ) (all all' : List (Held Reader)) (at : ℕ) (plan : Plan) (runs : List Run) (part : Part) (rest : List Part) (world : Latest) (kept kept' : Kept) (taken taken' : Option (List ℕ)) (result : Result (Unit {0}) Stop) (why : Stop) → result ≡ Err why
      → IsShown b g all at plan runs (part ∷ rest) world kept taken → Acts all all' (λ s t. HasStop result t.history × ShowsPart result offset count part kept kept' taken taken' s.history t.history)
      → Left true b g all' (Err why) taken'
  left_part b g all all' at plan runs part rest world kept kept' taken taken' (Ok one) why is s acts = absurd (cc is)
  left_part b g all all' at plan runs part rest world kept kept' taken taken' (Err reason) why is s acts =
      let now = acts s.after s.there in
      let same : reason ≡ why = cc is in
      record {
        part = s.part ++ [];
        after = now.0;
        grown = subst (λ (l : List wire.Call). Grows a b l) (sym (append-nil s.part)) s.grown;
        there = now.1;
        ended = now.0;
        leads = leads_on true before s.after s.after now.0 now.0 s.part [] s.leads (leads_less true s.after now.0 now.0 [] now.2);
        blames = subst (λ (l : List wire.Call). Blames l f g) (sym (append-nil s.part)) s.blames;
        stop = subst (λ (w : Stop). IsStop now.0.history w) same now.3.0;
        shows = λ info u. (
            let far = s.shows info u in (
              now.3.1.0 info far.under.course.well,
              tt,
              now.3.1.2 (taken_first info at plan runs part rest world s.after.history far.under) begun far.front
                  (subst (λ (n : ℕ). IsSaid (Tells s.after.history) offset (offset + count) n kept far.front) (sym far.under.laid.0) far.said) far.takes,
            ));
      }

  -- the last group is shown, or not
  pub left_end : (b : Option (List wire.Call)) (g : ℕ) (all : List (Held Reader)) (at : ℕ) (plan : Plan) (runs : List Run) (reel : List Part) (world : Latest) (kept : Kept) (taken taken' : Option (List ℕ)) (result : Result (Unit {0}) Stop) → offset + count ≤ at
      → IsShown b g all at plan runs reel world kept taken → ((history : History Reader) → HasStop result history) → FinishesWith result kept taken taken' → Left (is_failed result) b g all result taken'
  left_end b g all at plan runs reel world kept taken taken' (Ok done) far s stops ends = record {
    part = s.part;
    after = s.after;
    grown = s.grown;
    there = s.there;
    ended = s.after;
    leads = s.leads;
    blames = s.blames;
    stop = tt;
    shows = λ info u. (
        let now = s.shows info u in
        (now.under.course.well, part_all (Tells s.after.history) offset count at kept now.front ends.0.0 begun taken taken' now.said far ends.0.2 now.takes ends.0.1, tt));
  }
  left_end b g all at plan runs reel world kept taken taken' (Err why) far s stops ends = record {
    part = s.part;
    after = s.after;
    grown = s.grown;
    there = s.there;
    ended = s.after;
    leads = leads_less true before s.after s.after s.part s.leads;
    blames = s.blames;
    stop = stops s.after.history;
    shows = λ info u. (let now = s.shows info u in (now.under.course.well, tt, last now ends.1));
  }
    where
      last : {info : ExportInfo} → SoFar info offset count at plan runs reel world kept begun taken s.after.history → (taken' ≡ taken) ⊎ ((rest : List ℕ) × TakesFront taken taken' rest × Ends kept [] rest) → ShownPart (Tells s.after.history) offset count begun taken'
      last now (inl same) = subst (λ (t : Option (List ℕ)). ShownPart (Tells s.after.history) offset count begun t) (sym same) (part_front (Tells s.after.history) offset count at kept now.front begun taken now.said now.takes)
      last now (inr cut) = part_all_cut (Tells s.after.history) offset count at kept now.front cut.0 begun taken taken' now.said far cut.2 now.takes cut.1

  -- so it is of the whole
  pub left_goes : (result : Result (Unit {0}) Stop) (c : Option (List wire.Call)) (h : ℕ) (all : List (Held Reader)) (taken : Option (List ℕ)) → Left (is_failed result) c h all result taken
      → Went a c (Holds all) (λ part after. (ended : Seen Reader) × Leads (is_failed result) before part after ended × Blames part f h × (HasStop result after.history × Shows result plan0 runs0 world0 offset count begun taken before.history after.history ended.history))
  left_goes result c h all taken l = record { calls = l.part; after = l.after; grown = l.grown; leads = (l.ended, l.leads, l.blames, (l.stop, l.shows)); at = l.there }
