-- One thing filed more, and then all that an event files: the requests of a list come to what the handle's commands come to.
use Rattle.std.proofs.Common.{◌≡◌, ◌≢◌, ℕ, Bool, true, false, List, [], ◌∷◌, ◌++◌, map, Option, Some, refl, ap, sym, subst, ◌∙◌, ◌⊎◌, inl, inr}
use Rattle.std.proofs.lemmas.Bool.{cases_eq}
use Rattle.std.proofs.lemmas.List.{append-nil, append_assoc}
use Rattle.lnbd_callbacks.specs.Calls.{Call, Complete, Free}
use Rattle.lnbd_model.specs.declared.export.Context.{Context as MetaContext}
use Rattle.lnbd_outcome.specs.Outcome.{Outcome, Unfinished}
use Rattle.lnbd_history.specs.Commands.{Flight}
use Rattle.lnbd_history.specs.Commands as commands
use Rattle.lnbd_history.specs.Entries.{Item, Dropped, Filing, Entry, Filed, Freed, Cleared, completes, hears, own, is_ended, error_in, bytes_in, hearing_in, call_of, acts_of, free_acts, calls}
use Rattle.lnbd_history.specs.Events.{Answer}
use Rattle.lnbd_history.specs.History.{left, filing_of}
use Rattle.lnbd_asked.specs.Transcript.{bare, outcome_of}
use Rattle.lnbd_board.specs.declared.ticket.Ticket.{Ticket}
use Rattle.lnbd_board.specs.Requests.{Said, Request, Each, Answers, request, waiting}
use Rattle.lnbd_board.proofs.Lists.{Each-front, Each-back}
use Rattle.lnbd_tracks.specs.Tracks.{under, request_of, NoneFails, OnlyWritesHaveBytes}
use Rattle.lnbd_tracks.proofs.Calling.{TellsAll, tells-append, quiet_all, IsWell, frees_quiet, filing_quiet, Completes, filing_completes, heard_well}
use Rattle.lnbd_tracks.proofs.Outcomes.{NoneFailed, own_well, waits, still_waits, comes_done, bytes_come_back}
use Rattle.lnbd_tracks.proofs.Under.{Differs, IsFound, found, changed_here, changed_beside}
use Rattle.lnbd_tracks.proofs.Unfiled.{own_same, own_other}

module _ (link : ℕ) (asks : ℕ → Option (commands.Request Ticket)) (plain : (c : ℕ) (q : commands.Request Ticket) → asks c ≡ Some q → OnlyWritesHaveBytes (bare q)) where
  -- A list has the requests of this link, each with what it comes to by these entries.
  pub record Follows (entries : List (Entry Ticket)) (requests : List Request) : Type 0 where
    pub each : (c : ℕ) → under link c requests ≡ request_of link c (asks c) (outcome_of (asks c) (own c entries))
    pub well : NoneFails entries

  -- These calls lead from one list to another, which has them by these entries. What was asked on other links is as it was.
  pub record Goes (told : List (Call Ticket)) (old : List Request) (entries : List (Entry Ticket)) : Type 0 where
    pub new : List Request
    pub tells : TellsAll told old new
    pub follows : Follows entries new
    pub beside : (other c : ℕ) → other ≢ link → under other c new ≡ under other c old

  goes_then : (first second : List (Call Ticket)) (old : List Request) (entries entries2 : List (Entry Ticket)) (one : Goes first old entries) → Goes second one.new entries2 → Goes (first ++ second) old entries2
  goes_then first second old entries entries2 one two = record {
    new = two.new;
    tells = tells-append first second old one.new two.new one.tells two.tells;
    follows = two.follows;
    beside = λ other c n. two.beside other c n ∙ one.beside other c n;
  }

  -- One thing more under a command in flight.
  module _ (entries : List (Entry Ticket)) (old : List Request) (now : Follows entries old) (q : commands.Request Ticket) (c : ℕ) (item : Item) (contexts : List MetaContext) (answers : List Answer)
      (asked_for : asks c ≡ Some q) (going : is_ended (own c entries) ≡ false) where
    abbrev f : Filing Ticket
    f = filing_of q c (own c entries) contexts item answers

    abbrev told : List (Call Ticket)
    told = map call_of (acts_of f (own c entries))

    abbrev rest : List Answer
    rest = left (hears q.flight (hearing_in q (own c entries) contexts item)) answers

    waited : under link c old ≡ request link c q.flight.done.callback (waiting (bare q)) ∷ []
    waited =
        now.each c
        ∙ ap (λ (a : Option (commands.Request Ticket)). request_of link c a (outcome_of a (own c entries))) asked_for
        ∙ ap (λ (o : Outcome). request_of link c (Some q) o) (waits q (own c entries) going)

    -- what it comes to now
    comes : (o : Outcome) → outcome_of (Some q) (f ∷ own c entries) ≡ o →
        request link c q.flight.done.callback (record { command = bare q; outcome = o }) ∷ [] ≡ request_of link c (asks c) (outcome_of (asks c) (own c (Filed f ∷ entries)))
    comes o e = sym (
        ap (λ (a : Option (commands.Request Ticket)). request_of link c a (outcome_of a (own c (Filed f ∷ entries)))) asked_for
        ∙ ap (λ l. request_of link c (Some q) (outcome_of (Some q) l)) (own_same f entries)
        ∙ ap (λ (p : Outcome). request_of link c (Some q) p) e)

    -- and what another comes to
    stays : (k : ℕ) → c ≢ k → request_of link k (asks k) (outcome_of (asks k) (own k entries)) ≡ request_of link k (asks k) (outcome_of (asks k) (own k (Filed f ∷ entries)))
    stays k other = sym (ap (λ l. request_of link k (asks k) (outcome_of (asks k) l)) (own_other k f entries other))

    well_now : Each IsWell told → NoneFails (Filed f ∷ entries)
    well_now w = (heard_well q.flight (hearing_in q (own c entries) contexts item) item answers f.verdict (error_in q (f ∷ own c entries)) (bytes_in q (f ∷ own c entries)) w, now.well)

    -- What completes nothing leaves the list as it is.
    still_each : completes item ≡ false → (k : ℕ) → under link k old ≡ request_of link k (asks k) (outcome_of (asks k) (own k (Filed f ∷ entries)))
    still_each unfinished k = at (cases_eq c k)
      where
        here : under link c old ≡ request_of link c (asks c) (outcome_of (asks c) (own c (Filed f ∷ entries)))
        here = waited ∙ comes Unfinished (still_waits q f (own c entries) unfinished going)

        at : (c ≡ k) ⊎ (c ≡ k → ⊥) → under link k old ≡ request_of link k (asks k) (outcome_of (asks k) (own k (Filed f ∷ entries)))
        at (inl same) = subst (λ (x : ℕ). under link x old ≡ request_of link x (asks x) (outcome_of (asks x) (own x (Filed f ∷ entries)))) same here
        at (inr other) = now.each k ∙ stays k other

    quiet : completes item ≡ false → Each IsWell told → Goes told old (Filed f ∷ entries)
    quiet unfinished w = record {
      new = old;
      tells = quiet_all told old (filing_quiet q.flight (hearing_in q (own c entries) contexts item) item f.heard rest (error_in q (f ∷ own c entries)) (bytes_in q (f ∷ own c entries)) unfinished);
      follows = record { each = still_each unfinished; well = well_now w };
      beside = λ other k n. refl;
    }

    -- Where it completes the command, its request is no longer one that waits.
    module _ (done : completes item ≡ true) (w : Each IsWell told) (there : IsFound (request link c q.flight.done.callback (waiting (bare q))) old) where
      abbrev came : Outcome
      came = outcome_of (Some q) (f ∷ own c entries)

      abbrev said : Outcome → Said
      said o = record { command = bare q; outcome = o }

      abbrev new : List Request
      new = there.front ++ request link c q.flight.done.callback (said came) ∷ there.back

      made : Completes q.flight told (error_in q (f ∷ own c entries)) (bytes_in q (f ∷ own c entries))
      made = filing_completes q.flight (hearing_in q (own c entries) contexts item) item f.heard rest (error_in q (f ∷ own c entries)) (bytes_in q (f ∷ own c entries)) done

      none_failed : NoneFailed (f ∷ own c entries)
      none_failed = ((well_now w).0, own_well c entries now.well)

      answered : error_in q (f ∷ own c entries) ≡ 0 → Answers q.flight.done.callback (bytes_in q (f ∷ own c entries)) old new
      answered none = record {
        link = link;
        cookie = c;
        command = bare q;
        front = there.front;
        back = there.back;
        waited = there.is;
        now = ap (λ (o : Outcome). there.front ++ request link c q.flight.done.callback (said o) ∷ there.back) (comes_done q f (own c entries) done none_failed none);
        suits = bytes_come_back q (f ∷ own c entries) (plain c q asked_for) none;
      }

      tells_so : TellsAll (made.front ++ Complete q.flight.done.callback (error_in q (f ∷ own c entries)) (bytes_in q (f ∷ own c entries)) made.verdict ∷ Free q.flight.done.callback ∷ []) old new
      tells_so =
          tells-append made.front (Complete q.flight.done.callback (error_in q (f ∷ own c entries)) (bytes_in q (f ∷ own c entries)) made.verdict ∷ Free q.flight.done.callback ∷ []) old old new
          (quiet_all made.front old made.quiet) (new, (answered, (new, (refl, refl))))

      here : under link c new ≡ request_of link c (asks c) (outcome_of (asks c) (own c (Filed f ∷ entries)))
      here = changed_here link c q.flight.done.callback (waiting (bare q)) (said came) there.front there.back (ap (under link c) (sym there.is) ∙ waited) ∙ comes came refl

      elsewhere : (other k : ℕ) → Differs link c other k → under other k new ≡ under other k old
      elsewhere other k d = changed_beside link c other k q.flight.done.callback (waiting (bare q)) (said came) there.front there.back d ∙ ap (under other k) (sym there.is)

      each_now : (k : ℕ) → (c ≡ k) ⊎ (c ≡ k → ⊥) → under link k new ≡ request_of link k (asks k) (outcome_of (asks k) (own k (Filed f ∷ entries)))
      each_now k (inl same) = subst (λ (x : ℕ). under link x new ≡ request_of link x (asks x) (outcome_of (asks x) (own x (Filed f ∷ entries)))) same here
      each_now k (inr other) = elsewhere link k (inr other) ∙ (now.each k ∙ stays k other)

      finished : Goes told old (Filed f ∷ entries)
      finished = record {
        new = new;
        tells = subst (λ l. TellsAll l old new) (sym made.is) tells_so;
        follows = record { each = λ k. each_now k (cases_eq c k); well = well_now w };
        beside = λ other k n. elsewhere other k (inl (λ e. n (sym e)));
      }

    one_filed : Each IsWell told → Goes told old (Filed f ∷ entries)
    one_filed w = go (completes item) refl
      where
        go : (b : Bool) → completes item ≡ b → Goes told old (Filed f ∷ entries)
        go true done = finished done w (found link c (request link c q.flight.done.callback (waiting (bare q))) old waited)
        go false unfinished = quiet unfinished w

  -- Where a handle is closed, nothing is completed.
  pub dropped : (old : List Request) (q : commands.Request Ticket) (c : ℕ) (item : Item) (contexts : List MetaContext) (answers : List Answer) (entries : List (Entry Ticket)) → item ≡ Dropped → asks c ≡ Some q → is_ended (own c entries) ≡ false → Follows entries old →
      Follows (Filed (filing_of q c (own c entries) contexts item answers) ∷ entries) old
  dropped old q c item contexts answers entries is asked_for going now =
      subst (λ (x : Item). Follows (Filed (filing_of q c (own c entries) contexts x answers) ∷ entries) old) (sym is)
      (record { each = still_each entries old now q c Dropped contexts answers asked_for going refl; well = (refl, now.well) })

  -- All that an event files.

  -- With the calls that these entries have more than there were at the start, if each of them was answered so that all is well.
  pub record Grown (start : List (Call Ticket)) (old : List Request) (entries : List (Entry Ticket)) : Type 0 where
    pub added : List (Call Ticket)
    pub is : calls entries ≡ start ++ added
    pub goes : Each IsWell added → Goes added old entries

  module _ (start : List (Call Ticket)) (old : List Request) where
    pub grown_none : (entries : List (Entry Ticket)) → start ≡ calls entries → Follows entries old → Grown start old entries
    grown_none entries e follows = record {
      added = [];
      is = sym e ∙ sym (append-nil start);
      goes = λ w. record { new = old; tells = refl; follows = follows; beside = λ other c n. refl };
    }

    pub grown_filed : (q : commands.Request Ticket) (c : ℕ) (item : Item) (contexts : List MetaContext) (answers : List Answer) (entries : List (Entry Ticket)) → Unit {0} → asks c ≡ Some q → is_ended (own c entries) ≡ false → Grown start old entries →
        Grown start old (Filed (filing_of q c (own c entries) contexts item answers) ∷ entries)
    grown_filed q c item contexts answers entries any asked_for going g =
        let more : List (Call Ticket) = map call_of (acts_of (filing_of q c (own c entries) contexts item answers) (own c entries)) in
        record {
          added = g.added ++ more;
          is = ap (λ l. l ++ more) g.is ∙ append_assoc start g.added more;
          goes = λ w. (
              let one = g.goes (Each-front IsWell g.added more w) in
              goes_then g.added more old entries _ one (one_filed entries one.new one.follows q c item contexts answers asked_for going (Each-back IsWell g.added more w)));
        }

    pub grown_freed : (flight : Flight Ticket) (entries : List (Entry Ticket)) → Grown start old entries → Grown start old (Freed flight ∷ entries)
    grown_freed flight entries g =
        let more : List (Call Ticket) = map call_of (free_acts flight) in
        record {
          added = g.added ++ more;
          is = ap (λ l. l ++ more) g.is ∙ append_assoc start g.added more;
          goes = λ w. (
              let one = g.goes (Each-front IsWell g.added more w) in
              let quiet : Goes more one.new (Freed flight ∷ entries) = record {
                new = one.new;
                tells = quiet_all more one.new (frees_quiet flight);
                follows = record { each = one.follows.each; well = one.follows.well };
                beside = λ other c n. refl;
              } in
              goes_then g.added more old entries (Freed flight ∷ entries) one quiet);
        }

    pub grown_cleared : (entries : List (Entry Ticket)) → Grown start old entries → Grown start old (Cleared ∷ entries)
    grown_cleared entries g = record {
      added = g.added;
      is = g.is;
      goes = λ w. (
          let one = g.goes w in
          record { new = one.new; tells = one.tells; follows = record { each = one.follows.each; well = one.follows.well }; beside = one.beside });
    }
