-- Several handles, and the two sides of a copy.
use Rattle.std.proofs.Common.{◌≡◌, ◌≢◌, ℕ, ◌+◌, Bool, true, false, List, [], ◌∷◌, ◌++◌, refl, ap, sym, subst, ◌∙◌, ◌==◌, ◌⊎◌, inl, inr, if◌then◌else◌}
use Rattle.std.proofs.lemmas.Bool.{cases_eq, eq-eqb, ne_eqb}
use Rattle.lnbd_history.specs.Events.{Event, History, Issue}
use Rattle.lnbd_history.specs.History.{asked}
use Rattle.lnbd_board.specs.declared.ticket.Ticket.{Ticket}
use Rattle.lnbd_board.specs.Requests.{Request, asking}
use Rattle.lnbd_board.proofs.Turning.{calls_kept}
use Rattle.lnbd_tracks.specs.Tracks.{under, Tracks, Histories, AllTrack, Happens, on_links, AreApart}
use Rattle.lnbd_tracks.specs.Laws.{NothingTracks, OpeningTracks, OneHappens, asked_by, IssueTracks, OthersTrack, SourceKeeps, DestinationKeeps}
use Rattle.lnbd_tracks.proofs.Calling.{files_well, none_earlier, source_all, destination_all}
use Rattle.lnbd_tracks.proofs.Tracking.{Leads, event_tracks, other_tracks, issue_tracks, issue_beside}

pub nothing_tracks : NothingTracks
nothing_tracks link = record { each = λ c. refl; bytes = λ c q e. absurd (cc); well = tt }

-- Handles in a list.

on_same : (link : ℕ) (history : History Ticket) (others : List (ℕ × History Ticket)) → on_links ((link, history) ∷ others) link ≡ history
on_same link history others = ap (λ (b : Bool). if b then history else on_links others link) (eq-eqb link link refl)

on_other : (link other : ℕ) (history : History Ticket) (others : List (ℕ × History Ticket)) → link ≢ other → on_links ((link, history) ∷ others) other ≡ on_links others other
on_other link other history others d = ap (λ (b : Bool). if b then history else on_links others other) (ne_eqb link other d)

-- behind handles of which none has the link
on_behind : (link : ℕ) (front back : List (ℕ × History Ticket)) → AreApart link front → on_links (front ++ back) link ≡ on_links back link
on_behind link [] back a = refl
on_behind link (handle ∷ front) back a = ap (λ (b : Bool). if b then handle.1 else on_links (front ++ back) link) (ne_eqb handle.0 link a.0) ∙ on_behind link front back a.1

-- where what stands behind others is alike on a link, the whole is
on_alike : (other : ℕ) (front back back2 : List (ℕ × History Ticket)) → on_links back2 other ≡ on_links back other → on_links (front ++ back2) other ≡ on_links (front ++ back) other
on_alike other [] back back2 e = e
on_alike other (handle ∷ front) back back2 e = ap (λ h. if handle.0 == other then handle.1 else h) (on_alike other front back back2 e)

pub one_happens : OneHappens
one_happens front back link history event a = record {
  here = on_behind link front ((link, event ∷ history) ∷ back) a ∙ on_same link (event ∷ history) back
      ∙ sym (ap (λ h. event ∷ h) (on_behind link front ((link, history) ∷ back) a ∙ on_same link history back));
  others = λ other d. on_alike other front ((link, history) ∷ back) ((link, event ∷ history) ∷ back) (on_other link other (event ∷ history) back (λ e. d (sym e)) ∙ sym (on_other link other history back (λ e. d (sym e))));
}

-- a handle on which nothing happened is as none
opened : (link other : ℕ) → on_links ((link, []) ∷ []) other ≡ []
opened link other = go (link == other)
  where
    go : (b : Bool) → (let none : History Ticket = [] in if b then none else none) ≡ []
    go true = refl
    go false = refl

opened_on : (link other : ℕ) (handles : List (ℕ × History Ticket)) → on_links (handles ++ (link, []) ∷ []) other ≡ on_links handles other
opened_on link other [] = opened link other
opened_on link other (handle ∷ handles) = ap (λ h. if handle.0 == other then handle.1 else h) (opened_on link other handles)

pub opening_tracks : OpeningTracks
opening_tracks handles link requests all other = subst (λ h. Tracks other h requests) (sym (opened_on link other handles)) (all other)

-- One side.

-- what was asked on a link is as it was
moved : (link : ℕ) (history : History Ticket) (old new : List Request) → ((c : ℕ) → under link c new ≡ under link c old) → Tracks link history old → Tracks link history new
moved link history old new e t = record { each = λ c. e c ∙ t.each c; bytes = t.bytes; well = t.well }

module _ (link : ℕ) (event : Event Ticket) (histories histories2 : Histories) (old new : List Request) (all : AllTrack histories old) (happens : Happens link event histories histories2)
    (here : Tracks link (event ∷ histories link) new) (beside : (other c : ℕ) → other ≢ link → under other c new ≡ under other c old) where
  all_after : AllTrack histories2 new
  all_after other = go (cases_eq link other)
    where
      go : (link ≡ other) ⊎ (link ≡ other → ⊥) → Tracks other (histories2 other) new
      go (inl same) = subst (λ (x : ℕ). Tracks x (histories2 x) new) same (subst (λ h. Tracks link h new) (sym happens.here) here)
      go (inr d) = subst (λ h. Tracks other h new) (sym (happens.others other (λ e. d (sym e)))) (moved other (histories other) old new (λ c. beside other c (λ e. d (sym e))) (all other))

pub issues_track : IssueTracks
issues_track link command histories histories2 requests all plain happens =
    all_after link (Issue command) histories histories2 requests (asking link ((asked (histories link)).issued + 1) command.done (asked_by command) requests) all happens
    (issue_tracks link (histories link) command requests (all link) plain) (issue_beside link (histories link) command requests (all link) plain)

pub others_track : OthersTrack
others_track link event histories histories2 requests all other none happens =
    all_after link event histories histories2 requests requests all happens (other_tracks link (histories link) requests (all link) event other none) (λ n c d. refl)

-- Both sides.

pub source_keeps : SourceKeeps
source_keeps how link event sources sources2 destinations added before after source destination reads changes other happens adds files =
    let g : Leads link (event ∷ sources link) added source = event_tracks link (sources link) event source (reads link) other added adds (files_well added before after files) in
    record {
      source2 = g.new;
      destination2 = destination;
      reads = all_after link event sources sources2 source g.new reads happens g.tracks g.beside;
      changes = changes;
      earlier = none_earlier added before after files;
      keeps = λ none. calls_kept how added before after source destination g.new destination files none (source_all added source g.new destination g.tells);
    }

pub destination_keeps : DestinationKeeps
destination_keeps how link event sources destinations destinations2 added before after source destination reads changes other happens adds files =
    let g : Leads link (event ∷ destinations link) added destination = event_tracks link (destinations link) event destination (changes link) other added adds (files_well added before after files) in
    record {
      source2 = source;
      destination2 = g.new;
      reads = reads;
      changes = all_after link event destinations destinations2 destination g.new changes happens g.tracks g.beside;
      earlier = none_earlier added before after files;
      keeps = λ none. calls_kept how added before after source destination source g.new files none (destination_all added destination g.new source g.tells);
    }
