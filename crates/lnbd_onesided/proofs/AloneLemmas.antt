-- One side alone: the proof of both sides, with the other's list handed through.
use Rattle.std.proofs.Common.{◌≡◌, ◌≢◌, ℕ, List, ◌∷◌, sym, subst, ◌∙◌, ◌⊎◌, inl, inr}
use Rattle.std.proofs.lemmas.Bool.{cases_eq}
use Rattle.lnbd_history.specs.Events.{Event, History}
use Rattle.lnbd_board.specs.declared.ticket.Ticket.{Ticket}
use Rattle.lnbd_board.specs.Requests.{Request}
use Rattle.lnbd_board.proofs.Turning.{calls_kept}
use Rattle.lnbd_tracks.specs.Tracks.{under, Tracks, Histories, AllTrack, Happens}
use Rattle.lnbd_tracks.proofs.Calling.{files_well, none_earlier, source_all, destination_all}
use Rattle.lnbd_tracks.proofs.Tracking.{Leads, event_tracks}
use Rattle.lnbd_onesided.specs.Alone.{SourceAloneKeeps, DestinationAloneKeeps}

moved : (link : ℕ) (history : History Ticket) (old new : List Request) → ((c : ℕ) → under link c new ≡ under link c old) → Tracks link history old → Tracks link history new
moved link history old new e t = record { each = λ c. e c ∙ t.each c; bytes = t.bytes; well = t.well }

module _ (link : ℕ) (event : Event Ticket) (histories histories2 : Histories) (old new : List Request) (all : AllTrack histories old) (happens : Happens link event histories histories2)
    (here : Tracks link (event ∷ histories link) new) (beside : (other c : ℕ) → other ≢ link → under other c new ≡ under other c old) where
  all_after : AllTrack histories2 new
  all_after other = go (cases_eq link other)
    where
      go : (link ≡ other) ⊎ (link ≡ other → ⊥) → Tracks other (histories2 other) new
      go (inl same) = subst (λ (x : ℕ). Tracks x (histories2 x) new) same (subst (λ h. Tracks link h new) (sym happens.here) here)
      go (inr d) = subst (λ h. Tracks other h new) (sym (happens.others other (λ e. d (sym e)))) (moved other (histories other) old new (λ c. beside other c (λ e. d (sym e))) (all other))

pub source_alone_keeps : SourceAloneKeeps
source_alone_keeps how link event sources sources2 added before after source destination reads other happens adds files =
    let g : Leads link (event ∷ sources link) added source = event_tracks link (sources link) event source (reads link) other added adds (files_well added before after files) in
    record {
      source2 = g.new;
      reads = all_after link event sources sources2 source g.new reads happens g.tracks g.beside;
      earlier = none_earlier added before after files;
      keeps = λ none. calls_kept how added before after source destination g.new destination files none (source_all added source g.new destination g.tells);
    }

pub destination_alone_keeps : DestinationAloneKeeps
destination_alone_keeps how link event destinations destinations2 added before after source destination changes other happens adds files =
    let g : Leads link (event ∷ destinations link) added destination = event_tracks link (destinations link) event destination (changes link) other added adds
    (files_well added before after files) in
    record {
      destination2 = g.new;
      changes = all_after link event destinations destinations2 destination g.new changes happens g.tracks g.beside;
      earlier = none_earlier added before after files;
      keeps = λ none. calls_kept how added before after source destination source g.new files none (destination_all added destination g.new source g.tells);
    }
