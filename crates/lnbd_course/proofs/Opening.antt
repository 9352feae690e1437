-- A handle that was set up begins on a link that was just made.
use Rattle.std.proofs.Common.{◌≡◌, ◌≢◌, ◌⊎◌, inl, inr, ℕ, Bool, true, false, if◌then◌else◌, List, [], ◌∷◌, ◌++◌, length, Option, Some, None, slice_get, refl, ap, sym, subst, ◌∙◌}
use Rattle.std.proofs.lemmas.Bool.{cases_eq, eq-eqb, false≢true, ne_eqb}
use Rattle.lnbd_model.specs.declared.target.Place.{Place}
use Rattle.lnbd_model.specs.declared.target.Target.{Target}
use Rattle.lnbd_link.specs.Call as wire
use Rattle.lnbd_link.specs.Numbers.{is_given}
use Rattle.lnbd_link.specs.Traffic.{target_of}
use Rattle.lnbd_history.specs.Events.{Event, History}
use Rattle.lnbd_asked.specs.Exports.{DrivenIsOf, HasToldSize, name_set}
use Rattle.lnbd_asked.specs.Transcript.{on_link}
use Rattle.lnbd_poll.specs.Alone.{AreApart}
use Rattle.lnbd_poll.specs.Seen.{Seen}
use Rattle.lnbd_drives.specs.Driving.{with_event}
use Rattle.lnbd_drives.proofs.Passing.{said_stays}
use Rattle.lnbd_board.specs.declared.ticket.Ticket.{Ticket}
use Rattle.lnbd_board.specs.Files as board
use Rattle.lnbd_tracks.specs.Laws.{is_coming}
use Rattle.lnbd_tracks.specs.Tracks.{Happens, Histories, is_issue}
use Rattle.lnbd_course.specs.Between.{ArePlaced, SideWasTold, AreSettled, AreSettings, IsSetting, place_of, with_history_on}
use Rattle.lnbd_course.specs.Betweens.{OpensBetween}
use Rattle.lnbd_course.specs.Course.{CourseOf, Stood, with_link}
use Rattle.lnbd_course.proofs.Address.{target_stays, target_new, given_stays, new_none}
use Rattle.lnbd_course.proofs.Asking.{goes_on, then}
use Rattle.lnbd_course.proofs.Holding.{opens_on_course}
use Rattle.lnbd_course.proofs.Standing.{quiet_stood, with_happens, with_here, with_others}

-- The handle behind the others.

last_there : (seens : List (Seen Ticket)) (last : Seen Ticket) → slice_get (seens ++ last ∷ []) (length seens) ≡ Some last
last_there [] last = refl
last_there (seen ∷ others) last = last_there others last

last_event : (link : ℕ) (event : Event Ticket) (history : History Ticket) (seens : List (Seen Ticket)) → with_event (length seens) event (seens ++ with_history_on link history ∷ []) ≡ seens ++ with_history_on link (event ∷ history) ∷ []
last_event link event history [] = refl
last_event link event history (seen ∷ others) = ap (λ l. seen ∷ l) (last_event link event history others)

last_apart : (n link : ℕ) (history : History Ticket) (seens : List (Seen Ticket)) → AreApart n (seens ++ with_history_on link history ∷ []) → AreApart n seens × (link ≢ n)
last_apart n link history [] apart = (tt, apart.0)
last_apart n link history (seen ∷ others) apart = let rest = last_apart n link history others apart.1 in ((apart.0, rest.0), rest.1)

-- It stands with this history on its link.
pub record Opened (Facts : board.Seen → Histories → Type 0) (now : board.Seen) (calls : List wire.Call) (seens : List (Seen Ticket)) (link : ℕ) (history : History Ticket)
    (histories : Histories) : Type 0 where
  pub course : CourseOf Facts now calls seens
  pub here : course.histories link ≡ history
  pub others : (n : ℕ) → link ≢ n → course.histories n ≡ histories n

-- Of facts that stand after what brings neither a command nor bytes nor an end.
module _ (Facts : board.Seen → Histories → Type 0) (quiet : (link : ℕ) (event : Event Ticket) (before after : Histories) → Happens link event before after → (now : board.Seen) → Facts now before →
    is_issue event ≡ false → is_coming event ≡ false → Facts now after)
    (now : board.Seen) (calls : List wire.Call) (seens : List (Seen Ticket)) (link : ℕ) (histories : Histories) where
  open_more : (event : Event Ticket) (history : History Ticket) → IsSetting history event → Opened Facts now calls (seens ++ with_history_on link history ∷ []) link history histories →
      Opened Facts now calls (seens ++ with_history_on link (event ∷ history) ∷ []) link (event ∷ history) histories
  unfolding goes_on
  open_more event history s o =
      subst (λ (l : List (Seen Ticket)). Opened Facts now calls l link (event ∷ history) histories) (last_event link event history seens) (record {
        course = goes_on Facts Facts now now calls (seens ++ with_history_on link history ∷ []) (length seens) (with_history_on link history) event o.course
            (last_there seens (with_history_on link history)) s.inward s.spelled s.mode
            (quiet link event o.course.histories ((then) event o.course.histories link) (with_happens link event o.course.histories) now o.course.stood s.unasked s.still);
        here = with_here link (event ∷ o.course.histories link) o.course.histories ∙ ap (λ h. event ∷ h) o.here;
        others = λ n differ. with_others link (event ∷ o.course.histories link) o.course.histories n (λ e. differ (sym e)) ∙ o.others n differ;
      })

  pub open_all : (history : History Ticket) → AreSettings history → Opened Facts now calls (seens ++ with_history_on link [] ∷ []) link [] histories →
      Opened Facts now calls (seens ++ with_history_on link history ∷ []) link history histories
  open_all [] all o = o
  open_all (event ∷ history) all o = open_more event history all.1 (open_all history all.0 o)

-- Sides.

here_side : (link : ℕ) (source : Bool) (has : ℕ → Bool) → with_link link source has link ≡ source
here_side link source has = ap (λ (b : Bool). if b then source else has link) (eq-eqb link link refl)

other_side : (link n : ℕ) (source : Bool) (has : ℕ → Bool) → link ≢ n → with_link link source has n ≡ has n
other_side link n source has differ = ap (λ (b : Bool). if b then source else has n) (ne_eqb link n differ)

module _ (from to : Place) (has : ℕ → Bool) (calls : List wire.Call) (link : ℕ) (source : Bool) (history : History Ticket) (before after : Histories)
    (new : is_given link calls ≡ false) (here : after link ≡ history) (others : (n : ℕ) → link ≢ n → after n ≡ before n) where
  abbrev connects : wire.Call
  connects = wire.Connect (place_of from to source).to (Some link)

  abbrev calls' : List wire.Call
  calls' = calls ++ connects ∷ []

  abbrev has' : ℕ → Bool
  has' = with_link link source has

  was_given : (n : ℕ) → link ≢ n → is_given n calls' ≡ true → is_given n calls ≡ true
  was_given n differ g = sym (given_stays n calls (connects ∷ []) (new_none link n (place_of from to source).to differ)) ∙ g

  place_here : (n : ℕ) → (link ≡ n) → (place_of from to (has' n)) ≡ place_of from to source
  place_here n same = ap (place_of from to) (ap has' (sym same) ∙ here_side link source has)

  place_there : (n : ℕ) → (link ≢ n) → (place_of from to (has' n)) ≡ place_of from to (has n)
  place_there n differ = ap (place_of from to) (other_side link n source has differ)

  pub opens_placed : name_set history ≡ (place_of from to source).name → ArePlaced from to calls has before → ArePlaced from to calls' has' after
  opens_placed named p = record { address = λ n g. address n g (cases_eq link n); name = λ n g. name n g (cases_eq link n) }
    where
      address : (n : ℕ) → is_given n calls' ≡ true → (link ≡ n) ⊎ (link ≡ n → ⊥) → target_of n calls' ≡ Some (place_of from to (has' n)).to
      address n g (inl same) =
          subst (λ (m : ℕ). target_of m calls' ≡ Some (place_of from to source).to) same (target_new link calls (place_of from to source).to new) ∙ sym (ap (λ (p : Place). Some p.to) (place_here n same))
      address n g (inr differ) =
          target_stays n calls (connects ∷ []) (new_none link n (place_of from to source).to differ) ∙ p.address n (was_given n differ g) ∙ sym (ap (λ (p : Place). Some p.to) (place_there n differ))

      name : (n : ℕ) → is_given n calls' ≡ true → (link ≡ n) ⊎ (link ≡ n → ⊥) → name_set (after n) ≡ (place_of from to (has' n)).name
      name n g (inl same) = ap (λ m. name_set (after m)) (sym same) ∙ ap name_set here ∙ named ∙ sym (ap (λ (p : Place). p.name) (place_here n same))
      name n g (inr differ) = ap name_set (others n differ) ∙ p.name n (was_given n differ g) ∙ sym (ap (λ (p : Place). p.name) (place_there n differ))

  -- a link that was given isn't the new one
  not_new : (n : ℕ) → is_given n calls ≡ true → link ≢ n
  not_new n g same = false≢true (sym (ap (λ m. is_given m calls) (sym same) ∙ new) ∙ g)

  now_given : (n : ℕ) → is_given n calls ≡ true → is_given n calls' ≡ true
  now_given n g = given_stays n calls (connects ∷ []) (new_none link n (place_of from to source).to (not_new n g)) ∙ g

  pub opens_told : (side : Bool) (size : ℕ) → SideWasTold side size calls has before → SideWasTold side size calls' has' after
  opens_told side size s = record {
    link = s.link;
    given = now_given s.link s.given;
    side = other_side link s.link source has (not_new s.link s.given) ∙ s.side;
    told = subst (λ h. HasToldSize h size) (sym (others s.link (not_new s.link s.given))) s.told;
  }

  opens_settled : (size : Option ℕ) → AreSettled size calls has before → AreSettled size calls' has' after
  opens_settled None t = tt
  opens_settled (Some size) t = record { room = t.room; source = opens_told true size t.source; destination = opens_told false t.room t.destination; fits = t.fits }

-- A link without a handle is another one, and tells what it did.
pub opens_parted : (calls : List wire.Call) (seens : List (Seen Ticket)) (to : Target) (link : ℕ) (history : History Ticket) (before after : Histories) → ((n : ℕ) → link ≢ n → after n ≡ before n) →
    ((n : ℕ) → AreApart n seens → DrivenIsOf (before n) (on_link n calls)) →
    (n : ℕ) → AreApart n (seens ++ with_history_on link history ∷ []) → DrivenIsOf (after n) (on_link n (calls ++ wire.Connect to (Some link) ∷ []))
opens_parted calls seens to link history before after others parted n apart =
    let a = last_apart n link history seens apart in
    subst (λ h. DrivenIsOf h (on_link n (calls ++ wire.Connect to (Some link) ∷ []))) (sym (others n a.1))
    (subst (DrivenIsOf (before n)) (sym (said_stays n calls (wire.Connect to (Some link) ∷ []) refl)) (parted n a.0))

pub opens_between : OpensBetween
unfolding opens_on_course
opens_between from to size how has slices now calls seens link source history b new settings named =
    let opened : Opened (Stood how (with_link link source has) slices) now (calls ++ wire.Connect (place_of from to source).to (Some link) ∷ [])
    (seens ++ with_history_on link [] ∷ []) link [] b.course.histories = record {
      course = opens_on_course how has slices now calls seens (place_of from to source).to link source b.course new;
      here = (b.course.unused link new).blank;
      others = λ n differ. refl;
    } in
    let o = open_all (Stood how (with_link link source has) slices) (quiet_stood how (with_link link source has) slices) now
    (calls ++ wire.Connect (place_of from to source).to (Some link) ∷ []) seens link b.course.histories history settings opened in
    record {
      course = o.course;
      placed = opens_placed from to has calls link source history b.course.histories o.course.histories new o.here o.others named b.placed;
      parted = opens_parted calls seens (place_of from to source).to link history b.course.histories o.course.histories o.others b.parted;
      told = opens_settled from to has calls link source history b.course.histories o.course.histories new o.here o.others size b.told;
    }
