-- What a handle was told is what was dealt with its export.
use Rattle.std.proofs.Common.{◌≡◌, ◌∙◌, ◌⊎◌, inl, inr, ℕ, ◌≤◌, ◌+◌, Bool, true, false, ◌&&◌, List, [], ◌∷◌, Option, Some, None, refl, sym, ap, arith, nat_le, if◌then◌else◌, bytes_eq}
use Rattle.std.specs.Option.{option_map}
use Rattle.std.proofs.lemmas.Bool.{cases_eq, leb-true}
use Rattle.std.proofs.lemmas.Slice.Eq.{bytes_eq-Decides}
use Rattle.lnbd_model.specs.declared.kind.Kind.{Kind}
use Rattle.lnbd_model.specs.declared.kind.Kind.TheVariants.{Read, Write, Flush, Trim, Cache, Zero, BlockStatus}
use Rattle.lnbd_model.specs.declared.target.Place.{Place}
use Rattle.lnbd_outcome.specs.Outcome.{Done, Unfinished}
use Rattle.lnbd_model.specs.declared.export.ExportInfo.{ExportInfo}
use Rattle.lnbd_history.specs.Commands.{Command, Request, request_of}
use Rattle.lnbd_history.specs.Events.{Event, History, Set, StrictMode, Start, Opt, Abort, Issue, Refuse, Disconnect, Wrote, Arrived, End, LinkFailed, Retire, ClearLog, Close}
use Rattle.lnbd_history.specs.History.{asked, request}
use Rattle.lnbd_history.proofs.Cookies.{request_within}
use Rattle.lnbd_link.specs.Call as wire
use Rattle.lnbd_link.specs.Call.{Connect}
use Rattle.lnbd_link.specs.Traffic.{target_of}
use Rattle.lnbd_asked.specs.Driven.{DrivenSays, outcome_after, written}
use Rattle.lnbd_asked.specs.Exports.{DrivenIsOf, HasToldSize, name_set}
use Rattle.lnbd_asked.specs.Honest.{Untouched, changes, has}
use Rattle.lnbd_asked.specs.Link.{Link}
use Rattle.lnbd_asked.specs.Transcript.{Dealt, answered, asked_on, bare, dealt_with, is_name, is_of, is_target, name_asked, on_link, only_if, size_told, told_zero}
use Rattle.lnbd_asked.proofs.Driving.{driven_say_so}
use Rattle.lnbd_asked.proofs.Naming.{driven_are_of}
use Rattle.lnbd_drives.proofs.Taking.{Runs}
use Rattle.lnbd_poll.specs.Seen.{Seen}
use Rattle.lnbd_tracks.specs.Tracks.{is_issue}
use Rattle.lnbd_tracks.proofs.Staying.{next_beside, next_here}
use Rattle.lnbd_tracks.proofs.Unfiled.{request_stays}
use Rattle.lnbd_tracks.proofs.Written.{done_is_written}
use Rattle.lnbd_dump.specs.declared.reader.Reader.{Reader}
use Rattle.lnbd_dump.specs.Conduct.{AreWell, IsWell}
use Rattle.lnbd_dump.specs.Leads.{By_read, By_status, IsGoing, Tells}
use Rattle.lnbd_dump.specs.Told.{As_read, As_zero, HoldsWhatWasTold, NothingChanges, Told}

pub bytes_same : (bytes : List ℕ) → bytes_eq bytes bytes ≡ true
bytes_same bytes = (bytes_eq-Decides bytes bytes).1 refl

-- An export that is honest and wasn't changed holds what was told of it.

untouched : (dealt : Dealt) (p : ℕ) → NothingChanges dealt → Untouched dealt p
untouched dealt p none link cookie asks asked = ap (λ (b : Bool). b && has asks p) (none link cookie asks asked)

pub holds_told : HoldsWhatWasTold
holds_told holds dealt p byte honest none (As_read p' byte' link cookie asks bytes asked kind done inside is) = sym (honest.reads link cookie asks bytes p' asked kind done inside (untouched dealt p' none)) ∙ sym is
holds_told holds dealt p byte honest none (As_zero p' byte' link cookie asks bytes asked kind done inside zero is) = honest.zeroes link cookie asks bytes p' asked kind done inside zero (untouched dealt p' none) ∙ sym is

-- ---- The handle's link, by all calls.

named : (name set : List ℕ) (found : Option (List ℕ)) → found ≡ Some set → set ≡ name → is_name name found ≡ true
named name set found is same = ap (is_name name) (is ∙ ap (λ (l : List ℕ). Some l) same) ∙ bytes_same name

-- the handle drives its link by these calls, all that was read has arrived, and the link leads to the place
pub record IsOnCourse (place : Place) (made : List wire.Call) (seen : Seen Reader) : Type 0 where
  pub runs : Runs seen.link made seen.history []
  pub target : is_target place.to (target_of seen.link made) ≡ true
  pub name : name_set seen.history ≡ place.name
  pub going : IsGoing seen.history

module _ (place : Place) (made : List wire.Call) (seen : Seen Reader) (course : IsOnCourse place made seen) where
  abbrev link : Link
  link = on_link seen.link made

  pub says : DrivenSays seen.history link
  says = driven_say_so 1024 seen.link made seen.history course.going.0 course.runs.spelled course.going.1 course.runs.off course.runs.drives

  of : DrivenIsOf seen.history link
  of = driven_are_of 1024 seen.link made seen.history course.going.0 course.runs.spelled course.going.1 course.runs.off course.runs.drives

  is_one : 1 ≤ written seen.history → is_of place made seen.link ≡ true
  is_one some = ap (λ (b : Bool). b && is_name place.name (name_asked link.wishes)) course.target ∙ named place.name (name_set seen.history) (name_asked link.wishes) (of.asked some).0 course.name

  -- a command that is done was dealt with the export
  record Dealing (cookie : ℕ) (asks : Request Reader) (bytes : List ℕ) : Type 0 where
    low : nat_le cookie (written seen.history) ≡ true
    here : is_of place made seen.link ≡ true
    asked : (dealt_with place made).asked seen.link cookie ≡ Some (bare asks)
    done : (dealt_with place made).outcome seen.link cookie ≡ Done bytes

  dealing : (cookie : ℕ) (asks : Request Reader) (bytes : List ℕ) → request seen.history cookie ≡ Some asks → outcome_after seen.history cookie ≡ Done bytes → Dealing cookie asks bytes
  dealing cookie asks bytes there done =
      let low : nat_le cookie (written seen.history) ≡ true = done_is_written seen.history cookie bytes done in
      let bound = request_within seen.history cookie asks there in
      let most : cookie ≤ written seen.history = leb-true cookie (written seen.history) low in
      let here : is_of place made seen.link ≡ true = is_one (omega (arith, bound.0, most)) in
      record {
        low = low;
        here = here;
        asked = ap (λ (b : Bool). only_if b (asked_on link cookie)) here ∙ says.requests cookie ∙ ap (λ (b : Bool). if b then option_map bare (request seen.history cookie) else None) low ∙ ap (option_map bare) there;
        done = ap (λ (b : Bool). if b then answered link cookie else Unfinished) here ∙ says.outcomes cookie low ∙ done;
      }

  -- the size that was told
  pub size_dealt : (size : ℕ) → HasToldSize seen.history size → (dealt_with place made).size seen.link ≡ Some size
  size_dealt size t =
      let told : size_told link ≡ Some size = of.told size t in
      let here : is_of place made seen.link ≡ true = ap (λ (b : Bool). b && is_name place.name (name_asked link.wishes)) course.target ∙ named place.name (name_set seen.history) (name_asked link.wishes) (of.size size told).0 course.name in
      ap (λ (b : Bool). only_if b (size_told link)) here ∙ told

  pub told_dealt : (p byte : ℕ) → Tells seen.history p byte → Told (dealt_with place made) p byte
  told_dealt p byte (By_read t) =
      let d = dealing t.cookie t.asks t.bytes t.there t.done in
      As_read p byte seen.link t.cookie (bare t.asks) t.bytes d.asked t.kind d.done t.has_it t.is
  told_dealt p byte (By_status is t) =
      let d = dealing t.cookie t.asks t.bytes t.there t.done in
      As_zero p byte seen.link t.cookie (bare t.asks) t.bytes d.asked t.kind d.done t.has_it
      (ap (λ (b : Bool). b && told_zero link t.cookie p) d.here ∙ says.zero t.cookie p d.low ∙ t.zero) is

-- ---- Nothing that is asked changes a byte.

-- no request of this history changes a byte
abbrev pub OnlyLooks : History Reader → Type 0
OnlyLooks history = (c : ℕ) (q : Request Reader) → request history c ≡ Some q → changes q.kind ≡ false

some_same : {A : Type 0} (a b : A) → Some a ≡ Some b → a ≡ b
some_same a b e = cc

none_some : {A : Type 0} (a : A) → None ≡ Some a → ⊥
none_some a e = cc

issued_looks : (command : Command Reader) (before : History Reader) → changes command.kind ≡ false → OnlyLooks before → OnlyLooks (Issue command ∷ before)
issued_looks command before look rest c q is = go (cases_eq ((asked before).issued + 1) c)
  where
    go : ((asked before).issued + 1 ≡ c) ⊎ ((asked before).issued + 1 ≡ c → ⊥) → changes q.kind ≡ false
    go (inl same) = ap (λ (r : Request Reader). changes r.kind) (sym (some_same (request_of (asked before).admitted command) q (sym (next_here before command c same) ∙ is))) ∙ look
    go (inr differ) = rest c q (sym (next_beside before command c differ) ∙ is)

kind_looks : (info : ExportInfo) (before : History Reader) (kind : Kind) (command : Command Reader) → IsWell info before kind command → changes kind ≡ false
kind_looks info before Read command w = refl
kind_looks info before BlockStatus command w = refl
kind_looks info before Write command w = absurd w
kind_looks info before Flush command w = absurd w
kind_looks info before Trim command w = absurd w
kind_looks info before Cache command w = absurd w
kind_looks info before Zero command w = absurd w

still_looks : (event : Event Reader) (before : History Reader) → is_issue event ≡ false → OnlyLooks before → OnlyLooks (event ∷ before)
still_looks event before other rest c q is = rest c q (sym (request_stays before event c other) ∙ is)

pub well_looks : (info : ExportInfo) (history : History Reader) → AreWell info history → OnlyLooks history
well_looks info [] w = λ c q is. absurd (none_some q is)
well_looks info (Issue command ∷ before) w = issued_looks command before (kind_looks info before command.kind command w.0) (well_looks info before w.1)
well_looks info (Set setting ∷ before) w = still_looks (Set setting) before refl (well_looks info before w)
well_looks info (StrictMode bits ∷ before) w = still_looks (StrictMode bits) before refl (well_looks info before w)
well_looks info (Start ∷ before) w = still_looks Start before refl (well_looks info before w)
well_looks info (Opt option ∷ before) w = still_looks (Opt option) before refl (well_looks info before w)
well_looks info (Abort ∷ before) w = still_looks Abort before refl (well_looks info before w)
well_looks info (Refuse command why ∷ before) w = still_looks (Refuse command why) before refl (well_looks info before w)
well_looks info (Disconnect ∷ before) w = still_looks Disconnect before refl (well_looks info before w)
well_looks info (Wrote n ∷ before) w = still_looks (Wrote n) before refl (well_looks info before w)
well_looks info (Arrived bytes answers ∷ before) w = still_looks (Arrived bytes answers) before refl (well_looks info before w)
well_looks info (End answers ∷ before) w = still_looks (End answers) before refl (well_looks info before w)
well_looks info (LinkFailed answers ∷ before) w = still_looks (LinkFailed answers) before refl (well_looks info before w)
well_looks info (Retire cookie ∷ before) w = still_looks (Retire cookie) before refl (well_looks info before w)
well_looks info (ClearLog ∷ before) w = still_looks ClearLog before refl (well_looks info before w)
well_looks info (Close ∷ before) w = still_looks Close before refl (well_looks info before w)
