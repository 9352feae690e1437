-- What came of a conversation, by all calls of a dump.
use Rattle.std.proofs.Common.{◌≡◌, ◌∙◌, ◌⊎◌, inl, inr, ℕ, ◌+◌, ◌≤◌, ◌<◌, Bool, true, false, ◌&&◌, ◌||◌, List, [], ◌∷◌, ◌++◌, length, take, drop, get_or, Option, Some, None, Result, Ok, Err, append-nil, append_assoc, refl, sym, ap, subst, arith, length-append, length-drop, nat_le}
use Rattle.std.specs.Prelude.{IfOk, OnErr, ◌==◌, if◌then◌else◌}
use Rattle.std.proofs.lemmas.Bool.{cases_eq, eq-eqb, eqb-true, false≢true, ne_eqb}
use Rattle.std.proofs.lemmas.List.{ext_get_or, get_or-drop, get_or-take, length-take-le, length-take}
use Rattle.std.specs.Option.{option_map}
use Rattle.std.proofs.lemmas.List.{take-append-drop}
use Rattle.lnbd_hexdump.specs.Dump.{dump}
use Rattle.lnbd_hexdump.specs.Said.{IsFront}
use Rattle.lnbd_model.specs.declared.breach.Broken.TheVariants as broken
use Rattle.lnbd_model.specs.declared.errors.TheConstants.{EPROTO}
use Rattle.lnbd_model.specs.declared.state.Cause.{Cause}
use Rattle.lnbd_model.specs.declared.state.Cause.TheVariants as cause
use Rattle.lnbd_model.specs.declared.state.State.TheVariants as state
use Rattle.lnbd_model.specs.declared.export.ExportInfo.{ExportInfo}
use Rattle.lnbd_model.specs.declared.target.Place.{Place}
use Rattle.lnbd_model.specs.declared.target.Target.{Target}
use Rattle.lnbd_history.specs.Answers.{state_after}
use Rattle.lnbd_history.specs.Commands.{Command, Request}
use Rattle.lnbd_history.specs.Events.{History}
use Rattle.lnbd_history.specs.History.{request}
use Rattle.lnbd_link.specs.Call as wire
use Rattle.lnbd_link.specs.Call.{Accept, Connect, Listen, Pause, Read, Shut, Write}
use Rattle.lnbd_link.specs.Numbers.{accept_told, is_given, is_number}
use Rattle.lnbd_link.specs.Traffic.{target_of}
use Rattle.lnbd_link.proofs.Parts.{grows_none, grows_on, grows_once, takes_none}
use Rattle.lnbd_link.proofs.Openings.{is_given-append}
use Rattle.lnbd_link.specs.Part.{Adds, Grows, Takes}
use Rattle.lnbd_asked.specs.Exports.{HasToldSize as WasToldSize}
use Rattle.lnbd_asked.specs.Driven.{DrivenSays, Passes, written}
use Rattle.lnbd_asked.specs.Honest.{IsHonest, changes}
use Rattle.lnbd_asked.specs.Link.{Nobody}
use Rattle.lnbd_asked.specs.Transcript.{asked_on, bare, dealt_with, is_name, is_of, is_target, name_asked, on_link, only_if}
use Rattle.lnbd_drives.proofs.Taking.{Runs}
use Rattle.lnbd_drives.proofs.Exports.{info_was_told}
use Rattle.lnbd_records.specs.Limits.{max_text}
use Rattle.lnbd_poll.specs.Seen.{Seen}
use Rattle.lnbd_waits.specs.Begun.{base_allocation, begins, begun}
use Rattle.lnbd_waits.specs.declared.waiting.Halt.TheVariants as halt
use Rattle.lnbd_usage.proofs.Talking.{conversations_use_one_link, converse_none, failed_use, no_calls_use}
use Rattle.lnbd_dump.specs.declared.fault.DumpFault.{DumpFault}
use Rattle.lnbd_dump.specs.declared.fault.DumpFault.TheVariants as fault
use Rattle.lnbd_dump.specs.declared.reader.Reader.{Reader}
use Rattle.lnbd_dump.specs.declared.stop.Stop.{Stop}
use Rattle.lnbd_dump.specs.declared.stop.Stop.TheVariants as stop
use Rattle.lnbd_dump.specs.Conduct.{Asked, Conduct, Dumped, Dumps, Has_talked, HasCause, IsWhole, Not_begun, Not_connected, Not_held, Talked, Unasked, WasFailed, WasKnown}
use Rattle.lnbd_dump.specs.Ends.{Conversed, DumpedAll, DumpedOn, IsDump, IsFit, IsLeft, IsDumped}
use Rattle.lnbd_dump.specs.Leads.{Grown, Tells}
use Rattle.lnbd_reel.specs.Ranges.{length_given, length_shown, range_of}
use Rattle.lnbd_dump.specs.Shown.{Shows, ShowsFront, WasToldByte}
use Rattle.lnbd_reel.specs.Said.{AreTold, Shown, ShownFront}
use Rattle.lnbd_reel.specs.Said.{ShownPart}
use Rattle.lnbd_dump.specs.Stops.{IsEnd, IsToldAs, IsToldDead}
use Rattle.lnbd_dump.specs.Told.{NothingChanges, Told}
use Rattle.lnbd_dump.proofs.StartLemmas.{begun_alone, begun_runs, is_there}
use Rattle.lnbd_dump.proofs.TalkLemmas.{none_there, unasked_none}
use Rattle.lnbd_dump.proofs.TellLemmas.{IsOnCourse, OnlyLooks, holds_told, says, size_dealt, told_dealt, well_looks}

-- ---- Causes.

failed_cause : (offset : ℕ) (given : Option ℕ) (history : History Reader) (error : ℕ) (told : DumpFault) (b : Bool) → (error == EPROTO) ≡ b → WasFailed history error → told ≡ (if b then fault.Broke broken.Content else fault.Peer None error) → HasCause offset given history told
failed_cause offset given history error told true is failed told_is = subst (HasCause offset given history) (sym told_is) (subst (WasFailed history) (eqb-true error EPROTO is) failed)
failed_cause offset given history error told false is failed told_is = subst (HasCause offset given history) (sym told_is) ((λ same. false≢true (sym is ∙ eq-eqb error EPROTO same)), failed)

dead_cause : (offset : ℕ) (given : Option ℕ) (history : History Reader) (cause : Cause) (told : DumpFault) → state_after history ≡ state.Dead cause → IsToldDead cause told → HasCause offset given history told
dead_cause offset given history (cause.Broke breach) told dead is = subst (HasCause offset given history) (sym is) (inl dead)
dead_cause offset given history (cause.Refused option code) told dead is = subst (HasCause offset given history) (sym is) dead
dead_cause offset given history cause.Ended told dead is = subst (HasCause offset given history) (sym is) dead
dead_cause offset given history cause.LinkFailed told dead is = subst (HasCause offset given history) (sym is.2) dead

pub end_cause : (offset : ℕ) (given : Option ℕ) (history : History Reader) (why : Stop) (told : DumpFault) → IsEnd offset given history why → IsToldAs offset given why told → HasCause offset given history told
end_cause offset given history (stop.Halted halt.Silent) told end is = subst (HasCause offset given history) (sym is.1) tt
end_cause offset given history (stop.Halted halt.NoMemory) told end is = subst (HasCause offset given history) (sym is) tt
end_cause offset given history (stop.Died cause) told end is = dead_cause offset given history cause told end is
end_cause offset given history (stop.Broke breach) told end is = subst (HasCause offset given history) (sym is) (inr end)
end_cause offset given history (stop.Failed error) told end is = failed_cause offset given history error told (error == EPROTO) refl end is
end_cause offset given history stop.Output told end is = subst (HasCause offset given history) (sym is) tt
end_cause offset given history (stop.Range size) told end is = subst (HasCause offset given history) (sym is) (refl, refl, end)
end_cause offset given history (stop.Uneven size block) told end is = subst (HasCause offset given history) (sym is) end

-- ---- What was told by the calls of a dump.

-- the part by which a transcript grew is that of the dump
one_part : (told told' : Option (List wire.Call)) (made all part : List wire.Call) → Grows told told' made → told' ≡ Some all → Grows told told' part → part ≡ made
one_part told told' made all part grown is grows = grows_once told told' part made all grows grown is

pub was_told : (place : Place) (told told' : Option (List wire.Call)) (made : List wire.Call) (p byte : ℕ) → Grows told told' made → Told (dealt_with place made) p byte → WasToldByte place told told' p byte
was_told place told told' made p byte grown t all part is grows = subst (λ (l : List wire.Call). Told (dealt_with place l) p byte) (sym (one_part told told' made all part grown is grows)) t

pub shown_told : (told told' : ℕ → ℕ → Type 0) (offset count : ℕ) (taken taken' : Option (List ℕ)) → ((p byte : ℕ) → told p byte → told' p byte) → Shown told offset count taken taken' → Shown told' offset count taken taken'
shown_told told told' offset count taken taken' k s = record { bytes = s.bytes; told_are = λ i lt. k (offset + i) (get_or s.bytes i 0) (s.told_are i lt); count_is = s.count_is; takes = s.takes }

pub front_told : (told told' : ℕ → ℕ → Type 0) (offset count : ℕ) (taken taken' : Option (List ℕ)) → ((p byte : ℕ) → told p byte → told' p byte) → ShownPart told offset count taken taken' → ShownFront told' offset taken taken'
front_told told told' offset count taken taken' k s = record {
  bytes = s.bytes;
  told_are = λ i lt. k (offset + i) (get_or s.bytes i 0) (s.told_are i lt);
  text = s.text;
  takes = s.takes;
  front = (let few = s.few in subst (λ (b : List ℕ). IsFront s.text (dump offset b)) (append-nil s.bytes) (s.front [] (omega (arith, few))));
}

-- nothing was shown
pub none_front : (told : ℕ → ℕ → Type 0) (offset : ℕ) (taken taken' : Option (List ℕ)) → Takes taken taken' [] → ShownFront told offset taken taken'
none_front told offset taken taken' takes = record { bytes = []; told_are = λ i lt. absurd (omega (arith, lt)); text = []; takes = takes; front = record { rest = dump offset []; is = refl } }

-- ---- Over an honest export.

-- how many bytes there are from a position on, where the export has so many
range_long : (offset count size : ℕ) (given : Option ℕ) (holds : List ℕ) → length holds ≡ size → offset + length_given given ≤ size → count ≡ length_shown offset given size → (offset + count ≤ length holds) × (length (range_of offset given holds) ≡ count)
range_long offset count size None holds long fits is = let left = length-drop offset holds in (omega (arith, long, fits, is), omega (arith, left, long, is))
range_long offset count size (Some n) holds long fits is =
    let left = length-drop offset holds in (omega (arith, long, fits, is), length-take-le n (drop offset holds) (omega (arith, left, long, fits)) ∙ sym is)

-- each of its bytes
range_at : (offset : ℕ) (given : Option ℕ) (holds : List ℕ) (i : ℕ) → i < length (range_of offset given holds) → get_or (range_of offset given holds) i 0 ≡ get_or holds (offset + i) 0
range_at offset None holds i lt = get_or-drop offset holds i 0
range_at offset (Some n) holds i lt = get_or-take n (drop offset holds) i 0 (let most = length-take n (drop offset holds) in omega (arith, lt, most)) ∙ get_or-drop offset holds i 0

-- what was told is what it holds
pub told_range : (told : ℕ → ℕ → Type 0) (offset count : ℕ) (given : Option ℕ) (bytes holds : List ℕ) → AreTold told offset bytes → ((p byte : ℕ) → told p byte → get_or holds p 0 ≡ byte) → length bytes ≡ count → length (range_of offset given holds) ≡ count → bytes ≡ range_of offset given holds
told_range told offset count given bytes holds are holds_it long all =
    ext_get_or 0 bytes (range_of offset given holds) (long ∙ sym all) (λ i lt. sym (holds_it (offset + i) (get_or bytes i 0) (are i lt)) ∙ sym (range_at offset given holds i (subst (λ (n : ℕ). i < n) (long ∙ sym all) lt)))

pub shows_honest : (place : Place) (offset count size link : ℕ) (given : Option ℕ) (told told' : Option (List wire.Call)) (made : List wire.Call) (taken taken' : Option (List ℕ)) → Grows told told' made → NothingChanges (dealt_with place made) → (dealt_with place made).size link ≡ Some size
    → offset + length_given given ≤ size → count ≡ length_shown offset given size → Shown (Told (dealt_with place made)) offset count taken taken' → Shows place offset given count told told' taken taken'
shows_honest place offset count size link given told told' made taken taken' grown none size_told fits is s = record {
  text = dump offset s.bytes;
  takes = s.takes;
  is = λ all part all_is grows holds honest. (
      let same = one_part told told' made all part grown all_is grows in
      let h : IsHonest place holds made holds = subst (λ (l : List wire.Call). IsHonest place holds l holds) same honest in
      let long : length holds ≡ size = sym (h.sizes.told link size size_told) in
      let r = range_long offset count size given holds long fits is in
      (r.0, r.1, ap (dump offset) (told_range (Told (dealt_with place made)) offset count given s.bytes holds s.told_are (λ p byte t. holds_told holds (dealt_with place made) p byte h none t) s.count_is r.1)));
}

-- bytes that were told are a front of those that it holds
front_range : (offset count : ℕ) (given : Option ℕ) (bytes holds : List ℕ) (told : ℕ → ℕ → Type 0) → AreTold told offset bytes → ((p byte : ℕ) → told p byte → get_or holds p 0 ≡ byte) → length bytes ≤ count → length (range_of offset given holds) ≡ count
    → range_of offset given holds ≡ bytes ++ drop (length bytes) (range_of offset given holds)
front_range offset count given bytes holds told are holds_it few all =
    let range : List ℕ = range_of offset given holds in
    let n : ℕ = length bytes in
    let some : length (take n range) ≡ n = length-take-le n range (omega (arith, few, all)) in
    let same : take n range ≡ bytes = ext_get_or 0 (take n range) bytes some (λ i lt. (
    let low : i < n = subst (λ (k : ℕ). i < k) some lt in
    get_or-take n range i 0 low ∙ range_at offset given holds i (omega (arith, low, few, all)) ∙ holds_it (offset + i) (get_or bytes i 0) (are i low))) in
    sym (take-append-drop n range) ∙ ap (λ (t : List ℕ). t ++ drop n range) same

pub fronts_honest : (place : Place) (offset count size link : ℕ) (given : Option ℕ) (told told' : Option (List wire.Call)) (made : List wire.Call) (taken taken' : Option (List ℕ)) → Grows told told' made → NothingChanges (dealt_with place made) → (dealt_with place made).size link ≡ Some size
    → offset + length_given given ≤ size → count ≡ length_shown offset given size → ShownPart (Told (dealt_with place made)) offset count taken taken' → ShowsFront place offset given told told' taken taken'
fronts_honest place offset count size link given told told' made taken taken' grown none size_told fits is s = record {
  text = s.text;
  takes = s.takes;
  is = λ all part all_is grows holds honest. (
      let same = one_part told told' made all part grown all_is grows in
      let h : IsHonest place holds made holds = subst (λ (l : List wire.Call). IsHonest place holds l holds) same honest in
      let long : length holds ≡ size = sym (h.sizes.told link size size_told) in
      let r = range_long offset count size given holds long fits is in
      let rest : List ℕ = drop (length s.bytes) (range_of offset given holds) in
      let parts = front_range offset count given s.bytes holds (Told (dealt_with place made)) s.told_are (λ p byte t. holds_told holds (dealt_with place made) p byte h none t) s.few r.1 in
      let sum = length-append s.bytes rest in
      let whole = ap (λ (l : List ℕ). length l) parts in
      subst (λ (l : List ℕ). IsFront s.text (dump offset l)) (sym parts) (s.front rest (let e = r.1 in omega (arith, sum, whole, e))));
}

-- nothing was shown
pub none_honest : (place : Place) (offset : ℕ) (given : Option ℕ) (told told' : Option (List wire.Call)) (taken taken' : Option (List ℕ)) → Takes taken taken' [] → ShowsFront place offset given told told' taken taken'
none_honest place offset given told told' taken taken' takes = record { text = []; takes = takes; is = λ all part all_is grows holds honest. record { rest = dump offset (range_of offset given holds); is = refl } }

-- ---- One link to the place alone.

second_not : (a b : Bool) → (a || b) ≡ false → b ≡ false
second_not true b e = absurd (false≢true (sym e))
second_not false b e = e

-- A link that was not given was connected nowhere.
target_none : (link : ℕ) (calls : List wire.Call) → is_given link calls ≡ false → target_of link calls ≡ None
target_none link [] e = refl
target_none link (Connect to None ∷ calls) e = target_none link calls e
target_none link (Connect to (Some n) ∷ calls) e = go (n == link) e (target_none link calls)
  where
    go : (b : Bool) → (b || is_given link calls) ≡ false → (is_given link calls ≡ false → target_of link calls ≡ None) → (if b then Some to else target_of link calls) ≡ None
    go true f rest = absurd (false≢true (sym f))
    go false f rest = rest f
target_none link (Listen at given ∷ calls) e = target_none link calls (second_not (is_number link given) (is_given link calls) e)
target_none link (Accept n answer ∷ calls) e = target_none link calls (second_not (is_number link (accept_told answer)) (is_given link calls) e)
target_none link (Read n room answer ∷ calls) e = target_none link calls e
target_none link (Write n offered answer ∷ calls) e = target_none link calls e
target_none link (Pause wants ∷ calls) e = target_none link calls e
target_none link (Shut n ∷ calls) e = target_none link calls e

-- all calls of a dump that had a conversation
abbrev pub all_calls : (place : Place) (link : ℕ) (talk : List wire.Call) → List wire.Call
all_calls place link talk = Connect place.to (Some link) ∷ (talk ++ Shut link ∷ [])

rest_gives_none : (n link : ℕ) (talk : List wire.Call) → is_given n talk ≡ false → is_given n (talk ++ Shut link ∷ []) ≡ false
rest_gives_none n link talk none = is_given-append n talk (Shut link ∷ []) ∙ ap (λ (b : Bool). b || is_given n (Shut link ∷ [])) none

no_target : (to : Target) → is_target to None ≡ true → ⊥
no_target to e = false≢true e

-- only the one link may be of the export
one_link : (place : Place) (link n : ℕ) (talk : List wire.Call) → is_given n talk ≡ false → is_target place.to (target_of n (all_calls place link talk)) ≡ true → link ≡ n
one_link place link n talk none is = go (cases_eq link n)
  where
    go : (link ≡ n) ⊎ (link ≡ n → ⊥) → link ≡ n
    go (inl same) = same
    go (inr differ) = absurd (no_target place.to (ap (is_target place.to) (sym (ap (λ (b : Bool). if b then Some place.to else target_of n (talk ++ Shut link ∷ [])) (ne_eqb link n differ)
        ∙ target_none n (talk ++ Shut link ∷ []) (rest_gives_none n link talk none))) ∙ is))

and_first : (a b : Bool) → (a && b) ≡ true → a ≡ true
and_first true b e = refl
and_first false b e = absurd (false≢true e)

-- nothing that was asked of the export changes a byte
pub nothing_changes : (place : Place) (link : ℕ) (talk : List wire.Call) (history : History Reader) → ((n : ℕ) → is_given n talk ≡ false) → DrivenSays history (on_link link (all_calls place link talk)) → OnlyLooks history → NothingChanges (dealt_with place (all_calls place link talk))
nothing_changes place link talk history gives says looks n cookie asks is = go (is_of place made n) refl is
  where
    made : List wire.Call
    made = all_calls place link talk

    none_asks : None ≡ Some asks → ⊥
    none_asks e = cc

    some_same : (a b : Command Nobody) → Some a ≡ Some b → a ≡ b
    some_same a b e = cc

    of_request : (found : Option (Request Reader)) → request history cookie ≡ found → option_map bare found ≡ Some asks → changes asks.kind ≡ false
    of_request None there e = absurd (none_asks e)
    of_request (Some q) there e = ap (λ (c : Command Nobody). changes c.kind) (sym (some_same (bare q) asks e)) ∙ looks cookie q there

    of_written : (b : Bool) → (if b then option_map bare (request history cookie) else None) ≡ Some asks → changes asks.kind ≡ false
    of_written true e = of_request (request history cookie) refl e
    of_written false e = absurd (none_asks e)

    go : (b : Bool) → is_of place made n ≡ b → only_if b (asked_on (on_link n made) cookie) ≡ Some asks → changes asks.kind ≡ false
    go true of e =
        let same : link ≡ n = one_link place link n talk (gives n) (and_first (is_target place.to (target_of n made)) (is_name place.name (name_asked (on_link n made).wishes)) of) in
        of_written (nat_le cookie (written history)) (sym (says.requests cookie) ∙ ap (λ (k : ℕ). asked_on (on_link k made) cookie) same ∙ e)
    go false of e = absurd (none_asks e)

-- ---- The size.

size_later : (before after : History Reader) (size : ℕ) → Grown before after → WasToldSize before size → WasToldSize after size
size_later before after size grown t = record { earlier = t.earlier; since = grown.since ++ t.since; is = grown.is ∙ ap (λ (h : History Reader). grown.since ++ h) t.is ∙ sym (append_assoc grown.since t.since t.earlier); knew = t.knew; out = t.out }

pub known_size : (history : History Reader) (info : ExportInfo) → WasKnown history info → WasToldSize history info.size
known_size history info k =
    let t = info_was_told k.earlier info k.ready k.quiet k.told in
    record { earlier = t.earlier; since = k.since ++ t.since; is = k.is ∙ ap (λ (h : History Reader). k.since ++ h) t.is ∙ sym (append_assoc k.since t.since t.earlier); knew = t.knew; out = t.out }

-- ---- The whole.

module _ (place : Place) (link : ℕ) (offset : ℕ) (given : Option ℕ) (small : length place.name ≤ max_text) where
  -- A conversation on the link that the connect gave, which is then shut.
  module _ (told told' : Option (List wire.Call)) (taken taken' : Option (List ℕ)) (answer : Result ℕ DumpFault) (c : Conversed link place offset given told told' taken taken' answer) where
    abbrev made : List wire.Call
    made = all_calls place link c.calls

    abbrev start : Seen Reader
    start = begins link place.name base_allocation

    connected : Runs {K = Reader} link (Connect place.to (Some link) ∷ []) (begun place.name base_allocation) []
    connected = begun_runs link place.to place.name small

    -- the handle drives the link by all calls of the dump
    ended_runs : Runs c.ended.link made c.ended.history []
    ended_runs =
        let ran = c.leads.ends (Connect place.to (Some link) ∷ []) refl connected in
        let left : c.ended.unread ≡ [] = ran.arrived refl in
        let here : Runs link (Connect place.to (Some link) ∷ c.calls) c.ended.history [] = subst (Runs link (Connect place.to (Some link) ∷ c.calls) c.ended.history) left ran.runs in
        subst (λ (n : ℕ). Runs n made c.ended.history []) (sym ran.same)
        (record { drives = Passes (Connect place.to (Some link) ∷ c.calls) c.ended.history [] (Shut link) made here.drives refl refl; spelled = here.spelled; off = here.off })

    same_link : c.ended.link ≡ link
    same_link = (c.leads.ends (Connect place.to (Some link) ∷ []) refl connected).same

    course : IsOnCourse place made c.ended
    course = record {
      runs = ended_runs;
      target = ap (λ (n : ℕ). is_target place.to (target_of n made)) same_link ∙ ap (λ (b : Bool). is_target place.to (if b then Some place.to else target_of link (c.calls ++ Shut link ∷ []))) (eq-eqb link link refl) ∙ is_there place.to;
      name = c.leads.grown.name;
      going = c.leads.lawful c.going;
    }

    talked : Talked link place.name c.calls c.after
    talked = record {
      link_is = (c.leads.drives [] refl (begun_alone link place.name small)).same;
      since = c.leads.later.grown.since;
      begins = c.leads.later.grown.is;
      drives = (c.leads.drives [] refl (begun_alone link place.name small)).runs.drives;
      conduct = c.conduct;
    }

    dumps : Dumps place offset given made answer
    dumps = Has_talked made answer link c.calls c.after talked c.answer_is refl

    conduct_looks : (history : History Reader) → Conduct history → OnlyLooks history
    conduct_looks history (Unasked none) = λ k q is. absurd (none_there q (sym (unasked_none history none k) ∙ is))
    conduct_looks history (Asked info known well) = well_looks info history well

    looks : OnlyLooks c.ended.history
    looks k q is = conduct_looks c.after.history c.conduct k q (sym (c.leads.asks k) ∙ is)

    fit : (count : ℕ) → IsWhole offset given c.ended.history count → IsFit place made offset given count
    fit count w = record {
      none = nothing_changes place link c.calls c.ended.history c.leads.gives (subst (λ (n : ℕ). DrivenSays c.ended.history (on_link n made)) same_link (says place made c.ended course)) looks;
      link = c.ended.link;
      size = w.info.size;
      told = size_dealt place made c.ended course w.info.size (known_size c.ended.history w.info w.known);
      fits = w.fits;
      is = w.is;
    }

    told_made : (p byte : ℕ) → Tells c.ended.history p byte → Told (dealt_with place made) p byte
    told_made p byte t = told_dealt place made c.ended course p byte t

    front_made : (count : ℕ) → ShownPart (Tells c.ended.history) offset count taken taken' → ShownPart (Told (dealt_with place made)) offset count taken taken'
    front_made count s = record { bytes = s.bytes; told_are = λ i lt. told_made (offset + i) (get_or s.bytes i 0) (s.told_are i lt); few = s.few; text = s.text; takes = s.takes; front = s.front }

    left_made : (a : Result ℕ DumpFault) → IsLeft a offset given taken taken' c.ended.history → IsDumped place made offset given taken taken' a
    left_made (Ok count) l = (fit count l.0, shown_told (Tells c.ended.history) (Told (dealt_with place made)) offset count taken taken' told_made l.1)
    left_made (Err why) (inl same) = inl same
    left_made (Err why) (inr l) = inr (l.0, fit l.0 l.1, front_made l.0 l.2)

    is_dump : IsDump place offset given made taken taken' answer
    is_dump = record { uses = conversations_use_one_link place.to link c.calls ((c.leads.speaks refl).converse c.going); dumps = dumps; made_is = left_made answer c.left }

    -- and then it is shut
    pub dumped_on : (told'' : Option (List wire.Call)) → Adds told' told'' (Shut link) → DumpedOn link place offset given told told'' taken taken' answer
    dumped_on told'' adds = record { calls = c.calls ++ Shut link ∷ []; grown = grows_on told told' told'' c.calls (Shut link ∷ []) c.grown adds; is = is_dump }

  -- memory runs out for the handle
  pub not_held : (told told' : Option (List wire.Call)) (taken : Option (List ℕ)) (answer : Result ℕ DumpFault) → answer ≡ Err fault.NoMemory → Adds told told' (Shut link) → DumpedOn link place offset given told told' taken taken answer
  not_held told told' taken answer is adds = record {
    calls = Shut link ∷ [];
    grown = adds;
    is = record {
      uses = conversations_use_one_link place.to link [] (converse_none link);
      dumps = Not_held (Connect place.to (Some link) ∷ Shut link ∷ []) answer link refl is;
      made_is = subst (IsDumped place (Connect place.to (Some link) ∷ Shut link ∷ []) offset given taken taken) (sym is) (inl refl);
    };
  }

  -- with the connect
  pub with_connect : (told told' told'' : Option (List wire.Call)) (taken taken' : Option (List ℕ)) (answer : Result ℕ DumpFault) → Adds told told' (Connect place.to (Some link)) → DumpedOn link place offset given told' told'' taken taken' answer → DumpedAll place offset given told told'' taken taken' answer
  with_connect told told' told'' taken taken' answer adds d = record { calls = Connect place.to (Some link) ∷ d.calls; grown = grows_on told told' told'' (Connect place.to (Some link) ∷ []) d.calls adds d.grown; is = d.is }

pub not_connected : (place : Place) (offset : ℕ) (given : Option ℕ) (told told' : Option (List wire.Call)) (taken : Option (List ℕ)) (answer : Result ℕ DumpFault) (before after : ℕ) → answer ≡ Err (fault.Link before after) → Adds told told' (Connect place.to None) → DumpedAll place offset given told told' taken taken answer
not_connected place offset given told told' taken answer before after is adds = record {
  calls = Connect place.to None ∷ [];
  grown = adds;
  is = record {
    uses = failed_use place.to;
    dumps = Not_connected (Connect place.to None ∷ []) answer refl (fault.Link before after, is, (before, after, refl));
    made_is = subst (IsDumped place (Connect place.to None ∷ []) offset given taken taken) (sym is) (inl refl);
  };
}

pub not_begun : (place : Place) (offset : ℕ) (given : Option ℕ) (told : Option (List wire.Call)) (taken : Option (List ℕ)) (answer : Result ℕ DumpFault) → answer ≡ Err fault.NoMemory → DumpedAll place offset given told told taken taken answer
not_begun place offset given told taken answer is = record {
  calls = [];
  grown = grows_none told;
  is = record { uses = no_calls_use place.to; dumps = Not_begun [] answer refl is; made_is = subst (IsDumped place [] offset given taken taken) (sym is) (inl refl) };
}

-- ---- The clauses of a dump.

module _ (place : Place) (offset : ℕ) (given : Option ℕ) (told told' : Option (List wire.Call)) (taken taken' : Option (List ℕ)) where
  pub dumped_is : (answer : Result ℕ DumpFault) → DumpedAll place offset given told told' taken taken' answer → Dumped place offset given told told' answer
  dumped_is answer d = record { calls = d.calls; grown = d.grown; uses = d.is.uses; dumps = d.is.dumps }

  pub clause_shown : (answer : Result ℕ DumpFault) → DumpedAll place offset given told told' taken taken' answer → IfOk answer (λ count. Shown (WasToldByte place told told') offset count taken taken')
  clause_shown (Ok count) d = shown_told (Told (dealt_with place d.calls)) (WasToldByte place told told') offset count taken taken' (λ p byte t. was_told place told told' d.calls p byte d.grown t) d.is.made_is.1
  clause_shown (Err why) d = tt

  pub clause_shows : (answer : Result ℕ DumpFault) → DumpedAll place offset given told told' taken taken' answer → IfOk answer (λ count. Shows place offset given count told told' taken taken')
  clause_shows (Ok count) d =
      let f = d.is.made_is.0 in
      shows_honest place offset count f.size f.link given told told' d.calls taken taken' d.grown f.none f.told f.fits f.is d.is.made_is.1
  clause_shows (Err why) d = tt

  none_takes : taken' ≡ taken → Takes taken taken' []
  none_takes same = subst (λ (t : Option (List ℕ)). Takes taken t []) (sym same) (takes_none taken)

  pub clause_front : (answer : Result ℕ DumpFault) → DumpedAll place offset given told told' taken taken' answer → OnErr answer (ShownFront (WasToldByte place told told') offset taken taken')
  clause_front (Ok count) d = tt
  clause_front (Err why) d = go d.is.made_is
    where
      go : (taken' ≡ taken) ⊎ ((count : ℕ) × IsFit place d.calls offset given count × ShownPart (Told (dealt_with place d.calls)) offset count taken taken') → ShownFront (WasToldByte place told told') offset taken taken'
      go (inl same) = none_front (WasToldByte place told told') offset taken taken' (none_takes same)
      go (inr s) = front_told (Told (dealt_with place d.calls)) (WasToldByte place told told') offset s.0 taken taken' (λ p byte t. was_told place told told' d.calls p byte d.grown t) s.2

  pub clause_fronts : (answer : Result ℕ DumpFault) → DumpedAll place offset given told told' taken taken' answer → OnErr answer (ShowsFront place offset given told told' taken taken')
  clause_fronts (Ok count) d = tt
  clause_fronts (Err why) d = go d.is.made_is
    where
      go : (taken' ≡ taken) ⊎ ((count : ℕ) × IsFit place d.calls offset given count × ShownPart (Told (dealt_with place d.calls)) offset count taken taken') → ShowsFront place offset given told told' taken taken'
      go (inl same) = none_honest place offset given told told' taken taken' (none_takes same)
      go (inr s) = let f = s.1 in fronts_honest place offset s.0 f.size f.link given told told' d.calls taken taken' d.grown f.none f.told f.fits f.is s.2
