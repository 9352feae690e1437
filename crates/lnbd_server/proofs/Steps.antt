-- One step of a dialogue: what was seen of some bytes is what they say.
use Rattle.std.proofs.Common.{◌≡◌, ℕ, ◌+◌, ◌-◌, ◌≤◌, ◌<◌, Bool, true, List, [], ◌∷◌, ◌++◌, length, take, drop, Option, Some, None, refl, ap, sym, subst, ◌∙◌, arith, append-nil, length-append, inl, inr}
use Rattle.std.proofs.lemmas.Bool.{cases_lt}
use Rattle.std.proofs.lemmas.List.{length-take, take-append-drop, take_all, take-append-le}
use Rattle.std.proofs.Math.Seq.{take-append-add}
use Rattle.lnbd_stream.specs.Stream.{Held, fresh, settle, feed}
use Rattle.lnbd_stream.specs.Laws.{Steady}
use Rattle.lnbd_stream.specs.Grammar.{each_byte}
use Rattle.lnbd_stream.proofs.Stream.{feed-append, feed_none, feed_found, feed_front, front_of_size}
use Rattle.lnbd_export.specs.Export.{Export}
use Rattle.lnbd_export.specs.Requests.{is_extended}
use Rattle.lnbd_server.specs.declared.client.Seen.{Seen}
use Rattle.lnbd_server.specs.declared.client.Seen.TheVariants as seen
use Rattle.lnbd_server.specs.declared.stage.Offers.{Offers}
use Rattle.lnbd_server.specs.declared.stage.Stage.{Stage}
use Rattle.lnbd_server.specs.declared.stage.Stage.TheVariants.{Greeting, Haggling, Serving, Ended, Strayed}
use Rattle.lnbd_server.specs.Client.{Flags, OptionRequest, Asks, Disconnect, Stray, Ignored, Heard, stray, says}
use Rattle.lnbd_server.specs.Seen.{heard_of, used_of, IsThere}
use Rattle.lnbd_server.specs.Session.{State, Dialogue, rules, entering, is_closed, state_of, with_export}
use Rattle.lnbd_server.proofs.Says.{says_stays, says_none, says_fits, says_first}

abbrev pub shows : State → List ℕ → Option Heard
shows state = says state.stage (is_extended state.agreed.replies)

pub steady : (offers : Offers) → Steady (rules offers)
steady offers = record {
  stays = λ known bytes more found e. says_stays known.stage (is_extended known.agreed.replies) bytes more found e;
  none = λ known. says_none known.stage (is_extended known.agreed.replies);
}

abbrev size : Heard → ℕ
size heard = heard.size

-- after the end each byte is passed over

says_closed : (stage : Stage) (extended : Bool) (byte : ℕ) → is_closed stage ≡ true → says stage extended (byte ∷ []) ≡ Some (record { size = 1; said = Ignored })
unfolding each_byte
says_closed Greeting extended byte e = cc
says_closed Haggling extended byte e = cc
says_closed Serving extended byte e = cc
says_closed Ended extended byte e = refl
says_closed Strayed extended byte e = refl

pub closed_rest : (offers : Offers) (known : State) (bytes : List ℕ) → is_closed known.stage ≡ true → feed (rules offers) (fresh known) bytes ≡ fresh known
closed_rest offers known [] e = refl
closed_rest offers known (byte ∷ bytes) e =
    ap (λ v. feed (rules offers) (settle (rules offers) known (byte ∷ []) v) bytes) (says_closed known.stage (is_extended known.agreed.replies) byte e) ∙ closed_rest offers known bytes e

-- a thing that is whole, and bytes that are no client's

pub taken_whole : (offers : Offers) (known : State) (front : List ℕ) (found : Heard) → shows known front ≡ Some found → length front ≤ found.size →
    feed (rules offers) (fresh known) front ≡ fresh (entering offers found.said known)
taken_whole offers known front found e fits =
    let first = front_of_size (rules offers) (steady offers) size (λ k bytes. says_fits k.stage (is_extended k.agreed.replies) bytes) known front found e fits in
    ap (feed (rules offers) (fresh known)) (sym (append-nil front)) ∙ feed_front (rules offers) (steady offers) known front [] found first

pub taken_stray : (offers : Offers) (known : State) (bytes : List ℕ) → shows known bytes ≡ Some stray → feed (rules offers) (fresh known) bytes ≡ fresh (record known { stage = Strayed })
taken_stray offers known bytes e =
    let r = feed_found (rules offers) (steady offers) known bytes stray e in
    r.4 ∙ closed_rest offers (record known { stage = Strayed }) r.1 refl

-- a thing that isn't a stray one is said by as many bytes as it has
front_of : (known : State) (bytes : List ℕ) (found : Heard) → shows known bytes ≡ Some found → (found.said ≡ Stray → ⊥) → shows known (take found.size bytes) ≡ Some found
front_of known bytes found e other = elim (says_first known.stage (is_extended known.agreed.replies) bytes found e) [
  | inl h ↦ absurd (other (ap (λ (x : Heard). x.said) h))
  | inr h ↦ h
]

whole_seen : (offers : Offers) (known : State) (bytes : List ℕ) (found : Heard) (after : State) → shows known bytes ≡ Some found → (found.said ≡ Stray → ⊥) → after ≡ entering offers found.said known →
    feed (rules offers) (fresh known) (take found.size bytes) ≡ fresh after
whole_seen offers known bytes found after e other is =
    taken_whole offers known (take found.size bytes) found (front_of known bytes found e other) (omega (arith, length-take found.size bytes)) ∙ ap (λ (k : State). fresh k) (sym is)

-- by what was seen
pub taken_seen : (offers : Offers) (known : State) (bytes : List ℕ) (what : Seen) (after : State) → (what ≡ seen.Nothing → ⊥) → shows known bytes ≡ heard_of what bytes → IsThere what bytes →
    ((heard : Heard) → heard_of what bytes ≡ Some heard → after ≡ entering offers heard.said known) →
    feed (rules offers) (fresh known) (take (used_of what (length bytes)) bytes) ≡ fresh after
taken_seen offers known bytes seen.Nothing after some says there does = absurd (some refl)
taken_seen offers known bytes (seen.Flags flags) after some says there does =
    let found : Heard = record { size = 4; said = Flags flags } in whole_seen offers known bytes found after says (λ e. cc) (does found refl)
taken_seen offers known bytes (seen.OptionRequest option n) after some says there does =
    let found : Heard = record { size = 16 + n; said = OptionRequest option (take n (drop 16 bytes)) } in whole_seen offers known bytes found after says (λ e. cc) (does found refl)
taken_seen offers known bytes (seen.Asks request head n) after some says there does =
    let found : Heard = record { size = head + n; said = Asks request (take n (drop head bytes)) } in whole_seen offers known bytes found after says (λ e. cc) (does found refl)
taken_seen offers known bytes (seen.Disconnect n) after some says there does =
    let found : Heard = record { size = n; said = Disconnect } in whole_seen offers known bytes found after says (λ e. cc) (does found refl)
taken_seen offers known bytes seen.Stray after some says there does =
    ap (feed (rules offers) (fresh known)) (take_all (length bytes) bytes (omega arith)) ∙ taken_stray offers known bytes says ∙ ap (λ (k : State). fresh k) (sym (does stray refl))

-- bytes that are held come in front
pub taken_further : (offers : Offers) (known : State) (pending bytes : List ℕ) (after : Held State) → shows known pending ≡ None →
    feed (rules offers) (fresh known) (pending ++ bytes) ≡ after → feed (rules offers) (record { known = known; pending = pending }) bytes ≡ after
taken_further offers known pending bytes after none e =
    ap (λ h. feed (rules offers) h bytes) (sym (feed_none (rules offers) (steady offers) known [] pending none)) ∙ sym (feed-append (rules offers) (fresh known) pending bytes) ∙ e

-- what was seen ends behind what was held
pub ends_behind : (known : State) (pending bytes : List ℕ) (found : Heard) (n : ℕ) → shows known pending ≡ None → shows known (take n (pending ++ bytes)) ≡ Some found → length pending < n
ends_behind known pending bytes found n none e = elim (cases_lt (length pending) n) [
  | inl h ↦ h
  | inr h ↦
      let part : take n (pending ++ bytes) ≡ take n pending = take-append-le n pending bytes h in
      let early : shows known (take n pending) ≡ Some found = ap (shows known) (sym part) ∙ e in
      let late : shows known (take n pending ++ drop n pending) ≡ Some found = says_stays known.stage (is_extended known.agreed.replies) (take n pending) (drop n pending) found early in
      let whole : shows known pending ≡ Some found = ap (shows known) (sym (take-append-drop n pending)) ∙ late in
      let no : None ≡ Some found = sym none ∙ whole in
      cc
]

pub used_behind : (known : State) (pending bytes : List ℕ) (what : Seen) → shows known pending ≡ None → 0 < length bytes → (what ≡ seen.Nothing → ⊥) → shows known (pending ++ bytes) ≡ heard_of what (pending ++ bytes) →
    length pending < used_of what (length (pending ++ bytes))
used_behind known pending bytes seen.Nothing none more some says = absurd (some refl)
used_behind known pending bytes (seen.Flags flags) none more some says =
    ends_behind known pending bytes _ 4 none (front_of known (pending ++ bytes) (record { size = 4; said = Flags flags }) says (λ e. cc))
used_behind known pending bytes (seen.OptionRequest option n) none more some says =
    ends_behind known pending bytes _ (16 + n) none (front_of known (pending ++ bytes) (record { size = 16 + n; said = OptionRequest option (take n (drop 16 (pending ++ bytes))) }) says (λ e. cc))
used_behind known pending bytes (seen.Asks request head n) none more some says =
    ends_behind known pending bytes _ (head + n) none (front_of known (pending ++ bytes) (record { size = head + n; said = Asks request (take n (drop head (pending ++ bytes))) }) says (λ e. cc))
used_behind known pending bytes (seen.Disconnect n) none more some says =
    ends_behind known pending bytes _ n none (front_of known (pending ++ bytes) (record { size = n; said = Disconnect }) says (λ e. cc))
used_behind known pending bytes seen.Stray none more some says = omega (arith, length-append pending bytes)

pub used_within : (what : Seen) (bytes : List ℕ) → IsThere what bytes → used_of what (length bytes) ≤ length bytes
used_within seen.Nothing bytes there = omega arith
used_within (seen.Flags flags) bytes there = there
used_within (seen.OptionRequest option n) bytes there = there
used_within (seen.Asks request head n) bytes there = there.0
used_within (seen.Disconnect n) bytes there = there
used_within seen.Stray bytes there = omega arith

pub further_seen : (offers : Offers) (known : State) (pending bytes : List ℕ) (what : Seen) (after : State) → shows known pending ≡ None → 0 < length bytes → (what ≡ seen.Nothing → ⊥) →
    shows known (pending ++ bytes) ≡ heard_of what (pending ++ bytes) → IsThere what (pending ++ bytes) →
    ((heard : Heard) → heard_of what (pending ++ bytes) ≡ Some heard → after ≡ entering offers heard.said known) →
    feed (rules offers) (record { known = known; pending = pending }) (take (used_of what (length (pending ++ bytes)) - length pending) bytes) ≡ fresh after
further_seen offers known pending bytes what after none more some says there does =
    let behind = used_behind known pending bytes what none more some says in
    let size : length pending + (used_of what (length (pending ++ bytes)) - length pending) ≡ used_of what (length (pending ++ bytes)) = omega arith in
    let front : pending ++ take (used_of what (length (pending ++ bytes)) - length pending) bytes ≡ take (used_of what (length (pending ++ bytes))) (pending ++ bytes) =
    sym (take-append-add pending bytes (used_of what (length (pending ++ bytes)) - length pending)) ∙ ap (λ n. take n (pending ++ bytes)) size in
    taken_further offers known pending (take (used_of what (length (pending ++ bytes)) - length pending) bytes) (fresh after) none
    (ap (feed (rules offers) (fresh known)) front ∙ taken_seen offers known (pending ++ bytes) what after some says there does)

-- the same of a dialogue

pub first_none : (offers : Offers) (before after : Dialogue) (export : Export) (bytes : List ℕ) → before.heard ≡ [] → says before.stage (is_extended before.agreed.replies) bytes ≡ None → after ≡ record before { heard = bytes } →
    feed (rules offers) (with_export before export) (take (length bytes) bytes) ≡ with_export after export
first_none offers before after export bytes none e is =
    ap (feed (rules offers) (with_export before export)) (take_all (length bytes) bytes (omega arith))
    ∙ ap (λ (p : List ℕ). feed (rules offers) (record { known = state_of before export; pending = p }) bytes) none
    ∙ feed_none (rules offers) (steady offers) (state_of before export) [] bytes e
    ∙ ap (λ (d : Dialogue). with_export d export) (sym is)

pub first_some : (offers : Offers) (before after : Dialogue) (start end : Export) (bytes : List ℕ) (what : Seen) (n : ℕ) → before.heard ≡ [] → (what ≡ seen.Nothing → ⊥) →
    says before.stage (is_extended before.agreed.replies) bytes ≡ heard_of what bytes → IsThere what bytes → after.heard ≡ [] →
    ((heard : Heard) → heard_of what bytes ≡ Some heard → state_of after end ≡ entering offers heard.said (state_of before start)) → n ≡ used_of what (length bytes) →
    feed (rules offers) (with_export before start) (take n bytes) ≡ with_export after end
first_some offers before after start end bytes what n none some says there empty does size =
    ap (λ k. feed (rules offers) (with_export before start) (take k bytes)) size
    ∙ ap (λ (p : List ℕ). feed (rules offers) (record { known = state_of before start; pending = p }) (take (used_of what (length bytes)) bytes)) none
    ∙ taken_seen offers (state_of before start) bytes what (state_of after end) some says there does
    ∙ ap (λ (p : List ℕ). record { known = state_of after end; pending = p }) (sym empty)

pub first_count : (before : Dialogue) (export : Export) (bytes : List ℕ) (what : Seen) (n : ℕ) → 0 < length bytes → (what ≡ seen.Nothing → ⊥) →
    says before.stage (is_extended before.agreed.replies) bytes ≡ heard_of what bytes → IsThere what bytes → n ≡ used_of what (length bytes) → (0 < n) × (n ≤ length bytes)
first_count before export bytes what n more some says there size =
    let behind = used_behind (state_of before export) [] bytes what (says_none before.stage (is_extended before.agreed.replies)) more some says in
    let within = used_within what bytes there in
    (omega arith, omega arith)

pub further_none : (offers : Offers) (before after : Dialogue) (export : Export) (bytes all : List ℕ) → all ≡ before.heard ++ bytes → says before.stage (is_extended before.agreed.replies) all ≡ None →
    after ≡ record before { heard = all } → feed (rules offers) (with_export before export) (take (length bytes) bytes) ≡ with_export after export
further_none offers before after export bytes all joined e is =
    ap (feed (rules offers) (with_export before export)) (take_all (length bytes) bytes (omega arith))
    ∙ feed_none (rules offers) (steady offers) (state_of before export) before.heard bytes (ap (says before.stage (is_extended before.agreed.replies)) (sym joined) ∙ e)
    ∙ ap (λ (p : List ℕ). record { known = state_of before export; pending = p }) (sym joined)
    ∙ ap (λ (d : Dialogue). with_export d export) (sym is)

pub further_some : (offers : Offers) (before after : Dialogue) (start end : Export) (bytes all : List ℕ) (what : Seen) (n : ℕ) → says before.stage (is_extended before.agreed.replies) before.heard ≡ None → 0 < length bytes →
    all ≡ before.heard ++ bytes → (what ≡ seen.Nothing → ⊥) → says before.stage (is_extended before.agreed.replies) all ≡ heard_of what all → IsThere what all → after.heard ≡ [] →
    ((heard : Heard) → heard_of what all ≡ Some heard → state_of after end ≡ entering offers heard.said (state_of before start)) → n ≡ used_of what (length all) - length before.heard →
    feed (rules offers) (with_export before start) (take n bytes) ≡ with_export after end
further_some offers before after start end bytes all what n held more joined some said there empty does size =
    let says' = subst (λ (xs : List ℕ). says before.stage (is_extended before.agreed.replies) xs ≡ heard_of what xs) joined said in
    let there' = subst (λ (xs : List ℕ). IsThere what xs) joined there in
    let does' = subst (λ (xs : List ℕ). (heard : Heard) → heard_of what xs ≡ Some heard → state_of after end ≡ entering offers heard.said (state_of before start)) joined does in
    ap (λ k. feed (rules offers) (with_export before start) (take k bytes)) (size ∙ ap (λ (xs : List ℕ). used_of what (length xs) - length before.heard) joined)
    ∙ further_seen offers (state_of before start) before.heard bytes what (state_of after end) held more some says' there' does'
    ∙ ap (λ (p : List ℕ). record { known = state_of after end; pending = p }) (sym empty)

pub further_count : (before : Dialogue) (export : Export) (bytes all : List ℕ) (what : Seen) → says before.stage (is_extended before.agreed.replies) before.heard ≡ None → 0 < length bytes →
    all ≡ before.heard ++ bytes → (what ≡ seen.Nothing → ⊥) → says before.stage (is_extended before.agreed.replies) all ≡ heard_of what all → IsThere what all →
    (length before.heard < used_of what (length all)) × (used_of what (length all) ≤ length before.heard + length bytes)
further_count before export bytes all what held more joined some said there =
    let says' = subst (λ (xs : List ℕ). says before.stage (is_extended before.agreed.replies) xs ≡ heard_of what xs) joined said in
    let behind = used_behind (state_of before export) before.heard bytes what held more some says' in
    let within = used_within what all there in
    let size : length all ≡ length before.heard + length bytes = ap (λ (xs : List ℕ). length xs) joined ∙ length-append before.heard bytes in
    let same : used_of what (length (before.heard ++ bytes)) ≡ used_of what (length all) = ap (λ (xs : List ℕ). used_of what (length xs)) (sym joined) in
    (omega arith, omega arith)
