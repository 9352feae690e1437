-- Bytes taken step by step, within the limit and past it.
use Rattle.std.proofs.Common.{◌≡◌, ℕ, ◌+◌, ◌-◌, ◌≤◌, ◌<◌, Bool, true, false, List, [], ◌∷◌, length, take, drop, nat_le, None, refl, ap, sym, ◌∙◌, arith}
use Rattle.std.proofs.lemmas.Bool.Decides.{nat_tests}
use Rattle.std.proofs.lemmas.List.{take-append-drop, length-take}
use Rattle.lnbd_stream.specs.Stream.{Held, fresh, feed}
use Rattle.lnbd_stream.specs.Grammar.{each_byte}
use Rattle.lnbd_stream.proofs.Stream.{feed-append, feed_take}
use Rattle.lnbd_export.specs.Export.{Export}
use Rattle.lnbd_server.specs.declared.stage.Offers.{Offers}
use Rattle.lnbd_server.specs.declared.stage.Stage.{Stage}
use Rattle.lnbd_server.specs.declared.stage.Stage.TheVariants.{Greeting, Haggling, Serving, Ended, Strayed}
use Rattle.lnbd_server.specs.Client.{says, max_client}
use Rattle.lnbd_server.specs.Session.{State, Dialogue, Session, rules, is_closed, state_of, with_export, past_limit, after_bytes, Takes}
use Rattle.lnbd_server.proofs.Steps.{closed_rest}

-- at the end no byte is held
pub closed_holds_none : (stage : Stage) (extended : Bool) (bytes : List ℕ) → says stage extended bytes ≡ None → is_closed stage ≡ true → bytes ≡ []
unfolding each_byte
closed_holds_none Greeting extended bytes none e = cc
closed_holds_none Haggling extended bytes none e = cc
closed_holds_none Serving extended bytes none e = cc
closed_holds_none Ended extended [] none e = refl
closed_holds_none Ended extended (byte ∷ bytes) none e = cc
closed_holds_none Strayed extended [] none e = refl
closed_holds_none Strayed extended (byte ∷ bytes) none e = cc

within_limit : (offers : Offers) (came : ℕ) (bytes : List ℕ) (held : Held State) → came + length bytes ≤ max_client → after_bytes offers came bytes held ≡ feed (rules offers) held bytes
within_limit offers came bytes held fits = let t : nat_le (came + length bytes) max_client ≡ true = grind (arith, nat_tests) in rw t refl

over_limit : (offers : Offers) (came : ℕ) (bytes : List ℕ) (held : Held State) → max_client < came + length bytes → after_bytes offers came bytes held ≡ past_limit (feed (rules offers) held (take (max_client - came) bytes))
over_limit offers came bytes held over = let t : nat_le (came + length bytes) max_client ≡ false = grind (arith, nat_tests) in rw t refl

-- one step more
pub step_more : (offers : Offers) (start held after : Held State) (bytes : List ℕ) (taken n : ℕ) → feed (rules offers) start (take taken bytes) ≡ held → feed (rules offers) held (take n (drop taken bytes)) ≡ after →
    feed (rules offers) start (take (taken + n) bytes) ≡ after
step_more offers start held after bytes taken n before e = feed_take (rules offers) start taken n bytes ∙ ap (λ h. feed (rules offers) h (take n (drop taken bytes))) before ∙ e

-- what follows the end counts for nothing
pub all_taken : (offers : Offers) (start : Held State) (bytes : List ℕ) (taken : ℕ) (dialogue : Dialogue) (export : Export) → feed (rules offers) start (take taken bytes) ≡ with_export dialogue export →
    dialogue.heard ≡ [] → is_closed dialogue.stage ≡ true → feed (rules offers) start bytes ≡ with_export dialogue export
all_taken offers start bytes taken dialogue export e none closed =
    let same : with_export dialogue export ≡ fresh (state_of dialogue export) = ap (λ (bs : List ℕ). record { known = state_of dialogue export; pending = bs }) none in
    ap (feed (rules offers) start) (sym (take-append-drop taken bytes)) ∙ feed-append (rules offers) start (take taken bytes) (drop taken bytes)
    ∙ ap (λ h. feed (rules offers) h (drop taken bytes)) (e ∙ same) ∙ closed_rest offers (state_of dialogue export) (drop taken bytes) closed ∙ sym same

pub takes : (before after : Session) (start end : Export) (bytes : List ℕ) → before.came + length bytes ≤ max_client → feed (rules before.offers) (with_export before.dialogue start) bytes ≡ with_export after.dialogue end →
    (is_closed after.dialogue.stage ≡ false → after.came ≡ before.came + length bytes) → after.offers ≡ before.offers → Takes before start bytes after end
takes before after start end bytes fits e count same = record {
  fed = within_limit before.offers before.came bytes (with_export before.dialogue start) fits ∙ e;
  counted = count;
  offers = same;
}

-- Past the limit: what was taken up to it was Takes of the front.
past_closed : (held : Held State) → is_closed held.known.stage ≡ true → past_limit held ≡ held
past_closed held e = rw e refl

past_open : (dialogue : Dialogue) (export : Export) → is_closed dialogue.stage ≡ false → past_limit (with_export dialogue export) ≡ with_export (record dialogue { stage = Strayed; heard = [] }) export
past_open dialogue export e = rw e refl

front_fits : (came : ℕ) (bytes : List ℕ) → came ≤ max_client → max_client < came + length bytes → came + length (take (max_client - came) bytes) ≤ max_client
front_fits came bytes low over = omega (arith, length-take (max_client - came) bytes)

pub takes_past : (before : Session) (start : Export) (bytes : List ℕ) (middle after : Session) (end : Export) → before.came ≤ max_client → max_client < before.came + length bytes →
    Takes before start (take (max_client - before.came) bytes) middle end → is_closed middle.dialogue.stage ≡ false →
    after.dialogue ≡ record middle.dialogue { stage = Strayed; heard = [] } → after.offers ≡ middle.offers → Takes before start bytes after end
takes_past before start bytes middle after end low over front going is same = record {
  fed = over_limit before.offers before.came bytes (with_export before.dialogue start) over
      ∙ ap past_limit (sym (within_limit before.offers before.came (take (max_client - before.came) bytes) (with_export before.dialogue start) (front_fits before.came bytes low over)) ∙ front.fed)
      ∙ past_open middle.dialogue end going ∙ ap (λ (d : Dialogue). with_export d end) (sym is);
  counted = λ e. let no : true ≡ false = ap (λ (d : Dialogue). is_closed d.stage) (sym is) ∙ e in cc;
  offers = same ∙ front.offers;
}

pub takes_past_closed : (before : Session) (start : Export) (bytes : List ℕ) (after : Session) (end : Export) → before.came ≤ max_client → max_client < before.came + length bytes →
    Takes before start (take (max_client - before.came) bytes) after end → is_closed after.dialogue.stage ≡ true → Takes before start bytes after end
takes_past_closed before start bytes after end low over front closed = record {
  fed = over_limit before.offers before.came bytes (with_export before.dialogue start) over
      ∙ ap past_limit (sym (within_limit before.offers before.came (take (max_client - before.came) bytes) (with_export before.dialogue start) (front_fits before.came bytes low over)) ∙ front.fed)
      ∙ past_closed (with_export after.dialogue end) closed;
  counted = λ e. let no : true ≡ false = sym closed ∙ e in cc;
  offers = front.offers;
}
