-- Under each request that was wholly written a link files the same as the handle that drives it, and so it tells of the same positions.
use Rattle.std.proofs.Common.{◌≡◌, ◌⊎◌, inl, inr, ℕ, ◌≤◌, Bool, true, false, ◌||◌, List, [], ◌∷◌, ◌++◌, length, Option, Some, None, refl, ap, sym, subst, ◌∙◌, nat_le, arith, if◌then◌else◌}
use Rattle.std.proofs.lemmas.Bool.{leb-true}
use Rattle.std.specs.Option.{option_map}
use Rattle.lnbd_stream.specs.Stream.{Held}
use Rattle.lnbd_outcome.specs.Pieces.{Piece, content_of}
use Rattle.lnbd_history.specs.Agreement.{extended, steps}
use Rattle.lnbd_history.specs.Commands.{Command, Request}
use Rattle.lnbd_history.specs.Entries.{Filing, own, pieces}
use Rattle.lnbd_history.specs.Events.{History}
use Rattle.lnbd_history.specs.History.{asked, reading, request}
use Rattle.lnbd_history.proofs.Cookies.{request_zero}
use Rattle.lnbd_asked.specs.Client.{Said}
use Rattle.lnbd_asked.specs.Driven.{DrivenSays, written}
use Rattle.lnbd_asked.specs.InStep.{InStep, silent_pieces}
use Rattle.lnbd_asked.specs.Link.{Both, Link, Nobody}
use Rattle.lnbd_asked.specs.Parts.{count}
use Rattle.lnbd_asked.specs.Transcript.{bare, extents_in, on_link}
use Rattle.lnbd_asked.proofs.Alive.{Haggles, Stands, Transmits}
use Rattle.lnbd_asked.proofs.Chain.{Reaches}
use Rattle.lnbd_asked.proofs.Driving.{driven_say_so, drives_at, held_of}
use Rattle.lnbd_asked.proofs.Sending.{sends_whole}
use Rattle.lnbd_tracks.specs.Saying.{DrivenTells, is_told, said_after, said_by, said_in, said_of, told_at}

-- Worked values: of four positions that are told from place 8 on the last is told of, be it zero or not, and the next is not.

last_told : said_in is_told 8 (record { length = 4; flags = 0 } ∷ []) 11 ≡ true
last_told = refl

next_untold : said_in is_told 8 (record { length = 4; flags = 0 } ∷ []) 12 ≡ false
next_untold = refl

-- What is filed.

module _ {K : Type 0} where
  -- There is no request, or the same was filed.
  abbrev FiledSame : History K → Link → ℕ → Type 0
  FiledSame history link cookie = (request history cookie ≡ None) ⊎ (silent_pieces (own cookie (reading history).known.entries) ≡ silent_pieces (own cookie link.heard.entries))

  record FilesSame (history : History K) (link : Link) : Type 0 where
    each : (cookie : ℕ) → nat_le cookie (written history) ≡ true → FiledSame history link cookie

  none_written : (history : History K) (link : Link) → written history ≡ 0 → FilesSame history link
  none_written history link none = record { each = λ cookie low. inl (let l = leb-true cookie (written history) low in ap (request history) (zero_is cookie (written history) l none) ∙ request_zero history) }
    where
      zero_is : (c n : ℕ) → c ≤ n → n ≡ 0 → c ≡ 0
      zero_is c n l e = omega (arith, l, e)

  files : (history : History K) (h : Held Link) (now : List ℕ) → Stands history (reading history) h now → FilesSame history h.known
  files history h now (inr o) = none_written history h.known o.unwritten
  files history h now (inl a) = go a.stands
    where
      whole_is : written history ≡ count a.front
      whole_is = sends_whole (extended (steps (reading history).known.turns)) (reading history).known.parts (asked history).wrote a.front (a.asks ++ a.orders) now (a.sends (extended (steps (reading history).known.turns)) (λ r. refl))

      in_step : InStep history (count a.front) (reading history).known h.known → FilesSame history h.known
      in_step s = record { each = λ cookie low. inr (s.filed cookie (subst (λ n. nat_le cookie n ≡ true) whole_is low)) }

      transmitting : (t : Transmits history (reading history).known a.v.known a.front a.asks a.orders) (asks : List Said) → a.asks ≡ asks → Reaches h asks a.v → FilesSame history h.known
      transmitting t [] e r = in_step (subst (λ k. InStep history (count a.front) (reading history).known k.known) (sym r) t.step)
      transmitting t (one ∷ more) e r = none_written history h.known (whole_is ∙ quiet t.quiet)
        where
          quiet : (a.asks ≡ []) ⊎ (count a.front ≡ 0) → count a.front ≡ 0
          quiet (inl none) = let n = ap length (sym e ∙ none) in absurd (omega (arith, n))
          quiet (inr z) = z

      go : Haggles history (reading history).known a.v.known a.front a.orders ⊎ Transmits history (reading history).known a.v.known a.front a.asks a.orders → FilesSame history h.known
      go (inl g) = none_written history h.known (whole_is ∙ g.counted)
      go (inr t) = transmitting t a.asks refl a.reach

-- What it says.

-- that a callback said nothing is no matter to it
said_silent : {K : Type 0} (test : Option ℕ → Bool) (start : ℕ) (filings : List (Filing K)) (p : ℕ) → said_by test start (pieces filings) p ≡ said_by test start (silent_pieces filings) p
said_silent test start [] p = refl
said_silent test start (filing ∷ earlier) p = ap (λ (b : Bool). said_in test start (extents_in filing.contexts (content_of filing.item)) p || b) (said_silent test start earlier p)

abbrev said_for : (test : Option ℕ → Bool) → Option (Command Nobody) → List Piece → ℕ → Bool
said_for test None all p = false
said_for test (Some asks) all p = said_by test asks.offset all p

said_so : {K : Type 0} (test : Option ℕ → Bool) (asks : Option (Request K)) (filings : List (Filing K)) (p : ℕ) → said_of test asks filings p ≡ said_for test (option_map bare asks) (silent_pieces filings) p
said_so test None filings p = refl
said_so test (Some asks) filings p = said_silent test asks.offset filings p

told_same : {K : Type 0} (history : History K) (link : Link) → DrivenSays history link → FilesSame history link → (cookie p : ℕ) → nat_le cookie (written history) ≡ true → told_at link cookie p ≡ said_after is_told history cookie p
told_same history link says same cookie p low =
    said_so is_told (request link.requests cookie) (own cookie link.heard.entries) p
    ∙ ap (λ a. said_for is_told a (silent_pieces (own cookie link.heard.entries)) p) (says.requests cookie ∙ ap (λ (b : Bool). if b then option_map bare (request history cookie) else None) low)
    ∙ alike (same.each cookie low)
    ∙ sym (said_so is_told (request history cookie) (own cookie (reading history).known.entries) p)
  where
    alike : FiledSame history link cookie → said_for is_told (option_map bare (request history cookie)) (silent_pieces (own cookie link.heard.entries)) p ≡ said_for is_told (option_map bare (request history cookie)) (silent_pieces (own cookie (reading history).known.entries)) p
    alike (inl none) = ap (λ a. said_for is_told (option_map bare a) (silent_pieces (own cookie link.heard.entries)) p) none ∙ sym (ap (λ a. said_for is_told (option_map bare a) (silent_pieces (own cookie (reading history).known.entries)) p) none)
    alike (inr filed) = ap (λ all. said_for is_told (option_map bare (request history cookie)) all p) (sym filed)

pub driven_tells : {K : Type 0} → DrivenTells K
driven_tells limit link calls history lawful fits live plain d =
    let at = drives_at limit link calls history [] d lawful fits live (λ n. plain) in
    let same : FilesSame history (on_link link calls) = subst (λ (both : Both). FilesSame history both.link) (sym at.there) (files history (held_of at.before) at.before.written at.stands) in
    told_same history (on_link link calls) (driven_say_so limit link calls history lawful fits live plain d) same
