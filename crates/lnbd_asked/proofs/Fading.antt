-- What shows nothing shows nothing either where one more command waits.
use Rattle.std.proofs.Common.{◌≡◌, ℕ, ◌+◌, Bool, true, false, List, ◌∷◌, length, drop, Option, Some, None, refl, ap, sym, ◌∙◌, ◌==◌, nat_lt, arith, if◌then◌else◌}
use Rattle.std.proofs.lemmas.Bool.{eqb-true}
use Rattle.lnbd_records.specs.Numbers.{number_at}
use Rattle.lnbd_records.specs.Transmission.{simple_reply_magic}
use Rattle.lnbd_stream.specs.Grammar.{once, wants}
use Rattle.lnbd_chunks.specs.Chunk.{Head}
use Rattle.lnbd_chunks.specs.Reply.{shows_simple, shows_chunk_for, shows_compact, shows_extended, shows_reply, chunk_head_in, extended_head_in}
use Rattle.lnbd_history.specs.Arrivals.{Shown, Broken, Waiting, reply, shows_frame}
use Rattle.lnbd_history.specs.Commands.{Command, request_of}
use Rattle.lnbd_history.specs.Entries.{own, is_ended}
use Rattle.lnbd_history.specs.Events.{Issue}
use Rattle.lnbd_history.specs.History.{asked, request, waiting_of}
use Rattle.lnbd_history.proofs.Cookies.{request_past}
use Rattle.lnbd_asked.specs.Link.{Nobody, Link, waited}

-- what shows nothing early shows nothing late
abbrev Fades : Option Shown → Option Shown → Type 0
Fades early late = early ≡ None → late ≡ None

fades_if : (test : Bool) (a b x y : Option Shown) → Fades a x → Fades b y → Fades (if test then a else b) (if test then x else y)
fades_if true a b x y first second = first
fades_if false a b x y first second = second

fades_once : (n : ℕ) (bytes : List ℕ) (x y : Option Shown) → Fades x y → Fades (once n bytes x) (once n bytes y)
unfolding once
fades_once n bytes x y rest = fades_if (nat_lt (length bytes) n) None x None y (λ e. refl) rest

fades_wants : (test : Bool) (fault : Shown) (x y : Option Shown) → Fades x y → Fades (wants test fault x) (wants test fault y)
unfolding wants
fades_wants test fault x y rest = fades_if test x (Some fault) y (Some fault) rest (λ e. e)

-- what waits early waits late, too
abbrev pub Grows : (ℕ → Option Waiting) → (ℕ → Option Waiting) → Type 0
Grows early late = (c : ℕ) (command : Waiting) → early c ≡ Some command → late c ≡ Some command

not_none : (found : Shown) → Some found ≡ None → ⊥
not_none found e = cc

simple_fades : (structured : Bool) (early late : Option Waiting) (bytes : List ℕ) → ((command : Waiting) → early ≡ Some command → late ≡ Some command) →
    Fades (shows_simple Broken reply structured early bytes) (shows_simple Broken reply structured late bytes)
unfolding shows_simple
simple_fades structured None late bytes grows e = absurd (not_none _ e)
simple_fades structured (Some command) late bytes grows e = ap (λ o. shows_simple Broken reply structured o bytes) (grows command refl) ∙ e

chunk_fades : (extended : Bool) (early late : Option Waiting) (cookie : ℕ) (head : Head) (payload : List ℕ) → ((command : Waiting) → early ≡ Some command → late ≡ Some command) →
    Fades (shows_chunk_for Broken reply extended early cookie head payload) (shows_chunk_for Broken reply extended late cookie head payload)
unfolding shows_chunk_for
chunk_fades extended None late cookie head payload grows e = absurd (not_none _ e)
chunk_fades extended (Some command) late cookie head payload grows e = ap (λ o. shows_chunk_for Broken reply extended o cookie head payload) (grows command refl) ∙ e

pub frame_fades : (structured extended : Bool) (early late : ℕ → Option Waiting) (bytes : List ℕ) → Grows early late → shows_frame structured extended early bytes ≡ None → shows_frame structured extended late bytes ≡ None
unfolding shows_frame shows_reply shows_compact shows_extended
frame_fades structured extended early late bytes grows =
    fades_once 4 bytes _ _ (fades_if extended _ _ _ _
    (fades_wants _ _ _ _ (fades_wants _ _ _ _ (fades_once _ _ _ _ (chunk_fades true (early (number_at 8 8 bytes)) (late (number_at 8 8 bytes)) (number_at 8 8 bytes) (extended_head_in bytes) (drop 32 bytes) (grows (number_at 8 8 bytes))))))
    (fades_wants _ _ _ _ (fades_if (number_at 0 4 bytes == simple_reply_magic) _ _ _ _
    (fades_once _ _ _ _ (simple_fades structured (early (number_at 8 8 bytes)) (late (number_at 8 8 bytes)) bytes (grows (number_at 8 8 bytes))))
    (fades_once _ _ _ _ (chunk_fades false (early (number_at 8 8 bytes)) (late (number_at 8 8 bytes)) (number_at 8 8 bytes) (chunk_head_in bytes) (drop 20 bytes) (grows (number_at 8 8 bytes)))))))

-- A request more.
pub request_grows : (link : Link) (command : Command Nobody) → Grows (waited link) (waited (record link { requests = Issue command ∷ link.requests }))
request_grows link command c w e = go ((asked link.requests).issued + 1 == c) refl
  where
    none : (ended : Bool) → waiting_of {K = Nobody} true ended (own c link.heard.entries) None ≡ None
    none true = refl
    none false = refl

    go : (b : Bool) → ((asked link.requests).issued + 1 == c) ≡ b → waited (record link { requests = Issue command ∷ link.requests }) c ≡ Some w
    go true is =
        let n = eqb-true ((asked link.requests).issued + 1) c is in
        let bad : None ≡ Some w = sym (none (is_ended (own c link.heard.entries))) ∙ sym (ap (λ a. waiting_of true (is_ended (own c link.heard.entries)) (own c link.heard.entries) a) (request_past link.requests c (omega (arith, n)))) ∙ e in
        cc
    go false is = ap (λ (b : Bool). waiting_of true (is_ended (own c link.heard.entries)) (own c link.heard.entries) (if b then Some (request_of (asked link.requests).admitted command) else request link.requests c)) is ∙ e
