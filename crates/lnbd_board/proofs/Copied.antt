-- A copy whose slices are all over has carried: each byte that was told was asked of the destination.
use Rattle.std.proofs.Common.{◌≡◌, ◌⊎◌, ℕ, ◌-◌, ◌<◌, ◌≤◌, inl, inr, List, [], ◌∷◌, Bool, true, false, not, ◌||◌, refl, ap, sym, subst, ◌∙◌, arith, length, get_or, slice_get, Some}
use Rattle.std.proofs.Math.ListN.{get_or-replicate}
use Rattle.std.proofs.lemmas.Option.{slice_get-get_or}
use Rattle.lnbd_outcome.specs.Outcome as outcome
use Rattle.lnbd_extents.specs.Positions.{within}
use Rattle.lnbd_history.specs.Commands.{Command}
use Rattle.lnbd_asked.specs.Link.{Nobody}
use Rattle.lnbd_asked.specs.Transcript.{Dealt}
use Rattle.lnbd_asked.specs.Honest.{Untouched, OnlyOne, has, covers}
use Rattle.lnbd_plan.specs.declared.grid.Slice.{Slice}
use Rattle.lnbd_plan.specs.declared.cells.Cells.{Cells}
use Rattle.lnbd_plan.specs.Laws.{slices_at, IsInOne}
use Rattle.lnbd_board.specs.declared.how.How.{How}
use Rattle.lnbd_board.specs.Requests.{Said, Request, own, over, over_said, reads, reads_over, reads_over_said, done, Each, IsDealt}
use Rattle.lnbd_board.specs.Pieces.{Piece, spell, spell1, ask_of}
use Rattle.lnbd_board.specs.Rows.{slice_at, lies_in, AsksOfSource, Stands, IsOver, KnownBy}
use Rattle.lnbd_board.specs.Holds.{IsCopied, WasToldZero}
use Rattle.lnbd_board.specs.Carried.{CopiedIsCarried, IsCarried, IsPassedOver, IsPutAs, IsToldAs, IsUnread}
use Rattle.lnbd_board.proofs.Lists.{in_each, none_covers, none_reads, one_over, own_first}
use Rattle.lnbd_board.proofs.Spelling.{within_at, within_true, found, Covered, Once, Never, covered, puts_piece}
use Rattle.lnbd_board.proofs.Inside.{not_changed, over_slice, over_nowhere, reads_nowhere, reads_slice}

-- The source isn't touched.
untouched : (p : ℕ) (slices : List Slice) (asked : List Request) (dealt : Dealt) → IsDealt asked dealt → Each (λ r. AsksOfSource slices r.ticket r.said.command) asked → Untouched dealt p
untouched p slices asked dealt d each link cookie asks e =
    let u = d.only link cookie asks e in
    let k = in_each (λ (r : Request). AsksOfSource slices r.ticket r.said.command) u.request asked u.within each in
    subst (λ (c : Command Nobody). covers c p ≡ false) u.asks (not_changed p slices u.request.ticket u.request.said.command k)

-- Nothing is over a position of the destination, and none of the source was read.
nothing_over : (p : ℕ) (changed : List Request) (dealt : Dealt) → IsDealt changed dealt → over p changed ≡ [] → Untouched dealt p
nothing_over p changed dealt d none link cookie asks e =
    let u = d.only link cookie asks e in
    subst (λ (c : Command Nobody). covers c p ≡ false) u.asks (none_covers p u.request changed none u.within)

unread : (p : ℕ) (asked : List Request) (dealt : Dealt) → IsDealt asked dealt → reads_over p asked ≡ [] → IsUnread dealt p
unread p asked dealt d none link cookie command e =
    let u = d.only link cookie command e in
    subst (λ (c : Command Nobody). reads c p ≡ false) u.asks (none_reads p u.request asked none u.within)

-- Exactly one change is over it, and is done.
one_put : (how : How) (p at byte : ℕ) (piece : Piece) (changed : List Request) (dealt : Dealt) → IsDealt changed dealt → over p changed ≡ done (ask_of how at piece) ∷ [] →
    within (at, length (spell1 piece)) p ≡ true → get_or (spell1 piece) (p - at) 0 ≡ byte → IsPutAs dealt p byte
one_put how p at byte piece changed dealt d one w is =
    let o = one_over p (done (ask_of how at piece)) changed one in
    let s = d.shown o.request o.within in
    let asks : o.request.said.command ≡ ask_of how at piece = ap (λ (x : Said). x.command) o.is in
    let came : o.request.said.outcome ≡ outcome.Done (ask_of how at piece).payload = ap (λ (x : Said). x.outcome) o.is in
    let only : OnlyOne dealt o.request.link o.request.cookie (ask_of how at piece) p = record {
      asked = s.0 ∙ ap Some asks;
      here = subst (λ (c : Command Nobody). covers c p ≡ true) asks o.here;
      only = λ link cookie other e c.
          let u = d.only link cookie other e in
          let same = o.only u.request u.within (subst (λ (x : Command Nobody). covers x p ≡ true) (sym u.asks) c) in
          (sym u.on ∙ ap (λ (r : Request). r.link) same, sym u.by ∙ ap (λ (r : Request). r.cookie) same);
    } in
    record {
      link = o.request.link;
      cookie = o.request.cookie;
      command = ask_of how at piece;
      bytes = (ask_of how at piece).payload;
      one = only;
      puts = puts_piece how p at byte piece w is;
      done = s.1 ∙ came;
    }

covered_put : (how : How) (p byte : ℕ) (changed : List Request) (mine : List Said) (dealt : Dealt) → IsDealt changed dealt → over p changed ≡ over_said p mine → Covered how p byte mine →
    IsPutAs dealt p byte ⊎ IsPassedOver how.skip dealt p byte
covered_put how p byte changed mine dealt d e (Once at piece one w is) = inl (one_put how p at byte piece changed dealt d (e ∙ one) w is)
covered_put how p byte changed mine dealt d e (Never s none is0) = inr (record { zero = is0; said = s; untouched = nothing_over p changed dealt d (e ∙ none) })

-- The byte of a slice that is over was told.
told_as : (z : Bool) (p : ℕ) (s : Slice) (i : ℕ) (asked : List Request) (dealt : Dealt) (bytes : List ℕ) → IsDealt asked dealt → reads_over p asked ≡ reads_over_said p (own i asked) →
    (z ≡ true → WasToldZero dealt p) → lies_in s p ≡ true → KnownBy z s bytes (own i asked) → length bytes ≡ s.length → IsToldAs dealt p (get_or bytes (p - s.start) 0)
told_as true p s i asked dealt bytes d mine told w known len =
    let b = within_true s.start s.length p w in
    inr (record { told = told refl; unread = unread p asked dealt d (mine ∙ ap (reads_over_said p) known.1) }, rw known.0 (get_or-replicate s.length (p - s.start) 0 0 (omega (arith, b.0, b.1))))
told_as false p s i asked dealt bytes d mine told w known len =
    let f = own_first i _ asked known.one in
    let sh = d.shown f.0 f.1.0 in
    let asks : f.0.said.command ≡ known.command = ap (λ (x : Said). x.command) f.1.1 in
    let came : f.0.said.outcome ≡ outcome.Done bytes = ap (λ (x : Said). x.outcome) f.1.1 in
    let b = within_true s.start s.length p w in
    let start = known.start in
    let size = known.size in
    let here : has known.command p ≡ true = within_at known.command.offset known.command.length p (omega (arith, start, b.0)) (omega (arith, start, size, b.1)) in
    let byte : slice_get bytes (p - s.start) ≡ Some (get_or bytes (p - s.start) 0) = slice_get-get_or bytes (p - s.start) 0 (omega (arith, b.0, b.1, len)) in
    inl (record {
      link = f.0.link;
      cookie = f.0.cookie;
      command = known.command;
      bytes = bytes;
      asked = sh.0 ∙ ap Some asks;
      kind = known.kind;
      done = sh.1 ∙ came;
      has = here;
      told = subst (λ (n : ℕ). slice_get bytes (p - n) ≡ Some (get_or bytes (p - s.start) 0)) (sym known.start) byte;
    })

-- a position that a slice has
in_slice : (how : How) (p : ℕ) (told : Bool) (slices : List Slice) (asked changed : List Request) (source destination : Dealt) →
    Stands how slices [] asked changed → IsDealt asked source → IsDealt changed destination → (told ≡ true → WasToldZero source p) → IsInOne told p slices → IsCarried how.skip source destination p
in_slice how p told slices asked changed source destination stands d d2 zero one =
    let f = found p one.slice slices [] one.one in
    let few : length (slices_at p slices) ≤ 1 = (let e = ap (λ (l : List Slice). length l) one.one in omega (arith, e)) in
    let over_ : IsOver how (slice_at slices f.number) (own f.number asked) (own f.number changed) = stands.each f.number f.held in
    let w = within_true (slice_at slices f.number).start (slice_at slices f.number).length p f.has in
    let e = over_slice how p f.number slices changed few f.held f.has stands.changes in
    let len : length (spell over_.did) ≡ (slice_at slices f.number).length = ap length over_.spelt ∙ over_.known.size in
    let c = covered how p (slice_at slices f.number).start over_.did w.0 (omega (arith, len, w.1)) in
    let c2 : Covered how p (get_or over_.bytes (p - (slice_at slices f.number).start) 0) (own f.number changed) = rw (over_.asked, ← over_.spelt) c in
    record {
      byte = get_or over_.bytes (p - (slice_at slices f.number).start) 0;
      told = told_as (slice_at slices f.number).zero p (slice_at slices f.number) f.number asked source over_.bytes d (reads_slice p f.number slices asked few f.held f.has stands.reads)
          (λ z. zero (sym one.alike ∙ (ap (λ (s : Slice). s.zero) (sym f.is) ∙ z))) f.has over_.known.by over_.known.size;
      put = covered_put how p _ changed (own f.number changed) destination d2 e c2;
    }

-- a position that was told zero and left out
left_out : (how : How) (p : ℕ) (slices : List Slice) (asked changed : List Request) (source destination : Dealt) →
    Stands how slices [] asked changed → IsDealt asked source → IsDealt changed destination → WasToldZero source p → how.skip ≡ true → slices_at p slices ≡ [] → IsCarried how.skip source destination p
left_out how p slices asked changed source destination stands d d2 t skips none = record {
  byte = 0;
  told = inr (record { told = t; unread = unread p asked source d (reads_nowhere p slices asked none stands.reads) }, refl);
  put = inr (record { zero = refl; said = skips; untouched = nothing_over p changed destination d2 (over_nowhere how p slices changed none stands.changes) });
}

or_not : (a b : Bool) → a || not b ≡ false → (a ≡ false) × (b ≡ true)
or_not true b h = absurd (cc)
or_not false true h = (refl, refl)
or_not false false h = absurd (cc)

each_byte : (how : How) (cells : Cells) (told : ℕ → Bool) (size : ℕ) (slices : List Slice) (asked changed : List Request) (source destination : Dealt) (p : ℕ) →
    IsCopied how cells told size slices asked changed → IsDealt asked source → IsDealt changed destination → ((p : ℕ) → p < size → told p ≡ true → WasToldZero source p) → p < size →
    IsCarried how.skip source destination p
each_byte how cells told size slices asked changed source destination p copied d d2 zero l =
    elim (cells.zeros || not (told p)) as (λ b. cells.zeros || not (told p) ≡ b → IsCarried how.skip source destination p) [
      | true ↦ λ e. in_slice how p (told p) slices asked changed source destination copied.over d d2 (zero p l) ((copied.planned p).one (omega arith) l e)
      | false ↦ λ e. let k = or_not cells.zeros (told p) e in
          left_out how p slices asked changed source destination copied.over d d2 (zero p l k.1) (copied.left_out k.0) ((copied.planned p).none (omega arith) l e)
    ] refl

pub copied_is_carried : CopiedIsCarried
copied_is_carried how cells told size slices asked changed source destination copied d d2 zero = record {
  each = λ p l. each_byte how cells told size slices asked changed source destination p copied d d2 zero l;
  kept = λ p. untouched p slices asked source d copied.over.reads;
  rest = λ p l. nothing_over p changed destination d2 (over_nowhere how p slices changed ((copied.planned p).outside (inr l)) copied.over.changes);
}
