-- What stays true of the wires beneath and their marks, by one call more.
use Rattle.std.proofs.Common.{◌≡◌, inl, inr, ℕ, ◌+◌, ◌-◌, ◌≤◌, ◌<◌, nat_le, nat_lt, Bool, true, false, ◌&&◌, ◌||◌, ◌==◌, cond, if◌then◌else◌, List, [], ◌∷◌, ◌++◌, Some, None, length, refl, sym, ◌∙◌, ap, subst, arith, length-append, zero-add}
use Rattle.std.specs.Prelude.{All, slice_set, slice_index_or}
use Rattle.std.proofs.lemmas.Bool.{and_parts, cases_eq, cases_lt, lt-ltb}
use Rattle.std.proofs.lemmas.Bool.Decides.{nat_tests}
use Rattle.std.proofs.lemmas.List.{length-set, get_or-set_same, get_or-set_other, set_past}
use Rattle.std.proofs.lemmas.List.Sums.{sum_by-append}
use Rattle.std.proofs.lemmas.List.Elements.{All-set}
use Rattle.lnbd_link.specs.declared.left.ReadAnswer.{ReadAnswer}
use Rattle.lnbd_link.specs.Call.{Call, Ended}
use Rattle.lnbd_link.specs.Connects.{is_connect, connects}
use Rattle.lnbd_link.specs.Failed.{failed}
use Rattle.lnbd_link.specs.Left.{LinkLeft, reads_left}
use Rattle.lnbd_link.specs.Listed.{Listed, told_by, has_failed, has_room, kept, lost, after, no_link, with_read, with_write, answer_read, answer_write, next_link}
use Rattle.lnbd_link.specs.Numbers.{gives, is_given, open_by, is_open}
use Rattle.lnbd_link.specs.Part.{Adds}
use Rattle.lnbd_link.specs.Room.{cost}
use Rattle.lnbd_link.proofs.Openings.{is_open-call, is_given-append}
use Rattle.lnbd_inbound.specs.declared.marks.Mark.{Mark}
use Rattle.lnbd_link.specs.declared.wires.Accepted.TheVariants as accepted
use Rattle.lnbd_inbound.specs.Inbound.{lets_in, let_in, next_accept, next_listener}
use Rattle.lnbd_inbound.specs.Retold.{told_as, retold, seen, added}
use Rattle.lnbd_inbound.specs.Standing.{Standing, Ready, Willing, listened}
use Rattle.lnbd_inbound.proofs.RetoldLemmas.{retold_open, retold_given, retold_failed, retold_call, retold_mark}

-- Marks.

abbrev pub Marked : Type 0
Marked = List Mark × ℕ

added_where : (m : Mark) (v : Marked) → 0 < v.1 → added m v ≡ (v.0 ++ m ∷ [], v.1 - 1)
added_where m v some = grind (arith, nat_tests)

-- a mark more is nothing to the calls that have theirs
pub added_idle : (m : Mark) (v : Marked) (cs : List Call) → length cs ≤ length v.0 → retold (added m v).0 cs ≡ retold v.0 cs
added_idle m v cs covered = by (nat_lt 0 v.1) refl
  where
    by : (b : Bool) → nat_lt 0 v.1 ≡ b → retold (added m v).0 cs ≡ retold v.0 cs
    by true e = rw e (retold_mark v.0 m cs covered)
    by false e = rw e refl

pub added_covers : (m : Mark) (v : Marked) (n : ℕ) → n ≤ length v.0 → n ≤ length (added m v).0
added_covers m v n covered = by (nat_lt 0 v.1) refl
  where
    by : (b : Bool) → nat_lt 0 v.1 ≡ b → n ≤ length (added m v).0
    by true e = rw e (omega (arith, length-append v.0 (m ∷ []), covered))
    by false e = rw e covered

-- One call.

-- a call is kept where there is room, and then it was told before
pub has_room-parts : (w : Listed) (n : ℕ) → has_room w n ≡ true → (w.telling ≡ true) × (n ≤ w.room)
has_room-parts w n e = let both = and_parts w.telling (nat_le n w.room) e in (both.0, grind (arith, nat_tests, both.1))

pub after_kept : (w : Listed) (c : Call) → has_room w (cost c) ≡ true → after w c ≡ kept w c
after_kept w c e = rw e refl

pub after_lost : (w : Listed) (c : Call) → has_room w (cost c) ≡ false → after w c ≡ lost w
after_lost w c e = rw e refl

-- while the calls are told, each has its mark and there is room for one more for each unit of room
pub record Paired (w : Listed) (v : Marked) : Type 0 where
  pub paired : length v.0 ≡ length w.calls
  pub fits : w.room ≤ v.1

-- beneath one call more, told as this one
module _ (w : Listed) (v : Marked) (m : Mark) (c d : Call) (covered : length w.calls ≤ length v.0) (pairs : w.telling ≡ true → Paired w v) (tells : told_as m c ≡ d) (same : cost c ≡ cost d) (fails : has_failed c ≡ has_failed d) (costs : 1 ≤ cost c) where
  seen_kept : has_room w (cost c) ≡ true → seen (added m v).0 (after w c) ≡ after (seen v.0 w) d
  seen_kept e =
      let parts = has_room-parts w (cost c) e in
      let pair = pairs parts.0 in
      let more = added_where m v (omega (arith, parts.1, pair.fits, costs)) in
      let told : retold (v.0 ++ m ∷ []) (w.calls ++ c ∷ []) ≡ retold v.0 w.calls ++ d ∷ [] = retold_call v.0 m w.calls c pair.paired ∙ ap (λ x. retold v.0 w.calls ++ x ∷ []) tells in
      let there : has_room (seen v.0 w) (cost d) ≡ true = ap (λ n. has_room w n) (sym same) ∙ e in
      ap (λ x. seen (added m v).0 x) (after_kept w c e) ∙ ap (λ x. seen x.0 (kept w c)) more ∙ kept_told (v.0 ++ m ∷ []) told ∙ sym (after_kept (seen v.0 w) d there)
    where
      kept_told : (ms : List Mark) → retold ms (w.calls ++ c ∷ []) ≡ retold v.0 w.calls ++ d ∷ [] → seen ms (kept w c) ≡ kept (seen v.0 w) d
      kept_told ms t = rw (t, same, fails) refl

  seen_lost : has_room w (cost c) ≡ false → seen (added m v).0 (after w c) ≡ after (seen v.0 w) d
  seen_lost e =
      let there : has_room (seen v.0 w) (cost d) ≡ false = ap (λ n. has_room w n) (sym same) ∙ e in
      ap (λ x. seen (added m v).0 x) (after_lost w c e) ∙ ap (λ x. lost (record w { calls = x })) (added_idle m v w.calls covered) ∙ sym (after_lost (seen v.0 w) d there)

  pub seen_after : seen (added m v).0 (after w c) ≡ after (seen v.0 w) d
  seen_after = by (has_room w (cost c)) refl
    where
      by : (b : Bool) → has_room w (cost c) ≡ b → seen (added m v).0 (after w c) ≡ after (seen v.0 w) d
      by true e = seen_kept e
      by false e = seen_lost e

-- The transcript.

some_same : (xs ys : List Call) → Some xs ≡ Some ys → xs ≡ ys
some_same xs ys e = cc e

-- the call stands at the end, where it is told
pub tells_call : (w new : Listed) (call d : Call) → new ≡ after w call → (has_room w (cost call) ≡ true → d ≡ call) → Adds (told_by w) (told_by new) d
tells_call w new call d is same = by (has_room w (cost call)) refl
  where
    by : (b : Bool) → has_room w (cost call) ≡ b → Adds (told_by w) (told_by new) d
    by true e =
        let parts = has_room-parts w (cost call) e in
        let new_is : told_by new ≡ Some (w.calls ++ call ∷ []) = ap told_by (is ∙ after_kept w call e) ∙ ap (λ b. if b then Some (w.calls ++ call ∷ []) else None) parts.0 in
        let old_is : told_by w ≡ Some w.calls = ap (λ b. if b then Some w.calls else None) parts.0 in
        λ ys told. (w.calls, old_is, some_same ys (w.calls ++ call ∷ []) (sym told ∙ new_is) ∙ ap (λ x. w.calls ++ x ∷ []) (sym (same e)))
    by false e =
        let new_is : told_by new ≡ None = ap told_by (is ∙ after_lost w call e) in
        λ ys told. absurd (cc (told, new_is))

-- Links.

pub after_links : (w : Listed) (c : Call) → (after w c).links ≡ w.links
after_links w c = by (has_room w (cost c)) refl
  where
    by : (b : Bool) → has_room w (cost c) ≡ b → (after w c).links ≡ w.links
    by true e = ap (λ x. x.links) (after_kept w c e)
    by false e = ap (λ x. x.links) (after_lost w c e)

-- Standing.

connects_call : (cs : List Call) (c : Call) → connects (cs ++ c ∷ []) ≡ connects cs + cond (is_connect c) 1 0
connects_call cs c =
    let both : connects (cs ++ c ∷ []) ≡ connects cs + (0 + cond (is_connect c) 1 0) = sum_by-append (λ (x : Call). cond (is_connect x) 1 0) cs (c ∷ []) in
    both ∙ ap (λ n. connects cs + n) (zero-add (cond (is_connect c) 1 0))

let_in_call : (cs : List Call) (c : Call) → let_in (cs ++ c ∷ []) ≡ let_in cs + cond (lets_in c) 1 0
let_in_call cs c =
    let both : let_in (cs ++ c ∷ []) ≡ let_in cs + (0 + cond (lets_in c) 1 0) = sum_by-append (λ (x : Call). cond (lets_in x) 1 0) cs (c ∷ []) in
    both ∙ ap (λ n. let_in cs + n) (zero-add (cond (lets_in c) 1 0))

given_call : (n : ℕ) (cs : List Call) (c : Call) → is_given n (cs ++ c ∷ []) ≡ (is_given n cs || (gives n c || false))
given_call n cs c = is_given-append n cs (c ∷ [])

module _ (w : Listed) (v : Marked) (m : Mark) (c d : Call) (next next' : ℕ) (hears hears' : Bool) (tells : told_as m c ≡ d) (costs : 1 ≤ cost c) (made : next + cond (is_connect c) 1 0 ≡ next') (heard : (nat_lt 0 next || (gives 0 c || false)) ≡ nat_lt 0 next') (count : (next - 1) + cond (lets_in d) 1 0 ≡ next' - 1) (opens : open_by 0 hears c ≡ hears') (opened : (hears ≡ true → 0 < next) → hears' ≡ true → 0 < next') where
  stands_kept : Standing w v.0 v.1 next hears → has_room w (cost c) ≡ true → Standing (kept w c) (v.0 ++ m ∷ []) (v.1 - 1) next' hears'
  stands_kept s e = record {
    paired = omega (arith, length-append v.0 (m ∷ []), length-append w.calls (c ∷ []), s.paired);
    fits = omega (arith, s.fits, costs, (has_room-parts w (cost c) e).1);
    made = connects_call w.calls c ∙ ap (λ n. n + cond (is_connect c) 1 0) s.made ∙ made;
    heard = given_call 0 w.calls c ∙ ap (λ b. b || (gives 0 c || false)) s.heard ∙ heard;
    count = ap let_in (retold_call v.0 m w.calls c s.paired) ∙ let_in_call (retold v.0 w.calls) (told_as m c) ∙ ap (λ x. let_in (retold v.0 w.calls) + cond (lets_in x) 1 0) tells ∙ ap (λ n. n + cond (lets_in d) 1 0) s.count ∙ count;
    open_is = is_open-call 0 w.calls c ∙ ap (λ b. open_by 0 b c) s.open_is ∙ opens;
    opened = opened s.opened;
  }

  pub stands : (w.telling ≡ true → Standing w v.0 v.1 next hears) → (after w c).telling ≡ true → Standing (after w c) (added m v).0 (added m v).1 next' hears'
  stands s told = by (has_room w (cost c)) refl
    where
      by : (b : Bool) → has_room w (cost c) ≡ b → Standing (after w c) (added m v).0 (added m v).1 next' hears'
      by true e =
          let parts = has_room-parts w (cost c) e in
          let before = s parts.0 in
          let more = added_where m v (omega (arith, parts.1, before.fits, costs)) in
          subst (λ x. Standing x (added m v).0 (added m v).1 next' hears') (sym (after_kept w c e)) (subst (λ (x : Marked). Standing (kept w c) x.0 x.1 next' hears') (sym more) (stands_kept before e))
      by false e = absurd (cc (told, ap (λ x. x.telling) (after_lost w c e)))

-- a call that makes, gives, opens and lets in nothing
pub stands_plain : (w : Listed) (v : Marked) (m : Mark) (c d : Call) (next : ℕ) (hears : Bool) → told_as m c ≡ d → 1 ≤ cost c → is_connect c ≡ false → gives 0 c ≡ false → lets_in d ≡ false → open_by 0 hears c ≡ hears → (w.telling ≡ true → Standing w v.0 v.1 next hears) → (after w c).telling ≡ true → Standing (after w c) (added m v).0 (added m v).1 next hears
stands_plain w v m c d next hears tells costs nc ng nl o s told =
    stands w v m c d next next hears hears tells costs (ap (λ b. next + cond b 1 0) nc ∙ omega arith) (rw ng (or_none (nat_lt 0 next))) (ap (λ b. (next - 1) + cond b 1 0) nl ∙ omega arith) o (λ was. was) s told
  where
    or_none : (b : Bool) → (b || (false || false)) ≡ b
    or_none true = refl
    or_none false = refl

-- the calls beneath never are more than the marks
pub covers : (w : Listed) (v : Marked) (m : Mark) (c : Call) → length w.calls ≤ length v.0 → (w.telling ≡ true → Paired w v) → 1 ≤ cost c → length (after w c).calls ≤ length (added m v).0
covers w v m c covered pairs costs = by (has_room w (cost c)) refl
  where
    by : (b : Bool) → has_room w (cost c) ≡ b → length (after w c).calls ≤ length (added m v).0
    by true e =
        let parts = has_room-parts w (cost c) e in
        let pair = pairs parts.0 in
        let more = added_where m v (omega (arith, parts.1, pair.fits, costs)) in
        rw (after_kept w c e, more) (omega (arith, length-append v.0 (m ∷ []), length-append w.calls (c ∷ []), pair.paired))
    by false e = rw (after_lost w c e) (added_covers m v (length w.calls) covered)

pub pairs_of : (w : Listed) (v : Marked) (next : ℕ) (hears : Bool) → (w.telling ≡ true → Standing w v.0 v.1 next hears) → w.telling ≡ true → Paired w v
pairs_of w v next hears s told = let t = s told in record { paired = t.paired; fits = t.fits }

-- Reads and writes, which change what a link has left.

abbrev pub relinked : Listed → List LinkLeft → Listed
relinked w links = record w { links = links }

pub stands_relinked : (w : Listed) (ms : List Mark) (left next : ℕ) (hears : Bool) (links : List LinkLeft) → Standing w ms left next hears → Standing (relinked w links) ms left next hears
stands_relinked w ms left next hears links s = record { paired = s.paired; fits = s.fits; made = s.made; heard = s.heard; count = s.count; open_is = s.open_is; opened = s.opened }

willing_at : (links : List LinkLeft) (n : ℕ) → n < length links → All Willing links → (slice_index_or links n no_link).fails ≡ false
willing_at links n within all = all n no_link within

ready_set : (links : List LinkLeft) (count link : ℕ) (x : LinkLeft) → Ready links count → x.fails ≡ (slice_index_or links link no_link).fails → (link ≡ 0 → x.reads ≡ []) → Ready (slice_set links link x) count
ready_set links count link x r fails silent = elim (cases_lt link (length links)) [
  | inl within ↦ record {
    willing = All-set Willing links link x (fails ∙ willing_at links link within r.willing) r.willing;
    silent = quiet within;
    count = r.count ∙ sym (length-set links link x);
  }
  | inr past ↦ subst (λ l. Ready l count) (sym (set_past links link x past)) r
]
  where
    quiet : link < length links → listened (slice_set links link x) ≡ []
    quiet within = elim (cases_eq link 0) [
      | inl zero ↦ ap (λ n. (slice_index_or (slice_set links link x) n no_link).reads) (sym zero) ∙ ap (λ y. y.reads) (get_or-set_same links link x no_link within) ∙ silent zero
      | inr other ↦ ap (λ y. y.reads) (get_or-set_other links link 0 x no_link (λ e. other (sym e))) ∙ r.silent
    ]

nothing_left : (reads : List ReadAnswer) (room : ℕ) → reads ≡ [] → reads_left reads room ≡ []
nothing_left reads room none = ap (λ r. reads_left r room) none

at_zero : (links : List LinkLeft) (link : ℕ) → listened links ≡ [] → link ≡ 0 → (slice_index_or links link no_link).reads ≡ []
at_zero links link none zero = ap (λ n. (slice_index_or links n no_link).reads) zero ∙ none

module _ (w : Listed) (link room : ℕ) where
  pub read_relinks : with_read w link room ≡ relinked w (with_read w link room).links
  read_relinks = by (is_open link w.calls) refl
    where
      by : (b : Bool) → is_open link w.calls ≡ b → with_read w link room ≡ relinked w (with_read w link room).links
      by true e = rw e refl
      by false e = rw e refl

  pub read_seen : (ms : List Mark) → with_read (seen ms w) link room ≡ seen ms (with_read w link room)
  read_seen ms = by (is_open link w.calls) refl
    where
      by : (b : Bool) → is_open link w.calls ≡ b → with_read (seen ms w) link room ≡ seen ms (with_read w link room)
      by true e = rw (retold_open link ms w.calls, e) refl
      by false e = rw (retold_open link ms w.calls, e) refl

  pub read_answered : (ms : List Mark) → answer_read (seen ms w) link room ≡ answer_read w link room
  read_answered ms = rw (retold_open link ms w.calls) refl

  pub read_ready : (count : ℕ) → Ready w.links count → Ready (with_read w link room).links count
  read_ready count r = by (is_open link w.calls) refl
    where
      by : (b : Bool) → is_open link w.calls ≡ b → Ready (with_read w link room).links count
      by true e = rw e (ready_set w.links count link _ r refl (λ zero. nothing_left _ room (at_zero w.links link r.silent zero)))
      by false e = rw e r

module _ (w : Listed) (link : ℕ) where
  pub write_relinks : with_write w link ≡ relinked w (with_write w link).links
  write_relinks = by (is_open link w.calls) refl
    where
      by : (b : Bool) → is_open link w.calls ≡ b → with_write w link ≡ relinked w (with_write w link).links
      by true e = rw e refl
      by false e = rw e refl

  pub write_seen : (ms : List Mark) → with_write (seen ms w) link ≡ seen ms (with_write w link)
  write_seen ms = by (is_open link w.calls) refl
    where
      by : (b : Bool) → is_open link w.calls ≡ b → with_write (seen ms w) link ≡ seen ms (with_write w link)
      by true e = rw (retold_open link ms w.calls, e) refl
      by false e = rw (retold_open link ms w.calls, e) refl

  pub write_answered : (ms : List Mark) (from : List ℕ) → answer_write (seen ms w) link from ≡ answer_write w link from
  write_answered ms from = rw (retold_open link ms w.calls) refl

  pub write_ready : (count : ℕ) → Ready w.links count → Ready (with_write w link).links count
  write_ready count r = by (is_open link w.calls) refl
    where
      by : (b : Bool) → is_open link w.calls ≡ b → Ready (with_write w link).links count
      by true e = rw e (ready_set w.links count link _ r refl (λ zero. at_zero w.links link r.silent zero))
      by false e = rw e r

-- What is told of the calls beneath.

module _ (ms : List Mark) (w : Listed) (calls : List Call) (told : told_by (seen ms w) ≡ Some calls) where
  telling : w.telling ≡ true
  telling = by w.telling refl told
    where
      by : (b : Bool) → w.telling ≡ b → (if b then Some (retold ms w.calls) else None) ≡ Some calls → w.telling ≡ true
      by true e t = e
      by false e t = absurd (cc t)

  beneath : told_by w ≡ Some w.calls
  beneath = ap (λ b. if b then Some w.calls else None) telling

  calls_are : retold ms w.calls ≡ calls
  calls_are = let there : Some (retold ms w.calls) ≡ Some calls = ap (λ b. if b then Some (retold ms w.calls) else None) (sym telling) ∙ told in some_same (retold ms w.calls) calls there

  -- what was not given beneath is not given
  pub fresh_told : (n : ℕ) → ((cs : List Call) → told_by w ≡ Some cs → is_given n cs ≡ false) → is_given n calls ≡ false
  fresh_told n fresh = ap (λ cs. is_given n cs) (sym calls_are) ∙ retold_given n ms w.calls ∙ fresh w.calls beneath

  -- a fact of how many failed beneath is one of how many failed
  pub failed_told : (P : ℕ → Type 0) → ((cs : List Call) → told_by w ≡ Some cs → P (failed cs)) → P (failed calls)
  failed_told P fact = subst P (sym (retold_failed ms w.calls) ∙ ap failed calls_are) (fact w.calls beneath)

  -- what is not hears is not hears beneath
  pub open_told : (n : ℕ) (P : Type 0) → ((cs : List Call) → told_by w ≡ Some cs → is_open n cs ≡ false → P) → is_open n calls ≡ false → P
  open_told n P fails shut = fails w.calls beneath (sym (retold_open n ms w.calls) ∙ ap (λ cs. is_open n cs) calls_are ∙ shut)

-- Which link the next accept gives, and which number the first listen.

-- past the room it is no matter which call it is
pub same_after : (w : Listed) (c d : Call) → cost c ≡ cost d → (has_room w (cost c) ≡ true → c ≡ d) → after w c ≡ after w d
same_after w c d costs same = by (has_room w (cost c)) refl
  where
    by : (b : Bool) → has_room w (cost c) ≡ b → after w c ≡ after w d
    by true e = ap (λ x. after w x) (same e)
    by false e = after_lost w c e ∙ sym (after_lost w d (ap (λ n. has_room w n) (sym costs) ∙ e))

module _ (w : Listed) (ms : List Mark) (left next count : ℕ) (hears : Bool) (s : Standing w ms left next hears) (r : Ready w.links count) where
  -- a connect beneath gives the next number, as long as there is one
  pub connects_next : next < count → next_link w ≡ Some next
  connects_next within =
      let willing : (slice_index_or w.links next no_link).fails ≡ false = willing_at w.links next (omega (arith, within, r.count)) r.willing in
      let there : nat_lt next (length w.links) ≡ true = grind (arith, nat_tests, within, r.count) in
      rw (s.made, willing, there) refl

  pub accepts_next : hears ≡ true → next < count → next_accept (seen ms w) 0 ≡ accepted.Link next
  accepts_next is within =
      let some = s.opened is in
      let open_is : is_open 0 (retold ms w.calls) ≡ true = retold_open 0 ms w.calls ∙ s.open_is ∙ is in
      let number : let_in (retold ms w.calls) + 1 ≡ next = omega (arith, s.count, some) in
      let there : nat_lt next (length w.links) ≡ true = grind (arith, nat_tests, within, r.count) in
      rw (open_is, number, there) refl

  pub accepts_none : hears ≡ true → count ≤ next → next_accept (seen ms w) 0 ≡ accepted.NotReady
  accepts_none is past =
      let some = s.opened is in
      let open_is : is_open 0 (retold ms w.calls) ≡ true = retold_open 0 ms w.calls ∙ s.open_is ∙ is in
      let number : let_in (retold ms w.calls) + 1 ≡ next = omega (arith, s.count, some) in
      let there : nat_lt next (length w.links) ≡ false = grind (arith, nat_tests, past, r.count) in
      rw (open_is, number, there) refl

  pub refuses : (listener : ℕ) → (listener ≡ 0 → hears ≡ false) → next_accept (seen ms w) listener ≡ accepted.Failed
  refuses listener shut = elim (cases_eq listener 0) [
    | inl zero ↦
        let open_is : is_open 0 (retold ms w.calls) ≡ false = retold_open 0 ms w.calls ∙ s.open_is ∙ shut zero in
        rw (open_is) (by (listener == 0))
    | inr other ↦ let no : (listener == 0) ≡ false = grind (arith, nat_tests, other) in rw no refl
  ]
    where
      by : (b : Bool) → (if b && false then (if nat_lt (let_in (retold ms w.calls) + 1) (length w.links) then accepted.Link (let_in (retold ms w.calls) + 1) else accepted.NotReady) else accepted.Failed) ≡ accepted.Failed
      by true = refl
      by false = refl

  pub listens_first : next ≡ 0 → next_listener (seen ms w) ≡ Some 0
  listens_first none =
      let given : is_given 0 (retold ms w.calls) ≡ false = retold_given 0 ms w.calls ∙ s.heard ∙ ap (λ n. nat_lt 0 n) none in
      rw given refl

  pub listens_later : 0 < next → next_listener (seen ms w) ≡ None
  listens_later some =
      let given : is_given 0 (retold ms w.calls) ≡ true = retold_given 0 ms w.calls ∙ s.heard ∙ lt-ltb 0 next some in
      rw given refl

  -- a read of the listener beneath answers its end
  pub waits : (room : ℕ) → hears ≡ true → answer_read w 0 room ≡ Ended
  waits room is = let open_is : is_open 0 w.calls ≡ true = s.open_is ∙ is in rw (open_is, r.silent) refl
