-- Over which of the small transcripts a server of the export can be honest.
use Rattle.std.proofs.Common.{◌≡◌, ◌≢◌, ℕ, zero, suc, ◌+◌, ◌-◌, Bool, true, false, ◌&&◌, List, [], ◌∷◌, ◌++◌, get_or, Some, None, refl, ap, sym, subst, ◌∙◌, ◌==◌, nat_le, nat_lt, arith, ◌⊎◌, inl, inr, if◌then◌else◌}
use Rattle.std.proofs.lemmas.Bool.{false≢true}
use Rattle.std.proofs.lemmas.Bool.Decides.{nat_tests}
use Rattle.std.specs.Option.{option_map}
use Rattle.lnbd_model.specs.declared.kind.Kind.TheVariants as kind
use Rattle.lnbd_outcome.specs.Outcome.{Outcome}
use Rattle.lnbd_outcome.specs.Outcome as outcome
use Rattle.lnbd_link.specs.Call.{Call}
use Rattle.lnbd_history.specs.Commands.{Command, Request}
use Rattle.lnbd_asked.specs.Link.{Nobody}
use Rattle.lnbd_asked.specs.Transcript.{Dealt, dealt_with, on_link, bare, is_of, size_told, is_target}
use Rattle.lnbd_asked.specs.Honest.{IsHonest, covers, has, Untouched, Done, Leaves}
use Rattle.lnbd_asked.proofs.Bytes.{computing, hello, flags, go, gone_to, write, done, done_with}
use Rattle.lnbd_asked.proofs.One.{One, one_of, is_zero, only_if_some}
use Rattle.lnbd_asked.proofs.Rows.{place, asks, connect, went, came, ready, asked_read, answered, status_answered}

abbrev start : List ℕ
start = 7 ∷ 8 ∷ 9 ∷ 10 ∷ []

-- a READ of the positions 1 and 2, a WRITE of the bytes 5 and 6 to the positions 0 and 1, and a BLOCK_STATUS of all four

abbrev reads : Command Nobody
reads = asks kind.Read 0 1 2 []

abbrev writes : Command Nobody
writes = asks kind.Write 0 0 2 (5 ∷ 6 ∷ [])

abbrev queries : Command Nobody
queries = asks kind.BlockStatus 0 0 4 []

-- nothing changes where no request that was asked covers the position
untouched : (dealt : Dealt) (a : Command Nobody) (p : ℕ) → One dealt a → covers a p ≡ false → Untouched dealt p
untouched dealt a p one off link cookie other e = ap (λ r. covers r p) (sym (one.asked link cookie other e).2) ∙ off

-- where one request was made, it is that of cookie 1
first_alone : (a : Request Nobody) (cookie : ℕ) → option_map bare (if 1 == cookie then Some a else None) ≡ (if 1 == cookie then Some (bare a) else None)
first_alone a cookie = go (1 == cookie)
  where
    go : (b : Bool) → option_map bare (if b then Some a else None) ≡ (if b then Some (bare a) else None)
    go true = refl
    go false = refl

-- what was asked under the one link and cookie is done with the bytes that are told there
done_is : (dealt : Dealt) (a : Command Nobody) (told : List ℕ) (link cookie : ℕ) (asks : Command Nobody) (bytes : List ℕ) → One dealt a → Done dealt 0 1 told
    → dealt.asked link cookie ≡ Some asks → Done dealt link cookie bytes → told ≡ bytes
done_is dealt a told link cookie asks bytes one is e d =
    let o = one.asked link cookie asks e in
    let here : dealt.outcome 0 1 ≡ outcome.Done bytes = subst (λ l. dealt.outcome l 1 ≡ outcome.Done bytes) o.0 (subst (λ c. dealt.outcome link c ≡ outcome.Done bytes) o.1 d) in
    let both : outcome.Done told ≡ outcome.Done bytes = sym is ∙ here in
    cc

in_two : (from p : ℕ) → nat_le from p && nat_lt p (from + 2) ≡ true → (p ≡ from) ⊎ (p ≡ from + 1)
in_two from p e = grind (arith, nat_tests)

-- Each told size is that of link 0.
size_is : (calls : List Call) (n : ℕ) → size_told (on_link 0 calls) ≡ Some n → ((link : ℕ) → is_of place calls link ≡ true → link ≡ 0)
    → (link size : ℕ) → (dealt_with place calls).size link ≡ Some size → size ≡ n
size_is calls n is alone link size e =
    let o = only_if_some (is_of place calls link) _ size e in
    let s : size_told (on_link 0 calls) ≡ Some size = subst (λ l. size_told (on_link l calls) ≡ Some size) (alone link o.0) o.1 in
    let both : Some n ≡ Some size = sym is ∙ s in
    cc

-- A READ that is answered with the start's bytes.

only_zero : (link : ℕ) → (0 == link) ≡ false → is_target place.to (if 0 == link then Some place.to else None) ≡ false
only_zero link e = ap (λ (c : Bool). is_target place.to (if c then Some place.to else None)) e

answered_is_one : One (dealt_with place answered) reads
unfolding computing
answered_is_one = one_of place answered reads only_zero (first_alone _) refl

read_done : Done (dealt_with place answered) 0 1 (8 ∷ 9 ∷ [])
unfolding computing
read_done = refl

answered_size : (link size : ℕ) → (dealt_with place answered).size link ≡ Some size → size ≡ 4
unfolding computing
answered_size = size_is answered 4 refl (λ link. is_zero place answered link only_zero)

honest_read : IsHonest place start answered start
honest_read = record {
  sizes = record { told = answered_size; kept = refl };
  reads = λ link cookie asks bytes p e is d there u.
      let o = answered_is_one.asked link cookie asks e in
      let b = done_is (dealt_with place answered) reads (8 ∷ 9 ∷ []) link cookie asks bytes answered_is_one read_done e d in
      let here : has reads p ≡ true = subst (λ r. has r p ≡ true) (sym o.2) there in
      subst (λ r. get_or bytes (p - r.offset) 0 ≡ get_or start p 0) o.2 (subst (λ bs. get_or bs (p - 1) 0 ≡ get_or start p 0) b (at p (in_two 1 p here)));
  writes = λ link cookie asks bytes p one d. absurd (false≢true (sym (untouched (dealt_with place answered) reads p answered_is_one refl link cookie asks one.asked) ∙ one.here));
  rest = λ p u. refl;
  zeroes = λ link cookie asks bytes p e is d there z u. let o = answered_is_one.asked link cookie asks e in absurd (not_status (ap (λ r. r.kind) o.2 ∙ is));
}
  where
    at : (p : ℕ) → (p ≡ 1) ⊎ (p ≡ 2) → get_or (8 ∷ 9 ∷ []) (p - 1) 0 ≡ get_or start p 0
    at p (inl e) = subst (λ q. get_or (8 ∷ 9 ∷ []) (q - 1) 0 ≡ get_or start q 0) (sym e) refl
    at p (inr e) = subst (λ q. get_or (8 ∷ 9 ∷ []) (q - 1) 0 ≡ get_or start q 0) (sym e) refl

    not_status : kind.Read ≢ kind.BlockStatus
    not_status e = cc

-- A READ that is answered with another byte.

abbrev lied : List Call
lied = asked_read ++ came (done_with (8 ∷ 0 ∷ [])) ∷ []

lied_is_one : One (dealt_with place lied) reads
unfolding computing
lied_is_one = one_of place lied reads only_zero (first_alone _) refl

lied_done : Done (dealt_with place lied) 0 1 (8 ∷ 0 ∷ [])
unfolding computing
lied_done = refl

not_honest_read : (end : List ℕ) → IsHonest place start lied end → ⊥
not_honest_read end h =
    let bad : 0 ≡ 9 = h.reads 0 1 reads (8 ∷ 0 ∷ []) 2 lied_is_one.there refl lied_done refl (untouched (dealt_with place lied) reads 2 lied_is_one refl) in
    omega (arith, bad)

-- A WRITE that is done.

abbrev wrote : List Call
wrote = ready ++ went write ∷ came done ∷ []

wrote_is_one : One (dealt_with place wrote) writes
unfolding computing
wrote_is_one = one_of place wrote writes only_zero (first_alone _) refl

wrote_done : Done (dealt_with place wrote) 0 1 (5 ∷ 6 ∷ [])
unfolding computing
wrote_done = refl

wrote_size : (link size : ℕ) → (dealt_with place wrote).size link ≡ Some size → size ≡ 4
unfolding computing
wrote_size = size_is wrote 4 refl (λ link. is_zero place wrote link only_zero)

abbrev held : List ℕ
held = 5 ∷ 6 ∷ 9 ∷ 10 ∷ []

honest_write : IsHonest place start wrote held
honest_write = record {
  sizes = record { told = wrote_size; kept = refl };
  reads = λ link cookie asks bytes p e is d there u. let o = wrote_is_one.asked link cookie asks e in absurd (not_read (ap (λ r. r.kind) o.2 ∙ is));
  writes = λ link cookie asks bytes p one d.
      let o = wrote_is_one.asked link cookie asks one.asked in
      subst (λ r. Leaves r p (get_or held p 0)) o.2 (at p (in_two 0 p (subst (λ r. covers r p ≡ true) (sym o.2) one.here)));
  rest = λ p u. past p (u 0 1 writes wrote_is_one.there);
  zeroes = λ link cookie asks bytes p e is d there z u. let o = wrote_is_one.asked link cookie asks e in absurd (not_status (ap (λ r. r.kind) o.2 ∙ is));
}
  where
    not_read : kind.Write ≢ kind.Read
    not_read e = cc

    not_zero : kind.Write ≢ kind.Zero
    not_zero e = cc

    not_status : kind.Write ≢ kind.BlockStatus
    not_status e = cc

    at : (p : ℕ) → (p ≡ 0) ⊎ (p ≡ 1) → Leaves writes p (get_or held p 0)
    at p (inl e) = subst (λ q. Leaves writes q (get_or held q 0)) (sym e) (λ w. refl, λ z. absurd (not_zero z))
    at p (inr e) = subst (λ q. Leaves writes q (get_or held q 0)) (sym e) (λ w. refl, λ z. absurd (not_zero z))

    past : (p : ℕ) → nat_le 0 p && nat_lt p (0 + 2) ≡ false → get_or held p 0 ≡ get_or start p 0
    past zero e = absurd (false≢true (sym e))
    past (suc zero) e = absurd (false≢true (sym e))
    past (suc (suc q)) e = refl

-- It is done, and what was written isn't held.
not_honest_write : (end : List ℕ) → get_or end 0 0 ≡ 7 → IsHonest place start wrote end → ⊥
not_honest_write end seven h =
    let left = h.writes 0 1 writes (5 ∷ 6 ∷ []) 0 (record { asked = wrote_is_one.there; here = refl; only = λ l c other e is. let o = wrote_is_one.asked l c other e in (o.0, o.1) }) wrote_done in
    let five : get_or end 0 0 ≡ 5 = left.0 refl in
    omega (arith, five, seven)

-- A byte beside what was written is another one at the end.
not_honest_beside : (end : List ℕ) → get_or end 2 0 ≡ 0 → IsHonest place start wrote end → ⊥
not_honest_beside end blank h =
    let nine : get_or end 2 0 ≡ 9 = h.rest 2 (untouched (dealt_with place wrote) writes 2 wrote_is_one refl) in
    omega (arith, nine, blank)

-- A BLOCK_STATUS that told the last three bytes as zero.

status_is_one : One (dealt_with place status_answered) queries
unfolding computing
status_is_one = one_of place status_answered queries only_zero (first_alone _) refl

status_done : Done (dealt_with place status_answered) 0 1 []
unfolding computing
status_done = refl

zero_told_at_2 : (dealt_with place status_answered).zero 0 1 2 ≡ true
unfolding computing
zero_told_at_2 = refl

zero_not_told_at_0 : (dealt_with place status_answered).zero 0 1 0 ≡ false
unfolding computing
zero_not_told_at_0 = refl

status_size : (link size : ℕ) → (dealt_with place status_answered).size link ≡ Some size → size ≡ 4
unfolding computing
status_size = size_is status_answered 4 refl (λ link. is_zero place status_answered link only_zero)

abbrev sparse : List ℕ
sparse = 7 ∷ 0 ∷ 0 ∷ 0 ∷ []

honest_status : IsHonest place sparse status_answered sparse
honest_status = record {
  sizes = record { told = status_size; kept = refl };
  reads = λ link cookie asks bytes p e is d there u. let o = status_is_one.asked link cookie asks e in absurd (not_read (ap (λ r. r.kind) o.2 ∙ is));
  writes = λ link cookie asks bytes p one d. absurd (false≢true (sym (untouched (dealt_with place status_answered) queries p status_is_one refl link cookie asks one.asked) ∙ one.here));
  rest = λ p u. refl;
  zeroes = λ link cookie asks bytes p e is d there z u.
      let o = status_is_one.asked link cookie asks e in
      let here : (dealt_with place status_answered).zero 0 1 p ≡ true = subst (λ l. (dealt_with place status_answered).zero l 1 p ≡ true) o.0 (subst (λ c. (dealt_with place status_answered).zero link c p ≡ true) o.1 z) in
      at p here;
}
  where
    not_read : kind.BlockStatus ≢ kind.Read
    not_read e = cc

    at : (p : ℕ) → (dealt_with place status_answered).zero 0 1 p ≡ true → get_or sparse p 0 ≡ 0
    at zero z = absurd (false≢true (sym zero_not_told_at_0 ∙ z))
    at (suc zero) z = refl
    at (suc (suc zero)) z = refl
    at (suc (suc (suc zero))) z = refl
    at (suc (suc (suc (suc q)))) z = refl

not_honest_zero : (end : List ℕ) → IsHonest place start status_answered end → ⊥
not_honest_zero end h =
    let bad : 9 ≡ 0 = h.zeroes 0 1 queries [] 2 status_is_one.there refl status_done refl zero_told_at_2 (untouched (dealt_with place status_answered) queries 2 status_is_one refl) in
    omega (arith, bad)

-- The export is of another size than was told, or at the end than at the start.

abbrev longer : List Call
longer = connect ∷ came hello ∷ went (flags ++ go) ∷ came (gone_to 5) ∷ []

longer_is_told : (dealt_with place longer).size 0 ≡ Some 5
unfolding computing
longer_is_told = refl

not_honest_size : (end : List ℕ) → IsHonest place start longer end → ⊥
not_honest_size end h = let bad : 5 ≡ 4 = h.sizes.told 0 5 longer_is_told in omega (arith, bad)

not_honest_shorter : (calls : List Call) → IsHonest place start calls (7 ∷ 8 ∷ 9 ∷ []) → ⊥
not_honest_shorter calls h = let bad : 3 ≡ 4 = h.sizes.kept in omega (arith, bad)
