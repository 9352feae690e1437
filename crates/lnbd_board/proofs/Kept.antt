-- What a board keeps through its changes.
use Rattle.std.proofs.Common.{◌≡◌, ◌≢◌, ℕ, ◌+◌, ◌≤◌, ◌^◌, List, [], ◌∷◌, ◌++◌, Bool, true, false, not, ◌&&◌, cond, refl, ap, sym, subst, ◌∙◌, arith, length, Option, Some, None, ◌==◌, length-append, is_some, slice_get, drop}
use Rattle.std.proofs.lemmas.Grind.{common_steps}
use Rattle.std.proofs.lemmas.Bool.Decides.{nat_tests}
use Rattle.lnbd_keyed.specs.Keyed.{value_at, with_value, without, IsBelow, IsRising}
use Rattle.lnbd_keyed.proofs.KeyedLemmas.{value_at_with, value_at_with_other, value_at_without, value_at_without_other, value_at_last, value_at_last_other, value_at_below, value_at_head, value_at_tail, IsAbove_at, IsBelow_append, IsBelow_without, IsBelow_with, IsBelow_less, IsRising_with, IsRising_without, IsRising_append}
use Rattle.lnbd_inflight.specs.Done.{is_done}
use Rattle.lnbd_inflight.proofs.Order.{done_last, done_before_last, once_append}
use Rattle.lnbd_board.specs.declared.ask.Change.{Change}
use Rattle.lnbd_board.specs.declared.how.How.{How}
use Rattle.lnbd_board.specs.declared.row.Row.{Row}
use Rattle.lnbd_board.specs.declared.row.Stage.{Stage}
use Rattle.lnbd_board.specs.declared.row.Stage.TheVariants.{Reading, Last, Came, Writing, Holding, Finished}
use Rattle.lnbd_board.specs.Files.{received, is_reading, is_unfit, rows_with, came_with}
use Rattle.lnbd_board.specs.Requests.{Each}
use Rattle.lnbd_board.specs.Rows.{is_busy, busy}
use Rattle.lnbd_plan.specs.declared.grid.Slice.{Slice}
use Rattle.lnbd_board.specs.Asks.{Sits, first_stage}
use Rattle.lnbd_board.specs.Board.{IsIdle, IsKept, WentOn}
use Rattle.lnbd_board.proofs.Lists.{eq_true, eq_false, Each-append}
use Rattle.lnbd_board.proofs.Steps.{busy1, busy_last, busy_with, busy_without, busy_few}

pub by_key : (n m : ℕ) (P : ℕ → Type 0) → P n → (m ≢ n → P m) → P m
by_key n m P h k = elim (m == n) as (λ b. (m == n) ≡ b → P m) [ true ↦ λ e. subst P (sym (eq_true n m e)) h | false ↦ λ e. k (eq_false n m e) ] refl

some_same : {A : Type 0} (x y : A) (o : Option A) → o ≡ Some x → o ≡ Some y → x ≡ y
some_same x y o e f = cc

-- what comes fits
fits_read : (s : Slice) (buf : List ℕ) → not (length buf == s.length) ≡ false → length buf ≡ s.length
fits_read s buf f = grind (arith, nat_tests, common_steps)

received_sits : (how : How) (s : Slice) (stage : Stage) (buf : List ℕ) → is_busy stage ≡ true → is_reading stage && not (length buf == s.length) ≡ false → Sits how s stage → Sits how s (received stage buf)
received_sits how s Reading buf b f k = (fits_read s buf f, k)
received_sits how s Last buf b f k = tt
received_sits how s (Came bytes) buf b f k = absurd (cc)
received_sits how s (Writing bytes left) buf b f k = k
received_sits how s (Holding bytes left) buf b f k = absurd (cc)
received_sits how s (Finished bytes) buf b f k = absurd (cc)

received_idle : (stage : Stage) (buf : List ℕ) → is_busy (received stage buf) ≡ false
received_idle Reading buf = refl
received_idle Last buf = refl
received_idle (Came bytes) buf = refl
received_idle (Writing bytes left) buf = refl
received_idle (Holding bytes left) buf = refl
received_idle (Finished bytes) buf = refl

-- A row that is busy isn't noted.
busy_not_noted : (n : ℕ) (row : Row) (rows : List (ℕ × Row)) (came : List ℕ) → value_at n rows ≡ Some row → is_busy row.stage ≡ true → Each (IsIdle rows) came → is_done n came ≡ false
busy_not_noted n row rows [] h b k = refl
busy_not_noted n row rows (m ∷ came) h b k =
    let rest = busy_not_noted n row rows came h b k.1 in
    let first : (m == n) ≡ false = elim (m == n) as (λ c. (m == n) ≡ c → c ≡ false) [
      | true ↦ λ e. absurd (
          let i = k.0 in
          let held : value_at n rows ≡ Some i.row = subst (λ (x : ℕ). value_at x rows ≡ Some i.row) (eq_true n m e) i.held in
          let same : row ≡ i.row = some_same row i.row (value_at n rows) h held in
          let idle = i.idle in
          let busy_ : is_busy i.row.stage ≡ true = subst (λ (r : Row). is_busy r.stage ≡ true) same b in
          cc)
      | false ↦ λ e. refl
    ] refl in
    grind (arith, nat_tests, common_steps)

-- others that are noted stay so
idle_with : (n : ℕ) (new : Row) (rows : List (ℕ × Row)) (came : List ℕ) → is_done n came ≡ false → Each (IsIdle rows) came → Each (IsIdle (with_value n new rows)) came
idle_with n new rows [] d k = tt
idle_with n new rows (m ∷ came) d k =
    let other : m ≢ n = λ e. absurd (grind (arith, nat_tests, common_steps)) in
    let i = k.0 in
    (record { row = i.row; held = value_at_with_other m n new rows other ∙ i.held; idle = i.idle }, idle_with n new rows came (grind (arith, nat_tests, common_steps)) k.1)

-- A row has what it waited for.
kept_busy : (how : How) (n : ℕ) (row : Row) (buf : List ℕ) (rows : List (ℕ × Row)) (came : List ℕ) (capacity begun : ℕ) → value_at n rows ≡ Some row → is_busy row.stage ≡ true → is_unfit (Some row) buf ≡ false → IsKept how rows came capacity begun →
    IsKept how (with_value n (record row { stage = received row.stage buf }) rows) (came ++ n ∷ []) capacity begun
kept_busy how n row buf rows came capacity begun held b fit k =
    let new : Row = record row { stage = received row.stage buf } in
    let unnoted = busy_not_noted n row rows came held b k.idle in
    let now_idle = received_idle row.stage buf in
    let now_sits = received_sits how row.slice row.stage buf b fit (k.sits n row held) in
    record {
      idle = Each-append (IsIdle (with_value n new rows)) came (n ∷ []) (idle_with n new rows came unnoted k.idle) (record { row = new; held = value_at_with n row new rows held; idle = now_idle }, tt);
      once = once_append n came k.once unnoted;
      others = λ m r d e. by_key n m (λ x. is_done x (came ++ n ∷ []) ≡ false → value_at x (with_value n new rows) ≡ Some r → is_busy r.stage ≡ true)
          (λ d e. absurd (let l = done_last n came in cc))
          (λ other d e. k.others m r (sym (done_before_last m n came other) ∙ d) (sym (value_at_with_other m n new rows other) ∙ e)) d e;
      fits = (let f = k.fits in let w = busy_with n row new rows held in let o : busy1 row ≡ 1 = rw b refl in let z : busy1 new ≡ 0 = rw now_idle refl in let l = length-append came (n ∷ []) in omega (arith, f, w, o, z, l));
      room = λ m r e. by_key n m (λ x. value_at x (with_value n new rows) ≡ Some r → r.slice.start + r.slice.length ≤ 2 ^ 63)
          (λ e. subst (λ (q : Row). q.slice.start + q.slice.length ≤ 2 ^ 63) (some_same new r _ (value_at_with n row new rows held) e) (k.room n row held))
          (λ other e. k.room m r (sym (value_at_with_other m n new rows other) ∙ e)) e;
      below = IsBelow_with begun n new rows k.below;
      rising = IsRising_with n new rows k.rising;
      sits = λ m r e. by_key n m (λ x. value_at x (with_value n new rows) ≡ Some r → Sits how r.slice r.stage)
          (λ e. subst (λ (q : Row). Sits how q.slice q.stage) (some_same new r _ (value_at_with n row new rows held) e) now_sits)
          (λ other e. k.sits m r (sym (value_at_with_other m n new rows other) ∙ e)) e;
    }

kept_some : (how : How) (b : Bool) (n : ℕ) (row : Row) (buf : List ℕ) (rows : List (ℕ × Row)) (came : List ℕ) (capacity begun : ℕ) → is_busy row.stage ≡ b → value_at n rows ≡ Some row → is_unfit (Some row) buf ≡ false → IsKept how rows came capacity begun →
    IsKept how (cond b (with_value n (record row { stage = received row.stage buf }) rows) rows) (cond b (came ++ n ∷ []) came) capacity begun
kept_some how true n row buf rows came capacity begun b h fit k = kept_busy how n row buf rows came capacity begun h b fit k
kept_some how false n row buf rows came capacity begun b h fit k = k

kept_as : (how : How) (o : Option Row) (n : ℕ) (buf : List ℕ) (rows : List (ℕ × Row)) (came : List ℕ) (capacity begun : ℕ) → value_at n rows ≡ o → is_unfit o buf ≡ false → IsKept how rows came capacity begun →
    IsKept how (rows_with o n buf rows) (came_with o n came) capacity begun
kept_as how None n buf rows came capacity begun h fit k = k
kept_as how (Some row) n buf rows came capacity begun h fit k = kept_some how (is_busy row.stage) n row buf rows came capacity begun refl h fit k

pub kept_received : (how : How) (n : ℕ) (buf : List ℕ) (rows : List (ℕ × Row)) (came : List ℕ) (capacity begun : ℕ) → is_unfit (value_at n rows) buf ≡ false → IsKept how rows came capacity begun →
    IsKept how (rows_with (value_at n rows) n buf rows) (came_with (value_at n rows) n came) capacity begun
kept_received how n buf rows came capacity begun fit k = kept_as how (value_at n rows) n buf rows came capacity begun refl fit k

-- The first row that is noted asks on.
pub kept_asking : (how : How) (n : ℕ) (row new : Row) (rows : List (ℕ × Row)) (came : List ℕ) (capacity begun : ℕ) → value_at n rows ≡ Some row → new.slice ≡ row.slice → is_busy new.stage ≡ true → Sits how new.slice new.stage → IsKept how rows (n ∷ came) capacity begun →
    IsKept how (with_value n new rows) came capacity begun
kept_asking how n row new rows came capacity begun held same b sits k =
    let i = k.idle.0 in
    let was : i.row ≡ row = some_same i.row row (value_at n rows) i.held held in
    let idle : is_busy row.stage ≡ false = subst (λ (r : Row). is_busy r.stage ≡ false) was i.idle in
    record {
      idle = idle_with n new rows came k.once.0 k.idle.1;
      once = k.once.1;
      others = λ m r d e. by_key n m (λ x. is_done x came ≡ false → value_at x (with_value n new rows) ≡ Some r → is_busy r.stage ≡ true)
          (λ d e. subst (λ (q : Row). is_busy q.stage ≡ true) (some_same new r _ (value_at_with n row new rows held) e) b)
          (λ other d e. k.others m r (not_first m n came other d) (sym (value_at_with_other m n new rows other) ∙ e)) d e;
      fits = (let f = k.fits in let w = busy_with n row new rows held in let o : busy1 row ≡ 0 = rw idle refl in let z : busy1 new ≡ 1 = rw b refl in omega (arith, f, w, o, z));
      room = λ m r e. by_key n m (λ x. value_at x (with_value n new rows) ≡ Some r → r.slice.start + r.slice.length ≤ 2 ^ 63)
          (λ e. subst (λ (q : Row). q.slice.start + q.slice.length ≤ 2 ^ 63) (some_same new r _ (value_at_with n row new rows held) e) (rw same (k.room n row held)))
          (λ other e. k.room m r (sym (value_at_with_other m n new rows other) ∙ e)) e;
      below = IsBelow_with begun n new rows k.below;
      rising = IsRising_with n new rows k.rising;
      sits = λ m r e. by_key n m (λ x. value_at x (with_value n new rows) ≡ Some r → Sits how r.slice r.stage)
          (λ e. subst (λ (q : Row). Sits how q.slice q.stage) (some_same new r _ (value_at_with n row new rows held) e) sits)
          (λ other e. k.sits m r (sym (value_at_with_other m n new rows other) ∙ e)) e;
    }
  where
    not_first : (m n : ℕ) (came : List ℕ) → m ≢ n → is_done m came ≡ false → is_done m (n ∷ came) ≡ false
    not_first m n came other d = grind (arith, nat_tests, common_steps)

-- others that are noted stay so where a row goes
idle_without : (n : ℕ) (rows : List (ℕ × Row)) (came : List ℕ) → is_done n came ≡ false → Each (IsIdle rows) came → Each (IsIdle (without n rows)) came
idle_without n rows [] d k = tt
idle_without n rows (m ∷ came) d k =
    let other : m ≢ n = λ e. absurd (grind (arith, nat_tests, common_steps)) in
    let i = k.0 in
    (record { row = i.row; held = value_at_without_other m n rows other ∙ i.held; idle = i.idle }, idle_without n rows came (grind (arith, nat_tests, common_steps)) k.1)

-- The first row that is noted is over.
pub kept_over : (how : How) (n : ℕ) (row : Row) (rows : List (ℕ × Row)) (came : List ℕ) (capacity begun : ℕ) → value_at n rows ≡ Some row → IsKept how rows (n ∷ came) capacity begun → IsKept how (without n rows) came capacity begun
kept_over how n row rows came capacity begun held k = record {
  idle = idle_without n rows came k.once.0 k.idle.1;
  once = k.once.1;
  others = λ m r d e. by_key n m (λ x. is_done x came ≡ false → value_at x (without n rows) ≡ Some r → is_busy r.stage ≡ true)
      (λ d e. absurd (let none = value_at_without n rows k.rising in cc))
      (λ other d e. k.others m r (not_first m n came other d) (sym (value_at_without_other m n rows other) ∙ e)) d e;
  fits = (let f = k.fits in let w = busy_without n row rows held in omega (arith, f, w));
  room = λ m r e. by_key n m (λ x. value_at x (without n rows) ≡ Some r → r.slice.start + r.slice.length ≤ 2 ^ 63)
      (λ e. absurd (let none = value_at_without n rows k.rising in cc))
      (λ other e. k.room m r (sym (value_at_without_other m n rows other) ∙ e)) e;
  below = IsBelow_without begun n rows k.below;
  rising = IsRising_without n rows k.rising;
  sits = λ m r e. by_key n m (λ x. value_at x (without n rows) ≡ Some r → Sits how r.slice r.stage)
      (λ e. absurd (let none = value_at_without n rows k.rising in cc))
      (λ other e. k.sits m r (sym (value_at_without_other m n rows other) ∙ e)) e;
}
  where
    not_first : (m n : ℕ) (came : List ℕ) → m ≢ n → is_done m came ≡ false → is_done m (n ∷ came) ≡ false
    not_first m n came other d = grind (arith, nat_tests, common_steps)

-- A row begins.
idle_last : (n : ℕ) (new : Row) (rows : List (ℕ × Row)) (came : List ℕ) → IsBelow rows n → Each (IsIdle rows) came → Each (IsIdle (rows ++ (n, new) ∷ [])) came
idle_last n new rows [] below k = tt
idle_last n new rows (m ∷ came) below k =
    let i = k.0 in
    let none = value_at_below n n rows below (omega arith) in
    let held = i.held in
    let other : m ≢ n = λ e. absurd (let h2 : value_at n rows ≡ Some i.row = subst (λ (x : ℕ). value_at x rows ≡ Some i.row) e held in cc) in
    (record { row = i.row; held = value_at_last_other m n new rows other ∙ i.held; idle = i.idle }, idle_last n new rows came below k.1)

pub kept_begun : (how : How) (n : ℕ) (row : Row) (rows : List (ℕ × Row)) (came : List ℕ) (capacity capacity2 : ℕ) → is_busy row.stage ≡ true → row.slice.start + row.slice.length ≤ 2 ^ 63 → Sits how row.slice row.stage → length came + length rows + 1 ≤ capacity2 → IsKept how rows came capacity n →
    IsKept how (rows ++ (n, row) ∷ []) came capacity2 (n + 1)
kept_begun how n row rows came capacity capacity2 b fit sits room k = record {
  idle = idle_last n row rows came k.below k.idle;
  once = k.once;
  others = λ m r d e. by_key n m (λ x. is_done x came ≡ false → value_at x (rows ++ (n, row) ∷ []) ≡ Some r → is_busy r.stage ≡ true)
      (λ d e. subst (λ (q : Row). is_busy q.stage ≡ true) (some_same row r _ (value_at_last n row rows k.below) e) b)
      (λ other d e. k.others m r d (sym (value_at_last_other m n row rows other) ∙ e)) d e;
  fits = (let few = busy_few rows in let w = busy_last n row rows in let o : busy1 row ≡ 1 = rw b refl in omega (arith, few, w, o, room));
  room = λ m r e. by_key n m (λ x. value_at x (rows ++ (n, row) ∷ []) ≡ Some r → r.slice.start + r.slice.length ≤ 2 ^ 63)
      (λ e. subst (λ (q : Row). q.slice.start + q.slice.length ≤ 2 ^ 63) (some_same row r _ (value_at_last n row rows k.below) e) fit)
      (λ other e. k.room m r (sym (value_at_last_other m n row rows other) ∙ e)) e;
  below = IsBelow_append (n + 1) n row rows (IsBelow_less n (n + 1) rows (omega arith) k.below) (omega arith);
  rising = IsRising_append n row rows k.rising k.below;
  sits = λ m r e. by_key n m (λ x. value_at x (rows ++ (n, row) ∷ []) ≡ Some r → Sits how r.slice r.stage)
      (λ e. subst (λ (q : Row). Sits how q.slice q.stage) (some_same row r _ (value_at_last n row rows k.below) e) sits)
      (λ other e. k.sits m r (sym (value_at_last_other m n row rows other) ∙ e)) e;
}

-- The first row that is noted went on, and still has nothing under way.
pub kept_idle : (how : How) (n : ℕ) (row new : Row) (rows : List (ℕ × Row)) (came : List ℕ) (capacity begun : ℕ) → value_at n rows ≡ Some row → new.slice ≡ row.slice → is_busy new.stage ≡ false → Sits how new.slice new.stage → IsKept how rows (n ∷ came) capacity begun →
    IsKept how (with_value n new rows) (n ∷ came) capacity begun
kept_idle how n row new rows came capacity begun held same b sits k =
    let i = k.idle.0 in
    let was : i.row ≡ row = some_same i.row row (value_at n rows) i.held held in
    let idle : is_busy row.stage ≡ false = subst (λ (r : Row). is_busy r.stage ≡ false) was i.idle in
    record {
      idle = (record { row = new; held = value_at_with n row new rows held; idle = b }, idle_with n new rows came k.once.0 k.idle.1);
      once = k.once;
      others = λ m r d e. by_key n m (λ x. is_done x (n ∷ came) ≡ false → value_at x (with_value n new rows) ≡ Some r → is_busy r.stage ≡ true)
          (λ d e. absurd (first_done n came d))
          (λ other d e. k.others m r d (sym (value_at_with_other m n new rows other) ∙ e)) d e;
      fits = (let f = k.fits in let w = busy_with n row new rows held in let o : busy1 row ≡ 0 = rw idle refl in let z : busy1 new ≡ 0 = rw b refl in omega (arith, f, w, o, z));
      room = λ m r e. by_key n m (λ x. value_at x (with_value n new rows) ≡ Some r → r.slice.start + r.slice.length ≤ 2 ^ 63)
          (λ e. subst (λ (q : Row). q.slice.start + q.slice.length ≤ 2 ^ 63) (some_same new r _ (value_at_with n row new rows held) e) (rw same (k.room n row held)))
          (λ other e. k.room m r (sym (value_at_with_other m n new rows other) ∙ e)) e;
      below = IsBelow_with begun n new rows k.below;
      rising = IsRising_with n new rows k.rising;
      sits = λ m r e. by_key n m (λ x. value_at x (with_value n new rows) ≡ Some r → Sits how r.slice r.stage)
          (λ e. subst (λ (q : Row). Sits how q.slice q.stage) (some_same new r _ (value_at_with n row new rows held) e) sits)
          (λ other e. k.sits m r (sym (value_at_with_other m n new rows other) ∙ e)) e;
    }
  where
    first_done : (n : ℕ) (came : List ℕ) → is_done n (n ∷ came) ≡ false → ⊥
    first_done n came d = absurd (grind (arith, nat_tests, common_steps))

-- Where nothing is noted, each row has a request under way.
pub all_busy : (how : How) (rows : List (ℕ × Row)) (came : List ℕ) (capacity begun : ℕ) → IsKept how rows came capacity begun → came ≡ [] → busy rows ≡ length rows
all_busy how rows came capacity begun k none = count_all rows k.rising (λ n row held. k.others n row (rw none refl) held)
  where
    count_all : (xs : List (ℕ × Row)) → IsRising xs → ((n : ℕ) (row : Row) → value_at n xs ≡ Some row → is_busy row.stage ≡ true) → busy xs ≡ length xs
    count_all [] r f = refl
    count_all (x ∷ xs) r f =
        let first : is_busy x.1.stage ≡ true = f x.0 x.1 (value_at_head x.0 x.1 xs) in
        let e = count_all xs r.1 (λ n row held. let l = IsAbove_at x.0 n row xs r.0 held in let d : n ≢ x.0 = omega (arith, l) in f n row (value_at_tail n x xs d ∙ held)) in
        rw first (omega (arith, e))

-- A row that begins waits for its first request.
pub first_busy : (blank : Bool) → is_busy (first_stage blank) ≡ true
first_busy true = refl
first_busy false = refl

pub first_sits : (how : How) (s : Slice) (blank : Bool) → s.zero ≡ blank → Sits how s (first_stage blank)
first_sits how s true is = tt
first_sits how s false is = is

-- A row went on.

same_slice : (how : How) (n : ℕ) (asks : Option Change) (rows rows2 : List (ℕ × Row)) (w : WentOn how n asks rows rows2) → w.new.slice ≡ w.row.slice
same_slice how n asks rows rows2 w = ap (λ (r : Row). r.slice) w.same

went_sits : (how : How) (n : ℕ) (asks : Option Change) (rows rows2 : List (ℕ × Row)) (w : WentOn how n asks rows rows2) → Sits how w.new.slice w.new.stage
went_sits how n asks rows rows2 w = subst (λ (s : Slice). Sits how s w.new.stage) (sym (same_slice how n asks rows rows2 w)) w.sits

-- to nothing: it is still noted
pub kept_went : (how : How) (n : ℕ) (asks : Option Change) (rows rows2 : List (ℕ × Row)) (came : List ℕ) (capacity begun : ℕ) → asks ≡ None → WentOn how n asks rows rows2 → IsKept how rows (n ∷ came) capacity begun → IsKept how rows2 (n ∷ came) capacity begun
kept_went how n asks rows rows2 came capacity begun none w k =
    subst (λ (x : List (ℕ × Row)). IsKept how x (n ∷ came) capacity begun) (sym w.now)
    (kept_idle how n w.row w.new rows came capacity begun w.held (same_slice how n asks rows rows2 w) (w.busy ∙ ap is_some none) (went_sits how n asks rows rows2 w) k)

-- to a request: it is no longer
pub kept_went_on : (how : How) (n : ℕ) (asks : Option Change) (one : Change) (rows rows2 : List (ℕ × Row)) (came : List ℕ) (capacity begun : ℕ) → asks ≡ Some one → WentOn how n asks rows rows2 → IsKept how rows (n ∷ came) capacity begun → IsKept how rows2 came capacity begun
kept_went_on how n asks one rows rows2 came capacity begun some w k =
    subst (λ (x : List (ℕ × Row)). IsKept how x came capacity begun) (sym w.now)
    (kept_asking how n w.row w.new rows came capacity begun w.held (same_slice how n asks rows rows2 w) (w.busy ∙ ap is_some some) (went_sits how n asks rows rows2 w) k)

pub held_still : (how : How) (n : ℕ) (asks : Option Change) (rows rows2 : List (ℕ × Row)) (w : WentOn how n asks rows rows2) → value_at n rows2 ≡ Some w.new
held_still how n asks rows rows2 w = ap (value_at n) w.now ∙ value_at_with n w.row w.new rows w.held

-- to its end: it is gone
pub kept_went_over : (how : How) (n : ℕ) (asks : Option Change) (rows rows2 rows3 : List (ℕ × Row)) (came : List ℕ) (capacity begun : ℕ) → asks ≡ None → WentOn how n asks rows rows2 → rows3 ≡ without n rows2 →
    IsKept how rows (n ∷ came) capacity begun → IsKept how rows3 came capacity begun
kept_went_over how n asks rows rows2 rows3 came capacity begun none w gone k =
    subst (λ (x : List (ℕ × Row)). IsKept how x came capacity begun) (sym gone)
    (kept_over how n w.new rows2 came capacity begun (held_still how n asks rows rows2 w)
    (kept_went how n asks rows rows2 came capacity begun none w k))

-- The first that is noted, and the others.
pub noted_first : (came rest : List ℕ) (n : ℕ) → slice_get came 0 ≡ Some n → rest ≡ drop 1 came → came ≡ n ∷ rest
noted_first [] rest n e f = absurd (cc)
noted_first (m ∷ came) rest n e f = let same : m ≡ n = cc in let r : rest ≡ came = f in rw (same, r) refl
