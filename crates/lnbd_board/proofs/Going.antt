-- What the calls of a board do to the invariant.
use Rattle.std.proofs.Common.{◌≡◌, ℕ, List, [], ◌∷◌, ◌++◌, true, false, refl, ap, sym, subst, ◌∙◌, length, Option, Some, None, IfSome, is_none}
use Rattle.lnbd_keyed.specs.Keyed.{value_at, with_value, without}
use Rattle.lnbd_keyed.proofs.KeyedLemmas.{value_at_with, without_with}
use Rattle.lnbd_plan.specs.declared.grid.Slice.{Slice}
use Rattle.lnbd_board.specs.declared.ask.Ask.{Ask}
use Rattle.lnbd_board.specs.declared.ask.Ask.TheVariants as ask
use Rattle.lnbd_board.specs.declared.ask.Change.{Change}
use Rattle.lnbd_board.specs.declared.how.How.{How}
use Rattle.lnbd_board.specs.declared.row.Row.{Row}
use Rattle.lnbd_board.specs.declared.row.Stage.{Stage}
use Rattle.lnbd_board.specs.declared.row.Stage.TheVariants.{Reading, Last, Came, Writing, Holding, Finished}
use Rattle.lnbd_board.specs.Requests.{Request, own}
use Rattle.lnbd_board.specs.Rows.{is_busy, IsOver, StandsAt, slice_at}
use Rattle.lnbd_board.specs.Asks.{Goes, Begins, IsChangeOf, is_over, IsFirstAsk, first_stage, read_at, written_by, zeroed_by}
use Rattle.lnbd_board.specs.Board.{WentOn, IsOverAt, IsBoundTo, AsksOn, EndsRow, looked_at, risen}
use Rattle.lnbd_board.specs.Files.{Seen}
use Rattle.lnbd_board.proofs.Steps.{row_stands, ended, began_read, began_zero}

-- A row went on.
pub goes_of : (how : How) (n : ℕ) (asks : Option Change) (rows rows2 : List (ℕ × Row)) → WentOn how n asks rows rows2 → Goes how n asks rows rows2
goes_of how n asks rows rows2 w = record {
  on = λ source destination link cookie.
      let k = w.on.on w.row rows source destination link cookie w.held refl refl in
      let e : rows2 ≡ with_value n (record w.row { stage = w.new.stage }) rows = w.now ∙ ap (λ (r : Row). with_value n r rows) w.same in
      rw e k;
}

over_is : (how : How) (s : Slice) (stage : Stage) (n : ℕ) (source destination : List Request) → is_over stage ≡ true → StandsAt how s stage (own n source) (own n destination) → IsOver how s (own n source) (own n destination)
over_is how s Reading n source destination o h = absurd (cc)
over_is how s Last n source destination o h = absurd (cc)
over_is how s (Came bytes) n source destination o h = absurd (cc)
over_is how s (Writing bytes left) n source destination o h = absurd (cc)
over_is how s (Holding bytes left) n source destination o h = absurd (cc)
over_is how s (Finished bytes) n source destination o h = h

over_idle : (stage : Stage) → is_over stage ≡ true → is_busy stage ≡ false
over_idle Reading o = absurd (cc)
over_idle Last o = absurd (cc)
over_idle (Came bytes) o = refl
over_idle (Writing bytes left) o = absurd (cc)
over_idle (Holding bytes left) o = refl
over_idle (Finished bytes) o = refl

-- A row went on, and is over and gone.
pub goes_over : (how : How) (n : ℕ) (rows rows2 rows3 : List (ℕ × Row)) → WentOn how n None rows rows2 → ((row : Row) → value_at n rows2 ≡ Some row → is_over row.stage ≡ true) → rows3 ≡ without n rows2 → Goes how n None rows rows3
goes_over how n rows rows2 rows3 w o gone = record {
  on = λ source destination link cookie. record {
    on = λ slices stands.
        let h = ((goes_of how n None rows rows2 w).on source destination link cookie).on slices stands in
        let held : value_at n rows2 ≡ Some w.new = rw w.now (value_at_with n w.row w.new rows w.held) in
        let done = o w.new held in
        let r = row_stands how slices n w.new rows2 source destination h held in
        rw gone (ended how slices n w.new rows2 source destination h held (over_idle w.new.stage done) (over_is how (slice_at slices n) w.new.stage n source destination done r.2));
  };
}

-- A slice begins with its first request.
pub begins_as : (how : How) (s : Slice) (n : ℕ) (one : Ask) (row : Row) (rows rows2 : List (ℕ × Row)) → IsFirstAsk how s one → row.slice ≡ s → row.stage ≡ first_stage s.zero → rows2 ≡ rows ++ (n, row) ∷ [] → Begins how s n one rows rows2
begins_as how s n (ask.Read offset buf) row rows rows2 first same stage e = record {
  on = λ slices source destination link cookie len stands.
      let reading : row.stage ≡ Reading = stage ∙ ap first_stage first.0 in
      rw e (began_read how slices n link cookie s row (read_at offset (length buf)) rows source destination (sym len) stands same reading first.0 refl first.1 first.2 refl);
}
begins_as how s n (ask.Change one) row rows rows2 first same stage e = record {
  on = λ slices source destination link cookie len stands.
      let last : row.stage ≡ Last = stage ∙ ap first_stage first.0 in
      let z = first.1 in
      rw (e, z.is) (began_zero how slices n link cookie s row z.piece rows source destination (sym len) stands same last first.0 z.spelt z.kept z.change z.dense z.zeroed);
}

-- What a board says next.

pub goes_none : (how : How) (n m : ℕ) (rows rows2 : List (ℕ × Row)) → Goes how n None rows rows2 → Goes how m None rows rows2
goes_none how n m rows rows2 g = record { on = λ source destination link cookie. g.on source destination link cookie }

pub asks_on : (how : How) (n source destination : ℕ) (asks : Option Change) (one : Change) (old : Seen) (rows2 : List (ℕ × Row)) (came2 : List ℕ) (written2 zeroed2 : ℕ) → asks ≡ Some one → old.came ≡ n ∷ came2 →
    WentOn how n asks old.rows rows2 → IsBoundTo n source destination old.rows → written2 ≡ risen old.written (written_by one) → zeroed2 ≡ risen old.zeroed (zeroed_by one) →
    AsksOn how n destination one old (looked_at old rows2 came2 written2 zeroed2)
asks_on how n source destination asks one old rows2 came2 written2 zeroed2 is first w bound ew ez =
    let there : List (ℕ × Row) = with_value n (record w.row { stage = w.new.stage }) old.rows in
    let here : rows2 ≡ with_value n (record w.row { stage = w.new.stage }) old.rows = w.now ∙ ap (λ (r : Row). with_value n r old.rows) w.same in
    record {
      first = first;
      row = w.row;
      stage = w.new.stage;
      held = w.held;
      writes = (bound w.row w.held).1;
      now = ap (λ (r : List (ℕ × Row)). looked_at old r came2 written2 zeroed2) here
          ∙ (ap (λ (m : ℕ). looked_at old there came2 m zeroed2) ew ∙ ap (λ (m : ℕ). looked_at old there came2 (risen old.written (written_by one)) m) ez);
      goes = subst (λ (o : Option Change). Goes how n o old.rows rows2) is (goes_of how n asks old.rows rows2 w);
      inside = subst (λ (o : Option Change). IfSome o (λ one. IsChangeOf how w.row.slice one)) is w.inside;
    }

pub ends_row : (how : How) (n source destination : ℕ) (asks : Option Change) (old : Seen) (rows2 rows3 : List (ℕ × Row)) (came2 : List ℕ) → asks ≡ None → old.came ≡ n ∷ came2 →
    WentOn how n asks old.rows rows2 → IsOverAt n asks rows2 → IsBoundTo n source destination old.rows → rows3 ≡ without n rows2 →
    EndsRow how n source destination old (looked_at old rows3 came2 old.written old.zeroed)
ends_row how n source destination asks old rows2 rows3 came2 none first w over bound gone =
    let w2 : WentOn how n None old.rows rows2 = subst (λ (o : Option Change). WentOn how n o old.rows rows2) none w in
    let all : rows3 ≡ without n old.rows = gone ∙ (ap (without n) w.now ∙ without_with n w.new old.rows) in
    record {
      first = first;
      row = w.row;
      held = w.held;
      reads = (bound w.row w.held).0;
      writes = (bound w.row w.held).1;
      now = ap (λ (r : List (ℕ × Row)). looked_at old r came2 old.written old.zeroed) all;
      goes = goes_over how n old.rows rows2 rows3 w2 (over (ap is_none none)) gone;
    }
