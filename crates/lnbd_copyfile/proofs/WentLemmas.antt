-- The board goes on, and a file makes the changes that it asks for.
use Rattle.std.proofs.Common.{◌≡◌, ◌≢◌, ℕ, Bool, true, false, List, [], ◌∷◌, ◌++◌, length, Option, if◌then◌else◌, refl, ap, sym, subst, ◌∙◌, append_assoc, append-nil}
use Rattle.lnbd_keyed.specs.Keyed.{value_at}
use Rattle.lnbd_plan.specs.declared.grid.Slice.{Slice}
use Rattle.lnbd_asked.specs.Honest.{changes}
use Rattle.lnbd_board.specs.declared.ask.Ask.{Ask}
use Rattle.lnbd_board.specs.declared.ask.Ask.TheVariants as ask
use Rattle.lnbd_board.specs.declared.ask.Change.{Change}
use Rattle.lnbd_board.specs.declared.how.How.{How}
use Rattle.lnbd_board.specs.declared.next.Next.{Next}
use Rattle.lnbd_board.specs.declared.next.Next.TheVariants as told
use Rattle.lnbd_board.specs.declared.ticket.Ticket.TheVariants as ticket
use Rattle.lnbd_board.specs.Asks.{Begins, change_of}
use Rattle.lnbd_board.specs.Board.{AsksOn, IsNext, begun_with, first_row}
use Rattle.lnbd_board.specs.Files.{Seen, came_with, is_unfit, or_error, rows_with}
use Rattle.lnbd_board.specs.Requests.{Request, done_with, request}
use Rattle.lnbd_onesided.specs.Desk.{Completes, done_more, no_link}
use Rattle.lnbd_course.specs.Counted.{bytes_of}
use Rattle.lnbd_copy.specs.Bound.{on_source}
use Rattle.lnbd_copy.proofs.BoundLemmas.{bound_with, rows_bound}
use Rattle.lnbd_store.specs.Shelf.{Shelf}
use Rattle.lnbd_touched.specs.Grown.{RoseBy}
use Rattle.lnbd_touched.specs.Touches.{Touches}
use Rattle.lnbd_touched.proofs.GrownLemmas.{rose_none, rose_then}
use Rattle.lnbd_touched.proofs.TouchLemmas.{touches_none, touches_then, touches_weaker}
use Rattle.lnbd_copyfile.specs.declared.desk.Step.{Step}
use Rattle.lnbd_copyfile.specs.declared.desk.Step.TheVariants as step
use Rattle.lnbd_copyfile.specs.Making.{Changed, Ended, EndsFirst, HasEnded, HasMadeFirst, HasStepped, MadeMore, MakesChanges, MakesInside, Rested, WentOn}
use Rattle.lnbd_copyfile.proofs.MadeLemmas.{bytes_joined, change_bytes, made_none, made_one, made_then}

module _ (how : How) where
  pub went_then : (a b c : Seen) (made made2 made3 : List Request) → WentOn how a made b made2 → WentOn how b made2 c made3 → WentOn how a made c made3
  went_then a b c made made2 made3 (Rested _ _ _ _ same none) rest = subst (λ (xs : List Request). WentOn how a xs c made3) none (subst (λ (s : Seen). WentOn how s made2 c made3) same rest)
  went_then a b c made made2 made3 (Ended _ mid _ _ _ n source destination ends more) rest = Ended a mid c made made3 n source destination ends (went_then mid b c made made2 made3 more rest)
  went_then a b c made made2 made3 (Changed _ mid back _ _ _ n destination one asks came more) rest =
      Changed a mid back c made made3 n destination one asks came (went_then back b c (done_more (length made) n (change_of one) (change_of one).payload made) made2 made3 more rest)

  module _ (file : ℕ) where
    pub makes_none : (now : Seen) (old : Option Shelf) (taken : ℕ) → MakesChanges how file now now old old taken taken
    makes_none now old taken = record {
      on = λ made. record {
        more = [];
        went = Rested now now made (made ++ []) refl (append-nil made);
        touched = touches_none file (MadeMore made []) old (λ x. made_none made x);
        took = rose_none taken;
      };
    }

    pub makes_then : (a b c : Seen) (x y z : Option Shelf) (t u v : ℕ) → MakesChanges how file a b x y t u → MakesChanges how file b c y z u v → MakesChanges how file a c x z t v
    makes_then a b c x y z t u v f g = record {
      on = λ made.
          let one = f.on made in
          let two = g.on (made ++ one.more) in
          let all : (made ++ one.more) ++ two.more ≡ made ++ (one.more ++ two.more) = append_assoc made one.more two.more in
          record {
            more = one.more ++ two.more;
            went = subst (λ (xs : List Request). WentOn how a made c xs) all (went_then a b c made (made ++ one.more) ((made ++ one.more) ++ two.more) one.went two.went);
            touched = touches_then file (MadeMore made one.more) (MadeMore (made ++ one.more) two.more) (MadeMore made (one.more ++ two.more)) x y z
                (λ p q r h k. made_then made one.more two.more p q r h k) one.touched two.touched;
            took = subst (λ (n : ℕ). RoseBy n t v) (sym (bytes_joined changes one.more two.more)) (rose_then (bytes_of changes one.more) (bytes_of changes two.more) t u v one.took two.took);
          };
    }

    pub makes_nothing : (now now2 : Seen) (next : Next) (old : Option Shelf) (taken : ℕ) → next ≡ told.Nothing → IsNext how next now now2 → MakesChanges how file now now2 old old taken taken
    makes_nothing now now2 next old taken e is =
        let none : now2 ≡ now = (subst (λ (n : Next). IsNext how n now now2) e is).1 in
        subst (λ (after : Seen). MakesChanges how file now after old old taken taken) (sym none) (makes_none now old taken)

    -- a row is over
    pub makes_end : (now mid : Seen) (n source destination : ℕ) (one : Next) (old : Option Shelf) (taken : ℕ) → one ≡ told.Over n source destination → IsNext how one now mid
        → MakesChanges how file now mid old old taken taken
    makes_end now mid n source destination one old taken e is = record {
      on = λ made. record {
        more = [];
        went = Ended now mid mid made (made ++ []) n source destination (subst (λ (x : Next). IsNext how x now mid) e is) (Rested mid mid made (made ++ []) refl (append-nil made));
        touched = touches_none file (MadeMore made []) old (λ x. made_none made x);
        took = rose_none taken;
      };
    }

    -- a row asked for a change, which was made and came back
    pub makes_change : (now mid back : Seen) (n destination : ℕ) (one : Change) (bytes : List ℕ) (next : Next) (old new : Option Shelf) (taken taken2 : ℕ) → next ≡ told.Asks n destination one
        → IsNext how next now mid → Touches file (MakesInside (change_of one)) old new → bytes ≡ (change_of one).payload → Completes n bytes mid back
        → RoseBy (change_of one).length taken taken2 → MakesChanges how file now back old new taken taken2
    makes_change now mid back n destination one bytes next old new taken taken2 e is touched own came took = record {
      on = λ made.
          let command = change_of one in
          let last : Request = request no_link (length made) (ticket.Slice n) (done_with command command.payload) in
          let all = done_more (length made) n command command.payload made in
          let sum = change_bytes no_link (length made) (ticket.Slice n) one command.payload in
          record {
            more = last ∷ [];
            went = Changed now mid back back made all n destination one (subst (λ (x : Next). IsNext how x now mid) e is)
                (subst (λ (xs : List ℕ). Completes n xs mid back) own came) (Rested back back all all refl refl);
            touched = touches_weaker file (MakesInside command) (MadeMore made (last ∷ [])) old new (λ x y h. made_one made last x y h) touched;
            took = subst (λ (k : ℕ). RoseBy k taken taken2) sum took;
          };
    }

-- one step more, of a board that writes so still
pub makes_last : (how : How) (file : ℕ) (a b c : Seen) (x y z : Option Shelf) (t u v : ℕ) → b.how ≡ how → MakesChanges how file a b x y t u → MakesChanges b.how file b c y z u v →
    MakesChanges how file a c x z t v
makes_last how file a b c x y z t u v same f g = makes_then how file a b c x y z t u v f (subst (λ (h : How). MakesChanges h file b c y z u v) same g)

-- To which connections rows are bound.

pub completed_sources : (n : ℕ) (bytes : List ℕ) (next after : Seen) → Completes n bytes next after → on_source after.rows ≡ on_source next.rows
completed_sources n bytes next after c = ap (λ (s : Seen). on_source s.rows) (c.1.1 ∙ c.1.0.1) ∙ go (is_unfit (value_at n next.rows) bytes)
  where
    go : (b : Bool) → on_source (if b then record next { error = or_error next.error 71 } else record next {
      rows = rows_with (value_at n next.rows) n bytes next.rows;
      came = came_with (value_at n next.rows) n next.came;
    }).rows ≡ on_source next.rows
    go true = refl
    go false = rows_bound (λ row. row.source) (λ row stage. refl) n bytes next.rows

asked_sources : (how : How) (n destination : ℕ) (one : Change) (now mid : Seen) → AsksOn how n destination one now mid → on_source mid.rows ≡ on_source now.rows
asked_sources how n destination one now mid asks =
    ap (λ (s : Seen). on_source s.rows) asks.now ∙ bound_with (λ row. row.source) n asks.row (record asks.row { stage = asks.stage }) now.rows refl asks.held

some_came : (came more : List ℕ) (n : ℕ) → came ≡ n ∷ more → came ≢ []
some_came came more n first none = let e = sym first ∙ none in absurd (cc e)

-- What is looked at first.

pub looks_over : (how : How) (now mid : Seen) (n source destination : ℕ) (next : Next) → next ≡ told.Over n source destination → IsNext how next now mid → EndsFirst how source now mid
looks_over how now mid n source destination next e is = record { n = n; destination = destination; ends = subst (λ (x : Next). IsNext how x now mid) e is }

pub looks_made : (how : How) (now mid back : Seen) (n destination : ℕ) (one : Change) (bytes : List ℕ) (next : Next) → next ≡ told.Asks n destination one → IsNext how next now mid
    → Completes n bytes mid back
    → HasStepped how step.Made now back
looks_made how now mid back n destination one bytes next e is came =
    let asks : AsksOn how n destination one now mid = subst (λ (x : Next). IsNext how x now mid) e is in
    (some_came now.came mid.came n asks.first, completed_sources n bytes mid back came ∙ asked_sources how n destination one now mid asks)

pub made_sources : (how : How) (one : Step) (now now2 : Seen) → one ≡ step.Made → HasStepped how one now now2 → on_source now2.rows ≡ on_source now.rows
made_sources how one now now2 is stepped = (subst (λ (x : Step). HasStepped how x now now2) is stepped).1

pub nothing_sources : (how : How) (one : Step) (now now2 : Seen) → one ≡ step.Nothing → HasStepped how one now now2 → on_source now2.rows ≡ on_source now.rows
nothing_sources how one now now2 is stepped = ap (λ (s : Seen). on_source s.rows) (subst (λ (x : Step). HasStepped how x now now2) is stepped).1

pub ended_last : (how how2 : How) (source : ℕ) (one : Step) (start before now : Seen) → how2 ≡ how → one ≡ step.Over source → on_source before.rows ≡ on_source start.rows
    → HasStepped how2 one before now
    → HasEnded how source start now
ended_last how how2 source one start before now same is bound stepped = record {
  before = before;
  same = bound;
  ends = subst (λ (h : How). EndsFirst h source before now) same (subst (λ (x : Step). HasStepped how2 x before now) is stepped);
}

-- A slice begins with a change, which is made.
pub begun_made : (file : ℕ) (slice : Slice) (source destination : ℕ) (now mid back : Seen) (first : Ask) (number : ℕ) (one : Change) (bytes : List ℕ) (old new : Option Shelf) (taken taken2 : ℕ)
    → first ≡ ask.Change one → number ≡ now.begun → Begins now.how slice now.begun first now.rows mid.rows → mid ≡ begun_with now (first_row slice source destination) first
    → Touches file (MakesInside (change_of one)) old new → bytes ≡ (change_of one).payload → Completes number bytes mid back → RoseBy (change_of one).length taken taken2
    → (made : List Request) → HasMadeFirst file slice source destination made now back old new taken taken2
begun_made file slice source destination now mid back first number one bytes old new taken taken2 is begun begins row touched own came took made =
    let command = change_of one in
    let last : Request = request no_link (length made) (ticket.Slice now.begun) (done_with command command.payload) in
    let sum = change_bytes no_link (length made) (ticket.Slice now.begun) one command.payload in
    record {
      one = one;
      mid = mid;
      begun = record {
        begins = subst (λ (x : Ask). Begins now.how slice now.begun x now.rows mid.rows) is begins;
        row = subst (λ (x : Ask). mid ≡ begun_with now (first_row slice source destination) x) is row;
      };
      came = subst (λ (n : ℕ). Completes n command.payload mid back) begun (subst (λ (xs : List ℕ). Completes number xs mid back) own came);
      more = last ∷ [];
      all = refl;
      touched = touches_weaker file (MakesInside command) (MadeMore made (last ∷ [])) old new (λ x y h. made_one made last x y h) touched;
      took = subst (λ (k : ℕ). RoseBy k taken taken2) sum took;
    }
