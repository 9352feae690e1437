-- Changes that a file made, one after another.
use Rattle.std.proofs.Common.{Bool, ◌≡◌, ℕ, ◌+◌, List, [], ◌∷◌, ◌++◌, length, refl, ap, sym, subst, ◌∙◌, arith, append_assoc, append-nil}
use Rattle.lnbd_model.specs.declared.kind.Kind.{Kind}
use Rattle.lnbd_asked.specs.Honest.{changes}
use Rattle.lnbd_board.specs.declared.ask.Change.{Change}
use Rattle.lnbd_board.specs.declared.ask.Change.TheVariants as change
use Rattle.lnbd_board.specs.declared.ticket.Ticket.{Ticket}
use Rattle.lnbd_board.specs.Asks.{change_of}
use Rattle.lnbd_board.specs.Requests.{Each, Request, done_with, request}
use Rattle.lnbd_course.specs.Counted.{bytes_of}
use Rattle.lnbd_onesided.specs.Honest.{Begins, Made, Then}
use Rattle.lnbd_copyfile.specs.Making.{IsBelow, MadeMore, MakesInside}

-- Lists of requests.

pub each_front : (P : Request → Type 0) (xs ys : List Request) → Each P (xs ++ ys) → Each P xs
each_front P [] ys h = tt
each_front P (x ∷ xs) ys h = (h.0, each_front P xs ys h.1)

pub each_last : (P : Request → Type 0) (xs : List Request) (r : Request) → Each P (xs ++ r ∷ []) → P r
each_last P [] r h = h.0
each_last P (x ∷ xs) r h = each_last P xs r h.1

pub each_more : (P : Request → Type 0) (xs : List Request) (r : Request) → Each P xs → P r → Each P (xs ++ r ∷ [])
each_more P [] r h is = (is, tt)
each_more P (x ∷ xs) r h is = (h.0, each_more P xs r h.1 is)

pub bytes_joined : (counts : Kind → Bool) (xs ys : List Request) → bytes_of counts (xs ++ ys) ≡ bytes_of counts xs + bytes_of counts ys
bytes_joined counts [] ys = omega arith
bytes_joined counts (x ∷ xs) ys = let e = bytes_joined counts xs ys in omega (arith, e)

-- a change counts with all of its bytes
pub change_bytes : (link cookie : ℕ) (by : Ticket) (one : Change) (bytes : List ℕ) → (change_of one).length ≡ bytes_of changes (request link cookie by (done_with (change_of one) bytes) ∷ [])
change_bytes link cookie by (change.Write offset written) bytes = omega arith
change_bytes link cookie by (change.Zero offset size flags) bytes = omega arith

-- Changes.

pub kept_size : (start now : List ℕ) (made : List Request) → Made start made now → length now ≡ length start
kept_size start now made (Begins _ _ none same) = ap (λ (xs : List ℕ). length xs) same
kept_size start now2 made2 (Then asked _ now _ r before makes is) = makes.kept ∙ kept_size start now asked before

pub made_none : (made : List Request) (old : List ℕ) → MadeMore made [] old old
made_none made old = record { on = λ start fits is. subst (λ (xs : List Request). Made start xs old) (sym (append-nil made)) is }

pub made_one : (made : List Request) (r : Request) (old new : List ℕ) → MakesInside r.said.command old new → MadeMore made (r ∷ []) old new
made_one made r old new makes = record {
  on = λ start fits is.
      let size = kept_size start old made is in
      let below : IsBelow (length old) r.said.command = subst (λ (k : ℕ). IsBelow k r.said.command) (sym size) (each_last (λ x. IsBelow (length start) x.said.command) made r fits) in
      Then made (made ++ r ∷ []) old new r is (makes.on below) refl;
}

pub made_then : (made more rest : List Request) (x y z : List ℕ) → MadeMore made more x y → MadeMore (made ++ more) rest y z → MadeMore made (more ++ rest) x z
made_then made more rest x y z f g = record {
  on = λ start fits is.
      let all : (made ++ more) ++ rest ≡ made ++ (more ++ rest) = append_assoc made more rest in
      let fits2 : Each (λ r. IsBelow (length start) r.said.command) ((made ++ more) ++ rest) = subst (λ (xs : List Request). Each (λ r. IsBelow (length start) r.said.command) xs) (sym all) fits in
      subst (λ (xs : List Request). Made start xs z) all
      (g.on start fits2 (f.on start (each_front (λ r. IsBelow (length start) r.said.command) (made ++ more) rest fits2) is));
}
