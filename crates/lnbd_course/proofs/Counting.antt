-- What a board counts goes with what was asked: lists that ask alike under each link and cookie have the same bytes.
use Rattle.std.proofs.Common.{◌≡◌, ◌⊎◌, inl, inr, ℕ, ◌+◌, ◌<◌, Bool, true, false, ◌&&◌, ◌==◌, List, [], ◌∷◌, Option, Some, None, cond, min, refl, ap, sym, subst, ◌∙◌, arith, if◌then◌else◌}
use Rattle.std.proofs.lemmas.Bool.{cases_eq, eq-eqb, ne_eqb}
use Rattle.lnbd_model.specs.Kind.{is_read, is_write}
use Rattle.lnbd_model.specs.declared.export.Extent.{Extent}
use Rattle.lnbd_model.specs.declared.kind.Kind.{Kind}
use Rattle.lnbd_model.specs.declared.kind.Kind.TheVariants.{Flush}
use Rattle.lnbd_callbacks.specs.Calls.{Call, Chunk, Extents, Complete, Free}
use Rattle.lnbd_callbacks.specs.Steps.{OneByOne}
use Rattle.lnbd_outcome.specs.Outcome.{Outcome}
use Rattle.lnbd_history.specs.Commands.{Command}
use Rattle.lnbd_history.specs.Commands as commands_of
use Rattle.lnbd_history.specs.Events.{Event}
use Rattle.lnbd_history.specs.History as history_of
use Rattle.lnbd_keyed.specs.Keyed.{value_at}
use Rattle.lnbd_asked.specs.Link.{Nobody}
use Rattle.lnbd_asked.specs.Transcript.{bare}
use Rattle.lnbd_board.specs.declared.ticket.Ticket.{Ticket}
use Rattle.lnbd_board.specs.declared.ticket.Ticket.TheVariants as ticket
use Rattle.lnbd_board.specs.Board.{risen}
use Rattle.lnbd_board.specs.Files.{Files, Hears, came_with, filed_done, is_map, is_unfit, or_error, content_first, rows_with}
use Rattle.lnbd_board.specs.Files as board
use Rattle.lnbd_board.specs.Requests.{Request, Each, asking}
use Rattle.lnbd_board.specs.declared.how.How.{How}
use Rattle.lnbd_board.specs.declared.row.Row.{Row}
use Rattle.lnbd_board.specs.Rows.{AsksOfDestination, AsksOfSource, Stands}
use Rattle.lnbd_tracks.specs.Tracks.{AllTrack, Happens, Histories, is_issue, request_of, under}
use Rattle.lnbd_tracks.proofs.Unfiled.{request_stays}
use Rattle.lnbd_course.specs.Counted.{CountsSame, HasNotCounted, IsCounted, bytes_of, flushes_of, is_flush, is_zero, total, up_to_end}

-- the commands of a list
abbrev pub commands : List Request → List (Command Nobody)
commands [] = []
commands (r ∷ rs) = r.said.command ∷ commands rs

-- Both lists have the same commands under each link and cookie.
abbrev pub AskAlike : (one other : List Request) → Type 0
AskAlike one other = (link cookie : ℕ) → commands (under link cookie one) ≡ commands (under link cookie other)

-- Keys.

abbrev pub is_at : (link cookie : ℕ) → Request → Bool
is_at link cookie r = (r.link == link) && (r.cookie == cookie)

-- it is under this link and cookie, or not
pub data Key (link cookie other another : ℕ) : Type 0 where
  Same : link ≡ other → cookie ≡ another → ((link == other) && (cookie == another)) ≡ true → Key link cookie other another
  Apart : ((link == other) && (cookie == another)) ≡ false → Key link cookie other another

and_false : (a : Bool) → (a && false) ≡ false
and_false true = refl
and_false false = refl

pub key : (link cookie other another : ℕ) → Key link cookie other another
key link cookie other another = elim (cases_eq link other) [
  | inl l ↦ elim (cases_eq cookie another) [
    | inl c ↦ Same l c (ap (λ (b : Bool). b && (cookie == another)) (eq-eqb link other l) ∙ eq-eqb cookie another c)
    | inr c ↦ Apart (ap (λ (b : Bool). (link == other) && b) (ne_eqb cookie another c) ∙ and_false (link == other))
  ]
  | inr l ↦ Apart (ap (λ (b : Bool). b && (cookie == another)) (ne_eqb link other l))
]

-- Without the first request under a link and a cookie.

pub less : (link cookie : ℕ) → List Request → List Request
less link cookie [] = []
less link cookie (r ∷ rs) = cond (is_at link cookie r) rs (r ∷ less link cookie rs)

pub under_here : (link cookie : ℕ) (x : Request) (xs : List Request) → is_at link cookie x ≡ true → under link cookie (x ∷ xs) ≡ x ∷ under link cookie xs
under_here link cookie x xs e = ap (λ (b : Bool). cond b (x ∷ under link cookie xs) (under link cookie xs)) e

pub under_other : (link cookie : ℕ) (x : Request) (xs : List Request) → is_at link cookie x ≡ false → under link cookie (x ∷ xs) ≡ under link cookie xs
under_other link cookie x xs e = ap (λ (b : Bool). cond b (x ∷ under link cookie xs) (under link cookie xs)) e

pub less_here : (link cookie : ℕ) (x : Request) (xs : List Request) → is_at link cookie x ≡ true → less link cookie (x ∷ xs) ≡ xs
unfolding less
less_here link cookie x xs e = ap (λ (b : Bool). cond b xs (x ∷ less link cookie xs)) e

pub less_other : (link cookie : ℕ) (x : Request) (xs : List Request) → is_at link cookie x ≡ false → less link cookie (x ∷ xs) ≡ x ∷ less link cookie xs
unfolding less
less_other link cookie x xs e = ap (λ (b : Bool). cond b xs (x ∷ less link cookie xs)) e

pub no_first : (c : Command Nobody) (cs : List (Command Nobody)) → [] ≡ c ∷ cs → ⊥
no_first c cs e = cc

pub same_first : (c d : Command Nobody) (cs ds : List (Command Nobody)) → c ∷ cs ≡ d ∷ ds → c ≡ d
same_first c d cs ds e = cc

same_others : (c d : Command Nobody) (cs ds : List (Command Nobody)) → c ∷ cs ≡ d ∷ ds → cs ≡ ds
same_others c d cs ds e = cc

module _ (weight : Command Nobody → ℕ) where
  swap : (a b c : ℕ) → a + (b + c) ≡ b + (a + c)
  swap a b c = omega arith

  pub total_less : (link cookie : ℕ) (c : Command Nobody) (cs : List (Command Nobody)) (xs : List Request) → commands (under link cookie xs) ≡ c ∷ cs → total weight xs ≡ weight c + total weight (less link cookie xs)
  total_less link cookie c cs [] e = absurd (no_first c cs e)
  total_less link cookie c cs (x ∷ xs) e = elim (key x.link x.cookie link cookie) [
    | Same l k is ↦
        let first : x.said.command ≡ c = same_first x.said.command c (commands (under link cookie xs)) cs (sym (ap commands (under_here link cookie x xs is)) ∙ e) in
        ap (λ (d : Command Nobody). weight d + total weight xs) first ∙ ap (λ (l : List Request). weight c + total weight l) (sym (less_here link cookie x xs is))
    | Apart not ↦
        ap (λ (n : ℕ). weight x.said.command + n) (total_less link cookie c cs xs (sym (ap commands (under_other link cookie x xs not)) ∙ e))
        ∙ swap (weight x.said.command) (weight c) (total weight (less link cookie xs))
        ∙ ap (λ (l : List Request). weight c + total weight l) (sym (less_other link cookie x xs not))
  ]

pub under_less : (link cookie : ℕ) (c : Command Nobody) (cs : List (Command Nobody)) (xs : List Request) → commands (under link cookie xs) ≡ c ∷ cs → commands (under link cookie (less link cookie xs)) ≡ cs
under_less link cookie c cs [] e = absurd (no_first c cs e)
under_less link cookie c cs (x ∷ xs) e = elim (key x.link x.cookie link cookie) [
  | Same l k is ↦ ap (λ (l : List Request). commands (under link cookie l)) (less_here link cookie x xs is)
      ∙ same_others x.said.command c (commands (under link cookie xs)) cs (sym (ap commands (under_here link cookie x xs is)) ∙ e)
  | Apart not ↦ ap (λ (l : List Request). commands (under link cookie l)) (less_other link cookie x xs not) ∙ ap commands (under_other link cookie x (less link cookie xs) not)
      ∙ under_less link cookie c cs xs (sym (ap commands (under_other link cookie x xs not)) ∙ e)
]

-- the others are as they were
pub under_beside : (link cookie other another : ℕ) (xs : List Request) → ((link == other) && (cookie == another)) ≡ false → commands (under other another (less link cookie xs)) ≡ commands (under other another xs)
unfolding less
under_beside link cookie other another [] d = refl
under_beside link cookie other another (x ∷ xs) d = elim (key x.link x.cookie link cookie) [
  | Same l k is ↦
      let not : is_at other another x ≡ false = ap (λ (n : ℕ). (n == other) && (x.cookie == another)) l ∙ ap (λ (n : ℕ). (link == other) && (n == another)) k ∙ d in
      ap (λ (l : List Request). commands (under other another l)) (less_here link cookie x xs is) ∙ sym (ap commands (under_other other another x xs not))
  | Apart not ↦ ap (λ (l : List Request). commands (under other another l)) (less_other link cookie x xs not) ∙ more (under_beside link cookie other another xs d) (is_at other another x) refl
]
  where
    more : commands (under other another (less link cookie xs)) ≡ commands (under other another xs) → (b : Bool) → is_at other another x ≡ b → commands (under other another (x ∷ less link cookie xs)) ≡ commands (under other another (x ∷ xs))
    more rest true is = ap commands (under_here other another x (less link cookie xs) is) ∙ ap (λ (l : List (Command Nobody)). x.said.command ∷ l) rest ∙ sym (ap commands (under_here other another x xs is))
    more rest false is = ap commands (under_other other another x (less link cookie xs) is) ∙ rest ∙ sym (ap commands (under_other other another x xs is))

none_alike : (y : Request) (ys : List Request) → AskAlike [] (y ∷ ys) → ⊥
none_alike y ys h = elim (key y.link y.cookie y.link y.cookie) [
  | Same l k is ↦ no_first y.said.command (commands (under y.link y.cookie ys)) (h y.link y.cookie ∙ ap commands (under_here y.link y.cookie y ys is))
  | Apart not ↦ absurd (true_not y.link y.cookie not)
]
  where
    true_not : (a b : ℕ) → ((a == a) && (b == b)) ≡ false → ⊥
    true_not a b e = let t : ((a == a) && (b == b)) ≡ true = ap (λ (k : Bool). k && (b == b)) (eq-eqb a a refl) ∙ eq-eqb b b refl in absurd (no (sym t ∙ e))
      where
        no : true ≡ false → ⊥
        no e = cc

is_itself : (x : Request) → is_at x.link x.cookie x ≡ true
is_itself x = ap (λ (k : Bool). k && (x.cookie == x.cookie)) (eq-eqb x.link x.link refl) ∙ eq-eqb x.cookie x.cookie refl

pub same_total : (weight : Command Nobody → ℕ) (one other : List Request) → AskAlike one other → total weight one ≡ total weight other
same_total weight [] [] h = refl
same_total weight [] (y ∷ ys) h = absurd (none_alike y ys h)
same_total weight (x ∷ xs) other h =
    let here : commands (under x.link x.cookie other) ≡ x.said.command ∷ commands (under x.link x.cookie xs) = sym (h x.link x.cookie) ∙ ap commands (under_here x.link x.cookie x xs (is_itself x)) in
    ap (λ (n : ℕ). weight x.said.command + n)
    (same_total weight xs (less x.link x.cookie other) (rest here))
    ∙ sym (total_less weight x.link x.cookie x.said.command (commands (under x.link x.cookie xs)) other here)
  where
    rest : commands (under x.link x.cookie other) ≡ x.said.command ∷ commands (under x.link x.cookie xs) → AskAlike xs (less x.link x.cookie other)
    rest here link cookie = elim (key x.link x.cookie link cookie) [
      | Same l k is ↦
          subst (λ (n : ℕ). commands (under n cookie xs) ≡ commands (under n cookie (less x.link x.cookie other))) l
          (subst (λ (n : ℕ). commands (under x.link n xs) ≡ commands (under x.link n (less x.link x.cookie other))) k
          (sym (under_less x.link x.cookie x.said.command (commands (under x.link x.cookie xs)) other here)))
      | Apart not ↦ sym (ap commands (under_other link cookie x xs not)) ∙ h link cookie ∙ sym (under_beside x.link x.cookie link cookie other not)
    ]

pub same_bytes : (counts : Kind → Bool) (one other : List Request) → AskAlike one other → bytes_of counts one ≡ bytes_of counts other
same_bytes counts one other h = same_total (λ command. cond (counts command.kind) command.length 0) one other h

-- What handles were asked.

abbrev pub commands_in : Option (commands_of.Request Ticket) → List (Command Nobody)
commands_in None = []
commands_in (Some asks) = bare asks ∷ []

pub told_commands : (link cookie : ℕ) (asks : Option (commands_of.Request Ticket)) (outcome : Outcome) → commands (request_of link cookie asks outcome) ≡ commands_in asks
told_commands link cookie None outcome = refl
told_commands link cookie (Some asks) outcome = refl

-- Handles that were asked the same tell lists that ask alike.
pub same_alike : (before after : Histories) (one other : List Request) → AllTrack before one → AllTrack after other → ((link cookie : ℕ) → history_of.request (after link) cookie ≡ history_of.request (before link) cookie) → AskAlike one other
same_alike before after one other a b same link cookie =
    ap commands ((a link).each cookie) ∙ told_commands link cookie (history_of.request (before link) cookie) _ ∙ ap commands_in (sym (same link cookie)) ∙ sym (told_commands link cookie (history_of.request (after link) cookie) _) ∙ sym (ap commands ((b link).each cookie))

-- What happens on a handle asks nothing, if no command is issued.
pub event_alike : (link : ℕ) (event : Event Ticket) (before after : Histories) (one other : List Request) → Happens link event before after → is_issue event ≡ false → AllTrack before one → AllTrack after other → AskAlike one other
event_alike link event before after one other happens quiet a b = same_alike before after one other a b (λ n cookie. stays n cookie (cases_eq n link))
  where
    stays : (n cookie : ℕ) → (n ≡ link) ⊎ (n ≡ link → ⊥) → history_of.request (after n) cookie ≡ history_of.request (before n) cookie
    stays n cookie (inl here) =
        subst (λ (m : ℕ). history_of.request (after m) cookie ≡ history_of.request (before m) cookie) (sym here)
        (ap (λ h. history_of.request h cookie) happens.here ∙ request_stays (before link) event cookie quiet)
    stays n cookie (inr differ) = ap (λ h. history_of.request h cookie) (happens.others n differ)

pub all_alike : (histories : Histories) (one other : List Request) → AllTrack histories one → AllTrack histories other → AskAlike one other
all_alike histories one other a b = same_alike histories histories one other a b (λ link cookie. refl)

-- Callbacks count nothing, whatever they tell of a flush.

pub record CountsAlike (now now' : board.Seen) : Type 0 where
  read : now'.read ≡ now.read
  written : now'.written ≡ now.written
  zeroed : now'.zeroed ≡ now.zeroed
  flushing : now'.flushing ≡ now.flushing

same_none : (now : board.Seen) → CountsAlike now now
same_none now = record { read = refl; written = refl; zeroed = refl; flushing = refl }

same_then : (a b c : board.Seen) → CountsAlike a b → CountsAlike b c → CountsAlike a c
same_then a b c one two = record { read = two.read ∙ one.read; written = two.written ∙ one.written; zeroed = two.zeroed ∙ one.zeroed; flushing = two.flushing ∙ one.flushing }

same_is : (old new : board.Seen) → new ≡ old → CountsAlike old new
same_is old new is = subst (CountsAlike old) (sym is) (same_none old)

slice_same : (unfit : Bool) (n : ℕ) (buf : List ℕ) (old : board.Seen)
    → CountsAlike old (if unfit then record old { error = or_error old.error 71 } else record old { rows = rows_with (value_at n old.rows) n buf old.rows; came = came_with (value_at n old.rows) n old.came })
slice_same true n buf old = record { read = refl; written = refl; zeroed = refl; flushing = refl }
slice_same false n buf old = record { read = refl; written = refl; zeroed = refl; flushing = refl }

done_same : (by : Ticket) (buf : List ℕ) (old : board.Seen) → CountsAlike old (filed_done by buf old)
done_same (ticket.Slice n) buf old = slice_same (is_unfit (value_at n old.rows) buf) n buf old
done_same ticket.Extents buf old = record { read = refl; written = refl; zeroed = refl; flushing = refl }
done_same ticket.Flush buf old = record { read = refl; written = refl; zeroed = refl; flushing = refl }

completed_same : (well : Bool) (by : Ticket) (error : ℕ) (buf : List ℕ) (old : board.Seen) → CountsAlike old (if well then filed_done by buf old else record old { error = content_first old.error error })
completed_same true by error buf old = done_same by buf old
completed_same false by error buf old = record { read = refl; written = refl; zeroed = refl; flushing = refl }

hears_same : (is : Bool) (entries : List Extent) (old new : board.Seen) → Hears is entries old new → CountsAlike old new
hears_same true entries old new (inl e) = subst (CountsAlike old) (sym e.1) (record { read = refl; written = refl; zeroed = refl; flushing = refl })
hears_same true entries old new (inr e) = subst (CountsAlike old) (sym e) (record { read = refl; written = refl; zeroed = refl; flushing = refl })
hears_same false entries old new e = same_is old new e

call_same : (old new : board.Seen) (call : Call Ticket) → Files old call new → CountsAlike old new
call_same old new (Chunk by bytes offset status error heard) f = same_is old new f.1
call_same old new (Extents by context offset entries error heard) f = hears_same (is_map by context) entries old new f.1
call_same old new (Complete by error buf verdict) f = subst (CountsAlike old) (sym f.1) (completed_same (error == 0) by error buf old)
call_same old new (Free by) f = same_is old new f

pub calls_same : (calls : List (Call Ticket)) (old new : board.Seen) → OneByOne Files old calls new → CountsAlike old new
calls_same [] old new done = same_is old new done
calls_same (call ∷ calls) old new done = same_then old done.0 new (call_same old done.0 call done.1.0) (calls_same calls done.0 new done.1.1)

-- Then the counts stand for lists of which the same is counted,
pub counted_totals : (now now' : board.Seen) (source destination source' destination' : List Request) → CountsAlike now now' →
    ((weight : Command Nobody → ℕ) → total weight source ≡ total weight source') →
    ((weight : Command Nobody → ℕ) → total weight destination ≡ total weight destination') → IsCounted now source destination → IsCounted now' source' destination'
counted_totals now now' source destination source' destination' same reads changes k = record {
  read = same.read ∙ k.read ∙ ap up_to_end (reads (λ command. cond (is_read command.kind) command.length 0));
  written = same.written ∙ k.written ∙ ap up_to_end (changes (λ command. cond (is_write command.kind) command.length 0));
  zeroed = same.zeroed ∙ k.zeroed ∙ ap up_to_end (changes (λ command. cond (is_zero command.kind) command.length 0));
  flushes = sym (changes (λ command. cond (is_flush command.kind) 1 0)) ∙ k.flushes ∙ ap (λ (b : Bool). cond b 1 0) (sym same.flushing);
}

-- as of lists that ask alike,
pub counted_alike : (now now' : board.Seen) (source destination source' destination' : List Request) → CountsAlike now now' → AskAlike source source' → AskAlike destination destination' →
    IsCounted now source destination → IsCounted now' source' destination'
counted_alike now now' source destination source' destination' same reads changes k =
    counted_totals now now' source destination source' destination' same (λ weight. same_total weight source source' reads) (λ weight. same_total weight destination destination' changes) k

-- and for the same lists.
pub counted_same : (now now' : board.Seen) (source destination : List Request) → CountsSame now now' → IsCounted now source destination → IsCounted now' source destination
counted_same now now' source destination same k = record { read = same.read ∙ k.read; written = same.written ∙ k.written; zeroed = same.zeroed ∙ k.zeroed; flushes = k.flushes ∙ ap (λ (b : Bool). cond b 1 0) (sym same.flushing) }

-- A request more.

pub total_asking : (weight : Command Nobody → ℕ) (link cookie : ℕ) (by : Ticket) (command : Command Nobody) (xs : List Request) → total weight (asking link cookie by command xs) ≡ total weight xs + weight command
total_asking weight link cookie by command [] = omega arith
total_asking weight link cookie by command (x ∷ xs) = let e = total_asking weight link cookie by command xs in omega (arith, e)

pub bytes_asking : (counts : Kind → Bool) (link cookie : ℕ) (by : Ticket) (command : Command Nobody) (xs : List Request) → bytes_of counts (asking link cookie by command xs) ≡ bytes_of counts xs + cond (counts command.kind) command.length 0
bytes_asking counts link cookie by command xs = total_asking (λ command. cond (counts command.kind) command.length 0) link cookie by command xs

more_up_to : (end old n a b new : ℕ) → new ≡ min (old + n) end → old ≡ min a end → b ≡ a + n → new ≡ min b end
more_up_to end old n a b new e f g = omega (arith, e, f, g)

pub count_more : (old n a b new : ℕ) → new ≡ risen old n → old ≡ up_to_end a → b ≡ a + n → new ≡ up_to_end b
count_more old n a b new e f g = more_up_to 18446744073709551615 old n a b new e f g

none_more : (a b : ℕ) → b ≡ a → b ≡ a + 0
none_more a b e = omega (arith, e)

pub count_none : (old a b new : ℕ) → new ≡ risen old 0 → old ≡ up_to_end a → b ≡ a → new ≡ up_to_end b
count_none old a b new e f g = count_more old 0 a b new e f (none_more a b g)

no_more : (a : ℕ) → a + 0 ≡ a
no_more a = omega arith

-- a request that isn't counted
pub bytes_beside : (counts : Kind → Bool) (link cookie : ℕ) (by : Ticket) (command : Command Nobody) (xs : List Request) → counts command.kind ≡ false → bytes_of counts (asking link cookie by command xs) ≡ bytes_of counts xs
bytes_beside counts link cookie by command xs not = bytes_asking counts link cookie by command xs ∙ ap (λ (b : Bool). bytes_of counts xs + cond b command.length 0) not ∙ no_more (bytes_of counts xs)

-- A request that is none of FLUSH leaves what is known of it.
pub flushes_beside : (now now' : board.Seen) (link cookie : ℕ) (by : Ticket) (command : Command Nobody) (xs : List Request) → is_flush command.kind ≡ false → now'.flushing ≡ now.flushing → flushes_of xs ≡ cond now.flushing 1 0 →
    flushes_of (asking link cookie by command xs) ≡ cond now'.flushing 1 0
flushes_beside now now' link cookie by command xs not same k =
    total_asking (λ c. cond (is_flush c.kind) 1 0) link cookie by command xs ∙ ap (λ (b : Bool). flushes_of xs + cond b 1 0) not ∙ no_more (flushes_of xs) ∙ k ∙ ap (λ (b : Bool). cond b 1 0) (sym same)

-- The first FLUSH is known.
pub flushes_first : (now now' : board.Seen) (link cookie : ℕ) (by : Ticket) (command : Command Nobody) (xs : List Request) → is_flush command.kind ≡ true → now.flushing ≡ false → now'.flushing ≡ true → flushes_of xs ≡ cond now.flushing 1 0 →
    flushes_of (asking link cookie by command xs) ≡ cond now'.flushing 1 0
flushes_first now now' link cookie by command xs is none one k =
    total_asking (λ c. cond (is_flush c.kind) 1 0) link cookie by command xs ∙ ap (λ (b : Bool). flushes_of xs + cond b 1 0) is ∙ ap (λ (n : ℕ). n + 1) (k ∙ ap (λ (b : Bool). cond b 1 0) none) ∙ ap (λ (b : Bool). cond b 1 0) (sym one)

-- Before a slice is begun.

no_bytes : (counts : Kind → Bool) (P : Request → Type 0) → ((r : Request) → P r → counts r.said.command.kind ≡ false) → (xs : List Request) → Each P xs → bytes_of counts xs ≡ 0
no_bytes counts P none [] each = refl
no_bytes counts P none (x ∷ xs) each =
    let rest = no_bytes counts P none xs each.1 in
    let e : cond (counts x.said.command.kind) x.said.command.length 0 ≡ 0 = ap (λ (b : Bool). cond b x.said.command.length 0) (none x each.0) in
    omega (arith, rest, e)

none_begun : (n : ℕ) → n < 0 → ⊥
none_begun n l = omega (arith, l)

look_counts_none : (by : Ticket) (command : Command Nobody) → AsksOfSource [] by command → is_read command.kind ≡ false
look_counts_none (ticket.Slice n) command asks = absurd (none_begun n asks.1.begun)
look_counts_none ticket.Extents command asks = ap is_read asks.0
look_counts_none ticket.Flush command asks = absurd asks

store_counts_none : (counts : Kind → Bool) (how : How) (by : Ticket) (command : Command Nobody) → counts Flush ≡ false → AsksOfDestination how [] by command → counts command.kind ≡ false
store_counts_none counts how (ticket.Slice n) command not asks = absurd (none_begun n asks.1.begun)
store_counts_none counts how ticket.Extents command not asks = absurd asks
store_counts_none counts how ticket.Flush command not asks = ap counts asks.0 ∙ not

pub nothing_counted : (how : How) (rows : List (ℕ × Row)) (now : board.Seen) (source destination : List Request) → Stands how [] rows source destination → flushes_of destination ≡ 0 → HasNotCounted now → IsCounted now source destination
nothing_counted how rows now source destination stands unflushed none = record {
  read = none.read ∙ ap up_to_end (sym (no_bytes is_read (λ r. AsksOfSource [] r.ticket r.said.command) (λ r asks. look_counts_none r.ticket r.said.command asks) source stands.reads));
  written = none.written ∙ ap up_to_end (sym (no_bytes is_write (λ r. AsksOfDestination how [] r.ticket r.said.command) (λ r asks. store_counts_none is_write how r.ticket r.said.command refl asks) destination stands.changes));
  zeroed = none.zeroed ∙ ap up_to_end (sym (no_bytes is_zero (λ r. AsksOfDestination how [] r.ticket r.said.command) (λ r asks. store_counts_none is_zero how r.ticket r.said.command refl asks) destination stands.changes));
  flushes = unflushed ∙ ap (λ (b : Bool). cond b 1 0) (sym none.flushing);
}
