-- What a transcript says of an export follows from what its server did.
use Rattle.std.proofs.Common.{◌≡◌, ◌≢◌, ℕ, zero, suc, ◌+◌, ◌-◌, ◌<◌, ◌≤◌, ◌⊎◌, inl, inr, Bool, true, false, not, ◌&&◌, ◌||◌, List, [], ◌∷◌, length, get_or, Option, Some, None, ◌==◌, nat_le, refl, ap, sym, subst, ◌∙◌, arith, if◌then◌else◌}
use Rattle.std.specs.Option.{option_map}
use Rattle.std.proofs.lemmas.Bool.Decides.{nat_tests}
use Rattle.std.proofs.lemmas.List.{get_or_past}
use Rattle.lnbd_model.specs.Errors.{error_of}
use Rattle.lnbd_model.specs.declared.export.Context.{Context as MetaContext}
use Rattle.lnbd_model.specs.declared.failure.Failure.{Failure}
use Rattle.lnbd_model.specs.declared.failure.Origin.{Origin}
use Rattle.lnbd_model.specs.declared.failure.Origin.TheVariants as from
use Rattle.lnbd_model.specs.declared.kind.Kind.{Kind}
use Rattle.lnbd_model.specs.declared.kind.Kind.TheVariants as kind
use Rattle.lnbd_records.specs.Content.{Content, Data, Hole, Status, Error, ErrorAt, Nothing, Bare}
use Rattle.lnbd_records.specs.Numbers.{has_bit}
use Rattle.lnbd_extents.specs.Lists.{flags_at}
use Rattle.lnbd_extents.specs.Positions.{within}
use Rattle.lnbd_outcome.specs.Pieces.{Query, Piece, content_of, number_of}
use Rattle.lnbd_outcome.specs.Faults.{has_fault, byte_told, context_of}
use Rattle.lnbd_outcome.specs.Outcome.{Outcome, Unfinished, Done, failing, or_else, item_failure, failure, each, bytes, verdict, outcome, error_number, buffer}
use Rattle.lnbd_history.specs.Commands.{Command, Request, query_of}
use Rattle.lnbd_history.specs.Entries.{Item, Framed, Lost, Dropped, Filing, own}
use Rattle.lnbd_history.specs.History.{request}
use Rattle.lnbd_asked.specs.Link.{Nobody, Link}
use Rattle.lnbd_asked.specs.Transcript.{bare, asked_on, answered, outcome_of, extents_in, is_allocation, is_zero, zero_in, told_zero, zero_told, state_zero}
use Rattle.lnbd_asked.specs.Honest.{has}
use Rattle.lnbd_export.specs.Requests.{Refused, Content as Holding, Status as Telling}
use Rattle.lnbd_export.specs.Requests as made
use Rattle.lnbd_served.specs.Steps.{Step, Gave, Has}
use Rattle.lnbd_served.specs.Follows.{TellsReply, TellsZero, Came}
use Rattle.lnbd_served.proofs.Items.{Carries, IsTrue, OneFiled, AreFiled}

-- What one frame comes to.

or_none : (one two : Option Failure) → or_else one two ≡ None → (one ≡ None) × (two ≡ None)
or_none None two e = (refl, e)
or_none (Some f) two e = cc

abbrev failing_with : Origin → ℕ → Failure
failing_with origin n = record { origin = origin; error = n }

failing_none : (origin : Origin) (n : ℕ) → failing origin n ≡ None → (n == 0) ≡ true
failing_none origin n e = go (n == 0) e
  where
    go : (b : Bool) → (if b then None else Some (failing_with origin n)) ≡ None → b ≡ true
    go true e = refl
    go false e = cc

-- nothing is at fault, and no error was told
record IsWell (query : Query) (contexts : List MetaContext) (content : Content) : Type 0 where
  fault : has_fault query [] contexts content ≡ false
  error : (error_of (number_of content) == 0) ≡ true

item_well : (query : Query) (contexts : List MetaContext) (content : Content) (last : Bool) → item_failure query [] contexts (Framed content last) ≡ None → IsWell query contexts content
item_well query contexts content last e = go (has_fault query [] contexts content) refl e
  where
    go : (b : Bool) → has_fault query [] contexts content ≡ b → (if b then failing from.Content 71 else failing from.Told (error_of (number_of content))) ≡ None → IsWell query contexts content
    go true w e = let bad : false ≡ true = failing_none from.Content 71 e in cc
    go false w e = record { fault = w; error = failing_none from.Told (error_of (number_of content)) e }

done_is : (f : Option Failure) (one other : List ℕ) → verdict f one ≡ Done other → (f ≡ None) × (one ≡ other)
done_is None one other e = (refl, cc)
done_is (Some f) one other e = cc

abbrev one_piece : (contexts : List MetaContext) → Item → List Piece
one_piece contexts item = record { item = item; contexts = contexts; heard = 0 } ∷ []

within_low : (o n p : ℕ) → within (o, n) p ≡ true → o ≤ p
within_low o n p e = grind (arith, nat_tests)

within_high : (o n p : ℕ) → within (o, n) p ≡ true → p < o + n
within_high o n p e = grind (arith, nat_tests)

within_past : (o n p : ℕ) → o ≤ p → within (o, n) p ≡ false → n ≤ p - o
within_past o n p low e = grind (arith, nat_tests)

-- a read's byte
each_at : (f : ℕ → ℕ) (o n i : ℕ) → i < n → get_or (each f o n) i 0 ≡ f (o + i)
each_at f o zero i less = absurd (omega (arith, less))
each_at f o (suc n) zero less = ap f (omega arith)
each_at f o (suc n) (suc i) less = each_at f (o + 1) n i (omega (arith, less)) ∙ ap f (omega arith)

read_byte : (query : Query) (contexts : List MetaContext) (held : List ℕ) (p : ℕ) → query.offset ≤ p → has_fault query [] contexts (Data query.offset held) ≡ false → byte_told query (one_piece contexts (Framed (Data query.offset held) true)) p ≡ get_or held (p - query.offset) 0
read_byte query contexts held p low fault = ap (λ (b : Bool). if within (query.offset, length held) p && not b then get_or held (p - query.offset) 0 else 0) fault ∙ go (within (query.offset, length held) p) refl
  where
    go : (b : Bool) → within (query.offset, length held) p ≡ b → (if b && not false then get_or held (p - query.offset) 0 else 0) ≡ get_or held (p - query.offset) 0
    go true w = refl
    go false w = let past = within_past query.offset (length held) p low w in sym (get_or_past held (p - query.offset) 0 past)

if_zero : (b : Bool) (one other : ℕ) → one ≡ 0 → other ≡ 0 → (if b then one else other) ≡ 0
if_zero true one other e f = e
if_zero false one other e f = f

no_byte : (query : Query) (contexts : List MetaContext) (p : ℕ) → byte_told query (one_piece contexts (Framed Nothing true)) p ≡ 0
no_byte query contexts p = if_zero _ (get_or (let none : List ℕ = [] in none) (p - 0) 0) 0 (get_or_past [] (p - 0) 0 (omega arith)) refl

-- the outcome of one item alone
abbrev comes_to : Request Nobody → List MetaContext → Item → Outcome
comes_to q contexts item = outcome (query_of q) (one_piece contexts item)

-- what a frame that carries a reply tells of it, where the outcome is done
tells_reply : (q : Request Nobody) (contexts : List MetaContext) (content : Content) (given : made.Reply) (all : List ℕ) → Carries q.offset given content → comes_to q contexts (Framed content true) ≡ Done all → TellsReply (bare q) all given
tells_reply q contexts content given all c e = record { allowed = allowed; content = holds }
  where
    parts : (failure (query_of q) (one_piece contexts (Framed content true)) ≡ None) × (bytes (query_of q) (one_piece contexts (Framed content true)) ≡ all)
    parts = done_is (failure (query_of q) (one_piece contexts (Framed content true))) (bytes (query_of q) (one_piece contexts (Framed content true))) all e

    well : IsWell (query_of q) contexts content
    well = item_well (query_of q) contexts content true (or_none _ _ (or_none _ _ parts.0).0).0

    allowed : (error : ℕ) → given ≢ Refused error
    allowed error is =
        let r = c.refused error is in
        let same : (error_of error == 0) ≡ true = ap (λ (x : Content). error_of (number_of x) == 0) (sym r.0) ∙ well.error in
        let bad : false ≡ true = sym r.1 ∙ same in cc

    byte_is : (held : List ℕ) (p : ℕ) → q.offset ≤ p → (content ≡ Data q.offset held) ⊎ ((content ≡ Nothing) × (held ≡ [])) → byte_told (query_of q) (one_piece contexts (Framed content true)) p ≡ get_or held (p - q.offset) 0
    byte_is held p low (inl is) = ap (λ (x : Content). byte_told (query_of q) (one_piece contexts (Framed x true)) p) is
        ∙ read_byte (query_of q) contexts held p low (ap (has_fault (query_of q) [] contexts) (sym is) ∙ well.fault)
    byte_is held p low (inr (is, none)) = ap (λ (x : Content). byte_told (query_of q) (one_piece contexts (Framed x true)) p) is ∙ no_byte (query_of q) contexts p
        ∙ sym (ap (λ (xs : List ℕ). get_or xs (p - q.offset) 0) none ∙ get_or_past [] (p - q.offset) 0 (omega arith))

    holds : (held : List ℕ) (p : ℕ) → q.kind ≡ kind.Read → given ≡ Holding held → has (bare q) p ≡ true → get_or all (p - q.offset) 0 ≡ get_or held (p - q.offset) 0
    holds held p reads is in_it =
        let low = within_low q.offset q.length p in_it in
        let high = within_high q.offset q.length p in_it in
        let at : q.offset + (p - q.offset) ≡ p = omega arith in
        let told : bytes (query_of q) (one_piece contexts (Framed content true)) ≡ each (byte_told (query_of q) (one_piece contexts (Framed content true))) q.offset q.length =
        ap (λ (k : Kind). buffer k q.length q.payload (error_number (failure (query_of q) (one_piece contexts (Framed content true)))) (each (byte_told (query_of q) (one_piece contexts (Framed content true))) q.offset q.length)) reads
        ∙ ap (λ (f : Option Failure). buffer kind.Read q.length q.payload (error_number f) (each (byte_told (query_of q) (one_piece contexts (Framed content true))) q.offset q.length)) parts.0 in
        ap (λ (xs : List ℕ). get_or xs (p - q.offset) 0) (sym parts.1 ∙ told) ∙ each_at (byte_told (query_of q) (one_piece contexts (Framed content true))) q.offset q.length (p - q.offset) (omega (arith, low, high))
        ∙ ap (byte_told (query_of q) (one_piece contexts (Framed content true))) at ∙ byte_is held p low (c.data_ held is)

-- What the one item that was filed says.

tells_item : (steps : List Step) (l cookie : ℕ) (q : Request Nobody) (contexts : List MetaContext) (item : Item) (all : List ℕ) → IsTrue steps l cookie q.offset item → comes_to q contexts item ≡ Done all → Came steps l cookie (TellsReply (bare q) all)
tells_item steps l cookie q contexts (Framed content last) all t e = record {
  given = t.1;
  was = t.2;
  is = tells_reply q contexts content t.1 all t.3 (ap (λ (b : Bool). comes_to q contexts (Framed content b)) (sym t.0) ∙ e);
}
tells_item steps l cookie q contexts Lost all t e = cc
tells_item steps l cookie q contexts Dropped all t e = cc

-- a position that is told as zero
zero_flags : (o p : ℕ) (v : Option ℕ) → nat_le o p && is_zero v ≡ true → (flags : ℕ) × (v ≡ Some flags) × (has_bit state_zero flags ≡ true)
zero_flags o p v e = go (nat_le o p) v e
  where
    go : (b : Bool) (w : Option ℕ) → b && is_zero w ≡ true → (flags : ℕ) × (w ≡ Some flags) × (has_bit state_zero flags ≡ true)
    go true (Some flags) e = (flags, refl, e)
    go true None e = cc
    go false w e = cc

or_false : (b : Bool) → b || false ≡ true → b ≡ true
or_false true e = refl
or_false false e = e

tells_zero : (steps : List Step) (l cookie : ℕ) (q : Request Nobody) (contexts : List MetaContext) (content : Content) (given : made.Reply) (p : ℕ) → Carries q.offset given content → Has (Gave l cookie given) steps → zero_in q.offset (extents_in contexts content) p ≡ true → Came steps l cookie (TellsZero (bare q) p)
tells_zero steps l cookie q contexts (Status id ds) given p c h e = go (is_allocation (context_of id contexts)) e
  where
    go : (b : Bool) → zero_in q.offset (if b then ds else []) p ≡ true → Came steps l cookie (TellsZero (bare q) p)
    go true e = let z = zero_flags q.offset p (flags_at ds (p - q.offset)) e in record { given = given; was = h; is = record { descriptors = ds; is = c.status id ds refl; flags = z.0; there = z.1; zero = z.2 } }
    go false e = let z = zero_flags q.offset p None e in let bad : None ≡ Some z.0 = z.1 in cc
tells_zero steps l cookie q contexts (Data o bs) given p c h e = let z = zero_flags q.offset p None e in let bad : None ≡ Some z.0 = z.1 in cc
tells_zero steps l cookie q contexts (Hole o n) given p c h e = let z = zero_flags q.offset p None e in let bad : None ≡ Some z.0 = z.1 in cc
tells_zero steps l cookie q contexts (Error n) given p c h e = let z = zero_flags q.offset p None e in let bad : None ≡ Some z.0 = z.1 in cc
tells_zero steps l cookie q contexts (ErrorAt n o) given p c h e = let z = zero_flags q.offset p None e in let bad : None ≡ Some z.0 = z.1 in cc
tells_zero steps l cookie q contexts Nothing given p c h e = let z = zero_flags q.offset p None e in let bad : None ≡ Some z.0 = z.1 in cc
tells_zero steps l cookie q contexts Bare given p c h e = let z = zero_flags q.offset p None e in let bad : None ≡ Some z.0 = z.1 in cc

zero_item : (steps : List Step) (l cookie : ℕ) (q : Request Nobody) (contexts : List MetaContext) (item : Item) (p : ℕ) → IsTrue steps l cookie q.offset item → zero_in q.offset (extents_in contexts (content_of item)) p ≡ true → Came steps l cookie (TellsZero (bare q) p)
zero_item steps l cookie q contexts (Framed content last) p t e = tells_zero steps l cookie q contexts content t.1 p t.3 t.2 e
zero_item steps l cookie q contexts Lost p t e = let z = zero_flags q.offset p None e in let bad : None ≡ Some z.0 = z.1 in cc
zero_item steps l cookie q contexts Dropped p t e = let z = zero_flags q.offset p None e in let bad : None ≡ Some z.0 = z.1 in cc

some_request : (one other : Request Nobody) → Some one ≡ Some other → one ≡ other
some_request one other e = cc

some_command : (one other : Command Nobody) → Some one ≡ Some other → one ≡ other
some_command one other e = cc

-- what is known of a link under a cookie
module _ (steps : List Step) (l : ℕ) (known : Link) (filed : AreFiled steps l known) (cookie : ℕ) where
  asked_as : (asks : Command Nobody) → asked_on known cookie ≡ Some asks → (q : Request Nobody) × (request known.requests cookie ≡ Some q) × (bare q ≡ asks)
  asked_as asks e = go (request known.requests cookie) refl e
    where
      go : (v : Option (Request Nobody)) → request known.requests cookie ≡ v → option_map bare v ≡ Some asks → (q : Request Nobody) × (request known.requests cookie ≡ Some q) × (bare q ≡ asks)
      go None w e = cc
      go (Some q) w e = (q, w, some_command (bare q) asks e)

  pub done_came : (asks : Command Nobody) (all : List ℕ) → asked_on known cookie ≡ Some asks → answered known cookie ≡ Done all → Came steps l cookie (TellsReply asks all)
  done_came asks all asked done = go (filed cookie)
    where
      go : ((own cookie known.heard.entries ≡ []) ⊎ OneFiled steps l known cookie) → Came steps l cookie (TellsReply asks all)
      go (inl none) =
          let bad : Unfinished ≡ Done all = sym (ap (λ (v : Option (Request Nobody)). outcome_of v (own cookie known.heard.entries)) (asked_as asks asked).1 ∙ ap (λ (fs : List (Filing Nobody)). outcome_of (Some (asked_as asks asked).0) fs) none) ∙ done in cc
      go (inr one) =
          let same : one.filing.request ≡ (asked_as asks asked).0 = some_request one.filing.request (asked_as asks asked).0 (sym one.request_ ∙ (asked_as asks asked).1) in
          let is : comes_to one.filing.request one.filing.contexts one.filing.item ≡ Done all =
          sym (ap (λ (v : Option (Request Nobody)). outcome_of v (own cookie known.heard.entries)) one.request_ ∙ ap (λ (fs : List (Filing Nobody)). outcome_of (Some one.filing.request) fs) one.only) ∙ done in
          subst (λ (a : Command Nobody). Came steps l cookie (TellsReply a all)) (ap bare same ∙ (asked_as asks asked).2) (tells_item steps l cookie one.filing.request one.filing.contexts one.filing.item all one.true_ is)

  pub zero_came : (asks : Command Nobody) (p : ℕ) → asked_on known cookie ≡ Some asks → told_zero known cookie p ≡ true → Came steps l cookie (TellsZero asks p)
  zero_came asks p asked tells = go (filed cookie)
    where
      go : ((own cookie known.heard.entries ≡ []) ⊎ OneFiled steps l known cookie) → Came steps l cookie (TellsZero asks p)
      go (inl none) =
          let bad : false ≡ true = sym (ap (λ (v : Option (Request Nobody)). zero_told v (own cookie known.heard.entries) p) (asked_as asks asked).1 ∙ ap (λ (fs : List (Filing Nobody)). zero_told (Some (asked_as asks asked).0) fs p) none) ∙ tells in cc
      go (inr one) =
          let same : one.filing.request ≡ (asked_as asks asked).0 = some_request one.filing.request (asked_as asks asked).0 (sym one.request_ ∙ (asked_as asks asked).1) in
          let is : zero_in one.filing.request.offset (extents_in one.filing.contexts (content_of one.filing.item)) p || false ≡ true =
          sym (ap (λ (v : Option (Request Nobody)). zero_told v (own cookie known.heard.entries) p) one.request_ ∙ ap (λ (fs : List (Filing Nobody)). zero_told (Some one.filing.request) fs p) one.only) ∙ tells in
          subst (λ (a : Command Nobody). Came steps l cookie (TellsZero a p)) (ap bare same ∙ (asked_as asks asked).2)
          (zero_item steps l cookie one.filing.request one.filing.contexts one.filing.item p one.true_ (or_false _ is))
