-- What is asked of rules, and what then holds of every stream.
use Rattle.std.specs.Prelude.{◌≡◌, ℕ, ◌+◌, ◌<◌, ◌≤◌, Bool, List, [], ◌∷◌, ◌++◌, length, take, drop, Option, Some, None}
use Rattle.std.specs.List.{flat_map}
use Rattle.lnbd_stream.specs.Stream.{Rules, Held, fresh, feed, trace, spelled, things}
use Rattle.lnbd_stream.specs.Grammar.{once, wants, each_byte, rules_by_place, Stays, Reads, Decides, Fits, Sized}

-- What is shown stays, whatever follows, and no bytes show nothing.
pub record Steady {S R : Type 0} (rules : Rules S R) : Type 0 where
  pub stays : (known : S) (bytes more : List ℕ) (found : R) → rules.shows known bytes ≡ Some found → rules.shows known (bytes ++ more) ≡ Some found
  pub none : (known : S) → rules.shows known [] ≡ None

-- a thing shown at the end of these bytes, and not before
pub record Front {S R : Type 0} (rules : Rules S R) (known : S) (front : List ℕ) (found : R) : Type 0 where
  pub shown : rules.shows known front ≡ Some found
  pub first : (bytes more : List ℕ) (byte : ℕ) → bytes ++ byte ∷ more ≡ front → rules.shows known bytes ≡ None

-- The bytes are fronts that show these things, one after another, and then a rest that shows nothing.
abbrev pub Cuts : {S R : Type 0} → Rules S R → S → List ℕ → List R → S → List ℕ → Type 0
Cuts rules known bytes [] after rest = (known ≡ after) × (bytes ≡ rest) × (rules.shows after rest ≡ None)
Cuts rules known bytes (found ∷ records) after rest =
    (front more : List ℕ) × (bytes ≡ front ++ more) × Front rules known front found × Cuts rules (rules.enter found known) more records after rest

-- two ways of knowing to which the same is shown, and that stay alike
pub record Alike {S T R : Type 0} (left : Rules S R) (right : Rules T R) (Same : S → T → Type 0) : Type 0 where
  pub shows : (a : S) (b : T) (bytes : List ℕ) → Same a b → left.shows a bytes ≡ right.shows b bytes
  pub enter : (a : S) (b : T) (bytes : List ℕ) (found : R) → Same a b → right.shows b bytes ≡ Some found → Same (left.enter found a) (right.enter found b)

-- a fact that lasts
abbrev pub Lasts : {S R : Type 0} → Rules S R → (S → Type 0) → Type 0
Lasts {S} {R} rules P = (a : S) (bytes : List ℕ) (found : R) → P a → rules.shows a bytes ≡ Some found → P (rules.enter found a)

-- Where the fact holds, each byte by itself shows this, and the fact goes on.
pub record Passes {S R : Type 0} (rules : Rules S R) (shown : S → R) (P : S → Type 0) : Type 0 where
  pub shows : (a : S) (byte : ℕ) → P a → rules.shows a (byte ∷ []) ≡ Some (shown a)
  pub lasts : (a : S) → P a → P (rules.enter (shown a) a)

-- what is known after so many bytes were passed over
abbrev pub after_passing : {S R : Type 0} → Rules S R → (S → R) → List ℕ → S → S
after_passing rules shown [] known = known
after_passing rules shown (byte ∷ bytes) known = after_passing rules shown bytes (rules.enter (shown known) known)

-- each of these is shown by its bytes, and not before, after those in front of it
abbrev pub Fronts : {S R Q : Type 0} → Rules S R → (Q → R) → (Q → List ℕ) → S → List Q → Type 0
Fronts rules shown encode known [] = Unit {0}
Fronts rules shown encode known (one ∷ more) = Front rules known (encode one) (shown one) × Fronts rules shown encode (rules.enter (shown one) known) more

-- what is known after all of these
abbrev pub after_all : {S R Q : Type 0} → Rules S R → (Q → R) → List Q → S → S
after_all rules shown [] known = known
after_all rules shown (one ∷ more) known = after_all rules shown more (rules.enter (shown one) known)

-- less than the first of these is held, and nothing where there is none
abbrev pub IsPart : {Q : Type 0} → (Q → List ℕ) → List ℕ → List Q → Type 0
IsPart encode pending [] = pending ≡ []
IsPart encode pending (one ∷ more) = length pending < length (encode one)

-- The reader has entered the first of these, in order; what it holds and what is still to come are the bytes of the rest.
pub record ReadSoFar {S R Q : Type 0} (rules : Rules S R) (shown : Q → R) (encode : Q → List ℕ) (known : S) (all : List Q) (after : Held S) (coming : List ℕ) : Type 0 where
  pub front : List Q
  pub rest : List Q
  pub split : all ≡ front ++ rest
  pub knows : after.known ≡ after_all rules shown front known
  pub left : after.pending ++ coming ≡ flat_map encode rest
  pub part : IsPart encode after.pending rest

-- The laws of any stream

-- How bytes are cut into pieces changes nothing.
abbrev pub TwoPartsFeedAsOne : Type 0 → Type 0 → Type 0
TwoPartsFeedAsOne S R = (rules : Rules S R) (held : Held S) (first second : List ℕ) → feed rules held (first ++ second) ≡ feed rules (feed rules held first) second

-- No byte is lost and none is taken twice: what was held and came is what was shown, one after another, and what is held.
abbrev pub NoByteIsLost : Type 0 → Type 0 → Type 0
NoByteIsLost S R = (rules : Rules S R) (held : Held S) (bytes : List ℕ) → held.pending ++ bytes ≡ spelled (trace rules held bytes) ++ (feed rules held bytes).pending

-- Two ways of knowing to which the same is shown stay alike and hold the same bytes.
abbrev pub AlikeStayAlike : (S T R : Type 0) → (S → T → Type 0) → Type 0
AlikeStayAlike S T R Same = (left : Rules S R) (right : Rules T R) → Alike left right Same →
    (a : Held S) (b : Held T) (bytes : List ℕ) → Same a.known b.known → a.pending ≡ b.pending →
    Same (feed left a bytes).known (feed right b bytes).known × ((feed left a bytes).pending ≡ (feed right b bytes).pending)

-- They are shown the same things, by the same bytes.
abbrev pub AlikeAreShownTheSame : (S T R : Type 0) → (S → T → Type 0) → Type 0
AlikeAreShownTheSame S T R Same = (left : Rules S R) (right : Rules T R) → Alike left right Same →
    (a : Held S) (b : Held T) (bytes : List ℕ) → Same a.known b.known → a.pending ≡ b.pending → trace left a bytes ≡ trace right b bytes

-- A fact that each thing shown keeps holds after any bytes.
abbrev pub FactsLast : (S R : Type 0) → (S → Type 0) → Type 0
FactsLast S R P = (rules : Rules S R) → Lasts rules P → (held : Held S) (bytes : List ℕ) → P held.known → P (feed rules held bytes).known

-- Where no bytes show nothing, the bytes that are held show nothing.
abbrev pub HeldBytesShowNothing : Type 0 → Type 0 → Type 0
HeldBytesShowNothing S R = (rules : Rules S R) → ((known : S) → rules.shows known [] ≡ None) → (held : Held S) (bytes : List ℕ) →
    rules.shows held.known held.pending ≡ None → rules.shows (feed rules held bytes).known (feed rules held bytes).pending ≡ None

-- Bytes that are passed over one by one are entered one by one, and none is held.
abbrev pub PassedOneByOne : (S R : Type 0) → (S → Type 0) → Type 0
PassedOneByOne S R P = (rules : Rules S R) (shown : S → R) → Passes rules shown P → (known : S) (bytes : List ℕ) → P known →
    feed rules (fresh known) bytes ≡ fresh (after_passing rules shown bytes known)

-- The laws of steady streams

-- Bytes that show a thing have a front that shows it first, which is entered.
abbrev pub WhatIsShownHasAFront : Type 0 → Type 0 → Type 0
WhatIsShownHasAFront S R = (rules : Rules S R) → Steady rules → (known : S) (bytes : List ℕ) (found : R) → rules.shows known bytes ≡ Some found →
    (front more : List ℕ) × (bytes ≡ front ++ more) × Front rules known front found × (feed rules (fresh known) bytes ≡ feed rules (fresh (rules.enter found known)) more)

-- A thing of a size that is shown at bytes of that size is shown there first.
abbrev pub SizeMakesAFront : Type 0 → Type 0 → Type 0
SizeMakesAFront S R = (rules : Rules S R) → Steady rules → (size : R → ℕ) → ((known : S) → Sized size (rules.shows known)) →
    (known : S) (front : List ℕ) (found : R) → rules.shows known front ≡ Some found → length front ≤ size found → Front rules known front found

-- A cut of the bytes into fronts is there: what is traced, and what is held.
abbrev pub TheTraceCuts : Type 0 → Type 0 → Type 0
TheTraceCuts S R = (rules : Rules S R) → Steady rules → (known : S) (bytes : List ℕ) →
    Cuts rules known bytes (things (trace rules (fresh known) bytes)) (feed rules (fresh known) bytes).known (feed rules (fresh known) bytes).pending

-- However the bytes are cut into fronts, that cut is what is taken of them, and its things are those that are shown.
abbrev pub AnyCutIsTaken : Type 0 → Type 0 → Type 0
AnyCutIsTaken S R = (rules : Rules S R) → Steady rules → (records : List R) (known after : S) (bytes rest : List ℕ) → Cuts rules known bytes records after rest →
    feed rules (fresh known) bytes ≡ record { known = after; pending = rest }

abbrev pub AnyCutIsShown : Type 0 → Type 0 → Type 0
AnyCutIsShown S R = (rules : Rules S R) → Steady rules → (records : List R) (known after : S) (bytes rest : List ℕ) → Cuts rules known bytes records after rest →
    things (trace rules (fresh known) bytes) ≡ records

-- What is written one after another is read one after another, however it is cut.
abbrev pub WhatIsWrittenIsRead : Type 0 → Type 0 → Type 0 → Type 0
WhatIsWrittenIsRead S R Q = (rules : Rules S R) (shown : Q → R) (encode : Q → List ℕ) → ((one : Q) → 0 < length (encode one)) →
    (known : S) (pending bytes coming : List ℕ) (all : List Q) → pending ++ (bytes ++ coming) ≡ flat_map encode all → Fronts rules shown encode known all → IsPart encode pending all →
    ReadSoFar rules shown encode known all (feed rules (record { known = known; pending = pending }) bytes) coming

-- The laws of the words of grammars

-- What is shown stays: word by word, and for a choice by what the first bytes say, and for the bytes after the first ones.

abbrev pub OnceStays : Type 0 → Type 0
OnceStays R = (m n : ℕ) (shows : List ℕ → Option R) → Stays n shows → Stays m (λ bytes. once n bytes (shows bytes))

abbrev pub WantsStays : Type 0 → Type 0
WantsStays R = (n : ℕ) (test : List ℕ → Bool) (fault : R) (shows : List ℕ → Option R) → Reads n test → Stays n shows → Stays n (λ bytes. wants (test bytes) fault (shows bytes))

abbrev pub ChoiceStays : Type 0 → Type 0 → Type 0
ChoiceStays A R = (n : ℕ) (read : List ℕ → A) (shows : A → List ℕ → Option R) → Reads n read → ((a : A) → Stays n (shows a)) → Stays n (λ bytes. shows (read bytes) bytes)

abbrev pub RestStays : Type 0 → Type 0
RestStays R = (m n : ℕ) (shows : List ℕ → Option R) → Stays n shows → Stays (m + n) (λ bytes. shows (drop m bytes))

abbrev pub EachByteStays : Type 0 → Type 0
EachByteStays R = (shown : R) → Stays 0 (each_byte shown)

-- So many bytes decide what is seen of a thing: word by word, if it asks for no more of them.

abbrev pub OnceDecides : Type 0 → Type 0 → Type 0
OnceDecides A R = (seen : Option R → A) (m n : ℕ) (shows : List ℕ → Option R) → m ≤ n → Decides seen n shows → Decides seen n (λ bytes. once m bytes (shows bytes))

abbrev pub WantsDecides : Type 0 → Type 0 → Type 0
WantsDecides A R = (seen : Option R → A) (n : ℕ) (test : List ℕ → Bool) (fault : R) (shows : List ℕ → Option R) → Reads n test → Decides seen n shows →
    Decides seen n (λ bytes. wants (test bytes) fault (shows bytes))

abbrev pub ChoiceDecides : Type 0 → Type 0 → Type 0 → Type 0
ChoiceDecides A B R = (seen : Option R → A) (n : ℕ) (read : List ℕ → B) (shows : B → List ℕ → Option R) → Reads n read → ((b : B) → Decides seen n (shows b)) →
    Decides seen n (λ bytes. shows (read bytes) bytes)

abbrev pub RestDecides : Type 0 → Type 0 → Type 0
RestDecides A R = (seen : Option R → A) (m n : ℕ) (shows : List ℕ → Option R) → Decides seen n shows → Decides seen (m + n) (λ bytes. shows (drop m bytes))

-- The bytes of a thing of which nothing more is seen needn't be there.
abbrev pub WholeDecides : Type 0 → Type 0 → Type 0
WholeDecides A R = (seen : Option R → A) (m n : ℕ) (shows : List ℕ → Option R) → ((bytes : List ℕ) → seen (shows bytes) ≡ seen None) → Decides seen n (λ bytes. once m bytes (shows bytes))

-- A part of the first bytes is read of them.
abbrev pub PartsAreRead : Type 0
PartsAreRead = (n start size : ℕ) → start + size ≤ n → Reads n (λ bytes. take size (drop start bytes))

-- Nothing greater than the bytes is shown: word by word.

abbrev pub OnceFits : Type 0 → Type 0
OnceFits R = (size : R → ℕ) (n : ℕ) (bytes : List ℕ) (shown : Option R) → (n ≤ length bytes → Fits size bytes shown) → Fits size bytes (once n bytes shown)

abbrev pub WantsFits : Type 0 → Type 0
WantsFits R = (size : R → ℕ) (bytes : List ℕ) (test : Bool) (fault : R) (shown : Option R) → size fault ≤ length bytes → Fits size bytes shown → Fits size bytes (wants test fault shown)

-- Rules are steady where the grammar of each place is.
abbrev pub PlacesAreSteady : Type 0 → Type 0 → Type 0 → Type 0
PlacesAreSteady S P R = (place : S → P) (grammar : P → S → List ℕ → Option R) (enter : R → S → S) →
    ((p : P) (known : S) → Stays 0 (grammar p known)) → ((p : P) (known : S) → grammar p known [] ≡ None) → Steady (rules_by_place place grammar enter)
