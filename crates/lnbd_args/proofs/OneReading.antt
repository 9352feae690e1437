-- Words ask for one thing at most, and each answer comes exactly where the grammar says.
use Rattle.std.proofs.Common.{◌≡◌, ◌∙◌, ◌⊎◌, inl, inr, ⊎_elim, ℕ, Bool, true, false, List, [], ◌∷◌, Option, Some, None, Result, Ok, Err, codes, refl, sym, ap, subst, true≢false}
use Rattle.std.specs.Prelude.{⊤, if◌then◌else◌, IfOk, IsErrOf, unwrap_or}
use Rattle.std.specs.Str.{bytes_eq}
use Rattle.lnbd_model.specs.declared.target.Place.{Place}
use Rattle.lnbd_uri.specs.Address.{IsAddress}
use Rattle.lnbd_uri.specs.declared.fault.UriFault.{UriFault}
use Rattle.lnbd_uri.proofs.AnswerLemmas.{address_has_no_fault, fault_once}
use Rattle.lnbd_uri.proofs.ReadingLemmas.{place_once}
use Rattle.lnbd_args.specs.declared.asked.Asked.{Asked}
use Rattle.lnbd_args.specs.declared.asked.Asked.TheVariants as asked
use Rattle.lnbd_store.specs.declared.serving.Content.{Content}
use Rattle.lnbd_store.specs.declared.serving.Content.TheVariants.{Made, File}
use Rattle.lnbd_store.specs.declared.side.Side.{Side}
use Rattle.lnbd_store.specs.declared.side.Side.TheVariants as side
use Rattle.lnbd_plan.specs.declared.options.CopyOptions.{CopyOptions}
use Rattle.lnbd_args.specs.declared.asked.Predicate.{Predicate}
use Rattle.lnbd_args.specs.declared.asked.Predicate.TheVariants.{IsReadOnly, IsRotational, IsTls, CanCache, CanDf, CanFastZero, CanFlush, CanFua, CanMultiConn, CanTrim, CanZero, CanWrite, CanRead, CanConnect, CanStructuredReply}
use Rattle.lnbd_args.specs.declared.asked.What.{What}
use Rattle.lnbd_args.specs.declared.asked.What.TheVariants as what
use Rattle.lnbd_args.specs.declared.fault.ArgsFault.{ArgsFault}
use Rattle.lnbd_args.specs.declared.fault.ArgsFault.TheVariants.{NoMemory, Usage, Uri}
use Rattle.lnbd_args.specs.Clap.{is_table}
use Rattle.lnbd_args.specs.Tools.{Asks, FirstFault, IsContext, IsCopyOptions, IsInfo, IsLength, IsMisplaced, IsNameOf, IsNumber, IsNumberOr, IsRange, IsServe, IsSideOf, IsSize, IsWhat, HasFile, Hosts, IsContent, Reads, Serves, Wanted, given_address, addresses, calls, chosen, copy, copy_rules, dump, dump_rules, info, info_rules, is_path, selftest, serve, serve_rules, with_map}
use Rattle.lnbd_args.specs.Words.{AreParts, Part, Rule, Word, is_given, places, value_of}
use Rattle.lnbd_args.proofs.InfoLemmas.{option_of}
use Rattle.lnbd_args.proofs.NumberLemmas.{number_once}
use Rattle.lnbd_args.proofs.ReadLemmas.{parts_once}
use Rattle.lnbd_args.proofs.ToolLemmas.{name_is, none_some, other_tool, rest_is, same_pair, some_is}
use Rattle.lnbd_args.proofs.RunLemmas.{split_once}
use Rattle.lnbd_args.proofs.SideLemmas.{kept, kept_word, left_word}

-- ---- numbers and options

number_or_once : (default : ℕ) (given : Option Word) (m n : ℕ) → IsNumberOr default given m → IsNumberOr default given n → m ≡ n
number_or_once default None m n h k = h ∙ sym k
number_or_once default (Some digits) m n h k = number_once digits m n h k

size_once : (given : Option Word) (m n : ℕ) → IsSize given m → IsSize given n → m ≡ n
size_once None m n h k = absurd h
size_once (Some digits) m n h k = number_once digits m n h.0 k.0

copy_options_once : (parts : List Part) (one two : CopyOptions) → IsCopyOptions parts one → IsCopyOptions parts two → one ≡ two
copy_options_once parts one two h k =
    let connections = number_or_once 4 _ _ _ h.connections.number k.connections.number in
    let requests = number_or_once 64 _ _ _ h.requests.number k.requests.number in
    let request_size = number_or_once 262144 _ _ _ h.request_size.0.number k.request_size.0.number in
    let sparse = number_or_once 4096 _ _ _ h.sparse.0.number k.sparse.0.number in
    let extents : one.extents ≡ two.extents = h.extents ∙ sym k.extents in
    let allocated : one.allocated ≡ two.allocated = h.allocated ∙ sym k.allocated in
    let zero : one.destination_is_zero ≡ two.destination_is_zero = h.destination_is_zero ∙ sym k.destination_is_zero in
    let flush : one.flush ≡ two.flush = h.flush ∙ sym k.flush in
    λ i. record {
      connections = connections i;
      requests = requests i;
      request_size = request_size i;
      sparse = sparse i;
      extents = extents i;
      allocated = allocated i;
      destination_is_zero = zero i;
      flush = flush i;
    }

-- ---- what nbdinfo is asked

-- the predicate of a name
abbrev predicate_of : Word → Word → Predicate
predicate_of option name = if bytes_eq option (codes "is")
    then (if bytes_eq name (codes "read-only") then IsReadOnly else (if bytes_eq name (codes "rotational") then IsRotational else IsTls))
    else (if bytes_eq name (codes "cache") then CanCache else (if bytes_eq name (codes "df") then CanDf
    else (if bytes_eq name (codes "fast-zero") then CanFastZero else (if bytes_eq name (codes "flush") then CanFlush
    else (if bytes_eq name (codes "fua") then CanFua else (if bytes_eq name (codes "multi-conn") then CanMultiConn
    else (if bytes_eq name (codes "trim") then CanTrim else (if bytes_eq name (codes "zero") then CanZero
    else (if bytes_eq name (codes "write") then CanWrite else (if bytes_eq name (codes "read") then CanRead
    else (if bytes_eq name (codes "connect") then CanConnect else CanStructuredReply)))))))))))

predicate_is : (p : Predicate) (option name : Word) → IsNameOf p option name → p ≡ predicate_of option name
predicate_is IsReadOnly option name h = λ k. predicate_of (sym h.0 k) (sym h.1 k)
predicate_is IsRotational option name h = λ k. predicate_of (sym h.0 k) (sym h.1 k)
predicate_is IsTls option name h = λ k. predicate_of (sym h.0 k) (sym h.1 k)
predicate_is CanCache option name h = λ k. predicate_of (sym h.0 k) (sym h.1 k)
predicate_is CanDf option name h = λ k. predicate_of (sym h.0 k) (sym h.1 k)
predicate_is CanFastZero option name h = λ k. predicate_of (sym h.0 k) (sym h.1 k)
predicate_is CanFlush option name h = λ k. predicate_of (sym h.0 k) (sym h.1 k)
predicate_is CanFua option name h = λ k. predicate_of (sym h.0 k) (sym h.1 k)
predicate_is CanMultiConn option name h = λ k. predicate_of (sym h.0 k) (sym h.1 k)
predicate_is CanTrim option name h = λ k. predicate_of (sym h.0 k) (sym h.1 k)
predicate_is CanZero option name h = λ k. predicate_of (sym h.0 k) (sym h.1 k)
predicate_is CanWrite option name h = λ k. predicate_of (sym h.0 k) (sym h.1 k)
predicate_is CanRead option name h = λ k. predicate_of (sym h.0 k) (sym h.1 k)
predicate_is CanConnect option name h = λ k. predicate_of (sym h.0 k) (sym h.1 k)
predicate_is CanStructuredReply option name h = λ k. predicate_of (sym h.0 k) (sym h.1 k)

context_is : (given : Option Word) (context : Word) → IsContext given context → context ≡ unwrap_or given (codes "base:allocation")
context_is None context h = h
context_is (Some name) context h = h.0

-- what is asked, from the chosen options, whether totals are asked, the context, and the values of options
abbrev what_of : List Word → Bool → Word → (Word → Option Word) → What
what_of [] totals context values = what.Listing
what_of (option ∷ rest) totals context values = if bytes_eq option (codes "list") then what.List else (if bytes_eq option (codes "size") then what.Size
    else (if bytes_eq option (codes "map") then (if totals then what.Totals context else what.Map context)
    else what.Test (predicate_of option (unwrap_or (values option) []))))

abbrev what_in : List Part → What
what_in parts = what_of (chosen parts) (is_given (codes "totals") parts) (unwrap_or (value_of (codes "context") parts) (codes "base:allocation")) (λ option. value_of option parts)

test_is : (p : Predicate) (option name : Word) (totals : Bool) (context : Word) (values : Word → Option Word) → values option ≡ Some name → IsNameOf p option name
    → what.Test p ≡ what_of (option ∷ []) totals context values
test_is p option name totals context values v h =
    let same : p ≡ predicate_of option (unwrap_or (values option) []) = predicate_is p option name h ∙ ap (λ o. predicate_of option (unwrap_or o [])) (sym v) in
    ⊎_elim
    (λ is. ap what.Test same ∙ subst (λ (x : Word). what.Test (predicate_of x (unwrap_or (values x) [])) ≡ what_of (x ∷ []) totals context values) (sym is) refl)
    (λ can. ap what.Test same ∙ subst (λ (x : Word). what.Test (predicate_of x (unwrap_or (values x) [])) ≡ what_of (x ∷ []) totals context values) (sym can) refl)
    (option_of p option name h)

what_is : (parts : List Part) (asked : What) → IsWhat parts asked → asked ≡ what_in parts
what_is parts what.Listing h = λ k. what_of (sym h k) (is_given (codes "totals") parts) (unwrap_or (value_of (codes "context") parts) (codes "base:allocation")) (λ option. value_of option parts)
what_is parts what.List h = λ k. what_of (sym h k) (is_given (codes "totals") parts) (unwrap_or (value_of (codes "context") parts) (codes "base:allocation")) (λ option. value_of option parts)
what_is parts what.Size h = λ k. what_of (sym h k) (is_given (codes "totals") parts) (unwrap_or (value_of (codes "context") parts) (codes "base:allocation")) (λ option. value_of option parts)
what_is parts (what.Map context) h =
    let same = context_is _ context h.2 in
    λ k. what_of (sym h.0 k) (sym h.1 k) (same k) (λ option. value_of option parts)
what_is parts (what.Totals context) h =
    let same = context_is _ context h.2 in
    λ k. what_of (sym h.0 k) (sym h.1 k) (same k) (λ option. value_of option parts)
what_is parts (what.Test p) h =
    test_is p h.0 h.1 (is_given (codes "totals") parts) (unwrap_or (value_of (codes "context") parts) (codes "base:allocation")) (λ option. value_of option parts) h.3 h.4
    ∙ (λ k. what_of (sym h.2 k) (is_given (codes "totals") parts) (unwrap_or (value_of (codes "context") parts) (codes "base:allocation")) (λ option. value_of option parts))

what_once : (parts : List Part) (one two : What) → IsWhat parts one → IsWhat parts two → one ≡ two
what_once parts one two h k = what_is parts one h ∙ sym (what_is parts two k)

-- ---- one reading of the words

same_parts : (rs : List Rule) (b : Bool) → is_table rs b ≡ true → (name : Word) (words rest other : List Word) → words ≡ name ∷ rest → words ≡ name ∷ other
    → (p q : List Part) → AreParts rs rest p → AreParts rs other q → p ≡ q
same_parts rs b table name words rest other e f p q h k =
    parts_once rs b table rest p q h (subst (λ (x : List Word). AreParts rs x q) (sym (rest_is name name rest other (sym e ∙ f))) k)

copy_once : (words : List Word) (one two : CopyOptions) (a b c d : Word) → Reads words (copy one a b) → Reads words (copy two c d) → (one ≡ two) × (a ≡ c) × (b ≡ d)
copy_once words one two a b c d h k =
    let parts = same_parts copy_rules true refl _ words h.0 k.0 h.1 k.1 h.2 k.2 h.3 k.3 in
    let both = same_pair a b c d (sym h.4.0 ∙ ap places parts ∙ k.4.0) in
    (copy_options_once h.2 one two h.4.1 (subst (λ (x : List Part). IsCopyOptions x two) (sym parts) k.4.1), both.0, both.1)

length_once : (given : Option Word) (m n : Option ℕ) → IsLength given m → IsLength given n → m ≡ n
length_once None m n h k = h ∙ sym k
length_once (Some digits) m n h k = h.1 ∙ ap Some (number_once digits h.0 k.0 h.2 k.2) ∙ sym k.1

dump_once : (words : List Word) (offset other : ℕ) (length more : Option ℕ) (a b : Word) → Reads words (dump offset length a) → Reads words (dump other more b)
    → (offset ≡ other) × (length ≡ more) × (a ≡ b)
dump_once words offset other length more a b h k =
    let parts = same_parts dump_rules false refl _ words h.0 k.0 h.1 k.1 h.2 k.2 h.3 k.3 in
    let there = subst (λ (x : List Part). IsRange x other more) (sym parts) k.4.1 in (
      number_or_once 0 _ offset other h.4.1.offset_is there.offset_is,
      length_once _ length more h.4.1.length_is there.length_is,
      name_is a b [] [] (sym h.4.0 ∙ ap places parts ∙ k.4.0),
    )

info_once : (words : List Word) (one two : What) (json other : Bool) (a b : Word) → Reads words (info one json a) → Reads words (info two other b) → (one ≡ two) × (json ≡ other) × (a ≡ b)
info_once words one two json other a b h k =
    let rest = rest_is _ _ h.0 k.0 (sym h.1 ∙ k.1) in
    let parts = parts_once info_rules false refl (with_map h.0) h.2 k.2 h.3 (subst (λ (x : List Word). AreParts info_rules (with_map x) k.2) (sym rest) k.3) in
    let there = subst (λ (x : List Part). IsInfo x two other) (sym parts) k.5 in
    (what_once h.2 one two h.5.what_is there.what_is, h.5.json_is ∙ sym there.json_is, name_is a b [] [] (sym h.4 ∙ ap places parts ∙ k.4))

content_once : (parts : List Part) (one two : Content) → IsContent parts one → IsContent parts two → one ≡ two
content_once parts (Made seed size) (Made seed' size') h k =
    let sizes = size_once _ size size' h.1 k.1 in
    let seeds = number_or_once 0 _ seed seed' h.2 k.2 in
    λ i. Made (seeds i) (sizes i)
content_once parts (Made seed size) (File path) h k = absurd (none_some path (sym h.0 ∙ k.0))
content_once parts (File path) (Made seed size) h k = absurd (none_some path (sym k.0 ∙ h.0))
content_once parts (File path) (File path') h k = ap File (some_is path path' (sym h.0 ∙ k.0))

-- two readings of serve's words are the same
pub record SameServe (one two : Content) (b b' : Bool) (m n : ℕ) (v w : Word) (vs ws : List Word) : Type 0 where
  pub content : one ≡ two
  pub read_only : b ≡ b'
  pub sessions : m ≡ n
  pub address : v ≡ w
  pub run : vs ≡ ws

pub hosts_once : (own : List Word) (content content' : Content) (read_only read_only' : Bool) (sessions sessions' : ℕ) (a b : Word) (run run' : List Word) → run ≡ run'
    → Hosts own content read_only sessions a → Hosts own content' read_only' sessions' b → SameServe content content' read_only read_only' sessions sessions' a b run run'
hosts_once own content content' read_only read_only' sessions sessions' a b run run' same h k =
    let parts = parts_once serve_rules false refl own h.parts k.parts h.are k.are in
    let there = subst (λ (x : List Part). IsServe x content' read_only' sessions') (sym parts) k.serves in
    record {
      content = content_once h.parts content content' h.serves.content_is there.content_is;
      read_only = h.serves.read_only_is ∙ sym there.read_only_is;
      sessions = number_or_once 1 _ sessions sessions' h.serves.sessions_is.number there.sessions_is.number;
      address = name_is a b [] [] (sym h.place_is ∙ ap places parts ∙ k.place_is);
      run = same;
    }

serve_once : (words : List Word) (content : Content) (read_only : Bool) (sessions : ℕ) (a : Word) (run : List Word) (content' : Content) (read_only' : Bool) (sessions' : ℕ) (b : Word)
    (run' : List Word) → Reads words (serve content read_only sessions a run) → Reads words (serve content' read_only' sessions' b run')
    → SameServe content content' read_only read_only' sessions sessions' a b run run'
serve_once words content read_only sessions a run content' read_only' sessions' b run' h k =
    let rest = rest_is _ _ h.0 k.0 (sym h.1 ∙ k.1) in
    let there = subst (λ (x : List Word). Serves x content' read_only' sessions' b run') (sym rest) k.2 in
    let split = split_once h.0 h.2.own run there.own run' h.2.split there.split in
    hosts_once h.2.own content content' read_only read_only' sessions sessions' a b run run' split.1 h.2.hosts
    (subst (λ (x : List Word). Hosts x content' read_only' sessions' b) (sym split.0) there.hosts)

selftest_once : (words : List Word) (seed size seed' size' : ℕ) → Reads words (selftest seed size) → Reads words (selftest seed' size') → (seed ≡ seed') × (size ≡ size')
selftest_once words seed size seed' size' h k =
    let parts = same_parts [] true refl _ words h.0 k.0 h.1 k.1 h.2 k.2 h.3 k.3 in
    let both = same_pair h.4.0 h.4.1 k.4.0 k.4.1 (sym h.4.2 ∙ ap places parts ∙ k.4.2) in (
      number_once h.4.0 seed seed' h.4.3 (subst (λ (d : Word). IsNumber d seed') (sym both.0) k.4.3),
      number_once h.4.1 size size' h.4.4 (subst (λ (d : Word). IsNumber d size') (sym both.1) k.4.4),
    )

-- words begin with the name of one tool
two_tools : {A : Type 0} (words : List Word) (x y : Word) (rest other : List Word) → bytes_eq x y ≡ false → words ≡ x ∷ rest → words ≡ y ∷ other → A
two_tools words x y rest other e h k = absurd (other_tool x y rest other e (sym h ∙ k))

pub reads_once : (words : List Word) (one two : Wanted) → Reads words one → Reads words two → one ≡ two
reads_once words calls calls h k = refl
reads_once words calls (copy options from to) h k = two_tools words _ _ _ _ refl h k.1
reads_once words calls (dump offset length address') h k = two_tools words _ _ _ _ refl h k.1
reads_once words calls (info asked json address) h k = two_tools words _ _ _ _ refl h k.1
reads_once words calls (serve content read_only sessions address run) h k = two_tools words _ _ _ _ refl h k.1
reads_once words calls (selftest seed size) h k = two_tools words _ _ _ _ refl h k.1
reads_once words (copy options from to) calls h k = two_tools words _ _ _ _ refl h.1 k
reads_once words (copy options from to) (copy options' from' to') h k =
    let same = copy_once words options options' from to from' to' h k in λ i. copy (same.0 i) (same.1 i) (same.2 i)
reads_once words (copy options from to) (dump offset length address') h k = two_tools words _ _ _ _ refl h.1 k.1
reads_once words (copy options from to) (info asked json address) h k = two_tools words _ _ _ _ refl h.1 k.1
reads_once words (copy options from to) (serve content read_only sessions address run) h k = two_tools words _ _ _ _ refl h.1 k.1
reads_once words (copy options from to) (selftest seed size) h k = two_tools words _ _ _ _ refl h.1 k.1
reads_once words (dump offset length address) calls h k = two_tools words _ _ _ _ refl h.1 k
reads_once words (dump offset length address) (copy options from to) h k = two_tools words _ _ _ _ refl h.1 k.1
reads_once words (dump offset length address) (dump offset' length' address') h k =
    let same = dump_once words offset offset' length length' address address' h k in λ i. dump (same.0 i) (same.1 i) (same.2 i)
reads_once words (dump offset length address) (info asked json address') h k = two_tools words _ _ _ _ refl h.1 k.1
reads_once words (dump offset length address) (serve content read_only sessions address' run) h k = two_tools words _ _ _ _ refl h.1 k.1
reads_once words (dump offset length address) (selftest seed size) h k = two_tools words _ _ _ _ refl h.1 k.1
reads_once words (info asked json address) calls h k = two_tools words _ _ _ _ refl h.1 k
reads_once words (info asked json address) (copy options from to) h k = two_tools words _ _ _ _ refl h.1 k.1
reads_once words (info asked json address) (dump offset length address') h k = two_tools words _ _ _ _ refl h.1 k.1
reads_once words (info asked json address) (info asked' json' address') h k =
    let same = info_once words asked asked' json json' address address' h k in λ i. info (same.0 i) (same.1 i) (same.2 i)
reads_once words (info asked json address) (serve content read_only sessions address' run) h k = two_tools words _ _ _ _ refl h.1 k.1
reads_once words (info asked json address) (selftest seed size) h k = two_tools words _ _ _ _ refl h.1 k.1
reads_once words (serve content read_only sessions address run) calls h k = two_tools words _ _ _ _ refl h.1 k
reads_once words (serve content read_only sessions address run) (copy options from to) h k = two_tools words _ _ _ _ refl h.1 k.1
reads_once words (serve content read_only sessions address run) (dump offset length address') h k = two_tools words _ _ _ _ refl h.1 k.1
reads_once words (serve content read_only sessions address run) (info asked json address') h k = two_tools words _ _ _ _ refl h.1 k.1
reads_once words (serve content read_only sessions address run) (serve content' read_only' sessions' address' run') h k =
    let same = serve_once words content read_only sessions address run content' read_only' sessions' address' run' h k in
    λ i. serve (same.content i) (same.read_only i) (same.sessions i) (same.address i) (same.run i)
reads_once words (serve content read_only sessions address run) (selftest seed' size') h k = two_tools words _ _ _ _ refl h.1 k.1
reads_once words (selftest seed size) calls h k = two_tools words _ _ _ _ refl h.1 k
reads_once words (selftest seed size) (copy options from to) h k = two_tools words _ _ _ _ refl h.1 k.1
reads_once words (selftest seed size) (dump offset length address') h k = two_tools words _ _ _ _ refl h.1 k.1
reads_once words (selftest seed size) (info asked json address) h k = two_tools words _ _ _ _ refl h.1 k.1
reads_once words (selftest seed size) (serve content read_only sessions address run) h k = two_tools words _ _ _ _ refl h.1 k.1
reads_once words (selftest seed size) (selftest seed' size') h k =
    let same = selftest_once words seed size seed' size' h k in λ i. selftest (same.0 i) (same.1 i)

-- ---- one thing asked

same_place : (a b : Word) (one two : Place) → a ≡ b → IsAddress a one → IsAddress b two → one ≡ two
same_place a b one two e h k = place_once a one two h (subst (λ (x : Word). IsAddress x two) (sym e) k)

same_side : (a b : Word) (one two : Side) → a ≡ b → IsSideOf a one → IsSideOf b two → one ≡ two
same_side a b (side.Nbd one) (side.Nbd two) e h k = ap side.Nbd (same_place a b one two e h.1 k.1)
same_side a b (side.Nbd one) (side.File two) e h k = absurd (true≢false (sym k.0 ∙ ap is_path (sym e) ∙ h.0))
same_side a b (side.File one) (side.Nbd two) e h k = absurd (true≢false (sym h.0 ∙ ap is_path e ∙ k.0))
same_side a b (side.File one) (side.File two) e h k = ap side.File (h.1 ∙ e ∙ sym k.1)

-- two addresses are no file
no_file : (a b c d : Word) (one two : Place) (from to : Side) → a ≡ c → b ≡ d → IsSideOf a (side.Nbd one) → IsSideOf b (side.Nbd two) → IsSideOf c from → IsSideOf d to → HasFile from to → ⊥
no_file a b c d one two (side.Nbd from) (side.Nbd to) e f g h i j has = has
no_file a b c d one two (side.Nbd from) (side.File to) e f g h i j has = true≢false (sym j.0 ∙ ap is_path (sym f) ∙ h.0)
no_file a b c d one two (side.File from) to e f g h i j has = true≢false (sym i.0 ∙ ap is_path (sym e) ∙ g.0)

pub asks_once : (words : List Word) (one two : Asked) → Asks words one → Asks words two → one ≡ two
asks_once words asked.Calls asked.Calls h k = refl
asks_once words asked.Calls (asked.Copy options from to) h k = two_tools words _ _ _ _ refl h k.2.1
asks_once words asked.Calls (asked.FileCopy options from to) h k = two_tools words _ _ _ _ refl h k.2.1
asks_once words asked.Calls (asked.Dump place' offset length) h k = two_tools words _ _ _ _ refl h k.1.1
asks_once words asked.Calls (asked.Info what json place) h k = two_tools words _ _ _ _ refl h k.1.1
asks_once words asked.Calls (asked.Serve s) h k = two_tools words _ _ _ _ refl h k.1.1
asks_once words asked.Calls (asked.Selftest seed size) h k = two_tools words _ _ _ _ refl h k.1
asks_once words (asked.Copy options from to) asked.Calls h k = two_tools words _ _ _ _ refl h.2.1 k
asks_once words (asked.Copy options from to) (asked.Copy options' from' to') h k =
    let same = copy_once words options options' h.0 h.1 k.0 k.1 h.2 k.2 in
    let first = same_place h.0 k.0 from from' same.1 h.3.1 k.3.1 in
    let second = same_place h.1 k.1 to to' same.2 h.4.1 k.4.1 in
    λ i. asked.Copy (same.0 i) (first i) (second i)
asks_once words (asked.Copy options from to) (asked.FileCopy options' from' to') h k =
    let same = copy_once words options options' h.0 h.1 k.0 k.1 h.2 k.2 in
    absurd (no_file h.0 h.1 k.0 k.1 from to from' to' same.1 same.2 h.3 h.4 k.3 k.4 k.5)
asks_once words (asked.Copy options from to) (asked.Dump place' offset length) h k = two_tools words _ _ _ _ refl h.2.1 k.1.1
asks_once words (asked.Copy options from to) (asked.Info what json place) h k = two_tools words _ _ _ _ refl h.2.1 k.1.1
asks_once words (asked.Copy options from to) (asked.Serve s) h k = two_tools words _ _ _ _ refl h.2.1 k.1.1
asks_once words (asked.Copy options from to) (asked.Selftest seed size) h k = two_tools words _ _ _ _ refl h.2.1 k.1
asks_once words (asked.FileCopy options from to) asked.Calls h k = two_tools words _ _ _ _ refl h.2.1 k
asks_once words (asked.FileCopy options from to) (asked.Copy options' from' to') h k =
    let same = copy_once words options' options k.0 k.1 h.0 h.1 k.2 h.2 in
    absurd (no_file k.0 k.1 h.0 h.1 from' to' from to same.1 same.2 k.3 k.4 h.3 h.4 h.5)
asks_once words (asked.FileCopy options from to) (asked.FileCopy options' from' to') h k =
    let same = copy_once words options options' h.0 h.1 k.0 k.1 h.2 k.2 in
    let first = same_side h.0 k.0 from from' same.1 h.3 k.3 in
    let second = same_side h.1 k.1 to to' same.2 h.4 k.4 in
    λ i. asked.FileCopy (same.0 i) (first i) (second i)
asks_once words (asked.FileCopy options from to) (asked.Dump place' offset length) h k = two_tools words _ _ _ _ refl h.2.1 k.1.1
asks_once words (asked.FileCopy options from to) (asked.Info what json place) h k = two_tools words _ _ _ _ refl h.2.1 k.1.1
asks_once words (asked.FileCopy options from to) (asked.Serve s) h k = two_tools words _ _ _ _ refl h.2.1 k.1.1
asks_once words (asked.FileCopy options from to) (asked.Selftest seed size) h k = two_tools words _ _ _ _ refl h.2.1 k.1
asks_once words (asked.Dump place offset length) asked.Calls h k = two_tools words _ _ _ _ refl h.1.1 k
asks_once words (asked.Dump place offset length) (asked.Copy options from to) h k = two_tools words _ _ _ _ refl h.1.1 k.2.1
asks_once words (asked.Dump place offset length) (asked.FileCopy options from to) h k = two_tools words _ _ _ _ refl h.1.1 k.2.1
asks_once words (asked.Dump place offset length) (asked.Dump place' offset' length') h k =
    let same = dump_once words offset offset' length length' h.0 k.0 h.1 k.1 in
    let there = same_place h.0 k.0 place place' same.2 h.2 k.2 in
    λ i. asked.Dump (there i) (same.0 i) (same.1 i)
asks_once words (asked.Dump place offset length) (asked.Info what json place') h k = two_tools words _ _ _ _ refl h.1.1 k.1.1
asks_once words (asked.Dump place offset length) (asked.Serve s) h k = two_tools words _ _ _ _ refl h.1.1 k.1.1
asks_once words (asked.Dump place offset length) (asked.Selftest seed size) h k = two_tools words _ _ _ _ refl h.1.1 k.1
asks_once words (asked.Info what json place) asked.Calls h k = two_tools words _ _ _ _ refl h.1.1 k
asks_once words (asked.Info what json place) (asked.Copy options from to) h k = two_tools words _ _ _ _ refl h.1.1 k.2.1
asks_once words (asked.Info what json place) (asked.FileCopy options from to) h k = two_tools words _ _ _ _ refl h.1.1 k.2.1
asks_once words (asked.Info what json place) (asked.Dump place' offset length) h k = two_tools words _ _ _ _ refl h.1.1 k.1.1
asks_once words (asked.Info what json place) (asked.Info what' json' place') h k =
    let same = info_once words what what' json json' h.0 k.0 h.1 k.1 in
    let there = same_place h.0 k.0 place place' same.2 h.2 k.2 in
    λ i. asked.Info (same.0 i) (same.1 i) (there i)
asks_once words (asked.Info what json place) (asked.Serve s) h k = two_tools words _ _ _ _ refl h.1.1 k.1.1
asks_once words (asked.Info what json place) (asked.Selftest seed size) h k = two_tools words _ _ _ _ refl h.1.1 k.1
asks_once words (asked.Serve s) asked.Calls h k = two_tools words _ _ _ _ refl h.1.1 k
asks_once words (asked.Serve s) (asked.Copy options from to) h k = two_tools words _ _ _ _ refl h.1.1 k.2.1
asks_once words (asked.Serve s) (asked.FileCopy options from to) h k = two_tools words _ _ _ _ refl h.1.1 k.2.1
asks_once words (asked.Serve s) (asked.Dump place' offset length) h k = two_tools words _ _ _ _ refl h.1.1 k.1.1
asks_once words (asked.Serve s) (asked.Info what json place') h k = two_tools words _ _ _ _ refl h.1.1 k.1.1
asks_once words (asked.Serve s) (asked.Serve t) h k =
    let same = serve_once words s.content s.read_only s.sessions h.0 s.run t.content t.read_only t.sessions k.0 t.run h.1 k.1 in
    let there = same_place h.0 k.0 s.place t.place same.address h.2 k.2 in
    let uri : s.uri ≡ t.uri = h.3 ∙ (λ i. given_address (same.run i) (same.address i)) ∙ sym k.3 in
    λ i. asked.Serve (record { place = there i; content = same.content i; read_only = same.read_only i; sessions = same.sessions i; uri = uri i; run = same.run i })
asks_once words (asked.Serve s) (asked.Selftest seed' size') h k = two_tools words _ _ _ _ refl h.1.1 k.1
asks_once words (asked.Selftest seed size) asked.Calls h k = two_tools words _ _ _ _ refl h.1 k
asks_once words (asked.Selftest seed size) (asked.Copy options from to) h k = two_tools words _ _ _ _ refl h.1 k.2.1
asks_once words (asked.Selftest seed size) (asked.FileCopy options from to) h k = two_tools words _ _ _ _ refl h.1 k.2.1
asks_once words (asked.Selftest seed size) (asked.Dump place' offset length) h k = two_tools words _ _ _ _ refl h.1 k.1.1
asks_once words (asked.Selftest seed size) (asked.Info what json place) h k = two_tools words _ _ _ _ refl h.1 k.1.1
asks_once words (asked.Selftest seed size) (asked.Serve s) h k = two_tools words _ _ _ _ refl h.1 k.1.1
asks_once words (asked.Selftest seed size) (asked.Selftest seed' size') h k =
    let same = selftest_once words seed size seed' size' h k in λ i. asked.Selftest (same.0 i) (same.1 i)

-- ---- one fault of the addresses

-- each is an address
abbrev AreAddresses : List Word → Type 0
AreAddresses [] = ⊤
AreAddresses (address ∷ rest) = ((place : Place) × IsAddress address place) × AreAddresses rest

none_faulty : (xs : List Word) (fault : UriFault) → AreAddresses xs → FirstFault xs fault → ⊥
none_faulty [] fault h k = absurd k
none_faulty (a ∷ rest) fault h k = ⊎_elim (λ f. address_has_no_fault a h.0.0 fault h.0.1 f) (λ later. none_faulty rest fault h.1 later.2) k

first_fault_once : (xs : List Word) (e f : UriFault) → FirstFault xs e → FirstFault xs f → e ≡ f
first_fault_once [] e f h k = absurd h
first_fault_once (a ∷ rest) e f h k =
    ⊎_elim
    (λ here. ⊎_elim (λ there. fault_once a e f here there) (λ later. absurd (address_has_no_fault a later.0 e later.1 here)) k)
    (λ after. ⊎_elim (λ there. absurd (address_has_no_fault a after.0 f after.1 there)) (λ later. first_fault_once rest e f after.2 later.2) k)
    h

-- of two sides the words that are no paths are addresses
placed_word : (word : Word) (of : Side) (rest : List Word) → IsSideOf word of → AreAddresses (kept rest) → AreAddresses (kept (word ∷ rest))
placed_word word (side.Nbd place) rest h placed = subst AreAddresses (sym (kept_word word rest h.0)) ((place, h.1), placed)
placed_word word (side.File path) rest h placed = subst AreAddresses (sym (left_word word rest h.0)) placed

placed_sides : (a b : Word) (from to : Side) → IsSideOf a from → IsSideOf b to → AreAddresses (kept (a ∷ b ∷ []))
placed_sides a b from to h k = placed_word a from (b ∷ []) h (placed_word b to [] k tt)

-- what is asked is read from the words, with addresses alone
record Read (words : List Word) : Type 0 where
  wanted : Wanted
  reads : Reads words wanted
  placed : AreAddresses (addresses wanted)

read_of : (words : List Word) (a : Asked) → Asks words a → Read words
read_of words asked.Calls h = record { wanted = calls; reads = h; placed = tt }
read_of words (asked.Copy options from to) h = record { wanted = copy options h.0 h.1; reads = h.2; placed = placed_sides h.0 h.1 (side.Nbd from) (side.Nbd to) h.3 h.4 }
read_of words (asked.FileCopy options from to) h = record { wanted = copy options h.0 h.1; reads = h.2; placed = placed_sides h.0 h.1 from to h.3 h.4 }
read_of words (asked.Dump place offset length) h = record { wanted = dump offset length h.0; reads = h.1; placed = ((place, h.2), tt) }
read_of words (asked.Info what json place) h = record { wanted = info what json h.0; reads = h.1; placed = ((place, h.2), tt) }
read_of words (asked.Serve s) h = record { wanted = serve s.content s.read_only s.sessions h.0 s.run; reads = h.1; placed = ((s.place, h.2), tt) }
read_of words (asked.Selftest seed size) h = record { wanted = selftest seed size; reads = h; placed = tt }

-- words that ask for something have no address out of place
pub asks_or_misplaced : (words : List Word) (a : Asked) (fault : UriFault) → Asks words a → IsMisplaced words fault → ⊥
asks_or_misplaced words a fault h m =
    let r = read_of words a h in
    none_faulty (addresses m.wanted) fault (subst (λ (w : Wanted). AreAddresses (addresses w)) (reads_once words r.wanted m.wanted r.reads m.reads) r.placed) m.faulty

pub misplaced_once : (words : List Word) (e f : UriFault) → IsMisplaced words e → IsMisplaced words f → e ≡ f
misplaced_once words e f h k =
    first_fault_once (addresses h.wanted) e f h.faulty (subst (λ (w : Wanted). FirstFault (addresses w) f) (sym (reads_once words h.wanted k.wanted h.reads k.reads)) k.faulty)

-- ---- each answer comes exactly where the grammar says

-- when each answer comes
pub record Comes (words : List Word) (r : Result Asked ArgsFault) : Type 0 where
  pub asked : IfOk r (λ asked. Asks words asked)
  pub usage : IsErrOf r Usage → (wanted : Wanted) → Reads words wanted → ⊥
  pub address : (fault : UriFault) → IsErrOf r (Uri fault) → IsMisplaced words fault

pub accepts : (words : List Word) (r : Result Asked ArgsFault) → Comes words r → (a : Asked) → Asks words a → (r ≡ Ok a) ⊎ IsErrOf r NoMemory
accepts words (Ok other) c a h = inl (ap Ok (asks_once words other a c.asked h))
accepts words (Err NoMemory) c a h = inr refl
accepts words (Err Usage) c a h = let r = read_of words a h in absurd (c.usage refl r.wanted r.reads)
accepts words (Err (Uri fault)) c a h = absurd (asks_or_misplaced words a fault h (c.address fault refl))

pub refuses : (words : List Word) (r : Result Asked ArgsFault) → Comes words r → ((wanted : Wanted) → Reads words wanted → ⊥) → IsErrOf r Usage ⊎ IsErrOf r NoMemory
refuses words (Ok a) c none = let r = read_of words a c.asked in absurd (none r.wanted r.reads)
refuses words (Err NoMemory) c none = inr refl
refuses words (Err Usage) c none = inl refl
refuses words (Err (Uri fault)) c none = let m = c.address fault refl in absurd (none m.wanted m.reads)

pub misplaced : (words : List Word) (r : Result Asked ArgsFault) → Comes words r → (fault : UriFault) → IsMisplaced words fault → IsErrOf r (Uri fault) ⊎ IsErrOf r NoMemory
misplaced words (Ok a) c fault m = absurd (asks_or_misplaced words a fault c.asked m)
misplaced words (Err NoMemory) c fault m = inr refl
misplaced words (Err Usage) c fault m = absurd (c.usage refl m.wanted m.reads)
misplaced words (Err (Uri other)) c fault m = inl (ap (λ f. Err (Uri f)) (misplaced_once words other fault (c.address other refl) m))
