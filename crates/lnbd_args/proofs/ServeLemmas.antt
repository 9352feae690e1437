-- What keeps serve's words from being read, and what they are read as.
use Rattle.std.proofs.Common.{◌≡◌, ◌∙◌, ◌<◌, ◌≤◌, ℕ, zero, suc, Bool, false, List, [], ◌∷◌, Option, Some, None, String, arith, codes, get_or, length, map, string_bytes, Result, Ok, Err, refl, sym, subst}
use Rattle.std.specs.declared.alloc.Global.{Global}
use Rattle.std.specs.Prelude.{IfOk, IsErrOf, MatchOption}
use Rattle.std.specs.Option.{ok_or}
use Rattle.std.proofs.lemmas.List.Elements.{All-cons, All-head, All-tail}
use Rattle.lnbd_store.specs.declared.serving.Content.{Content}
use Rattle.lnbd_store.specs.declared.serving.Content.TheVariants.{Made, File}
use Rattle.lnbd_args.specs.declared.fault.ArgsFault.{ArgsFault}
use Rattle.lnbd_args.specs.declared.fault.ArgsFault.TheVariants.{Usage}
use Rattle.lnbd_args.specs.Tools.{AreShort, Hosts, IsContent, IsNumberOr, IsSize, IsSplit, Reads, Wanted, given_address, serve}
use Rattle.lnbd_args.specs.Words.{Part, Word, is_given, value_of}
use Rattle.lnbd_args.proofs.OneReading.{hosts_once}
use Rattle.lnbd_args.proofs.RunLemmas.{split_once}
use Rattle.lnbd_args.proofs.ToolLemmas.{none_some, only_serve, some_is}

-- ---- what is served

pub made_only : (parts : List Part) → value_of (codes "file") parts ≡ None → (content : Content) → IsContent parts content
    → ((size seed : ℕ) → IsSize (value_of (codes "size") parts) size → IsNumberOr 0 (value_of (codes "seed") parts) seed → ⊥) → ⊥
made_only parts none (Made seed size) h nay = nay size seed h.1 h.2
made_only parts none (File path) h nay = none_some path (sym none ∙ h.0)

pub file_only : (parts : List Part) (path : Word) → value_of (codes "file") parts ≡ Some path → (content : Content) → IsContent parts content
    → (length path ≤ 4096 → is_given (codes "size") parts ≡ false → is_given (codes "seed") parts ≡ false → ⊥) → ⊥
file_only parts path given (Made seed size) h nay = none_some path (sym h.0 ∙ given)
file_only parts path given (File other) h nay = nay (subst (λ (x : Word). length x ≤ 4096) (some_is other path (sym h.0 ∙ given)) h.1) h.2 h.3

-- what is made from a number, as an answer
pub made_ok : (parts : List Part) (r : Option Content) (s : Result Content ArgsFault) → s ≡ ok_or r Usage → MatchOption r ((content : Content) → ¬ IsContent parts content) (λ content. IsContent parts content)
    → IfOk s (λ content. IsContent parts content)
made_ok parts None s e h = subst (λ (x : Result Content ArgsFault). IfOk x (λ content. IsContent parts content)) (sym e) tt
made_ok parts (Some content) s e h = subst (λ (x : Result Content ArgsFault). IfOk x (λ content. IsContent parts content)) (sym e) h

pub made_usage : (parts : List Part) (r : Option Content) (s : Result Content ArgsFault) → s ≡ ok_or r Usage → MatchOption r ((content : Content) → ¬ IsContent parts content) (λ content. IsContent parts content)
    → IsErrOf s Usage → (content : Content) → IsContent parts content → ⊥
made_usage parts None s e h is = h
made_usage parts (Some other) s e h is = absurd (no_fault other (sym e ∙ is))
  where
    no_fault : (x : Content) → ◌≡◌ {A = Result Content ArgsFault} (Ok x) (Err Usage) → ⊥
    no_fault x f = absurd (cc)

-- ---- words that ask for nothing

-- a word that fits in a text
abbrev pub IsShort : Word → Type 0
IsShort word = length word ≤ 4096

pub not_hosted : (ws own run : List Word) → IsSplit ws own run → ((content : Content) (read_only : Bool) (sessions : ℕ) (address : Word) → Hosts own content read_only sessions address → ⊥)
    → (wanted : Wanted) → Reads (codes "serve" ∷ ws) wanted → ⊥
not_hosted ws own run split nay wanted reads = only_serve ws wanted reads (λ content read_only sessions address other h.
    let same = split_once ws h.own other own run h.split split in
    nay content read_only sessions address (subst (λ (x : List Word). Hosts x content read_only sessions address) same.0 h.hosts))

pub not_short : (ws own run : List Word) → IsSplit ws own run → (AreShort run → ⊥) → (wanted : Wanted) → Reads (codes "serve" ∷ ws) wanted → ⊥
not_short ws own run split nay wanted reads = only_serve ws wanted reads (λ content read_only sessions address other h.
    let same = split_once ws h.own other own run h.split split in
    nay (subst AreShort same.1 (All-tail IsShort (given_address other address) other h.short)))

pub not_given : (ws own run : List Word) (content : Content) (read_only : Bool) (sessions : ℕ) (address : Word) → IsSplit ws own run → Hosts own content read_only sessions address
    → (IsShort (given_address run address) → ⊥) → (wanted : Wanted) → Reads (codes "serve" ∷ ws) wanted → ⊥
not_given ws own run content read_only sessions address split hosts nay wanted reads = only_serve ws wanted reads (λ content' read_only' sessions' address' other h.
    let split_same = split_once ws h.own other own run h.split split in
    let there = subst (λ (x : List Word). Hosts x content' read_only' sessions' address') split_same.0 h.hosts in
    let same = hosts_once own content' content read_only' read_only sessions' sessions address' address other run split_same.1 there hosts in
    let first = All-head IsShort (given_address other address') other h.short in
    nay (subst (λ (x : List Word). IsShort (given_address x address)) same.run (subst (λ (x : Word). IsShort (given_address other x)) same.address first)))

-- one of the words
pub short_at : (words : List (String Global)) (i : ℕ) (d : String Global) → i < length words → AreShort (map string_bytes words) → IsShort (string_bytes (get_or words i d))
short_at [] i d within h = absurd (omega (arith, within))
short_at (w ∷ ws) zero d within h = All-head IsShort (string_bytes w) (map string_bytes ws) h
short_at (w ∷ ws) (suc i) d within h = short_at ws i d (omega (arith, within)) (All-tail IsShort (string_bytes w) (map string_bytes ws) h)

-- ---- words that are read

pub reads_of : (ws own run texts : List Word) (content : Content) (read_only : Bool) (sessions : ℕ) (address : Word) → IsSplit ws own run → AreShort run → texts ≡ run
    → IsShort (given_address texts address) → Hosts own content read_only sessions address → Reads (codes "serve" ∷ ws) (serve content read_only sessions address texts)
reads_of ws own run texts content read_only sessions address split short same first hosts =
    let there = subst AreShort (sym same) short in
    (ws, refl, record { own = own; split = subst (IsSplit ws own) (sym same) split; short = All-cons IsShort (given_address texts address) texts first there; hosts = hosts })
