-- A line asks for one thing.
use Rattle.std.proofs.Common.{◌≡◌, ◌∙◌, ℕ, Bool, true, false, List, [], ◌++◌, Option, Some, None, Result, Ok, Err, IfOk, MatchOption, ap, codes, cond, drop, eqb, refl, subst, sym, inl, inr}
use Rattle.std.specs.Str.Parse.{digits_value}
use Rattle.lnbd_model.specs.declared.target.Place.{Place}
use Rattle.lnbd_model.specs.declared.target.Target.{Target}
use Rattle.lnbd_model.specs.declared.target.Target.TheVariants.{Tcp, Unix}
use Rattle.lnbd_uri.specs.Address.{Reading, unknown, secured, tcp as over_tcp, unix as over_unix, IsAddress, Means, ReadsAs}
use Rattle.lnbd_uri.specs.Parts.{Begins, spelling}
use Rattle.lnbd_uri.proofs.ReadingLemmas.{place_once}
use Rattle.lnbd_lines.proofs.CommandLemmas.{at, command_in, command_is}
use Rattle.lnbd_lines.proofs.CutLemmas.{before, behind, before_is, behind_is}
use Rattle.lnbd_lines.proofs.PartLemmas.{follows_at}
use Rattle.lnbd_lines.specs.Grammar.{Asks, IsCommand, IsLine, IsPassedOver, space}
use Rattle.lnbd_lines.specs.Written.{HasNoIssue, HasNoOption, HasNoSwitch, HasNoWord, IsNotNamed, IsNotPlain}
use Rattle.lnbd_lines.specs.declared.line.Line.{Line}
use Rattle.lnbd_lines.specs.declared.line.Line.TheVariants.{Handle, Connect, ConnectUri, Settle, Log, Heard, ClearLog, Done, Peek, InFlight, Direction, State, Info, Export, Strict, Context, Switch as Turn, Ask, Answer, Listing, Read, Write, Disconnect, Close, Command as Issue}
use Rattle.lnbd_lines.specs.declared.negotiation.Opt.TheVariants as opt
use Rattle.lnbd_lines.specs.declared.negotiation.Switch.TheVariants as switch
use Rattle.lnbd_lines.specs.declared.command.Command.{Command}
use Rattle.lnbd_lines.specs.declared.command.Command.TheVariants.{Pread, PreadStructured, Pwrite, Flush, Trim, Zero, Cache, BlockStatus}
use Rattle.lnbd_lines.specs.declared.command.Manner.TheVariants.{Keep, Retire, Fail}

abbrev failing : List ℕ → List ℕ → Option Line
failing digits text = Some (Issue (Fail (digits_value 10 digits)) (command_in text))

-- An address.

-- it begins with `n`
address_front : (text : List ℕ) (r : Reading) (to : Target) (name : List ℕ) → ReadsAs text r → Means r to name → Begins (codes "n") text
address_front text unknown to name reads means = absurd means
address_front text secured to name reads means = absurd means
address_front text (over_tcp p) to name reads means = (codes "bd://" ++ spelling p, reads.spelled)
address_front text (over_unix p) to name reads means = (codes "bd+unix://" ++ spelling p, reads.spelled)

-- a line that connects by one connects to one place
addresses_once : (text : List ℕ) (p q : Place) → Asks text (ConnectUri p) → Asks text (ConnectUri q) → p ≡ q
addresses_once text p q (rest, is, h) k = place_once rest p q h (follows_at (codes "connect ") text rest (λ t. IsAddress t q) is k)

nowhere : Place
nowhere = record { to = Unix []; name = [] }

-- the place of the address that a line tells
abbrev place_in : Option Line → Place
place_in (Some (ConnectUri place)) = place
place_in other = nowhere

-- where a line tells an address, this is its place
abbrev IsPlaceOf : Option Line → Place → Type 0
IsPlaceOf asked place = (p : Place) → asked ≡ Some (ConnectUri p) → p ≡ place

-- What a line asks for, if it asks for anything: told by the bytes at which the lines differ, but for the place of an address.
abbrev told : Place → List ℕ → Option Line
told place text =
    cond (eqb (at 0 text) 99) (cond (eqb (at 1 text) 97) (Some (Issue Keep (command_in text))) (cond (eqb (at 1 text) 108) (cond (eqb (at 2 text) 101) (Some ClearLog) (Some Close))
    (cond (eqb (at 3 text) 116) (Some (Context (drop 8 text))) (cond (eqb (at 8 text) 116) (Some (Connect (Tcp (before space (drop 12 text)) (digits_value 10 (behind space (drop 12 text))))))
    (cond (eqb (at 8 text) 117) (Some (Connect (Unix (drop 13 text)))) (Some (ConnectUri place)))))))
    (cond (eqb (at 0 text) 112) (cond (eqb (at 1 text) 101) (Some Peek) (Some (Issue Keep (command_in text))))
    (cond (eqb (at 0 text) 102) (cond (eqb (at 1 text) 97) (failing (before space (drop 5 text)) (behind space (drop 5 text))) (Some (Issue Keep (command_in text))))
    (cond (eqb (at 0 text) 98) (Some (Issue Keep (command_in text)))
    (cond (eqb (at 0 text) 116) (Some (Issue Keep (command_in text)))
    (cond (eqb (at 0 text) 122) (Some (Issue Keep (command_in text)))
    (cond (eqb (at 0 text) 115) (cond (eqb (at 1 text) 101) (Some Settle) (cond (eqb (at 2 text) 97) (Some State) (cond (eqb (at 3 text) 105) (Some (Strict (digits_value 10 (drop 7 text)))) (Some (Turn switch.Structured (eqb (at 12 text) 110))))))
    (cond (eqb (at 0 text) 108) (cond (eqb (at 1 text) 111) (Some Log) (Some Listing))
    (cond (eqb (at 0 text) 100) (cond (eqb (at 1 text) 111) (Some (Done (digits_value 10 (drop 5 text)))) (cond (eqb (at 2 text) 114) (Some Direction) (Some Disconnect)))
    (cond (eqb (at 0 text) 105) (cond (eqb (at 2 text) 45) (Some InFlight) (Some Info))
    (cond (eqb (at 0 text) 101) (cond (eqb (at 2 text) 112) (Some (Export (drop 7 text))) (Some (Turn switch.Extended (eqb (at 10 text) 110))))
    (cond (eqb (at 0 text) 97) (cond (eqb (at 1 text) 117) (Some (Issue Retire (command_in (drop 5 text)))) (Some Answer))
    (cond (eqb (at 0 text) 111) (cond (eqb (at 3 text) 109) (Some (Turn switch.OptMode (eqb (at 9 text) 110)))
    (cond (eqb (at 4 text) 108) (Some (Ask opt.List)) (cond (eqb (at 4 text) 105) (Some (Ask opt.Info)) (cond (eqb (at 4 text) 109) (Some (Ask opt.Meta)) (cond (eqb (at 4 text) 103) (Some (Ask opt.Go)) (Some (Ask opt.Abort)))))))
    (cond (eqb (at 0 text) 114) (Some Read)
    (cond (eqb (at 0 text) 104) (cond (eqb (at 1 text) 101) (Some Heard) (Some (Handle (digits_value 10 (drop 7 text)))))
    (cond (eqb (at 0 text) 119) (Some Write) None)))))))))))))))

abbrev tcp : List ℕ → List ℕ → Option Line
tcp host digits = Some (Connect (Tcp host (digits_value 10 digits)))

-- a command is told as one
told_command : (place : Place) (text : List ℕ) (command : Command) → IsCommand text command → told place text ≡ Some (Issue Keep (command_in text))
told_command place text (Pread range) ((rest, is, h), small) = ap (told place) is ∙ ap (λ (t : List ℕ). Some (Issue Keep (command_in t))) (sym is)
told_command place text (PreadStructured range) ((rest, is, h), small) = ap (told place) is ∙ ap (λ (t : List ℕ). Some (Issue Keep (command_in t))) (sym is)
told_command place text (Pwrite payload offset flags) (rest, is, h) = ap (told place) is ∙ ap (λ (t : List ℕ). Some (Issue Keep (command_in t))) (sym is)
told_command place text (Flush flags) (inl (is, none)) = ap (told place) is ∙ ap (λ (t : List ℕ). Some (Issue Keep (command_in t))) (sym is)
told_command place text (Flush flags) (inr (rest, is, h)) = ap (told place) is ∙ ap (λ (t : List ℕ). Some (Issue Keep (command_in t))) (sym is)
told_command place text (Trim range) (rest, is, h) = ap (told place) is ∙ ap (λ (t : List ℕ). Some (Issue Keep (command_in t))) (sym is)
told_command place text (Zero range) (rest, is, h) = ap (told place) is ∙ ap (λ (t : List ℕ). Some (Issue Keep (command_in t))) (sym is)
told_command place text (Cache range) (rest, is, h) = ap (told place) is ∙ ap (λ (t : List ℕ). Some (Issue Keep (command_in t))) (sym is)
told_command place text (BlockStatus range) (rest, is, h) = ap (told place) is ∙ ap (λ (t : List ℕ). Some (Issue Keep (command_in t))) (sym is)

told_line : (place : Place) (text : List ℕ) (line : Line) → IsPlaceOf (Some line) place → Asks text line → told place text ≡ Some line
told_line place text (Connect (Tcp host port)) one (rest, is, h) =
    ap (told place) is ∙ ap (λ a. tcp a (behind space rest)) (before_is space rest host h.digits h.cut)
    ∙ ap (λ b. tcp host b) (behind_is space rest host h.digits h.cut) ∙ ap (λ n. Some (Connect (Tcp host n))) h.number.value_is
told_line place text (Connect (Unix path)) one (rest, is, h) = ap (told place) is ∙ ap (λ p. Some (Connect (Unix p))) (sym h.same)
told_line place text (ConnectUri p) one (rest, is, h) =
    let front = address_front rest h.reading p.to p.name h.reads h.means in
    ap (told place) (is ∙ ap (λ (t : List ℕ). codes "connect " ++ t) front.1) ∙ ap (λ (q : Place). Some (ConnectUri q)) (sym (one p refl))
told_line place text (Issue Keep command) one h = told_command place text command h ∙ ap (λ (c : Command). Some (Issue Keep c)) (command_is text command h)
told_line place text (Issue Retire command) one (rest, is, h) = ap (told place) is ∙ ap (λ (c : Command). Some (Issue Retire c)) (command_is rest command h)
told_line place text (Issue (Fail error) command) one (rest, is, h) =
    ap (told place) is ∙ ap (λ a. failing a (behind space rest)) (before_is space rest h.first h.second h.cut)
    ∙ ap (λ b. failing h.first b) (behind_is space rest h.first h.second h.cut)
    ∙ ap (λ n. Some (Issue (Fail n) (command_in h.second))) h.error_is.number.value_is
    ∙ ap (λ (c : Command). Some (Issue (Fail error) c)) (command_is h.second command h.command_is)
told_line place text Heard one is = ap (told place) is
told_line place text Settle one is = ap (told place) is
told_line place text Log one is = ap (told place) is
told_line place text ClearLog one is = ap (told place) is
told_line place text (Done cookie) one (rest, is, h) = ap (told place) is ∙ ap (λ n. Some (Done n)) h.value_is
told_line place text Peek one is = ap (told place) is
told_line place text InFlight one is = ap (told place) is
told_line place text Direction one is = ap (told place) is
told_line place text State one is = ap (told place) is
told_line place text Info one is = ap (told place) is
told_line place text (Export name) one (rest, is, h) = ap (told place) is ∙ ap (λ p. Some (Export p)) (sym h.same)
told_line place text (Strict bits) one (rest, is, h) = ap (told place) is ∙ ap (λ n. Some (Strict n)) h.number.value_is
told_line place text (Handle number) one (rest, is, h) = ap (told place) is ∙ ap (λ n. Some (Handle n)) h.number.value_is
told_line place text (Context name) one (rest, is, h) = ap (told place) is ∙ ap (λ p. Some (Context p)) (sym h.same)
told_line place text (Turn switch.Structured true) one is = ap (told place) is
told_line place text (Turn switch.Structured false) one is = ap (told place) is
told_line place text (Turn switch.Extended true) one is = ap (told place) is
told_line place text (Turn switch.Extended false) one is = ap (told place) is
told_line place text (Turn switch.OptMode true) one is = ap (told place) is
told_line place text (Turn switch.OptMode false) one is = ap (told place) is
told_line place text (Ask opt.List) one is = ap (told place) is
told_line place text (Ask opt.Info) one is = ap (told place) is
told_line place text (Ask opt.Meta) one is = ap (told place) is
told_line place text (Ask opt.Go) one is = ap (told place) is
told_line place text (Ask opt.Abort) one is = ap (told place) is
told_line place text Answer one is = ap (told place) is
told_line place text Listing one is = ap (told place) is
told_line place text Read one is = ap (told place) is
told_line place text Write one is = ap (told place) is
told_line place text Disconnect one is = ap (told place) is
told_line place text Close one is = ap (told place) is

told_none : (place : Place) (text : List ℕ) → IsPassedOver text → told place text ≡ None
told_none place text (inl e) = ap (told place) e
told_none place text (inr (rest, e)) = ap (told place) e

told_asked : (place : Place) (text : List ℕ) (asked : Option Line) → IsPlaceOf asked place → IsLine text asked → told place text ≡ asked
told_asked place text None one h = told_none place text h.means
told_asked place text (Some line) one h = told_line place text line one h.means

-- a line that tells an address asks for nothing else
is_address : (text : List ℕ) (asked : Option Line) (p : Place) → IsLine text asked → Asks text (ConnectUri p) → asked ≡ Some (ConnectUri p)
is_address text asked p h k =
    sym (told_asked p text asked (λ q e. addresses_once text q p (subst (λ (a : Option Line). IsLine text a) e h).means k) h)
    ∙ told_line p text (ConnectUri p) (λ q e. sym (ap place_in e)) k

-- a line asks for one thing
pub line_once : (text : List ℕ) (a b : Option Line) → IsLine text a → IsLine text b → a ≡ b
line_once text a b h k =
    sym (told_asked (place_in b) text a (λ p e. sym (ap place_in (is_address text b p k (subst (λ (x : Option Line). IsLine text x) e h).means))) h)
    ∙ told_asked (place_in b) text b (λ p e. sym (ap place_in e)) k

-- a text that is none of the lines asks for nothing
pub asks_nothing : (text : List ℕ) → HasNoIssue text → IsNotPlain text → IsNotNamed text → (line : Line) → Asks text line → ⊥
asks_nothing text command plain named (Connect (Tcp host port)) h = named.tcp host port h
asks_nothing text command plain named (Connect (Unix path)) h = named.unix path h
asks_nothing text command plain named (ConnectUri place) h = named.uri place h
asks_nothing text command plain named (Issue Keep issued) h = command.keep issued h
asks_nothing text command plain named (Issue Retire issued) h = command.retire issued h
asks_nothing text command plain named (Issue (Fail error) issued) h = command.fail error issued h
asks_nothing text command plain named Heard h = plain.word.heard h
asks_nothing text command plain named Settle h = plain.word.settle h
asks_nothing text command plain named Log h = plain.word.log h
asks_nothing text command plain named ClearLog h = plain.word.clear_log h
asks_nothing text command plain named (Done cookie) h = plain.done cookie h
asks_nothing text command plain named Peek h = plain.word.peek h
asks_nothing text command plain named InFlight h = plain.word.in_flight h
asks_nothing text command plain named Direction h = plain.word.direction h
asks_nothing text command plain named State h = plain.word.state h
asks_nothing text command plain named Info h = plain.word.info h
asks_nothing text command plain named (Export name) h = named.export name h
asks_nothing text command plain named (Context name) h = named.context name h
asks_nothing text command plain named (Strict bits) h = plain.strict bits h
asks_nothing text command plain named (Handle number) h = plain.handle number h
asks_nothing text command plain named (Turn switch.Structured true) h = plain.switch.structured_on h
asks_nothing text command plain named (Turn switch.Structured false) h = plain.switch.structured_off h
asks_nothing text command plain named (Turn switch.Extended true) h = plain.switch.extended_on h
asks_nothing text command plain named (Turn switch.Extended false) h = plain.switch.extended_off h
asks_nothing text command plain named (Turn switch.OptMode true) h = plain.switch.optmode_on h
asks_nothing text command plain named (Turn switch.OptMode false) h = plain.switch.optmode_off h
asks_nothing text command plain named (Ask opt.List) h = plain.option.list h
asks_nothing text command plain named (Ask opt.Info) h = plain.option.info h
asks_nothing text command plain named (Ask opt.Meta) h = plain.option.meta h
asks_nothing text command plain named (Ask opt.Go) h = plain.option.go h
asks_nothing text command plain named (Ask opt.Abort) h = plain.option.abort h
asks_nothing text command plain named Answer h = plain.word.answer h
asks_nothing text command plain named Listing h = plain.word.listing h
asks_nothing text command plain named Read h = plain.word.read h
asks_nothing text command plain named Write h = plain.word.write h
asks_nothing text command plain named Disconnect h = plain.word.disconnect h
asks_nothing text command plain named Close h = plain.word.close h

-- the same, where the last kind of line was tried by a call that may want memory
pub asks_at_last : {E : Type 0} (text : List ℕ) (r : Result (Option Line) E) → HasNoIssue text → IsNotPlain text
    → IfOk r (λ asked. MatchOption asked (IsNotNamed text) (λ line. Asks text line))
    → IfOk r (λ asked. MatchOption asked ((line : Line) → Asks text line → ⊥) (λ line. Asks text line))
asks_at_last text (Ok None) command plain named = asks_nothing text command plain named
asks_at_last text (Ok (Some line)) command plain asks = asks
asks_at_last text (Err e) command plain nothing = tt
