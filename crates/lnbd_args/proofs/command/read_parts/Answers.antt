use Rattle.std.proofs.Common.{◌∙◌, List, sym, subst, map, string_bytes, true≢false, ⊎_elim}
use Rattle.clap.specs.Kinds.{IsAmong, Kinds}
use Rattle.clap.specs.Values.{kind_of}
use Rattle.clap.specs.Walk.{Row}
use Rattle.lnbd_args.specs.Clap.{Tells}
use Rattle.lnbd_args.specs.Written.{rule_of}
use Rattle.lnbd_args.proofs.ReadLemmas.{fair_words, read, taken}
use Rattle.lnbd_args.proofs.command.read_parts.Goals as goal

pub returns-then-not-are_fair-clause-usage : goal.returns-then-not-are_fair-clause-usage
returns-then-not-are_fair-clause-usage c = λ _ parts h k.
    let unfair = c.if-not-are_fair.true in
    true≢false (sym (fair_words (map rule_of c.args.rules.now) c.args.has_second c.requires (map string_bytes c.args.words.now) parts h) ∙ sym c.are_fair.ensures ∙ unfair)

pub returns-in-Ok-clause-told : goal.returns-in-Ok-clause-told
returns-in-Ok-clause-told c =
    let fair = sym c.are_fair.ensures ∙ c.if-not-are_fair.false in
    let h = read (map rule_of c.args.rules.now) c.args.has_second c.requires (map string_bytes c.args.words.now) fair c.in-Ok.ensures.fault in
    (h.0, h.1, subst (λ (rows : List Row). Tells (map rule_of c.args.rules.now) c.args.has_second rows h.0) (sym c.in-Ok.ensures.rows) h.2)

pub returns-in-Err-clause-usage : goal.returns-in-Err-clause-usage
returns-in-Err-clause-usage c = λ is parts h k.
    let none = taken (map rule_of c.args.rules.now) c.args.has_second c.requires (map string_bytes c.args.words.now) parts h k in
    ⊎_elim (λ memory. c.fault_of_error.ensures.usage (cc) memory)
    (λ among. subst (λ (kinds : Kinds). IsAmong (kind_of c.in-Err.error) kinds) none among) c.in-Err.ensures.fault
