use Rattle.std.proofs.Common.{◌≡◌, ◌⊎◌, inl, inr, ◌∙◌, ap, subst, sym, ℕ, List, Result, Ok, Err}
use Rattle.std.specs.Result.{IsErrOf}
use Rattle.lnbd_lines.specs.Scripts.{IsFault, IsScript}
use Rattle.lnbd_lines.specs.declared.fault.ScriptFault.{ScriptFault}
use Rattle.lnbd_lines.specs.declared.fault.ScriptFault.TheVariants as lines
use Rattle.lnbd_cli.proofs.InputLemmas.{fault, none, script}
use Rattle.lnbd_cli.proofs.input.read_script.Goals as goal

refused : {T : Type 0} (f : ScriptFault) (n : ℕ) (x : T) → f ≡ lines.Line n → (◌≡◌ {A = Result T ScriptFault} (Err f) (Ok x)) ⊎ IsErrOf {T = T} {E = ScriptFault} (Err f) lines.NoMemory → ⊥
refused f n x is (inl e) = absurd (cc e)
refused f n x is (inr e) = absurd (cc (is, e))

pub returns-in-Ok-parse-clause-reads : goal.returns-in-Ok-parse-clause-reads
returns-in-Ok-parse-clause-reads g c all is =
    script all _ _ (subst (λ (l : List ℕ). IsScript l c.in-Ok-parse.script) (c.deref.ensures.value ∙ c.in-Ok.ensures.came all is) c.in-Ok-parse.ensures.script) (c.in-Ok.ensures.left all is)

pub returns-in-Err-Line-clause-reads : goal.returns-in-Err-Line-clause-reads
returns-in-Err-Line-clause-reads g c all is =
    let front = c.deref.ensures.value ∙ c.in-Ok.ensures.came all is in (
      fault all c.in-Err-Line.number (subst (λ (l : List ℕ). IsFault l c.in-Err-Line.number) front (c.in-Err-Line.ensures.fault _ (ap Err c.in-Err-Line.field-0-is))),
      none all (λ asked s. refused c.in-Err-Line.field-0 c.in-Err-Line.number asked c.in-Err-Line.field-0-is
          (c.in-Err-Line.ensures.accepts asked (subst (λ (l : List ℕ). IsScript l asked) (sym front) s))),
      c.in-Ok.ensures.left all is,
    )
