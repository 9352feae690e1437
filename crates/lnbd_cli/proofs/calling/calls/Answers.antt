use Rattle.std.proofs.Common.{inl, inr, refl}
use Rattle.lnbd_cli.specs.Calls.{Faulty, NotRead, Played}
use Rattle.lnbd_cli.proofs.CallLemmas.{line_of}
use Rattle.lnbd_cli.proofs.calling.calls.Goals as goal

pub returns-in-Ok-clause-ends : goal.returns-in-Ok-clause-ends
returns-in-Ok-clause-ends g c = Played (record {
  lines = c.in-Ok.script;
  script = λ bytes is. (c.in-Ok.ensures.reads bytes is).0;
  read = λ bytes is. (c.in-Ok.ensures.reads bytes is).1;
  played = c.play_script.ensures.ends;
})

pub returns-in-Err-Line-clause-ends : goal.returns-in-Err-Line-clause-ends
returns-in-Err-Line-clause-ends g c =
    let r = line_of _ _ _ _ c.in-Err-Line.field-0-is c.in-Err-Line.ensures.reads in
    rw c.in-Err-Line.field-0-is (Faulty c.in-Err-Line.number refl (λ bytes is. (r bytes is).0) (λ bytes is. (r bytes is).2) (refl, refl))

pub returns-in-Err-Line-clause-accepts : goal.returns-in-Err-Line-clause-accepts
returns-in-Err-Line-clause-accepts g c held is =
    let r = line_of _ _ _ _ c.in-Err-Line.field-0-is c.in-Err-Line.ensures.reads in
    (r held.bytes held.held).1 held.lines held.script

pub returns-in-Err-Failed-clause-ends : goal.returns-in-Err-Failed-clause-ends
returns-in-Err-Failed-clause-ends g c = NotRead (inl refl) (refl, refl)

pub returns-in-Err-NoMemory-clause-ends : goal.returns-in-Err-NoMemory-clause-ends
returns-in-Err-NoMemory-clause-ends g c = NotRead (inr refl) (refl, refl)
