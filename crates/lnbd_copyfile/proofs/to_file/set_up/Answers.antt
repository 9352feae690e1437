use Rattle.std.proofs.Common.{◌∙◌, ap}
use Rattle.lnbd_touched.proofs.GrownLemmas.{ok_both}
use Rattle.lnbd_copyfile.proofs.ShareLemmas.{sharing_sets_up}
use Rattle.lnbd_copyfile.proofs.ToFileRunLemmas.{sets_up}
use Rattle.lnbd_copyfile.proofs.to_file.set_up.Goals as goal
use Rattle.lnbd_board.specs.Files as board
use Rattle.lnbd_copyfile.proofs.ToFilePauseLemmas.{ok_so}
use Rattle.lnbd_copyfile.proofs.HearingLemmas.{hears_set_up}

pub returns-clause-begins : goal.returns-clause-begins
returns-clause-begins c =
    ok_both c.new-2.result _ _ _ (λ job same is at start told b. sets_up c.args.terms _ _ c.args.handles.now c.requires.well (c.replace.ensures.after ∙ c.new.ensures) job same is at start told b)
    c.new-2.ensures.terms c.new-2.ensures.begins

pub returns-clause-empty : goal.returns-clause-empty
returns-clause-empty c = ok_so c.new-2.result (ap (λ (s : board.Seen). s.rows) (c.replace.ensures.after ∙ c.new.ensures))

pub returns-clause-shares : goal.returns-clause-shares
returns-clause-shares c =
    sharing_sets_up c.args.terms _ _ c.args.handles.now c.new-2.result c.requires.well (c.replace.ensures.after ∙ c.new.ensures) c.new-2.ensures.terms c.new-2.ensures.copying c.new-2.ensures.dealt
    c.new-2.ensures.begins

pub returns-clause-hears : goal.returns-clause-hears
returns-clause-hears c = hears_set_up c.new-2.result _ c.args.board.now c.args.handles.now c.in_ok-extents.extents c.requires.well c.in_ok-extents.ensures.none c.new-2.ensures.at
