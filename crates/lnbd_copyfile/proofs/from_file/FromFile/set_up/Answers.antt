use Rattle.std.proofs.Common.{◌≡◌, ◌≤◌, ℕ, List, [], Option, Some, None, false, ap, ◌∙◌}
use Rattle.lnbd_link.specs.Call.{Call}
use Rattle.lnbd_model.specs.declared.target.Place.{Place}
use Rattle.lnbd_board.specs.Files as board
use Rattle.lnbd_store.specs.Shelf.{Shelf}
use Rattle.lnbd_touched.proofs.GrownLemmas.{ok_both}
use Rattle.lnbd_connections.specs.Way.{Way}
use Rattle.lnbd_copyfile.specs.declared.from_file_job.Phase.TheVariants.{Copying}
use Rattle.lnbd_copyfile.specs.FromFile.{HasMet, IsGoing, Seen}
use Rattle.lnbd_copyfile.specs.FromFileJob.{IsJob}
use Rattle.lnbd_copyfile.specs.Holes.{nowhere}
use Rattle.lnbd_copyfile.proofs.FromFileLemmas.{going_first}
use Rattle.lnbd_copyfile.proofs.ShareFromLemmas.{sharing_sets_up}
use Rattle.lnbd_copyfile.proofs.from_file.FromFile.set_up.Goals as goal

pub returns-clause-begins : goal.returns-clause-begins
returns-clause-begins c =
    let new : Seen = record { options = c.self.inside.options; start = c.self.inside.start; held = c.self.inside.handles; board = c.replace.new.dest } in
    let terms = c.args.terms in
    ok_both c.new-2.result
    (λ job. job.phase ≡ Copying)
    (λ job. (way : Way) (now : board.Seen) (room : ℕ) → way.size ≡ Some room → terms.size ≤ room → way.how ≡ terms.how → now.how ≡ terms.how → way.slices ≡ [] → way.asked ≡ None → now.flushing ≡
    false → IsJob job nowhere way now)
    (λ job. (to : Place) (file : ℕ) (start told : Option (List Call)) (shelf : Option Shelf) (given : ℕ) → HasMet to terms start told c.args.self.now → IsGoing to
    file job start told new shelf shelf given given)
    (λ job copying begins to file start told shelf given met. going_first to file terms start told c.args.self.now new job shelf given (ap (λ (s : Seen). s.held) c.self.view_is)
    (c.replace.ensures.after ∙ c.new.ensures) c.requires.well begins copying met) c.new-2.ensures.copying c.new-2.ensures.begins

pub returns-clause-shares : goal.returns-clause-shares
returns-clause-shares c =
    let new : Seen = record { options = c.self.inside.options; start = c.self.inside.start; held = c.self.inside.handles; board = c.replace.new.dest } in
    sharing_sets_up c.args.terms c.args.self.now new c.new-2.result (ap (λ (s : Seen). s.held) c.self.view_is) (c.replace.ensures.after ∙ c.new.ensures) c.requires.well c.new-2.ensures.terms
    c.new-2.ensures.copying c.new-2.ensures.dealt c.new-2.ensures.begins
