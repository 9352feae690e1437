use Rattle.lnbd_export.specs.Zeros.{told}
use Rattle.lnbd_export.proofs.PutLaws.{tells_truly}
use Rattle.lnbd_export.proofs.export.Export.tells_zeros.Goals as goal

pub returns : goal.returns
returns c = tells_truly c.self.inside.name c.self.inside.description c.self.inside.content.items (told c.self.inside.zeros) c.self.inside.read_only c.args.self.now c.self.invariant c.self.view_is
