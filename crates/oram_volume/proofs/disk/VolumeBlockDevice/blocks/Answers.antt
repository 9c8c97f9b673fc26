use Rattle.oram_volume.proofs.Layouts.{length_laid}
use Rattle.oram_volume.proofs.disk.VolumeBlockDevice.blocks.Goals as goal

pub returns-clause-held : goal.returns-clause-held
returns-clause-held g c = λ may_lie world bytes h. length_laid c.args.self.now.core.device h.array bytes h.laid
