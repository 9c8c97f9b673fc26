use Rattle.oram_settings.specs.Footprint.{overhead_of}
use Rattle.oram_settings.proofs.NearRecords.{given_again}
use Rattle.oram_settings.proofs.differences.value_text.Goals as goal

pub returns-in-Sealer-clause-near : goal.returns-in-Sealer-clause-near
returns-in-Sealer-clause-near c = λ s is. given_again c.args.device.now (overhead_of c.args.sealing) c.args.levels s.near c.requires is

pub returns-clause-near : goal.returns-clause-near
returns-clause-near c = λ s is. given_again c.args.device.now (overhead_of c.args.sealing) c.args.levels s.near c.requires is
