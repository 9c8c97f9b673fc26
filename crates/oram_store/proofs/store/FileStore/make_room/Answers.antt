use Rattle.oram_store.proofs.CommittedPuts.{commits_puts_none}
use Rattle.oram_store.proofs.store.FileStore.make_room.Goals as goal

pub returns-clause-commits_puts : goal.returns-clause-commits_puts
returns-clause-commits_puts g c s =
    commits_puts_none g.F.FilePair.model c.args.self.now s (g.met.F.FilePair.only_now c.args.self.now.file.files)
