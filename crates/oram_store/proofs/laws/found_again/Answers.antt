use Rattle.oram_store.proofs.Lives.{found_sure}
use Rattle.oram_store.proofs.laws.found_again.Goals as goal

pub returns : goal.returns
returns g c sound left now =
    found_sure g.F.FilePair.model c.args.store.now sound left now
