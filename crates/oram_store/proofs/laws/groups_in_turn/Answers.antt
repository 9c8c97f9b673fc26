use Rattle.oram_store.proofs.GroupRuns.{in_turn}
use Rattle.oram_store.proofs.laws.groups_in_turn.Goals as goal

pub returns : goal.returns
returns g c groups new are said honest s =
    in_turn g.F.FilePair.model g.met.F.FilePair.only_now g.met.F.FilePair.counts_now g.met.F.FilePair.whole groups c.args.store.now new are said honest s
