use Rattle.std.proofs.Common.{arith}
use Rattle.oram_redo.specs.Log.{Patch}
use Rattle.oram_store.proofs.BatchBytes.{length-one, one_fits}
use Rattle.oram_store.proofs.store.commit_one.Goals as goal

pub commit-requires-clause-short : goal.commit-requires-clause-short
commit-requires-clause-short g c = let p : Patch = (c.args.at, c.args.bytes.now) in omega (arith, length-one p)

pub commit-requires-clause-fits : goal.commit-requires-clause-fits
commit-requires-clause-fits g c = one_fits (c.args.at, c.args.bytes.now) c.requires.within c.requires.short

pub returns-clause-commits : goal.returns-clause-commits
returns-clause-commits g c = c.commit.ensures.commits

pub returns-clause-calls : goal.returns-clause-calls
returns-clause-calls g c = c.commit.ensures.calls

pub returns-clause-running : goal.returns-clause-running
returns-clause-running g c = c.commit.ensures.running
