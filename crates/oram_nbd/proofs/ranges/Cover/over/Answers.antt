use Rattle.std.proofs.Common.{refl}
use Rattle.oram_nbd.proofs.Splices.{cover_covers, cover_tight, cover_within}
use Rattle.oram_nbd.proofs.ranges.Cover.over.Goals as goal

pub returns-clause-within : goal.returns-clause-within
returns-clause-within c = λ blocks h. cover_within c.args.block c.args.block blocks c.args.at c.args.len _ refl c.requires.block refl h c.requires.some

pub returns-clause-covers : goal.returns-clause-covers
returns-clause-covers c = cover_covers c.args.block c.args.block c.args.at c.args.len refl c.requires.block c.requires.some

pub returns-clause-tight : goal.returns-clause-tight
returns-clause-tight c = cover_tight c.args.block c.args.at c.args.len c.requires.block c.requires.some
