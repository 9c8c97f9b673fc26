use Rattle.oram_empty.proofs.Made.{path_empty}
use Rattle.oram_empty.proofs.digests.EmptyDigests.append_path.Goals as goal

pub returns-in-Ok-clause-formatted : goal.returns-in-Ok-clause-formatted
returns-in-Ok-clause-formatted g c are =
    path_empty (g.S.Sealer.cipher c.args.sealer.now) c.args.self.now c.args.tree c.args.leaf c.args.first c.args.path.now.items c.append_records.new.path.items
    c.requires.tree c.requires.leaf c.requires.first c.in-Ok.ensures.made are
