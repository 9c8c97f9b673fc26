use Rattle.std.proofs.Common.{subst}
use Rattle.oram_near.specs.Near.{AreTold}
use Rattle.oram_near.specs.NotedRecords.{nodes_told}
use Rattle.oram_near.specs.declared.near_changes.NearChanges.{NearChanges}
use Rattle.oram_near.proofs.near_link.told_changes.Goals as goal

pub returns-in-Nodes : goal.returns-in-Nodes
returns-in-Nodes c = λ old near same are.
    nodes_told c.args.record_len c.in-Nodes.numbers.now old near c.requires.some same (subst (λ (changes : NearChanges). AreTold changes old near) c.in-Nodes.is are)
