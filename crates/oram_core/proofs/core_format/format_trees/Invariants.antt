use Rattle.std.proofs.Common.{◌≡◌}
use Rattle.oram_semantics.specs.Nonces.{formatted_below}
use Rattle.oram_core.specs.Formatting.{AreMade}
use Rattle.oram_core.specs.Core.{scheme_with}
use Rattle.oram_core.proofs.core_format.format_trees.Given as goal

abbrev pub invariant-loop-tree : goal.invariant-loop-tree
invariant-loop-tree g l = record {
  nonce : l.so_far.nonce ≡ formatted_below l.device l.tree;
  made : AreMade (scheme_with g.S.Sealer.cipher l.device l.sealer) g.K.Sink.putting l.fn.sink l.tree l.so_far.trees.items l.sink;
}
