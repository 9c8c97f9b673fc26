use Rattle.std.proofs.Common.{◌≡◌, ◌+◌, ◌≤◌, ◌++◌, length}
use Rattle.oram_geometry.specs.Sizes.{trees_of}
use Rattle.oram_core.specs.Validity.{AreTrees}
use Rattle.oram_core.specs.Parts.{trees_from}
use Rattle.oram_core.proofs.parts.construction.trees_of.Given as goal

abbrev pub invariant-loop-parts : goal.invariant-loop-parts
invariant-loop-parts l = record {
  few : l.number + length l.parts-iterator.rest.items ≤ trees_of l.device;
  whole : l.trees.items ++ trees_from l.number l.parts-iterator.rest.items ≡ trees_from 0 l.fn.parts.items;
  to : AreTrees l.device l.number l.parts-iterator.rest.items → AreTrees l.device 0 l.fn.parts.items;
  from : AreTrees l.device 0 l.fn.parts.items → AreTrees l.device l.number l.parts-iterator.rest.items;
}
