use Rattle.std.proofs.Common.{◌≡◌, ◌++◌, length}
use Rattle.std.specs.Int.{w32, to_be_bytes}
use Rattle.std.specs.Io.KnownBytes.{Consumes}
use Rattle.std.specs.List.{flat_map}
use Rattle.oram_host.specs.Image.{tree_text}
use Rattle.oram_host.specs.Trees.{AreTrees, host_of}
use Rattle.oram_host.proofs.RisingEntries.{least_after}
use Rattle.oram_host.proofs.images.reader.load_each_tree.Given as goal

abbrev pub invariant-loop : goal.invariant-loop
invariant-loop g l = record {
  taken : Consumes (g.R.Read.remaining l.fn.reader) (g.R.Read.remaining l.reader) (to_be_bytes w32 l.count ++ flat_map tree_text (host_of l.trees));
  many : length (host_of l.trees) ≡ l.counter;
  next : l.least ≡ least_after 0 (host_of l.trees);
  trees : AreTrees l.trees;
}
