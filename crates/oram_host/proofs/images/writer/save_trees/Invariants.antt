use Rattle.std.proofs.Common.{◌≡◌, ◌++◌, ℕ, List, map}
use Rattle.std.specs.List.{flat_map}
use Rattle.std.specs.Io.KnownBytes.{Appends}
use Rattle.oram_host.specs.Host.{Kept}
use Rattle.oram_host.specs.Image.{image, tree_text}
use Rattle.oram_host.specs.Trees.{host_of, kept_by}
use Rattle.oram_host.proofs.images.writer.save_trees.Given as goal

abbrev pub invariant-loop-number : goal.invariant-loop-number
invariant-loop-number g l = (written : List ℕ) × Appends (g.W.Write.contents l.fn.writer) (g.W.Write.contents l.writer) written
    × (written ++ flat_map tree_text (map {B = ℕ × Kept} (λ e. (e.0, kept_by e.1)) l.number-iterator) ≡ image (host_of l.trees))
