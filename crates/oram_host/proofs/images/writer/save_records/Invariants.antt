use Rattle.std.proofs.Common.{◌≡◌, ◌++◌, ℕ, List, filter}
use Rattle.std.specs.List.{flat_map}
use Rattle.std.specs.Io.KnownBytes.{Appends}
use Rattle.oram_host.specs.Image.{record_text}
use Rattle.oram_host.specs.Trees.{is_there, records_in}
use Rattle.oram_host.proofs.images.writer.save_records.Given as goal

-- the text written so far and the records that are left are all of it
abbrev pub invariant-loop-node : goal.invariant-loop-node
invariant-loop-node g l = (written : List ℕ) × Appends (g.W.Write.contents l.fn.writer) (g.W.Write.contents l.writer) written
    × (written ++ flat_map record_text (filter (λ e. is_there e.1) l.node-iterator) ≡ flat_map record_text (records_in l.records))
