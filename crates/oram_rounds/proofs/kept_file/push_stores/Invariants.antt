use Rattle.std.proofs.Common.{◌≡◌, ◌++◌, length, take}
use Rattle.std.specs.Int.{w64, to_be_bytes}
use Rattle.std.specs.List.{flat_map}
use Rattle.oram_rounds.specs.Batches.{texts}
use Rattle.oram_rounds.specs.Files.{sized_text}
use Rattle.oram_rounds.proofs.KeptText.{AreShort}
use Rattle.oram_rounds.proofs.kept_file.push_stores.Given as goal

abbrev pub invariant-loop-store : goal.invariant-loop-store
invariant-loop-store l = record {
  written : l.text.items ≡ l.fn.text.items ++ (to_be_bytes w64 (length l.stores) ++ flat_map sized_text (take l.store-index (texts l.stores)));
  short : AreShort (take l.store-index (texts l.stores));
}
