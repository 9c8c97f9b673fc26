use Rattle.std.proofs.Common.{◌≡◌, ◌++◌, length}
use Rattle.std.specs.Int.{w64, to_be_bytes}
use Rattle.std.specs.List.{flat_map}
use Rattle.oram_rounds.specs.Batches.{texts}
use Rattle.oram_rounds.specs.Files.{sized_text}
use Rattle.oram_rounds.proofs.KeptText.{AreShort}
use Rattle.oram_rounds.proofs.kept_file.read_stores.Given as goal

abbrev pub invariant-loop : goal.invariant-loop
invariant-loop l = record {
  read : l.bytes ≡ to_be_bytes w64 l.count ++ (flat_map sized_text (texts l.stores.items) ++ l.rest);
  counted : length l.stores.items ≡ l.counter;
  short : AreShort (texts l.stores.items);
}
