use Rattle.std.proofs.Common.{◌≡◌, ℕ, ◌<◌, length, Some, slice_get}
use Rattle.oram_host.specs.Path.{record_at}
use Rattle.oram_host.proofs.trees.copied_records.Given as goal

abbrev pub invariant-loop-level : goal.invariant-loop-level
invariant-loop-level l = record {
  count : length l.copies.items ≡ l.level;
  each : (level : ℕ) → level < l.level → slice_get l.copies.items level ≡ Some (record_at l.record_len l.bytes level);
}
