use Rattle.std.proofs.Common.{◌≡◌, ◌++◌, length}
use Rattle.std.specs.Int.{w32, to_be_bytes}
use Rattle.std.specs.Io.KnownBytes.{Consumes}
use Rattle.std.specs.List.{AllByRecursion, flat_map}
use Rattle.std.specs.Ordering.{nat_cmp}
use Rattle.std.specs.BTreeMap.{IsOrdered}
use Rattle.oram_host.specs.Host.{IsRecordOf, RisesFrom}
use Rattle.oram_host.specs.Image.{record_text}
use Rattle.oram_host.proofs.RisingEntries.{least_after}
use Rattle.oram_host.proofs.images.reader.load_records.Given as goal

abbrev pub invariant-loop : goal.invariant-loop
invariant-loop g l = record {
  taken : Consumes (g.R.Read.remaining l.fn.reader) (g.R.Read.remaining l.reader) (to_be_bytes w32 l.count ++ flat_map record_text l.records.entries);
  many : length l.records.entries ≡ l.counter;
  rises : RisesFrom 0 l.records.entries;
  next : l.least ≡ least_after 0 l.records.entries;
  each : AllByRecursion (IsRecordOf l.nodes l.record_len) l.records.entries;
  ordered : IsOrdered nat_cmp l.records;
}
