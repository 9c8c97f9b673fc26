use Rattle.std.proofs.Common.{◌≡◌, ◌++◌, ◌+◌, ◌*◌, length}
use Rattle.std.specs.List.{AllByRecursion, flat_map}
use Rattle.oram_stamps.specs.Stamps.{AreNumbers, stamp_text}
use Rattle.oram_stamps.proofs.note.read_stamps.Given as goal

abbrev pub invariant-loop : goal.invariant-loop
invariant-loop l = record {
  read : l.bytes ≡ flat_map stamp_text l.stamps.items ++ l.rest;
  long : length l.rest + 16 * l.counter ≡ length l.bytes;
  fit : AllByRecursion AreNumbers l.stamps.items;
}
