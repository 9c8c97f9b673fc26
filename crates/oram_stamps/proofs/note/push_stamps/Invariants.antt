use Rattle.std.proofs.Common.{◌≡◌, ◌++◌, take}
use Rattle.std.specs.List.{AllByRecursion, flat_map}
use Rattle.oram_stamps.specs.Stamps.{AreNumbers, stamp_text}
use Rattle.oram_stamps.proofs.note.push_stamps.Given as goal

abbrev pub invariant-loop-stamp : goal.invariant-loop-stamp
invariant-loop-stamp l = record {
  added : l.text.items ≡ l.fn.text.items ++ flat_map stamp_text (take l.stamp-index l.stamps);
  fit : AllByRecursion AreNumbers (take l.stamp-index l.stamps);
}
