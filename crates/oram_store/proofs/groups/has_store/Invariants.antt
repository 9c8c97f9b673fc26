use Rattle.std.proofs.Common.{◌≡◌, false, take}
use Rattle.std.specs.Prelude.{map}
use Rattle.std.specs.List.{list_any}
use Rattle.oram_store.specs.Groups.{is_store, message_of}
use Rattle.oram_store.proofs.groups.has_store.Given as goal

abbrev pub invariant-loop-change : goal.invariant-loop-change
invariant-loop-change l = list_any is_store (map message_of (take l.change-index l.changes)) ≡ false
