use Rattle.std.proofs.Common.{◌≡◌, ◌≤◌, length, take}
use Rattle.std.specs.Prelude.{All, map}
use Rattle.oram_store.specs.Groups.{FitsTree, IsAcceptedChange, IsOfTrees, message_of}
use Rattle.oram_store.specs.Messages.{body_of}
use Rattle.oram_wire.specs.ListOfBodies.{bodies_in}
use Rattle.oram_store.proofs.store.FileStore.changes_in.Given as goal

abbrev pub invariant-loop-body : goal.invariant-loop-body
invariant-loop-body g l = record {
  count : length l.changes.items ≡ l.body-index;
  few : length l.changes.items ≤ 32;
  fits : All FitsTree l.changes.items;
  of : All (IsOfTrees l.self.trees) l.changes.items;
  bodies : map body_of (map message_of l.changes.items) ≡ take l.body-index (bodies_in l.bodies);
  accepted : All (IsAcceptedChange l.self.trees) (map message_of l.changes.items);
}
