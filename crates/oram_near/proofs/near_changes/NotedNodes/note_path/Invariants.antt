use Rattle.oram_geometry.specs.Sizes.{depth_of}
use Rattle.oram_near.specs.Near.{HasRoomFor, NotesNodes, path_nodes}
use Rattle.oram_near.proofs.near_changes.NotedNodes.note_path.Given as goal

abbrev pub invariant-loop-level : goal.invariant-loop-level
invariant-loop-level l = record {
  noted : NotesNodes (path_nodes (depth_of l.device 0) l.leaf l.level) l.initial.self l.self;
  room : HasRoomFor l.level l.initial.self l.self;
}
