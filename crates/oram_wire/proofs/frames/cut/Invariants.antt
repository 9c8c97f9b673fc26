use Rattle.std.proofs.Common.{◌≡◌, ◌++◌, length, All}
use Rattle.std.specs.List.{flat_map}
use Rattle.oram_wire.specs.FrameStream.{IsBody, frame}
use Rattle.oram_wire.specs.ListOfBodies.{bodies_in}
use Rattle.oram_wire.proofs.frames.cut.Given as goal

-- the stream consists of the frames so far and the bytes after them
abbrev pub invariant-loop-body : goal.invariant-loop-body
invariant-loop-body l = record {
  whole : flat_map frame (bodies_in l.frames.items) ++ l.rest ≡ flat_map frame (bodies_in l.fn.frames.items) ++ l.bytes;
  each : All IsBody (bodies_in l.fn.frames.items) → All IsBody (bodies_in l.frames.items);
}

abbrev pub decreases-loop-body : goal.decreases-loop-body
decreases-loop-body l = length l.rest
