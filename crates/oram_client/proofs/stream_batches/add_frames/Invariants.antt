use Rattle.std.proofs.Common.{◌≡◌, ◌++◌, take}
use Rattle.std.specs.List.{All, flat_map}
use Rattle.oram_wire.specs.FrameStream.{IsBody, frame}
use Rattle.oram_rounds.specs.Batches.{texts}
use Rattle.oram_client.proofs.stream_batches.add_frames.Given as goal

abbrev pub invariant-loop-body : goal.invariant-loop-body
invariant-loop-body l = record {
  fit : All IsBody (take l.body-index (texts l.bodies));
  framed : l.frames.items ≡ l.initial.frames.items ++ flat_map frame (take l.body-index (texts l.bodies));
}
