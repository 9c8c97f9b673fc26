use Rattle.std.specs.Prelude.{All}
use Rattle.std.specs.Io.KnownBytes.{Consumes}
use Rattle.oram_disk_host.specs.Serving.{frames}
use Rattle.oram_wire.specs.FrameStream.{IsBody}
use Rattle.oram_wire.specs.ListOfBodies.{bodies_in}
use Rattle.oram_disk_host.proofs.serving.gather.Given as goal

abbrev pub invariant-loop-number : goal.invariant-loop-number
invariant-loop-number g l = record {
  fits : All IsBody (bodies_in l.bodies.items);
  read : Consumes (g.R.Read.remaining l.fn.reader) (g.R.Read.remaining l.reader) (frames (bodies_in l.bodies.items));
}
