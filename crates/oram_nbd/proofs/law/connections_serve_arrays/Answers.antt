use Rattle.oram_nbd.proofs.WholeConnection.{connections_serve_arrays}
use Rattle.oram_nbd.proofs.law.connections_serve_arrays.Goals as goal

pub returns : goal.returns
returns c c' = connections_serve_arrays _
