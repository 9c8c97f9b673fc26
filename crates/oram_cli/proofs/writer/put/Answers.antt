use Rattle.std.proofs.Common.{ℕ, List, [], Option, Result, Ok, Err, append-nil}
use Rattle.std.specs.Prelude.{OnOk, OnErr}
use Rattle.std.specs.Io.KnownBytes.{Appends}
use Rattle.oram_wire.specs.FrameIo.{TakesPart}
use Rattle.oram_host.specs.Transfers.{Begins}
use Rattle.oram_host.proofs.Transfers.{begun}
use Rattle.oram_cli.proofs.writer.put.Goals as goal

-- all of the text was written, or a part of it
begun_either : {T E : Type 0} (r : Result T E) (a b : Option (List ℕ)) (text : List ℕ) → OnOk r (Appends a b text) → OnErr r (TakesPart a b text) → Begins a b text
begun_either (Ok x) a b text all part = begun a b text [] text all (append-nil text)
begun_either (Err e) a b text all part = (part.0, part.2)

pub returns-clause-begun : goal.returns-clause-begun
returns-clause-begun g c = begun_either c.write.result _ _ c.args.text.now c.write.ensures.ok c.write.ensures.err
