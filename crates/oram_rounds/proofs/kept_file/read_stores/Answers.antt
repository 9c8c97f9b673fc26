use Rattle.std.proofs.Common.{ℕ, arith}
use Rattle.std.proofs.lemmas.List.{length-map}
use Rattle.std.specs.Global.{Vec}
use Rattle.oram_rounds.specs.Batches.{texts}
use Rattle.oram_rounds.proofs.KeptText.{torn_here}
use Rattle.oram_rounds.proofs.kept_file.read_stores.Goals as goal

pub returns-in_default-next_sized-clause-torn : goal.returns-in_default-next_sized-clause-torn
returns-in_default-next_sized-clause-torn c = λ e stores rest counted.
    let k = c.loop.invariant in
    let read = c.loop.stores.items in
    torn_here c.args.bytes.now c.in-Some.count (texts read) c.loop.rest.now (omega arith) k.read k.short
    (omega (arith, length-map read (λ (v : Vec ℕ). v.items), k.counted, c.loop-test.true)) (c.in_default-next_sized.ensures.none cc) stores rest counted
