use Rattle.std.proofs.Common.{◌≡◌, ◌<◌, length, take, rules, arith}
use Rattle.std.proofs.lemmas.List.{length-take}
use Rattle.oram_host.specs.declared.images.ImageFault.TheVariants.{Length}
use Rattle.oram_host.specs.ImageReader.{after_end}
use Rattle.oram_host.proofs.FieldReads.{fails_here, goes_on}
use Rattle.oram_host.proofs.images.fields.read_end.Goals as goal

pub returns-then-branch-gt0-clause-fault : goal.returns-then-branch-gt0-clause-fault
returns-then-branch-gt0-clause-fault g c =
    let n = c.in_ok-fill.field-0 in
    let buf = c.fill.new.buf in
    let one : length buf ≡ 1 = search rules in
    let some : 0 < length (take n buf) = omega (arith, length-take n buf, c.if-branch-gt0.true) in
    fails_here Length _ _ (take n buf) after_end c.in_ok-fill.ensures.ok (λ rest. goes_on (take n buf) rest some)
