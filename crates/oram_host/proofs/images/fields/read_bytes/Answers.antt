use Rattle.std.proofs.Common.{length, take, arith}
use Rattle.std.proofs.lemmas.List.{length-take}
use Rattle.oram_host.proofs.FieldReads.{ends_inside}
use Rattle.oram_host.proofs.images.fields.read_bytes.Goals as goal

pub returns-then-branch-buf-clause-fault : goal.returns-then-branch-buf-clause-fault
returns-then-branch-buf-clause-fault g c =
    let n = c.in_ok-fill.field-0 in
    let buf = c.fill.new.buf in
    ends_inside _ _ (take n buf) (length buf) c.in_ok-fill.ensures.ok (c.in_ok-fill.ensures.end c.if-branch-buf.true) (omega (arith, length-take n buf))
