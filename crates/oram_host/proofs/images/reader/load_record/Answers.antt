use Rattle.std.proofs.Common.{◌≡◌, ◌<◌, ◌^◌, ℕ, length, rules}
use Rattle.std.specs.Int.{w32, to_be_bytes}
use Rattle.std.proofs.lemmas.Result.{err_from_is_err_and}
use Rattle.oram_host.specs.declared.images.ImageFault.TheVariants.{Content}
use Rattle.oram_host.specs.ImageReader.{next_bytes, next_number, next_record}
use Rattle.oram_host.proofs.FieldReads.{fails_after, fails_first, fails_here}
use Rattle.oram_host.proofs.ReadImages.{other_node, record_bytes, record_first}
use Rattle.oram_host.proofs.Transfers.{taken_twice}
use Rattle.oram_host.proofs.images.reader.load_record.Goals as goal

pub returns-in_err-node-clause-fault : goal.returns-in_err-node-clause-fault
returns-in_err-node-clause-fault g c =
    let p = err_from_is_err_and c.from_residual.result c.from_residual.ensures.1 in
    let why = c.in_err-node.field-0.0 in
    let a = c.args in
    rw (p.1, p.2) (fails_first why _ next_number (next_record a.nodes a.record_len a.least) (λ text e. record_first a.nodes a.record_len a.least text why e) c.in_err-node.ensures.fault)

pub returns-then-node-least-clause-fault : goal.returns-then-node-least-clause-fault
returns-then-node-least-clause-fault g c =
    let a = c.args in
    let node : ℕ = c.in_ok-node.node in
    let fits : node < 2 ^ 32 = search rules in
    fails_here Content _ _ (to_be_bytes w32 node) (next_record a.nodes a.record_len a.least) c.in_ok-node.ensures.ok (λ rest. other_node a.nodes a.record_len a.least node rest fits c.then-node-least.either)

pub returns-in_err-read_bytes-clause-fault : goal.returns-in_err-read_bytes-clause-fault
returns-in_err-read_bytes-clause-fault g c =
    let p = err_from_is_err_and c.from_residual-in_err-read_bytes.result c.from_residual-in_err-read_bytes.ensures.1 in
    let why = c.in_err-read_bytes.field-0.0 in
    let a = c.args in
    let node : ℕ = c.in_ok-node.node in
    let fits : node < 2 ^ 32 = search rules in
    let long : length c.read_bytes.new.buf ≡ a.record_len = search rules in
    rw (p.1, p.2) (fails_after why _ _ (to_be_bytes w32 node) (next_bytes a.record_len) (next_record a.nodes a.record_len a.least) c.in_ok-node.ensures.ok
    (λ rest e. record_bytes a.nodes a.record_len a.least node rest why fits c.if-node-least.false c.if-node-nodes.false e) (rw long at c.in_err-read_bytes.ensures.fault))

pub returns-in_err-read_bytes-clause-consumed : goal.returns-in_err-read_bytes-clause-consumed
returns-in_err-read_bytes-clause-consumed g c = taken_twice _ _ _ c.read_number.ensures.consumed c.read_bytes.ensures.consumed

pub returns-clause-consumed : goal.returns-clause-consumed
returns-clause-consumed g c = taken_twice _ _ _ c.read_number.ensures.consumed c.read_bytes.ensures.consumed
