use Rattle.std.proofs.Common.{◌≡◌, length, rules}
use Rattle.std.proofs.lemmas.Result.{err_from_is_err_and}
use Rattle.oram_host.proofs.FieldReads.{byte_first}
use Rattle.oram_host.proofs.images.fields.read_byte.Goals as goal

pub returns-in_err-read_bytes-clause-fault : goal.returns-in_err-read_bytes-clause-fault
returns-in_err-read_bytes-clause-fault g c =
    let p = err_from_is_err_and c.from_residual.result c.from_residual.ensures.1 in
    let one : length c.read_bytes.new.buf ≡ 1 = search rules in
    rw (p.1, p.2) (byte_first _ _ (rw one at c.in_err-read_bytes.ensures.fault))
