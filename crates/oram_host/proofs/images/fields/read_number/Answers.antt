use Rattle.std.proofs.Common.{◌≡◌, length, rules}
use Rattle.std.proofs.lemmas.Result.{err_from_is_err_and}
use Rattle.oram_host.specs.ImageReader.{next_bytes, next_number}
use Rattle.oram_host.proofs.FieldReads.{fails_first, number_first}
use Rattle.oram_host.proofs.images.fields.read_number.Goals as goal

pub returns-in_err-read_bytes-clause-fault : goal.returns-in_err-read_bytes-clause-fault
returns-in_err-read_bytes-clause-fault g c =
    let p = err_from_is_err_and c.from_residual.result c.from_residual.ensures.1 in
    let why = c.in_err-read_bytes.field-0.0 in
    let four : length c.read_bytes.new.buf ≡ 4 = search rules in
    rw (p.1, p.2) (fails_first why _ (next_bytes 4) next_number (λ text e. number_first text why e) (rw four at c.in_err-read_bytes.ensures.fault))
