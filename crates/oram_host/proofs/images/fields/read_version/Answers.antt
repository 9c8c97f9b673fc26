use Rattle.std.proofs.Common.{◌<◌, ◌^◌, ℕ, rules}
use Rattle.std.specs.Int.{w32, to_be_bytes}
use Rattle.std.proofs.lemmas.Result.{err_from_is_err_and}
use Rattle.oram_host.specs.declared.images.ImageFault.TheVariants.{Version}
use Rattle.oram_host.specs.ImageReader.{after_version, next_number}
use Rattle.oram_host.proofs.FieldReads.{fails_first, fails_here, other_version, version_first}
use Rattle.oram_host.proofs.images.fields.read_version.Goals as goal

pub returns-in_err-read_number-clause-fault : goal.returns-in_err-read_number-clause-fault
returns-in_err-read_number-clause-fault g c =
    let p = err_from_is_err_and c.from_residual.result c.from_residual.ensures.1 in
    let why = c.in_err-read_number.field-0.0 in
    rw (p.1, p.2) (fails_first why _ next_number after_version (λ text e. version_first text why e) c.in_err-read_number.ensures.fault)

pub returns-then-branch-ne-VERSION-clause-fault : goal.returns-then-branch-ne-VERSION-clause-fault
returns-then-branch-ne-VERSION-clause-fault g c =
    let n : ℕ = c.in_ok-read_number.field-0 in
    let fits : n < 2 ^ 32 = search rules in
    fails_here Version _ _ (to_be_bytes w32 n) after_version c.in_ok-read_number.ensures.ok (λ rest. other_version n rest fits c.if-branch-ne-VERSION.true)
