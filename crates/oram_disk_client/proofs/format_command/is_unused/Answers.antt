use Rattle.std.proofs.Common.{rules, arith, ◌≡◌, length, ap, refl}
use Rattle.std.proofs.lemmas.List.{nil_from_length}
use Rattle.oram_rounds.specs.Batches.{texts}
use Rattle.oram_disk_client.proofs.format_command.is_unused.Goals as goal

pub returns : goal.returns
returns g c =
    let stores = c.args.process.now.stores.items in
    let none : length stores ≡ 0 = grind arith in
    (λ _. record { none_waits = ap texts (nil_from_length stores none); none_accepted = omega arith; note_is_new = search rules }, λ _. refl)
