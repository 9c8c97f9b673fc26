use Rattle.std.proofs.Common.{◌≡◌, ◌++◌, ◌∙◌, ◌*◌, sym, ap, decimal, arith}
use Rattle.std.proofs.lemmas.List.{append_cancel_right}
use Rattle.std.proofs.lemmas.Fmt.{decimal_injective}
use Rattle.oram_settings.proofs.Units.{fewer_fit, unfit}
use Rattle.oram_settings.proofs.sizes.read_in.Goals as goal

pub returns-clause-none : goal.returns-clause-none
returns-clause-none c t size fits h =
    let split = c.in_ok-digits.ensures.cases in
    let digits : c.in_ok-digits.digits.now ≡ decimal h.number = append_cancel_right _ _ c.args.unit.now (sym (split.1.1 ∙ ap (λ front. front ++ c.args.unit.now) (sym split.2)) ∙ h.written) in
    let small = fewer_fit h.number c.args.bytes size c.requires h.bytes fits in
    let same = decimal_injective c.in_ok-read_number.field-0 h.number (omega arith) small (sym c.in_ok-read_number.ensures.some.1 ∙ digits) in
    let product : c.in_ok-read_number.field-0 * c.args.bytes ≡ size = ap (λ n. n * c.args.bytes) same ∙ sym h.bytes in
    unfit c.checked_mul.result _ _ c.checked_mul.ensures t (omega arith)
