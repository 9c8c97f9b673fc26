use Rattle.std.proofs.Common.{◌≡◌, ◌∙◌, ℕ, ap, sym, arith}
use Rattle.std.proofs.lemmas.Bool.{false≢true}
use Rattle.std.proofs.lemmas.Bool.Decides.{Decides-eqb}
use Rattle.std.proofs.lemmas.Slice.Eq.{slice_eq-Decides}
use Rattle.oram_pair.specs.Generations.{field_bytes}
use Rattle.oram_pair.proofs.GenerationFields.{number_is}
use Rattle.oram_pair.proofs.generations.number_in.Goals as goal

pub returns-else-eq-clause-spoilt : goal.returns-else-eq-clause-spoilt
returns-else-eq-clause-spoilt c n fits is =
    let same : c.eight_bytes_in-number.result ≡ n =
    number_is c.args.letters.now c.args.identity.now c.args.field.now c.eight_bytes_in-number.result n (omega arith) fits c.eight_bytes_in-number.ensures is in
    let own : c.args.field.now ≡ c.field.result = is ∙ ap (λ (m : ℕ). field_bytes c.args.letters.now c.args.identity.now m) (sym same) ∙ sym c.field.ensures in
    absurd (false≢true (sym c.if-eq.false ∙ (slice_eq-Decides Decides-eqb c.args.field.now c.field.result c.eq.result c.eq.ensures).1 own))
