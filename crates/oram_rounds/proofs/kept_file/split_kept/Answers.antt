use Rattle.std.proofs.Common.{List, ℕ, Err, sym, ap, ◌∙◌, ◌++◌, ◌≡◌, ◌-◌, length, length-append, arith}
use Rattle.std.specs.Int.{w64, to_be_bytes}
use Rattle.oram_core.proofs.Fits.{at_err}
use Rattle.oram_rounds.specs.Batches.{texts}
use Rattle.oram_rounds.specs.Files.{sized_text, stores_text}
use Rattle.oram_rounds.specs.declared.kept_file.KeptCoreFault.TheVariants as KeptCoreFault
use Rattle.oram_rounds.proofs.KeptText.{front_apart, front_of, no_note, no_number, read_by}
use Rattle.oram_rounds.proofs.kept_file.split_kept.Goals as goal

pub returns-in_err-stores-clause-torn : goal.returns-in_err-stores-clause-torn
returns-in_err-stores-clause-torn c = λ e stores note fields counted short is.
    let torn = ap Err (sym (at_err c.from_residual.result _ KeptCoreFault.Torn e c.from_residual.ensures.1)) in
    c.in_err-stores.ensures.torn torn stores (sized_text note.text ++ (to_be_bytes w64 (length note.records) ++ fields)) counted (is ∙ front_apart stores note fields)

pub returns-in_default-clause-torn : goal.returns-in_default-clause-torn
returns-in_default-clause-torn c = λ e stores note fields counted short is.
    no_note c.args.text.now c.in_ok-stores.rest.now (texts c.in_ok-stores.stores.items) c.in_ok-stores.ensures.ok c.in_ok-stores.ensures.counted
    (c.in_default.ensures.none cc) stores note fields counted short is

pub returns-in_default-next_number-clause-torn : goal.returns-in_default-next_number-clause-torn
returns-in_default-next_number-clause-torn c = λ e stores note fields counted short is.
    no_number c.args.text.now c.in-Some.note.now c.in-Some.rest.now (texts c.in_ok-stores.stores.items)
    (c.in_ok-stores.ensures.ok ∙ ap (λ (b : List ℕ). stores_text (texts c.in_ok-stores.stores.items) ++ b) c.in-Some.ensures.some)
    c.in_ok-stores.ensures.counted c.in-Some.ensures.short (c.in_default-next_number.ensures.none cc) stores note fields counted short is

pub returns-clause-front : goal.returns-clause-front
returns-clause-front c =
    let stores = texts c.in_ok-stores.stores.items in
    let front : List ℕ = stores_text stores ++ (sized_text c.in-Some.note.now ++ to_be_bytes w64 c.in-Some-next_number.records_len) in
    let fields = c.in-Some-next_number.fields.now in
    let is : c.args.text.now ≡ front ++ fields = read_by stores c.in-Some.note.now c.in-Some-next_number.records_len fields c.args.text.now c.in_ok-stores.rest.now c.in-Some.rest.now
    c.in_ok-stores.ensures.ok c.in-Some.ensures.some c.in-Some-next_number.ensures.some in
    c.split_at.ensures.front ∙ front_of c.args.text.now front fields (length c.args.text.now - length fields) is (omega (arith, ap length is, length-append front fields))

pub returns-clause-ok : goal.returns-clause-ok
returns-clause-ok c =
    let stores = texts c.in_ok-stores.stores.items in
    let front : List ℕ = stores_text stores ++ (sized_text c.in-Some.note.now ++ to_be_bytes w64 c.in-Some-next_number.records_len) in
    let fields = c.in-Some-next_number.fields.now in
    let is : c.args.text.now ≡ front ++ fields = read_by stores c.in-Some.note.now c.in-Some-next_number.records_len fields c.args.text.now c.in_ok-stores.rest.now c.in-Some.rest.now
    c.in_ok-stores.ensures.ok c.in-Some.ensures.some c.in-Some-next_number.ensures.some in
    let cut : c.split_at.result.0.now ≡ front = c.split_at.ensures.front ∙ front_of c.args.text.now front fields (length c.args.text.now - length fields) is (omega (arith, ap length is, length-append front fields)) in
    is ∙ ap (λ (b : List ℕ). b ++ fields) (sym cut)
