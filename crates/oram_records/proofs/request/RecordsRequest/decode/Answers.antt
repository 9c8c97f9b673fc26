use Rattle.std.proofs.Common.{rules, ℕ, List, ◌∷◌, ap, sym, ◌∙◌, Ok, get_or}
use Rattle.oram_records.specs.Messages.{HasNumbers}
use Rattle.oram_records.specs.declared.request.RecordsRequest.{RecordsRequest}
use Rattle.oram_records.proofs.Numbers.{body_is, one_request}
use Rattle.oram_records.proofs.request.RecordsRequest.decode.Goals as goal

found : goal.returns-in-5-clause-found
found c =
    body_is c.args.body.now c.in-5.len_at_least (search rules) (search rules)
    ∙ ap (λ (xs : List ℕ). 5 ∷ 0 ∷ get_or c.args.body.now 2 0 ∷ xs) c.numbers_in-first.ensures

pub returns-in-5-clause-found : goal.returns-in-5-clause-found
returns-in-5-clause-found = found

pub returns-in-5-clause-only : goal.returns-in-5-clause-only
returns-in-5-clause-only c = λ request fits is.
    let read : RecordsRequest = record { tree = get_or c.args.body.now 2 0; first = c.numbers_in-first.result.0; count = c.numbers_in-first.result.1 } in
    let read_fits : HasNumbers read = search rules in
    ap Ok (one_request read request read_fits fits (sym (found c) ∙ is))
