-- Worked rows.
use Rattle.std.proofs.Common.{◌≡◌, refl, [], ◌∷◌, Ok, Err}
use Rattle.oram_session.specs.declared.link.LinkFault.TheVariants.{Closed}
use Rattle.oram_link_laws.specs.Runs.{Exchange}
use Rattle.oram_rows.specs.RowsLink.{told}
use Rattle.oram_rows.specs.Rows.{records_answer}
use Rattle.std.specs.Prelude.{List, ℕ}

-- the answer with the records 11 and 12 (hexadecimal), of one byte each
two_records : records_answer ((17 ∷ []) ∷ (18 ∷ []) ∷ []) ≡ 128 ∷ 1 ∷ 17 ∷ 1 ∷ 18 ∷ []
two_records = refl

abbrev body : List ℕ
body = 5 ∷ []

-- A body was sent twice, and answered both times, the first time to nobody. The second answer is completed.
abbrev twice : List Exchange
twice = (body, Ok (128 ∷ 0 ∷ [])) ∷ (body, Ok (128 ∷ 0 ∷ [])) ∷ []

told_once : told (body ∷ []) (Ok ((128 ∷ 1 ∷ 17 ∷ []) ∷ [])) twice ≡ (body, Err Closed) ∷ (body, Ok (128 ∷ 1 ∷ 17 ∷ [])) ∷ []
told_once = refl

-- without memory to complete it, nobody gets an answer
told_never : told (body ∷ []) (Err Closed) twice ≡ (body, Err Closed) ∷ (body, Err Closed) ∷ []
told_never = refl
