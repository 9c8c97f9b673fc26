-- Worked rows.
use Rattle.std.proofs.Common.{◌≡◌, refl, [], ◌∷◌}
use Rattle.std.specs.Prelude.{None, Some}
use Rattle.oram_records.specs.Messages.{records_body, rows_text}

-- the request for nodes 3 and 4 of tree 0
two_nodes : records_body (record { tree = 0; first = 3; count = 2 }) ≡ 5 ∷ 0 ∷ 0 ∷ 0 ∷ 0 ∷ 0 ∷ 3 ∷ 0 ∷ 0 ∷ 0 ∷ 2 ∷ []
two_nodes = refl

-- node 3 has the record 11 12 (hexadecimal), and node 4 has none
two_rows : rows_text (Some (17 ∷ 18 ∷ []) ∷ None ∷ []) ≡ 1 ∷ 17 ∷ 18 ∷ 0 ∷ []
two_rows = refl
