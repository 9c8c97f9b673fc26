-- Worked rows.
use Rattle.std.proofs.Common.{◌≡◌, refl, [], ◌∷◌, true, false}
use Rattle.oram_levels.specs.Messages.{FetchLevels, StoreLevels, is_levels_length, levels_body, levels_payload, names_levels}

-- the levels from 2 to 4 of the path to leaf 258 of tree 0
three_levels : levels_body (FetchLevels 0 2 4 258) ≡ 6 ∷ 0 ∷ 2 ∷ 4 ∷ 0 ∷ 0 ∷ 1 ∷ 2 ∷ []
three_levels = refl

-- the last two levels of a path of tree 1, in a tree of depth 4 whose records have one byte
two_levels : levels_body (StoreLevels 1 3 5 (17 ∷ 18 ∷ [])) ≡ 7 ∷ 1 ∷ 3 ∷ 0 ∷ 0 ∷ 0 ∷ 5 ∷ 17 ∷ 18 ∷ []
two_levels = refl

-- two of three levels have a record of two bytes: 11 12 and 13 14 (hexadecimal)
two_records : levels_payload 2 (17 ∷ 18 ∷ 19 ∷ 20 ∷ []) ≡ 2 ∷ 17 ∷ 18 ∷ 19 ∷ 20 ∷ []
two_records = refl

not_levels : names_levels (5 ∷ []) ≡ false
not_levels = refl

fetch_cut_short : is_levels_length 6 7 ≡ false
fetch_cut_short = refl

store_of_nothing : is_levels_length 7 7 ≡ true
store_of_nothing = refl
