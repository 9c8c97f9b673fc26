-- The findings, level by level, are the counts of the rows.
use Rattle.std.proofs.Common.{◌≡◌, ℕ, ◌+◌, ◌-◌, ◌*◌, ◌^◌, ◌<◌, ◌≤◌, inl, inr, arith, ap, sym, ◌∙◌, subst, List, [], ◌∷◌, ◌++◌, length, take, drop, get_or, Some, None, Bool, cond, sum_by, replicate, zero-add, length-append, length-drop, take_all}
use Rattle.std.specs.List.{FoldsTo, count_by}
use Rattle.std.proofs.Math.ListN.{set, length-set}
use Rattle.std.proofs.Math.Nat.{pow-le-pow_right}
use Rattle.std.proofs.lemmas.Bool.{cases_lt, cases_eq}
use Rattle.std.proofs.lemmas.Nat.{pow-add}
use Rattle.std.proofs.lemmas.List.{append-nil, append_assoc, drop-append-le, drop_all, ext_get_or, get_or-set_other, get_or-replicate, get_or-set_same, length-replicate, take-append-le}
use Rattle.std.proofs.lemmas.List.FromFn.{get_or-map-range_with_len, length-map-range_with_len}
use Rattle.std.proofs.lemmas.List.Sums.{sum_by-append}
use Rattle.oram_scan.specs.Laws.{Row}
use Rattle.oram_scan.specs.Scan.{node_count}
use Rattle.oram_scan.specs.declared.tree_scan.Finding.TheVariants.{Sound, Changed, Unchecked}
use Rattle.oram_export.specs.Findings.{IsAtLevel, IsCounted, finding_of, is_changed, is_missing, is_sound, is_unchecked, level_rows, levels_of, none_found, one_more, tally}
use Rattle.oram_export.specs.Stages.{Stage, TakesRow}
use Rattle.oram_export.specs.declared.findings.LevelFindings.{LevelFindings}
use Rattle.oram_export.proofs.Counting.{level_below}
use Rattle.oram_export.proofs.Staging.{takes_next}

one_count : (p : Row → Bool) (rows : List Row) (row : Row) → count_by p (rows ++ row ∷ []) ≡ count_by p rows + cond (p row) 1 0
one_count p rows row = sum_by-append (λ x. cond (p x) 1 0) rows (row ∷ []) ∙ (let one : sum_by (λ x. cond (p x) 1 0) (row ∷ []) ≡ cond (p row) 1 0 = zero-add (cond (p row) 1 0) in ap (λ (n : ℕ). count_by p rows + n) one)

same_counts : (f g : LevelFindings) → f.sound ≡ g.sound → f.changed ≡ g.changed → f.missing ≡ g.missing → f.unchecked ≡ g.unchecked → f ≡ g
same_counts f g p q r s =
    ap {B = LevelFindings} (λ (n : ℕ). record f { sound = n }) p ∙ ap {B = LevelFindings} (λ (n : ℕ). record f { sound = g.sound; changed = n }) q
    ∙ ap {B = LevelFindings} (λ (n : ℕ). record { sound = g.sound; changed = g.changed; missing = n; unchecked = f.unchecked }) r
    ∙ ap {B = LevelFindings} (λ (n : ℕ). record g { unchecked = n }) s

plus_none : (n : ℕ) → n + 0 ≡ n
plus_none n = omega arith

tally_more : (rows : List Row) (row : Row) → tally (rows ++ row ∷ []) ≡ one_more (tally rows) (finding_of row)
tally_more rows None = same_counts _ _ (one_count is_sound rows None ∙ plus_none _) (one_count is_changed rows None ∙ plus_none _) (one_count is_missing rows None) (one_count is_unchecked rows None ∙ plus_none _)
tally_more rows (Some (r, Sound)) = same_counts _ _ (one_count is_sound rows (Some (r, Sound))) (one_count is_changed rows (Some (r, Sound)) ∙ plus_none _) (one_count is_missing rows (Some (r, Sound)) ∙ plus_none _) (one_count is_unchecked rows (Some (r, Sound)) ∙ plus_none _)
tally_more rows (Some (r, Changed)) = same_counts _ _ (one_count is_sound rows (Some (r, Changed)) ∙ plus_none _) (one_count is_changed rows (Some (r, Changed))) (one_count is_missing rows (Some (r, Changed)) ∙ plus_none _) (one_count is_unchecked rows (Some (r, Changed)) ∙ plus_none _)
tally_more rows (Some (r, Unchecked)) = same_counts _ _ (one_count is_sound rows (Some (r, Unchecked)) ∙ plus_none _) (one_count is_changed rows (Some (r, Unchecked)) ∙ plus_none _) (one_count is_missing rows (Some (r, Unchecked)) ∙ plus_none _) (one_count is_unchecked rows (Some (r, Unchecked)))

-- a row of the level itself
here_more : (level : ℕ) (rows : List Row) (row : Row) → IsAtLevel (length rows) level → level_rows level (rows ++ row ∷ []) ≡ level_rows level rows ++ row ∷ []
here_more level rows row (least, most) =
    let k = 2 ^ level - 1 in
    let within : k ≤ length rows = omega arith in
    let split : drop k (rows ++ row ∷ []) ≡ drop k rows ++ row ∷ [] = drop-append-le k rows (row ∷ []) within in
    let count : length (drop k rows) ≡ length rows - k = length-drop k rows in
    let all : length (drop k rows ++ row ∷ []) ≡ length (drop k rows) + 1 = length-append (drop k rows) (row ∷ []) in
    ap (take (2 ^ level)) split ∙ take_all (2 ^ level) (drop k rows ++ row ∷ []) (omega (arith, count, all)) ∙ ap (λ (xs : List Row). xs ++ row ∷ []) (sym (take_all (2 ^ level) (drop k rows) (omega (arith, count))))

-- a row of a level below
below_more_rows : (level : ℕ) (rows : List Row) (row : Row) → 2 * 2 ^ level ≤ length rows + 1 → level_rows level (rows ++ row ∷ []) ≡ level_rows level rows
below_more_rows level rows row full =
    let k = 2 ^ level - 1 in
    let split : drop k (rows ++ row ∷ []) ≡ drop k rows ++ row ∷ [] = drop-append-le k rows (row ∷ []) (omega arith) in
    let count : length (drop k rows) ≡ length rows - k = length-drop k rows in
    ap (take (2 ^ level)) split ∙ take-append-le (2 ^ level) (drop k rows) (row ∷ []) (omega (arith, count))

-- a row of a level above
above_more_rows : (level : ℕ) (rows : List Row) (row : Row) → length rows + 1 < 2 ^ level → level_rows level (rows ++ row ∷ []) ≡ level_rows level rows
above_more_rows level rows row none =
    let k = 2 ^ level - 1 in
    let all : length (rows ++ row ∷ []) ≡ length rows + 1 = length-append rows (row ∷ []) in
    ap (take (2 ^ level)) (drop_all k (rows ++ row ∷ []) (omega (arith, all)) ∙ sym (drop_all k rows (omega arith)))

twice_power : (a b : ℕ) → a < b → 2 * 2 ^ a ≤ 2 ^ b
twice_power a b less = let more : 2 ^ (a + 1) ≤ 2 ^ b = pow-le-pow_right {n = 2} (omega arith) {i = a + 1} {j = b} (omega arith) in let two : 2 ^ (a + 1) ≡ 2 ^ a * 2 = pow-add 2 a 1 in omega (arith, more, two)

level_after : (depth : ℕ) (rows : List Row) (row : Row) (level i : ℕ) → IsAtLevel (length rows) level → level < depth + 1 → i < depth + 1
    → get_or (set (levels_of depth rows) level (one_more (get_or (levels_of depth rows) level none_found) (finding_of row))) i none_found ≡ tally (level_rows i (rows ++ row ∷ []))
level_after depth rows row level i at within inside =
    let f = λ (k : ℕ). tally (level_rows k rows) in
    let count : length (levels_of depth rows) ≡ depth + 1 = length-map-range_with_len f 0 (depth + 1) in
    let old : (k : ℕ) → k < depth + 1 → get_or (levels_of depth rows) k none_found ≡ f k = λ k below. get_or-map-range_with_len f 0 (depth + 1) k k none_found below (omega arith) in
    let changed = one_more (get_or (levels_of depth rows) level none_found) (finding_of row) in
    elim (cases_eq i level) [
      | inl same ↦
          ap (λ (k : ℕ). get_or (set (levels_of depth rows) level changed) k none_found) same
          ∙ get_or-set_same (levels_of depth rows) level changed none_found (omega (arith, count))
          ∙ ap (λ (g : LevelFindings). one_more g (finding_of row)) (old level within)
          ∙ sym (tally_more (level_rows level rows) row) ∙ sym (ap tally (here_more level rows row at)) ∙ ap (λ (k : ℕ). tally (level_rows k (rows ++ row ∷ []))) (sym same)
      | inr other ↦
          get_or-set_other (levels_of depth rows) level i changed none_found other ∙ old i inside
          ∙ ap tally (elim (cases_lt i level) [
            | inl less ↦ let two = twice_power i level less in sym (below_more_rows i rows row (omega (arith, two, at.0)))
            | inr more ↦ let two = twice_power level i (omega (arith, other, more)) in sym (above_more_rows i rows row (omega (arith, two, at.1)))
          ])
    ]

pub levels_more : (depth : ℕ) (rows : List Row) (row : Row) (new : List LevelFindings) → length rows < node_count depth → IsCounted (levels_of depth rows) (length rows) (finding_of row) new
    → new ≡ levels_of depth (rows ++ row ∷ [])
levels_more depth rows row new within is =
    let f = λ (k : ℕ). tally (level_rows k rows) in
    let g = λ (k : ℕ). tally (level_rows k (rows ++ row ∷ [])) in
    let count : length (levels_of depth rows) ≡ depth + 1 = length-map-range_with_len f 0 (depth + 1) in
    let count_after : length (levels_of depth (rows ++ row ∷ [])) ≡ depth + 1 = length-map-range_with_len g 0 (depth + 1) in
    let changed = one_more (get_or (levels_of depth rows) is.level none_found) (finding_of row) in
    let long : length (set (levels_of depth rows) is.level changed) ≡ length (levels_of depth rows) = length-set (levels_of depth rows) is.level changed in
    let below : is.level < depth + 1 = level_below is.level (length rows + 1) (depth + 1) is.at_level.0 (omega arith) in
    is.counted ∙ ext_get_or none_found (set (levels_of depth rows) is.level changed) (levels_of depth (rows ++ row ∷ [])) (long ∙ count ∙ sym count_after)
    (λ i inside. level_after depth rows row is.level i is.at_level below (omega (arith, inside, long, count)) ∙ sym (get_or-map-range_with_len g 0 (depth + 1) i i none_found (omega (arith, inside, long, count)) (omega arith)))

no_rows_tally : (level : ℕ) → tally (level_rows level []) ≡ none_found
no_rows_tally level = ap (λ (rows : List Row). tally (take (2 ^ level) rows)) (drop_all (2 ^ level - 1) [] (omega arith)) ∙ ap tally (take_all (2 ^ level) [] (omega arith))

pub levels_none : (depth : ℕ) → replicate (depth + 1) none_found ≡ levels_of depth []
levels_none depth =
    let f = λ (k : ℕ). tally (level_rows k []) in
    let count : length (levels_of depth []) ≡ depth + 1 = length-map-range_with_len f 0 (depth + 1) in
    ext_get_or none_found (replicate (depth + 1) none_found) (levels_of depth []) (length-replicate (depth + 1) none_found ∙ sym count)
    (λ i inside. get_or-replicate (depth + 1) i none_found none_found (omega (arith, inside, length-replicate (depth + 1) none_found)) ∙ sym (no_rows_tally i)
    ∙ sym (get_or-map-range_with_len f 0 (depth + 1) i i none_found (omega (arith, inside, length-replicate (depth + 1) none_found)) (omega arith)))

-- the findings of a stage, once it has taken rows after others
pub levels_from : {T : Type 0} (sees : T → List ℕ → T → Type 0) (depth : ℕ) (before rows : List Row) (a b : Stage T) → a.scan.depth ≡ depth → length before ≡ a.scan.node → a.levels ≡ levels_of depth before
    → FoldsTo (TakesRow sees) a rows b → b.levels ≡ levels_of depth (before ++ rows)
levels_from sees depth before [] a b deep count is folds = ap (λ s. s.levels) (sym folds) ∙ is ∙ ap (levels_of depth) (sym (append-nil before))
levels_from sees depth before (row ∷ rows) a b deep count is (c, takes, rest) =
    let next = takes_next a.scan row c.scan takes.scan in
    let within : length before < node_count depth = omega (arith, count, next.within, ap node_count deep) in
    let now : c.levels ≡ levels_of depth (before ++ row ∷ []) = levels_more depth before row c.levels within
    (subst (λ (n : ℕ). IsCounted (levels_of depth before) n (finding_of row) c.levels) (sym count) (subst (λ (ls : List LevelFindings). IsCounted ls a.scan.node (finding_of row) c.levels) is takes.levels)) in
    levels_from sees depth (before ++ row ∷ []) rows c b (next.depth ∙ deep) (length-append before (row ∷ []) ∙ omega (arith, count, next.node)) now rest ∙ ap (levels_of depth) (append_assoc before (row ∷ []) rows)
