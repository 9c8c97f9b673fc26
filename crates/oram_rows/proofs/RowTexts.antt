-- A text is that of one list of rows.
use Rattle.std.proofs.Common.{◌≡◌, ℕ, ◌≤◌, arith, List, [], ◌∷◌, ◌++◌, length, take, drop, get_or, refl, sym, ap, ◌∙◌, append_assoc, append-nil}
use Rattle.std.specs.Prelude.{Option, None, Some, IfSome}
use Rattle.std.specs.List.{AllByRecursion}
use Rattle.std.proofs.lemmas.Grind.{flat_map-append}
use Rattle.std.proofs.lemmas.List.{drop_at, length-append, take_at}
use Rattle.oram_records.specs.Messages.{row_text, rows_text}

-- the text of one row more
pub text_more : (rows : List (Option (List ℕ))) (row : Option (List ℕ)) → rows_text (rows ++ row ∷ []) ≡ rows_text rows ++ row_text row
text_more rows row = flat_map-append row_text rows (row ∷ []) ∙ ap (λ (xs : List ℕ). rows_text rows ++ xs) (append-nil (row_text row))

pub all_more : {X : Type 0} (P : X → Type 0) (front : List X) (x : X) → AllByRecursion P front → P x → AllByRecursion P (front ++ x ∷ [])
all_more P [] x are is = (is, tt)
all_more P (b ∷ front) x are is = (are.0, all_more P front x are.1 is)

pub all_inside : {X : Type 0} (P : X → Type 0) (front rest : List X) (x : X) → AllByRecursion P (front ++ x ∷ rest) → P x
all_inside P [] rest x are = are.0
all_inside P (b ∷ front) rest x are = all_inside P front rest x are.1

-- for records of this length
module _ (len : ℕ) where
  abbrev pub IsLong : Option (List ℕ) → Type 0
  IsLong row = IfSome row (λ r. length r ≡ len)

  -- a text begins with one row
  one_row : (a b : Option (List ℕ)) (x y : List ℕ) → IsLong a → IsLong b → row_text a ++ x ≡ row_text b ++ y → (a ≡ b) × (x ≡ y)
  one_row None None x y p q e = (refl, ap (drop 1) e)
  one_row None (Some s) x y p q e = absurd (let no : 0 ≡ 1 = ap (λ (t : List ℕ). get_or t 0 0) e in omega (arith, no))
  one_row (Some r) None x y p q e = absurd (let no : 1 ≡ 0 = ap (λ (t : List ℕ). get_or t 0 0) e in omega (arith, no))
  one_row (Some r) (Some s) x y p q e =
      let f : r ++ x ≡ s ++ y = ap (drop 1) e in
      let same : r ≡ s = sym (take_at r x len p) ∙ ap (take len) f ∙ take_at s y len q in
      let rest : x ≡ y = sym (drop_at r x len p) ∙ ap (drop len) f ∙ drop_at s y len q in
      (ap (λ (b : List ℕ). Some b) same, rest)

  -- if a text begins with some rows and is that of others, these begin with them
  pub rows_front : (rows all : List (Option (List ℕ))) (rest : List ℕ) → AllByRecursion IsLong rows → AllByRecursion IsLong all → length rows ≤ length all → rows_text rows ++ rest ≡ rows_text all
      → (more : List (Option (List ℕ))) × (all ≡ rows ++ more) × (rest ≡ rows_text more)
  rows_front [] all rest p q low e = (all, refl, e)
  rows_front (a ∷ rows) [] rest p q low e = absurd (omega (arith, low))
  rows_front (a ∷ rows) (b ∷ all) rest p q low e =
      let front = one_row a b (rows_text rows ++ rest) (rows_text all) p.0 q.0 (sym (append_assoc (row_text a) (rows_text rows) rest) ∙ e) in
      let more = rows_front rows all rest p.1 q.1 (omega (arith, low)) front.1 in
      (more.0, ap (λ (x : Option (List ℕ)). x ∷ all) (sym front.0) ∙ ap (λ (xs : List (Option (List ℕ))). a ∷ xs) more.1, more.2)

  -- so a list of as many rows is the same
  pub same_rows : (rows all : List (Option (List ℕ))) → AllByRecursion IsLong rows → AllByRecursion IsLong all → length rows ≡ length all → rows_text rows ≡ rows_text all → rows ≡ all
  same_rows rows all p q count e = by (rows_front rows all [] p q (omega (arith, count)) (append-nil (rows_text rows) ∙ e))
    where
      by : ((more : List (Option (List ℕ))) × (all ≡ rows ++ more) × ([] ≡ rows_text more)) → rows ≡ all
      by ([], is, text) = sym (is ∙ append-nil rows)
      by (x ∷ more, is, text) = absurd (omega (arith, count, ap length is, length-append rows (x ∷ more)))
