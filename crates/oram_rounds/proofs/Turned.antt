-- The answers to FETCHes and those to the STOREs behind them, told apart by the number of FETCHes.
use Rattle.std.proofs.Common.{◌≡◌, ℕ, ◌-◌, ◌≤◌, arith, List, ◌++◌, length, take, drop, sym, ap, ◌∙◌}
use Rattle.std.specs.Global.{Vec}
use Rattle.std.proofs.lemmas.List.{length-append, length-drop, length-map, length-take-le, map-append, take-append-drop, take_all}
use Rattle.oram_rounds.specs.Batches.{texts}

-- those behind an index
pub behind : (xs : List (Vec ℕ)) (k : ℕ) → take (length xs - k) (drop k xs) ≡ drop k xs
behind xs k = take_all (length xs - k) (drop k xs) (omega (arith, length-drop k xs))

module _ (fetches stores answers : List (Vec ℕ)) (k : ℕ) (is : k ≡ length fetches) (all : length (texts answers) ≡ length (texts fetches ++ texts stores)) where
  pub enough : k ≤ length answers
  enough = omega (
    arith,
    is,
    all,
    length-append (texts fetches) (texts stores),
    length-map fetches (λ (v : Vec ℕ). v.items),
    length-map answers (λ (v : Vec ℕ). v.items),
  )

  pub split : texts answers ≡ texts (take k answers) ++ texts (drop k answers)
  split = ap texts (sym (take-append-drop k answers)) ∙ map-append (λ (v : Vec ℕ). v.items) (take k answers) (drop k answers)

  pub count : length (take k answers) ≡ length fetches
  count = length-take-le k answers enough ∙ is

  pub count_texts : length (texts (take k answers)) ≡ length (texts fetches)
  count_texts = length-map (take k answers) (λ (v : Vec ℕ). v.items) ∙ count ∙ sym (length-map fetches (λ (v : Vec ℕ). v.items))
