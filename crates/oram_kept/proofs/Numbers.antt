-- The numbers that are read from bytes.
use Rattle.std.proofs.Common.{◌≡◌, ℕ, ◌-◌, ◌*◌, List, [], ◌∷◌, ◌++◌, length, sym, ap, ◌∙◌, arith, append_assoc, append-nil, length-append}
use Rattle.std.proofs.lemmas.Grind.{flat_map-append}
use Rattle.oram_kept.specs.Text.{number_bytes, table_bytes}

-- Numbers were appended to a table for all bytes but the rest.
abbrev pub AreAdded : (old new bytes rest : List ℕ) → Type 0
AreAdded old new bytes rest = (added : List ℕ) × (new ≡ old ++ added) × (table_bytes added ++ rest ≡ bytes)

pub none_added : (old bytes rest : List ℕ) → rest ≡ bytes → AreAdded old old bytes rest
none_added old bytes rest is = ([], sym (append-nil old), is)

pub one_added : (old mid new four bytes rest rest' : List ℕ) (n : ℕ) → rest ≡ four ++ rest' → new ≡ mid ++ n ∷ [] → number_bytes n ≡ four → AreAdded old mid bytes rest
    → AreAdded old new bytes rest'
one_added old mid new four bytes rest rest' n cut grown is before =
    let added : List ℕ = before.0 in (
      added ++ n ∷ [],
      grown ∙ ap (λ (l : List ℕ). l ++ n ∷ []) before.1 ∙ append_assoc old added (n ∷ []),
      ap (λ (l : List ℕ). l ++ rest') (flat_map-append number_bytes added (n ∷ []) ∙ ap (λ (l : List ℕ). table_bytes added ++ l) (append-nil (number_bytes n) ∙ is))
          ∙ append_assoc (table_bytes added) four rest' ∙ ap (λ (l : List ℕ). table_bytes added ++ l) (sym cut) ∙ before.2,
    )

pub one_less : (count : ℕ) (rest four rest' : List ℕ) → rest ≡ four ++ rest' → length four ≡ 4 → length rest ≡ 4 * count → (k : ℕ) × (length rest' ≡ 4 * k)
one_less count rest four rest' cut long whole = (count - 1, omega (arith, whole, long, ap length cut, length-append four rest'))

pub all_added : (old new bytes rest : List ℕ) → length rest ≡ 0 → AreAdded old new bytes rest → (added : List ℕ) × (new ≡ old ++ added) × (table_bytes added ≡ bytes)
all_added old new bytes [] none added = (added.0, added.1, sym (append-nil (table_bytes added.0)) ∙ added.2)
all_added old new bytes (x ∷ rest) none added = absurd (omega (arith, none))
