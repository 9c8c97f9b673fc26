-- Which keys a table has.
use Rattle.std.proofs.Common.{◌≡◌, ◌∙◌, sym, refl, ℕ, List, [], ◌∷◌, map, Bool, true, ◌&&◌, ◌⊎◌, Option, Some, None, is_some, String, Global, Ordering, Less, Equal, Greater, string_bytes, nat_cmp, inl, inr, rules, codes}
use Rattle.std.specs.Prelude.{option_and_then}
use Rattle.std.specs.List.{list_all, list_any}
use Rattle.std.specs.Str.{bytes_eq}
use Rattle.std.specs.Ordering.{is_eq, match_ordering}
use Rattle.std.specs.Cmp.{tied_itself}
use Rattle.std.specs.Cmp.Lexicographic.{slice_cmp}
use Rattle.std.proofs.lemmas.Bool.{and_parts}
use Rattle.std.proofs.lemmas.Cmp.{nat_list_cmp_total}
use Rattle.std.proofs.lemmas.Map.Text.{is_eq-slice_cmp}
use Rattle.std.proofs.lemmas.Slice.Eq.{bytes_eq-Decides}
use Rattle.toml.specs.Data.{Data, Members, array, as_str, boolean, datetime, float, integer, string, table}
use Rattle.toml.specs.View.{members_view}
use Rattle.toml.specs.declared.value.Value.{Value}
use Rattle.oram_cli.specs.Tables.{HasHex, HasOnly, HasSealer, HasText}
use Rattle.oram_cli.specs.declared.input.InputFault.{InputFault}
use Rattle.oram_cli.specs.declared.input.InputFault.TheVariants.{Bad}

abbrev Entry : Type 0
Entry = String Global × Value

-- whether the key is one of `keys`
abbrev is_in : List (List ℕ) → String Global → Bool
is_in keys key = list_any (λ k. bytes_eq k (string_bytes key)) keys

same_text : (a b : List ℕ) → bytes_eq a b ≡ true → a ≡ b
same_text a b h = search (rules, bytes_eq-Decides)

found_at : (o : Ordering) (rest : Option Data) (d : Data) → is_some (match_ordering o rest (Some d) rest) ≡ true → (is_eq o ≡ true) ⊎ (is_some rest ≡ true)
found_at Less rest d h = inr h
found_at Equal rest d h = inl refl
found_at Greater rest d h = inr h

found_later : (o : Ordering) (rest : Option Data) (d : Data) → is_some rest ≡ true → is_some (match_ordering o rest (Some d) rest) ≡ true
found_later Less rest d h = h
found_later Equal rest d h = refl
found_later Greater rest d h = h

both : (a b : Bool) → a ≡ true → b ≡ true → (a && b) ≡ true
both a b h k = rw (h, k) refl

pub only_from : (keys : List (List ℕ)) (es : List Entry) → list_all (is_in keys) (map (λ e. e.0) es) ≡ true → HasOnly keys (members_view es)
only_from keys [] h key found = cc
only_from keys (e ∷ es) h key found =
    let (here, more) = and_parts (is_in keys e.0) (list_all (is_in keys) (map (λ e. e.0) es)) h in
    elim (found_at (slice_cmp nat_cmp key (string_bytes e.0)) _ _ found) [
      | inl same ↦
          let e : key ≡ string_bytes e.0 = same_text key (string_bytes e.0) (sym (is_eq-slice_cmp key (string_bytes e.0)) ∙ same) in
          rw e here
      | inr later ↦ only_from keys es more key later
    ]

pub only_to : (keys : List (List ℕ)) (es : List Entry) → HasOnly keys (members_view es) → list_all (is_in keys) (map (λ e. e.0) es) ≡ true
only_to keys [] h = refl
only_to keys (e ∷ es) h =
    let here = h (string_bytes e.0) (rw (tied_itself nat_list_cmp_total (string_bytes e.0)) refl) in
    let more = only_to keys es (λ key found. h key (found_later (slice_cmp nat_cmp key (string_bytes e.0)) _ _ found)) in
    both (is_in keys e.0) (list_all (is_in keys) (map (λ e. e.0) es)) here more

-- a value that is read as a text is a text
pub text_is : (o : Option Data) (s : List ℕ) → Some s ≡ option_and_then as_str o → o ≡ Some (string s)
text_is None s e = cc
text_is (Some (string t)) s e = cc
text_is (Some (integer z)) s e = cc
text_is (Some (float x)) s e = cc
text_is (Some (boolean b)) s e = cc
text_is (Some (datetime d)) s e = cc
text_is (Some (array ds)) s e = cc
text_is (Some (table ms)) s e = cc

-- if the key of the ChaCha20 sealer is bad, the table has no sealer
pub no_sealer : (t : Members) (e : InputFault) → HasText t (codes "seal") (codes "chacha") → (e ≡ Bad → (k : List ℕ) → HasHex t (codes "seal_key") k → ⊥)
    → e ≡ Bad → (x : Option (List ℕ)) → HasSealer t x → ⊥
no_sealer t e seal none bad None h = let both = sym seal ∙ h.0 in cc
no_sealer t e seal none bad (Some k) h = none bad k h.1
