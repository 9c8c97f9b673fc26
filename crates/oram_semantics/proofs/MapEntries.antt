-- One entry of a map block is changed.
use Rattle.std.proofs.Common.{◌≡◌, ◌≢◌, ℕ, ◌+◌, ◌-◌, ◌*◌, ◌^◌, ◌<◌, ◌≤◌, List, ◌++◌, length, take, drop, slice_range, ap, sym, ◌∙◌, arith, append_assoc, length-append, length-take, length-drop, inl, inr, ◌⊎◌}
use Rattle.std.specs.Int.{w32, to_be_bytes, from_be_bytes}
use borrow.Rule.Slice.PartMut.{put_mid}
use Rattle.std.proofs.lemmas.Slice.{between-put_mid, take-put_mid_below, drop-put_mid}
use Rattle.std.proofs.lemmas.List.{drop-take, drop-drop}
use Rattle.std.proofs.lemmas.Nat.{from_be_bytes-to_be_bytes_4}
use Rattle.std.proofs.lemmas.Bool.{cases_order}
use Rattle.oram_tree.specs.Edits.{with_entry}
use Rattle.oram_semantics.specs.Blocks.{entry_in}
use Rattle.oram_semantics.proofs.Maps.{four_long}

edit_is : (bytes : List ℕ) (j e : ℕ) → with_entry bytes j e ≡ put_mid (4 * j) 4 bytes (to_be_bytes w32 e)
unfolding with_entry
edit_is bytes j e =
    append_assoc (take (4 * j) bytes) (to_be_bytes w32 e) (drop (4 * j + 4) bytes)
    ∙ ap (λ xs. take (4 * j) bytes ++ (to_be_bytes w32 e ++ xs)) (sym (drop-drop 4 (4 * j) bytes))

pub entry_here : (bytes : List ℕ) (j e : ℕ) → 4 * j + 4 ≤ length bytes → e < 2 ^ 32 → entry_in (with_entry bytes j e) j ≡ e
unfolding entry_in
entry_here bytes j e fits small =
    let four : length (to_be_bytes w32 e) ≡ 4 * j + 4 - 4 * j = omega (arith, four_long e) in
    ap (λ xs. from_be_bytes w32 (slice_range xs (4 * j) (4 * j + 4))) (edit_is bytes j e)
    ∙ ap (from_be_bytes w32) (between-put_mid (4 * j) 4 bytes (to_be_bytes w32 e) (4 * j + 4) (omega arith) four)
    ∙ from_be_bytes-to_be_bytes_4 e small

part_same : (xs ys : List ℕ) (k : ℕ) → (take (4 * k + 4) xs ≡ take (4 * k + 4) ys) ⊎ (drop (4 * k) xs ≡ drop (4 * k) ys)
    → slice_range xs (4 * k) (4 * k + 4) ≡ slice_range ys (4 * k) (4 * k + 4)
part_same xs ys k (inl front) =
    let whole : 4 * k + (4 * k + 4 - 4 * k) ≡ 4 * k + 4 = omega arith in
    sym (drop-take (4 * k) (4 * k + 4 - 4 * k) xs) ∙ ap (λ n. drop (4 * k) (take n xs)) whole ∙ ap (drop (4 * k)) front
    ∙ sym (ap (λ n. drop (4 * k) (take n ys)) whole) ∙ drop-take (4 * k) (4 * k + 4 - 4 * k) ys
part_same xs ys k (inr back) = ap (take (4 * k + 4 - 4 * k)) back

pub entry_there : (bytes : List ℕ) (j k e : ℕ) → 4 * j + 4 ≤ length bytes → k ≢ j
    → entry_in (with_entry bytes j e) k ≡ entry_in bytes k
unfolding entry_in
entry_there bytes j k e fits ne =
    ap (λ xs. from_be_bytes w32 (slice_range xs (4 * k) (4 * k + 4))) (edit_is bytes j e)
    ∙ ap (from_be_bytes w32) (part_same (put_mid (4 * j) 4 bytes (to_be_bytes w32 e)) bytes k (elim (cases_order k j) [
      | inl same ↦ absurd (ne same)
      | inr apart ↦ elim apart [
        | inl below ↦ inl (take-put_mid_below (4 * j) 4 bytes (to_be_bytes w32 e) (4 * k + 4) (omega arith) (omega arith))
        | inr over ↦ inr (drop-put_mid (4 * j) 4 bytes (to_be_bytes w32 e) (4 * k) (omega arith) (omega arith) (four_long e))
      ]
    ]))

pub length-edit : (bytes : List ℕ) (j e : ℕ) → 4 * j + 4 ≤ length bytes → length (with_entry bytes j e) ≡ length bytes
unfolding with_entry
length-edit bytes j e fits = simp (length-append, length-take, length-drop) (omega (arith, four_long e))
