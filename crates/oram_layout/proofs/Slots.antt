-- The entries of a header, one after the other.
use Rattle.std.proofs.Common.{◌≡◌, inl, inr, ℕ, ◌+◌, ◌-◌, ◌*◌, ◌<◌, ◌≤◌, List, [], ◌∷◌, ◌++◌, length, take, drop, slice_range, Option, None, sym, ◌∙◌, ap, subst, arith}
use Rattle.std.proofs.lemmas.Bool.{cases_eq}
use Rattle.std.proofs.lemmas.List.{drop_at, get_or_append_left, get_or_push, length_push, take_at}
use Rattle.oram_redo.specs.Content.{Content, Has, bytes_at}
use Rattle.oram_redo.proofs.Bytes.{bytes_at-add, length-bytes_at}
use Rattle.oram_layout.specs.Header.{HasTrees, entry_at, entry_bytes}
use Rattle.oram_layout.specs.Trees.{Trees, tree_at}
use Rattle.oram_layout.specs.declared.trees.Tree.{Tree}

-- the bytes of one entry
abbrev pub slot : List ℕ → ℕ → List ℕ
slot bytes n = slice_range bytes (n * 16) ((n + 1) * 16)

-- the first entries are those of these trees
pub record HasSlots (bytes : List ℕ) (trees : Trees) (n : ℕ) : Type 0 where
  pub long : length trees ≡ n
  pub each : (k : ℕ) → k < n → slot bytes k ≡ entry_bytes (tree_at trees k)

pub slots_none : (bytes : List ℕ) (trees : Trees) → trees ≡ [] → HasSlots bytes trees 0
slots_none bytes trees none = record { long = ap length none; each = λ k h. absurd (omega arith) }

pub slots_more : (bytes : List ℕ) (trees more : Trees) (n : ℕ) (found : Option Tree) → more ≡ trees ++ found ∷ [] → HasSlots bytes trees n → slot bytes n ≡ entry_bytes found → HasSlots bytes more (n + 1)
slots_more bytes trees more n found grown so_far said =
    subst (λ (l : Trees). HasSlots bytes l (n + 1)) (sym grown) (record {
      long = omega (arith, length_push trees found, so_far.long);
      each = λ k h. elim (cases_eq k n) [
        | inl same ↦ ap (slot bytes) same ∙ said ∙ ap entry_bytes (sym (get_or_push trees found None k (so_far.long ∙ sym same)))
        | inr differ ↦ so_far.each k (omega arith) ∙ ap entry_bytes (sym (get_or_append_left trees (found ∷ []) None k (omega (arith, so_far.long))))
      ];
    })

part_at : (n m l at : ℕ) (c : Content) → take m (drop n (bytes_at (n + (m + l)) at c)) ≡ bytes_at m (at + n) c
part_at n m l at c =
    ap (λ (bs : List ℕ). take m (drop n bs)) (bytes_at-add n (m + l) at c)
    ∙ ap (λ (bs : List ℕ). take m bs) (drop_at (bytes_at n at c) (bytes_at (m + l) (at + n) c) n (length-bytes_at n at c))
    ∙ ap (λ (bs : List ℕ). take m bs) (bytes_at-add m l (at + n) c)
    ∙ take_at (bytes_at m (at + n) c) (bytes_at l (at + n + m) c) m (length-bytes_at m (at + n) c)

part_is : (bytes : List ℕ) (at : ℕ) (c : Content) (n m : ℕ) → Has bytes at c → n + m ≤ length bytes → take m (drop n bytes) ≡ bytes_at m (at + n) c
part_is bytes at c n m has fits =
    let long : length bytes ≡ n + (m + (length bytes - (n + m))) = omega arith in
    ap (λ (bs : List ℕ). take m (drop n bs)) (sym has ∙ ap (λ (k : ℕ). bytes_at k at c) long) ∙ part_at n m (length bytes - (n + m)) at c

pub slot_is : (bytes : List ℕ) (c : Content) (k : ℕ) → length bytes ≡ 4096 → Has bytes 4096 c → k < 256 → slot bytes k ≡ bytes_at 16 (entry_at k) c
slot_is bytes c k long has h =
    let wide : (k + 1) * 16 - k * 16 ≡ 16 = omega arith in
    let place : 4096 + k * 16 ≡ entry_at k = omega arith in
    ap (λ (m : ℕ). take m (drop (k * 16) bytes)) wide ∙ part_is bytes 4096 c (k * 16) 16 has (omega arith) ∙ ap (λ (p : ℕ). bytes_at 16 p c) place

pub slots_all : (bytes : List ℕ) (trees : Trees) (n : ℕ) → length bytes ≡ 4096 → n ≡ 256 → HasSlots bytes trees n → (c : Content) → Has bytes 4096 c → HasTrees trees c
slots_all bytes trees n long all slots c has = record {
  all = slots.long ∙ all;
  each = λ k h. sym (slot_is bytes c k long has h) ∙ slots.each k (omega arith);
}

-- an entry that isn't that of a tree or of none is in no header
pub slot_damaged : (bytes : List ℕ) (n : ℕ) → length bytes ≡ 4096 → n < 256 → ((found : Option Tree) → slot bytes n ≡ entry_bytes found → ⊥) → (trees : Trees) (c : Content) → Has bytes 4096 c → HasTrees trees c → ⊥
slot_damaged bytes n long h none trees c has its = none (tree_at trees n) (slot_is bytes c n long has h ∙ its.each n h)
