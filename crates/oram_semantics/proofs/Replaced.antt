-- The records after a STORE: those of its path are replaced, and no others.
use Rattle.std.proofs.Math.Path.{fun_ext}
use Rattle.std.proofs.Common.{◌≡◌, ◌≢◌, ℕ, zero, suc, ◌+◌, ◌^◌, ◌<◌, ◌≤◌, ◌==◌, true, false, cond, List, [], ◌∷◌, Some, None, unwrap_or, refl, ap, sym, ◌∙◌, arith, inl, inr}
use Rattle.std.specs.List.{find, range_with_len}
use Rattle.std.specs.Option.{option_map}
use Rattle.std.proofs.lemmas.Nat.{from_be_bytes-to_be_bytes_4}
use Rattle.std.proofs.lemmas.Bool.Decides.{nat_tests, eqb_tells}
use Rattle.oram_geometry.specs.Path.{node_on, IsOffPath}
use Rattle.oram_geometry.proofs.Nodes.{node_on-injective}
use Rattle.oram_wire.specs.HostMessages.{store_body}
use Rattle.oram_hash.specs.Path.{Path, path_of, record_at, node_at}
use Rattle.oram_hash.specs.Tree.{IsReplaced}
use Rattle.oram_semantics.specs.Scheme.{Scheme}
use Rattle.oram_semantics.specs.Messages.{level_on, record_on, stored_path, message_tree, is_store, written}
use Rattle.oram_semantics.specs.Moves.{records_after}

-- the level of a node of a path is found
found_from : (deep x l a n : ℕ) → l ≤ deep → a ≤ l → l < a + n → a + n ≤ deep + 1
    → find (λ k. node_on deep x k == node_on deep x l) (range_with_len a n) ≡ Some l
found_from deep x l a zero below low high fit = absurd (omega arith)
found_from deep x l a (suc n) below low high fit =
    elim (eqb_tells (node_on deep x a) (node_on deep x l)) [
      | inl t ↦
          let same : a ≡ l = node_on-injective deep x a l (omega arith) below t.1 in
          ap (λ b. cond b (Some a) (find (λ k. node_on deep x k == node_on deep x l) (range_with_len (a + 1) n))) t.0
          ∙ ap (λ (k : ℕ). Some k) same
      | inr f ↦
          let apart : a ≢ l = λ e. f.1 (ap (node_on deep x) e) in
          ap (λ b. cond b (Some a) (find (λ k. node_on deep x k == node_on deep x l) (range_with_len (a + 1) n))) f.0
          ∙ found_from deep x l (a + 1) n below (omega arith) (omega arith) (omega arith)
    ]

pub level_here : (deep x l : ℕ) → l ≤ deep → level_on deep x (node_on deep x l) ≡ Some l
unfolding level_on
level_here deep x l below = found_from deep x l 0 (deep + 1) below (omega arith) (omega arith) (omega arith)

none_from : (deep x m a n : ℕ) → IsOffPath deep x m → a + n ≤ deep + 1
    → find (λ k. node_on deep x k == m) (range_with_len a n) ≡ None
none_from deep x m a zero off fit = refl
none_from deep x m a (suc n) off fit =
    elim (eqb_tells (node_on deep x a) m) [
      | inl t ↦ absurd (off a (omega arith) (sym t.1))
      | inr f ↦ ap (λ b. cond b (Some a) (find (λ k. node_on deep x k == m) (range_with_len (a + 1) n))) f.0 ∙ none_from deep x m (a + 1) n off (omega arith)
    ]

pub level_none : (deep x m : ℕ) → IsOffPath deep x m → level_on deep x m ≡ None
unfolding level_on
level_none deep x m off = none_from deep x m 0 (deep + 1) off (omega arith)

written_store : (v : Scheme) (m : List ℕ) (n : ℕ) → is_store m ≡ true
    → written v m (message_tree m) n ≡ record_on (stored_path v m) n
unfolding written
written_store v m n store =
    let here : (message_tree m == message_tree m) ≡ true = grind (arith, nat_tests) in
    rw (here, store) refl

written_elsewhere : (v : Scheme) (m : List ℕ) (i n : ℕ) → message_tree m ≢ i → written v m i n ≡ None
unfolding written
written_elsewhere v m i n ne = let other : (message_tree m == i) ≡ false = grind (arith, nat_tests) in rw other refl

-- the record that a STORE leaves at a node
left_at : (v : Scheme) (records : ℕ → ℕ → List ℕ) (m : List ℕ) (n : ℕ) (p : Path) → is_store m ≡ true → stored_path v m ≡ p →
    records_after v records (m ∷ []) (message_tree m) n ≡ unwrap_or (record_on p n) (records (message_tree m) n)
left_at v records m n p store path =
    ap (λ o. unwrap_or o (records (message_tree m) n)) (written_store v m n store ∙ ap (λ (q : Path). record_on q n) path)

-- a STORE leaves its own records at the nodes of its path; elsewhere in its tree the old records stay
replaced_by : (v : Scheme) (records : ℕ → ℕ → List ℕ) (m : List ℕ) (p q : Path) → is_store m ≡ true → stored_path v m ≡ q
    → p.depth ≡ q.depth → p.leaf ≡ q.leaf
    → IsReplaced p q (records (message_tree m)) (records_after v records (m ∷ []) (message_tree m))
replaced_by v records m p q store path deep leaf = record {
  on_path = λ l below.
      left_at v records m (node_at p l) q store path
      ∙ ap (λ n. unwrap_or (record_on q n) (records (message_tree m) (node_at p l))) (ap (λ k. node_on k p.leaf l) deep ∙ ap (λ x. node_on q.depth x l) leaf)
      ∙ ap (λ o. unwrap_or (option_map (record_at q) o) (records (message_tree m) (node_at p l))) (level_here q.depth q.leaf l (omega arith));
  off_path = λ n off.
      left_at v records m n q store path
      ∙ ap (λ o. unwrap_or (option_map (record_at q) o) (records (message_tree m) n)) (level_none q.depth q.leaf n (λ l below e. off l (omega arith) (e ∙ sym (ap (λ k. node_on k p.leaf l) deep ∙ ap (λ x. node_on q.depth x l) leaf))));
}

path_is : (v : Scheme) (i leaf : ℕ) (bytes : List ℕ) → leaf < 2 ^ 32
    → stored_path v (store_body i leaf bytes) ≡ path_of v.device i leaf v.cipher.overhead bytes
path_is v i leaf bytes small = ap (λ x. path_of v.device i x v.cipher.overhead bytes) (from_be_bytes-to_be_bytes_4 leaf small)

-- A STORE of a leaf's path replaces the path's records in its tree,
pub store_replaces : (v : Scheme) (records : ℕ → ℕ → List ℕ) (i leaf : ℕ) (old bytes : List ℕ) → leaf < 2 ^ 32 →
    IsReplaced (path_of v.device i leaf v.cipher.overhead old) (path_of v.device i leaf v.cipher.overhead bytes) (records i) (records_after v records (store_body i leaf bytes ∷ []) i)
store_replaces v records i leaf old bytes small =
    replaced_by v records (store_body i leaf bytes) (path_of v.device i leaf v.cipher.overhead old) (path_of v.device i leaf v.cipher.overhead bytes) refl (path_is v i leaf bytes small) refl refl

-- and leaves the other trees unchanged.
pub store_leaves : (v : Scheme) (records : ℕ → ℕ → List ℕ) (i leaf k : ℕ) (bytes : List ℕ) → k ≢ i
    → records_after v records (store_body i leaf bytes ∷ []) k ≡ records k
store_leaves v records i leaf k bytes ne =
    fun_ext (λ n. ap (λ o. unwrap_or o (records k n)) (written_elsewhere v (store_body i leaf bytes) k n (λ e. ne (sym e))))
