-- The effect of an eviction on the blocks, in terms of what its lists contain.
use Rattle.std.proofs.Common.{◌≡◌, ◌≢◌, ℕ, ◌+◌, ◌-◌, ◌^◌, ◌≤◌, ◌⊎◌, inl, inr, sym, ap, arith, List, ◌++◌, Contains}
use Rattle.std.proofs.lemmas.Bool.{cases_order}
use Rattle.std.proofs.lemmas.List.Elements.{Contains-append_left, Contains-append_right, Contains-append_cases}
use Rattle.std.proofs.lemmas.List.Sorted.{Contains-permutation, IsPermutation-sym}
use Rattle.oram_geometry.specs.Path.{node_on, MeetsAt}
use Rattle.oram_tree.specs.Content.{IsOnPath}
use Rattle.oram_bucket.specs.Cell.{Cell, IsRising}
use Rattle.oram_stash.specs.Eviction.{IsEviction, listed, all_listed}
use Rattle.oram_stash.proofs.Tight.{Contains-all_listed}
use Rattle.oram_stash.proofs.SortedBlocks.{AreApart, AreApart-permuted, AreApart-left, apart_parts, apart_lists}
use Rattle.oram_stash.proofs.Fewest.{list_of_listed}

-- each block is there once: in one of the path's lists, on its own path, or in the rest
pub record IsEvicted (depth leaf : ℕ) (waiting : List Cell) (lists : List (List Cell)) (rest : List Cell) : Type 0 where
  pub from_lists : (level : ℕ) (c : Cell) → Contains (listed lists level) c → Contains waiting c
  pub from_rest : (c : Cell) → Contains rest c → Contains waiting c
  pub somewhere : (c : Cell) → Contains waiting c → ((level : ℕ) × (level ≤ depth) × Contains (listed lists level) c) ⊎ Contains rest c
  pub on_own_path : (level : ℕ) (c : Cell) → level ≤ depth → Contains (listed lists level) c → IsOnPath depth c.leaf (node_on depth leaf level)
  pub once_in_lists : (i k : ℕ) (c d : Cell) → Contains (listed lists i) c → Contains (listed lists k) d → c.address ≡ d.address → i ≡ k
  pub once_in_all : (i : ℕ) (c d : Cell) → Contains (listed lists i) c → Contains rest d → c.address ≢ d.address

-- paths that meet at a level have the same node there
pub node_where_met : (depth x y level : ℕ) → MeetsAt depth x y level → node_on depth x level ≡ node_on depth y level
unfolding node_on
node_where_met depth x y level meets = ap (λ (n : ℕ). 2 ^ level - 1 + n) meets

pub evicted : (depth slots leaf : ℕ) (waiting : List Cell) (lists : List (List Cell)) (rest : List Cell) → IsRising waiting → IsEviction depth slots leaf waiting lists rest
    → IsEvicted depth leaf waiting lists rest
evicted depth slots leaf waiting lists rest rising e =
    let moved = e.placement.each_once in
    let back = IsPermutation-sym waiting (all_listed lists ++ rest) moved in
    let apart : AreApart (all_listed lists ++ rest) = AreApart-permuted waiting (all_listed lists ++ rest) rising moved in
    let apart_in : AreApart (all_listed lists) = AreApart-left (all_listed lists) rest apart in
    record {
      from_lists = λ level c inside. Contains-permutation (all_listed lists ++ rest) waiting c back (Contains-append_left (all_listed lists) rest c (Contains-all_listed lists level c inside));
      from_rest = λ c inside. Contains-permutation (all_listed lists ++ rest) waiting c back (Contains-append_right (all_listed lists) rest c inside);
      somewhere = λ c waits. elim (Contains-append_cases (all_listed lists) rest c (Contains-permutation waiting (all_listed lists ++ rest) c moved waits)) [
        | inl inside ↦ let at = list_of_listed lists c inside in inl (at.0, omega (arith, at.1, e.placement.levels), at.2)
        | inr stays ↦ inr stays
      ];
      on_own_path = λ level c within inside. (level, within, node_where_met depth leaf c.leaf level (e.placement.on_path level c inside));
      once_in_lists = λ i k c d here there same. elim (cases_order i k) [
        | inl equal ↦ equal
        | inr other ↦ elim other [
          | inl below ↦ absurd (apart_lists lists i k c d apart_in below here there same)
          | inr over ↦ absurd (apart_lists lists k i d c apart_in over there here (sym same))
        ]
      ];
      once_in_all = λ i c d inside stays. apart_parts (all_listed lists) rest c d apart (Contains-all_listed lists i c inside) stays;
    }
