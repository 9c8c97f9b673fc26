-- Cores whose trees agree: one just formatted, and one at rest whose table and map blocks name the leaves that the
-- trees have.
use Rattle.std.proofs.Common.{◌≡◌, ℕ, suc, ◌+◌, ◌-◌, ◌*◌, ◌/◌, ◌%◌, ◌^◌, ◌<◌, ◌≤◌, Bool, if◌then◌else◌, List, [], length, replicate, slice_index, take, refl, ap, sym, ◌∙◌, subst, arith, inl, inr}
use Rattle.std.specs.Int.{w32, from_be_bytes}
use Rattle.std.proofs.lemmas.List.{get_or-replicate, length-replicate, drop-replicate}
use Rattle.std.proofs.lemmas.Nat.{mod_below}
use Rattle.std.proofs.lemmas.Bool.Decides.{eqb_tells}
use Rattle.oram_geometry.specs.Sizes.{trees_of, depth_of, blocks_in, fanout}
use Rattle.oram_tree.specs.Content.{Map}
use Rattle.oram_tree.specs.State.{State as Tree}
use Rattle.oram_semantics.specs.Progress.{Setting}
use Rattle.oram_semantics.specs.Content.{content_of}
use Rattle.oram_semantics.specs.State.{map_entry_of}
use Rattle.oram_semantics.specs.Blocks.{found_in, entry_in}
use Rattle.oram_semantics.specs.Law.{new_state, world_of}
use Rattle.oram_semantics.specs.Agree.{map_entry_for, Agrees, IsOrderly}
use Rattle.oram_semantics.proofs.Bounds.{IsFit}
use Rattle.oram_semantics.proofs.Others.{all_none}
use Rattle.oram_semantics.proofs.Formatting.{empty_content}

-- zeros name no leaf
zeros_name : (n j : ℕ) → 4 * j + 4 ≤ n → entry_in (replicate n 0) j ≡ 0
unfolding entry_in
zeros_name n j fits =
    let rest : n - 4 * j ≡ suc (suc (suc (suc (n - (4 * j + 4))))) = omega arith in
    let four : 4 * j + 4 - 4 * j ≡ 4 = omega arith in
    ap (λ xs. from_be_bytes w32 (take (4 * j + 4 - 4 * j) xs)) (drop-replicate (4 * j) n 0)
    ∙ ap (λ k. from_be_bytes w32 (take k (replicate (n - 4 * j) 0))) four
    ∙ ap (λ k. from_be_bytes w32 (take 4 (replicate k 0))) rest

no_map_entry : (v : Setting) (trees : List Tree) (i b : ℕ) → IsFit v.scheme.device → i < trees_of v.scheme.device
    → b < blocks_in v.scheme.device i → map_entry_for v.scheme (new_state v trees) (world_of v []) i b ≡ 0
no_map_entry v trees i b fit below inside =
    let d = v.scheme.device in
    let n : ℕ = blocks_in d (trees_of d - 1) in
    let j : b % fanout d < fanout d = mod_below b (fanout d) fit.words.some in
    elim (eqb_tells (i + 1) (trees_of d)) [
      | inl last ↦
          let same : i ≡ trees_of d - 1 = let one : i + 1 ≡ trees_of d = last.1 in omega arith in
          ap (λ (t : Bool). if t then slice_index (replicate n 0) b else entry_in (found_in d (content_of v [] (i + 1) (b / fanout d))) (b % fanout d)) last.0
          ∙ get_or-replicate n b 0 0 (subst (λ (k : ℕ). b < blocks_in d k) same inside)
      | inr inner ↦
          ap (λ (t : Bool). if t then slice_index (replicate n 0) b else entry_in (found_in d (content_of v [] (i + 1) (b / fanout d))) (b % fanout d)) inner.0
          ∙ ap (λ (m : Map). entry_in (found_in d (m (b / fanout d))) (b % fanout d)) (empty_content v (i + 1))
          ∙ zeros_name d.block_bytes (b % fanout d) (omega (arith, fit.words.whole))
    ]

-- a core that has just been formatted
pub agrees_new : (v : Setting) (trees : List Tree) → IsFit v.scheme.device → Agrees v.scheme (new_state v trees) (world_of v [])
agrees_new v trees fit = record {
  sized = λ i b below. ap (λ (m : Map). length (found_in v.scheme.device (m b))) (empty_content v i) ∙ length-replicate v.scheme.device.block_bytes 0;
  leaves = λ i b below. subst (λ (m : Map). map_entry_of (m b) ≤ 2 ^ depth_of v.scheme.device i) (sym (empty_content v i)) (omega arith);
  others = λ i b below inside apart. no_map_entry v trees i b fit below inside ∙ sym (ap (λ (m : Map). map_entry_of (m b)) (empty_content v i));
  between = tt;
}

pub orderly_new : (v : Setting) (trees : List Tree) → IsFit v.scheme.device → IsOrderly v.scheme (new_state v trees)
orderly_new v trees fit = record {
  sized = length-replicate (blocks_in v.scheme.device (trees_of v.scheme.device - 1)) 0;
  queue = all_none _;
  entry_number = let some : 0 < trees_of v.scheme.device = fit.some in omega arith;
  rests = λ none. refl;
}
