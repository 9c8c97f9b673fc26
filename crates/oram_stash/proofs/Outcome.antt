-- Carrying out a plan gives the outcome of an eviction.
use Rattle.std.proofs.Common.{◌≡◌, ℕ, ◌+◌, ◌<◌, ◌≤◌, true, List, ◌++◌, length, map, get_or, None, Some, Option, true, refl, ap, subst, ◌∙◌, inl, inr, arith}
use mathlib.Core.Bool.{false≢true}
use Rattle.std.specs.Option.{IfSome}
use Rattle.std.specs.List.{All, Contains, count_by}
use Rattle.std.specs.List.Sorted.{IsPermutation}
use Rattle.std.proofs.lemmas.List.{get_or_default, get_or-map, length-map}
use Rattle.oram_bucket.specs.declared.block.Block.{Block}
use Rattle.oram_geometry.specs.Path.{MeetsAt}
use Rattle.oram_bucket.specs.Cell.{IsRising}
use Rattle.oram_stash.specs.Plan.{level_at, is_level, stays, picked, IsAbove, IsPlan, Reaches}
use Rattle.oram_stash.specs.Eviction.{listed, all_listed, IsNearer, IsEviction}
use Rattle.oram_stash.proofs.FilledLevels.{level_is}
use Rattle.oram_stash.proofs.Picks.{length-picked, All-picked, AllPairs-picked, StandsAt-picked}

-- the blocks' own leaves
abbrev pub leaves_of : List Block → List ℕ
leaves_of blocks = map (λ b. b.leaf) blocks

none_from_stays : (q : Option ℕ) → stays q ≡ true → q ≡ None
none_from_stays None is = refl
none_from_stays (Some k) is = absurd (false≢true is)

module _ (deep slots x : ℕ) (blocks : List Block) (levels : List (Option ℕ)) (lists : List (List Block)) (rest : List Block) (rising : IsRising blocks) (plan : IsPlan (Reaches deep x (leaves_of blocks)) (length blocks) deep slots 0 levels) (to_list : (l : ℕ) → listed lists l ≡ picked (is_level l) levels blocks) (to_rest : rest ≡ picked stays levels blocks) where
  -- the index of a listed block, and of a block of the rest
  listed_at : (l : ℕ) (b : Block) → Contains (listed lists l) b → (j : ℕ) × (j < length blocks) × (get_or blocks j b ≡ b) × (level_at levels j ≡ Some l)
  listed_at l b inside =
      let at = StandsAt-picked (is_level l) levels blocks b (subst (λ list. Contains list b) (to_list l) inside) in
      (at.0, at.1, at.2, level_is l _ at.3)

  left_at : (b : Block) → Contains rest b → (j : ℕ) × (j < length blocks) × (get_or blocks j b ≡ b) × (level_at levels j ≡ None)
  left_at b inside =
      let at = StandsAt-picked stays levels blocks b (subst (λ list. Contains list b) to_rest inside) in
      (at.0, at.1, at.2, none_from_stays _ at.3)

  -- a block nearer the root than l has an index whose level is nearer the root
  above_at : (l : ℕ) (b : Block) → IsNearer lists rest l b → (j : ℕ) × (j < length blocks) × (get_or blocks j b ≡ b) × IsAbove (level_at levels j) l
  above_at l b (inl inside) = let at = left_at b inside in (at.0, at.1, at.2, rw at.3 tt)
  above_at l b (inr nearer) = let at = listed_at nearer.0 b nearer.2 in (at.0, at.1, at.2, rw at.3 nearer.1)

  reaches_at : (l j : ℕ) (b : Block) → j < length blocks → get_or blocks j b ≡ b → MeetsAt deep x b.leaf l → Reaches deep x (leaves_of blocks) j l
  reaches_at l j b lt is meets d = rw (get_or-map (λ (c : Block). c.leaf) blocks j b d lt, is) meets

  length_listed : (l : ℕ) → length (listed lists l) ≡ count_by (is_level l) levels
  length_listed l = rw (to_list l) (length-picked (is_level l) levels blocks plan.same_length)

  pub outcome : length lists ≡ deep + 1 → IsPermutation blocks (all_listed lists ++ rest) → IsEviction deep slots x blocks lists rest
  outcome long together = record {
    placement = record {
      levels = long;
      on_path = λ l b inside. let at = listed_at l b inside in subst (λ (c : Block). MeetsAt deep x c.leaf l) at.2 (rw (get_or-map (λ (c : Block). c.leaf) blocks at.0 b 0 at.1) at (plan.on_path at.0 l at.3 0));
      within = λ l. rw (length_listed l) (plan.within l);
      each_once = together;
    };
    greedy = record {
      rising = λ l. rw (to_list l) (AllPairs-picked (λ (b c : Block). b.address < c.address) (is_level l) levels blocks rising);
      full = λ l b le meets nearer. let at = above_at l b nearer in length_listed l ∙ plan.full at.0 l at.1 (omega arith) le (reaches_at l at.0 b at.1 at.2 meets) at.3;
      least = λ l b le meets nearer.
          let at = above_at l b nearer in
          rw (to_list l) (All-picked (λ (c : Block). c.address < b.address) (is_level l) levels blocks (λ j d lt passes.
          let earlier = plan.least at.0 l at.1 (omega arith) le (reaches_at l at.0 b at.1 at.2 meets) at.3 j (level_is l _ passes) in
          subst (λ (c : Block). (get_or blocks j d).address < c.address) (get_or_default blocks at.0 d b at.1 ∙ at.2) (rising j at.0 d earlier at.1)));
    };
    rising = rw to_rest (AllPairs-picked (λ (b c : Block). b.address < c.address) stays levels blocks rising);
  }

-- each level of a plan has a list
pub in_lists_from_plan : (levels : List (Option ℕ)) (deep n : ℕ) → ((j l : ℕ) → level_at levels j ≡ Some l → l ≤ deep) → n ≡ deep + 1 → All (λ q. IfSome q (λ l. l < n)) levels
in_lists_from_plan levels deep n in_tree long k d lt = rw (get_or_default levels k d None lt) (go (level_at levels k) (in_tree k))
  where
    go : (q : Option ℕ) → ((l : ℕ) → q ≡ Some l → l ≤ deep) → IfSome q (λ l. l < n)
    go None bound = tt
    go (Some l) bound = let h = bound l refl in omega arith

-- the same for blocks and levels that are given in several forms
pub carried_out : (deep slots x : ℕ) (blocks : List Block) (seen : List ℕ) (moved : List Block) (levels read : List (Option ℕ)) (lists : List (List Block)) (rest : List Block) → seen ≡ leaves_of blocks → moved ≡ blocks → read ≡ levels → IsRising blocks → IsPlan (Reaches deep x seen) (length seen) deep slots 0 levels → ((l : ℕ) → listed lists l ≡ picked (is_level l) read moved) → rest ≡ picked stays read moved → length lists ≡ deep + 1 → IsPermutation moved (all_listed lists ++ rest) → IsEviction deep slots x blocks lists rest
carried_out deep slots x blocks seen moved levels read lists rest same_seen same_moved same_read rising plan to_list to_rest long together =
    let P : List ℕ → Type 0 = λ l. IsPlan (Reaches deep x l) (length l) deep slots 0 levels in
    let Q : ℕ → Type 0 = λ n. IsPlan (Reaches deep x (leaves_of blocks)) n deep slots 0 levels in
    outcome deep slots x blocks levels lists rest rising (let long : length (leaves_of blocks) ≡ length blocks = simp length-map in subst Q long (subst P same_seen plan))
    (λ l. to_list l ∙ ap (λ q. picked (is_level l) q moved) same_read ∙ ap (picked (is_level l) levels) same_moved)
    (to_rest ∙ ap (λ q. picked stays q moved) same_read ∙ ap (picked stays levels) same_moved)
    long (rw same_moved at together)
