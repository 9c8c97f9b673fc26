-- A tight level is found from the root down.
use Rattle.std.proofs.Common.{◌≡◌, ℕ, zero, suc, ◌+◌, ◌<◌, ◌≤◌, List, [], ◌∷◌, ◌++◌, length, get_or, ◌⊎◌, sym, ap, subst, ◌∙◌, inl, inr, arith}
use Rattle.std.specs.List.{All, Any, Contains}
use Rattle.std.proofs.lemmas.Bool.{cases_lt, cases_eq}
use Rattle.std.proofs.lemmas.List.Elements.{All-contains, Contains-append_left, Contains-append_right, Contains-get_or}
use Rattle.oram_bucket.specs.declared.block.Block.{Block}
use Rattle.oram_geometry.specs.Path.{MeetsAt}
use Rattle.oram_geometry.proofs.Meet.{MeetsAt-nearer}
use Rattle.oram_stash.specs.Eviction.{listed, all_listed, IsNearer, IsGreedy}

-- down to level c the lists are full, and no block of the rest or listed above level i has a path that meets below c
pub record TightTo (deep slots x : ℕ) (lists : List (List Block)) (rest : List Block) (i c : ℕ) : Type 0 where
  pub in_tree : c ≤ deep
  pub near : i ≤ c + 1
  pub full : (l : ℕ) → l ≤ c → length (listed lists l) ≡ slots
  pub apart : (b : Block) (k : ℕ) → IsNearer lists rest i b → c < k → k ≤ deep → MeetsAt deep x b.leaf k → ⊥

-- no block of this list has a path that meets below c
abbrev pub EndsAt : ℕ → ℕ → ℕ → List Block → Type 0
EndsAt deep x c blocks = All (λ b. (k : ℕ) → c < k → k ≤ deep → MeetsAt deep x b.leaf k → ⊥) blocks

-- one of the list's blocks has a path that meets at c
abbrev pub ReachesTo : ℕ → ℕ → ℕ → List Block → Type 0
ReachesTo deep x c blocks = Any (λ b. MeetsAt deep x b.leaf c) blocks

module _ (deep slots x : ℕ) (lists : List (List Block)) (rest : List Block) (greedy : IsGreedy deep slots x lists rest) where
  -- a level that a block could still go to is full
  full_to : (c : ℕ) (b : Block) → c ≤ deep → MeetsAt deep x b.leaf c → (l : ℕ) → l ≤ c → IsNearer lists rest l b → length (listed lists l) ≡ slots
  full_to c b within meets l le nearer = greedy.full l b (omega arith) (MeetsAt-nearer deep x b.leaf l c le within meets) nearer

  -- the deepest level of the rest
  pub TightTo-rest : (c : ℕ) → c ≤ deep → ReachesTo deep x c rest → EndsAt deep x c rest → TightTo deep slots x lists rest 0 c
  TightTo-rest c within reached ends = record {
    in_tree = within;
    near = omega arith;
    full = λ l le. full_to c reached.1 within reached.4 l le (inl (reached.0, reached.2, reached.3));
    apart = λ b k nearer lt le. elim nearer [
      | inl left ↦ All-contains (λ (d : Block). (k : ℕ) → c < k → k ≤ deep → MeetsAt deep x d.leaf k → ⊥) rest b ends left k lt le
      | inr above ↦ absurd (let h = above.1 in omega arith)
    ];
  }

  -- the blocks of level i are taken in
  pub TightTo-more : (i c d : ℕ) → TightTo deep slots x lists rest i c → i ≤ c → c ≤ d → d ≤ deep → (d ≡ c) ⊎ ReachesTo deep x d (listed lists i) → EndsAt deep x d (listed lists i) → TightTo deep slots x lists rest (i + 1) d
  TightTo-more i c d tight le more within reached ends = record {
    in_tree = within;
    near = omega arith;
    full = λ l below. elim (cases_lt c l) [
      | inl deeper ↦ elim reached [
        | inl same ↦ absurd (omega arith)
        | inr found ↦ full_to d found.1 within found.4 l below (inr (i, omega arith, (found.0, found.2, found.3)))
      ]
      | inr not_deeper ↦ tight.full l not_deeper
    ];
    apart = λ b k nearer lt in_tree. elim nearer [
      | inl left ↦ tight.apart b k (inl left) (omega arith) in_tree
      | inr above ↦ elim (cases_eq above.0 i) [
        | inl same ↦ All-contains (λ (e : Block). (k : ℕ) → d < k → k ≤ deep → MeetsAt deep x e.leaf k → ⊥) (listed lists i) b ends (subst (λ n. Contains (listed lists n) b) same above.2) k lt in_tree
        | inr ne ↦ tight.apart b k (inr (above.0, (let h = above.1 in omega arith), above.2)) (omega arith) in_tree
      ]
    ];
  }

-- what holds of a list holds of what it contains
pub All-part : (P : Block → Type 0) (xs ys : List Block) → ((b : Block) → Contains ys b → Contains xs b) → All P xs → All P ys
All-part P xs ys part all k d lt = All-contains P xs (get_or ys k d) all (part (get_or ys k d) (Contains-get_or ys k d lt))

-- a listed block is one of all
pub Contains-all_listed : (lists : List (List Block)) (l : ℕ) (b : Block) → Contains (listed lists l) b → Contains (all_listed lists) b
Contains-all_listed [] l b inside = absurd (let h = inside.1 in omega arith)
Contains-all_listed (list ∷ lists) zero b inside = Contains-append_left list (all_listed lists) b inside
Contains-all_listed (list ∷ lists) (suc l) b inside = Contains-append_right list (all_listed lists) b (Contains-all_listed lists l b inside)

pub All-of_list : (P : Block → Type 0) (lists : List (List Block)) (rest : List Block) (l : ℕ) → All P (all_listed lists ++ rest) → All P (listed lists l)
All-of_list P lists rest l all = All-part P _ _ (λ b inside. Contains-append_left (all_listed lists) rest b (Contains-all_listed lists l b inside)) all

pub All-of_rest : (P : Block → Type 0) (lists : List (List Block)) (rest : List Block) → All P (all_listed lists ++ rest) → All P rest
All-of_rest P lists rest all = All-part P _ _ (λ b inside. Contains-append_right (all_listed lists) rest b inside) all

-- what holds of all elements holds of one that is read
pub at_read_of : (P : Block → Type 0) (read xs : List Block) (i : ℕ) (b : Block) → read ≡ xs → All P xs → b ≡ get_or read i b → i < length read → P b
at_read_of P read xs i b same all is lt = let h : P (get_or read i b) = (subst (All P) (sym same) all) i b lt in subst P (sym is) h

-- the deepest level that the rest reaches, given one block that reaches a level
pub ReachesTo-either : (deep x level deepest : ℕ) (read rest : List Block) (b : Block) → read ≡ rest → b ≡ get_or read 0 b → 0 < length read → MeetsAt deep x b.leaf level → (deepest ≡ level) ⊎ ReachesTo deep x deepest rest → ReachesTo deep x deepest rest
ReachesTo-either deep x level deepest read rest b same is some meets (inl e) =
    (0, b, (let n : length read ≡ length rest = ap length same in omega arith), sym (is ∙ ap (λ (l : List Block). get_or l 0 b) same), subst (MeetsAt deep x b.leaf) (sym e) meets)
ReachesTo-either deep x level deepest read rest b same is some meets (inr reached) = reached
