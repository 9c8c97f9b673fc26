-- What a bucket file holds.
use Rattle.std.specs.Prelude.{◌≡◌, ◌≤◌, ℕ}
use Rattle.oram_redo.specs.Content.{Content, Has}
use Rattle.oram_layout.specs.Header.{HasTrees, letters}
use Rattle.oram_layout.specs.Trees.{AreApart, Trees, next_of}

-- The content is that of a bucket file with these trees. Nothing was ever written after them, so the next tree begins
-- without records.
pub record IsBucketFile (trees : Trees) (c : Content) : Type 0 where
  pub front : Has letters 0 c
  pub trees_stand : HasTrees trees c
  pub apart : AreApart trees
  pub blank : (i : ℕ) → next_of trees ≤ i → c i ≡ 0
