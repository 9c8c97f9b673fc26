-- A FETCH that was sent ahead of STOREs. The records of the STOREs are laid over its answer, which makes it the answer
-- that the FETCH would have after them.
use Rattle.std.specs.Prelude.{◌≡◌, ◌≢◌, ℕ, ◌+◌, ◌*◌, ◌≤◌, ◌⊎◌, List, [], ◌∷◌, length}
use Rattle.oram_host.specs.Answers.{IsFetched}
use Rattle.oram_host.specs.Host.{Host}
use Rattle.oram_host.specs.Path.{node_on, record_at}
use Rattle.oram_link_laws.specs.ResentStores.{AreStores, IsStore, TakesEach}

-- the path of a leaf of a tree, with the tree's depth and the length of its records
pub record TreePath : Type 0 where
  pub tree : ℕ
  pub depth : ℕ
  pub record_len : ℕ
  pub leaf : ℕ

-- the path that was fetched
abbrev pub fetched_path : {host : Host} {tree leaf : ℕ} {bytes : List ℕ} → IsFetched host tree leaf bytes → TreePath
fetched_path {host} {tree} {leaf} {bytes} fetched =
    record { tree = tree; depth = fetched.kept.depth; record_len = fetched.kept.record_len; leaf = leaf }

-- The records of one path are laid over those of a path `p` of the same tree: `new` has the record from `records` at
-- each level where `p` and the path of the leaf `other` share their node, and the one from `bytes` at the others.
pub record IsLaidOver (p : TreePath) (other : ℕ) (records bytes new : List ℕ) : Type 0 where
  pub whole : length new ≡ (p.depth + 1) * p.record_len
  pub shared : (level : ℕ) → level ≤ p.depth → node_on p.depth p.leaf level ≡ node_on p.depth other level
      → record_at p.record_len new level ≡ record_at p.record_len records level
  pub others : (level : ℕ) → level ≤ p.depth → node_on p.depth p.leaf level ≢ node_on p.depth other level
      → record_at p.record_len new level ≡ record_at p.record_len bytes level

-- the records of one STORE are laid over a path; a STORE to another tree changes nothing
abbrev pub LaysOver : TreePath → {body : List ℕ} → IsStore body → List ℕ → List ℕ → Type 0
LaysOver p s bytes new = ((s.tree ≡ p.tree) × IsLaidOver p s.leaf s.records bytes new) ⊎ ((s.tree ≢ p.tree) × (new ≡ bytes))

-- the records of several STOREs are laid over a path, one STORE after the other
abbrev pub LaysAllOver : TreePath → (bodies : List (List ℕ)) → AreStores bodies → List ℕ → List ℕ → Type 0
LaysAllOver p [] are bytes new = bytes ≡ new
LaysAllOver p (body ∷ bodies) are bytes new = (mid : List ℕ) × LaysOver p are.0 bytes mid × LaysAllOver p bodies are.1 mid new

-- A path was fetched, and then the host carried out STOREs. The fetched bytes, with the records of these STOREs laid over
-- them, are what a FETCH of the path gives now.
abbrev pub LaidOverIsFetchedLater : Type 0
LaidOverIsFetchedLater = (host after : Host) (tree leaf : ℕ) (bytes new : List ℕ) (bodies : List (List ℕ)) (are : AreStores bodies)
    → (fetched : IsFetched host tree leaf bytes) → TakesEach host bodies after
    → LaysAllOver (fetched_path fetched) bodies are bytes new → IsFetched after tree leaf new
