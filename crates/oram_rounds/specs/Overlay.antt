-- The answer to a FETCH, with the records of STOREs that the host hasn't received laid over it.
use Rattle.std.specs.Prelude.{◌≡◌, ◌≢◌, ◌⊎◌, ℕ, ◌+◌, ◌*◌, ◌==◌, ◌&&◌, Bool, List, [], ◌∷◌, drop, length, slice_index, MatchBool}
use Rattle.oram_geometry.specs.declared.Sizes.{Sizes}
use Rattle.oram_geometry.specs.Sizes.{depth_of}
use Rattle.oram_wire.specs.HostMessages.{payload_answer}
use Rattle.oram_wire.specs.declared.host_messages.TheConstants.{GOOD}
use Rattle.oram_link_laws.specs.Overlay.{IsLaidOver, TreePath}
use Rattle.oram_rounds.specs.PathMessages.{IsPathFetch, IsPathStore}

-- of a device, with records of this length, and the path of a leaf
module _ (d : Sizes) (record_len tree leaf : ℕ) where
  -- this path
  abbrev pub tree_path : TreePath
  tree_path = record { tree = tree; depth = depth_of d tree; record_len = record_len; leaf = leaf }

  -- the records of one STORE are laid over the path; a STORE to another tree changes nothing
  abbrev pub LaysOver : List ℕ → List ℕ → List ℕ → Type 0
  LaysOver body bytes new = (s : IsPathStore d record_len body)
      × (((s.tree ≡ tree) × IsLaidOver tree_path s.leaf s.records bytes new) ⊎ ((s.tree ≢ tree) × (new ≡ bytes)))

  -- those of several STOREs, one STORE after the other
  abbrev pub LaysAllOver : List (List ℕ) → List ℕ → List ℕ → Type 0
  LaysAllOver [] bytes new = bytes ≡ new
  LaysAllOver (body ∷ bodies) bytes new = (mid : List ℕ) × LaysOver body bytes mid × LaysAllOver bodies mid new

  -- whether an answer has as many bytes as the path
  abbrev pub holds_path : List ℕ → Bool
  holds_path answer = (slice_index answer 0 == GOOD) && (length answer == 1 + (depth_of d tree + 1) * record_len)

  -- The records of the STOREs are laid over the path in an answer. An answer without a path stays as it is.
  abbrev pub IsOverlaid : List (List ℕ) → List ℕ → List ℕ → Type 0
  IsOverlaid stores answer given = MatchBool (holds_path answer)
      ((new : List ℕ) × LaysAllOver stores (drop 1 answer) new × (given ≡ payload_answer new)) (given ≡ answer)

-- The answers to FETCHes of a device's paths, and the same answers once the records of STOREs are laid over each.
module _ (d : Sizes) (record_len : ℕ) (stores : List (List ℕ)) where
  abbrev pub AreOverlaid : List (List ℕ) → List (List ℕ) → List (List ℕ) → Type 0
  AreOverlaid [] answers given = (answers ≡ []) × (given ≡ [])
  AreOverlaid (body ∷ fetches) [] given = ⊥
  AreOverlaid (body ∷ fetches) (answer ∷ answers) [] = ⊥
  AreOverlaid (body ∷ fetches) (answer ∷ answers) (new ∷ given) =
      ((f : IsPathFetch d body) × IsOverlaid d record_len f.tree f.leaf stores answer new) × AreOverlaid fetches answers given
