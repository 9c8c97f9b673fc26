-- The records of a subtree of empty buckets, built from the leaves up, and their PUTs.
use Rattle.std.specs.Prelude.{◌≡◌, ℕ, zero, suc, ◌+◌, ◌*◌, List, [], ◌∷◌, ◌++◌}
use Rattle.sha2.specs.Sha256.{sha256}
use Rattle.oram_hash.specs.Record.{no_digest}
use Rattle.oram_wire.specs.HostMessages.{put_body}
use Rattle.oram_tree.specs.Content.{node_count}

-- the record at the top of a subtree of this height, with nonces from k on; `seal` seals the empty bucket under a nonce
unfoldable pub root_record : (ℕ → List ℕ) → ℕ → ℕ → List ℕ
root_record seal zero k = seal k ++ no_digest ++ no_digest
root_record seal (suc h) k = seal (k + 2 * node_count h) ++ sha256 (root_record seal h k) ++ sha256 (root_record seal h (k + node_count h))

-- the PUTs of this subtree, whose top is node n
unfoldable pub puts : (ℕ → List ℕ) → ℕ → ℕ → ℕ → ℕ → List (List ℕ)
puts seal tree zero k n = put_body tree n (root_record seal zero k) ∷ []
puts seal tree (suc h) k n = puts seal tree h k (2 * n + 1) ++ puts seal tree h (k + node_count h) (2 * n + 2) ++ put_body tree n (root_record seal (suc h) k) ∷ []

-- the bodies are a beginning of `whole`
abbrev pub IsStartOf : List (List ℕ) → List (List ℕ) → Type 0
IsStartOf whole bodies = (more : List (List ℕ)) × (bodies ++ more ≡ whole)
