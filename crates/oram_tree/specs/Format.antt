-- The messages that make a tree of empty buckets.
use Rattle.std.specs.Prelude.{◌≡◌, ℕ, zero, suc, ◌+◌, ◌*◌, ◌<◌, ◌⊎◌, List, [], ◌∷◌, ◌++◌, map, slice_index}
use Rattle.oram_geometry.specs.declared.Sizes.{Sizes}
use Rattle.oram_geometry.specs.Sizes.{depth_of, record_len_of}
use Rattle.oram_hash.specs.Record.{sealed_part}
use Rattle.oram_bucket.specs.Bucket.{spelling}
use Rattle.oram_bucket.specs.Cipher.{Cipher}
use Rattle.oram_wire.specs.HostMessages.{put_body, shape_body}
use Rattle.oram_wire.specs.declared.sinks.SinkFault.{SinkFault}
use Rattle.oram_tree.specs.Content.{no_blocks, node_count}
use Rattle.oram_tree.specs.Faults.{format_fault}
use Rattle.oram_tree.specs.State.{State, IsStoredWith}
use Rattle.oram_tree.specs.declared.faults.FormatFault.{FormatFault}
use Rattle.oram_tree.specs.declared.faults.FormatFault.TheVariants.{OutOfMemory}

-- the sink takes these bodies, one after the other
abbrev pub PutsAll : {K : Type 0} → (K → List ℕ → K → Type 0) → K → List (List ℕ) → K → Type 0
PutsAll putting from [] to = from ≡ to
PutsAll {K} putting from (body ∷ bodies) to = (next : K) × putting from body next × PutsAll putting next bodies to

-- the nodes of the subtree of this height at node n, in the order of their PUTs: the left subtree, the right subtree,
-- the node
unfoldable pub post_order : ℕ → ℕ → List ℕ
post_order zero n = n ∷ []
post_order (suc h) n = post_order h (2 * n + 1) ++ post_order h (2 * n + 2) ++ n ∷ []

-- the bodies are the SHAPE of the tree and then the PUTs of its nodes' records, in that order; the records have empty
-- buckets, sealed under rising nonces, and are stored under the tree's root digest
pub record IsFormat (cipher : Cipher) (d : Sizes) (nonce : ℕ) (t : State) (bodies : List (List ℕ)) : Type 0 where
  pub records : ℕ → List ℕ
  pub bodies_are : bodies ≡ shape_body t.number (depth_of d t.number) (record_len_of d cipher.overhead)
      ∷ map (λ n. put_body t.number n (records n)) (post_order (depth_of d t.number) 0)
  pub sealed : (k : ℕ) → k < node_count (depth_of d t.number)
      → sealed_part (records (slice_index (post_order (depth_of d t.number) 0) k)) ≡ cipher.sealing (nonce + k) (spelling d [])
  pub empty : IsStoredWith cipher.opening cipher.overhead d t records no_blocks

-- the bodies are a beginning of the messages that format the tree of this number
abbrev pub IsBegun : Cipher → Sizes → ℕ → ℕ → List (List ℕ) → Type 0
IsBegun cipher d nonce number bodies =
    (more : List (List ℕ)) × (root : List ℕ)
    × IsFormat cipher d nonce (record { number = number; root = root; stash = [] }) (bodies ++ more)

-- a sink in the state `from`, which had taken the bodies `taken`, refused the next body, and `fault` reports this
pub record IsRefused {K : Type 0} (refusing : K → List ℕ → SinkFault → K → Type 0) (Begins : List (List ℕ) → Type 0)
    (taken : List (List ℕ)) (from : K) (fault : FormatFault) (to : K) : Type 0 where
  pub body : List ℕ
  pub begun : Begins (taken ++ body ∷ [])
  pub why : SinkFault
  pub refused : refusing from body why to
  pub reported : fault ≡ format_fault why

-- A formatting was broken off: the sink took a beginning of its bodies, and then either memory ran out elsewhere and the
-- sink hasn't changed since, or the sink refused the next body.
pub record IsBrokenOff {K : Type 0} (putting : K → List ℕ → K → Type 0) (refusing : K → List ℕ → SinkFault → K → Type 0)
    (Begins : List (List ℕ) → Type 0) (from : K) (fault : FormatFault) (to : K) : Type 0 where
  pub taken : List (List ℕ)
  pub begun : Begins taken
  pub mid : K
  pub puts : PutsAll putting from taken mid
  pub ended : ((fault ≡ OutOfMemory) × (to ≡ mid)) ⊎ IsRefused refusing Begins taken mid fault to
