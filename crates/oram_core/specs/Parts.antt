-- The parts of a core that a client keeps in its state file.
use Rattle.std.specs.Prelude.{ℕ, ◌+◌, ◌-◌, Bool, List, [], ◌∷◌, Option, length, map}
use Rattle.std.specs.List.{All}
use Rattle.oram_geometry.specs.declared.Sizes.{Sizes}
use Rattle.oram_bucket.specs.Cell.{IsRising}
use Rattle.oram_tree.specs.Parts.{Parts as TreeParts, parts_of as tree_parts, tree_of}
use Rattle.oram_tree.specs.State.{State as Tree}
use Rattle.oram_semantics.specs.State.{State}
use Rattle.oram_semantics.specs.declared.events.Reason.{Reason}
use Rattle.oram_semantics.specs.declared.events.Submission.{Submission}
use Rattle.oram_core.specs.Core.{IsSound}
use Rattle.oram_core.specs.declared.parts.Pending.{Pending}

pub record Parts : Type 0 where
  pub device : Sizes
  pub tickets : ℕ  -- how many commands were accepted
  pub nonce : ℕ  -- of the next bucket that is sealed
  pub table : List ℕ  -- by block of the last tree: 0, or one more than its leaf
  pub trees : List TreeParts  -- from tree 0 on
  pub failure : Option Reason
  pub waiting : List Pending  -- the commands without a reply, the oldest first
  pub entry_number : ℕ  -- of the oldest command: which of its fetches and stores is outstanding
  pub held_entry : ℕ  -- the map entry of the block in the tree that is fetched next, or was fetched last
  pub held_data : List ℕ  -- the block of tree 0 as it was read
  pub message : List ℕ  -- the message sent last
  pub stalled : Bool  -- whether that counts as lost

-- a command without its ticket
abbrev pub pending_of : Submission → Pending
pending_of x = record { session = x.session; command = x.command; words = x.words }

abbrev pub parts_of : Sizes → State → Parts
parts_of d s = record {
  device = d;
  tickets = s.next;
  nonce = s.nonce;
  table = s.table;
  trees = map tree_parts s.trees;
  failure = s.failure;
  waiting = map pending_of s.queue;
  entry_number = s.entry_number;
  held_entry = s.held_entry;
  held_data = s.held_data;
  message = s.message;
  stalled = s.lost;
}

-- and a command with its ticket
abbrev pub submission_at : ℕ → Pending → Submission
submission_at t p = record { session = p.session; ticket = t; command = p.command; words = p.words }

-- the commands with their tickets, from ticket t on
abbrev pub submissions_from : ℕ → List Pending → List Submission
submissions_from t [] = []
submissions_from t (p ∷ rest) = submission_at t p ∷ submissions_from (t + 1) rest

-- the trees with their numbers, from tree i on
abbrev pub trees_from : ℕ → List TreeParts → List Tree
trees_from i [] = []
trees_from i (p ∷ rest) = tree_of i p ∷ trees_from (i + 1) rest

-- the state that the parts make
abbrev pub state_of : Parts → State
state_of p = record {
  table = p.table;
  trees = trees_from 0 p.trees;
  next = p.tickets;
  nonce = p.nonce;
  queue = submissions_from (p.tickets - length p.waiting) p.waiting;
  entry_number = p.entry_number;
  held_entry = p.held_entry;
  held_data = p.held_data;
  message = p.message;
  lost = p.stalled;
  failure = p.failure;
}

-- These can be the parts of a core under a sealer with this overhead: the state that they make has the properties of
-- every core, and the blocks of each stash rise by address.
pub record AreParts (overhead : ℕ) (p : Parts) : Type 0 where
  pub sound : IsSound p.device overhead (state_of p)
  pub rising : All (λ t. IsRising t.stash) p.trees
