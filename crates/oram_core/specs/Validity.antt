-- The results of the checks of parts, one by one.
use Rattle.std.specs.Prelude.{◌≡◌, ℕ, ◌+◌, ◌-◌, ◌%◌, ◌^◌, ◌≤◌, List, [], ◌∷◌, length, Option, Some, None}
use Rattle.std.specs.List.{All}
use Rattle.oram_geometry.specs.declared.Sizes.{Sizes}
use Rattle.oram_geometry.specs.Sizes.{trees_of, depth_of, blocks_in}
use Rattle.oram_tree.specs.Parts.{Parts as TreeParts, ArePartsOf}
use Rattle.oram_semantics.specs.Agree.{IsAllowed}
use Rattle.oram_semantics.specs.Content.{entry_tree}
use Rattle.oram_semantics.specs.Moves.{fetch_at}
use Rattle.oram_semantics.specs.Nonces.{next_nonce}
use Rattle.oram_semantics.specs.State.{State, map_entry_now}
use Rattle.oram_semantics.specs.declared.events.Submission.{Submission}
use Rattle.oram_semantics.specs.declared.events.Reason.{Reason}
use Rattle.oram_core.specs.Core.{AtWork, IsReasonOf, IsResting, IsStoreOf}
use Rattle.oram_core.specs.PlainSteps.{fetch_of}
use Rattle.oram_core.specs.Parts.{Parts, state_of, submission_at, submissions_from}

-- the table has an entry for each block of the last tree, and none that is too great for its leaves
pub record HasTable (d : Sizes) (table : List ℕ) : Type 0 where
  pub long : length table ≡ blocks_in d (trees_of d - 1)
  pub map_entries : All (λ e. e ≤ 2 ^ depth_of d (trees_of d - 1)) table

-- the message sent last is the one that the command has at this stage
pub record HasMessage (d : Sizes) (overhead : ℕ) (s : State) (x : Submission) : Type 0 where
  pub fetch : s.entry_number % 2 ≡ 0 → s.message ≡ fetch_of (fetch_at d s.entry_number (map_entry_now d s x) x)
  pub store : s.entry_number % 2 ≡ 1 → IsStoreOf d overhead (entry_tree d s.entry_number) s.message

-- at most 64 commands wait, no more than were accepted, and the device allows each
pub record AreWaiting (p : Parts) : Type 0 where
  pub most : length p.waiting ≤ 64
  pub begun : length p.waiting ≤ p.tickets
  pub allowed : All (λ x. IsAllowed p.device (submission_at 0 x)) p.waiting

-- the parts have everything that a core has if it hasn't failed, except for the stashes
pub record IsWorking (overhead : ℕ) (p : Parts) : Type 0 where
  pub table : HasTable p.device p.table
  pub count : length p.trees ≡ trees_of p.device
  pub waiting : AreWaiting p
  pub work : AtWork p.device overhead (state_of p) (submissions_from (p.tickets - length p.waiting) p.waiting)
  pub nonce : p.nonce ≡ next_nonce p.device (p.tickets - length p.waiting) p.entry_number

-- there are no table, no trees and no commands
pub record HoldsNothing (p : Parts) : Type 0 where
  pub table : p.table ≡ []
  pub trees : p.trees ≡ []
  pub waiting : p.waiting ≡ []

-- the parts are those of a core that failed for this reason
pub record IsEnded (p : Parts) (e : Reason) : Type 0 where
  pub reason : IsReasonOf p.device e
  pub nothing : HoldsNothing p
  pub rests : IsResting (state_of p)

-- the parts are those of a core, except for the blocks of the stashes
abbrev pub IsFitting : ℕ → Parts → Option Reason → Type 0
IsFitting overhead p None = IsWorking overhead p
IsFitting overhead p (Some e) = IsEnded p e

-- these are parts of the trees from tree i on
abbrev pub AreTrees : Sizes → ℕ → List TreeParts → Type 0
AreTrees d i [] = Unit {0}
AreTrees d i (p ∷ rest) = ArePartsOf d i p × AreTrees d (i + 1) rest
