-- No request changes the identity of a disk that has its first tree.
use Rattle.std.proofs.Common.{◌≡◌, ◌≢◌, inl, ℕ, true, Bool, Option, None, Some, ap, sym, ◌∙◌, subst}
use Rattle.std.specs.Prelude.{is_some}
use Rattle.oram_host.specs.declared.refusals.HostRefusal.{HostRefusal}
use Rattle.oram_host.specs.declared.refusals.HostRefusal.TheVariants.{ShapeTaken}
use Rattle.oram_layout.specs.Limits.{TreeShape}
use Rattle.oram_layout.specs.Trees.{Trees, shape_at}
use Rattle.oram_levels.specs.Messages.{FetchLevels, StoreLevels}
use Rattle.oram_store.specs.Laws.{IdentityStays}
use Rattle.oram_store.specs.Messages.{OfHost, OfLevels}
use Rattle.oram_store.specs.Refusals.{by_shape, is_fixed, when}
use Rattle.oram_store.specs.declared.store.TheConstants.{DISK_IDENTITY_TREE}
use Rattle.oram_wire.specs.declared.host_messages.HostAnswer.TheVariants as answer
use Rattle.oram_wire.specs.declared.host_messages.HostRequest.TheVariants as request

refused : (why : HostRefusal) → Some why ≡ None → ⊥
refused why e = cc

-- a request to a tree whose records stay as they are is refused
not_allowed : (shape : Option TreeShape) (fixed : Bool) (rest : TreeShape → Option HostRefusal) → fixed ≡ true → by_shape shape (λ s. when fixed ShapeTaken (rest s)) ≡ None → ⊥
not_allowed None fixed rest is allowed = refused _ allowed
not_allowed (Some s) fixed rest is allowed = refused ShapeTaken (sym (ap (λ (b : Bool). when b ShapeTaken (rest s)) is) ∙ allowed)

fixed_there : (trees : Trees) → is_some (shape_at trees 0) ≡ true → is_fixed trees DISK_IDENTITY_TREE ≡ true
fixed_there trees first = first

other_tree : (trees : Trees) (tree : ℕ) (rest : TreeShape → Option HostRefusal) → is_some (shape_at trees 0) ≡ true
    → by_shape (shape_at trees tree) (λ s. when (is_fixed trees tree) ShapeTaken (rest s)) ≡ None → DISK_IDENTITY_TREE ≢ tree
other_tree trees tree rest first allowed same =
    not_allowed (shape_at trees tree) (is_fixed trees tree) rest (subst (λ (t : ℕ). is_fixed trees t ≡ true) same (fixed_there trees first)) allowed

pub identity_stays : IdentityStays
identity_stays trees after (OfHost (request.Fetch tree leaf)) (answer.Payload bytes) old new node first responds said = said.3 DISK_IDENTITY_TREE node
identity_stays trees after (OfHost (request.Fetch tree leaf)) answer.Done old new node first responds said = absurd responds
identity_stays trees after (OfHost (request.Fetch tree leaf)) (answer.Refused code) old new node first responds said = said.1 DISK_IDENTITY_TREE node
identity_stays trees after (OfHost (request.Store tree leaf records)) (answer.Payload bytes) old new node first responds said = absurd responds
identity_stays trees after (OfHost (request.Store tree leaf records)) answer.Done old new node first responds said =
    said.2.1 DISK_IDENTITY_TREE node (inl (other_tree trees tree _ first responds.0))
identity_stays trees after (OfHost (request.Store tree leaf records)) (answer.Refused code) old new node first responds said = said DISK_IDENTITY_TREE node
identity_stays trees after (OfHost (request.Put tree n bytes)) (answer.Payload sent) old new node first responds said = absurd responds
identity_stays trees after (OfHost (request.Put tree n bytes)) answer.Done old new node first responds said =
    said.1 DISK_IDENTITY_TREE node (inl (other_tree trees tree _ first responds.0))
identity_stays trees after (OfHost (request.Put tree n bytes)) (answer.Refused code) old new node first responds said = said DISK_IDENTITY_TREE node
identity_stays trees after (OfHost (request.Shape tree depth record_len)) (answer.Payload bytes) old new node first responds said = absurd responds
identity_stays trees after (OfHost (request.Shape tree depth record_len)) answer.Done old new node first responds said = said DISK_IDENTITY_TREE node
identity_stays trees after (OfHost (request.Shape tree depth record_len)) (answer.Refused code) old new node first responds said = said DISK_IDENTITY_TREE node
identity_stays trees after (OfLevels (FetchLevels tree first last leaf)) (answer.Payload bytes) old new node there responds said = said.3 DISK_IDENTITY_TREE node
identity_stays trees after (OfLevels (FetchLevels tree first last leaf)) answer.Done old new node there responds said = absurd responds.0
identity_stays trees after (OfLevels (FetchLevels tree first last leaf)) (answer.Refused code) old new node there responds said = said DISK_IDENTITY_TREE node
identity_stays trees after (OfLevels (StoreLevels tree first leaf records)) (answer.Payload bytes) old new node there responds said = absurd responds.0
identity_stays trees after (OfLevels (StoreLevels tree first leaf records)) answer.Done old new node there responds said =
    said.2.1 DISK_IDENTITY_TREE node (inl (other_tree trees tree _ there responds.0))
identity_stays trees after (OfLevels (StoreLevels tree first leaf records)) (answer.Refused code) old new node there responds said = said DISK_IDENTITY_TREE node
