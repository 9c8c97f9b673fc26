-- Which requests a host refuses, and why: if there are several reasons, the one that is checked first.
use Rattle.std.specs.Prelude.{◌≡◌, ◌≢◌, ℕ, ◌+◌, ◌-◌, ◌*◌, ◌^◌, ◌<◌, ◌≤◌, List, length, Option, None, IsSome, MatchOption}
use Rattle.oram_wire.specs.declared.host_messages.HostRequest.{HostRequest}
use Rattle.oram_wire.specs.declared.host_messages.HostRequest.TheVariants as request
use Rattle.oram_host.specs.declared.refusals.HostRefusal.{HostRefusal}
use Rattle.oram_host.specs.declared.refusals.HostRefusal.TheVariants.{NoShape, BadLeaf, BadNode, BadLength, ShapeTaken, Missing, BadOp, OutOfMemory}
use Rattle.oram_host.specs.Host.{Host, IsShape, Kept, record_of, tree_at}
use Rattle.oram_host.specs.Path.{node_on}

-- the code of a refusal on the wire
abbrev pub code_of : HostRefusal → ℕ
code_of NoShape = 1
code_of BadLeaf = 2
code_of BadNode = 3
code_of BadLength = 4
code_of ShapeTaken = 5
code_of Missing = 6
code_of BadOp = 7
code_of OutOfMemory = 8

-- why a tree that has a shape refuses a FETCH
abbrev pub RefusesFetch : Kept → ℕ → HostRefusal → Type 0
RefusesFetch kept leaf BadLeaf = 2 ^ kept.depth ≤ leaf
RefusesFetch kept leaf Missing = (leaf < 2 ^ kept.depth) × (level : ℕ) × (level ≤ kept.depth)
    × (record_of kept (node_on kept.depth leaf level) ≡ None)
RefusesFetch kept leaf OutOfMemory = (leaf < 2 ^ kept.depth) × ((level : ℕ) → level ≤ kept.depth
    → IsSome (record_of kept (node_on kept.depth leaf level)))
RefusesFetch kept leaf _ = ⊥

-- why a tree that has a shape refuses a STORE
abbrev pub RefusesStore : Kept → ℕ → List ℕ → HostRefusal → Type 0
RefusesStore kept leaf records BadLeaf = 2 ^ kept.depth ≤ leaf
RefusesStore kept leaf records BadLength = (leaf < 2 ^ kept.depth)
    × (length records ≢ (kept.depth + 1) * kept.record_len)
RefusesStore kept leaf records OutOfMemory = (leaf < 2 ^ kept.depth)
    × (length records ≡ (kept.depth + 1) * kept.record_len)
RefusesStore kept leaf records _ = ⊥

-- why a tree that has a shape refuses a PUT
abbrev pub RefusesPut : Kept → ℕ → List ℕ → HostRefusal → Type 0
RefusesPut kept node bytes BadNode = 2 ^ (kept.depth + 1) - 1 ≤ node
RefusesPut kept node bytes BadLength = (node < 2 ^ (kept.depth + 1) - 1)
    × (length bytes ≢ kept.record_len)
RefusesPut kept node bytes OutOfMemory = (node < 2 ^ (kept.depth + 1) - 1)
    × (length bytes ≡ kept.record_len)
RefusesPut kept node bytes _ = ⊥

-- why a SHAPE is refused, by what is kept of the tree
abbrev pub RefusesShape : Option Kept → ℕ → ℕ → HostRefusal → Type 0
RefusesShape kept depth record_len BadLength = ¬ IsShape depth record_len
RefusesShape kept depth record_len ShapeTaken = IsShape depth record_len × (kept ≢ None)
RefusesShape kept depth record_len OutOfMemory = IsShape depth record_len × (kept ≡ None)
RefusesShape kept depth record_len _ = ⊥

-- why a host refuses a request
abbrev pub Refuses : Host → HostRequest → HostRefusal → Type 0
Refuses host (request.Fetch tree leaf) why = MatchOption (tree_at host tree) (why ≡ NoShape)
    (λ kept. RefusesFetch kept leaf why)
Refuses host (request.Store tree leaf records) why = MatchOption (tree_at host tree)
    (why ≡ NoShape) (λ kept. RefusesStore kept leaf records why)
Refuses host (request.Put tree node bytes) why = MatchOption (tree_at host tree) (why ≡ NoShape)
    (λ kept. RefusesPut kept node bytes why)
Refuses host (request.Shape tree depth record_len) why = RefusesShape
    (tree_at host tree) depth record_len why
