-- A host's trees don't depend on one another. So what it keeps of one tree, such as its stamps, changes nothing of the others.
use Rattle.std.specs.Prelude.{◌≡◌, ◌≢◌, ◌⊎◌, ℕ, false, List, [], ◌∷◌, replicate, Ok}
use Rattle.oram_wire.specs.HostMessages.{done_answer, fetch_body, payload_answer, put_body, request_body}
use Rattle.oram_wire.specs.HostBodies.{HasNumbers, names_request}
use Rattle.oram_wire.specs.declared.host_messages.HostRequest.{HostRequest}
use Rattle.oram_wire.specs.declared.host_messages.HostRequest.TheVariants as request
use Rattle.oram_host.specs.Host.{Host, Kept, tree_at}
use Rattle.oram_link_laws.specs.Runs.{Exchange, HostRun}
use Rattle.oram_client.specs.declared.identity.TheConstants.{STAMP_TREE}

-- the tree that a request is about
abbrev pub tree_of : HostRequest → ℕ
tree_of (request.Fetch tree leaf) = tree
tree_of (request.Store tree leaf records) = tree
tree_of (request.Put tree node bytes) = tree
tree_of (request.Shape tree depth record_len) = tree

-- a request about this tree
abbrev pub IsAbout : ℕ → List ℕ → Type 0
IsAbout tree body = (message : HostRequest) × HasNumbers message × (body ≡ request_body message) × (tree_of message ≡ tree)

-- a request about another tree, or no request
abbrev pub IsAboutAnother : ℕ → List ℕ → Type 0
IsAboutAnother tree body =
    (names_request body ≡ false) ⊎ ((message : HostRequest) × HasNumbers message × (body ≡ request_body message) × (tree_of message ≢ tree))

-- Two hosts keep the same of every tree but this one.
abbrev pub AgreeBeside : ℕ → Host → Host → Type 0
AgreeBeside tree host other = (t : ℕ) → t ≢ tree → tree_at host t ≡ tree_at other t

-- Of these exchanges those about a tree are left out, and none of those that are left is about that tree.
abbrev pub LeavesTreeOut : ℕ → List Exchange → List Exchange → Type 0
LeavesTreeOut tree [] left = left ≡ []
LeavesTreeOut tree (e ∷ exchanges) left =
    (IsAbout tree e.0 × LeavesTreeOut tree exchanges left)
    ⊎ ((rest : List Exchange) × (left ≡ e ∷ rest) × IsAboutAnother tree e.0 × LeavesTreeOut tree exchanges rest)

-- A host is honest in some exchanges. Another one keeps the same of every tree but one. Then the other one is honest in the exchanges that
-- aren't about that tree, so the answers to them are the same, and afterwards both keep the same of every other tree again.
abbrev pub TreesAreApart : Type 0
TreesAreApart = (tree : ℕ) (host other after : Host) (exchanges left : List Exchange) → AgreeBeside tree host other → HostRun host exchanges after
    → LeavesTreeOut tree exchanges left → (rest : Host) × HostRun other left rest × AgreeBeside tree after rest

-- An example: a host of one tree with one record of two bytes, and of the stamps' tree, whose root has this byte 48 times
abbrev pub one_path : List ℕ
one_path = 10 ∷ 11 ∷ []

abbrev pub one_record : Kept
one_record = record { depth = 0; record_len = 2; records = (0, one_path) ∷ [] }

abbrev pub stamps_of : ℕ → Kept
stamps_of byte = record { depth = 1; record_len = 48; records = (0, replicate 48 byte) ∷ (1, replicate 48 1) ∷ [] }

abbrev pub with_stamps : ℕ → Host
with_stamps byte = (0, one_record) ∷ (STAMP_TREE, stamps_of byte) ∷ []

abbrev pub no_stamps : Host
no_stamps = (0, one_record) ∷ []

-- the path is fetched
abbrev pub fetched_alone : List Exchange
fetched_alone = (fetch_body 0 0, Ok (payload_answer one_path)) ∷ []

-- a stamp is put before
abbrev pub stamp_first : List Exchange
stamp_first = (put_body STAMP_TREE 0 (replicate 48 2), Ok done_answer) ∷ fetched_alone

-- The host with stamps is honest in both exchanges, and the one without them in the second one.
abbrev pub TreesApartExample : Type 0
TreesApartExample = AgreeBeside STAMP_TREE (with_stamps 1) no_stamps × HostRun (with_stamps 1) stamp_first (with_stamps 2) × LeavesTreeOut STAMP_TREE stamp_first fetched_alone
    × HostRun no_stamps fetched_alone no_stamps
