-- Examples that meet the premises of the law: a device of one block, whose tree has one node, and a device of two blocks, whose root is near.
-- The host has no record at first.
use Rattle.std.specs.Prelude.{◌++◌, ℕ, Bool, false, List, [], ◌∷◌, replicate, Ok, Err, ⊤}
use Rattle.std.specs.List.{AllByRecursion}
use Rattle.oram_geometry.specs.Sizes.{depth_of}
use Rattle.oram_geometry.specs.declared.Sizes.{Sizes}
use Rattle.oram_levels.specs.Messages.{StoreLevels, fetch_levels_body, levels_payload, store_levels_body}
use Rattle.oram_wire.specs.HostMessages.{done_answer, fetch_body, payload_answer, store_body}
use Rattle.oram_host.specs.Host.{Host}
use Rattle.oram_semantics.specs.Scheme.{Scheme}
use Rattle.oram_session.specs.declared.link.LinkFault.TheVariants.{Closed}
use Rattle.oram_link_laws.specs.Examples.{new_host, one_block}
use Rattle.oram_link_laws.specs.Runs.{Exchange, bodies_of}
use Rattle.oram_rounds.specs.Batches.{BatchOutcome, IsBatch}
use Rattle.oram_rounds.specs.Law.{AreBatches}
use Rattle.oram_near.specs.ComingAnswers.{no_coming}
use Rattle.oram_near.specs.Law.{CompletesHost, HaveSameRecords, IsBodyOf}
use Rattle.oram_near.specs.EmptyRecords.{WithRest, made_with}
use Rattle.oram_near.specs.LevelsHost.{LevelsRun}
use Rattle.oram_near.specs.Near.{nothing_noted}
use Rattle.oram_near.specs.NearCalls.{FitsTogether, NearBatch, NearValue, TakesUnsure, client_of}

abbrev pub zeros : List ℕ
zeros = replicate 88 0

abbrev pub ones : List ℕ
ones = replicate 88 1

-- what makes the records of the formatting, and its rest
abbrev pub Maker : Type 0
Maker = WithRest ⊤

abbrev pub maker_with : List ℕ → Maker
maker_with rest = record { maker = tt; rest = rest }

-- the formatting's record is zeros, whatever the rest is
abbrev pub zero_records : Maker → ℕ → ℕ → ℕ → List ℕ
zero_records = made_with (λ maker rest tree leaf level. zeros)

abbrev pub device_of_one : Maker → Sizes
device_of_one maker = one_block.device

abbrev pub len_of_one : Maker → ℕ
len_of_one maker = 88

-- batches that an honest host of levels answers
abbrev pub LevelsBatches : Host → List (List ℕ) → BatchOutcome → List Exchange → Host → Type 0
LevelsBatches far bodies o exchanges after = LevelsRun one_block (zero_records (maker_with [])) false far exchanges after × IsBatch bodies o exchanges

-- The host knows the shape of the tree. It has no record, or the ones.
abbrev pub no_record : Host
no_record = (0, record { depth = 0; record_len = 88; records = [] }) ∷ []

abbrev pub ones_there : Host
ones_there = (0, record { depth = 0; record_len = 88; records = (0, ones) ∷ [] }) ∷ []

-- a link over such a host, without near records and without a rest
abbrev pub link_over : Host → NearValue Host Maker
link_over far = record {
  inner = far;
  empty = maker_with [];
  device = one_block.device;
  near = record { levels = 0; record_len = 88; bytes = []; noted = nothing_noted };
  unsure = [];
  coming = no_coming;
}

-- A FETCH is sent, and answered without a record. So the link gives the formatting's.
abbrev pub nothing_below : List Exchange
nothing_below = (fetch_levels_body 0 0 (depth_of one_block.device 0) 0, Ok (payload_answer (levels_payload 0 []))) ∷ []

abbrev pub zeros_given : List Exchange
zeros_given = (fetch_body 0 0, Ok (payload_answer zeros)) ∷ []

-- A STORE of ones is sent, and a FETCH behind it.
abbrev pub ones_below : List Exchange
ones_below = (store_levels_body 0 0 0 ones, Ok done_answer) ∷ (fetch_levels_body 0 0 (depth_of one_block.device 0) 0, Ok (payload_answer (levels_payload 1 ones))) ∷ []

abbrev pub ones_given : List Exchange
ones_given = (store_body 0 0 ones, Err Closed) ∷ (store_body 0 0 ones, Ok done_answer) ∷ (fetch_body 0 0, Ok (payload_answer ones)) ∷ []

-- The host of whole paths has the zeros that the formatting makes. It gives them, and the ones once they are stored.
abbrev pub NearExample : Type 0
NearExample = AreBatches LevelsBatches
    × FitsTogether device_of_one len_of_one (link_over no_record)
    × CompletesHost one_block (client_of zero_records (link_over no_record)) no_record new_host
    × NearBatch LevelsBatches zero_records (link_over no_record) (fetch_body 0 0 ∷ []) (Ok (payload_answer zeros ∷ [])) zeros_given nothing_below (link_over no_record)
    × ((may_lie : Bool) → LevelsRun one_block (zero_records (maker_with [])) may_lie no_record nothing_below no_record)
    × NearBatch LevelsBatches zero_records (link_over no_record) (store_body 0 0 ones ∷ fetch_body 0 0 ∷ []) (Ok (done_answer ∷ payload_answer ones ∷ [])) ones_given ones_below (link_over ones_there)
    × ((may_lie : Bool) → LevelsRun one_block (zero_records (maker_with [])) may_lie no_record ones_below ones_there)

-- A device of two blocks: its tree has a root and two leaves, whose records have 88 bytes.
abbrev pub two_blocks : Scheme
two_blocks = record one_block { device = record { blocks = 2; block_bytes = 16; slots = 1; top = 2; lifetime = 1; leaf_load = 1 } }

abbrev pub device_of_two : Maker → Sizes
device_of_two maker = two_blocks.device

-- batches that an honest host of levels answers
abbrev pub TwoLevelsBatches : Host → List (List ℕ) → BatchOutcome → List Exchange → Host → Type 0
TwoLevelsBatches far bodies o exchanges after = LevelsRun two_blocks (zero_records (maker_with [])) false far exchanges after × IsBatch bodies o exchanges

-- A host of levels has no record, or the ones at the left leaf. A host of whole paths has zeros.
abbrev pub no_leaf : Host
no_leaf = (0, record { depth = 1; record_len = 88; records = [] }) ∷ []

abbrev pub left_leaf : Host
left_leaf = (0, record { depth = 1; record_len = 88; records = (1, ones) ∷ [] }) ∷ []

abbrev pub three_zeros : Host
three_zeros = (0, record { depth = 1; record_len = 88; records = (0, zeros) ∷ (1, zeros) ∷ (2, zeros) ∷ [] }) ∷ []

-- the rest is one byte
abbrev pub nine : List ℕ
nine = 9 ∷ []

-- a link over such a host, whose near record is that of the root
abbrev pub near_root : Host → List ℕ → List ℕ → NearValue Host Maker
near_root far root nodes = record {
  inner = far;
  empty = maker_with nine;
  device = two_blocks.device;
  near = record { levels = 1; record_len = 88; bytes = root ++ nine; noted = record { any = false; nodes = nodes } };
  unsure = [];
  coming = no_coming;
}

-- A STORE of the left leaf's path is sent, and a FETCH of the right one's behind it. The host has no record of the right leaf.
abbrev pub leaves_below : List Exchange
leaves_below = (store_levels_body 0 1 0 ones, Ok done_answer) ∷ (fetch_levels_body 0 1 (depth_of two_blocks.device 0) 1, Ok (payload_answer (levels_payload 0 []))) ∷ []

abbrev pub paths_given : List Exchange
paths_given =
    (store_body 0 0 (ones ++ ones), Err Closed) ∷ (store_body 0 0 (ones ++ ones), Ok done_answer) ∷ (fetch_body 0 1, Ok (payload_answer (ones ++ zeros))) ∷ []

-- The host of whole paths has zeros at first. The root's new record is near, so it is given with the right leaf's.
abbrev pub TwoLevelsExample : Type 0
TwoLevelsExample = AreBatches TwoLevelsBatches
    × FitsTogether device_of_two len_of_one (near_root no_leaf zeros [])
    × CompletesHost two_blocks (client_of zero_records (near_root no_leaf zeros [])) no_leaf three_zeros
    × NearBatch TwoLevelsBatches zero_records (near_root no_leaf zeros []) (store_body 0 0 (ones ++ ones) ∷ fetch_body 0 1 ∷ []) (Ok (done_answer ∷ payload_answer (ones ++ zeros) ∷ [])) paths_given leaves_below
    (near_root left_leaf ones (0 ∷ []))
    × ((may_lie : Bool) → LevelsRun two_blocks (zero_records (maker_with [])) may_lie no_leaf leaves_below left_leaf)

-- A new process has the near record that was kept, of zeros, and the STORE. The process before it had sent the STORE, and the host carried it out.
abbrev pub resumed_root : NearValue Host Maker
resumed_root = record (near_root no_leaf ones (0 ∷ [])) { unsure = StoreLevels 0 1 0 ones ∷ [] }

abbrev pub left_lost : List Exchange
left_lost = (store_levels_body 0 1 0 ones, Err Closed) ∷ []

abbrev pub ResumedExample : Type 0
ResumedExample = FitsTogether device_of_two len_of_one (near_root no_leaf zeros [])
    × HaveSameRecords (client_of zero_records (near_root no_leaf zeros [])) (client_of zero_records (near_root no_leaf zeros []))
    × CompletesHost two_blocks (client_of zero_records (near_root no_leaf zeros [])) no_leaf three_zeros
    × TakesUnsure (near_root no_leaf zeros []) (store_body 0 0 (ones ++ ones) ∷ []) resumed_root
    × AllByRecursion (IsBodyOf resumed_root.unsure) (bodies_of left_lost)
    × ((may_lie : Bool) → LevelsRun two_blocks (zero_records (maker_with [])) may_lie no_leaf left_lost left_leaf)
