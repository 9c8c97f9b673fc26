-- Worked rows, for a device of four blocks whose tree has depth 2.
use Rattle.std.proofs.Common.{◌≡◌, true, false, refl, [], ◌∷◌, Some, None, Ok, Err}
use Rattle.oram_geometry.specs.Least.{least_from}
use Rattle.oram_geometry.specs.Path.{node_on}
use Rattle.oram_geometry.specs.declared.Sizes.{Sizes}
use Rattle.oram_geometry.specs.Sizes.{blocks_in, depth_of, level_for}
use Rattle.oram_levels.specs.Messages.{FetchLevels, StoreLevels}
use Rattle.oram_wire.specs.HostMessages.{done_answer, fetch_body, payload_answer, store_body}
use Rattle.oram_session.specs.declared.link.LinkFault.TheVariants.{Closed, Io}
use Rattle.oram_near.specs.Completion.{ClientRecords, far_level, gives_records, whole_record}
use Rattle.oram_near.specs.Near.{nothing_noted, path_nodes}
use Rattle.oram_near.specs.NearCalls.{is_in_order, path_exchanges, store_answers}
use Rattle.oram_near.specs.NearLevels.{near_len}
use Rattle.oram_near.specs.PathRequests.{FetchPath, StorePath, far_of}

four_blocks : Sizes
four_blocks = record { blocks = 4; block_bytes = 16; slots = 1; top = 4; lifetime = 10; leaf_load = 1 }

-- the client keeps level 0 of tree 0, and no level of another tree
fetch_below : far_of four_blocks 1 1 (FetchPath 0 3) ≡ FetchLevels 0 1 (depth_of four_blocks 0) 3
fetch_below = refl

store_below : far_of four_blocks 1 1 (StorePath 0 3 (10 ∷ 11 ∷ 12 ∷ [])) ≡ StoreLevels 0 1 3 (11 ∷ 12 ∷ [])
store_below = refl

store_whole : far_of four_blocks 1 1 (StorePath 1 3 (10 ∷ 11 ∷ 12 ∷ [])) ≡ StoreLevels 1 0 3 (10 ∷ 11 ∷ 12 ∷ [])
store_whole = refl

-- two levels have three nodes
three_records : near_len 2 5 ≡ 15
three_records = refl

depth_two : depth_of four_blocks 0 ≡ 2
unfolding four_blocks level_for blocks_in least_from
depth_two = refl

-- no FETCH stands between two STOREs
in_order : is_in_order (FetchPath 0 3 ∷ StorePath 0 3 [] ∷ StorePath 1 0 [] ∷ FetchPath 0 2 ∷ []) ≡ true
in_order = refl

out_of_order : is_in_order (StorePath 0 3 [] ∷ FetchPath 0 3 ∷ StorePath 1 0 [] ∷ []) ≡ false
out_of_order = refl

-- a batch is told with a try of each STORE before it
told : path_exchanges (StorePath 0 3 (9 ∷ []) ∷ FetchPath 0 1 ∷ []) (Ok (done_answer ∷ payload_answer (8 ∷ []) ∷ []))
    ≡ (store_body 0 3 (9 ∷ []), Err Closed) ∷ (store_body 0 3 (9 ∷ []), Ok done_answer) ∷ (fetch_body 0 1, Ok (payload_answer (8 ∷ []))) ∷ []
told = refl

lost : path_exchanges (StorePath 0 3 (9 ∷ []) ∷ FetchPath 0 1 ∷ []) (Err Io) ≡ (store_body 0 3 (9 ∷ []), Err Io) ∷ []
lost = refl

-- the answers to the STOREs only
answers : store_answers (FetchPath 0 3 ∷ StorePath 0 3 [] ∷ []) ((1 ∷ []) ∷ (2 ∷ []) ∷ []) ≡ (2 ∷ []) ∷ []
answers = refl

-- one record of two bytes, and at most two records
gives : gives_records 2 2 (128 ∷ 1 ∷ 20 ∷ 21 ∷ []) ≡ true
gives = refl

gives_half : gives_records 2 2 (128 ∷ 1 ∷ 20 ∷ []) ≡ false
gives_half = refl

gives_more : gives_records 2 0 (128 ∷ 1 ∷ 20 ∷ 21 ∷ []) ≡ false
gives_more = refl

-- it is the record of level 1
level_one : far_level 2 1 1 (20 ∷ 21 ∷ []) 1 ≡ Some (20 ∷ 21 ∷ [])
level_one = refl

level_two : far_level 2 1 1 (20 ∷ 21 ∷ []) 2 ≡ None
level_two = refl

-- The root's record is near. A STORE to leaf 3 is unsure; its path shares node 2 with that of leaf 2.
client : ClientRecords
client = record {
  device = four_blocks;
  near = record { levels = 1; record_len = 1; bytes = 10 ∷ []; noted = nothing_noted };
  unsure = StoreLevels 0 1 3 (21 ∷ 31 ∷ []) ∷ [];
  empty = λ tree leaf level. 0 ∷ [];
}

near_one : whole_record client 0 2 0 None ≡ 10 ∷ []
unfolding client four_blocks level_for blocks_in least_from node_on
near_one = refl

shared_one : whole_record client 0 2 1 (Some (22 ∷ [])) ≡ 21 ∷ []
unfolding client four_blocks level_for blocks_in least_from node_on
shared_one = refl

own_leaf : whole_record client 0 2 2 (Some (32 ∷ [])) ≡ 32 ∷ []
unfolding client four_blocks level_for blocks_in least_from node_on
own_leaf = refl

formatted_leaf : whole_record client 0 2 2 None ≡ 0 ∷ []
unfolding client four_blocks level_for blocks_in least_from node_on
formatted_leaf = refl

stored_leaf : whole_record client 0 3 2 None ≡ 31 ∷ []
unfolding client four_blocks level_for blocks_in least_from node_on
stored_leaf = refl

-- the nodes of the top two levels of leaf 3
nodes : path_nodes 2 3 2 ≡ 0 ∷ 2 ∷ []
unfolding node_on
nodes = refl
