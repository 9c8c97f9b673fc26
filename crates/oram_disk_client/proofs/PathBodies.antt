-- STOREs of whole paths are messages that a link for whole paths takes.
use Rattle.std.proofs.Common.{ℕ, List, [], ◌∷◌}
use Rattle.oram_geometry.specs.declared.Sizes.{Sizes}
use Rattle.oram_near.specs.NearCalls.{ArePathBodies}
use Rattle.oram_near.specs.PathRequests.{StorePath}
use Rattle.oram_rounds.specs.PathMessages.{ArePathStores}

pub stores_are_taken : (d : Sizes) (record_len : ℕ) (bodies : List (List ℕ)) → ArePathStores d record_len bodies → ArePathBodies d record_len bodies
stores_are_taken d record_len [] are = tt
stores_are_taken d record_len (body ∷ bodies) are =
    let store = are.0 in
    ((StorePath store.tree store.leaf store.records, (store.tree_in, store.leaf_in, store.whole), store.named), stores_are_taken d record_len bodies are.1)
