-- What was collected of a formatting, as a client's near records and their rest.
use Rattle.std.proofs.Common.{◌≡◌, ℕ, ◌+◌, ◌-◌, ◌*◌, ◌^◌, ◌<◌, ◌≤◌, arith, List, ◌++◌, length, take, drop, refl, ap, ◌∙◌}
use Rattle.std.proofs.lemmas.List.{drop-append-le, drop_at, length-drop, take-append-le}
use Rattle.oram_geometry.specs.Least.{least_from}
use Rattle.oram_geometry.specs.Path.{node_on}
use Rattle.oram_geometry.specs.Sizes.{blocks_in, depth_of, level_for, trees_of}
use Rattle.oram_host.specs.Path.{record_at}
use Rattle.oram_semantics.specs.Scheme.{Scheme, record_len}
use Rattle.oram_empty.specs.Collecting.{Collection}
use Rattle.oram_empty.specs.EmptyRecords.{empty_record}
use Rattle.oram_empty.specs.KeptDigests.{made_record, piece}
use Rattle.oram_empty.specs.Laws.{example_scheme}
use Rattle.oram_empty.proofs.CollectedAll.{collections_have}
use Rattle.oram_empty.proofs.Example.{example}
use Rattle.oram_empty.proofs.Made.{made_empty}
use Rattle.oram_near.specs.FormattedRecords.{AreCollected, CollectedBytesAreOfFormatting, CollectedExample, digests_with}
use Rattle.oram_near.specs.Near.{Near, near_record, nothing_noted, rest_of}
use Rattle.oram_near.specs.NearLevels.{near_len, nodes_of}
use Rattle.oram_near.proofs.Nodes.{record_near}

-- a record of the front
in_records : (len node count : ℕ) (records digests : List ℕ) → length records ≡ count * len → (node + 1) * len ≤ count * len → record_at len (records ++ digests) node ≡ piece len records node
unfolding piece
in_records len node count records digests long low =
    let more : (node + 1) * len ≡ node * len + len = omega arith in
    let width : (node + 1) * len - node * len ≡ len = omega (arith, more) in
    ap (λ (n : ℕ). take n (drop (node * len) (records ++ digests))) width
    ∙ ap (take len) (drop-append-le (node * len) records digests (omega (arith, long, low, more)))
    ∙ take-append-le len (drop (node * len) records) digests (omega (arith, long, low, more, length-drop (node * len) records))

module _ (v : Scheme) (s : Collection) (near : Near) (are : AreCollected v s near) where
  rest_is : rest_of near ≡ s.digests
  rest_is =
      ap (λ (n : ℕ). drop (near_len near.levels n) near.bytes) are.record_len_is
      ∙ ap (drop (near_len near.levels (record_len v))) are.bytes
      ∙ drop_at s.records s.digests (near_len near.levels (record_len v)) are.formatting.records_whole

  near_is : (leaf level : ℕ) → leaf < 2 ^ depth_of v.device 0 → level < near.levels → near_record near (node_on (depth_of v.device 0) leaf level) ≡ empty_record v.cipher v.device 0 leaf level
  near_is leaf level leaf_in low =
      let node : ℕ = node_on (depth_of v.device 0) leaf level in
      ap (λ (n : ℕ). record_at n near.bytes node) are.record_len_is
      ∙ ap (λ (bytes : List ℕ). record_at (record_len v) bytes node) are.bytes
      ∙ in_records (record_len v) node (nodes_of near.levels) s.records s.digests are.formatting.records_whole
      (record_near (depth_of v.device 0) leaf level near.levels (record_len v) leaf_in low are.leaves_far)
      ∙ are.formatting.records leaf level leaf_in low

pub of_formatting : CollectedBytesAreOfFormatting
of_formatting v s near are = (
  ap length (rest_is v s near are) ∙ are.formatting.digests_whole,
  near_is v s near are,
  λ tree leaf level tree_in leaf_in within.
      ap (λ (rest : List ℕ). made_record v.cipher (digests_with v.device rest) tree leaf level) (rest_is v s near are)
      ∙ made_empty v.cipher (digests_with v.device s.digests) are.formatting.digests tree leaf level tree_in leaf_in within,
)

deep_enough : 2 ≤ depth_of example_scheme.device 0
unfolding level_for least_from blocks_in trees_of
deep_enough = let e : depth_of example_scheme.device 0 ≡ 7 = refl in omega (arith, e)

pub collected_example : CollectedExample
collected_example =
    let v = example_scheme in
    let s = example.2 in
    let near : Near = record { levels = 2; record_len = record_len v; bytes = s.records ++ s.digests; noted = nothing_noted } in (
      s,
      near,
      record {
        formatting = collections_have v example.0 example.1 2 example.2 deep_enough example.3 example.4;
        leaves_far = deep_enough;
        record_len_is = refl;
        bytes = refl;
      },
    )
