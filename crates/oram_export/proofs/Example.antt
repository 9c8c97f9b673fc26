-- A device of two blocks, with numbers.
use Rattle.std.proofs.Common.{◌≡◌, ◌≢◌, ◌⊎◌, ℕ, zero, suc, ◌^◌, ◌<◌, ◌≤◌, inl, inr, arith, ap, sym, ◌∙◌, refl, subst, List, [], ◌∷◌, length, drop, get_or, Some, IsSome, Ok, replicate, Contains}
use Rattle.std.specs.List.{All, flat_map}
use Rattle.std.proofs.lemmas.List.{append-nil}
use Rattle.std.proofs.lemmas.List.Elements.{All-nil}
use Rattle.sha2.specs.Sha256.{sha256}
use Rattle.oram_geometry.specs.Least.{least_from}
use Rattle.oram_geometry.specs.Path.{node_on}
use Rattle.oram_geometry.specs.Sizes.{IsDevice, blocks_in, depth_of, level_for, record_len_of, trees_of}
use Rattle.oram_hash.specs.Record.{HoldsDigests, left_digest, no_digest, right_digest, sealed_part}
use Rattle.oram_hash.specs.Tree.{IsStored}
use Rattle.oram_bucket.specs.Bucket.{IsBlockOf, spelling}
use Rattle.oram_bucket.specs.Cell.{Cell}
use Rattle.oram_bucket.specs.SealedBlocks.{Reads}
use Rattle.oram_bucket.proofs.UniqueEncoding.{reads_once}
use Rattle.oram_rounds.specs.Batches.{answered}
use Rattle.oram_scan.specs.Scan.{begun, told}
use Rattle.oram_scan.specs.declared.tree_scan.Finding.TheVariants.{Sound}
use Rattle.oram_scan.specs.Blocks.{IsFound}
use Rattle.oram_scan.specs.Laws.{Row}
use Rattle.oram_semantics.specs.Agree.{Agrees, IsOrderly, map_entry_for}
use Rattle.oram_semantics.specs.ArrayReplies.{array_in}
use Rattle.oram_semantics.specs.Law.{IsServing}
use Rattle.oram_semantics.specs.State.{map_entry_of, no_tree}
use Rattle.oram_semantics.specs.Trees.{Stands}
use Rattle.oram_tree.specs.Content.{HasContent, Holds, IsOnPath, entry_of, node_count}
use Rattle.oram_wire.specs.HostMessages.{payload_answer}
use Rattle.oram_export.specs.Examples.{AnyBatches, ExportExample, FoundBlocksExample, in_bucket, in_stash, one_sound, only_record, two_blocks, two_held, two_world, two_writes, two_written}
use Rattle.oram_export.specs.Export.{to_read}
use Rattle.oram_export.specs.Images.{write_of}
use Rattle.oram_export.specs.Reading.{IsRead}
use Rattle.oram_export.specs.Stages.{HasLength}
use Rattle.oram_export.specs.declared.tree_reading.TreeToRead.{TreeToRead}
use Rattle.oram_export.specs.Requests.{batch_at, requests_for}
use Rattle.oram_export.proofs.Asked.{length_batch}
use Rattle.oram_export.proofs.Exporting.{image_right}

device : IsDevice two_blocks.device
device = record {
  some_blocks = omega arith;
  few_blocks = omega arith;
  some_bytes = omega arith;
  few_bytes = omega arith;
  whole_words = refl;
  some_slots = omega arith;
  few_slots = omega arith;
  some_top = omega arith;
  few_top = omega arith;
  some_lifetime = omega arith;
  few_lifetime = omega arith;
  some_load = omega arith;
  few_load = omega arith;
  room = refl;
}

no_depth : depth_of two_blocks.device 0 ≡ 0
unfolding level_for blocks_in least_from
no_depth = refl

one_tree : trees_of two_blocks.device ≡ 1
unfolding trees_of blocks_in least_from
one_tree = refl

two_in : blocks_in two_blocks.device 0 ≡ 2
unfolding blocks_in
two_in = refl

len_is : record_len_of two_blocks.device 0 ≡ 160
unfolding record_len_of
len_is = refl

abbrev bucket : List ℕ
bucket = spelling two_blocks.device (in_bucket ∷ [])

long : length only_record ≡ 160
unfolding spelling
long = refl

sealed_is : sealed_part only_record ≡ bucket
unfolding spelling sealed_part
sealed_is = refl

digests : HoldsDigests only_record no_digest no_digest
unfolding spelling left_digest right_digest
digests = record { left_held = refl; right_held = refl }

abbrev reads : List ℕ → List Cell → Type 0
reads = Reads two_blocks.cipher.opening two_blocks.device 0

one_block : IsBlockOf two_blocks.device 0 in_bucket
one_block = record { address_in = omega (arith, two_in); leaf_in = subst (λ (d : ℕ). 0 < 2 ^ d) (sym no_depth) (omega arith); whole = refl }

blocks : All (IsBlockOf two_blocks.device 0) (in_bucket ∷ [])
blocks zero d below = one_block
blocks (suc k) d below = absurd (omega arith)

bucket_reads : reads (sealed_part only_record) (in_bucket ∷ [])
bucket_reads = record {
  plain = bucket;
  opens = ap Some sealed_is;
  spelled = record { bucket = record { within = omega arith; rising = λ i j d e f. absurd (omega arith); blocks = blocks }; spelled = refl };
}

only_one : (c d : Cell) → Contains (c ∷ []) d → d ≡ c
only_one c d (zero, below, is) = sym is
only_one c d (suc k, below, is) = absurd (omega arith)

in_it : (c : Cell) → Holds reads only_record c → c ≡ in_bucket
in_it c (cells, read, has) =
    only_one in_bucket c (subst (λ (cs : List Cell). Contains cs c) (reads_once two_blocks.cipher.opening two_blocks.device 0 (sealed_part only_record) cells (in_bucket ∷ []) device read bucket_reads) has)

holds_it : Holds reads only_record in_bucket
holds_it = (in_bucket ∷ [], bucket_reads, (zero, omega arith, refl))

held : (a : ℕ) → IsSome (two_held a)
    → ((c : Cell) × (c.address ≡ a) × Contains (in_stash ∷ []) c) ⊎ ((c : Cell) × (n : ℕ) × (c.address ≡ a) × (n < node_count 0) × Holds reads only_record c)
held zero some = inr (in_bucket, 0, refl, omega arith, holds_it)
held (suc zero) some = inl (in_stash, refl, (zero, omega arith, refl))
held (suc (suc a)) some = absurd (cc)

at_root : (n : ℕ) → n < node_count 0 → n ≡ node_on 0 0 0
unfolding node_on
at_root n below = omega arith

content : HasContent reads 0 (two_world.records 0) (in_stash ∷ []) two_held
content = record {
  readable = λ n below. (in_bucket ∷ [], bucket_reads);
  on_own_path = λ n c below has. subst (λ (x : Cell). IsOnPath 0 x.leaf n) (sym (in_it c has)) (0, omega arith, at_root n below);
  once_in_tree = λ n m c d low high first second same. omega arith;
  once_in_stash = λ i j d e f. absurd (omega arith);
  once_in_all = λ n c d below has kept same. let one = ap (λ (x : Cell). x.address) (in_it c has) in let other = ap (λ (x : Cell). x.address) (only_one in_stash d kept) in absurd (omega (arith, one, other, same));
  from_tree = λ n c below has. subst (λ (x : Cell). two_held x.address ≡ Some (entry_of x)) (sym (in_it c has)) refl;
  from_stash = λ c kept. subst (λ (x : Cell). two_held x.address ≡ Some (entry_of x)) (sym (only_one in_stash c kept)) refl;
  held = held;
}

stored : IsStored 0 160 (sha256 only_record) (two_world.records 0)
stored = record { lengths = λ n below. long; top = refl; inner = λ n below. absurd (omega arith); leaves = λ n above below. digests }

stands : (i : ℕ) → i < 1 → Stands two_blocks i (get_or two_written.trees i no_tree) (two_world.records i) (two_world.content i)
stands zero below = record {
  number = refl;
  stored = record {
    stands = subst (λ (d : ℕ). IsStored d (record_len_of two_blocks.device 0) (sha256 only_record) (two_world.records 0)) (sym no_depth)
        (subst (λ (n : ℕ). IsStored 0 n (sha256 only_record) (two_world.records 0)) (sym len_is) stored);
    holds = subst (λ (d : ℕ). HasContent reads d (two_world.records 0) (in_stash ∷ []) two_held) (sym no_depth) content;
  };
}
stands (suc i) below = absurd (omega arith)

orderly : IsOrderly two_blocks two_written
unfolding trees_of blocks_in least_from
orderly = record { sized = refl; queue = All-nil _; entry_number = omega arith; rests = λ none. refl }

sized : (a : ℕ) → length (array_in two_blocks two_world a) ≡ 16
sized zero = refl
sized (suc zero) = refl
sized (suc (suc a)) = refl

leaves : (a : ℕ) → map_entry_of (two_held a) ≤ 1
leaves zero = omega arith
leaves (suc zero) = omega arith
leaves (suc (suc a)) = omega arith

leaves_of : (i a : ℕ) → i < 1 → map_entry_of (two_held a) ≤ 2 ^ depth_of two_blocks.device i
leaves_of zero a below = subst (λ (d : ℕ). map_entry_of (two_held a) ≤ 2 ^ d) (sym no_depth) (leaves a)
leaves_of (suc i) a below = absurd (omega arith)

entries : (i a : ℕ) → i < 1 → a < 2 → map_entry_for two_blocks two_written two_world i a ≡ map_entry_of (two_held a)
unfolding trees_of blocks_in least_from
entries zero zero below inside = refl
entries zero (suc zero) below inside = refl
entries zero (suc (suc a)) below inside = absurd (omega arith)
entries (suc i) a below inside = absurd (omega arith)

inside_first : (i a : ℕ) → i < 1 → a < blocks_in two_blocks.device i → a < 2
inside_first zero a below inside = omega (arith, two_in, inside)
inside_first (suc i) a below inside = absurd (omega arith)

agrees : Agrees two_blocks two_written two_world
agrees = record {
  sized = λ i b below. sized b;
  leaves = λ i b below. leaves_of i b (omega (arith, one_tree, below));
  others = λ i b below inside not_next. let first : i < 1 = omega (arith, one_tree, below) in entries i b first (inside_first i b first inside);
  between = tt;
}

serving : IsServing two_blocks two_written two_world (array_in two_blocks two_world)
serving = record { orderly = orderly; holds = λ i below. stands i (omega (arith, one_tree, below)); agrees = agrees; serves = λ a. refl }

-- the reading

abbrev tree : TreeToRead
tree = record { tree = 0; depth = 0; record_len = 160; root = sha256 only_record }

tree_is : to_read two_blocks two_written 0 ≡ tree
tree_is =
    ap {B = TreeToRead} (λ (d : ℕ). record { tree = 0; depth = d; record_len = record_len_of two_blocks.device 0; root = sha256 only_record }) no_depth
    ∙ ap {B = TreeToRead} (λ (n : ℕ). record { tree = 0; depth = 0; record_len = n; root = sha256 only_record }) len_is

abbrev rows : List Row
rows = Some (only_record, Sound) ∷ []

abbrev bodies : List (List ℕ)
bodies = batch_at (requests_for 0 0 160) 0

abbrev answers : List (List ℕ)
answers = payload_answer (1 ∷ only_record) ∷ []

one_body : length answers ≡ length bodies
one_body = sym (length_batch (requests_for 0 0 160) 0)

all_long : All (HasLength 160) rows
all_long zero d below = long
all_long (suc k) d below = absurd (omega arith)

read_first : IsRead AnyBatches tree tt rows one_sound tt
read_first = record {
  askings = (bodies, Ok answers) ∷ [];
  carried = (tt, (answered bodies answers, (one_body, [], tt, refl)), refl);
  asked = refl;
  spelled = append-nil (flat_map (drop 1) answers);
  long = all_long;
  scan = told (begun 0 160 (sha256 only_record)) only_record;
  judged = (told (begun 0 160 (sha256 only_record)) only_record, (omega arith, ((long, refl), refl)), refl);
  whole = refl;
  counted = refl;
  lost = refl;
}

read : IsRead AnyBatches (to_read two_blocks two_written 0) tt rows one_sound tt
read = subst (λ (t : TreeToRead). IsRead AnyBatches t tt rows one_sound tt) (sym tree_is) read_first

pub export_example : ExportExample
export_example = (
  λ l m bodies o exchanges h. h,
  device,
  serving,
  record {
    rows = rows;
    cells = in_bucket ∷ [];
    read = read;
    blocks = (in_bucket ∷ [], [], bucket_reads, refl, refl);
    put = (write_of in_bucket ∷ [], refl, (two_writes, refl, refl));
    right = image_right AnyBatches two_blocks two_written tt tt rows one_sound (in_bucket ∷ []) device read (in_bucket ∷ [], [], bucket_reads, refl, refl);
  },
  refl,
  refl,
)

found_written : (c : Cell) → IsFound (λ n. n < node_count (depth_of two_blocks.device 0)) (λ n. in_bucket ∷ []) (in_stash ∷ []) c → array_in two_blocks two_world c.address ≡ c.content
found_written c (inl (n, below, has)) = subst (λ (x : Cell). array_in two_blocks two_world x.address ≡ x.content) (sym (only_one in_bucket c has)) refl
found_written c (inr has) = subst (λ (x : Cell). array_in two_blocks two_world x.address ≡ x.content) (sym (only_one in_stash c has)) refl

others_zero : (a : ℕ) → ((c : Cell) → IsFound (λ n. n < node_count (depth_of two_blocks.device 0)) (λ n. in_bucket ∷ []) (in_stash ∷ []) c → c.address ≢ a) → array_in two_blocks two_world a ≡ replicate 16 0
others_zero zero none = absurd (none in_bucket (inl (0, subst (λ (d : ℕ). 0 < node_count d) (sym no_depth) (omega arith), (zero, omega arith, refl))) refl)
others_zero (suc zero) none = absurd (none in_stash (inr (zero, omega arith, refl)) refl)
others_zero (suc (suc a)) none = refl

pub found_blocks_example : FoundBlocksExample
found_blocks_example = (λ n below. bucket_reads, record { written = found_written; zeros = others_zero })
