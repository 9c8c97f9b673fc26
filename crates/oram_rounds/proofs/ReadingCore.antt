-- The core to which a read of its block was submitted: it is sound, and has a file.
use Rattle.std.proofs.Common.{◌≡◌, ℕ, zero, suc, ◌+◌, ◌*◌, ◌-◌, ◌^◌, ◌<◌, ◌≤◌, arith, List, [], ◌∷◌, length, replicate, slice_index_or, if◌then◌else◌, ◌==◌, refl, sym, ap, subst}
use Rattle.std.specs.List.{All, AllByRecursion}
use Rattle.std.proofs.lemmas.List.Elements.{All-cons, All-nil}
use Rattle.sha2.proofs.Facts256.{length-sha256}
use Rattle.oram_geometry.specs.Least.{least_from}
use Rattle.oram_geometry.specs.Sizes.{blocks_in, depth_of, level_for, trees_of}
use Rattle.oram_bucket.specs.Cell.{Cell, IsRising}
use Rattle.oram_wire.specs.HostMessages.{fetch_body}
use Rattle.oram_tree.specs.Parts.{Parts as TreeParts}
use Rattle.oram_semantics.specs.Agree.{IsAllowed}
use Rattle.oram_semantics.specs.Nonces.{buckets_below, formatted_below, next_nonce}
use Rattle.oram_semantics.specs.State.{no_tree}
use Rattle.oram_core.specs.Core.{IsAtWork, IsHealthy, IsSound, IsTreeKept}
use Rattle.oram_core.specs.Parts.{Parts, parts_of}
use Rattle.oram_state.specs.DecodedCore.{AreSavedFields}
use Rattle.oram_state.specs.StateBytes.{fields_text, work_of}
use Rattle.oram_state.specs.WellSized.{IsSizedBlock, IsSizedTree, IsSizedWork, IsWellSized}
use Rattle.oram_link_laws.specs.Examples.{one_block}
use Rattle.oram_link_laws.proofs.Device.{one_tree, session_example}
use Rattle.oram_rounds.specs.ReadingExample.{reading_core, one_read}
use Rattle.oram_rounds.specs.Files.{IsFile, kept_text}
use Rattle.oram_rounds.specs.LinkNotes.{LinkNote}

pub message_is : reading_core.message ≡ fetch_body 0 0
unfolding trees_of blocks_in level_for least_from
message_is = refl

pub table_len : 1 ≡ blocks_in one_block.device (trees_of one_block.device - 1)
unfolding trees_of blocks_in least_from
table_len = refl

one_address : 1 ≡ blocks_in one_block.device 0
unfolding blocks_in
one_address = refl

two_words : 2 ≡ 2 * trees_of one_block.device
two_words = omega (arith, one_tree)

pub allowed : IsAllowed one_block.device one_read
allowed = record { address = omega (arith, one_address); data_length = refl; words = two_words }

kept : (i : ℕ) → i < 1 → IsTreeKept one_block.device i (slice_index_or reading_core.trees i no_tree)
kept zero low = record { number = refl; blocks = All-nil _ }
kept (suc i) low = absurd (omega (arith, low))

names : All (λ (e : ℕ). e ≤ 2 ^ depth_of one_block.device (trees_of one_block.device - 1)) (0 ∷ [])
names = All-cons (λ (e : ℕ). e ≤ 2 ^ depth_of one_block.device (trees_of one_block.device - 1)) 0 [] (omega arith) (All-nil (λ (e : ℕ). e ≤ 2 ^ depth_of one_block.device (trees_of one_block.device - 1)))

no_data : (n : ℕ) → n ≡ 1 → (let len : ℕ = if 0 + 1 == 2 * n then 16 else 0 in len) ≡ 0
no_data n one = rw one refl

at_work : IsAtWork one_block.device 0 reading_core one_read
at_work = record {
  entry_number = omega (arith, one_tree);
  fetch = λ even. refl;
  store = λ odd. absurd (omega (arith, odd));
  held_entry = omega arith;
  held_data = sym (no_data (trees_of one_block.device) one_tree);
}

first_nonce : 1 ≡ next_nonce one_block.device 0 0
unfolding trees_of blocks_in level_for least_from formatted_below buckets_below
first_nonce = refl

pub sound : IsSound one_block.device 0 reading_core
sound =
    let healthy : IsHealthy one_block.device 0 reading_core = record {
      table = table_len;
      map_entries = names;
      count = sym one_tree;
      kept = λ i low. kept i (omega (arith, low, one_tree));
      queue = All-cons (IsAllowed one_block.device) one_read [] allowed (All-nil _);
      tickets = (refl, tt);
      most = omega arith;
      begun = omega arith;
      work = at_work;
      nonce = first_nonce;
    } in
    record { ranges = session_example.0; small = omega arith; next = omega arith; whole = healthy }

-- its file

abbrev parts : Parts
parts = parts_of one_block.device reading_core

message_len : length reading_core.message ≡ 6
message_len = ap length message_is

sized_tree : (t : TreeParts) → length t.root ≡ 32 → t.stash ≡ [] → IsSizedTree one_block.device t
sized_tree t root none = record {
  root = root;
  count = (let n = ap length none in omega (arith, n));
  blocks = subst (λ (cells : List Cell). AllByRecursion (IsSizedBlock one_block.device) cells) (sym none) tt;
}

sized_work : IsSizedWork one_block.device (work_of parts)
sized_work = record {
  few = omega arith;
  commands = (record { session = omega arith; command = omega arith; count = two_words; words = (omega arith, (omega arith, tt)) }, tt);
  step = omega (arith, one_tree);
  entry = omega arith;
  held = sym (no_data (trees_of one_block.device) one_tree);
  message = omega (arith, message_len);
}

well_sized : IsWellSized parts
well_sized = record {
  device = session_example.0;
  tickets = omega arith;
  nonce = omega arith;
  table = table_len;
  entries = (omega arith, tt);
  count = sym one_tree;
  trees = (sized_tree _ (length-sha256 (replicate 88 0)) refl, tt);
  work = sized_work;
}

rising : All (λ (t : TreeParts). IsRising t.stash) parts.trees
rising = All-cons (λ (t : TreeParts). IsRising t.stash) _ [] (λ i j d lt within. absurd (omega (arith, within))) (All-nil _)

abbrev fields : List ℕ
fields = fields_text 0 parts

saved : AreSavedFields fields 0 one_block.device reading_core
saved = record {
  parts = parts;
  fields = record { overhead_fits = omega arith; sized = well_sized; spelled = refl };
  fits = record { sound = sound; rising = rising };
  device = refl;
  state = refl;
}

-- a link with nothing to keep
abbrev no_records : LinkNote
no_records = record { text = []; records = [] }

abbrev pub file_bytes : List ℕ
file_bytes = kept_text [] no_records fields

pub is_file : IsFile one_block file_bytes [] reading_core
is_file = record { counted = (omega arith, tt); note = no_records; short = record { text = omega arith; records = omega arith }; fields = fields; saved = saved; all = refl }
