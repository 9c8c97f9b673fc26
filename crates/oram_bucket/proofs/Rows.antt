-- Worked rows, by computing: a bucket of two slots in a tree of eight blocks, and a sealing.
use Rattle.std.proofs.Common.{◌≡◌, ℕ, List, [], ◌∷◌, ◌++◌, Option, Some, None, replicate, drop, refl}
use Rattle.rand_core.specs.Steps.{u32_at}
use Rattle.rand_chacha.specs.Block.{quarter_round, column_round, diagonal_round, double_rounds, block_word}
use Rattle.oram_geometry.specs.declared.Sizes.{Sizes}
use Rattle.oram_geometry.specs.Sizes.{blocks_in, level_for}
use Rattle.oram_geometry.specs.Least.{least_from}
use Rattle.oram_bucket.specs.declared.codec.BucketFault.{BucketFault}
use Rattle.oram_bucket.specs.declared.codec.BucketFault.TheVariants.{Length, Address, Order, Leaf, Dummy}
use Rattle.oram_bucket.specs.Cell.{Cell}
use Rattle.oram_bucket.specs.Bucket.{spelling}
use Rattle.oram_bucket.specs.Slots.{slot_at}
use Rattle.oram_bucket.specs.Fault.{fault_behind, first_fault}
use Rattle.oram_bucket.specs.Keystream.{key_byte, chacha_sealing, chacha_opening}

sizes : Sizes
sizes = record { blocks = 8; block_bytes = 16; slots = 2; top = 8; lifetime = 100; leaf_load = 1 }

block : Cell
block = record { address = 5; leaf = 3; content = replicate 16 255 }

slot : List ℕ
slot = 0 ∷ 0 ∷ 0 ∷ 6 ∷ 0 ∷ 0 ∷ 0 ∷ 3 ∷ replicate 16 255

zeros : ℕ → List ℕ
zeros n = replicate n 0

fault : List ℕ → Option BucketFault
fault bytes = first_fault sizes 0 bytes

spelled : spelling sizes (block ∷ []) ≡ slot ++ zeros 24
unfolding sizes block slot zeros spelling
spelled = refl

sound : fault (slot ++ zeros 24) ≡ None
unfolding sizes slot zeros fault first_fault fault_behind slot_at blocks_in level_for least_from
sound = refl

empty : fault (zeros 48) ≡ None
unfolding sizes zeros fault first_fault fault_behind slot_at blocks_in level_for least_from
empty = refl

short : fault (slot ++ zeros 23) ≡ Some Length
unfolding sizes slot zeros fault first_fault fault_behind slot_at blocks_in level_for least_from
short = refl

other_address : fault ((0 ∷ 0 ∷ 0 ∷ 9 ∷ drop 4 slot) ++ zeros 24) ≡ Some Address
unfolding sizes slot zeros fault first_fault fault_behind slot_at blocks_in level_for least_from
other_address = refl

exchanged : fault (zeros 24 ++ slot) ≡ Some Order
unfolding sizes slot zeros fault first_fault fault_behind slot_at blocks_in level_for least_from
exchanged = refl

twice : fault (slot ++ slot) ≡ Some Order
unfolding sizes slot zeros fault first_fault fault_behind slot_at blocks_in level_for least_from
twice = refl

other_leaf : fault ((0 ∷ 0 ∷ 0 ∷ 6 ∷ 0 ∷ 0 ∷ 0 ∷ 8 ∷ drop 8 slot) ++ zeros 24) ≡ Some Leaf
unfolding sizes slot zeros fault first_fault fault_behind slot_at blocks_in level_for least_from
other_leaf = refl

left_over : fault (slot ++ zeros 23 ++ 1 ∷ []) ≡ Some Dummy
unfolding sizes slot zeros fault first_fault fault_behind slot_at blocks_in level_for least_from
left_over = refl

sealed : List ℕ
sealed = 0 ∷ 0 ∷ 0 ∷ 0 ∷ 0 ∷ 0 ∷ 0 ∷ 0 ∷ 0x76 ∷ 0xb8 ∷ 0xe0 ∷ 0xad ∷ 0xa0 ∷ 0xf1 ∷ 0x3d ∷ 0x90 ∷ []

sealing : chacha_sealing (zeros 32) 0 (zeros 8) ≡ sealed
unfolding zeros sealed key_byte u32_at quarter_round column_round diagonal_round double_rounds block_word
sealing = refl

opening : chacha_opening (zeros 32) sealed ≡ Some (zeros 8)
unfolding zeros sealed key_byte u32_at quarter_round column_round diagonal_round double_rounds block_word
opening = refl

no_nonce : chacha_opening (zeros 32) (zeros 7) ≡ None
unfolding zeros
no_nonce = refl
