-- If six numbers have no fault, each is in its range.
use Rattle.std.proofs.Common.{◌≡◌, ℕ, ◌≤◌, ◌%◌, ◌^◌, ◌==◌, ◌&&◌, Bool, true, false, if◌then◌else◌, not, Option, Some, None, refl, arith}
use Rattle.std.proofs.lemmas.Bool.Decides.{nat_tests}
use Rattle.oram_geometry.specs.declared.Sizes.{Sizes}
use Rattle.oram_geometry.specs.Sizes.{IsDevice, is_between, most_blocks, range_fault}
use Rattle.oram_geometry.specs.declared.ShapeFault.{ShapeFault}

-- the next test, if the one before it found no fault
passed : (ok : Bool) (f : ShapeFault) (rest : Option ShapeFault) → (if not ok then Some f else rest) ≡ None → (ok ≡ true) × (rest ≡ None)
passed true f rest e = (refl, e)
passed false f rest e = cc

between : (low high n : ℕ) → is_between low high n ≡ true → (low ≤ n) × (n ≤ high)
between low high n h = grind (arith, nat_tests)

both : (a b : Bool) → (a && b) ≡ true → (a ≡ true) × (b ≡ true)
both true b h = (refl, h)
both false b h = cc

equal : (m n : ℕ) → (m == n) ≡ true → m ≡ n
equal m n h = grind (arith, nat_tests)

pub in_ranges : (d : Sizes) → range_fault d ≡ None → IsDevice d
in_ranges d e =
    let loads = passed _ _ _ e in
    let a = passed _ _ _ loads.1 in
    let b = passed _ _ _ a.1 in
    let c = passed _ _ _ b.1 in
    let f = passed _ _ _ c.1 in
    let g = passed _ _ _ f.1 in
    let h = passed _ _ _ g.1 in
    let bytes = both _ _ b.0 in
    let blocks = between 1 (most_blocks d.leaf_load) d.blocks a.0 in
    let length = between 16 4096 d.block_bytes bytes.0 in
    let slots = between 1 8 d.slots c.0 in
    let top = between 1 (most_blocks d.leaf_load) d.top f.0 in
    let lifetime = between 1 (2 ^ 40) d.lifetime g.0 in
    let load = between 1 8 d.leaf_load loads.0 in
    record {
      some_blocks = blocks.0;
      few_blocks = blocks.1;
      some_bytes = length.0;
      few_bytes = length.1;
      whole_words = equal (d.block_bytes % 4) 0 bytes.1;
      some_slots = slots.0;
      few_slots = slots.1;
      some_top = top.0;
      few_top = top.1;
      some_lifetime = lifetime.0;
      few_lifetime = lifetime.1;
      some_load = load.0;
      few_load = load.1;
      room = h.0;
    }
