use Rattle.std.proofs.Common.{◌≡◌, ◌∙◌, ℕ, ◌*◌, ◌/◌, ◌<◌, ◌^◌, Result, Ok, Err, None, ap, arith, sym}
use Rattle.std.specs.Result.{result_ok}
use Rattle.oram_geometry.specs.Sizes.{device_of}
use Rattle.oram_settings.proofs.disk_file.device_of.Goals as goal

-- the quotient of a whole number of blocks is that number
quotient : (size block n blocks : ℕ) → 0 < block → n ≡ size / block → blocks * block ≡ size → n ≡ blocks
quotient size block n blocks some is whole = grind arith

none_is_ok : {T E : Type 0} (r : Result T E) (x : T) → result_ok r ≡ None → r ≡ Ok x → ⊥
none_is_ok (Ok y) x none is = cc
none_is_ok (Err e) x none is = cc

pub returns-clause-none : goal.returns-clause-none
returns-clause-none c = λ none d is.
    let same : c.in_ok-blocks.blocks ≡ is.0 = quotient c.args.size c.args.block c.in_ok-blocks.blocks is.0 c.in_ok-blocks.ensures.0 c.in_ok-blocks.ensures.1 is.1 in
    none_is_ok c.packed.result d (sym c.ok.ensures.value ∙ none)
    (c.packed.ensures ∙ ap (λ (n : ℕ). device_of (record { blocks = n; block_bytes = c.args.block; slots = c.args.slots; top = c.args.table; lifetime = 2 ^ 40; leaf_load = c.args.leaf_load })) same ∙ is.2)
