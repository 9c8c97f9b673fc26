use Rattle.std.proofs.Common.{ℕ, replicate, sym, ap, ◌∙◌}
use Rattle.oram_bucket.specs.Cell.{Cell}
use Rattle.oram_tree.proofs.Gathered.{looked_up, not_found, block_at-address, others_stay, none_stay}
use Rattle.oram_tree.proofs.path_rewrite.take_content.Goals as goal

pub returns-in-Some-clause-lookup : goal.returns-in-Some-clause-lookup
returns-in-Some-clause-lookup c =
    looked_up c.args.stash.now c.take.new.self _ c.args.address c.in-Some.block c.block.inside.content.items c.in-Some.ensures.some
    (block_at-address c.args.stash.now c.args.address c.in-Some.block (sym c.in-Some.ensures.value)) (sym (ap (λ (b : Cell). b.content) c.block.view_is))

pub returns-in-Some-clause-others : goal.returns-in-Some-clause-others
returns-in-Some-clause-others c =
    others_stay c.args.stash.now c.take.new.self c.args.address c.in-Some.block c.requires c.in-Some.ensures.some
    (block_at-address c.args.stash.now c.args.address c.in-Some.block (sym c.in-Some.ensures.value))

pub returns-in_ok-zeros-in-None-clause-lookup : goal.returns-in_ok-zeros-in-None-clause-lookup
returns-in_ok-zeros-in-None-clause-lookup c = not_found c.args.stash.now _ c.args.address _ (sym c.in-None.ensures.value) (c.in_ok-zeros-in-None.ensures ∙ ap (λ (n : ℕ). replicate n 0) c.block_bytes.ensures.value)

pub returns-in_ok-zeros-in-None-clause-others : goal.returns-in_ok-zeros-in-None-clause-others
returns-in_ok-zeros-in-None-clause-others c = none_stay c.args.stash.now c.take.new.self c.args.address c.in-None.ensures.none (sym c.in-None.ensures.value)
