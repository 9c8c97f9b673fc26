use Rattle.std.proofs.Common.{◌||◌, Option, is_some, sym, ap, ◌∙◌}
use Rattle.oram_bucket.specs.Cell.{Cell}
use Rattle.oram_tree.proofs.Gathered.{taken}
use Rattle.oram_tree.proofs.Rewrites.{content_of_own, content_of_other}
use Rattle.oram_tree.proofs.path_rewrite.take_before.Goals as goal

pub returns-in-Some-clause-others : goal.returns-in-Some-clause-others
returns-in-Some-clause-others c = taken c.args.stash.now c.take.new.self c.args.address c.take.result c.take.ensures.was_rising c.take.ensures.value c.take.ensures.some c.take.ensures.none

pub returns-in-None-clause-others : goal.returns-in-None-clause-others
returns-in-None-clause-others c = taken c.args.stash.now c.take.new.self c.args.address c.take.result c.take.ensures.was_rising c.take.ensures.value c.take.ensures.some c.take.ensures.none

pub returns-in-Some-clause-before : goal.returns-in-Some-clause-before
returns-in-Some-clause-before c = ap (λ (b : Cell). b.content) c.block.view_is ∙ sym (content_of_own c.args.stash.now c.args.address _ c.in-Some.block (sym c.in-Some.ensures.value))

pub returns-in-None-clause-before : goal.returns-in-None-clause-before
returns-in-None-clause-before c = sym (content_of_other c.args.stash.now c.args.address _ (sym c.in-None.ensures.value))

pub returns-in-Some-clause-found : goal.returns-in-Some-clause-found
returns-in-Some-clause-found c = ap (λ (o : Option Cell). is_some o || c.args.on_path.found) c.in-Some.ensures.value

pub returns-in-None-clause-found : goal.returns-in-None-clause-found
returns-in-None-clause-found c = ap (λ (o : Option Cell). is_some o || c.args.on_path.found) c.in-None.ensures.value
