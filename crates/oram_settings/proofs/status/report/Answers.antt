use Rattle.std.proofs.Common.{◌∙◌, ◌++◌, ◌-◌, ap, codes, decimal}
use Rattle.std.proofs.lemmas.Result.{IfOk-weaker}
use Rattle.oram_settings.specs.Amounts.{counted}
use Rattle.oram_settings.specs.Status.{failing, size_of}
use Rattle.oram_settings.proofs.Reports.{regrouped}
use Rattle.oram_settings.proofs.status.report.Goals as goal

pub returns : goal.returns
returns c =
    let s = c.args.status.now in
    IfOk-weaker c.format.result _ _ (λ t h. h ∙ rw (c.saturating_mul-size.ensures, c.saturating_sub-left.ensures, c.as_str-blocks.ensures.value, c.in_ok-blocks.ensures, c.as_str-stash.ensures.value, c.in_ok-stash.ensures, c.as_str-near.ensures.value, c.in_ok-near.ensures, c.as_str-failing.ensures.value, c.in_ok-failing.ensures) (ap (λ text. codes "size: " ++ text)
    (regrouped (decimal (size_of s)) (codes " bytes, ") (counted s.blocks (codes "block")) (codes " of ") (decimal s.block_bytes) (codes "\ntrees: ") (decimal s.trees) (codes "\nstash: ") (counted s.stash (codes "block")) (codes "\nnear: ") (counted s.near (codes "byte"))
    (codes "\naccesses: " ++ (decimal s.accesses ++ (codes " made, " ++ (decimal (s.lifetime - s.accesses) ++ (codes " left\nwaiting: " ++ (decimal s.waiting ++ (codes "\nstate: " ++ (failing s.failure ++ codes "\n"))))))))))) c.format.ensures.ok
