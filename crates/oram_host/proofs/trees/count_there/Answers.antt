use Rattle.std.proofs.Common.{◌∙◌, rules}
use borrow.Author.Tests.{tests}
use Rattle.std.specs.BTreeMap.{values}
use Rattle.std.proofs.lemmas.Iterator.Consumers.{YieldsList-from_filter, YieldsList-from_rest, count_from_yields_List}
use Rattle.std.proofs.lemmas.List.Sums.{length-filter}
use Rattle.oram_host.specs.Trees.{is_there}
use Rattle.oram_host.proofs.trees.count_there.Goals as goal

pub returns : goal.returns
returns c =
    count_from_yields_List c.filter.result _ c.count.ensures.ran (YieldsList-from_filter _ is_there (YieldsList-from_rest (values c.args.records.now) (c.filter.ensures.source ∙ c.values.ensures.rest)) c.filter.ensures.closure (λ x b q k. search (rules, tests)))
    ∙ length-filter is_there (values c.args.records.now)
