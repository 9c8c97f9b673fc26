use Rattle.std.proofs.Common.{◌∙◌}
use Rattle.oram_stash.proofs.StayingBlocks.{among}
use Rattle.oram_stash.proofs.is_among.Goals as goal

pub returns : goal.returns
returns c = c.is_ok.ensures.value ∙ among c.args.addresses.now c.args.address c.binary_search.result c.requires c.binary_search.ensures.position
