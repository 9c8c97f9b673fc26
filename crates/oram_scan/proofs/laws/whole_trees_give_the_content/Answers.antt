use Rattle.oram_scan.proofs.Images.{whole_give_the_content}
use Rattle.oram_scan.proofs.laws.whole_trees_give_the_content.Goals as goal

pub returns : goal.returns
returns c = whole_give_the_content
