use Rattle.oram_kept.proofs.ToldPages.{any_covered}
use Rattle.oram_kept.proofs.told.all_pages.Goals as goal

pub returns : goal.returns
returns c = any_covered c.args.count c.new-pages.result.items c.add_range.new.pages.items c.new-pages.ensures.items c.in_ok-add_range.ensures
