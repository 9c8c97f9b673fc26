use Rattle.oram_link_laws.proofs.Overlay.{laid_over_is_fetched_later}
use Rattle.oram_link_laws.proofs.law.laid_over_is_fetched_later.Goals as goal

pub returns : goal.returns
returns c = laid_over_is_fetched_later
