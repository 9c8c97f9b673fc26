use Rattle.oram_session.proofs.Honesty.{direct_is_honest}
use Rattle.oram_session.proofs.law.direct_links_are_honest.Goals as goal

pub returns : goal.returns
returns c = direct_is_honest
