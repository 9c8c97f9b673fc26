use Rattle.oram_session.proofs.Honesty.{faulty_is_honest}
use Rattle.oram_session.proofs.law.faulty_links_are_honest.Goals as goal

pub returns : goal.returns
returns c c' = faulty_is_honest _
