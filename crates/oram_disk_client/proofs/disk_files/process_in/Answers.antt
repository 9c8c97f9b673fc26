use Rattle.std.proofs.Common.{rules}
use Rattle.oram_disk_client.proofs.disk_files.process_in.Goals as goal

pub returns-in-Err-Torn-clause-only : goal.returns-in-Err-Torn-clause-only
returns-in-Err-Torn-clause-only g c = λ d stores core file behind. search (rules, c.in-Err-Torn.ensures.only d stores core file behind)

pub returns-in-Err-Core-clause-only : goal.returns-in-Err-Core-clause-only
returns-in-Err-Core-clause-only g c = λ d stores core file behind. search (rules, c.in-Err-Core.ensures.only d stores core file behind)
