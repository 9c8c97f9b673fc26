use Rattle.oram_process_laws.proofs.Replied.{one_ticket_has_one_reply}
use Rattle.oram_process_laws.proofs.law.one_ticket_has_one_reply.Goals as goal

pub returns : goal.returns
returns c = one_ticket_has_one_reply
