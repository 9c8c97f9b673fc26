use Rattle.std.proofs.lemmas.Result.{IfOk-from_err}
use Rattle.oram_core.proofs.messages.Room.new.Goals as goal

pub returns-in_err-sent : goal.returns-in_err-sent
returns-in_err-sent c = IfOk-from_err c.from_residual.result _ c.from_residual.ensures.0

pub returns-in_err-sends : goal.returns-in_err-sends
returns-in_err-sends c = IfOk-from_err c.from_residual-in_err-sends.result _ c.from_residual-in_err-sends.ensures.0

pub returns-in_err-failed : goal.returns-in_err-failed
returns-in_err-failed c = IfOk-from_err c.from_residual-in_err-failed.result _ c.from_residual-in_err-failed.ensures.0

pub returns : goal.returns
returns c = record {
  sent = c.in_ok-sent.ensures.items;
  sent_none = c.in_ok-sent.ensures.len;
  sent_room = c.in_ok-sent.ensures.capacity;
  sends = c.in_ok-sends.ensures.items;
  sends_none = c.in_ok-sends.ensures.len;
  sends_room = c.in_ok-sends.ensures.capacity;
  failed = c.in_ok-failed.ensures.items;
  failed_none = c.in_ok-failed.ensures.len;
  failed_room = c.in_ok-failed.ensures.capacity;
}
