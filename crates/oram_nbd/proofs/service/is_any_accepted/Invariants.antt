use Rattle.std.proofs.Common.{◌≢◌, All, None, take}
use Rattle.oram_nbd.specs.Service.{refusal_of}
use Rattle.oram_nbd.proofs.service.is_any_accepted.Given as goal

abbrev pub invariant-loop-i : goal.invariant-loop-i
invariant-loop-i l = All (λ r. refusal_of l.size r ≢ None) (take l.i l.requests)
