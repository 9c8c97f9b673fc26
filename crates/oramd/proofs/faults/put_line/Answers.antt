use Rattle.std.proofs.Common.{◌++◌, append_assoc, codes, refl, sym}
use Rattle.std.proofs.KnownBytes.{Appends-trans}
use Rattle.oram_host.proofs.Transfers.{begun_first, begun_last, begun_next}
use Rattle.oramd.specs.Faults.{message_of}
use Rattle.oramd.proofs.faults.put_line.Goals as goal

pub returns-in_err-put-clause-begun : goal.returns-in_err-put-clause-begun
returns-in_err-put-clause-begun g c =
    let message = message_of c.args.fault.now in
    begun_first _ _ (codes "oramd: ") (message ++ codes "\n") _ c.put.ensures.begun (sym (append_assoc (codes "oramd: ") message (codes "\n")))

pub returns-in_err-put_message-clause-begun : goal.returns-in_err-put_message-clause-begun
returns-in_err-put_message-clause-begun g c =
    begun_next _ _ _ (codes "oramd: ") (message_of c.args.fault.now) (codes "\n") _ c.in_ok-put.ensures.ok c.put_message.ensures.begun refl

pub returns-clause-begun : goal.returns-clause-begun
returns-clause-begun g c =
    let message = message_of c.args.fault.now in
    begun_last _ _ _ (codes "oramd: " ++ message) (codes "\n")
    (Appends-trans _ _ _ (codes "oramd: ") message c.in_ok-put.ensures.ok c.in_ok-put_message.ensures.ok)
    c.put-2.ensures.begun
