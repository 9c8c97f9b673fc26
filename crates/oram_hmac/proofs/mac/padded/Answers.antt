use Rattle.oram_hmac.proofs.SameBytes.{padded_is}
use Rattle.oram_hmac.proofs.mac.padded.Goals as goal

pub returns : goal.returns
returns c = padded_is c.args.key.now c.copy_from_slice.new.self c.copy_from_slice.ensures.after
