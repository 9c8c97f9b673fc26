use Rattle.oram_hmac.specs.Hmac.{hmac, inner_text, outer_text}
use Rattle.oram_hmac.proofs.mac.hmac_sha256.Goals as goal

pub returns : goal.returns
unfolding hmac inner_text outer_text
returns c = cc
