use Rattle.oram_hmac.proofs.TagsApart.{keys_apart}
use Rattle.oram_hmac.proofs.law.keys_have_tags_of_their_own.Goals as goal

pub returns : goal.returns
returns c = keys_apart
