use Rattle.oram_hmac.proofs.TagsApart.{messages_apart}
use Rattle.oram_hmac.proofs.law.messages_have_tags_of_their_own.Goals as goal

pub returns : goal.returns
returns c = messages_apart
