use Rattle.oram_client.proofs.StampedHost.{path_messages}
use Rattle.oram_client.proofs.law.path_messages_are_about_others.Goals as goal

pub returns : goal.returns
returns c = path_messages
