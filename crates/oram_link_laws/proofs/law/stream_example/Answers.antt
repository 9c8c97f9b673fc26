use Rattle.oram_link_laws.proofs.Rows.{stream_example}
use Rattle.oram_link_laws.proofs.law.stream_example.Goals as goal

pub returns : goal.returns
returns c = stream_example
