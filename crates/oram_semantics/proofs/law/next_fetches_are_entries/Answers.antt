use Rattle.oram_semantics.proofs.NextEntries.{next_fetches_are_entries}
use Rattle.oram_semantics.proofs.law.next_fetches_are_entries.Goals as goal

pub returns : goal.returns
returns c = next_fetches_are_entries
