-- The text that is kept of a process, in its parts.
use Rattle.std.specs.Prelude.{ℕ, List, ◌++◌}
use Rattle.oram_state.specs.StateBytes.{with_table}
use Rattle.oram_rounds.specs.declared.keeper.KeptParts.{KeptParts}
use Rattle.oram_rounds.specs.declared.kept_file.ProcessText.{ProcessText}

abbrev pub text_of : KeptParts → List ℕ
text_of text = with_table text.before.now text.table.now text.after.now ++ text.records.bytes.now

-- the text around a table and in front of records, with both
abbrev pub whole_text : ProcessText → List ℕ → List ℕ → List ℕ
whole_text text table records = with_table text.before.items table text.after.items ++ records
