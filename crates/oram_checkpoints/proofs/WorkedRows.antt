-- Worked rows.
use Rattle.std.proofs.Common.{◌≡◌, refl, [], ◌∷◌, true, false}
use Rattle.oram_checkpoints.specs.Messages.{Checkpoint, Summary, is_message_length, message_body, names_message, numbered_text}
use Rattle.oram_checkpoints.specs.Views.{viewed_body}
use Rattle.oram_checkpoints.specs.declared.view.View.TheVariants as view

-- the checkpoint 258 with a summary of two bytes, 11 12 (hexadecimal)
first_checkpoint : message_body (Checkpoint 258 (17 ∷ 18 ∷ [])) ≡ 8 ∷ 0 ∷ 0 ∷ 0 ∷ 0 ∷ 0 ∷ 0 ∷ 1 ∷ 2 ∷ 17 ∷ 18 ∷ []
first_checkpoint = refl

summary_asked : message_body Summary ≡ 9 ∷ []
summary_asked = refl

-- what the answer to SUMMARY has behind its first byte, after this checkpoint
summary_given : numbered_text 258 (17 ∷ 18 ∷ []) ≡ 0 ∷ 0 ∷ 0 ∷ 0 ∷ 0 ∷ 0 ∷ 1 ∷ 2 ∷ 17 ∷ 18 ∷ []
summary_given = refl

not_of_checkpoints : names_message (7 ∷ []) ≡ false
not_of_checkpoints = refl

checkpoint_cut_short : is_message_length 8 8 ≡ false
checkpoint_cut_short = refl

empty_summary : is_message_length 8 9 ≡ true
empty_summary = refl

longest_summary : is_message_length 8 524297 ≡ true
longest_summary = refl

longer_summary : is_message_length 8 524298 ≡ false
longer_summary = refl

summary_with_a_number : is_message_length 9 9 ≡ false
summary_with_a_number = refl

-- nodes 3 and 4 of tree 0, as they are now, and as they were at checkpoint 258
nodes_now : viewed_body (record { view = view.Now; records = record { tree = 0; first = 3; count = 2 } }) ≡ 5 ∷ 0 ∷ 0 ∷ 0 ∷ 0 ∷ 0 ∷ 3 ∷ 0 ∷ 0 ∷ 0 ∷ 2 ∷ []
nodes_now = refl

nodes_then : viewed_body (record { view = view.Checkpoint 258; records = record { tree = 0; first = 3; count = 2 } })
    ≡ 5 ∷ 1 ∷ 0 ∷ 0 ∷ 0 ∷ 0 ∷ 0 ∷ 0 ∷ 1 ∷ 2 ∷ 0 ∷ 0 ∷ 0 ∷ 0 ∷ 3 ∷ 0 ∷ 0 ∷ 0 ∷ 2 ∷ []
nodes_then = refl
