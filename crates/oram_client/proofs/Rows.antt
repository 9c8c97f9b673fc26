-- Worked rows: how long the answers of a host are whose disk has one block, and how it is introduced. A record of it has 88 bytes.
use Rattle.std.proofs.Common.{◌≡◌, ◌≢◌, ℕ, List, refl, inl, inr, [], ◌∷◌, ◌++◌, Ok, Err}
use Rattle.std.specs.Prelude.{replicate}
use Rattle.oram_geometry.specs.Sizes.{blocks_in, level_for, record_len_of, trees_of}
use Rattle.oram_geometry.specs.Least.{least_from}
use Rattle.oram_records.specs.Messages.{records_body}
use Rattle.oram_client.specs.AnswerLengths.{longest_answer}
use Rattle.oram_wire.specs.HostMessages.{done_answer, payload_answer}
use Rattle.oram_session.specs.declared.link.LinkFault.TheVariants.{Closed}
use Rattle.oram_client.specs.Introduction.{IsIntroduced, IsUnintroduced, OwnTree, Turn, has_no_record, has_shape, identity_tree, shapes, stamps_tree}
use Rattle.oram_client.specs.OneHost.{this_disk}
use Rattle.oram_client.specs.declared.faults.IntroductionFault.TheVariants.{Link, Taken}

-- nodes 3 and 4 of tree 0: two rows of 89 bytes, after one byte
two_rows : longest_answer this_disk (records_body (record { tree = 0; first = 3; count = 2 })) ≡ 179
unfolding record_len_of trees_of blocks_in level_for least_from
two_rows = refl

-- as many nodes as fit into a frame, and one more
most_rows : longest_answer this_disk (records_body (record { tree = 0; first = 0; count = 11781 })) ≡ 1048510
unfolding record_len_of trees_of blocks_in level_for least_from
most_rows = refl

too_many_rows : longest_answer this_disk (records_body (record { tree = 0; first = 0; count = 11782 })) ≡ 1048576
unfolding record_len_of trees_of blocks_in level_for least_from
too_many_rows = refl

-- A refusal: no nodes, a tree that the disk hasn't, other records than those that the host has now, and a byte too many.
no_rows : longest_answer this_disk (records_body (record { tree = 0; first = 3; count = 0 })) ≡ 2
unfolding record_len_of trees_of blocks_in level_for least_from
no_rows = refl

no_such_tree : longest_answer this_disk (records_body (record { tree = 1; first = 3; count = 2 })) ≡ 2
unfolding trees_of blocks_in least_from
no_such_tree = refl

other_records : longest_answer this_disk (5 ∷ 1 ∷ 0 ∷ 0 ∷ 0 ∷ 0 ∷ 3 ∷ 0 ∷ 0 ∷ 0 ∷ 2 ∷ []) ≡ 2
other_records = refl

one_byte_more : longest_answer this_disk (5 ∷ 0 ∷ 0 ∷ 0 ∷ 0 ∷ 0 ∷ 3 ∷ 0 ∷ 0 ∷ 0 ∷ 2 ∷ 0 ∷ []) ≡ 2
one_byte_more = refl

-- the shape of its one tree, and those of the two beside it
its_shapes : shapes this_disk.device 0 ≡ (4 ∷ 0 ∷ 0 ∷ 0 ∷ 0 ∷ 0 ∷ 88 ∷ []) ∷ []
unfolding record_len_of trees_of blocks_in level_for least_from
its_shapes = refl

identity_shape : (identity_tree []).shape ≡ 4 ∷ 255 ∷ 0 ∷ 0 ∷ 0 ∷ 0 ∷ 32 ∷ []
identity_shape = refl

stamps_shape : (stamps_tree []).shape ≡ 4 ∷ 254 ∷ 1 ∷ 0 ∷ 0 ∷ 0 ∷ 48 ∷ []
stamps_shape = refl

-- its identity, and the key of its stamps
named : List ℕ
named = replicate 32 1

key : List ℕ
key = replicate 32 0

-- a question for a tree beside the device's, and the answers
abbrev asks : OwnTree → List ℕ → List ℕ → Turn
asks own made shown = (own.shape ∷ own.question ∷ [], Ok (made ∷ shown ∷ []))

-- the last batch, whose trees were made now or before
abbrev ends : List ℕ → Turn
ends made = (shapes this_disk.device 0 ++ (identity_tree named).question ∷ [], Ok (made ∷ payload_answer named ∷ []))

-- It is introduced to a new host,
to_a_new_host : IsIntroduced this_disk.device 0 named key (
    asks (identity_tree named) done_answer has_no_record ∷ ((identity_tree named).puts, Ok (done_answer ∷ []))
    ∷ asks (stamps_tree key) done_answer has_no_record ∷ ((stamps_tree key).puts, Ok (done_answer ∷ done_answer ∷ []))
    ∷ ends done_answer ∷ [])
to_a_new_host = record {
  named = asks (identity_tree named) done_answer has_no_record ∷ ((identity_tree named).puts, Ok (done_answer ∷ [])) ∷ [];
  stamped = asks (stamps_tree key) done_answer has_no_record ∷ ((stamps_tree key).puts, Ok (done_answer ∷ done_answer ∷ [])) ∷ [];
  shaped = ends done_answer ∷ [];
  turns_are = refl;
  identity_kept = inr (_, _, (done_answer ∷ [], (inl refl, tt), refl), (done_answer ∷ [], (refl, tt), refl), refl);
  stamps_kept = inr (_, _, (done_answer ∷ [], (inl refl, tt), refl), (done_answer ∷ done_answer ∷ [], (refl, (refl, tt)), refl), refl);
  trees_made = (done_answer ∷ [], (inl refl, tt), refl);
}

-- and again to one that has all of it.
to_its_host : IsIntroduced this_disk.device 0 named key (
    asks (identity_tree named) has_shape (payload_answer named) ∷ asks (stamps_tree key) has_shape (payload_answer (stamps_tree key).kept) ∷ ends has_shape ∷ [])
to_its_host = record {
  named = asks (identity_tree named) has_shape (payload_answer named) ∷ [];
  stamped = asks (stamps_tree key) has_shape (payload_answer (stamps_tree key).kept) ∷ [];
  shaped = ends has_shape ∷ [];
  turns_are = refl;
  identity_kept = inl (has_shape ∷ [], (inr refl, tt), refl);
  stamps_kept = inl (has_shape ∷ [], (inr refl, tt), refl);
  trees_made = (has_shape ∷ [], (inr refl, tt), refl);
}

-- A host with another identity is asked for nothing else.
to_another_host : (other : List ℕ) → other ≢ named
    → IsUnintroduced this_disk.device 0 named key (asks (identity_tree named) has_shape (payload_answer other) ∷ []) Taken
to_another_host other differs = inl (inr (inr (inl (payload_answer other, (has_shape ∷ [], (inr refl, tt), refl), inl (other, refl, differs, refl)))))

-- The connection breaks at the first batch.
broken : IsUnintroduced this_disk.device 0 named key (((identity_tree named).shape ∷ (identity_tree named).question ∷ [], Err Closed) ∷ []) Link
broken = inl (inr (inl (inl (Closed, refl, refl))))
