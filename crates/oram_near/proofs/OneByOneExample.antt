-- The device of one block, in a batch whose answers are taken one by one.
use Rattle.std.proofs.Common.{◌≡◌, ℕ, ◌-◌, ◌==◌, ◌&&◌, nat_le, arith, Bool, false, if◌then◌else◌, Some, None, List, [], ◌∷◌, Err, refl, sym, subst, inl, inr}
use Rattle.std.specs.Option.{option_or}
use Rattle.std.specs.Prelude.{MatchBool, unwrap_or}
use Rattle.oram_levels.specs.Messages.{LevelsMessage, levels_payload}
use Rattle.oram_host.specs.Host.{Host}
use Rattle.oram_wire.specs.HostMessages.{done_answer, payload_answer, store_body}
use Rattle.oram_wire.specs.declared.host_messages.HostAnswer.TheVariants.{Done, Payload}
use Rattle.oram_host.specs.Path.{record_at}
use Rattle.oram_session.specs.declared.link.LinkFault.TheVariants.{Closed}
use Rattle.oram_link_laws.specs.Examples.{one_block}
use Rattle.oram_link_laws.proofs.Device.{no_depth}
use Rattle.oram_rounds.specs.Batches.{answered}
use Rattle.oram_rounds.proofs.Example.{first_leaf, first_tree, node_zero, one_path}
use Rattle.oram_near.specs.ComingAnswers.{Coming, no_coming}
use Rattle.oram_near.specs.Completion.{IsCompleted, IsWholePath, far_level, whole_record}
use Rattle.oram_near.specs.Examples.{LevelsBatches, Maker, link_over, maker_with, no_record, ones, ones_there, zero_records, zeros}
use Rattle.oram_near.specs.LevelsHost.{LevelsRun}
use Rattle.oram_near.specs.NearCalls.{NearBatch, NearValue}
use Rattle.oram_near.specs.NearStreams.{IsBegun, IsFetching, IsHeard}
use Rattle.oram_near.specs.PathRequests.{FetchPath, StorePath}
use Rattle.oram_near.specs.StreamExample.{LevelsStreams, StreamExample, begun_link, both_bodies, fetch_message, fetched_link, heard_link, stopped_below, stopped_given, store_message}
use Rattle.oram_near.proofs.Example.{completes_nothing, no_change, none_given, nothing_run, serves_nothing, serves_store, unsure_ones}

-- ones are given though the host has no record: they are laid over
laid_ones : record_at 88 ones 0 ≡ whole_record unsure_ones 0 0 0 (far_level 88 0 0 [] 0)
laid_ones =
    let P : ℕ → Type 0 = λ n. record_at 88 ones 0 ≡ unwrap_or (option_or (if (0 == 0) && nat_le 0 0 && (n == n) then Some (record_at 88 ones (0 - 0)) else None) (far_level 88 0 0 [] 0)) zeros in
    subst P (sym node_zero) refl

laid_whole : IsWholePath unsure_ones 0 0 0 [] ones
laid_whole = record {
  long = one_path ones refl;
  each = λ level low.
      let root_level : 0 ≡ level = omega (arith, low, no_depth) in
      let P : ℕ → Type 0 = λ k. record_at 88 ones k ≡ whole_record unsure_ones 0 0 k (far_level 88 0 0 [] k) in
      subst P root_level laid_ones;
}

laid_completed : IsCompleted unsure_ones 0 0 (payload_answer (levels_payload 0 [])) (payload_answer ones)
laid_completed =
    subst (λ (b : Bool). MatchBool b ((path : List ℕ) × IsWholePath unsure_ones 0 0 0 [] path × (payload_answer ones ≡ payload_answer path)) (payload_answer ones ≡ []))
    (sym none_given) (ones, laid_whole, refl)

-- the batch is begun
abbrev link_at : Host → List LevelsMessage → Coming → NearValue Host Maker
link_at far unsure coming = record { inner = far; empty = maker_with []; device = one_block.device; near = (link_over no_record).near; unsure = unsure; coming = coming }

abbrev begun : (far : Host) (unsure : List LevelsMessage) (coming : Coming) → IsBegun LevelsBatches LevelsStreams zero_records (link_over no_record) both_bodies (link_at far unsure coming)
begun far unsure coming = record {
  fetches = FetchPath 0 0 ∷ [];
  stores = StorePath 0 0 ones ∷ [];
  named = refl;
  paths = ((first_tree, first_leaf), ((first_tree, first_leaf, one_path ones refl), tt));
  are_fetches = (tt, tt);
  are_stores = (tt, tt);
  again = λ message one. absurd one;
  stored = ((link_over no_record).near, refl, ((link_over no_record).near, no_change, refl));
  device = refl;
  empty = refl;
}

begun_stream : IsFetching LevelsBatches LevelsStreams zero_records (link_over no_record) both_bodies [] begun_link
begun_stream = record {
  begun = begun no_record begun_link.unsure begun_link.coming;
  front = [];
  rest = FetchPath 0 0 ∷ [];
  split = refl;
  far = [];
  comes = (refl, omega arith);
  are = (refl, refl);
  to_come = refl;
  none_ready = refl;
  unsure = refl;
}

fetched_stream : IsFetching LevelsBatches LevelsStreams zero_records (link_over no_record) both_bodies (payload_answer ones ∷ []) fetched_link
fetched_stream = record {
  begun = begun no_record fetched_link.unsure fetched_link.coming;
  front = FetchPath 0 0 ∷ [];
  rest = [];
  split = refl;
  far = payload_answer (levels_payload 0 []) ∷ [];
  comes = (nothing_run false, omega arith);
  are = (laid_completed, (refl, refl));
  to_come = refl;
  none_ready = refl;
  unsure = refl;
}

heard_run : LevelsRun one_block (zero_records (maker_with [])) false no_record (answered (fetch_message ∷ store_message ∷ []) (payload_answer (levels_payload 0 []) ∷ done_answer ∷ [])) ones_there
heard_run = (no_record, inl (Payload (levels_payload 0 []), omega arith, refl, serves_nothing), (ones_there, inl (Done, tt, refl, serves_store), refl))

heard_stream : IsHeard LevelsBatches LevelsStreams zero_records (link_over no_record) both_bodies (payload_answer ones ∷ done_answer ∷ []) heard_link
heard_stream = record {
  begun = begun ones_there [] no_coming;
  far = payload_answer (levels_payload 0 []) ∷ done_answer ∷ [];
  below = answered (fetch_message ∷ store_message ∷ []) (payload_answer (levels_payload 0 []) ∷ done_answer ∷ []);
  sent = (heard_run, (refl, [], tt, refl));
  refusal = None;
  refused = (refl, tt);
  are = (laid_completed, (refl, (refl, refl)));
  ready = tt;
  past = omega arith;
  unsure = refl;
}

-- it breaks off
stopped_run : (may_lie : Bool) → LevelsRun one_block (zero_records (maker_with [])) may_lie no_record stopped_below no_record
stopped_run may_lie = (no_record, inl (Payload (levels_payload 0 []), omega arith, refl, serves_nothing), (no_record, inl (inl refl), refl))

stopped_batch : NearBatch LevelsBatches zero_records (link_over no_record) both_bodies (Err Closed) stopped_given stopped_below fetched_link
stopped_batch = (
  refl,
  refl,
  inr (inr (inr (inr (record {
    requests = FetchPath 0 0 ∷ StorePath 0 0 ones ∷ [];
    named = refl;
    paths = ((first_tree, first_leaf), ((first_tree, first_leaf, one_path ones refl), tt));
    in_order = refl;
    again = λ message one. absurd one;
    stored = ((link_over no_record).near, refl, ((link_over no_record).near, no_change, refl));
    sent = inr (Err Closed, (stopped_run false, (inl refl, (inr (inl refl), tt))));
    front = FetchPath 0 0 ∷ [];
    rest = StorePath 0 0 ones ∷ [];
    split = refl;
    fetches = refl;
    answers = payload_answer (levels_payload 0 []) ∷ [];
    given = payload_answer ones ∷ [];
    broke = ([], (store_message, Err Closed) ∷ [], tt, (inr (inl refl), tt), refl);
    are = (laid_completed, (refl, refl));
    unsure = refl;
    fault = Closed;
    reported = refl;
    as_paths = refl;
  })))),
)

pub stream_example : StreamExample
stream_example = (
  λ l m bodies o exchanges h. h.1,
  λ l m bodies answers h count. (answered bodies answers, (h.0, (count, [], tt, refl))),
  record { same_device = refl; same_len = refl; leaves_far = omega arith; are_stores = tt },
  completes_nothing,
  inl begun_stream,
  inl fetched_stream,
  inr heard_stream,
  stopped_batch,
  ((store_body 0 0 ones, Err Closed) ∷ [], [], (inr (inl refl), tt), tt, refl),
  stopped_run,
)
