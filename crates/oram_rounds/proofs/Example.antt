-- A STORE of ones waits, and the server keeps zeros.
use Rattle.std.proofs.Common.{◌≡◌, ℕ, ◌+◌, ◌*◌, ◌^◌, ◌<◌, arith, Bool, true, false, ◌==◌, ◌&&◌, Some, List, [], ◌∷◌, length, replicate, Ok, refl, sym, ap, ◌∙◌, subst, inl, inr, Err}
use Rattle.std.specs.Prelude.{MatchBool}
use Rattle.oram_geometry.specs.Path.{node_on}
use Rattle.oram_geometry.specs.Sizes.{depth_of, trees_of}
use Rattle.oram_hash.specs.Path.{path_of, record_at}
use Rattle.oram_wire.specs.HostMessages.{done_answer, fetch_body, payload_answer, store_body}
use Rattle.oram_wire.specs.declared.host_messages.HostAnswer.TheVariants.{Done, Payload}
use Rattle.oram_host.specs.Answers.{IsFetched}
use Rattle.oram_host.specs.Host.{Host, Kept, record_of}
use Rattle.oram_host.specs.Path.{node_on as host_node, record_at as host_record}
use Rattle.oram_host.specs.Service.{Serves}
use Rattle.oram_semantics.proofs.Replaced.{store_replaces}
use Rattle.oram_semantics.specs.Moves.{records_after}
use Rattle.oram_semantics.specs.Scheme.{record_len}
use Rattle.oram_host_laws.specs.Honest.{Takes}
use Rattle.oram_session.specs.Links.{ToServer}
use Rattle.oram_tree.specs.Content.{node_count}
use Rattle.oram_session.specs.declared.link.LinkFault.TheVariants.{Closed}
use Rattle.oram_link_laws.specs.Examples.{new_host, new_server, one_block}
use Rattle.oram_link_laws.proofs.Device.{eighty_eight, no_depth, one_tree, session_example}
use Rattle.oram_link_laws.specs.Overlay.{IsLaidOver}
use Rattle.oram_rounds.specs.Examples.{DirectBatches, OneWaitsExample, one_ahead, one_kept, one_waits, ones_ahead, ones_unsettled, stored_behind, zeros_fetched}
use Rattle.oram_rounds.specs.Rounds.{RoundCall, WentAhead}
use Rattle.oram_rounds.specs.CatchUp.{CatchesUp, left_by}
use Rattle.oram_rounds.specs.Law.{AreAhead, IsStocked}
use Rattle.oram_rounds.specs.Overlay.{IsOverlaid, LaysAllOver, holds_path, tree_path}
use Rattle.oram_rounds.specs.PathMessages.{IsPathFetch, IsPathStore}
use Rattle.oram_rounds.proofs.CatchUp.{put_catches}
use Rattle.oram_rounds.proofs.KeptPaths.{serves_fetch}

abbrev ones : List ℕ
ones = replicate 88 1

abbrev zeros : List ℕ
zeros = replicate 88 0

pub first_tree : 0 < trees_of one_block.device
first_tree = omega (arith, one_tree)

pub first_leaf : 0 < 2 ^ depth_of one_block.device 0
first_leaf = let P : ℕ → Type 0 = λ d. 0 < 2 ^ d in subst P no_depth (omega arith)

pub one_path : (bytes : List ℕ) → length bytes ≡ 88 → length bytes ≡ (depth_of one_block.device 0 + 1) * 88
one_path bytes long = let P : ℕ → Type 0 = λ d. length bytes ≡ (d + 1) * 88 in subst P no_depth long

abbrev stores_ones : IsPathStore one_block.device 88 (store_body 0 0 ones)
stores_ones = record { tree = 0; leaf = 0; records = ones; tree_in = first_tree; leaf_in = first_leaf; whole = one_path ones refl; named = refl }

abbrev fetches : IsPathFetch one_block.device (fetch_body 0 0)
fetches = record { tree = 0; leaf = 0; tree_in = first_tree; leaf_in = first_leaf; named = refl }

-- the host is one that catches up, by no STORE so far
now_caught : CatchesUp one_block new_host [] new_host
now_caught = let held = session_example.1 in record { records = held.world.records; keeps = held.hosts; paths = tt; ahead = held.hosts }

pub whole_record : 88 ≡ record_len one_block
whole_record = eighty_eight

put : (later : Host) × CatchesUp one_block new_host (store_body 0 0 ones ∷ []) later × Takes new_host (store_body 0 0 ones) later
put =
    let s = subst (λ (len : ℕ). IsPathStore one_block.device len (store_body 0 0 ones)) whole_record stores_ones in
    put_catches one_block [] (store_body 0 0 ones) new_host new_host s now_caught

caught : (later : Host) × CatchesUp one_block new_host (store_body 0 0 ones ∷ []) later
caught = (put.0, put.1)

-- the record that the STORE leaves is as long as records are

pub node_zero_by : node_on 0 0 0 ≡ 0
unfolding node_on
node_zero_by = refl

pub node_zero : node_on (depth_of one_block.device 0) 0 0 ≡ 0
node_zero = let P : ℕ → Type 0 = λ d. node_on d 0 0 ≡ 0 in subst P no_depth node_zero_by

long_at : (depth : ℕ) → length (record_at (record { depth = depth; leaf = 0; record_len = 88; bytes = ones }) 0) ≡ 88
unfolding record_at
long_at depth = refl

long_by : (depth len : ℕ) → 88 ≡ len → length (record_at (record { depth = depth; leaf = 0; record_len = len; bytes = ones }) 0) ≡ len
long_by depth len is = let P : ℕ → Type 0 = λ n. length (record_at (record { depth = depth; leaf = 0; record_len = n; bytes = ones }) 0) ≡ n in subst P is (long_at depth)

stored_long : (r : ℕ → ℕ → List ℕ) (i n : ℕ) → i < trees_of one_block.device → n < node_count (depth_of one_block.device i)
    → length (records_after one_block r (store_body 0 0 ones ∷ []) i n) ≡ record_len one_block
stored_long r i n inside within =
    let tree : 0 ≡ i = omega (arith, inside, one_tree) in
    let Q : ℕ → Type 0 = λ t. n < node_count (depth_of one_block.device t) in
    let R : ℕ → Type 0 = λ d. n < node_count d in
    let few : n < node_count 0 = subst R (sym no_depth) (subst Q (sym tree) within) in
    let node : n ≡ node_on (depth_of one_block.device 0) 0 0 = omega (arith, few, node_zero) in
    let new = store_replaces one_block r 0 0 [] ones (omega arith) in
    let here : records_after one_block r (store_body 0 0 ones ∷ []) 0 (node_on (depth_of one_block.device 0) 0 0) ≡ record_at (path_of one_block.device 0 0 0 ones) 0 = new.on_path 0 (omega arith) in
    ap (λ (t : ℕ). length (records_after one_block r (store_body 0 0 ones ∷ []) t n)) (sym tree)
    ∙ ap (λ (m : ℕ). length (records_after one_block r (store_body 0 0 ones ∷ []) 0 m)) node
    ∙ ap length here ∙ long_by (depth_of one_block.device 0) (record_len one_block) whole_record

stocked : IsStocked one_block caught.0
stocked = (left_by one_block caught.1.records (store_body 0 0 ones ∷ []), caught.1.ahead, λ i n inside within. stored_long caught.1.records i n inside within)

-- the server gives the zeros

abbrev kept : Kept
kept = record { depth = 0; record_len = 88; records = (0, zeros) ∷ [] }

zeros_at : record_of kept (host_node 0 0 0) ≡ Some (host_record 88 zeros 0)
unfolding host_node
zeros_at = refl

fetched : IsFetched new_host 0 0 zeros
fetched = record {
  kept = kept;
  shaped = refl;
  leaf_in = omega arith;
  path = record {
    whole = refl;
    each = λ l low.
        let none : 0 ≡ l = omega (arith, low) in
        let P : ℕ → Type 0 = λ k. record_of kept (host_node 0 0 k) ≡ Some (host_record 88 zeros k) in subst P none zeros_at;
  };
}

gives : Serves new_host (fetch_body 0 0) (Payload zeros) new_host
gives = serves_fetch new_host new_host 0 0 (Payload zeros) (omega arith) (fetched, refl)

-- the ones are laid over them

laid : IsLaidOver (tree_path one_block.device 88 0 0) 0 ones zeros ones
laid =
    let P : ℕ → Type 0 = λ d. IsLaidOver (record { tree = 0; depth = d; record_len = 88; leaf = 0 }) 0 ones zeros ones in
    subst P no_depth (record { whole = refl; shared = λ l low same. refl; others = λ l low apart. absurd (apart refl) })

overlaid : IsOverlaid one_block.device 88 0 0 (store_body 0 0 ones ∷ []) (payload_answer zeros) (payload_answer ones)
overlaid =
    let P : ℕ → Type 0 = λ d. ((128 == 128) && (89 == 1 + (d + 1) * 88)) ≡ true in
    let holds : holds_path one_block.device 88 0 0 (payload_answer zeros) ≡ true = subst P no_depth refl in
    subst (λ (b : Bool). MatchBool b ((new : List ℕ) × LaysAllOver one_block.device 88 0 0 (store_body 0 0 ones ∷ []) zeros new × (payload_answer ones ≡ payload_answer new)) (payload_answer ones ≡ payload_answer zeros)) (sym holds)
    (ones, (ones, (stores_ones, inl (refl, laid)), refl), refl)

call : RoundCall DirectBatches one_waits (fetch_body 0 0) (Ok (payload_answer ones)) zeros_fetched one_waits
call = record {
  device = refl;
  record_len = refl;
  does = inr (inl (record {
    path = fetches;
    not_ahead = λ none. none;
    outcome = Ok (payload_answer zeros ∷ []);
    batch = ((new_server, record { answer = (Payload zeros, gives, omega arith, refl); faults = refl }, refl), (refl, [], tt, refl));
    held = refl;
    ahead = refl;
    gives = record { acks = []; answer = payload_answer zeros; all = refl; either = inl (tt, refl, payload_answer ones, refl, overlaid) };
  }));
}

-- where no STORE is kept, an answer stays as it came
pub unlaid : (len : ℕ) (b : Bool) (bytes : List ℕ)
    → MatchBool b ((new : List ℕ) × LaysAllOver one_block.device len 0 0 [] bytes new × (payload_answer bytes ≡ payload_answer new)) (payload_answer bytes ≡ payload_answer bytes)
unlaid len true bytes = (bytes, refl, refl)
unlaid len false bytes = refl

-- the FETCH goes ahead, and the core asks for it then

went : WentAhead DirectBatches one_waits (fetch_body 0 0 ∷ []) zeros_fetched one_ahead
went = record {
  device = refl;
  record_len = refl;
  held = refl;
  does = inl (record {
    some = λ none. absurd (let both : fetch_body 0 0 ∷ [] ≡ [] = none in cc);
    paths = (fetches, tt);
    outcome = Ok (payload_answer zeros ∷ []);
    batch = ((new_server, record { answer = (Payload zeros, gives, omega arith, refl); faults = refl }, refl), (refl, [], tt, refl));
    gives = record { given = payload_answer zeros ∷ []; acks = []; all = refl; count = refl; either = inl (tt, refl, payload_answer zeros ∷ [], ((fetches, unlaid 88 (holds_path one_block.device 88 0 0 (payload_answer zeros)) zeros), (refl, refl)), 1, refl) };
  });
}

are_ahead : (may_lie : Bool) → AreAhead may_lie one_block new_host one_ahead
are_ahead may_lie = inr (new_host, now_caught, ((fetches, (new_host, inl (Payload zeros, omega arith, refl, gives))), tt))

taken : RoundCall DirectBatches one_ahead (fetch_body 0 0) (Ok (payload_answer ones)) [] one_waits
taken = record {
  device = refl;
  record_len = refl;
  does = inr (inr (inr (record {
    path = fetches;
    answer = payload_answer zeros;
    next = refl;
    given = payload_answer ones;
    reported = refl;
    over = overlaid;
    none = refl;
    same = refl;
    kept = refl;
    held = refl;
  })));
}

-- the FETCH goes ahead of the STORE, and the server carries out both

abbrev stored_server : ToServer
stored_server = record { host = put.0; faults = 0 }

went_over : WentAhead DirectBatches one_kept (fetch_body 0 0 ∷ []) stored_behind (ones_ahead stored_server)
went_over = record {
  device = refl;
  record_len = refl;
  held = refl;
  does = inl (record {
    some = λ none. absurd (let both : fetch_body 0 0 ∷ [] ≡ [] = none in cc);
    paths = (fetches, tt);
    outcome = Ok (payload_answer zeros ∷ done_answer ∷ []);
    batch = (
      (
        new_server,
        record { answer = (Payload zeros, gives, omega arith, refl); faults = refl },
        (stored_server, record { answer = (Done, put.2, tt, refl); faults = refl }, refl),
      ),
      (refl, [], tt, refl),
    );
    gives = record {
      given = payload_answer zeros ∷ [];
      acks = done_answer ∷ [];
      all = refl;
      count = refl;
      either = inl ((refl, tt), refl, payload_answer ones ∷ [], ((fetches, overlaid), (refl, refl)), 1, refl);
    };
  });
}

-- the FETCH has its answer, and then the connection breaks

went_broken : WentAhead DirectBatches one_kept (fetch_body 0 0 ∷ []) zeros_fetched ones_unsettled
went_broken = record {
  device = refl;
  record_len = refl;
  held = refl;
  does = inl (record {
    some = λ none. absurd (let both : fetch_body 0 0 ∷ [] ≡ [] = none in cc);
    paths = (fetches, tt);
    outcome = Err Closed;
    batch = ((new_server, record { answer = (Payload zeros, gives, omega arith, refl); faults = refl }, refl), (inl refl, tt));
    gives = record {
      given = payload_answer zeros ∷ [];
      acks = [];
      few = omega arith;
      breaks = ([], [], tt, tt, refl);
      in_turn = inl refl;
      leaves = record { kept = refl; either = inr (refl, payload_answer ones ∷ [], ((fetches, overlaid), (refl, refl)), 1, refl) };
    };
  });
}

pub one_waits_example : OneWaitsExample
one_waits_example = (
  λ l m bodies o exchanges h. h.1,
  (caught.0, caught.1, stocked),
  call,
  λ may_lie. (new_host, inl (Payload zeros, omega arith, refl, gives), refl),
  went,
  λ may_lie. (inl refl, are_ahead may_lie),
  taken,
  (stored_server, went_over, λ may_lie. (new_host, inl (Payload zeros, omega arith, refl, gives), (put.0, inl (Done, tt, refl, put.2), refl))),
  went_broken,
)
