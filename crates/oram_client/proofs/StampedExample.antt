-- A batch between its stamps, over a connection that leads to a host.
use Rattle.std.proofs.Common.{append-nil, flat_map, ◌≡◌, ◌≢◌, ℕ, ◌<◌, ◌≤◌, ◌^◌, cond, true, false, List, [], ◌∷◌, ◌++◌, length, drop, take, Ok, Err, Option, Some, refl, sym, ap, ◌∙◌, subst, inl, inr, arith, lit≤, suc, length-append}
use Rattle.std.specs.BTreeMap.{is_at}
use Rattle.std.specs.Int.{w32, from_be_bytes, to_be_bytes}
use Rattle.std.specs.List.{All}
use Rattle.std.specs.Ordering.{nat_cmp}
use Rattle.std.proofs.lemmas.List.{drop_at, take_at}
use Rattle.std.proofs.lemmas.List.Elements.{All-cons, All-nil}
use Rattle.std.proofs.lemmas.Nat.{from_be_bytes-to_be_bytes_4}
use Rattle.oram_wire.specs.FrameStream.{IsBody, frame}
use Rattle.oram_wire.specs.HostBodies.{HasNumbers, is_request_length}
use Rattle.oram_wire.specs.HostMessages.{done_answer, fetch_body, no_room_answer, payload_answer, put_body, request_body}
use Rattle.oram_wire.specs.declared.host_messages.HostAnswer.{HostAnswer}
use Rattle.oram_wire.specs.declared.host_messages.HostAnswer.TheVariants.{Done, Payload, Refused}
use Rattle.oram_wire.specs.declared.host_messages.HostRequest.{HostRequest}
use Rattle.oram_wire.specs.declared.host_messages.HostRequest.TheVariants.{Fetch, Put, Shape, Store}
use Rattle.oram_geometry.specs.Least.{least_from}
use Rattle.oram_geometry.specs.Sizes.{blocks_in, level_for, record_len_of, trees_of}
use Rattle.oram_host.specs.Answers.{Answers, IsFetched, IsPut}
use Rattle.oram_host.specs.Host.{Host, Kept, record_of, tree_at}
use Rattle.oram_host.specs.Path.{node_on, record_at}
use Rattle.oram_host.specs.Service.{Serves}
use Rattle.oram_host.specs.declared.refusals.HostRefusal.TheVariants.{OutOfMemory}
use Rattle.oram_link_laws.specs.Examples.{known}
use Rattle.oram_link_laws.specs.Repair.{IsAmong}
use Rattle.oram_link_laws.proofs.Put.{first}
use Rattle.oram_link_laws.proofs.Same.{look_past}
use Rattle.oram_rounds.proofs.KeptPaths.{serves_fetch}
use Rattle.oram_rounds.specs.Batches.{answered}
use Rattle.oram_stamps.specs.Known.{first_stamp, settled}
use Rattle.oram_stamps.specs.Stamps.{record_text, stamp_text, tag}
use Rattle.oram_stamps.specs.declared.stamp.Place.{Place}
use Rattle.oram_stamps.specs.declared.stamp.Place.TheVariants as place
use Rattle.oram_stamps.specs.declared.stamp.Stamp.{Stamp}
use Rattle.oram_stamps.proofs.Spelled.{length-stamp_text, length-tag}
use Rattle.oram_client.specs.AnswerLengths.{longest_answer}
use Rattle.oram_client.specs.OneHost.{LeadsToHost, this_disk}
use Rattle.oram_client.specs.StampMessages.{stamp_put}
use Rattle.oram_client.specs.Stamped.{IsBetween, IsStopped}
use Rattle.oram_client.specs.StampedHost.{StampedBatchExample, answered_dialer, asking_dialer, fetched_in_vain, full_line, second_stamp, stamped_answers, stamped_dialer, stamped_host, stamped_line, stamped_messages, stamped_way, stopped_way, zero_key}
use Rattle.oram_client.specs.StreamBatches.{StreamBatch}
use Rattle.oram_client.specs.TreesApart.{AgreeBeside, fetched_alone, no_stamps, one_path, one_record}
use Rattle.oram_client.specs.declared.dialer.Trouble.TheVariants.{NoRoom}
use Rattle.oram_client.specs.declared.identity.TheConstants.{STAMP_TREE}

-- the stamps' tree with these two records
abbrev kept : List ℕ → List ℕ → Kept
kept begun done = record { depth = 1; record_len = 48; records = (0, begun) ∷ (1, done) ∷ [] }

abbrev host_with : List ℕ → List ℕ → Host
host_with begun done = (0, one_record) ∷ (STAMP_TREE, kept begun done) ∷ []

other_trees : (a b c d : List ℕ) (t : ℕ) → t ≢ STAMP_TREE → tree_at (host_with a b) t ≡ tree_at (host_with c d) t
other_trees a b c d t apart =
    ap (λ (o : Option Kept). cond (is_at (nat_cmp t) 0) (Some one_record) o)
    (look_past t (STAMP_TREE, kept a b) [] (λ same. apart (sym same)) ∙ sym (look_past t (STAMP_TREE, kept c d) [] (λ same. apart (sym same))))

is_begun : (a b new : List ℕ) → length new ≡ 48 → IsPut (host_with a b) STAMP_TREE 0 new (host_with new b)
is_begun a b new long = record {
  kept = kept a b;
  changed = kept new b;
  shaped = refl;
  puts = record {
    depth = refl;
    record_len = refl;
    node_in = omega arith;
    whole = long;
    put = refl;
    others = λ other apart.
        (let rest : List (ℕ × List ℕ) = (1, b) ∷ [] in look_past other (0, new) rest (λ same. apart (sym same)) ∙ sym (look_past other (0, a) rest (λ same. apart (sym same))));
  };
  keeps = record { here = refl; others = other_trees new b a b };
}

is_done : (a b new : List ℕ) → length new ≡ 48 → IsPut (host_with a b) STAMP_TREE 1 new (host_with a new)
is_done a b new long = record {
  kept = kept a b;
  changed = kept a new;
  shaped = refl;
  puts = record {
    depth = refl;
    record_len = refl;
    node_in = omega arith;
    whole = long;
    put = refl;
    others = λ other apart.
        ap (λ (o : Option (List ℕ)). cond (is_at (nat_cmp other) 0) (Some a) o)
        (look_past other (1, new) [] (λ same. apart (sym same)) ∙ sym (look_past other (1, b) [] (λ same. apart (sym same))));
  };
  keeps = record { here = refl; others = other_trees a new a b };
}

-- a message that puts these bytes is this request
only_put : (node : ℕ) (bytes : List ℕ) → node < 2 ^ 32 → (message : HostRequest) → HasNumbers message → put_body STAMP_TREE node bytes ≡ request_body message → Put STAMP_TREE node bytes ≡ message
only_put node bytes low (Fetch t l) numbers e = absurd (let three : 3 ≡ 1 = ap first e in omega (arith, three))
only_put node bytes low (Store t l r) numbers e = absurd (let three : 3 ≡ 2 = ap first e in omega (arith, three))
only_put node bytes low (Shape t d l) numbers e = absurd (let three : 3 ≡ 4 = ap first e in omega (arith, three))
only_put node bytes low (Put t n bs) numbers e =
    let same_tree : STAMP_TREE ≡ t = ap (λ (b : List ℕ). first (drop 1 b)) e in
    let behind : to_be_bytes w32 node ++ bytes ≡ to_be_bytes w32 n ++ bs = ap (λ (b : List ℕ). drop 2 b) e in
    let number : to_be_bytes w32 node ≡ to_be_bytes w32 n = sym (take_at (to_be_bytes w32 node) bytes 4 refl) ∙ ap (take 4) behind ∙ take_at (to_be_bytes w32 n) bs 4 refl in
    let same_node : node ≡ n = sym (from_be_bytes-to_be_bytes_4 node low) ∙ ap (from_be_bytes w32) number ∙ from_be_bytes-to_be_bytes_4 n numbers in
    let same_bytes : bytes ≡ bs = sym (drop_at (to_be_bytes w32 node) bytes 4 refl) ∙ ap (drop 4) behind ∙ drop_at (to_be_bytes w32 n) bs 4 refl in
    λ i. Put (same_tree i) (same_node i) (same_bytes i)

put_answered : (host host' : Host) (node : ℕ) (bytes : List ℕ) (answer : HostAnswer) → node < 2 ^ 32 → length bytes ≡ 48 → Answers host (Put STAMP_TREE node bytes) answer host'
    → Serves host (put_body STAMP_TREE node bytes) answer host'
put_answered host host' node bytes answer low long put =
    let whole : length (put_body STAMP_TREE node bytes) ≡ 54 = ap (λ (n : ℕ). suc (suc (suc (suc (suc (suc n)))))) long in
    record {
      request = λ message numbers e. subst (λ (m : HostRequest). Answers host m answer host') (only_put node bytes low message numbers e) put;
      op = λ e. absurd cc;
      misfit = λ m. absurd (let both : true ≡ false = subst (λ (n : ℕ). is_request_length 3 n ≡ false) whole m.1 in cc);
    }

put_served : (host host' : Host) (node : ℕ) (bytes : List ℕ) → node < 2 ^ 32 → length bytes ≡ 48 → IsPut host STAMP_TREE node bytes host'
    → Serves host (put_body STAMP_TREE node bytes) Done host'
put_served host host' node bytes low long put = put_answered host host' node bytes Done low long put

path_at : record_of one_record (node_on 0 0 0) ≡ Some (record_at 2 one_path 0)
unfolding node_on
path_at = refl

on_path : (level : ℕ) → level ≤ 0 → record_of one_record (node_on 0 0 level) ≡ Some (record_at 2 one_path level)
on_path level low =
    let none : 0 ≡ level = omega (arith, low) in
    let P : ℕ → Type 0 = λ k. record_of one_record (node_on 0 0 k) ≡ Some (record_at 2 one_path k) in subst P none path_at

fetch_served : (host : Host) → tree_at host 0 ≡ Some one_record → Serves host (fetch_body 0 0) (Payload one_path) host
fetch_served host there =
    let is : IsFetched host 0 0 one_path = record { kept = one_record; shaped = there; leaf_in = omega arith; path = record { whole = refl; each = on_path } } in
    serves_fetch host host 0 0 (Payload one_path) (omega arith) (is, refl)

record_long : (p : Place) (s : Stamp) → length (record_text zero_key p s) ≡ 48
unfolding record_text
record_long p s = omega (arith, length-append (stamp_text s) (tag zero_key p s), length-stamp_text s, length-tag zero_key p s)

leads : LeadsToHost (stamped_host first_stamp first_stamp) stamped_messages stamped_answers (stamped_host second_stamp second_stamp)
leads =
    let begun = record_text zero_key place.Begun second_stamp in
    let done = record_text zero_key place.Done second_stamp in
    let first_begun = record_text zero_key place.Begun first_stamp in
    let first_done = record_text zero_key place.Done first_stamp in
    let half = host_with begun first_done in
    let whole = host_with begun done in
    record {
      answers = stamped_answers;
      given = inr (
        Done,
        half,
        frame (payload_answer one_path) ++ frame done_answer,
        tt,
        lit≤ tt,
        put_served (host_with first_begun first_done) half 0 begun (omega arith) (record_long place.Begun second_stamp) (is_begun first_begun first_done begun (record_long place.Begun second_stamp)),
        refl,
        inr (
          Payload one_path,
          half,
          frame done_answer,
          omega arith,
          lit≤ tt,
          fetch_served half refl,
          refl,
          inr (
            Done,
            whole,
            [],
            tt,
            lit≤ tt,
            put_served half whole 1 done (omega arith) (record_long place.Done second_stamp) (is_done begun first_done done (record_long place.Done second_stamp)),
            refl,
            (refl, refl),
          ),
        ),
      );
      lost = [];
      come = refl;
    }

stamp_fits : (p : Place) → IsBody (stamp_put zero_key p second_stamp)
stamp_fits p = omega (arith, record_long p second_stamp)

all_fit : All IsBody stamped_messages
all_fit =
    All-cons IsBody (stamp_put zero_key place.Begun second_stamp) (fetch_body 0 0 ∷ stamp_put zero_key place.Done second_stamp ∷ []) (stamp_fits place.Begun)
    (All-cons IsBody (fetch_body 0 0) (stamp_put zero_key place.Done second_stamp ∷ []) (lit≤ tt)
    (All-cons IsBody (stamp_put zero_key place.Done second_stamp) [] (stamp_fits place.Done) (All-nil IsBody)))

abbrev given_answers : List (List ℕ)
given_answers = done_answer ∷ payload_answer one_path ∷ done_answer ∷ []

answers_fit : All IsBody given_answers
answers_fit =
    All-cons IsBody done_answer (payload_answer one_path ∷ done_answer ∷ []) (lit≤ tt)
    (All-cons IsBody (payload_answer one_path) (done_answer ∷ []) (lit≤ tt) (All-cons IsBody done_answer [] (lit≤ tt) (All-nil IsBody)))

path_within : length (payload_answer one_path) ≤ longest_answer this_disk (fetch_body 0 0)
unfolding record_len_of trees_of blocks_in level_for least_from
path_within = lit≤ tt

called : StreamBatch known known stamped_line stamped_messages (Ok given_answers) (answered stamped_messages given_answers) stamped_way
called = record {
  closed = refl;
  disk = refl;
  carried = (
    record {
      sent = record { fit = all_fit; wrote = refl };
      received = record { count = refl; read = (answers_fit, refl); within = (lit≤ tt, (path_within, (lit≤ tt, tt))) };
    },
    refl,
  );
}

not_full : IsAmong no_room_answer (payload_answer one_path ∷ []) → ⊥
not_full (inl e) = cc
not_full (inr none) = none

between_stamps : IsBetween known known stamped_dialer stamped_line (fetch_body 0 0 ∷ []) (Ok (payload_answer one_path ∷ [])) fetched_alone answered_dialer stamped_way
between_stamps = record {
  known = record { may = first_stamp ∷ []; begun = 0; done = 0; current = second_stamp };
  sent = inl ((omega arith, (refl, omega arith)), refl);
  outcome = Ok given_answers;
  heard = answered stamped_messages given_answers;
  batch = called;
  comes = (
    payload_answer one_path ∷ [],
    record { begun = done_answer; done = done_answer; all = refl; puts = (refl, refl) },
    (refl, (settled second_stamp, inr (not_full, refl), refl)),
  );
  left = inl (
    (0, record_text zero_key place.Begun second_stamp, omega arith, refl),
    inr ([], refl, inl ((1, record_text zero_key place.Done second_stamp, omega arith, refl), refl)),
  );
  is_batch = (refl, [], tt, refl);
}

stopped : IsStopped known known stamped_dialer full_line (fetch_body 0 0 ∷ []) (Err NoRoom) fetched_in_vain asking_dialer stopped_way
stopped = record {
  known = asking_dialer.known;
  sent = inl ((omega arith, (refl, omega arith)), refl);
  answer = no_room_answer;
  read = record {
    was_open = refl;
    disk = refl;
    sends = record { fit = all_fit; wrote = (flat_map frame stamped_messages, refl, append-nil (flat_map frame stamped_messages)) };
    count = refl;
    awaits = lit≤ tt;
    received = record { count = refl; read = (All-cons IsBody no_room_answer [] (lit≤ tt) (All-nil IsBody), refl); within = (lit≤ tt, tt) };
  };
  trouble = NoRoom;
  wrong = refl;
  says = refl;
  unheard = refl;
  after = refl;
}

-- the host has no room for the first stamp, and stays as it was
leads_full : LeadsToHost (stamped_host first_stamp first_stamp) stamped_messages (frame no_room_answer) (stamped_host first_stamp first_stamp)
leads_full =
    let host = stamped_host first_stamp first_stamp in
    let begun = record_text zero_key place.Begun second_stamp in
    let long = record_long place.Begun second_stamp in
    record {
      answers = frame no_room_answer;
      given = inr (
        Refused 8,
        host,
        [],
        (lit≤ tt, lit≤ tt),
        lit≤ tt,
        put_answered host host 0 begun (Refused 8) (omega arith) long (OutOfMemory, refl, (omega arith, long), refl),
        refl,
        inl (refl, refl),
      );
      lost = [];
      come = refl;
    }

agree : AgreeBeside STAMP_TREE (stamped_host first_stamp first_stamp) no_stamps
agree t apart =
    ap (λ (o : Option Kept). cond (is_at (nat_cmp t) 0) (Some one_record) o)
    (look_past t (STAMP_TREE, kept (record_text zero_key place.Begun first_stamp) (record_text zero_key place.Done first_stamp)) [] (λ same. apart (sym same)))

pub stamped_batch_example : StampedBatchExample
unfolding between_stamps stopped
stamped_batch_example = ((inr (Fetch 0 0, omega arith, refl, λ e. (let zero_is : 0 ≡ 254 = e in omega (arith, zero_is))), tt), agree, between_stamps, leads, stopped, leads_full)
