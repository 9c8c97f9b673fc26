-- A device of one block over a host of levels without a record.
use Rattle.std.proofs.Common.{◌≡◌, ℕ, ◌+◌, ◌-◌, ◌^◌, ◌<◌, ◌≤◌, arith, Bool, true, false, ◌==◌, ◌&&◌, nat_le, if◌then◌else◌, Option, Some, None, List, [], ◌∷◌, drop, Ok, refl, sym, ap, ◌∙◌, subst, inl}
use Rattle.std.specs.Prelude.{MatchBool, unwrap_or}
use Rattle.std.specs.Option.{option_or}
use Rattle.std.specs.Int.{w32, to_be_bytes, from_be_bytes}
use Rattle.std.proofs.lemmas.Nat.{from_be_bytes-to_be_bytes_4}
use Rattle.oram_geometry.specs.Sizes.{depth_of, trees_of}
use Rattle.oram_levels.specs.Messages.{FetchLevels, HasNumbers, LevelsMessage, StoreLevels, fetch_levels_body, levels_body, levels_payload, store_levels_body}
use Rattle.oram_wire.specs.HostMessages.{done_answer, fetch_body, payload_answer, store_body}
use Rattle.oram_wire.specs.declared.host_messages.HostAnswer.TheVariants.{Done, Payload}
use Rattle.oram_host.specs.Host.{Kept, record_of}
use Rattle.oram_host.specs.Path.{node_on as host_node, record_at}
use Rattle.oram_host.specs.Swaps.{stored_at}
use Rattle.oram_host_laws.specs.Honest.{KeepsAll, KeepsTree}
use Rattle.oram_semantics.specs.Scheme.{record_len}
use Rattle.oram_tree.specs.Content.{node_count}
use Rattle.oram_link_laws.specs.Examples.{new_host, one_block}
use Rattle.oram_link_laws.proofs.Device.{eighty_eight, no_depth, one_tree}
use Rattle.oram_link_laws.proofs.Put.{first}
use Rattle.oram_link_laws.proofs.Same.{look_past}
use Rattle.oram_rounds.proofs.Example.{first_leaf, first_tree, node_zero, one_path}
use Rattle.oram_near.specs.Completion.{ClientRecords, IsCompleted, IsWholePath, far_level, gives_records, whole_record}
use Rattle.oram_near.specs.Examples.{LevelsBatches, NearExample, link_over, maker_with, no_record, nothing_below, ones, ones_below, ones_given, ones_there, zero_records, zeros, zeros_given}
use Rattle.oram_near.specs.Law.{AreWhole, CompletesHost, HasFarLevels, HasShape}
use Rattle.oram_near.specs.LevelsHost.{AnswersLevels, AreLevelsFetched, AreLevelsStored, LevelsRun, ServesLevels, StoresLevels}
use Rattle.oram_near.specs.Near.{StoresNear}
use Rattle.oram_near.specs.NearCalls.{NearBatch, client_of}
use Rattle.oram_near.specs.PathRequests.{FetchPath, StorePath, store_in}
use Rattle.oram_near.proofs.FarHeard.{stored_is}
use Rattle.oram_near.proofs.FarStores.{store_in-body}

abbrev pub deep : ℕ
deep = depth_of one_block.device 0

abbrev bare : Kept
bare = record { depth = 0; record_len = 88; records = [] }

abbrev full : List ℕ → Kept
full bytes = record { depth = 0; record_len = 88; records = (0, bytes) ∷ [] }

-- a body names one message

pub only_fetch : (Q : LevelsMessage → Type 0) (t f last x : ℕ) → x < 2 ^ 32 → Q (FetchLevels t f last x)
    → (message : LevelsMessage) → HasNumbers message → fetch_levels_body t f last x ≡ levels_body message → Q message
only_fetch Q t f last x fits is (StoreLevels t' f' x' r) numbers e = absurd (let six : 6 ≡ 7 = ap first e in omega (arith, six))
only_fetch Q t f last x fits is (FetchLevels t' f' last' x') numbers e =
    let same_tree : t ≡ t' = ap (λ (b : List ℕ). first (drop 1 b)) e in
    let same_first : f ≡ f' = ap (λ (b : List ℕ). first (drop 2 b)) e in
    let same_last : last ≡ last' = ap (λ (b : List ℕ). first (drop 3 b)) e in
    let number : to_be_bytes w32 x ≡ to_be_bytes w32 x' = ap (λ (b : List ℕ). drop 4 b) e in
    let same_leaf : x ≡ x' = sym (from_be_bytes-to_be_bytes_4 x fits) ∙ ap (from_be_bytes w32) number ∙ from_be_bytes-to_be_bytes_4 x' numbers in
    subst (λ (n : ℕ). Q (FetchLevels n f' last' x')) same_tree
    (subst (λ (n : ℕ). Q (FetchLevels t n last' x')) same_first (subst (λ (n : ℕ). Q (FetchLevels t f n x')) same_last (subst (λ (n : ℕ). Q (FetchLevels t f last n)) same_leaf is)))

pub only_store : (Q : LevelsMessage → Type 0) (t f x : ℕ) (r : List ℕ) → x < 2 ^ 32 → Q (StoreLevels t f x r)
    → (message : LevelsMessage) → HasNumbers message → store_levels_body t f x r ≡ levels_body message → Q message
only_store Q t f x r fits is (FetchLevels t' f' last' x') numbers e = absurd (let seven : 7 ≡ 6 = ap first e in omega (arith, seven))
only_store Q t f x r fits is (StoreLevels t' f' x' r') numbers e = subst Q (sym (store_in-body t f x r fits) ∙ ap store_in e ∙ store_in-body t' f' x' r' numbers) is

-- the host's answers

no_records : AreLevelsFetched no_record 0 0 deep 0 (levels_payload 0 [])
no_records = record {
  kept = bare;
  shaped = refl;
  leaf_in = omega arith;
  last_in = omega (arith, no_depth);
  first_in = omega arith;
  count = 0;
  bytes = [];
  is = refl;
  within = omega arith;
  long = refl;
  each = λ i low. absurd (omega (arith, low));
  ends = λ more. refl;
}

pub serves_nothing : ServesLevels no_record (fetch_levels_body 0 0 deep 0) (Payload (levels_payload 0 [])) no_record
serves_nothing = record {
  levels = only_fetch (λ message. AnswersLevels no_record message (Payload (levels_payload 0 [])) no_record) 0 0 deep 0 (omega arith) (no_records, refl);
  misfit = λ m. absurd (let both : true ≡ false = m.1 in cc);
  other = λ e. absurd (let both : true ≡ false = e in cc);
}

root : host_node 0 0 0 ≡ 0
unfolding host_node
root = refl

stores_ones : StoresLevels bare 0 0 ones (full ones)
stores_ones = record {
  depth = refl;
  record_len = refl;
  leaf_in = omega arith;
  first_in = omega arith;
  whole = refl;
  each = λ level from low. let P : ℕ → Type 0 = λ k. record_of (full ones) (host_node 0 0 k) ≡ Some (record_at 88 ones (k - 0)) in let here : 0 ≡ level = omega (arith, low) in subst P here (ap (record_of (full ones)) root);
  others = λ node apart. (let e : ℕ × List ℕ = (0, ones) in look_past node e [] (λ same. apart 0 (omega arith) (omega arith) (sym same ∙ sym root)));
}

ones_kept : AreLevelsStored no_record 0 0 0 ones ones_there
ones_kept = record {
  kept = bare;
  stored = full ones;
  shaped = refl;
  stores = stores_ones;
  keeps = record {
    here = refl;
    others = λ other apart.
        (let e : ℕ × Kept = (0, full ones) in let f : ℕ × Kept = (0, bare) in
        look_past other e [] (λ same. apart (sym same)) ∙ sym (look_past other f [] (λ same. apart (sym same))));
  };
}

pub serves_store : ServesLevels no_record (store_levels_body 0 0 0 ones) Done ones_there
serves_store = record {
  levels = only_store (λ message. AnswersLevels no_record message Done ones_there) 0 0 0 ones (omega arith) ones_kept;
  misfit = λ m. absurd (let both : true ≡ false = m.1 in cc);
  other = λ e. absurd (let both : true ≡ false = e in cc);
}

one_record : AreLevelsFetched ones_there 0 0 deep 0 (levels_payload 1 ones)
one_record = record {
  kept = full ones;
  shaped = refl;
  leaf_in = omega arith;
  last_in = omega (arith, no_depth);
  first_in = omega arith;
  count = 1;
  bytes = ones;
  is = refl;
  within = omega arith;
  long = refl;
  each = λ i low. let P : ℕ → Type 0 = λ k. record_of (full ones) (host_node 0 0 (0 + k)) ≡ Some (record_at 88 ones k) in let here : 0 ≡ i = omega (arith, low) in subst P here (ap (record_of (full ones)) root);
  ends = λ more. absurd (omega (arith, more, no_depth));
}

serves_ones : ServesLevels ones_there (fetch_levels_body 0 0 deep 0) (Payload (levels_payload 1 ones)) ones_there
serves_ones = record {
  levels = only_fetch (λ message. AnswersLevels ones_there message (Payload (levels_payload 1 ones)) ones_there) 0 0 deep 0 (omega arith) (one_record, refl);
  misfit = λ m. absurd (let both : true ≡ false = m.1 in cc);
  other = λ e. absurd (let both : true ≡ false = e in cc);
}

pub nothing_run : (may_lie : Bool) → LevelsRun one_block (zero_records (maker_with [])) may_lie no_record nothing_below no_record
nothing_run may_lie = (no_record, inl (Payload (levels_payload 0 []), omega arith, refl, serves_nothing), refl)

ones_run : (may_lie : Bool) → LevelsRun one_block (zero_records (maker_with [])) may_lie no_record ones_below ones_there
ones_run may_lie = (ones_there, inl (Done, tt, refl, serves_store), (ones_there, inl (Payload (levels_payload 1 ones), omega arith, refl, serves_ones), refl))

-- the link gives the formatting's record

abbrev before : ClientRecords
before = client_of zero_records (link_over no_record)

pub none_given : gives_records 88 (deep + 1 - 0) (payload_answer (levels_payload 0 [])) ≡ true
none_given = let P : ℕ → Type 0 = λ d. gives_records 88 (d + 1 - 0) (payload_answer (levels_payload 0 [])) ≡ true in subst P no_depth refl

zeros_whole : IsWholePath (client_of zero_records (link_over no_record)) 0 0 0 [] zeros
zeros_whole = record {
  long = one_path zeros refl;
  each = λ level low.
      let root_level : 0 ≡ level = omega (arith, low, no_depth) in
      let P : ℕ → Type 0 = λ k. record_at 88 zeros k ≡ whole_record (client_of zero_records (link_over no_record)) 0 0 k (far_level 88 0 0 [] k) in
      subst P root_level refl;
}

zeros_completed : IsCompleted (client_of zero_records (link_over no_record)) 0 0 (payload_answer (levels_payload 0 [])) (payload_answer zeros)
zeros_completed =
    subst (λ (b : Bool). MatchBool b ((path : List ℕ) × IsWholePath (client_of zero_records (link_over no_record)) 0 0 0 [] path × (payload_answer zeros ≡ payload_answer path)) (payload_answer zeros ≡ []))
    (sym none_given) (zeros, zeros_whole, refl)

zeros_batch : NearBatch LevelsBatches zero_records (link_over no_record) (fetch_body 0 0 ∷ []) (Ok (payload_answer zeros ∷ [])) zeros_given nothing_below (link_over no_record)
zeros_batch = (
  refl,
  refl,
  inl (record {
    requests = FetchPath 0 0 ∷ [];
    named = refl;
    paths = ((first_tree, first_leaf), tt);
    in_order = refl;
    stored = ((link_over no_record).near, refl, refl);
    outcome = Ok (payload_answer (levels_payload 0 []) ∷ []);
    sent = (nothing_run false, (refl, [], tt, refl));
    gives = inl (record { refusal = None; refused = tt; given = payload_answer zeros ∷ []; reported = refl; are = (zeros_completed, (refl, refl)); unsure = refl });
    as_paths = refl;
  }),
)

-- the link gives the ones

abbrev pub unsure_ones : ClientRecords
unsure_ones = record (client_of zero_records (link_over no_record)) { unsure = StoreLevels 0 0 0 ones ∷ [] }

one_given : gives_records 88 (deep + 1 - 0) (payload_answer (levels_payload 1 ones)) ≡ true
one_given = let P : ℕ → Type 0 = λ d. gives_records 88 (d + 1 - 0) (payload_answer (levels_payload 1 ones)) ≡ true in subst P no_depth refl

ones_left : record_at 88 ones 0 ≡ whole_record unsure_ones 0 0 0 (far_level 88 0 1 ones 0)
ones_left =
    let P : ℕ → Type 0 = λ n. record_at 88 ones 0 ≡ unwrap_or (option_or (if (0 == 0) && nat_le 0 0 && (n == n) then Some (record_at 88 ones (0 - 0)) else None) (far_level 88 0 1 ones 0)) zeros in
    subst P (sym node_zero) refl

ones_whole : IsWholePath unsure_ones 0 0 1 ones ones
ones_whole = record {
  long = one_path ones refl;
  each = λ level low.
      let root_level : 0 ≡ level = omega (arith, low, no_depth) in
      let P : ℕ → Type 0 = λ k. record_at 88 ones k ≡ whole_record unsure_ones 0 0 k (far_level 88 0 1 ones k) in
      subst P root_level ones_left;
}

ones_completed : IsCompleted unsure_ones 0 0 (payload_answer (levels_payload 1 ones)) (payload_answer ones)
ones_completed =
    subst (λ (b : Bool). MatchBool b ((path : List ℕ) × IsWholePath unsure_ones 0 0 1 ones path × (payload_answer ones ≡ payload_answer path)) (payload_answer ones ≡ []))
    (sym one_given) (ones, ones_whole, refl)

pub no_change : StoresNear deep 0 ones (link_over no_record).near (link_over no_record).near
no_change = record {
  levels = refl;
  record_len = refl;
  records = record { long = refl; put = λ level low. absurd (omega (arith, low)); others = λ node apart. refl };
  rest = refl;
  noted = λ none. (refl, refl);
  room = λ none few. refl;
}

ones_batch : NearBatch LevelsBatches zero_records (link_over no_record) (store_body 0 0 ones ∷ fetch_body 0 0 ∷ []) (Ok (done_answer ∷ payload_answer ones ∷ [])) ones_given ones_below (link_over ones_there)
ones_batch = (
  refl,
  refl,
  inl (record {
    requests = StorePath 0 0 ones ∷ FetchPath 0 0 ∷ [];
    named = refl;
    paths = ((first_tree, first_leaf, one_path ones refl), ((first_tree, first_leaf), tt));
    in_order = refl;
    stored = ((link_over no_record).near, no_change, ((link_over no_record).near, refl, refl));
    outcome = Ok (done_answer ∷ payload_answer (levels_payload 1 ones) ∷ []);
    sent = (ones_run false, (refl, [], tt, refl));
    gives = inl (record { refusal = None; refused = (refl, tt); given = done_answer ∷ payload_answer ones ∷ []; reported = refl; are = (refl, (ones_completed, (refl, refl))); unsure = refl });
    as_paths = refl;
  }),
)

-- the host of whole paths completes the host without a record

no_tree_but_one : (tree : ℕ) → tree < trees_of one_block.device → 0 ≡ tree
no_tree_but_one tree low = omega (arith, low, one_tree)

has_levels : HasFarLevels one_block 0 no_record
has_levels = record {
  shapes = λ tree low. subst (λ (t : ℕ). HasShape no_record t (depth_of one_block.device t) (record_len one_block)) (no_tree_but_one tree low) (record { kept = bare; there = refl; is_depth = no_depth; is_len = eighty_eight });
  no_gap = λ tree leaf level low inside from above. absurd (let P : ℕ → Type 0 = λ t. level < depth_of one_block.device t in let deeper : level < deep = subst P (sym (no_tree_but_one tree low)) above in omega (arith, deeper, no_depth));
}

keeps_zeros : KeepsAll one_block (λ i n. zeros) new_host
keeps_zeros i low = subst (λ (t : ℕ). KeepsTree one_block t (λ n. zeros) new_host) (no_tree_but_one i low) (record {
  kept = full zeros;
  there = refl;
  depth = no_depth;
  record_len = eighty_eight;
  each = λ n inside.
      let P : ℕ → Type 0 = λ d. n < node_count d in
      let few : n < node_count 0 = subst P (sym no_depth) inside in
      let is_root : 0 ≡ n = omega (arith, few) in
      let Q : ℕ → Type 0 = λ k. record_of (full zeros) k ≡ Some zeros in
      subst Q is_root refl;
})

zeros_there : (tree leaf level : ℕ) → 0 ≡ tree → 0 ≡ leaf → 0 ≡ level
    → zeros ≡ whole_record before tree leaf level (stored_at no_record tree (host_node (depth_of one_block.device tree) leaf level))
zeros_there tree leaf level is_tree is_leaf is_level =
    let P : ℕ → ℕ → ℕ → Type 0 = λ t x k. zeros ≡ whole_record before t x k (stored_at no_record t (host_node (depth_of one_block.device t) x k)) in
    let nothing : stored_at no_record 0 (host_node deep 0 0) ≡ None = stored_is no_record 0 (host_node deep 0 0) bare refl in
    let Q : Option (List ℕ) → Type 0 = λ o. zeros ≡ whole_record before 0 0 0 o in
    let here : P 0 0 0 = subst Q (sym nothing) refl in
    subst (λ (t : ℕ). P t leaf level) is_tree (subst (λ (x : ℕ). P 0 x level) is_leaf (subst (λ (k : ℕ). P 0 0 k) is_level here))

are_zeros : AreWhole one_block before no_record (λ i n. zeros)
are_zeros = record {
  has = has_levels;
  long = λ tree leaf level low inside within. eighty_eight;
  each = λ tree leaf level low inside within.
      let is_tree = no_tree_but_one tree low in
      let P : ℕ → Type 0 = λ t. leaf < 2 ^ depth_of one_block.device t in
      let Q : ℕ → Type 0 = λ d. leaf < 2 ^ d in
      let few : leaf < 2 ^ 0 = subst Q (sym no_depth) (subst P (sym is_tree) inside) in
      let R : ℕ → Type 0 = λ t. level ≤ depth_of one_block.device t in
      let top : level ≤ deep = subst R (sym is_tree) within in
      zeros_there tree leaf level is_tree (omega (arith, few)) (omega (arith, top, no_depth));
}

pub completes_nothing : CompletesHost one_block before no_record new_host
completes_nothing = record { records = λ i n. zeros; are = are_zeros; keeps = keeps_zeros }

pub near_example : NearExample
near_example = (
  λ l m bodies o exchanges h. h.1,
  record { same_device = refl; same_len = refl; leaves_far = omega arith; are_stores = tt },
  completes_nothing,
  zeros_batch,
  nothing_run,
  ones_batch,
  ones_run,
)
