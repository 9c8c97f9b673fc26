-- What a host of whole paths answers to the requests of a batch, as the link completes the answers of a host of levels.
use Rattle.std.proofs.Common.{lit≤, ◌≡◌, ◌≢◌, ℕ, zero, suc, ◌+◌, ◌-◌, ◌*◌, ◌^◌, ◌<◌, ◌≤◌, ◌==◌, ◌&&◌, arith, Bool, true, false, if◌then◌else◌, List, [], length, drop, slice_index, Option, Some, None, unwrap_or, Ok, refl, sym, ap, ◌∙◌, subst, inl, inr}
use Rattle.std.specs.Prelude.{MatchBool, nat_le, nat_lt}
use Rattle.sha2.specs.Sha256.{sha256}
use Rattle.std.proofs.lemmas.Bool.{cases_lt, eq-eqb, eqb-true, le-leb, le-ltb, lt-ltb}
use Rattle.oram_geometry.specs.Path.{node_on}
use Rattle.oram_geometry.specs.Sizes.{depth_of, record_len_of, trees_of}
use Rattle.oram_trace.specs.declared.entries.Entry.{Entry}
use Rattle.oram_hash.specs.Path.{node_at, path_of, record_at as path_record}
use Rattle.oram_host.specs.Host.{Host, Kept, record_of, tree_at}
use Rattle.oram_host.specs.Path.{node_on as host_node, record_at}
use Rattle.oram_host.specs.Service.{Serves}
use Rattle.oram_host.specs.Swaps.{stored_at}
use Rattle.oram_host_laws.specs.Honest.{KeepsAll, KeepsTree, Takes}
use Rattle.oram_host_laws.proofs.Handed.{kept_same, node_in, record_same}
use Rattle.oram_levels.specs.Messages.{FetchLevels, LevelsMessage, levels_body, levels_payload}
use Rattle.oram_semantics.proofs.Counts.{requested_is}
use Rattle.oram_semantics.specs.Answers.{answered_path, is_payload}
use Rattle.oram_semantics.specs.Messages.{IsMessage, requested}
use Rattle.oram_semantics.specs.Scheme.{Scheme, record_len}
use Rattle.oram_session.specs.Honesty.{IsHonestCall}
use Rattle.oram_wire.specs.HostMessages.{answer_body, fetch_body, payload_answer, refusal_answer, store_body}
use Rattle.oram_wire.specs.declared.host_messages.HostAnswer.TheVariants.{Done, Payload, Refused}
use Rattle.oram_rounds.specs.CatchUp.{IsPlainCall, ShowsTwin}
use Rattle.oram_rounds.specs.Rounds.{is_refusal_body, refused_with}
use Rattle.oram_rounds.proofs.KeptPaths.{fetched_so, has_levels, leaf_small, refuses_fetch, serves_fetch}
use Rattle.oram_near.specs.Completion.{ClientRecords, IsCompleted, IsWholePath, far_level, gives_records, whole_record}
use Rattle.oram_near.specs.Law.{AreWhole}
use Rattle.oram_near.specs.LevelsHost.{AreLevelsFetched, IsLevelsCall, ShowsLevelTwin}
use Rattle.oram_near.specs.Near.{Near}
use Rattle.oram_near.specs.PathRequests.{IsOfDevice, StorePath, first_far}
use Rattle.oram_near.proofs.FarAnswers.{fetch_answer_is}
use Rattle.oram_near.proofs.FarHeard.{stored_is}
use Rattle.oram_near.proofs.Kernel.{sure_or_none}
use Rattle.oram_near.proofs.Paths.{whole_far, whole_near}

both_true : (a b : Bool) → (a && b) ≡ true → (a ≡ true) × (b ≡ true)
both_true true b e = (refl, e)
both_true false b e = (e, absurd (let no_way : false ≡ true = e in cc))

some_long : (v : Scheme) → 0 < record_len v
unfolding record_len_of
some_long v = omega arith

-- what is answered in place of another answer is no path
refused_by : (b : Bool) (bytes : List ℕ) → b ≡ is_refusal_body bytes → (slice_index (if b then bytes else []) 0 == 128) ≡ false
refused_by true bytes is =
    let both = both_true (length bytes == 2) (slice_index bytes 0 == 129) (sym is) in
    let first : slice_index bytes 0 ≡ 129 = eqb-true (slice_index bytes 0) 129 both.1 in
    ap (λ (n : ℕ). n == 128) first
refused_by false bytes is = refl

not_good : (bytes : List ℕ) → (slice_index (refused_with bytes) 0 == 128) ≡ false
not_good bytes = refused_by (is_refusal_body bytes) bytes refl

no_payload : (v : Scheme) (e : Entry) (given : List ℕ) → (slice_index given 0 == 128) ≡ false → is_payload v e given ≡ true → ⊥
no_payload v e given not is =
    let both = both_true (e.fetch && (slice_index given 0 == 128)) (length given == 1 + (depth_of v.device e.tree + 1) * record_len v) is in
    let two = both_true e.fetch (slice_index given 0 == 128) both.0 in
    let q : false ≡ true = sym not ∙ two.1 in cc

-- a STORE, as a host that lies answers it
pub store_told : (v : Scheme) (may_lie : Bool) (host after : Host) (t x : ℕ) (bytes refusal : List ℕ) → may_lie ≡ true → IsOfDevice v.device (record_len v) (StorePath t x bytes)
    → Takes host (store_body t x bytes) after → IsPlainCall may_lie v host (store_body t x bytes) (Ok (refused_with refusal)) after
store_told v may_lie host after t x bytes refusal lies of takes =
    inr (
      lies,
      refused_with refusal,
      refl,
      record {
        answer = Done;
        heard = takes;
        room = λ e. let q : Done ≡ Refused 8 = e in cc;
        apart = λ twin. no_payload v (requested (store_body t x bytes)) (refused_with refusal) (not_good refusal) twin.payload;
      },
    )

module _ (v : Scheme) (near : Near) (unsure : List LevelsMessage) (empty : ℕ → ℕ → ℕ → List ℕ) (same_len : near.record_len ≡ record_len v) (shallow : near.levels ≤ depth_of v.device 0) where
  abbrev client : ClientRecords
  client = record { device = v.device; near = near; unsure = unsure; empty = empty }

  module _ (r : ℕ → ℕ → List ℕ) (far whole : Host) (w : AreWhole v client far r) (keeps : KeepsAll v r whole) (t l : ℕ) (tree_in : t < trees_of v.device) (leaf_in : l < 2 ^ depth_of v.device t) where
    abbrev depth : ℕ
    depth = depth_of v.device t

    abbrev first : ℕ
    first = first_far near.levels t

    abbrev there : ℕ → Option (List ℕ)
    there level = stored_at far t (host_node depth l level)

    abbrev shown : ℕ → List ℕ → ℕ → Option (List ℕ)
    shown count records level = far_level near.record_len first count records level

    -- a path with the host's records is the path that the host of whole paths gives
    is_honest : (path : List ℕ) → length path ≡ (depth + 1) * record_len v → ((level : ℕ) → level ≤ depth → record_at (record_len v) path level ≡ r t (node_on depth l level))
        → IsHonestCall whole (fetch_body t l) (Ok (payload_answer path)) whole
    is_honest path long each =
        let more : (depth + 1) * record_len v ≡ depth * record_len v + record_len v = omega arith in
        let some : 0 < length path = omega (arith, long, more, some_long v) in
        (Payload path, some, refl, serves_fetch whole whole t l (Payload path) (leaf_small v t l leaf_in) (fetched_so v t l (r t) whole (keeps t tree_in) leaf_in path long each, refl))

    -- what the answer has is what the host of levels has
    whole_same : (count : ℕ) (records : List ℕ) → ((level : ℕ) → first ≤ level → level ≤ depth → shown count records level ≡ there level) → (level : ℕ) → level ≤ depth
        → whole_record client t l level (shown count records level) ≡ whole_record client t l level (there level)
    whole_same count records same level within = elim (cases_lt level first) [
      | inl near_level ↦ whole_near client t l level (shown count records level) near_level ∙ sym (whole_near client t l level (there level) near_level)
      | inr low ↦ ap (λ (o : Option (List ℕ)). whole_record client t l level o) (same level low within)
    ]

    -- the host of levels has nothing below a level at which it has nothing
    none_below : (k from : ℕ) → first ≤ from → from + k ≤ depth → there from ≡ None → there (from + k) ≡ None
    none_below zero from low within none = ap there (let e : from + 0 ≡ from = omega arith in e) ∙ none
    none_below (suc k) from low within none =
        ap there (let e : from + suc k ≡ from + 1 + k = omega arith in e)
        ∙ none_below k (from + 1) (omega (arith, low)) (omega (arith, within)) (w.has.no_gap t l from tree_in leaf_in low (omega (arith, within)) none)

    -- the records of an honest answer
    fetched_same : (payload : List ℕ) (f : AreLevelsFetched far t first depth l payload) → (level : ℕ) → first ≤ level → level ≤ depth → shown f.count f.bytes level ≡ there level
    fetched_same payload f level low within =
        let s = w.has.shapes t tree_in in
        let same : f.kept ≡ s.kept = kept_same (tree_at far t) f.kept s.kept f.shaped s.there in
        let is_depth : f.kept.depth ≡ depth = ap (λ (k : Kept). k.depth) same ∙ s.is_depth in
        let is_len : f.kept.record_len ≡ near.record_len = ap (λ (k : Kept). k.record_len) same ∙ s.is_len ∙ sym same_len in
        elim (cases_lt level (first + f.count)) [
          | inl given ↦
              let i : ℕ = level - first in
              let back : first + i ≡ level = omega (arith, low) in
              let test : (nat_le first level && nat_lt level (first + f.count)) ≡ true = ap (λ (b : Bool). b && nat_lt level (first + f.count)) (le-leb first level low) ∙ lt-ltb level (first + f.count) given in
              ap (λ (b : Bool). if b then Some (record_at near.record_len f.bytes i) else None) test
              ∙ ap (λ (n : ℕ). Some (record_at n f.bytes i)) (sym is_len)
              ∙ sym (f.each i (omega (arith, given, low)))
              ∙ ap (λ (n : ℕ). record_of f.kept (host_node f.kept.depth l n)) back
              ∙ ap (λ (d : ℕ). record_of f.kept (host_node d l level)) is_depth
              ∙ sym (stored_is far t (host_node depth l level) f.kept f.shaped)
          | inr missing ↦
              let test : (nat_le first level && nat_lt level (first + f.count)) ≡ false = ap (λ (b : Bool). b && nat_lt level (first + f.count)) (le-leb first level low) ∙ le-ltb level (first + f.count) missing in
              let start : there (first + f.count) ≡ None =
              stored_is far t (host_node depth l (first + f.count)) f.kept f.shaped ∙ ap (λ (d : ℕ). record_of f.kept (host_node d l (first + f.count))) (sym is_depth) ∙ f.ends (omega (arith, missing, within)) in
              let all : first + f.count + (level - (first + f.count)) ≡ level = omega (arith, missing) in
              let P : ℕ → Type 0 = λ n. there n ≡ None in
              ap (λ (b : Bool). if b then Some (record_at near.record_len f.bytes (level - first)) else None) test
              ∙ sym (subst P all (none_below (level - (first + f.count)) (first + f.count) (omega arith) (omega (arith, missing, within)) start))
        ]

    -- a whole path that was given, by the records
    given_each : (count : ℕ) (records path : List ℕ) → IsWholePath client t l count records path → (level : ℕ) → level ≤ depth
        → record_at (record_len v) path level ≡ whole_record client t l level (shown count records level)
    given_each count records path p level within = ap (λ (n : ℕ). record_at n path level) (sym same_len) ∙ p.each level within

    kept_each : (level : ℕ) → level ≤ depth → r t (node_on depth l level) ≡ whole_record client t l level (there level)
    kept_each level within = w.each t l level tree_in leaf_in within

    path_long : (count : ℕ) (records path : List ℕ) → IsWholePath client t l count records path → length path ≡ (depth + 1) * record_len v
    path_long count records path p = p.long ∙ ap (λ (n : ℕ). (depth + 1) * n) same_len

    refusal_told : IsHonestCall whole (fetch_body t l) (Ok (refusal_answer 8)) whole
    refusal_told = (Refused 8, (lit≤ tt, lit≤ tt), refl, serves_fetch whole whole t l (Refused 8) (leaf_small v t l leaf_in) (refuses_fetch v t l (r t) whole (keeps t tree_in) leaf_in))

    good_answer : (count : ℕ) (records : List ℕ) → length records ≡ count * near.record_len → count ≤ depth + 1 - first
        → gives_records near.record_len (depth + 1 - first) (payload_answer (levels_payload count records)) ≡ true
    good_answer count records long few =
        let answer : List ℕ = payload_answer (levels_payload count records) in
        let size : length answer ≡ 2 + length records = omega arith in
        let two : nat_le 2 (length answer) ≡ true = le-leb 2 (length answer) (omega (arith, size)) in
        let three : (length answer == 2 + count * near.record_len) ≡ true = eq-eqb (length answer) (2 + count * near.record_len) (omega (arith, size, long)) in
        let four : nat_le count (depth + 1 - first) ≡ true = le-leb count (depth + 1 - first) few in
        ap (λ (b : Bool). b && (length answer == 2 + count * near.record_len) && nat_le count (depth + 1 - first)) two
        ∙ ap (λ (b : Bool). b && nat_le count (depth + 1 - first)) three ∙ four

    -- an honest answer of the host of levels
    honest_told : (payload given : List ℕ) → AreLevelsFetched far t first depth l payload → IsCompleted client t l (payload_answer payload) given → IsHonestCall whole (fetch_body t l) (Ok given) whole
    honest_told payload given f completed =
        let s = w.has.shapes t tree_in in
        let same : f.kept ≡ s.kept = kept_same (tree_at far t) f.kept s.kept f.shaped s.there in
        let is_len : f.kept.record_len ≡ near.record_len = ap (λ (k : Kept). k.record_len) same ∙ s.is_len ∙ sym same_len in
        let now : IsCompleted client t l (payload_answer (levels_payload f.count f.bytes)) given = subst (λ (p : List ℕ). IsCompleted client t l (payload_answer p) given) f.is completed in
        let good = good_answer f.count f.bytes (f.long ∙ ap (λ (n : ℕ). f.count * n) is_len) (omega (arith, f.within)) in
        let is = subst (λ (b : Bool). MatchBool b ((path : List ℕ) × IsWholePath client t l f.count f.bytes path × (given ≡ payload_answer path)) (given ≡ refused_with (payload_answer (levels_payload f.count f.bytes)))) good now in
        subst (λ (g : List ℕ). IsHonestCall whole (fetch_body t l) (Ok g) whole) (sym is.2)
        (is_honest is.0 (path_long f.count f.bytes is.0 is.1) (λ level within.
        given_each f.count f.bytes is.0 is.1 level within ∙ whole_same f.count f.bytes (fetched_same payload f) level within ∙ sym (kept_each level within)))

    -- a record that is shown in place of another with its digest
    abbrev HasTwin : List ℕ → Entry → Type 0
    HasTwin given e = (records : ℕ → List ℕ) × KeepsTree v e.tree records whole × (level : ℕ) × (level ≤ depth_of v.device e.tree)
        × (path_record (answered_path v e given) level ≢ records (node_at (answered_path v e given) level))
        × (sha256 (path_record (answered_path v e given) level) ≡ sha256 (records (node_at (answered_path v e given) level)))

    parts_apart : (bytes : List ℕ) → ¬ ShowsLevelTwin v empty far (levels_body (FetchLevels t first depth l)) bytes → gives_records near.record_len (depth + 1 - first) bytes ≡ true → (level : ℕ) → level ≤ depth
        → whole_record client t l level (shown (slice_index bytes 1) (drop 2 bytes) level) ≢ whole_record client t l level (there level)
        → sha256 (whole_record client t l level (shown (slice_index bytes 1) (drop 2 bytes) level)) ≡ sha256 (whole_record client t l level (there level)) → ⊥
    parts_apart bytes apart gives level within differs digest =
        let given : Option (List ℕ) = shown (slice_index bytes 1) (drop 2 bytes) level in
        let value : Option (List ℕ) → List ℕ = λ o. unwrap_or o (empty t l level) in
        elim (cases_lt level first) [
          | inl near_level ↦ differs (whole_near client t l level given near_level ∙ sym (whole_near client t l level (there level) near_level))
          | inr low ↦ elim (sure_or_none v.device near.record_len t l level unsure) [
            | inl sure ↦
                differs (whole_far client t l level given low ∙ ap value (sure.1 given ∙ sym (sure.1 (there level))) ∙ sym (whole_far client t l level (there level) low))
            | inr none ↦
                let one : whole_record client t l level given ≡ value given = whole_far client t l level given low ∙ ap value (none given) in
                let two : whole_record client t l level (there level) ≡ value (there level) = whole_far client t l level (there level) low ∙ ap value (none (there level)) in
                apart (record {
                  tree = t;
                  first = first;
                  leaf = l;
                  fetch = refl;
                  gives = ap (λ (n : ℕ). gives_records n (depth + 1 - first) bytes) (sym same_len) ∙ gives;
                  level = level;
                  from = low;
                  within = within;
                  shown = value given;
                  kept = value (there level);
                  shows = ap (λ (n : ℕ). value (far_level n first (slice_index bytes 1) (drop 2 bytes) level)) same_len;
                  keeps = refl;
                  differs = λ e. differs (one ∙ e ∙ sym two);
                  digest = ap sha256 (sym one) ∙ digest ∙ ap sha256 two;
                })
          ]
        ]

    lie_apart : (bytes path : List ℕ) → ¬ ShowsLevelTwin v empty far (levels_body (FetchLevels t first depth l)) bytes → gives_records near.record_len (depth + 1 - first) bytes ≡ true
        → IsWholePath client t l (slice_index bytes 1) (drop 2 bytes) path → ¬ ShowsTwin v whole (fetch_body t l) (payload_answer path)
    lie_apart bytes path apart gives p twin =
        let e : Entry = record { fetch = true; tree = t; leaf = l } in
        let message : IsMessage v e (fetch_body t l) = record { records = []; body = refl; length_is = refl } in
        let tw = subst (HasTwin (payload_answer path)) (requested_is v e (fetch_body t l) (leaf_small v t l leaf_in) message) (twin.records, twin.kept, twin.level, twin.within, twin.differs, twin.digest) in
        let level : ℕ = tw.2 in
        let node : ℕ = node_on depth l level in
        let k = keeps t tree_in in
        let below = node_in depth l level leaf_in tw.3 in
        let same : tw.1.kept ≡ k.kept = kept_same (tree_at whole t) tw.1.kept k.kept tw.1.there k.there in
        let some : Some (tw.0 node) ≡ Some (r t node) = sym (tw.1.each node below) ∙ ap (λ (x : Kept). record_of x node) same ∙ k.each node below in
        let kept_is : tw.0 node ≡ whole_record client t l level (there level) = ap (λ (o : Option (List ℕ)). unwrap_or o []) some ∙ kept_each level tw.3 in
        let shown_is : path_record (path_of v.device t l v.cipher.overhead path) level ≡ whole_record client t l level (shown (slice_index bytes 1) (drop 2 bytes) level) =
        sym (record_same (path_of v.device t l v.cipher.overhead path) level) ∙ given_each (slice_index bytes 1) (drop 2 bytes) path p level tw.3 in
        parts_apart bytes apart gives level tw.3 (λ x. tw.4 (shown_is ∙ x ∙ sym kept_is)) (ap sha256 (sym shown_is) ∙ tw.5 ∙ ap sha256 kept_is)

    -- a lie of the host of levels
    lie_told : (may_lie : Bool) (b : Bool) (bytes given : List ℕ) → may_lie ≡ true → ¬ ShowsLevelTwin v empty far (levels_body (FetchLevels t first depth l)) bytes
        → gives_records near.record_len (depth + 1 - first) bytes ≡ b
        → MatchBool b ((path : List ℕ) × IsWholePath client t l (slice_index bytes 1) (drop 2 bytes) path × (given ≡ payload_answer path)) (given ≡ refused_with bytes)
        → IsPlainCall may_lie v whole (fetch_body t l) (Ok given) whole
    lie_told may_lie b bytes given lies apart gives is =
        let path = has_levels v t l (r t) whole (keeps t tree_in) leaf_in (λ level low. w.long t l level tree_in leaf_in low) in
        let serves : Serves whole (fetch_body t l) (Payload path.0) whole = serves_fetch whole whole t l (Payload path.0) (leaf_small v t l leaf_in) (path.1, refl) in
        inr (lies, given, refl, record { answer = Payload path.0; heard = serves; room = λ e. let q : Payload path.0 ≡ Refused 8 = e in cc; apart = no_twin b gives is })
      where
        no_twin : (b : Bool) → gives_records near.record_len (depth + 1 - first) bytes ≡ b
            → MatchBool b ((path : List ℕ) × IsWholePath client t l (slice_index bytes 1) (drop 2 bytes) path × (given ≡ payload_answer path)) (given ≡ refused_with bytes)
            → ¬ ShowsTwin v whole (fetch_body t l) given
        no_twin true gives is twin = lie_apart bytes is.0 apart gives is.1 (subst (ShowsTwin v whole (fetch_body t l)) is.2 twin)
        no_twin false gives is twin =
            no_payload v (requested (fetch_body t l)) given (ap (λ (g : List ℕ). slice_index g 0 == 128) is ∙ not_good bytes) twin.payload

    -- the FETCH, as the host of whole paths answers it
    pub fetch_told : (may_lie : Bool) (after : Host) (answer given : List ℕ) → IsLevelsCall v empty may_lie far (levels_body (FetchLevels t first depth l)) (Ok answer) after → IsCompleted client t l answer given
        → IsPlainCall may_lie v whole (fetch_body t l) (Ok given) whole
    fetch_told may_lie after answer given (inl honest) completed = elim (fetch_answer_is v near.levels shallow far after w.has t l honest.0 tree_in leaf_in honest.3) [
      | inl payload ↦
          let is : answer ≡ payload_answer payload.0 = honest.2 ∙ ap answer_body payload.1 in
          inl (honest_told payload.0 given payload.2 (subst (λ (a : List ℕ). IsCompleted client t l a given) is completed))
      | inr full ↦
          let is : answer ≡ refusal_answer 8 = honest.2 ∙ ap answer_body full.0 in
          let now : given ≡ refusal_answer 8 = subst (λ (a : List ℕ). IsCompleted client t l a given) is completed in
          inl (subst (λ (g : List ℕ). IsHonestCall whole (fetch_body t l) (Ok g) whole) (sym now) refusal_told)
    ]
    fetch_told may_lie after answer given (inr lie) completed =
        let same : answer ≡ lie.1 = let q : Ok answer ≡ Ok lie.1 = lie.2 in cc in
        let now : IsCompleted client t l lie.1 given = subst (λ (a : List ℕ). IsCompleted client t l a given) same completed in
        lie_told may_lie (gives_records near.record_len (depth + 1 - first) lie.1) lie.1 given lie.0 lie.3.apart refl now
