-- A host that hears what waits, and one that has carried it out, catch up.
use Rattle.std.proofs.Common.{◌≡◌, ◌⊎◌, ℕ, ◌+◌, ◌*◌, ◌^◌, ◌<◌, arith, Bool, true, false, List, [], ◌∷◌, ◌++◌, length, drop, Option, Some, Ok, Err, refl, sym, ap, ◌∙◌, subst, inl, inr}
use Rattle.std.specs.List.{AllByRecursion}
use Rattle.oram_geometry.specs.Sizes.{depth_of, trees_of}
use Rattle.oram_trace.specs.declared.entries.Entry.{Entry}
use Rattle.oram_wire.specs.HostMessages.{answer_body, done_answer}
use Rattle.oram_wire.specs.HostBodies.{IsAnswer}
use Rattle.oram_wire.specs.declared.host_messages.HostAnswer.{HostAnswer}
use Rattle.oram_wire.specs.declared.host_messages.HostAnswer.TheVariants.{Done, Payload, Refused}
use Rattle.oram_host.specs.Host.{Host, Kept, record_of, tree_at}
use Rattle.oram_host.specs.Service.{Serves}
use Rattle.oram_tree.specs.Content.{node_count}
use Rattle.oram_semantics.proofs.Bounds.{depth_small}
use Rattle.oram_semantics.specs.Messages.{IsMessage}
use Rattle.oram_semantics.specs.Moves.{records_after}
use Rattle.oram_semantics.specs.Scheme.{Scheme, record_len}
use Rattle.oram_host_laws.specs.Honest.{HeardOrNot, KeepsAll, KeepsTree, Takes}
use Rattle.oram_host_laws.proofs.Handed.{IsFull, fetch_leaves, handed}
use Rattle.oram_session.specs.Honesty.{IsHonestCall}
use Rattle.oram_session.specs.Outcome.{Outcome}
use Rattle.oram_link_laws.specs.Repair.{IsAmong}
use Rattle.oram_link_laws.specs.ResentStores.{IsStore}
use Rattle.oram_link_laws.specs.Runs.{Exchange, bodies_of}
use Rattle.oram_link_laws.proofs.Put.{is_stored_so, serves_so, stored_host, stored_kept}
use Rattle.oram_rounds.specs.Batches.{answered}
use Rattle.oram_rounds.specs.CatchUp.{CatchesUp, IsPlainCall, PlainRun, left_by}
use Rattle.oram_rounds.specs.PathMessages.{ArePathStores, IsPathFetch, IsPathStore}
use Rattle.oram_rounds.specs.Rounds.{AreDone}
use Rattle.oram_rounds.proofs.KeptPaths.{leaf_small}
use Rattle.oram_rounds.proofs.LeftRecords.{absorbed, left_append, left_same}

-- what a host that keeps these records does with a STORE or a FETCH of a path

module _ (v : Scheme) (r : ℕ → ℕ → List ℕ) (host after : Host) (keeps : KeepsAll v r host) (answer : HostAnswer) (body : List ℕ) (serves : Serves host body answer after) where
  pub store_served : IsPathStore v.device (record_len v) body → KeepsAll v (records_after v r (body ∷ [])) after ⊎ IsFull host answer after
  store_served s =
      let e : Entry = record { fetch = false; tree = s.tree; leaf = s.leaf } in
      let message : IsMessage v e body = record { records = s.records; body = s.named; length_is = s.whole } in
      elim (handed v r e body host after answer (depth_small v.device s.tree) s.tree_in s.leaf_in keeps message serves) [
        | inl good ↦ inl good.keeps
        | inr full ↦ inr full
      ]

  pub fetch_served : IsPathFetch v.device body → KeepsAll v r after
  fetch_served f =
      let e : Entry = record { fetch = true; tree = f.tree; leaf = f.leaf } in
      let message : IsMessage v e body = record { records = []; body = f.named; length_is = refl } in
      elim (handed v r e body host after answer (depth_small v.device f.tree) f.tree_in f.leaf_in keeps message serves) [
        | inl good ↦
            subst (λ (q : ℕ → ℕ → List ℕ). KeepsAll v q after)
            (ap (λ (b : List ℕ). records_after v r (b ∷ [])) f.named ∙ fetch_leaves v r f.tree f.leaf) good.keeps
        | inr full ↦ subst (KeepsAll v r) (sym full.unchanged) keeps
      ]

-- a message of a call is lost, or answered

honest_hears : (host after : Host) (body : List ℕ) (o : Outcome) → IsHonestCall host body o after → HeardOrNot body host after
honest_hears host after body (Ok bytes) call = inr (call.0, call.3)
honest_hears host after body (Err fault) call = call

pub hears : (may_lie : Bool) (v : Scheme) (host after : Host) (body : List ℕ) (o : Outcome) → IsPlainCall may_lie v host body o after → HeardOrNot body host after
hears may_lie v host after body o (inl honest) = honest_hears host after body o honest
hears may_lie v host after body o (inr lie) = inr (lie.3.answer, lie.3.heard)

-- the path of a STORE among those that wait
pub path_among : (v : Scheme) (body : List ℕ) (stores : List (List ℕ)) → ArePathStores v.device (record_len v) stores → IsAmong body stores
    → IsPathStore v.device (record_len v) body
path_among v body [] paths among = absurd among
path_among v body (first ∷ stores) paths (inl same) = subst (IsPathStore v.device (record_len v)) (sym same) paths.0
path_among v body (first ∷ stores) paths (inr later) = path_among v body stores paths.1 later

-- a message that a host hears while STOREs wait is one of them, or a FETCH
abbrev pub IsWaitingOrFetch : Scheme → List (List ℕ) → List ℕ → Type 0
IsWaitingOrFetch v stores body = IsAmong body stores ⊎ IsPathFetch v.device body

module _ (v : Scheme) (stores : List (List ℕ)) (later : Host) where
  served_catches : (host after : Host) (answer : HostAnswer) (body : List ℕ) → IsWaitingOrFetch v stores body → Serves host body answer after
      → CatchesUp v host stores later → CatchesUp v after stores later
  served_catches host after answer body (inl among) serves c =
      elim (store_served v c.records host after c.keeps answer body serves (path_among v body stores c.paths among)) [
        | inl keeps ↦
            let ahead : KeepsAll v (left_by v (records_after v c.records (body ∷ [])) stores) later =
            subst (λ (q : ℕ → ℕ → List ℕ). KeepsAll v q later) (sym (absorbed v stores c.records body among)) c.ahead in
            record { records = records_after v c.records (body ∷ []); keeps = keeps; paths = c.paths; ahead = ahead }
        | inr full ↦ subst (λ (h : Host). CatchesUp v h stores later) (sym full.unchanged) c
      ]
  served_catches host after answer body (inr fetch) serves c =
      record { records = c.records; keeps = fetch_served v c.records host after c.keeps answer body serves fetch; paths = c.paths; ahead = c.ahead }

  pub heard_catches : (host after : Host) (body : List ℕ) → IsWaitingOrFetch v stores body → HeardOrNot body host after
      → CatchesUp v host stores later → CatchesUp v after stores later
  heard_catches host after body is (inl same) c = subst (λ (h : Host). CatchesUp v h stores later) (sym same) c
  heard_catches host after body is (inr heard) c = served_catches host after heard.0 body is heard.1 c

  pub run_catches : (may_lie : Bool) (exchanges : List Exchange) (host after : Host) → AllByRecursion (IsWaitingOrFetch v stores) (bodies_of exchanges)
      → PlainRun may_lie v host exchanges after → CatchesUp v host stores later → CatchesUp v after stores later
  run_catches may_lie [] host after are run c = subst (λ (h : Host). CatchesUp v h stores later) run c
  run_catches may_lie (e ∷ exchanges) host after are run c =
      run_catches may_lie exchanges run.0 after are.1 run.2 (heard_catches host run.0 e.0 are.0 (hears may_lie v host run.0 e.0 e.1 run.1) c)

-- STOREs that were acknowledged don't wait any more

done_by : (answer : HostAnswer) → IsAnswer answer → done_answer ≡ answer_body answer → answer ≡ Done
done_by Done is e = refl
done_by (Payload bytes) is e =
    let none : [] ≡ bytes = ap (λ (b : List ℕ). drop 1 b) e in
    absurd (let some : 0 < length bytes = is in let few : length bytes ≡ 0 = ap length (sym none) in omega arith)
done_by (Refused code) is e = absurd cc

-- an acknowledged STORE was carried out by the honest host, too
taken : (may_lie : Bool) (v : Scheme) (r : ℕ → ℕ → List ℕ) (host after : Host) (body : List ℕ) → KeepsAll v r host → IsPathStore v.device (record_len v) body
    → IsPlainCall may_lie v host body (Ok done_answer) after → KeepsAll v (records_after v r (body ∷ [])) after
taken may_lie v r host after body keeps s (inl honest) =
    let is : honest.0 ≡ Done = done_by honest.0 honest.1 honest.2 in
    elim (store_served v r host after keeps honest.0 body honest.3 s) [
      | inl good ↦ good
      | inr full ↦ absurd (let both : Done ≡ Refused 8 = sym is ∙ full.refused in cc)
    ]
taken may_lie v r host after body keeps s (inr lie) =
    elim (store_served v r host after keeps lie.3.answer body lie.3.heard s) [
      | inl good ↦ good
      | inr full ↦ absurd (lie.3.room full.refused)
    ]

acked_keeps : (may_lie : Bool) (v : Scheme) (kept acks : List (List ℕ)) (r : ℕ → ℕ → List ℕ) (host after : Host) → length acks ≡ length kept → AreDone acks
    → ArePathStores v.device (record_len v) kept → KeepsAll v r host → PlainRun may_lie v host (answered kept acks) after → KeepsAll v (left_by v r kept) after
acked_keeps may_lie v [] acks r host after count done paths keeps run = subst (KeepsAll v r) run keeps
acked_keeps may_lie v (body ∷ kept) [] r host after count done paths keeps run = absurd (omega (arith, count))
acked_keeps may_lie v (body ∷ kept) (ack ∷ acks) r host after count done paths keeps run =
    let P : List ℕ → Type 0 = λ a. IsPlainCall may_lie v host body (Ok a) run.0 in
    acked_keeps may_lie v kept acks (records_after v r (body ∷ [])) run.0 after (omega (arith, count)) done.1 paths.1
    (taken may_lie v r host run.0 body keeps paths.0 (subst P done.0 run.1)) run.2

paths_split : (v : Scheme) (kept held : List (List ℕ)) → ArePathStores v.device (record_len v) (kept ++ held)
    → ArePathStores v.device (record_len v) kept × ArePathStores v.device (record_len v) held
paths_split v [] held paths = (tt, paths)
paths_split v (body ∷ kept) held paths = let rest = paths_split v kept held paths.1 in ((paths.0, rest.0), rest.1)

module _ (may_lie : Bool) (v : Scheme) (kept held acks : List (List ℕ)) (host after later : Host) (count : length acks ≡ length kept) (done : AreDone acks) (run : PlainRun may_lie v host (answered kept acks) after) (c : CatchesUp v host (kept ++ held) later) where
  keeps_left : KeepsAll v (left_by v c.records kept) after
  keeps_left = acked_keeps may_lie v kept acks c.records host after count done (paths_split v kept held c.paths).0 c.keeps run

  -- the host before them catches up to the one after them
  pub acked_caught : CatchesUp v host kept after
  acked_caught = record { records = c.records; keeps = c.keeps; paths = (paths_split v kept held c.paths).0; ahead = keeps_left }

  -- and that one has only the others still to carry out
  pub acked_catches : CatchesUp v after held later
  acked_catches = record {
    records = left_by v c.records kept;
    keeps = keeps_left;
    paths = (paths_split v kept held c.paths).1;
    ahead = subst (λ (q : ℕ → ℕ → List ℕ). KeepsAll v q later) (left_append v kept held c.records) c.ahead;
  }

-- a STORE that is added to those that wait

paths_more : (v : Scheme) (stores : List (List ℕ)) (body : List ℕ) → ArePathStores v.device (record_len v) stores → IsPathStore v.device (record_len v) body
    → ArePathStores v.device (record_len v) (stores ++ body ∷ [])
paths_more v [] body paths s = (s, tt)
paths_more v (first ∷ stores) body paths s = (paths.0, paths_more v stores body paths.1 s)

pub put_catches : (v : Scheme) (stores : List (List ℕ)) (body : List ℕ) (host later : Host) → IsPathStore v.device (record_len v) body → CatchesUp v host stores later
    → (next : Host) × CatchesUp v host (stores ++ body ∷ []) next × Takes later body next
put_catches v stores body host later s c =
    let k : KeepsTree v s.tree (left_by v c.records stores s.tree) later = c.ahead s.tree s.tree_in in
    let P : ℕ → Type 0 = λ n. s.leaf < 2 ^ n in
    let whole : length s.records ≡ (k.kept.depth + 1) * k.kept.record_len =
    s.whole ∙ sym (ap (λ n. (n + 1) * k.kept.record_len) k.depth ∙ ap (λ n. (depth_of v.device s.tree + 1) * n) k.record_len) in
    let next : Host = stored_host later s.tree (stored_kept k.kept s.leaf s.records) in
    let is : IsStore body = record { tree = s.tree; leaf = s.leaf; records = s.records; fits = leaf_small v s.tree s.leaf s.leaf_in; named = s.named } in
    let takes : Takes later body next = serves_so later next body is (is_stored_so later s.tree s.leaf s.records k.kept k.there (subst P (sym k.depth) s.leaf_in) whole) in
    let keeps : KeepsAll v (records_after v (left_by v c.records stores) (body ∷ [])) next =
    elim (store_served v (left_by v c.records stores) later next c.ahead Done body takes s) [
      | inl good ↦ good
      | inr full ↦ absurd (let none = full.refused in cc)
    ] in
    let ahead : KeepsAll v (left_by v c.records (stores ++ body ∷ [])) next =
    subst (λ (q : ℕ → ℕ → List ℕ). KeepsAll v q next) (sym (left_append v stores (body ∷ []) c.records)) keeps in
    (next, record { records = c.records; keeps = c.keeps; paths = paths_more v stores body c.paths s; ahead = ahead }, takes)

-- two lists of records that one host keeps are the same at each node

kept_once : {A : Type 0} (x y : A) (o : Option A) → o ≡ Some x → o ≡ Some y → x ≡ y
kept_once x y o first second = let both : Some x ≡ Some y = sym first ∙ second in cc

same_kept : (v : Scheme) (r q : ℕ → ℕ → List ℕ) (host : Host) → KeepsAll v r host → KeepsAll v q host → (i n : ℕ) → i < trees_of v.device → n < node_count (depth_of v.device i) → r i n ≡ q i n
same_kept v r q host first second i n tree node =
    let one = first i tree in
    let two = second i tree in
    let same : one.kept ≡ two.kept = kept_once one.kept two.kept (tree_at host i) one.there two.there in
    kept_once (r i n) (q i n) (record_of one.kept n) (one.each n node) (subst (λ (k : Kept). record_of k n ≡ Some (q i n)) (sym same) (two.each n node))

-- One host catches up by some STOREs to a second one, and by these and others to a third one. Then the second one catches up by the others to
-- the third one.
pub catches_apart : (v : Scheme) (kept held : List (List ℕ)) (host reached later : Host) → CatchesUp v host (kept ++ held) later → CatchesUp v host kept reached → CatchesUp v reached held later
catches_apart v kept held host reached later c first = record {
  records = left_by v c.records kept;
  keeps = λ i tree.
      let t = first.ahead i tree in
      record {
        kept = t.kept;
        there = t.there;
        depth = t.depth;
        record_len = t.record_len;
        each = λ n node. t.each n node ∙ ap Some (left_same v kept first.records c.records i n (same_kept v first.records c.records host first.keeps c.keeps i n tree node));
      };
  paths = (paths_split v kept held c.paths).1;
  ahead = subst (λ (q : ℕ → ℕ → List ℕ). KeepsAll v q later) (left_append v kept held c.records) c.ahead;
}
