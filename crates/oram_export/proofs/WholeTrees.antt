-- The reading of a tree, batch by batch.
use Rattle.std.proofs.Common.{◌≡◌, ℕ, zero, suc, ◌+◌, ◌-◌, ◌*◌, ◌^◌, ◌<◌, ◌≤◌, min, inl, inr, arith, ap, sym, ◌∙◌, refl, subst, List, [], ◌∷◌, ◌++◌, length, get_or, map, drop, Some, None, Ok, Err, cond, replicate, sum_by, zero-add, append_assoc}
use Rattle.std.specs.List.{FoldsTo, count_by, flat_map, range_with_len}
use Rattle.std.proofs.lemmas.Bool.{cases_lt}
use Rattle.std.proofs.lemmas.Fn.{FoldsTo-push}
use Rattle.std.proofs.lemmas.List.{append-nil, length-replicate, map-append, take-append-drop}
use Rattle.std.proofs.lemmas.List.FromFn.{map-range_with_len_more, take-map-range_with_len}
use Rattle.std.proofs.lemmas.List.Sums.{sum_by-cons, sum_by-set}
use Rattle.std.proofs.Math.ListN.{set}
use Rattle.oram_link_laws.specs.Runs.{Exchange}
use Rattle.oram_pipeline.specs.Pipelines.{EndsBatch}
use Rattle.oram_rounds.specs.Batches.{BatchOutcome}
use Rattle.oram_scan.specs.Laws.{Row, Takes}
use Rattle.oram_scan.specs.Scan.{Scan, begun, node_count}
use Rattle.oram_scan.specs.declared.tree_scan.Finding.TheVariants.{Sound, Changed, Unchecked}
use Rattle.oram_export.specs.Findings.{IsCounted, count_of, finding_of, is_lost, lost_of, none_found, one_more}
use Rattle.oram_export.specs.Reading.{Asking, Carries, HasAsked, IsRead, MayAskNext, answers_text, asked_in, asked_of, sound_in}
use Rattle.oram_export.specs.Requests.{AsksNext, batch_at, batch_count, requests_for}
use Rattle.oram_export.specs.Stages.{IsFurther, IsUnderWay, Stage, TakesRow, TakesRows, stage_of}
use Rattle.oram_export.specs.declared.batches.Requests.{Requests}
use Rattle.oram_export.specs.declared.findings.LevelFindings.{LevelFindings}
use Rattle.oram_export.specs.declared.progress.TreeProgress.{TreeProgress}
use Rattle.oram_export.specs.declared.tree_reading.TreeToRead.{TreeToRead}
use Rattle.oram_export.proofs.Asked.{node_after_batch, node_at_end}
use Rattle.oram_export.proofs.Counting.{counted_length, level_below}
use Rattle.oram_export.proofs.Levels.{levels_from, levels_none}
use Rattle.oram_export.proofs.Staging.{more_rows, no_rows, takes_next}

abbrev pub requests_to : TreeToRead → Requests
requests_to tree = requests_for tree.tree tree.depth tree.record_len

-- the stage at which a reading begins
abbrev pub first_stage : {T : Type 0} → TreeToRead → T → Stage T
first_stage tree s = record { scan = begun tree.depth tree.record_len tree.root; levels = replicate (tree.depth + 1) none_found; target = s }

-- k batches were asked for and taken
pub record HasRead {B T : Type 0} (batches : B → List (List ℕ) → BatchOutcome → List Exchange → B → Type 0) (sees : T → List ℕ → T → Type 0) (tree : TreeToRead) (l : B) (s : T)
    (k : ℕ) (p : TreeProgress) (m : B) (t : T) : Type 0 where
  pub askings : List Asking
  pub carried : Carries batches l askings m
  pub asked : asked_in askings ≡ map (batch_at (requests_to tree)) (range_with_len 0 k)
  pub taken : TakesRows sees tree.record_len (first_stage tree s) (answers_text askings) (stage_of p t)
  pub under_way : IsUnderWay p
  pub depth : p.scan.depth ≡ tree.depth
  pub node : p.scan.node ≡ min (k * 16 * (requests_to tree).most) (requests_to tree).nodes

nothing_counted : (n : ℕ) → sum_by count_of (replicate n none_found) ≡ 0
nothing_counted zero = refl
nothing_counted (suc n) = sum_by-cons count_of none_found (replicate n none_found) ∙ omega (arith, nothing_counted n)

pub nothing_read : {B T : Type 0} (batches : B → List (List ℕ) → BatchOutcome → List Exchange → B → Type 0) (sees : T → List ℕ → T → Type 0) (tree : TreeToRead) (l : B) (s : T) (p : TreeProgress)
    → tree.depth ≤ 24 → 64 < tree.record_len → p.scan ≡ begun tree.depth tree.record_len tree.root → p.findings ≡ replicate (tree.depth + 1) none_found → HasRead batches sees tree l s 0 p l s
nothing_read {B} {T} batches sees tree l s p deep long scan findings = record {
  askings = [];
  carried = refl;
  asked = refl;
  taken = subst (λ (a : Stage T). TakesRows sees tree.record_len a [] (stage_of p s)) start (no_rows sees tree.record_len (stage_of p s));
  under_way = record {
    deep = let d = ap (λ (x : Scan). x.depth) scan in omega (arith, d);
    long = let r = ap (λ (x : Scan). x.record_len) scan in omega (arith, r);
    levels = ap length findings ∙ length-replicate (tree.depth + 1) none_found ∙ ap (λ (n : ℕ). n + 1) (sym (ap (λ (x : Scan). x.depth) scan));
    nodes = ap (sum_by count_of) findings ∙ nothing_counted (tree.depth + 1) ∙ sym (ap (λ (x : Scan). x.node) scan);
  };
  depth = ap (λ (x : Scan). x.depth) scan;
  node = ap (λ (x : Scan). x.node) scan ∙ omega arith;
}
  where
    start : stage_of p s ≡ first_stage tree s
    start = ap {B = Stage T} (λ (x : Scan). record { scan = x; levels = p.findings; target = s }) scan ∙ ap {B = Stage T} (λ (x : List LevelFindings). record { scan = begun tree.depth tree.record_len tree.root; levels = x; target = s }) findings

answers_more : (askings : List Asking) (bodies answers : List (List ℕ)) → answers_text (askings ++ (bodies, Ok answers) ∷ []) ≡ answers_text askings ++ flat_map (drop 1) answers
answers_more [] bodies answers = append-nil (flat_map (drop 1) answers)
answers_more ((other, Ok given) ∷ askings) bodies answers = ap (λ (t : List ℕ). flat_map (drop 1) given ++ t) (answers_more askings bodies answers) ∙ sym (append_assoc (flat_map (drop 1) given) (answers_text askings) (flat_map (drop 1) answers))
answers_more ((other, Err fault) ∷ askings) bodies answers = answers_more askings bodies answers

asked_more : (askings : List Asking) (bodies : List (List ℕ)) (o : BatchOutcome) → asked_in (askings ++ (bodies, o) ∷ []) ≡ asked_in askings ++ bodies ∷ []
asked_more askings bodies o = map-append {A = Asking} (λ x. x.0) askings ((bodies, o) ∷ [])

pub one_batch_more : {B T : Type 0} (batches : B → List (List ℕ) → BatchOutcome → List Exchange → B → Type 0) (sees : T → List ℕ → T → Type 0) (tree : TreeToRead) (l : B) (s : T)
    (k : ℕ) (p q : TreeProgress) (m n : B) (t u : T) (bodies answers : List (List ℕ)) → HasRead batches sees tree l s k p m t → 0 < (requests_to tree).most → k < batch_count (requests_to tree)
    → bodies ≡ batch_at (requests_to tree) k → length answers ≡ length bodies → (exchanges : List Exchange) × batches m bodies (Ok answers) exchanges n
    → TakesRows sees tree.record_len (stage_of p t) (flat_map (drop 1) answers) (stage_of q u)
    → IsFurther p q (min (length answers * (requests_to tree).most) ((requests_to tree).nodes - p.scan.node)) → HasRead batches sees tree l s (k + 1) q n u
one_batch_more {B} batches sees tree l s k p q m n t u bodies answers read some below are count carries rows further =
    let r = requests_to tree in
    record {
      askings = read.askings ++ (bodies, Ok answers) ∷ [];
      carried = FoldsTo-push {P = B} {A = Asking} (λ a x b. (exchanges : List Exchange) × batches a x.0 x.1 exchanges b) l read.askings m (bodies, Ok answers) n read.carried carries;
      asked = asked_more read.askings bodies (Ok answers) ∙ ap (λ (bs : List (List (List ℕ))). bs ++ bodies ∷ []) read.asked
          ∙ ap (λ (b : List (List ℕ)). map (batch_at r) (range_with_len 0 k) ++ b ∷ []) are ∙ sym (map-range_with_len_more (batch_at r) 0 k k (omega arith));
      taken = subst (λ (text : List ℕ). TakesRows sees tree.record_len (first_stage tree s) text (stage_of q u)) (sym (answers_more read.askings bodies answers))
          (more_rows sees tree.record_len (first_stage tree s) (stage_of p t) (stage_of q u) (answers_text read.askings) (flat_map (drop 1) answers) read.taken rows);
      under_way = further.under_way;
      depth = further.depth ∙ read.depth;
      node = further.node ∙ ap (λ (x : ℕ). x + min (length answers * r.most) (r.nodes - x)) read.node
          ∙ ap (λ (x : ℕ). min (k * 16 * r.most) r.nodes + min (x * r.most) (r.nodes - min (k * 16 * r.most) r.nodes)) (count ∙ ap length are)
          ∙ node_after_batch r k some below;
    }

-- ---- at the end

judged_of : {T : Type 0} (sees : T → List ℕ → T → Type 0) (rows : List Row) (a b : Stage T) → FoldsTo (TakesRow sees) a rows b → FoldsTo Takes a.scan rows b.scan
judged_of sees [] a b folds = ap (λ x. x.scan) folds
judged_of sees (row ∷ rows) a b (c, takes, rest) = (c.scan, takes.scan, judged_of sees rows c b rest)

told_of : {T : Type 0} (sees : T → List ℕ → T → Type 0) (rows : List Row) (a b : Stage T) → FoldsTo (TakesRow sees) a rows b → FoldsTo sees a.target (sound_in rows) b.target
told_of sees [] a b folds = ap (λ x. x.target) folds
told_of sees (Some (r, Sound) ∷ rows) a b (c, takes, rest) = (c.target, takes.target, told_of sees rows c b rest)
told_of sees (None ∷ rows) a b (c, takes, rest) = subst (λ x. FoldsTo sees x (sound_in rows) b.target) takes.target (told_of sees rows c b rest)
told_of sees (Some (r, Changed) ∷ rows) a b (c, takes, rest) = subst (λ x. FoldsTo sees x (sound_in rows) b.target) takes.target (told_of sees rows c b rest)
told_of sees (Some (r, Unchecked) ∷ rows) a b (c, takes, rest) = subst (λ x. FoldsTo sees x (sound_in rows) b.target) takes.target (told_of sees rows c b rest)

lost_of_more : (f : LevelFindings) (row : Row) → lost_of (one_more f (finding_of row)) ≡ lost_of f + cond (is_lost row) 1 0
lost_of_more f None = omega arith
lost_of_more f (Some (r, Sound)) = omega arith
lost_of_more f (Some (r, Changed)) = omega arith
lost_of_more f (Some (r, Unchecked)) = omega arith

lost_counted : (old new : List LevelFindings) (node : ℕ) (row : Row) → IsCounted old node (finding_of row) new → node + 1 < 2 ^ length old → sum_by lost_of new ≡ sum_by lost_of old + cond (is_lost row) 1 0
lost_counted old new node row is within =
    let f = get_or old is.level none_found in
    let below : is.level < length old = level_below is.level (node + 1) (length old) is.at_level.0 within in
    let after : sum_by lost_of (set old is.level (one_more f (finding_of row))) + lost_of f ≡ sum_by lost_of old + lost_of (one_more f (finding_of row)) = sum_by-set lost_of old is.level (one_more f (finding_of row)) none_found below in
    ap (sum_by lost_of) is.counted ∙ omega (arith, after, lost_of_more f row)

lost_from : {T : Type 0} (sees : T → List ℕ → T → Type 0) (rows : List Row) (a b : Stage T) → length a.levels ≡ a.scan.depth + 1 → FoldsTo (TakesRow sees) a rows b
    → sum_by lost_of b.levels ≡ sum_by lost_of a.levels + count_by is_lost rows
lost_from sees [] a b long folds = ap (λ x. sum_by lost_of x.levels) (sym folds) ∙ omega arith
lost_from sees (row ∷ rows) a b long (c, takes, rest) =
    let next = takes_next a.scan row c.scan takes.scan in
    let inside : a.scan.node < node_count a.scan.depth = next.within in
    let power : 2 ^ length a.levels ≡ 2 ^ (a.scan.depth + 1) = ap (λ (n : ℕ). 2 ^ n) long in
    let one : sum_by lost_of c.levels ≡ sum_by lost_of a.levels + cond (is_lost row) 1 0 = lost_counted a.levels c.levels a.scan.node row takes.levels (omega (arith, power, inside)) in
    let same : length c.levels ≡ length a.levels = counted_length a.levels c.levels a.scan.node (finding_of row) takes.levels in
    let depth_is : c.scan.depth ≡ a.scan.depth = next.depth in
    let others : sum_by lost_of b.levels ≡ sum_by lost_of c.levels + count_by is_lost rows = lost_from sees rows c b (omega (arith, same, long, depth_is)) rest in
    let all : count_by is_lost (row ∷ rows) ≡ cond (is_lost row) 1 0 + count_by is_lost rows = sum_by-cons (λ x. cond (is_lost x) 1 0) row rows in
    omega (arith, one, others, all)

nothing_lost : (n : ℕ) → sum_by lost_of (replicate n none_found) ≡ 0
nothing_lost zero = refl
nothing_lost (suc n) = sum_by-cons lost_of none_found (replicate n none_found) ∙ omega (arith, nothing_lost n)

pub whole_read : {B T : Type 0} (batches : B → List (List ℕ) → BatchOutcome → List Exchange → B → Type 0) (sees : T → List ℕ → T → Type 0) (tree : TreeToRead) (l : B) (s : T)
    (k : ℕ) (p : TreeProgress) (m : B) (t : T) → 0 < (requests_to tree).most → k ≡ batch_count (requests_to tree) → HasRead batches sees tree l s k p m t
    → (rows : List Row) × IsRead batches tree l rows p.findings m × FoldsTo sees s (sound_in rows) t
whole_read batches sees tree l s k p m t some all read =
    let r = requests_to tree in
    let rows = read.taken.rows in
    let takes = read.taken.takes in (
      rows,
      record {
        askings = read.askings;
        carried = read.carried;
        asked = read.asked ∙ ap (λ (n : ℕ). map (batch_at r) (range_with_len 0 n)) all;
        spelled = read.taken.spelled;
        long = read.taken.long;
        scan = p.scan;
        judged = judged_of sees rows (first_stage tree s) (stage_of p t) takes;
        whole = read.node ∙ ap (λ (n : ℕ). min (n * 16 * r.most) r.nodes) all ∙ node_at_end r some;
        counted = levels_from sees tree.depth [] rows (first_stage tree s) (stage_of p t) refl refl (levels_none tree.depth) takes;
        lost = lost_from sees rows (first_stage tree s) (stage_of p t) (length-replicate (tree.depth + 1) none_found) takes ∙ ap (λ (n : ℕ). n + count_by is_lost rows) (nothing_lost (tree.depth + 1)) ∙ zero-add (count_by is_lost rows);
      },
      told_of sees rows (first_stage tree s) (stage_of p t) takes,
    )

-- ---- a reading that stops

first_batches : (r : Requests) (k n : ℕ) → k ≤ n → map (batch_at r) (range_with_len 0 n) ≡ map (batch_at r) (range_with_len 0 k) ++ drop k (map (batch_at r) (range_with_len 0 n))
first_batches r k n within = sym (take-append-drop k (map (batch_at r) (range_with_len 0 n))) ∙ ap (λ (bs : List (List (List ℕ))). bs ++ drop k (map (batch_at r) (range_with_len 0 n))) (take-map-range_with_len (batch_at r) 0 n k within)

-- k batches were asked for and taken, and the next one was asked for, if there is one
pub record HasReadAhead {B T : Type 0} (batches : B → List (List ℕ) → BatchOutcome → List Exchange → B → Type 0) (asks : B → List (List ℕ) → B → Type 0) (sees : T → List ℕ → T → Type 0)
    (tree : TreeToRead) (l : B) (s : T) (k : ℕ) (p : TreeProgress) (bodies : List (List ℕ)) (m : B) (t : T) : Type 0 where
  pub link : B  -- before it was asked
  pub read : HasRead batches sees tree l s k p link t
  pub ahead : AsksNext asks (requests_to tree) k link bodies m

-- k batches were asked for and answered
abbrev pub HasCarried : {B : Type 0} → (B → List (List ℕ) → BatchOutcome → List Exchange → B → Type 0) → TreeToRead → B → ℕ → B → Type 0
HasCarried batches tree l k m = (askings : List Asking) × Carries batches l askings m × (asked_in askings ≡ map (batch_at (requests_to tree)) (range_with_len 0 k))

module _ {B : Type 0} (batches : B → List (List ℕ) → BatchOutcome → List Exchange → B → Type 0) (tree : TreeToRead) where
  pub carried_more : (l : B) (k : ℕ) (m n : B) (bodies : List (List ℕ)) (o : BatchOutcome) → HasCarried batches tree l k m → bodies ≡ batch_at (requests_to tree) k
      → (exchanges : List Exchange) × batches m bodies o exchanges n → HasCarried batches tree l (k + 1) n
  carried_more l k m n bodies o (askings, carried, asked) are carries =
      let r = requests_to tree in (
        askings ++ (bodies, o) ∷ [],
        FoldsTo-push {P = B} {A = Asking} (λ a x b. (exchanges : List Exchange) × batches a x.0 x.1 exchanges b) l askings m (bodies, o) n carried carries,
        asked_more askings bodies o ∙ ap (λ (bs : List (List (List ℕ))). bs ++ bodies ∷ []) asked
            ∙ ap (λ (b : List (List ℕ)). map (batch_at r) (range_with_len 0 k) ++ b ∷ []) are ∙ sym (map-range_with_len_more (batch_at r) 0 k k (omega arith)),
      )

  module _ (asks : B → List (List ℕ) → B → Type 0) where
    asks_none : (k m : B) (later : List (List (List ℕ))) → m ≡ k → MayAskNext asks k later m
    asks_none k m [] same = same
    asks_none k m (bodies ∷ later) same = inl same

    -- nothing was asked for after these batches
    pub stopped_here : (l : B) (k : ℕ) (m n : B) → HasCarried batches tree l k m → k ≤ batch_count (requests_to tree) → n ≡ m → HasAsked batches asks tree l n
    stopped_here l k m n (askings, carried, asked) within same =
        let r = requests_to tree in
        (askings, m, carried, (drop k (asked_of tree), first_batches r k (batch_count r) within ∙ ap (λ (bs : List (List (List ℕ))). bs ++ drop k (asked_of tree)) (sym asked), asks_none m n (drop k (asked_of tree)) same))

    -- the next batch was asked for, if there is one
    pub stopped_ahead : (l : B) (k : ℕ) (m n : B) (bodies : List (List ℕ)) → HasCarried batches tree l k m → k ≤ batch_count (requests_to tree)
        → AsksNext asks (requests_to tree) k m bodies n → HasAsked batches asks tree l n
    stopped_ahead l k m n bodies carries within next =
        let r = requests_to tree in
        elim (cases_lt k (batch_count r)) [
          | inr last ↦ stopped_here l k m n carries within (next.none (omega (arith, last)))
          | inl below ↦
              let others = drop (k + 1) (asked_of tree) in
              let first = batch_at r k in
              let all : asked_of tree ≡ asked_in carries.0 ++ first ∷ others =
              first_batches r (k + 1) (batch_count r) (omega (arith, below))
              ∙ ap (λ (bs : List (List (List ℕ))). bs ++ others) (map-range_with_len_more (batch_at r) 0 k k (omega arith))
              ∙ append_assoc (map (batch_at r) (range_with_len 0 k)) (first ∷ []) others
              ∙ ap (λ (bs : List (List (List ℕ))). bs ++ first ∷ others) (sym carries.2) in
              let asked = next.next below in
              (carries.0, m, carries.1, (first ∷ others, all, inr (subst (λ (b : List (List ℕ)). asks m b n) asked.0 asked.1)))
        ]

    -- the batch that was asked for was answered
    pub next_answered : {T : Type 0} (sees : T → List ℕ → T → Type 0) (l : B) (s : T) (k : ℕ) (p : TreeProgress) (bodies : List (List ℕ)) (m n : B) (t : T) (sent : List (List ℕ)) (o : BatchOutcome)
        → (h : HasReadAhead batches asks sees tree l s k p bodies m t) → k < batch_count (requests_to tree) → sent ≡ bodies → EndsBatch batches asks sent m o n
        → (sent ≡ batch_at (requests_to tree) k) × ((exchanges : List Exchange) × batches h.link sent o exchanges n)
    next_answered sees l s k p bodies m n t sent o h below same ends =
        let asked = h.ahead.next below in
        (same ∙ asked.0, ends h.link (subst (λ (b : List (List ℕ)). asks h.link b m) (sym same) asked.1))

    -- and what that makes of the batches before
    pub next_carried : {T : Type 0} (sees : T → List ℕ → T → Type 0) (l : B) (s : T) (k : ℕ) (p : TreeProgress) (bodies : List (List ℕ)) (m n : B) (t : T) (sent : List (List ℕ)) (o : BatchOutcome)
        → HasReadAhead batches asks sees tree l s k p bodies m t → k < batch_count (requests_to tree) → sent ≡ bodies → EndsBatch batches asks sent m o n
        → HasCarried batches tree l (k + 1) n
    next_carried sees l s k p bodies m n t sent o h below same ends =
        let next = next_answered sees l s k p bodies m n t sent o h below same ends in
        carried_more l k h.link n sent o (h.read.askings, h.read.carried, h.read.asked) next.0 next.1
