-- What the files hold after a keeping, and whenever a crash comes.
use Rattle.std.proofs.Common.{◌≡◌, inl, inr, get_or, take, ℕ, suc, ◌+◌, ◌*◌, ◌^◌, ◌<◌, ◌≤◌, List, [], ◌∷◌, ◌++◌, length, refl, sym, ap, ◌∙◌, subst, arith, length-append}
use Rattle.std.specs.Prelude.{All, Result, Ok, Err, OnOk}
use Rattle.std.specs.List.{flat_map}
use Rattle.oram_kept.specs.Kept.{Finds, FindsEither, Keeps, KeptValue, StandsEither, bounds}
use Rattle.oram_kept.specs.Layout.{HasRecords, HasTable, HaveRoom, Holds, after_at, before_at, bytes_on, check_of, eight_bytes, head_of, lengths, page_at, page_of, pages_for, records_at}
use Rattle.oram_kept.specs.Pages.{AreTold, AreToldRecords, AreWritten, StayInPlace, batch_for}
use Rattle.oram_kept.specs.Text.{Parts, table_bytes}
use Rattle.oram_kept.specs.declared.text.ChangedNumbers.{ChangedNumbers}
use Rattle.oram_kept.specs.declared.text.ChangedRecords.{ChangedRecords}
use Rattle.std.proofs.lemmas.Bool.{cases_eq}
use Rattle.std.proofs.lemmas.Bool.Decides.{nat_tests}
use Rattle.std.proofs.lemmas.List.Elements.{All-append, All-cons}
use Rattle.oram_kept.proofs.Lists.{all_one}
use Rattle.oram_kept.proofs.Renewed.{AreWithin, Ends, records_written, table_written}
use Rattle.oram_kept.proofs.Tables.{length-on, length-numbers}
use Rattle.oram_redo.specs.Content.{Agrees, Content, Has, put}
use Rattle.oram_redo.specs.FilePair.{Contents, FileModel, LeavesOnly, WritesNothing}
use Rattle.oram_redo.specs.Redo.{IsCrashConsistent, bounds_of}
use Rattle.oram_redo.specs.declared.bounds.Bounds.{Bounds}
use Rattle.oram_redo.specs.declared.file_pair.FileKind.TheVariants.{Records}
use Rattle.oram_redo.specs.Log.{Fits, Patch, StandsFor, check_bytes, entries, entry, put_all}
use Rattle.oram_redo.proofs.Bytes.{has-put, has_same, put_outside}
use Rattle.oram_redo.proofs.Consistent.{keeps_now}
use Rattle.oram_redo.proofs.Heal.{put_all-append, put_heals}
use Rattle.oram_redo.proofs.Batches.{put_all_more}
use Rattle.oram_redo.specs.Batch.{patches_of as lent_patches}
use Rattle.oram_redo.specs.declared.batch.Patch.{Patch as Lent}
use Rattle.oram_redo.proofs.Logs.{all_first, all_rest, entries-append, length-check_bytes, length-entry}
use Rattle.oram_redo.proofs.Moments.{same_content, started, then_leaves}

pub length-eight : (n : ℕ) → length (eight_bytes n) ≡ 8
unfolding eight_bytes
length-eight n = refl

length-eights : (ns : List ℕ) → length (flat_map eight_bytes ns) ≡ 8 * length ns
length-eights [] = refl
length-eights (n ∷ ns) = omega (arith, length-append (eight_bytes n) (flat_map eight_bytes ns), length-eight n, length-eights ns)

pub length-head : (p : Parts) → length (head_of p) ≡ 48
length-head p =
    let said = length-eights (length p.before ∷ length p.table ∷ length p.after ∷ length p.records ∷ check_of p.before p.after ∷ []) in
    omega (arith, length-append (lengths p) (check_bytes (lengths p)), length-check_bytes (lengths p), said)

-- two pieces that are put one behind the other are put as one
put_each : (title before : List ℕ) (at : ℕ) (c : Content) (i : ℕ) → put before (at + length title) (put title at c) i ≡ put (title ++ before) at c i
put_each [] before at c i = let none : at + 0 ≡ at = omega arith in ap (λ (k : ℕ). put before k c i) none
put_each (b ∷ title) before at c i =
    let later : at + suc (length title) ≡ suc at + length title = omega arith in
    elim (cases_eq i at) [
      | inl same ↦
          let outside : put before (at + suc (length title)) (put (b ∷ title) at c) i ≡ put (b ∷ title) at c i =
          put_outside before (at + suc (length title)) (put (b ∷ title) at c) i (inl (omega (arith, same))) in
          grind (arith, nat_tests)
      | inr other ↦
          let past : put (b ∷ title) at c i ≡ put title (suc at) c i = grind (arith, nat_tests) in
          let heals = put_heals before (at + suc (length title)) (put (b ∷ title) at c) (put title (suc at) c) i (λ out. past) in
          let moved = ap (λ (k : ℕ). put before k (put title (suc at) c) i) later in
          let rest = put_each title before (suc at) c i in
          let behind : put (title ++ before) (suc at) c i ≡ put (b ∷ (title ++ before)) at c i = grind (arith, nat_tests) in
          heals ∙ moved ∙ rest ∙ behind
    ]

put_twice : (title before : List ℕ) (at : ℕ) (c : Content) → put before (at + length title) (put title at c) ≡ put (title ++ before) at c
put_twice title before at c = same_content _ _ (λ i. put_each title before at c i)

-- Once the batch is put, the text is held.
pub held : (changes : ChangedNumbers) (changed : ChangedRecords) (old_table old_records : List ℕ) (p : Parts) (title rest : List ℕ) (pages : List Patch) (head : List ℕ) (c : Content) → p.before ≡ title ++ rest → HaveRoom p → head ≡ head_of p
    → AreWritten changes changed p pages → AreTold changes old_table p.table → AreToldRecords changed old_records p.records → StayInPlace changed old_table p.table
    → HasTable old_table c → HasRecords old_table old_records c → Holds p (put_all (batch_for pages p title rest head) c)
held changes changed old_table old_records p title rest pages head c split room is written told told_records stay has has_records =
    subst (λ (e : Content). Holds p e) (sym whole)
    (record {
      room = room;
      head = subst (λ (l : List ℕ). Has l 4096 (put head 4096 d3)) is (has-put head 4096 d3);
      table = λ i within.
          let bytes : List ℕ = table_bytes p.table in
          has_same (page_of (bytes_on bytes i)) (page_at 8192 i) d1 d4
          (λ x from to. unchanged x (omega (arith, from)) (omega (arith, within, to, length-numbers p.table, length-on bytes i)))
          (table_written changes changed p pages written old_table c told has i within);
      records = λ i within.
          has_same (page_of (bytes_on p.records i)) (page_at (records_at p.table) i) d1 d4
          (λ x from to. unchanged x (omega (arith, from)) (omega (arith, within, to, length-on p.records i)))
          (records_written changes changed p pages written old_table old_records c stay told_records has_records i within);
      before = has_same p.before (before_at p) d2 d4 (λ x from to. put_outside head 4096 d3 x (inr (omega (arith, from, long))) ∙ put_outside p.after (after_at p) d2 x (inl to)) (has-put p.before (before_at p) d1);
      after = has_same p.after (after_at p) d3 d4 (λ x from to. put_outside head 4096 d3 x (inr (omega (arith, from, long)))) (has-put p.after (after_at p) d2);
    })
  where
    d1 : Content
    d1 = put_all pages c

    d2 : Content
    d2 = put p.before (before_at p) d1

    d3 : Content
    d3 = put p.after (after_at p) d2

    d4 : Content
    d4 = put head 4096 d3

    long : length head ≡ 48
    long = ap length is ∙ length-head p

    whole : put_all (batch_for pages p title rest head) c ≡ put head 4096 (put p.after (after_at p) (put p.before (before_at p) (put_all pages c)))
    whole =
        put_all-append pages ((before_at p, title) ∷ (before_at p + length title, rest) ∷ (after_at p, p.after) ∷ (4096, head) ∷ []) c
        ∙ ap (λ (e : Content). put head 4096 (put p.after (after_at p) e)) (put_twice title rest (before_at p) d1 ∙ ap (λ (l : List ℕ). put l (before_at p) d1) (sym split))

    unchanged : (x : ℕ) → 8192 ≤ x → x < before_at p → put head 4096 d3 x ≡ d1 x
    unchanged x from to =
        put_outside head 4096 d3 x (inr (omega (arith, long))) ∙ put_outside p.after (after_at p) d2 x (inl (omega arith)) ∙ put_outside p.before (before_at p) d1 x (inl to)

-- the batch, of a text that is lent
pub lent_batch : {p q : Parts} {title title' before before' : List ℕ} (pages : List Patch) (head : List ℕ) → p ≡ q → title ≡ title' → before ≡ before' → batch_for pages p title before head ≡ batch_for pages q title' before' head
lent_batch pages head parts first second = λ i. batch_for pages (parts i) (first i) (second i) head

-- another patch of a batch was put
pub one_more : (xs : List Lent) (k : ℕ) (d : Lent) (old mid new : Content) → k < length xs → Agrees mid (put_all (lent_patches (take k xs)) old)
    → Agrees new (put (get_or xs k d).bytes.now (get_or xs k d).at mid) → Agrees new (put_all (lent_patches (take (k + 1) xs)) old)
one_more xs k d old mid new within was wrote i =
    let p = get_or xs k d in
    wrote i ∙ put_heals p.bytes.now p.at mid (put_all (lent_patches (take k xs)) old) i (λ out. was i) ∙ ap (λ (c : Content). c i) (sym (put_all_more xs k d old within))

pub on_ok : {T E P Q : Type 0} (result : Result T E) → OnOk result P → (P → Q) → OnOk result Q
on_ok (Ok x) p next = next p
on_ok (Err e) p next = tt

-- the batch fits
pub batch_fits : (p : Parts) (title rest : List ℕ) (pages : List Patch) (head : List ℕ) → p.before ≡ title ++ rest → HaveRoom p → length head ≡ 48 → AreWithin 8192 (before_at p) pages
    → All (Fits bounds) (batch_for pages p title rest head)
batch_fits p title rest pages head split room long within =
    let both : length p.before ≡ length title + length rest = ap length split ∙ length-append title rest in
    let at : before_at p < 2 ^ 40 = omega (arith, room.table, room.records) in
    All-append (Fits bounds) pages ((before_at p, title) ∷ (before_at p + length title, rest) ∷ (after_at p, p.after) ∷ (4096, head) ∷ [])
    (λ k d below. let ends = within.ends k d below in record { within = omega (arith, ends.before, at); place_fits = omega (arith, ends.before, at); length_fits = omega (arith, ends.short) })
    (All-cons (Fits bounds) (before_at p, title) ((before_at p + length title, rest) ∷ (after_at p, p.after) ∷ (4096, head) ∷ [])
    (record { within = omega (arith, both, room.before, at); place_fits = omega (arith, at); length_fits = omega (arith, both, room.before) })
    (All-cons (Fits bounds) (before_at p + length title, rest) ((after_at p, p.after) ∷ (4096, head) ∷ [])
    (record { within = omega (arith, both, room.before, at); place_fits = omega (arith, both, room.before, at); length_fits = omega (arith, both, room.before) })
    (All-cons (Fits bounds) (after_at p, p.after) ((4096, head) ∷ []) (record { within = omega (arith, room.before, at, room.after); place_fits = omega (arith, at, room.before); length_fits = room.after })
    (all_one (Fits bounds) (4096, head) (record { within = omega (arith, long); place_fits = omega arith; length_fits = omega (arith, long) })))))

-- a text that was kept is found in files that stand for its records
pub found : (p : Parts) (r : Content) (c : Contents) → Holds p r → StandsFor bounds [] r c → Finds bounds p c
found p r c holds stands = record { records = r; stands = stands; holds = holds }

pub found_either : (p q : Parts) (r s : Content) (c : Contents) → Holds p r → Holds q s → StandsEither bounds r s c → FindsEither bounds p q c
found_either p q r s c holds_p holds_q (inl stands) = inl (found p r c holds_p stands)
found_either p q r s c holds_p holds_q (inr stands) = inr (found q s c holds_q stands)

pub stands_along : (a b : Bounds) (r s : Content) (c : Contents) → a ≡ b → r ≡ s → StandsFor a [] r c → StandsFor b [] s c
stands_along a b r s c same_bounds same stands =
    subst (λ (e : Bounds). StandsFor e [] s c) same_bounds (subst (λ (t : Content). StandsFor a [] t c) same stands)

-- between two calls, whatever a crash leaves has the text
pub kept_found : {F : Type 0} (model : FileModel F) (p : Parts) (k : KeptValue F) → Keeps model p k
    → (c : Contents) → model.may_leave k.files c → Finds bounds p c
kept_found model p k keeps c left =
    let seen : Content = model.seen k.files Records in
    let now = keeps_now k.redo [] (model.seen k.files) (model.may_leave k.files) keeps.consistent c left in
    found p seen c keeps.holds (stands_along (bounds_of k.redo) bounds seen seen c keeps.bounded refl now.stands)

-- a call that did nothing to the files
pub nothing_done : {F : Type 0} (model : FileModel F) (p q : Parts) (k : KeptValue F) → Keeps model p k
    → ((c : Contents) → model.left_since k.files (model.moment k.files) c → model.may_leave k.files c) → LeavesOnly model k.files k.files (FindsEither bounds p q)
nothing_done model p q k keeps only_now =
    started model k.files (FindsEither bounds p q) (λ c left. inl (kept_found model p k keeps c (only_now c left)))

-- the text is kept, once the batch is committed
pub kept_after : {F T E : Type 0} (model : FileModel F) (q : Parts) (k : KeptValue F) (result : Result T E) (c : Content)
    → Holds q c → k.table ≡ q.table → k.records ≡ q.records → bounds_of k.redo ≡ bounds
    → OnOk result (IsCrashConsistent model k.redo [] k.files) → OnOk result (Agrees (model.seen k.files Records) c) → OnOk result (Keeps model q k)
kept_after model q k (Ok x) c holds table records bounded consistent same = record {
  consistent = consistent;
  holds = subst (λ (d : Content). Holds q d) (sym (same_content (model.seen k.files Records) c same)) holds;
  table = table;
  records = records;
  bounded = bounded;
}
kept_after model q k (Err e) c holds table records bounded consistent same = tt

-- nothing more is written
pub nothing_later : {F : Type 0} (model : FileModel F) (P : Contents → Type 0) (old mid late : F) → LeavesOnly model old mid P → WritesNothing model mid late
    → ((t : ℕ) (c : Contents) → t ≤ model.moment mid → model.may_leave mid c → model.left_since mid t c) → LeavesOnly model old late P
nothing_later model P old mid late first nothing counts_now =
    then_leaves model old mid late P (model.may_leave mid) first nothing.moments (λ c now. first.each c (counts_now (model.moment old) c first.later now))

-- the entries of patches of at most 1,024 bytes each
entries_short : (ps : List Patch) (end : ℕ) → All (Ends end) ps → length (entries ps) ≤ 1045 * length ps
entries_short [] end each = omega arith
entries_short (p ∷ ps) end each =
    omega (arith, (all_first (Ends end) p ps each).short, entries_short ps end (all_rest (Ends end) p ps each), length-append (entry p) (entries ps), length-entry p)

-- the log has room for each batch of a text that has room
pub batch_has_room : (p : Parts) (title rest : List ℕ) (pages : List Patch) (head : List ℕ) → p.before ≡ title ++ rest → HaveRoom p → length head ≡ 48 → AreWithin 8192 (before_at p) pages
    → length pages ≤ pages_for (4 * length p.table) + pages_for (length p.records)
    → 4096 + 2 ^ 26 + length (entries (batch_for pages p title rest head)) < 2 ^ 40
batch_has_room p title rest pages head split room long within few =
    let last : List Patch = (4096, head) ∷ [] in
    let after : List Patch = (after_at p, p.after) ∷ last in
    let between : List Patch = (before_at p + length title, rest) ∷ after in
    let before : List Patch = (before_at p, title) ∷ between in
    omega (
      arith,
      ap length split,
      length-append title rest,
      room.before,
      room.table,
      room.after,
      room.records,
      long,
      few,
      entries_short pages (before_at p) within.ends,
      ap length (entries-append pages before),
      length-append (entries pages) (entries before),
      length-append (entry (before_at p, title)) (entries between),
      length-entry (before_at p, title),
      length-append (entry (before_at p + length title, rest)) (entries after),
      length-entry (before_at p + length title, rest),
      length-append (entry (after_at p, p.after)) (entries last),
      length-entry (after_at p, p.after),
      length-append (entry (4096, head)) (entries []),
      length-entry (4096, head),
    )
