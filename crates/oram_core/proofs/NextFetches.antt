-- The first FETCHes of the commands of a queue, one command after the other.
use Rattle.std.proofs.Common.{◌≡◌, ◌≢◌, ℕ, ◌+◌, ◌-◌, ◌<◌, ◌≤◌, ◌==◌, List, [], ◌∷◌, ◌++◌, drop, length, slice_index, slice_index_or, slice_set, take, refl, ap, sym, ◌∙◌, arith, add-one}
use Rattle.std.specs.Global.{Vec}
use Rattle.std.proofs.Math.Seq.{take-suc}
use Rattle.std.proofs.lemmas.List.{drop-append-le, drop-take, get_or-set_other, get_or-set_same, length-take-le, map-append}
use Rattle.oram_geometry.specs.declared.Sizes.{Sizes}
use Rattle.oram_geometry.specs.Sizes.{trees_of}
use Rattle.oram_trace.specs.declared.entries.Entry.{Entry}
use Rattle.oram_wire.specs.HostMessages.{fetch_body}
use Rattle.oram_wire.specs.ListOfBodies.{bodies_in}
use Rattle.oram_semantics.specs.Content.{block_of, new_leaf}
use Rattle.oram_semantics.specs.Moves.{fetch_at}
use Rattle.oram_semantics.specs.NextFetches.{fetch_bodies, first_fetches, next_fetches, table_after}
use Rattle.oram_semantics.specs.State.{State}
use Rattle.oram_semantics.specs.declared.events.Submission.{Submission}
use Rattle.oram_semantics.proofs.NextEntries.{none_to_begin}
use Rattle.oram_semantics.proofs.NextFetches.{first_fetches-push, length-table_after, table_after-push}
use Rattle.oram_core.specs.PlainSteps.{fetch_of}

-- the elements from `from` up to `to`
abbrev pub between : {X : Type 0} → ℕ → ℕ → List X → List X
between from to xs = drop from (take to xs)

-- none at first,
pub between_none : {X : Type 0} (from : ℕ) (xs : List X) → between from from xs ≡ []
between_none from xs = ap (λ (k : ℕ). drop from (take k xs)) (let same : from ≡ from + 0 = omega arith in same) ∙ drop-take from 0 xs

-- then one more,
pub between_more : {X : Type 0} (from at : ℕ) (xs : List X) (x : X) → from ≤ at → at < length xs → x ≡ slice_index_or xs at x
    → between from (at + 1) xs ≡ between from at xs ++ x ∷ []
between_more from at xs x low high is =
    let long : length (take at xs) ≡ at = length-take-le at xs (omega arith) in
    ap (λ k. drop from (take k xs)) (add-one at) ∙ ap (drop from) (take-suc xs at x high)
    ∙ drop-append-le from (take at xs) (slice_index_or xs at x ∷ []) (omega (arith, long))
    ∙ ap (λ y. between from at xs ++ y ∷ []) (sym is)

-- the entry of a block once one more command has had its answer: the new leaf, if it is the command's block,
pub entry_behind : (d : Sizes) (table : List ℕ) (queue : List Submission) (from at block : ℕ) (y : Submission) → from ≤ at → at < length queue
    → y ≡ slice_index_or queue at y → block < length table → block_of d (trees_of d - 1) y ≡ block
    → slice_index (table_after d table (between from (at + 1) queue)) block ≡ new_leaf d (trees_of d - 1) y + 1
entry_behind d table queue from at block y low high is inside same =
    let before : List Submission = between from at queue in
    let long : length (table_after d table before) ≡ length table = length-table_after d table before in
    ap (λ (xs : List Submission). slice_index (table_after d table xs) block) (between_more from at queue y low high is)
    ∙ ap (λ (ts : List ℕ). slice_index ts block) (table_after-push d table before y)
    ∙ ap (λ (k : ℕ). slice_index (slice_set (table_after d table before) k (new_leaf d (trees_of d - 1) y + 1)) block) same
    ∙ get_or-set_same (table_after d table before) block (new_leaf d (trees_of d - 1) y + 1) 0 (omega (arith, long))

-- and otherwise as before
pub entry_kept : (d : Sizes) (table : List ℕ) (queue : List Submission) (from at block : ℕ) (y : Submission) → from ≤ at → at < length queue
    → y ≡ slice_index_or queue at y → block_of d (trees_of d - 1) y ≢ block
    → slice_index (table_after d table (between from (at + 1) queue)) block ≡ slice_index (table_after d table (between from at queue)) block
entry_kept d table queue from at block y low high is other =
    let before : List Submission = between from at queue in
    ap (λ (xs : List Submission). slice_index (table_after d table xs) block) (between_more from at queue y low high is)
    ∙ ap (λ (ts : List ℕ). slice_index ts block) (table_after-push d table before y)
    ∙ get_or-set_other (table_after d table before) (block_of d (trees_of d - 1) y) block (new_leaf d (trees_of d - 1) y + 1) 0 (λ same. other (sym same))

-- no command has no first FETCH
pub fetches_none : (d : Sizes) (table : List ℕ) (queue : List Submission) (from : ℕ) → fetch_bodies (first_fetches d table (between from from queue)) ≡ []
unfolding first_fetches
fetches_none d table queue from = ap (λ (xs : List Submission). fetch_bodies (first_fetches d table xs)) (between_none from queue)

-- one more command's body
pub fetches_more : (d : Sizes) (table : List ℕ) (queue : List Submission) (from at entry : ℕ) (y : Submission) (bodies : List (Vec ℕ)) (body : Vec ℕ)
    → from ≤ at → at < length queue → y ≡ slice_index_or queue at y
    → bodies_in bodies ≡ fetch_bodies (first_fetches d table (between from at queue))
    → entry ≡ slice_index (table_after d table (between from at queue)) (block_of d (trees_of d - 1) y)
    → body.items ≡ fetch_of (fetch_at d 0 entry y)
    → bodies_in (bodies ++ body ∷ []) ≡ fetch_bodies (first_fetches d table (between from (at + 1) queue))
fetches_more d table queue from at entry y bodies body low high is made map_entry_is body_is =
    let before : List Submission = between from at queue in
    let last : Entry = fetch_at d 0 (slice_index (table_after d table before) (block_of d (trees_of d - 1) y)) y in
    let fetch : Entry → List ℕ = λ e. fetch_body e.tree e.leaf in
    map-append (λ (b : Vec ℕ). b.items) bodies (body ∷ [])
    ∙ ap (λ (bs : List (List ℕ)). bs ++ body.items ∷ []) made
    ∙ ap (λ (b : List ℕ). fetch_bodies (first_fetches d table before) ++ b ∷ []) (body_is ∙ ap (λ (k : ℕ). fetch_of (fetch_at d 0 k y)) map_entry_is)
    ∙ sym (map-append fetch (first_fetches d table before) (last ∷ []))
    ∙ sym (ap (λ (es : List Entry). fetch_bodies es) (ap (λ (xs : List Submission). first_fetches d table xs) (between_more from at queue y low high is) ∙ first_fetches-push d table before y))

-- a core in which no command waits has no next FETCHes
pub none_next : (d : Sizes) (s : State) → s.queue ≡ [] → [] ≡ fetch_bodies (next_fetches d s)
unfolding first_fetches
none_next d s none = sym (ap (λ (xs : List Submission). fetch_bodies (first_fetches d s.table xs)) (none_to_begin (s.entry_number == 0) s.queue none))

-- before the first command the table is as it was
pub table_none : (d : Sizes) (table : List ℕ) (queue : List Submission) (from block : ℕ) → slice_index (table_after d table (between from from queue)) block ≡ slice_index table block
unfolding table_after
table_none d table queue from block = ap (λ (xs : List Submission). slice_index (table_after d table xs) block) (between_none from queue)

pub none_left : {X : Type 0} (xs : List X) → length xs ≡ 0 → xs ≡ []
none_left [] e = refl
none_left (x ∷ xs) e = absurd (omega arith)
