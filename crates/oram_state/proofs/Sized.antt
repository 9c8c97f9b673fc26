-- The parts of a core have a file, and a file belongs to one core.
use Rattle.std.proofs.Common.{◌≡◌, ℕ, ◌+◌, ◌-◌, ◌*◌, ◌%◌, ◌^◌, ◌<◌, ◌≤◌, ◌==◌, Bool, true, false, not, if◌then◌else◌, List, [], ◌∷◌, length, Option, Some, None, Result, Ok, All, refl, ap, sym, ◌∙◌, subst, arith, inr}
use Rattle.std.specs.List.{AllByRecursion}
use Rattle.std.proofs.lemmas.Bool.{eqb-true}
use Rattle.std.proofs.lemmas.List.Elements.{All-head, All-tail, recursion_from_All}
use Rattle.std.proofs.Math.Nat.{pow-le-pow_right}
use Rattle.oram_geometry.specs.declared.Sizes.{Sizes}
use Rattle.oram_geometry.specs.Sizes.{IsDevice, blocks_in, depth_of, trees_of}
use Rattle.oram_geometry.proofs.DeviceSizes.{blocks_in-range}
use Rattle.oram_bucket.specs.Bucket.{IsBlockOf}
use Rattle.oram_bucket.specs.Cell.{Cell}
use Rattle.oram_tree.specs.Parts.{Parts as TreeParts}
use Rattle.oram_semantics.specs.Agree.{IsAllowed}
use Rattle.oram_semantics.specs.Events.{address_of}
use Rattle.oram_semantics.specs.Content.{entry_tree}
use Rattle.oram_semantics.specs.Run.{has_bad_length}
use Rattle.oram_semantics.specs.State.{State}
use Rattle.oram_semantics.specs.declared.events.Command.{Command}
use Rattle.oram_semantics.specs.declared.events.Command.TheVariants.{Read, Write, Discard}
use Rattle.oram_semantics.specs.declared.events.Reason.{Reason}
use Rattle.oram_semantics.proofs.Bounds.{depth_small}
use Rattle.oram_core.specs.Core.{AtWork, IsResting, most_map_entry}
use Rattle.oram_core.specs.Validity.{AreTrees, IsFitting}
use Rattle.oram_core.specs.Parts.{Parts, AreParts, parts_of, state_of, submission_at, submissions_from}
use Rattle.oram_core.specs.declared.parts.Pending.{Pending}
use Rattle.oram_core.proofs.Fits.{fits_of, trees_of_parts}
use Rattle.oram_state.specs.declared.fault.StateFault.{StateFault}
use Rattle.oram_state.specs.declared.saved.Saved.{Saved}
use Rattle.oram_state.specs.DecodedCore.{AreSavedFields, IsSaved}
use Rattle.oram_state.specs.Parser.{saved_in, state_in}
use Rattle.oram_state.specs.StateBytes.{fields_text, state_file, work_of}
use Rattle.oram_state.specs.WellSized.{CommandFits, FitsFields, IsLong, IsNoWork, IsShort, IsSizedBlock, IsSizedCommand, IsSizedPending, IsSizedTree, IsWellSized, IsWorkBy, table_len, tree_count}
use Rattle.oram_state.proofs.Counted.{counted}
use Rattle.oram_state.proofs.Framed.{fields_again_bare, state_again}

-- ---- the table and the trees

-- the leaves of a tree
leaves_few : (d : Sizes) (i : ℕ) → 2 ^ depth_of d i ≤ 2 ^ 24
leaves_few d i = pow-le-pow_right (omega arith) (depth_small d i)

shorts : (d : Sizes) (i : ℕ) (entries : List ℕ) → All (λ e. e ≤ 2 ^ depth_of d i) entries → AllByRecursion IsShort entries
shorts d i [] h = tt
shorts d i (e ∷ es) h =
    let one : e ≤ 2 ^ depth_of d i = All-head (λ (x : ℕ). x ≤ 2 ^ depth_of d i) e es h in
    let most = leaves_few d i in (
      omega (arith, one, most),
      shorts d i es (All-tail (λ (x : ℕ). x ≤ 2 ^ depth_of d i) e es h),
    )

sized_blocks : (d : Sizes) (i : ℕ) (cells : List Cell) → IsDevice d → All (IsBlockOf d i) cells → AllByRecursion (IsSizedBlock d) cells
sized_blocks d i [] ranges h = tt
sized_blocks d i (c ∷ cs) ranges h =
    let one : IsBlockOf d i c = All-head (IsBlockOf d i) c cs h in
    let many = (blocks_in-range d ranges i).1 in
    let most = leaves_few d i in (
      record { address = omega (arith, one.address_in, many); leaf = omega (arith, one.leaf_in, most); whole = one.whole },
      sized_blocks d i cs ranges (All-tail (IsBlockOf d i) c cs h),
    )

sized_trees : (d : Sizes) (i : ℕ) (ts : List TreeParts) → IsDevice d → AreTrees d i ts → All (λ t. IsShort (length t.stash)) ts → All (λ t. length t.root ≡ 32) ts → AllByRecursion (IsSizedTree d) ts
sized_trees d i [] ranges h counts roots = tt
sized_trees d i (t ∷ ts) ranges h counts roots = (
  record {
    root = All-head (λ (u : TreeParts). length u.root ≡ 32) t ts roots;
    count = All-head (λ (u : TreeParts). IsShort (length u.stash)) t ts counts;
    blocks = sized_blocks d i t.stash ranges h.0.blocks;
  },
  sized_trees d (i + 1) ts ranges h.1 (All-tail (λ (u : TreeParts). IsShort (length u.stash)) t ts counts) (All-tail (λ (u : TreeParts). length u.root ≡ 32) t ts roots),
)

-- ---- the commands that wait

sized_command : (d : Sizes) (c : Command) → IsDevice d → address_of c < blocks_in d 0 → has_bad_length d c ≡ false → IsSizedCommand d c
sized_command d (Read a) ranges below whole = let many = (blocks_in-range d ranges 0).1 in omega (arith, below, many)
sized_command d (Discard a) ranges below whole = let many = (blocks_in-range d ranges 0).1 in omega (arith, below, many)
sized_command d (Write a bytes) ranges below whole =
    let many = (blocks_in-range d ranges 0).1 in
    (omega (arith, below, many), eqb-true (length bytes) d.block_bytes (not_false (length bytes == d.block_bytes) whole))
  where
    not_false : (b : Bool) → not b ≡ false → b ≡ true
    not_false true h = refl
    not_false false h = absurd cc

sized_pendings : (d : Sizes) (qs : List Pending) → IsDevice d → All (λ q. IsAllowed d (submission_at 0 q)) qs → All CommandFits qs → AllByRecursion (IsSizedPending d) qs
sized_pendings d [] ranges h fits = tt
sized_pendings d (q ∷ qs) ranges h fits =
    let allowed : IsAllowed d (submission_at 0 q) = All-head (λ (x : Pending). IsAllowed d (submission_at 0 x)) q qs h in
    let fit : CommandFits q = All-head CommandFits q qs fits in (
      record {
        session = fit.session;
        command = sized_command d q.command ranges allowed.address allowed.data_length;
        count = allowed.words;
        words = recursion_from_All IsLong q.words fit.words;
      },
      sized_pendings d qs ranges (All-tail (λ (x : Pending). IsAllowed d (submission_at 0 x)) q qs h) (All-tail CommandFits q qs fits),
    )

-- ---- the work of a core

no_work_by : (p : Parts) → p.waiting ≡ [] → IsResting (state_of p) → IsNoWork (work_of p) p.stalled
no_work_by p none h =
    let r : p.entry_number ≡ 0 = h.entry_number in
    let entry : p.held_entry ≡ 0 = h.held_entry in
    let content : p.held_data ≡ [] = h.held_data in
    let message : p.message ≡ [] = h.message in
    record { none = rw (none, r, entry, content, message) refl; not_stalled = h.lost }

below_most : (n m : ℕ) → n ≤ m → m ≤ 2 ^ 24 → IsShort n
below_most n m h most = omega (arith, h, most)

most_by : (first last : Bool) (deep : ℕ) → deep ≤ 24 → (if first then 0 else if last then 0 else 2 ^ deep) ≤ 2 ^ 24
most_by true last deep h = omega arith
most_by false true deep h = omega arith
most_by false false deep h = pow-le-pow_right (omega arith) h

map_entry_short : (d : Sizes) (n r : ℕ) → n ≤ most_map_entry d r → IsShort n
map_entry_short d n r h =
    let tree = entry_tree d (r + r % 2) in
    below_most n (most_map_entry d r) h (most_by (r == 0) (r + 1 == 2 * trees_of d) (depth_of d tree) (depth_small d tree))

work_by : (o : ℕ) (p : Parts) (t : ℕ) (xs : List Pending) → p.waiting ≡ xs → length p.waiting ≤ 64 → AllByRecursion (IsSizedPending p.device) p.waiting → IsShort (length p.message)
    → AtWork p.device o (state_of p) (submissions_from t xs) → IsWorkBy p.device None xs (work_of p) p.stalled
work_by o p t [] is few commands message w = no_work_by p is w
work_by o p t (x ∷ xs) is few commands message w = record {
  few = few;
  commands = commands;
  step = w.entry_number;
  entry = map_entry_short p.device p.held_entry p.entry_number w.held_entry;
  held = w.held_data;
  message = message;
}

-- ---- the parts, by why the core failed, if it did

table_by : (o : ℕ) (p : Parts) (f : Option Reason) → IsFitting o p f → length p.table ≡ table_len p.device f
table_by o p None w = w.table.long
table_by o p (Some e) w = ap length w.nothing.table

entries_by : (o : ℕ) (p : Parts) (f : Option Reason) → IsFitting o p f → AllByRecursion IsShort p.table
entries_by o p None w = shorts p.device (trees_of p.device - 1) p.table w.table.map_entries
entries_by o p (Some e) w = subst (AllByRecursion IsShort) (sym w.nothing.table) tt

count_by : (o : ℕ) (p : Parts) (f : Option Reason) → IsFitting o p f → length p.trees ≡ tree_count p.device f
count_by o p None w = w.count
count_by o p (Some e) w = ap length w.nothing.trees

at_work_by : (o : ℕ) (p : Parts) (f : Option Reason) → IsDevice p.device → IsFitting o p f → IsShort (length p.message) → All CommandFits p.waiting → IsWorkBy p.device f p.waiting (work_of p) p.stalled
at_work_by o p None ranges w message fits =
    work_by o p (p.tickets - length p.waiting) p.waiting refl w.waiting.most (sized_pendings p.device p.waiting ranges w.waiting.allowed fits) message w.work
at_work_by o p (Some e) ranges w message fits = no_work_by p w.nothing.waiting w.rests

pub well_sized : (o : ℕ) (p : Parts) → AreParts o p → FitsFields p → IsWellSized p
well_sized o p are fit =
    let ranges = are.sound.ranges in
    let w = fits_of o p are in
    let counts = counted o p are in
    record {
      device = ranges;
      tickets = omega (arith, are.sound.next, ranges.few_lifetime);
      nonce = fit.nonce;
      table = table_by o p p.failure w;
      entries = entries_by o p p.failure w;
      count = count_by o p p.failure w;
      trees = sized_trees p.device 0 p.trees ranges (trees_of_parts o p are) counts.trees fit.roots;
      work = at_work_by o p p.failure ranges w counts.message fit.waiting;
    }

-- ---- the core that a file belongs to

pub saved_as : (text : List ℕ) (o n : ℕ) (p : Parts) (d : Sizes) (s : State) → n ≡ o → p ≡ parts_of d s → state_of p ≡ s → AreParts o p → text ≡ state_file 2 n p → FitsFields p → d.leaf_load ≡ 1 → IsSaved text o d s
saved_as text o n p d s overhead_is same again are spelled fit one =
    let small = are.sound.small in
    record {
      version = 2;
      parts = p;
      file = record { version_known = inr refl; load = ap (λ (q : Parts). q.device.leaf_load) same ∙ one; overhead_fits = omega (arith, small); sized = well_sized o p are fit; spelled = spelled ∙ ap (λ (k : ℕ). state_file 2 k p) overhead_is };
      fits = are;
      device = ap (λ (q : Parts). q.device) (sym same);
      state = sym again;
    }

-- a file is read as the parts of the core
pub read_as : (text : List ℕ) (o : ℕ) (d : Sizes) (s : State) → length text < 2 ^ 64 → (h : IsSaved text o d s) → state_in text ≡ Ok (record { overhead = o; parts = h.parts })
read_as text o d s fits h = state_again text h.version o h.parts fits h.file

read_once : (read : Result Saved StateFault) (x y : Saved) → read ≡ Ok x → read ≡ Ok y → x ≡ y
read_once read x y h k = cc

pub one_core : (text : List ℕ) (o : ℕ) (d d' : Sizes) (s s' : State) → length text < 2 ^ 64 → IsSaved text o d s → IsSaved text o d' s' → (d ≡ d') × (s ≡ s')
one_core text o d d' s s' fits h h' =
    let same : h.parts ≡ h'.parts = ap (λ (x : Saved). x.parts) (read_once (state_in text) _ _ (read_as text o d s fits h) (read_as text o d' s' fits h')) in (
      h.device ∙ ap (λ (p : Parts). p.device) same ∙ sym h'.device,
      h.state ∙ ap state_of same ∙ sym h'.state,
    )

-- ---- the core that fields belong to

pub fields_as : (text : List ℕ) (o n : ℕ) (p : Parts) (d : Sizes) (s : State) → n ≡ o → p ≡ parts_of d s → state_of p ≡ s → AreParts o p → text ≡ fields_text n p → FitsFields p → AreSavedFields text o d s
fields_as text o n p d s overhead_is same again are spelled fit =
    let small = are.sound.small in
    record {
      parts = p;
      fields = record { overhead_fits = omega (arith, small); sized = well_sized o p are fit; spelled = spelled ∙ ap (λ (k : ℕ). fields_text k p) overhead_is };
      fits = are;
      device = ap (λ (q : Parts). q.device) (sym same);
      state = sym again;
    }

pub one_core_bare : (text : List ℕ) (o : ℕ) (d d' : Sizes) (s s' : State) → AreSavedFields text o d s → AreSavedFields text o d' s' → (d ≡ d') × (s ≡ s')
one_core_bare text o d d' s s' h h' =
    let same : h.parts ≡ h'.parts = ap (λ (x : Saved). x.parts) (read_once (saved_in 2 text) _ _ (fields_again_bare text o h.parts h.fields) (fields_again_bare text o h'.parts h'.fields)) in (
      h.device ∙ ap (λ (p : Parts). p.device) same ∙ sym h'.device,
      h.state ∙ ap state_of same ∙ sym h'.state,
    )
