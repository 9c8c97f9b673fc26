-- The answer to the FETCH of a read: the path is checked, the block is put on it, and it is stored.
use Rattle.std.proofs.Common.{◌≡◌, ◌⊎◌, ℕ, zero, suc, ◌+◌, ◌*◌, ◌/◌, ◌-◌, ◌^◌, ◌<◌, ◌≤◌, arith, None, Some, false, true, List, [], ◌∷◌, length, replicate, slice_index_or, slice_set, Ok, Err, refl, sym, ap, ◌∙◌, subst, inl, inr}
use Rattle.std.specs.Prelude.{Contains, Result}
use Rattle.std.proofs.lemmas.List.Elements.{All-cons, All-nil}
use Rattle.std.proofs.lemmas.List.Sorted.{IsPermutation-refl}
use Rattle.sha2.specs.Sha256.{sha256}
use Rattle.oram_geometry.specs.Least.{least_from}
use Rattle.oram_geometry.specs.Sizes.{blocks_in, depth_of, level_for, trees_of}
use Rattle.oram_bucket.specs.Bucket.{IsBlockOf, spelling}
use Rattle.oram_bucket.specs.Cell.{Cell, IsRising}
use Rattle.oram_bucket.specs.SealedBlocks.{Reads}
use Rattle.oram_hash.specs.Path.{IsAccepted, Path, expected, path_of, record_at, with_bytes}
use Rattle.oram_hash.specs.Record.{HoldsDigests, left_digest, no_digest, right_digest, sealed_part}
use Rattle.oram_hash.specs.Rebuild.{IsRebuilt, StandsRebuilt}
use Rattle.oram_hash.specs.Tree.{IsPathOf}
use Rattle.oram_hash.specs.declared.HashFault.{HashFault}
use Rattle.oram_hash.specs.declared.HashFault.TheVariants as fault
use Rattle.oram_hash.proofs.Checks.{accepted_matches}
use Rattle.oram_hash.proofs.Rebuilds.{rebuilt_stands}
use Rattle.oram_tree.specs.Access.{IsLookup, IsNear, IsReadable, IsRewritten, IsUpdate, IsWaiting, Rewriting}
use Rattle.oram_tree.specs.Content.{Holds}
use Rattle.oram_tree.specs.State.{State as Tree}
use Rattle.oram_tree.proofs.Content.{reads_uniquely}
use Rattle.oram_tree.proofs.Rewrites.{updated}
use Rattle.oram_semantics.specs.Answers.{Outcome}
use Rattle.oram_semantics.specs.Blocks.{block_after, next_map_entry}
use Rattle.oram_semantics.specs.Content.{block_of, entry_tree, new_leaf}
use Rattle.oram_semantics.specs.Messages.{requested}
use Rattle.oram_semantics.specs.Moves.{Fits, Moves, MovesTo, on_answer, shows_in, stores}
use Rattle.oram_semantics.specs.Progress.Status.{Waiting}
use Rattle.oram_semantics.specs.Scheme.{record_len}
use Rattle.oram_semantics.specs.State.{World, no_tree}
use Rattle.oram_semantics.specs.declared.events.Event.TheVariants.{Answer}
use Rattle.oram_semantics.specs.declared.events.Note.TheVariants.{Taken}
use Rattle.oram_core.specs.AnswerMeaning.{IsChecked, IsVerdict, LooksUp, path_now, tree_now}
use Rattle.oram_core.specs.PlainSteps.{Done, is_misled, stored_by}
use Rattle.oram_core.specs.Steps.{Steps}
use Rattle.oram_core.proofs.Accesses.{IsReadyTree, ready_tree}
use Rattle.oram_core.proofs.AnswerVerdicts.{IsTreeAt, path_means, path_stands}
use Rattle.oram_core.proofs.LocalRule.{Waits}
use Rattle.oram_core.proofs.Quiet.{Meets}
use Rattle.oram_core.proofs.Sound.{requested_fetch, at_hand}
use Rattle.oram_core.proofs.TakenPaths.{IsAccess, stores_met}
use Rattle.oram_link_laws.specs.Examples.{one_block}
use Rattle.oram_link_laws.proofs.Device.{eighty_eight, is_device, no_depth, one_tree}
use Rattle.oram_rounds.specs.ReadingExample.{one_read, reading_core, shown_in}
use Rattle.oram_process_laws.specs.WholeExample.{fetched_core, stored, stored_record}
use Rattle.oram_rounds.proofs.Example.{first_leaf}
use Rattle.oram_rounds.proofs.ReadingCore.{message_is, sound}

abbrev pub zeros : List ℕ
zeros = replicate 88 0

-- the only path of the tree of one node, with these bytes
abbrev pub path : List ℕ → Path
path bytes = record { depth = 0; leaf = 0; record_len = 88; bytes = bytes }

pub zeros_at : record_at (path zeros) 0 ≡ zeros
unfolding record_at
zeros_at = refl

stored_at : record_at (path stored_record) 0 ≡ stored_record
unfolding record_at
stored_at = refl

-- what the two buckets hold

abbrev cell : Cell
cell = record { address = 0; leaf = 0; content = replicate 16 0 }

abbrev reads : List ℕ → List Cell → Type 0
reads = Reads one_block.cipher.opening one_block.device 0

empty_part : sealed_part zeros ≡ spelling one_block.device []
unfolding sealed_part spelling
empty_part = refl

full_part : sealed_part stored_record ≡ spelling one_block.device (cell ∷ [])
unfolding sealed_part spelling
full_part = refl

none_rising : IsRising []
none_rising = λ i j d lt within. absurd (omega (arith, within))

one_rising : IsRising (cell ∷ [])
one_rising = λ i j d lt within. absurd (omega (arith, lt, within))

reads_none : reads (sealed_part zeros) []
reads_none = record {
  plain = sealed_part zeros;
  opens = refl;
  spelled = record { bucket = record { within = omega arith; rising = none_rising; blocks = All-nil _ }; spelled = empty_part };
}

one_address : 1 ≡ blocks_in one_block.device 0
unfolding blocks_in
one_address = refl

is_block : IsBlockOf one_block.device 0 cell
is_block = record { address_in = omega (arith, one_address); leaf_in = first_leaf; whole = refl }

reads_block : reads (sealed_part stored_record) (cell ∷ [])
reads_block = record {
  plain = sealed_part stored_record;
  opens = refl;
  spelled = record {
    bucket = record { within = omega arith; rising = one_rising; blocks = All-cons (IsBlockOf one_block.device 0) cell [] is_block (All-nil _) };
    spelled = full_part;
  };
}

-- no block is near

no_element : (cells : List Cell) (c : Cell) → cells ≡ [] → Contains cells c → ⊥
no_element cells c none k = omega (arith, k.1, ap length none)

root_empty : (c : Cell) → Holds reads zeros c → ⊥
root_empty c there =
    no_element there.0 c (reads_uniquely one_block.cipher.opening one_block.device 0 is_device (sealed_part zeros) there.0 [] there.1 reads_none) there.2

abbrev near : Cell → Type 0
near = IsNear reads (path zeros) []

none_near : (c : Cell) → near c → ⊥
none_near c (inl k) = no_element [] c refl k
none_near c (inr at) =
    let first : 0 ≡ at.0 = omega (arith, at.1) in
    let P : ℕ → Type 0 = λ l. Holds reads (record_at (path zeros) l) c in
    root_empty c (subst (λ (bytes : List ℕ). Holds reads bytes c) zeros_at (subst P (sym first) at.2))

looked : IsLookup near 16 0 false (replicate 16 0)
looked = record { present = λ found. absurd (let no_way : false ≡ true = found in cc); absent = λ none. (λ c there same. none_near c there, refl) }

readable : IsReadable reads (path zeros) []
readable = record {
  readable = λ level low.
      (let first : 0 ≡ level = omega (arith, low) in
      let P : ℕ → Type 0 = λ l. (cells : List Cell) × reads (sealed_part (record_at (path zeros) l)) cells in
      subst P first ([], subst (λ (bytes : List ℕ). reads (sealed_part bytes) []) (sym zeros_at) reads_none));
  once_on_path = λ i k c d low high here there same. omega (arith, low, high);
  once_in_all = λ i c d low here k same. no_element [] d refl k;
}

-- the block goes to the root

only : (c d : Cell) → Contains (c ∷ []) d → d ≡ c
only c d k =
    let first : k.0 ≡ 0 = omega (arith, k.1) in
    let P : ℕ → Cell = λ n. slice_index_or (c ∷ []) n d in
    sym (ap P (sym first) ∙ k.2)

waits_alone : IsWaiting near cell (cell ∷ [])
waits_alone d = (λ k. inl (only cell d k), λ either. elim either [ inl same ↦ (0, omega arith, sym same) | inr other ↦ absurd (none_near d other.0) ])

abbrev lists : List (List Cell)
lists = (cell ∷ []) ∷ []

meets : (l : ℕ) (b : Cell) → Contains (slice_index_or lists l []) b → 0 / 2 ^ (0 - l) ≡ b.leaf / 2 ^ (0 - l)
meets zero b k = ap (λ (c : Cell). c.leaf / 2 ^ (0 - 0)) (sym (only cell b k))
meets (suc l) b k = absurd (no_element [] b refl k)

within : (l : ℕ) → length (slice_index_or lists l []) ≤ 1
within zero = omega arith
within (suc l) = omega arith

rising : (l : ℕ) → IsRising (slice_index_or lists l [])
rising zero = one_rising
rising (suc l) = none_rising

nearer : (l : ℕ) (b : Cell) → l ≤ 0 → Contains [] b ⊎ ((k : ℕ) × (k < l) × Contains (slice_index_or lists k []) b) → ⊥
nearer l b low (inl k) = no_element [] b refl k
nearer l b low (inr at) = omega (arith, low, at.1)

abbrev rewriting : ℕ → Path → Rewriting
rewriting i p = record { device = one_block.device; tree = i; cipher = one_block.cipher; path = p; nonce = 1 }

rewritten : IsRewritten (rewriting 0 (path zeros)) [] (path stored_record) cell []
rewritten = record {
  waiting = cell ∷ [];
  lists = lists;
  rising = one_rising;
  waits = waits_alone;
  evicted = record {
    placement = record { levels = refl; on_path = meets; within = within; each_once = IsPermutation-refl (cell ∷ []) };
    greedy = record {
      rising = rising;
      full = λ l b low meets there. absurd (nearer l b low there);
      least = λ l b low meets there. absurd (nearer l b low there);
    };
    rising = none_rising;
  };
  sealed = λ level low.
      (let first : 0 ≡ level = omega (arith, low) in
      let P : ℕ → Type 0 = λ l. sealed_part (record_at (path stored_record) l) ≡ spelling one_block.device (slice_index_or lists l []) in
      subst P first (ap sealed_part stored_at ∙ full_part));
  read_back = λ level low.
      (let first : 0 ≡ level = omega (arith, low) in
      let P : ℕ → Type 0 = λ l. reads (sealed_part (record_at (path stored_record) l)) (slice_index_or lists l []) in
      subst P first (subst (λ (bytes : List ℕ). reads (sealed_part bytes) (cell ∷ [])) (sym stored_at) reads_block));
}

left_end : left_digest stored_record ≡ no_digest
unfolding left_digest
left_end = refl

right_end : right_digest stored_record ≡ no_digest
unfolding right_digest
right_end = refl

rebuilt : IsRebuilt (path zeros) (sealed_part stored_record ∷ []) stored_record (sha256 stored_record)
rebuilt = record {
  whole = refl;
  sealed = λ level low.
      (let first : 0 ≡ level = omega (arith, low) in
      let P : ℕ → Type 0 = λ l. sealed_part (record_at (path stored_record) l) ≡ slice_index_or (sealed_part stored_record ∷ []) l [] in
      subst P first (ap sealed_part stored_at));
  linked = record {
    lengths = λ level low.
        (let first : 0 ≡ level = omega (arith, low) in let P : ℕ → Type 0 = λ l. length (record_at (path stored_record) l) ≡ 88 in subst P first (ap length stored_at));
    left = λ level low. absurd (omega (arith, low));
    right = λ level low. absurd (omega (arith, low));
    last = subst (λ (bytes : List ℕ). HoldsDigests bytes no_digest no_digest) (sym stored_at) (record { left_held = left_end; right_held = right_end });
  };
  top = ap sha256 (sym stored_at);
}

stands : StandsRebuilt (path zeros) stored_record (sha256 stored_record)
stands = rebuilt_stands (path zeros) (sealed_part stored_record ∷ []) stored_record (sha256 stored_record) (omega arith) rebuilt

root_expected : sha256 zeros ≡ expected (path zeros) (sha256 zeros) 0
unfolding expected
root_expected = refl

accepted : IsAccepted (path zeros) (sha256 zeros)
accepted = record {
  whole = refl;
  genuine = λ level low.
      (let first : 0 ≡ level = omega (arith, low) in
      let P : ℕ → Type 0 = λ l. sha256 (record_at (path zeros) l) ≡ expected (path zeros) (sha256 zeros) l in
      subst P first (ap sha256 zeros_at ∙ root_expected));
}

-- the same, of the path that the core has fetched

abbrev tree : ℕ
tree = entry_tree one_block.device 0

first_tree : 0 ≡ tree
first_tree = omega (arith, one_tree)

depth_is : 0 ≡ depth_of one_block.device tree
depth_is = no_depth ∙ ap (depth_of one_block.device) first_tree

pub leaf_is : 0 ≡ (requested reading_core.message).leaf
leaf_is = sym (ap (λ (m : List ℕ). (requested m).leaf) message_is ∙ ap (λ e. e.leaf) (requested_fetch 0 0 (omega arith)))

abbrev fetched : Path
fetched = path_now one_block reading_core zeros

path_is : path zeros ≡ fetched
path_is = λ k. record { depth = depth_is k; leaf = leaf_is k; record_len = eighty_eight k; bytes = zeros }

abbrev old_tree : Tree
old_tree = record { number = 0; root = sha256 zeros; stash = [] }

abbrev new_tree : Tree
new_tree = record { number = 0; root = sha256 stored_record; stash = [] }

tree_is : old_tree ≡ tree_now one_block reading_core
tree_is = ap (λ (i : ℕ). slice_index_or reading_core.trees i no_tree) first_tree

block_is : 0 ≡ block_of one_block.device tree one_read
block_is = ap (λ (i : ℕ). block_of one_block.device i one_read) first_tree

zero_leaf : 0 ≡ new_leaf one_block.device 0 one_read
unfolding level_for blocks_in least_from
zero_leaf = refl

zero_content : replicate 16 0 ≡ block_after one_block.device 0 one_read (replicate 16 0)
unfolding block_after
zero_content = refl

abbrev changed : Cell
changed = record { address = block_of one_block.device tree one_read; leaf = new_leaf one_block.device tree one_read; content = block_after one_block.device tree one_read (replicate 16 0) }

cell_is : cell ≡ changed
cell_is =
    let leaf : 0 ≡ new_leaf one_block.device tree one_read = zero_leaf ∙ ap (λ (i : ℕ). new_leaf one_block.device i one_read) first_tree in
    let content : replicate 16 0 ≡ block_after one_block.device tree one_read (replicate 16 0) =
    zero_content ∙ ap (λ (i : ℕ). block_after one_block.device i one_read (replicate 16 0)) first_tree in
    λ k. record { address = block_is k; leaf = leaf k; content = content k }

accepted_now : IsAccepted fetched (tree_now one_block reading_core).root
accepted_now = subst (λ (p : Path). IsAccepted p (tree_now one_block reading_core).root) path_is (subst (λ (t : Tree). IsAccepted (path zeros) t.root) tree_is accepted)

leaf_in : fetched.leaf < 2 ^ fetched.depth
leaf_in = subst (λ (p : Path). p.leaf < 2 ^ p.depth) path_is (omega arith)

abbrev passed : Result (Unit {0}) HashFault
passed = Ok tt

checked : IsChecked one_block reading_core zeros passed
checked = record {
  accepted = (λ ok. accepted_now, λ is. refl);
  short = (λ e. absurd (let no_way : passed ≡ Err fault.Length = e in cc), λ other. absurd (other accepted_now.whole));
  tampered = λ level. (
    λ e. absurd (let no_way : passed ≡ Err (fault.Tampered level) = e in cc),
    λ spoilt. absurd (spoilt.forged (accepted_now.genuine level spoilt.within)),
  );
  judged = λ records is. accepted_matches fetched (tree_now one_block reading_core).root records leaf_in is accepted_now;
}

-- the core finds the answer good

not_astray : is_misled one_block reading_core one_read false (replicate 16 0) ≡ false
unfolding trees_of blocks_in least_from
not_astray = refl

looks_up : LooksUp one_block reading_core fetched false
looks_up =
    let R : ℕ → Path → List Cell → Type 0 = λ i p stash. IsReadable (Reads one_block.cipher.opening one_block.device i) p stash in
    let L : ℕ → Path → List Cell → ℕ → Type 0 = λ i p stash a. IsLookup (IsNear (Reads one_block.cipher.opening one_block.device i) p stash) 16 a false (replicate 16 0) in
    let stash : [] ≡ (tree_now one_block reading_core).stash = ap (λ (t : Tree). t.stash) tree_is in
    record {
      readable = subst (R tree fetched) stash (subst (λ (p : Path). R tree p []) path_is (subst (λ (i : ℕ). R i (path zeros) []) first_tree readable));
      oldest = one_read;
      rest = [];
      queue = refl;
      found = false;
      before = replicate 16 0;
      lookup = subst (L tree fetched (tree_now one_block reading_core).stash) block_is
          (subst (λ (s : List Cell). L tree fetched s 0) stash (subst (λ (p : Path). L tree p [] 0) path_is (subst (λ (i : ℕ). L i (path zeros) [] 0) first_tree looked)));
      led = not_astray;
    }

good : IsVerdict one_block reading_core (128 ∷ zeros) Taken
good = record {
  fetched = λ even. record { records = zeros; answer = refl; accepted = accepted_now; leads = looks_up };
  stored = λ odd. absurd (omega (arith, odd));
}

-- the access, in each world that the core fits

abbrev waits_now : Waits reading_core
waits_now = record { oldest = one_read; rest = []; queue = refl; healthy = refl; calm = refl }

tree_at : IsTreeAt one_block reading_core old_tree
tree_at = record { is = tree_is; number = first_tree; blocks = All-nil _ }

long : length stored_record ≡ (depth_of one_block.device tree + 1) * record_len one_block
long =
    let P : ℕ → ℕ → Type 0 = λ d len. 88 ≡ (d + 1) * len in
    subst (λ (d : ℕ). P d (record_len one_block)) depth_is (subst (P 0) eighty_eight refl)

stored_is :
    stored_by one_block (record reading_core { trees = slice_set reading_core.trees tree new_tree }) one_read (replicate 16 0) stored_record ≡ stored
unfolding trees_of blocks_in level_for least_from requested next_map_entry
stored_is = refl

module _ (w : World) (fits : Fits one_block reading_core w) (apart : shows_in one_block reading_core w (Answer (128 ∷ zeros)) ≡ false) where
  update : IsUpdate (record { device = one_block.device; cipher = one_block.cipher; path = fetched; written = with_bytes fetched stored_record; records = w.records tree; content = w.content tree; block = changed; found = false; before = replicate 16 0; after = new_tree })
  update =
      let ready : IsReadyTree one_block reading_core w one_read old_tree = ready_tree one_block reading_core w old_tree waits_now sound refl fits tree_at in
      let on_path : IsPathOf (w.records tree) fetched = path_stands one_block reading_core w zeros tt passed sound refl refl fits apart checked refl in
      let leaf : ℕ = (requested reading_core.message).leaf in
      let here : fetched ≡ path_of one_block.device 0 leaf 0 zeros = sym (ap (λ (i : ℕ). path_of one_block.device i leaf 0 zeros) first_tree) in
      let T : Path → Cell → Type 0 = λ p c. IsRewritten (rewriting 0 p) [] (with_bytes p stored_record) c [] in
      let L : Path → ℕ → Type 0 = λ p a. IsLookup (IsNear reads p []) 16 a false (replicate 16 0) in
      updated one_block.cipher 1 leaf one_block.device fetched stored_record old_tree (sha256 stored_record) []
      (w.records tree) (w.content tree) changed false (replicate 16 0) is_device here
      (subst (λ (n : ℕ). n < 2 ^ depth_of one_block.device 0) leaf_is first_leaf)
      ready.stored on_path ready.at_leaf
      (subst (L fetched) block_is (subst (λ (p : Path). L p 0) path_is looked))
      (subst (T fetched) cell_is (subst (λ (p : Path). T p cell) path_is rewritten))
      (subst (λ (p : Path). StandsRebuilt p stored_record (sha256 stored_record)) path_is stands)

  access : IsAccess one_block reading_core w one_read fetched new_tree false (replicate 16 0) stored_record
  access =
      let T : ℕ → Path → List Cell → Cell → Type 0 = λ i p stash c. IsRewritten (rewriting i p) stash (with_bytes p stored_record) c [] in
      let stash : [] ≡ (tree_now one_block reading_core).stash = ap (λ (t : Tree). t.stash) tree_is in
      record {
        number = first_tree;
        path_is = refl;
        long = long;
        rewritten = subst (T tree fetched (tree_now one_block reading_core).stash) cell_is
            (subst (λ (s : List Cell). T tree fetched s cell) stash (subst (λ (p : Path). T tree p [] cell) path_is (subst (λ (i : ℕ). T i (path zeros) [] cell) first_tree rewritten)));
        update = update;
      }

  moves : Moves one_block reading_core w (Answer (128 ∷ zeros)) (shown_in stored) fetched_core
  moves =
      let met : Meets one_block reading_core w (stores one_block reading_core w one_read) stored =
      subst (λ (d : Done). Meets one_block reading_core w (stores one_block reading_core w one_read) d) stored_is
      (stores_met one_block reading_core w one_read fetched new_tree false (replicate 16 0) stored_record sound refl
      (at_hand one_block.device 0 reading_core one_read [] sound refl refl) (fits refl).0 access) in
      subst (λ (o : Outcome). MovesTo one_block reading_core w (on_answer one_block reading_core w Waiting o) (shown_in stored) fetched_core)
      (sym (path_means one_block reading_core w zeros passed sound refl refl fits apart checked)) met

pub takes_path : Steps one_block reading_core (Answer (128 ∷ zeros)) (shown_in stored) fetched_core
takes_path = record {
  plain = λ d is. absurd (let none : None ≡ Some d = is in cc);
  heard = λ bytes is waits other. inr (inl (record {
    note = refl;
    replies = refl;
    sends = refl;
    queue = refl;
    waits = refl;
    next = refl;
    entry_number = refl;
    within = omega (arith, one_tree);
    fetched = λ odd. absurd (omega (arith, odd));
  }));
  verdict = λ bytes is waits other.
      let same : 128 ∷ zeros ≡ bytes = (let both : Answer (128 ∷ zeros) ≡ Answer bytes = is in cc) in
      subst (λ (b : List ℕ). IsVerdict one_block reading_core b Taken) same good;
  moves = moves;
}
