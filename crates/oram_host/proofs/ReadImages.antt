-- A record, a tree and a host are read again as they were written, and where reading each of them
-- fails.
use Rattle.std.proofs.Common.{◌≡◌, ℕ, ◌+◌, ◌-◌, ◌*◌, ◌^◌, ◌<◌, ◌≤◌, ◌⊎◌, inl, inr, Bool, true, false, ltb, leb, List, [], ◌∷◌, ◌++◌, length, Option, Some, None, subst, Ok, Err, refl, sym, ap, ◌∙◌, append_assoc, append-nil, arith}
use Rattle.std.specs.Prelude.{◌&&◌, IfSome, codes}
use Rattle.std.specs.Int.{w32, to_be_bytes}
use Rattle.std.specs.List.{AllByRecursion}
use Rattle.std.specs.Io.KnownBytes.{Consumes, IsAtEnd}
use Rattle.std.proofs.KnownBytes.{Consumes-whole}
use Rattle.std.proofs.lemmas.Bool.{le-leb, le-ltb, leb-true, lt-leb, lt-ltb, ltb-true}
use Rattle.std.proofs.Math.Nat.{pow-le-pow_right}
use Rattle.oram_host.specs.declared.images.ImageFault.{ImageFault}
use Rattle.oram_host.specs.declared.images.ImageFault.TheVariants.{Content, Io, OutOfMemory}
use Rattle.oram_host.specs.Host.{Host, IsHost, IsKept, IsKeptTree, IsRecordOf, IsShape, Kept}
use Rattle.oram_host.specs.Image.{entries_text, image, kept_text, record_text, tree_text}
use Rattle.oram_host.specs.ImageReader.{after_end, after_letters, after_version, fault_number, IsFirstFault, host_in, is_shape, next_byte, next_bytes, next_entries, next_kept, next_number, next_record, next_tree, ◌>>=◌}
use Rattle.oram_host.proofs.FieldReads.{ReadsAgain, bytes_again, entries_again, letters_again, number_again, version_again}
use Rattle.oram_host.proofs.RisingEntries.{few_rising}

both_hold : (a b : Bool) → a ≡ true → b ≡ true → (a && b) ≡ true
both_hold true true p q = refl
both_hold true false p q = q
both_hold false b p q = p

first_fails : (a b : Bool) → a ≡ false → (a && b) ≡ false
first_fails true b p = absurd cc
first_fails false b p = refl

second_fails : (a b : Bool) → b ≡ false → (a && b) ≡ false
second_fails true b p = p
second_fails false b p = refl

-- ---- records

pub record_first : (nodes record_len least : ℕ) (text : List ℕ) (why : ImageFault) → next_number text ≡ Err why → next_record nodes record_len least text ≡ Err why
unfolding next_record
record_first nodes record_len least text why e = rw e refl

pub other_node : (nodes record_len least node : ℕ) (rest : List ℕ) → node < 2 ^ 32 → (node < least) ⊎ ((least ≤ node) × (nodes ≤ node)) → next_record nodes record_len least (to_be_bytes w32 node ++ rest) ≡ Err Content
unfolding next_record
other_node nodes record_len least node rest fits out = rw (number_again node rest fits, test out) refl
  where
    test : (node < least) ⊎ ((least ≤ node) × (nodes ≤ node)) → (leb least node && ltb node nodes) ≡ false
    test (inl below) = first_fails (leb least node) (ltb node nodes) (lt-leb least node below)
    test (inr above) = second_fails (leb least node) (ltb node nodes) (le-ltb node nodes above.1)

node_known : (nodes record_len least node : ℕ) (rest : List ℕ) → node < 2 ^ 32 → least ≤ node → node < nodes
    → next_record nodes record_len least (to_be_bytes w32 node ++ rest) ≡ (next_bytes record_len rest >>= λ bytes. Ok ((node, bytes.0), bytes.1))
unfolding next_record
node_known nodes record_len least node rest fits rises within =
    let test : (leb least node && ltb node nodes) ≡ true = both_hold (leb least node) (ltb node nodes) (le-leb least node rises) (lt-ltb node nodes within) in
    rw (number_again node rest fits, test) refl

pub record_bytes : (nodes record_len least node : ℕ) (rest : List ℕ) (why : ImageFault) → node < 2 ^ 32 → least ≤ node → node < nodes → next_bytes record_len rest ≡ Err why
    → next_record nodes record_len least (to_be_bytes w32 node ++ rest) ≡ Err why
record_bytes nodes record_len least node rest why fits rises within e = node_known nodes record_len least node rest fits rises within ∙ rw e refl

pub record_again : (nodes record_len : ℕ) → nodes ≤ 2 ^ 32 → ReadsAgain (next_record nodes record_len) record_text (IsRecordOf nodes record_len)
record_again nodes record_len wide least e rest rises fits =
    ap (next_record nodes record_len least) (append_assoc (to_be_bytes w32 e.0) e.1 rest) ∙ node_known nodes record_len least e.0 (e.1 ++ rest) (omega (arith, fits.node)) rises fits.node
    ∙ rw (bytes_again e.1 rest record_len fits.whole) refl

-- ---- shapes

pub shape_passes : (depth record_len : ℕ) → IsShape depth record_len → is_shape depth record_len ≡ true
shape_passes depth record_len shape =
    both_hold (leb depth 24 && ltb 0 record_len) (leb ((depth + 1) * record_len + 6) 1048576)
    (both_hold (leb depth 24) (ltb 0 record_len) (le-leb depth 24 shape.deep) (lt-ltb 0 record_len shape.long)) (le-leb ((depth + 1) * record_len + 6) 1048576 shape.fits)

pub both_held : (a b : Bool) → (a && b) ≡ true → (a ≡ true) × (b ≡ true)
both_held true b p = (refl, p)
both_held false b p = absurd cc

pub is_passed : (depth record_len : ℕ) → is_shape depth record_len ≡ true → IsShape depth record_len
is_passed depth record_len passed =
    let outer = both_held (leb depth 24 && ltb 0 record_len) (leb ((depth + 1) * record_len + 6) 1048576) passed in
    let inner = both_held (leb depth 24) (ltb 0 record_len) outer.0 in
    record { deep = leb-true depth 24 inner.0; long = ltb-true 0 record_len inner.1; fits = leb-true ((depth + 1) * record_len + 6) 1048576 outer.1 }

pub shape_fails : (depth record_len : ℕ) → ¬ IsShape depth record_len → is_shape depth record_len ≡ false
shape_fails depth record_len not_shape = tested (is_shape depth record_len) refl
  where
    tested : (b : Bool) → is_shape depth record_len ≡ b → b ≡ false
    tested true e = absurd (not_shape (is_passed depth record_len e))
    tested false e = refl

pub nodes_fit : (depth : ℕ) → depth ≤ 24 → 2 ^ (depth + 1) - 1 < 2 ^ 32
nodes_fit depth deep =
    let most : 2 ^ (depth + 1) ≤ 2 ^ 25 = pow-le-pow_right {n = 2} (omega arith) {i = depth + 1} {j = 25} (omega arith) in
    omega arith

record_len_fits : (depth record_len : ℕ) → IsShape depth record_len → record_len < 2 ^ 32
record_len_fits depth record_len shape =
    let fits : (depth + 1) * record_len + 6 ≤ 1048576 = shape.fits in
    let once : (depth + 1) * record_len ≡ depth * record_len + record_len = omega arith in
    omega arith

-- ---- what is kept of a tree

pub kept_first : (text : List ℕ) (why : ImageFault) → next_byte text ≡ Err why → next_kept text ≡ Err why
unfolding next_kept
kept_first text why e = rw e refl

pub kept_length : (depth : ℕ) (rest : List ℕ) (why : ImageFault) → next_number rest ≡ Err why → next_kept ((depth ∷ []) ++ rest) ≡ Err why
unfolding next_kept next_byte
kept_length depth rest why e = rw e refl

pub kept_misshaped : (depth record_len : ℕ) (rest : List ℕ) → record_len < 2 ^ 32 → ¬ IsShape depth record_len → next_kept (((depth ∷ []) ++ to_be_bytes w32 record_len) ++ rest) ≡ Err Content
unfolding next_kept next_byte
kept_misshaped depth record_len rest fits not_shape = rw (number_again record_len rest fits, shape_fails depth record_len not_shape) refl

shape_known : (depth record_len : ℕ) (rest : List ℕ) → IsShape depth record_len
    → next_kept (((depth ∷ []) ++ to_be_bytes w32 record_len) ++ rest)
    ≡ (next_entries (2 ^ (depth + 1) - 1) (next_record (2 ^ (depth + 1) - 1) record_len) rest >>= λ records. Ok (record { depth = depth; record_len = record_len; records = records.0 }, records.1))
unfolding next_kept next_byte
shape_known depth record_len rest shape = rw (number_again record_len rest (record_len_fits depth record_len shape), shape_passes depth record_len shape) refl

pub kept_records : (depth record_len : ℕ) (rest : List ℕ) (why : ImageFault) → IsShape depth record_len → next_entries (2 ^ (depth + 1) - 1) (next_record (2 ^ (depth + 1) - 1) record_len) rest ≡ Err why
    → next_kept (((depth ∷ []) ++ to_be_bytes w32 record_len) ++ rest) ≡ Err why
kept_records depth record_len rest why shape e = shape_known depth record_len rest shape ∙ rw e refl

below_nodes : (nodes record_len : ℕ) (es : List (ℕ × List ℕ)) → AllByRecursion (IsRecordOf nodes record_len) es → AllByRecursion (λ e. e.0 < nodes) es
below_nodes nodes record_len [] all = tt
below_nodes nodes record_len (e ∷ es) all = (all.0.node, below_nodes nodes record_len es all.1)

kept_again : (kept : Kept) (rest : List ℕ) → IsKept kept → next_kept (kept_text kept ++ rest) ≡ Ok (kept, rest)
kept_again kept rest is_kept =
    let nodes = 2 ^ (kept.depth + 1) - 1 in
    let fits : nodes < 2 ^ 32 = nodes_fit kept.depth is_kept.shape.deep in
    let few : length kept.records ≤ nodes = omega (arith, few_rising kept.records 0 nodes is_kept.rising (below_nodes nodes kept.record_len kept.records is_kept.each) (omega arith)) in
    ap next_kept (append_assoc ((kept.depth ∷ []) ++ to_be_bytes w32 kept.record_len) (entries_text record_text kept.records) rest)
    ∙ shape_known kept.depth kept.record_len (entries_text record_text kept.records ++ rest) is_kept.shape
    ∙ rw (entries_again nodes (next_record nodes kept.record_len) record_text (IsRecordOf nodes kept.record_len) (record_again nodes kept.record_len (omega arith)) kept.records rest (omega arith) few is_kept.rising is_kept.each) refl

-- ---- trees

pub tree_first : (least : ℕ) (text : List ℕ) (why : ImageFault) → next_byte text ≡ Err why → next_tree least text ≡ Err why
unfolding next_tree
tree_first least text why e = rw e refl

pub other_tree : (least number : ℕ) (rest : List ℕ) → number < least → next_tree least ((number ∷ []) ++ rest) ≡ Err Content
unfolding next_tree next_byte
other_tree least number rest below = rw (lt-leb least number below) refl

pub tree_kept : (least number : ℕ) (rest : List ℕ) (why : ImageFault) → least ≤ number → next_kept rest ≡ Err why → next_tree least ((number ∷ []) ++ rest) ≡ Err why
unfolding next_tree next_byte
tree_kept least number rest why rises e = rw (le-leb least number rises, e) refl

pub tree_again : ReadsAgain next_tree tree_text IsKeptTree
unfolding next_tree next_byte
tree_again least e rest rises fits = rw (le-leb least e.0 rises, kept_again e.1 rest fits.kept) refl

-- ---- hosts

pub host_first : (text : List ℕ) (why : ImageFault) → after_letters text ≡ Err why → host_in text ≡ Err why
unfolding host_in
host_first text why e = rw e refl

pub host_version : (rest : List ℕ) (why : ImageFault) → after_version rest ≡ Err why → host_in (codes "ORAMHOST" ++ rest) ≡ Err why
unfolding host_in
host_version rest why e = rw (letters_again rest, e) refl

pub host_trees : (rest : List ℕ) (why : ImageFault) → next_entries 256 next_tree rest ≡ Err why → host_in ((codes "ORAMHOST" ++ to_be_bytes w32 1) ++ rest) ≡ Err why
unfolding host_in
host_trees rest why e = rw (letters_again (to_be_bytes w32 1 ++ rest), version_again rest, e) refl

kept_numbers : (host : Host) → AllByRecursion IsKeptTree host → AllByRecursion (λ e. e.0 < 256) host
kept_numbers [] all = tt
kept_numbers (e ∷ es) all = (all.0.number, kept_numbers es all.1)

host_known : (host : Host) (rest : List ℕ) → IsHost host → host_in (image host ++ rest) ≡ (after_end rest >>= λ _. Ok host)
unfolding host_in
host_known host rest is_host =
    let few : length host ≤ 256 = omega (arith, few_rising host 0 256 is_host.rising (kept_numbers host is_host.each) (omega arith)) in
    let trees : next_entries 256 next_tree (entries_text tree_text host ++ rest) ≡ Ok (host, rest) = entries_again 256 next_tree tree_text IsKeptTree tree_again host rest (omega arith) few is_host.rising is_host.each in
    ap host_in (append_assoc (codes "ORAMHOST" ++ to_be_bytes w32 1) (entries_text tree_text host) rest)
    ∙ rw (letters_again (to_be_bytes w32 1 ++ (entries_text tree_text host ++ rest)), version_again (entries_text tree_text host ++ rest), trees) refl

pub host_longer : (host : Host) (rest : List ℕ) (why : ImageFault) → IsHost host → after_end rest ≡ Err why → host_in (image host ++ rest) ≡ Err why
host_longer host rest why is_host e = host_known host rest is_host ∙ rw e refl

-- the image of a host is read as that host
pub host_again : (host : Host) → IsHost host → host_in (image host) ≡ Ok host
unfolding after_end
host_again host is_host = ap host_in (sym (append-nil (image host))) ∙ host_known host [] is_host

-- an image that was read to its end is that of one host
pub one_host : (a b : Option (List ℕ)) (loaded host : Host) → Consumes a b (image loaded) → IsAtEnd b → IsHost loaded → IsHost host → a ≡ Some (image host) → loaded ≡ host
one_host a b loaded host consumed ended loaded_is host_is held =
    let read : IfSome a (λ text. host_in text ≡ Ok loaded) = Consumes-whole a b (image loaded) (λ text. host_in text ≡ Ok loaded) consumed ended (host_again loaded loaded_is) in
    let P : Option (List ℕ) → Type 0 = λ known. IfSome known (λ text. host_in text ≡ Ok loaded) in
    let same : host_in (image host) ≡ Ok loaded = subst P held read in
    let again : host_in (image host) ≡ Ok host = host_again host host_is in
    cc

-- the image of a host has no fault
no_fault_known : (a : Option (List ℕ)) (host : Host) (why : ImageFault) → IsHost host → a ≡ Some (image host) → IfSome a (λ text. host_in text ≡ Err why) → ⊥
no_fault_known a host why host_is held h =
    let P : Option (List ℕ) → Type 0 = λ known. IfSome known (λ text. host_in text ≡ Err why) in
    let fails : host_in (image host) ≡ Err why = subst P held h in
    let again : host_in (image host) ≡ Ok host = host_again host host_is in
    cc

pub no_fault : (why : ImageFault) (a : Option (List ℕ)) (host : Host) → IsHost host → a ≡ Some (image host) → IsFirstFault host_in why a → fault_number why ≡ None
no_fault Io a host host_is held h = refl
no_fault OutOfMemory a host host_is held h = refl
no_fault why a host host_is held h = absurd (no_fault_known a host why host_is held h)
