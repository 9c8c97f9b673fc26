-- A link tells of each near record that differs from those that were kept last, whatever STOREs have come since.
use Rattle.std.proofs.Common.{◌≡◌, ℕ, zero, suc, ◌+◌, ◌-◌, ◌*◌, ◌/◌, ◌%◌, ◌<◌, ◌==◌, arith, Bool, true, false, List, [], ◌∷◌, ◌++◌, length, drop, get_or, get_or-take, refl, sym, ap, ◌∙◌, subst}
use Rattle.std.specs.List.{Contains, FoldsTo, range_with_len}
use Rattle.std.specs.Prelude.{MatchBool, slice_index_or}
use Rattle.std.proofs.Math.Nat.{mod-add-div', mod-lt}
use Rattle.std.proofs.lemmas.List.{get_or-drop, length-map}
use Rattle.std.proofs.lemmas.List.Elements.{Contains-append_left, Contains-append_right, Contains-get_or}
use Rattle.std.proofs.lemmas.List.FromFn.{get_or-map-range_with_len, length-range_with_len}
use Rattle.oram_geometry.specs.Path.{node_on}
use Rattle.oram_geometry.specs.Sizes.{depth_of}
use Rattle.oram_geometry.specs.declared.Sizes.{Sizes}
use Rattle.oram_host.specs.Path.{record_at}
use Rattle.oram_rounds.specs.LinkNotes.{DifferInRecords, IsByteOf}
use Rattle.oram_near.specs.Near.{AreNoted, DifferAtMost, Near, StoresNear, nothing_noted, path_nodes}
use Rattle.oram_near.specs.NearCalls.{TakesNear}
use Rattle.oram_near.specs.PathRequests.{FetchPath, PathRequest, StorePath}

-- a node of a path's top levels is one of those
on_path : (depth leaf levels level : ℕ) → level < levels → Contains (path_nodes depth leaf levels) (node_on depth leaf level)
on_path depth leaf levels level low =
    let all : List ℕ = range_with_len 0 levels in
    let count : length (path_nodes depth leaf levels) ≡ levels = length-map all (node_on depth leaf) ∙ length-range_with_len 0 levels in
    let is : get_or (path_nodes depth leaf levels) level 0 ≡ node_on depth leaf level = get_or-map-range_with_len (node_on depth leaf) 0 levels level level 0 low (let e : 0 + level ≡ level = omega arith in e) in
    subst (Contains (path_nodes depth leaf levels)) is (Contains-get_or (path_nodes depth leaf levels) level 0 (omega (arith, low, count)))

-- the note of a STORE
stored_noted : (depth leaf : ℕ) (path first : List ℕ) (old new : Near) → StoresNear depth leaf path old new → AreNoted first old → AreNoted first new
stored_noted depth leaf path first old new stores noted exact =
    let before = stores.noted exact in
    let was = noted before.0 in
    let nodes : List ℕ = path_nodes depth leaf old.levels in
    let among : (node : ℕ) → (Contains new.noted.nodes node → ⊥) → Contains (old.noted.nodes ++ nodes) node → ⊥ =
    λ node out h. out (subst (λ (ns : List ℕ). Contains ns node) (sym before.1) h) in
    let others : (node : ℕ) → (Contains new.noted.nodes node → ⊥) → record_at old.record_len new.bytes node ≡ record_at old.record_len first node =
    λ node out. stores.records.others node (λ level low same. among node out (subst (Contains (old.noted.nodes ++ nodes)) (sym same)
    (Contains-append_right old.noted.nodes nodes (node_on depth leaf level) (on_path depth leaf old.levels level low))))
    ∙ was.others node (λ h. among node out (Contains-append_left old.noted.nodes nodes node h)) in
    record {
      long = stores.records.long ∙ was.long;
      others = λ node out. subst (λ (len : ℕ). record_at len new.bytes node ≡ record_at len first node) (sym stores.record_len) (others node out);
    }

taken_noted : (d : Sizes) (first : List ℕ) (request : PathRequest) (old new : Near) → TakesNear d old request new → AreNoted first old → AreNoted first new
taken_noted d first (FetchPath tree leaf) old new takes noted = subst (AreNoted first) (sym takes) noted
taken_noted d first (StorePath tree leaf records) old new takes noted = by (tree == 0) takes
  where
    by : (b : Bool) → MatchBool b (StoresNear (depth_of d 0) leaf records old new) (new ≡ old) → AreNoted first new
    by true stores = stored_noted (depth_of d 0) leaf records first old new stores noted
    by false same = subst (AreNoted first) (sym same) noted

-- the note of a batch's STOREs
pub batch_noted : (d : Sizes) (first : List ℕ) (requests : List PathRequest) (old new : Near) → FoldsTo {P = Near} (TakesNear d) old requests new → AreNoted first old → AreNoted first new
batch_noted d first [] old new takes noted = subst (AreNoted first) takes noted
batch_noted d first (request ∷ requests) old new takes noted = batch_noted d first requests takes.0 new takes.2 (taken_noted d first request old takes.0 takes.1 noted)

-- a byte of a record
byte_in : (len node r : ℕ) (bytes : List ℕ) → r < len → get_or (record_at len bytes node) r 0 ≡ get_or bytes (node * len + r) 0
byte_in len node r bytes low =
    let wide : (node + 1) * len - node * len ≡ len = omega arith in
    get_or-take ((node + 1) * len - node * len) (drop (node * len) bytes) r 0 (omega (arith, low, wide)) ∙ get_or-drop (node * len) bytes r 0

-- records that differ in some nodes at most differ in the bytes of those records at most
pub bytes_differ : (len : ℕ) (nodes old new : List ℕ) → 0 < len → DifferAtMost len nodes old new → DifferInRecords len nodes old new
bytes_differ zero nodes old new some d = absurd (omega (arith, some))
bytes_differ (suc k) nodes old new some d = record { long = d.long; others = same }
  where
    len : ℕ
    len = suc k

    same : (x : ℕ) → ((i : ℕ) → Contains nodes i → IsByteOf len i x → ⊥) → slice_index_or new x 0 ≡ slice_index_or old x 0
    same x out =
        let q : ℕ = x / len in
        let r : ℕ = x % len in
        let sum : r + q * len ≡ x = mod-add-div' x len in
        let is : q * len + r ≡ x = omega (arith, sum) in
        let low : r < len = mod-lt x {m = len} (omega arith) in
        let not_told : Contains nodes q → ⊥ = λ h. out q h (record { from = omega (arith, is); to = omega (arith, is, low) }) in
        ap (λ (n : ℕ). get_or new n 0) (sym is) ∙ sym (byte_in len q r new low) ∙ ap (λ (bytes : List ℕ). get_or bytes r 0) (d.others q not_told)
        ∙ byte_in len q r old low ∙ ap (λ (n : ℕ). get_or old n 0) is

-- the same, as it is told to whoever keeps them
pub nodes_told : (len : ℕ) (nodes old : List ℕ) (near : Near) → 0 < len → near.record_len ≡ len → DifferAtMost near.record_len nodes old near.bytes → DifferInRecords len nodes old near.bytes
nodes_told len nodes old near some same differ = bytes_differ len nodes old near.bytes some (subst (λ (n : ℕ). DifferAtMost n nodes old near.bytes) same differ)

-- a link that counts changes anew
pub counted_anew : (near : Near) (bytes : List ℕ) → bytes ≡ near.bytes → AreNoted bytes (record near { noted = nothing_noted })
counted_anew near bytes same exact = subst (λ (b : List ℕ). DifferAtMost near.record_len [] b near.bytes) (sym same) (record { long = refl; others = λ node none. refl })
