-- The fields of a core that isn't at work: its trees, or why it failed.
use Rattle.std.proofs.Common.{◌≡◌, ℕ, Bool, true, false, cond, List, [], ◌∷◌, ◌++◌, length, Option, Some, None, Ok, Err, refl, sym, ap, ◌∙◌, append_assoc}
use Rattle.std.specs.Prelude.{IfOk, ◌&&◌, ◌==◌, ⊤}
use Rattle.std.specs.List.{flat_map}
use Rattle.std.proofs.lemmas.Bool.{eqb-true}
use Rattle.std.specs.Int.{w32}
use Rattle.oram_geometry.specs.declared.Sizes.{Sizes}
use Rattle.oram_bucket.specs.Cell.{Cell}
use Rattle.oram_tree.specs.Parts.{Parts as TreeParts}
use Rattle.oram_semantics.specs.declared.events.Reason.{Reason}
use Rattle.oram_semantics.specs.declared.events.Reason.TheVariants.{Malformed, Tampered, HostRefused}
use Rattle.oram_state.specs.declared.fault.StateFault.TheVariants.{Content}
use Rattle.oram_state.specs.declared.mode.Mode.{Mode}
use Rattle.oram_state.specs.declared.mode.Mode.TheVariants.{Idle, Failed, Waiting, Stalled}
use Rattle.oram_state.specs.StateBytes.{short, block_text, tree_text, reason_text, failure_text}
use Rattle.oram_state.specs.WellSized.{IsSizedBlock, IsSizedTree}
use Rattle.oram_state.specs.Parser.{many, next_block, next_byte, next_bytes, next_failure, next_number, next_reason, next_tree, reason_in}
use Rattle.oram_state.proofs.Tools.{IsBytes, Took, took_both, then_ok, goes, byte_takes, bytes_takes, bytes_again, short_takes, short_again}
use Rattle.oram_state.proofs.Several.{Law, many_takes, many_again}
use Rattle.oram_state.proofs.Devices.{both_true}

-- ---- the reason

reason_by_tests : (kind tree level code : ℕ) (a b c : Bool) → a ≡ (kind == 1 && (tree == 0 && (level == 0 && code == 0))) → b ≡ (kind == 2 && code == 0) → c ≡ (kind == 3 && (tree == 0 && level == 0))
    → IfOk {T = Reason} (cond a (Ok Malformed) (cond b (Ok (Tampered tree level)) (cond c (Ok (HostRefused code)) (Err Content)))) (λ why. reason_text why ≡ kind ∷ tree ∷ level ∷ code ∷ [])
reason_by_tests kind tree level code true b c e f g =
    let p = both_true (kind == 1) (tree == 0 && (level == 0 && code == 0)) (sym e) in
    let q = both_true (tree == 0) (level == 0 && code == 0) p.1 in
    let r = both_true (level == 0) (code == 0) q.1 in
    rw (eqb-true kind 1 p.0, eqb-true tree 0 q.0, eqb-true level 0 r.0, eqb-true code 0 r.1) refl
reason_by_tests kind tree level code false true c e f g =
    let p = both_true (kind == 2) (code == 0) (sym f) in
    rw (eqb-true kind 2 p.0, eqb-true code 0 p.1) refl
reason_by_tests kind tree level code false false true e f g =
    let p = both_true (kind == 3) (tree == 0 && level == 0) (sym g) in
    let q = both_true (tree == 0) (level == 0) p.1 in
    rw (eqb-true kind 3 p.0, eqb-true tree 0 q.0, eqb-true level 0 q.1) refl
reason_by_tests kind tree level code false false false e f g = tt

reason_known : (kind tree level code : ℕ) → IfOk (reason_in kind tree level code) (λ why. reason_text why ≡ kind ∷ tree ∷ level ∷ code ∷ [])
reason_known kind tree level code =
    reason_by_tests kind tree level code (kind == 1 && (tree == 0 && (level == 0 && code == 0))) (kind == 2 && code == 0) (kind == 3 && (tree == 0 && level == 0)) refl refl refl

reason_takes : (text : List ℕ) → IsBytes text → IfOk (next_reason text) (λ x. Took text (reason_text x.0) x.1)
unfolding next_reason
reason_takes text h =
    then_ok _ _ (next_byte text) _ (byte_takes text h) (λ a pa.
    then_ok _ _ (next_byte a.1) _ (byte_takes a.1 pa.bytes) (λ b pb.
    then_ok _ _ (next_byte b.1) _ (byte_takes b.1 pb.bytes) (λ c pc.
    then_ok _ _ (next_byte c.1) _ (byte_takes c.1 pc.bytes) (λ d pd.
    then_ok _ _ (reason_in a.0 b.0 c.0 d.0) _ (reason_known a.0 b.0 c.0 d.0) (λ why pw.
    rw pw (took_both pa (took_both pb (took_both pc pd))))))))

reason_again : (why : Reason) (rest : List ℕ) → next_reason (reason_text why ++ rest) ≡ Ok (why, rest)
unfolding next_reason next_byte
reason_again Malformed rest = refl
reason_again (Tampered tree level) rest = refl
reason_again (HostRefused code) rest = refl

-- only a failed core has a reason
abbrev pub IsFailureOf : Mode → Option Reason → Type 0
IsFailureOf Failed (Some why) = ⊤
IsFailureOf Failed None = ⊥
IsFailureOf mode None = ⊤
IsFailureOf mode (Some why) = ⊥

pub failure_takes : (mode : Mode) (text : List ℕ) → IsBytes text → IfOk (next_failure mode text) (λ x. Took text (failure_text x.0) x.1 × IsFailureOf mode x.0)
unfolding next_failure
failure_takes Failed text h = then_ok _ _ (next_reason text) _ (reason_takes text h) (λ a pa. (pa, tt))
failure_takes Idle text h = (record { parts = refl; bytes = h }, tt)
failure_takes Waiting text h = (record { parts = refl; bytes = h }, tt)
failure_takes Stalled text h = (record { parts = refl; bytes = h }, tt)

pub failure_again : (mode : Mode) (failure : Option Reason) (rest : List ℕ) → IsFailureOf mode failure → next_failure mode (failure_text failure ++ rest) ≡ Ok (failure, rest)
unfolding next_failure
failure_again Failed (Some why) rest h = goes _ _ _ _ (reason_again why rest) refl
failure_again Failed None rest h = absurd h
failure_again Idle None rest h = refl
failure_again Waiting None rest h = refl
failure_again Stalled None rest h = refl
failure_again Idle (Some why) rest h = absurd h
failure_again Waiting (Some why) rest h = absurd h
failure_again Stalled (Some why) rest h = absurd h

-- ---- trees

block_takes : (d : Sizes) (text : List ℕ) → IsBytes text → IfOk (next_block d text) (λ x. Took text (block_text x.0) x.1 × IsSizedBlock d x.0)
unfolding next_block
block_takes d text h =
    then_ok _ _ (next_number w32 text) _ (short_takes text h) (λ a pa.
    then_ok _ _ (next_number w32 a.1) _ (short_takes a.1 pa.0.bytes) (λ b pb.
    then_ok _ _ (next_bytes d.block_bytes b.1) _ (bytes_takes d.block_bytes b.1 pb.0.bytes) (λ c pc.
    (took_both (took_both pa.0 pb.0) pc.0, record { address = pa.1; leaf = pb.1; whole = pc.1 }))))

block_again : (d : Sizes) (c : Cell) (rest : List ℕ) → IsSizedBlock d c → next_block d (block_text c ++ rest) ≡ Ok (c, rest)
unfolding next_block
block_again d c rest h =
    let regrouped : block_text c ++ rest ≡ short c.address ++ (short c.leaf ++ (c.content ++ rest)) = simp append_assoc in
    ap (next_block d) regrouped
    ∙ goes _ _ _ _ (short_again c.address _ h.address)
    (goes _ _ _ _ (short_again c.leaf _ h.leaf)
    (goes _ _ _ _ (bytes_again d.block_bytes c.content rest h.whole) refl))

block_law : (d : Sizes) → Law block_text (IsSizedBlock d) (next_block d)
block_law d = record { takes = block_takes d; again = block_again d }

tree_takes : (d : Sizes) (text : List ℕ) → IsBytes text → IfOk (next_tree d text) (λ x. Took text (tree_text x.0) x.1 × IsSizedTree d x.0)
unfolding next_tree
tree_takes d text h =
    then_ok _ _ (next_bytes 32 text) _ (bytes_takes 32 text h) (λ a pa.
    then_ok _ _ (next_number w32 a.1) _ (short_takes a.1 pa.0.bytes) (λ b pb.
    then_ok _ _ (many (next_block d) b.0 b.1) _ (many_takes block_text (IsSizedBlock d) (next_block d) (block_law d) b.0 b.1 pb.0.bytes) (λ c pc.
    (rw pc.1 (took_both (took_both pa.0 pb.0) pc.0), record { root = pa.1; count = rw pc.1 pb.1; blocks = pc.2 }))))

tree_again : (d : Sizes) (t : TreeParts) (rest : List ℕ) → IsSizedTree d t → next_tree d (tree_text t ++ rest) ≡ Ok (t, rest)
unfolding next_tree
tree_again d t rest h =
    let regrouped : tree_text t ++ rest ≡ t.root ++ (short (length t.stash) ++ (flat_map block_text t.stash ++ rest)) = simp append_assoc in
    ap (next_tree d) regrouped
    ∙ goes _ _ _ _ (bytes_again 32 t.root _ h.root)
    (goes _ _ _ _ (short_again (length t.stash) _ h.count)
    (goes _ _ _ _ (many_again block_text (IsSizedBlock d) (next_block d) (block_law d) t.stash rest h.blocks) refl))

pub tree_law : (d : Sizes) → Law tree_text (IsSizedTree d) (next_tree d)
tree_law d = record { takes = tree_takes d; again = tree_again d }
