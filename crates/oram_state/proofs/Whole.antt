-- The fields of a file spell parts that have a file, and such fields can be read again.
use Rattle.std.proofs.Common.{◌≡◌, ℕ, ◌≤◌, Bool, true, false, List, [], ◌∷◌, ◌++◌, length, Option, Some, None, Ok, refl, sym, ap, ◌∙◌, append_assoc, append-nil, arith}
use Rattle.std.specs.Prelude.{IfOk, ◌==◌}
use Rattle.std.specs.List.{flat_map, AllByRecursion}
use Rattle.std.proofs.lemmas.Bool.{eqb-true}
use Rattle.std.proofs.lemmas.List.{nil_from_length}
use Rattle.std.specs.Int.{w32}
use Rattle.oram_geometry.specs.declared.Sizes.{Sizes}
use Rattle.oram_tree.specs.Parts.{Parts as TreeParts}
use Rattle.oram_semantics.specs.declared.events.Reason.{Reason}
use Rattle.oram_core.specs.declared.parts.Pending.{Pending}
use Rattle.oram_state.specs.declared.fault.StateFault.TheVariants.{Content}
use Rattle.oram_state.specs.declared.mode.Mode.{Mode}
use Rattle.oram_state.specs.declared.mode.Mode.TheVariants.{Idle, Failed, Waiting, Stalled}
use Rattle.oram_state.specs.declared.saved.Head.{Head}
use Rattle.oram_state.specs.declared.saved.Saved.{Saved}
use Rattle.oram_state.specs.StateBytes.{Work, short, tree_text, failure_text, work_text, work_of, mode_by, mode_of, rest_text, fields_text}
use Rattle.oram_state.specs.WellSized.{IsShort, IsSizedTree, IsNoWork, IsWorkBy, IsWellSized, table_len, tree_count}
use Rattle.oram_state.specs.Parser.{is_stalled, many, next_failure, next_head, next_number, next_saved, next_tree, next_work_in, saved_in, saved_of, unless}
use Rattle.oram_state.proofs.Tools.{IsBytes, Took, took_both, then_ok, goes, unless_ok, short_takes, short_again}
use Rattle.oram_state.proofs.Several.{Law, many_takes, many_again}
use Rattle.oram_state.proofs.Devices.{IsModeOf, IsHead, head_fields, head_takes, head_again}
use Rattle.oram_state.proofs.Trees.{IsFailureOf, failure_takes, failure_again, tree_law}
use Rattle.oram_state.proofs.Works.{IsAtWork, IsWorkOf, work_in_takes, work_in_again}

short_law : Law short IsShort (next_number w32)
short_law = record { takes = short_takes; again = short_again }

-- ---- the mode, and what is kept of a core in that mode

mode_made : (d : Sizes) (mode : Mode) (failure : Option Reason) (w : Work) → IsFailureOf mode failure → IsWorkOf d mode w → mode_by failure w.waiting (is_stalled mode) ≡ mode
mode_made d Idle None w f h = rw h refl
mode_made d Failed (Some why) w f h = refl
mode_made d Waiting None w f h = some_wait w.waiting h.some
  where
    some_wait : (waiting : List Pending) → 1 ≤ length waiting → mode_by None waiting false ≡ Waiting
    some_wait [] l = absurd (omega (arith, l))
    some_wait (first ∷ others) l = refl
mode_made d Stalled None w f h = some_wait w.waiting h.some
  where
    some_wait : (waiting : List Pending) → 1 ≤ length waiting → mode_by None waiting true ≡ Stalled
    some_wait [] l = absurd (omega (arith, l))
    some_wait (first ∷ others) l = refl
mode_made d Idle (Some why) w f h = absurd f
mode_made d Waiting (Some why) w f h = absurd f
mode_made d Stalled (Some why) w f h = absurd f
mode_made d Failed None w f h = absurd f

at_work_by : (d : Sizes) (waiting : List Pending) (w : Work) (stalled : Bool) → 1 ≤ length waiting → IsAtWork d w → IsWorkBy d None waiting w stalled
at_work_by d [] w stalled l h = absurd (omega (arith, l))
at_work_by d (first ∷ others) w stalled l h = h.sized

no_work_by : (d : Sizes) (failure : Option Reason) (waiting : List Pending) (w : Work) (stalled : Bool) → waiting ≡ [] → IsNoWork w stalled → IsWorkBy d failure waiting w stalled
no_work_by d (Some why) waiting w stalled e h = h
no_work_by d None [] w stalled e h = h
no_work_by d None (first ∷ others) w stalled e h = absurd cc

work_made : (d : Sizes) (mode : Mode) (failure : Option Reason) (w : Work) → IsFailureOf mode failure → IsWorkOf d mode w → IsWorkBy d failure w.waiting w (is_stalled mode)
work_made d Idle failure w f h = no_work_by d failure w.waiting w false (ap (λ (x : Work). x.waiting) h) (record { none = h; not_stalled = refl })
work_made d Failed failure w f h = no_work_by d failure w.waiting w false (ap (λ (x : Work). x.waiting) h) (record { none = h; not_stalled = refl })
work_made d Waiting None w f h = at_work_by d w.waiting w false h.some h
work_made d Stalled None w f h = at_work_by d w.waiting w true h.some h
work_made d Waiting (Some why) w f h = absurd f
work_made d Stalled (Some why) w f h = absurd f

-- ---- the fields

-- a file of this version can have a core in this mode
abbrev pub MayTell : ℕ → Saved → Type 0
MayTell version s = IsModeOf version (mode_of s.parts) × IsShort s.overhead × IsWellSized s.parts

fields_of : (version : ℕ) (h : Head) (failure : Option Reason) (table : List ℕ) (trees : List TreeParts) (w : Work) {text a b c e rest : List ℕ} → IsHead version h → IsFailureOf h.mode failure → IsWorkOf h.device h.mode w
    → length table ≡ table_len h.device failure → AllByRecursion IsShort table → length trees ≡ tree_count h.device failure → AllByRecursion (IsSizedTree h.device) trees
    → Took text (head_fields h) a → Took a (failure_text failure) b → Took b (flat_map short table) c → Took c (flat_map tree_text trees) e → Took e (work_text w) rest
    → (let s = saved_of h failure table trees w in Took text (fields_text s.overhead s.parts) rest × MayTell version s)
fields_of version h failure table trees w head f work len entries count sized p q r s t =
    let mode = mode_made h.device h.mode failure w f work in (
      rw mode (took_both p (took_both (took_both q r) (took_both s t))),
      (
        rw mode head.mode,
        head.overhead,
        record { device = head.device; tickets = head.tickets; nonce = head.nonce; table = len; entries = entries; count = count; trees = sized; work = work_made h.device h.mode failure w f work },
      ),
    )

saved_takes : (version : ℕ) (text : List ℕ) → IsBytes text → IfOk (next_saved version text) (λ x. Took text (fields_text x.0.overhead x.0.parts) x.1 × MayTell version x.0)
unfolding next_saved
saved_takes version text h =
    then_ok _ _ (next_head version text) _ (head_takes version text h) (λ a pa.
    then_ok _ _ (next_failure a.0.mode a.1) _ (failure_takes a.0.mode a.1 pa.0.bytes) (λ b pb.
    then_ok _ _ (many (next_number w32) (table_len a.0.device b.0) b.1) _ (many_takes short IsShort (next_number w32) short_law (table_len a.0.device b.0) b.1 pb.0.bytes) (λ c pc.
    then_ok _ _ (many (next_tree a.0.device) (tree_count a.0.device b.0) c.1) _ (many_takes tree_text (IsSizedTree a.0.device) (next_tree a.0.device) (tree_law a.0.device) (tree_count a.0.device b.0) c.1 pc.0.bytes) (λ e pe.
    then_ok _ _ (next_work_in a.0.device a.0.mode e.1) _ (work_in_takes a.0.device a.0.mode e.1 pe.0.bytes) (λ f pf.
    fields_of version a.0 b.0 c.0 e.0 f.0 pa.1 pb.1 pf.1 pc.1 pc.2 pe.1 pe.2 pa.0 pb.0 pc.0 pe.0 pf.0)))))

-- ---- reading what was written

failure_is : (failure : Option Reason) (waiting : List Pending) (stalled : Bool) → IsFailureOf (mode_by failure waiting stalled) failure
failure_is (Some why) waiting stalled = tt
failure_is None [] stalled = tt
failure_is None (first ∷ others) false = tt
failure_is None (first ∷ others) true = tt

work_is : (d : Sizes) (failure : Option Reason) (waiting : List Pending) (w : Work) (stalled : Bool) → waiting ≡ w.waiting → IsWorkBy d failure waiting w stalled → IsWorkOf d (mode_by failure waiting stalled) w
work_is d (Some why) waiting w stalled e h = h.none
work_is d None [] w stalled e h = h.none
work_is d None (first ∷ others) w false e h = record { some = rw (← e) (omega arith); sized = h }
work_is d None (first ∷ others) w true e h = record { some = rw (← e) (omega arith); sized = h }

stalled_is : (d : Sizes) (failure : Option Reason) (waiting : List Pending) (w : Work) (stalled : Bool) → IsWorkBy d failure waiting w stalled → is_stalled (mode_by failure waiting stalled) ≡ stalled
stalled_is d (Some why) waiting w stalled h = sym h.not_stalled
stalled_is d None [] w stalled h = sym h.not_stalled
stalled_is d None (first ∷ others) w false h = refl
stalled_is d None (first ∷ others) w true h = refl

saved_again : (version : ℕ) (s : Saved) (rest : List ℕ) → MayTell version s → next_saved version (fields_text s.overhead s.parts ++ rest) ≡ Ok (s, rest)
unfolding next_saved
saved_again version s rest may =
    let p = s.parts in
    let h = may.2 in
    let mode = mode_of p in
    let w = work_of p in
    let head : Head = record { device = p.device; overhead = s.overhead; mode = mode; tickets = p.tickets; nonce = p.nonce } in
    let regrouped : fields_text s.overhead p ++ rest ≡ head_fields head ++ (failure_text p.failure ++ (flat_map short p.table ++ (flat_map tree_text p.trees ++ (work_text w ++ rest)))) =
    append_assoc (head_fields head) (rest_text p) rest ∙ ap (λ (x : List ℕ). head_fields head ++ x) (regroup (failure_text p.failure) (flat_map short p.table) (flat_map tree_text p.trees) (work_text w)) in
    let table : many (next_number w32) (table_len p.device p.failure) (flat_map short p.table ++ (flat_map tree_text p.trees ++ (work_text w ++ rest))) ≡ Ok (p.table, flat_map tree_text p.trees ++ (work_text w ++ rest)) =
    rw (← h.table) (many_again short IsShort (next_number w32) short_law p.table _ h.entries) in
    let trees : many (next_tree p.device) (tree_count p.device p.failure) (flat_map tree_text p.trees ++ (work_text w ++ rest)) ≡ Ok (p.trees, work_text w ++ rest) =
    rw (← h.count) (many_again tree_text (IsSizedTree p.device) (next_tree p.device) (tree_law p.device) p.trees _ h.trees) in
    let stalled : is_stalled mode ≡ p.stalled = stalled_is p.device p.failure p.waiting w p.stalled h.work in
    ap (next_saved version) regrouped
    ∙ goes _ _ _ _ (head_again version head _ (record { device = h.device; overhead = may.1; mode = may.0; tickets = h.tickets; nonce = h.nonce }))
    (goes _ _ _ _ (failure_again mode p.failure _ (failure_is p.failure p.waiting p.stalled))
    (goes _ _ _ _ table
    (goes _ _ _ _ trees
    (goes _ _ _ _ (work_in_again p.device mode w rest h.device (work_is p.device p.failure p.waiting w p.stalled refl h.work))
    (ap (λ (b : Bool). Ok (record { overhead = s.overhead; parts = record p { stalled = b } }, rest)) stalled)))))
  where
    regroup : (a b c e : List ℕ) → ((a ++ b) ++ (c ++ e)) ++ rest ≡ a ++ (b ++ (c ++ (e ++ rest)))
    regroup a b c e = simp append_assoc

-- ---- all of a text

pub all_takes : (version : ℕ) (text : List ℕ) → IsBytes text → IfOk (saved_in version text) (λ s. (text ≡ fields_text s.overhead s.parts) × MayTell version s)
unfolding saved_in
all_takes version text h =
    then_ok _ _ (next_saved version text) _ (saved_takes version text h) (λ a pa.
    then_ok _ _ (unless Content (length a.1 == 0)) _ (unless_ok Content (length a.1 == 0)) (λ _ ended.
    let nothing : a.1 ≡ [] = nil_from_length a.1 (eqb-true (length a.1) 0 ended) in
    (pa.0.parts ∙ ap (λ (x : List ℕ). fields_text a.0.overhead a.0.parts ++ x) nothing ∙ append-nil _, pa.1)))

pub all_again : (version : ℕ) (s : Saved) → MayTell version s → saved_in version (fields_text s.overhead s.parts) ≡ Ok s
unfolding saved_in
all_again version s may =
    ap (saved_in version) (sym (append-nil (fields_text s.overhead s.parts))) ∙ goes _ _ _ _ (saved_again version s [] may) refl
