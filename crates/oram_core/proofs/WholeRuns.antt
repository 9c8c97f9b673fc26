-- From steps to a whole run.
use Rattle.std.proofs.Common.{◌≡◌, ℕ, ◌+◌, ◌<◌, List, [], ◌∷◌, ◌++◌, Bool, true, false, Result, Ok, Err, is_err, OnOk, OnErr, length, get_or, drop, map, inl, inr, ap, sym, ◌∙◌, subst, append_assoc}
use Rattle.std.specs.Global.{Vec}
use Rattle.std.proofs.lemmas.List.{append-nil, map_push, drop_more}
use Rattle.oram_geometry.specs.declared.Sizes.{Sizes}
use Rattle.oram_bucket.specs.Cipher.{Cipher}
use Rattle.oram_wire.specs.ListOfBodies.{bodies_in}
use Rattle.oram_wire.specs.declared.sinks.SinkFault.{SinkFault}
use Rattle.oram_wire.specs.declared.sinks.SinkFault.TheVariants.{OutOfMemory}
use Rattle.oram_tree.specs.Format.{PutsAll, IsBrokenOff}
use Rattle.oram_tree.specs.State.{State as Tree}
use Rattle.oram_tree.specs.declared.faults.FormatFault.{FormatFault}
use Rattle.oram_semantics.specs.Formatting.{IsFormatted, IsFormatBegun}
use Rattle.oram_semantics.specs.Law.{StepsByRule, StepsAlong, new_state}
use Rattle.oram_semantics.specs.Progress.{Setting}
use Rattle.oram_semantics.specs.Run.{Shown, shown_by, AllRight}
use Rattle.oram_semantics.specs.Scheme.{Scheme}
use Rattle.oram_semantics.specs.State.{State}
use Rattle.oram_semantics.specs.declared.events.Event.{Event}
use Rattle.oram_semantics.specs.declared.events.Reaction.{Reaction}
use Rattle.oram_semantics.proofs.WholeRuns.{steps_are_right}
use Rattle.oram_core.specs.Core.{CoreValue, IsSameDevice, scheme_of, scheme_with}
use Rattle.oram_core.specs.Formatting.{IsNew}
use Rattle.oram_core.specs.Runs.{IsCutShort, MakeAllTrees}
use Rattle.oram_core.specs.declared.outcome.Run.{Run}

-- The steps so far lead to a state, and any further steps from it continue them to one list of steps.
pub record Along (v : Scheme) (s : State) (events rest : List Event) (xs : List Shown) (t : State) : Type 0 where
  pub whole : (ys : List Shown) → StepsAlong v t rest ys → StepsAlong v s events (xs ++ ys)

pub along_none : (v : Scheme) (s : State) (events : List Event) (rs : List Reaction) → rs ≡ [] → Along v s events events (map shown_by rs) s
along_none v s events rs none = subst (λ (xs : List Reaction). Along v s events events (map shown_by xs) s) (sym none) (record { whole = λ ys h. h })

pub along_next : (v : Scheme) (s : State) (events : List Event) (i : ℕ) (event : Event) (rs more : List Reaction) (r : Reaction) (t u : State) → i < length events → event ≡ get_or events i event → more ≡ rs ++ r ∷ [] → StepsByRule v t event (shown_by r) u
    → Along v s events (drop i events) (map shown_by rs) t → Along v s events (drop (i + 1) events) (map shown_by more) u
along_next v s events i event rs more r t u below is pushed step a =
    let here : drop i events ≡ event ∷ drop (i + 1) events = drop_more events i event below ∙ ap (λ y. y ∷ drop (i + 1) events) (sym is) in
    let shows : map shown_by more ≡ map shown_by rs ++ shown_by r ∷ [] = ap (map shown_by) pushed ∙ map_push shown_by rs r in
    let b : Along v s events (event ∷ drop (i + 1) events) (map shown_by rs) t = subst (λ es. Along v s events es (map shown_by rs) t) here a in
    subst (λ xs. Along v s events (drop (i + 1) events) xs u) (sym shows) (record {
      whole = λ ys h. subst (StepsAlong v s events) (sym (append_assoc (map shown_by rs) (shown_by r ∷ []) ys)) (b.whole (shown_by r ∷ ys) (u, step, h));
    })

pub along_all : (v : Scheme) (s : State) (events rest : List Event) (xs : List Shown) (t : State) → Along v s events rest xs t → StepsAlong v s events xs
along_all v s events rest xs t a = subst (StepsAlong v s events) (append-nil xs) (a.whole [] tt)

pub new_scheme : {S : Type 0} (cipher : S → Cipher) (c : CoreValue S) (d : Sizes) (s : S) → c.device ≡ d → c.sealer ≡ s → scheme_of cipher c ≡ scheme_with cipher d s
new_scheme cipher c d s device sealer =
    ap (λ (x : Sizes). scheme_with cipher x c.sealer) device ∙ ap (λ x. scheme_with cipher d x) sealer

-- a core of the same device and sealer has the same scheme
pub same_scheme : {S : Type 0} (cipher : S → Cipher) (c d : CoreValue S) → IsSameDevice c d → scheme_of cipher d ≡ scheme_of cipher c
same_scheme cipher c d same =
    ap (λ (x : Sizes). scheme_with cipher x d.sealer) same.0 ∙ ap (λ x. scheme_with cipher c.device x) same.1

-- a sink that keeps the bodies

abbrev pub keeps : List (List ℕ) → List ℕ → List (List ℕ) → Type 0
keeps old body new = new ≡ old ++ body ∷ []

abbrev pub keeps_none : List (List ℕ) → List ℕ → SinkFault → List (List ℕ) → Type 0
keeps_none old body fault new = (new ≡ old) × (fault ≡ OutOfMemory)

pub kept_all : (from to bodies : List (List ℕ)) → PutsAll keeps from bodies to → to ≡ from ++ bodies
kept_all from to [] puts = sym puts ∙ sym (append-nil from)
kept_all from to (body ∷ bodies) puts =
    kept_all puts.0 to bodies puts.2 ∙ ap (λ ks. ks ++ bodies) puts.1 ∙ append_assoc from (body ∷ []) bodies

-- if a formatting into such a sink is broken off, the sink has a beginning of the messages
pub kept_begun : (v : Scheme) (fault : FormatFault) (to : List (List ℕ)) → IsBrokenOff keeps keeps_none (IsFormatBegun v) [] fault to → IsFormatBegun v to
kept_begun v fault to b =
    let same : to ≡ b.mid = elim b.ended [ inl own ↦ own.1 | inr r ↦ r.refused.0 ] in
    subst (IsFormatBegun v) (sym (same ∙ kept_all [] b.mid b.taken b.puts)) b.begun

-- and if it isn't, the sink's messages make all trees
pub kept_whole : (v : Scheme) (s : State) (to : List (List ℕ)) → IsNew v keeps [] s to → (trees : List Tree) × (let setting : Setting = record { scheme = v; format = to } in IsFormatted setting trees × (s ≡ new_state setting trees))
kept_whole v s to n =
    let W = λ (format : List (List ℕ)). (let setting : Setting = record { scheme = v; format = format } in IsFormatted setting n.trees × (s ≡ new_state setting n.trees)) in
    (n.trees, subst W (sym (kept_all [] to n.format n.puts)) (n.formatted, n.state))

-- The result of a run into a new sink, whether the formatting was done or broken off.

pub right_along : (v u : Scheme) (s : State) (from to format : List (List ℕ)) (events : List Event) (xs : List Shown) → from ≡ [] → format ≡ to → u ≡ v → IsNew v keeps from s to → StepsAlong u s events xs
    → (let setting : Setting = record { scheme = v; format = format } in AllRight setting [] events xs)
right_along v u s from to format events xs fresh is shape new along =
    let setting : Setting = record { scheme = v; format = to } in
    let R = λ (bodies : List (List ℕ)). (let x : Setting = record { scheme = v; format = bodies } in AllRight x [] events xs) in
    let n : IsNew v keeps [] s to = subst (λ (f : List (List ℕ)). IsNew v keeps f s to) fresh new in
    let w = kept_whole v s to n in
    let steps : StepsAlong v s events xs = subst (λ (y : Scheme). StepsAlong y s events xs) shape along in
    subst R (sym is) (steps_are_right setting w.0 events xs n.ranges w.1.0 (subst (λ (t : State). StepsAlong v t events xs) w.1.1 steps))

pub whole_along : (v : Scheme) (s : State) (from to : List (List ℕ)) (bodies : List (Vec ℕ)) → from ≡ [] → bodies_in bodies ≡ to → IsNew v keeps from s to → MakeAllTrees v bodies
whole_along v s from to bodies fresh is new =
    let n : IsNew v keeps [] s to = subst (λ (f : List (List ℕ)). IsNew v keeps f s to) fresh new in
    let w = kept_whole v s to n in
    let F = λ (format : List (List ℕ)). (let x : Setting = record { scheme = v; format = format } in IsFormatted x w.0) in
    (w.0, subst F (sym is) w.1.0)

pub cut_short : (v : Scheme) (fault : FormatFault) (from to : List (List ℕ)) (r : Run) → from ≡ [] → bodies_in r.format.items ≡ to → r.reactions.items ≡ [] → r.out_of_memory ≡ true → IsBrokenOff keeps keeps_none (IsFormatBegun v) from fault to → IsCutShort v r
cut_short v fault from to r fresh is none reported b =
    let B = λ (f : List (List ℕ)). IsBrokenOff keeps keeps_none (IsFormatBegun v) f fault to in
    record { begun = subst (IsFormatBegun v) (sym is) (kept_begun v fault to (subst B fresh b)); nothing = none; reported = reported }

-- whether memory ran out at a step says how many reactions there are

pub all_carried : {T E : Type 0} (r : Result T E) (b : Bool) (m n : ℕ) → b ≡ is_err r → OnOk r (m ≡ n) → b ≡ false → m ≡ n
all_carried (Ok x) b m n is h reported = h
all_carried (Err e) b m n is h reported = absurd (let both : true ≡ false = sym is ∙ reported in cc)

pub fewer_carried : {T E : Type 0} (r : Result T E) (b : Bool) (m n : ℕ) → b ≡ is_err r → OnErr r (m < n) → b ≡ true → m < n
fewer_carried (Ok x) b m n is h reported = absurd (let both : false ≡ true = sym is ∙ reported in cc)
fewer_carried (Err e) b m n is h reported = h
