-- No answer of the whole command shows two records with the same digest.
use Rattle.std.proofs.Common.{◌≡◌, ℕ, ◌<◌, arith, Bool, not, true, false, if◌then◌else◌, ◌&&◌, Option, None, Some, unwrap_or, List, [], ◌∷◌, ◌++◌, reverse, refl, sym, ap, ◌∙◌, subst}
use Rattle.std.specs.Option.{option_map_or}
use Rattle.std.specs.Str.{bytes_eq}
use Rattle.oram_geometry.specs.Least.{least_from}
use Rattle.oram_geometry.specs.Path.{node_on}
use Rattle.oram_geometry.specs.Sizes.{blocks_in, depth_of, level_for, trees_of}
use Rattle.oram_trace.specs.declared.entries.Entry.{Entry}
use Rattle.oram_hash.specs.Path.{Path, record_at}
use Rattle.oram_wire.specs.HostMessages.{done_answer}
use Rattle.oram_host.specs.Host.{Kept, record_of, tree_at}
use Rattle.oram_tree.specs.Content.{node_count}
use Rattle.oram_tree.specs.State.{State as Tree}
use Rattle.oram_semantics.specs.Answers.{answered_path, first_other, has_one_digest, is_payload, pair_in}
use Rattle.oram_semantics.specs.Messages.{last_stored, requested, written}
use Rattle.oram_semantics.specs.Progress.{Setting, Step, records_of, sent}
use Rattle.oram_semantics.specs.Run.{shows_pair, step_of}
use Rattle.oram_semantics.specs.declared.events.Command.TheVariants.{Read}
use Rattle.oram_semantics.specs.declared.events.Event.TheVariants.{Answer, Submit}
use Rattle.oram_semantics.proofs.Bounds.{IsFit, fit_device}
use Rattle.oram_semantics.proofs.Follows.{Follows}
use Rattle.oram_semantics.proofs.Formatting.{formatted_holds}
use Rattle.oram_semantics.proofs.Keeps.{pair_same}
use Rattle.oram_semantics.proofs.WholeRuns.{new_follows, one_step}
use Rattle.oram_core.proofs.Sound.{requested_fetch}
use Rattle.oram_host_laws.specs.Honest.{KeepsAll}
use Rattle.oram_host_laws.proofs.FormattedHosts.{formatted_kept}
use Rattle.oram_host_laws.proofs.Handed.{kept_same}
use Rattle.oram_link_laws.specs.Examples.{new_core, new_host, one_block}
use Rattle.oram_link_laws.proofs.Device.{eighty_eight, is_device, new_device_example, no_depth}
use Rattle.oram_link_laws.proofs.Ran.{puts_each}
use Rattle.oram_link_laws.proofs.Same.{taken_each}
use Rattle.oram_rounds.specs.ReadingExample.{reading_core, reads, shown_in}
use Rattle.oram_rounds.proofs.Example.{first_tree}
use Rattle.oram_rounds.proofs.ReadingCore.{message_is}
use Rattle.oram_rounds.proofs.ReadingProcess.{accepts}
use Rattle.oram_process_laws.specs.KeptCommands.{ShowsNoPair}
use Rattle.oram_process_laws.specs.WholeExample.{block_store, fetched_core, stored, whole_steps}
use Rattle.oram_process_laws.specs.Lives.{run_of}
use Rattle.oram_process_laws.proofs.FetchedPath.{leaf_is, path, takes_path, zeros}

abbrev setting : Setting
setting = record { scheme = one_block; format = new_device_example.0.format }

abbrev trees : List Tree
trees = new_device_example.0.trees

-- the record of the formatting

abbrev filled : Kept
filled = record { depth = 0; record_len = 88; records = (0, zeros) ∷ [] }

root_of : (r : ℕ → ℕ → List ℕ) → KeepsAll one_block r new_host → r 0 0 ≡ zeros
root_of r keeps =
    let k = keeps 0 first_tree in
    let same : k.kept ≡ filled = kept_same (tree_at new_host 0) k.kept filled k.there refl in
    let here = k.each 0 (let P : ℕ → Type 0 = λ d. 0 < node_count d in subst P no_depth (omega arith)) in
    ap (λ (o : Option (List ℕ)). unwrap_or o []) (sym here ∙ ap (λ (kept : Kept). record_of kept 0) same)

formatted_root : records_of setting [] 0 0 ≡ zeros
formatted_root =
    let new = new_device_example.0 in
    root_of (records_of setting []) (formatted_kept setting trees new_host is_device (omega arith) new.formatted (puts_each new.format [] new_host (taken_each new.format [] new_host new_device_example.1)))

-- a FETCH leaves it as it is

abbrev submitted_past : List Step
submitted_past = step_of (Submit 0 (Read 0) (0 ∷ 0 ∷ [])) reads.shown ∷ []

same_root : (format : List (List ℕ)) → last_stored one_block (sent submitted_past ++ format) 0 0 ≡ last_stored one_block (sent [] ++ format) 0 0
unfolding last_stored sent written trees_of blocks_in level_for least_from
same_root format = refl

-- the path of the answer has no other record

abbrev other_than : List ℕ → Option ℕ
other_than root = if not (bytes_eq zeros root) then Some 0 else None

first_at : (records : ℕ → List ℕ) → first_other records (path zeros) ≡ other_than (records 0)
unfolding first_other record_at node_on
first_at records = refl

none_pair : (b : Bool) (f : ℕ → Bool) (o : Option ℕ) → o ≡ None → (b && option_map_or f o false) ≡ false
none_pair true f o is = ap (λ (k : Option ℕ). option_map_or f k false) is
none_pair false f o is = refl

tree_is : 0 ≡ (requested reading_core.message).tree
tree_is = sym (ap (λ (m : List ℕ). (requested m).tree) message_is ∙ ap (λ (e : Entry). e.tree) (requested_fetch 0 0 (omega arith)))

path_pair : (r : ℕ → ℕ → List ℕ) → r 0 0 ≡ zeros → pair_in one_block r (requested reading_core.message) (128 ∷ zeros) ≡ false
unfolding pair_in
path_pair r is =
    let e : Entry = requested reading_core.message in
    let p : Path = answered_path one_block e (128 ∷ zeros) in
    let depth : 0 ≡ depth_of one_block.device e.tree = no_depth ∙ ap (depth_of one_block.device) tree_is in
    let here : path zeros ≡ p = (λ k. record { depth = depth k; leaf = leaf_is k; record_len = eighty_eight k; bytes = zeros }) in
    let none : first_other (r e.tree) p ≡ None =
    subst (λ (q : Path). first_other (r e.tree) q ≡ None) here
    (subst (λ (i : ℕ). first_other (r i) (path zeros) ≡ None) tree_is (first_at (r 0) ∙ ap other_than is)) in
    none_pair (is_payload one_block e (128 ∷ zeros)) (has_one_digest (r e.tree) p) (first_other (r e.tree) p) none

store_pair : (r : ℕ → ℕ → List ℕ) → pair_in one_block r (requested block_store) done_answer ≡ false
unfolding pair_in requested
store_pair r = refl

-- the past of the core at each answer

fit : IsFit one_block.device
fit = fit_device one_block.device is_device

new_past : Follows setting [] new_core
new_past = subst (Follows setting []) (sym new_device_example.0.state) (new_follows setting trees fit (formatted_holds setting trees new_device_example.0.formatted))

submitted : Follows setting submitted_past reading_core
submitted = (one_step setting [] new_core reading_core (Submit 0 (Read 0) (0 ∷ 0 ∷ [])) reads.shown fit new_past accepts.moves refl).follows

path_apart : shows_pair setting submitted_past (Answer (128 ∷ zeros)) ≡ false
path_apart =
    sym (pair_same setting submitted_past reading_core submitted.old (Answer (128 ∷ zeros)) reading_core.failure refl fit submitted.follows)
    ∙ path_pair (records_of setting submitted_past) (same_root (reverse setting.format) ∙ formatted_root)

abbrev fetched_past : List Step
fetched_past = step_of (Answer (128 ∷ zeros)) (shown_in stored) ∷ submitted_past

fetched : Follows setting fetched_past fetched_core
fetched = (one_step setting submitted_past reading_core fetched_core (Answer (128 ∷ zeros)) (shown_in stored) fit submitted takes_path.moves path_apart).follows

store_apart : shows_pair setting fetched_past (Answer done_answer) ≡ false
store_apart =
    sym (pair_same setting fetched_past fetched_core fetched.old (Answer done_answer) fetched_core.failure refl fit fetched.follows)
    ∙ store_pair (records_of setting fetched_past)

pub no_pair : ShowsNoPair setting [] (run_of whole_steps)
no_pair = (refl, (path_apart, (store_apart, tt)))
