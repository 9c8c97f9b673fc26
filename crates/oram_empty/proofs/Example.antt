-- An example: a formatting, and what was collected of its messages.
use Rattle.std.proofs.Common.{ℕ, ◌<◌, List, [], ◌∷◌, ◌++◌, refl, sym, subst, arith, slice_index_or}
use Rattle.std.specs.List.{flat_map}
use Rattle.oram_geometry.specs.Sizes.{IsDevice, trees_of, depth_of}
use Rattle.oram_bucket.specs.Cipher.{IsCipher, plain_cipher}
use Rattle.oram_wire.specs.HostMessages.{put_body}
use Rattle.oram_tree.specs.Format.{PutsAll}
use Rattle.oram_tree.specs.State.{State as Tree}
use Rattle.oram_semantics.specs.Formatting.{AreTreesMade, IsTreeMade}
use Rattle.oram_semantics.specs.Scheme.{Scheme}
use Rattle.oram_semantics.specs.State.{no_tree}
use Rattle.oram_semantics.proofs.Bounds.{depth_small}
use Rattle.oram_semantics.proofs.BrokenOffFormats.{begun_between}
use Rattle.oram_semantics.proofs.Formatting.{each_joined, no_trees_made}
use Rattle.oram_semantics.proofs.PostOrder.{Each, each_put}
use Rattle.oram_empty.specs.Laws.{FormattingExample, example_scheme}
use Rattle.oram_empty.specs.Collecting.{Collection, Collects, blank}
use Rattle.oram_empty.proofs.Collected.{put_taken, shape_taken}

-- whatever was collected before, a message leads to some collection
abbrev Taken : List ℕ → Type 0
Taken body = (from : Collection) → (to : Collection) × Collects from body to

all_taken : (bodies : List (List ℕ)) (from : Collection) → Each Taken bodies → (to : Collection) × PutsAll Collects from bodies to
all_taken [] from each = (from, refl)
all_taken (body ∷ bodies) from each =
    let one = each.0 from in
    let rest = all_taken bodies one.0 each.1 in
    (rest.0, (one.0, one.1, rest.1))

tree_taken : (v : Scheme) (i : ℕ) (tree : Tree) (bodies : List (List ℕ)) → IsTreeMade v i tree bodies → Each Taken bodies
tree_taken v i tree bodies is =
    let m = is.made in
    let n = tree.number in
    subst (Each Taken) (sym m.bodies_are) (
      shape_taken n (depth_of v.device n) _,
      each_put Taken (λ k. put_body n k (m.records k)) (depth_of v.device n) (depth_small v.device n) (λ k small. put_taken n k (m.records k) small),
    )

-- something is collected of the messages of each formatting
formatting_taken : (v : Scheme) (n : ℕ) (trees : List Tree) (messages : List (List ℕ)) (from : Collection) → AreTreesMade v n trees messages → (to : Collection) × PutsAll Collects from messages to
formatting_taken v n trees messages from a =
    let each : Each Taken (flat_map (λ part. part) a.parts) = each_joined Taken a.parts
    (λ j few. let below : j < n = omega (arith, a.parts_count) in tree_taken v j (slice_index_or trees j no_tree) (slice_index_or a.parts j []) (a.each j below)) in
    all_taken messages from (subst (Each Taken) (sym a.joined) each)

example_device : IsDevice example_scheme.device
example_device = record {
  some_blocks = omega arith;
  few_blocks = omega arith;
  some_bytes = omega arith;
  few_bytes = omega arith;
  whole_words = refl;
  some_slots = omega arith;
  few_slots = omega arith;
  some_top = omega arith;
  few_top = omega arith;
  some_lifetime = omega arith;
  few_lifetime = omega arith;
  some_load = omega arith;
  few_load = omega arith;
  room = refl;
}

pub plain_law : IsCipher plain_cipher
plain_law = record { small = omega arith; longer = λ nonce plain. omega arith; undoes = λ nonce plain h k. refl }

pub example : FormattingExample
example =
    let v = example_scheme in
    let whole = begun_between v 0 [] [] example_device plain_law (omega arith) (no_trees_made v) in
    let messages = [] ++ whole.0 in
    let end = formatting_taken v (trees_of v.device) whole.1 messages (blank v.device 0 2) whole.2 in
    (whole.1, messages, end.0, whole.2, end.1)
