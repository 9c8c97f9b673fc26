-- How the formatting of a device goes on, tree by tree, and what it makes.
use Rattle.std.proofs.Common.{◌/◌, ◌*◌, None, ◌≡◌, ℕ, suc, ◌+◌, ◌-◌, ◌^◌, ◌<◌, ◌≤◌, List, [], ◌∷◌, ◌++◌, false, length, slice_index_or, replicate, inl, inr, refl, ap, sym, subst, ◌∙◌, arith}
use Rattle.std.specs.List.{All}
use Rattle.std.proofs.lemmas.Bool.{cases_eq}
use Rattle.std.proofs.lemmas.List.Elements.{All-nil, All-replicate}
use Rattle.std.proofs.lemmas.List.{append-nil, get_or_at, get_or_append_left, length-replicate}
use Rattle.oram_geometry.specs.declared.Sizes.{Sizes}
use Rattle.oram_geometry.specs.Sizes.{IsDevice, trees_of, depth_of, blocks_in}
use Rattle.oram_geometry.proofs.DeviceSizes.{trees_of-few}
use Rattle.oram_bucket.specs.Cipher.{Cipher, IsCipher}
use Rattle.oram_bucket.specs.Bucket.{IsBlockOf}
use Rattle.oram_bucket.specs.Cell.{Cell}
use Rattle.oram_wire.specs.declared.sinks.SinkFault.{SinkFault}
use Rattle.oram_tree.specs.Content.{node_count}
use Rattle.oram_tree.specs.Format.{IsFormat, IsBegun, IsBrokenOff}
use Rattle.oram_tree.specs.State.{State as Tree}
use Rattle.oram_tree.specs.declared.faults.FormatFault.{FormatFault}
use Rattle.oram_tree.specs.declared.faults.FormatFault.TheVariants.{OutOfMemory}
use Rattle.oram_tree.proofs.Puts.{PutsAll-append, broken_after}
use Rattle.oram_semantics.specs.Formatting.{IsFormatBegun}
use Rattle.oram_semantics.specs.Nonces.{formatted, formatted_below, buckets_below, next_nonce}
use Rattle.oram_semantics.specs.Scheme.{Scheme}
use Rattle.oram_semantics.specs.State.{State, no_tree}
use Rattle.oram_semantics.specs.declared.events.Submission.{Submission}
use Rattle.oram_semantics.proofs.BrokenOffFormats.{begun_between, begun_within}
use Rattle.oram_semantics.proofs.Bounds.{some_trees}
use Rattle.oram_semantics.proofs.Formatting.{no_trees_made, one_more_made}
use Rattle.oram_semantics.specs.Agree.{IsAllowed, TicketsFrom}
use Rattle.oram_core.specs.Core.{IsTreeKept, AtWork, IsHealthy, IsWhole, IsSound}
use Rattle.oram_core.specs.Formatting.{IsMade, AreMade}

pub below_none : (d : Sizes) → formatted_below d 0 ≡ 0
unfolding formatted_below
below_none d = refl

pub below_next : (d : Sizes) (n : ℕ) → formatted_below d (n + 1) ≡ formatted_below d n + node_count (depth_of d n)
unfolding formatted_below
below_next d n = ap (formatted_below d) (let e : n + 1 ≡ suc n = omega arith in e)

-- all messages of a tree are a beginning of them
pub whole_begun : (cipher : Cipher) (d : Sizes) (nonce m number : ℕ) (t : Tree) (bodies : List (List ℕ))
    → nonce ≡ m → t.number ≡ number → t.stash ≡ [] → IsFormat cipher d nonce t bodies → IsBegun cipher d m number bodies
whole_begun cipher d nonce m number t bodies same number_is empty made =
    let root = t.root in
    let N = λ (k : ℕ). IsFormat cipher d k t bodies in
    let A = λ (k : ℕ). IsFormat cipher d m (record { number = k; root = root; stash = t.stash }) bodies in
    let B = λ (cells : List Cell). IsFormat cipher d m (record { number = number; root = root; stash = cells }) bodies in
    let C = λ (bs : List (List ℕ)). IsFormat cipher d m (record { number = number; root = root; stash = [] }) bs in
    ([], root, subst C (sym (append-nil bodies)) (subst B empty (subst A number_is (subst N same made))))

-- before any STORE
nonce_first : (d : Sizes) → 0 < trees_of d → next_nonce d 0 0 ≡ formatted d
nonce_first d some = let all : trees_of d - (0 + 1) / 2 ≡ trees_of d = omega arith in ap (λ (k : ℕ). formatted d + 0 * buckets_below d (trees_of d) + (buckets_below d (trees_of d) - buckets_below d k)) all ∙ omega arith

-- a core just formatted is sound
pub new_sound : {K : Type 0} (v : Scheme) (putting : K → List ℕ → K → Type 0) (from to : K) (trees : List Tree) (s : State) → IsDevice v.device → v.cipher.overhead ≤ 64 → AreMade v putting from (trees_of v.device) trees to
    → s.table ≡ replicate (blocks_in v.device (trees_of v.device - 1)) 0 → s.trees ≡ trees → s.next ≡ 0 → s.nonce ≡ formatted v.device → s.queue ≡ [] → s.entry_number ≡ 0 → s.held_entry ≡ 0 → s.held_data ≡ [] → s.message ≡ [] → s.lost ≡ false → s.failure ≡ None → IsSound v.device v.cipher.overhead s
new_sound v putting from to trees s device small a table_is trees_is next_is nonce_is queue_is stage_is map_entry_is before_is last_is lost_is alive =
    let d = v.device in
    let few : trees_of d ≤ 14 = trees_of-few d device in
    let tree = λ (ts : List Tree) (i : ℕ). slice_index_or ts i no_tree in
    let Named = λ (xs : List ℕ). All (λ e. e ≤ 2 ^ depth_of d (trees_of d - 1)) xs in
    let Kept = λ (ts : List Tree). (i : ℕ) → i < trees_of d → IsTreeKept d i (tree ts i) in
    let Blocks = λ (i : ℕ) (cells : List Cell). All (IsBlockOf d i) cells in
    let Allowed = λ (xs : List Submission). All (IsAllowed d) xs in
    let Work = λ (xs : List Submission). AtWork d v.cipher.overhead s xs in
    let Tickets = λ (xs : List Submission). TicketsFrom (s.next - length xs) xs in
    let none : length s.queue ≡ 0 = ap length queue_is in
    let some : 0 < trees_of d = some_trees d in
    let answered : s.next - length s.queue ≡ 0 = omega (arith, next_is, none) in
    let whole : IsHealthy d v.cipher.overhead s = record {
      table = ap length table_is ∙ length-replicate (blocks_in d (trees_of d - 1)) 0;
      map_entries = subst Named (sym table_is) (All-replicate (λ e. e ≤ 2 ^ depth_of d (trees_of d - 1)) (blocks_in d (trees_of d - 1)) 0 (omega arith));
      count = ap length trees_is ∙ a.made.trees_count;
      kept = subst Kept (sym trees_is) (λ i below. record { number = (a.made.each i below).number; blocks = subst (Blocks i) (sym (a.empty i below)) (All-nil (IsBlockOf d i)) });
      queue = subst Allowed (sym queue_is) (All-nil (IsAllowed d));
      tickets = subst Tickets (sym queue_is) tt;
      most = omega (arith, none);
      begun = omega (arith, none);
      work = subst Work (sym queue_is) (record { entry_number = stage_is; held_entry = map_entry_is; held_data = before_is; message = last_is; lost = lost_is });
      nonce = nonce_is ∙ sym (nonce_first d some) ∙ ap (λ (k : ℕ). next_nonce d 0 k) (sym stage_is) ∙ ap (λ (k : ℕ). next_nonce d k s.entry_number) (sym answered);
    } in
    record { ranges = device; small = small; next = omega (arith, next_is); whole = subst (IsWhole d v.cipher.overhead s) (sym alive) whole }

module _ {K : Type 0} (v : Scheme) (putting : K → List ℕ → K → Type 0) where
  pub none_made : (from : K) (trees : List Tree) → trees ≡ [] → AreMade v putting from 0 trees from
  none_made from trees none = subst (λ (ts : List Tree). AreMade v putting from 0 ts from) (sym none) (record { messages = []; puts = refl; made = no_trees_made v; empty = λ i below. absurd (omega arith) })

  pub next_made : (from next to : K) (n : ℕ) (trees more : List Tree) → AreMade v putting from n trees next → IsMade v putting next n trees more to → AreMade v putting from (n + 1) more to
  next_made from next to n trees more a m =
      let few : length trees ≡ n = a.made.trees_count in
      subst (λ (ts : List Tree). AreMade v putting from (n + 1) ts to) (sym m.joined) (record {
        messages = a.messages ++ m.messages;
        puts = PutsAll-append putting from next to a.messages m.messages a.puts m.puts;
        made = one_more_made v n trees a.messages m.messages m.tree a.made m.made;
        empty = λ i below. elim (cases_eq i n) [
          | inl last ↦ ap (λ (t : Tree). t.stash) (get_or_at trees m.tree [] no_tree i (few ∙ sym last)) ∙ m.empty
          | inr earlier ↦
              let low : i < n = omega arith in
              ap (λ (t : Tree). t.stash) (get_or_append_left trees (m.tree ∷ []) no_tree i (omega arith)) ∙ a.empty i low
        ];
      })

  module _ (refusing : K → List ℕ → SinkFault → K → Type 0) (device : IsDevice v.device) (law : IsCipher v.cipher) where
    -- memory ran out after some trees
    pub broken_between : (from to : K) (n : ℕ) (trees : List Tree) (fault : FormatFault) → n ≤ trees_of v.device → AreMade v putting from n trees to → fault ≡ OutOfMemory → IsBrokenOff putting refusing (IsFormatBegun v) from fault to
    broken_between from to n trees fault few a memory = record { taken = a.messages; begun = begun_between v n trees a.messages device law few a.made; mid = to; puts = a.puts; ended = inl (memory, refl) }

    -- the next tree's formatting was broken off
    pub broken_within : (from next to : K) (n : ℕ) (trees : List Tree) (fault : FormatFault) → n < trees_of v.device → AreMade v putting from n trees next
        → IsBrokenOff putting refusing (IsBegun v.cipher v.device (formatted_below v.device n) n) next fault to → IsBrokenOff putting refusing (IsFormatBegun v) from fault to
    broken_within from next to n trees fault below a b =
        broken_after putting refusing (IsBegun v.cipher v.device (formatted_below v.device n) n) (IsFormatBegun v) from next to fault a.messages
        (λ xs s. begun_within v n trees (record { number = n; root = s.1; stash = [] }) a.messages xs s.0 device law below a.made (record { number = refl; made = s.2 })) a.puts b
