-- Trees that agree still do after the other steps, which don't change their content.
use Rattle.std.proofs.Common.{◌≡◌, ℕ, ◌+◌, ◌*◌, ◌/◌, ◌%◌, ◌^◌, ◌<◌, ◌≤◌, ◌==◌, if◌then◌else◌, List, [], ◌∷◌, length, slice_index, ap, sym, ◌∙◌, subst, arith}
use Rattle.oram_geometry.specs.Sizes.{trees_of, depth_of, fanout}
use Rattle.oram_semantics.specs.Scheme.{Scheme}
use Rattle.oram_semantics.specs.Content.{block_of, new_leaf}
use Rattle.oram_semantics.specs.State.{State, World, map_entry_of}
use Rattle.oram_semantics.specs.Blocks.{found_in, entry_in}
use Rattle.oram_semantics.specs.Agree.{map_entry_for, next_tree, IsAmid, IsBetween, AtBetween, IsNext, Agrees}
use Rattle.oram_semantics.specs.declared.events.Submission.{Submission}

pub map_entry_kept : (v : Scheme) (s t : State) (w w' : World) (k b : ℕ) → t.table ≡ s.table
    → ((i c : ℕ) → w'.content i c ≡ w.content i c) → map_entry_for v t w' k b ≡ map_entry_for v s w k b
map_entry_kept v s t w w' k b table content =
    ap (λ xs. if k + 1 == trees_of v.device then slice_index xs b else entry_in (found_in v.device (w'.content (k + 1) (b / fanout v.device))) (b % fanout v.device)) table
    ∙ ap (λ o. if k + 1 == trees_of v.device then slice_index s.table b else entry_in (found_in v.device o) (b % fanout v.device)) (content (k + 1) (b / fanout v.device))

pub agrees_kept : (v : Scheme) (s t : State) (w w' : World) → t.table ≡ s.table
    → ((i c : ℕ) → w'.content i c ≡ w.content i c) → ((k b : ℕ) → IsNext v s s.queue k b → IsNext v t t.queue k b)
    → AtBetween v t w' t.queue → Agrees v s w → Agrees v t w'
agrees_kept v s t w w' table content next between a = record {
  sized = λ i b few. ap (λ o. length (found_in v.device o)) (content i b) ∙ a.sized i b few;
  leaves = λ i b few. subst (λ o. map_entry_of o ≤ 2 ^ depth_of v.device i) (sym (content i b)) (a.leaves i b few);
  others = λ i b few inside off. map_entry_kept v s t w w' i b table content ∙ a.others i b few inside (λ n. off (next i b n)) ∙ sym (ap map_entry_of (content i b));
  between = between;
}

pub at_rest : (v : Scheme) (t : State) (w : World) (queue : List Submission) → t.entry_number ≡ 0 → AtBetween v t w queue
at_rest v t w [] e = tt
at_rest v t w (x ∷ rest) e = λ amid. absurd (let more : 0 < t.entry_number = amid.0 in omega arith)

no_next : (v : Scheme) (s t : State) (queue other : List Submission) (k b : ℕ) → 2 * trees_of v.device ≤ s.entry_number + 1
    → IsNext v s queue k b → IsNext v t other k b
no_next v s t [] other k b late n = absurd n
no_next v s t (x ∷ rest) other k b late n = absurd (let more : s.entry_number + 1 < 2 * trees_of v.device = n.0.1 in omega arith)

-- the last good answer of a command
pub agrees_finished : (v : Scheme) (s t : State) (w w' : World) → t.table ≡ s.table
    → ((i c : ℕ) → w'.content i c ≡ w.content i c) → s.entry_number + 1 ≡ 2 * trees_of v.device → t.entry_number ≡ 0 → Agrees v s w
    → Agrees v t w'
agrees_finished v s t w w' table content last first a =
    agrees_kept v s t w w' table content (λ k b n. no_next v s t s.queue t.queue k b (omega arith) n) (at_rest v t w' t.queue first) a

-- a good answer to a STORE in the middle of a command
pub agrees_fetched : (v : Scheme) (s t : State) (w w' : World) (x : Submission) (rest : List Submission) → s.queue ≡ x ∷ rest
    → t.queue ≡ x ∷ rest → t.table ≡ s.table → t.held_entry ≡ s.held_entry → ((i c : ℕ) → w'.content i c ≡ w.content i c)
    → s.entry_number % 2 ≡ 1 → s.entry_number + 1 < 2 * trees_of v.device → t.entry_number ≡ s.entry_number + 1 → Agrees v s w → Agrees v t w'
agrees_fetched v s t w w' x rest qu qu' table held_entry content odd more entry_number a =
    let same : next_tree v s ≡ next_tree v t = omega arith in
    let amid : IsAmid v s = (omega arith, more) in
    let was : IsBetween v s w x = (subst (AtBetween v s w) qu a.between) amid in
    agrees_kept v s t w w' table content
    (λ k b n. subst (λ y. IsNext v t y k b) (sym qu') (let m : IsNext v s (x ∷ rest) k b = subst (λ y. IsNext v s y k b) qu n in ((omega arith, omega arith), m.1 ∙ same, m.2)))
    (subst (AtBetween v t w') (sym qu') (λ now. record {
      held = held_entry ∙ was.held ∙ ap (λ i. map_entry_of (w.content i (block_of v.device i x))) same
          ∙ sym (ap map_entry_of (content (next_tree v t) (block_of v.device (next_tree v t) x)));
      ahead = map_entry_kept v s t w w' (next_tree v t) (block_of v.device (next_tree v t) x) table content
          ∙ subst (λ i. map_entry_for v s w i (block_of v.device i x) ≡ new_leaf v.device i x + 1) same was.ahead;
    })) a
