-- How the reading of a tree goes on.
use Rattle.std.proofs.Common.{◌≡◌, ℕ, ◌+◌, ◌^◌, ◌<◌, ◌≤◌, arith, ap, sym, ◌∙◌, refl, subst, List, [], ◌∷◌, ◌++◌, length, map, Some, None, sum_by, zero, suc, append_assoc}
use Rattle.std.specs.List.{All, FoldsTo}
use Rattle.std.proofs.lemmas.List.{append-nil, map-append}
use Rattle.std.proofs.lemmas.Grind.{flat_map-append}
use Rattle.std.proofs.lemmas.List.Elements.{All-append, All-nil}
use Rattle.std.proofs.Math.Nat.{pow-le-pow_right}
use Rattle.oram_records.specs.Messages.{row_text, rows_text}
use Rattle.oram_scan.specs.Laws.{Row, Takes}
use Rattle.oram_scan.specs.Scan.{IsFinding, Scan, node_count}
use Rattle.oram_scan.specs.declared.tree_scan.Finding.{Finding}
use Rattle.oram_scan.specs.declared.tree_scan.Finding.TheVariants.{Sound, Changed, Unchecked}
use Rattle.oram_export.specs.Findings.{IsCounted, count_of, finding_of}
use Rattle.oram_export.specs.Stages.{HasLength, IsFurther, IsUnderWay, Stage, TakesRow, TakesRows, record_in}
use Rattle.oram_export.specs.declared.progress.TreeProgress.{TreeProgress}
use Rattle.oram_export.proofs.Counting.{counted_length, counted_sum}

-- a tree has fewer than 2 ^ 25 nodes
pub few_nodes : (depth : ℕ) → depth ≤ 24 → node_count depth < 2 ^ 25
few_nodes depth deep = let most : 2 ^ (depth + 1) ≤ 2 ^ 25 = pow-le-pow_right {n = 2} (omega arith) {i = depth + 1} {j = 25} (omega arith) in omega arith

pub folds-append : {P A : Type 0} (R : P → A → P → Type 0) (p : P) (xs : List A) (q : P) (ys : List A) (r : P) → FoldsTo R p xs q → FoldsTo R q ys r → FoldsTo R p (xs ++ ys) r
folds-append R p [] q ys r first second = subst (λ s. FoldsTo R s ys r) (sym first) second
folds-append R p (x ∷ xs) q ys r (j, one, rest) second = (j, one, folds-append R j xs q ys r rest second)

All-one : (len : ℕ) (row : Row) → HasLength len row → All (HasLength len) (row ∷ [])
All-one len row long zero d below = long
All-one len row long (suc k) d below = absurd (omega arith)

-- what a scan keeps over a row
pub record IsNext (s t : Scan) : Type 0 where
  pub within : s.node < node_count s.depth
  pub depth : t.depth ≡ s.depth
  pub record_len : t.record_len ≡ s.record_len
  pub node : t.node ≡ s.node + 1

found_next : (s : Scan) (r : List ℕ) (finding : Finding) (t : Scan) → s.node < node_count s.depth → IsFinding s r finding t → IsNext s t
found_next s r Sound t within is = record { within = within; depth = ap (λ x. x.depth) is.1; record_len = ap (λ x. x.record_len) is.1; node = ap (λ x. x.node) is.1 }
found_next s r Changed t within is = record { within = within; depth = ap (λ x. x.depth) is.3; record_len = ap (λ x. x.record_len) is.3; node = ap (λ x. x.node) is.3 }
found_next s r Unchecked t within is = record { within = within; depth = ap (λ x. x.depth) is.1; record_len = ap (λ x. x.record_len) is.1; node = ap (λ x. x.node) is.1 }

pub takes_next : (s : Scan) (row : Row) (t : Scan) → Takes s row t → IsNext s t
takes_next s None t takes = record { within = takes.0; depth = ap (λ x. x.depth) takes.1; record_len = ap (λ x. x.record_len) takes.1; node = ap (λ x. x.node) takes.1 }
takes_next s (Some (r, finding)) t takes = found_next s r finding t takes.0 takes.1

pub further_by_one : (p q : TreeProgress) (row : Row) → IsUnderWay p → Takes p.scan row q.scan → IsCounted p.findings p.scan.node (finding_of row) q.findings → IsFurther p q 1
further_by_one p q row under takes counted =
    let next = takes_next p.scan row q.scan takes in
    let length_is : length p.findings ≡ p.scan.depth + 1 = under.levels in
    let power : 2 ^ length p.findings ≡ 2 ^ (p.scan.depth + 1) = ap (λ (n : ℕ). 2 ^ n) length_is in
    let inside : p.scan.node < node_count p.scan.depth = next.within in
    let within : p.scan.node + 1 < 2 ^ length p.findings = omega (arith, power, inside) in
    let sum : sum_by count_of q.findings ≡ sum_by count_of p.findings + 1 = counted_sum p.findings q.findings p.scan.node (finding_of row) counted within in
    let long : length q.findings ≡ length p.findings = counted_length p.findings q.findings p.scan.node (finding_of row) counted in
    let depth_is : q.scan.depth ≡ p.scan.depth = next.depth in
    let len_is : q.scan.record_len ≡ p.scan.record_len = next.record_len in
    let node_is : q.scan.node ≡ p.scan.node + 1 = next.node in
    record {
      depth = depth_is;
      node = node_is;
      under_way = record {
        deep = let d = under.deep in omega (arith, depth_is, d);
        long = let l = under.long in omega (arith, len_is, l);
        levels = omega (arith, long, length_is, depth_is);
        nodes = let n = under.nodes in omega (arith, sum, n, node_is);
      };
    }

-- one row
pub one_row : {T : Type 0} (sees : T → List ℕ → T → Type 0) (len : ℕ) (a b : Stage T) (row : Row) (text : List ℕ) → text ≡ row_text (record_in row) → HasLength len row → TakesRow sees a row b
    → TakesRows sees len a text b
one_row sees len a b row text is long takes = record {
  rows = row ∷ [];
  spelled = is ∙ sym (append-nil (row_text (record_in row)));
  long = All-one len row long;
  takes = (b, takes, refl);
}

-- rows after others
pub more_rows : {T : Type 0} (sees : T → List ℕ → T → Type 0) (len : ℕ) (a b c : Stage T) (first second : List ℕ) → TakesRows sees len a first b → TakesRows sees len b second c
    → TakesRows sees len a (first ++ second) c
more_rows sees len a b c first second p q = record {
  rows = p.rows ++ q.rows;
  spelled = ap (λ (t : List ℕ). t ++ second) p.spelled ∙ ap (λ (t : List ℕ). rows_text (map record_in p.rows) ++ t) q.spelled
      ∙ sym (flat_map-append row_text (map record_in p.rows) (map record_in q.rows)) ∙ ap rows_text (sym (map-append record_in p.rows q.rows));
  long = All-append (HasLength len) p.rows q.rows p.long q.long;
  takes = folds-append (TakesRow sees) a p.rows b q.rows c p.takes q.takes;
}

-- no rows
pub no_rows : {T : Type 0} (sees : T → List ℕ → T → Type 0) (len : ℕ) (a : Stage T) → TakesRows sees len a [] a
no_rows sees len a = record { rows = []; spelled = refl; long = All-nil (HasLength len); takes = refl }

-- two steps after one another
pub further_again : (p q r : TreeProgress) (m n k : ℕ) → m + n ≡ k → IsFurther p q m → IsFurther q r n → IsFurther p r k
further_again p q r m n k is first second = record {
  depth = second.depth ∙ first.depth;
  node = omega (arith, first.node, second.node);
  under_way = second.under_way;
}

pub not_further : (p : TreeProgress) → IsUnderWay p → IsFurther p p 0
not_further p under = record { depth = refl; node = omega arith; under_way = under }

-- a row after others
pub one_row_more : {T : Type 0} (sees : T → List ℕ → T → Type 0) (len : ℕ) (a b c : Stage T) (all rest last : List ℕ)
    → (text : List ℕ) × (all ≡ text ++ rest) × TakesRows sees len a text b → (row : List ℕ) × (rest ≡ row ++ last) × TakesRows sees len b row c
    → (text : List ℕ) × (all ≡ text ++ last) × TakesRows sees len a text c
one_row_more sees len a b c all rest last (text, is, takes) (row, here, one) =
    (text ++ row, is ∙ ap (λ (t : List ℕ). text ++ t) here ∙ sym (append_assoc text row last), more_rows sees len a b c text row takes one)
