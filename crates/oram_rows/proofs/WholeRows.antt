-- The rows of an answer, and the records for them.
use Rattle.std.proofs.Common.{◌≡◌, ◌≢◌, ℕ, ◌+◌, ◌*◌, ◌^◌, ◌<◌, ◌≤◌, ◌==◌, nat_lt, if◌then◌else◌, Bool, true, false, arith, List, [], ◌∷◌, ◌++◌, length, map, drop, inl, inr, refl, sym, ap, ◌∙◌, subst, append_assoc, append-nil, Bor}
use Rattle.std.specs.Prelude.{Option, None, Some, MatchOption, unwrap_or}
use Rattle.std.specs.Option.{option_copied}
use Rattle.std.specs.List.{AllByRecursion}
use Rattle.std.proofs.Math.Nat.{pow-le-pow_right}
use Rattle.std.proofs.lemmas.Bool.{cases_eq, cases_lt}
use Rattle.std.proofs.lemmas.Bool.Decides.{nat_tests}
use Rattle.std.proofs.lemmas.List.{length-append, map-append}
use Rattle.std.proofs.lemmas.Nat.{pow-add, pow_pos}
use Rattle.oram_geometry.specs.Path.{node_on}
use Rattle.oram_geometry.specs.Sizes.{depth_of, trees_of}
use Rattle.oram_wire.specs.HostMessages.{payload_answer}
use Rattle.oram_records.specs.Messages.{row_text, rows_text}
use Rattle.oram_records.specs.declared.request.RecordsRequest.{RecordsRequest}
use Rattle.oram_near.specs.Completion.{ClientRecords}
use Rattle.oram_near.specs.EmptyRecords.{AreEmptyRecords, WithRest}
use Rattle.oram_near.specs.Near.{near_record}
use Rattle.oram_near.specs.NearLevels.{nodes_of}
use Rattle.oram_near.specs.PathRequests.{first_far}
use Rattle.oram_rows.specs.Rows.{AreRows, AreWholeRows, HasRows, IsMadeRow, IsWholeAnswer, IsWholeRow, KnownValue, client_of, records_answer}
use Rattle.oram_rows.proofs.Places.{level_bounds, level_from}
use Rattle.oram_rows.proofs.RowTexts.{IsLong, all_inside, all_more, rows_front, text_more}

-- nodes with one number have one level
pub one_level : (depth a b i j : ℕ) → a < 2 ^ depth → b < 2 ^ depth → i ≤ depth → j ≤ depth → node_on depth a i ≡ node_on depth b j → i ≡ j
one_level depth a b i j a_in b_in i_in j_in same =
    let x = level_bounds depth a i a_in i_in in
    let y = level_bounds depth b j b_in j_in in
    let up : i ≤ j = level_from (node_on depth a i + 1) i j x.0 (omega (arith, same, y.1)) in
    let down : j ≤ i = level_from (node_on depth a i + 1) j i (omega (arith, same, y.0)) x.1 in
    omega (arith, up, down)

-- The record that the formatting made for one level and leaf of a node is that for any other ones.
pub made_row : (c : ClientRecords) (len tree leaf level node : ℕ) → AreEmptyRecords c.device len c.empty → tree < trees_of c.device → leaf < 2 ^ depth_of c.device tree → level ≤ depth_of c.device tree
    → node_on (depth_of c.device tree) leaf level ≡ node → IsMadeRow c tree node (c.empty tree leaf level)
made_row c len tree leaf level node are tree_in leaf_in within there other l other_in l_in also =
    let depth = depth_of c.device tree in
    let same : level ≡ l = one_level depth leaf other level l leaf_in other_in within l_in (there ∙ sym also) in
    let meets : node_on depth leaf level ≡ node_on depth other level = there ∙ sym also ∙ ap (node_on depth other) (sym same) in
    are.one tree leaf other level tree_in leaf_in other_in within meets ∙ ap (c.empty tree other) same

-- for a host that has carried out all STOREs
module _ {E : Type 0} (record_at : WithRest E → ℕ → ℕ → ℕ → List ℕ) (k : KnownValue E) (tree node : ℕ) where
  c : ClientRecords
  c = client_of record_at k

  pub near_row : (row : Option (List ℕ)) → tree ≡ 0 → node < nodes_of k.near.levels → IsWholeRow (client_of record_at k) tree node row (near_record k.near node)
  near_row row first low leaf level leaf_in within there =
      let depth = depth_of k.device tree in
      let bounds = level_bounds depth leaf level leaf_in within in
      let top : level < k.near.levels = elim (cases_lt level k.near.levels) [
        | inl below ↦ below
        | inr over ↦
            let up : 2 ^ k.near.levels ≤ 2 ^ level = pow-le-pow_right (omega arith) over in
            absurd (omega (arith, bounds.0, there, low, up, pow_pos k.near.levels))
      ] in
      let far : first_far k.near.levels tree ≡ k.near.levels = ap (λ (b : Bool). if b then k.near.levels else 0) (let e : (tree == 0) ≡ true = grind (arith, nat_tests, first) in e) in
      let test : nat_lt level (first_far k.near.levels tree) ≡ true = grind (arith, nat_tests, far, top) in
      ap (near_record k.near) (sym there) ∙ sym (ap (λ (b : Bool). if b then near_record k.near (node_on depth leaf level) else unwrap_or row (record_at k.empty tree leaf level)) test)

  -- the level of a node that isn't near
  far_level : (leaf level : ℕ) → leaf < 2 ^ depth_of k.device tree → level ≤ depth_of k.device tree → node_on (depth_of k.device tree) leaf level ≡ node
      → ((tree ≡ 0) × (node < nodes_of k.near.levels) → ⊥) → nat_lt level (first_far k.near.levels tree) ≡ false
  far_level leaf level leaf_in within there out = elim (cases_eq tree 0) [
    | inl first ↦
        let bounds = level_bounds (depth_of k.device tree) leaf level leaf_in within in
        let high : k.near.levels ≤ level = elim (cases_lt level k.near.levels) [
          | inl below ↦
              let up : 2 ^ (level + 1) ≤ 2 ^ k.near.levels = pow-le-pow_right (omega arith) (omega (arith, below)) in
              let twice : 2 ^ (level + 1) ≡ 2 ^ level * 2 = pow-add 2 level 1 in
              absurd (out (first, omega (arith, bounds.1, there, up, twice)))
          | inr above ↦ above
        ] in
        let far : first_far k.near.levels tree ≡ k.near.levels = ap (λ (b : Bool). if b then k.near.levels else 0) (let e : (tree == 0) ≡ true = grind (arith, nat_tests, first) in e) in
        grind (arith, nat_tests, far, high)
    | inr other ↦
        let far : first_far k.near.levels tree ≡ 0 = ap (λ (b : Bool). if b then k.near.levels else 0) (let e : (tree == 0) ≡ false = grind (arith, nat_tests, other) in e) in
        grind (arith, nat_tests, far)
  ]

  pub far_row : (row : Option (List ℕ)) (r : List ℕ) → ((tree ≡ 0) × (node < nodes_of k.near.levels) → ⊥)
      → ((leaf level : ℕ) → leaf < 2 ^ depth_of k.device tree → level ≤ depth_of k.device tree → node_on (depth_of k.device tree) leaf level ≡ node → r ≡ unwrap_or row (record_at k.empty tree leaf level))
      → IsWholeRow (client_of record_at k) tree node row r
  far_row row r out is leaf level leaf_in within there =
      is leaf level leaf_in within there
      ∙ sym (ap (λ (b : Bool). if b then near_record k.near (node_on (depth_of k.device tree) leaf level) else unwrap_or row (record_at k.empty tree leaf level)) (far_level leaf level leaf_in within there out))

-- the rows of one node more
rows_more : (c : ClientRecords) (tree node : ℕ) (rows : List (Option (List ℕ))) (records : List (List ℕ)) (row : Option (List ℕ)) (r : List ℕ) → AreWholeRows c tree node rows records
    → IsWholeRow c tree (node + length rows) row r → AreWholeRows c tree node (rows ++ row ∷ []) (records ++ r ∷ [])
rows_more c tree node [] records row r are is =
    let here : node + 0 ≡ node = omega arith in
    subst (λ (rs : List (List ℕ)). AreWholeRows c tree node (row ∷ []) (rs ++ r ∷ [])) (sym are) (subst (λ (n : ℕ). IsWholeRow c tree n row r) here is, refl)
rows_more c tree node (a ∷ rows) [] row r are is = absurd are
rows_more c tree node (a ∷ rows) (x ∷ records) row r are is =
    let next : node + length (a ∷ rows) ≡ node + 1 + length rows = omega arith in
    (are.0, rows_more c tree (node + 1) rows records row r are.1 (subst (λ (n : ℕ). IsWholeRow c tree n row r) next is))

-- The text of an answer begins with so many rows, and the whole answer so far has the records for them.
pub record HasGone (c : ClientRecords) (r : RecordsRequest) (count : ℕ) (text rest given : List ℕ) : Type 0 where
  pub rows : List (Option (List ℕ))
  pub are : AreRows c.near.record_len count rows
  pub text_is : text ≡ rows_text rows ++ rest
  pub records : List (List ℕ)
  pub whole : AreWholeRows c r.tree r.first rows records
  pub given_is : given ≡ records_answer records

module _ (c : ClientRecords) (r : RecordsRequest) where
  pub none_gone : (text : List ℕ) → HasGone c r 0 text text (records_answer [])
  none_gone text = record { rows = []; are = record { count_is = refl; long = tt }; text_is = refl; records = []; whole = refl; given_is = refl }

  pub one_more : (count : ℕ) (text rest behind given new : List ℕ) (row : Option (List ℕ)) (it : List ℕ) → HasGone c r count text rest given → IsLong c.near.record_len row
      → rest ≡ row_text row ++ behind → IsWholeRow c r.tree (r.first + count) row it → new ≡ given ++ row_text (Some it) → HasGone c r (count + 1) text behind new
  one_more count text rest behind given new row it gone long split is new_is = record {
    rows = gone.rows ++ row ∷ [];
    are = record { count_is = length-append gone.rows (row ∷ []) ∙ ap (λ (n : ℕ). n + 1) gone.are.count_is; long = all_more (IsLong c.near.record_len) gone.rows row gone.are.long long };
    text_is = gone.text_is ∙ ap (λ (t : List ℕ). rows_text gone.rows ++ t) split ∙ sym (append_assoc (rows_text gone.rows) (row_text row) behind)
        ∙ ap (λ (t : List ℕ). t ++ behind) (sym (text_more gone.rows row));
    records = gone.records ++ it ∷ [];
    whole = rows_more c r.tree r.first gone.rows gone.records row it gone.whole (subst (λ (n : ℕ). IsWholeRow c r.tree (r.first + n) row it) (sym gone.are.count_is) is);
    given_is = new_is ∙ ap (λ (t : List ℕ). t ++ row_text (Some it)) gone.given_is
        ∙ ap payload_answer (sym (text_more (map Some gone.records) (Some it)) ∙ ap rows_text (sym (map-append Some gone.records (it ∷ []))));
  }

  -- what it comes to if the answer has all rows and nothing behind them
  pub all_gone : (answer text given : List ℕ) → HasGone c r r.count text [] given → answer ≡ payload_answer text → (has : HasRows c.near.record_len r answer) × IsWholeAnswer c r has.rows given
  all_gone answer text given gone is = (
    record { rows = gone.rows; are = gone.are; spelled = is ∙ ap payload_answer (gone.text_is ∙ append-nil (rows_text gone.rows)) },
    record { records = gone.records; whole = gone.whole; given_is = gone.given_is },
  )

  -- an answer that has all rows, and begins with some, goes on with the others
  goes_on : (count : ℕ) (answer text rest given : List ℕ) (gone : HasGone c r count text rest given) → answer ≡ payload_answer text → count ≤ r.count → (has : HasRows c.near.record_len r answer)
      → (more : List (Option (List ℕ))) × (has.rows ≡ gone.rows ++ more) × (rest ≡ rows_text more)
  goes_on count answer text rest given gone is within has =
      rows_front c.near.record_len gone.rows has.rows rest gone.are.long has.are.long (omega (arith, gone.are.count_is, has.are.count_is))
      (sym gone.text_is ∙ ap (drop 1) (sym is ∙ has.spelled))

  -- an answer with something behind the rows hasn't these rows
  pub too_long : (answer text rest given : List ℕ) → HasGone c r r.count text rest given → answer ≡ payload_answer text → rest ≢ [] → HasRows c.near.record_len r answer → ⊥
  too_long answer text rest given gone is some has = by (goes_on r.count answer text rest given gone is (omega arith) has)
    where
      by : ((more : List (Option (List ℕ))) × (has.rows ≡ gone.rows ++ more) × (rest ≡ rows_text more)) → ⊥
      by ([], all, text_is) = some text_is
      by (x ∷ more, all, text_is) = absurd (omega (arith, gone.are.count_is, has.are.count_is, ap length all, length-append gone.rows (x ∷ more)))

  -- nor has one that has no row where the next one would be
  pub no_row : (count : ℕ) (answer text rest given : List ℕ) → HasGone c r count text rest given → answer ≡ payload_answer text → count < r.count
      → ((row : Option (List ℕ)) (behind : List ℕ) → IsLong c.near.record_len row → rest ≢ row_text row ++ behind) → HasRows c.near.record_len r answer → ⊥
  no_row count answer text rest given gone is within none has = by (goes_on count answer text rest given gone is (omega arith) has)
    where
      by : ((more : List (Option (List ℕ))) × (has.rows ≡ gone.rows ++ more) × (rest ≡ rows_text more)) → ⊥
      by ([], all, text_is) = absurd (omega (arith, gone.are.count_is, has.are.count_is, ap length all, length-append gone.rows []))
      by (x ∷ more, all, text_is) =
          none x (rows_text more) (all_inside (IsLong c.near.record_len) gone.rows more x (subst (AllByRecursion (IsLong c.near.record_len)) all has.are.long)) text_is

-- a row that was split off a text
pub split_is : (len : ℕ) (rest behind : List ℕ) (row : Option (Bor (List ℕ))) → MatchOption row (rest ≡ row_text None ++ behind) (λ bytes. (length bytes.now ≡ len) × (rest ≡ row_text (Some bytes.now) ++ behind))
    → IsLong len (option_copied row) × (rest ≡ row_text (option_copied row) ++ behind)
split_is len rest behind None is = (tt, is)
split_is len rest behind (Some bytes) is = is

-- what is behind the last row
pub nothing_left : (rest : List ℕ) (b : Bool) → b ≡ (length rest == 0) → b ≡ true → rest ≡ []
nothing_left [] b test holds = refl
nothing_left (x ∷ rest) b test holds =
    let e : (length (x ∷ rest) == 0) ≡ true = sym test ∙ holds in
    let none : length (x ∷ rest) ≡ 0 = grind (arith, nat_tests, e) in
    absurd (omega (arith, none))

pub something_left : (rest : List ℕ) (b : Bool) → b ≡ (length rest == 0) → b ≡ false → rest ≢ []
something_left rest b test fails none = let both : true ≡ false = sym (ap (λ (xs : List ℕ). length xs == 0) none) ∙ sym test ∙ fails in cc
