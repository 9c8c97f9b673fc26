-- The records that STOREs of levels have for a path.
use Rattle.std.proofs.Common.{◌≡◌, ℕ, ◌+◌, ◌-◌, ◌^◌, ◌≤◌, ◌==◌, arith, true, List, [], ◌∷◌, ◌++◌, Option, Some, None, refl, sym, ap, ◌∙◌, inl, inr}
use Rattle.std.specs.Prelude.{◌↔◌, nat_le}
use Rattle.std.specs.Option.{option_or}
use Rattle.std.proofs.lemmas.Bool.{cases_lt, eq-eqb, le-leb}
use Rattle.std.proofs.lemmas.Bool.Decides.{eqb_tells, leb_tells}
use Rattle.oram_geometry.specs.Path.{MeetsAt, node_on}
use Rattle.oram_geometry.specs.Sizes.{depth_of}
use Rattle.oram_geometry.specs.declared.Sizes.{Sizes}
use Rattle.oram_host.specs.Path.{record_at}
use Rattle.oram_levels.specs.Messages.{LevelsMessage, StoreLevels}
use Rattle.oram_near.specs.Completion.{LaysOver, PutsLevels, left_by, stored_by}

pub meets_by : (depth x y l : ℕ) → node_on depth x l ≡ node_on depth y l → MeetsAt depth x y l
unfolding node_on
meets_by depth x y l e = omega (arith, e)

pub nodes_by : (depth x y l : ℕ) → MeetsAt depth x y l → node_on depth x l ≡ node_on depth y l
unfolding node_on
nodes_by depth x y l e = ap (λ (q : ℕ). 2 ^ l - 1 + q) e

module _ (d : Sizes) (len tree leaf : ℕ) where
  -- whether a STORE has a record for a level
  pub given : (t f l level : ℕ) (records : List ℕ) → t ≡ tree → f ≤ level → node_on (depth_of d tree) l level ≡ node_on (depth_of d tree) leaf level
      → stored_by d len tree leaf level (StoreLevels t f l records) ≡ Some (record_at len records (level - f))
  given t f l level records here low same =
      let one : (t == tree) ≡ true = eq-eqb t tree here in
      let two : nat_le f level ≡ true = le-leb f level low in
      let three : (node_on (depth_of d tree) l level == node_on (depth_of d tree) leaf level) ≡ true = eq-eqb _ _ same in
      rw (one, two, three) refl

  pub not_given : (t f l level : ℕ) (records : List ℕ) → (t ≡ tree → f ≤ level → node_on (depth_of d tree) l level ≡ node_on (depth_of d tree) leaf level → ⊥)
      → stored_by d len tree leaf level (StoreLevels t f l records) ≡ None
  not_given t f l level records never = elim (eqb_tells t tree) [
    | inr other ↦ rw other.0 refl
    | inl here ↦ elim (leb_tells f level) [
      | inr above ↦ rw (here.0, above.0) refl
      | inl low ↦ elim (eqb_tells (node_on (depth_of d tree) l level) (node_on (depth_of d tree) leaf level)) [
        | inr apart ↦ rw (here.0, low.0, apart.0) refl
        | inl same ↦ absurd (never here.1 low.1 same.1)
      ]
    ]
  ]

  -- a STORE that has none for the path leaves it as it is
  pub none_laid : (t f l : ℕ) (records path : List ℕ) → ((level : ℕ) → level ≤ depth_of d tree → t ≡ tree → f ≤ level → node_on (depth_of d tree) l level ≡ node_on (depth_of d tree) leaf level → ⊥)
      → LaysOver d len tree leaf (StoreLevels t f l records ∷ []) path path
  none_laid t f l records path never = record {
    long = refl;
    each = λ level low. sym (ap (λ (o : Option (List ℕ)). option_or o (Some (record_at len path level))) (not_given t f l level records (never level low)));
  }

  -- a STORE whose path shares the levels down to `shared`
  pub levels_laid : (t f l shared : ℕ) (records path new : List ℕ) → t ≡ tree → f ≤ shared → shared ≤ depth_of d tree
      → ((level : ℕ) → level ≤ depth_of d tree → (MeetsAt (depth_of d tree) leaf l level) ↔ (level ≤ shared))
      → PutsLevels len f (shared - f + 1) records path new → LaysOver d len tree leaf (StoreLevels t f l records ∷ []) path new
  levels_laid t f l shared records path new here low deep meets puts = record {
    long = puts.long;
    each = λ level within. elim (cases_lt level f) [
      | inl above ↦
          ap (λ (r : List ℕ). Some r) (puts.above level above)
          ∙ sym (ap (λ (o : Option (List ℕ)). option_or o (Some (record_at len path level))) (not_given t f l level records (λ _ at _. absurd (omega (arith, at, above)))))
      | inr at ↦ elim (cases_lt shared level) [
        | inl below ↦
            let never : node_on (depth_of d tree) l level ≡ node_on (depth_of d tree) leaf level → ⊥ =
            λ e. let high = (meets level within).0 (meets_by (depth_of d tree) leaf l level (sym e)) in omega (arith, high, below) in
            ap (λ (r : List ℕ). Some r) (puts.below level (omega (arith, below, low)))
            ∙ sym (ap (λ (o : Option (List ℕ)). option_or o (Some (record_at len path level))) (not_given t f l level records (λ _ _ e. never e)))
        | inr high ↦
            let same = nodes_by (depth_of d tree) leaf l level ((meets level within).1 high) in
            ap (λ (r : List ℕ). Some r) (puts.put level at (omega (arith, high, low)))
            ∙ sym (ap (λ (o : Option (List ℕ)). option_or o (Some (record_at len path level))) (given t f l level records here at (sym same)))
      ]
    ];
  }

  -- one STORE more
  left_more : (level : ℕ) (messages : List LevelsMessage) (message : LevelsMessage) (old : Option (List ℕ))
      → left_by d len tree leaf level (messages ++ message ∷ []) old ≡ left_by d len tree leaf level (message ∷ []) (left_by d len tree leaf level messages old)
  left_more level [] message old = refl
  left_more level (m ∷ messages) message old = left_more level messages message (option_or (stored_by d len tree leaf level m) old)

  pub lays_more : (messages : List LevelsMessage) (message : LevelsMessage) (old mid new : List ℕ) → LaysOver d len tree leaf messages old mid
      → LaysOver d len tree leaf (message ∷ []) mid new → LaysOver d len tree leaf (messages ++ message ∷ []) old new
  lays_more messages message old mid new before here = record {
    long = here.long ∙ before.long;
    each = λ level low.
        here.each level low ∙ ap (left_by d len tree leaf level (message ∷ [])) (before.each level low)
        ∙ sym (left_more level messages message (Some (record_at len old level)));
  }
