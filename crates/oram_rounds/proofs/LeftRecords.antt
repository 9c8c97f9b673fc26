-- The records that STOREs leave, one after the other.
use Rattle.std.proofs.Math.Path.{fun_ext}
use Rattle.std.proofs.Common.{◌≡◌, ℕ, List, [], ◌∷◌, ◌++◌, Option, Some, None, unwrap_or, refl, sym, ap, ◌∙◌, inl, inr}
use Rattle.oram_semantics.specs.Messages.{written}
use Rattle.oram_semantics.specs.Moves.{records_after}
use Rattle.oram_semantics.specs.Scheme.{Scheme}
use Rattle.oram_link_laws.specs.Repair.{IsAmong}
use Rattle.oram_rounds.specs.CatchUp.{left_by}

module _ (v : Scheme) where
  -- what is left at a node depends only on what was there
  pub left_same : (stores : List (List ℕ)) (r q : ℕ → ℕ → List ℕ) (i n : ℕ) → r i n ≡ q i n → left_by v r stores i n ≡ left_by v q stores i n
  left_same [] r q i n same = same
  left_same (body ∷ stores) r q i n same =
      left_same stores (records_after v r (body ∷ [])) (records_after v q (body ∷ [])) i n (ap (λ (x : List ℕ). unwrap_or (written v body i n) x) same)

  -- and not even on that, if one of the STOREs sets the node
  left_over : (stores : List (List ℕ)) (r q : ℕ → ℕ → List ℕ) (i n : ℕ) (m x : List ℕ) → IsAmong m stores → written v m i n ≡ Some x
      → left_by v r stores i n ≡ left_by v q stores i n
  left_over [] r q i n m x among sets = absurd among
  left_over (body ∷ stores) r q i n m x (inl first) sets =
      let here : written v body i n ≡ Some x = ap (λ (b : List ℕ). written v b i n) (sym first) ∙ sets in
      left_same stores (records_after v r (body ∷ [])) (records_after v q (body ∷ [])) i n
      (ap (λ (o : Option (List ℕ)). unwrap_or o (r i n)) here ∙ sym (ap (λ (o : Option (List ℕ)). unwrap_or o (q i n)) here))
  left_over (body ∷ stores) r q i n m x (inr later) sets =
      left_over stores (records_after v r (body ∷ [])) (records_after v q (body ∷ [])) i n m x later sets

  absorbed_at : (stores : List (List ℕ)) (r : ℕ → ℕ → List ℕ) (m : List ℕ) → IsAmong m stores → (i n : ℕ) (o : Option (List ℕ)) → written v m i n ≡ o
      → left_by v (records_after v r (m ∷ [])) stores i n ≡ left_by v r stores i n
  absorbed_at stores r m among i n None sets =
      left_same stores (records_after v r (m ∷ [])) r i n (ap (λ (o : Option (List ℕ)). unwrap_or o (r i n)) sets)
  absorbed_at stores r m among i n (Some x) sets = left_over stores (records_after v r (m ∷ [])) r i n m x among sets

  -- one of the STOREs, carried out before all of them, leaves nothing else
  pub absorbed : (stores : List (List ℕ)) (r : ℕ → ℕ → List ℕ) (m : List ℕ) → IsAmong m stores
      → left_by v (records_after v r (m ∷ [])) stores ≡ left_by v r stores
  absorbed stores r m among = fun_ext (λ i. fun_ext (λ n. absorbed_at stores r m among i n (written v m i n) refl))

  pub left_append : (stores more : List (List ℕ)) (r : ℕ → ℕ → List ℕ) → left_by v r (stores ++ more) ≡ left_by v (left_by v r stores) more
  left_append [] more r = refl
  left_append (body ∷ stores) more r = left_append stores more (records_after v r (body ∷ []))
