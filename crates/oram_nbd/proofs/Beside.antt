-- What a device goes on holding beside a world, call after call.
use Rattle.std.proofs.Common.{◌≡◌, Bool, List, [], ◌∷◌, ◌++◌, refl, sym, subst}
use Rattle.std.proofs.lemmas.Grind.{flat_map-append}
use Rattle.std.proofs.lemmas.List.{append-nil}
use Rattle.std.specs.List.{FoldsTo, flat_map}
use Rattle.oram_nbd.specs.Beside.{GoesOn, HadWithin}

-- Two lists of steps, one after the other. oram_link_laws has the same lemmas, but a connection uses none of that crate.
module _ {P A : Type 0} (R : P → A → P → Type 0) where
  pub folds_join : (xs ys : List A) (p q r : P) → FoldsTo R p xs q → FoldsTo R q ys r → FoldsTo R p (xs ++ ys) r
  folds_join [] ys p q r same more = subst (λ (k : P). FoldsTo R k ys r) (sym same) more
  folds_join (x ∷ xs) ys p q r first more = (first.0, first.1, folds_join xs ys first.0 q r first.2 more)

  folds_split : (xs ys : List A) (p r : P) → FoldsTo R p (xs ++ ys) r → (q : P) × FoldsTo R p xs q × FoldsTo R q ys r
  folds_split [] ys p r all = (p, refl, all)
  folds_split (x ∷ xs) ys p r all = let rest = folds_split xs ys all.0 r all.2 in (rest.0, (all.0, all.1, rest.1), rest.2)

module _ {D W E X : Type 0} {had : D → List E → D → Type 0} {hears : Bool → W → E → W → Type 0} {holds : Bool → D → W → X → Type 0} where
  -- a device that isn't called
  pub at_rest : {d : D} {step : Bool → X → X → Type 0} → ((may_lie : Bool) (world : W) (array : X) → holds may_lie d world array → step may_lie array array)
      → GoesOn had hears holds d step d
  at_rest {d = d} {step = step} stays = record {
    calls = [];
    made = refl;
    leads = λ may_lie world later run array h. (array, stays may_lie world array h, subst (λ (w : W). holds may_lie d w array) run h);
  }

  -- A weaker step may be stated of the same calls.
  pub weaker : {old new : D} {step step' : Bool → X → X → Type 0} → GoesOn had hears holds old step new
      → ((may_lie : Bool) (world : W) (array later : X) → holds may_lie old world array → step may_lie array later → step' may_lie array later) → GoesOn had hears holds old step' new
  weaker g less = record {
    calls = g.calls;
    made = g.made;
    leads = λ may_lie world later run array h. let k = g.leads may_lie world later run array h in (k.0, less may_lie world array k.0 h k.1, k.2);
  }

  -- The same, where the weaker step also follows from what the device holds afterwards.
  pub told_after : {old new : D} {step step' : Bool → X → X → Type 0} → GoesOn had hears holds old step new
      → ((may_lie : Bool) (world : W) (array later : X) → holds may_lie new world later → step may_lie array later → step' may_lie array later) → GoesOn had hears holds old step' new
  told_after g less = record {
    calls = g.calls;
    made = g.made;
    leads = λ may_lie world later run array h. let k = g.leads may_lie world later run array h in (k.0, less may_lie later array k.0 k.2 k.1, k.2);
  }

  -- calls, and then others
  pub joined_calls : {old mid new : D} {first second both : Bool → X → X → Type 0} → GoesOn had hears holds old first mid → GoesOn had hears holds mid second new
      → ((may_lie : Bool) (world : W) (array between later : X) → holds may_lie old world array → first may_lie array between → second may_lie between later → both may_lie array later)
      → GoesOn had hears holds old both new
  joined_calls {old = old} {mid = mid} {new = new} {both = both} a b joined = record {
    calls = a.calls ++ b.calls;
    made = folds_join {P = D} {A = List E} had a.calls b.calls old mid new a.made b.made;
    leads = λ may_lie world later run array h.
        let whole : FoldsTo {P = W} {A = E} (hears may_lie) world (flat_map (λ (l : List E). l) a.calls ++ flat_map (λ (l : List E). l) b.calls) later =
        subst (λ (es : List E). FoldsTo {P = W} {A = E} (hears may_lie) world es later) (flat_map-append (λ (l : List E). l) a.calls b.calls) run in
        let parts = folds_split {P = W} {A = E} (hears may_lie) (flat_map (λ (l : List E). l) a.calls) (flat_map (λ (l : List E). l) b.calls) world later whole in
        let one = a.leads may_lie world parts.0 parts.1 array h in
        let two = b.leads may_lie parts.0 later parts.2 one.0 one.2 in
        (two.0, joined may_lie world array one.0 two.0 h one.1 two.1, two.2);
  }

  -- one call, as the device says of it
  pub one_call : {old new : D} {step : Bool → X → X → Type 0} (events : List E) → had old events new
      → ((may_lie : Bool) (world later : W) → FoldsTo {P = W} {A = E} (hears may_lie) world events later → (array : X) → holds may_lie old world array
      → (next : X) × step may_lie array next × holds may_lie new later next) → GoesOn had hears holds old step new
  one_call {new = new} events was leads = record {
    calls = events ∷ [];
    made = (new, was, refl);
    leads = λ may_lie world later run array h.
        leads may_lie world later (subst (λ (es : List E). FoldsTo {P = W} {A = E} (hears may_lie) world es later) (append-nil events) run) array h;
  }

-- What several calls did to the inner device, one call did to the outer one.
module _ {O D W E X : Type 0} {had : D → List E → D → Type 0} {hears : Bool → W → E → W → Type 0} {holds : Bool → D → W → X → Type 0} (inner : O → D) where
  pub call_within : {old new : O} {after : D} {step : Bool → X → X → Type 0} → inner new ≡ after → GoesOn had hears holds (inner old) step after
      → GoesOn (λ (o : O) (events : List E) (n : O). HadWithin had (inner o) events (inner n)) hears (λ (may_lie : Bool) (o : O) (world : W) (array : X). holds may_lie (inner o) world array) old step new
  call_within {old = old} {new = new} {step = step} same g =
      let goes : GoesOn had hears holds (inner old) step (inner new) = subst (λ (d : D). GoesOn had hears holds (inner old) step d) (sym same) g in
      one_call {D = O} {W = W} {E = E} {X = X} {had = λ (o : O) (events : List E) (n : O). HadWithin had (inner o) events (inner n)}
      {holds = λ (may_lie : Bool) (o : O) (world : W) (array : X). holds may_lie (inner o) world array} {old = old} {new = new} {step = step}
      (flat_map (λ (l : List E). l) goes.calls) (goes.calls, refl, goes.made) goes.leads
