use Rattle.std.proofs.Common.{◌∷◌, ◌++◌, ◌∙◌, ◌||◌, [], Bool, List, ℕ, take, sym, ap}
use Rattle.std.specs.Prelude.{map}
use Rattle.std.specs.List.{list_any}
use Rattle.std.proofs.lemmas.List.{map-append, take_more}
use Rattle.std.proofs.lemmas.List.Folds.{list_any-append}
use Rattle.oram_store.specs.Groups.{is_store, message_of}
use Rattle.oram_store.specs.Messages.{Message}
use Rattle.oram_store.specs.declared.groups.Change.{Change}
use Rattle.oram_store.proofs.GroupBytes.{store_found}
use Rattle.oram_store.proofs.groups.has_store.Goals as goal

pub loop-change-preserved : goal.loop-change-preserved
loop-change-preserved c =
    let changes : List Change = c.args.changes.now in
    let i : ℕ = c.loop-change.change-index in
    let change : Change = c.change-item.result in
    let front : List Message = map message_of (take i changes) in
    ap (λ (some : List Change). list_any is_store (map message_of some)) (take_more changes i change c.loop-change-test.true ∙ ap (λ (ch : Change). take i changes ++ ch ∷ []) (sym c.change-item.is))
    ∙ ap (list_any is_store) (map-append message_of (take i changes) (change ∷ []))
    ∙ list_any-append is_store front (message_of change ∷ [])
    ∙ ap (λ (b : Bool). b || list_any is_store (message_of change ∷ [])) c.loop-change.invariant
    ∙ ap (λ (b : Bool). b || list_any is_store []) (sym c.is_store.ensures ∙ c.if-is_store.false)

pub returns-then-is_store : goal.returns-then-is_store
returns-then-is_store c =
    sym (store_found c.args.changes.now c.loop-change.change-index c.change-item.result c.loop-change-test.true
    (ap (λ (ch : Change). is_store (message_of ch)) (sym c.change-item.is) ∙ sym c.is_store.ensures ∙ c.if-is_store.true))
