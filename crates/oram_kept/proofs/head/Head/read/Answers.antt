use Rattle.std.proofs.Common.{◌≡◌, ◌∙◌, ℕ, ◌-◌, List, ◌++◌, length, drop, take_all, length-drop, sym, ap, ap₂, arith}
use Rattle.std.proofs.lemmas.Bool.{false≢true}
use Rattle.oram_kept.specs.Reading.{said_bytes}
use Rattle.oram_kept.specs.declared.head.Head.{Head}
use Rattle.oram_kept.proofs.Heads.{has_room, head_cut, said_again, says}
use Rattle.oram_redo.specs.Log.{check_bytes}
use Rattle.oram_kept.proofs.head.Head.read.Goals as goal

pub returns-then-not-is_check_of-clause-found : goal.returns-then-not-is_check_of-clause-found
returns-then-not-is_check_of-clause-found c p room is =
    let cut = head_cut p c.split_at.result.0.now c.split_at.result.1.now c.args.bytes.now c.split_at.ensures.front_len c.split_at.ensures.by_index.0 is in
    absurd (false≢true (sym c.if-not-is_check_of.true ∙ c.is_check_of.ensures.1 cut.1))

pub returns-then-not-has_room-clause-found : goal.returns-then-not-has_room-clause-found
returns-then-not-has_room-clause-found c p room is =
    let said : List ℕ = c.split_at.result.0.now in
    let head : Head = record { before = c.eight_bytes_in.result; table = c.eight_bytes_in-2.result; after = c.eight_bytes_in-3.result; records = c.eight_bytes_in-4.result; check = c.eight_bytes_in-5.result } in
    let cut = head_cut p said c.split_at.result.1.now c.args.bytes.now c.split_at.ensures.front_len c.split_at.ensures.by_index.0 is in
    let again : said ≡ said_bytes head =
    said_again said head c.split_at.ensures.front_len c.eight_bytes_in.ensures c.eight_bytes_in-2.ensures c.eight_bytes_in-3.ensures c.eight_bytes_in-4.ensures
    (c.eight_bytes_in-5.ensures ∙ take_all (length said - 32) (drop 32 said) (omega (arith, length-drop 32 said))) in
    absurd (false≢true (sym c.if-not-has_room.true ∙ c.has_room.ensures.1 (has_room head p (sym cut.0 ∙ again) room (c.eight_bytes_in.type_inv, c.eight_bytes_in-2.type_inv, c.eight_bytes_in-3.type_inv, c.eight_bytes_in-4.type_inv))))

pub returns-clause-whole : goal.returns-clause-whole
returns-clause-whole c =
    let said : List ℕ = c.split_at.result.0.now in
    let head : Head = record { before = c.eight_bytes_in.result; table = c.eight_bytes_in-2.result; after = c.eight_bytes_in-3.result; records = c.eight_bytes_in-4.result; check = c.eight_bytes_in-5.result } in
    let again : said ≡ said_bytes head =
    said_again said head c.split_at.ensures.front_len c.eight_bytes_in.ensures c.eight_bytes_in-2.ensures c.eight_bytes_in-3.ensures c.eight_bytes_in-4.ensures
    (c.eight_bytes_in-5.ensures ∙ take_all (length said - 32) (drop 32 said) (omega (arith, length-drop 32 said))) in
    c.split_at.ensures.by_index.0 ∙ ap₂ (λ (a b : List ℕ). a ++ b) again (c.is_check_of.ensures.0 c.if-not-is_check_of.false ∙ ap check_bytes again)

pub returns-clause-found : goal.returns-clause-found
returns-clause-found c p room is =
    let said : List ℕ = c.split_at.result.0.now in
    let head : Head = record { before = c.eight_bytes_in.result; table = c.eight_bytes_in-2.result; after = c.eight_bytes_in-3.result; records = c.eight_bytes_in-4.result; check = c.eight_bytes_in-5.result } in
    let cut = head_cut p said c.split_at.result.1.now c.args.bytes.now c.split_at.ensures.front_len c.split_at.ensures.by_index.0 is in
    let again : said ≡ said_bytes head =
    said_again said head c.split_at.ensures.front_len c.eight_bytes_in.ensures c.eight_bytes_in-2.ensures c.eight_bytes_in-3.ensures c.eight_bytes_in-4.ensures
    (c.eight_bytes_in-5.ensures ∙ take_all (length said - 32) (drop 32 said) (omega (arith, length-drop 32 said))) in
    says head p (sym cut.0 ∙ again) room (c.eight_bytes_in.type_inv, c.eight_bytes_in-2.type_inv, c.eight_bytes_in-3.type_inv, c.eight_bytes_in-4.type_inv)
