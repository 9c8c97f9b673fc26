use Rattle.std.proofs.Common.{◌≡◌, ℕ, List, [], ◌∷◌, ◌++◌, length, take, refl, ap, ◌∙◌}
use Rattle.std.proofs.lemmas.List.{drop_at}
use Rattle.oram_client.specs.DiskHead.{sealer_byte}
use Rattle.oram_client.proofs.Letters.{titled}
use Rattle.oram_client.proofs.disk_head.title_of.Goals as goal

pub returns : goal.returns
returns c =
    let head = c.args.head.now in
    let salt = c.copy_from_slice.new.self in
    let check = c.copy_from_slice-2.new.self in
    let byte = c.byte.result in
    let first : salt ≡ head.salt.0 = c.copy_from_slice.ensures.after in
    let second : check ≡ head.key_check.0 = c.copy_from_slice-2.ensures.after in
    let third : byte ≡ sealer_byte head.sealer = c.byte.ensures in
    let check_len : length check ≡ 32 = c.copy_from_slice-2.auto.self ∙ ap (λ (l : List ℕ). length (take 32 l)) (drop_at salt _ 32 c.copy_from_slice.auto.self) in
    titled salt check _ byte c.copy_from_slice.auto.self check_len refl
    ∙ ap (λ (l : List ℕ). l ++ (check ++ byte ∷ [])) first ∙ ap (λ (l : List ℕ). head.salt.0 ++ (l ++ byte ∷ [])) second ∙ ap (λ (b : ℕ). head.salt.0 ++ (head.key_check.0 ++ b ∷ [])) third
