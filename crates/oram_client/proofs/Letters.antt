-- The parts of a head, one after the other.
use Rattle.std.proofs.Common.{◌≡◌, ℕ, List, [], ◌∷◌, ◌++◌, length, sym, ap, arith, ◌∙◌, slice_set, take, drop, take-append-drop}
use Rattle.std.proofs.lemmas.List.{drop_at, set-append_right, set_at, take_at}
use borrow.Rule.Slice.PartMut.{put_mid}
use Rattle.oram_client.specs.declared.disk_head.Head.{Head}
use Rattle.oram_client.specs.DiskHead.{IsHead, behind_letters, sealer_byte}

-- two parts of 32 bytes, and what follows them
pub joined : (rest salt behind check others : List ℕ) → salt ≡ take 32 rest → behind ≡ drop 32 rest → check ≡ take 32 behind → others ≡ drop 32 behind → rest ≡ salt ++ (check ++ others)
joined rest salt behind check others first after second last =
    let inner : check ++ others ≡ behind = ap (λ l. l ++ others) second ∙ ap (λ l. take 32 behind ++ l) last ∙ take-append-drop 32 behind in
    sym (ap (λ l. salt ++ l) (inner ∙ after) ∙ ap (λ l. l ++ drop 32 rest) first ∙ take-append-drop 32 rest)

-- The byte of the sealer and the process follow the salt and the key check.
pub parted : (head : Head) (process rest behind others : List ℕ) → IsHead head → rest ≡ behind_letters head process → behind ≡ drop 32 rest → others ≡ drop 32 behind
    → others ≡ sealer_byte head.sealer ∷ process
parted head process rest behind others is whole after last =
    let tail = sealer_byte head.sealer ∷ process in
    let one : behind ≡ head.key_check.0 ++ tail = after ∙ ap (drop 32) whole ∙ drop_at head.salt.0 (head.key_check.0 ++ tail) 32 is.salt in
    last ∙ ap (drop 32) one ∙ drop_at head.key_check.0 tail 32 is.key_check

-- a salt and a key check that were written over zeros, and the byte of the sealer behind them
pub titled : (salt check zeros : List ℕ) (byte : ℕ) → length salt ≡ 32 → length check ≡ 32 → drop 32 zeros ≡ 0 ∷ [] → slice_set (put_mid 32 32 (salt ++ zeros) check) 64 byte ≡ salt ++ (check ++ byte ∷ [])
titled salt check zeros byte salt_len check_len last =
    let front : take 32 (salt ++ zeros) ≡ salt = take_at salt zeros 32 salt_len in
    let behind : drop 32 (drop 32 (salt ++ zeros)) ≡ 0 ∷ [] = ap (λ (l : List ℕ). drop 32 l) (drop_at salt zeros 32 salt_len) ∙ last in
    let parts : put_mid 32 32 (salt ++ zeros) check ≡ salt ++ (check ++ 0 ∷ []) =
    ap (λ (l : List ℕ). l ++ (check ++ drop 32 (drop 32 (salt ++ zeros)))) front ∙ ap (λ (l : List ℕ). salt ++ (check ++ l)) behind in
    ap (λ (l : List ℕ). slice_set l 64 byte) parts ∙ set-append_right salt (check ++ 0 ∷ []) 32 64 byte salt_len (omega arith) ∙ ap (λ (l : List ℕ). salt ++ l) (set_at check 0 [] byte 32 check_len)
