-- Messages that ask for the same entries look alike.
use Rattle.std.proofs.Common.{◌≡◌, ℕ, zero, suc, ◌+◌, ◌*◌, ◌<◌, ◌≤◌, Bool, true, false, if◌then◌else◌, List, [], ◌∷◌, ◌++◌, length, take, refl, ap, sym, subst, ◌∙◌, arith}
use Rattle.std.specs.List.{range_with_len}
use Rattle.oram_geometry.specs.declared.Sizes.{Sizes}
use Rattle.oram_geometry.specs.Sizes.{depth_of, record_len_of}
use Rattle.oram_wire.specs.HostMessages.{fetch_body, store_body}
use Rattle.oram_trace.specs.declared.entries.Entry.{Entry}
use Rattle.oram_semantics.specs.Scheme.{Scheme}
use Rattle.oram_semantics.specs.Messages.{IsMessage, records_len}
use Rattle.oram_semantics.specs.Progress.{Setting, Step, entry_at}
use Rattle.oram_semantics.specs.Run.{AskFor}
use Rattle.oram_semantics.specs.TwoWorlds.{LooksLike, LookAlike}
use Rattle.oram_semantics.proofs.Counts.{header_is}

-- one device, and sealers with the same overhead
pub record AreOneScheme (v u : Scheme) : Type 0 where
  pub device : u.device ≡ v.device
  pub overhead : u.cipher.overhead ≡ v.cipher.overhead

body_len : (fetch : Bool) (i leaf n : ℕ) (records : List ℕ) → length records ≡ (if fetch then 0 else n)
    → length (if fetch then fetch_body i leaf else store_body i leaf records) ≡ 6 + (if fetch then 0 else n)
body_len true i leaf n records len = refl
body_len false i leaf n records len = ap (λ (k : ℕ). suc (suc (suc (suc (suc (suc k)))))) len ∙ omega arith

message_len : (v : Scheme) (e : Entry) (m : List ℕ) → IsMessage v e m → length m ≡ 6 + records_len v e
message_len v e m is =
    ap length is.body ∙ body_len e.fetch e.tree e.leaf ((depth_of v.device e.tree + 1) * record_len_of v.device v.cipher.overhead) is.records is.length_is

records_same : (v u : Scheme) (e : Entry) → AreOneScheme v u → records_len u e ≡ records_len v e
records_same v u e one =
    ap (λ (d : Sizes). if e.fetch then 0 else (depth_of d e.tree + 1) * record_len_of d u.cipher.overhead) one.device
    ∙ ap (λ (k : ℕ). if e.fetch then 0 else (depth_of v.device e.tree + 1) * record_len_of v.device k) one.overhead

looks_like : (v u : Scheme) (e : Entry) (m n : List ℕ) → AreOneScheme v u → IsMessage v e m → IsMessage u e n → LooksLike m n
looks_like v u e m n one is also = record {
  length_is = message_len v e m is ∙ ap (λ (k : ℕ). 6 + k) (sym (records_same v u e one)) ∙ sym (message_len u e n also);
  header = header_is v e m is ∙ sym (header_is u e n also);
}

-- the messages that ask for the entries from s on, n of them
pub asks_alike : (v u : Setting) (past other : List Step) (s n : ℕ) (xs ys : List (List ℕ)) → AreOneScheme v.scheme u.scheme
    → ((m : ℕ) → s ≤ m → m < s + n → entry_at v past m ≡ entry_at u other m)
    → AskFor v past (range_with_len s n) xs → AskFor u other (range_with_len s n) ys → LookAlike xs ys
asks_alike v u past other s zero [] [] one same ask also = tt
asks_alike v u past other s zero [] (y ∷ ys) one same ask also = absurd also
asks_alike v u past other s zero (x ∷ xs) ys one same ask also = absurd ask
asks_alike v u past other s (suc n) [] ys one same ask also = absurd ask
asks_alike v u past other s (suc n) (x ∷ xs) [] one same ask also = absurd also
asks_alike v u past other s (suc n) (x ∷ xs) (y ∷ ys) one same ask also = (
  looks_like v.scheme u.scheme (entry_at u other s) x y one (subst (λ (e : Entry). IsMessage v.scheme e x) (same s (omega arith) (omega arith)) ask.0) also.0,
  asks_alike v u past other (s + 1) n xs ys one (λ m low high. same m (omega arith) (omega arith)) ask.1 also.1,
)

-- the newest of the messages sent stay alike when more messages are sent that look alike
pub newest_alike : (xs ys older others : List (List ℕ)) → LookAlike xs ys → LookAlike (take 1 older) (take 1 others)
    → LookAlike (take 1 (xs ++ older)) (take 1 (ys ++ others))
newest_alike [] [] older others alike newest = newest
newest_alike (x ∷ xs) (y ∷ ys) older others alike newest = (alike.0, tt)
newest_alike [] (y ∷ ys) older others alike newest = absurd alike
newest_alike (x ∷ xs) [] older others alike newest = absurd alike
