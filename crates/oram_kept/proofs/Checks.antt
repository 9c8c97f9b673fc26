-- The checksum of a text that is given to the hasher in pieces.
use Rattle.std.proofs.Common.{◌≡◌, ℕ, List, ◌++◌, sym, ap}
use Rattle.std.specs.Hash.DefaultHasher as sip
use Rattle.std.proofs.lemmas.Grind.{fold-append}
use Rattle.oram_kept.specs.Layout.{check_of}

-- two writes are one
written_twice : (a b : List ℕ) → sip.write (sip.write sip.initial a) b ≡ sip.write sip.initial (a ++ b)
unfolding sip.write
written_twice a b = sym (fold-append sip.write_byte sip.initial a b)

pub checked_in_parts : (title before after : List ℕ) → sip.finish (sip.write (sip.write (sip.write sip.initial title) before) after) ≡ check_of (title ++ before) after
unfolding check_of
checked_in_parts title before after = ap (λ (h : _). sip.finish (sip.write h after)) (written_twice title before)
