-- What is told of a disk that was formatted, for the same device, sealing, overhead and number of bytes of records under other names.
use Rattle.std.proofs.Common.{◌≡◌, ℕ, List, None, subst}
use Rattle.oram_geometry.specs.declared.Sizes.{Sizes}
use Rattle.oram_settings.specs.Differences.{AgreeAt, IsFirstDifference, fixed_keys}
use Rattle.oram_settings.specs.declared.disk_file.DiskSettings.{DiskSettings}
use Rattle.oram_settings.specs.declared.disk_file.Sealing.{Sealing}
use Rattle.oram_disk_client.specs.FormattedWith.{HasNearLevels, HasNoNearLevels, IsChanged}
use Rattle.oram_disk_host.specs.declared.faults.Fault.{Fault}

pub changed_at : (settings : DiskSettings) (name : List ℕ) (levels : ℕ) (fault : Fault) → {d e : Sizes} {x y : Sealing} → d ≡ e → x ≡ y
    → IsChanged settings name d x levels fault → IsChanged settings name e y levels fault
changed_at settings name levels fault {d} {e} {x} {y} device sealing changed =
    subst (λ (z : Sealing). IsChanged settings name e z levels fault) sealing (subst (λ (f : Sizes). IsChanged settings name f x levels fault) device changed)

pub agreed_at : (settings : DiskSettings) (levels : ℕ) → {d e : Sizes} {x y : Sealing} → d ≡ e → x ≡ y
    → IsFirstDifference (AgreeAt settings d x levels) fixed_keys None → IsFirstDifference (AgreeAt settings e y levels) fixed_keys None
agreed_at settings levels {d} {e} {x} {y} device sealing agrees =
    subst (λ (z : Sealing). IsFirstDifference (AgreeAt settings e z levels) fixed_keys None) sealing
    (subst (λ (f : Sizes). IsFirstDifference (AgreeAt settings f x levels) fixed_keys None) device agrees)

-- whatever holds of a device, an overhead and a number of bytes
each_at : (P : Sizes → ℕ → ℕ → Type 0) {d e : Sizes} {o p r s : ℕ} → d ≡ e → o ≡ p → r ≡ s → P d o r → P e p s
each_at P {d} {e} {o} {p} {r} {s} device overhead records known =
    subst (λ (n : ℕ). P e p n) records (subst (λ (n : ℕ). P e n r) overhead (subst (λ (f : Sizes). P f o r) device known))

pub levels_at : (levels : ℕ) → {d e : Sizes} {o p r s : ℕ} → d ≡ e → o ≡ p → r ≡ s → HasNearLevels d o r levels → HasNearLevels e p s levels
levels_at levels device overhead records has = each_at (λ f o r. HasNearLevels f o r levels) device overhead records has

pub no_levels_at : {d e : Sizes} {o p r s : ℕ} → d ≡ e → o ≡ p → r ≡ s → HasNoNearLevels d o r → HasNoNearLevels e p s
no_levels_at device overhead records none = each_at HasNoNearLevels device overhead records none
