-- The sealers of a disk, as its head and its settings name them.
use Rattle.oram_client.specs.declared.disk_head.SealerKind.{SealerKind}
use Rattle.oram_client.specs.declared.disk_head.SealerKind.TheVariants as sealer
use Rattle.oram_settings.specs.declared.disk_file.Sealing.{Sealing}
use Rattle.oram_settings.specs.declared.disk_file.Sealing.TheVariants as sealing

-- the word of the settings for a sealer
abbrev pub sealing_of : SealerKind → Sealing
sealing_of sealer.Plain = sealing.Plain
sealing_of sealer.ChaCha20 = sealing.ChaCha
