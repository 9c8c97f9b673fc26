-- What an answer of a host tells of its disk.
use Rattle.std.specs.Prelude.{Option, Some, None}
use Rattle.oram_store.specs.declared.faults.StoreFault.{StoreFault}
use Rattle.oram_store.specs.declared.faults.StoreFault.TheVariants as fault
use Rattle.oram_disk_host.specs.declared.disk_watch.DiskNews.{DiskNews}
use Rattle.oram_disk_host.specs.declared.disk_watch.DiskNews.TheVariants.{Full, Failed}

-- what it means that there is no room, by the reason
abbrev pub news_of : Option StoreFault → Option DiskNews
news_of (Some fault.NoRoom) = Some Full
news_of (Some fault.Io) = Some Failed
news_of (Some fault.Closed) = Some Failed
news_of any_other = None
