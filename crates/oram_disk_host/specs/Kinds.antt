-- The kinds of faults: the text before and after the name in the line, and the exit status.
use Rattle.std.specs.Prelude.{ℕ, List, codes}
use Rattle.oram_cli.specs.declared.file_faults.FileReason.{FileReason}
use Rattle.oram_cli.specs.declared.file_faults.FileReason.TheVariants as reason
use Rattle.oram_cli.specs.declared.hosts.HostFault.{HostFault}
use Rattle.oram_cli.specs.declared.hosts.HostFault.TheVariants as host
use Rattle.oram_settings.specs.declared.differences.FixedKey.{FixedKey}
use Rattle.oram_settings.specs.declared.differences.FixedKey.TheVariants as fixed
use Rattle.oram_disk_host.specs.declared.kinds.FaultKind.{FaultKind}
use Rattle.oram_disk_host.specs.declared.kinds.FaultKind.TheVariants.{CommandLine, Settings, File, Unformatted, Address, NotABucketFile, OlderFile, NewerFile, WithoutLog, LogOfAnotherFile, LogWithoutFile, NewFileTaken, NewLogTaken, LogOlder, LogNewer, CutShort, Damaged, LogDamaged, Busy, NoFile, FileExists, Exists, Formatted, NotADisk, DamagedState, OlderState, ReplacedState, WrongKey, Changed, Host, OlderHost, NoStamps, StateNotKept, StateNotMade, UsedUp, InUse, Failed, NotFailed, LostRecords, PartialImage, OtherAnswer}

-- the text before the name of the settings with a changed value
abbrev pub changed : FixedKey → List ℕ
changed fixed.Size = codes "oramdisk: size in "
changed fixed.Block = codes "oramdisk: block in "
changed fixed.Slots = codes "oramdisk: slots in "
changed fixed.LeafLoad = codes "oramdisk: leaf_load in "
changed fixed.Table = codes "oramdisk: table in "
changed fixed.Sealer = codes "oramdisk: sealer in "
changed fixed.Near = codes "oramdisk: near in "

-- the text before the name
abbrev pub front : FaultKind → List ℕ
front Unformatted = codes "oramdisk: there is no state "
front (File reason.Other) = codes "oramdisk: can't open, read or write "
front Address = codes "oramdisk: can't listen at "
front WithoutLog = codes "oramdisk: the log of "
front LogOfAnotherFile = codes "oramdisk: the log of "
front LogOlder = codes "oramdisk: the log of "
front LogDamaged = codes "oramdisk: the log of "
front LogWithoutFile = codes "oramdisk: there is no file "
front NoFile = codes "oramdisk: there is no file "
front WrongKey = codes "oramdisk: the key in "
front (Changed key) = changed key
front (Host host.NoRoom) = codes "oramdisk: the host at "
front (Host host.AnotherDisk) = codes "oramdisk: the host at "
front (Host host.NoDisk) = codes "oramdisk: the host at "
front (Host host.Taken) = codes "oramdisk: the host at "
front (Host host.Refused) = codes "oramdisk: the host at "
front (Host host.OutOfReach) = codes "oramdisk: can't reach the host at "
front OlderHost = codes "oramdisk: the host at "
front NoStamps = codes "oramdisk: the host at "
front OtherAnswer = codes "oramdisk: the host at "
front StateNotKept = codes "oramdisk: can't keep the state in "
front StateNotMade = codes "oramdisk: can't keep the state in "
front UsedUp = codes "oramdisk: the disk of "
front InUse = codes "oramdisk: the disk of "
front Failed = codes "oramdisk: the disk of "
front NotFailed = codes "oramdisk: the disk of "
front any_other = codes "oramdisk: "

-- what happened to a file, and what to do
abbrev pub file_rest : FileReason → List ℕ
file_rest reason.Missing = codes ": no such file or folder: see that its name is right\n"
file_rest reason.Exists = codes " is there already: name another file\n"
file_rest reason.NotPermitted = codes ": permission denied: see that you may read and write it\n"
file_rest reason.DiskFull = codes ": the disk is full: make room on it\n"
file_rest reason.Folder = codes " is a folder: name a file in it\n"
file_rest reason.Other = codes ": see that it is there and may be written, and that its disk has room\n"

-- what is wrong with a host, and what to do
abbrev pub host_rest : HostFault → List ℕ
host_rest host.NoRoom = codes " has no room: make room on its disk, and start again\n"
host_rest host.AnotherDisk = codes " keeps another disk, and nothing was sent to it: see that the settings name the right host, and that it was started with its own file\n"
host_rest host.NoDisk = codes " keeps no disk, and nothing was sent to it: see that the settings name the right host, and that it was started with its own file\n"
host_rest host.Taken = codes " keeps a disk already: name a new file at the host\n"
host_rest host.OutOfReach = codes ": see that it runs there, and no other program, and that the way to it is open, and start again\n"
host_rest host.Refused = codes " doesn't take this disk: name a new file at the host\n"

-- what happened, or to what, and what to do
abbrev pub rest : FaultKind → List ℕ
rest CommandLine = codes "\n"
rest Settings = codes "\n"
rest Unformatted = codes ": see that its place is mounted; if the disk isn't formatted yet, start its host, and then say oramdisk format\n"
rest (File why) = file_rest why
rest Address = codes ": see that no other program listens there, that it is a place of this machine, and that you may use it\n"
rest NotABucketFile = codes " isn't a file of buckets, and is left as it is: name another file\n"
rest OlderFile = codes " is a file of an older version, and is left as it is: serve it with that version, or name another file, and format anew\n"
rest NewerFile = codes " is a file of buckets of a newer version, and is left as it is: serve it with that version\n"
rest WithoutLog = codes ", the file beside it with -log after its name, isn't there: put back the one that it was served with last\n"
rest LogOfAnotherFile = codes ", the file beside it with -log after its name, is another file's: put back the one that it was served with last\n"
rest LogWithoutFile = codes ", but a log is there, the file beside it with -log after its name: put the file back that the log belongs to, or take the log away\n"
rest NewFileTaken = codes ".unfinished is where the new file is made, and something else is there, which is left as it is: take it away\n"
rest NewLogTaken = codes "-log.unfinished is where the new log is made, and something else is there, which is left as it is: take it away\n"
rest LogOlder = codes ", the file beside it with -log after its name, is older than the file, and both are left as they are: put back the log that it was served with last\n"
rest LogNewer = codes " is older than its log, the file beside it with -log after its name, and both are left as they are: put back the file that was served last\n"
rest CutShort = codes " is shorter than it was, and is left as it is: put the whole file back\n"
rest Damaged = codes " is damaged, and is left as it is: name another file, and format anew\n"
rest LogDamaged = codes ", the file beside it with -log after its name, is damaged, and both are left as they are: put back copies of both that belong together, or name another file, and format anew\n"
rest Busy = codes " is held by another process: end that one first\n"
rest NoFile = codes ": see that the settings are those of the right host, or say oramdisk host --new to make it\n"
rest FileExists = codes " is there already, and is left as it is: leave --new out to serve it\n"
rest Exists = codes " is there already, and is left as it is: name another folder\n"
rest Formatted = codes " is there already, and is left as it is: to format anew, take it away, and name a new file at the host\n"
rest NotADisk = codes " isn't the state of a disk, and is left as it is: see that the settings name the right file\n"
rest DamagedState = codes ", or its log, the file beside it with -log after its name, is damaged, and both are left as they are: put back the newest copies of both, if there are any; oramdisk refuses older ones\n"
rest OlderState = codes " is the state of a disk of an older version, and is left as it is: serve it with that version, and copy what is in it to a new disk\n"
rest ReplacedState = codes " is an older state of its disk, and nothing was stored by it: put the newest one back; if a loss of power with sync = false took that one, the disk is lost\n"
rest WrongKey = codes " isn't this disk's: put the one back that it was formatted with\n"
rest (Changed key) = codes " when the disk was formatted: put that back\n"
rest (Host why) = host_rest why
rest OlderHost = codes " shows an older file of this disk than it has shown before, and nothing was stored there: have it serve its newest file; nothing is lost here\n"
rest NoStamps = codes " doesn't show what this disk has stored there, and nothing more was stored: have it serve the disk's own file, unchanged; nothing is lost here\n"
rest StateNotKept = codes ": see that its folder may be written and has room, and start again\n"
rest StateNotMade = codes ": see that its folder may be written and has room, and format again\n"
rest UsedUp = codes " has made all its accesses: say oramdisk export, and copy the image to a new disk\n"
rest InUse = codes " is in use by another process: end that one first\n"
rest Failed = codes " has failed, and oramdisk status says why: see that its own host is reached, with its own file, and then say oramdisk retry; oramdisk check says what is lost at the host, and oramdisk export --salvage saves the rest\n"
rest NotFailed = codes " has not failed, and is left as it is: oramdisk serve serves it\n"
rest LostRecords = codes ": oramdisk export --salvage writes the rest of the disk to an image\n"
rest PartialImage = codes ": what was in them reads as zeros in the image\n"
rest OtherAnswer = codes " gave an answer that no host of this version gives: have it run the same version of oramdisk\n"

-- 2: words or settings; 4: a file; 5: a socket; 6 to 8: a host's file that isn't one, is damaged or cut short, or is held; 9: something that
-- exists already; 10: a state that isn't one, is damaged, or is of an older version; 11, 12: a host that is out of reach, or that refuses;
-- 13: a state that can't be kept; 14: no access left; 16: a disk in use; 17: a disk that has failed; 18: a disk that hasn't
-- failed; 19: a host's file that is missing; 20 to 22: a host with another disk, with none, or without room; 23, 24: a key or
-- another value that isn't the one of the formatting; 25: a host's file of another version; 26: a file without its log, a
-- log without its file, or one of the two that is older than the other; 27: a state that was replaced by a newer one; 28: no state; 29, 30: a host with an older file, or without the
-- stamps of its disk
abbrev pub status : FaultKind → ℕ
status CommandLine = 2
status Settings = 2
status (File why) = 4
status Unformatted = 28
status Address = 5
status NotABucketFile = 6
status CutShort = 7
status Damaged = 7
status LogDamaged = 7
status Busy = 8
status FileExists = 9
status NewFileTaken = 9
status NewLogTaken = 9
status Exists = 9
status Formatted = 9
status NotADisk = 10
status DamagedState = 10
status OlderState = 10
status (Host host.OutOfReach) = 11
status (Host host.Taken) = 12
status (Host host.Refused) = 12
status StateNotKept = 13
status StateNotMade = 13
status UsedUp = 14
status InUse = 16
status Failed = 17
status NotFailed = 18
status NoFile = 19
status (Host host.AnotherDisk) = 20
status (Host host.NoDisk) = 21
status (Host host.NoRoom) = 22
status WrongKey = 23
status (Changed key) = 24
status OlderFile = 25
status NewerFile = 25
status WithoutLog = 26
status LogOfAnotherFile = 26
status LogWithoutFile = 26
status LogOlder = 26
status LogNewer = 26
status ReplacedState = 27
status OlderHost = 29
status NoStamps = 30
status LostRecords = 31
status PartialImage = 31
status OtherAnswer = 32
