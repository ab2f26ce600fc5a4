-- The numbers of the refusals, which fault lines give, and their names and data.
use Rattle.std.specs.Prelude.{ℕ, List, codes}
use Rattle.rep_types.specs.declared.refusal.Data.{Data}
use Rattle.rep_types.specs.declared.refusal.Data.TheVariants.{Nothing, Figure, Place}
use Rattle.rep_types.specs.declared.refusal.Part.{Part}
use Rattle.rep_types.specs.declared.refusal.Part.TheVariants.{Superblock, Window, Log, Pages}
use Rattle.rep_types.specs.declared.refusal.Refusal.{Refusal}
use Rattle.rep_types.specs.declared.refusal.Refusal.TheVariants.{OutOfMemory, DiskFault, Stopped, OutOfOrder, Backlogged, LogFull, NotDue, TooOld, NotYet, BadKey, Undefined, NotFormatted, Corrupt, TooSmall, BadParams, Malformed, TooManyReads, TooManyWrites, ValueTooLong, WrongCluster, Ahead, Closed, Exhausted, StreamFault}

abbrev pub refusal_number : Refusal → ℕ
refusal_number OutOfMemory = 1
refusal_number DiskFault = 2
refusal_number Stopped = 3
refusal_number (OutOfOrder _) = 4
refusal_number Backlogged = 5
refusal_number LogFull = 6
refusal_number NotDue = 7
refusal_number (TooOld _) = 8
refusal_number (NotYet _) = 9
refusal_number BadKey = 10
refusal_number Undefined = 11
refusal_number NotFormatted = 12
refusal_number (Corrupt _) = 13
refusal_number (TooSmall _) = 14
refusal_number BadParams = 15
refusal_number (Malformed _) = 16
refusal_number TooManyReads = 17
refusal_number TooManyWrites = 18
refusal_number ValueTooLong = 19
refusal_number WrongCluster = 20
refusal_number (Ahead _) = 21
refusal_number Closed = 22
refusal_number Exhausted = 23
refusal_number StreamFault = 24

-- what a part of the disk is called
abbrev pub part_name : Part → List ℕ
part_name Superblock = codes "superblock"
part_name Window = codes "window"
part_name Log = codes "log"
part_name Pages = codes "pages"

-- what a refusal is called
abbrev pub refusal_name : Refusal → List ℕ
refusal_name OutOfMemory = codes "out-of-memory"
refusal_name DiskFault = codes "disk-fault"
refusal_name Stopped = codes "stopped"
refusal_name (OutOfOrder _) = codes "out-of-order"
refusal_name Backlogged = codes "backlogged"
refusal_name LogFull = codes "log-full"
refusal_name NotDue = codes "not-due"
refusal_name (TooOld _) = codes "too-old"
refusal_name (NotYet _) = codes "not-yet"
refusal_name BadKey = codes "bad-key"
refusal_name Undefined = codes "undefined"
refusal_name NotFormatted = codes "not-formatted"
refusal_name (Corrupt _) = codes "corrupt"
refusal_name (TooSmall _) = codes "too-small"
refusal_name BadParams = codes "bad-params"
refusal_name (Malformed _) = codes "malformed"
refusal_name TooManyReads = codes "too-many-reads"
refusal_name TooManyWrites = codes "too-many-writes"
refusal_name ValueTooLong = codes "value-too-long"
refusal_name WrongCluster = codes "wrong-cluster"
refusal_name (Ahead _) = codes "ahead"
refusal_name Closed = codes "closed"
refusal_name Exhausted = codes "exhausted"
refusal_name StreamFault = codes "stream-fault"

-- what it has beside its name
abbrev pub refusal_data : Refusal → Data
refusal_data OutOfMemory = Nothing
refusal_data DiskFault = Nothing
refusal_data Stopped = Nothing
refusal_data (OutOfOrder expected) = Figure expected
refusal_data Backlogged = Nothing
refusal_data LogFull = Nothing
refusal_data NotDue = Nothing
refusal_data (TooOld oldest) = Figure oldest
refusal_data (NotYet durable) = Figure durable
refusal_data BadKey = Nothing
refusal_data Undefined = Nothing
refusal_data NotFormatted = Nothing
refusal_data (Corrupt part) = Place part
refusal_data (TooSmall need) = Figure need
refusal_data BadParams = Nothing
refusal_data (Malformed at) = Figure at
refusal_data TooManyReads = Nothing
refusal_data TooManyWrites = Nothing
refusal_data ValueTooLong = Nothing
refusal_data WrongCluster = Nothing
refusal_data (Ahead position) = Figure position
refusal_data Closed = Nothing
refusal_data Exhausted = Nothing
refusal_data StreamFault = Nothing
