-- What is said of a disk that was formatted.
use Rattle.std.specs.Prelude.{ℕ, if◌then◌else◌, List, ◌++◌, codes, Option, pos, negsuc}
use Rattle.rep_types.specs.Gtids.{Gtid, gtid_text}
use Rattle.uuid.specs.Parts.{is_nil_bytes}
use Rattle.rep_catchup.specs.Formatting.{uuid_of}

-- The GTID of a new node of this state UUID: nothing came yet. Without a UUID it is undefined, the nil UUID and -1 (Galera documentation).
abbrev pub first_gtid : Option (List ℕ) → Gtid
first_gtid uuid = record { uuid = uuid_of uuid; seqno = if is_nil_bytes (uuid_of uuid) then negsuc 0 else pos 0 }

-- the line that is said of a disk that was formatted for a node at this GTID
abbrev pub formatted_line : Gtid → List ℕ
formatted_line gtid = codes "formatted " ++ gtid_text gtid ++ codes "\n"
