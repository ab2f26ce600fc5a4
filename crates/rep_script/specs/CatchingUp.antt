-- What a donor and a joiner do, and what they say of it.
use Rattle.std.specs.Prelude.{◌≡◌, ◌⊎◌, ℕ, true, List, ◌++◌, codes, Option, IfSome, Result, Ok, Err}
use Rattle.std.specs.Fmt.{decimal}
use Rattle.std.specs.Io.KnownBytes.{Appends, Keeps}
use Rattle.rep_types.specs.declared.refusal.Refusal.{Refusal}
use Rattle.rep_types.specs.Gtids.{Gtid, gtid_text}
use Rattle.rep_disk.specs.declared.disk.Disk.{Ghosts}
use Rattle.rep_steps.specs.Nodes.{Node}
use Rattle.rep_catchup.specs.Replicas.{Replica, facts_of}
use Rattle.rep_catchup.specs.Holding.{Holds}
use Rattle.rep_catchup.specs.Settling.{is_quiet}
use Rattle.rep_transfer.specs.declared.have.Have.{Have}
use Rattle.rep_transfer.specs.Transfers.{Transfer, transfer_bytes}
use Rattle.rep_catchup.specs.Donating.{IsDonated}
use Rattle.rep_catchup.specs.Joining.{Joined, TookTransfer}
use Rattle.rep_script.specs.Answering.{Tells}

-- the line that is said of a transfer that was written up to this position
abbrev pub donated_line : ℕ → List ℕ
donated_line last = codes "donated " ++ decimal last ++ codes "\n"

-- the line that is said of a transfer that was taken, by a node that is then at this GTID
abbrev pub joined_line : Gtid → List ℕ
joined_line gtid = codes "joined " ++ gtid_text gtid ++ codes "\n"

-- What the joiner lacks of the node was written, whole; and then the line of that, or a front of it where the line's writer failed.
pub record Donated (n : Node) (have : Have) (old new before after : Option (List ℕ)) (result : Result (Unit {0}) Refusal) : Type 0 where
  pub transfer : Transfer
  pub donated : IsDonated n have transfer
  pub written : Appends old new (transfer_bytes transfer)
  pub told : Tells (donated_line transfer.last) before after result

-- What a donation writes: that; and where it is refused, that, or nothing of a line.
abbrev pub Donates : Node → Have → Option (List ℕ) → Option (List ℕ) → Option (List ℕ) → Option (List ℕ) → Result (Unit {0}) Refusal → Type 0
Donates n have old new before after (Ok x) = Donated n have old new before after (Ok x)
Donates n have old new before after (Err e) = Donated n have old new before after (Err e) ⊎ Keeps before after

-- A transfer was taken to its end: on any device the replica is quiet, and the bytes, where they are known, began with a transfer that it can
-- take; and one that stood for a node stands for what the transfer makes of it.
pub record Taken {D : Type 0} (g : Ghosts D) (old new : Replica D) (before left : Option (List ℕ)) : Type 0 where
  pub quiet : is_quiet (facts_of g new) ≡ true
  pub took : IfSome before (λ bytes. (last : ℕ) × TookTransfer g bytes left old new last)
  pub joined : (n : Node) → Holds g n old → IfSome before (λ bytes. (last : ℕ) × Joined g n bytes left old new last)
