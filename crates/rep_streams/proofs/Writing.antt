-- What writing takes, write by write.
use Rattle.std.proofs.Common.{ℕ, ◌+◌, ◌-◌, List, length, take, drop, Option}
use Rattle.std.specs.Io.KnownBytes.{Appends, Keeps}
use Rattle.std.proofs.KnownBytes.{Appends-trans, Appends-kept}
use Rattle.std.proofs.lemmas.List.{take_rest}
use Rattle.std.proofs.Math.Seq.{take-add}

-- two writes one after the other take a longer front
pub front_grows : (a b c : Option (List ℕ)) (bytes : List ℕ) (i n : ℕ) →
    Appends a b (take i bytes) → Appends b c (take n (take (length bytes - i) (drop i bytes))) → Appends a c (take (i + n) bytes)
front_grows a b c bytes i n first second =
    rw (take-add i n bytes, ← take_rest bytes i) (Appends-trans a b c _ _ first second)

-- a write that takes nothing
pub front_stays : (a b c : Option (List ℕ)) (bytes : List ℕ) → Appends a b bytes → Keeps b c → Appends a c bytes
front_stays a b c bytes first kept = Appends-kept a b c bytes first kept
