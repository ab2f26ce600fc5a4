-- What certification keeps of a committed write set.
use Rattle.std.specs.Prelude.{ℕ, List}
use Rattle.rep_types.specs.declared.key.Key.{Key}

-- a committed write set: its seqno, and the keys that it wrote
pub record Entry : Type 0 where
  pub seqno : ℕ
  pub keys : List Key
