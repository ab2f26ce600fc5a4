use Rattle.std.proofs.Common.{◌≡◌, ℕ, ◌≤◌, ◌*◌, take}
use Rattle.std.specs.List.{sum_by}
use Rattle.rep_cert.specs.Writers.{starts_from}
use Rattle.rep_cert.proofs.writers.starts_of.Given as goal

-- the starts of the tables so far, and how many rows they have
abbrev pub invariant-loop-count : goal.invariant-loop-count
invariant-loop-count l = record {
  starts : l.starts.items ≡ starts_from 0 (take l.count-index l.rows);
  total : l.total ≡ sum_by (λ (count : ℕ). count) (take l.count-index l.rows);
  small : l.total ≤ l.count-index * 4294967296;
}
