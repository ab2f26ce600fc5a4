use Rattle.std.proofs.Common.{◌≡◌, ◌≤◌, ◌-◌, ◌==◌, length}
use Rattle.std.specs.Prelude.{IfSome, IsTrue}
use Rattle.std.specs.List.{slice_split}
use Rattle.rep_types.specs.Gtids.{is_seqno}
use Rattle.rep_saved.specs.Saved.{saved_in, rest_of, sayings}
use Rattle.rep_saved.proofs.saved.SavedState.parse.Given as goal

-- what the text says is what the rest says with what was found
abbrev pub invariant-loop-line : goal.invariant-loop-line
invariant-loop-line l = record {
  told : saved_in l.text ≡ rest_of (length l.text) l.found (sayings (length l.text - length l.rest) (slice_split (λ b. b == 10) l.rest));
  inside : length l.rest ≤ length l.text;
  limit : IfSome l.found.seqno (λ n. IsTrue (is_seqno n));
}

abbrev pub decreases-loop-line : goal.decreases-loop-line
decreases-loop-line l = length l.rest
