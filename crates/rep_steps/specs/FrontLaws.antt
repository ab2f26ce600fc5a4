-- How a front of one order is a front of others.
use Rattle.std.proofs.Common.{ℕ, ◌≤◌, List, ◌++◌, length-append, arith}
use Rattle.std.proofs.lemmas.List.{take-append-le}
use Rattle.rep_types.specs.Settings.{Setting}
use Rattle.rep_types.specs.Order.{Order}
use Rattle.rep_steps.specs.Images.{Meaning, IsFrontOf}

module _ (means : List ℕ → Meaning → Type 0) where
  -- a front of an order is one of each longer order
  pub front_longer : (uuid : List ℕ) (p : Setting) (L M : Order) (d : ℕ) (image : List ℕ) → IsFrontOf means uuid p L d image → IsFrontOf means uuid p (L ++ M) d image
  front_longer uuid p L M d image f = record {
    meaning = f.meaning;
    reads = f.reads;
    end = f.end;
    least = f.least;
    most = omega (arith, f.most, length-append L M);
    stands = rw (take-append-le f.end L M f.most) f.stands;
  }

  -- one with more first items is one with fewer
  pub front_older : (uuid : List ℕ) (p : Setting) (L : Order) (d e : ℕ) (image : List ℕ) → e ≤ d → IsFrontOf means uuid p L d image → IsFrontOf means uuid p L e image
  front_older uuid p L d e image le f = record {
    meaning = f.meaning;
    reads = f.reads;
    end = f.end;
    least = omega (arith, le, f.least);
    most = f.most;
    stands = f.stands;
  }
