-- Rows that are read one after another, and what they come to.
use Rattle.std.proofs.Common.{◌≡◌, ℕ, ◌+◌, ◌≤◌, List, [], ◌∷◌, ◌++◌, cond, Option, Some, None, Ok, Err, refl, sym, ap, subst, ◌∙◌, append_assoc, append-nil, arith}
use Rattle.std.specs.Prelude.{is_some, if◌then◌else◌}
use Rattle.std.proofs.lemmas.Grind.{flat_map-append}
use Rattle.std.proofs.lemmas.List.{map-append}
use Rattle.std.proofs.lemmas.List.Sums.{sum_by-append}
use Rattle.std.proofs.lemmas.List.Concat.{flat_map-cons}
use Rattle.sha2.specs.Hashers.{Holds256}
use Rattle.rep_types.specs.declared.key.Key.{Key}
use Rattle.rep_types.specs.declared.refusal.Refusal.{Refusal}
use Rattle.rep_types.specs.Sums.{row_sum_bytes}
use Rattle.rep_disk.specs.declared.disk.Disk.{Ghosts}
use Rattle.rep_replica.specs.Replicas.{Replica}
use Rattle.rep_replica.specs.Reading.{IsRead}
use Rattle.rep_sum.specs.declared.summing.Summing.{Summing}
use Rattle.rep_sum.specs.Sums.{RowRead, AreGiven, read_bytes, read_there, keys_read, Adds, IsRefusedAt}

-- ---- what they come to

-- one for a row that is there
abbrev pub there : RowRead → ℕ
there x = cond (is_some x.1) 1 0

pub one_at_most : (x : Option (List ℕ)) → (if is_some x then 1 else 0) ≤ 1
one_at_most (Some bytes) = omega arith
one_at_most None = omega arith

there_append : (xs ys : List RowRead) → read_there (xs ++ ys) ≡ read_there xs + read_there ys
there_append xs ys = sum_by-append there xs ys

bytes_append : (xs ys : List RowRead) → read_bytes (xs ++ ys) ≡ read_bytes xs ++ read_bytes ys
bytes_append xs ys = flat_map-append (λ (x : RowRead). row_sum_bytes x.0 x.1) xs ys

keys_append : (xs ys : List RowRead) → keys_read (xs ++ ys) ≡ keys_read xs ++ keys_read ys
keys_append xs ys = map-append (λ (x : RowRead). x.0) xs ys

-- ---- one reading behind another

module _ {D : Type 0} (g : Ghosts D) (s : ℕ) where
  given_joined : (a b c : Replica D) (xs ys : List RowRead) → AreGiven g s a xs b → AreGiven g s b ys c → AreGiven g s a (xs ++ ys) c
  given_joined a b c [] ys same given = subst (λ (r : Replica D). AreGiven g s r ys c) same given
  given_joined a b c (x ∷ xs) ys (m, is, rest) given = (m, is, given_joined m b c xs ys rest given)

  -- nothing was read
  pub adds_none : (a : Replica D) (from : Summing) → Adds g s [] a from a from
  adds_none a from = record { rows = []; of = refl; given = refl; fed = λ m h. subst (Holds256 from.hasher) (sym (append-nil m)) h; there = omega arith }

  -- a row was read
  pub adds_row : (a b : Replica D) (key : Key) (x : Option (List ℕ)) (from to : Summing) → IsRead g a key s (Ok x) b
      → ((m : List ℕ) → Holds256 from.hasher m → Holds256 to.hasher (m ++ row_sum_bytes key x)) → to.rows ≡ from.rows + (if is_some x then 1 else 0) → Adds g s (key ∷ []) a from b to
  adds_row a b key x from to is fed there = record {
    rows = (key, x) ∷ [];
    of = refl;
    given = (b, is, refl);
    fed = λ m h. subst (λ bytes. Holds256 to.hasher (m ++ bytes)) (sym (flat_map-cons (λ (y : RowRead). row_sum_bytes y.0 y.1) (key, x) [] ∙ append-nil (row_sum_bytes key x))) (fed m h);
    there = there ∙ counted x;
  }
    where
      counted : (x : Option (List ℕ)) → from.rows + (if is_some x then 1 else 0) ≡ from.rows + read_there ((key, x) ∷ [])
      counted (Some bytes) = omega arith
      counted None = omega arith

  -- more were read behind them
  pub adds_joined : (ks ls : List Key) (a b c : Replica D) (from mid to : Summing) → Adds g s ks a from b mid → Adds g s ls b mid c to → Adds g s (ks ++ ls) a from c to
  adds_joined ks ls a b c from mid to x y = record {
    rows = x.rows ++ y.rows;
    of = keys_append x.rows y.rows ∙ ap (λ keys. keys ++ keys_read y.rows) x.of ∙ ap (λ keys. ks ++ keys) y.of;
    given = given_joined a b c x.rows y.rows x.given y.given;
    fed = λ m h. subst (Holds256 to.hasher) (append_assoc m (read_bytes x.rows) (read_bytes y.rows) ∙ ap (λ bytes. m ++ bytes) (sym (bytes_append x.rows y.rows))) (y.fed (m ++ read_bytes x.rows) (x.fed m h));
    there = omega (arith, x.there, y.there, there_append x.rows y.rows);
  }

  -- ---- one was refused

  -- the first of these
  pub refused_first : (key : Key) (left : List Key) (a b : Replica D) (refusal : Refusal) → IsRead g a key s (Err refusal) b → IsRefusedAt g s (key ∷ left) a refusal b
  refused_first key left a b refusal is = record { rows = []; key = key; left = left; split = refl; mid = a; given = refl; refused = is }

  -- so it is where others were read before
  pub refused_behind : (ks ls : List Key) (a b c : Replica D) (from mid : Summing) (refusal : Refusal) → Adds g s ks a from b mid → IsRefusedAt g s ls b refusal c → IsRefusedAt g s (ks ++ ls) a refusal c
  refused_behind ks ls a b c from mid refusal x y = record {
    rows = x.rows ++ y.rows;
    key = y.key;
    left = y.left;
    split =
        ap (λ keys. keys ++ y.key ∷ y.left) (keys_append x.rows y.rows) ∙ append_assoc (keys_read x.rows) (keys_read y.rows) (y.key ∷ y.left)
        ∙ ap (λ keys. keys_read x.rows ++ keys) y.split ∙ ap (λ keys. keys ++ ls) x.of;
    mid = y.mid;
    given = given_joined a b y.mid x.rows y.rows x.given y.given;
    refused = y.refused;
  }

  -- and where others were to be read behind
  pub refused_before : (ks more : List Key) (a c : Replica D) (refusal : Refusal) → IsRefusedAt g s ks a refusal c → IsRefusedAt g s (ks ++ more) a refusal c
  refused_before ks more a c refusal y = record {
    rows = y.rows;
    key = y.key;
    left = y.left ++ more;
    split = sym (append_assoc (keys_read y.rows) (y.key ∷ y.left) more) ∙ ap (λ keys. keys ++ more) y.split;
    mid = y.mid;
    given = y.given;
    refused = y.refused;
  }
