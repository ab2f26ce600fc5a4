-- What a feed still hands out, behind a line that was handed out and behind more that was read.
use Rattle.std.proofs.Common.{◌≡◌, ℕ, ◌+◌, ◌<◌, List, ◌∷◌, [], ◌++◌, length, take, drop, Option, None, Some, refl, sym, ap, ◌∙◌, arith, append_assoc, slice_range}
use Rattle.std.specs.Io.KnownBytes.{Keeps, Consumes}
use Rattle.rep_lines.specs.Lines.{HasNoFeed, clipped_behind, clipped, kept_behind, kept}
use Rattle.rep_lines.specs.Feeds.{ahead, ReadsMore}
use Rattle.rep_lines.proofs.Clipping.{clipped_append, kept_append, kept_clipped}
use Rattle.rep_lines.proofs.Ranges.{front_same, range_more}

-- a line was handed out of the front
pub line_ahead : (old line new : List ℕ) (left : Option (List ℕ)) → old ≡ line ++ 10 ∷ new → Consumes (ahead old left) (ahead new left) (line ++ 10 ∷ [])
line_ahead old line new None e = tt
line_ahead old line new (Some known) e =
    let same : kept old ≡ kept new = ap kept e ∙ kept_append 0 line (10 ∷ new) in
    rw (same, e) (append_assoc line (10 ∷ new) (clipped_behind (kept new) known) ∙ sym (append_assoc line (10 ∷ []) (new ++ clipped_behind (kept new) known)))

-- the same bytes were read, and the others are ahead
more_known : (raw bytes rest : List ℕ) →
    clipped raw ++ clipped_behind (kept (clipped raw)) (bytes ++ rest) ≡ clipped (raw ++ bytes) ++ clipped_behind (kept (clipped (raw ++ bytes))) rest
more_known raw bytes rest =
    let was : kept (clipped raw) ≡ kept raw = kept_clipped 0 raw in
    let now : kept (clipped (raw ++ bytes)) ≡ kept_behind (kept raw) bytes = kept_clipped 0 (raw ++ bytes) ∙ kept_append 0 raw bytes in
    rw (was, now, clipped_append (kept raw) bytes rest, clipped_append 0 raw bytes)
    (sym (append_assoc (clipped raw) (clipped_behind (kept raw) bytes) (clipped_behind (kept_behind (kept raw) bytes) rest)))

pub more_ahead : (held raw bytes now : List ℕ) (old new : Option (List ℕ)) → held ≡ clipped raw → now ≡ clipped (raw ++ bytes) → Consumes old new bytes →
    Keeps (ahead held old) (ahead now new)
more_ahead held raw bytes now None new was is read = tt
more_ahead held raw bytes now (Some x) None was is read = absurd read
more_ahead held raw bytes now (Some x) (Some y) was is read = rw (was, is, read) (sym (more_known raw bytes y))

-- nothing was read
pub same_ahead : (held now : List ℕ) (old new : Option (List ℕ)) → now ≡ held → Keeps old new → Keeps (ahead held old) (ahead now new)
same_ahead held now None new is kept = tt
same_ahead held now (Some x) None is kept = absurd kept
same_ahead held now (Some x) (Some y) is kept = rw (is, kept) refl

-- more was read behind what had been moved to the front
pub read_ahead : (held raw buffer : List ℕ) (n count : ℕ) (old new : Option (List ℕ)) → held ≡ clipped raw → HasNoFeed raw → take n buffer ≡ take 8192 raw →
    Consumes old new (take count (drop n buffer)) → Keeps (ahead held old) (ahead (clipped (slice_range buffer 0 (n + count))) new)
read_ahead held raw buffer n count old new was none front read =
    more_ahead held (take n buffer) (take count (drop n buffer)) (clipped (slice_range buffer 0 (n + count))) old new
    (was ∙ sym (front_same raw (take n buffer) none front)) (ap clipped (range_more buffer n count)) read

-- what waits then, where something was read
pub reads_more : (held raw buffer : List ℕ) (n count : ℕ) (old new : Option (List ℕ)) → held ≡ clipped raw → HasNoFeed raw → take n buffer ≡ take 8192 raw →
    0 < count → length (take count (drop n buffer)) ≡ count → Consumes old new (take count (drop n buffer)) → ReadsMore held (clipped (slice_range buffer 0 (n + count))) old new
reads_more held raw buffer n count old new was none front some size read = record {
  bytes = take count (drop n buffer);
  some = omega (arith, some, size);
  held = ap clipped (range_more buffer n count) ∙ clipped_append 0 (take n buffer) (take count (drop n buffer)) ∙ joined;
  read = read;
}
  where
    front_is : clipped (take n buffer) ≡ held
    front_is = front_same raw (take n buffer) none front ∙ sym was

    kept_is : kept held ≡ kept (take n buffer)
    kept_is = ap kept (sym front_is) ∙ kept_clipped 0 (take n buffer)

    joined : clipped (take n buffer) ++ clipped_behind (kept (take n buffer)) (take count (drop n buffer)) ≡ held ++ clipped_behind (kept held) (take count (drop n buffer))
    joined = rw (kept_is, front_is) refl
