-- What a disk in memory keeps, call by call.
use Rattle.std.proofs.Common.{◌≡◌, ℕ, ◌+◌, ◌-◌, ◌<◌, ◌≤◌, ◌⊎◌, inl, inr, List, [], ◌∷◌, ◌++◌, length, get_or, replicate, refl, sym, subst, ap, ◌∙◌, arith}
use Rattle.std.proofs.lemmas.List.{length-replicate, get_or-replicate, get_or_default, same_lists}
use Rattle.std.proofs.lemmas.Bool.{cases_lt}
use Rattle.rep_disk.specs.declared.memory.Call.{Call}
use Rattle.rep_disk.specs.declared.memory.Range.{Range}
use Rattle.rep_disk.specs.declared.memory.Loss.{Loss}
use Rattle.rep_disk.specs.declared.memory.Loss.TheVariants.{Keep, Drop, Junk}
use Rattle.rep_disk.specs.Bytes.{put, part, Untouched}
use Rattle.rep_disk.specs.History.{History, Begins, Wrote, Synced, seen, stable, pending, IsImage}
use Rattle.rep_disk.specs.Memory.{IsAfterLoss}
use Rattle.rep_disk.specs.Record.{after, replay, ranges_onto, filled, laid, lost, AreWithin, IsKept}
use Rattle.rep_disk.proofs.Bytes.{length-put, length-part, get_or-part, get_or-put_apart, get_or-put_in}
use Rattle.rep_disk.proofs.Images.{length-seen, seen_outside}

-- one call more
pub replay_push : (h : History) (calls : List Call) (call : Call) → replay h (calls ++ call ∷ []) ≡ after (replay h calls) call
replay_push h [] call = refl
replay_push h (first ∷ calls) call = replay_push (after h first) calls call

-- the same where the calls are known by an equation
pub replay_pushed : (h : History) (old new : List Call) (call : Call) → new ≡ old ++ call ∷ [] → replay h new ≡ after (replay h old) call
replay_pushed h old new call is = ap (replay h) is ∙ replay_push h old call

-- one range more
pub ranges_push : (older : List (ℕ × ℕ)) (ranges : List Range) (range : Range) → ranges_onto older (ranges ++ range ∷ []) ≡ (range.at, range.len) ∷ ranges_onto older ranges
ranges_push older [] range = refl
ranges_push older (first ∷ ranges) range = ranges_push ((first.at, first.len) ∷ older) ranges range

-- each range still lies within
pub within_push : (size : ℕ) (ranges : List Range) (range : Range) → AreWithin size ranges → range.at + range.len ≤ size → AreWithin size (ranges ++ range ∷ [])
within_push size [] range within fits = (fits, tt)
within_push size (first ∷ ranges) range within fits = (within.0, within_push size ranges range within.1 fits)

-- the length stays
pub length-filled : (ranges : List Range) (byte : ℕ) (bytes : List ℕ) → length (filled ranges byte bytes) ≡ length bytes
length-filled [] byte bytes = refl
length-filled (range ∷ ranges) byte bytes = length-filled ranges byte (put bytes range.at (replicate range.len byte)) ∙ length-put bytes range.at (replicate range.len byte)

-- what lies apart from all ranges lies apart from the older ones
older_apart : (older : List (ℕ × ℕ)) (ranges : List Range) (k : ℕ) → Untouched (ranges_onto older ranges) k 1 → Untouched older k 1
older_apart older [] k apart = apart
older_apart older (range ∷ ranges) k apart = (older_apart ((range.at, range.len) ∷ older) ranges k apart).1

-- a byte apart from the ranges stays
pub filled_outside : (older : List (ℕ × ℕ)) (ranges : List Range) (byte : ℕ) (bytes : List ℕ) (k : ℕ) → Untouched (ranges_onto older ranges) k 1 → get_or (filled ranges byte bytes) k 0 ≡ get_or bytes k 0
filled_outside older [] byte bytes k apart = refl
filled_outside older (range ∷ ranges) byte bytes k apart =
    let here : (range.at + range.len ≤ k) ⊎ (k + 1 ≤ range.at) = (older_apart ((range.at, range.len) ∷ older) ranges k apart).0 in
    filled_outside ((range.at, range.len) ∷ older) ranges byte (put bytes range.at (replicate range.len byte)) k apart
    ∙ get_or-put_apart bytes range.at (replicate range.len byte) k 0 (elim here [ inl behind ↦ inl (omega (arith, length-replicate range.len byte)) | inr before ↦ inr before ])

-- a byte in a range, or apart from it
place : (at n k : ℕ) → ((at + n ≤ k) ⊎ (k + 1 ≤ at)) ⊎ ((at ≤ k) × (k < at + n))
place at n k = elim (cases_lt k at) [ inl before ↦ inl (inr (omega arith)) | inr from ↦ elim (cases_lt k (at + n)) [ inl inside ↦ inr (from, inside) | inr behind ↦ inl (inl behind) ] ]

-- a byte of a range that is filled
put_filled : (at n byte : ℕ) (bytes : List ℕ) (k : ℕ) → k < length bytes → at ≤ k → k < at + n → get_or (put bytes at (replicate n byte)) k 0 ≡ byte
put_filled at n byte bytes k inside from to =
    let size : length (replicate n byte) ≡ n = length-replicate n byte in
    let split : (at + (k - at)) ≡ k = omega arith in
    subst (λ (i : ℕ). get_or (put bytes at (replicate n byte)) i 0 ≡ byte) split
    (get_or-put_in bytes at (replicate n byte) (k - at) 0 (omega arith) (omega arith) ∙ get_or-replicate n (k - at) byte 0 (omega arith))

-- a byte that holds the filling keeps it
still_filled : (ranges : List Range) (byte : ℕ) (bytes : List ℕ) (k : ℕ) → k < length bytes → get_or bytes k 0 ≡ byte → get_or (filled ranges byte bytes) k 0 ≡ byte
still_filled [] byte bytes k inside is = is
still_filled (range ∷ ranges) byte bytes k inside is =
    still_filled ranges byte (put bytes range.at (replicate range.len byte)) k (omega (arith, length-put bytes range.at (replicate range.len byte)))
    (elim (place range.at range.len k) [
      | inl (inl behind) ↦ get_or-put_apart bytes range.at (replicate range.len byte) k 0 (inl (omega (arith, length-replicate range.len byte))) ∙ is
      | inl (inr before) ↦ get_or-put_apart bytes range.at (replicate range.len byte) k 0 (inr before) ∙ is
      | inr here ↦ put_filled range.at range.len byte bytes k inside here.0 here.1
    ])

-- a byte in one of the ranges is filled
pub filled_inside : (older : List (ℕ × ℕ)) (ranges : List Range) (byte : ℕ) (bytes : List ℕ) (k : ℕ) → k < length bytes → Untouched older k 1 → (Untouched (ranges_onto older ranges) k 1 → ⊥) → get_or (filled ranges byte bytes) k 0 ≡ byte
filled_inside older [] byte bytes k inside apart touched = absurd (touched apart)
filled_inside older (range ∷ ranges) byte bytes k inside apart touched =
    let more : k < length (put bytes range.at (replicate range.len byte)) = omega (arith, length-put bytes range.at (replicate range.len byte)) in
    elim (place range.at range.len k) [
      | inl away ↦ filled_inside ((range.at, range.len) ∷ older) ranges byte (put bytes range.at (replicate range.len byte)) k more (away, apart) touched
      | inr here ↦ still_filled ranges byte (put bytes range.at (replicate range.len byte)) k more (put_filled range.at range.len byte bytes k inside here.0 here.1)
    ]

-- what a crash leaves
pub lost_is_left : (loss : Loss) (h : History) (ranges : List Range) → ranges_onto [] ranges ≡ pending h → IsAfterLoss loss h (lost loss (seen h) (stable h) ranges)
lost_is_left Keep h ranges are = record { sized = refl; outside = λ k apart. refl; inside = λ k inside touched. refl }
lost_is_left Drop h ranges are = record { sized = sym (length-seen h); outside = λ k apart. sym (seen_outside h k apart); inside = λ k inside touched. refl }
lost_is_left Junk h ranges are = record {
  sized = length-filled ranges 0xEE (seen h);
  outside = λ k apart. filled_outside [] ranges 0xEE (seen h) k (rw are apart);
  inside = λ k inside touched. filled_inside [] ranges 0xEE (seen h) k (omega arith) tt (rw are touched);
}

-- which is one of the images
pub left_is_image : (loss : Loss) (h : History) (image : List ℕ) → IsAfterLoss loss h image → IsImage h image
left_is_image loss h image left = record { sized = left.sized ∙ length-seen h; outside = λ k apart. left.outside k apart ∙ seen_outside h k apart }

-- the same with the parts known by equations
pub crashed : (loss : Loss) (h : History) (bytes last image : List ℕ) (ranges : List Range) → bytes ≡ seen h → last ≡ stable h → ranges_onto [] ranges ≡ pending h → image ≡ lost loss bytes last ranges → IsAfterLoss loss h image
crashed loss h bytes last image ranges bytes_are last_are ranges_are is = rw (is, bytes_are, last_are) (lost_is_left loss h ranges ranges_are)

-- what is kept after one write more
pub kept_wrote : (found : List ℕ) (calls more : List Call) (bytes last : List ℕ) (ranges wider : List Range) (at : ℕ) (new written : List ℕ) →
    IsKept found calls bytes last ranges → ((h : History) → replay h more ≡ Wrote at new (replay h calls)) → wider ≡ ranges ++ (record { at = at; len = length new }) ∷ [] →
    at + length new ≤ length bytes → written ≡ put bytes at new → IsKept found more written last wider
kept_wrote found calls more bytes last ranges wider at new written kept calls_are ranges_are fits is =
    let size : length written ≡ length bytes = ap length is ∙ length-put bytes at new in
    record {
      bytes_are = is ∙ (ap (λ (old : List ℕ). put old at new) kept.bytes_are ∙ sym (ap seen (calls_are (Begins found))));
      last_are = kept.last_are ∙ sym (ap stable (calls_are (Begins found)));
      ranges_are = ap (ranges_onto []) ranges_are ∙ (ranges_push [] ranges (record { at = at; len = length new }) ∙ (ap (λ (rest : List (ℕ × ℕ)). (at, length new) ∷ rest) kept.ranges_are ∙ sym (ap pending (calls_are (Begins found)))));
      found_length = kept.found_length ∙ sym size;
      last_length = kept.last_length ∙ sym size;
      within = rw (size, ranges_are) (within_push (length bytes) ranges (record { at = at; len = length new }) kept.within fits);
    }

-- a byte of a range that is laid over others
put_laid : (at n : ℕ) (source bytes : List ℕ) (k : ℕ) → at + n ≤ length source → length bytes ≡ length source → at ≤ k → k < at + n → get_or (put bytes at (part at n source)) k 0 ≡ get_or source k 0
put_laid at n source bytes k fits sized from to =
    let split : (at + (k - at)) ≡ k = omega arith in
    subst (λ (i : ℕ). get_or (put bytes at (part at n source)) i 0 ≡ get_or source i 0) split
    (get_or-put_in bytes at (part at n source) (k - at) 0 (omega (arith, length-part at n source fits)) (omega arith) ∙ get_or-part at n source (k - at) 0 (omega arith))

-- a byte of bytes that agree with the source outside the ranges, once these were laid over them
laid_at : (older : List (ℕ × ℕ)) (ranges : List Range) (source bytes : List ℕ) (k : ℕ) → AreWithin (length source) ranges → length bytes ≡ length source → k < length source →
    (Untouched (ranges_onto older ranges) k 1 → get_or bytes k 0 ≡ get_or source k 0) → Untouched older k 1 → get_or (laid ranges source bytes) k 0 ≡ get_or source k 0
laid_at older [] source bytes k within sized inside agree apart = agree apart
laid_at older (range ∷ ranges) source bytes k within sized inside agree apart =
    let size : length (put bytes range.at (part range.at range.len source)) ≡ length source = length-put bytes range.at (part range.at range.len source) ∙ sized in
    let long : length (part range.at range.len source) ≡ range.len = length-part range.at range.len source within.0 in
    elim (place range.at range.len k) [
      | inl away ↦
          let stays : get_or (put bytes range.at (part range.at range.len source)) k 0 ≡ get_or bytes k 0 =
          get_or-put_apart bytes range.at (part range.at range.len source) k 0 (elim away [ inl behind ↦ inl (omega (arith, long)) | inr before ↦ inr before ]) in
          laid_at ((range.at, range.len) ∷ older) ranges source (put bytes range.at (part range.at range.len source)) k within.1 size inside (λ all. stays ∙ agree all) (away, apart)
      | inr here ↦ laid_at [] ranges source (put bytes range.at (part range.at range.len source)) k within.1 size inside
          (λ all. put_laid range.at range.len source bytes k within.0 sized here.0 here.1) tt
    ]

-- the length stays
pub length-laid : (ranges : List Range) (source bytes : List ℕ) → length (laid ranges source bytes) ≡ length bytes
length-laid [] source bytes = refl
length-laid (range ∷ ranges) source bytes = length-laid ranges source (put bytes range.at (part range.at range.len source)) ∙ length-put bytes range.at (part range.at range.len source)

-- once the pending ranges are laid over what is stable, it is what the disk reads as
laid_is_seen : (h : History) (ranges : List Range) → ranges_onto [] ranges ≡ pending h → AreWithin (length (seen h)) ranges → laid ranges (seen h) (stable h) ≡ seen h
laid_is_seen h ranges are within =
    let size : length (laid ranges (seen h) (stable h)) ≡ length (seen h) = length-laid ranges (seen h) (stable h) ∙ sym (length-seen h) in
    same_lists (laid ranges (seen h) (stable h)) (seen h) size
    (λ k d inside.
    let long : k < length (seen h) = omega (arith, size) in
    let at_zero : get_or (laid ranges (seen h) (stable h)) k 0 ≡ get_or (seen h) k 0 =
    laid_at [] ranges (seen h) (stable h) k within (sym (length-seen h)) long (λ apart. sym (seen_outside h k (subst (λ (all : List (ℕ × ℕ)). Untouched all k 1) are apart))) tt in
    get_or_default (laid ranges (seen h) (stable h)) k d 0 inside ∙ (at_zero ∙ get_or_default (seen h) k 0 d long))

-- what is kept after a sync
pub kept_synced : (found : List ℕ) (calls more : List Call) (bytes last new : List ℕ) (ranges none : List Range) →
    IsKept found calls bytes last ranges → ((h : History) → replay h more ≡ Synced (replay h calls)) → none ≡ [] → new ≡ laid ranges bytes last → IsKept found more bytes new none
kept_synced found calls more bytes last new ranges none kept calls_are none_are is =
    let is_seen : new ≡ bytes =
    is ∙ (subst (λ (all : List ℕ). AreWithin (length all) ranges → laid ranges all last ≡ all) (sym kept.bytes_are)
    (λ within. ap (λ (old : List ℕ). laid ranges (seen (replay (Begins found) calls)) old) kept.last_are ∙ laid_is_seen (replay (Begins found) calls) ranges kept.ranges_are within) kept.within) in
    record {
      bytes_are = kept.bytes_are ∙ sym (ap seen (calls_are (Begins found)));
      last_are = is_seen ∙ (kept.bytes_are ∙ sym (ap stable (calls_are (Begins found))));
      ranges_are = ap (ranges_onto []) none_are ∙ sym (ap pending (calls_are (Begins found)));
      found_length = kept.found_length;
      last_length = ap length is_seen;
      within = rw none_are tt;
    }
