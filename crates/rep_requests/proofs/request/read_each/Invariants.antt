use Rattle.std.proofs.Common.{◌≡◌, ◌≤◌, length, true, false, []}
use Rattle.rep_record.specs.Reading.{each, key_in}
use Rattle.rep_requests.proofs.Keys.{keys_from}
use Rattle.rep_requests.proofs.request.read_each.Given as goal

-- the keys so far and those that come are the keys of all words
abbrev pub invariant-loop-word : goal.invariant-loop-word
invariant-loop-word l = record {
  told : keys_from l.keys.items l.has_more (each key_in l.words) ≡ keys_from [] false (each key_in l.initial.words);
  few : length l.keys.items ≤ 16;
  full : l.has_more ≡ true → length l.keys.items ≡ 16;
}

abbrev pub decreases-loop-word : goal.decreases-loop-word
decreases-loop-word l = length l.words
