use Rattle.std.proofs.Common.{◌≡◌, ◌+◌, ap, [], ◌∷◌, List, Some, ℕ}
use Rattle.rep_types.specs.declared.value.Write.{Write}
use Rattle.rep_snap.specs.Lists.{published, pair_of}
use Rattle.uses_snap.specs.Counting.{the_row, number_at}
use Rattle.uses_snap.proofs.Counting.{above, still_allowed, published_next}
use Rattle.uses_snap.proofs.counted.publish_next.Goals as goal

-- the pair of one write
abbrev one_write : List ℕ → List Write
one_write value = record { key = the_row; value = Some value } ∷ []

pub publish-publisher-requires-clause-above : goal.publish-publisher-requires-clause-above
publish-publisher-requires-clause-above g c = above c.histories_grow.ensures c.args.count c.args.publisher.start (published c.args.publisher.list) c.requires.start c.requires.list

pub publish-publisher-requires-clause-allowed : goal.publish-publisher-requires-clause-allowed
publish-publisher-requires-clause-allowed g c =
    let n = c.args.count + 1 in
    let value : c.in-Ok.value ≡ number_at n = cc c.in-Ok.ensures in
    still_allowed c.args.count (published c.args.publisher.list) _ c.requires.list (ap (λ (v : List ℕ). pair_of n (one_write v)) value)

pub returns-in-Ok-done-clause-list : goal.returns-in-Ok-done-clause-list
returns-in-Ok-done-clause-list g c =
    let n = c.args.count + 1 in
    let value : c.in-Ok.value ≡ number_at n = cc c.in-Ok.ensures in
    published_next c.histories_grow.ensures c.args.count c.args.publisher c.publish-publisher.result.0 c.publish-publisher.result.1 c.in-Ok-done.field-0 c.in-Ok-done.is _ c.requires.list
    (ap (λ (v : List ℕ). pair_of n (one_write v)) value) c.publish-publisher.ensures.change
