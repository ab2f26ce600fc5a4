use Rattle.std.proofs.Common.{sym, ap, ◌∙◌}
use Rattle.rep_session.proofs.Ascending.{key_inserted, key_there, keys_ascend}
use Rattle.rep_types.specs.Keys.{disorder}
use Rattle.rep_session.proofs.places.place_key.Goals as goal

new_key : goal.returns-then-not-is_among-clause-placed
new_key c =
    c.insert.ensures.items ∙ rw c.keys_before-place.ensures (rw c.as_slice-then-not-is_among.ensures.value (key_inserted c.args.key c.args.keys.now.items c.requires.ascend (rw c.as_slice.ensures.value at (sym c.is_among.ensures ∙ c.if-not-is_among.true))))

old_key : goal.returns-else-not-is_among-clause-placed
old_key c =
    key_there c.args.key c.args.keys.now.items c.requires.ascend (rw c.as_slice.ensures.value at (sym c.is_among.ensures ∙ c.if-not-is_among.false))

pub returns-then-not-is_among-clause-placed : goal.returns-then-not-is_among-clause-placed
returns-then-not-is_among-clause-placed c = new_key c

pub returns-then-not-is_among-clause-ascend : goal.returns-then-not-is_among-clause-ascend
returns-then-not-is_among-clause-ascend c = ap disorder (new_key c) ∙ keys_ascend c.args.key c.args.keys.now.items c.requires.ascend

pub returns-else-not-is_among-clause-placed : goal.returns-else-not-is_among-clause-placed
returns-else-not-is_among-clause-placed c = old_key c
