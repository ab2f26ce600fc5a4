use Rattle.std.proofs.Common.{◌≡◌, List, ℕ, ◌++◌, ◌∷◌, [], true, refl, ap, sym, ◌∙◌}
use Rattle.rep_types.specs.declared.judged.Judged.{Judged}
use Rattle.rep_record.specs.Blocks.{has_room, filled_by, gathered_in, IsGathered}
use Rattle.rep_record.proofs.Gathering.{gathered_more}
use Rattle.rep_record.proofs.block.BlockBuilder.push.Goals as goal

-- the block takes the record
takes : (c : goal.After-self-2-1) → has_room c.args.self.now c.args.judged.now ≡ true
takes c = sym (c.if-not-take.ensures.room c.args.self.now c.room-room.ensures)

-- the record is gathered behind the others
gathered : (c : goal.After-self-2-1)
    → IsGathered c.first-self-inside.result c.count-self-inside.result c.put_bytes.new.out.items
    × (gathered_in c.count-self-inside.result c.put_bytes.new.out.items ≡ gathered_in c.self.inside.count c.self.inside.bytes.items ++ c.args.judged.now ∷ [])
gathered c =
    let view : c.args.self.now ≡ gathered_in c.self.inside.count c.self.inside.bytes.items = sym c.self.view_is in
    let filled : c.take.new.self ≡ filled_by (gathered_in c.self.inside.count c.self.inside.bytes.items ++ c.args.judged.now ∷ []) =
    rw (takes c) at (c.take.ensures.after c.args.self.now c.room-room.ensures) ∙ ap (λ (js : List Judged). filled_by (js ++ c.args.judged.now ∷ [])) view in
    let there = c.put_bytes.ensures.bytes ∙ ap (λ (xs : List ℕ). c.self.inside.bytes.items ++ xs) (c.as_slice.ensures.value ∙ c.if-not-put_spelling.ensures.bytes) in
    rw (c.first-self-inside.ensures, c.count-self-inside.ensures.count)
    (gathered_more c.self.inside.first c.self.inside.count c.self.inside.bytes.items c.put_bytes.new.out.items c.args.judged.now c.take.new.self c.self.invariant (c.if-not-put_spelling.ensures.record refl)
    (ap (λ (js : List Judged). has_room js c.args.judged.now) c.self.view_is ∙ takes c) filled there)

pub invariant_of-self : goal.invariant_of-self
invariant_of-self c = (gathered c).0

pub returns-clause-after : goal.returns-clause-after
returns-clause-after c = rw (takes c) ((gathered c).1 ∙ ap (λ (js : List Judged). js ++ c.args.judged.now ∷ []) c.self.view_is)
