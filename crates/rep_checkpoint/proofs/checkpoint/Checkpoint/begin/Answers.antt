use Rattle.std.proofs.Common.{rules, refl, IsTrue}
use Rattle.rep_checkpoint.proofs.Beginning.{began}
use Rattle.rep_checkpoint.proofs.checkpoint.Checkpoint.begin.Goals as goal

pub invariant_of-self : goal.invariant_of-self
invariant_of-self c =
    let yes : IsTrue c.can_begin.result = search rules in
    record {
      is_super = c.self.invariant.is_super;
      going = (began c.row_places_are_told.ensures c.args.versions.now c.args.self.now (record { base = c.self.inside.base; stage = c.self.inside.stage }) c.args.position c.args.start c.args.window c.args.window c.schema-schema.result.now c.in_ok-left.left.items
          c.deref.result.now c.next_super-superblock.result c.self.view_is refl c.schema-schema.ensures c.deref.ensures.value c.next_super-superblock.ensures c.self.invariant.is_super (c.can_begin.ensures.yes yes)
          c.in_ok-left.ensures.pages).next;
    }

pub returns-clause-begun : goal.returns-clause-begun
returns-clause-begun c =
    let yes : IsTrue c.can_begin.result = search rules in
    let b = began c.row_places_are_told.ensures c.args.versions.now c.args.self.now (record { base = c.self.inside.base; stage = c.self.inside.stage }) c.args.position c.args.start c.args.window c.args.window c.schema-schema.result.now c.in_ok-left.left.items
    c.deref.result.now c.next_super-superblock.result c.self.view_is refl c.schema-schema.ensures c.deref.ensures.value c.next_super-superblock.ensures c.self.invariant.is_super (c.can_begin.ensures.yes yes)
    c.in_ok-left.ensures.pages in
    (c.in_ok-left.left.items, b.pages, b.is, b.begins)
