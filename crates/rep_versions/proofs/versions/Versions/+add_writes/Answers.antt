use Rattle.std.proofs.Common.{◌∙◌, sym, ap, subst, IsSome}
use Rattle.std.specs.FinMap as map
use Rattle.rep_versions.specs.declared.versions.VersionKey.{VersionKey}
use Rattle.rep_versions.specs.Versions.{IsAdded, restored}
use Rattle.rep_versions.proofs.Changes.{stands_after, restored_again, added_more}
use Rattle.rep_versions.proofs.versions.Versions.+add_writes.Goals as goal

pub restore-requires : goal.restore-requires
restore-requires t c =
    let v : VersionKey = record { key = c.in-Some.write.now.key; seqno = c.args.seqno } in
    subst (λ m. IsSome (map.get m v)) (sym (c.in-Err.ensures.refused.1 ∙ c.in_ok-before.ensures.put)) (stands_after c.make_room.new.self v c.copied.result.value)

pub returns-in-Err-clause-refused : goal.returns-in-Err-clause-refused
returns-in-Err-clause-refused t c =
    let v : VersionKey = record { key = c.in-Some.write.now.key; seqno = c.args.seqno } in (
      c.in-Err.ensures.refused.0,
      c.restore.ensures ∙ ap (restored v c.in_ok-before.before) (c.in-Err.ensures.refused.1 ∙ c.in_ok-before.ensures.put) ∙ restored_again c.make_room.new.self v c.copied.result.value c.in_ok-before.before c.in_ok-before.ensures.before
          ∙ c.make_room.ensures.same,
    )

pub returns-clause-added : goal.returns-clause-added
returns-clause-added t c =
    let v : VersionKey = record { key = c.in-Some.write.now.key; seqno = c.args.seqno } in
    let put = c.in_ok-before.ensures.put ∙ ap (λ m. map.insert m v c.copied.result.value) c.make_room.ensures.same ∙ ap (λ w. map.insert c.args.self.now v w.value) c.copied.ensures.same in
    let rest = subst (λ m. IsAdded c.args.seqno c.in-Some.rest.now m c.add_writes.new.self) put c.in_default-add_writes.ensures.added in
    subst (λ ws. IsAdded c.args.seqno ws c.args.self.now c.add_writes.new.self) (sym c.in-Some.ensures.cases.0)
    (added_more c.args.seqno c.in-Some.write.now c.in-Some.rest.now c.args.self.now c.add_writes.new.self rest)
