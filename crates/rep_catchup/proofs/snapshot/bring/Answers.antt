use Rattle.std.proofs.Common.{rules, Err, ap, inl, sym, subst, ◌∙◌}
use Rattle.rep_replica.specs.Coming.{blank}
use Rattle.rep_replica.specs.Engines.{Engine}
use Rattle.rep_replica.specs.Replicas.{Replica}
use Rattle.rep_catchup.specs.Growing.{EndsRunning}
use Rattle.rep_catchup.specs.Snapshots.{GivenUp}
use Rattle.rep_catchup.proofs.JoinBringing.{brought_on, none_came, given_at_once, given_behind, early_pages}
use Rattle.rep_catchup.proofs.JoinTelling.{told_behind, told_between, install_told, window_told}
use Rattle.rep_catchup.proofs.JoinNoting.{notes_device, notes_passed, device_alone}
use Rattle.rep_catchup.proofs.snapshot.bring.Goals as goal

pub take_pages-requires-clause-none : goal.take_pages-requires-clause-none
take_pages-requires-clause-none g c = none_came c.args.replica.engine.checkpoint.base c.args.header.now.uuid c.args.position c.args.replica.engine.log.next c.in-Ok.taken.0 c.in-Ok-install.installation.coming c.in-Ok-install.ensures.begun.1

pub returns-in-Ok-take_pages : goal.returns-in-Ok-take_pages
returns-in-Ok-take_pages g c =
    let took = c.in-Ok-take_pages.ensures.taken in
    let all = brought_on g.D.Disk c.args.replica c.end.result.0 c.in-Ok-install.installation c.take_pages.new.installation c.args.header.now.format c.args.header.now.uuid c.args.position c.in-Ok.taken.0 c.in-Ok.taken.1
    c.args.transfer.now c.take_window.new.transfer c.take_pages.new.transfer (g.R.Source.remaining c.args.reader.now) (g.R.Source.remaining c.take_window.new.reader) (g.R.Source.remaining c.take_pages.new.reader) c.in-Ok.ensures.taken
    c.in-Ok-install.ensures.begun c.requires.quiet took.0 took.1 took.2 c.requires.cluster c.args.at c.end.result.1 (c.end.ensures.lands took.2.running) (λ n holds. c.in-Ok-install.ensures.holds n holds) (λ n y h. c.end.ensures.installs n y h) in
    let same = ap (λ (e : Engine g.row.D.Denot). g.D.Disk.failures e.disk) c.in-Ok-install.ensures.begun.0 in
    record {
      brought = all.0;
      left = all.1;
      ends = all.2;
      notes = notes_device c.end.result.1 (c.in-Ok-take_pages.ensures.notes.fine (search rules) ∙ c.in-Ok.ensures.notes.fine (search rules)) (device_alone _ c.end.result.1 (c.end.ensures.lands took.2.running).fault);
      told =
          told_behind (g.D.Disk.failures c.args.replica.engine.disk) (g.D.Disk.failures c.take_pages.new.installation.engine.disk) (g.D.Disk.failures c.end.result.0.engine.disk) c.end.result.1 (c.in-Ok-take_pages.ensures.told ∙ same)
          c.end.ensures.told;
      refused = all.3;
    }

-- ---- where it isn't taken

pub returns-in-Err-take_pages-clause-left : goal.returns-in-Err-take_pages-clause-left
returns-in-Err-take_pages-clause-left g c =
    inl (given_behind g.D.Disk c.args.replica c.in-Ok-install.installation c.take_pages.new.installation (blank c.args.position c.in-Ok.taken.0) c.in-Ok-install.ensures.begun.0
    (λ n holds. c.in-Ok-install.ensures.holds n holds) (λ n z h. c.in-Err-take_pages.ensures.kept n z h) c.give_up.result c.give_up.ensures.replica (λ n z h. c.give_up.ensures.holds n z h))

pub returns-in-Err-take_pages-clause-ends : goal.returns-in-Err-take_pages-clause-ends
returns-in-Err-take_pages-clause-ends g c = subst (λ (r : Replica g.row.D.Denot). EndsRunning {T = Unit {0}} (Err c.in-Err-take_pages.refusal) r) (sym c.give_up.ensures.replica) c.in-Err-take_pages.ensures.ends

pub returns-in-Err-take_pages-clause-refused : goal.returns-in-Err-take_pages-clause-refused
returns-in-Err-take_pages-clause-refused g c =
    early_pages g.D.Disk c.args.replica c.give_up.result c.in-Ok-install.installation c.take_pages.new.installation c.args.header.now.format c.args.header.now.uuid c.args.position c.in-Ok.taken.0 c.in-Ok.taken.1
    c.args.transfer.now c.take_window.new.transfer c.take_pages.new.transfer (g.R.Source.remaining c.args.reader.now) (g.R.Source.remaining c.take_window.new.reader) (g.R.Source.remaining c.take_pages.new.reader) c.in-Ok.ensures.taken
    c.in-Ok-install.ensures.begun c.args.at c.in-Err-take_pages.refusal c.in-Err-take_pages.ensures.refused

pub returns-in-Err-install-clause-left : goal.returns-in-Err-install-clause-left
returns-in-Err-install-clause-left g c =
    inl (subst (λ (r : Replica g.row.D.Denot). GivenUp g.D.Disk c.args.replica r) (sym c.in-Err-install.ensures.refused.0) (given_at_once g.D.Disk c.args.replica))

-- ---- what is told of the device, where it isn't taken

pub returns-in-Err-take_pages-clause-told : goal.returns-in-Err-take_pages-clause-told
returns-in-Err-take_pages-clause-told g c =
    let first = ap (λ (e : Engine g.row.D.Denot). g.D.Disk.failures e.disk) c.in-Ok-install.ensures.begun.0 in
    let last = ap (λ (r : Replica g.row.D.Denot). g.D.Disk.failures r.engine.disk) c.give_up.ensures.replica in
    told_between (g.D.Disk.failures c.args.replica.engine.disk) (g.D.Disk.failures c.in-Ok-install.installation.engine.disk) (g.D.Disk.failures c.take_pages.new.installation.engine.disk) (g.D.Disk.failures c.give_up.result.engine.disk)
    c.in-Err-take_pages.refusal first last c.in-Err-take_pages.ensures.told

pub returns-in-Err-install-clause-told : goal.returns-in-Err-install-clause-told
returns-in-Err-install-clause-told g c =
    install_told (g.D.Disk.failures c.args.replica.engine.disk) (g.D.Disk.failures c.in-Err-install.replica.engine.disk) c.in-Err-install.refusal (ap (λ (r : Replica g.row.D.Denot). g.D.Disk.failures r.engine.disk) c.in-Err-install.ensures.refused.0)
    c.in-Err-install.ensures.refused.1

pub returns-in-Err-clause-told : goal.returns-in-Err-clause-told
returns-in-Err-clause-told g c = window_told (g.D.Disk.failures c.args.replica.engine.disk) c.args.at c.in-Err.refusal c.in-Err.ensures.refused

-- ---- what is noted of the source

pub returns-in-Err-clause-notes : goal.returns-in-Err-clause-notes
returns-in-Err-clause-notes g c = notes_passed c.in-Err.ensures.notes
