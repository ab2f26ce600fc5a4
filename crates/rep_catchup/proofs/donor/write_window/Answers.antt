use Rattle.std.proofs.Common.{◌≡◌, ◌<◌, ◌^◌, true, Some, Ok, Err, [], length, refl, subst, arith}
use Rattle.std.proofs.lemmas.Result.{err_from_is_err_and}
use Rattle.rep_types.specs.Settings.{Setting, is_setting}
use Rattle.rep_layout.specs.declared.place.Place.TheVariants.{Window as WindowArea}
use Rattle.rep_layout.specs.Places.{side_of}
use Rattle.rep_layout.specs.Windows.{IsWindowBody, Window, window_bytes}
use Rattle.rep_catchup.specs.Donating.{KnowsWindow, as_seen}
use Rattle.rep_catchup.proofs.DonateReads.{leaves_asked, leaves_cut, leaves_passed, leaves_then, leaves_noted, leaves_wrote}
use Rattle.rep_catchup.proofs.DonateWindow.{window_none, window_cut, window_cut_behind, window_writes}
use Rattle.rep_catchup.proofs.donor.write_window.Goals as goal

pub returns-in_err-write_front-clause-leaves : goal.returns-in_err-write_front-clause-leaves
returns-in_err-write_front-clause-leaves g c =
    let p = err_from_is_err_and c.from_residual-in_err-write_front.result c.from_residual-in_err-write_front.ensures.1 in
    rw (p.1, p.2) (leaves_then g.D.Disk c.args.replica.now c.base_window.new.self c.base_window.new.self _ _ _ c.in_ok-window.window (Err c.in_err-write_front.field-0.0)
    (leaves_asked g.D.Disk _ c.args.replica.now c.base_window.new.self (g.W.Sink.failed c.args.writer.now) (Ok c.in_ok-window.window) c.in_ok-window.ensures.asks c.in_ok-window.ensures.asked c.requires c.in_ok-window.ensures.holds c.in_ok-window.ensures.whole (λ h is. (c.in_ok-window.ensures.spelled h).corrupt is))
    (leaves_cut g.D.Disk c.base_window.new.self _ _ c.in_err-write_front.field-0.0 (c.in_err-write_front.ensures.written []).refused c.in_err-write_front.ensures.notes))

pub returns-in_err-write_count-clause-leaves : goal.returns-in_err-write_count-clause-leaves
returns-in_err-write_count-clause-leaves g c =
    let p = err_from_is_err_and c.from_residual-in_err-write_count.result c.from_residual-in_err-write_count.ensures.1 in
    let old = c.args.replica.now in
    let new = c.base_window.new.self in
    let asked = leaves_asked g.D.Disk _ old new (g.W.Sink.failed c.args.writer.now) (Ok c.in_ok-window.window) c.in_ok-window.ensures.asks c.in_ok-window.ensures.asked c.requires c.in_ok-window.ensures.holds c.in_ok-window.ensures.whole (λ h is. (c.in_ok-window.ensures.spelled h).corrupt is) in
    let fronted = leaves_then g.D.Disk old new new (g.W.Sink.failed c.args.writer.now) (g.W.Sink.failed c.args.writer.now) (g.W.Sink.failed c.write_front.new.writer) c.in_ok-window.window (Ok tt) asked (leaves_noted g.D.Disk new _ _ tt c.in_ok-write_front.ensures.notes asked.runs) in
    rw (p.1, p.2) (leaves_then g.D.Disk old new new _ _ _ tt (Err c.in_err-write_count.field-0.0) fronted
    (leaves_cut g.D.Disk new _ _ c.in_err-write_count.field-0.0 c.in_err-write_count.ensures.written.refused c.in_err-write_count.ensures.notes))

pub returns-clause-leaves : goal.returns-clause-leaves
returns-clause-leaves g c =
    let old = c.args.replica.now in
    let new = c.base_window.new.self in
    let asked = leaves_asked g.D.Disk _ old new (g.W.Sink.failed c.args.writer.now) (Ok c.in_ok-window.window) c.in_ok-window.ensures.asks c.in_ok-window.ensures.asked c.requires c.in_ok-window.ensures.holds c.in_ok-window.ensures.whole (λ h is. (c.in_ok-window.ensures.spelled h).corrupt is) in
    let fronted = leaves_then g.D.Disk old new new (g.W.Sink.failed c.args.writer.now) (g.W.Sink.failed c.args.writer.now) (g.W.Sink.failed c.write_front.new.writer) c.in_ok-window.window (Ok tt) asked (leaves_noted g.D.Disk new _ _ tt c.in_ok-write_front.ensures.notes asked.runs) in
    let counted = leaves_then g.D.Disk old new new (g.W.Sink.failed c.args.writer.now) (g.W.Sink.failed c.write_front.new.writer) (g.W.Sink.failed c.write_count.new.writer) tt (Ok tt) fronted (leaves_noted g.D.Disk new _ _ tt c.in_ok-write_count.ensures.notes asked.runs) in
    leaves_then g.D.Disk old new new _ _ _ tt c.write_entries.result counted
    (leaves_wrote g.D.Disk new _ _ _ _ _ c.write_entries.result c.write_entries.ensures.written c.write_entries.ensures.notes asked.runs)

pub returns-clause-writes : goal.returns-clause-writes
returns-clause-writes g c =
    let old = c.args.replica.now in
    let w = c.in_ok-window.window in
    let there = c.in_ok-window.ensures.form in
    window_writes old.engine.checkpoint.base w c.base-position.result c.len.result (record { size = c.size.result; floor = c.floor.result }) (g.W.Sink.contents c.args.writer.now) (g.W.Sink.contents c.write_front.new.writer)
    (g.W.Sink.contents c.write_count.new.writer) (g.W.Sink.contents c.write_entries.new.writer) (subst (λ (p : Setting). is_setting p ≡ true) c.params.ensures c.window.ensures.limits) there c.base-position.ensures
    (λ i. record { size = c.size.ensures i; floor = c.floor.ensures i }) c.len.ensures (KnowsWindow g.D.Disk old)
    (record {
      there = λ h. (subst (IsWindowBody old.engine.checkpoint.base.params) there.0 there.1, subst (λ (x : Window). as_seen g.D.Disk old.engine (WindowArea (side_of old.engine.checkpoint.base.number)) ≡ Some (window_bytes x)) there.0 ((c.in_ok-window.ensures.spelled h).given));
      of_node = λ n h. c.in_ok-window.ensures.window n h;
    })
    (c.in_ok-write_front.ensures.written w.kept.entries).done c.in_ok-write_count.ensures.written.done c.write_entries.result c.write_entries.ensures.written

pub returns-in_err-write_front-clause-writes : goal.returns-in_err-write_front-clause-writes
returns-in_err-write_front-clause-writes g c =
    let p = err_from_is_err_and c.from_residual-in_err-write_front.result c.from_residual-in_err-write_front.ensures.1 in
    let old = c.args.replica.now in
    let w = c.in_ok-window.window in
    let a = g.W.Sink.contents c.args.writer.now in
    rw (p.1, p.2) (window_cut old.engine.checkpoint.base w c.base-position.result (length w.kept.entries) (record { size = c.size.result; floor = c.floor.result }) a (g.W.Sink.contents c.write_front.new.writer)
    a a (subst (λ (p : Setting). is_setting p ≡ true) c.params.ensures c.window.ensures.limits) c.in_ok-window.ensures.form c.base-position.ensures
    (λ i. record { size = c.size.ensures i; floor = c.floor.ensures i }) refl (KnowsWindow g.D.Disk old) c.in_err-write_front.field-0.0 (c.in_err-write_front.ensures.written w.kept.entries))

pub returns-in_err-write_count-clause-writes : goal.returns-in_err-write_count-clause-writes
returns-in_err-write_count-clause-writes g c =
    let p = err_from_is_err_and c.from_residual-in_err-write_count.result c.from_residual-in_err-write_count.ensures.1 in
    let old = c.args.replica.now in
    let w = c.in_ok-window.window in
    let a = g.W.Sink.contents c.args.writer.now in
    rw (p.1, p.2) (window_cut_behind old.engine.checkpoint.base w c.base-position.result c.len.result (record { size = c.size.result; floor = c.floor.result }) a (g.W.Sink.contents c.write_front.new.writer)
    (g.W.Sink.contents c.write_count.new.writer) a (subst (λ (p : Setting). is_setting p ≡ true) c.params.ensures c.window.ensures.limits) c.in_ok-window.ensures.form c.base-position.ensures
    (λ i. record { size = c.size.ensures i; floor = c.floor.ensures i }) c.len.ensures (KnowsWindow g.D.Disk old) c.in_err-write_count.field-0.0 (c.in_ok-write_front.ensures.written w.kept.entries).done c.in_err-write_count.ensures.written)

pub returns-in_err-window-clause-writes : goal.returns-in_err-window-clause-writes
returns-in_err-window-clause-writes g c =
    let p = err_from_is_err_and c.from_residual.result c.from_residual.ensures.1 in
    let old = c.args.replica.now in
    let small : old.engine.checkpoint.base.position < 2 ^ 64 = omega (arith, c.base-position.ensures) in
    rw (p.1, p.2) (window_none old.engine.checkpoint.base (KnowsWindow g.D.Disk old) (g.W.Sink.contents c.args.writer.now) c.in_err-window.field-0.0 (subst (λ (p : Setting). is_setting p ≡ true) c.params.ensures c.window.ensures.limits) small)

pub returns-in_err-window-clause-leaves : goal.returns-in_err-window-clause-leaves
returns-in_err-window-clause-leaves g c =
    let p = err_from_is_err_and c.from_residual.result c.from_residual.ensures.1 in
    let e = c.in_err-window.field-0.0 in
    rw (p.1, p.2) (leaves_passed g.D.Disk c.args.replica.now c.base_window.new.self _ _ e
    (leaves_asked g.D.Disk _ c.args.replica.now c.base_window.new.self (g.W.Sink.failed c.args.writer.now) (Err e) c.in_err-window.ensures.asks c.in_err-window.ensures.asked c.requires c.in_err-window.ensures.holds c.in_err-window.ensures.whole (λ h is. (c.in_err-window.ensures.spelled h).corrupt is)))
