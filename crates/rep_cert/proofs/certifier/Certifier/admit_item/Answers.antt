use Rattle.std.proofs.Common.{sym, subst}
use Rattle.std.proofs.lemmas.Result.{on_ok_weaker}
use Rattle.rep_types.specs.declared.item.Item.{Item}
use Rattle.rep_cert.specs.Holdings.{Admits}
use Rattle.rep_cert.proofs.certifier.Certifier.admit_item.Goals as goal

pub returns-in-SetWindow-clause-admitted : goal.returns-in-SetWindow-clause-admitted
returns-in-SetWindow-clause-admitted c =
    let change = c.in-SetWindow.change in
    let P : Item → Type 0 = λ i. Admits c.args.self.now.current i c.set_window.new.self.current in
    on_ok_weaker c.set_window.result (λ all. subst P (sym c.in-SetWindow.is) (all change.source change.trx)) c.set_window.ensures.admitted
