-- What an image stands for.
use Rattle.std.proofs.Common.{refl, sym, subst, ◌++◌}
use Rattle.rep_types.specs.Order.{State, items_of, state}
use Rattle.rep_steps.specs.Images.{Meaning, StandsFor, AreJudgedFrom, JudgedItemsExtendTheOrder}
use Rattle.rep_image.specs.Meanings.{ImagesStandForOrders}
use Rattle.rep_image.proofs.Telling.{same_meaning}

pub stand : JudgedItemsExtendTheOrder → ImagesStandForOrders
stand law image m L h base =
    let judged = subst (λ (S : State). AreJudgedFrom m.setting S m.tail) base h.means.judged in
    let same = same_meaning (record { uuid = m.uuid; setting = m.setting; base = state m.setting L; tail = m.tail }) m refl refl (sym base) refl in
    subst (λ (b : Meaning). StandsFor m.uuid m.setting (L ++ items_of m.tail) b) same (law.extend m.uuid m.setting L m.tail judged)
