-- What images mean.
use Rattle.std.proofs.Common.{◌≡◌, ◌+◌, ◌-◌, ◌≤◌, length, take, drop, sym, ap, ◌∙◌, arith}
use Rattle.std.proofs.lemmas.List.{length-take-le, take-take, drop-take, drop-drop}
use Rattle.rep_types.specs.Order.{State, state, history}
use Rattle.rep_steps.specs.Nodes.{reached}
use Rattle.rep_steps.specs.Images.{FrontsStandForTheOrder}
use Rattle.rep_steps.proofs.Reaching.{OrderLaws, reached_is}
use Rattle.rep_steps.proofs.Following.{count_behind}

pub fronts_stand : OrderLaws → FrontsStandForTheOrder
fronts_stand laws L n end b h o f =
    let p = n.facts.setting in
    let c = n.base.position in
    let far : c + f.past ≤ length L = omega (arith, f.order, f.within, count_behind laws L n h o) in
    let most : end ≤ length L = omega (arith, f.within, count_behind laws L n h o) in
    let base : b.base ≡ state p (take (c + f.past) L) =
    f.base_is ∙ ap (λ (S : State). reached p S (take f.past n.items)) o.base ∙ ap (λ js. reached p (state p (take c L)) (take f.past js)) o.items ∙ reached_is laws p L c f.past far in
    let at : b.base.position ≡ c + f.past = ap (λ (S : State). S.position) base ∙ length-take-le (c + f.past) L far in
    let left : c + f.past + (end - (c + f.past)) ≡ end = omega (arith, f.order) in
    record {
      uuid_is = f.uuid_is;
      setting_is = f.setting_is;
      within = omega (arith, at, f.order, length-take-le end L most);
      base_is = base ∙ ap (state p) (sym (take-take (c + f.past) end L f.order)) ∙ ap (λ k. state p (take k (take end L))) (sym at);
      tail_is = f.tail_is
          ∙ ap (λ js. take (end - (c + f.past)) js) (ap (drop f.past) o.items ∙ drop-drop f.past c (history p L))
          ∙ sym (drop-take (c + f.past) (end - (c + f.past)) (history p L)) ∙ ap (λ k. drop (c + f.past) (take k (history p L))) left
          ∙ ap (drop (c + f.past)) (laws.items.front p L end) ∙ ap (λ k. drop k (history p (take end L))) (sym at);
    }
