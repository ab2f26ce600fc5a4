use Rattle.std.proofs.Common.{rules, ◌≡◌, ◌+◌, ◌≤◌, List, [], ◌∷◌, ◌++◌, length, Option, take, arith, sym, ap, ◌∙◌, subst}
use Rattle.std.specs.Slots.{slots_items, slots_len, slots_counts}
use Rattle.std.proofs.lemmas.List.{take_all}
use Rattle.rep_ordered.specs.declared.view.View.{View}
use Rattle.rep_ordered.specs.Ends.{Closed}
use Rattle.rep_ordered.specs.Seats.{Place}
use Rattle.rep_ordered.proofs.Closing.{closes, emptied, take_next}
use Rattle.rep_ordered.proofs.lock.OrderedLock.close.Goals as goal

pub loop-station-preserved : goal.loop-station-preserved
loop-station-preserved g c = let inv = c.loop-station.invariant in let s = c.loop-station.closed.slots in let counts = slots_counts s in let o = c.take.ensures.others in let below = c.loop-station-test.true in
    let t = emptied _ _ c.loop-station.station (slots_len s) _ o.1 o.2 counts.1 (search rules) inv.0 inv.1 in (
      t.0,
      t.1,
      o.0 ∙ inv.2,
      o.2 ∙ inv.3,
      c.push_reserved.ensures.items ∙ (ap (λ l. l ++ c.take.result ∷ []) inv.4 ∙ (ap (λ l. take c.loop-station.station l ++ c.take.result ∷ []) (sym inv.2) ∙ (take_next (slots_items s) c.loop-station.station c.take.result c.take.ensures.value ∙ ap (λ l. take (c.loop-station.station + 1) l) inv.2))),
      search rules,
    )

pub returns-clause-values : goal.returns-clause-values
returns-clause-values g c = let inv = c.loop-station.invariant in let done = c.close_with-closed.result.slots in let counts = slots_counts done in let word_counts = slots_counts c.close_with-closed.result.words in let end = c.loop-station-test.false in
    let past : length (slots_items done) ≤ c.loop-station.station = search rules in
    let all : c.loop-station.values.items ≡ slots_items done = inv.4 ∙ take_all c.loop-station.station (slots_items done) past in
    let is = ap (λ (z : Place g.row.V.Denot g.row.E.Denot). z.view) c.seat.view_is in
    let every = subst (λ (z : View g.row.V.Denot g.row.E.Denot). z.allowance + length z.own ≡ z.whole) (sym is) c.requires.all in
    let wide : length (slots_items c.close_with-closed.result.words) ≡ length (slots_items done) + 2 = (let a = c.close_with-closed.ensures.counts in let a0 = a.0 in let a1 = a.1 in let b = c.self.invariant.0 in omega arith) in
    let t = closes g.V.Keeps.legal g.V.Keeps.at_home g.V.Keeps.durable_of g.V.Keeps.common_of _ _ _ _ _ every c.seat.invariant.told c.close_with-closed.ensures.values.2 wide in
    subst (λ (z : View g.row.V.Denot g.row.E.Denot × List (Option g.row.V.Denot)). Closed (g.V.Keeps.legal z.0.first) (g.V.Keeps.at_home z.0.first) g.V.Keeps.durable_of g.V.Keeps.common_of z.0 z.1) (λ i. (is i, sym all i)) t
