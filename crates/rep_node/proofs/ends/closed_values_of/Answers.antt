use Rattle.std.proofs.Common.{Some, sym, refl, ◌∙◌, subst}
use Rattle.std.specs.Prelude.{IsSome}
use Rattle.std.proofs.lemmas.Option.{same_Some}
use Rattle.rep_node.specs.declared.home.Home.TheVariants.{Certifier as AtFirst, Desk as AtSecond, Queue as AtThird}
use Rattle.rep_node.specs.Homes.{Start}
use Rattle.rep_node.proofs.Values.{last_of_three, last_of_two, last_of_one}
use Rattle.rep_node.proofs.ends.closed_values_of.Goals as goal

pub full-requires : goal.full-requires
full-requires g c = let s : Start g.row.D.Denot = c.requires.0 in
    let two = last_of_three c.args.homes.items c.last_of.new.values.items c.last_of.result (Some (AtFirst s.certifier)) (Some (AtSecond s.desk)) (Some (AtThird s.queue)) c.requires.1 c.last_of.ensures in
    subst IsSome (sym two.1) refl

pub queue_of-queue-requires : goal.queue_of-queue-requires
queue_of-queue-requires g c = let s : Start g.row.D.Denot = c.requires.0 in
    let two = last_of_three c.args.homes.items c.last_of.new.values.items c.last_of.result (Some (AtFirst s.certifier)) (Some (AtSecond s.desk)) (Some (AtThird s.queue)) c.requires.1 c.last_of.ensures in
    (s.queue, same_Some _ _ (sym c.full.ensures ∙ two.1))

pub full-requires-2 : goal.full-requires-2
full-requires-2 g c = let s : Start g.row.D.Denot = c.requires.0 in
    let two = last_of_three c.args.homes.items c.last_of.new.values.items c.last_of.result (Some (AtFirst s.certifier)) (Some (AtSecond s.desk)) (Some (AtThird s.queue)) c.requires.1 c.last_of.ensures in
    let one = last_of_two c.last_of.new.values.items c.last_of-2.new.values.items c.last_of-2.result (Some (AtFirst s.certifier)) (Some (AtSecond s.desk)) two.0 c.last_of-2.ensures in
    subst IsSome (sym one.1) refl

pub desk_of-desk-requires : goal.desk_of-desk-requires
desk_of-desk-requires g c = let s : Start g.row.D.Denot = c.requires.0 in
    let two = last_of_three c.args.homes.items c.last_of.new.values.items c.last_of.result (Some (AtFirst s.certifier)) (Some (AtSecond s.desk)) (Some (AtThird s.queue)) c.requires.1 c.last_of.ensures in
    let one = last_of_two c.last_of.new.values.items c.last_of-2.new.values.items c.last_of-2.result (Some (AtFirst s.certifier)) (Some (AtSecond s.desk)) two.0 c.last_of-2.ensures in
    (s.desk, same_Some _ _ (sym c.full-2.ensures ∙ one.1))

pub certifier_of-certifier-requires : goal.certifier_of-certifier-requires
certifier_of-certifier-requires g c = let s : Start g.row.D.Denot = c.requires.0 in
    let two = last_of_three c.args.homes.items c.last_of.new.values.items c.last_of.result (Some (AtFirst s.certifier)) (Some (AtSecond s.desk)) (Some (AtThird s.queue)) c.requires.1 c.last_of.ensures in
    let one = last_of_two c.last_of.new.values.items c.last_of-2.new.values.items c.last_of-2.result (Some (AtFirst s.certifier)) (Some (AtSecond s.desk)) two.0 c.last_of-2.ensures in
    let none = last_of_one c.last_of-2.new.values.items c.last_of-3.new.values.items c.last_of-3.result (Some (AtFirst s.certifier)) one.0 c.last_of-3.ensures in
    (s.certifier, same_Some _ _ (sym c.full-3.ensures ∙ none.1))
