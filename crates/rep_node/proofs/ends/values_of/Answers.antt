use Rattle.rep_node.specs.declared.home.Home.TheVariants.{Certifier as AtFirst, Desk as AtSecond, Queue as AtThird}
use Rattle.rep_node.specs.Homes.{Start}
use Rattle.rep_node.proofs.Values.{last_of_three, last_of_two, last_of_one}
use Rattle.rep_node.proofs.ends.values_of.Goals as goal

pub queue_of-queue-requires : goal.queue_of-queue-requires
queue_of-queue-requires g c = let s : Start g.row.D.Denot = c.requires.0 in
    (s.queue, (last_of_three c.args.homes.items c.last_of.new.values.items c.last_of.result (AtFirst s.certifier) (AtSecond s.desk) (AtThird s.queue) c.requires.1 c.last_of.ensures).1)

pub desk_of-desk-requires : goal.desk_of-desk-requires
desk_of-desk-requires g c = let s : Start g.row.D.Denot = c.requires.0 in
    let two = last_of_three c.args.homes.items c.last_of.new.values.items c.last_of.result (AtFirst s.certifier) (AtSecond s.desk) (AtThird s.queue) c.requires.1 c.last_of.ensures in
    (s.desk, (last_of_two c.last_of.new.values.items c.last_of-2.new.values.items c.last_of-2.result (AtFirst s.certifier) (AtSecond s.desk) two.0 c.last_of-2.ensures).1)

pub certifier_of-certifier-requires : goal.certifier_of-certifier-requires
certifier_of-certifier-requires g c = let s : Start g.row.D.Denot = c.requires.0 in
    let two = last_of_three c.args.homes.items c.last_of.new.values.items c.last_of.result (AtFirst s.certifier) (AtSecond s.desk) (AtThird s.queue) c.requires.1 c.last_of.ensures in
    let one = last_of_two c.last_of.new.values.items c.last_of-2.new.values.items c.last_of-2.result (AtFirst s.certifier) (AtSecond s.desk) two.0 c.last_of-2.ensures in
    (s.certifier, (last_of_one c.last_of-2.new.values.items c.last_of-3.new.values.items c.last_of-3.result (AtFirst s.certifier) one.0 c.last_of-3.ensures).1)
