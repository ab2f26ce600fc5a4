use Rattle.rep_replica.specs.Reading.{IsRead}
use Rattle.rep_session.proofs.rows.ReplicaRows.read_at.Goals as goal

-- src/rows.rt: what the read of the replica gives, and what the law of reads makes of it
pub returns : goal.returns
returns g c =
    let told = c.read.ensures in
    let law = c.reads_forget_nothing.ensures in
    let is : IsRead g.D.Disk c.args.self.now c.args.key c.args.s c.read.result c.read.new.self =
    record { step = told.step; call = told.call; rest = told.rest; same = told.same; stopped = told.stopped } in
    record {
      is_read = is;
      forgets = λ p L of. law.forgets c.args.self.now c.read.new.self c.args.key c.args.s c.read.result p L is of;
      rows = λ x p L ok of. law.rows c.args.self.now c.read.new.self c.args.key c.args.s c.read.result x p L is ok of;
    }
