-- What a node says of itself where it joins.
use Rattle.std.specs.Prelude.{if◌then◌else◌}
use Rattle.uuid.specs.Parts.{is_nil_bytes}
use Rattle.rep_replica.specs.Engines.{durable_of}
use Rattle.rep_replica.specs.Replicas.{Replica}
use Rattle.rep_transfer.specs.declared.have.Have.{Have}
use Rattle.rep_transfer.specs.Shapes.{shape_of}

-- What a replica has: its cluster, how many items of the order are durable there, none where it belongs to no cluster, and its shape.
abbrev pub have_of : {D : Type 0} → Replica D → Have
have_of r = record {
  uuid = r.engine.checkpoint.base.uuid;
  position = if is_nil_bytes r.engine.checkpoint.base.uuid then 0 else durable_of r.engine.log;
  shape = shape_of r.engine.checkpoint.base.params;
}
