use Rattle.std.proofs.Common.{◌≡◌, ap, ◌∙◌}
use Rattle.rep_layout.specs.declared.super_body.SuperBody.{SuperBody}
use Rattle.rep_checkpoint.specs.declared.stage.Part.TheVariants.{Flushing}
use Rattle.rep_checkpoint.specs.Coming.{Coming, coming, coming_super}
use Rattle.rep_checkpoint.proofs.ComingBegins.{begins_to_come}
use Rattle.rep_checkpoint.proofs.checkpoint.Checkpoint.install.Goals as goal

pub returns-clause-begins : goal.returns-clause-begins
returns-clause-begins c =
    let super = c.coming_super-superblock.ensures ∙ ap (λ (b : SuperBody). coming_super b c.args.uuid c.args.position c.args.start) c.base.ensures.base in
    let is : ◌≡◌ {A = Coming} (record { next = record { super = c.coming_super-superblock.result; window = c.args.window; left = c.new.result.items }; part = Flushing }) (coming c.args.self.now.base c.args.uuid c.args.position c.args.start c.args.window) =
    λ k. record { next = record { super = super k; window = c.args.window; left = c.new.ensures.items k }; part = Flushing } in
    begins_to_come c.args.self.now c.args.uuid c.args.position c.args.start c.args.window _ c.base.ensures.checkpoint.is_super c.requires is
