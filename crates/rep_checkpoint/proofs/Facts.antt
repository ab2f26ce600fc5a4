-- The stage as the facts of a replica see it.
use Rattle.std.proofs.Common.{◌≡◌, ◌≢◌, refl, ℕ, true, false, List}
use Rattle.rep_layout.specs.declared.super_body.SuperBody.{SuperBody}
use Rattle.rep_steps.specs.Standings.{Standing as Facts, check_refusal}
use Rattle.rep_steps.specs.Moves.{checked, flushed as flushed_at, synced_stage, base_after, start_after}
use Rattle.rep_checkpoint.specs.declared.stage.Part.TheVariants.{Flushing, Saving, Ready, SuperFilling, SuperFilled, SuperOpening}
use Rattle.rep_checkpoint.specs.declared.stage.Stage.{Stage}
use Rattle.rep_checkpoint.specs.declared.stage.Stage.TheVariants.{Off, Toward, Retiring}
use Rattle.rep_checkpoint.specs.Standing.{stage_in}
use Rattle.rep_checkpoint.specs.Moves.{flushed_in, gone_in, synced_in, next_refusal_at}
use Rattle.rep_checkpoint.specs.Laws.{TheStageIsTheFacts}

flushed_is : (page : ℕ) (stage : Stage) → stage_in (flushed_in page stage) ≡ flushed_at page (stage_in stage)
flushed_is page Off = refl
flushed_is page (Toward next Flushing) = refl
flushed_is page (Toward next Saving) = refl
flushed_is page (Toward next Ready) = refl
flushed_is page (Toward next SuperFilling) = refl
flushed_is page (Toward next SuperFilled) = refl
flushed_is page (Toward next SuperOpening) = refl
flushed_is page (Retiring written) = refl

gone_is : (facts : Facts) (left : List ℕ) (stage : Stage) → stage ≢ Off → stage_in (gone_in stage) ≡ checked facts left (stage_in stage)
gone_is facts left Off on = absurd (on refl)
gone_is facts left (Toward next Flushing) on = refl
gone_is facts left (Toward next Saving) on = refl
gone_is facts left (Toward next Ready) on = refl
gone_is facts left (Toward next SuperFilling) on = refl
gone_is facts left (Toward next SuperFilled) on = refl
gone_is facts left (Toward next SuperOpening) on = refl
gone_is facts left (Retiring written) on = refl

refused_is : (facts : Facts) (stage : Stage) → stage ≢ Off → next_refusal_at (stage_in stage) ≡ check_refusal facts (stage_in stage)
refused_is facts Off on = absurd (on refl)
refused_is facts (Toward next part) on = refl
refused_is facts (Retiring written) on = refl

-- what a sync makes of the stage, of the base's position and of its first cell
record SyncedAlike (b : SuperBody) (stage : Stage) : Type 0 where
  stage_is : stage_in (synced_in (record { base = b; stage = stage }) stage).stage ≡ synced_stage (stage_in stage)
  base_is : (synced_in (record { base = b; stage = stage }) stage).base.position ≡ base_after b.position (stage_in stage)
  start_is : (synced_in (record { base = b; stage = stage }) stage).base.start ≡ start_after b.start (stage_in stage)

synced_alike : (b : SuperBody) (stage : Stage) → SyncedAlike b stage
synced_alike b Off = record { stage_is = refl; base_is = refl; start_is = refl }
synced_alike b (Toward next Flushing) = record { stage_is = refl; base_is = refl; start_is = refl }
synced_alike b (Toward next Saving) = record { stage_is = refl; base_is = refl; start_is = refl }
synced_alike b (Toward next Ready) = record { stage_is = refl; base_is = refl; start_is = refl }
synced_alike b (Toward next SuperFilling) = record { stage_is = refl; base_is = refl; start_is = refl }
synced_alike b (Toward next SuperFilled) = record { stage_is = refl; base_is = refl; start_is = refl }
synced_alike b (Toward next SuperOpening) = record { stage_is = refl; base_is = refl; start_is = refl }
synced_alike b (Retiring false) = record { stage_is = refl; base_is = refl; start_is = refl }
synced_alike b (Retiring true) = record { stage_is = refl; base_is = refl; start_is = refl }

pub facts : TheStageIsTheFacts
facts = record {
  begun = λ c position start v left. refl;
  flushed = λ c page. flushed_is page c.stage;
  gone_on = λ s left c on. gone_is s left c.stage on;
  refused = λ s c on. refused_is s c.stage on;
  synced = λ c. (synced_alike c.base c.stage).stage_is;
  base = λ c. (synced_alike c.base c.stage).base_is;
  start = λ c. (synced_alike c.base c.stage).start_is;
}
