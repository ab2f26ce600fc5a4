-- What a replica holds, on any device: its facts, and what is so of it whatever the device does.
use Rattle.std.specs.Prelude.{◌≡◌, ◌+◌, ◌||◌, Bool, true, false, is_some, List, [], ◌∷◌, ◌++◌, length, refl}
use Rattle.std.specs.Coded.{Coded, codes, code_by, coded×}
use Rattle.rep_types.specs.declared.judged.Judged.{Judged}
use Rattle.rep_record.specs.Records.{is_placed}
use Rattle.rep_cert.specs.Holdings.{Holding, Holdings, IsAskable}
use Rattle.rep_steps.specs.Standings.{Standing, delivered}
use Rattle.rep_recover.specs.Engines.{Engine, engine_code, facts_of as engine_facts}
use Rattle.rep_recover.specs.Accepting.{ComeNext}
use Rattle.rep_recover.specs.Checking.{HoldsWindows}
use Rattle.rep_disk.specs.declared.disk.Disk.{Ghosts}

-- What a replica holds: the engine, the delivered items that the engine has not accepted, what the certifier holds, and whether
-- it was stopped from outside.
pub record Replica (D : Type 0) : Type 0 where
  pub engine : Engine D
  pub backlog : List Judged
  pub certifier : Holdings
  pub stopped : Bool

-- as numbers
abbrev pub Rest : Type 0
Rest = List Judged × (Holdings × Bool)

rest_code : Coded Rest
rest_code = Prim.hlevel codes

pub replica_code : {D : Type 0} → Coded D → Coded (Replica D)
replica_code {D} code =
    code_by (Engine D × Rest) (coded× (engine_code code) rest_code)
    (λ r. (r.engine, (r.backlog, (r.certifier, r.stopped))))
    (λ c. record { engine = c.0; backlog = c.1.0; certifier = c.1.1.0; stopped = c.1.1.1 }) (λ _. refl)

-- Only the engine's device was asked, and nothing else of the replica changed.
abbrev pub OnlyItsEngineAsks : {D : Type 0} → Replica D → Replica D → Type 0
OnlyItsEngineAsks old new = new ≡ record old { engine = record old.engine { disk = new.engine.disk; halted = new.engine.halted } }

-- The facts: those of the engine, with all that was delivered and is not durable ahead; it is stopped where the device failed,
-- or from outside.
abbrev pub facts_of : {D : Type 0} → Ghosts D → Replica D → Standing
facts_of g r = record (engine_facts g r.engine) { ahead = r.engine.block ++ r.backlog; stopped = r.stopped || is_some r.engine.halted }

-- Each has a place in a block: its seqno is one, and its verdict fits that.
abbrev pub ArePlaced : List Judged → Type 0
ArePlaced [] = Unit {0}
ArePlaced (j ∷ js) = (is_placed j ≡ true) × ArePlaced js

-- The items that the engine has not accepted come next there, each with a place, and the last of them was delivered last.
pub record GoOn (s : Standing) (backlog : List Judged) (h : Holding) : Type 0 where
  pub come : ComeNext s backlog
  pub placed : ArePlaced backlog
  pub count : h.delivered ≡ delivered s + length backlog

-- What is so of a replica, whatever the device does, by its engine's facts: the parameters are the certifier's, of which the
-- window at what is durable can be asked, and whose windows can all be written; and unless it was stopped from outside, the engine's items and the others are what was
-- delivered.
pub record IsReplica (s : Standing) (backlog : List Judged) (h : Holding) (stopped : Bool) : Type 0 where
  pub setting : h.setting ≡ s.setting
  pub askable : IsAskable h s.durable
  pub windows : HoldsWindows h
  pub items : stopped ≡ false → GoOn s backlog h
