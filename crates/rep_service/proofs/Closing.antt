-- How a text is closed that ended well.
use Rattle.std.proofs.Common.{◌≡◌, ◌<◌, List, [], ◌∷◌, ◌++◌, length, ℕ, Option, None, Some, Result, Ok, Err, OnOk, IfErr, refl, ap, subst, arith}
use Rattle.std.specs.Io.KnownBytes.{IsAtEnd}
use Rattle.rep_types.specs.declared.reply.Reply.{Reply}
use Rattle.rep_types.specs.declared.refusal.Refusal.{Refusal}
use Rattle.rep_types.specs.declared.refusal.Refusal.TheVariants.{StreamFault}
use Rattle.rep_types.specs.Entries.{Entry}
use Rattle.rep_disk.specs.declared.disk.Disk.{Ghosts}
use Rattle.rep_lines.specs.Lines.{clipped_behind, kept}
use Rattle.rep_lines.specs.Feeds.{ahead}
use Rattle.rep_engine.specs.Engines.{gtid_of}
use Rattle.rep_replica.specs.Replicas.{Replica}
use Rattle.rep_script.specs.Answering.{Tells, state_line}
use Rattle.rep_follow.specs.Joining.{PartsAreJoined}
use Rattle.rep_service.specs.Saying.{Said, State, receipts_said}
use Rattle.rep_service.specs.Commanding.{window_in, HasWindow}
use Rattle.rep_service.specs.Living.{Lives, ClosesWell}
use Rattle.rep_service.proofs.Saying.{writes_told, on_all}
use Rattle.rep_service.proofs.Ordered.{state_told}
use Rattle.rep_service.proofs.Lives.{lives_stays, lives_both}

-- the state is written behind what became durable last
pub closes : {D : Type 0} (g : Ghosts D) → PartsAreJoined g → (old new : Replica D) (before written after : Option (List ℕ)) (receipts : List Reply) (r : Result (Unit {0}) Refusal) → Lives g old new [] (receipts_said receipts) before written (Ok tt) → HasWindow g new → (window : List Entry)
    → window ≡ (window_in new).entries → Tells (state_line (gtid_of new.engine) new.engine.checkpoint.base.position window) written after r → IfErr r (λ e. e ≡ StreamFault) → (closing : List Said) × Lives g old new [] closing before after r × OnOk r (ClosesWell new closing)
closes {D} g parts old new before written after receipts r lives has window is told fault =
    let state : Said = State (gtid_of new.engine) new.engine.checkpoint.base.position (window_in new).entries in
    let told_so = subst (λ w. Tells (state_line (gtid_of new.engine) new.engine.checkpoint.base.position w) written after r) is told in
    let line : Lives g new new [] (state ∷ []) written after r = lives_stays g new new (state ∷ []) written after r (record { follows = parts.none new; rests = λ rests. rests }) refl (writes_told state written after r told_so fault) (λ n L rest holds of. (state_told g parts new has n L rest holds of, tt)) in
    (receipts_said receipts ++ state ∷ [], lives_both g parts old new new [] [] (receipts_said receipts) (state ∷ []) before written after r lives line, on_all r (receipts, refl))

-- ---- a text that ended well

-- nothing is left of it
pub at_the_end : (P : Type 0) (feed : List ℕ) (rest : Option (List ℕ)) (r : Result (Unit {0}) Refusal) (e : Refusal) → (0 < length feed → r ≡ Err e) → IsAtEnd rest → OnOk r P → OnOk r (IsAtEnd (ahead feed rest) × P)
at_the_end P feed rest (Err f) e cut ended closing = tt
at_the_end P [] None (Ok x) e cut ended closing = (tt, closing)
at_the_end P [] (Some ys) (Ok x) e cut ended closing = (ap (λ bytes. clipped_behind (kept []) bytes) ended, closing)
at_the_end P (b ∷ feed) rest (Ok x) e cut ended closing = absurd (let never : ◌≡◌ {A = Result (Unit {0}) Refusal} (Ok x) (Err e) = cut (omega arith) in cc)
