-- What is so of a replica goes on being so.
use Rattle.std.proofs.Common.{◌≡◌, ◌⊎◌, inl, inr, ℕ, zero, suc, ◌+◌, ◌-◌, ◌≤◌, Bool, true, false, List, [], ◌++◌, length, length-append, length-drop, take, drop, Option, None, Some, refl, sym, ap, subst, ◌∙◌, arith}
use Rattle.std.specs.Prelude.{IsTrue, MatchOption}
use Rattle.std.proofs.lemmas.List.{length-take-le}
use Rattle.uuid.specs.Parts.{is_nil_bytes}
use Rattle.rep_types.specs.declared.judged.Judged.{Judged}
use Rattle.rep_types.specs.declared.refusal.Refusal.{Refusal}
use Rattle.rep_record.specs.Blocks.{SeqnosFrom}
use Rattle.rep_cert.specs.Holdings.{Holding}
use Rattle.rep_steps.specs.declared.event.Event.{Event}
use Rattle.rep_steps.specs.declared.event.Event.TheVariants.{Log, Sync, Check, Flush}
use Rattle.rep_steps.specs.declared.answer.Answer.{Answer}
use Rattle.rep_steps.specs.declared.answer.Answer.TheVariants.{Refused}
use Rattle.rep_steps.specs.Standings.{Standing, delivered, refusal}
use Rattle.rep_steps.specs.Moves.{Found, Moves, Fails, MeetsCorruption, answer, after, opening}
use Rattle.rep_recover.specs.Accepting.{ComeNext}
use Rattle.rep_replica.proofs.Placing.{placed_drop}
use Rattle.rep_replica.specs.Replicas.{Replica, IsReplica}
use Rattle.rep_steps.specs.Judging.{JudgingGoesOn}

-- ---- a call that is asked of a replica that runs

pub runs_inside : {D : Type 0} {inside old : Replica D} → inside ≡ old → (old.stopped ≡ false) × (old.engine.halted ≡ None) → (inside.stopped ≡ false) × (inside.engine.halted ≡ None)
runs_inside is runs = (ap (λ (r : Replica _). r.stopped) is ∙ runs.0, ap (λ (r : Replica _). r.engine.halted) is ∙ runs.1)

-- ---- what the facts come to

-- Where the facts come from others: the same parameters and UUID, as many items in all, and no less durable.
pub record Keep (s t : Standing) : Type 0 where
  pub uuid : t.uuid ≡ s.uuid
  pub setting : t.setting ≡ s.setting
  pub count : delivered t ≡ delivered s
  pub rises : s.durable ≤ t.durable

pub keeps_same : (s : Standing) → Keep s s
keeps_same s = record { uuid = refl; setting = refl; count = refl; rises = omega arith }

-- whatever comes of an event: the facts after it, the same, or those of a device that failed
by_cases : (s t : Standing) (e : Event) (a : Answer) (P : Standing → Type 0) → Moves s e a t → P s → ((failures : ℕ) → P (record s { failures = failures; stopped = true })) → ((f : Found) → P (after s e f)) → P t
by_cases s t e a P m same failed done = by (refusal s e) m
  where
    by : (o : Option Refusal) → MatchOption o (((f : Found) × (a ≡ answer s e f) × (t ≡ after s e f)) ⊎ (Fails s e a t ⊎ MeetsCorruption s e a t)) (λ r. (a ≡ Refused r) × (t ≡ s)) → P t
    by None (inl (f, is_answer, is)) = subst P (sym is) (done f)
    by None (inr (inl (inl (memory, is_answer, is)))) = subst P (sym is) same
    by None (inr (inl (inr (device, is_answer, rises, is)))) = subst P (sym is) (failed t.failures)
    by None (inr (inr (page, is_answer, is))) = subst P (sym is) same
    by (Some r) (is_answer, is) = subst P (sym is) same

failed_keeps : (s : Standing) (failures : ℕ) → Keep s (record s { failures = failures; stopped = true })
failed_keeps s failures = record { uuid = refl; setting = refl; count = refl; rises = omega arith }

pub log_keeps : (s t : Standing) (a : Answer) → Moves s Log a t → Keep s t
log_keeps s t a m = by_cases s t Log a (Keep s) m (keeps_same s) (failed_keeps s) (λ f. record { uuid = refl; setting = refl; count = refl; rises = omega arith })

pub check_keeps : (s t : Standing) (a : Answer) → Moves s Check a t → Keep s t
check_keeps s t a m = by_cases s t Check a (Keep s) m (keeps_same s) (failed_keeps s) (λ f. record { uuid = refl; setting = refl; count = refl; rises = omega arith })

pub flush_keeps : (s t : Standing) (page : ℕ) (a : Answer) → Moves s (Flush page) a t → Keep s t
flush_keeps s t page a m = by_cases s t (Flush page) a (Keep s) m (keeps_same s) (failed_keeps s) (λ f. record { uuid = refl; setting = refl; count = refl; rises = omega arith })

pub sync_keeps : (s t : Standing) (a : Answer) → opening s.phase ≤ length s.ahead → Moves s Sync a t → Keep s t
sync_keeps s t a le m =
    let k = opening s.phase in
    let left : length (drop k s.ahead) ≡ length s.ahead - k = length-drop k s.ahead in
    by_cases s t Sync a (Keep s) m (keeps_same s) (failed_keeps s) (λ f. record { uuid = refl; setting = refl; count = omega (arith, left, le); rises = omega arith })

-- ---- the replica

-- what comes next still does
come_still : (s t : Standing) (js : List Judged) → Keep s t → ComeNext s js → ComeNext t js
come_still s t js k c = record {
  follow = subst (λ n. SeqnosFrom (n + 1) js) (sym k.count) c.follow;
  limit = omega (arith, k.count, c.limit);
  undefined = λ nil. c.undefined (subst (λ (u : List ℕ). IsTrue (is_nil_bytes u)) k.uuid nil);
}

pub replica_keeps : (s t : Standing) (js : List Judged) (h : Holding) (stopped : Bool) → stopped ≡ false → Keep s t → IsReplica s js h stopped → IsReplica t js h stopped
replica_keeps s t js h stopped running k r =
    let go = r.items running in record {
      setting = r.setting ∙ sym k.setting;
      askable = record {
        made = omega (arith, r.askable.made, k.rises);
        near = omega (arith, r.askable.near, k.rises);
        past = omega (arith, go.count, k.count);
      };
      windows = r.windows;
      items = λ is. record { come = come_still s t js k go.come; placed = go.placed; count = go.count ∙ ap (λ n. n + length js) (sym k.count) };
    }

-- the first so many of the items that wait are taken
pub replica_takes : JudgingGoesOn → (s t : Standing) (js : List Judged) (h : Holding) (stopped : Bool) (k : ℕ) → k ≤ length js → t ≡ record s { ahead = s.ahead ++ take k js } → IsReplica s js h stopped → IsReplica t (drop k js) h stopped
replica_takes goes s t js h stopped k le is r =
    subst (λ (u : Standing). IsReplica u (drop k js) h stopped) (sym is) (record {
      setting = r.setting;
      askable = r.askable;
      windows = r.windows;
      items = λ running.
          let go = r.items running in
          let size : length (take k js) ≡ k = length-take-le k js le in
          let all : length (s.ahead ++ take k js) ≡ length s.ahead + length (take k js) = length-append s.ahead (take k js) in
          let left : length (drop k js) ≡ length js - k = length-drop k js in
          record {
            come = record {
              follow = subst (λ n. SeqnosFrom n (drop k js)) (omega (arith, size, all)) (goes.seqnos_drop (delivered s + 1) k js le go.come.follow);
              limit = omega (arith, size, all, left, le, go.come.limit);
              undefined = λ nil. ap (drop k) (go.come.undefined nil) ∙ drop_none k;
            };
            placed = placed_drop k js go.placed;
            count = omega (arith, size, all, left, le, go.count);
          };
    })
  where
    drop_none : (k : ℕ) → drop {A = Judged} k [] ≡ []
    drop_none zero = refl
    drop_none (suc k) = refl
