-- Steps of a part of a node, as steps of the whole.
use Rattle.std.proofs.Common.{◌≡◌, ◌⊎◌, inl, inr, ℕ, zero, suc, ◌-◌, ◌≤◌, Bool, true, false, List, [], ◌∷◌, ◌++◌, length, take, drop, map, Option, None, Some, refl, sym, ap, subst, ◌∙◌, arith}
use Rattle.std.specs.Prelude.{MatchOption, IsTrue, if◌then◌else◌, nat_lt, not}
use Rattle.std.proofs.lemmas.Bool.Decides.{nat_tests}
use Rattle.std.proofs.lemmas.List.{take-append-le, drop-take}
use Rattle.rep_types.specs.declared.judged.Judged.{Judged}
use Rattle.rep_types.specs.declared.key.Key.{Key}
use Rattle.rep_types.specs.declared.refusal.Refusal.{Refusal}
use Rattle.rep_types.specs.declared.refusal.Refusal.TheVariants.{Stopped, BadKey, NotYet, TooOld}
use Rattle.rep_types.specs.Replies.{reply_of}
use Rattle.rep_types.specs.Settings.{has_row}
use Rattle.rep_log.specs.Fronts.{fitting}
use Rattle.rep_log.specs.declared.phase.Phase.TheVariants.{Resting}
use Rattle.rep_steps.specs.declared.event.Event.{Event}
use Rattle.rep_steps.specs.declared.event.Event.TheVariants.{Log, Sync, Check, Flush, Read}
use Rattle.rep_steps.specs.declared.answer.Answer.{Answer}
use Rattle.rep_steps.specs.declared.answer.Answer.TheVariants.{Row, Synced, Refused}
use Rattle.rep_steps.specs.Standings.{Standing, gathered, refusal, read_refusal}
use Rattle.rep_steps.specs.Moves.{answer, after, checked, opening, touched, Fails}
use Rattle.rep_steps.specs.Nodes.{Node, Steps, reached, found, moved, passed, state_at}
use Rattle.rep_steps.specs.Parts.{with_ahead, part_of, Widens, PartsStepAsTheWhole}
use Rattle.rep_steps.proofs.Ahead.{LeavesAhead, moves_with, log_leaves, read_leaves, flush_leaves, check_leaves, sync_moves}

take_less : (k q : ℕ) (js : List Judged) → k ≤ q → take k (take q js) ≡ take k js
take_less zero q js le = refl
take_less (suc k) zero js le = absurd (omega (arith, le))
take_less (suc k) (suc q) [] le = refl
take_less (suc k) (suc q) (j ∷ js) le = ap (λ rest. j ∷ rest) (take_less k q js (omega (arith, le)))

-- the part with what it has ahead
is_part_of : (me to : Node) (block : List Judged) (q : ℕ) → me ≡ part_of block q to → me ≡ part_of me.facts.ahead q to
is_part_of me to block q is = is ∙ ap (λ (xs : List Judged). part_of xs q to) (sym (ap (λ (k : Node). k.facts.ahead) is))

-- a step that moves neither base nor items
widens : (n me : Node) (e : Event) (block : List Judged) (q : ℕ) (a : Answer) (facts : Standing) → Steps n e a (record n { facts = facts }) → me ≡ part_of block q (record n { facts = facts }) → Widens n me e a q
widens n me e block q a facts steps is = record {
  to = record n { facts = facts };
  steps = steps;
  past = 0;
  most = omega arith;
  within = omega arith;
  is_part = is_part_of me (record n { facts = facts }) block q is ∙ ap (λ i. part_of me.facts.ahead i (record n { facts = facts })) (omega arith);
  items = refl;
  base = refl;
}

-- ---- events that leave what is ahead, and the base

module _ (n me : Node) (e : Event) (block : List Judged) (q : ℕ) (a : Answer) (l : LeavesAhead n.facts e block) (same : (m : Node) → moved m e ≡ record m { facts = after m.facts e (found m e) })
    (told : refusal n.facts e ≡ None → answer n.facts e (found (part_of block q n) e) ≡ answer n.facts e (found n e)) (left : after n.facts e (found (part_of block q n) e) ≡ after n.facts e (found n e)) where
  abbrev part : Node
  part = part_of block q n

  -- the node after it
  abbrev Comes : Node → Option Refusal → Type 0
  Comes to o = MatchOption o (((a ≡ answer n.facts e (found n e)) × (to ≡ moved n e)) ⊎ (Fails n.facts e a to.facts × (to ≡ record n { facts = to.facts }))) (λ r. (a ≡ Refused r) × (to ≡ n))

  lifted_by : (o : Option Refusal) → refusal n.facts e ≡ o
      → MatchOption o (((a ≡ answer part.facts e (found part e)) × (me ≡ moved part e)) ⊎ (Fails part.facts e a me.facts × (me ≡ record part { facts = me.facts }))) (λ r. (a ≡ Refused r) × (me ≡ part)) → Widens n me e a q
  lifted_by None is (inl d) =
      let facts = after n.facts e (found n e) in
      widens n me e block q a facts (subst (Comes (record n { facts = facts })) (sym is) (inl (d.0 ∙ l.answered (found part e) ∙ told is, sym (same n))))
      (d.1 ∙ same part ∙ ap (λ (s : Standing). record part { facts = s }) (l.moved (found part e) ∙ ap (with_ahead block) left))
  lifted_by None is (inr (inl m, same_me)) =
      widens n me e block q a n.facts (subst (Comes n) (sym is) (inr (inl (subst (λ b. IsTrue b) l.memory m.0, m.1, refl), refl))) (same_me ∙ ap (λ (s : Standing). record part { facts = s }) m.2)
  lifted_by None is (inr (inr d, same_me)) =
      let facts : Standing = record n.facts { failures = me.facts.failures; stopped = true } in
      widens n me e block q a facts (subst (Comes (record n { facts = facts })) (sym is) (inr (inr (subst (λ b. IsTrue b) l.device d.0, d.1, d.2, refl), refl))) (same_me ∙ ap (λ (s : Standing). record part { facts = s }) d.3)
  lifted_by (Some r) is m = widens n me e block q a n.facts (subst (Comes n) (sym is) (m.0, refl)) m.1

  pub lifted : Steps part e a me → Widens n me e a q
  lifted m =
      lifted_by (refusal n.facts e) refl
      (subst (λ (o : Option Refusal). MatchOption o (((a ≡ answer part.facts e (found part e)) × (me ≡ moved part e)) ⊎ (Fails part.facts e a me.facts × (me ≡ record part { facts = me.facts }))) (λ r. (a ≡ Refused r) × (me ≡ part))) l.refused m)

log_lifted : (n me : Node) (block : List Judged) (q : ℕ) (a : Answer) → (n.facts.phase ≡ Resting → fitting [] block ≡ gathered n.facts) → Steps (part_of block q n) Log a me → Widens n me Log a q
log_lifted n me block q a full = lifted n me Log block q a (log_leaves n.facts block (λ rests. sym (full rests))) (λ m. refl) (λ none. refl) refl

flush_lifted : (n me : Node) (block : List Judged) (q page : ℕ) (a : Answer) → Steps (part_of block q n) (Flush page) a me → Widens n me (Flush page) a q
flush_lifted n me block q page a = lifted n me (Flush page) block q a (flush_leaves n.facts page block) (λ m. refl) (λ none. refl) refl

check_lifted : (n me : Node) (block : List Judged) (q : ℕ) (a : Answer) → n.facts.durable - n.facts.base ≤ q → Steps (part_of block q n) Check a me → Widens n me Check a q
check_lifted n me block q a enough =
    lifted n me Check block q a (check_leaves n.facts block) (λ m. refl) (λ none. refl)
    (ap (λ (js : List Judged). record n.facts { stage = checked n.facts (touched n.facts.setting.rows js) n.facts.stage }) (take_less (n.facts.durable - n.facts.base) q n.items enough))

-- ---- a read

row_at : (base durable at : ℕ) (has late early : Bool) → (if not has then Some BadKey else if late then Some (NotYet durable) else if early then Some (TooOld base) else None) ≡ None → late ≡ false
row_at base durable at false late early e = absurd cc
row_at base durable at true true early e = absurd cc
row_at base durable at true false early e = refl

not_late : (s : Standing) (key : Key) (at : ℕ) → read_refusal s key at ≡ None → at ≤ s.durable
not_late s key at none =
    let late : nat_lt s.durable at ≡ false = row_at s.base s.durable at (has_row s.setting.rows key) (nat_lt s.durable at) (nat_lt at s.base) none in
    grind (arith, nat_tests)

unstopped : (b : Bool) (o : Option Refusal) → (if b then Some Stopped else o) ≡ None → o ≡ None
unstopped true o e = absurd cc
unstopped false o e = e

read_lifted : (n me : Node) (block : List Judged) (q : ℕ) (key : Key) (at : ℕ) (a : Answer) → n.base.position ≡ n.facts.base → n.facts.durable - n.facts.base ≤ q → Steps (part_of block q n) (Read key at) a me → Widens n me (Read key at) a q
read_lifted n me block q key at a position enough = lifted n me (Read key at) block q a (read_leaves n.facts key at block) (λ m. refl) (λ none. ap Row (row_same none)) refl
  where
    row_same : refusal n.facts (Read key at) ≡ None → (state_at (part_of block q n) at).content key ≡ (state_at n at).content key
    row_same none =
        let le : at ≤ n.facts.durable = not_late n.facts key at (unstopped n.facts.stopped (read_refusal n.facts key at) none) in
        ap (λ (js : List Judged). (reached n.facts.setting n.base js).content key) (take_less (at - n.base.position) q n.items (omega (arith, le, position, enough)))

-- ---- a sync

module _ (n me : Node) (block more : List Judged) (q : ℕ) (a : Answer) (ahead : n.facts.ahead ≡ block ++ more) (within : passed n.facts ≤ q) (whole : opening n.facts.phase ≤ length block) where
  abbrev past : ℕ
  past = passed n.facts

  told : take (opening n.facts.phase) block ≡ take (opening n.facts.phase) n.facts.ahead
  told = sym (ap (take (opening n.facts.phase)) ahead ∙ take-append-le (opening n.facts.phase) block more whole)

  -- what was taken and is not left behind the base
  left : drop past (take q n.items) ≡ take (q - past) (drop past n.items)
  left = ap (λ i. drop past (take i n.items)) (omega (arith, within)) ∙ drop-take past (q - past) n.items

  moved_part : moved (part_of block q n) Sync ≡ part_of (drop (opening n.facts.phase) block) (q - past) (moved n Sync)
  moved_part =
      ap (λ (js : List Judged). record (moved (part_of block q n) Sync) { base = reached n.facts.setting n.base js }) (take_less past q n.items within)
      ∙ ap (λ (js : List Judged). record (moved (part_of block q n) Sync) { base = reached n.facts.setting n.base (take past n.items); items = js }) left

  -- a step of the whole node, where it is stopped or not
  abbrev Comes_to : Node → Bool → Type 0
  Comes_to to stopped = MatchOption (if stopped then Some Stopped else None) (((a ≡ answer n.facts Sync (found n Sync)) × (to ≡ moved n Sync)) ⊎ (Fails n.facts Sync a to.facts × (to ≡ record n { facts = to.facts }))) (λ r. (a ≡ Refused r) × (to ≡ n))

  sync_by : (stopped : Bool) → n.facts.stopped ≡ stopped
      → MatchOption (if stopped then Some Stopped else None) (((a ≡ Synced (map reply_of (take (opening n.facts.phase) block))) × (me ≡ moved (part_of block q n) Sync)) ⊎ (Fails (with_ahead block n.facts) Sync a me.facts × (me ≡ record (part_of block q n) { facts = me.facts })))
      (λ r. (a ≡ Refused r) × (me ≡ part_of block q n))
      → Widens n me Sync a q
  sync_by false is (inl d) = record {
    to = moved n Sync;
    steps = subst (Comes_to (moved n Sync)) (sym is) (inl (d.0 ∙ ap (λ js. Synced (map reply_of js)) told, refl));
    past = past;
    most = omega arith;
    within = within;
    is_part = is_part_of me (moved n Sync) (drop (opening n.facts.phase) block) (q - past) (d.1 ∙ moved_part);
    items = refl;
    base = refl;
  }
  sync_by false is (inr (inl m, same_me)) = absurd (let never : false ≡ true = m.0 in cc)
  sync_by false is (inr (inr d, same_me)) =
      let facts : Standing = record n.facts { failures = me.facts.failures; stopped = true } in
      widens n me Sync block q a facts (subst (Comes_to (record n { facts = facts })) (sym is) (inr (inr (d.0, d.1, d.2, refl), refl))) (same_me ∙ ap (λ (s : Standing). record (part_of block q n) { facts = s }) d.3)
  sync_by true is m = widens n me Sync block q a n.facts (subst (Comes_to n) (sym is) (m.0, refl)) m.1

  pub sync_lifted : Steps (part_of block q n) Sync a me → Widens n me Sync a q
  sync_lifted m = sync_by n.facts.stopped refl m

pub parts_step : PartsStepAsTheWhole
parts_step = record {
  log_moves = λ s t a ahead same m. moves_with s t Log a ahead (log_leaves s ahead same) m;
  sync_moves = sync_moves;
  check_moves = λ s t a ahead m. moves_with s t Check a ahead (check_leaves s ahead) m;
  flush_moves = λ s t page a ahead m. moves_with s t (Flush page) a ahead (flush_leaves s page ahead) m;
  read_moves = λ s t key at a ahead m. moves_with s t (Read key at) a ahead (read_leaves s key at ahead) m;
  log = λ n part block q a same m. log_lifted n part block q a same m;
  sync = λ n part block more q a ahead within whole m. sync_lifted n part block more q a ahead within whole m;
  check = λ n part block q a enough m. check_lifted n part block q a enough m;
  flush = λ n part block q page a m. flush_lifted n part block q page a m;
  read = λ n part block q key at a position enough m. read_lifted n part block q key at a position enough m;
}
