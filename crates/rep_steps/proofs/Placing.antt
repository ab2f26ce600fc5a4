-- What is judged has a place in a block: a conflict is with an item before it.
use Rattle.std.proofs.Common.{◌≡◌, ℕ, ◌+◌, ◌<◌, ◌≤◌, Bool, true, false, List, Option, None, Some, refl, arith}
use Rattle.std.proofs.lemmas.Bool.Decides.{nat_tests}
use Rattle.std.specs.Prelude.{nat_le, nat_lt, not, if◌then◌else◌, filter}
use Rattle.std.specs.List.{Contains}
use Rattle.rep_types.specs.declared.verdict.Verdict.TheVariants.{Stale, Future, BadKey}
use Rattle.rep_types.specs.declared.limits.TheConstants.{MAX_SEQNO}
use Rattle.rep_types.specs.Entries.{Entry}
use Rattle.rep_types.specs.Windows.{Window}
use Rattle.rep_types.specs.declared.item.Item.{Item}
use Rattle.rep_types.specs.declared.item.Item.TheVariants.{WriteSet, SetWindow}
use Rattle.rep_types.specs.Settings.{Setting}
use Rattle.rep_types.specs.Transactions.{Transaction, named}
use Rattle.rep_types.specs.Order.{against, seqnos_against, greatest, conflict_with, in_schema, touches, judge, recent}
use Rattle.rep_types.proofs.Choices.{and_left}
use Rattle.rep_types.proofs.Greatest.{IsGreatest, IsGreatest-greatest}
use Rattle.rep_types.proofs.Members.{Contains-from_map, Contains-from_filter}
use Rattle.rep_log.specs.Records.{is_verdict_at, is_placed}
use Rattle.rep_steps.specs.Judging.{VerdictsHaveAPlace}

module _ (p : Setting) (position : ℕ) (v : Window) (w : Transaction) (low : (e : Entry) → Contains v.entries e → e.seqno ≤ position) where
  -- those that stand against an item were not seen by it, so they are items
  against_within : (m : ℕ) → Contains (seqnos_against w v.entries) m → (1 ≤ m) × (m ≤ position)
  against_within m has =
      let among = Contains-from_map (λ (e : Entry). e.seqno) _ m has in
      let e : Entry = among.0 in
      let stands = Contains-from_filter (against w) _ e among.1 in
      let up = low e stands.0 in
      let unseen : nat_lt w.last_seen e.seqno ≡ true = and_left (nat_lt w.last_seen e.seqno) (touches e.keys (named w)) stands.1 in
      (grind (arith, nat_tests, among.2, unseen), omega (arith, among.2, up))

  conflict_at : (o : Option ℕ) → IsGreatest (seqnos_against w v.entries) o → is_verdict_at (position + 1) (conflict_with o) ≡ true
  conflict_at None is = refl
  conflict_at (Some m) is = let here = against_within m is.0 in grind (arith, nat_tests, here)

  -- the verdict on the next item fits its seqno
  verdict_placed : is_verdict_at (position + 1) (judge p position v (WriteSet w)) ≡ true
  verdict_placed = by (nat_le (position + 1) w.last_seen) (not (in_schema p w)) (nat_lt (w.last_seen + 1) v.floor)
    where
      by : (future bad stale : Bool) → is_verdict_at (position + 1) (if future then Future else if bad then BadKey else if stale then Stale else conflict_with (greatest (seqnos_against w v.entries))) ≡ true
      by true bad stale = refl
      by false true stale = refl
      by false false true = refl
      by false false false = conflict_at (greatest (seqnos_against w v.entries)) (IsGreatest-greatest (seqnos_against w v.entries))

  judged_placed : position < MAX_SEQNO → is_placed (record { seqno = position + 1; item = WriteSet w; verdict = judge p position v (WriteSet w) }) ≡ true
  judged_placed lt = let fits = verdict_placed in grind (arith, nat_tests, lt, fits)

-- the entries of a window up to a position
upto_within : (position lowest : ℕ) (es : List Entry) (e : Entry) → Contains (recent lowest (filter (λ (e : Entry). nat_le e.seqno position) es)) e → e.seqno ≤ position
upto_within position lowest es e has =
    let late = Contains-from_filter (λ (e : Entry). nat_le lowest e.seqno) _ e has in
    let up = Contains-from_filter (λ (e : Entry). nat_le e.seqno position) es e late.0 in
    grind (arith, nat_tests, up.1)

item_placed : (p : Setting) (position : ℕ) (v : Window) (i : Item) → position < MAX_SEQNO → ((e : Entry) → Contains v.entries e → e.seqno ≤ position)
    → is_placed (record { seqno = position + 1; item = i; verdict = judge p position v i }) ≡ true
item_placed p position v (WriteSet w) lt low = judged_placed p position v w low lt
item_placed p position v (SetWindow c) lt low = grind (arith, nat_tests, lt)

pub verdicts_placed : VerdictsHaveAPlace
verdicts_placed = record {
  within = item_placed;
  upto = λ p position span lowest es i lt.
      let v : Window = record { size = span; floor = lowest; entries = recent lowest (filter (λ (e : Entry). nat_le e.seqno position) es) } in
      item_placed p position v i lt (upto_within position lowest es);
}
