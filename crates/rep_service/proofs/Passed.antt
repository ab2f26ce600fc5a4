-- Lines whose items are durable already, one after another.
use Rattle.std.proofs.Common.{◌≡◌, ◌≢◌, ℕ, ◌+◌, ◌<◌, ◌≤◌, List, [], ◌∷◌, ◌++◌, length, take, drop, Option, None, Some, Result, Ok, Err, OnOk, OnErr, IfErr, refl, sym, ap, subst, ◌∙◌, ◌⊎◌, inl, inr, append-nil, append_assoc, length-append, arith}
use Rattle.std.specs.Prelude.{Contains}
use Rattle.std.proofs.lemmas.List.Elements.{Contains-append_right}
use Rattle.std.specs.List.{AllByRecursion}
use Rattle.std.proofs.Math.Seq.{take-append-add, drop-append-add}
use Rattle.std.specs.Io.KnownBytes.{Appends}
use Rattle.std.proofs.KnownBytes.{Consumes-nil}
use Rattle.rep_types.specs.declared.item.Item.{Item}
use Rattle.rep_types.specs.declared.judged.Judged.{Judged}
use Rattle.rep_types.specs.declared.refusal.Refusal.{Refusal}
use Rattle.rep_types.specs.declared.refusal.Refusal.TheVariants.{StreamFault, WrongCluster}
use Rattle.rep_disk.specs.declared.disk.Disk.{Ghosts}
use Rattle.rep_replica.specs.Replicas.{Replica, facts_of}
use Rattle.rep_steps.specs.Nodes.{Node}
use Rattle.rep_engine.specs.Donating.{IsTailBlock}
use Rattle.rep_replica.specs.Holding.{Holds}
use Rattle.rep_replica.specs.Asking.{IsAsked}
use Rattle.rep_follow.specs.Joining.{PartsAreJoined, GoingIsJoined}
use Rattle.rep_follow.specs.Taking.{items_in}
use Rattle.rep_service.specs.Lines.{old_line}
use Rattle.rep_service.specs.Saying.{Said, Receipt, Logged, Old, Rows, Summed, State, Limits, Counters, Donated, Refused, Writes, line_of, receipt_in, receipts_in, passed_at, passed_in, answer_at}
use Rattle.rep_service.specs.Passing.{TellsDurable}
use Rattle.rep_service.specs.Living.{Lives, Reaches, Misses, IsPassed, ArePassed, IsFrom, Passed, PassesLines, IsOfLog, NotWrongCluster, Differs}
use Rattle.rep_service.proofs.Saying.{passed_both, still_both, writes_told, on_all, own_ok, own_by, own_fault}
use Rattle.rep_service.proofs.Telling.{tells_line}
use Rattle.rep_service.proofs.Ordered.{IsToldAt}
use Rattle.rep_service.proofs.Lives.{stays_of, lives_stays, lives_none, lives_both, lives_as, stays_both, stays_asked}
use Rattle.rep_service.proofs.Items.{items_both, lines_items}
use Rattle.rep_service.proofs.Answered.{on_both, answered_whole, answered_as, answered_both, answered_more}
use Rattle.rep_service.proofs.Following.{handed_both}

rise_both : (first mid position : ℕ) (lines more : List (List ℕ)) → mid ≡ first + length (items_in (first + 1) lines) → position ≡ mid + length (items_in (mid + 1) more) → position ≡ first + length (items_in (first + 1) (lines ++ more))
rise_both first mid position lines more one two =
    let whole = ap (λ (l : List Item). length l) (items_both (first + 1) lines more) in
    let at : (first + 1) + length (items_in (first + 1) lines) ≡ mid + 1 = omega (arith, one) in
    let behind = ap (λ (k : ℕ). length (items_in k more)) at in
    let sum = length-append (items_in (first + 1) lines) (items_in ((first + 1) + length (items_in (first + 1) lines)) more) in
    omega (arith, one, two, whole, behind, sum)

-- ---- what is said of items

passed_append : (seqno : ℕ) (items more : List Item) (said then : List Said) → ArePassed seqno items said → ArePassed (seqno + length items) more then → ArePassed seqno (items ++ more) (said ++ then)
passed_append seqno [] more said then none two =
    let at : seqno + length {A = Item} [] ≡ seqno = omega arith in
    subst (λ s. ArePassed seqno more (s ++ then)) (sym none) (subst (λ k. ArePassed k more then) at two)
passed_append seqno (i ∷ items) more [] then one two = absurd one
passed_append seqno (i ∷ items) more (s ∷ said) then one two =
    let at : seqno + length (i ∷ items) ≡ (seqno + 1) + length items = omega arith in
    (one.0, passed_append (seqno + 1) items more said then one.1 (subst (λ k. ArePassed k more then) at two))

-- as much is said as there are items
pub passed_count : (seqno : ℕ) (items : List Item) (said : List Said) → ArePassed seqno items said → length said ≡ length items
passed_count seqno [] said none = ap (λ (l : List Said). length l) none
passed_count seqno (i ∷ items) [] are = absurd are
passed_count seqno (i ∷ items) (s ∷ said) are = let rest = passed_count (seqno + 1) items said are.1 in omega (arith, rest)

pub all_append : (P : Said → Type 0) (a b : List Said) → AllByRecursion P a → AllByRecursion P b → AllByRecursion P (a ++ b)
all_append P [] b one two = two
all_append P (s ∷ a) b one two = (one.0, all_append P a b one.1 two)

all_weaker : (P Q : Said → Type 0) (a : List Said) → ((s : Said) → P s → Q s) → AllByRecursion P a → AllByRecursion Q a
all_weaker P Q [] to all = tt
all_weaker P Q (s ∷ a) to all = (to s all.0, all_weaker P Q a to all.1)

from_weaker : (base base' : ℕ) (Has Has' : Judged → Type 0) → base ≤ base' → ((j : Judged) → Has j → Has' j) → (s : Said) → IsFrom base Has s → IsFrom base' Has' s
from_weaker base base' Has Has' more to (Old n) is = omega (arith, more, is)
from_weaker base base' Has Has' more to (Logged j) is = to j is
from_weaker base base' Has Has' more to (Receipt r) is = tt
from_weaker base base' Has Has' more to (Rows at rows) is = tt
from_weaker base base' Has Has' more to (Summed asked sum) is = tt
from_weaker base base' Has Has' more to (State gtid b window) is = tt
from_weaker base base' Has Has' more to (Limits window) is = tt
from_weaker base base' Has Has' more to (Counters level counts) is = tt
from_weaker base base' Has Has' more to (Donated last) is = tt
from_weaker base base' Has Has' more to (Refused e) is = tt

-- what is said of no item is from anywhere
pub from_none : (base : ℕ) (Has : Judged → Type 0) (said : List Said) → passed_in said ≡ [] → AllByRecursion (IsFrom base Has) said
from_none base Has [] none = tt
from_none base Has (Old n ∷ said) none = absurd cc
from_none base Has (Logged j ∷ said) none = absurd cc
from_none base Has (Receipt r ∷ said) none = (tt, from_none base Has said none)
from_none base Has (Rows at rows ∷ said) none = (tt, from_none base Has said none)
from_none base Has (Summed asked sum ∷ said) none = (tt, from_none base Has said none)
from_none base Has (State gtid b window ∷ said) none = (tt, from_none base Has said none)
from_none base Has (Limits window ∷ said) none = (tt, from_none base Has said none)
from_none base Has (Counters level counts ∷ said) none = (tt, from_none base Has said none)
from_none base Has (Donated last ∷ said) none = (tt, from_none base Has said none)
from_none base Has (Refused e ∷ said) none = (tt, from_none base Has said none)

-- of all of them something was said
pub none_missed : (first : ℕ) (lines : List (List ℕ)) (said : List Said) (r : Result (Unit {0}) Refusal) → ArePassed (first + 1) (items_in (first + 1) lines) (passed_in said) → length (passed_in said) < length (items_in (first + 1) lines) → r ≡ Err WrongCluster
none_missed first lines said r all few = let count = passed_count (first + 1) (items_in (first + 1) lines) (passed_in said) all in absurd (omega (arith, few, count))

module _ (base : ℕ) (Has : Judged → Type 0) where
  passed_as : (first : ℕ) (lines : List (List ℕ)) (said : List Said) (r : Result (Unit {0}) Refusal) → NotWrongCluster r → Passed base Has first lines said (Ok tt) → Passed base Has first lines said r
  passed_as first lines said r own p = record { most = p.most; are = p.are; all = on_all r p.all; from = p.from; missed = none_missed first lines said r p.all; differs = λ is. absurd (own is) }

  passed_of_none : (first : ℕ) (lines : List (List ℕ)) (said : List Said) (e : Refusal) → passed_in said ≡ [] → (length (passed_in said) < length (items_in (first + 1) lines) → ◌≡◌ {A = Result (Unit {0}) Refusal} (Err e) (Err WrongCluster)) → (◌≡◌ {A = Result (Unit {0}) Refusal} (Err e) (Err WrongCluster) → Differs Has first lines said) → Passed base Has first lines said (Err e)
  passed_of_none first lines said e none missed differs = record { most = 0; are = none; all = tt; from = from_none base Has said none; missed = missed; differs = differs }

  -- of none of them
  passed_not : (first : ℕ) (lines : List (List ℕ)) (said : List Said) (e : Refusal) → passed_in said ≡ [] → (items_in (first + 1) lines ≡ []) ⊎ (◌≡◌ {A = Result (Unit {0}) Refusal} (Err e) (Err WrongCluster)) → (◌≡◌ {A = Result (Unit {0}) Refusal} (Err e) (Err WrongCluster) → Differs Has first lines said) → Passed base Has first lines said (Err e)
  passed_not first lines said e none (inl items) differs = passed_of_none first lines said e none (λ few. absurd (let count = ap (λ (l : List Item). length l) items in omega (arith, few, count))) differs
  passed_not first lines said e none (inr is) differs = passed_of_none first lines said e none (λ few. is) differs

  -- there is none among them
  passed_none : (first : ℕ) (lines : List (List ℕ)) (said : List Said) (r : Result (Unit {0}) Refusal) → NotWrongCluster r → items_in (first + 1) lines ≡ [] → passed_in said ≡ [] → Passed base Has first lines said r
  passed_none first lines said r own items none =
      let whole : ArePassed (first + 1) (items_in (first + 1) lines) (passed_in said) = subst (λ is. ArePassed (first + 1) is (passed_in said)) (sym items) none in
      record { most = 0; are = none; all = on_all r whole; from = from_none base Has said none; missed = none_missed first lines said r whole; differs = λ is. absurd (own is) }

  -- of one, which is the only one
  passed_one : (first : ℕ) (lines : List (List ℕ)) (said : List Said) (one : Said) (i : Item) (r : Result (Unit {0}) Refusal) → NotWrongCluster r → items_in (first + 1) lines ≡ i ∷ [] → passed_in said ≡ [] → passed_at one ≡ one ∷ [] → IsPassed (first + 1) i one → IsFrom base Has one
      → Passed base Has first lines (said ++ one ∷ []) r
  passed_one first lines said one i r own items none passes is from =
      let here : passed_in (said ++ one ∷ []) ≡ one ∷ [] = passed_both said (one ∷ []) ∙ ap (λ l. l ++ passed_in (one ∷ [])) none ∙ ap (λ l. l ++ []) passes in
      let whole : ArePassed (first + 1) (i ∷ []) (passed_in (said ++ one ∷ [])) = subst (ArePassed (first + 1) (i ∷ [])) (sym here) (is, refl) in
      record {
        most = 1;
        are = subst (λ is. ArePassed (first + 1) (take 1 is) (passed_in (said ++ one ∷ []))) (sym items) whole;
        all = on_all r (subst (λ is. ArePassed (first + 1) is (passed_in (said ++ one ∷ []))) (sym items) whole);
        missed = none_missed first lines (said ++ one ∷ []) r (subst (λ is. ArePassed (first + 1) is (passed_in (said ++ one ∷ []))) (sym items) whole);
        from = all_append (IsFrom base Has) said (one ∷ []) (from_none base Has said none) (from, tt);
        differs = λ same. absurd (own same);
      }

  -- the one that differs stands behind the items of both
  differs_later : (first mid : ℕ) (lines more : List (List ℕ)) (said then : List Said) → mid ≡ first + length (items_in (first + 1) lines) → ArePassed (first + 1) (items_in (first + 1) lines) (passed_in said) → Differs Has mid more then → Differs Has first (lines ++ more) (said ++ then)
  differs_later first mid lines more said then at are d =
      let items = items_in (first + 1) lines in
      let behind : (first + 1) + length items ≡ mid + 1 = omega (arith, at) in
      let count = passed_count (first + 1) items (passed_in said) are in
      let sum = ap (λ (l : List Said). length l) (passed_both said then) ∙ length-append (passed_in said) (passed_in then) in
      let many : length (passed_in (said ++ then)) ≡ length items + length (passed_in then) = omega (arith, sum, count) in
      record {
        judged = d.judged;
        has = d.has;
        item = d.item;
        next = ap (λ k. drop k (items_in (first + 1) (lines ++ more))) many ∙ ap (drop (length items + length (passed_in then))) (items_both (first + 1) lines more) ∙ drop-append-add items (items_in ((first + 1) + length items) more) (length (passed_in then))
            ∙ ap (λ k. drop (length (passed_in then)) (items_in k more)) behind ∙ d.next;
        seqno_is = omega (arith, d.seqno_is, behind, many);
        another = d.another;
      }

  passed_join : (first mid : ℕ) (lines more : List (List ℕ)) (said then : List Said) (r : Result (Unit {0}) Refusal) → mid ≡ first + length (items_in (first + 1) lines) → Passed base Has first lines said (Ok tt) → Passed base Has mid more then r → Passed base Has first (lines ++ more) (said ++ then) r
  passed_join first mid lines more said then r at one two =
      let items = items_in (first + 1) lines in
      let behind : mid + 1 ≡ (first + 1) + length items = omega (arith, at) in
      let both = items_both (first + 1) lines more in
      let next : List Item = items_in ((first + 1) + length items) more in
      let same = passed_both said then in
      record {
        most = length items + two.most;
        are = subst (λ is. ArePassed (first + 1) is (passed_in (said ++ then))) (sym (ap (take (length items + two.most)) both ∙ take-append-add items next two.most))
            (subst (ArePassed (first + 1) (items ++ take two.most next)) (sym same) (passed_append (first + 1) items (take two.most next) (passed_in said) (passed_in then) one.all (subst (λ k. ArePassed k (take two.most (items_in k more)) (passed_in then)) behind two.are)));
        all = on_both r (λ are. subst (λ is. ArePassed (first + 1) is (passed_in (said ++ then))) (sym both)
            (subst (ArePassed (first + 1) (items ++ next)) (sym same) (passed_append (first + 1) items next (passed_in said) (passed_in then) one.all (subst (λ k. ArePassed k (items_in k more) (passed_in then)) behind are)))) two.all;
        from = all_append (IsFrom base Has) said then one.from two.from;
        missed = λ few.
            let count = passed_count (first + 1) items (passed_in said) one.all in
            let told = ap (λ (l : List Said). length l) same ∙ length-append (passed_in said) (passed_in then) in
            let all = ap (λ (l : List Item). length l) both ∙ length-append items next in
            let last = ap (λ k. length (items_in k more)) (sym behind) in
            two.missed (omega (arith, few, count, told, all, last));
        differs = λ is. differs_later first mid lines more said then at one.all (two.differs is);
      }

differs_weaker : (Has Has' : Judged → Type 0) → ((j : Judged) → Has j → Has' j) → (first : ℕ) (lines : List (List ℕ)) (said : List Said) → Differs Has first lines said → Differs Has' first lines said
differs_weaker Has Has' to first lines said d = record { judged = d.judged; has = to d.judged d.has; item = d.item; next = d.next; seqno_is = d.seqno_is; another = d.another }

pub passed_weaker : (base base' : ℕ) (Has Has' : Judged → Type 0) → base ≤ base' → ((j : Judged) → Has j → Has' j) → (first : ℕ) (lines : List (List ℕ)) (said : List Said) (r : Result (Unit {0}) Refusal) → Passed base Has first lines said r → Passed base' Has' first lines said r
passed_weaker base base' Has Has' more to first lines said r p = record { most = p.most; are = p.are; all = p.all; from = all_weaker (IsFrom base Has) (IsFrom base' Has') said (from_weaker base base' Has Has' more to) p.from; missed = p.missed; differs = λ is. differs_weaker Has Has' to first lines said (p.differs is) }

-- ---- what is written of one item

pub writes_old : (seqno : ℕ) (before after : Option (List ℕ)) (r : Result (Unit {0}) Refusal) → OnOk r (Appends before after (old_line seqno)) → OnErr r ((k : ℕ) × Appends before after (take k (old_line seqno))) → IfErr r (λ e. e ≡ StreamFault) → Writes (Old seqno ∷ []) before after r
writes_old seqno before after r ok cut fault = writes_told (Old seqno) before after r (tells_line (old_line seqno) before after r ok cut fault) fault

pub writes_durable : (j : Judged) (before after : Option (List ℕ)) (r : Result (Unit {0}) Refusal) → TellsDurable j before after r → Writes (Logged j ∷ []) before after r
writes_durable j before after (Ok x) told = writes_told (Logged j) before after (Ok x) told tt
writes_durable j before after (Err e) told = (told.1.0, subst (λ l. Appends before after (take told.1.0 l)) (sym (append-nil (line_of (Logged j)))) told.1.1, λ own. absurd (own told.0))

module _ {D : Type 0} (g : Ghosts D) where
  -- nothing was delivered, and no reply given: as much is durable
  pub durable_kept : (old new : Replica D) (said : List Said) (before after : Option (List ℕ)) → receipts_in said ≡ [] → Lives g old new [] said before after (Ok tt) → (facts_of g new).durable ≡ (facts_of g old).durable
  durable_kept old new said before after still lives = let stays = stays_of g old new said before after still lives in omega (arith, stays.follows.durable.durable)

  module _ (base : ℕ) (Has : Judged → Type 0) where
    pub passes_as : (first : ℕ) (old new : Replica D) (text behind : Option (List ℕ)) (position : ℕ) (before after : Option (List ℕ)) (r : Result (Unit {0}) Refusal) → NotWrongCluster r → PassesLines g base Has first old new text behind position before after (Ok tt) → PassesLines g base Has first old new text behind position before after r
    passes_as first old new text behind position before after r own passes = record {
      lines = passes.lines;
      handed = passes.handed;
      said = passes.said;
      lives = lives_as g old new [] passes.said before after r passes.lives;
      still = passes.still;
      position_is = on_all r passes.position_is;
      passed = passed_as base Has first passes.lines passes.said r own passes.passed;
      answers = answered_as passes.lines passes.said r passes.answers;
    }

    -- there is no item more
    pub passes_ended : (first : ℕ) (left : List ℕ) (rest : Option (List ℕ)) (old new : Replica D) (text behind before after : Option (List ℕ)) → Reaches g (first + 1) old new left rest text behind before after None → PassesLines g base Has first old new text behind first before after (Ok tt)
    passes_ended first left rest old new text behind before after reaches =
        let hands = reaches.hands in
        let none = lines_items (first + 1) hands.lines [] reaches.are in
        record {
          lines = hands.lines;
          handed = hands.handed;
          said = hands.said;
          lives = hands.lives;
          still = hands.still;
          position_is = let count = ap (λ (l : List Item). length l) none in omega (arith, count);
          passed = passed_none base Has first hands.lines hands.said (Ok tt) own_ok none hands.none;
          answers = hands.answers;
        }

    -- it ended before
    pub passes_not : (first : ℕ) (old new : Replica D) (text behind : Option (List ℕ)) (position : ℕ) (before after : Option (List ℕ)) (e : Refusal) → Misses g (first + 1) old new text behind before after e → PassesLines g base Has first old new text behind position before after (Err e)
    passes_not first old new text behind position before after e misses =
        let hands = misses.hands in
        record {
          lines = hands.lines;
          handed = hands.handed;
          said = hands.said;
          lives = hands.lives;
          still = hands.still;
          position_is = tt;
          passed = passed_not base Has first hands.lines hands.said e hands.none (inl misses.none) (λ is. absurd (hands.own is));
          answers = hands.answers;
        }

    -- the next item was reached, and nothing said of it
    pub passes_unsaid : (first : ℕ) (left : List ℕ) (rest : Option (List ℕ)) (old new : Replica D) (text behind before after : Option (List ℕ)) (i : Item) (position : ℕ) (j : Judged) → Reaches g (first + 1) old new left rest text behind before after (Some i) → j.seqno ≡ first + 1 → Has j → i ≢ j.item → PassesLines g base Has first old new text behind position before after (Err WrongCluster)
    passes_unsaid first left rest old new text behind before after i position j reaches seqno has another =
        let hands = reaches.hands in
        record {
          lines = hands.lines;
          handed = hands.handed;
          said = hands.said;
          lives = lives_as g old new [] hands.said before after (Err WrongCluster) hands.lives;
          still = hands.still;
          position_is = tt;
          passed = passed_not base Has first hands.lines hands.said WrongCluster hands.none (inr refl) (λ same. record {
            judged = j;
            has = has;
            item = i;
            next = ap (λ l. drop (length l) (items_in (first + 1) hands.lines)) hands.none ∙ lines_items (first + 1) hands.lines (i ∷ []) reaches.are;
            seqno_is = let none = ap (λ (l : List Said). length l) hands.none in omega (arith, seqno, none);
            another = another;
          });
          answers = answered_as hands.lines hands.said (Err WrongCluster) hands.answers;
        }

    module _ (parts : PartsAreJoined g) where
      -- it was reached, and this was said of it
      pub passes_reached : (first : ℕ) (left : List ℕ) (rest : Option (List ℕ)) (old new : Replica D) (text behind before mid after : Option (List ℕ)) (i : Item) (one : Said) (position : ℕ) (r : Result (Unit {0}) Refusal) → Reaches g (first + 1) old new left rest text behind before mid (Some i)
          → receipt_in one ≡ [] → passed_at one ≡ one ∷ [] → answer_at one ≡ [] → IsPassed (first + 1) i one → IsFrom base Has one → Writes (one ∷ []) mid after r → IsToldAt g new one → NotWrongCluster r → OnOk r (position ≡ first + 1) → PassesLines g base Has first old new text behind position before after r
      passes_reached first left rest old new text behind before mid after i one position r reaches no_receipt passes no_answer is from writes told own at =
          let hands = reaches.hands in
          let items = lines_items (first + 1) hands.lines (i ∷ []) reaches.are in
          let still : receipts_in (one ∷ []) ≡ [] = ap (λ l. l ++ []) no_receipt in
          let said : Lives g new new [] (one ∷ []) mid after r = lives_stays g new new (one ∷ []) mid after r (record { follows = parts.none new; rests = λ rests. rests }) still writes (λ n L more holds of. (told n L more holds of, tt)) in
          record {
            lines = hands.lines;
            handed = hands.handed;
            said = hands.said ++ one ∷ [];
            lives = lives_both g parts old new new [] [] hands.said (one ∷ []) before mid after r hands.lives said;
            still = still_both hands.said (one ∷ []) hands.still still;
            position_is = on_both r (λ (is : position ≡ first + 1). (let count = ap (λ (l : List Item). length l) items in omega (arith, is, count))) at;
            passed = passed_one base Has first hands.lines hands.said one i r own items hands.none passes is from;
            answers = answered_more hands.lines hands.said (one ∷ []) r (ap (λ l. l ++ []) no_answer) (answered_as hands.lines hands.said r hands.answers);
          }

      pub passes_none : (first : ℕ) (r : Replica D) (text written : Option (List ℕ)) (result : Result (Unit {0}) Refusal) → NotWrongCluster result → PassesLines g base Has first r r text text first written written result
      passes_none first r text written result own = record {
        lines = [];
        handed = Consumes-nil text;
        said = [];
        lives = lives_none g parts r written result;
        still = refl;
        position_is = on_all result (omega arith);
        passed = passed_none base Has first [] [] result own refl refl;
        answers = answered_whole [] [] result refl;
      }

      pub passes_both : (first mid position : ℕ) (old between new : Replica D) (text middle behind before written after : Option (List ℕ)) (r : Result (Unit {0}) Refusal) → PassesLines g base Has first old between text middle mid before written (Ok tt)
          → PassesLines g base Has mid between new middle behind position written after r → PassesLines g base Has first old new text behind position before after r
      passes_both first mid position old between new text middle behind before written after r one two = record {
        lines = one.lines ++ two.lines;
        handed = handed_both text middle behind one.lines two.lines one.handed two.handed;
        said = one.said ++ two.said;
        lives = lives_both g parts old between new [] [] one.said two.said before written after r one.lives two.lives;
        still = still_both one.said two.said one.still two.still;
        position_is = on_both r (rise_both first mid position one.lines two.lines one.position_is) two.position_is;
        passed = passed_join base Has first mid one.lines two.lines one.said two.said r one.position_is one.passed two.passed;
        answers = answered_both one.lines two.lines one.said two.said r one.answers two.answers;
      }

      -- the device is asked behind it
      pub passes_asked : GoingIsJoined g → (first : ℕ) (old mid new : Replica D) (text behind : Option (List ℕ)) (position : ℕ) (before after : Option (List ℕ)) (r : Result (Unit {0}) Refusal) → NotWrongCluster r → PassesLines g base Has first old mid text behind position before after (Ok tt) → IsAsked g mid new
          → PassesLines g base Has first old new text behind position before after r
      passes_asked going first old mid new text behind position before after r own passes asked =
          let stays = stays_both g parts old mid new (stays_of g old mid passes.said before after passes.still passes.lives) (stays_asked g parts going mid new asked) in
          record {
            lines = passes.lines;
            handed = passes.handed;
            said = passes.said;
            lives = lives_as g old new [] passes.said before after r (lives_stays g old new passes.said before after (Ok tt) stays passes.still passes.lives.written passes.lives.told);
            still = passes.still;
            position_is = on_all r passes.position_is;
            passed = passed_as base Has first passes.lines passes.said r own passes.passed;
            answers = answered_as passes.lines passes.said r passes.answers;
          }

  -- the records are of another kind, too
  pub passes_weaker : (base base' : ℕ) (Has Has' : Judged → Type 0) → base ≤ base' → ((j : Judged) → Has j → Has' j) → (first : ℕ) (old new : Replica D) (text behind : Option (List ℕ)) (position : ℕ) (before after : Option (List ℕ)) (r : Result (Unit {0}) Refusal)
      → PassesLines g base Has first old new text behind position before after r → PassesLines g base' Has' first old new text behind position before after r
  passes_weaker base base' Has Has' more to first old new text behind position before after r passes = record {
    lines = passes.lines;
    handed = passes.handed;
    said = passes.said;
    lives = passes.lives;
    still = passes.still;
    position_is = passes.position_is;
    passed = passed_weaker base base' Has Has' more to first passes.lines passes.said r passes.passed;
    answers = passes.answers;
  }

  -- the log has no record that is told as it has it
  pub passes_old_of : (base : ℕ) (Has : Judged → Type 0) (first : ℕ) (old new : Replica D) (text behind : Option (List ℕ)) (position : ℕ) (before after : Option (List ℕ)) (r : Result (Unit {0}) Refusal) → PassesLines g base (λ j. ⊥) first old new text behind position before after r
      → PassesLines g base Has first old new text behind position before after r
  passes_old_of base Has = passes_weaker base base (λ j. ⊥) Has (omega arith) (λ j never. absurd never)

  -- ---- the records of a block

  module _ (parts : PartsAreJoined g) where
    -- the record's item was reached, and its receipt told
    pub passes_record : (first : ℕ) (left : List ℕ) (rest : Option (List ℕ)) (old new : Replica D) (text behind before mid after : Option (List ℕ)) (j : Judged) (i : Item) (position : ℕ) (r : Result (Unit {0}) Refusal) → Reaches g (first + 1) old new left rest text behind before mid (Some i) → j.seqno ≡ first + 1
        → i ≡ j.item → TellsDurable j mid after r → NotWrongCluster r → OnOk r (position ≡ first + 1) → PassesLines g 0 (λ k. k ≡ j) first old new text behind position before after r
    passes_record first left rest old new text behind before mid after j i position r reaches seqno same told own at =
        passes_reached 0 (λ k. k ≡ j) parts first left rest old new text behind before mid after i (Logged j) position r reaches refl refl refl (seqno, sym same) refl (writes_durable j mid after r told) (λ n L more holds of. tt) own at

    -- it is another item, or the writer failed
    pub passes_record_not : (first : ℕ) (left : List ℕ) (rest : Option (List ℕ)) (old new : Replica D) (text behind before mid after : Option (List ℕ)) (j : Judged) (i : Item) (position : ℕ) (e : Refusal) → Reaches g (first + 1) old new left rest text behind before mid (Some i) → j.seqno ≡ first + 1
        → ((e ≡ WrongCluster) × (i ≢ j.item) × (after ≡ mid)) ⊎ ((i ≡ j.item) × TellsDurable j mid after (Err e)) → PassesLines g 0 (λ k. k ≡ j) first old new text behind position before after (Err e)
    passes_record_not first left rest old new text behind before mid after j i position e reaches seqno (inl (is, another, same)) =
        subst (λ w. PassesLines g 0 (λ k. k ≡ j) first old new text behind position before w (Err e)) (sym same)
        (subst (λ f. PassesLines g 0 (λ k. k ≡ j) first old new text behind position before mid (Err f)) (sym is) (passes_unsaid 0 (λ k. k ≡ j) first left rest old new text behind before mid i position j reaches seqno refl another))
    passes_record_not first left rest old new text behind before mid after j i position e reaches seqno (inr told) = passes_record first left rest old new text behind before mid after j i position (Err e) reaches seqno told.0 told.1 (own_by e (own_fault e told.1.0)) tt

    -- one more record of the block
    pub passes_more : (all : List Judged) {j : Judged} {left now : List Judged} → ((front : List Judged) × (all ≡ front ++ now)) → now ≡ j ∷ left → (first mid position : ℕ) (old between new : Replica D) (text middle behind before written after : Option (List ℕ)) (r : Result (Unit {0}) Refusal)
        → PassesLines g 0 (Contains all) first old between text middle mid before written (Ok tt) → PassesLines g 0 (λ k. k ≡ j) mid between new middle behind position written after r → PassesLines g 0 (Contains all) first old new text behind position before after r
    passes_more all {j} {left} {now} split is first mid position old between new text middle behind before written after r one two =
        let has : Contains all j = subst (λ l. Contains l j) (sym (split.1 ∙ ap (λ l. split.0 ++ l) is)) (Contains-append_right split.0 (j ∷ left) j (0, omega arith, refl)) in
        passes_both 0 (Contains all) parts first mid position old between new text middle behind before written after r one
        (passes_weaker 0 0 (λ k. k ≡ j) (Contains all) (omega arith) (λ k same. subst (Contains all) (sym same) has) mid between new middle behind position written after r two)

    -- ---- the blocks

    pub of_log_before : (old mid : Replica D) (said : List Said) (before after : Option (List ℕ)) → receipts_in said ≡ [] → Lives g old mid [] said before after (Ok tt) → (j : Judged) → IsOfLog g mid j → IsOfLog g old j
    of_log_before old mid said before after still lives j is = record {
      at = is.at;
      follows = parts.both old mid is.at [] [] [] [] ((stays_of g old mid said before after still lives).follows) is.follows;
      index = is.index;
      records = is.records;
      block = is.block;
      has = is.has;
    }

  pub of_log : (old mid : Replica D) (said : List Said) (before after : Option (List ℕ)) → receipts_in said ≡ [] → Lives g old mid [] said before after (Ok tt) → (index : ℕ) {records : List Judged}
      → ((n : Node) → Holds g n mid → IsTailBlock n mid.engine.layout (g.history mid.engine.disk) mid.engine.checkpoint.base mid.engine.log index records) → (j : Judged) → Contains records j → IsOfLog g old j
  of_log old mid said before after still lives index {records} block j has = record { at = mid; follows = (stays_of g old mid said before after still lives).follows; index = index; records = records; block = block; has = has }

pub split_more : {all now : List Judged} {j : Judged} {left : List Judged} → ((front : List Judged) × (all ≡ front ++ now)) → now ≡ j ∷ left → (front : List Judged) × (all ≡ front ++ left)
split_more {all} {now} {j} {left} split is = (split.0 ++ j ∷ [], split.1 ∙ ap (λ l. split.0 ++ l) is ∙ sym (append_assoc split.0 (j ∷ []) left))
