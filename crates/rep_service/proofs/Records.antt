-- Records that items are compared with, one after another.
use Rattle.std.proofs.Common.{◌≡◌, ℕ, ◌<◌, ◌≤◌, Bool, true, false, List, [], ◌∷◌, ◌++◌, map, Option, refl, sym, ap, subst, ◌∙◌, append-nil, append_assoc}
use Rattle.std.specs.Prelude.{nat_lt, if◌then◌else◌}
use Rattle.std.proofs.lemmas.Bool.{lt-ltb}
use Rattle.std.proofs.lemmas.List.{map-append}
use Rattle.rep_types.specs.declared.item.Item.{Item}
use Rattle.rep_types.specs.declared.judged.Judged.{Judged}
use Rattle.rep_service.specs.Passing.{Passes, PassesOld, PassesRecords, item_in, records_behind}
use Rattle.rep_service.proofs.Reaching.{passes_none, passes_both}

-- The items of the records so far were passed over, and these records are left.
pub record RecordsSo (all left : List Judged) (first : ℕ) (text behind : Option (List ℕ)) (position : ℕ) : Type 0 where
  pub front : List Judged
  pub split : records_behind first all ≡ front ++ records_behind position left
  pub passes : Passes first text behind (map item_in front) position

pub records_none : (all : List Judged) (first : ℕ) (text : Option (List ℕ)) → RecordsSo all all first text text first
records_none all first text = record { front = []; split = refl; passes = passes_none first text }

test_is : {A : Type 0} (b c : Bool) (x y : A) → b ≡ c → (if b then x else y) ≡ (if c then x else y)
test_is b c x y is = ap (λ (t : Bool). if t then x else y) is

module _ (all : List Judged) (j : Judged) (left : List Judged) (first : ℕ) (text mid : Option (List ℕ)) (position : ℕ) (so : RecordsSo all (j ∷ left) first text mid position) where
  -- the next one is not behind the position
  pub records_skip : nat_lt position j.seqno ≡ false → RecordsSo all left first text mid position
  records_skip not = record { front = so.front; split = so.split ∙ ap (λ js. so.front ++ js) (test_is (nat_lt position j.seqno) false (j ∷ records_behind j.seqno left) (records_behind position left) not); passes = so.passes }

  is_next : position < j.seqno → records_behind first all ≡ so.front ++ j ∷ records_behind j.seqno left
  is_next above = so.split ∙ ap (λ js. so.front ++ js) (test_is (nat_lt position j.seqno) true (j ∷ records_behind j.seqno left) (records_behind position left) (lt-ltb position j.seqno above))

  -- it is, and its item was passed over
  pub records_more : (behind : Option (List ℕ)) (now : ℕ) → position < j.seqno → Passes position mid behind (j.item ∷ []) now → now ≡ j.seqno → RecordsSo all left first text behind now
  records_more behind now above passed is = record {
    front = so.front ++ j ∷ [];
    split = is_next above ∙ sym (append_assoc so.front (j ∷ []) (records_behind j.seqno left)) ∙ ap (λ k. (so.front ++ j ∷ []) ++ records_behind k left) (sym is);
    passes = subst (λ items. Passes first text behind items now) (sym (map-append item_in so.front (j ∷ []))) (passes_both first position text mid behind (map item_in so.front) (j.item ∷ []) now so.passes passed);
  }

  -- the text has ended before it
  pub records_end : (behind : Option (List ℕ)) (now : ℕ) → position < j.seqno → Passes position mid behind [] now → PassesRecords all first text behind false now
  records_end behind now above passed = record {
    front = so.front;
    left = j ∷ records_behind j.seqno left;
    split = is_next above;
    passes = subst (λ items. Passes first text behind items now) (append-nil (map item_in so.front)) (passes_both first position text mid behind (map item_in so.front) [] now so.passes passed);
    all = λ never. absurd cc;
  }

pub records_all : (all : List Judged) (first : ℕ) (text behind : Option (List ℕ)) (position : ℕ) → RecordsSo all [] first text behind position → PassesRecords all first text behind true position
records_all all first text behind position so = record { front = so.front; left = []; split = so.split; passes = so.passes; all = λ is. refl }

-- ---- items up to the base

pub old_none : (base first : ℕ) (text : Option (List ℕ)) → PassesOld base first text text false first
old_none base first text = record { items = []; passes = passes_none first text; enough = λ never. absurd cc }

pub old_more : (base first : ℕ) (text mid behind : Option (List ℕ)) (i : Item) (position now : ℕ) → PassesOld base first text mid false position → Passes position mid behind (i ∷ []) now → PassesOld base first text behind false now
old_more base first text mid behind i position now so passed = record { items = so.items ++ i ∷ []; passes = passes_both first position text mid behind so.items (i ∷ []) now so.passes passed; enough = λ never. absurd cc }

pub old_end : (base first : ℕ) (text mid behind : Option (List ℕ)) (position : ℕ) → PassesOld base first text mid false position → Passes position mid behind [] position → PassesOld base first text behind false position
old_end base first text mid behind position so passed = record { items = so.items ++ []; passes = passes_both first position text mid behind so.items [] position so.passes passed; enough = λ never. absurd cc }

pub old_all : (base first : ℕ) (text behind : Option (List ℕ)) (position : ℕ) → PassesOld base first text behind false position → base ≤ position → PassesOld base first text behind true position
old_all base first text behind position so enough = record { items = so.items; passes = so.passes; enough = λ is. enough }
