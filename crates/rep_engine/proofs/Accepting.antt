-- Items that come into an engine.
use Rattle.std.proofs.Common.{◌≡◌, ℕ, zero, suc, ◌+◌, ◌<◌, ◌≤◌, ◌==◌, Bool, true, false, List, [], ◌∷◌, ◌++◌, append_assoc, append-nil, length, length-append, take, Option, None, Some, refl, sym, ap, subst, ◌∙◌, arith}
use Rattle.std.specs.Prelude.{if◌then◌else◌, IsTrue}
use Rattle.std.proofs.lemmas.Bool.Decides.{nat_tests}
use Rattle.std.proofs.lemmas.List.{length-take-le}
use Rattle.uuid.specs.Parts.{is_nil_bytes}
use Rattle.rep_types.specs.declared.key.Key.{Key}
use Rattle.rep_types.specs.declared.judged.Judged.{Judged}
use Rattle.rep_types.specs.declared.value.Write.{Write}
use Rattle.rep_types.specs.declared.limits.TheConstants.{MAX_SEQNO}
use Rattle.rep_types.specs.Keys.{key_eq}
use Rattle.rep_types.specs.Items.{writes_of}
use Rattle.rep_types.specs.Order.{counts, latest}
use Rattle.rep_record.specs.Blocks.{SeqnosFrom, has_room}
use Rattle.rep_record.specs.Fronts.{fitting, FrontsAreDetermined}
use Rattle.rep_layout.specs.declared.place.Layout.{Layout}
use Rattle.rep_checkpoint.specs.Standing.{Standing as Checkpoint}
use Rattle.rep_versions.specs.Versions.{Kept, Version, version_at, overlaid, IsAdded, IsTakenBack, AddIsTakenBack}
use Rattle.rep_versions.specs.Following.{effect_of}
use Rattle.rep_log.specs.Standing.{Standing as Log}
use Rattle.rep_engine.specs.Engines.{IsEngine, IsWhole, AreWithin, durable_of}
use Rattle.rep_engine.specs.Accepting.{AddsWhere, AddsItems}

-- ---- what a block takes

-- items that were taken stay taken, and what comes behind them goes on from there
pub fitting_append : (b xs ys : List Judged) → fitting b xs ≡ length xs → fitting b (xs ++ ys) ≡ length xs + fitting (b ++ xs) ys
fitting_append b [] ys e = let same = ap (λ (c : List Judged). fitting c ys) (sym (append-nil b)) in omega (arith, same)
fitting_append b (x ∷ xs) ys e = by (has_room b x) refl (fitting_append (b ++ x ∷ []) xs ys)
  where
    by : (room : Bool) → has_room b x ≡ room → (fitting (b ++ x ∷ []) xs ≡ length xs → fitting (b ++ x ∷ []) (xs ++ ys) ≡ length xs + fitting ((b ++ x ∷ []) ++ xs) ys) → fitting b ((x ∷ xs) ++ ys) ≡ length (x ∷ xs) + fitting (b ++ (x ∷ xs)) ys
    by true room further =
        let one : fitting b (x ∷ xs) ≡ fitting (b ++ x ∷ []) xs + 1 = rw room refl in
        let rest = further (omega (arith, one, e)) in
        let all : fitting b ((x ∷ xs) ++ ys) ≡ fitting (b ++ x ∷ []) (xs ++ ys) + 1 = rw room refl in
        omega (arith, all, rest, ap (λ (c : List Judged). fitting c ys) (append_assoc b (x ∷ []) xs))
    by false room further = let none : fitting b (x ∷ xs) ≡ 0 = rw room refl in absurd (omega (arith, none, e))

-- the front that is taken is taken whole
fitting_front : (b js : List Judged) → fitting b (take (fitting b js) js) ≡ fitting b js
fitting_front b [] = refl
fitting_front b (j ∷ js) = by (has_room b j) refl (fitting_front (b ++ j ∷ []) js)
  where
    by : (room : Bool) → has_room b j ≡ room → fitting (b ++ j ∷ []) (take (fitting (b ++ j ∷ []) js) js) ≡ fitting (b ++ j ∷ []) js → fitting b (take (fitting b (j ∷ js)) (j ∷ js)) ≡ fitting b (j ∷ js)
    by true room further =
        let one : fitting b (j ∷ js) ≡ suc (fitting (b ++ j ∷ []) js) = rw room (omega arith) in
        let all : fitting b (j ∷ take (fitting (b ++ j ∷ []) js) js) ≡ fitting (b ++ j ∷ []) (take (fitting (b ++ j ∷ []) js) js) + 1 = rw room refl in
        ap (λ k. fitting b (take k (j ∷ js))) one ∙ all ∙ ap (λ k. k + 1) further ∙ sym (one ∙ omega arith)
    by false room further = let none : fitting b (j ∷ js) ≡ 0 = rw room refl in ap (λ k. fitting b (take k (j ∷ js))) none ∙ sym none

pub fitting_within : (b js : List Judged) → fitting b js ≤ length js
fitting_within b [] = omega arith
fitting_within b (j ∷ js) = by (has_room b j) refl (fitting_within (b ++ j ∷ []) js)
  where
    by : (room : Bool) → has_room b j ≡ room → fitting (b ++ j ∷ []) js ≤ length js → fitting b (j ∷ js) ≤ length (j ∷ js)
    by true room further = let one : fitting b (j ∷ js) ≡ fitting (b ++ j ∷ []) js + 1 = rw room refl in omega (arith, one, further)
    by false room further = let none : fitting b (j ∷ js) ≡ 0 = rw room refl in omega (arith, none)

pub fits_more : (block js : List Judged) → fitting [] block ≡ length block → fitting [] (block ++ take (fitting block js) js) ≡ length block + fitting block js
fits_more block js fits = fitting_append [] block (take (fitting block js) js) fits ∙ ap (λ k. length block + k) (fitting_front block js)

-- the next block then takes all that was gathered and what came
pub gathers_more : (l : Layout) (c : Checkpoint) (log : Log) (kept : Kept) (block js : List Judged) → IsEngine l c log kept block → fitting [] (block ++ take (fitting block js) js) ≡ length block + fitting block js
gathers_more l b log kept block js h = fits_more block js h.fits

-- ---- seqnos

pub seqnos_take : (n k : ℕ) (js : List Judged) → SeqnosFrom n js → SeqnosFrom n (take k js)
seqnos_take n zero js h = tt
seqnos_take n (suc k) [] h = tt
seqnos_take n (suc k) (j ∷ js) h = (h.0, seqnos_take (n + 1) k js h.1)

pub seqnos_append : (n : ℕ) (xs ys : List Judged) → SeqnosFrom n xs → SeqnosFrom (n + length xs) ys → SeqnosFrom n (xs ++ ys)
seqnos_append n [] ys h k = subst (λ m. SeqnosFrom m ys) (omega arith) k
seqnos_append n (x ∷ xs) ys h k = (h.0, seqnos_append (n + 1) xs ys h.1 (subst (λ m. SeqnosFrom m ys) (omega arith) k))

-- ---- versions

-- an item that was added was added at its seqno
effects_by : (j : Judged) (b : Bool) → counts j ≡ b → effect_of j ≡ (if b then writes_of j.item else [])
effects_by j b is = ap (λ c. if c then writes_of j.item else []) is

none_added : (j : Judged) (kept : Kept) → IsAdded j.seqno [] kept kept
none_added j kept key s = by (s == j.seqno) (version_at kept key s)
  where
    by : (b : Bool) (v : Option Version) → v ≡ (if b then overlaid v (latest (λ (write : Write). key_eq write.key key) []) else v)
    by true v = refl
    by false v = refl

pub added_at : (b : Bool) (j : Judged) (before after : Kept) → counts j ≡ b → AddsWhere b j before after → IsAdded j.seqno (effect_of j) before after
added_at true j before after is h = subst (λ (ws : List Write). IsAdded j.seqno ws before after) (sym (effects_by j true is)) h
added_at false j before after is h =
    subst (λ (ws : List Write). IsAdded j.seqno ws before after) (sym (effects_by j false is)) (subst (λ (k : Kept). IsAdded j.seqno [] before k) (sym h) (none_added j before))

-- no version has a seqno behind the last
none_behind : (base last : ℕ) (kept : Kept) (s : ℕ) → AreWithin base last kept → last < s → (key : Key) → version_at kept key s ≡ None
none_behind base last kept s within behind key = by (version_at kept key s) refl
  where
    by : (v : Option Version) → version_at kept key s ≡ v → v ≡ None
    by None is = refl
    by (Some v) is = let at = within key s v is in absurd (omega (arith, at.1, behind))

-- a version that was there, or is new
within_added : (base last seqno : ℕ) (ws : List Write) (before after : Kept) → base ≤ last → seqno ≡ last + 1 → AreWithin base last before → IsAdded seqno ws before after → AreWithin base (last + 1) after
within_added base last seqno ws before after le is within added key s v stands = by (s == seqno) refl
  where
    by : (b : Bool) → (s == seqno) ≡ b → (base < s) × (s ≤ last + 1)
    by true same = (grind (arith, nat_tests), grind (arith, nat_tests))
    by false other =
        let was : version_at before key s ≡ Some v = sym (added key s ∙ ap (λ b. if b then overlaid (version_at before key s) (latest (λ (write : Write). key_eq write.key key) ws) else version_at before key s) other) ∙ stands in
        let at = within key s v was in (at.0, omega (arith, at.1))

pub within_items : (base last : ℕ) (js : List Judged) (before after : Kept) → base ≤ last → SeqnosFrom (last + 1) js → AreWithin base last before → AddsItems js before after → AreWithin base (last + length js) after
within_items base last [] before after le follow within same = subst (AreWithin base (last + 0)) (sym same) (subst (λ k. AreWithin base k before) (omega arith) within)
within_items base last (j ∷ js) before after le follow within adds =
    let one = within_added base last j.seqno (effect_of j) before adds.0 le follow.0 within (added_at (counts j) j before adds.0 refl adds.1) in
    subst (λ k. AreWithin base k after) (omega arith) (within_items base (last + 1) js adds.0 after (omega (arith, le)) follow.1 one adds.2)

-- ---- what is taken back

pub undone : AddIsTakenBack → (base last : ℕ) (j : Judged) (before mid after : Kept) → j.seqno ≡ last + 1 → AreWithin base last before → AddsWhere (counts j) j before mid → IsTakenBack j.seqno mid after → after ≡ before
undone law base last j before mid after is within adds taken =
    law j.seqno (effect_of j) before mid after (none_behind base last before j.seqno within (omega (arith, is))) (added_at (counts j) j before mid refl adds) taken

pub within_one : (base last : ℕ) (j : Judged) (before mid : Kept) → base ≤ last → j.seqno ≡ last + 1 → AreWithin base last before → AddsWhere (counts j) j before mid → AreWithin base (last + 1) mid
within_one base last j before mid le is within adds = within_added base last j.seqno (effect_of j) before mid le is within (added_at (counts j) j before mid refl adds)

take_none : (k : ℕ) → take {A = Judged} k [] ≡ []
take_none zero = refl
take_none (suc k) = refl

-- ---- what is so of an engine goes on being so

module _ (l : Layout) (c : Checkpoint) (log : Log) (kept after : Kept) (block js : List Judged) (h : IsEngine l c log kept block) (fronts : FrontsAreDetermined) where
  pub engine_accepted : SeqnosFrom (log.seqno + length block) js → durable_of log + length block + length js ≤ MAX_SEQNO → (IsTrue (is_nil_bytes c.base.uuid) → js ≡ [])
      → IsWhole log.phase (block ++ take (fitting block js) js) → AddsItems (take (fitting block js) js) kept after → IsEngine l c log after (block ++ take (fitting block js) js)
  engine_accepted follow limit nil whole adds =
      let k = fitting block js in
      let size : length (take k js) ≡ k = length-take-le k js (fitting_within block js) in
      let all : length (block ++ take k js) ≡ length block + k = omega (arith, length-append block (take k js), size) in
      let within : AreWithin c.base.position (durable_of log + length block + length (take k js)) after =
      within_items c.base.position (durable_of log + length block) (take k js) kept after (omega (arith, h.behind))
      (subst (λ n. SeqnosFrom n (take k js)) (omega (arith, h.behind)) (seqnos_take (log.seqno + length block) k js follow)) h.within adds in
      record {
        checkpoint = h.checkpoint;
        layout = h.layout;
        cells = h.cells;
        start = h.start;
        behind = h.behind;
        begun = h.begun;
        room = h.room;
        items = h.items;
        goal = h.goal;
        behind_goal = h.behind_goal;
        follow = seqnos_append log.seqno block (take k js) h.follow (seqnos_take (log.seqno + length block) k js follow);
        fits = fits_more block js h.fits ∙ sym all;
        few = omega (arith, all, fronts.few block js h.few);
        whole = whole;
        limit = omega (arith, all, limit, fitting_within block js, h.behind);
        undefined = λ none. ((h.undefined none).0, ap (λ (xs : List Judged). xs ++ take k js) (h.undefined none).1 ∙ ap (take k) (nil none) ∙ take_none k);
        within = subst (λ n. AreWithin c.base.position n after) (omega (arith, all, size)) within;
      }
