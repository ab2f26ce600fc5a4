-- An engine that stands for a node, with more items.
use Rattle.std.proofs.Common.{◌≡◌, ℕ, ◌+◌, ◌-◌, ◌<◌, ◌≤◌, List, [], ◌∷◌, ◌++◌, append_assoc, append-nil, length, length-append, length-drop, take, drop, map, refl, sym, ap, subst, ◌∙◌, arith, true}
use Rattle.std.specs.Prelude.{IsTrue}
use Rattle.std.proofs.lemmas.List.{take-append-le, drop-append-le}
use Rattle.uuid.specs.Parts.{is_nil_bytes}
use Rattle.rep_types.specs.declared.judged.Judged.{Judged}
use Rattle.rep_types.specs.declared.value.Write.{Write}
use Rattle.rep_types.specs.Settings.{Setting}
use Rattle.rep_types.specs.Order.{State}
use Rattle.rep_record.specs.Blocks.{SeqnosFrom}
use Rattle.rep_disk.specs.declared.disk.Disk.{Ghosts}
use Rattle.rep_disk.specs.History.{stable, IsImage}
use Rattle.rep_layout.specs.declared.place.Layout.{Layout}
use Rattle.rep_cells.specs.Known.{Assigns}
use Rattle.rep_versions.specs.Versions.{Kept, IsAdded}
use Rattle.rep_versions.specs.Following.{AreVersionsOf, VersionsFollowTheItems, effect_of}
use Rattle.rep_types.specs.Order.{counts}
use Rattle.rep_log.specs.declared.phase.Phase.{Phase}
use Rattle.rep_log.specs.declared.phase.Phase.TheVariants.{Resting, Closing, Filling, Filled, Opening}
use Rattle.rep_log.specs.Standing.{Standing as Log, stands_at}
use Rattle.rep_record.specs.Fronts.{fitting, FrontsAreDetermined}
use Rattle.rep_record.specs.declared.limits.TheConstants.{MAX_RECORDS}
use Rattle.rep_types.specs.Replies.{reply_of}
use Rattle.rep_steps.specs.Standings.{Standing, IsStanding, underway}
use Rattle.rep_steps.specs.Nodes.{Node, IsNode, advanced, reached}
use Rattle.rep_steps.specs.Images.{IsFrontAt, AreJudgedFrom}
use Rattle.rep_checkpoint.specs.Meanings.{Means}
use Rattle.rep_checkpoint.specs.Standing.{Standing as Checkpoint}
use Rattle.rep_checkpoint.specs.Laws.{TheLogIsApart}
use Rattle.rep_checkpoint.specs.Nodes.{StandsAs}
use Rattle.rep_engine.proofs.Standing.{stands_on}
use Rattle.rep_engine.specs.Engines.{Engine, IsEngine, IsWhole, facts_of, durable_of}
use Rattle.rep_engine.specs.Accepting.{AddsItems, accepted_in, is_gathering}
use Rattle.rep_engine.specs.Holding.{Stands, Holds, with_items}
use Rattle.rep_engine.proofs.Accepting.{added_at}

-- ---- how many come

pub accepted_some : (phase : Phase) (block js : List Judged) → 0 < accepted_in phase block js → accepted_in phase block js ≡ fitting block js
accepted_some Resting block js some = refl
accepted_some Closing block js some = refl
accepted_some (Filling n) block js some = absurd (omega (arith, some))
accepted_some (Filled n) block js some = absurd (omega (arith, some))
accepted_some (Opening n) block js some = absurd (omega (arith, some))

-- and where some come, no block is on its way yet
pub gathers_whole : (phase : Phase) (block js more : List Judged) → 0 < accepted_in phase block js → 0 < length more → IsWhole phase more
gathers_whole Resting block js more some any = tt
gathers_whole Closing block js more some any = any
gathers_whole (Filling n) block js more some any = absurd (omega (arith, some))
gathers_whole (Filled n) block js more some any = absurd (omega (arith, some))
gathers_whole (Opening n) block js more some any = absurd (omega (arith, some))

pub gathering_some : (phase : Phase) (block js : List Judged) → 0 < accepted_in phase block js → is_gathering phase ≡ true
gathering_some Resting block js some = refl
gathering_some Closing block js some = refl
gathering_some (Filling n) block js some = absurd (omega (arith, some))
gathering_some (Filled n) block js some = absurd (omega (arith, some))
gathering_some (Opening n) block js some = absurd (omega (arith, some))

-- what was gathered and what comes is no more than a block has
pub accepted_few : FrontsAreDetermined → (phase : Phase) (block js : List Judged) → length block ≤ MAX_RECORDS → length block + accepted_in phase block js ≤ MAX_RECORDS
accepted_few fronts Resting block js few = fronts.few block js few
accepted_few fronts Closing block js few = fronts.few block js few
accepted_few fronts (Filling n) block js few = omega (arith, few)
accepted_few fronts (Filled n) block js few = omega (arith, few)
accepted_few fronts (Opening n) block js few = omega (arith, few)

pub length-replies : (js : List Judged) → length (map reply_of js) ≡ length js
length-replies [] = refl
length-replies (j ∷ js) = let rest = length-replies js in omega (arith, rest)

-- ---- lists of items

seqnos_behind : (n : ℕ) (xs ys : List Judged) → SeqnosFrom n (xs ++ ys) → SeqnosFrom (n + length xs) ys
seqnos_behind n [] ys h = subst (λ m. SeqnosFrom m ys) (omega arith) h
seqnos_behind n (x ∷ xs) ys h = subst (λ m. SeqnosFrom m ys) (omega arith) (seqnos_behind (n + 1) xs ys h.1)

judged_append : (p : Setting) (S : State) (xs ys : List Judged) → AreJudgedFrom p S xs → AreJudgedFrom p (reached p S xs) ys → AreJudgedFrom p S (xs ++ ys)
judged_append p S [] ys h k = k
judged_append p S (x ∷ xs) ys h k = (h.0, h.1, judged_append p (advanced p S x) xs ys h.2 k)

effects_append : (xs ys : List Judged) → map effect_of (xs ++ ys) ≡ map effect_of xs ++ map effect_of ys
effects_append [] ys = refl
effects_append (x ∷ xs) ys = ap (λ rest. effect_of x ∷ rest) (effects_append xs ys)

versions_more : VersionsFollowTheItems → (base : ℕ) (changes : List (List Write)) (js : List Judged) (before after : Kept) → AreVersionsOf base changes before → SeqnosFrom (base + length changes + 1) js → AddsItems js before after
    → AreVersionsOf base (changes ++ map effect_of js) after
versions_more law base changes [] before after are follow same = subst (AreVersionsOf base (changes ++ [])) (sym same) (subst (λ (c : List (List Write)). AreVersionsOf base c before) (sym (append-nil changes)) are)
versions_more law base changes (j ∷ js) before after are follow adds =
    let one : IsAdded (base + length changes + 1) (effect_of j) before adds.0 = subst (λ n. IsAdded n (effect_of j) before adds.0) follow.0 (added_at (counts j) j before adds.0 refl adds.1) in
    let mid = law.added base changes (effect_of j) before adds.0 are one in
    let rest = versions_more law base (changes ++ effect_of j ∷ []) js adds.0 after mid (subst (λ n. SeqnosFrom n js) (omega (arith, length-append changes (effect_of j ∷ []))) follow.1) adds.2 in
    subst (λ (c : List (List Write)). AreVersionsOf base c after) (append_assoc changes (effect_of j ∷ []) (map effect_of js)) rest

pub length-effects : (js : List Judged) → length (map effect_of js) ≡ length js
length-effects [] = refl
length-effects (j ∷ js) = let rest = length-effects js in omega (arith, rest)

-- ---- a front of a node is one of the node with more items

pub longer_front : (n : Node) (js : List Judged) (image : List ℕ) → IsFrontAt Means n image → IsFrontAt Means (with_items js n) image
longer_front n js image f =
    let past = f.front.past in
    let inside : past ≤ length n.items = omega (arith, f.front.order, f.front.within) in
    let left : length (drop past n.items) ≡ length n.items - past = length-drop past n.items in
    let most : f.end - (n.base.position + past) ≤ length (drop past n.items) = omega (arith, left, f.front.within, f.front.order) in
    record {
      meaning = f.meaning;
      reads = f.reads;
      end = f.end;
      least = f.least;
      front = record {
        uuid_is = f.front.uuid_is;
        setting_is = f.front.setting_is;
        past = past;
        order = f.front.order;
        within = omega (arith, f.front.within, length-append n.items js);
        base_is = f.front.base_is ∙ ap (reached n.facts.setting n.base) (sym (take-append-le past n.items js inside));
        tail_is =
            f.front.tail_is ∙ sym (take-append-le (f.end - (n.base.position + past)) (drop past n.items) js most)
            ∙ ap (take (f.end - (n.base.position + past))) (sym (drop-append-le past n.items js inside));
      };
    }

-- ---- the engine with more items

module _ {D : Type 0} (g : Ghosts D) (law : VersionsFollowTheItems) (apart : TheLogIsApart) (old new : Engine D) (js : List Judged)
    (engine : IsEngine new.layout new.checkpoint new.log new.kept new.block) (disk : new.disk ≡ old.disk) (layout : new.layout ≡ old.layout) (same_checkpoint : new.checkpoint ≡ old.checkpoint)
    (log : new.log ≡ old.log) (halted : new.halted ≡ old.halted) (block : new.block ≡ old.block ++ js) (adds : AddsItems js old.kept new.kept)
    (n : Node) (holds : Holds g n old) (judged : AreJudgedFrom n.facts.setting (reached n.facts.setting n.base n.items) js) where
  more : n.facts.ahead ++ js ≡ new.block
  more = ap (λ (s : Standing). s.ahead ++ js) holds.facts ∙ sym block

  durable_is : n.facts.durable ≡ durable_of new.log
  durable_is = ap (λ (s : Standing). s.durable) holds.facts ∙ ap durable_of (sym log)

  facts_more : (with_items js n).facts ≡ facts_of g new
  facts_more = ap (λ (s : Standing). record s { ahead = s.ahead ++ js }) holds.facts ∙ sym (rw block (rw disk (rw same_checkpoint ((rw log (rw halted refl))))))

  is_standing : IsStanding (with_items js n).facts
  is_standing =
      let h = holds.node.facts in
      let size : length (n.facts.ahead ++ js) ≡ length new.block = ap length more in
      record {
        allowed = h.allowed;
        undefined = λ nil.
            let none = engine.undefined (subst (λ (u : List ℕ). IsTrue (is_nil_bytes u)) (ap (λ (s : Standing). s.uuid) holds.facts ∙ ap (λ (c : Checkpoint). c.base.uuid) (sym same_checkpoint)) nil) in
            ((h.undefined nil).0, more ∙ none.1);
        based = h.based;
        near = omega (arith, size, engine.few);
        limit = omega (arith, size, durable_is, engine.limit, engine.behind);
        block = omega (arith, h.block, length-append n.facts.ahead js);
        few = h.few;
        started = h.started;
        room = h.room;
        goal = h.goal;
      }

  past_inside : n.facts.durable - n.facts.base ≤ length n.items
  past_inside = omega (arith, holds.node.enough)

  is_node : IsNode (with_items js n)
  is_node = record {
    facts = is_standing;
    position = holds.node.position;
    enough = omega (arith, holds.node.enough, length-append n.items js);
    ahead = ap (λ (xs : List Judged). xs ++ js) holds.node.ahead ∙ sym (drop-append-le (n.facts.durable - n.facts.base) n.items js past_inside);
  }

  items_count : n.base.position + length n.items + 1 ≡ old.log.seqno + length old.block
  items_count =
      let ahead : length n.facts.ahead ≡ length old.block = ap (λ (s : Standing). length s.ahead) holds.facts in
      let rest : length n.facts.ahead ≡ length n.items - (n.facts.durable - n.facts.base) = ap length holds.node.ahead ∙ length-drop (n.facts.durable - n.facts.base) n.items in
      let seqno : new.log.seqno ≡ old.log.seqno = ap (λ (k : Log). k.seqno) log in
      omega (arith, ahead, rest, durable_is, seqno, holds.node.enough, holds.node.position, holds.node.facts.based, engine.behind)

  stands_more : Stands g n old → Stands g (with_items js n) new
  stands_more there = record {
    states = there.states;
    assigns = subst (λ (l : Layout). Assigns l (g.history new.disk) there.states) (sym layout) (subst (λ d. Assigns old.layout (g.history d) there.states) (sym disk) there.assigns);
    blocks = there.blocks;
    sealed = there.sealed;
    stands =
        let h = there.stands in
        let more : StandsAs (with_items js n) (length (stable (g.history old.disk))) old.checkpoint old.log there.blocks there.sealed there.states =
        stands_on apart n (with_items js n) (length (stable (g.history old.disk))) old.checkpoint old.log old.log there.blocks there.sealed there.sealed there.states there.states holds.node
        (record { uuid = refl; setting = refl; durable = refl; at = refl; base = refl; more = js; items = refl }) refl (λ place other. refl) h.log_is h.phase
        (h.coming ∙ sym (take-append-le (underway n.facts.phase) n.facts.ahead js holds.node.facts.block)) (judged_append n.facts.setting n.base n.items js h.judged judged) h.undefined h in
        subst (λ d. StandsAs (with_items js n) (length (stable (g.history d))) new.checkpoint new.log there.blocks there.sealed there.states) (sym disk)
        (subst (λ (c : Checkpoint). StandsAs (with_items js n) (length (stable (g.history old.disk))) c new.log there.blocks there.sealed there.states) (sym same_checkpoint)
        (subst (λ (k : Log). StandsAs (with_items js n) (length (stable (g.history old.disk))) old.checkpoint k there.blocks there.sealed there.states) (sym log) more));
    versions =
        let follow : SeqnosFrom (old.log.seqno + length old.block) js =
        seqnos_behind old.log.seqno old.block js (subst (λ (xs : List Judged). SeqnosFrom old.log.seqno xs) block (subst (λ (k : Log). SeqnosFrom k.seqno new.block) log engine.follow)) in
        let count : old.log.seqno + length old.block ≡ n.base.position + length (map effect_of n.items) + 1 = omega (arith, items_count, length-effects n.items) in
        subst (λ (c : List (List Write)). AreVersionsOf n.base.position c new.kept) (sym (effects_append n.items js))
        (versions_more law n.base.position (map effect_of n.items) js old.kept new.kept there.versions (subst (λ m. SeqnosFrom m js) count follow) adds);
    gates = λ i. there.gates i ∙ ap (λ (k : Log). stands_at k i) (sym log);
  }

  pub holds_more : Holds g (with_items js n) new
  holds_more = record {
    is_honest = subst g.honest (sym disk) holds.is_honest;
    facts = facts_more;
    node = is_node;
    runs = λ on. stands_more (holds.runs (sym halted ∙ on));
    images = λ image here. longer_front n js image (holds.images image (subst (λ d. IsImage (g.history d) image) disk here));
  }
