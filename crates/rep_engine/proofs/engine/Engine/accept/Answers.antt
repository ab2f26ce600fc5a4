use Rattle.std.proofs.Common.{◌≡◌, ◌∙◌, ◌+◌, ◌<◌, List, [], ◌++◌, append-nil, map, length, length-append, take, Result, Ok, Err, refl, sym, ap, subst, arith, OnErr, inl}
use Rattle.std.proofs.lemmas.List.{map-append, length-take-le}
use Rattle.rep_types.specs.declared.judged.Judged.{Judged}
use Rattle.rep_types.specs.declared.reply.Reply.{Reply}
use Rattle.rep_types.specs.declared.refusal.Refusal.{Refusal}
use Rattle.rep_types.specs.Replies.{reply_of}
use Rattle.rep_record.specs.Blocks.{SeqnosFrom}
use Rattle.rep_record.specs.Fronts.{fitting}
use Rattle.rep_cells.specs.Device.{disk_of, layout_of}
use Rattle.rep_versions.specs.Versions.{Kept}
use Rattle.rep_engine.specs.Engines.{Engine, IsEngine, IsWhole, durable_of, facts_of}
use Rattle.rep_engine.specs.Accepting.{ComeNext, AddsItems, accepted_in}
use Rattle.rep_engine.specs.Holding.{Holds}
use Rattle.rep_engine.proofs.Accepting.{engine_accepted, fitting_within}
use Rattle.rep_engine.proofs.Accepts.{accepted_some, gathers_whole, accepted_few, length-replies, holds_more}
use Rattle.rep_engine.proofs.Refusing.{passed_on}
use Rattle.rep_engine.proofs.engine.Engine.accept.Goals as goal

-- ---- where a growth was refused

same_versions : (g : _) (c : goal.After-from_residual-in_err-add_front g) → c.add_front.new.versions ≡ c.self.inside.versions
same_versions g c =
    let h = c.self.invariant.0 in
    let come = subst (λ (e : Engine g.row.D.Denot). ComeNext (facts_of g.D.Disk e) c.args.backlog.now) (sym c.self.view_is) c.requires in
    let above = h.behind in
    c.in_err-add_front.ensures.unchanged c.self.inside.checkpoint.base.position (durable_of c.self.inside.log + length c.self.inside.block) (omega (arith, above)) come.follow h.within

pub invariant_of-self : goal.invariant_of-self
invariant_of-self g c =
    (subst (λ (kept : Kept). IsEngine (layout_of c.self.inside.cells) c.self.inside.checkpoint c.self.inside.log kept c.self.inside.block) (sym (same_versions g c)) c.self.invariant.0, c.in_err-add_front.ensures.none ∙ c.self.invariant.1, c.self.invariant.2)

on_err : {T : Type 0} (result : Result T Refusal) (P : Type 0) → P → OnErr result P
on_err (Ok x) P p = tt
on_err (Err e) P p = p

pub returns-in_err-add_front-clause-unchanged : goal.returns-in_err-add_front-clause-unchanged
returns-in_err-add_front-clause-unchanged g c =
    on_err c.from_residual-in_err-add_front.result _ (
      subst (λ (kept : Kept). (record { disk = disk_of c.self.inside.cells; layout = layout_of c.self.inside.cells; checkpoint = c.self.inside.checkpoint; log = c.self.inside.log; kept = kept; block = c.self.inside.block; halted = c.self.inside.halted }) ≡ c.args.self.now)
          (sym (same_versions g c)) c.self.view_is,
      refl,
    )

-- ---- room for the replies

pub add_front-requires-clause-room : goal.add_front-requires-clause-room
add_front-requires-clause-room g c =
    let size = ap length c.self.invariant.1 ∙ length-replies c.self.inside.block in
    let count = c.next_items-count.ensures.count ∙ ap (λ (e : Engine g.row.D.Denot). accepted_in e.log.phase e.block c.args.backlog.now) (sym c.self.view_is) in
    let few = accepted_few c.fronts_are_determined.ensures c.self.inside.log.phase c.self.inside.block c.args.backlog.now c.self.invariant.0.few in
    omega (arith, size, count, few)

-- ---- where some came

taken : (g : _) (c : goal.After-move_items g) → c.move_items.new.block ≡ c.self.inside.block ++ take (fitting c.self.inside.block c.args.backlog.now) c.args.backlog.now
taken g c = c.move_items.ensures.gathered

some_come : (g : _) (c : goal.After-move_items g) → 0 < accepted_in c.args.self.now.log.phase c.args.self.now.block c.args.backlog.now
some_come g c = let some = c.if-count-gt0.true in let count = c.next_items-count.ensures.count in omega (arith, some, count)

count_is : (g : _) (c : goal.After-move_items g) → c.next_items-count.result ≡ fitting c.self.inside.block c.args.backlog.now
count_is g c =
    c.next_items-count.ensures.count ∙ accepted_some c.args.self.now.log.phase c.args.self.now.block c.args.backlog.now (some_come g c)
    ∙ ap (λ (e : Engine g.row.D.Denot). fitting e.block c.args.backlog.now) (sym c.self.view_is)

engine_then : (g : _) (c : goal.After-move_items g) → IsEngine (layout_of c.self.inside.cells) c.self.inside.checkpoint c.self.inside.log c.add_front.new.versions c.move_items.new.block
engine_then g c =
    let h = c.self.invariant.0 in
    let js = c.args.backlog.now in
    let block = c.self.inside.block in
    let come = subst (λ (e : Engine g.row.D.Denot). ComeNext (facts_of g.D.Disk e) js) (sym c.self.view_is) c.requires in
    let above = h.behind in
    let follow : SeqnosFrom (c.self.inside.log.seqno + length block) js = subst (λ n. SeqnosFrom n js) (omega (arith, above)) come.follow in
    let size : length (take (fitting block js) js) ≡ fitting block js = length-take-le (fitting block js) js (fitting_within block js) in
    let any : 0 < length (block ++ take (fitting block js) js) = omega (arith, length-append block (take (fitting block js) js), size, sym (count_is g c), c.if-count-gt0.true) in
    let whole : IsWhole c.self.inside.log.phase (block ++ take (fitting block js) js) =
    subst (λ (e : Engine g.row.D.Denot). IsWhole e.log.phase (block ++ take (fitting block js) js)) (sym c.self.view_is)
    (gathers_whole c.args.self.now.log.phase c.args.self.now.block js (block ++ take (fitting block js) js) (some_come g c) any) in
    let adds : AddsItems (take (fitting block js) js) c.self.inside.versions c.add_front.new.versions =
    subst (λ k. AddsItems (take k js) c.self.inside.versions c.add_front.new.versions) (count_is g c) c.in_ok-add_front.ensures.added in
    subst (λ (b : List Judged). IsEngine (layout_of c.self.inside.cells) c.self.inside.checkpoint c.self.inside.log c.add_front.new.versions b) (sym (taken g c))
    (engine_accepted (layout_of c.self.inside.cells) c.self.inside.checkpoint c.self.inside.log c.self.inside.versions c.add_front.new.versions block js h c.fronts_are_determined.ensures follow come.limit come.undefined whole adds)

-- the block has what the count says
block_then : (g : _) (c : goal.After-move_items g) → c.move_items.new.block ≡ c.self.inside.block ++ take c.next_items-count.result c.args.backlog.now
block_then g c = taken g c ∙ ap (λ k. c.self.inside.block ++ take k c.args.backlog.now) (sym (count_is g c))

pub invariant_of-self-then-count-gt0 : goal.invariant_of-self-then-count-gt0
invariant_of-self-then-count-gt0 g c = (
  engine_then g c,
  c.in_ok-add_front.ensures.replies ∙ ap (λ (rs : List Reply). rs ++ map reply_of (take c.next_items-count.result c.args.backlog.now)) c.self.invariant.1
      ∙ sym (ap (map reply_of) (block_then g c) ∙ map-append reply_of c.self.inside.block (take c.next_items-count.result c.args.backlog.now)),
  c.self.invariant.2,
)

pub returns-then-count-gt0-clause-holds : goal.returns-then-count-gt0-clause-holds
returns-then-count-gt0-clause-holds g c = λ n holds judged.
    holds_more g.D.Disk c.versions_follow_the_items.ensures c.the_log_is_apart.ensures _ _ (take c.next_items-count.result c.args.backlog.now) (engine_then g c) refl refl refl refl refl (block_then g c) c.in_ok-add_front.ensures.added n
    (subst (λ (e : Engine g.row.D.Denot). Holds g.D.Disk n e) (sym c.self.view_is) holds) judged

-- ---- where none came

none_come : (g : _) (c : goal.Else-count-gt0 g) → take c.next_items-count.result c.args.backlog.now ≡ []
none_come g c = let none = c.if-count-gt0.false in let zero : c.next_items-count.result ≡ 0 = omega (arith, none) in ap (λ k. take k c.args.backlog.now) zero

engine_else : (g : _) (c : goal.Else-count-gt0 g) → IsEngine (layout_of c.self.inside.cells) c.self.inside.checkpoint c.self.inside.log c.add_front.new.versions c.self.inside.block
engine_else g c =
    let same : c.add_front.new.versions ≡ c.self.inside.versions = subst (λ (js : List Judged). AddsItems js c.self.inside.versions c.add_front.new.versions) (none_come g c) c.in_ok-add_front.ensures.added in
    subst (λ (kept : Kept). IsEngine (layout_of c.self.inside.cells) c.self.inside.checkpoint c.self.inside.log kept c.self.inside.block) (sym same) c.self.invariant.0

pub returns-else-count-gt0-clause-holds : goal.returns-else-count-gt0-clause-holds
returns-else-count-gt0-clause-holds g c = λ n holds judged.
    holds_more g.D.Disk c.versions_follow_the_items.ensures c.the_log_is_apart.ensures _ _ (take c.next_items-count.result c.args.backlog.now) (engine_else g c) refl refl refl refl refl
    (sym (ap (λ (js : List Judged). c.self.inside.block ++ js) (none_come g c) ∙ append-nil c.self.inside.block)) c.in_ok-add_front.ensures.added n
    (subst (λ (e : Engine g.row.D.Denot). Holds g.D.Disk n e) (sym c.self.view_is) holds) judged

-- ---- where the device has failed before

pub returns-in_err-running : goal.returns-in_err-running
returns-in_err-running g c =
    rw (passed_on c.from_residual.result c.in_err-running.field-0.0 c.from_residual.ensures.1 c.in_err-running.ensures.stopped.0) (record { count = tt; facts = tt; backlog = tt; rest = refl; block = tt; versions = tt; running = tt; refused = inl (refl, c.in_err-running.ensures.stopped.1); unchanged = (refl, refl); holds = tt })
