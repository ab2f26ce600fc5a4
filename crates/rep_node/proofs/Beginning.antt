-- A node at its start: what a quiet replica was taken apart into may lie at home in the three stations.
use Rattle.std.proofs.Common.{◌≡◌, ℕ, zero, suc, ◌+◌, ◌-◌, ◌<◌, ◌≤◌, ◌||◌, Bool, false, Some, None, List, [], ◌∷◌, ◌++◌, length, ap, sym, refl, ◌∙◌, subst, arith}
use Rattle.std.specs.Prelude.{All, IsFalse, is_some, slice_get}
use Rattle.std.proofs.lemmas.Option.{same_Some}
use Rattle.uuid.specs.Parts.{is_nil_bytes}
use Rattle.rep_types.specs.declared.judged.Judged.{Judged}
use Rattle.rep_types.specs.declared.limits.TheConstants.{MAX_SEQNO}
use Rattle.rep_types.specs.Settings.{Setting}
use Rattle.rep_types.proofs.Choices.{neither_some}
use Rattle.rep_disk.specs.declared.disk.Disk.{Ghosts}
use Rattle.rep_cert.specs.Holdings.{Holdings}
use Rattle.rep_engine.specs.Engines.{Engine, durable_of, facts_of}
use Rattle.rep_engine.specs.Checking.{HoldsWindows}
use Rattle.rep_replica.specs.Replicas.{Replica, IsReplica}
use Rattle.rep_replica.specs.Settling.{IsRunning}
use Rattle.rep_stations.specs.Judging.{HasJudged}
use Rattle.rep_stations.specs.Taking.{HasTaken}
use Rattle.rep_stations.specs.Waiting.{HistoriesGoOn, Waits}
use Rattle.rep_stations.specs.Ending.{Begins as PartsBegin}
use Rattle.rep_snap.specs.Lists.{oldest_of, published}
use Rattle.rep_snap.specs.Views.{Watching}
use Rattle.rep_ordered.specs.Views.{names, opened}
use Rattle.rep_ordered.specs.Ends.{AllMeet, AllName}
use Rattle.rep_ordered.specs.Seats.{Place, seat_of}
use Rattle.atomic_table.specs.Seated.{TableId}
use Rattle.rep_node.specs.declared.home.Home.{Home}
use Rattle.rep_node.specs.declared.origin.Origin.{Origin}
use Rattle.rep_node.specs.Homes.{Start, Begins, CertifierAt, DeskAt, QueueAt, AtHome, IsLegal, position_of, values_of, durable_in, common_in}
use Rattle.rep_node.specs.Reading.{AreParams}
use Rattle.rep_node.proofs.Standing.{of_the_start}
use Rattle.rep_node.specs.Seats.{Rests}

module _ {D : Type 0} (g : Ghosts D) where
  pub is_running : (r : Replica D) (stopped : Bool) → stopped ≡ (r.stopped || is_some r.engine.halted) → stopped ≡ false → IsRunning r
  is_running r stopped is running = let both = neither_some r.stopped r.engine.halted (sym is ∙ running) in record { inside = both.0; device = both.1 }

  -- ---- a replica that is put together from the same parts

  pub again : (r : Replica D) (c : Holdings) (backlog : List Judged) (e : Engine D) → c ≡ r.certifier → backlog ≡ r.backlog → e ≡ r.engine → r.stopped ≡ false → IsReplica (facts_of g r.engine) r.backlog r.certifier.current r.stopped → IsReplica (facts_of g e) backlog c.current false
  again r c backlog e same_certifier same_backlog same_engine running is =
      subst (λ (z : Holdings × List Judged × Engine D × Bool). IsReplica (facts_of g z.2) z.1 z.0.current z.3) (λ i. (sym same_certifier i, sym same_backlog i, sym same_engine i, running i)) is

  pub same_replica : (r new : Replica D) (c : Holdings) (backlog : List Judged) (e : Engine D) → new ≡ record { engine = e; backlog = backlog; certifier = c; stopped = false } → c ≡ r.certifier → backlog ≡ r.backlog → e ≡ r.engine → r.stopped ≡ false → new ≡ r
  same_replica r new c backlog e is same_certifier same_backlog same_engine running = is ∙ (λ i. record { engine = same_engine i; backlog = same_backlog i; certifier = same_certifier i; stopped = sym running i })

  -- ---- what the node is started with

  pub begins : (r : Replica D) (s : Start D) (position : ℕ) → PartsBegin g r → r.engine.halted ≡ None → IsFalse (is_nil_bytes r.engine.checkpoint.base.uuid)
      → s.certifier ≡ r.certifier → s.queue.backlog ≡ r.backlog → s.desk.engine ≡ r.engine → position ≡ durable_of s.desk.engine.log
      → s.desk.publisher.basis.certifier.log ≡ s.certifier ∷ [] → s.desk.publisher.start ≡ position → s.desk.publisher.list ≡ [] → s.desk.waiting ≡ [] → s.queue.accepted ≡ position → Begins g s
  begins r s position parts works defined same_certifier same_backlog same_engine at_durable origin start list waiting accepted =
      let durable : durable_of s.desk.engine.log ≡ durable_of r.engine.log = ap (λ (e : Engine D). durable_of e.log) same_engine in
      let delivered : position_of s ≡ r.certifier.current.delivered = ap (λ (c : Holdings). c.current.delivered) same_certifier in let parts_at = parts.at in
      let at : position_of s ≡ durable_of s.desk.engine.log = delivered ∙ (parts.at ∙ sym durable) in let at_position : position ≡ position_of s = at_durable ∙ sym at in record {
        judged = subst (λ (c : Holdings). HasJudged c.current [] c.current) (sym same_certifier) parts.judged;
        windows = subst (λ (c : Holdings). HoldsWindows c.current) (sym same_certifier) parts.windows;
        taken = subst (λ (z : Engine D × Holdings). HasTaken g z.0 z.1.current [] z.0) (λ i. (sym same_engine i, sym same_certifier i)) parts.taken;
        at = at;
        works = ap (λ (e : Engine D). e.halted) same_engine ∙ works;
        defined = subst (λ (e : Engine D). IsFalse (is_nil_bytes e.checkpoint.base.uuid)) (sym same_engine) defined;
        origin = origin;
        start = start ∙ at_position;
        list = list;
        waiting = waiting;
        backlog = same_backlog ∙ parts.waits;
        accepted = accepted ∙ at_position;
      }

  -- the engine's block is empty, so engine and queue name the position
  common_begins : (s : Start D) → Begins g s → durable_of s.desk.engine.log + length s.desk.engine.block ≡ position_of s
  common_begins s b = let count = b.taken.count in omega arith

  pub all_name : (s : Start D) (values : List (Home D)) → Begins g s → values ≡ values_of s → AllName common_in values
  all_name s values b is = subst (λ (vs : List (Home D)). AllName common_in vs) (sym is) (position_of s, name)
    where
      name : (j : ℕ) (x : Home D) → slice_get (values_of s) j ≡ Some x → 0 < names j → common_in x ≡ position_of s
      name zero x found some = absurd (omega arith)
      name (suc zero) x found some = subst (λ (h : Home D). common_in h ≡ position_of s) (same_Some _ _ found) (common_begins s b)
      name (suc (suc zero)) x found some = subst (λ (h : Home D). common_in h ≡ position_of s) (same_Some _ _ found) b.accepted
      name (suc (suc (suc j))) x found some = absurd (let never : None ≡ Some x = found in cc)

  certifier_begins : (s : Start D) (position : ℕ) → Begins g s → position ≡ position_of s → CertifierAt s (position + 1) [] position s.certifier.current
  certifier_begins s position b at = record { front = []; below = record { begins = ([], refl); long = omega arith }; room = omega arith; judged = b.judged }

  desk_begins : (s : Start D) → Begins g s → DeskAt g s 0 [] s.desk
  desk_begins s b = record {
    front = [];
    begins = ([], refl);
    taken = b.taken;
    publisher = (refl, refl, refl);
    works = λ _. b.works;
    ahead = let none : length (published s.desk.publisher.list) ≡ 0 = ap (λ l. length (published l)) b.list in let at = b.at in omega arith;
    fronts = ([], sym (λ i. published (b.list i) ++ []));
    shown = λ _. record {
      shown_or_waits = (λ i. published (b.list i) ++ b.waiting i);
      durable = let none : length (published s.desk.publisher.list) ≡ 0 = ap (λ l. length (published l)) b.list in let at = b.at in omega arith;
      oldest = let none : oldest_of s.desk.publisher.start s.desk.publisher.list ≡ s.desk.publisher.start = ap (oldest_of s.desk.publisher.start) b.list in let start = b.start in omega (arith, none, start);
    };
  }

  queue_begins : HistoriesGoOn → (s : Start D) (position : ℕ) → Begins g s → position ≡ position_of s → QueueAt s (position + 1) [] s.queue
  queue_begins laws s position b at = record {
    front = [];
    below = record { begins = ([], refl); long = omega arith };
    waits = subst (λ (z : ℕ × List Judged). Waits s.certifier.current [] z.0 z.1) (λ i. (sym b.accepted i, sym b.backlog i)) (laws.nothing_waits s.certifier.current);
  }

  abbrev Meet : ℕ → List (Home D) → Type 0
  Meet position values = AllMeet (IsLegal values) (AtHome g values) durable_in common_in (position + 1) position values

  pub all_meet : HistoriesGoOn → (s : Start D) (position : ℕ) (values : List (Home D)) → Begins g s → position ≡ position_of s → values ≡ values_of s → Meet position values
  all_meet laws s position values b at is = subst (Meet position) (sym is) meet
    where
      Lies : ℕ → Home D → Type 0
      Lies j h = AtHome g (values_of s) j (position + 1) 0 [] position h × (j ≡ 1 → position ≤ durable_in h)

      meet : (j : ℕ) (x : Home D) → slice_get (values_of s) j ≡ Some x → Lies j x
      meet zero x found = subst (Lies 0) (same_Some _ _ found) (
        (refl, of_the_start (λ (t : Start D). CertifierAt t (position + 1) [] position s.certifier.current) (values_of s) s refl (certifier_begins s position b at)),
        λ (one : ◌≡◌ {A = ℕ} 0 1). absurd (omega arith),
      )
      meet (suc zero) x found = subst (Lies 1) (same_Some _ _ found) (
        (refl, of_the_start (λ (t : Start D). DeskAt g t 0 [] s.desk) (values_of s) s refl (desk_begins s b)),
        λ (_ : ◌≡◌ {A = ℕ} 1 1). let durable = b.at in omega arith,
      )
      meet (suc (suc zero)) x found = subst (Lies 2) (same_Some _ _ found) (
        (refl, of_the_start (λ (t : Start D). QueueAt t (position + 1) [] s.queue) (values_of s) s refl (queue_begins laws s position b at)),
        λ (one : ◌≡◌ {A = ℕ} 2 1). absurd (omega arith),
      )
      meet (suc (suc (suc j))) x found = absurd (let never : None ≡ Some x = found in cc)

  -- ---- the first seat

  pub first_seat : (s : Start D) (position : ℕ) (values : List (Home D)) (lock : TableId) (seat : Place (Home D) Judged) → Begins g s → position ≡ position_of s → position ≤ MAX_SEQNO → values ≡ values_of s
      → seat ≡ seat_of lock (opened durable_in common_in (position + 1) (MAX_SEQNO - position) values position) → Rests g seat.view (MAX_SEQNO - position)
  first_seat s position values lock seat b at limit is opens = subst (λ (z : Place (Home D) Judged). Rests g z.view (MAX_SEQNO - position)) (sym opens) record {
    seat = record { start = s; first = is; begins = b; number = omega arith; whole = omega arith; once = λ x. omega arith };
    free = refl;
    less = omega arith;
    left = λ _. refl;
    sees = record { legal = λ t at. record { legal = tt; placed = tt }; placed = record { entries = tt; others = λ x drawn none_joined. absurd (omega arith) } };
    passed = λ running x drawn. absurd (omega arith);
  }

-- ---- the readers

abbrev head_or : Holdings → List Holdings → Holdings
head_or d [] = d
head_or d (c ∷ cs) = c

-- The parameters are those of the certifier that each reader's lists go on from.
pub readers_own : (p : Setting) (certifier : Holdings) (w : Watching Origin) (readers : List (Watching Origin)) → p ≡ certifier.current.setting → w.basis.certifier.log ≡ certifier ∷ [] → All (λ (r : Watching Origin). r ≡ w) readers
    → All (λ (r : Watching Origin). AreParams p r.basis.certifier.log) readers
readers_own p certifier w readers setting log all = λ k d within. subst (λ (r : Watching Origin). AreParams p r.basis.certifier.log) (sym (all k d within)) (λ c is. setting ∙ ap (λ (h : Holdings). h.current.setting) (ap (head_or certifier) (sym log ∙ is)))
