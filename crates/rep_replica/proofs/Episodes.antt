-- Lives of a replica to which snapshots come too follow the order.
use Rattle.std.proofs.Common.{◌≡◌, ◌⊎◌, inl, inr, ℕ, ◌+◌, ◌-◌, ◌≤◌, ◌<◌, true, List, [], ◌∷◌, ◌++◌, append_assoc, append-nil, length, length-append, map, take, drop, take-add, refl, sym, ap, subst, ◌∙◌, arith}
use Rattle.std.proofs.lemmas.List.{take-take, take_at, length-take-le, drop_all}
use Rattle.uuid.specs.Parts.{is_nil_bytes}
use Rattle.rep_types.specs.declared.reply.Reply.{Reply}
use Rattle.rep_types.specs.declared.judged.Judged.{Judged}
use Rattle.rep_types.specs.Settings.{Setting}
use Rattle.rep_types.specs.Replies.{reply_of}
use Rattle.rep_types.specs.Order.{Order, State, history as history_of, state}
use Rattle.rep_types.specs.ByItems.{HistoryByItems}
use Rattle.rep_disk.specs.declared.disk.Disk.{Ghosts}
use Rattle.rep_disk.specs.History.{IsImage}
use Rattle.rep_disk.specs.Moments.{moment, ImageSince, LeavesOnly}
use Rattle.rep_disk.specs.Laws.{MomentsOfCalls}
use Rattle.rep_disk.specs.Leaving.{leaves_none, leaves_weaker, leaves_then}
use Rattle.rep_layout.specs.Supers.{IsNil}
use Rattle.rep_steps.specs.declared.event.Event.{Event}
use Rattle.rep_steps.specs.declared.answer.Answer.{Answer}
use Rattle.rep_steps.specs.Standings.{Standing, delivered}
use Rattle.rep_steps.specs.Nodes.{Node, IsNode}
use Rattle.rep_steps.specs.Orders.{IsOf, NodesHoldTheOrder, StepsFollowTheOrder}
use Rattle.rep_steps.specs.Runs.{accepted_by, acknowledged, RunsComeTo, RunsAnswerTheOrder}
use Rattle.rep_steps.specs.Images.{StandsFor, IsFrontAt, IsFrontOf, FrontsStandForTheOrder}
use Rattle.rep_recover.specs.Meanings.{Means, ImagesMeanOneThing}
use Rattle.rep_steps.specs.FrontLaws.{front_longer, front_older}
use Rattle.rep_replica.specs.Replicas.{Replica, facts_of}
use Rattle.rep_replica.specs.Running.{Ran}
use Rattle.rep_replica.specs.Stopping.{StoppedReplicasHold}
use Rattle.rep_replica.specs.Lives.{AreRepliesOf, Follows, OpensOn}
use Rattle.rep_replica.specs.Episodes.{brought_by, MeansOneOf, CanCome, StandsAt, GaveUp, Brought, Episode, Runs, GivesUp, Brings, Breaks, AreEpisodes, AreWhole, Life, IsLife, Lives, IsSnapshotOf, reached_by, FedFrom, AreFed, IsOfCluster, IsFrontIn, IsAtFront, EpisodesFollow, replies_of, LifeFollows, LivesFollow, LivesWithSnapshotsFollowTheOrder}
use Rattle.rep_replica.proofs.Stopping.{front_of}
use Rattle.rep_replica.proofs.Lives.{replies_longer, replies_more, opened_on, ran_on}

-- ---- clusters

nil_bytes : (uuid : List ℕ) → IsNil uuid → is_nil_bytes uuid ≡ true
nil_bytes uuid nil = rw nil refl

-- it is of its own cluster, and of this or the one before
of_own : (before uuid own : List ℕ) (k : ℕ) → IsOfCluster before uuid own k → IsOfCluster own uuid own k
of_own before uuid own k (inl is) = inl is
of_own before uuid own k (inr (nil, same, none)) = inr (same ∙ nil, refl, none)

of_either : (before uuid own : List ℕ) (k : ℕ) → IsOfCluster before uuid own k → (own ≡ uuid) ⊎ (own ≡ before)
of_either before uuid own k (inl is) = inl is
of_either before uuid own k (inr (nil, same, none)) = inr same

by_none : (before uuid own : List ℕ) (k : ℕ) → (own ≡ uuid) ⊎ (IsNil before × (own ≡ before)) → (IsNil own → k ≡ 0) → IsOfCluster before uuid own k
by_none before uuid own k (inl is) none = inl is
by_none before uuid own k (inr (nil, same)) none = inr (nil, same, none (same ∙ nil))

-- ---- fronts

-- a front of at most so many items is one of at most more, with fewer first items
front_wider : (uuid : List ℕ) (p : Setting) (O : Order) (h j d c : ℕ) (image : List ℕ) → h ≤ j → c ≤ d → IsFrontOf Means uuid p (take h O) d image → IsFrontOf Means uuid p (take j O) c image
front_wider uuid p O h j d c image le least f =
    let all : h + (j - h) ≡ j = omega (arith, le) in
    let whole : take h O ++ take (j - h) (drop h O) ≡ take j O = sym (take-add h (j - h) O) ∙ ap (λ i. take i O) all in
    front_older Means uuid p (take j O) d c image least (subst (λ (M : Order). IsFrontOf Means uuid p M d image) whole (front_longer Means uuid p (take h O) (take (j - h) (drop h O)) d image f))

in_wider : (before own uuid : List ℕ) (p : Setting) (O : Order) (h j d c : ℕ) (image : List ℕ) → h ≤ j → c ≤ d → (own ≡ uuid) ⊎ (own ≡ before) → IsFrontIn own uuid p O h d image → IsFrontIn before uuid p O j c image
in_wider before own uuid p O h j d c image le least cluster (inl f) = inl (front_wider uuid p O h j d c image le least f)
in_wider before own uuid p O h j d c image le least (inl is) (inr (nil, f)) =
    inl (front_older Means uuid p (take j O) d c image least (subst (λ (u : List ℕ). IsFrontOf Means u p (take j O) d image) is (front_longer Means own p [] (take j O) d image f)))
in_wider before own uuid p O h j d c image le least (inr same) (inr (nil, f)) =
    inr (subst IsNil same nil, subst (λ (u : List ℕ). IsFrontOf Means u p [] c image) same (front_older Means own p [] d c image least f))

-- what stands for a front of k items, under the cluster's UUID or the nil one
in_order : (before uuid own : List ℕ) (p q : Setting) (O : Order) (k d : ℕ) (image : List ℕ) → IsOfCluster before uuid own k → q ≡ p → IsFrontOf Means own q (take k O) d image → IsFrontIn before uuid p O k d image
in_order before uuid own p q O k d image cluster same f = by cluster (subst (λ (r : Setting). IsFrontOf Means own r (take k O) d image) same f)
  where
    by : IsOfCluster before uuid own k → IsFrontOf Means own p (take k O) d image → IsFrontIn before uuid p O k d image
    by (inl is) f = inl (subst (λ (u : List ℕ). IsFrontOf Means u p (take k O) d image) is f)
    by (inr (nil, alike, none)) f = inr (nil, subst (λ (u : List ℕ). IsFrontOf Means u p [] d image) alike (subst (λ i. IsFrontOf Means own p (take i O) d image) none f))

-- ---- a snapshot of the order

module _ (by_items : HistoryByItems) (uuid : List ℕ) (p : Setting) (O : Order) (of : List ℕ) (y : State) (snapshot : IsSnapshotOf uuid p O of y) where
  abbrev Front : Order
  Front = take y.position O

  as_many : length Front ≡ y.position
  as_many = length-take-le y.position O snapshot.within

  front_again : take y.position Front ≡ Front
  front_again = take-take y.position y.position O (omega arith)

  -- what an image means that has it as its base, and nothing behind it, stands for its front
  snapshot_front : (d : ℕ) (image : List ℕ) → d ≤ y.position → Means image (brought_by uuid p y) → IsFrontOf Means uuid p Front d image
  snapshot_front d image le means =
      let stands : StandsFor uuid p Front (brought_by uuid p y) = record {
        uuid_is = refl;
        setting_is = refl;
        within = omega (arith, as_many);
        base_is = snapshot.state_is ∙ ap (state p) (sym front_again);
        tail_is = sym (drop_all y.position (history_of p Front) (omega (arith, by_items.as_many p Front, as_many)));
      } in
      record {
        meaning = brought_by uuid p y;
        reads = means;
        end = y.position;
        least = le;
        most = omega (arith, as_many);
        stands = subst (λ (M : Order). StandsFor uuid p M (brought_by uuid p y)) (sym front_again) stands;
      }

  -- and a node that stands at it is one of that front
  snapshot_of : (n m : Node) → n.facts.setting ≡ p → StandsAt n of y m → IsOf Front m
  snapshot_of n m same stands =
      let setting : m.facts.setting ≡ p = stands.setting_is ∙ same in
      let position : m.base.position ≡ y.position = ap (λ (S : State). S.position) stands.base in
      record {
        within = omega (arith, position, as_many);
        base =
            stands.base ∙ snapshot.state_is ∙ ap (state p) (sym front_again) ∙ ap (λ i. state p (take i Front)) (sym position)
            ∙ ap (λ (q : Setting). state q (take m.base.position Front)) (sym setting);
        items = stands.none ∙ sym (drop_all m.base.position (history_of m.facts.setting Front) (omega (arith, by_items.as_many m.facts.setting Front, position, as_many)));
      }

-- ---- parts of a life

-- A part of a life goes on from a node of a front of k items to a node of a front of j; and at each moment of it a stop leaves what stands
-- for a front of the order with what was durable before it.
record Goes {D : Type 0} (g : Ghosts D) (uuid : List ℕ) (p : Setting) (O : Order) (n : Node) (k : ℕ) (r : Replica D) (j : ℕ) (m : Node) (s : Replica D) : Type 0 where
  at : IsAtFront g uuid p O n j m s
  more : k ≤ j
  leaves : LeavesOnly (g.history r.engine.disk) (g.history s.engine.disk) (IsFrontIn n.facts.uuid uuid p O j n.facts.durable)

-- parts of a life, to the end
record GoesOn {D : Type 0} (g : Ghosts D) (uuid : List ℕ) (p : Setting) (O : Order) (k : ℕ) (n : Node) (r : Replica D) (es : List (Episode D)) (last : Replica D) : Type 0 where
  follow : EpisodesFollow g uuid p O k n es
  more : k ≤ reached_by k es
  leaves : LeavesOnly (g.history r.engine.disk) (g.history last.engine.disk) (IsFrontIn n.facts.uuid uuid p O (reached_by k es) n.facts.durable)

-- what happened until the last call returned, and what was under way then
record Lived {D : Type 0} (g : Ghosts D) (uuid : List ℕ) (p : Setting) (O : Order) (k : ℕ) (n : Node) (given : List Reply) (past begun : List (Episode D)) (mid : Replica D) (left : List ℕ) : Type 0 where
  follow : EpisodesFollow g uuid p O k n (past ++ begun)
  told : AreRepliesOf (take (facts_of g mid).durable (history_of p O)) (given ++ replies_of past)
  front : IsFrontIn (facts_of g mid).uuid uuid p O (reached_by k (past ++ begun)) (facts_of g mid).durable left

module _ {D : Type 0} (g : Ghosts D)
    (one_thing : ImagesMeanOneThing) (hold : NodesHoldTheOrder) (follow : StepsFollowTheOrder) (come : RunsComeTo) (answer : RunsAnswerTheOrder) (stopped : StoppedReplicasHold g) (moments : MomentsOfCalls)
    (fronts : FrontsStandForTheOrder) (by_items : HistoryByItems) (uuid : List ℕ) (p : Setting) (O : Order) where
  abbrev H : List Judged
  H = history_of p O

  -- nothing is delivered to a node without a cluster
  none_of_nil : (L : Order) (m : Node) → IsNode m → IsOf L m → IsNil m.facts.uuid → length L ≡ 0
  none_of_nil L m node of nil =
      let none = node.facts.undefined (nil_bytes m.facts.uuid nil) in
      omega (arith, (hold L m node of).count, none.0, ap length none.1)

  -- a node that is of the cluster that one before it was of
  of_same : (before own new : List ℕ) (k j : ℕ) → IsOfCluster before uuid own k → new ≡ own → (IsNil new → j ≡ 0) → IsOfCluster own uuid new j
  of_same before own new k j (inl is) same none = inl (same ∙ is)
  of_same before own new k j (inr (nil, alike, was)) same none = inr (alike ∙ nil, same, none (same ∙ alike ∙ nil))

  -- a run
  ran_part : (before n : Node) (k : ℕ) (r s : Replica D) (events : List Event) (answers : List Answer) (rest : Order) → IsAtFront g uuid p O before k n r → Ran g r s events answers
      → (take k O ++ accepted_by events answers) ++ rest ≡ O
      → (m : Node) × Follows O (take k O) n events answers m × Goes g uuid p O n k r (k + length (accepted_by events answers)) m s
  ran_part before n k r s events answers rest at ran fed =
      let got = ran n at.holds in
      let m : Node = got.0 in
      let A : Order = accepted_by events answers in
      let j : ℕ = k + length A in
      let follows : Follows O (take k O) n events answers m = ran_on g one_thing hold follow come answer stopped moments O (take k O) rest n events answers m at.holds.node at.of got.1.runs fed in
      let c = follows.comes in
      let size : length (take k O) ≡ k = length-take-le k O at.within in
      let both : length (take k O ++ A) ≡ j = omega (arith, length-append (take k O) A, size) in
      let front : take k O ++ A ≡ take j O = sym (take_at (take k O ++ A) rest j both) ∙ ap (take j) fed in
      let within : j ≤ length O = omega (arith, ap length fed, length-append (take k O ++ A) rest, both) in
      let cluster : IsOfCluster n.facts.uuid uuid m.facts.uuid j = of_same before.facts.uuid n.facts.uuid m.facts.uuid k j at.cluster c.uuid (λ nil. sym both ∙ none_of_nil (take k O ++ A) m c.node c.order nil) in
      let here : IsOfCluster n.facts.uuid uuid n.facts.uuid j = subst (λ (u : List ℕ). IsOfCluster n.facts.uuid uuid u j) c.uuid cluster in (
        m,
        follows,
        record {
          at = record {
            cluster = cluster;
            setting_is = c.setting ∙ at.setting_is;
            within = within;
            of = subst (λ (M : Order). IsOf M m) front c.order;
            least = c.rises;
            holds = got.2;
          };
          more = omega arith;
          leaves = leaves_weaker (g.history r.engine.disk) (g.history s.engine.disk)
              (λ image f. in_order n.facts.uuid uuid n.facts.uuid p n.facts.setting O j n.facts.durable image here at.setting_is (subst (λ (M : Order). IsFrontOf Means n.facts.uuid n.facts.setting M n.facts.durable image) front f))
              (got.1.leaves (take k O) at.of);
        },
      )

  -- an image that means a front of the node
  front_here : (before n : Node) (k : ℕ) (r : Replica D) (image : List ℕ) → IsAtFront g uuid p O before k n r → IsFrontAt Means n image → IsFrontIn n.facts.uuid uuid p O k n.facts.durable image
  front_here before n k r image at f =
      in_order n.facts.uuid uuid n.facts.uuid p n.facts.setting O k n.facts.durable image (of_own before.facts.uuid uuid n.facts.uuid k at.cluster) at.setting_is (front_of hold fronts (take k O) n image at.holds.node at.of f)

  -- a snapshot that was given up
  gave_part : (before n : Node) (k : ℕ) (r s : Replica D) → IsAtFront g uuid p O before k n r → (gave : GaveUp g n r s) → Goes g uuid p O n k r k gave.node s
  gave_part before n k r s at gave =
      let still = gave.still in
      let was : IsOf (take k O) n = at.of in
      let same : IsOf (take k O) (record n { facts = record n.facts { failures = gave.node.facts.failures; stopped = gave.node.facts.stopped } }) = record { within = was.within; base = was.base; items = was.items } in
      let own : gave.node.facts.uuid ≡ n.facts.uuid = ap (λ (x : Node). x.facts.uuid) still in
      record {
        at = record {
          cluster = subst (λ (u : List ℕ). IsOfCluster n.facts.uuid uuid u k) (sym own) (of_own before.facts.uuid uuid n.facts.uuid k at.cluster);
          setting_is = ap (λ (x : Node). x.facts.setting) still ∙ at.setting_is;
          within = at.within;
          of = subst (IsOf (take k O)) (sym still) same;
          least = omega (arith, ap (λ (x : Node). x.facts.durable) still);
          holds = gave.holds;
        };
        more = omega arith;
        leaves = leaves_weaker (g.history r.engine.disk) (g.history s.engine.disk) (λ image f. front_here before n k r image at f) gave.leaves;
      }

  -- a snapshot that can come is of a front that is no shorter
  later : (before n : Node) (k : ℕ) (r : Replica D) (of : List ℕ) (y : State) → IsAtFront g uuid p O before k n r → CanCome n of y → (k ≤ y.position) × (n.facts.durable ≤ k)
  later before n k r of y at can =
      let size : length (take k O) ≡ k = length-take-le k O at.within in
      let count : delivered n.facts ≡ k = (hold (take k O) n at.holds.node at.of).count ∙ size in
      (by size count can.later, omega (arith, count))
    where
      by : length (take k O) ≡ k → delivered n.facts ≡ k → (delivered n.facts < y.position) ⊎ IsNil n.facts.uuid → k ≤ y.position
      by size count (inl below) = omega (arith, count, below)
      by size count (inr nil) = omega (arith, size, none_of_nil (take k O) n at.holds.node at.of nil)

  -- what an image means while it comes
  either_front : (before n : Node) (k : ℕ) (r : Replica D) (of : List ℕ) (y : State) (image : List ℕ) → IsAtFront g uuid p O before k n r → IsSnapshotOf uuid p O of y → CanCome n of y → MeansOneOf n of y image
      → IsFrontIn n.facts.uuid uuid p O y.position n.facts.durable image
  either_front before n k r of y image at snapshot can either = by either
    where
      le : (k ≤ y.position) × (n.facts.durable ≤ k)
      le = later before n k r of y at can

      by : MeansOneOf n of y image → IsFrontIn n.facts.uuid uuid p O y.position n.facts.durable image
      by (inl f) = in_wider n.facts.uuid n.facts.uuid uuid p O k y.position n.facts.durable n.facts.durable image le.0 (omega arith) (inr refl) (front_here before n k r image at f)
      by (inr means) =
          inl (snapshot_front by_items uuid p O of y snapshot n.facts.durable image (omega (arith, le.0, le.1))
          (subst (λ (q : Setting). Means image (brought_by uuid q y)) at.setting_is (subst (λ (u : List ℕ). Means image (brought_by u n.facts.setting y)) snapshot.cluster means)))

  -- a snapshot that came
  brought_part : (before n : Node) (k : ℕ) (r s : Replica D) (of : List ℕ) (y : State) → IsAtFront g uuid p O before k n r → IsSnapshotOf uuid p O of y → (brought : Brought g n of y r s)
      → Goes g uuid p O n k r y.position brought.node s
  brought_part before n k r s of y at snapshot brought =
      let le = later before n k r of y at brought.can in
      let stands = brought.stands in
      record {
        at = record {
          cluster = inl (stands.uuid_is ∙ snapshot.cluster);
          setting_is = stands.setting_is ∙ at.setting_is;
          within = snapshot.within;
          of = snapshot_of by_items uuid p O of y snapshot n brought.node at.setting_is stands;
          least = omega (arith, le.0, le.1, stands.durable);
          holds = brought.holds;
        };
        more = le.0;
        leaves = leaves_weaker (g.history r.engine.disk) (g.history s.engine.disk) (λ image f. either_front before n k r of y image at snapshot brought.can f) brought.leaves;
      }

  -- ---- what was under way

  -- a part, and the parts behind it
  leaves_on : (n m : Node) (k j h : ℕ) (r s last : Replica D) → Goes g uuid p O n k r j m s → j ≤ h → LeavesOnly (g.history s.engine.disk) (g.history last.engine.disk) (IsFrontIn m.facts.uuid uuid p O h m.facts.durable)
      → LeavesOnly (g.history r.engine.disk) (g.history last.engine.disk) (IsFrontIn n.facts.uuid uuid p O h n.facts.durable)
  leaves_on n m k j h r s last goes le behind =
      leaves_then (g.history r.engine.disk) (g.history s.engine.disk) (g.history last.engine.disk)
      (leaves_weaker (g.history r.engine.disk) (g.history s.engine.disk) (λ image f. in_wider n.facts.uuid n.facts.uuid uuid p O j h n.facts.durable n.facts.durable image le (omega arith) (inr refl) f) goes.leaves)
      behind (λ image f. in_wider n.facts.uuid m.facts.uuid uuid p O h h m.facts.durable n.facts.durable image (omega arith) goes.at.least (of_either n.facts.uuid uuid m.facts.uuid j goes.at.cluster) f)

  go_on : (es : List (Episode D)) (before n : Node) (k : ℕ) (r last : Replica D) → IsAtFront g uuid p O before k n r → AreEpisodes g r es last → FedFrom uuid p O k es
      → GoesOn g uuid p O k n r es last
  go_on [] before n k r last at same fed = record {
    follow = tt;
    more = omega arith;
    leaves = leaves_none (g.history r.engine.disk) (g.history last.engine.disk) (ap (λ (x : Replica D). g.history x.engine.disk) (sym same));
  }
  go_on (Runs events answers to ∷ es) before n k r last at are fed =
      let part = ran_part before n k r to events answers fed.0.0 at are.0 fed.0.1 in
      let j = k + length (accepted_by events answers) in
      let behind = go_on es n part.0 j to last part.2.at are.1 fed.1 in
      record {
        follow = (part.0, part.1, part.2.at, behind.follow);
        more = omega (arith, part.2.more, behind.more);
        leaves = leaves_on n part.0 k j (reached_by j es) r to last part.2 behind.more behind.leaves;
      }
  go_on (GivesUp to ∷ es) before n k r last at are fed =
      let gave = are.0 n at.holds in
      let part = gave_part before n k r to at gave in
      let behind = go_on es n gave.node k to last part.at are.1 fed in
      record {
        follow = (gave.node, gave.still, part.at, behind.follow);
        more = behind.more;
        leaves = leaves_on n gave.node k k (reached_by k es) r to last part behind.more behind.leaves;
      }
  go_on (Brings of y to ∷ es) before n k r last at are fed =
      let brought = are.0 n at.holds in
      let part = brought_part before n k r to of y at fed.0 brought in
      let behind = go_on es n brought.node y.position to last part.at are.1 fed.1 in
      record {
        follow = (brought.node, part.more, brought.stands, part.at, behind.follow);
        more = omega (arith, part.more, behind.more);
        leaves = leaves_on n brought.node k y.position (reached_by y.position es) r to last part behind.more behind.leaves;
      }
  go_on (Breaks of y to ∷ es) before n k r last at are fed =
      let broke = are.0 n at.holds in
      let le = (later before n k r of y at broke.can).0 in
      record {
        follow = le;
        more = le;
        leaves = subst (λ (x : Replica D). LeavesOnly (g.history r.engine.disk) (g.history x.engine.disk) (IsFrontIn n.facts.uuid uuid p O y.position n.facts.durable)) are.2
            (leaves_weaker (g.history r.engine.disk) (g.history to.engine.disk) (λ image f. either_front before n k r of y image at fed broke.can f) broke.leaves);
      }

  -- ---- a life

  -- the replies that were given before are of items that are durable
  still_told : (n m : Node) (given : List Reply) → n.facts.durable ≤ m.facts.durable → AreRepliesOf (take n.facts.durable H) given → AreRepliesOf (take m.facts.durable H) given
  still_told n m given le are = replies_longer n.facts.durable m.facts.durable H given le are

  -- and so are those of a run
  told_more : (n m : Node) (given : List Reply) (events : List Event) (answers : List Answer) (L : Order) → n.facts.setting ≡ p → n.facts.durable ≤ m.facts.durable → Follows O L n events answers m → AreRepliesOf (take n.facts.durable H) given
      → AreRepliesOf (take m.facts.durable H) (given ++ acknowledged answers)
  told_more n m given events answers L same le follows are =
      let b = n.facts.durable in
      let x = m.facts.durable - b in
      let all : b + x ≡ m.facts.durable = omega (arith, le) in
      subst (λ i. AreRepliesOf (take i H) (given ++ acknowledged answers)) all
      (replies_more b x H given (acknowledged answers) are (follows.answers_are.replied ∙ ap (λ (q : Setting). map reply_of (take x (drop b (history_of q O)))) same))

  -- where the last call has returned
  stopped_there : (before n : Node) (k : ℕ) (given : List Reply) (mid last : Replica D) (begun : List (Episode D)) (left : List ℕ) → IsAtFront g uuid p O before k n mid → AreEpisodes g mid begun last
      → FedFrom uuid p O k begun → ImageSince (g.history last.engine.disk) (moment (g.history mid.engine.disk)) left → AreRepliesOf (take n.facts.durable H) given → Lived g uuid p O k n given [] begun mid left
  stopped_there before n k given mid last begun left at are fed stop told =
      let on = go_on begun before n k mid last at are fed in
      let h = reached_by k begun in
      let uuid_is : n.facts.uuid ≡ (facts_of g mid).uuid = ap (λ (s : Standing). s.uuid) at.holds.facts in
      let durable_is : n.facts.durable ≡ (facts_of g mid).durable = ap (λ (s : Standing). s.durable) at.holds.facts in
      let here : IsImage (g.history mid.engine.disk) left → IsFrontIn n.facts.uuid uuid p O h n.facts.durable left =
      λ is. in_wider n.facts.uuid n.facts.uuid uuid p O k h n.facts.durable n.facts.durable left on.more (omega arith) (inr refl)
      (in_order n.facts.uuid uuid n.facts.uuid p n.facts.setting O k n.facts.durable left (of_own before.facts.uuid uuid n.facts.uuid k at.cluster) at.setting_is (stopped.leaves (take k O) n mid (stopped.of_node n mid at.holds) at.of left is)) in
      let front : IsFrontIn n.facts.uuid uuid p O h n.facts.durable left = by here (on.leaves.since (moment (g.history mid.engine.disk)) left (omega arith) stop) in
      record {
        follow = on.follow;
        told = subst (λ i. AreRepliesOf (take i H) (given ++ [])) durable_is (subst (AreRepliesOf (take n.facts.durable H)) (sym (append-nil given)) told);
        front = subst (λ (u : List ℕ). IsFrontIn u uuid p O h (facts_of g mid).durable left) uuid_is (subst (λ i. IsFrontIn n.facts.uuid uuid p O h i left) durable_is front);
      }
    where
      by : {F : Type 0} → (IsImage (g.history mid.engine.disk) left → F) → ImageSince (g.history mid.engine.disk) (moment (g.history mid.engine.disk)) left ⊎ F → F
      by here (inl since) = here ((moments.of_none (g.history mid.engine.disk) left).0 since)
      by here (inr f) = f

  lived : (past : List (Episode D)) (before n : Node) (k : ℕ) (given : List Reply) (r mid last : Replica D) (begun : List (Episode D)) (left : List ℕ) → IsAtFront g uuid p O before k n r → AreWhole past
      → AreEpisodes g r past mid → AreEpisodes g mid begun last → FedFrom uuid p O k (past ++ begun) → ImageSince (g.history last.engine.disk) (moment (g.history mid.engine.disk)) left
      → AreRepliesOf (take n.facts.durable H) given → Lived g uuid p O k n given past begun mid left
  lived [] before n k given r mid last begun left at whole same are fed stop told =
      stopped_there before n k given mid last begun left (subst (IsAtFront g uuid p O before k n) same at) are fed stop told
  lived (Runs events answers to ∷ es) before n k given r mid last begun left at whole went are fed stop told =
      let part = ran_part before n k r to events answers fed.0.0 at went.0 fed.0.1 in
      let there = part.2.at in
      let rest = lived es n part.0 (k + length (accepted_by events answers)) (given ++ acknowledged answers) to mid last begun left there whole went.1 are fed.1 stop
      (told_more n part.0 given events answers (take k O) at.setting_is there.least part.1 told) in
      record {
        follow = (part.0, part.1, there, rest.follow);
        told = subst (AreRepliesOf (take (facts_of g mid).durable H)) (append_assoc given (acknowledged answers) (replies_of es)) rest.told;
        front = rest.front;
      }
  lived (GivesUp to ∷ es) before n k given r mid last begun left at whole went are fed stop told =
      let gave = went.0 n at.holds in
      let there = (gave_part before n k r to at gave).at in
      let rest = lived es n gave.node k given to mid last begun left there whole went.1 are fed stop (still_told n gave.node given there.least told) in
      record { follow = (gave.node, gave.still, there, rest.follow); told = rest.told; front = rest.front }
  lived (Brings of y to ∷ es) before n k given r mid last begun left at whole went are fed stop told =
      let brought = went.0 n at.holds in
      let part = brought_part before n k r to of y at fed.0 brought in
      let rest = lived es n brought.node y.position given to mid last begun left part.at whole went.1 are fed.1 stop (still_told n brought.node given part.at.least told) in
      record { follow = (brought.node, part.more, brought.stands, part.at, rest.follow); told = rest.told; front = rest.front }
  lived (Breaks of y to ∷ es) before n k given r mid last begun left at whole went are fed stop told = absurd whole

  -- ---- lives

  -- a life that is opened on a front of the order, or without a cluster
  life_on : (before own : List ℕ) (d h : ℕ) (given : List Reply) (image : List ℕ) (life : Life D) → IsFrontOf Means own p (take h O) d image → (own ≡ uuid) ⊎ (IsNil before × (own ≡ before)) → AreRepliesOf (take d H) given
      → IsLife g image life → FedFrom uuid p O (facts_of g life.start).durable (life.past ++ life.begun)
      → LifeFollows g before uuid p O d h given life × AreRepliesOf (take (facts_of g life.mid).durable H) (given ++ replies_of life.past)
  life_on before own d h given image life f kind kept is fed =
      let opening = opened_on g one_thing hold follow come answer stopped moments own p O d h given image life.old life.start f kept is.on is.opens in
      let n : Node = opening.0 in
      let opens : OpensOn g own p O d h given life.start f.end n = opening.1 in
      let durable : n.facts.durable ≡ f.end = ap (λ (s : Standing). s.durable) opens.holds.facts ∙ opens.durable in
      let none : IsNil own → f.end ≡ 0 = λ nil. sym (length-take-le f.end O opens.within) ∙ none_of_nil (take f.end O) n opens.holds.node opens.of (opens.uuid_is ∙ nil) in
      let cluster : IsOfCluster before uuid own f.end = by_none before uuid own f.end kind none in
      let at : IsAtFront g uuid p O n f.end n life.start = record {
        cluster = subst (λ (u : List ℕ). IsOfCluster u uuid u f.end) (sym opens.uuid_is) (of_own before uuid own f.end cluster);
        setting_is = opens.setting_is;
        within = opens.within;
        of = opens.of;
        least = omega arith;
        holds = opens.holds;
      } in
      let went = lived life.past n n f.end given life.start life.mid life.last life.begun life.left at is.whole is.went is.went_on (subst (λ i. FedFrom uuid p O i (life.past ++ life.begun)) opens.durable fed) is.stop
      (subst (λ i. AreRepliesOf (take i H) given) (sym durable) opens.kept) in
      (record { own = own; position = f.end; cluster = cluster; start = n; opens = opens; follow = went.follow; front = went.front }, went.told)

  one_life : (before : List ℕ) (d h : ℕ) (given : List Reply) (image : List ℕ) (life : Life D) → IsFrontIn before uuid p O h d image → AreRepliesOf (take d H) given → IsLife g image life
      → FedFrom uuid p O (facts_of g life.start).durable (life.past ++ life.begun)
      → LifeFollows g before uuid p O d h given life × AreRepliesOf (take (facts_of g life.mid).durable H) (given ++ replies_of life.past)
  one_life before d h given image life (inl f) kept is fed = life_on before uuid d h given image life f (inl refl) kept is fed
  one_life before d h given image life (inr (nil, f)) kept is fed = life_on before before d h given image life (front_longer Means before p [] (take h O) d image f) (inr (nil, refl)) kept is fed

  follow_on : (before : List ℕ) (d h : ℕ) (given : List Reply) (image : List ℕ) (lives : List (Life D)) → IsFrontIn before uuid p O h d image → AreRepliesOf (take d H) given → Lives g image lives → AreFed g uuid p O lives
      → LivesFollow g before uuid p O d h given lives
  follow_on before d h given image [] f kept is fed = tt
  follow_on before d h given image (life ∷ lives) f kept is fed =
      let one = one_life before d h given image life f kept is.0 fed.0 in
      let c = (facts_of g life.mid).durable in
      let own = (facts_of g life.mid).uuid in
      let reached = reached_by (facts_of g life.start).durable (life.past ++ life.begun) in
      let front : IsFrontIn own uuid p O reached c life.left = subst (λ i. IsFrontIn own uuid p O (reached_by i (life.past ++ life.begun)) c life.left) (sym one.0.opens.durable) one.0.front in
      (one.0, follow_on own c reached (given ++ replies_of life.past) life.left lives front one.1 is.1 fed.1)

pub lives_with_snapshots_follow : {D : Type 0} (g : Ghosts D) → ImagesMeanOneThing → NodesHoldTheOrder → StepsFollowTheOrder → RunsComeTo → RunsAnswerTheOrder → StoppedReplicasHold g
    → MomentsOfCalls → FrontsStandForTheOrder → HistoryByItems → LivesWithSnapshotsFollowTheOrder g
lives_with_snapshots_follow g one_thing hold follow come answer stopped moments fronts by_items before uuid p O d h image lives f is fed =
    follow_on g one_thing hold follow come answer stopped moments fronts by_items uuid p O before d h [] image lives f (λ r has. absurd (omega (arith, has.1))) is fed
