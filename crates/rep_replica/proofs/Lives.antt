-- Lives of a replica follow the order.
use Rattle.std.proofs.Common.{◌≡◌, ◌⊎◌, inl, inr, ℕ, zero, suc, ◌+◌, ◌-◌, ◌≤◌, Bool, true, false, List, [], ◌∷◌, ◌++◌, append_assoc, append-nil, length, length-append, map, take, drop, Contains, Option, None, Some, refl, sym, ap, subst, ◌∙◌, arith}
use Rattle.std.specs.Prelude.{if◌then◌else◌, not, nat_lt, MatchOption}
use Rattle.std.proofs.lemmas.Bool.Decides.{nat_tests}
use Rattle.std.proofs.Math.Seq.{take-add}
use Rattle.std.proofs.lemmas.List.{take-append-drop, take-append-le, take-take, take_at, length-take-le, map-append, take-map, drop-map}
use Rattle.std.proofs.lemmas.List.Elements.{Contains-append_left, Contains-append_right, Contains-append_cases}
use Rattle.rep_types.specs.declared.judged.Judged.{Judged}
use Rattle.rep_types.specs.declared.key.Key.{Key}
use Rattle.rep_types.specs.declared.reply.Reply.{Reply}
use Rattle.rep_types.specs.declared.verdict.Verdict.{Verdict}
use Rattle.rep_types.specs.declared.refusal.Refusal.{Refusal}
use Rattle.rep_types.specs.declared.refusal.Refusal.TheVariants.{Stopped, BadKey, NotYet, TooOld}
use Rattle.rep_types.specs.Settings.{Setting, has_row}
use Rattle.rep_types.specs.Replies.{reply_of}
use Rattle.rep_types.specs.Order.{Order, history as history_of, read, rows, state}
use Rattle.rep_disk.specs.declared.disk.Disk.{Ghosts}
use Rattle.rep_disk.specs.History.{History, IsImage, seen}
use Rattle.rep_disk.specs.Moments.{moment, ImageSince}
use Rattle.rep_disk.specs.Laws.{MomentsOfCalls}
use Rattle.rep_steps.specs.declared.event.Event.{Event}
use Rattle.rep_steps.specs.declared.event.Event.TheVariants.{Deliver, SetWindow, Log, Sync, Check, Flush, Read}
use Rattle.rep_steps.specs.declared.answer.Answer.{Answer}
use Rattle.rep_steps.specs.declared.answer.Answer.TheVariants.{Gave, Wrote, Began, Synced, Row, Refused}
use Rattle.rep_steps.specs.Standings.{Standing, delivered, refusal, read_refusal}
use Rattle.rep_steps.specs.Moves.{answer, Fails}
use Rattle.rep_steps.specs.Nodes.{Node, IsNode, Steps, found, moved}
use Rattle.rep_steps.specs.Orders.{IsOf, accepted, answer_of, NodesHoldTheOrder, StepsFollowTheOrder}
use Rattle.rep_steps.specs.Runs.{Runs, accepted_by, verdicts, acknowledged, verdict_of, ComesTo, AnswersOf, RunsComeTo, RunsAnswerTheOrder}
use Rattle.rep_steps.specs.Images.{StandsFor, opened, IsFrontOf}
use Rattle.rep_recover.specs.Meanings.{Means, ImagesMeanOneThing}
use Rattle.rep_steps.specs.FrontLaws.{front_longer}
use Rattle.rep_replica.specs.Replicas.{Replica, facts_of}
use Rattle.rep_replica.specs.Holding.{Holds}
use Rattle.rep_replica.specs.Opening.{Opens}
use Rattle.rep_replica.specs.Stopping.{StoppedReplicasHold}
use Rattle.rep_replica.specs.Lives.{Life, IsLife, Lives, IsFed, AreFed, IsRowOf, AreRowsOf, AreRepliesOf, NeverStopped, AnswersAs, Follows, gtid_at, OpensOn, LifeFollows, LivesFollow, LivesFollowTheOrder}

-- ---- rows

row_at : (base durable at : ℕ) (has late early : Bool) → (if not has then Some BadKey else if late then Some (NotYet durable) else if early then Some (TooOld base) else None) ≡ None → late ≡ false
row_at base durable at false late early e = absurd cc
row_at base durable at true true early e = absurd cc
row_at base durable at true false early e = refl

unstopped : (b : Bool) (o : Option Refusal) → (if b then Some Stopped else o) ≡ None → o ≡ None
unstopped true o e = absurd cc
unstopped false o e = e

-- a row is answered at what is durable
row_within : (n m : Node) (key : Key) (at : ℕ) (row : Option (List ℕ)) → Steps n (Read key at) (Row row) m → at ≤ n.facts.durable
row_within n m key at row steps = by (refusal n.facts (Read key at)) refl steps
  where
    by : (o : Option Refusal) → refusal n.facts (Read key at) ≡ o
        → MatchOption o (((Row row ≡ answer n.facts (Read key at) (found n (Read key at))) × (m ≡ moved n (Read key at))) ⊎ (Fails n.facts (Read key at) (Row row) m.facts × (m ≡ record n { facts = m.facts }))) (λ r. (Row row ≡ Refused r) × (m ≡ n)) → at ≤ n.facts.durable
    by None none h =
        let late : nat_lt n.facts.durable at ≡ false = row_at n.facts.base n.facts.durable at (has_row n.facts.setting.rows key) (nat_lt n.facts.durable at) (nat_lt at n.facts.base) (unstopped n.facts.stopped (read_refusal n.facts key at) none) in
        grind (arith, nat_tests)
    by (Some r) some h = absurd (let never : Row row ≡ Refused r = h.0 in cc)

-- the rows of a front are those of the order
row_of_front : (p : Setting) (L rest : Order) (key : Key) (at : ℕ) → at ≤ length L → read p L key at ≡ read p (L ++ rest) key at
row_of_front p L rest key at le = ap (λ (M : Order). rows p M key) (sym (take-append-le at L rest le))

module _ (hold : NodesHoldTheOrder) (follow : StepsFollowTheOrder) (come : RunsComeTo) where
  one_row : (L rest : Order) (n m : Node) (e : Event) (a : Answer) → IsNode n → IsOf L n → Steps n e a m → IsRowOf n.facts.setting (L ++ rest) e a
  one_row L rest n m (Read key at) (Row row) h o step = by (follow L n m (Read key at) (Row row) h o step).answered
    where
      by : ((r : Refusal) × (Row row ≡ Refused r)) ⊎ (Row row ≡ answer_of L n.facts (Read key at)) → row ≡ read n.facts.setting (L ++ rest) key at
      by (inl (r, is)) = absurd cc
      by (inr is) =
          let count = (hold L n h o).count in
          let near = row_within n m key at row step in
          let same : row ≡ read n.facts.setting L key at = cc in
          same ∙ row_of_front n.facts.setting L rest key at (omega (arith, near, count))
  one_row L rest n m (Read key at) (Gave v) h o step = tt
  one_row L rest n m (Read key at) Wrote h o step = tt
  one_row L rest n m (Read key at) (Began c) h o step = tt
  one_row L rest n m (Read key at) (Synced r) h o step = tt
  one_row L rest n m (Read key at) (Refused r) h o step = tt
  one_row L rest n m (Deliver seqno w) a h o step = tt
  one_row L rest n m (SetWindow seqno size source trx) a h o step = tt
  one_row L rest n m Log a h o step = tt
  one_row L rest n m Sync a h o step = tt
  one_row L rest n m Check a h o step = tt
  one_row L rest n m (Flush page) a h o step = tt

  rows_follow : (L rest : Order) (n m : Node) (events : List Event) (answers : List Answer) → IsNode n → IsOf L n → Runs Steps n events answers m
      → AreRowsOf n.facts.setting ((L ++ accepted_by events answers) ++ rest) events answers
  rows_follow L rest n m [] answers h o r = tt
  rows_follow L rest n m (e ∷ events) [] h o r = absurd r
  rows_follow L rest n m (e ∷ events) (a ∷ answers) h o r =
      let mid = r.0 in
      let f = follow L n mid e a h o r.1 in
      let same : mid.facts.setting ≡ n.facts.setting = (come L n mid (e ∷ []) (a ∷ []) h o (mid, r.1, refl)).setting in
      let M = accepted_by events answers in
      let whole : ((L ++ accepted e a) ++ M) ++ rest ≡ (L ++ (accepted e a ++ M)) ++ rest = ap (λ (K : Order). K ++ rest) (append_assoc L (accepted e a) M) in
      let behind : L ++ ((accepted e a ++ M) ++ rest) ≡ (L ++ (accepted e a ++ M)) ++ rest = sym (append_assoc L (accepted e a ++ M) rest) in (
        subst (λ (K : Order). IsRowOf n.facts.setting K e a) behind (one_row L ((accepted e a ++ M) ++ rest) n mid e a h o r.1),
        subst (λ (K : Order). AreRowsOf n.facts.setting K events answers) whole
            (subst (λ (p : Setting). AreRowsOf p (((L ++ accepted e a) ++ M) ++ rest) events answers) same (rows_follow (L ++ accepted e a) rest mid m events answers f.node f.order r.2)),
      )

-- ---- fronts of lists

-- a front is no longer than asked for, and no longer than the whole
front_short : {X : Type 0} (h : ℕ) (xs : List X) → (length (take h xs) ≤ h) × (length (take h xs) ≤ length xs)
front_short zero xs = (omega arith, omega arith)
front_short (suc h) [] = (omega arith, omega arith)
front_short (suc h) (x ∷ xs) = let rest = front_short h xs in (omega (arith, rest.0), omega (arith, rest.1))

-- what is among the replies of a front is among those of a longer one
pub replies_longer : (d e : ℕ) (items : List Judged) (given : List Reply) → d ≤ e → AreRepliesOf (take d items) given → AreRepliesOf (take e items) given
replies_longer d e items given le are r has =
    let both : map reply_of (take d items) ++ map reply_of (drop d (take e items)) ≡ map reply_of (take e items) =
    ap (λ (js : List Judged). map reply_of js ++ map reply_of (drop d (take e items))) (sym (take-take d e items le)) ∙ sym (map-append reply_of (take d (take e items)) (drop d (take e items)))
    ∙ ap (map reply_of) (take-append-drop d (take e items)) in
    subst (λ (rs : List Reply). Contains rs r) both (Contains-append_left (map reply_of (take d items)) (map reply_of (drop d (take e items))) r (are r has))

-- and so are those that were given for the items behind it
pub replies_more : (d k : ℕ) (items : List Judged) (given told : List Reply) → AreRepliesOf (take d items) given → told ≡ map reply_of (take k (drop d items)) → AreRepliesOf (take (d + k) items) (given ++ told)
replies_more d k items given told are is r has =
    subst (λ (rs : List Reply). Contains rs r) both (by (Contains-append_cases given told r has))
  where
    both : map reply_of (take d items) ++ map reply_of (take k (drop d items)) ≡ map reply_of (take (d + k) items)
    both = sym (map-append reply_of (take d items) (take k (drop d items))) ∙ ap (map reply_of) (sym (take-add d k items))

    by : Contains given r ⊎ Contains told r → Contains (map reply_of (take d items) ++ map reply_of (take k (drop d items))) r
    by (inl old) = Contains-append_left (map reply_of (take d items)) (map reply_of (take k (drop d items))) r (are r old)
    by (inr new) = Contains-append_right (map reply_of (take d items)) (map reply_of (take k (drop d items))) r (subst (λ (rs : List Reply). Contains rs r) is new)

-- a part of a front is that part of the whole
part_of_front : {X : Type 0} (y x z : ℕ) (xs : List X) → y + x ≤ z → take x (drop y (take z xs)) ≡ take x (drop y xs)
part_of_front zero x z xs le = take-take x z xs (omega (arith, le))
part_of_front (suc y) x zero xs le = absurd (omega (arith, le))
part_of_front (suc y) x (suc z) [] le = refl
part_of_front (suc y) x (suc z) (a ∷ xs) le = part_of_front y x z xs (omega (arith, le))

-- and so of what is said of each
part_of_map : {X Y : Type 0} (f : X → Y) (y x z : ℕ) (xs : List X) → y + x ≤ z → take x (drop y (map f (take z xs))) ≡ map f (take x (drop y xs))
part_of_map f y x z xs le = ap (take x) (drop-map f y (take z xs)) ∙ take-map f x (drop y (take z xs)) ∙ ap (map f) (part_of_front y x z xs le)

-- ---- a life

module _ {D : Type 0} (g : Ghosts D)
    (one_thing : ImagesMeanOneThing) (hold : NodesHoldTheOrder) (follow : StepsFollowTheOrder) (come : RunsComeTo) (answer : RunsAnswerTheOrder) (stopped : StoppedReplicasHold g) (moments : MomentsOfCalls) where
  -- ---- an opening

  -- what is opened on an image that stands for a front of the order
  pub opened_on : (uuid : List ℕ) (p : Setting) (O : Order) (d h : ℕ) (given : List Reply) (image : List ℕ) (old : History) (r : Replica D) (f : IsFrontOf Means uuid p (take h O) d image) → AreRepliesOf (take d (history_of p O)) given
      → seen old ≡ image → Opens g old r → (n : Node) × OpensOn g uuid p O d h given r f.end n
  opened_on uuid p O d h given image old r f kept on opens =
      let e = f.end in
      let L : Order = take e O in
      let short = front_short h O in
      let most : e ≤ h = omega (arith, f.most, short.0) in
      let within : e ≤ length O = omega (arith, f.most, short.1) in
      let reads : Means image opens.meaning = subst (λ (bytes : List ℕ). Means bytes opens.meaning) on opens.means in
      let same : f.meaning ≡ opens.meaning = one_thing image f.meaning opens.meaning f.reads reads in
      let stands : StandsFor uuid p L opens.meaning = subst (StandsFor uuid p L) same (subst (λ (M : Order). StandsFor uuid p M f.meaning) (take-take e h O most) f.stands) in
      let own : StandsFor opens.meaning.uuid opens.meaning.setting L opens.meaning =
      subst (λ (u : List ℕ). StandsFor u opens.meaning.setting L opens.meaning) (sym stands.uuid_is) (subst (λ (q : Setting). StandsFor uuid q L opens.meaning) (sym stands.setting_is) stands) in
      let n : Node = opened (facts_of g r) opens.gates opens.meaning in
      let holds : Holds g n r = opens.holds in
      let of : IsOf L n = opens.opens.order L own in
      let size : length L ≡ e = length-take-le e O within in
      let held = hold L n holds.node of in
      let durable : (facts_of g r).durable ≡ e = sym (ap (λ (s : Standing). s.durable) holds.facts) ∙ omega (arith, held.count, size) in
      let uuid_is : n.facts.uuid ≡ uuid = stands.uuid_is in
      let setting_is : n.facts.setting ≡ p = stands.setting_is in
      let own_uuid : (facts_of g r).uuid ≡ uuid = sym (ap (λ (s : Standing). s.uuid) holds.facts) ∙ uuid_is in (
        n,
        record {
          least = f.least;
          most = most;
          within = within;
          kept = replies_longer d e (history_of p O) given f.least kept;
          durable = durable;
          delivered_is = sym (ap delivered holds.facts) ∙ held.count ∙ size;
          gtid = ap (λ (u : List ℕ). gtid_at u (facts_of g r).durable) own_uuid ∙ ap (gtid_at uuid) durable;
          state_is =
              held.state e (omega (arith, of.within, size)) (omega (arith, size)) ∙ ap (λ (q : Setting). state q (take e L)) setting_is ∙ ap (state p) (take-take e e O (omega arith));
          holds = holds;
          uuid_is = uuid_is;
          setting_is = setting_is;
          of = of;
        },
      )

  -- ---- what it runs

  -- what was delivered is delivered
  rises : (L : Order) (n : Node) (events : List Event) (answers : List Answer) (m : Node) → IsNode n → IsOf L n → ComesTo L n events answers m → delivered n.facts ≤ delivered m.facts
  rises L n events answers m node of c = omega (arith, (hold L n node of).count, (hold (L ++ accepted_by events answers) m c.node c.order).count, length-append L (accepted_by events answers))

  -- as a node that never stopped
  as_unbroken : (O : Order) (n m : Node) (answers : List Answer) (last : Node) (told : List Answer) → AnswersOf O n answers m → (all : List Event) → NeverStopped n.facts.setting O all told last
      → delivered n.facts ≤ delivered m.facts → delivered m.facts ≤ length O → n.facts.durable ≤ m.facts.durable → AnswersAs n m answers last told
  as_unbroken O n m answers last told own all never more within durable =
      let first : Node = never.first in
      let p = n.facts.setting in
      let c = come [] first last all told never.node never.empty never.runs in
      let whole : accepted_by all told ++ [] ≡ O = append-nil (accepted_by all told) ∙ never.fed in
      let its : AnswersOf O first told last = subst (λ (M : Order). AnswersOf M first told last) whole (answer [] [] first last all told never.node never.empty never.runs) in
      let none : delivered first.facts ≡ 0 = (hold [] first never.node never.empty).count in
      let every : delivered last.facts ≡ length O = (hold (accepted_by all told) last c.node c.order).count ∙ ap length never.fed in
      let none_durable : first.facts.durable ≡ 0 = omega (arith, none) in
      let H = history_of p O in
      let verdicts_are : verdicts told ≡ map verdict_of (take (delivered last.facts) H) =
      its.judged ∙ ap (λ (q : Setting). map verdict_of (take (delivered last.facts - delivered first.facts) (drop (delivered first.facts) (history_of q O)))) never.setting
      ∙ ap (λ i. map verdict_of (take (delivered last.facts - i) (drop i H))) none ∙ ap (λ i. map verdict_of (take i H)) (omega arith) in
      let replies_are : acknowledged told ≡ map reply_of (take last.facts.durable H) =
      its.replied ∙ ap (λ (q : Setting). map reply_of (take (last.facts.durable - first.facts.durable) (drop first.facts.durable (history_of q O)))) never.setting
      ∙ ap (λ i. map reply_of (take (last.facts.durable - i) (drop i H))) none_durable ∙ ap (λ i. map reply_of (take i H)) (omega arith) in
      let x = delivered m.facts - delivered n.facts in
      let y = m.facts.durable - n.facts.durable in
      record {
        judged =
            own.judged ∙ sym (part_of_map verdict_of (delivered n.facts) x (delivered last.facts) H (omega (arith, more, within, every)))
            ∙ ap (λ (vs : List Verdict). take x (drop (delivered n.facts) vs)) (sym verdicts_are);
        replied = λ far.
            own.replied ∙ sym (part_of_map reply_of n.facts.durable y last.facts.durable H (omega (arith, durable, far)))
            ∙ ap (λ (rs : List Reply). take y (drop n.facts.durable rs)) (sym replies_are);
      }

  pub ran_on : (O L rest : Order) (n : Node) (events : List Event) (answers : List Answer) (m : Node) → IsNode n → IsOf L n → Runs Steps n events answers m → (L ++ accepted_by events answers) ++ rest ≡ O → Follows O L n events answers m
  ran_on O L rest n events answers m node of runs fed = record {
    answers_are = subst (λ (M : Order). AnswersOf M n answers m) fed (answer L rest n m events answers node of runs);
    as_unbroken = λ all told last never.
        let c = come L n m events answers node of runs in
        as_unbroken O n m answers last told (subst (λ (M : Order). AnswersOf M n answers m) fed (answer L rest n m events answers node of runs)) all never (rises L n events answers m node of c)
        (omega (arith, (hold (L ++ accepted_by events answers) m c.node c.order).count, ap length fed, length-append (L ++ accepted_by events answers) rest)) c.rises;
    rows = subst (λ (M : Order). AreRowsOf n.facts.setting M events answers) fed (rows_follow hold follow come L rest n m events answers node of runs);
    comes = come L n m events answers node of runs;
  }

  one_life : (uuid : List ℕ) (p : Setting) (O : Order) (d h : ℕ) (given : List Reply) (image : List ℕ) (life : Life D) → IsFrontOf Means uuid p (take h O) d image → AreRepliesOf (take d (history_of p O)) given
      → IsLife g image life → IsFed g O life → LifeFollows g uuid p O d h given life
  one_life uuid p O d h given image life f kept is is_fed =
      let e = f.end in
      let L : Order = take e O in
      let opening = opened_on uuid p O d h given image life.old life.start f kept is.on is.opens in
      let n : Node = opening.0 in
      let opens = opening.1 in
      let first = is.ran n opens.holds in
      let k : Node = first.0 in
      let A1 = accepted_by life.events life.answers in
      let A2 = accepted_by life.begun life.untold in
      let rest = is_fed.rest in
      let fed : ((L ++ A1) ++ A2) ++ rest ≡ O = ap (λ j. ((take j O ++ A1) ++ A2) ++ rest) (sym opens.durable) ∙ is_fed.whole in
      let fed_first : (L ++ A1) ++ (A2 ++ rest) ≡ O = sym (append_assoc (L ++ A1) A2 rest) ∙ fed in
      let follows = ran_on O L (A2 ++ rest) n life.events life.answers k opens.holds.node opens.of first.1.runs fed_first in
      let second = is.ran_on k first.2 in
      let m : Node = second.0 in
      let follows_on = ran_on O (L ++ A1) rest k life.begun life.untold m first.2.node follows.comes.order second.1.runs fed in
      let uuid_k : k.facts.uuid ≡ uuid = follows.comes.uuid ∙ opens.uuid_is in
      let setting_k : k.facts.setting ≡ p = follows.comes.setting ∙ opens.setting_is in
      let durable_k : k.facts.durable ≡ (facts_of g life.mid).durable = ap (λ (s : Standing). s.durable) first.2.facts in
      let c = (facts_of g life.mid).durable in
      let count : length ((L ++ A1) ++ A2) ≡ delivered (facts_of g life.last) = sym (hold ((L ++ A1) ++ A2) m follows_on.comes.node follows_on.comes.order).count ∙ ap delivered second.2.facts in
      let whole : (L ++ A1) ++ A2 ≡ take (delivered (facts_of g life.last)) O = sym (take_at ((L ++ A1) ++ A2) rest (delivered (facts_of g life.last)) count) ∙ ap (take (delivered (facts_of g life.last))) fed in
      let as_said : (M : Order) → IsFrontOf Means k.facts.uuid k.facts.setting M k.facts.durable life.left → IsFrontOf Means uuid p M c life.left =
      λ M front. subst (λ j. IsFrontOf Means uuid p M j life.left) durable_k (subst (λ (q : Setting). IsFrontOf Means uuid q M k.facts.durable life.left) setting_k (subst (λ (u : List ℕ). IsFrontOf Means u k.facts.setting M k.facts.durable life.left) uuid_k front)) in
      let here : IsImage (g.history life.mid.engine.disk) life.left → IsFrontOf Means uuid p (take (delivered (facts_of g life.last)) O) c life.left =
      λ i. subst (λ (M : Order). IsFrontOf Means uuid p M c life.left) whole
      (front_longer Means uuid p (L ++ A1) A2 c life.left (as_said (L ++ A1) (stopped.leaves (L ++ A1) k life.mid (stopped.of_node k life.mid first.2) follows.comes.order life.left i))) in
      let there : IsFrontOf Means k.facts.uuid k.facts.setting ((L ++ A1) ++ A2) k.facts.durable life.left → IsFrontOf Means uuid p (take (delivered (facts_of g life.last)) O) c life.left =
      λ front. subst (λ (M : Order). IsFrontOf Means uuid p M c life.left) whole (as_said ((L ++ A1) ++ A2) front) in
      record {
        position = e;
        start = n;
        opens = opens;
        mid = k;
        came = first.2;
        follows = follows;
        last = m;
        went_on = second.2;
        follows_on = follows_on;
        front = by here there ((second.1.leaves (L ++ A1) follows.comes.order).since (moment (g.history life.mid.engine.disk)) life.left (omega arith) is.stop);
      }
    where
      by : {F G : Type 0} → (IsImage (g.history life.mid.engine.disk) life.left → F) → (G → F) → ImageSince (g.history life.mid.engine.disk) (moment (g.history life.mid.engine.disk)) life.left ⊎ G → F
      by here there (inl since) = here ((moments.of_none (g.history life.mid.engine.disk) life.left).0 since)
      by here there (inr front) = there front

  -- the replies that were given by its end are of items that were durable then
  given_then : (uuid : List ℕ) (p : Setting) (O : Order) (d h : ℕ) (given : List Reply) (life : Life D) → LifeFollows g uuid p O d h given life
      → AreRepliesOf (take (facts_of g life.mid).durable (history_of p O)) (given ++ acknowledged life.answers)
  given_then uuid p O d h given life one =
      let opens = one.opens in
      let b = one.start.facts.durable in
      let e = one.mid.facts.durable in
      let first : b ≡ one.position = ap (λ (s : Standing). s.durable) opens.holds.facts ∙ opens.durable in
      let last : e ≡ (facts_of g life.mid).durable = ap (λ (s : Standing). s.durable) one.came.facts in
      let told : acknowledged life.answers ≡ map reply_of (take (e - b) (drop one.position (history_of p O))) =
      one.follows.answers_are.replied ∙ ap (λ (q : Setting). map reply_of (take (e - b) (drop b (history_of q O)))) opens.setting_is ∙ ap (λ i. map reply_of (take (e - b) (drop i (history_of p O)))) first in
      let all : one.position + (e - b) ≡ (facts_of g life.mid).durable = omega (arith, one.follows.comes.rises, first, last) in
      subst (λ i. AreRepliesOf (take i (history_of p O)) (given ++ acknowledged life.answers)) all (replies_more one.position (e - b) (history_of p O) given (acknowledged life.answers) opens.kept told)

  follow_on : (uuid : List ℕ) (p : Setting) (O : Order) (d h : ℕ) (given : List Reply) (image : List ℕ) (lives : List (Life D)) → IsFrontOf Means uuid p (take h O) d image → AreRepliesOf (take d (history_of p O)) given
      → Lives g image lives → AreFed g O lives → LivesFollow g uuid p O d h given lives
  follow_on uuid p O d h given image [] f kept is fed = tt
  follow_on uuid p O d h given image (life ∷ lives) f kept is fed =
      let one = one_life uuid p O d h given image life f kept is.0 fed.0 in (
        one,
        follow_on uuid p O (facts_of g life.mid).durable (delivered (facts_of g life.last)) (given ++ acknowledged life.answers) life.left lives one.front (given_then uuid p O d h given life one) is.1 fed.1,
      )

  pub lives_follow : LivesFollowTheOrder g
  lives_follow uuid p O d h image lives f is fed = follow_on uuid p O d h [] image lives f (λ r has. absurd (omega (arith, has.1))) is fed
