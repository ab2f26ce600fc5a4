-- Lives that are fed the lines of an order are fed the order.
use Rattle.std.proofs.Common.{◌≡◌, ℕ, zero, suc, ◌+◌, ◌-◌, List, [], ◌∷◌, ◌++◌, length, take, drop, inl, inr, refl, sym, ap, ◌∙◌, append_assoc, arith}
use Rattle.std.proofs.lemmas.Bool.{cases_lt}
use Rattle.std.proofs.lemmas.List.{take_at, take-append-drop, drop-append-le, drop-drop}
use Rattle.std.proofs.Math.ListN.{drop_of_length-le}
use Rattle.std.proofs.Math.Seq.{take-add}
use Rattle.rep_types.specs.declared.item.Item.{Item}
use Rattle.rep_types.specs.Settings.{Setting}
use Rattle.rep_types.specs.Order.{Order}
use Rattle.rep_types.proofs.Lists.{same_behind}
use Rattle.rep_disk.specs.declared.disk.Disk.{Ghosts}
use Rattle.rep_steps.specs.Runs.{accepted_by}
use Rattle.rep_replica.specs.Replicas.{facts_of}
use Rattle.rep_replica.specs.Episodes.{Episode, Runs, GivesUp, Brings, Breaks, Life, FedFrom, AreFed, LivesWithSnapshotsFollowTheOrder}
use Rattle.rep_follow.specs.Committing.{BringNothing, accepted_in}
use Rattle.rep_follow.specs.Taking.{items_in}
use Rattle.rep_follow.specs.Followers.{AreFedLines, FollowersFollowTheOrder}

none_taken : (n : ℕ) → take {A = Item} n [] ≡ []
none_taken zero = refl
none_taken (suc n) = refl

-- a front of what is left of the first is a front of what is left
front_left : (m most : ℕ) (items rest : List Item) → (behind : List Item) × (drop m (items ++ rest) ≡ take most (drop m items) ++ behind)
front_left m most items rest = elim (cases_lt (length items) m) [
  | inl past ↦ (
    drop m (items ++ rest),
    sym (ap (λ front. take most front ++ drop m (items ++ rest)) (drop_of_length-le items (omega (arith, past))) ∙ ap (λ front. front ++ drop m (items ++ rest)) (none_taken most)),
  )
  | inr within ↦ (
    drop most (drop m items) ++ rest,
    drop-append-le m items rest within ∙ ap (λ front. front ++ rest) (sym (take-append-drop most (drop m items))) ∙ append_assoc (take most (drop m items)) (drop most (drop m items)) rest,
  )
]

-- a front of the order, and what follows it, is a front of as many more
front_more : (O : Order) (k : ℕ) (more rest : List Item) → drop k O ≡ more ++ rest → take (k + length more) O ≡ take k O ++ more
front_more O k more rest behind = take-add k (length more) O ∙ ap (λ js. take k O ++ js) (ap (take (length more)) behind ∙ take_at more rest (length more) refl)

-- parts of a life whose items are the order's are fed the order
fed : {D : Type 0} (uuid : List ℕ) (p : Setting) (O : Order) (k : ℕ) (es : List (Episode D)) (rest : Order) → BringNothing es → drop k O ≡ accepted_in es ++ rest → FedFrom uuid p O k es
fed uuid p O k [] rest own behind = tt
fed uuid p O k (Runs events answers to ∷ es) rest own behind =
    let items = accepted_by events answers in
    let here : drop k O ≡ items ++ (accepted_in es ++ rest) = behind ∙ append_assoc items (accepted_in es) rest in
    let front : take (k + length items) O ≡ take k O ++ items = front_more O k items (accepted_in es ++ rest) here in
    let whole : (take k O ++ items) ++ (accepted_in es ++ rest) ≡ O =
    append_assoc (take k O) items (accepted_in es ++ rest) ∙ ap (λ js. take k O ++ js) (sym here) ∙ take-append-drop k O in
    let later : drop (k + length items) O ≡ accepted_in es ++ rest =
    same_behind (take k O ++ items) (drop (k + length items) O) (accepted_in es ++ rest)
    (ap (λ js. js ++ drop (k + length items) O) (sym front) ∙ take-append-drop (k + length items) O ∙ sym whole) in
    ((accepted_in es ++ rest, whole), fed uuid p O (k + length items) es rest own.1 later)
fed uuid p O k (GivesUp to ∷ es) rest own behind = fed uuid p O k es rest own behind
fed uuid p O k (Brings of y to ∷ es) rest own behind = absurd own
fed uuid p O k (Breaks of y to ∷ es) rest own behind = absurd own

fed_lives : {D : Type 0} (g : Ghosts D) (uuid : List ℕ) (p : Setting) (O : Order) (lives : List (Life D)) → AreFedLines g O lives → AreFed g uuid p O lives
fed_lives g uuid p O [] are = tt
fed_lives g uuid p O (life ∷ lives) are =
    let here = are.0 in
    let k : ℕ = (facts_of g life.start).durable in
    let es = life.past ++ life.begun in
    let items : List Item = items_in (here.position + 1) here.lines in
    let m : ℕ = k - here.position in
    let place : here.position + m ≡ k = omega (arith, here.begins) in
    let left : drop here.position O ≡ items ++ here.of.0 =
    same_behind (take here.position O) (drop here.position O) (items ++ here.of.0) (take-append-drop here.position O ∙ sym here.of.1) in
    let front = front_left m here.most items here.of.0 in
    let behind : drop k O ≡ accepted_in es ++ front.0 =
    ap (λ n. drop n O) (sym place) ∙ sym (drop-drop m here.position O) ∙ ap (drop m) left ∙ front.1 ∙ ap (λ js. js ++ front.0) (sym here.are) in
    (fed uuid p O k es front.0 here.own behind, fed_lives g uuid p O lives are.1)

pub followers_follow : {D : Type 0} (g : Ghosts D) → LivesWithSnapshotsFollowTheOrder g → FollowersFollowTheOrder g
followers_follow g law before uuid p O d h image lives front are fed_so = law before uuid p O d h image lives front are (fed_lives g uuid p O lives fed_so)
