-- Lives one after another, with one more.
use Rattle.std.proofs.Common.{◌≡◌, ◌⊎◌, inl, inr, ℕ, List, [], ◌∷◌, ◌++◌, ◌+◌, ◌<◌, length, get_or, take, refl, sym, ap, subst, ◌∙◌}
use Rattle.std.specs.Prelude.{⊤}
use Rattle.std.specs.declared.vec.Vec.{Vec}
use Rattle.std.proofs.lemmas.List.{take_more}
use Rattle.rep_types.specs.declared.refusal.Refusal.{Refusal}
use Rattle.rep_types.specs.declared.refusal.Refusal.TheVariants.{OutOfMemory, DiskFault}
use Rattle.rep_types.specs.declared.reply.Reply.{Reply}
use Rattle.rep_types.specs.Settings.{Setting}
use Rattle.rep_types.specs.Order.{Order}
use Rattle.rep_disk.specs.declared.disk.Disk.{Ghosts}
use Rattle.rep_disk.specs.History.{seen}
use Rattle.rep_disk.specs.Laws.{ImagesOfAMoment, MomentsOfCalls}
use Rattle.rep_steps.specs.declared.event.Event.{Event}
use Rattle.rep_steps.specs.declared.answer.Answer.{Answer}
use Rattle.rep_steps.specs.Standings.{delivered}
use Rattle.rep_steps.specs.Runs.{acknowledged}
use Rattle.rep_steps.specs.Images.{Meaning}
use Rattle.rep_image.specs.Meanings.{Means}
use Rattle.rep_recover.specs.Opening.{RefusesToOpen, ReasonsExcludeMeanings}
use Rattle.rep_replica.specs.Replicas.{Replica, facts_of}
use Rattle.rep_replica.specs.Opening.{Opens}
use Rattle.rep_replica.specs.Running.{Ran, RunsAreJoined}
use Rattle.rep_replica.specs.Stopping.{StoppedReplicasHold}
use Rattle.rep_replica.specs.Lives.{Life, IsLife, Lives, LivesFollow, LivesFollowTheOrder}
use Rattle.uses_replica.specs.Living.{Did, DidEach, left_by, LivesOnce, IsUnlived, LivesOn, LivesUntil}

-- ---- one life

-- a replica that was opened, ran, and whose disk was taken out behind the last answer
pub lived_once : {D : Type 0} (g : Ghosts D) → RunsAreJoined g → StoppedReplicasHold g → ImagesOfAMoment → MomentsOfCalls
    → (old new : D) (start last : Replica D) (events : List Event) (answers : List Answer) → Opens g (g.history old) start → Ran g start last events answers → new ≡ last.engine.disk
    → LivesOnce g old events answers new
lived_once g joined stopped images moments old new start last events answers opens ran out =
    let h = g.history last.engine.disk in
    let at = ran _ opens.holds in
    record {
      life = record { old = g.history old; start = start; events = events; answers = answers; mid = last; begun = []; untold = []; last = last; left = seen h };
      did = record { events_are = refl; answers_are = refl; none_begun = refl };
      is_life = record { on = refl; opens = opens; ran = ran; ran_on = joined.no_run last; stop = (moments.of_none h (seen h)).1 (images.seen_is_one h) };
      left = subst (λ (d : _). seen h ≡ seen (g.history d)) (sym out) refl;
      is_honest = subst g.honest (sym out) (stopped.of_node at.0 last at.2).is_honest;
    }

-- a replica that was opened and did not run: no room for its answers
pub lived_none : {D : Type 0} (g : Ghosts D) → StoppedReplicasHold g → (old new : D) (start last : Replica D) (e : Refusal) → Opens g (g.history old) start → last ≡ start → e ≡ OutOfMemory → new ≡ last.engine.disk
    → IsUnlived g old e new
lived_none g stopped old new start last e opens same memory out =
    let is : new ≡ start.engine.disk = out ∙ ap (λ (r : Replica _). r.engine.disk) same in
    record {
      same = subst (λ (d : _). seen (g.history d) ≡ seen (g.history old)) (sym is) (ap seen opens.synced);
      is_honest = subst g.honest (sym is) (stopped.of_node _ start opens.holds).is_honest;
      reason = inl memory;
      fault = λ fault. absurd (let never : OutOfMemory ≡ DiskFault = sym memory ∙ fault in cc);
    }

-- ---- one life more

lives_more : {D : Type 0} (g : Ghosts D) (image : List ℕ) (lives : List (Life D)) (life : Life D) → Lives g image lives → IsLife g (left_by image lives) life
    → Lives g image (lives ++ life ∷ [])
lives_more g image [] life all one = (one, tt)
lives_more g image (first ∷ lives) life all one = (all.0, lives_more g first.left lives life all.1 one)

left_more : {D : Type 0} (image : List ℕ) (lives : List (Life D)) (life : Life D) → left_by image (lives ++ life ∷ []) ≡ life.left
left_more image [] life = refl
left_more image (first ∷ lives) life = left_more first.left lives life

did_more : {D Z : Type 0} (events : List (Vec Event Z)) (told : List (Vec Answer Z)) (lives : List (Life D)) (es : Vec Event Z) (bs : Vec Answer Z) (life : Life D) → DidEach events told lives → Did es.items bs.items life
    → DidEach (events ++ es ∷ []) (told ++ bs ∷ []) (lives ++ life ∷ [])
did_more [] [] [] es bs life all one = (one, tt)
did_more [] [] (first ∷ lives) es bs life all one = absurd all
did_more [] (answers ∷ told) lives es bs life all one = absurd all
did_more (e ∷ events) [] lives es bs life all one = absurd all
did_more (e ∷ events) (answers ∷ told) [] es bs life all one = absurd all
did_more (e ∷ events) (answers ∷ told) (first ∷ lives) es bs life all one = (all.0, did_more events told lives es bs life all.1 one)

-- The lives so far, from this disk to that.
pub record Going {D Z : Type 0} (g : Ghosts D) (old : D) (events : List (Vec Event Z)) (told : List (Vec Answer Z)) (now : D) : Type 0 where
  pub lives : List (Life D)
  pub did : DidEach events told lives
  pub are : Lives g (seen (g.history old)) lives
  pub left : left_by (seen (g.history old)) lives ≡ seen (g.history now)
  pub is_honest : g.honest now

module _ {D Z : Type 0} (g : Ghosts D) (old : D) where
  pub going_more : (events : List (Vec Event Z)) (told : List (Vec Answer Z)) (mid new : D) (es : Vec Event Z) (bs : Vec Answer Z) → Going g old events told mid → LivesOnce g mid es.items bs.items new
      → Going g old (events ++ es ∷ []) (told ++ bs ∷ []) new
  going_more events told mid new es bs going once = record {
    lives = going.lives ++ once.life ∷ [];
    did = did_more events told going.lives es bs once.life going.did once.did;
    are = lives_more g (seen (g.history old)) going.lives once.life going.are (subst (λ (image : List ℕ). IsLife g image once.life) (sym going.left) once.is_life);
    left = left_more (seen (g.history old)) going.lives once.life ∙ once.left;
    is_honest = once.is_honest;
  }

  -- with the next of all of them
  pub going_on : (all : List (Vec Event Z)) (i : ℕ) (told : List (Vec Answer Z)) (mid new : D) (es : Vec Event Z) (given : List Event) (bs : Vec Answer Z) → i < length all → es ≡ get_or all i es → given ≡ es.items → Going g old (take i all) told mid
      → LivesOnce g mid given bs.items new → Going g old (take (i + 1) all) (told ++ bs ∷ []) new
  going_on all i told mid new es given bs here is value going once =
      let front : take (i + 1) all ≡ take i all ++ es ∷ [] = take_more all i es here ∙ ap (λ (e : Vec Event Z). take i all ++ e ∷ []) (sym is) in
      rw front (going_more (take i all) told mid new es bs going (subst (λ (l : List Event). LivesOnce g mid l bs.items new) value once))

  pub gone : LivesFollowTheOrder g → (events : List (Vec Event Z)) (told : List (Vec Answer Z)) (now : D) → Going g old events told now → LivesOn g old events told now
  gone law events told now going = record { lives = going.lives; did = going.did; are_lives = going.are; left = going.left; is_honest = going.is_honest; follow = λ uuid p O d h front fed. law uuid p O d h (seen (g.history old)) going.lives front going.are fed }

-- ---- a refusal

-- what lives that follow an order leave means something
means_left : {D : Type 0} (g : Ghosts D) (uuid : List ℕ) (p : Setting) (O : Order) (d h : ℕ) (given : List Reply) (image : List ℕ) (lives : List (Life D)) (m : Meaning) → Means image m
    → LivesFollow g uuid p O d h given lives → (z : Meaning) × Means (left_by image lives) z
means_left g uuid p O d h given image [] m means all = (m, means)
means_left g uuid p O d h given image (life ∷ lives) m means all = means_left g uuid p O (facts_of g life.mid).durable (delivered (facts_of g life.last)) (given ++ acknowledged life.answers) life.left lives all.0.front.meaning all.0.front.reads all.1

not_of_bytes : ReasonsExcludeMeanings → (bytes : List ℕ) (e : Refusal) (m : Meaning) → Means bytes m → RefusesToOpen ⊤ bytes e → (e ≡ OutOfMemory) ⊎ (e ≡ DiskFault)
not_of_bytes exclude bytes e m means (inl memory) = inl memory
not_of_bytes exclude bytes e m means (inr (inl fault)) = inr fault
not_of_bytes exclude bytes e m means (inr (inr of_bytes)) = absurd (exclude bytes e m (of_bytes.1 tt) means)

module _ {D Z : Type 0} (g : Ghosts D) (old : D) where
  pub gone_until : LivesFollowTheOrder g → ReasonsExcludeMeanings → (events : List (Vec Event Z)) (count : ℕ) (told : List (Vec Answer Z)) (mid new : D) (e : Refusal) → Going g old (take count events) told mid
      → IsUnlived g mid e new → LivesUntil g old events e new
  unfolding gone
  gone_until law exclude events count told mid new e going unlived =
      let lived = gone g old law (take count events) told mid going in
      record {
        count = count;
        answers = told;
        mid = mid;
        lived = lived;
        refused = unlived;
        sound = λ uuid p O d h front fed.
            let left = means_left g uuid p O d h [] (seen (g.history old)) going.lives front.meaning front.reads (lived.follow uuid p O d h front fed) in
            not_of_bytes exclude (seen (g.history mid)) e left.0 (subst (λ (bytes : List ℕ). Means bytes left.0) going.left left.1) unlived.reason;
      }

  -- of memory, for the answers of a life that was lived
  pub gone_untold : LivesFollowTheOrder g → ReasonsExcludeMeanings → (events : List (Vec Event Z)) (count : ℕ) (told : List (Vec Answer Z)) (new : D) → Going g old (take count events) told new
      → LivesUntil g old events OutOfMemory new
  gone_untold law exclude events count told new going = gone_until law exclude events count told new new OutOfMemory going (record { same = refl; is_honest = going.is_honest; reason = inl refl; fault = λ is. absurd cc })
