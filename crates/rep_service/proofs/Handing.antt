-- Lines that are handed out and answered, while nothing is delivered.
use Rattle.std.proofs.Common.{◌≡◌, List, [], ◌∷◌, ◌++◌, ℕ, Option, Result, Ok, sym, subst, refl}
use Rattle.std.specs.Io.KnownBytes.{Keeps, Consumes}
use Rattle.std.proofs.KnownBytes.{Consumes-nil, Consumes-trans, Consumes-kept}
use Rattle.rep_types.specs.declared.refusal.Refusal.{Refusal}
use Rattle.rep_disk.specs.declared.disk.Disk.{Ghosts}
use Rattle.rep_requests.specs.Requests.{Requested, requested}
use Rattle.rep_replica.specs.Replicas.{Replica, facts_of}
use Rattle.rep_follow.specs.Joining.{PartsAreJoined}
use Rattle.rep_follow.specs.Taking.{text_of}
use Rattle.rep_service.specs.Living.{HandsLines, NotWrongCluster}
use Rattle.rep_service.proofs.Blanks.{text_push}
use Rattle.rep_service.proofs.Saying.{none_both, still_both, own_ok}
use Rattle.rep_service.proofs.Lives.{Did, lives_none, lives_both, lives_as, lives_quiet}
use Rattle.rep_service.proofs.Answered.{answered_whole, answered_as, answered_both, answered_line}

module _ {D : Type 0} (g : Ghosts D) where
  abbrev pub hands_as : (old new : Replica D) (text behind before after : Option (List ℕ)) (r : Result (Unit {0}) Refusal) → NotWrongCluster r → HandsLines g old new text behind before after (Ok tt) → HandsLines g old new text behind before after r
  hands_as old new text behind before after r own hands = record {
    lines = hands.lines;
    handed = hands.handed;
    said = hands.said;
    lives = lives_as g old new [] hands.said before after r hands.lives;
    still = hands.still;
    none = hands.none;
    answers = answered_as hands.lines hands.said r hands.answers;
    own = own;
  }

  abbrev pub hands_kept : (old new : Replica D) (text mid behind before after : Option (List ℕ)) (r : Result (Unit {0}) Refusal) → NotWrongCluster r → HandsLines g old new text mid before after (Ok tt) → Keeps mid behind → HandsLines g old new text behind before after r
  hands_kept old new text mid behind before after r own hands kept = record {
    lines = hands.lines;
    handed = Consumes-kept text mid behind (text_of hands.lines) hands.handed kept;
    said = hands.said;
    lives = lives_as g old new [] hands.said before after r hands.lives;
    still = hands.still;
    none = hands.none;
    answers = answered_as hands.lines hands.said r hands.answers;
    own = own;
  }

  module _ (parts : PartsAreJoined g) where
    abbrev pub hands_none : (r : Replica D) (text written : Option (List ℕ)) → HandsLines g r r text text written written (Ok tt)
    hands_none r text written = record { lines = []; handed = Consumes-nil text; said = []; lives = lives_none g parts r written (Ok tt); still = refl; none = refl; answers = answered_whole [] [] (Ok tt) refl; own = own_ok }

    -- one more line, at which nothing is delivered
    abbrev pub hands_more : (old between new : Replica D) (text mid behind before written after : Option (List ℕ)) (number : ℕ) (line : List ℕ) (request : Requested) (r : Result (Unit {0}) Refusal) → NotWrongCluster r → request ≡ requested number line → HandsLines g old between text mid before written (Ok tt)
        → Consumes mid behind (line ++ 10 ∷ []) → (facts_of g between).ahead ≡ [] → Did g request between new written after r → HandsLines g old new text behind before after r
    hands_more old between new text mid behind before written after number line request r own says hands handed none did = record {
      lines = hands.lines ++ line ∷ [];
      handed = subst (Consumes text behind) (sym (text_push hands.lines line)) (Consumes-trans text mid behind (text_of hands.lines) (line ++ 10 ∷ []) hands.handed handed);
      said = hands.said ++ did.said;
      lives = lives_both g parts old between new [] [] hands.said did.said before written after r hands.lives did.lives;
      still = still_both hands.said did.said hands.still (lives_quiet g between new did.said written after r none did.lives);
      none = none_both hands.said did.said hands.none did.none;
      answers = answered_both hands.lines (line ∷ []) hands.said did.said r hands.answers (answered_line g number line request says between new written after r did);
      own = own;
    }
