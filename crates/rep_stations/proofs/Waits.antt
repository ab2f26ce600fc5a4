-- What waits of a history as that goes on.
use Rattle.std.proofs.Common.{◌≡◌, ℕ, ◌+◌, ◌-◌, ◌≤◌, true, List, [], ◌∷◌, ◌++◌, length, length-drop, drop, sym, ap, subst, ◌∙◌, arith}
use Rattle.std.proofs.Math.Seq.{take-append_seam, drop-append_seam}
use Rattle.std.proofs.lemmas.List.{length_push, drop-append-le, drop-drop, drop_all}
use Rattle.rep_types.specs.declared.judged.Judged.{Judged}
use Rattle.rep_record.specs.Records.{is_placed}
use Rattle.rep_cert.specs.Holdings.{Holding}
use Rattle.rep_steps.specs.Judging.{JudgingGoesOn}
use Rattle.rep_replica.specs.Replicas.{ArePlaced}
use Rattle.rep_stations.specs.Judging.{Legal, start_of}
use Rattle.rep_stations.specs.Waiting.{Waits, HistoriesGoOn}

legal_front : JudgingGoesOn → (first : Holding) (front rest : List Judged) → Legal first (front ++ rest) → Legal first front
legal_front goes first front rest legal = subst (Legal first) (take-append_seam front rest) (goes.judged_front first.setting (start_of first) (length front) (front ++ rest) legal)

pub placed_front : (js ks : List Judged) → ArePlaced (js ++ ks) → ArePlaced js
placed_front [] ks all = tt
placed_front (j ∷ js) ks all = (all.0, placed_front js ks all.1)

placed_more : (js : List Judged) (j : Judged) → ArePlaced js → is_placed j ≡ true → ArePlaced (js ++ j ∷ [])
placed_more [] j all one = (one, tt)
placed_more (first ∷ js) j all one = (all.0, placed_more js j all.1 one)

nothing_waits : (first : Holding) → Waits first [] first.delivered []
nothing_waits first = record { least = omega arith; most = omega arith; rest = sym (drop_all (first.delivered - first.delivered) [] (omega arith)) }

module _ (first : Holding) (items : List Judged) (seqno : ℕ) (backlog : List Judged) (waits : Waits first items seqno backlog) where
  long : length backlog ≡ length items - (seqno - first.delivered)
  long = ap length waits.rest ∙ length-drop (seqno - first.delivered) items

  pushed : (j : Judged) → Waits first (items ++ j ∷ []) seqno (backlog ++ j ∷ [])
  pushed j = record {
    least = waits.least;
    most = omega (arith, waits.most, length_push items j);
    rest = ap (λ (js : List Judged). js ++ j ∷ []) waits.rest ∙ sym (drop-append-le (seqno - first.delivered) items (j ∷ []) (omega (arith, waits.most, waits.least)));
  }

  taken : (count : ℕ) → count ≤ length backlog → Waits first items (seqno + count) (drop count backlog)
  taken count few = record {
    least = omega (arith, waits.least);
    most = omega (arith, waits.most, waits.least, few, long);
    rest = ap (drop count) waits.rest ∙ drop-drop count (seqno - first.delivered) items ∙ ap (λ k. drop k items) (omega (arith, waits.least));
  }

  counted : seqno + length backlog ≡ first.delivered + length items
  counted = omega (arith, long, waits.least, waits.most)

meets : (first : Holding) (front rest : List Judged) (seqno : ℕ) (backlog : List Judged) → Waits first (front ++ rest) seqno backlog → seqno ≡ first.delivered + length front → backlog ≡ rest
meets first front rest seqno backlog waits at = waits.rest ∙ ap (λ k. drop k (front ++ rest)) (omega (arith, at)) ∙ drop-append_seam front rest

pub histories_go_on : JudgingGoesOn → HistoriesGoOn
histories_go_on goes = record {
  legal_front = legal_front goes;
  placed_front = placed_front;
  placed_more = placed_more;
  nothing_waits = nothing_waits;
  pushed = λ first items seqno backlog j waits. pushed first items seqno backlog waits j;
  taken = λ first items seqno count backlog few waits. taken first items seqno backlog waits count few;
  count = λ first items seqno backlog waits. counted first items seqno backlog waits;
  meets = meets;
}
