use Rattle.std.proofs.Common.{◌≡◌, ℕ, ◌+◌, ◌++◌, [], ◌∷◌, List, length, get_or, take, sym, ap, ◌∙◌, arith}
use Rattle.std.specs.List.{sum_by}
use Rattle.std.proofs.lemmas.List.{length-take, take_more}
use Rattle.std.proofs.lemmas.List.Sums.{sum_by_more}
use Rattle.rep_cert.specs.Writers.{starts_from}
use Rattle.rep_cert.proofs.Places.{total, length-starts_from, starts_from_push}
use Rattle.rep_cert.proofs.writers.starts_of.Goals as goal

pub push-requires : goal.push-requires
push-requires c =
    let rows : List ℕ = take c.loop-count.count-index c.args.rows.now in
    let so_many : length c.loop-count.starts.items ≡ length rows = ap length c.loop-count.invariant.starts ∙ length-starts_from 0 rows in
    omega (arith, length-take c.loop-count.count-index c.args.rows.now)

pub loop-count-preserved : goal.loop-count-preserved
loop-count-preserved c =
    let all : List ℕ = c.args.rows.now in
    let i : ℕ = c.loop-count.count-index in
    let count : ℕ = get_or all i 0 in
    let more : take (i + 1) all ≡ take i all ++ count ∷ [] = take_more all i 0 c.loop-count-test.true in
    let sum : sum_by (λ (n : ℕ). n) (take (i + 1) all) ≡ total (take i all) + count = sum_by_more (λ (n : ℕ). n) all i 0 c.loop-count-test.true in
    let zero : total (take i all) ≡ 0 + total (take i all) = omega arith in
    record {
      starts =
          c.push.ensures.items
          ∙ (ap (λ (ns : List ℕ). ns ++ c.loop-count.total ∷ []) c.loop-count.invariant.starts
          ∙ (ap (λ (n : ℕ). starts_from 0 (take i all) ++ n ∷ []) (c.loop-count.invariant.total ∙ zero) ∙ sym (ap (starts_from 0) more ∙ starts_from_push 0 (take i all) count)));
      total = ap (λ (n : ℕ). n + count) c.loop-count.invariant.total ∙ sym sum;
      small = omega (arith, c.type_inv.rows i);
    }
