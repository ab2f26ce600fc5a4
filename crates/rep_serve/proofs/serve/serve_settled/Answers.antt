use Rattle.std.proofs.Common.{rules, ◌≡◌, inr, length}
use Rattle.rep_serve.proofs.Telling.{places_within, end_own}
use Rattle.rep_script.proofs.Noting.{no_params, read_and_told}
use Rattle.rep_serve.proofs.serve.serve_settled.Goals as goal

pub tell-outcome-requires : goal.tell-outcome-requires
tell-outcome-requires g c =
    let first : c.deref.result.now ≡ c.in-Ok.items.items = search rules in
    let second : c.deref-2.result.now ≡ c.in-Ok.items.items = search rules in
    record {
      places = rw (second, ← first) (places_within c.deref.result.now _ _ _ c.serve_batch-replica.result.1.receipts.items (c.serve_batch-replica.ensures.served c.requires.running).told);
      own = end_own c.args.replica c.serve_batch-replica.result.0 (length c.deref.result.now) c.serve_batch-replica.result.1.receipts.items c.serve_batch-replica.result.1.end c.serve_batch-replica.ensures.ended;
    }

pub returns-clause-serves : goal.returns-clause-serves
returns-clause-serves g c =
    let first : c.deref.result.now ≡ c.in-Ok.items.items = search rules in
    let second : c.deref-2.result.now ≡ c.deref.result.now = search rules in
    inr (record {
      items = c.deref.result.now;
      read = rw first c.in-Ok.ensures.read;
      receipts = c.serve_batch-replica.result.1.receipts.items;
      end = c.serve_batch-replica.result.1.end;
      served = c.serve_batch-replica.ensures.served c.requires.running;
      ended = c.serve_batch-replica.ensures.ended;
      told = rw (← second) c.tell-outcome.ensures.told;
    })

-- ---- the notes of the streams

pub returns-in-Err-clause-notes : goal.returns-in-Err-clause-notes
returns-in-Err-clause-notes g c = no_params _ _ _ _ _ c.in-Err.refusal (λ long. long) (rw c.in-Err.is at c.read_items.ensures.notes)

pub returns-clause-notes : goal.returns-clause-notes
returns-clause-notes g c = read_and_told _ _ _ _ _ c.in-Ok.items c.tell-outcome.result (rw c.in-Ok.is at c.read_items.ensures.notes) c.tell-outcome.ensures.notes
