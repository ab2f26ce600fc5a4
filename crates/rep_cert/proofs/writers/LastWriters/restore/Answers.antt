use Rattle.std.proofs.Common.{◌<◌, ℕ, List, [], ◌∷◌, length, set, All, sym, ap, subst, ◌∙◌, arith}
use Rattle.std.proofs.Math.ListN.{length-set}
use Rattle.std.proofs.lemmas.List.Elements.{All-weaker}
use Rattle.rep_cert.specs.declared.writers.Former.{Former}
use Rattle.rep_cert.specs.Writers.{restored}
use Rattle.rep_cert.proofs.LastWriters.{All-first}
use Rattle.rep_cert.proofs.Places.{restored_push}
use Rattle.rep_cert.proofs.writers.LastWriters.restore.Goals as goal

pub loop-former-preserved : goal.loop-former-preserved
loop-former-preserved c =
    let seqnos : List ℕ = c.loop-former.self.seqnos.items in
    let f : Former = c.in-Some.former in
    record {
      starts = c.loop-former.invariant.starts;
      inside =
          All-weaker (λ (g : Former). g.place < length seqnos) (λ (g : Former). g.place < length (set seqnos f.place f.seqno)) (λ g h. omega (arith, length-set seqnos f.place f.seqno))
          c.pop.new.self.items
          (All-first (λ (g : Former). g.place < length seqnos) c.pop.new.self.items (f ∷ [])
          (subst (All (λ (g : Former). g.place < length seqnos)) c.in-Some.ensures.items c.loop-former.invariant.inside));
      same =
          sym (restored_push c.pop.new.self.items f seqnos)
          ∙ (ap (λ (fs : List Former). restored fs seqnos) (sym c.in-Some.ensures.items) ∙ c.loop-former.invariant.same);
    }
