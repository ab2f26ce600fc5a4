use Rattle.std.proofs.Common.{◌≡◌, ℕ, List, map, max, sym, ap, ◌∙◌}
use Rattle.rep_types.specs.declared.value.Write.{Write}
use Rattle.rep_types.specs.Transactions.{key_of, written}
use Rattle.rep_cert.specs.Writers.{HasPlace, writer, greatest_of}
use Rattle.rep_cert.proofs.LastWriters.{greatest_of-append, All-second}
use Rattle.rep_cert.proofs.writers.LastWriters.last_of.Goals as goal

pub last_of_writes-requires : goal.last_of_writes-requires
last_of_writes-requires c =
    rw c.writes.ensures.writes (All-second (HasPlace c.args.self.now.starts.items c.args.self.now.seqnos.items) c.args.item.now.reads (written c.args.item.now) c.requires)

pub returns : goal.returns
returns c =
    let number = writer c.args.self.now.starts.items c.args.self.now.seqnos.items in
    let reads : c.last_of_keys.result ≡ greatest_of number c.args.item.now.reads = c.last_of_keys.ensures ∙ ap (greatest_of number) c.reads.ensures.reads in
    let writes : c.last_of_writes.result ≡ greatest_of number (written c.args.item.now) =
    c.last_of_writes.ensures ∙ ap (λ (ws : List Write). greatest_of number (map key_of ws)) c.writes.ensures.writes in
    c.later.ensures
    ∙ (ap (λ (n : ℕ). max n c.last_of_writes.result) reads
    ∙ (ap (max (greatest_of number c.args.item.now.reads)) writes ∙ sym (greatest_of-append number c.args.item.now.reads (written c.args.item.now))))
