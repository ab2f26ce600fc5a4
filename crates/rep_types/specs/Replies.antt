-- What the origin of an item is told.
use Rattle.rep_types.specs.declared.judged.Judged.{Judged}
use Rattle.rep_types.specs.declared.reply.Reply.{Reply}
use Rattle.rep_types.specs.Items.{source_of, trx_of}

-- the reply to the origin of a delivered item
abbrev pub reply_of : Judged → Reply
reply_of j = record { seqno = j.seqno; verdict = j.verdict; source = source_of j.item; trx = trx_of j.item }
