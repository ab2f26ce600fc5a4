use Rattle.std.proofs.Common.{append_assoc}
use Rattle.rep_pages.proofs.page.HeadPut.put.Goals as goal

pub returns-clause-put : goal.returns-clause-put
returns-clause-put g c = record {
  fits = record { number = c.put_front.ensures.number; table = c.put_front.ensures.table; row = c.put_u32.ensures.fits; position = c.put_u64.ensures.fits };
  bytes = rw (c.put_zeros.ensures, c.put_u64.ensures.bytes, c.put_u32.ensures.bytes, c.put_front.ensures.bytes) (simp append_assoc);
}
