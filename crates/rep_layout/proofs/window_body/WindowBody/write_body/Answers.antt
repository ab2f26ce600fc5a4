use Rattle.std.proofs.Common.{◌≡◌, subst, arith}
use Rattle.rep_layout.specs.Windows.{Window, window_bytes}
use Rattle.rep_layout.proofs.Windows.{written}
use Rattle.rep_layout.proofs.window_body.WindowBody.write_body.Goals as goal

pub returns-clause-bytes : goal.returns-clause-bytes
returns-clause-bytes c = (
  c.fits.ensures.is.0 c.if-not-fits.false,
  subst (λ (w : Window). c.put_zeros.new.out.items ≡ window_bytes w) c.self.view_is
      (written _ c.put.new.out.items c.put_run.new.out.items _ _ (grind (arith, c.put.ensures.put.bytes)) c.put_run.ensures.bytes (omega (arith, c.len-rest.ensures.value)) c.put_zeros.ensures),
)
