use Rattle.std.proofs.Common.{◌≡◌, ◌↔◌, true, false, List, refl, subst, arith}
use Rattle.rep_types.specs.declared.reach.Reach.{Reach}
use Rattle.rep_types.specs.Entries.{Entry}
use Rattle.rep_types.specs.Windows.{Window as Kept}
use Rattle.rep_layout.specs.Windows.{Window, IsWindowBody}
use Rattle.rep_layout.proofs.Windows.{window_of_tests, tests_of_window}
use Rattle.rep_layout.proofs.window_body.WindowBody.fits.Goals as goal

-- what it holds
abbrev held : Reach → List Entry → Kept
held r es = record { size = r.size; floor = r.floor; entries = es }

pub returns-then-not-is_reach-clause-is : goal.returns-then-not-is_reach-clause-is
returns-then-not-is_reach-clause-is c =
    let s = c.self.inside in
    subst (λ (w : Window). (false ≡ true) ↔ IsWindowBody c.args.params.now w) c.self.view_is (
      λ e. absurd cc,
      λ h.
          let t = tests_of_window c.args.params.now s.format s.number s.position (held s.reach s.entries.now) s.reach refl h in
          let yes = c.is_reach.ensures.only s.entries.now t.said t.least t.most in
          absurd cc,
    )

pub returns-clause-is : goal.returns-clause-is
returns-clause-is c =
    let s = c.self.inside in
    subst (λ (w : Window). (c.follows.result ≡ true) ↔ IsWindowBody c.args.params.now w) c.self.view_is (
      λ e.
          window_of_tests c.args.params.now s.format s.number s.position (held s.reach s.entries.now) s.reach refl (omega arith) (omega arith)
          (record {
            said = c.is_reach.ensures.said s.entries.now c.if-not-is_reach.false;
            size = c.is_reach.ensures.size;
            least = c.is_reach.ensures.least c.if-not-is_reach.false;
            most = c.is_reach.ensures.most c.if-not-is_reach.false;
            few = omega (arith, c.if-self-get.false, c.get.ensures.seqnos);
            follow = c.follows.ensures.0 e;
          }),
      λ h.
          let t = tests_of_window c.args.params.now s.format s.number s.position (held s.reach s.entries.now) s.reach refl h in
          c.follows.ensures.1 t.follow,
    )
