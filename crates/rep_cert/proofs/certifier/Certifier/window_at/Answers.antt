use Rattle.std.proofs.Common.{◌≡◌, ◌++◌, ℕ, List, subst, sym, ap, ◌∙◌}
use Rattle.rep_types.specs.declared.reach.Reach.{Reach}
use Rattle.rep_types.specs.Entries.{Entry}
use Rattle.rep_types.specs.Order.{recent}
use Rattle.rep_cert.specs.Holdings.{Holdings, IsAskable, spanned, upto, window_of}
use Rattle.rep_cert.specs.Kept.{holding}
use Rattle.rep_cert.proofs.Kept.{entries_alike, window_of_holding}
use Rattle.rep_cert.proofs.certifier.Certifier.window_at.Goals as goal

pub returns-clause-window : goal.returns-clause-window
returns-clause-window c =
    let s = c.self.inside in
    let k : ℕ = c.args.position in
    let all : List Entry = s.given.items ++ s.admitted.items in
    let reach : Reach = c.reach_before-reach.result in
    let P : Holdings → Type 0 = λ v. IsAskable v.current k in
    let asked : IsAskable (holding s.params s.made_at s.delivered s.reaches.items all) k = subst P (sym c.self.view_is) c.requires in
    let entries : c.in_ok-entries.entries.items ≡ recent reach.floor (upto k all) =
    c.in_ok-entries.ensures.between ∙ ap (λ (es : List Entry). recent reach.floor (upto k (es ++ s.admitted.items))) c.deref.ensures.value in
    c.new.ensures
    ∙ (entries_alike reach _ _ entries
    ∙ (ap (λ (r : Reach). spanned r k all) c.reach_before-reach.ensures
    ∙ (sym (window_of_holding s.params s.made_at s.delivered k s.undoable s.reaches.items s.reaches.capacity all c.self.invariant.1 asked)
    ∙ ap (λ (v : Holdings). window_of v.current k) c.self.view_is)))
