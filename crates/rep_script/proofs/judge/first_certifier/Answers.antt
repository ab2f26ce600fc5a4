use Rattle.std.proofs.Common.{◌≡◌, ◌∙◌, ◌-◌, ℕ, max, arith, List, [], Result, Ok, Err, IfOk, None, refl, ap}
use Rattle.rep_types.specs.declared.refusal.Refusal.{Refusal}
use Rattle.rep_types.specs.Entries.{Entry}
use Rattle.rep_types.specs.Settings.{Setting}
use Rattle.rep_types.specs.Windows.{Window, fixed}
use Rattle.rep_types.specs.Order.{window}
use Rattle.rep_cert.specs.Holdings.{Holdings, made_at}
use Rattle.rep_cert.specs.Following.{Follows}
use Rattle.rep_script.proofs.judge.first_certifier.Goals as goal

-- a certifier that is made with the window after no item follows the empty order
follows_none : (p : Setting) (v : Window) (made : Result Holdings Refusal) → v ≡ window p [] → Follows (made_at p 0 (window p [])) [] →
    IfOk made (λ c. c ≡ record { current = made_at p 0 v; before = None }) → IfOk made (λ c. (c.current.setting ≡ p) × Follows c.current [])
follows_none p v (Ok c) is follows same = rw (same, is) (refl, follows)
follows_none p v (Err e) is follows same = tt

pub returns-clause-made : goal.returns-clause-made
returns-clause-made c =
    let p = c.args.params in
    let low : max 1 (1 - p.window) ≡ 1 = omega arith in
    let spanned : ℕ → Window = λ n. record { size = p.window; floor = n; entries = [] } in
    let first : c.fixed-window.result ≡ window p [] =
    c.fixed-window.ensures
    ∙ (ap (λ n. fixed n 0 c.new.result.items) c.window_size.ensures ∙ (ap (λ (es : List Entry). fixed p.window 0 es) c.new.ensures.items ∙ ap spanned low)) in
    follows_none p c.fixed-window.result c.new-2.result first (c.follows_from_the_start.ensures.follows p []) c.new-2.ensures.made
