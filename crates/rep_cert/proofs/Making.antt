-- What a certifier holds that is made with a window.
use Rattle.std.proofs.Common.{◌≡◌, ℕ, ◌+◌, ◌-◌, ◌≤◌, max, List, [], ◌∷◌, All, ap, ◌∙◌, le_refl, arith}
use Rattle.std.proofs.lemmas.List.Elements.{All-weaker}
use Rattle.rep_types.specs.declared.reach.Reach.{Reach}
use Rattle.rep_types.specs.Entries.{Entry}
use Rattle.rep_types.specs.Settings.{Setting}
use Rattle.rep_types.specs.Windows.{Window}
use Rattle.rep_types.specs.Order.{recent}
use Rattle.rep_types.proofs.Windows.{recent_all}
use Rattle.rep_cert.specs.Holdings.{IsOfPosition, back, made_at, raised, spanned, upto, window_of}
use Rattle.rep_cert.proofs.Ascending.{upto_below}
use Rattle.rep_cert.proofs.Reaching.{back_last}
use Rattle.rep_cert.proofs.Kept.{entries_alike, recent_within}

-- it gives what the position leaves of the window
pub window_of_made : (p : Setting) (position : ℕ) (v : Window) → window_of (made_at p position v) position ≡ spanned (raised v.size v.floor position) position v.entries
window_of_made p position v =
    let r : Reach = raised v.size v.floor position in
    let here : position - position ≡ 0 = omega arith in
    let last : back (r ∷ []) (position - position) ≡ r = ap (back (r ∷ [])) here ∙ back_last [] r in
    ap (λ (q : Reach). spanned q position (recent r.floor (upto position v.entries))) last
    ∙ entries_alike r _ _ (recent_within r.floor r.floor position position v.entries (le_refl r.floor) (le_refl position))

-- of a window of the form it leaves all
pub spanned_whole : (position : ℕ) (v : Window) → IsOfPosition position v → spanned (raised v.size v.floor position) position v.entries ≡ v
spanned_whole position v is =
    let same : max v.floor (position + 1 - v.size) ≡ v.floor = omega (arith, is.spans) in
    let past : All (λ (e : Entry). e.seqno ≤ position) v.entries =
    All-weaker (λ (e : Entry). (v.floor ≤ e.seqno) × (e.seqno ≤ position)) (λ (e : Entry). e.seqno ≤ position) (λ e h. h.1) v.entries is.entries in
    let above : All (λ (e : Entry). v.floor ≤ e.seqno) v.entries =
    All-weaker (λ (e : Entry). (v.floor ≤ e.seqno) × (e.seqno ≤ position)) (λ (e : Entry). v.floor ≤ e.seqno) (λ e h. h.0) v.entries is.entries in
    ap (λ (f : ℕ). made f (recent f (upto position v.entries))) same
    ∙ ap (made v.floor) (ap (recent v.floor) (upto_below position position v.entries (le_refl position) past) ∙ recent_all v.floor v.entries above)
  where
    made : ℕ → List Entry → Window
    made f es = record { size = v.size; floor = f; entries = es }

-- so it gives such a window again
pub made_whole : (p : Setting) (position : ℕ) (v : Window) → IsOfPosition position v → window_of (made_at p position v) position ≡ v
made_whole p position v is = window_of_made p position v ∙ spanned_whole position v is
