-- The windows that a certifier holds can be written.
use Rattle.std.proofs.Common.{◌≡◌, ◌⊎◌, inl, inr, ℕ, ◌+◌, ◌<◌, ◌≤◌, List, [], ◌∷◌, sym, subst, arith}
use Rattle.std.specs.List.{AllByRecursion}
use Rattle.std.proofs.lemmas.Bool.{cases_lt}
use Rattle.std.proofs.lemmas.List.Elements.{All-from_recursion}
use Rattle.rep_types.specs.Entries.{Entry}
use Rattle.rep_types.specs.Settings.{Setting}
use Rattle.rep_types.specs.declared.item.Item.{Item}
use Rattle.rep_types.specs.Windows.{Window}
use Rattle.rep_layout.specs.Windows.{IsEntry, IsWindowAt}
use Rattle.rep_types.specs.Items.{IsWithin}
use Rattle.rep_layout.specs.GoingOn.{WindowsGoOn}
use Rattle.rep_cert.specs.Holdings.{Holding, IsAskable, Admits, IsOfPosition, GivesItsWindow, window_of, made_at}
use Rattle.rep_engine.specs.Checking.{HoldsWindows, CertifiersHoldWindows}

-- a window of a position has the form of one there
entries_there : (p : Setting) (lowest position : ℕ) (es : List Entry) → AllByRecursion (IsEntry p lowest position) es → AllByRecursion (λ (e : Entry). (lowest ≤ e.seqno) × (e.seqno ≤ position)) es
entries_there p lowest position [] h = tt
entries_there p lowest position (e ∷ es) h = ((h.0.near, h.0.past), entries_there p lowest position es h.1)

of_position : (p : Setting) (position : ℕ) (v : Window) → IsWindowAt p position v → IsOfPosition position v
of_position p position v is = record {
  spans = omega (arith, is.least);
  entries = All-from_recursion (λ (e : Entry). (v.floor ≤ e.seqno) × (e.seqno ≤ position)) v.entries (entries_there p v.floor position v.entries is.entries);
}

first_window : GivesItsWindow → (p : Setting) (position : ℕ) (v : Window) → IsWindowAt p position v → window_of (made_at p position v) position ≡ v
first_window gives p position v is = gives.whole p position v (of_position p position v is)

made_windows : GivesItsWindow → (p : Setting) (position : ℕ) (v : Window) → IsWindowAt p position v → HoldsWindows (made_at p position v)
made_windows gives p position v is k askable =
    let at : k ≡ position = omega (arith, askable.made, askable.past) in
    subst (λ m. IsWindowAt p m (window_of (made_at p position v) m)) (sym at) (subst (IsWindowAt p position) (sym (first_window gives p position v is)) is)

module _ (law : WindowsGoOn) (h new : Holding) (i : Item) (start : h.made ≤ h.delivered) (within : IsWithin i) (windows : HoldsWindows h) (admits : Admits h i new) where
  admitted_by : (k : ℕ) → IsAskable new k → ((k < new.delivered) ⊎ (new.delivered ≤ k)) → IsWindowAt new.setting k (window_of new k)
  admitted_by k askable (inl before) =
      let past : k ≤ h.delivered = omega (arith, before, admits.delivered) in
      let was = windows k (record { made = omega (arith, askable.made, admits.made); near = omega (arith, askable.near, admits.delivered); past = past }) in
      subst (λ (p : Setting). IsWindowAt p k (window_of new k)) (sym admits.setting) (subst (IsWindowAt h.setting k) (sym (admits.kept k askable past)) was)
  admitted_by k askable (inr last) =
      let at : k ≡ new.delivered = omega (arith, last, askable.past) in
      let was = windows h.delivered (record { made = start; near = omega arith; past = omega arith }) in
      let next = law.next h.setting h.delivered (window_of h h.delivered) i within was in
      let there = subst (λ m. IsWindowAt h.setting m (window_of new new.delivered)) (sym admits.delivered) (subst (IsWindowAt h.setting (h.delivered + 1)) (sym admits.next) next) in
      subst (λ m. IsWindowAt new.setting m (window_of new m)) (sym at) (subst (λ (p : Setting). IsWindowAt p new.delivered (window_of new new.delivered)) (sym admits.setting) there)

  admitted_windows : HoldsWindows new
  admitted_windows k askable = admitted_by k askable (cases_lt k new.delivered)

pub hold_windows : WindowsGoOn → GivesItsWindow → CertifiersHoldWindows
hold_windows law gives = record {
  first = first_window gives;
  made = made_windows gives;
  admits = λ h new i start within windows admits. admitted_windows law h new i start within windows admits;
}
