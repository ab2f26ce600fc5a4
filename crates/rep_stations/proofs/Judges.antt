-- One more item is judged.
use Rattle.std.proofs.Common.{◌≡◌, ◌⊎◌, inl, inr, ℕ, ◌+◌, ◌-◌, ◌<◌, ◌≤◌, true, List, [], ◌∷◌, ◌++◌, sym, ap, ◌∙◌, arith}
use Rattle.std.proofs.lemmas.Bool.{cases_lt}
use Rattle.std.proofs.lemmas.List.{length_push, take_all, take-append-le}
use Rattle.rep_types.specs.declared.item.Item.{Item}
use Rattle.rep_types.specs.declared.judged.Judged.{Judged}
use Rattle.rep_types.specs.declared.limits.TheConstants.{MAX_SEQNO}
use Rattle.rep_types.specs.Settings.{Setting}
use Rattle.rep_types.specs.Windows.{Window}
use Rattle.rep_types.specs.Order.{State, judge, window_after}
use Rattle.rep_types.specs.Items.{IsWithin}
use Rattle.rep_record.specs.Records.{is_placed}
use Rattle.rep_cert.specs.Holdings.{Holding, IsAskable, Admits, window_of, reach_at}
use Rattle.rep_steps.specs.Nodes.{reached}
use Rattle.rep_steps.specs.Judging.{JudgingGoesOn, VerdictsHaveAPlace}
use Rattle.rep_engine.specs.Checking.{CertifiersHoldWindows}
use Rattle.rep_stations.specs.Judging.{Legal, HasJudged, start_of, next_of, window_in}

-- an item that was judged has a place
pub placed_next : VerdictsHaveAPlace → (h : Holding) (i : Item) → h.delivered < MAX_SEQNO → is_placed (next_of h i) ≡ true
placed_next places h i left = places.upto h.setting h.delivered (reach_at h h.delivered).size (reach_at h h.delivered).floor h.entries i left

module _ (goes : JudgingGoesOn) (first : Holding) (items : List Judged) (h new : Holding) (i : Item) (judged : HasJudged first items h) (admits : Admits h i new) where
  abbrev p : Setting
  p = first.setting

  abbrev S : State
  S = start_of first

  abbrev j : Judged
  j = next_of h i

  -- the present window is the history's
  present : window_of h h.delivered ≡ (reached p S items).kept
  present =
      let on : IsAskable h h.delivered = record { made = omega (arith, judged.made, judged.start, judged.delivered); near = omega arith; past = omega arith } in
      judged.behind h.delivered on (omega (arith, judged.delivered)) ∙ ap (λ (xs : List Judged). (reached p S xs).kept) (take_all (h.delivered - first.delivered) items (omega (arith, judged.delivered)))

  place : (reached p S items).position ≡ h.delivered
  place = goes.reached_position p S items ∙ sym judged.delivered

  seqno_is : j.seqno ≡ (reached p S items).position + 1
  seqno_is = ap (λ k. k + 1) (sym place)

  verdict_is : j.verdict ≡ judge p (reached p S items).position (reached p S items).kept i
  verdict_is =
      ap (λ (q : Setting). judge q h.delivered (window_of h h.delivered) i) judged.setting ∙ ap (λ (v : Window). judge p h.delivered v i) present ∙ ap (λ k. judge p k (reached p S items).kept i) (sym place)

  next_window : window_of new new.delivered ≡ (reached p S (items ++ j ∷ [])).kept
  next_window =
      admits.next ∙ ap (λ (q : Setting). window_after q h.delivered (window_of h h.delivered) i) judged.setting ∙ ap (λ (v : Window). window_after p h.delivered v i) present
      ∙ ap (λ k. window_after p k (reached p S items).kept i) (sym place) ∙ goes.window_next p (reached p S items).position (reached p S items).kept j seqno_is verdict_is
      ∙ sym (ap (λ (T : State). T.kept) (goes.reached_more p S items j))

  pub legal_more : Legal first items → Legal first (items ++ j ∷ [])
  legal_more legal = goes.judged_more p S items j legal (seqno_is, verdict_is, tt)

  -- a window that could be asked for
  was : (k : ℕ) → IsAskable new k → k ≤ h.delivered → IsAskable h k
  was k ask le = record { made = omega (arith, ask.made, admits.made); near = omega (arith, ask.near, admits.delivered); past = le }

  windows_behind : (k : ℕ) → IsAskable new k → first.delivered ≤ k → window_of new k ≡ window_in first (items ++ j ∷ []) k
  windows_behind k ask above = by (cases_lt h.delivered k)
    where
      by : ((h.delivered < k) ⊎ (k ≤ h.delivered)) → window_of new k ≡ window_in first (items ++ j ∷ []) k
      by (inl lt) =
          let last : k ≡ new.delivered = omega (arith, lt, ask.past, admits.delivered) in
          ap (window_of new) last ∙ next_window
          ∙ ap (λ (xs : List Judged). (reached p S xs).kept) (sym (take_all (k - first.delivered) (items ++ j ∷ []) (omega (arith, lt, judged.delivered, length_push items j))))
      by (inr le) =
          admits.kept k ask le ∙ judged.behind k (was k ask le) above
          ∙ ap (λ (xs : List Judged). (reached p S xs).kept) (sym (take-append-le (k - first.delivered) items (j ∷ []) (omega (arith, le, judged.delivered))))

  pub judged_on : CertifiersHoldWindows → IsWithin i → HasJudged first (items ++ j ∷ []) new
  judged_on law within = record {
    setting = admits.setting ∙ judged.setting;
    made = admits.made ∙ judged.made;
    start = judged.start;
    delivered = omega (arith, admits.delivered, judged.delivered, length_push items j);
    before = λ k ask le.
        let low : k ≤ h.delivered = omega (arith, le, judged.delivered) in
        admits.kept k ask low ∙ judged.before k (was k ask low) le;
    behind = windows_behind;
    windows = λ windows. law.admits h new i (omega (arith, judged.made, judged.start, judged.delivered)) within (judged.windows windows) admits;
  }
