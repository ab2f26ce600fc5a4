-- A seat's own entries stand in the history, however it grows.
use Rattle.std.proofs.Common.{◌≡◌, ◌≢◌, ℕ, zero, suc, ◌+◌, ◌<◌, ◌≤◌, Option, Some, None, List, [], ◌∷◌, ◌++◌, length, sym, refl, ap, ◌∙◌, arith, length-append, append_assoc}
use mathlib.Core.Option as maybe
use Rattle.rep_ordered.specs.declared.rule.Opening.{Opening}
use Rattle.rep_ordered.specs.declared.view.Joined.{Joined}
use Rattle.rep_ordered.specs.Counts.{one, times}
use Rattle.rep_ordered.specs.Views.{StartsWith, OwnEntry, Placed, joined_at, joining, untold}
use Rattle.rep_ordered.specs.Rule.{Figures, Knows, first_of}
use Rattle.rep_ordered.proofs.Sums.{total_append, total_snoc, one_equal, every_map, every_append}

module _ {E : Type 0} where
  -- what joins the history, as a list
  abbrev pub entries_of : Option E → List E
  entries_of None = []
  entries_of (Some e) = e ∷ []

  abbrev pub joined_with : List E → ℕ → List (Joined E) → List (Joined E)
  joined_with [] n os = os
  joined_with (e ∷ es) n os = record { number = n; entry = e } ∷ os

  pub joining_is : (entry : Option E) (n : ℕ) (os : List (Joined E)) → joining entry n os ≡ joined_with (entries_of entry) n os
  joining_is None n os = refl
  joining_is (Some e) n os = refl

  -- the history with more entries begins with what it began with
  pub longer : (history more front : List E) → StartsWith history front → StartsWith (history ++ more) front
  longer history more front h = (h.0 ++ more, ap (λ l. l ++ more) h.1 ∙ append_assoc front h.0 more)

  own_longer : (start : ℕ) (history more : List E) (own : List ℕ) (o : Joined E) → OwnEntry start history own o → OwnEntry start (history ++ more) own o
  own_longer start history more own o h = record { before = h.before; begins = longer history more (h.before ++ o.entry ∷ []) h.begins; place = h.place; drawn = h.drawn }

  own_more : (start : ℕ) (history : List E) (own own' : List ℕ) (o : Joined E) → ((x : ℕ) → 0 < times x own → 0 < times x own') → OwnEntry start history own o → OwnEntry start history own' o
  own_more start history own own' o up h = record { before = h.before; begins = h.begins; place = h.place; drawn = up o.number h.drawn }

  pub placed_none : (start : ℕ) (history : List E) → Placed start history [] []
  placed_none start history = record { entries = tt; others = λ x drawn none_joined. absurd (omega arith) }

  -- an entry joins at the number t, which is none of the seat's own
  pub placed_else : (start t : ℕ) (history more : List E) (own : List ℕ) (joined : List (Joined E)) → (0 < length more → (start + length history ≡ t) × (length more ≡ 1) × (times t own ≡ 0))
      → Placed start history own joined → Placed start (history ++ more) own joined
  placed_else start t history more own joined at p = record {
    entries = every_map _ _ joined (λ (o : Joined E) h. own_longer start history more own o h) p.entries;
    others = λ x drawn none_joined. let old = p.others x drawn none_joined in go more refl x drawn old;
  }
    where
      go : (rest : List E) → rest ≡ more → (x : ℕ) → 0 < times x own → start + length history ≤ x → start + length (history ++ more) ≤ x
      go [] e x drawn old = let none_more : 0 ≡ length more = ap length e in omega (arith, length-append history more)
      go (r ∷ rs) e x drawn old = let some_more : suc (length rs) ≡ length more = ap length e in let h = at (omega arith) in let here = h.0 in let long = h.1 in let not_mine = h.2 in
          let apart : x ≢ t = (λ same. let d : times x own ≡ times t own = ap (λ (z : ℕ). times z own) same in absurd (omega arith)) in above x t apart old here long
        where
          above : (x t : ℕ) → x ≢ t → start + length history ≤ x → start + length history ≡ t → length more ≡ 1 → start + length (history ++ more) ≤ x
          above x t apart old here long = omega (arith, length-append history more)

  -- an entry joins at the number t, which is one of the seat's own
  pub placed_mine : (start t : ℕ) (history more : List E) (own : List ℕ) (joined : List (Joined E)) → (0 < length more → (start + length history ≡ t) × (length more ≡ 1) × (0 < times t own))
      → Placed start history own joined → Placed start (history ++ more) own (joined_with more t joined)
  placed_mine start t history [] own joined at p = placed_else start t history [] own joined (λ some_more. absurd (omega arith)) p
  placed_mine start t history (e ∷ es) own joined at p = let h = at (omega arith) in let here = h.0 in let long = h.1 in record {
    entries = (
      record { before = history; begins = (es, sym (append_assoc history (e ∷ []) es)); place = here; drawn = h.2 },
      every_map _ _ joined (λ (o : Joined E) k. own_longer start history (e ∷ es) own o k) p.entries,
    );
    others = λ x drawn none_joined. let old = p.others x drawn (omega arith) in let apart : one x t ≡ 0 = omega arith in omega (arith, length-append history (e ∷ es));
  }

  -- the seat draws a number that the history has not come to
  pub placed_drawn : (start n : ℕ) (history : List E) (own : List ℕ) (joined : List (Joined E)) → start + length history ≤ n → Placed start history own joined → Placed start history (own ++ n ∷ []) joined
  placed_drawn start n history own joined up p = record {
    entries = every_map _ _ joined (λ (o : Joined E) h. own_more start history own (own ++ n ∷ []) o (λ x drawn. let s = total_snoc (one x) own n in omega arith) h) p.entries;
    others = λ x drawn none_joined. go x (times x own) refl drawn none_joined;
  }
    where
      go : (x t : ℕ) → t ≡ times x own → 0 < times x (own ++ n ∷ []) → joined_at x joined ≡ 0 → start + length history ≤ x
      go x zero e drawn none_joined = let s = total_snoc (one x) own n in let same : x ≡ n = one_equal x n (omega arith) in omega arith
      go x (suc t) e drawn none_joined = p.others x (omega arith) none_joined

  joined_append : (x : ℕ) (os ps : List (Joined E)) → joined_at x (os ++ ps) ≡ joined_at x os + joined_at x ps
  joined_append x [] ps = omega arith
  joined_append x (o ∷ os) ps = let e = joined_append x os ps in omega arith

  -- what two seats drew and let join
  pub placed_both : (start : ℕ) (history : List E) (own other : List ℕ) (os ps : List (Joined E)) → Placed start history own os → Placed start history other ps → Placed start history (own ++ other) (os ++ ps)
  placed_both start history own other os ps p q = record {
    entries = every_append _ os ps
        (every_map _ _ os (λ (o : Joined E) h. own_more start history own (own ++ other) o (λ x drawn. let s = total_append (one x) own other in omega arith) h) p.entries)
        (every_map _ _ ps (λ (o : Joined E) h. own_more start history other (own ++ other) o (λ x drawn. let s = total_append (one x) own other in omega arith) h) q.entries);
    others = λ x drawn none_joined. go x (times x own) refl drawn none_joined;
  }
    where
      go : (x t : ℕ) → t ≡ times x own → 0 < times x (own ++ other) → joined_at x (os ++ ps) ≡ 0 → start + length history ≤ x
      go x zero e drawn none_joined = let s = total_append (one x) own other in let j = joined_append x os ps in q.others x (omega arith) (omega arith)
      go x (suc t) e drawn none_joined = let j = joined_append x os ps in p.others x (omega arith) (omega arith)

module _ {V E : Type 0} where
  -- a seat that has seen, drawn and held nothing knows no more than these numbers
  pub knows_nothing : (k : Opening V) (f : Figures E) (words : List ℕ) (homes : List (maybe.Option (Option V))) (start whole : ℕ) (first : List V) (allowance durable backed common : ℕ) → start ≡ k.start → whole ≡ k.whole → first ≡ first_of k → durable ≤ f.durable → backed ≤ f.backed → common ≤ f.common
      → Knows k f words homes (untold (record { start = start; whole = whole; first = first; allowance = allowance; seen = []; own = []; joined = []; durable = durable; halted = 0; backed = backed; common = common; reached = []; held = []; given_up = [] }))
  knows_nothing k f words homes start whole first allowance durable backed common starts wholes firsts lasts below named = record {
    starts = starts;
    wholes = wholes;
    firsts = firsts;
    begins = (f.history, refl);
    told = (f.history, refl);
    lasts = lasts;
    stops = omega arith;
    stays = λ halted. absurd (omega arith);
    below = below;
    named = named;
    exact = λ holds. absurd (omega arith);
    reached = λ j w _. omega arith;
    holds = tt;
    lives = λ held _. absurd (omega arith);
    gone = tt;
    placed = placed_none k.start f.history;
    idle = λ _ _. refl;
  }
