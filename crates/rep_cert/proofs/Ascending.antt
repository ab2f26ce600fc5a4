-- Entries whose seqnos ascend.
use Rattle.std.proofs.Common.{◌≡◌, ℕ, suc, zero, ◌+◌, ◌-◌, ◌<◌, ◌≤◌, List, [], ◌∷◌, ◌++◌, length, drop, refl, ap, le_refl, ⊎_elim, arith, nat_le, Bool, true, false, if◌then◌else◌, All}
use Rattle.std.proofs.lemmas.Bool.{cases_lt, leb-true}
use Rattle.std.proofs.lemmas.Bool.Decides.{nat_tests}
use Rattle.std.proofs.lemmas.List.Elements.{All-cons, All-nil, All-weaker}
use Rattle.circular_buffer.specs.Buffer.{keep_last}
use Rattle.rep_types.specs.Entries.{Entry}
use Rattle.rep_types.specs.Order.{recent}
use Rattle.rep_types.proofs.Windows.{filter_all}
use Rattle.rep_cert.specs.Holdings.{upto}
use Rattle.rep_cert.specs.Kept.{Ascends}

-- the bounds may be wider
pub Ascends-wider : (low high more_low more_high : ℕ) (es : List Entry) → more_low ≤ low → high ≤ more_high → Ascends low high es → Ascends more_low more_high es
Ascends-wider low high more_low more_high [] below above a = omega arith
Ascends-wider low high more_low more_high (e ∷ es) below above a = (omega (arith, a.0), Ascends-wider (e.seqno + 1) high (e.seqno + 1) more_high es (le_refl (e.seqno + 1)) above a.1)

-- there are no more entries than seqnos between the bounds
pub Ascends-length : (low high : ℕ) (es : List Entry) → Ascends low high es → low + length es ≤ high
Ascends-length low high [] a = omega arith
Ascends-length low high (e ∷ es) a = omega (arith, a.0, Ascends-length (e.seqno + 1) high es a.1)

-- one more entry, with a seqno that isn't below the upper bound
pub Ascends_push : (low high : ℕ) (es : List Entry) (e : Entry) → high ≤ e.seqno → Ascends low high es → Ascends low (e.seqno + 1) (es ++ e ∷ [])
Ascends_push low high [] e above a = (omega arith, le_refl (e.seqno + 1))
Ascends_push low high (f ∷ es) e above a = (a.0, Ascends_push (f.seqno + 1) high es e above a.1)

-- the last entry is above those before it
pub Ascends_last : (low high : ℕ) (es : List Entry) (e : Entry) → Ascends low high (es ++ e ∷ []) → (e.seqno < high) × Ascends low e.seqno es
Ascends_last low high [] e a = (omega (arith, a.1), a.0)
Ascends_last low high (f ∷ es) e a =
    let rest : (e.seqno < high) × Ascends (f.seqno + 1) e.seqno es = Ascends_last (f.seqno + 1) high es e a.1 in
    (rest.0, (a.0, rest.1))

-- what is left without the first entries ascends too
pub Ascends-drop : (k low high : ℕ) (es : List Entry) → Ascends low high es → Ascends low high (drop k es)
Ascends-drop zero low high es a = a
Ascends-drop (suc k) low high [] a = a
Ascends-drop (suc k) low high (e ∷ es) a = Ascends-drop k low high es (Ascends-wider (e.seqno + 1) high low high es (omega (arith, a.0)) (le_refl high) a.1)

-- entries that are not above a position are those up to any later one
pub upto_below : (made k : ℕ) (es : List Entry) → made ≤ k → All (λ (e : Entry). e.seqno ≤ made) es → upto k es ≡ es
upto_below made k es later below =
    filter_all (λ (e : Entry). nat_le e.seqno k) es
    (All-weaker (λ (e : Entry). e.seqno ≤ made) (λ (e : Entry). nat_le e.seqno k ≡ true) (λ e h. grind (arith, nat_tests)) es below)

-- up to a seqno that none is above, all entries are kept
pub upto_all : (low high k : ℕ) (es : List Entry) → high ≤ k + 1 → Ascends low high es → upto k es ≡ es
upto_all low high k [] above a = refl
upto_all low high k (e ∷ es) above a =
    let below : e.seqno ≤ k = omega (arith, Ascends-length (e.seqno + 1) high es a.1) in
    grind (arith, nat_tests, upto_all (e.seqno + 1) high k es above a.1)

-- the first k entries are below the floor, where the entries behind them leave no room above it
pub recent-drop : (k lowest low high : ℕ) (es : List Entry) → high ≤ lowest + (length es - k) → Ascends low high es → recent lowest (drop k es) ≡ recent lowest es
recent-drop zero lowest low high es h a = refl
recent-drop (suc k) lowest low high [] h a = refl
recent-drop (suc k) lowest low high (e ∷ es) h a =
    let long : e.seqno + 1 + length es ≤ high = Ascends-length (e.seqno + 1) high es a.1 in
    let inside : high ≤ lowest + (length es - k) = omega arith in
    let below : e.seqno < lowest = omega arith in
    let rest : recent lowest (drop k es) ≡ recent lowest es = recent-drop k lowest (e.seqno + 1) high es inside a.1 in
    grind (arith, nat_tests)

-- the last n entries are all that are not below the floor, where no more than n seqnos are
pub recent-keep_last : (n lowest low high : ℕ) (es : List Entry) → high ≤ lowest + n → Ascends low high es → recent lowest (keep_last n es) ≡ recent lowest es
recent-keep_last n lowest low high es h a = ⊎_elim some none (cases_lt n (length es))
  where
    some : n < length es → recent lowest (keep_last n es) ≡ recent lowest es
    some more = recent-drop (length es - n) lowest low high es (omega arith) a

    none : length es ≤ n → recent lowest (keep_last n es) ≡ recent lowest es
    none few =
        let all : length es - n ≡ 0 = omega arith in
        ap (λ (k : ℕ). recent lowest (drop k es)) all

-- one entry in front of others that hold the fact, kept or left out
All_tested : (P : Entry → Type 0) (b : Bool) (e : Entry) (es : List Entry) → (b ≡ true → P e) → All P es → All P (if b then e ∷ es else es)
All_tested P true e es holds rest = All-cons P e es (holds refl) rest
All_tested P false e es holds rest = rest

-- none of the entries up to a seqno is above it
pub upto_past : (k : ℕ) (es : List Entry) → All (λ (e : Entry). e.seqno ≤ k) (upto k es)
upto_past k [] = All-nil (λ (e : Entry). e.seqno ≤ k)
upto_past k (e ∷ es) = All_tested (λ (f : Entry). f.seqno ≤ k) (nat_le e.seqno k) e (upto k es) (leb-true e.seqno k) (upto_past k es)
