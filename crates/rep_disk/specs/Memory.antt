-- What a disk in memory keeps, and what a crash makes of it.
use Rattle.std.specs.Prelude.{◌≡◌, ℕ, zero, suc, ◌≤◌, List, [], ◌∷◌, length, get_or, refl}
use Rattle.std.specs.Coded.{Coded, code_by, coded×, coded_ℕ, coded_list}
use Rattle.std.proofs.Common.{ap}
use Rattle.rep_disk.specs.declared.memory.Loss.{Loss}
use Rattle.rep_disk.specs.declared.memory.Loss.TheVariants.{Keep, Drop, Junk}
use Rattle.rep_disk.specs.Bytes.{Untouched}
use Rattle.rep_disk.specs.History.{History, Begins, Wrote, Spoiled, Synced, seen, stable, pending}

-- A disk in memory: what was asked of it, and how often it failed.
pub record Memory : Type 0 where
  pub history : History
  pub failures : ℕ

-- what a crash makes of a pending byte, from what it reads as and its last stable value
abbrev pub after_loss : Loss → ℕ → ℕ → ℕ
after_loss Keep now last = now
after_loss Drop now last = last
after_loss Junk now last = 0xEE

-- What a crash leaves: each byte outside the pending ranges stays, and each in one is what the loss says.
pub record IsAfterLoss (loss : Loss) (h : History) (image : List ℕ) : Type 0 where
  pub sized : length image ≡ length (seen h)
  pub outside : (k : ℕ) → Untouched (pending h) k 1 → get_or image k 0 ≡ get_or (seen h) k 0
  pub inside : (k : ℕ) → suc k ≤ length (seen h) → (Untouched (pending h) k 1 → ⊥) → get_or image k 0 ≡ after_loss loss (get_or (seen h) k 0) (get_or (stable h) k 0)

-- a call as three numbers and bytes, for the code below
abbrev pub Step : Type 0
Step = ℕ × (ℕ × List ℕ)

-- a history as the bytes that it begins with and its calls
abbrev pub steps : History → List Step
steps (Begins bytes) = []
steps (Wrote at bytes h) = (0, (at, bytes)) ∷ steps h
steps (Spoiled at junk h) = (1, (at, junk)) ∷ steps h
steps (Synced h) = (2, (0, [])) ∷ steps h

abbrev pub begin : History → List ℕ
begin (Begins bytes) = bytes
begin (Wrote at bytes h) = begin h
begin (Spoiled at junk h) = begin h
begin (Synced h) = begin h

-- the history after one step more
abbrev pub stepped : ℕ → ℕ → List ℕ → History → History
stepped zero at bytes h = Wrote at bytes h
stepped (suc zero) at bytes h = Spoiled at bytes h
stepped (suc (suc n)) at bytes h = Synced h

-- the history of these
abbrev pub history_of : List ℕ → List Step → History
history_of bytes [] = Begins bytes
history_of bytes (step ∷ steps) = stepped step.0 step.1.0 step.1.1 (history_of bytes steps)

-- which is the one that they were taken from
abbrev pub history_of-steps : (h : History) → history_of (begin h) (steps h) ≡ h
history_of-steps (Begins bytes) = refl
history_of-steps (Wrote at bytes h) = ap (Wrote at bytes) (history_of-steps h)
history_of-steps (Spoiled at junk h) = ap (Spoiled at junk) (history_of-steps h)
history_of-steps (Synced h) = ap Synced (history_of-steps h)

-- so a disk in memory is stored as these and a number
abbrev pub memory_code : Coded Memory
memory_code =
    code_by ((List ℕ × List Step) × ℕ)
    (coded× (coded× (coded_list coded_ℕ) (coded_list (coded× coded_ℕ (coded× coded_ℕ (coded_list coded_ℕ))))) coded_ℕ)
    (λ m. ((begin m.history, steps m.history), m.failures))
    (λ p. record { history = history_of p.0.0 p.0.1; failures = p.1 })
    (λ m. ap (λ (h : History). let r : Memory = record { history = h; failures = m.failures } in r) (history_of-steps m.history))
