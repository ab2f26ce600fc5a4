-- What lies at home, as the certifier, the queue and the engine move on.
use Rattle.std.proofs.Common.{◌≡◌, ℕ, ◌+◌, ◌≤◌, List, [], ◌∷◌, ◌++◌, length, sym, refl, ap, ◌∙◌, subst, arith, length-append}
use Rattle.rep_types.specs.declared.judged.Judged.{Judged}
use Rattle.rep_disk.specs.declared.disk.Disk.{Ghosts}
use Rattle.rep_cert.specs.Holdings.{Holding, Holdings}
use Rattle.rep_stations.specs.Judging.{HasJudged}
use Rattle.rep_stations.specs.Waiting.{HistoriesGoOn}
use Rattle.rep_ordered.specs.Views.{StartsWith, OwnEntry}
use Rattle.rep_ordered.specs.GoingLaws.{append_nil, begins_on}
use Rattle.rep_node.specs.declared.home.Desk.{Desk}
use Rattle.rep_node.specs.declared.home.Queue.{Queue}
use Rattle.rep_node.specs.declared.home.Home.{Home}
use Rattle.rep_node.specs.declared.home.Home.TheVariants.{Certifier as AtFirst, Desk as AtSecond, Queue as AtThird}
use Rattle.rep_node.specs.Homes.{Start, CertifierAt, DeskAt, QueueAt, AtHome, position_of, values_of}
use Rattle.rep_node.specs.Seats.{own_entry}
use Rattle.rep_ordered.specs.Beginnings.{one_front, whole_front}

-- ---- what a node was started with is one thing

abbrev certifier_or : {D : Type 0} → Holdings → Home D → Holdings
certifier_or d (AtFirst c) = c
certifier_or d (AtSecond e) = d
certifier_or d (AtThird q) = d

abbrev desk_or : {D : Type 0} → Desk D → Home D → Desk D
desk_or d (AtFirst c) = d
desk_or d (AtSecond e) = e
desk_or d (AtThird q) = d

abbrev queue_or : {D : Type 0} → Queue → Home D → Queue
queue_or d (AtFirst c) = d
queue_or d (AtSecond e) = d
queue_or d (AtThird q) = q

abbrev certifier_in : {D : Type 0} → Start D → List (Home D) → Holdings
certifier_in s [] = s.certifier
certifier_in s (a ∷ more) = certifier_or s.certifier a

abbrev desk_in : {D : Type 0} → Start D → List (Home D) → Desk D
desk_in s [] = s.desk
desk_in s (a ∷ []) = s.desk
desk_in s (a ∷ b ∷ more) = desk_or s.desk b

abbrev queue_in : {D : Type 0} → Start D → List (Home D) → Queue
queue_in s [] = s.queue
queue_in s (a ∷ []) = s.queue
queue_in s (a ∷ b ∷ []) = s.queue
queue_in s (a ∷ b ∷ c ∷ more) = queue_or s.queue c

pub one_start : {D : Type 0} (first : List (Home D)) (s t : Start D) → first ≡ values_of s → first ≡ values_of t → s ≡ t
one_start first s t p q = let same = sym p ∙ q in λ i. record { certifier = ap (certifier_in s) same i; desk = ap (desk_in s) same i; queue = ap (queue_in s) same i }

-- what holds of the one start holds of whatever the first values are
pub of_the_start : {D : Type 0} (P : Start D → Type 0) (first : List (Home D)) (s : Start D) → first ≡ values_of s → P s → (t : Start D) → first ≡ values_of t → P t
of_the_start P first s is p t also = subst P (one_start first s t is also) p

module _ {D : Type 0} (g : Ghosts D) where
  -- ---- what is found at home

  -- what it is that is found, where it is of this kind
  pub at_first : (first : List (Home D)) (number given durable : ℕ) (items : List Judged) (x : Home D) (c : Holdings) → AtHome g first 0 number given items durable x → x ≡ AtFirst c → (s : Start D) → first ≡ values_of s → CertifierAt s number items durable c.current
  at_first first number given durable items x c h is s same = (subst (AtHome g first 0 number given items durable) is h).1 s same

  pub at_second : (first : List (Home D)) (number given durable : ℕ) (items : List Judged) (x : Home D) (d : Desk D) → AtHome g first 1 number given items durable x → x ≡ AtSecond d → (s : Start D) → first ≡ values_of s → DeskAt g s given items d
  at_second first number given durable items x d h is s same = (subst (AtHome g first 1 number given items durable) is h).1 s same

  pub at_third : (first : List (Home D)) (number given durable : ℕ) (items : List Judged) (x : Home D) (q : Queue) → AtHome g first 2 number given items durable x → x ≡ AtThird q → (s : Start D) → first ≡ values_of s → QueueAt s number items q
  at_third first number given durable items x q h is s same = (subst (AtHome g first 2 number given items durable) is h).1 s same

  pub certifier_found : (first : List (Home D)) (number given durable : ℕ) (items : List Judged) (x : Home D) → AtHome g first 0 number given items durable x → (c : Holdings) × (x ≡ AtFirst c)
  certifier_found first number given durable items (AtFirst c) h = (c, refl)
  certifier_found first number given durable items (AtSecond d) h = absurd (let e = h.0 in omega arith)
  certifier_found first number given durable items (AtThird q) h = absurd (let e = h.0 in omega arith)

  pub desk_found : (first : List (Home D)) (number given durable : ℕ) (items : List Judged) (x : Home D) → AtHome g first 1 number given items durable x → (d : Desk D) × (x ≡ AtSecond d)
  desk_found first number given durable items (AtFirst c) h = absurd (let e = h.0 in omega arith)
  desk_found first number given durable items (AtSecond d) h = (d, refl)
  desk_found first number given durable items (AtThird q) h = absurd (let e = h.0 in omega arith)

  pub queue_found : (first : List (Home D)) (number given durable : ℕ) (items : List Judged) (x : Home D) → AtHome g first 2 number given items durable x → (q : Queue) × (x ≡ AtThird q)
  queue_found first number given durable items (AtFirst c) h = absurd (let e = h.0 in omega arith)
  queue_found first number given durable items (AtSecond d) h = absurd (let e = h.0 in omega arith)
  queue_found first number given durable items (AtThird q) h = (q, refl)

-- ---- the certifier

-- inside station 0 the certifier has judged the whole history
pub all_judged : {D : Type 0} (s : Start D) (t : ℕ) (items : List Judged) (durable : ℕ) (h : Holding) (at : CertifierAt s t items durable h) → position_of s + 1 + length items ≡ t → HasJudged s.certifier.current items h
all_judged s t items durable h at place = let long = at.below.long in let whole : at.front ≡ items = whole_front items at.front at.below.begins (omega arith) in subst (λ front. HasJudged s.certifier.current front h) whole at.judged

pub next_certifier : {D : Type 0} (s : Start D) (t : ℕ) (items : List Judged) (durable : ℕ) (h : Holding) (j : Judged) → position_of s + 1 + length items ≡ t → t ≤ durable + 256 → HasJudged s.certifier.current (items ++ j ∷ []) h → CertifierAt s (t + 1) (items ++ j ∷ []) durable h
next_certifier s t items durable h j place room judged = record {
  front = items ++ j ∷ [];
  below = record { begins = ([], sym (append_nil (items ++ j ∷ []))); long = omega (arith, length-append items (j ∷ [])) };
  room = omega arith;
  judged = judged;
}

-- ---- the queue

-- The item whose turn it is is pushed.
pub next_queue : HistoriesGoOn → {D : Type 0} (s : Start D) (start t : ℕ) (items : List Judged) (own : List ℕ) (q q' : Queue) (j : Judged) → QueueAt s t items q → start ≡ position_of s + 1 → OwnEntry start items own (own_entry j) → j.seqno ≡ t
    → q'.backlog ≡ q.backlog ++ j ∷ [] → q'.accepted ≡ q.accepted → QueueAt s (t + 1) items q'
next_queue laws s start t items own q q' j at starts mine seqno pushed accepted = let long = at.below.long in let place = mine.place in
    let begins : StartsWith items mine.before = begins_on mine.before (mine.before ++ j ∷ []) items (j ∷ [], refl) mine.begins in
    let same : at.front ≡ mine.before = one_front items at.front mine.before at.below.begins begins (omega arith) in record {
      front = at.front ++ j ∷ [];
      below = record { begins = subst (λ front. StartsWith items (front ++ j ∷ [])) (sym same) mine.begins; long = omega (arith, length-append at.front (j ∷ [])) };
      waits = subst (λ (z : ℕ × List Judged). Rattle.rep_stations.specs.Waiting.Waits s.certifier.current (at.front ++ j ∷ []) z.0 z.1) (λ i. (sym accepted i, sym pushed i)) (laws.pushed s.certifier.current at.front q.accepted q.backlog j at.waits);
    }

-- There is room where the item is no more than 256 ahead of what is durable.
pub has_room : HistoriesGoOn → {D : Type 0} (s : Start D) (t durable : ℕ) (items : List Judged) (q : Queue) → QueueAt s t items q → t ≤ durable + 256 → durable ≤ q.accepted → length q.backlog + 1 ≤ 256
has_room laws s t durable items q at near covers = let long = at.below.long in let count = laws.count s.certifier.current at.front q.accepted q.backlog at.waits in omega arith
