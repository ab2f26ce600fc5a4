-- How far a scan has come in a reading, and what it finds in the end.
use Rattle.std.proofs.Common.{◌≡◌, ◌≢◌, ℕ, suc, ◌+◌, ◌-◌, ◌*◌, ◌/◌, ◌%◌, ◌<◌, ◌≤◌, ◌⊎◌, Bool, true, false, is_some, List, [], ◌∷◌, ◌++◌, length, take, drop, get_or, Option, Some, None, refl, sym, ap, subst, ◌∙◌, append_assoc, append-nil, arith, inl, inr, length-append, get_or-set_same, get_or-set_other, div-add-mod', suc-mul}
use Rattle.std.specs.Prelude.{slice_set}
use Rattle.std.proofs.lemmas.Bool.{cases_lt}
use Rattle.std.proofs.lemmas.Nat.{mod_below, mod-mul-add}
use Rattle.std.proofs.lemmas.Option.{same_Some}
use Rattle.rep_types.specs.declared.judged.Judged.{Judged}
use Rattle.rep_types.specs.declared.limits.TheConstants.{MAX_SEQNO}
use Rattle.rep_record.specs.Blocks.{SeqnosFrom, block_bytes, BlocksAreTold}
use Rattle.rep_disk.specs.Bytes.{Untouched}
use Rattle.rep_disk.specs.History.{History, failed}
use Rattle.rep_layout.specs.declared.place.Layout.{Layout}
use Rattle.rep_layout.specs.declared.place.Place.{Place}
use Rattle.rep_layout.specs.declared.place.Place.TheVariants.{Log}
use Rattle.rep_layout.specs.declared.place.TheConstants.{GATE}
use Rattle.rep_layout.specs.Places.{body_len, gate_len, offset_of, gate_of, log_of, TurnsAreTaken}
use Rattle.rep_cells.specs.Readings.{Reading, reading_of}
use Rattle.rep_cells.specs.Known.{IsReadable, found_as, found}
use Rattle.rep_log.specs.declared.phase.Phase.TheVariants.{Resting}
use Rattle.rep_log.specs.Tail.{IsBlockFrom, Stand, Shows, seqno_after, records_of, cell_in, IsOld, IsLog}
use Rattle.rep_log.specs.Standing.{Standing, AtRest, StandsOpen}
use Rattle.rep_log.specs.Scanning.{Found, Visits, IsNoCell, Finds}
use Rattle.rep_log.proofs.Blocks.{cell_is, stand_moved, stand_more, standing_at, seqno_more}
use Rattle.rep_log.proofs.Cells.{log_is, index_small, same_cell}
use Rattle.rep_log.proofs.Told.{begins, a_lap_at_most}

-- ---- which cell is visited when

-- in a lap each cell is visited
pub some_visit : (from i n : ℕ) → i < n → (j : ℕ) × (j < n) × ((from + j) % n ≡ i)
some_visit from i n lt =
    let m = from % n in
    let q = from / n in
    let small : m < n = mod_below from n (omega (arith, lt)) in
    let whole : q * n + m ≡ from = div-add-mod' from n in
    elim (cases_lt i m) [
      | inl before ↦ (
          let there : from + (i + n - m) ≡ suc q * n + i = omega (arith, whole, before, small, suc-mul q n) in
          (i + n - m, omega (arith, before, small), ap (λ x. x % n) there ∙ mod-mul-add (suc q) n i lt))
      | inr behind ↦ (
          let there : from + (i - m) ≡ q * n + i = omega (arith, whole, behind) in
          (i - m, omega (arith, behind, lt), ap (λ x. x % n) there ∙ mod-mul-add q n i lt))
    ]

-- visits less than a lap apart are of different cells
other_index : TurnsAreTaken → (l : Layout) (m n : ℕ) → m < n → n < m + l.cells → m % l.cells ≢ n % l.cells
other_index turns l m n lt near e =
    let some : 0 < l.cells = omega (arith, lt, near) in
    turns.apart l m n lt near (log_is l m some ∙ ap Log e ∙ sym (log_is l n some))

-- so in a lap a cell is of one number
same_number : TurnsAreTaken → (l : Layout) (from m n : ℕ) → from ≤ m → m < from + l.cells → from ≤ n → n < from + l.cells → m % l.cells ≡ n % l.cells → m ≡ n
same_number turns l from m n a b c d e = elim (cases_lt m n) [
  | inl lt ↦ absurd (other_index turns l m n lt (omega (arith, a, d)) e)
  | inr le ↦ elim (cases_lt n m) [
    | inl lt ↦ absurd (other_index turns l n m lt (omega (arith, c, b)) (sym e))
    | inr ge ↦ omega (arith, le, ge)
  ]
]

-- ---- what is read of a cell

-- where no write failed every place can be read
pub all_readable : (l : Layout) (h : History) (place : Place) → failed h ≡ [] → IsReadable l h place
all_readable l h place none =
    (subst (λ ranges. Untouched ranges (offset_of l place) (body_len place)) (sym none) tt, subst (λ ranges. Untouched ranges (gate_of l place) (gate_len place)) (sym none) tt)

-- ---- how far a scan has come

-- the cell of this number doesn't hold it
abbrev pub EndsAt : Reading → Layout → ℕ → Type 0
EndsAt r l n = (body : List ℕ) → Shows r l n body → cell_in body ≡ n → ⊥

-- Behind the first k cells: these blocks were taken, of these items, all cells so far, or else up to one that doesn't hold the next number; of
-- each open cell so far the number belongs there and is below the next one; and which of them stand open.
pub record Progress (r : Reading) (l : Layout) (first k : ℕ) (scan : Found) (items : List Judged) : Type 0 where
  pub blocks : List (List Judged)
  pub items_are : items ≡ records_of blocks
  pub stand : Stand (Shows r l) scan.from first blocks
  pub next_is : scan.next ≡ scan.from + length blocks
  pub seqno_is : scan.seqno ≡ seqno_after first blocks
  pub so_far : (length blocks ≡ k) ⊎ ((length blocks < k) × EndsAt r l scan.next)
  pub old : (j : ℕ) (body : List ℕ) → j < k → Shows r l (scan.from + j) body → (cell_in body % l.cells ≡ (scan.from + j) % l.cells) × (cell_in body < scan.next)
  pub noted : (j : ℕ) → j < k → get_or scan.stands ((scan.from + j) % l.cells) false ≡ is_some (r (log_of l (scan.from + j)))

-- at the start
pub nothing_yet : (r : Reading) (l : Layout) (first : ℕ) (scan : Found) → scan.next ≡ scan.from → scan.seqno ≡ first → Progress r l first 0 scan []
nothing_yet r l first scan next seqno = record {
  blocks = [];
  items_are = refl;
  stand = tt;
  next_is = omega (arith, next);
  seqno_is = seqno;
  so_far = inl refl;
  old = λ j body lt shown. absurd (omega (arith, lt));
  noted = λ j lt. absurd (omega (arith, lt));
}

-- with one block more
records_more : (blocks : List (List Judged)) (records : List Judged) → records_of (blocks ++ records ∷ []) ≡ records_of blocks ++ records
records_more [] records = append-nil records
records_more (first ∷ blocks) records = ap (λ xs. first ++ xs) (records_more blocks records) ∙ sym (append_assoc first (records_of blocks) records)

-- which cells stand open, with one more
noted_more :
    TurnsAreTaken → (r : Reading) (l : Layout) (from k : ℕ) (stands : List Bool) (cell : Option (List ℕ)) → k < l.cells → l.cells ≤ length stands → cell ≡ r (log_of l (from + k))
    → ((j : ℕ) → j < k → get_or stands ((from + j) % l.cells) false ≡ is_some (r (log_of l (from + j))))
    → (j : ℕ) → j < k + 1 → get_or (slice_set stands ((from + k) % l.cells) (is_some cell)) ((from + j) % l.cells) false ≡ is_some (r (log_of l (from + j)))
noted_more turns r l from k stands cell lt long there before j le = elim (cases_lt j k) [
  | inl less ↦ get_or-set_other stands ((from + k) % l.cells) ((from + j) % l.cells) (is_some cell) false (other_index turns l (from + j) (from + k) (omega (arith, less)) (omega (arith, lt))) ∙ before j less
  | inr more ↦ (
      let same : j ≡ k = omega (arith, le, more) in
      let inside : (from + k) % l.cells < length stands = omega (arith, index_small l (from + k) (omega (arith, lt)), long) in
      subst (λ i. get_or (slice_set stands ((from + k) % l.cells) (is_some cell)) ((from + i) % l.cells) false ≡ is_some (r (log_of l (from + i)))) (sym same)
      (get_or-set_same stands ((from + k) % l.cells) (is_some cell) false inside ∙ ap is_some there))
]

-- a visit goes on
pub goes_on :
    TurnsAreTaken → (r : Reading) (l : Layout) (first k : ℕ) (cell : Option (List ℕ)) (old new : Found) (items records : List Judged) → k < l.cells → l.cells ≤ length old.stands → cell ≡ r (log_of l (old.from + k))
    → Progress r l first k old items → Visits l (old.from + k) cell old new records → Progress r l first (k + 1) new (items ++ records)
goes_on turns r l first k cell old new items records lt long there at (inl takes) =
    let body : List ℕ = takes.body in
    let number = old.from + k in
    let all : length at.blocks ≡ k = omega (arith, takes.is_next, at.next_is) in
    let shown : Shows r l number body = sym there ∙ takes.shown in
    let next : number ≡ old.from + length at.blocks = omega (arith, all) in
    let held : cell_in body ≡ number = ap cell_in takes.taken.spelled ∙ cell_is number records takes.taken.is_block in
    let block : IsBlockFrom number old.seqno records = record { is_block = takes.taken.is_block; follow = takes.taken.follow } in
    subst (λ (scan : Found). Progress r l first (k + 1) scan (items ++ records)) (sym takes.after) (record {
      blocks = at.blocks ++ records ∷ [];
      items_are = ap (λ xs. xs ++ records) at.items_are ∙ sym (records_more at.blocks records);
      stand = stand_more (Shows r l) old.from first at.blocks records at.stand (subst (λ n. Shows r l n (block_bytes n records)) next (shown ∙ ap Some takes.taken.spelled))
          (subst (λ n. IsBlockFrom n (seqno_after first at.blocks) records) next (subst (λ s. IsBlockFrom number s records) at.seqno_is block));
      next_is = omega (arith, at.next_is, length-append at.blocks (records ∷ []));
      seqno_is = ap (λ n. n + length records) at.seqno_is ∙ sym (seqno_more first at.blocks records);
      so_far = inl (omega (arith, all, length-append at.blocks (records ∷ [])));
      old = λ j b le shows. elim (cases_lt j k) [
        | inl less ↦ (let was = at.old j b less shows in (was.0, omega (arith, was.1)))
        | inr more ↦ (
            let same : j ≡ k = omega (arith, le, more) in
            let is : body ≡ b = same_Some body b (sym shown ∙ ap (λ i. r (log_of l (old.from + i))) (sym same) ∙ shows) in
            let number_is : cell_in b ≡ old.from + j = ap cell_in (sym is) ∙ held ∙ ap (λ i. old.from + i) (sym same) in
            (ap (λ n. n % l.cells) number_is, omega (arith, number_is, same, all, at.next_is)))
      ];
      noted = noted_more turns r l old.from k old.stands cell lt long there at.noted;
    })
goes_on turns r l first k cell old new items records lt long there at (inr passes) =
    let number = old.from + k in
    let ends : length at.blocks ≡ k → EndsAt r l old.next = λ all body shown held.
    (let before = passes.before body (there ∙ ap (λ n. r (log_of l n)) (omega (arith, all, at.next_is)) ∙ shown) in omega (arith, before.1, held, at.next_is)) in
    let same : items ≡ items ++ records = sym (ap (λ xs. items ++ xs) passes.none ∙ append-nil items) in
    subst (Progress r l first (k + 1) new) same (subst (λ (scan : Found). Progress r l first (k + 1) scan items) (sym passes.after) (record {
      blocks = at.blocks;
      items_are = at.items_are;
      stand = at.stand;
      next_is = at.next_is;
      seqno_is = at.seqno_is;
      so_far = elim at.so_far [
        | inl all ↦ inr (omega (arith, all), ends all)
        | inr some ↦ inr (omega (arith, some.0), some.1)
      ];
      old = λ j b le shows. elim (cases_lt j k) [
        | inl less ↦ at.old j b less shows
        | inr more ↦ (
            let same : j ≡ k = omega (arith, le, more) in
            let before = passes.before b (there ∙ ap (λ i. r (log_of l (old.from + i))) (sym same) ∙ shows) in
            (before.0 ∙ ap (λ i. (old.from + i) % l.cells) (sym same), omega (arith, before.1, at.next_is)))
      ];
      noted = noted_more turns r l old.from k old.stands cell lt long there at.noted;
    }))

-- ---- why a visit refuses

-- Behind the items so far come records that stop the scan.
pub record HasStopped (Stops : List Judged → Type 0) (items all : List Judged) : Type 0 where
  pub records : List Judged
  pub behind : List Judged
  pub split : all ≡ items ++ (records ++ behind)
  pub stops : Stops records

-- a cell that can be neither taken nor passed is of no log, but for one whose next records stop the scan
pub no_log :
    TurnsAreTaken → BlocksAreTold → (Stops : List Judged → Type 0) (r : Reading) (l : Layout) (first k : ℕ) (cell : Option (List ℕ)) (scan : Found) (items : List Judged) → k < l.cells → cell ≡ r (log_of l (scan.from + k))
    → Progress r l first k scan items → IsNoCell Stops l (scan.from + k) cell scan → (blocks : List (List Judged)) → IsLog r l scan.from first blocks → HasStopped Stops items (records_of blocks)
no_log turns told Stops r l first k cell scan items lt there at bad blocks is =
    let number = scan.from + k in
    let some : 0 < l.cells = omega (arith, lt) in
    let shown : Shows r l number bad.body = sym there ∙ bad.shown in
    let few : length blocks ≤ l.cells = a_lap_at_most turns told r l scan.from first blocks some is.stand in
    let old : IsOld l (number % l.cells) (scan.from + length blocks) bad.body = is.old (number % l.cells) bad.body (index_small l number some) (ap r (sym (log_is l number some)) ∙ shown) in
    let place : cell_in bad.body % l.cells ≡ number % l.cells = same_cell (cell_in bad.body % l.cells) (number % l.cells) (sym (log_is l (cell_in bad.body) some) ∙ old.in_place) in
    elim bad.why [
      | inl next ↦ (
          let all : length at.blocks ≡ k = omega (arith, next.is_next, at.next_is) in
          let further : k < length blocks = omega (arith, old.below, next.held) in
          let block = standing_at (Shows r l) scan.from first k blocks further is.stand in
          let front : take k blocks ≡ at.blocks = ap (λ n. take n blocks) (sym all) ∙ begins told r l scan.from first at.blocks blocks (omega (arith, all, further)) at.stand is.stand in
          let seqno : seqno_after first (take k blocks) ≡ scan.seqno = ap (seqno_after first) front ∙ sym at.seqno_is in
          record {
            records = block.records;
            behind = records_of (drop (suc k) blocks);
            split = block.split ∙ ap (λ xs. xs ++ (block.records ++ records_of (drop (suc k) blocks))) (ap records_of front ∙ sym at.items_are);
            stops = next.stops block.records (record {
              is_block = block.block.is_block;
              follow = subst (λ s. SeqnosFrom s block.records) seqno block.block.follow;
              spelled = same_Some bad.body (block_bytes number block.records) (sym shown ∙ block.there);
            });
          })
      | inr wrong ↦ absurd (elim wrong.wrong [
        | inl misplaced ↦ misplaced place
        | inr late ↦ (
            let same : cell_in bad.body ≡ number = same_number turns l scan.from (cell_in bad.body) number late (omega (arith, old.below, few)) (omega arith) (omega (arith, lt)) place in
            elim at.so_far [
              | inl all ↦ wrong.other same (omega (arith, all, at.next_is))
              | inr ended ↦ (
                  let block = standing_at (Shows r l) scan.from first (length at.blocks) blocks (omega (arith, ended.0, same, old.below)) is.stand in
                  let last = scan.from + length at.blocks in
                  let here : last ≡ scan.next = sym at.next_is in
                  let held : cell_in (block_bytes last block.records) ≡ last = cell_is last block.records block.block.is_block in
                  let number_is : cell_in (block_bytes last block.records) ≡ scan.next = omega (arith, held, here) in
                  ended.1 (block_bytes last block.records) (subst (λ n. Shows r l n (block_bytes last block.records)) here block.there) number_is)
            ])
      ])
    ]

-- ---- what it counts on any device

-- a visit takes a block at most, and only that of its number
pub visits_within :
    (l : Layout) (number k start : ℕ) (cell : Option (List ℕ)) (old new : Found) (records : List Judged) → Visits l number cell old new records → old.next ≤ start + k → number ≡ start + k → new.next ≤ start + (k + 1)
visits_within l number k start cell old new records (inl takes) le is = let next : new.next ≡ old.next + 1 = ap (λ (x : Found). x.next) takes.after in omega (arith, next, le)
visits_within l number k start cell old new records (inr passes) le is = let next : new.next ≡ old.next = ap (λ (x : Found). x.next) passes.after in omega (arith, next, le)

-- the seqno goes on by the records that are taken
pub visits_counted : (l : Layout) (number first : ℕ) (cell : Option (List ℕ)) (old new : Found) (items records : List Judged) → Visits l number cell old new records → old.seqno ≡ first + length items → new.seqno ≡ first + length (items ++ records)
visits_counted l number first cell old new items records (inl takes) is =
    let seqno : new.seqno ≡ old.seqno + length records = ap (λ (x : Found). x.seqno) takes.after in
    omega (arith, seqno, length-append items records, is)
visits_counted l number first cell old new items records (inr passes) is =
    let seqno : new.seqno ≡ old.seqno = ap (λ (x : Found). x.seqno) passes.after in
    let none : length records ≡ 0 = ap (λ (xs : List Judged). length xs) passes.none in
    omega (arith, seqno, none, length-append items records, is)

-- and by one at least with each block
pub visits_filled :
    (l : Layout) (number first start : ℕ) (cell : Option (List ℕ)) (old new : Found) (records : List Judged) → Visits l number cell old new records → old.next + first ≤ start + old.seqno → new.next + first ≤ start + new.seqno
visits_filled l number first start cell old new records (inl takes) le =
    let next : new.next ≡ old.next + 1 = ap (λ (x : Found). x.next) takes.after in
    let seqno : new.seqno ≡ old.seqno + length records = ap (λ (x : Found). x.seqno) takes.after in
    omega (arith, next, seqno, takes.taken.is_block.some, le)
visits_filled l number first start cell old new records (inr passes) le =
    let next : new.next ≡ old.next = ap (λ (x : Found). x.next) passes.after in
    let seqno : new.seqno ≡ old.seqno = ap (λ (x : Found). x.seqno) passes.after in
    omega (arith, next, seqno, le)

-- ---- what is found in the end

-- the blocks that were taken are the log
is_log : (r : Reading) (l : Layout) (first : ℕ) (scan : Found) (items : List Judged) → 0 < l.cells → scan.from < first → first ≤ MAX_SEQNO + 1 → (at : Progress r l first l.cells scan items) → IsLog r l scan.from first at.blocks
is_log r l first scan items some starts limit at = record {
  starts = starts;
  limit = limit;
  stand = at.stand;
  old = λ i body lt shown.
      let visit = some_visit scan.from i l.cells lt in
      let here : log_of l (scan.from + visit.0) ≡ Log i = log_is l (scan.from + visit.0) some ∙ ap Log visit.2 in
      let was = at.old visit.0 body visit.1 (ap r here ∙ shown) in
      record {
        in_place = log_is l (cell_in body) some ∙ ap Log (was.0 ∙ visit.2);
        below = omega (arith, was.1, at.next_is);
      };
}

-- the state of a cell that was read
found_rests : (stands : Bool) (l : Layout) (i next : ℕ) (reading : Option (List ℕ)) → stands ≡ is_some reading → ((body : List ℕ) → reading ≡ Some body → IsOld l i next body) → AtRest stands l i next (found_as GATE reading)
found_rests true l i next None e old = absurd cc
found_rests false l i next None e old = refl
found_rests true l i next (Some body) e old = (body, refl, old body refl)
found_rests false l i next (Some body) e old = absurd cc

pub finds :
    TurnsAreTaken → BlocksAreTold → (l : Layout) (bytes : List ℕ) (first : ℕ) (scan : Found) (items : List Judged) (log : Standing) → 0 < l.cells → l.cells ≤ length scan.stands → scan.from < first → first ≤ MAX_SEQNO + 1
    → Progress (reading_of l bytes) l first l.cells scan items → log ≡ record { start = scan.from; next = scan.next; seqno = scan.seqno; cells = l.cells; phase = Resting; stands = scan.stands }
    → Finds l bytes scan.from first log items
finds turns told l bytes first scan items log some long starts limit at e =
    let r = reading_of l bytes in
    let whole = is_log r l first scan items some starts limit at in
    subst (λ (x : Standing). Finds l bytes scan.from first x items) (sym e) (record {
      blocks = at.blocks;
      items_are = at.items_are;
      is_log = whole;
      start = refl;
      phase = refl;
      log_is = record {
        cells = refl;
        some = some;
        known = long;
        starts = starts;
        limit = limit;
        live = stand_moved (Shows r l) (StandsOpen (found l bytes) l) scan.from first at.blocks (λ m body from to shown. ap (found_as GATE) shown) at.stand;
        next = at.next_is;
        seqno = at.seqno_is;
        room = omega (arith, at.next_is, a_lap_at_most turns told r l scan.from first at.blocks some at.stand);
        rest = λ i lt other.
            let visit = some_visit scan.from i l.cells lt in
            let here : log_of l (scan.from + visit.0) ≡ Log i = log_is l (scan.from + visit.0) some ∙ ap Log visit.2 in
            let noted : get_or scan.stands i false ≡ is_some (r (Log i)) = ap (λ k. get_or scan.stands k false) (sym visit.2) ∙ at.noted visit.0 visit.1 ∙ ap (λ p. is_some (r p)) here in
            found_rests (get_or scan.stands i false) l i scan.next (r (Log i)) noted (λ body shown. subst (λ n. IsOld l i n body) (sym at.next_is) (whole.old i body lt shown));
        due = tt;
      };
    })
