-- What the kept entries give at each position, as items come and are undone.
use Rattle.std.proofs.Common.{not, ⊎_elim, subst, IsSome, Some, None, ◌≢◌, filter, ◌&&◌, slice_get, take, ◌≡◌, ℕ, ◌+◌, ◌-◌, ◌<◌, ◌≤◌, Bool, true, false, nat_le, if◌then◌else◌, List, [], ◌∷◌, ◌++◌, length, refl, sym, ap, ◌∙◌, le_refl, arith, All, append_assoc}
use Rattle.std.proofs.lemmas.List.{append-nil, length-drop, take_all, take_more}
use Rattle.std.proofs.lemmas.Option.{slice_get_cases, slice_get_within, get_or_from_slice_get}
use Rattle.std.proofs.lemmas.List.Filters.{length-filter_both}
use Rattle.std.proofs.lemmas.Bool.{leb-true}
use Rattle.std.proofs.lemmas.List.Elements.{filter-append}
use Rattle.std.proofs.lemmas.Bool.Decides.{nat_tests}
use Rattle.circular_buffer.specs.Buffer.{keep_last}
use Rattle.rep_types.specs.declared.limits.TheConstants.{MAX_WINDOW}
use Rattle.rep_types.specs.declared.item.Item.{Item}
use Rattle.rep_types.specs.declared.item.Item.TheVariants.{WriteSet, SetWindow}
use Rattle.rep_types.specs.declared.reach.Reach.{Reach}
use Rattle.rep_types.specs.Entries.{Entry}
use Rattle.rep_types.specs.Transactions.{Transaction}
use Rattle.rep_types.specs.Settings.{Setting}
use Rattle.rep_types.specs.Windows.{Window}
use Rattle.rep_types.specs.Reaches.{reach_after}
use Rattle.rep_types.specs.Order.{in_schema, greatest, seqnos_against, conflict_with, recent, verdict_among, verdict_on, is_commit, judge, extended}
use Rattle.rep_types.proofs.Windows.{recent-recent, recent-append, verdict_on-recent}
use Rattle.rep_cert.specs.declared.ring.TheConstants.{KEPT_ENTRIES}
use Rattle.rep_cert.specs.declared.reaches.TheConstants.{KEPT_REACHES}
use Rattle.rep_cert.specs.Holdings.{Holding, IsAskable, Admits, upto, back, spanned, window_of, verdict_of}
use Rattle.rep_cert.specs.Kept.{holdings, own_entry, former_reaches, Ascends, oldest, askable, holding, Reached}
use Rattle.rep_cert.proofs.Ascending.{Ascends_last, Ascends-wider, Ascends_push, upto_all, upto_below, recent-keep_last}
use Rattle.rep_cert.proofs.Reaching.{keep_last_all, keep_last-keep_last, back_last, back_keep_last, back_kept_last, back_kept, former_push, Reached_push}

-- both cuts may be made in either order
pub recent-upto : (low k : ℕ) (es : List Entry) → recent low (upto k es) ≡ upto k (recent low es)
recent-upto low k [] = refl
recent-upto low k (e ∷ es) = grind (arith, recent-upto low k es)

-- narrower cuts need nothing of what wider ones leave out
pub recent_within : (low high k d : ℕ) (es : List Entry) → low ≤ high → k ≤ d → recent high (upto k (recent low (upto d es))) ≡ recent high (upto k es)
recent_within low high k d [] lower later = refl
recent_within low high k d (e ∷ es) lower later = grind (arith, nat_tests, recent_within low high k d es lower later)

-- the window that reaches so far and has these entries
abbrev pub window_with : Reach → List Entry → Window
window_with r es = record { size = r.size; floor = r.floor; entries = es }

-- it is the same where they are
pub entries_alike : (r : Reach) (es fs : List Entry) → es ≡ fs → window_with r es ≡ window_with r fs
entries_alike r es fs same = ap (window_with r) same

-- the window at a position that can be asked for, from all reaches and entries that are kept
pub window_of_holding : (p : Setting) (made d k : ℕ) (undoable : Bool) (rs : List Reach) (capacity : ℕ) (es : List Entry) → Reached made d undoable rs capacity →
    IsAskable (holding p made d rs es) k → window_of (holding p made d rs es) k ≡ spanned (back rs (d - k)) k es
window_of_holding p made d k undoable rs capacity es reached asked =
    let r : Reach = back rs (d - k) in
    let there : back (keep_last (askable made d) rs) (d - k) ≡ r =
    back_keep_last (askable made d) rs (d - k) (omega (arith, asked.made, asked.near, asked.past)) (omega (arith, reached.enough, asked.made, asked.near, asked.past)) in
    let lower : (back rs (d - oldest made d)).floor ≤ r.floor =
    reached.rises (d - k) (d - oldest made d) (omega (arith, asked.made, asked.near)) (omega (arith, reached.enough, asked.made, asked.near, asked.past)) in
    ap (λ (q : Reach). spanned q k (holding p made d rs es).entries) there
    ∙ entries_alike r _ _ (recent_within (back rs (d - oldest made d)).floor r.floor k d es lower asked.past)

-- no kept entry is above the present position
pub upto_kept : (made d : ℕ) (given admitted : List Entry) → made ≤ d → All (λ (e : Entry). e.seqno ≤ made) given → Ascends (made + 1) (d + 1) admitted →
    upto d (given ++ admitted) ≡ given ++ admitted
upto_kept made d given admitted start below ascending =
    let first : upto d given ≡ given = upto_below made d given start below in
    let second : upto d admitted ≡ admitted = upto_all (made + 1) (d + 1) d admitted (le_refl (d + 1)) ascending in
    filter-append (λ (e : Entry). nat_le e.seqno d) given admitted
    ∙ (ap (λ (es : List Entry). es ++ upto d admitted) first ∙ ap (λ (es : List Entry). given ++ es) second)

-- the present window, from all reaches and entries that are kept
pub present_window : (p : Setting) (made d : ℕ) (undoable : Bool) (rs : List Reach) (capacity : ℕ) (es : List Entry) → Reached made d undoable rs capacity → made ≤ d →
    upto d es ≡ es →
    window_of (holding p made d rs es) d ≡ window_with (back rs 0) (recent (back rs 0).floor es)
present_window p made d undoable rs capacity es reached start whole =
    let here : d - d ≡ 0 = omega arith in
    window_of_holding p made d d undoable rs capacity es reached (record { made = start; near = omega arith; past = le_refl d })
    ∙ (ap (λ (j : ℕ). spanned (back rs j) d es) here ∙ entries_alike (back rs 0) _ _ (ap (recent (back rs 0).floor) whole))

-- the verdict on the next item, from all reaches and entries that are kept
pub verdict_of_holding : (p : Setting) (made d : ℕ) (undoable : Bool) (rs : List Reach) (capacity : ℕ) (es : List Entry) (i : Item) → Reached made d undoable rs capacity →
    made ≤ d → upto d es ≡ es → verdict_of (holding p made d rs es) i ≡ verdict_on p (back rs 0).floor (d + 1) es i
verdict_of_holding p made d undoable rs capacity es i reached start whole =
    let low : ℕ = (back rs 0).floor in
    ap (λ (v : Window). judge p d v i) (present_window p made d undoable rs capacity es reached start whole) ∙ verdict_on-recent p low low (d + 1) es i (le_refl low)

-- an entry above the cut is left out
pub upto_later : (k : ℕ) (e : Entry) → k < e.seqno → upto k (e ∷ []) ≡ []
upto_later k e above = grind (arith, nat_tests)

-- the entries with that of one more item, if it has one, ascend
pub Ascends_own : (low d : ℕ) (i : Item) (commits : Bool) (es : List Entry) → Ascends low (d + 1) es → Ascends low (d + 2) (es ++ own_entry (d + 1) i commits)
Ascends_own low d (WriteSet w) true es a = Ascends-wider low (d + 1 + 1) low (d + 2) _ (le_refl low) (omega arith) (Ascends_push low (d + 1) es _ (le_refl (d + 1)) a)
Ascends_own low d (WriteSet w) false es a = rw append-nil (Ascends-wider low (d + 1) low (d + 2) es (le_refl low) (omega arith) a)
Ascends_own low d (SetWindow c) commits es a = rw append-nil (Ascends-wider low (d + 1) low (d + 2) es (le_refl low) (omega arith) a)

-- it is above each position before it
pub upto_own : (d k : ℕ) (i : Item) (commits : Bool) → k ≤ d → upto k (own_entry (d + 1) i commits) ≡ []
upto_own d k (WriteSet w) true h = grind (arith, nat_tests)
upto_own d k (WriteSet w) false h = refl
upto_own d k (SetWindow c) commits h = refl

-- a window in two parts
pub recent_upto-append : (low k : ℕ) (xs ys : List Entry) → recent low (upto k (xs ++ ys)) ≡ recent low (upto k xs) ++ recent low (upto k ys)
recent_upto-append low k xs ys = ap (recent low) (filter-append (λ (e : Entry). nat_le e.seqno k) xs ys) ∙ recent-append low (upto k xs) (upto k ys)

-- behind other entries, what is kept of the entries of the ring gives the windows that all of them give
pub kept_whole : (lowest k low high : ℕ) (given es : List Entry) → high ≤ lowest + KEPT_ENTRIES → Ascends low high es →
    recent lowest (upto k (given ++ keep_last KEPT_ENTRIES es)) ≡ recent lowest (upto k (given ++ es))
kept_whole lowest k low high given es room a =
    let ring : recent lowest (upto k (keep_last KEPT_ENTRIES es)) ≡ recent lowest (upto k es) =
    recent-upto lowest k (keep_last KEPT_ENTRIES es) ∙ (ap (upto k) (recent-keep_last KEPT_ENTRIES lowest low high es room a) ∙ sym (recent-upto lowest k es)) in
    recent_upto-append lowest k given (keep_last KEPT_ENTRIES es)
    ∙ (ap (λ (fs : List Entry). recent lowest (upto k given) ++ fs) ring ∙ sym (recent_upto-append lowest k given es))

-- at a position before the item, they are those of the entries before it
pub kept_before : (lowest k low d : ℕ) (i : Item) (commits : Bool) (given es : List Entry) → k ≤ d → d + 2 ≤ lowest + KEPT_ENTRIES → Ascends low (d + 1) es →
    recent lowest (upto k (given ++ keep_last KEPT_ENTRIES (es ++ own_entry (d + 1) i commits))) ≡ recent lowest (upto k (given ++ es))
kept_before lowest k low d i commits given es earlier room a =
    let own : List Entry = own_entry (d + 1) i commits in
    let split : upto k (given ++ es ++ own) ≡ upto k (given ++ es) ++ upto k own = filter-append (λ (e : Entry). nat_le e.seqno k) (given ++ es) own in
    kept_whole lowest k low (d + 2) given (es ++ own) room (Ascends_own low d i commits es a)
    ∙ ap (recent lowest)
    (ap (upto k) (sym (append_assoc given es own)) ∙ (split ∙ (ap (λ (fs : List Entry). upto k (given ++ es) ++ fs) (upto_own d k i commits earlier) ∙ append-nil (upto k (given ++ es)))))

-- what is held of the items before one more is the same after it
pub holding_before : (p : Setting) (made low d : ℕ) (i : Item) (commits undoable : Bool) (rs : List Reach) (capacity : ℕ) (r : Reach) (given es : List Entry) → made ≤ d →
    Reached made d undoable rs capacity → Ascends low (d + 1) es →
    holding p made d (former_reaches (keep_last KEPT_REACHES (rs ++ r ∷ []))) (given ++ keep_last KEPT_ENTRIES (es ++ own_entry (d + 1) i commits))
    ≡ holding p made d rs (given ++ es)
holding_before p made low d i commits undoable rs capacity r given es start reached a =
    let places : ℕ = d - oldest made d in
    let less : ℕ = KEPT_REACHES - 1 in
    let more : List Entry = given ++ keep_last KEPT_ENTRIES (es ++ own_entry (d + 1) i commits) in
    let first : back (keep_last less rs) places ≡ back rs places = back_keep_last less rs places (omega arith) (omega (arith, reached.enough)) in
    let near : d + 1 ≤ (back rs places).floor + MAX_WINDOW + places = reached.spans places (omega (arith, reached.enough)) in
    ap (λ (qs : List Reach). holding p made d qs more) (former_push less KEPT_REACHES rs r (omega arith))
    ∙ (ap (λ (qs : List Reach). held qs (recent (back (keep_last less rs) places).floor (upto d more))) (keep_last-keep_last (askable made d) less rs (omega arith))
    ∙ (ap (λ (q : Reach). held (keep_last (askable made d) rs) (recent q.floor (upto d more))) first
    ∙ ap (held (keep_last (askable made d) rs)) (kept_before (back rs places).floor d low d i commits given es (le_refl d) (omega (arith, near)) a)))
  where
    held : List Reach → List Entry → Holding
    held qs fs = record { setting = p; made = made; delivered = d; reaches = qs; entries = fs }

-- one more item: what is held after it
module _ (p : Setting) (made d : ℕ) (undoable : Bool) (rs : List Reach) (capacity : ℕ) (i : Item) (given es : List Entry) (start : made ≤ d)
    (reached : Reached made d undoable rs capacity) (near : d + 1 + 1 ≤ (reach_after (back rs 0) (d + 1) i).floor + MAX_WINDOW)
    (below : All (λ (e : Entry). e.seqno ≤ made) given) (a : Ascends (made + 1) (d + 1) es) where
  abbrev before_item : Holding
  before_item = holding p made d rs (given ++ es)

  abbrev next_reach : Reach
  next_reach = reach_after (back rs 0) (d + 1) i

  abbrev next_reaches : List Reach
  next_reaches = keep_last KEPT_REACHES (rs ++ next_reach ∷ [])

  abbrev own : List Entry
  own = own_entry (d + 1) i (is_commit (verdict_of before_item i))

  abbrev next_entries : List Entry
  next_entries = given ++ keep_last KEPT_ENTRIES (es ++ own)

  abbrev after_item : Holding
  after_item = holding p made (d + 1) next_reaches next_entries

  reached_next : Reached made (d + 1) true next_reaches KEPT_REACHES
  reached_next = Reached_push made d undoable rs capacity start reached next_reach (omega arith) near

  -- the next window
  next_window : window_of after_item (d + 1) ≡ extended (window_of before_item d) (record { seqno = d + 1; item = i; verdict = verdict_of before_item i })
  next_window =
      let all : List Entry = given ++ es in
      let low : ℕ = (back rs 0).floor in
      let high : ℕ = next_reach.floor in
      let wide : Ascends (made + 1) (d + 2) (es ++ own) = Ascends_own (made + 1) d i (is_commit (verdict_of before_item i)) es a in
      let here : d + 1 - (d + 1) ≡ 0 = omega arith in
      let last : back next_reaches (d + 1 - (d + 1)) ≡ next_reach = ap (back next_reaches) here ∙ back_kept_last KEPT_REACHES rs next_reach (omega arith) in
      let none_later : upto (d + 1) (given ++ (es ++ own)) ≡ given ++ (es ++ own) =
      upto_kept made (d + 1) given (es ++ own) (omega arith) below (Ascends-wider (made + 1) (d + 2) (made + 1) (d + 1 + 1) (es ++ own) (le_refl (made + 1)) (omega arith) wide) in
      let kept : recent high (upto (d + 1) next_entries) ≡ recent high (all ++ own) =
      kept_whole high (d + 1) (made + 1) (d + 2) given (es ++ own) (omega (arith, near)) wide ∙ ap (recent high) (none_later ∙ sym (append_assoc given es own)) in
      let joined : recent high (all ++ own) ≡ recent high (recent low all ++ own) =
      recent-append high all own
      ∙ (ap (λ (fs : List Entry). fs ++ recent high own) (sym (recent-recent low high (omega arith) all)) ∙ sym (recent-append high (recent low all) own)) in
      window_of_holding p made (d + 1) (d + 1) true next_reaches KEPT_REACHES next_entries reached_next (record { made = omega arith; near = omega arith; past = le_refl (d + 1) })
      ∙ (ap (λ (q : Reach). spanned q (d + 1) next_entries) last
      ∙ (entries_alike next_reach _ _ (kept ∙ joined)
      ∙ sym
      (ap (λ (v : Window). extended v (record { seqno = d + 1; item = i; verdict = verdict_of before_item i }))
      (present_window p made d undoable rs capacity all reached start (upto_kept made d given es start below a)))))

  -- the windows before it
  kept_windows : (k : ℕ) → IsAskable after_item k → k ≤ d → window_of after_item k ≡ window_of before_item k
  kept_windows k asked earlier =
      let r : Reach = back rs (d - k) in
      let next : d + 1 - k ≡ d - k + 1 = omega arith in
      let inside : d - k < length rs = omega (arith, reached.enough, asked.made, asked.near) in
      let there : back next_reaches (d + 1 - k) ≡ r = ap (back next_reaches) next ∙ back_kept KEPT_REACHES rs next_reach (d - k) (omega (arith, asked.near)) inside in
      window_of_holding p made (d + 1) k true next_reaches KEPT_REACHES next_entries reached_next asked
      ∙ (ap (λ (q : Reach). spanned q k next_entries) there
      ∙ (entries_alike r _ _ (kept_before r.floor k (made + 1) d i (is_commit (verdict_of before_item i)) given es earlier (omega (arith, reached.spans (d - k) inside, asked.near)) a)
      ∙ sym (window_of_holding p made d k undoable rs capacity (given ++ es) reached (record { made = asked.made; near = omega (arith, asked.near); past = earlier }))))

  pub Admits_holding : Admits before_item i after_item
  Admits_holding = record { setting = refl; made = refl; delivered = refl; next = next_window; kept = kept_windows }

-- what a verdict among all entries that are kept is, where the write set is certifiable: a conflict with the greatest seqno that stands
-- against it
pub certified : (p : Setting) (low d : ℕ) (es : List Entry) (w : Transaction) → w.last_seen < d + 1 → in_schema p w ≡ true → low ≤ w.last_seen + 1 →
    verdict_among p low (d + 1) es w ≡ conflict_with (greatest (seqnos_against w es))
certified p low d es w past keys near = grind (arith, nat_tests)

-- no more than n entries are kept
pub length-keep_last : (n : ℕ) (es : List Entry) → length (keep_last n es) ≤ n
length-keep_last n es = omega (arith, length-drop (length es - n) es)

-- a list ends with its last element
pub ends_with : {A : Type 0} (xs : List A) (x : A) → slice_get xs (length xs - 1) ≡ Some x → xs ≡ take (length xs - 1) xs ++ x ∷ []
ends_with xs x is =
    let inside : length xs - 1 < length xs = slice_get_within xs (length xs - 1) x is in
    sym (take_all (length xs - 1 + 1) xs (omega arith))
    ∙ (take_more xs (length xs - 1) x inside ∙ ap (λ y. take (length xs - 1) xs ++ y ∷ []) (get_or_from_slice_get xs (length xs - 1) x x is))

-- a list without a last element is empty
pub no_last : {A : Type 0} (xs : List A) → slice_get xs (length xs - 1) ≡ None → xs ≡ []
no_last [] is = refl
no_last (x ∷ xs) is = ⊎_elim (λ some. absurd (cc (some.2))) (λ past. absurd (omega arith)) (slice_get_cases (x ∷ xs) (length (x ∷ xs) - 1)).1

-- without its newest entry, where that is the item's
pub without_newest : (n : ℕ) (es : List Entry) (e : Entry) → 0 < n → Ascends 0 (n + 1) es → slice_get es (length es - 1) ≡ Some e → e.seqno ≡ n →
    take (length es - 1) es ≡ upto (n - 1) es
without_newest n es e pos a last is =
    let front : List Entry = take (length es - 1) es in
    let split : es ≡ front ++ e ∷ [] = ends_with es e last in
    let P : List Entry → Type 0 = λ fs. Ascends 0 (n + 1) fs in
    let before : (e.seqno < n + 1) × Ascends 0 e.seqno front = Ascends_last 0 (n + 1) front e (subst P split a) in
    let own : upto (n - 1) (e ∷ []) ≡ [] = upto_later (n - 1) e (omega arith) in
    sym
    (ap (upto (n - 1)) split
    ∙ (filter-append (λ (f : Entry). nat_le f.seqno (n - 1)) front (e ∷ [])
    ∙ (ap (λ (fs : List Entry). upto (n - 1) front ++ fs) own ∙ (append-nil (upto (n - 1) front) ∙ upto_all 0 e.seqno (n - 1) front (omega arith) before.1))))

-- entries whose newest is not the item's are those before it
pub without_none : (n : ℕ) (es : List Entry) (e : Entry) → 0 < n → Ascends 0 (n + 1) es → slice_get es (length es - 1) ≡ Some e → e.seqno ≢ n → es ≡ upto (n - 1) es
without_none n es e pos a last not =
    let front : List Entry = take (length es - 1) es in
    let split : es ≡ front ++ e ∷ [] = ends_with es e last in
    let P : List Entry → Type 0 = λ fs. Ascends 0 (n + 1) fs in
    let before : (e.seqno < n + 1) × Ascends 0 e.seqno front = Ascends_last 0 (n + 1) front e (subst P split a) in
    let below : e.seqno + 1 ≤ n = omega (arith, before.0) in
    let Q : List Entry → Type 0 = λ fs. Ascends 0 (e.seqno + 1) fs in
    let all : Ascends 0 (e.seqno + 1) es = subst Q (sym split) (Ascends_push 0 e.seqno front e (le_refl e.seqno) before.1) in
    sym (upto_all 0 (e.seqno + 1) (n - 1) es (omega arith) all)

-- a cut that is made twice
pub upto-upto : (k : ℕ) (es : List Entry) → upto k (upto k es) ≡ upto k es
upto-upto k [] = refl
upto-upto k (e ∷ es) = grind (arith, upto-upto k es)

-- one entry in front of a cut, kept or left out
Ascends_cut : (b : Bool) (low high : ℕ) (e : Entry) (es : List Entry) → (b ≡ true → Ascends low high (e ∷ es)) → Ascends low high es → Ascends low high (if b then e ∷ es else es)
Ascends_cut true low high e es with_it without = with_it refl
Ascends_cut false low high e es with_it without = without

-- a cut ascends up to its seqno
pub Ascends-upto : (k low high : ℕ) (es : List Entry) → low ≤ k + 1 → Ascends low high es → Ascends low (k + 1) (upto k es)
Ascends-upto k low high [] fit a = fit
Ascends-upto k low high (e ∷ es) fit a =
    Ascends_cut (nat_le e.seqno k) low (k + 1) e (upto k es)
    (λ kept. (a.0, Ascends-upto k (e.seqno + 1) high es (omega (arith, leb-true e.seqno k kept)) a.1))
    (Ascends-upto k low high es fit (Ascends-wider (e.seqno + 1) high low high es (omega (arith, a.0)) (le_refl high) a.1))

-- a cut has no more entries than it is made of
pub length-upto : (k : ℕ) (es : List Entry) → length (upto k es) ≤ length es
length-upto k es = omega (arith, length-filter_both (λ (e : Entry). nat_le e.seqno k) (λ (e : Entry). not (nat_le e.seqno k)) (λ e. refl) es)

-- what can be undone
pub is_undoable : {A : Type 0} (b : Bool) (x : A) → IsSome (if b then Some x else None) → b ≡ true
is_undoable true x some = refl
is_undoable false x some = grind arith

-- what stood before the last item, from the entries without its own
pub before_undo : (p : Setting) (made d : ℕ) (undoable : Bool) (rs : List Reach) (given es : List Entry) → undoable ≡ true →
    (holdings p made d undoable rs (given ++ es)).before ≡ Some (holding p made (d - 1) (former_reaches rs) (given ++ upto (d - 1) es))
before_undo p made d undoable rs given es is =
    let test : Entry → Bool = λ (e : Entry). nat_le e.seqno (d - 1) in
    let cut : upto (d - 1) (given ++ es) ≡ upto (d - 1) (given ++ upto (d - 1) es) =
    filter-append test given es
    ∙ (ap (λ (fs : List Entry). upto (d - 1) given ++ fs) (sym (upto-upto (d - 1) es)) ∙ sym (filter-append test given (upto (d - 1) es))) in
    let same : holding p made (d - 1) (former_reaches rs) (given ++ es) ≡ holding p made (d - 1) (former_reaches rs) (given ++ upto (d - 1) es) =
    ap
    (λ (fs : List Entry). record {
      setting = p;
      made = made;
      delivered = d - 1;
      reaches = keep_last (askable made (d - 1)) (former_reaches rs);
      entries = recent (back (former_reaches rs) (d - 1 - oldest made (d - 1))).floor fs;
    }) cut in
    rw is (ap Some same)

-- both cuts in one test
pub between : (low k : ℕ) (es : List Entry) → filter (λ (e : Entry). nat_le low e.seqno && nat_le e.seqno k) es ≡ recent low (upto k es)
between low k [] = refl
between low k (e ∷ es) = grind (arith, nat_tests, between low k es)

-- what a new certifier holds, from the entries that it was made with
pub holding_made : (p : Setting) (position : ℕ) (r : Reach) (es : List Entry) →
    holding p position position (r ∷ []) (recent r.floor (upto position es) ++ []) ≡
    record { setting = p; made = position; delivered = position; reaches = r ∷ []; entries = recent r.floor (upto position es) }
holding_made p position r es =
    let here : position - oldest position position ≡ 0 = omega arith in
    let first : back (r ∷ []) (position - oldest position position) ≡ r = ap (back (r ∷ [])) here ∙ back_last [] r in
    let cut : List Entry = recent r.floor (upto position es) in
    let again : recent r.floor (upto position (cut ++ [])) ≡ cut =
    ap (λ (fs : List Entry). recent r.floor (upto position fs)) (append-nil cut)
    ∙ recent_within r.floor r.floor position position es (le_refl r.floor) (le_refl position) in
    ap (λ (qs : List Reach). held qs (recent (back (r ∷ []) (position - oldest position position)).floor (upto position (cut ++ []))))
    (keep_last_all (askable position position) (r ∷ []) (omega arith))
    ∙ (ap (λ (q : Reach). held (r ∷ []) (recent q.floor (upto position (cut ++ [])))) first ∙ ap (held (r ∷ [])) again)
  where
    held : List Reach → List Entry → Holding
    held qs fs = record { setting = p; made = position; delivered = position; reaches = qs; entries = fs }
