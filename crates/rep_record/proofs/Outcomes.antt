-- What comes of a line, by what it says.
use Rattle.std.proofs.Common.{◌≡◌, ℕ, ◌<◌, Bool, true, false, cond, ltb, leb, List, [], ◌∷◌, length, take, drop, map, Option, Some, None, Result, Ok, Err, refl, sym, ap, subst, ◌∙◌, arith, inl, inr}
use Rattle.std.specs.Prelude.{◌≢◌, ◌&&◌, ◌||◌, IfOk, IfErr, codes}
use Rattle.std.specs.List.{list_any}
use Rattle.std.specs.Option.{option_map}
use Rattle.std.proofs.Math.Bool.{and-false}
use Rattle.std.proofs.lemmas.Bool.{cases_lt, lt-ltb, le-ltb, lt-leb}
use Rattle.std.proofs.lemmas.List.{take_all, length-take, length-map}
use Rattle.rep_types.specs.declared.value.Write.{Write}
use Rattle.rep_types.specs.declared.item.Item.{Item}
use Rattle.rep_types.specs.declared.item.Item.TheVariants.{WriteSet, SetWindow as OfSetWindow}
use Rattle.rep_types.specs.declared.item.SetWindow.{SetWindow}
use Rattle.rep_types.specs.declared.refusal.Refusal.{Refusal}
use Rattle.rep_types.specs.declared.refusal.Refusal.TheVariants.{Malformed, TooManyReads, TooManyWrites, ValueTooLong, BadParams, StreamFault}
use Rattle.rep_types.specs.Transactions.{Transaction, misplaced}
use Rattle.rep_types.specs.Items.{as_item}
use Rattle.rep_types.specs.Settings.{Setting, setting, is_setting, allowed}
use Rattle.rep_types.specs.Windows.{is_window_size}
use Rattle.rep_record.specs.Words.{words}
use Rattle.rep_record.specs.Grammar.{IsItemLine, IsOrderLine, IsParamsLine}
use Rattle.rep_record.specs.Reading.{is_next, is_long, well_placed, limited, sized, of_kind, limited_item, outcome, tail_in, item_form, item_in, item_outcome, item_line, change_in, change_form, change_outcome, order_form, order_outcome, order_line, params_form, params_outcome, params_line}
use Rattle.rep_record.specs.Drafts.{short_write, drafted, limited_draft, drafted_setting}
use Rattle.rep_record.proofs.Parts.{item_means, by_first_word, order_means, params_mean}

-- ---- what is kept of a line passes the same limits

-- where no value is too long, each write is kept as it is
short_same : (writes : List Write) → list_any is_long writes ≡ false → map short_write writes ≡ writes
short_same [] e = refl
short_same (write ∷ writes) e = by_test (is_long write) e (short_same writes)
  where
    by_test : (long : Bool) → (long || list_any is_long writes) ≡ false → (list_any is_long writes ≡ false → map short_write writes ≡ writes)
        → (cond long (record { key = write.key; value = None }) write ∷ map short_write writes) ≡ write ∷ writes
    by_test true e h = absurd cc
    by_test false e h = ap (λ ws. write ∷ ws) (h e)

-- what is kept of the writes, where there are not too many
short_placed : (number : ℕ) (w : Transaction) (long : Bool) → list_any is_long w.writes ≡ long
    → cond long (Err ValueTooLong) (well_placed number (record w { writes = map short_write w.writes }) (misplaced w.reads (map short_write w.writes)))
    ≡ cond long (Err ValueTooLong) (well_placed number w (misplaced w.reads w.writes))
short_placed number w true e = refl
short_placed number w false e = ap (λ ws. well_placed number (record w { writes = ws }) (misplaced w.reads ws)) (short_same w.writes e)

-- what is kept of a write set passes the same first limit, or none
limited_drafted : (number : ℕ) (w : Transaction) → limited_draft number (drafted w) ≡ limited number w
limited_drafted number w =
    let short = map short_write w.writes in
    let size : length short ≡ length w.writes = length-map w.writes short_write in
    elim (cases_lt 16 (length w.reads)) [
      | inl lt ↦ rw (lt-ltb 16 (length w.reads) lt, lt-ltb 16 (length (take 17 w.reads)) (omega (arith, length-take 17 w.reads))) refl
      | inr le ↦ rw (take_all 17 w.reads (omega arith), le-ltb 16 (length w.reads) le) (elim (cases_lt 16 (length w.writes)) [
        | inl lt ↦ rw (lt-ltb 16 (length w.writes) lt, lt-ltb 16 (length (take 17 short)) (omega (arith, length-take 17 short))) refl
        | inr few ↦ rw (take_all 17 short (omega arith), le-ltb 16 (length w.writes) few, le-ltb 16 (length short) (omega arith)) (short_placed number w (list_any is_long w.writes) refl)
      ])
    ]

-- what comes of what was kept of a line
kept_outcome : {A B D : Type 0} (keep : A → D) (judge : D → Result B Refusal) (limit : A → Result B Refusal) → ((x : A) → judge (keep x) ≡ limit x)
    → (number : ℕ) (form : Option A) → outcome judge number (option_map keep form) ≡ outcome limit number form
kept_outcome keep judge limit same number None = refl
kept_outcome keep judge limit same number (Some x) = same x

pub item_kept : (number : ℕ) (form : Option Transaction) → outcome (limited_draft number) number (option_map drafted form) ≡ item_outcome number form
item_kept number form = kept_outcome drafted (limited_draft number) (limited number) (limited_drafted number) number form

-- too many tables are outside the limits
wide_setting : (p : Setting) → 8 < length p.rows → is_setting p ≡ false
wide_setting p wide = rw (lt-leb (length p.rows) 8 wide, and-false (ltb 0 (length p.rows)), and-false (leb 1 p.window && leb p.window 256 && leb 4 p.cells && leb p.cells 1024)) refl

-- what is kept of the parameters is inside the limits where they are
allowed_drafted : (p : Setting) → allowed (drafted_setting p) ≡ allowed p
allowed_drafted p =
    elim (cases_lt 9 (length p.rows)) [
      | inl lt ↦ rw (wide_setting p (omega arith), wide_setting (drafted_setting p) (omega (arith, length-take 9 p.rows))) refl
      | inr le ↦ ap (λ rows. allowed (setting p.window p.cells rows)) (take_all 9 p.rows le)
    ]

pub params_kept : (number : ℕ) (form : Option Setting) → outcome allowed number (option_map drafted_setting form) ≡ params_outcome number form
params_kept number form = kept_outcome drafted_setting allowed allowed allowed_drafted number form

-- ---- what comes of a line of either kind

-- what comes of a line whose items are of this kind
kind_outcome : {A : Type 0} (kind : A → Item) (number : ℕ) (limit : A → Result A Refusal) → ((x : A) → limited_item number (kind x) ≡ of_kind kind (limit x))
    → (form : Option A) → outcome (limited_item number) number (option_map kind form) ≡ of_kind kind (outcome limit number form)
kind_outcome kind number limit same None = refl
kind_outcome kind number limit same (Some x) = same x

-- what stands behind the first word, where that is `window`
change_behind : (line : List ℕ) → is_next (codes "window") (words line) ≡ true → change_form line ≡ change_in (drop 1 (words line))
change_behind line e = ap (λ b. cond b (change_in (drop 1 (words line))) None) e

-- what comes of a line by its first word
pub order_by_kind : (number : ℕ) (line : List ℕ) (b : Bool) → is_next (codes "window") (words line) ≡ b
    → order_line number line ≡ cond b (of_kind OfSetWindow (change_outcome number (change_in (drop 1 (words line))))) (of_kind WriteSet (item_line number line))
order_by_kind number line true e =
    ap (order_outcome number) (by_first_word line true e) ∙ kind_outcome OfSetWindow number sized (λ c. refl) (change_form line) ∙ ap (λ form. of_kind OfSetWindow (change_outcome number form)) (change_behind line e)
order_by_kind number line false e = ap (order_outcome number) (by_first_word line false e) ∙ kind_outcome WriteSet number (limited number) (λ w. refl) (item_form line)

-- what comes of words that say an item, by the first of them
pub stated_by_kind : (number : ℕ) (words : List (List ℕ)) (b : Bool) → is_next (codes "window") words ≡ b
    → order_outcome number (item_in words) ≡ cond b (of_kind OfSetWindow (change_outcome number (change_in (drop 1 words)))) (of_kind WriteSet (item_outcome number (tail_in words)))
stated_by_kind number words true e =
    ap (λ v. order_outcome number (cond v (option_map OfSetWindow (change_in (drop 1 words))) (option_map WriteSet (tail_in words)))) e ∙ kind_outcome OfSetWindow number sized (λ c. refl) (change_in (drop 1 words))
stated_by_kind number words false e =
    ap (λ v. order_outcome number (cond v (option_map OfSetWindow (change_in (drop 1 words))) (option_map WriteSet (tail_in words)))) e ∙ kind_outcome WriteSet number (limited number) (λ w. refl) (tail_in words)

-- ---- a write set as an item

pub as_write_set : (given : Result Transaction Refusal) (w : Transaction) → Ok (WriteSet w) ≡ as_item given → Ok w ≡ given
as_write_set (Ok v) w is = cc
as_write_set (Err e) w is = absurd (let never : ◌≡◌ {A = Result Item Refusal} (Ok (WriteSet w)) (Err e) = is in cc)

pub as_refused : (given : Result Transaction Refusal) (e : Refusal) → Err e ≡ as_item given → Err e ≡ given
as_refused (Ok w) e is = absurd (let never : ◌≡◌ {A = Result Item Refusal} (Err e) (Ok (WriteSet w)) = is in cc)
as_refused (Err f) e is = cc

-- ---- what is given is what the line says

-- What comes of a line, where what is given is what the line says.
pub record Comes {A : Type 0} (Says : A → Type 0) (limit : A → Result A Refusal) (number : ℕ) (r : Result A Refusal) : Type 0 where
  pub found : IfOk r Says
  pub formed : (x : A) → Says x → r ≡ limit x
  pub unformed : ((x : A) → Says x → ⊥) → r ≡ Err (Malformed number)

-- what holds of a value holds of what is given, where that is the value
if_same : {A : Type 0} (P : A → Type 0) (x : A) (r : Result A Refusal) → IfOk r (λ v. x ≡ v) → P x → IfOk r P
if_same P x (Ok v) e h = subst P e h
if_same P x (Err refusal) e h = tt

comes : {A : Type 0} {Says : A → Type 0} (limit : A → Result A Refusal) (number : ℕ) → ((x : A) → IfOk (limit x) (λ v. x ≡ v))
    → (form : Option A) → ((x : A) → form ≡ Some x → Says x) → ((x : A) → Says x → form ≡ Some x) → Comes Says limit number (outcome limit number form)
comes limit number same None found again = record { found = tt; formed = λ x h. absurd (let some = again x h in cc); unformed = λ none. refl }
comes {Says = Says} limit number same (Some w) found again = record {
  found = if_same Says w (limit w) (same w) (found w refl);
  formed = λ x h. let is = again x h in let one : w ≡ x = cc in ap limit one;
  unformed = λ none. absurd (none w (found w refl));
}

-- a test that refuses changes nothing else
unless : {A : Type 0} (x : A) (refusal : Refusal) (r : Result A Refusal) (b : Bool) → IfOk r (λ v. x ≡ v) → IfOk (cond b (Err refusal) r) (λ v. x ≡ v)
unless x refusal r true h = tt
unless x refusal r false h = h

-- a write set that is given is the one whose order was looked at
placed_same : (number : ℕ) (w : Transaction) (place : Option ℕ) → IfOk (well_placed number w place) (λ v. w ≡ v)
placed_same number w None = refl
placed_same number w (Some i) = tt

-- a write set that is given is the one whose limits were looked at
limited_same : (number : ℕ) (w : Transaction) → IfOk (limited number w) (λ v. w ≡ v)
limited_same number w = unless w _ _ (ltb 16 (length w.reads)) (unless w _ _ (ltb 16 (length w.writes)) (unless w _ _ (list_any is_long w.writes) (placed_same number w (misplaced w.reads w.writes))))

-- what is given under a kind is the same where what is given is
kind_same : {A : Type 0} (kind : A → Item) (x : A) (r : Result A Refusal) → IfOk r (λ y. x ≡ y) → IfOk (of_kind kind r) (λ i. kind x ≡ i)
kind_same kind x (Ok y) e = ap kind e
kind_same kind x (Err refusal) e = tt

-- a change that is given is the one whose size was looked at
sized_same : (c : SetWindow) (b : Bool) → IfOk (cond b (Ok c) (Err BadParams)) (λ d. c ≡ d)
sized_same c true = refl
sized_same c false = tt

-- an item that is given is the one whose limits were looked at
item_same : (number : ℕ) (i : Item) → IfOk (limited_item number i) (λ j. i ≡ j)
item_same number (WriteSet w) = kind_same WriteSet w (limited number w) (limited_same number w)
item_same number (OfSetWindow c) = kind_same OfSetWindow c (sized c) (sized_same c (is_window_size c.size))

-- the parameters that are given are those whose limits were looked at
allowed_same : (p : Setting) (b : Bool) → IfOk (cond b (Ok p) (Err BadParams)) (λ q. p ≡ q)
allowed_same p true = refl
allowed_same p false = tt

pub item_comes : (number : ℕ) (line : List ℕ) (r : Result Transaction Refusal) → r ≡ item_line number line → Comes (IsItemLine line) (limited number) number r
item_comes number line r e =
    subst (Comes (IsItemLine line) (limited number) number) (sym e) (comes (limited number) number (limited_same number) (item_form line) (item_means.found line).of (item_means.again line))

pub order_comes : (number : ℕ) (line : List ℕ) (r : Result Item Refusal) → r ≡ order_line number line → Comes (IsOrderLine line) (limited_item number) number r
order_comes number line r e =
    subst (Comes (IsOrderLine line) (limited_item number) number) (sym e) (comes (limited_item number) number (item_same number) (order_form line) (order_means.found line).of (order_means.again line))

pub params_come : (number : ℕ) (line : List ℕ) (r : Result Setting Refusal) → r ≡ params_line number line → Comes (IsParamsLine line) allowed number r
params_come number line r e =
    subst (Comes (IsParamsLine line) allowed number) (sym e) (comes allowed number (λ p. allowed_same p (is_setting p)) (params_form line) (params_mean.found line).of (params_mean.again line))

-- ---- no line is refused as a stream that has failed

abbrev pub IsOwn : {A : Type 0} → Result A Refusal → Type 0
IsOwn r = IfErr r (λ refusal. refusal ≢ StreamFault)

own_unless : {A : Type 0} (refusal : Refusal) (r : Result A Refusal) (b : Bool) → refusal ≢ StreamFault → IsOwn r → IsOwn (cond b (Err refusal) r)
own_unless refusal r true other own = other
own_unless refusal r false other own = own

own_if : {A : Type 0} (x : A) (b : Bool) → IsOwn (cond b (Ok x) (Err BadParams))
own_if x true = tt
own_if x false = λ e. absurd cc

outcome_own : {A B : Type 0} (limit : A → Result B Refusal) → ((x : A) → IsOwn (limit x)) → (number : ℕ) (form : Option A) → IsOwn (outcome limit number form)
outcome_own limit own number None = λ e. absurd cc
outcome_own limit own number (Some x) = own x

placed_own : (number : ℕ) (w : Transaction) (place : Option ℕ) → IsOwn (well_placed number w place)
placed_own number w None = tt
placed_own number w (Some at) = λ e. absurd cc

limited_own : (number : ℕ) (w : Transaction) → IsOwn (limited number w)
limited_own number w =
    own_unless TooManyReads _ (ltb 16 (length w.reads)) (λ e. absurd cc)
    (own_unless TooManyWrites _ (ltb 16 (length w.writes)) (λ e. absurd cc)
    (own_unless ValueTooLong _ (list_any is_long w.writes) (λ e. absurd cc) (placed_own number w (misplaced w.reads w.writes))))

kind_own : {A : Type 0} (kind : A → Item) (r : Result A Refusal) → IsOwn r → IsOwn (of_kind kind r)
kind_own kind (Ok x) own = tt
kind_own kind (Err refusal) own = own

item_own : (number : ℕ) (i : Item) → IsOwn (limited_item number i)
item_own number (WriteSet w) = kind_own WriteSet (limited number w) (limited_own number w)
item_own number (OfSetWindow c) = kind_own OfSetWindow (sized c) (own_if c (is_window_size c.size))

pub order_own : (number : ℕ) (form : Option Item) (r : Result Item Refusal) → r ≡ order_outcome number form → IfErr r (λ refusal. refusal ≢ StreamFault)
order_own number form r is = rw is (outcome_own (limited_item number) (item_own number) number form)

pub params_own : (number : ℕ) (form : Option Setting) (r : Result Setting Refusal) → r ≡ params_outcome number form → IfErr r (λ refusal. refusal ≢ StreamFault)
params_own number form r is = rw is (outcome_own allowed (λ p. own_if p (is_setting p)) number form)
