-- What is read as a window's body is spelled so, and what is spelled so is read.
use Rattle.std.proofs.Common.{◌≡◌, ℕ, zero, suc, ◌-◌, ◌^◌, ◌<◌, ◌≤◌, true, List, [], ◌∷◌, ◌++◌, length, map, Option, Some, None, refl, sym, ap, subst, ◌∙◌, append_assoc, arith, length-append}
use Rattle.std.specs.Prelude.{is_none, max, ◌+◌}
use Rattle.std.specs.List.{list_all, AllByRecursion}
use Rattle.std.specs.List.Sorted.{IsStrictlyIncreasing}
use Rattle.std.proofs.lemmas.Bool.Decides.{nat_tests}
use Rattle.std.proofs.lemmas.Option.{same_Some, cond_some}
use Rattle.rep_types.specs.declared.key.Key.{Key}
use Rattle.rep_types.specs.Entries.{Entry}
use Rattle.rep_types.specs.declared.reach.Reach.{Reach}
use Rattle.rep_types.specs.Windows.{Window as Kept, is_window_size}
use Rattle.rep_types.specs.Settings.{Setting, is_setting, has_row}
use Rattle.rep_types.proofs.Lists.{below_one_of}
use Rattle.rep_forms.specs.Forms.{zeros, are_blank, AreMany, TakesFront}
use Rattle.rep_forms.specs.FormLaws.{length_number, length_zeros, run_short, blank_is, zeros_blank}
use Rattle.rep_forms.specs.Keys.{KeyFits}
use Rattle.rep_forms.specs.Entries.{EntryFits, entry_bytes, entry_form}
use Rattle.rep_forms.specs.EntryLaws.{entry_short}
use Rattle.rep_forms.specs.Runs.{Leads, Follow, IsChain}
use Rattle.rep_forms.specs.Told.{AreTold, RunsAreTold}
use Rattle.rep_layout.specs.declared.format.Format.{Format}
use Rattle.rep_layout.specs.declared.format.Format.TheVariants.{One, Two}
use Rattle.rep_layout.specs.declared.window_reader.Head.{Head}
use Rattle.rep_layout.specs.Formats.{told_by as told_in}
use Rattle.rep_layout.specs.SuperLaws.{limits_of, rows_fit}
use Rattle.rep_layout.specs.Windows.{Window, window, IsEntry, IsOfFormat, seqno_of, IsWindowBody, window_mark, run_bytes, window_bytes, HeadFits, head_bytes, head_of, head_form, Standing, standing, next_entry}

-- ---- entries one after another

-- nothing is out of order
none_is : (o : Option ℕ) → is_none o ≡ true → o ≡ None
none_is None h = refl
none_is (Some x) h = absurd cc

-- what a step says
step_says : (s : Standing) (e : Entry) (t : Standing) → next_entry s e ≡ Some t → IsEntry s.params s.floor s.position e × (s.before < e.seqno) × (standing s.params s.floor s.position e.seqno ≡ t)
step_says s e t h = grind (arith, nat_tests, none_is, cond_some)

-- one more in front of numbers that ascend, and one less
ascends_cons : (a b : ℕ) (xs : List ℕ) → a < b → IsStrictlyIncreasing (b ∷ xs) → IsStrictlyIncreasing (a ∷ b ∷ xs)
ascends_cons a b xs lt h zero l = lt
ascends_cons a b xs lt h (suc k) l = grind (arith, h k)

ascends_rest : (a : ℕ) (xs : List ℕ) → IsStrictlyIncreasing (a ∷ xs) → IsStrictlyIncreasing xs
ascends_rest a xs h k lt = grind (arith, h (suc k))

-- entries that follow are of the window, and their seqnos ascend
entries_of : (s : Standing) (es : List Entry) (t : Standing) → Leads next_entry s es t → AllByRecursion (IsEntry s.params s.floor s.position) es × IsStrictlyIncreasing (s.before ∷ map seqno_of es)
entries_of s [] t h = (tt, λ k lt. absurd (omega (arith, lt)))
entries_of s (e ∷ es) t h =
    let one = step_says s e h.0 h.1 in
    let rest = entries_of (standing s.params s.floor s.position e.seqno) es t (subst (λ (r : Standing). Leads next_entry r es t) (sym one.2) h.2) in
    ((one.0, rest.0), ascends_cons s.before e.seqno (map seqno_of es) one.1 rest.1)

-- and the other way
follow_of : (s : Standing) (es : List Entry) → AllByRecursion (IsEntry s.params s.floor s.position) es → IsStrictlyIncreasing (s.before ∷ map seqno_of es) → Follow next_entry s es
follow_of s [] all ascend = (s, refl)
follow_of s (e ∷ es) all ascend =
    let rest = follow_of (standing s.params s.floor s.position e.seqno) es all.1 (ascends_rest s.before (e.seqno ∷ map seqno_of es) ascend) in
    (rest.0, (standing s.params s.floor s.position e.seqno, grind (arith, nat_tests, ascend 0), rest.1))

-- the first seqno is above 0
above_none : (p : Setting) (lowest position : ℕ) (es : List Entry) → 1 ≤ lowest → AllByRecursion (IsEntry p lowest position) es → IsStrictlyIncreasing (map seqno_of es) → IsStrictlyIncreasing (0 ∷ map seqno_of es)
above_none p lowest position [] some all h = λ k lt. absurd (omega (arith, lt))
above_none p lowest position (e ∷ es) some all h = ascends_cons 0 e.seqno (map seqno_of es) (omega (arith, some, all.0.near)) h

-- ---- a window is what entries that follow make

pub is_window : (p : Setting) (format : Format) (number position : ℕ) (v : Kept) → number < 2 ^ 64 → position < 2 ^ 64 → IsOfFormat format p position v
    → is_window_size v.size ≡ true → max 1 (position + 1 - v.size) ≤ v.floor → v.floor ≤ max 1 position → length v.entries ≤ v.size
    → Follow next_entry (standing p v.floor position 0) v.entries → IsWindowBody p (window format number position v)
is_window p format number position v n q said size least most few follow =
    let entries = entries_of (standing p v.floor position 0) v.entries follow.0 follow.1 in
    record {
      number = n;
      position = q;
      format = said;
      kept = record { size = size; least = least; most = most; few = few; ascend = ascends_rest 0 (map seqno_of v.entries) entries.1; entries = entries.0 };
    }

pub entries_follow : (p : Setting) (w : Window) → IsWindowBody p w → Follow next_entry (standing p w.kept.floor w.position 0) w.kept.entries
entries_follow p w h =
    let some : 1 ≤ w.kept.floor = omega (arith, h.kept.least) in
    follow_of (standing p w.kept.floor w.position 0) w.kept.entries h.kept.entries (above_none p w.kept.floor w.position w.kept.entries some h.kept.entries h.kept.ascend)

-- a size within the limits
pub size_small : (size : ℕ) → is_window_size size ≡ true → size ≤ 256
size_small size h = grind (arith, nat_tests)

-- what a format tells of small numbers is small
told_small : (format : Format) (n limit : ℕ) → 0 < limit → n < limit → told_in format n < limit
told_small One n limit some h = some
told_small Two n limit some h = h

-- windows of one format that tell the same, of one position, reach as far back
told_apart : (p : Setting) (format : Format) (position : ℕ) (v w : Kept) → IsOfFormat format p position v → IsOfFormat format p position w
    → told_in format v.size ≡ told_in format w.size → told_in format v.floor ≡ told_in format w.floor → (v.size ≡ w.size) × (v.floor ≡ w.floor)
told_apart p One position v w h k es ef =
    (ap (λ (x : Kept). x.size) h ∙ sym (ap (λ (x : Kept). x.size) k), ap (λ (x : Kept). x.floor) h ∙ sym (ap (λ (x : Kept). x.floor) k))
told_apart p Two position v w h k es ef = (es, ef)

-- what the tests of a window say, where it reaches so far back
pub record Reaches (p : Setting) (format : Format) (position : ℕ) (v : Kept) (r : Reach) : Type 0 where
  pub said : IsOfFormat format p position (record { size = r.size; floor = r.floor; entries = v.entries })
  pub size : is_window_size r.size ≡ true
  pub least : max 1 (position + 1 - r.size) ≤ r.floor
  pub most : r.floor ≤ max 1 position
  pub few : length v.entries ≤ r.size
  pub follow : Follow next_entry (standing p r.floor position 0) v.entries

pub window_of_tests : (p : Setting) (format : Format) (number position : ℕ) (v : Kept) (r : Reach) → r ≡ record { size = v.size; floor = v.floor } → number < 2 ^ 64 → position < 2 ^ 64 → Reaches p format position v r
    → IsWindowBody p (window format number position v)
window_of_tests p format number position v r is n q h =
    let t : Reaches p format position v (record { size = v.size; floor = v.floor }) = subst (Reaches p format position v) is h in
    is_window p format number position v n q t.said t.size t.least t.most t.few t.follow

pub tests_of_window : (p : Setting) (format : Format) (number position : ℕ) (v : Kept) (r : Reach) → r ≡ record { size = v.size; floor = v.floor } → IsWindowBody p (window format number position v) → Reaches p format position v r
tests_of_window p format number position v r is h =
    subst (Reaches p format position v) (sym is)
    (record { said = h.format; size = h.kept.size; least = h.kept.least; most = h.kept.most; few = h.kept.few; follow = entries_follow p (window format number position v) h })

-- ---- what is spelled

keys_fit : (rows : List ℕ) (keys : List Key) → AllByRecursion (λ (n : ℕ). n < 2 ^ 32) rows → length rows ≤ 8 → list_all (has_row rows) keys ≡ true → AllByRecursion KeyFits keys
keys_fit rows [] fit few h = tt
keys_fit rows (key ∷ keys) fit few h = (grind (arith, nat_tests, below_one_of rows key.table key.row fit), keys_fit rows keys fit few (grind (arith, nat_tests)))

-- so do entries of a window
entries_fit : (p : Setting) (lowest position : ℕ) (es : List Entry) → is_setting p ≡ true → position < 2 ^ 64 → AllByRecursion (IsEntry p lowest position) es → AllByRecursion EntryFits es
entries_fit p lowest position [] setting q h = tt
entries_fit p lowest position (e ∷ es) setting q h =
    let limits = limits_of p setting in (
      record { seqno = omega (arith, h.0.past, q); few = h.0.few; keys = keys_fit p.rows e.keys (rows_fit p.rows limits.pages) limits.tables h.0.rows },
      entries_fit p lowest position es setting q h.1,
    )

-- a head takes 256 bytes
pub head_size : (head : Head) → length (head_bytes head) ≡ 256
unfolding window_mark
head_size head = simp (length-append, length_number, length_zeros) refl

-- the zeros behind the entries of a window
abbrev pub filling : Window → List ℕ
filling w = zeros (22784 - length (run_bytes w.kept.entries))

-- head, entries and zeros, one put behind another
pub written : (w : Window) (a b c : List ℕ) (rest : ℕ) → a ≡ head_bytes (head_of w) → b ≡ a ++ run_bytes w.kept.entries → rest ≡ 23040 - length b → c ≡ b ++ zeros rest → c ≡ window_bytes w
written w a b c rest ea eb er ec =
    let size : rest ≡ 22784 - length (run_bytes w.kept.entries) = omega (arith, er, ap length eb, ap length ea, length-append a (run_bytes w.kept.entries), head_size (head_of w)) in
    rw (ec, eb, ea, append_assoc (head_bytes (head_of w)) (run_bytes w.kept.entries) (zeros rest), size) refl

-- What a window's bytes say.
pub record Says (p : Setting) (bytes : List ℕ) (w : Window) : Type 0 where
  pub fits : HeadFits (head_of w)
  pub there : bytes ≡ head_bytes (head_of w) ++ (run_bytes w.kept.entries ++ filling w)
  pub size : length bytes ≡ 23040
  pub chain : IsChain entry_form next_entry (standing p w.kept.floor w.position 0) (length w.kept.entries) (run_bytes w.kept.entries ++ filling w) w.kept.entries (filling w)
  pub blank : are_blank (filling w) ≡ true

pub says : {p : Setting} {bytes : List ℕ} {w : Window} → is_setting p ≡ true → IsWindowBody p w → bytes ≡ window_bytes w → Says p bytes w
says {p} {bytes} {w} limits h e =
    let small = size_small w.kept.size h.kept.size in
    let few : length w.kept.entries ≤ 256 = omega (arith, h.kept.few, small) in
    let fit = entries_fit p w.kept.floor w.position w.kept.entries limits h.position h.kept.entries in
    let run : length (run_bytes w.kept.entries) ≤ 22784 = omega (arith, run_short entry_bytes EntryFits 89 entry_short w.kept.entries fit, few) in
    record {
      fits = record {
        number = h.number;
        position = h.position;
        count = omega (arith, few);
        size = told_small w.format w.kept.size (2 ^ 16) (omega arith) (omega (arith, small));
        floor = told_small w.format w.kept.floor (2 ^ 64) (omega arith) (omega (arith, h.kept.most, h.position));
      };
      there = e;
      size = omega (arith, ap length e, length-append (head_bytes (head_of w)) (run_bytes w.kept.entries ++ filling w), head_size (head_of w), length-append (run_bytes w.kept.entries) (filling w), length_zeros (22784 - length (run_bytes w.kept.entries)), run);
      chain = record { size = refl; each = fit; follow = entries_follow p w h; there = refl };
      blank = zeros_blank (22784 - length (run_bytes w.kept.entries));
    }

-- its head is in front, and its entries behind it
pub record Begins (p : Setting) (head : Head) (body : List ℕ) (w : Window) : Type 0 where
  pub head_is : head ≡ head_of w
  pub chain : IsChain entry_form next_entry (standing p w.kept.floor head.position 0) head.count body w.kept.entries (filling w)

pub begins : {p : Setting} {bytes : List ℕ} {head : Head} {body : List ℕ} {w : Window} → Says p bytes w → TakesFront head_form bytes (Some (head, body)) → Begins p head body w
begins {p} {bytes} {head} {body} {w} s front =
    let same = same_Some _ _ (front.only (head_of w) (run_bytes w.kept.entries ++ filling w) s.fits s.there) in
    record {
      head_is = ap (λ (x : Head × List ℕ). x.0) same;
      chain = subst (λ (x : Head × List ℕ). IsChain entry_form next_entry (standing p w.kept.floor x.0.position 0) x.0.count x.1 w.kept.entries (filling w)) (sym same) s.chain;
    }

-- what the head tells of how far the window reaches back
pub record TellsReach (p : Setting) (head : Head) (w : Window) : Type 0 where
  pub size : is_window_size w.kept.size ≡ true
  pub said : IsOfFormat head.format p head.position w.kept
  pub least : max 1 (head.position + 1 - w.kept.size) ≤ w.kept.floor
  pub most : w.kept.floor ≤ max 1 head.position
  pub tells_size : told_in head.format w.kept.size ≡ head.size
  pub tells_floor : told_in head.format w.kept.floor ≡ head.floor
  pub count : head.count ≡ length w.kept.entries

pub tells_reach : {p : Setting} {head : Head} {body : List ℕ} {w : Window} → IsWindowBody p w → Begins p head body w → TellsReach p head w
tells_reach {p} {head} {body} {w} h b =
    subst (λ (x : Head). TellsReach p x w) (sym b.head_is)
    (record { size = h.kept.size; said = h.format; least = h.kept.least; most = h.kept.most; tells_size = refl; tells_floor = refl; count = refl })

-- the window that a head and entries say is this one, where they are its own
pub same_window : {p : Setting} {head : Head} {body : List ℕ} {w : Window} {span lowest : ℕ} {es : List Entry} → Begins p head body w → span ≡ w.kept.size → lowest ≡ w.kept.floor → es ≡ w.kept.entries
    → ◌≡◌ {A = Option Window} (Some (window head.format head.number head.position (record { size = span; floor = lowest; entries = es }))) (Some w)
same_window {p} {head} {body} {w} b size low entries = rw (b.head_is, size, low, entries) refl

-- ---- what is read is spelled so

-- the window that a head and entries say
abbrev pub said : Head → ℕ → ℕ → List Entry → Window
said head span lowest es = window head.format head.number head.position (record { size = span; floor = lowest; entries = es })

-- the head of that window
head_said : (head : Head) (span lowest : ℕ) (es : List Entry) → length es ≡ head.count → told_in head.format span ≡ head.size → told_in head.format lowest ≡ head.floor → head_of (said head span lowest es) ≡ head
head_said head span lowest es count size low = rw (count, size, low) refl

pub read_is : {p : Setting} {bytes : List ℕ} {head : Head} {body : List ℕ} {span lowest : ℕ} {es : List Entry} {rest : List ℕ} → length bytes ≡ 23040 → HeadFits head → bytes ≡ head_bytes head ++ body → head.count ≤ span
    → told_in head.format span ≡ head.size → told_in head.format lowest ≡ head.floor → IsOfFormat head.format p head.position (record { size = span; floor = lowest; entries = es })
    → is_window_size span ≡ true → max 1 (head.position + 1 - span) ≤ lowest → lowest ≤ max 1 head.position
    → IsChain entry_form next_entry (standing p lowest head.position 0) head.count body es rest → are_blank rest ≡ true → IsWindowBody p (said head span lowest es) × (bytes ≡ window_bytes (said head span lowest es))
read_is {p} {bytes} {head} {body} {span} {lowest} {es} {rest} size fits there few es_size es_floor said_so is_size least most chain blank =
    let sizes : length rest ≡ 22784 - length (run_bytes es) = omega (arith, size, ap length there, length-append (head_bytes head) body, head_size head, ap length chain.there, length-append (run_bytes es) rest) in
    let is_head = head_said head span lowest es chain.size es_size es_floor in
    let spelled : bytes ≡ head_bytes head ++ (run_bytes es ++ zeros (22784 - length (run_bytes es))) = rw (there, chain.there, blank_is rest blank, sizes) refl in (
      is_window p head.format head.number head.position (record { size = span; floor = lowest; entries = es }) fits.number fits.position said_so is_size least most (omega (arith, chain.size, few)) chain.follow,
      spelled ∙ ap (λ (x : Head). head_bytes x ++ (run_bytes es ++ zeros (22784 - length (run_bytes es)))) (sym is_head),
    )

-- ---- windows are told apart

-- by their heads and the runs behind these
pub told_by : AreTold head_form → RunsAreTold entry_form → (p : Setting) (v w : Window) → is_setting p ≡ true → IsWindowBody p v → IsWindowBody p w → window_bytes v ≡ window_bytes w → v ≡ w
told_by heads runs p v w limits h k e =
    let one = says {bytes = window_bytes v} limits h refl in
    let two = says limits k e in
    let apart = heads (head_of v) (head_of w) (run_bytes v.kept.entries ++ filling v) (run_bytes w.kept.entries ++ filling w) one.fits two.fits (sym one.there ∙ two.there) in
    let count : length w.kept.entries ≡ length v.kept.entries = cc in
    let fits : AreMany entry_form (length v.kept.entries) (length v.kept.entries) v.kept.entries = record { size = refl; few = omega arith; each = one.chain.each } in
    let also : AreMany entry_form (length v.kept.entries) (length v.kept.entries) w.kept.entries = record { size = count; few = omega arith; each = two.chain.each } in
    let entries = (runs (length v.kept.entries) v.kept.entries w.kept.entries (filling v) (filling w) fits also apart.1).0 in
    let format : v.format ≡ w.format = ap (λ (x : Head). x.format) apart.0 in
    let position : v.position ≡ w.position = ap (λ (x : Head). x.position) apart.0 in
    let number : v.number ≡ w.number = ap (λ (x : Head). x.number) apart.0 in
    let size : told_in w.format v.kept.size ≡ told_in w.format w.kept.size = ap (λ f. told_in f v.kept.size) (sym format) ∙ ap (λ (x : Head). x.size) apart.0 in
    let lowest : told_in w.format v.kept.floor ≡ told_in w.format w.kept.floor = ap (λ f. told_in f v.kept.floor) (sym format) ∙ ap (λ (x : Head). x.floor) apart.0 in
    let of_format : IsOfFormat w.format p w.position v.kept = subst (λ f. IsOfFormat f p w.position v.kept) format (subst (λ q. IsOfFormat v.format p q v.kept) position h.format) in
    let far = told_apart p w.format w.position v.kept w.kept of_format k.format size lowest in
    let kept : v.kept ≡ w.kept = grind (arith, far.0, far.1, entries) in
    grind (arith, format, number, position, kept)
