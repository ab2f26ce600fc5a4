-- What a look finds, and that the answer is of the list that it finds.
use Rattle.std.proofs.Common.{◌≡◌, ◌∙◌, sym, ap, subst, ℕ, Bool, List, [], Option, None, Some, Result, Ok, Err, inl, inr, ⊎_elim}
use mathlib.Core.List.{IsPrefix}
use Rattle.rep_types.specs.declared.key.Key.{Key}
use Rattle.rep_types.specs.declared.refusal.Refusal.{Refusal}
use Rattle.rep_versions.specs.Versions.{Version, version_at}
use Rattle.rep_snap.specs.declared.change.Pair.{Pair}
use Rattle.rep_snap.specs.declared.peek.Peek.{Peek}
use Rattle.rep_snap.specs.declared.peek.Peek.TheVariants.{Value, Absent, Cold}
use Rattle.rep_snap.specs.declared.shelf.Sight.{Sight}
use Rattle.rep_snap.specs.declared.shelf.Shelf.{Shelf}
use Rattle.rep_snap.specs.Lists.{published, front_of, oldest_of, left, IsNewestWrite, IsFound, Answers}
use Rattle.rep_snap.specs.Views.{Later, Listing, Telling, Watching, listing, newcomer, unaware, watched}
use Rattle.rep_snap.specs.Rule.{Sound, Precedes, Knows, Shown}
use Rattle.rep_snap.specs.Doors.{IsAt, Opens, FoundShut}
use Rattle.rep_snap.specs.Looks.{Looked, IsPeek}
use Rattle.rep_snap.proofs.Prefixes.{prefix_self, prefix_trans}
use Rattle.rep_snap.proofs.Ruling.{later_self, later_trans}

module _ (f g : ℕ → Option Version) (e : (m : ℕ) → f m ≡ g m) (s : ℕ) where
  newest_alike : (m : ℕ) (v : Version) → IsNewestWrite f s m v → IsNewestWrite g s m v
  newest_alike m v h = record { stands = sym (e m) ∙ h.stands; within = h.within; none_above = λ n lt le. sym (e n) ∙ h.none_above n lt le }

  found_alike : (peek : Peek) → IsFound f s peek → IsFound g s peek
  found_alike (Value v) h = (h.0, newest_alike h.0 _ h.1)
  found_alike Absent h = (h.0, newest_alike h.0 _ h.1)
  found_alike Cold h = λ m le. sym (e m) ∙ h m le

  answers_alike : (front oldest : ℕ) (answer : Result Peek Refusal) → Answers front oldest f s answer → Answers front oldest g s answer
  answers_alike front oldest (Ok peek) h = (h.0, found_alike peek h.1)
  answers_alike front oldest (Err refusal) h = h

module _ {A : Type 0} (allows : A → ℕ → List Pair → Type 0) where
  -- a reader that knew s, and has seen t
  pub knew : (v : Option (Sight A)) (s t : Sight A) → Knows allows v s → Precedes allows v t → Later s t
  knew None s t h k = absurd h
  knew (Some u) s t h k = later_trans s u t h k

  pub knows_now : (v w : Option (Sight A)) (s : Sight A) (x : Shelf A) → Knows allows v s → Shown allows v x x w → Knows allows w s
  knows_now v w s x h shown = subst (λ u. Knows allows u s) (sym shown.now) (knew v s x.sight h shown.later)

  -- what a reader saw before, with the history that is shown, is what is shown
  pub onto : (s t new : Sight A) → Later s t → new ≡ record s { seen = t.seen } → new ≡ t
  onto s t new h is = is ∙ (λ i. record { basis = sym h.basis i; start = sym h.start i; seen = t.seen })

  looked : (s : Sight A) (told : Telling) (x : Shelf A) → Sound allows x → Later s x.sight → IsPrefix told.list x.sight.seen.log → Looked allows (watched s told) (watched x.sight told)
  looked s told x sound later prefix = record {
    same = λ i. record { book = later.book i; basis = later.basis i; start = later.start i; seen = x.sight.seen.log; told = told.list };
    seen = later.seen;
    told = prefix;
    ascends = sound.shows.ascends;
    allowed = sound.allowed;
  }

  answered : (x : Shelf A) (key : Key) (snapshot : ℕ) (answer : Result Peek Refusal) → Sound allows x → Answers x.front x.oldest (version_at x.kept key) snapshot answer
      → Answers (front_of x.sight.start (published x.sight.seen.log)) (oldest_of x.sight.start x.sight.seen.log) (left (oldest_of x.sight.start x.sight.seen.log) (published x.sight.seen.log) key) snapshot answer
  answered x key snapshot answer sound h =
      let list = published x.sight.seen.log in
      let alike = answers_alike (version_at x.kept key) (left x.oldest list key) (sound.shows.kept key) snapshot x.front x.oldest answer h in
      let at_front = subst (λ n. Answers n x.oldest (left x.oldest list key) snapshot answer) sound.shows.front alike in
      subst (λ n. Answers (front_of x.sight.start list) n (left n list key) snapshot answer) sound.shows.oldest at_front

  pub peeks : (shut : Watching A → Type 0) (s new : Sight A) (told : Telling) (x : Shelf A) (v : Watching A) (key : Key) (snapshot : ℕ) (answer : Result Peek Refusal) → watched s told ≡ v → Sound allows x → Later s x.sight
      → IsPrefix told.list x.sight.seen.log → new ≡ x.sight → Answers x.front x.oldest (version_at x.kept key) snapshot answer → IsPeek allows shut v key snapshot (watched new told) answer
  peeks shut s new told x v key snapshot answer is sound later prefix same h =
      subst (λ u. IsPeek allows shut u key snapshot (watched new told) answer) is
      (subst (λ (t : Sight A). IsPeek allows shut (watched s told) key snapshot (watched t told) answer) (sym same)
      (inr (looked s told x sound later prefix, answered x key snapshot answer sound h)))

  -- the reader is that of its publisher still
  pub stays : (s new : Sight A) (told : Telling) (x : Shelf A) (v : Watching A) → watched s told ≡ v → Later s x.sight → new ≡ x.sight
      → (new.seen.book ≡ v.book) × (new.basis ≡ v.basis) × (new.start ≡ v.start)
  stays s new told x v is later same = (
    ap (λ (t : Sight A). t.seen.book) same ∙ later.book ∙ ap (λ (t : Watching A). t.book) is,
    ap (λ (t : Sight A). t.basis) same ∙ later.basis ∙ ap (λ (t : Watching A). t.basis) is,
    ap (λ (t : Sight A). t.start) same ∙ later.start ∙ ap (λ (t : Watching A). t.start) is,
  )

-- a reader that has seen what a publisher began with, and nothing more
pub newcomer_is : {A : Type 0} (s t : Sight A) (ready : ℕ) (failed : Bool) (p : Listing A) → Later s t → listing t ready failed ≡ p → newcomer s ≡ unaware p
newcomer_is s t ready failed p h is = (λ i. record { book = sym h.book i; basis = sym h.basis i; start = sym h.start i; seen = []; told = [] }) ∙ ap unaware is

module _ {A : Type 0} (knows : Sight A → Type 0) (s : Sight A) (told : Telling) where
  -- what is shown goes on from what the reader saw
  pub onward : (allows : A → ℕ → List Pair → Type 0) (y : Shelf A) → IsAt knows s told → Opens knows allows told y → Later s y.sight
  onward allows y at opens = let later = opens.later at.known at.at in record {
    book = later.book ∙ sym at.later.book;
    basis = later.basis ∙ sym at.later.basis;
    start = later.start ∙ sym at.later.start;
    seen = ⊎_elim (λ (p : IsPrefix s.seen.log at.known.seen.log). prefix_trans s.seen.log at.known.seen.log y.sight.seen.log p later.seen)
        (λ (p : IsPrefix s.seen.log told.list). prefix_trans s.seen.log told.list y.sight.seen.log p opens.told) at.begins;
  }

  pub at_itself : knows s → IsAt knows s told
  at_itself at = record { known = s; at = at; later = later_self s; begins = inl (prefix_self s.seen.log) }

  -- the reader is told more
  pub at_more : (more : Telling) → IsPrefix told.list more.list → IsAt knows s told → IsAt knows s more
  at_more more longer at = record {
    known = at.known;
    at = at.at;
    later = at.later;
    begins = ⊎_elim (λ (p : IsPrefix s.seen.log at.known.seen.log). inl p) (λ (p : IsPrefix s.seen.log told.list). inr (prefix_trans s.seen.log told.list more.list p longer)) at.begins;
  }

  -- the reader sees and is told more of the same history
  pub at_told : (v : Watching A) (t : Sight A) (more : Telling) → watched s told ≡ v → (t.seen.book ≡ v.book) × (t.basis ≡ v.basis) × (t.start ≡ v.start) → IsPrefix v.seen t.seen.log
      → more.list ≡ t.seen.log → IsAt knows s told → IsAt knows t more
  at_told v t more is own seen same at = record {
    known = at.known;
    at = at.at;
    later = later_trans at.known s t at.later (record {
      book = own.0 ∙ sym (ap (λ (u : Watching A). u.book) is);
      basis = own.1 ∙ sym (ap (λ (u : Watching A). u.basis) is);
      start = own.2 ∙ sym (ap (λ (u : Watching A). u.start) is);
      seen = subst (λ (u : Watching A). IsPrefix u.seen t.seen.log) (sym is) seen;
    });
    begins = inr (subst (IsPrefix t.seen.log) (sym same) (prefix_self t.seen.log));
  }

module _ {A D : Type 0} (knows : D → Sight A → Type 0) (shut : D → D → Type 0) where
  -- the door of a reader was found shut
  pub found_shut : (s : Sight A) (told : Telling) (v : Watching A) (before after : D) → watched s told ≡ v → IsAt (knows before) s told → shut before after → FoundShut knows shut v
  found_shut s told v before after is at found = record {
    sight = at.known;
    own = (
      sym at.later.book ∙ ap (λ (u : Watching A). u.book) is,
      sym at.later.basis ∙ ap (λ (u : Watching A). u.basis) is,
      sym at.later.start ∙ ap (λ (u : Watching A). u.start) is,
    );
    before = before;
    known = at.at;
    after = after;
    found = found;
  }
