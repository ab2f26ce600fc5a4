-- What a change does to the versions that are kept, and that the shelf then shows its history.
use Rattle.std.proofs.Common.{◌≡◌, ◌∙◌, refl, sym, ap, subst, ℕ, ◌+◌, ◌<◌, ◌≤◌, max, Bool, true, false, not, ◌==◌, nat_le, nat_lt, if◌then◌else◌, List, [], ◌∷◌, ◌++◌, length, length-append, Option, None, arith}
use Rattle.std.specs.FinMap.{empty, insert, get-empty, get-retain_keys}
use Rattle.std.proofs.lemmas.Bool.Decides.{nat_tests}
use Rattle.rep_types.specs.declared.key.Key.{Key}
use Rattle.rep_types.specs.declared.value.Write.{Write}
use Rattle.rep_types.specs.Keys.{key_eq}
use Rattle.rep_types.specs.Order.{latest}
use Rattle.rep_versions.specs.declared.versions.VersionKey.{VersionKey}
use Rattle.rep_versions.specs.Versions.{version_cmp, version_at, Version, Kept, overlaid, IsAdded, IsPruned}
use Rattle.rep_versions.specs.Following.{made_by}
use Rattle.rep_versions.proofs.Places.{exact_versions, same_kept}
use Rattle.rep_versions.proofs.Changes.{added_more, unless}
use Rattle.rep_snap.specs.declared.change.Pair.{Pair}
use Rattle.rep_snap.specs.declared.change.Change.{Change}
use Rattle.rep_snap.specs.declared.change.Change.TheVariants.{Publish, Prune}
use Rattle.rep_snap.specs.declared.shelf.Shelf.{Shelf}
use Rattle.rep_snap.specs.declared.shelf.Step.{Step}
use Rattle.rep_snap.specs.Lists.{published, front_of, oldest_of, Ascends, written, left, Follows}
use Rattle.rep_snap.specs.Shelves.{added, pruned, changed}
use Rattle.rep_snap.specs.Rule.{Shows, Sound}
use Rattle.rep_snap.proofs.Lists.{published-publish, published-prune, front-more, oldest-more, ascends-more, written-more, none_written}

either_way : (b : Bool) (o : Option Version) → o ≡ (if b then o else o)
either_way true o = refl
either_way false o = refl

-- the writes are added
pub is_added : (seqno : ℕ) (writes : List Write) (kept : Kept) → IsAdded seqno writes kept (added seqno writes kept)
is_added seqno [] kept = λ key s. either_way (s == seqno) _
is_added seqno (w ∷ writes) kept = added_more seqno w writes kept _ (is_added seqno writes (insert kept (record { key = w.key; seqno = seqno }) w.value))

-- and no other versions are what adding them makes
pub only_added : (seqno : ℕ) (writes : List Write) (before after : Kept) → IsAdded seqno writes before after → after ≡ added seqno writes before
only_added seqno writes before after h = same_kept after (added seqno writes before) (λ key s. h key s ∙ sym (is_added seqno writes before key s))

pub is_pruned : (position : ℕ) (kept : Kept) → IsPruned position kept (pruned position kept)
is_pruned position kept key s =
    get-retain_keys kept (λ v. not (nat_le v.seqno position)) (record { key = key; seqno = s })
    (λ v tied. ap (λ (w : VersionKey). not (nat_le w.seqno position)) (sym (exact_versions (record { key = key; seqno = s }) v tied)))
    ∙ unless (nat_le s position) _

pub only_pruned : (position : ℕ) (before after : Kept) → IsPruned position before after → after ≡ pruned position before
only_pruned position before after h = same_kept after (pruned position before) (λ key s. h key s ∙ sym (is_pruned position before key s))

-- what the versions are at a row and seqno, after a pair
over_left : (s seqno oldest : ℕ) (w : Option Version) (l : Option Write) → oldest < seqno → (s ≡ seqno → w ≡ None)
    → (b c d : Bool) → (s == seqno) ≡ b → (seqno == s) ≡ c → nat_le s oldest ≡ d
    → (if b then overlaid (if d then None else w) l else (if d then None else w)) ≡ (if d then None else (if c then overlaid None l else w))
over_left s seqno oldest w l lt none true true true p q r = absurd (grind (arith, nat_tests, p, q, r))
over_left s seqno oldest w l lt none true true false p q r = ap (λ o. overlaid o l) (none (grind (arith, nat_tests)))
over_left s seqno oldest w l lt none true false d p q r = absurd (grind (arith, nat_tests, p, q))
over_left s seqno oldest w l lt none false true d p q r = absurd (grind (arith, nat_tests, p, q))
over_left s seqno oldest w l lt none false false d p q r = refl

past : (s seqno oldest : ℕ) (w m : Option Version) → seqno ≤ oldest → (c d : Bool) → (seqno == s) ≡ c → nat_le s oldest ≡ d
    → (if d then None else w) ≡ (if d then None else (if c then m else w))
past s seqno oldest w m le c true q r = refl
past s seqno oldest w m le false false q r = refl
past s seqno oldest w m le true false q r = absurd (grind (arith, nat_tests, q, r))

both : (s oldest c : ℕ) (w : Option Version) (a b d : Bool) → nat_le s oldest ≡ a → nat_le s c ≡ b → nat_le s (max oldest c) ≡ d
    → (if b then None else (if a then None else w)) ≡ (if d then None else w)
both s oldest c w true true true p q r = refl
both s oldest c w true false true p q r = refl
both s oldest c w false true true p q r = refl
both s oldest c w false false false p q r = refl
both s oldest c w true b false p q r = absurd (grind (arith, nat_tests, p, r))
both s oldest c w a true false p q r = absurd (grind (arith, nat_tests, q, r))
both s oldest c w false false true p q r = absurd (grind (arith, nat_tests, p, q, r))

module _ (kept : Kept) (oldest : ℕ) (pairs : List Pair) (h : (key : Key) (s : ℕ) → version_at kept key s ≡ left oldest pairs key s) where
  kept_publish : (pair : Pair) → ((key : Key) → written pairs key pair.seqno ≡ None) → (b : Bool) → nat_lt oldest pair.seqno ≡ b → (key : Key) (s : ℕ)
      → version_at (if b then added pair.seqno pair.writes.items kept else kept) key s ≡ left oldest (pairs ++ pair ∷ []) key s
  kept_publish pair none true lt key s =
      let l = latest (λ (write : Write). key_eq write.key key) pair.writes.items in
      is_added pair.seqno pair.writes.items kept key s
      ∙ ap (λ o. if s == pair.seqno then overlaid o l else o) (h key s)
      ∙ over_left s pair.seqno oldest (written pairs key s) l (grind (arith, nat_tests)) (λ e. subst (λ t. written pairs key t ≡ None) (sym e) (none key)) _ _ _ refl refl refl
      ∙ ap (λ o. if nat_le s oldest then None else o) (sym (written-more pairs pair key s))
  kept_publish pair none false le key s =
      h key s
      ∙ past s pair.seqno oldest (written pairs key s) (made_by pair.writes.items key) (grind (arith, nat_tests)) _ _ refl refl
      ∙ ap (λ o. if nat_le s oldest then None else o) (sym (written-more pairs pair key s))

  kept_prune : (c : ℕ) (key : Key) (s : ℕ) → version_at (pruned c kept) key s ≡ left (max oldest c) pairs key s
  kept_prune c key s = is_pruned c kept key s ∙ ap (λ o. if nat_le s c then None else o) (h key s) ∙ both s oldest c (written pairs key s) _ _ _ refl refl refl

none_kept : (key : Key) (s oldest : ℕ) → version_at empty key s ≡ left oldest [] key s
none_kept key s oldest = get-empty version_cmp (record { key = key; seqno = s }) ∙ either_way (nat_le s oldest) None

module _ {A : Type 0} where
  shows_more : (x : Shelf A) (step : Step) (change : Change) → Shows x → step.seen.log ≡ x.sight.seen.log ++ change ∷ [] → Follows x.sight.start x.sight.seen.log change
      → Shows (changed x (record step { change = change }))
  shows_more x step (Publish pair) h e above =
      let seen = step.seen in
      let old = x.sight.seen.log in
      let start = x.sight.start in
      let list : published seen.log ≡ published old ++ pair ∷ [] = ap published e ∙ published-publish old pair in record {
        count = ap (λ n. n + 1) h.count ∙ sym (ap length e ∙ length-append old (Publish pair ∷ []));
        front = sym (ap (front_of start) list ∙ front-more start (published old) pair);
        oldest = h.oldest ∙ sym (ap (oldest_of start) e ∙ oldest-more start old (Publish pair));
        kept = λ key s. kept_publish x.kept x.oldest (published old) h.kept pair (λ k. none_written start (published old) k pair.seqno h.ascends above) _ refl key s
            ∙ ap (λ pairs. left x.oldest pairs key s) (sym list);
        ascends = subst (Ascends start) (sym list) (ascends-more start (published old) pair h.ascends above);
      }
  shows_more x step (Prune c) h e follows =
      let seen = step.seen in
      let old = x.sight.seen.log in
      let start = x.sight.start in
      let list : published seen.log ≡ published old = ap published e ∙ published-prune old c in record {
        count = ap (λ n. n + 1) h.count ∙ sym (ap length e ∙ length-append old (Prune c ∷ []));
        front = h.front ∙ ap (front_of start) (sym list);
        oldest = ap (λ o. max o c) h.oldest ∙ sym (ap (oldest_of start) e ∙ oldest-more start old (Prune c));
        kept = λ key s. kept_prune x.kept x.oldest (published old) h.kept c key s ∙ ap (λ pairs. left (max x.oldest c) pairs key s) (sym list);
        ascends = subst (Ascends start) (sym list) h.ascends;
      }

  pub shows_changed : (x : Shelf A) (step : Step) → Shows x → step.seen.log ≡ x.sight.seen.log ++ step.change ∷ [] → Follows x.sight.start x.sight.seen.log step.change → Shows (changed x step)
  shows_changed x step = shows_more x step step.change

module _ {A : Type 0} (allows : A → ℕ → List Pair → Type 0) where
  -- an empty list
  pub sound_first : (x : Shelf A) → x.sight.seen.log ≡ [] → x.front ≡ x.sight.start → x.oldest ≡ x.sight.start → x.count ≡ 0 → x.kept ≡ empty
      → allows x.sight.basis x.sight.start [] → Sound allows x
  sound_first x none front oldest count kept allowed = let list : published x.sight.seen.log ≡ [] = ap published none in record {
    shows = record {
      count = count ∙ sym (ap length none);
      front = front ∙ sym (ap (front_of x.sight.start) list);
      oldest = oldest ∙ sym (ap (oldest_of x.sight.start) none);
      kept = λ key s. ap (λ k. version_at k key s) kept ∙ none_kept key s x.oldest ∙ ap (λ pairs. left x.oldest pairs key s) (sym list);
      ascends = subst (Ascends x.sight.start) (sym list) tt;
    };
    allowed = subst (allows x.sight.basis x.sight.start) (sym list) allowed;
  }
