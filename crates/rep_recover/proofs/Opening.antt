-- What opening finds, and why it refuses.
use Rattle.std.proofs.Common.{◌≡◌, ℕ, ◌+◌, ◌-◌, ◌≤◌, inl, inr, Bool, List, length, take, None, refl, sym, ap, subst, ◌∙◌, arith}
use Rattle.rep_types.specs.declared.judged.Judged.{Judged}
use Rattle.rep_types.specs.declared.refusal.Part.{Part}
use Rattle.rep_types.specs.declared.refusal.Part.TheVariants.{Superblock, Window as in_window, Log as in_log, Pages}
use Rattle.rep_types.specs.declared.refusal.Refusal.{Refusal}
use Rattle.rep_disk.specs.History.{History, Synced, seen, stable}
use Rattle.rep_layout.specs.declared.super_body.SuperBody.{SuperBody}
use Rattle.rep_layout.specs.declared.place.Layout.{Layout}
use Rattle.rep_layout.specs.Places.{side_of, layout_of, need_of}
use Rattle.rep_cells.specs.Readings.{Reading, reading_of}
use Rattle.rep_cells.specs.Known.{Assigns, found}
use Rattle.rep_cells.specs.Laws.{FoundStatesStand}
use Rattle.rep_log.specs.Tail.{Shows}
use Rattle.rep_log.specs.Standing.{Standing}
use Rattle.rep_versions.specs.Versions.{Kept}
use Rattle.rep_cert.specs.Holdings.{Holding}
use Rattle.rep_pages.specs.Pages.{PagesAreTold}
use Rattle.rep_steps.specs.Images.{Meaning}
use Rattle.rep_engine.specs.Bases.{IsSuperAt, IsChosen}
use Rattle.rep_engine.specs.Meanings.{MeansBy}
use Rattle.rep_recover.specs.Judging.{bare, base_with}
use Rattle.rep_recover.specs.Looking.{Counts, HasBadSuper, HasNoSuper, RefusesSupers}
use Rattle.rep_recover.specs.Opening.{without_log, FailsBehind, IsCorruptIn, IsReason, IsOfBytes, IsBehind, StandsBehind, RefusesBehind, IsOpened, Recovers, RefusesToOpen}
use Rattle.rep_recover.proofs.Behind.{no_blocks}
use Rattle.rep_recover.proofs.Contents.{content, has_content, same_windows, judged_alike, seqnos_follow, rows_there, versions_within}

-- ---- on any device

pub opened_from : (size : ℕ) (b : SuperBody) (l : Layout) (log : Standing) (items : List Judged) (h : Holding) (kept : Kept) → IsSuperAt size (side_of b.number) b → l ≡ layout_of b.params → IsBehind b log items h kept
    → IsOpened size b l log items h kept
opened_from size b l log items h kept is layout behind = record {
  is_super = is;
  layout = layout;
  behind = behind;
  seqnos = seqnos_follow b.params (bare b.position behind.beside) items behind.judged.judged;
  rows = rows_there b.params (bare b.position behind.beside) items behind.judged.judged;
  within = versions_within b.position items kept behind.judged.versions;
}

-- ---- on an honest one

-- what the superblock and what stands behind it mean
module _ (told : PagesAreTold) (bytes : List ℕ) (b : SuperBody) (log : Standing) (items : List Judged) (h : Holding) (kept : Kept) (behind : StandsBehind bytes b log items h kept) where
  abbrev r : Reading
  r = reading_of (layout_of b.params) bytes

  abbrev pub meant : Meaning
  meant = record { uuid = b.uuid; setting = b.params; base = base_with b.position behind.beside (content told r b behind.pages); tail = items }

  pub means : IsChosen (length bytes) r b → MeansBy (length bytes) b r meant
  means chosen = record {
    chosen = chosen;
    uuid = refl;
    setting = refl;
    position = refl;
    window = behind.window;
    content = has_content told r b behind.pages;
    blocks = behind.finds.blocks;
    log = behind.finds.is_log;
    undefined = λ nil. no_blocks (Shows r (layout_of b.params)) b.start (b.position + 1) behind.finds.blocks behind.finds.is_log.stand (sym behind.finds.items_are ∙ behind.undefined nil);
    tail = behind.finds.items_are;
    judged = judged_alike b.params b.position behind.beside (λ key. None) (content told r b behind.pages) items behind.judged.judged;
  }

pub recovers_from :
    PagesAreTold → FoundStatesStand → (old mid new : History) (size : ℕ) (m : Layout) (b : SuperBody) (both : Bool) (log : Standing) (items : List Judged) (h : Holding) (kept : Kept)
    → mid ≡ Synced old → new ≡ mid → length (stable mid) ≡ size → Counts size (reading_of m (seen old)) b both → StandsBehind (seen mid) b log items h kept
    → Recovers old new b both log items h kept
recovers_from told law old mid new size m b both log items h kept synced same sized counts stands =
    let l : Layout = layout_of b.params in
    let long : length (seen old) ≡ size = ap (λ (x : History). length (stable x)) (sym synced) ∙ sized in
    let behind = subst (λ (x : History). StandsBehind (seen x) b log items h kept) synced stands in
    let chosen = subst (λ (n : ℕ). IsChosen n (reading_of m (seen old)) b) (sym long) counts.0 in
    record {
      synced = same ∙ synced;
      meaning = meant told (seen old) b log items h kept behind;
      means = means told (seen old) b log items h kept behind (record { stands = chosen.stands; is_super = chosen.is_super; lesser = chosen.lesser });
      tail = refl;
      other_is = counts.1;
      states = subst (λ (x : History). Assigns l x (found l (seen old))) (sym (same ∙ synced)) (law l (Synced old) (omega (arith, counts.0.is_super.fits, long)) refl);
      finds = behind.finds;
      windows = λ k ask. behind.judged.windows k ask ∙ same_windows b.params b.position behind.beside (λ key. None) (content told (reading_of l (seen old)) b behind.pages) (take (k - b.position) items);
      versions = behind.judged.versions;
    }

-- ---- refusals

corrupt_in : (part : Part) (image : List ℕ) (b : SuperBody) → IsChosen (length image) (reading_of (layout_of b.params) image) b → FailsBehind part (reading_of (layout_of b.params) image) b → IsCorruptIn part image
corrupt_in Superblock image b chosen fails = absurd fails
corrupt_in in_window image b chosen fails = (b, (chosen, fails))
corrupt_in in_log image b chosen fails = (b, (chosen, fails))
corrupt_in Pages image b chosen fails = (b, (chosen, fails))

pub refused_behind :
    (IsHonest : Type 0) (old mid : History) (size : ℕ) (m : Layout) (b : SuperBody) (Reason : Part → Type 0) (e : Refusal) → (IsHonest → mid ≡ Synced old) → (IsHonest → length (stable mid) ≡ size)
    → (IsHonest → (two : Bool) × Counts size (reading_of m (seen old)) b two) → ((part : Part) → IsHonest → Reason part → FailsBehind part (reading_of (layout_of b.params) (seen mid)) b)
    → RefusesBehind Reason e → RefusesToOpen IsHonest (seen old) e
refused_behind IsHonest old mid size m b Reason e synced sized counts fails (inl memory) = inl memory
refused_behind IsHonest old mid size m b Reason e synced sized counts fails (inr (inl fault)) = inr (inl fault)
refused_behind IsHonest old mid size m b Reason e synced sized counts fails (inr (inr why)) = inr (inr (
  subst IsOfBytes (sym why.1.0) tt,
  λ honest.
      let long : length (seen old) ≡ size = ap (λ (x : History). length (stable x)) (sym (synced honest)) ∙ sized honest in
      let chosen = subst (λ (n : ℕ). IsChosen n (reading_of m (seen old)) b) (sym long) (counts honest).1.0 in
      let failed = subst (λ (x : History). FailsBehind why.0 (reading_of (layout_of b.params) (seen x)) b) (synced honest) (fails why.0 honest why.1.1) in
      subst (IsReason (seen old)) (sym why.1.0) (corrupt_in why.0 (seen old) b (record { stands = chosen.stands; is_super = chosen.is_super; lesser = chosen.lesser }) failed),
))

pub refused_supers :
    (IsHonest None_open Bad : Type 0) (old : History) (size : ℕ) (e : Refusal) → need_of without_log ≤ size → (IsHonest → length (seen old) ≡ size) → (IsHonest → None_open → HasNoSuper (reading_of without_log (seen old)))
    → (IsHonest → Bad → HasBadSuper size (reading_of without_log (seen old))) → RefusesSupers None_open Bad e → RefusesToOpen IsHonest (seen old) e
refused_supers IsHonest None_open Bad old size e room sized none bad (inl fault) = inr (inl fault)
refused_supers IsHonest None_open Bad old size e room sized none bad (inr (inl why)) = inr (inr (subst IsOfBytes (sym why.0) tt, λ honest. subst (IsReason (seen old)) (sym why.0) (inr (none honest why.1))))
refused_supers IsHonest None_open Bad old size e room sized none bad (inr (inr why)) = inr (inr (
  subst IsOfBytes (sym why.0) tt,
  λ honest.
      subst (IsReason (seen old)) (sym why.0)
      (omega (arith, room, sized honest), subst (λ (n : ℕ). HasBadSuper n (reading_of without_log (seen old))) (sym (sized honest)) (bad honest why.1)),
))
