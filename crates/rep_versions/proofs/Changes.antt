-- What the changes of the versions leave.
use Rattle.std.proofs.Common.{◌≡◌, ◌∙◌, refl, sym, ap, subst, ℕ, Bool, true, false, cond, not, ◌&&◌, ◌==◌, List, ◌∷◌, Option, Some, None, IsSome, if◌then◌else◌, arith}
use Rattle.std.specs.Cmp.{eq_by_cmp_equiv}
use Rattle.std.specs.Ordering.{eq_by_cmp}
use Rattle.std.specs.Option.{option_or}
use Rattle.std.proofs.lemmas.Bool.Decides.{nat_tests}
use Rattle.std.proofs.lemmas.Map.Views.{tells_apart}
use Rattle.std.specs.FinMap.{get, insert, get-insert, get-remove, same_map}
use Rattle.rep_types.specs.declared.key.Key.{Key}
use Rattle.rep_types.specs.declared.value.Write.{Write}
use Rattle.rep_types.specs.Keys.{key_eq}
use Rattle.rep_types.specs.Order.{latest}
use Rattle.rep_versions.specs.declared.versions.VersionKey.{VersionKey}
use Rattle.rep_versions.specs.Versions.{version_cmp, version_at, Version, Kept, restored, overlaid, IsAdded, AddIsTakenBack}
use Rattle.rep_versions.proofs.Places.{versions_total, exact_versions, same_kept}

pub unless : (b : Bool) (x : Option Version) → cond (not b) x None ≡ (if b then None else x)
unless true x = refl
unless false x = refl

-- a version that is put and then restored
at_itself : (v : VersionKey) → eq_by_cmp version_cmp v v ≡ true
at_itself v = (eq_by_cmp_equiv versions_total).refl v

pub stands_after : (m : Kept) (v : VersionKey) (x : Version) → IsSome (get (insert m v x) v)
stands_after m v x = subst IsSome (sym (get-insert versions_total m v x v ∙ ap (λ b. cond b (Some x) (get m v)) (at_itself v))) refl

tied : (v q : VersionKey) → eq_by_cmp version_cmp q v ≡ true → q ≡ v
tied v q h = tells_apart exact_versions q v h

put_back : (m : Kept) (v q : VersionKey) (x : Version) (o : Option Version) → get m v ≡ o → (b : Bool) → eq_by_cmp version_cmp q v ≡ b → cond b o (cond b (Some x) (get m q)) ≡ get m q
put_back m v q x o e true t = sym e ∙ ap (get m) (sym (tied v q t))
put_back m v q x o e false t = refl

pub restored_again : (m : Kept) (v : VersionKey) (x : Version) (before : Option Version) → before ≡ get m v → restored v before (insert m v x) ≡ m
restored_again m v x None e = same_map versions_total exact_versions _ _ (λ q.
    get-remove versions_total (insert m v x) v q ∙ ap (cond (eq_by_cmp version_cmp q v) None) (get-insert versions_total m v x q) ∙ put_back m v q x None (sym e) _ refl)
restored_again m v x (Some w) e = same_map versions_total exact_versions _ _ (λ q.
    get-insert versions_total (insert m v x) v w q ∙ ap (cond (eq_by_cmp version_cmp q v) (Some w)) (get-insert versions_total m v x q) ∙ put_back m v q x (Some w) (sym e) _ refl)

-- the first write, and then the others
same_version : (a b : Key) (s t : ℕ) → eq_by_cmp version_cmp (record { key = b; seqno = s }) (record { key = a; seqno = t }) ≡ (key_eq a b && (s == t))
same_version a b s t = grind (arith, nat_tests)

over_more : (old : Option Version) (w : Write) (b : Bool) (l : Option Write) → overlaid (cond b (Some w.value) old) l ≡ overlaid old (option_or l (if b then Some w else None))
over_more old w true None = refl
over_more old w false None = refl
over_more old w b (Some l) = refl

added_at : (old : Option Version) (w : Write) (a b : Bool) (l : Option Write)
    → (if b then overlaid (cond (a && b) (Some w.value) old) l else cond (a && b) (Some w.value) old) ≡ (if b then overlaid old (option_or l (if a then Some w else None)) else old)
added_at old w true true l = over_more old w true l
added_at old w false true l = over_more old w false l
added_at old w true false l = refl
added_at old w false false l = refl

pub added_more : (seqno : ℕ) (w : Write) (ws : List Write) (m n : Kept) → IsAdded seqno ws (insert m (record { key = w.key; seqno = seqno }) w.value) n → IsAdded seqno (w ∷ ws) m n
added_more seqno w ws m n h key s =
    let put = get-insert versions_total m (record { key = w.key; seqno = seqno }) w.value (record { key = key; seqno = s })
    ∙ ap (λ b. cond b (Some w.value) (version_at m key s)) (same_version w.key key s seqno) in
    h key s ∙ ap (λ o. if s == seqno then overlaid o (latest (λ (write : Write). key_eq write.key key) ws) else o) put ∙ added_at (version_at m key s) w (key_eq w.key key) (s == seqno) _

-- taken back again
gone : (old more : Option Version) (b : Bool) → (b ≡ true → old ≡ None) → (if b then None else (if b then more else old)) ≡ old
gone old more true h = sym (h refl)
gone old more false h = refl

same_number : (a b : ℕ) → (b == a) ≡ true → a ≡ b
same_number a b e = grind (arith, nat_tests)

pub taken_back : AddIsTakenBack
taken_back seqno writes m n o none added back = same_kept o m (λ key s.
    back key s ∙ ap (λ x. if s == seqno then None else x) (added key s)
    ∙ gone (version_at m key s) _ (s == seqno) (λ e. subst (λ t. version_at m key t ≡ None) (same_number seqno s e) (none key)))
