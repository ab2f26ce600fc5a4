-- What is kept at each version, read off the entries of the map.
use Rattle.std.proofs.Common.{◌≡◌, ◌∙◌, refl, sym, ap, ℕ, Bool, cond, List, [], ◌∷◌, Option, Some, None}
use Rattle.std.specs.Ordering.{nat_cmp}
use Rattle.std.specs.Cmp.{IsTotalOrder, nat_cmp_total, eq_by_cmp_equiv}
use Rattle.std.specs.List.{filter}
use Rattle.std.proofs.lemmas.Cmp.{on_total, then_total}
use Rattle.std.proofs.lemmas.Map.Entries.{lookup-filter-keys}
use Rattle.std.proofs.lemmas.Map.Views.{tells_apart}
use Rattle.std.proofs.lemmas.Map.Lookups.{CmpEqualImpliesEq, exact_pairs, exact_unsigned}
use Rattle.std.specs.Map.{lookup}
use Rattle.std.specs.BTreeMap.{is_at}
use Rattle.std.specs.FinMap.{get, find, from_entries, insert, remove, get-from_entries, get-insert, get-remove, same_map}
use Rattle.rep_types.specs.declared.key.Key.{Key}
use Rattle.rep_types.specs.Keys.{key_cmp}
use Rattle.rep_versions.specs.declared.versions.VersionKey.{VersionKey}
use Rattle.rep_versions.specs.Versions.{version_cmp, version_at, Version, Kept}

pub exact_keys : CmpEqualImpliesEq key_cmp
exact_keys a b h = ap (λ (p : ℕ × ℕ). record { table = p.0; row = p.1 }) (exact_pairs nat_cmp nat_cmp exact_unsigned exact_unsigned (a.table, a.row) (b.table, b.row) h)

-- versions that compare alike are one
pub exact_versions : CmpEqualImpliesEq version_cmp
exact_versions a b h = ap (λ (p : Key × ℕ). record { key = p.0; seqno = p.1 }) (exact_pairs key_cmp nat_cmp exact_keys exact_unsigned (a.key, a.seqno) (b.key, b.seqno) h)

pub keys_total : IsTotalOrder key_cmp
keys_total = then_total (on_total (λ k. k.table) nat_cmp_total) (on_total (λ k. k.row) nat_cmp_total)

pub versions_total : IsTotalOrder version_cmp
versions_total = then_total (on_total (λ v. v.key) keys_total) (on_total (λ v. v.seqno) nat_cmp_total)

-- a version with its name, as the map has it
abbrev pub Stored : Type 0
Stored = VersionKey × Version

-- what a look-up in the entries finds
abbrev pub found_at : List Stored → VersionKey → Option Version
found_at es q = lookup (is_at (version_cmp q)) es

find_version : (es : List Stored) (q : VersionKey) → find version_cmp q es ≡ found_at es q
find_version [] q = refl
find_version (e ∷ es) q = ap (cond (is_at (version_cmp q) e.0) (Some e.1)) (find_version es q)

-- what the map that the entries make has at a version
pub get_version : (es : List Stored) (q : VersionKey) → get (from_entries {R = version_cmp} es) q ≡ found_at es q
get_version es q = get-from_entries versions_total es q ∙ find_version es q

-- two maps that have the same at each row and seqno are one
pub same_kept : (m n : Kept) → ((key : Key) (s : ℕ) → version_at m key s ≡ version_at n key s) → m ≡ n
same_kept m n h = same_map versions_total exact_versions m n (λ q. h q.key q.seqno)

-- entries that differ at one version make maps that differ there
pub one_put : (es fs : List Stored) (v : VersionKey) (w : Version) → ((q : VersionKey) → found_at fs q ≡ cond (is_at (version_cmp v) q) (Some w) (found_at es q))
    → from_entries {R = version_cmp} fs ≡ insert (from_entries es) v w
one_put es fs v w h = same_map versions_total exact_versions _ _ (λ q.
    get_version fs q ∙ h q ∙ ap (λ b. cond b (Some w) (found_at es q)) ((eq_by_cmp_equiv versions_total).symm v q)
    ∙ sym (get-insert versions_total (from_entries es) v w q ∙ ap (cond (is_at (version_cmp q) v) (Some w)) (get_version es q)))

pub one_gone : (es fs : List Stored) (v : VersionKey) → ((q : VersionKey) → found_at fs q ≡ cond (is_at (version_cmp v) q) None (found_at es q))
    → from_entries {R = version_cmp} fs ≡ remove (from_entries es) v
one_gone es fs v h = same_map versions_total exact_versions _ _ (λ q.
    get_version fs q ∙ h q ∙ ap (λ b. cond b None (found_at es q)) ((eq_by_cmp_equiv versions_total).symm v q)
    ∙ sym (get-remove versions_total (from_entries es) v q ∙ ap (cond (is_at (version_cmp q) v) None) (get_version es q)))

-- the entries that pass a test of their versions
pub kept_where : (p : VersionKey → Bool) (es fs : List Stored) → fs ≡ filter (λ e. p e.0) es → (q : VersionKey)
    → get (from_entries {R = version_cmp} fs) q ≡ cond (p q) (get (from_entries {R = version_cmp} es) q) None
kept_where p es fs h q =
    get_version fs q ∙ ap (λ xs. found_at xs q) h
    ∙ lookup-filter-keys (is_at (version_cmp q)) p (p q) (λ k t. ap p (sym (tells_apart exact_versions q k t))) es
    ∙ ap (λ o. cond (p q) o None) (sym (get_version es q))
