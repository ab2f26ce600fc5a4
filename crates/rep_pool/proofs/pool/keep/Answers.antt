use Rattle.std.proofs.Common.{◌≡◌, ◌∙◌, refl, ap, sym, subst, Some, nat_eq}
use Rattle.std.specs.Map.{lookup, set_value}
use Rattle.std.specs.Option.{option_copied_mut}
use Rattle.lru.specs.LruCache.{promoted}
use Rattle.rep_pages.specs.declared.page.Page.{Page as PageBody}
use Rattle.rep_pool.specs.Pools.{IsKept}
use Rattle.rep_pool.proofs.Each.{over_kept}
use Rattle.rep_pool.proofs.pool.keep.Goals as goal

-- it was kept, of either slot
pub returns-in-Some-clause-kept : goal.returns-in-Some-clause-kept
returns-in-Some-clause-kept c =
    let is : lookup (nat_eq c.args.number) c.args.pages.now.entries ≡ Some c.in-Some.kept.now = sym c.get_mut.ensures.value ∙ ap option_copied_mut c.in-Some.is in
    subst
    (λ (page : PageBody). IsKept c.args.number (record { slot = c.args.slot; page = page }) c.args.pages.now.entries (set_value (nat_eq c.args.number) (promoted (nat_eq c.args.number) c.args.pages.now.entries) (record { slot = c.args.slot; page = c.replace.new.self })))
    c.replace.ensures (over_kept c.args.number (record { slot = c.args.slot; page = c.replace.new.self }) c.in-Some.kept.now c.args.pages.now c.args.pages.now.entries c.requires.cap refl is)
