-- How a snapshot begins to come.
use Rattle.std.proofs.Common.{◌≡◌, refl, sym, subst, ◌∙◌, ℕ, ◌+◌, ◌<◌, ◌≤◌, ◌⊎◌, inl, inr, List, length, replicate, arith}
use Rattle.std.proofs.lemmas.Bool.{cases_lt}
use Rattle.std.proofs.lemmas.List.{get_or-replicate, get_or_past, length-replicate}
use Rattle.rep_types.specs.Windows.{Window as WindowOf}
use Rattle.rep_layout.specs.declared.super_body.SuperBody.{SuperBody}
use Rattle.rep_layout.specs.declared.page_state.PageState.TheVariants.{Nowhere}
use Rattle.rep_layout.specs.Supers.{IsSuper, IsNil}
use Rattle.rep_pages.specs.Slots.{state_of_page}
use Rattle.rep_checkpoint.specs.declared.stage.Stage.TheVariants.{Off}
use Rattle.rep_checkpoint.specs.Standing.{Standing}
use Rattle.rep_checkpoint.specs.Coming.{Coming, CanInstall, IsComing, coming, coming_super}
use Rattle.rep_checkpoint.specs.Installing.{BeginsToInstall}
use Rattle.rep_checkpoint.proofs.Beginning.{beside_as}

-- no page is in a slot of its superblock
none_there : (base : SuperBody) (uuid : List ℕ) (position start page : ℕ) → state_of_page (coming_super base uuid position start) page ≡ Nowhere
none_there base uuid position start page = elim (cases_lt page (length base.pages.items)) [
  | inl below ↦ get_or-replicate (length base.pages.items) page Nowhere Nowhere below
  | inr above ↦ get_or_past (replicate (length base.pages.items) Nowhere) page Nowhere (omega (arith, above, length-replicate (length base.pages.items) Nowhere))
]

-- it can follow the base
follows : (c : Standing) (uuid : List ℕ) (position start : ℕ) (window : WindowOf) → IsSuper c.base → CanInstall c uuid position start window → IsComing c.base (coming c.base uuid position start window).next
follows c uuid position start window super can = record {
  is_super = record {
    number = later can.later;
    uuid = can.sixteen;
    undefined = λ nil. absurd (can.defined nil);
    setting = super.setting;
    position = can.limit;
    start = can.started;
    pages = length-replicate (length c.base.pages.items) Nowhere ∙ super.pages;
  };
  number = refl;
  params = refl;
  defined = can.defined;
  is_window = can.is_window;
  none = refl;
  turned = λ page. inl (none_there c.base uuid position start page);
}
  where
    later : ((c.base.position < position) ⊎ IsNil c.base.uuid) → c.base.number + 1 ≤ position + 1
    later (inl above) = omega (arith, super.number, above)
    later (inr nil) = omega (arith, (super.undefined nil).0)

-- and stands beside it without a page
pub begins_to_come : (c : Standing) (uuid : List ℕ) (position start : ℕ) (window : WindowOf) (i : Coming) → IsSuper c.base → CanInstall c uuid position start window → i ≡ coming c.base uuid position start window → BeginsToInstall c i
begins_to_come c uuid position start window i super can is = subst (BeginsToInstall c) (sym is) begins
  where
    begins : BeginsToInstall c (coming c.base uuid position start window)
    begins size s x z stands = record {
      stands = stands.base;
      coming = follows c uuid position start window super can;
      position = refl;
      kept = refl;
      far = record {
        pages = λ number slot out there. let never = sym there ∙ none_there c.base uuid position start number in absurd cc;
        absent = λ key row nowhere. refl;
        outside = λ key none. refl;
      };
      cell = beside_as size c.base z s c.stage Off can.off stands.beside;
    }
