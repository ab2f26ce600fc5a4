-- What a sync comes to.
use Rattle.std.proofs.Common.{◌≡◌, ℕ, zero, suc, ◌≤◌, Bool, true, false, cond, List, [], length, None, Some, Result, Ok, Err, refl, sym, ap, subst, arith}
use Rattle.std.specs.Prelude.{OnOk, OnErr}
use Rattle.rep_disk.specs.Bytes.{Untouched}
use Rattle.rep_disk.specs.History.{History, Begins, Wrote, Spoiled, Synced, seen, stable, pending, failed, IsImage}
use Rattle.rep_disk.specs.Moments.{IsNext, Stays, Syncs as Synchronizes}
use Rattle.rep_disk.proofs.Images.{sync_narrows, length-seen, settled_image, seen_is_image}
use Rattle.rep_disk.proofs.Moments.{call_adds}
use Rattle.rep_layout.specs.declared.place.Layout.{Layout}
use Rattle.rep_layout.specs.declared.place.Place.{Place}
use Rattle.rep_layout.specs.Places.{body_len, gate_len, offset_of, gate_of, need_of}
use Rattle.rep_cells.specs.Readings.{is_open, body_of}
use Rattle.rep_cells.specs.States.{State, States, Unknown, Shutting, Closed, Filling, Filled, Opening, Opened, Closing, Pending, Stable, synced}
use Rattle.rep_cells.specs.Known.{Known, Assigns, found_as, found}
use Rattle.rep_cells.specs.Calls.{Settled}
use Rattle.rep_cells.proofs.Ranges.{gate_synced, gate_synced_again, body_synced, body_synced_again}
use Rattle.rep_cells.proofs.Kept.{known_kept, kept_allows, synced_narrows, synced_again}
use Rattle.rep_cells.proofs.Fitting.{gate_fits}

-- a state after a sync
sync_known : (l : Layout) (h : History) (place : Place) (state : State) → gate_of l place ≤ length (stable h) → Known l h place state → Known l (Synced h) place (synced state)
sync_known l h place Unknown fits k = tt
sync_known l h place Shutting fits k = gate_synced l h place false k
sync_known l h place Closed fits k = gate_synced_again l h place false k
sync_known l h place (Filling body) fits k = (gate_synced_again l h place false k.0, body_synced l h place body k.1)
sync_known l h place (Filled body) fits k = (gate_synced_again l h place false k.0, body_synced_again l h place body fits k.1)
sync_known l h place (Opening body) fits k = (gate_synced l h place true k.0, body_synced_again l h place body fits k.1)
sync_known l h place (Opened body) fits k = (gate_synced_again l h place true k.0, body_synced_again l h place body fits k.1)
sync_known l h place (Closing body) fits k = gate_synced l h place false k.0
sync_known l h place (Pending body) fits k = (k.0, body_synced l h place body k.1)
sync_known l h place (Stable body) fits k = (k.0, body_synced_again l h place body fits k.1)

-- the states after a sync
pub sync_settles : {T E : Type 0} → (l : Layout) (h new : History) (s : States) (result : Result T E) → Assigns l h s → OnOk result (new ≡ Synced h) → OnErr result (new ≡ h) → Settled l h new s result
sync_settles {T} {E} l h new s result is done failed = record {
  after = λ q. synced (s q);
  syncs = λ q. refl;
  reaches = record {
    ok = succeeds result done;
    images = λ image of place there. kept_allows l h place (s place) image (gate_fits l h s place is there) (known_kept l h place (s place) (is.places place there)) (before result done failed image of);
    moments = call_adds h new (one_call result done failed);
  };
  stay = stays result failed;
  fewer = before result done failed;
  narrows = λ q. synced_narrows (s q);
  again = λ q. sym (synced_again (s q));
}
  where
    succeeds : (r : Result T E) → OnOk r (new ≡ Synced h) → OnOk r (Assigns l new (λ q. synced (s q)))
    succeeds (Ok x) e = subst (λ (g : History). Assigns l g (λ q. synced (s q))) (sym e) (record {
      fits = omega (arith, is.fits, length-seen h);
      places = λ place there. sync_known l h place (s place) (gate_fits l h s place is there) (is.places place there);
      readable = λ place there sure. (tt, tt);
    })
    succeeds (Err x) e = tt

    stays : (r : Result T E) → OnErr r (new ≡ h) → OnErr r (Assigns l new s)
    stays (Ok x) e = tt
    stays (Err x) e = subst (λ (g : History). Assigns l g s) (sym e) is

    before : (r : Result T E) → OnOk r (new ≡ Synced h) → OnErr r (new ≡ h) → (image : List ℕ) → IsImage new image → IsImage h image
    before (Ok x) e f image of = sync_narrows h image (subst (λ (g : History). IsImage g image) e of)
    before (Err x) e f image of = subst (λ (g : History). IsImage g image) f of

    one_call : (r : Result T E) → OnOk r (new ≡ Synced h) → OnErr r (new ≡ h) → IsNext h new
    one_call (Ok x) e f = subst (λ (g : History). IsNext h g) (sym e) Synchronizes
    one_call (Err x) e f = subst (λ (g : History). IsNext h g) (sym f) Stays

-- a place as its stable bytes show it, where nothing is pending
found_known : (l : Layout) (h : History) (place : Place) (n : ℕ) (wide : Bool) → ((at m : ℕ) → Untouched (pending h) at m) → gate_len place ≡ n → is_open l place (stable h) ≡ wide → Known l h place (found_as n (cond wide (Some (body_of l place (stable h))) None))
found_known l h place zero true apart none e = (none, (apart (offset_of l place) (body_len place), refl))
found_known l h place zero false apart none e = (apart (gate_of l place) (gate_len place), e)
found_known l h place (suc n) true apart some e = ((apart (gate_of l place) (gate_len place), e), (apart (offset_of l place) (body_len place), refl))
found_known l h place (suc n) false apart some e = (apart (gate_of l place) (gate_len place), e)

-- where nothing is pending nothing has failed
none_failed : (h : History) → pending h ≡ [] → failed h ≡ []
none_failed (Begins bytes) none = refl
none_failed (Wrote at bytes h) none = let more : suc (length (pending h)) ≡ 0 = ap length none in absurd (omega (arith, more))
none_failed (Spoiled at junk h) none = let more : suc (length (pending h)) ≡ 0 = ap length none in absurd (omega (arith, more))
none_failed (Synced h) none = refl

-- the states that a device shows on which nothing is pending
pub found_assigns : (l : Layout) (h : History) → need_of l ≤ length (stable h) → pending h ≡ [] → Assigns l h (found l (seen h))
found_assigns l h fits none =
    let apart : (at m : ℕ) → Untouched (pending h) at m = λ at m. rw none tt in
    let same : stable h ≡ seen h = sym (settled_image h (seen h) none (seen_is_image h)) in
    subst (λ (bytes : List ℕ). Assigns l h (found l bytes)) same (record {
      fits = fits;
      places = λ place there. found_known l h place (gate_len place) (is_open l place (stable h)) apart refl refl;
      readable = λ place there sure. rw (none_failed h none) (tt, tt);
    })

-- and so after a first sync
pub synced_found : {T E : Type 0} → (l : Layout) (h new : History) (result : Result T E) → need_of l ≤ length (stable h) → OnOk result (new ≡ Synced h) → OnOk result (Assigns l new (found l (seen h)))
synced_found l h new (Ok x) fits e = subst (λ (g : History). Assigns l g (found l (seen h))) (sym e) (found_assigns l (Synced h) (omega (arith, fits, length-seen h)) refl)
synced_found l h new (Err x) fits e = tt
