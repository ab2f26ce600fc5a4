use Rattle.std.proofs.Common.{◌≡◌, ap, sym, ◌∙◌, arith}
use Rattle.std.proofs.lemmas.Option.{same_Some}
use Rattle.rep_forms.specs.Forms.{are_blank}
use Rattle.rep_types.specs.declared.reach.Reach.{Reach}
use Rattle.rep_layout.proofs.Windows.{filling, says, begins, tells_reach, read_is, same_window}
use Rattle.rep_layout.proofs.window_reader.read_window.Goals as goal
use Rattle.rep_layout.proofs.window_reader.read_window.Goals.{then-bytes-ne-WINDOW_BODY-via-then-bytes-ne-WINDOW_BODY, then-bytes-ne-WINDOW_BODY-via-else-bytes-ne-WINDOW_BODY+then-from-get}

pub returns-in_err-head-clause-only : goal.returns-in_err-head-clause-only
returns-in_err-head-clause-only c = λ w h e.
    let s = says c.window-span.ensures.limits h e in
    let read = (c.in_err-head.ensures).only _ _ s.fits s.there in
    absurd cc

pub returns-in_err-reach-clause-only : goal.returns-in_err-reach-clause-only
returns-in_err-reach-clause-only c = λ w h e.
    let b = begins (says c.window-span.ensures.limits h e) c.in_ok-head.ensures in
    let t = tells_reach h b in
    let read = (c.in_err-reach.ensures).only w.kept t.size t.said t.tells_size t.tells_floor in
    absurd cc

pub returns-then-bytes-ne-WINDOW_BODY-clause-only : goal.returns-then-bytes-ne-WINDOW_BODY-clause-only
returns-then-bytes-ne-WINDOW_BODY-clause-only c = λ w h e.
    let s = says c.window-span.ensures.limits h e in
    let b = begins s c.in_ok-head.ensures in
    let t = tells_reach h b in
    let read = (c.in_ok-reach.ensures).only w.kept t.size t.said t.tells_size t.tells_floor in
    let span : c.in_ok-reach.reach.size ≡ w.kept.size = ap (λ (r : Reach). r.size) (same_Some _ _ read) in
    absurd (elim c.then-bytes-ne-WINDOW_BODY.branch [
      | then-bytes-ne-WINDOW_BODY-via-then-bytes-ne-WINDOW_BODY b ↦ b.if-bytes-ne-WINDOW_BODY.true s.size
      | then-bytes-ne-WINDOW_BODY-via-else-bytes-ne-WINDOW_BODY+then-from-get b ↦ omega (arith, t.count, span, h.kept.few, b.from.ensures, b.get.ensures.seqnos, b.if-from-get.true)
    ])

pub returns-then-not-is_reach-clause-only : goal.returns-then-not-is_reach-clause-only
returns-then-not-is_reach-clause-only c = λ w h e.
    let b = begins (says c.window-span.ensures.limits h e) c.in_ok-head.ensures in
    let t = tells_reach h b in
    let read = (c.in_ok-reach.ensures).only w.kept t.size t.said t.tells_size t.tells_floor in
    let span : c.in_ok-reach.reach.size ≡ w.kept.size = ap (λ (r : Reach). r.size) (same_Some _ _ read) in
    let low : c.in_ok-reach.reach.floor ≡ w.kept.floor = ap (λ (r : Reach). r.floor) (same_Some _ _ read) in
    let yes = c.is_reach.ensures.only w.kept.entries (rw (span, low) t.said) (rw (span, low) t.least) (rw low t.most) in
    absurd cc

pub returns-in_default-clause-only : goal.returns-in_default-clause-only
returns-in_default-clause-only c = λ w h e.
    let b = begins (says c.window-span.ensures.limits h e) c.in_ok-head.ensures in
    let t = tells_reach h b in
    let read = (c.in_ok-reach.ensures).only w.kept t.size t.said t.tells_size t.tells_floor in
    let low : c.in_ok-reach.reach.floor ≡ w.kept.floor = ap (λ (r : Reach). r.floor) (same_Some _ _ read) in
    absurd ((c.in_default.ensures).only w.kept.entries (filling w) (rw low b.chain))

pub returns-then-not-are_blank-clause-only : goal.returns-then-not-are_blank-clause-only
returns-then-not-are_blank-clause-only c = λ w h e.
    let s = says c.window-span.ensures.limits h e in
    let b = begins s c.in_ok-head.ensures in
    let t = tells_reach h b in
    let read = (c.in_ok-reach.ensures).only w.kept t.size t.said t.tells_size t.tells_floor in
    let low : c.in_ok-reach.reach.floor ≡ w.kept.floor = ap (λ (r : Reach). r.floor) (same_Some _ _ read) in
    let rest = (c.in-Ok.ensures).only w.kept.entries (filling w) (rw low b.chain) in
    let blank = ap are_blank rest.1 ∙ s.blank in
    absurd cc

pub returns-clause-found : goal.returns-clause-found
returns-clause-found c =
    let front = (c.in_ok-head.ensures).found in
    let told = (c.in_ok-reach.ensures).found in
    read_is (omega arith) front.0 front.1 (omega (arith, c.from.ensures, c.get.ensures.seqnos, c.if-from-get.false)) told.0 told.1 (c.is_reach.ensures.said _ c.if-not-is_reach.false) c.is_reach.ensures.size
    (c.is_reach.ensures.least c.if-not-is_reach.false) (c.is_reach.ensures.most c.if-not-is_reach.false) (c.in-Ok.ensures).found (sym c.are_blank.ensures ∙ c.if-not-are_blank.false)

pub returns-clause-only : goal.returns-clause-only
returns-clause-only c = λ w h e.
    let b = begins (says c.window-span.ensures.limits h e) c.in_ok-head.ensures in
    let t = tells_reach h b in
    let read = (c.in_ok-reach.ensures).only w.kept t.size t.said t.tells_size t.tells_floor in
    let span : c.in_ok-reach.reach.size ≡ w.kept.size = ap (λ (r : Reach). r.size) (same_Some _ _ read) in
    let low : c.in_ok-reach.reach.floor ≡ w.kept.floor = ap (λ (r : Reach). r.floor) (same_Some _ _ read) in
    let rest = (c.in-Ok.ensures).only w.kept.entries (filling w) (rw low b.chain) in
    same_window b span low rest.0
