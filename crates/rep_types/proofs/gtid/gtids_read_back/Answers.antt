use Rattle.std.proofs.Common.{◌≡◌, ℕ, List, Some, Ok, subst, ap, ◌∙◌}
use Rattle.uuid.specs.Text.{lower, hyphenated_text, parsed}
use Rattle.rep_types.specs.Gtids.{Gtid, gtid_in, gtid_text}
use Rattle.rep_types.proofs.Gtids.{gtid_back}
use Rattle.rep_types.proofs.gtid.gtids_read_back.Goals as goal

pub returns : goal.returns
returns c =
    let P : Gtid → Type 0 = λ g. gtid_in (gtid_text g) ≡ Ok g in
    let Q : List ℕ → Type 0 = λ u. Some u ≡ parsed (hyphenated_text lower u) in
    subst P c.gtid.view_is
    (gtid_back (record { uuid = c.gtid.inside.uuid; seqno = c.gtid.inside.seqno })
    (subst Q c.hyphenated.ensures (c.encode_lower-text.ensures.parsed ∙ ap parsed c.encode_lower-text.ensures.text)) c.gtid.invariant)
