use Rattle.std.proofs.Common.{inl, inr}
use Rattle.rep_cells.proofs.laws.moments_read_as_allowed.Goals as goal

pub returns : goal.returns
returns c = λ l old new during after result reaches. record {
  later = reaches.moments.later;
  since = λ t image late is. elim (reaches.moments.since t image late is) [ inl before ↦ inl before | inr now ↦ inr (reaches.images image now) ];
}
