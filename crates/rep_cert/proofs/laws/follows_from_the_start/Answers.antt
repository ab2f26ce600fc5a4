use Rattle.std.proofs.Common.{[], ◌∷◌, ap}
use Rattle.rep_cert.proofs.Following.{window_form, reaches_as_window, made_at_window, Follows-made_at}
use Rattle.rep_cert.proofs.laws.follows_from_the_start.Goals as goal

pub returns : goal.returns
returns c = record { form = window_form; whole = made_at_window; reaches = λ p L. ap (λ r. r ∷ []) (reaches_as_window p L); follows = Follows-made_at }
