use Rattle.std.proofs.Common.{◌∙◌, sym, ap, subst}
use Rattle.rep_follow.specs.Committing.{BringNothing, accepted_in}
use Rattle.rep_service.proofs.service.followers_are_fed.Goals as goal

pub returns : goal.returns
returns g c = λ O life position new text behind before after closing result f begins of is. record {
  position = position;
  lines = f.lines;
  most = f.most;
  begins = begins;
  of = of;
  own = subst BringNothing (sym is) f.lives.follows.own;
  are = ap accepted_in is ∙ f.lives.follows.accepted ∙ f.are;
}
