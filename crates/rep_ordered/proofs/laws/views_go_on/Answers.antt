use Rattle.rep_ordered.specs.GoingLaws.{goes_same, goes_on, goes_later, goes_claimed, goes_entered, goes_left, goes_gave_up, goes_through, goes_gone, goes_shared, sees_left}
use Rattle.std.proofs.Common.{List, sym, ap, subst}
use Rattle.rep_ordered.specs.declared.view.View.{View}
use Rattle.rep_ordered.specs.Views.{Sees}
use Rattle.rep_ordered.proofs.laws.views_go_on.Goals as goal

pub returns : goal.returns
returns g c = record {
  same = goes_same;
  on = goes_on;
  later = goes_later;
  claimed = goes_claimed;
  entered = λ j number kind v w x e. goes_entered (g.V.Keeps.legal v.first) (g.V.Keeps.at_home v.first) g.V.Keeps.durable_of g.V.Keeps.common_of j number kind v w x e;
  left = goes_left;
  gave_up = goes_gave_up;
  through = λ j number kind n d c entry v w l u x e later left. goes_through (g.V.Keeps.legal v.first) (g.V.Keeps.at_home v.first) g.V.Keeps.durable_of g.V.Keeps.common_of j number kind n d c entry v w l u x e later left;
  gone = λ j number kind n d c y v w l u x e later left. goes_gone (g.V.Keeps.legal v.first) (g.V.Keeps.at_home v.first) g.V.Keeps.durable_of g.V.Keeps.common_of j number kind n d c y v w l u x e later left;
  shared = λ give v a b a' b' u less split gave first second joined. goes_shared (g.V.Keeps.legal a'.first) give v a b a' b' u less split gave first second joined;
  sees = λ j n d c v w sees left. subst (λ (fs : List g.row.V.Denot). Sees (g.V.Keeps.legal fs) w) (sym (ap (λ (z : View g.row.V.Denot g.row.E.Denot). z.first) left)) (sees_left (g.V.Keeps.legal v.first) j n d c v w sees left);
}
