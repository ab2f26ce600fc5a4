use Rattle.std.proofs.Common.{◌≡◌, List, ℕ, Some, eqb, drop, length, refl, sym, ap, ◌∙◌, true, ◌++◌}
use Rattle.std.proofs.lemmas.Bool.Decides.{Decides-eqb}
use Rattle.std.proofs.lemmas.List.{take_rest, drop_at}
use Rattle.std.proofs.lemmas.Slice.Eq.{starts_is}
use Rattle.std.specs.List.{starts_with}
use Rattle.rep_forms.proofs.numbers.strip_front.Goals as goal

pub returns-then-not-starts_with : goal.returns-then-not-starts_with
returns-then-not-starts_with c =
    let begins = starts_is Decides-eqb c.args.bytes.now c.args.front.now (starts_with eqb c.args.bytes.now c.args.front.now) refl in
    record {
      found = tt;
      only = λ rest e. let yes = begins.1 rest e in absurd cc;
    }

pub returns : goal.returns
returns c =
    let begins = starts_is Decides-eqb c.args.bytes.now c.args.front.now (starts_with eqb c.args.bytes.now c.args.front.now) refl in
    let yes : starts_with eqb c.args.bytes.now c.args.front.now ≡ true = sym c.starts_with.ensures.value ∙ c.if-not-starts_with.false in
    let rest_is = take_rest c.args.bytes.now (length c.args.front.now) in
    record {
      found = begins.0 yes ∙ ap (λ (rest : List ℕ). c.args.front.now ++ rest) (sym rest_is);
      only = λ rest e. ap Some (rest_is ∙ ap (drop (length c.args.front.now)) e ∙ drop_at c.args.front.now rest (length c.args.front.now) refl);
    }
