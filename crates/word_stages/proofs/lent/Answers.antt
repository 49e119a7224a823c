use mathlib.Core.Path.{◌≡◌, refl, ap, ◌∙◌}
use Prim.Native.Nat.{◌+◌, ◌-◌, ◌*◌}
use native.Mathlib.Omega.{arith}
use Rattle.rules.specs.Numbers.{children_of}
use Rattle.places.specs.Shapes.{shape_of}
use Rattle.places.proofs.Ranges.{children_same}
use Rattle.lending.proofs.Lending.{lent_back, not_lent}
use Rattle.word_stages.proofs.lent.Goals as goal

pub returns-then-words-end : goal.returns-then-words-end
returns-then-words-end g c = λ f h. not_lent _ _ _ f _ (ap (λ n. 8 * n) (c.children_of.ensures ∙ children_same c.args.shape _)) c.if-words-end.true

pub returns : goal.returns
returns g c = λ f h.
    let e = ap (λ n. 8 * n) (c.children_of.ensures ∙ children_same c.args.shape c.args.tree.0) in
    let s : 8 * (c.args.tree.0 * 32) + 8 * c.children_of.result - 8 * (c.args.tree.0 * 32) ≡ 8 * children_of (shape_of c.args.shape) c.args.tree.0 = omega arith in
    lent_back _ _ _ f _ e c.if-words-end.false (rw s (h _ _ (record { shown = _; shows = rw s refl; left = _; met = c.f.ensures; leaves = refl })))
