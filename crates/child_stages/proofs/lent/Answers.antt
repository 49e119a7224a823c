use mathlib.Core.Path.{◌≡◌, refl, ◌∙◌}
use Prim.Native.Nat.{◌+◌, ◌-◌, ◌*◌}
use native.Mathlib.Omega.{arith}
use Rattle.rules.specs.Numbers.{children_of}
use Rattle.places.specs.Shapes.{shape_of}
use Rattle.places.proofs.Ranges.{children_same}
use Rattle.lending.proofs.Lending.{lent_back, not_lent}
use Rattle.child_stages.proofs.lent.Goals as goal

pub returns-then-children-end : goal.returns-then-children-end
returns-then-children-end g c = λ f h. not_lent _ _ _ f _ (c.children_of.ensures ∙ children_same c.args.shape _) c.if-children-end.true

pub returns : goal.returns
returns g c = λ f h.
    let e = c.children_of.ensures ∙ children_same c.args.shape c.args.tree.0 in
    let s : c.args.tree.0 * 32 + c.children_of.result - c.args.tree.0 * 32 ≡ children_of (shape_of c.args.shape) c.args.tree.0 = omega arith in
    lent_back _ _ _ f _ e c.if-children-end.false (rw s (h _ _ (record { shown = _; shows = rw s refl; left = _; met = c.f.ensures; leaves = refl })))
