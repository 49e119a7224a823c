use mathlib.Core.Path.{◌≡◌, refl}
use Rattle.std.proofs.Common.{rules}
use Rattle.rules.specs.Step.{step}
use Rattle.calls.specs.Results.{zone}
use Rattle.calls.proofs.Runs.{handed_back, calls_follow}
use Rattle.runs.specs.contracts.fn.step_on.step as closure
use Rattle.runs.proofs.step_on.Goals as goal

pub returns : goal.returns
returns c =
    let q = calls_follow _ _ _ _ _ _ _ c.follow.ensures
    (λ s. let x = closure.captures s in zone x.header.now x.words.now x.children.now x.trees.now x.cpus.now)
    (λ s t. let x = closure.captures s in let y = closure.captures t in (y.header.now ≡ x.header.now) × (y.words.ghost_name ≡ x.words.ghost_name) × (y.children.ghost_name ≡ x.children.ghost_name) × (y.trees.ghost_name ≡ x.trees.ghost_name) × (y.cpus.ghost_name ≡ x.cpus.ghost_name))
    step
    (refl, refl, refl, refl, refl)
    (λ f r b g i m. (search rules, (search rules, search rules, search rules, search rules, search rules))) in
    let w : c.follow.new.step.1.ghost_name ≡ _ = q.1.1 in
    let d : c.follow.new.step.2.ghost_name ≡ _ = q.1.2 in
    let t : c.follow.new.step.3.ghost_name ≡ _ = q.1.3 in
    let p : c.follow.new.step.4.ghost_name ≡ _ = q.1.4 in
    handed_back q.0 (search rules) (search rules) (search rules) (search rules) (search rules)
