use mathlib.Core.Path.{sym, ap}
use Rattle.rules.specs.Blocks.{run_size}
use Rattle.rules.proofs.Run.frames.Goals as goal

pub returns-in-One : goal.returns-in-One
unfolding run_size
returns-in-One c = sym (ap run_size c.in-One.is)

pub returns-in-Two : goal.returns-in-Two
unfolding run_size
returns-in-Two c = sym (ap run_size c.in-Two.is)

pub returns-in-Four : goal.returns-in-Four
unfolding run_size
returns-in-Four c = sym (ap run_size c.in-Four.is)

pub returns-in-Eight : goal.returns-in-Eight
unfolding run_size
returns-in-Eight c = sym (ap run_size c.in-Eight.is)

pub returns-in-Sixteen : goal.returns-in-Sixteen
unfolding run_size
returns-in-Sixteen c = sym (ap run_size c.in-Sixteen.is)

pub returns-in-ThirtyTwo : goal.returns-in-ThirtyTwo
unfolding run_size
returns-in-ThirtyTwo c = sym (ap run_size c.in-ThirtyTwo.is)

pub returns-in-SixtyFour : goal.returns-in-SixtyFour
unfolding run_size
returns-in-SixtyFour c = sym (ap run_size c.in-SixtyFour.is)
